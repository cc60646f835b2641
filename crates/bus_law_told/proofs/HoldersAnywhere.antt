-- The station in control beside an answer on a channel that is that of its message.
use Rattle.std.proofs.Common.{◌≡◌, ℕ, List, Option, Some}
use Rattle.bus_base.specs.declared.samples.Channel.{Channel}
use Rattle.bus_base.specs.declared.samples.Pair.{Pair}
use Rattle.bus_base.specs.declared.samples.Part.TheVariants as parts
use Rattle.bus_line.specs.Channels.{on_channel}
use Rattle.bus_line.specs.Past.{Burst}
use Rattle.bus_formats.specs.Plans.{StationData}
use Rattle.bus_formats.specs.declared.form.Outcome.{Outcome}
use Rattle.bus_formats.specs.declared.form.Outcome.TheVariants.{Clear}
use Rattle.bus_formats.specs.declared.form.Reading.TheVariants.{Good, Ends}
use Rattle.bus_model.specs.Attempts.{Begun, Ended, without_words}
use Rattle.bus_law_stations.specs.Silence.{AwaitsSecond}
use Rattle.bus_law_phases.specs.Answers.{HoldsBeside}
use Rattle.bus_law_phases.specs.Scenarios.{Scenario}
use Rattle.bus_law_told.specs.Holders.{answer_read, IsAnsweredInTime, closed_with}
use Rattle.bus_law_told.proofs.HoldersBeside as own
use Rattle.bus_law_told.proofs.HoldersBeside.{on-own}

module _ (w : Scenario) (past : List Pair) (holder : StationData) (c : Channel) (begun : Begun) (e : ℕ) (burst : Burst)
    (so : IsAnsweredInTime w past holder c begun e) where
  -- how its message ends, with the tick in which the end of the answer is known
  abbrev ClosesOn : Channel → Ended → Type 0
  ClosesOn d ended = HoldsBeside w past holder d burst (closed_with w past holder d begun burst ended)

  -- the second answer ends the message
  pub second-ends : (waits : AwaitsSecond w.lag begun (on_channel c past) e) (outcome : Outcome) (second : Option ℕ) →
      answer_read begun parts.Second burst ≡ Ends outcome second →
      HoldsBeside w past holder c burst (closed_with w past holder c begun burst (without_words outcome (Some waits.status) second))
  second-ends waits outcome second reads =
      on-own w past holder begun e
      (λ d. (awaits : AwaitsSecond w.lag begun (on_channel d past) e) → ClosesOn d (without_words outcome (Some awaits.status) second)) c so
      (λ here awaits. own.second-ends w past holder begun e here awaits burst outcome second reads) waits

  -- so does a good one
  pub second-clear : (waits : AwaitsSecond w.lag begun (on_channel c past) e) (second : ℕ) → answer_read begun parts.Second burst ≡ Good second →
      HoldsBeside w past holder c burst (closed_with w past holder c begun burst (without_words Clear (Some waits.status) (Some second)))
  second-clear waits second reads =
      on-own w past holder begun e
      (λ d. (awaits : AwaitsSecond w.lag begun (on_channel d past) e) → ClosesOn d (without_words Clear (Some awaits.status) (Some second))) c so
      (λ here awaits. own.second-clear w past holder begun e here awaits burst second reads) waits
