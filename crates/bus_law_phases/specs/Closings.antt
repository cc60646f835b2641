-- The end of a message between two moments: an awaited answer that never comes, and what a closed message leaves.
use Rattle.std.proofs.Common.{inl, inr}
use Rattle.std.specs.Prelude.{◌≡◌, ◌⊎◌, ℕ, ◌+◌, ◌≤◌, true, false, List, [], ◌∷◌, map, Some, None}
use Rattle.std.specs.List.{All}
use Rattle.bus_base.specs.declared.samples.Pair.{Pair}
use Rattle.bus_base.specs.declared.samples.Part.{Part}
use Rattle.bus_base.specs.declared.samples.Part.TheVariants.{First, Second}
use Rattle.bus_base.specs.declared.samples.Sample.{Sample}
use Rattle.bus_line.specs.Channels.{on_channel}
use Rattle.bus_formats.specs.Plans.{StationData}
use Rattle.bus_formats.specs.Times.{no_response}
use Rattle.bus_formats.specs.declared.form.Outcome.TheVariants.{NoResponse}
use Rattle.bus_retry.specs.Retries.{next_of}
use Rattle.bus_model.specs.Attempts.{Begun, Ended, without_words, recorded}
use Rattle.bus_model.specs.Course.{Course, gives, close, quiet_from}
use Rattle.bus_model.specs.Message.{Present, After}
use Rattle.bus_model.specs.Orders.{free}
use Rattle.bus_model.specs.Run.{with_station, after_attempt}
use Rattle.bus_model.specs.Standing.{is_owed}
use Rattle.bus_model.specs.Starts.{finishes}
use Rattle.bus_model.specs.Strikes.{ShownBurst, burst_end}
use Rattle.bus_law_stations.specs.Silence.{AwaitsFirst, AwaitsSecond}
use Rattle.bus_law_phases.specs.Passages.{Happening}
use Rattle.bus_law_phases.specs.Scenarios.{Scenario, trace_at, shown_at, course_of}
use Rattle.bus_law_phases.specs.Moments.{Underway}

-- the entry of the table for this station has the items left and the live channel of a course
abbrev pub HasItemsOf : StationData → Course → After → Type 0
HasItemsOf holder c after = after.station.plan ≡ holder → (after.station.left ≡ c.left) × (after.station.live ≡ c.live)

-- ---- an answer that never comes (no-response time-out, MIL-STD-1553B 4.3.3.9)

-- the message that runs waits for its first answer, or for a relay's second one, since the burst before it ended in tick e
pub record AwaitsAnswer (w : Scenario) (past : List Pair) (holder : StationData) (begun : Begun) (e : ℕ) : Type 0 where
  pub runs : (course_of w holder past).runs ≡ Some begun
  pub waits : AwaitsFirst w.lag begun (on_channel begun.state.channel past) e ⊎ AwaitsSecond w.lag begun (on_channel begun.state.channel past) e

-- how it ends without that answer: of a relay's second one the status of the first is kept
abbrev pub unanswered : (k : ℕ) (begun : Begun) (past : List Sample) (e : ℕ) → (AwaitsFirst k begun past e ⊎ AwaitsSecond k begun past e) → Ended
unanswered k begun past e (inl first) = without_words (NoResponse First) None None
unanswered k begun past e (inr second) = without_words (NoResponse Second) (Some second.status) None

-- from tick t on the answer to this burst, which ended with it, doesn't come: the station in control waits for it, nobody owes one, and both channels
-- have been quiet since the burst
pub record StaysUnanswered (w : Scenario) (t place : ℕ) (holder : StationData) (part : Part) (burst : ShownBurst) (afters : List After)
    (begun : Begun) : Type 0 where
  pub moment : Underway w (trace_at w t) place holder burst.channel (burst_end burst) part afters
  pub unowed : All (λ after. is_owed after.duty ≡ false) afters
  pub awaits : AwaitsAnswer w (shown_at w t) holder begun (burst_end burst)
  pub early : t ≤ burst_end burst + no_response
  pub quiet : quiet_from (shown_at w t) ≡ burst_end burst
  -- its entry of the table has its items left and its live channel
  pub items : All (HasItemsOf holder (course_of w holder (shown_at w t))) afters

-- ---- a message that is closed

-- the attempt of this station ended so in this tick, and nothing else came to pass
abbrev pub attempt_ends : StationData → Begun → Ended → ℕ → Happening
attempt_ends holder begun ended tick = record {
  blocks = [];
  bursts = [];
  attempts = recorded holder.terminal.address begun ended tick (finishes (next_of begun.entry.item begun.state ended.outcome)) ∷ [];
  commands = 0;
}

-- a message of the station in control, whose course was this one before, ended so in this tick: control stays in its hands, and no terminal owes
-- or promises anything
pub record IsClosed (w : Scenario) (past : List Pair) (holder : StationData) (before : Course) (begun : Begun) (ended : Ended) (tick : ℕ)
    (afters : List After) : Type 0 where
  pub held : before.holds ≡ true
  pub closes : course_of w holder past ≡ close before begun ended tick
  pub keeps : gives ended.outcome ≡ false
  pub duties : All (λ after. after.duty ≡ free) afters
  pub items : All (HasItemsOf holder before) afters

-- the stations of the table after that attempt
abbrev pub stations_closed : StationData → Begun → Ended → List After → List Present
stations_closed holder begun ended afters =
    with_station holder.terminal.address (after_attempt begun ended.outcome (next_of begun.entry.item begun.state ended.outcome))
    (map (λ after. after.station) afters)
