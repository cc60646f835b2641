-- Under which premises a message that began is told: what is shown of its first answer, that it gives no control away, and that it isn't abandoned.
use Rattle.std.specs.Prelude.{◌≡◌, ◌⊎◌, ℕ, suc, true, false, List, Option, Some, None}
use Rattle.bus_base.specs.declared.samples.Part.TheVariants.{First}
use Rattle.bus_formats.specs.Plans.{StationData}
use Rattle.bus_formats.specs.Readings.{read_answer}
use Rattle.bus_formats.specs.declared.form.Outcome.{Outcome}
use Rattle.bus_formats.specs.declared.form.Reading.TheVariants.{Ends}
use Rattle.bus_formats.specs.declared.plan.Kind.{Kind}
use Rattle.bus_model.specs.Attempts.{is_offer}
use Rattle.bus_model.specs.Endings.{abandoned_at}
use Rattle.bus_model.specs.Message.{Present}
use Rattle.bus_model.specs.Starts.{Entry}
use Rattle.bus_model.specs.Strikes.{burst_end, ShownAnswer}
use Rattle.bus_law_phases.specs.Commands.{begun_at, command_at}
use Rattle.bus_law_phases.specs.Scenarios.{Scenario, driven_at, commands_in}
pub use Rattle.bus_law_moments.specs.Told.{message_at}
use Rattle.bus_law_told.specs.Tables.{IsRefusal, first_shown}

-- a first answer to an offer of control that accepts none, and is read so that the offer is refused
pub record Refuses (kind : Kind) (first : ShownAnswer) : Type 0 where
  pub offers : is_offer kind ≡ true
  pub declines : first.sent.acceptance ≡ false
  pub outcome : Outcome
  pub status : Option ℕ
  pub reading : read_answer kind First first.burst.slots first.burst.rest ≡ Ends outcome status
  pub refuses : IsRefusal outcome

module _ (w : Scenario) (t : ℕ) (holder : StationData) (stations : List Present) (entry : Entry) where
  -- what is shown of the first answer to the message that begins in tick t, by these stations: attempts are counted as commands are
  abbrev pub answer_shown : Option ShownAnswer
  answer_shown =
      first_shown w.lag w.loads w.plan.faults (suc (commands_in w (driven_at w t))) entry.item (begun_at w t t holder entry).state.channel t stations

  -- nothing is shown of it, or the message doesn't offer control
  abbrev pub GivesNoControl : Type 0
  GivesNoControl = (answer_shown ≡ None) ⊎ (is_offer entry.item.kind ≡ false)

  -- the message isn't abandoned while it is sent
  abbrev pub IsNotAbandoned : Type 0
  IsNotAbandoned =
      (first : ShownAnswer) → answer_shown ≡ Some first →
      abandoned_at w.lag entry.item.kind entry.item.abandon (burst_end (command_at w t t holder entry)) first ≡ None
