-- A first answer that accepts no control, and isn't abandoned.
use Rattle.std.proofs.Common.{◌≡◌, inl, inr, ℕ, false, List, Some}
use Rattle.bus_formats.specs.Forms.{answers_of}
use Rattle.bus_formats.specs.Plans.{StationData}
use Rattle.bus_formats.specs.declared.form.Shape.{Shape}
use Rattle.bus_model.specs.Message.{Present}
use Rattle.bus_model.specs.Starts.{Entry}
use Rattle.bus_model.specs.Strikes.{ShownAnswer}
use Rattle.bus_law_phases.specs.Scenarios.{Scenario}
use Rattle.bus_law_told.specs.Tables.{first_shown, IsHeardOut}
use Rattle.bus_law_told.proofs.FirstShown.{shown-so}
use Rattle.bus_law_told.proofs.Known.{BeginsKept, begun, attempt_begun, control-kept, heard-out}

module _ (w : Scenario) (t place : ℕ) (holder : StationData) (stations : List Present) (entry : Entry) (b : BeginsKept w t place holder stations entry)
    (shape : Shape) (expects : (answers_of entry.item.kind).first ≡ Some shape) (first : ShownAnswer)
    (shows : first_shown w.lag w.loads w.plan.faults (attempt_begun w t holder stations entry) entry.item (begun w t holder stations entry).state.channel t
    stations ≡ Some first) where
  -- the message isn't abandoned
  pub stays : IsHeardOut w.lag w.loads w.plan.faults (attempt_begun w t holder stations entry) entry.item (begun w t holder stations entry).state.channel t
      stations first
  stays = heard-out w t place holder stations entry b first shows

  -- it accepts no control
  pub declines : first.sent.acceptance ≡ false
  declines = elim (control-kept w t place holder stations entry b first shows) [
    | inl plain ↦ (shown-so w t place holder stations entry b.base shape expects first shows).sent.declines plain
    | inr refused ↦ refused.declines
  ]
