-- A message that begins beside an abandoned answer began with both bursts found, or it is told, as its first word was struck and the answer ran on.
use Rattle.std.proofs.Common.{inl, inr, ℕ, List}
use Rattle.std.proofs.lemmas.Bool.{cases_Bool, cases_lt}
use Rattle.bus_formats.specs.Plans.{StationData}
use Rattle.bus_model.specs.Message.{Present}
use Rattle.bus_model.specs.Starts.{Entry}
use Rattle.bus_model.specs.Strikes.{ShownAnswer, burst_end, beside_command}
use Rattle.bus_law_phases.specs.Commands.{command_at}
use Rattle.bus_law_phases.specs.Scenarios.{Scenario}
use Rattle.bus_law_beside.specs.Beside.{BeginsBeside, BeganBeside, is_valid}
use Rattle.bus_law_beside.proofs.BesideBegan.{began-beside, began-valid}
use Rattle.bus_law_beside.proofs.TailTold.{told-struck}

pub began-or-told : (w : Scenario) (t place : ℕ) (holder : StationData) (stations : List Present) (entry : Entry) (old : ShownAnswer) →
    BeginsBeside w t place holder stations entry old → BeganBeside w t holder entry old place stations
began-or-told w t place holder stations entry old p = elim (cases_Bool (is_valid (command_at w t t holder entry).slots)) [
  | inl valid ↦ inl (began-valid w t place holder stations entry old p valid)
  | inr off ↦ elim (cases_lt (burst_end (command_at w t t holder entry)) (burst_end (beside_command (command_at w t t holder entry) old))) [
    | inl later ↦ inr (told-struck w t place holder stations entry old p off later)
    | inr by_then ↦ inl (began-beside w t place holder stations entry old p by_then)
  ]
]
