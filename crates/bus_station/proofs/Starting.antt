-- A station that has heard nothing.
use Rattle.std.proofs.Common.{◌≡◌, ℕ, Bool, true, false, [], None, refl, ap, ◌∙◌, subst}
use Rattle.bus_formats.specs.Plans.{StationData, TerminalData}
use Rattle.bus_model.specs.Memory.{first_memory}
use Rattle.bus_model.specs.Course.{course}
use Rattle.bus_model.specs.Control.{so_far}
use Rattle.bus_terminal.specs.TerminalStands.{TerminalStands, TerminalKeeps}
use Rattle.bus_controller.specs.ControllerStands.{ControllerStands}
use Rattle.bus_station.specs.Roles.{tick_of}
use Rattle.bus_station.specs.StationStands.{taking_of, StationStands, StationKeeps}
use Rattle.bus_station.specs.declared.station.Station.{Station}

-- it isn't taking control, whether it starts or not
no-taking : (k : ℕ) (plan : StationData) (starts : Bool) → None ≡ tick_of (taking_of 0 (course k plan starts [] []))
unfolding course
no-taking k plan true = refl
no-taking k plan false = refl

-- it stands for no tick
pub begins : (k : ℕ) (plan : StationData) (starts : Bool) (new : Station) (terminal : TerminalData) → terminal ≡ plan.terminal →
    new.address ≡ terminal.address →
    ControllerStands k plan starts [] new.controller [] → TerminalStands k terminal [] new.terminal
    (record { memory = first_memory terminal; ticks = [] }) → new.taking ≡ None →
    StationStands k plan starts [] [] new []
unfolding StationStands StationKeeps ControllerStands TerminalStands so_far
begins k plan starts new terminal same address controller heard none = (
  record {
    address = address ∙ ap (λ (t : TerminalData). t.address) same;
    controller = controller.1;
    terminal = subst (λ (t : TerminalData). TerminalKeeps k t [] new.terminal (record { memory = first_memory t; ticks = [] })) same heard.0;
    taking = none ∙ no-taking k plan starts;
    made = tt;
    taken = tt;
  },
  record { receiver = controller.0; cutters = heard.1 },
)
