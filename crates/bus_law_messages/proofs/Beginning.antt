-- The world before the first tick is settled.
use Rattle.std.proofs.Common.{◌≡◌, ◌≢◌, ℕ, Bool, true, false, List, [], Some, None, refl, sym, ap}
use Rattle.std.proofs.lemmas.Bool.{true≢false}
use Rattle.std.specs.Prelude.{slice_get}
use Rattle.bus_base.specs.declared.samples.Channel.{Channel}
use Rattle.bus_base.specs.declared.samples.Channel.TheVariants.{A, B}
use Rattle.bus_base.specs.declared.samples.Drive.{Drive}
use Rattle.bus_formats.specs.Plans.{TerminalData, StationData, PlanData}
use Rattle.bus_formats.specs.declared.fault.Fault.{Fault}
use Rattle.bus_model.specs.Memory.{Memory, TimedLoad}
use Rattle.bus_model.specs.Standing.{mark_on, ignored_from, at_rest}
use Rattle.bus_model.specs.Starts.{starts}
use Rattle.bus_model.specs.Terminal.{standing}
use Rattle.bus_model.specs.Transmissions.{drives_on, drive_or, station_drive, newest_drives, transmissions}
use Rattle.bus_model.specs.Course.{course}
use Rattle.bus_model.specs.Control.{OutsideTake, so_far, course_after}
use Rattle.bus_model.specs.World.{trace, is_present, ticks_on}
use Rattle.bus_law_line.specs.Senders.{IsSpent}
use Rattle.bus_law_messages.specs.Settled.{IsFree, InControl, IsServing, Settled}

unmarked : (k : ℕ) (memory : Memory) (c : Channel) → ignored_from k [] (mark_on (at_rest memory).sent c) ≡ false
unmarked k memory A = refl
unmarked k memory B = refl

free-first : (k : ℕ) (t : TerminalData) (loads : List TimedLoad) (memory : Memory) → IsFree k t (standing k t loads memory []) []
unfolding standing
free-first k t loads memory =
    record { rests = λ c. refl; heeds = λ c. unmarked k memory c; over = λ owed. absurd (true≢false (sym owed)); promise = refl }

control-first : (k : ℕ) (station : StationData) (starts : Bool) (loads : List TimedLoad) (outside : List OutsideTake) → starts ≡ true →
    InControl (course_after k station starts loads outside []) 0
unfolding so_far course
control-first k station starts loads outside on = record { holds = on; idle = refl; before = λ tick late. refl }

serving-first : (k : ℕ) (station : StationData) (starts : Bool) (loads : List TimedLoad) (outside : List OutsideTake) → starts ≡ false →
    IsServing k station starts loads outside []
unfolding so_far course
serving-first k station starts loads outside off =
    record { serves = record { serves = off; idle = refl }; free = free-first k station.terminal loads _ }

none-before : (faults : List Fault) (c : Channel) (station : ℕ) → IsSpent faults c [] station
unfolding transmissions
none-before faults c station = refl

nothing-there : (station : ℕ) → slice_get {X = Drive} [] station ≡ None
nothing-there station = refl

undriven-first : (c : Channel) (station : ℕ) → drives_on c (station_drive station (newest_drives [])) ≡ false
undriven-first c station = ap (λ o. drives_on c (drive_or o)) (nothing-there station)

pub begins-settled : (k : ℕ) (plan : PlanData) (loads : List TimedLoad) (outside : List OutsideTake) (absent : List ℕ) (place : ℕ) (holder : StationData) →
    slice_get plan.stations place ≡ Some holder → is_present absent holder ≡ true → starts plan holder ≡ true →
    ((other : ℕ) (station : StationData) → slice_get plan.stations other ≡ Some station → other ≢ place → starts plan station ≡ false) →
    Settled k plan loads outside absent (trace k plan loads outside absent 0) place holder
unfolding ticks_on
begins-settled k plan loads outside absent place holder there present on off = record {
  rests = λ c. refl;
  undriven = undriven-first;
  spent = none-before plan.faults;
  there = there;
  present = present;
  controls = control-first k holder (starts plan holder) loads outside on;
  others = λ other station here apart is. serving-first k station (starts plan station) loads outside (off other station here apart);
}
