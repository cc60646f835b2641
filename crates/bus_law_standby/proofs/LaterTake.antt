-- Control that is taken from outside changes nothing before its tick.
use Rattle.std.proofs.Common.{◌≡◌, ℕ, suc, ◌+◌, ◌<◌, ◌≤◌, Bool, List, [], ◌∷◌, ◌++◌, length, map, refl, sym, ap, ◌∙◌, subst, arith}
use Rattle.std.specs.Prelude.{not, if◌then◌else◌}
use Rattle.bus_base.specs.declared.samples.Pair.{Pair}
use Rattle.bus_formats.specs.Plans.{StationData}
use Rattle.bus_model.specs.Control.{OutsideTake, StationSoFar, moment_of, hear_more, accepted_take, outside_takes, taken_over, hold, course_with, so_far, so_far_after}
use Rattle.bus_model.specs.Course.{Take, Course}
use Rattle.bus_model.specs.Hearing.{Hearing}
use Rattle.bus_model.specs.Memory.{TimedLoad}
use Rattle.bus_model.specs.Message.{Present}
use Rattle.bus_model.specs.Starts.{starts}
use Rattle.bus_model.specs.Terminal.{standing_after, memory_after, accepted_now}
use Rattle.bus_model.specs.World.{Trace}
use Rattle.bus_model.specs.WorldLog.{present_stations}
use Rattle.bus_law_messages.specs.Settled.{IsFree, IsServing}
use Rattle.bus_law_stations.specs.Turns.{Serves}
use Rattle.bus_law_phases.specs.Scenarios.{Scenario, IsPresentAt, present_of}
use Rattle.bus_law_whole.specs.Leaving.{RestsUncontrolled}
use Rattle.bus_law_standby.specs.Taking.{TakenAlike, taken_so}

-- ---- a station

module _ (k : ℕ) (station : StationData) (starts : Bool) (loads : List TimedLoad) (outside other : List OutsideTake) where
  -- the newest tick
  alike-now : (x : Pair) (past : List Pair) (before : StationSoFar) →
      outside_takes k station starts loads outside (length past) outside ≡ outside_takes k station starts loads other (length past) other →
      so_far_after k station starts loads outside x past before ≡ so_far_after k station starts loads other x past before
  alike-now x past before same =
      let c = course_with k station starts loads outside before.takes past in
      let hearing = hear_more before.hearing (moment_of x c) in
      ap (λ (ts : List Take). if c.holds then hold k station starts loads outside x past before (course_with k station starts loads outside before.takes (x ∷ past))
      else taken_over k station starts loads outside (x ∷ past) before hearing (accepted_take (length past) (accepted_now k station.terminal loads hearing) ++ ts))
      same

  pub alike-so-far : (past : List Pair) →
      ((tick : ℕ) → tick < length past → outside_takes k station starts loads outside tick outside ≡ outside_takes k station starts loads other tick other) →
      so_far k station starts loads outside past ≡ so_far k station starts loads other past
  unfolding so_far
  alike-so-far [] same = refl
  alike-so-far (x ∷ past) same =
      ap (so_far_after k station starts loads outside x past) (alike-so-far past (λ tick early. same tick (omega (arith, early))))
      ∙ alike-now x past (so_far k station starts loads other past) (same (length past) (omega arith))

-- ---- a bus on which nobody holds control

pub map-alike : {X Y : Type 0} (f g : X → Y) (xs : List X) → ((x : X) → f x ≡ g x) → map f xs ≡ map g xs
map-alike f g [] same = refl
map-alike f g (x ∷ xs) same = ap (λ y. y ∷ map f xs) (same x) ∙ ap (λ ys. g x ∷ ys) (map-alike f g xs same)

module _ (w : Scenario) (outside : List OutsideTake) (past : List Pair) (alike : TakenAlike w outside (length past)) where
  pub same-so-far : (station : StationData) →
      so_far w.lag station (starts w.plan station) w.loads w.outside past ≡ so_far w.lag station (starts w.plan station) w.loads outside past
  same-so-far station = alike-so-far w.lag station (starts w.plan station) w.loads w.outside outside past (alike station)

  serving-alike : (station : StationData) → IsServing w.lag station (starts w.plan station) w.loads w.outside past →
      IsServing w.lag station (starts w.plan station) w.loads outside past
  serving-alike station serving = record {
    serves = subst (λ (so : StationSoFar). Serves (course_with w.lag station (starts w.plan station) w.loads w.outside so.takes past)) (same-so-far station) serving.serves;
    free = subst (λ (so : StationSoFar). IsFree w.lag station.terminal (standing_after w.lag station.terminal w.loads so.hearing) so.hearing.ticks)
        (same-so-far station) serving.free;
  }

  present-alike : (station : StationData) → present_of w station past ≡ present_of (taken_so w outside) station past
  present-alike station =
      ap (λ (so : StationSoFar). let c = course_with w.lag station (starts w.plan station) w.loads w.outside so.takes past in record {
        plan = station;
        memory = memory_after w.lag station.terminal w.loads so.hearing;
        left = c.left;
        live = c.live;
        serves = not c.holds;
      }) (same-so-far station)

-- the moment is the same
pub alike-rests : (w : Scenario) (outside : List OutsideTake) (now : Trace) (stations : List Present) → TakenAlike w outside (length now.shown) →
    RestsUncontrolled w now stations → RestsUncontrolled (taken_so w outside) now stations
alike-rests w outside now stations alike moment = record {
  rests = moment.rests;
  fresh = moment.fresh;
  spent = moment.spent;
  serves = λ place station at.
      serving-alike w outside now.shown alike station (moment.serves place station record { there = at.there; present = at.present });
  are = sym (map-alike (λ station. present_of w station now.shown) (λ station. present_of (taken_so w outside) station now.shown)
      (present_stations w.lag w.plan w.loads w.outside w.absent) (present-alike w outside now.shown alike))
      ∙ moment.are;
}
