-- From some tick on a bus is that of the stations that are present: its ticks are counted, and follow one another.
use Rattle.std.proofs.Common.{◌≡◌, ℕ, zero, suc, ◌+◌, ◌≤◌, List, ◌∷◌, length, refl, sym, ap, ◌∙◌, arith}
use Rattle.bus_base.specs.declared.samples.Drive.{Drive}
use Rattle.bus_base.specs.declared.samples.Pair.{Pair}
use Rattle.bus_formats.specs.Plans.{PlanData}
use Rattle.bus_model.specs.Memory.{TimedLoad}
use Rattle.bus_model.specs.Control.{OutsideTake}
use Rattle.bus_model.specs.Wire.{shown}
use Rattle.bus_model.specs.World.{Trace, drives_after, next_tick, ticks_on}
use Rattle.bus_law_messages.proofs.Sending.{shown-long}
use Rattle.bus_law_phases.specs.Scenarios.{Scenario, whole_scenario, trace_at, shown_at, driven_at, NoneTakesFrom, StaysFrom, IsWhole}

-- so it is from a later tick on
pub stays-later : (w : Scenario) (t u : ℕ) → t ≤ u → StaysFrom w t → StaysFrom w u
stays-later w t u up stays = record {
  takes = λ place station at tick late. stays.takes place station at tick (omega (arith, up, late));
  counts = λ v late. stays.counts v (omega (arith, up, late));
  next = λ v late. stays.next v (omega (arith, up, late));
}

pub long-at : (w : Scenario) (t : ℕ) → StaysFrom w t → length (shown_at w t) ≡ t
long-at w t stays = stays.counts t (omega arith)

pub long-later : (w : Scenario) (t u : ℕ) → t ≤ u → StaysFrom w t → length (shown_at w u) ≡ u
long-later w t u up stays = stays.counts u up

-- what the stations drive in the tick to come, and what the channels show then
abbrev pub drives_now : Scenario → ℕ → List Drive
drives_now w t = drives_after w.lag w.plan w.loads w.outside w.absent (shown_at w t)

abbrev pub newest : Scenario → ℕ → Pair
newest w t = shown w.plan.faults (drives_now w t ∷ driven_at w t)

-- one tick more
pub shown-next : (w : Scenario) (t : ℕ) → StaysFrom w t → shown_at w (suc t) ≡ newest w t ∷ shown_at w t
shown-next w t stays = ap (λ (tr : Trace). tr.shown) (stays.next t (omega arith))

pub driven-next : (w : Scenario) (t : ℕ) → StaysFrom w t → driven_at w (suc t) ≡ drives_now w t ∷ driven_at w t
driven-next w t stays = ap (λ (tr : Trace). tr.driven) (stays.next t (omega arith))

-- n ticks more
pub ticks-later : (w : Scenario) (t n : ℕ) → StaysFrom w t → ticks_on w.lag w.plan w.loads w.outside w.absent (trace_at w t) n ≡ trace_at w (t + n)
unfolding ticks_on
ticks-later w t zero stays = let same : t ≡ t + 0 = omega arith in ap (trace_at w) same
ticks-later w t (suc n) stays =
    let same : suc (t + n) ≡ t + suc n = omega arith in
    ap (next_tick w.lag w.plan w.loads w.outside w.absent) (ticks-later w t n stays) ∙ sym (stays.next (t + n) (omega arith)) ∙ ap (trace_at w) same

-- a bus on which the same stations are absent from the first tick on is so always
pub whole-stays : (k : ℕ) (plan : PlanData) (loads : List TimedLoad) (outside : List OutsideTake) (absent : List ℕ) (a : ℕ) →
    NoneTakesFrom (whole_scenario k plan loads outside absent) a → StaysFrom (whole_scenario k plan loads outside absent) a
unfolding ticks_on
whole-stays k plan loads outside absent a takes = record {
  takes = takes;
  counts = λ t late. shown-long k plan loads outside absent t;
  next = λ t late. refl;
}

pub is-whole : (k : ℕ) (plan : PlanData) (loads : List TimedLoad) (outside : List OutsideTake) (absent : List ℕ) →
    NoneTakesFrom (whole_scenario k plan loads outside absent) 0 → IsWhole (whole_scenario k plan loads outside absent)
unfolding ticks_on
is-whole k plan loads outside absent takes = record { earlier = refl; first = refl; stays = whole-stays k plan loads outside absent 0 takes }
