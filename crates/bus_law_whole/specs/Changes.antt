-- A bus that stations leave, or on which one takes control from outside, in the course of its run (the project's own).
use Rattle.std.specs.Prelude.{◌≡◌, ℕ, ◌-◌, ◌≤◌, nat_le, if◌then◌else◌, List, ◌++◌, drop, length}
use Rattle.bus_model.specs.Control.{OutsideTake}
use Rattle.bus_model.specs.World.{Trace, ticks_on}
use Rattle.bus_law_phases.specs.Scenarios.{Scenario, Earlier, trace_at, shown_at, attempts_in, blocks_in}

-- what is in the longer list after the other one
abbrev pub after_those : {X : Type 0} → List X → List X → List X
after_those firsts all = drop (length firsts) all

-- all that is found in the first a ticks
abbrev pub found_by : Scenario → ℕ → Earlier
found_by w a = record {
  ticks = a;
  attempts = w.earlier.attempts ++ after_those (attempts_in w (shown_at w w.earlier.ticks)) (attempts_in w (shown_at w a));
  blocks = w.earlier.blocks ++ after_those (blocks_in w (shown_at w w.earlier.ticks)) (blocks_in w (shown_at w a));
}

module _ (w : Scenario) (a : ℕ) (absent : List ℕ) (outside : List OutsideTake) where
  abbrev pub changed_ticks : ℕ → Trace
  changed_ticks t = if nat_le t a then trace_at w t else ticks_on w.lag w.plan w.loads outside absent (trace_at w a) (t - a)

  -- the same bus, but from tick a on these stations are absent, and control is taken so from outside
  abbrev pub changed : Scenario
  changed = record w { absent = absent; outside = outside; first_ticks = changed_ticks; earlier = found_by w a }
