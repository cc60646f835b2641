-- How far a message has come: what came to pass since it began, and the moment of the world by now.
use Rattle.std.proofs.Common.{◌≡◌, ℕ, ◌+◌, ◌≤◌, List, [], ◌++◌, ap, ◌∙◌, subst, arith, All}
use Rattle.std.proofs.lemmas.List.{append-nil}
use Rattle.bus_base.specs.Samples.{quiet_pairs}
use Rattle.bus_base.specs.declared.samples.Channel.{Channel}
use Rattle.bus_base.specs.declared.samples.Part.{Part}
use Rattle.bus_formats.specs.Plans.{StationData}
use Rattle.bus_model.specs.Course.{Course, quiet_from}
use Rattle.bus_model.specs.Message.{After}
use Rattle.bus_law_messages.proofs.Pausing.{from-quiet}
use Rattle.bus_law_stations.specs.Silence.{NothingStarts}
use Rattle.bus_law_phases.specs.Closings.{HasItemsOf}
use Rattle.bus_law_phases.specs.Moments.{Underway, LastsTo}
use Rattle.bus_law_phases.specs.Passages.{Happening, Passage, followed_by, nothing_happens}
use Rattle.bus_law_phases.specs.Scenarios.{Scenario, trace_at, shown_at, course_of, StaysFrom}
use Rattle.bus_law_phases.specs.Silences.{GoesOnTo}
use Rattle.bus_law_phases.proofs.Lasting.{lasting}
use Rattle.bus_law_phases.proofs.Passing.{joined}
use Rattle.bus_law_phases.proofs.Staying.{stays-later}

-- from tick t on this happened, and by tick u the moment is one after a burst that ended in tick e; the items and the live channel of the station in
-- control are still those of its course c0
pub record Came (w : Scenario) (t place : ℕ) (holder : StationData) (c0 : Course) (u : ℕ) (c : Channel) (e : ℕ) (part : Part) (afters : List After)
    (h : Happening) : Type 0 where
  pub moment : Underway w (trace_at w u) place holder c e part afters
  pub passage : Passage w t u h
  pub quiet : quiet_from (shown_at w u) ≡ e
  pub items : All (HasItemsOf holder c0) afters

-- nothing happened after something
pub nothing-after : (h : Happening) → followed_by h nothing_happens ≡ h
nothing-after h =
    ap (λ bs. record { blocks = bs; bursts = h.bursts ++ []; attempts = h.attempts ++ []; commands = h.commands + 0 }) (append-nil h.blocks)
    ∙ ap (λ bs. record { blocks = h.blocks; bursts = bs; attempts = h.attempts ++ []; commands = h.commands + 0 }) (append-nil h.bursts)
    ∙ ap (λ atts. record { blocks = h.blocks; bursts = h.bursts; attempts = atts; commands = h.commands + 0 }) (append-nil h.attempts)
    ∙ ap (λ n. record { blocks = h.blocks; bursts = h.bursts; attempts = h.attempts; commands = n }) (omega arith)

module _ (w : Scenario) (t place : ℕ) (holder : StationData) (c0 : Course) (none : StaysFrom w t) where
  -- nothing is due up to a later tick: the moment lasts, the station in control is as it was
  module _ (u n : ℕ) (c : Channel) (e : ℕ) (part : Part) (afters : List After) (h : Happening) (came : Came w t place holder c0 u c e part afters h)
      (idle : NothingStarts w.lag (course_of w holder (shown_at w u)) (shown_at w u) n) (lasts : All (LastsTo (u + n) e) afters)
      (goes : GoesOnTo w (shown_at w u) (u + n)) where
    abbrev later_quiet : (shown_at w (u + n) ≡ quiet_pairs n ++ shown_at w u) × Underway w (trace_at w (u + n)) place holder c e part afters
        × (course_of w holder (shown_at w (u + n)) ≡ course_of w holder (shown_at w u)) × Passage w u (u + n) nothing_happens
    later_quiet = lasting w u n place holder c e part afters came.moment idle lasts (stays-later w t u came.passage.later none) goes

    pub came-later : Came w t place holder c0 (u + n) c e part afters h
    came-later = record {
      moment = later_quiet.1;
      passage = subst (Passage w t (u + n)) (nothing-after h) (joined w t u (u + n) h nothing_happens came.passage later_quiet.3);
      quiet = ap quiet_from later_quiet.0 ∙ from-quiet n (shown_at w u) ∙ came.quiet;
      items = came.items;
    }

    pub course-later : course_of w holder (shown_at w (u + n)) ≡ course_of w holder (shown_at w u)
    course-later = later_quiet.2

    pub shown-later : shown_at w (u + n) ≡ quiet_pairs n ++ shown_at w u
    shown-later = later_quiet.0
