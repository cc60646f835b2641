-- A station over all that it heard: its takes, and what its terminal heard.
use Rattle.std.proofs.Common.{◌≡◌, ℕ, suc, Bool, true, false, List, [], ◌∷◌, ◌++◌, length, Option, Some, None, refl, sym, ap, ◌∙◌, subst, arith, inl, inr, if◌then◌else◌}
use Rattle.bus_base.specs.declared.samples.Pair.{Pair}
use Rattle.bus_formats.specs.Plans.{StationData}
use Rattle.bus_model.specs.Memory.{Memory, TimedLoad}
use Rattle.bus_model.specs.Starts.{has_items}
use Rattle.bus_model.specs.Hearing.{Moment, Hearing}
use Rattle.bus_model.specs.Standing.{Standing}
use Rattle.bus_model.specs.Terminal.{standing, accepted_now}
use Rattle.bus_model.specs.Course.{Take, Course, course}
use Rattle.bus_model.specs.Control.{OutsideTake, StationSoFar, so_far, so_far_after, hold, serve, taken_over, takes_in, outside_takes, is_outside, accepted_take, hear_more, moment_of, unheard, unheard_ticks, yielded_in}
use Rattle.bus_terminal.specs.Quiet.{quiet_moments}
use Rattle.bus_terminal.proofs.Quiet.{standing-tick}
use Rattle.bus_terminal.proofs.Waking.{quiet-length}
use Rattle.bus_terminal.proofs.Standing.{by-test}
use Rattle.bus_controller.specs.ControllerStands.{NoneLater}
use Rattle.bus_controller.proofs.Wholes.{later-more}
use Rattle.bus_station.proofs.Courses.{serves-more}
use Rattle.bus_station.proofs.Yields.{yields-off}
use Rattle.bus_station.proofs.Quiet.{unheard-quiet, woken-free, resting-free}
use Rattle.bus_station.proofs.Offers.{accepting, tick-may}

-- takes up to this tick
pub later-append : (now : ℕ) (takes more : List Take) → NoneLater now takes → NoneLater now more → NoneLater now (takes ++ more)
later-append now [] more f g = g
later-append now (take ∷ takes) more f g = (f.0, later-append now takes more f.1 g)

module _ (k : ℕ) (station : StationData) (starts : Bool) (loads : List TimedLoad) (outside : List OutsideTake) where
  -- one tick more
  pub so_far-tick : (x : Pair) (past : List Pair) → so_far k station starts loads outside (x ∷ past) ≡ so_far_after k station starts loads outside x past
      (so_far k station starts loads outside past)
  unfolding so_far
  so_far-tick x past = refl

  -- the takes of a tick are made when it was heard
  outside-now : (tick : ℕ) (all : List OutsideTake) → NoneLater (suc tick) (outside_takes k station starts loads outside tick all)
  outside-now tick [] = tt
  outside-now tick (take ∷ all) =
      by-test (NoneLater (suc tick)) (is_outside k station starts loads outside tick take) _ _
      (λ _. (omega arith, outside-now tick all)) (λ _. outside-now tick all)

  -- so is one by acceptance
  accepted-now : (tick : ℕ) (end : Option ℕ) → NoneLater (suc tick) (accepted_take tick end)
  accepted-now tick None = tt
  accepted-now tick (Some end) = (omega arith, tt)

  -- so are all takes of a tick
  pub takes-now : (tick : ℕ) (hearing : Hearing) → NoneLater (suc tick) (takes_in k station starts loads outside tick hearing)
  takes-now tick hearing =
      later-append (suc tick) (accepted_take tick (accepted_now k station.terminal loads hearing)) (outside_takes k station starts loads outside tick outside)
      (accepted-now tick (accepted_now k station.terminal loads hearing)) (outside-now tick outside)

  -- what a station keeps from tick to tick: its takes are of ticks that were heard; its terminal heard as many ticks, quiet ones where the
  -- station holds control; and an answer that accepts control is owed only where items are left
  pub record Keeps (s : StationSoFar) (past : List Pair) : Type 0 where
    pub later : NoneLater (length past) s.takes
    pub long : length s.hearing.ticks ≡ length past
    pub deaf : (course k station starts s.takes past).holds ≡ true → s.hearing.ticks ≡ quiet_moments (length past)
    pub offers : (course k station starts s.takes past).holds ≡ false →
        accepting (standing k station.terminal loads s.hearing.memory s.hearing.ticks).duty ≡ true →
        has_items (course k station starts s.takes past).left ≡ true

  -- no answer is owed that accepts control where nothing was heard, or one tick
  resting-silent : (memory : Memory) (ticks : List Moment) (n : ℕ) → ticks ≡ quiet_moments n →
      accepting (standing k station.terminal loads memory ticks).duty ≡ true → ⊥
  resting-silent memory ticks n rests acc =
      let none : accepting (standing k station.terminal loads memory ticks).duty ≡ false =
      ap (λ (quiet : List Moment). accepting (standing k station.terminal loads memory quiet).duty) rests
      ∙ ap accepting (resting-free k station.terminal loads memory n) in
      cc

  -- or one tick after it
  woken-silent : (now : Moment) (memory : Memory) (ticks : List Moment) (n : ℕ) → ticks ≡ quiet_moments n →
      accepting (standing k station.terminal loads memory (now ∷ ticks)).duty ≡ true → ⊥
  woken-silent now memory ticks n rests acc =
      let none : accepting (standing k station.terminal loads memory (now ∷ ticks)).duty ≡ false =
      ap (λ (quiet : List Moment). accepting (standing k station.terminal loads memory (now ∷ quiet)).duty) rests
      ∙ ap accepting (woken-free k station.terminal loads memory now n) in
      cc

  -- what is heard while control is held, where it is yielded or not
  held-ticks : (x : Pair) (past : List Pair) (s : StationSoFar) (c : Course) (y : Bool) → (y ≡ true → c.holds ≡ false) → c.holds ≡ true →
      s.hearing.ticks ≡ quiet_moments (length past) → ((if y then moment_of x c else unheard) ∷ s.hearing.ticks) ≡ quiet_moments (suc (length past))
  held-ticks x past s c true gave on same = (let off = gave refl in cc)
  held-ticks x past s c false gave on same = ap (λ (ticks : List Moment). unheard ∷ ticks) same

  -- after a tick with control
  keeps-hold : (x : Pair) (past : List Pair) (s : StationSoFar) → (course k station starts s.takes past).holds ≡ true → Keeps s past →
      Keeps (hold k station starts loads outside x past s (course k station starts s.takes (x ∷ past))) (x ∷ past)
  keeps-hold x past s on kept =
      let c : Course = course k station starts s.takes (x ∷ past) in
      let y : Bool = yielded_in (length past) c.ended in
      record {
        later = later-more s.takes (length past) kept.later;
        long = ap suc kept.long;
        deaf = λ still. held-ticks x past s c y (yields-off k station starts s.takes x past kept.later) still (kept.deaf on);
        offers = λ off acc. absurd (woken-silent (if y then moment_of x c else unheard) s.hearing.memory s.hearing.ticks (length past) (kept.deaf on) acc);
      }

  -- a serving station that heard a tick, where nothing was taken in it
  keeps-listening : (x : Pair) (past : List Pair) (s : StationSoFar) → (course k station starts s.takes past).holds ≡ false → Keeps s past →
      Keeps (record s { hearing = hear_more s.hearing (moment_of x (course k station starts s.takes past)) }) (x ∷ past)
  keeps-listening x past s off kept =
      let c : Course = course k station starts s.takes past in
      let same : course k station starts s.takes (x ∷ past) ≡ c = serves-more k station starts s.takes x past kept.later off in
      let before : Standing = standing k station.terminal loads s.hearing.memory s.hearing.ticks in
      record {
        later = later-more s.takes (length past) kept.later;
        long = ap suc kept.long;
        deaf = λ on. (let no = ap (λ (d : Course). d.holds) same in cc);
        offers = λ _ acc. ap (λ (d : Course). has_items d.left) same
            ∙ elim (tick-may k station.terminal loads (moment_of x c) s.hearing.ticks before
            (ap (λ (after : Standing). accepting after.duty)
            (sym (standing-tick k station.terminal loads s.hearing.memory (moment_of x c) s.hearing.ticks)) ∙ acc)) [
              | inl owed ↦ kept.offers off owed
              | inr may ↦ may
            ];
      }

  -- after a tick in which control may be taken
  keeps-taken : (x : Pair) (past : List Pair) (s : StationSoFar) (takes : List Take) → (course k station starts s.takes past).holds ≡ false → Keeps s past →
      NoneLater (suc (length past)) takes →
      Keeps (taken_over k station starts loads outside (x ∷ past) s (hear_more s.hearing (moment_of x (course k station starts s.takes past))) takes) (x ∷ past)
  keeps-taken x past s [] off kept now = keeps-listening x past s off kept
  keeps-taken x past s (take ∷ takes) off kept now =
      let rests : unheard_ticks (x ∷ past) ≡ quiet_moments (suc (length past)) = unheard-quiet (x ∷ past) in
      record {
        later = later-append (suc (length past)) s.takes (take ∷ takes) (later-more s.takes (length past) kept.later) now;
        long = ap length rests ∙ quiet-length (suc (length past));
        deaf = λ _. rests;
        offers = λ _ acc. absurd (resting-silent _ (unheard_ticks (x ∷ past)) (suc (length past)) rests acc);
      }

  -- after a tick
  keeps-more : (x : Pair) (past : List Pair) (s : StationSoFar) → Keeps s past → Keeps (so_far_after k station starts loads outside x past s) (x ∷ past)
  keeps-more x past s kept =
      by-test (λ (after : StationSoFar). Keeps after (x ∷ past)) (course k station starts s.takes past).holds
      (hold k station starts loads outside x past s (course k station starts s.takes (x ∷ past)))
      (serve k station starts loads outside x past s (course k station starts s.takes past))
      (λ on. keeps-hold x past s on kept)
      (λ off. keeps-taken x past s
      (takes_in k station starts loads outside (length past) (hear_more s.hearing (moment_of x (course k station starts s.takes past)))) off kept
      (takes-now (length past) (hear_more s.hearing (moment_of x (course k station starts s.takes past)))))

  -- after all ticks
  pub keeps : (past : List Pair) → Keeps (so_far k station starts loads outside past) past
  unfolding so_far standing
  keeps [] = record { later = tt; long = refl; deaf = λ on. refl; offers = λ off acc. cc }
  keeps (x ∷ past) = subst (λ (s : StationSoFar). Keeps s (x ∷ past)) (sym (so_far-tick x past))
      (keeps-more x past (so_far k station starts loads outside past) (keeps past))
