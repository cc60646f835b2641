-- A bus that changes in the course of its run is that of the stations that are present, from then on, and what was found stays.
use Rattle.std.proofs.Common.{◌≡◌, ℕ, zero, suc, ◌+◌, ◌-◌, ◌≤◌, Bool, true, false, List, [], ◌∷◌, ◌++◌, length, refl, sym, ap, ◌∙◌, arith}
use Rattle.std.proofs.lemmas.Bool.Decides.{nat_tests}
use Rattle.std.proofs.lemmas.List.{append-nil}
use Rattle.std.specs.Prelude.{nat_le, if◌then◌else◌, drop}
use Rattle.bus_line.specs.Channels.{bursts}
use Rattle.bus_formats.specs.Plans.{PlanData}
use Rattle.bus_model.specs.Control.{OutsideTake}
use Rattle.bus_model.specs.Memory.{TimedLoad}
use Rattle.bus_model.specs.Run.{Run}
use Rattle.bus_model.specs.World.{Trace, next_tick, ticks_on}
use Rattle.bus_law_phases.specs.Scenarios.{Scenario, trace_at, shown_at, attempts_in, blocks_in, commands_in, NoneTakesFrom, StaysFrom}
use Rattle.bus_law_run.specs.RunShows.{RunShows}
use Rattle.bus_law_whole.specs.Changes.{changed, found_by}

-- ---- numbers and lists

chosen : {X : Type 0} (b c : Bool) (x y : X) → b ≡ c → (if b then x else y) ≡ (if c then x else y)
chosen b c x y is = ap (λ (d : Bool). if d then x else y) is

low-so : (t a : ℕ) → t ≤ a → nat_le t a ≡ true
low-so t a low = grind (arith, nat_tests, low)

high-so : (a n : ℕ) → nat_le (a + suc n) a ≡ false
high-so a n = grind (arith, nat_tests)

left-so : (a n : ℕ) → (a + n) - a ≡ n
left-so a n = omega arith

dropped : {X : Type 0} (firsts more : List X) → drop (length firsts) (firsts ++ more) ≡ more
dropped [] [] = refl
dropped [] (x ∷ more) = refl
dropped (x ∷ firsts) more = dropped firsts more

ticks-long : (k : ℕ) (plan : PlanData) (loads : List TimedLoad) (outside : List OutsideTake) (absent : List ℕ) (before : Trace) (n : ℕ) →
    length (ticks_on k plan loads outside absent before n).shown ≡ length before.shown + n
unfolding ticks_on
ticks-long k plan loads outside absent before zero = omega arith
ticks-long k plan loads outside absent before (suc n) =
    let rest : length (ticks_on k plan loads outside absent before n).shown ≡ length before.shown + n = ticks-long k plan loads outside absent before n in
    ap suc rest ∙ omega arith

-- ---- the bus

module _ (w : Scenario) (a : ℕ) (absent : List ℕ) (outside : List OutsideTake) where
  -- up to then its ticks are the same
  pub changed-before : (t : ℕ) → t ≤ a → trace_at (changed w a absent outside) t ≡ trace_at w t
  changed-before t low =
      chosen (nat_le t a) true (trace_at w t) (ticks_on w.lag w.plan w.loads outside absent (trace_at w a) (t - a)) (low-so t a low)

  changed-after : (n : ℕ) → trace_at (changed w a absent outside) (a + n) ≡ ticks_on w.lag w.plan w.loads outside absent (trace_at w a) n
  unfolding ticks_on
  changed-after zero = let none : a + 0 ≡ a = omega arith in ap (trace_at (changed w a absent outside)) none ∙ changed-before a (omega arith)
  changed-after (suc n) =
      chosen (nat_le (a + suc n) a) false (trace_at w (a + suc n)) (ticks_on w.lag w.plan w.loads outside absent (trace_at w a) ((a + suc n) - a)) (high-so a n)
      ∙ ap (ticks_on w.lag w.plan w.loads outside absent (trace_at w a)) (left-so a (suc n))

  from-then : (t : ℕ) → a ≤ t → a + (t - a) ≡ t
  from-then t low = omega (arith, low)

  next-so : (n : ℕ) → a + suc n ≡ suc (a + n)
  next-so n = omega arith

  -- from then on it is the bus on which these are absent
  pub changed-stays : length (shown_at w a) ≡ a → NoneTakesFrom (changed w a absent outside) a → StaysFrom (changed w a absent outside) a
  unfolding ticks_on
  changed-stays long takes = record {
    takes = takes;
    counts = λ t low.
        let n : ℕ = t - a in
        let after : length (shown_at (changed w a absent outside) (a + (t - a))) ≡ length (shown_at w a) + (t - a) =
        ap (λ (tr : Trace). length tr.shown) (changed-after (t - a))
        ∙ ticks-long w.lag w.plan w.loads outside absent (trace_at w a) (t - a) in
        ap (λ u. length (shown_at (changed w a absent outside) u)) (sym (from-then t low)) ∙ after ∙ omega (arith, long, low);
    next = λ t low.
        ap (λ u. trace_at (changed w a absent outside) (suc u)) (sym (from-then t low))
        ∙ ap (trace_at (changed w a absent outside)) (sym (next-so (t - a)))
        ∙ changed-after (suc (t - a))
        ∙ ap (next_tick w.lag w.plan w.loads outside absent) (sym (changed-after (t - a)) ∙ ap (trace_at (changed w a absent outside)) (from-then t low));
  }

  -- ---- what was found stays

  module _ (run : Run) (shows : RunShows w a run []) where
    same : trace_at (changed w a absent outside) a ≡ trace_at w a
    same = changed-before a (omega arith)

    ended-so : (found_by w a).attempts ≡ w.earlier.attempts ++ shows.ended
    ended-so =
        ap (λ xs. w.earlier.attempts ++ drop (length (attempts_in w (shown_at w w.earlier.ticks))) xs) shows.ended_since
        ∙ ap (λ xs. w.earlier.attempts ++ xs) (dropped (attempts_in w (shown_at w w.earlier.ticks)) shows.ended)

    taken-so : (found_by w a).blocks ≡ w.earlier.blocks ++ shows.taken
    taken-so =
        ap (λ xs. w.earlier.blocks ++ drop (length (blocks_in w (shown_at w w.earlier.ticks))) xs) shows.taken_since
        ∙ ap (λ xs. w.earlier.blocks ++ xs) (dropped (blocks_in w (shown_at w w.earlier.ticks)) shows.taken)

    pub changed-shows : RunShows (changed w a absent outside) a run []
    changed-shows = record {
      ended = [];
      ended_since = sym (append-nil (attempts_in (changed w a absent outside) (shown_at (changed w a absent outside) a)));
      attempts_are = append-nil ((found_by w a).attempts ++ []) ∙ append-nil (found_by w a).attempts ∙ ended-so
          ∙ sym (append-nil (w.earlier.attempts ++ shows.ended)) ∙ shows.attempts_are;
      bursts_are = ap (λ (tr : Trace). bursts w.lag tr.shown) same ∙ shows.bursts_are;
      taken = [];
      taken_since = sym (append-nil (blocks_in (changed w a absent outside) (shown_at (changed w a absent outside) a)));
      blocks_are = append-nil (found_by w a).blocks ∙ taken-so ∙ shows.blocks_are;
      counted = ap (λ (tr : Trace). commands_in w tr.driven) same ∙ shows.counted;
      orderly = λ i from early. absurd (omega (arith, from, early));
    }
