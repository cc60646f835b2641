-- A station that keeps control, and what its terminal is then.
use Rattle.std.proofs.Common.{◌≡◌, ℕ, ◌+◌, ◌≤◌, Bool, true, false, List, [], ◌∷◌, ◌++◌, length, refl, sym, ap, ◌∙◌, subst, arith, length-append, append_assoc, append-nil}
use Rattle.std.proofs.lemmas.Bool.{true≢false}
use Rattle.bus_base.specs.Samples.{quiet_pair}
use Rattle.bus_base.specs.declared.samples.Channel.{Channel}
use Rattle.bus_base.specs.declared.samples.Channel.TheVariants.{A, B}
use Rattle.bus_base.specs.declared.samples.Pair.{Pair}
use Rattle.bus_base.specs.declared.samples.Sample.TheVariants.{Quiet}
use Rattle.bus_line.specs.Past.{quiet_ticks, runs}
use Rattle.bus_formats.specs.Plans.{StationData, TerminalData}
use Rattle.bus_model.specs.Memory.{Memory, TimedLoad}
use Rattle.bus_model.specs.Hearing.{Moment, heard_on}
use Rattle.bus_model.specs.Standing.{at_rest}
use Rattle.bus_model.specs.Terminal.{standing}
use Rattle.bus_model.specs.Course.{Take, Course}
use Rattle.bus_model.specs.Control.{OutsideTake, StationSoFar, unheard_ticks, moment_of, course_with, so_far, course_after}
use Rattle.bus_law_stations.specs.Silence.{quiet_moments, NothingDue, AreTaken}
use Rattle.bus_law_stations.specs.Turns.{moments_of, with_moments, TakesNothing, KeepsControl, Serves}
use Rattle.bus_law_stations.proofs.Resting.{rests-quiet}
use Rattle.bus_law_stations.proofs.StillStation.{always-taken}
use Rattle.bus_law_stations.proofs.StillTerminal.{still-stands}
use Rattle.bus_law_stations.proofs.Turning.{serving-hears}
use Rattle.bus_law_control.specs.Keeping.{HoldsThrough}
use Rattle.bus_law_control.proofs.Holding.{kept-tick}

-- ---- control is kept

-- control that was taken by a tick was taken by a later one
taken-later : (heard now : ℕ) (takes : List Take) → AreTaken heard takes → heard ≤ now → AreTaken now takes
taken-later heard now [] taken late = tt
taken-later heard now (take ∷ takes) taken late = (omega (arith, taken.0, late), taken-later heard now takes taken.1 late)

module _ (k : ℕ) (station : StationData) (starts : Bool) (loads : List TimedLoad) (outside : List OutsideTake) (past : List Pair) where
  -- it is held after the newest of the ticks
  holds-last : (ticks : List Pair) → HoldsThrough k station starts loads outside past ticks →
      (course_with k station starts loads outside (so_far k station starts loads outside past).takes (ticks ++ past)).holds ≡ true
  holds-last [] holds = holds
  holds-last (shown ∷ ticks) holds = holds.0

  -- so it isn't yielded in any of them
  pub keeps-through : (ticks : List Pair) → HoldsThrough k station starts loads outside past ticks → KeepsControl k station starts loads outside past ticks
  keeps-through [] holds = tt
  keeps-through (shown ∷ ticks) holds =
      let takes = (so_far k station starts loads outside past).takes in
      let long : length (ticks ++ past) ≡ length ticks + length past = length-append ticks past in (
        holds-last ticks holds.1,
        kept-tick k station starts takes shown (ticks ++ past)
            (taken-later (length past) (length (ticks ++ past)) takes (always-taken k station starts loads outside past) (omega (arith, long))) holds.0,
        keeps-through ticks holds.1,
      )

-- ---- its terminal

-- either channel was quiet to it
pub unheard-on : (c : Channel) (past : List Pair) → heard_on c (unheard_ticks past) ≡ quiet_ticks (length past)
unheard-on c [] = refl
unheard-on A (shown ∷ past) = ap (λ xs. Quiet ∷ xs) (unheard-on A past)
unheard-on B (shown ∷ past) = ap (λ xs. Quiet ∷ xs) (unheard-on B past)

-- so no burst ran there
pub unheard-runs : (k : ℕ) (c : Channel) (past : List Pair) → runs k (heard_on c (unheard_ticks past)) ≡ false
unheard-runs k c past =
    ap (runs k) (unheard-on c past ∙ sym (append-nil (quiet_ticks (length past)))) ∙ rests-quiet k (length past) [] refl

-- no tick in which its station might accept
nones : List Pair → List Bool
nones [] = []
nones (shown ∷ past) = false ∷ nones past

-- what wasn't heard counts as quiet
unheard-quiet : (past : List Pair) → unheard_ticks past ≡ quiet_moments (nones past)
unfolding nones
unheard-quiet [] = refl
unheard-quiet (shown ∷ past) = ap (λ ms. record { shown = quiet_pair; has_items = false } ∷ ms) (unheard-quiet past)

-- nothing is due of a terminal at rest
nothing-due : (k : ℕ) (t : TerminalData) (memory : Memory) (n : ℕ) → NothingDue k t (at_rest memory) [] n
nothing-due k t memory n = record {
  rests_a = refl;
  rests_b = refl;
  answer = λ owed. absurd (true≢false (sym owed));
  promise = λ promised. absurd (true≢false (sym promised));
}

-- it is at rest
pub unheard-rests : (k : ℕ) (t : TerminalData) (loads : List TimedLoad) (memory : Memory) (past : List Pair) →
    standing k t loads memory (unheard_ticks past) ≡ at_rest memory
unfolding standing
unheard-rests k t loads memory past =
    ap (standing k t loads memory) (unheard-quiet past ∙ sym (append-nil (quiet_moments (nones past))))
    ∙ still-stands k t loads memory [] (nones past) (nothing-due k t memory (length (nones past)))

-- ---- a station that yields, in the ticks after

-- the first of the ticks is heard first
moments-last : (c : Course) (ticks : List Pair) (x : Pair) → moments_of c (ticks ++ x ∷ []) ≡ moments_of c ticks ++ moment_of x c ∷ []
moments-last c [] x = refl
moments-last c (shown ∷ ticks) x = ap (λ ms. moment_of shown c ∷ ms) (moments-last c ticks x)

-- moments one after the other
moments-twice : (before : StationSoFar) (xs ys : List Moment) → with_moments (with_moments before ys) xs ≡ with_moments before (xs ++ ys)
moments-twice before xs ys =
    ap (λ ms. record before { hearing = record before.hearing { ticks = ms } }) (sym (append_assoc xs ys before.hearing.ticks))

-- its terminal hears them all, from the tick of the first sample on
pub yielded-on : (k : ℕ) (station : StationData) (starts : Bool) (loads : List TimedLoad) (outside : List OutsideTake) (x : Pair) (past ticks : List Pair)
    (c : Course) → course_after k station starts loads outside (x ∷ past) ≡ c → Serves c →
    so_far k station starts loads outside (x ∷ past) ≡ with_moments (so_far k station starts loads outside past) (moment_of x c ∷ []) →
    TakesNothing k station starts loads outside (x ∷ past) ticks →
    so_far k station starts loads outside (ticks ++ (x ∷ past)) ≡ with_moments (so_far k station starts loads outside past) (moments_of c (ticks ++ x ∷ []))
yielded-on k station starts loads outside x past ticks c is serves first nothing =
    let before = so_far k station starts loads outside past in
    serving-hears k station starts loads outside (x ∷ past) ticks (subst Serves (sym is) serves) nothing
    ∙ ap (λ (d : Course). with_moments (so_far k station starts loads outside (x ∷ past)) (moments_of d ticks)) is
    ∙ ap (λ (s : StationSoFar). with_moments s (moments_of c ticks)) first
    ∙ moments-twice before (moments_of c ticks) (moment_of x c ∷ [])
    ∙ ap (with_moments before) (sym (moments-last c ticks x))
