-- The terminal of a station that holds control: it heard quiet ticks alone, and nothing is due of it.
use Rattle.std.proofs.Common.{◌≡◌, ℕ, ◌+◌, ◌<◌, ◌≤◌, Bool, true, false, List, [], ◌∷◌, ◌++◌, length, refl, sym, ap, ◌∙◌, subst}
use Rattle.std.proofs.lemmas.Bool.{true≢false}
use Rattle.std.proofs.lemmas.List.{append-nil}
use Rattle.bus_base.specs.declared.samples.Channel.{Channel}
use Rattle.bus_base.specs.declared.samples.Channel.TheVariants.{A, B}
use Rattle.bus_base.specs.declared.samples.Pair.{Pair}
use Rattle.bus_base.specs.declared.samples.Sample.TheVariants.{Quiet}
use Rattle.bus_line.specs.Past.{quiet_ticks, runs}
use Rattle.bus_formats.specs.Plans.{StationData, TerminalData}
use Rattle.bus_model.specs.Memory.{Memory, TimedLoad}
use Rattle.bus_model.specs.Hearing.{heard_on}
use Rattle.bus_model.specs.Standing.{at_rest}
use Rattle.bus_model.specs.Terminal.{standing, standing_after}
use Rattle.bus_model.specs.Control.{OutsideTake, unheard, unheard_ticks, outside_takes, course_after, hearing_after}
use Rattle.bus_law_control.proofs.Holding.{heard-nothing}
use Rattle.bus_law_stations.specs.Silence.{quiet_moments, NothingDue, NothingStarts, StationRests}
use Rattle.bus_law_stations.proofs.Resting.{rests-quiet}
use Rattle.bus_law_stations.proofs.StillTerminal.{still-stands}

falses : List Pair → List Bool
falses [] = []
falses (x ∷ past) = false ∷ falses past

unheard-moments : (past : List Pair) → unheard_ticks past ≡ quiet_moments (falses past) ++ []
unfolding falses
unheard-moments [] = refl
unheard-moments (x ∷ past) = ap (λ ms. unheard ∷ ms) (unheard-moments past)

unheard-channel : (d : Channel) (past : List Pair) → heard_on d (unheard_ticks past) ≡ quiet_ticks (length past)
unheard-channel d [] = refl
unheard-channel A (x ∷ past) = ap (λ xs. Quiet ∷ xs) (unheard-channel A past)
unheard-channel B (x ∷ past) = ap (λ xs. Quiet ∷ xs) (unheard-channel B past)

unheard-rests : (k : ℕ) (d : Channel) (past : List Pair) → runs k (heard_on d (unheard_ticks past)) ≡ false
unheard-rests k d past =
    ap (runs k) (unheard-channel d past ∙ sym (append-nil (quiet_ticks (length past)))) ∙ rests-quiet k (length past) [] refl

due-none : (k : ℕ) (t : TerminalData) (memory : Memory) (n : ℕ) → NothingDue k t (at_rest memory) [] n
due-none k t memory n = record {
  rests_a = refl;
  rests_b = refl;
  answer = λ owed. absurd (true≢false (sym owed));
  promise = λ made. absurd (true≢false (sym made));
}

-- nothing stands of it
unheard-standing : (k : ℕ) (t : TerminalData) (loads : List TimedLoad) (memory : Memory) (past : List Pair) →
    standing k t loads memory (unheard_ticks past) ≡ at_rest memory
unfolding standing
unheard-standing k t loads memory past =
    ap (standing k t loads memory) (unheard-moments past)
    ∙ still-stands k t loads memory [] (falses past) (due-none k t memory (length (falses past)))

module _ (k : ℕ) (station : StationData) (starts : Bool) (loads : List TimedLoad) (outside : List OutsideTake) (past : List Pair)
    (holds : (course_after k station starts loads outside past).holds ≡ true) where
  nothing : (hearing_after k station starts loads outside past).ticks ≡ unheard_ticks past
  nothing = heard-nothing k station starts loads outside past holds

  pub holder-standing : standing_after k station.terminal loads (hearing_after k station starts loads outside past)
      ≡ at_rest (hearing_after k station starts loads outside past).memory
  holder-standing =
      ap (standing k station.terminal loads (hearing_after k station starts loads outside past).memory) nothing
      ∙ unheard-standing k station.terminal loads (hearing_after k station starts loads outside past).memory past

  -- so nothing is due of the station where nothing is due of its controller
  pub holder-rests : (n : ℕ) → NothingStarts k (course_after k station starts loads outside past) past n →
      ((tick : ℕ) → length past ≤ tick → tick < length past + n → outside_takes k station starts loads outside tick outside ≡ []) →
      StationRests k station starts loads outside past n
  holder-rests n waits stays =
      let rests : (d : Channel) → runs k (heard_on d (hearing_after k station starts loads outside past).ticks) ≡ false =
      λ d. ap (λ ms. runs k (heard_on d ms)) nothing ∙ unheard-rests k d past in
      record {
        controller = waits;
        terminal = subst (λ s. NothingDue k station.terminal s (hearing_after k station starts loads outside past).ticks n) (sym holder-standing) record {
          rests_a = rests A;
          rests_b = rests B;
          answer = λ owed. absurd (true≢false (sym owed));
          promise = λ made. absurd (true≢false (sym made));
        };
        serves = stays;
      }
