-- So of a station: whether it serves, holds control, takes it or yields.
use Rattle.std.proofs.Common.{◌≡◌, ℕ, Bool, true, false, List, [], ◌∷◌, ◌++◌, length, get_or, refl, sym, ap, ◌∙◌, subst}
use Rattle.std.proofs.lemmas.Bool.{true≢false}
use Rattle.std.specs.Prelude.{not, if◌then◌else◌}
use Rattle.bus_base.specs.declared.samples.Pair.{Pair}
use Rattle.bus_formats.specs.Plans.{TerminalData, StationData}
use Rattle.bus_model.specs.Course.{Take}
use Rattle.bus_model.specs.Hearing.{Moment, Hearing}
use Rattle.bus_model.specs.Memory.{Memory, TimedLoad, received_on}
use Rattle.bus_model.specs.Standing.{Standing, at_rest}
use Rattle.bus_model.specs.Terminal.{standing, memory_after}
use Rattle.bus_model.specs.Control.{OutsideTake, StationSoFar, unheard, unheard_ticks, moment_of, hear_more, yielded_in, taken_over, serve, hold, so_far, course_with, hearing_after, holds_control, keeps}
use Rattle.bus_law_stations.specs.Silence.{quiet_moments, NothingDue}
use Rattle.bus_law_stations.proofs.StillTerminal.{still-stands}
use Rattle.bus_law_run.specs.Blocks.{StaysOrTaken, heard_newest, taken_newest}
use Rattle.bus_law_run.proofs.BlocksTaken.{loads-leave, terminal-blocks}

-- ---- where control is taken, what the terminal keeps goes on

mays : List Pair → List Bool
mays [] = []
mays (x ∷ past) = false ∷ mays past

unheard-quiet : (past : List Pair) → unheard_ticks past ≡ quiet_moments (mays past) ++ []
unfolding mays
unheard-quiet [] = refl
unheard-quiet (x ∷ past) = ap (λ ms. unheard ∷ ms) (unheard-quiet past)

nothing-due : (k : ℕ) (t : TerminalData) (memory : Memory) (n : ℕ) → NothingDue k t (at_rest memory) [] n
nothing-due k t memory n = record {
  rests_a = refl;
  rests_b = refl;
  answer = λ owed. absurd (true≢false (sym owed));
  promise = λ made. absurd (true≢false (sym made));
}

unheard-stands : (k : ℕ) (t : TerminalData) (loads : List TimedLoad) (memory : Memory) (past : List Pair) →
    standing k t loads memory (unheard_ticks past) ≡ at_rest memory
unfolding standing
unheard-stands k t loads memory past =
    ap (standing k t loads memory) (unheard-quiet past)
    ∙ still-stands k t loads memory [] (mays past) (nothing-due k t memory (length (mays past)))

module _ (k : ℕ) (station : StationData) (starts : Bool) (loads : List TimedLoad) (outside : List OutsideTake) where
  abbrev t : TerminalData
  t = station.terminal

  taken-received : (past : List Pair) (before : StationSoFar) (hearing : Hearing) (takes : List Take) →
      (memory_after k t loads (taken_over k station starts loads outside past before hearing takes).hearing).received ≡ (memory_after k t loads hearing).received
  taken-received past before hearing [] = refl
  taken-received past before hearing (take ∷ takes) =
      let memory : Memory = memory_after k t loads hearing in
      loads-leave t.address (length (unheard_ticks past)) loads (standing k t loads memory (unheard_ticks past)).memory
      ∙ ap (λ (s : Standing). s.memory.received) (unheard-stands k t loads memory past)

  -- ---- a tick of a station

  abbrev now : Pair → List Pair → Moment
  now shown past = heard_newest k station starts loads outside shown past

  abbrev so : List Pair → StationSoFar
  so past = so_far k station starts loads outside past

  -- by whether it holds control
  abbrev so_by : Bool → Pair → List Pair → StationSoFar
  so_by holds shown past =
      if holds then hold k station starts loads outside shown past (so past) (course_with k station starts loads outside (so past).takes (shown ∷ past))
      else serve k station starts loads outside shown past (so past) (course_with k station starts loads outside (so past).takes past)

  abbrev heard_by : Bool → Pair → List Pair → Moment
  heard_by holds shown past =
      if not holds then moment_of shown (course_with k station starts loads outside (so past).takes past)
      else if yielded_in (length past) (course_with k station starts loads outside (so_by holds shown past).takes (shown ∷ past)).ended
      then moment_of shown (course_with k station starts loads outside (so_by holds shown past).takes (shown ∷ past)) else unheard

  received-by : (holds : Bool) (shown : Pair) (past : List Pair) →
      (memory_after k t loads (so_by holds shown past).hearing).received
      ≡ (memory_after k t loads (hear_more (so past).hearing (heard_by holds shown past))).received
  received-by true shown past = refl
  received-by false shown past = taken-received (shown ∷ past) (so past) (hear_more (so past).hearing (heard_by false shown past)) _

  received-then : (shown : Pair) (past : List Pair) →
      (keeps k station starts loads outside (shown ∷ past)).received ≡ (memory_after k t loads (hear_more (so past).hearing (now shown past))).received
  unfolding so_far
  received-then shown past = received-by (holds_control k station starts loads outside past) shown past

  pub station-blocks : (shown : Pair) (past : List Pair) (sub : ℕ) →
      StaysOrTaken (taken_newest k station starts loads outside shown past) sub (received_on (keeps k station starts loads outside past) sub)
      (received_on (keeps k station starts loads outside (shown ∷ past)) sub)
  station-blocks shown past sub =
      subst (λ rs. StaysOrTaken (taken_newest k station starts loads outside shown past) sub (received_on (keeps k station starts loads outside past) sub)
      (get_or rs sub [])) (sym (received-then shown past))
      (terminal-blocks k t loads (hearing_after k station starts loads outside past) (now shown past) sub)
