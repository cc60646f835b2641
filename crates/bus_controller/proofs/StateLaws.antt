-- Each state that stands for a course and a past gives one that stands for it a tick later, and tells what ended.
use Rattle.std.proofs.Common.{◌≡◌, ℕ, suc, ◌+◌, ◌-◌, ◌<◌, ◌≤◌, nat_le, Bool, true, false, if◌then◌else◌}
use Rattle.std.proofs.Common.{List, [], ◌∷◌, length, Option, Some, None, refl, sym, ◌∙◌, arith, inl, inr}
use Rattle.std.proofs.lemmas.Bool.{cases_Bool, cases_lt, cases_eq}
use Rattle.std.proofs.lemmas.Bool.Decides.{nat_tests}
use Rattle.bus_base.specs.Samples.{is_quiet, sample_on}
use Rattle.bus_base.specs.declared.samples.Channel.{Channel}
use Rattle.bus_base.specs.declared.samples.Channel.TheVariants.{A, B}
use Rattle.bus_base.specs.declared.samples.Sample.TheVariants.{Quiet}
use Rattle.bus_base.specs.declared.samples.Pair.{Pair}
use Rattle.bus_words.specs.declared.word.Word.{Word}
use Rattle.bus_line.specs.Past.{quiet, rest_of}
use Rattle.bus_line.specs.Channels.{on_channel}
use Rattle.bus_line.specs.Cutting.{cut_now}
use Rattle.bus_line.proofs.PastLaws.{runs-parts}
use Rattle.bus_line.proofs.TickLaws.{quiet-sample}
use Rattle.bus_formats.specs.Times.{no_response}
use Rattle.bus_formats.specs.declared.form.Outcome.TheVariants as outcomes
use Rattle.bus_model.specs.Attempts.{without_words}
use Rattle.bus_model.specs.Controller.{reply, awaited, silence, running, ending_now}
use Rattle.bus_model.specs.Course.{Course, runs_next, run_on}
use Rattle.bus_receiver.specs.Cuts.{cut_on}
use Rattle.bus_receiver.specs.Moments.{moment_of}
use Rattle.bus_controller.specs.Agendas.{AgendaData}
use Rattle.bus_controller.specs.Steps.{going, closes, silent, no_answer, runs_on, is_abandoned, cut_heard, kept, read_by, hears, from_expecting, from_holding, from_settling, from_yielded, next_of_state}
use Rattle.bus_controller.specs.Stands.{own, AttemptStands, Awaits, IsAwaited, IsRunning, ExpectingStands, HoldingStands, SettlingStands, YieldedStands, WaitStands, StateStands, NextStands, slots_of}
use Rattle.bus_controller.specs.declared.expecting.Expecting.{Expecting}
use Rattle.bus_controller.specs.declared.holding.Holding.{Holding}
use Rattle.bus_controller.specs.declared.settling.Settling.{Settling}
use Rattle.bus_controller.specs.declared.yielded.Yielded.{Yielded}
use Rattle.bus_controller.specs.declared.opening.Opening.{Opening as Wait}
use Rattle.bus_controller.specs.declared.opening.Opening.TheVariants as openings
use Rattle.bus_controller.specs.declared.states.ControllerState.{ControllerState}
use Rattle.bus_controller.specs.declared.states.ControllerState.TheVariants as states
use Rattle.bus_receiver.proofs.Hearing.{length-on}
use Rattle.bus_controller.proofs.Waiting.{waits-stand, wait-more}
use Rattle.bus_controller.proofs.Closing.{runs-on, going-stands, closes-stands}
use Rattle.bus_controller.proofs.Replies.{reply-awaited, reply-running}
use Rattle.bus_controller.proofs.Sends.{sending-hears}
use Rattle.bus_controller.proofs.Doubts.{doubting-hears}
use Rattle.bus_controller.proofs.Expects.{awaits-more, begins-running, plain, slot, pulse-cut, HasEnded, has-ended, quiet-awaited, quiet-silence, quiet-running}
use Rattle.bus_controller.proofs.AnswerLaws.{ending_with, ending-by, awaited-none, unanswered, silence-ends, running-ends, first-read, second-read}

-- what becomes known of an attempt's channel
cut-is : (k : ℕ) (shown : Pair) (past : List Pair) (ch : Channel) → cut_on (moment_of k shown past).cuts ch ≡ cut_now k (sample_on shown ch ∷ on_channel ch past)
cut-is k shown past A = refl
cut-is k shown past B = refl

-- a fact of a choice, by its test
by_test : {X : Type 0} (P : X → Type 0) (b : Bool) (x y : X) → (b ≡ true → P x) → (b ≡ false → P y) → P (if b then x else y)
by_test P true x y f g = f refl
by_test P false x y f g = g refl

no_answer-is : (s : Expecting) (first : Option ℕ) → no_answer s first ≡ unanswered first
no_answer-is s None = refl
no_answer-is s (Some status) = refl

module _ (k : ℕ) (small : k ≤ 3) (c : Course) (shown : Pair) (past : List Pair) where
  -- ---- an answer

  module _ (s : Expecting) (st : AttemptStands c past s.agenda s.begun) (awaits : Awaits k (own s.begun (shown ∷ past)) s.begun s.first s.end.0)
      (known : s.end.0 + suc k ≤ length past) where
    here : length (own s.begun past) ≡ length past
    here = length-on s.begun.state.channel past

    -- none has begun
    awaits-on : s.answer ≡ None → IsAwaited k (own s.begun (shown ∷ past)) s.end.0 → NextStands k c shown past (going (states.Expecting s))
    awaits-on none a =
        let is : reply k (own s.begun (shown ∷ past)) s.end.0 ≡ awaited = reply-awaited k (own s.begun (shown ∷ past)) s.end.0 a.none a.soon in
        going-stands k c shown past s.agenda s.begun (states.Expecting s) st
        (ending-by k s.begun (shown ∷ past) s.first s.end.0 awaits ∙ (rw is (awaited-none k s.begun.entry.item (shown ∷ past) (own s.begun (shown ∷ past)) s.end.0 s.first))) record {
          attempt = runs-on k c shown past s.agenda s.begun st;
          awaits = awaits;
          known = omega (arith, known);
          answer = rw none a;
        }

    gives-up : reply k (own s.begun (shown ∷ past)) s.end.0 ≡ silence → NextStands k c shown past (closes s.agenda s.begun (no_answer s s.first) (moment_of k shown past))
    gives-up is =
        rw (no_answer-is s s.first) (closes-stands k c shown past s.agenda s.begun (unanswered s.first) st
        (ending-by k s.begun (shown ∷ past) s.first s.end.0 awaits ∙ (rw is (silence-ends k s.begun.entry.item (shown ∷ past) (own s.begun (shown ∷ past)) s.end.0 s.first))))

    silent-stands : s.answer ≡ None → sample_on shown s.begun.state.channel ≡ Quiet → IsAwaited k (own s.begun past) s.end.0 → NextStands k c shown past (silent s (moment_of k shown past))
    silent-stands none q a =
        let at = here in
        elim (cases_lt (s.end.0 + no_response) (suc (length past))) [
          | inr soon ↦ (
              let test : nat_le (suc (length past) - s.end.0) no_response ≡ true = grind (arith, nat_tests, soon) in
              rw test (awaits-on none (quiet-awaited k (sample_on shown s.begun.state.channel) (own s.begun past) s.end.0 q (omega (arith, known, at)) a (omega (arith, soon, at)))))
          | inl late ↦ (
              let test : nat_le (suc (length past) - s.end.0) no_response ≡ false = grind (arith, nat_tests, late) in
              rw test (gives-up (quiet-silence k (sample_on shown s.begun.state.channel) (own s.begun past) s.end.0 q (omega (arith, known, at)) a (omega (arith, late, at)))))
        ]

    -- one runs
    running-stands : (slots : List (Option Word)) → IsRunning k (own s.begun (shown ∷ past)) s.end.0 slots → NextStands k c shown past (runs_on s slots (moment_of k shown past))
    running-stands slots r =
        let long = here in
        let is : reply k (own s.begun (shown ∷ past)) s.end.0 ≡ running = reply-running k (own s.begun (shown ∷ past)) s.end.0 r.first r.heard r.soon r.going in
        let runs : ending_with k s.begun.entry.item (shown ∷ past) (own s.begun (shown ∷ past)) s.end.0 s.first running
        ≡ (if is_abandoned s (moment_of k shown past) then Some (without_words outcomes.Abandoned None None) else None) =
        rw long at (running-ends k s.begun.entry.item (shown ∷ past) (sample_on shown s.begun.state.channel) (own s.begun past) s.end.0 s.first (omega (arith, known, long))) in
        let ends : ending_now k s.begun (shown ∷ past) ≡ (if is_abandoned s (moment_of k shown past) then Some (without_words outcomes.Abandoned None None) else None) =
        ending-by k s.begun (shown ∷ past) s.first s.end.0 awaits ∙ (rw is runs) in
        elim (cases_Bool (is_abandoned s (moment_of k shown past))) [
          | inl given ↦ rw given (closes-stands k c shown past s.agenda s.begun (without_words outcomes.Abandoned None None) st (ends ∙ (rw given refl)))
          | inr on ↦ rw on (going-stands k c shown past s.agenda s.begun (states.Expecting (record s { answer = Some record { items = slots } })) st (ends ∙ (rw on refl)) record {
            attempt = runs-on k c shown past s.agenda s.begun st;
            awaits = awaits;
            known = omega (arith, known);
            answer = r;
          })
        ]

    -- one ended
    ended-by : (slots : List (Option Word)) (h : HasEnded k (sample_on shown s.begun.state.channel) (own s.begun past) s.end.0 slots) (first : Option ℕ) →
        Awaits k (own s.begun (shown ∷ past)) s.begun first s.end.0 → NextStands k c shown past (read_by k s slots (rest_of h.burst) (moment_of k shown past) first)
    ended-by slots h None a = first-read k small c shown past s.agenda s.begun s.end.0 st slots h a
    ended-by slots h (Some first) a = second-read k small c shown past s.agenda s.begun s.end.0 st slots h first a

    cut-stands : (slots : List (Option Word)) → IsRunning k (own s.begun past) s.end.0 slots →
        NextStands k c shown past (cut_heard k s slots (moment_of k shown past) (cut_now k (sample_on shown s.begun.state.channel ∷ own s.begun past)))
    cut-stands slots r = elim (cases_Bool (is_quiet (sample_on shown s.begun.state.channel))) [
      | inl q ↦ (
          let e = quiet-sample (sample_on shown s.begun.state.channel) q in
          elim (cases_eq (quiet (own s.begun past)) k) [
            | inl all ↦ (
                let h = has-ended k (sample_on shown s.begun.state.channel) (own s.begun past) s.end.0 slots e r all in
                rw h.cut.1 (ended-by slots h s.first awaits))
            | inr few ↦ (
                let less : quiet (own s.begun past) < k = (let most = (runs-parts k (own s.begun past) r.on).1 in omega (arith, few, most)) in
                let next = quiet-running k (sample_on shown s.begun.state.channel) (own s.begun past) s.end.0 slots small e r less in
                rw next.0 (running-stands slots next.1))
          ])
      | inr p ↦ elim (pulse-cut k small (own s.begun past) s.end.0 (sample_on shown s.begun.state.channel) slots r p) [
        | plain is on ↦ rw is (running-stands slots on)
        | slot i word is on ↦ rw is (running-stands (kept slots word) on)
      ]
    ]

    begun-stands : s.answer ≡ None → IsAwaited k (own s.begun past) s.end.0 → NextStands k c shown past (hears k s (moment_of k shown past) None)
    begun-stands none a =
        let at = here in
        by_test (λ n. NextStands k c shown past n) (is_quiet (sample_on shown s.begun.state.channel)) (silent s (moment_of k shown past)) (runs_on s [] (moment_of k shown past))
        (λ q. silent-stands none (quiet-sample (sample_on shown s.begun.state.channel) q) a)
        (λ p. running-stands [] (begins-running k small (own s.begun past) s.end.0 (sample_on shown s.begun.state.channel) a (omega (arith, known, at)) p))

    cuts-stand : (slots : List (Option Word)) → IsRunning k (own s.begun past) s.end.0 slots → NextStands k c shown past (hears k s (moment_of k shown past) (Some slots))
    cuts-stand slots r = rw (cut-is k shown past s.begun.state.channel) (cut-stands slots r)

  expecting-by : (s : Expecting) → ExpectingStands k c past s → (o : Option (List (Option Word))) → slots_of s ≡ o → NextStands k c shown past (hears k (record s { answer = None }) (moment_of k shown past) o)
  expecting-by s st None is =
      begun-stands (record s { answer = None }) st.attempt (awaits-more k _ (own s.begun past) s.begun s.first s.end.0 st.awaits) st.known refl (rw is at st.answer)
  expecting-by s st (Some slots) is =
      cuts-stand (record s { answer = None }) st.attempt (awaits-more k _ (own s.begun past) s.begun s.first s.end.0 st.awaits) st.known slots (rw is at st.answer)

  pub expecting-hears : (s : Expecting) → ExpectingStands k c past s → NextStands k c shown past (from_expecting k s (moment_of k shown past))
  expecting-hears s st = expecting-by s st (slots_of s) refl

  -- ---- between messages

  waiting-stands : (agenda : AgendaData) (opening : Wait) (state : ControllerState) → WaitStands c past agenda opening → runs_next past c ≡ None →
      StateStands k c (shown ∷ past) state → NextStands k c shown past (going state)
  waiting-stands agenda opening state w none stands =
      let is : run_on k shown past c (runs_next past c) ≡ c = rw none refl in
      rw is (stands, refl)

  pub holding-hears : (s : Holding) → HoldingStands c past s → NextStands k c shown past (from_holding s (moment_of k shown past))
  holding-hears s st =
      waiting-stands s.agenda s.opening _ st.waits st.none
      (waits-stand c (shown ∷ past) k s.agenda s.opening (wait-more c past shown s.agenda s.opening st.waits st.none))

  pub settling-hears : (s : Settling) → SettlingStands c past s → NextStands k c shown past (from_settling s (moment_of k shown past))
  settling-hears s st =
      waiting-stands s.agenda (openings.Usual 40) _ st.waits st.none
      (waits-stand c (shown ∷ past) k s.agenda (openings.Usual 40) (wait-more c past shown s.agenda (openings.Usual 40) st.waits st.none))

  pub yielded-hears : (s : Yielded) → YieldedStands c s → NextStands k c shown past (from_yielded s)
  yielded-hears s st =
      let none : runs_next past c ≡ None = rw (st.runs, st.holds) refl in
      let is : run_on k shown past c (runs_next past c) ≡ c = rw none refl in
      rw is (st, refl)

  -- each state
  pub state-hears : (s : ControllerState) → StateStands k c past s → NextStands k c shown past (next_of_state k s (moment_of k shown past))
  state-hears (states.Holding s) st = holding-hears s st
  state-hears (states.Sending s) st = sending-hears k c shown past small s st
  state-hears (states.Expecting s) st = expecting-hears s st
  state-hears (states.Settling s) st = settling-hears s st
  state-hears (states.Doubting s) st = doubting-hears k c shown past s st
  state-hears (states.Yielded s) st = yielded-hears s st

  -- without control a state stays as it is
  pub serving-stays : (s : ControllerState) → StateStands k c past s → c.holds ≡ false →
      StateStands k (run_on k shown past c (runs_next past c)) (shown ∷ past) s
  serving-stays (states.Holding s) st off = (let bad : false ≡ true = sym off ∙ st.waits.holds in cc)
  serving-stays (states.Sending s) st off = (let bad : false ≡ true = sym off ∙ st.attempt.holds in cc)
  serving-stays (states.Expecting s) st off = (let bad : false ≡ true = sym off ∙ st.attempt.holds in cc)
  serving-stays (states.Settling s) st off = (let bad : false ≡ true = sym off ∙ st.waits.holds in cc)
  serving-stays (states.Doubting s) st off = (let bad : false ≡ true = sym off ∙ st.attempt.holds in cc)
  serving-stays (states.Yielded s) st off = (yielded-hears s st).0
