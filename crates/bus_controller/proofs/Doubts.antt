-- An offer of control that was answered badly.
use Rattle.std.proofs.Common.{◌≡◌, ℕ, suc, ◌+◌, ◌-◌, ◌≤◌, ◌==◌, nat_lt, List, ◌∷◌, length, None, refl, ◌∙◌, arith, inl, inr}
use Rattle.std.proofs.lemmas.Bool.{cases_Bool}
use Rattle.std.proofs.lemmas.Bool.Decides.{nat_tests}
use Rattle.bus_base.specs.declared.samples.Sample.{Sample}
use Rattle.bus_base.specs.declared.samples.Pair.{Pair}
use Rattle.bus_base.specs.declared.samples.Part.TheVariants.{First}
use Rattle.bus_line.specs.Channels.{quiet_both}
use Rattle.bus_line.proofs.EndLaws.{end_since-stays}
use Rattle.bus_formats.specs.declared.form.Outcome.TheVariants.{BadReply, Yielded}
use Rattle.bus_formats.specs.Times.{doubting}
use Rattle.bus_model.specs.Attempts.{Begun, without_words}
use Rattle.bus_model.specs.Controller.{ending_now, doubt_ending}
use Rattle.bus_model.specs.Course.{Course}
use Rattle.bus_receiver.specs.Moments.{moment_of}
use Rattle.bus_controller.specs.Agendas.{AgendaData}
use Rattle.bus_controller.specs.Steps.{doubts, from_doubting}
use Rattle.bus_controller.specs.Stands.{own, AttemptStands, AwaitsFirst, IsDoubted, DoubtingStands, NextStands}
use Rattle.bus_controller.specs.declared.doubting.Doubting.{Doubting}
use Rattle.bus_controller.specs.declared.states.ControllerState.TheVariants as states
use Rattle.bus_controller.proofs.Closing.{runs-on, going-stands, closes-stands}
use Rattle.bus_controller.proofs.Replies.{reply-stays}

-- what is known stays so
pub first-more : (k : ℕ) (x : Sample) (samples : List Sample) (b : Begun) (end : ℕ) → AwaitsFirst k samples b end → AwaitsFirst k (x ∷ samples) b end
first-more k x samples b end a = record { ended = end_since-stays k x samples b.start end a.ended; shape = a.shape; expected = a.expected }

doubted-more : (k : ℕ) (x : Sample) (samples : List Sample) (b : Begun) (end : ℕ) → IsDoubted k samples b end → IsDoubted k (x ∷ samples) b end
doubted-more k x samples b end d = record {
  command = d.command;
  first = first-more k x samples b d.command d.first;
  burst = d.burst;
  heard = reply-stays k x samples d.command d.burst d.heard;
  part = d.part;
  status = d.status;
  bad = d.bad;
  offer = d.offer;
  end_is = d.end_is;
}

module _ (k : ℕ) (c : Course) (shown : Pair) (past : List Pair) where
  -- how a doubted offer ends
  ending-is : (b : Begun) (end : ℕ) → IsDoubted k (own b (shown ∷ past)) b end →
      ending_now k b (shown ∷ past) ≡ doubt_ending k b.entry.item (shown ∷ past) (own b (shown ∷ past)) end
  ending-is b end d = rw (d.first.ended, d.first.expected, d.heard, d.bad, d.offer, d.end_is) refl

  pub doubts-stand : (agenda : AgendaData) (b : Begun) (end : ℕ) → AttemptStands c past agenda b → IsDoubted k (own b (shown ∷ past)) b end → end ≤ suc (length past) →
      NextStands k c shown past (doubts agenda b record { 0 = end } (moment_of k shown past))
  doubts-stand agenda b end st d known =
      let quiet : nat_lt (quiet_both (shown ∷ past)) (suc (length past) - end) ≡ nat_lt (end + quiet_both (shown ∷ past)) (suc (length past)) = grind (arith, nat_tests, known) in
      let over : (suc (length past) - end == doubting) ≡ (suc (length past) == end + doubting) = grind (arith, nat_tests, known) in
      elim (cases_Bool (nat_lt (end + quiet_both (shown ∷ past)) (suc (length past)))) [
        | inl heard ↦ rw (quiet, heard)
            (closes-stands k c shown past agenda b (without_words Yielded None None) st (ending-is b end d ∙ (rw heard refl)))
        | inr still ↦ elim (cases_Bool (suc (length past) == end + doubting)) [
          | inl now ↦ rw (quiet, still, over, now)
              (closes-stands k c shown past agenda b (without_words (BadReply First) None None) st (ending-is b end d ∙ (rw (still, now) refl)))
          | inr later ↦ rw (quiet, still, over, later)
              (going-stands k c shown past agenda b (states.Doubting record { agenda = agenda; begun = b; end = record { 0 = end } }) st (ending-is b end d ∙ (rw (still, later) refl)) record {
                attempt = runs-on k c shown past agenda b st;
                doubted = d;
                known = known;
              })
        ]
      ]

  pub doubting-hears : (s : Doubting) → DoubtingStands k c past s → NextStands k c shown past (from_doubting s (moment_of k shown past))
  doubting-hears s st =
      doubts-stand s.agenda s.begun s.end.0 st.attempt (doubted-more k _ (own s.begun past) s.begun s.end.0 st.doubted) (let known = st.known in omega (arith, known))
