-- A command is sent, and its end becomes known.
use Rattle.std.proofs.Common.{◌≡◌, ℕ, suc, ◌+◌, ◌-◌, ◌≤◌, min, nat_le, true, false, List, ◌∷◌, length, Option, Some, None, refl, sym, ap, ◌∙◌, arith, inl, inr}
use Rattle.std.proofs.lemmas.Bool.{cases_Bool}
use Rattle.std.proofs.lemmas.Bool.Decides.{nat_tests}
use Rattle.bus_base.specs.Samples.{sample_on}
use Rattle.bus_base.specs.declared.samples.Sample.{Sample}
use Rattle.bus_base.specs.declared.samples.Sample.TheVariants.{Plus, Minus, Quiet}
use Rattle.bus_base.specs.declared.samples.Pair.{Pair}
use Rattle.bus_line.specs.Past.{quiet, end_since}
use Rattle.bus_line.proofs.PastLaws.{rests-from}
use Rattle.bus_line.proofs.EndLaws.{end_since-now}
use Rattle.bus_formats.specs.Forms.{answers_of}
use Rattle.bus_formats.specs.declared.form.Shape.{Shape}
use Rattle.bus_formats.specs.declared.form.Outcome.TheVariants.{Sent}
use Rattle.bus_model.specs.Attempts.{without_words}
use Rattle.bus_model.specs.Controller.{awaited, reply}
use Rattle.bus_model.specs.Course.{Course}
use Rattle.bus_receiver.specs.Moments.{moment_of}
use Rattle.bus_controller.specs.Steps.{from_sending, quiet_more, command_ended, expects}
use Rattle.bus_controller.specs.Stands.{own, SendingStands, IsAwaited, NextStands}
use Rattle.bus_controller.specs.declared.sending.Sending.{Sending}
use Rattle.bus_controller.specs.declared.states.ControllerState.TheVariants as states
use Rattle.bus_receiver.proofs.Hearing.{length-on}
use Rattle.bus_controller.proofs.Closing.{runs-on, going-stands, closes-stands}
use Rattle.bus_controller.proofs.Replies.{first-none, reply-awaited}

-- the quiet ticks of what began at a, one tick later
counts : (k : ℕ) (x : Sample) (samples : List Sample) (a q : ℕ) → k ≤ 3 → q ≤ k → a ≤ length samples → q ≡ min (quiet samples) (length samples - a) →
    quiet_more q x ≡ min (quiet (x ∷ samples)) (suc (length samples) - a)
counts k Plus samples a q small few from is = omega arith
counts k Minus samples a q small few from is = omega arith
counts k Quiet samples a q small few from is = omega (arith, small, few, from, is)

-- the end of what began at a, one tick later
goes : (k : ℕ) (x : Sample) (samples : List Sample) (a n : ℕ) → a ≤ length samples → end_since k samples a ≡ None →
    n ≡ min (quiet (x ∷ samples)) (suc (length samples) - a) → nat_le n k ≡ true → end_since k (x ∷ samples) a ≡ None
goes k x samples a n from none is few =
    let fails : nat_le (suc k) (min (quiet (x ∷ samples)) (suc (length samples) - a)) ≡ false = grind (arith, nat_tests, few, is) in
    end_since-now k x samples a from ∙ (rw (none, fails) refl)

ends : (k : ℕ) (x : Sample) (samples : List Sample) (a n : ℕ) → a ≤ length samples → end_since k samples a ≡ None →
    n ≡ min (quiet (x ∷ samples)) (suc (length samples) - a) → nat_le n k ≡ false → end_since k (x ∷ samples) a ≡ Some (length samples - k)
ends k x samples a n from none is many =
    let holds : nat_le (suc k) (min (quiet (x ∷ samples)) (suc (length samples) - a)) ≡ true = grind (arith, nat_tests, many, is) in
    end_since-now k x samples a from ∙ (rw (none, holds) refl)

-- an answer is awaited from an end on that is known in this tick
pub just-ended : (k : ℕ) (samples : List Sample) (end : ℕ) → k ≤ 3 → end + suc k ≡ length samples → suc k ≤ quiet samples → IsAwaited k samples end
just-ended k samples end small at still = record {
  none = first-none samples end (omega (arith, at, still));
  soon = omega (arith, at, small);
  rests = rests-from k samples (inr (omega (arith, still)));
}

module _ (k : ℕ) (c : Course) (shown : Pair) (past : List Pair) (small : k ≤ 3) (s : Sending) (st : SendingStands k c past s) where
  -- its channel's ticks
  here : length (own s.begun past) ≡ length past
  here = length-on s.begun.state.channel past

  from-start : s.begun.start ≤ length (own s.begun past)
  from-start = let at = here in let began = st.attempt.began in omega (arith, at, began)

  counted : quiet_more s.quiet (sample_on shown s.begun.state.channel) ≡ min (quiet (own s.begun (shown ∷ past))) (suc (length (own s.begun past)) - s.begun.start)
  counted =
      let at = here in
      counts k (sample_on shown s.begun.state.channel) (own s.begun past) s.begun.start s.quiet small st.few from-start (omega (arith, at, st.quiet_is))

  goes-on : nat_le (quiet_more s.quiet (sample_on shown s.begun.state.channel)) k ≡ true → NextStands k c shown past (from_sending k s (moment_of k shown past))
  goes-on few =
      let going = goes k (sample_on shown s.begun.state.channel) (own s.begun past) s.begun.start _ from-start st.going counted few in
      let at = here in
      let sent : min (s.sent + 1) 65535 ≡ min (suc (length past) - s.begun.start) 65535 = (let is = st.sent in let began = st.attempt.began in omega (arith, is, began)) in
      rw few (going-stands k c shown past s.agenda s.begun (states.Sending (record s { sent = min (s.sent + 1) 65535; quiet = quiet_more s.quiet (sample_on shown s.begun.state.channel) })) st.attempt (rw going refl) record {
        attempt = runs-on k c shown past s.agenda s.begun st.attempt;
        burst = st.burst;
        sent = sent;
        going = going;
        quiet_is = rw (sym at) counted;
        few = grind (arith, nat_tests, few);
      })

  -- the end is known
  ended : nat_le (quiet_more s.quiet (sample_on shown s.begun.state.channel)) k ≡ false → end_since k (own s.begun (shown ∷ past)) s.begun.start ≡ Some (length past - k)
  ended many = ends k (sample_on shown s.begun.state.channel) (own s.begun past) s.begun.start _ from-start st.going counted many ∙ ap (λ n. Some (n - k)) here

  awaits : nat_le (quiet_more s.quiet (sample_on shown s.begun.state.channel)) k ≡ false →
      (k ≤ length past) × IsAwaited k (own s.begun (shown ∷ past)) (length past - k)
  awaits many =
      let at = here in
      let is = counted in
      let most : suc k ≤ min (quiet (own s.begun (shown ∷ past))) (suc (length (own s.begun past)) - s.begun.start) = grind (arith, nat_tests, many, is) in
      (omega (arith, most, at), just-ended k (own s.begun (shown ∷ past)) (length past - k) small (omega (arith, most, at)) (omega (arith, most)))

  closes-by : nat_le (quiet_more s.quiet (sample_on shown s.begun.state.channel)) k ≡ false → (o : Option Shape) → (answers_of s.begun.entry.item.kind).first ≡ o →
      NextStands k c shown past (command_ended k s.agenda s.begun (moment_of k shown past))
  closes-by many None expected =
      rw expected (closes-stands k c shown past s.agenda s.begun (without_words Sent None None) st.attempt (rw (ended many, expected) refl))
  closes-by many (Some shape) expected =
      let known = awaits many in
      let is : reply k (own s.begun (shown ∷ past)) (length past - k) ≡ awaited =
      reply-awaited k (own s.begun (shown ∷ past)) (length past - k) known.1.none known.1.soon in
      rw expected (going-stands k c shown past s.agenda s.begun (states.Expecting (expects k s.agenda s.begun None (moment_of k shown past))) st.attempt (rw (ended many, expected, is) refl) record {
        attempt = runs-on k c shown past s.agenda s.begun st.attempt;
        awaits = record { ended = ended many; shape = shape; expected = expected };
        known = (let few = known.0 in omega (arith, few));
        answer = known.1;
      })

  pub sending-hears : NextStands k c shown past (from_sending k s (moment_of k shown past))
  sending-hears = elim (cases_Bool (nat_le (quiet_more s.quiet (sample_on shown s.begun.state.channel)) k)) [
    | inl few ↦ goes-on few
    | inr many ↦ rw many (closes-by many (answers_of s.begun.entry.item.kind).first refl)
  ]
