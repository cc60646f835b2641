-- What a controller makes of a tick while it expects an answer.
use Rattle.std.proofs.Common.{◌≡◌, ℕ, suc, ◌-◌, ◌≤◌, Bool, true, false, not, ◌&&◌, if◌then◌else◌, List, ◌∷◌, length, take, Option, Some, None, refl, ap, ◌∙◌, arith, inl, inr}
use Rattle.std.proofs.lemmas.Bool.{cases_Bool}
use Rattle.std.proofs.lemmas.Bool.Decides.{nat_tests}
use Rattle.bus_base.specs.Samples.{is_quiet, sample_on}
use Rattle.bus_base.specs.declared.samples.Sample.{Sample}
use Rattle.bus_base.specs.declared.samples.Sample.TheVariants.{Plus, Minus, Quiet}
use Rattle.bus_base.specs.declared.samples.Pair.{Pair}
use Rattle.bus_base.specs.declared.samples.Part.{Part}
use Rattle.bus_base.specs.declared.samples.Part.TheVariants as parts
use Rattle.bus_words.specs.declared.word.Word.{Word}
use Rattle.bus_line.specs.Past.{Burst, end_of, rest_of}
use Rattle.bus_formats.specs.Forms.{answers_of}
use Rattle.bus_formats.specs.Plans.{ItemData}
use Rattle.bus_formats.specs.Readings.{read_answer}
use Rattle.bus_formats.specs.declared.form.Shape.{Shape}
use Rattle.bus_formats.specs.declared.form.Outcome.{Outcome}
use Rattle.bus_formats.specs.declared.form.Outcome.TheVariants as outcomes
use Rattle.bus_formats.specs.declared.form.Reading.{Reading}
use Rattle.bus_formats.specs.declared.form.Reading.TheVariants.{Good, Ends}
use Rattle.bus_model.specs.Attempts.{Begun, Ended, without_words, is_offer, kept_words}
use Rattle.bus_model.specs.Controller.{Reply, silence, awaited, running, reply, ending_now, first_ending, second_ending, abandon_ending, read_ending}
use Rattle.bus_model.specs.Course.{Course}
use Rattle.bus_receiver.specs.Moments.{moment_of}
use Rattle.bus_controller.specs.Agendas.{AgendaData}
use Rattle.bus_controller.specs.Steps.{abandons, expects, good_first, first_by, second_by, is_doubtful}
use Rattle.bus_controller.specs.Stands.{own, AttemptStands, AwaitsFirst, AwaitsSecond, Awaits, IsAwaited, NextStands}
use Rattle.bus_controller.specs.declared.states.ControllerState.TheVariants as states
use Rattle.bus_receiver.proofs.Hearing.{length-on}
use Rattle.bus_controller.proofs.Closing.{runs-on, going-stands, closes-stands}
use Rattle.bus_controller.proofs.Replies.{reply-awaited}
use Rattle.bus_controller.proofs.Sends.{just-ended}
use Rattle.bus_controller.proofs.Doubts.{doubts-stand}
use Rattle.bus_controller.proofs.ReadLaws.{read-same, kept-same}
use Rattle.bus_controller.proofs.Expects.{HasEnded}

-- ---- how the message ends, by what is heard of the answer that is awaited

abbrev pub ending_with : ℕ → ItemData → List Pair → List Sample → ℕ → Option ℕ → Reply → Option Ended
ending_with k item shown samples end None r = first_ending k item shown samples end r
ending_with k item shown samples end (Some status) r = second_ending k item shown samples status r

pub ending-by : (k : ℕ) (b : Begun) (shown : List Pair) (first : Option ℕ) (end : ℕ) → Awaits k (own b shown) b first end →
    ending_now k b shown ≡ ending_with k b.entry.item shown (own b shown) end first (reply k (own b shown) end)
ending-by k b shown None end a = rw (a.ended, a.expected) refl
ending-by k b shown (Some status) end a = rw (a.first.ended, a.first.expected, a.heard, a.good, a.expected, a.end_is) refl

pub awaited-none : (k : ℕ) (item : ItemData) (shown : List Pair) (samples : List Sample) (end : ℕ) (first : Option ℕ) → ending_with k item shown samples end first awaited ≡ None
awaited-none k item shown samples end None = refl
awaited-none k item shown samples end (Some status) = refl

abbrev pub unanswered : Option ℕ → Ended
unanswered None = without_words (outcomes.NoResponse parts.First) None None
unanswered (Some status) = without_words (outcomes.NoResponse parts.Second) (Some status) None

pub silence-ends : (k : ℕ) (item : ItemData) (shown : List Pair) (samples : List Sample) (end : ℕ) (first : Option ℕ) →
    ending_with k item shown samples end first silence ≡ Some (unanswered first)
silence-ends k item shown samples end None = refl
silence-ends k item shown samples end (Some status) = refl

-- ---- an answer that runs may be given up

abandon-is : (k : ℕ) (item : ItemData) (shown : List Pair) (x : Sample) (samples : List Sample) (end : ℕ) (o : Option ℕ) → end ≤ suc (length samples) →
    abandon_ending k item shown (x ∷ samples) end o
    ≡ (if not (is_quiet x) && abandons None o (suc (length samples) - end) then Some (without_words outcomes.Abandoned None None) else None)
abandon-is k item shown Plus samples end None from = refl
abandon-is k item shown Minus samples end None from = refl
abandon-is k item shown Quiet samples end None from = refl
abandon-is k item shown Plus samples end (Some n) from = grind (arith, nat_tests, from)
abandon-is k item shown Minus samples end (Some n) from = grind (arith, nat_tests, from)
abandon-is k item shown Quiet samples end (Some n) from = grind (arith, nat_tests, from)

pub running-ends : (k : ℕ) (item : ItemData) (shown : List Pair) (x : Sample) (samples : List Sample) (end : ℕ) (first : Option ℕ) → end ≤ suc (length samples) →
    ending_with k item shown (x ∷ samples) end first running
    ≡ (if not (is_quiet x) && abandons first item.abandon (suc (length samples) - end) then Some (without_words outcomes.Abandoned None None) else None)
running-ends k item shown x samples end None from = abandon-is k item shown x samples end item.abandon from
running-ends k item shown Plus samples end (Some status) from = refl
running-ends k item shown Minus samples end (Some status) from = refl
running-ends k item shown Quiet samples end (Some status) from = refl

-- ---- an answer that wasn't good

doubtful-parts : (offer : Bool) (outcome : Outcome) → is_doubtful offer outcome ≡ true → (offer ≡ true) × ((part : Part) × (outcome ≡ outcomes.BadReply part))
doubtful-parts true (outcomes.BadReply part) h = (refl, (part, refl))
doubtful-parts true outcomes.Clear h = cc
doubtful-parts true outcomes.Sent h = cc
doubtful-parts true outcomes.Declined h = cc
doubtful-parts true outcomes.Passed h = cc
doubtful-parts true (outcomes.Illegal part) h = cc
doubtful-parts true (outcomes.Busy part) h = cc
doubtful-parts true (outcomes.NoResponse part) h = cc
doubtful-parts true outcomes.Abandoned h = cc
doubtful-parts true outcomes.Yielded h = cc
doubtful-parts false outcome h = cc

plain-ends : (k : ℕ) (item : ItemData) (shown : List Pair) (samples : List Sample) (burst : Burst) (offer : Bool) (outcome : Outcome) (status : Option ℕ) →
    is_doubtful offer outcome ≡ false → read_ending k item shown samples burst offer outcome status ≡ Some (without_words outcome status None)
plain-ends k item shown samples burst true (outcomes.BadReply part) status h = cc
plain-ends k item shown samples burst true outcomes.Clear status h = refl
plain-ends k item shown samples burst true outcomes.Sent status h = refl
plain-ends k item shown samples burst true outcomes.Declined status h = refl
plain-ends k item shown samples burst true outcomes.Passed status h = refl
plain-ends k item shown samples burst true (outcomes.Illegal part) status h = refl
plain-ends k item shown samples burst true (outcomes.Busy part) status h = refl
plain-ends k item shown samples burst true (outcomes.NoResponse part) status h = refl
plain-ends k item shown samples burst true outcomes.Abandoned status h = refl
plain-ends k item shown samples burst true outcomes.Yielded status h = refl
plain-ends k item shown samples burst false (outcomes.BadReply part) status h = refl
plain-ends k item shown samples burst false outcomes.Clear status h = refl
plain-ends k item shown samples burst false outcomes.Sent status h = refl
plain-ends k item shown samples burst false outcomes.Declined status h = refl
plain-ends k item shown samples burst false outcomes.Passed status h = refl
plain-ends k item shown samples burst false (outcomes.Illegal part) status h = refl
plain-ends k item shown samples burst false (outcomes.Busy part) status h = refl
plain-ends k item shown samples burst false (outcomes.NoResponse part) status h = refl
plain-ends k item shown samples burst false outcomes.Abandoned status h = refl
plain-ends k item shown samples burst false outcomes.Yielded status h = refl

-- ---- an answer that ended is read

module _ (k : ℕ) (small : k ≤ 3) (c : Course) (shown : Pair) (past : List Pair) (agenda : AgendaData) (b : Begun) (end : ℕ) (st : AttemptStands c past agenda b)
    (slots : List (Option Word)) (h : HasEnded k (sample_on shown b.state.channel) (own b past) end slots) where
  -- the answer ended k ticks ago
  end-at : (end_of h.burst ≡ length past - k) × (k ≤ length past)
  end-at = let at = h.at in let here = length-on b.state.channel past in (omega (arith, at, here), omega (arith, at, here))

  now-awaited : IsAwaited k (own b (shown ∷ past)) (length past - k)
  now-awaited =
      let at = h.at in
      let still = h.still in
      let here = length-on b.state.channel past in
      just-ended k (own b (shown ∷ past)) (length past - k) small (omega (arith, at, here)) (omega (arith, still))

  good-by : (status : ℕ) (o : Option Shape) → AwaitsFirst k (own b (shown ∷ past)) b end →
      read_answer b.entry.item.kind parts.First h.burst.slots (rest_of h.burst) ≡ Good status → (answers_of b.entry.item.kind).second ≡ o →
      NextStands k c shown past (good_first k agenda b status slots (moment_of k shown past) o)
  good-by status None a good expected =
      let words : take 32 (kept_words b.entry.item.kind slots) ≡ kept_words b.entry.item.kind h.burst.slots =
      ap (λ (xs : List (Option Word)). take 32 (kept_words b.entry.item.kind xs)) h.kept_are
      ∙ kept-same b.entry.item.kind h.burst.slots (rest_of h.burst) status st.item.kind good in
      rw words (closes-stands k c shown past agenda b
      record { outcome = outcomes.Clear; first = Some status; second = None; words = kept_words b.entry.item.kind h.burst.slots } st
      (ending-by k b (shown ∷ past) None end a ∙ (rw (h.heard, good, expected) refl)))
  good-by status (Some shape) a good expected =
      let awaits = now-awaited in
      let is : reply k (own b (shown ∷ past)) (length past - k) ≡ awaited = reply-awaited k (own b (shown ∷ past)) (length past - k) awaits.none awaits.soon in
      let at = end-at in
      going-stands k c shown past agenda b (states.Expecting (expects k agenda b (Some status) (moment_of k shown past))) st
      (ending-by k b (shown ∷ past) None end a ∙ (rw (h.heard, good, expected, at.0, is) refl)) record {
        attempt = runs-on k c shown past agenda b st;
        awaits = record {
          command = end;
          first = a;
          burst = h.burst;
          heard = h.heard;
          good = good;
          shape = shape;
          expected = expected;
          end_is = at.0;
        };
        known = (let few = at.1 in omega (arith, few));
        answer = awaits;
      }

  ends-by : (outcome : Outcome) (status : Option ℕ) → AwaitsFirst k (own b (shown ∷ past)) b end →
      read_answer b.entry.item.kind parts.First h.burst.slots (rest_of h.burst) ≡ Ends outcome status →
      NextStands k c shown past (first_by k agenda b slots (moment_of k shown past) (Ends outcome status))
  ends-by outcome status a bad = elim (cases_Bool (is_doubtful (is_offer b.entry.item.kind) outcome)) [
    | inr plain ↦ rw plain (closes-stands k c shown past agenda b (without_words outcome status None) st
        (ending-by k b (shown ∷ past) None end a
        ∙ (rw (h.heard, bad) (plain-ends k b.entry.item (shown ∷ past) (own b (shown ∷ past)) h.burst (is_offer b.entry.item.kind) outcome status plain))))
    | inl doubtful ↦ (
        let parts_are = doubtful-parts (is_offer b.entry.item.kind) outcome doubtful in
        let at = end-at in
        rw doubtful (doubts-stand k c shown past agenda b (length past - k) st record {
          command = end;
          first = a;
          burst = h.burst;
          heard = h.heard;
          part = parts_are.1.0;
          status = status;
          bad = bad ∙ ap (λ (o : Outcome). Ends o status) parts_are.1.1;
          offer = parts_are.0;
          end_is = at.0;
        } (omega arith)))
  ]

  first-by : (r : Reading) → AwaitsFirst k (own b (shown ∷ past)) b end →
      read_answer b.entry.item.kind parts.First h.burst.slots (rest_of h.burst) ≡ r →
      NextStands k c shown past (first_by k agenda b slots (moment_of k shown past) r)
  first-by (Good status) a is = good-by status (answers_of b.entry.item.kind).second a is refl
  first-by (Ends outcome status) a is = ends-by outcome status a is

  second-by : (first : ℕ) (r : Reading) → AwaitsSecond k (own b (shown ∷ past)) b first end →
      read_answer b.entry.item.kind parts.Second h.burst.slots (rest_of h.burst) ≡ r →
      NextStands k c shown past (second_by agenda b first (moment_of k shown past) r)
  second-by first (Good second) a is = closes-stands k c shown past agenda b (without_words outcomes.Clear (Some first) (Some second)) st
      (ending-by k b (shown ∷ past) (Some first) end a ∙ (rw (h.heard, is) refl))
  second-by first (Ends outcome second) a is = closes-stands k c shown past agenda b (without_words outcome (Some first) second) st
      (ending-by k b (shown ∷ past) (Some first) end a ∙ (rw (h.heard, is) refl))

  -- by its first 34 slots
  read-is : (part : Part) → read_answer b.entry.item.kind part slots (rest_of h.burst) ≡ read_answer b.entry.item.kind part h.burst.slots (rest_of h.burst)
  read-is part = ap (λ (xs : List (Option Word)). read_answer b.entry.item.kind part xs (rest_of h.burst)) h.kept_are
      ∙ read-same part b.entry.item.kind h.burst.slots (rest_of h.burst) st.item.kind

  pub first-read : AwaitsFirst k (own b (shown ∷ past)) b end →
      NextStands k c shown past (first_by k agenda b slots (moment_of k shown past) (read_answer b.entry.item.kind parts.First slots (rest_of h.burst)))
  first-read a = rw (read-is parts.First) (first-by (read_answer b.entry.item.kind parts.First h.burst.slots (rest_of h.burst)) a refl)

  pub second-read : (first : ℕ) → AwaitsSecond k (own b (shown ∷ past)) b first end →
      NextStands k c shown past (second_by agenda b first (moment_of k shown past) (read_answer b.entry.item.kind parts.Second slots (rest_of h.burst)))
  second-read first a = rw (read-is parts.Second) (second-by first (read_answer b.entry.item.kind parts.Second h.burst.slots (rest_of h.burst)) a refl)
