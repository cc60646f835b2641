-- In the tick in which the end of an answer that accepts control is known no order is handled, whatever the terminal heard.
use Rattle.std.proofs.Common.{◌≡◌, ◌⊎◌, inl, inr, ℕ, suc, ◌+◌, ◌<◌, ◌≤◌, Bool, true, false, not, ◌&&◌, ◌||◌, ◌==◌, nat_lt, nat_le, List, [], ◌∷◌, length, Option, Some, None, refl, sym, ap, ◌∙◌, subst, arith, if◌then◌else◌}
use Rattle.std.proofs.lemmas.Bool.{cases_Bool, cases_eq, eq-eqb, ne_eqb, true≢false, and_from}
use Rattle.std.proofs.lemmas.Bool.Decides.{nat_tests}
use Rattle.std.specs.Prelude.{IfSome, is_none}
use Rattle.bus_base.specs.Samples.{sample_on, same_channel, other_of, is_quiet}
use Rattle.bus_base.specs.declared.samples.Channel.{Channel}
use Rattle.bus_base.specs.declared.samples.Channel.TheVariants.{A, B}
use Rattle.bus_base.specs.declared.samples.Sample.{Sample}
use Rattle.bus_line.specs.Past.{Burst, ended_now, end_of, end_since, heard_within}
use Rattle.bus_line.proofs.EndLaws.{end_since-ended, end_since-stays, end_since-is}
use Rattle.bus_formats.specs.Plans.{TerminalData}
use Rattle.bus_model.specs.Memory.{Memory, TimedLoad, with_loads}
use Rattle.bus_model.specs.Orders.{Duty, free, owes, promises, Order, last_order, due_after}
use Rattle.bus_model.specs.Hearing.{Moment, heard_on}
use Rattle.bus_model.specs.Standing.{Standing, Handled, obeys, settles, runs_out, mark_on, ignored_from, is_from, is_newer, outrun, superseded, promised_on, is_owed}
use Rattle.bus_model.specs.Terminal.{after_order, done_in, given_up, heard_status, order_by, order_of, order_on, order_now, running_out, begins, sent_on, addressed_on, marked_by, ordered, after_tick, standing, taken_by, took_now, accepted_by, accepted_now}
use Rattle.bus_terminal.specs.Newest.{is_left, AreMarked, IsNewest}
use Rattle.bus_terminal.proofs.Ends.{ended-place}
use Rattle.bus_terminal.proofs.Heard.{length-heard}
use Rattle.bus_terminal.proofs.Newer.{newest-order}
use Rattle.bus_terminal.proofs.Newest.{addressed-either, sent-of, marked-tick, marked-quiet, newest-tick}
use Rattle.bus_terminal.proofs.OwingTicks.{kept-parts}
use Rattle.bus_law_ticks.proofs.Handled.{obeyed-known, settled-known}

-- ---- what holds of whatever stands

-- the own channel of what was left has the newer command; marks are of ticks that were heard; and an answer that is owed, and wasn't given up, is marked
-- from the tick on in which it was due
record IsTraced (k : ℕ) (terminal : TerminalData) (ticks : List Moment) (s : Standing) : Type 0 where
  marked : AreMarked k terminal.address ticks s
  newest : is_left s.duty ≡ true → IsNewest k (length ticks) s
  before : (c : Channel) → IfSome (mark_on s.addressed c) (λ m. m < length ticks)
  sent : is_owed s.duty ≡ true → given_up k terminal (heard_on s.channel ticks) s ≡ false → due_after terminal s.end < length ticks →
      mark_on s.sent s.channel ≡ Some (due_after terminal s.end)

owed-left : (duty : Duty) → is_owed duty ≡ true → is_left duty ≡ true
owed-left free owed = owed
owed-left (owes words acceptance) owed = refl
owed-left (promises command transmitter) owed = refl

-- ---- a tick more

below-more : (n : ℕ) (o : Option ℕ) → IfSome o (λ m. m < n) → IfSome o (λ m. m < suc n)
below-more n None low = tt
below-more n (Some m) low = omega (arith, low)

below-either : (n : ℕ) (old new : Option ℕ) → (new ≡ old) ⊎ (new ≡ Some n) → IfSome old (λ m. m < n) → IfSome new (λ m. m < suc n)
below-either n old new (inl same) low = subst (λ o. IfSome o (λ m. m < suc n)) (sym same) (below-more n old low)
below-either n old new (inr now) low = subst (λ o. IfSome o (λ m. m < suc n)) (sym now) (omega arith)

mark-after : (k : ℕ) (terminal : TerminalData) (now : Moment) (past : List Moment) (s after : Standing) (c : Channel) →
    mark_on (marked_by k terminal now past s after).addressed c ≡ addressed_on k terminal (now ∷ past) s c
mark-after k terminal now past s after A = refl
mark-after k terminal now past s after B = refl

-- a mark that isn't from a tick on isn't so with earlier ones
mark-stays : (from n : ℕ) (old new : Option ℕ) → (new ≡ old) ⊎ (new ≡ Some n) → from ≤ n → is_from from new ≡ false → is_from from old ≡ false
mark-stays from n old new (inl same) low fresh = ap (is_from from) (sym same) ∙ fresh
mark-stays from n old new (inr now) low fresh =
    let late : is_from from (Some n) ≡ true = grind (arith, nat_tests, low) in
    absurd (true≢false (sym late ∙ ap (is_from from) (sym now) ∙ fresh))

within-earlier : (x : Sample) (xs : List Sample) (a b : ℕ) → a ≤ length xs → heard_within (x ∷ xs) a b ≡ false → heard_within xs a b ≡ false
unfolding heard_within
within-earlier x xs a b late none =
    let test : nat_lt (length xs) a ≡ false = grind (arith, nat_tests, late) in
    second (not (is_quiet x) && nat_lt (length xs) b) (heard_within xs a b)
    (sym (ap (λ (t : Bool). if t then false else ((not (is_quiet x) && nat_lt (length xs) b) || heard_within xs a b)) test) ∙ none)
  where
    second : (p q : Bool) → (p || q) ≡ false → q ≡ false
    second true q h = absurd (true≢false h)
    second false q h = h

both-false : (p q : Bool) → p ≡ false → q ≡ false → (p || q) ≡ false
both-false p q first second = rw (first, second) refl

same-own : (c : Channel) → same_channel c c ≡ true
same-own A = refl
same-own B = refl

module _ (k : ℕ) (terminal : TerminalData) (loads : List TimedLoad) (small : k ≤ 39) (later : (e : ℕ) → e + k < due_after terminal e) (now : Moment)
    (past : List Moment) (s : Standing) (traced : IsTraced k terminal past s) where
  -- what is left, with the marks of the tick
  abbrev same : Standing
  same = marked_by k terminal now past s s

  -- an answer wasn't given up before
  kept-before : is_owed s.duty ≡ true → given_up k terminal (heard_on s.channel (now ∷ past)) same ≡ false → given_up k terminal (heard_on s.channel past) s ≡ false
  kept-before owed kept =
      let handled = (traced.newest (owed-left s.duty owed)).handled in
      let parts = kept-parts k terminal (now ∷ past) same kept in
      both-false (superseded k s) (heard_within (heard_on s.channel past) s.end (due_after terminal s.end))
      (mark-stays (s.end + k) (length past) (mark_on s.addressed (other_of s.channel)) (addressed_on k terminal (now ∷ past) s (other_of s.channel))
      (addressed-either k terminal now past s (other_of s.channel)) (omega (arith, handled))
      (ap (is_from (s.end + k)) (sym (mark-after k terminal now past s s (other_of s.channel))) ∙ parts.0))
      (within-earlier (sample_on now.shown s.channel) (heard_on s.channel past) s.end (due_after terminal s.end)
      (omega (arith, handled, length-heard s.channel past)) parts.1)

  -- the mark of its transmission stays, or is made
  sent-same : is_owed s.duty ≡ true → given_up k terminal (heard_on s.channel (now ∷ past)) same ≡ false → due_after terminal s.end < suc (length past) →
      sent_on k terminal past s s.channel ≡ Some (due_after terminal s.end)
  sent-same owed kept low =
      let before = kept-before owed kept in
      let due : ℕ = due_after terminal s.end in
      elim (cases_eq (length past) due) [
        | inl now-due ↦ (
            let starts : begins k terminal past s ≡ true =
            and_from _ _ (and_from _ _ owed (eq-eqb (length past) due now-due)) (ap not before) in
            let test : (begins k terminal past s && same_channel s.channel s.channel) ≡ true = and_from _ _ starts (same-own s.channel) in
            ap (λ (b : Bool). if b then Some (length past) else mark_on s.sent s.channel) test ∙ ap Some now-due)
        | inr other ↦ (
            let away : (length past == due) ≡ false = ne_eqb (length past) due other in
            let test : (begins k terminal past s && same_channel s.channel s.channel) ≡ false =
            off (is_owed s.duty) (length past == due) (not (given_up k terminal (heard_on s.channel past) s)) (same_channel s.channel s.channel) away in
            ap (λ (b : Bool). if b then Some (length past) else mark_on s.sent s.channel) test
            ∙ traced.sent owed before (omega (arith, low, other)))
      ]
    where
      off : (o d u c : Bool) → d ≡ false → ((o && d && u) && c) ≡ false
      off true d u c h = rw h refl
      off false d u c h = refl

  before-after : (after : Standing) (c : Channel) → IfSome (mark_on (marked_by k terminal now past s after).addressed c) (λ m. m < suc (length past))
  before-after after c =
      subst (λ o. IfSome o (λ m. m < suc (length past))) (sym (mark-after k terminal now past s after c))
      (below-either (length past) (mark_on s.addressed c) (addressed_on k terminal (now ∷ past) s c) (addressed-either k terminal now past s c) (traced.before c))

  -- a tick without an order
  traced-same : IsTraced k terminal (now ∷ past) same
  traced-same = record {
    marked = marked-tick k terminal now past s s small traced.marked;
    newest = λ left. let was = traced.newest left in
        newest-tick k terminal now past s s (let handled = was.handled in omega (arith, handled)) (traced.before (other_of s.channel)) was.newest;
    before = before-after s;
    sent = λ owed kept low. sent-of k terminal now past s s s.channel ∙ sent-same owed kept low;
  }

  -- an order leaves an answer that is due later
  due-later : (memory : Memory) (order : Handled) → order_now k terminal (now ∷ past) s ≡ Some order →
      is_owed (after_order s order (done_in k terminal loads (length past) now.has_items s order)).duty ≡ true →
      length past < due_after terminal (after_order s order (done_in k terminal loads (length past) now.has_items s order)).end
  due-later memory (obeys c end order rest) is owed =
      let at = obeyed-known k terminal s now past c end rest order is in let far = later end in omega (arith, at, far)
  due-later memory (settles end slots rest) is owed =
      let at = settled-known k terminal s now past end rest slots is in let far = later end in omega (arith, at, far)
  due-later memory runs_out is owed = absurd (true≢false (sym owed))

  traced-order : (order : Handled) → order_now k terminal (now ∷ past) s ≡ Some order →
      IsTraced k terminal (now ∷ past)
      (marked_by k terminal now past s (after_order s order (done_in k terminal loads (length past) now.has_items s order)))
  traced-order order is =
      let after : Standing = after_order s order (done_in k terminal loads (length past) now.has_items s order) in
      let memory : Memory = with_loads terminal.address (length past) loads s.memory in
      record {
        marked = marked-tick k terminal now past s after small traced.marked;
        newest = newest-order k terminal now past s memory now.has_items order is traced.marked traced.newest traced.before;
        before = before-after after;
        sent = λ owed kept low. (let far = due-later memory order is owed in absurd (omega (arith, far, low)));
      }

  traced-by : (o : Option Handled) → order_now k terminal (now ∷ past) s ≡ o →
      IsTraced k terminal (now ∷ past) (marked_by k terminal now past s (ordered k terminal loads (length past) now.has_items s o))
  traced-by None is = traced-same
  traced-by (Some order) is = traced-order order is

  traced-next : IsTraced k terminal (now ∷ past) (after_tick k terminal loads now past s)
  traced-next = traced-by (order_now k terminal (now ∷ past) s) refl

module _ (k : ℕ) (terminal : TerminalData) (loads : List TimedLoad) (memory : Memory) (small : k ≤ 39) (later : (e : ℕ) → e + k < due_after terminal e) where
  traced : (ticks : List Moment) → IsTraced k terminal ticks (standing k terminal loads memory ticks)
  unfolding standing
  traced [] = record {
    marked = marked-quiet k terminal.address 0 memory;
    newest = λ left. absurd (true≢false (sym left));
    before = λ c. first-before c;
    sent = λ owed kept low. absurd (true≢false (sym owed));
  }
    where
      first-before : (c : Channel) → IfSome (mark_on (standing k terminal loads memory []).addressed c) (λ m. m < 0)
      first-before A = tt
      first-before B = tt
  traced (now ∷ past) = traced-next k terminal loads small later now past (standing k terminal loads memory past) (traced past)

-- ---- no order where control is accepted

-- a burst as long as a status that began when the answer was due
status-some : (due end : ℕ) (o : Option Burst) → heard_status due o ≡ Some end → (burst : Burst) × (o ≡ Some burst) × (burst.first ≡ due) × (40 ≤ burst.ticks)
status-some due end None h = cc
status-some due end (Some burst) h = elim (cases_Bool ((burst.first == due) && nat_le 40 burst.ticks)) [
  | inl both ↦ (burst, refl, grind (arith, nat_tests, both), grind (arith, nat_tests, both))
  | inr other ↦ (let none : heard_status due (Some burst) ≡ None = rw other refl in let no : None ≡ Some end = sym none ∙ h in cc)
]

-- what ends now had no end before
runs-before : (k : ℕ) (x : Sample) (past : List Sample) (burst : Burst) (o : Option ℕ) → ended_now k (x ∷ past) ≡ Some burst →
    end_since k past burst.first ≡ o → is_none o ≡ true
runs-before k x past burst None ended at = refl
runs-before k x past burst (Some end) ended at =
    let now : end_since k (x ∷ past) burst.first ≡ Some (end_of burst) = end_since-ended k (x ∷ past) burst ended in
    let before : end_since k (x ∷ past) burst.first ≡ Some end = end_since-stays k x past burst.first end at in
    let is : end ≡ end_of burst = (let e : Some end ≡ Some (end_of burst) = sym before ∙ now in cc) in
    let known = (end_since-is k past burst.first end at).known in
    absurd (omega (arith, is, known, (ended-place k (x ∷ past) burst ended).0))

turned : (s : Standing) (c : Channel) → is_newer c (mark_on s.addressed c) (mark_on s.addressed (other_of c)) ≡ true → outrun s (other_of c) ≡ true
turned s A newer = newer
turned s B newer = newer

-- an order that a newer one outran, and no promise
outrun-none : (k : ℕ) (terminal : TerminalData) (s : Standing) (c : Channel) (burst : Burst) (last : Option Order) → outrun s c ≡ true →
    promised_on k s c ≡ false → order_by k terminal s c burst last ≡ None
outrun-none k terminal s c burst (Some last) older none = rw older refl
outrun-none k terminal s c burst None older none = rw none refl

outrun-of : (k : ℕ) (terminal : TerminalData) (s : Standing) (c : Channel) (o : Option Burst) → outrun s c ≡ true → promised_on k s c ≡ false →
    order_of k terminal s c o ≡ None
outrun-of k terminal s c None older none = refl
outrun-of k terminal s c (Some burst) older none = outrun-none k terminal s c burst (last_order terminal.address burst.slots) older none

either-none : (b : Bool) (o : Option Handled) → o ≡ None → (if b then None else o) ≡ None
either-none true o none = refl
either-none false o none = none

both-none : (k : ℕ) (terminal : TerminalData) (heard : List Moment) (s : Standing) (c : Channel) → order_on k terminal heard s c ≡ None →
    order_on k terminal heard s (other_of c) ≡ None → running_out k terminal heard s ≡ None → order_now k terminal heard s ≡ None
both-none k terminal heard s A own other out = rw (own, other) out
both-none k terminal heard s B own other out = rw (other, own) out

-- who owes an answer promised nothing
owes-no-promise : (k : ℕ) (s : Standing) (c : Channel) (duty : Duty) → s.duty ≡ duty → is_owed duty ≡ true → promised_on k s c ≡ false
owes-no-promise k s c free is owed = absurd (true≢false (sym owed))
owes-no-promise k s c (promises command transmitter) is owed = absurd (true≢false (sym owed))
owes-no-promise k s c (owes words acceptance) is owed = rw is refl

module _ (k : ℕ) (terminal : TerminalData) (loads : List TimedLoad) (memory : Memory) (small : k ≤ 39) (later : (e : ℕ) → e + k < due_after terminal e)
    (now : Moment) (past : List Moment) where
  abbrev s : Standing
  s = standing k terminal loads memory past

  abbrev due : ℕ
  due = due_after terminal s.end

  abbrev x : Sample
  x = sample_on now.shown s.channel

  abbrev heard : List Sample
  heard = heard_on s.channel past

  alone-owed : is_owed s.duty ≡ true → given_up k terminal heard s ≡ false → (end : ℕ) → heard_status due (ended_now k (x ∷ heard)) ≡ Some end →
      order_now k terminal (now ∷ past) s ≡ None
  alone-owed owed kept end status =
      let is = traced k terminal loads memory small later past in
      let found = status-some due end (ended_now k (x ∷ heard)) status in
      let place = (ended-place k (x ∷ heard) found.0 found.1).0 in
      let newer = (is.newest (owed-left s.duty owed)).newest (kept-parts k terminal past s kept).0 in
      let marked : mark_on s.sent s.channel ≡ Some due =
      is.sent owed kept (omega (arith, place, found.2, found.3, length-heard s.channel past)) in
      let runs : is_none (end_since k heard due) ≡ true =
      runs-before k x heard found.0 (end_since k heard due) found.1 (ap (end_since k heard) found.2) in
      let ignored : ignored_from k heard (mark_on s.sent s.channel) ≡ true = ap (ignored_from k heard) marked ∙ runs in
      both-none k terminal (now ∷ past) s s.channel
      (ap (λ (b : Bool). if b then None else order_of k terminal s s.channel (ended_now k (x ∷ heard))) ignored)
      (either-none (ignored_from k (heard_on (other_of s.channel) past) (mark_on s.sent (other_of s.channel)))
      (order_of k terminal s (other_of s.channel) (ended_now k (heard_on (other_of s.channel) (now ∷ past))))
      (outrun-of k terminal s (other_of s.channel) (ended_now k (heard_on (other_of s.channel) (now ∷ past))) (turned s s.channel newer)
      (owes-no-promise k s (other_of s.channel) s.duty refl owed)))
      (let none = owes-no-promise k s s.channel s.duty refl owed in rw none refl)

  alone-by : (duty : Duty) (end : ℕ) → s.duty ≡ duty → accepted_by k terminal loads heard x s duty ≡ Some end → order_now k terminal (now ∷ past) s ≡ None
  alone-by free end is accepted = absurd (let no : None ≡ Some end = accepted in cc)
  alone-by (promises command transmitter) end is accepted = absurd (let no : None ≡ Some end = accepted in cc)
  alone-by (owes words false) end is accepted = absurd (let no : None ≡ Some end = accepted in cc)
  alone-by (owes words true) end is accepted = elim (cases_Bool (given_up k terminal heard s)) [
    | inl up ↦ absurd (
        let none : accepted_by k terminal loads heard x s (owes words true) ≡ None = rw up refl in
        let no : None ≡ Some end = sym none ∙ accepted in cc)
    | inr kept ↦ alone-owed (ap is_owed is) kept end
        (sym (ap (λ (b : Bool). if b then None else heard_status due (ended_now k (x ∷ heard))) kept) ∙ accepted)
  ]

  -- so no block is taken in that tick
  pub accepts-alone : (end : ℕ) → accepted_now k terminal loads record { memory = memory; ticks = now ∷ past } ≡ Some end →
      took_now k terminal loads record { memory = memory; ticks = now ∷ past } ≡ None
  accepts-alone end accepted =
      ap (λ (o : Option Handled). taken_by k terminal loads (length past) now.has_items s o) (alone-by s.duty end refl accepted)
