-- An answer of which nothing is shown.
use Rattle.std.proofs.Common.{◌≡◌, inl, inr, ℕ, zero, suc, ◌+◌, ◌-◌, ◌<◌, ◌≤◌, Bool, true, false, not, List, [], ◌∷◌, ◌++◌, length, Option, Some, None, refl, sym, ap, ◌∙◌, subst, arith}
use Rattle.std.proofs.lemmas.Bool.{and_from, or_from, or_parts, or_right, eq-eqb, ne_eqb, le-ltb, true≢false, false_from_ne_true}
use Rattle.std.specs.Prelude.{◌||◌, ◌==◌, nat_lt, is_some, is_none}
use Rattle.bus_base.specs.Samples.{sample_on, other_of, same_channel}
use Rattle.bus_base.specs.declared.samples.Channel.{Channel}
use Rattle.bus_base.specs.declared.samples.Channel.TheVariants.{A, B}
use Rattle.bus_base.specs.declared.samples.Sample.{Sample}
use Rattle.bus_base.specs.declared.samples.Sample.TheVariants.{Quiet}
use Rattle.bus_base.specs.declared.samples.Drive.TheVariants.{Silent}
use Rattle.bus_words.specs.declared.word.Word.{Word}
use Rattle.bus_line.specs.Past.{quiet_ticks, runs, ended_now, slot_now, heard_within, end_since}
use Rattle.bus_line.specs.Bursts.{IsQuietAt}
use Rattle.bus_line.proofs.EndLaws.{end_since-is, end_since-found}
use Rattle.bus_line.proofs.HeardLaws.{heard_within-is, heard_within-from}
use Rattle.bus_line.proofs.Legs.{length-quiet_ticks}
use Rattle.bus_line.proofs.TickLaws.{at-later, at-past, at-quiet}
use Rattle.bus_formats.specs.Plans.{TerminalData}
use Rattle.bus_model.specs.Memory.{Memory, TimedLoad}
use Rattle.bus_model.specs.Orders.{Duty, free, owes, promises, due_after}
use Rattle.bus_model.specs.Sending.{drive_sample}
use Rattle.bus_model.specs.Hearing.{Moment, heard_on, is_addressed}
use Rattle.bus_model.specs.Standing.{Standing, mark_on, superseded, ignored_from, is_owed, is_promise}
use Rattle.bus_model.specs.Terminal.{given_up, is_over, drive_duty, heard_status, order_of, running_out, order_now, begins, addressed_on, marked_by, ordered, after_tick, standing, drives, taken_by, took_now, accepted_by, accepted_now}
use Rattle.bus_law_stations.specs.Legs.{with_sent, IsUnheeded, BeginsAnswer}
use Rattle.bus_law_stations.proofs.Resting.{cases-option, heard-long, rests-quiet, ended-quiet}
use Rattle.bus_law_stations.proofs.LegTicks.{heard-append}
use Rattle.bus_law_stations.proofs.Ready.{same-mark, either-none, orders-none, tick-marks, not-other, three-not, three-first, order-unheeded, mark-unheeded, mark-kept, moments-append}
use Rattle.bus_law_stations.proofs.BurstEnds.{same-itself}
use Rattle.bus_law_stations.proofs.SenderTicks.{owes-no-promise}
use Rattle.bus_law_control.specs.Answers.{HearsQuiet}

-- ---- quiet ticks on one channel

-- a channel is quiet from their first on
quiet-from : (n : ℕ) (past : List Sample) (t : ℕ) → length past ≤ t → IsQuietAt (quiet_ticks n ++ past) t
quiet-from zero past t late = at-past past t late
quiet-from (suc n) past t late = at-quiet (quiet_ticks n ++ past) t ∙ quiet-from n past t late

-- what began with them has no end so far
pub quiet-endless : (k n : ℕ) (past : List Sample) → n ≤ k → end_since k (quiet_ticks n ++ past) (length past) ≡ None
quiet-endless k n past few = elim (cases-option (end_since k (quiet_ticks n ++ past) (length past))) [
  | inl none ↦ none
  | inr found ↦ (
      let is = end_since-is k (quiet_ticks n ++ past) (length past) found.0 found.1 in
      let from = is.from in let known = is.known in
      let long : length (quiet_ticks n ++ past) ≡ n + length past = length-quiet_ticks n past in absurd (omega (arith, few, from, known, long)))
]

-- and after k + 1 of them it has
pub quiet-ends : (k n : ℕ) (past : List Sample) → k < n → end_since k (quiet_ticks n ++ past) (length past) ≡ Some (length past)
quiet-ends k n past many =
    let long : length (quiet_ticks n ++ past) ≡ n + length past = length-quiet_ticks n past in
    end_since-found k (quiet_ticks n ++ past) (length past) (length past) record {
      from = omega arith;
      known = omega (arith, many, long);
      quiet = λ t low high. quiet-from n past t low;
      first = λ u low high. absurd (omega (arith, low, high));
    }

-- what was heard before a tick stays the same with more ticks from it on
pub within-later : (later past : List Sample) (a b : ℕ) → b ≤ length past → heard_within past a b ≡ false → heard_within (later ++ past) a b ≡ false
within-later later past a b early none =
    false_from_ne_true (heard_within (later ++ past) a b) (λ heard.
    let w = heard_within-is (later ++ past) a b heard in
    let test = heard_within-from past a b w.0 w.1 w.2 (λ e. w.3 (at-later later past w.0 (omega (arith, w.2, early)) ∙ e)) in
    true≢false (sym test ∙ none))

-- no slot ends in a quiet tick
pub quiet-slot : (k : ℕ) (past : List Sample) → slot_now k (Quiet ∷ past) ≡ None
quiet-slot k past = refl

-- ---- marks of transmissions

-- the mark of a transmission
pub sent-own : (s : Standing) (c : Channel) (m : Option ℕ) → mark_on (with_sent s c m).sent c ≡ m
sent-own s A m = refl
sent-own s B m = refl

-- not on the other channel
sent-other : (s : Standing) (c : Channel) (m : Option ℕ) → mark_on (with_sent s c m).sent (other_of c) ≡ mark_on s.sent (other_of c)
sent-other s A m = refl
sent-other s B m = refl

-- with the mark that it had nothing changes
sent-same : (s : Standing) (c : Channel) → with_sent s c (mark_on s.sent c) ≡ s
sent-same s A = refl
sent-same s B = refl

-- what is heeded on the other channel doesn't depend on it
pub unheeded-with : (k : ℕ) (t : TerminalData) (s : Standing) (c : Channel) (m : Option ℕ) (now : Moment) (past : List Moment) →
    IsUnheeded k t s (other_of c) (now ∷ past) → IsUnheeded k t (with_sent s c m) (other_of c) (now ∷ past)
unheeded-with k t s c m now past (inl ignored) = inl (ap (ignored_from k (heard_on (other_of c) past)) (sent-other s c m) ∙ ignored)
unheeded-with k t s c m now past (inr none) = inr none

-- without a promise none runs out
no-running : (k : ℕ) (t : TerminalData) (s : Standing) (past : List Moment) → is_promise s.duty ≡ false → running_out k t past s ≡ None
no-running k t s past none = rw none refl

-- a tick in which an answer begins and nothing else happens
tick-begins : (k : ℕ) (t : TerminalData) (loads : List TimedLoad) (s : Standing) (c : Channel) (now : Moment) (past : List Moment) →
    order_now k t (now ∷ past) s ≡ None → begins k t past s ≡ true → same_channel s.channel c ≡ true → same_channel s.channel (other_of c) ≡ false →
    addressed_on k t (now ∷ past) s c ≡ mark_on s.addressed c → addressed_on k t (now ∷ past) s (other_of c) ≡ mark_on s.addressed (other_of c) →
    after_tick k t loads now past s ≡ with_sent s c (Some (length past))
tick-begins k t loads s A now past none begun on off own other =
    ap (λ o. marked_by k t now past s (ordered k t loads (length past) now.has_items s o)) none ∙ (rw (begun, on, off, own, other) refl)
tick-begins k t loads s B now past none begun on off own other =
    ap (λ o. marked_by k t now past s (ordered k t loads (length past) now.has_items s o)) none ∙ (rw (begun, on, off, own, other) refl)

-- ---- a quiet tick on the channel of an answer that is owed

-- equal lists have equal heads
same-head : (x y : Sample) (xs ys : List Sample) → (x ∷ xs) ≡ (y ∷ ys) → x ≡ y
same-head x y xs ys same = cc

-- and equal tails
same-tail : (x y : Sample) (xs ys : List Sample) → (x ∷ xs) ≡ (y ∷ ys) → xs ≡ ys
same-tail x y xs ys same = cc

-- a tick less is quiet too
pub fewer : (k : ℕ) (t : TerminalData) (s : Standing) (c : Channel) (heard ticks : List Moment) (now : Moment) → HearsQuiet k t s c heard (now ∷ ticks) →
    HearsQuiet k t s c heard ticks
fewer k t s c heard ticks now hears = record {
  rests = hears.rests;
  quiet = same-tail (sample_on now.shown c) Quiet (heard_on c ticks) (quiet_ticks (length ticks)) hears.quiet;
  beside = hears.beside.1;
}

module _ (k : ℕ) (t : TerminalData) (s : Standing) (c : Channel) (heard : List Moment) where
  -- the channel with these ticks
  pub quiet-past : (ticks : List Moment) → HearsQuiet k t s c heard ticks → heard_on c (ticks ++ heard) ≡ quiet_ticks (length ticks) ++ heard_on c heard
  quiet-past ticks hears = heard-append c ticks heard ∙ ap (λ xs. xs ++ heard_on c heard) hears.quiet

  -- no burst runs there
  rests-past : (ticks : List Moment) → HearsQuiet k t s c heard ticks → runs k (heard_on c (ticks ++ heard)) ≡ false
  rests-past ticks hears = ap (runs k) (quiet-past ticks hears) ∙ rests-quiet k (length ticks) (heard_on c heard) hears.rests

  -- the newest tick is quiet
  quiet-now : (ticks : List Moment) (now : Moment) → HearsQuiet k t s c heard (now ∷ ticks) → sample_on now.shown c ≡ Quiet
  quiet-now ticks now hears = same-head (sample_on now.shown c) Quiet (heard_on c ticks) (quiet_ticks (length ticks)) hears.quiet

  -- no burst ends in it
  pub none-ends : (ticks : List Moment) (now : Moment) → HearsQuiet k t s c heard (now ∷ ticks) → ended_now k (heard_on c (now ∷ (ticks ++ heard))) ≡ None
  none-ends ticks now hears =
      ap (λ x. ended_now k (x ∷ heard_on c (ticks ++ heard))) (quiet-now ticks now hears)
      ∙ ended-quiet k (heard_on c (ticks ++ heard)) (rests-past ticks (fewer k t s c heard ticks now hears))

  -- nor a slot
  no-slot : (ticks : List Moment) (now : Moment) → HearsQuiet k t s c heard (now ∷ ticks) → slot_now k (heard_on c (now ∷ (ticks ++ heard))) ≡ None
  no-slot ticks now hears =
      ap (λ x. slot_now k (x ∷ heard_on c (ticks ++ heard))) (quiet-now ticks now hears) ∙ quiet-slot k (heard_on c (ticks ++ heard))

  -- nothing is handled, whatever mark of a transmission it has
  nothing-handled : (m : Option ℕ) (ticks : List Moment) (now : Moment) → is_owed s.duty ≡ true → HearsQuiet k t s c heard (now ∷ ticks) →
      order_now k t (now ∷ (ticks ++ heard)) (with_sent s c m) ≡ None
  nothing-handled m ticks now owed hears =
      let u = with_sent s c m in
      let past = ticks ++ heard in
      let none = owes-no-promise s.duty owed in
      orders-none k t u c (now ∷ past)
      (either-none (ignored_from k (heard_on c past) (mark_on u.sent c)) (order_of k t u c (ended_now k (heard_on c (now ∷ past))))
      (ap (order_of k t u c) (none-ends ticks now hears)))
      (order-unheeded k t u (other_of c) now past (three-first (is_promise s.duty) (same_channel s.channel (other_of c)) (not (superseded k u)) none)
      (unheeded-with k t s c m now past hears.beside.0))
      (no-running k t u (now ∷ past) none)

  -- nor is a slot marked there
  own-marked : (m : Option ℕ) (ticks : List Moment) (now : Moment) → HearsQuiet k t s c heard (now ∷ ticks) →
      addressed_on k t (now ∷ (ticks ++ heard)) (with_sent s c m) c ≡ mark_on (with_sent s c m).addressed c
  own-marked m ticks now hears =
      let u = with_sent s c m in
      let past = ticks ++ heard in
      mark-kept (is_addressed t.address (slot_now k (heard_on c (now ∷ past)))) (ignored_from k (heard_on c past) (mark_on u.sent c)) (length past)
      (mark_on u.addressed c) (inr (ap (is_addressed t.address) (no-slot ticks now hears)))

  -- nor on the other channel
  other-marked : (m : Option ℕ) (ticks : List Moment) (now : Moment) → HearsQuiet k t s c heard (now ∷ ticks) →
      addressed_on k t (now ∷ (ticks ++ heard)) (with_sent s c m) (other_of c) ≡ mark_on (with_sent s c m).addressed (other_of c)
  other-marked m ticks now hears =
      mark-unheeded k t (with_sent s c m) (other_of c) now (ticks ++ heard) (unheeded-with k t s c m now (ticks ++ heard) hears.beside.0)

-- the first tick marks the transmission alone
first-quiet : (k : ℕ) (t : TerminalData) (loads : List TimedLoad) (s : Standing) (c : Channel) (now : Moment) (heard : List Moment) →
    BeginsAnswer k t s c heard → HearsQuiet k t s c heard (now ∷ []) → after_tick k t loads now heard s ≡ with_sent s c (Some (length heard))
first-quiet k t loads s c now heard answer hears =
    let same = sent-same s c in
    tick-begins k t loads s c now heard
    (subst (λ (u : Standing). order_now k t (now ∷ heard) u ≡ None) same (nothing-handled k t s c heard (mark_on s.sent c) [] now answer.owes hears))
    (and_from _ _ (and_from _ _ answer.owes (eq-eqb (length heard) (due_after t s.end) (sym answer.due)))
    (ap not (ap (λ x. given_up k t (heard_on x heard) s) answer.channel ∙ answer.kept)))
    (ap (λ x. same_channel x c) answer.channel ∙ same-itself c)
    (ap (λ x. same_channel x (other_of c)) answer.channel ∙ not-other c)
    (subst (λ (u : Standing). addressed_on k t (now ∷ heard) u c ≡ mark_on u.addressed c) same
    (own-marked k t s c heard (mark_on s.sent c) [] now hears))
    (mark-unheeded k t s (other_of c) now heard hears.beside.0)

-- a later one changes nothing
later-quiet : (k : ℕ) (t : TerminalData) (loads : List TimedLoad) (s : Standing) (c : Channel) (now first : Moment) (heard ticks : List Moment) (m : Option ℕ) →
    BeginsAnswer k t s c heard → HearsQuiet k t s c heard (now ∷ first ∷ ticks) →
    after_tick k t loads now ((first ∷ ticks) ++ heard) (with_sent s c m) ≡ with_sent s c m
later-quiet k t loads s c now first heard ticks m answer hears =
    let u = with_sent s c m in
    let past = (first ∷ ticks) ++ heard in
    let long : length ((first ∷ ticks) ++ heard) ≡ length (first ∷ ticks) + length heard = moments-append (first ∷ ticks) heard in
    tick-marks k t loads u c now past (mark_on u.addressed c)
    (nothing-handled k t s c heard m (first ∷ ticks) now answer.owes hears)
    (three-not (is_owed s.duty) (length past == due_after t s.end) (not (given_up k t (heard_on s.channel past) u))
    (λ owed. ne_eqb (length past) (due_after t s.end) (λ e. omega (arith, e, answer.due, long))))
    (other-marked k t s c heard m (first ∷ ticks) now hears)
    (own-marked k t s c heard m (first ∷ ticks) now hears)
    ∙ same-mark u c

-- so it stands after all of them
pub muted-stands : (k : ℕ) (t : TerminalData) (loads : List TimedLoad) (memory : Memory) (c : Channel) (heard ticks : List Moment) (first : Moment) →
    BeginsAnswer k t (standing k t loads memory heard) c heard → HearsQuiet k t (standing k t loads memory heard) c heard (first ∷ ticks) →
    standing k t loads memory ((first ∷ ticks) ++ heard) ≡ with_sent (standing k t loads memory heard) c (Some (length heard))
unfolding standing
muted-stands k t loads memory c heard [] first answer hears = first-quiet k t loads (standing k t loads memory heard) c first heard answer hears
muted-stands k t loads memory c heard (before ∷ ticks) first answer hears =
    let s = standing k t loads memory heard in
    ap (after_tick k t loads first ((before ∷ ticks) ++ heard))
    (muted-stands k t loads memory c heard ticks before answer (fewer k t s c heard (before ∷ ticks) first hears))
    ∙ later-quiet k t loads s c first before heard ticks (Some (length heard)) answer hears

-- with some mark, also before the first
muted-mark : (k : ℕ) (t : TerminalData) (loads : List TimedLoad) (memory : Memory) (c : Channel) (heard ticks : List Moment) →
    BeginsAnswer k t (standing k t loads memory heard) c heard → HearsQuiet k t (standing k t loads memory heard) c heard ticks →
    (m : Option ℕ) × (standing k t loads memory (ticks ++ heard) ≡ with_sent (standing k t loads memory heard) c m)
muted-mark k t loads memory c heard [] answer hears =
    (mark_on (standing k t loads memory heard).sent c, sym (sent-same (standing k t loads memory heard) c))
muted-mark k t loads memory c heard (first ∷ ticks) answer hears = (Some (length heard), muted-stands k t loads memory c heard ticks first answer hears)

-- ---- how long it sends

module _ (k : ℕ) (t : TerminalData) (s : Standing) (c : Channel) (heard ticks : List Moment) (hears : HearsQuiet k t s c heard ticks) where
  -- where what began with them has its end
  end-so : (o : Option ℕ) → end_since k (quiet_ticks (length ticks) ++ heard_on c heard) (length (heard_on c heard)) ≡ o →
      end_since k (heard_on c (ticks ++ heard)) (length heard) ≡ o
  end-so o is =
      ap (λ xs. end_since k xs (length heard)) (quiet-past k t s c heard ticks hears)
      ∙ ap (end_since k (quiet_ticks (length ticks) ++ heard_on c heard)) (sym (heard-long c heard)) ∙ is

  -- the channel is ignored for k of them
  pub muted-ignores : length ticks ≤ k → ignored_from k (heard_on c (ticks ++ heard)) (Some (length heard)) ≡ true
  muted-ignores few = ap is_none (end-so None (quiet-endless k (length ticks) (heard_on c heard) few))

  -- and heeded again after k + 1
  pub muted-heeds : k < length ticks → ignored_from k (heard_on c (ticks ++ heard)) (Some (length heard)) ≡ false
  muted-heeds many = ap is_none (end-so (Some (length (heard_on c heard))) (quiet-ends k (length ticks) (heard_on c heard) many))

  module _ (answer : BeginsAnswer k t s c heard) where
    still-kept : given_up k t (heard_on c (ticks ++ heard)) s ≡ false
    still-kept =
        let parts = or_parts (superseded k s) (heard_within (heard_on c heard) s.end (due_after t s.end)) answer.kept in
        let long : length (heard_on c heard) ≡ length heard = heard-long c heard in
        or_from (superseded k s) _ parts.0
        (ap (λ xs. heard_within xs s.end (due_after t s.end)) (heard-append c ticks heard)
        ∙ within-later (heard_on c ticks) (heard_on c heard) s.end (due_after t s.end) (omega (arith, answer.due, long)) parts.1)

    over-so : (o : Option ℕ) → end_since k (heard_on c (ticks ++ heard)) (length heard) ≡ o → is_over k t (heard_on c (ticks ++ heard)) s ≡ is_some o
    over-so o is = ap (λ a. is_some (end_since k (heard_on c (ticks ++ heard)) a)) answer.due ∙ ap is_some is

    pub muted-over : k < length ticks → is_over k t (heard_on c (ticks ++ heard)) s ≡ true
    muted-over many = over-so (Some (length (heard_on c heard))) (end-so _ (quiet-ends k (length ticks) (heard_on c heard) many))

    pub muted-sends : (m : Option ℕ) (words : List Word) (acceptance : Bool) → s.duty ≡ owes words acceptance → length ticks ≤ k →
        drive_duty k t (heard_on s.channel (ticks ++ heard)) (with_sent s c m) s.duty ≡ drive_sample c s.part words (length ticks)
    muted-sends m words acceptance duty few =
        let past = heard_on c (ticks ++ heard) in
        let long : length (heard_on c (ticks ++ heard)) ≡ length ticks + length heard = heard-long c (ticks ++ heard) ∙ moments-append ticks heard in
        let at : length (heard_on c (ticks ++ heard)) - due_after t s.end ≡ length ticks = omega (arith, long, answer.due) in
        let started : nat_lt (length (heard_on c (ticks ++ heard))) (due_after t s.end) ≡ false =
        le-ltb (length past) (due_after t s.end) (omega (arith, long, answer.due)) in
        let runs : is_over k t (heard_on c (ticks ++ heard)) s ≡ false = over-so None (end-so None (quiet-endless k (length ticks) (heard_on c heard) few)) in
        let test : (nat_lt (length (heard_on c (ticks ++ heard))) (due_after t s.end) || given_up k t (heard_on c (ticks ++ heard)) (with_sent s c m)
        || is_over k t (heard_on c (ticks ++ heard)) (with_sent s c m)) ≡ false = or_from _ _ (or_from _ _ started still-kept) runs in
        ap (λ x. drive_duty k t (heard_on x (ticks ++ heard)) (with_sent s c m) s.duty) answer.channel
        ∙ ap (drive_duty k t past (with_sent s c m)) duty
        ∙ (rw test (ap (λ x. drive_sample x s.part words (length past - due_after t s.end)) answer.channel ∙ ap (drive_sample c s.part words) at))

    pub muted-off : (m : Option ℕ) (duty : Duty) → k < length ticks → drive_duty k t (heard_on s.channel (ticks ++ heard)) (with_sent s c m) duty ≡ Silent
    muted-off m free many = refl
    muted-off m (promises command transmitter) many = refl
    muted-off m (owes words acceptance) many =
        let test : (nat_lt (length (heard_on c (ticks ++ heard))) (due_after t s.end) || given_up k t (heard_on c (ticks ++ heard)) (with_sent s c m)
        || is_over k t (heard_on c (ticks ++ heard)) (with_sent s c m)) ≡ true = or_right _ _ (muted-over many) in
        ap (λ x. drive_duty k t (heard_on x (ticks ++ heard)) (with_sent s c m) (owes words acceptance)) answer.channel ∙ (rw test refl)

-- ---- the terminal

-- for k ticks it sends
pub mute-sends : (k : ℕ) (t : TerminalData) (loads : List TimedLoad) (memory : Memory) (c : Channel) (heard ticks : List Moment)
    (words : List Word) (acceptance : Bool) → BeginsAnswer k t (standing k t loads memory heard) c heard →
    HearsQuiet k t (standing k t loads memory heard) c heard ticks → (standing k t loads memory heard).duty ≡ owes words acceptance → length ticks ≤ k →
    drives k t loads record { memory = memory; ticks = ticks ++ heard } ≡ drive_sample c (standing k t loads memory heard).part words (length ticks)
mute-sends k t loads memory c heard ticks words acceptance answer hears duty few =
    let s = standing k t loads memory heard in
    let m = muted-mark k t loads memory c heard ticks answer hears in
    ap (λ (u : Standing). drive_duty k t (heard_on u.channel (ticks ++ heard)) u u.duty) m.1
    ∙ muted-sends k t s c heard ticks hears answer m.0 words acceptance duty few

-- and then it doesn't
pub mute-silent : (k : ℕ) (t : TerminalData) (loads : List TimedLoad) (memory : Memory) (c : Channel) (heard ticks : List Moment) →
    BeginsAnswer k t (standing k t loads memory heard) c heard → HearsQuiet k t (standing k t loads memory heard) c heard ticks → k < length ticks →
    drives k t loads record { memory = memory; ticks = ticks ++ heard } ≡ Silent
mute-silent k t loads memory c heard ticks answer hears many =
    let s = standing k t loads memory heard in
    let m = muted-mark k t loads memory c heard ticks answer hears in
    ap (λ (u : Standing). drive_duty k t (heard_on u.channel (ticks ++ heard)) u u.duty) m.1
    ∙ muted-off k t s c heard ticks hears answer m.0 s.duty many

-- no control is accepted without the end of a burst
accepts-none : (k : ℕ) (t : TerminalData) (loads : List TimedLoad) (past : List Sample) (x : Sample) (s : Standing) (duty : Duty) →
    ended_now k (x ∷ past) ≡ None → accepted_by k t loads past x s duty ≡ None
accepts-none k t loads past x s free none = refl
accepts-none k t loads past x s (promises command transmitter) none = refl
accepts-none k t loads past x s (owes words false) none = refl
accepts-none k t loads past x s (owes words true) none =
    either-none (given_up k t past s) (heard_status (due_after t s.end) (ended_now k (x ∷ past))) (ap (heard_status (due_after t s.end)) none)

-- and no block is taken
pub mute-takes : (k : ℕ) (t : TerminalData) (loads : List TimedLoad) (memory : Memory) (c : Channel) (heard ticks : List Moment) (now : Moment) →
    BeginsAnswer k t (standing k t loads memory heard) c heard → HearsQuiet k t (standing k t loads memory heard) c heard (now ∷ ticks) →
    (took_now k t loads record { memory = memory; ticks = (now ∷ ticks) ++ heard } ≡ None)
    × (accepted_now k t loads record { memory = memory; ticks = (now ∷ ticks) ++ heard } ≡ None)
mute-takes k t loads memory c heard ticks now answer hears =
    let s = standing k t loads memory heard in
    let past = ticks ++ heard in
    let m = muted-mark k t loads memory c heard ticks answer (fewer k t s c heard ticks now hears) in (
      ap (λ (u : Standing). taken_by k t loads (length past) now.has_items u (order_now k t (now ∷ past) u)) m.1
          ∙ ap (taken_by k t loads (length past) now.has_items (with_sent s c m.0)) (nothing-handled k t s c heard m.0 ticks now answer.owes hears),
      ap (λ (u : Standing). accepted_by k t loads (heard_on u.channel past) (sample_on now.shown u.channel) u u.duty) m.1
          ∙ ap (λ x. accepted_by k t loads (heard_on x past) (sample_on now.shown x) (with_sent s c m.0) s.duty) answer.channel
          ∙ accepts-none k t loads (heard_on c past) (sample_on now.shown c) (with_sent s c m.0) s.duty (none-ends k t s c heard ticks now hears),
    )
