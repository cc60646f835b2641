-- A terminal that answers: it goes on sending, and ignores what it sends.
use Rattle.std.proofs.Common.{◌≡◌, inl, inr, ℕ, ◌+◌, ◌-◌, ◌≤◌, Bool, true, false, not, List, [], ◌∷◌, ◌++◌, length, Option, Some, None, refl, sym, ap, ◌∙◌, arith}
use Rattle.std.proofs.lemmas.Bool.{and_from, or_from, or_parts, or_right, eq-eqb, ne_eqb, le-ltb, true≢false, false_from_ne_true}
use Rattle.std.specs.Prelude.{◌||◌, ◌==◌, nat_lt, is_some, is_none}
use Rattle.bus_base.specs.Samples.{is_quiet, sample_on, other_of, same_channel}
use Rattle.bus_base.specs.declared.samples.Channel.{Channel}
use Rattle.bus_base.specs.declared.samples.Channel.TheVariants.{A, B}
use Rattle.bus_base.specs.declared.samples.Sample.{Sample}
use Rattle.bus_words.specs.declared.word.Word.{Word}
use Rattle.bus_line.specs.Past.{runs, first_tick, ended_now, slot_now, slot_number, slot_of, heard_within, end_since}
use Rattle.bus_line.proofs.HeardLaws.{heard_within-is, heard_within-from}
use Rattle.bus_line.proofs.TickLaws.{at-later}
use Rattle.bus_formats.specs.Plans.{TerminalData}
use Rattle.bus_model.specs.Memory.{Memory, TimedLoad}
use Rattle.bus_model.specs.Orders.{Duty, free, owes, promises, due_after}
use Rattle.bus_model.specs.Sending.{drive_sample}
use Rattle.bus_model.specs.Hearing.{Moment, heard_on, is_addressed}
use Rattle.bus_model.specs.Standing.{Standing, mark_on, superseded, ignored_from, is_owed, is_promise}
use Rattle.bus_model.specs.Terminal.{given_up, is_over, drive_duty, order_of, order_on, running_out, order_now, begins, addressed_on, marked_by, ordered, after_tick, standing, drives}
use Rattle.bus_law_stations.specs.Legs.{with_sent, IsUnheeded, HearsBurst, BeginsAnswer}
use Rattle.bus_law_stations.proofs.Resting.{heard-long}
use Rattle.bus_law_stations.proofs.LegTicks.{heard-append, leg-ends-not, leg-endless}
use Rattle.bus_law_stations.proofs.Ready.{same-mark, either-none, orders-none, tick-marks, not-other, three-not, three-first, order-unheeded, mark-unheeded, mark-kept, moments-append}
use Rattle.bus_law_stations.proofs.BurstEnds.{same-itself}

sent-own : (s : Standing) (c : Channel) (m : Option ℕ) → mark_on (with_sent s c m).sent c ≡ m
sent-own s A m = refl
sent-own s B m = refl

sent-other : (s : Standing) (c : Channel) (m : Option ℕ) → mark_on (with_sent s c m).sent (other_of c) ≡ mark_on s.sent (other_of c)
sent-other s A m = refl
sent-other s B m = refl

sent-same : (s : Standing) (c : Channel) → with_sent s c (mark_on s.sent c) ≡ s
sent-same s A = refl
sent-same s B = refl

pub owes-no-promise : (duty : Duty) → is_owed duty ≡ true → is_promise duty ≡ false
owes-no-promise free owed = refl
owes-no-promise (owes words acceptance) owed = refl
owes-no-promise (promises command transmitter) owed = absurd (true≢false (sym owed))

no-running : (k : ℕ) (t : TerminalData) (s : Standing) (past : List Moment) → is_promise s.duty ≡ false → running_out k t past s ≡ None
no-running k t s past none = rw none refl

-- the other channel, with the mark of the transmission
unheeded-with : (k : ℕ) (t : TerminalData) (s : Standing) (c : Channel) (m : Option ℕ) (now : Moment) (past : List Moment) →
    IsUnheeded k t s (other_of c) (now ∷ past) → IsUnheeded k t (with_sent s c m) (other_of c) (now ∷ past)
unheeded-with k t s c m now past (inl ignored) = inl (ap (ignored_from k (heard_on (other_of c) past)) (sent-other s c m) ∙ ignored)
unheeded-with k t s c m now past (inr none) = inr none

-- ---- its first tick

tick-begins : (k : ℕ) (t : TerminalData) (loads : List TimedLoad) (s : Standing) (c : Channel) (now : Moment) (past : List Moment) →
    order_now k t (now ∷ past) s ≡ None → begins k t past s ≡ true → same_channel s.channel c ≡ true → same_channel s.channel (other_of c) ≡ false →
    addressed_on k t (now ∷ past) s c ≡ mark_on s.addressed c → addressed_on k t (now ∷ past) s (other_of c) ≡ mark_on s.addressed (other_of c) →
    after_tick k t loads now past s ≡ with_sent s c (Some (length past))
tick-begins k t loads s A now past none begun on off own other =
    ap (λ o. marked_by k t now past s (ordered k t loads (length past) now.has_items s o)) none ∙ (rw (begun, on, off, own, other) refl)
tick-begins k t loads s B now past none begun on off own other =
    ap (λ o. marked_by k t now past s (ordered k t loads (length past) now.has_items s o)) none ∙ (rw (begun, on, off, own, other) refl)

-- no slot ends in the first tick of a burst
first-slot : (k : ℕ) (x : Sample) (past : List Sample) → runs k past ≡ false → slot_now k (x ∷ past) ≡ None
first-slot k x past rests =
    let test : (is_quiet x || not (runs k past)) ≡ true = or_right (is_quiet x) (not (runs k past)) (ap not rests) in
    let number : slot_number k (x ∷ past) ≡ None = rw test refl in
    ap (slot_of (x ∷ past) (first_tick k (x ∷ past))) number

first-tick : (k : ℕ) (t : TerminalData) (loads : List TimedLoad) (s : Standing) (c : Channel) (now : Moment) (heard : List Moment) →
    BeginsAnswer k t s c heard → HearsBurst k t s c heard (now ∷ []) → after_tick k t loads now heard s ≡ with_sent s c (Some (length heard))
first-tick k t loads s c now heard answer hears =
    let none = owes-no-promise s.duty answer.owes in
    let ended : ended_now k (heard_on c (now ∷ heard)) ≡ None = leg-ends-not k (sample_on now.shown c) [] (heard_on c heard) hears.leg in
    let slot : slot_now k (heard_on c (now ∷ heard)) ≡ None = first-slot k (sample_on now.shown c) (heard_on c heard) hears.rests in
    let own : order_on k t (now ∷ heard) s c ≡ None =
    either-none (ignored_from k (heard_on c heard) (mark_on s.sent c)) (order_of k t s c (ended_now k (heard_on c (now ∷ heard))))
    (ap (order_of k t s c) ended) in
    tick-begins k t loads s c now heard
    (orders-none k t s c (now ∷ heard) own
    (order-unheeded k t s (other_of c) now heard
    (three-first (is_promise s.duty) (same_channel s.channel (other_of c)) (not (superseded k s)) none) hears.beside.0)
    (no-running k t s (now ∷ heard) none))
    (and_from _ _ (and_from _ _ answer.owes (eq-eqb (length heard) (due_after t s.end) (sym answer.due)))
    (ap not (ap (λ x. given_up k t (heard_on x heard) s) answer.channel ∙ answer.kept)))
    (ap (λ x. same_channel x c) answer.channel ∙ same-itself c)
    (ap (λ x. same_channel x (other_of c)) answer.channel ∙ not-other c)
    (mark-kept (is_addressed t.address (slot_now k (heard_on c (now ∷ heard)))) (ignored_from k (heard_on c heard) (mark_on s.sent c)) (length heard)
    (mark_on s.addressed c) (inr (ap (is_addressed t.address) slot)))
    (mark-unheeded k t s (other_of c) now heard hears.beside.0)

-- ---- a later one

later-tick : (k : ℕ) (t : TerminalData) (loads : List TimedLoad) (s : Standing) (c : Channel) (now first : Moment) (heard ticks : List Moment) →
    BeginsAnswer k t s c heard → HearsBurst k t s c heard (first ∷ ticks) → IsUnheeded k t s (other_of c) (now ∷ ((first ∷ ticks) ++ heard)) →
    after_tick k t loads now ((first ∷ ticks) ++ heard) (with_sent s c (Some (length heard))) ≡ with_sent s c (Some (length heard))
later-tick k t loads s c now first heard ticks answer hears beside =
    let u = with_sent s c (Some (length heard)) in
    let past = (first ∷ ticks) ++ heard in
    let none = owes-no-promise s.duty answer.owes in
    let long : length ((first ∷ ticks) ++ heard) ≡ length (first ∷ ticks) + length heard = moments-append (first ∷ ticks) heard in
    let endless : end_since k (heard_on c ((first ∷ ticks) ++ heard)) (length heard) ≡ None =
    ap (λ xs. end_since k xs (length heard)) (heard-append c (first ∷ ticks) heard)
    ∙ ap (end_since k (heard_on c (first ∷ ticks) ++ heard_on c heard)) (sym (heard-long c heard))
    ∙ leg-endless k (heard_on c (first ∷ ticks)) (heard_on c heard) hears.rests hears.leg in
    let ignored : ignored_from k (heard_on c ((first ∷ ticks) ++ heard)) (mark_on (with_sent s c (Some (length heard))).sent c) ≡ true =
    ap (ignored_from k (heard_on c past)) (sent-own s c (Some (length heard))) ∙ ap is_none endless in
    let other = unheeded-with k t s c (Some (length heard)) now past beside in
    let own : order_on k t (now ∷ past) u c ≡ None = rw ignored refl in
    tick-marks k t loads u c now past (mark_on u.addressed c)
    (orders-none k t u c (now ∷ past) own
    (order-unheeded k t u (other_of c) now past (three-first (is_promise s.duty) (same_channel s.channel (other_of c)) (not (superseded k u)) none) other)
    (no-running k t u (now ∷ past) none))
    (three-not (is_owed s.duty) (length past == due_after t s.end) (not (given_up k t (heard_on s.channel past) u))
    (λ owed. ne_eqb (length past) (due_after t s.end) (λ e. omega (arith, e, answer.due, long))))
    (mark-unheeded k t u (other_of c) now past other)
    (mark-kept (is_addressed t.address (slot_now k (heard_on c (now ∷ past)))) (ignored_from k (heard_on c past) (mark_on u.sent c)) (length past)
    (mark_on u.addressed c) (inl ignored))
    ∙ same-mark u c

pub sender-stands : (k : ℕ) (t : TerminalData) (loads : List TimedLoad) (memory : Memory) (c : Channel) (heard ticks : List Moment) (first : Moment) →
    BeginsAnswer k t (standing k t loads memory heard) c heard → HearsBurst k t (standing k t loads memory heard) c heard (first ∷ ticks) →
    standing k t loads memory ((first ∷ ticks) ++ heard) ≡ with_sent (standing k t loads memory heard) c (Some (length heard))
unfolding standing
sender-stands k t loads memory c heard [] first answer hears = first-tick k t loads (standing k t loads memory heard) c first heard answer hears
sender-stands k t loads memory c heard (before ∷ ticks) first answer hears =
    let s = standing k t loads memory heard in
    let less : HearsBurst k t (standing k t loads memory heard) c heard (before ∷ ticks) =
    record { rests = hears.rests; leg = hears.leg.2; beside = hears.beside.1 } in
    ap (after_tick k t loads first ((before ∷ ticks) ++ heard)) (sender-stands k t loads memory c heard ticks before answer less)
    ∙ later-tick k t loads s c first before heard ticks answer less hears.beside.0

pub sender-ends : (k : ℕ) (t : TerminalData) (loads : List TimedLoad) (memory : Memory) (c : Channel) (heard ticks : List Moment) (now first : Moment) →
    BeginsAnswer k t (standing k t loads memory heard) c heard → HearsBurst k t (standing k t loads memory heard) c heard (first ∷ ticks) →
    IsUnheeded k t (standing k t loads memory heard) (other_of c) (now ∷ ((first ∷ ticks) ++ heard)) →
    standing k t loads memory (now ∷ ((first ∷ ticks) ++ heard)) ≡ with_sent (standing k t loads memory heard) c (Some (length heard))
unfolding standing
sender-ends k t loads memory c heard ticks now first answer hears beside =
    ap (after_tick k t loads now ((first ∷ ticks) ++ heard)) (sender-stands k t loads memory c heard ticks first answer hears)
    ∙ later-tick k t loads (standing k t loads memory heard) c now first heard ticks answer hears beside

-- ---- what it sends

-- ticks from a tick on change nothing of what was heard before it
within-later : (later past : List Sample) (a b : ℕ) → b ≤ length past → heard_within past a b ≡ false → heard_within (later ++ past) a b ≡ false
within-later later past a b early none =
    false_from_ne_true (heard_within (later ++ past) a b) (λ heard.
    let w = heard_within-is (later ++ past) a b heard in
    let yes = heard_within-from past a b w.0 w.1 w.2 (λ e. w.3 (at-later later past w.0 (omega (arith, w.2, early)) ∙ e)) in
    true≢false (sym yes ∙ none))

module _ (k : ℕ) (t : TerminalData) (s : Standing) (c : Channel) (heard ticks : List Moment) (answer : BeginsAnswer k t s c heard)
    (hears : HearsBurst k t s c heard ticks) where
  still-kept : given_up k t (heard_on c (ticks ++ heard)) s ≡ false
  still-kept =
      let parts = or_parts (superseded k s) (heard_within (heard_on c heard) s.end (due_after t s.end)) answer.kept in
      let long : length (heard_on c heard) ≡ length heard = heard-long c heard in
      or_from (superseded k s) _ parts.0
      (ap (λ xs. heard_within xs s.end (due_after t s.end)) (heard-append c ticks heard)
      ∙ within-later (heard_on c ticks) (heard_on c heard) s.end (due_after t s.end) (omega (arith, answer.due, long)) parts.1)

  still-runs : is_over k t (heard_on c (ticks ++ heard)) s ≡ false
  still-runs =
      ap (λ xs. is_some (end_since k xs (due_after t s.end))) (heard-append c ticks heard)
      ∙ ap (λ a. is_some (end_since k (heard_on c ticks ++ heard_on c heard) a)) (answer.due ∙ sym (heard-long c heard))
      ∙ ap is_some (leg-endless k (heard_on c ticks) (heard_on c heard) hears.rests hears.leg)

  sends-on : (m : Option ℕ) (words : List Word) (acceptance : Bool) → s.duty ≡ owes words acceptance →
      drive_duty k t (heard_on s.channel (ticks ++ heard)) (with_sent s c m) s.duty ≡ drive_sample c s.part words (length ticks)
  sends-on m words acceptance duty =
      let past = heard_on c (ticks ++ heard) in
      let long : length (heard_on c (ticks ++ heard)) ≡ length ticks + length heard = heard-long c (ticks ++ heard) ∙ moments-append ticks heard in
      let at : length (heard_on c (ticks ++ heard)) - due_after t s.end ≡ length ticks = omega (arith, long, answer.due) in
      let started : nat_lt (length (heard_on c (ticks ++ heard))) (due_after t s.end) ≡ false =
      le-ltb (length past) (due_after t s.end) (omega (arith, long, answer.due)) in
      let test : (nat_lt (length (heard_on c (ticks ++ heard))) (due_after t s.end) || given_up k t (heard_on c (ticks ++ heard)) (with_sent s c m)
      || is_over k t (heard_on c (ticks ++ heard)) (with_sent s c m)) ≡ false = or_from _ _ (or_from _ _ started still-kept) still-runs in
      ap (λ x. drive_duty k t (heard_on x (ticks ++ heard)) (with_sent s c m) s.duty) answer.channel
      ∙ ap (drive_duty k t past (with_sent s c m)) duty
      ∙ (rw test (ap (λ x. drive_sample x s.part words (length past - due_after t s.end)) answer.channel ∙ ap (drive_sample c s.part words) at))

sent-mark : (k : ℕ) (t : TerminalData) (loads : List TimedLoad) (memory : Memory) (c : Channel) (heard ticks : List Moment) →
    BeginsAnswer k t (standing k t loads memory heard) c heard → HearsBurst k t (standing k t loads memory heard) c heard ticks →
    (m : Option ℕ) × (standing k t loads memory (ticks ++ heard) ≡ with_sent (standing k t loads memory heard) c m)
sent-mark k t loads memory c heard [] answer hears =
    (mark_on (standing k t loads memory heard).sent c, sym (sent-same (standing k t loads memory heard) c))
sent-mark k t loads memory c heard (first ∷ ticks) answer hears = (Some (length heard), sender-stands k t loads memory c heard ticks first answer hears)

pub sender-drives : (k : ℕ) (t : TerminalData) (loads : List TimedLoad) (memory : Memory) (c : Channel) (heard ticks : List Moment)
    (words : List Word) (acceptance : Bool) → BeginsAnswer k t (standing k t loads memory heard) c heard →
    HearsBurst k t (standing k t loads memory heard) c heard ticks → (standing k t loads memory heard).duty ≡ owes words acceptance →
    drives k t loads record { memory = memory; ticks = ticks ++ heard } ≡ drive_sample c (standing k t loads memory heard).part words (length ticks)
sender-drives k t loads memory c heard ticks words acceptance answer hears duty =
    let s = standing k t loads memory heard in
    let m = sent-mark k t loads memory c heard ticks answer hears in
    ap (λ (u : Standing). drive_duty k t (heard_on u.channel (ticks ++ heard)) u u.duty) m.1
    ∙ sends-on k t s c heard ticks answer hears m.0 words acceptance duty
