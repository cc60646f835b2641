-- A terminal of which nothing is due, over quiet ticks.
use Rattle.std.proofs.Common.{◌≡◌, ◌⊎◌, inl, inr, ℕ, suc, ◌+◌, ◌<◌, ◌≤◌, Bool, true, false, not, List, [], ◌∷◌, ◌++◌, length, Option, None, refl, ap, ◌∙◌, arith}
use Rattle.std.proofs.lemmas.Bool.{or_left, or_right, lt-ltb}
use Rattle.std.proofs.lemmas.Bool.Decides.{nat_tests}
use Rattle.std.specs.Prelude.{◌&&◌, ◌||◌, ◌==◌, nat_lt, if◌then◌else◌}
use Rattle.bus_base.specs.Samples.{sample_on}
use Rattle.bus_base.specs.declared.samples.Channel.{Channel}
use Rattle.bus_base.specs.declared.samples.Channel.TheVariants.{A, B}
use Rattle.bus_base.specs.declared.samples.Sample.{Sample}
use Rattle.bus_base.specs.declared.samples.Drive.TheVariants.{Silent}
use Rattle.bus_line.specs.Past.{runs, ended_now, heard_within}
use Rattle.bus_formats.specs.Plans.{TerminalData}
use Rattle.bus_formats.specs.Times.{relay_wait}
use Rattle.bus_model.specs.Memory.{Memory, TimedLoad}
use Rattle.bus_model.specs.Orders.{Duty, free, owes, promises, due_after}
use Rattle.bus_model.specs.Hearing.{Moment, heard_on}
use Rattle.bus_model.specs.Standing.{Standing, Handled, superseded, ignored_from, mark_on, is_owed, promised_on}
use Rattle.bus_model.specs.Terminal.{given_up, is_over, drive_duty, heard_status, order_of, order_on, running_out, order_now, begins, marked_by, ordered, after_tick, standing, drives, taken_by, took_now, accepted_by, accepted_now}
use Rattle.bus_base.specs.Samples.{quiet_pair}
use Rattle.bus_law_stations.specs.Silence.{quiet_moments, NothingDue}
use Rattle.bus_law_stations.proofs.Resting.{quiet-on, heard-quiet, heard-long, moments-long, rests-quiet, ended-quiet, within-quiet, over-quiet, over-late}

abbrev pub quiet_moment : Bool → Moment
quiet_moment may = record { shown = quiet_pair; has_items = may }

-- ---- nothing is due later either

or-more : (a b c : Bool) → (b ≡ true → c ≡ true) → (a || b) ≡ true → (a || c) ≡ true
or-more true b c more h = refl
or-more false b c more h = more h

pub given-quiet : (k : ℕ) (t : TerminalData) (s : Standing) (c : Channel) (heard : List Moment) (mays : List Bool) →
    given_up k t (heard_on c heard) s ≡ true → given_up k t (heard_on c (quiet_moments mays ++ heard)) s ≡ true
given-quiet k t s c heard mays given = rw (heard-quiet c mays heard)
    (or-more (superseded k s) (heard_within (heard_on c heard) s.end (due_after t s.end)) _
    (within-quiet (length mays) (heard_on c heard) s.end (due_after t s.end)) given)

pub over-moments : (k : ℕ) (t : TerminalData) (s : Standing) (c : Channel) (heard : List Moment) (mays : List Bool) →
    is_over k t (heard_on c heard) s ≡ true → is_over k t (heard_on c (quiet_moments mays ++ heard)) s ≡ true
over-moments k t s c heard mays over = rw (heard-quiet c mays heard) (over-quiet k (length mays) (heard_on c heard) (due_after t s.end) over)

rests-moments : (k : ℕ) (c : Channel) (heard : List Moment) (mays : List Bool) → runs k (heard_on c heard) ≡ false →
    runs k (heard_on c (quiet_moments mays ++ heard)) ≡ false
rests-moments k c heard mays none = rw (heard-quiet c mays heard) (rests-quiet k (length mays) (heard_on c heard) none)

pub due-later : (k : ℕ) (t : TerminalData) (s : Standing) (heard : List Moment) (mays : List Bool) (n m : ℕ) → NothingDue k t s heard n →
    length mays + m ≤ n → NothingDue k t s (quiet_moments mays ++ heard) m
due-later k t s heard mays n m due fits =
    let long : length (quiet_moments mays ++ heard) ≡ length mays + length heard = moments-long mays heard in
    record {
      rests_a = rests-moments k A heard mays due.rests_a;
      rests_b = rests-moments k B heard mays due.rests_b;
      answer = λ owed. elim (due.answer owed) [
        | inl early ↦ inl (omega (arith, early, long, fits))
        | inr gone ↦ elim gone [
          | inl given ↦ inr (inl (given-quiet k t s s.channel heard mays given))
          | inr over ↦ inr (inr (over-moments k t s s.channel heard mays over))
        ]
      ];
      promise = λ promised. elim (due.promise promised) [
        | inl early ↦ inl (omega (arith, early, long, fits))
        | inr late ↦ inr (omega (arith, late, long))
      ];
    }

-- ---- one tick

three-false : (a b c : Bool) → (a ≡ true → (b ≡ false) ⊎ (c ≡ true)) → (a && b && not c) ≡ false
three-false false b c h = refl
three-false true false c h = refl
three-false true true true h = refl
three-false true true false h = elim (h refl) [
  | inl e ↦ e
  | inr e ↦ absurd (grind (arith, e))
]

begins-not : (k : ℕ) (t : TerminalData) (s : Standing) (heard : List Moment) → NothingDue k t s heard 1 → begins k t heard s ≡ false
begins-not k t s heard due =
    three-false (is_owed s.duty) (length heard == due_after t s.end) (given_up k t (heard_on s.channel heard) s)
    (λ owed. elim (due.answer owed) [
      | inl early ↦ inl (grind (arith, nat_tests, early))
      | inr gone ↦ elim gone [
        | inl given ↦ inr given
        | inr over ↦ (
            let late : due_after t s.end < length (heard_on s.channel heard) = over-late k (heard_on s.channel heard) (due_after t s.end) over in
            let long : length (heard_on s.channel heard) ≡ length heard = heard-long s.channel heard in
            inl (grind (arith, nat_tests, late, long)))
      ]
    ])

two-false : (a b c : Bool) → (a ≡ true → b ≡ false) → (a && b && c) ≡ false
two-false false b c h = refl
two-false true b c h = rw (h refl) refl

running-not : (k : ℕ) (t : TerminalData) (s : Standing) (now : Moment) (heard : List Moment) → NothingDue k t s heard 1 →
    running_out k t (now ∷ heard) s ≡ None
running-not k t s now heard due =
    let test = two-false (promised_on k s s.channel) (length (now ∷ heard) == suc (s.end + relay_wait))
    (not (heard_within (heard_on s.channel (now ∷ heard)) s.end (length (now ∷ heard))))
    (λ promised. let far = due.promise promised in grind (arith, nat_tests, far)) in
    rw test refl

either-none : (b : Bool) (o : Option Handled) → o ≡ None → (if b then None else o) ≡ None
either-none true o none = refl
either-none false o none = none

pub order-quiet : (k : ℕ) (t : TerminalData) (s : Standing) (c : Channel) (may : Bool) (heard : List Moment) → runs k (heard_on c heard) ≡ false →
    order_on k t (quiet_moment may ∷ heard) s c ≡ None
order-quiet k t s c may heard none =
    either-none (ignored_from k (heard_on c heard) (mark_on s.sent c)) (order_of k t s c (ended_now k (heard_on c (quiet_moment may ∷ heard))))
    (ap (λ x. order_of k t s c (ended_now k (x ∷ heard_on c heard))) (quiet-on c) ∙ ap (order_of k t s c) (ended-quiet k (heard_on c heard) none))

pub nothing-now : (k : ℕ) (t : TerminalData) (s : Standing) (may : Bool) (heard : List Moment) → NothingDue k t s heard 1 →
    order_now k t (quiet_moment may ∷ heard) s ≡ None
nothing-now k t s may heard due =
    rw (order-quiet k t s A may heard due.rests_a, order-quiet k t s B may heard due.rests_b, running-not k t s (quiet_moment may) heard due) refl

unmarked : (k : ℕ) (t : TerminalData) (s : Standing) (may : Bool) (heard : List Moment) → begins k t heard s ≡ false →
    marked_by k t (quiet_moment may) heard s s ≡ s
unmarked k t s may heard none = rw none refl

pub still-tick : (k : ℕ) (t : TerminalData) (loads : List TimedLoad) (s : Standing) (may : Bool) (heard : List Moment) → NothingDue k t s heard 1 →
    after_tick k t loads (quiet_moment may) heard s ≡ s
still-tick k t loads s may heard due =
    ap (λ o. marked_by k t (quiet_moment may) heard s (ordered k t loads (length heard) may s o)) (nothing-now k t s may heard due)
    ∙ unmarked k t s may heard (begins-not k t s heard due)

-- ---- many ticks

pub still-stands : (k : ℕ) (t : TerminalData) (loads : List TimedLoad) (memory : Memory) (heard : List Moment) (mays : List Bool) →
    NothingDue k t (standing k t loads memory heard) heard (length mays) →
    standing k t loads memory (quiet_moments mays ++ heard) ≡ standing k t loads memory heard
unfolding standing
still-stands k t loads memory heard [] due = refl
still-stands k t loads memory heard (may ∷ mays) due =
    let s = standing k t loads memory heard in
    let before = still-stands k t loads memory heard mays (due-later k t s heard [] (suc (length mays)) (length mays) due (omega arith)) in
    ap (after_tick k t loads (quiet_moment may) (quiet_moments mays ++ heard)) before
    ∙ still-tick k t loads s may (quiet_moments mays ++ heard) (due-later k t s heard mays (suc (length mays)) 1 due (omega arith))

-- ---- what it sends, takes and accepts

silent-by : (k : ℕ) (t : TerminalData) (s : Standing) (heard : List Moment) (duty : Duty) → s.duty ≡ duty → NothingDue k t s heard 1 →
    drive_duty k t (heard_on s.channel heard) s duty ≡ Silent
silent-by k t s heard free e due = refl
silent-by k t s heard (promises command transmitter) e due = refl
silent-by k t s heard (owes words acceptance) e due =
    let owed : is_owed s.duty ≡ true = rw e refl in
    let long : length (heard_on s.channel heard) ≡ length heard = heard-long s.channel heard in
    let early = nat_lt (length (heard_on s.channel heard)) (due_after t s.end) in
    let test : (nat_lt (length (heard_on s.channel heard)) (due_after t s.end) || given_up k t (heard_on s.channel heard) s
    || is_over k t (heard_on s.channel heard) s) ≡ true =
    elim (due.answer owed) [
      | inl less ↦ or_left _ _ (or_left _ _ (lt-ltb (length (heard_on s.channel heard)) (due_after t s.end) (omega (arith, less, long))))
      | inr gone ↦ elim gone [
        | inl given ↦ or_left _ _ (or_right early _ given)
        | inr over ↦ or_right _ _ over
      ]
    ] in
    rw test refl

pub still-silent : (k : ℕ) (t : TerminalData) (loads : List TimedLoad) (memory : Memory) (heard : List Moment) (mays : List Bool) →
    NothingDue k t (standing k t loads memory heard) heard (suc (length mays)) →
    drives k t loads record { memory = memory; ticks = quiet_moments mays ++ heard } ≡ Silent
still-silent k t loads memory heard mays due =
    let s = standing k t loads memory heard in
    let stands = still-stands k t loads memory heard mays (due-later k t s heard [] (suc (length mays)) (length mays) due (omega arith)) in
    ap (λ (u : Standing). drive_duty k t (heard_on u.channel (quiet_moments mays ++ heard)) u u.duty) stands
    ∙ silent-by k t s (quiet_moments mays ++ heard) s.duty refl (due-later k t s heard mays (suc (length mays)) 1 due (omega arith))

pub still-takes : (k : ℕ) (t : TerminalData) (loads : List TimedLoad) (memory : Memory) (heard : List Moment) (may : Bool) (mays : List Bool) →
    NothingDue k t (standing k t loads memory heard) heard (length (may ∷ mays)) →
    took_now k t loads record { memory = memory; ticks = quiet_moments (may ∷ mays) ++ heard } ≡ None
still-takes k t loads memory heard may mays due =
    let s = standing k t loads memory heard in
    let later = quiet_moments mays ++ heard in
    let stands = still-stands k t loads memory heard mays (due-later k t s heard [] (suc (length mays)) (length mays) due (omega arith)) in
    ap (λ (u : Standing). taken_by k t loads (length later) may u (order_now k t (quiet_moment may ∷ later) u)) stands
    ∙ ap (taken_by k t loads (length later) may s)
    (nothing-now k t s may later (due-later k t s heard mays (suc (length mays)) 1 due (omega arith)))

rests-either : (k : ℕ) (c : Channel) (t : TerminalData) (s : Standing) (heard : List Moment) → NothingDue k t s heard 1 → runs k (heard_on c heard) ≡ false
rests-either k A t s heard due = due.rests_a
rests-either k B t s heard due = due.rests_b

either-nothing : (b : Bool) (o : Option ℕ) → o ≡ None → (if b then None else o) ≡ None
either-nothing true o none = refl
either-nothing false o none = none

accepted-by : (k : ℕ) (t : TerminalData) (loads : List TimedLoad) (s : Standing) (past : List Sample) (x : Sample) (duty : Duty) →
    ended_now k (x ∷ past) ≡ None → accepted_by k t loads past x s duty ≡ None
accepted-by k t loads s past x free none = refl
accepted-by k t loads s past x (promises command transmitter) none = refl
accepted-by k t loads s past x (owes words false) none = refl
accepted-by k t loads s past x (owes words true) none =
    either-nothing (given_up k t past s) (heard_status (due_after t s.end) (ended_now k (x ∷ past))) (ap (heard_status (due_after t s.end)) none)

pub still-accepts : (k : ℕ) (t : TerminalData) (loads : List TimedLoad) (memory : Memory) (heard : List Moment) (may : Bool) (mays : List Bool) →
    NothingDue k t (standing k t loads memory heard) heard (length (may ∷ mays)) →
    accepted_now k t loads record { memory = memory; ticks = quiet_moments (may ∷ mays) ++ heard } ≡ None
still-accepts k t loads memory heard may mays due =
    let s = standing k t loads memory (quiet_moments mays ++ heard) in
    let first = standing k t loads memory heard in
    let later = due-later k t first heard mays (suc (length mays)) 1 due (omega arith) in
    accepted-by k t loads s (heard_on s.channel (quiet_moments mays ++ heard)) (sample_on quiet_pair s.channel) s.duty
    (ap (λ x. ended_now k (x ∷ heard_on s.channel (quiet_moments mays ++ heard))) (quiet-on s.channel)
    ∙ ended-quiet k (heard_on s.channel (quiet_moments mays ++ heard)) (rests-either k s.channel t first (quiet_moments mays ++ heard) later))
