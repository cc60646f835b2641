-- A terminal of which nothing counts on either channel.
use Rattle.std.proofs.Common.{◌≡◌, ◌⊎◌, inl, inr, ℕ, ◌+◌, true, false, not, List, [], ◌∷◌, ◌++◌, length, None, refl, sym, ap, ◌∙◌, subst, arith, append_assoc}
use Rattle.std.proofs.lemmas.Bool.{ne_eqb, or_right, true≢false}
use Rattle.std.specs.Prelude.{◌||◌, ◌==◌, nat_lt, is_some}
use Rattle.bus_base.specs.Samples.{same_channel}
use Rattle.bus_base.specs.declared.samples.Channel.{Channel}
use Rattle.bus_base.specs.declared.samples.Channel.TheVariants.{A, B}
use Rattle.bus_base.specs.declared.samples.Sample.{Sample}
use Rattle.bus_base.specs.declared.samples.Drive.TheVariants.{Silent}
use Rattle.bus_line.specs.Past.{end_since}
use Rattle.bus_line.proofs.EndLaws.{end_since-later}
use Rattle.bus_formats.specs.Plans.{TerminalData}
use Rattle.bus_model.specs.Memory.{Memory, TimedLoad}
use Rattle.bus_model.specs.Orders.{Duty, free, owes, promises, due_after}
use Rattle.bus_model.specs.Hearing.{Moment, heard_on}
use Rattle.bus_model.specs.Standing.{Standing, mark_on, superseded, is_owed, is_promise}
use Rattle.bus_model.specs.Terminal.{given_up, is_over, drive_duty, drive_of, order_now, running_out, after_tick, standing, drives, taken_by, took_now}
use Rattle.bus_law_stations.specs.Legs.{IsUnheeded, AreUnheeded}
use Rattle.bus_law_stations.proofs.Resting.{cases-option}
use Rattle.bus_law_stations.proofs.LegTicks.{heard-append}
use Rattle.bus_law_stations.proofs.Ready.{same-mark, orders-none, tick-marks, three-not, three-first, order-unheeded, mark-unheeded, moments-append}
use Rattle.bus_law_control.specs.Answers.{HeedsNothing}

-- a tick less is unheeded too
fewer : (k : ℕ) (t : TerminalData) (s : Standing) (heard ticks : List Moment) (now : Moment) → HeedsNothing k t s heard (now ∷ ticks) →
    HeedsNothing k t s heard ticks
fewer k t s heard ticks now none =
    record { answer = none.answer; promise = none.promise; on_a = none.on_a.1; on_b = none.on_b.1 }

module _ (k : ℕ) (t : TerminalData) (s : Standing) (heard ticks : List Moment) (now : Moment) (none : HeedsNothing k t s heard (now ∷ ticks)) where
  -- nothing is handled in a tick
  nothing-handled : order_now k t (now ∷ (ticks ++ heard)) s ≡ None
  nothing-handled =
      let past = ticks ++ heard in
      let off = none.promise in
      let out : running_out k t (now ∷ (ticks ++ heard)) s ≡ None = rw off refl in
      orders-none k t s A (now ∷ past)
      (order-unheeded k t s A now past (three-first (is_promise s.duty) (same_channel s.channel A) (not (superseded k s)) off) none.on_a.0)
      (order-unheeded k t s B now past (three-first (is_promise s.duty) (same_channel s.channel B) (not (superseded k s)) off) none.on_b.0)
      out

  -- and nothing changes
  one-tick : (loads : List TimedLoad) → after_tick k t loads now (ticks ++ heard) s ≡ s
  one-tick loads =
      let past = ticks ++ heard in
      let long : length (ticks ++ heard) ≡ length ticks + length heard = moments-append ticks heard in
      tick-marks k t loads s A now past (mark_on s.addressed A) nothing-handled
      (three-not (is_owed s.duty) (length past == due_after t s.end) (not (given_up k t (heard_on s.channel past) s))
      (λ owed. let late = none.answer owed in ne_eqb (length past) (due_after t s.end) (λ e. omega (arith, e, late, long))))
      (mark-unheeded k t s B now past none.on_b.0) (mark-unheeded k t s A now past none.on_a.0)
      ∙ same-mark s A

-- so it stands as it stood
pub heedless-stands : (k : ℕ) (t : TerminalData) (loads : List TimedLoad) (memory : Memory) (heard ticks : List Moment) →
    HeedsNothing k t (standing k t loads memory heard) heard ticks → standing k t loads memory (ticks ++ heard) ≡ standing k t loads memory heard
unfolding standing
heedless-stands k t loads memory heard [] none = refl
heedless-stands k t loads memory heard (now ∷ ticks) none =
    let s = standing k t loads memory heard in
    ap (after_tick k t loads now (ticks ++ heard)) (heedless-stands k t loads memory heard ticks (fewer k t s heard ticks now none))
    ∙ one-tick k t s heard ticks now none loads

-- takes no block
pub heedless-takes : (k : ℕ) (t : TerminalData) (loads : List TimedLoad) (memory : Memory) (heard ticks : List Moment) (now : Moment) →
    HeedsNothing k t (standing k t loads memory heard) heard (now ∷ ticks) →
    took_now k t loads record { memory = memory; ticks = (now ∷ ticks) ++ heard } ≡ None
heedless-takes k t loads memory heard ticks now none =
    let s = standing k t loads memory heard in
    let past = ticks ++ heard in
    ap (λ (u : Standing). taken_by k t loads (length past) now.has_items u (order_now k t (now ∷ past) u))
    (heedless-stands k t loads memory heard ticks (fewer k t s heard ticks now none))
    ∙ ap (taken_by k t loads (length past) now.has_items s) (nothing-handled k t s heard ticks now none)

-- without an answer that is owed nothing is sent
owes-none : (k : ℕ) (t : TerminalData) (s : Standing) (past : List Sample) (duty : Duty) → is_owed duty ≡ false → drive_duty k t past s duty ≡ Silent
owes-none k t s past free none = refl
owes-none k t s past (promises command transmitter) none = refl
owes-none k t s past (owes words acceptance) none = absurd (true≢false none)

-- nor of one that is over
over-none : (k : ℕ) (t : TerminalData) (s : Standing) (past : List Sample) (duty : Duty) → is_over k t past s ≡ true → drive_duty k t past s duty ≡ Silent
over-none k t s past free over = refl
over-none k t s past (promises command transmitter) over = refl
over-none k t s past (owes words acceptance) over =
    let test : (nat_lt (length past) (due_after t s.end) || given_up k t past s || is_over k t past s) ≡ true = or_right _ _ over in
    rw test refl

-- an end that is known stays known
some-later : (k : ℕ) (later past : List Sample) (a : ℕ) → is_some (end_since k past a) ≡ true → is_some (end_since k (later ++ past) a) ≡ true
some-later k later past a some = elim (cases-option (end_since k past a)) [
  | inl none ↦ absurd (true≢false (sym some ∙ ap is_some none))
  | inr found ↦ ap is_some (end_since-later k later past a found.0 found.1)
]

-- so it sends nothing
pub heedless-silent : (k : ℕ) (t : TerminalData) (loads : List TimedLoad) (memory : Memory) (heard ticks : List Moment) →
    HeedsNothing k t (standing k t loads memory heard) heard ticks →
    (is_owed (standing k t loads memory heard).duty ≡ false)
    ⊎ (is_over k t (heard_on (standing k t loads memory heard).channel heard) (standing k t loads memory heard) ≡ true) →
    drives k t loads record { memory = memory; ticks = ticks ++ heard } ≡ Silent
heedless-silent k t loads memory heard ticks none which =
    let s = standing k t loads memory heard in
    let past = heard_on s.channel (ticks ++ heard) in
    ap (drive_of k t (ticks ++ heard)) (heedless-stands k t loads memory heard ticks none)
    ∙ elim which [
      | inl off ↦ owes-none k t s past s.duty off
      | inr over ↦ over-none k t s past s.duty
          (ap (λ xs. is_some (end_since k xs (due_after t s.end))) (heard-append s.channel ticks heard)
          ∙ some-later k (heard_on s.channel ticks) (heard_on s.channel heard) (due_after t s.end) over)
    ]

-- ---- parts of ticks of which nothing counts

-- the last of them
pub unheeded-last : (k : ℕ) (t : TerminalData) (s : Standing) (c : Channel) (heard firsts lasts : List Moment) →
    AreUnheeded k t s c heard (lasts ++ firsts) → AreUnheeded k t s c (firsts ++ heard) lasts
unheeded-last k t s c heard firsts [] none = tt
unheeded-last k t s c heard firsts (now ∷ lasts) none = (
  subst (λ past. IsUnheeded k t s c (now ∷ past)) (append_assoc lasts firsts heard) none.0,
  unheeded-last k t s c heard firsts lasts none.1,
)

-- the first of them
pub unheeded-first : (k : ℕ) (t : TerminalData) (s : Standing) (c : Channel) (heard firsts lasts : List Moment) →
    AreUnheeded k t s c heard (lasts ++ firsts) → AreUnheeded k t s c heard firsts
unheeded-first k t s c heard firsts [] none = none
unheeded-first k t s c heard firsts (now ∷ lasts) none = unheeded-first k t s c heard firsts lasts none.1
