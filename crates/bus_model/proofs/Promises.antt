-- A promise that stands is newer than any command on the other channel, unless a newer one superseded it.
use Rattle.std.proofs.Common.{◌≡◌, ◌⊎◌, inl, inr, ℕ, suc, ◌+◌, ◌<◌, ◌≤◌, List, [], ◌∷◌, length, refl, sym, ap, subst, ◌∙◌, arith}
use Rattle.std.proofs.lemmas.Bool.{true≢false}
use Rattle.std.specs.Prelude.{Bool, true, false, if◌then◌else◌, Option, Some, None}
use Rattle.std.specs.Option.{option_or}
use Rattle.bus_base.specs.Samples.{other_of}
use Rattle.bus_base.specs.declared.samples.Channel.{Channel}
use Rattle.bus_base.specs.declared.samples.Channel.TheVariants.{A, B}
use Rattle.bus_words.specs.Fields.{word_count}
use Rattle.bus_words.specs.declared.word.Word.{Word}
use Rattle.bus_formats.specs.Plans.{TerminalData}
use Rattle.bus_formats.specs.declared.log.Registers.{Registers}
use Rattle.bus_model.specs.Memory.{Memory, TimedLoad}
use Rattle.bus_model.specs.Orders.{Order, Duty, free, owes, promises, answer, kept, relayed}
use Rattle.bus_model.specs.Hearing.{Moment}
use Rattle.bus_model.specs.Standing.{Marks, no_marks, Standing, mark_on, Handled, obeys, settles, runs_out, is_from, is_newer, is_promise}
use Rattle.bus_model.specs.Terminal.{standing, after_tick, order_on, order_now, kept_by, ordered, addressed_on}
use Rattle.bus_model.proofs.Newest.{addressed-after, addressed-either}
use Rattle.std.proofs.lemmas.Option.{none-some, same_Some}
use Rattle.bus_model.proofs.OneOrder.{Seen, seen}

-- the newest command is on this channel, up to one that ended in or after the tick in which the order with this end was handled
pub record Newest (k n : ℕ) (c : Channel) (end : ℕ) (marks : Marks) : Type 0 where
  pub m : ℕ
  pub marked : mark_on marks c ≡ Some m
  pub newest : (is_from (end + k) (mark_on marks (other_of c)) ≡ true) ⊎ (is_newer (other_of c) (mark_on marks (other_of c)) (Some m) ≡ false)
  pub known : end + k ≤ n

abbrev pub IsBelow : ℕ → Marks → Type 0
IsBelow n marks = (c : Channel) (a : ℕ) → mark_on marks c ≡ Some a → a < n

-- what is known of what stands before tick n
pub record Stands (k n : ℕ) (s : Standing) : Type 0 where
  pub below : IsBelow n s.addressed
  pub promised : is_promise s.duty ≡ true → Newest k n s.channel s.end s.addressed

-- marks of the tick n, which is later than all marks, leave the newest where it is
older-than-now : (o : Channel) (n : ℕ) (mark : Option ℕ) → ((a : ℕ) → mark ≡ Some a → a < n) → is_newer o mark (Some n) ≡ false
older-than-now o n None h = refl
older-than-now o n (Some a) h = grind (arith, h a refl)

stays-newest : (k n end m : ℕ) (o : Channel) (other other' : Option ℕ) (this' : Option ℕ) →
    (is_from (end + k) other ≡ true) ⊎ (is_newer o other (Some m) ≡ false) → end + k ≤ n → ((a : ℕ) → other ≡ Some a → a < n) →
    (other' ≡ other) ⊎ (other' ≡ Some n) → (this' ≡ Some m) ⊎ (this' ≡ Some n) →
    (m' : ℕ) × (this' ≡ Some m') × ((is_from (end + k) other' ≡ true) ⊎ (is_newer o other' (Some m') ≡ false))
stays-newest k n end m o other other' this' newest known below (inr now) (inl this) = (m, this, inl (rw now (grind (arith, known))))
stays-newest k n end m o other other' this' newest known below (inr now) (inr this) = (n, this, inl (rw now (grind (arith, known))))
stays-newest k n end m o other other' this' (inl from) known below (inl same) (inl this) = (m, this, inl (rw same from))
stays-newest k n end m o other other' this' (inl from) known below (inl same) (inr this) = (n, this, inl (rw same from))
stays-newest k n end m o other other' this' (inr older) known below (inl same) (inl this) = (m, this, inr (rw same older))
stays-newest k n end m o other other' this' (inr older) known below (inl same) (inr this) = (n, this, inr (rw same (older-than-now o n other below)))

-- ---- which order leaves a promise

answer-keeps : (t : TerminalData) (registers : Registers) (c : Channel) (command : ℕ) (acceptance : Bool) (words : List ℕ) →
    is_promise (answer t registers c command acceptance words) ≡ false
answer-keeps t registers c command acceptance words = grind arith

kept-keeps : (t : TerminalData) (memory : Memory) (c : Channel) (command : ℕ) (words : Option (List ℕ)) →
    is_promise (kept t memory c command words).duty ≡ false
kept-keeps t memory c command None = refl
kept-keeps t memory c command (Some words) = grind arith

-- a promise that was settled leaves none
settled : (k : ℕ) (t : TerminalData) (memory : Memory) (c : Channel) (duty : Duty) (slots : List (Option Word)) (rest : ℕ) →
    is_promise (kept_by k t memory c duty slots rest).duty ≡ false
settled k t memory c free slots rest = refl
settled k t memory c (owes words acceptance) slots rest = refl
settled k t memory c (promises command transmitter) slots rest =
    kept-keeps t memory c command (relayed (word_count command) transmitter slots rest)

-- ---- where the order of a tick comes from

either-option : {X : Type 0} (first second : Option X) (a : X) → option_or first second ≡ Some a → (first ≡ Some a) ⊎ (second ≡ Some a)
either-option None second a h = inr h
either-option (Some b) second a h = inl h

runs-out-alone : (b : Bool) (h : Handled) → (if b then Some runs_out else None) ≡ Some h → runs_out ≡ h
runs-out-alone true h given = ap (λ o. elim o as (λ x. Handled) [ None ↦ runs_out | Some a ↦ a ]) given
runs-out-alone false h given = absurd (none-some h given)

-- a command that is obeyed is the newest on its channel
obeyed-newest : (k n : ℕ) (s : Standing) (x c : Channel) (e : ℕ) (last : Order) (rest : ℕ) → Seen k n s x (obeys c e last rest) →
    Newest k n c e s.addressed
obeyed-newest k n s x c e last rest h = subst (λ on. Newest k n on e s.addressed) (sym h.0)
    (record { m = h.2.0; marked = h.2.1; newest = inr (sym (ap (is_newer (other_of x) (mark_on s.addressed (other_of x))) h.2.1) ∙ h.3); known = h.1 })

not-running-out : (c : Channel) (e : ℕ) (last : Order) (rest : ℕ) → runs_out ≡ obeys c e last rest → ⊥
not-running-out c e last rest h =
    true≢false (ap (λ o. elim o as (λ x. Bool) [ obeys a b d f ↦ false | settles a b d ↦ false | runs_out ↦ true ]) h)

now-newest : (k : ℕ) (t : TerminalData) (loads : List TimedLoad) (memory : Memory) (now : Moment) (past : List Moment)
    (c : Channel) (e : ℕ) (last : Order) (rest : ℕ) → k < 40 →
    order_now k t (now ∷ past) (standing k t loads memory past) ≡ Some (obeys c e last rest) →
    Newest k (length past) c e (standing k t loads memory past).addressed
now-newest k t loads memory now past c e last rest small given =
    let s = standing k t loads memory past in
    elim (either-option (order_on k t (now ∷ past) s A) _ _ given) [
      | inl onA ↦ obeyed-newest k (length past) s A c e last rest (seen k t loads memory now past A _ small onA)
      | inr later ↦ elim (either-option (order_on k t (now ∷ past) s B) _ _ later) [
        | inl onB ↦ obeyed-newest k (length past) s B c e last rest (seen k t loads memory now past B _ small onB)
        | inr out ↦ absurd (not-running-out c e last rest (runs-out-alone _ _ out))
      ]
    ]

-- what is promised after the order of a tick is the newest of the ticks before
left-newest : (k : ℕ) (t : TerminalData) (loads : List TimedLoad) (n : ℕ) (may : Bool) (s : Standing) (o : Option Handled) → Stands k n s →
    ((c : Channel) (e : ℕ) (last : Order) (rest : ℕ) → o ≡ Some (obeys c e last rest) → Newest k n c e s.addressed) →
    is_promise (ordered k t loads n may s o).duty ≡ true →
    Newest k n (ordered k t loads n may s o).channel (ordered k t loads n may s o).end s.addressed
left-newest k t loads n may s None before origin promise = before.promised promise
left-newest k t loads n may s (Some (obeys c e last rest)) before origin promise = origin c e last rest refl
left-newest k t loads n may s (Some (settles e slots rest)) before origin promise =
    absurd (true≢false (sym promise ∙ settled k t _ s.channel s.duty slots rest))
left-newest k t loads n may s (Some runs_out) before origin promise = absurd (true≢false (sym promise))

-- ---- one tick more

below-on : (k : ℕ) (t : TerminalData) (loads : List TimedLoad) (now : Moment) (past : List Moment) (s : Standing) → IsBelow (length past) s.addressed →
    IsBelow (suc (length past)) (after_tick k t loads now past s).addressed
below-on k t loads now past s before c a h =
    let marked : addressed_on k t (now ∷ past) s c ≡ Some a = sym (addressed-after k t loads now past s c) ∙ h in
    elim (addressed-either k t now past s c) [
      | inl same ↦ omega (arith, before c a (sym same ∙ marked))
      | inr here ↦
          let tick : length past ≡ a = same_Some _ _ (sym here ∙ marked) in
          omega (arith, tick)
    ]

newest-on : (k : ℕ) (t : TerminalData) (loads : List TimedLoad) (now : Moment) (past : List Moment) (s : Standing) (c : Channel) (e : ℕ) →
    IsBelow (length past) s.addressed → Newest k (length past) c e s.addressed →
    Newest k (suc (length past)) c e (after_tick k t loads now past s).addressed
newest-on k t loads now past s c e below newest =
    let o = other_of c in
    let other : (mark_on (after_tick k t loads now past s).addressed o ≡ mark_on s.addressed o)
    ⊎ (mark_on (after_tick k t loads now past s).addressed o ≡ Some (length past)) =
    rw (addressed-after k t loads now past s o) (addressed-either k t now past s o) in
    let this : (mark_on (after_tick k t loads now past s).addressed c ≡ Some newest.m)
    ⊎ (mark_on (after_tick k t loads now past s).addressed c ≡ Some (length past)) =
    rw (addressed-after k t loads now past s c, sym newest.marked) (addressed-either k t now past s c) in
    let kept = stays-newest k (length past) e newest.m o (mark_on s.addressed o) (mark_on (after_tick k t loads now past s).addressed o)
    (mark_on (after_tick k t loads now past s).addressed c) newest.newest newest.known (below o) other this in
    record { m = kept.0; marked = kept.1; newest = kept.2; known = omega (arith, newest.known) }

no-marks : (c : Channel) (a : ℕ) → mark_on no_marks c ≡ Some a → a < 0
no-marks A a h = absurd (none-some a h)
no-marks B a h = absurd (none-some a h)

-- what stands, after whatever was heard
pub stands-always : (k : ℕ) (t : TerminalData) (loads : List TimedLoad) (memory : Memory) (ticks : List Moment) → k < 40 →
    Stands k (length ticks) (standing k t loads memory ticks)
unfolding standing
stands-always k t loads memory [] small = record { below = no-marks; promised = λ h. absurd (true≢false (sym h)) }
stands-always k t loads memory (now ∷ past) small =
    let s = standing k t loads memory past in
    let before : Stands k (length past) s = stands-always k t loads memory past small in
    record {
      below = below-on k t loads now past s before.below;
      promised = λ promise. newest-on k t loads now past s _ _ before.below
          (left-newest k t loads (length past) now.has_items s (order_now k t (now ∷ past) s) before
          (λ c e last rest given. now-newest k t loads memory now past c e last rest small given) promise);
    }
