-- A terminal that is ready for a burst, in each tick of it.
use Rattle.std.proofs.Common.{◌≡◌, ◌⊎◌, inl, inr, ℕ, suc, ◌+◌, Bool, true, false, not, List, ◌∷◌, ◌++◌, length, Option, Some, None, refl, ap, ◌∙◌, arith, length-append}
use Rattle.std.proofs.lemmas.Bool.{cases_Bool, and_left, and_right, ne_eqb}
use Rattle.std.specs.Prelude.{◌&&◌, ◌==◌, if◌then◌else◌}
use Rattle.bus_base.specs.Samples.{other_of, same_channel, sample_on}
use Rattle.bus_base.specs.declared.samples.Channel.{Channel}
use Rattle.bus_base.specs.declared.samples.Channel.TheVariants.{A, B}
use Rattle.bus_words.specs.declared.word.Word.{Word}
use Rattle.bus_line.specs.Past.{Burst, InLeg, ended_now, slot_now, heard_within}
use Rattle.bus_line.proofs.HeardLaws.{heard_within-from}
use Rattle.bus_formats.specs.Plans.{TerminalData}
use Rattle.bus_formats.specs.Times.{relay_wait}
use Rattle.bus_model.specs.Memory.{TimedLoad}
use Rattle.bus_model.specs.Orders.{Order, last_order, due_after}
use Rattle.bus_model.specs.Hearing.{Moment, heard_on, is_addressed}
use Rattle.bus_model.specs.Standing.{Standing, mark_on, Handled, obeys, settles, superseded, ignored_from, is_owed, is_promise, promised_on}
use Rattle.bus_model.specs.Terminal.{given_up, order_by, order_of, order_on, running_out, order_now, begins, addressed_on, marked_by, ordered, after_tick, after_order, done_in}
use Rattle.bus_law_stations.specs.Legs.{with_addressed, IsUnheeded, IsReady}
use Rattle.bus_law_stations.proofs.Resting.{heard-long}
use Rattle.bus_law_stations.proofs.LegTicks.{heard-append, leg-heard, heeded-later}

-- ---- marks

pub other-mark : (s : Standing) (c : Channel) (m : Option ℕ) → mark_on (with_addressed s c m).addressed (other_of c) ≡ mark_on s.addressed (other_of c)
other-mark s A m = refl
other-mark s B m = refl

pub own-mark : (s : Standing) (c : Channel) (m : Option ℕ) → mark_on (with_addressed s c m).addressed c ≡ m
own-mark s A m = refl
own-mark s B m = refl

pub same-mark : (s : Standing) (c : Channel) → with_addressed s c (mark_on s.addressed c) ≡ s
same-mark s A = refl
same-mark s B = refl

pub marked-twice : (s : Standing) (c : Channel) (m n : Option ℕ) → with_addressed (with_addressed s c m) c n ≡ with_addressed s c n
marked-twice s A m n = refl
marked-twice s B m n = refl

-- ---- what is handled

pub either-none : {X : Type 0} (b : Bool) (o : Option X) → o ≡ None → (if b then None else o) ≡ None
either-none true o none = refl
either-none false o none = none

pub orders-none : (k : ℕ) (t : TerminalData) (s : Standing) (c : Channel) (past : List Moment) → order_on k t past s c ≡ None →
    order_on k t past s (other_of c) ≡ None → running_out k t past s ≡ None → order_now k t past s ≡ None
orders-none k t s A past own other out = rw (own, other, out) refl
orders-none k t s B past own other out = rw (other, own, out) refl

pub orders-some : (k : ℕ) (t : TerminalData) (s : Standing) (c : Channel) (past : List Moment) (h : Handled) → order_on k t past s c ≡ Some h →
    order_on k t past s (other_of c) ≡ None → order_now k t past s ≡ Some h
orders-some k t s A past h own other = rw own refl
orders-some k t s B past h own other = rw (other, own) refl

-- ---- a tick, by what is known of it

pub tick-marks : (k : ℕ) (t : TerminalData) (loads : List TimedLoad) (s : Standing) (c : Channel) (now : Moment) (past : List Moment) (m : Option ℕ) →
    order_now k t (now ∷ past) s ≡ None → begins k t past s ≡ false → addressed_on k t (now ∷ past) s (other_of c) ≡ mark_on s.addressed (other_of c) →
    addressed_on k t (now ∷ past) s c ≡ m → after_tick k t loads now past s ≡ with_addressed s c m
tick-marks k t loads s A now past m none fresh other own =
    ap (λ o. marked_by k t now past s (ordered k t loads (length past) now.has_items s o)) none ∙ (rw (fresh, own, other) refl)
tick-marks k t loads s B now past m none fresh other own =
    ap (λ o. marked_by k t now past s (ordered k t loads (length past) now.has_items s o)) none ∙ (rw (fresh, own, other) refl)

marked-same : (k : ℕ) (t : TerminalData) (s u : Standing) (c : Channel) (now : Moment) (past : List Moment) → begins k t past s ≡ false →
    addressed_on k t (now ∷ past) s (other_of c) ≡ mark_on s.addressed (other_of c) → addressed_on k t (now ∷ past) s c ≡ mark_on s.addressed c →
    marked_by k t now past s u ≡ record u { sent = s.sent; addressed = s.addressed }
marked-same k t s u A now past fresh other own = rw (fresh, own, other) refl
marked-same k t s u B now past fresh other own = rw (fresh, own, other) refl

-- a command is obeyed
pub tick-obeys : (k : ℕ) (t : TerminalData) (loads : List TimedLoad) (s : Standing) (c : Channel) (now : Moment) (past : List Moment)
    (e rest : ℕ) (order : Order) →
    order_now k t (now ∷ past) s ≡ Some (obeys c e order rest) → begins k t past s ≡ false →
    addressed_on k t (now ∷ past) s (other_of c) ≡ mark_on s.addressed (other_of c) → addressed_on k t (now ∷ past) s c ≡ mark_on s.addressed c →
    after_tick k t loads now past s ≡ after_order s (obeys c e order rest) (done_in k t loads (length past) now.has_items s (obeys c e order rest))
tick-obeys k t loads s c now past e rest order some fresh other own =
    ap (λ o. marked_by k t now past s (ordered k t loads (length past) now.has_items s o)) some
    ∙ marked-same k t s (ordered k t loads (length past) now.has_items s (Some (obeys c e order rest))) c now past fresh other own

-- a promise is settled
pub tick-settles : (k : ℕ) (t : TerminalData) (loads : List TimedLoad) (s : Standing) (c : Channel) (now : Moment) (past : List Moment) (e rest : ℕ)
    (slots : List (Option Word)) → order_now k t (now ∷ past) s ≡ Some (settles e slots rest) → begins k t past s ≡ false →
    addressed_on k t (now ∷ past) s (other_of c) ≡ mark_on s.addressed (other_of c) → addressed_on k t (now ∷ past) s c ≡ mark_on s.addressed c →
    after_tick k t loads now past s ≡ after_order s (settles e slots rest) (done_in k t loads (length past) now.has_items s (settles e slots rest))
tick-settles k t loads s c now past e rest slots some fresh other own =
    ap (λ o. marked_by k t now past s (ordered k t loads (length past) now.has_items s o)) some
    ∙ marked-same k t s (ordered k t loads (length past) now.has_items s (Some (settles e slots rest))) c now past fresh other own

-- ---- the other channel

pub not-other : (c : Channel) → same_channel c (other_of c) ≡ false
not-other A = refl
not-other B = refl

pub three-not : (a b c : Bool) → (a ≡ true → b ≡ false) → (a && b && c) ≡ false
three-not false b c h = refl
three-not true b c h = rw (h refl) refl

pub three-first : (a b c : Bool) → a ≡ false → (a && b && c) ≡ false
three-first a b c none = rw none refl

promised-other : (k : ℕ) (s : Standing) (c : Channel) (m : Option ℕ) → (is_promise s.duty ≡ true → s.channel ≡ c) →
    promised_on k (with_addressed s c m) (other_of c) ≡ false
promised-other k s c m on =
    three-not (is_promise s.duty) (same_channel s.channel (other_of c)) (not (superseded k (with_addressed s c m)))
    (λ promise. ap (λ x. same_channel x (other_of c)) (on promise) ∙ not-other c)

burst-unheeded : (k : ℕ) (t : TerminalData) (s : Standing) (c : Channel) (o : Option Burst) → promised_on k s c ≡ false →
    ((burst : Burst) → o ≡ Some burst → last_order t.address burst.slots ≡ None) → order_of k t s c o ≡ None
burst-unheeded k t s c None promised none = refl
burst-unheeded k t s c (Some burst) promised none = ap (order_by k t s c burst) (none burst refl) ∙ (rw promised refl)

-- brings no order
pub order-unheeded : (k : ℕ) (t : TerminalData) (s : Standing) (c : Channel) (now : Moment) (past : List Moment) → promised_on k s c ≡ false →
    IsUnheeded k t s c (now ∷ past) → order_on k t (now ∷ past) s c ≡ None
order-unheeded k t s c now past promised (inl ignored) = rw ignored refl
order-unheeded k t s c now past promised (inr none) =
    either-none (ignored_from k (heard_on c past) (mark_on s.sent c)) (order_of k t s c (ended_now k (heard_on c (now ∷ past))))
    (burst-unheeded k t s c (ended_now k (heard_on c (now ∷ past))) promised none.1)

pub order-other : (k : ℕ) (t : TerminalData) (s : Standing) (c : Channel) (m : Option ℕ) (now : Moment) (past : List Moment) →
    (is_promise s.duty ≡ true → s.channel ≡ c) → IsUnheeded k t s (other_of c) (now ∷ past) →
    order_on k t (now ∷ past) (with_addressed s c m) (other_of c) ≡ None
order-other k t s c m now past on none = order-unheeded k t (with_addressed s c m) (other_of c) now past (promised-other k s c m on) none

pub mark-kept : (b i : Bool) (tick : ℕ) (mark : Option ℕ) → (i ≡ true) ⊎ (b ≡ false) → (if b && not i then Some tick else mark) ≡ mark
mark-kept true true tick mark h = refl
mark-kept false i tick mark h = refl
mark-kept true false tick mark (inl h) = absurd (grind (arith, h))
mark-kept true false tick mark (inr h) = absurd (grind (arith, h))

unheeded-or : (k : ℕ) (t : TerminalData) (s : Standing) (c : Channel) (now : Moment) (past : List Moment) → IsUnheeded k t s c (now ∷ past) →
    (ignored_from k (heard_on c past) (mark_on s.sent c) ≡ true) ⊎ (is_addressed t.address (slot_now k (heard_on c (now ∷ past))) ≡ false)
unheeded-or k t s c now past (inl ignored) = inl ignored
unheeded-or k t s c now past (inr none) = inr none.0

-- and leaves its mark
pub mark-unheeded : (k : ℕ) (t : TerminalData) (s : Standing) (c : Channel) (now : Moment) (past : List Moment) → IsUnheeded k t s c (now ∷ past) →
    addressed_on k t (now ∷ past) s c ≡ mark_on s.addressed c
mark-unheeded k t s c now past none =
    mark-kept (is_addressed t.address (slot_now k (heard_on c (now ∷ past)))) (ignored_from k (heard_on c past) (mark_on s.sent c))
    (length past) (mark_on s.addressed c) (unheeded-or k t s c now past none)

pub mark-other : (k : ℕ) (t : TerminalData) (s : Standing) (c : Channel) (m : Option ℕ) (now : Moment) (past : List Moment) →
    IsUnheeded k t s (other_of c) (now ∷ past) →
    addressed_on k t (now ∷ past) (with_addressed s c m) (other_of c) ≡ mark_on (with_addressed s c m).addressed (other_of c)
mark-other k t s c m now past none = mark-unheeded k t (with_addressed s c m) (other_of c) now past none

-- ---- its own channel

mark-either : (b i : Bool) (x y : Option ℕ) → i ≡ false → (if b && not i then x else y) ≡ (if b then x else y)
mark-either true i x y heeded = rw heeded refl
mark-either false i x y heeded = refl

-- an addressed slot is marked
pub mark-own : (k : ℕ) (t : TerminalData) (s : Standing) (c : Channel) (m : Option ℕ) (now : Moment) (past : List Moment) →
    ignored_from k (heard_on c past) (mark_on s.sent c) ≡ false →
    addressed_on k t (now ∷ past) (with_addressed s c m) c ≡ (if is_addressed t.address (slot_now k (heard_on c (now ∷ past))) then Some (length past) else m)
mark-own k t s c m now past heeded =
    mark-either (is_addressed t.address (slot_now k (heard_on c (now ∷ past)))) (ignored_from k (heard_on c past) (mark_on s.sent c))
    (Some (length past)) (mark_on (with_addressed s c m).addressed c) heeded
    ∙ ap (λ x. if is_addressed t.address (slot_now k (heard_on c (now ∷ past))) then Some (length past) else x) (own-mark s c m)

-- it stays heeded
pub ready-heeded : (k : ℕ) (t : TerminalData) (s : Standing) (c : Channel) (heard ticks : List Moment) → IsReady k t s c heard →
    ignored_from k (heard_on c (ticks ++ heard)) (mark_on s.sent c) ≡ false
ready-heeded k t s c heard ticks ready = rw (heard-append c ticks heard) (heeded-later k (heard_on c ticks) (heard_on c heard) (mark_on s.sent c) ready.hears)

pub order-heeded : (k : ℕ) (t : TerminalData) (s : Standing) (c : Channel) (m : Option ℕ) (now : Moment) (past : List Moment) →
    ignored_from k (heard_on c past) (mark_on s.sent c) ≡ false →
    order_on k t (now ∷ past) (with_addressed s c m) c ≡ order_of k t (with_addressed s c m) c (ended_now k (heard_on c (now ∷ past)))
order-heeded k t s c m now past heeded = rw heeded refl

-- ---- what is due

pub moments-append : (ticks heard : List Moment) → length (ticks ++ heard) ≡ length ticks + length heard
moments-append ticks heard = length-append ticks heard

-- no answer begins
pub ready-begins : (k : ℕ) (t : TerminalData) (s : Standing) (c : Channel) (m : Option ℕ) (heard ticks : List Moment) → IsReady k t s c heard →
    begins k t (ticks ++ heard) (with_addressed s c m) ≡ false
ready-begins k t s c m heard ticks ready =
    let long : length (ticks ++ heard) ≡ length ticks + length heard = moments-append ticks heard in
    three-not (is_owed s.duty) (length (ticks ++ heard) == due_after t s.end)
    (not (given_up k t (heard_on s.channel (ticks ++ heard)) (with_addressed s c m)))
    (λ owed. let past = ready.answer owed in ne_eqb (length (ticks ++ heard)) (due_after t s.end) (λ e. omega (arith, e, past, long)))

-- and no promise runs out
pub ready-running : (k : ℕ) (t : TerminalData) (s : Standing) (c : Channel) (m : Option ℕ) (now : Moment) (heard ticks : List Moment) → IsReady k t s c heard →
    InLeg k (heard_on c (now ∷ ticks)) → running_out k t (now ∷ (ticks ++ heard)) (with_addressed s c m) ≡ None
ready-running k t s c m now heard ticks ready leg =
    let u = with_addressed s c m in
    let long : length (ticks ++ heard) ≡ length ticks + length heard = moments-append ticks heard in
    let test : (promised_on k (with_addressed s c m) s.channel && (length (now ∷ (ticks ++ heard)) == suc (s.end + relay_wait))
    && not (heard_within (heard_on s.channel (now ∷ (ticks ++ heard))) s.end (length (now ∷ (ticks ++ heard))))) ≡ false =
    elim (cases_Bool (is_promise s.duty)) [
      | inr none ↦ and_left _ _ (and_left _ _ (three-first (is_promise s.duty) (same_channel s.channel s.channel) (not (superseded k u)) none))
      | inl promise ↦ (
          let made = ready.promise promise in
          let at = leg-heard k (sample_on now.shown c) (heard_on c ticks) (heard_on c heard) leg in
          let whole : heard_on c (now ∷ (ticks ++ heard)) ≡ heard_on c (now ∷ ticks) ++ heard_on c heard = heard-append c (now ∷ ticks) heard in
          let first : length (heard_on c heard) ≡ length heard = heard-long c heard in
          let yes : heard_within (heard_on c (now ∷ ticks) ++ heard_on c heard) s.end (length (now ∷ (ticks ++ heard))) ≡ true =
          heard_within-from (heard_on c (now ∷ ticks) ++ heard_on c heard) s.end (length (now ∷ (ticks ++ heard))) (length (heard_on c heard))
          (omega (arith, made.1, first)) (omega (arith, first, long)) at in
          and_right _ _ (ap not (ap (λ x. heard_within (heard_on x (now ∷ (ticks ++ heard))) s.end (length (now ∷ (ticks ++ heard)))) made.0
          ∙ ap (λ xs. heard_within xs s.end (length (now ∷ (ticks ++ heard)))) whole ∙ yes)))
    ] in
    rw test refl
