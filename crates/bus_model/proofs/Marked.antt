-- A channel that isn't ignored and whose burst has a command for the terminal is marked.
use Rattle.std.proofs.Common.{◌≡◌, ◌⊎◌, inl, inr, ℕ, suc, ◌+◌, ◌-◌, ◌*◌, ◌<◌, ◌≤◌, List, [], ◌∷◌, length, refl, sym, ap, ◌∙◌, arith}
use Rattle.std.proofs.lemmas.Bool.{cases_Bool, cases_lt, true≢false}
use Rattle.std.specs.Prelude.{Bool, true, false, not, ◌&&◌, if◌then◌else◌, Option, Some, None, is_some}
use Rattle.bus_base.specs.Samples.{is_quiet}
use Rattle.bus_base.specs.declared.samples.Channel.{Channel}
use Rattle.bus_base.specs.declared.samples.Sample.{Sample}
use Rattle.bus_base.specs.declared.samples.Sample.TheVariants.{Plus, Minus, Quiet}
use Rattle.bus_line.specs.Past.{quiet, stopped, runs, first_tick, slot_word, slot_between, slot_number, slot_now, end_since}
use Rattle.bus_line.proofs.PastLaws.{quiet-le, first_tick-runs}
use Rattle.bus_line.proofs.EndLaws.{end_since-early}
use Rattle.bus_model.specs.Orders.{command_for}
use Rattle.bus_model.specs.Hearing.{Moment, heard_on, is_addressed}
use Rattle.bus_model.specs.Standing.{ignored_from}
use Rattle.bus_model.proofs.Slots.{slot-later, endless, becomes-whole}

-- what is looked at: on one channel, whether a command in a whole slot of the burst that runs has left a mark
pub record IsMarked (own k : ℕ) (past : List Sample) (sent addressed : Option ℕ) : Type 0 where
  pub bare : runs k past ≡ true → ignored_from k past sent ≡ false → addressed ≡ None →
      (i : ℕ) → first_tick k past + 40 * i + 40 ≤ stopped past → command_for own (slot_word past (first_tick k past) i) ≡ None

-- a channel that was ignored is ignored while the burst runs
ignored-on : (k : ℕ) (x : Sample) (past : List Sample) (sent : Option ℕ) → quiet (x ∷ past) ≤ k →
    ignored_from k past sent ≡ true → ignored_from k (x ∷ past) sent ≡ true
ignored-on k x past None few h = h
ignored-on k x past (Some first) few h =
    let none : end_since k past first ≡ None = grind (arith, h) in
    rw (endless k x past first few none) refl

ignored-now : (k : ℕ) (x : Sample) (past : List Sample) → quiet (x ∷ past) ≤ k → ignored_from k (x ∷ past) (Some (length past)) ≡ true
ignored-now k x past few = rw (endless k x past (length past) few (end_since-early k past (length past) (omega arith))) refl

heeded : (k : ℕ) (x : Sample) (past : List Sample) (sent later : Option ℕ) → quiet (x ∷ past) ≤ k →
    (later ≡ sent) ⊎ (later ≡ Some (length past)) → ignored_from k (x ∷ past) later ≡ false → ignored_from k past sent ≡ false
heeded k x past sent later few (inr now) h =
    absurd (true≢false (sym (ignored-now k x past few) ∙ (ap (ignored_from k (x ∷ past)) (sym now) ∙ h)))
heeded k x past sent later few (inl same) h =
    elim (cases_Bool (ignored_from k past sent)) [
      | inl ignored ↦ absurd (true≢false (sym (ignored-on k x past sent few ignored) ∙ (ap (ignored_from k (x ∷ past)) (sym same) ∙ h)))
      | inr free ↦ free
    ]

is-none : {A : Type 0} (o : Option A) → is_some o ≡ false → o ≡ None
is-none None h = refl
is-none (Some a) h = absurd (true≢false h)

unmarked : (addressed ignored : Bool) (tick : ℕ) (mark : Option ℕ) → ignored ≡ false →
    (if addressed && not ignored then Some tick else mark) ≡ None → (addressed ≡ false) × (mark ≡ None)
unmarked addressed ignored tick mark free h = grind (arith, free, h)

-- the slot that becomes whole in a tick that isn't quiet is looked up in it
new-slot : (k : ℕ) (x : Sample) (past : List Sample) (i : ℕ) → k < 40 → is_quiet x ≡ false → runs k past ≡ true →
    first_tick k past + 40 * i + 40 ≤ suc (length past) → stopped past < first_tick k past + 40 * i + 40 → slot_number k (x ∷ past) ≡ Some i
new-slot k x past i small heard running whole new =
    let few : quiet past ≤ k = grind (arith, running) in
    let within : quiet past ≤ length past = quiet-le past in
    let found : slot_between (stopped past - first_tick k past) (suc (length past) - first_tick k past) ≡ Some i =
    becomes-whole i _ _ (omega (arith, new)) (omega (arith, whole)) (omega (arith, small, few, within, whole, new)) in
    rw (heard, running) found

new-bare : (own k : ℕ) (x : Sample) (past : List Sample) (i : ℕ) → runs k past ≡ true → slot_number k (x ∷ past) ≡ Some i →
    is_addressed own (slot_now k (x ∷ past)) ≡ false → command_for own (slot_word (x ∷ past) (first_tick k past) i) ≡ None
new-bare own k x past i running number h =
    let first : first_tick k (x ∷ past) ≡ first_tick k past = first_tick-runs k x past running in
    let slot : slot_now k (x ∷ past) ≡ Some (record { first = first_tick k past + 40 * i; word = slot_word (x ∷ past) (first_tick k past) i }) =
    rw (number, first) refl in
    is-none _ (ap (is_addressed own) (sym slot) ∙ h)

-- a tick in which the channel is quiet
bare-quiet : (own k : ℕ) (past : List Sample) (sent mark : Option ℕ) → IsMarked own k past sent mark → quiet (Quiet ∷ past) ≤ k →
    0 < stopped (Quiet ∷ past) → ignored_from k past sent ≡ false → mark ≡ None →
    (i : ℕ) → first_tick k past + 40 * i + 40 ≤ stopped (Quiet ∷ past) → command_for own (slot_word (Quiet ∷ past) (first_tick k past) i) ≡ None
bare-quiet own k past sent mark before few some free none i fits =
    let within : quiet past ≤ length past = quiet-le past in
    let stop : stopped (Quiet ∷ past) ≡ stopped past = omega (arith, within) in
    let running : runs k past ≡ true = grind (arith, few, some, stop) in
    rw (slot-later Quiet past (first_tick k past) i (omega (arith, fits, stop)))
    (before.bare running free none i (omega (arith, fits, stop)))

-- a tick in which it isn't, while the burst runs
bare-heard : (own k : ℕ) (x : Sample) (past : List Sample) (sent mark : Option ℕ) → IsMarked own k past sent mark → k < 40 → is_quiet x ≡ false →
    runs k past ≡ true → ignored_from k past sent ≡ false → mark ≡ None → is_addressed own (slot_now k (x ∷ past)) ≡ false →
    (i : ℕ) → first_tick k past + 40 * i + 40 ≤ suc (length past) → command_for own (slot_word (x ∷ past) (first_tick k past) i) ≡ None
bare-heard own k x past sent mark before small heard running free none unaddressed i fits =
    elim (cases_lt (stopped past) (first_tick k past + 40 * i + 40)) [
      | inl new ↦ new-bare own k x past i running (new-slot k x past i small heard running fits new) unaddressed
      | inr old ↦ rw (slot-later x past (first_tick k past) i (omega (arith, old))) (before.bare running free none i old)
    ]

-- the ticks of a burst that has just begun have no whole slot
first-slot : (k : ℕ) (x : Sample) (past : List Sample) (i : ℕ) → is_quiet x ≡ false → runs k past ≡ false →
    first_tick k (x ∷ past) + 40 * i + 40 ≤ stopped (x ∷ past) → ⊥
first-slot k x past i heard over fits =
    let first : first_tick k (x ∷ past) ≡ length past = rw (heard, over) refl in
    omega (arith, first, fits)

rw-fits : (k : ℕ) (x : Sample) (past : List Sample) (i : ℕ) → runs k past ≡ true →
    first_tick k (x ∷ past) + 40 * i + 40 ≤ stopped (x ∷ past) → first_tick k past + 40 * i + 40 ≤ suc (length past)
rw-fits k x past i on fits =
    let first : first_tick k (x ∷ past) ≡ first_tick k past = first_tick-runs k x past on in
    omega (arith, first, fits)

-- one tick more of a channel
bare-on : (own k : ℕ) (x : Sample) (past : List Sample) (sent mark : Option ℕ) → IsMarked own k past sent mark → k < 40 →
    runs k (x ∷ past) ≡ true → ignored_from k past sent ≡ false → mark ≡ None → is_addressed own (slot_now k (x ∷ past)) ≡ false →
    (i : ℕ) → first_tick k (x ∷ past) + 40 * i + 40 ≤ stopped (x ∷ past) → command_for own (slot_word (x ∷ past) (first_tick k (x ∷ past)) i) ≡ None
bare-on own k Quiet past sent mark before small running free none unaddressed i fits =
    bare-quiet own k past sent mark before (grind (arith, running)) (grind (arith, running)) free none i fits
bare-on own k Plus past sent mark before small running free none unaddressed i fits =
    elim (cases_Bool (runs k past)) [
      | inl on ↦ rw (first_tick-runs k Plus past on) (bare-heard own k Plus past sent mark before small refl on free none unaddressed i (rw-fits k Plus past i on fits))
      | inr over ↦ absurd (first-slot k Plus past i refl over fits)
    ]
bare-on own k Minus past sent mark before small running free none unaddressed i fits =
    elim (cases_Bool (runs k past)) [
      | inl on ↦ rw (first_tick-runs k Minus past on) (bare-heard own k Minus past sent mark before small refl on free none unaddressed i (rw-fits k Minus past i on fits))
      | inr over ↦ absurd (first-slot k Minus past i refl over fits)
    ]

-- one tick more, with the marks that it leaves
pub marked-on : (own k : ℕ) (x : Sample) (past : List Sample) (sent mark later marked : Option ℕ) → IsMarked own k past sent mark → k < 40 →
    (later ≡ sent) ⊎ (later ≡ Some (length past)) →
    (if is_addressed own (slot_now k (x ∷ past)) && not (ignored_from k past sent) then Some (length past) else mark) ≡ marked →
    IsMarked own k (x ∷ past) later marked
marked-on own k x past sent mark later marked before small sending marking = record {
  bare = λ running free none i fits.
      let heeded-before : ignored_from k past sent ≡ false = heeded k x past sent later (grind (arith, running)) sending free in
      let both : (is_addressed own (slot_now k (x ∷ past)) ≡ false) × (mark ≡ None) = unmarked _ _ (length past) mark heeded-before (marking ∙ none) in
      bare-on own k x past sent mark before small running heeded-before both.1 both.0 i fits;
}

pub marked-first : (own k : ℕ) → IsMarked own k [] None None
marked-first own k = record { bare = λ running free none i fits. absurd (true≢false (sym running)) }

pub heard-long : (c : Channel) (ticks : List Moment) → length (heard_on c ticks) ≡ length ticks
heard-long c [] = refl
heard-long c (now ∷ ticks) = ap suc (heard-long c ticks)
