-- One channel while a burst runs on it: nothing ends but slots, and they are those of the burst.
use Rattle.std.proofs.Common.{◌≡◌, ℕ, suc, ◌+◌, ◌≤◌, Bool, true, false, List, [], ◌∷◌, ◌++◌, length, Option, Some, None, inl, inr, refl, sym, ap, ◌∙◌, arith, length-append}
use Rattle.std.proofs.lemmas.Bool.Decides.{nat_tests}
use Rattle.std.specs.Prelude.{◌||◌, ◌&&◌, ◌==◌, nat_lt, is_some, is_none}
use Rattle.std.specs.Option.{option_or}
use Rattle.bus_base.specs.Samples.{sample_on}
use Rattle.bus_base.specs.declared.samples.Channel.{Channel}
use Rattle.bus_base.specs.declared.samples.Sample.{Sample}
use Rattle.bus_words.specs.declared.word.Word.{Word}
use Rattle.bus_line.specs.declared.cutter.Cut.{Cut}
use Rattle.bus_line.specs.declared.cutter.Cut.TheVariants as cuts
use Rattle.bus_line.specs.Past.{Burst, InLeg, quiet, stopped, runs, ended_now, slot_now, end_since}
use Rattle.bus_line.specs.Bursts.{IsHeardAt}
use Rattle.bus_line.specs.Cutting.{cut_now, running_slots, Tells, Collects}
use Rattle.bus_line.proofs.TickLaws.{at-now, at-more, heard-sample}
use Rattle.bus_line.proofs.EndLaws.{end_since-early, end_since-later, end_since-runs}
use Rattle.bus_line.proofs.Legs.{quiet-below, quiet-append, runs-leg, first_tick-leg}
use Rattle.bus_line.proofs.CutNow.{cut-tells}
use Rattle.bus_line.proofs.CollectLaws.{cut-collects, end-closes}
use Rattle.bus_model.specs.Orders.{command_for, last_order, order_with}
use Rattle.bus_model.specs.Hearing.{Moment, heard_on, is_addressed}
use Rattle.bus_model.specs.Standing.{ignored_from}
use Rattle.bus_law_stations.proofs.Resting.{cases-option}

pub heard-append : (c : Channel) (later heard : List Moment) → heard_on c (later ++ heard) ≡ heard_on c later ++ heard_on c heard
heard-append c [] heard = refl
heard-append c (now ∷ later) heard = ap (λ xs. sample_on now.shown c ∷ xs) (heard-append c later heard)

-- ---- while it runs

-- no burst ends
pub leg-ends-not : (k : ℕ) (x : Sample) (leg past : List Sample) → InLeg k (x ∷ leg) → ended_now k ((x ∷ leg) ++ past) ≡ None
leg-ends-not k x leg past h =
    let same : quiet ((x ∷ leg) ++ past) ≡ quiet (x ∷ leg) = quiet-append (x ∷ leg) past (quiet-below k x leg h) in
    let few : quiet (x ∷ leg) ≤ k = h.0 in
    let test : ((quiet ((x ∷ leg) ++ past) == suc k) && nat_lt 0 (stopped ((x ∷ leg) ++ past))) ≡ false = grind (arith, nat_tests, same, few) in
    rw test refl

-- its first tick isn't quiet
pub leg-heard : (k : ℕ) (x : Sample) (leg past : List Sample) → InLeg k (x ∷ leg) → IsHeardAt ((x ∷ leg) ++ past) (length past)
leg-heard k x [] past h = λ e. heard-sample x (h.1 refl) (sym (at-now x past) ∙ e)
leg-heard k x (y ∷ leg) past h =
    let long : length (leg ++ past) ≡ length leg + length past = length-append leg past in
    λ e. leg-heard k y leg past h.2 (sym (at-more x ((y ∷ leg) ++ past) (length past) (omega (arith, long))) ∙ e)

-- what began with it has no end
pub leg-endless : (k : ℕ) (leg past : List Sample) → runs k past ≡ false → InLeg k leg → end_since k (leg ++ past) (length past) ≡ None
leg-endless k [] past rests h = end_since-early k past (length past) (omega arith)
leg-endless k (x ∷ leg) past rests h =
    let first = first_tick-leg k x leg past rests h in
    rw first at (end_since-runs k ((x ∷ leg) ++ past) (runs-leg k x leg past h))

-- a channel that isn't ignored is not ignored later
pub heeded-later : (k : ℕ) (later past : List Sample) (mark : Option ℕ) → ignored_from k past mark ≡ false → ignored_from k (later ++ past) mark ≡ false
heeded-later k later past None heeded = refl
heeded-later k later past (Some first) heeded = elim (cases-option (end_since k past first)) [
  | inl none ↦ (let bad : is_none (end_since k past first) ≡ true = rw none refl in absurd (grind (arith, heeded, bad)))
  | inr found ↦ rw (end_since-later k later past first found.0 found.1) refl
]

-- ---- commands among its slots

some-either : {X : Type 0} (a b : Option X) → is_some (option_or a b) ≡ (is_some a || is_some b)
some-either None b = refl
some-either (Some x) b = refl

some-with : (o : Option ℕ) (slots : List (Option Word)) → is_some (order_with o slots) ≡ is_some o
some-with None slots = refl
some-with (Some command) slots = refl

right : (a : Bool) → a ≡ (a || false)
right true = refl
right false = refl

swapped : (a b c : Bool) → ((a || b) || c) ≡ (a || (b || c))
swapped true b c = refl
swapped false b c = refl

-- with a slot more there is one if it is one
last-more : (own : ℕ) (xs : List (Option Word)) (slot : Option Word) →
    is_some (last_order own (xs ++ slot ∷ [])) ≡ (is_some (command_for own slot) || is_some (last_order own xs))
last-more own [] slot = some-with (command_for own slot) [] ∙ right (is_some (command_for own slot))
last-more own (x ∷ xs) slot =
    some-either (last_order own (xs ++ slot ∷ [])) (order_with (command_for own x) (xs ++ slot ∷ []))
    ∙ ap (λ b. b || is_some (order_with (command_for own x) (xs ++ slot ∷ []))) (last-more own xs slot)
    ∙ ap (λ b. (is_some (command_for own slot) || is_some (last_order own xs)) || b)
    (some-with (command_for own x) (xs ++ slot ∷ []) ∙ sym (some-with (command_for own x) xs))
    ∙ swapped (is_some (command_for own slot)) (is_some (last_order own xs)) (is_some (order_with (command_for own x) xs))
    ∙ ap (λ b. is_some (command_for own slot) || b) (sym (some-either (last_order own xs) (order_with (command_for own x) xs)))

order-of-cut : (own k : ℕ) (x : Sample) (past : List Sample) (cut : Cut) (old new : List (Option Word)) → Tells k (x ∷ past) cut → Collects cut old new →
    ended_now k (x ∷ past) ≡ None → is_some (last_order own new) ≡ (is_addressed own (slot_now k (x ∷ past)) || is_some (last_order own old))
order-of-cut own k x past cuts.Nothing old new tells same none = rw (tells.1, same) refl
order-of-cut own k x past (cuts.Slot i word) old new tells more none = rw (tells.1, more.1) (last-more own old word)
order-of-cut own k x past (cuts.Ended slots rest) old new tells over none = (let bad = sym none ∙ tells.0 in cc)

-- so there is one among the slots of the burst that runs, where one was or the slot that ended in the newest tick is addressed
pub addressed-more : (own k : ℕ) (x : Sample) (past : List Sample) → k ≤ 39 → ended_now k (x ∷ past) ≡ None →
    is_some (last_order own (running_slots k (x ∷ past))) ≡ (is_addressed own (slot_now k (x ∷ past)) || is_some (last_order own (running_slots k past)))
addressed-more own k x past small none =
    order-of-cut own k x past (cut_now k (x ∷ past)) (running_slots k past) (running_slots k (x ∷ past))
    (cut-tells k (x ∷ past)) (cut-collects k x past small) none

-- ---- at its end

no-slot-with : (k : ℕ) (past : List Sample) (cut : Cut) (burst : Burst) → Tells k past cut → ended_now k past ≡ Some burst → slot_now k past ≡ None
no-slot-with k past cuts.Nothing burst tells ended = tells.1
no-slot-with k past (cuts.Slot i word) burst tells ended = (let bad = sym tells.0 ∙ ended in cc)
no-slot-with k past (cuts.Ended slots rest) burst tells ended = tells.1

-- no slot ends with it
pub end-no-slot : (k : ℕ) (past : List Sample) (burst : Burst) → ended_now k past ≡ Some burst → slot_now k past ≡ None
end-no-slot k past burst ended = no-slot-with k past (cut_now k past) burst (cut-tells k past) ended

-- its slots are those that ended
pub end-slots : (k : ℕ) (x : Sample) (past : List Sample) (burst : Burst) → ended_now k (x ∷ past) ≡ Some burst → burst.slots ≡ running_slots k past
end-slots k x past burst ended = (end-closes k x past burst ended).slots
