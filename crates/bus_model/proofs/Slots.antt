-- The slots of a burst that runs, one tick on: what its slots spell stays, and the one that becomes whole ends in that tick.
use Rattle.std.proofs.Common.{◌≡◌, ℕ, zero, suc, ◌+◌, ◌-◌, ◌*◌, ◌/◌, ◌<◌, ◌≤◌, List, ◌∷◌, length, refl, arith}
use Rattle.std.specs.Prelude.{map, Option, Some, None}
use Rattle.std.specs.List.{range_with_len}
use Rattle.bus_base.specs.declared.samples.Sample.{Sample}
use Rattle.bus_words.specs.declared.word.Word.{Word}
use Rattle.bus_line.specs.Past.{quiet, slot_word, slot_between, end_since}
use Rattle.bus_model.specs.Orders.{command_for, last_order}

-- what a whole slot spells stays
pub slot-later : (x : Sample) (past : List Sample) (p i : ℕ) → p + 40 * i + 40 ≤ length past → slot_word (x ∷ past) p i ≡ slot_word past p i
unfolding slot_word
slot-later x past p i fits =
    let from : suc (length past) - (p + 40 * i + 40) ≡ suc (length past - (p + 40 * i + 40)) = omega (arith, fits) in
    rw from refl

-- slots without a command for the terminal bring no order
pub bare-none : (own : ℕ) (f : ℕ → Option Word) (start n : ℕ) →
    ((i : ℕ) → start ≤ i → i < start + n → command_for own (f i) ≡ None) → last_order own (map f (range_with_len start n)) ≡ None
bare-none own f start zero h = refl
bare-none own f start (suc n) h =
    let rest : last_order own (map f (range_with_len (start + 1) n)) ≡ None =
    bare-none own f (start + 1) n (λ i low high. h i (omega (arith, low)) (omega (arith, high))) in
    let here : command_for own (f start) ≡ None = h start (omega arith) (omega arith) in
    rw (rest, here) refl

-- while fewer than k + 1 ticks in a row are quiet, what began has no end
pub endless : (k : ℕ) (x : Sample) (past : List Sample) (first : ℕ) → quiet (x ∷ past) ≤ k → end_since k past first ≡ None →
    end_since k (x ∷ past) first ≡ None
unfolding end_since
endless k x past first few none = grind (arith, few, none)

-- a slot that becomes whole with a tick that isn't quiet is the one that ends in it
pub becomes-whole : (i before now : ℕ) → before < 40 * i + 40 → 40 * i + 40 ≤ now → now < 40 * i + 80 → slot_between before now ≡ Some i
becomes-whole i before now low high few =
    let earlier : before / 40 ≤ i = omega (arith, low) in
    let whole : now / 40 ≡ suc i = omega (arith, high, few) in
    grind (arith, earlier, whole)
