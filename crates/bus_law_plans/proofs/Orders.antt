-- Which command a terminal finds in the words of a message as they are shown, and what follows it.
use Rattle.std.proofs.Common.{◌≡◌, ◌⊎◌, inl, inr, ℕ, zero, suc, ◌+◌, ◌*◌, ◌/◌, ◌%◌, ◌≤◌, Bool, true, false, List, [], ◌∷◌, map, Option, Some, None, refl, sym, ap, ◌∙◌, subst, arith}
use Rattle.std.proofs.lemmas.Bool.{cases_eq}
use Rattle.std.proofs.lemmas.Bool.Decides.{nat_tests}
use Rattle.std.proofs.lemmas.Option.{none-some, same_Some}
use Rattle.std.specs.Option.{option_or}
use Rattle.std.specs.Prelude.{if◌then◌else◌, ◌==◌}
use Rattle.std.specs.List.{AllByRecursion as Each}
use Rattle.bus_words.specs.Fields.{command_bits, address_of, is_transmit, is_mode, sub_of, field_of, word_count}
use Rattle.bus_words.specs.declared.word.Word.{Word}
use Rattle.bus_formats.specs.Forms.{command_word, data_word}
use Rattle.bus_formats.specs.Readings.{command_in, data_in}
use Rattle.bus_model.specs.Commands.{relay_from, carries, transmitter_in, relay_in, tail_by, tail_of, words_after}
use Rattle.bus_model.specs.Orders.{is_for, command_for, Order, order_with, last_order}
use Rattle.bus_law_plans.proofs.Lengths.{AreShown, IsZero}
use Rattle.bus_law_plans.proofs.Lists.{skips}

-- ---- the fields of a command word

-- the address of a command word
pub address-is : (address sub field : ℕ) (transmit : Bool) → sub ≤ 31 → field ≤ 31 → address_of (command_bits address transmit sub field) ≡ address
address-is address sub field true low few = omega (arith, low, few)
address-is address sub field false low few = omega (arith, low, few)

-- its subaddress
pub sub-is : (address sub field : ℕ) (transmit : Bool) → sub ≤ 31 → field ≤ 31 → sub_of (command_bits address transmit sub field) ≡ sub
sub-is address sub field true low few = omega (arith, low, few)
sub-is address sub field false low few = omega (arith, low, few)

-- its last field
pub field-is : (address sub field : ℕ) (transmit : Bool) → field ≤ 31 → field_of (command_bits address transmit sub field) ≡ field
field-is address sub field true few = omega (arith, few)
field-is address sub field false few = omega (arith, few)

-- its transmit bit
pub transmit-is : (address sub field : ℕ) (transmit : Bool) → sub ≤ 31 → field ≤ 31 → is_transmit (command_bits address transmit sub field) ≡ transmit
transmit-is address sub field true low few =
    let one : (address * 2048 + 1024 + sub * 32 + field) / 1024 % 2 ≡ 1 = omega (arith, low, few) in ap (λ n. n == 1) one
transmit-is address sub field false low few =
    let none : (address * 2048 + 0 + sub * 32 + field) / 1024 % 2 ≡ 0 = omega (arith, low, few) in ap (λ n. n == 1) none

-- a subaddress from 1 to 30 is that of no mode command
pub plain-mode : (bits sub : ℕ) → sub_of bits ≡ sub → 1 ≤ sub → sub ≤ 30 → is_mode bits ≡ false
plain-mode bits sub is some low = grind (arith, nat_tests, is, some, low)

-- one of 0 or 31 is that of a mode command
pub mode-is : (bits sub : ℕ) → sub_of bits ≡ sub → (sub ≡ 0) ⊎ (sub ≡ 31) → is_mode bits ≡ true
mode-is bits sub is (inl none) = grind (arith, nat_tests, is, none)
mode-is bits sub is (inr all) = grind (arith, nat_tests, is, all)

full-count : (n : ℕ) → 1 ≤ n → n ≤ 32 → (if n % 32 == 0 then 32 else n % 32) ≡ n
full-count n some few = elim (cases_eq n 32) [
  | inl same ↦ rw same refl
  | inr apart ↦ (let test : (n % 32 == 0) ≡ false = grind (arith, nat_tests, some, few, apart) in
      skips (n % 32 == 0) 32 (n % 32) test ∙ omega (arith, some, few, apart))
]

-- the number of data words that it names
pub count-is : (bits n : ℕ) → field_of bits ≡ n % 32 → 1 ≤ n → n ≤ 32 → word_count bits ≡ n
count-is bits n field some few = ap (λ (m : ℕ). if m == 0 then 32 else m) field ∙ full-count n some few

-- as many follow a receive command
pub after-receive : (bits n : ℕ) → is_mode bits ≡ false → is_transmit bits ≡ false → word_count bits ≡ n → words_after bits ≡ n
after-receive bits n plain down count = skips (is_mode bits) _ (if is_transmit bits then 0 else word_count bits) plain ∙ (skips (is_transmit bits) 0 (word_count bits) down ∙ count)

-- ---- words without a command

-- no command is found in data words
pub bare-order : (own : ℕ) (words : List ℕ) (slots : List (Option Word)) → AreShown (map data_word words) slots → last_order own slots ≡ None
bare-order own words [] h = refl
bare-order own [] (slot ∷ slots) h =
    ap (λ s. option_or (last_order own slots) (order_with (command_for own s) slots)) h.0 ∙ ap (λ o. option_or o None) (bare-zeros own slots h.1)
  where
    bare-zeros : (a : ℕ) (zs : List (Option Word)) → Each IsZero zs → last_order a zs ≡ None
    bare-zeros a [] all = refl
    bare-zeros a (z ∷ zs) all =
        ap (λ s. option_or (last_order a zs) (order_with (command_for a s) zs)) all.0 ∙ ap (λ o. option_or o None) (bare-zeros a zs all.1)
bare-order own (w ∷ words) (slot ∷ slots) h =
    ap (λ o. option_or o (order_with (command_for own slot) slots)) (bare-order own words slots h.1) ∙ by-slot h.0
  where
    by-slot : (slot ≡ None) ⊎ (slot ≡ Some (data_word w)) → order_with (command_for own slot) slots ≡ None
    by-slot (inl none) = ap (λ s. order_with (command_for own s) slots) none
    by-slot (inr same) = ap (λ s. order_with (command_for own s) slots) same

-- and so nothing is promised after a command
pub no-relay : (own command : ℕ) (words : List ℕ) (slots : List (Option Word)) → AreShown (map data_word words) slots → relay_in own command slots ≡ None
no-relay own command words [] h = refl
no-relay own command words (slot ∷ other ∷ slots) h = refl
no-relay own command [] (slot ∷ []) h = ap (λ s. transmitter_in own command (command_in s)) h.0
no-relay own command (w ∷ words) (slot ∷ []) h = by-slot h.0
  where
    by-slot : (slot ≡ None) ⊎ (slot ≡ Some (data_word w)) → transmitter_in own command (command_in slot) ≡ None
    by-slot (inl none) = ap (λ s. transmitter_in own command (command_in s)) none
    by-slot (inr same) = ap (λ s. transmitter_in own command (command_in s)) same

-- ---- one command with its data words

-- a terminal that the command is for finds it, with what follows
pub record IsSingle (own bits : ℕ) (words : List ℕ) (order : Order) : Type 0 where
  pub command : order.command ≡ bits
  pub own_is : is_for own bits ≡ true
  pub tail : AreShown (map data_word words) order.tail

by-for : (own bits : ℕ) (words : List ℕ) (tail : List (Option Word)) (order : Order) → AreShown (map data_word words) tail → (b : Bool) → is_for own bits ≡ b →
    order_with (if b then Some bits else None) tail ≡ Some order → IsSingle own bits words order
by-for own bits words tail order h false test is = absurd (none-some order is)
by-for own bits words tail order h true test is =
    let same : record { command = bits; tail = tail } ≡ order = same_Some _ order is in
    record { command = sym (ap (λ (o : Order). o.command) same); own_is = test; tail = subst (λ (o : Order). AreShown (map data_word words) o.tail) same h }

-- the order from the first slot
pub first-order : (own bits : ℕ) (words : List ℕ) (slot : Option Word) (tail : List (Option Word)) (order : Order) → AreShown (map data_word words) tail →
    (slot ≡ None) ⊎ (slot ≡ Some (command_word bits)) → order_with (command_for own slot) tail ≡ Some order → IsSingle own bits words order
first-order own bits words slot tail order h (inl none) is = absurd (none-some order (sym (ap (λ s. order_with (command_for own s) tail) none) ∙ is))
first-order own bits words slot tail order h (inr same) is =
    by-for own bits words tail order h (is_for own bits) refl (sym (ap (λ s. order_with (command_for own s) tail) same) ∙ is)

-- whoever finds a command in the words of one finds that one
pub single-order : (own bits : ℕ) (words : List ℕ) (slots : List (Option Word)) → AreShown (command_word bits ∷ map data_word words) slots →
    (order : Order) → last_order own slots ≡ Some order → IsSingle own bits words order
single-order own bits words [] h order is = absurd (none-some order is)
single-order own bits words (slot ∷ tail) h order is =
    first-order own bits words slot tail order h.1 h.0
    (sym (ap (λ o. option_or o (order_with (command_for own slot) tail)) (bare-order own words tail h.1)) ∙ is)

-- ---- a relay's two commands

-- a slot with the second command, or with none
abbrev pub IsSecond : ℕ → List (Option Word) → Type 0
IsSecond second [] = Unit {0}
IsSecond second (slot ∷ slots) = (slot ≡ None) ⊎ (slot ≡ Some (command_word second))

pub data IsPair (own first second : ℕ) (order : Order) : Type 0 where
  -- the second command is found, and nothing but zeros after it
  is_second : order.command ≡ second → is_for own second ≡ true → Each IsZero order.tail → IsPair own first second order
  -- the first is found, and the second after it, if it is shown
  is_first : order.command ≡ first → is_for own first ≡ true → IsSecond second order.tail → IsPair own first second order

by-second : (own first second : ℕ) (tail : List (Option Word)) (order : Order) → Each IsZero tail → (b : Bool) → is_for own second ≡ b →
    (rest : Option Order) → (rest ≡ Some order → IsPair own first second order) →
    option_or (order_with (if b then Some second else None) tail) rest ≡ Some order → IsPair own first second order
by-second own first second tail order zs false test rest h is = h is
by-second own first second tail order zs true test rest h is =
    let same : record { command = second; tail = tail } ≡ order = same_Some _ order is in
    is_second (sym (ap (λ (o : Order). o.command) same)) test (subst (λ (o : Order). Each IsZero o.tail) same zs)

by-first : (own first second : ℕ) (tail : List (Option Word)) (order : Order) → IsSecond second tail → (b : Bool) → is_for own first ≡ b →
    order_with (if b then Some first else None) tail ≡ Some order → IsPair own first second order
by-first own first second tail order h false test is = absurd (none-some order is)
by-first own first second tail order h true test is =
    let same : record { command = first; tail = tail } ≡ order = same_Some _ order is in
    is_first (sym (ap (λ (o : Order). o.command) same)) test (subst (λ (o : Order). IsSecond second o.tail) same h)

from-first : (own first second : ℕ) (slot : Option Word) (tail : List (Option Word)) (order : Order) → IsSecond second tail →
    (slot ≡ None) ⊎ (slot ≡ Some (command_word first)) → order_with (command_for own slot) tail ≡ Some order → IsPair own first second order
from-first own first second slot tail order h (inl none) is = absurd (none-some order (sym (ap (λ s. order_with (command_for own s) tail) none) ∙ is))
from-first own first second slot tail order h (inr same) is =
    by-first own first second tail order h (is_for own first) refl (sym (ap (λ s. order_with (command_for own s) tail) same) ∙ is)

from-second : (own first second : ℕ) (slot : Option Word) (zs : List (Option Word)) (order : Order) → Each IsZero zs → (slot ≡ None) ⊎ (slot ≡ Some (command_word second)) →
    (rest : Option Order) → (rest ≡ Some order → IsPair own first second order) →
    option_or (order_with (command_for own slot) zs) rest ≡ Some order → IsPair own first second order
from-second own first second slot zs order all (inl none) rest h is =
    h (sym (ap (λ s. option_or (order_with (command_for own s) zs) rest) none) ∙ is)
from-second own first second slot zs order all (inr same) rest h is =
    by-second own first second zs order all (is_for own second) refl rest h (sym (ap (λ s. option_or (order_with (command_for own s) zs) rest) same) ∙ is)

zeros-of : (zs : List (Option Word)) → AreShown [] zs → Each IsZero zs
zeros-of [] h = tt
zeros-of (z ∷ zs) h = h

-- whoever finds a command in a relay's words finds one of the two
pub pair-order : (own first second : ℕ) (slots : List (Option Word)) → AreShown (command_word first ∷ command_word second ∷ []) slots → (order : Order) →
    last_order own slots ≡ Some order → IsPair own first second order
pair-order own first second [] h order is = absurd (none-some order is)
pair-order own first second (slot ∷ []) h order is = from-first own first second slot [] order tt h.0 is
pair-order own first second (slot ∷ other ∷ zs) h order is =
    from-second own first second other zs order (zeros-of zs h.1.1) h.1.0 (order_with (command_for own slot) (other ∷ zs))
    (λ rest. from-first own first second slot (other ∷ zs) order h.1.0 h.0 rest)
    (sym (ap (λ o. option_or (option_or o (order_with (command_for own other) zs)) (order_with (command_for own slot) (other ∷ zs))) (bare-order own [] zs h.1.1)) ∙ is)

-- ---- what follows

carries-by : (relay : Option ℕ) (read : Option (List ℕ)) (words : List ℕ) → tail_by relay read ≡ carries words → read ≡ Some words
carries-by (Some transmitter) read words is = cc
carries-by None None words is = cc
carries-by None (Some ws) words is = cc

-- the data words that a command wants
pub carried : (own command : ℕ) (slots : List (Option Word)) (rest : ℕ) (words : List ℕ) → tail_of own command slots rest ≡ carries words →
    data_in (words_after command) slots ≡ Some words
carried own command slots zero words is = carries-by (relay_in own command slots) (data_in (words_after command) slots) words is
carried own command slots (suc n) words is = cc

promised-by : (relay : Option ℕ) (read : Option (List ℕ)) (transmitter : ℕ) → tail_by relay read ≡ relay_from transmitter → relay ≡ Some transmitter
promised-by (Some t) read transmitter is = cc
promised-by None None transmitter is = cc
promised-by None (Some ws) transmitter is = cc

-- the transmitter of a relay
pub promised : (own command : ℕ) (slots : List (Option Word)) (rest transmitter : ℕ) → tail_of own command slots rest ≡ relay_from transmitter →
    relay_in own command slots ≡ Some transmitter
promised own command slots zero transmitter is = promised-by (relay_in own command slots) (data_in (words_after command) slots) transmitter is
promised own command slots (suc n) transmitter is = cc

-- no data words follow a relay's first command
pub second-carries : (n second : ℕ) (slots : List (Option Word)) (words : List ℕ) → IsSecond second slots → data_in (suc n) slots ≡ Some words → ⊥
second-carries n second [] words h is = none-some words is
second-carries n second (slot ∷ slots) words (inl none) is =
    none-some words (sym (ap (λ s. data_in (suc n) (s ∷ slots)) none) ∙ is)
second-carries n second (slot ∷ slots) words (inr same) is =
    none-some words (sym (ap (λ s. data_in (suc n) (s ∷ slots)) same) ∙ is)
