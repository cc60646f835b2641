-- The words of a burst as they are shown: each is one of those that were sent, or not valid, or one that an extra adds; and which command is found in them.
use Rattle.std.proofs.Common.{◌≡◌, ℕ, suc, ◌+◌, ◌-◌, ◌≤◌, Bool, true, false, List, [], ◌∷◌, length, take, replicate, Option, Some, None, refl, sym, ap, ◌∙◌, subst, arith, length-append}
use Rattle.std.proofs.lemmas.List.{length-take}
use Rattle.std.proofs.lemmas.Option.{none-some, same_Some}
use Rattle.std.specs.Option.{option_or}
use Rattle.std.specs.Prelude.{if◌then◌else◌, IfSome}
use Rattle.std.specs.List.{AllByRecursion as Each, list_any}
use Rattle.bus_words.specs.declared.word.Word.{Word}
use Rattle.bus_formats.specs.Forms.{data_word}
use Rattle.bus_formats.specs.Readings.{command_in}
use Rattle.bus_formats.specs.declared.fault.Hit.{Hit}
use Rattle.bus_formats.specs.declared.fault.Hit.TheVariants.{Flip, Cut, Extra, Fade}
use Rattle.bus_model.specs.Orders.{is_for, command_by, command_for, Order, order_with, last_order}
use Rattle.bus_model.specs.Strikes.{spoils, spoiled, cut_by, added_by, own_struck, struck}
use Rattle.bus_law_plans.proofs.Lists.{either, each-append, each-take, each-replicate}

-- what holds of the word in a slot, if one is there
abbrev pub Slot : (Word → Type 0) → Option Word → Type 0
Slot P slot = IfSome slot P

spoiled-each : (P : Word → Type 0) (hits : List Hit) (n : ℕ) (words : List Word) → Each P words → Each (Slot P) (spoiled hits n words)
spoiled-each P hits n [] all = tt
spoiled-each P hits n (word ∷ words) all =
    (either (Slot P) (list_any (spoils n) hits) None (Some word) tt all.0, spoiled-each P hits (n + 1) words all.1)

-- what holds of each slot holds of those that a cut leaves
pub cut-each : (Q : Option Word → Type 0) (hits : List Hit) (slots : List (Option Word)) → Each Q slots → Each Q (cut_by hits slots)
cut-each Q [] slots all = all
cut-each Q (Flip word set ∷ hits) slots all = cut-each Q hits slots all
cut-each Q (Fade word set ∷ hits) slots all = cut-each Q hits slots all
cut-each Q (Extra words ∷ hits) slots all = cut-each Q hits slots all
cut-each Q (Cut after ∷ hits) slots all = cut-each Q hits (take after slots) (each-take Q after slots all)

-- what holds of each word that is sent, and of the word that an extra adds, holds of each that is shown
pub struck-each : (P : Word → Type 0) (hits : List Hit) (words : List Word) → P (data_word 0) → Each P words → Each (Slot P) (struck hits words)
struck-each P hits words zero-word all =
    let own : List (Option Word) = own_struck hits words in
    let zeros : List (Option Word) = replicate (added_by hits) (Some (data_word 0)) in
    each-append (Slot P) own (take (40 - length own) zeros) (cut-each (Slot P) hits (spoiled hits 0 words) (spoiled-each P hits 0 words all))
    (each-take (Slot P) (40 - length own) zeros (each-replicate (Slot P) (added_by hits) (Some (data_word 0)) zero-word))

-- ---- how many

spoiled-long : (hits : List Hit) (n : ℕ) (words : List Word) → length (spoiled hits n words) ≡ length words
spoiled-long hits n [] = refl
spoiled-long hits n (word ∷ words) = ap suc (spoiled-long hits (n + 1) words)

-- a cut leaves no more slots
pub cut-few : (hits : List Hit) (slots : List (Option Word)) → length (cut_by hits slots) ≤ length slots
cut-few [] slots = omega arith
cut-few (Flip word set ∷ hits) slots = cut-few hits slots
cut-few (Fade word set ∷ hits) slots = cut-few hits slots
cut-few (Extra words ∷ hits) slots = cut-few hits slots
cut-few (Cut after ∷ hits) slots = omega (arith, cut-few hits (take after slots), length-take after slots)

-- no more of the own words are shown than are sent
pub own-few : (hits : List Hit) (words : List Word) → length (own_struck hits words) ≤ length words
own-few hits words = omega (arith, cut-few hits (spoiled hits 0 words), spoiled-long hits 0 words)

-- at most forty words are shown
pub struck-few : (hits : List Hit) (words : List Word) → length words ≤ 40 → length (struck hits words) ≤ 40
struck-few hits words few =
    let own : List (Option Word) = own_struck hits words in
    let zeros : List (Option Word) = replicate (added_by hits) (Some (data_word 0)) in
    omega (arith, own-few hits words, few, length-append own (take (40 - length own) zeros), length-take (40 - length own) zeros)

-- ---- the command in them

-- each command in these slots is so
abbrev pub Commands : (ℕ → Type 0) → List (Option Word) → Type 0
Commands Q slots = Each (λ slot. (c : ℕ) → command_in slot ≡ Some c → Q c) slots

word-slot : (Q : ℕ → Type 0) (slot : Option Word) → Slot (λ w. (c : ℕ) → command_in (Some w) ≡ Some c → Q c) slot → (c : ℕ) → command_in slot ≡ Some c → Q c
word-slot Q None h c is = absurd (none-some c is)
word-slot Q (Some word) h c is = h c is

words-slots : (Q : ℕ → Type 0) (slots : List (Option Word)) → Each (Slot (λ w. (c : ℕ) → command_in (Some w) ≡ Some c → Q c)) slots → Commands Q slots
words-slots Q [] all = tt
words-slots Q (slot ∷ slots) all = (word-slot Q slot all.0, words-slots Q slots all.1)

-- what is known of each command that is sent is known of each that is shown
pub struck-commands : (Q : ℕ → Type 0) (hits : List Hit) (words : List Word) → Each (λ w. (c : ℕ) → command_in (Some w) ≡ Some c → Q c) words →
    Commands Q (struck hits words)
struck-commands Q hits words all =
    words-slots Q (struck hits words) (struck-each (λ w. (c : ℕ) → command_in (Some w) ≡ Some c → Q c) hits words (λ c is. absurd (none-some c is)) all)

-- a command that is found for a terminal
pub record IsFound (own : ℕ) (Q : ℕ → Type 0) (order : Order) : Type 0 where
  pub command : Q order.command
  pub own_is : is_for own order.command ≡ true

by-test : (own : ℕ) (Q : ℕ → Type 0) (c : ℕ) (tail : List (Option Word)) (order : Order) → Q c → (b : Bool) → is_for own c ≡ b →
    order_with (if b then Some c else None) tail ≡ Some order → IsFound own Q order
by-test own Q c tail order h false test is = absurd (none-some order is)
by-test own Q c tail order h true test is =
    let same : c ≡ order.command = ap (λ (o : Order). o.command) (same_Some _ _ is) in
    record { command = subst Q same h; own_is = ap (is_for own) (sym same) ∙ test }

found-by : (own : ℕ) (Q : ℕ → Type 0) (command : Option ℕ) (tail : List (Option Word)) (order : Order) → ((c : ℕ) → command ≡ Some c → Q c) →
    order_with (command_by own command) tail ≡ Some order → IsFound own Q order
found-by own Q None tail order h is = absurd (none-some order is)
found-by own Q (Some c) tail order h is = by-test own Q c tail order (h c refl) (is_for own c) refl is

found-later : (own : ℕ) (Q : ℕ → Type 0) (slot : Option Word) (slots : List (Option Word)) (order : Order) → ((c : ℕ) → command_in slot ≡ Some c → Q c) →
    (later : Option Order) → (later ≡ Some order → IsFound own Q order) → option_or later (order_with (command_for own slot) slots) ≡ Some order →
    IsFound own Q order
found-later own Q slot slots order first None rest is = found-by own Q (command_in slot) slots order first is
found-later own Q slot slots order first (Some other) rest is = rest is

-- the command that is found is one of those in the slots, and for the terminal
pub order-found : (own : ℕ) (Q : ℕ → Type 0) (slots : List (Option Word)) → Commands Q slots → (order : Order) → last_order own slots ≡ Some order →
    IsFound own Q order
order-found own Q [] all order is = absurd (none-some order is)
order-found own Q (slot ∷ slots) all order is =
    found-later own Q slot slots order all.0 (last_order own slots) (order-found own Q slots all.1 order) is

-- ---- the words after it

with-tail : (Q : Option Word → Type 0) (command : Option ℕ) (slots : List (Option Word)) (order : Order) → Each Q slots → order_with command slots ≡ Some order →
    Each Q order.tail
with-tail Q None slots order all is = absurd (none-some order is)
with-tail Q (Some c) slots order all is = subst (λ (o : Order). Each Q o.tail) (same_Some _ order is) all

tail-later : (Q : Option Word → Type 0) (own : ℕ) (slot : Option Word) (slots : List (Option Word)) (order : Order) → Each Q slots → (later : Option Order) →
    (later ≡ Some order → Each Q order.tail) → option_or later (order_with (command_for own slot) slots) ≡ Some order → Each Q order.tail
tail-later Q own slot slots order all None rest is = with-tail Q (command_for own slot) slots order all is
tail-later Q own slot slots order all (Some other) rest is = rest is

-- what holds of each slot holds of those after the command
pub tail-each : (Q : Option Word → Type 0) (own : ℕ) (slots : List (Option Word)) → Each Q slots → (order : Order) → last_order own slots ≡ Some order →
    Each Q order.tail
tail-each Q own [] all order is = absurd (none-some order is)
tail-each Q own (slot ∷ slots) all order is =
    tail-later Q own slot slots order all.1 (last_order own slots) (tail-each Q own slots all.1 order) is
