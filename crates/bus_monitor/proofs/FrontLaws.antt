-- The first 34 slots of a burst tell which message it opens: none is opened by more than 33.
use Rattle.std.proofs.Common.{◌≡◌, ℕ, zero, suc, ◌<◌, List, [], ◌∷◌, take, refl, ap, arith}
use Rattle.std.specs.Prelude.{Bool, true, false, if◌then◌else◌, Option, Some, None}
use Rattle.std.proofs.lemmas.Bool.Decides.{nat_tests}
use Rattle.bus_words.specs.Fields.{word_count, is_mode, is_transmit}
use Rattle.bus_words.specs.declared.word.Word.{Word}
use Rattle.bus_formats.specs.Readings.{command_in, datum_in, data_in, word_before}
use Rattle.bus_monitor.specs.Messages.{message_of, command_message, mode_message, transmit_message, receive_message, relay_message}

pub data-front : (n m : ℕ) (slots : List (Option Word)) → n < m → data_in n (take m slots) ≡ data_in n slots
data-front zero zero slots h = absurd (omega (arith, h))
data-front zero (suc m) [] h = refl
data-front zero (suc m) (slot ∷ slots) h = refl
data-front (suc n) zero slots h = absurd (omega (arith, h))
data-front (suc n) (suc m) [] h = refl
data-front (suc n) (suc m) (slot ∷ slots) h = ap (word_before (datum_in slot)) (data-front n m slots (omega (arith, h)))

mode-front : (command : ℕ) (slots : List (Option Word)) → mode_message command (take 33 slots) ≡ mode_message command slots
mode-front command [] = refl
mode-front command (slot ∷ []) = refl
mode-front command (slot ∷ next ∷ slots) = refl

transmit-front : (command : ℕ) (slots : List (Option Word)) → transmit_message command (take 33 slots) ≡ transmit_message command slots
transmit-front command [] = refl
transmit-front command (slot ∷ slots) = refl

relay-front : (command : ℕ) (slots : List (Option Word)) → relay_message command (take 33 slots) ≡ relay_message command slots
relay-front command [] = refl
relay-front command (slot ∷ []) = refl
relay-front command (slot ∷ next ∷ slots) = refl

count-short : (command : ℕ) → word_count command < 33
count-short command = grind (arith, nat_tests)

receive-front : (command : ℕ) (slots : List (Option Word)) (words : Option (List ℕ)) →
    receive_message command (take 33 slots) words ≡ receive_message command slots words
receive-front command slots (Some words) = refl
receive-front command slots None = relay-front command slots

if-same : {T : Type 0} (test : Bool) (x x' y y' : T) → x ≡ x' → y ≡ y' → (if test then x else y) ≡ (if test then x' else y')
if-same true x x' y y' first second = first
if-same false x x' y y' first second = second

command-front : (command : Option ℕ) (slots : List (Option Word)) → command_message command (take 33 slots) ≡ command_message command slots
command-front None slots = refl
command-front (Some command) slots =
    if-same (is_mode command) (mode_message command (take 33 slots)) (mode_message command slots) _ _ (mode-front command slots)
    (if-same (is_transmit command) (transmit_message command (take 33 slots)) (transmit_message command slots) _ _ (transmit-front command slots)
    (rw (data-front (word_count command) 33 slots (count-short command)) (receive-front command slots (data_in (word_count command) slots))))

pub opening-front : (slots : List (Option Word)) (rest : ℕ) → message_of (take 34 slots) rest ≡ message_of slots rest
opening-front [] rest = refl
opening-front (slot ∷ slots) zero = command-front (command_in slot) slots
opening-front (slot ∷ slots) (suc rest) = refl
