-- A monitor reads a command that was sent whole as the message that it begins.
use Rattle.std.proofs.Common.{◌≡◌, ◌≢◌, ℕ, zero, suc, ◌%◌, ◌≤◌, List, [], ◌∷◌, length, map, refl, ap, sym, ◌∙◌, arith}
use Rattle.std.proofs.lemmas.Bool.Decides.{nat_tests}
use Rattle.std.specs.Prelude.{Bool, true, false, not, ◌&&◌, ◌==◌, is_some, AllPairs, IsSome, Option, Some, None, option_to_list}
use Rattle.bus_words.specs.Fields.{command_bits, address_of, is_transmit, sub_of, field_of, is_broadcast, is_mode, word_count}
use Rattle.bus_words.specs.declared.word.Word.{Word}
use Rattle.bus_formats.specs.Accepted.{HasReceiveRanges, HasTransmitRanges, HasModeRanges, HasKindRanges, addresses_named}
use Rattle.bus_formats.specs.Forms.{form_of, command_word, data_word, command_words, is_second_command}
use Rattle.bus_formats.specs.Readings.{word_before, data_in}
use Rattle.bus_formats.specs.declared.plan.Kind.{Kind}
use Rattle.bus_formats.specs.declared.plan.Kind.TheVariants.{Receive, Transmit, Relay, Mode}
use Rattle.bus_monitor.specs.Messages.{with_form, mode_kind, mode_message, transmit_message, receive_message, message_of}
use Rattle.bus_law_duties.proofs.Fields.{skips, takes}
use Rattle.bus_law_duties.specs.Words.{whole_slots}
use Rattle.bus_law_plans.proofs.Orders.{address-is, sub-is, field-is, transmit-is, plain-mode, mode-is, count-is}

-- data words that were sent whole are read
pub data-read : (words : List ℕ) → data_in (length words) (whole_slots (map data_word words)) ≡ Some words
data-read [] = refl
data-read (w ∷ words) = ap (word_before (Some w)) (data-read words)

receive-same : (to sub to' sub' : ℕ) (words : List ℕ) → to' ≡ to → sub' ≡ sub → Some (Receive to' sub' words) ≡ Some (Receive to sub words)
receive-same to sub to' sub' words at on = rw (at, on) refl

receive-read : (to sub : ℕ) (words : List ℕ) → HasReceiveRanges to sub (length words) →
    message_of (whole_slots (command_words (Receive to sub words))) 0 ≡ Some (Receive to sub words)
receive-read to sub words ranges =
    let field : ℕ = length words % 32 in
    let few : field ≤ 31 = omega arith in
    let low : sub ≤ 31 = omega (arith, ranges.subaddress) in
    let bits : ℕ = command_bits to false sub field in
    let slots : List (Option Word) = whole_slots (map data_word words) in
    let on : sub_of bits ≡ sub = sub-is to sub field false low few in
    let plain : is_mode bits ≡ false = plain-mode bits sub on ranges.subaddress.0 ranges.subaddress.1 in
    let count : word_count bits ≡ length words = count-is bits (length words) (field-is to sub field false few) ranges.words.0 ranges.words.1 in
    skips (is_mode bits) (mode_message bits slots) _ plain
    ∙ skips (is_transmit bits) (transmit_message bits slots) (receive_message bits slots (data_in (word_count bits) slots)) (transmit-is to sub field false low few)
    ∙ ap (λ n. receive_message bits slots (data_in n slots)) count
    ∙ ap (receive_message bits slots) (data-read words)
    ∙ receive-same to sub (address_of bits) (sub_of bits) words (address-is to sub field false low few) on

transmit-same : (from sub count from' sub' count' : ℕ) → from' ≡ from → sub' ≡ sub → count' ≡ count → Some (Transmit from' sub' count') ≡ Some (Transmit from sub count)
transmit-same from sub count from' sub' count' at on many = rw (at, on, many) refl

not-all : (n m : ℕ) → n ≡ m → m ≤ 30 → (n == 31) ≡ false
not-all n m same low = grind (arith, nat_tests, same, low)

transmit-read : (from sub count : ℕ) → HasTransmitRanges from sub count → message_of (whole_slots (command_words (Transmit from sub count))) 0 ≡ Some (Transmit from sub count)
transmit-read from sub count ranges =
    let field : ℕ = count % 32 in
    let few : field ≤ 31 = omega arith in
    let low : sub ≤ 31 = omega (arith, ranges.subaddress) in
    let bits : ℕ = command_bits from true sub field in
    let on : sub_of bits ≡ sub = sub-is from sub field true low few in
    let at : address_of bits ≡ from = address-is from sub field true low few in
    let plain : is_mode bits ≡ false = plain-mode bits sub on ranges.subaddress.0 ranges.subaddress.1 in
    let many : word_count bits ≡ count = count-is bits count (field-is from sub field true few) ranges.words.0 ranges.words.1 in
    skips (is_mode bits) (mode_message bits []) _ plain
    ∙ takes (is_transmit bits) (transmit_message bits []) (receive_message bits [] (data_in (word_count bits) [])) (transmit-is from sub field true low few)
    ∙ skips (is_broadcast bits) None (Some (Transmit (address_of bits) (sub_of bits) (word_count bits))) (not-all (address_of bits) from at ranges.address)
    ∙ transmit-same from sub count (address_of bits) (sub_of bits) (word_count bits) at on many

relay-same : (from from_sub to to_sub count from' from_sub' to' to_sub' count' : ℕ) → from' ≡ from → from_sub' ≡ from_sub → to' ≡ to → to_sub' ≡ to_sub → count' ≡ count →
    Some (Relay from' from_sub' to' to_sub' count') ≡ Some (Relay from from_sub to to_sub count)
relay-same from from_sub to to_sub count from' from_sub' to' to_sub' count' a b c d e = rw (a, b, c, d, e) refl

-- a second command is no data word
second-none : (n second : ℕ) → 1 ≤ n → data_in n (Some (command_word second) ∷ []) ≡ None
second-none zero second some = absurd (omega (arith, some))
second-none (suc n) second some = refl

all-five : (a b c d e : Bool) → a ≡ true → b ≡ false → c ≡ true → d ≡ false → e ≡ false → ((a && not b && c && not d) && not e) ≡ true
all-five a b c d e is-a is-b is-c is-d is-e = rw (is-a, is-b, is-c, is-d, is-e) refl

same-test : (m n : ℕ) → m ≡ n → (m == n) ≡ true
same-test m n is = grind (arith, nat_tests, is)

apart-test : (m n : ℕ) → m ≢ n → (m == n) ≡ false
apart-test m n is = grind (arith, nat_tests, is)

relay-read : (from from_sub to to_sub count : ℕ) → HasTransmitRanges from from_sub count → HasReceiveRanges to to_sub count → from ≢ to →
    message_of (whole_slots (command_words (Relay from from_sub to to_sub count))) 0 ≡ Some (Relay from from_sub to to_sub count)
relay-read from from_sub to to_sub count sends receives apart =
    let field : ℕ = count % 32 in
    let few : field ≤ 31 = omega arith in
    let low : to_sub ≤ 31 = omega (arith, receives.subaddress) in
    let from-low : from_sub ≤ 31 = omega (arith, sends.subaddress) in
    let bits : ℕ = command_bits to false to_sub field in
    let second : ℕ = command_bits from true from_sub field in
    let slots : List (Option Word) = Some (command_word second) ∷ [] in
    let on : sub_of bits ≡ to_sub = sub-is to to_sub field false low few in
    let at : address_of bits ≡ to = address-is to to_sub field false low few in
    let from-on : sub_of second ≡ from_sub = sub-is from from_sub field true from-low few in
    let from-at : address_of second ≡ from = address-is from from_sub field true from-low few in
    let plain : is_mode bits ≡ false = plain-mode bits to_sub on receives.subaddress.0 receives.subaddress.1 in
    let from-plain : is_mode second ≡ false = plain-mode second from_sub from-on sends.subaddress.0 sends.subaddress.1 in
    let many : word_count bits ≡ count = count-is bits count (field-is to to_sub field false few) receives.words.0 receives.words.1 in
    let fields : field_of second ≡ field_of bits = field-is from from_sub field true few ∙ sym (field-is to to_sub field false few) in
    let test : (is_second_command bits second && not (address_of second == address_of bits)) ≡ true =
    all-five (is_transmit second) (is_mode second) (field_of second == field_of bits) (is_broadcast second) (address_of second == address_of bits)
    (transmit-is from from_sub field true from-low few) from-plain (same-test (field_of second) (field_of bits) fields)
    (not-all (address_of second) from from-at sends.address)
    (apart-test (address_of second) (address_of bits) (λ same. apart (sym from-at ∙ same ∙ at))) in
    skips (is_mode bits) (mode_message bits slots) _ plain
    ∙ skips (is_transmit bits) (transmit_message bits slots) (receive_message bits slots (data_in (word_count bits) slots)) (transmit-is to to_sub field false low few)
    ∙ ap (λ n. receive_message bits slots (data_in n slots)) many
    ∙ ap (receive_message bits slots) (second-none count second receives.words.0)
    ∙ takes _ (Some (Relay (address_of second) (sub_of second) (address_of bits) (sub_of bits) (word_count bits))) None test
    ∙ relay-same from from_sub to to_sub count (address_of second) (sub_of second) (address_of bits) (sub_of bits) (word_count bits) from-at from-on at on many

mode-same : (to mode_sub code to' mode_sub' code' : ℕ) (transmit transmit' : Bool) (word : Option ℕ) → to' ≡ to → mode_sub' ≡ mode_sub → transmit' ≡ transmit → code' ≡ code →
    with_form (Mode to' mode_sub' transmit' code' word) ≡ with_form (Mode to mode_sub transmit code word)
mode-same to mode_sub code to' mode_sub' code' transmit transmit' word a b c d = rw (a, b, c, d) refl

mode-word : (bits : ℕ) (word : Option ℕ) → mode_message bits (whole_slots (map data_word (option_to_list word))) ≡ mode_kind bits word
mode-word bits None = refl
mode-word bits (Some word) = refl

mode-read : (to mode_sub : ℕ) (transmit : Bool) (code : ℕ) (word : Option ℕ) → HasModeRanges to mode_sub code → IsSome (form_of (Mode to mode_sub transmit code word)) →
    message_of (whole_slots (command_words (Mode to mode_sub transmit code word))) 0 ≡ Some (Mode to mode_sub transmit code word)
mode-read to mode_sub transmit code word ranges form =
    let bits : ℕ = command_bits to transmit mode_sub code in
    let slots : List (Option Word) = whole_slots (map data_word (option_to_list word)) in
    let low : mode_sub ≤ 31 = omega (arith, ranges.subaddress) in
    let on : sub_of bits ≡ mode_sub = sub-is to mode_sub code transmit low ranges.mode in
    takes (is_mode bits) (mode_message bits slots) _ (mode-is bits mode_sub on ranges.subaddress)
    ∙ mode-word bits word
    ∙ mode-same to mode_sub code (address_of bits) (sub_of bits) (field_of bits) transmit (is_transmit bits) word
    (address-is to mode_sub code transmit low ranges.mode) on (transmit-is to mode_sub code transmit low ranges.mode) (field-is to mode_sub code transmit ranges.mode)
    ∙ takes (is_some (form_of (Mode to mode_sub transmit code word))) (Some (Mode to mode_sub transmit code word)) None form

-- every command opens its own message
pub command-read : (kind : Kind) → HasKindRanges kind → IsSome (form_of kind) → AllPairs (λ a b. a ≢ b) (addresses_named kind) →
    message_of (whole_slots (command_words kind)) 0 ≡ Some kind
command-read (Receive to sub words) ranges form apart = receive-read to sub words ranges
command-read (Transmit from sub count) ranges form apart = transmit-read from sub count ranges
command-read (Relay from from_sub to to_sub count) ranges form apart = relay-read from from_sub to to_sub count ranges.0 ranges.1 (relay-apart from to apart)
  where
    relay-apart : (a b : ℕ) → AllPairs (λ m n. m ≢ n) (a ∷ b ∷ []) → a ≢ b
    relay-apart a b pairs = λ same. pairs 0 1 0 (omega arith) (omega arith) same
command-read (Mode to mode_sub transmit code word) ranges form apart = mode-read to mode_sub transmit code word ranges form
