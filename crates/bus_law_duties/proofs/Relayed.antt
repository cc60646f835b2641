-- What a terminal makes of the two commands of a relay.
use Rattle.std.proofs.Common.{◌≡◌, ◌≢◌, inl, inr, ℕ, ◌%◌, ◌≤◌, Bool, true, false, List, [], ◌∷◌, map, Option, Some, None, refl, sym, ap, ◌∙◌, arith}
use Rattle.std.proofs.lemmas.Bool.{true≢false}
use Rattle.std.proofs.lemmas.Bool.Decides.{nat_tests}
use Rattle.std.proofs.lemmas.Option.{none-some, same_Some}
use Rattle.std.specs.Prelude.{◌&&◌, ◌==◌, not, if◌then◌else◌}
use Rattle.bus_words.specs.Fields.{command_bits, address_of, is_transmit, is_mode, is_broadcast, field_of, word_count}
use Rattle.bus_words.specs.declared.word.Word.{Word}
use Rattle.bus_formats.specs.Accepted.{HasKindRanges}
use Rattle.bus_formats.specs.Codes.{carried}
use Rattle.bus_formats.specs.Forms.{command_word, data_word, is_second_command}
use Rattle.bus_formats.specs.Readings.{command_in, data_in}
use Rattle.bus_formats.specs.declared.plan.Kind.TheVariants.{Relay}
use Rattle.bus_model.specs.Commands.{unexpected, relay_from, mode_words_after, words_after, is_relay, transmitter_in, relay_in, tail_by, tail_of}
use Rattle.bus_law_duties.specs.Words.{with_data, AreLeftOf}
use Rattle.bus_law_duties.proofs.Fields.{skips, takes, address-is, sub-is, field-is, transmit-is, plain-mode, not-all}
use Rattle.bus_law_duties.proofs.Found.{data-left}

-- ---- who is asked to relay

-- a test that gives a transmitter held
transmitter-by : (b : Bool) (address transmitter : ℕ) → (if b then Some address else None) ≡ Some transmitter → (b ≡ true) × (transmitter ≡ address)
transmitter-by true address transmitter found = (refl, sym (same_Some address transmitter found))
transmitter-by false address transmitter found = absurd (none-some transmitter found)

-- a relay in what follows a command has a transmitter
tail-relay : (o : Option ℕ) (words : Option (List ℕ)) (transmitter : ℕ) → tail_by o words ≡ relay_from transmitter → o ≡ Some transmitter
tail-relay (Some from) words transmitter is = let same : from ≡ transmitter = cc in ap Some same
tail-relay None (Some words) transmitter is = absurd cc
tail-relay None None transmitter is = absurd cc

-- where a command is followed by data words, nobody
data-relays : (own command : ℕ) (data_words : List ℕ) (slots : List (Option Word)) → AreLeftOf (map data_word data_words) slots →
    relay_in own command slots ≡ None
data-relays own command data_words [] left = refl
data-relays own command [] (slot ∷ []) left = ap (transmitter_in own command) (ap command_in left.0)
data-relays own command (bits ∷ data_words) (slot ∷ []) left = ap (transmitter_in own command) (data-left bits slot left.0)
data-relays own command data_words (slot ∷ next ∷ slots) left = refl

-- so a command with data words is no relay
pub data-promised : (own command transmitter : ℕ) (data_words : List ℕ) (slots : List (Option Word)) → AreLeftOf (map data_word data_words) slots →
    tail_of own command slots 0 ≡ relay_from transmitter → ⊥
data-promised own command transmitter data_words slots left is =
    none-some transmitter (sym (data-relays own command data_words slots left) ∙ tail-relay _ (data_in (words_after command) slots) transmitter is)

-- where it is followed by a second command, the terminal that this names
pub record Relayed (own first second transmitter : ℕ) (slots : List (Option Word)) : Type 0 where
  pub shown : slots ≡ Some (command_word second) ∷ []
  pub transmitter_is : transmitter ≡ address_of second
  pub relay : is_relay own first second ≡ true

-- the only slot is the second command, and whole
second-relays : (own first second transmitter : ℕ) (slots : List (Option Word)) → AreLeftOf (with_data second []) slots →
    relay_in own first slots ≡ Some transmitter → Relayed own first second transmitter slots
second-relays own first second transmitter [] left found = absurd (none-some transmitter found)
second-relays own first second transmitter (slot ∷ []) (inl whole, rest) found =
    let by = transmitter-by (is_relay own first second) (address_of second) transmitter
    (sym (ap (transmitter_in own first) (ap command_in whole)) ∙ found) in
    record { shown = ap (λ s. s ∷ []) whole; transmitter_is = by.1; relay = by.0 }
second-relays own first second transmitter (slot ∷ []) (inr (inl none), rest) found =
    absurd (none-some transmitter (sym (ap (transmitter_in own first) (ap command_in none)) ∙ found))
second-relays own first second transmitter (slot ∷ []) (inr (inr added), rest) found =
    absurd (none-some transmitter (sym (ap (transmitter_in own first) (ap command_in added)) ∙ found))
second-relays own first second transmitter (slot ∷ next ∷ slots) left found = absurd (none-some transmitter found)

-- so a relay is seen where the second command is whole and alone
pub second-promised : (own first second transmitter : ℕ) (slots : List (Option Word)) → AreLeftOf (with_data second []) slots →
    tail_of own first slots 0 ≡ relay_from transmitter → Relayed own first second transmitter slots
second-promised own first second transmitter slots left is =
    second-relays own first second transmitter slots left (tail-relay _ (data_in (words_after first) slots) transmitter is)

-- one of several that is false makes all false
last-false : (a : Bool) → (a && false) ≡ false
last-false true = refl
last-false false = refl

-- likewise the second of four
second-false : (a b c : Bool) → (a && false && b && c) ≡ false
second-false true b c = refl
second-false false b c = refl

-- the transmitter is another terminal
pub relay-other : (own first second : ℕ) → is_relay own first second ≡ true → own ≢ address_of second
relay-other own first second is same =
    let test : (address_of second == own) ≡ true = grind (arith, nat_tests, same) in
    true≢false (sym is ∙ ap (λ b. not (is_mode first) && not (is_transmit first) && is_second_command first second && not b) test
    ∙ last-false (not (is_mode first) && not (is_transmit first) && is_second_command first second))

-- ---- the words of a relay

-- all of four
four : (a b c d : Bool) → a ≡ true → b ≡ true → c ≡ true → d ≡ true → (a && b && c && d) ≡ true
four a b c d first second third fourth = rw (first, second, third, fourth) refl

-- two numbers that are a third
same-field : (a b n : ℕ) → a ≡ n → b ≡ n → (a == b) ≡ true
same-field a b n first second = grind (arith, nat_tests, first, second)

module _ (from from_sub to to_sub count : ℕ) (ranges : HasKindRanges (Relay from from_sub to to_sub count)) where
  -- the last field of both command words, and the two
  abbrev n : ℕ
  n = count % 32

  abbrev pub first : ℕ
  first = command_bits to false to_sub n

  abbrev pub second : ℕ
  second = command_bits from true from_sub n

  -- the fields fit
  few : n ≤ 31
  few = omega arith

  to-low : to_sub ≤ 31
  to-low = omega (arith, ranges.1.subaddress)

  from-low : from_sub ≤ 31
  from-low = omega (arith, ranges.0.subaddress)

  -- neither is a mode command
  pub second-not-mode : is_mode second ≡ false
  second-not-mode = plain-mode second from_sub (sub-is from from_sub n true from-low few) ranges.0.subaddress.0 ranges.0.subaddress.1

  pub first-not-mode : is_mode first ≡ false
  first-not-mode = plain-mode first to_sub (sub-is to to_sub n false to-low few) ranges.1.subaddress.0 ranges.1.subaddress.1

  -- the second is to the transmitter, the first to the receiver
  pub from-is : address_of second ≡ from
  from-is = address-is from from_sub n true from-low few

  pub to-is : address_of first ≡ to
  to-is = address-is to to_sub n false to-low few

  -- the transmitter is one terminal
  pub not-31 : from ≢ 31
  not-31 = λ same. absurd (omega (arith, same, ranges.0.address))

  -- the second tells it to transmit
  pub second-transmits : is_transmit second ≡ true
  second-transmits = transmit-is from from_sub n true from-low few

  -- so it is a relay's second command
  is-second : is_second_command first second ≡ true
  is-second =
      four (is_transmit second) (not (is_mode second)) (field_of second == field_of first) (not (is_broadcast second))
      second-transmits (ap not second-not-mode)
      (same-field (field_of second) (field_of first) n (field-is from from_sub n true few) (field-is to to_sub n false few))
      (ap not (not-all second from from-is not-31))

  -- it names no other terminal
  other-address : (own : ℕ) → own ≢ from → (address_of second == own) ≡ false
  other-address own apart = let at : address_of second ≡ from = from-is in grind (arith, nat_tests, at, apart)

  -- so every other terminal sees a relay
  relays : (own : ℕ) → own ≢ from → is_relay own first second ≡ true
  relays own apart =
      four (not (is_mode first)) (not (is_transmit first)) (is_second_command first second) (not (address_of second == own)) (ap not first-not-mode)
      (ap not (transmit-is to to_sub n false to-low few)) is-second (ap not (other-address own apart))

  -- the words after the first command, where the second is whole and the last
  pub is-relayed : (own : ℕ) → own ≢ from → tail_of own first (Some (command_word second) ∷ []) 0 ≡ relay_from from
  is-relayed own apart =
      ap (λ (b : Bool). tail_by (if b then Some (address_of second) else None)
      (data_in (words_after first) (Some (command_word second) ∷ []))) (relays own apart)
      ∙ ap relay_from from-is

  -- no data words follow the second command
  none-after : words_after second ≡ 0
  none-after =
      skips (is_mode second) (mode_words_after (carried (is_transmit second) (field_of second))) (if is_transmit second then 0 else word_count second)
      second-not-mode
      ∙ takes (is_transmit second) 0 (word_count second) second-transmits

  -- nor does a relay begin with it
  never-relays : (own third : ℕ) → is_relay own second third ≡ false
  never-relays own third =
      ap (λ b. not (is_mode second) && not b && is_second_command second third && not (address_of third == own)) second-transmits
      ∙ second-false (not (is_mode second)) (is_second_command second third) (not (address_of third == own))

  -- so it has no transmitter after it
  transmitter-none : (own : ℕ) (o : Option ℕ) → transmitter_in own second o ≡ None
  transmitter-none own None = refl
  transmitter-none own (Some third) = ap (λ (b : Bool). if b then Some (address_of third) else None) (never-relays own third)

  -- whatever follows it
  second-relays-none : (own : ℕ) (slot : Option Word) (slots : List (Option Word)) → relay_in own second (slot ∷ slots) ≡ None
  second-relays-none own slot [] = transmitter-none own (command_in slot)
  second-relays-none own slot (next ∷ slots) = refl

  -- nothing is expected after the second
  pub none-expected : (own : ℕ) (slot : Option Word) (slots : List (Option Word)) → tail_of own second (slot ∷ slots) 0 ≡ unexpected
  none-expected own slot slots =
      ap (λ o. tail_by o (data_in (words_after second) (slot ∷ slots))) (second-relays-none own slot slots)
      ∙ ap (λ m. tail_by None (data_in m (slot ∷ slots))) none-after
