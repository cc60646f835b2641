-- The blocks of a message that is no relay: those of a receive command alone, and they are its own words.
use Rattle.std.proofs.Common.{◌≡◌, ◌≢◌, ◌⊎◌, inl, inr, ℕ, ◌%◌, ◌≤◌, Bool, true, false, List, [], ◌∷◌, length, map, Option, Some, refl, sym, ap, ◌∙◌, subst, arith}
use Rattle.std.proofs.lemmas.Bool.{true≢false}
use Rattle.std.proofs.lemmas.Option.{none-some}
use Rattle.std.specs.Prelude.{◌==◌, ◌||◌, not}
use Rattle.bus_words.specs.Fields.{command_bits, address_of, is_broadcast, word_count}
use Rattle.bus_words.specs.declared.word.Word.{Word}
use Rattle.bus_formats.specs.Accepted.{HasReceiveRanges, HasTransmitRanges, HasModeRanges}
use Rattle.bus_formats.specs.Forms.{command_word, data_word}
use Rattle.bus_formats.specs.Readings.{data_in}
use Rattle.bus_model.specs.Commands.{words_after}
use Rattle.bus_model.specs.Memory.{TimedLoad}
use Rattle.bus_model.specs.Message.{Present, address_of_station, after_command, after_answer}
use Rattle.bus_model.specs.Orders.{Duty, free, owes, promises, Taken, is_for}
use Rattle.bus_model.specs.Strikes.{ShownBurst}
use Rattle.bus_law_plans.proofs.Blocks.{IsBlockOf, TakesCommand, PromisesBy, command-told, answer-told}
use Rattle.bus_law_plans.proofs.Lengths.{AreShown, read-same}
use Rattle.bus_law_plans.proofs.Orders.{IsSingle, single-order, no-relay, carried, promised, address-is, sub-is, field-is, transmit-is, mode-is, count-is, after-receive}
use Rattle.bus_law_plans.proofs.Promised.{Promise}
use Rattle.bus_law_plans.proofs.Lists.{and-both, same-number}
use Rattle.bus_law_plans.proofs.Fits.{mode-sub}

or-either : (a b : Bool) → (a || b) ≡ true → (a ≡ true) ⊎ (b ≡ true)
or-either true b h = inl refl
or-either false b h = inr h

-- a command to one terminal is for that one
pub own-address : (own command to : ℕ) → is_for own command ≡ true → address_of command ≡ to → to ≢ 31 → own ≡ to
own-address own command to for at one = by-case (or-either (address_of command == own) (is_broadcast command) (and-both (not (own == 31)) _ for).1)
  where
    by-case : ((address_of command == own) ≡ true) ⊎ (is_broadcast command ≡ true) → own ≡ to
    by-case (inl same) = sym (same-number (address_of command) own same) ∙ at
    by-case (inr all) = absurd (one (sym at ∙ same-number (address_of command) 31 all))

-- ---- the block of one command

-- the block of a command with these data words
pub record IsSingleBlock (own bits : ℕ) (words : List ℕ) (block : Taken) : Type 0 where
  pub is : IsBlockOf bits block
  pub own_is : is_for own bits ≡ true
  pub tail : List (Option Word)
  pub shown : AreShown (map data_word words) tail
  pub read : data_in (words_after bits) tail ≡ Some block.words

module _ (k : ℕ) (loads : List TimedLoad) (burst : ShownBurst) (bits : ℕ) (words : List ℕ)
    (shown : AreShown (command_word bits ∷ map data_word words) burst.slots) where
  taken-single : (s : Present) (block : Taken) → TakesCommand s burst block → IsSingleBlock (address_of_station s) bits words block
  taken-single s block by =
      let single : IsSingle (address_of_station s) bits words by.order =
      single-order (address_of_station s) bits words burst.slots shown by.order by.order_is in
      record {
        is = subst (λ c. IsBlockOf c block) single.command by.is;
        own_is = single.own_is;
        tail = by.order.tail;
        shown = single.tail;
        read = ap (λ c. data_in (words_after c) by.order.tail) (sym single.command)
            ∙ carried (address_of_station s) by.order.command by.order.tail burst.rest block.words by.carried;
      }

  -- each block that is taken of it
  pub single-block : (s : Present) (block : Taken) → (after_command k loads burst s).taken ≡ Some block → IsSingleBlock (address_of_station s) bits words block
  single-block s block is = taken-single s block ((command-told k loads burst s).0 block is)

  none-promised : (s : Present) (command transmitter : ℕ) → PromisesBy s burst command transmitter → ⊥
  none-promised s command transmitter by =
      let single : IsSingle (address_of_station s) bits words by.0 = single-order (address_of_station s) bits words burst.slots shown by.0 by.1 in
      let relay = promised (address_of_station s) by.0.command by.0.tail burst.rest transmitter by.3 in
      none-some transmitter (sym (no-relay (address_of_station s) by.0.command words by.0.tail single.tail) ∙ relay)

  free-duty : (s : Present) (duty : Duty) → Promise (PromisesBy s burst) duty → Promise (λ command transmitter. ⊥) duty
  free-duty s free h = tt
  free-duty s (owes ws acceptance) h = tt
  free-duty s (promises command transmitter) h = none-promised s command transmitter h

  -- and none is taken of an answer to it
  pub single-answer : (answer : ShownBurst) (s : Present) (block : Taken) → (after_answer k loads answer (after_command k loads burst s)).taken ≡ Some block → ⊥
  single-answer answer s block is =
      (answer-told k loads answer (λ command transmitter. ⊥) (after_command k loads burst s).station (after_command k loads burst s).duty
      (free-duty s (after_command k loads burst s).duty (command-told k loads burst s).1) block is).promised

-- ---- by its kind

-- what is known of the block of a receive message
pub record IsReceived (to sub : ℕ) (words : List ℕ) (own : ℕ) (block : Taken) : Type 0 where
  pub words_are : block.words ≡ words
  pub sub_is : block.sub ≡ sub
  pub broadcast_is : block.broadcast ≡ (to == 31)
  pub own_is : to ≢ 31 → own ≡ to

-- the block of a receive message is its own words
pub receive-block : (to sub : ℕ) (words : List ℕ) (own : ℕ) (block : Taken) → HasReceiveRanges to sub (length words) →
    IsSingleBlock own (command_bits to false sub (length words % 32)) words block → IsReceived to sub words own block
receive-block to sub words own block ranges by =
    let field : ℕ = length words % 32 in
    let bits : ℕ = command_bits to false sub field in
    let low : sub ≤ 31 = omega (arith, ranges.subaddress) in
    let few : field ≤ 31 = omega arith in
    let count : word_count bits ≡ length words = count-is bits (length words) (field-is to sub field false few) ranges.words.0 ranges.words.1 in
    let after : words_after bits ≡ length words = after-receive bits (length words) by.is.plain by.is.down count in
    record {
      words_are = read-same words by.tail by.shown block.words (ap (λ n. data_in n by.tail) (sym after) ∙ by.read);
      sub_is = by.is.sub ∙ sub-is to sub field false low few;
      broadcast_is = by.is.broadcast ∙ ap (λ a. a == 31) (address-is to sub field false low few);
      own_is = own-address own bits to by.own_is (address-is to sub field false low few);
    }

-- a transmit command brings none
pub transmit-block : (from sub count own : ℕ) (block : Taken) → HasTransmitRanges from sub count →
    IsSingleBlock own (command_bits from true sub (count % 32)) [] block → ⊥
transmit-block from sub count own block ranges by =
    true≢false (sym (transmit-is from sub (count % 32) true (omega (arith, ranges.subaddress)) (omega arith)) ∙ by.is.down)

-- nor does a mode command
pub mode-block : (to mode_sub code own : ℕ) (transmit : Bool) (words : List ℕ) (block : Taken) → HasModeRanges to mode_sub code →
    IsSingleBlock own (command_bits to transmit mode_sub code) words block → ⊥
mode-block to mode_sub code own transmit words block ranges by =
    let bits : ℕ = command_bits to transmit mode_sub code in
    true≢false (sym (mode-is bits mode_sub (sub-is to mode_sub code transmit (mode-sub mode_sub ranges.subaddress) ranges.mode) ranges.subaddress) ∙ by.is.plain)
