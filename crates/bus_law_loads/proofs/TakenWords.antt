-- A block that is taken has words.
use Rattle.std.proofs.Common.{◌≡◌, ℕ, zero, suc, ◌≤◌, Bool, true, false, ◌||◌, ◌==◌, List, [], ◌∷◌, length, Option, Some, None, refl, sym, ap, ◌∙◌, arith, if◌then◌else◌}
use Rattle.std.proofs.lemmas.Bool.Decides.{nat_tests}
use Rattle.std.proofs.lemmas.Option.{none-some, same_Some}
use Rattle.bus_base.specs.declared.samples.Channel.{Channel}
use Rattle.bus_words.specs.Fields.{address_of, is_transmit, sub_of, field_of, is_broadcast, is_mode, word_count}
use Rattle.bus_words.specs.declared.word.Word.{Word}
use Rattle.bus_formats.specs.Codes.{transmit_status_word, transmit_last_command, reset_remote_terminal}
use Rattle.bus_formats.specs.Plans.{TerminalData}
use Rattle.bus_formats.specs.Readings.{command_in, datum_in, word_before, data_in}
use Rattle.bus_formats.specs.declared.log.Registers.{Registers}
use Rattle.bus_model.specs.Commands.{words_after, relay_in, tail_by, has_code, is_illegal}
use Rattle.bus_model.specs.Memory.{Memory, TimedLoad, with_loads}
use Rattle.bus_model.specs.Orders.{Duty, free, owes, promises, Taken, Obeyed, block_taken, obey_data, obey_tail, obey, kept, data_from, relayed}
use Rattle.bus_model.specs.Hearing.{Moment, Hearing}
use Rattle.bus_model.specs.Standing.{Standing, Handled, obeys, settles, runs_out}
use Rattle.bus_model.specs.Terminal.{kept_by, done_in, taken_by, standing, order_now, took_now}

-- ---- how many words

before-long : (n : ℕ) (datum : Option ℕ) (later : Option (List ℕ)) → ((rest : List ℕ) → later ≡ Some rest → length rest ≡ n) → (words : List ℕ) →
    word_before datum later ≡ Some words → length words ≡ suc n
before-long n None later long words h = absurd (none-some words h)
before-long n (Some word) None long words h = absurd (none-some words h)
before-long n (Some word) (Some rest) long words h = sym (ap length (same_Some _ _ h)) ∙ ap suc (long rest refl)

-- as many words as were asked for
data-long : (n : ℕ) (slots : List (Option Word)) (words : List ℕ) → data_in n slots ≡ Some words → length words ≡ n
data-long zero [] words h = sym (ap length (same_Some _ _ h))
data-long zero (slot ∷ slots) words h = absurd (none-some words h)
data-long (suc n) [] words h = absurd (none-some words h)
data-long (suc n) (slot ∷ slots) words h = before-long n (datum_in slot) (data_in n slots) (data-long n slots) words h

count-by : (field : ℕ) → 1 ≤ (if field == 0 then 32 else field)
count-by zero = omega arith
count-by (suc n) = grind (arith, nat_tests)

-- a command asks for a word at least
count-some : (command : ℕ) → 1 ≤ word_count command
count-some command = count-by (field_of command)

-- ---- what is taken

-- a block that is taken has words
abbrev pub HasWords : Option Taken → Type 0
HasWords o = (taken : Taken) → o ≡ Some taken → 1 ≤ length taken.words

none-has : HasWords None
none-has taken none = absurd (none-some taken none)

-- where the command that it answers is no mode command and receives
block-by : (command : ℕ) (words : List ℕ) (mode transmit busy : Bool) → (mode ≡ false → transmit ≡ false → 1 ≤ length words) →
    HasWords (if mode || transmit || busy then None else Some record { sub = sub_of command; broadcast = is_broadcast command; words = words })
block-by command words true transmit busy some = none-has
block-by command words false true busy some = none-has
block-by command words false false true some = none-has
block-by command words false false false some =
    λ taken is. (let many = some refl refl in let same = ap (λ (t : Taken). length t.words) (same_Some _ _ is) in omega (arith, many, same))

block-has : (terminal : TerminalData) (command : ℕ) (words : List ℕ) → (is_mode command ≡ false → is_transmit command ≡ false → 1 ≤ length words) →
    HasWords (block_taken terminal command words)
block-has terminal command words some = block-by command words (is_mode command) (is_transmit command) terminal.busy some

either-has : (b : Bool) (x y : Obeyed) → HasWords x.taken → HasWords y.taken → HasWords (if b then x else y).taken
either-has true x y first second = first
either-has false x y first second = second

module _ (terminal : TerminalData) (memory : Memory) (channel : Channel) where
  data-has : (command : ℕ) (words : List ℕ) (may : Bool) (registers : Registers) →
      (is_mode command ≡ false → is_transmit command ≡ false → 1 ≤ length words) →
      HasWords (obey_data terminal memory channel command words may registers).taken
  data-has command words may registers some =
      either-has (is_illegal terminal command) _ _ none-has
      (either-has (has_code command transmit_status_word) _ _ none-has
      (either-has (has_code command transmit_last_command) _ _ none-has
      (either-has (has_code command reset_remote_terminal) _ _ none-has (block-has terminal command words some))))

  -- such a command is followed by as many words as it says
  after-count : (command : ℕ) → is_mode command ≡ false → is_transmit command ≡ false → words_after command ≡ word_count command
  after-count command no-mode receives = rw (no-mode, receives) refl

  tail-has : (command : ℕ) (may : Bool) (slots : List (Option Word)) (relay : Option ℕ) (words : Option (List ℕ)) →
      data_in (words_after command) slots ≡ words → HasWords (obey_tail terminal memory channel command may (tail_by relay words)).taken
  tail-has command may slots (Some transmitter) words are = none-has
  tail-has command may slots None None are = none-has
  tail-has command may slots None (Some words) are =
      data-has command words may memory.registers (λ no-mode receives.
      let many = data-long (words_after command) slots words are in
      let count = after-count command no-mode receives in
      let some = count-some command in omega (arith, many, count, some))

  obey-has : (command : ℕ) (slots : List (Option Word)) (rest : ℕ) (may : Bool) → HasWords (obey terminal memory channel command slots rest may).taken
  obey-has command slots zero may = tail-has command may slots (relay_in terminal.address command slots) (data_in (words_after command) slots) refl
  obey-has command slots (suc n) may = none-has

  -- ---- a promise

  from-long : (n transmitter : ℕ) (status : Option ℕ) (slots : List (Option Word)) (words : List ℕ) → data_from n transmitter status slots ≡ Some words →
      length words ≡ n
  from-long n transmitter None slots words h = absurd (none-some words h)
  from-long n transmitter (Some status) slots words h = by-test (address_of status == transmitter) h
    where
      by-test : (b : Bool) → (if b then data_in n slots else None) ≡ Some words → length words ≡ n
      by-test true is = data-long n slots words is
      by-test false is = absurd (none-some words is)

  words-has : (command : ℕ) (words : List ℕ) → 1 ≤ length words → HasWords (kept terminal memory channel command (Some words)).taken
  words-has command words some = either-has (is_illegal terminal command) _ _ none-has (block-has terminal command words (λ _ _. some))

  relayed-has : (command n transmitter : ℕ) (slots : List (Option Word)) (rest : ℕ) (words : Option (List ℕ)) → 1 ≤ n →
      relayed n transmitter slots rest ≡ words → HasWords (kept terminal memory channel command words).taken
  relayed-has command n transmitter slots rest None some h = none-has
  relayed-has command n transmitter [] rest (Some words) some h = absurd (none-some words h)
  relayed-has command n transmitter (head ∷ tail) zero (Some words) some h =
      let many = from-long n transmitter (command_in head) tail words h in words-has command words (omega (arith, many, some))
  relayed-has command n transmitter (head ∷ tail) (suc rest) (Some words) some h = absurd (none-some words h)

  promise-has : (k : ℕ) (d : Duty) (slots : List (Option Word)) (rest : ℕ) → HasWords (kept_by k terminal memory channel d slots rest).taken
  promise-has k free slots rest = none-has
  promise-has k (owes words acceptance) slots rest = none-has
  promise-has k (promises command transmitter) slots rest =
      relayed-has command (word_count command) transmitter slots rest (relayed (word_count command) transmitter slots rest) (count-some command) refl

-- ---- in a tick

module _ (k : ℕ) (terminal : TerminalData) (loads : List TimedLoad) where
  handled-has : (tick : ℕ) (may : Bool) (s : Standing) (order : Handled) → HasWords (done_in k terminal loads tick may s order).taken
  handled-has tick may s (obeys c end order rest) =
      obey-has terminal (with_loads terminal.address tick loads s.memory) c order.command order.tail rest may
  handled-has tick may s (settles end slots rest) =
      promise-has terminal (with_loads terminal.address tick loads s.memory) s.channel k s.duty slots rest
  handled-has tick may s runs_out = none-has

  taken-has : (tick : ℕ) (may : Bool) (s : Standing) (o : Option Handled) → HasWords (taken_by k terminal loads tick may s o)
  taken-has tick may s None = none-has
  taken-has tick may s (Some order) = handled-has tick may s order

  -- a block that a terminal takes has words
  pub took-words : (memory : Memory) (ticks : List Moment) → HasWords (took_now k terminal loads record { memory = memory; ticks = ticks })
  took-words memory [] = none-has
  took-words memory (now ∷ past) =
      taken-has (length past) now.has_items (standing k terminal loads memory past) (order_now k terminal (now ∷ past) (standing k terminal loads memory past))
