-- The words of a block that is taken are all data words of a burst.
use Rattle.std.proofs.Common.{◌≡◌, ℕ, zero, suc, Bool, true, ◌||◌, ◌==◌, List, [], ◌∷◌, ◌++◌, length, Option, Some, None, refl, sym, ap, ◌∙◌, subst}
use Rattle.std.specs.Prelude.{is_some}
use Rattle.std.specs.Option.{option_or}
use Rattle.std.proofs.lemmas.Option.{none-some, same_Some}
use Rattle.bus_base.specs.declared.samples.Channel.{Channel}
use Rattle.bus_words.specs.Fields.{address_of, is_transmit, sub_of, is_broadcast, is_mode, word_count}
use Rattle.bus_words.specs.declared.word.Word.{Word}
use Rattle.bus_line.specs.Past.{Burst, ended_now, rest_of}
use Rattle.bus_line.proofs.LookUpLaws.{ended-known, ended-is}
use Rattle.bus_formats.specs.Codes.{transmit_status_word, transmit_last_command, reset_remote_terminal}
use Rattle.bus_formats.specs.Plans.{TerminalData}
use Rattle.bus_formats.specs.Readings.{command_in, datum_in, word_before, data_in}
use Rattle.bus_formats.specs.declared.log.Registers.{Registers}
use Rattle.bus_model.specs.Commands.{words_after, relay_in, tail_by, has_code, is_illegal}
use Rattle.bus_model.specs.Memory.{Memory, TimedLoad, with_loads}
use Rattle.bus_model.specs.Orders.{Duty, free, owes, promises, Taken, Obeyed, Order, command_by, command_for, order_with, last_order, block_taken, obey_data, obey_tail, obey, kept, data_from, relayed}
use Rattle.bus_model.specs.Hearing.{Moment, heard_on}
use Rattle.bus_model.specs.Standing.{Standing, Handled, obeys, settles, runs_out}
use Rattle.bus_model.specs.Terminal.{kept_by, done_in, taken_by, standing, order_now, took_now}
use Rattle.bus_law_ticks.specs.Blocks.{AreOfBurst}
use Rattle.bus_law_ticks.proofs.Choices.{by-test}
use Rattle.bus_law_ticks.proofs.Handled.{IsOf, handled-of}

-- ---- words of slots

before-long : (n : ℕ) (datum : Option ℕ) (later : Option (List ℕ)) → ((rest : List ℕ) → later ≡ Some rest → length rest ≡ n) → (words : List ℕ) →
    word_before datum later ≡ Some words → length words ≡ suc n
before-long n None later long words h = absurd (none-some words h)
before-long n (Some word) None long words h = absurd (none-some words h)
before-long n (Some word) (Some rest) long words h = sym (ap length (same_Some _ _ h)) ∙ ap suc (long rest refl)

-- as many words as were asked for
data-long : (n : ℕ) (slots : List (Option Word)) (words : List ℕ) → data_in n slots ≡ Some words → length words ≡ n
data-long zero [] words h = sym (ap length (same_Some _ _ h))
data-long zero (slot ∷ slots) words h = absurd (none-some words h)
data-long (suc n) [] words h = absurd (none-some words h)
data-long (suc n) (slot ∷ slots) words h = before-long n (datum_in slot) (data_in n slots) (data-long n slots) words h

-- so they are the slots' words by their own number
own-number : (n : ℕ) (slots : List (Option Word)) (words : List ℕ) → data_in n slots ≡ Some words → data_in (length words) slots ≡ Some words
own-number n slots words h = ap (λ (m : ℕ). data_in m slots) (data-long n slots words h) ∙ h

-- a command for a terminal is a command
command-some : (own : ℕ) (o : Option ℕ) → is_some (command_by own o) ≡ true → is_some o ≡ true
command-some own None h = h
command-some own (Some command) h = refl

-- the slots of a burst up to its last command for the terminal, and those after it
pub record Splits (slots : List (Option Word)) (tail : List (Option Word)) : Type 0 where
  pub earlier : List (Option Word)
  pub head : Option Word
  pub slots_are : slots ≡ earlier ++ head ∷ tail
  pub command : is_some (command_in head) ≡ true

with-head : (head : Option Word) (slots : List (Option Word)) (order : Order) (command : Option ℕ) → (is_some command ≡ true → is_some (command_in head) ≡ true) →
    order_with command slots ≡ Some order → Splits (head ∷ slots) order.tail
with-head head slots order None some h = absurd (none-some order h)
with-head head slots order (Some command) some h = record {
  earlier = [];
  head = head;
  slots_are = ap (λ (tail : List (Option Word)). head ∷ tail) (ap (λ (o : Order). o.tail) (same_Some _ _ h));
  command = some refl;
}

later-splits : (own : ℕ) (head : Option Word) (slots : List (Option Word)) (order : Order) (later : Option Order) → (later ≡ Some order → Splits slots order.tail) →
    option_or later (order_with (command_for own head) slots) ≡ Some order → Splits (head ∷ slots) order.tail
later-splits own head slots order None in-later h = with-head head slots order (command_for own head) (command-some own (command_in head)) h
later-splits own head slots order (Some last) in-later h =
    let s = in-later h in
    record { earlier = head ∷ s.earlier; head = s.head; slots_are = ap (λ (tail : List (Option Word)). head ∷ tail) s.slots_are; command = s.command }

splits : (own : ℕ) (slots : List (Option Word)) (order : Order) → last_order own slots ≡ Some order → Splits slots order.tail
splits own [] order h = absurd (none-some order h)
splits own (head ∷ slots) order h = later-splits own head slots order (last_order own slots) (splits own slots order) h

-- ---- a block that is taken

-- the words of a block are those of these slots, and nothing comes after them
abbrev pub IsWhole : List (Option Word) → ℕ → Option Taken → Type 0
IsWhole slots rest o = (taken : Taken) → o ≡ Some taken → (rest ≡ 0) × (data_in (length taken.words) slots ≡ Some taken.words)

none-whole : (slots : List (Option Word)) (rest : ℕ) → IsWhole slots rest None
none-whole slots rest taken none = absurd (none-some taken none)

block-whole : (terminal : TerminalData) (command n : ℕ) (words : List ℕ) (slots : List (Option Word)) (rest : ℕ) → rest ≡ 0 →
    data_in n slots ≡ Some words → IsWhole slots rest (block_taken terminal command words)
block-whole terminal command n words slots rest none are =
    by-test (IsWhole slots rest) (is_mode command || is_transmit command || terminal.busy) None
    (Some record { sub = sub_of command; broadcast = is_broadcast command; words = words }) (λ _. none-whole slots rest)
    (λ _ taken is. (none, subst (λ (t : Taken). data_in (length t.words) slots ≡ Some t.words) (same_Some _ _ is) (own-number n slots words are)))

module _ (terminal : TerminalData) (memory : Memory) (channel : Channel) where
  data-whole : (command n : ℕ) (words : List ℕ) (may : Bool) (registers : Registers) (slots : List (Option Word)) (rest : ℕ) → rest ≡ 0 →
      data_in n slots ≡ Some words → IsWhole slots rest (obey_data terminal memory channel command words may registers).taken
  data-whole command n words may registers slots rest none are =
      by-test (λ (o : Obeyed). IsWhole slots rest o.taken) (is_illegal terminal command) _ _ (λ _. none-whole slots rest)
      (λ _. by-test (λ (o : Obeyed). IsWhole slots rest o.taken) (has_code command transmit_status_word) _ _ (λ _. none-whole slots rest)
      (λ _. by-test (λ (o : Obeyed). IsWhole slots rest o.taken) (has_code command transmit_last_command) _ _ (λ _. none-whole slots rest)
      (λ _. by-test (λ (o : Obeyed). IsWhole slots rest o.taken) (has_code command reset_remote_terminal) _ _ (λ _. none-whole slots rest)
      (λ _. block-whole terminal command n words slots rest none are))))

  tail-whole : (command : ℕ) (may : Bool) (slots : List (Option Word)) (rest n : ℕ) (relay : Option ℕ) (words : Option (List ℕ)) → rest ≡ 0 →
      data_in n slots ≡ words → IsWhole slots rest (obey_tail terminal memory channel command may (tail_by relay words)).taken
  tail-whole command may slots rest n (Some transmitter) words none are = none-whole slots rest
  tail-whole command may slots rest n None None none are = none-whole slots rest
  tail-whole command may slots rest n None (Some words) none are = data-whole command n words may memory.registers slots rest none are

  obey-whole : (command : ℕ) (slots : List (Option Word)) (rest : ℕ) (may : Bool) → IsWhole slots rest (obey terminal memory channel command slots rest may).taken
  obey-whole command slots zero may =
      tail-whole command may slots zero (words_after command) (relay_in terminal.address command slots) (data_in (words_after command) slots) refl refl
  obey-whole command slots (suc n) may = none-whole slots (suc n)

  -- ---- a promise

  -- a burst that was taken for a promise is a status and the words
  abbrev pub IsKept : List (Option Word) → ℕ → Option Taken → Type 0
  IsKept slots rest o = (taken : Taken) → o ≡ Some taken →
      (rest ≡ 0) × ((head : Option Word) × (tail : List (Option Word)) × (slots ≡ head ∷ tail) × (is_some (command_in head) ≡ true)
      × (data_in (length taken.words) tail ≡ Some taken.words))

  none-kept : (slots : List (Option Word)) (rest : ℕ) → IsKept slots rest None
  none-kept slots rest taken none = absurd (none-some taken none)

  status-some : (n transmitter : ℕ) (status : Option ℕ) (slots : List (Option Word)) (words : List ℕ) → data_from n transmitter status slots ≡ Some words →
      (is_some status ≡ true) × (data_in n slots ≡ Some words)
  status-some n transmitter None slots words h = absurd (none-some words h)
  status-some n transmitter (Some status) slots words h =
      by-test (λ (o : Option (List ℕ)). o ≡ Some words → (is_some (Some status) ≡ true) × (data_in n slots ≡ Some words)) (address_of status == transmitter)
      (data_in n slots) None (λ _ is. (refl, is)) (λ _ none. absurd (none-some words none)) h

  words-kept : (command n : ℕ) (words : List ℕ) (head : Option Word) (tail : List (Option Word)) → is_some (command_in head) ≡ true →
      data_in n tail ≡ Some words → IsKept (head ∷ tail) 0 (kept terminal memory channel command (Some words)).taken
  words-kept command n words head tail some are =
      by-test (λ (o : Obeyed). IsKept (head ∷ tail) 0 o.taken) (is_illegal terminal command) _ _ (λ _. none-kept (head ∷ tail) 0)
      (λ _ taken is. (let w = block-whole terminal command n words tail 0 refl are taken is in (refl, (head, tail, refl, some, w.1))))

  relayed-kept : (command n transmitter : ℕ) (slots : List (Option Word)) (rest : ℕ) (words : Option (List ℕ)) → relayed n transmitter slots rest ≡ words →
      IsKept slots rest (kept terminal memory channel command words).taken
  relayed-kept command n transmitter slots rest None h = none-kept slots rest
  relayed-kept command n transmitter [] rest (Some words) h = absurd (none-some words h)
  relayed-kept command n transmitter (head ∷ tail) zero (Some words) h =
      let are = status-some n transmitter (command_in head) tail words h in
      words-kept command n words head tail are.0 are.1
  relayed-kept command n transmitter (head ∷ tail) (suc rest) (Some words) h = absurd (none-some words h)

  promise-kept : (k : ℕ) (d : Duty) (slots : List (Option Word)) (rest : ℕ) → IsKept slots rest (kept_by k terminal memory channel d slots rest).taken
  promise-kept k free slots rest = none-kept slots rest
  promise-kept k (owes words acceptance) slots rest = none-kept slots rest
  promise-kept k (promises command transmitter) slots rest =
      relayed-kept command (word_count command) transmitter slots rest (relayed (word_count command) transmitter slots rest) refl

-- ---- of which burst

module _ (k : ℕ) (terminal : TerminalData) (loads : List TimedLoad) (now : Moment) (past : List Moment) (s : Standing) where
  -- the words after a slot of a burst that ended
  of-burst : (c : Channel) (burst : Burst) (slots tail : List (Option Word)) (earlier : List (Option Word)) (head : Option Word) (rest : ℕ) (words : List ℕ) →
      ended_now k (heard_on c (now ∷ past)) ≡ Some burst → slots ≡ burst.slots → slots ≡ earlier ++ head ∷ tail → is_some (command_in head) ≡ true →
      rest ≡ rest_of burst → rest ≡ 0 → data_in (length words) tail ≡ Some words → AreOfBurst k (now ∷ past) words
  of-burst c burst slots tail earlier head rest words ended same split command left none are =
      let cut = ended-is k (heard_on c (now ∷ past)) burst ended in
      record {
        channel = c;
        first = burst.first;
        count = burst.ticks;
        ended = ended-known k (heard_on c (now ∷ past)) burst ended;
        whole = sym (ap rest_of cut) ∙ sym left ∙ none;
        earlier = earlier;
        head = head;
        tail = tail;
        slots = sym (ap (λ (b : Burst). b.slots) cut) ∙ sym same ∙ split;
        command = command;
        words_are = are;
      }

  handled-words : (order : Handled) (taken : Taken) → IsOf k terminal (now ∷ past) order →
      (done_in k terminal loads (length past) now.has_items s order).taken ≡ Some taken → AreOfBurst k (now ∷ past) taken.words
  handled-words (obeys c end order rest) taken of is =
      let memory : Memory = with_loads terminal.address (length past) loads s.memory in
      let w = obey-whole terminal memory c order.command order.tail rest now.has_items taken is in
      let split = splits terminal.address of.0.slots order of.2 in
      of-burst c of.0 of.0.slots order.tail split.earlier split.head rest taken.words of.1 refl split.slots_are split.command of.4 w.0 w.1
  handled-words (settles end slots rest) taken of is =
      let memory : Memory = with_loads terminal.address (length past) loads s.memory in
      let w = promise-kept terminal memory s.channel k s.duty slots rest taken is in
      of-burst of.0 of.1 slots w.1.1 [] w.1.0 rest taken.words of.2 of.3 w.1.2 w.1.3 of.5 w.0 w.1.4
  handled-words runs_out taken of is = absurd (none-some taken is)

  taken-words : (o : Option Handled) (taken : Taken) → order_now k terminal (now ∷ past) s ≡ o →
      taken_by k terminal loads (length past) now.has_items s o ≡ Some taken → AreOfBurst k (now ∷ past) taken.words
  taken-words None taken e is = absurd (none-some taken is)
  taken-words (Some order) taken e is = handled-words order taken (handled-of k terminal now past s order e) is

-- a block is taken of a burst that ended in the newest tick
pub taken-of-burst : (k : ℕ) (terminal : TerminalData) (loads : List TimedLoad) (memory : Memory) (now : Moment) (past : List Moment) (taken : Taken) →
    took_now k terminal loads record { memory = memory; ticks = now ∷ past } ≡ Some taken → AreOfBurst k (now ∷ past) taken.words
taken-of-burst k terminal loads memory now past taken is =
    let s : Standing = standing k terminal loads memory past in
    taken-words k terminal loads now past s (order_now k terminal (now ∷ past) s) taken refl is
