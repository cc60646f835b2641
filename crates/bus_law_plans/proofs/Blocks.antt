-- Which blocks a terminal takes: the words after a receive command, and those of an answer that it promised to take.
use Rattle.std.proofs.Common.{◌≡◌, ℕ, zero, suc, ◌+◌, Bool, true, false, List, [], ◌∷◌, Option, Some, None, refl, sym, ap, subst}
use Rattle.std.proofs.lemmas.Bool.{true≢false}
use Rattle.std.proofs.lemmas.Option.{none-some, same_Some}
use Rattle.std.specs.Prelude.{if◌then◌else◌, ◌==◌, ◌||◌, option_map}
use Rattle.std.specs.List.{AllByRecursion as Each, cons_option}
use Rattle.bus_base.specs.declared.samples.Channel.{Channel}
use Rattle.bus_words.specs.Fields.{address_of, is_broadcast, is_mode, is_transmit, sub_of, word_count}
use Rattle.bus_words.specs.declared.word.Word.{Word}
use Rattle.bus_formats.specs.Codes.{transmit_status_word, reset_remote_terminal, transmit_last_command}
use Rattle.bus_formats.specs.Plans.{TerminalData}
use Rattle.bus_formats.specs.Readings.{command_in, data_in}
use Rattle.bus_formats.specs.declared.log.Registers.{Registers}
use Rattle.bus_model.specs.Commands.{Tail, unexpected, relay_from, carries, tail_of, has_code, is_illegal}
use Rattle.bus_model.specs.Memory.{Memory, TimedLoad}
use Rattle.bus_model.specs.Message.{Present, address_of_station, After, unmoved, Delivered, delivered, blocks_taken, memory_at, after_command, after_command_of, after_answer_of}
use Rattle.bus_model.specs.Orders.{Duty, free, owes, promises, Taken, Obeyed, Order, last_order, answer, marked, mode_effect, reset, block_taken, leaves, answered, carried_out, obey_data, obey_tail, obey, data_from, relayed, with_error, kept, keep_promise}
use Rattle.bus_model.specs.Starts.{has_items}
use Rattle.bus_model.specs.Strikes.{ShownBurst, burst_end}
use Rattle.bus_law_plans.proofs.Lists.{either}
use Rattle.bus_law_plans.proofs.Promised.{Promise, obeyed-promises}

-- ---- one terminal

-- the block is that of a receive command, with its subaddress
pub record IsBlockOf (command : ℕ) (block : Taken) : Type 0 where
  pub plain : is_mode command ≡ false
  pub down : is_transmit command ≡ false
  pub sub : block.sub ≡ sub_of command
  pub broadcast : block.broadcast ≡ is_broadcast command

or-none : (a b c : Bool) → (a || b || c) ≡ false → (a ≡ false) × (b ≡ false)
or-none false false c h = (refl, refl)
or-none false true c h = absurd (true≢false h)
or-none true b c h = absurd (true≢false h)

block-by : (terminal : TerminalData) (command : ℕ) (words : List ℕ) (block : Taken) (b : Bool) → (is_mode command || is_transmit command || terminal.busy) ≡ b →
    (if b then None else Some record { sub = sub_of command; broadcast = is_broadcast command; words = words }) ≡ Some block →
    IsBlockOf command block × (words ≡ block.words)
block-by terminal command words block true test is = absurd (none-some block is)
block-by terminal command words block false test is =
    let none = or-none (is_mode command) (is_transmit command) terminal.busy test in
    let same : record { sub = sub_of command; broadcast = is_broadcast command; words = words } ≡ block = same_Some _ block is in (
      record {
        plain = none.0;
        down = none.1;
        sub = sym (ap (λ (t : Taken). t.sub) same);
        broadcast = sym (ap (λ (t : Taken). t.broadcast) same);
      },
      ap (λ (t : Taken). t.words) same,
    )

block-is : (terminal : TerminalData) (command : ℕ) (words : List ℕ) (block : Taken) → block_taken terminal command words ≡ Some block →
    IsBlockOf command block × (words ≡ block.words)
block-is terminal command words block is = block-by terminal command words block (is_mode command || is_transmit command || terminal.busy) refl is

module _ (terminal : TerminalData) (memory : Memory) (c : Channel) (command : ℕ) (block : Taken) where
  abbrev TakesIf : Type 0 → Obeyed → Type 0
  TakesIf X o = o.taken ≡ Some block → X

  data-takes : (words : List ℕ) (may : Bool) (registers : Registers) →
      TakesIf (IsBlockOf command block × (words ≡ block.words)) (obey_data terminal memory c command words may registers)
  data-takes words may registers =
      let X : Type 0 = IsBlockOf command block × (words ≡ block.words) in
      let none : None ≡ Some block → X = λ is. absurd (none-some block is) in
      either (TakesIf X) (is_illegal terminal command) (answered terminal memory c command (marked registers command true) []) _ none
      (either (TakesIf X) (has_code command transmit_status_word) (answered terminal memory c command (record registers { last = command }) []) _ none
      (either (TakesIf X) (has_code command transmit_last_command) (answered terminal memory c command registers (registers.last ∷ [])) _ none
      (either (TakesIf X) (has_code command reset_remote_terminal) (answered terminal memory c command (reset registers) [])
      (carried_out terminal memory c command words may (mode_effect (marked registers command false) c command words)) none
      (block-is terminal command words block))))

  tail-takes : (may : Bool) (tail : Tail) → TakesIf (IsBlockOf command block × (tail ≡ carries block.words)) (obey_tail terminal memory c command may tail)
  tail-takes may unexpected is = absurd (none-some block is)
  tail-takes may (relay_from transmitter) is = absurd (none-some block is)
  tail-takes may (carries words) is =
      let by = data-takes words may memory.registers is in (by.0, ap carries by.1)

  -- the block of a command is that of the words after it
  pub obeyed-takes : (slots : List (Option Word)) (rest : ℕ) (may : Bool) → (obey terminal memory c command slots rest may).taken ≡ Some block →
      IsBlockOf command block × (tail_of terminal.address command slots rest ≡ carries block.words)
  obeyed-takes slots rest may is = tail-takes may (tail_of terminal.address command slots rest) is

  kept-takes : (words : Option (List ℕ)) → TakesIf (IsBlockOf command block × (words ≡ Some block.words)) (kept terminal memory c command words)
  kept-takes None is = absurd (none-some block is)
  kept-takes (Some words) is =
      let X : Type 0 = IsBlockOf command block × (Some words ≡ Some block.words) in
      either (TakesIf X) (is_illegal terminal command) (answered terminal memory c command (with_error terminal memory c true) [])
      (leaves terminal memory c memory.registers (block_taken terminal command words) (answer terminal memory.registers c command false []))
      (λ none. absurd (none-some block none)) (λ some. let by = block-is terminal command words block some in (by.0, ap Some by.1)) is

  -- the block of a promise is that of the transmitter's words
  pub promise-takes : (transmitter : ℕ) (slots : List (Option Word)) (rest : ℕ) → (keep_promise terminal memory c command transmitter slots rest).taken ≡ Some block →
      IsBlockOf command block × (relayed (word_count command) transmitter slots rest ≡ Some block.words)
  promise-takes transmitter slots rest is = kept-takes (relayed (word_count command) transmitter slots rest) is

-- ---- one station

-- the block that a station took of a command
pub record TakesCommand (s : Present) (burst : ShownBurst) (block : Taken) : Type 0 where
  pub order : Order
  pub order_is : last_order (address_of_station s) burst.slots ≡ Some order
  pub is : IsBlockOf order.command block
  pub carried : tail_of (address_of_station s) order.command order.tail burst.rest ≡ carries block.words

-- what it promised by one
abbrev pub PromisesBy : Present → ShownBurst → ℕ → ℕ → Type 0
PromisesBy s burst command transmitter =
    (order : Order) × (last_order (address_of_station s) burst.slots ≡ Some order) × (order.command ≡ command)
    × (tail_of (address_of_station s) order.command order.tail burst.rest ≡ relay_from transmitter)

module _ (k : ℕ) (loads : List TimedLoad) (burst : ShownBurst) where
  abbrev Told : Present → After → Type 0
  Told s after = ((block : Taken) → after.taken ≡ Some block → TakesCommand s burst block) × Promise (PromisesBy s burst) after.duty

  by-order : (s : Present) (order : Option Order) → last_order (address_of_station s) burst.slots ≡ order → Told s (after_command_of k loads burst s order)
  by-order s None found = ((λ block is. absurd (none-some block is)), tt)
  by-order s (Some order) found = (
    (λ block is.
        let by = obeyed-takes s.plan.terminal (memory_at k loads burst s) burst.channel order.command block order.tail burst.rest (has_items s.left) is in
        record { order = order; order_is = found; is = by.0; carried = by.1 }),
    obeyed-promises (PromisesBy s burst) s.plan.terminal (memory_at k loads burst s) burst.channel order.command (has_items s.left) order.tail burst.rest
        (λ transmitter tail. (order, found, refl, tail)),
  )

  -- of each station
  pub command-told : (s : Present) → Told s (after_command k loads burst s)
  command-told s = either (Told s) s.serves _ (unmoved s) (by-order s (last_order (address_of_station s) burst.slots) refl) ((λ block is. absurd (none-some block is)), tt)

-- the block that a station took by a promise
pub record TakesPromise (s : Present) (burst : ShownBurst) (P : ℕ → ℕ → Type 0) (block : Taken) : Type 0 where
  pub command : ℕ
  pub transmitter : ℕ
  pub promised : P command transmitter
  pub is : IsBlockOf command block
  pub relayed_is : relayed (word_count command) transmitter burst.slots burst.rest ≡ Some block.words

-- a block that is taken of an answer was promised
pub answer-told : (k : ℕ) (loads : List TimedLoad) (burst : ShownBurst) (P : ℕ → ℕ → Type 0) (s : Present) (duty : Duty) → Promise P duty → (block : Taken) →
    (after_answer_of k loads burst s duty).taken ≡ Some block → TakesPromise s burst P block
answer-told k loads burst P s free h block is = absurd (none-some block is)
answer-told k loads burst P s (owes words acceptance) h block is = absurd (none-some block is)
answer-told k loads burst P s (promises command transmitter) h block is =
    let by = promise-takes s.plan.terminal (memory_at k loads burst s) burst.channel command block transmitter burst.slots burst.rest is in
    record { command = command; transmitter = transmitter; promised = h; is = by.0; relayed_is = by.1 }

-- the words that a receiver takes are the data words after the transmitter's status
pub relayed-data : (count transmitter : ℕ) (slots : List (Option Word)) (rest : ℕ) (words : List ℕ) → relayed count transmitter slots rest ≡ Some words →
    (slot : Option Word) × (tail : List (Option Word)) × (slots ≡ slot ∷ tail) × (data_in count tail ≡ Some words)
relayed-data count transmitter [] rest words is = absurd (none-some words is)
relayed-data count transmitter (slot ∷ slots) (suc n) words is = absurd (none-some words is)
relayed-data count transmitter (slot ∷ slots) zero words is = (slot, slots, refl, by-status (command_in slot) is)
  where
    by-status : (status : Option ℕ) → data_from count transmitter status slots ≡ Some words → data_in count slots ≡ Some words
    by-status None h = absurd (none-some words h)
    by-status (Some status) h = by-test (address_of status == transmitter) h
      where
        by-test : (b : Bool) → (if b then data_in count slots else None) ≡ Some words → data_in count slots ≡ Some words
        by-test true found = found
        by-test false found = absurd (none-some words found)

-- ---- all stations

taken-cons : (P : Delivered → Type 0) (o : Option Delivered) (ds : List Delivered) → ((d : Delivered) → o ≡ Some d → P d) → Each P ds → Each P (cons_option o ds)
taken-cons P None ds h all = all
taken-cons P (Some d) ds h all = (h d refl, all)

taken-by : (P : Delivered → Type 0) (tick : ℕ) (channel : Channel) (after : After) (o : Option Taken) → ((t : Taken) → o ≡ Some t → P (delivered tick channel after t)) →
    (d : Delivered) → option_map (delivered tick channel after) o ≡ Some d → P d
taken-by P tick channel after None h d is = absurd (none-some d is)
taken-by P tick channel after (Some t) h d is = subst P (same_Some _ d is) (h t refl)

-- what holds of each block that is taken of a burst holds of those that are delivered
pub blocks-each : (P : Delivered → Type 0) (k : ℕ) (loads : List TimedLoad) (burst : ShownBurst) (afters : List After) →
    Each (λ after. (t : Taken) → after.taken ≡ Some t → P (delivered (burst_end burst + k) burst.channel after t)) afters →
    Each P (blocks_taken k loads burst afters)
blocks-each P k loads burst [] all = tt
blocks-each P k loads burst (after ∷ afters) all =
    taken-cons P (option_map (delivered (burst_end burst + k) burst.channel after) after.taken) (blocks_taken k loads burst afters)
    (taken-by P (burst_end burst + k) burst.channel after after.taken all.0) (blocks-each P k loads burst afters all.1)
