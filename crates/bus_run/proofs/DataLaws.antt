-- What a terminal takes is for a subaddress of data.
use Rattle.std.proofs.Common.{◌≡◌, ℕ, ◌≤◌, ◌<◌, Bool, true, false, ◌||◌, ◌==◌, List, [], ◌∷◌, length, refl, arith, if◌then◌else◌, Option, Some, None}
use Rattle.std.specs.Prelude.{⊤}
use Rattle.std.proofs.lemmas.Bool.Decides.{nat_tests}
use Rattle.bus_base.specs.declared.samples.Channel.{Channel}
use Rattle.bus_base.specs.declared.samples.Pair.{Pair}
use Rattle.bus_line.specs.declared.cutter.TheConstants.{LAG}
use Rattle.bus_words.specs.Fields.{sub_of, is_mode, is_broadcast, is_transmit, word_count}
use Rattle.bus_words.specs.declared.word.Word.{Word}
use Rattle.bus_formats.specs.Plans.{TerminalData, StationData}
use Rattle.bus_formats.specs.declared.log.Registers.{Registers}
use Rattle.bus_model.specs.Memory.{Memory, TimedLoad, with_loads}
use Rattle.bus_model.specs.Commands.{Tail, unexpected, relay_from, carries, tail_of, has_code, is_illegal}
use Rattle.bus_formats.specs.Codes.{transmit_status_word, reset_remote_terminal, transmit_last_command}
use Rattle.bus_model.specs.Orders.{Taken, Obeyed, Duty, free, owes, promises, marked, mode_effect, reset, answer, block_taken}
use Rattle.bus_model.specs.Orders.{leaves, carried_out, answered, obey_data, obey_tail, with_error, kept, relayed}
use Rattle.bus_model.specs.Standing.{Standing, Handled, obeys, settles, runs_out}
use Rattle.bus_model.specs.Terminal.{standing, order_now, kept_by, done_by, taken_by, taken_of, took_now}
use Rattle.bus_model.specs.Hearing.{Moment, Hearing}
use Rattle.bus_model.specs.Control.{OutsideTake, hear_more, hearing_after}
use Rattle.bus_terminal.specs.Stands.{channel_of}
use Rattle.bus_station.specs.Told.{delivery_of, delivery_in, heard_newest, delivered_newest}
use Rattle.bus_run.specs.Data.{IsForData}

-- a block that was taken, if one was
abbrev pub IsOfData : Option Taken → Type 0
IsOfData None = ⊤
IsOfData (Some block) = (1 ≤ block.sub) × (block.sub ≤ 30)

-- either way
by-either : (b : Bool) (x y : Obeyed) → IsOfData x.taken → IsOfData y.taken → IsOfData (if b then x else y).taken
by-either true x y a c = a
by-either false x y a c = c

or-first : (a b : Bool) → (a || b) ≡ false → a ≡ false
or-first false b none = refl
or-first true b none = none

not-mode : (command : ℕ) → is_mode command ≡ false → (1 ≤ sub_of command) × (sub_of command ≤ 30)
not-mode command none =
    let low : (sub_of command == 0) ≡ false = or-first _ _ none in
    let below : sub_of command < 32 = omega arith in
    (grind (arith, nat_tests, none, below), grind (arith, nat_tests, none, below))

block-by : (command : ℕ) (broadcast : Bool) (words : List ℕ) (b c d : Bool) → ((is_mode command || c) || d) ≡ b →
    IsOfData (if b then None else Some record { sub = sub_of command; broadcast = broadcast; words = words })
block-by command broadcast words true c d is = tt
block-by command broadcast words false c d is = not-mode command (or-first _ _ (or-first _ _ is))

-- the block of a command
block-data : (t : TerminalData) (command : ℕ) (words : List ℕ) → IsOfData (block_taken t command words)
block-data t command words = block-by command (is_broadcast command) words (is_mode command || is_transmit command || t.busy) (is_transmit command) t.busy refl

-- a command with its data words
obeyed-data : (t : TerminalData) (memory : Memory) (channel : Channel) (command : ℕ) (words : List ℕ) (may : Bool) (registers : Registers) →
    IsOfData (obey_data t memory channel command words may registers).taken
obeyed-data t memory channel command words may registers =
    let carried : Obeyed = carried_out t memory channel command words may (mode_effect (marked registers command false) channel command words) in
    let cleared : Obeyed = answered t memory channel command (reset registers) [] in
    let last : Obeyed = answered t memory channel command registers (registers.last ∷ []) in
    let status : Obeyed = answered t memory channel command (record registers { last = command }) [] in
    let illegal : Obeyed = answered t memory channel command (marked registers command true) [] in
    let four : Obeyed = if has_code command reset_remote_terminal then cleared else carried in
    let three : Obeyed = if has_code command transmit_last_command then last else four in
    let two : Obeyed = if has_code command transmit_status_word then status else three in
    by-either (is_illegal t command) illegal two tt
    (by-either (has_code command transmit_status_word) status three tt
    (by-either (has_code command transmit_last_command) last four tt
    (by-either (has_code command reset_remote_terminal) cleared carried tt (block-data t command words))))

-- a command with its tail
obeyed-tail : (t : TerminalData) (memory : Memory) (channel : Channel) (command : ℕ) (may : Bool) (tail : Tail) →
    IsOfData (obey_tail t memory channel command may tail).taken
obeyed-tail t memory channel command may unexpected = tt
obeyed-tail t memory channel command may (relay_from transmitter) = tt
obeyed-tail t memory channel command may (carries words) = obeyed-data t memory channel command words may memory.registers

-- a promise
kept-data : (t : TerminalData) (memory : Memory) (channel : Channel) (command : ℕ) (words : Option (List ℕ)) →
    IsOfData (kept t memory channel command words).taken
kept-data t memory channel command None = tt
kept-data t memory channel command (Some words) =
    by-either (is_illegal t command) (answered t memory channel command (with_error t memory channel true) [])
    (leaves t memory channel memory.registers (block_taken t command words) (answer t memory.registers channel command false [])) tt
    (block-data t command words)

kept-by-data : (k : ℕ) (t : TerminalData) (memory : Memory) (c : Channel) (duty : Duty) (slots : List (Option Word)) (rest : ℕ) →
    IsOfData (kept_by k t memory c duty slots rest).taken
kept-by-data k t memory c (promises command transmitter) slots rest = kept-data t memory c command (relayed (word_count command) transmitter slots rest)
kept-by-data k t memory c free slots rest = tt
kept-by-data k t memory c (owes words accepts) slots rest = tt

-- what is handled in a tick
done-data : (k : ℕ) (t : TerminalData) (s : Standing) (memory : Memory) (may : Bool) (order : Handled) →
    IsOfData (done_by k t s memory may order).taken
done-data k t s memory may (obeys c end order rest) = obeyed-tail t memory c order.command may (tail_of t.address order.command order.tail rest)
done-data k t s memory may (settles end slots rest) = kept-by-data k t memory s.channel s.duty slots rest
done-data k t s memory may runs_out = tt

-- the block of a tick
taken-data : (k : ℕ) (t : TerminalData) (loads : List TimedLoad) (tick : ℕ) (may : Bool) (s : Standing) (order : Option Handled) →
    IsOfData (taken_by k t loads tick may s order)
taken-data k t loads tick may s None = tt
taken-data k t loads tick may s (Some order) = done-data k t s (with_loads t.address tick loads s.memory) may order

taken-in : (k : ℕ) (t : TerminalData) (loads : List TimedLoad) (memory : Memory) (ticks : List Moment) → IsOfData (taken_of k t loads memory ticks)
taken-in k t loads memory [] = tt
taken-in k t loads memory (now ∷ past) =
    taken-data k t loads (length past) now.has_items (standing k t loads memory past) (order_now k t (now ∷ past) (standing k t loads memory past))

-- the delivery of a block
delivery-data : (tick : ℕ) (c : Channel) (taken : Option Taken) → IsOfData taken → IsForData (delivery_of tick c taken)
delivery-data tick c None data-of = tt
delivery-data tick c (Some block) data-of = data-of

delivered-data : (station : StationData) (starts : Bool) (loads : List TimedLoad) (outside : List OutsideTake) (now : Moment) (hearing : Hearing) →
    IsForData (delivery_in LAG station starts loads outside now hearing)
delivered-data station starts loads outside now hearing =
    delivery-data (length hearing.ticks)
    (channel_of (standing LAG station.terminal loads hearing.memory hearing.ticks)
    (order_now LAG station.terminal (now ∷ hearing.ticks) (standing LAG station.terminal loads hearing.memory hearing.ticks)))
    (took_now LAG station.terminal loads (hear_more hearing now)) (taken-in LAG station.terminal loads hearing.memory (now ∷ hearing.ticks))

pub for-data : (station : StationData) (starts : Bool) (loads : List TimedLoad) (outside : List OutsideTake) (past : List Pair) →
    IsForData (delivered_newest LAG station starts loads outside past)
for-data station starts loads outside [] = tt
for-data station starts loads outside (shown ∷ past) =
    delivered-data station starts loads outside (heard_newest LAG station starts loads outside shown past) (hearing_after LAG station starts loads outside past)
