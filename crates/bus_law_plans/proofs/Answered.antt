-- What a terminal owes to a command: a status of its own, and data words; and which terminal it is that answers.
use Rattle.std.proofs.Common.{◌≡◌, ℕ, ◌≤◌, Bool, true, false, List, [], ◌∷◌, ◌++◌, length, map, replicate, Option, Some, None, refl, sym, ap, ◌∙◌, subst, arith}
use Rattle.std.proofs.lemmas.List.{length-take}
use Rattle.std.proofs.lemmas.Bool.{true≢false}
use Rattle.std.proofs.lemmas.Option.{none-some, same_Some}
use Rattle.std.specs.Prelude.{if◌then◌else◌, ◌&&◌, ◌||◌, not}
use Rattle.std.specs.Option.{option_or}
use Rattle.std.specs.List.{AllByRecursion as Each}
use Rattle.bus_base.specs.declared.samples.Channel.{Channel}
use Rattle.bus_words.specs.Fields.{is_broadcast, is_mode, is_transmit, sub_of, field_of, word_count}
use Rattle.bus_words.specs.declared.word.Word.{Word}
use Rattle.bus_formats.specs.Codes.{dynamic_bus_control, transmit_status_word, reset_remote_terminal, transmit_last_command, transmit_vector_word, transmit_bit_word}
use Rattle.bus_formats.specs.Forms.{command_word, data_word}
use Rattle.bus_formats.specs.Plans.{TerminalData}
use Rattle.bus_formats.specs.declared.fault.Hit.{Hit}
use Rattle.bus_formats.specs.declared.log.Registers.{Registers}
use Rattle.bus_model.specs.Commands.{Tail, unexpected, relay_from, carries, tail_of, has_code, is_illegal}
use Rattle.bus_model.specs.Memory.{Memory, TimedLoad, status_of, sending_on, is_off}
use Rattle.bus_model.specs.Message.{Present, address_of_station, After, unmoved, answer_for, answer_to, after_command, after_command_of, memory_at}
use Rattle.bus_model.specs.Orders.{Duty, free, owes, promises, Obeyed, Order, last_order, due_after, filled, answer, answer_data, accepts, marked, mode_effect, reset, answered, obey_data, obey_tail, obey}
use Rattle.bus_model.specs.Starts.{has_items}
use Rattle.bus_model.specs.Strikes.{ShownBurst, burst_end, Answer, ShownAnswer, struck, shown_answer, shown_with}
use Rattle.bus_law_plans.proofs.Lists.{either}

-- what holds of an answer that is owed
abbrev pub Owed : (List Word → Bool → Type 0) → Duty → Type 0
Owed P (owes words acceptance) = P words acceptance
Owed P _ = Unit {0}

-- the data words of an answer: none; the last command; or those of a legal command
pub data IsData (terminal : TerminalData) (memory : Memory) (command : ℕ) (words : List ℕ) : Type 0 where
  status_alone : words ≡ [] → IsData terminal memory command words
  last_command : is_mode command ≡ true → words ≡ memory.registers.last ∷ [] → IsData terminal memory command words
  whole_answer : words ≡ answer_data terminal memory command → IsData terminal memory command words

-- an answer: a status and data words; one that accepts control does so where the terminal may
pub record IsAnswer (terminal : TerminalData) (memory : Memory) (command : ℕ) (may : Bool) (words : List Word) (acceptance : Bool) : Type 0 where
  pub registers : Registers
  pub words_sent : List ℕ
  pub words_are : words ≡ command_word (status_of terminal registers acceptance) ∷ map data_word words_sent
  pub sent : IsData terminal memory command words_sent
  pub accepted : acceptance ≡ true → may ≡ true

module _ (terminal : TerminalData) (memory : Memory) (c : Channel) (command : ℕ) (may : Bool) where
  -- the answer is one to this command
  abbrev pub Is : List Word → Bool → Type 0
  Is words acceptance = IsAnswer terminal memory command may words acceptance

  abbrev OwesSo : Obeyed → Type 0
  OwesSo o = Owed Is o.duty

  -- an answer is so
  pub by-answer : (registers : Registers) (acceptance : Bool) (words : List ℕ) → IsData terminal memory command words → (acceptance ≡ true → may ≡ true) →
      Owed Is (answer terminal registers c command acceptance words)
  by-answer registers acceptance words is allowed =
      either (Owed Is) (is_broadcast command || is_off registers c) free
      (owes (command_word (status_of terminal registers acceptance) ∷ map data_word words) acceptance) tt
      record { registers = registers; words_sent = words; words_are = refl; sent = is; accepted = allowed }

  status-only : (registers : Registers) → Owed Is (answer terminal registers c command false [])
  status-only registers = by-answer registers false [] (status_alone refl) (λ is. absurd (true≢false (sym is)))

  and-last : (a b m : Bool) → (a && b && m) ≡ true → m ≡ true
  and-last true true m is = is
  and-last true false m is = absurd (true≢false (sym is))
  and-last false b m is = absurd (true≢false (sym is))

  and-first : (a b : Bool) → (a && b) ≡ true → a ≡ true
  and-first true b is = refl
  and-first false b is = absurd (true≢false (sym is))

  by-last : (b : Bool) (rest : Obeyed) → has_code command transmit_last_command ≡ b → OwesSo rest →
      OwesSo (if b then answered terminal memory c command memory.registers (memory.registers.last ∷ []) else rest)
  by-last false rest test later = later
  by-last true rest test later = by-answer memory.registers false (memory.registers.last ∷ [])
      (last_command (and-first (is_mode command) _ test) refl) (λ is. absurd (true≢false (sym is)))

  by-data : (words : List ℕ) → OwesSo (obey_data terminal memory c command words may memory.registers)
  by-data words =
      either OwesSo (is_illegal terminal command) _ _ (status-only (marked memory.registers command true))
      (either OwesSo (has_code command transmit_status_word) _ _ (status-only (record memory.registers { last = command }))
      (by-last (has_code command transmit_last_command) _ refl
      (either OwesSo (has_code command reset_remote_terminal) _ _ (status-only (reset memory.registers))
      (by-answer (mode_effect (marked memory.registers command false) c command words) (accepts terminal command may)
      (answer_data terminal memory command) (whole_answer refl) (and-last (has_code command dynamic_bus_control) terminal.accepts may)))))

  by-tail : (tail : Tail) → OwesSo (obey_tail terminal memory c command may tail)
  by-tail unexpected = tt
  by-tail (relay_from transmitter) = tt
  by-tail (carries words) = by-data words

  -- what is owed to a command is an answer to it
  pub obeyed-owes : (slots : List (Option Word)) (rest : ℕ) → OwesSo (obey terminal memory c command slots rest may)
  obeyed-owes slots rest = by-tail (tail_of terminal.address command slots rest)

  always-owed : (X : Type 0) → X → (duty : Duty) → Owed (λ words acceptance. X) duty
  always-owed X x free = tt
  always-owed X x (owes words acceptance) = x
  always-owed X x (promises other transmitter) = tt

  by-carried : (tail : Tail) → Owed (λ words acceptance. (ws : List ℕ) × (tail ≡ carries ws)) (obey_tail terminal memory c command may tail).duty
  by-carried unexpected = tt
  by-carried (relay_from transmitter) = tt
  by-carried (carries words) =
      always-owed ((ws : List ℕ) × (carries words ≡ carries ws)) (words, refl) (obey_data terminal memory c command words may memory.registers).duty

  -- only a command with the words that it wants is answered
  pub obeyed-carries : (slots : List (Option Word)) (rest : ℕ) →
      Owed (λ words acceptance. (ws : List ℕ) × (tail_of terminal.address command slots rest ≡ carries ws)) (obey terminal memory c command slots rest may).duty
  obeyed-carries slots rest = by-carried (tail_of terminal.address command slots rest)

-- ---- an answer has few words

filled-few : (count : ℕ) (words : List ℕ) → length (filled count words) ≤ count
filled-few count words = omega (arith, length-take count (words ++ replicate count 0))

-- a command names at most 32 words
pub count-few : (command : ℕ) → word_count command ≤ 32
count-few command = either (λ (n : ℕ). n ≤ 32) _ 32 (field_of command) (omega arith) (omega arith)

answer-few : (terminal : TerminalData) (memory : Memory) (command : ℕ) → length (answer_data terminal memory command) ≤ 32
answer-few terminal memory command =
    let Few : List ℕ → Type 0 = λ words. length words ≤ 32 in
    either Few (has_code command transmit_vector_word) (terminal.vector ∷ []) _ (omega arith)
    (either Few (has_code command transmit_bit_word) (terminal.bit ∷ []) _ (omega arith)
    (either Few (is_mode command || not (is_transmit command) || terminal.busy) [] (filled (word_count command) (sending_on memory (sub_of command))) (omega arith)
    (omega (arith, filled-few (word_count command) (sending_on memory (sub_of command)), count-few command))))

-- an answer has at most 32 data words
pub data-few : (terminal : TerminalData) (memory : Memory) (command : ℕ) (words : List ℕ) → IsData terminal memory command words → length words ≤ 32
data-few terminal memory command words (status_alone is) = rw is (omega arith)
data-few terminal memory command words (last_command mode is) = rw is (omega arith)
data-few terminal memory command words (whole_answer is) = rw is (answer-few terminal memory command)

-- ---- the terminal that answers

-- the answer is that of this station, which serves, to the last command for it in the burst
pub record IsAnswerOf (k : ℕ) (loads : List TimedLoad) (burst : ShownBurst) (s : Present) (a : Answer) : Type 0 where
  pub serves : s.serves ≡ true
  pub order : Order
  pub order_is : last_order (address_of_station s) burst.slots ≡ Some order
  pub address : a.address ≡ address_of_station s
  pub channel : a.channel ≡ burst.channel
  pub start : a.start ≡ due_after s.plan.terminal (burst_end burst)
  pub is : IsAnswer s.plan.terminal (memory_at k loads burst s) order.command (has_items s.left) a.words a.acceptance
  pub carried : (ws : List ℕ) × (tail_of (address_of_station s) order.command order.tail burst.rest ≡ carries ws)

module _ (k : ℕ) (loads : List TimedLoad) (burst : ShownBurst) where
  abbrev Replies : Present → After → Type 0
  Replies s after = (a : Answer) → answer_for burst after after.duty ≡ Some a → IsAnswerOf k loads burst s a

  by-duty : (s : Present) (order : Order) (after : After) (duty : Duty) → s.serves ≡ true → last_order (address_of_station s) burst.slots ≡ Some order →
      after.station.plan ≡ s.plan →
      Owed (IsAnswer s.plan.terminal (memory_at k loads burst s) order.command (has_items s.left)) duty →
      Owed (λ words acceptance. (ws : List ℕ) × (tail_of (address_of_station s) order.command order.tail burst.rest ≡ carries ws)) duty → (a : Answer) → answer_for burst after duty ≡ Some a → IsAnswerOf k loads burst s a
  by-duty s order after free serves found same owed tail a is = absurd (none-some a is)
  by-duty s order after (promises command transmitter) serves found same owed tail a is = absurd (none-some a is)
  by-duty s order after (owes words acceptance) serves found same owed tail a is =
      let this : record { address = address_of_station after.station; channel = burst.channel; start = due_after after.station.plan.terminal (burst_end burst); words = words; acceptance = acceptance } ≡ a = same_Some _ _ is in
      record {
        serves = serves;
        order = order;
        order_is = found;
        address = sym (ap (λ (x : Answer). x.address) this) ∙ ap (λ p. p.terminal.address) same;
        channel = sym (ap (λ (x : Answer). x.channel) this);
        start = sym (ap (λ (x : Answer). x.start) this) ∙ ap (λ p. due_after p.terminal (burst_end burst)) same;
        is = subst (λ (x : Answer). IsAnswer s.plan.terminal (memory_at k loads burst s) order.command (has_items s.left) x.words x.acceptance) this owed;
        carried = tail;
      }

  by-order : (s : Present) (order : Option Order) → s.serves ≡ true → last_order (address_of_station s) burst.slots ≡ order →
      Replies s (after_command_of k loads burst s order)
  by-order s None serves found a is = absurd (none-some a is)
  by-order s (Some order) serves found a is =
      by-duty s order (after_command_of k loads burst s (Some order)) _ serves found refl
      (obeyed-owes s.plan.terminal (memory_at k loads burst s) burst.channel order.command (has_items s.left) order.tail burst.rest)
      (obeyed-carries s.plan.terminal (memory_at k loads burst s) burst.channel order.command (has_items s.left) order.tail burst.rest) a is

  by-serving : (s : Present) (serves : Bool) → s.serves ≡ serves →
      Replies s (if serves then after_command_of k loads burst s (last_order (address_of_station s) burst.slots) else unmoved s)
  by-serving s true is a owed = by-order s (last_order (address_of_station s) burst.slots) is refl a owed
  by-serving s false is a none = absurd (none-some a none)

  by-first : (Q : Answer → Type 0) (s : Present) (later : Option Answer) → ((a : Answer) → IsAnswerOf k loads burst s a → Q a) → (a : Answer) →
      (later ≡ Some a → Q a) → (o : Option Answer) → answer_for burst (after_command k loads burst s) (after_command k loads burst s).duty ≡ o →
      option_or o later ≡ Some a → Q a
  by-first Q s later own a rest None same is = rest is
  by-first Q s later own a rest (Some b) same is = own a (by-serving s s.serves refl a (same ∙ is))

  -- what holds of each answer that a station may give holds of the answer that comes
  pub replied-by : (Q : Answer → Type 0) (stations : List Present) → Each (λ s. (a : Answer) → IsAnswerOf k loads burst s a → Q a) stations →
      (a : Answer) → answer_to burst (map (after_command k loads burst) stations) ≡ Some a → Q a
  replied-by Q [] all a is = absurd (none-some a is)
  replied-by Q (s ∷ stations) all a is =
      by-first Q s (answer_to burst (map (after_command k loads burst) stations)) all.0 a (replied-by Q stations all.1 a)
      (answer_for burst (after_command k loads burst s) (after_command k loads burst s).duty) refl is

-- ---- as it is shown

pub record IsShownOf (hits : List Hit) (answer : Option Answer) (shown : ShownAnswer) : Type 0 where
  pub sent : answer ≡ Some shown.sent
  pub hits_are : shown.hits ≡ hits
  pub channel : shown.burst.channel ≡ shown.sent.channel
  pub start : shown.burst.start ≡ shown.sent.start
  pub slots : shown.burst.slots ≡ struck hits shown.sent.words
  pub rest : shown.burst.rest ≡ 0

shown-by : (hits : List Hit) (a : Answer) (slots : List (Option Word)) → struck hits a.words ≡ slots → (shown : ShownAnswer) →
    shown_with hits a slots ≡ Some shown → IsShownOf hits (Some a) shown
shown-by hits a [] same shown is = absurd (none-some shown is)
shown-by hits a (slot ∷ slots) same shown is =
    let this : record { sent = a; hits = hits; burst = record { channel = a.channel; start = a.start; slots = slot ∷ slots; rest = 0 } } ≡ shown =
    same_Some _ _ is in
    subst (IsShownOf hits (Some a)) this record { sent = refl; hits_are = refl; channel = refl; start = refl; slots = sym same; rest = refl }

-- an answer that is shown is the one that is sent, struck
pub shown-of : (hits : List Hit) (answer : Option Answer) (shown : ShownAnswer) → shown_answer hits answer ≡ Some shown → IsShownOf hits answer shown
shown-of hits None shown is = absurd (none-some shown is)
shown-of hits (Some a) shown is = shown-by hits a (struck hits a.words) refl shown is
