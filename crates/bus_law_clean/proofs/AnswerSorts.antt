-- What a terminal answers to a command with its data words, by what became of the command.
use Rattle.std.proofs.Common.{◌≡◌, ℕ, ◌≤◌, List, [], ◌∷◌, length, refl, ap, sym, subst, ◌∙◌, arith}
use Rattle.std.proofs.lemmas.Bool.{true≢false}
use Rattle.std.proofs.lemmas.Bool.Decides.{nat_tests}
use Rattle.std.specs.Prelude.{Bool, true, false, not, ◌&&◌, ◌||◌, ◌==◌, if◌then◌else◌, Option, None}
use Rattle.bus_base.specs.Samples.{other_of}
use Rattle.bus_base.specs.declared.samples.Channel.{Channel}
use Rattle.bus_base.specs.declared.samples.Channel.TheVariants.{A, B}
use Rattle.bus_base.specs.declared.samples.Part.{Part}
use Rattle.bus_words.specs.Fields.{flags_in, is_broadcast, is_mode, is_transmit, field_of, word_count, sub_of}
use Rattle.bus_words.specs.declared.status.Flags.{Flags}
use Rattle.bus_words.specs.declared.word.Word.{Word}
use Rattle.bus_words.proofs.FlagBits.{status_bits_of, flags_are}
use Rattle.bus_formats.specs.Codes.{transmit_status_word, transmitter_shutdown, override_transmitter_shutdown, inhibit_terminal_flag, override_inhibit_terminal_flag, synchronize_with_data, reset_remote_terminal, transmit_last_command, transmit_vector_word, transmit_bit_word, mode_of}
use Rattle.bus_formats.specs.Plans.{TerminalData}
use Rattle.bus_formats.specs.Readings.{status_alone, status_full, read_data}
use Rattle.bus_formats.specs.declared.form.Shape.{Shape}
use Rattle.bus_formats.specs.declared.log.Registers.{Registers}
use Rattle.bus_model.specs.Commands.{Tail, unexpected, relay_from, carries, has_code, is_illegal}
use Rattle.bus_model.specs.Memory.{Memory, status_of, sending_on, is_listed, with_off}
use Rattle.bus_model.specs.Orders.{owes, promises, Obeyed, Taken, answer, answer_data, accepts, filled, marked, mode_effect, reset, leaves, answered, block_taken, obey_data, obey_tail, after_taking}
use Rattle.bus_law_duties.specs.Words.{with_data}
use Rattle.bus_law_duties.proofs.Fields.{skips, takes, no-code}
use Rattle.bus_law_duties.proofs.Owed.{owing, kept-registers}
use Rattle.bus_law_duties.proofs.Owes.{free-owes}
use Rattle.bus_law_plans.proofs.Lists.{either-by}
use Rattle.bus_law_plans.proofs.Relays.{filled-long}
use Rattle.bus_law_clean.proofs.AnswerRead.{IsDue, IsStatus, shown, data-alone, data-whole}

-- the effect of a mode command leaves message error as it is
off-error : (r : Registers) (c : Channel) (b : Bool) → (with_off r c b).message_error ≡ r.message_error
off-error r A b = refl
off-error r B b = refl

effect-error : (r : Registers) (c : Channel) (command : ℕ) (words : List ℕ) → (mode_effect r c command words).message_error ≡ r.message_error
effect-error r c command words =
    let same : Registers → Type 0 = λ q. q.message_error ≡ r.message_error in
    either-by same (has_code command transmitter_shutdown) _ _ (λ is. off-error r (other_of c) true) (λ is.
    either-by same (has_code command override_transmitter_shutdown) _ _ (λ is. off-error r (other_of c) false) (λ is.
    either-by same (has_code command inhibit_terminal_flag) _ _ (λ is. refl) (λ is.
    either-by same (has_code command override_inhibit_terminal_flag) _ _ (λ is. refl) (λ is.
    either-by same (has_code command synchronize_with_data) _ _ (λ is. refl) (λ is. refl)))))

-- whoever promises owes nothing yet
pub promises-owes : (command transmitter : ℕ) (words : List Word) (acceptance : Bool) → promises command transmitter ≡ owes words acceptance → ⊥
promises-owes command transmitter words acceptance is = cc

-- what the registers say after a command, and the data words of its answer
pub data IsSort (terminal : TerminalData) (memory : Memory) (command : ℕ) (r : Registers) (words : List ℕ) : Type 0 where
  -- the command was refused
  refused : r.message_error ≡ true → words ≡ [] → IsSort terminal memory command r words
  -- it asked for the status; for the last command; it was a reset
  status : has_code command transmit_status_word ≡ true → words ≡ [] → IsSort terminal memory command r words
  last : is_illegal terminal command ≡ false → has_code command transmit_last_command ≡ true → length words ≡ 1 → IsSort terminal memory command r words
  resets : has_code command reset_remote_terminal ≡ true → words ≡ [] → IsSort terminal memory command r words
  -- it had its effect
  effect : is_illegal terminal command ≡ false → has_code command transmit_last_command ≡ false → r.message_error ≡ false →
      words ≡ answer_data terminal memory command → IsSort terminal memory command r words

-- a terminal owes these words after it obeyed a command so
pub record OwesSorted (terminal : TerminalData) (memory : Memory) (command : ℕ) (o : Obeyed) (words : List Word) (acceptance : Bool) : Type 0 where
  pub data_words : List ℕ
  pub words_are : words ≡ with_data (status_of terminal o.memory.registers acceptance) data_words
  pub one : is_broadcast command ≡ false
  pub sort : IsSort terminal memory command o.memory.registers data_words

module _ (terminal : TerminalData) (memory : Memory) (c : Channel) (command : ℕ) (received : List ℕ) (may : Bool) where
  abbrev Sorted : Obeyed → Type 0
  Sorted o = (words : List Word) (acceptance : Bool) → o.duty ≡ owes words acceptance → OwesSorted terminal memory command o words acceptance

  leaves-sorted : (r : Registers) (taken : Option Taken) (given : Bool) (data_words : List ℕ) → IsSort terminal memory command r data_words →
      Sorted (leaves terminal memory c r taken (answer terminal r c command given data_words))
  leaves-sorted r taken given data_words sort words acceptance is =
      let found = owing terminal r c command given data_words words acceptance is in
      let same : (after_taking (record memory { registers = r }) taken).registers ≡ r = kept-registers (record memory { registers = r }) taken in record {
        data_words = data_words;
        words_are = found.words_are ∙ ap (λ a. with_data (status_of terminal r a) data_words) (sym found.acceptance_is)
            ∙ ap (λ q. with_data (status_of terminal q acceptance) data_words) (sym same);
        one = found.one;
        sort = subst (λ q. IsSort terminal memory command q data_words) (sym same) sort;
      }

  abbrev registers : Registers
  registers = memory.registers

  abbrev changed : Registers
  changed = mode_effect (marked registers command false) c command received

  data-sorted : Sorted (obey_data terminal memory c command received may registers)
  data-sorted =
      either-by Sorted (is_illegal terminal command) (answered terminal memory c command (marked registers command true) []) _
      (λ ill. leaves-sorted (marked registers command true) None false [] (refused refl refl))
      (λ legal. either-by Sorted (has_code command transmit_status_word) (answered terminal memory c command (record registers { last = command }) []) _
      (λ is. leaves-sorted (record registers { last = command }) None false [] (status is refl))
      (λ other. either-by Sorted (has_code command transmit_last_command) (answered terminal memory c command registers (registers.last ∷ [])) _
      (λ is. leaves-sorted registers None false (registers.last ∷ []) (last legal is refl))
      (λ not-last. either-by Sorted (has_code command reset_remote_terminal) (answered terminal memory c command (reset registers) [])
      (leaves terminal memory c changed (block_taken terminal command received)
      (answer terminal changed c command (accepts terminal command may) (answer_data terminal memory command)))
      (λ is. leaves-sorted (reset registers) None false [] (resets is refl))
      (λ not-reset. leaves-sorted changed (block_taken terminal command received) (accepts terminal command may) (answer_data terminal memory command)
      (effect legal not-last (effect-error (marked registers command false) c command received) refl)))))

-- whatever follows the command
pub tail-sorted : (terminal : TerminalData) (memory : Memory) (c : Channel) (command : ℕ) (may : Bool) (tail : Tail) (words : List Word) (acceptance : Bool) →
    (obey_tail terminal memory c command may tail).duty ≡ owes words acceptance →
    OwesSorted terminal memory command (obey_tail terminal memory c command may tail) words acceptance
tail-sorted terminal memory c command may unexpected words acceptance is = absurd (free-owes words acceptance is)
tail-sorted terminal memory c command may (relay_from transmitter) words acceptance is = absurd (promises-owes command transmitter words acceptance is)
tail-sorted terminal memory c command may (carries received) words acceptance is = data-sorted terminal memory c command received may words acceptance is

-- ---- it is due, in answer to a command that is no mode command

-- what a status says of its terminal
pub record Says (terminal : TerminalData) (r : Registers) (number : ℕ) : Type 0 where
  pub error : (flags_in number).message_error ≡ r.message_error
  pub busy : (flags_in number).busy ≡ terminal.busy

pub says-so : (terminal : TerminalData) (r : Registers) (acceptance : Bool) → Says terminal r (status_of terminal r acceptance)
says-so terminal r acceptance =
    let flags : Flags = record {
      message_error = r.message_error;
      service = terminal.service;
      broadcast = r.broadcast;
      busy = terminal.busy;
      subsystem = terminal.subsystem_flag;
      acceptance = acceptance;
      terminal = terminal.terminal_flag && not r.inhibited;
    } in
    let same : flags_in (status_of terminal r acceptance) ≡ flags =
    flags_are (status_of terminal r acceptance) flags (status_bits_of terminal.address flags) in
    record { error = ap (λ (f : Flags). f.message_error) same; busy = ap (λ (f : Flags). f.busy) same }

-- the data words of a mode command's answer, and of another's
plain-data : (terminal : TerminalData) (memory : Memory) (command : ℕ) → is_mode command ≡ false → answer_data terminal memory command
    ≡ (if not (is_transmit command) || terminal.busy then [] else filled (word_count command) (sending_on memory (sub_of command)))
plain-data terminal memory command plain =
    skips (has_code command transmit_vector_word) (terminal.vector ∷ []) _ (no-code command transmit_vector_word plain)
    ∙ skips (has_code command transmit_bit_word) (terminal.bit ∷ []) _ (no-code command transmit_bit_word plain)
    ∙ ap (λ (b : Bool). if b || not (is_transmit command) || terminal.busy then [] else filled (word_count command) (sending_on memory (sub_of command))) plain

module _ (part : Part) (shape : Shape) (terminal : TerminalData) (memory : Memory) (command : ℕ) (r : Registers) (number : ℕ)
    (is : IsStatus shape.address number) (says : Says terminal r number) where
  -- a message with data words
  module _ (plain : is_mode command ≡ false) (receives : is_transmit command ≡ false → shape.count ≡ 0)
      (transmits : is_transmit command ≡ true → shape.count ≡ word_count command) where
    abbrev Read : List ℕ → Type 0
    Read words = IsDue (read_data part (status_alone shape (shown number words) 0) (status_full shape (shown number words) 0))

    no-words : (words : List ℕ) → words ≡ [] → ((flags_in number).message_error ≡ false → (flags_in number).busy ≡ false → shape.count ≡ 0) → Read words
    no-words words none rule = subst Read (sym none) (data-alone part shape number is rule)

    by-effect : (words : List ℕ) (sends busy : Bool) → is_transmit command ≡ sends → terminal.busy ≡ busy → r.message_error ≡ false →
        words ≡ (if not sends || busy then [] else filled (word_count command) (sending_on memory (sub_of command))) → Read words
    by-effect words false busy one two fine same = no-words words same (λ e b. receives one)
    by-effect words true true one two fine same = no-words words same (λ e b. absurd (true≢false (sym two ∙ sym says.busy ∙ b)))
    by-effect words true false one two fine same =
        data-whole part shape number is words
        (ap length same ∙ filled-long (word_count command) (sending_on memory (sub_of command)) ∙ sym (transmits one))
        (says.error ∙ fine) (says.busy ∙ two)

    pub data-due : (words : List ℕ) → IsSort terminal memory command r words → Read words
    data-due words (refused error none) = no-words words none (λ e b. absurd (true≢false (sym error ∙ sym says.error ∙ e)))
    data-due words (status code none) = absurd (true≢false (sym code ∙ no-code command transmit_status_word plain))
    data-due words (last legal code long) = absurd (true≢false (sym code ∙ no-code command transmit_last_command plain))
    data-due words (resets code none) = absurd (true≢false (sym code ∙ no-code command reset_remote_terminal plain))
    data-due words (effect legal other fine same) =
        by-effect words (is_transmit command) terminal.busy refl refl fine (same ∙ plain-data terminal memory command plain)

-- ---- and to a mode command

legal-by : (legal listed third : Bool) → (not legal || listed || third) ≡ false → legal ≡ true
legal-by true listed third is = refl
legal-by false listed third is = absurd (true≢false is)

pub legal-of : (terminal : TerminalData) (command : ℕ) → is_mode command ≡ true → is_illegal terminal command ≡ false →
    (mode_of (is_transmit command) (field_of command)).legal ≡ true
legal-of terminal command mode legal =
    legal-by (mode_of (is_transmit command) (field_of command)).legal (is_listed terminal.no_mode (field_of command)) _
    (sym (takes (is_mode command) _ _ mode) ∙ legal)

apart-test : (m n : ℕ) → (m ≡ n → ⊥) → (m == n) ≡ false
apart-test m n is = grind (arith, nat_tests, is)

same-test : (m n : ℕ) → m ≡ n → (m == n) ≡ true
same-test m n is = grind (arith, nat_tests, is)

-- with the transmit bit unset one code is legal, which carries a data word to the terminal
pub down-legal : (code : ℕ) → (17 ≡ code → ⊥) → (mode_of false code).legal ≡ false
down-legal code other = let t : (17 == code) ≡ false = apart-test 17 code other in rw t refl

-- with it set no others from 16 on than these three
pub up-legal : (code : ℕ) → 16 ≤ code → (16 ≡ code → ⊥) → (18 ≡ code → ⊥) → (19 ≡ code → ⊥) → (mode_of true code).legal ≡ false
up-legal code high one two three =
    let t0 : (0 == code) ≡ false = apart-test 0 code (λ same. omega (arith, same, high)) in
    let t1 : (1 == code) ≡ false = apart-test 1 code (λ same. omega (arith, same, high)) in
    let t2 : (2 == code) ≡ false = apart-test 2 code (λ same. omega (arith, same, high)) in
    let t3 : (3 == code) ≡ false = apart-test 3 code (λ same. omega (arith, same, high)) in
    let t4 : (4 == code) ≡ false = apart-test 4 code (λ same. omega (arith, same, high)) in
    let t5 : (5 == code) ≡ false = apart-test 5 code (λ same. omega (arith, same, high)) in
    let t6 : (6 == code) ≡ false = apart-test 6 code (λ same. omega (arith, same, high)) in
    let t7 : (7 == code) ≡ false = apart-test 7 code (λ same. omega (arith, same, high)) in
    let t8 : (8 == code) ≡ false = apart-test 8 code (λ same. omega (arith, same, high)) in
    let t16 : (16 == code) ≡ false = apart-test 16 code one in
    let t18 : (18 == code) ≡ false = apart-test 18 code two in
    let t19 : (19 == code) ≡ false = apart-test 19 code three in
    rw (t0, t1, t2, t3, t4, t5, t6, t7, t8, t16, t18, t19) refl
