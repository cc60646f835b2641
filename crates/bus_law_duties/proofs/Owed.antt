-- What a terminal owes to an order, by what it makes of it.
use Rattle.std.proofs.Common.{◌≡◌, ◌≢◌, ℕ, Bool, true, false, List, [], ◌∷◌, Option, Some, None, refl, sym, ap, ◌∙◌, subst, arith}
use Rattle.std.proofs.lemmas.Bool.{true≢false}
use Rattle.std.proofs.lemmas.Bool.Decides.{nat_tests}
use Rattle.std.specs.Prelude.{◌&&◌, ◌||◌, ◌==◌, not, if◌then◌else◌}
use Rattle.bus_base.specs.Samples.{other_of}
use Rattle.bus_base.specs.declared.samples.Channel.{Channel}
use Rattle.bus_base.specs.declared.samples.Channel.TheVariants.{A, B}
use Rattle.bus_words.specs.Fields.{is_broadcast, is_mode, is_transmit, field_of, sub_of, word_count}
use Rattle.bus_words.specs.declared.word.Word.{Word}
use Rattle.bus_formats.specs.Accepted.{HasTerminalRanges}
use Rattle.bus_formats.specs.Codes.{dynamic_bus_control, transmit_status_word, transmitter_shutdown, override_transmitter_shutdown, inhibit_terminal_flag, override_inhibit_terminal_flag, reset_remote_terminal, transmit_vector_word, synchronize_with_data, transmit_last_command, transmit_bit_word}
use Rattle.bus_formats.specs.Plans.{TerminalData}
use Rattle.bus_formats.specs.declared.log.Registers.{Registers}
use Rattle.bus_model.specs.Commands.{Tail, unexpected, relay_from, carries, has_code, is_illegal}
use Rattle.bus_model.specs.Memory.{Memory, with_off, status_of, sending_on}
use Rattle.bus_model.specs.Orders.{free, owes, promises, Taken, Obeyed, marked, mode_effect, reset, answer, answer_data, accepts, block_taken, after_taking, filled, leaves, answered, carried_out, obey_data, obey_tail}
use Rattle.bus_law_duties.specs.Words.{with_data}
use Rattle.bus_law_duties.specs.Ranges.{HasMemoryRanges}
use Rattle.bus_law_duties.proofs.Sent.{AreSendable, none-sendable, one-sendable, data-sendable}

-- ---- choices

-- a property of both branches
pub either : {X : Type 0} (P : X → Type 0) (b : Bool) (x y : X) → (b ≡ true → P x) → (b ≡ false → P y) → P (if b then x else y)
either P true x y first second = first refl
either P false x y first second = second refl

-- neither of two
or-false : (a b : Bool) → (a || b) ≡ false → a ≡ false
or-false true b is = absurd (true≢false is)
or-false false b is = refl

-- each of three
and-three : (a b c : Bool) → (a && b && c) ≡ true → (a ≡ true) × (b ≡ true) × (c ≡ true)
and-three true true true is = (refl, refl, refl)
and-three true true false is = absurd (true≢false (sym is))
and-three true false c is = absurd (true≢false (sym is))
and-three false b c is = absurd (true≢false (sym is))

-- the first of two
and-first : (a b : Bool) → (a && b) ≡ true → a ≡ true
and-first true b is = refl
and-first false b is = is

-- a command with a code is a mode command
pub code-mode : (command code : ℕ) → has_code command code ≡ true → is_mode command ≡ true
code-mode command code is = and-first (is_mode command) (field_of command == code) is

-- ---- registers

-- taking a block changes no register
pub kept-registers : (m : Memory) (taken : Option Taken) → (after_taking m taken).registers ≡ m.registers
kept-registers m None = refl
kept-registers m (Some block) = refl

-- shutting a transmitter down or opening it leaves message error as it is
off-error : (r : Registers) (c : Channel) (b : Bool) → (with_off r c b).message_error ≡ r.message_error
off-error r A b = refl
off-error r B b = refl

-- the effect of a mode command leaves message error as it is
effect-error : (r : Registers) (c : Channel) (command : ℕ) (words : List ℕ) → (mode_effect r c command words).message_error ≡ r.message_error
effect-error r c command words =
    let same : Registers → Type 0 = λ q. q.message_error ≡ r.message_error in
    either same (has_code command transmitter_shutdown) _ _ (λ is. off-error r (other_of c) true) (λ is.
    either same (has_code command override_transmitter_shutdown) _ _ (λ is. off-error r (other_of c) false) (λ is.
    either same (has_code command inhibit_terminal_flag) _ _ (λ is. refl) (λ is.
    either same (has_code command override_inhibit_terminal_flag) _ _ (λ is. refl) (λ is.
    either same (has_code command synchronize_with_data) _ _ (λ is. refl) (λ is. refl)))))

-- ---- an answer

-- what an answer owes
pub record Owing (words own_words : List Word) (acceptance own_acceptance : Bool) (command : ℕ) : Type 0 where
  pub words_are : words ≡ own_words
  pub acceptance_is : acceptance ≡ own_acceptance
  pub one : is_broadcast command ≡ false

-- by whether an answer is sent at all
owing-by : (b : Bool) (words own_words : List Word) (acceptance own_acceptance : Bool) →
    (if b then free else owes own_words own_acceptance) ≡ owes words acceptance →
    (b ≡ false) × (words ≡ own_words) × (acceptance ≡ own_acceptance)
owing-by true words own_words acceptance own_acceptance is = cc
owing-by false words own_words acceptance own_acceptance is = (refl, cc, cc)

-- so an answer that is owed is its status and its data words, to a command that isn't broadcast
pub owing : (terminal : TerminalData) (r : Registers) (c : Channel) (command : ℕ) (given : Bool) (data_words : List ℕ) (words : List Word)
    (acceptance : Bool) → answer terminal r c command given data_words ≡ owes words acceptance →
    Owing words (with_data (status_of terminal r given) data_words) acceptance given command
owing terminal r c command given data_words words acceptance is =
    let found = owing-by _ words (with_data (status_of terminal r given) data_words) acceptance given is in
    record { words_are = found.1; acceptance_is = found.2; one = or-false _ _ found.0 }

-- sent or not, an answer is no promise
promised-by : (b : Bool) (words : List Word) (acceptance : Bool) (command transmitter : ℕ) →
    (if b then free else owes words acceptance) ≡ promises command transmitter → ⊥
promised-by true words acceptance command transmitter is = cc
promised-by false words acceptance command transmitter is = cc

-- an answer promises nothing
pub answer-promises : (terminal : TerminalData) (r : Registers) (c : Channel) (command : ℕ) (given : Bool) (data_words : List ℕ) (promised transmitter : ℕ) →
    answer terminal r c command given data_words ≡ promises promised transmitter → ⊥
answer-promises terminal r c command given data_words promised transmitter is =
    promised-by _ (with_data (status_of terminal r given) data_words) given promised transmitter is

-- ---- what a command with its data words is answered

-- control is accepted: offered, by a terminal that is willing, where its station may, with no message error
pub record Accepting (terminal : TerminalData) (command : ℕ) (may : Bool) (r : Registers) : Type 0 where
  pub offered : has_code command dynamic_bus_control ≡ true
  pub willing : terminal.accepts ≡ true
  pub items : may ≡ true
  pub error : r.message_error ≡ false

-- a terminal with this memory owes these words to a command, after it obeyed it so
pub record Owed (terminal : TerminalData) (memory : Memory) (command : ℕ) (may : Bool) (o : Obeyed) (words : List Word) (acceptance : Bool) : Type 0 where
  pub data_words : List ℕ
  pub words_are : words ≡ with_data (status_of terminal o.memory.registers acceptance) data_words
  pub one : is_broadcast command ≡ false
  pub accepted : acceptance ≡ true → Accepting terminal command may o.memory.registers
  -- the answer to an offer of control is a status alone
  pub alone : has_code command dynamic_bus_control ≡ true → data_words ≡ []
  pub sendable : HasTerminalRanges terminal → HasMemoryRanges memory → AreSendable data_words

-- a command with another mode code offers no control
two-codes : (command code : ℕ) → code ≢ dynamic_bus_control → has_code command code ≡ true → has_code command dynamic_bus_control ≡ false
two-codes command code apart is = grind (arith, nat_tests, apart, is)

module _ (terminal : TerminalData) (memory : Memory) (c : Channel) (command : ℕ) (received : List ℕ) (may : Bool) where
  -- the registers before the command
  abbrev registers : Registers
  registers = memory.registers

  -- an illegal command; one for the status; one for the last command; a reset
  abbrev after-illegal : Obeyed
  after-illegal = answered terminal memory c command (marked registers command true) []

  abbrev after-status : Obeyed
  after-status = answered terminal memory c command (record registers { last = command }) []

  abbrev after-last : Obeyed
  after-last = answered terminal memory c command registers (registers.last ∷ [])

  abbrev after-reset : Obeyed
  after-reset = answered terminal memory c command (reset registers) []

  -- any other has its effect
  abbrev effect : Registers
  effect = mode_effect (marked registers command false) c command received

  abbrev after-effect : Obeyed
  after-effect = carried_out terminal memory c command received may effect

  -- what holds of each of these holds of the command
  by-case : (P : Obeyed → Type 0) → P after-illegal → P after-status → (has_code command transmit_last_command ≡ true → P after-last) → P after-reset →
      P after-effect → P (obey_data terminal memory c command received may registers)
  by-case P illegal status last resets others =
      either P (is_illegal terminal command) after-illegal
      (if has_code command transmit_status_word then after-status
      else if has_code command transmit_last_command then after-last
      else if has_code command reset_remote_terminal then after-reset else after-effect)
      (λ is. illegal)
      (λ is. either P (has_code command transmit_status_word) after-status
      (if has_code command transmit_last_command then after-last else if has_code command reset_remote_terminal then after-reset else after-effect)
      (λ is. status)
      (λ is. either P (has_code command transmit_last_command) after-last
      (if has_code command reset_remote_terminal then after-reset else after-effect)
      last
      (λ is. either P (has_code command reset_remote_terminal) after-reset after-effect (λ is. resets) (λ is. others))))

  -- what is owed after it is such an answer
  abbrev Owes : Obeyed → Type 0
  Owes o = (words : List Word) (acceptance : Bool) → o.duty ≡ owes words acceptance → Owed terminal memory command may o words acceptance

  -- of an answer with these registers
  leaves-owes : (r : Registers) (taken : Option Taken) (given : Bool) (data_words : List ℕ) → (given ≡ true → Accepting terminal command may r) →
      (has_code command dynamic_bus_control ≡ true → data_words ≡ []) →
      (HasTerminalRanges terminal → HasMemoryRanges memory → AreSendable data_words) →
      Owes (leaves terminal memory c r taken (answer terminal r c command given data_words))
  leaves-owes r taken given data_words accepting alone sendable words acceptance is =
      let found = owing terminal r c command given data_words words acceptance is in
      let same : (after_taking (record memory { registers = r }) taken).registers ≡ r = kept-registers (record memory { registers = r }) taken in record {
        data_words = data_words;
        words_are = found.words_are ∙ ap (λ a. with_data (status_of terminal r a) data_words) (sym found.acceptance_is)
            ∙ ap (λ q. with_data (status_of terminal q acceptance) data_words) (sym same);
        one = found.one;
        accepted = λ accepts. subst (Accepting terminal command may) (sym same) (accepting (sym found.acceptance_is ∙ accepts));
        alone = alone;
        sendable = sendable;
      }

  -- an answer that accepts nothing
  plain-owes : (r : Registers) (data_words : List ℕ) → (has_code command dynamic_bus_control ≡ true → data_words ≡ []) →
      (HasTerminalRanges terminal → HasMemoryRanges memory → AreSendable data_words) → Owes (answered terminal memory c command r data_words)
  plain-owes r data_words alone sendable = leaves-owes r None false data_words (λ is. absurd (true≢false (sym is))) alone sendable

  -- an answer that accepts control follows an offer
  accepting-effect : accepts terminal command may ≡ true → Accepting terminal command may effect
  accepting-effect is =
      let all = and-three (has_code command dynamic_bus_control) terminal.accepts may is in
      record { offered = all.0; willing = all.1; items = all.2; error = effect-error (marked registers command false) c command received }

  -- the answer to an offer has no data words
  offer-alone : has_code command dynamic_bus_control ≡ true → answer_data terminal memory command ≡ []
  offer-alone is =
      let sent : List ℕ = filled (word_count command) (sending_on memory (sub_of command)) in
      let none : List ℕ → Type 0 = λ ws. ws ≡ [] in
      either none (has_code command transmit_vector_word) (terminal.vector ∷ [])
      (if has_code command transmit_bit_word then terminal.bit ∷ []
      else if is_mode command || not (is_transmit command) || terminal.busy then [] else sent)
      (λ other. absurd (true≢false (sym is ∙ two-codes command transmit_vector_word (λ same. absurd (omega (arith, same))) other)))
      (λ other. either none (has_code command transmit_bit_word) (terminal.bit ∷ [])
      (if is_mode command || not (is_transmit command) || terminal.busy then [] else sent)
      (λ another. absurd (true≢false (sym is ∙ two-codes command transmit_bit_word (λ same. absurd (omega (arith, same))) another)))
      (λ another. ap (λ (b : Bool). if b || not (is_transmit command) || terminal.busy then [] else sent) (code-mode command dynamic_bus_control is)))

  -- so of a command with its data words
  pub data-owed : Owes (obey_data terminal memory c command received may registers)
  data-owed =
      by-case Owes
      (plain-owes (marked registers command true) [] (λ is. refl) (λ planned ranges. none-sendable))
      (plain-owes (record registers { last = command }) [] (λ is. refl) (λ planned ranges. none-sendable))
      (λ last. plain-owes registers (registers.last ∷ [])
      (λ is. absurd (true≢false (sym is ∙ two-codes command transmit_last_command (λ same. absurd (omega (arith, same))) last)))
      (λ planned ranges. one-sendable registers.last ranges.last))
      (plain-owes (reset registers) [] (λ is. refl) (λ planned ranges. none-sendable))
      (leaves-owes effect (block_taken terminal command received) (accepts terminal command may) (answer_data terminal memory command)
      accepting-effect offer-alone (data-sendable terminal memory command))

  -- nothing is promised
  abbrev NoPromise : Obeyed → Type 0
  NoPromise o = (promised transmitter : ℕ) → o.duty ≡ promises promised transmitter → ⊥

  -- a command with its data words leaves no promise
  pub data-promises : NoPromise (obey_data terminal memory c command received may registers)
  data-promises =
      by-case NoPromise
      (answer-promises terminal (marked registers command true) c command false [])
      (answer-promises terminal (record registers { last = command }) c command false [])
      (λ last. answer-promises terminal registers c command false (registers.last ∷ []))
      (answer-promises terminal (reset registers) c command false [])
      (answer-promises terminal effect c command (accepts terminal command may) (answer_data terminal memory command))

-- ---- by what follows the command

-- what is owed to a command, whatever follows it
pub tail-owed : (terminal : TerminalData) (memory : Memory) (c : Channel) (command : ℕ) (may : Bool) (tail : Tail) (words : List Word) (acceptance : Bool) →
    (obey_tail terminal memory c command may tail).duty ≡ owes words acceptance →
    Owed terminal memory command may (obey_tail terminal memory c command may tail) words acceptance
tail-owed terminal memory c command may unexpected words acceptance is = absurd cc
tail-owed terminal memory c command may (relay_from transmitter) words acceptance is = absurd cc
tail-owed terminal memory c command may (carries received) words acceptance is = data-owed terminal memory c command received may words acceptance is

-- only a relay is promised anything
pub tail-promised : (terminal : TerminalData) (memory : Memory) (c : Channel) (command : ℕ) (may : Bool) (tail : Tail) (promised transmitter : ℕ) →
    (obey_tail terminal memory c command may tail).duty ≡ promises promised transmitter → (promised ≡ command) × (tail ≡ relay_from transmitter)
tail-promised terminal memory c command may unexpected promised transmitter is = absurd cc
tail-promised terminal memory c command may (relay_from from) promised transmitter is = (cc, cc)
tail-promised terminal memory c command may (carries received) promised transmitter is = absurd (data-promises terminal memory c command received may promised transmitter is)
