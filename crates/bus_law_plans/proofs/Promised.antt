-- What a terminal promises by a command: to take the answer of a relay's transmitter.
use Rattle.std.proofs.Common.{◌≡◌, ℕ, Bool, true, false, List, [], ◌∷◌, Option, refl}
use Rattle.std.specs.Prelude.{◌||◌}
use Rattle.bus_base.specs.declared.samples.Channel.{Channel}
use Rattle.bus_words.specs.Fields.{is_broadcast}
use Rattle.bus_words.specs.declared.word.Word.{Word}
use Rattle.bus_formats.specs.Codes.{transmit_status_word, reset_remote_terminal, transmit_last_command}
use Rattle.bus_formats.specs.Plans.{TerminalData}
use Rattle.bus_formats.specs.declared.log.Registers.{Registers}
use Rattle.bus_model.specs.Commands.{Tail, unexpected, relay_from, carries, tail_of, has_code, is_illegal}
use Rattle.bus_model.specs.Memory.{Memory, is_off}
use Rattle.bus_model.specs.Orders.{Duty, free, promises, Obeyed, answer, answer_data, accepts, mode_effect, reset, marked, obey_data, obey_tail, obey}
use Rattle.bus_law_plans.proofs.Lists.{either}

-- what holds of what is promised: by which command, and to whom
abbrev pub Promise : (ℕ → ℕ → Type 0) → Duty → Type 0
Promise P (promises command transmitter) = P command transmitter
Promise P _ = Unit {0}

module _ (P : ℕ → ℕ → Type 0) (terminal : TerminalData) (memory : Memory) (c : Channel) (command : ℕ) (may : Bool) where
  abbrev So : Obeyed → Type 0
  So o = Promise P o.duty

  -- an answer promises nothing
  pub answer-promises : (registers : Registers) (acceptance : Bool) (words : List ℕ) → Promise P (answer terminal registers c command acceptance words)
  answer-promises registers acceptance words = either (Promise P) (is_broadcast command || is_off registers c) free _ tt tt

  data-promises : (words : List ℕ) (registers : Registers) → So (obey_data terminal memory c command words may registers)
  data-promises words registers =
      either So (is_illegal terminal command) _ _ (answer-promises (marked registers command true) false [])
      (either So (has_code command transmit_status_word) _ _ (answer-promises (record registers { last = command }) false [])
      (either So (has_code command transmit_last_command) _ _ (answer-promises registers false (registers.last ∷ []))
      (either So (has_code command reset_remote_terminal) _ _ (answer-promises (reset registers) false [])
      (answer-promises (mode_effect (marked registers command false) c command words) (accepts terminal command may) (answer_data terminal memory command)))))

  tail-promises : (tail : Tail) → ((transmitter : ℕ) → tail ≡ relay_from transmitter → P command transmitter) → So (obey_tail terminal memory c command may tail)
  tail-promises unexpected h = tt
  tail-promises (relay_from transmitter) h = h transmitter refl
  tail-promises (carries words) h = data-promises words memory.registers

  -- a promise is that of a relay's receiver
  pub obeyed-promises : (slots : List (Option Word)) (rest : ℕ) →
      ((transmitter : ℕ) → tail_of terminal.address command slots rest ≡ relay_from transmitter → P command transmitter) →
      So (obey terminal memory c command slots rest may)
  obeyed-promises slots rest h = tail-promises (tail_of terminal.address command slots rest) h
