-- What a terminal owes to the burst that it promised to take.
use Rattle.std.proofs.Common.{◌≡◌, ℕ, Bool, true, false, List, [], Option, Some, None, sym, ap, ◌∙◌}
use Rattle.bus_base.specs.declared.samples.Channel.{Channel}
use Rattle.bus_words.specs.Fields.{is_broadcast}
use Rattle.bus_words.specs.declared.word.Word.{Word}
use Rattle.bus_formats.specs.Plans.{TerminalData}
use Rattle.bus_model.specs.Commands.{is_illegal}
use Rattle.bus_model.specs.Memory.{Memory, status_of}
use Rattle.bus_model.specs.Orders.{owes, promises, Obeyed, answer, block_taken, leaves, answered, with_error, kept}
use Rattle.bus_law_duties.specs.Words.{with_data}
use Rattle.bus_law_duties.proofs.Owed.{either, kept-registers, owing, answer-promises}
use Rattle.bus_law_duties.proofs.Owes.{free-owes}
use Rattle.bus_law_duties.proofs.Promised.{free-promises}

-- its status alone, which accepts nothing, unless it was broadcast
pub record OwesStatus (terminal : TerminalData) (command : ℕ) (o : Obeyed) (words : List Word) (acceptance : Bool) : Type 0 where
  pub words_are : words ≡ with_data (status_of terminal o.memory.registers false) []
  pub acceptance_is : acceptance ≡ false
  pub one : is_broadcast command ≡ false

module _ (terminal : TerminalData) (memory : Memory) (c : Channel) (command : ℕ) where
  -- what is owed is such a status
  abbrev Owes : Obeyed → Type 0
  Owes o = (words : List Word) (acceptance : Bool) → o.duty ≡ owes words acceptance → OwesStatus terminal command o words acceptance

  -- nothing is promised
  abbrev NoPromise : Obeyed → Type 0
  NoPromise o = (promised transmitter : ℕ) → o.duty ≡ promises promised transmitter → ⊥

  -- a command that is illegal is refused
  abbrev refused : Obeyed
  refused = answered terminal memory c command (with_error terminal memory c true) []

  -- a block that was awaited is taken
  abbrev done : List ℕ → Obeyed
  done words = leaves terminal memory c memory.registers (block_taken terminal command words) (answer terminal memory.registers c command false [])

  -- to a refused one its status is owed
  refused-owes : Owes refused
  refused-owes words acceptance is =
      let found = owing terminal (with_error terminal memory c true) c command false [] words acceptance is in
      record { words_are = found.words_are; acceptance_is = found.acceptance_is; one = found.one }

  -- and to one that is carried out
  done-owes : (block : List ℕ) → Owes (done block)
  done-owes block words acceptance is =
      let found = owing terminal memory.registers c command false [] words acceptance is in
      let same = kept-registers (record memory { registers = memory.registers }) (block_taken terminal command block) in
      record {
        words_are = found.words_are ∙ ap (λ q. with_data (status_of terminal q false) []) (sym same);
        acceptance_is = found.acceptance_is;
        one = found.one;
      }

  -- whatever came, nothing else is owed
  pub kept-owes : (block : Option (List ℕ)) → Owes (kept terminal memory c command block)
  kept-owes None words acceptance = λ is. absurd (free-owes words acceptance is)
  kept-owes (Some block) words acceptance =
      either Owes (is_illegal terminal command) refused (done block) (λ is. refused-owes) (λ is. done-owes block) words acceptance

  -- and nothing is promised
  pub kept-promises : (block : Option (List ℕ)) → NoPromise (kept terminal memory c command block)
  kept-promises None promised transmitter = free-promises promised transmitter
  kept-promises (Some block) promised transmitter =
      either NoPromise (is_illegal terminal command) refused (done block)
      (λ is. answer-promises terminal (with_error terminal memory c true) c command false [])
      (λ is. answer-promises terminal memory.registers c command false []) promised transmitter
