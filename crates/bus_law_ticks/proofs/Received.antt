-- What a terminal does of an order changes one receive block at most: that of the block that it took.
use Rattle.std.proofs.Common.{◌≡◌, ℕ, ◌<◌, Bool, false, ◌||◌, List, [], ◌∷◌, length, Option, Some, None, refl, ap, ◌∙◌, subst, arith}
use Rattle.std.proofs.lemmas.Bool.Decides.{nat_tests}
use Rattle.std.proofs.lemmas.List.{length-set}
use Rattle.std.proofs.lemmas.Option.{none-some, same_Some}
use Rattle.bus_base.specs.declared.samples.Channel.{Channel}
use Rattle.bus_words.specs.Fields.{is_transmit, sub_of, is_broadcast, is_mode, word_count}
use Rattle.bus_words.specs.declared.word.Word.{Word}
use Rattle.bus_formats.specs.Codes.{transmit_status_word, transmit_last_command, reset_remote_terminal}
use Rattle.bus_formats.specs.Plans.{TerminalData}
use Rattle.bus_formats.specs.declared.log.Registers.{Registers}
use Rattle.bus_model.specs.Commands.{Tail, unexpected, relay_from, carries, tail_of, has_code, is_illegal}
use Rattle.bus_model.specs.Memory.{Memory, TimedLoad, with_block, with_loads, load_block, load_due}
use Rattle.bus_model.specs.Orders.{Duty, free, owes, promises, Taken, Obeyed, block_taken, leaves, obey_data, obey_tail, obey, unkept, kept, relayed}
use Rattle.bus_model.specs.Hearing.{Moment}
use Rattle.bus_model.specs.Standing.{Standing, Handled, obeys, settles, runs_out}
use Rattle.bus_model.specs.Terminal.{after_order, kept_by, done_in, ordered, taken_by, standing, order_now, took_now}
use Rattle.bus_law_ticks.proofs.Choices.{by-test}

-- the receive blocks after a block was taken, or none
abbrev pub with_taken : List (List ℕ) → Option Taken → List (List ℕ)
with_taken blocks None = blocks
with_taken blocks (Some taken) = with_block blocks taken.sub taken.words

-- what an order leaves of the receive blocks; a block that is taken is for a subaddress below 31
pub record Keeps (blocks : List (List ℕ)) (o : Obeyed) : Type 0 where
  pub received : o.memory.received ≡ with_taken blocks o.taken
  pub few : (taken : Taken) → o.taken ≡ Some taken → taken.sub < 31

-- the block of a command that isn't a mode command
sub-few : (command : ℕ) → is_mode command ≡ false → sub_of command < 31
sub-few command no_mode =
    let low : sub_of command < 32 = omega arith in
    grind (arith, nat_tests, no_mode, low)

block-few : (terminal : TerminalData) (command : ℕ) (words : List ℕ) (taken : Taken) → block_taken terminal command words ≡ Some taken → taken.sub < 31
block-few terminal command words taken h =
    by-test (λ (o : Option Taken). o ≡ Some taken → taken.sub < 31) (is_mode command || is_transmit command || terminal.busy) None
    (Some record { sub = sub_of command; broadcast = is_broadcast command; words = words })
    (λ _ none. absurd (none-some taken none))
    (λ off is. subst (λ (t : Taken). t.sub < 31) (same_Some _ _ is) (sub-few command (grind (arith, off)))) h

module _ (terminal : TerminalData) (memory : Memory) (channel : Channel) where
  leaves-keeps : (registers : Registers) (taken : Option Taken) (duty : Duty) → ((t : Taken) → taken ≡ Some t → t.sub < 31) →
      Keeps memory.received (leaves terminal memory channel registers taken duty)
  leaves-keeps registers None duty few = record { received = refl; few = few }
  leaves-keeps registers (Some taken) duty few = record { received = refl; few = few }

  none-keeps : (registers : Registers) (duty : Duty) → Keeps memory.received (leaves terminal memory channel registers None duty)
  none-keeps registers duty = leaves-keeps registers None duty (λ t none. absurd (none-some t none))

  data-keeps : (command : ℕ) (words : List ℕ) (may : Bool) (registers : Registers) →
      Keeps memory.received (obey_data terminal memory channel command words may registers)
  data-keeps command words may registers =
      by-test (Keeps memory.received) (is_illegal terminal command) _ _ (λ _. none-keeps _ _)
      (λ _. by-test (Keeps memory.received) (has_code command transmit_status_word) _ _ (λ _. none-keeps _ _)
      (λ _. by-test (Keeps memory.received) (has_code command transmit_last_command) _ _ (λ _. none-keeps _ _)
      (λ _. by-test (Keeps memory.received) (has_code command reset_remote_terminal) _ _ (λ _. none-keeps _ _)
      (λ _. leaves-keeps _ (block_taken terminal command words) _ (block-few terminal command words)))))

  tail-keeps : (command : ℕ) (may : Bool) (tail : Tail) → Keeps memory.received (obey_tail terminal memory channel command may tail)
  tail-keeps command may unexpected = none-keeps _ _
  tail-keeps command may (relay_from transmitter) = none-keeps _ _
  tail-keeps command may (carries words) = data-keeps command words may memory.registers

  unkept-keeps : Keeps memory.received (unkept terminal memory channel)
  unkept-keeps = none-keeps _ _

  kept-keeps : (command : ℕ) (words : Option (List ℕ)) → Keeps memory.received (kept terminal memory channel command words)
  kept-keeps command None = unkept-keeps
  kept-keeps command (Some words) =
      by-test (Keeps memory.received) (is_illegal terminal command) _ _ (λ _. none-keeps _ _)
      (λ _. leaves-keeps _ (block_taken terminal command words) _ (block-few terminal command words))

  promise-keeps : (k : ℕ) (d : Duty) (slots : List (Option Word)) (rest : ℕ) →
      Keeps memory.received (kept_by k terminal memory channel d slots rest)
  promise-keeps k free slots rest = unkept-keeps
  promise-keeps k (owes words acceptance) slots rest = unkept-keeps
  promise-keeps k (promises command transmitter) slots rest = kept-keeps command (relayed (word_count command) transmitter slots rest)

-- loads change no receive block
pub loads-keep : (address now : ℕ) (loads : List TimedLoad) (memory : Memory) → (with_loads address now loads memory).received ≡ memory.received
loads-keep address now [] memory = refl
loads-keep address now (load ∷ loads) memory =
    by-test (λ (m : Memory). (with_loads address now loads m).received ≡ memory.received) (load_due address now load) _ _
    (λ _. loads-keep address now loads (load_block memory load.sub load.words)) (λ _. loads-keep address now loads memory)

module _ (k : ℕ) (terminal : TerminalData) (loads : List TimedLoad) where
  done-keeps : (tick : ℕ) (may : Bool) (s : Standing) (order : Handled) → Keeps s.memory.received (done_in k terminal loads tick may s order)
  done-keeps tick may s (obeys c end order rest) =
      let memory : Memory = with_loads terminal.address tick loads s.memory in
      subst (λ (blocks : List (List ℕ)). Keeps blocks (obey terminal memory c order.command order.tail rest may)) (loads-keep terminal.address tick loads s.memory)
      (tail-keeps terminal memory c order.command may (tail_of terminal.address order.command order.tail rest))
  done-keeps tick may s (settles end slots rest) =
      let memory : Memory = with_loads terminal.address tick loads s.memory in
      subst (λ (blocks : List (List ℕ)). Keeps blocks (done_in k terminal loads tick may s (settles end slots rest)))
      (loads-keep terminal.address tick loads s.memory) (promise-keeps terminal memory s.channel k s.duty slots rest)
  done-keeps tick may s runs_out =
      let memory : Memory = with_loads terminal.address tick loads s.memory in
      subst (λ (blocks : List (List ℕ)). Keeps blocks (unkept terminal memory s.channel)) (loads-keep terminal.address tick loads s.memory)
      (unkept-keeps terminal memory s.channel)

  order-memory : (s : Standing) (order : Handled) (o : Obeyed) → (after_order s order o).memory ≡ o.memory
  order-memory s (obeys c end order rest) o = refl
  order-memory s (settles end slots rest) o = refl
  order-memory s runs_out o = refl

  -- what a tick leaves of the receive blocks
  handled-keeps : (tick : ℕ) (may : Bool) (s : Standing) (order : Option Handled) →
      ((ordered k terminal loads tick may s order).memory.received ≡ with_taken s.memory.received (taken_by k terminal loads tick may s order))
      × ((taken : Taken) → taken_by k terminal loads tick may s order ≡ Some taken → taken.sub < 31)
  handled-keeps tick may s None = (refl, λ taken none. absurd (none-some taken none))
  handled-keeps tick may s (Some order) =
      let done = done-keeps tick may s order in
      (ap (λ (m : Memory). m.received) (order-memory s order (done_in k terminal loads tick may s order)) ∙ done.received, done.few)

  -- the receive blocks after a tick
  pub tick-received : (memory : Memory) (now : Moment) (past : List Moment) →
      (standing k terminal loads memory (now ∷ past)).memory.received
      ≡ with_taken (standing k terminal loads memory past).memory.received (took_now k terminal loads record { memory = memory; ticks = now ∷ past })
  unfolding standing
  tick-received memory now past =
      let s : Standing = standing k terminal loads memory past in
      (handled-keeps (length past) now.has_items s (order_now k terminal (now ∷ past) s)).0

  -- a block that is taken is for a subaddress that a terminal has
  pub taken-few : (memory : Memory) (now : Moment) (past : List Moment) (taken : Taken) →
      took_now k terminal loads record { memory = memory; ticks = now ∷ past } ≡ Some taken → taken.sub < 31
  taken-few memory now past taken =
      let s : Standing = standing k terminal loads memory past in
      (handled-keeps (length past) now.has_items s (order_now k terminal (now ∷ past) s)).1 taken

  -- there are as many blocks as before
  with-taken-long : (blocks : List (List ℕ)) (taken : Option Taken) → length (with_taken blocks taken) ≡ length blocks
  with-taken-long blocks None = refl
  with-taken-long blocks (Some taken) = length-set blocks taken.sub taken.words

  pub received-long : (memory : Memory) (ticks : List Moment) → length (standing k terminal loads memory ticks).memory.received ≡ length memory.received
  unfolding standing
  received-long memory [] = refl
  received-long memory (now ∷ past) =
      ap length (tick-received memory now past)
      ∙ with-taken-long (standing k terminal loads memory past).memory.received (took_now k terminal loads record { memory = memory; ticks = now ∷ past })
      ∙ received-long memory past
