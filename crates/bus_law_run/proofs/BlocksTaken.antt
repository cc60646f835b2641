-- In a tick of a terminal each of its receive blocks stays, or becomes the block that it takes, whole.
use Rattle.std.proofs.Common.{◌≡◌, inl, inr, ℕ, Bool, true, false, List, [], ◌∷◌, length, get_or, set, Option, Some, None, refl, sym, ap, ◌∙◌, subst}
use Rattle.std.proofs.lemmas.Bool.{cases_eq, cases_lt}
use Rattle.std.proofs.lemmas.List.{get_or-set_same, get_or-set_other, set_past}
use Rattle.std.specs.Prelude.{if◌then◌else◌}
use Rattle.bus_base.specs.declared.samples.Channel.{Channel}
use Rattle.bus_words.specs.Fields.{word_count}
use Rattle.bus_words.specs.declared.word.Word.{Word}
use Rattle.bus_formats.specs.Codes.{transmit_status_word, reset_remote_terminal, transmit_last_command}
use Rattle.bus_formats.specs.Plans.{TerminalData}
use Rattle.bus_formats.specs.declared.log.Registers.{Registers}
use Rattle.bus_model.specs.Commands.{Tail, unexpected, relay_from, carries, tail_of, has_code, is_illegal}
use Rattle.bus_model.specs.Hearing.{Moment, Hearing}
use Rattle.bus_model.specs.Memory.{Memory, TimedLoad, received_on, load_block, load_due, with_loads}
use Rattle.bus_model.specs.Orders.{Duty, free, owes, promises, Taken, Obeyed, marked, mode_effect, reset, answer, accepts, answer_data, block_taken, after_taking, relayed, leaves, carried_out, answered, obey_data, obey_tail, with_error, kept}
use Rattle.bus_model.specs.Standing.{Standing, Handled, obeys, settles, runs_out}
use Rattle.bus_model.specs.Control.{hear_more}
use Rattle.bus_model.specs.Terminal.{after_order, order_now, kept_by, done_by, ordered, standing, standing_after, memory_after, taken_by, took_now}
use Rattle.bus_law_plans.proofs.Lists.{either}
use Rattle.bus_law_run.specs.Blocks.{StaysOrTaken}

-- ---- what an order leaves

-- the receive blocks after it are those before it, with the block that was taken
abbrev Takes : Memory → Obeyed → Type 0
Takes memory o = o.memory.received ≡ (after_taking memory o.taken).received

module _ (terminal : TerminalData) (memory : Memory) (c : Channel) where
  leaves-takes : (registers : Registers) (taken : Option Taken) (duty : Duty) → Takes memory (leaves terminal memory c registers taken duty)
  leaves-takes registers None duty = refl
  leaves-takes registers (Some block) duty = refl

  obey-data : (command : ℕ) (words : List ℕ) (may : Bool) (registers : Registers) → Takes memory (obey_data terminal memory c command words may registers)
  obey-data command words may registers =
      let illegal : Obeyed = answered terminal memory c command (marked registers command true) [] in
      let status : Obeyed = answered terminal memory c command (record registers { last = command }) [] in
      let last : Obeyed = answered terminal memory c command registers (registers.last ∷ []) in
      let resets : Obeyed = answered terminal memory c command (reset registers) [] in
      let done : Obeyed = carried_out terminal memory c command words may (mode_effect (marked registers command false) c command words) in
      let fourth : Obeyed = if has_code command reset_remote_terminal then resets else done in
      let third : Obeyed = if has_code command transmit_last_command then last else fourth in
      let second : Obeyed = if has_code command transmit_status_word then status else third in
      let after : Registers = mode_effect (marked registers command false) c command words in
      either (Takes memory) (is_illegal terminal command) illegal second refl
      (either (Takes memory) (has_code command transmit_status_word) status third refl
      (either (Takes memory) (has_code command transmit_last_command) last fourth refl
      (either (Takes memory) (has_code command reset_remote_terminal) resets done refl
      (leaves-takes after (block_taken terminal command words)
      (answer terminal after c command (accepts terminal command may) (answer_data terminal memory command))))))

  obey-tail : (command : ℕ) (may : Bool) (tail : Tail) → Takes memory (obey_tail terminal memory c command may tail)
  obey-tail command may unexpected = refl
  obey-tail command may (relay_from transmitter) = refl
  obey-tail command may (carries words) = obey-data command words may memory.registers

  kept-takes : (command : ℕ) (words : Option (List ℕ)) → Takes memory (kept terminal memory c command words)
  kept-takes command None = refl
  kept-takes command (Some words) =
      let illegal : Obeyed = answered terminal memory c command (with_error terminal memory c true) [] in
      let taken : Option Taken = block_taken terminal command words in
      let duty : Duty = answer terminal memory.registers c command false [] in
      either (Takes memory) (is_illegal terminal command) illegal (leaves terminal memory c memory.registers taken duty) refl
      (leaves-takes memory.registers taken duty)

  kept-by : (k : ℕ) (duty : Duty) (slots : List (Option Word)) (rest : ℕ) → Takes memory (kept_by k terminal memory c duty slots rest)
  kept-by k free slots rest = refl
  kept-by k (owes words acceptance) slots rest = refl
  kept-by k (promises command transmitter) slots rest = kept-takes command (relayed (word_count command) transmitter slots rest)

done-takes : (k : ℕ) (terminal : TerminalData) (s : Standing) (memory : Memory) (may : Bool) (order : Handled) →
    Takes memory (done_by k terminal s memory may order)
done-takes k terminal s memory may (obeys c end order rest) =
    obey-tail terminal memory c order.command may (tail_of terminal.address order.command order.tail rest)
done-takes k terminal s memory may (settles end slots rest) = kept-by terminal memory s.channel k s.duty slots rest
done-takes k terminal s memory may runs_out = refl

-- ---- one subaddress

stays-or-taken : (memory : Memory) (received : List (List ℕ)) (taken : Option Taken) (sub : ℕ) → received ≡ (after_taking memory taken).received →
    StaysOrTaken taken sub (get_or memory.received sub []) (get_or received sub [])
stays-or-taken memory received None sub is = inl (ap (λ rs. get_or rs sub []) is)
stays-or-taken memory received (Some block) sub is = elim (cases_eq sub block.sub) [
  | inl same ↦ elim (cases_lt block.sub (length memory.received)) [
    | inl within ↦ inr (
      block,
      refl,
      sym same,
      ap (λ rs. get_or rs sub []) is ∙ ap (λ n. get_or (set memory.received block.sub block.words) n []) same
          ∙ get_or-set_same memory.received block.sub block.words [] within,
    )
    | inr beyond ↦ inl (ap (λ rs. get_or rs sub []) (is ∙ set_past memory.received block.sub block.words beyond))
  ]
  | inr other ↦ inl (ap (λ rs. get_or rs sub []) is ∙ get_or-set_other memory.received block.sub sub block.words [] other)
]

-- blocks that are put up for sending change none that was received
load-leaves : (b : Bool) (memory : Memory) (sub : ℕ) (words : List ℕ) →
    (if b then load_block memory sub words else memory).received ≡ memory.received
load-leaves true memory sub words = refl
load-leaves false memory sub words = refl

pub loads-leave : (address now : ℕ) (loads : List TimedLoad) (memory : Memory) → (with_loads address now loads memory).received ≡ memory.received
loads-leave address now [] memory = refl
loads-leave address now (load ∷ loads) memory =
    loads-leave address now loads (if load_due address now load then load_block memory load.sub load.words else memory)
    ∙ load-leaves (load_due address now load) memory load.sub load.words

-- ---- a tick

module _ (k : ℕ) (terminal : TerminalData) (loads : List TimedLoad) where
  order-memory : (s : Standing) (order : Handled) (o : Obeyed) → (after_order s order o).memory ≡ o.memory
  order-memory s (obeys c end order rest) o = refl
  order-memory s (settles end slots rest) o = refl
  order-memory s runs_out o = refl

  ordered-blocks : (tick : ℕ) (may : Bool) (s : Standing) (order : Option Handled) (sub : ℕ) →
      StaysOrTaken (taken_by k terminal loads tick may s order) sub (received_on s.memory sub)
      (received_on (ordered k terminal loads tick may s order).memory sub)
  ordered-blocks tick may s None sub = inl refl
  ordered-blocks tick may s (Some order) sub =
      let memory : Memory = with_loads terminal.address tick loads s.memory in
      let done : Obeyed = done_by k terminal s memory may order in
      subst (λ rs. StaysOrTaken done.taken sub (get_or rs sub []) (received_on (after_order s order done).memory sub)) (loads-leave terminal.address tick loads s.memory)
      (subst (λ (m : Memory). StaysOrTaken done.taken sub (received_on memory sub) (received_on m sub)) (sym (order-memory s order done))
      (stays-or-taken memory done.memory.received done.taken sub (done-takes k terminal s memory may order)))

  pub terminal-blocks : (hearing : Hearing) (now : Moment) (sub : ℕ) →
      StaysOrTaken (took_now k terminal loads (hear_more hearing now)) sub (received_on (memory_after k terminal loads hearing) sub)
      (received_on (memory_after k terminal loads (hear_more hearing now)) sub)
  unfolding standing
  terminal-blocks hearing now sub =
      let s : Standing = standing_after k terminal loads hearing in
      let later : Standing = standing_after k terminal loads (hear_more hearing now) in
      let taken : Option Taken = took_now k terminal loads (hear_more hearing now) in
      subst (λ rs. StaysOrTaken taken sub (get_or rs sub []) (received_on (memory_after k terminal loads (hear_more hearing now)) sub))
      (sym (loads-leave terminal.address (length hearing.ticks) loads s.memory))
      (subst (λ rs. StaysOrTaken taken sub (received_on s.memory sub) (get_or rs sub []))
      (sym (loads-leave terminal.address (length (now ∷ hearing.ticks)) loads later.memory))
      (ordered-blocks (length hearing.ticks) now.has_items s (order_now k terminal (now ∷ hearing.ticks) s) sub))
