-- What a station answers to a command that was sent whole, and when.
use Rattle.std.proofs.Common.{◌≡◌, ◌≢◌, ◌⊎◌, inl, inr, ℕ, zero, suc, ◌+◌, ◌/◌, ◌%◌, ◌≤◌, List, [], ◌∷◌, ◌++◌, take, length, refl, ap, sym, subst, ◌∙◌, arith, append-nil}
use Rattle.std.proofs.lemmas.Bool.{true≢false}
use Rattle.std.proofs.lemmas.Bool.Decides.{nat_tests}
use Rattle.std.proofs.lemmas.Option.{none-some}
use Rattle.std.specs.Option.{option_or}
use Rattle.std.specs.Prelude.{Bool, true, false, not, ◌&&◌, ◌==◌, if◌then◌else◌, Option, Some, None, option_to_list}
use Rattle.bus_base.specs.declared.samples.Channel.{Channel}
use Rattle.bus_base.specs.declared.samples.Part.TheVariants.{First}
use Rattle.bus_words.specs.Fields.{command_bits, is_broadcast, is_clean, is_mode, is_transmit, field_of, word_count}
use Rattle.bus_words.specs.declared.status.Flags.{Flags}
use Rattle.bus_words.specs.declared.word.Word.{Word}
use Rattle.bus_words.proofs.FlagBits.{status_bits_of}
use Rattle.bus_formats.specs.Accepted.{HasKindRanges, HasReceiveRanges, HasTransmitRanges, HasModeRanges}
use Rattle.bus_formats.specs.Forms.{command_word, command_words, answer_of, mode_count}
use Rattle.bus_formats.specs.Codes.{carried}
use Rattle.bus_formats.specs.Plans.{TerminalData, ItemData}
use Rattle.bus_formats.specs.Readings.{read_shape, read_answer}
use Rattle.bus_formats.specs.declared.form.Shape.{Shape}
use Rattle.bus_formats.specs.declared.log.Registers.{Registers}
use Rattle.bus_formats.specs.declared.plan.Kind.{Kind}
use Rattle.bus_formats.specs.declared.plan.Kind.TheVariants.{Receive, Transmit, Relay, Mode}
use Rattle.bus_model.specs.Commands.{tail_of, relay_from}
use Rattle.bus_model.specs.Memory.{Memory, TimedLoad, status_of}
use Rattle.bus_model.specs.Message.{Present, address_of_station, After, memory_at, command_burst}
use Rattle.bus_model.specs.Orders.{owes, Order, order_with, last_order, is_for, obey_tail}
use Rattle.bus_model.specs.Starts.{has_items}
use Rattle.bus_model.specs.Strikes.{spoiled, own_struck, struck}
use Rattle.bus_law_duties.specs.Words.{whole_slots, with_data, AreLeftOf}
use Rattle.bus_law_duties.proofs.Fields.{skips, own-one, own-terminal, for-own, address-is, sub-is, field-is, transmit-is, plain-mode}
use Rattle.bus_law_duties.proofs.Found.{same-tail, AtFirst, AtSecond, one-found, relay-found}
use Rattle.bus_law_duties.proofs.Obeys.{after, obeyed}
use Rattle.bus_law_duties.proofs.Owes.{OwesTo, owes-to}
use Rattle.bus_law_duties.proofs.Relayed.{first, second, second-not-mode, second-transmits, from-is, not-31, is-relayed}
use Rattle.bus_law_duties.proofs.Status.{status-address}
use Rattle.bus_law_duties.proofs.Struck.{struck-left}
use Rattle.bus_law_plans.proofs.Orders.{count-is, mode-is}
use Rattle.bus_law_clean.proofs.AnswerRead.{IsDue, IsStatus, shown}
use Rattle.bus_law_clean.proofs.AnswerSorts.{IsSort, OwesSorted, tail-sorted, Says, says-so, data-due, promises-owes}
use Rattle.bus_law_clean.proofs.AnswerDue.{read-due}

-- ---- nothing is struck

spoiled-whole : (n : ℕ) (words : List Word) → spoiled [] n words ≡ whole_slots words
spoiled-whole n [] = refl
spoiled-whole n (word ∷ words) = ap (λ xs. Some word ∷ xs) (spoiled-whole (n + 1) words)

nothing-added : (n : ℕ) (slots : List (Option Word)) → slots ++ take n [] ≡ slots
nothing-added n slots = ap (λ xs. slots ++ xs) (none n) ∙ append-nil slots
  where
    none : (m : ℕ) → take {A = Option Word} m [] ≡ []
    none zero = refl
    none (suc m) = refl

-- words that no hit strikes are shown whole
pub struck-none : (words : List Word) → struck [] words ≡ whole_slots words
struck-none words =
    nothing-added _ (own_struck [] words) ∙ spoiled-whole 0 words

-- ---- the status of a terminal

clean-test : (status : ℕ) → status / 512 % 2 ≡ 0 → status / 32 % 8 ≡ 0 → is_clean status ≡ true
clean-test status instrumentation reserved = grind (arith, nat_tests, instrumentation, reserved)

pub is-status : (terminal : TerminalData) (r : Registers) (acceptance : Bool) → terminal.address ≤ 31 → IsStatus terminal.address (status_of terminal r acceptance)
is-status terminal r acceptance low =
    let flags : Flags = record {
      message_error = r.message_error;
      service = terminal.service;
      broadcast = r.broadcast;
      busy = terminal.busy;
      subsystem = terminal.subsystem_flag;
      acceptance = acceptance;
      terminal = terminal.terminal_flag && not r.inhibited;
    } in
    let bits = status_bits_of terminal.address flags in
    record {
      address_is = (status-address terminal r acceptance low).1;
      clean = clean-test (status_of terminal r acceptance) bits.instrumentation bits.reserved;
    }

-- ---- by the kind of the message

pub shape-one : (to count : ℕ) → to ≢ 31 → answer_of to count ≡ Some record { address = to; count = count }
shape-one to count one =
    let test : (to == 31) ≡ false = grind (arith, nat_tests, one) in
    skips {X = Option Shape} (to == 31) None (Some record { address = to; count = count }) test

alone-found : (own bits : ℕ) → is_for own bits ≡ true → last_order own (Some (command_word bits) ∷ []) ≡ Some (record { command = bits; tail = [] })
alone-found own bits is = ap (λ (b : Bool). option_or None (order_with (if b then Some bits else None) [])) is

-- what is known of a terminal that owes data words to a command, with its status
record Owing (terminal : TerminalData) (own : ℕ) (order : Order) (number : ℕ) (words : List ℕ) : Type 0 where
  memory : Memory
  r : Registers
  status : IsStatus own number
  says : Says terminal r number
  one : is_broadcast order.command ≡ false
  sort : IsSort terminal memory order.command r words

module _ (terminal : TerminalData) (own : ℕ) (order : Order) (number : ℕ) (words : List ℕ) (o : Owing terminal own order number words) where
  receive-due : (to sub : ℕ) (sent : List ℕ) → HasReceiveRanges to sub (length sent) →
      last_order own (whole_slots (command_words (Receive to sub sent))) ≡ Some order → AreLeftOf (command_words (Receive to sub sent)) (whole_slots (command_words (Receive to sub sent))) →
      IsDue (read_answer (Receive to sub sent) First (shown number words) 0)
  receive-due to sub sent ranges found left =
      let n : ℕ = length sent % 32 in
      let bits : ℕ = command_bits to false sub n in
      let low : sub ≤ 31 = omega (arith, ranges.subaddress) in
      let few : n ≤ 31 = omega arith in
      let at : AtFirst own bits (whole_slots (command_words (Receive to sub sent))) order =
      (one-found own bits sent (whole_slots (command_words (Receive to sub sent))) order left found).0 in
      let same : own ≡ to =
      sym (own-one own bits at.is (ap is_broadcast (sym at.command) ∙ o.one)) ∙ address-is to sub n false low few in
      let plain : is_mode bits ≡ false = plain-mode bits sub (sub-is to sub n false low few) ranges.subaddress.0 ranges.subaddress.1 in
      let shape : Shape = record { address = to; count = 0 } in
      subst (λ s. IsDue (read_shape First (Receive to sub sent) s (shown number words) 0))
      (sym (shape-one to 0 (λ all. own-terminal own bits at.is (same ∙ all))))
      (data-due First shape terminal o.memory order.command o.r number (subst (λ a. IsStatus a number) same o.status) o.says
      (ap is_mode at.command ∙ plain) (λ down. refl)
      (λ up. absurd (true≢false (sym up ∙ ap is_transmit at.command ∙ transmit-is to sub n false low few))) words o.sort)

  transmit-due : (from sub count : ℕ) → HasTransmitRanges from sub count →
      last_order own (whole_slots (command_words (Transmit from sub count))) ≡ Some order → AreLeftOf (command_words (Transmit from sub count)) (whole_slots (command_words (Transmit from sub count))) →
      IsDue (read_answer (Transmit from sub count) First (shown number words) 0)
  transmit-due from sub count ranges found left =
      let n : ℕ = count % 32 in
      let bits : ℕ = command_bits from true sub n in
      let low : sub ≤ 31 = omega (arith, ranges.subaddress) in
      let few : n ≤ 31 = omega arith in
      let at : AtFirst own bits (whole_slots (command_words (Transmit from sub count))) order =
      (one-found own bits [] (whole_slots (command_words (Transmit from sub count))) order left found).0 in
      let same : own ≡ from =
      sym (own-one own bits at.is (ap is_broadcast (sym at.command) ∙ o.one)) ∙ address-is from sub n true low few in
      let plain : is_mode bits ≡ false = plain-mode bits sub (sub-is from sub n true low few) ranges.subaddress.0 ranges.subaddress.1 in
      let shape : Shape = record { address = from; count = count } in
      subst (λ s. IsDue (read_shape First (Transmit from sub count) s (shown number words) 0))
      (sym (shape-one from count (λ all. own-terminal own bits at.is (same ∙ all))))
      (data-due First shape terminal o.memory order.command o.r number (subst (λ a. IsStatus a number) same o.status) o.says
      (ap is_mode at.command ∙ plain)
      (λ down. absurd (true≢false (sym (ap is_transmit at.command ∙ transmit-is from sub n true low few) ∙ down)))
      (λ up. sym (ap word_count at.command ∙ count-is bits count (field-is from sub n true few) ranges.words.0 ranges.words.1)) words o.sort)

  mode-answer-due : (to mode_sub code : ℕ) (transmit : Bool) (word : Option ℕ) → HasModeRanges to mode_sub code →
      last_order own (whole_slots (command_words (Mode to mode_sub transmit code word))) ≡ Some order →
      AreLeftOf (command_words (Mode to mode_sub transmit code word)) (whole_slots (command_words (Mode to mode_sub transmit code word))) →
      IsDue (read_answer (Mode to mode_sub transmit code word) First (shown number words) 0)
  mode-answer-due to mode_sub code transmit word ranges found left =
      let kind : Kind = Mode to mode_sub transmit code word in
      let bits : ℕ = command_bits to transmit mode_sub code in
      let low : mode_sub ≤ 31 = omega (arith, ranges.subaddress) in
      let at : AtFirst own bits (whole_slots (command_words kind)) order =
      (one-found own bits (option_to_list word) (whole_slots (command_words kind)) order left found).0 in
      let same : own ≡ to =
      sym (own-one own bits at.is (ap is_broadcast (sym at.command) ∙ o.one)) ∙ address-is to mode_sub code transmit low ranges.mode in
      subst (λ s. IsDue (read_shape First kind s (shown number words) 0))
      (sym (shape-one to (mode_count (carried transmit code)) (λ all. own-terminal own bits at.is (same ∙ all))))
      (read-due terminal o.memory order.command o.r number to mode_sub code transmit word
      (ap is_mode at.command ∙ mode-is bits mode_sub (sub-is to mode_sub code transmit low ranges.mode) ranges.subaddress)
      (ap is_transmit at.command ∙ transmit-is to mode_sub code transmit low ranges.mode)
      (ap field_of at.command ∙ field-is to mode_sub code transmit ranges.mode)
      (subst (λ a. IsStatus a number) same o.status) o.says words o.sort)

  module _ (from from_sub to to_sub count : ℕ) (ranges : HasKindRanges (Relay from from_sub to to_sub count)) (memory : Memory) (c : Channel) (may : Bool)
      (owed : List Word) (acceptance : Bool)
      (owes-so : (obey_tail terminal memory c order.command may (tail_of own order.command order.tail 0)).duty ≡ owes owed acceptance) where
    abbrev one : ℕ
    one = first from from_sub to to_sub count ranges

    abbrev two : ℕ
    two = second from from_sub to to_sub count ranges

    by-place : (AtFirst own one (Some (command_word one) ∷ Some (command_word two) ∷ []) order × AreLeftOf (with_data two []) order.tail)
        ⊎ (AtSecond own two (Some (command_word one) ∷ Some (command_word two) ∷ []) order × AreLeftOf [] order.tail) →
        IsDue (read_answer (Relay from from_sub to to_sub count) First (shown number words) 0)
    by-place (inl at) =
        let tail : Some (command_word two) ∷ [] ≡ order.tail =
        same-tail (Some (command_word one)) (Some (command_word one)) (Some (command_word two) ∷ []) order.tail at.0.shown in
        let apart : own ≢ from = λ same. none-some record { command = two; tail = [] } (sym at.0.last ∙ ap (last_order own) (sym tail)
        ∙ alone-found own two (for-own own two (own-terminal own one at.0.is) (inl (from-is from from_sub to to_sub count ranges ∙ sym same)))) in
        let relayed : tail_of own order.command order.tail 0 ≡ relay_from from =
        ap (λ b. tail_of own b order.tail 0) at.0.command ∙ ap (λ t. tail_of own one t 0) (sym tail) ∙ is-relayed from from_sub to to_sub count ranges own apart in
        absurd (promises-owes order.command from owed acceptance
        (sym (ap (λ t. (obey_tail terminal memory c order.command may t).duty) relayed) ∙ owes-so))
    by-place (inr at) =
        let low : from_sub ≤ 31 = omega (arith, ranges.0.subaddress) in
        let few : count % 32 ≤ 31 = omega arith in
        let same : own ≡ from =
        sym (own-one own two at.0.is (ap is_broadcast (sym at.0.command) ∙ o.one)) ∙ from-is from from_sub to to_sub count ranges in
        let shape : Shape = record { address = from; count = count } in
        subst (λ s. IsDue (read_shape First (Relay from from_sub to to_sub count) s (shown number words) 0))
        (sym (shape-one from count (not-31 from from_sub to to_sub count ranges)))
        (data-due First shape terminal o.memory order.command o.r number (subst (λ a. IsStatus a number) same o.status) o.says
        (ap is_mode at.0.command ∙ second-not-mode from from_sub to to_sub count ranges)
        (λ down. absurd (true≢false (sym (ap is_transmit at.0.command ∙ second-transmits from from_sub to to_sub count ranges) ∙ down)))
        (λ up. sym (ap word_count at.0.command ∙ count-is two count (field-is from from_sub (count % 32) true few) ranges.0.words.0 ranges.0.words.1)) words o.sort)

    -- a relay's transmitter alone answers its two commands
    relay-due : last_order own (whole_slots (command_words (Relay from from_sub to to_sub count))) ≡ Some order →
        AreLeftOf (command_words (Relay from from_sub to to_sub count)) (whole_slots (command_words (Relay from from_sub to to_sub count))) →
        IsDue (read_answer (Relay from from_sub to to_sub count) First (shown number words) 0)
    relay-due found left =
        by-place (relay-found own one two (whole_slots (command_words (Relay from from_sub to to_sub count))) order left found)

  -- so of each kind
  kind-due : (kind : Kind) → HasKindRanges kind → (memory : Memory) (c : Channel) (may : Bool) (owed : List Word) (acceptance : Bool) →
      last_order own (whole_slots (command_words kind)) ≡ Some order → AreLeftOf (command_words kind) (whole_slots (command_words kind)) →
      (obey_tail terminal memory c order.command may (tail_of own order.command order.tail 0)).duty ≡ owes owed acceptance →
      IsDue (read_answer kind First (shown number words) 0)
  kind-due (Receive to sub sent) ranges memory c may owed acceptance found left owes-so = receive-due to sub sent ranges found left
  kind-due (Transmit from sub count) ranges memory c may owed acceptance found left owes-so = transmit-due from sub count ranges found left
  kind-due (Relay from from_sub to to_sub count) ranges memory c may owed acceptance found left owes-so =
      relay-due from from_sub to to_sub count ranges memory c may owed acceptance owes-so found left
  kind-due (Mode to mode_sub transmit code word) ranges memory c may owed acceptance found left owes-so =
      mode-answer-due to mode_sub code transmit word ranges found left

-- ---- a station

module _ (k : ℕ) (loads : List TimedLoad) (c : Channel) (start : ℕ) (item : ItemData) (station : Present) (low : address_of_station station ≤ 31)
    (ranges : HasKindRanges item.kind) where
  -- what a station owes to a command that was sent whole is due
  pub station-due : (words : List Word) (acceptance : Bool) → (after k loads c start [] item station).duty ≡ owes words acceptance →
      IsDue (read_answer item.kind First (whole_slots words) 0)
  station-due words acceptance is =
      let own : ℕ = address_of_station station in
      let to : OwesTo k loads c start [] item station words acceptance = owes-to k loads c start [] item station words acceptance is in
      let memory : Memory = memory_at k loads (command_burst c start [] item) station in
      let owes-so : (obeyed k loads c start [] item station to.order).duty ≡ owes words acceptance = sym (ap (λ (a : After). a.duty) to.obeys.is) ∙ is in
      let sorted : OwesSorted station.plan.terminal memory to.order.command (obeyed k loads c start [] item station to.order) words acceptance =
      tail-sorted station.plan.terminal memory c to.order.command (has_items station.left) (tail_of own to.order.command to.order.tail 0) words acceptance owes-so in
      let r : Registers = (obeyed k loads c start [] item station to.order).memory.registers in
      let number : ℕ = status_of station.plan.terminal r acceptance in
      let whole : struck [] (command_words item.kind) ≡ whole_slots (command_words item.kind) = struck-none (command_words item.kind) in
      subst (λ ws. IsDue (read_answer item.kind First (whole_slots ws) 0)) (sym sorted.words_are)
      (kind-due station.plan.terminal own to.order number sorted.data_words
      record {
        memory = memory;
        r = r;
        status = is-status station.plan.terminal r acceptance low;
        says = says-so station.plan.terminal r acceptance;
        one = sorted.one;
        sort = sorted.sort;
      }
      item.kind ranges memory c (has_items station.left) words acceptance
      (ap (last_order own) (sym whole) ∙ to.obeys.found)
      (subst (AreLeftOf (command_words item.kind)) whole (struck-left [] (command_words item.kind))) owes-so)
