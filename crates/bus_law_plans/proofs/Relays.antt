-- The blocks of a relay: its receivers take what its transmitter sent, whole.
use Rattle.std.proofs.Common.{◌≡◌, ◌≢◌, ℕ, zero, suc, ◌+◌, ◌-◌, ◌%◌, ◌<◌, ◌≤◌, Bool, true, false, List, [], ◌∷◌, ◌++◌, length, take, map, replicate, Option, Some, None, refl, sym, ap, ◌∙◌, subst, arith, length-append}
use Rattle.std.proofs.lemmas.Bool.{true≢false}
use Rattle.std.proofs.lemmas.Bool.Decides.{nat_tests}
use Rattle.std.proofs.lemmas.List.{length-take, length-replicate}
use Rattle.std.proofs.lemmas.Option.{none-some}
use Rattle.std.specs.Prelude.{if◌then◌else◌, ◌==◌, ◌&&◌, ◌||◌, not, find, nat_lt}
use Rattle.bus_words.specs.Fields.{command_bits, is_transmit, is_mode, sub_of, field_of, word_count}
use Rattle.bus_words.specs.declared.word.Word.{Word}
use Rattle.bus_formats.specs.Accepted.{HasReceiveRanges, HasTransmitRanges}
use Rattle.bus_formats.specs.Codes.{transmit_vector_word, transmit_bit_word}
use Rattle.bus_formats.specs.Forms.{command_word, data_word, answer_of}
use Rattle.bus_formats.specs.Plans.{TerminalData}
use Rattle.bus_formats.specs.Readings.{data_in}
use Rattle.bus_formats.specs.declared.fault.Hit.{Hit}
use Rattle.bus_formats.specs.declared.form.Shape.{Shape}
use Rattle.bus_formats.specs.declared.plan.Kind.TheVariants.{Relay}
use Rattle.bus_model.specs.Commands.{words_after, has_code}
use Rattle.bus_model.specs.Counted.{is_filled_up, is_cut_short, is_counted}
use Rattle.bus_model.specs.Memory.{Memory, TimedLoad, sending_on, status_of}
use Rattle.bus_model.specs.Message.{Present, address_of_station, After, after_command, after_answer, memory_at}
use Rattle.bus_model.specs.Orders.{Duty, free, owes, promises, Taken, is_for, answer_data, filled}
use Rattle.bus_model.specs.Run.{is_at}
use Rattle.bus_model.specs.Strikes.{ShownBurst, Answer, ShownAnswer, added_by, own_struck, struck}
use Rattle.bus_law_plans.proofs.Answered.{IsData, status_alone, last_command, whole_answer, IsAnswerOf}
use Rattle.bus_law_plans.proofs.Blocks.{IsBlockOf, TakesCommand, PromisesBy, command-told, TakesPromise, answer-told, relayed-data}
use Rattle.bus_law_plans.proofs.Lengths.{AreShown, Sole, struck-shown, read-long, read-same, zeros-shown}
use Rattle.bus_law_plans.proofs.Orders.{IsSecond, IsPair, is_second, is_first, pair-order, no-relay, carried, promised, second-carries, address-is, sub-is, field-is, transmit-is, plain-mode, count-is, after-receive}
use Rattle.bus_law_plans.proofs.Promised.{Promise}
use Rattle.bus_law_plans.proofs.Singles.{own-address}
use Rattle.bus_law_plans.proofs.Struck.{own-few}
use Rattle.bus_law_plans.proofs.Lists.{skips}

-- ---- how many words are shown

-- an extra adds no more words than it names
pub struck-long : (hits : List Hit) (words : List Word) → length (struck hits words) ≤ length words + added_by hits
struck-long hits words =
    let own : List (Option Word) = own_struck hits words in
    let zeros : List (Option Word) = replicate (added_by hits) (Some (data_word 0)) in
    omega (
      arith,
      own-few hits words,
      length-append own (take (40 - length own) zeros),
      length-take (40 - length own) zeros,
      length-replicate (added_by hits) (Some (data_word 0)),
    )

-- a block that is filled up has as many words as are asked for
pub filled-long : (count : ℕ) (words : List ℕ) → length (filled count words) ≡ count
filled-long count words =
    omega (arith, length-take count (words ++ replicate count 0), length-append words (replicate count 0), length-replicate {A = ℕ} count 0)

module _ (from from_sub to to_sub count : ℕ) (sends : HasTransmitRanges from from_sub count) (takes : HasReceiveRanges to to_sub count) where
  abbrev field : ℕ
  field = count % 32

  -- the first command, to the receivers
  abbrev pub receiving : ℕ
  receiving = command_bits to false to_sub field

  -- the second command, to the transmitter
  abbrev pub sending : ℕ
  sending = command_bits from true from_sub field

  few : field ≤ 31
  few = omega arith

  to-low : to_sub ≤ 31
  to-low = omega (arith, takes.subaddress)

  from-low : from_sub ≤ 31
  from-low = omega (arith, sends.subaddress)

  receiving-plain : is_mode receiving ≡ false
  receiving-plain = plain-mode receiving to_sub (sub-is to to_sub field false to-low few) takes.subaddress.0 takes.subaddress.1

  sending-plain : is_mode sending ≡ false
  sending-plain = plain-mode sending from_sub (sub-is from from_sub field true from-low few) sends.subaddress.0 sends.subaddress.1

  receiving-count : word_count receiving ≡ count
  receiving-count = count-is receiving count (field-is to to_sub field false few) takes.words.0 takes.words.1

  sending-count : word_count sending ≡ count
  sending-count = count-is sending count (field-is from from_sub field true few) sends.words.0 sends.words.1

  receiving-after : words_after receiving ≡ count
  receiving-after = after-receive receiving count receiving-plain (transmit-is to to_sub field false to-low few) receiving-count

  from-one : from ≢ 31
  from-one = λ all. absurd (omega (arith, all, sends.address))

  -- no data words follow the first command
  first-bare : (tail : List (Option Word)) (words : List ℕ) → IsSecond sending tail → data_in (words_after receiving) tail ≡ Some words → ⊥
  first-bare tail words h read = by-count count takes.words.0 (ap (λ n. data_in n tail) (sym receiving-after) ∙ read)
    where
      by-count : (n : ℕ) → 1 ≤ n → data_in n tail ≡ Some words → ⊥
      by-count zero some is = absurd (omega (arith, some))
      by-count (suc n) some is = second-carries n sending tail words h is

  module _ (k : ℕ) (loads : List TimedLoad) (burst : ShownBurst) (shown : AreShown (command_word receiving ∷ command_word sending ∷ []) burst.slots) where
    pair-takes : (s : Present) (block : Taken) (by : TakesCommand s burst block) → IsPair (address_of_station s) receiving sending by.order → ⊥
    pair-takes s block by (is_second command own tail) =
        true≢false (sym (transmit-is from from_sub field true from-low few) ∙ (ap is_transmit (sym command) ∙ by.is.down))
    pair-takes s block by (is_first command own tail) =
        first-bare by.order.tail block.words tail
        (ap (λ c. data_in (words_after c) by.order.tail) (sym command) ∙ carried (address_of_station s) by.order.command by.order.tail burst.rest block.words by.carried)

    -- no block is taken of its commands
    pub command-takes : (s : Present) (block : Taken) → (after_command k loads burst s).taken ≡ Some block → ⊥
    command-takes s block is =
        let by : TakesCommand s burst block = (command-told k loads burst s).0 block is in
        pair-takes s block by (pair-order (address_of_station s) receiving sending burst.slots shown by.order by.order_is)

    -- who promises, does so by the first command
    abbrev IsReceiving : Present → ℕ → ℕ → Type 0
    IsReceiving s command transmitter = (command ≡ receiving) × (is_for (address_of_station s) receiving ≡ true)

    pair-promises : (s : Present) (command transmitter : ℕ) (by : PromisesBy s burst command transmitter) → IsPair (address_of_station s) receiving sending by.0 →
        IsReceiving s command transmitter
    pair-promises s command transmitter by (is_first same own tail) = (sym by.2 ∙ same, own)
    pair-promises s command transmitter by (is_second same own tail) =
        absurd (none-some transmitter (sym (no-relay (address_of_station s) by.0.command [] by.0.tail (zeros-shown by.0.tail tail))
        ∙ promised (address_of_station s) by.0.command by.0.tail burst.rest transmitter by.3))

    duty-promises : (s : Present) (duty : Duty) → Promise (PromisesBy s burst) duty → Promise (IsReceiving s) duty
    duty-promises s free h = tt
    duty-promises s (owes ws acceptance) h = tt
    duty-promises s (promises command transmitter) h =
        pair-promises s command transmitter h (pair-order (address_of_station s) receiving sending burst.slots shown h.0 h.1)

    -- ---- the transmitter

    -- what it answers with: a status alone, or its words
    pub data IsSent (memory : Memory) (words : List ℕ) : Type 0 where
      no_words : words ≡ [] → IsSent memory words
      its_words : words ≡ filled count (sending_on memory from_sub) → IsSent memory words

    by-last : (terminal : TerminalData) (memory : Memory) (b : Bool) → (if b then [] else filled (word_count sending) (sending_on memory (sub_of sending))) ≡
        (if b then [] else filled count (sending_on memory from_sub))
    by-last terminal memory true = refl
    by-last terminal memory false =
        ap (λ n. filled n (sending_on memory (sub_of sending))) sending-count ∙ ap (λ n. filled count (sending_on memory n)) (sub-is from from_sub field true from-low few)

    by-busy : (memory : Memory) (words : List ℕ) (b : Bool) → words ≡ (if b then [] else filled count (sending_on memory from_sub)) → IsSent memory words
    by-busy memory words true is = no_words is
    by-busy memory words false is = its_words is

    answers-with : (terminal : TerminalData) (memory : Memory) → answer_data terminal memory sending ≡
        (if is_mode sending || not (is_transmit sending) || terminal.busy then [] else filled (word_count sending) (sending_on memory (sub_of sending)))
    answers-with terminal memory =
        skips (has_code sending transmit_vector_word) (terminal.vector ∷ []) _ (ap (λ b. b && (field_of sending == transmit_vector_word)) sending-plain)
        ∙ skips (has_code sending transmit_bit_word) (terminal.bit ∷ []) _ (ap (λ b. b && (field_of sending == transmit_bit_word)) sending-plain)

    sent-by : (terminal : TerminalData) (memory : Memory) (words : List ℕ) → IsData terminal memory sending words → IsSent memory words
    sent-by terminal memory words (status_alone is) = no_words is
    sent-by terminal memory words (last_command mode is) = absurd (true≢false (sym mode ∙ sending-plain))
    sent-by terminal memory words (whole_answer is) =
        let off : Bool = is_mode sending || not (is_transmit sending) || terminal.busy in
        by-busy memory words off (is ∙ (answers-with terminal memory ∙ by-last terminal memory off))

    -- the answer is the transmitter's
    pub record IsTransmitters (stations : List Present) (a : Answer) : Type 0 where
      pub station : Present
      pub found : find (is_at from) stations ≡ Some station
      pub status : ℕ
      pub words : List ℕ
      pub words_are : a.words ≡ command_word status ∷ map data_word words
      pub sent : IsSent (memory_at k loads burst station) words

    by-pair : (stations : List Present) (s : Present) → find (is_at (address_of_station s)) stations ≡ Some s → (a : Answer) → (of : IsAnswerOf k loads burst s a) →
        IsPair (address_of_station s) receiving sending of.order → IsTransmitters stations a
    by-pair stations s found a of (is_first command own tail) =
        absurd (first-bare of.order.tail of.carried.0 tail
        (ap (λ c. data_in (words_after c) of.order.tail) (sym command)
        ∙ carried (address_of_station s) of.order.command of.order.tail burst.rest of.carried.0 of.carried.1))
    by-pair stations s found a of (is_second command own tail) =
        let at : address_of_station s ≡ from = own-address (address_of_station s) sending from own (address-is from from_sub field true from-low few) from-one in
        record {
          station = s;
          found = ap (λ n. find (is_at n) stations) (sym at) ∙ found;
          status = status_of s.plan.terminal of.is.registers a.acceptance;
          words = of.is.words_sent;
          words_are = of.is.words_are;
          sent = sent-by s.plan.terminal (memory_at k loads burst s) of.is.words_sent
              (subst (λ c. IsData s.plan.terminal (memory_at k loads burst s) c of.is.words_sent) command of.is.sent);
        }

    -- whoever answers the commands is the transmitter
    pub transmitters : (stations : List Present) (s : Present) → find (is_at (address_of_station s)) stations ≡ Some s → (a : Answer) →
        IsAnswerOf k loads burst s a → IsTransmitters stations a
    transmitters stations s found a of =
        by-pair stations s found a of (pair-order (address_of_station s) receiving sending burst.slots shown of.order of.order_is)

    -- ---- the block

    one-shape : answer_of from count ≡ Some record { address = from; count = count }
    one-shape =
        let test : (from == 31) ≡ false = (let other : from ≢ 31 = from-one in grind (arith, nat_tests, other)) in
        skips {X = Option Shape} (from == 31) None (Some record { address = from; count = count }) test

    four : (a b c d : Bool) → a ≡ true → b ≡ true → c ≡ true → d ≡ true → (a && b && c && d) ≡ true
    four a b c d first second third fourth = rw (first, second, third, fourth) refl

    lt-true : (m n : ℕ) → m < n → nat_lt m n ≡ true
    lt-true m n h = grind (arith, nat_tests, h)

    eq-true : (m n : ℕ) → m ≡ n → (m == n) ≡ true
    eq-true m n h = grind (arith, nat_tests, h)

    filled-up : (answer : ShownAnswer) → length answer.sent.words ≡ 1 → length answer.burst.slots ≡ suc count → answer.burst.slots ≡ struck answer.hits answer.sent.words →
        is_counted (Relay from from_sub to to_sub count) (Some answer) ≡ true → ⊥
    filled-up answer one long slots counted =
        let more : 0 < added_by answer.hits = omega (arith, takes.words, struck-long answer.hits answer.sent.words, ap length slots, one, long) in
        let filled : is_filled_up answer (answer_of from count) ≡ true =
        ap (is_filled_up answer) one-shape
        ∙ four (length answer.sent.words == 1) (nat_lt 0 count) (nat_lt 0 (added_by answer.hits)) (length answer.burst.slots == suc count)
        (eq-true (length answer.sent.words) 1 one) (lt-true 0 count (omega (arith, takes.words))) (lt-true 0 (added_by answer.hits) more)
        (eq-true (length answer.burst.slots) (suc count) long) in
        true≢false (sym counted ∙ ap (λ b. not b && not (is_cut_short (Relay from from_sub to to_sub count) answer)) filled)

    -- what is known of a block that a receiver takes
    pub record IsRelayed (stations : List Present) (own : ℕ) (block : Taken) : Type 0 where
      pub station : Present
      pub found : find (is_at from) stations ≡ Some station
      pub words_are : block.words ≡ filled count (sending_on (memory_at k loads burst station) from_sub)
      pub sub_is : block.sub ≡ to_sub
      pub broadcast_is : block.broadcast ≡ (to == 31)
      pub own_is : to ≢ 31 → own ≡ to

    by-sent : (answer : ShownAnswer) (memory : Memory) (words : List ℕ) (status : ℕ) → answer.sent.words ≡ command_word status ∷ map data_word words → IsSent memory words →
        answer.burst.slots ≡ struck answer.hits answer.sent.words → is_counted (Relay from from_sub to to_sub count) (Some answer) ≡ true →
        (tail : List (Option Word)) → AreShown (map data_word words) tail → length answer.burst.slots ≡ suc (length tail) → (read : List ℕ) →
        data_in count tail ≡ Some read → read ≡ filled count (sending_on memory from_sub)
    by-sent answer memory words status same (no_words none) slots counted tail shown-tail long read is =
        let one : length answer.sent.words ≡ 1 = ap length same ∙ ap (λ l. suc (length (map data_word l))) none in
        absurd (filled-up answer one (long ∙ ap suc (read-long count tail read is)) slots counted)
    by-sent answer memory words status same (its_words its) slots counted tail shown-tail long read is =
        let many : length words ≡ count = ap length its ∙ filled-long count (sending_on memory from_sub) in
        read-same words tail shown-tail read (ap (λ n. data_in n tail) many ∙ is) ∙ its

    -- the block is what the transmitter sent
    pub relayed-block : (stations : List Present) (answer : ShownAnswer) → Sole answer.hits → answer.burst.slots ≡ struck answer.hits answer.sent.words →
        IsTransmitters stations answer.sent → is_counted (Relay from from_sub to to_sub count) (Some answer) ≡ true → (s : Present) (block : Taken) →
        (after_answer k loads answer.burst (after_command k loads burst s)).taken ≡ Some block → IsRelayed stations (address_of_station s) block
    relayed-block stations answer sole slots by counted s block is =
        let after : After = after_command k loads burst s in
        let taken : TakesPromise after.station answer.burst (IsReceiving s) block =
        answer-told k loads answer.burst (IsReceiving s) after.station after.duty (duty-promises s after.duty (command-told k loads burst s).1) block is in
        let words = relayed-data (word_count taken.command) taken.transmitter answer.burst.slots answer.burst.rest block.words taken.relayed_is in
        let bits : taken.command ≡ receiving = taken.promised.0 in
        let block-of : IsBlockOf receiving block = subst (λ c. IsBlockOf c block) bits taken.is in
        let read : data_in count words.1 ≡ Some block.words =
        ap (λ n. data_in n words.1) (sym (ap word_count bits ∙ receiving-count)) ∙ words.3 in
        let whole : AreShown (command_word by.status ∷ map data_word by.words) (words.0 ∷ words.1) =
        subst (AreShown (command_word by.status ∷ map data_word by.words)) (ap (struck answer.hits) (sym by.words_are) ∙ (sym slots ∙ words.2))
        (struck-shown answer.hits (command_word by.status ∷ map data_word by.words) sole) in
        record {
          station = by.station;
          found = by.found;
          words_are = by-sent answer (memory_at k loads burst by.station) by.words by.status by.words_are by.sent slots counted words.1 whole.1 (ap length words.2) block.words read;
          sub_is = block-of.sub ∙ sub-is to to_sub field false to-low few;
          broadcast_is = block-of.broadcast ∙ ap (λ a. a == 31) (address-is to to_sub field false to-low few);
          own_is = own-address (address_of_station s) receiving to taken.promised.1 (address-is to to_sub field false to-low few);
        }
