-- How many words an answer has: no more than the controller expects.
use Rattle.std.proofs.Common.{◌≡◌, ◌⊎◌, inl, inr, ℕ, ◌+◌, ◌%◌, ◌≤◌, Bool, true, false, List, [], ◌∷◌, length, map, Option, Some, None, refl, sym, ap, ◌∙◌, subst, arith}
use Rattle.std.proofs.lemmas.Bool.{true≢false}
use Rattle.std.proofs.lemmas.List.{length-take}
use Rattle.std.proofs.lemmas.Option.{none-some, same_Some}
use Rattle.std.specs.Option.{option_or}
use Rattle.std.specs.Prelude.{if◌then◌else◌, replicate, ◌++◌, ◌&&◌, ◌||◌, ◌==◌, not, option_to_list}
use Rattle.std.specs.List.{AllByRecursion as Each}
use Rattle.bus_base.specs.declared.samples.Channel.{Channel}
use Rattle.bus_words.specs.Fields.{command_bits, is_broadcast, is_mode, is_transmit, sub_of, field_of, word_count}
use Rattle.bus_words.specs.declared.word.Word.{Word}
use Rattle.bus_formats.specs.Accepted.{HasKindRanges}
use Rattle.bus_formats.specs.Codes.{carried, mode_of, transmit_status_word, transmit_last_command, transmit_vector_word, transmit_bit_word, reset_remote_terminal}
use Rattle.bus_formats.specs.Forms.{command_word, data_word, command_words, answer_of, answers_of, mode_count}
use Rattle.bus_formats.specs.Plans.{TerminalData}
use Rattle.bus_formats.specs.Readings.{command_in}
use Rattle.bus_formats.specs.declared.form.Shape.{Shape}
use Rattle.bus_formats.specs.declared.log.Registers.{Registers}
use Rattle.bus_formats.specs.declared.plan.Kind.{Kind}
use Rattle.bus_formats.specs.declared.plan.Kind.TheVariants.{Receive, Transmit, Relay, Mode}
use Rattle.bus_model.specs.Commands.{Tail, unexpected, relay_from, carries, tail_of, has_code, is_illegal}
use Rattle.bus_model.specs.Memory.{Memory, TimedLoad, is_listed, sending_on, is_off, status_of}
use Rattle.bus_model.specs.Message.{Present, After, address_of_station, unmoved, answer_for, answer_to, after_command, after_command_of, after_answer, after_answer_of, memory_at}
use Rattle.bus_model.specs.Orders.{Duty, free, owes, promises, Obeyed, Order, last_order, answer, answer_data, accepts, marked, mode_effect, reset, filled, obey_data, obey_tail, obey, with_error, kept, relayed}
use Rattle.bus_model.specs.Starts.{has_items}
use Rattle.bus_model.specs.Strikes.{ShownBurst, Answer}
use Rattle.bus_law_plans.proofs.Answered.{Owed}
use Rattle.bus_law_plans.proofs.Lists.{either, either-by, and-both, same-number, skips}
use Rattle.bus_law_plans.proofs.Orders.{sub-is, field-is, transmit-is, plain-mode, mode-is, count-is}
use Rattle.bus_law_plans.proofs.Sized.{data-long}
use Rattle.bus_law_plans.proofs.Struck.{Commands, order-found}

-- a status and at most so many data words
abbrev pub Few : ℕ → List Word → Bool → Type 0
Few most words acceptance = length words ≤ 1 + most

-- the data words that the answer to a command has at most
abbrev pub most_data : ℕ → ℕ
most_data command =
    if is_mode command then mode_count (carried (is_transmit command) (field_of command))
    else if is_transmit command then word_count command else 0

fewer : (low high : ℕ) (duty : Duty) → low ≤ high → Owed (Few low) duty → Owed (Few high) duty
fewer low high free order h = tt
fewer low high (owes words acceptance) order h = omega (arith, h, order)
fewer low high (promises command transmitter) order h = tt

-- ---- obeying

few-answer : (terminal : TerminalData) (registers : Registers) (c : Channel) (command : ℕ) (acceptance : Bool) (words : List ℕ) (most : ℕ) → length words ≤ most →
    Owed (Few most) (answer terminal registers c command acceptance words)
few-answer terminal registers c command acceptance words most few =
    either (Owed (Few most)) (is_broadcast command || is_off registers c) free
    (owes (command_word (status_of terminal registers acceptance) ∷ map data_word words) acceptance) tt (omega (arith, data-long words, few))

-- a legal command with one of the codes that are answered with a data word
legal-by : (code : ℕ) (transmit : Bool) → (mode_of false code).legal ≡ false → mode_count (carried true code) ≡ 1 → (mode_of transmit code).legal ≡ true →
    mode_count (carried transmit code) ≡ 1
legal-by code true never one legal = one
legal-by code false never one legal = absurd (true≢false (sym legal ∙ never))

filled-few : (count : ℕ) (words : List ℕ) → length (filled count words) ≤ count
filled-few count words = omega (arith, length-take count (words ++ replicate count 0))

legal-from : (mode legal listed sent plain : Bool) → mode ≡ true → (if mode then not legal || listed || sent else plain) ≡ false → legal ≡ true
legal-from true true listed sent plain is h = refl
legal-from true false listed sent plain is h = absurd (true≢false h)
legal-from false legal listed sent plain is h = absurd (true≢false (sym is))

module _ (terminal : TerminalData) (memory : Memory) (c : Channel) (command : ℕ) where
  legal-mode : is_mode command ≡ true → is_illegal terminal command ≡ false → (mode_of (is_transmit command) (field_of command)).legal ≡ true
  legal-mode mode legal =
      legal-from (is_mode command) (mode_of (is_transmit command) (field_of command)).legal (is_listed terminal.no_mode (field_of command))
      (is_broadcast command && not (mode_of (is_transmit command) (field_of command)).broadcast)
      (if is_transmit command then is_listed terminal.no_transmit (sub_of command) || is_broadcast command else is_listed terminal.no_receive (sub_of command))
      mode legal

  reports : (code : ℕ) → (mode_of false code).legal ≡ false → mode_count (carried true code) ≡ 1 → has_code command code ≡ true → is_illegal terminal command ≡ false →
      1 ≤ most_data command
  reports code never one has legal =
      let both = and-both (is_mode command) (field_of command == code) has in
      let field : field_of command ≡ code = same-number (field_of command) code both.1 in
      let may : (mode_of (is_transmit command) code).legal ≡ true = subst (λ n. (mode_of (is_transmit command) n).legal ≡ true) field (legal-mode both.0 legal) in
      let count : mode_count (carried (is_transmit command) (field_of command)) ≡ 1 =
      ap (λ n. mode_count (carried (is_transmit command) n)) field ∙ legal-by code (is_transmit command) never one may in
      let most : most_data command ≡ mode_count (carried (is_transmit command) (field_of command)) =
      ap (λ (b : Bool). if b then mode_count (carried (is_transmit command) (field_of command)) else if is_transmit command then word_count command else 0) both.0 in
      omega (arith, count, most)

  sends : is_mode command ≡ false → is_transmit command ≡ true → most_data command ≡ word_count command
  sends mode transmit =
      ap (λ (b : Bool). if b then mode_count (carried (is_transmit command) (field_of command)) else if is_transmit command then word_count command else 0) mode
      ∙ ap (λ (b : Bool). if b then word_count command else 0) transmit

  block-few : (mode down busy : Bool) → is_mode command ≡ mode → not (is_transmit command) ≡ down →
      length (if mode || down || busy then [] else filled (word_count command) (sending_on memory (sub_of command))) ≤ most_data command
  block-few true down busy m d = omega arith
  block-few false true busy m d = omega arith
  block-few false false true m d = omega arith
  block-few false false false m d =
      let transmit : is_transmit command ≡ true = up (is_transmit command) d in
      omega (arith, filled-few (word_count command) (sending_on memory (sub_of command)), sends m transmit)
    where
      up : (b : Bool) → not b ≡ false → b ≡ true
      up true h = refl
      up false h = absurd (true≢false h)

  data-few : is_illegal terminal command ≡ false → length (answer_data terminal memory command) ≤ most_data command
  data-few legal =
      let Within : List ℕ → Type 0 = λ words. length words ≤ most_data command in
      either-by Within (has_code command transmit_vector_word) (terminal.vector ∷ []) _ (λ has. reports transmit_vector_word refl refl has legal)
      (λ other. either-by Within (has_code command transmit_bit_word) (terminal.bit ∷ []) _ (λ has. reports transmit_bit_word refl refl has legal)
      (λ not_bit. block-few (is_mode command) (not (is_transmit command)) terminal.busy refl refl))

  abbrev IsFew : Obeyed → Type 0
  IsFew o = Owed (Few (most_data command)) o.duty

  obeyed-few : (words : List ℕ) (may : Bool) → IsFew (obey_data terminal memory c command words may memory.registers)
  obeyed-few words may =
      either-by IsFew (is_illegal terminal command) _ _
      (λ illegal. few-answer terminal (marked memory.registers command true) c command false [] (most_data command) (omega arith))
      (λ legal. either IsFew (has_code command transmit_status_word) _ _
      (few-answer terminal (record memory.registers { last = command }) c command false [] (most_data command) (omega arith))
      (either-by IsFew (has_code command transmit_last_command) _ _
      (λ has. few-answer terminal memory.registers c command false (memory.registers.last ∷ []) (most_data command)
      (reports transmit_last_command refl refl has legal))
      (λ other. either IsFew (has_code command reset_remote_terminal) _ _
      (few-answer terminal (reset memory.registers) c command false [] (most_data command) (omega arith))
      (few-answer terminal (mode_effect (marked memory.registers command false) c command words) c command (accepts terminal command may)
      (answer_data terminal memory command) (most_data command) (data-few legal)))))

  tail-few : (may : Bool) (tail : Tail) → IsFew (obey_tail terminal memory c command may tail)
  tail-few may unexpected = tt
  tail-few may (relay_from transmitter) = tt
  tail-few may (carries words) = obeyed-few words may

-- ---- a receiver's promise

kept-few : (terminal : TerminalData) (memory : Memory) (c : Channel) (command : ℕ) (words : Option (List ℕ)) →
    Owed (Few 0) (kept terminal memory c command words).duty
kept-few terminal memory c command None = tt
kept-few terminal memory c command (Some words) =
    either (λ (o : Obeyed). Owed (Few 0) o.duty) (is_illegal terminal command) _ _
    (few-answer terminal (with_error terminal memory c true) c command false [] 0 (omega arith))
    (few-answer terminal memory.registers c command false [] 0 (omega arith))

-- ---- the answer that comes

by-duty : (P : List Word → Type 0) (burst : ShownBurst) (after : After) (duty : Duty) → Owed (λ words acceptance. P words) duty → (a : Answer) →
    answer_for burst after duty ≡ Some a → P a.words
by-duty P burst after free h a is = absurd (none-some a is)
by-duty P burst after (promises command transmitter) h a is = absurd (none-some a is)
by-duty P burst after (owes words acceptance) h a is = subst (λ (x : Answer). P x.words) (same_Some _ a is) h

-- what holds of the words that anyone owes holds of the answer
pub owed-by-all : (P : List Word → Type 0) (burst : ShownBurst) (afters : List After) → Each (λ (x : After). Owed (λ words acceptance. P words) x.duty) afters →
    (a : Answer) → answer_to burst afters ≡ Some a → P a.words
owed-by-all P burst [] all a is = absurd (none-some a is)
owed-by-all P burst (after ∷ afters) all a is = by-first (answer_for burst after after.duty) refl is (owed-by-all P burst afters all.1 a)
  where
    by-first : (o : Option Answer) → answer_for burst after after.duty ≡ o → option_or o (answer_to burst afters) ≡ Some a →
        (answer_to burst afters ≡ Some a → P a.words) → P a.words
    by-first None same h rest = rest h
    by-first (Some b) same h rest = by-duty P burst after after.duty all.0 a (same ∙ h)

module _ (k : ℕ) (loads : List TimedLoad) (burst : ShownBurst) where
  order-few : (most : ℕ) (s : Present) (order : Option Order) → ((o : Order) → order ≡ Some o → most_data o.command ≤ most) →
      Owed (Few most) (after_command_of k loads burst s order).duty
  order-few most s None h = tt
  order-few most s (Some order) h =
      let terminal : TerminalData = s.plan.terminal in
      let memory : Memory = memory_at k loads burst s in
      fewer (most_data order.command) most (obey terminal memory burst.channel order.command order.tail burst.rest (has_items s.left)).duty (h order refl)
      (tail-few terminal memory burst.channel order.command (has_items s.left) (tail_of terminal.address order.command order.tail burst.rest))

  -- where each command in the burst asks for no more words
  pub each-few : (most : ℕ) (stations : List Present) → Commands (λ command. most_data command ≤ most) burst.slots →
      Each (λ (x : After). Owed (Few most) x.duty) (map (after_command k loads burst) stations)
  each-few most [] all = tt
  each-few most (s ∷ stations) all = (
    either (λ (x : After). Owed (Few most) x.duty) s.serves _ (unmoved s)
        (order-few most s (last_order (address_of_station s) burst.slots)
        (λ o is. (order-found (address_of_station s) (λ command. most_data command ≤ most) burst.slots all o is).command)) tt,
    each-few most stations all,
  )

  promised-few : (s : Present) (duty : Duty) → Owed (Few 0) (after_answer_of k loads burst s duty).duty
  promised-few s free = tt
  promised-few s (owes words acceptance) = tt
  promised-few s (promises command transmitter) =
      kept-few s.plan.terminal (memory_at k loads burst s) burst.channel command (relayed (word_count command) transmitter burst.slots burst.rest)

  -- a second answer is a status alone
  pub each-alone : (afters : List After) → Each (λ (x : After). Owed (Few 0) x.duty) (map (after_answer k loads burst) afters)
  each-alone [] = tt
  each-alone (after ∷ afters) = (promised-few after.station after.duty, each-alone afters)

-- ---- what the controller expects

data-words : (Q : ℕ → Type 0) (words : List ℕ) → Each (λ w. (c : ℕ) → command_in (Some w) ≡ Some c → Q c) (map data_word words)
data-words Q [] = tt
data-words Q (w ∷ words) = ((λ c is. absurd (none-some c is)), data-words Q words)

this-command : (Q : ℕ → Type 0) (bits : ℕ) → Q bits → (c : ℕ) → command_in (Some (command_word bits)) ≡ Some c → Q c
this-command Q bits h c is = subst Q (same_Some bits c is) h

shape-count : (address count : ℕ) (shape : Shape) → answer_of address count ≡ Some shape → shape.count ≡ count
shape-count address count shape is = by-test (address == 31) is
  where
    by-test : (b : Bool) → (if b then None else Some record { address = address; count = count }) ≡ Some shape → shape.count ≡ count
    by-test true h = absurd (none-some shape h)
    by-test false h = sym (ap (λ (s : Shape). s.count) (same_Some _ shape h))

module _ (address sub count : ℕ) (low : 1 ≤ sub) (high : sub ≤ 30) where
  low-field : count % 32 ≤ 31
  low-field = omega arith

  plain : (transmit : Bool) → is_mode (command_bits address transmit sub (count % 32)) ≡ false
  plain transmit =
      plain-mode (command_bits address transmit sub (count % 32)) sub (sub-is address sub (count % 32) transmit (omega (arith, high)) low-field) low high

  receives-none : most_data (command_bits address false sub (count % 32)) ≡ 0
  receives-none =
      let bits : ℕ = command_bits address false sub (count % 32) in
      skips (is_mode bits) _ (if is_transmit bits then word_count bits else 0) (plain false)
      ∙ skips (is_transmit bits) (word_count bits) 0 (transmit-is address sub (count % 32) false (omega (arith, high)) low-field)

  sends-count : 1 ≤ count → count ≤ 32 → most_data (command_bits address true sub (count % 32)) ≡ count
  sends-count some few =
      let bits : ℕ = command_bits address true sub (count % 32) in
      skips (is_mode bits) _ (if is_transmit bits then word_count bits else 0) (plain true)
      ∙ (ap (λ (b : Bool). if b then word_count bits else 0) (transmit-is address sub (count % 32) true (omega (arith, high)) low-field)
      ∙ count-is bits count (field-is address sub (count % 32) true low-field) some few)

mode-data : (address mode_sub code : ℕ) (transmit : Bool) → (mode_sub ≡ 0) ⊎ (mode_sub ≡ 31) → code ≤ 31 →
    most_data (command_bits address transmit mode_sub code) ≡ mode_count (carried transmit code)
mode-data address mode_sub code transmit sub few =
    let low : mode_sub ≤ 31 = by-sub sub in
    let bits : ℕ = command_bits address transmit mode_sub code in
    ap (λ (b : Bool). if b then mode_count (carried (is_transmit bits) (field_of bits)) else if is_transmit bits then word_count bits else 0)
    (mode-is bits mode_sub (sub-is address mode_sub code transmit low few) sub)
    ∙ (ap (λ (b : Bool). mode_count (carried b (field_of bits))) (transmit-is address mode_sub code transmit low few)
    ∙ ap (λ n. mode_count (carried transmit n)) (field-is address mode_sub code transmit few))
  where
    by-sub : (mode_sub ≡ 0) ⊎ (mode_sub ≡ 31) → mode_sub ≤ 31
    by-sub (inl none) = omega (arith, none)
    by-sub (inr all) = omega (arith, all)

-- no command of a message asks for more data words than the controller expects
pub commands-few : (kind : Kind) → HasKindRanges kind → (shape : Shape) → (answers_of kind).first ≡ Some shape →
    Each (λ w. (c : ℕ) → command_in (Some w) ≡ Some c → most_data c ≤ shape.count) (command_words kind)
commands-few (Receive to sub words) ranges shape is =
    let Q : ℕ → Type 0 = λ c. most_data c ≤ shape.count in
    (this-command Q _ (omega (arith, receives-none to sub (length words) ranges.subaddress.0 ranges.subaddress.1)), data-words Q words)
commands-few (Transmit from sub count) ranges shape is =
    let Q : ℕ → Type 0 = λ c. most_data c ≤ shape.count in (
      this-command Q _ (omega (arith, sends-count from sub count ranges.subaddress.0 ranges.subaddress.1 ranges.words.0 ranges.words.1, shape-count from count shape is)),
      tt,
    )
commands-few (Relay from from_sub to to_sub count) ranges shape is =
    let Q : ℕ → Type 0 = λ c. most_data c ≤ shape.count in (
      this-command Q _ (omega (arith, receives-none to to_sub count ranges.1.subaddress.0 ranges.1.subaddress.1)),
      (
        this-command Q _ (omega (arith, sends-count from from_sub count ranges.0.subaddress.0 ranges.0.subaddress.1 ranges.0.words.0 ranges.0.words.1, shape-count from count shape is)),
        tt,
      ),
    )
commands-few (Mode to mode_sub transmit code word) ranges shape is =
    let Q : ℕ → Type 0 = λ c. most_data c ≤ shape.count in (
      this-command Q _ (omega (arith, mode-data to mode_sub code transmit ranges.subaddress ranges.mode, shape-count to (mode_count (carried transmit code)) shape is)),
      data-words Q (option_to_list word),
    )
