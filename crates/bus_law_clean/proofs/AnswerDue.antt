-- The answer of each terminal to a command that was sent whole is one that is due.
use Rattle.std.proofs.Common.{◌≡◌, ◌≢◌, ◌⊎◌, inl, inr, ℕ, ◌<◌, ◌≤◌, List, [], ◌∷◌, length, refl, ap, sym, subst, ◌∙◌, arith}
use Rattle.std.proofs.lemmas.Bool.{cases_eq, cases_lt, true≢false}
use Rattle.std.proofs.lemmas.Bool.Decides.{nat_tests}
use Rattle.std.specs.Prelude.{Bool, true, false, not, ◌&&◌, ◌||◌, ◌==◌, nat_lt, if◌then◌else◌, Option}
use Rattle.bus_base.specs.declared.samples.Part.TheVariants.{First}
use Rattle.bus_words.specs.Fields.{flags_in, is_mode, is_transmit, field_of, sub_of, word_count}
use Rattle.bus_formats.specs.Codes.{dynamic_bus_control, transmit_status_word, transmit_last_command, transmit_vector_word, transmit_bit_word, carried, mode_of}
use Rattle.bus_formats.specs.declared.form.Carries.{Carries}
use Rattle.bus_formats.specs.declared.form.Carries.TheVariants.{Nothing, FromTerminal, ToTerminal}
use Rattle.bus_formats.specs.Forms.{mode_count}
use Rattle.bus_formats.specs.Plans.{TerminalData}
use Rattle.bus_formats.specs.Readings.{status_alone, status_full, read_offer, read_status, read_mode, read_by}
use Rattle.bus_formats.specs.declared.form.Shape.{Shape}
use Rattle.bus_formats.specs.declared.log.Registers.{Registers}
use Rattle.bus_formats.specs.declared.plan.Kind.TheVariants.{Mode}
use Rattle.bus_model.specs.Commands.{has_code, is_illegal}
use Rattle.bus_model.specs.Memory.{Memory, sending_on}
use Rattle.bus_model.specs.Orders.{answer_data, filled}
use Rattle.bus_law_duties.proofs.Fields.{skips, takes}
use Rattle.bus_law_plans.proofs.Lists.{either-by}
use Rattle.bus_law_clean.proofs.AnswerRead.{IsDue, IsStatus, shown, offer-due, status-due, mode-alone, mode-whole}
use Rattle.bus_law_clean.proofs.AnswerSorts.{IsSort, refused, status, last, resets, effect, Says, legal-of, down-legal, up-legal}

-- ---- how many data words the answer to a mode command has

low-count : (transmit : Bool) (code : ℕ) → code < 16 → mode_count (carried transmit code) ≡ 0
low-count transmit code low =
    let test : nat_lt code 16 ≡ true = grind (arith, nat_tests, low) in
    ap mode_count (takes (nat_lt code 16) Nothing (if transmit then FromTerminal else ToTerminal) test)

down-count : (code : ℕ) → mode_count (carried false code) ≡ 0
down-count code = either-by (λ (x : Carries). mode_count x ≡ 0) (nat_lt code 16) Nothing ToTerminal (λ _. refl) (λ _. refl)

up-count : (code : ℕ) → 16 ≤ code → mode_count (carried true code) ≡ 1
up-count code high =
    let test : nat_lt code 16 ≡ false = grind (arith, nat_tests, high) in
    ap mode_count (skips (nat_lt code 16) Nothing FromTerminal test)

and-true : (a b : Bool) → (a && b) ≡ true → b ≡ true
and-true true b is = is
and-true false b is = absurd (true≢false (sym is))

same-number : (m n : ℕ) → (m == n) ≡ true → m ≡ n
same-number m n is = grind (arith, nat_tests, is)

apart-number : (m n : ℕ) → (m == n) ≡ false → m ≢ n
apart-number m n is = λ same. grind (arith, nat_tests, is, same)

module _ (terminal : TerminalData) (memory : Memory) (bits : ℕ) (r : Registers) (number to mode_sub code : ℕ) (transmit : Bool) (word : Option ℕ)
    (mode : is_mode bits ≡ true) (sends : is_transmit bits ≡ transmit) (field : field_of bits ≡ code) where
  abbrev shape : Shape
  shape = record { address = to; count = mode_count (carried transmit code) }

  code-is : (c : ℕ) → has_code bits c ≡ true → code ≡ c
  code-is c is = sym field ∙ same-number (field_of bits) c (and-true (is_mode bits) (field_of bits == c) is)

  has-no : (c : ℕ) → code ≢ c → has_code bits c ≡ false
  has-no c apart = let other : field_of bits ≢ c = λ same. apart (sym field ∙ same) in
      let test : (field_of bits == c) ≡ false = grind (arith, nat_tests, other) in
      ap (λ b. is_mode bits && b) test ∙ ap (λ b. b && false) mode

  has-one : (c : ℕ) → code ≡ c → has_code bits c ≡ true
  has-one c same = let at : field_of bits ≡ c = field ∙ same in
      let test : (field_of bits == c) ≡ true = grind (arith, nat_tests, at) in
      ap (λ b. is_mode bits && b) test ∙ ap (λ b. b && true) mode

  no-data : code ≢ 16 → code ≢ 19 → answer_data terminal memory bits ≡ []
  no-data one two =
      skips (has_code bits transmit_vector_word) (terminal.vector ∷ []) _ (has-no 16 one)
      ∙ skips (has_code bits transmit_bit_word) (terminal.bit ∷ []) _ (has-no 19 two)
      ∙ ap (λ (b : Bool). if b || not (is_transmit bits) || terminal.busy then [] else filled (word_count bits) (sending_on memory (sub_of bits))) mode

  none-sent : (words : List ℕ) → IsSort terminal memory bits r words → code ≢ 16 → code ≢ 18 → code ≢ 19 → words ≡ []
  none-sent words (refused error none) one two three = none
  none-sent words (status is none) one two three = none
  none-sent words (last legal is long) one two three = absurd (two (code-is 18 is))
  none-sent words (resets is none) one two three = none
  none-sent words (effect legal other fine same) one two three = same ∙ no-data one three

  module _ (is : IsStatus to number) (says : Says terminal r number) where
    abbrev reports : Bool
    reports = transmit && (code == transmit_last_command)

    abbrev Read : List ℕ → Type 0
    Read words = IsDue (read_mode First reports (status_full shape (shown number words) 0) (status_alone shape (shown number words) 0))

    alone : (words : List ℕ) → words ≡ [] → (shape.count ≡ 0) ⊎ ((flags_in number).message_error ≡ true) → Read words
    alone words none rule = subst Read (sym none) (mode-alone First shape number is reports rule)

    legal-is : is_illegal terminal bits ≡ false → (mode_of transmit code).legal ≡ true
    legal-is legal = ap (λ (t : Bool). (mode_of t code).legal) (sym sends) ∙ ap (λ n. (mode_of (is_transmit bits) n).legal) (sym field) ∙ legal-of terminal bits mode legal

    last-due : (words : List ℕ) (t : Bool) → transmit ≡ t → is_illegal terminal bits ≡ false → code ≡ 18 → length words ≡ 1 → Read words
    last-due words false is-down legal at long =
        absurd (true≢false (sym (ap (λ (t : Bool). (mode_of t code).legal) (sym is-down) ∙ legal-is legal) ∙ down-legal code (λ same. omega (arith, same, at))))
    last-due words true is-up legal at long =
        let count : shape.count ≡ 1 = ap (λ (t : Bool). mode_count (carried t code)) is-up ∙ up-count code (omega (arith, at)) in
        let eighteen : (code == transmit_last_command) ≡ true = grind (arith, nat_tests, at) in
        mode-whole First shape number is reports words (long ∙ sym count) (inr (ap (λ b. b && (code == transmit_last_command)) is-up ∙ eighteen))

    effect-due : (words : List ℕ) (t : Bool) → transmit ≡ t → is_illegal terminal bits ≡ false → code ≢ 18 → r.message_error ≡ false →
        words ≡ answer_data terminal memory bits → Read words
    effect-due words false is-down legal other fine same = elim (cases_eq 17 code) [
      | inl at ↦ alone words (same ∙ no-data (λ e. omega (arith, e, at)) (λ e. omega (arith, e, at)))
          (inl (ap (λ (t : Bool). mode_count (carried t code)) is-down ∙ down-count code))
      | inr apart ↦ absurd (true≢false (sym (ap (λ (t : Bool). (mode_of t code).legal) (sym is-down) ∙ legal-is legal) ∙ down-legal code apart))
    ]
    effect-due words true is-up legal other fine same = elim (cases_lt code 16) [
      | inl low ↦ alone words (same ∙ no-data (λ e. omega (arith, e, low)) (λ e. omega (arith, e, low))) (inl (low-count transmit code low))
      | inr high ↦ (
          let count : shape.count ≡ 1 = ap (λ (t : Bool). mode_count (carried t code)) is-up ∙ up-count code (omega (arith, high)) in
          elim (cases_eq 16 code) [
            | inl at ↦ mode-whole First shape number is reports words
                (ap length (same ∙ takes (has_code bits transmit_vector_word) (terminal.vector ∷ []) _ (has-one 16 (sym at))) ∙ sym count) (inl (says.error ∙ fine))
            | inr not-vector ↦ elim (cases_eq 19 code) [
              | inl at ↦ mode-whole First shape number is reports words
                  (ap length (same ∙ skips (has_code bits transmit_vector_word) (terminal.vector ∷ []) _ (has-no 16 (λ e. not-vector (sym e)))
                  ∙ takes (has_code bits transmit_bit_word) (terminal.bit ∷ []) _ (has-one 19 (sym at))) ∙ sym count) (inl (says.error ∙ fine))
              | inr not-bit ↦ absurd (true≢false (sym (ap (λ (t : Bool). (mode_of t code).legal) (sym is-up) ∙ legal-is legal)
                  ∙ up-legal code (omega (arith, high)) not-vector (λ e. other (sym e)) not-bit))
            ]
          ])
    ]

    mode-due : (words : List ℕ) → IsSort terminal memory bits r words → Read words
    mode-due words (refused error none) = alone words none (inr (says.error ∙ error))
    mode-due words (status code-status none) = let at = code-is 2 code-status in alone words none (inl (low-count transmit code (omega (arith, at))))
    mode-due words (resets code-reset none) = let at = code-is 8 code-reset in alone words none (inl (low-count transmit code (omega (arith, at))))
    mode-due words (last legal code-last long) = last-due words transmit refl legal (code-is 18 code-last) long
    mode-due words (effect legal other fine same) =
        effect-due words transmit refl legal (λ at. true≢false (sym (has-one 18 at) ∙ other)) fine same

    -- whatever the code
    pub read-due : (words : List ℕ) → IsSort terminal memory bits r words →
        IsDue (read_by First (Mode to mode_sub transmit code word) (status_alone shape (shown number words) 0) (status_full shape (shown number words) 0))
    read-due words sort =
        either-by IsDue (code == dynamic_bus_control) (read_offer First (status_alone shape (shown number words) 0)) _
        (λ offer. (let zero-is = same-number code 0 offer in
        subst (λ ws. IsDue (read_offer First (status_alone shape (shown number ws) 0)))
        (sym (none-sent words sort (λ e. omega (arith, e, zero-is)) (λ e. omega (arith, e, zero-is)) (λ e. omega (arith, e, zero-is)))) (offer-due First shape number is)))
        (λ other. either-by IsDue (transmit && (code == transmit_status_word)) (read_status First (status_alone shape (shown number words) 0)) _
        (λ asks. (let two-is = same-number code 2 (and-true transmit (code == transmit_status_word) asks) in
        subst (λ ws. IsDue (read_status First (status_alone shape (shown number ws) 0)))
        (sym (none-sent words sort (λ e. omega (arith, e, two-is)) (λ e. omega (arith, e, two-is)) (λ e. omega (arith, e, two-is)))) (status-due First shape number is)))
        (λ no-status. mode-due words sort))
