-- The lines of faults one after another.
use Rattle.std.proofs.Common.{◌≡◌, ℕ, suc, ◌+◌, List, [], ◌∷◌, ◌++◌, length, arith, ap, sym, ◌∙◌, append_assoc, append-nil, refl}
use Rattle.bus_formats.specs.Logs.{LogData}
use Rattle.bus_formats.specs.declared.form.Outcome.{Outcome}
use Rattle.bus_formats.specs.declared.form.Outcome.TheVariants.{Clear, Sent, Declined, Passed, Illegal, Busy, NoResponse, BadReply, Abandoned, Yielded}
use Rattle.bus_text.specs.Texts.{outcome_text, part_number, number, spaced}
use Rattle.bus_survey.specs.Lines.{outcome_name, fault_line, fault_lines, surveyed_line, survey_text}

-- the lines of some faults, and of those after them
pub lines-append : (n : ℕ) (xs ys : List LogData) → fault_lines n (xs ++ ys) ≡ fault_lines n xs ++ fault_lines (n + length xs) ys
lines-append n [] ys = let same : n + 0 ≡ n = omega arith in rw same refl
lines-append n (x ∷ xs) ys =
    let same : n + 1 + length xs ≡ n + suc (length xs) = omega arith in
    ap (λ l. fault_line n x.attempts ++ l) (lines-append (n + 1) xs ys)
    ∙ sym (append_assoc (fault_line n x.attempts) (fault_lines (n + 1) xs) (fault_lines (n + 1 + length xs) ys))
    ∙ ap (λ m. fault_lines n (x ∷ xs) ++ fault_lines m ys) same

-- one line more
pub lines-more : (xs : List LogData) (x : LogData) (n : ℕ) → 1 + length xs ≡ n →
    fault_lines 1 (xs ++ x ∷ []) ≡ fault_lines 1 xs ++ fault_line n x.attempts
lines-more xs x n number =
    lines-append 1 xs (x ∷ []) ∙ ap (λ l. fault_lines 1 xs ++ l) (append-nil (fault_line (1 + length xs) x.attempts))
    ∙ ap (λ m. fault_lines 1 xs ++ fault_line m x.attempts) number

-- what follows a line in the whole text
abbrev pub rest_of : List LogData → LogData → List LogData → List ℕ
rest_of xs x ys = fault_lines (1 + length xs + 1) ys ++ surveyed_line (length (xs ++ x ∷ ys))

-- the whole text around a line
pub text-around : (xs : List LogData) (x : LogData) (ys : List LogData) (n : ℕ) → 1 + length xs ≡ n →
    survey_text (xs ++ x ∷ ys) ≡ fault_lines 1 xs ++ (fault_line n x.attempts ++ rest_of xs x ys)
unfolding survey_text
text-around xs x ys n number =
    let a = fault_lines 1 xs in
    let b = fault_line (1 + length xs) x.attempts in
    let c = fault_lines (1 + length xs + 1) ys in
    let d = surveyed_line (length (xs ++ x ∷ ys)) in
    ap (λ l. l ++ d) (lines-append 1 xs (x ∷ ys)) ∙ append_assoc a (b ++ c) d ∙ ap (λ l. a ++ l) (append_assoc b c d)
    ∙ ap (λ m. a ++ (fault_line m x.attempts ++ (c ++ d))) number

-- the whole text is the lines of all faults and the last line
pub text-is : (logs : List LogData) → survey_text logs ≡ fault_lines 1 logs ++ surveyed_line (length logs)
unfolding survey_text
text-is logs = refl

-- the name of an outcome stands in front of what a report prints of it
pub reported-name : (outcome : Outcome) → (part : List ℕ) × (outcome_text outcome ≡ spaced (outcome_name outcome) ++ part)
reported-name Clear = ([], refl)
reported-name Sent = ([], refl)
reported-name Declined = ([], refl)
reported-name Passed = ([], refl)
reported-name (Illegal part) = (number (part_number part), refl)
reported-name (Busy part) = (number (part_number part), refl)
reported-name (NoResponse part) = (number (part_number part), refl)
reported-name (BadReply part) = (number (part_number part), refl)
reported-name Abandoned = ([], refl)
reported-name Yielded = ([], refl)
