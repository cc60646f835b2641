use Rattle.std.proofs.Common.{◌≡◌, ◌+◌, ◌/◌, ◌%◌, ◌<◌, ◌≤◌, ◌^◌, ◌∷◌, [], ℕ, length, decimal, arith, ap, append_assoc, length-append, ◌∙◌}
use Rattle.std.proofs.lemmas.Fmt.{decimal_digit, decimal_step_wide}
use Rattle.bus_subsystem.proofs.line_text.LineText.+decimal.Goals as goal

-- the digits before the last are one fewer
shorter : (n : ℕ) → 10 ≤ n → n < 10 ^ 64 → length (decimal n) ≡ length (decimal (n / 10)) + 1
shorter n big fits = rw (decimal_step_wide n big fits) (length-append (decimal (n / 10)) ((48 + n % 10) ∷ []))

pub digit-requires-clause-room : goal.digit-requires-clause-room
digit-requires-clause-room t c =
    let one = decimal_digit c.args.n c.if-n-lt10.true in
    omega (arith, ap length one)

pub returns-then-n-lt10-clause-text : goal.returns-then-n-lt10-clause-text
returns-then-n-lt10-clause-text t c = rw (decimal_digit c.args.n c.if-n-lt10.true) c.digit.ensures.text

pub returns-then-n-lt10-clause-grows : goal.returns-then-n-lt10-clause-grows
returns-then-n-lt10-clause-grows t c = rw (decimal_digit c.args.n c.if-n-lt10.true) c.digit.ensures.grows

pub decimal-requires : goal.decimal-requires
decimal-requires t c = (omega arith, omega (arith, shorter c.args.n (omega arith) (omega arith)))

pub digit-requires-2-clause-room : goal.digit-requires-2-clause-room
digit-requires-2-clause-room t c = omega (arith, shorter c.args.n (omega arith) (omega arith), c.decimal.ensures.grows)

pub returns-clause-text : goal.returns-clause-text
returns-clause-text t c =
    rw (decimal_step_wide c.args.n (omega arith) (omega arith))
    (c.digit-2.ensures.text ∙ rw c.decimal.ensures.text (append_assoc c.args.self.now (decimal (c.args.n / 10)) _))

pub returns-clause-grows : goal.returns-clause-grows
returns-clause-grows t c =
    omega (arith, shorter c.args.n (omega arith) (omega arith), c.decimal.ensures.grows, c.digit-2.ensures.grows)
