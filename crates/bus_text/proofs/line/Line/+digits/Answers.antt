use Rattle.std.proofs.Common.{◌≡◌, ◌+◌, ◌/◌, ◌%◌, ◌<◌, ◌≤◌, ◌^◌, ◌∷◌, [], ℕ, length, decimal, arith, ap, append_assoc, length-append, ◌∙◌}
use Rattle.std.proofs.lemmas.Fmt.{decimal_digit, decimal_step}
use Rattle.bus_text.proofs.line.Line.+digits.Goals as goal

-- the digits before the last are one fewer
shorter : (n : ℕ) → 10 ≤ n → n < 2 ^ 64 → length (decimal n) ≡ length (decimal (n / 10)) + 1
shorter n big fits = rw (decimal_step n big fits) (length-append (decimal (n / 10)) ((48 + n % 10) ∷ []))

pub ascii-requires-clause-room : goal.ascii-requires-clause-room
ascii-requires-clause-room t c =
    let one = decimal_digit c.args.n c.if-n-lt10.true in
    omega (arith, ap length one)

pub digits-requires : goal.digits-requires
digits-requires t c = (omega arith, omega (arith, shorter c.args.n (omega arith) (omega arith)))

pub ascii-requires-2-clause-room : goal.ascii-requires-2-clause-room
ascii-requires-2-clause-room t c =
    let more : length (c.digits.new.self) ≡ length c.args.self.now + length (decimal (c.args.n / 10)) =
    ap length c.digits.ensures.text ∙ length-append c.args.self.now (decimal (c.args.n / 10)) in
    omega (arith, shorter c.args.n (omega arith) (omega arith), more)

pub returns-then-n-lt10 : goal.returns-then-n-lt10
returns-then-n-lt10 t c = record { text = rw (decimal_digit c.args.n c.if-n-lt10.true) c.ascii.ensures.text }

pub returns : goal.returns
returns t c = record {
  text = rw (decimal_step c.args.n (omega arith) (omega arith))
      (c.ascii-2.ensures.text ∙ rw c.digits.ensures.text (append_assoc c.args.self.now (decimal (c.args.n / 10)) _));
}
