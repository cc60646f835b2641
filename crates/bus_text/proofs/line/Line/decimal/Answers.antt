use Rattle.std.proofs.Common.{◌≡◌, ◌+◌, ◌≤◌, length, decimal, arith, ap, length-append, ◌∙◌}
use Rattle.std.proofs.lemmas.Fmt.{length-decimal-le}
use Rattle.bus_text.proofs.line.Line.decimal.Goals as goal

pub digits-requires : goal.digits-requires
digits-requires c = let few = length-decimal-le 20 c.args.n (omega arith) (omega arith) (omega arith) in omega arith

pub returns-clause-grows : goal.returns-clause-grows
returns-clause-grows c =
    let few : length (decimal c.args.n) ≤ 20 = length-decimal-le 20 c.args.n (omega arith) (omega arith) (omega arith) in
    let more : length c.digits.new.self ≡ length c.args.self.now + length (decimal c.args.n) =
    ap length c.digits.ensures.text ∙ length-append c.args.self.now (decimal c.args.n) in
    omega arith
