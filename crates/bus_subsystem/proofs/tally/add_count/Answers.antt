use Rattle.std.proofs.Common.{ℕ, ◌<◌, ◌≤◌, ◌^◌, length, decimal, arith}
use Rattle.std.proofs.lemmas.Fmt.{length-decimal-le}
use Rattle.bus_subsystem.proofs.tally.add_count.Goals as goal

-- a subaddress has at most two digits
two : (n : ℕ) → n < 31 → length (decimal n) ≤ 2
two n small = length-decimal-le 2 n (omega arith) (omega arith) (omega arith)

-- a number of 32 bits has at most ten digits
ten : (n : ℕ) → n < 2 ^ 32 → length (decimal n) ≤ 10
ten n fits = length-decimal-le 10 n (omega arith) (omega arith) (omega arith)

pub decimal-requires : goal.decimal-requires
decimal-requires c = let sub = two c.args.sub (omega arith) in omega arith

pub text-requires-2-clause-room : goal.text-requires-2-clause-room
text-requires-2-clause-room c = let sub = two c.args.sub (omega arith) in omega arith

pub decimal-requires-2 : goal.decimal-requires-2
decimal-requires-2 c =
    let sub = two c.args.sub (omega arith) in
    let count = ten c.args.count (omega arith) in
    omega arith

pub returns-clause-grows : goal.returns-clause-grows
returns-clause-grows c =
    let sub = two c.args.sub (omega arith) in
    let count = ten c.args.count (omega arith) in
    omega arith
