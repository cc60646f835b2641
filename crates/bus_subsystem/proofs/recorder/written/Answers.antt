use Rattle.std.proofs.Common.{ℕ, ◌<◌, ◌≤◌, ◌^◌, length, decimal, arith, ap}
use Rattle.std.proofs.lemmas.Fmt.{length-decimal-le_wide}
use Rattle.bus_subsystem.proofs.recorder.written.Goals as goal

-- a number of 128 bits has at most 39 digits
few : (n : ℕ) → n < 2 ^ 128 → length (decimal n) ≤ 39
few n fits = length-decimal-le_wide 39 n (omega arith) (omega arith) (omega arith)

pub decimal-requires : goal.decimal-requires
decimal-requires c =
    let blocks = few c.args.blocks (omega arith) in
    let none = ap length c.new-line.ensures in
    omega arith

pub text-requires-2-clause-room : goal.text-requires-2-clause-room
text-requires-2-clause-room c =
    let blocks = few c.args.blocks (omega arith) in
    let none = ap length c.new-line.ensures in
    omega arith

pub decimal-requires-2 : goal.decimal-requires-2
decimal-requires-2 c =
    let blocks = few c.args.blocks (omega arith) in
    let words = few c.args.words (omega arith) in
    let none = ap length c.new-line.ensures in
    omega arith
