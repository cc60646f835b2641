use Rattle.std.proofs.Common.{rules, ◌≡◌, ◌≤◌, length, decimal, ap, ◌∙◌, arith}
use Rattle.std.proofs.lemmas.Fmt.{length-decimal-le}
use Rattle.bus_wave.proofs.stamp.Stamp.of.Goals as goal

pub slice_bounds-bytes-end : goal.slice_bounds-bytes-end
slice_bounds-bytes-end c =
    let few : length (decimal c.args.number) ≤ 15 = length-decimal-le 15 c.args.number (omega arith) c.requires (omega (arith, c.requires)) in
    let same : length c.as_bytes-digits.result.now ≡ length (decimal c.args.number) = ap length (c.as_bytes-digits.ensures.value ∙ c.format.ensures.text) in
    search (rules, few, same)
