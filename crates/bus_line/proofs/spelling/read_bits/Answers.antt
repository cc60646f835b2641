use Rattle.std.proofs.Common.{◌≡◌, ◌+◌, ◌*◌, ◌≤◌, refl, sym, arith, rules, below_more}
use Rattle.bus_line.specs.Spelling.{number_of}
use Rattle.bus_line.proofs.Numbers.{number_fits, number_step}
use Rattle.bus_line.proofs.Guessed.{firsts, first_is, pair_is, bits_spelled}
use Rattle.bus_line.proofs.spelling.read_bits.Goals as goal

pub loop-place-init : goal.loop-place-init
unfolding number_of
loop-place-init c = record { number = refl; pairs = λ i h. absurd (omega (arith, h)) }

pub overflow_mul-bits : goal.overflow_mul-bits
overflow_mul-bits c =
    omega (arith, c.loop-place.invariant.number, number_fits (firsts c.args.samples.now) c.loop-place.place (omega arith))

pub overflow_add-bits : goal.overflow_add-bits
overflow_add-bits c =
    let byte : c.from.result ≤ 1 = search rules in
    omega (arith, c.loop-place.invariant.number, number_fits (firsts c.args.samples.now) c.loop-place.place (omega arith))

pub loop-place-preserved : goal.loop-place-preserved
loop-place-preserved c =
    let s = c.args.samples.now in
    let place = c.loop-place.place in
    let one = c.in_ok-one.one in
    record {
      number = number_step (firsts s) place c.loop-place.bits c.from.result one c.loop-place.invariant.number c.from.ensures
          (sym (first_is s (6 + 2 * place) one c.in_ok-one.ensures));
      pairs = below_more _ _ c.loop-place.invariant.pairs (pair_is s place one c.in_ok-one.ensures);
    }

pub returns : goal.returns
returns c =
    let whole : c.loop-place.place ≡ 16 = omega arith in
    bits_spelled c.args.samples.now c.loop-place.place c.loop-place.bits whole c.loop-place.invariant.number c.loop-place.invariant.pairs
