use Rattle.std.proofs.Common.{◌≡◌, ℕ, ◌+◌, ◌*◌, ◌%◌, Bool, true, false, if◌then◌else◌, arith}
use mathlib.Core.Bool.{beq}
use Rattle.bus_line.specs.Spelling.{is_one}
use Rattle.bus_planes.specs.Bits.{shown}
use Rattle.bus_line.proofs.Guessed.{even_is_none}
use Rattle.bus_line.proofs.Numbers.{number_below}
use Rattle.bus_planes.proofs.Shown.{shown-long}
use Rattle.bus_planes.proofs.PairLaws.{pairs-spell, last-spells}
use Rattle.bus_planes.proofs.slot.read_word.Goals as goal

-- a further bit other than the parity bit leaves an even number of ones
other_is_even : (further parity : Bool) (ones : ℕ) → (ones + (if parity then 1 else 0)) % 2 ≡ 1 → beq further parity ≡ false →
    (ones + (if further then 1 else 0)) % 2 ≡ 1 → ⊥
other_is_even true true ones h other odd = cc
other_is_even true false ones h other odd = omega (arith, h, odd)
other_is_even false true ones h other odd = omega (arith, h, odd)
other_is_even false false ones h other odd = cc

-- the parity bit leaves an odd number of ones
same_is_odd : (further parity : Bool) (ones : ℕ) → (ones + (if parity then 1 else 0)) % 2 ≡ 1 → beq further parity ≡ true →
    (ones + (if further then 1 else 0)) % 2 ≡ 1
same_is_odd true true ones h same = h
same_is_odd true false ones h same = cc
same_is_odd false true ones h same = cc
same_is_odd false false ones h same = h

pub returns-then-further-parity : goal.returns-then-further-parity
returns-then-further-parity c = record {
  in_range = omega (arith, c.firsts-bits.ensures, number_below (λ i. is_one c.args.plus (6 + 2 * i)) 16);
  forty = shown-long c.args.plus;
  sync = c.requires.sync;
  bits = pairs-spell c.args.plus c.firsts-bits.result c.requires.pairs c.firsts-bits.ensures;
  further = is_one c.args.plus 38;
  parity = last-spells c.args.plus c.requires.pairs;
  odd = same_is_odd (is_one c.args.plus 38) c.parity.result _ c.parity.ensures.odd c.if-further-parity.true;
}

pub returns-else-further-parity : goal.returns-else-further-parity
returns-else-further-parity c =
    even_is_none (shown c.args.plus) c.firsts-bits.result (is_one c.args.plus 38)
    (omega (arith, c.firsts-bits.ensures, number_below (λ i. is_one c.args.plus (6 + 2 * i)) 16))
    (pairs-spell c.args.plus c.firsts-bits.result c.requires.pairs c.firsts-bits.ensures) (last-spells c.args.plus c.requires.pairs)
    (other_is_even (is_one c.args.plus 38) c.parity.result _ c.parity.ensures.odd c.if-further-parity.false)
