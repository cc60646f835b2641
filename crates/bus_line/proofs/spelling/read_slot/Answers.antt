use Rattle.std.proofs.Common.{◌≡◌, ℕ, ◌+◌, ◌%◌, Bool, true, false, if◌then◌else◌, arith, rules}
use mathlib.Core.Bool.{beq}
use Rattle.bus_line.proofs.Guessed.{word_in-read, even_is_none}
use Rattle.bus_line.proofs.spelling.read_slot.Goals as goal

-- a further bit other than the parity bit leaves an even number of ones
other_is_even : (further parity : Bool) (ones : ℕ) → (ones + (if parity then 1 else 0)) % 2 ≡ 1 → beq further parity ≡ false →
    (ones + (if further then 1 else 0)) % 2 ≡ 1 → ⊥
other_is_even true true ones h other odd = cc
other_is_even true false ones h other odd = omega (arith, h, odd)
other_is_even false true ones h other odd = omega (arith, h, odd)
other_is_even false false ones h other odd = cc

pub returns-in_err-sync-clause-value : goal.returns-in_err-sync-clause-value
returns-in_err-sync-clause-value c = word_in-read c.args.samples.now _ (search rules)

pub returns-in_err-bits-clause-value : goal.returns-in_err-bits-clause-value
returns-in_err-bits-clause-value c = word_in-read c.args.samples.now _ (search rules)

pub returns-in_err-further-clause-value : goal.returns-in_err-further-clause-value
returns-in_err-further-clause-value c = word_in-read c.args.samples.now _ (search rules)

pub returns-then-further-parity-clause-value : goal.returns-then-further-parity-clause-value
returns-then-further-parity-clause-value c = word_in-read c.args.samples.now _ (search rules)

pub returns-else-further-parity-clause-reads : goal.returns-else-further-parity-clause-reads
returns-else-further-parity-clause-reads c =
    even_is_none c.args.samples.now c.in_ok-bits.bits c.in_ok-further.further (omega arith) c.in_ok-bits.ensures c.in_ok-further.ensures
    (other_is_even c.in_ok-further.further c.parity.result _ c.parity.ensures.odd c.if-further-parity.false)

pub returns-else-further-parity-clause-value : goal.returns-else-further-parity-clause-value
returns-else-further-parity-clause-value c = word_in-read c.args.samples.now _ (returns-else-further-parity-clause-reads c)
