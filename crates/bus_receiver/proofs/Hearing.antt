-- How long a past of both channels is.
use Rattle.std.proofs.Common.{◌≡◌, suc, ◌≤◌, inl, inr, List, [], ◌∷◌, length, refl, ap, arith}
use Rattle.std.proofs.lemmas.Bool.{cases_Bool}
use Rattle.bus_base.specs.declared.samples.Channel.{Channel}
use Rattle.bus_base.specs.declared.samples.Pair.{Pair}
use Rattle.bus_line.specs.Channels.{on_channel, quiet_both, both_quiet}

-- each tick shows one sample on each channel
pub length-on : (c : Channel) (past : List Pair) → length (on_channel c past) ≡ length past
length-on c [] = refl
length-on c (shown ∷ past) = ap suc (length-on c past)

-- both channels were quiet in no more ticks than there are
pub quiet_both-le : (past : List Pair) → quiet_both past ≤ length past
quiet_both-le [] = omega arith
quiet_both-le (shown ∷ past) = elim (cases_Bool (both_quiet shown)) [
  | inl q ↦ (let rest : quiet_both past ≤ length past = quiet_both-le past in rw q (omega (arith, rest)))
  | inr p ↦ rw p (omega arith)
]
