-- One channel of a past of both, and the order of a list that grows at its end.
use Rattle.std.proofs.Common.{◌≡◌, suc, List, [], ◌∷◌, ◌++◌, length, refl, ap}
use Rattle.bus_base.specs.Samples.{sample_on}
use Rattle.bus_base.specs.declared.samples.Channel.{Channel}
use Rattle.bus_base.specs.declared.samples.Pair.{Pair}
use Rattle.bus_line.specs.Channels.{on_channel}

-- a channel has as many ticks as both
pub length-on : (c : Channel) (past : List Pair) → length (on_channel c past) ≡ length past
length-on c [] = refl
length-on c (shown ∷ past) = ap suc (length-on c past)

-- a channel of two parts of a past
pub on-append : (c : Channel) (later past : List Pair) → on_channel c (later ++ past) ≡ on_channel c later ++ on_channel c past
on-append c [] past = refl
on-append c (shown ∷ later) past = ap (λ xs. sample_on shown c ∷ xs) (on-append c later past)
