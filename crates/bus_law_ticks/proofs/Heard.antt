-- What a terminal heard on one channel.
use Rattle.std.proofs.Common.{◌≡◌, suc, List, [], ◌∷◌, length, refl, ap}
use Rattle.bus_base.specs.declared.samples.Channel.{Channel}
use Rattle.bus_model.specs.Hearing.{Moment, heard_on}

-- as many samples as ticks
pub length-heard : (c : Channel) (ticks : List Moment) → length (heard_on c ticks) ≡ length ticks
length-heard c [] = refl
length-heard c (now ∷ ticks) = ap suc (length-heard c ticks)
