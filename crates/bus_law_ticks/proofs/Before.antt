-- The ticks before a tick.
use Rattle.std.proofs.Common.{◌≡◌, ℕ, suc, ◌-◌, ◌≤◌, List, ◌∷◌, length, refl, arith}
use Rattle.bus_model.specs.Hearing.{Moment}
use Rattle.bus_law_ticks.specs.Ticks.{before}

-- before the tick to come they are all
pub before-all : (ticks : List Moment) → before (length ticks) ticks ≡ ticks
before-all ticks = let none : length ticks - length ticks ≡ 0 = omega arith in rw none refl

-- one tick more changes nothing of those before an earlier one
pub before-more : (now : Moment) (past : List Moment) (t : ℕ) → t ≤ length past → before t (now ∷ past) ≡ before t past
before-more now past t within = let more : suc (length past) - t ≡ suc (length past - t) = omega (arith, within) in rw more refl
