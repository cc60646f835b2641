-- Fade sets: one to three samples of a word, none of its first three and not its last. So a word
-- that fades keeps its first and last tick, and is nowhere quiet for four ticks, which would end its burst.
use Rattle.std.specs.Prelude.{◌≡◌, ◌≢◌, ℕ, ◌<◌, ◌≤◌, List, [], length}
use Rattle.bus_base.specs.Positions.{IsWithin, IsFirstOutside, Rises, IsFirstUnordered}
use Rattle.bus_base.specs.declared.fades.FadeRefusal.{FadeRefusal}
use Rattle.bus_base.specs.declared.fades.FadeRefusal.TheVariants.{Empty, Position, Order, Count}

-- the list is refused so: each refusal only where none before it holds
abbrev pub IsRefused : List ℕ → FadeRefusal → Type 0
IsRefused positions Empty = positions ≡ []
IsRefused positions (Position place) = IsFirstOutside 3 38 positions place
IsRefused positions (Order place) = IsWithin 3 38 positions × IsFirstUnordered positions place
IsRefused positions Count = IsWithin 3 38 positions × Rises positions × (3 < length positions)

-- no refusal holds
pub record IsFade (positions : List ℕ) : Type 0 where
  pub some : positions ≢ []
  pub within : IsWithin 3 38 positions
  pub rises : Rises positions
  pub few : length positions ≤ 3
