-- Lists of positions in the forty samples of a word (0 to 39), and the sets that they name.
use Rattle.std.specs.Prelude.{ℕ, ◌+◌, ◌<◌, ◌≤◌, ◌≡◌, ◌⊎◌, Bool, false, ◌==◌, List, map, length, get_or}
use Rattle.std.specs.List.{range_with_len, list_any}

-- whether the list names a position
unfoldable pub names : List ℕ → ℕ → Bool
names positions p = list_any (λ q. q == p) positions

-- the set of the positions of a list, as one flag for each of the forty samples of a word
unfoldable pub set_of : List ℕ → List Bool
set_of positions = map (names positions) (range_with_len 0 40)

-- whether a set takes a position
abbrev pub takes : List Bool → ℕ → Bool
takes set p = get_or set p false

-- the number lies from the lowest to the highest
abbrev pub IsBetween : ℕ → ℕ → ℕ → Type 0
IsBetween lowest highest n = (lowest ≤ n) × (n ≤ highest)

-- each position lies from the lowest to the highest
abbrev pub IsWithin : ℕ → ℕ → List ℕ → Type 0
IsWithin lowest highest positions = (i : ℕ) → i < length positions → IsBetween lowest highest (get_or positions i 0)

-- the place is the first whose position is below the lowest or above the highest
pub record IsFirstOutside (lowest highest : ℕ) (positions : List ℕ) (place : ℕ) : Type 0 where
  pub within : place < length positions
  pub outside : (get_or positions place 0 < lowest) ⊎ (highest < get_or positions place 0)
  pub before : (i : ℕ) → i < place → IsBetween lowest highest (get_or positions i 0)

-- each position is above the one before
abbrev pub Rises : List ℕ → Type 0
Rises positions = (i : ℕ) → i + 1 < length positions → get_or positions i 0 < get_or positions (i + 1) 0

-- the place is the first whose position isn't above the one before
pub record IsFirstUnordered (positions : List ℕ) (place : ℕ) : Type 0 where
  pub within : place < length positions
  pub after : 0 < place
  pub falls : (i : ℕ) → i + 1 ≡ place → get_or positions place 0 ≤ get_or positions i 0
  pub before : (i : ℕ) → i + 1 < place → get_or positions i 0 < get_or positions (i + 1) 0
