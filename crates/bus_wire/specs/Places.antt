-- Places of stations in a row, and which drives may be looked at alone.
use Rattle.std.specs.Prelude.{◌≡◌, ℕ, suc, ◌≤◌, ◌==◌, Bool, false, List, [], ◌∷◌, slice_get, Some}
use Rattle.std.specs.List.{list_any}
use Rattle.bus_base.specs.declared.samples.Drive.{Drive}
use Rattle.bus_base.specs.declared.samples.Drive.TheVariants.{Silent}

-- places from one on and below another, each after the one before it
abbrev pub AreRising : ℕ → ℕ → List ℕ → Type 0
AreRising from end [] = from ≤ end
AreRising from end (place ∷ places) = (from ≤ place) × AreRising (suc place) end places

-- a place is one of these
abbrev pub is_among : ℕ → List ℕ → Bool
is_among i places = list_any (λ place. place == i) places

-- the stations from one on drive nothing but at these places
abbrev pub AreSilentBeside : ℕ → List ℕ → List Drive → Type 0
AreSilentBeside from places drives =
    (i : ℕ) (drive : Drive) → from ≤ i → slice_get drives i ≡ Some drive → is_among i places ≡ false → drive ≡ Silent
