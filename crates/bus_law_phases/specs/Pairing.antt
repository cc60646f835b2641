-- Two lists item by item.
use Rattle.std.specs.Prelude.{List, [], ◌∷◌}

-- the lists are equally long, and each item stands so to the one at its place in the other list
abbrev pub Beside : {X Y : Type 0} → (X → Y → Type 0) → List X → List Y → Type 0
Beside R [] [] = Unit {0}
Beside R (x ∷ xs) (y ∷ ys) = R x y × Beside R xs ys
Beside R _ _ = ⊥
