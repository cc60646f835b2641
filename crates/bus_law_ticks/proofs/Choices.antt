-- Facts of a choice by its test.
use Rattle.std.proofs.Common.{◌≡◌, Bool, true, false, refl, if◌then◌else◌}

-- what holds of both branches holds of the choice
pub by-test : {X : Type 0} (P : X → Type 0) (b : Bool) (x y : X) → (b ≡ true → P x) → (b ≡ false → P y) → P (if b then x else y)
by-test P true x y f g = f refl
by-test P false x y f g = g refl
