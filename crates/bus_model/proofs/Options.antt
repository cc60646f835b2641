-- An option is none, or some value.
use Rattle.std.proofs.Common.{◌≡◌, ◌⊎◌, inl, inr, refl}
use Rattle.std.specs.Prelude.{Option, Some, None}

pub cases-option : {X : Type 0} (o : Option X) → (o ≡ None) ⊎ ((a : X) × (o ≡ Some a))
cases-option None = inl refl
cases-option (Some a) = inr (a, refl)
