-- How much room the objects for subsystems have.
use Rattle.std.specs.Prelude.{ℕ, ◌≤◌, List}
use Rattle.std.specs.List.{AllZip}

-- each of them has no less room than before, in their order
abbrev pub KeepRoom : List ℕ → List ℕ → Type 0
KeepRoom before after = AllZip (λ old now. old ≤ now) before after
