-- Fewer than three words, and more than six, have no meaning.
use Rattle.std.proofs.Common.{◌≡◌, ℕ, ◌<◌, ◌≤◌, List, [], ◌∷◌, length, map, refl, arith, None}
use Rattle.bus_lines.specs.Words.{meaning, with_rest}

pub none_short : {A : Type 0} (f : A → List ℕ) (words : List A) → length words < 3 → None ≡ meaning (map f words)
none_short f [] h = refl
none_short f (a ∷ []) h = refl
none_short f (a ∷ b ∷ []) h = refl
none_short f (a ∷ b ∷ c ∷ words) h = absurd (omega arith)

pub none_long : {A : Type 0} (f : A → List ℕ) (kind first second : List ℕ) (rest : List A) → 4 ≤ length rest → None ≡ with_rest kind first second (map f rest)
none_long f kind first second [] h = absurd (omega arith)
none_long f kind first second (a ∷ []) h = absurd (omega arith)
none_long f kind first second (a ∷ b ∷ []) h = absurd (omega arith)
none_long f kind first second (a ∷ b ∷ c ∷ []) h = absurd (omega arith)
none_long f kind first second (a ∷ b ∷ c ∷ d ∷ rest) h = refl
