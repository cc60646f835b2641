-- What a call of a source or a sink shows: what it adds, why it may fail, and what becomes of the count of faults.
use Rattle.std.specs.Prelude.{◌≡◌, ℕ, ◌+◌, ◌-◌, ◌^◌, ◌≤◌, min, List, ◌++◌, Result, Option, Some, None, Ok, Err, MatchResult, OnErr, take, ⊤, is_some}
use Rattle.std.specs.Io.KnownBytes.{Appends}

-- one more, but never past the last value of a `u64`
abbrev pub one_more : ℕ → ℕ
one_more n = min (n + 1) (2 ^ 64 - 1)

-- the count rose, or stands at its last value
abbrev pub Rose : ℕ → ℕ → Type 0
Rose before now = one_more before ≤ now

-- the count never falls, and a failure is told only where it rose or stands at its last value
pub record HasCause {T E : Type 0} (before now : ℕ) (result : Result T E) : Type 0 where
  pub later : before ≤ now
  pub failed : OnErr result (Rose before now)

-- the count after a call that counts its failure once
abbrev pub faults_after : {T E : Type 0} → Result T E → ℕ → ℕ
faults_after (Ok _) before = before
faults_after (Err _) before = one_more before

-- whether the bytes are told stays
abbrev pub SameTelling : Option (List ℕ) → Option (List ℕ) → Type 0
SameTelling old new = is_some new ≡ is_some old

-- told bytes grow by a front of the piece, of so many bytes
abbrev pub GrowsByFront : Option (List ℕ) → Option (List ℕ) → List ℕ → Type 0
GrowsByFront None new piece = ⊤
GrowsByFront (Some held) None piece = ⊥
GrowsByFront (Some held) (Some now) piece = (n : ℕ) × (now ≡ held ++ take n piece)

-- the whole piece was added at `Ok`, and a front of it at `Err`
abbrev pub WriteAdds : {T E : Type 0} → Option (List ℕ) → Option (List ℕ) → Result T E → List ℕ → Type 0
WriteAdds old new result piece = MatchResult result (λ _. Appends old new piece) (λ _. GrowsByFront old new piece)
