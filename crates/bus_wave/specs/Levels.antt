-- What both channels show as one number. Nothing here has to be believed.
use Rattle.std.specs.Prelude.{ℕ, zero, suc, ◌+◌, ◌*◌, ◌/◌, ◌%◌, List, ◌∷◌, []}
use Rattle.bus_base.specs.declared.samples.Pair.{Pair}
use Rattle.bus_base.specs.declared.samples.Sample.{Sample}
use Rattle.bus_base.specs.declared.samples.Sample.TheVariants.{Plus, Minus, Quiet}

abbrev pub sample_code : Sample → ℕ
sample_code Plus = 0
sample_code Minus = 1
sample_code Quiet = 2

abbrev pub sample_of : ℕ → Sample
sample_of zero = Plus
sample_of (suc zero) = Minus
sample_of (suc (suc n)) = Quiet

-- below 16
abbrev pub code_of : Pair → ℕ
code_of shown = sample_code shown.a + 4 * sample_code shown.b

abbrev pub shown_in : ℕ → Pair
shown_in code = record { a = sample_of (code % 4); b = sample_of (code / 4 % 4) }

-- the last four digits of a time
abbrev pub four_digits : ℕ → List ℕ
four_digits n = (48 + n / 100 / 10) ∷ (48 + n / 100 % 10) ∷ (48 + n % 100 / 10) ∷ (48 + n % 100 % 10) ∷ []
