-- Numbers that are read are in their range.
use Rattle.std.proofs.Common.{◌≡◌, ℕ, ◌<◌, ◌≤◌, length, Bool, true, false, List, Option, Some, None, refl, arith}
use Rattle.std.proofs.lemmas.Bool.Decides.{nat_tests}
use Rattle.std.specs.Prelude.{IfSome, nat_le, if◌then◌else◌}
use Rattle.bus_decimal.specs.Decimal.{is_decimal, value_of, at_most, number_up_to}

low : (most value : ℕ) (b : Bool) → nat_le value most ≡ b → IfSome (if b then Some value else None) (λ n. n ≤ most)
low most value true is = grind (arith, nat_tests, is)
low most value false is = tt

by-decimal : (most value : ℕ) (b : Bool) → IfSome (if b then at_most most value else None) (λ n. n ≤ most)
by-decimal most value true = low most value (nat_le value most) refl
by-decimal most value false = tt

pub number-low : (most : ℕ) (text : List ℕ) → IfSome (number_up_to most text) (λ n. n ≤ most)
number-low most text = by-decimal most (value_of text) (is_decimal text)

-- so many, and fewer than others
pub fewer : {A : Type 0} (o : Option (List A)) (n m : ℕ) → n < m → IfSome o (λ xs. length xs ≤ n) → IfSome o (λ xs. length xs < m)
fewer None n m less few = tt
fewer (Some xs) n m less few = omega (arith, less, few)
