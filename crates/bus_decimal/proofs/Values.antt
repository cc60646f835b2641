-- The value of digits grows with each digit.
use Rattle.std.proofs.Common.{◌≡◌, ℕ, ◌+◌, ◌*◌, ◌-◌, ◌<◌, ◌≤◌, List, [], ◌∷◌, drop, length, get_or, arith, refl, sym, ◌∙◌, None}
use Rattle.std.specs.Prelude.{nat_le}
use Rattle.std.proofs.lemmas.List.{at_drop_more}
use Rattle.std.proofs.lemmas.Bool.Decides.{nat_tests}
use Rattle.bus_decimal.specs.Decimal.{value_after, at_most}

grows : (value : ℕ) (digits : List ℕ) → value ≤ value_after value digits
grows value [] = omega arith
grows value (digit ∷ digits) = let later = grows (10 * value + (digit - 48)) digits in omega (arith, later)

too-great : (most value : ℕ) → most < value → at_most most value ≡ None
too-great most value above = let test : nat_le most value ≡ nat_le most value = refl in grind (arith, nat_tests, above)

-- a number that is too great after the next digit is too great in the end
pub too-great-from : (most value n : ℕ) (digits : List ℕ) (i d digit : ℕ) → i < length digits → value_after value (drop i digits) ≡ n →
    digit ≡ get_or digits i d - 48 → most < 10 * value + digit → None ≡ at_most most n
too-great-from most value n digits i d digit within is read above =
    let next : value_after (10 * value + (get_or digits i d - 48)) (drop (i + 1) digits) ≡ n = sym (at_drop_more (λ ds. value_after value ds) digits i d within) ∙ is in
    let later = grows (10 * value + (get_or digits i d - 48)) (drop (i + 1) digits) in
    sym (too-great most n (omega (arith, above, later, next, read)))
