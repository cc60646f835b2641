-- A whole line's ticks are read at once as they are byte by byte.
use Rattle.std.proofs.Common.{◌≡◌, ℕ, zero, suc, ◌+◌, ◌*◌, ◌<◌, ◌≤◌, List, [], ◌∷◌, ◌++◌, length, reverse, refl, ap, sym, subst, ◌∙◌, arith}
use Rattle.std.specs.Prelude.{◌==◌, ◌&&◌, ◌||◌, Bool, true, false, if◌then◌else◌, Some, None, min, take, set, get_or}
use Rattle.std.proofs.lemmas.List.{reverse-append, append_assoc, length-take, take_more_set}
use Rattle.std.proofs.lemmas.Grind.{take_at_read}
use Rattle.bus_base.specs.declared.samples.Pair.{Pair}
use Rattle.bus_base.specs.declared.samples.Sample.TheVariants.{Plus, Minus, Quiet}
use Rattle.bus_capture.specs.Readings.{sample_of}
use Rattle.bus_capture.specs.Quiet.{ReadsTicks, IsFront, front_of, is_sample, are_samples, level, pairs_in}
use Rattle.bus_capture.proofs.QuietLaws.{both, quiet-none, reads-parts}
use Rattle.bus_capture.proofs.FrontLaws.{pair-reads}

-- ---- the ticks that bytes write

pairs-append : (i : ℕ) (xs : List ℕ) (x y : ℕ) → length xs ≡ 2 * i → pairs_in (xs ++ x ∷ y ∷ []) ≡ pairs_in xs ++ record { a = level x; b = level y } ∷ []
pairs-append zero [] x y long = refl
pairs-append zero (p ∷ xs) x y long = absurd (omega (arith, long))
pairs-append (suc i) [] x y long = absurd (omega (arith, long))
pairs-append (suc i) (p ∷ []) x y long = absurd (omega (arith, long))
pairs-append (suc i) (p ∷ q ∷ xs) x y long =
    ap (λ ps. record { a = level p; b = level q } ∷ ps) (pairs-append i xs x y (omega (arith, long)))

-- two bytes more
take-two : (bytes : List ℕ) (n : ℕ) → n + 1 < length bytes → take (n + 2) bytes ≡ take n bytes ++ get_or bytes n 0 ∷ get_or bytes (n + 1) 0 ∷ []
take-two bytes n within =
    let here : n < length bytes = omega (arith, within) in
    let e : (n + 1) + 1 ≡ n + 2 = omega arith in
    ap (λ k. take k bytes) (sym e) ∙ (take_at_read bytes (n + 1) 0 within).1
    ∙ ap (λ xs. xs ++ get_or bytes (n + 1) 0 ∷ []) (take_at_read bytes n 0 here).1
    ∙ append_assoc (take n bytes) (get_or bytes n 0 ∷ []) (get_or bytes (n + 1) 0 ∷ [])

-- and the tick that they write
pub pairs-more : (bytes : List ℕ) (ticks : List Pair) (i : ℕ) → 2 * i + 1 < length bytes → i < length ticks → take i ticks ≡ pairs_in (take (2 * i) bytes) →
    take (i + 1) (set ticks i record { a = level (get_or bytes (2 * i) 0); b = level (get_or bytes (2 * i + 1) 0) }) ≡ pairs_in (take (2 * (i + 1)) bytes)
pairs-more bytes ticks i within room before =
    let shown : Pair = record { a = level (get_or bytes (2 * i) 0); b = level (get_or bytes (2 * i + 1) 0) } in
    let long : length (take (2 * i) bytes) ≡ min (2 * i) (length bytes) = length-take (2 * i) bytes in
    let whole : length (take (2 * i) bytes) ≡ 2 * i = omega (arith, long, within) in
    let e : 2 * (i + 1) ≡ 2 * i + 2 = omega arith in
    take_more_set ticks i shown room
    ∙ ap (λ ps. ps ++ shown ∷ []) before
    ∙ sym (pairs-append i (take (2 * i) bytes) (get_or bytes (2 * i) 0) (get_or bytes (2 * i + 1) 0) whole)
    ∙ ap pairs_in (sym (take-two bytes (2 * i) within))
    ∙ ap (λ k. pairs_in (take k bytes)) (sym e)

-- ---- samples alone are read as the ticks that they write

level-is : (byte : ℕ) (plus minus quiet : Bool) → (byte == 43) ≡ plus → (byte == 45) ≡ minus → (byte == 46) ≡ quiet → (plus || minus || quiet) ≡ true →
    (if plus then Some Plus else if minus then Some Minus else if quiet then Some Quiet else None) ≡
    Some (if plus then Plus else if minus then Minus else Quiet)
level-is byte true minus quiet p m q is = refl
level-is byte false true quiet p m q is = refl
level-is byte false false true p m q is = refl
level-is byte false false false p m q is = absurd (cc)

level-same : (byte : ℕ) → is_sample byte ≡ true → sample_of byte ≡ Some (level byte)
level-same byte is = level-is byte (byte == 43) (byte == 45) (byte == 46) refl refl refl is

pub samples-read : (n : ℕ) (bytes : List ℕ) → length bytes ≡ 2 * n → are_samples bytes ≡ true → ReadsTicks bytes (reverse (pairs_in bytes))
samples-read zero [] long is = quiet-none
samples-read zero (a ∷ bytes) long is = absurd (omega (arith, long))
samples-read (suc n) [] long is = absurd (omega (arith, long))
samples-read (suc n) (a ∷ []) long is = absurd (omega (arith, long))
samples-read (suc n) (a ∷ b ∷ rest) long is =
    let first : (is_sample a ≡ true) × ((is_sample b && are_samples rest) ≡ true) = both (is_sample a) (is_sample b && are_samples rest) is in
    let second : (is_sample b ≡ true) × (are_samples rest ≡ true) = both (is_sample b) (are_samples rest) first.1 in
    let shown : Pair = record { a = level a; b = level b } in
    let tick : ReadsTicks (a ∷ b ∷ []) (shown ∷ []) =
    pair-reads a b (Some (level a)) (Some (level b)) shown (level-same a first.0) (level-same b second.0) refl in
    subst (λ ps. ReadsTicks (a ∷ b ∷ rest) ps) (sym (reverse-append (shown ∷ []) (pairs_in rest)))
    (reads-parts (a ∷ b ∷ []) rest (shown ∷ []) (reverse (pairs_in rest)) tick (samples-read n rest (omega (arith, long)) second.1))

-- a line of so many ticks is the front of a piece
pub line-is : (piece : List ℕ) (ticks : List Pair) (bytes count : ℕ) → bytes ≡ 2 * count → bytes ≤ length piece → count ≤ length ticks →
    are_samples (take bytes piece) ≡ true → take count ticks ≡ pairs_in (take bytes piece) → IsFront piece ticks (front_of bytes count)
line-is piece ticks bytes count two within room is copied =
    let long : length (take bytes piece) ≡ min bytes (length piece) = length-take bytes piece in
    let even : length (take bytes piece) ≡ 2 * count = omega (arith, long, within, two) in
    record {
      within = within;
      room = room;
      reads = subst (λ ps. ReadsTicks (take bytes piece) (reverse ps)) (sym copied) (samples-read count (take bytes piece) even is);
    }
