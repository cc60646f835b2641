-- The lines of attempts, which are numbered.
use Rattle.std.proofs.Common.{◌≡◌, ℕ, zero, suc, ◌+◌, ◌<◌, List, [], ◌∷◌, ◌++◌, length, get_or, take, drop, Option, arith, ap, sym, ◌∙◌, append_assoc, append-nil, add-one, subst, refl}
use Rattle.std.specs.Io.KnownBytes.{Appends}
use Rattle.bus_formats.specs.declared.log.Attempt.{Attempt}
use Rattle.bus_outside.specs.Causes.{GrowsByFront}
use Rattle.bus_report.specs.Report.{attempt_line, attempt_lines}
use Rattle.bus_outside.proofs.Writes.{appends_then, front_then}

-- the lines before a place, and the one there
next_line : (n : ℕ) (xs : List Attempt) (i : ℕ) (d : Attempt) → i < length xs →
    attempt_lines n (take (suc i) xs) ≡ attempt_lines n (take i xs) ++ attempt_line (n + i) (get_or xs i d)
next_line n [] i d within = absurd (omega (arith, within))
next_line n (x ∷ xs) zero d within = let first : n + 0 ≡ n = omega arith in rw (first, append-nil (attempt_line n x)) refl
next_line n (x ∷ xs) (suc i) d within =
    let more = next_line (n + 1) xs i d (omega (arith, within)) in
    let place : n + 1 + i ≡ n + suc i = omega arith in
    rw (more, place) (sym (append_assoc (attempt_line n x) (attempt_lines (n + 1) (take i xs)) (attempt_line (n + suc i) (get_or xs i d))))

-- all lines are those before a place, the one there, and the rest
split_lines : (n : ℕ) (xs : List Attempt) (i : ℕ) (d : Attempt) → i < length xs →
    attempt_lines n xs ≡ attempt_lines n (take i xs) ++ (attempt_line (n + i) (get_or xs i d) ++ attempt_lines (n + suc i) (drop (suc i) xs))
split_lines n [] i d within = absurd (omega (arith, within))
split_lines n (x ∷ xs) zero d within = let first : n + 0 ≡ n = omega arith in rw first refl
split_lines n (x ∷ xs) (suc i) d within =
    let more = split_lines (n + 1) xs i d (omega (arith, within)) in
    let place : n + 1 + i ≡ n + suc i = omega arith in
    let after : n + 1 + suc i ≡ n + suc (suc i) = omega arith in
    rw (more, place, after) (sym (append_assoc (attempt_line n x) (attempt_lines (n + 1) (take i xs)) (attempt_line (n + suc i) (get_or xs i d) ++ attempt_lines (n + suc (suc i)) (drop (suc i) xs))))

pub numbered_more : (a b c : Option (List ℕ)) (xs : List Attempt) (i : ℕ) (d : Attempt) (piece : List ℕ) → i < length xs →
    piece ≡ attempt_line (1 + i) (get_or xs i d) → Appends a b (attempt_lines 1 (take i xs)) → Appends b c piece → Appends a c (attempt_lines 1 (take (i + 1) xs))
numbered_more a b c xs i d piece within is h k =
    let next : Appends b c (attempt_line (1 + i) (get_or xs i d)) = subst (λ text. Appends b c text) is k in
    rw (add-one i, next_line 1 xs i d within) (appends_then a b c (attempt_lines 1 (take i xs)) (attempt_line (1 + i) (get_or xs i d)) h next)

pub numbered_front : (a b c : Option (List ℕ)) (xs : List Attempt) (i : ℕ) (d : Attempt) (piece : List ℕ) → i < length xs →
    piece ≡ attempt_line (1 + i) (get_or xs i d) → Appends a b (attempt_lines 1 (take i xs)) → GrowsByFront b c piece → GrowsByFront a c (attempt_lines 1 xs)
numbered_front a b c xs i d piece within is h k =
    let next : GrowsByFront b c (attempt_line (1 + i) (get_or xs i d)) = subst (λ text. GrowsByFront b c text) is k in
    subst (λ text. GrowsByFront a c text) (sym (split_lines 1 xs i d within))
    (front_then a b c (attempt_lines 1 (take i xs)) (attempt_line (1 + i) (get_or xs i d)) (attempt_lines (1 + suc i) (drop (suc i) xs)) h next)

-- the line of the attempt at a place, counted from 1
pub numbered_piece : (xs : List Attempt) (i : ℕ) (x : Attempt) (piece : List ℕ) → x ≡ get_or xs i x → piece ≡ attempt_line (i + 1) x →
    piece ≡ attempt_line (1 + i) (get_or xs i x)
numbered_piece xs i x piece at is =
    let number : i + 1 ≡ 1 + i = omega arith in
    is ∙ ap (λ n. attempt_line n x) number ∙ ap (attempt_line (1 + i)) at
