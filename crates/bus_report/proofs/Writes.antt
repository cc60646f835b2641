-- Writes of a text of which more follows, and of lines that a function built.
use Rattle.std.proofs.Common.{◌≡◌, ℕ, ◌+◌, ◌<◌, min, List, [], ◌++◌, length, get_or, take, Option, Some, None, arith, ap, sym, ◌∙◌, append-nil, subst}
use Rattle.std.specs.Prelude.{flat_map}
use Rattle.std.proofs.lemmas.List.{take_min, take-append-le}
use Rattle.std.specs.Io.KnownBytes.{Appends}
use Rattle.bus_outside.specs.Causes.{GrowsByFront}
use Rattle.bus_outside.proofs.Writes.{front_then, lines_more, lines_front}

-- a front of a text is one of the text with more after it
pub front_of : (a c : Option (List ℕ)) (ys zs : List ℕ) → GrowsByFront a c ys → GrowsByFront a c (ys ++ zs)
front_of None c ys zs k = tt
front_of (Some a) None ys zs k = absurd k
front_of (Some a) (Some c) ys zs k =
    let m = min k.0 (length ys) in
    let short : take m (ys ++ zs) ≡ take k.0 ys = take-append-le m ys zs (omega arith) ∙ take_min k.0 ys in
    (m, k.1 ∙ ap (λ l. a ++ l) (sym short))

-- a text was added, and a front of another
pub front_after : (a b c : Option (List ℕ)) (xs ys : List ℕ) → Appends a b xs → GrowsByFront b c ys → GrowsByFront a c (xs ++ ys)
front_after a b c xs ys h k = subst (λ zs. GrowsByFront a c (xs ++ zs)) (append-nil ys) (front_then a b c xs ys [] h k)

-- one more line was added, the piece that is the line of the element at a place
pub piece_more : {A : Type 0} (f : A → List ℕ) (a b c : Option (List ℕ)) (xs : List A) (i : ℕ) (d : A) (piece : List ℕ) → i < length xs →
    piece ≡ f (get_or xs i d) → Appends a b (flat_map f (take i xs)) → Appends b c piece → Appends a c (flat_map f (take (i + 1) xs))
piece_more f a b c xs i d piece within is h k = lines_more d f xs i a b c within h (subst (λ text. Appends b c text) is k)

-- a front of it was added
pub piece_front : {A : Type 0} (f : A → List ℕ) (a b c : Option (List ℕ)) (xs : List A) (i : ℕ) (d : A) (piece : List ℕ) → i < length xs →
    piece ≡ f (get_or xs i d) → Appends a b (flat_map f (take i xs)) → GrowsByFront b c piece → GrowsByFront a c (flat_map f xs)
piece_front f a b c xs i d piece within is h k = lines_front d f xs i a b c within h (subst (λ text. GrowsByFront b c text) is k)
