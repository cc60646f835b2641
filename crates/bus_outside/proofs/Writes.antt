-- Writes one after another.
use Rattle.std.proofs.Common.{◌≡◌, ℕ, ◌+◌, ◌-◌, ◌<◌, min, List, [], ◌∷◌, ◌++◌, get_or, add-one, length, take, drop, Option, Some, None, arith, ap, sym, ◌∙◌, append_assoc, append-nil, subst, Result, Ok, Err}
use Rattle.std.proofs.Math.Seq.{take-append-add, take-add, drop-cons}
use Rattle.std.specs.List.{flat_map}
use Rattle.std.proofs.lemmas.Grind.{common_steps, flat_map-append, take_at_read}
use Rattle.std.proofs.lemmas.List.{take_min, take-append-le, take-append-drop}
use Rattle.std.specs.Io.KnownBytes.{Appends, Keeps}
use Rattle.bus_outside.specs.Causes.{GrowsByFront, WriteAdds}

-- What two writes add one after the other is both pieces.
pub appends_then : (a b c : Option (List ℕ)) (xs ys : List ℕ) → Appends a b xs → Appends b c ys → Appends a c (xs ++ ys)
appends_then None b c xs ys h k = tt
appends_then (Some a) None c xs ys h k = absurd h
appends_then (Some a) (Some b) None xs ys h k = absurd k
appends_then (Some a) (Some b) (Some c) xs ys h k = rw (k, h) (append_assoc a xs ys)

-- A whole piece and a front of the next are a front of both with whatever follows.
pub front_then : (a b c : Option (List ℕ)) (xs ys zs : List ℕ) → Appends a b xs → GrowsByFront b c ys → GrowsByFront a c (xs ++ (ys ++ zs))
front_then None b c xs ys zs h k = tt
front_then (Some a) None c xs ys zs h k = absurd h
front_then (Some a) (Some b) None xs ys zs h k = absurd k
front_then (Some a) (Some b) (Some c) xs ys zs h k =
    let m = min k.0 (length ys) in
    let short : take m (ys ++ zs) ≡ take k.0 ys = take-append-le m ys zs (omega arith) ∙ take_min k.0 ys in
    (length xs + m, k.1 ∙ ap (λ l. l ++ take k.0 ys) h ∙ append_assoc a xs (take k.0 ys) ∙ ap (λ l. a ++ l) (sym (take-append-add xs (ys ++ zs) m ∙ ap (λ l. xs ++ l) short)))

-- A write after whole pieces adds both whole, or a front of both.
pub write_then : {T E : Type 0} (a b c : Option (List ℕ)) (xs ys : List ℕ) (r : Result T E) → Appends a b xs → WriteAdds b c r ys → WriteAdds a c r (xs ++ ys)
write_then a b c xs ys (Ok x) h k = appends_then a b c xs ys h k
write_then a b c xs ys (Err x) h k = subst (λ zs. GrowsByFront a c (xs ++ zs)) (append-nil ys) (front_then a b c xs ys [] h k)

-- Where nothing is added, what was added before stays.
pub appends_keeps : (a b c : Option (List ℕ)) (xs : List ℕ) → Appends a b xs → Keeps b c → Appends a c xs
appends_keeps None b c xs h k = tt
appends_keeps (Some a) None c xs h k = absurd h
appends_keeps (Some a) (Some b) None xs h k = absurd k
appends_keeps (Some a) (Some b) (Some c) xs h k = k ∙ h

-- The rest of a piece from a place on.
pub rest_is : (at : ℕ) (xs : List ℕ) → take (length xs - at) (drop at xs) ≡ drop at xs
rest_is at xs = grind (arith, common_steps)

-- A front of the rest that was added makes the front of the piece longer.
pub front_grows : (a b c : Option (List ℕ)) (at n : ℕ) (xs : List ℕ) → Appends a b (take at xs) →
    Appends b c (take n (take (length xs - at) (drop at xs))) → Appends a c (take (at + n) xs)
front_grows a b c at n xs h k =
    let more : Appends b c (take n (drop at xs)) = rw rest_is at k in
    rw take-add (appends_then a b c (take at xs) (take n (drop at xs)) h more)

-- Lines that are written one by one, and the one at a place among them.
pub lines_split : {A : Type 0} (d : A) (f : A → List ℕ) (xs : List A) (i : ℕ) → i < length xs →
    flat_map f xs ≡ flat_map f (take i xs) ++ (f (get_or xs i d) ++ flat_map f (drop (i + 1) xs))
lines_split d f xs i within =
    ap (λ l. flat_map f l) (sym (take-append-drop i xs)) ∙ flat_map-append f (take i xs) (drop i xs)
    ∙ ap (λ l. flat_map f (take i xs) ++ flat_map f l) (drop-cons xs i d within ∙ ap (λ n. get_or xs i d ∷ drop n xs) (sym (add-one i)))

-- One line more was written.
pub lines_more : {A : Type 0} (d : A) (f : A → List ℕ) (xs : List A) (i : ℕ) (a b c : Option (List ℕ)) → i < length xs →
    Appends a b (flat_map f (take i xs)) → Appends b c (f (get_or xs i d)) → Appends a c (flat_map f (take (i + 1) xs))
lines_more d f xs i a b c within h k =
    let taken : flat_map f (take (i + 1) xs) ≡ flat_map f (take i xs) ++ f (get_or xs i d) =
    ap (λ l. flat_map f l) (take_at_read xs i d within).1 ∙ flat_map-append f (take i xs) (get_or xs i d ∷ [])
    ∙ ap (λ l. flat_map f (take i xs) ++ l) (append-nil (f (get_or xs i d))) in
    rw taken (appends_then a b c (flat_map f (take i xs)) (f (get_or xs i d)) h k)

-- A front of the next line was written: with the lines before it, a front of all.
pub lines_front : {A : Type 0} (d : A) (f : A → List ℕ) (xs : List A) (i : ℕ) (a b c : Option (List ℕ)) → i < length xs →
    Appends a b (flat_map f (take i xs)) → GrowsByFront b c (f (get_or xs i d)) → GrowsByFront a c (flat_map f xs)
lines_front d f xs i a b c within h k =
    rw (lines_split d f xs i within)
    (front_then a b c (flat_map f (take i xs)) (f (get_or xs i d)) (flat_map f (drop (i + 1) xs)) h k)
