-- The line of a refused plan, piece by piece.
use Rattle.std.proofs.Common.{◌≡◌, ℕ, List, [], ◌∷◌, ◌++◌, Option, Some, None, refl, ap, sym, ◌∙◌, append-nil, append_assoc}
use Rattle.bus_text.specs.Texts.{line, number, spaced}
use Rattle.bus_tool.specs.Due.{place_text}

-- a place after a blank, or none
pub place-some : (before blank told s place : List ℕ) (o : Option (List ℕ)) → told ≡ blank ++ s → blank ≡ before ++ 32 ∷ [] → s ≡ place → o ≡ Some place →
    told ≡ before ++ place_text o
place-some before blank told s place o is blanked same some =
    is ∙ ap (λ (l : List ℕ). l ++ s) blanked ∙ append_assoc before (32 ∷ []) s ∙ ap (λ (l : List ℕ). before ++ 32 ∷ l) same
    ∙ ap (λ (p : Option (List ℕ)). before ++ place_text p) (sym some)

pub place-none : (before told : List ℕ) (o : Option (List ℕ)) → told ≡ before → o ≡ None → told ≡ before ++ place_text o
place-none before told o is none = is ∙ sym (append-nil before) ∙ ap (λ (p : Option (List ℕ)). before ++ place_text p) (sym none)

-- a beginning, a number, a blank, a name, a place and the line's end
pub line-told : (l0 l1 l2 l3 l4 l5 told beginning found name place : List ℕ) (n m : ℕ) → l0 ≡ [] → l1 ≡ l0 ++ beginning → n ≡ m → l2 ≡ l1 ++ number n →
    l3 ≡ l2 ++ 32 ∷ [] → l4 ≡ l3 ++ found → found ≡ name → l5 ≡ l4 ++ place → told ≡ line l5 →
    told ≡ line (beginning ++ number m ++ spaced name ++ place)
line-told l0 l1 l2 l3 l4 l5 told beginning found name place n m e0 e1 em e2 e3 e4 en e5 et =
    let pieces : told ≡ ((((beginning ++ number m) ++ 32 ∷ []) ++ name) ++ place) ++ 10 ∷ [] = rw (et, e5, e4, en, e3, e2, em, e1, e0) refl in
    pieces ∙ ap (λ (l : List ℕ). (l ++ place) ++ 10 ∷ []) (append_assoc (beginning ++ number m) (32 ∷ []) name)
