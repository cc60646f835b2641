-- Pairings that are read one after the other.
use Rattle.std.proofs.Common.{◌≡◌, ℕ, ◌+◌, List, Option, None, add-one, refl, sym, subst, ◌∙◌}
use Rattle.bus_bridge.specs.Headers.{place_of, pairings_by, pairings_in}
use Rattle.bus_bridge.specs.declared.pairings.Pairing.{Pairing}

abbrev nothing : Option (List Pairing)
nothing = None

-- none, where none may be there
pub none-of : (most : ℕ) (text : List ℕ) → most ≡ 0 → nothing ≡ pairings_in most text
unfolding pairings_in
none-of most text is = subst (λ n. nothing ≡ pairings_in n text) (sym is) refl

-- the first, and one fewer after it
pub first-of : (most fewer : ℕ) (text : List ℕ) → fewer + 1 ≡ most → pairings_by text (place_of 32 text) (pairings_in fewer) ≡ pairings_in most text
unfolding pairings_in
first-of most fewer text is =
    subst (λ n. pairings_by text (place_of 32 text) (pairings_in fewer) ≡ pairings_in n text) (sym (add-one fewer) ∙ is) refl
