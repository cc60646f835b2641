-- Objects that are gathered at the front of their list by exchanges.
use Rattle.std.proofs.Common.{◌≡◌, ◌≢◌, ℕ, suc, ◌+◌, ◌≤◌, ◌<◌, List, [], ◌∷◌, ◌++◌, length, get_or, take}
use Rattle.std.proofs.Common.{drop, Option, Some, None, refl, arith, ap, sym, ◌∙◌, append_assoc, add-one, subst, ◌⊎◌, inl, inr}
use Rattle.std.proofs.lemmas.Bool.{cases_eq}
use Rattle.std.specs.Prelude.{slice_get, All}
use Rattle.std.specs.List.{swap, AllZip}
use Rattle.std.proofs.Math.ListN.{set}
use Rattle.std.proofs.Math.Seq.{drop-cons}
use Rattle.std.proofs.lemmas.List.{take-set-le, take_more_set, take-set, get_or-set_other, length-set}
use Rattle.std.proofs.lemmas.List.Edits.{swap_is, length-swap}
use Rattle.std.proofs.lemmas.Option.{slice_get-get_or, get_or_from_slice_get, slice_get_within}
use Rattle.std.proofs.lemmas.List.Elements.{All-get_or}
use Rattle.bus_run.specs.Kept.{place_of, places_from, IsPicked}
use Rattle.bus_formats.specs.declared.plan.SubsystemKind.{SubsystemKind}
use Rattle.bus_formats.specs.declared.plan.SubsystemKind.TheVariants.{Recorder, Tally}

-- from this address on the recorders and tallies stand in their places
pub record Untouched {A : Type 0} (old now : List A) (address : ℕ) : Type 0 where
  pub recorders : (k : ℕ) (d : A) → address ≤ k → k < 31 → get_or now k d ≡ get_or old k d
  pub tallies : (k : ℕ) (d : A) → 31 + address ≤ k → k < 62 → get_or now k d ≡ get_or old k d

-- the objects in front are those named so far, and those of the addresses to come stand in their places
pub record Gathered {A : Type 0} (old now : List A) (named : List (Option SubsystemKind)) (kept address : ℕ) : Type 0 where
  pub len : length now ≡ length old
  pub within : All (λ p. p < length old) (places_from 0 named)
  pub few : kept ≤ address
  pub front : (done : List ℕ) × (places_from 0 named ≡ done ++ places_from address (drop address named)) × IsPicked old done (take kept now)
  pub rest : Untouched old now address

-- what two exchanged places leave
swapped_other : {A : Type 0} (xs : List A) (i j k : ℕ) (d : A) → i < length xs → j < length xs → k ≢ i → k ≢ j →
    get_or (swap xs i j) k d ≡ get_or xs k d
swapped_other xs i j k d hi hj ki kj =
    rw (← swap_is xs i j d hi hj) (get_or-set_other (set xs i (get_or xs j d)) j k (get_or xs i d) d kj ∙ get_or-set_other xs i k (get_or xs j d) d ki)

-- the front after an exchange, by cases
swapped_cases : {A : Type 0} (xs : List A) (i j : ℕ) (d z : A) → i ≤ j → j < length xs → z ≡ get_or xs i d → (i ≡ j) ⊎ (i ≢ j) →
    take (i + 1) (set (set xs i (get_or xs j d)) j z) ≡ take i xs ++ get_or xs j d ∷ []
swapped_cases xs i j d z le within z-is (inl same) =
    rw (← same)
    (take_more_set (set xs i (get_or xs i d)) i z (omega (arith, length-set xs i (get_or xs i d))) ∙ ap (λ ys. ys ++ z ∷ []) (take-set xs i
    (get_or xs i d)) ∙ ap (λ y. take i xs ++ y ∷ []) z-is)
swapped_cases xs i j d z le within z-is (inr other) =
    take-set-le (i + 1) (set xs i (get_or xs j d)) j z (omega arith) ∙ take_more_set xs i (get_or xs j d) (omega arith)

-- the front after an exchange with a later place
swapped_front : {A : Type 0} (xs : List A) (i j : ℕ) (d : A) → i ≤ j → j < length xs →
    take (i + 1) (swap xs i j) ≡ take i xs ++ get_or xs j d ∷ []
swapped_front xs i j d le within =
    rw (← swap_is xs i j d (omega arith) within)
    (swapped_cases xs i j d (get_or xs i d) le within refl (cases_eq i j))

-- an object stands in one of two places
place_is : (kind : SubsystemKind) (a : ℕ) → (place_of kind a ≡ a) ⊎ (place_of kind a ≡ 31 + a)
place_is Recorder a = inl refl
place_is Tally a = inr refl

-- it isn't before its address
pub place-low : (kind : SubsystemKind) (address place : ℕ) → place ≡ place_of kind address → address ≤ place
place-low kind address place at = grind (arith, at, place_is kind address)

-- one pair more
zip_more : {A : Type 0} (R : ℕ → A → Type 0) (ps : List ℕ) (xs : List A) (p : ℕ) (x : A) → AllZip R ps xs → R p x → AllZip R (ps ++ p ∷ []) (xs ++ x ∷ [])
zip_more R [] [] p x h r = (r, tt)
zip_more R (q ∷ ps) (y ∷ xs) p x (h, hs) r = (h, zip_more R ps xs p x hs r)
zip_more R [] (y ∷ xs) p x h r = absurd h
zip_more R (q ∷ ps) [] p x h r = absurd h

-- an address that names nothing
pub gathered_none : {A : Type 0} (old now : List A) (named : List (Option SubsystemKind)) (kept address : ℕ) → address < length named →
    get_or named address None ≡ None → Gathered old now named kept address → Gathered old now named kept (suc address)
gathered_none old now named kept address within none so =
    record {
      len = so.len;
      within = so.within;
      few = omega (arith, so.few);
      front = (
        so.front.0,
        so.front.1 ∙ ap (λ xs. so.front.0 ++ places_from address xs) (drop-cons named address None within) ∙ ap
            (λ x. so.front.0 ++ places_from address (x ∷ drop (suc address) named)) none,
        so.front.2,
      );
      rest = record { recorders = λ k d low high. so.rest.recorders k d (omega arith) high; tallies = λ k d low high. so.rest.tallies k d (omega arith) high };
    }

-- the object of the address stands in its place
untouched_item : {A : Type 0} (old now : List A) (address place : ℕ) (d : A) → address < 31 → Untouched old now address →
    (place ≡ address) ⊎ (place ≡ 31 + address) → get_or now place d ≡ get_or old place d
untouched_item old now address place d within rest (inl is) = rest.recorders place d (omega arith) (omega arith)
untouched_item old now address place d within rest (inr is) = rest.tallies place d (omega arith) (omega arith)

-- ---- the places

-- an element of the list
pub all-at : {A : Type 0} (P : A → Type 0) (xs : List A) (k : ℕ) (x : A) → All P xs → slice_get xs k ≡ Some x → P x
all-at P xs k x all at = subst P (get_or_from_slice_get xs k x x at) (All-get_or P xs k x (slice_get_within xs k x at) all)

-- what follows a front
pub get-after : {A : Type 0} (front rest : List A) (x : A) → slice_get (front ++ x ∷ rest) (length front) ≡ Some x
get-after [] rest x = refl
get-after (y ∷ front) rest x = get-after front rest x

-- the places that come, with that of the next address
pub places-next : (named : List (Option SubsystemKind)) (address place : ℕ) (kind : SubsystemKind) → address < length named →
    place ≡ place_of kind address → get_or named address None ≡ Some kind →
    places_from address (drop address named) ≡ place ∷ places_from (suc address) (drop (suc address) named)
places-next named address place kind within at some =
    ap (places_from address) (drop-cons named address None within) ∙ ap (λ x. places_from address (x ∷ drop (suc address) named)) some
    ∙ ap (λ p. p ∷ places_from (suc address) (drop (suc address) named)) (sym at)

-- an address that names nothing has no place
pub places-pass : (named : List (Option SubsystemKind)) (address : ℕ) → address < length named → get_or named address None ≡ None →
    places_from address (drop address named) ≡ places_from (suc address) (drop (suc address) named)
places-pass named address within none =
    ap (places_from address) (drop-cons named address None within) ∙ ap (λ x. places_from address (x ∷ drop (suc address) named)) none

-- the place of an address that names an object is among all of them
pub place-within : (named : List (Option SubsystemKind)) (done : List ℕ) (address place n : ℕ) (kind : SubsystemKind) → address < length named →
    place ≡ place_of kind address → get_or named address None ≡ Some kind →
    places_from 0 named ≡ done ++ places_from address (drop address named) → All (λ p. p < n) (places_from 0 named) → place < n
place-within named done address place n kind within at some split all =
    all-at (λ p. p < n) (places_from 0 named) (length done) place all
    (ap (λ ps. slice_get ps (length done)) (split ∙ ap (λ ps. done ++ ps) (places-next named address place kind within at some))
    ∙ get-after done (places_from (suc address) (drop (suc address) named)) place)

-- an address that names an object, at its place
gathered_at : {A : Type 0} (old now : List A) (named : List (Option SubsystemKind)) (kept address place : ℕ) (kind : SubsystemKind) (d : A) →
    address < 31 → length named ≡ 31 →
    place ≡ place_of kind address → get_or named address None ≡ Some kind → Gathered old now named kept address →
    (place ≡ address) ⊎ (place ≡ 31 + address) → Gathered old (swap now kept place) named (kept + 1) (suc address)
gathered_at old now named kept address place kind d within all at some so choice =
    let few = so.few in
    let len = so.len in
    let low : address ≤ place = grind (arith, choice) in
    let high : place < length old = place-within named so.front.0 address place (length old) kind (omega arith) at some so.front.1 so.within in
    let item = untouched_item old now address place d within so.rest choice in
    let next : places_from address (drop address named) ≡ place ∷ places_from (suc address) (drop (suc address) named) =
    places-next named address place kind (omega arith) at some in
    record {
      len = length-swap now kept place ∙ so.len;
      within = so.within;
      few = omega (arith, so.few);
      front = (
        so.front.0 ++ place ∷ [],
        so.front.1 ∙ ap (λ xs. so.front.0 ++ xs) next ∙ sym (append_assoc so.front.0 (place ∷ []) _),
        rw (swapped_front now kept place d (omega arith) (omega arith))
            (zip_more (λ p x. slice_get old p ≡ Some x) so.front.0 (take kept now) place (get_or now place d) so.front.2
            (slice_get-get_or old place d high ∙ ap Some (sym item))),
      );
      rest = record {
        recorders = λ k e above below. swapped_other now kept place k e (omega arith) (omega arith) (omega arith) (grind (arith, choice))
            ∙ so.rest.recorders k e (omega arith) below;
        tallies = λ k e above below. swapped_other now kept place k e (omega arith) (omega arith) (omega arith) (grind (arith, choice))
            ∙ so.rest.tallies k e (omega arith) below;
      };
    }

-- an address that names an object
pub gathered_some : {A : Type 0} (old now : List A) (named : List (Option SubsystemKind)) (kept address place : ℕ) (kind : SubsystemKind) (d : A) →
    address < 31 → length named ≡ 31 →
    place ≡ place_of kind address → get_or named address None ≡ Some kind → Gathered old now named kept address →
    Gathered old (swap now kept place) named (kept + 1) (suc address)
gathered_some old now named kept address place kind d within all at some so =
    let choice : (place ≡ address) ⊎ (place ≡ 31 + address) = rw at (place_is kind address) in
    gathered_at old now named kept address place kind d within all at some so choice

-- the same for the list and the number after the exchange
pub gathered_any : {A : Type 0} (old now next : List A) (named : List (Option SubsystemKind)) (kept more address place : ℕ) (kind : SubsystemKind) →
    address < 31 → length named ≡ 31 →
    place ≡ place_of kind address → get_or named address None ≡ Some kind → Gathered old now named kept address →
    next ≡ swap now kept place → more ≡ kept + 1 → Gathered old next named more (address + 1)
gathered_any old [] next named kept more address place kind within all at some so is count =
    let len = so.len in
    let high : place < length old = place-within named so.front.0 address place (length old) kind (omega arith) at some so.front.1 so.within in
    absurd (omega (arith, len, high))
gathered_any old (d ∷ ys) next named kept more address place kind within all at some so is count =
    let up : address + 1 ≡ suc address = add-one address in
    rw (is, count, up) (gathered_some old (d ∷ ys) named kept address place kind d within all at some so)

-- an address that names nothing, for the list that stays
pub gathered_same : {A : Type 0} (old now next : List A) (named : List (Option SubsystemKind)) (kept more address : ℕ) → address < length named →
    get_or named address None ≡ None → Gathered old now named kept address → next ≡ now → more ≡ kept → Gathered old next named more (address + 1)
gathered_same old now next named kept more address within none so is count =
    rw (is, count, add-one) (gathered_none old now named kept address within none so)
