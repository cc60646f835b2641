-- Room is made in the objects that are named, one after the other.
use Rattle.std.proofs.Common.{◌≡◌, ℕ, zero, suc, ◌+◌, ◌<◌, ◌≤◌, List, [], ◌∷◌, ◌++◌, length, map, get_or, set, drop, refl, ap, sym, ◌∙◌, subst, add-one}
use Rattle.std.proofs.Common.{append-nil, append_assoc, Option, Some, None}
use Rattle.std.specs.Prelude.{slice_get, All, IfSome}
use Rattle.std.proofs.lemmas.List.Elements.{All-nil, All-cons, All-append}
use Rattle.std.proofs.lemmas.Option.{same_Some}
use Rattle.bus_formats.specs.declared.plan.SubsystemKind.{SubsystemKind}
use Rattle.bus_run.specs.Kept.{place_of, places_from, HasRoom, IsPicked}
use Rattle.bus_run.proofs.ServedLaws.{get-map}
use Rattle.bus_run.proofs.Gathered.{places-next, places-pass, all-at}

-- there is room at the places of the addresses below this one
pub record Reserved (n : ℕ) (named : List (Option SubsystemKind)) (address : ℕ) (spare : List ℕ) : Type 0 where
  pub done : List ℕ
  pub split : places_from 0 named ≡ done ++ places_from address (drop address named)
  pub room : All (HasRoom n spare) done

-- room at one place more keeps that of the others
room-set : (n : ℕ) (spare : List ℕ) (place m q : ℕ) → n ≤ m → HasRoom n spare q → HasRoom n (set spare place m) q
room-set n [] place m q enough room = room
room-set n (x ∷ spare) zero m zero enough room = enough
room-set n (x ∷ spare) zero m (suc q) enough room = room
room-set n (x ∷ spare) (suc p) m zero enough room = room
room-set n (x ∷ spare) (suc p) m (suc q) enough room = room-set n spare p m q enough room

-- and there is room at that place
room-there : (n : ℕ) (spare : List ℕ) (place m : ℕ) → n ≤ m → HasRoom n (set spare place m) place
room-there n [] place m enough = tt
room-there n (x ∷ spare) zero m enough = enough
room-there n (x ∷ spare) (suc p) m enough = room-there n spare p m enough

-- none yet
pub reserved-none : (n : ℕ) (named : List (Option SubsystemKind)) (spare : List ℕ) → Reserved n named 0 spare
reserved-none n named spare = record { done = []; split = refl; room = All-nil (HasRoom n spare) }

-- an address that names nothing
pub reserved-pass : (n : ℕ) (named : List (Option SubsystemKind)) (address : ℕ) (spare spare' : List ℕ) → address < length named →
    get_or named address None ≡ None → spare' ≡ spare → Reserved n named address spare → Reserved n named (address + 1) spare'
reserved-pass n named address spare spare' within none same so =
    rw (same, add-one address) record {
      done = so.done;
      split = so.split ∙ ap (λ ps. so.done ++ ps) (places-pass named address within none);
      room = so.room;
    }

-- an address that names an object
pub reserved-more : (n : ℕ) (named : List (Option SubsystemKind)) (address place m : ℕ) (kind : SubsystemKind) (spare spare' : List ℕ) →
    address < length named → place ≡ place_of kind address → get_or named address None ≡ Some kind → n ≤ m → spare' ≡ set spare place m →
    Reserved n named address spare → Reserved n named (address + 1) spare'
reserved-more n named address place m kind spare spare' within at some enough is so =
    rw (is, add-one address) record {
      done = so.done ++ place ∷ [];
      split = so.split ∙ ap (λ ps. so.done ++ ps) (places-next named address place kind within at some)
          ∙ sym (append_assoc so.done (place ∷ []) (places_from (suc address) (drop (suc address) named)));
      room = All-append (HasRoom n (set spare place m)) so.done (place ∷ []) (λ k d low. room-set n spare place m _ enough (so.room k d low))
          (All-cons (HasRoom n (set spare place m)) place [] (room-there n spare place m enough) (All-nil (HasRoom n (set spare place m))));
    }

-- after the last address there is room at each place
pub reserved-all : (n : ℕ) (named : List (Option SubsystemKind)) (address : ℕ) (spare : List ℕ) → drop address named ≡ [] →
    Reserved n named address spare → All (HasRoom n spare) (places_from 0 named)
reserved-all n named address spare last so =
    subst (λ ps. All (HasRoom n spare) ps)
    (sym (so.split ∙ ap (λ xs. so.done ++ places_from address xs) last ∙ append-nil so.done)) so.room

-- ---- what is picked

-- what is picked of a mapped list
pub picked-of : {A B : Type 0} (f : A → B) (old : List A) (ps : List ℕ) (now : List A) → IsPicked old ps now → IsPicked (map f old) ps (map f now)
picked-of f old [] [] picked = tt
picked-of f old [] (x ∷ now) picked = absurd picked
picked-of f old (p ∷ ps) [] picked = absurd picked
picked-of f old (p ∷ ps) (x ∷ now) picked = (get-map f old p x picked.0, picked-of f old ps now picked.1)

pub picked-map : {A B : Type 0} (f : A → B) (old : List A) (ps : List ℕ) (now : List A) (olds : List B) → olds ≡ map f old → IsPicked old ps now →
    IsPicked olds ps (map f now)
picked-map f old ps now olds olds-are picked = rw olds-are (picked-of f old ps now picked)

-- as many are picked as there are places
pub picked-length : {A : Type 0} (old : List A) (ps : List ℕ) (now : List A) → IsPicked old ps now → length now ≡ length ps
picked-length old [] [] picked = refl
picked-length old [] (x ∷ now) picked = absurd picked
picked-length old (p ∷ ps) [] picked = absurd picked
picked-length old (p ∷ ps) (x ∷ now) picked = ap suc (picked-length old ps now picked.1)

-- where each was
picked-from : {A : Type 0} (old : List A) (ps : List ℕ) (now : List A) (k : ℕ) (x : A) → IsPicked old ps now → slice_get now k ≡ Some x →
    (p : ℕ) × (slice_get ps k ≡ Some p) × (slice_get old p ≡ Some x)
picked-from old [] [] k x picked at = (let no : None ≡ Some x = at in cc)
picked-from old [] (y ∷ now) k x picked at = absurd picked
picked-from old (p ∷ ps) [] k x picked at = absurd picked
picked-from old (p ∷ ps) (y ∷ now) zero x picked at = (p, refl, picked.0 ∙ ap Some (same_Some y x at))
picked-from old (p ∷ ps) (y ∷ now) (suc k) x picked at = picked-from old ps now k x picked.1 at

-- room in an object that is there
room-of : (n : ℕ) (o : Option ℕ) (m : ℕ) → o ≡ Some m → IfSome o (λ x. n ≤ x) → n ≤ m
room-of n None m is room = (let no : None ≡ Some m = is in cc)
room-of n (Some x) m is room = subst (λ y. n ≤ y) (same_Some x m is) room

-- what is picked has the room that was made
pub picked-room : (n : ℕ) (old : List ℕ) (ps : List ℕ) (now : List ℕ) (k m : ℕ) → IsPicked old ps now → All (HasRoom n old) ps → slice_get now k ≡ Some m →
    n ≤ m
picked-room n old ps now k m picked room at =
    let (p, place, found) = picked-from old ps now k m picked at in
    room-of n (slice_get old p) m found (all-at (HasRoom n old) ps k p room place)
