-- Objects lose no room.
use Rattle.std.proofs.Common.{◌≡◌, ℕ, zero, suc, ◌≤◌, List, [], ◌∷◌, map, get_or, set, refl, sym, subst, arith}
use Rattle.std.specs.Prelude.{OnErr, Result, Ok, Err}
use Rattle.bus_run.specs.Rooms.{KeepRoom}

-- room that stays isn't lost
pub same-room : (spare : List ℕ) → KeepRoom spare spare
same-room [] = tt
same-room (n ∷ spare) = (omega arith, same-room spare)

-- at an error that left all as it was
pub err-same-room : {T E : Type 0} (r : Result T E) (spare : List ℕ) → OnErr r (KeepRoom spare spare)
err-same-room (Ok x) spare = tt
err-same-room (Err e) spare = same-room spare

-- nor is it where one object makes room
pub room-set : (before spare : List ℕ) (place n m : ℕ) → KeepRoom before spare → get_or spare place n ≤ m → KeepRoom before (set spare place m)
room-set [] [] place n m kept more = tt
room-set [] (x ∷ spare) place n m kept more = absurd kept
room-set (old ∷ before) [] place n m kept more = absurd kept
room-set (old ∷ before) (x ∷ spare) zero n m kept more = (let first = kept.0 in omega (arith, first, more), kept.1)
room-set (old ∷ before) (x ∷ spare) (suc place) n m kept more = (kept.0, room-set before spare place n m kept.1 more)

-- the element at a place of a mapped list
get-mapped : {A : Type 0} (f : A → ℕ) (items : List A) (place : ℕ) (d : A) → get_or (map f items) place (f d) ≡ f (get_or items place d)
get-mapped f [] place d = refl
get-mapped f (x ∷ items) zero d = refl
get-mapped f (x ∷ items) (suc place) d = get-mapped f items place d

-- of objects in their order, one of which makes room
pub room-made : {A : Type 0} (spare : A → ℕ) (before : List ℕ) (items : List A) (place m : ℕ) (d : A) (after : List ℕ) →
    after ≡ set (map spare items) place m → spare (get_or items place d) ≤ m → KeepRoom before (map spare items) → KeepRoom before after
room-made spare before items place m d after is more kept =
    rw is (room-set before (map spare items) place (spare d) m kept (subst (λ (n : ℕ). n ≤ m) (sym (get-mapped spare items place d)) more))

-- and of such as stay
pub room-still : (before spare after : List ℕ) → after ≡ spare → KeepRoom before spare → KeepRoom before after
room-still before spare after same kept = rw same kept
