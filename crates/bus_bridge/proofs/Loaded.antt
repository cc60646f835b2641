-- What the blocks that are handed on put up for sending.
use Rattle.std.proofs.Common.{◌≡◌, ℕ, zero, suc, ◌+◌, ◌<◌, ◌≤◌, Bool, true, false, ◌==◌, List, [], ◌∷◌, ◌++◌, length, map, take, drop, Option, Some, None, refl, ap, sym, ◌∙◌, subst, arith, add-one, append-nil, append_assoc, if◌then◌else◌}
use Rattle.core.specs.List.{cons_option}
use Rattle.std.specs.Prelude.{flat_map, filter_map, option_to_list, slice_get}
use Rattle.std.specs.List.{AllByRecursion as Each}
use Rattle.std.proofs.lemmas.Grind.{flat_map-append}
use Rattle.std.proofs.lemmas.List.{take-append-drop}
use Rattle.std.proofs.lemmas.Option.{none-some, same_Some}
use Rattle.bus_formats.specs.declared.log.Delivery.{Delivery}
use Rattle.bus_model.specs.Memory.{TimedLoad}
use Rattle.bus_model.specs.Outside.{load_by}
use Rattle.bus_law_loads.specs.Later.{AreFrom}
use Rattle.bus_law_plans.specs.Memories.{IsBlock, AreBlocks}
use Rattle.bus_law_plans.proofs.Lists.{each-append, each-weaker}
use Rattle.bus_bridge.specs.Runs.{AreLater}
use Rattle.bus_bridge.specs.Worlds.{pairing_of, loads_of, loads_by}
use Rattle.bus_bridge.specs.declared.pairings.Pairing.{Pairing}

-- ---- of one block

-- the loads of a pairing more
pub loads-next : (address : ℕ) (pairing : Pairing) (pairs : List Pairing) (d : Delivery) →
    loads_of address (pairing ∷ pairs) d ≡ option_to_list (load_by address d (pairing_of pairing)) ++ loads_of address pairs d
loads-next address pairing pairs d = by-load (load_by address d (pairing_of pairing)) (loads_of address pairs d)
  where
    by-load : (o : Option TimedLoad) (rest : List TimedLoad) → cons_option o rest ≡ option_to_list o ++ rest
    by-load None rest = refl
    by-load (Some load) rest = refl

-- what holds of a load of the block's tick and words holds of all its loads
one-each : (P : TimedLoad → Type 0) (address sub : ℕ) (test : Bool) (d : Delivery) →
    P (record { tick = d.tick.0; address = address; sub = sub; words = d.words }) →
    Each P (option_to_list (if test then Some record { tick = d.tick.0; address = address; sub = sub; words = d.words } else None))
one-each P address sub true d is = (is, tt)
one-each P address sub false d is = tt

all-each : (P : TimedLoad → Type 0) (address : ℕ) (pairs : List Pairing) (d : Delivery) →
    ((sub : ℕ) → P (record { tick = d.tick.0; address = address; sub = sub; words = d.words })) → Each P (loads_of address pairs d)
all-each P address [] d is = tt
all-each P address (pairing ∷ pairs) d is =
    subst (Each P) (sym (loads-next address pairing pairs d))
    (each-append P (option_to_list (load_by address d (pairing_of pairing))) (loads_of address pairs d)
    (one-each P address pairing.to (pairing.from == d.sub) d (is pairing.to)) (all-each P address pairs d is))

-- ---- of all blocks

-- loads of blocks from a tick on are from that tick on
pub loads-from : (address : ℕ) (pairs : List Pairing) (n : ℕ) (ds : List Delivery) → AreLater n ds → AreFrom n (loads_by address pairs ds)
loads-from address pairs n [] later = tt
loads-from address pairs n (d ∷ ds) later =
    each-append (λ (load : TimedLoad). n ≤ load.tick) (loads_of address pairs d) (loads_by address pairs ds)
    (all-each (λ (load : TimedLoad). n ≤ load.tick) address pairs d (λ sub. later.0))
    (each-weaker (λ (load : TimedLoad). suc d.tick.0 ≤ load.tick) (λ (load : TimedLoad). n ≤ load.tick)
    (λ load late. (let from = later.0 in omega (arith, late, from))) (loads_by address pairs ds) (loads-from address pairs (suc d.tick.0) ds later.1))

-- those of one block are of its tick
pub loads-now : (address : ℕ) (pairs : List Pairing) (n : ℕ) (d : Delivery) → d.tick.0 ≡ n → AreFrom n (loads_of address pairs d)
loads-now address pairs n d at =
    all-each (λ (load : TimedLoad). n ≤ load.tick) address pairs d (λ sub. omega (arith, at))

-- they are blocks
pub loads-blocks : (address : ℕ) (pairs : List Pairing) (ds : List Delivery) → Each (λ d. IsBlock d.words) ds → AreBlocks (loads_by address pairs ds)
loads-blocks address pairs [] all = tt
loads-blocks address pairs (d ∷ ds) all =
    each-append (λ (load : TimedLoad). IsBlock load.words) (loads_of address pairs d) (loads_by address pairs ds)
    (all-each (λ (load : TimedLoad). IsBlock load.words) address pairs d (λ sub. all.0)) (loads-blocks address pairs ds all.1)

-- ---- the first blocks, and the others

-- all loads are those of the first blocks and of the others
pub loads-split : (address : ℕ) (pairs : List Pairing) (n : ℕ) (ds : List Delivery) →
    loads_by address pairs ds ≡ loads_by address pairs (take n ds) ++ loads_by address pairs (drop n ds)
loads-split address pairs n ds =
    ap (loads_by address pairs) (sym (take-append-drop n ds)) ∙ flat_map-append (loads_of address pairs) (take n ds) (drop n ds)

-- one block more
pub take-next : (ds : List Delivery) (n : ℕ) (d : Delivery) → slice_get ds n ≡ Some d → take (n + 1) ds ≡ take n ds ++ d ∷ []
take-next ds n d at = ap (λ (m : ℕ). take m ds) (add-one n) ∙ by-place ds n at
  where
    by-place : (xs : List Delivery) (i : ℕ) → slice_get xs i ≡ Some d → take (suc i) xs ≡ take i xs ++ d ∷ []
    by-place [] i found = absurd (none-some d found)
    by-place (x ∷ xs) zero found = ap (λ (y : Delivery). y ∷ []) (same_Some x d found)
    by-place (x ∷ xs) (suc i) found = ap (λ (ys : List Delivery). x ∷ ys) (by-place xs i found)

pub drop-next : (ds : List Delivery) (n : ℕ) (d : Delivery) → slice_get ds n ≡ Some d → drop n ds ≡ d ∷ drop (n + 1) ds
drop-next ds n d at = by-place ds n at ∙ ap (λ (m : ℕ). d ∷ drop m ds) (sym (add-one n))
  where
    by-place : (xs : List Delivery) (i : ℕ) → slice_get xs i ≡ Some d → drop i xs ≡ d ∷ drop (suc i) xs
    by-place [] i found = absurd (none-some d found)
    by-place (x ∷ xs) zero found = ap (λ (y : Delivery). y ∷ xs) (same_Some x d found)
    by-place (x ∷ xs) (suc i) found = by-place xs i found

pub loads-more : (address : ℕ) (pairs : List Pairing) (ds : List Delivery) (n : ℕ) (d : Delivery) → slice_get ds n ≡ Some d →
    loads_by address pairs (take (n + 1) ds) ≡ loads_by address pairs (take n ds) ++ loads_of address pairs d
loads-more address pairs ds n d at =
    ap (loads_by address pairs) (take-next ds n d at) ∙ flat_map-append (loads_of address pairs) (take n ds) (d ∷ [])
    ∙ ap (λ (ls : List TimedLoad). loads_by address pairs (take n ds) ++ ls) (append-nil (loads_of address pairs d))

-- the pairings one after the other
pub pairs-more : (address : ℕ) (pairs : List Pairing) (d : Delivery) (n : ℕ) (pairing : Pairing) → slice_get pairs n ≡ Some pairing →
    loads_of address (take (n + 1) pairs) d ≡ loads_of address (take n pairs) d ++ option_to_list (load_by address d (pairing_of pairing))
pairs-more address pairs d n pairing at = ap (λ (m : ℕ). loads_of address (take m pairs) d) (add-one n) ∙ by-place pairs n at
  where
    by-place : (xs : List Pairing) (i : ℕ) → slice_get xs i ≡ Some pairing →
        loads_of address (take (suc i) xs) d ≡ loads_of address (take i xs) d ++ option_to_list (load_by address d (pairing_of pairing))
    by-place [] i found = absurd (none-some pairing found)
    by-place (x ∷ xs) zero found =
        loads-next address x [] d ∙ append-nil (option_to_list (load_by address d (pairing_of x)))
        ∙ ap (λ (p : Pairing). option_to_list (load_by address d (pairing_of p))) (same_Some x pairing found)
    by-place (x ∷ xs) (suc i) found =
        loads-next address x (take (suc i) xs) d
        ∙ ap (λ (ls : List TimedLoad). option_to_list (load_by address d (pairing_of x)) ++ ls) (by-place xs i found)
        ∙ sym (append_assoc (option_to_list (load_by address d (pairing_of x))) (loads_of address (take i xs) d)
        (option_to_list (load_by address d (pairing_of pairing))))
        ∙ ap (λ (ls : List TimedLoad). ls ++ option_to_list (load_by address d (pairing_of pairing))) (sym (loads-next address x (take i xs) d))
