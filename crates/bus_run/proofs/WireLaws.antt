-- The count of clashes.
use Rattle.std.proofs.Common.{◌≡◌, ℕ, suc, ◌+◌, ◌≤◌, Bool, true, false, List, [], ◌∷◌, length, refl, arith, if◌then◌else◌}
use Rattle.bus_base.specs.declared.samples.Drive.{Drive}
use Rattle.bus_formats.specs.declared.fault.Fault.{Fault}
use Rattle.bus_model.specs.World.{clashes, is_clash}

-- no clash before the first tick
pub clashes-none : (faults : List Fault) → clashes faults [] ≡ 0
unfolding clashes
clashes-none faults = refl

-- one tick more
pub clashes-next : (faults : List Fault) (now : List Drive) (before : List (List Drive)) →
    clashes faults (now ∷ before) ≡ (if is_clash faults (now ∷ before) then 1 else 0) + clashes faults before
unfolding clashes
clashes-next faults now before = refl

-- a tick adds at most one
one-or-none : (b : Bool) (n m : ℕ) → n ≤ m → (if b then 1 else 0) + n ≤ suc m
one-or-none true n m le = omega (arith, le)
one-or-none false n m le = omega (arith, le)

-- no more than ticks
pub clashes-few : (faults : List Fault) (driven : List (List Drive)) → clashes faults driven ≤ length driven
unfolding clashes
clashes-few faults [] = omega arith
clashes-few faults (now ∷ before) = one-or-none (is_clash faults (now ∷ before)) (clashes faults before) (length before) (clashes-few faults before)
