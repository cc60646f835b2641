-- The lines of a recording, two for each channel: one is on while the channel is positive, the other while it is negative.
use Rattle.std.specs.Prelude.{ℕ, ◌&&◌, not, Bool, true, false, if◌then◌else◌, List, [], bytes_eq, Option, Some, None}
use Rattle.arrayvec.specs.ArrayVec.{ArrayVec}
use Rattle.bus_base.specs.declared.samples.Sample.{Sample}
use Rattle.bus_base.specs.declared.samples.Sample.TheVariants.{Plus, Minus, Quiet}
use Rattle.bus_base.specs.declared.samples.Pair.{Pair}
use Rattle.bus_recording.specs.declared.wires.Wire.{Wire}
use Rattle.bus_recording.specs.declared.wires.Wires.{Wires}

-- a line of this name; a line that isn't wanted has none
abbrev pub wire_named : List ℕ → Bool → Wire
wire_named name wanted = record { name = record { items = name }; is_wanted = wanted; id = record { items = [] }; is_found = false; is_on = false }

-- the first variable that has its name is the line's
abbrev pub declares : List ℕ → Wire → Bool
declares name wire = wire.is_wanted && (not wire.is_found && bytes_eq name wire.name.items)

abbrev pub declared : List ℕ → List ℕ → Wire → Wire
declared id name wire = if declares name wire then record wire { id = record { items = id }; is_found = true } else wire

-- a change of the variable with this identifier
abbrev pub changed : List ℕ → Bool → Wire → Wire
changed id on wire = if wire.is_found && bytes_eq id wire.id.items then record wire { is_on = on } else wire

abbrev pub is_missing : Wire → Bool
is_missing wire = wire.is_wanted && not wire.is_found

-- all four
abbrev pub each : (Wire → Wire) → Wires → Wires
each f w = record { a_plus = f w.a_plus; a_minus = f w.a_minus; b_plus = f w.b_plus; b_minus = f w.b_minus }

-- the place of the first line that no variable has the name of
abbrev pub first_missing : Wires → Option ℕ
first_missing w =
    if is_missing w.a_plus then Some 0
    else if is_missing w.a_minus then Some 1
    else if is_missing w.b_plus then Some 2
    else if is_missing w.b_minus then Some 3
    else None

-- the level that two lines show: where both are on or both are off it is quiet
abbrev pub level_of : Bool → Bool → Sample
level_of true false = Plus
level_of false true = Minus
level_of _ _ = Quiet

abbrev pub pair_of : Wires → Pair
pair_of w = record { a = level_of w.a_plus.is_on w.a_minus.is_on; b = level_of w.b_plus.is_on w.b_minus.is_on }
