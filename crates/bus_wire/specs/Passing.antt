-- A tick in which one station alone drives, and goes on with a transmission that no fault strikes.
use Rattle.std.specs.Prelude.{◌≡◌, ℕ, ◌+◌, Bool, true, false, List, [], ◌∷◌}
use Rattle.bus_base.specs.Samples.{other_of}
use Rattle.bus_base.specs.declared.samples.Channel.{Channel}
use Rattle.bus_base.specs.declared.samples.Channel.TheVariants.{A, B}
use Rattle.bus_base.specs.declared.samples.Drive.{Drive}
use Rattle.bus_base.specs.declared.samples.Sample.{Sample}
use Rattle.bus_base.specs.declared.samples.Sample.TheVariants.{Quiet}
use Rattle.bus_formats.specs.declared.fault.Fault.{Fault}
use Rattle.bus_model.specs.Wire as spec
use Rattle.bus_wire.specs.Steps.{may_add}
use Rattle.bus_wire.specs.Sides.{SidePassed}
use Rattle.bus_wire.specs.WireStands.{WireStands, side_of}
use Rattle.bus_wire.specs.declared.side.Side.{Side}
use Rattle.bus_wire.specs.declared.wire.Shown.{Shown}
use Rattle.bus_wire.specs.declared.wire.Wire.{Wire}

-- one channel has changed in a tick
abbrev pub with_passed : Wire → Channel → Side → Wire
with_passed wire A side = record wire { next = wire.next + 1; a = side }
with_passed wire B side = record wire { next = wire.next + 1; b = side }

-- the station goes on, while no extra may add to either channel
pub record WirePassed (station : ℕ) (c : Channel) (last : Bool) (old new : Wire) : Type 0 where
  pub side : Side
  pub passed : SidePassed station old.next last (side_of old c) side
  pub beside : may_add old.next (side_of old (other_of c)).extra ≡ false
  pub is : new ≡ with_passed old c side

abbrev pub WirePasses : ℕ → Channel → Bool → Wire → Wire → Bool → Type 0
WirePasses station c last old new true = WirePassed station c last old new
WirePasses station c last old new false = new ≡ old

-- one station drives a channel, and the other is quiet
abbrev pub alone : Channel → Sample → Shown
alone A sample = record { pair = record { a = sample; b = Quiet }; drivers = 1 ∷ 0 ∷ [] }
alone B sample = record { pair = record { a = Quiet; b = sample }; drivers = 0 ∷ 1 ∷ [] }

-- the wire stands for what was driven, and this is shown of its newest tick
pub record ShowsAll (faults : List Fault) (driven : List (List Drive)) (wire : Wire) (shown : Shown) : Type 0 where
  pub stands : WireStands faults wire driven
  pub pair : shown.pair ≡ spec.shown faults driven
  pub drivers : shown.drivers ≡ spec.drivers faults A driven ∷ spec.drivers faults B driven ∷ []
