-- For which lists of faults and of what was driven a wire stands. A new wire stands for its faults and no tick, and each tick keeps it.
use Rattle.std.specs.Prelude.{◌≡◌, ℕ, ◌+◌, ◌*◌, ◌≤◌, nat_lt, if◌then◌else◌, List, ◌∷◌, length, drop, take, find, count_by, slice_get, Some}
use Rattle.bus_base.specs.declared.samples.Channel.{Channel}
use Rattle.bus_base.specs.declared.samples.Channel.TheVariants.{A, B}
use Rattle.bus_base.specs.declared.samples.Drive.{Drive}
use Rattle.bus_formats.specs.declared.fault.Fault.{Fault}
use Rattle.bus_model.specs.Transmissions.{Transmission, is_of, is_command, newest_drives, with_drives, transmissions}
use Rattle.bus_wire.specs.Newest.{newest, by_any, tick_or}
use Rattle.bus_wire.specs.Stands.{Keeps}
use Rattle.bus_wire.specs.Sides.{SideStands, KnowsExtras}
use Rattle.bus_wire.specs.declared.transmitter.Transmitter.{Transmitter}
use Rattle.bus_wire.specs.declared.side.Side.{Side}
use Rattle.bus_wire.specs.declared.wire.Wire.{Wire}

abbrev pub side_of : Wire → Channel → Side
side_of wire A = wire.a
side_of wire B = wire.b

pub record Stands (faults : List Fault) (wire : Wire) (driven : List (List Drive)) : Type 0 where
  pub faults_are : wire.faults.items ≡ faults
  pub next : wire.next ≡ length driven
  pub commands : wire.commands ≡ count_by is_command (transmissions faults driven)
  pub few : wire.commands ≤ 32 * length driven
  pub sides : (c : Channel) → SideStands faults c (side_of wire c) driven

-- ---- in the midst of a tick: the stations before this one have driven

-- what is known of what a station drove
abbrev pub so_far : ℕ → ℕ → List Drive → List (List Drive) → List (List Drive)
so_far station now drives driven = if nat_lt station now then drives ∷ driven else driven

pub record SideFollowsTo (faults : List Fault) (driven : List (List Drive)) (drives : List Drive) (now : ℕ) (begun : List Transmission) (c : Channel)
    (side : Side) : Type 0 where
  pub all : length side.transmitters ≡ 32
  pub each : (i : ℕ) (t : Transmitter) → slice_get side.transmitters i ≡ Some t →
      Keeps faults i c t (so_far i now drives driven) (find (is_of i c) begun)
  pub driven_is : side.driven ≡ tick_or (by_any c (take now drives)) (length driven) (newest (by_any c) driven)
  pub extras : KnowsExtras side

pub record FollowsTo (faults : List Fault) (driven : List (List Drive)) (drives : List Drive) (now : ℕ) (wire : Wire) : Type 0 where
  pub faults_are : wire.faults.items ≡ faults
  pub next_is : wire.next ≡ length driven
  pub begun : List Transmission
  pub later : with_drives faults now (length driven) (newest_drives driven) (drop now drives) begun ≡ transmissions faults (drives ∷ driven)
  pub commands : wire.commands ≡ count_by is_command begun
  pub few : wire.commands ≤ 32 * length driven + now
  pub sides : (c : Channel) → SideFollowsTo faults driven drives now begun c (side_of wire c)

-- the wire stands for these faults and what was driven
unfoldable pub WireStands : List Fault → Wire → List (List Drive) → Type 0
WireStands faults wire driven = Stands faults wire driven
