-- What one channel keeps of what was driven.
use Rattle.std.specs.Prelude.{◌≡◌, ℕ, ◌+◌, ◌≤◌, ◌==◌, Bool, true, false, if◌then◌else◌, List, length, find, slice_get, slice_set, get_or, Option, Some, None, IsSome}
use Rattle.bus_base.specs.declared.samples.Channel.{Channel}
use Rattle.bus_base.specs.declared.samples.Sample.{Sample}
use Rattle.bus_base.specs.declared.samples.Sample.TheVariants.{Quiet}
use Rattle.bus_base.specs.declared.samples.Drive.{Drive}
use Rattle.bus_formats.specs.declared.fault.Fault.{Fault}
use Rattle.bus_model.specs.Transmissions.{is_of, transmissions}
use Rattle.bus_wire.specs.Newest.{newest, by_any}
use Rattle.bus_wire.specs.Steps as steps
use Rattle.bus_wire.specs.Steps.{goes_on, driven_by, may_add, extra_with}
use Rattle.bus_wire.specs.Stands.{AreStrikes, Unsent, Follows, Keeps}
use Rattle.bus_wire.specs.declared.transmitter.Driven.{Driven}
use Rattle.bus_wire.specs.declared.transmitter.Transmitter.{Transmitter}
use Rattle.bus_wire.specs.declared.side.Side.{Side}
use Rattle.bus_wire.specs.declared.side.OnChannel.{OnChannel}

-- the strikes of each transmitter that ever sent are those of these faults
pub record SideFits (faults : List Fault) (side : Side) : Type 0 where
  pub all : length side.transmitters ≡ 32
  pub strikes : (i : ℕ) (t : Transmitter) → slice_get side.transmitters i ≡ Some t → IsSome t.drove → AreStrikes faults t.strikes

-- nobody drove the channel yet
pub record IsUnsent (side : Side) : Type 0 where
  pub all : length side.transmitters ≡ 32
  pub each : (i : ℕ) (t : Transmitter) → slice_get side.transmitters i ≡ Some t → Unsent t
  pub driven : side.driven ≡ None
  pub extra : side.extra ≡ None

-- a station drives the channel
pub record SideFollows (faults : List Fault) (station commands : ℕ) (driven : Driven) (old new : Side) (after : ℕ) : Type 0 where
  pub t : Transmitter
  pub next : Transmitter
  pub here : slice_get old.transmitters station ≡ Some t
  pub follows : Follows faults commands driven (goes_on faults driven.tick t) t next after
  pub is : new ≡ record { transmitters = slice_set old.transmitters station next; driven = Some driven.tick; extra = extra_with old.extra next }

-- a station drives the channel and goes on with a transmission that no fault strikes, while no extra may add to the channel
pub record SidePassed (station tick : ℕ) (last : Bool) (old new : Side) : Type 0 where
  pub t : Transmitter
  pub here : slice_get old.transmitters station ≡ Some t
  pub passes : steps.passes tick t ≡ true
  pub ended : may_add tick old.extra ≡ false
  pub is : new ≡ record { transmitters = slice_set old.transmitters station (driven_by tick last t); driven = Some tick; extra = old.extra }

abbrev pub SidePasses : ℕ → ℕ → Bool → Side → Side → Bool → Type 0
SidePasses station tick last old new true = SidePassed station tick last old new
SidePasses station tick last old new false = new ≡ old

-- a tick is known that is this one or a later one
abbrev pub IsSince : Option ℕ → ℕ → Type 0
IsSince None first = ⊥
IsSince (Some newest) first = first ≤ newest

-- no transmission with an extra began later than the one whose first tick is kept
abbrev pub KnowsExtras : Side → Type 0
KnowsExtras side =
    (i : ℕ) (t : Transmitter) → slice_get side.transmitters i ≡ Some t → IsSome t.strikes.extra → IsSince side.extra t.first

-- the channel stands for what was driven
pub record SideStands (faults : List Fault) (c : Channel) (side : Side) (driven : List (List Drive)) : Type 0 where
  pub all : length side.transmitters ≡ 32
  pub each : (i : ℕ) (t : Transmitter) → slice_get side.transmitters i ≡ Some t →
      Keeps faults i c t driven (find (is_of i c) (transmissions faults driven))
  pub driven_is : side.driven ≡ newest (by_any c) driven
  pub extras : KnowsExtras side

-- ---- what a channel shows

-- the first of these samples, and how many they are
pub record Shows (samples : List Sample) (on : OnChannel) : Type 0 where
  pub sample : on.sample ≡ get_or samples 0 Quiet
  pub drivers : on.drivers ≡ length samples

abbrev pub with_shown : OnChannel → Option Sample → OnChannel
with_shown on None = on
with_shown on (Some sample) = record {
  sample = if on.drivers == 0 then sample else on.sample;
  drivers = on.drivers + 1;
}
