-- For which drives a transmitter stands. These records need no belief: they say nothing but what each tick keeps.
use Rattle.std.specs.Prelude.{◌≡◌, ℕ, ◌+◌, ◌≤◌, Bool, true, false, if◌then◌else◌, List, length, slice_range, Option, Some, None, IsSome}
use Rattle.bus_base.specs.declared.samples.Channel.{Channel}
use Rattle.bus_base.specs.declared.samples.Drive.{Drive}
use Rattle.bus_formats.specs.declared.fault.Fault.{Fault}
use Rattle.bus_model.specs.Strikes.{hits_on}
use Rattle.bus_model.specs.Transmissions.{Transmission, last_since}
use Rattle.bus_wire.specs.Newest.{newest, by_station}
use Rattle.bus_wire.specs.Steps.{first_extra, driven_by, sends_command}
use Rattle.bus_wire.specs.declared.strikes.Strikes.{Strikes}
use Rattle.bus_wire.specs.declared.transmitter.Driven.{Driven}
use Rattle.bus_wire.specs.declared.transmitter.Transmitter.{Transmitter}

-- the range has all faults of the attempt and part
pub record AreStrikes (faults : List Fault) (s : Strikes) : Type 0 where
  pub from : s.from ≤ s.until
  pub until : s.until ≤ length faults
  pub hits : hits_on (slice_range faults s.from s.until) s.attempt s.part ≡ hits_on faults s.attempt s.part
  pub extra : s.extra ≡ first_extra (hits_on faults s.attempt s.part)

-- nothing was sent
pub record Unsent (t : Transmitter) : Type 0 where
  pub drove : t.drove ≡ None
  pub first : t.first ≡ 0
  pub last : t.last ≡ None
  pub extra : t.strikes.extra ≡ None

-- ---- a station drives the channel

-- a transmission begins
pub record Begins (faults : List Fault) (commands : ℕ) (driven : Driven) (new : Transmitter) (after : ℕ) : Type 0 where
  pub strikes : AreStrikes faults new.strikes
  pub is : new ≡ driven_by driven.tick driven.last record { drove = None; first = driven.tick; last = None; strikes = new.strikes }
  pub attempt : new.strikes.attempt ≡ after
  pub part : new.strikes.part ≡ driven.part
  pub counted : after ≡ commands + (if sends_command driven.part then 1 else 0)

abbrev pub Follows : List Fault → ℕ → Driven → Bool → Transmitter → Transmitter → ℕ → Type 0
Follows faults commands driven true old new after = (new ≡ driven_by driven.tick driven.last old) × (after ≡ commands)
Follows faults commands driven false old new after = Begins faults commands driven new after

-- ---- what was driven

-- the transmission that a transmitter keeps
abbrev pub transmission_of : ℕ → Channel → Transmitter → Transmission
transmission_of station c t = record {
  station = station;
  channel = c;
  part = t.strikes.part;
  attempt = t.strikes.attempt;
  first = t.first;
}

abbrev pub kept_of : ℕ → Channel → Transmitter → Option ℕ → Option Transmission
kept_of station c t None = None
kept_of station c t (Some drove) = Some (transmission_of station c t)

-- the transmitter of a station on a channel stands for what was driven, and for the station's newest transmission there
pub record Keeps (faults : List Fault) (station : ℕ) (c : Channel) (t : Transmitter) (driven : List (List Drive)) (found : Option Transmission) : Type 0 where
  pub drove : t.drove ≡ newest (by_station station c) driven
  pub found_is : found ≡ kept_of station c t t.drove
  pub first : t.first ≤ length driven
  pub last : t.last ≡ last_since station c driven t.first
  pub never : t.drove ≡ None → t.last ≡ None
  pub strikes : IsSome t.drove → AreStrikes faults t.strikes
