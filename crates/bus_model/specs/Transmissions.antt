-- What stations drove, and the transmissions among that: by them the faults of a plan find what they strike (MIL-STD-1553B 4.4.1.2; faults
-- are the project's own). What was driven is a list of ticks, the newest first, with a drive for each station.
use Rattle.std.specs.Prelude.{ℕ, suc, ◌+◌, ◌-◌, ◌*◌, Bool, false, not, ◌&&◌, ◌||◌, ◌==◌, nat_lt, nat_le, if◌then◌else◌, List, [], ◌∷◌, length, slice_get, count_by, find, Option, Some, None}
use Rattle.std.specs.List.{list_any}
use Rattle.bus_base.specs.Samples.{same_channel, same_part}
use Rattle.bus_base.specs.declared.samples.Channel.{Channel}
use Rattle.bus_base.specs.declared.samples.Part.{Part}
use Rattle.bus_base.specs.declared.samples.Part.TheVariants.{Command}
use Rattle.bus_base.specs.declared.samples.Drive.{Drive}
use Rattle.bus_base.specs.declared.samples.Drive.TheVariants.{Silent, On}
use Rattle.bus_formats.specs.declared.fault.Fault.{Fault}
use Rattle.bus_formats.specs.declared.fault.Hit.{Hit}
use Rattle.bus_formats.specs.declared.fault.Hit.TheVariants.{Cut}
use Rattle.bus_model.specs.Strikes.{hits_on}

-- ---- drives

abbrev pub drives_on : Channel → Drive → Bool
drives_on c Silent = false
drives_on c (On channel sample part last) = same_channel channel c

abbrev pub drives_last : Channel → Drive → Bool
drives_last c Silent = false
drives_last c (On channel sample part last) = same_channel channel c && last

-- what a station drove in a tick
abbrev pub drive_or : Option Drive → Drive
drive_or None = Silent
drive_or (Some drive) = drive

abbrev pub station_drive : ℕ → List Drive → Drive
station_drive station now = drive_or (slice_get now station)

-- a station drove a channel in some tick from a on
unfoldable pub drove_since : ℕ → Channel → List (List Drive) → ℕ → Bool
drove_since station c [] a = false
drove_since station c (now ∷ before) a =
    if nat_lt (length before) a then false else drives_on c (station_drive station now) || drove_since station c before a

-- some station did
unfoldable pub driven_since : Channel → List (List Drive) → ℕ → Bool
driven_since c [] a = false
driven_since c (now ∷ before) a =
    if nat_lt (length before) a then false else list_any (drives_on c) now || driven_since c before a

abbrev pub last_or_now : Bool → ℕ → Option ℕ → Option ℕ
last_or_now now tick (Some earlier) = Some earlier
last_or_now now tick None = if now then Some tick else None

-- the first tick from a on in which a station drove the last sample of its words
unfoldable pub last_since : ℕ → Channel → List (List Drive) → ℕ → Option ℕ
last_since station c [] a = None
last_since station c (now ∷ before) a =
    if nat_lt (length before) a then None
    else last_or_now (drives_last c (station_drive station now)) (length before) (last_since station c before a)

-- ---- transmissions

-- a run of ticks in which one station, by its place, drives one channel: its part of a message, its attempt and its first tick
pub record Transmission : Type 0 where
  pub station : ℕ
  pub channel : Channel
  pub part : Part
  pub attempt : ℕ
  pub first : ℕ

abbrev pub is_of : ℕ → Channel → Transmission → Bool
is_of station c t = (t.station == station) && same_channel t.channel c

abbrev pub is_command : Transmission → Bool
is_command t = same_part t.part Command

-- sample i of a transmission is shown quiet by a cut; the cut ends the transmission with the fourth of these
abbrev pub cuts_at : ℕ → Hit → Bool
cuts_at i (Cut after) = nat_le (40 * after) i
cuts_at i _ = false

abbrev pub cut_over : ℕ → Hit → Bool
cut_over i (Cut after) = i == 40 * after + 4
cut_over i _ = false

-- attempts are counted by the transmissions of commands; another belongs to the attempt that was the last new_transmission
abbrev pub new_transmission : ℕ → Channel → Part → ℕ → List Transmission → Transmission
new_transmission station c part tick ts = record {
  station = station;
  channel = c;
  part = part;
  first = tick;
  attempt = count_by is_command ts + (if same_part part Command then 1 else 0);
}

abbrev pub newest_drives : List (List Drive) → List Drive
newest_drives [] = []
newest_drives (now ∷ before) = now

module _ (faults : List Fault) where
  abbrev pub hits_of : Transmission → List Hit
  hits_of t = hits_on faults t.attempt t.part

  abbrev pub is_cut_over : ℕ → Option Transmission → Bool
  is_cut_over tick None = false
  is_cut_over tick (Some t) = list_any (cut_over (tick - t.first)) (hits_of t)

  -- a transmission begins where its station didn't drive the channel in the tick before, or a cut ended the one before
  abbrev pub with_drive : ℕ → ℕ → Drive → List Transmission → Drive → List Transmission
  with_drive station tick before ts Silent = ts
  with_drive station tick before ts (On c sample part last) =
      if drives_on c before && not (is_cut_over tick (find (is_of station c) ts)) then ts
      else new_transmission station c part tick ts ∷ ts

  abbrev pub with_drives : ℕ → ℕ → List Drive → List Drive → List Transmission → List Transmission
  with_drives station tick before [] ts = ts
  with_drives station tick before (drive ∷ drives) ts =
      with_drives (suc station) tick before drives (with_drive station tick (station_drive station before) ts drive)

  -- all transmissions, the newest first; of those that begin in one tick that of the station earlier in order begins first
  unfoldable pub transmissions : List (List Drive) → List Transmission
  transmissions [] = []
  transmissions (now ∷ before) = with_drives 0 (length before) (newest_drives before) now (transmissions before)
