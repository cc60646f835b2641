-- One station sends words on a channel while no other drives it: the premises of the laws. What was driven is a list of ticks, the newest
-- first, with a drive for each station in the order of the plan; a station is named by its place there.
use Rattle.std.specs.Prelude.{◌≡◌, ◌≢◌, ℕ, ◌+◌, ◌*◌, ◌<◌, ◌≤◌, Bool, false, if◌then◌else◌, List, [], ◌∷◌, length, slice_get, count_by, find, Some, None}
use Rattle.std.specs.List.{list_any}
use Rattle.bus_base.specs.Samples.{same_part}
use Rattle.bus_base.specs.declared.samples.Channel.{Channel}
use Rattle.bus_base.specs.declared.samples.Part.{Part}
use Rattle.bus_base.specs.declared.samples.Part.TheVariants.{Command}
use Rattle.bus_base.specs.declared.samples.Sample.TheVariants.{Quiet}
use Rattle.bus_base.specs.declared.samples.Drive.{Drive}
use Rattle.bus_base.specs.declared.samples.Drive.TheVariants.{Silent, On}
use Rattle.bus_words.specs.declared.word.Word.{Word}
use Rattle.bus_formats.specs.declared.fault.Fault.{Fault}
use Rattle.bus_formats.specs.declared.fault.Hit.{Hit}
use Rattle.bus_model.specs.Sending.{drive_sample}
use Rattle.bus_model.specs.Strikes.{hits_on}
use Rattle.bus_model.specs.Transmissions.{drives_on, station_drive, newest_drives, is_of, is_command, cut_over, transmissions}
use Rattle.bus_model.specs.Wire.{shown_silent}
use Rattle.bus_law_line.specs.Shown.{struck_of}

-- ---- what is left of an extra

-- nothing of this station is to be shown on the channel in the tick to come, unless it drives it: its newest transmission there adds nothing
abbrev pub IsSpent : List Fault → Channel → List (List Drive) → ℕ → Type 0
IsSpent faults c before station = shown_silent faults before (length before) (find (is_of station c) (transmissions faults before)) ≡ None

-- ---- a channel that nobody drives

-- a tick in which no station drives the channel
abbrev pub IsUndriven : Channel → List Drive → Type 0
IsUndriven c now = (station : ℕ) → drives_on c (station_drive station now) ≡ false

-- ticks in which no station drives it
abbrev pub AreUndriven : Channel → List (List Drive) → Type 0
AreUndriven c [] = Unit {0}
AreUndriven c (now ∷ silent) = IsUndriven c now × AreUndriven c silent

-- ticks, after those before, in which the channel is left alone
pub record LeftAlone (faults : List Fault) (c : Channel) (before silent : List (List Drive)) : Type 0 where
  -- no station drives it
  pub undriven : AreUndriven c silent
  -- and no transmission has an extra left to show there
  pub spent : (station : ℕ) → IsSpent faults c before station

-- ---- a channel that one station drives

-- a station, by its place, that sends these words on a channel as this part of a message
pub record Sender : Type 0 where
  pub station : ℕ
  pub channel : Channel
  pub part : Part
  pub words : List Word

abbrev pub drives_command : Drive → Bool
drives_command Silent = false
drives_command (On channel sample part last) = same_part part Command

-- the attempt of which a part is that begins in the tick to come, where no other command begins in it
abbrev pub attempt_to_come : List Fault → Part → List (List Drive) → ℕ
attempt_to_come faults part before = count_by is_command (transmissions faults before) + (if same_part part Command then 1 else 0)

-- a tick in which it sends sample i of its words
pub record SendsAlone (s : Sender) (i : ℕ) (now : List Drive) : Type 0 where
  -- it drives this sample
  pub own : slice_get now s.station ≡ Some (drive_sample s.channel s.part s.words i)
  -- and no other station drives the channel; the other channel is as it may be
  pub alone : (other : ℕ) → other ≢ s.station → drives_on s.channel (station_drive other now) ≡ false
  -- in the first tick no other station drives a command either, so that the attempts are counted by this one alone
  pub counted : i ≡ 0 → (other : ℕ) → other ≢ s.station → drives_command (station_drive other now) ≡ false

-- ticks in which it sends its words from the first sample on
abbrev pub SendAlone : Sender → List (List Drive) → Type 0
SendAlone s [] = Unit {0}
SendAlone s (now ∷ sent) = SendsAlone s (length sent) now × SendAlone s sent

-- a station sends in these ticks, after those before, and these hits strike what it sends
pub record SentAlone (faults : List Fault) (s : Sender) (hits : List Hit) (before sent : List (List Drive)) : Type 0 where
  -- it begins: in the tick before it didn't drive the channel
  pub fresh : drives_on s.channel (station_drive s.station (newest_drives before)) ≡ false
  -- no transmission of another station has an extra left to show there
  pub spent : (other : ℕ) → other ≢ s.station → IsSpent faults s.channel before other
  -- it sends alone, in no more ticks than its words have samples
  pub ticks : SendAlone s sent
  pub within : length sent ≤ 40 * length s.words
  -- the hits are those that the plan names for this part of this attempt
  pub named : hits_on faults (attempt_to_come faults s.part before) s.part ≡ hits
  -- and in these ticks no cut has ended the transmission
  pub uncut : (i : ℕ) → i < length sent → list_any (cut_over i) hits ≡ false

-- the faults leave no sample of these words quiet
abbrev pub AreHeard : List Hit → List Word → Type 0
AreHeard hits words = (i : ℕ) → i < 40 * length words → struck_of hits words i ≢ Quiet
