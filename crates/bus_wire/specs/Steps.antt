-- One tick of a transmitter, as functions of the transmitter alone. They mirror the code; what they mean is said over what was driven.
use Rattle.std.specs.Prelude.{ℕ, suc, ◌+◌, ◌-◌, ◌*◌, Bool, false, not, ◌&&◌, ◌==◌, nat_lt, nat_le, max, if◌then◌else◌, List, [], ◌∷◌, Option, Some, None}
use Rattle.std.specs.List.{list_any}
use Rattle.bus_base.specs.Samples.{same_part, same_channel}
use Rattle.bus_base.specs.declared.samples.Channel.{Channel}
use Rattle.bus_base.specs.declared.samples.Drive.{Drive}
use Rattle.bus_base.specs.declared.samples.Drive.TheVariants.{Silent, On}
use Rattle.bus_base.specs.declared.samples.Part.{Part}
use Rattle.bus_base.specs.declared.samples.Part.TheVariants.{Command}
use Rattle.bus_base.specs.declared.samples.Sample.{Sample}
use Rattle.bus_formats.specs.declared.fault.Fault.{Fault}
use Rattle.bus_formats.specs.declared.fault.Hit.{Hit}
use Rattle.bus_formats.specs.declared.fault.Hit.TheVariants.{Extra}
use Rattle.bus_model.specs.Strikes.{hits_on}
use Rattle.bus_model.specs.Transmissions.{cut_over, last_or_now}
use Rattle.bus_model.specs.Wire.{struck_sample, zero_sample, longest}
use Rattle.bus_wire.specs.Newest.{since}
use Rattle.bus_wire.specs.declared.transmitter.Transmitter.{Transmitter}

-- ---- faults

abbrev pub names : ℕ → Part → Fault → Bool
names attempt part fault = (fault.attempt == attempt) && same_part fault.part part

-- how many words the first extra adds
abbrev pub first_extra : List Hit → Option ℕ
first_extra [] = None
first_extra (Extra words ∷ hits) = Some words
first_extra (_ ∷ hits) = first_extra hits

-- ---- driving

abbrev pub is_next : Option ℕ → ℕ → Bool
is_next None tick = false
is_next (Some drove) tick = tick - drove == 1

abbrev pub goes_on : List Fault → ℕ → Transmitter → Bool
goes_on faults tick t =
    is_next t.drove tick && not (list_any (cut_over (tick - t.first)) (hits_on faults t.strikes.attempt t.strikes.part))

-- .. and no fault is in its range
abbrev pub passes : ℕ → Transmitter → Bool
passes tick t = is_next t.drove tick && nat_le t.strikes.until t.strikes.from

abbrev pub driven_by : ℕ → Bool → Transmitter → Transmitter
driven_by tick last t = record t { drove = Some tick; last = last_or_now last tick t.last }

abbrev pub sends_command : Part → Bool
sends_command part = same_part part Command

-- ---- adding

abbrev pub is_added : ℕ → ℕ → ℕ → Transmitter → Bool
is_added tick last words t =
    nat_lt last tick && nat_le tick (last + 40 * words) && nat_lt tick (t.first + longest) && not (since t.drove (suc last))

abbrev pub ends_by : Option ℕ → Transmitter → Bool
ends_by other t = not (sends_command t.strikes.part) && since other t.first

abbrev pub added_after : ℕ → Option ℕ → Transmitter → Option ℕ → Option ℕ → Option Sample
added_after tick other t None last = None
added_after tick other t (Some words) None = None
added_after tick other t (Some words) (Some last) =
    if is_added tick last words t && not (ends_by other t) then Some (zero_sample (tick - suc last)) else None

-- what an extra adds, by the newest tick in which any station drove the other channel
abbrev pub added_of : ℕ → Option ℕ → Transmitter → Option Sample
added_of tick other t = added_after tick other t t.strikes.extra t.last

-- ---- what is shown

abbrev pub driven_sample : Channel → Drive → Option Sample
driven_sample c Silent = None
driven_sample c (On channel sample part last) = if same_channel channel c then Some sample else None

abbrev pub struck_of : List Fault → ℕ → Transmitter → Sample → Sample
struck_of faults tick t sample = struck_sample (tick - t.first) (hits_on faults t.strikes.attempt t.strikes.part) sample

abbrev pub shown_or : List Fault → ℕ → Option ℕ → Transmitter → Option Sample → Option Sample
shown_or faults tick other t None = added_of tick other t
shown_or faults tick other t (Some sample) = Some (struck_of faults tick t sample)

abbrev pub shown_of : List Fault → ℕ → Option ℕ → Channel → Drive → Transmitter → Option Sample
shown_of faults tick other c drive t = shown_or faults tick other t (driven_sample c drive)

-- ---- extras of a channel

abbrev pub later_of : Option ℕ → ℕ → ℕ
later_of None tick = tick
later_of (Some earlier) tick = max earlier tick

abbrev pub extra_or_earlier : Option ℕ → ℕ → Option ℕ → Option ℕ
extra_or_earlier earlier first None = earlier
extra_or_earlier earlier first (Some words) = Some (later_of earlier first)

-- the first tick of the newest transmission with an extra, of this one and earlier ones
abbrev pub extra_with : Option ℕ → Transmitter → Option ℕ
extra_with earlier t = extra_or_earlier earlier t.first t.strikes.extra

-- the fail-safe hasn't stopped all extras of a channel
abbrev pub may_add : ℕ → Option ℕ → Bool
may_add tick None = false
may_add tick (Some first) = nat_lt (tick - first) longest
