-- What a transmitter shows of the newest tick is what the wire shows of its station on its channel.
use Rattle.std.proofs.Common.{◌≡◌, ℕ, suc, Bool, true, false, List, [], ◌∷◌, length, Option, Some, None, refl, sym, ap, ◌∙◌, if◌then◌else◌}
use Rattle.bus_base.specs.Samples.{other_of, same_channel}
use Rattle.bus_base.specs.declared.samples.Channel.{Channel}
use Rattle.bus_base.specs.declared.samples.Drive.{Drive}
use Rattle.bus_base.specs.declared.samples.Drive.TheVariants.{Silent, On}
use Rattle.bus_base.specs.declared.samples.Part.{Part}
use Rattle.bus_base.specs.declared.samples.Sample.{Sample}
use Rattle.bus_formats.specs.declared.fault.Fault.{Fault}
use Rattle.bus_formats.specs.declared.fault.Hit.{Hit}
use Rattle.bus_formats.specs.declared.fault.Hit.TheVariants.{Flip, Cut, Extra, Fade}
use Rattle.bus_model.specs.Strikes.{hits_on}
use Rattle.bus_model.specs.Transmissions.{Transmission, drives_on, station_drive, last_since}
use Rattle.bus_model.specs.Wire.{extra_after, added_sample, shown_silent, shown_driven, shown_by}
use Rattle.bus_wire.specs.Newest.{by_station, by_any, newest}
use Rattle.bus_wire.specs.Steps.{first_extra, added_after, added_of, struck_of, shown_or, shown_of}
use Rattle.bus_wire.specs.Stands.{AreStrikes, Keeps, kept_of, transmission_of}
use Rattle.bus_wire.specs.declared.transmitter.Transmitter.{Transmitter}
use Rattle.bus_wire.proofs.NewestLaws.{newest-now, drove-newest, driven-newest}

abbrev extra_or : Transmission → List (List Drive) → ℕ → Option ℕ → Option Sample
extra_or t driven tick None = None
extra_or t driven tick (Some words) = extra_after t driven tick words (last_since t.station t.channel driven t.first)

-- the first extra decides
added-first : (t : Transmission) (driven : List (List Drive)) (tick : ℕ) (hits : List Hit) →
    added_sample t driven tick hits ≡ extra_or t driven tick (first_extra hits)
added-first t driven tick [] = refl
added-first t driven tick (Flip word set ∷ hits) = added-first t driven tick hits
added-first t driven tick (Cut after ∷ hits) = added-first t driven tick hits
added-first t driven tick (Fade word set ∷ hits) = added-first t driven tick hits
added-first t driven tick (Extra words ∷ hits) = refl

-- what an extra of so many words adds after this tick
extra-is : (station : ℕ) (c : Channel) (t : Transmitter) (driven : List (List Drive)) (tick words : ℕ) (other last : Option ℕ) →
    t.drove ≡ newest (by_station station c) driven → other ≡ newest (by_any (other_of c)) driven →
    added_after tick other t (Some words) last ≡ extra_after (transmission_of station c t) driven tick words last
extra-is station c t driven tick words other None own beside = refl
extra-is station c t driven tick words other (Some last) own beside =
    rw (drove-newest station c driven (suc last), driven-newest (other_of c) driven t.first, own, beside) refl

extra-kept : (station : ℕ) (c : Channel) (t : Transmitter) (driven : List (List Drive)) (tick : ℕ) (other extra : Option ℕ) →
    t.drove ≡ newest (by_station station c) driven → other ≡ newest (by_any (other_of c)) driven → t.last ≡ last_since station c driven t.first →
    added_after tick other t extra t.last ≡ extra_or (transmission_of station c t) driven tick extra
extra-kept station c t driven tick other None own beside last = refl
extra-kept station c t driven tick other (Some words) own beside last =
    extra-is station c t driven tick words other t.last own beside
    ∙ ap (extra_after (transmission_of station c t) driven tick words) last

never-adds : (tick : ℕ) (other extra : Option ℕ) (t : Transmitter) → added_after tick other t extra None ≡ None
never-adds tick other None t = refl
never-adds tick other (Some words) t = refl

added-kept : (faults : List Fault) (station : ℕ) (c : Channel) (t : Transmitter) (driven : List (List Drive)) (found : Option Transmission) (tick : ℕ)
    (other drove : Option ℕ) →
    t.drove ≡ drove → other ≡ newest (by_any (other_of c)) driven → Keeps faults station c t driven found →
    added_of tick other t ≡ shown_silent faults driven tick (kept_of station c t drove)
added-kept faults station c t driven found tick other None e beside k = rw (k.never e) (never-adds tick other t.strikes.extra t)
added-kept faults station c t driven found tick other (Some drove) e beside k =
    let strikes : AreStrikes faults t.strikes = k.strikes (rw e refl) in
    extra-kept station c t driven tick other t.strikes.extra k.drove beside k.last
    ∙ (ap (extra_or (transmission_of station c t) driven tick) strikes.extra
    ∙ sym (added-first (transmission_of station c t) driven tick (hits_on faults t.strikes.attempt t.strikes.part)))

-- what an extra adds where the station doesn't drive the channel
added-is : (faults : List Fault) (station : ℕ) (c : Channel) (t : Transmitter) (driven : List (List Drive)) (found : Option Transmission) (tick : ℕ)
    (other : Option ℕ) →
    other ≡ newest (by_any (other_of c)) driven → Keeps faults station c t driven found → added_of tick other t ≡ shown_silent faults driven tick found
added-is faults station c t driven found tick other beside k =
    added-kept faults station c t driven found tick other t.drove refl beside k ∙ ap (shown_silent faults driven tick) (sym k.found_is)

-- a transmitter that drives the channel in the newest tick has driven it
pub drove-now : (faults : List Fault) (station : ℕ) (c : Channel) (t : Transmitter) (now : List Drive) (before : List (List Drive))
    (found : Option Transmission) →
    drives_on c (station_drive station now) ≡ true → Keeps faults station c t (now ∷ before) found → t.drove ≡ Some (length before)
drove-now faults station c t now before found e k = k.drove ∙ newest-now (by_station station c) now before e

pub strikes-now : (faults : List Fault) (station : ℕ) (c : Channel) (t : Transmitter) (now : List Drive) (before : List (List Drive))
    (found : Option Transmission) →
    drives_on c (station_drive station now) ≡ true → Keeps faults station c t (now ∷ before) found → AreStrikes faults t.strikes
strikes-now faults station c t now before found e k = k.strikes (rw (drove-now faults station c t now before found e k) refl)

struck-is : (faults : List Fault) (station : ℕ) (c : Channel) (t : Transmitter) (now : List Drive) (before : List (List Drive))
    (found : Option Transmission) (sample : Sample) →
    drives_on c (station_drive station now) ≡ true → Keeps faults station c t (now ∷ before) found →
    Some (struck_of faults (length before) t sample) ≡ shown_driven faults (length before) sample found
struck-is faults station c t now before found sample e k =
    rw (k.found_is, drove-now faults station c t now before found e k) refl

shown-drive : (faults : List Fault) (station : ℕ) (c : Channel) (t : Transmitter) (now : List Drive) (before : List (List Drive))
    (found : Option Transmission) (other : Option ℕ)
    (on : Channel) (sample : Sample) (part : Part) (last here : Bool) → station_drive station now ≡ On on sample part last → same_channel on c ≡ here →
    other ≡ newest (by_any (other_of c)) (now ∷ before) → Keeps faults station c t (now ∷ before) found →
    shown_or faults (length before) other t (if here then Some sample else None)
    ≡ (if here then shown_driven faults (length before) sample found else shown_silent faults (now ∷ before) (length before) found)
shown-drive faults station c t now before found other on sample part last true d e beside k =
    struck-is faults station c t now before found sample (rw (d, e) refl) k
shown-drive faults station c t now before found other on sample part last false d e beside k =
    added-is faults station c t (now ∷ before) found (length before) other beside k

-- what is shown of a station
pub shown-is : (faults : List Fault) (station : ℕ) (c : Channel) (t : Transmitter) (now : List Drive) (before : List (List Drive))
    (found : Option Transmission) (other : Option ℕ)
    (drive : Drive) → station_drive station now ≡ drive → other ≡ newest (by_any (other_of c)) (now ∷ before) → Keeps faults station c t (now ∷ before) found →
    shown_of faults (length before) other c drive t ≡ shown_by faults (now ∷ before) (length before) c found drive
shown-is faults station c t now before found other Silent d beside k = added-is faults station c t (now ∷ before) found (length before) other beside k
shown-is faults station c t now before found other (On on sample part last) d beside k =
    shown-drive faults station c t now before found other on sample part last (same_channel on c) d refl beside k
