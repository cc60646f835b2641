-- What a channel shows of the stations so far, and with those to come.
use Rattle.std.proofs.Common.{◌≡◌, ℕ, suc, ◌+◌, ◌<◌, ◌≤◌, ◌==◌, List, [], ◌∷◌, length}
use Rattle.std.proofs.Common.{get_or, drop, Option, Some, None, refl, sym, ap, ◌∙◌, arith, if◌then◌else◌, add-one}
use Rattle.std.specs.Prelude.{find}
use Rattle.std.proofs.lemmas.Bool.Decides.{nat_tests}
use Rattle.std.proofs.lemmas.List.{at_drop_more, at_drop_all}
use Rattle.std.proofs.lemmas.Option.{slice_get-get_or}
use Rattle.bus_base.specs.Samples.{other_of}
use Rattle.bus_base.specs.declared.samples.Channel.{Channel}
use Rattle.bus_base.specs.declared.samples.Sample.{Sample}
use Rattle.bus_base.specs.declared.samples.Sample.TheVariants.{Quiet}
use Rattle.bus_base.specs.declared.samples.Drive.{Drive}
use Rattle.bus_formats.specs.declared.fault.Fault.{Fault}
use Rattle.bus_model.specs.Transmissions.{Transmission, is_of, transmissions, station_drive, drive_or}
use Rattle.bus_model.specs.Wire.{add_sample, shown_by, samples_by, samples_on}
use Rattle.bus_wire.specs.Newest.{newest, by_any}
use Rattle.bus_wire.specs.Steps.{shown_of}
use Rattle.bus_wire.specs.Sides.{SideStands, Shows, with_shown}
use Rattle.bus_wire.specs.declared.transmitter.Transmitter.{Transmitter}
use Rattle.bus_wire.specs.declared.side.Side.{Side}
use Rattle.bus_wire.specs.declared.side.OnChannel.{OnChannel}
use Rattle.bus_wire.proofs.ShownLaws.{shown-is}
use Rattle.bus_wire.proofs.SideLaws.{each-at}

-- what is shown so far, before these samples, shows all of them
pub record Joins (on : OnChannel) (rest all : List Sample) : Type 0 where
  pub sample : (if on.drivers == 0 then get_or rest 0 on.sample else on.sample) ≡ get_or all 0 Quiet
  pub drivers : on.drivers + length rest ≡ length all

-- of no station yet
pub joins-none : (all : List Sample) → Joins (record { sample = Quiet; drivers = 0 }) all all
joins-none all = record { sample = refl; drivers = omega arith }

next-sample : (n : ℕ) (kept x : Sample) (rest : List Sample) →
    (if n == 0 then get_or (x ∷ rest) 0 kept else kept) ≡ (if n + 1 == 0 then get_or rest 0 (if n == 0 then x else kept) else (if n == 0 then x else kept))
next-sample n kept x rest = grind (arith, nat_tests)

-- of one station more
pub joins-more : (on : OnChannel) (shown : Option Sample) (rest all : List Sample) → Joins on (add_sample shown rest) all → Joins (with_shown on shown) rest all
joins-more on None rest all j = j
joins-more on (Some x) rest all j = record {
  sample = sym (next-sample on.drivers on.sample x rest) ∙ j.sample;
  drivers = omega (arith, j.drivers);
}

-- it counts one more at most
pub counts-few : (on : OnChannel) (shown : Option Sample) (n : ℕ) → on.drivers ≤ n → (with_shown on shown).drivers ≤ n + 1
counts-few on None n h = omega arith
counts-few on (Some x) n h = omega arith

last-sample : (n : ℕ) (kept : Sample) → (if n == 0 then kept else kept) ≡ kept
last-sample n kept = grind (arith, nat_tests)

-- of all
pub joins-all : (on : OnChannel) (all : List Sample) → Joins on [] all → Shows all on
joins-all on all j = record {
  sample = sym (last-sample on.drivers on.sample) ∙ j.sample;
  drivers = omega (arith, j.drivers);
}

-- ---- of what the stations drive

-- the samples of the stations from one on
abbrev pub samples_from : List Fault → Channel → List Drive → List (List Drive) → ℕ → List Drive → List Sample
samples_from faults c now before station drives =
    samples_by faults (now ∷ before) (length before) c (transmissions faults (now ∷ before)) station drives

pub joins-start : (faults : List Fault) (c : Channel) (now : List Drive) (before : List (List Drive)) →
    Joins (record { sample = Quiet; drivers = 0 }) (samples_from faults c now before 0 (drop 0 now)) (samples_on faults c (now ∷ before))
unfolding samples_on
joins-start faults c now before = joins-none (samples_from faults c now before 0 now)

-- one station more is shown
pub joins-station : (faults : List Fault) (c : Channel) (now : List Drive) (before : List (List Drive)) (side : Side) (other : Option ℕ) (station : ℕ)
    (d : Transmitter) (silent : Drive)
    (tick : ℕ) (on : OnChannel) → length now ≤ 32 → SideStands faults c side (now ∷ before) → tick ≡ length before →
    other ≡ newest (by_any (other_of c)) (now ∷ before) → station < length now →
    Joins on (samples_from faults c now before station (drop station now)) (samples_on faults c (now ∷ before)) →
    Joins (with_shown on (shown_of faults tick other c (get_or now station silent) (get_or side.transmitters station d)))
    (samples_from faults c now before (station + 1) (drop (station + 1) now)) (samples_on faults c (now ∷ before))
joins-station faults c now before side other station d silent tick on few stands at beside within j =
    let t : Transmitter = get_or side.transmitters station d in
    let drive : Drive = get_or now station silent in
    let drives : station_drive station now ≡ drive = ap drive_or (slice_get-get_or now station silent within) in
    let found : Option Transmission = find (is_of station c) (transmissions faults (now ∷ before)) in
    let later : List Sample = samples_from faults c now before (suc station) (drop (station + 1) now) in
    let shown : shown_of faults (length before) other c drive t ≡ shown_by faults (now ∷ before) (length before) c found drive =
    shown-is faults station c t now before found other drive drives beside (each-at faults c side (now ∷ before) station d (omega arith) stands) in
    let step : samples_from faults c now before station (drop station now)
    ≡ add_sample (shown_of faults (length before) other c drive t) (samples_from faults c now before (station + 1) (drop (station + 1) now)) =
    at_drop_more (samples_from faults c now before station) now station silent within
    ∙ (ap (λ x. add_sample x later) (sym shown)
    ∙ ap (λ n. add_sample (shown_of faults (length before) other c drive t) (samples_from faults c now before n (drop (station + 1) now))) (sym
    (add-one station))) in
    rw at (joins-more on (shown_of faults (length before) other c drive t) (samples_from faults c now before (station + 1) (drop (station + 1) now))
    (samples_on faults c (now ∷ before)) (rw (← step) j))

-- all stations are shown
pub joins-end : (faults : List Fault) (c : Channel) (now : List Drive) (before : List (List Drive)) (station : ℕ) (on : OnChannel) → length now ≤ station →
    Joins on (samples_from faults c now before station (drop station now)) (samples_on faults c (now ∷ before)) → Shows (samples_on faults c (now ∷ before)) on
joins-end faults c now before station on past j =
    joins-all on (samples_on faults c (now ∷ before)) (rw (at_drop_all (samples_from faults c now before station) now station past) at j)
