-- A transmitter with one tick more of what was driven.
use Rattle.std.proofs.Common.{◌≡◌, ℕ, ◌+◌, ◌-◌, Bool, true, false, not, ◌&&◌, List, []}
use Rattle.std.proofs.Common.{◌∷◌, length, Option, Some, None, refl, sym, ap, ◌∙◌, subst, arith, if◌then◌else◌}
use Rattle.std.specs.Prelude.{find, count_by, IsSome}
use Rattle.std.specs.List.{list_any}
use Rattle.std.proofs.lemmas.Bool.{false≢true}
use Rattle.bus_base.specs.declared.samples.Channel.{Channel}
use Rattle.bus_base.specs.declared.samples.Drive.{Drive}
use Rattle.bus_base.specs.declared.samples.Drive.TheVariants.{On}
use Rattle.bus_base.specs.declared.samples.Part.{Part}
use Rattle.bus_base.specs.declared.samples.Sample.{Sample}
use Rattle.bus_formats.specs.declared.fault.Fault.{Fault}
use Rattle.bus_model.specs.Strikes.{hits_on}
use Rattle.bus_model.specs.Transmissions.{Transmission, is_of, is_command, drives_on, station_drive}
use Rattle.bus_model.specs.Transmissions.{newest_drives, last_since, cut_over, is_cut_over, new_transmission, with_drive}
use Rattle.bus_wire.specs.Newest.{by_station, newest}
use Rattle.bus_wire.specs.Steps.{is_next, goes_on, driven_by, sends_command}
use Rattle.bus_wire.specs.Stands.{Unsent, Begins, Follows, Keeps, kept_of, transmission_of}
use Rattle.bus_wire.specs.declared.transmitter.Transmitter.{Transmitter}
use Rattle.bus_wire.proofs.NewestLaws.{newest-quiet, newest-now, next-newest}
use Rattle.bus_wire.proofs.LastLaws.{last-now, last-later, last-quiet, on-drives, on-last}
use Rattle.bus_wire.proofs.FoundLaws.{found-own, counted-new}

-- before the first tick
pub keeps-first : (faults : List Fault) (station : ℕ) (c : Channel) (t : Transmitter) → Unsent t → Keeps faults station c t [] None
unfolding newest last_since
keeps-first faults station c t u = record {
  drove = u.drove;
  found_is = rw u.drove refl;
  first = rw u.first (omega arith);
  last = u.last;
  never = λ e. u.last;
  strikes = rw u.drove (λ h. absurd (false≢true h));
}

-- a tick in which the station doesn't drive the channel
pub keeps-quiet : (faults : List Fault) (station : ℕ) (c : Channel) (t : Transmitter) (now : List Drive) (driven : List (List Drive))
    (found : Option Transmission) →
    drives_on c (station_drive station now) ≡ false → Keeps faults station c t driven found → Keeps faults station c t (now ∷ driven) found
keeps-quiet faults station c t now driven found e k = record {
  drove = k.drove ∙ sym (newest-quiet (by_station station c) now driven e);
  found_is = k.found_is;
  first = omega (arith, k.first);
  last = k.last ∙ sym (last-quiet station c now driven t.first k.first e);
  never = k.never;
  strikes = k.strikes;
}

-- ---- a tick in which it does

goes-kept : (faults : List Fault) (station : ℕ) (c : Channel) (t : Transmitter) (tick : ℕ) (drove : Option ℕ) →
    (is_next drove tick && not (is_cut_over faults tick (kept_of station c t drove)))
    ≡ (is_next drove tick && not (list_any (cut_over (tick - t.first)) (hits_on faults t.strikes.attempt t.strikes.part)))
goes-kept faults station c t tick None = refl
goes-kept faults station c t tick (Some drove) = refl

-- whether it goes on with the transmission
pub goes-is : (faults : List Fault) (station : ℕ) (c : Channel) (t : Transmitter) (driven : List (List Drive)) (found : Option Transmission) →
    Keeps faults station c t driven found →
    (drives_on c (station_drive station (newest_drives driven)) && not (is_cut_over faults (length driven) found)) ≡ goes_on faults (length driven) t
goes-is faults station c t driven found k =
    rw (next-newest station c driven, ← k.drove, k.found_is) (goes-kept faults station c t (length driven) t.drove)

-- so the list of transmissions is this
pub with-drive-is : (faults : List Fault) (station : ℕ) (c : Channel) (t : Transmitter) (driven : List (List Drive)) (ts : List Transmission)
    (sample : Sample) (part : Part) (last : Bool) → Keeps faults station c t driven (find (is_of station c) ts) →
    with_drive faults station (length driven) (station_drive station (newest_drives driven)) ts (On c sample part last)
    ≡ (if goes_on faults (length driven) t then ts else new_transmission station c part (length driven) ts ∷ ts)
with-drive-is faults station c t driven ts sample part last k =
    ap (λ goes. if goes then ts else new_transmission station c part (length driven) ts ∷ ts) (goes-is faults station c t driven (find (is_of station c) ts) k)

goes-drove : (faults : List Fault) (station : ℕ) (c : Channel) (t next : Transmitter) (tick : ℕ) (drove : Option ℕ) → goes_on faults tick t ≡ true →
    drove ≡ t.drove →
    transmission_of station c next ≡ transmission_of station c t → kept_of station c t t.drove ≡ Some (transmission_of station c next)
goes-drove faults station c t next tick None g e same = (let no : false ≡ true = rw (← e) at g in cc)
goes-drove faults station c t next tick (Some drove) g e same = rw (← e) (ap Some (sym same))

goes-some : (faults : List Fault) (t : Transmitter) (tick : ℕ) (drove : Option ℕ) → goes_on faults tick t ≡ true → drove ≡ t.drove → IsSome t.drove
goes-some faults t tick None g e = (let no : false ≡ true = rw (← e) at g in cc)
goes-some faults t tick (Some drove) g e = rw (← e) refl

-- it goes on
pub keeps-going : (faults : List Fault) (station : ℕ) (c : Channel) (t next : Transmitter) (now : List Drive) (driven : List (List Drive))
    (found : Option Transmission)
    (sample : Sample) (part : Part) (last : Bool) → station_drive station now ≡ On c sample part last → goes_on faults (length driven) t ≡ true →
    next ≡ driven_by (length driven) last t → Keeps faults station c t driven found → Keeps faults station c next (now ∷ driven) found
keeps-going faults station c t next now driven found sample part last d g is k = rw is record {
  drove = sym (newest-now (by_station station c) now driven (rw d (on-drives c sample part last)));
  found_is = k.found_is ∙ goes-drove faults station c t (driven_by (length driven) last t) (length driven) t.drove g refl refl;
  first = omega (arith, k.first);
  last = sym (last-now station c now driven t.first k.first ∙ (rw (d, on-last c sample part last, ← k.last) refl));
  never = λ e. (let no : Some (length driven) ≡ None = e in cc);
  strikes = λ h. k.strikes (goes-some faults t (length driven) t.drove g refl);
}

-- a transmission begins
pub keeps-beginning : (faults : List Fault) (station : ℕ) (c : Channel) (next : Transmitter) (now : List Drive) (driven : List (List Drive))
    (ts : List Transmission)
    (sample : Sample) (part : Part) (last : Bool) (commands after : ℕ) → station_drive station now ≡ On c sample part last → commands ≡ count_by is_command ts →
    Begins faults commands (record { tick = length driven; part = part; last = last }) next after →
    Keeps faults station c next (now ∷ driven) (find (is_of station c) (new_transmission station c part (length driven) ts ∷ ts))
keeps-beginning faults station c next now driven ts sample part last commands after d counted b =
    let attempt : next.strikes.attempt ≡ (new_transmission station c part (length driven) ts).attempt = b.attempt ∙ (b.counted
    ∙ ap (λ n. n + (if sends_command part then 1 else 0)) counted) in
    let new : Transmitter = driven_by (length driven) last (record { drove = None; first = length driven; last = None; strikes = next.strikes }) in
    let kept : Keeps faults station c new (now ∷ driven) (find (is_of station c) (new_transmission station c part (length driven) ts ∷ ts)) = record {
      drove = sym (newest-now (by_station station c) now driven (rw d (on-drives c sample part last)));
      found_is = found-own station c part (length driven) ts ∙ (rw (attempt, b.part) refl);
      first = omega arith;
      last = sym (last-now station c now driven (length driven) (omega arith)
          ∙ (rw (d, on-last c sample part last, last-later station c driven (length driven) (omega arith)) refl));
      never = λ e. (let no : Some (length driven) ≡ None = e in cc);
      strikes = λ h. b.strikes;
    } in
    subst (λ (t : Transmitter). Keeps faults station c t (now ∷ driven) (find (is_of station c) (new_transmission station c part (length driven) ts ∷ ts)))
    (sym b.is) kept

-- ---- the two together

-- a station drives the channel: its transmitter then stands for one tick more, and the commands are counted
pub keeps-driving : (faults : List Fault) (station : ℕ) (c : Channel) (t next : Transmitter) (now : List Drive) (driven : List (List Drive))
    (ts : List Transmission)
    (sample : Sample) (part : Part) (last : Bool) (commands after : ℕ) (goes : Bool) → station_drive station now ≡ On c sample part last →
    commands ≡ count_by is_command ts →
    goes_on faults (length driven) t ≡ goes → Follows faults commands (record { tick = length driven; part = part; last = last }) goes t next after →
    Keeps faults station c t driven (find (is_of station c) ts) →
    Keeps faults station c next (now ∷ driven) (find (is_of station c) (if goes then ts else new_transmission station c part (length driven) ts ∷ ts))
    × (after ≡ count_by is_command (if goes then ts else new_transmission station c part (length driven) ts ∷ ts))
keeps-driving faults station c t next now driven ts sample part last commands after true d counted g follows k =
    (keeps-going faults station c t next now driven (find (is_of station c) ts) sample part last d g follows.0 k, follows.1 ∙ counted)
keeps-driving faults station c t next now driven ts sample part last commands after false d counted g b k = (
  keeps-beginning faults station c next now driven ts sample part last commands after d counted b,
  b.counted ∙ (ap (λ n. n + (if sends_command part then 1 else 0)) counted ∙ counted-new station c part (length driven) ts),
)
