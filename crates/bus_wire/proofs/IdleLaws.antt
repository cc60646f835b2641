-- A channel in a tick in which nobody drives it and no extra may add to it.
use Rattle.std.proofs.Common.{◌≡◌, ℕ, zero, suc, ◌+◌, ◌<◌, ◌≤◌, Bool, true, false, not, ◌&&◌, ◌||◌}
use Rattle.std.proofs.Common.{List, [], ◌∷◌, length, get_or, drop, Option, Some, None, refl, sym, ap, ◌∙◌, arith}
use Rattle.std.specs.List.{list_any}
use Rattle.std.proofs.lemmas.Bool.{false≢true}
use Rattle.std.proofs.lemmas.Bool.Decides.{nat_tests}
use Rattle.std.proofs.lemmas.Option.{slice_get-get_or}
use Rattle.bus_base.specs.Samples.{other_of}
use Rattle.bus_base.specs.declared.samples.Channel.{Channel}
use Rattle.bus_base.specs.declared.samples.Sample.TheVariants.{Quiet}
use Rattle.bus_base.specs.declared.samples.Drive.{Drive}
use Rattle.bus_base.specs.declared.samples.Drive.TheVariants.{Silent, On}
use Rattle.bus_formats.specs.declared.fault.Fault.{Fault}
use Rattle.bus_model.specs.Transmissions.{drives_on}
use Rattle.bus_model.specs.Wire.{samples_on}
use Rattle.bus_wire.specs.Newest.{newest, by_any, since}
use Rattle.bus_wire.specs.Steps.{driven_sample, shown_or, shown_of, may_add}
use Rattle.bus_wire.specs.Sides.{SideStands, Shows}
use Rattle.bus_wire.specs.declared.transmitter.Transmitter.{Transmitter}
use Rattle.bus_wire.specs.declared.side.Side.{Side}
use Rattle.bus_wire.specs.declared.side.OnChannel.{OnChannel}
use Rattle.bus_wire.proofs.NewestLaws.{newest-now}
use Rattle.bus_wire.proofs.ExtraLaws.{none-added}
use Rattle.bus_wire.proofs.OnLaws.{Joins, samples_from, joins-start, joins-station, joins-end}

-- where none drives the channel, each station doesn't
or-false : (a b : Bool) → (a || b) ≡ false → (a ≡ false) × (b ≡ false)
or-false true b h = absurd (false≢true (sym h))
or-false false b h = (refl, h)

undriven-at : (c : Channel) (now : List Drive) (i : ℕ) → list_any (drives_on c) now ≡ false → drives_on c (get_or now i Silent) ≡ false
undriven-at c [] i h = refl
undriven-at c (drive ∷ drives) zero h = (or-false (drives_on c drive) (list_any (drives_on c) drives) h).0
undriven-at c (drive ∷ drives) (suc i) h = undriven-at c drives i (or-false (drives_on c drive) (list_any (drives_on c) drives) h).1

-- a station that doesn't drive the channel has no sample there
undriven-sample : (c : Channel) (drive : Drive) → drives_on c drive ≡ false → driven_sample c drive ≡ None
undriven-sample c Silent h = refl
undriven-sample c (On channel sample part last) h = rw h refl

-- none drives the channel in the newest tick, where it wasn't driven from that tick on
pub driven-since : (c : Channel) (now : List Drive) (before : List (List Drive)) (driven : Option ℕ) (tick : ℕ) (b : Bool) → by_any c now ≡ b →
    driven ≡ newest (by_any c) (now ∷ before) → tick ≡ length before → since driven tick ≡ false → by_any c now ≡ false
driven-since c now before driven tick false e is at h = e
driven-since c now before driven tick true e is at h =
    let here : driven ≡ Some (length before) = is ∙ newest-now (by_any c) now before e in
    let always : since driven tick ≡ true = rw (here, at) (grind (arith, nat_tests)) in
    absurd (false≢true (sym h ∙ always))

-- two tests that both fail
pub neither : (a b : Bool) → (not a && not b) ≡ true → (a ≡ false) × (b ≡ false)
neither true b h = absurd (false≢true h)
neither false true h = absurd (false≢true h)
neither false false h = (refl, refl)

-- one transmitter of a channel
pub one-of : {A : Type 0} (xs : List A) → 0 < length xs → A
one-of [] h = absurd (omega arith)
one-of (x ∷ xs) h = x

module _ (faults : List Fault) (c : Channel) (now : List Drive) (before : List (List Drive)) (side : Side) (other : Option ℕ) (tick : ℕ)
    (few : length now ≤ 32) (stands : SideStands faults c side (now ∷ before)) (at : tick ≡ length before)
    (beside : other ≡ newest (by_any (other_of c)) (now ∷ before)) (undriven : by_any c now ≡ false) (ended : may_add tick side.extra ≡ false) where
  -- nothing is shown of a station
  none-shown : (station : ℕ) (d : Transmitter) → station < length now →
      shown_of faults tick other c (get_or now station Silent) (get_or side.transmitters station d) ≡ None
  none-shown station d within =
      let t : Transmitter = get_or side.transmitters station d in
      ap (shown_or faults tick other t) (undriven-sample c (get_or now station Silent) (undriven-at c now station undriven))
      ∙ none-added side tick station other t ended stands.extras (slice_get-get_or side.transmitters station d (omega (arith, few, within, stands.all)))

  -- nor of those from one on
  idle-from : (m station : ℕ) (on : OnChannel) → m + station ≡ length now →
      Joins on (samples_from faults c now before station (drop station now)) (samples_on faults c (now ∷ before)) →
      Shows (samples_on faults c (now ∷ before)) on
  idle-from zero station on e j = joins-end faults c now before station on (omega (arith, e)) j
  idle-from (suc m) station on e j =
      let d : Transmitter = one-of side.transmitters (omega (arith, stands.all)) in
      idle-from m (station + 1) on (omega (arith, e))
      (rw (none-shown station d (omega (arith, e))) at (joins-station faults c now before side other station d Silent tick on few stands at beside
      (omega (arith, e)) j))

  -- the channel is quiet, and nobody counts as driving it
  pub idle-shows : Shows (samples_on faults c (now ∷ before)) (record { sample = Quiet; drivers = 0 })
  idle-shows = idle-from (length now) 0 (record { sample = Quiet; drivers = 0 }) (omega arith) (joins-start faults c now before)
