-- The transmitters of one channel: a new channel, and one in which a station drives.
use Rattle.std.proofs.Common.{◌≡◌, true, ℕ, zero, suc, ◌<◌, List, ◌∷◌, [], Option, length, get_or, replicate, Some, None, refl, ap, ◌∙◌, subst, arith, set, ◌≢◌}
use Rattle.std.specs.Prelude.{find, slice_get, slice_set, IsSome}
use Rattle.std.proofs.lemmas.Option.{slice_get-get_or, same_Some}
use Rattle.bus_formats.specs.declared.fault.Fault.{Fault}
use Rattle.bus_base.specs.declared.samples.Channel.{Channel}
use Rattle.bus_base.specs.declared.samples.Drive.{Drive}
use Rattle.bus_model.specs.Transmissions.{is_of, drives_on, drive_or, transmissions}
use Rattle.bus_wire.specs.Steps.{goes_on, extra_with}
use Rattle.bus_wire.specs.Stands.{AreStrikes, Unsent, Follows, Keeps}
use Rattle.bus_wire.specs.Sides.{SideFits, SideFollows, SideStands, IsUnsent}
use Rattle.bus_wire.specs.declared.transmitter.Driven.{Driven}
use Rattle.bus_wire.specs.declared.transmitter.Transmitter.{Transmitter}
use Rattle.bus_wire.specs.declared.side.Side.{Side}
use Rattle.bus_wire.proofs.ShownLaws.{strikes-now}

-- a place of a list after a write to it, and after one elsewhere
pub set-same : {A : Type 0} (xs : List A) (i : ℕ) (y : A) → i < length xs → slice_get (set xs i y) i ≡ Some y
set-same [] i y h = absurd (omega arith)
set-same (x ∷ xs) zero y h = refl
set-same (x ∷ xs) (suc i) y h = set-same xs i y (omega arith)

pub set-other : {A : Type 0} (xs : List A) (i j : ℕ) (y : A) → j ≢ i → slice_get (set xs i y) j ≡ slice_get xs j
set-other [] i j y h = refl
set-other (x ∷ xs) zero zero y h = absurd (h refl)
set-other (x ∷ xs) zero (suc j) y h = refl
set-other (x ∷ xs) (suc i) zero y h = refl
set-other (x ∷ xs) (suc i) (suc j) y h = set-other xs i j y (λ e. h (ap suc e))

one-of-many : {A : Type 0} (n i : ℕ) (x y : A) → slice_get (replicate n x) i ≡ Some y → x ≡ y
one-of-many zero i x y e = (let no : None ≡ Some y = e in cc)
one-of-many (suc n) zero x y e = same_Some x y e
one-of-many (suc n) (suc i) x y e = one-of-many n i x y e

-- a channel whose transmitters never sent
pub unsent-side : (x : Transmitter) → Unsent x → IsUnsent (record { transmitters = replicate 32 x; driven = None; extra = None })
unsent-side x u = record { all = refl; each = λ i t e. subst Unsent (one-of-many 32 i x t e) u; driven = refl; extra = refl }

-- the strikes of the transmitter at a place
pub fits-at : (faults : List Fault) (side : Side) (i : ℕ) (d : Transmitter) → i < 32 → SideFits faults side →
    IsSome (get_or side.transmitters i d).drove → AreStrikes faults (get_or side.transmitters i d).strikes
fits-at faults side i d within fits =
    fits.strikes i (get_or side.transmitters i d) (slice_get-get_or side.transmitters i d (omega (arith, fits.all)))

-- the transmitter at a place is followed
pub side-follows : (faults : List Fault) (station commands : ℕ) (driven : Driven) (old : Side) (d next : Transmitter) (after : ℕ) (extra : Option ℕ) →
    station < 32 → length old.transmitters ≡ 32 →
    Follows faults commands driven (goes_on faults driven.tick (get_or old.transmitters station d)) (get_or old.transmitters station d) next after →
    extra ≡ extra_with old.extra next →
    SideFollows faults station commands driven old
    (record { transmitters = slice_set old.transmitters station next; driven = Some driven.tick; extra = extra }) after
side-follows faults station commands driven old d next after extra within all follows is = record {
  t = get_or old.transmitters station d;
  next = next;
  here = slice_get-get_or old.transmitters station d (omega (arith, all));
  follows = follows;
  is = rw is refl;
}

-- what is known of the transmitter at a place
pub each-at : (faults : List Fault) (c : Channel) (side : Side) (driven : List (List Drive)) (i : ℕ) (d : Transmitter) → i < 32 →
    SideStands faults c side driven →
    Keeps faults i c (get_or side.transmitters i d) driven (find (is_of i c) (transmissions faults driven))
each-at faults c side driven i d within s =
    s.each i (get_or side.transmitters i d) (slice_get-get_or side.transmitters i d (omega (arith, s.all)))

-- the transmitter of a station that drives the channel now is struck by these faults
pub strikes-at : (faults : List Fault) (c : Channel) (side : Side) (now : List Drive) (before : List (List Drive)) (i : ℕ) (d : Transmitter)
    (silent : Drive) → i < 32 → i < length now →
    SideStands faults c side (now ∷ before) → drives_on c (get_or now i silent) ≡ true → AreStrikes faults (get_or side.transmitters i d).strikes
strikes-at faults c side now before i d silent within here s e =
    strikes-now faults i c (get_or side.transmitters i d) now before (find (is_of i c) (transmissions faults (now ∷ before)))
    (ap (λ o. drives_on c (drive_or o)) (slice_get-get_or now i silent here) ∙ e) (each-at faults c side (now ∷ before) i d within s)
