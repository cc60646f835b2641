-- The first tick with the last sample of a station's words, with one tick more.
use Rattle.std.proofs.Common.{◌≡◌, ℕ, ◌≤◌, Bool, true, false, List, [], ◌∷◌, length, Option, Some, None, refl, ap, ◌∙◌, arith}
use Rattle.std.proofs.lemmas.Bool.{lt-ltb, le-ltb}
use Rattle.bus_base.specs.Samples.{same_channel}
use Rattle.bus_base.specs.declared.samples.Channel.{Channel}
use Rattle.bus_base.specs.declared.samples.Channel.TheVariants.{A, B}
use Rattle.bus_base.specs.declared.samples.Drive.{Drive}
use Rattle.bus_base.specs.declared.samples.Drive.TheVariants.{Silent, On}
use Rattle.bus_base.specs.declared.samples.Part.{Part}
use Rattle.bus_base.specs.declared.samples.Sample.{Sample}
use Rattle.bus_model.specs.Transmissions.{drives_on, drives_last, station_drive, last_or_now, last_since}

-- a tick that isn't before the one looked from
pub last-now : (station : ℕ) (c : Channel) (now : List Drive) (before : List (List Drive)) (from : ℕ) → from ≤ length before →
    last_since station c (now ∷ before) from ≡ last_or_now (drives_last c (station_drive station now)) (length before) (last_since station c before from)
unfolding last_since
last-now station c now before from h = rw (le-ltb (length before) from h) refl

-- nothing is found from a tick to come on
pub last-later : (station : ℕ) (c : Channel) (driven : List (List Drive)) (from : ℕ) → length driven ≤ from → last_since station c driven from ≡ None
unfolding last_since
last-later station c [] from h = refl
last-later station c (now ∷ before) from h = rw (lt-ltb (length before) from (omega arith)) refl

last-or-earlier : (tick : ℕ) (earlier : Option ℕ) → last_or_now false tick earlier ≡ earlier
last-or-earlier tick None = refl
last-or-earlier tick (Some t) = refl

-- who doesn't drive the channel drives no last sample there
not-last : (c : Channel) (drive : Drive) → drives_on c drive ≡ false → drives_last c drive ≡ false
not-last c Silent h = refl
not-last c (On channel sample part last) h = rw h refl

pub last-quiet : (station : ℕ) (c : Channel) (now : List Drive) (before : List (List Drive)) (from : ℕ) → from ≤ length before →
    drives_on c (station_drive station now) ≡ false → last_since station c (now ∷ before) from ≡ last_since station c before from
last-quiet station c now before from h e =
    last-now station c now before from h
    ∙ (ap (λ last. last_or_now last (length before) (last_since station c before from)) (not-last c (station_drive station now) e)
    ∙ last-or-earlier (length before) (last_since station c before from))

pub same-channel : (c : Channel) → same_channel c c ≡ true
same-channel A = refl
same-channel B = refl

-- a drive on a channel, and whether it is the last
pub on-drives : (c : Channel) (sample : Sample) (part : Part) (last : Bool) → drives_on c (On c sample part last) ≡ true
on-drives c sample part last = same-channel c

pub on-last : (c : Channel) (sample : Sample) (part : Part) (last : Bool) → drives_last c (On c sample part last) ≡ last
on-last c sample part last = rw (same-channel c) refl
