-- From one station that may drive to the next: those between are silent, and the wire and a channel pass over them.
use Rattle.std.proofs.Common.{◌≡◌, ◌≢◌, ℕ, zero, suc, ◌+◌, ◌<◌, ◌≤◌, ◌==◌, ◌||◌, Bool, true, false, List, [], ◌∷◌, length}
use Rattle.std.proofs.Common.{get_or, drop, Option, Some, None, refl, sym, ap, ◌∙◌, subst, arith, add-one}
use Rattle.std.specs.Prelude.{slice_get}
use Rattle.std.proofs.lemmas.Bool.Decides.{nat_tests}
use Rattle.std.proofs.lemmas.List.{drop_all}
use Rattle.std.proofs.lemmas.Option.{slice_get-get_or, same_Some}
use Rattle.bus_base.specs.Samples.{other_of}
use Rattle.bus_base.specs.declared.samples.Channel.{Channel}
use Rattle.bus_base.specs.declared.samples.Drive.{Drive}
use Rattle.bus_base.specs.declared.samples.Drive.TheVariants.{Silent}
use Rattle.bus_formats.specs.declared.fault.Fault.{Fault}
use Rattle.bus_model.specs.Wire.{samples_on}
use Rattle.bus_wire.specs.Newest.{newest, by_any}
use Rattle.bus_wire.specs.Places.{AreRising, AreSilentBeside, is_among}
use Rattle.bus_wire.specs.Steps.{driven_sample, shown_or, shown_of, may_add}
use Rattle.bus_wire.specs.Sides.{SideStands, Shows, with_shown}
use Rattle.bus_wire.specs.WireStands.{FollowsTo}
use Rattle.bus_wire.specs.declared.transmitter.Transmitter.{Transmitter}
use Rattle.bus_wire.specs.declared.side.Side.{Side}
use Rattle.bus_wire.specs.declared.side.OnChannel.{OnChannel}
use Rattle.bus_wire.specs.declared.wire.Wire.{Wire}
use Rattle.bus_wire.proofs.ExtraLaws.{none-added}
use Rattle.bus_wire.proofs.IdleLaws.{one-of}
use Rattle.bus_wire.proofs.OnLaws.{Joins, samples_from, joins-station, joins-end}
use Rattle.bus_wire.proofs.WireLaws.{drop-next, follows-silent}

-- ---- places

-- rising places lie within
pub rising-within : (from end : ℕ) (places : List ℕ) → AreRising from end places → from ≤ end
rising-within from end [] rising = rising
rising-within from end (place ∷ places) rising = (let past = rising-within (suc place) end places rising.1 in let low = rising.0 in omega (arith, past, low))

-- the first of them is below the end
pub first-within : (from end place : ℕ) (places : List ℕ) → AreRising from end (place ∷ places) → place < end
first-within from end place places rising = (let past = rising-within (suc place) end places rising.1 in omega (arith, past))

pub neither : (a b : Bool) → a ≡ false → b ≡ false → (a || b) ≡ false
neither a b none other = rw (none, other) refl

-- one before all of them isn't among them
pub none-before : (i from end : ℕ) (places : List ℕ) → AreRising from end places → i < from → is_among i places ≡ false
none-before i from end [] rising low = refl
none-before i from end (place ∷ places) rising low =
    let below : i < place = (let past = rising.0 in omega (arith, past, low)) in
    neither (place == i) (is_among i places) (grind (arith, nat_tests, below))
    (none-before i (suc place) end places rising.1 (omega (arith, below)))

-- nor one between
pub none-between : (i from end place : ℕ) (places : List ℕ) → AreRising from end (place ∷ places) → i < place → is_among i (place ∷ places) ≡ false
none-between i from end place places rising low = none-before i place end (place ∷ places) (omega arith, rising.1) low

-- after the first of them the others are left
pub silent-after : (from end place : ℕ) (places : List ℕ) (drives : List Drive) → from ≤ place → AreSilentBeside from (place ∷ places) drives →
    AreSilentBeside (suc place) places drives
silent-after from end place places drives low silent = λ i drive past at none.
    silent i drive (omega (arith, past, low)) at (neither (place == i) (is_among i places) (grind (arith, nat_tests, past)) none)

-- ---- silence

-- there is a drive at each place within
drive-at : (drives : List Drive) (i : ℕ) → i < length drives → (drive : Drive) × (slice_get drives i ≡ Some drive)
drive-at [] i within = absurd (omega (arith, within))
drive-at (drive ∷ drives) zero within = (drive, refl)
drive-at (drive ∷ drives) (suc i) within = drive-at drives i (omega (arith, within))

-- a station before the next that may drive is silent
pub silent-at : (from i : ℕ) (places : List ℕ) (drives : List Drive) → AreSilentBeside from places drives → from ≤ i → i < length drives →
    is_among i places ≡ false → slice_get drives i ≡ Some Silent
silent-at from i places drives silent past within none =
    let (drive, at) = drive-at drives i within in at ∙ ap Some (silent i drive past at none)

-- the next place: the stations before it are passed, and it is followed by the others
pub record Next (from place : ℕ) (rest : List ℕ) (drives : List Drive) : Type 0 where
  pub low : from ≤ place
  pub within : place < length drives
  pub rising : AreRising (place + 1) (length drives) rest
  pub silent : AreSilentBeside (place + 1) rest drives
  pub passed : (i : ℕ) → from ≤ i → i < place → slice_get drives i ≡ Some Silent

next-first : (from place : ℕ) (rest : List ℕ) (drives : List Drive) → AreRising from (length drives) (place ∷ rest) →
    AreSilentBeside from (place ∷ rest) drives → Next from place rest drives
next-first from place rest drives rising silent =
    let within : place < length drives = first-within from (length drives) place rest rising in
    record {
      low = rising.0;
      within = within;
      rising = rw add-one rising.1;
      silent = rw add-one (silent-after from (length drives) place rest drives rising.0 silent);
      passed = λ i past below. silent-at from i (place ∷ rest) drives silent past (omega (arith, below, within))
          (none-between i from (length drives) place rest rising below);
    }

pub next-place : (places : List ℕ) (drives : List Drive) (i from place : ℕ) → slice_get places i ≡ Some place →
    AreRising from (length drives) (drop i places) → AreSilentBeside from (drop i places) drives → Next from place (drop (i + 1) places) drives
next-place places drives i from place at rising silent =
    let same : drop i places ≡ place ∷ drop (i + 1) places = drop-next places i place at ∙ ap (λ n. place ∷ drop n places) (sym (add-one i)) in
    next-first from place (drop (i + 1) places) drives (subst (λ ps. AreRising from (length drives) ps) same rising)
    (subst (λ ps. AreSilentBeside from ps drives) same silent)

-- after the last place all stations are passed
pub record Last (from : ℕ) (drives : List Drive) : Type 0 where
  pub low : from ≤ length drives
  pub passed : (i : ℕ) → from ≤ i → i < length drives → slice_get drives i ≡ Some Silent

pub last-place : (places : List ℕ) (drives : List Drive) (i from : ℕ) → length places ≤ i → AreRising from (length drives) (drop i places) →
    AreSilentBeside from (drop i places) drives → Last from drives
last-place places drives i from past rising silent =
    let none : drop i places ≡ [] = drop_all i places past in
    record {
      low = rising-within from (length drives) (drop i places) rising;
      passed = λ j after within. silent-at from j (drop i places) drives silent after within (ap (is_among j) none);
    }

-- so many from one to another
apart : (from to : ℕ) → from ≤ to → (m : ℕ) × (to ≡ m + from)
apart zero to low = (to, omega arith)
apart (suc from) zero low = absurd (omega (arith, low))
apart (suc from) (suc to) low = (let (m, is) = apart from to (omega (arith, low)) in (m, omega (arith, is)))

-- ---- the wire

-- it passes over so many silent stations
follows-over : (faults : List Fault) (driven : List (List Drive)) (drives : List Drive) (wire : Wire) (m from : ℕ) →
    ((i : ℕ) → from ≤ i → i < m + from → slice_get drives i ≡ Some Silent) → FollowsTo faults driven drives from wire →
    FollowsTo faults driven drives (m + from) wire
follows-over faults driven drives wire zero from silent f = (let same : zero + from ≡ from = omega arith in rw same f)
follows-over faults driven drives wire (suc m) from silent f =
    let same : suc m + from ≡ m + (from + 1) = omega arith in
    rw same (follows-over faults driven drives wire m (from + 1) (λ i past within. silent i (omega (arith, past)) (omega (arith, within)))
    (follows-silent faults driven drives from wire (silent from (omega arith) (omega arith)) f))

-- up to another
pub follows-up : (faults : List Fault) (driven : List (List Drive)) (drives : List Drive) (wire : Wire) (from to : ℕ) → from ≤ to →
    ((i : ℕ) → from ≤ i → i < to → slice_get drives i ≡ Some Silent) → FollowsTo faults driven drives from wire → FollowsTo faults driven drives to wire
follows-up faults driven drives wire from to low passed f =
    let (m, is) = apart from to low in
    rw is (follows-over faults driven drives wire m from (λ i past below. passed i past (omega (arith, below, is))) f)

-- ---- a channel

module _ (faults : List Fault) (c : Channel) (now : List Drive) (before : List (List Drive)) (side : Side) (other : Option ℕ) (tick : ℕ)
    (few : length now ≤ 32) (stands : SideStands faults c side (now ∷ before)) (at : tick ≡ length before)
    (beside : other ≡ newest (by_any (other_of c)) (now ∷ before)) (ended : may_add tick side.extra ≡ false) where
  -- nothing is shown of a silent station
  none-shown : (station : ℕ) (d : Transmitter) → station < length now → slice_get now station ≡ Some Silent →
      shown_of faults tick other c (get_or now station Silent) (get_or side.transmitters station d) ≡ None
  none-shown station d within silent =
      let t : Transmitter = get_or side.transmitters station d in
      let is : get_or now station Silent ≡ Silent = same_Some (get_or now station Silent) Silent (sym (slice_get-get_or now station Silent within) ∙ silent) in
      ap (λ (drive : Drive). shown_or faults tick other t (driven_sample c drive)) is
      ∙ none-added side tick station other t ended stands.extras (slice_get-get_or side.transmitters station d (omega (arith, few, within, stands.all)))

  -- what is shown stays over so many silent stations
  joins-over : (on : OnChannel) (m from : ℕ) → m + from ≤ length now →
      ((i : ℕ) → from ≤ i → i < m + from → slice_get now i ≡ Some Silent) →
      Joins on (samples_from faults c now before from (drop from now)) (samples_on faults c (now ∷ before)) →
      Joins on (samples_from faults c now before (m + from) (drop (m + from) now)) (samples_on faults c (now ∷ before))
  joins-over on zero from within silent j = (let same : zero + from ≡ from = omega arith in rw same j)
  joins-over on (suc m) from within silent j =
      let same : suc m + from ≡ m + (from + 1) = omega arith in
      let d : Transmitter = one-of side.transmitters (omega (arith, stands.all)) in
      rw same (joins-over on m (from + 1) (omega (arith, within)) (λ i past below. silent i (omega (arith, past)) (omega (arith, below)))
      (rw (none-shown from d (omega (arith, within)) (silent from (omega arith) (omega arith))) at
      (joins-station faults c now before side other from d Silent tick on few stands at beside (omega (arith, within)) j)))

  -- up to another
  pub joins-up : (on : OnChannel) (from to : ℕ) → from ≤ to → to ≤ length now →
      ((i : ℕ) → from ≤ i → i < to → slice_get now i ≡ Some Silent) →
      Joins on (samples_from faults c now before from (drop from now)) (samples_on faults c (now ∷ before)) →
      Joins on (samples_from faults c now before to (drop to now)) (samples_on faults c (now ∷ before))
  joins-up on from to low within passed j =
      let (m, is) = apart from to low in
      rw is (joins-over on m from (omega (arith, is, within)) (λ i past below. passed i past (omega (arith, below, is))) j)
