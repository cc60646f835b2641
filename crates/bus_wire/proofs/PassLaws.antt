-- A tick in which one station alone drives, and goes on with a transmission that no fault strikes: the wire stands for it, and shows the sample as it is.
use Rattle.std.proofs.Common.{◌≡◌, ℕ, suc, ◌+◌, ◌-◌, ◌<◌, ◌≤◌, ◌≢◌, Bool, true, false, not, ◌&&◌, nat_le, ◌==◌, List, [], ◌∷◌, length, get_or, drop, Option, Some, None, refl, sym, ap, ◌∙◌, subst, arith, if◌then◌else◌}
use Rattle.std.specs.Prelude.{slice_get, slice_set, IsSome}
use Rattle.std.specs.List.{list_any}
use Rattle.std.proofs.lemmas.Bool.{false≢true}
use Rattle.std.proofs.lemmas.Bool.Decides.{nat_tests}
use Rattle.std.proofs.lemmas.Option.{slice_get-get_or, same_Some}
use Rattle.bus_base.specs.Samples.{other_of, same_channel}
use Rattle.bus_base.specs.declared.samples.Channel.{Channel}
use Rattle.bus_base.specs.declared.samples.Channel.TheVariants.{A, B}
use Rattle.bus_base.specs.declared.samples.Drive.{Drive}
use Rattle.bus_base.specs.declared.samples.Drive.TheVariants.{Silent, On}
use Rattle.bus_base.specs.declared.samples.Part.{Part}
use Rattle.bus_base.specs.declared.samples.Sample.{Sample}
use Rattle.bus_base.specs.declared.samples.Sample.TheVariants.{Quiet}
use Rattle.bus_formats.specs.declared.fault.Fault.{Fault}
use Rattle.bus_formats.specs.declared.fault.Hit.{Hit}
use Rattle.bus_model.specs.Strikes.{hits_on}
use Rattle.bus_model.specs.Transmissions.{cut_over}
use Rattle.bus_model.specs.Wire as spec
use Rattle.bus_model.specs.Wire.{struck_sample, samples_on}
use Rattle.bus_wire.specs.Newest.{newest, by_any}
use Rattle.bus_wire.specs.Places.{AreRising, AreSilentBeside}
use Rattle.bus_wire.specs.Steps.{is_next, goes_on, driven_by, first_extra, extra_or_earlier, extra_with, may_add, driven_sample, shown_or, shown_of, struck_of}
use Rattle.bus_wire.specs.Stands.{AreStrikes}
use Rattle.bus_wire.specs.Sides.{SideFollows, SidePassed, SideStands, Shows, with_shown}
use Rattle.bus_wire.specs.WireStands.{Stands, FollowsTo, WireStands, side_of}
use Rattle.bus_wire.specs.Passing.{with_passed, WirePassed, alone, ShowsAll}
use Rattle.bus_wire.specs.declared.side.Side.{Side}
use Rattle.bus_wire.specs.declared.side.OnChannel.{OnChannel}
use Rattle.bus_wire.specs.declared.transmitter.Transmitter.{Transmitter}
use Rattle.bus_wire.specs.declared.wire.Shown.{Shown}
use Rattle.bus_wire.specs.declared.wire.Wire.{Wire}
use Rattle.bus_wire.proofs.ExtraLaws.{none-added}
use Rattle.bus_wire.proofs.IdleLaws.{one-of}
use Rattle.bus_wire.proofs.OnLaws.{Joins, samples_from, joins-start, joins-station, joins-end}
use Rattle.bus_wire.proofs.PlaceLaws.{neither, first-within, silent-at, follows-up, joins-up}
use Rattle.bus_wire.proofs.SideLaws.{set-same}
use Rattle.bus_wire.proofs.Unstruck.{unstruck}
use Rattle.bus_wire.proofs.WireLaws.{with_side, follows-start, follows-drives, follows-end}

-- both of two tests
pub both-true : (a b : Bool) → (a && b) ≡ true → (a ≡ true) × (b ≡ true)
both-true true b h = (refl, h)
both-true false b h = absurd (false≢true h)

drove-known : (drove : Option ℕ) (tick : ℕ) → is_next drove tick ≡ true → IsSome drove
drove-known None tick h = absurd (false≢true h)
drove-known (Some at) tick h = refl

-- a transmission that no fault strikes has no hits
passed-hits : (faults : List Fault) (tick : ℕ) (t : Transmitter) → (IsSome t.drove → AreStrikes faults t.strikes) →
    (is_next t.drove tick && nat_le t.strikes.until t.strikes.from) ≡ true → hits_on faults t.strikes.attempt t.strikes.part ≡ []
passed-hits faults tick t strikes h =
    let (next, none) = both-true (is_next t.drove tick) (nat_le t.strikes.until t.strikes.from) h in
    unstruck faults t.strikes (strikes (drove-known t.drove tick next)) none

-- .. and adds no extra
passed-extra : (faults : List Fault) (t : Transmitter) → AreStrikes faults t.strikes → hits_on faults t.strikes.attempt t.strikes.part ≡ [] →
    t.strikes.extra ≡ None
passed-extra faults t st none = st.extra ∙ ap first_extra none

passed-goes : (faults : List Fault) (tick : ℕ) (t : Transmitter) → is_next t.drove tick ≡ true → hits_on faults t.strikes.attempt t.strikes.part ≡ [] →
    goes_on faults tick t ≡ true
passed-goes faults tick t next none =
    ap (λ (hits : List Hit). is_next t.drove tick && not (list_any (cut_over (tick - t.first)) hits)) none ∙ ap (λ b. b && true) next

-- the channel is followed
pub passed-follows : (faults : List Fault) (station tick commands : ℕ) (part : Part) (last : Bool) (old new : Side) (p : SidePassed station tick last old new) →
    (IsSome p.t.drove → AreStrikes faults p.t.strikes) →
    SideFollows faults station commands (record { tick = tick; part = part; last = last }) old new commands
passed-follows faults station tick commands part last old new p strikes =
    let (next, none) = both-true (is_next p.t.drove tick) (nat_le p.t.strikes.until p.t.strikes.from) p.passes in
    let st = strikes (drove-known p.t.drove tick next) in
    let hits = passed-hits faults tick p.t strikes p.passes in
    let extra : extra_with old.extra (driven_by tick last p.t) ≡ old.extra =
    ap (extra_or_earlier old.extra p.t.first) (passed-extra faults p.t st hits) in
    record {
      t = p.t;
      next = driven_by tick last p.t;
      here = p.here;
      follows = rw (passed-goes faults tick p.t next hits) (refl, refl);
      is = p.is ∙ ap (λ (e : Option ℕ). record { transmitters = slice_set old.transmitters station (driven_by tick last p.t); driven = Some tick; extra = e }) (sym extra);
    }

-- ---- what is shown where one station alone may drive

-- nobody counts as driving yet
abbrev nobody : OnChannel
nobody = record { sample = Quiet; drivers = 0 }

pub one-shows : (faults : List Fault) (c : Channel) (now : List Drive) (before : List (List Drive)) (side : Side) (tick station : ℕ) (drive : Drive)
    (t : Transmitter) (shown : Option Sample) → length now ≤ 32 → SideStands faults c side (now ∷ before) → tick ≡ length before →
    may_add tick side.extra ≡ false → slice_get now station ≡ Some drive → slice_get side.transmitters station ≡ Some t → station < length now →
    ((i : ℕ) → i ≢ station → i < length now → slice_get now i ≡ Some Silent) →
    shown_of faults tick (newest (by_any (other_of c)) (now ∷ before)) c drive t ≡ shown →
    Shows (samples_on faults c (now ∷ before)) (with_shown nobody shown)
one-shows faults c now before side tick station drive t shown few stands at ended here kept within silent is =
    let other : Option ℕ = newest (by_any (other_of c)) (now ∷ before) in
    let d : Transmitter = one-of side.transmitters (omega (arith, stands.all)) in
    let same : get_or now station Silent ≡ drive = same_Some (get_or now station Silent) drive (sym (slice_get-get_or now station Silent within) ∙ here) in
    let own : get_or side.transmitters station d ≡ t =
    same_Some (get_or side.transmitters station d) t (sym (slice_get-get_or side.transmitters station d (omega (arith, stands.all, few, within))) ∙ kept) in
    let first = joins-up faults c now before side other tick few stands at refl ended nobody 0 station (omega arith) (omega (arith, within))
    (λ i low below. silent i (λ e. absurd (omega (arith, e, below))) (omega (arith, below, within))) (joins-start faults c now before) in
    let joined = joins-station faults c now before side other station d Silent tick nobody few stands at refl within first in
    let told : shown_of faults tick other c (get_or now station Silent) (get_or side.transmitters station d) ≡ shown =
    ap (λ (x : Drive). shown_of faults tick other c x (get_or side.transmitters station d)) same ∙ ap (λ (x : Transmitter). shown_of faults tick other c drive x) own ∙ is in
    let next = subst (λ (x : Option Sample). Joins (with_shown nobody x) (samples_from faults c now before (station + 1) (drop (station + 1) now))
    (samples_on faults c (now ∷ before))) told joined in
    joins-end faults c now before (length now) (with_shown nobody shown) (omega arith)
    (joins-up faults c now before side other tick few stands at refl ended (with_shown nobody shown) (station + 1) (length now) (omega (arith, within)) (omega arith)
    (λ i low below. silent i (λ e. absurd (omega (arith, e, low))) below) next)

-- ---- the wire

-- a channel that has changed, without a count of its own
with-passed : (wire : Wire) (c : Channel) (side : Side) → record (with_side wire c wire.commands side) { next = (with_side wire c wire.commands side).next + 1 } ≡ with_passed wire c side
with-passed wire A side = refl
with-passed wire B side = refl

side-passed : (wire : Wire) (c : Channel) (side : Side) → side_of (with_passed wire c side) c ≡ side
side-passed wire A side = refl
side-passed wire B side = refl

side-beside : (wire : Wire) (c : Channel) (side : Side) → side_of (with_passed wire c side) (other_of c) ≡ side_of wire (other_of c)
side-beside wire A side = refl
side-beside wire B side = refl

same-channel : (c : Channel) → same_channel c c ≡ true
same-channel A = refl
same-channel B = refl

other-channel : (c : Channel) → same_channel c (other_of c) ≡ false
other-channel A = refl
other-channel B = refl

shows-pair : (faults : List Fault) (driven : List (List Drive)) (c : Channel) (sample : Sample) →
    Shows (samples_on faults c driven) (with_shown nobody (Some sample)) → Shows (samples_on faults (other_of c) driven) (with_shown nobody None) →
    ((alone c sample).pair ≡ spec.shown faults driven) × ((alone c sample).drivers ≡ spec.drivers faults A driven ∷ spec.drivers faults B driven ∷ [])
shows-pair faults driven A sample own beside = (
  ap (λ (x : Sample). record { a = x; b = Quiet }) own.sample ∙ ap (λ (x : Sample). record { a = get_or (samples_on faults A driven) 0 Quiet; b = x }) beside.sample,
  ap (λ n. n ∷ 0 ∷ []) own.drivers ∙ ap (λ n. length (samples_on faults A driven) ∷ n ∷ []) beside.drivers,
)
shows-pair faults driven B sample own beside = (
  ap (λ (x : Sample). record { a = x; b = sample }) beside.sample ∙ ap (λ (x : Sample). record { a = get_or (samples_on faults A driven) 0 Quiet; b = x }) own.sample,
  ap (λ n. n ∷ 1 ∷ []) beside.drivers ∙ ap (λ n. length (samples_on faults A driven) ∷ n ∷ []) own.drivers,
)

module _ (faults : List Fault) (driven : List (List Drive)) (drives : List Drive) (wire new : Wire) (station : ℕ) (c : Channel) (sample : Sample)
    (part : Part) (last : Bool) (st : Stands faults wire driven) (few : length drives ≤ 32) (within : station < length drives)
    (here : slice_get drives station ≡ Some (On c sample part last))
    (silent : (i : ℕ) → i ≢ station → i < length drives → slice_get drives i ≡ Some Silent) (p : WirePassed station c last wire new) where
  strikes : IsSome p.passed.t.drove → AreStrikes faults p.passed.t.strikes
  strikes = ((st.sides c).each station p.passed.t p.passed.here).strikes

  stands-after : Stands faults (with_passed wire c p.side) (drives ∷ driven)
  stands-after =
      let followed : SideFollows wire.faults.items station wire.commands (record { tick = wire.next; part = part; last = last }) (side_of wire c) p.side wire.commands =
      subst (λ (fs : List Fault). SideFollows fs station wire.commands (record { tick = wire.next; part = part; last = last }) (side_of wire c) p.side wire.commands)
      (sym st.faults_are) (passed-follows faults station wire.next wire.commands part last (side_of wire c) p.side p.passed strikes) in
      let before : FollowsTo faults driven drives station wire =
      follows-up faults driven drives wire 0 station (omega arith) (λ i low below. silent i (λ e. absurd (omega (arith, e, below))) (omega (arith, below, within)))
      (follows-start faults driven drives wire st) in
      subst (λ (w : Wire). Stands faults w (drives ∷ driven)) (with-passed wire c p.side)
      (follows-end faults driven drives (length drives) (with_side wire c wire.commands p.side) refl few
      (follows-up faults driven drives (with_side wire c wire.commands p.side) (station + 1) (length drives) (omega (arith, within))
      (λ i low below. silent i (λ e. absurd (omega (arith, e, low))) below)
      (follows-drives faults driven drives station wire c sample part last p.side wire.commands here followed before)))

  shows-own : Shows (samples_on faults c (drives ∷ driven)) (with_shown nobody (Some sample))
  shows-own =
      let side : SideStands faults c p.side (drives ∷ driven) =
      subst (λ (s : Side). SideStands faults c s (drives ∷ driven)) (side-passed wire c p.side) (stands-after.sides c) in
      let t : Transmitter = driven_by wire.next last p.passed.t in
      let hits = passed-hits faults wire.next p.passed.t strikes p.passed.passes in
      let kept : slice_get p.side.transmitters station ≡ Some t =
      ap (λ (s : Side). slice_get s.transmitters station) p.passed.is
      ∙ set-same (side_of wire c).transmitters station t (omega (arith, (st.sides c).all, few, within)) in
      one-shows faults c drives driven p.side wire.next station (On c sample part last) t (Some sample) few side st.next
      (ap (λ (s : Side). may_add wire.next s.extra) p.passed.is ∙ p.passed.ended) here kept within silent
      (ap (λ b. shown_or faults wire.next (newest (by_any (other_of c)) (drives ∷ driven)) t (if b then Some sample else None)) (same-channel c)
      ∙ ap (λ (hs : List Hit). Some (struck_sample (wire.next - t.first) hs sample)) hits)

  shows-beside : Shows (samples_on faults (other_of c) (drives ∷ driven)) (with_shown nobody None)
  shows-beside =
      let beside : Side = side_of wire (other_of c) in
      let side : SideStands faults (other_of c) beside (drives ∷ driven) =
      subst (λ (s : Side). SideStands faults (other_of c) s (drives ∷ driven)) (side-beside wire c p.side) (stands-after.sides (other_of c)) in
      let other : Option ℕ = newest (by_any (other_of (other_of c))) (drives ∷ driven) in
      let d : Transmitter = one-of beside.transmitters (omega (arith, side.all)) in
      let t : Transmitter = get_or beside.transmitters station d in
      let kept = slice_get-get_or beside.transmitters station d (omega (arith, side.all, few, within)) in
      one-shows faults (other_of c) drives driven beside wire.next station (On c sample part last) t None few side st.next p.beside here kept within silent
      (ap (λ b. shown_or faults wire.next other t (if b then Some sample else None)) (other-channel c)
      ∙ none-added beside wire.next station other t p.beside side.extras kept)

  pub passed-shows : ShowsAll faults (drives ∷ driven) new (alone c sample)
  unfolding WireStands
  passed-shows =
      let told = shows-pair faults (drives ∷ driven) c sample shows-own shows-beside in
      record {
        stands = subst (λ (w : Wire). Stands faults w (drives ∷ driven)) (sym p.is) stands-after;
        pair = told.0;
        drivers = told.1;
      }

not-equal : (a b : ℕ) → a ≢ b → (a == b) ≡ false
not-equal a b apart = grind (arith, nat_tests, apart)

-- all others are silent where one place alone is named
pub only-place : (places : List ℕ) (drives : List Drive) (place : ℕ) → length places ≡ 1 → slice_get places 0 ≡ Some place →
    AreRising 0 (length drives) places → AreSilentBeside 0 places drives →
    (place < length drives) × ((i : ℕ) → i ≢ place → i < length drives → slice_get drives i ≡ Some Silent)
only-place [] drives place one at rising silent = (let no : None ≡ Some place = at in cc)
only-place (first ∷ second ∷ rest) drives place one at rising silent = absurd (omega (arith, one))
only-place (first ∷ []) drives place one at rising silent =
    let is : first ≡ place = same_Some first place at in
    let within = first-within 0 (length drives) first [] rising in (
      omega (arith, is, within),
      λ i apart below. silent-at 0 i (first ∷ []) drives silent (omega arith) below
          (neither (first == i) false (not-equal first i (λ e. apart (sym e ∙ is))) refl),
    )
