-- The wire before the stations of a tick, after each of them, and after all.
use Rattle.std.proofs.Common.{◌≡◌, ℕ, zero, suc, ◌+◌, ◌≤◌, Bool, false, List, [], ◌∷◌, length}
use Rattle.std.proofs.Common.{drop, Option, Some, None, refl, sym, ap, ◌∙◌, subst, inl, inr, arith, add-one}
use Rattle.std.specs.Prelude.{find, count_by, slice_get}
use Rattle.std.proofs.lemmas.Bool.{cases_lt}
use Rattle.std.proofs.lemmas.List.{drop_all, take_all}
use Rattle.std.proofs.lemmas.Option.{slice_get_past, same_Some}
use Rattle.bus_base.specs.declared.samples.Channel.{Channel}
use Rattle.bus_base.specs.declared.samples.Channel.TheVariants.{A, B}
use Rattle.bus_base.specs.declared.samples.Part.{Part}
use Rattle.bus_base.specs.declared.samples.Sample.{Sample}
use Rattle.bus_base.specs.declared.samples.Drive.{Drive}
use Rattle.bus_base.specs.declared.samples.Drive.TheVariants.{Silent, On}
use Rattle.bus_formats.specs.declared.fault.Fault.{Fault}
use Rattle.bus_model.specs.Transmissions.{Transmission, is_of, is_command, drives_on, station_drive}
use Rattle.bus_model.specs.Transmissions.{drive_or, newest_drives, with_drive, with_drives, transmissions}
use Rattle.bus_wire.specs.Newest.{by_any, tick_or, newest}
use Rattle.bus_wire.specs.Steps.{goes_on}
use Rattle.bus_wire.specs.Stands.{Keeps}
use Rattle.bus_wire.specs.Sides.{SideFits, SideFollows, SideStands, IsUnsent}
use Rattle.bus_wire.specs.WireStands.{Stands, side_of, so_far, SideFollowsTo, FollowsTo}
use Rattle.bus_wire.specs.declared.transmitter.Transmitter.{Transmitter}
use Rattle.bus_wire.specs.declared.side.Side.{Side}
use Rattle.bus_wire.specs.declared.wire.Wire.{Wire}
use Rattle.bus_wire.proofs.TransmitterLaws.{keeps-first, keeps-quiet}
use Rattle.bus_wire.proofs.ExtraLaws.{extras-new}
use Rattle.bus_wire.proofs.StationLaws.{so-far-before, so-far-from, begun_by, begun-other-channel, Driving, side-passes, side-drives}

-- ---- a new wire

pub side-new : (faults : List Fault) (c : Channel) (side : Side) → IsUnsent side → SideStands faults c side []
unfolding transmissions newest
side-new faults c side u = record {
  all = u.all;
  each = λ i t at. keeps-first faults i c t (u.each i t at);
  driven_is = u.driven;
  extras = extras-new side u;
}

sides-new : (wire : Wire) → IsUnsent wire.a → IsUnsent wire.b → (c : Channel) → SideStands wire.faults.items c (side_of wire c) []
sides-new wire a b A = side-new wire.faults.items A wire.a a
sides-new wire a b B = side-new wire.faults.items B wire.b b

-- a new wire stands for no tick
pub stands-new : (wire : Wire) → wire.next ≡ 0 → wire.commands ≡ 0 → IsUnsent wire.a → IsUnsent wire.b → Stands wire.faults.items wire []
unfolding transmissions
stands-new wire next commands a b = record {
  faults_are = refl;
  next = next;
  commands = commands;
  few = omega (arith, commands);
  sides = sides-new wire a b;
}

-- ---- the stations of a tick

-- before the first of them
pub follows-start : (faults : List Fault) (driven : List (List Drive)) (drives : List Drive) (wire : Wire) → Stands faults wire driven →
    FollowsTo faults driven drives 0 wire
unfolding transmissions
follows-start faults driven drives wire s = record {
  faults_are = s.faults_are;
  next_is = s.next;
  begun = transmissions faults driven;
  later = refl;
  commands = s.commands;
  few = omega (arith, s.few);
  sides = λ c. record {
    all = (s.sides c).all;
    each = λ i t at. rw (so-far-from i 0 drives driven (omega arith)) ((s.sides c).each i t at);
    driven_is = (s.sides c).driven_is;
    extras = (s.sides c).extras;
  };
}

pub drop-next : {A : Type 0} (xs : List A) (i : ℕ) (x : A) → slice_get xs i ≡ Some x → drop i xs ≡ x ∷ drop (suc i) xs
drop-next [] i x e = (let no : None ≡ Some x = e in cc)
drop-next (y ∷ ys) zero x e = ap (λ z. z ∷ ys) (same_Some y x e)
drop-next (y ∷ ys) (suc i) x e = drop-next ys i x e

-- the transmissions of the stations to come
later-next : (faults : List Fault) (driven : List (List Drive)) (drives : List Drive) (now : ℕ) (drive : Drive) (begun all : List Transmission) →
    slice_get drives now ≡ Some drive →
    with_drives faults now (length driven) (newest_drives driven) (drop now drives) begun ≡ all →
    with_drives faults (suc now) (length driven) (newest_drives driven) (drop (suc now) drives)
    (with_drive faults now (length driven) (station_drive now (newest_drives driven)) begun drive) ≡ all
later-next faults driven drives now drive begun all here e =
    sym (ap (λ rest. with_drives faults now (length driven) (newest_drives driven) rest begun) (drop-next drives now drive here)) ∙ e

-- after a station that is silent
silent-next : (faults : List Fault) (driven : List (List Drive)) (drives : List Drive) (now : ℕ) (wire : Wire) → slice_get drives now ≡ Some Silent →
    FollowsTo faults driven drives now wire → FollowsTo faults driven drives (suc now) wire
silent-next faults driven drives now wire here f = record {
  faults_are = f.faults_are;
  next_is = f.next_is;
  begun = f.begun;
  later = later-next faults driven drives now Silent f.begun (transmissions faults (drives ∷ driven)) here f.later;
  commands = f.commands;
  few = omega (arith, f.few);
  sides = λ c. side-passes faults driven drives now f.begun f.begun c (side_of wire c) Silent here refl (λ i. refl) (f.sides c);
}

pub follows-silent : (faults : List Fault) (driven : List (List Drive)) (drives : List Drive) (now : ℕ) (wire : Wire) → slice_get drives now ≡ Some Silent →
    FollowsTo faults driven drives now wire → FollowsTo faults driven drives (now + 1) wire
follows-silent faults driven drives now wire here f = rw (add-one now) (silent-next faults driven drives now wire here f)

-- the wire with another channel and count
abbrev pub with_side : Wire → Channel → ℕ → Side → Wire
with_side wire A commands side = record wire { commands = commands; a = side }
with_side wire B commands side = record wire { commands = commands; b = side }

with-side-keeps : (wire : Wire) (c : Channel) (commands : ℕ) (side : Side) → ((with_side wire c commands side).faults.items ≡ wire.faults.items)
    × ((with_side wire c commands side).next ≡ wire.next) × ((with_side wire c commands side).commands ≡ commands)
with-side-keeps wire A commands side = (refl, refl, refl)
with-side-keeps wire B commands side = (refl, refl, refl)

-- both channels after a station that drives one of them
sides-next : (faults : List Fault) (driven : List (List Drive)) (drives : List Drive) (now : ℕ) (begun : List Transmission) (wire : Wire) (c : Channel)
    (sample : Sample) (part : Part) (last goes : Bool) (side : Side) (after : ℕ) → slice_get drives now ≡ Some (On c sample part last) →
    Driving faults driven drives now begun c sample part last goes wire.commands after side →
    ((on : Channel) → SideFollowsTo faults driven drives now begun on (side_of wire on)) → (on : Channel) →
    SideFollowsTo faults driven drives (suc now) (begun_by goes now c part (length driven) begun) on (side_of (with_side wire c after side) on)
sides-next faults driven drives now begun wire A sample part last goes side after here d sides A = d.side_follows
sides-next faults driven drives now begun wire A sample part last goes side after here d sides B =
    side-passes faults driven drives now begun (begun_by goes now A part (length driven) begun) B wire.b (On A sample part last) here refl
    (λ i. begun-other-channel goes i now A B part (length driven) begun refl) (sides B)
sides-next faults driven drives now begun wire B sample part last goes side after here d sides A =
    side-passes faults driven drives now begun (begun_by goes now B part (length driven) begun) A wire.a (On B sample part last) here refl
    (λ i. begun-other-channel goes i now B A part (length driven) begun refl) (sides A)
sides-next faults driven drives now begun wire B sample part last goes side after here d sides B = d.side_follows

-- after a station that drives a channel
drives-next : (faults : List Fault) (driven : List (List Drive)) (drives : List Drive) (now : ℕ) (wire : Wire) (c : Channel) (sample : Sample) (part : Part)
    (last : Bool)
    (side : Side) (after : ℕ) → slice_get drives now ≡ Some (On c sample part last) →
    SideFollows wire.faults.items now wire.commands (record { tick = wire.next; part = part; last = last }) (side_of wire c) side after →
    FollowsTo faults driven drives now wire → FollowsTo faults driven drives (suc now) (with_side wire c after side)
drives-next faults driven drives now wire c sample part last side after here followed f =
    let follows : SideFollows faults now wire.commands (record { tick = length driven; part = part; last = last }) (side_of wire c) side after =
    subst (λ (fs : List Fault). SideFollows fs now wire.commands (record { tick = length driven; part = part; last = last })
    (side_of wire c) side after) f.faults_are
    (subst (λ (n : ℕ). SideFollows wire.faults.items now wire.commands (record { tick = n; part = part; last = last })
    (side_of wire c) side after) f.next_is followed) in
    let goes : Bool = goes_on faults (length driven) follows.t in
    let d : Driving faults driven drives now f.begun c sample part last goes wire.commands after side =
    side-drives faults driven drives now f.begun c (side_of wire c) side sample part last wire.commands after here f.commands (f.sides c) follows in
    let keeps = with-side-keeps wire c after side in
    record {
      faults_are = keeps.0 ∙ f.faults_are;
      next_is = keeps.1 ∙ f.next_is;
      begun = begun_by goes now c part (length driven) f.begun;
      later = ap (λ ts. with_drives faults (suc now) (length driven) (newest_drives driven) (drop (suc now) drives) ts) (sym d.listed)
          ∙ later-next faults driven drives now (On c sample part last) f.begun (transmissions faults (drives ∷ driven)) here f.later;
      commands = keeps.2 ∙ d.counted;
      few = omega (arith, keeps.2, d.few, f.few);
      sides = sides-next faults driven drives now f.begun wire c sample part last goes side after here d f.sides;
    }

pub follows-drives : (faults : List Fault) (driven : List (List Drive)) (drives : List Drive) (now : ℕ) (wire : Wire) (c : Channel) (sample : Sample)
    (part : Part) (last : Bool)
    (side : Side) (after : ℕ) → slice_get drives now ≡ Some (On c sample part last) →
    SideFollows wire.faults.items now wire.commands (record { tick = wire.next; part = part; last = last }) (side_of wire c) side after →
    FollowsTo faults driven drives now wire → FollowsTo faults driven drives (now + 1) (with_side wire c after side)
follows-drives faults driven drives now wire c sample part last side after here followed f =
    rw (add-one now) (drives-next faults driven drives now wire c sample part last side after here followed f)

-- the transmitters are struck by the wire's faults
pub follows-fits : (faults : List Fault) (driven : List (List Drive)) (drives : List Drive) (now : ℕ) (wire : Wire) (c : Channel) →
    FollowsTo faults driven drives now wire → SideFits wire.faults.items (side_of wire c)
follows-fits faults driven drives now wire c f =
    let fits : SideFits faults (side_of wire c) = record { all = (f.sides c).all; strikes = λ i t at. ((f.sides c).each i t at).strikes } in
    subst (λ (fs : List Fault). SideFits fs (side_of wire c)) (sym f.faults_are) fits

-- ---- after all stations

-- a station that there isn't drives nothing
silent-past : (c : Channel) (i : ℕ) (drives : List Drive) → length drives ≤ i → drives_on c (station_drive i drives) ≡ false
silent-past c i drives h = ap (λ o. drives_on c (drive_or o)) (slice_get_past drives i h)

each-stands : (faults : List Fault) (driven : List (List Drive)) (drives : List Drive) (found : Option Transmission) (c : Channel) (i : ℕ) (t : Transmitter) →
    Keeps faults i c t (so_far i (length drives) drives driven) found → Keeps faults i c t (drives ∷ driven) found
each-stands faults driven drives found c i t k = elim (cases_lt i (length drives)) [
  | inl within ↦ rw (so-far-before i (length drives) drives driven within) at k
  | inr past ↦ keeps-quiet faults i c t drives driven found (silent-past c i drives past) (rw (so-far-from i (length drives) drives driven past) at k)
]

side-stands : (faults : List Fault) (driven : List (List Drive)) (drives : List Drive) (begun : List Transmission) (c : Channel) (side : Side) →
    begun ≡ transmissions faults (drives ∷ driven) → SideFollowsTo faults driven drives (length drives) begun c side →
    SideStands faults c side (drives ∷ driven)
unfolding newest
side-stands faults driven drives begun c side e s = record {
  all = s.all;
  each = λ i t at. rw (← e) (each-stands faults driven drives (find (is_of i c) begun) c i t (s.each i t at));
  driven_is = s.driven_is ∙ ap (λ now. tick_or (by_any c now) (length driven) (newest (by_any c) driven)) (take_all (length drives) drives (omega arith));
  extras = s.extras;
}

same-sides : (wire : Wire) (next : ℕ) (c : Channel) → side_of wire c ≡ side_of (record wire { next = next }) c
same-sides wire next A = refl
same-sides wire next B = refl

-- the wire stands for one tick more
pub follows-end : (faults : List Fault) (driven : List (List Drive)) (drives : List Drive) (n : ℕ) (wire : Wire) → n ≡ length drives → length drives ≤ 32 →
    FollowsTo faults driven drives n wire → Stands faults (record wire { next = wire.next + 1 }) (drives ∷ driven)
follows-end faults driven drives n wire all few f =
    let end : FollowsTo faults driven drives (length drives) wire = rw (← all) f in
    let none : drop (length drives) drives ≡ [] = drop_all (length drives) drives (omega arith) in
    let listed : end.begun ≡ transmissions faults (drives ∷ driven) =
    sym (ap (λ rest. with_drives faults (length drives) (length driven) (newest_drives driven) rest end.begun) none) ∙ end.later in
    record {
      faults_are = end.faults_are;
      next = omega (arith, end.next_is);
      commands = end.commands ∙ ap (count_by is_command) listed;
      few = omega (arith, end.few);
      sides = λ c. subst (λ (side : Side). SideStands faults c side (drives ∷ driven)) (same-sides wire (wire.next + 1) c)
          (side-stands faults driven drives end.begun c (side_of wire c) listed (end.sides c));
    }
