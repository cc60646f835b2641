-- One station's drive of a tick: its own transmitter on its channel is followed, and all others keep what they have.
use Rattle.std.proofs.Common.{◌≡◌, ◌≢◌, ℕ, zero, suc, ◌+◌, ◌<◌, ◌≤◌, Bool, true, false, ◌||◌, List, [], ◌∷◌}
use Rattle.std.proofs.Common.{◌++◌, length, take, Some, None, refl, sym, ap, ◌∙◌, subst, inl, inr, arith, if◌then◌else◌}
use Rattle.std.specs.Prelude.{find, count_by, slice_get, slice_set}
use Rattle.std.proofs.lemmas.Bool.{lt-ltb, le-ltb, cases_order, cases_eq}
use Rattle.std.proofs.lemmas.List.{length-set}
use Rattle.std.proofs.lemmas.List.Folds.{list_any-append}
use Rattle.std.proofs.lemmas.Option.{slice_get_within, same_Some}
use Rattle.bus_base.specs.Samples.{same_channel}
use Rattle.bus_base.specs.declared.samples.Channel.{Channel}
use Rattle.bus_base.specs.declared.samples.Part.{Part}
use Rattle.bus_base.specs.declared.samples.Sample.{Sample}
use Rattle.bus_base.specs.declared.samples.Drive.{Drive}
use Rattle.bus_base.specs.declared.samples.Drive.TheVariants.{On}
use Rattle.bus_formats.specs.declared.fault.Fault.{Fault}
use Rattle.bus_model.specs.Transmissions.{Transmission, is_of, is_command, drives_on, station_drive, drive_or, newest_drives, new_transmission, with_drive}
use Rattle.bus_wire.specs.Newest.{by_any, tick_or, newest}
use Rattle.bus_wire.specs.Steps.{goes_on}
use Rattle.bus_wire.specs.Stands.{Follows, Keeps}
use Rattle.bus_wire.specs.Sides.{SideFollows}
use Rattle.bus_wire.specs.WireStands.{so_far, SideFollowsTo}
use Rattle.bus_wire.specs.declared.transmitter.Driven.{Driven}
use Rattle.bus_wire.specs.declared.transmitter.Transmitter.{Transmitter}
use Rattle.bus_wire.specs.declared.side.Side.{Side}
use Rattle.bus_wire.proofs.LastLaws.{on-drives}
use Rattle.bus_wire.proofs.SideLaws.{set-same, set-other}
use Rattle.bus_wire.proofs.ExtraLaws.{extras-follow}
use Rattle.bus_wire.proofs.FoundLaws.{found-other-station, found-other-channel}
use Rattle.bus_wire.proofs.TransmitterLaws.{keeps-quiet, keeps-driving, with-drive-is}

-- ---- what is known so far

pub so-far-before : (i now : ℕ) (drives : List Drive) (driven : List (List Drive)) → i < now → so_far i now drives driven ≡ drives ∷ driven
so-far-before i now drives driven h = rw (lt-ltb i now h) refl

pub so-far-from : (i now : ℕ) (drives : List Drive) (driven : List (List Drive)) → now ≤ i → so_far i now drives driven ≡ driven
so-far-from i now drives driven h = rw (le-ltb i now h) refl

-- another station's turn changes nothing for a station
so-far-other : (i now : ℕ) (drives : List Drive) (driven : List (List Drive)) → i ≢ now → so_far i (suc now) drives driven ≡ so_far i now drives driven
so-far-other i now drives driven h = elim (cases_order i now) [
  | inl same ↦ absurd (h same)
  | inr (inl less) ↦ so-far-before i (suc now) drives driven (omega arith) ∙ sym (so-far-before i now drives driven less)
  | inr (inr more) ↦ so-far-from i (suc now) drives driven (omega arith) ∙ sym (so-far-from i now drives driven (omega arith))
]

-- ---- whether any station so far drives a channel

take-next : {A : Type 0} (xs : List A) (i : ℕ) (x : A) → slice_get xs i ≡ Some x → take (suc i) xs ≡ take i xs ++ x ∷ []
take-next [] i x e = (let no : None ≡ Some x = e in cc)
take-next (y ∷ ys) zero x e = ap (λ z. z ∷ []) (same_Some y x e)
take-next (y ∷ ys) (suc i) x e = ap (λ zs. y ∷ zs) (take-next ys i x e)

any-next : (c : Channel) (drives : List Drive) (i : ℕ) (drive : Drive) → slice_get drives i ≡ Some drive →
    by_any c (take (suc i) drives) ≡ (by_any c (take i drives) || (drives_on c drive || false))
any-next c drives i drive e = ap (by_any c) (take-next drives i drive e) ∙ list_any-append (drives_on c) (take i drives) (drive ∷ [])

or-none : (b d : Bool) → d ≡ false → (b || (d || false)) ≡ b
or-none true d e = refl
or-none false d e = rw e refl

or-some : (b d : Bool) → d ≡ true → (b || (d || false)) ≡ true
or-some true d e = refl
or-some false d e = rw e refl

-- ---- a station that doesn't drive the channel

pub side-passes : (faults : List Fault) (driven : List (List Drive)) (drives : List Drive) (now : ℕ) (begun more : List Transmission) (c : Channel)
    (side : Side) (drive : Drive) →
    slice_get drives now ≡ Some drive → drives_on c drive ≡ false → ((i : ℕ) → find (is_of i c) more ≡ find (is_of i c) begun) →
    SideFollowsTo faults driven drives now begun c side → SideFollowsTo faults driven drives (suc now) more c side
side-passes faults driven drives now begun more c side drive here e same s = record {
  all = s.all;
  each = λ i t at. rw (same i) (elim (cases_eq i now) [
    | inl own ↦ (let here_too : slice_get drives i ≡ Some drive = rw own here in
        let drives_is : station_drive i drives ≡ drive = ap drive_or here_too in
        let before : Keeps faults i c t driven (find (is_of i c) begun) = rw (so-far-from i now drives driven (omega arith)) at (s.each i t at) in
        rw (so-far-before i (suc now) drives driven (omega arith)) (keeps-quiet faults i c t drives driven (find (is_of i c) begun) (ap
        (drives_on c) drives_is ∙ e) before))
    | inr other ↦ rw (so-far-other i now drives driven other) (s.each i t at)
  ]);
  driven_is = s.driven_is ∙ ap (λ any. tick_or any (length driven) (newest (by_any c) driven)) (sym (any-next c drives now drive here
      ∙ or-none (by_any c (take now drives)) (drives_on c drive) e));
  extras = s.extras;
}

-- ---- a station that drives it

-- the transmission that may have begun
abbrev pub begun_by : Bool → ℕ → Channel → Part → ℕ → List Transmission → List Transmission
begun_by goes station c part tick ts = if goes then ts else new_transmission station c part tick ts ∷ ts

-- it is none of another station, and none on the other channel
begun-other-station : (goes : Bool) (i station : ℕ) (c on : Channel) (part : Part) (tick : ℕ) (ts : List Transmission) → i ≢ station →
    find (is_of i on) (begun_by goes station c part tick ts) ≡ find (is_of i on) ts
begun-other-station true i station c on part tick ts h = refl
begun-other-station false i station c on part tick ts h = found-other-station i station c on part tick ts (λ e. h (sym e))

pub begun-other-channel : (goes : Bool) (i station : ℕ) (c on : Channel) (part : Part) (tick : ℕ) (ts : List Transmission) → same_channel c on ≡ false →
    find (is_of i on) (begun_by goes station c part tick ts) ≡ find (is_of i on) ts
begun-other-channel true i station c on part tick ts h = refl
begun-other-channel false i station c on part tick ts h = found-other-channel i station c on part tick ts h

follows-few : (faults : List Fault) (commands : ℕ) (driven : Driven) (goes : Bool) (t next : Transmitter) (after : ℕ) →
    Follows faults commands driven goes t next after → after ≤ commands + 1
follows-few faults commands driven true t next after f = omega (arith, f.1)
follows-few faults commands driven false t next after b = grind (arith, b.counted)

-- the channel that a station drives, after its turn: with the list of transmissions, and how many commands are in it
pub record Driving (faults : List Fault) (driven : List (List Drive)) (drives : List Drive) (now : ℕ) (begun : List Transmission) (c : Channel)
    (sample : Sample) (part : Part) (last goes : Bool) (commands after : ℕ) (side : Side) : Type 0 where
  pub listed : with_drive faults now (length driven) (station_drive now (newest_drives driven)) begun (On c sample part last)
      ≡ begun_by goes now c part (length driven) begun
  pub side_follows : SideFollowsTo faults driven drives (suc now) (begun_by goes now c part (length driven) begun) c side
  pub counted : after ≡ count_by is_command (begun_by goes now c part (length driven) begun)
  pub few : after ≤ commands + 1

pub side-drives : (faults : List Fault) (driven : List (List Drive)) (drives : List Drive) (now : ℕ) (begun : List Transmission) (c : Channel) (side new : Side)
    (sample : Sample) (part : Part) (last : Bool) (commands after : ℕ) → slice_get drives now ≡ Some (On c sample part last) →
    commands ≡ count_by is_command begun →
    SideFollowsTo faults driven drives now begun c side →
    (f : SideFollows faults now commands (record { tick = length driven; part = part; last = last }) side new after) →
    Driving faults driven drives now begun c sample part last (goes_on faults (length driven) f.t) commands after new
side-drives faults driven drives now begun c side new sample part last commands after here counted s f =
    let goes : Bool = goes_on faults (length driven) f.t in
    let more : List Transmission = begun_by goes now c part (length driven) begun in
    let drives_is : station_drive now drives ≡ On c sample part last = ap drive_or here in
    let before : Keeps faults now c f.t driven (find (is_of now c) begun) = rw (so-far-from now now drives driven (omega arith)) at (s.each now f.t f.here) in
    let both = keeps-driving faults now c f.t f.next drives driven begun sample part last commands after goes drives_is counted refl f.follows before in
    let within : now < length side.transmitters = slice_get_within side.transmitters now f.t f.here in
    let own : Keeps faults now c f.next (so_far now (suc now) drives driven) (find (is_of now c) more) = rw (so-far-before now (suc now) drives driven
    (omega arith)) both.0 in
    let each : (i : ℕ) (t : Transmitter) → slice_get (slice_set side.transmitters now f.next) i ≡ Some t →
    Keeps faults i c t (so_far i (suc now) drives driven) (find (is_of i c) more) = λ i t at. elim (cases_eq i now) [
      | inl same ↦ (let is : f.next ≡ t = same_Some f.next t (sym (set-same side.transmitters now f.next within)
          ∙ subst (λ j. slice_get (slice_set side.transmitters now f.next) j ≡ Some t) same at) in
          subst (λ j. Keeps faults j c t (so_far j (suc now) drives driven) (find (is_of j c) more)) (sym same)
          (subst (λ (x : Transmitter). Keeps faults now c x (so_far now (suc now) drives driven) (find (is_of now c) more)) is own))
      | inr other ↦ (let kept : slice_get side.transmitters i ≡ Some t = sym (set-other side.transmitters now i f.next other) ∙ at in
          rw (begun-other-station goes i now c c part (length driven) begun other, so-far-other i now drives driven other) (s.each i t kept))
    ] in
    let any : by_any c (take (suc now) drives) ≡ true =
    any-next c drives now (On c sample part last) here
    ∙ or-some (by_any c (take now drives)) (drives_on c (On c sample part last)) (on-drives c sample part last) in
    rw f.is record {
      listed = with-drive-is faults now c f.t driven begun sample part last before;
      side_follows = record {
        all = length-set side.transmitters now f.next ∙ s.all;
        each = each;
        driven_is = rw any refl;
        extras = extras-follow side now f.next (Some (length driven)) within s.extras;
      };
      counted = both.1;
      few = follows-few faults commands (record { tick = length driven; part = part; last = last }) goes f.t f.next after f.follows;
    }
