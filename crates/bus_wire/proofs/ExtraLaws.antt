-- Which extras may still add to a channel: none where the fail-safe has stopped the newest transmission with an extra.
use Rattle.std.proofs.Common.{◌≡◌, ℕ, ◌+◌, ◌-◌, suc, ◌*◌, ◌<◌, ◌≤◌, Bool, true, false, not, ◌&&◌}
use Rattle.std.proofs.Common.{nat_lt, nat_le, length, Option, Some, None, refl, sym, ◌∙◌, subst, inl, inr, arith, if◌then◌else◌}
use Rattle.std.specs.Prelude.{slice_get, slice_set, IsSome}
use Rattle.std.proofs.lemmas.Bool.{false≢true, cases_eq, le-ltb, ltb-false}
use Rattle.std.proofs.lemmas.Option.{same_Some}
use Rattle.bus_base.specs.Samples.{same_channel}
use Rattle.bus_base.specs.declared.samples.Channel.{Channel}
use Rattle.bus_base.specs.declared.samples.Sample.{Sample}
use Rattle.bus_base.specs.declared.samples.Drive.{Drive}
use Rattle.bus_base.specs.declared.samples.Drive.TheVariants.{Silent, On}
use Rattle.bus_model.specs.Transmissions.{drives_on}
use Rattle.bus_model.specs.Wire.{longest}
use Rattle.bus_wire.specs.Newest.{since}
use Rattle.bus_wire.specs.Steps.{is_added, ends_by, added_after, added_of, driven_sample, later_of, extra_or_earlier, extra_with, may_add}
use Rattle.bus_wire.specs.Sides.{IsUnsent, IsSince, KnowsExtras}
use Rattle.bus_wire.specs.declared.transmitter.Transmitter.{Transmitter}
use Rattle.bus_wire.specs.declared.side.Side.{Side}
use Rattle.bus_wire.proofs.SideLaws.{set-same, set-other}

-- nothing was sent
pub extras-new : (side : Side) → IsUnsent side → KnowsExtras side
extras-new side u = λ i t at h. absurd (false≢true (rw (u.each i t at).extra at h))

since-later : (earlier : Option ℕ) (first tick : ℕ) → IsSince earlier first → IsSince (Some (later_of earlier tick)) first
since-later None first tick h = absurd h
since-later (Some newest) first tick h = omega arith

since-more : (earlier extra : Option ℕ) (first tick : ℕ) → IsSince earlier first → IsSince (extra_or_earlier earlier tick extra) first
since-more earlier None first tick h = h
since-more earlier (Some words) first tick h = since-later earlier first tick h

since-own : (earlier : Option ℕ) (tick : ℕ) → IsSince (Some (later_of earlier tick)) tick
since-own None tick = omega arith
since-own (Some newest) tick = omega arith

since-here : (earlier extra : Option ℕ) (tick : ℕ) → IsSome extra → IsSince (extra_or_earlier earlier tick extra) tick
since-here earlier None tick h = absurd (false≢true h)
since-here earlier (Some words) tick h = since-own earlier tick

-- a transmitter is followed
pub extras-follow : (side : Side) (station : ℕ) (next : Transmitter) (driven : Option ℕ) → station < length side.transmitters → KnowsExtras side →
    KnowsExtras (record { transmitters = slice_set side.transmitters station next; driven = driven; extra = extra_with side.extra next })
extras-follow side station next driven within k = λ i t at h. elim (cases_eq i station) [
  | inl same ↦ (let here : slice_get (slice_set side.transmitters station next) station ≡ Some t =
      subst (λ j. slice_get (slice_set side.transmitters station next) j ≡ Some t) same at in
      let is : next ≡ t = same_Some next t (sym (set-same side.transmitters station next within) ∙ here) in
      let own : IsSome next.strikes.extra = rw is h in
      subst (λ (x : Transmitter). IsSince (extra_with side.extra next) x.first) is (since-here side.extra next.strikes.extra next.first own))
  | inr other ↦ since-more side.extra next.strikes.extra t.first next.first (k i t (sym (set-other side.transmitters station i next other) ∙ at) h)
]

-- ---- nothing is added

third-false : (a b d e : Bool) → ((((a && b) && false) && d) && e) ≡ false
third-false true true d e = refl
third-false true false d e = refl
third-false false b d e = refl

late-adds : (tick words : ℕ) (other last extra : Option ℕ) (t : Transmitter) → may_add tick extra ≡ false → IsSince extra t.first →
    added_after tick other t (Some words) last ≡ None
late-adds tick words other None extra t e h = refl
late-adds tick words other (Some last) None t e h = absurd h
late-adds tick words other (Some last) (Some newest) t e h =
    let late : longest ≤ tick - newest = ltb-false (tick - newest) longest e in
    let over : nat_lt tick (t.first + longest) ≡ false = le-ltb tick (t.first + longest) (omega (arith, late, h)) in
    let test : (is_added tick last words t && not (ends_by other t)) ≡ false =
    rw over (third-false (nat_lt last tick) (nat_le tick (last + 40 * words)) (not (since t.drove (suc last))) (not (ends_by other t))) in
    rw test refl

none-kept : (tick : ℕ) (other extra words : Option ℕ) (t : Transmitter) → may_add tick extra ≡ false → (IsSome words → IsSince extra t.first) →
    added_after tick other t words t.last ≡ None
none-kept tick other extra None t e h = refl
none-kept tick other extra (Some words) t e h = late-adds tick words other t.last extra t e (h refl)

-- .. where no extra may add to the channel
pub none-added : (side : Side) (tick i : ℕ) (other : Option ℕ) (t : Transmitter) → may_add tick side.extra ≡ false → KnowsExtras side →
    slice_get side.transmitters i ≡ Some t → added_of tick other t ≡ None
none-added side tick i other t e k at = none-kept tick other side.extra t.strikes.extra t e (k i t at)

on-sample : (here : Bool) (sample : Sample) → IsSome (if here then Some sample else None) → here ≡ true
on-sample true sample h = refl
on-sample false sample h = absurd (false≢true h)

-- who drives a sample on the channel drives it
pub sample-drives : (c : Channel) (drive : Drive) → IsSome (driven_sample c drive) → drives_on c drive ≡ true
sample-drives c Silent h = absurd (false≢true h)
sample-drives c (On on sample part last) h = on-sample (same_channel on c) sample h
