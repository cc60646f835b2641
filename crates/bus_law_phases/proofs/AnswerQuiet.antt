-- The run goes on while an answer is sent; nobody who owes one is free; and two lists item by item.
use Rattle.std.proofs.Common.{◌≡◌, inl, inr, ℕ, suc, ◌<◌, ◌≤◌, Bool, true, false, List, [], ◌∷◌, ◌++◌, length, map, Option, refl, sym, ap, ◌∙◌, arith}
use Rattle.std.proofs.lemmas.Bool.{true≢false}
use Rattle.std.proofs.lemmas.Bool.Decides.{nat_tests}
use Rattle.std.specs.Prelude.{nat_le, if◌then◌else◌, filter_map}
use Rattle.bus_base.specs.declared.samples.Channel.{Channel}
use Rattle.bus_base.specs.declared.samples.Pair.{Pair}
use Rattle.bus_base.specs.declared.samples.Part.{Part}
use Rattle.bus_words.specs.declared.word.Word.{Word}
use Rattle.bus_line.specs.Channels.{both_quiet, quiet_both}
use Rattle.bus_formats.specs.Plans.{StationData}
use Rattle.bus_formats.specs.Times.{ending_quiet}
use Rattle.bus_model.specs.Hearing.{heard_on}
use Rattle.bus_model.specs.Orders.{Duty, free, owes, promises, due_after}
use Rattle.bus_model.specs.Standing.{is_owed}
use Rattle.bus_model.specs.Starts.{starts}
use Rattle.bus_law_control.proofs.Early.{leg-breaks}
use Rattle.bus_law_messages.proofs.Heard.{hearing-long}
use Rattle.bus_law_stations.proofs.Resting.{heard-long, over-late}
use Rattle.bus_law_phases.specs.Moments.{Owes, HasDuty}
use Rattle.bus_law_phases.specs.Pairing.{Beside}
use Rattle.bus_law_phases.specs.PartRuns.{RunsAlone}
use Rattle.bus_law_phases.specs.Scenarios.{Scenario, shown_at, hearing_of, standing_of, is_over_at}
use Rattle.bus_law_phases.specs.Silences.{GoesOnTo}
use Rattle.bus_law_phases.proofs.Legs.{busy-goes-on}

-- ---- the run goes on

pub quiet-goes-on : (w : Scenario) (i : ℕ) (past : List Pair) → shown_at w i ≡ past → quiet_both past < ending_quiet →
    is_over_at w i ≡ false
quiet-goes-on w i past same few =
    let low : nat_le ending_quiet (quiet_both past) ≡ false = grind (arith, nat_tests, few) in rw (same, low) refl

few-by : (b : Bool) (q n : ℕ) → q ≤ n → (if b then suc q else 0) ≤ suc n
few-by true q n rest = omega (arith, rest)
few-by false q n rest = omega arith

pub both-few : (past : List Pair) → quiet_both past ≤ length past
both-few [] = omega arith
both-few (x ∷ past) = few-by (both_quiet x) (quiet_both past) (length past) (both-few past)

first-goes-on : (w : Scenario) (t i : ℕ) (past : List Pair) → length past ≡ t → shown_at w i ≡ past → GoesOnTo w past (suc t) →
    is_over_at w i ≡ false
first-goes-on w t i past long same (inl busy) = busy-goes-on w i past same busy
first-goes-on w t i past long same (inr bound) =
    let within = both-few past in quiet-goes-on w i past same (omega (arith, bound, long, within))

-- while a burst runs it goes on
pub answer-goes-on : (w : Scenario) (t : ℕ) (c : Channel) (past ticks : List Pair) → w.lag ≡ 3 → length past ≡ t → GoesOnTo w past (suc t) →
    RunsAlone w.lag c ticks → (i : ℕ) → shown_at w i ≡ ticks ++ past → is_over_at w i ≡ false
answer-goes-on w t c past [] lag long goes alone i same = first-goes-on w t i past long same goes
answer-goes-on w t c past (x ∷ ticks) lag long goes alone i same =
    let few = leg-breaks w.lag c past ticks x alone.leg in quiet-goes-on w i ((x ∷ ticks) ++ past) same (omega (arith, few, lag))

-- ---- who owes an answer that is due isn't free

pub still-owes : (w : Scenario) (past : List Pair) (station : StationData) (c : Channel) (e : ℕ) (part : Part) (words : List Word) (acceptance : Bool)
    (duty : Duty) → Owes w past station c e part words acceptance → due_after station.terminal e ≡ length past → HasDuty w past station c e part duty →
    is_owed duty ≡ true
still-owes w past station c e part words acceptance (owes ws accepts) owed due has = refl
still-owes w past station c e part words acceptance (promises command transmitter) owed due has =
    let both : owes words acceptance ≡ promises command transmitter = sym owed.duty ∙ has.duty in absurd (cc)
still-owes w past station c e part words acceptance free owed due has =
    let s = standing_of w station past in
    let heard = (hearing_of w station past).ticks in
    let late = over-late w.lag (heard_on s.channel heard) (due_after station.terminal s.end) (has.free.over (ap is_owed owed.duty)) in
    let long : length (heard_on s.channel heard) ≡ length heard = heard-long s.channel heard in
    let all = hearing-long w.lag station (starts w.plan station) w.loads w.outside past in
    let when : due_after station.terminal s.end ≡ due_after station.terminal e = ap (due_after station.terminal) owed.end in
    absurd (omega (arith, late, long, all, when, due))

-- and owes this one
pub same-owed : (w : Scenario) (past : List Pair) (station : StationData) (c : Channel) (e : ℕ) (part : Part) (words : List Word) (duty : Duty) →
    (standing_of w station past).duty ≡ owes words false → is_owed duty ≡ true → HasDuty w past station c e part duty → duty ≡ owes words false
same-owed w past station c e part words free owed is has = absurd (true≢false (sym is))
same-owed w past station c e part words (owes ws acceptance) owed is has = sym has.duty ∙ owed
same-owed w past station c e part words (promises command transmitter) owed is has = absurd (true≢false (sym is))

-- ---- lists side by side

-- a fact of each pair, of those that the second list becomes
pub beside-mapped : {X Y Z : Type 0} (R : X → Y → Type 0) (S : X → Z → Type 0) (g : Y → Z) (xs : List X) (ys : List Y) → Beside R xs ys →
    ((x : X) (y : Y) → R x y → S x (g y)) → Beside S xs (map g ys)
beside-mapped R S g [] [] pairs make = tt
beside-mapped R S g [] (y ∷ ys) pairs make = absurd pairs
beside-mapped R S g (x ∷ xs) [] pairs make = absurd pairs
beside-mapped R S g (x ∷ xs) (y ∷ ys) pairs make = (make x y pairs.0, beside-mapped R S g xs ys pairs.1 make)

-- what is kept of each item is the same
pub beside-kept : {X Y Z : Type 0} (R : X → Y → Type 0) (f : X → Option Z) (g : Y → Option Z) (xs : List X) (ys : List Y) → Beside R xs ys →
    ((x : X) (y : Y) → R x y → f x ≡ g y) → filter_map f xs ≡ filter_map g ys
beside-kept R f g [] [] pairs agree = refl
beside-kept R f g [] (y ∷ ys) pairs agree = absurd pairs
beside-kept R f g (x ∷ xs) [] pairs agree = absurd pairs
beside-kept R f g (x ∷ xs) (y ∷ ys) pairs agree = rw (agree x y pairs.0, beside-kept R f g xs ys pairs.1 agree) refl
