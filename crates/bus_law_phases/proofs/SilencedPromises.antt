-- Promises run out: in one quiet tick every terminal that promised sets message error, and all are free.
use Rattle.std.proofs.Common.{◌≡◌, inl, inr, ℕ, suc, ◌+◌, ◌<◌, ◌≤◌, false, List, [], ◌∷◌, length, map, refl, sym, ap, ◌∙◌, subst, arith}
use Rattle.std.proofs.lemmas.Bool.{true≢false}
use Rattle.std.proofs.lemmas.List.Elements.{All-nil, All-cons, All-head, All-tail}
use Rattle.std.specs.List.{All}
use Rattle.std.specs.Prelude.{flat_map}
use Rattle.bus_base.specs.Samples.{quiet_pair}
use Rattle.bus_base.specs.declared.samples.Pair.{Pair}
use Rattle.bus_base.specs.declared.samples.Part.{Part}
use Rattle.bus_formats.specs.Plans.{StationData}
use Rattle.bus_formats.specs.Times.{relay_wait}
use Rattle.bus_model.specs.Control.{outside_takes}
use Rattle.bus_model.specs.Course.{Course, quiet_from}
use Rattle.bus_model.specs.Message.{Present, After, after_silence_of, after_silence}
use Rattle.bus_model.specs.Orders.{Duty, free, owes, promises}
use Rattle.bus_model.specs.Standing.{is_owed}
use Rattle.bus_model.specs.Starts.{starts}
use Rattle.bus_model.specs.Strikes.{ShownBurst}
use Rattle.bus_model.specs.WorldLog.{present_stations, ended_by}
use Rattle.bus_law_messages.proofs.Pausing.{serving-still}
use Rattle.bus_law_stations.specs.Silence.{NothingStarts, StationRests}
use Rattle.bus_law_table.specs.Stations.{loaded_at}
use Rattle.bus_law_table.proofs.Still.{rests-told, serving-rests}
use Rattle.bus_law_phases.specs.Pairing.{Beside}
use Rattle.bus_law_phases.specs.Scenarios.{Scenario, trace_at, shown_at, course_of, present_of, IsPresentAt, NoneTakesFrom, StaysFrom}
use Rattle.bus_law_phases.specs.Passages.{HoldsAlone, Passage, nothing_happens}
use Rattle.bus_law_phases.specs.Silences.{IsQuiet, GoesOnTo}
use Rattle.bus_law_phases.specs.Moments.{HasDuty, IsHolder, IsServer, IsAfter, Underway}
use Rattle.bus_law_phases.proofs.Pairs.{each-of, beside-with}
use Rattle.bus_law_phases.proofs.Resting.{each-present, none-of-each}
use Rattle.bus_law_phases.proofs.SilencedBeside.{PassesQuietly, rests-passes, ends-none, beside-each, at-each, holder-told}
use Rattle.bus_law_phases.proofs.SilencedTick.{AllSilent, tick-trace, tick-shown, tick-quiet-from, tick-quiet, tick-fresh, tick-passes}
use Rattle.bus_law_phases.proofs.SilencedUnkept.{out-passes, out-serving, out-told}
use Rattle.bus_law_phases.proofs.SilencedUnmoved.{pairs-none}
use Rattle.bus_law_phases.proofs.Unheard.{holder-rests}
use Rattle.bus_law_phases.proofs.Staying.{long-at}

-- ---- the table

silence-duty : (w : Scenario) (burst : ShownBurst) (station : Present) (duty : Duty) → is_owed duty ≡ false →
    (after_silence_of w.lag w.loads burst station duty).duty ≡ free
silence-duty w burst station free none = refl
silence-duty w burst station (owes words acceptance) none = absurd (true≢false none)
silence-duty w burst station (promises command transmitter) none = refl

all-silence : (w : Scenario) (burst : ShownBurst) (P : Duty → Type 0) (afters : List After) → P free → All (λ after. is_owed after.duty ≡ false) afters →
    All (λ after. P after.duty) (map (after_silence w.lag w.loads burst) afters)
all-silence w burst P [] make none = All-nil (λ after. P after.duty)
all-silence w burst P (a ∷ afters) make none =
    All-cons (λ after. P after.duty) (after_silence w.lag w.loads burst a) (map (after_silence w.lag w.loads burst) afters)
    (subst P (sym (silence-duty w burst a.station a.duty (All-head (λ after. is_owed after.duty ≡ false) a afters none))) make)
    (all-silence w burst P afters make (All-tail (λ after. is_owed after.duty ≡ false) a afters none))

pub beside-image : (R : StationData → After → Type 0) (f : After → After) (xs : List StationData) (ys : List After) → Beside (λ x y. R x (f y)) xs ys →
    Beside R xs (map f ys)
beside-image R f [] [] pairs = tt
beside-image R f [] (y ∷ ys) pairs = absurd pairs
beside-image R f (x ∷ xs) [] pairs = absurd pairs
beside-image R f (x ∷ xs) (y ∷ ys) pairs = (pairs.0, beside-image R f xs ys pairs.1)

-- ---- one station that serves

module _ (w : Scenario) (past : List Pair) (burst : ShownBurst) (e : ℕ) (part : Part) (last : length past ≡ e + relay_wait) (other : ℕ)
    (station : StationData) (at : IsPresentAt w other station) (stays : NoneTakesFrom w (length past)) where
  stays-for : (tick : ℕ) → length past ≤ tick → tick < length past + 1 →
      outside_takes w.lag station (starts w.plan station) w.loads w.outside tick w.outside ≡ []
  stays-for tick low high = stays other station at tick low

  stays-now : outside_takes w.lag station (starts w.plan station) w.loads w.outside (length past) w.outside ≡ []
  stays-now = stays other station at (length past) (omega arith)

  passes-by : (duty : Duty) → HasDuty w past station burst.channel e part duty → is_owed duty ≡ false → PassesQuietly w past station
  passes-by free has none = rests-passes w past station (serving-rests w.lag w.plan w.loads w.outside w.absent station past has 1 stays-for)
  passes-by (owes words acceptance) has none = absurd (true≢false none)
  passes-by (promises command transmitter) has none = out-passes w past station burst.channel e command transmitter has last stays-now

  told-by : (y : Present) (duty : Duty) → present_of w station past ≡ loaded_at w.loads (length past) y → HasDuty w past station burst.channel e part duty →
      is_owed duty ≡ false → IsServer w (quiet_pair ∷ past) burst.channel e part station (after_silence_of w.lag w.loads burst y duty)
  told-by y free same has none = record {
    is = rests-told w.lag w.plan w.loads w.outside w.absent station past 1
        (serving-rests w.lag w.plan w.loads w.outside w.absent station past has 1 stays-for) y same;
    duty = serving-still w.lag station (starts w.plan station) w.loads w.outside past has 1 stays-for;
  }
  told-by y (owes words acceptance) same has none = absurd (true≢false none)
  told-by y (promises command transmitter) same has none = record {
    is = out-told w past station burst.channel e command transmitter has last stays-now y same;
    duty = out-serving w past station burst.channel e command transmitter has last stays-now;
  }

-- ---- the world

module _ (w : Scenario) (t place : ℕ) (holder : StationData) (burst : ShownBurst) (e : ℕ) (part : Part) (afters : List After)
    (moment : Underway w (trace_at w t) place holder burst.channel e part afters) (at : t ≡ e + relay_wait)
    (none : All (λ after. is_owed after.duty ≡ false) afters)
    (waits : NothingStarts w.lag (course_of w holder (shown_at w t)) (shown_at w t) 1) (stays : StaysFrom w t)
    (goes : GoesOnTo w (shown_at w t) (suc t)) where
  abbrev past : List Pair
  past = shown_at w t

  abbrev settled : After → After
  settled after = after_silence w.lag w.loads burst after

  long : length (shown_at w t) ≡ t
  long = long-at w t stays

  is-late : length (shown_at w t) ≡ e + relay_wait
  is-late = omega (arith, long, at)

  stays-here : NoneTakesFrom w (length (shown_at w t))
  stays-here = subst (NoneTakesFrom w) (sym long) stays.takes

  quiet : IsQuiet w (trace_at w t)
  quiet = record { rests = moment.rests; spent = moment.spent }

  rests-own : StationRests w.lag holder (starts w.plan holder) w.loads w.outside past 1
  rests-own =
      holder-rests w.lag holder (starts w.plan holder) w.loads w.outside past moment.holds 1 waits
      (λ tick low high. stays-here place holder moment.at tick low)

  passes : (other : ℕ) (station : StationData) → IsPresentAt w other station → PassesQuietly w past station
  passes =
      at-each w place holder moment.at (PassesQuietly w past) (rests-passes w past holder rests-own)
      (beside-each w (trace_at w t) place holder burst.channel e part afters moment 1 stays-here (λ after. is_owed after.duty ≡ false) (PassesQuietly w past)
      none (λ other station after here server unowed.
      passes-by w past burst e part is-late other station here stays-here after.duty server.duty unowed))

  silent : AllSilent w past
  silent other station here = (passes other station here).silent

  hands : HoldsAlone w (quiet_pair ∷ past)
  hands = record {
    place = place;
    holder = holder;
    at = moment.at;
    holds = ap (λ (d : Course). d.holds) (passes place holder moment.at).course ∙ moment.holds;
    others = λ other station here apart.
        ap (λ (d : Course). d.holds) (passes other station here).course ∙ (moment.serves other station here apart).serves;
  }

  ended : flat_map (ended_by w.lag w.plan w.loads w.outside w.absent (quiet_pair ∷ past) (length past))
      (present_stations w.lag w.plan w.loads w.outside w.absent) ≡ []
  ended =
      none-of-each (λ st. ended_by w.lag w.plan w.loads w.outside w.absent (quiet_pair ∷ past) (length past) st ≡ [])
      (ended_by w.lag w.plan w.loads w.outside w.absent (quiet_pair ∷ past) (length past)) (present_stations w.lag w.plan w.loads w.outside w.absent)
      (each-present w past (λ st. ended_by w.lag w.plan w.loads w.outside w.absent (quiet_pair ∷ past) (length past) st ≡ [])
      (λ other station here. ends-none w past station (passes other station here).course)) (λ st is. is)

  own-then : (after : After) → IsHolder w past holder after → IsHolder w (quiet_pair ∷ past) holder (settled after)
  own-then after own =
      let still = holder-told w past holder 1 rests-own after own in
      subst (λ duty. IsHolder w (quiet_pair ∷ past) holder (after_silence_of w.lag w.loads burst after.station duty)) (sym own.duty)
      record { plan = still.plan; memory = still.memory; serves = still.serves; duty = refl }

  after-then : (station : StationData) (after : After) → IsAfter w past place holder burst.channel e part station after → is_owed after.duty ≡ false →
      IsAfter w (quiet_pair ∷ past) place holder burst.channel e part station (settled after)
  after-then station after is unowed = elim is [
    | inl own ↦ inl (
      own.0,
      subst (λ st. IsHolder w (quiet_pair ∷ past) st (settled after)) (sym own.0)
          (own-then after (subst (λ st. IsHolder w past st after) own.0 own.1)),
    )
    | inr server ↦ inr (
      server.0,
      server.1,
      server.2,
      told-by w past burst e part is-late server.0 station server.2 stays-here after.station after.duty server.3.is server.3.duty unowed,
    )
  ]

  then-underway : Underway w (trace_at w (suc t)) place holder burst.channel e part (map settled afters)
  then-underway =
      let still = tick-quiet w t stays quiet silent in
      subst (λ tr. Underway w tr place holder burst.channel e part (map settled afters)) (sym (tick-trace w t stays quiet silent)) record {
        rests = still.rests;
        fresh = tick-fresh w t stays quiet silent;
        spent = still.spent;
        at = moment.at;
        holds = ap (λ (d : Course). d.holds) (passes place holder moment.at).course ∙ moment.holds;
        serves = λ other station here apart.
            let before = moment.serves other station here apart in
            let same = (passes other station here).course in
            record { serves = ap (λ (d : Course). d.holds) same ∙ before.serves; idle = ap (λ (d : Course). d.runs) same ∙ before.idle };
        stations = beside-image (IsAfter w (quiet_pair ∷ past) place holder burst.channel e part) settled
            (present_stations w.lag w.plan w.loads w.outside w.absent) afters
            (beside-with (IsAfter w past place holder burst.channel e part)
            (λ station after. IsAfter w (quiet_pair ∷ past) place holder burst.channel e part station (settled after)) (λ after. is_owed after.duty ≡ false)
            (present_stations w.lag w.plan w.loads w.outside w.absent) afters moment.stations
            (each-of (λ after. is_owed after.duty ≡ false) afters none) after-then);
        one = pairs-none (map settled afters) (all-silence w burst (λ duty. is_owed duty ≡ false) afters refl none);
      }

  pub promises-over : (shown_at w (suc t) ≡ quiet_pair ∷ past)
      × Underway w (trace_at w (suc t)) place holder burst.channel e part (map (after_silence w.lag w.loads burst) afters)
      × All (λ after. after.duty ≡ free) (map (after_silence w.lag w.loads burst) afters)
      × (course_of w holder (shown_at w (suc t)) ≡ course_of w holder past) × (quiet_from (shown_at w (suc t)) ≡ quiet_from past)
      × Passage w t (suc t) nothing_happens
  promises-over = (
    tick-shown w t stays quiet silent,
    then-underway,
    all-silence w burst (λ duty. duty ≡ free) afters refl none,
    ap (course_of w holder) (tick-shown w t stays quiet silent) ∙ (passes place holder moment.at).course,
    tick-quiet-from w t stays quiet silent,
    tick-passes w t stays quiet silent (λ other station here. (passes other station here).takes) [] ended hands goes,
  )
