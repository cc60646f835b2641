-- The world while the offerer doubts and nobody took control: quiet ticks, in the last of which its message ends.
use Rattle.std.proofs.Common.{◌≡◌, ◌≢◌, inl, inr, ℕ, suc, ◌+◌, ◌<◌, ◌≤◌, List, [], ◌∷◌, ◌++◌, length, true, None, sym, ap, ◌∙◌, subst, arith, All}
use Rattle.std.proofs.lemmas.List.Elements.{All-nil, All-cons, All-head, All-tail}
use Rattle.std.specs.Prelude.{flat_map}
use Rattle.bus_base.specs.Samples.{quiet_pair, quiet_pairs}
use Rattle.bus_base.specs.declared.samples.Channel.{Channel}
use Rattle.bus_base.specs.declared.samples.Drive.TheVariants.{Silent}
use Rattle.bus_base.specs.declared.samples.Pair.{Pair}
use Rattle.bus_base.specs.declared.samples.Part.{Part}
use Rattle.bus_formats.specs.Plans.{StationData}
use Rattle.bus_formats.specs.Times.{doubting}
use Rattle.bus_formats.specs.declared.log.Attempt.{Attempt}
use Rattle.bus_model.specs.Attempts.{Begun}
use Rattle.bus_model.specs.Control.{drives_next}
use Rattle.bus_model.specs.Course.{Course, close, quiet_from}
use Rattle.bus_model.specs.Message.{After}
use Rattle.bus_model.specs.Orders.{Duty, free}
use Rattle.bus_model.specs.Starts.{starts}
use Rattle.bus_model.specs.Terminal.{took_now}
use Rattle.bus_model.specs.World.{Trace, is_present}
use Rattle.bus_model.specs.WorldLog.{present_stations, ended_by}
use Rattle.bus_law_messages.proofs.Pausing.{from-quiet}
use Rattle.bus_law_moments.specs.Doubts.{IsInDoubt}
use Rattle.bus_law_offers.specs.Still.{IsStill, AllStill}
use Rattle.bus_law_offers.proofs.DoubtEnd.{doubt_end, doubt-silent, doubt-still, doubt-closes, doubt-holds, doubt-takes, doubt-keeps, doubt-busy}
use Rattle.bus_law_offers.proofs.Still.{rests-still}
use Rattle.bus_law_offers.proofs.Stillness.{still-whole, still-passes, still-ticks, still-quiet}
use Rattle.bus_law_phases.specs.Commands.{attempt_recorded}
use Rattle.bus_law_phases.specs.Moments.{DutyLasts, IsHolder, IsAfter, Underway, LastsTo}
use Rattle.bus_law_phases.specs.Pairing.{Beside}
use Rattle.bus_law_phases.specs.Passages.{HoldsAlone, InOneHand, Happening, Passage, nothing_happens}
use Rattle.bus_law_phases.specs.Scenarios.{Scenario, trace_at, shown_at, driven_at, course_of, hearing_of, IsPresentAt, NoneTakesFrom, StaysFrom}
use Rattle.bus_law_phases.specs.Silences.{IsQuiet, GoesOnTo, SomeoneIsBusy}
use Rattle.bus_law_phases.proofs.Pairs.{each-of, beside-with}
use Rattle.bus_law_phases.proofs.Passing.{joined}
use Rattle.bus_law_phases.proofs.Silence.{QuietTicks}
use Rattle.bus_law_phases.proofs.SilencedBeside.{ends-none, ends-one, server-rests, server-then, beside-each, at-each}
use Rattle.bus_law_phases.proofs.SilencedTick.{AllSilent, NoneTakesBlocks, tick-trace, tick-shown, tick-quiet-from, tick-quiet, tick-fresh, tick-passes}
use Rattle.bus_law_phases.proofs.Spares.{one-gives}
use Rattle.bus_law_stations.specs.Turns.{Serves}
use Rattle.bus_law_stations.proofs.StillController.{pairs-long}
use Rattle.bus_law_phases.proofs.Staying.{long-at, stays-later}

-- nothing comes of a duty that isn't there
free-lasts : (u e : ℕ) (station : StationData) (duty : Duty) → duty ≡ free → DutyLasts u e station duty
free-lasts u e station duty is = subst (DutyLasts u e station) (sym is) tt

all-free-last : (u e : ℕ) (afters : List After) → All (λ (a : After). a.duty ≡ free) afters → All (LastsTo u e) afters
all-free-last u e [] all = All-nil (LastsTo u e)
all-free-last u e (a ∷ afters) all =
    All-cons (LastsTo u e) a afters (free-lasts u e a.station.plan a.duty (All-head (λ (a : After). a.duty ≡ free) a afters all))
    (all-free-last u e afters (All-tail (λ (a : After). a.duty ≡ free) a afters all))

-- over fewer ticks likewise
still-fewer : (w : Scenario) (past : List Pair) (n : ℕ) (station : StationData) → IsStill w past (suc n) station → IsStill w past n station
still-fewer w past n station so = record {
  silent = λ m few. so.silent m (omega (arith, few));
  same = λ m few. so.same m (omega (arith, few));
  takes = λ m few. so.takes m (omega (arith, few));
  keeps = λ m few. so.keeps m (omega (arith, few));
}

-- its attempt ended so, and nothing else came to pass
abbrev pub doubt_happens : StationData → Begun → ℕ → Happening
doubt_happens holder begun tick = record {
  blocks = [];
  bursts = [];
  attempts = attempt_recorded holder.terminal.address begun doubt_end tick ∷ [];
  commands = 0;
}

module _ (w : Scenario) (t n place : ℕ) (holder : StationData) (c : Channel) (e : ℕ) (part : Part) (afters : List After) (begun : Begun) (x : ℕ)
    (moment : Underway w (trace_at w t) place holder c e part afters) (frees : All (λ (a : After). a.duty ≡ free) afters)
    (doubt : IsInDoubt w (shown_at w t) holder begun x) (at : suc (t + n) ≡ x + doubting) (none : StaysFrom w t) where
  abbrev past : List Pair
  past = shown_at w t

  abbrev mid : List Pair
  mid = quiet_pairs n ++ shown_at w t

  abbrev last : List Pair
  last = quiet_pairs (suc n) ++ shown_at w t

  long : length (shown_at w t) ≡ t
  long = long-at w t none

  at-here : suc (length (shown_at w t) + n) ≡ x + doubting
  at-here = omega (arith, long, at)

  stays : NoneTakesFrom w (length (shown_at w t))
  stays = subst (NoneTakesFrom w) (sym long) none.takes

  none-mid : StaysFrom w (t + n)
  none-mid = stays-later w t (t + n) (omega arith) none

  lasts : All (LastsTo (length (shown_at w t) + suc n) e) afters
  lasts = all-free-last (length (shown_at w t) + suc n) e afters frees

  -- ---- each station

  beside : (other : ℕ) (station : StationData) → IsPresentAt w other station → other ≢ place → IsStill w past (suc n) station
  beside =
      beside-each w (trace_at w t) place holder c e part afters moment (suc n) stays (LastsTo (length past + suc n) e) (IsStill w past (suc n)) lasts
      (λ other station after here server until. rests-still w past (suc n) station
      (server-rests w (trace_at w t) place holder c e part afters moment (suc n) stays other station after here server until))

  still : AllStill w past n
  still =
      at-each w place holder moment.at (λ station. IsStill w past n station) (doubt-still w past holder begun x n doubt at-here)
      (λ other station here apart. still-fewer w past n station (beside other station here apart))

  hold-for : (shown : List Pair) → (course_of w holder shown).holds ≡ (course_of w holder past).holds →
      ((other : ℕ) (station : StationData) → IsPresentAt w other station → other ≢ place → course_of w station shown ≡ course_of w station past) →
      HoldsAlone w shown
  hold-for shown holds same = record {
    place = place;
    holder = holder;
    at = moment.at;
    holds = holds ∙ doubt.holds;
    others = λ other station here apart. ap (λ (d : Course). d.holds) (same other station here apart) ∙ (moment.serves other station here apart).serves;
  }

  hands : (m : ℕ) → m < n → InOneHand w (quiet_pairs (suc m) ++ shown_at w t)
  hands m few =
      inl (hold-for (quiet_pairs (suc m) ++ shown_at w t)
      (ap (λ (d : Course). d.holds) ((doubt-still w past holder begun x n doubt at-here).same (suc m) (omega (arith, few))))
      (λ other station here apart. (beside other station here apart).same (suc m) (omega (arith, few))))

  all : n ≤ n
  all = omega arith

  quiet : IsQuiet w (trace_at w t)
  quiet = record { rests = moment.rests; spent = moment.spent }

  busy-for : (m : ℕ) → m < n → SomeoneIsBusy w (quiet_pairs m ++ shown_at w t)
  busy-for m few = doubt-busy w past holder begun x n doubt at-here place moment.at m (omega (arith, few))

  -- ---- the quiet ticks

  abbrev ticks : QuietTicks w (trace_at w t) n
  ticks = still-ticks w t n none quiet still hands busy-for

  later-trace : trace_at w (t + n) ≡ record { shown = quiet_pairs n ++ shown_at w t; driven = ticks.driven ++ driven_at w t }
  later-trace = still-whole w t n none quiet still hands busy-for

  shows : shown_at w (t + n) ≡ quiet_pairs n ++ shown_at w t
  shows = ap (λ (tr : Trace). tr.shown) later-trace

  quiet-mid : IsQuiet w (trace_at w (t + n))
  quiet-mid = subst (IsQuiet w) (sym later-trace) (still-quiet w t n none quiet still hands busy-for)

  -- ---- the last of them

  on-mid : (P : List Pair → Type 0) → P (quiet_pairs n ++ shown_at w t) → P (shown_at w (t + n))
  on-mid P so = subst P (sym shows) so

  abbrev Quietly : StationData → List Pair → Type 0
  Quietly station p = drives_next w.lag station (starts w.plan station) w.loads w.outside p ≡ Silent

  silent : AllSilent w (shown_at w (t + n))
  silent =
      at-each w place holder moment.at (λ station. Quietly station (shown_at w (t + n)))
      (on-mid (Quietly holder) (doubt-silent w past holder begun x n doubt at-here))
      (λ other station here apart. on-mid (Quietly station) ((beside other station here apart).silent n (omega arith)))

  abbrev Takes : StationData → List Pair → Type 0
  Takes station p = took_now w.lag station.terminal w.loads (hearing_of w station (quiet_pair ∷ p)) ≡ None

  takes : NoneTakesBlocks w (shown_at w (t + n))
  takes =
      at-each w place holder moment.at (λ station. Takes station (shown_at w (t + n)))
      (on-mid (Takes holder) (doubt-takes w past holder begun x n doubt at-here))
      (λ other station here apart. on-mid (Takes station) ((beside other station here apart).takes n (omega arith)))

  -- the others are what they were, and the message is closed
  same-mid : (other : ℕ) (station : StationData) → IsPresentAt w other station → other ≢ place →
      course_of w station (quiet_pair ∷ (quiet_pairs n ++ shown_at w t)) ≡ course_of w station (quiet_pairs n ++ shown_at w t)
  same-mid other station here apart =
      let so = beside other station here apart in so.same (suc n) (omega arith) ∙ sym (so.same n (omega arith))

  mid-long : length (quiet_pairs n ++ shown_at w t) ≡ length (shown_at w t) + n
  mid-long = let all-long : length (quiet_pairs n ++ shown_at w t) ≡ n + length (shown_at w t) = pairs-long n past in omega (arith, all-long)

  closes-mid : course_of w holder (quiet_pair ∷ (quiet_pairs n ++ shown_at w t))
      ≡ close (course_of w holder (shown_at w t)) begun doubt_end (length (quiet_pairs n ++ shown_at w t))
  closes-mid =
      doubt-closes w past holder begun x n doubt at-here ∙ ap (close (course_of w holder (shown_at w t)) begun doubt_end) (sym mid-long)

  abbrev attempts : List Attempt
  attempts = attempt_recorded holder.terminal.address begun doubt_end (length (quiet_pairs n ++ shown_at w t)) ∷ []

  ended-mid : flat_map (ended_by w.lag w.plan w.loads w.outside w.absent (quiet_pair ∷ (quiet_pairs n ++ shown_at w t))
      (length (quiet_pairs n ++ shown_at w t))) (present_stations w.lag w.plan w.loads w.outside w.absent)
      ≡ attempt_recorded holder.terminal.address begun doubt_end (length (quiet_pairs n ++ shown_at w t)) ∷ []
  ended-mid =
      one-gives (is_present w.absent) (ended_by w.lag w.plan w.loads w.outside w.absent (quiet_pair ∷ mid) (length mid)) w.plan.stations place holder
      moment.at.there moment.at.present
      (λ other station there apart present. ends-none w mid station (same-mid other station record { there = there; present = present } apart))
      ∙ ends-one w mid holder (course_of w holder past) begun doubt_end closes-mid

  hands-last : HoldsAlone w (quiet_pair ∷ (quiet_pairs n ++ shown_at w t))
  hands-last = record {
    place = place;
    holder = holder;
    at = moment.at;
    holds = doubt-holds w past holder begun x n doubt at-here;
    others = λ other station here apart.
        ap (λ (d : Course). d.holds) ((beside other station here apart).same (suc n) (omega arith)) ∙ (moment.serves other station here apart).serves;
  }

  passes-last : Passage w (t + n) (suc (t + n)) record {
    blocks = [];
    bursts = [];
    attempts = attempt_recorded holder.terminal.address begun doubt_end (length (quiet_pairs n ++ shown_at w t)) ∷ [];
    commands = 0;
  }
  passes-last =
      tick-passes w (t + n) none-mid quiet-mid silent takes attempts
      (on-mid (λ p. flat_map (ended_by w.lag w.plan w.loads w.outside w.absent (quiet_pair ∷ p) (length p))
      (present_stations w.lag w.plan w.loads w.outside w.absent) ≡ attempts) ended-mid)
      (on-mid (λ p. HoldsAlone w (quiet_pair ∷ p)) hands-last)
      (on-mid (λ p. GoesOnTo w p (suc (t + n))) (inl (doubt-busy w past holder begun x n doubt at-here place moment.at n all)))

  -- ---- the moment afterwards

  after-last : (station : StationData) (after : After) → IsAfter w past place holder c e part station after → LastsTo (length past + suc n) e after →
      IsAfter w last place holder c e part station after
  after-last station after is until = elim is [
    | inl own ↦ inl (
      own.0,
      subst (λ st. IsHolder w last st after) (sym own.0)
          (doubt-keeps w past holder begun x n doubt at-here after (subst (λ st. IsHolder w past st after) own.0 own.1)),
    )
    | inr server ↦ inr (
      server.0,
      server.1,
      server.2,
      server-then w (trace_at w t) place holder c e part afters moment (suc n) stays server.0 station after server.2 server.3 until,
    )
  ]

  stations-last : Beside (IsAfter w (quiet_pair ∷ (quiet_pairs n ++ shown_at w t)) place holder c e part)
      (present_stations w.lag w.plan w.loads w.outside w.absent) afters
  stations-last =
      beside-with (IsAfter w past place holder c e part) (IsAfter w last place holder c e part) (LastsTo (length past + suc n) e)
      (present_stations w.lag w.plan w.loads w.outside w.absent) afters moment.stations (each-of (LastsTo (length past + suc n) e) afters lasts) after-last

  then-underway : Underway w (trace_at w (suc (t + n))) place holder c e part afters
  then-underway =
      let over = tick-quiet w (t + n) none-mid quiet-mid silent in
      subst (λ tr. Underway w tr place holder c e part afters) (sym (tick-trace w (t + n) none-mid quiet-mid silent)) record {
        rests = over.rests;
        fresh = tick-fresh w (t + n) none-mid quiet-mid silent;
        spent = over.spent;
        at = moment.at;
        holds = on-mid (λ p. (course_of w holder (quiet_pair ∷ p)).holds ≡ true) (doubt-holds w past holder begun x n doubt at-here);
        serves = λ other station here apart.
            let before = moment.serves other station here apart in
            let same = (beside other station here apart).same (suc n) (omega arith) in
            on-mid (λ p. Serves (course_of w station (quiet_pair ∷ p)))
            record { serves = ap (λ (d : Course). d.holds) same ∙ before.serves; idle = ap (λ (d : Course). d.runs) same ∙ before.idle };
        stations = on-mid (λ p. Beside (IsAfter w (quiet_pair ∷ p) place holder c e part)
            (present_stations w.lag w.plan w.loads w.outside w.absent) afters) stations-last;
        one = moment.one;
      }

  mid-now : length (quiet_pairs n ++ shown_at w t) ≡ t + n
  mid-now = omega (arith, mid-long, long)

  -- what both came to
  pub doubt-ends : Underway w (trace_at w (suc (t + n))) place holder c e part afters
      × (course_of w holder (shown_at w (suc (t + n))) ≡ close (course_of w holder (shown_at w t)) begun doubt_end (t + n))
      × (quiet_from (shown_at w (suc (t + n))) ≡ quiet_from (shown_at w t)) × Passage w t (suc (t + n)) (doubt_happens holder begun (t + n))
  doubt-ends = (
    then-underway,
    ap (course_of w holder) (tick-shown w (t + n) none-mid quiet-mid silent)
        ∙ ap (λ p. course_of w holder (quiet_pair ∷ p)) shows
        ∙ closes-mid ∙ ap (close (course_of w holder (shown_at w t)) begun doubt_end) mid-now,
    tick-quiet-from w (t + n) none-mid quiet-mid silent ∙ ap quiet_from shows ∙ from-quiet n past,
    joined w t (t + n) (suc (t + n)) nothing_happens (doubt_happens holder begun (t + n))
        (still-passes w t n none quiet still hands busy-for)
        (subst (λ i. Passage w (t + n) (suc (t + n)) (doubt_happens holder begun i)) mid-now passes-last),
  )
