-- A moment in which a station doubts whether its offer was accepted lasts until the station that took control starts.
use Rattle.std.proofs.Common.{◌≡◌, ◌≢◌, inr, ℕ, suc, ◌+◌, ◌<◌, ◌≤◌, Bool, true, false, List, ◌++◌, length, map, Some, None, refl, sym, ap, ◌∙◌, subst, arith}
use Rattle.std.proofs.lemmas.Bool.Decides.{nat_tests}
use Rattle.std.specs.Prelude.{◌==◌, if◌then◌else◌, not, ◌&&◌, ◌||◌, nat_le, is_none, IsSome}
use Rattle.bus_base.specs.Samples.{quiet_pairs}
use Rattle.bus_base.specs.declared.samples.Pair.{Pair}
use Rattle.bus_formats.specs.Plans.{StationData}
use Rattle.bus_formats.specs.Times.{taking_over}
use Rattle.bus_model.specs.Attempts.{Begun}
use Rattle.bus_model.specs.Control.{taking_from, takes_control}
use Rattle.bus_model.specs.Course.{Course, quiet_from}
use Rattle.bus_model.specs.Message.{Present}
use Rattle.bus_model.specs.Starts.{Opening, starts, taking, start_of, has_items}
use Rattle.bus_model.specs.World.{Trace}
use Rattle.bus_model.specs.WorldLog.{present_stations}
use Rattle.bus_law_control.proofs.Doubting.{doubts-later, station-doubts}
use Rattle.bus_law_messages.specs.Settled.{NoneStarts}
use Rattle.bus_law_messages.proofs.Pausing.{nothing-starts, serving-still, from-quiet}
use Rattle.bus_law_moments.specs.Doubts.{IsInDoubt, present_in_doubt, yielded_station, RestedInDoubt}
use Rattle.bus_law_offers.specs.Still.{IsStill, AllStill}
use Rattle.bus_law_offers.proofs.Still.{rests-still, doubts-still}
use Rattle.bus_law_offers.proofs.Stillness.{still-ticks, still-whole, still-passes, still-quiet}
use Rattle.bus_law_phases.specs.Passages.{HoldsInDoubt, InOneHand, Passage, nothing_happens}
use Rattle.bus_law_phases.specs.Scenarios.{Scenario, trace_at, shown_at, driven_at, course_of, present_of, IsPresentAt, NoneTakesFrom, StaysFrom}
use Rattle.bus_law_phases.specs.Silences.{IsQuiet, SomeoneIsBusy}
use Rattle.bus_law_phases.proofs.AnswerSending.{by-three}
use Rattle.bus_law_phases.proofs.Lasting.{fresh-later}
use Rattle.bus_law_phases.proofs.Resting.{each-present}
use Rattle.bus_law_phases.proofs.Silence.{QuietTicks}
use Rattle.bus_law_phases.proofs.Unheard.{holder-rests}
use Rattle.bus_law_stations.proofs.StillController.{pairs-long}
use Rattle.bus_law_table.specs.Stations.{loaded_at}
use Rattle.bus_law_table.proofs.Pairing.{beside, beside-map}
use Rattle.bus_law_table.proofs.Still.{still-told, serving-rests}
use Rattle.bus_law_phases.proofs.Staying.{long-at}

-- who is taking control, until its tick
pub takes-by : (c : Course) (past : List Pair) (first : ℕ) → c.opening ≡ taking first → length past ≤ first →
    taking_from (length past) c.opening ≡ Some first
takes-by c past first opens early =
    let low : nat_le (length past) first ≡ true = grind (arith, nat_tests, early) in
    ap (taking_from (length past)) opens ∙ rw low refl

module _ (w : Scenario) (t n place : ℕ) (holder : StationData) (stations : List Present) (begun : Begun) (x : ℕ)
    (moment : RestedInDoubt w (trace_at w t) place holder stations begun x) (few : t + n ≤ x + taking_over) (stays : StaysFrom w t) where
  abbrev past : List Pair
  past = shown_at w t

  abbrev offerer : StationData
  offerer = moment.offerer

  long : length (shown_at w t) ≡ t
  long = long-at w t stays

  stays-here : NoneTakesFrom w (length (shown_at w t))
  stays-here = subst (NoneTakesFrom w) (sym long) stays.takes

  -- its first command doesn't start before its tick
  starts-later : NoneStarts (course_of w holder past) past n
  starts-later entry later left =
      let c : Course = course_of w holder past in
      subst (λ (o : Opening). length past + n ≤ start_of o c.retry c.origin entry (quiet_from past)) (sym moment.takes) (omega (arith, few, long))

  holder-still : IsStill w past n holder
  holder-still =
      rests-still w past n holder
      (holder-rests w.lag holder (starts w.plan holder) w.loads w.outside past moment.holds n
      (nothing-starts w.lag (course_of w holder past) past n moment.idle starts-later) (λ tick low high. stays-here place holder moment.at tick low))

  offerer-still : IsStill w past n offerer
  offerer-still = doubts-still w past offerer begun x n moment.doubt (omega (arith, few, long))

  other-still : (other : ℕ) (station : StationData) → IsPresentAt w other station → other ≢ place → other ≢ moment.before → IsStill w past n station
  other-still other station at apart aside =
      rests-still w past n station
      (serving-rests w.lag w.plan w.loads w.outside w.absent station past (moment.others other station at apart aside) n
      (λ tick low high. stays-here other station at tick low))

  -- the one that took control, the one that doubts, or another one
  still : AllStill w past n
  still =
      by-three w (λ station. IsStill w past n station) place holder moment.before offerer moment.at moment.offerer_at holder-still offerer-still other-still

  -- ---- who holds control

  early-for : (m : ℕ) → m ≤ n → length (quiet_pairs m ++ past) ≤ x + taking_over
  early-for m small = let all : length (quiet_pairs m ++ past) ≡ m + length past = pairs-long m past in omega (arith, all, long, few, small)

  takes-then : (m : ℕ) → m ≤ n → takes_control w.lag holder (starts w.plan holder) w.loads w.outside (quiet_pairs m ++ past) ≡ Some (x + taking_over)
  takes-then m small =
      let later : List Pair = quiet_pairs m ++ past in
      ap (λ (c : Course). if c.holds then taking_from (length later) c.opening else None) (holder-still.same m small)
      ∙ ap (λ b. if b then taking_from (length later) (course_of w holder past).opening else None) moment.holds
      ∙ takes-by (course_of w holder past) later (x + taking_over) moment.takes (early-for m small)

  in-doubt : (m : ℕ) → m ≤ n → HoldsInDoubt w (quiet_pairs m ++ past)
  in-doubt m small = record {
    place = moment.before;
    offerer = offerer;
    at = moment.offerer_at;
    doubts = station-doubts w.lag offerer (starts w.plan offerer) w.loads w.outside (quiet_pairs m ++ past) begun x
        (ap (λ (c : Course). c.runs) (offerer-still.same m small) ∙ moment.doubt.runs)
        (doubts-later w.lag begun past (quiet_pairs m) x moment.doubt.doubts);
    taker_place = place;
    taker = holder;
    taker_at = moment.at;
    apart = λ same. moment.apart (sym same);
    takes = subst IsSome (sym (takes-then m small)) refl;
    others = λ other station at aside apart.
        ap (λ (c : Course). c.holds) ((other-still other station at apart aside).same m small) ∙ (moment.others other station at apart aside).serves.serves;
  }

  busy : (m : ℕ) → m ≤ n → SomeoneIsBusy w (quiet_pairs m ++ past)
  busy m small =
      let same = offerer-still.same m small in
      let holds = moment.doubt.holds in
      let runs = moment.doubt.runs in
      record {
        place = moment.before;
        station = offerer;
        at = moment.offerer_at;
        busy = ap (λ (c : Course). not c.holds || (is_none c.runs && not (has_items c.left))) same ∙ rw (holds, runs) refl;
      }

  -- ---- the stations afterwards

  abbrev later : List Pair
  later = quiet_pairs n ++ past

  all : n ≤ n
  all = omega arith

  abbrev seen : List Pair → StationData → Present
  seen shown = present_in_doubt w shown offerer.terminal.address begun

  -- the same station of the table, with the loads of the ticks between
  told-later : (station : StationData) → IsStill w past n station → (p : Present) → present_of w station past ≡ loaded_at w.loads (length past) p →
      present_of w station later ≡ loaded_at w.loads (length later) p
  told-later station so p same =
      still-told w.lag w.plan w.loads w.outside w.absent station past (quiet_pairs n) p same (so.same n all) (so.keeps n all)

  -- likewise of one that the table has as one that yielded
  seen-by : (b : Bool) (station : StationData) → IsStill w past n station → (p : Present) →
      (if b then yielded_station begun (present_of w station past) else present_of w station past) ≡ loaded_at w.loads (length past) p →
      (if b then yielded_station begun (present_of w station later) else present_of w station later) ≡ loaded_at w.loads (length later) p
  seen-by false station so p same = told-later station so p same
  seen-by true station so p same =
      let own : Present = record p { left = (present_of w station past).left; live = (present_of w station past).live; serves = (present_of w station past).serves } in
      let before : present_of w station past ≡ loaded_at w.loads (length past) own =
      ap (λ (q : Present). record q { left = (present_of w station past).left; live = (present_of w station past).live; serves = (present_of w station past).serves }) same in
      let after : present_of w station later ≡ loaded_at w.loads (length later) own = told-later station so own before in
      ap (yielded_station begun) after
      ∙ ap (λ (q : Present). record q { plan = p.plan; memory = (loaded_at w.loads (length later) p).memory }) same

  seen-later : (station : StationData) → IsStill w past n station → (p : Present) → seen past station ≡ loaded_at w.loads (length past) p →
      seen later station ≡ loaded_at w.loads (length later) p
  seen-later station so p same = seen-by (station.terminal.address == offerer.terminal.address) station so p same

  abbrev IsTold : StationData → Present → Type 0
  IsTold station p = IsStill w past n station × (seen past station ≡ loaded_at w.loads (length past) p)

  are-later : map (seen later) (present_stations w.lag w.plan w.loads w.outside w.absent) ≡ map (loaded_at w.loads (length later)) stations
  are-later =
      beside-map IsTold (seen later) (loaded_at w.loads (length later)) (present_stations w.lag w.plan w.loads w.outside w.absent) stations
      (beside (IsStill w past n) IsTold (seen past) (loaded_at w.loads (length past)) (present_stations w.lag w.plan w.loads w.outside w.absent) stations
      (each-present w past (IsStill w past n) still) moment.are (λ station p so same. (so, same)))
      (λ station p told. seen-later station told.0 p told.1)

  -- ---- the moment afterwards

  quiet : IsQuiet w (trace_at w t)
  quiet = record { rests = moment.rests; spent = moment.spent }

  hands : (m : ℕ) → m < n → InOneHand w (quiet_pairs (suc m) ++ shown_at w t)
  hands m small = inr (in-doubt (suc m) (omega (arith, small)))

  busy-for : (m : ℕ) → m < n → SomeoneIsBusy w (quiet_pairs m ++ shown_at w t)
  busy-for m small = busy m (omega (arith, small))

  abbrev ticks : QuietTicks w (trace_at w t) n
  ticks = still-ticks w t n stays quiet still hands busy-for

  later-trace : trace_at w (t + n) ≡ record { shown = quiet_pairs n ++ shown_at w t; driven = ticks.driven ++ driven_at w t }
  later-trace = still-whole w t n stays quiet still hands busy-for

  course-then : course_of w holder later ≡ course_of w holder past
  course-then = holder-still.same n all

  doubt-then : IsInDoubt w later offerer begun x
  doubt-then =
      let same = offerer-still.same n all in
      let since = moment.doubt.known in
      let long-later : length later ≡ n + length past = pairs-long n past in
      record {
        holds = ap (λ (c : Course). c.holds) same ∙ moment.doubt.holds;
        runs = ap (λ (c : Course). c.runs) same ∙ moment.doubt.runs;
        doubts = doubts-later w.lag begun past (quiet_pairs n) x moment.doubt.doubts;
        quiet = from-quiet n past ∙ moment.doubt.quiet;
        known = omega (arith, since, long-later);
        early = omega (arith, long-later, few, long);
      }

  -- the same station doubts
  abbrev Doubts : Trace → Type 0
  Doubts tr = (then_rested : RestedInDoubt w tr place holder stations begun x) × (then_rested.offerer ≡ moment.offerer)

  then-rested : IsQuiet w record { shown = later; driven = ticks.driven ++ driven_at w t } →
      RestedInDoubt w record { shown = later; driven = ticks.driven ++ driven_at w t } place holder stations begun x
  then-rested still_quiet = record {
    rests = still_quiet.rests;
    fresh = λ d station. fresh-later w.plan.faults d (driven_at w t) ticks.driven station (ticks.alone d) (moment.fresh d station);
    spent = still_quiet.spent;
    at = moment.at;
    holds = ap (λ (c : Course). c.holds) course-then ∙ moment.holds;
    idle = ap (λ (c : Course). c.runs) course-then ∙ moment.idle;
    takes = ap (λ (c : Course). c.opening) course-then ∙ moment.takes;
    before = moment.before;
    offerer = offerer;
    offerer_at = moment.offerer_at;
    apart = moment.apart;
    doubt = doubt-then;
    others = λ other station at apart aside.
        serving-still w.lag station (starts w.plan station) w.loads w.outside past (moment.others other station at apart aside) n
        (λ tick low high. stays-here other station at tick low);
    are = are-later;
  }

  pub doubt-lasts : (shown_at w (t + n) ≡ quiet_pairs n ++ shown_at w t)
      × ((then_rested : RestedInDoubt w (trace_at w (t + n)) place holder stations begun x) × (then_rested.offerer ≡ moment.offerer))
      × (course_of w holder (shown_at w (t + n)) ≡ course_of w holder (shown_at w t)) × (quiet_from (shown_at w (t + n)) ≡ quiet_from (shown_at w t))
      × Passage w t (t + n) nothing_happens
  unfolding then-rested
  doubt-lasts =
      let shows : shown_at w (t + n) ≡ quiet_pairs n ++ shown_at w t = ap (λ (tr : Trace). tr.shown) later-trace in (
        shows,
        subst Doubts (sym later-trace) (then-rested (still-quiet w t n stays quiet still hands busy-for), refl),
        ap (course_of w holder) shows ∙ course-then,
        ap quiet_from shows ∙ from-quiet n past,
        still-passes w t n stays quiet still hands busy-for,
      )
