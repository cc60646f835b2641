-- A moment between two messages lasts until the next one starts, and the world begins with one.
use Rattle.std.proofs.Common.{◌≡◌, inl, inr, ℕ, ◌+◌, List, ◌++◌, length, Some, sym, ap, ◌∙◌, subst, arith}
use Rattle.std.proofs.lemmas.Bool.{cases_eq}
use Rattle.std.proofs.lemmas.Option.{same_Some}
use Rattle.std.specs.Prelude.{slice_get}
use Rattle.bus_base.specs.Samples.{quiet_pairs}
use Rattle.bus_base.specs.declared.samples.Pair.{Pair}
use Rattle.bus_formats.specs.Plans.{StationData}
use Rattle.bus_model.specs.Course.{Course, quiet_from}
use Rattle.bus_model.specs.Message.{Present}
use Rattle.bus_model.specs.Starts.{starts}
use Rattle.bus_model.specs.World.{Trace}
use Rattle.bus_model.specs.WorldLog.{present_stations}
use Rattle.bus_law_messages.specs.Settled.{NoneStarts}
use Rattle.bus_law_messages.proofs.Pausing.{nothing-starts, serving-still, from-quiet}
use Rattle.bus_law_stations.specs.Silence.{StationRests}
use Rattle.bus_law_stations.proofs.StillStation.{still-after}
use Rattle.bus_law_table.specs.Stations.{loaded_at, ArePresent}
use Rattle.bus_law_table.proofs.Pairing.{beside, beside-map}
use Rattle.bus_law_table.proofs.Still.{rests-told, serving-rests}
use Rattle.bus_law_phases.specs.Scenarios.{Scenario, trace_at, shown_at, driven_at, course_of, present_of, NoneTakesFrom, StaysFrom}
use Rattle.bus_law_phases.specs.Passages.{HoldsAlone, Passage, nothing_happens}
use Rattle.bus_law_phases.specs.Silences.{AllRest, IsQuiet, GoesOnTo}
use Rattle.bus_law_phases.specs.Rests.{Rested}
use Rattle.bus_law_phases.proofs.Lasting.{fresh-later}
use Rattle.bus_law_phases.proofs.Resting.{each-present}
use Rattle.bus_law_phases.proofs.Silence.{QuietTicks, quiet-for, silence}
use Rattle.bus_law_phases.proofs.Unheard.{holder-rests}
use Rattle.bus_law_phases.proofs.Staying.{long-at, ticks-later}

-- ---- nothing is due of any station

module _ (w : Scenario) (now : Trace) (place : ℕ) (holder : StationData) (stations : List Present) (moment : Rested w now place holder stations) where
  abbrev past : List Pair
  past = now.shown

  pub rested-alone : HoldsAlone w past
  rested-alone = record {
    place = place;
    holder = holder;
    at = moment.at;
    holds = moment.holds;
    others = λ other station at apart. (moment.others other station at apart).serves.serves;
  }

  module _ (n : ℕ) (none : NoneStarts (course_of w holder past) past n) (stays : NoneTakesFrom w (length past)) where
    abbrev Rests : StationData → Type 0
    Rests station = StationRests w.lag station (starts w.plan station) w.loads w.outside past n

    rests-own : Rests holder
    rests-own =
        holder-rests w.lag holder (starts w.plan holder) w.loads w.outside past moment.holds n
        (nothing-starts w.lag (course_of w holder past) past n moment.idle none) (λ tick low high. stays place holder moment.at tick low)

    pub rested-rests : AllRest w past n
    rested-rests other station at = elim (cases_eq other place) [
      | inl same ↦ (let here : slice_get w.plan.stations place ≡ Some station = ap (slice_get w.plan.stations) (sym same) ∙ at.there in
          let is : holder ≡ station = same_Some holder station (sym moment.at.there ∙ here) in subst Rests is rests-own)
      | inr apart ↦ serving-rests w.lag w.plan w.loads w.outside w.absent station past (moment.others other station at apart) n
          (λ tick low high. stays other station at tick low)
    ]

    -- ---- the stations afterwards

    abbrev IsTold : StationData → Present → Type 0
    IsTold station p = Rests station × (present_of w station past ≡ loaded_at w.loads (length past) p)

    pub rested-are : ArePresent w.lag w.plan w.loads w.outside w.absent (quiet_pairs n ++ past) stations
    rested-are =
        beside-map IsTold (λ station. present_of w station (quiet_pairs n ++ past)) (loaded_at w.loads (length (quiet_pairs n ++ past)))
        (present_stations w.lag w.plan w.loads w.outside w.absent) stations
        (beside Rests IsTold (λ station. present_of w station past) (loaded_at w.loads (length past)) (present_stations w.lag w.plan w.loads w.outside w.absent) stations
        (each-present w past Rests rested-rests) moment.are (λ station p rest same. (rest, same)))
        (λ station p told. rests-told w.lag w.plan w.loads w.outside w.absent station past n told.0 p told.1)

-- ---- the moment afterwards

module _ (w : Scenario) (t n place : ℕ) (holder : StationData) (stations : List Present) (moment : Rested w (trace_at w t) place holder stations)
    (none : NoneStarts (course_of w holder (shown_at w t)) (shown_at w t) n) (stays : StaysFrom w t) (goes : GoesOnTo w (shown_at w t) (t + n)) where
  long : length (shown_at w t) ≡ t
  long = long-at w t stays

  stays-here : NoneTakesFrom w (length (shown_at w t))
  stays-here = subst (NoneTakesFrom w) (sym long) stays.takes

  rests : AllRest w (shown_at w t) n
  rests = rested-rests w (trace_at w t) place holder stations moment n none stays-here

  ticks : QuietTicks w (trace_at w t) n
  ticks = quiet-for w (trace_at w t) n rests moment.spent n (omega arith)

  later-trace : trace_at w (t + n) ≡ record { shown = quiet_pairs n ++ shown_at w t; driven = ticks.driven ++ driven_at w t }
  later-trace = sym (ticks-later w t n stays) ∙ ticks.world

  course-then : course_of w holder (quiet_pairs n ++ shown_at w t) ≡ course_of w holder (shown_at w t)
  course-then = still-after w.lag holder (starts w.plan holder) w.loads w.outside (shown_at w t) n (rests place holder moment.at)

  then-rested : IsQuiet w record { shown = quiet_pairs n ++ shown_at w t; driven = ticks.driven ++ driven_at w t } →
      Rested w record { shown = quiet_pairs n ++ shown_at w t; driven = ticks.driven ++ driven_at w t } place holder stations
  then-rested quiet = record {
    rests = quiet.rests;
    fresh = λ d station. fresh-later w.plan.faults d (driven_at w t) ticks.driven station (ticks.alone d) (moment.fresh d station);
    spent = quiet.spent;
    at = moment.at;
    holds = ap (λ (c : Course). c.holds) course-then ∙ moment.holds;
    idle = ap (λ (c : Course). c.runs) course-then ∙ moment.idle;
    others = λ other station at apart.
        serving-still w.lag station (starts w.plan station) w.loads w.outside (shown_at w t) (moment.others other station at apart) n
        (λ tick low high. stays-here other station at tick low);
    are = rested-are w (trace_at w t) place holder stations moment n none stays-here;
  }

  pub rest-lasts : (shown_at w (t + n) ≡ quiet_pairs n ++ shown_at w t) × Rested w (trace_at w (t + n)) place holder stations
      × (course_of w holder (shown_at w (t + n)) ≡ course_of w holder (shown_at w t)) × (quiet_from (shown_at w (t + n)) ≡ quiet_from (shown_at w t))
      × Passage w t (t + n) nothing_happens
  rest-lasts =
      let still = silence w t n stays record { rests = moment.rests; spent = moment.spent } rests
      (rested-alone w (trace_at w t) place holder stations moment) goes in (
        still.0,
        subst (λ tr. Rested w tr place holder stations) (sym later-trace) (then-rested (subst (IsQuiet w) later-trace still.1)),
        ap (course_of w holder) still.0 ∙ course-then,
        ap quiet_from still.0 ∙ from-quiet n (shown_at w t),
        still.3,
      )
