-- Where nobody holds control, all is quiet for as long as no station takes it.
use Rattle.std.proofs.Common.{◌≡◌, ℕ, suc, ◌+◌, ◌-◌, ◌<◌, ◌≤◌, List, ◌++◌, length, sym, ap, ◌∙◌, subst, arith}
use Rattle.std.specs.Prelude.{count_by}
use Rattle.bus_base.specs.Samples.{quiet_pairs}
use Rattle.bus_base.specs.declared.samples.Channel.{Channel}
use Rattle.bus_base.specs.declared.samples.Drive.{Drive}
use Rattle.bus_base.specs.declared.samples.Pair.{Pair}
use Rattle.bus_line.specs.Past.{runs}
use Rattle.bus_line.specs.Channels.{on_channel, bursts}
use Rattle.bus_formats.specs.Plans.{StationData}
use Rattle.bus_model.specs.Message.{Present}
use Rattle.bus_model.specs.Starts.{starts}
use Rattle.bus_model.specs.Transmissions.{is_command}
use Rattle.bus_model.specs.Wire.{drivers}
use Rattle.bus_model.specs.World.{Trace}
use Rattle.bus_model.specs.WorldLog.{present_stations}
use Rattle.bus_law_line.proofs.Sent.{left-spent}
use Rattle.bus_law_messages.proofs.Pausing.{serving-still, on-quiet}
use Rattle.bus_law_stations.specs.Silence.{StationRests}
use Rattle.bus_law_stations.proofs.Resting.{rests-quiet}
use Rattle.bus_law_table.specs.Stations.{loaded_at, ArePresent}
use Rattle.bus_law_table.proofs.Pairing.{beside, beside-map}
use Rattle.bus_law_table.proofs.Quiet.{quiet-bursts}
use Rattle.bus_law_table.proofs.Still.{rests-told, serving-rests}
use Rattle.bus_law_phases.specs.Scenarios.{Scenario, IsPresentAt, trace_at, shown_at, driven_at, drivers_at, present_of, blocks_in, attempts_in, commands_in, NoneTakesFrom, StaysFrom}
use Rattle.bus_law_phases.specs.Silences.{AllRest}
use Rattle.bus_law_phases.proofs.Lasting.{fresh-later}
use Rattle.bus_law_phases.proofs.Resting.{each-present, blocks-still, attempts-still}
use Rattle.bus_law_phases.proofs.Silence.{QuietTicks, quiet-for, drivers-few}
use Rattle.bus_law_phases.proofs.Staying.{long-at, ticks-later}
use Rattle.bus_law_whole.specs.Leaving.{RestsUncontrolled, LastsUncontrolled}

module _ (w : Scenario) (t n : ℕ) (stations : List Present) (stays : StaysFrom w t) (moment : RestsUncontrolled w (trace_at w t) stations) where
  abbrev past : List Pair
  past = shown_at w t

  takes : NoneTakesFrom w (length (shown_at w t))
  takes = subst (NoneTakesFrom w) (sym (long-at w t stays)) stays.takes

  rests : AllRest w (shown_at w t) n
  rests other station at =
      serving-rests w.lag w.plan w.loads w.outside w.absent station past (moment.serves other station at) n (λ tick low high. takes other station at tick low)

  ticks : (m : ℕ) → m ≤ n → QuietTicks w (trace_at w t) m
  ticks m few = quiet-for w (trace_at w t) n rests moment.spent m few

  later-is : (m : ℕ) (few : m ≤ n) → trace_at w (t + m) ≡ record { shown = quiet_pairs m ++ past; driven = (ticks m few).driven ++ driven_at w t }
  later-is m few = sym (ticks-later w t m stays) ∙ (ticks m few).world

  all : n ≤ n
  all = omega arith

  shown-is : shown_at w (t + n) ≡ quiet_pairs n ++ past
  shown-is = ap (λ (tr : Trace). tr.shown) (later-is n all)

  -- ---- the stations afterwards

  abbrev Rests : StationData → Type 0
  Rests station = StationRests w.lag station (starts w.plan station) w.loads w.outside past n

  abbrev IsTold : StationData → Present → Type 0
  IsTold station p = Rests station × (present_of w station past ≡ loaded_at w.loads (length past) p)

  are-later : ArePresent w.lag w.plan w.loads w.outside w.absent (quiet_pairs n ++ past) stations
  are-later =
      beside-map IsTold (λ station. present_of w station (quiet_pairs n ++ past)) (loaded_at w.loads (length (quiet_pairs n ++ past)))
      (present_stations w.lag w.plan w.loads w.outside w.absent) stations
      (beside Rests IsTold (λ station. present_of w station past) (loaded_at w.loads (length past)) (present_stations w.lag w.plan w.loads w.outside w.absent) stations
      (each-present w past Rests rests) moment.are (λ station p rest same. (rest, same)))
      (λ station p told. rests-told w.lag w.plan w.loads w.outside w.absent station past n told.0 p told.1)

  rests-then : RestsUncontrolled w record { shown = quiet_pairs n ++ past; driven = (ticks n all).driven ++ driven_at w t } stations
  rests-then = record {
    rests = λ d. ap (runs w.lag) (on-quiet d n past) ∙ rests-quiet w.lag n (on_channel d past) (moment.rests d);
    fresh = λ d station. fresh-later w.plan.faults d (driven_at w t) (ticks n all).driven station ((ticks n all).alone d) (moment.fresh d station);
    spent = λ d station. left-spent w.plan.faults d (driven_at w t) (ticks n all).driven ((ticks n all).alone d) station;
    serves = λ other station at.
        serving-still w.lag station (starts w.plan station) w.loads w.outside past (moment.serves other station at) n
        (λ tick low high. takes other station at tick low);
    are = are-later;
  }

  -- ---- nobody drives

  next-tick : (m : ℕ) → t + suc m ≡ suc (t + m)
  next-tick m = omega arith

  drives-none : (m : ℕ) → m < n → (c : Channel) → drivers_at w (t + m) c ≤ 1
  drives-none m few c =
      let early : suc m ≤ n = omega (arith, few) in
      let q = ticks (suc m) early in
      let driven : driven_at w (t + suc m) ≡ q.driven ++ driven_at w t = ap (λ (tr : Trace). tr.driven) (later-is (suc m) early) in
      subst (λ u. drivers w.plan.faults c (driven_at w u) ≤ 1) (next-tick m)
      (subst (λ (ds : List (List Drive)). drivers w.plan.faults c ds ≤ 1) (sym driven)
      (drivers-few w.plan.faults c (driven_at w t) q.driven m q.many (q.alone c)))

  pub lasts-uncontrolled : LastsUncontrolled w t n stations
  lasts-uncontrolled = record {
    quiet = shown-is;
    rests = subst (λ tr. RestsUncontrolled w tr stations) (sym (later-is n all)) rests-then;
    blocks = ap (λ p. blocks_in w p) shown-is ∙ blocks-still w past n rests;
    bursts_are = ap (bursts w.lag) shown-is ∙ quiet-bursts w.lag n past moment.rests;
    attempts = ap (λ p. attempts_in w p) shown-is ∙ attempts-still w past n rests;
    counted = ap (λ (tr : Trace). commands_in w tr.driven) (later-is n all) ∙ ap (count_by is_command) (ticks n all).begun;
    alone = λ i low high c.
        let same : t + (i - t) ≡ i = omega (arith, low) in
        subst (λ u. drivers_at w u c ≤ 1) same (drives-none (i - t) (omega (arith, low, high)) c);
  }
