-- A station in doubt while the first command of the one that took control is sent: it yields with the first sample, and its terminal hears them all.
use Rattle.std.proofs.Common.{◌≡◌, ℕ, suc, ◌+◌, ◌<◌, ◌≤◌, false, List, [], ◌∷◌, ◌++◌, length, None, refl, sym, ap, ◌∙◌, subst, arith, length-append}
use Rattle.std.proofs.lemmas.Bool.{true≢false}
use Rattle.std.specs.Prelude.{◌&&◌}
use Rattle.bus_base.specs.Samples.{is_quiet, other_of}
use Rattle.bus_base.specs.declared.samples.Channel.{Channel}
use Rattle.bus_base.specs.declared.samples.Channel.TheVariants.{A, B}
use Rattle.bus_base.specs.declared.samples.Drive.TheVariants.{Silent}
use Rattle.bus_base.specs.declared.samples.Pair.{Pair}
use Rattle.bus_line.specs.Past.{InLeg, quiet_ticks, runs}
use Rattle.bus_line.specs.Channels.{on_channel, both_quiet}
use Rattle.bus_formats.specs.Plans.{TerminalData, StationData}
use Rattle.bus_formats.specs.Times.{doubting}
use Rattle.bus_formats.specs.declared.form.Outcome.TheVariants.{Yielded}
use Rattle.bus_model.specs.Attempts.{Begun, Ended, without_words}
use Rattle.bus_model.specs.Control.{StationSoFar, moment_of, outside_takes, so_far, drives_next}
use Rattle.bus_model.specs.Course.{Course}
use Rattle.bus_model.specs.Hearing.{Moment, heard_on}
use Rattle.bus_model.specs.Memory.{Memory}
use Rattle.bus_model.specs.Standing.{Standing, mark_on, at_rest, ignored_from, is_owed, is_promise}
use Rattle.bus_model.specs.Starts.{starts}
use Rattle.bus_model.specs.Terminal.{drives, took_now, accepted_now}
use Rattle.bus_law_control.proofs.Doubting.{doubt-yields}
use Rattle.bus_law_control.proofs.Holding.{heard-nothing}
use Rattle.bus_law_control.proofs.Keeping.{unheard-runs}
use Rattle.bus_law_control.proofs.Passing.{closes-so, yielded-hears, closed-serves}
use Rattle.bus_law_messages.specs.Promises.{IsListening}
use Rattle.bus_law_messages.proofs.Listening.{listening-silent}
use Rattle.bus_law_moments.specs.Doubts.{IsInDoubt}
use Rattle.bus_law_offers.specs.Still.{IsStill}
use Rattle.bus_law_offers.specs.Yielding.{course_yielded, HeardYielding}
use Rattle.bus_law_offers.proofs.Still.{doubts-still}
use Rattle.bus_law_phases.specs.PartRuns.{RunsAlone}
use Rattle.bus_law_phases.specs.Scenarios.{Scenario, course_of, hearing_of, standing_of}
use Rattle.bus_law_phases.proofs.Legs.{runs-less}
use Rattle.bus_law_phases.proofs.Silence.{and-false}
use Rattle.bus_law_phases.proofs.Unheard.{holder-standing}
use Rattle.bus_law_stations.specs.Turns.{moments_of, TakesNothing, Serves}
use Rattle.bus_law_stations.proofs.StillStation.{always-taken}
use Rattle.bus_law_stations.proofs.Turning.{serving-hears, serving-same, serving-sends}
use Rattle.bus_law_table.proofs.Idle.{moments-shown, moments-many, leg-none-ends, tick-accepts, idle-takes}

-- the first tick of a burst isn't quiet
first-loud : (k : ℕ) (c : Channel) (y : Pair) → InLeg k (on_channel c (y ∷ [])) → both_quiet y ≡ false
first-loud k A y leg = ap (λ b. b && is_quiet y.b) (leg.1 refl)
first-loud k B y leg = ap (λ b. is_quiet y.a && b) (leg.1 refl) ∙ and-false (is_quiet y.a)

-- a terminal at rest has sent nothing
no-mark : (s : Standing) (memory : Memory) (d : Channel) → s ≡ at_rest memory → mark_on s.sent d ≡ None
no-mark s memory A rest = ap (λ (u : Standing). u.sent.a) rest
no-mark s memory B rest = ap (λ (u : Standing). u.sent.b) rest

module _ (w : Scenario) (past : List Pair) (station : StationData) (begun : Begun) (x : ℕ) (doubt : IsInDoubt w past station begun x) (lag : w.lag ≡ 3)
    (early : suc (length past) < x + doubting)
    (stays : (tick : ℕ) → length past ≤ tick → outside_takes w.lag station (starts w.plan station) w.loads w.outside tick w.outside ≡ []) (c : Channel) where
  abbrev t : TerminalData
  t = station.terminal

  abbrev before : StationSoFar
  before = so_far w.lag station (starts w.plan station) w.loads w.outside past

  abbrev memory : Memory
  memory = (hearing_of w station past).memory

  abbrev heard : List Moment
  heard = (hearing_of w station past).ticks

  -- its course afterwards
  abbrev d : Course
  d = course_yielded w past station begun

  abbrev Heard : List Pair → Type 0
  Heard ticks = HeardYielding w past station begun ticks

  -- ---- what its terminal heard before: nothing

  pub stands-rest : standing_of w station past ≡ at_rest (hearing_of w station past).memory
  stands-rest = holder-standing w.lag station (starts w.plan station) w.loads w.outside past doubt.holds

  pub heard-rests : (e : Channel) → runs w.lag (heard_on e heard) ≡ false
  heard-rests e =
      ap (λ ms. runs w.lag (heard_on e ms)) (heard-nothing w.lag station (starts w.plan station) w.loads w.outside past doubt.holds)
      ∙ unheard-runs w.lag e past

  pub not-owed : is_owed (standing_of w station past).duty ≡ false
  not-owed = ap (λ (u : Standing). is_owed u.duty) stands-rest

  pub not-promised : is_promise (standing_of w station past).duty ≡ false
  not-promised = ap (λ (u : Standing). is_promise u.duty) stands-rest

  -- it ignores no channel
  pub unmarked : (e : Channel) → mark_on (standing_of w station past).sent e ≡ None
  unmarked e = no-mark (standing_of w station past) memory e stands-rest

  pub listens : IsListening w.lag t (standing_of w station past) c heard
  listens = record {
    rests = heard-rests;
    heeds = λ e. ap (ignored_from w.lag (heard_on e heard)) (unmarked e);
    over = λ owed. absurd (true≢false (sym owed ∙ not-owed));
    promise = λ made. absurd (true≢false (sym made ∙ not-promised));
    stands = λ made. absurd (true≢false (sym made ∙ not-promised));
  }

  pub yielded-serves : Serves d
  yielded-serves = closed-serves (course_of w station past) begun (without_words Yielded None None) (length past) refl

  below : w.lag < 40
  below = omega (arith, lag)

  -- ---- the first tick, and each one after it

  yields-first : (y : Pair) → both_quiet y ≡ false → Heard (y ∷ [])
  yields-first y loud =
      let ended : Ended = without_words Yielded None None in
      let since = doubt.known in
      let closes = doubt-yields w.lag station (starts w.plan station) before.takes past begun x
      (always-taken w.lag station (starts w.plan station) w.loads w.outside past) doubt.runs doubt.doubts y (omega (arith, since)) loud in record {
        so = yielded-hears w.lag station (starts w.plan station) w.loads w.outside y past begun ended doubt.holds closes refl;
        course = closes-so w.lag station (starts w.plan station) w.loads w.outside y past begun ended doubt.holds closes;
      }

  -- one tick more, in which no control is accepted
  pub hears-more : (y : Pair) (ticks : List Pair) → Heard ticks →
      accepted_now w.lag t w.loads record { memory = memory; ticks = moment_of y d ∷ (moments_of d ticks ++ heard) } ≡ None → Heard (y ∷ ticks)
  hears-more y ticks so none =
      let later = ticks ++ past in
      let long : length (ticks ++ past) ≡ length ticks + length past = length-append ticks past in
      let serves : Serves (course_of w station (ticks ++ past)) = subst Serves (sym so.course) yielded-serves in
      let accepts : accepted_now w.lag t w.loads record {
        memory = (hearing_of w station (ticks ++ past)).memory;
        ticks = moment_of y (course_of w station (ticks ++ past)) ∷ (hearing_of w station (ticks ++ past)).ticks;
      } ≡ None =
      ap (λ (s : StationSoFar). accepted_now w.lag t w.loads record { memory = s.hearing.memory; ticks = moment_of y (course_of w station later) ∷ s.hearing.ticks }) so.so
      ∙ ap (λ (e : Course). accepted_now w.lag t w.loads record { memory = memory; ticks = moment_of y e ∷ (moments_of d ticks ++ heard) }) so.course
      ∙ none in
      let nothing : TakesNothing w.lag station (starts w.plan station) w.loads w.outside (ticks ++ past) (y ∷ []) =
      (accepts, stays (length later) (omega (arith, long)), tt) in record {
        so = serving-hears w.lag station (starts w.plan station) w.loads w.outside later (y ∷ []) serves nothing
            ∙ ap (λ (s : StationSoFar). record s { hearing = record s.hearing { ticks = moment_of y (course_of w station later) ∷ s.hearing.ticks } }) so.so
            ∙ ap (λ (e : Course). record before { hearing = record before.hearing { ticks = moment_of y e ∷ (moments_of d ticks ++ heard) } }) so.course;
        course = serving-same w.lag station (starts w.plan station) w.loads w.outside later (y ∷ []) serves nothing ∙ so.course;
      }

  pub hears-leg : (y : Pair) (ticks : List Pair) → RunsAlone w.lag c (y ∷ ticks) → Heard (y ∷ ticks)
  hears-leg y [] alone = yields-first y (first-loud w.lag c y alone.leg)
  hears-leg y (z ∷ ticks) alone =
      hears-more y (z ∷ ticks) (hears-leg z ticks (runs-less w.lag c y (z ∷ ticks) alone))
      (tick-accepts w.lag t w.loads memory (moment_of y d) (moments_of d (z ∷ ticks) ++ heard)
      (leg-none-ends w.lag c heard d heard-rests (y ∷ (z ∷ ticks)) alone.leg alone.quiet).0)

  -- ---- what it does meanwhile: nothing

  shown-leg : (ticks : List Pair) → InLeg w.lag (on_channel c ticks) → InLeg w.lag (heard_on c (moments_of d ticks))
  shown-leg ticks leg = rw (moments-shown c d ticks) leg

  shown-quiet : (ticks : List Pair) → on_channel (other_of c) ticks ≡ quiet_ticks (length ticks) →
      heard_on (other_of c) (moments_of d ticks) ≡ quiet_ticks (length (moments_of d ticks))
  shown-quiet ticks quiet = moments-shown (other_of c) d ticks ∙ quiet ∙ ap quiet_ticks (sym (moments-many d ticks))

  pub yielding-silent : (ticks : List Pair) → RunsAlone w.lag c ticks →
      drives_next w.lag station (starts w.plan station) w.loads w.outside (ticks ++ past) ≡ Silent
  yielding-silent [] alone = let still : IsStill w past 1 station = doubts-still w past station begun x 1 doubt (omega (arith, early)) in still.silent 0 (omega arith)
  yielding-silent (y ∷ ticks) alone =
      let so = hears-leg y ticks alone in
      let later = (y ∷ ticks) ++ past in
      serving-sends w.lag station (starts w.plan station) w.loads w.outside later [] (subst Serves (sym so.course) yielded-serves) tt
      ∙ ap (λ (s : StationSoFar). drives w.lag t w.loads s.hearing) so.so
      ∙ listening-silent w.lag t w.loads memory c heard (moments_of d (y ∷ ticks)) below listens (shown-leg (y ∷ ticks) alone.leg)
      (shown-quiet (y ∷ ticks) alone.quiet)

  pub yielding-takes : (y : Pair) (ticks : List Pair) → RunsAlone w.lag c (y ∷ ticks) →
      took_now w.lag t w.loads (hearing_of w station ((y ∷ ticks) ++ past)) ≡ None
  yielding-takes y ticks alone =
      ap (λ (s : StationSoFar). took_now w.lag t w.loads s.hearing) (hears-leg y ticks alone).so
      ∙ idle-takes w.lag t w.loads memory heard not-promised (moment_of y d) (moments_of d ticks)
      (leg-none-ends w.lag c heard d heard-rests (y ∷ ticks) alone.leg alone.quiet)
