-- What stays as it was while a command is sent beside an abandoned answer: no attempt ends, no block is taken, control stays, and the run goes on.
use Rattle.std.proofs.Common.{◌≡◌, ◌≢◌, inl, inr, ℕ, ◌+◌, ◌-◌, ◌<◌, ◌≤◌, Bool, true, false, List, [], ◌∷◌, ◌++◌, length, None, refl, sym, ap, ◌∙◌, subst, arith, append_assoc}
use Rattle.std.proofs.lemmas.Bool.{cases_eq}
use Rattle.std.proofs.lemmas.Option.{same_Some}
use Rattle.std.specs.Prelude.{slice_get, drop, not, ◌&&◌, ◌||◌, is_none}
use Rattle.bus_base.specs.declared.samples.Channel.{Channel}
use Rattle.bus_base.specs.declared.samples.Pair.{Pair}
use Rattle.bus_base.specs.declared.samples.Sample.{Sample}
use Rattle.bus_line.specs.Channels.{on_channel}
use Rattle.bus_formats.specs.Plans.{StationData}
use Rattle.bus_model.specs.Course.{Course}
use Rattle.bus_model.specs.Control.{so_far, outside_takes}
use Rattle.bus_model.specs.Hearing.{heard_on}
use Rattle.bus_model.specs.Message.{Present}
use Rattle.bus_model.specs.Starts.{Entry, starts, has_items}
use Rattle.bus_model.specs.Strikes.{ShownAnswer}
use Rattle.bus_model.specs.Terminal.{took_now}
use Rattle.bus_model.specs.World.{Trace}
use Rattle.bus_law_control.proofs.Holding.{heard-nothing}
use Rattle.bus_law_line.specs.Shown.{first_samples}
use Rattle.bus_law_stations.specs.Messages.{with_running}
use Rattle.bus_law_stations.proofs.Commanding.{command-runs}
use Rattle.bus_law_stations.proofs.StillStation.{always-taken}
use Rattle.bus_law_stations.proofs.Turning.{holding-course}
use Rattle.bus_law_messages.proofs.Holding.{keeps-control}
use Rattle.bus_law_table.proofs.Takes.{unheard-takes}
use Rattle.bus_law_phases.specs.Passages.{HoldsAlone}
use Rattle.bus_law_phases.specs.Scenarios.{Scenario, shown_at, course_of, hearing_of, IsPresentAt}
use Rattle.bus_law_phases.specs.Silences.{SomeoneIsBusy}
use Rattle.bus_law_phases.proofs.AnswerSending.{by-three}
use Rattle.bus_law_beside.specs.Beside.{BeginsBeside}
use Rattle.bus_law_beside.proofs.BesideBegins as start
use Rattle.bus_law_beside.proofs.BesideDrives as both
use Rattle.bus_law_beside.proofs.Bystander as bystander
use Rattle.bus_law_beside.proofs.OldStations as olds
use Rattle.bus_law_beside.proofs.StopTicks.{BreaksOff}
use Rattle.bus_law_beside.proofs.Teller as teller

module _ (w : Scenario) (t place : ℕ) (holder : StationData) (stations : List Present) (entry : Entry) (old : ShownAnswer)
    (p : BeginsBeside w t place holder stations entry old) (o : Pair) (os : List Pair) (is_old : p.beside.ticks ≡ o ∷ os) (valid : Bool) (sends m : ℕ)
    (breaks : BreaksOff old (t - old.sent.start) valid sends m) where
  abbrev before : List Pair
  before = shown_at w old.sent.start

  abbrev past : List Pair
  past = (o ∷ os) ++ before

  abbrev Shows : List Pair → Type 0
  Shows ticks = both.Shows w t place holder stations entry old p o os is_old valid sends m breaks ticks

  abbrev c : Channel
  c = old.sent.channel

  abbrev d : Channel
  d = (start.begun w t place holder stations entry old p o os is_old valid sends m breaks).state.channel

  abbrev telling : StationData
  telling = p.beside.telling

  joined : (ticks : List Pair) → (ticks ++ (o ∷ os)) ++ before ≡ ticks ++ past
  joined ticks = append_assoc ticks (o ∷ os) before

  less : (x : Pair) (ticks : List Pair) → Shows (x ∷ ticks) → Shows ticks
  less x ticks so = record {
    leg = so.leg.2;
    sent = ap (λ (xs : List Sample). drop 1 xs) so.sent;
    old = ap (λ (xs : List Sample). drop 1 xs) so.old;
  }

  so-far : on_channel old.sent.channel (o ∷ os)
      ≡ first_samples (start.old_row w t place holder stations entry old p o os is_old valid sends m breaks) (length (o ∷ os))
  so-far = (start.both-begin w t place holder stations entry old p o os is_old valid sends m breaks).so_far

  -- ---- the station in control

  pub holder-runs : (first : Pair) (ticks : List Pair) → Shows (first ∷ ticks) → course_of w holder ((first ∷ ticks) ++ past)
      ≡ with_running (course_of w holder past) (start.begun w t place holder stations entry old p o os is_old valid sends m breaks)
  holder-runs first ticks so =
      let begins = start.begins-now w t place holder stations entry old p o os is_old valid sends m breaks in
      let controls = both.controls w t place holder stations entry old p o os is_old valid sends m breaks in
      let shows = both.shows-burst w t place holder stations entry old p o os is_old valid sends m breaks (first ∷ ticks) so in
      holding-course w.lag holder (starts w.plan holder) w.loads w.outside past (first ∷ ticks)
      (keeps-control w.lag holder (starts w.plan holder) w.loads w.outside past entry controls begins (first ∷ ticks) shows)
      ∙ command-runs w.lag holder (starts w.plan holder) (so_far w.lag holder (starts w.plan holder) w.loads w.outside past).takes past entry
      (always-taken w.lag holder (starts w.plan holder) w.loads w.outside past) begins ticks first shows

  holds : (course_of w holder past).holds ≡ true
  holds = (start.begins-now w t place holder stations entry old p o os is_old valid sends m breaks).holds

  holder-holds : (ticks : List Pair) → Shows ticks → (course_of w holder (ticks ++ past)).holds ≡ true
  holder-holds [] so = holds
  holder-holds (first ∷ ticks) so = ap (λ (a : Course). a.holds) (holder-runs first ticks so) ∙ holds

  holder-still : (ticks : List Pair) → Shows ticks → (course_of w holder (ticks ++ past)).ended ≡ (course_of w holder past).ended
  holder-still [] so = refl
  holder-still (first ∷ ticks) so = ap (λ (a : Course). a.ended) (holder-runs first ticks so)

  holder-takes : (x : Pair) (ticks : List Pair) → Shows (x ∷ ticks) →
      took_now w.lag holder.terminal w.loads (hearing_of w holder ((x ∷ ticks) ++ past)) ≡ None
  holder-takes x ticks so =
      unheard-takes w.lag holder (starts w.plan holder) w.loads w.outside x (ticks ++ past)
      (heard-nothing w.lag holder (starts w.plan holder) w.loads w.outside ((x ∷ ticks) ++ past) (holder-holds (x ∷ ticks) so))

  pub someone-busy : (ticks : List Pair) → Shows ticks → SomeoneIsBusy w (ticks ++ past)
  someone-busy [] so =
      let begins = start.begins-now w t place holder stations entry old p o os is_old valid sends m breaks in
      let on = begins.holds in
      let idle = begins.idle in
      let left = begins.left in
      record { place = place; station = holder; at = p.beside.at; busy = rw (on, idle, left) refl }
  someone-busy (first ∷ ticks) so =
      let on = holds in
      record {
        place = place;
        station = holder;
        at = p.beside.at;
        busy = ap (λ (a : Course). not a.holds || (is_none a.runs && not (has_items a.left))) (holder-runs first ticks so) ∙ rw on refl;
      }

  -- ---- the station that sends the answer

  stays-teller : (j tick : ℕ) → length before ≤ tick → tick < length before + j →
      outside_takes w.lag telling (starts w.plan telling) w.loads w.outside tick w.outside ≡ []
  stays-teller j tick low high =
      let long = olds.long-before w t place holder stations entry old p in
      p.beside.stays.takes p.beside.teller telling p.beside.teller_at tick (omega (arith, long, low))

  pub teller-still : (ticks : List Pair) → Shows ticks → course_of w telling (ticks ++ past) ≡ course_of w telling before
  teller-still ticks so =
      ap (course_of w telling) (sym (joined ticks))
      ∙ teller.teller-same w.lag telling (starts w.plan telling) w.loads w.outside before c d old.sent.words o os
      (start.old_row w t place holder stations entry old p o os is_old valid sends m breaks)
      (start.old_known w t place holder stations entry old p o os is_old valid sends m breaks)
      (start.old_burst w t place holder stations entry old p o os is_old valid sends m breaks (length (heard_on c (hearing_of w telling before).ticks)))
      (start.teller-begins w t place holder stations entry old p o os is_old valid sends m breaks) ticks
      (both.teller-hears-it w t place holder stations entry old p o os is_old valid sends m breaks ticks so)
      (stays-teller (length (ticks ++ (o ∷ os))))

  teller-takes : (x : Pair) (ticks : List Pair) → Shows (x ∷ ticks) →
      took_now w.lag telling.terminal w.loads (hearing_of w telling ((x ∷ ticks) ++ past)) ≡ None
  teller-takes x ticks so =
      ap (λ ps. took_now w.lag telling.terminal w.loads (hearing_of w telling ps)) (sym (joined (x ∷ ticks)))
      ∙ teller.teller-takes w.lag telling (starts w.plan telling) w.loads w.outside before c d old.sent.words o os
      (start.old_row w t place holder stations entry old p o os is_old valid sends m breaks)
      (start.old_known w t place holder stations entry old p o os is_old valid sends m breaks)
      (start.old_burst w t place holder stations entry old p o os is_old valid sends m breaks (length (heard_on c (hearing_of w telling before).ticks)))
      (start.teller-begins w t place holder stations entry old p o os is_old valid sends m breaks) x ticks
      (both.teller-hears-it w t place holder stations entry old p o os is_old valid sends m breaks (x ∷ ticks) so)
      (stays-teller (length ((x ∷ ticks) ++ (o ∷ os))))

  -- ---- the others

  module _ (other : ℕ) (station : StationData) (at : IsPresentAt w other station) (away : other ≢ place) (aside : other ≢ p.beside.teller) where
    pub other-still : (ticks : List Pair) → Shows ticks → course_of w station (ticks ++ past) ≡ course_of w station before
    other-still ticks so =
        ap (course_of w station) (sym (joined ticks))
        ∙ bystander.passing-same w.lag station (starts w.plan station) w.loads w.outside before
        (both.serving w t place holder stations entry old p o os is_old valid sends m breaks other station at away aside) (ticks ++ (o ∷ os))
        (both.passes-both w t place holder stations entry old p o os is_old valid sends m breaks other station at away aside ticks so.old so.sent)
        (both.stays-there w t place holder stations entry old p o os is_old valid sends m breaks other station at away aside (length (ticks ++ (o ∷ os))))

    other-takes : (x : Pair) (ticks : List Pair) → Shows (x ∷ ticks) →
        took_now w.lag station.terminal w.loads (hearing_of w station ((x ∷ ticks) ++ past)) ≡ None
    other-takes x ticks so =
        ap (λ ps. took_now w.lag station.terminal w.loads (hearing_of w station ps)) (sym (joined (x ∷ ticks)))
        ∙ bystander.passing-takes w.lag station (starts w.plan station) w.loads w.outside before
        (both.serving w t place holder stations entry old p o os is_old valid sends m breaks other station at away aside) x (ticks ++ (o ∷ os))
        (both.passes-both w t place holder stations entry old p o os is_old valid sends m breaks other station at away aside (x ∷ ticks) so.old so.sent)
        (both.stays-there w t place holder stations entry old p o os is_old valid sends m breaks other station at away aside
        (length ((x ∷ ticks) ++ (o ∷ os))))

  -- ---- all of them

  pub none-shown : Shows []
  none-shown = record { leg = tt; sent = refl; old = so-far }

  -- each that serves has the course that it had
  pub others-same : (ticks : List Pair) → Shows ticks → (other : ℕ) (station : StationData) → IsPresentAt w other station → other ≢ place →
      course_of w station (ticks ++ past) ≡ course_of w station past
  others-same ticks so other station at away = elim (cases_eq other p.beside.teller) [
    | inl same ↦ (
        let is : telling ≡ station = same_Some telling station (sym p.beside.teller_at.there ∙ ap (slice_get w.plan.stations) (sym same) ∙ at.there) in
        subst (λ st. course_of w st (ticks ++ past) ≡ course_of w st past) is (teller-still ticks so ∙ sym (teller-still [] none-shown)))
    | inr aside ↦ other-still other station at away aside ticks so ∙ sym (other-still other station at away aside [] none-shown)
  ]

  pub all-still : (ticks : List Pair) → Shows ticks → (other : ℕ) (station : StationData) → IsPresentAt w other station →
      (course_of w station (ticks ++ past)).ended ≡ (course_of w station past).ended
  all-still ticks so other station at = elim (cases_eq other place) [
    | inl same ↦ (
        let is : holder ≡ station = same_Some holder station (sym p.beside.at.there ∙ ap (slice_get w.plan.stations) (sym same) ∙ at.there) in
        subst (λ st. (course_of w st (ticks ++ past)).ended ≡ (course_of w st past).ended) is (holder-still ticks so))
    | inr away ↦ ap (λ (a : Course). a.ended) (others-same ticks so other station at away)
  ]

  pub all-takes : (x : Pair) (ticks : List Pair) → Shows (x ∷ ticks) → (other : ℕ) (station : StationData) → IsPresentAt w other station →
      took_now w.lag station.terminal w.loads (hearing_of w station ((x ∷ ticks) ++ past)) ≡ None
  all-takes x ticks so =
      by-three w (λ station. took_now w.lag station.terminal w.loads (hearing_of w station ((x ∷ ticks) ++ past)) ≡ None) place holder p.beside.teller telling
      p.beside.at p.beside.teller_at (holder-takes x ticks so) (teller-takes x ticks so)
      (λ other station at away aside. other-takes other station at away aside x ticks so)

  pub others-serve : (other : ℕ) (station : StationData) → IsPresentAt w other station → other ≢ place → (course_of w station past).holds ≡ false
  others-serve other station at away =
      subst (λ (tr : Trace). (course_of w station tr.shown).holds ≡ false)
      (start.same-now w t place holder stations entry old p o os is_old valid sends m breaks) (p.beside.serves other station at away).serves

  pub held : (ticks : List Pair) → Shows ticks → HoldsAlone w (ticks ++ past)
  held ticks so = record {
    place = place;
    holder = holder;
    at = p.beside.at;
    holds = holder-holds ticks so;
    others = λ other station at away. ap (λ (a : Course). a.holds) (others-same ticks so other station at away) ∙ others-serve other station at away;
  }
