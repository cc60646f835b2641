-- The world stands with the table's run where one station took control by itself.
use Rattle.std.proofs.Common.{◌≡◌, ◌≢◌, ◌⊎◌, inl, inr, ℕ, suc, ◌+◌, ◌≤◌, Bool, true, false, List, [], ◌∷◌, length, Some, None, refl, sym, ap, ◌∙◌, subst, arith}
use Rattle.std.proofs.lemmas.Bool.{eq-eqb, ne_eqb, cases_eq}
use Rattle.std.proofs.lemmas.Option.{none-some, same_Some}
use Rattle.std.specs.Prelude.{find, slice_get}
use Rattle.bus_base.specs.Samples.{quiet_pair}
use Rattle.bus_base.specs.declared.samples.Pair.{Pair}
use Rattle.bus_formats.specs.Accepted.{IsAccepted}
use Rattle.bus_formats.specs.Plans.{StationData}
use Rattle.bus_model.specs.Course.{Course, quiet_from, take_control as course_taken}
use Rattle.bus_model.specs.Message.{Present}
use Rattle.bus_model.specs.Run.{Run, Next, is_at, left_at, next_item, take_control}
use Rattle.bus_model.specs.Starts.{Entry, planned_at}
use Rattle.bus_model.specs.World.{is_present, next_tick}
use Rattle.bus_model.specs.WorldLog.{present_stations}
use Rattle.bus_law_messages.specs.Settled.{NoneStarts}
use Rattle.bus_law_messages.proofs.Pausing.{from-quiet}
use Rattle.bus_law_table.specs.Stations.{loaded_at, ArePresent}
use Rattle.bus_law_table.proofs.Pairing.{Beside, Has, beside, has-filter}
use Rattle.bus_law_phases.specs.Scenarios.{Scenario, IsPresentAt, trace_at, shown_at, course_of, present_of}
use Rattle.bus_law_phases.proofs.AnswerBegun.{addresses-apart}
use Rattle.bus_law_phases.proofs.Resting.{each-present}
use Rattle.bus_law_run.specs.RunShows.{RunShows}
use Rattle.bus_law_whole.specs.Leaving.{RestsUncontrolled}
use Rattle.bus_law_whole.specs.RunStands.{RunStands}
use Rattle.bus_law_standby.specs.Taking.{TakesAlone, StandsUncontrolled}
use Rattle.bus_law_standby.proofs.Taking.{quiet-so, takes-so, rests-so}

-- ---- the items left of the station, in the table

module _ (w : Scenario) (past : List Pair) (place : ℕ) (station : StationData) (accepted : IsAccepted w.plan) (at : IsPresentAt w place station) where
  abbrev a : ℕ
  a = station.terminal.address

  abbrev Named : StationData → Present → Type 0
  Named o p =
      ((o ≡ station) × (is_at station.terminal.address p ≡ true) × ((course_of w station past).left ≡ p.left))
      ⊎ ((o.terminal.address ≢ station.terminal.address) × (is_at station.terminal.address p ≡ false))

  abbrev IsThere : StationData → Type 0
  IsThere o = (other : ℕ) × IsPresentAt w other o

  named : (o : StationData) (p : Present) → IsThere o → present_of w o past ≡ loaded_at w.loads (length past) p → Named o p
  named o p there same =
      let plan : p.plan ≡ o = sym (ap (λ (q : Present). q.plan) same) in
      elim (cases_eq there.0 place) [
        | inl here ↦ (let found : slice_get w.plan.stations place ≡ Some o = ap (slice_get w.plan.stations) (sym here) ∙ there.1.there in
            let own : o ≡ station = same_Some o station (sym found ∙ at.there) in
            inl (
              own,
              eq-eqb p.plan.terminal.address station.terminal.address (ap (λ (st : StationData). st.terminal.address) (plan ∙ own)),
              ap (λ st. (course_of w st past).left) (sym own) ∙ ap (λ (q : Present). q.left) same,
            ))
        | inr apart ↦ (let other = addresses-apart w.plan there.0 place o station accepted there.1.there at.there apart in
            inr (
              other,
              ne_eqb p.plan.terminal.address station.terminal.address (λ e. other (ap (λ (st : StationData). st.terminal.address) (sym plan) ∙ e)),
            ))
      ]

  find-here : (y : Present) (ys : List Present) → is_at station.terminal.address y ≡ true → left_at (find (is_at station.terminal.address) (y ∷ ys)) ≡ y.left
  find-here y ys on = rw on refl

  find-there : (y : Present) (ys : List Present) → is_at station.terminal.address y ≡ false →
      left_at (find (is_at station.terminal.address) (y ∷ ys)) ≡ left_at (find (is_at station.terminal.address) ys)
  find-there y ys off = rw off refl

  find-left : (xs : List StationData) (ys : List Present) → Beside Named xs ys → Has (λ x. x ≡ station) xs →
      left_at (find (is_at station.terminal.address) ys) ≡ (course_of w station past).left
  find-left [] [] names has = absurd has
  find-left [] (y ∷ ys) names has = absurd names
  find-left (x ∷ xs) [] names has = absurd names
  find-left (x ∷ xs) (y ∷ ys) names has = elim names.0 [
    | inl own ↦ find-here y ys own.1 ∙ sym own.2
    | inr other ↦ find-there y ys other.1
        ∙ find-left xs ys names.1 (elim has [
          | inl here ↦ absurd (other.0 (ap (λ (st : StationData). st.terminal.address) here))
          | inr later ↦ later
        ])
  ]

  table-left : (stations : List Present) → ArePresent w.lag w.plan w.loads w.outside w.absent past stations →
      left_at (find (is_at station.terminal.address) stations) ≡ (course_of w station past).left
  table-left stations are =
      find-left (present_stations w.lag w.plan w.loads w.outside w.absent) stations
      (beside IsThere Named (λ o. present_of w o past) (loaded_at w.loads (length past)) (present_stations w.lag w.plan w.loads w.outside w.absent) stations
      (each-present w past IsThere (λ other o there. (other, there))) are named)
      (has-filter (is_present w.absent) w.plan.stations place station at.there at.present)

-- ---- the moment

module _ (w : Scenario) (t place : ℕ) (station : StationData) (first : ℕ) (run : Run) (item : Next) (accepted : IsAccepted w.plan)
    (long : length (shown_at w t) ≡ t) (next : trace_at w (suc t) ≡ next_tick w.lag w.plan w.loads w.outside w.absent (trace_at w t))
    (stands : StandsUncontrolled w t run) (taking : TakesAlone w t place station first) (later : suc t ≤ first)
    (left : next_item (take_control station.terminal.address first run) ≡ Some item) where
  abbrev moment : RestsUncontrolled w (trace_at w t) run.stations
  moment = stands.moment

  quiet : shown_at w (suc t) ≡ quiet_pair ∷ shown_at w t
  quiet = quiet-so w t place station first run.stations long next stands.moment taking

  takes : course_of w station (shown_at w (suc t)) ≡ course_taken first (course_of w station (shown_at w t))
  takes = takes-so w t place station first run.stations long next stands.moment taking

  origin-so : (course_of w station (shown_at w (suc t))).origin ≡ (take_control station.terminal.address first run).origin
  origin-so =
      ap (λ (c : Course). c.origin) takes
      ∙ ap (planned_at first) (sym (table-left w (shown_at w t) place station accepted taking.at run.stations stands.moment.are))

  early-so : NoneStarts (course_of w station (shown_at w (suc t))) (shown_at w (suc t)) 0
  early-so =
      let many : length (shown_at w (suc t)) ≡ suc t = ap (λ (xs : List Pair). length xs) quiet ∙ ap suc long in
      subst (λ (c : Course). NoneStarts c (shown_at w (suc t)) 0) (sym takes) (λ entry rest is. omega (arith, many, later))

  shows-so : RunShows w (suc t) (take_control station.terminal.address first run) []
  shows-so = record {
    ended = stands.shows.ended;
    ended_since = stands.shows.ended_since;
    attempts_are = stands.shows.attempts_are;
    bursts_are = stands.shows.bursts_are;
    taken = stands.shows.taken;
    taken_since = stands.shows.taken_since;
    blocks_are = stands.shows.blocks_are;
    counted = stands.shows.counted;
    orderly = stands.shows.orderly;
  }

  pub stands-so : RunStands w (suc t) (take_control station.terminal.address first run)
  stands-so = record {
    place = place;
    holder = station;
    holder_is = refl;
    opening = ap (λ (c : Course). c.opening) takes;
    retry = ap (λ (c : Course). c.retry) takes;
    origin = origin-so;
    early = early-so;
    pending = [];
    shows = shows-so;
    moment = inl record {
      rested = rests-so w t place station first run.stations accepted long next stands.moment taking;
      runs_on = stands.runs_on;
      pending_is = refl;
      since = record {
        quiet = ap quiet_from quiet ∙ from-quiet 1 (shown_at w t) ∙ stands.quiet;
        soon = λ none. absurd (none-some item (sym none ∙ left));
      };
    };
  }
