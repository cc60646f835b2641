-- The end of a run: no item is left, and both channels stay quiet until it is over.
use Rattle.std.proofs.Common.{◌≡◌, ◌≢◌, inl, inr, ℕ, suc, ◌+◌, ◌-◌, Bool, true, false, List, [], ◌∷◌, ◌++◌, length, Option, Some, None, refl, sym, ap, ◌∙◌, subst, arith}
use Rattle.std.proofs.lemmas.Bool.{cases_eq, cases_Bool}
use Rattle.std.proofs.lemmas.Option.{none-some, same_Some}
use Rattle.std.specs.Prelude.{not, ◌&&◌, ◌||◌, nat_le, if◌then◌else◌, is_none, slice_get, IsSome}
use Rattle.std.specs.List.{list_all}
use Rattle.bus_base.specs.Samples.{quiet_pairs}
use Rattle.bus_base.specs.declared.samples.Pair.{Pair}
use Rattle.bus_line.specs.Channels.{quiet_both}
use Rattle.bus_formats.specs.Accepted.{IsAccepted}
use Rattle.bus_formats.specs.Plans.{StationData, PlanData}
use Rattle.bus_formats.specs.Times.{ending_quiet}
use Rattle.bus_model.specs.Control.{taking_from}
use Rattle.bus_model.specs.Course.{Course, quiet_from}
use Rattle.bus_model.specs.Message.{Present}
use Rattle.bus_model.specs.Run.{Run, next_in, next_by, next_item, run_end}
use Rattle.bus_model.specs.Starts.{Entry, Opening, usual, superseding, taking, has_items}
use Rattle.bus_model.specs.World.{is_present, is_done}
use Rattle.bus_law_messages.specs.Settled.{NoneStarts}
use Rattle.bus_law_plans.specs.Entries.{IsRunAmong}
use Rattle.bus_law_phases.specs.Passages.{Passage, nothing_happens}
use Rattle.bus_law_phases.specs.Rests.{Rested}
use Rattle.bus_law_phases.specs.Scenarios.{Scenario, trace_at, shown_at, course_of, IsPresentAt, StaysFrom, is_over_at}
use Rattle.bus_law_phases.proofs.Silence.{quiet-within}
use Rattle.bus_law_phases.proofs.SilencedRest.{rest-lasts}
use Rattle.bus_law_phases.proofs.SilencedStart.{named-apart}
use Rattle.bus_law_run.specs.RunShows.{RunRests}
use Rattle.bus_law_run.proofs.OwnStation.{own-station}
use Rattle.bus_law_run.proofs.Shows.{shows-later}
use Rattle.bus_law_phases.proofs.Staying.{long-at}

-- ---- nothing is left

none-left : (station : Present) (left : List Entry) → next_in station left ≡ None → left ≡ []
none-left station [] none = refl
none-left station (entry ∷ later) none = absurd (none-some _ (sym none))

-- no control is being taken
not-taken : (opening : Opening) (n : ℕ) → ((tick : ℕ) → opening ≡ taking tick → ⊥) → taking_from n opening ≡ None
not-taken (usual need tick) n never = refl
not-taken (superseding tick channel) n never = refl
not-taken (taking first) n never = absurd (never first refl)

all-so : {X : Type 0} (test : X → Bool) (xs : List X) → ((i : ℕ) (x : X) → slice_get xs i ≡ Some x → test x ≡ true) → list_all test xs ≡ true
all-so test [] each = refl
all-so test (x ∷ xs) each = rw (each 0 x refl) (all-so test xs (λ i y there. each (suc i) y there))

-- ---- all stays so until it is over

module _ (w : Scenario) (t : ℕ) (run : Run) (accepted : IsAccepted w.plan) (stays : StaysFrom w t) (rests : RunRests w t run) (none : next_item run ≡ None) where
  nothing-left : (course_of w rests.holder (shown_at w t)).left ≡ []
  nothing-left =
      let apart = named-apart w.plan accepted rests.place rests.holder rests.rested.at.there in
      let own = own-station w (trace_at w t) rests.place rests.holder run.stations rests.rested apart run.holder rests.holder_is in
      ap (λ (q : Present). q.left) own.2 ∙ none-left own.0 own.0.left (ap next_by (sym own.1) ∙ none)

  abbrev n : ℕ
  n = run_end run - t

  until : t + n ≡ run_end run
  until = let soon = rests.soon in omega (arith, soon)

  nothing-starts : (past : List Pair) (c : Course) (m : ℕ) → c.left ≡ [] → NoneStarts c past m
  nothing-starts past c m empty entry later left = absurd (no-entry c.left entry later empty left)
    where
      no-entry : (xs : List Entry) (x : Entry) (ys : List Entry) → xs ≡ [] → xs ≡ x ∷ ys → ⊥
      no-entry xs x ys is are = cc

  lasts : (shown_at w (t + n) ≡ quiet_pairs n ++ shown_at w t) × Rested w (trace_at w (t + n)) rests.place rests.holder run.stations
      × (course_of w rests.holder (shown_at w (t + n)) ≡ course_of w rests.holder (shown_at w t))
      × (quiet_from (shown_at w (t + n)) ≡ quiet_from (shown_at w t)) × Passage w t (t + n) nothing_happens
  lasts =
      let quiet = rests.quiet in
      rest-lasts w t n rests.place rests.holder run.stations rests.rested (nothing-starts (shown_at w t) (course_of w rests.holder (shown_at w t)) n nothing-left)
      stays (inr (omega (arith, until, quiet)))

  rests-then : RunRests w (t + n) run
  rests-then = record {
    place = rests.place;
    holder = rests.holder;
    holder_is = rests.holder_is;
    rested = lasts.1;
    opening = ap (λ (d : Course). d.opening) lasts.2 ∙ rests.opening;
    quiet = lasts.3 ∙ rests.quiet;
    soon = omega (arith, until);
    shows = shows-later w t (t + n) run [] rests.shows lasts.4;
  }

  pub rests-over : RunRests w (run_end run) run
  rests-over = subst (λ u. RunRests w u run) until rests-then

-- ---- then it is over

module _ (w : Scenario) (run : Run) (accepted : IsAccepted w.plan) (stays : StaysFrom w (run_end run)) (plan : PlanData) (own : List StationData) (of : IsRunAmong plan own run) (rests : RunRests w (run_end run) run)
    (none : next_item run ≡ None) where
  abbrev past : List Pair
  past = shown_at w (run_end run)

  abbrev done : StationData → Bool
  done station = is_done w.lag w.plan w.loads w.outside w.absent past station

  abbrev c : Course
  c = course_of w rests.holder past

  never-taking : (tick : ℕ) → c.opening ≡ taking tick → ⊥
  never-taking tick here =
      let some : IsSome (next_item run) = of.taken tick (sym rests.opening ∙ here) in none-there (next_item run) none some
    where
      none-there : {X : Type 0} (o : Option X) → o ≡ None → IsSome o → ⊥
      none-there o is some = absurd (cc)

  abbrev done_by : Bool → Bool → Bool → Bool → Option ℕ → Bool
  done_by here holds idle some taken = not here || ((not holds || (idle && not some)) && is_none (if holds then taken else None))

  holder-done : done rests.holder ≡ true
  holder-done =
      ap (λ b. done_by b c.holds (is_none c.runs) (has_items c.left) (taking_from (length past) c.opening)) rests.rested.at.present
      ∙ ap (λ b. done_by true b (is_none c.runs) (has_items c.left) (taking_from (length past) c.opening)) rests.rested.holds
      ∙ ap (λ o. done_by true true (is_none o) (has_items c.left) (taking_from (length past) c.opening)) rests.rested.idle
      ∙ ap (λ l. done_by true true true (has_items l) (taking_from (length past) c.opening)) (nothing-left w (run_end run) run accepted stays rests none)
      ∙ ap (λ o. done_by true true true false o) (not-taken c.opening (length past) never-taking)

  serving-done : (other : ℕ) (station : StationData) → IsPresentAt w other station → other ≢ rests.place → done station ≡ true
  serving-done other station at apart =
      let d : Course = course_of w station past in
      ap (λ b. done_by b d.holds (is_none d.runs) (has_items d.left) (taking_from (length past) d.opening)) at.present
      ∙ ap (λ b. done_by true b (is_none d.runs) (has_items d.left) (taking_from (length past) d.opening))
      (rests.rested.others other station at apart).serves.serves

  present-done : (other : ℕ) (station : StationData) → IsPresentAt w other station → done station ≡ true
  present-done other station at = elim (cases_eq other rests.place) [
    | inl same ↦ (let there : slice_get w.plan.stations rests.place ≡ Some station = ap (slice_get w.plan.stations) (sym same) ∙ at.there in
        ap done (sym (same_Some rests.holder station (sym rests.rested.at.there ∙ there))) ∙ holder-done)
    | inr apart ↦ serving-done other station at apart
  ]

  each-done : (other : ℕ) (station : StationData) → slice_get w.plan.stations other ≡ Some station → done station ≡ true
  each-done other station there = elim (cases_Bool (is_present w.absent station)) [
    | inl here ↦ present-done other station record { there = there; present = here }
    | inr away ↦ (let d : Course = course_of w station past in
        ap (λ b. done_by b d.holds (is_none d.runs) (has_items d.left) (taking_from (length past) d.opening)) away)
  ]

  quiet-long : quiet_both past ≡ ending_quiet
  quiet-long =
      let long = long-at w (run_end run) stays in
      let within = quiet-within past in
      let quiet = rests.quiet in
      omega (arith, long, within, quiet)

  long-enough : nat_le ending_quiet (quiet_both past) ≡ true
  long-enough = ap (nat_le ending_quiet) quiet-long

  pub is-over : is_over_at w (run_end run) ≡ true
  is-over =
      ap (λ b. b && list_all done w.plan.stations) long-enough ∙ all-so done w.plan.stations each-done
