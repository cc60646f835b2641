-- The world of a plan does what its run says.
use Rattle.std.proofs.Common.{◌≡◌, ◌⊎◌, inl, inr, Bool, true, false, Some, ℕ, suc, ◌*◌, ◌<◌, ◌≤◌, List, [], ◌∷◌, length, map, None, refl, sym, ap, ◌∙◌, subst, arith}
use Rattle.std.proofs.lemmas.List.{append-nil, length-map, length-reverse}
use Rattle.std.specs.Prelude.{◌==◌, if◌then◌else◌, reverse, filter_map, flat_map, slice_get}
use Rattle.std.specs.List.{AllByRecursion as Each}
use Rattle.bus_base.specs.declared.samples.Channel.{Channel}
use Rattle.bus_line.specs.Past.{end_of}
use Rattle.bus_line.specs.Channels.{WholeBurst, valid, bursts}
use Rattle.bus_line.specs.declared.cutter.TheConstants.{LAG}
use Rattle.bus_formats.specs.Accepted.{IsAccepted}
use Rattle.bus_formats.specs.Plans.{StationData, PlanData}
use Rattle.bus_formats.specs.declared.log.Heard.{Heard}
use Rattle.bus_model.specs.Log.{delivered_to, words_of, run_log, is_before, with_entry, in_order}
use Rattle.bus_model.specs.Message.{Delivered}
use Rattle.bus_model.specs.Starts.{starts}
use Rattle.bus_model.specs.Run.{run_of, Run, most_attempts}
use Rattle.bus_model.specs.Strikes.{ShownBurst, burst_ticks}
use Rattle.bus_model.specs.World.{world, ticks_on, run_is_over}
use Rattle.bus_model.specs.WorldLog.{world_log, heard_word}
use Rattle.bus_law_listing.proofs.Words.{listed-words}
use Rattle.bus_law_plans.specs.Bounds.{IsWithinBounds}
use Rattle.bus_law_plans.specs.Sent.{IsDeliveredIn}
use Rattle.bus_law_plans.proofs.AllDelivered.{all-delivered}
use Rattle.bus_law_plans.proofs.Bounded.{each-reverse}
use Rattle.bus_law_plans.proofs.EachRun.{run-within}
use Rattle.bus_law_plans.proofs.Lists.{each-map}
use Rattle.bus_law_table.specs.Happened.{block_at, burst_found}
use Rattle.bus_law_phases.specs.Scenarios.{Scenario, IsPresentAt, shown_at, attempts_in, blocks_in, IsWhole}
use Rattle.bus_law_run.specs.Blocks.{deliveries_of, IsHeardUntil}
use Rattle.bus_law_run.specs.RunShows.{RunRests}
use Rattle.bus_law_run.specs.WholeRun.{IsAcceptedScenario}
use Rattle.bus_law_run.specs.WorldIsRun.{plan_scenario, plan_run, plan_end, IsWithin, IsSentTo, block_after, WorldIsRun}
use Rattle.bus_law_run.proofs.BlocksInWorld.{stays-or-so}
use Rattle.bus_law_run.proofs.DeliveriesFound.{deliveries-found}
use Rattle.bus_law_run.proofs.Fronts.{attempts-front, bursts-front, words-front, front-few, front-each, ordered-long}
use Rattle.bus_law_run.proofs.LogFound.{log-found}
use Rattle.bus_law_phases.proofs.Staying.{is-whole}
use Rattle.bus_law_run.proofs.Shows.{whole-attempts, whole-blocks, whole-orderly}

-- the bus of an accepted plan
pub plan-scenario : (plan : PlanData) → IsAccepted plan → IsAcceptedScenario (plan_scenario plan)
plan-scenario plan accepted =
    record { bus = record { lag = refl; accepted = accepted; blocks = tt }; whole = is-whole LAG plan [] [] [] (λ other st at tick low. refl) }

-- a fact of each entry is one of each in order
module _ {X : Type 0} (tick_of : X → ℕ) (channel_of : X → Channel) (P : X → Type 0) where
  either-each : (b : Bool) (ys zs : List X) → Each P ys → Each P zs → Each P (if b then ys else zs)
  either-each true ys zs first second = first
  either-each false ys zs first second = second

  with-each : (y : X) (ys : List X) → P y → Each P ys → Each P (with_entry tick_of channel_of y ys)
  with-each y [] one all = (one, tt)
  with-each y (z ∷ ys) one all =
      either-each (is_before (tick_of y) (channel_of y) (tick_of z)) (y ∷ z ∷ ys) (z ∷ with_entry tick_of channel_of y ys) (one, all)
      (all.0, with-each y ys one all.1)

  each-ordered : (xs : List X) → Each P xs → Each P (in_order tick_of channel_of xs)
  each-ordered [] each = tt
  each-ordered (x ∷ xs) each = with-each x (in_order tick_of channel_of xs) each.0 (each-ordered xs each.1)

-- ---- how much there is at the end

module _ (w : Scenario) (whole : IsWhole w) (t most : ℕ) (run : Run) (small : w.lag ≤ 39) (rests : RunRests w t run) (bounds : IsWithinBounds w.plan most run) where
  attempts-few : length (attempts_in w (shown_at w t)) ≤ most
  attempts-few =
      let long : length (attempts_in w (shown_at w t)) ≡ length run.attempts =
      ap length (sym (append-nil (attempts_in w (shown_at w t))) ∙ whole-attempts w whole t run [] rests.shows) ∙ length-reverse run.attempts in
      omega (arith, long, bounds.attempts)

  bursts-few : length (bursts w.lag (shown_at w t)) ≤ 3 * most
  bursts-few =
      let long : length (bursts w.lag (shown_at w t)) ≡ length run.bursts =
      ap length rests.shows.bursts_are
      ∙ ordered-long (λ (whole : WholeBurst). end_of whole.burst) (λ (whole : WholeBurst). whole.channel) (map burst_found (reverse run.bursts))
      ∙ length-map (reverse run.bursts) burst_found ∙ length-reverse run.bursts in
      omega (arith, long, bounds.bursts)

  words-few : length (valid w.lag (shown_at w t)) ≤ 120 * most
  words-few =
      let words : List Heard = flat_map words_of (reverse run.bursts) in
      let long : length (valid w.lag (shown_at w t)) ≡ length words =
      sym (length-map (valid w.lag (shown_at w t)) heard_word)
      ∙ ap length (listed-words w.lag (shown_at w t) (reverse run.bursts) rests.shows.bursts_are small rests.rested.rests)
      ∙ ordered-long (λ (h : Heard). h.tick.0) (λ (h : Heard). h.channel) words in
      omega (arith, long, bounds.words)

  all-short : Each (λ (whole : WholeBurst). whole.burst.ticks ≤ 1600) (bursts w.lag (shown_at w t))
  all-short =
      subst (Each (λ (whole : WholeBurst). whole.burst.ticks ≤ 1600)) (sym rests.shows.bursts_are)
      (each-ordered (λ (whole : WholeBurst). end_of whole.burst) (λ (whole : WholeBurst). whole.channel)
      (λ (whole : WholeBurst). whole.burst.ticks ≤ 1600) (map burst_found (reverse run.bursts))
      (each-map (λ (whole : WholeBurst). whole.burst.ticks ≤ 1600) burst_found (reverse run.bursts)
      (each-reverse (λ (burst : ShownBurst). burst_ticks burst ≤ 1600) run.bursts bounds.short)))

-- ---- the bus of a plan, of which the run rests when it is over

module _ (plan : PlanData) (accepted : IsAccepted plan) (rests : RunRests (plan_scenario plan) (plan_end plan) (plan_run plan))
    (over : run_is_over LAG plan [] [] [] (plan_end plan) ≡ true)
    (heard : IsHeardUntil (plan_scenario plan) (plan_end plan)) where
  abbrev w : Scenario
  w = plan_scenario plan

  abbrev end : ℕ
  end = plan_end plan

  all : IsWhole w
  all = (plan-scenario plan accepted).whole

  bounds : IsWithinBounds plan (most_attempts plan) (plan_run plan)
  bounds = run-within LAG plan [] (omega arith) accepted

  within : (t : ℕ) → t ≤ end → IsWithin plan t
  within t early =
      let attempts = front-few (attempts_in w (shown_at w t)) (attempts_in w (shown_at w end)) (attempts-front w 0 all.stays t end (omega arith) early) in
      let shown = front-few (bursts w.lag (shown_at w t)) (bursts w.lag (shown_at w end)) (bursts-front w 0 all.stays t end (omega arith) early) in
      let words = front-few (valid w.lag (shown_at w t)) (valid w.lag (shown_at w end)) (words-front w 0 all.stays t end (omega arith) early) in
      record {
        attempts_few = omega (arith, attempts, attempts-few w all end (most_attempts plan) (plan_run plan) (omega arith) rests bounds);
        bursts_few = omega (arith, shown, bursts-few w all end (most_attempts plan) (plan_run plan) (omega arith) rests bounds);
        words_few = omega (arith, words, words-few w all end (most_attempts plan) (plan_run plan) (omega arith) rests bounds);
        short = front-each (λ (whole : WholeBurst). whole.burst.ticks ≤ 1600) (bursts w.lag (shown_at w t)) (bursts w.lag (shown_at w end))
            (bursts-front w 0 all.stays t end (omega arith) early) (all-short w all end (most_attempts plan) (plan_run plan) (omega arith) rests bounds);
      }

  log : world_log LAG plan end ≡ run_log LAG plan
  unfolding world_log run_log
  log = log-found w all (plan_run plan) (omega arith) rests

  -- ---- the receive blocks

  all-sent : (plan_run plan).counted ≡ true → Each (IsDeliveredIn LAG [] plan (most_attempts plan)) (blocks_in w (shown_at w end))
  unfolding run_of
  all-sent counted =
      subst (Each (IsDeliveredIn LAG [] plan (most_attempts plan))) (sym (whole-blocks w all end (plan_run plan) [] rests.shows))
      (each-reverse (IsDeliveredIn LAG [] plan (most_attempts plan)) (plan_run plan).deliveries
      (all-delivered LAG plan [] (most_attempts plan) accepted counted))

  whole : (plan_run plan).counted ≡ true → (t : ℕ) → t < end → (place : ℕ) (station : StationData) → slice_get plan.stations place ≡ Some station →
      (sub : ℕ) → (block_after plan station (suc t) sub ≡ block_after plan station t sub) ⊎ IsSentTo plan station t sub (block_after plan station (suc t) sub)
  unfolding ticks_on
  whole counted t early place station there sub =
      let here : IsPresentAt w place station = record { there = there; present = refl } in
      elim (stays-or-so w all end (IsDeliveredIn LAG [] plan (most_attempts plan)) (all-sent counted) t early place station here _ refl
      (heard t early place station here _ refl) sub) [
        | inl same ↦ inl same
        | inr new ↦ inr record {
          block = block_at t new.1 station new.0;
          address = refl;
          tick = refl;
          subaddress = new.3;
          words_are = new.4;
          sent = new.2;
        }
      ]

  deliveries : (place : ℕ) (station : StationData) → slice_get plan.stations place ≡ Some station →
      deliveries_of LAG station (starts plan station) [] [] (world LAG plan [] [] [] end) ≡ delivered_to station.terminal.address (plan_run plan)
  deliveries place station there =
      let here : IsPresentAt w place station = record { there = there; present = refl } in
      sym (deliveries-found w (plan-scenario plan accepted) refl end place station here (λ t early. heard t early place station here) end (omega arith))
      ∙ ap (λ ds. filter_map (λ (d : Delivered). if d.address == station.terminal.address then Some d.delivery else None) ds) (whole-blocks w all end (plan_run plan) [] rests.shows)

  pub whole-world : WorldIsRun plan
  whole-world = record {
    log = log;
    over = over;
    orderly = λ t before. whole-orderly w all end (plan_run plan) [] rests.shows t before;
    blocks = whole-blocks w all end (plan_run plan) [] rests.shows;
    deliveries = deliveries;
    whole = whole;
    ends = bounds.ticks;
    within = within;
  }
