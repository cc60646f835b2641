-- The run stands after one attempt more, by what its message left.
use Rattle.std.proofs.Common.{◌≡◌, inl, inr, ℕ, ◌+◌, ◌<◌, ◌≤◌, List, [], ◌∷◌, ◌++◌, map, Option, Some, None, refl, sym, ap, ◌∙◌, subst}
use Rattle.std.proofs.lemmas.List.{append-nil}
use Rattle.std.specs.Prelude.{find}
use Rattle.bus_line.specs.Channels.{bursts, WholeBurst}
use Rattle.bus_formats.specs.Plans.{StationData}
use Rattle.bus_formats.specs.Times.{ending_quiet, taking_over}
use Rattle.bus_formats.specs.declared.form.Outcome.TheVariants.{Yielded}
use Rattle.bus_formats.specs.declared.log.Attempt.{Attempt}
use Rattle.bus_retry.specs.Retries.{next_of}
use Rattle.bus_model.specs.Attempts.{Begun, Ended, without_words}
use Rattle.bus_model.specs.Course.{Course}
use Rattle.bus_model.specs.Endings.{Passing}
use Rattle.bus_model.specs.Message.{Present, Message, abandoned_bursts}
use Rattle.bus_model.specs.Run.{Run, Next, next_item, is_at, left_at, with_station, after_attempt, pass_control, quiet_after, ended_attempt, attempt}
use Rattle.bus_model.specs.Starts.{planned_at}
use Rattle.bus_model.specs.Strikes.{ShownBurst}
use Rattle.bus_law_listing.specs.Listing.{burst_found, found_in_order}
use Rattle.bus_law_phases.specs.Commands.{begun_at, command_at, attempt_recorded}
use Rattle.bus_law_phases.specs.Rests.{Rested}
use Rattle.bus_law_phases.specs.Scenarios.{Scenario, trace_at, shown_at, course_of}
use Rattle.bus_law_moments.specs.Doubts.{RestedInDoubt, attempt_yielded}
use Rattle.bus_law_moments.specs.OldAnswers.{BesideOldAnswer}
use Rattle.bus_law_moments.specs.Told.{message_at, attempt_at, stations_after, stations_passed, HasTaken, MessageShows, WaitsFor, MessageTold, ControlPassed, ControlYielded, AnswerAbandoned, IsTold}
use Rattle.bus_law_run.specs.RunShows.{RunShows}
use Rattle.bus_law_whole.specs.RunStands.{IsQuietSince, RunStands}
use Rattle.bus_law_whole.proofs.BurstsInOrder.{found-all, quiet-same}
use Rattle.bus_law_whole.proofs.HasBegun.{HasBegun, attempt-is}
use Rattle.bus_law_whole.proofs.MessagesBeside.{with_bursts}
use Rattle.bus_law_whole.proofs.MoreShown.{with_attempt, more-shown}
use Rattle.bus_law_whole.proofs.Passes.{left-same, passed-shows}

-- stations that are the same may stand for one another, and the one in doubt stays
doubt-with : (w : Scenario) (u to : ℕ) (taker : StationData) (begun : Begun) (x : ℕ) (xs ys : List Present) → xs ≡ ys →
    (moment : RestedInDoubt w (trace_at w u) to taker xs begun x) →
    (later : RestedInDoubt w (trace_at w u) to taker ys begun x) × (later.offerer ≡ moment.offerer)
doubt-with w u to taker begun x xs ys same moment =
    subst (λ zs. (later : RestedInDoubt w (trace_at w u) to taker zs begun x) × (later.offerer ≡ moment.offerer)) same (moment, refl)

module _ (w : Scenario) (now place : ℕ) (holder : StationData) (run : Run) (next : Next) (pending : List Attempt) (found : List ShownBurst)
    (has : HasBegun w now place holder run next pending found) where
  abbrev begun : Begun
  begun = begun_at w now now holder next.entry

  abbrev command : ShownBurst
  command = command_at w now now holder next.entry

  abbrev told : Message
  told = message_at w now holder run.stations next.entry

  abbrev old : List ShownBurst
  old = abandoned_bursts run.runs_on command

  abbrev m : Message
  m = with_bursts old told

  -- the run after the attempt, before control passes
  abbrev r : Run
  r = with_attempt run begun m

  abbrev this : Attempt
  this = attempt_recorded run.holder begun m.ending.ended m.ending.tick

  attempt-same : attempt_at w now holder run.stations next.entry ≡ this
  attempt-same = ap (λ a. attempt_recorded a begun m.ending.ended m.ending.tick) has.holder_is

  -- the run's stations after it
  stations-are : stations_after w now holder run.stations next.entry ≡ r.stations
  stations-are =
      ap (λ a. with_station a (after_attempt begun m.ending.ended.outcome (next_of begun.entry.item begun.state m.ending.ended.outcome)) m.stations)
      has.holder_is

  passed-are : (to : ℕ) → stations_passed holder.terminal.address to (stations_after w now holder run.stations next.entry) ≡ stations_passed run.holder to r.stations
  passed-are to =
      ap (λ a. stations_passed a to (stations_after w now holder run.stations next.entry)) has.holder_is ∙ ap (stations_passed run.holder to) stations-are

  -- ---- what is found by then

  module _ (over : ℕ) (ended after : List Attempt) (shows : MessageShows w now holder run.stations next.entry over found ended)
      (whole : ended ++ after ≡ pending ++ this ∷ []) where
    bursts-are : m.bursts ≡ old ++ (command ∷ shows.answers)
    bursts-are = ap (λ xs. old ++ xs) shows.bursts_are

    ordered : map burst_found (found ++ shows.answers) ≡ found_in_order (map burst_found m.bursts)
    ordered =
        let before : List WholeBurst = bursts w.lag (shown_at w now) in
        ap (λ (f : List ShownBurst). map burst_found (f ++ shows.answers)) has.found_is
        ∙ found-all w.lag (shown_at w over) before old shows.answers command
        (shows.passage.bursts_are ∙ ap (λ (f : List ShownBurst). before ++ map burst_found (f ++ shows.answers)) has.found_is)
        ∙ ap (λ bs. found_in_order (map burst_found bs)) (sym bursts-are)

    more : RunShows w over r after
    more = more-shown w now over run begun m pending ended after (found ++ shows.answers) has.shows shows.passage whole ordered

    quiet-is : quiet_after (found ++ shows.answers) ≡ r.quiet_from
    quiet-is =
        ap (λ (f : List ShownBurst). quiet_after (f ++ shows.answers)) has.found_is ∙ quiet-same run.runs_on command shows.answers
        ∙ ap quiet_after (sym bursts-are)

    over-soon : (station : StationData) → WaitsFor w now holder run.stations next.entry over station (found ++ shows.answers) →
        over ≤ r.quiet_from + ending_quiet
    over-soon station waits = subst (λ (q : ℕ). over ≤ q + ending_quiet) quiet-is waits.soon

    since : (station : StationData) → WaitsFor w now holder run.stations next.entry over station (found ++ shows.answers) → IsQuietSince w over r
    since station waits = record {
      quiet = waits.quiet ∙ quiet-is;
      soon = λ none. over-soon station waits;
    }

  -- ---- the run after it

  abbrev Stands : ℕ → Option Passing → Type 0
  Stands u passes = RunStands w u (pass_control passes r)

  ended-with : (pending ++ attempt_at w now holder run.stations next.entry ∷ []) ++ [] ≡ pending ++ this ∷ []
  ended-with = append-nil (pending ++ attempt_at w now holder run.stations next.entry ∷ []) ∙ ap (λ a. pending ++ a ∷ []) attempt-same

  after-told : (t : MessageTold w now holder run.stations next.entry place pending found) → Stands t.over None
  after-told t = record {
    place = place;
    holder = holder;
    holder_is = has.holder_is;
    opening = ap (λ (d : Course). d.opening) t.closes;
    retry = ap (λ (d : Course). d.retry) t.closes;
    origin = ap (λ (d : Course). d.origin) t.closes ∙ has.origin;
    early = t.waits.early;
    pending = [];
    shows = more t.over _ [] t.shows ended-with;
    moment = inl record {
      rested = subst (Rested w (trace_at w t.over) place holder) stations-are t.rested;
      runs_on = t.runs_on;
      pending_is = refl;
      since = since t.over _ [] t.shows ended-with holder t.waits;
    };
  }

  after-abandoned : (t : AnswerAbandoned w now holder run.stations next.entry place pending found) → Stands t.over None
  after-abandoned t = record {
    place = place;
    holder = holder;
    holder_is = has.holder_is;
    opening = ap (λ (d : Course). d.opening) t.closes;
    retry = ap (λ (d : Course). d.retry) t.closes;
    origin = ap (λ (d : Course). d.origin) t.closes ∙ has.origin;
    early = t.early;
    pending = [];
    shows = more t.over _ [] t.shows ended-with;
    moment = inr (inr record {
      old = t.old;
      beside = subst (λ xs. BesideOldAnswer w t.over place holder xs t.old) stations-are t.beside;
      runs_on = t.runs_on;
      pending_is = refl;
    });
  }

  -- ---- control passes

  abbrev passing : StationData → ℕ → Option Passing
  passing taker tick = Some record { address = taker.terminal.address; tick = tick }

  origin-after : (u tick : ℕ) (taker : StationData) → HasTaken w u taker (stations_after w now holder run.stations next.entry) tick →
      (course_of w taker (shown_at w u)).origin ≡ (pass_control (passing taker tick) r).origin
  origin-after u tick taker taken =
      let a : ℕ = taker.terminal.address in
      taken.origin ∙ ap (λ xs. planned_at tick (left_at (find (is_at a) xs))) stations-are
      ∙ ap (planned_at tick) (sym (left-same a run.holder r.stations))

  after-passed : (t : ControlPassed w now holder run.stations next.entry place pending found) → Stands t.over (passing t.taker t.tick)
  after-passed t = record {
    place = t.to;
    holder = t.taker;
    holder_is = refl;
    opening = t.taken.opens;
    retry = t.taken.retry;
    origin = origin-after t.over t.tick t.taker t.taken;
    early = t.waits.early;
    pending = [];
    shows = passed-shows w t.over r [] (passing t.taker t.tick) (more t.over _ [] t.shows ended-with);
    moment =
        let quiet = since t.over _ [] t.shows ended-with t.taker t.waits in
        inl record {
          rested = subst (Rested w (trace_at w t.over) t.to t.taker) (passed-are t.taker.terminal.address) t.rested;
          runs_on = t.runs_on;
          pending_is = refl;
          since = record { quiet = quiet.quiet; soon = λ none. over-soon t.over _ [] t.shows ended-with t.taker t.waits };
        };
  }

  yielded-same : (x : ℕ) (offerer : StationData) → offerer ≡ holder → told.ending.ended ≡ without_words Yielded None None →
      told.ending.tick ≡ x + taking_over → attempt_yielded offerer begun x ≡ this
  yielded-same x offerer is ended tick =
      ap (λ (s : StationData). attempt_yielded s begun x) is
      ∙ ap (λ a. attempt_recorded a begun (without_words Yielded None None) (x + taking_over)) has.holder_is
      ∙ ap (λ (e : Ended). attempt_recorded run.holder begun e (x + taking_over)) (sym ended)
      ∙ ap (attempt_recorded run.holder begun told.ending.ended) (sym tick)

  after-yielded : (t : ControlYielded w now holder run.stations next.entry place pending found) → Stands t.over (passing t.taker (t.x + taking_over))
  after-yielded t =
      let yields : attempt_yielded t.rested.offerer begun t.x ≡ this = yielded-same t.x t.rested.offerer t.offerer_is t.ended_is t.tick_is in
      let whole : pending ++ attempt_yielded t.rested.offerer begun t.x ∷ [] ≡ pending ++ this ∷ [] = ap (λ a. pending ++ a ∷ []) yields in
      let doubt = doubt-with w t.over t.to t.taker begun t.x _ _ (passed-are t.taker.terminal.address) t.rested in
      let quiet = since t.over pending (attempt_yielded t.rested.offerer begun t.x ∷ []) t.shows whole t.taker t.waits in
      record {
        place = t.to;
        holder = t.taker;
        holder_is = refl;
        opening = t.taken.opens;
        retry = t.taken.retry;
        origin = origin-after t.over (t.x + taking_over) t.taker t.taken;
        early = t.waits.early;
        pending = attempt_yielded t.rested.offerer begun t.x ∷ [];
        shows = passed-shows w t.over r (attempt_yielded t.rested.offerer begun t.x ∷ []) (passing t.taker (t.x + taking_over))
            (more t.over pending (attempt_yielded t.rested.offerer begun t.x ∷ []) t.shows whole);
        moment = inr (inl record {
          begun = begun;
          x = t.x;
          rested = doubt.0;
          runs_on = t.runs_on;
          pending_is = ap (λ (s : StationData). attempt_yielded s begun t.x ∷ []) (sym doubt.1);
          since = record {
            quiet = quiet.quiet;
            soon = λ none. over-soon t.over pending (attempt_yielded t.rested.offerer begun t.x ∷ []) t.shows whole t.taker t.waits;
          };
        });
      }

  -- ---- in any case

  abbrev Goes : Type 0
  Goes = (u : ℕ) × (now < u) × RunStands w u (ended_attempt w.lag w.loads w.plan.faults run begun m)

  goes-by : (u : ℕ) (passes : Option Passing) → now < u → told.ending.passes ≡ passes → Stands u passes → Goes
  goes-by u passes later is stands = (u, later, subst (Stands u) (sym is) stands)

  goes : IsTold w now holder run.stations next.entry place pending found → Goes
  goes (inl t) = goes-by t.over None t.shows.later t.passes (after-told t)
  goes (inr (inl t)) = goes-by t.over (passing t.taker t.tick) t.shows.later t.passes (after-passed t)
  goes (inr (inr (inl t))) = goes-by t.over (passing t.taker (t.x + taking_over)) t.shows.later t.passes (after-yielded t)
  goes (inr (inr (inr t))) = goes-by t.over None t.shows.later t.passes (after-abandoned t)

  pub next-stands : next_item run ≡ Some next → (u : ℕ) × (now < u) × RunStands w u (attempt w.lag w.loads w.plan.faults run)
  next-stands given =
      let then = goes has.told in
      (then.0, then.1, subst (RunStands w then.0) (sym (attempt-is w now place holder run next pending found has given)) then.2)
