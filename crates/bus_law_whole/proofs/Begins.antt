-- The next message of a run begins, from whatever moment, and is told.
use Rattle.std.proofs.Common.{◌≡◌, inl, inr, ℕ, ◌+◌, ◌-◌, ◌≤◌, true, List, [], ◌∷◌, ◌++◌, length, Option, Some, None, refl, sym, ap, ◌∙◌, subst, arith}
use Rattle.std.proofs.lemmas.Option.{same_Some}
use Rattle.std.specs.Prelude.{not, ◌&&◌, ◌||◌, is_none, ◌==◌, IfSome, IsSomeAnd}
use Rattle.std.specs.List.{AllByRecursion as Each}
use Rattle.bus_base.specs.Samples.{other_of}
use Rattle.bus_base.specs.declared.samples.Pair.{Pair}
use Rattle.bus_base.specs.declared.samples.Channel.{Channel}
use Rattle.bus_formats.specs.Accepted.{HasTerminalRanges, HasStationRanges, HasSuperseding, Supersedes}
use Rattle.bus_formats.specs.Plans.{StationData, PlanData}
use Rattle.bus_formats.specs.Times.{taking_over}
use Rattle.bus_retry.specs.declared.RetryState.{RetryState}
use Rattle.bus_model.specs.Attempts.{Begun}
use Rattle.bus_model.specs.Course.{Course, quiet_from}
use Rattle.bus_model.specs.Message.{Present, abandoned_bursts}
use Rattle.bus_model.specs.Run.{Run, Next, next_item}
use Rattle.bus_model.specs.Starts.{Entry, Opening, superseding, taking, Origin, has_items, start_of, state_of}
use Rattle.bus_model.specs.Strikes.{ShownBurst, ShownAnswer}
use Rattle.bus_law_messages.specs.Settled.{NoneStarts}
use Rattle.bus_law_plans.specs.Entries.{items_of, IsEntryOf, AreNamedApart, IsStationOf, IsRunAmong, IsNext, IsSupersededNext, KeepsSuperseding}
use Rattle.bus_law_plans.specs.Memories.{HasWordRanges, KeepsWordRanges}
use Rattle.bus_law_plans.specs.Sent.{begun_of}
use Rattle.bus_law_plans.proofs.Lists.{each-both, zip-with, zip-second}
use Rattle.bus_law_plans.proofs.Nexts.{next-of}
use Rattle.bus_law_stations.specs.Messages.{message_begun}
use Rattle.bus_law_phases.specs.Commands.{begun_at, command_at}
use Rattle.bus_law_phases.specs.Passages.{Passage, nothing_happens}
use Rattle.bus_law_phases.specs.Scenarios.{Scenario, shown_at, course_of, StaysFrom}
use Rattle.bus_law_phases.specs.Silences.{SomeoneIsBusy}
use Rattle.bus_law_phases.proofs.Passing.{none-passed}
use Rattle.bus_law_phases.proofs.SilencedRest.{rest-lasts}
use Rattle.bus_law_moments.specs.Begun.{IsRanged, MessageBegan}
use Rattle.bus_law_moments.specs.Doubts.{attempt_yielded}
use Rattle.bus_law_moments.specs.Told.{IsTold}
use Rattle.bus_law_moments.proofs.Rests.{began-rested}
use Rattle.bus_law_run.specs.WholeRun.{IsAcceptedBus}
use Rattle.bus_law_run.proofs.OwnStation.{stations-apart}
use Rattle.bus_law_run.proofs.Shows.{shows-later}
use Rattle.bus_law_whole.specs.Messages.{shown_in_order, StartsMessage, MessagesAreTold}
use Rattle.bus_law_whole.specs.RunStands.{IsBetween, IsBetweenInDoubt, IsBeside, RunStands, MayGoOn}
use Rattle.bus_law_whole.proofs.HasBegun.{HasBegun}
use Rattle.bus_law_whole.proofs.MomentStation.{IsFound, found-in}
use Rattle.bus_law_phases.proofs.Staying.{long-at, long-later, stays-later}

-- the ticks from one to a later one
between : (t s : ℕ) → t ≤ s → t + (s - t) ≡ s
between t s later = omega (arith, later)

-- the stations of a run are in the ranges of its plan
stations-ranged : (plan : PlanData) (own : List StationData) (run : Run) → Each HasStationRanges own → IsRunAmong plan own run → KeepsWordRanges run →
    Each IsRanged run.stations
stations-ranged plan own run ranges of words =
    let Planned : Present → Type 0 = λ s. HasTerminalRanges s.plan.terminal in
    let Of : StationData → Present → Type 0 = λ o s. IsStationOf plan (not (o.terminal.address == run.holder)) o s in
    let Beneath : StationData → Present → Type 0 = λ o s. Planned s in
    each-both Planned HasWordRanges IsRanged (λ s planned word. (planned, word)) run.stations
    (zip-second Beneath Planned (λ o s planned. planned) own run.stations
    (zip-with HasStationRanges Of Beneath (λ o s ranged at. subst (λ (p : StationData). HasTerminalRanges p.terminal) (sym at.plan_is) ranged.terminal)
    own run.stations ranges of.stations)) words

-- a run by stations of the plan may go on
pub may-go-on : (w : Scenario) (own : List StationData) (run : Run) → AreNamedApart own → Each HasStationRanges own → IsRunAmong w.plan own run →
    KeepsWordRanges run → KeepsSuperseding run → MayGoOn w run
may-go-on w own run apart ranges of words keeps = record {
  next = λ next given. next-of w.plan run next of given;
  apart = stations-apart w.plan run own of apart;
  ranged = stations-ranged w.plan own run ranges of words;
  superseding = keeps;
}

module _ (w : Scenario) (is : IsAcceptedBus w) (tells : MessagesAreTold w) (t : ℕ) (run : Run) (next : Next) (stays : StaysFrom w t)
    (fit : MayGoOn w run) (stands : RunStands w t run) (given : next_item run ≡ Some next) where
  abbrev place : ℕ
  place = stands.place

  abbrev holder : StationData
  holder = stands.holder

  abbrev past : List Pair
  past = shown_at w t

  abbrev c : Course
  c = course_of w holder past

  -- ---- the next item

  next-is : IsNext w.plan run next
  next-is = fit.next next given

  own : IsFound w is.accepted t place holder run stands.pending stands.holder_is
  own = found-in w is.accepted t place holder run stands.pending stands.holder_is stands.moment

  own-is : own.0 ≡ next.station
  own-is = same_Some own.0 next.station (sym own.1 ∙ next-is.found)

  left : c.left ≡ next.entry ∷ next-is.later
  left = ap (λ (q : Present). q.left) own.2 ∙ ap (λ (q : Present). q.left) own-is ∙ next-is.left

  live : c.live ≡ next.station.live
  live = ap (λ (q : Present). q.live) own.2 ∙ ap (λ (q : Present). q.live) own-is

  entry-of : IsEntryOf w.plan holder.terminal.address next.entry
  entry-of = subst (λ a. IsEntryOf w.plan a next.entry) (next-is.holder_is ∙ sym stands.holder_is) next-is.entry

  followed : HasSuperseding (items_of (next.entry ∷ next-is.later))
  followed = subst (λ (l : List Entry). HasSuperseding (items_of l)) next-is.left next-is.is.superseding

  -- ---- it starts in a tick u, in which the course is as it was

  starts-message : (u : ℕ) → t ≤ u → (course_of w holder (shown_at w u)).holds ≡ true → (course_of w holder (shown_at w u)).runs ≡ None →
      course_of w holder (shown_at w u) ≡ c → start_of c.opening c.retry c.origin next.entry (quiet_from (shown_at w u)) ≡ u →
      StartsMessage w u holder run.stations next.entry
  starts-message u up holds idle course starts = record {
    entry_of = entry-of;
    starts = record {
      holds = holds;
      idle = idle;
      later = next-is.later;
      left = ap (λ (d : Course). d.left) course ∙ left;
      starts = ap (λ (d : Course). start_of d.opening d.retry d.origin next.entry (quiet_from (shown_at w u))) course ∙ starts
          ∙ sym (long-later w t u up stays);
    };
    stays = stays-later w t u up stays;
    apart = fit.apart;
    ranged = fit.ranged;
  }

  -- the attempt by what it waits for
  abbrev by : Opening → Option RetryState → Origin → Channel → ℕ → Begun
  by opening retry origin channel quiet = record {
    entry = next.entry;
    state = state_of opening retry next.entry channel;
    start = start_of opening retry origin next.entry quiet;
  }

  begun-is : (u : ℕ) → course_of w holder (shown_at w u) ≡ c → start_of c.opening c.retry c.origin next.entry run.quiet_from ≡ u →
      begun_of run next ≡ begun_at w u u holder next.entry
  begun-is u course starts =
      ap (λ o. by o run.retry run.origin next.station.live run.quiet_from) (sym stands.opening)
      ∙ ap (λ r. by c.opening r run.origin next.station.live run.quiet_from) (sym stands.retry)
      ∙ ap (λ o. by c.opening c.retry o next.station.live run.quiet_from) (sym stands.origin)
      ∙ ap (λ l. by c.opening c.retry c.origin l run.quiet_from) (sym live)
      ∙ ap (λ s. record { entry = next.entry; state = state_of c.opening c.retry next.entry c.live; start = s }) starts
      ∙ ap (λ d. message_begun d next.entry u) (sym course)

  -- it has begun so
  abbrev Begins : Type 0
  Begins = (u : ℕ) × (t ≤ u) × (found : List ShownBurst) × HasBegun w u place holder run next stands.pending found

  has-begun : (u : ℕ) (found : List ShownBurst) → t ≤ u → course_of w holder (shown_at w u) ≡ c → Passage w t u nothing_happens →
      start_of c.opening c.retry c.origin next.entry run.quiet_from ≡ u →
      found ≡ shown_in_order (abandoned_bursts run.runs_on (command_at w u u holder next.entry) ++ command_at w u u holder next.entry ∷ []) →
      IsTold w u holder run.stations next.entry place stands.pending found → Begins
  has-begun u found later course passage starts found-is told = (
    u,
    later,
    found,
    record {
      holder_is = stands.holder_is;
      origin = ap (λ (d : Course). d.origin) course ∙ stands.origin;
      shows = shows-later w t u run stands.pending stands.shows passage;
      begun_is = begun-is u course starts;
      found_is = found-is;
      told = told;
    },
  )

  -- the tick in which it starts
  abbrev start : ℕ
  start = start_of c.opening c.retry c.origin next.entry (quiet_from past)

  early : t ≤ start
  early = let low = stands.early next.entry next-is.later left in omega (arith, low, long-at w t stays)

  abbrev n : ℕ
  n = start - t

  then : t + n ≡ start
  then = between t start early

  abbrev u : ℕ
  u = t + n

  abbrev command : ShownBurst
  command = command_at w u u holder next.entry

  one-found : run.runs_on ≡ None → (command ∷ []) ≡ shown_in_order (abandoned_bursts run.runs_on command ++ command ∷ [])
  one-found none = ap (λ (o : Option ShownAnswer). shown_in_order (abandoned_bursts o command ++ command ∷ [])) (sym none)

  -- ---- between two messages

  same-first : (a b : Entry) (xs ys : List Entry) → c.left ≡ a ∷ xs → c.left ≡ b ∷ ys → a ≡ b
  same-first a b xs ys first second = cc

  waits : NoneStarts c past n
  waits entry later here =
      let same : next.entry ≡ entry = same-first next.entry entry next-is.later later left here in
      subst (λ (e : Entry). length past + n ≤ start_of c.opening c.retry c.origin e (quiet_from past)) same
      (omega (arith, long-at w t stays, then))

  begins-between : IsBetween w t place holder run stands.pending → Begins
  begins-between moment =
      let busy : SomeoneIsBusy w past = record {
        place = place;
        station = holder;
        at = moment.rested.at;
        busy = ap (λ b. not b || (is_none c.runs && not (has_items c.left))) moment.rested.holds
            ∙ ap (λ o. is_none o && not (has_items c.left)) moment.rested.idle ∙ ap (λ l. not (has_items l)) left;
      } in
      let paused = rest-lasts w t n place holder run.stations moment.rested waits stays (inl busy) in
      let starts = starts-message u (omega arith) paused.1.holds paused.1.idle paused.2 (ap (start_of c.opening c.retry c.origin next.entry) paused.3 ∙ sym then) in
      let began : MessageBegan w u holder next.entry place run.stations [] (command ∷ []) =
      began-rested w u place holder run.stations next.entry is.lag is.accepted is.blocks entry-of paused.1 starts.starts starts.stays starts.apart starts.ranged in
      has-begun u (command ∷ []) (omega arith) paused.2 paused.4
      (ap (start_of c.opening c.retry c.origin next.entry) (sym moment.since.quiet) ∙ sym then) (one-found moment.runs_on)
      (subst (λ p. IsTold w u holder run.stations next.entry place p (command ∷ [])) (sym moment.pending_is)
      (tells.told u place holder run.stations next.entry next-is.later [] (command ∷ []) followed began))

  -- ---- beside a station in doubt

  starts-by : (o : Opening) (at q : ℕ) → o ≡ taking at → start_of o c.retry c.origin next.entry q ≡ at
  starts-by o at q is = ap (λ p. start_of p c.retry c.origin next.entry q) is

  begins-in-doubt : IsBetweenInDoubt w t place holder run stands.pending → Begins
  begins-in-doubt moment =
      let x : ℕ = moment.x in
      let at : start ≡ x + taking_over = starts-by c.opening (x + taking_over) (quiet_from past) moment.rested.takes in
      let lasts = tells.doubt_lasts t n place holder run.stations moment.begun x moment.rested stays (omega (arith, then, at)) in
      let later : x + taking_over ≡ u = sym at ∙ sym then in
      let starts = starts-message u (omega arith) lasts.moment.holds lasts.moment.idle lasts.course
      (starts-by c.opening (x + taking_over) (quiet_from (shown_at w u)) moment.rested.takes ∙ later) in
      let yields : attempt_yielded lasts.moment.offerer moment.begun x ∷ [] ≡ stands.pending =
      ap (λ (s : StationData). attempt_yielded s moment.begun x ∷ []) lasts.offerer_is ∙ sym moment.pending_is in
      let began : MessageBegan w u holder next.entry place run.stations (attempt_yielded lasts.moment.offerer moment.begun x ∷ []) (command ∷ []) =
      tells.begins_in_doubt u place holder run.stations next.entry moment.begun x lasts.moment starts in
      has-begun u (command ∷ []) (omega arith) lasts.course lasts.passage
      (starts-by c.opening (x + taking_over) run.quiet_from moment.rested.takes ∙ later) (one-found moment.runs_on)
      (subst (λ p. IsTold w u holder run.stations next.entry place p (command ∷ [])) yields
      (tells.told u place holder run.stations next.entry next-is.later _ (command ∷ []) followed began))

  -- ---- beside an abandoned answer

  starts-at : (o : Opening) (at q : ℕ) (channel : Channel) → o ≡ superseding at channel → start_of o c.retry c.origin next.entry q ≡ at
  starts-at o at q channel is = ap (λ p. start_of p c.retry c.origin next.entry q) is

  supersedes-by : (o : Option Next) (old : ShownAnswer) → o ≡ Some next → IsSomeAnd o (λ other. Supersedes old.sent.address other.entry.item.kind) →
      Supersedes old.sent.address next.entry.item.kind
  supersedes-by o old is known = subst (λ p. IsSomeAnd p (λ other. Supersedes old.sent.address other.entry.item.kind)) is known

  supersedes : (old : ShownAnswer) → run.runs_on ≡ Some old → Supersedes old.sent.address next.entry.item.kind
  supersedes old on =
      let known : IsSupersededNext run old = subst (λ o. IfSome o (λ answer. IsSupersededNext run answer)) on fit.superseding.followed in
      supersedes-by (next_item run) old given known.next

  begins-beside : IsBeside w t place holder run stands.pending → Begins
  begins-beside moment =
      let old : ShownAnswer = moment.old in
      let channel : Channel = other_of old.sent.channel in
      let first : ShownBurst = command_at w t t holder next.entry in
      let found : List ShownBurst = shown_in_order (abandoned_bursts (Some old) first ++ first ∷ []) in
      let starts = starts-message t (omega arith) moment.beside.holds moment.beside.idle refl (starts-at c.opening t (quiet_from past) channel moment.beside.opens) in
      let told : IsTold w t holder run.stations next.entry place [] found =
      elim (tells.begins_beside t place holder run.stations next.entry old moment.beside starts (supersedes old moment.runs_on)) [
        | inl began ↦ tells.told t place holder run.stations next.entry next-is.later [] found followed began
        | inr at-once ↦ inl at-once
      ] in
      has-begun t found (omega arith) refl (none-passed w t) (starts-at c.opening t run.quiet_from channel moment.beside.opens)
      (ap (λ (o : Option ShownAnswer). shown_in_order (abandoned_bursts o first ++ first ∷ [])) (sym moment.runs_on))
      (subst (λ p. IsTold w t holder run.stations next.entry place p found) (sym moment.pending_is) told)

  -- ---- so it begins

  pub begins : Begins
  begins = elim (stands.moment) [
    | inl moment ↦ begins-between moment
    | inr other ↦ elim other [ inl doubt ↦ begins-in-doubt doubt | inr beside ↦ begins-beside beside ]
  ]
