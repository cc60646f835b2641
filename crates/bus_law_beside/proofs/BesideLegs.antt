-- While a command is sent beside an abandoned answer nothing comes to pass but that both are sent, and every tick is in order.
use Rattle.std.proofs.Common.{◌≡◌, inl, inr, ℕ, suc, ◌+◌, ◌-◌, ◌<◌, ◌≤◌, Bool, false, List, [], ◌∷◌, ◌++◌, length, None, refl, sym, ap, ◌∙◌, subst, arith, length-append}
use Rattle.std.proofs.lemmas.List.{append-nil}
use Rattle.std.specs.Prelude.{drop, flat_map, option_map}
use Rattle.bus_base.specs.declared.samples.Channel.{Channel}
use Rattle.bus_base.specs.declared.samples.Drive.{Drive}
use Rattle.bus_base.specs.declared.samples.Pair.{Pair}
use Rattle.bus_base.specs.declared.samples.Sample.{Sample}
use Rattle.bus_formats.specs.Plans.{StationData}
use Rattle.bus_model.specs.Control.{so_far}
use Rattle.bus_model.specs.Message.{Present}
use Rattle.bus_model.specs.Starts.{Entry, starts}
use Rattle.bus_model.specs.Strikes.{ShownAnswer}
use Rattle.bus_model.specs.Transmissions.{drives_on, station_drive}
use Rattle.bus_model.specs.Wire.{shown, drivers}
use Rattle.bus_model.specs.World.{Trace, drives_after, ticks_on}
use Rattle.bus_model.specs.WorldLog.{present_stations, attempt_at, ended_by, attempts}
use Rattle.bus_law_control.proofs.Holding.{ended-before}
use Rattle.bus_law_messages.proofs.Listening.{this-or-other}
use Rattle.bus_law_parts.proofs.Counting.{count-command}
use Rattle.bus_law_table.specs.Happened.{block_at, took_in, blocks_in as blocks_now, blocks_found}
use Rattle.bus_law_table.proofs.Pairing.{none-each}
use Rattle.bus_law_phases.specs.Passages.{HoldsAlone, IsOrderly}
use Rattle.bus_law_phases.specs.Scenarios.{Scenario, trace_at, shown_at, driven_at, blocks_in, attempts_in, commands_in, course_of, standing_of, IsPresentAt, drivers_at, is_over_at}
use Rattle.bus_law_phases.proofs.Legs.{busy-goes-on}
use Rattle.bus_law_phases.proofs.Resting.{each-present, no-attempt, none-of-each}
use Rattle.bus_law_beside.specs.Beside.{BeginsBeside}
use Rattle.bus_law_beside.proofs.BesideBegins as start
use Rattle.bus_law_beside.proofs.BesideDrives as both
use Rattle.bus_law_beside.proofs.BesideKeeps as keeps
use Rattle.bus_law_beside.proofs.StopTicks.{BreaksOff}
use Rattle.bus_law_beside.proofs.TwoSenders as two
use Rattle.bus_law_phases.proofs.Staying.{ticks-later}
use Rattle.bus_law_beside.proofs.OldStations as olds

module _ (w : Scenario) (t place : ℕ) (holder : StationData) (stations : List Present) (entry : Entry) (old : ShownAnswer)
    (p : BeginsBeside w t place holder stations entry old) (o : Pair) (os : List Pair) (is_old : p.beside.ticks ≡ o ∷ os) (valid : Bool) (sends m : ℕ)
    (breaks : BreaksOff old (t - old.sent.start) valid sends m)
    (orders : both.OrdersIt w t place holder stations entry old p o os is_old valid sends m breaks) where
  abbrev past : List Pair
  past = (o ∷ os) ++ shown_at w old.sent.start

  abbrev now : Trace
  now = start.now w t place holder stations entry old p o os is_old valid sends m breaks

  abbrev limit : ℕ
  limit = start.limit w t place holder stations entry old p o os is_old valid sends m breaks

  abbrev Shows : List Pair → Type 0
  Shows ticks = both.Shows w t place holder stations entry old p o os is_old valid sends m breaks ticks

  abbrev pub Runs : ℕ → List Pair → List (List Drive) → Type 0
  Runs n ticks sent =
      two.BothRun w (trace_at w old.sent.start) (o ∷ os) p.beside.sent (start.command w t place holder stations entry old p o os is_old valid sends m breaks)
      (start.answer w t place holder stations entry old p o os is_old valid sends m breaks) sends m limit n ticks sent

  begins : two.Begins w (trace_at w old.sent.start) (o ∷ os) p.beside.sent (start.command w t place holder stations entry old p o os is_old valid sends m breaks)
      (start.answer w t place holder stations entry old p o os is_old valid sends m breaks) sends m limit
  begins = start.both-begin w t place holder stations entry old p o os is_old valid sends m breaks

  drives : two.Drives w (trace_at w old.sent.start) (o ∷ os) p.beside.sent (start.command w t place holder stations entry old p o os is_old valid sends m breaks)
      (start.answer w t place holder stations entry old p o os is_old valid sends m breaks) sends m limit
  drives = both.all-drive w t place holder stations entry old p o os is_old valid sends m breaks orders

  -- ---- the ticks

  pub ran : (n : ℕ) → n ≤ limit → (ticks : List Pair) × (sent : List (List Drive)) × Runs n ticks sent
  ran n early =
      two.both-run w (trace_at w old.sent.start) (o ∷ os) p.beside.sent (start.command w t place holder stations entry old p o os is_old valid sends m breaks)
      (start.answer w t place holder stations entry old p o os is_old valid sends m breaks) sends m limit begins drives n early

  pub shows-of : (n : ℕ) (ticks : List Pair) (sent : List (List Drive)) → n < limit → Runs n ticks sent → Shows ticks
  shows-of n ticks sent early so =
      two.shows-both w (trace_at w old.sent.start) (o ∷ os) p.beside.sent (start.command w t place holder stations entry old p o os is_old valid sends m breaks)
      (start.answer w t place holder stations entry old p o os is_old valid sends m breaks) sends m limit begins drives n ticks sent early so

  -- the next one
  abbrev pub next : List Pair → List Drive
  next ticks = drives_after w.lag w.plan w.loads w.outside w.absent (ticks ++ past)

  abbrev pub shown_then : List Pair → List (List Drive) → Pair
  shown_then ticks sent = shown w.plan.faults ((next ticks ∷ sent) ++ now.driven)

  pub more : (n : ℕ) (ticks : List Pair) (sent : List (List Drive)) → n < limit → Runs n ticks sent →
      Runs (suc n) (shown_then ticks sent ∷ ticks) (next ticks ∷ sent)
  more n ticks sent early so =
      two.both-more w (trace_at w old.sent.start) (o ∷ os) p.beside.sent (start.command w t place holder stations entry old p o os is_old valid sends m breaks)
      (start.answer w t place holder stations entry old p o os is_old valid sends m breaks) sends m limit begins drives n ticks sent early so

  pub trace-is : (n : ℕ) (ticks : List Pair) (sent : List (List Drive)) → Runs n ticks sent →
      trace_at w (t + n) ≡ record { shown = ticks ++ past; driven = sent ++ now.driven }
  trace-is n ticks sent so =
      sym (ticks-later w t n (olds.stays-now w t place holder stations entry old p))
      ∙ ap (λ tr. ticks_on w.lag w.plan w.loads w.outside w.absent tr n) (start.same-now w t place holder stations entry old p o os is_old valid sends m breaks)
      ∙ so.world

  pub shown-is : (n : ℕ) (ticks : List Pair) (sent : List (List Drive)) → Runs n ticks sent → shown_at w (t + n) ≡ ticks ++ past
  shown-is n ticks sent so = ap (λ (tr : Trace). tr.shown) (trace-is n ticks sent so)

  -- nobody drives the answer's channel once it has stopped
  pub undriven-then : (n : ℕ) (ticks : List Pair) (sent : List (List Drive)) → n < limit → Runs n ticks sent →
      sends ≤ length sent + (t - old.sent.start) → (station : ℕ) → drives_on old.sent.channel (station_drive station (next ticks)) ≡ false
  undriven-then n ticks sent early so late station =
      let all = length-append sent p.beside.sent in
      let long = (start.runs-so w t place holder stations entry old p o os is_old valid sends m breaks).long in
      two.old-undriven w (trace_at w old.sent.start) (o ∷ os) p.beside.sent (start.command w t place holder stations entry old p o os is_old valid sends m breaks)
      (start.answer w t place holder stations entry old p o os is_old valid sends m breaks) sends m limit begins drives n ticks sent early so
      (omega (arith, all, long, late)) station

  less : (x : Pair) (ticks : List Pair) → Shows (x ∷ ticks) → Shows ticks
  less x ticks so = record {
    leg = so.leg.2;
    sent = ap (λ (xs : List Sample). drop 1 xs) so.sent;
    old = ap (λ (xs : List Sample). drop 1 xs) so.old;
  }

  -- ---- no block is taken, and no attempt ends

  took-nothing : (x : Pair) (ticks : List Pair) (tick : ℕ) → Shows (x ∷ ticks) → (other : ℕ) (station : StationData) → IsPresentAt w other station →
      took_in w.lag w.plan w.loads w.outside w.absent ((x ∷ ticks) ++ past) tick station ≡ None
  took-nothing x ticks tick so other station at =
      ap (option_map (block_at tick (standing_of w station ((x ∷ ticks) ++ past)).channel station))
      (keeps.all-takes w t place holder stations entry old p o os is_old valid sends m breaks x ticks so other station at)

  pub leg-blocks : (ticks : List Pair) → Shows ticks → blocks_in w (ticks ++ past) ≡ blocks_in w past
  unfolding blocks_found
  leg-blocks [] so = refl
  leg-blocks (x ∷ ticks) so =
      let tick = length (ticks ++ past) in
      let None_of = λ (st : StationData). took_in w.lag w.plan w.loads w.outside w.absent ((x ∷ ticks) ++ past) tick st ≡ None in
      let none : blocks_now w.lag w.plan w.loads w.outside w.absent ((x ∷ ticks) ++ past) tick ≡ [] =
      none-each None_of (took_in w.lag w.plan w.loads w.outside w.absent ((x ∷ ticks) ++ past) tick) (present_stations w.lag w.plan w.loads w.outside w.absent)
      (each-present w past None_of (took-nothing x ticks tick so)) (λ st is. is) in
      ap (λ bs. blocks_in w (ticks ++ past) ++ bs) none ∙ append-nil (blocks_in w (ticks ++ past)) ∙ leg-blocks ticks (less x ticks so)

  ended-nothing : (x : Pair) (ticks : List Pair) → Shows (x ∷ ticks) → (other : ℕ) (station : StationData) → IsPresentAt w other station →
      ended_by w.lag w.plan w.loads w.outside w.absent ((x ∷ ticks) ++ past) (length (ticks ++ past)) station ≡ []
  ended-nothing x ticks so other station at =
      let long : length (ticks ++ past) ≡ length ticks + length past = length-append ticks past in
      ap (attempt_at w.lag w.plan w.loads w.outside w.absent station.terminal.address (length (ticks ++ past)))
      (keeps.all-still w t place holder stations entry old p o os is_old valid sends m breaks (x ∷ ticks) so other station at)
      ∙ no-attempt w station.terminal.address (length (ticks ++ past)) (length past) (course_of w station past).ended (omega (arith, long))
      (ended-before w.lag station (starts w.plan station) (so_far w.lag station (starts w.plan station) w.loads w.outside past).takes past)

  pub leg-attempts : (ticks : List Pair) → Shows ticks → attempts_in w (ticks ++ past) ≡ attempts_in w past
  unfolding attempts
  leg-attempts [] so = refl
  leg-attempts (x ∷ ticks) so =
      let None_of = λ (st : StationData). ended_by w.lag w.plan w.loads w.outside w.absent ((x ∷ ticks) ++ past) (length (ticks ++ past)) st ≡ [] in
      let none : flat_map (ended_by w.lag w.plan w.loads w.outside w.absent ((x ∷ ticks) ++ past) (length (ticks ++ past)))
      (present_stations w.lag w.plan w.loads w.outside w.absent) ≡ [] =
      none-of-each None_of (ended_by w.lag w.plan w.loads w.outside w.absent ((x ∷ ticks) ++ past) (length (ticks ++ past)))
      (present_stations w.lag w.plan w.loads w.outside w.absent) (each-present w past None_of (ended-nothing x ticks so)) (λ st is. is) in
      ap (λ xs. attempts_in w (ticks ++ past) ++ xs) none ∙ append-nil (attempts_in w (ticks ++ past)) ∙ leg-attempts ticks (less x ticks so)

  -- ---- each tick is in order

  next-tick : (j : ℕ) → t + suc j ≡ suc (t + j)
  next-tick j = omega arith

  pub drives-one : (j : ℕ) → j < limit → (a : Channel) → drivers_at w (t + j) a ≤ 1
  drives-one j early a =
      let so = ran j (omega (arith, early)) in
      let then : Runs (suc j) (shown_then so.0 so.1 ∷ so.0) (next so.0 ∷ so.1) = more j so.0 so.1 early so.2 in
      let driven : driven_at w (t + suc j) ≡ (next so.0 ∷ so.1) ++ now.driven = ap (λ (tr : Trace). tr.driven) (trace-is (suc j) _ _ then) in
      let command = start.command w t place holder stations entry old p o os is_old valid sends m breaks in
      let answer = start.answer w t place holder stations entry old p o os is_old valid sends m breaks in
      subst (λ u. drivers w.plan.faults a (driven_at w u) ≤ 1) (next-tick j)
      (subst (λ ds. drivers w.plan.faults a ds ≤ 1) (sym driven) (elim (this-or-other old.sent.channel a) [
        | inl same ↦ subst (λ y. drivers w.plan.faults y ((next so.0 ∷ so.1) ++ now.driven) ≤ 1) (sym same)
            (two.answer-alone w (trace_at w old.sent.start) (o ∷ os) p.beside.sent command answer sends m limit begins drives j so.0 so.1 early so.2)
        | inr other ↦ subst (λ y. drivers w.plan.faults y ((next so.0 ∷ so.1) ++ now.driven) ≤ 1)
            (sym (other ∙ sym (start.channel-is w t place holder stations entry old p o os is_old valid sends m breaks)))
            (two.command-alone w (trace_at w old.sent.start) (o ∷ os) p.beside.sent command answer sends m limit begins drives j so.0 so.1 early so.2)
      ]))

  pub goes-on : (j : ℕ) → j < limit → is_over_at w (t + j) ≡ false
  goes-on j early =
      let so = ran j (omega (arith, early)) in
      busy-goes-on w (t + j) (so.0 ++ past) (shown-is j so.0 so.1 so.2)
      (keeps.someone-busy w t place holder stations entry old p o os is_old valid sends m breaks so.0 (shows-of j so.0 so.1 early so.2))

  held-after : (j : ℕ) → j < limit → HoldsAlone w (shown_at w (t + j))
  held-after j early =
      let so = ran j (omega (arith, early)) in
      subst (HoldsAlone w) (sym (shown-is j so.0 so.1 so.2))
      (keeps.held w t place holder stations entry old p o os is_old valid sends m breaks so.0 (shows-of j so.0 so.1 early so.2))

  at-tick : (j : ℕ) → suc j < limit → IsOrderly w (t + j)
  at-tick j early = record {
    alone = drives-one j (omega (arith, early));
    hands = inl (subst (λ u. HoldsAlone w (shown_at w u)) (next-tick j) (held-after (suc j) early));
    goes_on = goes-on j (omega (arith, early));
  }

  pub in-order : (n : ℕ) → n < limit → (i : ℕ) → t ≤ i → i < t + n → IsOrderly w i
  in-order n early i low high =
      let same : t + (i - t) ≡ i = omega (arith, low) in subst (IsOrderly w) same (at-tick (i - t) (omega (arith, low, high, early)))

  -- ---- one command begins

  pub one-begins : (n : ℕ) (ticks : List Pair) (sent : List (List Drive)) → 0 < n → Runs n ticks sent →
      commands_in w (driven_at w (t + n)) ≡ commands_in w (driven_at w t) + 1
  one-begins n ticks sent some so =
      ap (λ (tr : Trace). commands_in w tr.driven) (trace-is n ticks sent so) ∙ by sent so.long so
      ∙ ap (λ (tr : Trace). commands_in w tr.driven + 1) (sym (start.same-now w t place holder stations entry old p o os is_old valid sends m breaks))
    where
      by : (ds : List (List Drive)) → length ds ≡ n → Runs n ticks ds → commands_in w (ds ++ now.driven) ≡ commands_in w now.driven + 1
      by [] long run = absurd (omega (arith, long, some))
      by (d ∷ ds) long run =
          count-command w.plan.faults (two.sender w (trace_at w old.sent.start) (o ∷ os) p.beside.sent
          (start.command w t place holder stations entry old p o os is_old valid sends m breaks)
          (start.answer w t place holder stations entry old p o os is_old valid sends m breaks) sends m limit)
          (start.hits w t place holder stations entry old p o os is_old valid sends m breaks) now.driven ds d run.part refl run.commands
          ∙ omega arith
