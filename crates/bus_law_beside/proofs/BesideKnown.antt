-- A message that began beside an abandoned answer, which is over by the end of its command: every station is what the message table says, and what came to
-- pass is what it says.
use Rattle.std.proofs.Common.{◌≡◌, ◌≢◌, inl, inr, ℕ, suc, ◌+◌, ◌-◌, ◌%◌, ◌<◌, ◌≤◌, Bool, true, false, not, List, [], ◌∷◌, ◌++◌, length, map, Option, Some, None, refl, sym, ap, ◌∙◌, subst, arith, length-append}
use Rattle.std.proofs.lemmas.Bool.{cases_lt}
use Rattle.std.specs.Prelude.{slice_get, flat_map, option_map}
use Rattle.bus_base.specs.declared.samples.Channel.{Channel}
use Rattle.bus_base.specs.declared.samples.Pair.{Pair}
use Rattle.bus_base.specs.declared.samples.Part.TheVariants.{First}
use Rattle.bus_words.specs.declared.word.Word.{Word}
use Rattle.bus_line.specs.Past.{Burst}
use Rattle.bus_line.specs.Channels.{on_channel, bursts}
use Rattle.bus_formats.specs.Forms.{answers_of, command_words}
use Rattle.bus_formats.specs.Plans.{StationData}
use Rattle.bus_formats.specs.declared.fault.Hit.{Hit}
use Rattle.bus_formats.specs.declared.form.Outcome.TheVariants.{Sent}
use Rattle.bus_formats.specs.declared.form.Shape.{Shape}
use Rattle.bus_model.specs.Attempts.{Begun, without_words}
use Rattle.bus_model.specs.Course.{Course, quiet_from, close}
use Rattle.bus_model.specs.Memory.{with_loads}
use Rattle.bus_model.specs.Message.{Present, After, delivered, unmoved, after_command, blocks_taken}
use Rattle.bus_model.specs.Starts.{Entry, starts}
use Rattle.bus_model.specs.Strikes.{ShownBurst, ShownAnswer, burst_end, burst_ticks, first_ticks}
use Rattle.bus_model.specs.World.{Trace, is_present}
use Rattle.bus_model.specs.WorldLog.{present_stations, attempt_at, ended_by, attempts}
use Rattle.bus_law_control.proofs.Holding.{heard-nothing}
use Rattle.bus_law_duties.proofs.OneOwes.{one-owes-at-most}
use Rattle.bus_law_messages.specs.Ends.{HeardCommand, SentCommand}
use Rattle.bus_law_parts.specs.Parts.{part_ticks}
use Rattle.bus_law_stations.specs.Silence.{AwaitsFirst}
use Rattle.bus_law_stations.specs.Turns.{KeepsControl, Serves}
use Rattle.bus_law_table.specs.Happened.{took_in, blocks_in as blocks_now, burst_found, blocks_found}
use Rattle.bus_law_table.specs.Stations.{loaded_at, ArePresent}
use Rattle.bus_law_table.proofs.AllStations.{took-none, IsTold, IsThere, all-there}
use Rattle.bus_law_table.proofs.OneStation.{serving_with, serving-is, CommandTold, command-told}
use Rattle.bus_law_table.proofs.Pairing.{Each, beside, each-other, beside-filter_map, filter_map-map}
use Rattle.bus_law_table.proofs.Pairing as lists
use Rattle.bus_law_table.proofs.Takes.{unheard-takes}
use Rattle.bus_law_phases.specs.Answers.{attempts_ended}
use Rattle.bus_law_phases.specs.Commands.{ended_with_command}
use Rattle.bus_law_phases.specs.Moments.{IsHolder, IsAfter, Underway}
use Rattle.bus_law_phases.specs.PartRuns.{burst_shown}
use Rattle.bus_law_phases.specs.Passages.{HoldsAlone, IsOrderly, Passage}
use Rattle.bus_law_phases.specs.Scenarios.{Scenario, trace_at, shown_at, blocks_in, attempts_in, course_of, present_of, IsPresentAt}
use Rattle.bus_law_phases.proofs.AnswerHolders.{closed-attempts, no-attempts}
use Rattle.bus_law_phases.proofs.AnswerLeft.{holder-left}
use Rattle.bus_law_phases.proofs.SilencedItems.{items-command}
use Rattle.bus_law_phases.proofs.Spares.{one-gives, beside-into}
use Rattle.bus_law_beside.specs.Beside.{BeginsBeside, by_ends}
use Rattle.bus_law_beside.proofs.BesideFrom.{KnownFrom, items-are}
use Rattle.bus_law_beside.proofs.BesideBegins as start
use Rattle.bus_law_beside.proofs.BesideDrives as both
use Rattle.bus_law_beside.proofs.BesideEnd as end
use Rattle.bus_law_beside.proofs.BesideHolder as control
use Rattle.bus_law_beside.proofs.BesideLegs as legs
use Rattle.bus_law_beside.proofs.BesideServers as servers
use Rattle.bus_law_beside.proofs.StopTicks.{BreaksOff}

module _ (w : Scenario) (t place : ℕ) (holder : StationData) (stations : List Present) (entry : Entry) (old : ShownAnswer)
    (p : BeginsBeside w t place holder stations entry old) (o : Pair) (os : List Pair) (is_old : p.beside.ticks ≡ o ∷ os) (valid : Bool) (sends m : ℕ)
    (breaks : BreaksOff old (t - old.sent.start) valid sends m)
    (orders : both.OrdersIt w t place holder stations entry old p o os is_old valid sends m breaks)
    (late : sends ≤ (t - old.sent.start) + start.limit w t place holder stations entry old p o os is_old valid sends m breaks)
    (short : burst_ticks (first_ticks old m)
    ≤ (t - old.sent.start) + part_ticks (start.hits w t place holder stations entry old p o os is_old valid sends m breaks) (command_words entry.item.kind)) where
  abbrev past : List Pair
  past = (o ∷ os) ++ shown_at w old.sent.start

  abbrev d : Channel
  d = end.d w t place holder stations entry old p o os is_old valid sends m breaks orders

  abbrev hits : List Hit
  hits = end.hits w t place holder stations entry old p o os is_old valid sends m breaks orders

  abbrev words : List Word
  words = command_words entry.item.kind

  abbrev begun : Begun
  begun = start.begun w t place holder stations entry old p o os is_old valid sends m breaks

  abbrev x : Pair
  x = end.x w t place holder stations entry old p o os is_old valid sends m breaks orders

  abbrev ticks : List Pair
  ticks = end.ticks w t place holder stations entry old p o os is_old valid sends m breaks orders

  abbrev later : List Pair
  later = (x ∷ ticks) ++ past

  abbrev burst : Burst
  burst = burst_shown (length past) hits words

  abbrev command : ShownBurst
  command = end.command w t place holder stations entry old p o os is_old valid sends m breaks orders

  abbrev most : ℕ
  most = end.most w t place holder stations entry old p o os is_old valid sends m breaks orders

  abbrev found : List ShownBurst
  found = by_ends (first_ticks old m) command

  abbrev afters : List After
  afters = map (after_command w.lag w.loads command) stations

  long-past : length past ≡ t
  long-past = end.long-past w t place holder stations entry old p o os is_old valid sends m breaks orders

  many : length ticks ≡ w.lag + part_ticks hits words
  many = end.many w t place holder stations entry old p o os is_old valid sends m breaks orders

  count-before : length (ticks ++ past) ≡ length ticks + length past
  count-before = length-append ticks past

  same-end : length past + part_ticks hits words ≡ burst_end command
  same-end = omega arith

  known : length (ticks ++ past) ≡ burst_end command + w.lag
  known = omega (arith, count-before, many)

  -- ---- the station in control

  holds : (course_of w holder past).holds ≡ true
  holds = (start.begins-now w t place holder stations entry old p o os is_old valid sends m breaks).holds

  kept : KeepsControl w.lag holder (starts w.plan holder) w.loads w.outside past (x ∷ ticks)
  kept = control.kept w t place holder stations entry old p o os is_old valid sends m breaks orders

  closed : SentCommand w.lag holder (starts w.plan holder) w.loads w.outside past (x ∷ ticks) begun burst
  closed = control.closed w t place holder stations entry old p o os is_old valid sends m breaks orders

  holds-later : (course_of w holder later).holds ≡ true
  holds-later = control.holds-later w t place holder stations entry old p o os is_old valid sends m breaks orders

  -- ---- the others

  are : ArePresent w.lag w.plan w.loads w.outside w.absent past stations
  are =
      subst (λ (tr : Trace). ArePresent w.lag w.plan w.loads w.outside w.absent tr.shown stations)
      (start.same-now w t place holder stations entry old p o os is_old valid sends m breaks) p.beside.are

  serves-before : (other : ℕ) (station : StationData) → IsPresentAt w other station → other ≢ place → Serves (course_of w station past)
  serves-before other station at away =
      subst (λ (tr : Trace). Serves (course_of w station tr.shown))
      (start.same-now w t place holder stations entry old p o os is_old valid sends m breaks) (p.beside.serves other station at away)

  heard-of : (other : ℕ) (station : StationData) → IsPresentAt w other station → other ≢ place →
      HeardCommand w.lag station (starts w.plan station) w.loads w.outside past (x ∷ ticks) d burst
  heard-of = servers.each-heard w t place holder stations entry old p o os is_old valid sends m breaks orders late short

  abbrev Told : StationData → Present → Type 0
  Told = IsTold w.lag w.plan w.loads w.outside w.absent past place holder (x ∷ ticks) command

  holder-unmoved : (y : Present) → present_of w holder past ≡ loaded_at w.loads (length past) y → after_command w.lag w.loads command y ≡ unmoved y
  holder-unmoved y same = let off : y.serves ≡ false = sym (ap (λ (q : Present). q.serves) same) ∙ ap not holds in rw off refl

  told-other : (other : ℕ) (station : StationData) (y : Present) → IsPresentAt w other station → other ≢ place →
      present_of w station past ≡ loaded_at w.loads (length past) y → CommandTold w.lag w.plan w.loads w.outside w.absent past (x ∷ ticks) command station y
  told-other other station y at away same =
      let serves = (serves-before other station at away).serves in
      let a = course_of w station past in
      let is : y ≡ serving_with station (course_of w station past) y.memory =
      serving-is station (course_of w station past) y.memory y serves (ap (λ (q : Present). record q { memory = y.memory }) same) in
      let none : part_ticks hits words % 40 ≡ 0 = omega arith in
      subst (CommandTold w.lag w.plan w.loads w.outside w.absent past (x ∷ ticks) command station) (sym is)
      (command-told w.lag w.plan w.loads w.outside w.absent past (x ∷ ticks) command station burst (heard-of other station at away) serves refl none same-end
      (ap suc known) (omega (arith, same-end)) y.memory
      (ap (λ (q : Present). with_loads q.plan.terminal.address (length past) w.loads y.memory) (sym is) ∙ sym (ap (λ (q : Present). q.memory) same)))

  told : lists.Beside Told (present_stations w.lag w.plan w.loads w.outside w.absent) stations
  told =
      beside (IsThere w.lag w.plan w.loads w.outside w.absent past place holder) Told (λ station. present_of w station past) (loaded_at w.loads (length past))
      (present_stations w.lag w.plan w.loads w.outside w.absent) stations
      (all-there w.lag w.plan w.loads w.outside w.absent past place holder p.beside.at.there) are (λ station y here same. elim here [
        | inl is ↦ (let so = sym (ap (λ st. present_of w st past) is) ∙ same in inl (is, so, holder-unmoved y so))
        | inr other ↦ inr (
          other.0,
          other.1,
          other.2,
          other.3,
          told-other other.0 station y record { there = other.1; present = other.3 } other.2 same,
        )
      ])

  after-one : (station : StationData) (y : Present) → Told station y →
      IsAfter w later place holder d (burst_end command) First station (after_command w.lag w.loads command y)
  after-one station y is = elim is [
    | inl own ↦ inl (
      own.0,
      subst (IsHolder w later station) (sym own.2) (subst (λ st. IsHolder w later st (unmoved y)) (sym own.0)
          (holder-left w past (x ∷ ticks) holder holds kept (unmoved y) record {
            plan = sym (ap (λ (q : Present). q.plan) own.1);
            memory = ap (λ (q : Present). q.memory) own.1;
            serves = sym (ap (λ (q : Present). q.serves) own.1) ∙ ap not holds;
            duty = refl;
          })),
    )
    | inr other ↦ (let at : IsPresentAt w other.0 station = record { there = other.1; present = other.3 } in
        inr (
          other.0,
          other.2,
          at,
          servers.each-server w t place holder stations entry old p o os is_old valid sends m breaks orders late short other.0 station at other.2 y other.4,
        ))
  ]

  serves-later : (other : ℕ) (station : StationData) → IsPresentAt w other station → other ≢ place → Serves (course_of w station later)
  serves-later other station at away =
      let heard = heard-of other station at away in
      let before = serves-before other station at away in record {
        serves = ap (λ (a : Course). a.holds) heard.course ∙ before.serves;
        idle = ap (λ (a : Course). a.runs) heard.course ∙ before.idle;
      }

  moment-then : Underway w record {
    shown = later;
    driven = end.driven_later w t place holder stations entry old p o os is_old valid sends m breaks orders;
  } place holder d (burst_end command) First afters
  moment-then = record {
    rests = end.rests-then w t place holder stations entry old p o os is_old valid sends m breaks orders late short;
    fresh = end.fresh-then w t place holder stations entry old p o os is_old valid sends m breaks orders late short;
    spent = end.spent-then w t place holder stations entry old p o os is_old valid sends m breaks orders late short;
    at = p.beside.at;
    holds = holds-later;
    serves = serves-later;
    stations = beside-into Told (IsAfter w later place holder d (burst_end command) First) (after_command w.lag w.loads command)
        (present_stations w.lag w.plan w.loads w.outside w.absent) stations told after-one;
    one = one-owes-at-most w.lag w.loads d (length past) hits entry.item stations p.entry_of.ranges.kind p.apart;
  }

  -- ---- what came to pass

  blocks-then : blocks_now w.lag w.plan w.loads w.outside w.absent (x ∷ (ticks ++ past)) (length (ticks ++ past)) ≡ blocks_taken w.lag w.loads command afters
  blocks-then =
      let tick = burst_end command + w.lag in
      ap (blocks_now w.lag w.plan w.loads w.outside w.absent (x ∷ (ticks ++ past))) known
      ∙ beside-filter_map Told (took_in w.lag w.plan w.loads w.outside w.absent (x ∷ (ticks ++ past)) tick)
      (λ y. option_map (delivered tick d (after_command w.lag w.loads command y)) (after_command w.lag w.loads command y).taken)
      (present_stations w.lag w.plan w.loads w.outside w.absent) stations told (λ st y is. elim is [
        | inl own ↦ ap (took_in w.lag w.plan w.loads w.outside w.absent (x ∷ (ticks ++ past)) tick) own.0
            ∙ took-none w.lag w.plan w.loads w.outside w.absent past place holder holder (x ∷ (ticks ++ past)) tick
            (unheard-takes w.lag holder (starts w.plan holder) w.loads w.outside x (ticks ++ past)
            (heard-nothing w.lag holder (starts w.plan holder) w.loads w.outside (x ∷ (ticks ++ past)) holds-later))
            ∙ sym (ap (λ (a : After). option_map (delivered tick d a) a.taken) own.2)
        | inr other ↦ other.4.took
      ])
      ∙ sym (filter_map-map (λ (a : After). option_map (delivered tick d a) a.taken) (after_command w.lag w.loads command) stations)

  others-end : (other : ℕ) (station : StationData) → slice_get w.plan.stations other ≡ Some station → other ≢ place → is_present w.absent station ≡ true →
      ended_by w.lag w.plan w.loads w.outside w.absent (x ∷ (ticks ++ past)) (length (ticks ++ past)) station ≡ []
  others-end other station there away present =
      ap (attempts_ended w station (length (ticks ++ past))) (heard-of other station record { there = there; present = present } away).course
      ∙ no-attempts w station past (length (ticks ++ past)) (omega (arith, count-before))

  abbrev Ends : Option Shape → Type 0
  Ends shape =
      attempt_at w.lag w.plan w.loads w.outside w.absent holder.terminal.address (length (ticks ++ past)) (course_of w holder (x ∷ (ticks ++ past))).ended
      ≡ ended_with_command holder.terminal.address begun (burst_end command + w.lag) shape

  holder-ends : (shape : Option Shape) → (answers_of entry.item.kind).first ≡ shape → Ends shape
  holder-ends None none =
      let ending = without_words Sent None None in
      ap (attempts_ended w holder (length (ticks ++ past)))
      (closed.sent none ∙ ap (close (course_of w holder past) begun ending) (ap (λ n. n + w.lag) same-end))
      ∙ ap (λ n. attempts_ended w holder n (close (course_of w holder past) begun ending (burst_end command + w.lag))) known
      ∙ closed-attempts w holder (course_of w holder past) begun ending (burst_end command + w.lag)
  holder-ends (Some shape) expects =
      ap (attempts_ended w holder (length (ticks ++ past))) (closed.waits shape expects).0
      ∙ no-attempts w holder past (length (ticks ++ past)) (omega (arith, count-before))

  closes-then : flat_map (ended_by w.lag w.plan w.loads w.outside w.absent (x ∷ (ticks ++ past)) (length (ticks ++ past)))
      (present_stations w.lag w.plan w.loads w.outside w.absent)
      ≡ ended_with_command holder.terminal.address begun (burst_end command + w.lag) (answers_of entry.item.kind).first
  closes-then =
      one-gives (is_present w.absent) (ended_by w.lag w.plan w.loads w.outside w.absent (x ∷ (ticks ++ past)) (length (ticks ++ past))) w.plan.stations place
      holder p.beside.at.there p.beside.at.present others-end
      ∙ holder-ends (answers_of entry.item.kind).first refl

  shows : both.Shows w t place holder stations entry old p o os is_old valid sends m breaks ticks
  shows = end.shows w t place holder stations entry old p o os is_old valid sends m breaks orders

  same-past : shown_at w t ≡ past
  same-past = ap (λ (tr : Trace). tr.shown) (start.same-now w t place holder stations entry old p o os is_old valid sends m breaks)

  all-blocks : blocks_in w later ≡ blocks_in w (shown_at w t) ++ blocks_taken w.lag w.loads command afters
  unfolding blocks_found
  all-blocks =
      ap (λ bs. blocks_in w (ticks ++ past) ++ bs) blocks-then
      ∙ ap (λ bs. bs ++ blocks_taken w.lag w.loads command afters)
      (legs.leg-blocks w t place holder stations entry old p o os is_old valid sends m breaks orders ticks shows ∙ ap (λ ps. blocks_in w ps) (sym same-past))

  all-attempts : attempts_in w later ≡ attempts_in w (shown_at w t)
      ++ ended_with_command holder.terminal.address begun (burst_end command + w.lag) (answers_of entry.item.kind).first
  unfolding attempts
  all-attempts =
      ap (λ xs. attempts_in w (ticks ++ past) ++ xs) closes-then
      ∙ ap (λ xs. xs ++ ended_with_command holder.terminal.address begun (burst_end command + w.lag) (answers_of entry.item.kind).first)
      (legs.leg-attempts w t place holder stations entry old p o os is_old valid sends m breaks orders ticks shows ∙ ap (λ ps. attempts_in w ps) (sym same-past))

  next-tick : t + suc most ≡ suc (t + most)
  next-tick = omega arith

  trace-then : trace_at w (t + suc most) ≡ record {
    shown = later;
    driven = end.driven_later w t place holder stations entry old p o os is_old valid sends m breaks orders;
  }
  trace-then = end.trace-then w t place holder stations entry old p o os is_old valid sends m breaks orders

  shown-then : shown_at w (t + suc most) ≡ later
  shown-then = ap (λ (tr : Trace). tr.shown) trace-then

  held-then : HoldsAlone w later
  held-then = record {
    place = place;
    holder = holder;
    at = p.beside.at;
    holds = holds-later;
    others = λ other station at away. (serves-later other station at away).serves;
  }

  early : most < start.limit w t place holder stations entry old p o os is_old valid sends m breaks
  early = end.early w t place holder stations entry old p o os is_old valid sends m breaks orders

  last : IsOrderly w (t + most)
  last = record {
    alone = legs.drives-one w t place holder stations entry old p o os is_old valid sends m breaks orders most early;
    hands = inl (subst (λ u. HoldsAlone w (shown_at w u)) next-tick (subst (HoldsAlone w) (sym shown-then) held-then));
    goes_on = legs.goes-on w t place holder stations entry old p o os is_old valid sends m breaks orders most early;
  }

  in-order : (i : ℕ) → t ≤ i → i < t + suc most → IsOrderly w i
  in-order i low high = elim (cases_lt i (t + most)) [
    | inl before ↦ legs.in-order w t place holder stations entry old p o os is_old valid sends m breaks orders most early i low before
    | inr at ↦ (let same : t + most ≡ i = omega (arith, at, high) in subst (IsOrderly w) same last)
  ]

  passage-then : Passage w t (t + suc most) record {
    blocks = blocks_taken w.lag w.loads command afters;
    bursts = found;
    attempts = ended_with_command holder.terminal.address begun (burst_end command + w.lag) (answers_of entry.item.kind).first;
    commands = 1;
  }
  passage-then = record {
    later = omega arith;
    blocks_are = ap (λ ps. blocks_in w ps) shown-then ∙ all-blocks;
    bursts_are = ap (bursts w.lag) shown-then
        ∙ end.bursts-then w t place holder stations entry old p o os is_old valid sends m breaks orders late short
        ∙ ap (λ ps. bursts w.lag ps ++ map burst_found found) (sym same-past);
    attempts_are = ap (λ ps. attempts_in w ps) shown-then ∙ all-attempts;
    counted = legs.one-begins w t place holder stations entry old p o os is_old valid sends m breaks orders (suc most) _ _ (omega arith)
        (end.whole w t place holder stations entry old p o os is_old valid sends m breaks orders);
    orderly = in-order;
  }

  quiet-then : quiet_from later ≡ burst_end command
  quiet-then =
      let both_quiet = end.quiet-then w t place holder stations entry old p o os is_old valid sends m breaks orders late short in
      omega (arith, both_quiet, known)

  known-at : t + suc most ≡ burst_end command + suc w.lag
  known-at = omega (arith, long-past)

  pub known-from : KnownFrom w t place holder stations begun command found past
  known-from =
      let at = known-at in
      let shown : shown_at w (burst_end command + suc w.lag) ≡ later = ap (shown_at w) (sym at) ∙ shown-then in
      record {
        moment = subst (λ u. Underway w (trace_at w u) place holder d (burst_end command) First afters) at
            (subst (λ tr. Underway w tr place holder d (burst_end command) First afters) (sym trace-then) moment-then);
        passage = subst (λ u. Passage w t u record {
          blocks = blocks_taken w.lag w.loads command afters;
          bursts = found;
          attempts = ended_with_command holder.terminal.address begun (burst_end command + w.lag) (answers_of entry.item.kind).first;
          commands = 1;
        }) at passage-then;
        sent = λ none. ap (course_of w holder) shown ∙ closed.sent none ∙ ap (close (course_of w holder past) begun (without_words Sent None None))
            (ap (λ n. n + w.lag) same-end);
        waits = λ shape expects. (
          ap (course_of w holder) shown ∙ (closed.waits shape expects).0,
          subst (λ ps. AwaitsFirst w.lag begun (on_channel d ps) (burst_end command)) (sym shown)
              (subst (AwaitsFirst w.lag begun (on_channel d later)) same-end (closed.waits shape expects).1),
        );
        quiet = ap quiet_from shown ∙ quiet-then;
        items = items-command holder (course_of w holder past) w.lag w.loads command stations (items-are w past holder stations are);
      }
