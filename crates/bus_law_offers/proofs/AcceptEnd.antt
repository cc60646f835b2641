-- An answer that accepts control, its end known: the station that sent it takes control, and every other one is what the message table says.
use Rattle.std.proofs.Common.{◌≡◌, ◌≢◌, inl, inr, ℕ, suc, ◌+◌, ◌*◌, ◌<◌, ◌≤◌, true, false, List, [], ◌∷◌, ◌++◌, length, map, Some, refl, sym, ap, ◌∙◌, subst, arith, length-append}
use Rattle.std.proofs.lemmas.Bool.{cases_eq}
use Rattle.std.proofs.lemmas.Option.{same_Some}
use Rattle.std.specs.Prelude.{slice_get, flat_map, option_map, IsSome}
use Rattle.bus_base.specs.Samples.{other_of}
use Rattle.bus_base.specs.declared.samples.Channel.{Channel}
use Rattle.bus_base.specs.declared.samples.Drive.{Drive}
use Rattle.bus_base.specs.declared.samples.Pair.{Pair}
use Rattle.bus_base.specs.declared.samples.Part.{Part}
use Rattle.bus_base.specs.declared.samples.Part.TheVariants.{Command}
use Rattle.bus_words.specs.declared.word.Word.{Word}
use Rattle.bus_line.specs.Past.{quiet_ticks, ended_now}
use Rattle.bus_line.specs.Channels.{on_channel, bursts}
use Rattle.bus_formats.specs.Accepted.{HasStationRanges, IsAccepted}
use Rattle.bus_formats.specs.Plans.{StationData}
use Rattle.bus_formats.specs.Times.{taking_over}
use Rattle.bus_formats.specs.declared.fault.Hit.{Hit}
use Rattle.bus_model.specs.Control.{takes_control}
use Rattle.bus_model.specs.Course.{Course, quiet_from}
use Rattle.bus_model.specs.Message.{After, answer_to, delivered, after_answer, blocks_taken}
use Rattle.bus_model.specs.Orders.{due_after}
use Rattle.bus_model.specs.Standing.{is_owed}
use Rattle.bus_model.specs.Starts.{starts}
use Rattle.bus_model.specs.Strikes.{ShownBurst, hits_on, struck, burst_end, Answer}
use Rattle.bus_model.specs.World.{Trace, is_present}
use Rattle.bus_model.specs.WorldLog.{present_stations, ended_by}
use Rattle.bus_law_line.specs.Senders.{Sender, attempt_to_come}
use Rattle.bus_law_messages.specs.Promises.{Listens}
use Rattle.bus_law_offers.specs.Accepting.{TookControl}
use Rattle.bus_law_offers.specs.Passing.{HolderLeft, HoldsToEnd, IsLeft, AcceptOver}
use Rattle.bus_law_offers.proofs.Accepting.{takes-control-so}
use Rattle.bus_law_offers.proofs.AcceptLeft.{taking-until, owed-no-promise, IsThen, then-holder, then-taker}
use Rattle.bus_law_offers.proofs.AcceptSending.{Accepts, accept-ticks}
use Rattle.bus_law_parts.specs.Parts.{part_ticks, HitsFit, IsFresh}
use Rattle.bus_law_phases.specs.Answers.{IsStatusWithData, burst_read, ShowsWhole, attempts_ended}
use Rattle.bus_law_phases.specs.Moments.{Owes, IsHolder, IsServer, IsAfter, Underway}
use Rattle.bus_law_phases.specs.Pairing.{Beside}
use Rattle.bus_law_phases.specs.PartRuns.{RunsAlone, PartRuns}
use Rattle.bus_law_phases.specs.Passages.{HoldsAlone, InOneHand, IsOrderly, Passage}
use Rattle.bus_law_phases.specs.Scenarios.{Scenario, trace_at, shown_at, driven_at, course_of, IsPresentAt, NoneTakesFrom, StaysFrom}
use Rattle.bus_law_phases.specs.Silences.{GoesOnTo, IsQuiet}
use Rattle.bus_law_phases.proofs.AnswerBegun.{OwesIt, all-owe-it, not-for}
use Rattle.bus_law_phases.proofs.AnswerHolders.{no-attempts}
use Rattle.bus_law_phases.proofs.AnswerLeft.{answer_burst, IsSettled, listened-settled}
use Rattle.bus_law_phases.proofs.AnswerQuiet.{beside-mapped, beside-kept}
use Rattle.bus_law_phases.proofs.AnswerSending.{listens-from}
use Rattle.bus_law_phases.proofs.AnswerServers.{other-address, owes-none, server-of}
use Rattle.bus_law_phases.proofs.Pairs.{each-of, beside-with}
use Rattle.bus_law_phases.proofs.PartEnding.{part-ended, all-quiet, part-bursts, fresh-after, quiet-after}
use Rattle.bus_law_phases.proofs.PartPassing.{part-passes}
use Rattle.bus_law_phases.proofs.PartQuiet.{part-quiet}
use Rattle.bus_law_phases.proofs.PartTicks.{PartTicks}
use Rattle.bus_law_phases.proofs.Spares.{all-at, one-gives}
use Rattle.bus_law_table.specs.Happened.{took_in, blocks_in as blocks_now, burst_found}
use Rattle.bus_law_table.proofs.Pairing.{filter_map-map}
use Rattle.bus_law_phases.proofs.Staying.{long-at}

module _ (w : Scenario) (t place : ℕ) (holder : StationData) (part : Part) (burst : ShownBurst) (afters : List After) (answer : Answer) (hits : List Hit)
    (later_course : Course) (lag : w.lag ≡ 3) (accepted : IsAccepted w.plan) (stays : StaysFrom w t)
    (moment : Underway w (trace_at w t) place holder burst.channel (burst_end burst) part afters) (no_command : part ≢ Command)
    (found : answer_to burst afters ≡ Some answer) (spells : IsStatusWithData answer)
    (named : hits_on w.plan.faults (attempt_to_come w.plan.faults part (driven_at w t)) part ≡ hits) (fits : HitsFit part hits answer.words)
    (some : 0 < part_ticks hits answer.words) (goes : GoesOnTo w (shown_at w t) (suc t))
    (controls : HoldsToEnd w (shown_at w t) holder burst.channel hits answer.words
    (burst_read (answer_burst burst.channel (length (shown_at w t)) hits answer.words)) later_course)
    (answerer : ℕ) (answering : StationData) (apart : answerer ≢ place) (at : IsPresentAt w answerer answering)
    (owed : Owes w (shown_at w t) answering burst.channel (burst_end burst) part answer.words true)
    (due : due_after answering.terminal (burst_end burst) ≡ length (shown_at w t)) (own_address : answering.terminal.address ≡ answer.address) where
  abbrev past : List Pair
  past = shown_at w t

  abbrev c : Channel
  c = burst.channel

  abbrev e : ℕ
  e = burst_end burst

  abbrev words : List Word
  words = answer.words

  abbrev shows : ShownBurst
  shows = answer_burst c (length past) hits words

  abbrev s : Sender
  s = record { station = answerer; channel = c; part = part; words = words }

  long : length (shown_at w t) ≡ t
  long = long-at w t stays

  stays-here : NoneTakesFrom w (length (shown_at w t))
  stays-here = subst (NoneTakesFrom w) (sym long) stays.takes

  -- ---- who owes the answer, and who listens

  address-of : (other : ℕ) (station : StationData) → IsPresentAt w other station → other ≢ answerer → station.terminal.address ≢ answer.address
  address-of = other-address w (trace_at w t) place holder c e part burst afters answer accepted moment found answerer answering at own_address

  unowed : (other : ℕ) (station : StationData) (after : After) → IsPresentAt w other station → other ≢ answerer → IsServer w past c e part station after →
      OwesIt answer after → is_owed after.duty ≡ false
  unowed = owes-none w (trace_at w t) place holder c e part burst afters answer accepted moment found answerer answering at own_address

  table-of : (other : ℕ) (station : StationData) → IsPresentAt w other station → other ≢ place →
      (after : After) × IsServer w past c e part station after × OwesIt answer after
  table-of = server-of w (trace_at w t) place holder c e part burst afters answer accepted moment found answerer answering at own_address

  listens : (other : ℕ) (station : StationData) → IsPresentAt w other station → other ≢ place → other ≢ answerer →
      Listens w.lag station (starts w.plan station) w.loads w.outside past c
  listens other station there away aside =
      let known_so = table-of other station there away in
      listens-from w past station c e part known_so.0.duty known_so.1.duty (unowed other station known_so.0 there aside known_so.1 known_so.2)

  accepts : Accepts w past place holder c e part words hits answerer answering
  accepts = record {
    there = moment.at;
    holds = moment.holds;
    same = controls.same;
    silent = controls.silent;
    at = at;
    apart = apart;
    owed = owed;
    due = due;
    listens = listens;
    stays = stays-here;
  }

  -- ---- the ticks

  abbrev m : ℕ
  m = part_ticks hits words + w.lag

  abbrev now : Trace
  now = trace_at w t

  sending : PartTicks w t (record { station = answerer; channel = c; part = part; words = words }) hits 0
  sending =
      accept-ticks w t place holder c e part words hits answerer answering lag stays accepts (moment.fresh c answerer) moment.spent moment.rests no_command named
      fits some goes

  abbrev x : Pair
  x = sending.newest

  abbrev ticks : List Pair
  ticks = sending.ticks

  abbrev driven : List Drive
  driven = sending.driven

  abbrev sent : List (List Drive)
  sent = sending.sent

  abbrev whole : PartRuns w now s hits (part_ticks hits words + suc w.lag) (x ∷ ticks) (driven ∷ sent)
  whole = sending.whole

  abbrev alone : RunsAlone w.lag c ticks
  alone = sending.first.alone

  abbrev later : List Pair
  later = (x ∷ ticks) ++ past

  quiet : on_channel (other_of c) (x ∷ ticks) ≡ quiet_ticks (length (x ∷ ticks))
  quiet = all-quiet w now s hits lag moment.spent moment.rests (moment.fresh (other_of c)) some x ticks driven sent whole

  many : length ticks ≡ w.lag + part_ticks hits words
  many = let count = sending.many in omega (arith, count)

  count-before : length (ticks ++ past) ≡ length ticks + length past
  count-before = length-append ticks past

  -- the tick in which the end is known
  known : length (ticks ++ past) ≡ burst_end shows + w.lag
  known = omega (arith, count-before, many)

  ended : ended_now w.lag (on_channel c (x ∷ (ticks ++ past))) ≡ Some (burst_read shows)
  ended =
      let ticks_are : part_ticks hits words ≡ 40 * length (struck hits words) + 0 = omega arith in
      part-ended w now s hits lag moment.spent moment.rests (moment.fresh (other_of c)) some x ticks driven sent whole
      ∙ ap (λ n. Some (record { first = length past; ticks = n; slots = struck hits words })) ticks_are

  quiet-from : quiet_from later ≡ burst_end shows
  quiet-from =
      let both = part-quiet w.lag part hits words c (x ∷ ticks) past lag fits some whole.shown quiet in
      omega (arith, both, known)

  shows-whole : ShowsWhole w.lag c (burst_read shows) past x ticks
  shows-whole = record { alone = alone; ended = ended; known = known; quiet = quiet-from }

  same-end : length past + part_ticks hits words ≡ burst_end shows
  same-end = omega arith

  -- ---- the one that offered control, and the one that takes it

  left : HolderLeft w past later holder later_course
  left = controls.then_is x ticks sending.first shows-whole

  took : TookControl w past later answering (burst_end shows)
  took =
      subst (TookControl w past later answering) same-end
      (takes-control-so w past answering c e part words owed due (λ tick low. stays-here answerer answering at tick low) hits lag some fits x ticks
      (omega (arith, many, some)) alone whole.shown quiet)

  taker-holds : (course_of w answering later).holds ≡ true
  taker-holds = ap (λ (d : Course). d.holds) took.course

  late : length past ≤ length later
  late = omega (arith, count-before)

  -- ---- each station

  prompt : (other : ℕ) (station : StationData) → IsPresentAt w other station → 8 ≤ station.terminal.delay
  prompt other station there = (all-at HasStationRanges w.plan.stations other station accepted.ranges there.there).terminal.delay.0

  abbrev tick : ℕ
  tick = burst_end shows + w.lag

  abbrev settled : After → After
  settled = after_answer w.lag w.loads shows

  left-other : (other : ℕ) (station : StationData) (after : After) → IsPresentAt w other station → other ≢ answerer → IsServer w past c e part station after →
      OwesIt answer after → IsSettled w past later tick c shows station after
  left-other other station after there aside server owes_it =
      listened-settled w past x ticks c part hits words e lag some fits many alone whole.shown quiet stays-here other station there after server
      (unowed other station after there aside server owes_it)
      (not-for hits answer station.terminal.address spells (address-of other station there aside)) (prompt other station there)

  abbrev Then : StationData → After → Type 0
  Then = IsThen w past x (ticks ++ past) place holder answerer answering c shows

  then-one : (station : StationData) (after : After) → IsAfter w past place holder c e part station after → OwesIt answer after → Then station after
  then-one station after is owes_it = elim is [
    | inl own ↦ subst (λ st. Then st after) (sym own.0) (then-holder w past x (ticks ++ past) place holder answerer answering c shows moment.holds late later_course left after (subst (λ st. IsHolder w past st after) own.0 own.1))
    | inr server ↦ elim (cases_eq server.0 answerer) [
      | inl same ↦ (let here : slice_get w.plan.stations answerer ≡ Some station = ap (slice_get w.plan.stations) (sym same) ∙ server.2.there in
          let st : answering ≡ station = same_Some answering station (sym at.there ∙ here) in
          let own : IsServer w past c e part answering after = subst (λ y. IsServer w past c e part y after) (sym st) server.3 in
          subst (λ y. Then y after) st (then-taker w past x (ticks ++ past) place holder answerer answering c shows late took after
          (owed-no-promise w past answering c e part words owed after.duty own.duty) own.is))
      | inr aside ↦ (let so = left-other server.0 station after server.2 aside server.3 owes_it in
          (inr (inr (server.0, server.1, aside, server.2, so.server)), so.took))
    ]
  ]

  all-then : Beside Then (present_stations w.lag w.plan w.loads w.outside w.absent) afters
  all-then =
      beside-with (IsAfter w past place holder c e part) Then (OwesIt answer) (present_stations w.lag w.plan w.loads w.outside w.absent) afters moment.stations
      (each-of (OwesIt answer) afters (all-owe-it burst afters answer moment.one found)) then-one

  -- ---- control

  other-course : (other : ℕ) (station : StationData) → IsPresentAt w other station → other ≢ place → other ≢ answerer →
      course_of w station later ≡ course_of w station past
  other-course other station there away aside =
      let known_so = table-of other station there away in (left-other other station known_so.0 there aside known_so.1 known_so.2).course

  other-serves : (other : ℕ) (station : StationData) → IsPresentAt w other station → other ≢ place → other ≢ answerer → (course_of w station later).holds ≡ false
  other-serves other station there away aside =
      ap (λ (d : Course). d.holds) (other-course other station there away aside) ∙ (moment.serves other station there away).serves

  held-alone : later_course.holds ≡ false → HoldsAlone w later
  held-alone gave = record {
    place = answerer;
    holder = answering;
    at = at;
    holds = taker-holds;
    others = λ other station there aside. elim (cases_eq other place) [
      | inl same ↦ (let here : slice_get w.plan.stations place ≡ Some station = ap (slice_get w.plan.stations) (sym same) ∙ there.there in
          let is : holder ≡ station = same_Some holder station (sym moment.at.there ∙ here) in
          subst (λ st. (course_of w st later).holds ≡ false) is (ap (λ (d : Course). d.holds) left.course ∙ gave))
      | inr away ↦ other-serves other station there away aside
    ];
  }

  soon : length later ≤ burst_end shows + taking_over
  soon = omega (arith, known, lag)

  taker-takes-control : takes_control w.lag answering (starts w.plan answering) w.loads w.outside later ≡ Some (burst_end shows + taking_over)
  taker-takes-control =
      taking-until (course_of w answering later) later (burst_end shows + taking_over) taker-holds (ap (λ (d : Course). d.opening) took.course) soon

  hands : InOneHand w later
  hands = elim controls.decides [
    | inl gave ↦ inl (held-alone gave)
    | inr doubting ↦ inr record {
      place = place;
      offerer = holder;
      at = moment.at;
      doubts = doubting x ticks sending.first shows-whole;
      taker_place = answerer;
      taker = answering;
      taker_at = at;
      apart = apart;
      takes = subst IsSome (sym taker-takes-control) refl;
      others = λ other station there away aside. other-serves other station there away aside;
    }
  ]

  -- ---- what came to pass

  blocks-then : blocks_now w.lag w.plan w.loads w.outside w.absent (x ∷ (ticks ++ past)) (length (ticks ++ past))
      ≡ blocks_taken w.lag w.loads shows (map settled afters)
  blocks-then =
      ap (blocks_now w.lag w.plan w.loads w.outside w.absent (x ∷ (ticks ++ past))) known
      ∙ beside-kept Then (took_in w.lag w.plan w.loads w.outside w.absent (x ∷ (ticks ++ past)) tick)
      (λ y. option_map (delivered tick c (settled y)) (settled y).taken)
      (present_stations w.lag w.plan w.loads w.outside w.absent) afters all-then (λ st y is. is.1)
      ∙ sym (filter_map-map (λ (a : After). option_map (delivered tick c a) a.taken) settled afters)

  bursts-then : bursts w.lag (x ∷ (ticks ++ past)) ≡ bursts w.lag past ++ map burst_found (shows ∷ [])
  bursts-then =
      let ticks_are : part_ticks hits words ≡ 40 * length (struck hits words) + 0 = omega arith in
      part-bursts w now s hits lag moment.spent moment.rests (moment.fresh (other_of c)) some x ticks driven sent whole alone
      ∙ ap (λ n. bursts w.lag past ++ (record { channel = c; burst = record { first = length past; ticks = n; slots = struck hits words } } ∷ [])) ticks_are

  -- the attempt that ended, if any
  others-end : (other : ℕ) (station : StationData) → slice_get w.plan.stations other ≡ Some station → other ≢ place →
      is_present w.absent station ≡ true →
      ended_by w.lag w.plan w.loads w.outside w.absent (x ∷ (ticks ++ past)) (length (ticks ++ past)) station ≡ []
  others-end other station there away present = elim (cases_eq other answerer) [
    | inl same ↦ (let here : slice_get w.plan.stations answerer ≡ Some station = ap (slice_get w.plan.stations) (sym same) ∙ there in
        let is : answering ≡ station = same_Some answering station (sym at.there ∙ here) in
        subst (λ st. ended_by w.lag w.plan w.loads w.outside w.absent (x ∷ (ticks ++ past)) (length (ticks ++ past)) st ≡ []) is
        (ap (λ (d : Course). attempts_ended w answering (length (ticks ++ past)) d) took.course
        ∙ no-attempts w answering past (length (ticks ++ past)) (omega (arith, count-before))))
    | inr aside ↦ ap (attempts_ended w station (length (ticks ++ past))) (other-course other station record { there = there; present = present } away aside)
        ∙ no-attempts w station past (length (ticks ++ past)) (omega (arith, count-before))
  ]

  closes-then : flat_map (ended_by w.lag w.plan w.loads w.outside w.absent (x ∷ (ticks ++ past)) (length (ticks ++ past)))
      (present_stations w.lag w.plan w.loads w.outside w.absent) ≡ attempts_ended w holder tick later_course
  closes-then =
      one-gives (is_present w.absent) (ended_by w.lag w.plan w.loads w.outside w.absent (x ∷ (ticks ++ past)) (length (ticks ++ past))) w.plan.stations place
      holder moment.at.there moment.at.present others-end
      ∙ ap (attempts_ended w holder (length (ticks ++ past))) left.course
      ∙ ap (λ i. attempts_ended w holder i later_course) known

  next-tick : t + suc m ≡ suc (t + m)
  next-tick = omega arith

  last : IsOrderly w (t + m)
  last = record {
    alone = sending.drives;
    hands = subst (λ u. InOneHand w (shown_at w u)) next-tick
        (subst (InOneHand w) (sym (ap (λ (tr : Trace). tr.shown) sending.trace)) hands);
    goes_on = sending.goes_on;
  }

  passage-then : Passage w t (t + suc m) record {
    blocks = blocks_taken w.lag w.loads shows (map settled afters);
    bursts = shows ∷ [];
    attempts = attempts_ended w holder tick later_course;
    commands = 0;
  }
  passage-then =
      part-passes w t m x (ticks ++ past) (blocks_taken w.lag w.loads shows (map settled afters)) shows
      (attempts_ended w holder tick later_course) 0 sending.passed sending.before
      (ap (λ (tr : Trace). tr.shown) sending.trace) blocks-then bursts-then closes-then sending.counted last

  known-at : t + suc m ≡ burst_end shows + suc w.lag
  known-at = omega (arith, long)

  abbrev Over : ℕ → Type 0
  Over u = AcceptOver w t u place holder answerer answering burst afters hits words shows later_course

  over-by : (u : ℕ) → t + suc m ≡ u → trace_at w u ≡ record { shown = later; driven = (driven ∷ sent) ++ driven_at w t } → Over u
  over-by u same at_u =
      let shown_so : later ≡ shown_at w u = sym (ap (λ (tr : Trace). tr.shown) at_u) in
      let driven_so : (driven ∷ sent) ++ driven_at w t ≡ driven_at w u = sym (ap (λ (tr : Trace). tr.driven) at_u) in record {
        quiet_then = subst (IsQuiet w) (sym at_u)
            (quiet-after w now s hits lag moment.spent moment.rests (moment.fresh (other_of c)) some x ticks driven sent whole);
        fresh = subst (λ out. (d : Channel) (station : ℕ) → IsFresh w.plan.faults d out station) driven_so
            (fresh-after w now s hits lag moment.spent moment.rests (moment.fresh (other_of c)) some x ticks driven sent whole);
        left = subst (λ p. HolderLeft w past p holder later_course) shown_so left;
        took = subst (λ p. TookControl w past p answering (burst_end shows)) shown_so took;
        stations = subst (λ p. Beside (IsLeft w p place holder answerer answering c (burst_end shows)) (present_stations w.lag w.plan w.loads w.outside w.absent)
            (map settled afters)) shown_so
            (beside-mapped Then (IsLeft w later place holder answerer answering c (burst_end shows)) settled
            (present_stations w.lag w.plan w.loads w.outside w.absent) afters all-then (λ st y is. is.0));
        passed = subst (λ v. Passage w t v record {
          blocks = blocks_taken w.lag w.loads shows (map settled afters);
          bursts = shows ∷ [];
          attempts = attempts_ended w holder tick later_course;
          commands = 0;
        }) same passage-then;
        quiet = ap quiet_from (sym shown_so) ∙ quiet-from;
        newest = x;
        ticks = ticks;
        shown = sym shown_so;
        first = sending.first;
        whole = shows-whole;
      }

  pub accept-over : AcceptOver w t (burst_end (answer_burst burst.channel (length (shown_at w t)) hits answer.words) + suc w.lag) place holder answerer answering burst
      afters hits answer.words (answer_burst burst.channel (length (shown_at w t)) hits answer.words) later_course
  accept-over = over-by (burst_end shows + suc w.lag) known-at (ap (trace_at w) (sym known-at) ∙ sending.trace)
