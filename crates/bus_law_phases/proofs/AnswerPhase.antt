-- An answer, its end known: every station is what the message table says, and what came to pass is what it says.
use Rattle.std.proofs.Common.{◌≡◌, ◌≢◌, ◌⊎◌, inl, inr, ℕ, suc, ◌+◌, ◌*◌, ◌<◌, ◌≤◌, true, false, List, [], ◌∷◌, ◌++◌, length, map, Some, sym, ap, ◌∙◌, subst, arith, length-append}
use Rattle.std.proofs.lemmas.Bool.{cases_eq}
use Rattle.std.proofs.lemmas.Option.{same_Some}
use Rattle.std.specs.Prelude.{slice_get, flat_map, option_map}
use Rattle.bus_base.specs.Samples.{other_of}
use Rattle.bus_base.specs.declared.samples.Channel.{Channel}
use Rattle.bus_base.specs.declared.samples.Drive.{Drive}
use Rattle.bus_base.specs.declared.samples.Pair.{Pair}
use Rattle.bus_base.specs.declared.samples.Part.{Part}
use Rattle.bus_base.specs.declared.samples.Part.TheVariants.{Command, Second}
use Rattle.bus_words.specs.declared.word.Word.{Word}
use Rattle.bus_line.specs.Past.{quiet_ticks, ended_now}
use Rattle.bus_line.specs.Channels.{on_channel, bursts}
use Rattle.bus_formats.specs.Accepted.{HasStationRanges, IsAccepted}
use Rattle.bus_formats.specs.Plans.{StationData}
use Rattle.bus_formats.specs.declared.fault.Hit.{Hit}
use Rattle.bus_model.specs.Control.{so_far}
use Rattle.bus_model.specs.Course.{Course, quiet_from}
use Rattle.bus_model.specs.Message.{After, answer_to, delivered, unmoved, after_answer, blocks_taken}
use Rattle.bus_model.specs.Orders.{due_after}
use Rattle.bus_model.specs.Standing.{is_owed, is_promise}
use Rattle.bus_model.specs.Starts.{starts}
use Rattle.bus_model.specs.Strikes.{ShownBurst, hits_on, struck, burst_end, Answer}
use Rattle.bus_model.specs.World.{Trace, is_present}
use Rattle.bus_model.specs.WorldLog.{present_stations, ended_by}
use Rattle.bus_law_control.proofs.Holding.{ended-before, heard-nothing}
use Rattle.bus_law_duties.specs.Duties.{AtMostOneOwes}
use Rattle.bus_law_duties.proofs.Settled.{others-stay}
use Rattle.bus_law_line.specs.Senders.{Sender, attempt_to_come}
use Rattle.bus_law_messages.specs.Promises.{Listens}
use Rattle.bus_law_parts.specs.Parts.{part_ticks, HitsFit}
use Rattle.bus_law_stations.specs.Turns.{KeepsControl, Serves}
use Rattle.bus_law_table.specs.Happened.{took_in, blocks_in as blocks_now, burst_found}
use Rattle.bus_law_table.proofs.Pairing.{filter_map-map}
use Rattle.bus_law_table.proofs.Takes.{unheard-takes}
use Rattle.bus_law_phases.specs.Answers.{IsStatusWithData, burst_read, ShowsWhole, HoldsBesideShown, attempts_ended, AnswerOver}
use Rattle.bus_law_phases.specs.Moments.{Owes, IsHolder, IsServer, IsAfter, Underway}
use Rattle.bus_law_phases.specs.Pairing.{Beside}
use Rattle.bus_law_phases.specs.PartRuns.{RunsAlone, PartRuns}
use Rattle.bus_law_phases.specs.Passages.{HoldsAlone, IsOrderly, Passage}
use Rattle.bus_law_phases.specs.Scenarios.{Scenario, trace_at, shown_at, driven_at, course_of, standing_of, IsPresentAt, NoneTakesFrom, StaysFrom}
use Rattle.bus_law_phases.specs.Silences.{GoesOnTo}
use Rattle.bus_law_phases.proofs.AnswerBegun.{OwesIt, all-owe-it, not-for}
use Rattle.bus_law_phases.proofs.AnswerLeft.{answer_burst, holder-left, IsSettled, took-none, spoken-settled, listened-settled}
use Rattle.bus_law_phases.proofs.AnswerQuiet.{still-owes, same-owed, beside-mapped, beside-kept}
use Rattle.bus_law_phases.proofs.AnswerSending.{Speaks, listens-from, keeps-more, holder-keeps, holder-holds}
use Rattle.bus_law_phases.proofs.AnswerServers.{other-address, owes-none, server-of}
use Rattle.bus_law_phases.proofs.AnswerSpeaking.{replies-from}
use Rattle.bus_law_phases.proofs.AnswerTicks.{answer-ticks}
use Rattle.bus_law_phases.proofs.PartTicks.{PartTicks}
use Rattle.bus_law_phases.proofs.PartEnding.{part-ended, all-quiet, part-bursts, fresh-after, quiet-after}
use Rattle.bus_law_phases.proofs.PartPassing.{part-passes}
use Rattle.bus_law_phases.proofs.PartQuiet.{part-quiet}
use Rattle.bus_law_phases.proofs.Pairs.{each-of, beside-with}
use Rattle.bus_law_phases.proofs.Resting.{no-attempt}
use Rattle.bus_law_phases.proofs.Spares.{all-at, one-gives}
use Rattle.bus_law_phases.proofs.Staying.{long-at}

module _ (w : Scenario) (t place : ℕ) (holder : StationData) (part : Part) (burst : ShownBurst) (afters : List After) (answer : Answer) (hits : List Hit)
    (later_course : Course) (lag : w.lag ≡ 3) (accepted : IsAccepted w.plan) (stays : StaysFrom w t)
    (moment : Underway w (trace_at w t) place holder burst.channel (burst_end burst) part afters) (no_command : part ≢ Command)
    (found : answer_to burst afters ≡ Some answer) (spells : IsStatusWithData answer)
    (named : hits_on w.plan.faults (attempt_to_come w.plan.faults part (driven_at w t)) part ≡ hits) (fits : HitsFit part hits answer.words)
    (some : 0 < part_ticks hits answer.words) (goes : GoesOnTo w (shown_at w t) (suc t))
    (one : AtMostOneOwes (map (after_answer w.lag w.loads (answer_burst burst.channel (length (shown_at w t)) hits answer.words)) afters))
    (controls : HoldsBesideShown w (shown_at w t) holder burst.channel hits answer.words
    (burst_read (answer_burst burst.channel (length (shown_at w t)) hits answer.words)) later_course)
    (answerer : ℕ) (answering : StationData) (apart : answerer ≢ place) (at : IsPresentAt w answerer answering)
    (owed : Owes w (shown_at w t) answering burst.channel (burst_end burst) part answer.words false)
    (due : due_after answering.terminal (burst_end burst) ≡ length (shown_at w t)) (own_address : answering.terminal.address ≡ answer.address)
    (declines : answer.acceptance ≡ false) (starts_now : answer.start ≡ length (shown_at w t)) where
  abbrev past : List Pair
  past = shown_at w t

  abbrev c : Channel
  c = burst.channel

  abbrev e : ℕ
  e = burst_end burst

  abbrev words : List Word
  words = answer.words

  abbrev shows : ShownBurst
  shows = answer_burst c (length past) hits words

  abbrev s : Sender
  s = record { station = answerer; channel = c; part = part; words = words }

  long : length (shown_at w t) ≡ t
  long = long-at w t stays

  stays-here : NoneTakesFrom w (length (shown_at w t))
  stays-here = subst (NoneTakesFrom w) (sym long) stays.takes

  -- ---- who owes the answer, and who listens

  address-of : (other : ℕ) (station : StationData) → IsPresentAt w other station → other ≢ answerer → station.terminal.address ≢ answer.address
  address-of = other-address w (trace_at w t) place holder c e part burst afters answer accepted moment found answerer answering at own_address

  unowed : (other : ℕ) (station : StationData) (after : After) → IsPresentAt w other station → other ≢ answerer → IsServer w past c e part station after →
      OwesIt answer after → is_owed after.duty ≡ false
  unowed = owes-none w (trace_at w t) place holder c e part burst afters answer accepted moment found answerer answering at own_address

  abbrev Now : StationData → After → Type 0
  Now = IsAfter w past place holder c e part

  table-of : (other : ℕ) (station : StationData) → IsPresentAt w other station → other ≢ place →
      (after : After) × IsServer w past c e part station after × OwesIt answer after
  table-of = server-of w (trace_at w t) place holder c e part burst afters answer accepted moment found answerer answering at own_address

  listens : (other : ℕ) (station : StationData) → IsPresentAt w other station → other ≢ place → other ≢ answerer →
      Listens w.lag station (starts w.plan station) w.loads w.outside past c
  listens other station there away aside =
      let known_so = table-of other station there away in
      listens-from w past station c e part known_so.0.duty known_so.1.duty (unowed other station known_so.0 there aside known_so.1 known_so.2)

  speaks : Speaks w past place holder c part words hits answerer answering
  speaks = record {
    there = moment.at;
    holds = moment.holds;
    same = controls.same;
    silent = controls.silent;
    at = at;
    apart = apart;
    replies = replies-from w past answering c e part words owed due;
    listens = listens;
    stays = stays-here;
  }

  -- ---- the ticks

  abbrev m : ℕ
  m = part_ticks hits words + w.lag

  abbrev now : Trace
  now = trace_at w t

  sending : PartTicks w t (record { station = answerer; channel = c; part = part; words = words }) hits 0
  sending =
      answer-ticks w t place holder c part words answerer answering hits lag stays speaks (moment.fresh c answerer) moment.spent moment.rests no_command named
      fits some goes

  abbrev x : Pair
  x = sending.newest

  abbrev ticks : List Pair
  ticks = sending.ticks

  abbrev driven : List Drive
  driven = sending.driven

  abbrev sent : List (List Drive)
  sent = sending.sent

  abbrev whole : PartRuns w now s hits (part_ticks hits words + suc w.lag) (x ∷ ticks) (driven ∷ sent)
  whole = sending.whole

  abbrev alone : RunsAlone w.lag c ticks
  alone = sending.first.alone

  abbrev later : List Pair
  later = (x ∷ ticks) ++ past

  quiet : on_channel (other_of c) (x ∷ ticks) ≡ quiet_ticks (length (x ∷ ticks))
  quiet = all-quiet w now s hits lag moment.spent moment.rests (moment.fresh (other_of c)) some x ticks driven sent whole

  many : length ticks ≡ w.lag + part_ticks hits words
  many = let count = sending.many in omega (arith, count)

  count-before : length (ticks ++ past) ≡ length ticks + length past
  count-before = length-append ticks past

  -- the tick in which the end is known
  known : length (ticks ++ past) ≡ burst_end shows + w.lag
  known = omega (arith, count-before, many)

  ended : ended_now w.lag (on_channel c (x ∷ (ticks ++ past))) ≡ Some (burst_read shows)
  ended =
      let ticks_are : part_ticks hits words ≡ 40 * length (struck hits words) + 0 = omega arith in
      part-ended w now s hits lag moment.spent moment.rests (moment.fresh (other_of c)) some x ticks driven sent whole
      ∙ ap (λ n. Some (record { first = length past; ticks = n; slots = struck hits words })) ticks_are

  quiet-then : quiet_from later ≡ burst_end shows
  quiet-then =
      let both = part-quiet w.lag part hits words c (x ∷ ticks) past lag fits some whole.shown quiet in
      omega (arith, both, known)

  shows-whole : ShowsWhole w.lag c (burst_read shows) past x ticks
  shows-whole = record { alone = alone; ended = ended; known = known; quiet = quiet-then }

  -- ---- the one in control

  course-later : course_of w holder later ≡ later_course
  course-later = controls.then_is x ticks sending.first shows-whole

  holds-later : (course_of w holder later).holds ≡ true
  holds-later = ap (λ (d : Course). d.holds) course-later ∙ controls.kept

  kept : KeepsControl w.lag holder (starts w.plan holder) w.loads w.outside past (x ∷ ticks)
  kept =
      keeps-more w past place holder c part words hits answerer answering lag speaks x ticks
      (holder-keeps w past place holder c part words hits answerer answering lag speaks ticks sending.first)
      (holder-holds w past place holder c part words hits answerer answering lag speaks ticks sending.first) holds-later

  -- ---- each station

  prompt : (other : ℕ) (station : StationData) → IsPresentAt w other station → 8 ≤ station.terminal.delay
  prompt other station there = (all-at HasStationRanges w.plan.stations other station accepted.ranges there.there).terminal.delay.0

  abbrev tick : ℕ
  tick = burst_end shows + w.lag

  abbrev settled : After → After
  settled = after_answer w.lag w.loads shows

  -- the one in control is as it was; another one is what the table says
  abbrev Left : StationData → After → Type 0
  Left station after =
      ((station ≡ holder) × IsHolder w later station (settled after) × (settled after ≡ unmoved after.station))
      ⊎ ((other : ℕ) × (other ≢ place) × IsPresentAt w other station × IsSettled w past later tick c shows station after)

  left-other : (other : ℕ) (station : StationData) (after : After) → IsPresentAt w other station → IsServer w past c e part station after →
      OwesIt answer after → IsSettled w past later tick c shows station after
  left-other other station after there server owes_it = elim (cases_eq other answerer) [
    | inl same ↦ (
        let here : slice_get w.plan.stations answerer ≡ Some station = ap (slice_get w.plan.stations) (sym same) ∙ there.there in
        let is : answering ≡ station = same_Some answering station (sym at.there ∙ here) in
        let owes_now = still-owes w past station c e part words false after.duty
        (subst (λ st. Owes w past st c e part words false) is owed) (ap (λ (st : StationData). due_after st.terminal e) (sym is) ∙ due) server.duty in
        spoken-settled w past x ticks c part hits words e lag some fits many alone whole.shown quiet stays-here other station there after server
        (same-owed w past station c e part words after.duty (ap (λ (st : StationData). (standing_of w st past).duty) (sym is) ∙ owed.duty) owes_now server.duty)
        (ap (λ (st : StationData). due_after st.terminal e) (sym is) ∙ due))
    | inr aside ↦ listened-settled w past x ticks c part hits words e lag some fits many alone whole.shown quiet stays-here other station there after server
        (unowed other station after there aside server owes_it)
        (not-for hits answer station.terminal.address spells (address-of other station there aside)) (prompt other station there)
  ]

  left-one : (station : StationData) (after : After) → Now station after → OwesIt answer after → Left station after
  left-one station after is owes_it = elim is [
    | inl own ↦ (
        let none : is_promise after.duty ≡ false = ap is_promise own.1.duty in
        let a = others-stay w.lag w.loads shows after none in
        let before : IsHolder w past holder after = subst (λ st. IsHolder w past st after) own.0 own.1 in
        inl (own.0, subst (IsHolder w later station) (sym a) (subst (λ st. IsHolder w later st (unmoved after.station)) (sym own.0) (holder-left w past (x ∷ ticks) holder moment.holds kept after before)), a))
    | inr server ↦ inr (server.0, server.1, server.2, left-other server.0 station after server.2 server.3 owes_it)
  ]

  left : Beside Left (present_stations w.lag w.plan w.loads w.outside w.absent) afters
  left =
      beside-with Now Left (OwesIt answer) (present_stations w.lag w.plan w.loads w.outside w.absent) afters moment.stations
      (each-of (OwesIt answer) afters (all-owe-it burst afters answer moment.one found)) left-one

  after-one : (station : StationData) (after : After) → Left station after → IsAfter w later place holder c (burst_end shows) Second station (settled after)
  after-one station after is = elim is [
    | inl own ↦ inl (own.0, own.1)
    | inr other ↦ inr (other.0, other.1, other.2, other.3.server)
  ]

  left-of : (other : ℕ) (station : StationData) → IsPresentAt w other station → other ≢ place → course_of w station later ≡ course_of w station past
  left-of other station there away =
      let known_so = table-of other station there away in (left-other other station known_so.0 there known_so.1 known_so.2).course

  serves-later : (other : ℕ) (station : StationData) → IsPresentAt w other station → other ≢ place → Serves (course_of w station later)
  serves-later other station there away =
      let before = moment.serves other station there away in record {
        serves = ap (λ (d : Course). d.holds) (left-of other station there away) ∙ before.serves;
        idle = ap (λ (d : Course). d.runs) (left-of other station there away) ∙ before.idle;
      }

  moment-then : Underway w record { shown = later; driven = (driven ∷ sent) ++ driven_at w t } place holder c (burst_end shows) Second (map settled afters)
  moment-then =
      let over = quiet-after w now s hits lag moment.spent moment.rests (moment.fresh (other_of c)) some x ticks driven sent whole in record {
        rests = over.rests;
        fresh = fresh-after w now s hits lag moment.spent moment.rests (moment.fresh (other_of c)) some x ticks driven sent whole;
        spent = over.spent;
        at = moment.at;
        holds = holds-later;
        serves = serves-later;
        stations = beside-mapped Left (IsAfter w later place holder c (burst_end shows) Second) settled
            (present_stations w.lag w.plan w.loads w.outside w.absent) afters left after-one;
        one = one;
      }

  -- ---- what came to pass

  blocks-then : blocks_now w.lag w.plan w.loads w.outside w.absent (x ∷ (ticks ++ past)) (length (ticks ++ past))
      ≡ blocks_taken w.lag w.loads shows (map settled afters)
  blocks-then =
      ap (blocks_now w.lag w.plan w.loads w.outside w.absent (x ∷ (ticks ++ past))) known
      ∙ beside-kept Left (took_in w.lag w.plan w.loads w.outside w.absent (x ∷ (ticks ++ past)) tick)
      (λ y. option_map (delivered tick c (settled y)) (settled y).taken)
      (present_stations w.lag w.plan w.loads w.outside w.absent) afters left (λ st y is. elim is [
        | inl own ↦ ap (took_in w.lag w.plan w.loads w.outside w.absent (x ∷ (ticks ++ past)) tick) own.0
            ∙ took-none w (x ∷ (ticks ++ past)) tick holder
            (unheard-takes w.lag holder (starts w.plan holder) w.loads w.outside x (ticks ++ past)
            (heard-nothing w.lag holder (starts w.plan holder) w.loads w.outside (x ∷ (ticks ++ past)) holds-later))
            ∙ sym (ap (λ (a : After). option_map (delivered tick c a) a.taken) own.2)
        | inr other ↦ other.3.took
      ])
      ∙ sym (filter_map-map (λ (a : After). option_map (delivered tick c a) a.taken) settled afters)

  bursts-then : bursts w.lag (x ∷ (ticks ++ past)) ≡ bursts w.lag past ++ map burst_found (shows ∷ [])
  bursts-then =
      let ticks_are : part_ticks hits words ≡ 40 * length (struck hits words) + 0 = omega arith in
      part-bursts w now s hits lag moment.spent moment.rests (moment.fresh (other_of c)) some x ticks driven sent whole alone
      ∙ ap (λ n. bursts w.lag past ++ (record { channel = c; burst = record { first = length past; ticks = n; slots = struck hits words } } ∷ [])) ticks_are

  -- the attempt that ended, if any
  others-end : (other : ℕ) (station : StationData) → slice_get w.plan.stations other ≡ Some station → other ≢ place →
      is_present w.absent station ≡ true →
      ended_by w.lag w.plan w.loads w.outside w.absent (x ∷ (ticks ++ past)) (length (ticks ++ past)) station ≡ []
  others-end other station there away present =
      ap (attempts_ended w station (length (ticks ++ past))) (left-of other station record { there = there; present = present } away)
      ∙ no-attempt w station.terminal.address (length (ticks ++ past)) (length past) (course_of w station past).ended (omega (arith, count-before))
      (ended-before w.lag station (starts w.plan station) (so_far w.lag station (starts w.plan station) w.loads w.outside past).takes past)

  closes-then : flat_map (ended_by w.lag w.plan w.loads w.outside w.absent (x ∷ (ticks ++ past)) (length (ticks ++ past)))
      (present_stations w.lag w.plan w.loads w.outside w.absent) ≡ attempts_ended w holder tick later_course
  closes-then =
      one-gives (is_present w.absent) (ended_by w.lag w.plan w.loads w.outside w.absent (x ∷ (ticks ++ past)) (length (ticks ++ past))) w.plan.stations place
      holder moment.at.there moment.at.present others-end
      ∙ ap (attempts_ended w holder (length (ticks ++ past))) course-later
      ∙ ap (λ i. attempts_ended w holder i later_course) known

  next-tick : t + suc m ≡ suc (t + m)
  next-tick = omega arith

  held-then : HoldsAlone w later
  held-then = record {
    place = place;
    holder = holder;
    at = moment.at;
    holds = holds-later;
    others = λ other station there away. (serves-later other station there away).serves;
  }

  last : IsOrderly w (t + m)
  last = record {
    alone = sending.drives;
    hands = inl (subst (λ u. HoldsAlone w (shown_at w u)) next-tick
        (subst (HoldsAlone w) (sym (ap (λ (tr : Trace). tr.shown) sending.trace)) held-then));
    goes_on = sending.goes_on;
  }

  passage-then : Passage w t (t + suc m) record {
    blocks = blocks_taken w.lag w.loads shows (map settled afters);
    bursts = shows ∷ [];
    attempts = attempts_ended w holder tick later_course;
    commands = 0;
  }
  passage-then =
      part-passes w t m x (ticks ++ past) (blocks_taken w.lag w.loads shows (map settled afters)) shows
      (attempts_ended w holder tick later_course) 0 sending.passed sending.before
      (ap (λ (tr : Trace). tr.shown) sending.trace) blocks-then bursts-then closes-then sending.counted last

  known-at : t + suc m ≡ burst_end shows + suc w.lag
  known-at = omega (arith, long)

  pub over : AnswerOver w t (burst_end (answer_burst burst.channel (length (shown_at w t)) hits answer.words) + suc w.lag) place holder burst afters
      (answer_burst burst.channel (length (shown_at w t)) hits answer.words) later_course
  over =
      let shows_so = ap (λ (tr : Trace). tr.shown) sending.trace in
      let then_shown : shown_at w (burst_end shows + suc w.lag) ≡ later = ap (shown_at w) (sym known-at) ∙ shows_so in
      record {
        moment = subst (λ u. Underway w (trace_at w u) place holder c (burst_end shows) Second (map settled afters)) known-at
            (subst (λ tr. Underway w tr place holder c (burst_end shows) Second (map settled afters)) (sym sending.trace) moment-then);
        passed = subst (λ u. Passage w t u record {
          blocks = blocks_taken w.lag w.loads shows (map settled afters);
          bursts = shows ∷ [];
          attempts = attempts_ended w holder tick later_course;
          commands = 0;
        }) known-at passage-then;
        quiet = ap quiet_from then_shown ∙ quiet-then;
        course = ap (course_of w holder) then_shown ∙ course-later;
        newest = x;
        ticks = ticks;
        shown = then_shown;
        whole = shows-whole;
      }
