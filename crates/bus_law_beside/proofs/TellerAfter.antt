-- The station whose answer was abandoned, where the end of the command beside it becomes known: it obeys that, and its answer is over.
use Rattle.std.proofs.Common.{◌≡◌, inl, inr, ℕ, suc, ◌+◌, ◌<◌, ◌≤◌, Bool, true, false, List, [], ◌∷◌, ◌++◌, length, Some, None, refl, sym, ap, ◌∙◌, subst, arith, length-append, append_assoc}
use Rattle.std.proofs.lemmas.Bool.{true≢false}
use Rattle.std.specs.Prelude.{◌||◌, is_some, is_none}
use Rattle.bus_base.specs.Samples.{other_of}
use Rattle.bus_base.specs.declared.samples.Channel.{Channel}
use Rattle.bus_base.specs.declared.samples.Pair.{Pair}
use Rattle.bus_base.specs.declared.samples.Part.TheVariants.{Command, First}
use Rattle.bus_base.specs.declared.samples.Sample.{Sample}
use Rattle.bus_words.specs.declared.word.Word.{Word}
use Rattle.bus_line.specs.Past.{Burst, runs, ended_now, end_of, rest_of, end_since, heard_within, quiet_ticks}
use Rattle.bus_line.specs.Channels.{on_channel}
use Rattle.bus_formats.specs.Plans.{TerminalData, StationData}
use Rattle.bus_formats.specs.declared.fault.Hit.{Hit}
use Rattle.bus_model.specs.Hearing.{Moment, Hearing, heard_on}
use Rattle.bus_model.specs.Orders.{Duty, free, owes, promises, Obeyed, Order, last_order, due_after}
use Rattle.bus_model.specs.Standing.{Standing, mark_on, is_from, superseded, ignored_from, is_owed, is_promise}
use Rattle.bus_model.specs.Starts.{starts, has_items}
use Rattle.bus_model.specs.Terminal.{given_up, is_over, standing, standing_after, took_now}
use Rattle.bus_model.specs.Course.{Course}
use Rattle.bus_model.specs.Control.{moment_of, outside_takes}
use Rattle.bus_law_line.specs.Shown.{first_samples}
use Rattle.bus_law_parts.specs.Parts.{part_ticks, part_sample, HitsFit}
use Rattle.bus_law_parts.proofs.PartBursts.{ended-part, rests-part, row-tail}
use Rattle.bus_law_stations.specs.Legs.{BeginsAnswer, HearsBurst, IsReady, obeyed_in, after_command, IsUnheeded}
use Rattle.bus_law_stations.specs.Silence.{quiet_moments}
use Rattle.bus_law_stations.specs.Turns.{Serves, moments_of}
use Rattle.bus_law_stations.proofs.BurstEnds.{obeyed, passed, marks-before}
use Rattle.bus_law_stations.proofs.Due.{not-from, obeyed-due}
use Rattle.bus_law_stations.proofs.LegTicks.{heard-append, heeded-later}
use Rattle.bus_law_stations.proofs.Ready.{other-mark}
use Rattle.bus_law_stations.proofs.Resting.{heard-long}
use Rattle.bus_law_messages.specs.Ends.{HeardCommand}
use Rattle.bus_law_messages.specs.Settled.{IsFree, IsServing}
use Rattle.bus_law_messages.proofs.Heard.{hearing-long}
use Rattle.bus_law_messages.proofs.Listening.{moments-shown, moments-many, this-or-other}
use Rattle.bus_law_phases.specs.Moments.{Hears, HasDuty}
use Rattle.bus_law_phases.specs.PartRuns.{burst_shown}
use Rattle.bus_law_phases.specs.Scenarios.{Scenario, course_of, hearing_of, standing_of}
use Rattle.bus_law_phases.proofs.Within.{within-still, within-late}
use Rattle.bus_law_line.proofs.Rows.{length-first}
use Rattle.bus_law_beside.proofs.HeardFrom.{ObeysIt, AnswersIt, PassesIt, heard-from}
use Rattle.bus_law_beside.proofs.Teller as teller
use Rattle.bus_law_beside.proofs.TellerBegins.{TellerBegins}

both-false : (a b : Bool) → a ≡ false → b ≡ false → (a || b) ≡ false
both-false a b first second = rw (first, second) refl

module _ (w : Scenario) (station : StationData) (before : List Pair) (c d : Channel) (words : List Word) (o : Pair) (os : List Pair)
    (old_row : ℕ → Sample) (old_known : ℕ) (old_burst : Burst)
    (b : TellerBegins w.lag station (starts w.plan station) w.loads w.outside before c d words o os old_row old_known old_burst)
    (x : Pair) (ticks : List Pair) (hits : List Hit) (command : List Word)
    (so : teller.Hears w.lag station (starts w.plan station) w.loads w.outside before c d words o os old_row old_known old_burst b ticks)
    (old : on_channel c ((x ∷ ticks) ++ (o ∷ os)) ≡ first_samples old_row (length ((x ∷ ticks) ++ (o ∷ os))))
    (shown : on_channel d (x ∷ ticks) ≡ first_samples (part_sample hits command) (part_ticks hits command + suc w.lag))
    (many : length ticks ≡ w.lag + part_ticks hits command) (fits : HitsFit Command hits command) (some : 0 < part_ticks hits command)
    (over : old_known ≤ length (ticks ++ (o ∷ os)))
    (stays : (tick : ℕ) → length before ≤ tick → outside_takes w.lag station (starts w.plan station) w.loads w.outside tick w.outside ≡ []) where
  abbrev k : ℕ
  k = w.lag

  abbrev t : TerminalData
  t = station.terminal

  abbrev olds : List Pair
  olds = o ∷ os

  abbrev past : List Pair
  past = olds ++ before

  abbrev later : List Pair
  later = (x ∷ ticks) ++ past

  abbrev course : Course
  course = course_of w station before

  abbrev hearing : Hearing
  hearing = hearing_of w station before

  abbrev heard : List Moment
  heard = teller.heard_then w.lag station (starts w.plan station) w.loads w.outside before c d words o os old_row old_known old_burst b

  abbrev s : Standing
  s = teller.stands_then w.lag station (starts w.plan station) w.loads w.outside before c d words o os old_row old_known old_burst b

  abbrev ms : List Moment
  ms = moments_of course ticks

  abbrev burst : Burst
  burst = burst_shown (length past) hits command

  -- the first tick after it
  abbrev e : ℕ
  e = length past + part_ticks hits command

  three : w.lag ≡ 3
  three = b.three

  small : w.lag < 40
  small = omega (arith, three)

  long-heard : length heard ≡ length past
  long-heard =
      let a = length-append (moments_of course olds) hearing.ticks in
      let n = moments-many course olds in
      let z = length-append olds before in
      let h = hearing-long w.lag station (starts w.plan station) w.loads w.outside before in
      omega (arith, a, n, z, h)

  -- ---- what was heard

  abbrev hears_before : Hearing
  hears_before = record { memory = hearing.memory; ticks = heard }

  abbrev hears_after : Hearing
  hears_after = record { memory = hearing.memory; ticks = moment_of x course ∷ (ms ++ heard) }

  ready : IsReady w.lag station.terminal s d heard
  ready = teller.ready w.lag station (starts w.plan station) w.loads w.outside before c d words o os old_row old_known old_burst b

  hears : HearsBurst w.lag station.terminal s d heard ms
  hears = teller.hears-command w.lag station (starts w.plan station) w.loads w.outside before c d words o os old_row old_known old_burst b ticks so

  beside : IsUnheeded w.lag station.terminal s (other_of d) (moment_of x course ∷ (ms ++ heard))
  beside =
      subst (λ a. IsUnheeded w.lag station.terminal s a (moment_of x course ∷ (ms ++ heard))) b.cd
      (teller.old-unheeded w.lag station (starts w.plan station) w.loads w.outside before c d words o os old_row old_known old_burst b (x ∷ ticks) old).0

  heard-d : heard_on d (moments_of course (x ∷ ticks) ++ heard)
      ≡ first_samples (part_sample hits command) (part_ticks hits command + suc w.lag) ++ heard_on d heard
  heard-d =
      heard-append d (moments_of course (x ∷ ticks)) heard ∙ ap (λ xs. xs ++ heard_on d heard) (moments-shown d course (x ∷ ticks) ∙ shown)

  long-d : length (heard_on d heard) ≡ length past
  long-d = heard-long d heard ∙ long-heard

  ended : ended_now w.lag (heard_on d (moment_of x course ∷ (ms ++ heard))) ≡ Some burst
  ended =
      ap (ended_now w.lag) heard-d
      ∙ ended-part w.lag Command hits command three fits (heard_on d heard) some hears.rests
      ∙ ap (λ n. Some (burst_shown n hits command)) long-d

  known : length (ms ++ heard) ≡ end_of burst + w.lag
  known =
      let all = length-append ms heard in
      let n = moments-many course ticks in
      omega (arith, all, n, long-heard, many)

  -- no burst runs any more
  rests-c : runs w.lag (heard_on c (moments_of course (x ∷ ticks) ++ heard)) ≡ false
  rests-c =
      ap (runs w.lag) (teller.old-past w.lag station (starts w.plan station) w.loads w.outside before c d words o os old_row old_known old_burst b
      (x ∷ ticks) old)
      ∙ b.old.rests (length ((x ∷ ticks) ++ olds)) (omega (arith, over))

  rests-d : runs w.lag (heard_on d (moments_of course (x ∷ ticks) ++ heard)) ≡ false
  rests-d =
      ap (runs w.lag) heard-d
      ∙ rests-part w.lag Command hits command three fits (suc w.lag) (heard_on d heard) (omega arith)

  rests : (a : Channel) → runs w.lag (heard_on a (moments_of course (x ∷ ticks) ++ heard)) ≡ false
  rests a = elim (this-or-other c a) [
    | inl same ↦ ap (λ y. runs w.lag (heard_on y (moments_of course (x ∷ ticks) ++ heard))) same ∙ rests-c
    | inr other ↦ ap (λ y. runs w.lag (heard_on y (moments_of course (x ∷ ticks) ++ heard))) (other ∙ sym b.dc) ∙ rests-d
  ]

  -- ---- what it made of the command

  abbrev obeys : Order → Obeyed
  obeys order = obeyed_in station.terminal w.loads (end_of burst + w.lag) s d order (rest_of burst) (has_items course.left)

  obeys-it : ObeysIt w.lag station w.loads d burst hears_before course hears_after
  obeys-it order last =
      let so = obeyed w.lag station.terminal w.loads hearing.memory d heard ms (moment_of x course) burst ready beside ended hears small order last in (
        so.0,
        so.3 ∙ ap (λ tick. after_command s d (end_of burst) so.0 (obeyed_in station.terminal w.loads tick s d order (rest_of burst) (has_items course.left)))
            known,
        so.4 ∙ ap (λ tick. (obeyed_in station.terminal w.loads tick s d order (rest_of burst) (has_items course.left)).taken) known,
      )

  passes-it : PassesIt w.lag station w.loads d burst hears_before hears_after
  passes-it none =
      passed w.lag station.terminal w.loads hearing.memory d heard ms (moment_of x course) burst ready beside ended hears small none
      (ap is_promise (teller.then-duty w.lag station (starts w.plan station) w.loads w.outside before c d words o os old_row old_known old_burst b))

  answers-it : AnswersIt w.lag station w.loads d burst hears_before course hears_after
  answers-it order last mays =
      subst (λ tick. let o : Obeyed = obeyed_in station.terminal w.loads tick s d order (rest_of burst) (has_items course.left) in
      let later : List Moment = quiet_moments mays ++ (moment_of x course ∷ (ms ++ heard)) in
      length later ≡ due_after station.terminal (end_of burst) → is_owed o.duty ≡ true →
      BeginsAnswer w.lag station.terminal (standing w.lag station.terminal w.loads hearing.memory later) d later
      × ((standing w.lag station.terminal w.loads hearing.memory later).duty ≡ o.duty)
      × ((standing w.lag station.terminal w.loads hearing.memory later).part ≡ First)) known
      (λ long owed. obeyed-due w.lag station.terminal w.loads hearing.memory d heard ms (moment_of x course) burst order mays small ready hears beside ended
      last owed (ap (λ a. runs w.lag (heard_on a (moment_of x course ∷ (ms ++ heard)))) (sym b.cd) ∙ rests-c) long)

  -- ---- at the level of the station

  is-leg : teller.Hears w.lag station (starts w.plan station) w.loads w.outside before c d words o os old_row old_known old_burst b ticks
  is-leg = so

  abbrev stays-all : (tick : ℕ) → length before ≤ tick → tick < length before + length ((x ∷ ticks) ++ olds) →
      outside_takes w.lag station (starts w.plan station) w.loads w.outside tick w.outside ≡ []
  stays-all tick low high = stays tick low

  after-hears : hearing_of w station later ≡ hears_after
  after-hears =
      ap (hearing_of w station) (sym (append_assoc (x ∷ ticks) olds before))
      ∙ teller.end-hears w.lag station (starts w.plan station) w.loads w.outside before c d words o os old_row old_known old_burst b x ticks so stays-all

  after-same : course_of w station later ≡ course
  after-same =
      ap (course_of w station) (sym (append_assoc (x ∷ ticks) olds before))
      ∙ teller.end-same w.lag station (starts w.plan station) w.loads w.outside before c d words o os old_row old_known old_burst b x ticks so stays-all

  before-hears : hearing_of w station past ≡ hears_before
  before-hears =
      teller.then-hears w.lag station (starts w.plan station) w.loads w.outside before c d words o os old_row old_known old_burst b
      (λ tick low high. stays tick low)

  before-same : course_of w station past ≡ course
  before-same =
      teller.then-same w.lag station (starts w.plan station) w.loads w.outside before c d words o os old_row old_known old_burst b
      (λ tick low high. stays tick low)

  pub teller-heard : HeardCommand w.lag station (starts w.plan station) w.loads w.outside past (x ∷ ticks) d burst
  teller-heard =
      heard-from w.lag station w.loads d burst (starts w.plan station) w.outside past (x ∷ ticks) hears_before hears_after course before-hears before-same
      after-hears after-same refl obeys-it answers-it passes-it

  -- ---- what it owes then

  pub serves-then : Serves (course_of w station later)
  serves-then = record {
    serves = ap (λ (a : Course). a.holds) after-same ∙ b.answers.serves.serves;
    idle = ap (λ (a : Course). a.runs) after-same ∙ b.answers.serves.idle;
  }

  -- what was sent on a channel is over
  heeds-sent : (a : Channel) → ignored_from w.lag (heard_on a (moments_of course (x ∷ ticks) ++ heard)) (mark_on s.sent a) ≡ false
  heeds-sent a = elim (this-or-other c a) [
    | inl same ↦ ap (λ y. ignored_from w.lag (heard_on y (moments_of course (x ∷ ticks) ++ heard)) (mark_on s.sent y)) same
        ∙ ap (ignored_from w.lag (heard_on c (moments_of course (x ∷ ticks) ++ heard)))
        (teller.then-mark w.lag station (starts w.plan station) w.loads w.outside before c d words o os old_row old_known old_burst b)
        ∙ ap is_none (teller.ended-by w.lag station (starts w.plan station) w.loads w.outside before c d words o os old_row old_known old_burst b
        (x ∷ ticks) old (omega (arith, over)))
    | inr other ↦ ap (λ y. ignored_from w.lag (heard_on y (moments_of course (x ∷ ticks) ++ heard)) (mark_on s.sent y)) (other ∙ sym b.dc)
        ∙ ap (λ xs. ignored_from w.lag xs (mark_on s.sent d)) (heard-append d (moments_of course (x ∷ ticks)) heard)
        ∙ heeded-later w.lag (heard_on d (moments_of course (x ∷ ticks))) (heard_on d heard) (mark_on s.sent d) ready.hears
  ]

  -- its channel was quiet since the command
  front : List Sample
  front = first_samples (part_sample hits command) (part_ticks hits command) ++ heard_on d heard

  silent-since : (until : ℕ) → heard_within (heard_on d (moments_of course (x ∷ ticks) ++ heard)) e until ≡ false
  unfolding front
  silent-since until =
      let rows = length-append (first_samples (part_sample hits command) (part_ticks hits command)) (heard_on d heard) in
      let row = length-first (part_sample hits command) (part_ticks hits command) in
      ap (λ xs. heard_within xs e until) (heard-d ∙ ap (λ xs. xs ++ heard_on d heard) (row-tail w.lag Command hits command three fits (suc w.lag))
      ∙ append_assoc (quiet_ticks (suc w.lag)) (first_samples (part_sample hits command) (part_ticks hits command)) (heard_on d heard))
      ∙ within-still (suc w.lag) front e until (within-late front e until (omega (arith, rows, row, long-d)))

  long-later : length later ≡ e + suc w.lag
  long-later =
      let all : length ((x ∷ ticks) ++ past) ≡ length (x ∷ ticks) + length past = length-append (x ∷ ticks) past in omega (arith, all, many)

  early : length later ≤ due_after station.terminal e
  early = omega (arith, long-later, b.prompt, three)

  module _ (u : Standing) (stands : standing_of w station later ≡ u) (sent : u.sent ≡ s.sent) where
    hears-later : Hears w later station
    hears-later = record {
      serves = serves-then;
      rests = λ a. ap (λ (h : Hearing). runs w.lag (heard_on a h.ticks)) after-hears ∙ rests a;
      heeds = λ a. ap (λ (v : Standing). ignored_from w.lag (heard_on a (hearing_of w station later).ticks) (mark_on v.sent a)) stands
          ∙ ap (λ m. ignored_from w.lag (heard_on a (hearing_of w station later).ticks) (mark_on m a)) sent
          ∙ ap (λ (h : Hearing). ignored_from w.lag (heard_on a h.ticks) (mark_on s.sent a)) after-hears
          ∙ heeds-sent a;
    }

    is-free : (is_owed u.duty ≡ true → is_over w.lag station.terminal (heard_on u.channel (moments_of course (x ∷ ticks) ++ heard)) u ≡ true) →
        is_promise u.duty ≡ false → IsServing w.lag station (starts w.plan station) w.loads w.outside later
    is-free over none = record {
      serves = serves-then;
      free = subst (λ (v : Standing). IsFree w.lag station.terminal v (hearing_of w station later).ticks) (sym stands) record {
        rests = hears-later.rests;
        heeds = λ a. ap (λ (v : Standing). ignored_from w.lag (heard_on a (hearing_of w station later).ticks) (mark_on v.sent a)) (sym stands)
            ∙ hears-later.heeds a;
        over = λ owed. ap (λ (h : Hearing). is_over w.lag station.terminal (heard_on u.channel h.ticks) u) after-hears ∙ over owed;
        promise = none;
      };
    }

  -- by what the command leaves
  module _ (order : Order) (last : last_order station.terminal.address burst.slots ≡ Some order) where
    made : (slot_end : ℕ) × (standing_after w.lag station.terminal w.loads hears_after ≡ after_command s d (end_of burst) slot_end (obeys order))
        × (took_now w.lag station.terminal w.loads hears_after ≡ (obeys order).taken)
    made = obeys-it order last

    -- what stands of it then, by the tick in which the command's slot ended
    abbrev left : ℕ → Standing
    left slot_end = after_command s d e slot_end (obeys order)

    stands : (slot_end : ℕ) → standing_after w.lag station.terminal w.loads hears_after ≡ after_command s d (end_of burst) slot_end (obeys order) →
        standing_of w station later ≡ left slot_end
    stands slot_end is = ap (standing_after w.lag station.terminal w.loads) after-hears ∙ is

    newest : (slot_end : ℕ) → superseded w.lag (left slot_end) ≡ false
    newest slot_end =
        ap (is_from (e + w.lag)) (other-mark s d (Some slot_end))
        ∙ not-from (e + w.lag) (mark_on s.addressed (other_of d)) (λ m found.
        let before = marks-before w.lag station.terminal w.loads hearing.memory (other_of d) heard m found in omega (arith, before, long-heard))

    by-duty : (duty : Duty) → (obeys order).duty ≡ duty → HasDuty w later station d e First duty
    by-duty free none =
        is-free (left made.0) (stands made.0 made.1) refl (λ owed. absurd (true≢false (sym owed ∙ ap is_owed none))) (ap is_promise none)
    by-duty (owes ws acceptance) owed =
        let is = stands made.0 made.1 in record {
          hears = hears-later (left made.0) is refl;
          duty = ap (λ (v : Standing). v.duty) is ∙ owed;
          channel = ap (λ (v : Standing). v.channel) is;
          end = ap (λ (v : Standing). v.end) is;
          part_is = ap (λ (v : Standing). v.part) is;
          kept = ap (given_up w.lag station.terminal (heard_on d (hearing_of w station later).ticks)) is
              ∙ both-false (superseded w.lag (left made.0))
              (heard_within (heard_on d (hearing_of w station later).ticks) e (due_after station.terminal e)) (newest made.0)
              (ap (λ (h : Hearing). heard_within (heard_on d h.ticks) e (due_after station.terminal e)) after-hears
              ∙ silent-since (due_after station.terminal e));
          early = early;
        }
    by-duty (promises word transmitter) promised =
        let is = stands made.0 made.1 in record {
          hears = hears-later (left made.0) is refl;
          duty = ap (λ (v : Standing). v.duty) is ∙ promised;
          channel = ap (λ (v : Standing). v.channel) is;
          end = ap (λ (v : Standing). v.end) is;
          kept = ap (superseded w.lag) is ∙ newest made.0;
          silent = ap (λ (h : Hearing). heard_within (heard_on d h.ticks) e (length later)) after-hears ∙ silent-since (length later);
          ended = omega (arith, long-later);
          early = omega (arith, long-later, three);
        }

    pub teller-has : (duty : Duty) → (obeys order).duty ≡ duty → HasDuty w later station d e First duty
    teller-has duty is = by-duty duty is

  -- without one it is free
  pub teller-free : last_order station.terminal.address burst.slots ≡ None → HasDuty w later station d e First free
  teller-free none =
      let stands : standing_of w station later ≡ s = ap (standing_after w.lag station.terminal w.loads) after-hears ∙ (passes-it none).0 in
      is-free s stands refl
      (λ owed. ap (λ a. is_some (end_since w.lag (heard_on a (moments_of course (x ∷ ticks) ++ heard)) (due_after station.terminal s.end)))
      (teller.then-channel w.lag station (starts w.plan station) w.loads w.outside before c d words o os old_row old_known old_burst b)
      ∙ ap (λ n. is_some (end_since w.lag (heard_on c (moments_of course (x ∷ ticks) ++ heard)) n))
      (teller.then-due w.lag station (starts w.plan station) w.loads w.outside before c d words o os old_row old_known old_burst b)
      ∙ ap is_some (teller.ended-by w.lag station (starts w.plan station) w.loads w.outside before c d words o os old_row old_known old_burst b
      (x ∷ ticks) old (omega (arith, over))))
      (ap is_promise (teller.then-duty w.lag station (starts w.plan station) w.loads w.outside before c d words o os old_row old_known old_burst b))
