-- The station whose answer was abandoned, where the first word of the command beside it was struck: it heeds nothing, and sends its answer to its end.
use Rattle.std.proofs.Common.{◌≡◌, inl, inr, ℕ, suc, ◌+◌, ◌-◌, ◌<◌, ◌≤◌, Bool, true, false, List, [], ◌∷◌, ◌++◌, length, Some, None, refl, sym, ap, ◌∙◌, subst, arith, length-append, append_assoc}
use Rattle.std.proofs.lemmas.Bool.{cases_lt, true≢false, lt-ltb, le-ltb}
use Rattle.std.specs.Prelude.{nat_lt, if◌then◌else◌, is_some, is_none}
use Rattle.bus_base.specs.Samples.{sample_on}
use Rattle.bus_base.specs.declared.samples.Channel.{Channel}
use Rattle.bus_base.specs.declared.samples.Channel.TheVariants.{A, B}
use Rattle.bus_base.specs.declared.samples.Drive.{Drive}
use Rattle.bus_base.specs.declared.samples.Drive.TheVariants.{Silent}
use Rattle.bus_base.specs.declared.samples.Pair.{Pair}
use Rattle.bus_base.specs.declared.samples.Part.TheVariants.{Command, First}
use Rattle.bus_base.specs.declared.samples.Sample.{Sample}
use Rattle.bus_line.specs.Past.{Burst, runs, end_of, end_since}
use Rattle.bus_formats.specs.Forms.{command_words}
use Rattle.bus_formats.specs.Plans.{StationData}
use Rattle.bus_model.specs.Control.{StationSoFar, moment_of, outside_takes, drives_next}
use Rattle.bus_model.specs.Course.{Course}
use Rattle.bus_model.specs.Hearing.{Moment, Hearing, heard_on}
use Rattle.bus_model.specs.Message.{Present}
use Rattle.bus_model.specs.Orders.{owes, last_order, due_after}
use Rattle.bus_model.specs.Sending.{drive_sample}
use Rattle.bus_model.specs.Standing.{Standing, mark_on, ignored_from, is_promise}
use Rattle.bus_model.specs.Starts.{Entry, starts}
use Rattle.bus_model.specs.Strikes.{ShownAnswer, struck}
use Rattle.bus_model.specs.Terminal.{given_up, is_over, drive_of, drive_duty, standing, standing_after, drives, took_now, accepted_by}
use Rattle.bus_law_control.specs.Answers.{HeedsNothing}
use Rattle.bus_law_control.proofs.Accepting.{kept-later}
use Rattle.bus_law_control.proofs.Heedless.{heedless-stands, heedless-takes}
use Rattle.bus_law_control.proofs.OtherChannel.{duty-sends}
use Rattle.bus_law_line.specs.Shown.{first_samples}
use Rattle.bus_law_line.proofs.Sent.{drives-nothing}
use Rattle.bus_law_parts.specs.Parts.{part_ticks, part_sample}
use Rattle.bus_law_stations.specs.Legs.{AreUnheeded}
use Rattle.bus_law_stations.specs.Turns.{moments_of, TakesNothing}
use Rattle.bus_law_stations.proofs.LegTicks.{heard-append, heeded-later}
use Rattle.bus_law_stations.proofs.Turning.{serving-hears, serving-same, serving-sends}
use Rattle.bus_law_messages.specs.Settled.{IsFree, IsServing}
use Rattle.bus_law_messages.proofs.Listening.{moments-shown, moments-many, this-or-other}
use Rattle.bus_law_phases.specs.Scenarios.{Scenario, shown_at, course_of, hearing_of, standing_of}
use Rattle.bus_law_beside.specs.Beside.{BeginsBeside}
use Rattle.bus_law_beside.proofs.BesideBegins as start
use Rattle.bus_law_beside.proofs.BesideDrives as both
use Rattle.bus_law_beside.proofs.BesideEnd as end
use Rattle.bus_law_beside.proofs.OldStations as olds
use Rattle.bus_law_beside.proofs.RowLaws.{row-part, unheeded-row}
use Rattle.bus_law_beside.proofs.StopTicks.{BreaksOff}
use Rattle.bus_law_beside.proofs.Tail as tail
use Rattle.bus_law_beside.proofs.Teller as teller
use Rattle.bus_law_beside.proofs.TellerBegins.{over-silent, TellerBegins}
use Rattle.bus_law_beside.proofs.TwoSenders.{old_drive}

by-yes : (b : Bool) (x y : Drive) → b ≡ true → (if b then x else y) ≡ x
by-yes b x y on = rw on refl

by-no : (b : Bool) (x y : Drive) → b ≡ false → (if b then x else y) ≡ y
by-no b x y off = rw off refl

module _ (w : Scenario) (t place : ℕ) (holder : StationData) (stations : List Present) (entry : Entry) (old : ShownAnswer)
    (p : BeginsBeside w t place holder stations entry old) (o : Pair) (os : List Pair) (is_old : p.beside.ticks ≡ o ∷ os) (valid : Bool) (sends m : ℕ)
    (breaks : BreaksOff old (t - old.sent.start) valid sends m)
    (orders : both.OrdersIt w t place holder stations entry old p o os is_old valid sends m breaks) (off : valid ≡ false)
    (never : last_order p.beside.telling.terminal.address
    (struck (start.hits w t place holder stations entry old p o os is_old valid sends m breaks) (command_words entry.item.kind)) ≡ None) where
  abbrev before : List Pair
  before = shown_at w old.sent.start

  abbrev telling : StationData
  telling = p.beside.telling

  abbrev c : Channel
  c = old.sent.channel

  abbrev d : Channel
  d = tail.d w t place holder stations entry old p o os is_old valid sends m breaks orders

  abbrev ours : List Pair
  ours = tail.ours w t place holder stations entry old p o os is_old valid sends m breaks orders

  abbrev later : List Pair
  later = tail.later w t place holder stations entry old p o os is_old valid sends m breaks orders

  abbrev IsTail : List Pair → Type 0
  IsTail ys = tail.IsTail w t place holder stations entry old p o os is_old valid sends m breaks orders ys

  abbrev old_row : ℕ → Sample
  old_row = start.old_row w t place holder stations entry old p o os is_old valid sends m breaks

  abbrev old_known : ℕ
  old_known = start.old_known w t place holder stations entry old p o os is_old valid sends m breaks

  abbrev old_burst : Burst
  old_burst = start.old_burst w t place holder stations entry old p o os is_old valid sends m breaks (length (heard_on c (hearing_of w telling before).ticks))

  abbrev begins : TellerBegins w.lag telling (starts w.plan telling) w.loads w.outside before c d old.sent.words o os old_row old_known old_burst
  begins = start.teller-begins w t place holder stations entry old p o os is_old valid sends m breaks

  abbrev course : Course
  course = course_of w telling before

  abbrev hearing : Hearing
  hearing = hearing_of w telling before

  abbrev heard : List Moment
  heard = teller.heard_then w.lag telling (starts w.plan telling) w.loads w.outside before c d old.sent.words o os old_row old_known old_burst begins

  abbrev s : Standing
  s = teller.stands_then w.lag telling (starts w.plan telling) w.loads w.outside before c d old.sent.words o os old_row old_known old_burst begins

  -- what it hears from the command on
  abbrev ms : List Pair → List Moment
  ms ys = moments_of course (ys ++ ours)

  abbrev row : ℕ → Sample
  row = part_sample (start.hits w t place holder stations entry old p o os is_old valid sends m breaks) (command_words entry.item.kind)

  small : w.lag < 40
  small = let lag = p.lag in omega (arith, lag)

  stays : (tick : ℕ) → length before ≤ tick → outside_takes w.lag telling (starts w.plan telling) w.loads w.outside tick w.outside ≡ []
  stays tick low =
      let long = olds.long-before w t place holder stations entry old p in p.beside.stays.takes p.beside.teller telling p.beside.teller_at tick (omega (arith, long, low))

  less : (y : Pair) (ys : List Pair) → IsTail (y ∷ ys) → IsTail ys
  less = tail.less w t place holder stations entry old p o os is_old valid sends m breaks orders

  -- ---- nothing counts

  duty : s.duty ≡ owes old.sent.words false
  duty = teller.then-duty w.lag telling (starts w.plan telling) w.loads w.outside before c d old.sent.words o os old_row old_known old_burst begins

  due : due_after telling.terminal s.end ≡ length hearing.ticks
  due = teller.then-due w.lag telling (starts w.plan telling) w.loads w.outside before c d old.sent.words o os old_row old_known old_burst begins

  on : s.channel ≡ c
  on = teller.then-channel w.lag telling (starts w.plan telling) w.loads w.outside before c d old.sent.words o os old_row old_known old_burst begins

  long-heard : length heard ≡ suc (length os) + length hearing.ticks
  long-heard = teller.long-then w.lag telling (starts w.plan telling) w.loads w.outside before c d old.sent.words o os old_row old_known old_burst begins

  rests-d : runs w.lag (heard_on d heard) ≡ false
  rests-d = teller.rests-d w.lag telling (starts w.plan telling) w.loads w.outside before c d old.sent.words o os old_row old_known old_burst begins

  passes-c : (ys : List Pair) → IsTail ys → AreUnheeded w.lag telling.terminal s c heard (ms ys)
  passes-c ys so =
      teller.old-unheeded w.lag telling (starts w.plan telling) w.loads w.outside before c d old.sent.words o os old_row old_known old_burst begins
      (ys ++ ours) so.answered

  passes-d : (ys : List Pair) → IsTail ys → AreUnheeded w.lag telling.terminal s d heard (ms ys)
  passes-d ys so =
      unheeded-row w.lag telling.terminal s d heard small row
      (part_ticks (start.hits w t place holder stations entry old p o os is_old valid sends m breaks) (command_words entry.item.kind) + w.lag) _
      (row-part w.lag Command (start.hits w t place holder stations entry old p o os is_old valid sends m breaks) (command_words entry.item.kind)
      (heard_on d heard) p.lag (start.fits w t place holder stations entry old p o os is_old valid sends m breaks)
      (start.some w t place holder stations entry old p o os is_old valid sends m breaks) rests-d) never (ms ys)
      (moments-shown d course (ys ++ ours) ∙ tail.command-row w t place holder stations entry old p o os is_old valid sends m breaks orders ys so.quiet
      ∙ ap (first_samples row) (sym (moments-many course (ys ++ ours))))

  passes : (ys : List Pair) → IsTail ys → (a : Channel) → AreUnheeded w.lag telling.terminal s a heard (ms ys)
  passes ys so a = elim (this-or-other c a) [
    | inl same ↦ subst (λ z. AreUnheeded w.lag telling.terminal s z heard (ms ys)) (sym same) (passes-c ys so)
    | inr far ↦ subst (λ z. AreUnheeded w.lag telling.terminal s z heard (ms ys))
        (sym (far ∙ sym (start.channel-is w t place holder stations entry old p o os is_old valid sends m breaks))) (passes-d ys so)
  ]

  heeds-nothing : (ys : List Pair) → IsTail ys → HeedsNothing w.lag telling.terminal s heard (ms ys)
  heeds-nothing ys so = record {
    answer = λ owed. omega (arith, due, long-heard);
    promise = ap is_promise duty;
    on_a = passes ys so A;
    on_b = passes ys so B;
  }

  pub tail-stands-so : (ys : List Pair) → IsTail ys → standing w.lag telling.terminal w.loads hearing.memory (ms ys ++ heard) ≡ s
  tail-stands-so ys so = heedless-stands w.lag telling.terminal w.loads hearing.memory heard (ms ys) (heeds-nothing ys so)

  -- ---- at the level of the station

  joined : (ys : List Pair) → moments_of course ((ys ++ ours) ++ (o ∷ os)) ++ hearing.ticks ≡ ms ys ++ heard
  joined ys =
      teller.joined w.lag telling (starts w.plan telling) w.loads w.outside before c d old.sent.words o os old_row old_known old_burst begins (ys ++ ours)

  same-past : (ys : List Pair) → ((ys ++ ours) ++ (o ∷ os)) ++ before ≡ ys ++ later
  same-past ys = append_assoc (ys ++ ours) (o ∷ os) before ∙ append_assoc ys ours ((o ∷ os) ++ before)

  takes-none : (ys : List Pair) → IsTail ys →
      TakesNothing w.lag telling (starts w.plan telling) w.loads w.outside before ((ys ++ ours) ++ (o ∷ os))
  takes-none [] so =
      teller.end-takes w.lag telling (starts w.plan telling) w.loads w.outside before c d old.sent.words o os old_row old_known old_burst begins
      (end.x w t place holder stations entry old p o os is_old valid sends m breaks orders)
      (end.ticks w t place holder stations entry old p o os is_old valid sends m breaks orders)
      (both.teller-hears-it w t place holder stations entry old p o os is_old valid sends m breaks
      (end.ticks w t place holder stations entry old p o os is_old valid sends m breaks orders)
      (end.shows w t place holder stations entry old p o os is_old valid sends m breaks orders))
      (λ tick low high. stays tick low)
  takes-none (y ∷ ys) so =
      let all = (ys ++ ours) ++ (o ∷ os) in
      let long : length (((ys ++ ours) ++ (o ∷ os)) ++ before) ≡ length ((ys ++ ours) ++ (o ∷ os)) + length before =
      length-append ((ys ++ ours) ++ (o ∷ os)) before in
      let u = standing w.lag telling.terminal w.loads hearing.memory (moments_of course ((ys ++ ours) ++ (o ∷ os)) ++ hearing.ticks) in
      let owed : (standing w.lag telling.terminal w.loads hearing.memory (moments_of course ((ys ++ ours) ++ (o ∷ os)) ++ hearing.ticks)).duty
      ≡ owes old.sent.words false =
      ap (λ list. (standing w.lag telling.terminal w.loads hearing.memory list).duty) (joined ys)
      ∙ ap (λ (v : Standing). v.duty) (tail-stands-so ys (less y ys so)) ∙ duty in (
        ap (accepted_by w.lag telling.terminal w.loads (heard_on u.channel (moments_of course ((ys ++ ours) ++ (o ∷ os)) ++ hearing.ticks))
            (sample_on y u.channel) u) owed,
        stays (length (((ys ++ ours) ++ (o ∷ os)) ++ before)) (omega (arith, long)),
        takes-none ys (less y ys so),
      )

  pub tail-hears : (ys : List Pair) → IsTail ys → hearing_of w telling (ys ++ later) ≡ record { memory = hearing.memory; ticks = ms ys ++ heard }
  tail-hears ys so =
      ap (hearing_of w telling) (sym (same-past ys))
      ∙ ap (λ (z : StationSoFar). z.hearing)
      (serving-hears w.lag telling (starts w.plan telling) w.loads w.outside before ((ys ++ ours) ++ (o ∷ os)) begins.answers.serves (takes-none ys so))
      ∙ ap (λ list. record { memory = hearing.memory; ticks = list }) (joined ys)

  pub tail-same : (ys : List Pair) → IsTail ys → course_of w telling (ys ++ later) ≡ course_of w telling before
  tail-same ys so =
      ap (course_of w telling) (sym (same-past ys))
      ∙ serving-same w.lag telling (starts w.plan telling) w.loads w.outside before ((ys ++ ours) ++ (o ∷ os)) begins.answers.serves (takes-none ys so)

  pub tail-takes : (y : Pair) (ys : List Pair) → IsTail (y ∷ ys) →
      took_now w.lag telling.terminal w.loads (hearing_of w telling ((y ∷ ys) ++ later)) ≡ None
  tail-takes y ys so =
      ap (took_now w.lag telling.terminal w.loads) (tail-hears (y ∷ ys) so)
      ∙ heedless-takes w.lag telling.terminal w.loads hearing.memory heard (ms ys) (moment_of y course) (heeds-nothing (y ∷ ys) so)

  -- ---- what it sends

  abbrev so_many : List Pair → ℕ
  so_many ys = length ((ys ++ ours) ++ (o ∷ os))

  sends-so : (ys : List Pair) → IsTail ys → drives_next w.lag telling (starts w.plan telling) w.loads w.outside (ys ++ later)
      ≡ drive_of w.lag telling.terminal (ms ys ++ heard) s
  sends-so ys so =
      ap (drives_next w.lag telling (starts w.plan telling) w.loads w.outside) (sym (same-past ys))
      ∙ serving-sends w.lag telling (starts w.plan telling) w.loads w.outside before ((ys ++ ours) ++ (o ∷ os)) begins.answers.serves (takes-none ys so)
      ∙ ap (λ list. drives w.lag telling.terminal w.loads record { memory = hearing.memory; ticks = list }) (joined ys)
      ∙ ap (drive_of w.lag telling.terminal (ms ys ++ heard)) (tail-stands-so ys so)

  long-now : (ys : List Pair) → length (ms ys ++ heard) - due_after telling.terminal s.end ≡ so_many ys
  long-now ys =
      let all = length-append (ms ys) heard in
      let count = moments-many course (ys ++ ours) in
      let both_long = length-append (ys ++ ours) (o ∷ os) in
      omega (arith, all, count, both_long, due, long-heard)

  sends-endless : (ys : List Pair) → IsTail ys → so_many ys ≤ old_known →
      drives_next w.lag telling (starts w.plan telling) w.loads w.outside (ys ++ later) ≡ drive_sample c First old.sent.words (so_many ys)
  sends-endless ys so low =
      let past = ms ys ++ heard in
      let all = length-append (ms ys) heard in
      sends-so ys so
      ∙ duty-sends w.lag telling.terminal s (ms ys ++ heard) old.sent.words false duty (omega (arith, all, due, long-heard))
      (ap (λ a. given_up w.lag telling.terminal (heard_on a (ms ys ++ heard)) s) on
      ∙ kept-later w.lag telling.terminal s c heard (ms ys) (omega (arith, due, long-heard))
      (teller.kept-then w.lag telling (starts w.plan telling) w.loads w.outside before c d old.sent.words o os old_row old_known old_burst begins))
      (ap (λ a. end_since w.lag (heard_on a (ms ys ++ heard)) (due_after telling.terminal s.end)) on
      ∙ ap (end_since w.lag (heard_on c (ms ys ++ heard))) due
      ∙ teller.endless w.lag telling (starts w.plan telling) w.loads w.outside before c d old.sent.words o os old_row old_known old_burst begins
      (ys ++ ours) so.answered low)
      ∙ ap (λ a. drive_sample a s.part old.sent.words (length (ms ys ++ heard) - due_after telling.terminal s.end)) on
      ∙ ap (λ q. drive_sample c q old.sent.words (length (ms ys ++ heard) - due_after telling.terminal s.end))
      (teller.then-part w.lag telling (starts w.plan telling) w.loads w.outside before c d old.sent.words o os old_row old_known old_burst begins)
      ∙ ap (drive_sample c First old.sent.words) (long-now ys)

  sends-over : (ys : List Pair) → IsTail ys → old_known < so_many ys → drives_next w.lag telling (starts w.plan telling) w.loads w.outside (ys ++ later) ≡
      Silent
  sends-over ys so late =
      let past = ms ys ++ heard in
      sends-so ys so
      ∙ ap (drive_duty w.lag telling.terminal (heard_on s.channel (ms ys ++ heard)) s) duty
      ∙ over-silent w.lag telling.terminal (heard_on s.channel (ms ys ++ heard)) s old.sent.words false
      (ap (λ a. is_some (end_since w.lag (heard_on a (ms ys ++ heard)) (due_after telling.terminal s.end))) on
      ∙ ap (λ n. is_some (end_since w.lag (heard_on c (ms ys ++ heard)) n)) due
      ∙ ap is_some (teller.ended-by w.lag telling (starts w.plan telling) w.loads w.outside before c d old.sent.words o os old_row old_known old_burst begins
      (ys ++ ours) so.answered late))

  pub tail-drives : (ys : List Pair) → IsTail ys → drives_next w.lag telling (starts w.plan telling) w.loads w.outside (ys ++ later)
      ≡ old_drive (start.answer w t place holder stations entry old p o os is_old valid sends m breaks) sends (so_many ys)
  tail-drives ys so = elim (cases_lt (so_many ys) sends) [
    | inl low ↦ sends-endless ys so (start.known-late w t place holder stations entry old p o os is_old valid sends m breaks (so_many ys) low)
        ∙ sym (by-yes (nat_lt (so_many ys) sends) (drive_sample c First old.sent.words (so_many ys)) Silent (lt-ltb (so_many ys) sends low))
    | inr high ↦ elim (cases_lt old_known (so_many ys)) [
      | inl late ↦ sends-over ys so late
      | inr low ↦ sends-endless ys so low ∙ elim (breaks.stops (so_many ys) high) [
        | inl by ↦ absurd (true≢false (sym by.0 ∙ off))
        | inr other ↦ elim other [
          | inl words ↦ drives-nothing c First old.sent.words (so_many ys) words
          | inr known ↦ absurd (
              let after = start.known-early w t place holder stations entry old p o os is_old valid sends m breaks (so_many ys) known.1 known.0 in
              omega (arith, after, low))
        ]
      ]
    ]
        ∙ sym (by-no (nat_lt (so_many ys) sends) (drive_sample c First old.sent.words (so_many ys)) Silent (le-ltb (so_many ys) sends high))
  ]

  -- ---- as the end of the command becomes known it takes nothing either

  pub end-takes-none : took_now w.lag telling.terminal w.loads (hearing_of w telling later) ≡ None
  end-takes-none =
      let none = tail.no-tail w t place holder stations entry old p o os is_old valid sends m breaks orders in
      ap (took_now w.lag telling.terminal w.loads) (tail-hears [] none)
      ∙ heedless-takes w.lag telling.terminal w.loads hearing.memory heard
      (moments_of course (end.ticks w t place holder stations entry old p o os is_old valid sends m breaks orders))
      (moment_of (end.x w t place holder stations entry old p o os is_old valid sends m breaks orders) course) (heeds-nothing [] none)

  -- ---- what stands of it, before and after

  pub past-stands : standing_of w telling ((o ∷ os) ++ before) ≡ s
  past-stands =
      ap (standing_after w.lag telling.terminal w.loads) (teller.then-hears w.lag telling (starts w.plan telling) w.loads w.outside before c d
      old.sent.words o os old_row old_known old_burst begins (λ tick low high. stays tick low))

  pub tail-standing : (ys : List Pair) → IsTail ys → standing_of w telling (ys ++ later) ≡ s
  tail-standing ys so = ap (standing_after w.lag telling.terminal w.loads) (tail-hears ys so) ∙ tail-stands-so ys so

  pub past-same : course_of w telling ((o ∷ os) ++ before) ≡ course_of w telling before
  past-same = teller.then-same w.lag telling (starts w.plan telling) w.loads w.outside before c d old.sent.words o os old_row old_known old_burst begins
      (λ tick low high. stays tick low)

  -- ---- it serves as before once its answer is over

  heard-d : (ys : List Pair) → IsTail ys → heard_on d (ms ys ++ heard) ≡ first_samples row (length (ys ++ ours)) ++ heard_on d heard
  heard-d ys so =
      heard-append d (ms ys) heard
      ∙ ap (λ xs. xs ++ heard_on d heard) (moments-shown d course (ys ++ ours) ∙ tail.command-row w t place holder stations entry old p o os is_old valid
      sends m breaks orders ys so.quiet)

  rests-there : (ys : List Pair) → IsTail ys → runs w.lag (heard_on d (ms ys ++ heard)) ≡ false
  rests-there ys so =
      let all = length-append ys ours in
      let many = end.many w t place holder stations entry old p o os is_old valid sends m breaks orders in
      ap (runs w.lag) (heard-d ys so)
      ∙ (row-part w.lag Command (start.hits w t place holder stations entry old p o os is_old valid sends m breaks) (command_words entry.item.kind)
      (heard_on d heard) p.lag (start.fits w t place holder stations entry old p o os is_old valid sends m breaks)
      (start.some w t place holder stations entry old p o os is_old valid sends m breaks) rests-d).rests
      (length (ys ++ ours)) (omega (arith, all, many))

  module _ (ys : List Pair) (so : IsTail ys) (over : old_known < so_many ys) where
    rests-here : runs w.lag (heard_on c (ms ys ++ heard)) ≡ false
    rests-here = ap (runs w.lag) (teller.old-past w.lag telling (starts w.plan telling) w.loads w.outside before c d old.sent.words o os old_row old_known
        old_burst begins (ys ++ ours) so.answered) ∙ begins.old.rests (so_many ys) (omega (arith, over))

    over-now : end_since w.lag (heard_on c (ms ys ++ heard)) (length hearing.ticks) ≡ Some (end_of old_burst)
    over-now = teller.ended-by w.lag telling (starts w.plan telling) w.loads w.outside before c d old.sent.words o os old_row old_known old_burst begins
        (ys ++ ours) so.answered over

    heeds-sent : (a : Channel) → ignored_from w.lag (heard_on a (ms ys ++ heard)) (mark_on s.sent a) ≡ false
    heeds-sent a = elim (this-or-other c a) [
      | inl same ↦ ap (λ z. ignored_from w.lag (heard_on z (ms ys ++ heard)) (mark_on s.sent z)) same
          ∙ ap (ignored_from w.lag (heard_on c (ms ys ++ heard))) (teller.then-mark w.lag telling (starts w.plan telling) w.loads w.outside before c d
          old.sent.words o os old_row old_known old_burst begins)
          ∙ ap is_none over-now
      | inr other ↦ ap (λ z. ignored_from w.lag (heard_on z (ms ys ++ heard)) (mark_on s.sent z)) (other ∙ sym begins.dc)
          ∙ ap (λ xs. ignored_from w.lag xs (mark_on s.sent d)) (heard-append d (ms ys) heard)
          ∙ heeded-later w.lag (heard_on d (ms ys)) (heard_on d heard) (mark_on s.sent d)
          (teller.ready w.lag telling (starts w.plan telling) w.loads w.outside before c d old.sent.words o os old_row old_known old_burst begins).hears
    ]

    rests-so : (a : Channel) → runs w.lag (heard_on a (ms ys ++ heard)) ≡ false
    rests-so a = elim (this-or-other c a) [
      | inl same ↦ ap (λ z. runs w.lag (heard_on z (ms ys ++ heard))) same ∙ rests-here
      | inr other ↦ ap (λ z. runs w.lag (heard_on z (ms ys ++ heard))) (other ∙ sym begins.dc) ∙ rests-there ys so
    ]

    is-over-now : is_over w.lag telling.terminal (heard_on s.channel (ms ys ++ heard)) s ≡ true
    is-over-now =
        ap (λ a. is_some (end_since w.lag (heard_on a (ms ys ++ heard)) (due_after telling.terminal s.end))) on
        ∙ ap (λ n. is_some (end_since w.lag (heard_on c (ms ys ++ heard)) n)) due
        ∙ ap is_some over-now

    pub tail-serving : IsServing w.lag telling (starts w.plan telling) w.loads w.outside (ys ++ later)
    tail-serving = record {
      serves = record {
        serves = ap (λ (a : Course). a.holds) (tail-same ys so) ∙ begins.answers.serves.serves;
        idle = ap (λ (a : Course). a.runs) (tail-same ys so) ∙ begins.answers.serves.idle;
      };
      free = subst (λ (v : Standing). IsFree w.lag telling.terminal v (hearing_of w telling (ys ++ later)).ticks) (sym (tail-standing ys so))
          (subst (λ (h : Hearing). IsFree w.lag telling.terminal s h.ticks) (sym (tail-hears ys so)) record {
            rests = rests-so;
            heeds = heeds-sent;
            over = λ owed. is-over-now;
            promise = ap is_promise duty;
          });
    }
