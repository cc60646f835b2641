-- What each station drives while a command is sent beside an abandoned answer.
use Rattle.std.proofs.Common.{◌≡◌, ◌≢◌, ◌⊎◌, inl, inr, ℕ, ◌+◌, ◌-◌, ◌<◌, ◌≤◌, Bool, true, false, List, [], ◌∷◌, ◌++◌, length, Some, refl, sym, ap, ◌∙◌, subst, arith, length-append, append_assoc}
use Rattle.std.proofs.lemmas.Bool.{cases_lt, lt-ltb, le-ltb}
use Rattle.std.specs.Prelude.{nat_lt, if◌then◌else◌, is_some, slice_get}
use Rattle.bus_base.specs.declared.samples.Channel.{Channel}
use Rattle.bus_base.specs.declared.samples.Drive.{Drive}
use Rattle.bus_base.specs.declared.samples.Drive.TheVariants.{Silent}
use Rattle.bus_base.specs.declared.samples.Pair.{Pair}
use Rattle.bus_base.specs.declared.samples.Part.TheVariants.{Command, First}
use Rattle.bus_base.specs.declared.samples.Sample.{Sample}
use Rattle.bus_line.specs.Past.{quiet_ticks, runs}
use Rattle.bus_line.specs.Channels.{on_channel}
use Rattle.bus_line.specs.Cutting.{running_slots}
use Rattle.bus_formats.specs.Forms.{command_words}
use Rattle.bus_formats.specs.Plans.{StationData}
use Rattle.bus_model.specs.Course.{Course}
use Rattle.bus_model.specs.Control.{so_far, outside_takes, drives_next}
use Rattle.bus_model.specs.Hearing.{Moment, heard_on}
use Rattle.bus_model.specs.Message.{Present}
use Rattle.bus_model.specs.Orders.{last_order}
use Rattle.bus_model.specs.Sending.{drive_sample}
use Rattle.bus_model.specs.Starts.{Entry, starts}
use Rattle.bus_model.specs.Strikes.{ShownAnswer}
use Rattle.bus_model.specs.World.{drives_after}
use Rattle.bus_law_control.proofs.Holding.{yielded-before}
use Rattle.bus_law_control.proofs.OtherChannel.{unheeded-append}
use Rattle.bus_law_line.specs.Shown.{first_samples}
use Rattle.bus_law_line.proofs.Sent.{drives-nothing}
use Rattle.bus_law_parts.specs.Parts.{part_ticks, part_sample}
use Rattle.bus_law_stations.specs.Legs.{AreUnheeded}
use Rattle.bus_law_stations.specs.Messages.{ShowsBurst}
use Rattle.bus_law_stations.specs.Turns.{moments_of}
use Rattle.bus_law_stations.proofs.LegTicks.{heard-append}
use Rattle.bus_law_stations.proofs.Resting.{rests-quiet}
use Rattle.bus_law_stations.proofs.Unheeded.{quiet-unheeded}
use Rattle.bus_law_messages.specs.Settled.{InControl, IsServing}
use Rattle.bus_law_messages.proofs.Holding.{holder-sends}
use Rattle.bus_law_messages.proofs.Listening.{moments-shown, moments-many, this-or-other}
use Rattle.bus_law_messages.proofs.Sending.{place-silent, place-drives}
use Rattle.bus_law_phases.specs.Scenarios.{Scenario, trace_at, shown_at, course_of, hearing_of, standing_of, IsPresentAt}
use Rattle.bus_law_beside.specs.Beside.{BeginsBeside}
use Rattle.bus_law_beside.specs.BothRun.{ShowsBoth}
use Rattle.bus_law_beside.proofs.BesideBegins as start
use Rattle.bus_law_beside.proofs.Bystander as bystander
use Rattle.bus_law_beside.proofs.Bystander.{moments-join}
use Rattle.bus_law_beside.proofs.CommandFor.{not-for-another}
use Rattle.bus_law_beside.proofs.OldStations as olds
use Rattle.bus_law_beside.proofs.RowLaws.{row-part, unheeded-row}
use Rattle.bus_law_beside.proofs.StopTicks.{BreaksOff}
use Rattle.bus_law_beside.proofs.Teller as teller
use Rattle.bus_law_beside.proofs.TwoSenders as two
use Rattle.bus_law_beside.proofs.TwoSenders.{old_drive}

by-yes : (b : Bool) (x y : Drive) → b ≡ true → (if b then x else y) ≡ x
by-yes b x y on = rw on refl

by-no : (b : Bool) (x y : Drive) → b ≡ false → (if b then x else y) ≡ y
by-no b x y off = rw off refl

either-way : (b : Bool) (x : Drive) → x ≡ Silent → (if b then Silent else x) ≡ Silent
either-way true x off = refl
either-way false x off = off

module _ (w : Scenario) (t place : ℕ) (holder : StationData) (stations : List Present) (entry : Entry) (old : ShownAnswer)
    (p : BeginsBeside w t place holder stations entry old) (o : Pair) (os : List Pair) (is_old : p.beside.ticks ≡ o ∷ os) (valid : Bool) (sends m : ℕ)
    (breaks : BreaksOff old (t - old.sent.start) valid sends m) where
  abbrev before : List Pair
  before = shown_at w old.sent.start

  abbrev past : List Pair
  past = (o ∷ os) ++ before

  abbrev c : Channel
  c = old.sent.channel

  abbrev d : Channel
  d = (start.begun w t place holder stations entry old p o os is_old valid sends m breaks).state.channel

  abbrev limit : ℕ
  limit = start.limit w t place holder stations entry old p o os is_old valid sends m breaks

  abbrev row : ℕ → Sample
  row = part_sample (start.hits w t place holder stations entry old p o os is_old valid sends m breaks) (command_words entry.item.kind)

  -- what is shown of both so far
  abbrev pub Shows : List Pair → Type 0
  Shows ticks =
      ShowsBoth w.lag (start.command w t place holder stations entry old p o os is_old valid sends m breaks)
      (start.answer w t place holder stations entry old p o os is_old valid sends m breaks) m (o ∷ os) ticks

  below : w.lag < 40
  below = let lag = p.lag in omega (arith, lag)

  long-before : length before ≡ old.sent.start
  long-before = olds.long-before w t place holder stations entry old p

  stays : (other : ℕ) (station : StationData) → IsPresentAt w other station → (tick : ℕ) → length before ≤ tick →
      outside_takes w.lag station (starts w.plan station) w.loads w.outside tick w.outside ≡ []
  stays other station at tick low = p.beside.stays.takes other station at tick (let long = long-before in omega (arith, low, long))

  number : length (o ∷ os) ≡ t - old.sent.start
  number = (start.runs-so w t place holder stations entry old p o os is_old valid sends m breaks).many

  both-long : (ticks : List Pair) → length (ticks ++ (o ∷ os)) ≡ length ticks + (t - old.sent.start)
  both-long ticks = let all = length-append ticks (o ∷ os) in omega (arith, all, number)

  joined : (ticks : List Pair) → (ticks ++ (o ∷ os)) ++ before ≡ ticks ++ past
  joined ticks = append_assoc ticks (o ∷ os) before

  -- ---- the station in control

  pub controls : InControl (course_of w holder past) (length past)
  controls =
      let begins = start.begins-now w t place holder stations entry old p o os is_old valid sends m breaks in record {
        holds = begins.holds;
        idle = begins.idle;
        before = yielded-before w.lag holder (starts w.plan holder) (so_far w.lag holder (starts w.plan holder) w.loads w.outside past).takes past;
      }

  pub shows-burst : (ticks : List Pair) → Shows ticks → ShowsBurst w.lag d past ticks
  shows-burst ticks so =
      record { rests = start.rests w t place holder stations entry old p o os is_old valid sends m breaks; leg = so.leg }

  holder-drives : (ticks : List Pair) → Shows ticks →
      slice_get (drives_after w.lag w.plan w.loads w.outside w.absent (ticks ++ past)) place
      ≡ Some (drive_sample d Command (command_words entry.item.kind) (length ticks))
  holder-drives ticks so =
      place-drives w.lag w.plan w.loads w.outside w.absent (ticks ++ past) place holder
      (drive_sample d Command (command_words entry.item.kind) (length ticks)) p.beside.at.there p.beside.at.present
      (holder-sends w.lag holder (starts w.plan holder) w.loads w.outside past entry controls
      (start.begins-now w t place holder stations entry old p o os is_old valid sends m breaks) ticks (shows-burst ticks so))

  -- ---- the station that sends the answer

  abbrev telling : StationData
  telling = p.beside.telling

  abbrev heard_then : List Moment
  heard_then =
      teller.heard_then w.lag telling (starts w.plan telling) w.loads w.outside before c d old.sent.words o os
      (start.old_row w t place holder stations entry old p o os is_old valid sends m breaks)
      (start.old_known w t place holder stations entry old p o os is_old valid sends m breaks)
      (start.old_burst w t place holder stations entry old p o os is_old valid sends m breaks (length (heard_on c (hearing_of w telling before).ticks)))
      (start.teller-begins w t place holder stations entry old p o os is_old valid sends m breaks)

  pub teller-hears-it : (ticks : List Pair) → Shows ticks →
      teller.Hears w.lag telling (starts w.plan telling) w.loads w.outside before c d old.sent.words o os
      (start.old_row w t place holder stations entry old p o os is_old valid sends m breaks)
      (start.old_known w t place holder stations entry old p o os is_old valid sends m breaks)
      (start.old_burst w t place holder stations entry old p o os is_old valid sends m breaks (length (heard_on c (hearing_of w telling before).ticks)))
      (start.teller-begins w t place holder stations entry old p o os is_old valid sends m breaks) ticks
  teller-hears-it ticks so = record { leg = so.leg; old = so.old }

  -- whether a command for it ended
  abbrev pub Ordered : List Pair → Bool
  Ordered ticks = is_some (last_order telling.terminal.address (running_slots w.lag (heard_on d (moments_of (course_of w telling before) ticks ++ heard_then))))

  -- the first word of the command counts for it from its fortieth tick on, if it is valid
  pub record OrdersIt : Type 0 where
    pub early : (ticks : List Pair) → Shows ticks → length ticks < limit → (length ticks < 40) ⊎ (valid ≡ false) → Ordered ticks ≡ false
    pub late : (ticks : List Pair) → Shows ticks → length ticks < limit → 40 ≤ length ticks → valid ≡ true → Ordered ticks ≡ true

  module _ (orders : OrdersIt) where
    -- while its end isn't known
    module _ (ticks : List Pair) (so : Shows ticks) (few : length ticks < limit) where
      abbrev i : ℕ
      i = length (ticks ++ (o ∷ os))

      abbrev drive : Drive
      drive = drive_sample c First old.sent.words (length (ticks ++ (o ∷ os)))

      abbrev drives : Drive
      drives = drives_next w.lag telling (starts w.plan telling) w.loads w.outside ((ticks ++ (o ∷ os)) ++ before)

      before-known : length (ticks ++ (o ∷ os)) ≤ start.old_known w t place holder stations entry old p o os is_old valid sends m breaks →
          drives ≡ (if Ordered ticks then Silent else drive)
      before-known low =
          teller.teller-sends w.lag telling (starts w.plan telling) w.loads w.outside before c d old.sent.words o os
          (start.old_row w t place holder stations entry old p o os is_old valid sends m breaks)
          (start.old_known w t place holder stations entry old p o os is_old valid sends m breaks)
          (start.old_burst w t place holder stations entry old p o os is_old valid sends m breaks (length (heard_on c (hearing_of w telling before).ticks)))
          (start.teller-begins w t place holder stations entry old p o os is_old valid sends m breaks) ticks (teller-hears-it ticks so)
          (λ tick low high. stays p.beside.teller telling p.beside.teller_at tick low) low

      after-known : start.old_known w t place holder stations entry old p o os is_old valid sends m breaks < length (ticks ++ (o ∷ os)) → drives ≡ Silent
      after-known late =
          teller.teller-silent w.lag telling (starts w.plan telling) w.loads w.outside before c d old.sent.words o os
          (start.old_row w t place holder stations entry old p o os is_old valid sends m breaks)
          (start.old_known w t place holder stations entry old p o os is_old valid sends m breaks)
          (start.old_burst w t place holder stations entry old p o os is_old valid sends m breaks (length (heard_on c (hearing_of w telling before).ticks)))
          (start.teller-begins w t place holder stations entry old p o os is_old valid sends m breaks) ticks (teller-hears-it ticks so)
          (λ tick low high. stays p.beside.teller telling p.beside.teller_at tick low) late

      -- where nothing is sent before its end is known, nothing is
      silent-if : (start.old_known w t place holder stations entry old p o os is_old valid sends m breaks < length (ticks ++ (o ∷ os)))
          ⊎ ((Ordered ticks ≡ true) ⊎ (drive ≡ Silent)) → drives ≡ Silent
      silent-if why = elim (cases_lt (start.old_known w t place holder stations entry old p o os is_old valid sends m breaks) (length (ticks ++ (o ∷ os)))) [
        | inl late ↦ after-known late
        | inr low ↦ before-known low ∙ elim why [
          | inl late ↦ absurd (omega (arith, late, low))
          | inr other ↦ elim other [
            | inl over ↦ by-yes (Ordered ticks) Silent drive over
            | inr off ↦ either-way (Ordered ticks) drive off
          ]
        ]
      ]

      drives-so : drives ≡ old_drive (start.answer w t place holder stations entry old p o os is_old valid sends m breaks) sends (length (ticks ++ (o ∷ os)))
      drives-so = elim (cases_lt (length (ticks ++ (o ∷ os))) sends) [
        | inl low ↦ before-known (start.known-late w t place holder stations entry old p o os is_old valid sends m breaks (length (ticks ++ (o ∷ os))) low)
            ∙ by-no (Ordered ticks) Silent drive (orders.early ticks so few (early-or valid refl low))
            ∙ sym (by-yes (nat_lt (length (ticks ++ (o ∷ os))) sends) drive Silent (lt-ltb (length (ticks ++ (o ∷ os))) sends low))
        | inr high ↦ silent-if (elim (breaks.stops (length (ticks ++ (o ∷ os))) high) [
          | inl by ↦ (let late = by.1 in let all = both-long ticks in
              inr (inl (orders.late ticks so few (omega (arith, late, all)) by.0)))
          | inr other ↦ elim other [
            | inl words ↦ inr (inr (drives-nothing c First old.sent.words (length (ticks ++ (o ∷ os))) words))
            | inr known ↦ inl (start.known-early w t place holder stations entry old p o os is_old valid sends m breaks (length (ticks ++ (o ∷ os))) known.1 known.0)
          ]
        ])
            ∙ sym (by-no (nat_lt (length (ticks ++ (o ∷ os))) sends) drive Silent (le-ltb (length (ticks ++ (o ∷ os))) sends high))
      ]
        where
          early-or : (b : Bool) → valid ≡ b → length (ticks ++ (o ∷ os)) < sends → (length ticks < 40) ⊎ (valid ≡ false)
          early-or true is low = let most = breaks.early is in let all = both-long ticks in inl (omega (arith, most, all, low))
          early-or false is low = inr is

      teller-drives : slice_get (drives_after w.lag w.plan w.loads w.outside w.absent (ticks ++ past)) p.beside.teller
          ≡ Some (old_drive (start.answer w t place holder stations entry old p o os is_old valid sends m breaks) sends (length (ticks ++ (o ∷ os))))
      teller-drives =
          place-drives w.lag w.plan w.loads w.outside w.absent (ticks ++ past) p.beside.teller telling
          (old_drive (start.answer w t place holder stations entry old p o os is_old valid sends m breaks) sends (length (ticks ++ (o ∷ os))))
          p.beside.teller_at.there p.beside.teller_at.present
          (ap (drives_next w.lag telling (starts w.plan telling) w.loads w.outside) (sym (joined ticks)) ∙ drives-so)

  -- ---- the others

  module _ (other : ℕ) (station : StationData) (at : IsPresentAt w other station) (away : other ≢ place) (aside : other ≢ p.beside.teller) where
    pub serving : IsServing w.lag station (starts w.plan station) w.loads w.outside before
    serving = olds.others-serve w t place holder stations entry old p other station at away aside

    abbrev course : Course
    course = course_of w station before

    abbrev heard : List Moment
    heard = (hearing_of w station before).ticks

    -- they pass over the answer
    passes-old : (ticks : List Pair) →
        on_channel c (ticks ++ (o ∷ os))
        ≡ first_samples (start.old_row w t place holder stations entry old p o os is_old valid sends m breaks) (length (ticks ++ (o ∷ os))) →
        AreUnheeded w.lag station.terminal (standing_of w station before) c heard (moments_of course (ticks ++ (o ∷ os)))
    passes-old ticks shown =
        unheeded-row w.lag station.terminal (standing_of w station before) c heard below
        (start.old_row w t place holder stations entry old p o os is_old valid sends m breaks)
        (start.old_known w t place holder stations entry old p o os is_old valid sends m breaks)
        (start.old_burst w t place holder stations entry old p o os is_old valid sends m breaks (length (heard_on c heard)))
        (start.old-ends w t place holder stations entry old p o os is_old valid sends m breaks (heard_on c heard) (serving.free.rests c))
        (olds.not-for-others w t place holder stations entry old p station.terminal.address _
        (olds.other-named w t place holder stations entry old p other station at aside))
        (moments_of course (ticks ++ (o ∷ os)))
        (moments-shown c course (ticks ++ (o ∷ os)) ∙ shown
        ∙ ap (first_samples (start.old_row w t place holder stations entry old p o os is_old valid sends m breaks))
        (sym (moments-many course (ticks ++ (o ∷ os)))))

    -- and the command
    old-quiet : heard_on d (moments_of course (o ∷ os)) ≡ quiet_ticks (length (moments_of course (o ∷ os)))
    old-quiet =
        moments-shown d course (o ∷ os)
        ∙ ap (λ a. on_channel a (o ∷ os)) (start.channel-is w t place holder stations entry old p o os is_old valid sends m breaks)
        ∙ (start.alone w t place holder stations entry old p o os is_old valid sends m breaks).quiet
        ∙ ap quiet_ticks (sym (moments-many course (o ∷ os)))

    pub rests-then : runs w.lag (heard_on d (moments_of course (o ∷ os) ++ heard)) ≡ false
    rests-then =
        ap (runs w.lag) (heard-append d (moments_of course (o ∷ os)) heard ∙ ap (λ xs. xs ++ heard_on d heard) old-quiet)
        ∙ rests-quiet w.lag (length (moments_of course (o ∷ os))) (heard_on d heard) (serving.free.rests d)

    passes-command : (ticks : List Pair) → on_channel d ticks ≡ first_samples row (length ticks) →
        AreUnheeded w.lag station.terminal (standing_of w station before) d heard (moments_of course (ticks ++ (o ∷ os)))
    passes-command ticks shown =
        subst (AreUnheeded w.lag station.terminal (standing_of w station before) d heard) (sym (moments-join course ticks (o ∷ os)))
        (unheeded-append w.lag station.terminal (standing_of w station before) d heard (moments_of course (o ∷ os)) (moments_of course ticks)
        (quiet-unheeded w.lag station.terminal (standing_of w station before) d heard (moments_of course (o ∷ os)) (serving.free.rests d) old-quiet)
        (unheeded-row w.lag station.terminal (standing_of w station before) d (moments_of course (o ∷ os) ++ heard) below row
        (part_ticks (start.hits w t place holder stations entry old p o os is_old valid sends m breaks) (command_words entry.item.kind) + w.lag) _
        (row-part w.lag Command (start.hits w t place holder stations entry old p o os is_old valid sends m breaks) (command_words entry.item.kind)
        (heard_on d (moments_of course (o ∷ os) ++ heard)) p.lag (start.fits w t place holder stations entry old p o os is_old valid sends m breaks)
        (start.some w t place holder stations entry old p o os is_old valid sends m breaks) rests-then)
        (not-for-another (start.hits w t place holder stations entry old p o os is_old valid sends m breaks) entry.item.kind old.sent.address
        station.terminal.address p.entry_of.ranges.kind p.supersedes (olds.other-named w t place holder stations entry old p other station at aside)
        p.beside.begins.words.terminal)
        (moments_of course ticks)
        (moments-shown d course ticks ∙ shown ∙ ap (first_samples row) (sym (moments-many course ticks)))))

    pub passes-both : (ticks : List Pair) →
        on_channel c (ticks ++ (o ∷ os))
        ≡ first_samples (start.old_row w t place holder stations entry old p o os is_old valid sends m breaks) (length (ticks ++ (o ∷ os))) →
        on_channel d ticks ≡ first_samples row (length ticks) →
        bystander.PassesOver w.lag station (starts w.plan station) w.loads w.outside before serving (ticks ++ (o ∷ os))
    passes-both ticks first second a = elim (this-or-other c a) [
      | inl same ↦ subst (λ y. AreUnheeded w.lag station.terminal (standing_of w station before) y heard (moments_of course (ticks ++ (o ∷ os)))) (sym same)
          (passes-old ticks first)
      | inr far ↦ subst (λ y. AreUnheeded w.lag station.terminal (standing_of w station before) y heard (moments_of course (ticks ++ (o ∷ os))))
          (sym (far ∙ sym (start.channel-is w t place holder stations entry old p o os is_old valid sends m breaks))) (passes-command ticks second)
    ]

    pub stays-there : (j tick : ℕ) → length before ≤ tick → tick < length before + j →
        outside_takes w.lag station (starts w.plan station) w.loads w.outside tick w.outside ≡ []
    stays-there j tick low high = stays other station at tick low

    other-silent : (ticks : List Pair) → Shows ticks → drives_next w.lag station (starts w.plan station) w.loads w.outside (ticks ++ past) ≡ Silent
    other-silent ticks so =
        ap (drives_next w.lag station (starts w.plan station) w.loads w.outside) (sym (joined ticks))
        ∙ bystander.passing-silent w.lag station (starts w.plan station) w.loads w.outside before serving (ticks ++ (o ∷ os))
        (passes-both ticks so.old so.sent) (stays-there (length (ticks ++ (o ∷ os))))

  -- ---- all of them

  pub all-drive : OrdersIt →
      two.Drives w (trace_at w old.sent.start) (o ∷ os) p.beside.sent (start.command w t place holder stations entry old p o os is_old valid sends m breaks)
      (start.answer w t place holder stations entry old p o os is_old valid sends m breaks) sends m limit
  all-drive orders = record {
    own = λ ticks so few. holder-drives ticks so;
    tells = λ ticks so few. teller-drives orders ticks so few;
    others = λ ticks so few other apart aside. place-silent w.lag w.plan w.loads w.outside w.absent (ticks ++ past) other (λ station there present.
        other-silent other station record { there = there; present = present } apart aside ticks so);
  }
