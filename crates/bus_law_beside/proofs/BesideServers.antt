-- Each station where the end of a command is known that was sent beside an abandoned answer: what it heard of the command, and what it owes.
use Rattle.std.proofs.Common.{◌≡◌, ◌≢◌, inl, inr, ℕ, suc, ◌+◌, ◌-◌, ◌%◌, ◌<◌, ◌≤◌, Bool, false, List, [], ◌∷◌, ◌++◌, length, Some, None, refl, sym, ap, ◌∙◌, subst, arith, append_assoc}
use Rattle.std.proofs.lemmas.Bool.{cases_eq}
use Rattle.std.proofs.lemmas.Option.{none-some, same_Some}
use Rattle.std.specs.Prelude.{slice_get}
use Rattle.bus_base.specs.declared.samples.Channel.{Channel}
use Rattle.bus_base.specs.declared.samples.Pair.{Pair}
use Rattle.bus_base.specs.declared.samples.Part.TheVariants.{Command, First}
use Rattle.bus_words.specs.declared.word.Word.{Word}
use Rattle.bus_line.specs.Past.{Burst, runs, rest_of, end_of}
use Rattle.bus_formats.specs.Forms.{command_words}
use Rattle.bus_formats.specs.Plans.{StationData}
use Rattle.bus_formats.specs.declared.fault.Hit.{Hit}
use Rattle.bus_model.specs.Course.{Course}
use Rattle.bus_model.specs.Control.{outside_takes}
use Rattle.bus_model.specs.Hearing.{Hearing, heard_on}
use Rattle.bus_model.specs.Message.{Present, after_command}
use Rattle.bus_model.specs.Orders.{Duty, free, Order, last_order}
use Rattle.bus_model.specs.Starts.{Entry, starts, has_items}
use Rattle.bus_model.specs.Strikes.{ShownAnswer, ShownBurst, burst_end, burst_ticks, first_ticks}
use Rattle.bus_model.specs.Terminal.{standing_after, took_now}
use Rattle.bus_law_parts.specs.Parts.{part_ticks}
use Rattle.bus_law_stations.specs.Legs.{obeyed_in}
use Rattle.bus_law_stations.specs.Turns.{moments_of}
use Rattle.bus_law_stations.proofs.LegTicks.{heard-append}
use Rattle.bus_law_stations.proofs.Resting.{cases-option}
use Rattle.bus_law_messages.specs.Ends.{HeardCommand}
use Rattle.bus_law_messages.specs.Settled.{IsServing}
use Rattle.bus_law_messages.proofs.Listening.{moments-shown, this-or-other}
use Rattle.bus_law_table.proofs.OneStation.{CommandTold}
use Rattle.bus_law_phases.specs.Moments.{HasDuty, IsServer}
use Rattle.bus_law_phases.specs.PartRuns.{burst_shown}
use Rattle.bus_law_phases.specs.Scenarios.{Scenario, shown_at, course_of, hearing_of, standing_of, IsPresentAt}
use Rattle.bus_law_beside.specs.Beside.{BeginsBeside}
use Rattle.bus_law_beside.proofs.BesideBegins as start
use Rattle.bus_law_beside.proofs.BesideDrives as both
use Rattle.bus_law_beside.proofs.BesideEnd as end
use Rattle.bus_law_beside.proofs.Bystander as bystander
use Rattle.bus_law_beside.proofs.Bystander.{moments-join}
use Rattle.bus_law_beside.proofs.CommandFor.{not-for-another}
use Rattle.bus_law_beside.proofs.HeardFrom.{heard-from}
use Rattle.bus_law_beside.proofs.OldStations as olds
use Rattle.bus_law_beside.proofs.RowLaws.{row-part}
use Rattle.bus_law_beside.proofs.StopTicks.{BreaksOff}
use Rattle.bus_law_beside.proofs.Teller as teller
use Rattle.bus_law_beside.proofs.TellerAfter as after

module _ (w : Scenario) (t place : ℕ) (holder : StationData) (stations : List Present) (entry : Entry) (old : ShownAnswer)
    (p : BeginsBeside w t place holder stations entry old) (o : Pair) (os : List Pair) (is_old : p.beside.ticks ≡ o ∷ os) (valid : Bool) (sends m : ℕ)
    (breaks : BreaksOff old (t - old.sent.start) valid sends m)
    (orders : both.OrdersIt w t place holder stations entry old p o os is_old valid sends m breaks)
    (late : sends ≤ (t - old.sent.start) + start.limit w t place holder stations entry old p o os is_old valid sends m breaks)
    (short : burst_ticks (first_ticks old m)
    ≤ (t - old.sent.start) + part_ticks (start.hits w t place holder stations entry old p o os is_old valid sends m breaks) (command_words entry.item.kind)) where
  abbrev before : List Pair
  before = shown_at w old.sent.start

  abbrev past : List Pair
  past = (o ∷ os) ++ before

  abbrev c : Channel
  c = old.sent.channel

  abbrev d : Channel
  d = end.d w t place holder stations entry old p o os is_old valid sends m breaks orders

  abbrev hits : List Hit
  hits = end.hits w t place holder stations entry old p o os is_old valid sends m breaks orders

  abbrev words : List Word
  words = command_words entry.item.kind

  abbrev x : Pair
  x = end.x w t place holder stations entry old p o os is_old valid sends m breaks orders

  abbrev ticks : List Pair
  ticks = end.ticks w t place holder stations entry old p o os is_old valid sends m breaks orders

  abbrev later : List Pair
  later = (x ∷ ticks) ++ past

  abbrev burst : Burst
  burst = burst_shown (length past) hits words

  abbrev command : ShownBurst
  command = end.command w t place holder stations entry old p o os is_old valid sends m breaks orders

  same-end : end_of burst ≡ burst_end command
  same-end = omega arith

  same-rest : rest_of burst ≡ command.rest
  same-rest = let none : part_ticks hits words % 40 ≡ 0 = omega arith in none

  -- what each heard of the command
  abbrev pub Heard : StationData → Type 0
  Heard station = HeardCommand w.lag station (starts w.plan station) w.loads w.outside past (x ∷ ticks) d burst

  stays : (other : ℕ) (station : StationData) → IsPresentAt w other station → (tick : ℕ) → length before ≤ tick →
      outside_takes w.lag station (starts w.plan station) w.loads w.outside tick w.outside ≡ []
  stays other station at tick low =
      let long = olds.long-before w t place holder stations entry old p in p.beside.stays.takes other station at tick (omega (arith, long, low))

  -- ---- the one whose answer was abandoned

  abbrev telling : StationData
  telling = p.beside.telling

  hears-it : teller.Hears w.lag telling (starts w.plan telling) w.loads w.outside before c d old.sent.words o os
      (start.old_row w t place holder stations entry old p o os is_old valid sends m breaks)
      (start.old_known w t place holder stations entry old p o os is_old valid sends m breaks)
      (start.old_burst w t place holder stations entry old p o os is_old valid sends m breaks (length (heard_on c (hearing_of w telling before).ticks)))
      (start.teller-begins w t place holder stations entry old p o os is_old valid sends m breaks) ticks
  hears-it =
      both.teller-hears-it w t place holder stations entry old p o os is_old valid sends m breaks ticks
      (end.shows w t place holder stations entry old p o os is_old valid sends m breaks orders)

  pub teller-heard : Heard telling
  teller-heard =
      after.teller-heard w telling before c d old.sent.words o os (start.old_row w t place holder stations entry old p o os is_old valid sends m breaks)
      (start.old_known w t place holder stations entry old p o os is_old valid sends m breaks)
      (start.old_burst w t place holder stations entry old p o os is_old valid sends m breaks (length (heard_on c (hearing_of w telling before).ticks)))
      (start.teller-begins w t place holder stations entry old p o os is_old valid sends m breaks) x ticks hits words hears-it
      (end.shown-c w t place holder stations entry old p o os is_old valid sends m breaks orders)
      (end.shown-d w t place holder stations entry old p o os is_old valid sends m breaks orders)
      (end.many w t place holder stations entry old p o os is_old valid sends m breaks orders)
      (start.fits w t place holder stations entry old p o os is_old valid sends m breaks)
      (start.some w t place holder stations entry old p o os is_old valid sends m breaks)
      (end.over w t place holder stations entry old p o os is_old valid sends m breaks orders late short)
      (stays p.beside.teller telling p.beside.teller_at)

  teller-has : (order : Order) → last_order telling.terminal.address burst.slots ≡ Some order → (duty : Duty) →
      (obeyed_in telling.terminal w.loads (end_of burst + w.lag)
      (teller.stands_then w.lag telling (starts w.plan telling) w.loads w.outside before c d old.sent.words o os
      (start.old_row w t place holder stations entry old p o os is_old valid sends m breaks)
      (start.old_known w t place holder stations entry old p o os is_old valid sends m breaks)
      (start.old_burst w t place holder stations entry old p o os is_old valid sends m breaks (length (heard_on c (hearing_of w telling before).ticks)))
      (start.teller-begins w t place holder stations entry old p o os is_old valid sends m breaks)) d order (rest_of burst)
      (has_items (course_of w telling before).left)).duty ≡ duty → HasDuty w later telling d (length past + part_ticks hits words) First duty
  teller-has =
      after.teller-has w telling before c d old.sent.words o os (start.old_row w t place holder stations entry old p o os is_old valid sends m breaks)
      (start.old_known w t place holder stations entry old p o os is_old valid sends m breaks)
      (start.old_burst w t place holder stations entry old p o os is_old valid sends m breaks (length (heard_on c (hearing_of w telling before).ticks)))
      (start.teller-begins w t place holder stations entry old p o os is_old valid sends m breaks) x ticks hits words hears-it
      (end.shown-c w t place holder stations entry old p o os is_old valid sends m breaks orders)
      (end.shown-d w t place holder stations entry old p o os is_old valid sends m breaks orders)
      (end.many w t place holder stations entry old p o os is_old valid sends m breaks orders)
      (start.fits w t place holder stations entry old p o os is_old valid sends m breaks)
      (start.some w t place holder stations entry old p o os is_old valid sends m breaks)
      (end.over w t place holder stations entry old p o os is_old valid sends m breaks orders late short)
      (stays p.beside.teller telling p.beside.teller_at)

  teller-free : last_order telling.terminal.address burst.slots ≡ None → HasDuty w later telling d (length past + part_ticks hits words) First free
  teller-free =
      after.teller-free w telling before c d old.sent.words o os (start.old_row w t place holder stations entry old p o os is_old valid sends m breaks)
      (start.old_known w t place holder stations entry old p o os is_old valid sends m breaks)
      (start.old_burst w t place holder stations entry old p o os is_old valid sends m breaks (length (heard_on c (hearing_of w telling before).ticks)))
      (start.teller-begins w t place holder stations entry old p o os is_old valid sends m breaks) x ticks hits words hears-it
      (end.shown-c w t place holder stations entry old p o os is_old valid sends m breaks orders)
      (end.shown-d w t place holder stations entry old p o os is_old valid sends m breaks orders)
      (end.many w t place holder stations entry old p o os is_old valid sends m breaks orders)
      (start.fits w t place holder stations entry old p o os is_old valid sends m breaks)
      (start.some w t place holder stations entry old p o os is_old valid sends m breaks)
      (end.over w t place holder stations entry old p o os is_old valid sends m breaks orders late short)
      (stays p.beside.teller telling p.beside.teller_at)

  -- as the command begins
  teller-then : hearing_of w telling past ≡ record {
    memory = (hearing_of w telling before).memory;
    ticks = teller.heard_then w.lag telling (starts w.plan telling) w.loads w.outside before c d old.sent.words o os
        (start.old_row w t place holder stations entry old p o os is_old valid sends m breaks)
        (start.old_known w t place holder stations entry old p o os is_old valid sends m breaks)
        (start.old_burst w t place holder stations entry old p o os is_old valid sends m breaks (length (heard_on c (hearing_of w telling before).ticks)))
        (start.teller-begins w t place holder stations entry old p o os is_old valid sends m breaks);
  }
  teller-then =
      teller.then-hears w.lag telling (starts w.plan telling) w.loads w.outside before c d old.sent.words o os
      (start.old_row w t place holder stations entry old p o os is_old valid sends m breaks)
      (start.old_known w t place holder stations entry old p o os is_old valid sends m breaks)
      (start.old_burst w t place holder stations entry old p o os is_old valid sends m breaks (length (heard_on c (hearing_of w telling before).ticks)))
      (start.teller-begins w t place holder stations entry old p o os is_old valid sends m breaks)
      (λ tick low high. stays p.beside.teller telling p.beside.teller_at tick low)

  teller-same : course_of w telling past ≡ course_of w telling before
  teller-same =
      teller.then-same w.lag telling (starts w.plan telling) w.loads w.outside before c d old.sent.words o os
      (start.old_row w t place holder stations entry old p o os is_old valid sends m breaks)
      (start.old_known w t place holder stations entry old p o os is_old valid sends m breaks)
      (start.old_burst w t place holder stations entry old p o os is_old valid sends m breaks (length (heard_on c (hearing_of w telling before).ticks)))
      (start.teller-begins w t place holder stations entry old p o os is_old valid sends m breaks)
      (λ tick low high. stays p.beside.teller telling p.beside.teller_at tick low)

  abbrev Told : StationData → Present → Type 0
  Told station y = CommandTold w.lag w.plan w.loads w.outside w.absent past (x ∷ ticks) command station y

  teller-duty : (y : Present) → Told telling y → HasDuty w later telling d (length past + part_ticks hits words) First (after_command w.lag w.loads command y).duty
  teller-duty y told = elim (cases-option (last_order telling.terminal.address command.slots)) [
    | inl none ↦ subst (HasDuty w later telling d (length past + part_ticks hits words) First) (sym (told.passed none)) (teller-free none)
    | inr found ↦ (
        let order = found.0 in
        let tick = burst_end command + w.lag in
        let h : Hearing = hearing_of w telling past in
        teller-has found.0 found.1 (after_command w.lag w.loads command y).duty
        (ap (λ (hh : Hearing). (obeyed_in telling.terminal w.loads (end_of burst + w.lag) (standing_after w.lag telling.terminal w.loads hh) d order (rest_of burst)
        (has_items (course_of w telling before).left)).duty) (sym teller-then)
        ∙ ap (λ (cc : Course). (obeyed_in telling.terminal w.loads (end_of burst + w.lag) (standing_of w telling past) d order (rest_of burst)
        (has_items cc.left)).duty) (sym teller-same)
        ∙ ap (λ n. (obeyed_in telling.terminal w.loads (n + w.lag) (standing_of w telling past) d order (rest_of burst)
        (has_items (course_of w telling past).left)).duty) same-end
        ∙ ap (λ r. (obeyed_in telling.terminal w.loads (burst_end command + w.lag) (standing_of w telling past) d order r
        (has_items (course_of w telling past).left)).duty) same-rest
        ∙ sym (told.ordered found.0 found.1)))
  ]

  -- ---- another one

  module _ (other : ℕ) (station : StationData) (at : IsPresentAt w other station) (away : other ≢ place) (aside : other ≢ p.beside.teller) where
    serving : IsServing w.lag station (starts w.plan station) w.loads w.outside before
    serving = both.serving w t place holder stations entry old p o os is_old valid sends m breaks other station at away aside

    abbrev course : Course
    course = course_of w station before

    abbrev hearing : Hearing
    hearing = hearing_of w station before

    abbrev all : List Pair
    all = (x ∷ ticks) ++ (o ∷ os)

    none-for : last_order station.terminal.address burst.slots ≡ None
    none-for =
        not-for-another hits entry.item.kind old.sent.address station.terminal.address p.entry_of.ranges.kind p.supersedes
        (olds.other-named w t place holder stations entry old p other station at aside) p.beside.begins.words.terminal

    passes : bystander.PassesOver w.lag station (starts w.plan station) w.loads w.outside before serving all
    passes =
        both.passes-both w t place holder stations entry old p o os is_old valid sends m breaks other station at away aside (x ∷ ticks)
        (end.shown-c w t place holder stations entry old p o os is_old valid sends m breaks orders)
        (end.whole w t place holder stations entry old p o os is_old valid sends m breaks orders).shown

    passes-old : bystander.PassesOver w.lag station (starts w.plan station) w.loads w.outside before serving (o ∷ os)
    passes-old =
        both.passes-both w t place holder stations entry old p o os is_old valid sends m breaks other station at away aside []
        (start.both-begin w t place holder stations entry old p o os is_old valid sends m breaks).so_far refl

    stays-for : (j tick : ℕ) → length before ≤ tick → tick < length before + j →
        outside_takes w.lag station (starts w.plan station) w.loads w.outside tick w.outside ≡ []
    stays-for j tick low high = stays other station at tick low

    abbrev hears_before : Hearing
    hears_before = record { memory = hearing.memory; ticks = moments_of course (o ∷ os) ++ hearing.ticks }

    abbrev hears_after : Hearing
    hears_after = record { memory = hearing.memory; ticks = moments_of course all ++ hearing.ticks }

    before-is : hearing_of w station past ≡ hears_before
    before-is =
        bystander.passing-hears w.lag station (starts w.plan station) w.loads w.outside before serving (o ∷ os) passes-old (stays-for (length (o ∷ os)))

    all-is : hearing_of w station (all ++ before) ≡ hears_after
    all-is = bystander.passing-hears w.lag station (starts w.plan station) w.loads w.outside before serving all passes (stays-for (length all))

    joined : all ++ before ≡ later
    joined = append_assoc (x ∷ ticks) (o ∷ os) before

    after-is : hearing_of w station later ≡ hears_after
    after-is = ap (hearing_of w station) (sym joined) ∙ all-is

    stands-after : standing_after w.lag station.terminal w.loads hears_after ≡ standing_of w station before
    stands-after =
        ap (standing_after w.lag station.terminal w.loads) (sym all-is)
        ∙ bystander.passing-stands w.lag station (starts w.plan station) w.loads w.outside before serving all passes (stays-for (length all))

    stands-before : standing_after w.lag station.terminal w.loads hears_before ≡ standing_of w station before
    stands-before =
        ap (standing_after w.lag station.terminal w.loads) (sym before-is)
        ∙ bystander.passing-stands w.lag station (starts w.plan station) w.loads w.outside before serving (o ∷ os) passes-old (stays-for (length (o ∷ os)))

    took-none : took_now w.lag station.terminal w.loads hears_after ≡ None
    took-none =
        ap (took_now w.lag station.terminal w.loads) (sym all-is)
        ∙ bystander.passing-takes w.lag station (starts w.plan station) w.loads w.outside before serving x (ticks ++ (o ∷ os)) passes
        (stays-for (length all))

    pub other-heard : Heard station
    other-heard =
        heard-from w.lag station w.loads d burst (starts w.plan station) w.outside past (x ∷ ticks) hears_before hears_after course before-is
        (bystander.passing-same w.lag station (starts w.plan station) w.loads w.outside before serving (o ∷ os) passes-old (stays-for (length (o ∷ os))))
        after-is
        (ap (course_of w station) (sym joined)
        ∙ bystander.passing-same w.lag station (starts w.plan station) w.loads w.outside before serving all passes (stays-for (length all)))
        (ap (λ ms. record { memory = hearing.memory; ticks = ms }) (ap (λ ms. ms ++ hearing.ticks) (moments-join course (x ∷ ticks) (o ∷ os))
        ∙ append_assoc (moments_of course (x ∷ ticks)) (moments_of course (o ∷ os)) hearing.ticks))
        (λ order last. absurd (none-some order (sym none-for ∙ last)))
        (λ order last mays. absurd (none-some order (sym none-for ∙ last)))
        (λ none. (stands-after ∙ sym stands-before, took-none))

    -- no burst runs for it either
    rests-c : runs w.lag (heard_on c hears_after.ticks) ≡ false
    rests-c =
        ap (runs w.lag) (heard-append c (moments_of course all) hearing.ticks
        ∙ ap (λ xs. xs ++ heard_on c hearing.ticks) (moments-shown c course all
        ∙ end.shown-c w t place holder stations entry old p o os is_old valid sends m breaks orders))
        ∙ (start.old-ends w t place holder stations entry old p o os is_old valid sends m breaks (heard_on c hearing.ticks) (serving.free.rests c)).rests
        (length all) (let over = end.over w t place holder stations entry old p o os is_old valid sends m breaks orders late short in omega (arith, over))

    rests-d : runs w.lag (heard_on d hears_after.ticks) ≡ false
    rests-d =
        ap (λ ms. runs w.lag (heard_on d (ms ++ hearing.ticks))) (moments-join course (x ∷ ticks) (o ∷ os))
        ∙ ap (λ ms. runs w.lag (heard_on d ms)) (append_assoc (moments_of course (x ∷ ticks)) (moments_of course (o ∷ os)) hearing.ticks)
        ∙ ap (runs w.lag) (heard-append d (moments_of course (x ∷ ticks)) (moments_of course (o ∷ os) ++ hearing.ticks)
        ∙ ap (λ xs. xs ++ heard_on d (moments_of course (o ∷ os) ++ hearing.ticks)) (moments-shown d course (x ∷ ticks)
        ∙ end.shown-d w t place holder stations entry old p o os is_old valid sends m breaks orders))
        ∙ (row-part w.lag Command hits words (heard_on d (moments_of course (o ∷ os) ++ hearing.ticks)) p.lag
        (start.fits w t place holder stations entry old p o os is_old valid sends m breaks)
        (start.some w t place holder stations entry old p o os is_old valid sends m breaks)
        (both.rests-then w t place holder stations entry old p o os is_old valid sends m breaks other station at away aside)).rests
        (part_ticks hits words + suc w.lag) (omega arith)

    rests : (a : Channel) → runs w.lag (heard_on a hears_after.ticks) ≡ false
    rests a = elim (this-or-other c a) [
      | inl same ↦ subst (λ y. runs w.lag (heard_on y hears_after.ticks) ≡ false) (sym same) rests-c
      | inr far ↦ subst (λ y. runs w.lag (heard_on y hears_after.ticks) ≡ false)
          (sym (far ∙ sym (start.channel-is w t place holder stations entry old p o os is_old valid sends m breaks))) rests-d
    ]

    other-free : HasDuty w later station d (length past + part_ticks hits words) First free
    other-free =
        subst (IsServing w.lag station (starts w.plan station) w.loads w.outside) joined
        (bystander.passing-serving w.lag station (starts w.plan station) w.loads w.outside before serving all passes (stays-for (length all))
        (λ a. ap (λ (h : Hearing). runs w.lag (heard_on a h.ticks)) all-is ∙ rests a))

    other-duty : (y : Present) → Told station y → HasDuty w later station d (length past + part_ticks hits words) First (after_command w.lag w.loads command y).duty
    other-duty y told = subst (HasDuty w later station d (length past + part_ticks hits words) First) (sym (told.passed none-for)) other-free

  -- ---- each of them

  module _ (other : ℕ) (station : StationData) (at : IsPresentAt w other station) (away : other ≢ place) where
    pub each-heard : Heard station
    each-heard = elim (cases_eq other p.beside.teller) [
      | inl same ↦ (
          let is : telling ≡ station = same_Some telling station (sym p.beside.teller_at.there ∙ ap (slice_get w.plan.stations) (sym same) ∙ at.there) in
          subst Heard is teller-heard)
      | inr aside ↦ other-heard other station at away aside
    ]

    each-duty : (y : Present) → Told station y → HasDuty w later station d (length past + part_ticks hits words) First (after_command w.lag w.loads command y).duty
    each-duty y told = elim (cases_eq other p.beside.teller) [
      | inl same ↦ (
          let is : telling ≡ station = same_Some telling station (sym p.beside.teller_at.there ∙ ap (slice_get w.plan.stations) (sym same) ∙ at.there) in
          subst (λ st. HasDuty w later st d (length past + part_ticks hits words) First (after_command w.lag w.loads command y).duty) is
          (teller-duty y (subst (λ st. Told st y) (sym is) told)))
      | inr aside ↦ other-duty other station at away aside y told
    ]

    pub each-server : (y : Present) → Told station y → IsServer w later d (burst_end command) First station (after_command w.lag w.loads command y)
    each-server y told = record {
      is = told.stands;
      duty = subst (λ n. HasDuty w later station d n First (after_command w.lag w.loads command y).duty) same-end (each-duty y told);
    }
