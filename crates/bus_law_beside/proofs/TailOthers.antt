-- The stations that don't hold control, while an abandoned answer is sent on after a command of which the first word was struck: nothing changes of them.
use Rattle.std.proofs.Common.{◌≡◌, ◌≢◌, inl, inr, ℕ, ◌+◌, ◌-◌, ◌<◌, Bool, false, List, [], ◌∷◌, ◌++◌, length, None, refl, sym, ap, ◌∙◌, subst, arith, length-append, append_assoc}
use Rattle.std.proofs.lemmas.Bool.{cases_eq}
use Rattle.std.proofs.lemmas.Option.{same_Some}
use Rattle.std.specs.Prelude.{slice_get}
use Rattle.bus_base.specs.declared.samples.Channel.{Channel}
use Rattle.bus_base.specs.declared.samples.Drive.TheVariants.{Silent}
use Rattle.bus_base.specs.declared.samples.Pair.{Pair}
use Rattle.bus_base.specs.declared.samples.Part.TheVariants.{Command}
use Rattle.bus_line.specs.Past.{runs}
use Rattle.bus_formats.specs.Forms.{command_words}
use Rattle.bus_formats.specs.Plans.{StationData}
use Rattle.bus_model.specs.Control.{drives_next}
use Rattle.bus_model.specs.Course.{Course}
use Rattle.bus_model.specs.Hearing.{Moment, Hearing, heard_on}
use Rattle.bus_model.specs.Memory.{with_loads}
use Rattle.bus_model.specs.Message.{Present}
use Rattle.bus_model.specs.Orders.{last_order}
use Rattle.bus_model.specs.Standing.{Standing}
use Rattle.bus_model.specs.Starts.{Entry, starts}
use Rattle.bus_model.specs.Strikes.{ShownAnswer, struck}
use Rattle.bus_model.specs.Terminal.{took_now}
use Rattle.bus_law_stations.specs.Turns.{moments_of}
use Rattle.bus_law_stations.proofs.LegTicks.{heard-append}
use Rattle.bus_law_messages.specs.Settled.{IsServing}
use Rattle.bus_law_messages.proofs.Listening.{moments-shown, this-or-other}
use Rattle.bus_law_table.specs.Stations.{loaded_at}
use Rattle.bus_law_phases.specs.Scenarios.{Scenario, shown_at, course_of, hearing_of, standing_of, present_of, IsPresentAt}
use Rattle.bus_law_phases.proofs.AnswerLeft.{told-with, alike-later}
use Rattle.bus_law_beside.specs.Beside.{BeginsBeside}
use Rattle.bus_law_beside.proofs.BesideBegins as start
use Rattle.bus_law_beside.proofs.BesideDrives as both
use Rattle.bus_law_beside.proofs.BesideEnd as end
use Rattle.bus_law_beside.proofs.Bystander as bystander
use Rattle.bus_law_beside.proofs.Bystander.{moments-join}
use Rattle.bus_law_beside.proofs.RowLaws.{row-part}
use Rattle.bus_law_beside.proofs.StopTicks.{BreaksOff}
use Rattle.bus_law_beside.proofs.Tail as tail
use Rattle.bus_law_beside.proofs.TailTeller as tailing

module _ (w : Scenario) (t place : ℕ) (holder : StationData) (stations : List Present) (entry : Entry) (old : ShownAnswer)
    (p : BeginsBeside w t place holder stations entry old) (o : Pair) (os : List Pair) (is_old : p.beside.ticks ≡ o ∷ os) (valid : Bool) (sends m : ℕ)
    (breaks : BreaksOff old (t - old.sent.start) valid sends m)
    (orders : both.OrdersIt w t place holder stations entry old p o os is_old valid sends m breaks) (off : valid ≡ false)
    (never : last_order p.beside.telling.terminal.address
    (struck (start.hits w t place holder stations entry old p o os is_old valid sends m breaks) (command_words entry.item.kind)) ≡ None) where
  abbrev before : List Pair
  before = shown_at w old.sent.start

  abbrev past : List Pair
  past = (o ∷ os) ++ before

  abbrev c : Channel
  c = old.sent.channel

  abbrev d : Channel
  d = tail.d w t place holder stations entry old p o os is_old valid sends m breaks orders

  abbrev ours : List Pair
  ours = tail.ours w t place holder stations entry old p o os is_old valid sends m breaks orders

  abbrev later : List Pair
  later = tail.later w t place holder stations entry old p o os is_old valid sends m breaks orders

  abbrev IsTail : List Pair → Type 0
  IsTail ys = tail.IsTail w t place holder stations entry old p o os is_old valid sends m breaks orders ys

  abbrev telling : StationData
  telling = p.beside.telling

  abbrev so_many : List Pair → ℕ
  so_many ys = length ((ys ++ ours) ++ (o ∷ os))

  same-past : (ys : List Pair) → ((ys ++ ours) ++ (o ∷ os)) ++ before ≡ ys ++ later
  same-past ys = append_assoc (ys ++ ours) (o ∷ os) before ∙ append_assoc ys ours ((o ∷ os) ++ before)

  -- its controller, and what stands of its terminal, are as they were when the command began
  pub record Unchanged (station : StationData) (ys : List Pair) : Type 0 where
    pub course : course_of w station (ys ++ later) ≡ course_of w station past
    pub stands : standing_of w station (ys ++ later) ≡ standing_of w station past

  -- ---- one that only listens

  module _ (other : ℕ) (station : StationData) (at : IsPresentAt w other station) (away : other ≢ place) (aside : other ≢ p.beside.teller) where
    serving : IsServing w.lag station (starts w.plan station) w.loads w.outside before
    serving = both.serving w t place holder stations entry old p o os is_old valid sends m breaks other station at away aside

    abbrev course : Course
    course = course_of w station before

    abbrev heard : List Moment
    heard = (hearing_of w station before).ticks

    passes : (ys : List Pair) → IsTail ys →
        bystander.PassesOver w.lag station (starts w.plan station) w.loads w.outside before serving ((ys ++ ours) ++ (o ∷ os))
    passes ys so = both.passes-both w t place holder stations entry old p o os is_old valid sends m breaks other station at away aside (ys ++ ours)
        so.answered (tail.command-row w t place holder stations entry old p o os is_old valid sends m breaks orders ys so.quiet)

    passes-first : bystander.PassesOver w.lag station (starts w.plan station) w.loads w.outside before serving (o ∷ os)
    passes-first =
        both.passes-both w t place holder stations entry old p o os is_old valid sends m breaks other station at away aside []
        (start.both-begin w t place holder stations entry old p o os is_old valid sends m breaks).so_far refl

    by-same : (ys : List Pair) → IsTail ys → course_of w station (ys ++ later) ≡ course_of w station before
    by-same ys so =
        ap (course_of w station) (sym (same-past ys))
        ∙ bystander.passing-same w.lag station (starts w.plan station) w.loads w.outside before serving ((ys ++ ours) ++ (o ∷ os)) (passes ys so)
        (both.stays-there w t place holder stations entry old p o os is_old valid sends m breaks other station at away aside (so_many ys))

    by-stands : (ys : List Pair) → IsTail ys → standing_of w station (ys ++ later) ≡ standing_of w station before
    by-stands ys so =
        ap (standing_of w station) (sym (same-past ys))
        ∙ bystander.passing-stands w.lag station (starts w.plan station) w.loads w.outside before serving ((ys ++ ours) ++ (o ∷ os)) (passes ys so)
        (both.stays-there w t place holder stations entry old p o os is_old valid sends m breaks other station at away aside (so_many ys))

    first-same : course_of w station past ≡ course_of w station before
    first-same =
        bystander.passing-same w.lag station (starts w.plan station) w.loads w.outside before serving (o ∷ os) passes-first
        (both.stays-there w t place holder stations entry old p o os is_old valid sends m breaks other station at away aside (length (o ∷ os)))

    first-stands : standing_of w station past ≡ standing_of w station before
    first-stands =
        bystander.passing-stands w.lag station (starts w.plan station) w.loads w.outside before serving (o ∷ os) passes-first
        (both.stays-there w t place holder stations entry old p o os is_old valid sends m breaks other station at away aside (length (o ∷ os)))

    by-unchanged : (ys : List Pair) → IsTail ys → Unchanged station ys
    by-unchanged ys so = record { course = by-same ys so ∙ sym first-same; stands = by-stands ys so ∙ sym first-stands }

    by-takes : (y : Pair) (ys : List Pair) → IsTail (y ∷ ys) →
        took_now w.lag station.terminal w.loads (hearing_of w station ((y ∷ ys) ++ later)) ≡ None
    by-takes y ys so =
        ap (λ ps. took_now w.lag station.terminal w.loads (hearing_of w station ps)) (sym (same-past (y ∷ ys)))
        ∙ bystander.passing-takes w.lag station (starts w.plan station) w.loads w.outside before serving y ((ys ++ ours) ++ (o ∷ os)) (passes (y ∷ ys) so)
        (both.stays-there w t place holder stations entry old p o os is_old valid sends m breaks other station at away aside (so_many (y ∷ ys)))

    by-end-takes : took_now w.lag station.terminal w.loads (hearing_of w station later) ≡ None
    by-end-takes =
        ap (λ ps. took_now w.lag station.terminal w.loads (hearing_of w station ps)) (sym (same-past []))
        ∙ bystander.passing-takes w.lag station (starts w.plan station) w.loads w.outside before serving
        (end.x w t place holder stations entry old p o os is_old valid sends m breaks orders)
        (end.ticks w t place holder stations entry old p o os is_old valid sends m breaks orders ++ (o ∷ os))
        (passes [] (tail.no-tail w t place holder stations entry old p o os is_old valid sends m breaks orders))
        (both.stays-there w t place holder stations entry old p o os is_old valid sends m breaks other station at away aside (so_many []))

    pub by-silent : (ys : List Pair) → IsTail ys → drives_next w.lag station (starts w.plan station) w.loads w.outside (ys ++ later) ≡ Silent
    by-silent ys so =
        ap (drives_next w.lag station (starts w.plan station) w.loads w.outside) (sym (same-past ys))
        ∙ bystander.passing-silent w.lag station (starts w.plan station) w.loads w.outside before serving ((ys ++ ours) ++ (o ∷ os)) (passes ys so)
        (both.stays-there w t place holder stations entry old p o os is_old valid sends m breaks other station at away aside (so_many ys))

    module _ (ys : List Pair) (so : IsTail ys) (over : start.old_known w t place holder stations entry old p o os is_old valid sends m breaks < so_many ys)
      where
        abbrev all : List Pair
        all = (ys ++ ours) ++ (o ∷ os)

        rests-c : runs w.lag (heard_on c (moments_of course ((ys ++ ours) ++ (o ∷ os)) ++ heard)) ≡ false
        rests-c =
            ap (runs w.lag) (heard-append c (moments_of course ((ys ++ ours) ++ (o ∷ os))) heard
            ∙ ap (λ xs. xs ++ heard_on c heard) (moments-shown c course ((ys ++ ours) ++ (o ∷ os)) ∙ so.answered))
            ∙ (start.old-ends w t place holder stations entry old p o os is_old valid sends m breaks (heard_on c heard) (serving.free.rests c)).rests
            (so_many ys) (omega (arith, over))

        rests-d : runs w.lag (heard_on d (moments_of course ((ys ++ ours) ++ (o ∷ os)) ++ heard)) ≡ false
        rests-d =
            let count = length-append ys ours in
            let many = end.many w t place holder stations entry old p o os is_old valid sends m breaks orders in
            ap (λ ms. runs w.lag (heard_on d (ms ++ heard))) (moments-join course (ys ++ ours) (o ∷ os))
            ∙ ap (λ ms. runs w.lag (heard_on d ms)) (append_assoc (moments_of course (ys ++ ours)) (moments_of course (o ∷ os)) heard)
            ∙ ap (runs w.lag) (heard-append d (moments_of course (ys ++ ours)) (moments_of course (o ∷ os) ++ heard)
            ∙ ap (λ xs. xs ++ heard_on d (moments_of course (o ∷ os) ++ heard))
            (moments-shown d course (ys ++ ours) ∙ tail.command-row w t place holder stations entry old p o os is_old valid sends m breaks orders ys so.quiet))
            ∙ (row-part w.lag Command (start.hits w t place holder stations entry old p o os is_old valid sends m breaks) (command_words entry.item.kind)
            (heard_on d (moments_of course (o ∷ os) ++ heard)) p.lag
            (start.fits w t place holder stations entry old p o os is_old valid sends m breaks)
            (start.some w t place holder stations entry old p o os is_old valid sends m breaks)
            (both.rests-then w t place holder stations entry old p o os is_old valid sends m breaks other station at away aside)).rests
            (length (ys ++ ours)) (omega (arith, count, many))

        rests-so : (a : Channel) → runs w.lag (heard_on a (hearing_of w station (((ys ++ ours) ++ (o ∷ os)) ++ before)).ticks) ≡ false
        rests-so a =
            ap (λ (h : Hearing). runs w.lag (heard_on a h.ticks))
            (bystander.passing-hears w.lag station (starts w.plan station) w.loads w.outside before serving ((ys ++ ours) ++ (o ∷ os)) (passes ys so)
            (both.stays-there w t place holder stations entry old p o os is_old valid sends m breaks other station at away aside (so_many ys)))
            ∙ elim (this-or-other c a) [
              | inl same ↦ ap (λ z. runs w.lag (heard_on z (moments_of course ((ys ++ ours) ++ (o ∷ os)) ++ heard))) same ∙ rests-c
              | inr far ↦ ap (λ z. runs w.lag (heard_on z (moments_of course ((ys ++ ours) ++ (o ∷ os)) ++ heard)))
                  (far ∙ sym (start.channel-is w t place holder stations entry old p o os is_old valid sends m breaks)) ∙ rests-d
            ]

        by-serving : IsServing w.lag station (starts w.plan station) w.loads w.outside (ys ++ later)
        by-serving =
            subst (IsServing w.lag station (starts w.plan station) w.loads w.outside) (same-past ys)
            (bystander.passing-serving w.lag station (starts w.plan station) w.loads w.outside before serving ((ys ++ ours) ++ (o ∷ os)) (passes ys so)
            (both.stays-there w t place holder stations entry old p o os is_old valid sends m breaks other station at away aside (so_many ys)) rests-so)

  -- ---- the one that sends its answer

  tell-unchanged : (ys : List Pair) → IsTail ys → Unchanged telling ys
  tell-unchanged ys so = record {
    course = tailing.tail-same w t place holder stations entry old p o os is_old valid sends m breaks orders off never ys so ∙ sym
        (tailing.past-same w t place holder stations entry old p o os is_old valid sends m breaks orders off never);
    stands = tailing.tail-standing w t place holder stations entry old p o os is_old valid sends m breaks orders off never ys so ∙ sym
        (tailing.past-stands w t place holder stations entry old p o os is_old valid sends m breaks orders off never);
  }

  -- ---- each of them

  by-two : (P : StationData → Type 0) → P telling →
      ((other : ℕ) (station : StationData) → IsPresentAt w other station → other ≢ place → other ≢ p.beside.teller → P station) →
      (other : ℕ) (station : StationData) → IsPresentAt w other station → other ≢ place → P station
  by-two P tells others other station at away = elim (cases_eq other p.beside.teller) [
    | inl same ↦ (
        let is : telling ≡ station = same_Some telling station (sym p.beside.teller_at.there ∙ ap (slice_get w.plan.stations) (sym same) ∙ at.there) in
        subst P is tells)
    | inr aside ↦ others other station at away aside
  ]

  pub unchanged : (ys : List Pair) → IsTail ys → (other : ℕ) (station : StationData) → IsPresentAt w other station → other ≢ place → Unchanged station ys
  unchanged ys so =
      by-two (λ station. Unchanged station ys) (tell-unchanged ys so) (λ other station at away aside. by-unchanged other station at away aside ys so)

  pub takes-none : (y : Pair) (ys : List Pair) → IsTail (y ∷ ys) → (other : ℕ) (station : StationData) → IsPresentAt w other station → other ≢ place →
      took_now w.lag station.terminal w.loads (hearing_of w station ((y ∷ ys) ++ later)) ≡ None
  takes-none y ys so =
      by-two (λ station. took_now w.lag station.terminal w.loads (hearing_of w station ((y ∷ ys) ++ later)) ≡ None)
      (tailing.tail-takes w t place holder stations entry old p o os is_old valid sends m breaks orders off never y ys so)
      (λ other station at away aside. by-takes other station at away aside y ys so)

  pub end-takes-none : (other : ℕ) (station : StationData) → IsPresentAt w other station → other ≢ place →
      took_now w.lag station.terminal w.loads (hearing_of w station later) ≡ None
  end-takes-none =
      by-two (λ station. took_now w.lag station.terminal w.loads (hearing_of w station later) ≡ None)
      (tailing.end-takes-none w t place holder stations entry old p o os is_old valid sends m breaks orders off never)
      (λ other station at away aside. by-end-takes other station at away aside)

  pub serves-on : (ys : List Pair) → IsTail ys → start.old_known w t place holder stations entry old p o os is_old valid sends m breaks < so_many ys →
      (other : ℕ) (station : StationData) → IsPresentAt w other station →
      other ≢ place → IsServing w.lag station (starts w.plan station) w.loads w.outside (ys ++ later)
  serves-on ys so over =
      by-two (λ station. IsServing w.lag station (starts w.plan station) w.loads w.outside (ys ++ later))
      (tailing.tail-serving w t place holder stations entry old p o os is_old valid sends m breaks orders off never ys so over)
      (λ other station at away aside. by-serving other station at away aside ys so over)

  -- each is what the table had of it, with the loads of that time
  pub present-on : (ys : List Pair) → IsTail ys → (other : ℕ) (station : StationData) → IsPresentAt w other station → other ≢ place → (y : Present) →
      present_of w station past ≡ loaded_at w.loads (length past) y →
      present_of w station (ys ++ later) ≡ loaded_at w.loads (length (ys ++ later)) y
  present-on ys so other station at away y same =
      let is = unchanged ys so other station at away in
      let joined : (ys ++ ours) ++ past ≡ ys ++ later = append_assoc ys ours past in
      let long : length ((ys ++ ours) ++ past) ≡ length (ys ++ ours) + length past = length-append (ys ++ ours) past in
      subst (λ ps. present_of w station ps ≡ loaded_at w.loads (length ps) y) joined
      (told-with w past (ys ++ ours) station y y.memory same (ap (course_of w station) joined ∙ is.course)
      (ap (λ (s : Standing). with_loads station.terminal.address (length ((ys ++ ours) ++ past)) w.loads s.memory)
      (ap (standing_of w station) joined ∙ is.stands)
      ∙ alike-later w past station y (length ((ys ++ ours) ++ past)) same (omega (arith, long))))
