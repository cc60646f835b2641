-- After a command of which the first word was struck, while the abandoned answer runs on beside it: what comes to pass, and that every tick is in order.
use Rattle.std.proofs.Common.{◌≡◌, ◌≢◌, inl, inr, ℕ, suc, ◌+◌, ◌-◌, ◌<◌, ◌≤◌, Bool, true, false, List, [], ◌∷◌, ◌++◌, length, Some, None, sym, ap, ◌∙◌, subst, arith, length-append, append_assoc}
use Rattle.std.proofs.lemmas.Bool.{cases_lt, cases_eq, lt-ltb, le-ltb}
use Rattle.std.proofs.lemmas.List.{append-nil}
use Rattle.std.proofs.lemmas.Option.{same_Some}
use Rattle.std.specs.Prelude.{nat_lt, if◌then◌else◌, slice_get}
use Rattle.bus_base.specs.declared.samples.Channel.{Channel}
use Rattle.bus_base.specs.declared.samples.Drive.{Drive}
use Rattle.bus_base.specs.declared.samples.Drive.TheVariants.{Silent}
use Rattle.bus_base.specs.declared.samples.Pair.{Pair}
use Rattle.bus_base.specs.declared.samples.Part.TheVariants.{First}
use Rattle.bus_line.specs.Channels.{quiet_both}
use Rattle.bus_formats.specs.Forms.{answers_of, command_words}
use Rattle.bus_formats.specs.Plans.{StationData}
use Rattle.bus_formats.specs.Times.{no_response}
use Rattle.bus_formats.specs.declared.form.Outcome.TheVariants.{NoResponse}
use Rattle.bus_formats.specs.declared.form.Shape.{Shape}
use Rattle.bus_formats.specs.declared.log.Attempt.{Attempt}
use Rattle.bus_model.specs.Attempts.{without_words}
use Rattle.bus_model.specs.Control.{drives_next}
use Rattle.bus_model.specs.Course.{Course}
use Rattle.bus_model.specs.Message.{Present}
use Rattle.bus_model.specs.Orders.{last_order}
use Rattle.bus_model.specs.Starts.{Entry, starts}
use Rattle.bus_model.specs.Strikes.{ShownAnswer, struck}
use Rattle.bus_model.specs.Terminal.{took_now}
use Rattle.bus_model.specs.Wire.{drivers}
use Rattle.bus_model.specs.World.{Trace, ticks_on}
use Rattle.bus_law_control.proofs.Holding.{heard-nothing}
use Rattle.bus_law_messages.proofs.Listening.{this-or-other}
use Rattle.bus_law_messages.proofs.Sending.{place-drives, place-silent}
use Rattle.bus_law_parts.proofs.Counting.{count-without}
use Rattle.bus_law_table.proofs.Takes.{unheard-takes}
use Rattle.bus_law_phases.specs.Answers.{attempts_ended}
use Rattle.bus_law_phases.specs.Commands.{attempt_recorded}
use Rattle.bus_law_phases.specs.Passages.{HoldsAlone, IsOrderly}
use Rattle.bus_law_phases.specs.Scenarios.{Scenario, trace_at, shown_at, driven_at, blocks_in, attempts_in, commands_in, course_of, hearing_of, IsPresentAt, drivers_at, is_over_at}
use Rattle.bus_law_phases.proofs.AnswerHolders.{closed-attempts, no-attempts}
use Rattle.bus_law_phases.proofs.AnswerQuiet.{quiet-goes-on}
use Rattle.bus_law_beside.specs.Beside.{BeginsBeside}
use Rattle.bus_law_beside.proofs.BesideBegins as start
use Rattle.bus_law_beside.proofs.BesideDrives as both
use Rattle.bus_law_beside.proofs.BesideEnd as end
use Rattle.bus_law_beside.proofs.BesideKeeps as keeps
use Rattle.bus_law_beside.proofs.BesideLegs as legs
use Rattle.bus_law_beside.proofs.StopTicks.{BreaksOff}
use Rattle.bus_law_beside.proofs.Tail as tail
use Rattle.bus_law_beside.proofs.TailHolder as control
use Rattle.bus_law_beside.proofs.TailOthers as others
use Rattle.bus_law_beside.proofs.TailQuiet as still
use Rattle.bus_law_beside.proofs.TailTeller as tailing
use Rattle.bus_law_beside.proofs.TwoSenders.{old_drive}
use Rattle.bus_law_beside.proofs.TailSteps.{none-taken, one-ends, by-yes, by-no}
use Rattle.bus_law_phases.proofs.Staying.{ticks-later, stays-later}
use Rattle.bus_law_beside.proofs.OldStations as olds

module _ (w : Scenario) (t place : ℕ) (holder : StationData) (stations : List Present) (entry : Entry) (old : ShownAnswer)
    (p : BeginsBeside w t place holder stations entry old) (o : Pair) (os : List Pair) (is_old : p.beside.ticks ≡ o ∷ os) (valid : Bool) (sends m : ℕ)
    (breaks : BreaksOff old (t - old.sent.start) valid sends m)
    (orders : both.OrdersIt w t place holder stations entry old p o os is_old valid sends m breaks) (off : valid ≡ false)
    (never : last_order p.beside.telling.terminal.address
    (struck (start.hits w t place holder stations entry old p o os is_old valid sends m breaks) (command_words entry.item.kind)) ≡ None)
    (shape : Shape) (expects : (answers_of entry.item.kind).first ≡ Some shape)
    (runs_on : length (([] ++ tail.ours w t place holder stations entry old p o os is_old valid sends m breaks orders) ++ (o ∷ os)) ≤ start.old_known w t
    place holder stations entry old p o os is_old valid sends m breaks) where
  abbrev past : List Pair
  past = (o ∷ os) ++ shown_at w old.sent.start

  abbrev later : List Pair
  later = tail.later w t place holder stations entry old p o os is_old valid sends m breaks orders

  abbrev ours : List Pair
  ours = tail.ours w t place holder stations entry old p o os is_old valid sends m breaks orders

  abbrev known : ℕ
  known = start.old_known w t place holder stations entry old p o os is_old valid sends m breaks

  abbrev IsTail : List Pair → Type 0
  IsTail ys = tail.IsTail w t place holder stations entry old p o os is_old valid sends m breaks orders ys

  abbrev pub so_many : List Pair → ℕ
  so_many ys = length ((ys ++ ours) ++ (o ∷ os))

  pub more-than : (ys : List Pair) → so_many ys ≡ length ys + so_many []
  more-than ys =
      let a = length-append (ys ++ ours) (o ∷ os) in
      let b = length-append ys ours in
      let c = length-append ours (o ∷ os) in
      omega (arith, a, b, c)

  -- until the end of the answer is known, and the message is closed
  abbrev pub limit : ℕ
  limit = (suc (suc known) - so_many []) + 21

  pub few : (ys : List Pair) → IsTail ys → length ys ≤ limit → quiet_both (ys ++ later) < 40
  few ys so low =
      let count = still.few-quiet w t place holder stations entry old p o os is_old valid sends m breaks orders runs_on ys so in
      let many = more-than ys in
      let lag = p.lag in
      omega (arith, count, many, low, runs_on, lag)

  pub waits : (ys : List Pair) → IsTail ys → length ys ≤ limit → control.Waits w t place holder stations entry old p o os is_old valid sends m breaks
      orders shape expects limit few ys
  waits = control.waits w t place holder stations entry old p o os is_old valid sends m breaks orders shape expects limit few

  abbrev telling : StationData
  telling = p.beside.telling

  -- ---- what they drive

  silent-at : (ys : List Pair) → IsTail ys → length ys < limit → (other : ℕ) (station : StationData) → IsPresentAt w other station →
      other ≢ p.beside.teller → drives_next w.lag station (starts w.plan station) w.loads w.outside (ys ++ later) ≡ Silent
  silent-at ys so low other station at aside = elim (cases_eq other place) [
    | inl same ↦ (
        let is : holder ≡ station = same_Some holder station (sym p.beside.at.there ∙ ap (slice_get w.plan.stations) (sym same) ∙ at.there) in
        subst (λ st. drives_next w.lag st (starts w.plan st) w.loads w.outside (ys ++ later) ≡ Silent) is (waits ys so (omega (arith, low))).silent)
    | inr away ↦ others.by-silent w t place holder stations entry old p o os is_old valid sends m breaks orders off never other station at away aside ys so
  ]

  pub drives : tail.TailDrives w t place holder stations entry old p o os is_old valid sends m breaks orders limit
  drives = record {
    tells = λ ys so low.
        place-drives w.lag w.plan w.loads w.outside w.absent (ys ++ later) p.beside.teller telling
        (old_drive (start.answer w t place holder stations entry old p o os is_old valid sends m breaks) sends (so_many ys)) p.beside.teller_at.there
        p.beside.teller_at.present (tailing.tail-drives w t place holder stations entry old p o os is_old valid sends m breaks orders off never ys so);
    others = λ ys so low other aside.
        place-silent w.lag w.plan w.loads w.outside w.absent (ys ++ later) other (λ station there present.
        silent-at ys so low other station record { there = there; present = present } aside);
  }

  abbrev pub Runs : ℕ → List Pair → List (List Drive) → Type 0
  Runs n ys zs = tail.TailRun w t place holder stations entry old p o os is_old valid sends m breaks orders n ys zs

  pub ran : (n : ℕ) → n ≤ limit → (ys : List Pair) × (zs : List (List Drive)) × Runs n ys zs
  ran n low = tail.tail-run w t place holder stations entry old p o os is_old valid sends m breaks orders limit drives n low

  -- the tick after the end of the command is known
  abbrev pub from : ℕ
  from = t + suc (end.most w t place holder stations entry old p o os is_old valid sends m breaks orders)

  pub trace-is : (n : ℕ) (ys : List Pair) (zs : List (List Drive)) → Runs n ys zs →
      trace_at w (from + n) ≡ record {
        shown = ys ++ later;
        driven = zs ++ tail.driven_later w t place holder stations entry old p o os is_old valid sends
            m breaks orders;
      }
  trace-is n ys zs so =
      sym (ticks-later w from n (stays-later w t from (omega arith) (olds.stays-now w t place holder stations entry old p)))
      ∙ ap (λ tr. ticks_on w.lag w.plan w.loads w.outside w.absent tr n)
      (end.trace-then w t place holder stations entry old p o os is_old valid sends m breaks orders)
      ∙ so.world

  pub shown-is : (n : ℕ) (ys : List Pair) (zs : List (List Drive)) → Runs n ys zs → shown_at w (from + n) ≡ ys ++ later
  shown-is n ys zs so = ap (λ (tr : Trace). tr.shown) (trace-is n ys zs so)

  -- ---- each tick is in order

  pub serves : (ys : List Pair) → IsTail ys → (other : ℕ) (station : StationData) → IsPresentAt w other station → other ≢ place →
      (course_of w station (ys ++ later)).holds ≡ false
  serves ys so other station at away =
      ap (λ (a : Course). a.holds) (others.unchanged w t place holder stations entry old p o os is_old valid sends m breaks orders off never ys so other
      station at away).course
      ∙ keeps.others-serve w t place holder stations entry old p o os is_old valid sends m breaks other station at away

  pub held : (ys : List Pair) → IsTail ys → length ys ≤ limit → HoldsAlone w (ys ++ later)
  held ys so low = record {
    place = place;
    holder = holder;
    at = p.beside.at;
    holds = control.still-holds w t place holder stations entry old p o os is_old valid sends m breaks orders shape expects limit few ys so low;
    others = serves ys so;
  }

  next-tick : (n j : ℕ) → n + suc j ≡ suc (n + j)
  next-tick n j = omega arith

  module _ (j : ℕ) (ys : List Pair) (zs : List (List Drive)) (so : Runs j ys zs) (low : j < limit) where
    abbrev y : Pair
    y = tail.y w t place holder stations entry old p o os is_old valid sends m breaks orders limit drives j ys zs low so

    abbrev driven : List Drive
    driven = tail.drives w t place holder stations entry old p o os is_old valid sends m breaks orders ys

    next-driven : driven_at w (from + suc j) ≡ (driven ∷ zs) ++ tail.driven_later w t place holder stations entry old p o os is_old valid sends m breaks
        orders
    next-driven =
        ap (λ (tr : Trace). tr.driven)
        (trace-is (suc j) (y ∷ ys) (driven ∷ zs) (tail.tail-more w t place holder stations entry old p o os is_old valid sends m breaks orders limit drives
        j ys zs low so))

    drives-then : (a : Channel) → drivers w.plan.faults a ((driven ∷ zs) ++ tail.driven_later w t place holder stations entry old p o os is_old valid sends
        m breaks orders) ≤ 1
    drives-then a = elim (this-or-other old.sent.channel a) [
      | inl same ↦ subst (λ c. drivers w.plan.faults c ((driven ∷ zs) ++ tail.driven_later w t place holder stations entry old p o os is_old valid sends m
          breaks orders) ≤ 1) (sym same)
          (tail.answer-alone w t place holder stations entry old p o os is_old valid sends m breaks orders limit drives j ys zs low so)
      | inr other ↦ subst (λ c. drivers w.plan.faults c ((driven ∷ zs) ++ tail.driven_later w t place holder stations entry old p o os is_old valid sends m
          breaks orders) ≤ 1)
          (sym (other ∙ sym (start.channel-is w t place holder stations entry old p o os is_old valid sends m breaks)))
          (tail.command-alone w t place holder stations entry old p o os is_old valid sends m breaks orders limit drives j ys zs low so)
    ]

    drives-so : (a : Channel) → drivers_at w (from + j) a ≤ 1
    drives-so a =
        subst (λ u. drivers w.plan.faults a (driven_at w u) ≤ 1) (next-tick from j)
        (subst (λ ds. drivers w.plan.faults a ds ≤ 1) (sym next-driven) (drives-then a))

  drives-one : (j : ℕ) → j < limit → (a : Channel) → drivers_at w (from + j) a ≤ 1
  drives-one j low =
      let so = ran j (omega (arith, low)) in drives-so j so.0 so.1 so.2 low

  held-after : (j : ℕ) → j ≤ limit → HoldsAlone w (shown_at w (from + j))
  held-after j low =
      let so = ran j low in
      let many = so.2.many in
      subst (HoldsAlone w) (sym (shown-is j so.0 so.1 so.2)) (held so.0 so.2.tail (omega (arith, many, low)))

  goes-on : (j : ℕ) → j < limit → is_over_at w (from + j) ≡ false
  goes-on j low =
      let so = ran j (omega (arith, low)) in
      let many = so.2.many in
      let quiet = few so.0 so.2.tail (omega (arith, many, low)) in
      quiet-goes-on w (from + j) (so.0 ++ later) (shown-is j so.0 so.1 so.2) (omega (arith, quiet))

  at-tick : (j : ℕ) → j < limit → IsOrderly w (from + j)
  at-tick j low = record {
    alone = drives-one j low;
    hands = inl (subst (λ u. HoldsAlone w (shown_at w u)) (next-tick from j) (held-after (suc j) (omega (arith, low))));
    goes_on = goes-on j low;
  }

  early : end.most w t place holder stations entry old p o os is_old valid sends m breaks orders < start.limit w t place holder stations entry old p o os
      is_old valid sends m breaks
  early = end.early w t place holder stations entry old p o os is_old valid sends m breaks orders

  -- that in which the end of the command becomes known
  last : IsOrderly w (t + end.most w t place holder stations entry old p o os is_old valid sends m breaks orders)
  last = record {
    alone = legs.drives-one w t place holder stations entry old p o os is_old valid sends m breaks orders
        (end.most w t place holder stations entry old p o os is_old valid sends m breaks orders) early;
    hands = inl (subst (λ u. HoldsAlone w (shown_at w u)) (next-tick t
        (end.most w t place holder stations entry old p o os is_old valid sends m breaks orders))
        (subst (HoldsAlone w) (sym (ap (λ (tr : Trace). tr.shown) (end.trace-then w t place holder stations entry old p o os is_old valid sends m breaks
        orders))) (held [] (tail.no-tail w t place holder stations entry old p o os is_old valid sends m breaks orders) (omega arith))));
    goes_on = legs.goes-on w t place holder stations entry old p o os is_old valid sends m breaks orders
        (end.most w t place holder stations entry old p o os is_old valid sends m breaks orders) early;
  }

  pub in-order : (i : ℕ) → t ≤ i → i < from + limit → IsOrderly w i
  in-order i low high = elim (cases_lt i (t + end.most w t place holder stations entry old p o os is_old valid sends m breaks orders)) [
    | inl before ↦ legs.in-order w t place holder stations entry old p o os is_old valid sends m breaks orders
        (end.most w t place holder stations entry old p o os is_old valid sends m breaks orders) early i low before
    | inr after ↦ elim (cases_lt i from) [
      | inl at ↦ (let same : t + end.most w t place holder stations entry old p o os is_old valid sends m breaks orders ≡ i = omega (arith, at, after) in
          subst (IsOrderly w) same last)
      | inr late ↦ (let same : from + (i - from) ≡ i = omega (arith, late) in subst (IsOrderly w) same (at-tick (i - from) (omega (arith, late, high))))
    ]
  ]

  -- ---- one command began

  pub tail-commands : (n : ℕ) (ys : List Pair) (zs : List (List Drive)) → Runs n ys zs →
      commands_in w (zs ++ tail.driven_later w t place holder stations entry old p o os is_old valid sends m breaks orders) ≡ commands_in w (driven_at w t)
      + 1
  tail-commands n ys zs so =
      count-without w.plan.faults (tail.driven_later w t place holder stations entry old p o os is_old valid sends m breaks orders) zs so.commands
      ∙ sym (ap (λ (tr : Trace). commands_in w tr.driven) (end.trace-then w t place holder stations entry old p o os is_old valid sends m breaks orders))
      ∙ legs.one-begins w t place holder stations entry old p o os is_old valid sends m breaks orders
      (suc (end.most w t place holder stations entry old p o os is_old valid sends m breaks orders)) _ _ (omega arith)
      (end.whole w t place holder stations entry old p o os is_old valid sends m breaks orders)

  -- ---- no block is taken

  by-place : (P : StationData → Type 0) → P holder →
      ((other : ℕ) (station : StationData) → IsPresentAt w other station → other ≢ place → P station) →
      (other : ℕ) (station : StationData) → IsPresentAt w other station → P station
  by-place P own rest other station at = elim (cases_eq other place) [
    | inl same ↦ (
        let is : holder ≡ station = same_Some holder station (sym p.beside.at.there ∙ ap (slice_get w.plan.stations) (sym same) ∙ at.there) in subst P is own)
    | inr away ↦ rest other station at away
  ]

  holder-takes : (x : Pair) (rest : List Pair) → (course_of w holder (x ∷ rest)).holds ≡ true →
      took_now w.lag holder.terminal w.loads (hearing_of w holder (x ∷ rest)) ≡ None
  holder-takes x rest holds =
      unheard-takes w.lag holder (starts w.plan holder) w.loads w.outside x rest
      (heard-nothing w.lag holder (starts w.plan holder) w.loads w.outside (x ∷ rest) holds)

  pub tail-blocks : (ys : List Pair) → IsTail ys → length ys ≤ limit → blocks_in w (ys ++ later) ≡ blocks_in w past
  tail-blocks [] so low =
      none-taken w (end.x w t place holder stations entry old p o os is_old valid sends m breaks orders)
      (end.ticks w t place holder stations entry old p o os is_old valid sends m breaks orders ++ past)
      (by-place (λ station. took_now w.lag station.terminal w.loads (hearing_of w station later) ≡ None)
      (holder-takes (end.x w t place holder stations entry old p o os is_old valid sends m breaks orders)
      (end.ticks w t place holder stations entry old p o os is_old valid sends m breaks orders ++ past)
      (control.still-holds w t place holder stations entry old p o os is_old valid sends m breaks orders shape expects limit few [] so low))
      (others.end-takes-none w t place holder stations entry old p o os is_old valid sends m breaks orders off never))
      ∙ legs.leg-blocks w t place holder stations entry old p o os is_old valid sends m breaks orders
      (end.ticks w t place holder stations entry old p o os is_old valid sends m breaks orders)
      (end.shows w t place holder stations entry old p o os is_old valid sends m breaks orders)
  tail-blocks (y ∷ ys) so low =
      none-taken w y (ys ++ later)
      (by-place (λ station. took_now w.lag station.terminal w.loads (hearing_of w station ((y ∷ ys) ++ later)) ≡ None)
      (holder-takes y (ys ++ later) (control.still-holds w t place holder stations entry old p o os is_old valid sends m breaks orders shape expects limit
      few (y ∷ ys) so low)) (others.takes-none w t place holder stations entry old p o os is_old valid sends m breaks orders off never y ys so))
      ∙ tail-blocks ys (tail.less w t place holder stations entry old p o os is_old valid sends m breaks orders y ys so) (omega (arith, low))

  -- ---- its attempt ends without an answer

  abbrev pub attempt : Attempt
  attempt = attempt_recorded holder.terminal.address (start.begun w t place holder stations entry old p o os is_old valid sends m breaks)
      (without_words (NoResponse First) None None)
      (control.e w t place holder stations entry old p o os is_old valid sends m breaks orders shape expects limit few + no_response)

  abbrev pub ended : List Pair → List Attempt
  ended ys = if nat_lt 20 (length ys) then attempt ∷ [] else []

  others-end : (x : Pair) (rest : List Pair) → length past ≤ length rest →
      ((other : ℕ) (station : StationData) → IsPresentAt w other station → other ≢ place → course_of w station (x ∷ rest) ≡ course_of w station past) →
      (other : ℕ) (station : StationData) → IsPresentAt w other station → other ≢ place →
      attempts_ended w station (length rest) (course_of w station (x ∷ rest)) ≡ []
  others-end x rest long same other station at away =
      ap (attempts_ended w station (length rest)) (same other station at away) ∙ no-attempts w station past (length rest) long

  abbrev closed : Course
  closed = control.closed w t place holder stations entry old p o os is_old valid sends m breaks orders shape expects limit few

  holder-ends : (y : Pair) (ys : List Pair) → IsTail (y ∷ ys) → length (y ∷ ys) ≤ limit →
      (more : List Attempt) × (attempts_ended w holder (length (ys ++ later)) (course_of w holder ((y ∷ ys) ++ later)) ≡ more) ×
      (ended (y ∷ ys) ≡ ended ys ++ more)
  holder-ends y ys so low =
      let now = (waits (y ∷ ys) so low).is in
      let before = (waits ys (tail.less w t place holder stations entry old p o os is_old valid sends m breaks orders y ys so) (omega (arith, low))).is in
      let first = course_of w holder later in
      elim (cases_eq (length ys) 20) [
        | inl at ↦ (
            let all : length (ys ++ later) ≡ length ys + length later = length-append ys later in
            let long = control.long-later w t place holder stations entry old p o os is_old valid sends m breaks orders shape expects limit few in
            let tick : length (ys ++ later) ≡ control.e w t place holder stations entry old p o os is_old valid sends m breaks orders shape expects limit
            few + no_response = omega (arith, all, at, long) in (
              attempt ∷ [],
              ap (attempts_ended w holder (length (ys ++ later))) (now ∙ by-yes (nat_lt 20 (suc (length ys))) closed first
                  (lt-ltb 20 (suc (length ys)) (omega (arith, at))))
                  ∙ ap (λ n. attempts_ended w holder n closed) tick
                  ∙ closed-attempts w holder (course_of w holder past) (start.begun w t place holder stations entry old p o os is_old valid sends m breaks)
                  (without_words (NoResponse First) None None)
                  (control.e w t place holder stations entry old p o os is_old valid sends m breaks orders shape expects limit few + no_response),
              by-yes (nat_lt 20 (suc (length ys))) (attempt ∷ []) [] (lt-ltb 20 (suc (length ys)) (omega (arith, at)))
                  ∙ sym (ap (λ xs. xs ++ (attempt ∷ [])) (by-no (nat_lt 20 (length ys)) (attempt ∷ []) [] (le-ltb 20 (length ys) (omega (arith, at))))),
            ))
        | inr apart ↦ (
            let test : nat_lt 20 (suc (length ys)) ≡ nat_lt 20 (length ys) = elim (cases_lt 20 (length ys)) [
              | inl late ↦ lt-ltb 20 (suc (length ys)) (omega (arith, late)) ∙ sym (lt-ltb 20 (length ys) late)
              | inr low ↦ le-ltb 20 (suc (length ys)) (omega (arith, low, apart)) ∙ sym (le-ltb 20 (length ys) low)
            ] in (
              [],
              ap (attempts_ended w holder (length (ys ++ later))) (now ∙ ap (λ (b : Bool). if b then closed else first) test ∙ sym before)
                  ∙ no-attempts w holder (ys ++ later) (length (ys ++ later)) (omega arith),
              ap (λ (b : Bool). if b then attempt ∷ [] else []) test ∙ sym (append-nil (ended ys)),
            ))
      ]

  pub tail-attempts : (ys : List Pair) → IsTail ys → length ys ≤ limit → attempts_in w (ys ++ later) ≡ attempts_in w past ++ ended ys
  tail-attempts [] so low =
      let long : length (end.ticks w t place holder stations entry old p o os is_old valid sends m breaks orders ++ past) ≡ length
      (end.ticks w t place holder stations entry old p o os is_old valid sends m breaks orders) + length past = length-append
      (end.ticks w t place holder stations entry old p o os is_old valid sends m breaks orders) past in
      one-ends w (end.x w t place holder stations entry old p o os is_old valid sends m breaks orders)
      (end.ticks w t place holder stations entry old p o os is_old valid sends m breaks orders ++ past) place holder [] p.beside.at
      (ap (attempts_ended w holder (length (end.ticks w t place holder stations entry old p o os is_old valid sends m breaks orders ++ past)))
      (control.runs-at-first w t place holder stations entry old p o os is_old valid sends m breaks orders shape expects limit few)
      ∙ no-attempts w holder past (length (end.ticks w t place holder stations entry old p o os is_old valid sends m breaks orders ++ past))
      (omega (arith, long)))
      (others-end (end.x w t place holder stations entry old p o os is_old valid sends m breaks orders)
      (end.ticks w t place holder stations entry old p o os is_old valid sends m breaks orders ++ past) (omega (arith, long))
      (λ other station at away. (others.unchanged w t place holder stations entry old p o os is_old valid sends m breaks orders off never [] so other
      station at away).course))
      ∙ append-nil (attempts_in w (end.ticks w t place holder stations entry old p o os is_old valid sends m breaks orders ++ past))
      ∙ legs.leg-attempts w t place holder stations entry old p o os is_old valid sends m breaks orders
      (end.ticks w t place holder stations entry old p o os is_old valid sends m breaks orders)
      (end.shows w t place holder stations entry old p o os is_old valid sends m breaks orders)
      ∙ sym (append-nil (attempts_in w past))
  tail-attempts (y ∷ ys) so low =
      let more = holder-ends y ys so low in
      let long : length (ys ++ later) ≡ length ys + length later = length-append ys later in
      let all : length later ≡ length ours + length past = length-append ours past in
      one-ends w y (ys ++ later) place holder more.0 p.beside.at more.1
      (others-end y (ys ++ later) (omega (arith, long, all)) (λ other station at away.
      (others.unchanged w t place holder stations entry old p o os is_old valid sends m breaks orders off never (y ∷ ys) so other station at
      away).course))
      ∙ ap (λ xs. xs ++ more.0) (tail-attempts ys (tail.less w t place holder stations entry old p o os is_old valid sends m breaks orders y ys so)
      (omega (arith, low)))
      ∙ append_assoc (attempts_in w past) (ended ys) more.0
      ∙ ap (λ xs. attempts_in w past ++ xs) (sym more.2)
