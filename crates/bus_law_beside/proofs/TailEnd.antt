-- Where an abandoned answer ran on beside a command of which the first word was struck, and is over too: both bursts, and that nothing is left.
use Rattle.std.proofs.Common.{◌≡◌, inl, inr, ℕ, suc, ◌+◌, ◌-◌, ◌<◌, ◌≤◌, Bool, false, List, [], ◌∷◌, ◌++◌, length, map, Some, None, sym, ap, ◌∙◌, subst, arith, length-append, append_assoc}
use Rattle.std.proofs.lemmas.Bool.{cases_lt}
use Rattle.bus_base.specs.Samples.{other_of}
use Rattle.bus_base.specs.declared.samples.Channel.{Channel}
use Rattle.bus_base.specs.declared.samples.Drive.{Drive}
use Rattle.bus_base.specs.declared.samples.Pair.{Pair}
use Rattle.bus_base.specs.declared.samples.Part.TheVariants.{Command}
use Rattle.bus_line.specs.Past.{quiet_ticks, quiet, runs}
use Rattle.bus_line.specs.Channels.{on_channel, quiet_both, bursts}
use Rattle.bus_line.proofs.ChannelLaws.{length-on, on-append}
use Rattle.bus_formats.specs.Forms.{answers_of, command_words}
use Rattle.bus_formats.specs.Plans.{StationData}
use Rattle.bus_formats.specs.declared.form.Shape.{Shape}
use Rattle.bus_model.specs.Message.{Present}
use Rattle.bus_model.specs.Orders.{last_order}
use Rattle.bus_model.specs.Starts.{Entry}
use Rattle.bus_model.specs.Strikes.{ShownAnswer, ShownBurst, struck, burst_ticks, first_ticks}
use Rattle.bus_law_control.proofs.Early.{both-below}
use Rattle.bus_law_line.specs.Shown.{first_samples}
use Rattle.bus_law_line.specs.Senders.{IsSpent}
use Rattle.bus_law_line.proofs.Rows.{length-first}
use Rattle.bus_law_line.proofs.Sent.{left-spent}
use Rattle.bus_law_parts.specs.Parts.{IsFresh, part_ticks, part_sample}
use Rattle.bus_law_parts.proofs.Leavings.{fresh-silent}
use Rattle.bus_law_table.specs.Happened.{burst_found}
use Rattle.bus_law_phases.specs.PartRuns.{burst_shown}
use Rattle.bus_law_phases.specs.Scenarios.{Scenario, shown_at, driven_at}
use Rattle.bus_law_beside.specs.Beside.{BeginsBeside}
use Rattle.bus_law_beside.proofs.BesideBegins as start
use Rattle.bus_law_beside.proofs.BesideDrives as both
use Rattle.bus_law_beside.proofs.BesideEnd as end
use Rattle.bus_law_beside.proofs.OldStations as olds
use Rattle.bus_law_beside.proofs.RowLaws.{row-part}
use Rattle.bus_law_beside.proofs.StopTicks.{BreaksOff}
use Rattle.bus_law_beside.proofs.Tail as tail
use Rattle.bus_law_beside.proofs.TailBursts.{both-found}
use Rattle.bus_law_beside.proofs.TailRuns as tailrun
use Rattle.bus_law_beside.proofs.TailStill.{front-quiet, quiet-count, quiet-least}

module _ (w : Scenario) (t place : ℕ) (holder : StationData) (stations : List Present) (entry : Entry) (old : ShownAnswer)
    (p : BeginsBeside w t place holder stations entry old) (o : Pair) (os : List Pair) (is_old : p.beside.ticks ≡ o ∷ os) (valid : Bool) (sends m : ℕ)
    (breaks : BreaksOff old (t - old.sent.start) valid sends m)
    (orders : both.OrdersIt w t place holder stations entry old p o os is_old valid sends m breaks) (off : valid ≡ false)
    (never : last_order p.beside.telling.terminal.address
    (struck (start.hits w t place holder stations entry old p o os is_old valid sends m breaks) (command_words entry.item.kind)) ≡ None)
    (shape : Shape) (expects : (answers_of entry.item.kind).first ≡ Some shape)
    (runs_on : length (([] ++ tail.ours w t place holder stations entry old p o os is_old valid sends m breaks orders) ++ (o ∷ os)) ≤ start.old_known w t
    place holder stations entry old p o os is_old valid sends m breaks) where
  abbrev before : List Pair
  before = shown_at w old.sent.start

  abbrev past : List Pair
  past = (o ∷ os) ++ before

  abbrev c : Channel
  c = old.sent.channel

  abbrev d : Channel
  d = tail.d w t place holder stations entry old p o os is_old valid sends m breaks orders

  abbrev later : List Pair
  later = tail.later w t place holder stations entry old p o os is_old valid sends m breaks orders

  abbrev ours : List Pair
  ours = tail.ours w t place holder stations entry old p o os is_old valid sends m breaks orders

  abbrev known : ℕ
  known = start.old_known w t place holder stations entry old p o os is_old valid sends m breaks

  abbrev pub limit : ℕ
  limit = tailrun.limit w t place holder stations entry old p o os is_old valid sends m breaks orders off never shape expects runs_on

  abbrev so_many : List Pair → ℕ
  so_many ys = length ((ys ++ ours) ++ (o ∷ os))

  -- all but the last tick, and that one
  pub so-before : (ys : List Pair) × (zs : List (List Drive)) × tailrun.Runs w t place holder stations entry old p o os is_old valid sends m breaks orders
      off never shape expects runs_on (limit - 1) ys zs
  so-before = tailrun.ran w t place holder stations entry old p o os is_old valid sends m breaks orders off never shape expects runs_on (limit - 1)
      (omega arith)

  abbrev pub ys0 : List Pair
  ys0 = so-before.0

  abbrev pub zs0 : List (List Drive)
  zs0 = so-before.1

  abbrev pub drives : tail.TailDrives w t place holder stations entry old p o os is_old valid sends m breaks orders limit
  drives = tailrun.drives w t place holder stations entry old p o os is_old valid sends m breaks orders off never shape expects runs_on

  pub early : limit - 1 < limit
  early = omega arith

  abbrev pub y : Pair
  y = tail.y w t place holder stations entry old p o os is_old valid sends m breaks orders limit drives (limit - 1) ys0 zs0 early so-before.2

  abbrev pub ys : List Pair
  ys = y ∷ ys0

  abbrev pub zs : List (List Drive)
  zs = tail.drives w t place holder stations entry old p o os is_old valid sends m breaks orders ys0 ∷ zs0

  pub whole : tailrun.Runs w t place holder stations entry old p o os is_old valid sends m breaks orders off never shape expects runs_on (suc (limit - 1))
      (y ∷ ys0) (tail.drives w t place holder stations entry old p o os is_old valid sends m breaks orders ys0 ∷ zs0)
  whole = tail.tail-more w t place holder stations entry old p o os is_old valid sends m breaks orders limit drives (limit - 1) ys0 zs0 early so-before.2

  pub as-many : length ys0 ≡ limit - 1
  as-many = so-before.2.many

  same-count : (xs : List Pair) → length ((xs ++ ours) ++ (o ∷ os)) ≡ length xs + length (([] ++ ours) ++ (o ∷ os))
  same-count = tailrun.more-than w t place holder stations entry old p o os is_old valid sends m breaks orders off never shape expects runs_on

  -- the end of the answer is known
  pub late-enough : suc (suc known) ≤ length (((y ∷ ys0) ++ ours) ++ (o ∷ os))
  late-enough = let count = same-count (y ∷ ys0) in let many = as-many in omega (arith, count, many)

  pub soon-enough : length (((y ∷ ys0) ++ ours) ++ (o ∷ os)) ≤ known + 23
  soon-enough = let count = same-count (y ∷ ys0) in let many = as-many in omega (arith, count, many, runs_on)

  same-past : (((y ∷ ys0) ++ ours) ++ (o ∷ os)) ++ before ≡ (y ∷ ys0) ++ later
  same-past = append_assoc ((y ∷ ys0) ++ ours) (o ∷ os) before ∙ append_assoc (y ∷ ys0) ours ((o ∷ os) ++ before)

  command-ends : length ours ≡ part_ticks (start.hits w t place holder stations entry old p o os is_old valid sends m breaks)
      (command_words entry.item.kind) + suc w.lag
  command-ends = let many = end.many w t place holder stations entry old p o os is_old valid sends m breaks orders in omega (arith, many)

  -- ---- nothing is left

  rests-c : runs w.lag (on_channel c ((y ∷ ys0) ++ later)) ≡ false
  rests-c =
      let late = late-enough in
      ap (λ ps. runs w.lag (on_channel c ps)) (sym same-past)
      ∙ ap (runs w.lag) (on-append c (((y ∷ ys0) ++ ours) ++ (o ∷ os)) before ∙ ap (λ xs. xs ++ on_channel c before) whole.tail.answered)
      ∙ (end.old-ends w t place holder stations entry old p o os is_old valid sends m breaks orders).rests (length (((y ∷ ys0) ++ ours) ++ (o ∷ os)))
      (omega (arith, late))

  rests-d : runs w.lag (on_channel d ((y ∷ ys0) ++ later)) ≡ false
  rests-d =
      let count = length-append (y ∷ ys0) ours in
      let long = command-ends in
      ap (λ ps. runs w.lag (on_channel d ps)) (sym (append_assoc (y ∷ ys0) ours past))
      ∙ ap (runs w.lag) (on-append d ((y ∷ ys0) ++ ours) past ∙ ap (λ xs. xs ++ on_channel d past)
      (tail.command-row w t place holder stations entry old p o os is_old valid sends m breaks orders (y ∷ ys0) whole.tail.quiet))
      ∙ (row-part w.lag Command (start.hits w t place holder stations entry old p o os is_old valid sends m breaks) (command_words entry.item.kind)
      (on_channel d past) p.lag (start.fits w t place holder stations entry old p o os is_old valid sends m breaks)
      (start.some w t place holder stations entry old p o os is_old valid sends m breaks)
      (start.rests w t place holder stations entry old p o os is_old valid sends m breaks)).rests (length ((y ∷ ys0) ++ ours)) (omega (arith, count, long))

  pub rests-then : (a : Channel) → runs w.lag (on_channel a ((y ∷ ys0) ++ later)) ≡ false
  rests-then = end.by-channel w t place holder stations entry old p o os is_old valid sends m breaks orders
      (λ a. runs w.lag (on_channel a ((y ∷ ys0) ++ later)) ≡ false) rests-c rests-d

  -- the answer was sent for no longer than its end was unknown
  sent-by : sends ≤ suc known
  sent-by = elim (cases_lt 0 sends) [
    | inr none ↦ omega (arith, none)
    | inl some ↦ (let last = start.known-late w t place holder stations entry old p o os is_old valid sends m breaks (sends - 1) (omega (arith, some)) in
        omega (arith, last, some))
  ]

  driven-many : length (((tail.drives w t place holder stations entry old p o os is_old valid sends m breaks orders ys0 ∷ zs0) ++
      (end.driven w t place holder stations entry old p o os is_old valid sends m breaks orders ∷ end.sent w t place holder stations entry old p o os
      is_old valid sends m breaks orders)) ++ p.beside.sent) ≡ length (((y ∷ ys0) ++ ours) ++ (o ∷ os))
  driven-many =
      let a = length-append ((y ∷ ys0) ++ ours) (o ∷ os) in
      let a2 = length-append (y ∷ ys0) ours in
      let z = length-append ((tail.drives w t place holder stations entry old p o os is_old valid sends m breaks orders ys0 ∷ zs0) ++
      (end.driven w t place holder stations entry old p o os is_old valid sends m breaks orders ∷ end.sent w t place holder stations entry old p o os
      is_old valid sends m breaks orders)) p.beside.sent in
      let z2 = length-append (tail.drives w t place holder stations entry old p o os is_old valid sends m breaks orders ys0 ∷ zs0)
      (end.driven w t place holder stations entry old p o os is_old valid sends m breaks orders ∷ end.sent w t place holder stations entry old p o os
      is_old valid sends m breaks orders) in
      let count = end.many w t place holder stations entry old p o os is_old valid sends m breaks orders in
      let drove = end.long-sent w t place holder stations entry old p o os is_old valid sends m breaks orders in
      let number = end.number w t place holder stations entry old p o os is_old valid sends m breaks orders in
      let first = end.long-first w t place holder stations entry old p o os is_old valid sends m breaks orders in
      let many = so-before.2.many in
      let long = so-before.2.long in
      omega (arith, a, a2, z, z2, count, drove, number, first, many, long)

  same-driven : (((tail.drives w t place holder stations entry old p o os is_old valid sends m breaks orders ys0 ∷ zs0) ++
      (end.driven w t place holder stations entry old p o os is_old valid sends m breaks orders ∷ end.sent w t place holder stations entry old p o os
      is_old valid sends m breaks orders)) ++ p.beside.sent) ++ driven_at w old.sent.start
      ≡ (tail.drives w t place holder stations entry old p o os is_old valid sends m breaks orders ys0 ∷ zs0) ++ tail.driven_later w t place holder
      stations entry old p o os is_old valid sends m breaks orders
  same-driven =
      ap (λ xs. xs ++ driven_at w old.sent.start) (append_assoc (tail.drives w t place holder stations entry old p o os is_old valid sends m breaks orders
      ys0 ∷ zs0) (end.driven w t place holder stations entry old p o os is_old valid sends m breaks orders ∷ end.sent w t place holder stations entry
      old p o os is_old valid sends m breaks orders) p.beside.sent)
      ∙ append_assoc (tail.drives w t place holder stations entry old p o os is_old valid sends m breaks orders ys0 ∷ zs0)
      ((end.driven w t place holder stations entry old p o os is_old valid sends m breaks orders ∷ end.sent w t place holder stations entry old p o os
      is_old valid sends m breaks orders) ++ p.beside.sent) (driven_at w old.sent.start)
      ∙ ap (λ xs. (tail.drives w t place holder stations entry old p o os is_old valid sends m breaks orders ys0 ∷ zs0) ++ xs)
      (end.same-driven w t place holder stations entry old p o os is_old valid sends m breaks orders)

  spent-c : (station : ℕ) → IsSpent w.plan.faults c ((tail.drives w t place holder stations entry old p o os is_old valid sends m breaks orders ys0 ∷ zs0)
      ++ tail.driven_later w t place holder stations entry old p o os is_old valid sends m breaks orders) station
  spent-c station =
      subst (λ ds. IsSpent w.plan.faults c ds station) same-driven (elim whole.lane.lane [
        | inl sending ↦ (let low = sending.0 in let by = sent-by in let late = late-enough in let count = driven-many in absurd
            (omega (arith, low, by, late, count)))
        | inr over ↦ over.1 station
      ])

  fresh-c : (station : ℕ) → IsFresh w.plan.faults c ((tail.drives w t place holder stations entry old p o os is_old valid sends m breaks orders ys0 ∷ zs0)
      ++ tail.driven_later w t place holder stations entry old p o os is_old valid sends m breaks orders) station
  fresh-c station =
      fresh-silent w.plan.faults c (zs0 ++ tail.driven_later w t place holder stations entry old p o os is_old valid sends m breaks orders)
      (tail.drives w t place holder stations entry old p o os is_old valid sends m breaks orders ys0) station
      (tail.old-stopped w t place holder stations entry old p o os is_old valid sends m breaks orders limit drives (limit - 1) ys0 zs0 early so-before.2
      (let by = sent-by in let late = late-enough in let count = driven-many in omega (arith, by, late, count)) station)

  pub spent-then : (a : Channel) (station : ℕ) → IsSpent w.plan.faults a
      ((tail.drives w t place holder stations entry old p o os is_old valid sends m breaks orders ys0 ∷ zs0) ++ tail.driven_later w t place holder stations
      entry old p o os is_old valid sends m breaks orders) station
  spent-then =
      end.by-channel w t place holder stations entry old p o os is_old valid sends m breaks orders
      (λ a. (station : ℕ) → IsSpent w.plan.faults a ((tail.drives w t place holder stations entry old p o os is_old valid sends m breaks orders ys0 ∷
      zs0) ++ tail.driven_later w t place holder stations entry old p o os is_old valid sends m breaks orders) station) spent-c
      (left-spent w.plan.faults d (tail.driven_later w t place holder stations entry old p o os is_old valid sends m breaks orders)
      (tail.drives w t place holder stations entry old p o os is_old valid sends m breaks orders ys0 ∷ zs0) whole.beside)

  pub fresh-then : (a : Channel) (station : ℕ) → IsFresh w.plan.faults a
      ((tail.drives w t place holder stations entry old p o os is_old valid sends m breaks orders ys0 ∷ zs0) ++ tail.driven_later w t place holder stations
      entry old p o os is_old valid sends m breaks orders) station
  fresh-then =
      end.by-channel w t place holder stations entry old p o os is_old valid sends m breaks orders
      (λ a. (station : ℕ) → IsFresh w.plan.faults a ((tail.drives w t place holder stations entry old p o os is_old valid sends m breaks orders ys0 ∷
      zs0) ++ tail.driven_later w t place holder stations entry old p o os is_old valid sends m breaks orders) station) fresh-c
      (λ station. fresh-silent w.plan.faults d (zs0 ++ tail.driven_later w t place holder stations entry old p o os is_old valid sends m breaks orders)
      (tail.drives w t place holder stations entry old p o os is_old valid sends m breaks orders ys0) station (whole.beside.undriven.0 station))

  -- ---- both channels have been quiet since the answer

  pub quiet-then : quiet_both ((y ∷ ys0) ++ later) + known ≡ length (((y ∷ ys0) ++ ours) ++ (o ∷ os)) + w.lag
  quiet-then =
      let late = late-enough in
      let lag = p.lag in
      let n = length (((y ∷ ys0) ++ ours) ++ (o ∷ os)) in
      let len = length ((y ∷ ys0) ++ ours) in
      let j = (length (((y ∷ ys0) ++ ours) ++ (o ∷ os)) + w.lag) - known in
      let many = length-append (y ∷ ys0) ours in
      let long = command-ends in
      let number = length-append ours (o ∷ os) in
      let total = length-append ((y ∷ ys0) ++ ours) (o ∷ os) in
      let row_c = first_samples (start.old_row w t place holder stations entry old p o os is_old valid sends m breaks)
      (length (((y ∷ ys0) ++ ours) ++ (o ∷ os))) in
      let row_d = first_samples (part_sample (start.hits w t place holder stations entry old p o os is_old valid sends m breaks)
      (command_words entry.item.kind)) (length ((y ∷ ys0) ++ ours)) in
      let d_ends = row-part w.lag Command (start.hits w t place holder stations entry old p o os is_old valid sends m breaks)
      (command_words entry.item.kind) (on_channel d past) p.lag (start.fits w t place holder stations entry old p o os is_old valid sends m breaks)
      (start.some w t place holder stations entry old p o os is_old valid sends m breaks)
      (start.rests w t place holder stations entry old p o os is_old valid sends m breaks) in
      let c_count = quiet-count w.lag (start.old_row w t place holder stations entry old p o os is_old valid sends m breaks) known _ (on_channel c before)
      (end.old-ends w t place holder stations entry old p o os is_old valid sends m breaks orders)
      (length (((y ∷ ys0) ++ ours) ++ (o ∷ os))) (omega (arith, late)) in
      let d_count = quiet-count w.lag (part_sample (start.hits w t place holder stations entry old p o os is_old valid sends m breaks)
      (command_words entry.item.kind)) (end.most w t place holder stations entry old p o os is_old valid sends m breaks orders) _ (on_channel d past)
      d_ends
      (length ((y ∷ ys0) ++ ours)) (omega (arith, many, long)) in
      let c_long = length-first (start.old_row w t place holder stations entry old p o os is_old valid sends m breaks)
      (length (((y ∷ ys0) ++ ours) ++ (o ∷ os))) in
      let d_long = length-first (part_sample (start.hits w t place holder stations entry old p o os is_old valid sends m breaks)
      (command_words entry.item.kind)) (length ((y ∷ ys0) ++ ours)) in
      let c_front = front-quiet ((length (((y ∷ ys0) ++ ours) ++ (o ∷ os)) + w.lag) - known)
      (first_samples (start.old_row w t place holder stations entry old p o os is_old valid sends m breaks)
      (length (((y ∷ ys0) ++ ours) ++ (o ∷ os)))) (on_channel c before) (omega (arith, c_count, late))
      (omega (arith, c_long, late, runs_on, number, long, lag)) in
      let d_front = front-quiet ((length (((y ∷ ys0) ++ ours) ++ (o ∷ os)) + w.lag) - known)
      (first_samples (part_sample (start.hits w t place holder stations entry old p o os is_old valid sends m breaks) (command_words entry.item.kind))
      (length ((y ∷ ys0) ++ ours))) (on_channel d past)
      (omega (arith, d_count, many, long, number, total, runs_on)) (omega (arith, d_long, many, long, number, total, runs_on)) in
      let least : (length (((y ∷ ys0) ++ ours) ++ (o ∷ os)) + w.lag) - known ≤ quiet_both ((((y ∷ ys0) ++ ours) ++ (o ∷ os)) ++ before) =
      quiet-least c ((length (((y ∷ ys0) ++ ours) ++ (o ∷ os)) + w.lag) - known) c_front.0 (d_front.0 ++ on_channel d (o ∷ os))
      (((y ∷ ys0) ++ ours) ++ (o ∷ os)) before (whole.tail.answered ∙ c_front.1)
      (ap (λ a. on_channel a (((y ∷ ys0) ++ ours) ++ (o ∷ os))) (sym
      (start.channel-is w t place holder stations entry old p o os is_old valid sends m breaks))
      ∙ on-append d ((y ∷ ys0) ++ ours) (o ∷ os)
      ∙ ap (λ xs. xs ++ on_channel d (o ∷ os)) (tail.command-row w t place holder stations entry old p o os is_old valid sends m breaks orders (y ∷ ys0)
      whole.tail.quiet ∙ d_front.1)
      ∙ append_assoc (quiet_ticks ((length (((y ∷ ys0) ++ ours) ++ (o ∷ os)) + w.lag) - known)) d_front.0 (on_channel d (o ∷ os))) in
      let below : quiet_both ((((y ∷ ys0) ++ ours) ++ (o ∷ os)) ++ before) ≤ quiet (on_channel c ((((y ∷ ys0) ++ ours) ++ (o ∷ os)) ++ before)) =
      both-below c ((((y ∷ ys0) ++ ours) ++ (o ∷ os)) ++ before) in
      let on_c : quiet (on_channel c ((((y ∷ ys0) ++ ours) ++ (o ∷ os)) ++ before))
      ≡ quiet (first_samples (start.old_row w t place holder stations entry old p o os is_old valid sends m breaks)
      (length (((y ∷ ys0) ++ ours) ++ (o ∷ os))) ++ on_channel c before) =
      ap quiet (on-append c (((y ∷ ys0) ++ ours) ++ (o ∷ os)) before ∙ ap (λ xs. xs ++ on_channel c before) whole.tail.answered) in
      subst (λ ps. quiet_both ps + known ≡ length (((y ∷ ys0) ++ ours) ++ (o ∷ os)) + w.lag) same-past (omega (arith, least, below, on_c, c_count, late))

  -- ---- the bursts

  abbrev pub command : ShownBurst
  command = end.command w t place holder stations entry old p o os is_old valid sends m breaks orders

  abbrev pub broken : ShownBurst
  broken = first_ticks old m

  pub bursts-then : bursts w.lag ((y ∷ ys0) ++ later) ≡ bursts w.lag past ++ map burst_found
      (end.command w t place holder stations entry old p o os is_old valid sends m breaks orders ∷ first_ticks old m ∷ [])
  bursts-then =
      let on = start.channel-is w t place holder stations entry old p o os is_old valid sends m breaks in
      let old_channel : old.burst.channel ≡ old.sent.channel = olds.channel-is w t place holder stations entry old p in
      let old_start : old.burst.start ≡ length (on_channel c before) =
      olds.start-is w t place holder stations entry old p ∙ sym (olds.long-before w t place holder stations entry old p) ∙ sym (length-on c before) in
      let whole_ticks : burst_ticks (end.command w t place holder stations entry old p o os is_old valid sends m breaks orders) ≡ part_ticks
      (start.hits w t place holder stations entry old p o os is_old valid sends m breaks) (command_words entry.item.kind) = omega arith in
      let late = late-enough in
      let many = length-append (y ∷ ys0) ours in
      let long = command-ends in
      let number = length-append ours (o ∷ os) in
      ap (bursts w.lag) (sym (append_assoc (y ∷ ys0) ours past))
      ∙ both-found w.lag c (start.old_row w t place holder stations entry old p o os is_old valid sends m breaks)
      (part_sample (start.hits w t place holder stations entry old p o os is_old valid sends m breaks) (command_words entry.item.kind)) known
      (end.most w t place holder stations entry old p o os is_old valid sends m breaks orders)
      (start.old_burst w t place holder stations entry old p o os is_old valid sends m breaks (length (on_channel c before)))
      (burst_shown (length (on_channel (other_of c) past)) (start.hits w t place holder stations entry old p o os is_old valid sends m breaks)
      (command_words entry.item.kind))
      (o ∷ os) before (end.old-ends w t place holder stations entry old p o os is_old valid sends m breaks orders)
      (end.new-ends w t place holder stations entry old p o os is_old valid sends m breaks orders) (omega (arith, runs_on, number, long))
      ((y ∷ ys0) ++ ours) whole.tail.answered
      (ap (λ a. on_channel a ((y ∷ ys0) ++ ours)) (sym on) ∙ tail.command-row w t place holder stations entry old p o os is_old valid sends m breaks orders
      (y ∷ ys0) whole.tail.quiet)
      (omega (arith, many, long)) (omega (arith, late))
      ∙ sym (ap (λ bs. bursts w.lag past ++ bs) (
      ap (λ b. b ∷ burst_found (first_ticks old m) ∷ [])
      (ap (λ n. record {
        channel = d;
        burst = record {
          first = length past;
          ticks = n;
          slots = struck
              (start.hits w t place holder stations entry old p o os is_old valid sends m breaks) (command_words entry.item.kind);
        };
      }) whole_ticks
      ∙ ap (λ a. record {
        channel = a;
        burst = burst_shown (length past)
            (start.hits w t place holder stations entry old p o os is_old valid sends m breaks) (command_words entry.item.kind);
      }) on
      ∙ ap (λ n. record {
        channel = other_of c;
        burst = burst_shown n (start.hits w t place holder stations entry old p o os is_old valid sends m breaks)
            (command_words entry.item.kind);
      }) (sym (length-on (other_of c) past)))
      ∙ ap (λ b. record {
        channel = other_of c;
        burst = burst_shown (length (on_channel (other_of c) past))
            (start.hits w t place holder stations entry old p o os is_old valid sends m breaks) (command_words entry.item.kind);
      } ∷ b ∷ [])
      (ap (λ a. record {
        channel = a;
        burst = record {
          first = old.burst.start;
          ticks = burst_ticks (first_ticks old m);
          slots = (first_ticks old m).slots;
        };
      }) old_channel
      ∙ ap (λ n. record { channel = c; burst = record { first = n; ticks = burst_ticks (first_ticks old m); slots = (first_ticks old m).slots } })
      old_start)))
