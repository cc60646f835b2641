-- The tick in which the end of a command is known that was sent beside an abandoned answer, which is over by then: the ticks, the channels, and both bursts.
use Rattle.std.proofs.Common.{◌≡◌, inl, inr, ℕ, zero, suc, ◌+◌, ◌-◌, ◌<◌, ◌≤◌, Bool, true, false, List, [], ◌∷◌, ◌++◌, length, map, Some, refl, sym, ap, ◌∙◌, subst, arith, length-append, append_assoc}
use Rattle.std.proofs.lemmas.Bool.{cases_lt}
use Rattle.std.specs.Prelude.{drop, get_or}
use Rattle.bus_base.specs.Samples.{sample_on, other_of, is_quiet}
use Rattle.bus_base.specs.declared.samples.Channel.{Channel}
use Rattle.bus_base.specs.declared.samples.Channel.TheVariants.{A, B}
use Rattle.bus_base.specs.declared.samples.Drive.{Drive}
use Rattle.bus_base.specs.declared.samples.Pair.{Pair}
use Rattle.bus_base.specs.declared.samples.Part.TheVariants.{Command}
use Rattle.bus_base.specs.declared.samples.Sample.{Sample}
use Rattle.bus_base.specs.declared.samples.Sample.TheVariants.{Plus, Quiet}
use Rattle.bus_words.specs.declared.word.Word.{Word}
use Rattle.bus_line.specs.Past.{quiet_ticks, runs, ended_now}
use Rattle.bus_line.specs.Channels.{on_channel, quiet_both, bursts}
use Rattle.bus_line.proofs.ChannelLaws.{length-on, on-append}
use Rattle.bus_formats.specs.Forms.{command_words}
use Rattle.bus_formats.specs.Plans.{StationData}
use Rattle.bus_formats.specs.declared.fault.Hit.{Hit}
use Rattle.bus_model.specs.Message.{Present, command_burst}
use Rattle.bus_model.specs.Starts.{Entry}
use Rattle.bus_model.specs.Strikes.{ShownAnswer, ShownBurst, struck, burst_ticks, first_ticks}
use Rattle.bus_model.specs.World.{Trace}
use Rattle.bus_law_line.specs.Shown.{first_samples}
use Rattle.bus_law_line.specs.Senders.{IsSpent}
use Rattle.bus_law_messages.proofs.Listening.{this-or-other}
use Rattle.bus_law_parts.specs.Parts.{IsFresh, part_ticks, part_sample}
use Rattle.bus_law_parts.proofs.Leavings.{spent-part, fresh-part, fresh-silent}
use Rattle.bus_law_parts.proofs.PartBursts.{heard-last, row-tail}
use Rattle.bus_law_table.specs.Happened.{burst_found}
use Rattle.bus_law_phases.specs.PartRuns.{burst_shown}
use Rattle.bus_law_phases.specs.Scenarios.{Scenario, trace_at, shown_at, driven_at}
use Rattle.bus_law_beside.specs.Beside.{BeginsBeside, by_ends}
use Rattle.bus_law_beside.specs.Rows.{RowEnds}
use Rattle.bus_law_beside.proofs.BesideBegins as start
use Rattle.bus_law_beside.proofs.BesideDrives as both
use Rattle.bus_law_beside.proofs.BesideLegs as legs
use Rattle.bus_law_beside.proofs.BothBursts as order
use Rattle.bus_law_beside.proofs.OldStations as olds
use Rattle.bus_law_beside.proofs.RowLaws.{row-part, quiet-end}
use Rattle.bus_law_beside.proofs.StopTicks.{BreaksOff}
use Rattle.bus_law_phases.proofs.Staying.{long-at}

-- ---- both channels are quiet

both-by : (c : Channel) (x : Pair) (past : List Pair) → is_quiet (sample_on x c) ≡ true → is_quiet (sample_on x (other_of c)) ≡ true →
    quiet_both (x ∷ past) ≡ suc (quiet_both past)
both-by A x past own other = rw (own, other) refl
both-by B x past own other = rw (other, own) refl

one-by : (c : Channel) (x : Pair) (past : List Pair) (b : Bool) → is_quiet (sample_on x (other_of c)) ≡ b → is_quiet (sample_on x c) ≡ false →
    quiet_both (x ∷ past) ≡ 0
one-by A x past b other own = rw own refl
one-by B x past true other own = rw (other, own) refl
one-by B x past false other own = rw other refl

-- after a sample that isn't quiet come j quiet ticks on this channel, and on the other one too
rows-quiet : (c : Channel) (j : ℕ) (s : Sample) (row beside : List Sample) (ticks past : List Pair) → is_quiet s ≡ false →
    on_channel c ticks ≡ quiet_ticks j ++ (s ∷ row) → on_channel (other_of c) ticks ≡ quiet_ticks j ++ beside → quiet_both (ticks ++ past) ≡ j
rows-quiet c zero s row beside [] past heard shown quiet = absurd (cc)
rows-quiet c (suc j) s row beside [] past heard shown quiet = absurd (cc)
rows-quiet c zero s row beside (x ∷ ticks) past heard shown quiet =
    one-by c x (ticks ++ past) (is_quiet (sample_on x (other_of c))) refl (ap (λ xs. is_quiet (get_or xs 0 Quiet)) shown ∙ heard)
rows-quiet c (suc j) s row beside (x ∷ ticks) past heard shown quiet =
    both-by c x (ticks ++ past) (ap (λ xs. is_quiet (get_or xs 0 Plus)) shown) (ap (λ xs. is_quiet (get_or xs 0 Plus)) quiet)
    ∙ ap suc (rows-quiet c j s row beside ticks past heard (ap (λ (xs : List Sample). drop 1 xs) shown) (ap (λ (xs : List Sample). drop 1 xs) quiet))

module _ (w : Scenario) (t place : ℕ) (holder : StationData) (stations : List Present) (entry : Entry) (old : ShownAnswer)
    (p : BeginsBeside w t place holder stations entry old) (o : Pair) (os : List Pair) (is_old : p.beside.ticks ≡ o ∷ os) (valid : Bool) (sends m : ℕ)
    (breaks : BreaksOff old (t - old.sent.start) valid sends m)
    (orders : both.OrdersIt w t place holder stations entry old p o os is_old valid sends m breaks) where
  abbrev before : List Pair
  before = shown_at w old.sent.start

  abbrev pub past : List Pair
  past = (o ∷ os) ++ before

  abbrev now : Trace
  now = start.now w t place holder stations entry old p o os is_old valid sends m breaks

  abbrev pub hits : List Hit
  hits = start.hits w t place holder stations entry old p o os is_old valid sends m breaks

  abbrev pub words : List Word
  words = command_words entry.item.kind

  abbrev c : Channel
  c = old.sent.channel

  abbrev pub d : Channel
  d = (start.begun w t place holder stations entry old p o os is_old valid sends m breaks).state.channel

  abbrev limit : ℕ
  limit = start.limit w t place holder stations entry old p o os is_old valid sends m breaks

  -- the ticks before the last one
  abbrev pub most : ℕ
  most = part_ticks hits words + w.lag

  pub early : most < limit
  early = let lag = p.lag in omega (arith, lag)

  abbrev sent-first : (ticks : List Pair) × (sent : List (List Drive))
      × legs.Runs w t place holder stations entry old p o os is_old valid sends m breaks orders most ticks sent
  sent-first = legs.ran w t place holder stations entry old p o os is_old valid sends m breaks orders most (omega (arith, early))

  abbrev pub ticks : List Pair
  ticks = sent-first.0

  abbrev pub sent : List (List Drive)
  sent = sent-first.1

  abbrev pub driven : List Drive
  driven = legs.next w t place holder stations entry old p o os is_old valid sends m breaks orders ticks

  abbrev pub x : Pair
  x = legs.shown_then w t place holder stations entry old p o os is_old valid sends m breaks orders ticks sent

  abbrev pub later : List Pair
  later = (x ∷ ticks) ++ past

  abbrev pub driven_later : List (List Drive)
  driven_later = (driven ∷ sent) ++ now.driven

  pub shows : both.Shows w t place holder stations entry old p o os is_old valid sends m breaks ticks
  shows = legs.shows-of w t place holder stations entry old p o os is_old valid sends m breaks orders most ticks sent early sent-first.2

  pub whole : legs.Runs w t place holder stations entry old p o os is_old valid sends m breaks orders (suc most) (x ∷ ticks) (driven ∷ sent)
  whole = legs.more w t place holder stations entry old p o os is_old valid sends m breaks orders most ticks sent early sent-first.2

  pub many : length ticks ≡ w.lag + part_ticks hits words
  many = let count = sent-first.2.many in omega (arith, count)

  pub trace-then : trace_at w (t + suc most) ≡ record { shown = later; driven = driven_later }
  trace-then = legs.trace-is w t place holder stations entry old p o os is_old valid sends m breaks orders (suc most) (x ∷ ticks) (driven ∷ sent) whole

  pub trace-before : shown_at w (t + most) ≡ ticks ++ past
  trace-before = legs.shown-is w t place holder stations entry old p o os is_old valid sends m breaks orders most ticks sent sent-first.2

  pub number : length (o ∷ os) ≡ t - old.sent.start
  number = (start.runs-so w t place holder stations entry old p o os is_old valid sends m breaks).many

  pub long-past : length past ≡ t
  long-past =
      sym (ap (λ (tr : Trace). length tr.shown) (start.same-now w t place holder stations entry old p o os is_old valid sends m breaks))
      ∙ long-at w t (olds.stays-now w t place holder stations entry old p)

  pub both-long : length (ticks ++ (o ∷ os)) ≡ (t - old.sent.start) + (part_ticks hits words + w.lag)
  both-long = let all = length-append ticks (o ∷ os) in omega (arith, all, number, many)

  -- ---- what the channels show

  pub shown-d : on_channel d (x ∷ ticks) ≡ first_samples (part_sample hits words) (part_ticks hits words + suc w.lag)
  shown-d =
      let n : length (x ∷ ticks) ≡ part_ticks hits words + suc w.lag = omega (arith, many) in
      whole.shown ∙ ap (first_samples (part_sample hits words)) n

  abbrev row : ℕ → Sample
  row = start.old_row w t place holder stations entry old p o os is_old valid sends m breaks

  abbrev known : ℕ
  known = start.old_known w t place holder stations entry old p o os is_old valid sends m breaks

  pub shown-c : on_channel c ((x ∷ ticks) ++ (o ∷ os)) ≡ first_samples row (length ((x ∷ ticks) ++ (o ∷ os)))
  shown-c = whole.old_shown

  pub old-ends : RowEnds w.lag row known (start.old_burst w t place holder stations entry old p o os is_old valid sends m breaks (length (on_channel c before)))
      (on_channel c before)
  old-ends =
      start.old-ends w t place holder stations entry old p o os is_old valid sends m breaks (on_channel c before) (p.beside.begins.moment.rests c)

  pub new-ends : RowEnds w.lag (part_sample hits words) most (burst_shown (length (on_channel (other_of c) past)) hits words) (on_channel (other_of c) past)
  new-ends =
      row-part w.lag Command hits words (on_channel (other_of c) past) p.lag
      (start.fits w t place holder stations entry old p o os is_old valid sends m breaks)
      (start.some w t place holder stations entry old p o os is_old valid sends m breaks)
      (ap (λ a. runs w.lag (on_channel a past)) (sym (start.channel-is w t place holder stations entry old p o os is_old valid sends m breaks))
      ∙ start.rests w t place holder stations entry old p o os is_old valid sends m breaks)

  pub ended-d : ended_now w.lag (on_channel d (x ∷ (ticks ++ past))) ≡ Some (burst_shown (length past) hits words)
  ended-d =
      let next : part_ticks hits words + suc w.lag ≡ suc (part_ticks hits words + w.lag) = omega arith in
      let on : d ≡ other_of c = start.channel-is w t place holder stations entry old p o os is_old valid sends m breaks in
      ap (ended_now w.lag) (on-append d (x ∷ ticks) past ∙ ap (λ xs. xs ++ on_channel d past) (shown-d ∙ ap (first_samples (part_sample hits words)) next))
      ∙ ap (λ a. ended_now w.lag (first_samples (part_sample hits words) (suc (part_ticks hits words + w.lag)) ++ on_channel a past)) on
      ∙ new-ends.ended
      ∙ ap (λ n. Some (burst_shown n hits words)) (length-on (other_of c) past)

  -- ---- nothing is left of the command

  pub rests-d : runs w.lag (on_channel d later) ≡ false
  rests-d =
      let on : d ≡ other_of c = start.channel-is w t place holder stations entry old p o os is_old valid sends m breaks in
      ap (runs w.lag) (on-append d (x ∷ ticks) past ∙ ap (λ xs. xs ++ on_channel d past) shown-d)
      ∙ ap (λ a. runs w.lag (first_samples (part_sample hits words) (part_ticks hits words + suc w.lag) ++ on_channel a past)) on
      ∙ new-ends.rests (part_ticks hits words + suc w.lag) (omega arith)

  pub by-channel : (P : Channel → Type 0) → P c → P d → (a : Channel) → P a
  by-channel P own other a = elim (this-or-other c a) [
    | inl same ↦ subst P (sym same) own
    | inr far ↦ subst P (sym (far ∙ sym (start.channel-is w t place holder stations entry old p o os is_old valid sends m breaks))) other
  ]

  pub long-sent : suc (length sent) ≡ part_ticks hits words + suc w.lag
  long-sent = let n = whole.long in omega (arith, n)

  pub fresh-d : (station : ℕ) → IsFresh w.plan.faults d driven_later station
  fresh-d station =
      fresh-part w.plan.faults _ hits now.driven sent driven whole.part (let lag = p.lag in omega (arith, long-sent, lag)) station

  pub spent-d : (station : ℕ) → IsSpent w.plan.faults d driven_later station
  spent-d station =
      spent-part w.plan.faults _ hits now.driven sent driven whole.part (omega (arith, long-sent)) station

  -- the answer has stopped
  pub long-first : length p.beside.sent ≡ t - old.sent.start
  long-first = (start.runs-so w t place holder stations entry old p o os is_old valid sends m breaks).long

  pub same-driven : ((driven ∷ sent) ++ p.beside.sent) ++ driven_at w old.sent.start ≡ driven_later
  same-driven = append_assoc (driven ∷ sent) p.beside.sent (driven_at w old.sent.start)

  pub all-long : length (sent ++ p.beside.sent) ≡ (t - old.sent.start) + (part_ticks hits words + w.lag)
  all-long =
      let all = length-append sent p.beside.sent in omega (arith, all, long-sent, long-first)

  abbrev pub command : ShownBurst
  command = command_burst d (length past) hits entry.item

  abbrev pub broken : ShownBurst
  broken = first_ticks old m

  -- ---- where the answer is over by the end of the command

  module _ (late : sends ≤ (t - old.sent.start) + limit)
      (short : burst_ticks (first_ticks old m) ≤ (t - old.sent.start) + part_ticks hits words) where
    -- the end of the answer is known by now
    pub over : known ≤ length (ticks ++ (o ∷ os))
    over = omega (arith, both-long, short)

    -- ---- nothing is left

    rests-c : runs w.lag (on_channel c later) ≡ false
    rests-c =
        ap (λ ps. runs w.lag (on_channel c ps)) (sym (append_assoc (x ∷ ticks) (o ∷ os) before))
        ∙ ap (runs w.lag) (on-append c ((x ∷ ticks) ++ (o ∷ os)) before ∙ ap (λ xs. xs ++ on_channel c before) shown-c)
        ∙ old-ends.rests (length ((x ∷ ticks) ++ (o ∷ os))) (omega (arith, over))

    pub rests-then : (a : Channel) → runs w.lag (on_channel a later) ≡ false
    rests-then = by-channel (λ a. runs w.lag (on_channel a later) ≡ false) rests-c rests-d

    -- one that a cut ends may stop with this tick
    stops-now : sends ≡ suc (length (sent ++ p.beside.sent)) → sends ≡ part_ticks old.hits old.sent.words + 4
    stops-now is =
        let lag = p.lag in
        start.stops-late w t place holder stations entry old p o os is_old valid sends m breaks
        ((t - old.sent.start) + part_ticks hits words) short (omega (arith, is, all-long, lag))

    spent-c : (station : ℕ) → IsSpent w.plan.faults c driven_later station
    spent-c station =
        subst (λ ds. IsSpent w.plan.faults c ds station) same-driven (elim whole.old.lane [
          | inl sending ↦ (
              let low = sending.0 in
              let lag = p.lag in
              let is : sends ≡ suc (length (sent ++ p.beside.sent)) = omega (arith, low, late, all-long, lag) in
              let last = stops-now is in
              spent-part w.plan.faults _ old.hits (driven_at w old.sent.start) (sent ++ p.beside.sent) driven sending.1 (omega (arith, is, last)) station)
          | inr over ↦ over.1 station
        ])

    fresh-c : (station : ℕ) → IsFresh w.plan.faults c driven_later station
    fresh-c station = elim (cases_lt (length (sent ++ p.beside.sent)) sends) [
      | inr stopped ↦ (
          let all = length-append sent p.beside.sent in
          fresh-silent w.plan.faults c (sent ++ now.driven) driven station
          (legs.undriven-then w t place holder stations entry old p o os is_old valid sends m breaks orders most ticks sent early sent-first.2
          (omega (arith, stopped, all, long-first)) station))
      | inl low ↦ (
          let lag = p.lag in
          let is : sends ≡ suc (length (sent ++ p.beside.sent)) = omega (arith, low, late, all-long, lag) in
          let last = stops-now is in
          subst (λ ds. IsFresh w.plan.faults c ds station) same-driven (elim whole.old.lane [
            | inl sending ↦ fresh-part w.plan.faults _ old.hits (driven_at w old.sent.start) (sent ++ p.beside.sent) driven sending.1 (omega (arith, is, last)) station
            | inr over ↦ (let more = over.0 in absurd (omega (arith, more, is)))
          ]))
    ]

    pub spent-then : (a : Channel) (station : ℕ) → IsSpent w.plan.faults a driven_later station
    spent-then = by-channel (λ a. (station : ℕ) → IsSpent w.plan.faults a driven_later station) spent-c spent-d

    pub fresh-then : (a : Channel) (station : ℕ) → IsFresh w.plan.faults a driven_later station
    fresh-then = by-channel (λ a. (station : ℕ) → IsFresh w.plan.faults a driven_later station) fresh-c fresh-d

    -- ---- both channels have been quiet since the command

    pub quiet-then : quiet_both later ≡ suc w.lag
    quiet-then =
        let fits = start.fits w t place holder stations entry old p o os is_old valid sends m breaks in
        let some = start.some w t place holder stations entry old p o os is_old valid sends m breaks in
        let last : suc (part_ticks hits words - 1) ≡ part_ticks hits words = omega (arith, some) in
        let still = quiet-end w.lag row known _ (on_channel c before) old-ends (((t - old.sent.start) + part_ticks hits words) + suc w.lag) (omega (arith, short)) (omega arith) in
        let all : length ((x ∷ ticks) ++ (o ∷ os)) ≡ ((t - old.sent.start) + part_ticks hits words) + suc w.lag = omega (arith, both-long) in
        ap quiet_both (sym (append_assoc (x ∷ ticks) (o ∷ os) before))
        ∙ rows-quiet d (suc w.lag) (part_sample hits words (part_ticks hits words - 1)) (first_samples (part_sample hits words) (part_ticks hits words - 1) ++ on_channel d (o ∷ os))
        still.0
        ((x ∷ ticks) ++ (o ∷ os)) before (heard-last w.lag Command hits words p.lag fits (part_ticks hits words - 1) last)
        (on-append d (x ∷ ticks) (o ∷ os)
        ∙ ap (λ xs. xs ++ on_channel d (o ∷ os)) (shown-d ∙ row-tail w.lag Command hits words p.lag fits (suc w.lag)
        ∙ ap (λ i. quiet_ticks (suc w.lag) ++ first_samples (part_sample hits words) i) (sym last))
        ∙ append_assoc (quiet_ticks (suc w.lag)) (first_samples (part_sample hits words) (suc (part_ticks hits words - 1))) (on_channel d (o ∷ os)))
        (ap (λ a. on_channel a ((x ∷ ticks) ++ (o ∷ os))) (sym (start.channel-back w t place holder stations entry old p o os is_old valid sends m breaks))
        ∙ shown-c ∙ ap (first_samples row) all ∙ still.1)

    -- ---- the bursts

    pub bursts-then : bursts w.lag (x ∷ (ticks ++ past)) ≡ bursts w.lag past ++ map burst_found (by_ends broken command)
    bursts-then =
        let on : d ≡ other_of c = start.channel-is w t place holder stations entry old p o os is_old valid sends m breaks in
        let old_channel : old.burst.channel ≡ old.sent.channel = olds.channel-is w t place holder stations entry old p in
        let old_start : old.burst.start ≡ length (on_channel c before) =
        olds.start-is w t place holder stations entry old p ∙ sym (olds.long-before w t place holder stations entry old p) ∙ sym (length-on c before) in
        let whole_ticks : burst_ticks command ≡ part_ticks hits words = omega arith in
        order.by-their-ends w.lag c row (part_sample hits words) known most
        (start.old_burst w t place holder stations entry old p o os is_old valid sends m breaks (length (on_channel c before)))
        (burst_shown (length (on_channel (other_of c) past)) hits words) (o ∷ os) before old-ends new-ends
        (let least = start.known-after w t place holder stations entry old p o os is_old valid sends m breaks in omega (arith, number, least))
        (omega (arith, over, both-long, number))
        broken command
        (ap (λ a. record { channel = a; burst = record { first = old.burst.start; ticks = burst_ticks (first_ticks old m); slots = (first_ticks old m).slots } }) old_channel
        ∙ ap (λ n. record { channel = c; burst = record { first = n; ticks = burst_ticks (first_ticks old m); slots = (first_ticks old m).slots } }) old_start)
        (ap (λ n. record { channel = d; burst = record { first = length past; ticks = n; slots = struck hits words } }) whole_ticks
        ∙ ap (λ a. record { channel = a; burst = burst_shown (length past) hits words }) on
        ∙ ap (λ n. record { channel = other_of c; burst = burst_shown n hits words }) (sym (length-on (other_of c) past)))
        (λ y ys at. let count = at.many in
        let all = length-append ys (o ∷ os) in
        let long = length-on c before in
        let past_is = length-append (o ∷ os) before in
        omega (arith, count, all, number, old_start, long, past_is, whole_ticks))
        x ticks record { rows = record { own = shown-c; other = ap (λ a. on_channel a (x ∷ ticks)) (sym on) ∙ whole.shown }; many = sent-first.2.many }
