-- After a command of which the first word was struck the abandoned answer beside it is sent on, tick by tick, while nobody else sends.
use Rattle.std.proofs.Common.{◌≡◌, ◌≢◌, inl, inr, ℕ, zero, suc, ◌+◌, ◌-◌, ◌<◌, ◌≤◌, Bool, false, List, [], ◌∷◌, ◌++◌, length, Some, refl, sym, ap, ◌∙◌, subst, arith, length-append, append_assoc}
use Rattle.std.proofs.lemmas.Bool.{cases_eq}
use Rattle.std.specs.Prelude.{nat_lt, slice_get, drop}
use Rattle.bus_base.specs.Samples.{other_of}
use Rattle.bus_base.specs.declared.samples.Channel.{Channel}
use Rattle.bus_base.specs.declared.samples.Drive.{Drive}
use Rattle.bus_base.specs.declared.samples.Drive.TheVariants.{Silent}
use Rattle.bus_base.specs.declared.samples.Pair.{Pair}
use Rattle.bus_base.specs.declared.samples.Part.TheVariants.{First}
use Rattle.bus_base.specs.declared.samples.Sample.{Sample}
use Rattle.bus_base.specs.declared.samples.Sample.TheVariants.{Quiet}
use Rattle.bus_line.specs.Past.{quiet_ticks}
use Rattle.bus_line.specs.Channels.{on_channel}
use Rattle.bus_line.proofs.ChannelLaws.{on-append}
use Rattle.bus_formats.specs.Plans.{StationData}
use Rattle.bus_model.specs.Message.{Present}
use Rattle.bus_model.specs.Starts.{Entry}
use Rattle.bus_model.specs.Strikes.{ShownAnswer}
use Rattle.bus_model.specs.Transmissions.{drives_on, drive_or, station_drive}
use Rattle.bus_model.specs.Wire.{samples_on, shown, drivers}
use Rattle.bus_model.specs.World.{Trace, drives_after, next_tick, ticks_on}
use Rattle.bus_law_line.specs.Shown.{first_samples, shown_of}
use Rattle.bus_law_line.specs.Senders.{Sender, IsUndriven, LeftAlone, drives_command}
use Rattle.bus_law_line.proofs.Sent.{left-undriven}
use Rattle.bus_law_messages.proofs.Running.{quiet-pair}
use Rattle.bus_law_parts.specs.Parts.{IsDriven, AreWithoutCommand, part_ticks, part_sample}
use Rattle.bus_law_parts.proofs.PartBursts.{quiet-tail}
use Rattle.bus_law_parts.proofs.PartSlots.{no-sample}
use Rattle.bus_law_phases.specs.Scenarios.{Scenario, trace_at, driven_at}
use Rattle.bus_law_phases.proofs.PartRunning.{shown-pair, on-more}
use Rattle.bus_law_beside.specs.Beside.{BeginsBeside}
use Rattle.bus_law_beside.specs.BothRun.{Sending}
use Rattle.bus_law_beside.proofs.BesideBegins as start
use Rattle.bus_law_beside.proofs.BesideDrives as both
use Rattle.bus_law_beside.proofs.BesideEnd as end
use Rattle.bus_law_beside.proofs.OldLane.{OldRuns, OldTick, old-tick, stops-driving}
use Rattle.bus_law_beside.proofs.StopTicks.{BreaksOff}
use Rattle.bus_law_beside.proofs.TwoSenders as two
use Rattle.bus_law_beside.proofs.TwoSenders.{old_drive, old-off, no-command}

module _ (w : Scenario) (t place : ℕ) (holder : StationData) (stations : List Present) (entry : Entry) (old : ShownAnswer)
    (p : BeginsBeside w t place holder stations entry old) (o : Pair) (os : List Pair) (is_old : p.beside.ticks ≡ o ∷ os) (valid : Bool) (sends m : ℕ)
    (breaks : BreaksOff old (t - old.sent.start) valid sends m)
    (orders : both.OrdersIt w t place holder stations entry old p o os is_old valid sends m breaks) where
  abbrev c : Channel
  c = old.sent.channel

  abbrev pub d : Channel
  d = end.d w t place holder stations entry old p o os is_old valid sends m breaks orders

  -- the ticks of the command
  abbrev pub ours : List Pair
  ours = end.x w t place holder stations entry old p o os is_old valid sends m breaks orders
      ∷ end.ticks w t place holder stations entry old p o os is_old valid sends m breaks orders

  abbrev pub later : List Pair
  later = end.later w t place holder stations entry old p o os is_old valid sends m breaks orders

  abbrev pub driven_later : List (List Drive)
  driven_later = end.driven_later w t place holder stations entry old p o os is_old valid sends m breaks orders

  -- what was driven in them
  abbrev so_far : List (List Drive)
  so_far = end.driven w t place holder stations entry old p o os is_old valid sends m breaks orders
      ∷ end.sent w t place holder stations entry old p o os is_old valid sends m breaks orders

  abbrev pub mid : Trace
  mid = record { shown = later; driven = driven_later }

  abbrev row : ℕ → Sample
  row = start.old_row w t place holder stations entry old p o os is_old valid sends m breaks

  abbrev teller : Sender
  teller = record { station = p.beside.teller; channel = old.sent.channel; part = First; words = old.sent.words }

  abbrev answer : Sending
  answer = start.answer w t place holder stations entry old p o os is_old valid sends m breaks

  abbrev pub drives : List Pair → List Drive
  drives ys = drives_after w.lag w.plan w.loads w.outside w.absent (ys ++ later)

  -- how many ticks of the answer there are with these, and those of the command
  abbrev pub so_many : List Pair → ℕ
  so_many ys = length ((ys ++ ours) ++ (o ∷ os))

  -- ticks after the command, the newest first: the answer goes on, and the command's channel is quiet
  pub record IsTail (ys : List Pair) : Type 0 where
    pub answered : on_channel c ((ys ++ ours) ++ (o ∷ os)) ≡ first_samples row (length ((ys ++ ours) ++ (o ∷ os)))
    pub quiet : on_channel d ys ≡ quiet_ticks (length ys)

  pub less : (y : Pair) (ys : List Pair) → IsTail (y ∷ ys) → IsTail ys
  less y ys so =
      record { answered = ap (λ (xs : List Sample). drop 1 xs) so.answered; quiet = ap (λ (xs : List Sample). drop 1 xs) so.quiet }

  pub no-tail : IsTail []
  no-tail = record { answered = end.shown-c w t place holder stations entry old p o os is_old valid sends m breaks orders; quiet = refl }

  -- n of them
  pub record TailRun (n : ℕ) (ys : List Pair) (zs : List (List Drive)) : Type 0 where
    pub world : ticks_on w.lag w.plan w.loads w.outside w.absent mid n ≡ record { shown = ys ++ later; driven = zs ++ driven_later }
    pub many : length ys ≡ n
    pub long : length zs ≡ n
    pub lane : OldRuns w.plan.faults teller old.hits (driven_at w old.sent.start) p.beside.sent (zs ++ so_far) sends
    pub beside : LeftAlone w.plan.faults d driven_later zs
    pub commands : AreWithoutCommand zs
    pub tail : IsTail ys

  -- what each station drives
  pub record TailDrives (limit : ℕ) : Type 0 where
    pub tells : (ys : List Pair) → IsTail ys → length ys < limit → slice_get (drives ys) p.beside.teller ≡ Some (old_drive answer sends (so_many ys))
    pub others : (ys : List Pair) → IsTail ys → length ys < limit → (other : ℕ) → other ≢ p.beside.teller → station_drive other (drives ys) ≡ Silent

  begins : two.Begins w (trace_at w old.sent.start) (o ∷ os) p.beside.sent
      (start.command w t place holder stations entry old p o os is_old valid sends m breaks)
      (start.answer w t place holder stations entry old p o os is_old valid sends m breaks) sends m
      (start.limit w t place holder stations entry old p o os is_old valid sends m breaks)
  begins = start.both-begin w t place holder stations entry old p o os is_old valid sends m breaks

  -- the row of the command's channel, with the command
  pub command-row : (ys : List Pair) → on_channel d ys ≡ quiet_ticks (length ys) →
      on_channel d (ys ++ ours) ≡ first_samples (part_sample (end.hits w t place holder stations entry old p o os is_old valid sends m breaks orders)
      (end.words w t place holder stations entry old p o os is_old valid sends m breaks orders)) (length (ys ++ ours))
  command-row ys quiet =
      let hits = end.hits w t place holder stations entry old p o os is_old valid sends m breaks orders in
      let words = end.words w t place holder stations entry old p o os is_old valid sends m breaks orders in
      let all = length-append ys ours in
      let count = end.many w t place holder stations entry old p o os is_old valid sends m breaks orders in
      let at : (part_ticks (end.hits w t place holder stations entry old p o os is_old valid sends m breaks orders)
      (end.words w t place holder stations entry old p o os is_old valid sends m breaks orders) + suc w.lag) + length ys ≡ length (ys ++ ours) =
      omega (arith, all, count) in
      on-append d ys ours
      ∙ ap (λ xs. xs ++ on_channel d ours) quiet
      ∙ ap (λ xs. quiet_ticks (length ys) ++ xs) (end.shown-d w t place holder stations entry old p o os is_old valid sends m breaks orders)
      ∙ sym (quiet-tail (part_sample hits words) (part_ticks hits words + suc w.lag) (length ys) (λ i high. no-sample hits words i (omega (arith, high))))
      ∙ ap (first_samples (part_sample hits words)) at

  module _ (limit : ℕ) (e : TailDrives limit) where
    module _ (n : ℕ) (ys : List Pair) (zs : List (List Drive)) (early : n < limit) (so : TailRun n ys zs) where
      few : length ys < limit
      few = let many = so.many in omega (arith, many, early)

      -- as many ticks were shown as were driven
      same-long : so_many ys ≡ length ((zs ++ so_far) ++ p.beside.sent)
      same-long =
          let a = length-append (ys ++ ours) (o ∷ os) in
          let a2 = length-append ys ours in
          let z = length-append (zs ++ so_far) p.beside.sent in
          let z2 = length-append zs so_far in
          let count = end.many w t place holder stations entry old p o os is_old valid sends m breaks orders in
          let drove = end.long-sent w t place holder stations entry old p o os is_old valid sends m breaks orders in
          let first = begins.many in
          let many = so.many in
          let long = so.long in
          omega (arith, a, a2, z, z2, count, drove, first, many, long)

      old-drive : slice_get (drives ys) p.beside.teller ≡ Some (old_drive answer sends (length ((zs ++ so_far) ++ p.beside.sent)))
      old-drive = e.tells ys so.tail few ∙ ap (λ i. Some (old_drive answer sends i)) same-long

      old-alone : (other : ℕ) → other ≢ p.beside.teller → drives_on c (station_drive other (drives ys)) ≡ false
      old-alone other apart = ap (drives_on c) (e.others ys so.tail few other apart)

      d-undriven : IsUndriven d (drives ys)
      d-undriven other = elim (cases_eq other p.beside.teller) [
        | inl same ↦ ap (λ i. drives_on d (station_drive i (drives ys))) same
            ∙ ap (λ i. drives_on d (drive_or i)) old-drive
            ∙ ap (λ a. drives_on a (old_drive answer sends (length ((zs ++ so_far) ++ p.beside.sent)))) begins.channel
            ∙ old-off answer sends (length ((zs ++ so_far) ++ p.beside.sent))
        | inr aside ↦ ap (drives_on d) (e.others ys so.tail few other aside)
      ]

      none-commands : (other : ℕ) → drives_command (station_drive other (drives ys)) ≡ false
      none-commands other = elim (cases_eq other p.beside.teller) [
        | inl same ↦ ap (λ i. drives_command (station_drive i (drives ys))) same
            ∙ ap (λ i. drives_command (drive_or i)) old-drive
            ∙ no-command (nat_lt (length ((zs ++ so_far) ++ p.beside.sent)) sends) c _ _ _
        | inr aside ↦ ap drives_command (e.others ys so.tail few other aside)
      ]

      was-begun : (zs ++ so_far) ≡ [] → IsDriven (other_of c) (drives ys)
      was-begun none = absurd (
          let z2 = length-append zs so_far in
          let long : length (zs ++ so_far) ≡ 0 = ap (λ (xs : List (List Drive)). length xs) none in omega (arith, z2, long))

      pub old-now : OldTick w.plan.faults teller old.hits (driven_at w old.sent.start) p.beside.sent (zs ++ so_far) sends m (drives ys)
      old-now =
          old-tick w.plan.faults teller old.hits (driven_at w old.sent.start) p.beside.sent (zs ++ so_far) sends m (drives ys) (λ is. cc) begins.some
          begins.least begins.most begins.unshown begins.own so.lane record { own = old-drive; alone = old-alone } was-begun

      pub old-stopped : sends ≤ length ((zs ++ so_far) ++ p.beside.sent) → IsUndriven c (drives ys)
      old-stopped late =
          stops-driving w.plan.faults teller old.hits (driven_at w old.sent.start) p.beside.sent (zs ++ so_far) sends m (drives ys) (λ is. cc) begins.some
          begins.least begins.most begins.unshown begins.own so.lane record { own = old-drive; alone = old-alone } was-begun late

      same-driven : (drives ys ∷ ((zs ++ so_far) ++ p.beside.sent)) ++ driven_at w old.sent.start ≡ (drives ys ∷ zs) ++ driven_later
      same-driven =
          ap (λ xs. drives ys ∷ xs) (ap (λ xs. xs ++ driven_at w old.sent.start) (append_assoc zs so_far p.beside.sent)
          ∙ append_assoc zs (so_far ++ p.beside.sent) (driven_at w old.sent.start)
          ∙ ap (λ xs. zs ++ xs) (append_assoc so_far p.beside.sent (driven_at w old.sent.start)))

      abbrev pub y : Pair
      y = shown w.plan.faults ((drives ys ∷ zs) ++ driven_later)

      beside-now : LeftAlone w.plan.faults d driven_later (drives ys ∷ zs)
      beside-now = record { undriven = (d-undriven, so.beside.undriven); spent = so.beside.spent }

      pub command-alone : drivers w.plan.faults d ((drives ys ∷ zs) ++ driven_later) ≤ 1
      command-alone = let none = left-undriven w.plan.faults d driven_later zs (drives ys) beside-now in omega (arith, none)

      pub answer-alone : drivers w.plan.faults c ((drives ys ∷ zs) ++ driven_later) ≤ 1
      answer-alone = subst (λ driven. drivers w.plan.faults c driven ≤ 1) same-driven old-now.alone

      tail-now : IsTail (y ∷ ys)
      tail-now = record {
        answered = on-more c y ((ys ++ ours) ++ (o ∷ os))
            ∙ ap (λ s. s ∷ on_channel c ((ys ++ ours) ++ (o ∷ os))) (shown-pair w.plan.faults c ((drives ys ∷ zs) ++ driven_later)
            ∙ ap (λ driven. shown_of (samples_on w.plan.faults c driven)) (sym same-driven)
            ∙ old-now.shown
            ∙ ap row (sym same-long))
            ∙ ap (λ xs. row (so_many ys) ∷ xs) so.tail.answered;
        quiet = on-more d y ys
            ∙ ap (λ s. s ∷ on_channel d ys) (quiet-pair w.plan.faults d driven_later zs (drives ys) beside-now)
            ∙ ap (λ xs. Quiet ∷ xs) so.tail.quiet;
      }

      pub tail-more : TailRun (suc n) (y ∷ ys) (drives ys ∷ zs)
      unfolding ticks_on
      tail-more = record {
        world = ap (next_tick w.lag w.plan w.loads w.outside w.absent) so.world;
        many = ap suc so.many;
        long = ap suc so.long;
        lane = old-now.runs;
        beside = beside-now;
        commands = (none-commands, so.commands);
        tail = tail-now;
      }

    pub none-yet : TailRun 0 [] []
    unfolding ticks_on
    none-yet = record {
      world = refl;
      many = refl;
      long = refl;
      lane = (end.whole w t place holder stations entry old p o os is_old valid sends m breaks orders).old;
      beside = record { undriven = tt; spent = end.spent-d w t place holder stations entry old p o os is_old valid sends m breaks orders };
      commands = tt;
      tail = no-tail;
    }

    pub tail-run : (n : ℕ) → n ≤ limit → (ys : List Pair) × (zs : List (List Drive)) × TailRun n ys zs
    tail-run zero early = ([], [], none-yet)
    tail-run (suc n) early =
        let so = tail-run n (omega (arith, early)) in (
          shown w.plan.faults ((drives so.0 ∷ so.1) ++ driven_later) ∷ so.0,
          drives so.0 ∷ so.1,
          tail-more n so.0 so.1 (omega (arith, early)) so.2,
        )
