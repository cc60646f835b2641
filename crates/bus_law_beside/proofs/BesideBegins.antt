-- As a command begins beside an abandoned answer: what is known of both, and of each station.
use Rattle.std.proofs.Common.{◌≡◌, inl, inr, ℕ, ◌+◌, ◌-◌, ◌/◌, ◌<◌, ◌≤◌, Bool, false, List, ◌∷◌, ◌++◌, length, take, Option, refl, sym, ap, ◌∙◌, subst, arith}
use Rattle.std.proofs.lemmas.Bool.{cases_lt}
use Rattle.std.proofs.lemmas.List.{length-take-le}
use Rattle.bus_base.specs.Samples.{other_of}
use Rattle.bus_base.specs.declared.samples.Channel.{Channel}
use Rattle.bus_base.specs.declared.samples.Channel.TheVariants.{A, B}
use Rattle.bus_base.specs.declared.samples.Drive.{Drive}
use Rattle.bus_base.specs.declared.samples.Pair.{Pair}
use Rattle.bus_base.specs.declared.samples.Part.TheVariants.{Command, First}
use Rattle.bus_base.specs.declared.samples.Sample.{Sample}
use Rattle.bus_words.specs.declared.word.Word.{Word}
use Rattle.bus_line.specs.Past.{Burst, InLeg, quiet_ticks, runs}
use Rattle.bus_line.specs.Channels.{on_channel}
use Rattle.bus_line.proofs.ChannelLaws.{on-append}
use Rattle.bus_formats.specs.Forms.{command_words}
use Rattle.bus_formats.specs.Plans.{StationData}
use Rattle.bus_formats.specs.declared.fault.Hit.{Hit}
use Rattle.bus_model.specs.Attempts.{Begun}
use Rattle.bus_model.specs.Hearing.{heard_on}
use Rattle.bus_model.specs.Message.{Present}
use Rattle.bus_model.specs.Starts.{Entry, Opening, starts, superseding, state_of}
use Rattle.bus_model.specs.Strikes.{ShownAnswer, hits_on, struck, first_ticks, burst_ticks}
use Rattle.bus_model.specs.World.{Trace}
use Rattle.bus_law_line.specs.Shown.{first_samples}
use Rattle.bus_law_line.specs.Senders.{IsSpent, attempt_to_come}
use Rattle.bus_law_line.proofs.Sent.{left-spent}
use Rattle.bus_law_parts.specs.Parts.{HitsFit, IsFresh, StopsAfter, part_ticks}
use Rattle.bus_law_parts.proofs.BrokenOff.{few-faded, ticks-before}
use Rattle.bus_law_parts.proofs.PartBursts.{leg-part}
use Rattle.bus_law_stations.specs.Messages.{BeginsMessage, message_begun}
use Rattle.bus_law_stations.proofs.Resting.{rests-quiet}
use Rattle.bus_law_phases.specs.PartRuns.{RunsAlone, PartRuns}
use Rattle.bus_law_phases.specs.Scenarios.{Scenario, trace_at, shown_at, driven_at, course_of, hearing_of}
use Rattle.bus_law_phases.proofs.CommandFits.{command-hits-fit, command-shows}
use Rattle.bus_law_phases.proofs.Lasting.{fresh-later}
use Rattle.bus_law_beside.specs.Beside.{BeginsBeside, broken_sample}
use Rattle.bus_law_beside.specs.BothRun.{Sending}
use Rattle.bus_law_beside.specs.Rows.{RowEnds}
use Rattle.bus_law_beside.proofs.OldStations as olds
use Rattle.bus_law_beside.proofs.RowLaws.{row-low, row-broken}
use Rattle.bus_law_beside.proofs.StopTicks.{BreaksOff}
use Rattle.bus_law_beside.proofs.TellerBegins.{TellerBegins}
use Rattle.bus_law_beside.proofs.TwoSenders as two

other-twice : (c : Channel) → c ≡ other_of (other_of c)
other-twice A = refl
other-twice B = refl

module _ (w : Scenario) (t place : ℕ) (holder : StationData) (stations : List Present) (entry : Entry) (old : ShownAnswer)
    (p : BeginsBeside w t place holder stations entry old) (o : Pair) (os : List Pair) (is_old : p.beside.ticks ≡ o ∷ os) (valid : Bool) (sends m : ℕ)
    (breaks : BreaksOff old (t - old.sent.start) valid sends m) where
  abbrev pub before : List Pair
  before = shown_at w old.sent.start

  abbrev pub first : List (List Drive)
  first = p.beside.sent

  abbrev pub past : List Pair
  past = (o ∷ os) ++ before

  abbrev pub now : Trace
  now = record { shown = (o ∷ os) ++ before; driven = first ++ driven_at w old.sent.start }

  abbrev n : ℕ
  n = t - old.sent.start

  pub same-now : trace_at w t ≡ now
  same-now =
      olds.then-is w t place holder stations entry old p
      ∙ ap (λ ticks. record { shown = ticks ++ before; driven = first ++ driven_at w old.sent.start }) is_old

  pub runs-so : PartRuns w (trace_at w old.sent.start)
      record { station = p.beside.teller; channel = old.sent.channel; part = First; words = old.sent.words } old.hits (t - old.sent.start) (o ∷ os) first
  runs-so = subst (λ ticks. PartRuns w (trace_at w old.sent.start)
      record { station = p.beside.teller; channel = old.sent.channel; part = First; words = old.sent.words } old.hits (t - old.sent.start) ticks first)
      is_old p.beside.runs

  pub begins-now : BeginsMessage (course_of w holder past) past entry
  begins-now = subst (λ (tr : Trace). BeginsMessage (course_of w holder tr.shown) tr.shown entry) same-now p.begins

  -- ---- the command

  abbrev pub begun : Begun
  begun = message_begun (course_of w holder past) entry (length past)

  abbrev pub hits : List Hit
  hits = hits_on w.plan.faults (attempt_to_come w.plan.faults Command now.driven) Command

  abbrev pub words : List Word
  words = command_words entry.item.kind

  abbrev pub command : Sending
  command = record { place = place; channel = begun.state.channel; hits = hits; words = words }

  abbrev pub answer : Sending
  answer = record { place = p.beside.teller; channel = old.sent.channel; hits = old.hits; words = old.sent.words }

  abbrev pub limit : ℕ
  limit = part_ticks hits words + 4

  pub fits : HitsFit Command hits words
  fits = command-hits-fit w.plan (attempt_to_come w.plan.faults Command now.driven) entry.item p.accepted p.entry_of.ranges

  pub some : 0 < part_ticks hits words
  some = command-shows hits words fits

  -- it is sent on the other channel
  pub channel-is : begun.state.channel ≡ other_of old.sent.channel
  channel-is =
      let c = course_of w holder past in
      ap (λ (o : Opening). (state_of o c.retry entry c.live).channel)
      (subst (λ (tr : Trace). (course_of w holder tr.shown).opening ≡ superseding t (other_of old.sent.channel)) same-now p.beside.opens)

  pub channel-back : old.sent.channel ≡ other_of begun.state.channel
  channel-back = other-twice old.sent.channel ∙ ap other_of (sym channel-is)

  -- ---- the answer

  pub old-fits : HitsFit First old.hits old.sent.words
  old-fits = olds.fits w t place holder stations entry old p

  pub stops : 0 < t - old.sent.start → StopsAfter First old m
  stops some = record {
    slots = olds.slots-are w t place holder stations entry old p;
    fits = old-fits;
    some = (let more = breaks.more in omega (arith, some, more));
    within = breaks.within;
  }

  pub begun-some : 0 < t - old.sent.start
  begun-some = let some = p.beside.some in omega (arith, some)

  pub few : t - old.sent.start ≤ part_ticks old.hits old.sent.words
  few = let more = breaks.more in let within = breaks.within in omega (arith, more, within)

  pub old-some : 0 < part_ticks old.hits old.sent.words
  old-some = omega (arith, begun-some, few)

  pub alone : RunsAlone w.lag old.sent.channel (o ∷ os)
  alone = record {
    leg = subst (λ xs. InLeg w.lag xs) (sym runs-so.shown)
        (leg-part w.lag First old.hits old.sent.words p.lag old-fits old-some (t - old.sent.start) (omega (arith, few)));
    quiet = runs-so.quiet ∙ ap quiet_ticks (sym runs-so.many);
  }

  -- no burst runs on the command's channel
  pub rests : runs w.lag (on_channel begun.state.channel past) ≡ false
  rests =
      ap (λ a. runs w.lag (on_channel a past)) channel-is
      ∙ ap (runs w.lag) (on-append (other_of old.sent.channel) (o ∷ os) before ∙ ap (λ xs. xs ++ on_channel (other_of old.sent.channel) before) alone.quiet)
      ∙ rests-quiet w.lag (length (o ∷ os)) (on_channel (other_of old.sent.channel) before) (p.beside.begins.moment.rests (other_of old.sent.channel))

  pub fresh : (station : ℕ) → IsFresh w.plan.faults begun.state.channel now.driven station
  fresh station =
      subst (λ a. IsFresh w.plan.faults a now.driven station) (sym channel-is)
      (fresh-later w.plan.faults (other_of old.sent.channel) (driven_at w old.sent.start) first station runs-so.beside
      (p.beside.begins.moment.fresh (other_of old.sent.channel) station))

  spent : (station : ℕ) → IsSpent w.plan.faults begun.state.channel now.driven station
  spent station =
      subst (λ a. IsSpent w.plan.faults a now.driven station) (sym channel-is)
      (left-spent w.plan.faults (other_of old.sent.channel) (driven_at w old.sent.start) first runs-so.beside station)

  pub both-begin : two.Begins w (trace_at w old.sent.start) (o ∷ os) first command answer sends m limit
  both-begin = record {
    lag = p.lag;
    channel = channel-is;
    back = channel-back;
    apart = λ e. (olds.tells w t place holder stations entry old p).apart (sym e);
    some = (let long = runs-so.long in let some = begun-some in omega (arith, long, some));
    many = runs-so.many ∙ sym runs-so.long;
    fresh = fresh place;
    spent = spent;
    named = refl;
    fits = fits;
    shown = some;
    bound = omega arith;
    sent = runs-so.part;
    so_far = runs-so.shown ∙ sym (row-low old.hits old.sent.words m (t - old.sent.start) breaks.more)
        ∙ ap (first_samples (broken_sample old.hits old.sent.words m)) (sym runs-so.many);
    from = (let long = runs-so.long in let from = breaks.from in omega (arith, long, from));
    least = breaks.shown;
    most = breaks.bound;
    unshown = breaks.unshown;
    own = λ more. breaks.own (let long = runs-so.long in omega (arith, long, more));
  }

  -- ---- its burst

  abbrev pub old_row : ℕ → Sample
  old_row = broken_sample old.hits old.sent.words m

  abbrev pub old_known : ℕ
  old_known = burst_ticks (first_ticks old m) + w.lag

  abbrev pub old_burst : ℕ → Burst
  old_burst from = record { first = from; ticks = burst_ticks (first_ticks old m); slots = (first_ticks old m).slots }

  pub old-ends : (xs : List Sample) → runs w.lag xs ≡ false → RowEnds w.lag old_row old_known (old_burst (length xs)) xs
  old-ends xs none = row-broken w.lag First old m xs p.lag (stops begun-some) none

  -- one that runs to its own end has no faded samples before that
  whole-ticks : m ≡ part_ticks old.hits old.sent.words → burst_ticks (first_ticks old m) ≡ m
  whole-ticks is =
      let all = ticks-before First old m (stops begun-some) in
      let within = breaks.within in
      let slots = olds.slots-are w t place holder stations entry old p in
      let long : length old.burst.slots ≡ length (struck old.hits old.sent.words) = ap (λ (xs : List (Option Word)). length xs) slots in
      let taken : length (take (m / 40) old.burst.slots) ≡ m / 40 = length-take-le (m / 40) old.burst.slots (omega (arith, within, long)) in
      omega (arith, all, taken, is)

  -- its end isn't known while it is sent
  pub known-late : (i : ℕ) → i < sends → i ≤ old_known
  known-late i low = elim (cases_lt m sends) [
    | inl early ↦ (
        let most = breaks.unshown m (omega arith) early in
        let within = breaks.within in
        let is : m ≡ part_ticks old.hits old.sent.words = omega (arith, most, within) in
        let ticks = whole-ticks is in
        let bound = breaks.bound in
        let lag = p.lag in
        omega (arith, ticks, is, bound, low, lag))
    | inr late ↦ (
        let least = breaks.shown in
        let all = ticks-before First old m (stops begun-some) in
        let three = (few-faded First old m (stops begun-some)).0 in
        let lag = p.lag in
        omega (arith, late, least, all, three, low, lag))
  ]

  -- and it is known four ticks after the end of one that a cut left
  pub known-early : (i : ℕ) → m ≡ part_ticks old.hits old.sent.words → part_ticks old.hits old.sent.words + 4 ≤ i → old_known < i
  known-early i is late =
      let ticks = whole-ticks is in
      let lag = p.lag in
      omega (arith, ticks, is, late, lag)

  pub known-least : old_known ≤ m + w.lag
  known-least = let all = ticks-before First old m (stops begun-some) in omega (arith, all)

  -- where its burst ends by a tick, it is sent for four ticks more at the most, and for so many only as a cut ends it
  pub stops-soon : (e : ℕ) → burst_ticks (first_ticks old m) ≤ e → sends ≤ e + 4
  stops-soon e low = elim (cases_lt m sends) [
    | inl early ↦ (
        let most = breaks.unshown m (omega arith) early in
        let within = breaks.within in
        let is : m ≡ part_ticks old.hits old.sent.words = omega (arith, most, within) in
        let ticks = whole-ticks is in
        let bound = breaks.bound in
        omega (arith, ticks, is, bound, low))
    | inr late ↦ (
        let least = breaks.shown in
        let all = ticks-before First old m (stops begun-some) in
        let three = (few-faded First old m (stops begun-some)).0 in
        omega (arith, late, least, all, three, low))
  ]

  pub stops-late : (e : ℕ) → burst_ticks (first_ticks old m) ≤ e → sends ≡ e + 4 → sends ≡ part_ticks old.hits old.sent.words + 4
  stops-late e low is_late = elim (cases_lt m sends) [
    | inl early ↦ (
        let most = breaks.unshown m (omega arith) early in
        let within = breaks.within in
        let is : m ≡ part_ticks old.hits old.sent.words = omega (arith, most, within) in
        let ticks = whole-ticks is in
        let bound = breaks.bound in
        omega (arith, ticks, is, bound, low, is_late))
    | inr late ↦ (
        let least = breaks.shown in
        let all = ticks-before First old m (stops begun-some) in
        let three = (few-faded First old m (stops begun-some)).0 in
        absurd (omega (arith, late, least, all, three, low, is_late)))
  ]

  pub known-after : t - old.sent.start ≤ old_known
  known-after =
      let all = ticks-before First old m (stops begun-some) in
      let three = (few-faded First old m (stops begun-some)).0 in
      let more = breaks.more in
      let lag = p.lag in
      omega (arith, all, three, more, lag)

  -- ---- the station that sends it

  pub teller-begins : TellerBegins w.lag p.beside.telling (starts w.plan p.beside.telling) w.loads w.outside before old.sent.channel begun.state.channel
      old.sent.words o os old_row old_known (old_burst (length (heard_on old.sent.channel (hearing_of w p.beside.telling before).ticks)))
  teller-begins =
      let replies = olds.replies w t place holder stations entry old p in record {
        cd = channel-back;
        dc = channel-is;
        three = p.lag;
        prompt = olds.prompt w t place holder stations entry old p p.beside.teller p.beside.telling p.beside.teller_at;
        answers = replies;
        alone = alone;
        old = old-ends (heard_on old.sent.channel (hearing_of w p.beside.telling before).ticks) (replies.rests old.sent.channel);
        began = refl;
      }
