-- A command and an older answer are sent tick by tick on two channels, where what each station does may depend on what was shown of them.
use Rattle.std.proofs.Common.{◌≡◌, ◌≢◌, ◌⊎◌, inl, inr, ℕ, zero, suc, ◌+◌, ◌*◌, ◌<◌, ◌≤◌, Bool, true, false, List, [], ◌∷◌, ◌++◌, length, Option, Some, None, refl, sym, ap, ◌∙◌, subst, arith, length-append, append_assoc}
use Rattle.std.proofs.lemmas.Bool.{cases_eq}
use Rattle.std.specs.Prelude.{nat_lt, if◌then◌else◌, slice_get}
use Rattle.bus_base.specs.Samples.{other_of}
use Rattle.bus_base.specs.declared.samples.Channel.{Channel}
use Rattle.bus_base.specs.declared.samples.Drive.{Drive}
use Rattle.bus_base.specs.declared.samples.Drive.TheVariants.{Silent}
use Rattle.bus_base.specs.declared.samples.Pair.{Pair}
use Rattle.bus_base.specs.declared.samples.Part.TheVariants.{Command, First}
use Rattle.bus_words.specs.declared.word.Word.{Word}
use Rattle.bus_line.specs.Past.{InLeg}
use Rattle.bus_line.specs.Channels.{on_channel}
use Rattle.bus_model.specs.Sending.{drive_word, drive_sample}
use Rattle.bus_model.specs.Strikes.{hits_on, added_by}
use Rattle.bus_model.specs.Transmissions.{drives_on, drive_or, station_drive}
use Rattle.bus_model.specs.Wire.{samples_on, shown, drivers}
use Rattle.bus_model.specs.World.{Trace, drives_after, next_tick, ticks_on}
use Rattle.bus_law_line.specs.Shown.{first_samples, shown_of}
use Rattle.bus_law_line.specs.Senders.{Sender, IsSpent, IsUndriven, SendsAlone, attempt_to_come, drives_command}
use Rattle.bus_law_parts.specs.Parts.{part_ticks, part_sample, HitsFit, IsFresh, IsDriven, SentPart, CommandsAlone}
use Rattle.bus_law_parts.proofs.LookBacks.{is-driving}
use Rattle.bus_law_parts.proofs.PartBursts.{leg-part}
use Rattle.bus_law_parts.proofs.SentParts.{part-shown-now, part-drivers}
use Rattle.bus_law_phases.specs.Scenarios.{Scenario}
use Rattle.bus_law_phases.proofs.PartRunning.{shown-pair, other-undriven, on-more}
use Rattle.bus_law_beside.specs.Beside.{broken_sample}
use Rattle.bus_law_beside.specs.BothRun.{Sending, ShowsBoth}
use Rattle.bus_law_beside.proofs.OldLane.{OldRuns, OldTick, old-tick, stops-driving}

-- ---- what is sent of an answer

-- sample i of it, while i is below a bound
abbrev pub old_drive : Sending → ℕ → ℕ → Drive
old_drive answer sends i = if nat_lt i sends then drive_sample answer.channel First answer.words i else Silent

either-off : (d : Channel) (b : Bool) (drive : Drive) → drives_on d drive ≡ false → drives_on d (if b then drive else Silent) ≡ false
either-off d true drive off = off
either-off d false drive off = refl

-- it isn't sent on the other channel, and is no command
pub old-off : (answer : Sending) (sends i : ℕ) → drives_on (other_of answer.channel) (old_drive answer sends i) ≡ false
old-off answer sends i =
    either-off (other_of answer.channel) (nat_lt i sends) (drive_sample answer.channel First answer.words i)
    (other-undriven answer.channel First answer.words i)

no-word : (c : Channel) (last : Bool) (position : ℕ) (o : Option Word) → drives_command (drive_word c First last position o) ≡ false
no-word c last position None = refl
no-word c last position (Some word) = refl

pub no-command : (b : Bool) (c : Channel) (last : Bool) (position : ℕ) (o : Option Word) →
    drives_command (if b then drive_word c First last position o else Silent) ≡ false
no-command true c last position o = no-word c last position o
no-command false c last position o = refl

-- ---- the ticks

module _ (w : Scenario) (before : Trace) (old_ticks : List Pair) (first : List (List Drive)) (command answer : Sending) (sends m limit : ℕ) where
  abbrev pub past : List Pair
  past = old_ticks ++ before.shown

  abbrev pub now : Trace
  now = record { shown = old_ticks ++ before.shown; driven = first ++ before.driven }

  abbrev pub sender : Sender
  sender = record { station = command.place; channel = command.channel; part = Command; words = command.words }

  abbrev pub teller : Sender
  teller = record { station = answer.place; channel = answer.channel; part = First; words = answer.words }

  abbrev pub drives : List Pair → List Drive
  drives ticks = drives_after w.lag w.plan w.loads w.outside w.absent (ticks ++ past)

  -- the first n ticks of the command, the newest first, beside the answer
  pub record BothRun (n : ℕ) (ticks : List Pair) (sent : List (List Drive)) : Type 0 where
    pub world : ticks_on w.lag w.plan w.loads w.outside w.absent now n ≡ record { shown = ticks ++ past; driven = sent ++ now.driven }
    pub many : length ticks ≡ n
    pub long : length sent ≡ n
    pub part : SentPart w.plan.faults sender command.hits now.driven sent
    pub commands : CommandsAlone sender sent
    pub old : OldRuns w.plan.faults teller answer.hits before.driven first sent sends
    pub shown : on_channel command.channel ticks ≡ first_samples (part_sample command.hits command.words) (length ticks)
    pub old_shown : on_channel answer.channel (ticks ++ old_ticks)
        ≡ first_samples (broken_sample answer.hits answer.words m) (length (ticks ++ old_ticks))

  abbrev pub Shows : List Pair → Type 0
  Shows ticks = ShowsBoth w.lag command answer m old_ticks ticks

  -- what has to be known before the command begins
  pub record Begins : Type 0 where
    pub lag : w.lag ≡ 3
    pub channel : command.channel ≡ other_of answer.channel
    pub back : answer.channel ≡ other_of command.channel
    pub apart : command.place ≢ answer.place
    pub some : 0 < length first
    pub many : length old_ticks ≡ length first
    -- the command
    pub fresh : IsFresh w.plan.faults command.channel now.driven command.place
    pub spent : (station : ℕ) → IsSpent w.plan.faults command.channel now.driven station
    pub named : hits_on w.plan.faults (attempt_to_come w.plan.faults Command now.driven) Command ≡ command.hits
    pub fits : HitsFit Command command.hits command.words
    pub shown : 0 < part_ticks command.hits command.words
    pub bound : limit ≤ part_ticks command.hits command.words + 4
    -- the answer so far, and how it goes on
    pub sent : SentPart w.plan.faults teller answer.hits before.driven first
    pub so_far : on_channel answer.channel old_ticks ≡ first_samples (broken_sample answer.hits answer.words m) (length old_ticks)
    pub from : length first ≤ sends
    pub least : m ≤ sends
    pub most : sends ≤ part_ticks answer.hits answer.words + 4
    pub unshown : (i : ℕ) → m ≤ i → i < sends → part_ticks answer.hits answer.words ≤ i
    pub own : length first < sends → (sends ≤ 40 * length answer.words) ⊎ (added_by answer.hits ≡ 0)

  -- what each station drives while this is shown
  pub record Drives : Type 0 where
    pub own : (ticks : List Pair) → Shows ticks → length ticks < limit →
        slice_get (drives ticks) command.place ≡ Some (drive_sample command.channel Command command.words (length ticks))
    pub tells : (ticks : List Pair) → Shows ticks → length ticks < limit →
        slice_get (drives ticks) answer.place ≡ Some (old_drive answer sends (length (ticks ++ old_ticks)))
    pub others : (ticks : List Pair) → Shows ticks → length ticks < limit → (other : ℕ) → other ≢ command.place → other ≢ answer.place →
        station_drive other (drives ticks) ≡ Silent

  module _ (b : Begins) (e : Drives) where
    -- ---- one tick

    module _ (n : ℕ) (ticks : List Pair) (sent : List (List Drive)) (early : n < limit) (so : BothRun n ticks sent) where
      pub shows-both : Shows ticks
      shows-both = record {
        leg = subst (λ xs. InLeg w.lag xs) (sym so.shown)
            (leg-part w.lag Command command.hits command.words b.lag b.fits b.shown (length ticks)
            (let many = so.many in let lag = b.lag in let bound = b.bound in omega (arith, many, lag, bound, early)));
        sent = so.shown;
        old = so.old_shown;
      }

      few : length ticks < limit
      few = let many = so.many in omega (arith, many, early)

      own-drive : slice_get (drives ticks) command.place ≡ Some (drive_sample command.channel Command command.words (length sent))
      own-drive =
          let same : length ticks ≡ length sent = so.many ∙ sym so.long in
          e.own ticks shows-both few ∙ ap (λ i. Some (drive_sample command.channel Command command.words i)) same

      both-long : length (ticks ++ old_ticks) ≡ length (sent ++ first)
      both-long =
          let a = length-append ticks old_ticks in
          let z = length-append sent first in
          let many = so.many in
          let long = so.long in
          let same = b.many in
          omega (arith, a, z, many, long, same)

      old-drive : slice_get (drives ticks) answer.place ≡ Some (old_drive answer sends (length (sent ++ first)))
      old-drive = e.tells ticks shows-both few ∙ ap (λ i. Some (old_drive answer sends i)) both-long

      -- nobody else drives the command's channel, nor a command
      others-off : (other : ℕ) → other ≢ command.place → drives_on command.channel (station_drive other (drives ticks)) ≡ false
      others-off other apart = elim (cases_eq other answer.place) [
        | inl same ↦ ap (λ o. drives_on command.channel (station_drive o (drives ticks))) same
            ∙ ap (λ o. drives_on command.channel (drive_or o)) old-drive
            ∙ ap (λ d. drives_on d (old_drive answer sends (length (sent ++ first)))) b.channel
            ∙ old-off answer sends (length (sent ++ first))
        | inr aside ↦ ap (drives_on command.channel) (e.others ticks shows-both few other apart aside)
      ]

      others-no-command : (other : ℕ) → other ≢ command.place → drives_command (station_drive other (drives ticks)) ≡ false
      others-no-command other apart = elim (cases_eq other answer.place) [
        | inl same ↦ ap (λ o. drives_command (station_drive o (drives ticks))) same
            ∙ ap (λ o. drives_command (drive_or o)) old-drive
            ∙ no-command (nat_lt (length (sent ++ first)) sends) answer.channel _ _ _
        | inr aside ↦ ap drives_command (e.others ticks shows-both few other apart aside)
      ]

      -- nor the answer's
      old-alone : (other : ℕ) → other ≢ answer.place → drives_on answer.channel (station_drive other (drives ticks)) ≡ false
      old-alone other apart = elim (cases_eq other command.place) [
        | inl same ↦ ap (λ o. drives_on answer.channel (station_drive o (drives ticks))) same
            ∙ ap (λ o. drives_on answer.channel (drive_or o)) own-drive
            ∙ ap (λ d. drives_on d (drive_sample command.channel Command command.words (length sent))) b.back
            ∙ other-undriven command.channel Command command.words (length sent)
        | inr aside ↦ ap (drives_on answer.channel) (e.others ticks shows-both few other aside apart)
      ]

      sends-now : SendsAlone sender (length sent) (drives ticks)
      sends-now = record { own = own-drive; alone = others-off; counted = λ none other apart. others-no-command other apart }

      part-now : SentPart w.plan.faults sender command.hits now.driven (drives ticks ∷ sent)
      part-now = record {
        fresh = b.fresh;
        spent = λ other apart. b.spent other;
        ticks = (sends-now, so.part.ticks);
        within = (let long = so.long in let bound = b.bound in omega (arith, long, bound, early));
        named = b.named;
        fits = b.fits;
        beside = inr (inl refl);
      }

      -- the first tick of it drives the other channel
      begins-now : sent ≡ [] → IsDriven (other_of answer.channel) (drives ticks)
      begins-now none =
          let some = b.fits.some in
          let long : length sent ≡ 0 = ap (λ (xs : List (List Drive)). length xs) none in (
            command.place,
            ap (λ d. drives_on d (station_drive command.place (drives ticks))) (sym b.channel)
                ∙ is-driving sender (length sent) (drives ticks) sends-now (omega (arith, some, long)),
          )

      pub old-now : OldTick w.plan.faults teller answer.hits before.driven first sent sends m (drives ticks)
      old-now =
          old-tick w.plan.faults teller answer.hits before.driven first sent sends m (drives ticks) (λ is. cc) b.some b.least b.most b.unshown b.own so.old
          record { own = old-drive; alone = old-alone } begins-now

      -- once it has stopped nobody drives its channel
      pub old-undriven : sends ≤ length (sent ++ first) → IsUndriven answer.channel (drives ticks)
      old-undriven late =
          stops-driving w.plan.faults teller answer.hits before.driven first sent sends m (drives ticks) (λ is. cc) b.some b.least b.most b.unshown b.own so.old
          record { own = old-drive; alone = old-alone } begins-now late

      driven-same : (drives ticks ∷ (sent ++ first)) ++ before.driven ≡ (drives ticks ∷ sent) ++ now.driven
      driven-same = ap (λ xs. drives ticks ∷ xs) (append_assoc sent first before.driven)

      abbrev x : Pair
      x = shown w.plan.faults ((drives ticks ∷ sent) ++ now.driven)

      -- at most one station drives a channel
      pub command-alone : drivers w.plan.faults command.channel ((drives ticks ∷ sent) ++ now.driven) ≤ 1
      command-alone = part-drivers w.plan.faults sender command.hits now.driven sent (drives ticks) part-now

      pub answer-alone : drivers w.plan.faults answer.channel ((drives ticks ∷ sent) ++ now.driven) ≤ 1
      answer-alone = subst (λ driven. drivers w.plan.faults answer.channel driven ≤ 1) driven-same old-now.alone

      sent-shown : on_channel command.channel (x ∷ ticks) ≡ first_samples (part_sample command.hits command.words) (length (x ∷ ticks))
      sent-shown =
          let same : length sent ≡ length ticks = so.long ∙ sym so.many in
          on-more command.channel x ticks
          ∙ ap (λ y. y ∷ on_channel command.channel ticks) (shown-pair w.plan.faults command.channel ((drives ticks ∷ sent) ++ now.driven)
          ∙ part-shown-now w.plan.faults sender command.hits now.driven sent (drives ticks) part-now
          ∙ ap (part_sample command.hits command.words) same)
          ∙ ap (λ xs. part_sample command.hits command.words (length ticks) ∷ xs) so.shown

      old-shown : on_channel answer.channel ((x ∷ ticks) ++ old_ticks)
          ≡ first_samples (broken_sample answer.hits answer.words m) (length ((x ∷ ticks) ++ old_ticks))
      old-shown =
          on-more answer.channel x (ticks ++ old_ticks)
          ∙ ap (λ y. y ∷ on_channel answer.channel (ticks ++ old_ticks)) (shown-pair w.plan.faults answer.channel ((drives ticks ∷ sent) ++ now.driven)
          ∙ ap (λ driven. shown_of (samples_on w.plan.faults answer.channel driven)) (sym driven-same)
          ∙ old-now.shown
          ∙ ap (broken_sample answer.hits answer.words m) (sym both-long))
          ∙ ap (λ xs. broken_sample answer.hits answer.words m (length (ticks ++ old_ticks)) ∷ xs) so.old_shown

      pub both-more : BothRun (suc n) (x ∷ ticks) (drives ticks ∷ sent)
      unfolding ticks_on
      both-more = record {
        world = ap (next_tick w.lag w.plan w.loads w.outside w.absent) so.world;
        many = ap suc so.many;
        long = ap suc so.long;
        part = part-now;
        commands = (others-no-command, so.commands);
        old = old-now.runs;
        shown = sent-shown;
        old_shown = old-shown;
      }

    -- ---- all ticks

    none-yet : BothRun 0 [] []
    unfolding ticks_on
    none-yet = record {
      world = refl;
      many = refl;
      long = refl;
      part = record {
        fresh = b.fresh;
        spent = λ other apart. b.spent other;
        ticks = tt;
        within = omega arith;
        named = b.named;
        fits = b.fits;
        beside = inr (inl refl);
      };
      commands = tt;
      old = record { lane = inl (b.from, b.sent); beside = inl refl };
      shown = refl;
      old_shown = b.so_far;
    }

    pub both-run : (n : ℕ) → n ≤ limit → (ticks : List Pair) × (sent : List (List Drive)) × BothRun n ticks sent
    both-run zero early = ([], [], none-yet)
    both-run (suc n) early =
        let so = both-run n (omega (arith, early)) in (
          shown w.plan.faults ((drives so.0 ∷ so.1) ++ now.driven) ∷ so.0,
          drives so.0 ∷ so.1,
          both-more n so.0 so.1 (omega (arith, early)) so.2,
        )
