-- A part of which nothing is shown: its station drives, and both channels are quiet.
use Rattle.std.proofs.Common.{◌≡◌, ◌≢◌, inl, inr, ℕ, zero, suc, ◌+◌, ◌*◌, ◌-◌, ◌<◌, ◌≤◌, Bool, false, List, [], ◌∷◌, ◌++◌, length, Option, Some, None, refl, sym, ap, ◌∙◌, subst, arith, length-append}
use Rattle.std.proofs.lemmas.Bool.{cases_eq}
use Rattle.std.proofs.lemmas.Bool.Decides.{nat_tests}
use Rattle.std.specs.Prelude.{◌/◌, ◌%◌, ◌==◌, nat_lt, take, replicate, slice_get, count_by}
use Rattle.bus_base.specs.Samples.{quiet_pair, quiet_pairs, sample_on, other_of}
use Rattle.bus_base.specs.declared.samples.Channel.{Channel}
use Rattle.bus_base.specs.declared.samples.Channel.TheVariants.{A, B}
use Rattle.bus_base.specs.declared.samples.Drive.{Drive}
use Rattle.bus_base.specs.declared.samples.Drive.TheVariants.{Silent}
use Rattle.bus_base.specs.declared.samples.Part.{Part}
use Rattle.bus_base.specs.declared.samples.Part.TheVariants.{Command}
use Rattle.bus_base.specs.declared.samples.Sample.TheVariants.{Quiet}
use Rattle.bus_words.specs.declared.word.Word.{Word}
use Rattle.bus_formats.specs.Forms.{data_word}
use Rattle.bus_formats.specs.declared.fault.Fault.{Fault}
use Rattle.bus_formats.specs.declared.fault.Hit.{Hit}
use Rattle.bus_model.specs.Sending.{drive_word, drive_sample}
use Rattle.bus_model.specs.Strikes.{hits_on, added_by, own_struck, most_words, struck}
use Rattle.bus_model.specs.Transmissions.{drives_on, drive_or, station_drive, is_command, transmissions}
use Rattle.bus_model.specs.Wire.{samples_on, shown, drivers}
use Rattle.bus_model.specs.World.{Trace, drives_after, next_tick, ticks_on}
use Rattle.bus_law_line.specs.Senders.{IsSpent, LeftAlone, IsUndriven, Sender, SendsAlone, attempt_to_come, drives_command}
use Rattle.bus_law_line.specs.Shown.{shown_of}
use Rattle.bus_law_line.proofs.Sent.{left-undriven, left-spent}
use Rattle.bus_law_messages.proofs.Listening.{this-or-other}
use Rattle.bus_law_messages.proofs.Running.{quiet-pair}
use Rattle.bus_law_parts.specs.Parts.{part_ticks, part_sample, HitsFit, IsFresh, SentPart, CommandsAlone}
use Rattle.bus_law_parts.proofs.Counting.{count-answer}
use Rattle.bus_law_parts.proofs.Leavings.{fresh-silent, spent-part, fresh-part}
use Rattle.bus_law_parts.proofs.SentParts.{part-shown-now, part-drivers}
use Rattle.bus_law_phases.specs.Scenarios.{Scenario}
use Rattle.bus_law_phases.proofs.Silence.{quiet-shown}

-- ---- what is shown of it

-- a part of which no word is left is quiet
own-none : (hits : List Hit) (words : List Word) → part_ticks hits words ≡ 0 → length (own_struck hits words) ≡ 0
own-none hits words mute =
    let own = own_struck hits words in
    let long : length (struck hits words) ≡ length (own_struck hits words)
    + length (take (most_words - length (own_struck hits words)) (replicate (added_by hits) (Some (data_word 0)))) =
    length-append own (take (most_words - length own) (replicate (added_by hits) (Some (data_word 0)))) in
    omega (arith, long, mute)

mute-sample : (hits : List Hit) (words : List Word) (i : ℕ) → part_ticks hits words ≡ 0 → part_sample hits words i ≡ Quiet
mute-sample hits words i mute =
    let none = own-none hits words mute in
    let first : nat_lt i (40 * length (own_struck hits words)) ≡ false = grind (arith, nat_tests, none) in
    let second : nat_lt i (part_ticks hits words) ≡ false = grind (arith, nat_tests, mute) in
    rw (first, second) refl

-- ---- drives

other-word : (c : Channel) (part : Part) (last : Bool) (position : ℕ) (o : Option Word) → drives_on (other_of c) (drive_word c part last position o) ≡ false
other-word A part last position None = refl
other-word A part last position (Some word) = refl
other-word B part last position None = refl
other-word B part last position (Some word) = refl

other-undriven : (c : Channel) (part : Part) (words : List Word) (i : ℕ) → drives_on (other_of c) (drive_sample c part words i) ≡ false
other-undriven c part words i = other-word c part (suc i == 40 * length words) (i % 40) (slice_get words (i / 40))

quiet-on-both : (faults : List Fault) (c : Channel) (driven : List (List Drive)) → sample_on (shown faults driven) c ≡ Quiet →
    sample_on (shown faults driven) (other_of c) ≡ Quiet → shown faults driven ≡ quiet_pair
quiet-on-both faults A driven own other = quiet-shown faults driven own other
quiet-on-both faults B driven own other = quiet-shown faults driven other own

shown-pair : (faults : List Fault) (c : Channel) (driven : List (List Drive)) → sample_on (shown faults driven) c ≡ shown_of (samples_on faults c driven)
shown-pair faults A driven = refl
shown-pair faults B driven = refl

-- n ticks of it, after those before
pub record MuteTicks (w : Scenario) (before : Trace) (s : Sender) (hits : List Hit) (n : ℕ) : Type 0 where
  pub driven : List (List Drive)
  pub many : length driven ≡ n
  pub world : ticks_on w.lag w.plan w.loads w.outside w.absent before n
      ≡ record { shown = quiet_pairs n ++ before.shown; driven = driven ++ before.driven }
  pub part : SentPart w.plan.faults s hits before.driven driven
  pub beside : LeftAlone w.plan.faults (other_of s.channel) before.driven driven
  pub commands : CommandsAlone s driven

module _ (w : Scenario) (before : Trace) (s : Sender) (hits : List Hit) (limit : ℕ) (fresh : IsFresh w.plan.faults s.channel before.driven s.station)
    (spent : (d : Channel) (station : ℕ) → IsSpent w.plan.faults d before.driven station)
    (named : hits_on w.plan.faults (attempt_to_come w.plan.faults s.part before.driven) s.part ≡ hits) (fits : HitsFit s.part hits s.words)
    (mute : part_ticks hits s.words ≡ 0) (bound : limit ≤ 4)
    (own : (n : ℕ) → n < limit → slice_get (drives_after w.lag w.plan w.loads w.outside w.absent (quiet_pairs n ++ before.shown)) s.station
    ≡ Some (drive_sample s.channel s.part s.words n))
    (others : (n : ℕ) → n < limit → (other : ℕ) → other ≢ s.station →
    station_drive other (drives_after w.lag w.plan w.loads w.outside w.absent (quiet_pairs n ++ before.shown)) ≡ Silent) where
  abbrev c : Channel
  c = s.channel

  abbrev now : ℕ → List Drive
  now n = drives_after w.lag w.plan w.loads w.outside w.absent (quiet_pairs n ++ before.shown)

  none-yet : MuteTicks w before s hits 0
  unfolding ticks_on
  none-yet = record {
    driven = [];
    many = refl;
    world = refl;
    part = record {
      fresh = fresh;
      spent = λ other apart. spent c other;
      ticks = tt;
      within = omega arith;
      named = named;
      fits = fits;
      beside = inl (omega arith);
    };
    beside = record { undriven = tt; spent = spent (other_of c) };
    commands = tt;
  }

  undriven-next : (n : ℕ) → n < limit → IsUndriven (other_of c) (now n)
  undriven-next n early station = elim (cases_eq station s.station) [
    | inl same ↦ ap (λ i. drives_on (other_of c) (station_drive i (now n))) same
        ∙ ap (λ o. drives_on (other_of c) (drive_or o)) (own n early)
        ∙ other-undriven c s.part s.words n
    | inr apart ↦ ap (drives_on (other_of c)) (others n early station apart)
  ]

  sends-next : (n : ℕ) → n < limit → (i : ℕ) → n ≡ i → SendsAlone s i (now n)
  sends-next n early i same = record {
    own = own n early ∙ ap (λ j. Some (drive_sample c s.part s.words j)) same;
    alone = λ other apart. ap (drives_on c) (others n early other apart);
    counted = λ first other apart. ap drives_command (others n early other apart);
  }

  one-more : (n : ℕ) → n < limit → MuteTicks w before s hits n → MuteTicks w before s hits (suc n)
  unfolding ticks_on
  one-more n early so =
      let many = so.many in
      let driven = (now n ∷ so.driven) ++ before.driven in
      let beside : LeftAlone w.plan.faults (other_of c) before.driven (now n ∷ so.driven) = record {
        undriven = (undriven-next n early, so.beside.undriven);
        spent = spent (other_of c);
      } in
      let part : SentPart w.plan.faults s hits before.driven (now n ∷ so.driven) = record {
        fresh = fresh;
        spent = λ other apart. spent c other;
        ticks = (sends-next n early (length so.driven) (sym many), so.part.ticks);
        within = omega (arith, early, bound, many);
        named = named;
        fits = fits;
        beside = inr (inr (inr beside.undriven));
      } in
      let shows : shown w.plan.faults ((now n ∷ so.driven) ++ before.driven) ≡ quiet_pair =
      quiet-on-both w.plan.faults c driven
      (shown-pair w.plan.faults c driven ∙ part-shown-now w.plan.faults s hits before.driven so.driven (now n) part
      ∙ mute-sample hits s.words (length so.driven) mute)
      (quiet-pair w.plan.faults (other_of c) before.driven so.driven (now n) beside) in
      record {
        driven = now n ∷ so.driven;
        many = ap suc many;
        world = ap (next_tick w.lag w.plan w.loads w.outside w.absent) so.world
            ∙ ap (λ x. record { shown = x ∷ (quiet_pairs n ++ before.shown); driven = (now n ∷ so.driven) ++ before.driven }) shows;
        part = part;
        beside = beside;
        commands = (λ other apart. ap drives_command (others n early other apart), so.commands);
      }

  pub mute-ticks : (n : ℕ) → n ≤ limit → MuteTicks w before s hits n
  mute-ticks zero early = none-yet
  mute-ticks (suc n) early = one-more n (omega (arith, early)) (mute-ticks n (omega (arith, early)))

-- ---- what they leave

module _ (w : Scenario) (before : Trace) (s : Sender) (hits : List Hit) (answer : s.part ≢ Command) where
  -- no command is counted
  pub mute-counts : (n : ℕ) (so : MuteTicks w before s hits n) →
      count_by is_command (transmissions w.plan.faults (so.driven ++ before.driven)) ≡ count_by is_command (transmissions w.plan.faults before.driven)
  mute-counts n so = count-answer w.plan.faults s before.driven so.driven so.part.ticks answer so.commands

  -- at most one station drives a channel
  pub mute-drivers : (n : ℕ) (so : MuteTicks w before s hits (suc n)) (d : Channel) → drivers w.plan.faults d (so.driven ++ before.driven) ≤ 1
  mute-drivers n so d = mute-drivers-by so.driven so.part so.beside so.many d
    where
      mute-drivers-by : (driven : List (List Drive)) → SentPart w.plan.faults s hits before.driven driven →
          LeftAlone w.plan.faults (other_of s.channel) before.driven driven → length driven ≡ suc n → (d : Channel) →
          drivers w.plan.faults d (driven ++ before.driven) ≤ 1
      mute-drivers-by [] part beside many d = absurd (omega (arith, many))
      mute-drivers-by (now ∷ sent) part beside many d = elim (this-or-other s.channel d) [
        | inl same ↦ subst (λ a. drivers w.plan.faults a ((now ∷ sent) ++ before.driven) ≤ 1) (sym same)
            (part-drivers w.plan.faults s hits before.driven sent now part)
        | inr other ↦ subst (λ a. drivers w.plan.faults a ((now ∷ sent) ++ before.driven) ≤ 1) (sym other)
            (let none = left-undriven w.plan.faults (other_of s.channel) before.driven sent now beside in omega (arith, none))
      ]

  -- nothing is left of it after four ticks
  pub mute-spent : (n : ℕ) (so : MuteTicks w before s hits (suc n)) → part_ticks hits s.words ≡ 0 → (d : Channel) (station : ℕ) →
      IsSpent w.plan.faults d (so.driven ++ before.driven) station
  mute-spent n so mute d station = spent-by so.driven so.part so.beside so.many d station
    where
      spent-by : (driven : List (List Drive)) → SentPart w.plan.faults s hits before.driven driven →
          LeftAlone w.plan.faults (other_of s.channel) before.driven driven → length driven ≡ suc n → (d : Channel) (station : ℕ) →
          IsSpent w.plan.faults d (driven ++ before.driven) station
      spent-by [] part beside many d station = absurd (omega (arith, many))
      spent-by (now ∷ sent) part beside many d station = elim (this-or-other s.channel d) [
        | inl same ↦ subst (λ a. IsSpent w.plan.faults a ((now ∷ sent) ++ before.driven) station) (sym same)
            (spent-part w.plan.faults s hits before.driven sent now part (omega (arith, mute)) station)
        | inr other ↦ subst (λ a. IsSpent w.plan.faults a ((now ∷ sent) ++ before.driven) station) (sym other)
            (left-spent w.plan.faults (other_of s.channel) before.driven (now ∷ sent) beside station)
      ]

  pub mute-fresh : (n : ℕ) (so : MuteTicks w before s hits (suc n)) → n ≡ 3 → part_ticks hits s.words ≡ 0 → (d : Channel) (station : ℕ) →
      IsFresh w.plan.faults d (so.driven ++ before.driven) station
  mute-fresh n so last mute d station = fresh-by so.driven so.part so.beside so.many d station
    where
      fresh-by : (driven : List (List Drive)) → SentPart w.plan.faults s hits before.driven driven →
          LeftAlone w.plan.faults (other_of s.channel) before.driven driven → length driven ≡ suc n → (d : Channel) (station : ℕ) →
          IsFresh w.plan.faults d (driven ++ before.driven) station
      fresh-by [] part beside many d station = absurd (omega (arith, many))
      fresh-by (now ∷ sent) part beside many d station = elim (this-or-other s.channel d) [
        | inl same ↦ subst (λ a. IsFresh w.plan.faults a ((now ∷ sent) ++ before.driven) station) (sym same)
            (fresh-part w.plan.faults s hits before.driven sent now part (omega (arith, mute, many, last)) station)
        | inr other ↦ subst (λ a. IsFresh w.plan.faults a ((now ∷ sent) ++ before.driven) station) (sym other)
            (fresh-silent w.plan.faults (other_of s.channel) (sent ++ before.driven) now station (beside.undriven.0 station))
      ]
