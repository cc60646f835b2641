-- A part of a message is sent tick by tick, where what each station does may depend on what was shown of it.
use Rattle.std.proofs.Common.{◌≡◌, ◌≢◌, inl, inr, ℕ, zero, suc, ◌+◌, ◌*◌, ◌<◌, ◌≤◌, Bool, false, List, [], ◌∷◌, ◌++◌, length, Option, Some, None, refl, sym, ap, ◌∙◌, subst, arith}
use Rattle.std.proofs.lemmas.Bool.{cases_eq}
use Rattle.std.specs.Prelude.{slice_get, ◌==◌, ◌/◌, ◌%◌}
use Rattle.bus_base.specs.Samples.{sample_on, other_of}
use Rattle.bus_base.specs.declared.samples.Channel.{Channel}
use Rattle.bus_base.specs.declared.samples.Channel.TheVariants.{A, B}
use Rattle.bus_base.specs.declared.samples.Drive.{Drive}
use Rattle.bus_base.specs.declared.samples.Drive.TheVariants.{Silent}
use Rattle.bus_base.specs.declared.samples.Pair.{Pair}
use Rattle.bus_base.specs.declared.samples.Part.{Part}
use Rattle.bus_base.specs.declared.samples.Sample.TheVariants.{Quiet}
use Rattle.bus_words.specs.declared.word.Word.{Word}
use Rattle.bus_line.specs.Past.{InLeg, quiet_ticks}
use Rattle.bus_line.specs.Channels.{on_channel}
use Rattle.bus_formats.specs.declared.fault.Fault.{Fault}
use Rattle.bus_formats.specs.declared.fault.Hit.{Hit}
use Rattle.bus_model.specs.Sending.{drive_word, drive_sample}
use Rattle.bus_model.specs.Strikes.{hits_on}
use Rattle.bus_model.specs.Transmissions.{drives_on, drive_or, station_drive}
use Rattle.bus_model.specs.Wire.{samples_on, shown}
use Rattle.bus_model.specs.World.{Trace, drives_after, next_tick, ticks_on}
use Rattle.bus_law_line.specs.Shown.{first_samples, shown_of}
use Rattle.bus_law_line.specs.Senders.{Sender, IsSpent, IsUndriven, LeftAlone, SendsAlone, attempt_to_come, drives_command}
use Rattle.bus_law_messages.proofs.Running.{quiet-pair}
use Rattle.bus_law_parts.specs.Parts.{part_ticks, part_sample, HitsFit, IsFresh, SentPart}
use Rattle.bus_law_parts.proofs.PartBursts.{leg-part}
use Rattle.bus_law_parts.proofs.SentParts.{part-shown-now}
use Rattle.bus_law_phases.specs.Scenarios.{Scenario}
use Rattle.bus_law_phases.specs.PartRuns.{RunsAlone, IsFirstOf, PartRuns}

pub shown-pair : (faults : List Fault) (c : Channel) (driven : List (List Drive)) →
    sample_on (shown faults driven) c ≡ shown_of (samples_on faults c driven)
shown-pair faults A driven = refl
shown-pair faults B driven = refl

-- the other channel isn't driven by what is sent on one
other-word : (c : Channel) (part : Part) (last : Bool) (position : ℕ) (o : Option Word) → drives_on (other_of c) (drive_word c part last position o) ≡ false
other-word A part last position None = refl
other-word A part last position (Some word) = refl
other-word B part last position None = refl
other-word B part last position (Some word) = refl

pub other-undriven : (c : Channel) (part : Part) (words : List Word) (i : ℕ) → drives_on (other_of c) (drive_sample c part words i) ≡ false
other-undriven c part words i = other-word c part (suc i == 40 * length words) (i % 40) (slice_get words (i / 40))

-- what a channel shows of a tick more
pub on-more : (d : Channel) (x : Pair) (ticks : List Pair) → on_channel d (x ∷ ticks) ≡ sample_on x d ∷ on_channel d ticks
on-more A x ticks = refl
on-more B x ticks = refl

module _ (w : Scenario) (before : Trace) (s : Sender) (hits : List Hit) (limit : ℕ) (lag : w.lag ≡ 3)
    (fresh : IsFresh w.plan.faults s.channel before.driven s.station)
    (spent : (d : Channel) (station : ℕ) → IsSpent w.plan.faults d before.driven station)
    (named : hits_on w.plan.faults (attempt_to_come w.plan.faults s.part before.driven) s.part ≡ hits)
    (fits : HitsFit s.part hits s.words) (some : 0 < part_ticks hits s.words) (bound : limit ≤ part_ticks hits s.words + 4)
    (own : (ticks : List Pair) → IsFirstOf w.lag s.channel hits s.words ticks → length ticks < limit →
    slice_get (drives_after w.lag w.plan w.loads w.outside w.absent (ticks ++ before.shown)) s.station
    ≡ Some (drive_sample s.channel s.part s.words (length ticks)))
    (others : (ticks : List Pair) → IsFirstOf w.lag s.channel hits s.words ticks → length ticks < limit → (other : ℕ) → other ≢ s.station →
    station_drive other (drives_after w.lag w.plan w.loads w.outside w.absent (ticks ++ before.shown)) ≡ Silent) where
  abbrev c : Channel
  c = s.channel

  abbrev now : List Pair → List Drive
  now ticks = drives_after w.lag w.plan w.loads w.outside w.absent (ticks ++ before.shown)

  abbrev Runs : ℕ → List Pair → List (List Drive) → Type 0
  Runs n ticks sent = PartRuns w before s hits n ticks sent

  -- what is shown of it is a leg, to three ticks after its end
  pub runs-alone : (n : ℕ) (ticks : List Pair) (sent : List (List Drive)) → n < limit → Runs n ticks sent → RunsAlone w.lag c ticks
  runs-alone n ticks sent early so = record {
    leg = subst (λ xs. InLeg w.lag xs) (sym so.shown) (leg-part w.lag s.part hits s.words lag fits some n (omega (arith, early, bound, lag)));
    quiet = so.quiet ∙ ap quiet_ticks (sym so.many);
  }

  pub first-of : (n : ℕ) (ticks : List Pair) (sent : List (List Drive)) → n < limit → Runs n ticks sent → IsFirstOf w.lag c hits s.words ticks
  first-of n ticks sent early so = record {
    alone = runs-alone n ticks sent early so;
    shown = so.shown ∙ ap (first_samples (part_sample hits s.words)) (sym so.many);
  }

  own-next : (n : ℕ) (ticks : List Pair) (sent : List (List Drive)) → n < limit → Runs n ticks sent →
      slice_get (now ticks) s.station ≡ Some (drive_sample c s.part s.words n)
  own-next n ticks sent early so =
      own ticks (first-of n ticks sent early so) (omega (arith, early, so.many)) ∙ ap (λ i. Some (drive_sample c s.part s.words i)) so.many

  others-next : (n : ℕ) (ticks : List Pair) (sent : List (List Drive)) → n < limit → Runs n ticks sent → (other : ℕ) → other ≢ s.station →
      station_drive other (now ticks) ≡ Silent
  others-next n ticks sent early so = others ticks (first-of n ticks sent early so) (omega (arith, early, so.many))

  sends-next : (n : ℕ) (ticks : List Pair) (sent : List (List Drive)) → n < limit → Runs n ticks sent → SendsAlone s (length sent) (now ticks)
  sends-next n ticks sent early so = record {
    own = own-next n ticks sent early so ∙ ap (λ i. Some (drive_sample c s.part s.words i)) (sym so.long);
    alone = λ other apart. ap (drives_on c) (others-next n ticks sent early so other apart);
    counted = λ first other apart. ap drives_command (others-next n ticks sent early so other apart);
  }

  undriven-next : (n : ℕ) (ticks : List Pair) (sent : List (List Drive)) → n < limit → Runs n ticks sent → IsUndriven (other_of c) (now ticks)
  undriven-next n ticks sent early so station = elim (cases_eq station s.station) [
    | inl same ↦ ap (λ i. drives_on (other_of c) (station_drive i (now ticks))) same
        ∙ ap (λ o. drives_on (other_of c) (drive_or o)) (own-next n ticks sent early so)
        ∙ other-undriven c s.part s.words n
    | inr apart ↦ ap (drives_on (other_of c)) (others-next n ticks sent early so station apart)
  ]

  none-yet : Runs 0 [] []
  unfolding ticks_on
  none-yet = record {
    world = refl;
    many = refl;
    long = refl;
    part = record {
      fresh = fresh;
      spent = λ other apart. spent c other;
      ticks = tt;
      within = omega arith;
      named = named;
      fits = fits;
      beside = inl (omega arith);
    };
    beside = record { undriven = tt; spent = spent (other_of c) };
    commands = tt;
    shown = refl;
    quiet = refl;
  }

  pub one-more : (n : ℕ) (ticks : List Pair) (sent : List (List Drive)) → n < limit → Runs n ticks sent →
      Runs (suc n) (shown w.plan.faults ((now ticks ∷ sent) ++ before.driven) ∷ ticks) (now ticks ∷ sent)
  unfolding ticks_on
  one-more n ticks sent early so =
      let driven = (now ticks ∷ sent) ++ before.driven in
      let beside : LeftAlone w.plan.faults (other_of c) before.driven (now ticks ∷ sent) = record {
        undriven = (undriven-next n ticks sent early so, so.beside.undriven);
        spent = spent (other_of c);
      } in
      let part : SentPart w.plan.faults s hits before.driven (now ticks ∷ sent) = record {
        fresh = fresh;
        spent = λ other apart. spent c other;
        ticks = (sends-next n ticks sent early so, so.part.ticks);
        within = omega (arith, early, bound, so.long);
        named = named;
        fits = fits;
        beside = inr (inr (inr beside.undriven));
      } in
      record {
        world = ap (next_tick w.lag w.plan w.loads w.outside w.absent) so.world;
        many = ap suc so.many;
        long = ap suc so.long;
        part = part;
        beside = beside;
        commands = (λ other apart. ap drives_command (others-next n ticks sent early so other apart), so.commands);
        shown = on-more c (shown w.plan.faults driven) ticks
            ∙ ap (λ x. x ∷ on_channel c ticks) (shown-pair w.plan.faults c driven
            ∙ part-shown-now w.plan.faults s hits before.driven sent (now ticks) part
            ∙ ap (part_sample hits s.words) so.long)
            ∙ ap (λ xs. part_sample hits s.words n ∷ xs) so.shown;
        quiet = on-more (other_of c) (shown w.plan.faults driven) ticks
            ∙ ap (λ x. x ∷ on_channel (other_of c) ticks) (quiet-pair w.plan.faults (other_of c) before.driven sent (now ticks) beside)
            ∙ ap (λ xs. Quiet ∷ xs) so.quiet;
      }

  -- the first n ticks of the part
  pub part-runs : (n : ℕ) → n ≤ limit → (ticks : List Pair) × (sent : List (List Drive)) × Runs n ticks sent
  part-runs zero early = ([], [], none-yet)
  part-runs (suc n) early =
      let so = part-runs n (omega (arith, early)) in (
        shown w.plan.faults ((now so.0 ∷ so.1) ++ before.driven) ∷ so.0,
        now so.0 ∷ so.1,
        one-more n so.0 so.1 (omega (arith, early)) so.2,
      )
