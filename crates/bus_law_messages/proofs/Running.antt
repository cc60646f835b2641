-- The world while one station sends words, and the quiet ticks after them, whatever makes the stations do so.
use Rattle.std.proofs.Common.{◌≡◌, ◌≢◌, inl, inr, ℕ, zero, suc, ◌+◌, ◌*◌, ◌<◌, ◌≤◌, Bool, false, List, [], ◌∷◌, ◌++◌, length, Option, Some, None, refl, sym, ap, ◌∙◌, subst, arith}
use Rattle.std.proofs.lemmas.Bool.{cases_eq}
use Rattle.std.specs.Prelude.{slice_get, ◌==◌, ◌/◌, ◌%◌}
use Rattle.bus_base.specs.Samples.{sample_on, other_of}
use Rattle.bus_base.specs.declared.samples.Channel.{Channel}
use Rattle.bus_base.specs.declared.samples.Channel.TheVariants.{A, B}
use Rattle.bus_base.specs.declared.samples.Drive.{Drive}
use Rattle.bus_base.specs.declared.samples.Drive.TheVariants.{Silent}
use Rattle.bus_base.specs.declared.samples.Pair.{Pair}
use Rattle.bus_base.specs.declared.samples.Part.{Part}
use Rattle.bus_base.specs.declared.samples.Sample.{Sample}
use Rattle.bus_base.specs.declared.samples.Sample.TheVariants.{Quiet}
use Rattle.bus_words.specs.declared.word.Word.{Word}
use Rattle.bus_line.specs.Past.{InLeg, quiet_ticks}
use Rattle.bus_line.specs.Channels.{on_channel}
use Rattle.bus_formats.specs.Plans.{PlanData}
use Rattle.bus_formats.specs.declared.fault.Fault.{Fault}
use Rattle.bus_formats.specs.declared.fault.Hit.{Hit}
use Rattle.bus_model.specs.Memory.{TimedLoad}
use Rattle.bus_model.specs.Sending.{drive_word, drive_sample}
use Rattle.bus_model.specs.Strikes.{added_by}
use Rattle.bus_model.specs.Transmissions.{drives_on, drive_or, station_drive, newest_drives}
use Rattle.bus_model.specs.Control.{OutsideTake}
use Rattle.bus_model.specs.Wire.{samples_on, shown}
use Rattle.bus_model.specs.World.{Trace, drives_after, next_tick, ticks_on}
use Rattle.bus_law_line.specs.Shown.{struck_of, struck_spelling, shown_of}
use Rattle.bus_law_line.specs.Senders.{Sender, AreHeard, IsSpent, drives_command, IsUndriven, LeftAlone, SendsAlone, SentAlone}
use Rattle.bus_law_line.proofs.Sent.{one-sample, all-spent, left-undriven, left-spent, drives-nothing}
use Rattle.bus_law_line.proofs.WordSlots.{leg-sent}
use Rattle.bus_law_messages.specs.Commands.{LeavesWhole, WordsSent, WordsEnd}

-- ---- what a tick shows

shown-pair : (faults : List Fault) (c : Channel) (driven : List (List Drive)) →
    sample_on (shown faults driven) c ≡ shown_of (samples_on faults c driven)
shown-pair faults A driven = refl
shown-pair faults B driven = refl

none-shown : (samples : List Sample) → length samples ≡ 0 → shown_of samples ≡ Quiet
none-shown [] none = refl
none-shown (x ∷ samples) none = absurd (omega (arith, none))

-- a tick in which nobody drives a channel is quiet
pub quiet-pair : (faults : List Fault) (d : Channel) (before silent : List (List Drive)) (now : List Drive) → LeftAlone faults d before (now ∷ silent) →
    sample_on (shown faults ((now ∷ silent) ++ before)) d ≡ Quiet
quiet-pair faults d before silent now left =
    shown-pair faults d ((now ∷ silent) ++ before)
    ∙ none-shown (samples_on faults d ((now ∷ silent) ++ before)) (left-undriven faults d before silent now left)

-- the other channel isn't driven by what is sent on one
other-word : (c : Channel) (part : Part) (last : Bool) (position : ℕ) (o : Option Word) → drives_on (other_of c) (drive_word c part last position o) ≡ false
other-word c part last position None = refl
other-word A part last position (Some word) = refl
other-word B part last position (Some word) = refl

other-undriven : (c : Channel) (part : Part) (words : List Word) (i : ℕ) → drives_on (other_of c) (drive_sample c part words i) ≡ false
other-undriven c part words i = other-word c part (suc i == 40 * length words) (i % 40) (slice_get words (i / 40))

-- what began isn't over
leg-of : (k : ℕ) (hits : List Hit) (words : List Word) (n : ℕ) → AreHeard hits words → n ≤ 40 * length words → InLeg k (struck_spelling hits words n)
leg-of k hits words zero heard within = tt
leg-of k hits words (suc n) heard within = leg-sent k hits words (suc n) 0 heard (omega arith) within (omega arith)

-- after the words no extra is left
spent-after : (faults : List Fault) (s : Sender) (hits : List Hit) (before sent : List (List Drive)) → SentAlone faults s hits before sent →
    added_by hits ≡ 0 → 0 < length sent → (station : ℕ) → IsSpent faults s.channel (sent ++ before) station
spent-after faults s hits before [] alone none some station = absurd (omega (arith, some))
spent-after faults s hits before (now ∷ sent) alone none some station = all-spent faults s hits before sent now alone none station

by-channel : (P : Channel → Type 0) (c : Channel) → P c → P (other_of c) → (d : Channel) → P d
by-channel P A this other A = this
by-channel P A this other B = other
by-channel P B this other A = other
by-channel P B this other B = this

-- in these ticks a burst runs on a channel, and the other one is quiet
abbrev pub RunsAlone : ℕ → Channel → List Pair → Type 0
RunsAlone k c ticks = InLeg k (on_channel c ticks) × (on_channel (other_of c) ticks ≡ quiet_ticks (length ticks))

module _ (k : ℕ) (plan : PlanData) (loads : List TimedLoad) (outside : List OutsideTake) (absent : List ℕ) (before : Trace) (s : Sender) (hits : List Hit)
    (limit : ℕ) (undriven : (c : Channel) (station : ℕ) → drives_on c (station_drive station (newest_drives before.driven)) ≡ false)
    (spent : (c : Channel) (station : ℕ) → IsSpent plan.faults c before.driven station)
    (whole : LeavesWhole plan.faults s.part before.driven hits s.words)
    (own : (ticks : List Pair) → RunsAlone k s.channel ticks → length ticks < limit →
    slice_get (drives_after k plan loads outside absent (ticks ++ before.shown)) s.station ≡ Some (drive_sample s.channel s.part s.words (length ticks)))
    (others : (ticks : List Pair) → RunsAlone k s.channel ticks → length ticks < limit → (other : ℕ) → other ≢ s.station →
    station_drive other (drives_after k plan loads outside absent (ticks ++ before.shown)) ≡ Silent) where
  abbrev c : Channel
  c = s.channel

  abbrev Sent : ℕ → List Pair → List (List Drive) → Type 0
  Sent n ticks sent = WordsSent k plan loads outside absent before s hits n ticks sent

  abbrev Ends : ℕ → ℕ → List Pair → List (List Drive) → List (List Drive) → Type 0
  Ends n j ticks sent silent = WordsEnd k plan loads outside absent before s hits n j ticks sent silent

  abbrev now : List Pair → List Drive
  now ticks = drives_after k plan loads outside absent (ticks ++ before.shown)

  -- ---- while it sends

  sent-runs : (n : ℕ) (ticks : List Pair) (sent : List (List Drive)) → n ≤ 40 * length s.words → Sent n ticks sent → RunsAlone k c ticks
  sent-runs n ticks sent within so =
      (subst (λ xs. InLeg k xs) (sym so.shown) (leg-of k hits s.words n whole.heard within), so.quiet ∙ ap quiet_ticks (sym so.many))

  own-next : (n : ℕ) (ticks : List Pair) (sent : List (List Drive)) → n < limit → n ≤ 40 * length s.words → Sent n ticks sent →
      slice_get (now ticks) s.station ≡ Some (drive_sample c s.part s.words n)
  own-next n ticks sent early within so =
      own ticks (sent-runs n ticks sent within so) (omega (arith, early, so.many)) ∙ ap (λ i. Some (drive_sample c s.part s.words i)) so.many

  others-next : (n : ℕ) (ticks : List Pair) (sent : List (List Drive)) → n < limit → n ≤ 40 * length s.words → Sent n ticks sent →
      (other : ℕ) → other ≢ s.station → station_drive other (now ticks) ≡ Silent
  others-next n ticks sent early within so = others ticks (sent-runs n ticks sent within so) (omega (arith, early, so.many))

  sends-next : (n : ℕ) (ticks : List Pair) (sent : List (List Drive)) → n < limit → n ≤ 40 * length s.words → Sent n ticks sent →
      SendsAlone s (length sent) (now ticks)
  sends-next n ticks sent early within so = record {
    own = own-next n ticks sent early within so ∙ ap (λ i. Some (drive_sample c s.part s.words i)) (sym so.long);
    alone = λ other apart. ap (drives_on c) (others-next n ticks sent early within so other apart);
    counted = λ first other apart. ap drives_command (others-next n ticks sent early within so other apart);
  }

  undriven-next : (n : ℕ) (ticks : List Pair) (sent : List (List Drive)) → n < limit → n ≤ 40 * length s.words → Sent n ticks sent →
      IsUndriven (other_of c) (now ticks)
  undriven-next n ticks sent early within so station = elim (cases_eq station s.station) [
    | inl same ↦ ap (λ i. drives_on (other_of c) (station_drive i (now ticks))) same
        ∙ ap (λ o. drives_on (other_of c) (drive_or o)) (own-next n ticks sent early within so)
        ∙ other-undriven c s.part s.words n
    | inr apart ↦ ap (drives_on (other_of c)) (others-next n ticks sent early within so station apart)
  ]

  -- one tick more
  sent-more : (n : ℕ) (ticks : List Pair) (sent : List (List Drive)) → n < limit → suc n ≤ 40 * length s.words → Sent n ticks sent →
      Sent (suc n) (shown plan.faults ((now ticks ∷ sent) ++ before.driven) ∷ ticks) (now ticks ∷ sent)
  unfolding ticks_on
  sent-more n ticks sent early within so =
      let driven = (now ticks ∷ sent) ++ before.driven in
      let alone : SentAlone plan.faults s hits before.driven (now ticks ∷ sent) = record {
        fresh = undriven c s.station;
        spent = λ other apart. spent c other;
        ticks = (sends-next n ticks sent early (omega (arith, within)) so, so.alone.ticks);
        within = omega (arith, within, so.long);
        named = whole.named;
        uncut = λ i low. whole.uncut i (omega (arith, low, within, so.long));
      } in
      let beside : LeftAlone plan.faults (other_of c) before.driven (now ticks ∷ sent) = record {
        undriven = (undriven-next n ticks sent early (omega (arith, within)) so, so.beside.undriven);
        spent = spent (other_of c);
      } in
      record {
        world = ap (next_tick k plan loads outside absent) so.world;
        many = ap suc so.many;
        long = ap suc so.long;
        alone = alone;
        beside = beside;
        shown = ap (λ x. x ∷ on_channel c ticks) (shown-pair plan.faults c driven
            ∙ ap shown_of (one-sample plan.faults s hits before.driven sent (now ticks) alone)
            ∙ ap (struck_of hits s.words) so.long)
            ∙ ap (λ xs. struck_of hits s.words n ∷ xs) so.shown;
        quiet = ap (λ x. x ∷ on_channel (other_of c) ticks) (quiet-pair plan.faults (other_of c) before.driven sent (now ticks) beside)
            ∙ ap (λ xs. Quiet ∷ xs) so.quiet;
      }

  none-yet : Sent 0 [] []
  unfolding ticks_on
  none-yet = record {
    world = refl;
    many = refl;
    long = refl;
    alone = record {
      fresh = undriven c s.station;
      spent = λ other apart. spent c other;
      ticks = tt;
      within = omega arith;
      named = whole.named;
      uncut = λ i low. whole.uncut i (omega (arith, low));
    };
    beside = record { undriven = tt; spent = spent (other_of c) };
    shown = refl;
    quiet = refl;
  }

  pub words-sent : (n : ℕ) → n ≤ limit → n ≤ 40 * length s.words → (ticks : List Pair) × (sent : List (List Drive)) × Sent n ticks sent
  words-sent zero early within = ([], [], none-yet)
  words-sent (suc n) early within =
      let so = words-sent n (omega (arith, early)) (omega (arith, within)) in (
        shown plan.faults ((now so.0 ∷ so.1) ++ before.driven) ∷ so.0,
        now so.0 ∷ so.1,
        sent-more n so.0 so.1 (omega (arith, early)) within so.2,
      )

  -- ---- the quiet ticks after it

  module _ (some : 0 < length s.words) (added : added_by hits ≡ 0) where
    pub ends-runs : (n j : ℕ) (ticks : List Pair) (sent silent : List (List Drive)) → j ≤ k → Ends n j ticks sent silent → RunsAlone k c ticks
    ends-runs n j ticks sent silent few so = (
      subst (λ xs. InLeg k xs) (sym so.shown) (leg-sent k hits s.words (40 * length s.words) j whole.heard (omega (arith, some)) (omega arith) few),
      so.quiet ∙ ap quiet_ticks (sym so.many),
    )

    all-silent : (n j : ℕ) (ticks : List Pair) (sent silent : List (List Drive)) → n < limit → 40 * length s.words ≤ n → j ≤ k →
        Ends n j ticks sent silent → (station : ℕ) → station_drive station (now ticks) ≡ Silent
    all-silent n j ticks sent silent early past few so station =
        let runs = ends-runs n j ticks sent silent few so in
        elim (cases_eq station s.station) [
          | inl same ↦ ap (λ i. station_drive i (now ticks)) same
              ∙ ap drive_or (own ticks runs (omega (arith, early, so.many)))
              ∙ drives-nothing c s.part s.words (length ticks) (omega (arith, past, so.many))
          | inr apart ↦ others ticks runs (omega (arith, early, so.many)) station apart
        ]

    -- one quiet tick more
    quiet-more : (n j : ℕ) (ticks : List Pair) (sent silent : List (List Drive)) → n < limit → 40 * length s.words ≤ n → j ≤ k →
        Ends n j ticks sent silent →
        Ends (suc n) (suc j) (shown plan.faults ((now ticks ∷ silent) ++ (sent ++ before.driven)) ∷ ticks) sent (now ticks ∷ silent)
    unfolding ticks_on
    quiet-more n j ticks sent silent early past few so =
        let none = all-silent n j ticks sent silent early past few so in
        let left : (d : Channel) → LeftAlone plan.faults d (sent ++ before.driven) (now ticks ∷ silent) =
        λ d. record { undriven = (λ station. ap (drives_on d) (none station), (so.left d).undriven); spent = (so.left d).spent } in
        record {
          world = ap (next_tick k plan loads outside absent) so.world;
          many = ap suc so.many;
          after = ap suc so.after;
          alone = so.alone;
          long = so.long;
          left = left;
          shown = ap (λ x. x ∷ on_channel c ticks) (quiet-pair plan.faults c (sent ++ before.driven) silent (now ticks) (left c))
              ∙ ap (λ xs. Quiet ∷ xs) so.shown;
          quiet = ap (λ x. x ∷ on_channel (other_of c) ticks)
              (quiet-pair plan.faults (other_of c) (sent ++ before.driven) silent (now ticks) (left (other_of c)))
              ∙ ap (λ xs. Quiet ∷ xs) so.quiet;
        }

    -- the words were sent whole
    sent-whole : (n : ℕ) (ticks : List Pair) (sent : List (List Drive)) → n ≡ 40 * length s.words → Sent n ticks sent → Ends n 0 ticks sent []
    sent-whole n ticks sent all so = record {
      world = so.world;
      many = so.many;
      after = refl;
      alone = so.alone;
      long = so.long ∙ all;
      left = λ d. record {
        undriven = tt;
        spent = by-channel (λ e. (station : ℕ) → IsSpent plan.faults e (sent ++ before.driven) station) c
            (spent-after plan.faults s hits before.driven sent so.alone added (omega (arith, so.long, all, some)))
            (left-spent plan.faults (other_of c) before.driven sent so.beside) d;
      };
      shown = so.shown ∙ ap (struck_spelling hits s.words) all;
      quiet = so.quiet;
    }

    then-quiet : (n j : ℕ) (ticks : List Pair) (sent : List (List Drive)) → n ≡ 40 * length s.words → Sent n ticks sent → j ≤ suc k → n + j ≤ limit →
        (m : ℕ) × (m ≡ n + j) × (later : List Pair) × (silent : List (List Drive)) × Ends m j later sent silent
    then-quiet n zero ticks sent all so few early = (n, omega arith, ticks, [], sent-whole n ticks sent all so)
    then-quiet n (suc j) ticks sent all so few early =
        let q = then-quiet n j ticks sent all so (omega (arith, few)) (omega (arith, early)) in (
          suc q.0,
          omega (arith, q.1),
          shown plan.faults ((now q.2 ∷ q.3) ++ (sent ++ before.driven)) ∷ q.2,
          now q.2 ∷ q.3,
          quiet-more q.0 j q.2 sent q.3 (omega (arith, early, q.1)) (omega (arith, q.1, all)) (omega (arith, few)) q.4,
        )

    -- to the tick in which their end is known, the last of these
    pub words-over : 40 * length s.words + suc k ≤ limit →
        (x : Pair) × (ticks : List Pair) × (sent : List (List Drive)) × (silent : List (List Drive))
        × Ends (40 * length s.words + suc k) (suc k) (x ∷ ticks) sent silent × RunsAlone k c ticks
    words-over early =
        let so = words-sent (40 * length s.words) (omega (arith, early)) (omega arith) in
        let q = then-quiet (40 * length s.words) k so.0 so.1 refl so.2 (omega arith) (omega (arith, early)) in
        let x = shown plan.faults ((now q.2 ∷ q.3) ++ (so.1 ++ before.driven)) in
        let more = quiet-more q.0 k q.2 so.1 q.3 (omega (arith, early, q.1)) (omega (arith, q.1)) (omega arith) q.4 in
        let count : suc q.0 ≡ 40 * length s.words + suc k = omega (arith, q.1) in (
          x,
          q.2,
          so.1,
          now q.2 ∷ q.3,
          subst (λ n. Ends n (suc k) (x ∷ q.2) so.1 (now q.2 ∷ q.3)) count more,
          ends-runs q.0 k q.2 so.1 q.3 (omega arith) q.4,
        )
