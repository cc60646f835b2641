-- The channel of an answer beside which a command is sent on the other one: what it shows tick by tick, and that nothing is left.
use Rattle.std.proofs.Common.{◌≡◌, ◌≢◌, ◌⊎◌, inl, inr, ℕ, ◌+◌, ◌*◌, ◌<◌, ◌≤◌, Bool, true, false, List, [], ◌∷◌, ◌++◌, length, get_or, Some, refl, sym, ap, ◌∙◌, subst, arith, length-append}
use Rattle.std.proofs.lemmas.Bool.{cases_eq, cases_lt, lt-ltb, le-ltb}
use Rattle.std.specs.Prelude.{nat_lt, if◌then◌else◌, slice_get}
use Rattle.bus_base.specs.Samples.{other_of}
use Rattle.bus_base.specs.declared.samples.Drive.{Drive}
use Rattle.bus_base.specs.declared.samples.Drive.TheVariants.{Silent}
use Rattle.bus_base.specs.declared.samples.Part.TheVariants.{Command}
use Rattle.bus_base.specs.declared.samples.Sample.{Sample}
use Rattle.bus_base.specs.declared.samples.Sample.TheVariants.{Plus, Quiet}
use Rattle.bus_words.specs.declared.word.Word.{Word}
use Rattle.bus_formats.specs.declared.fault.Fault.{Fault}
use Rattle.bus_formats.specs.declared.fault.Hit.{Hit}
use Rattle.bus_model.specs.Sending.{drive_sample}
use Rattle.bus_model.specs.Strikes.{added_by}
use Rattle.bus_model.specs.Transmissions.{drives_on, drive_or, station_drive}
use Rattle.bus_model.specs.Wire.{samples_on, drivers}
use Rattle.bus_law_line.specs.Shown.{shown_of}
use Rattle.bus_law_line.specs.Senders.{Sender, SendsAlone, IsSpent, IsUndriven, LeftAlone}
use Rattle.bus_law_line.proofs.Sent.{left-spent, left-undriven, left-quiet}
use Rattle.bus_law_parts.specs.Parts.{SentPart, IsDriven, WasDriven, part_ticks, part_sample}
use Rattle.bus_law_parts.proofs.PartSlots.{no-sample}
use Rattle.bus_law_parts.proofs.SentParts.{part-shown-now, part-drivers}
use Rattle.bus_law_parts.proofs.Stops.{quiet-ended, undriven-ended, spent-ended, spent-beside}
use Rattle.bus_law_beside.specs.Beside.{broken_sample}

-- ---- a tick in which nobody drives the channel, and no extra is left

pub record QuietTick (faults : List Fault) (s : Sender) (driven : List (List Drive)) (now : List Drive) : Type 0 where
  pub shown : shown_of (samples_on faults s.channel (now ∷ driven)) ≡ Quiet
  pub alone : drivers faults s.channel (now ∷ driven) ≡ 0
  pub spent : (station : ℕ) → IsSpent faults s.channel (now ∷ driven) station

left-tick : (faults : List Fault) (s : Sender) (driven : List (List Drive)) (now : List Drive) →
    ((station : ℕ) → IsSpent faults s.channel driven station) → IsUndriven s.channel now → QuietTick faults s driven now
left-tick faults s driven now spent none =
    let left : LeftAlone faults s.channel driven (now ∷ []) = record { undriven = (none, tt); spent = spent } in record {
      shown = ap (λ xs. get_or xs 0 Plus) (left-quiet faults s.channel driven (now ∷ []) left);
      alone = left-undriven faults s.channel driven [] now left;
      spent = left-spent faults s.channel driven (now ∷ []) left;
    }

ended-tick : (faults : List Fault) (s : Sender) (hits : List Hit) (before sent : List (List Drive)) (last now : List Drive) →
    SentPart faults s hits before (last ∷ sent) → s.part ≢ Command → IsUndriven s.channel now → IsDriven (other_of s.channel) now →
    QuietTick faults s ((last ∷ sent) ++ before) now
ended-tick faults s hits before sent last now h answer none beside = record {
  shown = ap (λ xs. get_or xs 0 Plus) (quiet-ended faults s hits before sent last now h answer none beside);
  alone = undriven-ended faults s hits before sent last now h answer none beside;
  spent = spent-ended faults s hits before sent last now h answer none beside;
}

-- ---- the ticks

-- after the ticks `first` of an answer, of which there are some, these more come, while a command is sent on the other channel; it is sent for so many
-- ticks in all
pub record OldRuns (faults : List Fault) (s : Sender) (hits : List Hit) (before first more : List (List Drive)) (sends : ℕ) : Type 0 where
  -- it is sent so far, or it has stopped, with nothing left
  pub lane : ((length (more ++ first) ≤ sends) × SentPart faults s hits before (more ++ first))
      ⊎ ((sends < length (more ++ first)) × ((station : ℕ) → IsSpent faults s.channel ((more ++ first) ++ before) station))
  -- the other channel was driven in the first of these ticks
  pub beside : (more ≡ []) ⊎ WasDriven (other_of s.channel) (more ++ first)

-- one tick more, with what is shown in it
pub record OldTick (faults : List Fault) (s : Sender) (hits : List Hit) (before first more : List (List Drive)) (sends m : ℕ) (now : List Drive) : Type 0 where
  pub runs : OldRuns faults s hits before first (now ∷ more) sends
  pub shown : shown_of (samples_on faults s.channel ((now ∷ (more ++ first)) ++ before)) ≡ broken_sample hits s.words m (length (more ++ first))
  pub alone : drivers faults s.channel ((now ∷ (more ++ first)) ++ before) ≤ 1

-- what the stations drive in it
pub record DrivesOld (s : Sender) (i sends : ℕ) (now : List Drive) : Type 0 where
  pub own : slice_get now s.station ≡ Some (if nat_lt i sends then drive_sample s.channel s.part s.words i else Silent)
  pub alone : (other : ℕ) → other ≢ s.station → drives_on s.channel (station_drive other now) ≡ false

by-test : (b : Bool) (x y : Drive) → b ≡ true → (if b then x else y) ≡ x
by-test b x y on = rw on refl

by-not : (b : Bool) (x y : Drive) → b ≡ false → (if b then x else y) ≡ y
by-not b x y off = rw off refl

by-low : (b : Bool) (x y : Sample) → b ≡ true → (if b then x else y) ≡ x
by-low b x y on = rw on refl

by-high : (b : Bool) (x y : Sample) → b ≡ false → (if b then x else y) ≡ y
by-high b x y off = rw off refl

-- what is shown of it
pub broken-low : (hits : List Hit) (words : List Word) (m i : ℕ) → i < m → broken_sample hits words m i ≡ part_sample hits words i
broken-low hits words m i low = by-low (nat_lt i m) (part_sample hits words i) Quiet (lt-ltb i m low)

pub broken-high : (hits : List Hit) (words : List Word) (m i : ℕ) → m ≤ i → broken_sample hits words m i ≡ Quiet
broken-high hits words m i high = by-high (nat_lt i m) (part_sample hits words i) Quiet (le-ltb i m high)

module _ (faults : List Fault) (s : Sender) (hits : List Hit) (before first more : List (List Drive)) (sends m : ℕ) (now : List Drive)
    (answer : s.part ≢ Command) (some : 0 < length first) (shown : m ≤ sends) (bound : sends ≤ part_ticks hits s.words + 4)
    (unshown : (i : ℕ) → m ≤ i → i < sends → part_ticks hits s.words ≤ i)
    (own : length first < sends → (sends ≤ 40 * length s.words) ⊎ (added_by hits ≡ 0))
    (so : OldRuns faults s hits before first more sends) (drives : DrivesOld s (length (more ++ first)) sends now)
    (begins : more ≡ [] → IsDriven (other_of s.channel) now) where
  abbrev i : ℕ
  i = length (more ++ first)

  long : length (more ++ first) ≡ length more + length first
  long = length-append more first

  was-driven : (more ≡ []) ⊎ WasDriven (other_of s.channel) (more ++ first) → WasDriven (other_of s.channel) (now ∷ (more ++ first))
  was-driven (inl none) = inl (begins none)
  was-driven (inr was) = inr was

  beside-now : ((now ∷ more) ≡ []) ⊎ WasDriven (other_of s.channel) ((now ∷ more) ++ first)
  beside-now = inr (was-driven so.beside)

  pub stops-driving : sends ≤ length (more ++ first) → IsUndriven s.channel now
  stops-driving late station = elim (cases_eq station s.station) [
    | inl same ↦ ap (λ o. drives_on s.channel (station_drive o now)) same
        ∙ ap (λ o. drives_on s.channel (drive_or o)) (drives.own
        ∙ ap (λ d. Some d) (by-not (nat_lt (length (more ++ first)) sends) (drive_sample s.channel s.part s.words (length (more ++ first))) Silent
        (le-ltb (length (more ++ first)) sends late)))
    | inr apart ↦ drives.alone station apart
  ]

  quiet-now : sends ≤ length (more ++ first) → QuietTick faults s ((more ++ first) ++ before) now → OldTick faults s hits before first more sends m now
  quiet-now late tick = record {
    runs = record { lane = inr (omega (arith, late), tick.spent); beside = beside-now };
    shown = tick.shown ∙ sym (broken-high hits s.words m (length (more ++ first)) (omega (arith, late, shown)));
    alone = (let none = tick.alone in omega (arith, none));
  }

  -- it is sent in this tick too
  sends-on : length (more ++ first) < sends → SentPart faults s hits before (more ++ first) → OldTick faults s hits before first more sends m now
  sends-on low part =
      let alone : SendsAlone s (length (more ++ first)) now = record {
        own = drives.own ∙ ap (λ d. Some d) (by-test (nat_lt (length (more ++ first)) sends)
            (drive_sample s.channel s.part s.words (length (more ++ first))) Silent (lt-ltb (length (more ++ first)) sends low));
        alone = drives.alone;
        counted = λ none. absurd (omega (arith, none, long, some));
      } in
      let sent : SentPart faults s hits before (now ∷ (more ++ first)) = record {
        fresh = part.fresh;
        spent = part.spent;
        ticks = (alone, part.ticks);
        within = omega (arith, low, bound);
        named = part.named;
        fits = part.fits;
        beside = elim (own (omega (arith, low, long))) [
          | inl words ↦ inl (omega (arith, words, low))
          | inr none ↦ inr (inr (inl none))
        ];
      } in record {
        runs = record { lane = inl (omega (arith, low), sent); beside = beside-now };
        shown = part-shown-now faults s hits before (more ++ first) now sent ∙ elim (cases_lt (length (more ++ first)) m) [
          | inl early ↦ sym (broken-low hits s.words m (length (more ++ first)) early)
          | inr late ↦ no-sample hits s.words (length (more ++ first)) (unshown (length (more ++ first)) late low)
              ∙ sym (broken-high hits s.words m (length (more ++ first)) late)
        ];
        alone = part-drivers faults s hits before (more ++ first) now sent;
      }

  -- it stops with the first tick beside it, or with a later one
  stops-first : (first_is more_is : List (List Drive)) → first ≡ first_is → more ≡ more_is → sends ≤ length (more ++ first) →
      SentPart faults s hits before (more ++ first) → QuietTick faults s ((more ++ first) ++ before) now
  stops-first [] more_is is same late part = absurd (let none : length first ≡ 0 = ap (λ (xs : List (List Drive)). length xs) is in omega (arith, none, some))
  stops-first (last ∷ earlier) [] is same late part =
      let whole : more ++ first ≡ last ∷ earlier = ap (λ xs. xs ++ first) same ∙ is in
      subst (λ xs. QuietTick faults s (xs ++ before) now) (sym whole)
      (ended-tick faults s hits before earlier last now (subst (SentPart faults s hits before) whole part) answer (stops-driving late) (begins same))
  stops-first (last ∷ earlier) (y ∷ ys) is same late part = elim so.beside [
    | inl none ↦ absurd (let bad : length (y ∷ ys) ≡ 0 = ap (λ (xs : List (List Drive)). length xs) (sym same ∙ none) in omega (arith, bad))
    | inr was ↦ (let whole : more ++ first ≡ y ∷ (ys ++ first) = ap (λ xs. xs ++ first) same in
        left-tick faults s ((more ++ first) ++ before) now
        (subst (λ xs. (station : ℕ) → IsSpent faults s.channel (xs ++ before) station) (sym whole)
        (spent-beside faults s hits before (ys ++ first) y (subst (SentPart faults s hits before) whole part) answer
        (subst (WasDriven (other_of s.channel)) whole was)))
        (stops-driving late))
  ]

  pub old-tick : OldTick faults s hits before first more sends m now
  old-tick = elim so.lane [
    | inl sending ↦ elim (cases_lt (length (more ++ first)) sends) [
      | inl low ↦ sends-on low sending.1
      | inr late ↦ quiet-now late (stops-first first more refl refl late sending.1)
    ]
    | inr stopped ↦ (let late = stopped.0 in
        quiet-now (omega (arith, late)) (left-tick faults s ((more ++ first) ++ before) now stopped.1 (stops-driving (omega (arith, late)))))
  ]
