-- What is found of a station that sent its words and was silent since: the tick of its last sample, and no drive after it.
use Rattle.std.proofs.Common.{◌≡◌, inl, inr, ℕ, suc, ◌+◌, ◌-◌, ◌*◌, ◌/◌, ◌%◌, ◌<◌, ◌≤◌, Bool, true, false, ◌==◌, nat_lt, List, [], ◌∷◌, ◌++◌, length, Option, Some, None, refl, ap, ◌∙◌, arith, length-append}
use Rattle.std.proofs.lemmas.Bool.{cases_lt, lt-ltb, le-ltb}
use Rattle.std.proofs.lemmas.Bool.Decides.{nat_tests}
use Rattle.std.specs.Prelude.{◌||◌, ◌&&◌, slice_get}
use Rattle.std.specs.List.{list_any}
use Rattle.bus_base.specs.declared.samples.Channel.{Channel}
use Rattle.bus_base.specs.declared.samples.Part.{Part}
use Rattle.bus_base.specs.declared.samples.Drive.{Drive}
use Rattle.bus_words.specs.declared.word.Word.{Word}
use Rattle.bus_base.specs.declared.samples.Drive.TheVariants.{Silent, On}
use Rattle.bus_model.specs.Sending.{drive_word, drive_sample}
use Rattle.bus_model.specs.Transmissions.{drives_on, drives_last, drive_or, station_drive, drove_since, driven_since, last_or_now, last_since}
use Rattle.bus_law_line.specs.Shown.{sample_of_word, sample_of}
use Rattle.bus_law_line.specs.Senders.{IsUndriven, AreUndriven, Sender, SendsAlone, SendAlone}
use Rattle.bus_law_line.proofs.Begun.{same-itself}
use Rattle.bus_law_line.proofs.Sent.{some-word, drives-nothing}

-- ---- a tick of a sender

drives-word : (c : Channel) (part : Part) (last : Bool) (position : ℕ) (o : Option Word) → (o ≡ None → ⊥) →
    drive_word c part last position o ≡ On c (sample_of_word position o) part last
drives-word c part last position None some = absurd (some refl)
drives-word c part last position (Some word) some = refl

drives-sample : (c : Channel) (part : Part) (words : List Word) (i : ℕ) → i < 40 * length words →
    drive_sample c part words i ≡ On c (sample_of words i) part (suc i == 40 * length words)
drives-sample c part words i within =
    drives-word c part (suc i == 40 * length words) (i % 40) (slice_get words (i / 40)) (some-word words (i / 40) (omega (arith, within)))

pub sends-sample : (s : Sender) (i : ℕ) (now : List Drive) → SendsAlone s i now → i < 40 * length s.words →
    slice_get now s.station ≡ Some (On s.channel (sample_of s.words i) s.part (suc i == 40 * length s.words))
sends-sample s i now sends within = sends.own ∙ ap (λ d. Some d) (drives-sample s.channel s.part s.words i within)

-- after its words it is silent
pub sends-nothing : (s : Sender) (i : ℕ) (now : List Drive) → SendsAlone s i now → 40 * length s.words ≤ i → slice_get now s.station ≡ Some Silent
sends-nothing s i now sends past = sends.own ∙ ap (λ d. Some d) (drives-nothing s.channel s.part s.words i past)

pub is-silent : (s : Sender) (i : ℕ) (now : List Drive) → SendsAlone s i now → 40 * length s.words ≤ i →
    drives_on s.channel (station_drive s.station now) ≡ false
is-silent s i now sends past = ap (λ o. drives_on s.channel (drive_or o)) (sends-nothing s i now sends past)

pub is-driving : (s : Sender) (i : ℕ) (now : List Drive) → SendsAlone s i now → i < 40 * length s.words →
    drives_on s.channel (station_drive s.station now) ≡ true
is-driving s i now sends within = ap (λ o. drives_on s.channel (drive_or o)) (sends-sample s i now sends within) ∙ same-itself s.channel

is-last : (s : Sender) (i : ℕ) (now : List Drive) → SendsAlone s i now → i < 40 * length s.words →
    drives_last s.channel (station_drive s.station now) ≡ (suc i == 40 * length s.words)
is-last s i now sends within =
    ap (λ o. drives_last s.channel (drive_or o)) (sends-sample s i now sends within)
    ∙ ap (λ b. b && (suc i == 40 * length s.words)) (same-itself s.channel)

-- ---- the tick of its last sample

last-before : (s : ℕ) (c : Channel) (driven : List (List Drive)) (a : ℕ) → length driven ≤ a → last_since s c driven a ≡ None
unfolding last_since
last-before s c [] a early = refl
last-before s c (now ∷ driven) a early = let yes : nat_lt (length driven) a ≡ true = lt-ltb (length driven) a (omega (arith, early)) in rw yes refl

last-more : (s : ℕ) (c : Channel) (now : List Drive) (driven : List (List Drive)) (a : ℕ) → a ≤ length driven →
    last_since s c (now ∷ driven) a ≡ last_or_now (drives_last c (station_drive s now)) (length driven) (last_since s c driven a)
unfolding last_since
last-more s c now driven a early = let no : nat_lt (length driven) a ≡ false = le-ltb (length driven) a early in rw no refl

-- none yet
pub last-none : (s : Sender) (before sent : List (List Drive)) → SendAlone s sent → length sent < 40 * length s.words →
    last_since s.station s.channel (sent ++ before) (length before) ≡ None
last-none s before [] sends early = last-before s.station s.channel before (length before) (omega arith)
last-none s before (now ∷ sent) sends early =
    let long : length (sent ++ before) ≡ length sent + length before = length-append sent before in
    let not : (suc (length sent) == 40 * length s.words) ≡ false = grind (arith, nat_tests, early) in
    last-more s.station s.channel now (sent ++ before) (length before) (omega (arith, long))
    ∙ ap (λ o. last_or_now (drives_last s.channel (station_drive s.station now)) (length (sent ++ before)) o)
    (last-none s before sent sends.1 (omega (arith, early)))
    ∙ ap (λ b. last_or_now b (length (sent ++ before)) None) (is-last s (length sent) now sends.0 (omega (arith, early)) ∙ not)

-- and it stays
pub last-sent : (s : Sender) (before sent : List (List Drive)) → SendAlone s sent → 0 < length s.words → 40 * length s.words ≤ length sent →
    last_since s.station s.channel (sent ++ before) (length before) ≡ Some (length before + (40 * length s.words - 1))
last-sent s before [] sends some late = absurd (omega (arith, some, late))
last-sent s before (now ∷ sent) sends some late =
    let long : length (sent ++ before) ≡ length sent + length before = length-append sent before in
    let more = last-more s.station s.channel now (sent ++ before) (length before) (omega (arith, long)) in
    elim (cases_lt (length sent) (40 * length s.words)) [
      | inl early ↦ (
          let end : (suc (length sent) == 40 * length s.words) ≡ true = grind (arith, nat_tests, early, late) in
          let at : length (sent ++ before) ≡ length before + (40 * length s.words - 1) = omega (arith, long, early, late) in
          more ∙ ap (λ o. last_or_now (drives_last s.channel (station_drive s.station now)) (length (sent ++ before)) o) (last-none s before sent sends.1 early)
          ∙ ap (λ b. last_or_now b (length (sent ++ before)) None) (is-last s (length sent) now sends.0 early ∙ end)
          ∙ ap (λ t. Some t) at)
      | inr past ↦ (
          more ∙ ap (λ o. last_or_now (drives_last s.channel (station_drive s.station now)) (length (sent ++ before)) o) (last-sent s before sent sends.1 some past))
    ]

-- ---- no drive since

drove-before : (s : ℕ) (c : Channel) (driven : List (List Drive)) (a : ℕ) → length driven ≤ a → drove_since s c driven a ≡ false
unfolding drove_since
drove-before s c [] a early = refl
drove-before s c (now ∷ driven) a early = let yes : nat_lt (length driven) a ≡ true = lt-ltb (length driven) a (omega (arith, early)) in rw yes refl

drove-more : (s : ℕ) (c : Channel) (now : List Drive) (driven : List (List Drive)) (a : ℕ) → a ≤ length driven →
    drove_since s c (now ∷ driven) a ≡ (drives_on c (station_drive s now) || drove_since s c driven a)
unfolding drove_since
drove-more s c now driven a early = let no : nat_lt (length driven) a ≡ false = le-ltb (length driven) a early in rw no refl

pub drove-nothing : (s : Sender) (before sent : List (List Drive)) → SendAlone s sent →
    drove_since s.station s.channel (sent ++ before) (length before + 40 * length s.words) ≡ false
drove-nothing s before [] sends = drove-before s.station s.channel before (length before + 40 * length s.words) (omega arith)
drove-nothing s before (now ∷ sent) sends =
    let long : length (sent ++ before) ≡ length sent + length before = length-append sent before in
    elim (cases_lt (length sent) (40 * length s.words)) [
      | inl early ↦ drove-before s.station s.channel (now ∷ (sent ++ before)) (length before + 40 * length s.words) (omega (arith, long, early))
      | inr past ↦ (
          drove-more s.station s.channel now (sent ++ before) (length before + 40 * length s.words) (omega (arith, long, past))
          ∙ ap (λ b. b || drove_since s.station s.channel (sent ++ before) (length before + 40 * length s.words)) (is-silent s (length sent) now sends.0 past)
          ∙ drove-nothing s before sent sends.1)
    ]

-- ---- nobody on the other channel

nobody : (c : Channel) (now : List Drive) → IsUndriven c now → list_any (drives_on c) now ≡ false
nobody c [] none = refl
nobody c (drive ∷ drives) none =
    let first : drives_on c drive ≡ false = none 0 in
    rw first (nobody c drives (λ station. none (suc station)))

driven-before : (c : Channel) (driven : List (List Drive)) (a : ℕ) → length driven ≤ a → driven_since c driven a ≡ false
unfolding driven_since
driven-before c [] a early = refl
driven-before c (now ∷ driven) a early = let yes : nat_lt (length driven) a ≡ true = lt-ltb (length driven) a (omega (arith, early)) in rw yes refl

pub driven-more : (c : Channel) (now : List Drive) (driven : List (List Drive)) (a : ℕ) → a ≤ length driven →
    driven_since c (now ∷ driven) a ≡ (list_any (drives_on c) now || driven_since c driven a)
unfolding driven_since
driven-more c now driven a early = let no : nat_lt (length driven) a ≡ false = le-ltb (length driven) a early in rw no refl

pub driven-nothing : (c : Channel) (before sent : List (List Drive)) → AreUndriven c sent → driven_since c (sent ++ before) (length before) ≡ false
driven-nothing c before [] none = driven-before c before (length before) (omega arith)
driven-nothing c before (now ∷ sent) none =
    let long : length (sent ++ before) ≡ length sent + length before = length-append sent before in
    driven-more c now (sent ++ before) (length before) (omega (arith, long))
    ∙ ap (λ b. b || driven_since c (sent ++ before) (length before)) (nobody c now none.0)
    ∙ driven-nothing c before sent none.1
