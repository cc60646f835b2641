-- While one station sends and no other drives its channel.
use Rattle.std.proofs.Common.{◌≡◌, ◌≤◌, ◌≢◌, ℕ, zero, suc, ◌+◌, ◌-◌, ◌*◌, ◌/◌, ◌%◌, ◌<◌, Bool, true, false, ◌==◌, List, [], ◌∷◌, ◌++◌, length, Option, Some, None, refl, ap, ◌∙◌, arith, inl, inr, length-append}
use Rattle.std.proofs.lemmas.Bool.{cases_eq}
use Rattle.std.specs.Prelude.{find, slice_get, count_by}
use Rattle.std.specs.List.{list_any}
use Rattle.bus_base.specs.declared.samples.Channel.{Channel}
use Rattle.bus_base.specs.declared.samples.Channel.TheVariants.{A, B}
use Rattle.bus_base.specs.declared.samples.Part.{Part}
use Rattle.bus_base.specs.declared.samples.Pair.{Pair}
use Rattle.bus_base.specs.declared.samples.Sample.{Sample}
use Rattle.bus_base.specs.declared.samples.Drive.{Drive}
use Rattle.bus_base.specs.declared.samples.Drive.TheVariants.{Silent, On}
use Rattle.bus_words.specs.declared.word.Word.{Word}
use Rattle.bus_line.specs.Past.{quiet_ticks}
use Rattle.bus_line.specs.Channels.{on_channel}
use Rattle.bus_formats.specs.Plans.{PlanData}
use Rattle.bus_formats.specs.declared.fault.Fault.{Fault}
use Rattle.bus_formats.specs.declared.fault.Hit.{Hit}
use Rattle.bus_model.specs.Memory.{TimedLoad}
use Rattle.bus_model.specs.Control.{OutsideTake}
use Rattle.bus_model.specs.Sending.{drive_word, drive_sample}
use Rattle.bus_model.specs.Strikes.{added_by}
use Rattle.bus_model.specs.Transmissions.{drives_on, drive_or, station_drive, newest_drives, Transmission, is_of, is_command, cut_over, hits_of, transmissions}
use Rattle.bus_model.specs.Wire.{struck_sample, shown_by, samples_on, drivers, shown}
use Rattle.bus_model.specs.World.{world, trace, ticks_on, drives_after}
use Rattle.bus_law_line.specs.Shown.{sample_of_word, sample_of, struck_of, struck_spelling, shown_of, shown_on}
use Rattle.bus_law_line.specs.Senders.{IsSpent, LeftAlone, Sender, SendsAlone, SentAlone}
use Rattle.bus_law_line.proofs.Begun.{same-itself, begun, find-begins, find-goes-on}
use Rattle.bus_law_line.proofs.Spent.{spent-now, spent-later, added-nothing}
use Rattle.bus_law_line.proofs.Samples.{shown-other, shown-own, samples-none, samples-one}

-- ---- what it drives

pub some-word : (words : List Word) (j : ℕ) → j < length words → slice_get words j ≡ None → ⊥
some-word [] j within none = omega (arith, within)
some-word (word ∷ words) zero within none = cc
some-word (word ∷ words) (suc j) within none = some-word words j (omega (arith, within)) none

no-word : (words : List Word) (j : ℕ) → length words ≤ j → slice_get words j ≡ None
no-word [] j past = refl
no-word (word ∷ words) zero past = absurd (omega (arith, past))
no-word (word ∷ words) (suc j) past = no-word words j (omega (arith, past))

-- nothing after its words
pub drives-nothing : (c : Channel) (part : Part) (words : List Word) (i : ℕ) → 40 * length words ≤ i → drive_sample c part words i ≡ Silent
drives-nothing c part words i past = ap (drive_word c part (suc i == 40 * length words) (i % 40)) (no-word words (i / 40) (omega (arith, past)))

drives-word : (c : Channel) (part : Part) (last : Bool) (position : ℕ) (o : Option Word) → (o ≡ None → ⊥) →
    drive_word c part last position o ≡ On c (sample_of_word position o) part last
drives-word c part last position None some = absurd (some refl)
drives-word c part last position (Some word) some = refl

-- sample i of its words
drives-sample : (c : Channel) (part : Part) (words : List Word) (i : ℕ) → i < 40 * length words →
    drive_sample c part words i ≡ On c (sample_of words i) part (suc i == 40 * length words)
drives-sample c part words i within =
    drives-word c part (suc i == 40 * length words) (i % 40) (slice_get words (i / 40)) (some-word words (i / 40) (omega (arith, within)))

own-drive : (s : Sender) (i : ℕ) (now : List Drive) → SendsAlone s i now → i < 40 * length s.words →
    slice_get now s.station ≡ Some (On s.channel (sample_of s.words i) s.part (suc i == 40 * length s.words))
own-drive s i now sends within = sends.own ∙ ap Some (drives-sample s.channel s.part s.words i within)

-- ---- its transmission

-- in fewer ticks too
fewer : (faults : List Fault) (s : Sender) (hits : List Hit) (before sent : List (List Drive)) (now : List Drive) →
    SentAlone faults s hits before (now ∷ sent) → SentAlone faults s hits before sent
fewer faults s hits before sent now h = record {
  fresh = h.fresh;
  spent = h.spent;
  ticks = h.ticks.1;
  within = omega (arith, h.within);
  named = h.named;
  uncut = λ i low. h.uncut i (omega (arith, low));
}

-- the others stay spent
pub others-spent : (faults : List Fault) (s : Sender) (hits : List Hit) (before sent : List (List Drive)) → SentAlone faults s hits before sent →
    (other : ℕ) → other ≢ s.station → IsSpent faults s.channel (sent ++ before) other
others-spent faults s hits before [] h other apart = h.spent other apart
others-spent faults s hits before (now ∷ sent) h other apart =
    spent-later faults other s.channel now (sent ++ before)
    (others-spent faults s hits before sent (fewer faults s hits before sent now h) other apart) (h.ticks.0.alone other apart)

-- it is the one that began with the first sample
abbrev pub own : List Fault → Sender → List (List Drive) → Transmission
own faults s before = begun s.station s.channel s.part (length before) (count_by is_command (transmissions faults before))

drove : (s : Sender) (i : ℕ) (now : List Drive) → SendsAlone s i now → i < 40 * length s.words → drives_on s.channel (station_drive s.station now) ≡ true
drove s i now sends within = ap (λ o. drives_on s.channel (drive_or o)) (own-drive s i now sends within) ∙ same-itself s.channel

pub own-found : (faults : List Fault) (s : Sender) (hits : List Hit) (before sent : List (List Drive)) (now : List Drive) →
    SentAlone faults s hits before (now ∷ sent) →
    find (is_of s.station s.channel) (transmissions faults ((now ∷ sent) ++ before)) ≡ Some (own faults s before)
unfolding transmissions
own-found faults s hits before [] now h =
    find-begins faults s.station 0 s.station (length before) (count_by is_command (transmissions faults before)) s.channel
    (sample_of s.words 0) s.part (1 == 40 * length s.words) (newest_drives before) now (transmissions faults before) (omega arith)
    (own-drive s 0 now h.ticks.0 (omega (arith, h.within))) h.fresh (h.ticks.0.counted refl) refl
own-found faults s hits before (earlier ∷ sent) now h =
    let less = fewer faults s hits before (earlier ∷ sent) now h in
    let long : length (sent ++ before) ≡ length sent + length before = length-append sent before in
    let at : suc (length (sent ++ before)) - length before ≡ suc (length sent) = omega (arith, long) in
    find-goes-on faults s.station 0 s.station (suc (length (sent ++ before))) s.channel
    (sample_of s.words (suc (length sent))) s.part (suc (suc (length sent)) == 40 * length s.words) earlier now
    (transmissions faults ((earlier ∷ sent) ++ before)) (own faults s before) (omega arith)
    (own-drive s (suc (length sent)) now h.ticks.0 (omega (arith, h.within)))
    (drove s (length sent) earlier less.ticks.0 (omega (arith, less.within)))
    (own-found faults s hits before sent earlier less)
    (ap (λ i. list_any (cut_over i) (hits_of faults (own faults s before))) at
    ∙ ap (list_any (cut_over (suc (length sent)))) h.named ∙ h.uncut (suc (length sent)) (omega arith))

-- ---- what is shown

other-none : (faults : List Fault) (s : ℕ) (c : Channel) (now : List Drive) (driven : List (List Drive)) → IsSpent faults c driven s →
    drives_on c (station_drive s now) ≡ false →
    shown_by faults (now ∷ driven) (length driven) c (find (is_of s c) (transmissions faults (now ∷ driven))) (station_drive s now) ≡ None
other-none faults s c now driven none silent =
    shown-other faults (now ∷ driven) (length driven) c (find (is_of s c) (transmissions faults (now ∷ driven))) (station_drive s now) silent
    ∙ spent-now faults s c now driven none silent

-- one sample, its own
pub one-sample : (faults : List Fault) (s : Sender) (hits : List Hit) (before sent : List (List Drive)) (now : List Drive) →
    SentAlone faults s hits before (now ∷ sent) → samples_on faults s.channel ((now ∷ sent) ++ before) ≡ struck_of hits s.words (length sent) ∷ []
unfolding samples_on
one-sample faults s hits before sent now h =
    let drive = On s.channel (sample_of s.words (length sent)) s.part (suc (length sent) == 40 * length s.words) in
    let there = own-drive s (length sent) now h.ticks.0 (omega (arith, h.within)) in
    let long : length (sent ++ before) ≡ length sent + length before = length-append sent before in
    let at : length (sent ++ before) - length before ≡ length sent = omega (arith, long) in
    samples-one faults ((now ∷ sent) ++ before) (length (sent ++ before)) s.channel (transmissions faults ((now ∷ sent) ++ before))
    0 s.station s.station now drive (struck_of hits s.words (length sent)) (omega arith) there
    (ap (λ o. shown_by faults ((now ∷ sent) ++ before) (length (sent ++ before)) s.channel
    (find (is_of s.station s.channel) (transmissions faults ((now ∷ sent) ++ before))) (drive_or o)) there
    ∙ ap (λ t. shown_by faults ((now ∷ sent) ++ before) (length (sent ++ before)) s.channel t drive) (own-found faults s hits before sent now h)
    ∙ shown-own faults ((now ∷ sent) ++ before) (length (sent ++ before)) s.channel (own faults s before) (sample_of s.words (length sent)) s.part
    (suc (length sent) == 40 * length s.words)
    ∙ ap (λ i. Some (struck_sample i (hits_of faults (own faults s before)) (sample_of s.words (length sent)))) at
    ∙ ap (λ hits. Some (struck_sample (length sent) hits (sample_of s.words (length sent)))) h.named)
    (λ other o e apart. let here : other ≡ o = omega (arith, e) in rw here
    (other-none faults o s.channel now (sent ++ before)
    (others-spent faults s hits before sent (fewer faults s hits before sent now h) o apart) (h.ticks.0.alone o apart)))

pub one-driver : (faults : List Fault) (s : Sender) (hits : List Hit) (before sent : List (List Drive)) (now : List Drive) →
    SentAlone faults s hits before (now ∷ sent) → drivers faults s.channel ((now ∷ sent) ++ before) ≡ 1
one-driver faults s hits before sent now h = ap (λ (xs : List Sample). length xs) (one-sample faults s hits before sent now h)

-- over all ticks
pub all-samples : (faults : List Fault) (s : Sender) (hits : List Hit) (before sent : List (List Drive)) → SentAlone faults s hits before sent →
    shown_on faults s.channel (sent ++ before) ≡ struck_spelling hits s.words (length sent) ++ shown_on faults s.channel before
all-samples faults s hits before [] h = refl
all-samples faults s hits before (now ∷ sent) h =
    rw (one-sample faults s hits before sent now h, all-samples faults s hits before sent (fewer faults s hits before sent now h)) refl

-- afterwards all are spent
pub all-spent : (faults : List Fault) (s : Sender) (hits : List Hit) (before sent : List (List Drive)) (now : List Drive) →
    SentAlone faults s hits before (now ∷ sent) → added_by hits ≡ 0 → (station : ℕ) → IsSpent faults s.channel ((now ∷ sent) ++ before) station
all-spent faults s hits before sent now h none station = elim (cases_eq station s.station) [
  | inr apart ↦ others-spent faults s hits before (now ∷ sent) h station apart
  | inl same ↦ rw (same, own-found faults s hits before sent now h, h.named)
      (added-nothing (own faults s before) ((now ∷ sent) ++ before) (length ((now ∷ sent) ++ before)) hits none)
]

-- ---- a channel left alone

pub left-spent : (faults : List Fault) (c : Channel) (before silent : List (List Drive)) → LeftAlone faults c before silent →
    (station : ℕ) → IsSpent faults c (silent ++ before) station
left-spent faults c before [] h station = h.spent station
left-spent faults c before (now ∷ silent) h station =
    spent-later faults station c now (silent ++ before)
    (left-spent faults c before silent record { undriven = h.undriven.1; spent = h.spent } station) (h.undriven.0 station)

left-nothing : (faults : List Fault) (c : Channel) (before silent : List (List Drive)) (now : List Drive) → LeftAlone faults c before (now ∷ silent) →
    samples_on faults c ((now ∷ silent) ++ before) ≡ []
unfolding samples_on
left-nothing faults c before silent now h =
    samples-none faults ((now ∷ silent) ++ before) (length (silent ++ before)) c (transmissions faults ((now ∷ silent) ++ before)) 0 now
    (λ place s e. let here : place ≡ s = omega (arith, e) in rw here
    (other-none faults s c now (silent ++ before)
    (left-spent faults c before silent record { undriven = h.undriven.1; spent = h.spent } s) (h.undriven.0 s)))

pub left-undriven : (faults : List Fault) (c : Channel) (before silent : List (List Drive)) (now : List Drive) →
    LeftAlone faults c before (now ∷ silent) → drivers faults c ((now ∷ silent) ++ before) ≡ 0
left-undriven faults c before silent now h = ap (λ (xs : List Sample). length xs) (left-nothing faults c before silent now h)

pub left-quiet : (faults : List Fault) (c : Channel) (before silent : List (List Drive)) → LeftAlone faults c before silent →
    shown_on faults c (silent ++ before) ≡ quiet_ticks (length silent) ++ shown_on faults c before
left-quiet faults c before [] h = refl
left-quiet faults c before (now ∷ silent) h =
    rw (left-nothing faults c before silent now h, left-quiet faults c before silent record { undriven = h.undriven.1; spent = h.spent }) refl

-- ---- the world

shown-now : (faults : List Fault) (c : Channel) (driven : List (List Drive)) (past : List Pair) →
    on_channel c (shown faults driven ∷ past) ≡ shown_of (samples_on faults c driven) ∷ on_channel c past
shown-now faults A driven past = refl
shown-now faults B driven past = refl

pub world-shown : (k : ℕ) (plan : PlanData) (loads : List TimedLoad) (outside : List OutsideTake) (absent : List ℕ) (t : ℕ) (c : Channel) →
    on_channel c (world k plan loads outside absent t) ≡ shown_on plan.faults c (trace k plan loads outside absent t).driven
unfolding ticks_on
world-shown k plan loads outside absent zero c = refl
world-shown k plan loads outside absent (suc t) c =
    let past = trace k plan loads outside absent t in
    shown-now plan.faults c (drives_after k plan loads outside absent past.shown ∷ past.driven) past.shown
    ∙ ap (λ xs. shown_of (samples_on plan.faults c (drives_after k plan loads outside absent past.shown ∷ past.driven)) ∷ xs)
    (world-shown k plan loads outside absent t c)
