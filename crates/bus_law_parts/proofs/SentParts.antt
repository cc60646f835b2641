-- What a channel shows while one station sends a part there.
use Rattle.std.proofs.Common.{◌≡◌, ◌≢◌, ◌⊎◌, inl, inr, ℕ, zero, suc, ◌+◌, ◌-◌, ◌*◌, ◌%◌, ◌<◌, ◌≤◌, Bool, true, false, ◌==◌, nat_lt, List, [], ◌∷◌, ◌++◌, length, get_or, Option, Some, None, refl, sym, ap, ◌∙◌, arith, length-append}
use Rattle.std.proofs.lemmas.Bool.{cases_eq, cases_lt, lt-ltb, le-ltb, le-leb, lt-leb, and_right}
use Rattle.std.proofs.lemmas.Bool.Decides.{nat_tests}
use Rattle.std.specs.Prelude.{◌&&◌, not, nat_le, min, if◌then◌else◌, find, count_by}
use Rattle.std.specs.List.{list_any}
use Rattle.bus_base.specs.Samples.{other_of, same_part}
use Rattle.bus_base.specs.declared.samples.Channel.{Channel}
use Rattle.bus_base.specs.declared.samples.Part.{Part}
use Rattle.bus_base.specs.declared.samples.Part.TheVariants.{Command}
use Rattle.bus_base.specs.declared.samples.Sample.{Sample}
use Rattle.bus_base.specs.declared.samples.Sample.TheVariants.{Quiet}
use Rattle.bus_base.specs.declared.samples.Drive.{Drive}
use Rattle.bus_base.specs.declared.samples.Drive.TheVariants.{Silent, On}
use Rattle.bus_words.specs.declared.word.Word.{Word}
use Rattle.bus_line.specs.Spelling.{spelling}
use Rattle.bus_formats.specs.Forms.{data_word}
use Rattle.bus_formats.specs.declared.fault.Fault.{Fault}
use Rattle.bus_formats.specs.declared.fault.Hit.{Hit}
use Rattle.bus_formats.specs.declared.fault.Hit.TheVariants.{Flip, Cut, Extra, Fade}
use Rattle.bus_model.specs.Strikes.{added_by}
use Rattle.bus_model.specs.Transmissions.{drives_on, drive_or, station_drive, newest_drives, drove_since, driven_since, last_since, Transmission, is_of, is_command, cut_over, hits_of, transmissions}
use Rattle.bus_model.specs.Wire.{struck_sample, zero_sample, longest, ends_beside, extra_after, added_sample, shown_silent, shown_by, samples_on, drivers}
use Rattle.bus_law_line.specs.Shown.{sample_of, struck_of, first_samples, shown_of, shown_on}
use Rattle.bus_law_line.specs.Senders.{IsSpent, AreUndriven, Sender}
use Rattle.bus_law_line.proofs.Begun.{begun, find-goes-on}
use Rattle.bus_law_line.proofs.Spent.{spent-now, spent-later, find-same, added-nothing}
use Rattle.bus_law_line.proofs.Samples.{shown-other, shown-own, samples-none, samples-one}
use Rattle.bus_law_parts.specs.Parts.{HitsFit, SentPart, part_ticks, part_sample}
use Rattle.bus_law_parts.proofs.Strikes.{AreApart, apart-all}
use Rattle.bus_law_parts.proofs.Lengths.{whole-or-short, no-length}
use Rattle.bus_law_parts.proofs.PartSlots.{own-sample, added-sample, no-sample}
use Rattle.bus_law_parts.proofs.Begins.{find-begins-fresh}
use Rattle.bus_law_parts.proofs.LookBacks.{sends-sample, sends-nothing, is-silent, is-driving, last-sent, drove-nothing, driven-nothing}

-- ---- fewer ticks of the same part

fewer-beside : (s : Sender) (hits : List Hit) (sent : List (List Drive)) (now : List Drive) →
    ((suc (length sent) ≤ 40 * length s.words) ⊎ ((s.part ≡ Command) ⊎ ((added_by hits ≡ 0) ⊎ AreUndriven (other_of s.channel) (now ∷ sent)))) →
    (length sent ≤ 40 * length s.words) ⊎ ((s.part ≡ Command) ⊎ ((added_by hits ≡ 0) ⊎ AreUndriven (other_of s.channel) sent))
fewer-beside s hits sent now (inl early) = inl (omega (arith, early))
fewer-beside s hits sent now (inr (inl command)) = inr (inl command)
fewer-beside s hits sent now (inr (inr (inl none))) = inr (inr (inl none))
fewer-beside s hits sent now (inr (inr (inr undriven))) = inr (inr (inr undriven.1))

pub fewer-ticks : (faults : List Fault) (s : Sender) (hits : List Hit) (before sent : List (List Drive)) (now : List Drive) →
    SentPart faults s hits before (now ∷ sent) → SentPart faults s hits before sent
fewer-ticks faults s hits before sent now h = record {
  fresh = h.fresh;
  spent = h.spent;
  ticks = h.ticks.1;
  within = omega (arith, h.within);
  named = h.named;
  fits = h.fits;
  beside = fewer-beside s hits sent now h.beside;
}

-- the others stay spent
pub others-spent : (faults : List Fault) (s : Sender) (hits : List Hit) (before sent : List (List Drive)) → SentPart faults s hits before sent →
    (other : ℕ) → other ≢ s.station → IsSpent faults s.channel (sent ++ before) other
others-spent faults s hits before [] h other apart = h.spent other apart
others-spent faults s hits before (now ∷ sent) h other apart =
    spent-later faults other s.channel now (sent ++ before)
    (others-spent faults s hits before sent (fewer-ticks faults s hits before sent now h) other apart) (h.ticks.0.alone other apart)

-- ---- its transmission

-- while its words are sent no cut has ended it
pub uncut-at : (part : Part) (hits : List Hit) (words : List Word) (i : ℕ) → HitsFit part hits words → i < 40 * length words → i < part_ticks hits words + 4 →
    list_any (cut_over i) hits ≡ false
uncut-at part hits words i fits low within = elim (whole-or-short part hits words fits) [
  | inl whole ↦ whole.uncut i low
  | inr short ↦ (
      let ticks = short.1.ticks in
      let not : (i == 40 * short.0 + 4) ≡ false = grind (arith, nat_tests, within, ticks) in
      short.1.over i ∙ not)
]

-- it is the one that began with the first sample
abbrev pub own : List Fault → Sender → List (List Drive) → Transmission
own faults s before = begun s.station s.channel s.part (length before) (count_by is_command (transmissions faults before))

pub own-found : (faults : List Fault) (s : Sender) (hits : List Hit) (before sent : List (List Drive)) (now : List Drive) →
    SentPart faults s hits before (now ∷ sent) →
    find (is_of s.station s.channel) (transmissions faults ((now ∷ sent) ++ before)) ≡ Some (own faults s before)
unfolding transmissions
own-found faults s hits before [] now h =
    let some = h.fits.some in
    find-begins-fresh faults s.station 0 s.station (length before) (count_by is_command (transmissions faults before)) s.channel
    (sample_of s.words 0) s.part (1 == 40 * length s.words) (newest_drives before) now (transmissions faults before) (omega arith)
    (sends-sample s 0 now h.ticks.0 (omega (arith, some))) h.fresh (h.ticks.0.counted refl) refl
own-found faults s hits before (earlier ∷ sent) now h = elim (cases_lt (suc (length sent)) (40 * length s.words)) [
  | inl low ↦ (
      let less = fewer-ticks faults s hits before (earlier ∷ sent) now h in
      let long : length (sent ++ before) ≡ length sent + length before = length-append sent before in
      let at : suc (length (sent ++ before)) - length before ≡ suc (length sent) = omega (arith, long) in
      find-goes-on faults s.station 0 s.station (suc (length (sent ++ before))) s.channel
      (sample_of s.words (suc (length sent))) s.part (suc (suc (length sent)) == 40 * length s.words) earlier now
      (transmissions faults ((earlier ∷ sent) ++ before)) (own faults s before) (omega arith)
      (sends-sample s (suc (length sent)) now h.ticks.0 low)
      (is-driving s (length sent) earlier less.ticks.0 (omega (arith, low)))
      (own-found faults s hits before sent earlier less)
      (ap (λ i. list_any (cut_over i) (hits_of faults (own faults s before))) at
      ∙ ap (list_any (cut_over (suc (length sent)))) h.named
      ∙ uncut-at s.part hits s.words (suc (length sent)) h.fits low (omega (arith, h.within))))
  | inr past ↦ (
      find-same faults s.station s.channel now ((earlier ∷ sent) ++ before) (is-silent s (suc (length sent)) now h.ticks.0 past)
      ∙ own-found faults s hits before sent earlier (fewer-ticks faults s hits before (earlier ∷ sent) now h))
]

-- ---- what is shown of the others

pub other-none : (faults : List Fault) (s : ℕ) (c : Channel) (now : List Drive) (driven : List (List Drive)) → IsSpent faults c driven s →
    drives_on c (station_drive s now) ≡ false →
    shown_by faults (now ∷ driven) (length driven) c (find (is_of s c) (transmissions faults (now ∷ driven))) (station_drive s now) ≡ None
other-none faults s c now driven none silent =
    shown-other faults (now ∷ driven) (length driven) c (find (is_of s c) (transmissions faults (now ∷ driven))) (station_drive s now) silent
    ∙ spent-now faults s c now driven none silent

others-none : (faults : List Fault) (s : Sender) (hits : List Hit) (before sent : List (List Drive)) (now : List Drive) →
    SentPart faults s hits before (now ∷ sent) → (other o : ℕ) → 0 + other ≡ o → o ≢ s.station →
    shown_by faults ((now ∷ sent) ++ before) (length (sent ++ before)) s.channel (find (is_of o s.channel) (transmissions faults ((now ∷ sent) ++ before)))
    (station_drive other now) ≡ None
others-none faults s hits before sent now h other o e apart =
    let here : other ≡ o = omega (arith, e) in rw here
    (other-none faults o s.channel now (sent ++ before)
    (others-spent faults s hits before sent (fewer-ticks faults s hits before sent now h) o apart) (h.ticks.0.alone o apart))

-- ---- its own samples

-- while its words are sent the sample of the part is the struck one
as-struck : (part : Part) (hits : List Hit) (words : List Word) (i : ℕ) → HitsFit part hits words → i < 40 * length words →
    part_sample hits words i ≡ struck_of hits words i
as-struck part hits words i fits low = elim (whole-or-short part hits words fits) [
  | inl whole ↦ (let own = whole.own in own-sample hits words i (omega (arith, low, own)))
  | inr short ↦ elim (cases_lt i (40 * short.0)) [
    | inl early ↦ (let own = short.1.own in own-sample hits words i (omega (arith, early, own)))
    | inr late ↦ (
        let ticks = short.1.ticks in
        no-sample hits words i (omega (arith, late, ticks)) ∙ sym (short.1.quiet i (sample_of words i) late))
  ]
]

own-shown : (faults : List Fault) (s : Sender) (hits : List Hit) (before sent : List (List Drive)) (now : List Drive) →
    SentPart faults s hits before (now ∷ sent) → length sent < 40 * length s.words →
    samples_on faults s.channel ((now ∷ sent) ++ before) ≡ part_sample hits s.words (length sent) ∷ []
unfolding samples_on
own-shown faults s hits before sent now h low =
    let drive = On s.channel (sample_of s.words (length sent)) s.part (suc (length sent) == 40 * length s.words) in
    let there = sends-sample s (length sent) now h.ticks.0 low in
    let long : length (sent ++ before) ≡ length sent + length before = length-append sent before in
    let at : length (sent ++ before) - length before ≡ length sent = omega (arith, long) in
    samples-one faults ((now ∷ sent) ++ before) (length (sent ++ before)) s.channel (transmissions faults ((now ∷ sent) ++ before))
    0 s.station s.station now drive (part_sample hits s.words (length sent)) (omega arith) there
    (ap (λ o. shown_by faults ((now ∷ sent) ++ before) (length (sent ++ before)) s.channel
    (find (is_of s.station s.channel) (transmissions faults ((now ∷ sent) ++ before))) (drive_or o)) there
    ∙ ap (λ t. shown_by faults ((now ∷ sent) ++ before) (length (sent ++ before)) s.channel t drive) (own-found faults s hits before sent now h)
    ∙ shown-own faults ((now ∷ sent) ++ before) (length (sent ++ before)) s.channel (own faults s before) (sample_of s.words (length sent)) s.part
    (suc (length sent) == 40 * length s.words)
    ∙ ap (λ i. Some (struck_sample i (hits_of faults (own faults s before)) (sample_of s.words (length sent)))) at
    ∙ ap (λ hits. Some (struck_sample (length sent) hits (sample_of s.words (length sent)))) h.named
    ∙ ap (λ x. Some x) (sym (as-struck s.part hits s.words (length sent) h.fits low)))
    (others-none faults s hits before sent now h)

-- ---- what an extra adds

pub extra-is : (t : Transmission) (driven : List (List Drive)) (tick : ℕ) (hits : List Hit) → AreApart hits → 0 < added_by hits →
    added_sample t driven tick hits ≡ extra_after t driven tick (added_by hits) (last_since t.station t.channel driven t.first)
extra-is t driven tick [] apart some = absurd (omega (arith, some))
extra-is t driven tick (Flip word set ∷ hits) apart some = extra-is t driven tick hits apart.1 some
extra-is t driven tick (Fade word set ∷ hits) apart some = extra-is t driven tick hits apart.1 some
extra-is t driven tick (Cut after ∷ hits) apart some = extra-is t driven tick hits apart.1 some
extra-is t driven tick (Extra words ∷ hits) apart some =
    let rest : added_by hits ≡ 0 = (no-length (Extra words) hits refl apart.0).1 in
    let all : words ≡ words + added_by hits = omega (arith, rest) in
    ap (λ n. extra_after t driven tick n (last_since t.station t.channel driven t.first)) all

command-goes-on : (part : Part) (b : Bool) → part ≡ Command → (not (same_part part Command) && b) ≡ false
command-goes-on part b same = ap (λ p. not (same_part p Command) && b) same

-- nobody ends it from the other channel
goes-on : (faults : List Fault) (s : Sender) (hits : List Hit) (before sent : List (List Drive)) → SentPart faults s hits before sent →
    0 < added_by hits → 40 * length s.words < length sent → ends_beside (own faults s before) (sent ++ before) ≡ false
goes-on faults s hits before sent h some past = by h.beside
  where
    by : (length sent ≤ 40 * length s.words) ⊎ ((s.part ≡ Command) ⊎ ((added_by hits ≡ 0) ⊎ AreUndriven (other_of s.channel) sent)) →
        ends_beside (own faults s before) (sent ++ before) ≡ false
    by (inl early) = absurd (omega (arith, early, past))
    by (inr (inl command)) = command-goes-on s.part (driven_since (other_of s.channel) (sent ++ before) (length before)) command
    by (inr (inr (inl none))) = absurd (omega (arith, none, some))
    by (inr (inr (inr undriven))) =
        and_right (not (same_part s.part Command)) (driven_since (other_of s.channel) (sent ++ before) (length before))
        (driven-nothing (other_of s.channel) before sent undriven)

five : (a b c d e : Bool) (x : Sample) → a ≡ true → b ≡ true → c ≡ true → d ≡ false → e ≡ false →
    (if a && b && c && not d && not e then Some x else None) ≡ Some x
five a b c d e x p q r s t = rw (p, q, r, s, t) refl

-- a tick after its words in which the extra adds a sample
extra-some : (faults : List Fault) (s : Sender) (hits : List Hit) (before sent : List (List Drive)) → SentPart faults s hits before sent →
    0 < added_by hits → (i : ℕ) → 40 * length s.words ≤ i → i < 40 * (length s.words + min (40 - length s.words) (added_by hits)) → i < length sent →
    extra_after (own faults s before) (sent ++ before) (length before + i) (added_by hits)
    (last_since s.station s.channel (sent ++ before) (length before)) ≡ Some (zero_sample i)
extra-some faults s hits before sent h more i late low within =
    let some = h.fits.some in
    let few = h.fits.few in
    let last : ℕ = length before + (40 * length s.words - 1) in
    let next : suc last ≡ length before + 40 * length s.words = omega (arith, some) in
    let inner : (length before + i - suc last) % 40 ≡ i % 40 = omega (arith, late, some) in
    ap (λ o. extra_after (own faults s before) (sent ++ before) (length before + i) (added_by hits) o)
    (last-sent s before sent h.ticks some (omega (arith, late, within)))
    ∙ five (nat_lt last (length before + i)) (nat_le (length before + i) (last + 40 * added_by hits)) (nat_lt (length before + i) (length before + longest))
    (drove_since s.station s.channel (sent ++ before) (suc last)) (ends_beside (own faults s before) (sent ++ before))
    (zero_sample (length before + i - suc last))
    (lt-ltb last (length before + i) (omega (arith, late, some)))
    (le-leb (length before + i) (last + 40 * added_by hits) (omega (arith, low, some)))
    (lt-ltb (length before + i) (length before + longest) (omega (arith, low, few)))
    (ap (drove_since s.station s.channel (sent ++ before)) next ∙ drove-nothing s before sent h.ticks)
    (goes-on faults s hits before sent h more (omega (arith, late, within)))
    ∙ ap (λ p. Some (get_or (spelling (data_word 0)) p Quiet)) inner

over-by : (a b c : Bool) (d e : Bool) (x : Sample) → (a && b && c) ≡ false → (if a && b && c && not d && not e then Some x else None) ≡ None
over-by a b c d e x h = rw h refl

-- and one in which it has no more
extra-over : (t : Transmission) (driven : List (List Drive)) (first long words tick : ℕ) (o : Option ℕ) → t.first ≡ first →
    0 < long → o ≡ Some (first + (40 * long - 1)) → first + 40 * (long + min (40 - long) words) ≤ tick →
    extra_after t driven tick words o ≡ None
extra-over t driven first long words tick o begins some is late =
    let last : ℕ = first + (40 * long - 1) in
    let over : (nat_lt last tick && nat_le tick (last + 40 * words) && nat_lt tick (t.first + longest)) ≡ false =
    too-late (nat_lt last tick) (cases_lt (last + 40 * words) tick) in
    ap (extra_after t driven tick words) is
    ∙ over-by (nat_lt last tick) (nat_le tick (last + 40 * words)) (nat_lt tick (t.first + longest))
    (drove_since t.station t.channel driven (suc last)) (ends_beside t driven) (zero_sample (tick - suc last)) over
  where
    last-tick : ℕ
    last-tick = first + (40 * long - 1)

    too-late : (a : Bool) → (last-tick + 40 * words < tick) ⊎ (tick ≤ last-tick + 40 * words) →
        (a && nat_le tick (last-tick + 40 * words) && nat_lt tick (t.first + longest)) ≡ false
    too-late false c = refl
    too-late true (inl high) =
        let no : nat_le tick (last-tick + 40 * words) ≡ false = lt-leb tick (last-tick + 40 * words) high in rw no refl
    too-late true (inr low) =
        let no : nat_lt tick (t.first + longest) ≡ false = le-ltb tick (t.first + longest) (omega (arith, low, late, begins, some)) in
        rw no (and_right (nat_le tick (last-tick + 40 * words)) false refl)

-- ---- what is shown of it after its words

-- in a tick after its words what is shown is what an extra adds
after-words : (faults : List Fault) (s : Sender) (hits : List Hit) (before sent : List (List Drive)) (now : List Drive) →
    SentPart faults s hits before (now ∷ sent) → 40 * length s.words ≤ length sent →
    shown_by faults ((now ∷ sent) ++ before) (length (sent ++ before)) s.channel
    (find (is_of s.station s.channel) (transmissions faults ((now ∷ sent) ++ before))) (station_drive s.station now)
    ≡ added_sample (own faults s before) ((now ∷ sent) ++ before) (length before + length sent) hits
after-words faults s hits before sent now h late =
    let long : length (sent ++ before) ≡ length sent + length before = length-append sent before in
    let at : length (sent ++ before) ≡ length before + length sent = omega (arith, long) in
    shown-other faults ((now ∷ sent) ++ before) (length (sent ++ before)) s.channel
    (find (is_of s.station s.channel) (transmissions faults ((now ∷ sent) ++ before))) (station_drive s.station now)
    (is-silent s (length sent) now h.ticks.0 late)
    ∙ ap (shown_silent faults ((now ∷ sent) ++ before) (length (sent ++ before))) (own-found faults s hits before sent now h)
    ∙ ap (λ tick. added_sample (own faults s before) ((now ∷ sent) ++ before) tick (hits_of faults (own faults s before))) at
    ∙ ap (added_sample (own faults s before) ((now ∷ sent) ++ before) (length before + length sent)) h.named

extra-shown : (faults : List Fault) (s : Sender) (hits : List Hit) (before sent : List (List Drive)) (now : List Drive) →
    SentPart faults s hits before (now ∷ sent) → 40 * length s.words ≤ length sent → length sent < part_ticks hits s.words →
    samples_on faults s.channel ((now ∷ sent) ++ before) ≡ part_sample hits s.words (length sent) ∷ []
unfolding samples_on
extra-shown faults s hits before sent now h late low = elim (whole-or-short s.part hits s.words h.fits) [
  | inr short ↦ (let ticks = short.1.ticks in let early = short.1.before in absurd (omega (arith, late, low, ticks, early)))
  | inl whole ↦ (
      let own-long = whole.own in
      let ticks = whole.ticks in
      let more : 0 < added_by hits = omega (arith, late, low, ticks) in
      samples-one faults ((now ∷ sent) ++ before) (length (sent ++ before)) s.channel (transmissions faults ((now ∷ sent) ++ before))
      0 s.station s.station now Silent (part_sample hits s.words (length sent)) (omega arith) (sends-nothing s (length sent) now h.ticks.0 late)
      (after-words faults s hits before sent now h late
      ∙ extra-is (own faults s before) ((now ∷ sent) ++ before) (length before + length sent) hits (apart-all hits h.fits.apart) more
      ∙ extra-some faults s hits before (now ∷ sent) h more (length sent) late (omega (arith, low, ticks)) (omega arith)
      ∙ ap (λ x. Some x) (sym (added-sample hits s.words (length sent) (omega (arith, late, own-long)) low)))
      (others-none faults s hits before sent now h))
]

pub some-words : (n : ℕ) → n ≢ 0 → 0 < n
some-words zero some = absurd (some refl)
some-words (suc n) some = omega arith

-- nothing is left of an extra from the end of the part on
pub nothing-added : (faults : List Fault) (s : Sender) (hits : List Hit) (before sent : List (List Drive)) (tick : ℕ) → SentPart faults s hits before sent →
    part_ticks hits s.words ≤ length sent → length before + part_ticks hits s.words ≤ tick →
    added_sample (own faults s before) (sent ++ before) tick hits ≡ None
nothing-added faults s hits before sent tick h over late = elim (cases_eq (added_by hits) 0) [
  | inl none ↦ added-nothing (own faults s before) (sent ++ before) tick hits none
  | inr some ↦ elim (whole-or-short s.part hits s.words h.fits) [
    | inr short ↦ absurd (some short.1.added)
    | inl whole ↦ (
        let ticks = whole.ticks in
        let words = h.fits.some in
        extra-is (own faults s before) (sent ++ before) tick hits (apart-all hits h.fits.apart) (some-words (added_by hits) some)
        ∙ extra-over (own faults s before) (sent ++ before) (length before) (length s.words) (added_by hits) tick
        (last_since s.station s.channel (sent ++ before) (length before)) refl words
        (last-sent s before sent h.ticks words (omega (arith, over, ticks))) (omega (arith, late, ticks)))
  ]
]

nothing-shown : (faults : List Fault) (s : Sender) (hits : List Hit) (before sent : List (List Drive)) (now : List Drive) →
    SentPart faults s hits before (now ∷ sent) → 40 * length s.words ≤ length sent → part_ticks hits s.words ≤ length sent →
    samples_on faults s.channel ((now ∷ sent) ++ before) ≡ []
unfolding samples_on
nothing-shown faults s hits before sent now h late over =
    samples-none faults ((now ∷ sent) ++ before) (length (sent ++ before)) s.channel (transmissions faults ((now ∷ sent) ++ before)) 0 now
    (λ place st e. elim (cases_eq st s.station) [
      | inr apart ↦ others-none faults s hits before sent now h place st e apart
      | inl same ↦ (
          let here : place ≡ s.station = omega (arith, e, same) in
          rw (here, same) (after-words faults s hits before sent now h late
          ∙ nothing-added faults s hits before (now ∷ sent) (length before + length sent) h (omega (arith, over)) (omega (arith, over))))
    ])

-- ---- one tick

-- the channel shows this sample: one station drives it, or none and it is quiet
abbrev pub IsShownAs : Sample → List Sample → Type 0
IsShownAs x samples = (samples ≡ x ∷ []) ⊎ ((samples ≡ []) × (x ≡ Quiet))

pub part-now : (faults : List Fault) (s : Sender) (hits : List Hit) (before sent : List (List Drive)) (now : List Drive) →
    SentPart faults s hits before (now ∷ sent) → IsShownAs (part_sample hits s.words (length sent)) (samples_on faults s.channel ((now ∷ sent) ++ before))
part-now faults s hits before sent now h = elim (cases_lt (length sent) (40 * length s.words)) [
  | inl low ↦ inl (own-shown faults s hits before sent now h low)
  | inr late ↦ elim (cases_lt (length sent) (part_ticks hits s.words)) [
    | inl extra ↦ inl (extra-shown faults s hits before sent now h late extra)
    | inr over ↦ inr (nothing-shown faults s hits before sent now h late over, no-sample hits s.words (length sent) over)
  ]
]

shown-as : (x : Sample) (samples : List Sample) → IsShownAs x samples → shown_of samples ≡ x
shown-as x samples (inl one) = ap shown_of one
shown-as x samples (inr none) = ap shown_of none.0 ∙ sym none.1

few-as : (x : Sample) (samples : List Sample) → IsShownAs x samples → length samples ≤ 1
few-as x samples (inl one) = let long : length samples ≡ 1 = ap (λ (xs : List Sample). length xs) one in omega (arith, long)
few-as x samples (inr none) = let long : length samples ≡ 0 = ap (λ (xs : List Sample). length xs) none.0 in omega (arith, long)

pub part-shown-now : (faults : List Fault) (s : Sender) (hits : List Hit) (before sent : List (List Drive)) (now : List Drive) →
    SentPart faults s hits before (now ∷ sent) → shown_of (samples_on faults s.channel ((now ∷ sent) ++ before)) ≡ part_sample hits s.words (length sent)
part-shown-now faults s hits before sent now h =
    shown-as (part_sample hits s.words (length sent)) (samples_on faults s.channel ((now ∷ sent) ++ before)) (part-now faults s hits before sent now h)

pub part-drivers : (faults : List Fault) (s : Sender) (hits : List Hit) (before sent : List (List Drive)) (now : List Drive) →
    SentPart faults s hits before (now ∷ sent) → drivers faults s.channel ((now ∷ sent) ++ before) ≤ 1
part-drivers faults s hits before sent now h =
    few-as (part_sample hits s.words (length sent)) (samples_on faults s.channel ((now ∷ sent) ++ before)) (part-now faults s hits before sent now h)

-- ---- all ticks

pub part-shown : (faults : List Fault) (s : Sender) (hits : List Hit) (before sent : List (List Drive)) → SentPart faults s hits before sent →
    shown_on faults s.channel (sent ++ before) ≡ first_samples (part_sample hits s.words) (length sent) ++ shown_on faults s.channel before
part-shown faults s hits before [] h = refl
part-shown faults s hits before (now ∷ sent) h =
    rw (part-shown-now faults s hits before sent now h, part-shown faults s hits before sent (fewer-ticks faults s hits before sent now h)) refl
