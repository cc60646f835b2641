-- What is left of a part whose station stops: no extra follows words that weren't sent whole, and one that runs ends with a drive beside it.
use Rattle.std.proofs.Common.{◌≡◌, ◌≢◌, inl, inr, ℕ, zero, suc, ◌+◌, ◌-◌, ◌*◌, ◌<◌, Bool, true, false, nat_lt, List, [], ◌∷◌, ◌++◌, length, Option, Some, None, refl, ap, ◌∙◌, arith, length-append}
use Rattle.std.proofs.Math.Bool.{or-true}
use Rattle.std.proofs.lemmas.Bool.{cases_eq, and_right}
use Rattle.std.specs.Prelude.{◌&&◌, ◌||◌, not, nat_le, if◌then◌else◌, find}
use Rattle.std.specs.List.{list_any}
use Rattle.bus_base.specs.Samples.{other_of, same_part}
use Rattle.bus_base.specs.declared.samples.Channel.{Channel}
use Rattle.bus_base.specs.declared.samples.Drive.{Drive}
use Rattle.bus_base.specs.declared.samples.Part.TheVariants.{Command}
use Rattle.bus_base.specs.declared.samples.Sample.{Sample}
use Rattle.bus_base.specs.declared.samples.Sample.TheVariants.{Quiet}
use Rattle.bus_formats.specs.declared.fault.Fault.{Fault}
use Rattle.bus_formats.specs.declared.fault.Hit.{Hit}
use Rattle.bus_model.specs.Strikes.{added_by}
use Rattle.bus_model.specs.Transmissions.{drives_on, station_drive, drove_since, driven_since, last_since, Transmission, is_of, transmissions}
use Rattle.bus_model.specs.Wire.{zero_sample, longest, ends_beside, extra_after, added_sample, shown_silent, shown_by, samples_on, drivers}
use Rattle.bus_law_line.specs.Shown.{shown_of, shown_on}
use Rattle.bus_law_line.specs.Senders.{IsSpent, IsUndriven, Sender}
use Rattle.bus_law_line.proofs.Samples.{shown-other, samples-none}
use Rattle.bus_law_line.proofs.Spent.{added-nothing, find-same, spent-later}
use Rattle.bus_law_parts.specs.Parts.{HitsFit, SentPart, IsDriven, WasDriven}
use Rattle.bus_law_parts.proofs.Strikes.{apart-all}
use Rattle.bus_law_parts.proofs.Counting.{no-command}
use Rattle.bus_law_parts.proofs.LookBacks.{last-none, driven-more}
use Rattle.bus_law_parts.proofs.SentParts.{own, own-found, others-spent, other-none, extra-is, some-words}

-- ---- words that weren't sent whole

no-extra : (faults : List Fault) (s : Sender) (hits : List Hit) (before sent : List (List Drive)) (tick : ℕ) → SentPart faults s hits before sent →
    length sent < 40 * length s.words → added_sample (own faults s before) (sent ++ before) tick hits ≡ None
no-extra faults s hits before sent tick h early = elim (cases_eq (added_by hits) 0) [
  | inl none ↦ added-nothing (own faults s before) (sent ++ before) tick hits none
  | inr some ↦ (
      extra-is (own faults s before) (sent ++ before) tick hits (apart-all hits h.fits.apart) (some-words (added_by hits) some)
      ∙ ap (extra_after (own faults s before) (sent ++ before) tick (added_by hits)) (last-none s before sent h.ticks early))
]

pub spent-stopped : (faults : List Fault) (s : Sender) (hits : List Hit) (before sent : List (List Drive)) (now : List Drive) →
    SentPart faults s hits before (now ∷ sent) → suc (length sent) < 40 * length s.words →
    (station : ℕ) → IsSpent faults s.channel ((now ∷ sent) ++ before) station
spent-stopped faults s hits before sent now h early station = elim (cases_eq station s.station) [
  | inr apart ↦ others-spent faults s hits before (now ∷ sent) h station apart
  | inl same ↦ rw (same, own-found faults s hits before sent now h, h.named)
      (no-extra faults s hits before (now ∷ sent) (length ((now ∷ sent) ++ before)) h early)
]

-- ---- an extra of an answer beside which another station drives the other channel

some-drive : (c : Channel) (now : List Drive) (other : ℕ) → drives_on c (station_drive other now) ≡ true → list_any (drives_on c) now ≡ true
some-drive c [] other drives = absurd (grind (arith, drives))
some-drive c (drive ∷ drives) zero own = rw own refl
some-drive c (drive ∷ drives) (suc other) own = rw (some-drive c drives other own) (or-true (drives_on c drive))

was-driven : (c : Channel) (before ticks : List (List Drive)) → WasDriven c ticks → driven_since c (ticks ++ before) (length before) ≡ true
was-driven c before [] was = elim was [ ]
was-driven c before (now ∷ ticks) (inl here) =
    let long : length (ticks ++ before) ≡ length ticks + length before = length-append ticks before in
    driven-more c now (ticks ++ before) (length before) (omega (arith, long))
    ∙ ap (λ b. b || driven_since c (ticks ++ before) (length before)) (some-drive c now here.0 here.1)
was-driven c before (now ∷ ticks) (inr earlier) =
    let long : length (ticks ++ before) ≡ length ticks + length before = length-append ticks before in
    driven-more c now (ticks ++ before) (length before) (omega (arith, long))
    ∙ ap (λ b. list_any (drives_on c) now || b) (was-driven c before ticks earlier)
    ∙ or-true (list_any (drives_on c) now)

both : (a b : Bool) → a ≡ false → b ≡ true → (not a && b) ≡ true
both a b p q = rw (p, q) refl

is-ended : (faults : List Fault) (s : Sender) (before ticks : List (List Drive)) → s.part ≢ Command → WasDriven (other_of s.channel) ticks →
    ends_beside (own faults s before) (ticks ++ before) ≡ true
is-ended faults s before ticks answer beside =
    both (same_part s.part Command) (driven_since (other_of s.channel) (ticks ++ before) (length before)) (no-command s.part answer)
    (was-driven (other_of s.channel) before ticks beside)

ended-by : (a e : Bool) (x : Sample) → e ≡ true → (if a && not e then Some x else None) ≡ None
ended-by a e x over = rw over (ap (λ (b : Bool). if b then Some x else None) (and_right a false refl))

ended-extra : (t : Transmission) (driven : List (List Drive)) (tick words : ℕ) (o : Option ℕ) → ends_beside t driven ≡ true →
    extra_after t driven tick words o ≡ None
ended-extra t driven tick words None over = refl
ended-extra t driven tick words (Some last) over =
    ended-by (nat_lt last tick && nat_le tick (last + 40 * words) && nat_lt tick (t.first + longest)
    && not (drove_since t.station t.channel driven (suc last))) (ends_beside t driven) (zero_sample (tick - suc last)) over

none-added : (faults : List Fault) (s : Sender) (hits : List Hit) (before ticks : List (List Drive)) (tick : ℕ) → HitsFit s.part hits s.words →
    s.part ≢ Command → WasDriven (other_of s.channel) ticks → added_sample (own faults s before) (ticks ++ before) tick hits ≡ None
none-added faults s hits before ticks tick fits answer beside = elim (cases_eq (added_by hits) 0) [
  | inl none ↦ added-nothing (own faults s before) (ticks ++ before) tick hits none
  | inr some ↦ (
      extra-is (own faults s before) (ticks ++ before) tick hits (apart-all hits fits.apart) (some-words (added_by hits) some)
      ∙ ended-extra (own faults s before) (ticks ++ before) tick (added_by hits) (last_since s.station s.channel (ticks ++ before) (length before))
      (is-ended faults s before ticks answer beside))
]

-- nothing is left of it after such a tick
pub spent-beside : (faults : List Fault) (s : Sender) (hits : List Hit) (before sent : List (List Drive)) (now : List Drive) →
    SentPart faults s hits before (now ∷ sent) → s.part ≢ Command → WasDriven (other_of s.channel) (now ∷ sent) →
    (station : ℕ) → IsSpent faults s.channel ((now ∷ sent) ++ before) station
spent-beside faults s hits before sent now h answer beside station = elim (cases_eq station s.station) [
  | inr apart ↦ others-spent faults s hits before (now ∷ sent) h station apart
  | inl same ↦ rw (same, own-found faults s hits before sent now h, h.named)
      (none-added faults s hits before (now ∷ sent) (length ((now ∷ sent) ++ before)) h.fits answer beside)
]

module _ (faults : List Fault) (s : Sender) (hits : List Hit) (before sent : List (List Drive)) (last now : List Drive)
    (h : SentPart faults s hits before (last ∷ sent)) (answer : s.part ≢ Command) (left : IsUndriven s.channel now)
    (beside : IsDriven (other_of s.channel) now) where
  found-still : find (is_of s.station s.channel) (transmissions faults (now ∷ ((last ∷ sent) ++ before))) ≡ Some (own faults s before)
  found-still = find-same faults s.station s.channel now ((last ∷ sent) ++ before) (left s.station) ∙ own-found faults s hits before sent last h

  own-none : shown_by faults (now ∷ ((last ∷ sent) ++ before)) (length ((last ∷ sent) ++ before)) s.channel
      (find (is_of s.station s.channel) (transmissions faults (now ∷ ((last ∷ sent) ++ before)))) (station_drive s.station now) ≡ None
  own-none =
      shown-other faults (now ∷ ((last ∷ sent) ++ before)) (length ((last ∷ sent) ++ before)) s.channel
      (find (is_of s.station s.channel) (transmissions faults (now ∷ ((last ∷ sent) ++ before)))) (station_drive s.station now) (left s.station)
      ∙ ap (shown_silent faults (now ∷ ((last ∷ sent) ++ before)) (length ((last ∷ sent) ++ before))) found-still
      ∙ ap (added_sample (own faults s before) (now ∷ ((last ∷ sent) ++ before)) (length ((last ∷ sent) ++ before))) h.named
      ∙ none-added faults s hits before (now ∷ (last ∷ sent)) (length ((last ∷ sent) ++ before)) h.fits answer (inl beside)

  none-shown : samples_on faults s.channel (now ∷ ((last ∷ sent) ++ before)) ≡ []
  unfolding samples_on
  none-shown =
      samples-none faults (now ∷ ((last ∷ sent) ++ before)) (length ((last ∷ sent) ++ before)) s.channel
      (transmissions faults (now ∷ ((last ∷ sent) ++ before))) 0 now
      (λ place st e. elim (cases_eq st s.station) [
        | inl same ↦ (let here : place ≡ s.station = omega (arith, e, same) in rw (here, same) own-none)
        | inr apart ↦ (
            let here : place ≡ st = omega (arith, e) in rw here
            (other-none faults st s.channel now ((last ∷ sent) ++ before) (others-spent faults s hits before (last ∷ sent) h st apart) (left st)))
      ])

  pub quiet-ended : shown_on faults s.channel (now ∷ ((last ∷ sent) ++ before)) ≡ Quiet ∷ shown_on faults s.channel ((last ∷ sent) ++ before)
  quiet-ended = ap (λ xs. shown_of xs ∷ shown_on faults s.channel ((last ∷ sent) ++ before)) none-shown

  pub undriven-ended : drivers faults s.channel (now ∷ ((last ∷ sent) ++ before)) ≡ 0
  undriven-ended = ap (λ (xs : List Sample). length xs) none-shown

  pub spent-ended : (station : ℕ) → IsSpent faults s.channel (now ∷ ((last ∷ sent) ++ before)) station
  spent-ended station = elim (cases_eq station s.station) [
    | inr apart ↦ spent-later faults station s.channel now ((last ∷ sent) ++ before)
        (others-spent faults s hits before (last ∷ sent) h station apart) (left station)
    | inl same ↦ rw (same, found-still, h.named)
        (none-added faults s hits before (now ∷ (last ∷ sent)) (length (now ∷ ((last ∷ sent) ++ before))) h.fits answer (inl beside))
  ]
