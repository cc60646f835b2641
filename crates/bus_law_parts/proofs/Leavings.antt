-- What is left when a part is over: no extra, and each station's next drive begins a transmission.
use Rattle.std.proofs.Common.{◌≡◌, inl, inr, ℕ, suc, ◌+◌, ◌-◌, ◌*◌, ◌≤◌, Bool, true, false, ◌==◌, List, [], ◌∷◌, ◌++◌, length, refl, ap, ◌∙◌, arith, length-append}
use Rattle.std.proofs.lemmas.Bool.{cases_eq, cases_lt, and_right}
use Rattle.std.proofs.lemmas.Bool.Decides.{nat_tests}
use Rattle.std.specs.Prelude.{◌&&◌, not, find}
use Rattle.std.specs.List.{list_any}
use Rattle.bus_base.specs.declared.samples.Channel.{Channel}
use Rattle.bus_base.specs.declared.samples.Drive.{Drive}
use Rattle.bus_formats.specs.declared.fault.Fault.{Fault}
use Rattle.bus_formats.specs.declared.fault.Hit.{Hit}
use Rattle.bus_model.specs.Transmissions.{drives_on, station_drive, is_of, is_cut_over, cut_over, hits_of, transmissions}
use Rattle.bus_law_line.specs.Senders.{IsSpent, Sender}
use Rattle.bus_law_parts.specs.Parts.{IsFresh, SentPart, part_ticks}
use Rattle.bus_law_parts.proofs.Lengths.{whole-or-short}
use Rattle.bus_law_parts.proofs.LookBacks.{is-silent}
use Rattle.bus_law_parts.proofs.SentParts.{own, own-found, others-spent, nothing-added}

-- a station that didn't drive the channel in the newest tick is fresh
pub fresh-silent : (faults : List Fault) (c : Channel) (before : List (List Drive)) (now : List Drive) (station : ℕ) →
    drives_on c (station_drive station now) ≡ false → IsFresh faults c (now ∷ before) station
fresh-silent faults c before now station silent = rw silent refl

pub fresh-first : (faults : List Fault) (c : Channel) (station : ℕ) → IsFresh faults c [] station
fresh-first faults c station = refl

module _ (faults : List Fault) (s : Sender) (hits : List Hit) (before sent : List (List Drive)) (now : List Drive) (h : SentPart faults s hits before (now ∷ sent)) where
  -- no extra is left from the end of the part on
  pub spent-part : part_ticks hits s.words ≤ suc (length sent) → (station : ℕ) → IsSpent faults s.channel ((now ∷ sent) ++ before) station
  spent-part over station = elim (cases_eq station s.station) [
    | inr apart ↦ others-spent faults s hits before (now ∷ sent) h station apart
    | inl same ↦ (
        let long : length (sent ++ before) ≡ length sent + length before = length-append sent before in
        rw (same, own-found faults s hits before sent now h, h.named)
        (nothing-added faults s hits before (now ∷ sent) (length ((now ∷ sent) ++ before)) h (omega (arith, over)) (omega (arith, long, over))))
  ]

  cut-fresh : (b c : Bool) → c ≡ true → (b && not c) ≡ false
  cut-fresh b c over = rw over (and_right b false refl)

  own-fresh : suc (length sent) ≡ part_ticks hits s.words + 4 → IsFresh faults s.channel ((now ∷ sent) ++ before) s.station
  own-fresh all = elim (cases_lt (length sent) (40 * length s.words)) [
    | inr late ↦ fresh-silent faults s.channel (sent ++ before) now s.station (is-silent s (length sent) now h.ticks.0 late)
    | inl low ↦ elim (whole-or-short s.part hits s.words h.fits) [
      | inl whole ↦ (let ticks = whole.ticks in absurd (omega (arith, all, low, ticks)))
      | inr short ↦ (
          let ticks = short.1.ticks in
          let long : length (sent ++ before) ≡ length sent + length before = length-append sent before in
          let at : length ((now ∷ sent) ++ before) - length before ≡ suc (length sent) = omega (arith, long) in
          let fourth : (suc (length sent) == 40 * short.0 + 4) ≡ true = grind (arith, nat_tests, all, ticks) in
          cut-fresh (drives_on s.channel (station_drive s.station now))
          (is_cut_over faults (length ((now ∷ sent) ++ before)) (find (is_of s.station s.channel) (transmissions faults ((now ∷ sent) ++ before))))
          (ap (is_cut_over faults (length ((now ∷ sent) ++ before))) (own-found faults s hits before sent now h)
          ∙ ap (λ i. list_any (cut_over i) (hits_of faults (own faults s before))) at
          ∙ ap (list_any (cut_over (suc (length sent)))) h.named
          ∙ short.1.over (suc (length sent))
          ∙ fourth))
    ]
  ]

  -- after the four ticks in which a cut part is driven on, or after silence, each is fresh
  pub fresh-part : suc (length sent) ≡ part_ticks hits s.words + 4 → (station : ℕ) → IsFresh faults s.channel ((now ∷ sent) ++ before) station
  fresh-part all station = elim (cases_eq station s.station) [
    | inr apart ↦ fresh-silent faults s.channel (sent ++ before) now station (h.ticks.0.alone station apart)
    | inl same ↦ rw same (own-fresh all)
  ]
