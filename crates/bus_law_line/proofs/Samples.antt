-- The samples that count as driving a channel in a tick: none, or that of one station.
use Rattle.std.proofs.Common.{◌≡◌, ◌≢◌, ℕ, zero, suc, ◌+◌, ◌-◌, Bool, false, List, [], ◌∷◌, Option, Some, None, refl, arith}
use Rattle.std.proofs.lemmas.Option.{none-some}
use Rattle.std.specs.Prelude.{find, slice_get}
use Rattle.bus_base.specs.declared.samples.Channel.{Channel}
use Rattle.bus_base.specs.declared.samples.Part.{Part}
use Rattle.bus_base.specs.declared.samples.Sample.{Sample}
use Rattle.bus_base.specs.declared.samples.Drive.{Drive}
use Rattle.bus_base.specs.declared.samples.Drive.TheVariants.{Silent, On}
use Rattle.bus_formats.specs.declared.fault.Fault.{Fault}
use Rattle.bus_model.specs.Transmissions.{drives_on, station_drive, Transmission, is_of, hits_of}
use Rattle.bus_model.specs.Wire.{struck_sample, shown_by, shown_silent, samples_by}
use Rattle.bus_law_line.proofs.Begun.{same-itself}

-- of a station that doesn't drive the channel what an extra adds is shown
pub shown-other : (faults : List Fault) (driven : List (List Drive)) (tick : ℕ) (c : Channel) (t : Option Transmission) (drive : Drive) →
    drives_on c drive ≡ false → shown_by faults driven tick c t drive ≡ shown_silent faults driven tick t
shown-other faults driven tick c t Silent silent = refl
shown-other faults driven tick c t (On d sample part last) silent = rw silent refl

-- of one that does, its struck sample
pub shown-own : (faults : List Fault) (driven : List (List Drive)) (tick : ℕ) (c : Channel) (t : Transmission) (sample : Sample) (part : Part)
    (last : Bool) → shown_by faults driven tick c (Some t) (On c sample part last) ≡ Some (struck_sample (tick - t.first) (hits_of faults t) sample)
shown-own faults driven tick c t sample part last = rw (same-itself c) refl

module _ (faults : List Fault) (driven : List (List Drive)) (tick : ℕ) (c : Channel) (ts : List Transmission) where
  -- nothing is shown of any station
  pub samples-none : (st : ℕ) (drives : List Drive) →
      ((place s : ℕ) → st + place ≡ s → shown_by faults driven tick c (find (is_of s c) ts) (station_drive place drives) ≡ None) →
      samples_by faults driven tick c ts st drives ≡ []
  samples-none st [] none = refl
  samples-none st (drive ∷ drives) none =
      rw (none 0 st (omega arith)) (samples-none (suc st) drives (λ place s e. none (suc place) s (omega (arith, e))))

  -- or of one alone
  pub samples-one : (st place s : ℕ) (drives : List Drive) (drive : Drive) (sample : Sample) → st + place ≡ s → slice_get drives place ≡ Some drive →
      shown_by faults driven tick c (find (is_of s c) ts) (station_drive place drives) ≡ Some sample →
      ((other o : ℕ) → st + other ≡ o → o ≢ s → shown_by faults driven tick c (find (is_of o c) ts) (station_drive other drives) ≡ None) →
      samples_by faults driven tick c ts st drives ≡ sample ∷ []
  samples-one st place s [] drive sample at there own none = absurd (none-some drive there)
  samples-one st zero s (first ∷ drives) drive sample at there own none =
      let here : st ≡ s = omega (arith, at) in
      let rest : samples_by faults driven tick c ts (suc st) drives ≡ [] =
      samples-none (suc st) drives (λ other o e. none (suc other) o (omega (arith, e)) (λ f. omega (arith, e, f, here))) in
      rw (here, own, rw here at rest) refl
  samples-one st (suc place) s (first ∷ drives) drive sample at there own none =
      rw (none 0 st (omega arith) (λ f. omega (arith, f, at)))
      (samples-one (suc st) place s drives drive sample (omega (arith, at)) there own (λ other o e. none (suc other) o (omega (arith, e))))
