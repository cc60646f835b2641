-- The newest transmission of a station on a channel, with one transmission more.
use Rattle.std.proofs.Common.{◌≡◌, ◌≢◌, ℕ, ◌+◌, false, ◌==◌, List, ◌∷◌, Some, refl, sym, ◌∙◌, if◌then◌else◌, add_comm}
use Rattle.std.specs.Prelude.{find, count_by}
use Rattle.std.proofs.lemmas.List.Sums.{sum_by-cons}
use Rattle.std.proofs.lemmas.Bool.{eq-eqb, ne_eqb, and_right}
use Rattle.bus_base.specs.Samples.{same_channel, same_part}
use Rattle.bus_base.specs.declared.samples.Channel.{Channel}
use Rattle.bus_base.specs.declared.samples.Part.{Part}
use Rattle.bus_base.specs.declared.samples.Part.TheVariants.{Command}
use Rattle.bus_model.specs.Transmissions.{Transmission, is_of, is_command, new_transmission}
use Rattle.bus_wire.proofs.LastLaws.{same-channel}

-- the one that began is found
pub found-own : (station : ℕ) (c : Channel) (part : Part) (tick : ℕ) (ts : List Transmission) →
    find (is_of station c) (new_transmission station c part tick ts ∷ ts) ≡ Some (new_transmission station c part tick ts)
found-own station c part tick ts = rw (eq-eqb station station refl, same-channel c) refl

-- another station's, or one on the other channel, isn't
pub found-other-station : (i station : ℕ) (c on : Channel) (part : Part) (tick : ℕ) (ts : List Transmission) → station ≢ i →
    find (is_of i on) (new_transmission station c part tick ts ∷ ts) ≡ find (is_of i on) ts
found-other-station i station c on part tick ts h = rw (ne_eqb station i h) refl

pub found-other-channel : (i station : ℕ) (c on : Channel) (part : Part) (tick : ℕ) (ts : List Transmission) → same_channel c on ≡ false →
    find (is_of i on) (new_transmission station c part tick ts ∷ ts) ≡ find (is_of i on) ts
found-other-channel i station c on part tick ts h = rw (and_right (station == i) (same_channel c on) h) refl

-- it counts if it is a command's
pub counted-new : (station : ℕ) (c : Channel) (part : Part) (tick : ℕ) (ts : List Transmission) →
    count_by is_command ts + (if same_part part Command then 1 else 0) ≡ count_by is_command (new_transmission station c part tick ts ∷ ts)
counted-new station c part tick ts =
    add_comm (count_by is_command ts) (if same_part part Command then 1 else 0)
    ∙ sym (sum_by-cons (λ t. if is_command t then 1 else 0) (new_transmission station c part tick ts) ts)
