-- Where a station's drive begins a transmission: also right after one that a cut has ended.
use Rattle.std.proofs.Common.{◌≡◌, ◌≢◌, ℕ, zero, suc, ◌+◌, Bool, true, false, ◌==◌, List, [], ◌∷◌, Some, refl, sym, ap, ◌∙◌, subst, arith, inl, inr}
use Rattle.std.proofs.lemmas.Bool.{cases_eq, eq-eqb, ne_eqb, and_left, and_right}
use Rattle.std.proofs.lemmas.Option.{none-some, same_Some}
use Rattle.std.specs.List.{fold}
use Rattle.std.specs.Prelude.{not, ◌&&◌, if◌then◌else◌, slice_get, count_by, find}
use Rattle.bus_base.specs.declared.samples.Channel.{Channel}
use Rattle.bus_base.specs.declared.samples.Part.{Part}
use Rattle.bus_base.specs.declared.samples.Sample.{Sample}
use Rattle.bus_base.specs.declared.samples.Drive.{Drive}
use Rattle.bus_base.specs.declared.samples.Drive.TheVariants.{Silent, On}
use Rattle.bus_formats.specs.declared.fault.Fault.{Fault}
use Rattle.bus_model.specs.Transmissions.{drives_on, station_drive, Transmission, is_of, is_command, new_transmission, is_cut_over, with_drive, with_drives}
use Rattle.bus_law_line.specs.Senders.{drives_command}
use Rattle.bus_law_line.proofs.Begun.{same-itself, find-other, find-silent, begun}

either-count : (b : Bool) (t : Transmission) (ts : List Transmission) → is_command t ≡ false →
    count_by is_command (if b then ts else t ∷ ts) ≡ count_by is_command ts
either-count true t ts other = refl
either-count false t ts other = ap (λ (b : Bool). fold (λ a x. a + (if is_command x then 1 else 0)) (0 + (if b then 1 else 0)) ts) other

-- a drive that is no command begins none
pub count-same : (faults : List Fault) (st tick : ℕ) (before drive : Drive) (ts : List Transmission) → drives_command drive ≡ false →
    count_by is_command (with_drive faults st tick before ts drive) ≡ count_by is_command ts
count-same faults st tick before Silent ts other = refl
count-same faults st tick before (On d sample part last) ts other =
    either-count (drives_on d before && not (is_cut_over faults tick (find (is_of st d) ts))) (new_transmission st d part tick ts) ts other

pub not-both : (s st : ℕ) (b : Bool) → (st ≡ s → b ≡ false) → ((st == s) && b) ≡ false
not-both s st b h = elim (cases_eq st s) [
  | inl same ↦ and_right (st == s) b (h same)
  | inr apart ↦ and_left (st == s) b (ne_eqb st s apart)
]

begins-fresh-here : (faults : List Fault) (s tick : ℕ) (c : Channel) (sample : Sample) (part : Part) (last : Bool) (before drives : List Drive)
    (ts : List Transmission) → (drives_on c (station_drive s before) && not (is_cut_over faults tick (find (is_of s c) ts))) ≡ false →
    find (is_of s c) (with_drives faults s tick before (On c sample part last ∷ drives) ts) ≡ Some (new_transmission s c part tick ts)
begins-fresh-here faults s tick c sample part last before drives ts fresh =
    let itself : (s == s) ≡ true = eq-eqb s s refl in
    find-silent faults s c (suc s) tick before drives (with_drive faults s tick (station_drive s before) ts (On c sample part last))
    (λ place e. absurd (omega (arith, e)))
    ∙ (rw (fresh, itself, same-itself c) refl)

-- the newest transmission of a station that is fresh is the one that begins; of the others none drives a command, by which attempts are counted
pub find-begins-fresh : (faults : List Fault) (s st place tick n : ℕ) (c : Channel) (sample : Sample) (part : Part) (last : Bool)
    (before drives : List Drive) (ts : List Transmission) → st + place ≡ s → slice_get drives place ≡ Some (On c sample part last) →
    (drives_on c (station_drive s before) && not (is_cut_over faults tick (find (is_of s c) ts))) ≡ false →
    ((other : ℕ) → other ≢ place → drives_command (station_drive other drives) ≡ false) →
    count_by is_command ts ≡ n → find (is_of s c) (with_drives faults st tick before drives ts) ≡ Some (begun s c part tick n)
find-begins-fresh faults s st place tick n c sample part last before [] ts at own fresh counted count = absurd (none-some _ own)
find-begins-fresh faults s st zero tick n c sample part last before (drive ∷ drives) ts at own fresh counted count =
    let here : st ≡ s = omega (arith, at) in
    let same : drive ≡ On c sample part last = same_Some _ _ own in
    subst (λ d. find (is_of s c) (with_drives faults st tick before (d ∷ drives) ts) ≡ Some (begun s c part tick n)) (sym same)
    (subst (λ p. find (is_of s c) (with_drives faults p tick before (On c sample part last ∷ drives) ts) ≡ Some (begun s c part tick n)) (sym here)
    (begins-fresh-here faults s tick c sample part last before drives ts fresh ∙ ap (λ m. Some (begun s c part tick m)) count))
find-begins-fresh faults s st (suc place) tick n c sample part last before (drive ∷ drives) ts at own fresh counted count =
    let apart : ((st == s) && drives_on c drive) ≡ false = not-both s st (drives_on c drive) (λ e. absurd (omega (arith, e, at))) in
    let same = find-other faults s c st tick (station_drive st before) drive ts apart in
    find-begins-fresh faults s (suc st) place tick n c sample part last before drives (with_drive faults st tick (station_drive st before) ts drive)
    (omega (arith, at)) own (ap (λ o. drives_on c (station_drive s before) && not (is_cut_over faults tick o)) same ∙ fresh)
    (λ other apart. counted (suc other) (λ e. apart (omega (arith, e))))
    (count-same faults st tick (station_drive st before) drive ts (counted 0 (λ e. omega (arith, e))) ∙ count)
