-- Which transmission of a station on a channel is found as the newest, one tick on.
use Rattle.std.proofs.Common.{◌≡◌, ◌≢◌, ℕ, zero, suc, ◌+◌, Bool, true, false, ◌==◌, List, [], ◌∷◌, Some, refl, sym, ap, ◌∙◌, subst, arith, inl, inr}
use Rattle.std.proofs.lemmas.Bool.{cases_eq, eq-eqb, ne_eqb, and_left, and_right}
use Rattle.std.proofs.lemmas.Option.{none-some, same_Some}
use Rattle.std.specs.List.{fold}
use Rattle.std.specs.Prelude.{not, ◌&&◌, if◌then◌else◌, slice_get, count_by, find}
use Rattle.bus_base.specs.Samples.{same_channel, same_part}
use Rattle.bus_base.specs.declared.samples.Channel.{Channel}
use Rattle.bus_base.specs.declared.samples.Channel.TheVariants.{A, B}
use Rattle.bus_base.specs.declared.samples.Part.{Part}
use Rattle.bus_base.specs.declared.samples.Part.TheVariants.{Command}
use Rattle.bus_base.specs.declared.samples.Sample.{Sample}
use Rattle.bus_base.specs.declared.samples.Drive.{Drive}
use Rattle.bus_base.specs.declared.samples.Drive.TheVariants.{Silent, On}
use Rattle.bus_formats.specs.declared.fault.Fault.{Fault}
use Rattle.bus_model.specs.Transmissions.{drives_on, station_drive, Transmission, is_of, is_command, new_transmission, is_cut_over, with_drive, with_drives}
use Rattle.bus_law_line.specs.Senders.{drives_command}

pub same-itself : (c : Channel) → same_channel c c ≡ true
same-itself A = refl
same-itself B = refl

-- ---- one drive

either-find : (b : Bool) (s : ℕ) (c : Channel) (t : Transmission) (ts : List Transmission) → is_of s c t ≡ false →
    find (is_of s c) (if b then ts else t ∷ ts) ≡ find (is_of s c) ts
either-find true s c t ts other = refl
either-find false s c t ts other = rw other refl

either-count : (b : Bool) (t : Transmission) (ts : List Transmission) → is_command t ≡ false →
    count_by is_command (if b then ts else t ∷ ts) ≡ count_by is_command ts
either-count true t ts other = refl
either-count false t ts other = ap (λ (b : Bool). fold (λ a x. a + (if is_command x then 1 else 0)) (0 + (if b then 1 else 0)) ts) other

-- a drive of another station, or on the other channel, begins no transmission of this one on this
pub find-other : (faults : List Fault) (s : ℕ) (c : Channel) (st tick : ℕ) (before drive : Drive) (ts : List Transmission) →
    ((st == s) && drives_on c drive) ≡ false → find (is_of s c) (with_drive faults st tick before ts drive) ≡ find (is_of s c) ts
find-other faults s c st tick before Silent ts other = refl
find-other faults s c st tick before (On d sample part last) ts other =
    either-find (drives_on d before && not (is_cut_over faults tick (find (is_of st d) ts))) s c (new_transmission st d part tick ts) ts other

-- a drive that is no command begins none
count-other : (faults : List Fault) (st tick : ℕ) (before drive : Drive) (ts : List Transmission) → drives_command drive ≡ false →
    count_by is_command (with_drive faults st tick before ts drive) ≡ count_by is_command ts
count-other faults st tick before Silent ts other = refl
count-other faults st tick before (On d sample part last) ts other =
    either-count (drives_on d before && not (is_cut_over faults tick (find (is_of st d) ts))) (new_transmission st d part tick ts) ts other

-- ---- the drives of a tick

not-both : (s st : ℕ) (b : Bool) → (st ≡ s → b ≡ false) → ((st == s) && b) ≡ false
not-both s st b h = elim (cases_eq st s) [
  | inl same ↦ and_right (st == s) b (h same)
  | inr apart ↦ and_left (st == s) b (ne_eqb st s apart)
]

-- a station that doesn't drive the channel begins no transmission there
pub find-silent : (faults : List Fault) (s : ℕ) (c : Channel) (st tick : ℕ) (before drives : List Drive) (ts : List Transmission) →
    ((place : ℕ) → st + place ≡ s → drives_on c (station_drive place drives) ≡ false) →
    find (is_of s c) (with_drives faults st tick before drives ts) ≡ find (is_of s c) ts
find-silent faults s c st tick before [] ts silent = refl
find-silent faults s c st tick before (drive ∷ drives) ts silent =
    find-silent faults s c (suc st) tick before drives (with_drive faults st tick (station_drive st before) ts drive)
    (λ place e. silent (suc place) (omega (arith, e)))
    ∙ find-other faults s c st tick (station_drive st before) drive ts (not-both s st (drives_on c drive) (λ e. silent 0 (omega (arith, e))))

-- a station that didn't drive the channel before begins one; of the others none drives a command, by which attempts are counted
begins-here : (faults : List Fault) (s tick : ℕ) (c : Channel) (sample : Sample) (part : Part) (last : Bool) (before drives : List Drive)
    (ts : List Transmission) → drives_on c (station_drive s before) ≡ false →
    find (is_of s c) (with_drives faults s tick before (On c sample part last ∷ drives) ts) ≡ Some (new_transmission s c part tick ts)
begins-here faults s tick c sample part last before drives ts fresh =
    let itself : (s == s) ≡ true = eq-eqb s s refl in
    find-silent faults s c (suc s) tick before drives (with_drive faults s tick (station_drive s before) ts (On c sample part last))
    (λ place e. absurd (omega (arith, e)))
    ∙ (rw (fresh, itself, same-itself c) refl)

-- the transmission that began
abbrev pub begun : ℕ → Channel → Part → ℕ → ℕ → Transmission
begun s c part tick attempts =
    record { station = s; channel = c; part = part; attempt = attempts + (if same_part part Command then 1 else 0); first = tick }

pub find-begins : (faults : List Fault) (s st place tick n : ℕ) (c : Channel) (sample : Sample) (part : Part) (last : Bool)
    (before drives : List Drive) (ts : List Transmission) → st + place ≡ s → slice_get drives place ≡ Some (On c sample part last) →
    drives_on c (station_drive s before) ≡ false → ((other : ℕ) → other ≢ place → drives_command (station_drive other drives) ≡ false) →
    count_by is_command ts ≡ n → find (is_of s c) (with_drives faults st tick before drives ts) ≡ Some (begun s c part tick n)
find-begins faults s st place tick n c sample part last before [] ts at own fresh counted count = absurd (none-some _ own)
find-begins faults s st zero tick n c sample part last before (drive ∷ drives) ts at own fresh counted count =
    let here : st ≡ s = omega (arith, at) in
    let same : drive ≡ On c sample part last = same_Some _ _ own in
    subst (λ d. find (is_of s c) (with_drives faults st tick before (d ∷ drives) ts) ≡ Some (begun s c part tick n)) (sym same)
    (subst (λ p. find (is_of s c) (with_drives faults p tick before (On c sample part last ∷ drives) ts) ≡ Some (begun s c part tick n)) (sym here)
    (begins-here faults s tick c sample part last before drives ts fresh ∙ ap (λ m. Some (begun s c part tick m)) count))
find-begins faults s st (suc place) tick n c sample part last before (drive ∷ drives) ts at own fresh counted count =
    find-begins faults s (suc st) place tick n c sample part last before drives (with_drive faults st tick (station_drive st before) ts drive)
    (omega (arith, at)) own fresh (λ other apart. counted (suc other) (λ e. apart (omega (arith, e))))
    (count-other faults st tick (station_drive st before) drive ts (counted 0 (λ e. omega (arith, e))) ∙ count)

-- one that drove it goes on, where no cut has ended its transmission
goes-on-here : (faults : List Fault) (s tick : ℕ) (c : Channel) (sample : Sample) (part : Part) (last : Bool) (before drives : List Drive)
    (ts : List Transmission) (t : Transmission) → drives_on c (station_drive s before) ≡ true → find (is_of s c) ts ≡ Some t →
    is_cut_over faults tick (Some t) ≡ false → find (is_of s c) (with_drives faults s tick before (On c sample part last ∷ drives) ts) ≡ Some t
goes-on-here faults s tick c sample part last before drives ts t drove found uncut =
    find-silent faults s c (suc s) tick before drives (with_drive faults s tick (station_drive s before) ts (On c sample part last))
    (λ place e. absurd (omega (arith, e)))
    ∙ (rw (drove, found, uncut) found)

pub find-goes-on : (faults : List Fault) (s st place tick : ℕ) (c : Channel) (sample : Sample) (part : Part) (last : Bool)
    (before drives : List Drive) (ts : List Transmission) (t : Transmission) → st + place ≡ s → slice_get drives place ≡ Some (On c sample part last) →
    drives_on c (station_drive s before) ≡ true → find (is_of s c) ts ≡ Some t → is_cut_over faults tick (Some t) ≡ false →
    find (is_of s c) (with_drives faults st tick before drives ts) ≡ Some t
find-goes-on faults s st place tick c sample part last before [] ts t at own drove found uncut = absurd (none-some _ own)
find-goes-on faults s st zero tick c sample part last before (drive ∷ drives) ts t at own drove found uncut =
    let here : st ≡ s = omega (arith, at) in
    let same : drive ≡ On c sample part last = same_Some _ _ own in
    subst (λ d. find (is_of s c) (with_drives faults st tick before (d ∷ drives) ts) ≡ Some t) (sym same)
    (subst (λ p. find (is_of s c) (with_drives faults p tick before (On c sample part last ∷ drives) ts) ≡ Some t) (sym here)
    (goes-on-here faults s tick c sample part last before drives ts t drove found uncut))
find-goes-on faults s st (suc place) tick c sample part last before (drive ∷ drives) ts t at own drove found uncut =
    let apart : ((st == s) && drives_on c drive) ≡ false = not-both s st (drives_on c drive) (λ e. absurd (omega (arith, e, at))) in
    find-goes-on faults s (suc st) place tick c sample part last before drives (with_drive faults st tick (station_drive st before) ts drive) t
    (omega (arith, at)) own drove (find-other faults s c st tick (station_drive st before) drive ts apart ∙ found) uncut
