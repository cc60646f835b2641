-- Where an extra has nothing left to show, it has nothing later.
use Rattle.std.proofs.Common.{◌≡◌, ◌⊎◌, inl, inr, ℕ, suc, ◌+◌, ◌*◌, ◌<◌, ◌≤◌, Bool, true, false, nat_lt, nat_le, List, [], ◌∷◌, length, Option, Some, None, refl, sym, arith}
use Rattle.std.proofs.lemmas.Bool.{lt-ltb, le-ltb, and_parts}
use Rattle.std.proofs.lemmas.Bool.Decides.{nat_tests}
use Rattle.std.proofs.lemmas.Option.{none-some, same_Some}
use Rattle.std.specs.Prelude.{not, ◌&&◌, ◌||◌, ◌==◌, if◌then◌else◌, find}
use Rattle.std.specs.List.{list_any}
use Rattle.bus_base.specs.Samples.{other_of, same_channel}
use Rattle.bus_base.specs.declared.samples.Channel.{Channel}
use Rattle.bus_base.specs.declared.samples.Channel.TheVariants.{A, B}
use Rattle.bus_base.specs.declared.samples.Drive.{Drive}
use Rattle.bus_base.specs.declared.samples.Drive.TheVariants.{Silent, On}
use Rattle.bus_formats.specs.declared.fault.Fault.{Fault}
use Rattle.bus_formats.specs.declared.fault.Hit.{Hit}
use Rattle.bus_formats.specs.declared.fault.Hit.TheVariants.{Flip, Cut, Extra, Fade}
use Rattle.bus_model.specs.Strikes.{added_by}
use Rattle.bus_model.specs.Transmissions.{drives_on, drives_last, station_drive, drove_since, driven_since, last_or_now, last_since, Transmission, is_of, is_command, hits_of, newest_drives, transmissions}
use Rattle.bus_model.specs.Wire.{longest, ends_beside, extra_after, added_sample, shown_silent}
use Rattle.bus_law_line.specs.Senders.{IsSpent}
use Rattle.bus_law_line.proofs.Begun.{find-silent}

-- ---- look-backs, one tick on

drove-more : (s : ℕ) (c : Channel) (now : List Drive) (driven : List (List Drive)) (a : ℕ) → a ≤ length driven →
    drove_since s c (now ∷ driven) a ≡ (drives_on c (station_drive s now) || drove_since s c driven a)
unfolding drove_since
drove-more s c now driven a early = let no : nat_lt (length driven) a ≡ false = le-ltb (length driven) a early in rw no refl

driven-more : (c : Channel) (now : List Drive) (driven : List (List Drive)) (a : ℕ) → a ≤ length driven →
    driven_since c (now ∷ driven) a ≡ (list_any (drives_on c) now || driven_since c driven a)
unfolding driven_since
driven-more c now driven a early = let no : nat_lt (length driven) a ≡ false = le-ltb (length driven) a early in rw no refl

-- the last sample was driven in a tick from the first on
last-either : (d : Bool) (tick a last : ℕ) (o : Option ℕ) → a ≤ tick → ((m : ℕ) → o ≡ Some m → (a ≤ m) × (m < tick)) →
    last_or_now d tick o ≡ Some last → (a ≤ last) × (last < suc tick)
last-either d tick a last (Some m) from before e =
    let same : m ≡ last = same_Some m last e in
    let old = before m refl in
    (omega (arith, same, old.0), omega (arith, same, old.1))
last-either true tick a last None from before e = let same : tick ≡ last = same_Some tick last e in (omega (arith, same, from), omega (arith, same))
last-either false tick a last None from before e = absurd (none-some last e)

last-by : (b d : Bool) (tick a last : ℕ) (o : Option ℕ) → (b ≡ false → a ≤ tick) → ((m : ℕ) → o ≡ Some m → (a ≤ m) × (m < tick)) →
    (if b then None else last_or_now d tick o) ≡ Some last → (a ≤ last) × (last < suc tick)
last-by true d tick a last o from before e = absurd (none-some last e)
last-by false d tick a last o from before e = last-either d tick a last o (from refl) before e

last-between : (s : ℕ) (c : Channel) (driven : List (List Drive)) (a last : ℕ) → last_since s c driven a ≡ Some last →
    (a ≤ last) × (last < length driven)
unfolding last_since
last-between s c [] a last e = absurd (none-some last e)
last-between s c (now ∷ driven) a last e =
    last-by (nat_lt (length driven) a) (drives_last c (station_drive s now)) (length driven) a last (last_since s c driven a)
    (λ h. grind (arith, nat_tests, h)) (last-between s c driven a) e

-- a station that doesn't drive the channel doesn't drive a last sample there
not-last : (c : Channel) (drive : Drive) → drives_on c drive ≡ false → drives_last c drive ≡ false
not-last c Silent silent = refl
not-last c (On d sample part last) silent = rw silent refl

last-same : (b : Bool) (tick : ℕ) (o : Option ℕ) →
    ((if b then None else last_or_now false tick o) ≡ None) ⊎ ((if b then None else last_or_now false tick o) ≡ o)
last-same true tick o = inl refl
last-same false tick None = inr refl
last-same false tick (Some m) = inr refl

last-more : (s : ℕ) (c : Channel) (now : List Drive) (driven : List (List Drive)) (a : ℕ) → drives_on c (station_drive s now) ≡ false →
    (last_since s c (now ∷ driven) a ≡ None) ⊎ (last_since s c (now ∷ driven) a ≡ last_since s c driven a)
unfolding last_since
last-more s c now driven a silent =
    let none : drives_last c (station_drive s now) ≡ false = not-last c (station_drive s now) silent in
    rw none (last-same (nat_lt (length driven) a) (length driven) (last_since s c driven a))

-- ---- what an extra adds, later

was-false : {X : Type 0} (b : Bool) (x : X) → (if b then Some x else None) ≡ None → b ≡ false
was-false true x e = absurd (none-some x (sym e))
was-false false x e = refl

is-none : {X : Type 0} (b : Bool) (x : X) → b ≡ false → (if b then Some x else None) ≡ None
is-none b x e = rw e refl

-- of five tests that fail together, five that are no weaker fail
fails : (a b c d e : Bool) (v w x y z : Bool) → (v ≡ true → a ≡ true) → (w ≡ true → b ≡ true) → (x ≡ true → c ≡ true) → (y ≡ false → d ≡ false) →
    (z ≡ false → e ≡ false) → (a && b && c && not d && not e) ≡ false → (v && w && x && not y && not z) ≡ false
fails a b c d e false w x y z p q r s t h = refl
fails a b c d e true false x y z p q r s t h = refl
fails a b c d e true true false y z p q r s t h = refl
fails a b c d e true true true true z p q r s t h = refl
fails a b c d e true true true false true p q r s t h = refl
fails a b c d e true true true false false p q r s t h =
    let all : (a && b && c && not d && not e) ≡ true = rw (p refl, q refl, r refl, s refl, t refl) refl in
    absurd (grind (arith, all, h))

beside-before : (x y z : Bool) → (x && (y || z)) ≡ false → (x && z) ≡ false
beside-before false y z h = refl
beside-before true true z h = absurd (grind (arith, h))
beside-before true false z h = h

extra-later : (t : Transmission) (now : List Drive) (driven : List (List Drive)) (tick words : ℕ) (o : Option ℕ) →
    ((last : ℕ) → o ≡ Some last → (t.first ≤ last) × (last < length driven)) → drives_on t.channel (station_drive t.station now) ≡ false →
    length driven ≤ tick → extra_after t driven (length driven) words o ≡ None → extra_after t (now ∷ driven) tick words o ≡ None
extra-later t now driven tick words None between silent late none = refl
extra-later t now driven tick words (Some last) between silent late none =
    let at = between last refl in
    let drove = drove-more t.station t.channel now driven (suc last) (omega (arith, at.1)) in
    let beside = driven-more (other_of t.channel) now driven t.first (omega (arith, at.0, at.1)) in
    is-none _ _ (fails
    (nat_lt last (length driven)) (nat_le (length driven) (last + 40 * words)) (nat_lt (length driven) (t.first + longest))
    (drove_since t.station t.channel driven (suc last)) (ends_beside t driven)
    (nat_lt last tick) (nat_le tick (last + 40 * words)) (nat_lt tick (t.first + longest))
    (drove_since t.station t.channel (now ∷ driven) (suc last)) (ends_beside t (now ∷ driven))
    (λ h. lt-ltb last (length driven) at.1)
    (λ h. grind (arith, nat_tests, h, late))
    (λ h. grind (arith, nat_tests, h, late))
    (λ h. rw (drove, silent) at h)
    (λ h. beside-before (not (is_command t)) (list_any (drives_on (other_of t.channel)) now) (driven_since (other_of t.channel) driven t.first)
    (rw beside at h))
    (was-false _ _ none))

extra-none : (t : Transmission) (driven : List (List Drive)) (tick words : ℕ) (o : Option ℕ) → o ≡ None → extra_after t driven tick words o ≡ None
extra-none t driven tick words o none = rw none refl

pub added-later : (t : Transmission) (now : List Drive) (driven : List (List Drive)) (tick : ℕ) (hits : List Hit) →
    drives_on t.channel (station_drive t.station now) ≡ false → length driven ≤ tick →
    added_sample t driven (length driven) hits ≡ None → added_sample t (now ∷ driven) tick hits ≡ None
added-later t now driven tick [] silent late none = refl
added-later t now driven tick (Extra words ∷ hits) silent late none = elim (last-more t.station t.channel now driven t.first silent) [
  | inl gone ↦ extra-none t (now ∷ driven) tick words (last_since t.station t.channel (now ∷ driven) t.first) gone
  | inr same ↦ rw same (extra-later t now driven tick words (last_since t.station t.channel driven t.first)
      (last-between t.station t.channel driven t.first) silent late none)
]
added-later t now driven tick (Flip word set ∷ hits) silent late none = added-later t now driven tick hits silent late none
added-later t now driven tick (Fade word set ∷ hits) silent late none = added-later t now driven tick hits silent late none
added-later t now driven tick (Cut after ∷ hits) silent late none = added-later t now driven tick hits silent late none

-- ---- a station on a channel

same-is : (c d : Channel) → same_channel c d ≡ true → c ≡ d
same-is A A h = refl
same-is B B h = refl
same-is A B h = absurd (grind (arith, h))
same-is B A h = absurd (grind (arith, h))

is-of-parts : (s : ℕ) (c : Channel) (t : Transmission) → is_of s c t ≡ true → (t.station ≡ s) × (t.channel ≡ c)
is-of-parts s c t is =
    let parts = and_parts (t.station == s) (same_channel t.channel c) is in
    (grind (arith, nat_tests, parts.0), same-is t.channel c parts.1)

found-by : (b : Bool) (s : ℕ) (c : Channel) (x t : Transmission) (ts : List Transmission) → is_of s c x ≡ b →
    (find (is_of s c) ts ≡ Some t → is_of s c t ≡ true) → (if b then Some x else find (is_of s c) ts) ≡ Some t → is_of s c t ≡ true
found-by true s c x t ts is rest e = let same : x ≡ t = same_Some x t e in rw same at is
found-by false s c x t ts is rest e = rest e

-- what is found is of that station, on that channel
find-is : (s : ℕ) (c : Channel) (ts : List Transmission) (t : Transmission) → find (is_of s c) ts ≡ Some t → is_of s c t ≡ true
find-is s c [] t e = absurd (none-some t e)
find-is s c (x ∷ ts) t e = found-by (is_of s c x) s c x t ts refl (find-is s c ts t) e

silent-later : (faults : List Fault) (s : ℕ) (c : Channel) (now : List Drive) (driven : List (List Drive)) (tick : ℕ) (o : Option Transmission) →
    ((t : Transmission) → o ≡ Some t → is_of s c t ≡ true) → drives_on c (station_drive s now) ≡ false → length driven ≤ tick →
    shown_silent faults driven (length driven) o ≡ None → shown_silent faults (now ∷ driven) tick o ≡ None
silent-later faults s c now driven tick None is silent late none = refl
silent-later faults s c now driven tick (Some t) is silent late none =
    let parts = is-of-parts s c t (is t refl) in
    added-later t now driven tick (hits_of faults t) (rw (parts.0, parts.1) silent) late none

-- a station that doesn't drive the channel has the newest transmission there that it had
pub find-same : (faults : List Fault) (s : ℕ) (c : Channel) (now : List Drive) (driven : List (List Drive)) →
    drives_on c (station_drive s now) ≡ false → find (is_of s c) (transmissions faults (now ∷ driven)) ≡ find (is_of s c) (transmissions faults driven)
unfolding transmissions
find-same faults s c now driven silent =
    find-silent faults s c 0 (length driven) (newest_drives driven) now (transmissions faults driven)
    (λ place e. let at : place ≡ s = omega (arith, e) in rw at silent)

-- so nothing of it is shown in that tick
pub spent-now : (faults : List Fault) (s : ℕ) (c : Channel) (now : List Drive) (driven : List (List Drive)) → IsSpent faults c driven s →
    drives_on c (station_drive s now) ≡ false →
    shown_silent faults (now ∷ driven) (length driven) (find (is_of s c) (transmissions faults (now ∷ driven))) ≡ None
spent-now faults s c now driven none silent = rw (find-same faults s c now driven silent)
    (silent-later faults s c now driven (length driven) (find (is_of s c) (transmissions faults driven))
    (find-is s c (transmissions faults driven)) silent (omega arith) none)

-- and nothing later
pub spent-later : (faults : List Fault) (s : ℕ) (c : Channel) (now : List Drive) (driven : List (List Drive)) → IsSpent faults c driven s →
    drives_on c (station_drive s now) ≡ false → IsSpent faults c (now ∷ driven) s
spent-later faults s c now driven none silent = rw (find-same faults s c now driven silent)
    (silent-later faults s c now driven (suc (length driven)) (find (is_of s c) (transmissions faults driven))
    (find-is s c (transmissions faults driven)) silent (omega arith) none)

-- where no extra adds a word nothing is ever left
extra-nothing : (t : Transmission) (driven : List (List Drive)) (tick words : ℕ) (o : Option ℕ) → words ≡ 0 → extra_after t driven tick words o ≡ None
extra-nothing t driven tick words None zero = refl
extra-nothing t driven tick words (Some last) zero =
    let over : (nat_lt last tick && nat_le tick (last + 40 * words)) ≡ false = grind (arith, nat_tests, zero) in
    rw over refl

pub added-nothing : (t : Transmission) (driven : List (List Drive)) (tick : ℕ) (hits : List Hit) → added_by hits ≡ 0 → added_sample t driven tick hits ≡ None
added-nothing t driven tick [] none = refl
added-nothing t driven tick (Extra words ∷ hits) none =
    extra-nothing t driven tick words (last_since t.station t.channel driven t.first) (omega (arith, none))
added-nothing t driven tick (Flip word set ∷ hits) none = added-nothing t driven tick hits none
added-nothing t driven tick (Fade word set ∷ hits) none = added-nothing t driven tick hits none
added-nothing t driven tick (Cut after ∷ hits) none = added-nothing t driven tick hits none
