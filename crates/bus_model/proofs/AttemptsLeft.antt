-- Each attempt uses up one of the attempts that are left, so a run of a plan comes to its end.
use Rattle.std.proofs.Common.{◌≡◌, inl, inr, ℕ, suc, ◌+◌, ◌≤◌, List, [], ◌∷◌, length, refl, sym, ap, ◌∙◌, arith}
use Rattle.std.proofs.lemmas.Bool.{cases_Bool}
use Rattle.std.specs.Prelude.{Bool, true, false, if◌then◌else◌, ◌==◌, find, drop, Some}
use Rattle.bus_formats.specs.declared.form.Outcome.{Outcome}
use Rattle.bus_retry.specs.declared.Choice.TheVariants.{Done}
use Rattle.bus_model.specs.Starts.{Entry}
use Rattle.bus_model.specs.Attempts.{Begun}
use Rattle.bus_model.specs.Message.{Present, address_of_station}
use Rattle.bus_model.specs.Run.{is_at, with_station, after_attempt}
use Rattle.std.proofs.lemmas.Option.{none-some, same_Some}
use Rattle.bus_model.proofs.PassingOn.{AreSame}

-- the attempts that items can have: one, and one for each entry of the retry list
abbrev pub attempts-of : List Entry → ℕ
attempts-of [] = 0
attempts-of (entry ∷ entries) = suc (length entry.item.retry) + attempts-of entries

abbrev pub attempts-left : List Present → ℕ
attempts-left [] = 0
attempts-left (s ∷ stations) = attempts-of s.left + attempts-left stations

-- a message leaves them as they are
pub left-same : (before later : List Present) → AreSame before later → attempts-left later ≡ attempts-left before
left-same [] [] h = refl
left-same [] (b ∷ later) h = absurd h
left-same (a ∷ before) [] h = absurd h
left-same (a ∷ before) (b ∷ later) h =
    let rest : attempts-left later ≡ attempts-left before = left-same before later h.2 in
    let own : attempts-of b.left ≡ attempts-of a.left = ap attempts-of h.0 in
    omega (arith, rest, own)

-- the station that is found stands there with the same items after a message
pub found-same : (address : ℕ) (before later : List Present) (s : Present) → AreSame before later → find (is_at address) before ≡ Some s →
    (t : Present) × (find (is_at address) later ≡ Some t) × (t.left ≡ s.left)
found-same address [] later s h found = absurd (none-some s found)
found-same address (a ∷ before) [] s h found = absurd h
found-same address (a ∷ before) (b ∷ later) s h found =
    let at : is_at address b ≡ is_at address a = ap (λ n. n == address) h.1 in
    elim (cases_Bool (is_at address a)) [
      | inl here ↦
          let first : find (is_at address) (a ∷ before) ≡ Some a = rw here refl in
          let there : is_at address b ≡ true = at ∙ here in
          let second : find (is_at address) (b ∷ later) ≡ Some b = rw there refl in
          (b, second, h.0 ∙ ap (λ s. s.left) (same_Some a s (sym first ∙ found)))
      | inr other ↦
          let first : find (is_at address) (a ∷ before) ≡ find (is_at address) before = rw other refl in
          let there : is_at address b ≡ false = at ∙ other in
          let second : find (is_at address) (b ∷ later) ≡ find (is_at address) later = rw there refl in
          let rest = found-same address before later s h.2 (sym first ∙ found) in
          (rest.0, second ∙ rest.1, rest.2)
    ]

-- ---- a station is changed

-- a change that leaves the items
module _ (address : ℕ) (change : Present → Present) (keeps : (s : Present) → (change s).left ≡ s.left) where
  either-left : (s : Present) (b : Bool) → attempts-of (if b then change s else s).left ≡ attempts-of s.left
  either-left s true = ap attempts-of (keeps s)
  either-left s false = refl

  pub left-kept : (stations : List Present) → attempts-left (with_station address change stations) ≡ attempts-left stations
  left-kept [] = refl
  left-kept (s ∷ stations) =
      let rest : attempts-left (with_station address change stations) ≡ attempts-left stations = left-kept stations in
      let own : attempts-of (if is_at address s then change s else s).left ≡ attempts-of s.left = either-left s (is_at address s) in
      omega (arith, rest, own)

  moves-not : ((s : Present) → address_of_station (change s) ≡ address_of_station s) → (s : Present) (b : Bool) →
      is_at address (if b then change s else s) ≡ is_at address s
  moves-not fixed s true = ap (λ n. n == address) (fixed s)
  moves-not fixed s false = refl

  pub found-kept : ((s : Present) → address_of_station (change s) ≡ address_of_station s) → (stations : List Present) (s : Present) →
      find (is_at address) stations ≡ Some s → find (is_at address) (with_station address change stations) ≡ Some (change s)
  found-kept fixed [] s found = absurd (none-some s found)
  found-kept fixed (a ∷ stations) s found = elim (cases_Bool (is_at address a)) [
    | inl here ↦
        let first : find (is_at address) (a ∷ stations) ≡ Some a = rw here refl in
        let there : is_at address (if is_at address a then change a else a) ≡ true = moves-not fixed a (is_at address a) ∙ here in
        let changed : (if is_at address a then change a else a) ≡ change a = rw here refl in
        let second : find (is_at address) (with_station address change (a ∷ stations)) ≡ Some (if is_at address a then change a else a) = rw there refl in
        second ∙ ap Some (changed ∙ ap change (same_Some a s (sym first ∙ found)))
    | inr other ↦
        let first : find (is_at address) (a ∷ stations) ≡ find (is_at address) stations = rw other refl in
        let there : is_at address (if is_at address a then change a else a) ≡ false = moves-not fixed a (is_at address a) ∙ other in
        let second : find (is_at address) (with_station address change (a ∷ stations)) ≡ find (is_at address) (with_station address change stations) = rw there refl in
        second ∙ found-kept fixed stations s (sym first ∙ found)
  ]

-- an item that is done isn't left
dropped : (left : List Entry) → attempts-of (drop 1 left) ≤ attempts-of left
dropped [] = omega arith
dropped (entry ∷ entries) = omega arith

module _ (address : ℕ) (begun : Begun) (outcome : Outcome) where
  either-dropped : (s : Present) (b : Bool) → attempts-of (if b then after_attempt begun outcome Done s else s).left ≤ attempts-of s.left
  either-dropped s true = dropped s.left
  either-dropped s false = omega arith

  done-at-most : (stations : List Present) → attempts-left (with_station address (after_attempt begun outcome Done) stations) ≤ attempts-left stations
  done-at-most [] = omega arith
  done-at-most (s ∷ stations) = omega (arith, done-at-most stations, either-dropped s (is_at address s))

  pub done-less : (stations : List Present) (s : Present) (entry : Entry) (later : List Entry) → find (is_at address) stations ≡ Some s →
      s.left ≡ entry ∷ later →
      attempts-left (with_station address (after_attempt begun outcome Done) stations) + suc (length entry.item.retry) ≤ attempts-left stations
  done-less [] s entry later found h = absurd (none-some s found)
  done-less (a ∷ stations) s entry later found h = elim (cases_Bool (is_at address a)) [
    | inl here ↦
        let first : find (is_at address) (a ∷ stations) ≡ Some a = rw here refl in
        let own : a.left ≡ entry ∷ later = ap (λ s. s.left) (same_Some a s (sym first ∙ found)) ∙ h in
        let before : attempts-of a.left ≡ suc (length entry.item.retry) + attempts-of later = ap attempts-of own in
        let after : attempts-of (if is_at address a then after_attempt begun outcome Done a else a).left ≡ attempts-of later =
        ap (λ b. attempts-of (if b then after_attempt begun outcome Done a else a).left) here ∙ ap (λ left. attempts-of (drop 1 left)) own in
        omega (arith, before, after, done-at-most stations)
    | inr other ↦
        let first : find (is_at address) (a ∷ stations) ≡ find (is_at address) stations = rw other refl in
        omega (arith, done-less stations s entry later (sym first ∙ found) h, either-dropped a (is_at address a))
  ]

-- a station with an item left has an attempt left
pub left-found : (address : ℕ) (stations : List Present) (s : Present) (entry : Entry) (later : List Entry) → find (is_at address) stations ≡ Some s →
    s.left ≡ entry ∷ later → suc (length entry.item.retry) ≤ attempts-left stations
left-found address [] s entry later found h = absurd (none-some s found)
left-found address (a ∷ stations) s entry later found h = elim (cases_Bool (is_at address a)) [
  | inl here ↦
      let first : find (is_at address) (a ∷ stations) ≡ Some a = rw here refl in
      let own : attempts-of a.left ≡ suc (length entry.item.retry) + attempts-of later =
      ap attempts-of (ap (λ (s : Present). s.left) (same_Some a s (sym first ∙ found)) ∙ h) in
      omega (arith, own)
  | inr other ↦
      let first : find (is_at address) (a ∷ stations) ≡ find (is_at address) stations = rw other refl in
      omega (arith, left-found address stations s entry later (sym first ∙ found) h)
]
