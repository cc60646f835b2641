-- Whatever the set and the samples are, damage leaves samples.
use Rattle.std.proofs.Common.{◌≡◌, ℕ, Bool, true, false, if◌then◌else◌, List, map, length, get_or, refl, sym, ap, ◌∙◌, arith, inl, inr}
use Rattle.std.proofs.lemmas.Bool.{cases_lt}
use Rattle.std.proofs.lemmas.List.{get_or_past}
use Rattle.std.proofs.lemmas.List.FromFn.{get_or-map-range_with_len, length-map-range_with_len}
use Rattle.std.specs.List.{range_with_len}
use Rattle.bus_base.specs.declared.samples.Sample.{Sample}
use Rattle.bus_base.specs.declared.samples.Sample.TheVariants.{Quiet}
use Rattle.bus_base.specs.Samples.{exchanged}
use Rattle.bus_base.specs.Flips.{takes}
use Rattle.bus_line.specs.Damage.{IsFlipped, IsFaded}

-- the samples after a change of each by its position
changed : (ℕ → Sample → Sample) → List Sample → List Sample
changed f old = map (λ p. f p (get_or old p Quiet)) (range_with_len 0 (length old))

-- they are as many as before, and each is the change of what was there, also past the end
length-changed : (f : ℕ → Sample → Sample) (old : List Sample) → length (changed f old) ≡ length old
unfolding changed
length-changed f old = length-map-range_with_len (λ p. f p (get_or old p Quiet)) 0 (length old)

-- each sample of the changed list is the changed sample of its place
changed_at : (f : ℕ → Sample → Sample) (old : List Sample) → ((p : ℕ) → f p Quiet ≡ Quiet) → (p : ℕ) →
    get_or (changed f old) p Quiet ≡ f p (get_or old p Quiet)
unfolding changed
changed_at f old off p = elim (cases_lt p (length old)) [
  | inl within ↦ get_or-map-range_with_len (λ q. f q (get_or old q Quiet)) 0 (length old) p p Quiet within (omega arith)
  | inr past ↦ (
      get_or_past (changed f old) p Quiet (omega (arith, past, length-changed f old))
      ∙ sym (ap (f p) (get_or_past old p Quiet past) ∙ off p))
]

-- where nothing is, nothing changes
quiet_either : (b : Bool) → (if b then exchanged Quiet else Quiet) ≡ Quiet
quiet_either true = refl
quiet_either false = refl

-- a list with flips at a set, and one with fades
pub some_flipped : (set : List Bool) (old : List Sample) → (new : List Sample) × IsFlipped set old new
some_flipped set old =
    let f : ℕ → Sample → Sample = λ p x. if takes set p then exchanged x else x in
    (changed f old, record { as_long = length-changed f old; each = changed_at f old (λ p. quiet_either (takes set p)) })

-- a sample that fades or stays quiet is quiet
faded_either : (b : Bool) → (if b then Quiet else Quiet) ≡ Quiet
faded_either true = refl
faded_either false = refl

-- there is a list that these fades leave
pub some_faded : (set : List Bool) (old : List Sample) → (new : List Sample) × IsFaded set old new
some_faded set old =
    let f : ℕ → Sample → Sample = λ p x. if takes set p then Quiet else x in
    (changed f old, record { as_long = length-changed f old; each = changed_at f old (λ p. faded_either (takes set p)) })
