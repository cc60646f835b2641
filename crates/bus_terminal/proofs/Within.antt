-- What was heard between two ticks, with one tick more.
use Rattle.std.proofs.Common.{◌≡◌, ℕ, ◌+◌, ◌≤◌, Bool, true, false, not, ◌&&◌, ◌||◌, nat_lt, List, [], ◌∷◌, length, refl, sym, ◌∙◌, arith, inl, inr}
use Rattle.std.proofs.lemmas.Bool.{cases_lt, lt-ltb, le-ltb}
use Rattle.bus_base.specs.Samples.{is_quiet}
use Rattle.bus_base.specs.declared.samples.Sample.{Sample}
use Rattle.bus_base.specs.declared.samples.Sample.TheVariants.{Plus, Minus, Quiet}
use Rattle.bus_line.specs.Past.{quiet, heard_within}

pub or-true : (b : Bool) → (b || true) ≡ true
or-true true = refl
or-true false = refl

pub within-early : (past : List Sample) (a b : ℕ) → length past ≤ a → heard_within past a b ≡ false
unfolding heard_within
within-early [] a b h = refl
within-early (x ∷ past) a b h = let early : nat_lt (length past) a ≡ true = lt-ltb (length past) a (omega (arith, h)) in rw early refl

-- from a tick that was heard on
pub within-more : (x : Sample) (past : List Sample) (a b : ℕ) → a ≤ length past →
    heard_within (x ∷ past) a b ≡ ((not (is_quiet x) && nat_lt (length past) b) || heard_within past a b)
unfolding heard_within
within-more x past a b h = let late : nat_lt (length past) a ≡ false = le-ltb (length past) a h in rw late refl

pub within-quiet : (past : List Sample) (a b : ℕ) → length past ≤ a + quiet past → heard_within past a b ≡ false
within-quiet [] a b h = within-early [] a b (omega arith)
within-quiet (Plus ∷ past) a b h = within-early (Plus ∷ past) a b (omega (arith, h))
within-quiet (Minus ∷ past) a b h = within-early (Minus ∷ past) a b (omega (arith, h))
within-quiet (Quiet ∷ past) a b h = elim (cases_lt (length past) a) [
  | inl early ↦ within-early (Quiet ∷ past) a b (omega (arith, early))
  | inr late ↦ within-more Quiet past a b late ∙ within-quiet past a b (omega (arith, h))
]

pub within-stays : (x : Sample) (past : List Sample) (a b : ℕ) → heard_within past a b ≡ true → heard_within (x ∷ past) a b ≡ true
within-stays x past a b h = elim (cases_lt (length past) a) [
  | inl early ↦ (let none : false ≡ true = sym (within-early past a b (omega (arith, early))) ∙ h in cc)
  | inr late ↦ within-more x past a b late ∙ (rw h (or-true (not (is_quiet x) && nat_lt (length past) b)))
]

-- a quiet tick, or one that is too late, changes nothing
pub within-same : (x : Sample) (past : List Sample) (a b : ℕ) → (not (is_quiet x) && nat_lt (length past) b) ≡ false → heard_within past a b ≡ false →
    heard_within (x ∷ past) a b ≡ false
within-same x past a b still h = elim (cases_lt (length past) a) [
  | inl early ↦ within-early (x ∷ past) a b (omega (arith, early))
  | inr late ↦ within-more x past a b late ∙ (rw (still, h) refl)
]

-- bounds past the last tick are alike
pub within-bound : (past : List Sample) (a b c : ℕ) → length past ≤ b → length past ≤ c → heard_within past a b ≡ heard_within past a c
within-bound [] a b c low high = within-early [] a b (omega arith) ∙ sym (within-early [] a c (omega arith))
within-bound (x ∷ past) a b c low high = elim (cases_lt (length past) a) [
  | inl early ↦ within-early (x ∷ past) a b (omega (arith, early)) ∙ sym (within-early (x ∷ past) a c (omega (arith, early)))
  | inr late ↦ (let first : nat_lt (length past) b ≡ true = lt-ltb (length past) b (omega (arith, low)) in
      let second : nat_lt (length past) c ≡ true = lt-ltb (length past) c (omega (arith, high)) in
      within-more x past a b late ∙ (rw (first, within-bound past a b c (omega (arith, low)) (omega (arith, high))) (sym
      (within-more x past a c late ∙ (rw second refl)))))
]
