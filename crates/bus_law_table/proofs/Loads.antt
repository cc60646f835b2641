-- Blocks that are put up for sending, added twice: those of earlier ticks change nothing where those of later ticks are added.
use Rattle.std.proofs.Common.{◌≡◌, ◌⊎◌, inl, inr, ℕ, ◌≤◌, Bool, true, false, List, [], ◌∷◌, refl, sym, ap, ◌∙◌, arith}
use Rattle.std.proofs.lemmas.Bool.{true≢false, cases_eq}
use Rattle.std.proofs.lemmas.Bool.Decides.{nat_tests}
use Rattle.std.proofs.lemmas.List.{set-set, set_comm}
use Rattle.std.specs.Prelude.{if◌then◌else◌}
use Rattle.bus_model.specs.Memory.{Memory, TimedLoad, load_block, load_due, with_loads}

-- ---- one load

-- the later of two loads of one subaddress counts, and loads of two are made in either order
twice : (m : Memory) (sub : ℕ) (v w : List ℕ) → load_block (load_block m sub v) sub w ≡ load_block m sub w
twice m sub v w = ap (λ blocks. record m { transmit = blocks }) (set-set m.transmit sub v w)

either-order : (m : Memory) (a b : ℕ) (v w : List ℕ) → (a ≡ b → ⊥) → load_block (load_block m a v) b w ≡ load_block (load_block m b w) a v
either-order m a b v w apart = ap (λ blocks. record m { transmit = blocks }) (set_comm m.transmit a b v w apart)

-- ---- a load before others

abbrev load_if : Bool → TimedLoad → Memory → Memory
load_if b load m = if b then load_block m load.sub load.words else m

-- a load of this subaddress made before is lost, or may as well be made after
abbrev Covers : (Memory → Memory) → ℕ → Type 0
Covers f sub =
    ((m : Memory) (w : List ℕ) → f (load_block m sub w) ≡ f m) ⊎ ((m : Memory) (w : List ℕ) → f (load_block m sub w) ≡ load_block (f m) sub w)

covers-first : (f : Memory → Memory) (load : TimedLoad) (sub : ℕ) (b : Bool) → Covers f sub → Covers (λ m. f (load_if b load m)) sub
covers-first f load sub false rest = rest
covers-first f load sub true rest = elim (cases_eq sub load.sub) [
  | inl same ↦ inl (λ m w. ap f (ap (λ s. load_block (load_block m s w) load.sub load.words) same ∙ twice m load.sub w load.words))
  | inr apart ↦ elim rest [
    | inl lost ↦ inl (λ m w. ap f (either-order m sub load.sub w load.words apart) ∙ lost (load_block m load.sub load.words) w)
    | inr kept ↦ inr (λ m w. ap f (either-order m sub load.sub w load.words apart) ∙ kept (load_block m load.sub load.words) w)
  ]
]

covers : (address tick : ℕ) (loads : List TimedLoad) (sub : ℕ) → Covers (with_loads address tick loads) sub
covers address tick [] sub = inr (λ m w. refl)
covers address tick (load ∷ loads) sub =
    covers-first (with_loads address tick loads) load sub (load_due address tick load) (covers address tick loads sub)

-- ---- all loads

absorb-first : (f g : Memory → Memory) (load : TimedLoad) (early late : Bool) → (early ≡ true → late ≡ true) → Covers f load.sub →
    ((m : Memory) → f (g m) ≡ f m) → (m : Memory) → f (load_if late load (g (load_if early load m))) ≡ f (load_if late load m)
absorb-first f g load false false first rest same m = same m
absorb-first f g load true false first rest same m = absurd (true≢false (sym (first refl)))
absorb-first f g load false true first rest same m = elim rest [
  | inl lost ↦ lost (g m) load.words ∙ same m ∙ sym (lost m load.words)
  | inr kept ↦ kept (g m) load.words ∙ ap (λ x. load_block x load.sub load.words) (same m) ∙ sym (kept m load.words)
]
absorb-first f g load true true first rest same m = elim rest [
  | inl lost ↦ lost (g (load_block m load.sub load.words)) load.words ∙ same (load_block m load.sub load.words)
  | inr kept ↦ kept (g (load_block m load.sub load.words)) load.words
      ∙ ap (λ x. load_block x load.sub load.words) (same (load_block m load.sub load.words) ∙ kept m load.words)
      ∙ twice (f m) load.sub load.words load.words
      ∙ sym (kept m load.words)
]

due-then : (address early late : ℕ) (load : TimedLoad) → early ≤ late → load_due address early load ≡ true → load_due address late load ≡ true
due-then address early late load before due = grind (arith, nat_tests, before, due)

pub absorbed : (address early late : ℕ) (loads : List TimedLoad) → early ≤ late → (m : Memory) →
    with_loads address late loads (with_loads address early loads m) ≡ with_loads address late loads m
absorbed address early late [] before m = refl
absorbed address early late (load ∷ loads) before m =
    absorb-first (with_loads address late loads) (with_loads address early loads) load (load_due address early load) (load_due address late load)
    (due-then address early late load before) (covers address late loads load.sub) (absorbed address early late loads before) m

-- two memories that are the same with the loads of earlier ticks are so with those of later ones
pub loaded-alike : (address early late : ℕ) (loads : List TimedLoad) (m n : Memory) → early ≤ late →
    with_loads address early loads m ≡ with_loads address early loads n → with_loads address late loads m ≡ with_loads address late loads n
loaded-alike address early late loads m n before same =
    sym (absorbed address early late loads before m) ∙ ap (with_loads address late loads) same ∙ absorbed address early late loads before n
