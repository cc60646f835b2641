-- Marks one after the other.
use Rattle.std.proofs.Common.{◌≡◌, ℕ, ◌+◌, ◌-◌, ◌%◌, ◌<◌, ◌≤◌, ◌⊎◌, List, [], ◌∷◌, ◌++◌, refl, ap, sym, ◌∙◌, subst, inl, inr, arith}
use Rattle.std.specs.Prelude.{Bool, true, false, ◌==◌, nat_lt, if◌then◌else◌, get_or, slice_set, length}
use Rattle.std.proofs.lemmas.Grind.{get_or-set_at}
use Rattle.std.proofs.lemmas.List.{get_or-set_other}
use Rattle.std.proofs.lemmas.Bool.{cases_Bool}
use Rattle.std.proofs.lemmas.Bool.Decides.{nat_tests}
use Rattle.bus_base.specs.declared.samples.Channel.{Channel}
use Rattle.bus_base.specs.declared.samples.Pair.{Pair}
use Rattle.bus_wave.specs.Levels.{code_of}
use Rattle.bus_wave.specs.Marks.{column_of, column_with}
use Rattle.bus_wave.specs.Told.{Told, told_at}
use Rattle.bus_wave.specs.Waves.{after, begun}
use Rattle.bus_wave.specs.declared.marks.Mark.{Mark}
use Rattle.bus_wave.specs.Delays.{LineStands, Marked, column_at, column_in, no_tick_marks, is_open, open_after, open_after_all}
use Rattle.bus_wave.specs.declared.marks.Column.{Column}
use Rattle.bus_wave.specs.declared.delay_line.DelayLine.{DelayLine}
use Rattle.bus_wave.proofs.StillLaws.{still-column}

pub all-append : (ticks : ℕ) (c : Channel) (xs ys : List Told) (known : ℕ → Column) →
    open_after_all ticks c (xs ++ ys) known ≡ open_after_all ticks c ys (open_after_all ticks c xs known)
all-append ticks c [] ys known = refl
all-append ticks c (x ∷ xs) ys known = all-append ticks c xs ys (open_after ticks c x known)

pub marked-none : (line : DelayLine) (ticks : ℕ) (c : Channel) → Marked line line ticks c []
marked-none line ticks c known stands = stands

-- marks were added, and then more
pub marked-then : (l0 l1 l2 : DelayLine) (ticks : ℕ) (c : Channel) (xs ys : List Told) → Marked l0 l1 ticks c xs → Marked l1 l2 ticks c ys →
    Marked l0 l2 ticks c (xs ++ ys)
marked-then l0 l1 l2 ticks c xs ys first later known stands =
    subst (LineStands l2 ticks) (sym (all-append ticks c xs ys known)) (later (open_after_all ticks c xs known) (first known stands))

either-same : (b : Bool) (x y : Column) → x ≡ y → (if b then x else y) ≡ y
either-same true x y same = same
either-same false x y same = refl

-- ticks of the window have places of their own
apart : (t tick ticks : ℕ) → (t ≡ tick → ⊥) → t < ticks → ticks ≤ t + 4096 → tick < ticks → ticks - tick ≤ 1536 →
    (t % 4096 < tick % 4096) ⊎ (tick % 4096 < t % 4096)
apart t tick ticks unlike before near early soon = elim (cases_Bool (t % 4096 == tick % 4096)) [
  | inl same ↦ (let is : t % 4096 ≡ tick % 4096 = grind (arith, nat_tests, same) in absurd (unlike (omega (arith, is, before, near, early, soon))))
  | inr other ↦ elim (cases_Bool (nat_lt (t % 4096) (tick % 4096))) [
    | inl less ↦ inl (grind (arith, nat_tests, less))
    | inr more ↦ inr (grind (arith, nat_tests, more, other))
  ]
]

-- one mark was added
pub mark-added : (old new : DelayLine) (c : Channel) (ticks tick : ℕ) (mark : Mark) → tick < ticks → ticks - tick ≤ 1536 →
    ((t : ℕ) → t % 4096 ≡ tick % 4096 → column_at new t ≡ column_with c mark (column_at old t)) →
    ((t : ℕ) → (t % 4096 < tick % 4096) ⊎ (tick % 4096 < t % 4096) → column_at new t ≡ column_at old t) → Marked old new ticks c (told_at tick mark ∷ [])
mark-added old new c ticks tick mark early soon put others known stands t before near = elim (cases_Bool (t == tick)) [
  | inl same ↦ (
      let at : t ≡ tick = grind (arith, nat_tests, same) in
      let on : is_open ticks t ≡ true = grind (arith, nat_tests, at, early, soon) in
      put t (ap (λ n. n % 4096) at)
      ∙ ap (column_with c mark) (stands t before near)
      ∙ sym (ap (λ b. if b then after c (told_at tick mark) known t else known t) on ∙ ap (λ b. if b then column_with c mark (known t) else known t) same)
      )
  | inr other ↦ (
      let unlike : t ≡ tick → ⊥ = λ at. absurd (let on : (t == tick) ≡ true = grind (arith, nat_tests, at) in let e : true ≡ false = sym on ∙ other in cc) in
      others t (apart t tick ticks unlike before near early soon) ∙ stands t before near
      ∙ sym (either-same (is_open ticks t) (after c (told_at tick mark) known t) (known t)
      (ap (λ b. if b then column_with c mark (known t) else known t) other))
      )
]

-- a tick was added
pub tick-begun : (line : DelayLine) (ticks code : ℕ) (shown : Pair) → length line.cells ≡ 4096 → code ≡ code_of shown → (known : ℕ → Column) →
    LineStands line ticks known → LineStands (record line { cells = slice_set line.cells (ticks % 4096) code }) (ticks + 1) (begun ticks shown known)
tick-begun line ticks code shown long is known stands t early near = elim (cases_Bool (t == ticks)) [
  | inl same ↦ (
      let at : t ≡ ticks = grind (arith, nat_tests, same) in
      let cell : get_or (slice_set line.cells (ticks % 4096) code) (t % 4096) 0 ≡ code_of shown =
      get_or-set_at line.cells (ticks % 4096) (t % 4096) code 0 (ap (λ n. n % 4096) at) (omega (arith, long)) ∙ is in
      still-column (get_or (slice_set line.cells (ticks % 4096) code) (t % 4096) 0) shown (get_or line.marks (t % 4096) no_tick_marks) cell
      ∙ sym (ap (λ b. if b then column_of shown else known t) same)
      )
  | inr other ↦ (
      let less : t < ticks = grind (arith, nat_tests, other, early) in
      let apart : t % 4096 ≡ ticks % 4096 → ⊥ = λ e. absurd (omega (arith, e, less, near)) in
      ap (λ n. column_in n (get_or line.marks (t % 4096) no_tick_marks)) (get_or-set_other line.cells (ticks % 4096) (t % 4096) code 0 apart)
      ∙ stands t less (omega (arith, near)) ∙ sym (ap (λ b. if b then column_of shown else known t) other)
      )
]
