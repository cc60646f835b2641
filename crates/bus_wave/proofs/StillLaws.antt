-- Ticks that show what was shown before them, and have no marks, add nothing to a wave.
use Rattle.std.proofs.Common.{◌≡◌, ℕ, zero, suc, ◌+◌, ◌-◌, ◌*◌, ◌<◌, ◌≤◌, List, [], ◌++◌, refl, ap, sym, ◌∙◌, append-nil, subst, arith, inl, inr, eq-zero-or-pos}
use Rattle.bus_base.specs.declared.samples.Pair.{Pair}
use Rattle.bus_base.specs.declared.samples.Sample.{Sample}
use Rattle.bus_base.specs.declared.samples.Sample.TheVariants.{Plus, Minus, Quiet}
use Rattle.bus_wave.specs.Delays.{cell_at, column_at, column_in}
use Rattle.bus_wave.specs.Drawers.{drawer_at}
use Rattle.bus_wave.specs.Levels.{sample_code, code_of}
use Rattle.bus_wave.specs.Marks.{column_of, tick_changes}
use Rattle.bus_wave.specs.Texts.{changes_text}
use Rattle.bus_wave.specs.Waves.{changes_at, changes_from, shown_before}
use Rattle.bus_wave.specs.declared.delay_line.DelayLine.{DelayLine}
use Rattle.bus_wave.specs.declared.drawer.Drawer.{Drawer}
use Rattle.bus_wave.specs.declared.marks.Column.{Column}
use Rattle.bus_wave.specs.declared.marks.TickMarks.{TickMarks}
use Rattle.bus_wave.proofs.ColumnLaws.{before-next}

abbrev both : Sample → Sample → Pair
both a b = record { a = a; b = b }

-- a number below 16 is a column without marks
coded-column : (a b : Sample) (marks : TickMarks) → column_in (sample_code a + 4 * sample_code b) marks ≡ column_of (both a b)
coded-column Plus Plus marks = refl
coded-column Plus Minus marks = refl
coded-column Plus Quiet marks = refl
coded-column Minus Plus marks = refl
coded-column Minus Minus marks = refl
coded-column Minus Quiet marks = refl
coded-column Quiet Plus marks = refl
coded-column Quiet Minus marks = refl
coded-column Quiet Quiet marks = refl

pub still-column : (cell : ℕ) (shown : Pair) (marks : TickMarks) → cell ≡ code_of shown → column_in cell marks ≡ column_of shown
still-column cell shown marks is = ap (λ n. column_in n marks) is ∙ coded-column shown.a shown.b marks

nothing-changes : (t : ℕ) (a b : Sample) → tick_changes t (both a b) (column_of (both a b)) ≡ []
nothing-changes t Plus Plus = refl
nothing-changes t Plus Minus = refl
nothing-changes t Plus Quiet = refl
nothing-changes t Minus Plus = refl
nothing-changes t Minus Minus = refl
nothing-changes t Minus Quiet = refl
nothing-changes t Quiet Plus = refl
nothing-changes t Quiet Minus = refl
nothing-changes t Quiet Quiet = refl

module _ (known : ℕ → Column) (line : DelayLine) (from : ℕ) (last : Pair) where
  -- so many ticks
  still-ticks : (n : ℕ) → ((t : ℕ) → from ≤ t → t < from + n → column_at line t ≡ known t) →
      ((t : ℕ) → from ≤ t → t < from + n → cell_at line t ≡ code_of last) → last ≡ shown_before known from →
      (changes_from known from n ≡ []) × (shown_before known (from + n) ≡ last)
  unfolding changes_from
  still-ticks zero cols cells is = let e : from + 0 ≡ from = omega arith in (refl, ap (shown_before known) e ∙ sym is)
  still-ticks (suc n) cols cells is =
      let before = still-ticks n (λ t l e. cols t l (omega (arith, e))) (λ t l e. cells t l (omega (arith, e))) is in
      let here : known (from + n) ≡ column_of last =
      sym (cols (from + n) (omega arith) (omega arith)) ∙ still-column (cell_at line (from + n)) last _ (cells (from + n) (omega arith) (omega arith)) in
      let next : from + suc n ≡ (from + n) + 1 = omega arith in (
        ap (λ cs. cs ++ changes_at known (from + n)) before.0 ∙ ap (λ (p : Pair). tick_changes (from + n) p (known (from + n))) before.1
            ∙ ap (tick_changes (from + n) last) here ∙ nothing-changes (from + n) last.a last.b,
        ap (shown_before known) next ∙ sym (before-next known (from + n)) ∙ ap (λ (c : Column). c.shown) here,
      )

abbrev stands-at : ℕ → Pair → Drawer
stands-at t p = record { tick = t; last = p }

-- a drawer passed such ticks
pub passed-still : (known : ℕ → Column) (line : DelayLine) (d d' : Drawer) → d.tick ≤ d'.tick →
    ((t : ℕ) → d.tick ≤ t → t < d'.tick → column_at line t ≡ known t) → ((t : ℕ) → d.tick ≤ t → t < d'.tick → cell_at line t ≡ code_of d.last) →
    d.last ≡ shown_before known d.tick → d'.last ≡ d.last →
    (d' ≡ drawer_at known d'.tick) × (changes_from known d.tick (d'.tick - d.tick) ≡ [])
passed-still known line d d' later cols cells is same =
    let whole : d.tick + (d'.tick - d.tick) ≡ d'.tick = omega (arith, later) in
    let s = still-ticks known line d.tick d.last (d'.tick - d.tick) (λ t l e. cols t l (omega (arith, e, later))) (λ t l e. cells t l (omega (arith, e, later))) is in (
      ap (stands-at d'.tick) (same ∙ sym s.1 ∙ ap (shown_before known) whole),
      s.0,
    )

-- no line was added
pub text-still : (text : List ℕ) (known : ℕ → Column) (from n : ℕ) → changes_from known from n ≡ [] → text ≡ text ++ changes_text (changes_from known from n)
text-still text known from n none = sym (append-nil text) ∙ ap (λ cs. text ++ changes_text cs) (sym none)

-- a drawer passed such ticks, and drew one more
pub drew-next : (known : ℕ → Column) (line : DelayLine) (d d' d2 : Drawer) (text text' : List ℕ) → d.tick ≤ d'.tick →
    column_at line d'.tick ≡ known d'.tick → (d' ≡ drawer_at known d'.tick) × (changes_from known d.tick (d'.tick - d.tick) ≡ []) →
    text' ≡ text ++ changes_text (tick_changes d'.tick d'.last (column_at line d'.tick)) →
    d2 ≡ record { tick = d'.tick + 1; last = (column_at line d'.tick).shown } →
    (d2 ≡ drawer_at known d2.tick) × (text' ≡ text ++ changes_text (changes_from known d.tick (d2.tick - d.tick)))
unfolding changes_from
drew-next known line d d' d2 text text' later column passed drew is =
    let t : ℕ = d'.tick in
    let last : d'.last ≡ shown_before known t = ap (λ (x : Drawer). x.last) passed.0 in
    let tick : d2.tick ≡ t + 1 = ap (λ (x : Drawer). x.tick) is in
    let more : suc (t - d.tick) ≡ d2.tick - d.tick = omega (arith, later, tick) in
    let place : d.tick + (t - d.tick) ≡ t = omega (arith, later) in
    let shown : d2.last ≡ shown_before known (t + 1) =
    ap (λ (x : Drawer). x.last) is ∙ ap (λ (c : Column). c.shown) column ∙ before-next known t in
    let added : changes_from known d.tick (d2.tick - d.tick) ≡ changes_at known t =
    ap (changes_from known d.tick) (sym more) ∙ ap (λ cs. cs ++ changes_at known (d.tick + (t - d.tick))) passed.1 ∙ ap (changes_at known) place in (
      ap (stands-at d2.tick) (shown ∙ ap (shown_before known) (sym tick)),
      drew ∙ ap (λ (p : Pair). text ++ changes_text (tick_changes t p (column_at line t))) last
          ∙ ap (λ (c : Column). text ++ changes_text (tick_changes t (shown_before known t) c)) column ∙ ap (λ cs. text ++ changes_text cs) (sym added),
    )

-- what holds up to a tick, and of it
pub one-more : (P : ℕ → Type 0) (from n : ℕ) → ((t : ℕ) → from ≤ t → t < n → P t) → P n → (t : ℕ) → from ≤ t → t < n + 1 → P t
one-more P from n before here t later early = elim (eq-zero-or-pos (n - t)) [
  | inl none ↦ (let is : n ≡ t = omega (arith, none, early) in subst P is here)
  | inr some ↦ before t later (omega (arith, some))
]
