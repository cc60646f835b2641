-- What marks leave as it is.
use Rattle.std.proofs.Common.{◌≡◌, ℕ, suc, ◌+◌, ◌-◌, ◌<◌, ◌≤◌, List, [], ◌∷◌, length, refl, ap, sym, ◌∙◌, arith}
use Rattle.std.specs.Prelude.{Bool, true, false, ◌==◌, if◌then◌else◌}
use Rattle.std.proofs.lemmas.Bool.Decides.{nat_tests}
use Rattle.bus_base.specs.Samples.{quiet_pair}
use Rattle.bus_base.specs.declared.samples.Channel.{Channel}
use Rattle.bus_base.specs.declared.samples.Channel.TheVariants.{A, B}
use Rattle.bus_base.specs.declared.samples.Pair.{Pair}
use Rattle.bus_line.specs.Channels.{on_channel, both_quiet, quiet_both}
use Rattle.bus_wave.specs.Marks.{column_of, column_with}
use Rattle.bus_wave.specs.Told.{Told, told_last}
use Rattle.bus_wave.specs.Waves.{after, after_all, begun, columns, columns_at_end, told_on, shown_before}
use Rattle.bus_wave.specs.declared.marks.Column.{Column}
use Rattle.bus_wave.specs.declared.marks.Mark.{Mark}

shown-with : (c : Channel) (mark : Mark) (column : Column) → (column_with c mark column).shown ≡ column.shown
shown-with A mark column = refl
shown-with B mark column = refl

shown-if : (test : Bool) (x y : Column) → x.shown ≡ y.shown → (if test then x else y).shown ≡ y.shown
shown-if true x y h = h
shown-if false x y h = refl

shown-after : (c : Channel) (told : Told) (known : ℕ → Column) (t : ℕ) → (after c told known t).shown ≡ (known t).shown
shown-after c told known t = shown-if (t == told.tick) (column_with c told.mark (known t)) (known t) (shown-with c told.mark (known t))

-- marks don't change what was shown
pub shown-all : (c : Channel) (told : List Told) (known : ℕ → Column) (t : ℕ) → (after_all c told known t).shown ≡ (known t).shown
shown-all c [] known t = refl
shown-all c (x ∷ xs) known t = shown-all c xs (after c x known) t ∙ shown-after c x known t

pub begun-other : (tick t : ℕ) (shown : Pair) (known : ℕ → Column) → t < tick → begun tick shown known t ≡ known t
begun-other tick t shown known h =
    let other : (t == tick) ≡ false = grind (arith, nat_tests, h) in
    ap (λ b. if b then column_of shown else known t) other

begun-same : (tick : ℕ) (shown : Pair) (known : ℕ → Column) → begun tick shown known tick ≡ column_of shown
begun-same tick shown known =
    let same : (tick == tick) ≡ true = grind (arith, nat_tests) in
    ap (λ b. if b then column_of shown else known tick) same

-- a tick more doesn't change what earlier ones showed
pub shown-earlier : (k : ℕ) (x : Pair) (past : List Pair) (t : ℕ) → t < length past → (columns k (x ∷ past) t).shown ≡ (columns k past t).shown
unfolding columns
shown-earlier k x past t h =
    shown-all B (told_on k B x past) (after_all A (told_on k A x past) (begun (length past) x (columns k past))) t
    ∙ shown-all A (told_on k A x past) (begun (length past) x (columns k past)) t
    ∙ ap (λ (c : Column). c.shown) (begun-other (length past) t x (columns k past) h)

-- the newest tick shows what it shows
pub shown-newest : (k : ℕ) (x : Pair) (past : List Pair) → (columns k (x ∷ past) (length past)).shown ≡ x
unfolding columns
shown-newest k x past =
    shown-all B (told_on k B x past) (after_all A (told_on k A x past) (begun (length past) x (columns k past))) (length past)
    ∙ shown-all A (told_on k A x past) (begun (length past) x (columns k past)) (length past)
    ∙ ap (λ (c : Column). c.shown) (begun-same (length past) x (columns k past))

-- nor does the end
pub shown-at-end : (k : ℕ) (past : List Pair) (t : ℕ) → t < length past → (columns_at_end k past t).shown ≡ (columns k past t).shown
unfolding columns_at_end
shown-at-end k past t h =
    shown-all B (told_last k (on_channel B past)) (after_all A (told_last k (on_channel A past)) (begun (length past) quiet_pair (columns k past))) t
    ∙ shown-all A (told_last k (on_channel A past)) (begun (length past) quiet_pair (columns k past)) t
    ∙ ap (λ (c : Column). c.shown) (begun-other (length past) t quiet_pair (columns k past) h)

-- what was shown before a tick, by what each tick showed
pub shown-before-by : (zero-tick : Bool) (known other : ℕ → Column) (t : ℕ) → (zero-tick ≡ false → (known (t - 1)).shown ≡ (other (t - 1)).shown) →
    (if zero-tick then quiet_pair else (known (t - 1)).shown) ≡ (if zero-tick then quiet_pair else (other (t - 1)).shown)
shown-before-by true known other t h = refl
shown-before-by false known other t h = h refl

pub before-earlier : (k : ℕ) (x : Pair) (past : List Pair) (t : ℕ) → t ≤ length past →
    shown_before (columns k (x ∷ past)) t ≡ shown_before (columns k past) t
before-earlier k x past t h =
    shown-before-by (t == 0) (columns k (x ∷ past)) (columns k past) t
    (λ some. shown-earlier k x past (t - 1) (grind (arith, nat_tests, some, h)))

pub before-at-end : (k : ℕ) (past : List Pair) (t : ℕ) → t ≤ length past →
    shown_before (columns_at_end k past) t ≡ shown_before (columns k past) t
before-at-end k past t h =
    shown-before-by (t == 0) (columns_at_end k past) (columns k past) t
    (λ some. shown-at-end k past (t - 1) (grind (arith, nat_tests, some, h)))

-- after a tick
pub before-next : (known : ℕ → Column) (t : ℕ) → (known t).shown ≡ shown_before known (t + 1)
before-next known t =
    let later : ((t + 1) == 0) ≡ false = grind (arith, nat_tests) in
    let same : (t + 1) - 1 ≡ t = omega arith in
    sym (ap (λ b. if b then quiet_pair else (known ((t + 1) - 1)).shown) later ∙ ap (λ n. (known n).shown) same)

quiet-if : (both : Bool) (n m : ℕ) → n ≤ m → (if both then suc n else 0) ≤ suc m
quiet-if true n m h = omega (arith, h)
quiet-if false n m h = omega arith

-- there are no more quiet ticks than ticks
pub quiet-few : (past : List Pair) → quiet_both past ≤ length past
quiet-few [] = omega arith
quiet-few (x ∷ past) = quiet-if (both_quiet x) (quiet_both past) (length past) (quiet-few past)
