-- Lines of a wave one after the other.
use Rattle.std.proofs.Common.{◌≡◌, ℕ, ◌*◌, ◌/◌, ◌%◌, ◌^◌, ◌<◌, ◌≤◌, List, [], ◌∷◌, ◌++◌, decimal, refl, ap, sym, ◌∙◌, append_assoc, append-nil, arith}
use Rattle.std.specs.Prelude.{Bool, true, false, ◌==◌, ◌&&◌, if◌then◌else◌}
use Rattle.std.proofs.lemmas.Bool.Decides.{nat_tests}
use Rattle.itoa.proofs.Decimal.{decimal_four}
use Rattle.std.proofs.lemmas.Grind.{flat_map-append}
use Rattle.bus_base.specs.declared.samples.Channel.TheVariants.{A, B}
use Rattle.bus_base.specs.declared.samples.Pair.{Pair}
use Rattle.bus_line.specs.Spelling.{same_sample}
use Rattle.bus_text.specs.Texts.{line}
use Rattle.bus_wave.specs.Levels.{four_digits}
use Rattle.bus_wave.specs.Marks.{Change, time, time_change, changes_of, column_of, level_changes, tick_changes}
use Rattle.bus_wave.specs.Texts.{change_text, changes_text}

pub changes-append : (xs ys : List Change) → changes_text (xs ++ ys) ≡ changes_text xs ++ changes_text ys
changes-append xs ys = flat_map-append change_text xs ys

-- lines were added, and then more
pub lines-then : (t0 t1 t2 : List ℕ) (xs ys : List Change) → t1 ≡ t0 ++ changes_text xs → t2 ≡ t1 ++ changes_text ys → t2 ≡ t0 ++ changes_text (xs ++ ys)
lines-then t0 t1 t2 xs ys first later =
    later ∙ ap (λ t. t ++ changes_text ys) first ∙ append_assoc t0 (changes_text xs) (changes_text ys)
    ∙ ap (λ t. t0 ++ t) (sym (changes-append xs ys))

-- a text and five more, one after the other
pub five-parts : (t a b c d e : List ℕ) → ((((t ++ a) ++ b) ++ c) ++ d) ++ e ≡ t ++ ((((a ++ b) ++ c) ++ d) ++ e)
five-parts t a b c d e = simp append_assoc

-- a time of which the first digits and the last four were written
late-time : (tick : ℕ) → 2000 ≤ tick → tick < 2 ^ 60 →
    (35 ∷ decimal (tick / 2000)) ++ line (four_digits (5 * tick % 10000)) ≡ changes_text (time_change tick)
late-time tick late few =
    let digits : List ℕ = four_digits (5 * tick % 10000) in
    let first : 5 * tick / 10000 ≡ tick / 2000 = omega arith in
    let whole : decimal (5 * tick) ≡ decimal (tick / 2000) ++ digits =
    decimal_four (5 * tick) (omega (arith, late)) (omega (arith, few)) ∙ ap (λ n. decimal n ++ digits) first in
    let some : (tick == 0) ≡ false = grind (arith, nat_tests, late) in
    sym (append_assoc (35 ∷ decimal (tick / 2000)) digits (10 ∷ [])) ∙ ap (λ ds. line (35 ∷ ds)) (sym whole)
    ∙ sym (ap (λ b. changes_text (if b then [] else time tick ∷ [])) some ∙ append-nil (line (35 ∷ decimal (5 * tick))))

-- the lines of a tick without marks
levels-change : (tick : ℕ) (before shown : Pair) → changes_text (changes_of tick before (column_of shown)) ≡
    (changes_text (time_change tick) ++ changes_text (level_changes A before.a shown.a)) ++ changes_text (level_changes B before.b shown.b)
levels-change tick before shown =
    let t = time_change tick in
    let a = level_changes A before.a shown.a in
    let b = level_changes B before.b shown.b in
    ap changes_text (append-nil (((t ++ a) ++ b) ++ []) ∙ append-nil ((t ++ a) ++ b)) ∙ changes-append (t ++ a) b
    ∙ ap (λ x. x ++ changes_text b) (changes-append t a)

-- the first digits of its time were written, and then the last four and its levels
pub late-change : (text : List ℕ) (tick : ℕ) (before shown : Pair) → 2000 ≤ tick → tick < 2 ^ 60 →
    (text ++ (35 ∷ decimal (tick / 2000))) ++ ((line (four_digits (5 * tick % 10000)) ++ changes_text (level_changes A before.a shown.a))
    ++ changes_text (level_changes B before.b shown.b)) ≡ text ++ changes_text (changes_of tick before (column_of shown))
late-change text tick before shown late few =
    let stamp : List ℕ = 35 ∷ decimal (tick / 2000) in
    let digits : List ℕ = line (four_digits (5 * tick % 10000)) in
    let a = changes_text (level_changes A before.a shown.a) in
    let b = changes_text (level_changes B before.b shown.b) in
    append_assoc text stamp ((digits ++ a) ++ b) ∙ ap (λ x. text ++ x) (
    sym (append_assoc stamp (digits ++ a) b) ∙ ap (λ x. x ++ b) (sym (append_assoc stamp digits a))
    ∙ ap (λ x. (x ++ a) ++ b) (late-time tick late few) ∙ sym (levels-change tick before shown))

-- where a level changes the tick has lines
pub changed-tick : (tick : ℕ) (before shown : Pair) → (same_sample before.a shown.a && same_sample before.b shown.b) ≡ false →
    tick_changes tick before (column_of shown) ≡ changes_of tick before (column_of shown)
changed-tick tick before shown e = rw e refl

pub still-tick : (tick : ℕ) (before shown : Pair) → (same_sample before.a shown.a && same_sample before.b shown.b) ≡ true →
    tick_changes tick before (column_of shown) ≡ []
still-tick tick before shown e = rw e refl
