-- Both channels: what a tick adds to the breaches, and ticks at once that add none.
use Rattle.std.proofs.Common.{◌≡◌, ℕ, zero, suc, ◌+◌, ◌-◌, ◌≤◌, List, [], ◌∷◌, ◌++◌, length, refl, ap, sym, ◌∙◌, arith, inl, inr, append_assoc, length-append}
use Rattle.std.specs.Prelude.{Bool, true, false, not, ◌&&◌, nat_lt, nat_le, min, is_some, if◌then◌else◌, Option, Some, None}
use Rattle.std.proofs.lemmas.Bool.{cases_lt, lt-ltb, le-ltb}
use Rattle.std.proofs.lemmas.Bool.Decides.{nat_tests}
use Rattle.std.proofs.lemmas.List.{append-nil}
use Rattle.std.proofs.lemmas.Grind.{flat_map-append}
use Rattle.bus_base.specs.Samples.{quiet_pairs}
use Rattle.bus_base.specs.declared.samples.Channel.{Channel}
use Rattle.bus_base.specs.declared.samples.Channel.TheVariants.{A, B}
use Rattle.bus_base.specs.declared.samples.Pair.{Pair}
use Rattle.bus_base.specs.declared.samples.Sample.{Sample}
use Rattle.bus_base.specs.declared.samples.Sample.TheVariants.{Plus, Minus, Quiet}
use Rattle.bus_line.specs.Past.{quiet, runs, first_tick, ended_now, quiet_ticks}
use Rattle.bus_line.specs.Channels.{on_channel, quiet_both}
use Rattle.bus_line.specs.declared.cutter.TheConstants.{LAG}
use Rattle.bus_formats.specs.Times.{least_quiet}
use Rattle.bus_monitor.specs.Listings.{running_on}
use Rattle.bus_monitor.specs.Told.{begins}
use Rattle.bus_monitor.proofs.ChannelLaws.{length-on_channel}
use Rattle.bus_monitor.proofs.PartLaws.{on-append}
use Rattle.bus_monitor.proofs.StepLaws.{some-if}
use Rattle.bus_rules.specs.Breaches.{breach_where, is_heard, both_heard, overlaps, overlap_now, known_on, known_now, known, open_burst, open_bursts, breaches, at_end, at_begin}
use Rattle.bus_monitor.specs.Listings.{end_line}
use Rattle.bus_rules.specs.JudgeTexts.{breach_line, breach_lines, verdict_line, known_lines, judge_text}
use Rattle.bus_rules.specs.Stands.{is_on, NoneKnown, open_by}
use Rattle.bus_rules.specs.declared.breach.Rule.TheVariants.{Overlap, Open}
use Rattle.bus_monitor.specs.Progress.{waiting}

-- ---- whether the other channel was busy

quiet-le : (past : List Sample) → quiet past ≤ length past
quiet-le [] = omega arith
quiet-le (Plus ∷ past) = omega arith
quiet-le (Minus ∷ past) = omega arith
quiet-le (Quiet ∷ past) = let below : quiet past ≤ length past = quiet-le past in omega arith

min-more : (m n : ℕ) → suc (min m n) ≡ min (suc m) (suc n)
min-more m n = omega arith

min-none : (n : ℕ) → 0 ≡ min n 0
min-none n = omega arith

none-min : (n : ℕ) → 0 ≡ min 0 n
none-min n = omega arith

quiet-cases : (a b : Sample) (past : List Pair) → quiet_both past ≡ min (quiet (on_channel A past)) (quiet (on_channel B past)) →
    quiet_both (record { a = a; b = b } ∷ past) ≡ min (quiet (a ∷ on_channel A past)) (quiet (b ∷ on_channel B past))
quiet-cases Quiet Quiet past is = ap suc is ∙ min-more (quiet (on_channel A past)) (quiet (on_channel B past))
quiet-cases Quiet Plus past is = min-none _
quiet-cases Quiet Minus past is = min-none _
quiet-cases Plus b past is = none-min _
quiet-cases Minus b past is = none-min _

pub quiet-min : (past : List Pair) → quiet_both past ≡ min (quiet (on_channel A past)) (quiet (on_channel B past))
quiet-min [] = omega arith
quiet-min (shown ∷ past) = quiet-cases shown.a shown.b past (quiet-min past)

by-quiet : (qa qb q n : ℕ) → qa ≤ n → qb ≤ n → q ≡ min qa qb → (nat_lt 0 (n - qa) && nat_le qa 3) ≡ false →
    (nat_lt 0 (n - qb) && nat_le qb 3) ≡ nat_lt q (min 4 n)
by-quiet qa qb q n a b is off = elim (cases_lt q (min 4 n)) [
  | inl less ↦ rw (lt-ltb q (min 4 n) less) (grind (arith, nat_tests, a, b, is, off, less))
  | inr most ↦ rw (le-ltb q (min 4 n) most) (grind (arith, nat_tests, a, b, is, off, most))
]

-- where no burst runs on a channel one runs on the other exactly where one of the four ticks before wasn't quiet on both
busy-on : (qa qb q n : ℕ) (mine other : List Sample) → quiet mine ≤ length mine → quiet other ≤ length other → length mine ≡ n → length other ≡ n →
    q ≡ min (quiet mine) (quiet other) → runs LAG mine ≡ false → runs LAG other ≡ nat_lt q (min least_quiet n)
busy-on qa qb q n mine other a b la lb is off =
    ap (λ m. nat_lt 0 (m - quiet other) && nat_le (quiet other) LAG) lb
    ∙ by-quiet (quiet mine) (quiet other) q n (omega (arith, a, la)) (omega (arith, b, lb)) is
    (ap (λ m. nat_lt 0 (m - quiet mine) && nat_le (quiet mine) LAG) (sym la) ∙ off)

min-comm : (q m n : ℕ) → q ≡ min m n → q ≡ min n m
min-comm q m n is = omega (arith, is)

pub busy-b : (past : List Pair) (running : Option ℕ) (now : ℕ) → running ≡ running_on LAG (on_channel B past) → now ≡ length past →
    runs LAG (on_channel A past) ≡ false → is_some running ≡ nat_lt (quiet_both past) (min least_quiet now)
busy-b past running now is here off =
    ap is_some is ∙ some-if (runs LAG (on_channel B past)) (first_tick LAG (on_channel B past))
    ∙ busy-on 0 0 (quiet_both past) now (on_channel A past) (on_channel B past) (quiet-le _) (quiet-le _) (length-on_channel A past ∙ sym here)
    (length-on_channel B past ∙ sym here) (quiet-min past) off

pub busy-a : (past : List Pair) (running : Option ℕ) (now : ℕ) → running ≡ running_on LAG (on_channel A past) → now ≡ length past →
    runs LAG (on_channel B past) ≡ false → is_some running ≡ nat_lt (quiet_both past) (min least_quiet now)
busy-a past running now is here off =
    ap is_some is ∙ some-if (runs LAG (on_channel A past)) (first_tick LAG (on_channel A past))
    ∙ busy-on 0 0 (quiet_both past) now (on_channel B past) (on_channel A past) (quiet-le _) (quiet-le _) (length-on_channel B past ∙ sym here)
    (length-on_channel A past ∙ sym here) (min-comm _ _ _ (quiet-min past)) off

-- ---- a tick

pub known-more : (shown : Pair) (past : List Pair) → known LAG (shown ∷ past) ≡ known LAG past ++ known_now LAG (shown ∷ past)
unfolding known
known-more shown past = refl

pub lines-more : (shown : Pair) (past : List Pair) → known_lines LAG (shown ∷ past) ≡ known_lines LAG past ++ breach_lines (known_now LAG (shown ∷ past))
unfolding known_lines
lines-more shown past = ap breach_lines (known-more shown past) ∙ flat_map-append breach_line (known LAG past) (known_now LAG (shown ∷ past))

pub count-more : (shown : Pair) (past : List Pair) → length (known LAG (shown ∷ past)) ≡ length (known LAG past) + length (known_now LAG (shown ∷ past))
count-more shown past = ap length (known-more shown past) ∙ length-append (known LAG past) (known_now LAG (shown ∷ past))

pub overlap-is : (first both before : Bool) (ticks : ℕ) (shown : Pair) (past : List Pair) → first ≡ (both && not before) → both ≡ both_heard shown →
    before ≡ overlaps past → ticks ≡ length past → breach_where first A Overlap ticks ≡ overlap_now (shown ∷ past)
overlap-is first both before ticks shown past f b o t = rw (f, b, o, t) refl

-- ---- ticks that add none

none-on : (c : Channel) (q : ℕ) (x : Sample) (past : List Sample) → ended_now LAG (x ∷ past) ≡ None → begins LAG (x ∷ past) ≡ false →
    known_on LAG c q (x ∷ past) ≡ []
none-on c q x past none same =
    ap (λ found. at_end LAG c (waiting LAG past) found ++ at_begin LAG c (length past) q (waiting LAG past) (begins LAG (x ∷ past))) none
    ∙ ap (at_begin LAG c (length past) q (waiting LAG past)) same

overlap-cases : (a b on : Bool) → (a ≡ true → b ≡ true → on ≡ true) → ((a && b) && not on) ≡ false
overlap-cases true true on still = ap not (still refl refl)
overlap-cases true false on still = refl
overlap-cases false b on still = refl

pub on-both : (past : List Pair) → overlaps past ≡ (is_on (on_channel A past) && is_on (on_channel B past))
on-both [] = refl
on-both (shown ∷ past) = refl

pub both-is : (past : List Pair) (a b : Bool) → is_on (on_channel A past) ≡ a → is_on (on_channel B past) ≡ b → overlaps past ≡ (a && b)
both-is past a b on-a on-b = on-both past ∙ ap (λ x. x && is_on (on_channel B past)) on-a ∙ ap (λ y. a && y) on-b

both-on : (a b : Bool) → a ≡ true → b ≡ true → (a && b) ≡ true
both-on a b x y = rw (x, y) refl

pub pairs-none : (ticks past : List Pair) → NoneKnown (on_channel A ticks) (on_channel A past) → NoneKnown (on_channel B ticks) (on_channel B past) →
    known LAG (ticks ++ past) ≡ known LAG past
pairs-none [] past a b = refl
pairs-none (shown ∷ ticks) past a b =
    let before : List Pair = ticks ++ past in
    let q : ℕ = quiet_both before in
    let on-a : known_on LAG A q (on_channel A (shown ∷ before)) ≡ [] =
    ap (λ ys. known_on LAG A q (shown.a ∷ ys)) (on-append A ticks past) ∙ none-on A q shown.a _ a.0 a.1 in
    let on-b : known_on LAG B q (on_channel B (shown ∷ before)) ≡ [] =
    ap (λ ys. known_on LAG B q (shown.b ∷ ys)) (on-append B ticks past) ∙ none-on B q shown.b _ b.0 b.1 in
    let still : is_heard shown.a ≡ true → is_heard shown.b ≡ true → overlaps before ≡ true =
    λ x y. on-both before ∙ both-on _ _ (ap is_on (on-append A ticks past) ∙ a.2 x) (ap is_on (on-append B ticks past) ∙ b.2 y) in
    let over : (both_heard shown && not (overlaps before)) ≡ false = overlap-cases (is_heard shown.a) (is_heard shown.b) (overlaps before) still in
    known-more shown before
    ∙ ap (λ o. known LAG before ++ (breach_where o A Overlap (length before) ++ (known_on LAG A q (on_channel A (shown ∷ before)) ++ known_on LAG B q (on_channel B (shown ∷ before))))) over
    ∙ ap (λ xs. known LAG before ++ (xs ++ known_on LAG B q (on_channel B (shown ∷ before)))) on-a
    ∙ ap (λ xs. known LAG before ++ xs) on-b
    ∙ append-nil (known LAG before)
    ∙ pairs-none ticks past a.3 b.3

pub none-lines : (ticks past : List Pair) → known LAG (ticks ++ past) ≡ known LAG past → known_lines LAG (ticks ++ past) ≡ known_lines LAG past
unfolding known_lines
none-lines ticks past is = ap breach_lines is

pub quiet-on : (c : Channel) (n : ℕ) → on_channel c (quiet_pairs n) ≡ quiet_ticks n
quiet-on c zero = refl
quiet-on A (suc n) = ap (λ xs. Quiet ∷ xs) (quiet-on A n)
quiet-on B (suc n) = ap (λ xs. Quiet ∷ xs) (quiet-on B n)

-- ---- the end

open-if : (c : Channel) (ran : Bool) (first : ℕ) → open_by c (if ran then Some first else None) ≡ breach_where ran c Open first
open-if c true first = refl
open-if c false first = refl

pub open-is : (c : Channel) (past : List Sample) (running : Option ℕ) → running ≡ running_on LAG past → open_by c running ≡ open_burst LAG c past
open-is c past running is = ap (open_by c) is ∙ open-if c (runs LAG past) (first_tick LAG past)

pub open-long : (c d : Channel) (running : Option ℕ) → length (open_by c running) ≡ length (open_by d running)
open-long c d None = refl
open-long c d (Some first) = refl

pub all-count : (past : List Pair) → length (breaches LAG past) ≡ length (known LAG past) + length (open_bursts LAG past)
unfolding breaches
all-count past = length-append (known LAG past) (open_bursts LAG past)

four-parts : (lines late verdict end : List ℕ) → ((lines ++ late) ++ verdict) ++ end ≡ lines ++ ((late ++ verdict) ++ end)
four-parts lines late verdict end = ap (λ xs. xs ++ end) (append_assoc lines late verdict) ∙ append_assoc lines (late ++ verdict) end

-- the judgement is the lines of what became known, then those of the end
pub judge-parts : (past : List Pair) → judge_text LAG past
    ≡ known_lines LAG past ++ ((breach_lines (open_bursts LAG past) ++ verdict_line (length (breaches LAG past))) ++ end_line past)
unfolding judge_text known_lines breaches
judge-parts past =
    ap (λ xs. (xs ++ verdict_line (length (known LAG past ++ open_bursts LAG past))) ++ end_line past) (flat_map-append breach_line (known LAG past) (open_bursts LAG past))
    ∙ four-parts (breach_lines (known LAG past)) (breach_lines (open_bursts LAG past)) (verdict_line (length (known LAG past ++ open_bursts LAG past))) (end_line past)
