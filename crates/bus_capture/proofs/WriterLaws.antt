-- A line's text is the two bytes of each tick, and a line feed; a text is made line by line.
use Rattle.std.proofs.Common.{◌≡◌, length-take-le, ℕ, zero, suc, ◌+◌, ◌<◌, ◌≤◌, ◌*◌, List, [], ◌∷◌, ◌++◌, length, take, get_or, refl, ap, ◌∙◌, arith}
use Rattle.std.specs.Prelude.{flat_map, ◌==◌, true, false, if◌then◌else◌}
use Rattle.std.proofs.lemmas.Bool.Decides.{nat_tests}
use Rattle.bus_base.specs.declared.samples.Pair.{Pair}
use Rattle.bus_capture.specs.Captures.{sample_byte, ticks_text, line_feed, line_ticks}

-- the two bytes of a tick
abbrev pub tick_bytes : Pair → List ℕ
tick_bytes shown = sample_byte shown.a ∷ sample_byte shown.b ∷ []

-- the text of a line that has room for these ticks
pub line-text : (n : ℕ) (pairs : List Pair) → 0 < n + length pairs → n + length pairs ≤ 64 → n < 64 →
    ticks_text n pairs ≡ flat_map tick_bytes pairs ++ (line_feed ∷ [])
line-text zero [] some fits room = absurd (omega (arith, some))
line-text (suc n) [] some fits room = refl
line-text n (shown ∷ []) some fits room =
    let cut : (if suc n == line_ticks then line_feed ∷ ticks_text 0 [] else ticks_text (suc n) []) ≡ line_feed ∷ [] = grind (arith, nat_tests) in
    rw cut refl
line-text n (shown ∷ next ∷ later) some fits room =
    let more : (suc n == line_ticks) ≡ false = grind (arith, nat_tests, fits) in
    let rest : ticks_text (suc n) (next ∷ later) ≡ flat_map tick_bytes (next ∷ later) ++ (line_feed ∷ []) =
    line-text (suc n) (next ∷ later) (omega arith) (omega (arith, fits)) (omega (arith, fits)) in
    rw (more, rest) refl

-- a whole line ends the line, and the rest of the text is that of the later ticks
pub whole-line : (n : ℕ) (line later : List Pair) → n + length line ≡ 64 → n < 64 →
    ticks_text n (line ++ later) ≡ ticks_text n line ++ ticks_text 0 later
whole-line n [] later whole room = absurd (omega (arith, whole, room))
whole-line n (shown ∷ []) later whole room =
    let last : (suc n == line_ticks) ≡ true = grind (arith, nat_tests, whole) in
    rw last refl
whole-line n (shown ∷ next ∷ line) later whole room =
    let more : (suc n == line_ticks) ≡ false = grind (arith, nat_tests, whole) in
    let rest : ticks_text (suc n) (next ∷ (line ++ later)) ≡ ticks_text (suc n) (next ∷ line) ++ ticks_text 0 later =
    whole-line (suc n) (next ∷ line) later (omega (arith, whole)) (omega (arith, whole)) in
    rw (more, rest) refl

pub bytes_more : (xs : List Pair) (i : ℕ) (d : Pair) → i < length xs →
    flat_map tick_bytes (take (suc i) xs) ≡ flat_map tick_bytes (take i xs) ++ tick_bytes (get_or xs i d)
bytes_more [] i d h = absurd (omega (arith, h))
bytes_more (x ∷ xs) zero d h = refl
bytes_more (x ∷ xs) (suc i) d h = rw (bytes_more xs i d (omega (arith, h))) refl

pub length-bytes : (xs : List Pair) → length (flat_map tick_bytes xs) ≡ 2 * length xs
length-bytes [] = omega arith
length-bytes (x ∷ xs) = let rest : length (flat_map tick_bytes xs) ≡ 2 * length xs = length-bytes xs in omega (arith, rest)

pub length-taken : (xs : List Pair) (i : ℕ) (line : List ℕ) → i ≤ length xs → line ≡ flat_map tick_bytes (take i xs) → length line ≡ 2 * i
length-taken xs i line fits is =
    let long : length line ≡ 2 * length (take i xs) = ap length is ∙ length-bytes (take i xs) in
    let taken : length (take i xs) ≡ i = length-take-le i xs fits in
    omega (arith, long, taken)
