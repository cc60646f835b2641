-- The newest samples of a past as bits, with one tick more and without the first forty.
use Rattle.std.proofs.Common.{◌≡◌, ℕ, zero, suc, ◌+◌, ◌*◌, ◌/◌, ◌^◌, ◌<◌, ◌≤◌, Bool, true, false, cond, if◌then◌else◌, List, [], ◌∷◌, ◌++◌, map, reverse, length, take, drop, refl, sym, ap, ◌∙◌, arith, pow-suc, div-one, ◌%◌, take-add}
use Rattle.std.specs.Prelude.{min}
use Rattle.std.proofs.lemmas.List.{map-append, length-map, length-reverse, length-take, length-drop, reverse-append, drop-map}
use Rattle.std.proofs.Math.Seq.{drop-append_seam}
use Rattle.std.proofs.Math.Nat.{zero-div}
use Rattle.std.proofs.lemmas.Nat.{shr-shr, shl_whole, or_comm, or_shifted}
use Rattle.std.proofs.lemmas.Simd.{mask_l-lt}
use lib.Bits.{bit_or}
use lib.Lanes.{mask_l}
use Rattle.bus_base.specs.Samples.{is_quiet}
use Rattle.bus_base.specs.declared.samples.Sample.{Sample}
use Rattle.bus_base.specs.declared.samples.Sample.TheVariants.{Quiet}
use Rattle.bus_line.specs.Spelling.{is_plus}
use Rattle.bus_planes.specs.Bits.{is_heard, heard_bits, plus_bits}
use Rattle.bus_line.specs.Cutting.{newest_samples}
use Rattle.bus_line.proofs.SlotLaws.{reverse-more}

-- one more at the end
mask-push : (ms : List Bool) (b : Bool) → mask_l (ms ++ b ∷ []) ≡ mask_l ms + cond b 1 0 * 2 ^ length ms
mask-push [] true = refl
mask-push [] false = refl
mask-push (m ∷ ms) b =
    let rest : mask_l (ms ++ b ∷ []) ≡ mask_l ms + cond b 1 0 * 2 ^ length ms = mask-push ms b in
    let double : cond b 1 0 * 2 ^ suc (length ms) ≡ 2 * (cond b 1 0 * 2 ^ length ms) = doubled b (length ms) in
    rw (rest, double) (omega arith)
  where
    doubled : (b : Bool) (n : ℕ) → cond b 1 0 * 2 ^ suc n ≡ 2 * (cond b 1 0 * 2 ^ n)
    doubled true n = omega (arith, pow-suc 2 n)
    doubled false n = omega arith

-- so many newest samples
pub newest-long : (m : ℕ) (past : List Sample) → m ≤ length past → length (newest_samples m past) ≡ m
newest-long m past within = let long : length (take m past) ≡ min m (length past) = length-take m past in length-reverse (take m past) ∙ omega (arith, long, within)

more : (f : Sample → Bool) (x : Sample) (m : ℕ) (past : List Sample) → m ≤ length past →
    mask_l (map f (newest_samples (suc m) (x ∷ past))) ≡ mask_l (map f (newest_samples m past)) + cond (f x) 1 0 * 2 ^ m
more f x m past within =
    let long : length (map f (newest_samples m past)) ≡ m = length-map (newest_samples m past) f ∙ newest-long m past within in
    ap (λ xs. mask_l (map f xs)) (reverse-more x (take m past)) ∙ ap mask_l (map-append f (newest_samples m past) (x ∷ []))
    ∙ mask-push (map f (newest_samples m past)) (f x) ∙ ap (λ n. mask_l (map f (newest_samples m past)) + cond (f x) 1 0 * 2 ^ n) long

-- ---- with a quiet tick

pub heard-quiet : (m : ℕ) (past : List Sample) → m ≤ length past → heard_bits (newest_samples (suc m) (Quiet ∷ past)) ≡ heard_bits (newest_samples m past)
heard-quiet m past within = more is_heard Quiet m past within ∙ omega arith

pub plus-quiet : (m : ℕ) (past : List Sample) → m ≤ length past → plus_bits (newest_samples (suc m) (Quiet ∷ past)) ≡ plus_bits (newest_samples m past)
plus-quiet m past within = more is_plus Quiet m past within ∙ omega arith

-- ---- with another

heard-one : (x : Sample) → is_quiet x ≡ false → is_heard x ≡ true
heard-one x e = rw e refl

pub heard-pulse : (x : Sample) (m : ℕ) (past : List Sample) → is_quiet x ≡ false → m ≤ length past →
    heard_bits (newest_samples (suc m) (x ∷ past)) ≡ heard_bits (newest_samples m past) + 2 ^ m
heard-pulse x m past pulse within =
    more is_heard x m past within ∙ ap (λ b. heard_bits (newest_samples m past) + cond b 1 0 * 2 ^ m) (heard-one x pulse) ∙ omega arith

pub plus-pulse : (x : Sample) (m : ℕ) (past : List Sample) → m ≤ length past →
    plus_bits (newest_samples (suc m) (x ∷ past)) ≡ plus_bits (newest_samples m past) + (if is_plus x then 1 else 0) * 2 ^ m
plus-pulse x m past within = more is_plus x m past within

pub one-heard : (x : Sample) (past : List Sample) → is_quiet x ≡ false → 1 ≡ heard_bits (newest_samples 1 (x ∷ past))
one-heard x past pulse = sym (heard-pulse x 0 past pulse (omega arith))

pub one-plus : (x : Sample) (past : List Sample) → (if is_plus x then 1 else 0) ≡ plus_bits (newest_samples 1 (x ∷ past))
one-plus x past = sym (plus-pulse x 0 past (omega arith) ∙ first (is_plus x))
  where
    first : (b : Bool) → 0 + (if b then 1 else 0) * 2 ^ 0 ≡ (if b then 1 else 0)
    first true = refl
    first false = refl

-- ---- without the first samples

mask-drop : (j : ℕ) (ms : List Bool) → mask_l ms / 2 ^ j ≡ mask_l (drop j ms)
mask-drop zero ms = div-one (mask_l ms)
mask-drop (suc j) [] = zero-div (2 ^ suc j)
mask-drop (suc j) (m ∷ ms) =
    let half : mask_l (m ∷ ms) / 2 ≡ mask_l ms = halved m (mask_l ms) in
    let e : 1 + j ≡ suc j = omega arith in
    ap (λ i. mask_l (m ∷ ms) / 2 ^ i) (sym e) ∙ sym (shr-shr (mask_l (m ∷ ms)) 1 j) ∙ ap (λ n. n / 2 ^ j) half ∙ mask-drop j ms
  where
    halved : (b : Bool) (n : ℕ) → (cond b 1 0 + 2 * n) / 2 ≡ n
    halved true n = omega arith
    halved false n = omega arith

newest-drop : (j n : ℕ) (past : List Sample) → n + j ≤ length past → drop j (newest_samples (n + j) past) ≡ newest_samples n past
newest-drop j n past within =
    let long : length (reverse (take j (drop n past))) ≡ j = length-reverse (take j (drop n past)) ∙ omega (arith, length-take j (drop n past), length-drop n past, within) in
    ap (drop j) (ap reverse (take-add n j past) ∙ reverse-append (take n past) (take j (drop n past))) ∙ ap (λ i. drop i (reverse (take j (drop n past)) ++ reverse (take n past))) (sym long) ∙ drop-append_seam (reverse (take j (drop n past))) (reverse (take n past))

later : (f : Sample → Bool) (j n : ℕ) (past : List Sample) (bits : ℕ) → n + j ≤ length past → bits ≡ mask_l (map f (newest_samples (n + j) past)) →
    bits / 2 ^ j ≡ mask_l (map f (newest_samples n past))
later f j n past bits within is =
    ap (λ b. b / 2 ^ j) is ∙ mask-drop j (map f (newest_samples (n + j) past)) ∙ ap mask_l (drop-map f j (newest_samples (n + j) past)) ∙ ap (λ xs. mask_l (map f xs)) (newest-drop j n past within)

pub heard-later : (n : ℕ) (past : List Sample) (bits : ℕ) → n + 40 ≤ length past → bits ≡ heard_bits (newest_samples (n + 40) past) → bits / 1099511627776 ≡ heard_bits (newest_samples n past)
heard-later n past bits within is = later is_heard 40 n past bits within is

pub plus-later : (n : ℕ) (past : List Sample) (bits : ℕ) → n + 40 ≤ length past → bits ≡ plus_bits (newest_samples (n + 40) past) → bits / 1099511627776 ≡ plus_bits (newest_samples n past)
plus-later n past bits within is = later is_plus 40 n past bits within is

-- ---- as the code computes them

-- so many samples make a number of so many bits
pub bits-fit : (f : Sample → Bool) (m : ℕ) (past : List Sample) (bits : ℕ) → m ≤ length past → bits ≡ mask_l (map f (newest_samples m past)) → bits < 2 ^ m
bits-fit f m past bits within is =
    let below : mask_l (map f (newest_samples m past)) < 2 ^ length (map f (newest_samples m past)) = mask_l-lt (map f (newest_samples m past)) in
    let long : length (map f (newest_samples m past)) ≡ m = length-map (newest_samples m past) f ∙ newest-long m past within in
    rw is (rw long at below)

-- one bit more
pub or-bit : (bits b m : ℕ) → bits < 2 ^ m → b < 2 → m < 63 → bit_or bits (b * 2 ^ m % 2 ^ 64) ≡ bits + b * 2 ^ m
or-bit bits b m fits one few =
    let whole : b * 2 ^ m % 2 ^ 64 ≡ b * 2 ^ m = shl_whole b 1 m 64 one (omega (arith, few)) in
    rw whole (or_comm bits (b * 2 ^ m) ∙ or_shifted b m bits fits ∙ omega arith)
