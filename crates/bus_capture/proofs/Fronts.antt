-- The ticks at the front of bytes, by their bits.
use Rattle.std.proofs.Common.{◌≡◌, ℕ, zero, suc, ◌+◌, ◌*◌, ◌^◌, ◌<◌, ◌≤◌, Bool, true, false, ◌==◌, ◌&&◌, ◌||◌, List, [], ◌∷◌, ◌++◌, length, map, reverse, take, drop, replicate, get_or, refl, sym, ap, subst, ◌∙◌, arith, w64, append_assoc, take-append-drop}
use Rattle.std.specs.Prelude.{if◌then◌else◌, min}
use Rattle.std.specs.List.{range_with_len}
use Rattle.std.specs.Int.{trailing_ones, bit_not}
use Rattle.std.proofs.lemmas.List.{length-take, length-drop, length-reverse, take_all, take-take, take-append-le, get_or-drop, get_or-append-add, get_or-replicate}
use Rattle.std.proofs.lemmas.Simd.{length-chunk}
use lib.Lanes.{chunk}
use lib.Count.{count_trailing_zeros}
use Rattle.std.proofs.lemmas.List.FromFn.{map-range_with_len_more, length-map-range_with_len}
use Rattle.std.proofs.lemmas.Grind.{take_at_read}
use Rattle.std.proofs.lemmas.Nat.{and_le_l, or_lt, trailing_le}
use lib.Bits.{bit_and, bit_or}
use Rattle.bus_base.specs.declared.samples.Sample.TheVariants.{Plus, Minus, Quiet}
use Rattle.bus_base.specs.declared.samples.Pair.{Pair}
use Rattle.bus_capture.specs.Quiet.{ReadsTicks, is_sample, are_samples, level, pairs_in}
use Rattle.bus_capture.specs.declared.block.Block.{Block}
use Rattle.bus_capture.specs.Blocks.{has_bit, sample_in, tick_in, ticks_of, no_ticks, IsBlockFront}
use Rattle.bus_capture.proofs.QuietLaws.{quiet-none, quiet-feed, reads-parts}
use Rattle.bus_capture.proofs.LineLaws.{samples-read}
use Rattle.bus_capture.proofs.Masks.{has-or, has-and, ones-are}

-- ---- two bytes more

take-two : (bytes : List ℕ) (n : ℕ) → n + 1 < length bytes → take (n + 2) bytes ≡ take n bytes ++ get_or bytes n 0 ∷ get_or bytes (n + 1) 0 ∷ []
take-two bytes n within =
    let here : n < length bytes = omega (arith, within) in
    let e : (n + 1) + 1 ≡ n + 2 = omega arith in
    ap (λ k. take k bytes) (sym e) ∙ (take_at_read bytes (n + 1) 0 within).1
    ∙ ap (λ xs. xs ++ get_or bytes (n + 1) 0 ∷ []) (take_at_read bytes n 0 here).1
    ∙ append_assoc (take n bytes) (get_or bytes n 0 ∷ []) (get_or bytes (n + 1) 0 ∷ [])

samples-append : (xs : List ℕ) (x y : ℕ) → are_samples xs ≡ true → is_sample x ≡ true → is_sample y ≡ true → are_samples (xs ++ x ∷ y ∷ []) ≡ true
samples-append [] x y all one two = rw (one, two) refl
samples-append (p ∷ xs) x y all one two = parts (is_sample p) (are_samples xs) all (samples-append xs x y) one two
  where
    parts : (b r : Bool) {s : Bool} → (b && r) ≡ true → (r ≡ true → is_sample x ≡ true → is_sample y ≡ true → s ≡ true) → is_sample x ≡ true → is_sample y ≡ true → (b && s) ≡ true
    parts true r h go one two = go h one two
    parts false r h go one two = absurd (cc)

pairs-append : (i : ℕ) (xs : List ℕ) (x y : ℕ) → length xs ≡ 2 * i → pairs_in (xs ++ x ∷ y ∷ []) ≡ pairs_in xs ++ record { a = level x; b = level y } ∷ []
pairs-append zero [] x y long = refl
pairs-append zero (p ∷ xs) x y long = absurd (omega (arith, long))
pairs-append (suc i) [] x y long = absurd (omega (arith, long))
pairs-append (suc i) (p ∷ []) x y long = absurd (omega (arith, long))
pairs-append (suc i) (p ∷ q ∷ xs) x y long =
    ap (λ ps. record { a = level p; b = level q } ∷ ps) (pairs-append i xs x y (omega (arith, long)))

-- ---- what the bits tell of a byte

sample-is : (heard plus i byte minus : ℕ) → has_bit plus i ≡ (byte == 43) → has_bit minus i ≡ (byte == 45) → heard ≡ bit_or plus minus → sample_in heard plus i ≡ level byte
sample-is heard plus i byte minus p m is =
    let both : has_bit heard i ≡ ((byte == 43) || (byte == 45)) = rw (is, has-or plus minus i, p, m) refl in
    rw (both, p) (cases (byte == 43) (byte == 45))
  where
    cases : (a b : Bool) → (if a || b then (if a then Plus else Minus) else Quiet) ≡ (if a then Plus else if b then Minus else Quiet)
    cases true b = refl
    cases false true = refl
    cases false false = refl

-- the masks of both channels
pub record AreMasks (bytes : List ℕ) (plus_a minus_a quiet_a plus_b minus_b quiet_b : ℕ) : Type 0 where
  pub long : length bytes ≡ 128
  pub pa : (i : ℕ) → i < 64 → has_bit plus_a i ≡ (get_or bytes (2 * i) 0 == 43)
  pub ma : (i : ℕ) → i < 64 → has_bit minus_a i ≡ (get_or bytes (2 * i) 0 == 45)
  pub qa : (i : ℕ) → i < 64 → has_bit quiet_a i ≡ (get_or bytes (2 * i) 0 == 46)
  pub pb : (i : ℕ) → i < 64 → has_bit plus_b i ≡ (get_or bytes (2 * i + 1) 0 == 43)
  pub mb : (i : ℕ) → i < 64 → has_bit minus_b i ≡ (get_or bytes (2 * i + 1) 0 == 45)
  pub qb : (i : ℕ) → i < 64 → has_bit quiet_b i ≡ (get_or bytes (2 * i + 1) 0 == 46)

module _ (bytes : List ℕ) (plus_a minus_a quiet_a plus_b minus_b quiet_b : ℕ) (m : AreMasks bytes plus_a minus_a quiet_a plus_b minus_b quiet_b) where
  -- the block of so many ticks
  abbrev block-of : ℕ → Block
  block-of n = record { heard_a = bit_or plus_a minus_a; plus_a = plus_a; heard_b = bit_or plus_b minus_b; plus_b = plus_b; ticks = n }

  tick-is : (n i : ℕ) → i < 64 → tick_in (block-of n) i ≡ record { a = level (get_or bytes (2 * i) 0); b = level (get_or bytes (2 * i + 1) 0) }
  tick-is n i h =
      let a : sample_in (bit_or plus_a minus_a) plus_a i ≡ level (get_or bytes (2 * i) 0) = sample-is (bit_or plus_a minus_a) plus_a i (get_or bytes (2 * i) 0) minus_a (m.pa i h) (m.ma i h) refl in
      let b : sample_in (bit_or plus_b minus_b) plus_b i ≡ level (get_or bytes (2 * i + 1) 0) = sample-is (bit_or plus_b minus_b) plus_b i (get_or bytes (2 * i + 1) 0) minus_b (m.pb i h) (m.mb i h) refl in
      rw (a, b) refl

  pairs-so : (n k : ℕ) → k ≤ 64 → map (tick_in (block-of n)) (range_with_len 0 k) ≡ pairs_in (take (2 * k) bytes)
  pairs-so n zero few = refl
  pairs-so n (suc k) few =
      let within : 2 * k + 1 < length bytes = omega (arith, m.long, few) in
      let long : length (take (2 * k) bytes) ≡ min (2 * k) (length bytes) = length-take (2 * k) bytes in
      let whole : length (take (2 * k) bytes) ≡ 2 * k = omega (arith, long, within) in
      let e : 2 * suc k ≡ 2 * k + 2 = omega arith in
      let f : suc k ≡ k + 1 = omega arith in
      ap (λ j. map (tick_in (block-of n)) (range_with_len 0 j)) f
      ∙ map-range_with_len_more (tick_in (block-of n)) 0 k k (omega arith)
      ∙ ap (λ ps. ps ++ tick_in (block-of n) k ∷ []) (pairs-so n k (omega (arith, few)))
      ∙ ap (λ p. pairs_in (take (2 * k) bytes) ++ p ∷ []) (tick-is n k (omega (arith, few)))
      ∙ sym (pairs-append k (take (2 * k) bytes) (get_or bytes (2 * k) 0) (get_or bytes (2 * k + 1) 0) whole)
      ∙ ap pairs_in (sym (take-two bytes (2 * k) within))
      ∙ ap (λ j. pairs_in (take j bytes)) (sym e)

  -- the ticks that are whole
  abbrev whole : ℕ
  whole = bit_and (bit_or (bit_or plus_a minus_a) quiet_a) (bit_or (bit_or plus_b minus_b) quiet_b)

  both-true : (a b : Bool) → (a && b) ≡ true → (a ≡ true) × (b ≡ true)
  both-true true b is = (refl, is)
  both-true false b is = absurd (cc)

  whole-at : (i : ℕ) → i < 64 → has_bit whole i ≡ true → (is_sample (get_or bytes (2 * i) 0) ≡ true) × (is_sample (get_or bytes (2 * i + 1) 0) ≡ true)
  whole-at i h set =
      let a : has_bit (bit_or (bit_or plus_a minus_a) quiet_a) i ≡ is_sample (get_or bytes (2 * i) 0) =
      rw (has-or (bit_or plus_a minus_a) quiet_a i, has-or plus_a minus_a i, m.pa i h, m.ma i h, m.qa i h) refl in
      let b : has_bit (bit_or (bit_or plus_b minus_b) quiet_b) i ≡ is_sample (get_or bytes (2 * i + 1) 0) =
      rw (has-or (bit_or plus_b minus_b) quiet_b i, has-or plus_b minus_b i, m.pb i h, m.mb i h, m.qb i h) refl in
      both-true (is_sample (get_or bytes (2 * i) 0)) (is_sample (get_or bytes (2 * i + 1) 0))
      (rw (← a, ← b) (sym (has-and (bit_or (bit_or plus_a minus_a) quiet_a) (bit_or (bit_or plus_b minus_b) quiet_b) i) ∙ set))

  samples-so : (k : ℕ) → k ≤ 64 → ((i : ℕ) → i < k → has_bit whole i ≡ true) → are_samples (take (2 * k) bytes) ≡ true
  samples-so zero few set = refl
  samples-so (suc k) few set =
      let within : 2 * k + 1 < length bytes = omega (arith, m.long, few) in
      let e : 2 * suc k ≡ 2 * k + 2 = omega arith in
      let both = whole-at k (omega (arith, few)) (set k (omega arith)) in
      rw (e, take-two bytes (2 * k) within)
      (samples-append (take (2 * k) bytes) (get_or bytes (2 * k) 0) (get_or bytes (2 * k + 1) 0) (samples-so k (omega (arith, few)) (λ i h. set i (omega (arith, h)))) both.0 both.1)

  pub front-samples : (n : ℕ) → n ≡ trailing_ones w64 whole → n ≤ 64 → whole < 2 ^ 64 → are_samples (take (2 * n) bytes) ≡ true
  front-samples n is few fits = samples-so n few (λ i h. ones-are whole i fits (omega (arith, is, h)))

  pub front-ticks : (n : ℕ) → n ≤ 64 → ticks_of (block-of n) ≡ pairs_in (take (2 * n) bytes)
  unfolding ticks_of
  front-ticks n few = pairs-so n n few

-- ---- from what the code computes

moved : (bytes lanes : List ℕ) (f : ℕ → ℕ) (mask byte : ℕ) → ((i : ℕ) → i < 64 → get_or lanes i 0 ≡ get_or bytes (f i) 0) → ((i : ℕ) → i < 64 → has_bit mask i ≡ (get_or lanes i 0 == byte)) →
    (i : ℕ) → i < 64 → has_bit mask i ≡ (get_or bytes (f i) 0 == byte)
moved bytes lanes f mask byte at is i h = is i h ∙ ap (λ x. x == byte) (at i h)

pub masks-from : (bytes a b : List ℕ) (plus_a minus_a quiet_a plus_b minus_b quiet_b : ℕ) → length bytes ≡ 128 →
    ((i : ℕ) → i < 64 → get_or a i 0 ≡ get_or bytes (2 * i) 0) → ((i : ℕ) → i < 64 → get_or b i 0 ≡ get_or bytes (2 * i + 1) 0) →
    ((i : ℕ) → i < 64 → has_bit plus_a i ≡ (get_or a i 0 == 43)) → ((i : ℕ) → i < 64 → has_bit minus_a i ≡ (get_or a i 0 == 45)) → ((i : ℕ) → i < 64 → has_bit quiet_a i ≡ (get_or a i 0 == 46)) →
    ((i : ℕ) → i < 64 → has_bit plus_b i ≡ (get_or b i 0 == 43)) → ((i : ℕ) → i < 64 → has_bit minus_b i ≡ (get_or b i 0 == 45)) → ((i : ℕ) → i < 64 → has_bit quiet_b i ≡ (get_or b i 0 == 46)) →
    AreMasks bytes plus_a minus_a quiet_a plus_b minus_b quiet_b
masks-from bytes a b plus_a minus_a quiet_a plus_b minus_b quiet_b long at_a at_b pa ma qa pb mb qb = record {
  long = long;
  pa = moved bytes a (λ i. 2 * i) plus_a 43 at_a pa;
  ma = moved bytes a (λ i. 2 * i) minus_a 45 at_a ma;
  qa = moved bytes a (λ i. 2 * i) quiet_a 46 at_a qa;
  pb = moved bytes b (λ i. 2 * i + 1) plus_b 43 at_b pb;
  mb = moved bytes b (λ i. 2 * i + 1) minus_b 45 at_b mb;
  qb = moved bytes b (λ i. 2 * i + 1) quiet_b 46 at_b qb;
}

pub whole-fits : (plus_a minus_a quiet_a plus_b minus_b quiet_b : ℕ) → plus_a < 2 ^ 64 → minus_a < 2 ^ 64 → quiet_a < 2 ^ 64 →
    bit_and (bit_or (bit_or plus_a minus_a) quiet_a) (bit_or (bit_or plus_b minus_b) quiet_b) < 2 ^ 64
whole-fits plus_a minus_a quiet_a plus_b minus_b quiet_b p m q =
    omega (arith, and_le_l (bit_or (bit_or plus_a minus_a) quiet_a) (bit_or (bit_or plus_b minus_b) quiet_b), or_lt 64 (bit_or plus_a minus_a) quiet_a (or_lt 64 plus_a minus_a p m) q)

pub few-ones : (n x : ℕ) → n ≡ trailing_ones w64 x → n ≤ 64
few-ones n x is = let few : count_trailing_zeros 64 (bit_not w64 x) ≤ 64 = trailing_le 64 (bit_not w64 x) in omega (arith, few, is)

-- ---- the two halves of the bytes

pub half-long : (bytes : List ℕ) → length bytes ≡ 128 → length (chunk 0 64 (take 64 bytes)) ≡ 64
half-long bytes long = length-chunk 0 64 (take 64 bytes) (omega (arith, long, length-take 64 bytes))

pub other-long : (bytes : List ℕ) → length bytes ≡ 128 → length (chunk 64 64 bytes) ≡ 64
other-long bytes long = length-chunk 64 64 bytes (omega (arith, long))

pub halves : (bytes : List ℕ) → length bytes ≡ 128 → chunk 0 64 (take 64 bytes) ++ chunk 64 64 bytes ≡ bytes
halves bytes long =
    let first : take 64 (take 64 bytes) ≡ take 64 bytes = take_all 64 (take 64 bytes) (omega (arith, long, length-take 64 bytes)) in
    let rest : take 64 (drop 64 bytes) ≡ drop 64 bytes = take_all 64 (drop 64 bytes) (omega (arith, long, length-drop 64 bytes)) in
    ap (λ xs. xs ++ take 64 (drop 64 bytes)) first ∙ ap (λ xs. take 64 bytes ++ xs) rest ∙ take-append-drop 64 bytes

-- ---- the front of a piece

pub nothing-front : (piece : List ℕ) → IsBlockFront piece record { block = no_ticks; bytes = 0 }
unfolding ticks_of
nothing-front piece = record { within = omega arith; few = omega arith; reads = quiet-none }

-- of the ticks of bytes that begin as the piece does
alike-front : (piece bytes : List ℕ) (block : Block) → block.ticks ≤ 64 → 2 * block.ticks ≤ length piece → take (2 * block.ticks) bytes ≡ take (2 * block.ticks) piece →
    are_samples (take (2 * block.ticks) bytes) ≡ true → ticks_of block ≡ pairs_in (take (2 * block.ticks) bytes) →
    IsBlockFront piece record { block = block; bytes = 2 * block.ticks }
alike-front piece bytes block few within same samples ticks =
    let long : length (take (2 * block.ticks) piece) ≡ min (2 * block.ticks) (length piece) = length-take (2 * block.ticks) piece in
    let even : length (take (2 * block.ticks) piece) ≡ 2 * block.ticks = omega (arith, long, within) in
    record {
      within = within;
      few = few;
      reads = subst (λ ps. ReadsTicks (take (2 * block.ticks) piece) (reverse ps)) (sym (ticks ∙ ap pairs_in same))
          (samples-read block.ticks (take (2 * block.ticks) piece) even (sym (ap are_samples same) ∙ samples));
    }

pub block-front : (piece : List ℕ) (block : Block) → 128 ≤ length piece → block.ticks ≤ 64 →
    are_samples (take (2 * block.ticks) (take 128 piece)) ≡ true → ticks_of block ≡ pairs_in (take (2 * block.ticks) (take 128 piece)) →
    IsBlockFront piece record { block = block; bytes = 2 * block.ticks }
block-front piece block room few samples ticks =
    alike-front piece (take 128 piece) block few (omega (arith, room, few)) (take-take (2 * block.ticks) 128 piece (omega (arith, few))) samples ticks

-- what is no sample ends them
samples-end : (m : ℕ) (xs rest : List ℕ) → get_or rest 0 0 ≡ 0 → m ≤ length (xs ++ rest) → are_samples (take m (xs ++ rest)) ≡ true → m ≤ length xs
samples-end zero xs rest end room all = omega arith
samples-end (suc m) [] [] end room all = absurd (omega (arith, room))
samples-end (suc m) [] (z ∷ rest) end room all = absurd (let none : is_sample z ≡ false = rw end refl in both-false (is_sample z) (are_samples (take m rest)) none all)
  where
    both-false : (a b : Bool) → a ≡ false → (a && b) ≡ true → ⊥
    both-false true b is all = cc
    both-false false b is all = cc
samples-end (suc m) (x ∷ xs) rest end room all =
    let less : m ≤ length xs = samples-end m xs rest end (omega (arith, room)) (right (is_sample x) (are_samples (take m (xs ++ rest))) all) in omega (arith, less)
  where
    right : (a b : Bool) → (a && b) ≡ true → b ≡ true
    right true b is = is
    right false b is = absurd (cc)

-- the byte after bytes that zeros follow
pub zeros-after : (xs : List ℕ) (n : ℕ) → length xs ≡ n → n < 128 → get_or (xs ++ drop n (replicate 128 0)) n 0 ≡ 0
zeros-after xs n long few =
    let e : length xs + 0 ≡ n = omega (arith, long) in
    let f : n + 0 ≡ n = omega arith in
    ap (λ i. get_or (xs ++ drop n (replicate 128 0)) i 0) (sym e) ∙ get_or-append-add xs (drop n (replicate 128 0)) 0 0
    ∙ get_or-drop n (replicate 128 0) 0 0 ∙ ap (λ i. get_or (replicate 128 0) i 0) f ∙ get_or-replicate 128 n 0 0 few

-- of a piece with other bytes after it
pub short-front : (piece bytes : List ℕ) (block : Block) → length bytes ≡ 128 → length piece < 128 → take (length piece) bytes ≡ piece → get_or bytes (length piece) 0 ≡ 0 →
    block.ticks ≤ 64 → are_samples (take (2 * block.ticks) bytes) ≡ true → ticks_of block ≡ pairs_in (take (2 * block.ticks) bytes) →
    IsBlockFront piece record { block = block; bytes = 2 * block.ticks }
short-front piece bytes block long short front end few samples ticks =
    let rest : List ℕ = drop (length piece) bytes in
    let all : piece ++ rest ≡ bytes = ap (λ xs. xs ++ rest) (sym front) ∙ take-append-drop (length piece) bytes in
    let first : get_or rest 0 0 ≡ 0 = get_or-drop (length piece) bytes 0 0 ∙ ap (λ i. get_or bytes i 0) (let e : length piece + 0 ≡ length piece = omega arith in e) ∙ end in
    let room : length (piece ++ rest) ≡ 128 = ap length all ∙ long in
    let within : 2 * block.ticks ≤ length piece = samples-end (2 * block.ticks) piece rest first (omega (arith, room, few)) (ap (λ xs. are_samples (take (2 * block.ticks) xs)) all ∙ samples) in
    alike-front piece bytes block few within (ap (take (2 * block.ticks)) (sym all) ∙ take-append-le (2 * block.ticks) piece rest within) samples ticks

-- and the line feed after it
pub block-feed : (piece : List ℕ) (block : Block) (bytes : ℕ) → IsBlockFront piece record { block = block; bytes = bytes } → bytes < length piece → get_or piece bytes 0 ≡ 10 →
    IsBlockFront piece record { block = block; bytes = bytes + 1 }
block-feed piece block bytes front within is =
    let both : ReadsTicks (take bytes piece ++ 10 ∷ []) (reverse (ticks_of block)) = reads-parts (take bytes piece) (10 ∷ []) (reverse (ticks_of block)) [] front.reads quiet-feed in
    let more : take (bytes + 1) piece ≡ take bytes piece ++ 10 ∷ [] = (take_at_read piece bytes 0 within).1 ∙ ap (λ byte. take bytes piece ++ byte ∷ []) is in
    record { within = omega (arith, within); few = front.few; reads = subst (λ xs. ReadsTicks xs (reverse (ticks_of block))) (sym more) both }

-- so many ticks
pub long-block : (block : Block) → length (reverse (ticks_of block)) ≡ block.ticks
unfolding ticks_of
long-block block = length-reverse (map (tick_in block) (range_with_len 0 block.ticks)) ∙ length-map-range_with_len (tick_in block) 0 block.ticks

pub none-are : (past : List Pair) → past ≡ reverse (ticks_of no_ticks) ++ past
unfolding ticks_of
none-are past = refl
