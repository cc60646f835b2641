-- Many ticks at once in which nothing is told. For every lag.
use Rattle.std.proofs.Common.{◌≡◌, ℕ, zero, suc, ◌+◌, ◌-◌, ◌*◌, ◌%◌, ◌^◌, ◌<◌, ◌≤◌, Bool, true, false, ◌==◌, if◌then◌else◌, List, [], ◌∷◌, ◌++◌, map, reverse, refl, sym, ap, subst, ◌∙◌, arith, inl, inr, ◌⊎◌, pow-suc, div-one, w64}
use Rattle.std.proofs.lemmas.Bool.{eqb-true, eqb-false, cases_eq}
use Rattle.std.proofs.lemmas.Bool.Decides.{nat_tests}
use Rattle.std.specs.Int.{bit_at, trailing_ones}
use Rattle.std.specs.List.{range_with_len}
use Rattle.std.proofs.lemmas.List.{reverse-append}
use Rattle.std.proofs.lemmas.List.FromFn.{map-range_with_len_more}
use Rattle.std.proofs.lemmas.Nat.{pow-add, pow_pos, mod-pow-add, and_mask, or_comm, or_shifted, shl_whole, mod_below}
use Rattle.std.proofs.Math.Nat.{add-mul, mul_comm, mod-one}
use Rattle.std.proofs.Math.Pow.{pow_mono}
use Rattle.std.proofs.lemmas.Nat.Bits.{bit_at-lt, bit_at-zero, bit_at_ones, bit_at-trailing_zeros, bit_at-trailing_ones}
use lib.Count.{count_trailing_zeros}
use lib.Bits.{bit_and, bit_or}
use Rattle.bus_base.specs.Samples.{is_quiet}
use Rattle.bus_base.specs.declared.samples.Sample.{Sample}
use Rattle.bus_base.specs.declared.samples.Sample.TheVariants.{Quiet}
use Rattle.bus_line.specs.declared.cutter.Cut.TheVariants as cuts
use Rattle.bus_planes.specs.declared.cutter.BitCutter.{BitCutter}
use Rattle.bus_line.specs.Spelling.{is_one, is_plus, first_half}
use Rattle.bus_planes.specs.Bits.{is_heard}
use Rattle.bus_line.specs.Past.{runs}
use Rattle.bus_line.specs.Cutting.{cut_now}
use Rattle.bus_planes.specs.Cutting.{Follows, BitCutterStands}
use Rattle.bus_planes.specs.Still.{rests, sample_in, samples_in, AllBits, IsStill, TellNothing}
use Rattle.bus_line.proofs.PastLaws.{rests-more}
use Rattle.bus_line.proofs.Guessed.{plus_half}
use Rattle.bus_planes.proofs.BitLaws.{bits-fit}
use Rattle.bus_planes.proofs.CutLaws.{slot-within, off, on, idle-cut, idle-stands, pending-cut, quiet-stands, plain-cut, pulse-stands, heard-with, plus-with}

-- ---- the samples that bits show

-- the past with so many of them
abbrev pub after : ℕ → ℕ → ℕ → List Sample → List Sample
after heard plus n past = reverse (samples_in heard plus n) ++ past

no-more : (heard plus : ℕ) (past : List Sample) → after heard plus 0 past ≡ past
unfolding samples_in
no-more heard plus past = refl

pub none-shown : (heard plus : ℕ) → reverse (samples_in heard plus 0) ≡ []
unfolding samples_in
none-shown heard plus = refl

pub one-more : (heard plus n : ℕ) → reverse (samples_in heard plus (suc n)) ≡ sample_in heard plus n ∷ reverse (samples_in heard plus n)
unfolding samples_in
one-more heard plus n =
    let e : suc n ≡ n + 1 = omega arith in
    ap (λ m. reverse (map (sample_in heard plus) (range_with_len 0 m))) e
    ∙ ap reverse (map-range_with_len_more (sample_in heard plus) 0 n n (omega arith))
    ∙ reverse-append (map (sample_in heard plus) (range_with_len 0 n)) (sample_in heard plus n ∷ [])

shows-quiet : (heard plus i : ℕ) → is_one heard i ≡ false → sample_in heard plus i ≡ Quiet
shows-quiet heard plus i e = rw e refl

shows-pulse : (heard plus i : ℕ) → is_one heard i ≡ true → sample_in heard plus i ≡ first_half (is_one plus i)
shows-pulse heard plus i e = rw e refl

half-heard : (b : Bool) → is_quiet (first_half b) ≡ false
half-heard true = refl
half-heard false = refl

-- what many ticks leave: the cutter stands, and nothing was told
pub record Passes (k : ℕ) (c : BitCutter) (heard plus n : ℕ) (past : List Sample) : Type 0 where
  pub stands : Follows k c (after heard plus n past)
  pub tells : TellNothing k (reverse (samples_in heard plus n)) past

pass-none : (k : ℕ) (c : BitCutter) (heard plus : ℕ) (past : List Sample) → Follows k c past → Passes k c heard plus 0 past
pass-none k c heard plus past f = record {
  stands = subst (λ p. Follows k c p) (sym (no-more heard plus past)) f;
  tells = subst (λ xs. TellNothing k xs past) (sym (none-shown heard plus)) tt;
}

pass-more : (k : ℕ) (c : BitCutter) (heard plus n : ℕ) (past : List Sample) (x : Sample) → sample_in heard plus n ≡ x →
    Follows k c (x ∷ after heard plus n past) → cut_now k (x ∷ after heard plus n past) ≡ cuts.Nothing →
    runs k (x ∷ after heard plus n past) ≡ runs k past → TellNothing k (reverse (samples_in heard plus n)) past → Passes k c heard plus (suc n) past
pass-more k c heard plus n past x is f cut same before =
    let e : reverse (samples_in heard plus (suc n)) ≡ x ∷ reverse (samples_in heard plus n) = one-more heard plus n ∙ ap (λ s. s ∷ reverse (samples_in heard plus n)) is in
    record {
      stands = subst (λ xs. Follows k c (xs ++ past)) (sym e) f;
      tells = subst (λ xs. TellNothing k xs past) (sym e) (cut, same, before);
    }

module _ (k : ℕ) (c : BitCutter) (past : List Sample) (f : Follows k c past) (heard plus : ℕ) where
  fewer : (n : ℕ) (b : Bool) → AllBits heard (suc n) b → AllBits heard n b
  fewer n b all i h = all i (omega (arith, h))

  -- ---- quiet ticks where no burst runs

  pub idle-pass : (n : ℕ) → k < c.quiet → AllBits heard n false → Passes k c heard plus n past
  idle-pass zero idle all = pass-none k c heard plus past f
  idle-pass (suc n) idle all =
      let before : Passes k c heard plus n past = idle-pass n idle (fewer n false all) in
      let was : runs k past ≡ false = off k c past f idle in
      let is : runs k (after heard plus n past) ≡ false = off k c (after heard plus n past) before.stands idle in
      pass-more k c heard plus n past Quiet (shows-quiet heard plus n (all n (omega arith)))
      (idle-stands k c (after heard plus n past) before.stands idle)
      (sym (idle-cut k c (after heard plus n past) before.stands idle))
      (rests-more k (after heard plus n past) is ∙ sym was) before.tells

  -- ---- quiet ticks that a burst bridges

  pub bridge-pass : (n q : ℕ) → q ≡ c.quiet + n → q ≤ k → AllBits heard n false →
      Passes k record { heard = c.heard; plus = c.plus; slots = c.slots; rest = c.rest; quiet = q } heard plus n past
  bridge-pass zero q e few all =
      let same : q ≡ c.quiet = omega (arith, e) in
      rw same (pass-none k c heard plus past f)
  bridge-pass (suc n) q e few all =
      let low : c.quiet + n ≤ k = omega (arith, e, few) in
      let before = bridge-pass n (c.quiet + n) refl low (fewer n false all) in
      let c' : BitCutter = record { heard = c.heard; plus = c.plus; slots = c.slots; rest = c.rest; quiet = c.quiet + n } in
      let same : q ≡ c.quiet + n + 1 = omega (arith, e) in
      let stands : Follows k record { heard = c.heard; plus = c.plus; slots = c.slots; rest = c.rest; quiet = q } (Quiet ∷ after heard plus n past) =
      rw same (quiet-stands k c' (after heard plus n past) before.stands low) in
      pass-more k record { heard = c.heard; plus = c.plus; slots = c.slots; rest = c.rest; quiet = q } heard plus n past Quiet (shows-quiet heard plus n (all n (omega arith)))
      stands (sym (pending-cut k c' (after heard plus n past) before.stands (omega (arith, e, few))))
      (on k record { heard = c.heard; plus = c.plus; slots = c.slots; rest = c.rest; quiet = q } (Quiet ∷ after heard plus n past) stands few ∙ sym (on k c past f (omega (arith, low)))) before.tells

  -- ---- ticks within a slot, none of them quiet

  -- one bit more
  bits-more : (n : ℕ) → plus % 2 ^ suc n ≡ plus % 2 ^ n + (if is_one plus n then 1 else 0) * 2 ^ n
  bits-more n =
      let e : 1 + n ≡ suc n = omega arith in
      ap (λ m. plus % 2 ^ m) (sym e) ∙ mod-pow-add plus 1 n ∙ shape (bit_at plus n) (plus % 2 ^ n) (2 ^ n) (bit_at-lt plus n)
    where
      shape : (b m p : ℕ) → b < 2 → b * p + m ≡ m + (if b == 1 then 1 else 0) * p
      shape zero m p h = omega arith
      shape (suc zero) m p h = omega arith
      shape (suc (suc b)) m p h = absurd (omega (arith, h))

  plus-step : (n r : ℕ) (b : Bool) → (plus % 2 ^ n + (if b then 1 else 0) * 2 ^ n) * 2 ^ r ≡ plus % 2 ^ n * 2 ^ r + (if b then 1 else 0) * 2 ^ (r + n)
  plus-step n r true =
      let a : (plus % 2 ^ n + 2 ^ n) * 2 ^ r ≡ plus % 2 ^ n * 2 ^ r + 2 ^ n * 2 ^ r = add-mul (plus % 2 ^ n) (2 ^ n) (2 ^ r) in
      let b : 2 ^ (r + n) ≡ 2 ^ r * 2 ^ n = pow-add 2 r n in
      let d : 2 ^ n * 2 ^ r ≡ 2 ^ r * 2 ^ n = mul_comm (2 ^ n) (2 ^ r) in
      let once : plus % 2 ^ n + 1 * 2 ^ n ≡ plus % 2 ^ n + 2 ^ n = omega arith in
      rw once (omega (arith, a, b, d))
  plus-step n r false =
      let once : plus % 2 ^ n + 0 * 2 ^ n ≡ plus % 2 ^ n = omega arith in
      rw once (omega arith)

  pub slot-pass : (n h p : ℕ) → c.quiet ≡ 0 → c.rest + n ≤ 39 → AllBits heard n true → h + 2 ^ c.rest ≡ c.heard + 2 ^ (c.rest + n) → p ≡ c.plus + plus % 2 ^ n * 2 ^ c.rest →
      Passes k record { heard = h; plus = p; slots = c.slots; rest = c.rest + n; quiet = 0 } heard plus n past
  slot-pass zero h p none short all hs ps =
      let r : c.rest + 0 ≡ c.rest = omega arith in
      let same : h ≡ c.heard = (let e : 2 ^ (c.rest + 0) ≡ 2 ^ c.rest = ap (λ m. 2 ^ m) r in omega (arith, hs, e)) in
      let nothing : plus % 2 ^ 0 * 2 ^ c.rest ≡ 0 = ap (λ m. m * 2 ^ c.rest) (mod-one plus) ∙ omega arith in
      let alike : p ≡ c.plus = omega (arith, ps, nothing) in
      rw (same, alike, r) (subst (λ q. Passes k record { heard = c.heard; plus = c.plus; slots = c.slots; rest = c.rest; quiet = q } heard plus 0 past) none (pass-none k c heard plus past f))
  slot-pass (suc n) h p none short all hs ps =
      let r : c.rest + suc n ≡ suc (c.rest + n) = omega arith in
      let few : 2 ^ c.rest ≤ 2 ^ (c.rest + n) = pow_mono (let i : c.rest ≤ c.rest + n = omega arith in i) in
      let h' : ℕ = c.heard + 2 ^ (c.rest + n) - 2 ^ c.rest in
      let p' : ℕ = c.plus + plus % 2 ^ n * 2 ^ c.rest in
      let hs' : h' + 2 ^ c.rest ≡ c.heard + 2 ^ (c.rest + n) = omega (arith, few) in
      let before = slot-pass n h' p' none (omega (arith, short)) (fewer n true all) hs' refl in
      let c' : BitCutter = record { heard = h'; plus = p'; slots = c.slots; rest = c.rest + n; quiet = 0 } in
      let x : Sample = first_half (is_one plus n) in
      let pulse : is_quiet x ≡ false = half-heard (is_one plus n) in
      let place : ℕ = c.rest + n in
      let at : place ≡ c'.rest + c'.quiet = omega arith in
      let zero_low : 0 ≤ k = omega arith in
      let double : 2 ^ (c.rest + suc n) ≡ 2 ^ (c.rest + n) * 2 = ap (λ m. 2 ^ m) r ∙ pow-suc 2 (c.rest + n) in
      let h_is : h ≡ h' + 2 ^ place = omega (arith, hs, hs', double, few) in
      let one : is_plus x ≡ is_one plus n = plus_half (is_one plus n) in
      let p_is : p ≡ p' + (if is_plus x then 1 else 0) * 2 ^ place =
      ps ∙ ap (λ m. c.plus + m * 2 ^ c.rest) (bits-more n) ∙ ap (λ m. c.plus + m) (plus-step n c.rest (is_one plus n))
      ∙ ap (λ b. c.plus + (plus % 2 ^ n * 2 ^ c.rest + (if b then 1 else 0) * 2 ^ (c.rest + n))) (sym one) ∙ omega arith in
      let stands : Follows k record { heard = h; plus = p; slots = c.slots; rest = suc (c.rest + n); quiet = 0 } (x ∷ after heard plus n past) =
      pulse-stands k c' (after heard plus n past) before.stands x place c.slots (suc (c.rest + n)) h p pulse at zero_low (omega arith) (omega (arith, short))
      (heard-with k c' (after heard plus n past) before.stands x place h pulse at zero_low h_is)
      (plus-with k c' (after heard plus n past) before.stands x place p at zero_low p_is) in
      rw r (pass-more k record { heard = h; plus = p; slots = c.slots; rest = suc (c.rest + n); quiet = 0 } heard plus n past x (shows-pulse heard plus n (all n (omega arith))) stands
      (sym (plain-cut k c' (after heard plus n past) before.stands x place pulse at zero_low (omega (arith, short))))
      (on k record { heard = h; plus = p; slots = c.slots; rest = suc (c.rest + n); quiet = 0 } (x ∷ after heard plus n past) stands zero_low ∙ sym (on k c past f (omega (arith, none)))) before.tells)

-- ---- as the code computes them

below-pow : (n : ℕ) → n < 40 → 1 * 2 ^ n % 2 ^ 64 ≡ 2 ^ n
below-pow n few = shl_whole 1 1 n 64 (omega arith) (omega (arith, few)) ∙ omega arith

-- so many ones from a place on
pub ones-code : (h r n : ℕ) → h < 2 ^ r → r + n ≤ 39 → bit_or h ((1 * 2 ^ n % 2 ^ 64 - 1) * 2 ^ r % 2 ^ 64) + 2 ^ r ≡ h + 2 ^ (r + n)
ones-code h r n fits few =
    let one : 1 * 2 ^ n % 2 ^ 64 ≡ 2 ^ n = below-pow n (omega (arith, few)) in
    let some : 0 < 2 ^ n = pow_pos n in
    let whole : (2 ^ n - 1) * 2 ^ r % 2 ^ 64 ≡ (2 ^ n - 1) * 2 ^ r = shl_whole (2 ^ n - 1) n r 64 (omega (arith, some)) (omega (arith, few)) in
    let put : bit_or h ((2 ^ n - 1) * 2 ^ r) ≡ (2 ^ n - 1) * 2 ^ r + h = or_comm h ((2 ^ n - 1) * 2 ^ r) ∙ or_shifted (2 ^ n - 1) r h fits in
    let sum : (2 ^ n - 1 + 1) * 2 ^ r ≡ (2 ^ n - 1) * 2 ^ r + 1 * 2 ^ r = add-mul (2 ^ n - 1) 1 (2 ^ r) in
    let all : 2 ^ n - 1 + 1 ≡ 2 ^ n = omega (arith, some) in
    let both : 2 ^ (r + n) ≡ 2 ^ n * 2 ^ r = pow-add 2 r n ∙ mul_comm (2 ^ r) (2 ^ n) in
    let sum' : 2 ^ n * 2 ^ r ≡ (2 ^ n - 1) * 2 ^ r + 1 * 2 ^ r = rw all at sum in
    rw (one, whole, put, both, sum') (omega arith)

-- and the bits of these ticks
pub plus-code-many : (p r n plus : ℕ) → p < 2 ^ r → r + n ≤ 39 → bit_or p (bit_and plus (1 * 2 ^ n % 2 ^ 64 - 1) * 2 ^ r % 2 ^ 64) ≡ p + plus % 2 ^ n * 2 ^ r
plus-code-many p r n plus fits few =
    let one : 1 * 2 ^ n % 2 ^ 64 ≡ 2 ^ n = below-pow n (omega (arith, few)) in
    let mask : bit_and plus (2 ^ n - 1) ≡ plus % 2 ^ n = and_mask plus n in
    let low : plus % 2 ^ n < 2 ^ n = mod_below plus (2 ^ n) (pow_pos n) in
    let whole : plus % 2 ^ n * 2 ^ r % 2 ^ 64 ≡ plus % 2 ^ n * 2 ^ r = shl_whole (plus % 2 ^ n) n r 64 low (omega (arith, few)) in
    rw (one, mask, whole) (or_comm p (plus % 2 ^ n * 2 ^ r) ∙ or_shifted (plus % 2 ^ n) r p fits ∙ omega arith)

-- ---- which of the three it is

low-is : (heard n : ℕ) (b : Bool) → 0 < n → AllBits heard n b → (heard % 2 == 1) ≡ b
low-is heard n b some all = ap (λ m. m % 2 == 1) (sym (div-one heard)) ∙ all 0 some

pub idle-still : (k : ℕ) (c : BitCutter) (heard n : ℕ) → 0 < n → k < c.quiet → IsStill k c heard n → AllBits heard n false
idle-still k c heard n some idle still = elim still [
  | inl a ↦ a.1
  | inr b ↦ elim b [
    | inl q ↦ absurd (omega (arith, idle, q.0))
    | inr p ↦ absurd (omega (arith, idle, p.0))
  ]
]

pub quiet-still : (k : ℕ) (c : BitCutter) (heard n : ℕ) → 0 < n → c.quiet ≤ k → heard % 2 ≡ 0 → IsStill k c heard n → (c.quiet + n ≤ k) × AllBits heard n false
quiet-still k c heard n some runs low still = elim still [
  | inl a ↦ absurd (omega (arith, runs, a.0))
  | inr b ↦ elim b [
    | inl q ↦ q
    | inr p ↦ absurd (let e : (heard % 2 == 1) ≡ true = low-is heard n true some p.2 in let f : heard % 2 ≡ 1 = eqb-true (heard % 2) 1 e in omega (arith, f, low))
  ]
]

pub slot-still : (k : ℕ) (c : BitCutter) (heard n : ℕ) → 0 < n → c.quiet ≤ k → (heard % 2 ≡ 0 → ⊥) → IsStill k c heard n →
    (c.quiet ≡ 0) × (n ≤ 39 - c.rest) × AllBits heard n true
slot-still k c heard n some runs low still = elim still [
  | inl a ↦ absurd (omega (arith, runs, a.0))
  | inr b ↦ elim b [
    | inl q ↦ absurd (let e : (heard % 2 == 1) ≡ false = low-is heard n false some q.1 in let f : heard % 2 ≡ 1 → ⊥ = eqb-false (heard % 2) 1 e in let g : heard % 2 < 2 = omega arith in low (omega (arith, g, not-one (heard % 2) f)))
    | inr p ↦ p
  ]
]
  where
    not-one : (m : ℕ) → (m ≡ 1 → ⊥) → (m ≡ 0) ⊎ (1 < m)
    not-one zero f = inl refl
    not-one (suc zero) f = absurd (f refl)
    not-one (suc (suc m)) f = inr (omega arith)

-- ---- how many there are

-- a number's low bits up to its lowest one, and up to its lowest that isn't one
pub zeros-are : (heard n : ℕ) → heard < 2 ^ 64 → n ≤ count_trailing_zeros 64 heard → AllBits heard n false
zeros-are heard n fits few i h = elim (cases_eq heard 0) [
  | inl none ↦ rw none (ap (λ b. b == 1) (bit_at-zero i))
  | inr some ↦ ap (λ b. b == 1) ((bit_at-trailing_zeros w64 heard (omega (arith, some)) fits).2 i (omega (arith, few, h)))
]

pub ones-are : (heard n : ℕ) → heard < 2 ^ 64 → n ≤ trailing_ones w64 heard → AllBits heard n true
unfolding lib.Count.count_trailing_zeros
ones-are heard n fits few i h = elim (cases_eq heard (2 ^ 64 - 1)) [
  | inl all ↦ (
      let most : trailing_ones w64 heard ≡ 64 = rw all refl in
      let at : bit_at (2 ^ 64 - 1) i ≡ 1 = bit_at_ones 64 i (omega (arith, few, most, h)) in
      rw all (ap (λ x. x == 1) at))
  | inr some ↦ ap (λ x. x == 1) ((bit_at-trailing_ones w64 heard (omega (arith, fits, some))).2 i (omega (arith, few, h)))
]

-- ticks within a slot, as the code takes them
pub slot-code : (k : ℕ) (c : BitCutter) (past : List Sample) → Follows k c past → (heard plus n : ℕ) → c.quiet ≡ 0 → n ≤ 39 - c.rest → AllBits heard n true →
    Passes k record {
      heard = bit_or c.heard ((1 * 2 ^ n % 2 ^ 64 - 1) * 2 ^ c.rest % 2 ^ 64);
      plus = bit_or c.plus (bit_and plus (1 * 2 ^ n % 2 ^ 64 - 1) * 2 ^ c.rest % 2 ^ 64);
      slots = c.slots;
      rest = c.rest + n;
      quiet = c.quiet;
    } heard plus n past
slot-code k c past f heard plus n none few all =
    let short : c.rest + n ≤ 39 = omega (arith, few, f.short) in
    let running : c.quiet ≤ k = omega (arith, none) in
    let kept : c.rest + c.quiet ≡ c.rest = omega (arith, none) in
    let h_fits : c.heard < 2 ^ c.rest = rw kept at (bits-fit is_heard (c.rest + c.quiet) past c.heard (slot-within k c past f running) (f.heard running)) in
    let p_fits : c.plus < 2 ^ c.rest = rw kept at (bits-fit is_plus (c.rest + c.quiet) past c.plus (slot-within k c past f running) (f.plus running)) in
    rw none (slot-pass k c past f heard plus n _ _ none short all (ones-code c.heard c.rest n h_fits short) (plus-code-many c.plus c.rest n plus p_fits short))

-- ---- for callers

-- a cutter that waits for a burst stands for pasts in which none runs
pub stands-rests : (k : ℕ) (c : BitCutter) (past : List Sample) → BitCutterStands k c past → rests k c ≡ true → runs k past ≡ false
unfolding BitCutterStands
stands-rests k c past s waits = off k c past s (grind (arith, nat_tests, waits))
