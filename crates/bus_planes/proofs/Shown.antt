-- Samples as bits, and the samples that bits show.
use Rattle.std.proofs.Common.{◌≡◌, ℕ, zero, suc, ◌+◌, ◌/◌, ◌%◌, ◌^◌, ◌<◌, Bool, true, false, not, ◌==◌, cond, List, map, length, get_or, Option, MatchOption, refl, sym, ap, subst, ◌∙◌, arith}
use Rattle.std.specs.Int.{bit_at}
use Rattle.std.proofs.lemmas.Bool.{eqb-true, eqb-false}
use Rattle.std.proofs.lemmas.List.{get_or-map, length-map}
use Rattle.std.proofs.lemmas.List.FromFn.{get_or-map-range_with_len, length-map-range_with_len, fill_by_all}
use Rattle.std.proofs.lemmas.Nat.{shr-shr, shr_split}
use Rattle.std.proofs.lemmas.Nat.Bits.{bit_at_cat_low, bit_at_ones, same_from_bits_below}
use Rattle.std.proofs.lemmas.Simd.{bit_mask_l, mask_l-lt}
use lib.Lanes.{mask_l}
use Rattle.bus_base.specs.Samples.{is_quiet}
use Rattle.bus_base.specs.declared.samples.Sample.{Sample}
use Rattle.bus_base.specs.declared.samples.Sample.TheVariants.{Plus, Minus, Quiet}
use Rattle.bus_words.specs.declared.word.Word.{Word}
use Rattle.bus_words.specs.declared.word.Sync.{Sync}
use Rattle.bus_words.specs.declared.word.Sync.TheVariants.{Command, Datum}
use Rattle.bus_line.specs.Spelling.{Spells, SpellsBit, first_half, second_half, sync_sample, is_one, is_plus}
use Rattle.bus_planes.specs.Bits.{is_heard, heard_bits, AreBits, shown}
use Rattle.bus_line.proofs.Numbers.{same_bit}
use Rattle.bus_line.proofs.Guessed.{plus_half}
use Rattle.bus_line.proofs.Heard.{heard-spells, heard_test}

-- ---- the samples that bits show

pub shown-at : (plus p : ℕ) → p < 40 → get_or (shown plus) p Quiet ≡ first_half (is_one plus p)
unfolding shown
shown-at plus p h = get_or-map-range_with_len (λ p. first_half (is_one plus p)) 0 40 p p Quiet h (omega arith)

half-same : (a b : Bool) → first_half a ≡ first_half b → a ≡ b
half-same a b e = sym (plus_half a) ∙ ap is_plus e ∙ plus_half b

-- ---- two bits of them

second-is : (one : Bool) → first_half (not one) ≡ second_half one
second-is true = refl
second-is false = refl

-- the bit after
next-bit : (plus p : ℕ) → is_one plus (suc p) ≡ (plus / 2 ^ p / 2 % 2 == 1)
next-bit plus p = let e : p + 1 ≡ suc p = omega arith in ap (λ n. n % 2 == 1) (ap (λ k. plus / 2 ^ k) (sym e) ∙ sym (shr-shr plus p 1))

pub pair-spells : (plus p : ℕ) (one : Bool) → p < 39 → is_one plus p ≡ one → is_one plus (suc p) ≡ not one → SpellsBit (shown plus) p one
pair-spells plus p one h first second = record {
  first = shown-at plus p (omega (arith, h)) ∙ ap first_half first;
  second = shown-at plus (suc p) (omega (arith, h)) ∙ ap first_half second ∙ second-is one;
}

pub spells-pair : (plus p : ℕ) (one : Bool) → p < 39 → SpellsBit (shown plus) p one → (is_one plus p ≡ one) × (is_one plus (suc p) ≡ not one)
spells-pair plus p one h s = (
  half-same (is_one plus p) one (sym (shown-at plus p (omega (arith, h))) ∙ s.first),
  half-same (is_one plus (suc p)) (not one) (sym (shown-at plus (suc p) (omega (arith, h))) ∙ s.second ∙ sym (second-is one)),
)

-- by what the two bits are as a number
pub one-spelled : (plus p : ℕ) → p < 39 → plus / 2 ^ p % 4 ≡ 1 → SpellsBit (shown plus) p true
one-spelled plus p h e =
    let m : ℕ = plus / 2 ^ p in
    let low : m % 2 ≡ 1 = omega (arith, e) in
    let high : m / 2 % 2 ≡ 0 = omega (arith, e) in
    pair-spells plus p true h (ap (λ n. n == 1) low) (next-bit plus p ∙ ap (λ n. n == 1) high)

pub zero-spelled : (plus p : ℕ) → p < 39 → plus / 2 ^ p % 4 ≡ 2 → SpellsBit (shown plus) p false
zero-spelled plus p h e =
    let m : ℕ = plus / 2 ^ p in
    let low : m % 2 ≡ 0 = omega (arith, e) in
    let high : m / 2 % 2 ≡ 1 = omega (arith, e) in
    pair-spells plus p false h (ap (λ n. n == 1) low) (next-bit plus p ∙ ap (λ n. n == 1) high)

pub none-spelled : (plus p : ℕ) → p < 39 → (plus / 2 ^ p % 4 ≡ 1 → ⊥) → (plus / 2 ^ p % 4 ≡ 2 → ⊥) → (one : Bool) → SpellsBit (shown plus) p one → ⊥
none-spelled plus p h no_one no_zero true s =
    let m : ℕ = plus / 2 ^ p in
    let both = spells-pair plus p true h s in
    let low : m % 2 ≡ 1 = eqb-true (m % 2) 1 both.0 in
    let high : m / 2 % 2 ≡ 1 → ⊥ = eqb-false (m / 2 % 2) 1 (sym (next-bit plus p) ∙ both.1) in
    no_one (omega (arith, low, high))
none-spelled plus p h no_one no_zero false s =
    let m : ℕ = plus / 2 ^ p in
    let both = spells-pair plus p false h s in
    let low : m % 2 ≡ 1 → ⊥ = eqb-false (m % 2) 1 both.0 in
    let high : m / 2 % 2 ≡ 1 = eqb-true (m / 2 % 2) 1 (sym (next-bit plus p) ∙ both.1) in
    no_zero (omega (arith, low, high))

-- ---- six bits of them

low-bit : (plus p : ℕ) → p < 6 → is_one plus p ≡ is_one (plus % 64) p
low-bit plus p h = ap (λ n. n == 1) (ap (λ n. bit_at n p) (sym (shr_split plus 6)) ∙ bit_at_cat_low (plus / 2 ^ 6) 6 (plus % 2 ^ 6) p h)

-- the number that the six samples of a sync are
abbrev pub sync_number : Sync → ℕ
sync_number Command = 7
sync_number Datum = 56

sync-at : (sync : Sync) (p : ℕ) → p < 6 → first_half (is_one (sync_number sync) p) ≡ sync_sample sync p
sync-at Command zero h = refl
sync-at Command (suc zero) h = refl
sync-at Command (suc (suc zero)) h = refl
sync-at Command (suc (suc (suc zero))) h = refl
sync-at Command (suc (suc (suc (suc zero)))) h = refl
sync-at Command (suc (suc (suc (suc (suc zero))))) h = refl
sync-at Command (suc (suc (suc (suc (suc (suc p)))))) h = absurd (omega (arith, h))
sync-at Datum zero h = refl
sync-at Datum (suc zero) h = refl
sync-at Datum (suc (suc zero)) h = refl
sync-at Datum (suc (suc (suc zero))) h = refl
sync-at Datum (suc (suc (suc (suc zero)))) h = refl
sync-at Datum (suc (suc (suc (suc (suc zero))))) h = refl
sync-at Datum (suc (suc (suc (suc (suc (suc p)))))) h = absurd (omega (arith, h))

pub sync-shown : (plus : ℕ) (sync : Sync) → plus % 64 ≡ sync_number sync → (p : ℕ) → p < 6 → get_or (shown plus) p Quiet ≡ sync_sample sync p
sync-shown plus sync e p h = shown-at plus p (omega (arith, h)) ∙ ap first_half (low-bit plus p h ∙ ap (λ n. is_one n p) e) ∙ sync-at sync p h

small-sync : (sync : Sync) → sync_number sync < 64
small-sync Command = omega arith
small-sync Datum = omega arith

pub sync-number : (plus : ℕ) (sync : Sync) → ((p : ℕ) → p < 6 → get_or (shown plus) p Quiet ≡ sync_sample sync p) → plus % 64 ≡ sync_number sync
sync-number plus sync is = same_from_bits_below 6 (plus % 64) (sync_number sync) (omega arith) (small-sync sync) (λ i h.
    same_bit (plus % 64) (sync_number sync) i i
    (sym (low-bit plus i h) ∙ half-same (is_one plus i) (is_one (sync_number sync) i) (sym (shown-at plus i (omega (arith, h))) ∙ is i h ∙ sym (sync-at sync i h))))

pub sync-none : (plus : ℕ) → (plus % 64 ≡ 7 → ⊥) → (plus % 64 ≡ 56 → ⊥) → (sync : Sync) → ((p : ℕ) → p < 6 → get_or (shown plus) p Quiet ≡ sync_sample sync p) → ⊥
sync-none plus no_command no_datum Command is = no_command (sync-number plus Command is)
sync-none plus no_command no_datum Datum is = no_datum (sync-number plus Datum is)

-- ---- samples as bits

one-if : (b : Bool) → (cond b 1 0 == 1) ≡ b
one-if true = refl
one-if false = refl

-- bit i is sample i
pub bit-is : (f : Sample → Bool) (samples : List Sample) (i : ℕ) → i < length samples → is_one (mask_l (map f samples)) i ≡ f (get_or samples i Quiet)
bit-is f samples i h = ap (λ n. n == 1) (bit_mask_l (map f samples) i) ∙ one-if (get_or (map f samples) i false) ∙ get_or-map f samples i Quiet false h

-- forty bits
pub all-ones : (samples : List Sample) → length samples ≡ 40 → ((i : ℕ) → i < 40 → is_heard (get_or samples i Quiet) ≡ true) → heard_bits samples ≡ 1099511627775
all-ones samples forty heard =
    let long : length (map is_heard samples) ≡ 40 = length-map samples is_heard ∙ forty in
    let below : mask_l (map is_heard samples) < 2 ^ length (map is_heard samples) = mask_l-lt (map is_heard samples) in
    let small : mask_l (map is_heard samples) < 2 ^ 40 = rw long at below in
    same_from_bits_below 40 (heard_bits samples) 1099511627775 small (omega arith) (λ i h.
    let one : is_one (heard_bits samples) i ≡ true = bit-is is_heard samples i (omega (arith, h, forty)) ∙ heard i h in
    eqb-true (bit_at (heard_bits samples) i) 1 one ∙ sym (bit_at_ones 40 i h))

half-of : (x : Sample) → is_heard x ≡ true → x ≡ first_half (is_plus x)
half-of Plus heard = refl
half-of Minus heard = refl
half-of Quiet heard = absurd (cc)

pub shown-is : (h p : ℕ) (samples : List Sample) → AreBits h p samples → h ≡ 1099511627775 → samples ≡ shown p
unfolding shown
shown-is h p samples bits all = fill_by_all (λ i. first_half (is_one p i)) samples 40 Quiet bits.forty (λ i within.
    let inside : i < length samples = omega (arith, within, bits.forty) in
    let one : is_one 1099511627775 i ≡ true = ap (λ n. n == 1) (bit_at_ones 40 i within) in
    let heard : is_heard (get_or samples i Quiet) ≡ true =
    sym (bit-is is_heard samples i inside) ∙ ap (λ n. is_one n i) (sym bits.heard ∙ all) ∙ one in
    let plus : is_plus (get_or samples i Quiet) ≡ is_one p i = sym (bit-is is_plus samples i inside) ∙ ap (λ n. is_one n i) (sym bits.plus) in
    half-of (get_or samples i Quiet) heard ∙ ap first_half plus)

-- what isn't quiet was heard
heard-is : (x : Sample) → is_quiet x ≡ false → is_heard x ≡ true
heard-is x e = rw e refl

-- where some sample is quiet no word is spelled
pub quiet-none : (h p : ℕ) (samples : List Sample) → AreBits h p samples → (h ≡ 1099511627775 → ⊥) → (word : Word) → Spells word samples → ⊥
quiet-none h p samples bits other word spells = other (bits.heard
    ∙ all-ones samples bits.forty (λ i within. heard-is (get_or samples i Quiet) (heard_test (get_or samples i Quiet) (heard-spells word samples spells i within))))

-- what was read of the samples shown was read of the samples
pub read-shown : (h p : ℕ) (samples : List Sample) (r : Option Word) → AreBits h p samples → h ≡ 1099511627775 →
    MatchOption r ((word : Word) → Spells word (shown p) → ⊥) (λ word. Spells word (shown p)) → MatchOption r ((word : Word) → Spells word samples → ⊥) (λ word. Spells word samples)
read-shown h p samples r bits all read =
    subst (λ s. MatchOption r ((word : Word) → Spells word s → ⊥) (λ word. Spells word s)) (sym (shown-is h p samples bits all)) read

pub shown-long : (plus : ℕ) → length (shown plus) ≡ 40
unfolding shown
shown-long plus = length-map-range_with_len (λ p. first_half (is_one plus p)) 0 40
