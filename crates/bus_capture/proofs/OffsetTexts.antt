-- One byte more at the end of a capture text: what may stand before it stays, and how its samples and ticks grow.
use Rattle.std.proofs.Common.{◌≡◌, ℕ, zero, suc, ◌%◌, ◌<◌, ◌≤◌, List, [], ◌∷◌, ◌++◌, length, reverse, drop, get_or, refl, ap, ◌∙◌, arith, length-append}
use Rattle.std.specs.Prelude.{◌==◌, Bool, Option, Some, None, option_to_list}
use Rattle.std.specs.List.{filter_map}
use Rattle.std.proofs.lemmas.List.{take-append-le, drop-append-le, reverse-append}
use Rattle.std.proofs.lemmas.List.Elements.{filter_map-append}
use Rattle.std.proofs.Math.Seq.{take-length, get_or-append_seam}
use Rattle.std.proofs.Math.ListN.{get_or-append}
use Rattle.bus_base.specs.declared.samples.Sample.{Sample}
use Rattle.bus_capture.specs.Offsets.{samples_before, is_whole, fits, may_stand, pairs_of}
use Rattle.bus_capture.specs.Readings.{sample_of}

-- ---- one byte more at the end of a text changes nothing before it

abbrev pub one_more : List ℕ → ℕ → List ℕ
one_more text b = text ++ b ∷ []

pub length-more : (text : List ℕ) (b : ℕ) → length (one_more text b) ≡ suc (length text)
length-more text b = let e = length-append text (b ∷ []) in omega (arith, e)

-- the samples of a whole text
abbrev pub samples : List ℕ → List Sample
samples text = filter_map sample_of (drop 15 text)

pub samples-whole : (text : List ℕ) → samples_before text (length text) ≡ samples text
samples-whole text = ap (λ t. filter_map sample_of (drop 15 t)) (take-length text)

pub samples-same : (text : List ℕ) (b n : ℕ) → n ≤ length text → samples_before (one_more text b) n ≡ samples_before text n
samples-same text b n le = ap (λ t. filter_map sample_of (drop 15 t)) (take-append-le n text (b ∷ []) le)

pub stand-same : (text : List ℕ) (b n : ℕ) → n < length text → may_stand (one_more text b) n ≡ may_stand text n
stand-same text b n less =
    let s : samples_before (one_more text b) n ≡ samples_before text n = samples-same text b n (omega (arith, less)) in
    let g : get_or (one_more text b) n 0 ≡ get_or text n 0 = get_or-append text (b ∷ []) 0 n less in
    ap (λ x. fits n (length x % 2 == 0) (get_or (one_more text b) n 0)) s ∙ ap (λ y. fits n (is_whole text n) y) g

-- whether the byte after a text may stand there
abbrev pub fits_next : List ℕ → ℕ → Bool
fits_next text b = fits (length text) (length (samples text) % 2 == 0) b

pub stand-last : (text : List ℕ) (b : ℕ) → may_stand (one_more text b) (length text) ≡ fits_next text b
stand-last text b =
    let s : samples_before (one_more text b) (length text) ≡ samples text = samples-same text b (length text) (omega arith) ∙ samples-whole text in
    let g : get_or (one_more text b) (length text) 0 ≡ b = get_or-append_seam text b [] 0 in
    ap (λ x. fits (length text) (length x % 2 == 0) (get_or (one_more text b) (length text) 0)) s ∙ ap (λ y. fits (length text) (length (samples text) % 2 == 0) y) g

-- ---- the samples of a text and their ticks

-- the samples of a text in its header are none
pub drop-short : (n : ℕ) (text : List ℕ) → length text ≤ n → drop n text ≡ []
drop-short zero [] h = refl
drop-short zero (x ∷ xs) h = absurd (omega (arith, h))
drop-short (suc n) [] h = refl
drop-short (suc n) (x ∷ xs) h = drop-short n xs (omega (arith, h))

pub samples-short : (text : List ℕ) → length text ≤ 15 → samples text ≡ []
samples-short text h = ap (λ t. filter_map sample_of t) (drop-short 15 text h)

pub one-sample : (b : ℕ) (o : Option Sample) → sample_of b ≡ o → filter_map sample_of (b ∷ []) ≡ option_to_list o
one-sample b None e = rw e refl
one-sample b (Some s) e = rw e refl

pub samples-more : (text : List ℕ) (b : ℕ) → 15 ≤ length text → samples (one_more text b) ≡ samples text ++ option_to_list (sample_of b)
samples-more text b begun =
    ap (λ t. filter_map sample_of t) (drop-append-le 15 text (b ∷ []) begun) ∙ filter_map-append sample_of (drop 15 text) (b ∷ [])
    ∙ ap (λ x. samples text ++ x) (one-sample b (sample_of b) refl)

-- a sample without partner is no tick; with its partner it is one
pub pairs-odd : (xs : List Sample) (a : Sample) → length xs % 2 ≡ 0 → pairs_of (xs ++ a ∷ []) ≡ pairs_of xs
pairs-odd [] a h = refl
pairs-odd (x ∷ []) a h = absurd (omega (arith, h))
pairs-odd (x ∷ y ∷ xs) a h = ap (λ t. record { a = x; b = y } ∷ t) (pairs-odd xs a (omega (arith, h)))

pub pairs-even : (xs : List Sample) (a b : Sample) → length xs % 2 ≡ 0 → pairs_of ((xs ++ a ∷ []) ++ b ∷ []) ≡ pairs_of xs ++ record { a = a; b = b } ∷ []
pairs-even [] a b h = refl
pairs-even (x ∷ []) a b h = absurd (omega (arith, h))
pairs-even (x ∷ y ∷ xs) a b h = ap (λ t. record { a = x; b = y } ∷ t) (pairs-even xs a b (omega (arith, h)))

pub reverse-more : {X : Type 0} (xs : List X) (x : X) → reverse (xs ++ x ∷ []) ≡ x ∷ reverse xs
reverse-more xs x = reverse-append xs (x ∷ [])
