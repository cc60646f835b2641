-- A text is refused at the least offset at which a byte stands that may not.
use Rattle.std.proofs.Common.{◌≡◌, ◌↔◌, ℕ, suc, ◌+◌, ◌%◌, ◌<◌, ◌≤◌, List, [], ◌∷◌, ◌++◌, length, reverse, get_or, refl, ap, sym, ◌∙◌, arith, subst, length-append, eq-eqb}
use Rattle.std.specs.Prelude.{◌==◌, ◌&&◌, ◌||◌, Bool, true, false, cond, nat_lt, nat_le, Option, Some, None, is_some, option_to_list, Ok, Err}
use Rattle.std.proofs.lemmas.Bool.{false≢true}
use Rattle.std.proofs.lemmas.Bool.Decides.{nat_tests}
use Rattle.std.proofs.lemmas.List.{append-nil, reverse-append, length-reverse, reverse-reverse}
use Rattle.bus_base.specs.declared.samples.Sample.{Sample}
use Rattle.bus_base.specs.declared.samples.Pair.{Pair}
use Rattle.bus_capture.specs.Captures.{header}
use Rattle.bus_capture.specs.Offsets.{samples_before, fits, may_stand, IsGoodTo, refusal_of_byte, refusal_of_end, refusal_at, pairs_of, ended_by, capture_to}
use Rattle.bus_capture.specs.Readings.{place_after, ticks_in, one_byte, sample_of, reached, first_byte, second_byte, text_limit, answer_now, answer_at, end_in, capture_ticks}
use Rattle.bus_capture.specs.declared.reader.Place.{Place}
use Rattle.bus_capture.specs.declared.reader.Place.TheVariants.{Between, Half, Refused}
use Rattle.bus_capture.specs.declared.reader.Step.{Step}
use Rattle.bus_capture.specs.declared.refusal.CaptureRefusal.{CaptureRefusal}
use Rattle.bus_capture.specs.declared.refusal.CaptureRefusal.TheVariants.{Header, Byte, HalfTick, Long}
use Rattle.bus_capture.proofs.OffsetTexts.{one_more, length-more, samples, samples-whole, samples-same, stand-same, fits_next, stand-last, samples-short, samples-more, pairs-odd, pairs-even, reverse-more}

-- ---- how far a text is good

abbrev IsGood : List ℕ → Type 0
IsGood text = IsGoodTo text (length text)

stand-before : (text : List ℕ) (b m : ℕ) (c : Bool) → IsGood text → fits_next text b ≡ true → nat_lt m (length text) ≡ c → m < suc (length text)
    → may_stand (one_more text b) m ≡ true
stand-before text b m true good fit t less =
    let below : m < length text = grind (arith, nat_tests, t) in
    stand-same text b m below ∙ good.before m below
stand-before text b m false good fit t less =
    let e : m ≡ length text = grind (arith, nat_tests, t, less) in
    rw e (stand-last text b ∙ fit)

good-more : (text : List ℕ) (b : ℕ) → IsGood text → fits_next text b ≡ true → IsGood (one_more text b)
good-more text b good fit =
    let l : length (one_more text b) ≡ suc (length text) = length-more text b in
    record {
      within = omega arith;
      before = λ m less. stand-before text b m (nat_lt m (length text)) good fit refl (omega (arith, less, l));
      wrong = λ h. absurd (omega (arith, h));
    }

-- a text that is good as far as an offset within it stays so; one that is good to its end ends there where the next byte may not stand
good-stays : (text : List ℕ) (b n : ℕ) → n < length text → IsGoodTo text n → IsGoodTo (one_more text b) n
good-stays text b n less good =
    let l : length (one_more text b) ≡ suc (length text) = length-more text b in
    record {
      within = omega (arith, less, l);
      before = λ m below. stand-same text b m (omega (arith, below, less)) ∙ good.before m below;
      wrong = λ _. stand-same text b n less ∙ good.wrong less;
    }

good-ends : (text : List ℕ) (b : ℕ) → IsGood text → fits_next text b ≡ false → IsGoodTo (one_more text b) (length text)
good-ends text b good fit =
    let l : length (one_more text b) ≡ suc (length text) = length-more text b in
    record {
      within = omega (arith, l);
      before = λ m below. stand-same text b m below ∙ good.before m below;
      wrong = λ _. stand-last text b ∙ fit;
    }

-- ---- what stands after the bytes of a text

-- the place and the ticks to which a text comes, said by offsets
abbrev Stands : List ℕ → Place → List Pair → Type 0
Stands text Between ticks = IsGood text × (length (samples text) % 2 ≡ 0) × (ticks ≡ reverse (pairs_of (samples text)))
Stands text (Half a) ticks =
    IsGood text × (15 ≤ length text)
    × ((before : List Sample) × (samples text ≡ before ++ a ∷ []) × (length before % 2 ≡ 0) × (ticks ≡ reverse (pairs_of before)))
Stands text (Refused refusal) ticks =
    (n : ℕ) × (n < length text) × IsGoodTo text n × (refusal_of_byte n ≡ refusal) × (ticks ≡ reverse (pairs_of (samples_before text n)))

-- where one byte more comes to
abbrev Next : List ℕ → ℕ → List Pair → Step → Type 0
Next text b ticks step = Stands (one_more text b) step.place (option_to_list step.tick ++ ticks)

fits-header : (n b : ℕ) (w : Bool) → nat_lt n 15 ≡ true → fits n w b ≡ (b == get_or header n 0)
fits-header n b w h = rw h refl

fits-long : (n b : ℕ) (w : Bool) → nat_lt n 15 ≡ false → nat_le text_limit n ≡ true → fits n w b ≡ false
fits-long n b w h l =
    let e : nat_lt n text_limit ≡ false = grind (arith, nat_tests, l) in
    rw (h, e) refl

fits-later : (n b : ℕ) (w : Bool) → nat_lt n 15 ≡ false → nat_le text_limit n ≡ false → fits n w b ≡ (is_some (sample_of b) || ((b == 10) && w))
fits-later n b w h l =
    let e : nat_lt n text_limit ≡ true = grind (arith, nat_tests, l) in
    rw (h, e) refl

header-refusal : (n : ℕ) → nat_lt n 15 ≡ true → refusal_of_byte n ≡ Header n
header-refusal n h = rw h refl

long-refusal : (n : ℕ) → nat_lt n 15 ≡ false → nat_le text_limit n ≡ true → refusal_of_byte n ≡ Long n
long-refusal n h l =
    let e : nat_lt n text_limit ≡ false = grind (arith, nat_tests, l) in
    rw (h, e) refl

byte-refusal : (n : ℕ) → nat_lt n 15 ≡ false → nat_le text_limit n ≡ false → refusal_of_byte n ≡ Byte n
byte-refusal n h l =
    let e : nat_lt n text_limit ≡ true = grind (arith, nat_tests, l) in
    rw (h, e) refl

-- what the text is good as far as, where its next byte is refused, has no sample more
refused-next : (text : List ℕ) (b : ℕ) (ticks : List Pair) (refusal : CaptureRefusal) → IsGood text → fits_next text b ≡ false
    → refusal_of_byte (length text) ≡ refusal → ticks ≡ reverse (pairs_of (samples text)) → Stands (one_more text b) (Refused refusal) ticks
refused-next text b ticks refusal good fit r t =
    let s : samples_before (one_more text b) (length text) ≡ samples text = samples-same text b (length text) (omega arith) ∙ samples-whole text in
    let l : length (one_more text b) ≡ suc (length text) = length-more text b in
    (length text, omega (arith, l), good-ends text b good fit, r, t ∙ ap (λ x. reverse (pairs_of x)) (sym s))

-- ---- each step of the reader

-- in the header: the header's byte, or another
header-step : (text : List ℕ) (b : ℕ) (ticks : List Pair) (same : Bool) → Stands text Between ticks → nat_lt (length text) 15 ≡ true
    → (b == get_or header (length text) 0) ≡ same → Next text b ticks (reached (cond same Between (Refused (Header (length text)))))
header-step text b ticks true (good, even, t) h e =
    let less : length text < 15 = grind (arith, nat_tests, h) in
    let l : length (one_more text b) ≡ suc (length text) = length-more text b in
    let none : samples (one_more text b) ≡ [] = samples-short (one_more text b) (omega (arith, less, l)) in
    let was : samples text ≡ [] = samples-short text (omega (arith, less)) in
    (good-more text b good (fits-header (length text) b _ h ∙ e), rw none refl, t ∙ ap (λ x. reverse (pairs_of x)) (was ∙ sym none))
header-step text b ticks false (good, even, t) h e =
    refused-next text b ticks (Header (length text)) good (fits-header (length text) b _ h ∙ e) (header-refusal (length text) h) t

-- past the limit
long-step : (text : List ℕ) (b : ℕ) (ticks : List Pair) → IsGood text → ticks ≡ reverse (pairs_of (samples text)) → nat_lt (length text) 15 ≡ false
    → nat_le text_limit (length text) ≡ true → Next text b ticks (reached (Refused (Long (length text))))
long-step text b ticks good t h l =
    refused-next text b ticks (Long (length text)) good (fits-long (length text) b _ h l) (long-refusal (length text) h l) t

or-some : (o : Option Sample) (a : Sample) (x : Bool) → o ≡ Some a → (is_some o || x) ≡ true
or-some o a x e = rw e refl

and-last : (x y : Bool) → y ≡ false → (x && y) ≡ false
and-last true y h = h
and-last false y h = refl

or-none : (o : Option Sample) (x : Bool) → o ≡ None → (is_some o || x) ≡ x
or-none o x e = rw e refl

begun-there : (n : ℕ) → nat_lt n 15 ≡ false → 15 ≤ n
begun-there n h = grind (arith, nat_tests, h)

-- after whole ticks: a sample, a line feed, or another byte
first-step : (text : List ℕ) (b : ℕ) (ticks : List Pair) (s : Option Sample) (feed : Bool) → Stands text Between ticks
    → nat_lt (length text) 15 ≡ false → nat_le text_limit (length text) ≡ false → sample_of b ≡ s → (b == 10) ≡ feed
    → Next text b ticks (cond (is_some s) (first_byte (length text) b s) (reached (cond feed Between (Refused (Byte (length text))))))
first-step text b ticks (Some a) feed (good, even, t) h l e f =
    let begun : 15 ≤ length text = begun-there (length text) h in
    let more : length (one_more text b) ≡ suc (length text) = length-more text b in (
      good-more text b good (fits-later (length text) b _ h l ∙ or-some (sample_of b) a _ e),
      omega (arith, begun, more),
      (samples text, samples-more text b begun ∙ ap (λ o. samples text ++ option_to_list o) e, even, t),
    )
first-step text b ticks None true (good, even, t) h l e f =
    let begun : 15 ≤ length text = begun-there (length text) h in
    let same : samples (one_more text b) ≡ samples text =
    samples-more text b begun ∙ ap (λ o. samples text ++ option_to_list o) e ∙ append-nil (samples text) in
    let whole : (length (samples text) % 2 == 0) ≡ true = eq-eqb _ 0 even in
    let fit : ((b == 10) && (length (samples text) % 2 == 0)) ≡ true = rw (f, whole) refl in (
      good-more text b good (fits-later (length text) b _ h l ∙ or-none (sample_of b) _ e ∙ fit),
      ap (λ x. length x % 2) same ∙ even,
      t ∙ ap (λ x. reverse (pairs_of x)) (sym same),
    )
first-step text b ticks None false (good, even, t) h l e f =
    let fit : ((b == 10) && (length (samples text) % 2 == 0)) ≡ false = rw f refl in
    refused-next text b ticks (Byte (length text)) good (fits-later (length text) b _ h l ∙ or-none (sample_of b) _ e ∙ fit)
    (byte-refusal (length text) h l) t

first-same : (n b : ℕ) (s : Option Sample) → cond (is_some s) (first_byte n b s) (reached (cond (b == 10) Between (Refused (Byte n)))) ≡ first_byte n b s
first-same n b (Some a) = refl
first-same n b None = refl

between-step : (text : List ℕ) (b : ℕ) (ticks : List Pair) (h l : Bool) → Stands text Between ticks → nat_lt (length text) 15 ≡ h
    → nat_le text_limit (length text) ≡ l → Next text b ticks (one_byte (length text) b Between)
between-step text b ticks true l st h e = rw h (header-step text b ticks (b == get_or header (length text) 0) st h refl)
between-step text b ticks false true st h l = rw (h, l) (long-step text b ticks st.0 st.2 h l)
between-step text b ticks false false st h l =
    rw (h, l) (subst (Next text b ticks) (first-same (length text) b (sample_of b)) (first-step text b ticks (sample_of b) (b == 10) st h l refl refl))

-- after a sample of A: its partner, or another byte
odd-even : (n : ℕ) → n % 2 ≡ 0 → ((n + 1) % 2 == 0) ≡ false
odd-even n h = grind (arith, nat_tests, h)

not-whole : (xs before : List Sample) (a : Sample) → xs ≡ before ++ a ∷ [] → length before % 2 ≡ 0 → (length xs % 2 == 0) ≡ false
not-whole xs before a e even =
    let l : length xs ≡ length before + 1 = ap length e ∙ length-append before (a ∷ []) in
    rw l (odd-even (length before) even)

two-more : (before : List Sample) (a b : Sample) → length before % 2 ≡ 0 → length ((before ++ a ∷ []) ++ b ∷ []) % 2 ≡ 0
two-more before a b even =
    let l = length-append (before ++ a ∷ []) (b ∷ []) in
    let m = length-append before (a ∷ []) in
    omega (arith, l, m, even)

second-step : (text : List ℕ) (b : ℕ) (ticks : List Pair) (a : Sample) (s : Option Sample) → Stands text (Half a) ticks
    → nat_lt (length text) 15 ≡ false → nat_le text_limit (length text) ≡ false → sample_of b ≡ s
    → Next text b ticks (second_byte (length text) a s)
second-step text b ticks a (Some z) (good, begun, (before, e, even, t)) h l is =
    let same : samples (one_more text b) ≡ (before ++ a ∷ []) ++ z ∷ [] =
    samples-more text b begun ∙ ap (λ o. samples text ++ option_to_list o) is ∙ ap (λ x. x ++ z ∷ []) e in
    let pairs : pairs_of (samples (one_more text b)) ≡ pairs_of before ++ record { a = a; b = z } ∷ [] =
    ap pairs_of same ∙ pairs-even before a z even in (
      good-more text b good (fits-later (length text) b _ h l ∙ or-some (sample_of b) z _ is),
      ap (λ x. length x % 2) same ∙ two-more before a z even,
      ap (λ x. record { a = a; b = z } ∷ x) t ∙ sym (reverse-more (pairs_of before) record { a = a; b = z }) ∙ ap reverse (sym pairs),
    )
second-step text b ticks a None (good, begun, (before, e, even, t)) h l is =
    let odd : (length (samples text) % 2 == 0) ≡ false = not-whole (samples text) before a e even in
    let fit : ((b == 10) && (length (samples text) % 2 == 0)) ≡ false = and-last (b == 10) _ odd in
    refused-next text b ticks (Byte (length text)) good (fits-later (length text) b _ h l ∙ or-none (sample_of b) _ is ∙ fit)
    (byte-refusal (length text) h l) (t ∙ ap reverse (sym (ap pairs_of e ∙ pairs-odd before a even)))

half-step : (text : List ℕ) (b : ℕ) (ticks : List Pair) (a : Sample) (l : Bool) → Stands text (Half a) ticks
    → nat_le text_limit (length text) ≡ l → Next text b ticks (one_byte (length text) b (Half a))
half-step text b ticks a true (good, begun, (before, e, even, t)) l =
    let h : nat_lt (length text) 15 ≡ false = grind (arith, nat_tests, begun) in
    rw (h, l) (long-step text b ticks good (t ∙ ap reverse (sym (ap pairs_of e ∙ pairs-odd before a even))) h l)
half-step text b ticks a false st l =
    let h : nat_lt (length text) 15 ≡ false = grind (arith, nat_tests, st.1) in
    rw (h, l) (second-step text b ticks a (sample_of b) st h l refl)

refused-step : (text : List ℕ) (b : ℕ) (ticks : List Pair) (refusal : CaptureRefusal) → Stands text (Refused refusal) ticks
    → Next text b ticks (one_byte (length text) b (Refused refusal))
refused-step text b ticks refusal (n, less, good, r, t) =
    let l : length (one_more text b) ≡ suc (length text) = length-more text b in
    (n, omega (arith, less, l), good-stays text b n less good, r, t ∙ ap (λ x. reverse (pairs_of x)) (sym (samples-same text b n (omega (arith, less)))))

next-step : (text : List ℕ) (b : ℕ) (ticks : List Pair) (place : Place) → Stands text place ticks → Next text b ticks (one_byte (length text) b place)
next-step text b ticks Between st = between-step text b ticks (nat_lt (length text) 15) (nat_le text_limit (length text)) st refl refl
next-step text b ticks (Half a) st = half-step text b ticks a (nat_le text_limit (length text)) st refl
next-step text b ticks (Refused refusal) st = refused-step text b ticks refusal st

-- whatever the bytes are
stands : (bytes : List ℕ) → Stands (reverse bytes) (place_after bytes) (ticks_in bytes)
unfolding place_after ticks_in
stands [] = (record { within = omega arith; before = λ m h. absurd (omega (arith, h)); wrong = λ h. absurd (omega (arith, h)) }, refl, refl)
stands (b ∷ bytes) =
    let r : reverse (b ∷ bytes) ≡ one_more (reverse bytes) b = reverse-append (b ∷ []) bytes in
    let l : length (reverse bytes) ≡ length bytes = length-reverse bytes in
    let next : Next (reverse bytes) b (ticks_in bytes) (one_byte (length bytes) b (place_after bytes)) =
    subst (λ n. Next (reverse bytes) b (ticks_in bytes) (one_byte n b (place_after bytes))) l
    (next-step (reverse bytes) b (ticks_in bytes) (place_after bytes) (stands bytes)) in
    rw r next

-- ---- the laws

-- a text is good as far as one offset alone
one-offset : (text : List ℕ) (n m : ℕ) (c d : Bool) → IsGoodTo text n → IsGoodTo text m → nat_lt n m ≡ c → nat_lt m n ≡ d → n ≡ m
one-offset text n m true d a b e f =
    let less : n < m = grind (arith, nat_tests, e) in
    let within : m ≤ length text = b.within in
    absurd (false≢true (sym (a.wrong (omega (arith, less, within))) ∙ b.before n less))
one-offset text n m false true a b e f =
    let less : m < n = grind (arith, nat_tests, f) in
    let within : n ≤ length text = a.within in
    absurd (false≢true (sym (b.wrong (omega (arith, less, within))) ∙ a.before m less))
one-offset text n m false false a b e f = grind (arith, nat_tests, e, f)

same-offset : (text : List ℕ) (n m : ℕ) → IsGoodTo text n → IsGoodTo text m → n ≡ m
same-offset text n m a b = one-offset text n m (nat_lt n m) (nat_lt m n) a b refl refl

at-byte : (text : List ℕ) (n : ℕ) → n < length text → refusal_at text n ≡ Some (refusal_of_byte n)
at-byte text n less =
    let e : nat_lt n (length text) ≡ true = grind (arith, nat_tests, less) in
    rw e refl

-- the place and the ticks of a text, of the whole text in its order
text-stands : (text : List ℕ) → Stands text (place_after (reverse text)) (ticks_in (reverse text))
text-stands text = subst (λ t. Stands t (place_after (reverse text)) (ticks_in (reverse text))) (reverse-reverse text) (stands (reverse text))

refused-from : (text : List ℕ) (place : Place) (ticks : List Pair) (tick : Option Pair) (refusal : CaptureRefusal) → Stands text place ticks
    → answer_at place tick ≡ Err refusal → (n : ℕ) × (n < length text) × IsGoodTo text n × (refusal_at text n ≡ Some refusal)
refused-from text Between ticks tick refusal st h = absurd (cc)
refused-from text (Half a) ticks tick refusal st h = absurd (cc)
refused-from text (Refused other) ticks tick refusal (n, less, good, r, t) h =
    let same : other ≡ refusal = cc in
    (n, less, good, at-byte text n less ∙ ap (λ x. Some x) (r ∙ same))

refused-to : (text : List ℕ) (place : Place) (ticks : List Pair) (tick : Option Pair) (refusal : CaptureRefusal) (n : ℕ) → Stands text place ticks
    → n < length text → IsGoodTo text n → refusal_at text n ≡ Some refusal → answer_at place tick ≡ Err refusal
refused-to text Between ticks tick refusal n st less good r =
    absurd (omega (arith, less, same-offset text n (length text) good st.0))
refused-to text (Half a) ticks tick refusal n st less good r =
    absurd (omega (arith, less, same-offset text n (length text) good st.0))
refused-to text (Refused other) ticks tick refusal n (m, below, fine, is, t) less good r =
    let e : n ≡ m = same-offset text n m good fine in
    let d : refusal_of_byte n ≡ other = ap refusal_of_byte e ∙ is in
    let f : Some (refusal_of_byte n) ≡ Some refusal = sym (at-byte text n less) ∙ r in
    cc

pub place-law : (text : List ℕ) (refusal : CaptureRefusal) → (answer_now (reverse text) ≡ Err refusal)
    ↔ ((n : ℕ) × (n < length text) × IsGoodTo text n × (refusal_at text n ≡ Some refusal))
place-law text refusal = (
  refused-from text (place_after (reverse text)) (ticks_in (reverse text)) _ refusal (text-stands text),
  λ h. refused-to text (place_after (reverse text)) (ticks_in (reverse text)) _ refusal h.0 (text-stands text) h.1 h.2 h.3,
)

good-offset : (text : List ℕ) (place : Place) (ticks : List Pair) → Stands text place ticks → (n : ℕ) × IsGoodTo text n
good-offset text Between ticks st = (length text, st.0)
good-offset text (Half a) ticks st = (length text, st.0)
good-offset text (Refused refusal) ticks (n, less, good, r, t) = (n, good)

pub one-law : (text : List ℕ) → (n : ℕ) × IsGoodTo text n
one-law text = good-offset text (place_after (reverse text)) (ticks_in (reverse text)) (text-stands text)

-- how a text ends that is good to its end
end-short : (n : ℕ) (w : Bool) → nat_lt n 15 ≡ true → refusal_of_end n w ≡ Some (Header n)
end-short n w h = rw h refl

end-whole : (n : ℕ) (w : Bool) → nat_lt n 15 ≡ false → w ≡ true → refusal_of_end n w ≡ None
end-whole n w h e = rw (h, e) refl

end-half : (n : ℕ) (w : Bool) → nat_lt n 15 ≡ false → w ≡ false → refusal_of_end n w ≡ Some (HalfTick n)
end-half n w h e = rw (h, e) refl

at-end : (text : List ℕ) → refusal_at text (length text) ≡ refusal_of_end (length text) (length (samples text) % 2 == 0)
at-end text =
    let e : nat_lt (length text) (length text) ≡ false = grind (arith, nat_tests) in
    rw (e, samples-whole text) refl

-- the ticks and the end of a text that is good as far as this offset
abbrev Ends : List ℕ → Place → List Pair → ℕ → Type 0
Ends text place ticks n =
    (ticks ≡ reverse (pairs_of (samples_before text n)))
    × (end_in (length text) (length ticks) place ≡ ended_by (refusal_at text n) (length (pairs_of (samples_before text n))))

count : (xs : List Pair) (ticks : List Pair) → ticks ≡ reverse xs → length ticks ≡ length xs
count xs ticks e = ap length e ∙ length-reverse xs

between-end : (text : List ℕ) (ticks : List Pair) (h : Bool) → Stands text Between ticks → nat_lt (length text) 15 ≡ h
    → end_in (length text) (length ticks) Between ≡ ended_by (refusal_at text (length text)) (length (pairs_of (samples text)))
between-end text ticks true (good, even, t) h = rw (at-end text, end-short (length text) (length (samples text) % 2 == 0) h, h) refl
between-end text ticks false (good, even, t) h =
    rw (at-end text, end-whole (length text) (length (samples text) % 2 == 0) h (eq-eqb _ 0 even), h) (ap (λ n. Ok n) (count (pairs_of (samples text)) ticks t))

half-end : (text : List ℕ) (ticks : List Pair) (a : Sample) → Stands text (Half a) ticks
    → end_in (length text) (length ticks) (Half a) ≡ ended_by (refusal_at text (length text)) (length (pairs_of (samples text)))
half-end text ticks a (good, begun, (before, e, even, t)) =
    let h : nat_lt (length text) 15 ≡ false = grind (arith, nat_tests, begun) in
    rw (at-end text, end-half (length text) (length (samples text) % 2 == 0) h (not-whole (samples text) before a e even)) refl

ends-there : (text : List ℕ) (place : Place) (ticks : List Pair) → ticks ≡ reverse (pairs_of (samples text))
    → end_in (length text) (length ticks) place ≡ ended_by (refusal_at text (length text)) (length (pairs_of (samples text)))
    → Ends text place ticks (length text)
ends-there text place ticks t e =
    let same : samples text ≡ samples_before text (length text) = sym (samples-whole text) in
    (t ∙ ap (λ x. reverse (pairs_of x)) same, e ∙ ap (λ x. ended_by (refusal_at text (length text)) (length (pairs_of x))) same)

ends : (text : List ℕ) (place : Place) (ticks : List Pair) (n : ℕ) → Stands text place ticks → IsGoodTo text n → Ends text place ticks n
ends text Between ticks n st good =
    subst (Ends text Between ticks) (same-offset text (length text) n st.0 good)
    (ends-there text Between ticks st.2 (between-end text ticks (nat_lt (length text) 15) st refl))
ends text (Half a) ticks n st good =
    let t : ticks ≡ reverse (pairs_of (samples text)) = st.2.3 ∙ ap reverse (sym (ap pairs_of st.2.1 ∙ pairs-odd st.2.0 a st.2.2)) in
    subst (Ends text (Half a) ticks) (same-offset text (length text) n st.0 good) (ends-there text (Half a) ticks t (half-end text ticks a st))
ends text (Refused refusal) ticks n (m, below, fine, is, t) good =
    subst (Ends text (Refused refusal) ticks) (same-offset text m n fine good) (t, sym (ap (λ o. ended_by o (length (pairs_of (samples_before text m)))) (at-byte text m below ∙ ap (λ r. Some r) is)))

pub whole-law : (text : List ℕ) (n : ℕ) → IsGoodTo text n → capture_ticks text ≡ capture_to text n
unfolding capture_ticks
whole-law text n good =
    let e : Ends text (place_after (reverse text)) (ticks_in (reverse text)) n =
    ends text (place_after (reverse text)) (ticks_in (reverse text)) n (text-stands text) good in
    rw (length-reverse text, e.1, e.0) refl
