-- A burst that is cut out of a past: its samples, its slots and their words.
use Rattle.std.proofs.Common.{◌≡◌, ℕ, zero, suc, ◌+◌, ◌-◌, ◌*◌, ◌/◌, ◌<◌, ◌≤◌, List, [], ◌∷◌, ◌++◌, map, reverse, length, take, drop, None, Option, refl, sym, ap, ◌∙◌, arith, length-append}
use Rattle.std.specs.List.{range_with_len}
use Rattle.std.proofs.lemmas.List.{reverse-append, length-reverse, length-take, get_or_at}
use Rattle.std.proofs.lemmas.List.FromFn.{length-map-range_with_len, map-range_with_len_more}
use Rattle.bus_base.specs.declared.samples.Sample.{Sample}
use Rattle.bus_base.specs.declared.samples.Sample.TheVariants.{Plus, Minus, Quiet}
use Rattle.bus_words.specs.declared.word.Word.{Word}
use Rattle.bus_line.specs.Spelling.{word_in}
use Rattle.bus_line.specs.Past.{quiet, samples_from, slot_word, burst_from}
use Rattle.bus_line.specs.Cutting.{newest_samples}
use Rattle.bus_line.proofs.Heard.{word_in-quiet}

-- the newest tick comes last in order
pub reverse-more : (x : Sample) (past : List Sample) → reverse (x ∷ past) ≡ reverse past ++ x ∷ []
reverse-more x past = reverse-append (x ∷ []) past

-- the samples of the newest n ticks
pub newest-from : (past : List Sample) (p n : ℕ) → p + n ≡ length past → samples_from past p n ≡ newest_samples n past
newest-from past p n here = let none : length past - (p + n) ≡ 0 = omega (arith, here) in rw none refl

-- the newest ticks as far as they were quiet
quiet-place : (past : List Sample) (j : ℕ) → j < quiet past → drop j past ≡ Quiet ∷ drop (suc j) past
quiet-place [] j h = absurd (omega (arith, h))
quiet-place (Plus ∷ past) j h = absurd (omega (arith, h))
quiet-place (Minus ∷ past) j h = absurd (omega (arith, h))
quiet-place (Quiet ∷ past) zero h = refl
quiet-place (Quiet ∷ past) (suc j) h = quiet-place past j (omega (arith, h))

-- samples that end with a quiet one spell no word
word-quiet : (xs : List Sample) → length xs < 40 → word_in (xs ++ Quiet ∷ []) ≡ None
word-quiet xs short = word_in-quiet (xs ++ Quiet ∷ []) (length xs) short (get_or_at xs Quiet [] Quiet (length xs) refl)

-- a slot whose last tick was quiet has no word
pub word-before : (q j : ℕ) (x : Sample) (past : List Sample) → q + 40 + j ≡ length past → j < quiet past → word_in (samples_from (x ∷ past) q 40) ≡ None
word-before q j x past here within =
    let at : suc (length past) - (q + 40) ≡ suc j = omega (arith, here) in
    let head : drop j past ≡ Quiet ∷ drop (suc j) past = quiet-place past j within in
    rw (at, head, reverse-more Quiet (take 39 (drop (suc j) past))) (word-quiet (reverse (take 39 (drop (suc j) past))) (simp (length-reverse, length-take) (omega arith)))

-- nor do the newest forty after a quiet tick
pub newest-quiet : (past : List Sample) → word_in (newest_samples 40 (Quiet ∷ past)) ≡ None
newest-quiet past = rw (reverse-more Quiet (take 39 past)) (word-quiet (reverse (take 39 past)) (simp (length-reverse, length-take) (omega arith)))

-- a tick more changes no samples before it
pub samples-more : (x : Sample) (past : List Sample) (p n : ℕ) → p + n ≤ length past → samples_from (x ∷ past) p n ≡ samples_from past p n
samples-more x past p n fits =
    let at : suc (length past) - (p + n) ≡ suc (length past - (p + n)) = omega (arith, fits) in
    rw at refl

-- nor do any number of ticks more
pub samples-later : (later past : List Sample) (p n : ℕ) → p + n ≤ length past → samples_from (later ++ past) p n ≡ samples_from past p n
samples-later [] past p n fits = refl
samples-later (x ∷ later) past p n fits =
    let long : length (later ++ past) ≡ length later + length past = length-append later past in
    samples-more x (later ++ past) p n (omega (arith, fits, long)) ∙ samples-later later past p n fits

-- nor a slot that was whole
pub slot_word-more : (x : Sample) (past : List Sample) (p i : ℕ) → p + 40 * i + 40 ≤ length past → slot_word (x ∷ past) p i ≡ slot_word past p i
unfolding slot_word
slot_word-more x past p i fits = ap word_in (samples-more x past (p + 40 * i) 40 fits)

-- nor with any number of ticks more
pub slot_word-later : (later past : List Sample) (p i : ℕ) → p + 40 * i + 40 ≤ length past → slot_word (later ++ past) p i ≡ slot_word past p i
unfolding slot_word
slot_word-later later past p i fits = ap word_in (samples-later later past (p + 40 * i) 40 fits)

-- equal functions have equal tables
pub table-same : (f g : ℕ → Option Word) (n : ℕ) → ((i : ℕ) → i < n → f i ≡ g i) → map f (range_with_len 0 n) ≡ map g (range_with_len 0 n)
table-same f g zero same = refl
table-same f g (suc n) same =
    let a = map-range_with_len_more f 0 n n (omega arith) in
    let b = map-range_with_len_more g 0 n n (omega arith) in
    let at : n + 1 ≡ suc n = omega arith in
    (rw at at a) ∙ (rw (table-same f g n (λ i q. same i (omega arith)), same n (omega arith)) (sym (rw at at b)))

-- nor a burst that was cut out
pub burst_from-more : (x : Sample) (past : List Sample) (p n : ℕ) → p + n ≤ length past → burst_from (x ∷ past) p n ≡ burst_from past p n
unfolding burst_from
burst_from-more x past p n fits =
    let same = table-same (slot_word (x ∷ past) p) (slot_word past p) (n / 40) (λ i r. slot_word-more x past p i (omega (arith, fits, r))) in
    rw same refl

-- nor with any number of ticks more
pub burst_from-later : (later past : List Sample) (p n : ℕ) → p + n ≤ length past → burst_from (later ++ past) p n ≡ burst_from past p n
burst_from-later [] past p n fits = refl
burst_from-later (x ∷ later) past p n fits =
    let long : length (later ++ past) ≡ length later + length past = length-append later past in
    burst_from-more x (later ++ past) p n (omega (arith, fits, long)) ∙ burst_from-later later past p n fits

-- what a burst that is cut out has
pub burst-first : (past : List Sample) (p n : ℕ) → (burst_from past p n).first ≡ p
unfolding burst_from
burst-first past p n = refl

-- its ticks
pub burst-ticks : (past : List Sample) (p n : ℕ) → (burst_from past p n).ticks ≡ n
unfolding burst_from
burst-ticks past p n = refl

-- as many slots as forty ticks fit in
pub slots-count : (past : List Sample) (p n : ℕ) → length (burst_from past p n).slots ≡ n / 40
unfolding burst_from
slots-count past p n = length-map-range_with_len (slot_word past p) 0 (n / 40)

-- none in fewer than forty ticks
pub slots-none : (past : List Sample) (p n : ℕ) → n < 40 → (burst_from past p n).slots ≡ []
unfolding burst_from
slots-none past p n few = let none : n / 40 ≡ 0 = omega (arith, few) in rw none refl

-- so many ticks more, and no slot more
pub slots-same : (past : List Sample) (p n m : ℕ) → m / 40 ≡ n / 40 → (burst_from past p m).slots ≡ (burst_from past p n).slots
unfolding burst_from
slots-same past p n m same = rw same refl

-- or one
pub slots-next : (past : List Sample) (p n m : ℕ) → m / 40 ≡ suc (n / 40) → (burst_from past p m).slots ≡ (burst_from past p n).slots ++ slot_word past p (n / 40) ∷ []
unfolding burst_from
slots-next past p n m next =
    let more = map-range_with_len_more (slot_word past p) 0 (n / 40) (n / 40) (omega arith) in
    let at : n / 40 + 1 ≡ suc (n / 40) = omega arith in
    rw next (rw at at more)
