-- The slots of words that are sent: what is shown of each.
use Rattle.std.proofs.Common.{◌≡◌, ◌≢◌, ℕ, zero, suc, ◌+◌, ◌*◌, ◌/◌, ◌%◌, ◌<◌, ◌≤◌, false, List, [], ◌∷◌, ◌++◌, length, map, Option, Some, None, refl, sym, ap, ◌∙◌, arith, All}
use Rattle.std.proofs.lemmas.Option.{slice_get_within}
use Rattle.std.specs.Prelude.{slice_get}
use Rattle.std.specs.List.{range_with_len}
use Rattle.bus_base.specs.declared.samples.Sample.TheVariants.{Quiet}
use Rattle.bus_base.specs.declared.samples.Drive.{Drive}
use Rattle.bus_words.specs.declared.word.Word.{Word}
use Rattle.bus_line.specs.Past.{InLeg, quiet_ticks, runs, samples_from, slot_word, burst_from, ended_now, end_since}
use Rattle.bus_line.specs.Spelling.{spelled, spelling, word_in}
use Rattle.bus_line.proofs.Guessed.{word_in-spelling}
use Rattle.bus_line.proofs.Heard.{heard-spelling}
use Rattle.bus_line.proofs.Spelled.{spelling_at}
use Rattle.bus_formats.specs.declared.fault.Fault.{Fault}
use Rattle.bus_formats.specs.declared.fault.Hit.{Hit}
use Rattle.bus_model.specs.Noticed.{shown_word}
use Rattle.bus_model.specs.Wire.{struck_sample}
use Rattle.bus_law_line.specs.Shown.{sample_of_word, struck_of, struck_spelling, slots_shown, shown_on}
use Rattle.bus_law_line.specs.Senders.{Sender, SentAlone, LeftAlone, AreHeard}
use Rattle.bus_law_line.proofs.Sent.{some-word, all-samples, left-quiet}
use Rattle.bus_law_line.proofs.Rows.{samples-row, in-leg-quiet, running-row, ended-row, end-row}

-- ---- one slot

same-table : {X : Type 0} (f g : ℕ → X) (a n : ℕ) → ((i : ℕ) → a ≤ i → i < a + n → f i ≡ g i) →
    map f (range_with_len a n) ≡ map g (range_with_len a n)
same-table f g a zero same = refl
same-table f g a (suc n) same =
    rw (same a (omega arith) (omega arith), same-table f g (a + 1) n (λ i low high. same i (omega (arith, low)) (omega (arith, high)))) refl

-- sample j of word i
struck-at : (hits : List Hit) (words : List Word) (word : Word) (i j : ℕ) → slice_get words i ≡ Some word → j < 40 →
    struck_of hits words (40 * i + j) ≡ struck_sample (40 * i + j) hits (spelled word j)
struck-at hits words word i j there within =
    let place : (40 * i + j) / 40 ≡ i = omega (arith, within) in
    let inner : (40 * i + j) % 40 ≡ j = omega (arith, within) in
    ap (λ p. struck_sample (40 * i + j) hits (sample_of_word p (slice_get words ((40 * i + j) / 40)))) inner
    ∙ ap (λ p. struck_sample (40 * i + j) hits (sample_of_word j (slice_get words p))) place
    ∙ ap (λ o. struck_sample (40 * i + j) hits (sample_of_word j o)) there
    ∙ ap (struck_sample (40 * i + j) hits) (spelling_at word j within)

slot-shown : (hits : List Hit) (words : List Word) (word : Word) (m i : ℕ) → slice_get words i ≡ Some word → 40 * i + 40 ≤ m →
    slot_word (struck_spelling hits words m) 0 i ≡ word_in (shown_word i hits word)
unfolding slot_word shown_word
slot-shown hits words word m i there fits =
    let at : 0 + 40 * i ≡ 40 * i = omega arith in
    ap (λ p. word_in (samples_from (struck_spelling hits words m) p 40)) at
    ∙ ap word_in (samples-row (struck_of hits words) m (40 * i) 40 fits
    ∙ same-table (λ j. struck_of hits words (40 * i + j)) (λ j. struck_sample (40 * i + j) hits (spelled word j)) 0 40
    (λ j low high. struck-at hits words word i j there (omega (arith, high))))

-- ---- all slots

slots-table : (f : ℕ → Option Word) (hits : List Hit) (a : ℕ) (words : List Word) →
    ((i : ℕ) (word : Word) → slice_get words i ≡ Some word → f (a + i) ≡ word_in (shown_word (a + i) hits word)) →
    map f (range_with_len a (length words)) ≡ slots_shown hits a words
slots-table f hits a [] each = refl
slots-table f hits a (word ∷ words) each =
    let here : a + 0 ≡ a = omega arith in
    let next : a + 1 ≡ suc a = omega arith in
    let first : f a ≡ word_in (shown_word a hits word) = rw here at (each 0 word refl) in
    let rest : map f (range_with_len (suc a) (length words)) ≡ slots_shown hits (suc a) words =
    slots-table f hits (suc a) words (λ i w there. let on : a + suc i ≡ suc a + i = omega arith in rw on at (each (suc i) w there)) in
    rw (next, first, rest) refl

pub slots-sent : (hits : List Hit) (words : List Word) →
    (burst_from (struck_spelling hits words (40 * length words)) 0 (40 * length words)).slots ≡ slots_shown hits 0 words
unfolding burst_from
slots-sent hits words =
    let whole : 40 * length words / 40 ≡ length words = omega arith in
    ap (λ n. map (slot_word (struck_spelling hits words (40 * length words)) 0) (range_with_len 0 n)) whole
    ∙ slots-table (slot_word (struck_spelling hits words (40 * length words)) 0) hits 0 words (λ i word there.
    let within : i < length words = slice_get_within words i word there in
    let at : 0 + i ≡ i = omega arith in
    rw at (slot-shown hits words word (40 * length words) i there (omega (arith, within))))

-- ---- words that no fault strikes

heard-word : (position : ℕ) (o : Option Word) → position < 40 → (o ≡ None → ⊥) → sample_of_word position o ≢ Quiet
heard-word position None within some = absurd (some refl)
heard-word position (Some word) within some = heard-spelling word position within

pub heard-unstruck : (words : List Word) → AreHeard [] words
heard-unstruck words i within =
    heard-word (i % 40) (slice_get words (i / 40)) (omega arith) (some-word words (i / 40) (omega (arith, within)))

unstruck-word : (n : ℕ) (word : Word) → shown_word n [] word ≡ spelling word
unfolding shown_word spelling
unstruck-word n word = refl

slots-unstruck : (n : ℕ) (words : List Word) → All (λ (word : Word). word.bits < 65536) words → slots_shown [] n words ≡ map (λ word. Some word) words
slots-unstruck n [] fit = refl
slots-unstruck n (word ∷ words) fit =
    let first : word_in (shown_word n [] word) ≡ Some word = rw (unstruck-word n word) (word_in-spelling word (fit 0 word (omega arith))) in
    rw (first, slots-unstruck (suc n) words (λ i d low. fit (suc i) d (omega (arith, low)))) refl

pub unstruck : (words : List Word) → All (λ (word : Word). word.bits < 65536) words →
    AreHeard [] words × (slots_shown [] 0 words ≡ map (λ word. Some word) words)
unstruck words fit = (heard-unstruck words, slots-unstruck 0 words fit)

-- ---- as the channel shows it

length-shown : (faults : List Fault) (s : Sender) (before : List (List Drive)) → length (shown_on faults s.channel before) ≡ length before
length-shown faults s [] = refl
length-shown faults s (now ∷ before) = ap suc (length-shown faults s before)

pub leg-sent : (k : ℕ) (hits : List Hit) (words : List Word) (n j : ℕ) → AreHeard hits words → 0 < n → n ≤ 40 * length words → j ≤ k →
    InLeg k (quiet_ticks j ++ struck_spelling hits words n)
leg-sent k hits words n j heard some fits few = in-leg-quiet k (struck_of hits words) n j (λ i low. heard i (omega (arith, low, fits))) some few

pub endless : (k : ℕ) (faults : List Fault) (s : Sender) (hits : List Hit) (before sent : List (List Drive)) →
    runs k (shown_on faults s.channel before) ≡ false → SentAlone faults s hits before sent → AreHeard hits s.words →
    end_since k (shown_on faults s.channel (sent ++ before)) (length before) ≡ None
endless k faults s hits before sent none h heard =
    ap (λ xs. end_since k xs (length before)) (all-samples faults s hits before sent h)
    ∙ ap (end_since k (struck_spelling hits s.words (length sent) ++ shown_on faults s.channel before)) (sym (length-shown faults s before))
    ∙ running-row k (struck_of hits s.words) (length sent) (shown_on faults s.channel before) none (λ i low. heard i (omega (arith, low, h.within)))

pub sent-ended : (k : ℕ) (faults : List Fault) (s : Sender) (hits : List Hit) (before sent silent : List (List Drive)) →
    runs k (shown_on faults s.channel before) ≡ false → SentAlone faults s hits before sent → AreHeard hits s.words →
    0 < length s.words → length sent ≡ 40 * length s.words →
    LeftAlone faults s.channel (sent ++ before) silent → length silent ≡ suc k →
    ended_now k (shown_on faults s.channel (silent ++ (sent ++ before)))
    ≡ Some record { first = length before; ticks = 40 * length s.words; slots = slots_shown hits 0 s.words }
sent-ended k faults s hits before sent silent none h heard some whole left quiet =
    ap (ended_now k) (left-quiet faults s.channel (sent ++ before) silent left)
    ∙ ap (λ n. ended_now k (quiet_ticks n ++ shown_on faults s.channel (sent ++ before))) quiet
    ∙ ap (λ xs. ended_now k (quiet_ticks (suc k) ++ xs)) (all-samples faults s hits before sent h)
    ∙ ap (λ n. ended_now k (quiet_ticks (suc k) ++ (struck_spelling hits s.words n ++ shown_on faults s.channel before))) whole
    ∙ ended-row k (struck_of hits s.words) (40 * length s.words) (shown_on faults s.channel before) none (omega (arith, some)) heard
    ∙ ap (λ p. Some (record {
      first = p;
      ticks = 40 * length s.words;
      slots = (burst_from (struck_spelling hits s.words (40 * length s.words)) 0 (40 * length s.words)).slots;
    }))
    (length-shown faults s before)
    ∙ ap (λ slots. Some (record { first = length before; ticks = 40 * length s.words; slots = slots })) (slots-sent hits s.words)

pub sent-end : (k : ℕ) (faults : List Fault) (s : Sender) (hits : List Hit) (before sent silent : List (List Drive)) →
    runs k (shown_on faults s.channel before) ≡ false → SentAlone faults s hits before sent → AreHeard hits s.words →
    0 < length s.words → length sent ≡ 40 * length s.words →
    LeftAlone faults s.channel (sent ++ before) silent → suc k ≤ length silent →
    end_since k (shown_on faults s.channel (silent ++ (sent ++ before))) (length before) ≡ Some (length before + 40 * length s.words)
sent-end k faults s hits before sent silent none h heard some whole left enough =
    ap (λ xs. end_since k xs (length before)) (left-quiet faults s.channel (sent ++ before) silent left)
    ∙ ap (λ xs. end_since k (quiet_ticks (length silent) ++ xs) (length before)) (all-samples faults s hits before sent h)
    ∙ ap (λ n. end_since k (quiet_ticks (length silent) ++ (struck_spelling hits s.words n ++ shown_on faults s.channel before)) (length before)) whole
    ∙ ap (end_since k (quiet_ticks (length silent) ++ (struck_spelling hits s.words (40 * length s.words) ++ shown_on faults s.channel before)))
    (sym (length-shown faults s before))
    ∙ end-row k (struck_of hits s.words) (40 * length s.words) (length silent) (shown_on faults s.channel before) none (omega (arith, some)) heard enough
    ∙ ap (λ p. Some (p + 40 * length s.words)) (length-shown faults s before)
