-- No sample of a word's spelling is quiet; words and spellings go one to one.
use Rattle.std.proofs.Common.{◌≡◌, ◌≢◌, ℕ, ◌<◌, false, List, length, get_or, All, Option, Some, None, refl, sym, ap, ◌∙◌, arith}
use Rattle.std.proofs.lemmas.List.Elements.{All-from_get_or}
use Rattle.bus_base.specs.Samples.{is_quiet}
use Rattle.bus_base.specs.declared.samples.Sample.{Sample}
use Rattle.bus_base.specs.declared.samples.Sample.TheVariants.{Plus, Minus, Quiet}
use Rattle.bus_words.specs.declared.word.Word.{Word}
use Rattle.bus_line.specs.Spelling.{Spells, spelling, word_in}
use Rattle.bus_line.proofs.Spelled.{spelling_at, length-spelling, spelled_heard, spells_at}
use Rattle.bus_line.proofs.Guessed.{word_in-read, word_in-spells, word_in-spelling}

-- the samples of a spelling, and of a list that spells a word, aren't quiet
pub heard-spelling : (w : Word) (p : ℕ) → p < 40 → get_or (spelling w) p Quiet ≢ Quiet
heard-spelling w p h e = spelled_heard w p (sym (spelling_at w p h) ∙ e)

-- no sample of a spelled word is quiet
pub heard-spells : (w : Word) (s : List Sample) → Spells w s → (p : ℕ) → p < 40 → get_or s p Quiet ≢ Quiet
heard-spells w s k p h e = spelled_heard w p (sym (spells_at w s k p h) ∙ e)

-- what isn't quiet tests so
pub heard_test : (x : Sample) → x ≢ Quiet → is_quiet x ≡ false
heard_test Plus h = refl
heard_test Minus h = refl
heard_test Quiet h = absurd (h refl)

-- the same as a test, at a position and of all of them
pub is_quiet-spelling : (w : Word) (p : ℕ) → p < 40 → is_quiet (get_or (spelling w) p Quiet) ≡ false
is_quiet-spelling w p h = heard_test (get_or (spelling w) p Quiet) (heard-spelling w p h)

-- nor is one of a word's spelling
pub all_heard-spelling : (w : Word) → All (λ x. is_quiet x ≡ false) (spelling w)
all_heard-spelling w = All-from_get_or (λ x. is_quiet x ≡ false) (spelling w) Quiet
    (λ p h. is_quiet-spelling w p (omega (arith, h, length-spelling w)))

-- its first sample and its last
pub first-spelling : (w : Word) → is_quiet (get_or (spelling w) 0 Quiet) ≡ false
first-spelling w = is_quiet-spelling w 0 (omega arith)

-- the last sample of a spelling isn't quiet
pub last-spelling : (w : Word) → is_quiet (get_or (spelling w) 39 Quiet) ≡ false
last-spelling w = is_quiet-spelling w 39 (omega arith)

-- samples with a quiet one among them, or not forty in number, are no word
pub word_in-quiet : (s : List Sample) (p : ℕ) → p < 40 → get_or s p Quiet ≡ Quiet → word_in s ≡ None
word_in-quiet s p h e = sym (word_in-read s None (λ w k. heard-spells w s k p h e))

-- samples of another number spell no word
pub word_in-other_length : (s : List Sample) → length s ≢ 40 → word_in s ≡ None
word_in-other_length s other = sym (word_in-read s None (λ w k. other k.forty))

-- an option has one value
same_some : (v w : Word) → ◌≡◌ {A = Option Word} (Some v) (Some w) → v ≡ w
same_some v w e = cc

-- samples spell one word at most, and no two words have one spelling
pub spells-one : (v w : Word) (s : List Sample) → Spells v s → Spells w s → v ≡ w
spells-one v w s h k = same_some v w (sym (word_in-spells s v h) ∙ word_in-spells s w k)

-- two words of sixteen bits that are spelled alike are one
pub spelling-one : (v w : Word) → v.bits < 65536 → w.bits < 65536 → spelling v ≡ spelling w → v ≡ w
spelling-one v w h k e = same_some v w (sym (word_in-spelling v h) ∙ ap word_in e ∙ word_in-spelling w k)
