-- Samples that spell a word before and after flips were flipped at an undetectable set; a quiet sample spells nothing.
use Rattle.std.proofs.Common.{◌≡◌, ℕ, suc, ◌+◌, ◌*◌, ◌<◌, Bool, true, false, if◌then◌else◌, nat_lt, List, get_or, refl, sym, ◌∙◌, arith, inl, inr}
use Rattle.std.proofs.lemmas.Bool.{lt-ltb, le-ltb, cases_lt}
use Rattle.bus_base.specs.declared.samples.Sample.{Sample}
use Rattle.bus_base.specs.declared.samples.Sample.TheVariants.{Quiet}
use Rattle.bus_base.specs.Samples.{exchanged}
use Rattle.bus_base.specs.Flips.{takes, IsUndetectable}
use Rattle.bus_words.specs.declared.word.Word.{Word}
use Rattle.bus_line.specs.Spelling.{Spells, first_half, second_half, sync_sample, leads_plus, sent_bit}
use Rattle.bus_line.specs.Damage.{IsFlipped, AreFlipsNoticed, AreFadesNoticed}
use Rattle.bus_line.proofs.Spelled.{spells_bit, spells_at, spelled_heard}
use Rattle.bus_line.proofs.SentBits.{differ, evens, ones_odd}

-- a flip between two halves of bits is where the bits differ
flip_first : (f a b : Bool) → first_half b ≡ (if f then exchanged (first_half a) else first_half a) → f ≡ differ a b
flip_first true true true h = cc
flip_first true true false h = refl
flip_first true false true h = refl
flip_first true false false h = cc
flip_first false true true h = refl
flip_first false true false h = cc
flip_first false false true h = cc
flip_first false false false h = refl

-- the same of the second half
flip_second : (f a b : Bool) → second_half b ≡ (if f then exchanged (second_half a) else second_half a) → f ≡ differ a b
flip_second true true true h = cc
flip_second true true false h = refl
flip_second true false true h = refl
flip_second true false false h = cc
flip_second false true true h = refl
flip_second false true false h = cc
flip_second false false true h = cc
flip_second false false false h = refl

module _ (set : List Bool) (w v : Word) (old new : List Sample) (spells : Spells w old) (flipped : IsFlipped set old new) (other : Spells v new) where
  at_sync : (p : ℕ) → p < 6 → takes set p ≡ differ (leads_plus w.sync) (leads_plus v.sync)
  at_sync p h =
      let e : sync_sample v.sync p ≡ (if takes set p then exchanged (sync_sample w.sync p) else sync_sample w.sync p) =
      rw (← spells.sync p h, ← other.sync p h) (flipped.each p) in
      elim (cases_lt p 3) [
        | inl low ↦ (let t : nat_lt p 3 ≡ true = lt-ltb p 3 low in flip_first (takes set p) (leads_plus w.sync) (leads_plus v.sync) (rw t at e))
        | inr high ↦ (let t : nat_lt p 3 ≡ false = le-ltb p 3 high in flip_second (takes set p) (leads_plus w.sync) (leads_plus v.sync) (rw t at e))
      ]

  at_first : (i : ℕ) → i < 17 → takes set (6 + 2 * i) ≡ differ (sent_bit w i) (sent_bit v i)
  at_first i h = flip_first (takes set (6 + 2 * i)) (sent_bit w i) (sent_bit v i)
      (rw (← (spells_bit w old spells i h).first, ← (spells_bit v new other i h).first) (flipped.each (6 + 2 * i)))

  at_second : (i : ℕ) → i < 17 → takes set (suc (6 + 2 * i)) ≡ differ (sent_bit w i) (sent_bit v i)
  at_second i h = flip_second (takes set (suc (6 + 2 * i))) (sent_bit w i) (sent_bit v i)
      (rw (← (spells_bit w old spells i h).second, ← (spells_bit v new other i h).second) (flipped.each (suc (6 + 2 * i))))

  pub undetectable : IsUndetectable set
  undetectable = record {
    sync = λ p h. at_sync p h ∙ sym (at_sync 0 (omega arith));
    pairs = λ i h. let e : 7 + 2 * i ≡ suc (6 + 2 * i) = omega arith in rw e (at_second i h ∙ sym (at_first i h));
    even = omega (arith, evens set w v 17 at_first, ones_odd w spells.in_range, ones_odd v other.in_range);
  }

-- so flips at a detectable set are noticed
pub noticed : (set : List Bool) → (IsUndetectable set → ⊥) → AreFlipsNoticed set
noticed set h w old new spells flipped v other = h (undetectable set w v old new spells flipped other)

-- samples with a quiet one among them spell no word
pub fades_noticed : (set : List Bool) (p : ℕ) → p < 40 → takes set p ≡ true → AreFadesNoticed set
fades_noticed set p h taken w old new spells faded v other =
    let quiet : get_or new p Quiet ≡ Quiet = rw taken at (faded.each p) in
    spelled_heard v p (sym (spells_at v new other p h) ∙ quiet)
