-- What is left of a word that flips struck at an undetectable set: another word.
use Rattle.std.proofs.Common.{◌≡◌, ◌≢◌, ℕ, suc, ◌+◌, ◌-◌, ◌*◌, ◌/◌, ◌%◌, ◌<◌, Bool, true, false, if◌then◌else◌, ◌==◌, nat_lt, List, get_or, count_ones, refl, sym, ap, ◌∙◌, arith, subst, inl, inr}
use Rattle.std.proofs.lemmas.Bool.{cases_Bool, cond_both}
use Rattle.bus_base.specs.declared.samples.Sample.{Sample}
use Rattle.bus_base.specs.declared.samples.Sample.TheVariants.{Quiet}
use Rattle.bus_base.specs.Samples.{exchanged}
use Rattle.bus_base.specs.Flips.{takes, pairs_taken, IsUndetectable}
use Rattle.bus_words.specs.declared.word.Word.{Word}
use Rattle.bus_words.specs.declared.word.Sync.{Sync}
use Rattle.bus_words.specs.declared.word.Sync.TheVariants.{Command, Datum}
use Rattle.bus_line.specs.Spelling.{Spells, SpellsBit, first_half, second_half, sync_sample, leads_plus, sent_bit, spelled, is_one, number_of}
use Rattle.bus_line.specs.Damage.{IsFlipped, AreFlipsUnnoticed}
use Rattle.bus_line.proofs.Spelled.{spells_at, sent_low}
use Rattle.bus_line.proofs.Numbers.{number_below, number_bit}
use Rattle.bus_line.proofs.SentBits.{differ, ones_sent, count_sent, evens}

-- a half that is exchanged is that of the other bit
first_differ : (f a : Bool) → (if f then exchanged (first_half a) else first_half a) ≡ first_half (differ a f)
first_differ true true = refl
first_differ true false = refl
first_differ false true = refl
first_differ false false = refl

-- the same of the second half
second_differ : (f a : Bool) → (if f then exchanged (second_half a) else second_half a) ≡ second_half (differ a f)
second_differ true true = refl
second_differ true false = refl
second_differ false true = refl
second_differ false false = refl

-- where two bits differ is what was flipped
differ_back : (a f : Bool) → f ≡ differ a (differ a f)
differ_back true true = refl
differ_back true false = refl
differ_back false true = refl
differ_back false false = refl

-- the other sync, which is what flips of a whole sync leave
pub inverse_sync : Sync → Sync
inverse_sync Command = Datum
inverse_sync Datum = Command

-- a sync that is exchanged is the other one, sample by sample
leads_struck : (f : Bool) (y : Sync) → leads_plus (if f then inverse_sync y else y) ≡ differ (leads_plus y) f
unfolding inverse_sync
leads_struck true Command = refl
leads_struck true Datum = refl
leads_struck false Command = refl
leads_struck false Datum = refl

-- a sync that is flipped wholly is the other sync
sync_struck : (f : Bool) (y : Sync) (p : ℕ) → (if f then exchanged (sync_sample y p) else sync_sample y p) ≡ sync_sample (if f then inverse_sync y else y) p
sync_struck f y p = rw (leads_struck f y) (elim (cases_Bool (nat_lt p 3)) [
  | inl e ↦ rw e (first_differ f (leads_plus y))
  | inr e ↦ rw e (second_differ f (leads_plus y))
])

-- the word that is left: its bits, and as a whole
pub struck_bit : List Bool → Word → ℕ → Bool
struck_bit set w i = differ (is_one w.bits (15 - i)) (takes set (6 + 2 * i))

-- the word whose sync and bits these flips exchange
pub struck : List Bool → Word → Word
struck set w = record { sync = if takes set 0 then inverse_sync w.sync else w.sync; bits = number_of (struck_bit set w) 16 }

-- the parity bit that is left is right for the bits that are left, since pairs were taken in an even number
struck_last : (m n k a b all : ℕ) (x t : Bool) → (m + n + k) % 2 ≡ 0 → all ≡ k + (if t then 1 else 0) → m ≡ a → n ≡ b → all % 2 ≡ 0 →
    (a + (if x then 1 else 0)) % 2 ≡ 1 → (b + (if differ x t then 1 else 0)) % 2 ≡ 1
struck_last m n k a b all true true e f g h i j = omega arith
struck_last m n k a b all true false e f g h i j = omega arith
struck_last m n k a b all false true e f g h i j = omega arith
struck_last m n k a b all false false e f g h i j = omega arith

-- a half of a bit isn't its own exchange
first_moves : (b : Bool) → first_half b ≡ exchanged (first_half b) → ⊥
first_moves true h = cc
first_moves false h = cc

-- nor the second half
second_moves : (b : Bool) → second_half b ≡ exchanged (second_half b) → ⊥
second_moves true h = cc
second_moves false h = cc

-- no sample of a spelling is quiet, so an exchange changes it
spelled_moves : (w : Word) (p : ℕ) → spelled w p ≡ exchanged (spelled w p) → ⊥
unfolding spelled
spelled_moves w p =
    let P : Sample → Type 0 = λ x. x ≡ exchanged x → ⊥ in
    cond_both (nat_lt p 6) _ _ P
    (λ _. cond_both (nat_lt p 3) _ _ P (λ _. first_moves (leads_plus w.sync)) (λ _. second_moves (leads_plus w.sync)))
    (λ _. cond_both (p % 2 == 0) _ _ P (λ _. first_moves (sent_bit w ((p - 6) / 2))) (λ _. second_moves (sent_bit w ((p - 6) / 2))))

module _ (set : List Bool) (w : Word) (old new : List Sample) (spells : Spells w old) (flipped : IsFlipped set old new) (blind : IsUndetectable set) where
  struck_below : (struck set w).bits < 65536
  unfolding struck
  struck_below = number_below (struck_bit set w) 16

  struck_is_one : (i : ℕ) → i < 16 → is_one (struck set w).bits (15 - i) ≡ differ (is_one w.bits (15 - i)) (takes set (6 + 2 * i))
  unfolding struck struck_bit
  struck_is_one i h = number_bit (struck_bit set w) 16 i h

  struck_at_sync : (p : ℕ) → p < 6 → get_or new p Quiet ≡ sync_sample (struck set w).sync p
  unfolding struck
  struck_at_sync p h = flipped.each p ∙ rw (blind.sync p h, spells.sync p h) (sync_struck (takes set 0) w.sync p)

  struck_at_bit : (i : ℕ) (b : Bool) → i < 17 → SpellsBit old (6 + 2 * i) b → SpellsBit new (6 + 2 * i) (differ b (takes set (6 + 2 * i)))
  struck_at_bit i b h bit =
      let e : 7 + 2 * i ≡ suc (6 + 2 * i) = omega arith in
      record {
        first = flipped.each (6 + 2 * i) ∙ rw bit.first (first_differ (takes set (6 + 2 * i)) b);
        second = flipped.each (suc (6 + 2 * i)) ∙ rw (bit.second, ← e, blind.pairs i h) (second_differ (takes set (6 + 2 * i)) b);
      }

  struck_pairs : (i : ℕ) → i < 16 → takes set (6 + 2 * i) ≡ differ (sent_bit w i) (sent_bit (struck set w) i)
  struck_pairs i h = rw (sent_low w i h, sent_low (struck set w) i h, struck_is_one i h) (differ_back (is_one w.bits (15 - i)) (takes set (6 + 2 * i)))

  struck_odd : (count_ones (struck set w).bits + (if differ spells.further (takes set 38) then 1 else 0)) % 2 ≡ 1
  struck_odd =
      let e = evens set w (struck set w) 16 struck_pairs in
      let a : ones_sent w 16 ≡ count_ones w.bits = count_sent w spells.in_range in
      let b : ones_sent (struck set w) 16 ≡ count_ones (struck set w).bits = count_sent (struck set w) struck_below in
      let all : pairs_taken set 17 ≡ pairs_taken set 16 + (if takes set 38 then 1 else 0) = refl in
      struck_last (ones_sent w 16) (ones_sent (struck set w) 16) (pairs_taken set 16) (count_ones w.bits) (count_ones (struck set w).bits)
      (pairs_taken set 17) spells.further (takes set 38) e all a b blind.even spells.odd

  pub struck_spells : Spells (struck set w) new
  struck_spells = record {
    in_range = struck_below;
    forty = flipped.as_long ∙ spells.forty;
    sync = struck_at_sync;
    bits = λ i h. rw (struck_is_one i h) (struck_at_bit i (is_one w.bits (15 - i)) (omega arith) (spells.bits i h));
    further = differ spells.further (takes set 38);
    parity = struck_at_bit 16 spells.further (omega arith) spells.parity;
    odd = struck_odd;
  }

  struck_other : (p : ℕ) → p < 40 → takes set p ≡ true → struck set w ≢ w
  struck_other p h taken e =
      let back : Spells w new = subst (λ v. Spells v new) e struck_spells in
      let moved : get_or new p Quiet ≡ exchanged (get_or old p Quiet) = rw taken at (flipped.each p) in
      let at_new : get_or new p Quiet ≡ spelled w p = spells_at w new back p h in
      let at_old : get_or old p Quiet ≡ spelled w p = spells_at w old spells p h in
      spelled_moves w p (sym at_new ∙ moved ∙ ap exchanged at_old)

-- so flips at an undetectable set aren't noticed
pub unnoticed : (set : List Bool) → IsUndetectable set → (p : ℕ) → p < 40 → takes set p ≡ true → AreFlipsUnnoticed set
unnoticed set blind p h taken w old new spells flipped =
    (struck set w, struck_spells set w old new spells flipped blind, struck_other set w old new spells flipped blind p h taken)
