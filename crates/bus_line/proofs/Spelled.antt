-- A word's spelling by positions: it spells the word, and nothing else does.
use Rattle.std.proofs.Common.{◌≡◌, ℕ, suc, ◌+◌, ◌-◌, ◌*◌, ◌/◌, ◌%◌, ◌<◌, Bool, true, false, if◌then◌else◌, ◌==◌, nat_lt, List, length, get_or, count_ones, refl, sym, ◌∙◌, arith, subst, inl, inr}
use Rattle.std.proofs.lemmas.Bool.{lt-ltb, le-ltb, eq-eqb, ne_eqb, cases_lt, cases_eq, cond_both}
use Rattle.std.proofs.lemmas.List.{ext_get_or}
use Rattle.std.proofs.lemmas.List.FromFn.{get_or-map-range_with_len, length-map-range_with_len}
use Rattle.bus_base.specs.declared.samples.Sample.{Sample}
use Rattle.bus_base.specs.declared.samples.Sample.TheVariants.{Quiet}
use Rattle.bus_words.specs.declared.word.Word.{Word}
use Rattle.bus_line.specs.Spelling.{Spells, SpellsBit, first_half, second_half, sync_sample, leads_plus, sent_bit, spelled, spelling, is_one}

-- the sample of a spelling at a position
pub spelling_at : (w : Word) (p : ℕ) → p < 40 → get_or (spelling w) p Quiet ≡ spelled w p
unfolding spelling
spelling_at w p h = get_or-map-range_with_len (spelled w) 0 40 p p Quiet h (omega arith)

-- a spelling has forty samples
pub length-spelling : (w : Word) → length (spelling w) ≡ 40
unfolding spelling
length-spelling w = length-map-range_with_len (spelled w) 0 40

-- the first six are the sync
spelled_sync : (w : Word) (p : ℕ) → p < 6 → spelled w p ≡ sync_sample w.sync p
unfolding spelled
spelled_sync w p h = let a : nat_lt p 6 ≡ true = lt-ltb p 6 h in rw a refl

-- the two samples of each bit that is sent
pub spelled_first : (w : Word) (i : ℕ) → spelled w (6 + 2 * i) ≡ first_half (sent_bit w i)
unfolding spelled
spelled_first w i =
    let a : nat_lt (6 + 2 * i) 6 ≡ false = le-ltb (6 + 2 * i) 6 (omega arith) in
    let b : ((6 + 2 * i) % 2 == 0) ≡ true = eq-eqb ((6 + 2 * i) % 2) 0 (omega arith) in
    let d : ((6 + 2 * i) - 6) / 2 ≡ i = omega arith in
    rw (a, b, d) refl

-- and the second half
spelled_second : (w : Word) (i : ℕ) → spelled w (suc (6 + 2 * i)) ≡ second_half (sent_bit w i)
unfolding spelled
spelled_second w i =
    let a : nat_lt (suc (6 + 2 * i)) 6 ≡ false = le-ltb (suc (6 + 2 * i)) 6 (omega arith) in
    let b : ((suc (6 + 2 * i)) % 2 == 0) ≡ false = ne_eqb ((suc (6 + 2 * i)) % 2) 0 (λ e. omega arith) in
    let d : ((suc (6 + 2 * i)) - 6) / 2 ≡ i = omega arith in
    rw (a, b, d) refl

-- the first sixteen bits that are sent are the word's, and the last is its parity bit
pub sent_low : (w : Word) (i : ℕ) → i < 16 → sent_bit w i ≡ is_one w.bits (15 - i)
unfolding sent_bit
sent_low w i h = let a : nat_lt i 16 ≡ true = lt-ltb i 16 h in rw a refl

-- and the last one is the parity bit
pub sent_last : (w : Word) → sent_bit w 16 ≡ (count_ones w.bits % 2 == 0)
unfolding sent_bit
sent_last w = refl

-- each pair of a spelling spells the bit that is sent
spelling_bit : (w : Word) (i : ℕ) → i < 17 → SpellsBit (spelling w) (6 + 2 * i) (sent_bit w i)
spelling_bit w i h = record {
  first = spelling_at w (6 + 2 * i) (omega arith) ∙ spelled_first w i;
  second = spelling_at w (suc (6 + 2 * i)) (omega arith) ∙ spelled_second w i;
}

-- with its parity bit a number of ones is odd, and it is odd with no other bit
pub odd_with : (n : ℕ) → (n + (if n % 2 == 0 then 1 else 0)) % 2 ≡ 1
odd_with n = elim (cases_eq (n % 2) 0) [
  | inl e ↦ (let a : (n % 2 == 0) ≡ true = eq-eqb (n % 2) 0 e in rw a (omega arith))
  | inr e ↦ (let a : (n % 2 == 0) ≡ false = ne_eqb (n % 2) 0 e in rw a (omega arith))
]

-- the parity bit by the number of ones
even_with : (n : ℕ) (b : Bool) → (n + (if b then 1 else 0)) % 2 ≡ 1 → b ≡ (n % 2 == 0)
even_with n true h = sym (eq-eqb (n % 2) 0 (omega arith))
even_with n false h = sym (ne_eqb (n % 2) 0 (λ e. omega arith))

-- a word's spelling spells it
pub spelling_spells : (w : Word) → w.bits < 65536 → Spells w (spelling w)
spelling_spells w h = record {
  in_range = h;
  forty = length-spelling w;
  sync = λ p q. spelling_at w p (omega arith) ∙ spelled_sync w p q;
  bits = λ i q. rw (← sent_low w i q) (spelling_bit w i (omega arith));
  further = count_ones w.bits % 2 == 0;
  parity = rw (← sent_last w) (spelling_bit w 16 (omega arith));
  odd = odd_with (count_ones w.bits);
}

-- each of the seventeen bits of a spelling
pub spells_bit : (w : Word) (s : List Sample) → Spells w s → (i : ℕ) → i < 17 → SpellsBit s (6 + 2 * i) (sent_bit w i)
spells_bit w s h i q = elim (cases_lt i 16) [
  | inl low ↦ rw (sent_low w i low) (h.bits i low)
  | inr high ↦ (
      let e : i ≡ 16 = omega arith in
      rw (e, sent_last w, ← even_with (count_ones w.bits) h.further h.odd) h.parity)
]

-- samples that spell a word are its spelling at each position, and so as a whole
pub spells_at : (w : Word) (s : List Sample) → Spells w s → (p : ℕ) → p < 40 → get_or s p Quiet ≡ spelled w p
spells_at w s h p q = elim (cases_lt p 6) [
  | inl low ↦ h.sync p low ∙ sym (spelled_sync w p low)
  | inr high ↦ (
      let i : ℕ = (p - 6) / 2 in
      let bit = spells_bit w s h ((p - 6) / 2) (omega arith) in
      elim (cases_eq (p % 2) 0) [
        | inl e ↦ (let at : p ≡ 6 + 2 * ((p - 6) / 2) = omega arith in
            subst (λ x. get_or s x Quiet ≡ spelled w x) (sym at) (bit.first ∙ sym (spelled_first w ((p - 6) / 2))))
        | inr e ↦ (let at : p ≡ suc (6 + 2 * ((p - 6) / 2)) = omega arith in
            subst (λ x. get_or s x Quiet ≡ spelled w x) (sym at) (bit.second ∙ sym (spelled_second w ((p - 6) / 2))))
      ])
]

-- what spells a word is its spelling
pub spells_only : (w : Word) (s : List Sample) → Spells w s → s ≡ spelling w
spells_only w s h = ext_get_or Quiet s (spelling w) (h.forty ∙ sym (length-spelling w))
    (λ p q. spells_at w s h p (omega (arith, h.forty)) ∙ sym (spelling_at w p (omega (arith, h.forty))))

-- neither half of a bit is quiet
first_heard : (b : Bool) → first_half b ≡ Quiet → ⊥
first_heard true h = cc
first_heard false h = cc

-- nor is the second half
second_heard : (b : Bool) → second_half b ≡ Quiet → ⊥
second_heard true h = cc
second_heard false h = cc

-- no sample of a spelling is quiet
pub spelled_heard : (w : Word) (p : ℕ) → spelled w p ≡ Quiet → ⊥
unfolding spelled
spelled_heard w p =
    let P : Sample → Type 0 = λ x. x ≡ Quiet → ⊥ in
    cond_both (nat_lt p 6) _ _ P
    (λ _. cond_both (nat_lt p 3) _ _ P (λ _. first_heard (leads_plus w.sync)) (λ _. second_heard (leads_plus w.sync)))
    (λ _. cond_both (p % 2 == 0) _ _ P (λ _. first_heard (sent_bit w ((p - 6) / 2))) (λ _. second_heard (sent_bit w ((p - 6) / 2))))
