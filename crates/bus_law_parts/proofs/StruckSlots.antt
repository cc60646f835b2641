-- What stands in the slots of a part, and how many there are, whatever hits strike it.
use Rattle.std.proofs.Common.{◌≡◌, ◌⊎◌, inl, inr, ℕ, ◌+◌, ◌-◌, ◌<◌, ◌≤◌, Bool, true, false, List, [], ◌∷◌, ◌++◌, length, map, Option, Some, None, refl, sym, ap, ◌∙◌, arith}
use Rattle.std.proofs.lemmas.Bool.{cases_lt}
use Rattle.std.proofs.Math.Seq.{take-nil}
use Rattle.std.proofs.lemmas.List.{append-nil}
use Rattle.std.proofs.lemmas.Option.{same_Some, slice_get_within}
use Rattle.std.specs.Prelude.{if◌then◌else◌, slice_get}
use Rattle.std.specs.List.{list_any}
use Rattle.bus_base.specs.declared.samples.Part.{Part}
use Rattle.bus_base.specs.declared.samples.Part.TheVariants.{Command}
use Rattle.bus_words.specs.declared.word.Word.{Word}
use Rattle.bus_formats.specs.Forms.{data_word}
use Rattle.bus_formats.specs.declared.fault.Hit.{Hit}
use Rattle.bus_model.specs.Strikes.{spoils, spoiled, own_struck, struck}
use Rattle.bus_law_parts.specs.Parts.{HitsFit, IsStruckSlot, part_ticks}
use Rattle.bus_law_parts.proofs.Lengths.{own-slot, front-slot, added-slot, whole-or-short}

-- ---- lengths

pub few-slots : (part : Part) (hits : List Hit) (words : List Word) → HitsFit part hits words → length (struck hits words) ≤ 40
few-slots part hits words fits = elim (whole-or-short part hits words fits) [
  | inl whole ↦ (let ticks = whole.ticks in let few = fits.few in omega (arith, ticks, few))
  | inr short ↦ (let ticks = short.1.ticks in let early = short.1.before in let few = fits.few in omega (arith, ticks, early, few))
]

-- a cut leaves a command its first word
pub some-slots : (hits : List Hit) (words : List Word) → HitsFit Command hits words → 0 < part_ticks hits words
some-slots hits words fits = elim (whole-or-short Command hits words fits) [
  | inl whole ↦ (let ticks = whole.ticks in let some = fits.some in omega (arith, ticks, some))
  | inr short ↦ (let ticks = short.1.ticks in let least : 1 ≤ short.0 = short.1.least in omega (arith, ticks, least))
]

-- ---- slots

word-or-none : (b : Bool) (word : Word) (slot : Option Word) → (if b then None else Some word) ≡ slot → (slot ≡ None) ⊎ (slot ≡ Some word)
word-or-none true word slot e = inl (sym e)
word-or-none false word slot e = inr (sym e)

pub struck-slot : (part : Part) (hits : List Hit) (words : List Word) (i : ℕ) (slot : Option Word) → HitsFit part hits words →
    slice_get (struck hits words) i ≡ Some slot → IsStruckSlot words i slot
struck-slot part hits words i slot fits there = elim (cases_lt i (length (own_struck hits words))) [
  | inl low ↦ (
      let own = own-slot hits words i low in
      let same = same_Some (if list_any (spoils i) hits then None else Some own.word) slot (sym own.slot ∙ sym (front-slot hits words i low) ∙ there) in
      inl (own.word, own.there, word-or-none (list_any (spoils i) hits) own.word slot same))
  | inr past ↦ (
      let low : i < length (struck hits words) = slice_get_within (struck hits words) i slot there in
      let same = same_Some (Some (data_word 0)) slot (sym (added-slot hits words i past low) ∙ there) in
      elim (whole-or-short part hits words fits) [
        | inl whole ↦ (let long = whole.own in inr (omega (arith, past, long), sym same))
        | inr short ↦ (let long = short.1.own in let ticks = short.1.ticks in absurd (omega (arith, past, low, long, ticks)))
      ])
]

-- ---- a part that nothing strikes

spoiled-none : (n : ℕ) (words : List Word) → spoiled [] n words ≡ map (λ w. Some w) words
spoiled-none n [] = refl
spoiled-none n (word ∷ words) = ap (λ slots. Some word ∷ slots) (spoiled-none (n + 1) words)

pub unstruck-slots : (words : List Word) → struck [] words ≡ map (λ w. Some w) words
unstruck-slots words =
    ap (λ more. spoiled [] 0 words ++ more) (take-nil {A = Option Word} (40 - length (spoiled [] 0 words)))
    ∙ append-nil (spoiled [] 0 words)
    ∙ spoiled-none 0 words
