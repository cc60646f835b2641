-- The list of valid words has the words that whole slots of bursts spell, in the order of their last ticks. For every lag below a slot.
use Rattle.std.proofs.Common.{◌≡◌, ℕ, ◌+◌, ◌-◌, ◌<◌, ◌≤◌, List, [], ◌∷◌, ◌++◌, length, get_or, Some, None, Option, refl, sym, ap, subst, arith, inl, inr, Contains, AllPairs, take, drop}
use Rattle.std.proofs.lemmas.List.{take-append-drop, append_assoc, append-nil, length-drop}
use Rattle.std.proofs.lemmas.List.Quantifiers.{all_pairs_push}
use Rattle.std.proofs.lemmas.List.Elements.{Contains-append_left, Contains-append_right, Contains-append_cases, Contains-get_or}
use Rattle.bus_base.specs.Samples.{sample_on}
use Rattle.bus_base.specs.declared.samples.Channel.{Channel}
use Rattle.bus_base.specs.declared.samples.Channel.TheVariants.{A, B}
use Rattle.bus_base.specs.declared.samples.Pair.{Pair}
use Rattle.bus_words.specs.declared.word.Word.{Word}
use Rattle.bus_line.specs.Past.{Slot, slot_now}
use Rattle.bus_line.specs.Channels.{ValidWord, on_channel, valid, valid_now, valid_of, valid_word}
use Rattle.bus_line.specs.Bursts.{IsValid, Precedes, ValidAgree}
use Rattle.bus_line.proofs.SlotLaws.{samples-more}
use Rattle.bus_line.proofs.ChannelLaws.{length-on, on-append}
use Rattle.bus_line.proofs.SlotWords.{IsWordNow, slot-more, slot-inside, now-word, word-now, word-cut}

-- a valid word that is made of a slot's word
word-in : (c : Channel) (p : ℕ) (word : Option Word) (v : ValidWord) → Contains (valid_word c p word) v → (word ≡ Some v.word) × (v.first ≡ p) × (v.channel ≡ c)
word-in c p None v has = absurd (omega (arith, has.1))
word-in c p (Some word) v has =
    let at : has.0 ≡ 0 = omega (arith, has.1) in
    let same : get_or (valid_word c p (Some word)) 0 v ≡ v = (let h = has.2 in rw at at h) in
    (ap (λ (u : ValidWord). Some u.word) same, sym (ap (λ (u : ValidWord). u.first) same), sym (ap (λ (u : ValidWord). u.channel) same))

-- a valid word of the newest tick is that of the slot that ended in it
now-in : (c : Channel) (o : Option Slot) (v : ValidWord) → Contains (valid_of c o) v → (slot : Slot) × (o ≡ Some slot) × (slot.word ≡ Some v.word) × (v.first ≡ slot.first) × (v.channel ≡ c)
now-in c None v has = absurd (omega (arith, has.1))
now-in c (Some slot) v has = let at = word-in c slot.first slot.word v has in (slot, refl, at.0, at.1, at.2)

-- by tick numbers
now-valid : (k : ℕ) (c : Channel) (shown : Pair) (past : List Pair) (v : ValidWord) → k ≤ 39 → Contains (valid_now k c (shown ∷ past)) v →
    IsWordNow k (on_channel c (shown ∷ past)) v.first v.word × (v.channel ≡ c)
now-valid k c shown past v small has =
    let at = now-in c (slot_now k (on_channel c (shown ∷ past))) v has in
    let word = now-word k (sample_on shown c) (on_channel c past) at.0 v.word small at.1 at.2 in
    (rw at.3 word, at.4)

-- so it is valid
from-now : (k : ℕ) (c : Channel) (past : List Pair) (v : ValidWord) → v.channel ≡ c → IsWordNow k (on_channel c past) v.first v.word → IsValid k past v
from-now k c past v on w = record { slot = rw on w.slot; spelled = rw on w.spelled }

-- and stays valid with a tick more
valid-more : (k : ℕ) (shown : Pair) (past : List Pair) (v : ValidWord) → IsValid k past v → IsValid k (shown ∷ past) v
valid-more k shown past v is =
    let same = samples-more (sample_on shown v.channel) (on_channel v.channel past) v.first 40 (slot-inside k (on_channel v.channel past) v.first is.slot) in
    record { slot = slot-more k (sample_on shown v.channel) (on_channel v.channel past) v.first is.slot; spelled = rw same is.spelled }

-- each word in the list is valid
pub valid-found : (k : ℕ) (past : List Pair) (v : ValidWord) → k ≤ 39 → Contains (valid k past) v → IsValid k past v
unfolding valid
valid-found k [] v small has = absurd (omega (arith, has.1))
valid-found k (shown ∷ past) v small has =
    elim (Contains-append_cases (valid k past) (valid_now k A (shown ∷ past) ++ valid_now k B (shown ∷ past)) v has) [
      | inl old ↦ valid-more k shown past v (valid-found k past v small old)
      | inr new ↦ elim (Contains-append_cases (valid_now k A (shown ∷ past)) (valid_now k B (shown ∷ past)) v new) [
        | inl a ↦ (let is = now-valid k A shown past v small a in from-now k A (shown ∷ past) v is.1 is.0)
        | inr b ↦ (let is = now-valid k B shown past v small b in from-now k B (shown ∷ past) v is.1 is.0)
      ]
    ]

-- ---- each valid word is in the list

-- a slot's word makes one valid word
in-word : (c : Channel) (p : ℕ) (word : Word) (v : ValidWord) → v.word ≡ word → v.first ≡ p → v.channel ≡ c → Contains (valid_word c p (Some word)) v
in-word c p word v a b d = (0, omega arith, rw (sym a, sym b, sym d) refl)

-- what was in the list stays there
pub valid-later : (k : ℕ) (later past : List Pair) (v : ValidWord) → Contains (valid k past) v → Contains (valid k (later ++ past)) v
unfolding valid
valid-later k [] past v has = has
valid-later k (shown ∷ later) past v has =
    Contains-append_left (valid k (later ++ past))
    (valid_now k A (shown ∷ (later ++ past)) ++ valid_now k B (shown ∷ (later ++ past))) v (valid-later k later past v has)

-- a valid word of the newest tick is in the list, on either channel
in-channel : (k : ℕ) (shown : Pair) (past : List Pair) (v : ValidWord) (c : Channel) → v.channel ≡ c → Contains (valid_now k c (shown ∷ past)) v →
    Contains (valid k (shown ∷ past)) v
unfolding valid
in-channel k shown past v A on has = Contains-append_right (valid k past) (valid_now k A (shown ∷ past) ++ valid_now k B (shown ∷ past)) v
    (Contains-append_left (valid_now k A (shown ∷ past)) (valid_now k B (shown ∷ past)) v has)
in-channel k shown past v B on has = Contains-append_right (valid k past) (valid_now k A (shown ∷ past) ++ valid_now k B (shown ∷ past)) v
    (Contains-append_right (valid_now k A (shown ∷ past)) (valid_now k B (shown ∷ past)) v has)

-- so is the word of a slot that ended in it
in-now : (k : ℕ) (past : List Pair) (v : ValidWord) → k ≤ 39 → IsWordNow k (on_channel v.channel past) v.first v.word → Contains (valid k past) v
in-now k [] v small w = absurd (omega (arith, w.now))
in-now k (shown ∷ past) v small w =
    let found = word-now k (on_channel v.channel (shown ∷ past)) v.first v.word small w in
    in-channel k shown past v v.channel refl (rw found (in-word v.channel v.first v.word v refl refl refl))

-- and the word of a slot that ended in an earlier part of the past
in-parts : (k : ℕ) (later past : List Pair) (v : ValidWord) → k ≤ 39 → IsValid k (later ++ past) v → v.first + 40 ≡ length past → Contains (valid k (later ++ past)) v
in-parts k later past v small is here =
    let parts : on_channel v.channel (later ++ past) ≡ on_channel v.channel later ++ on_channel v.channel past = on-append v.channel later past in
    let slot = is.slot in
    let spelled = is.spelled in
    let long : length (on_channel v.channel past) ≡ length past = length-on v.channel past in
    let word = word-cut k (on_channel v.channel later) (on_channel v.channel past) v.first v.word (rw parts at slot) (rw parts at spelled) (omega (arith, here, long)) in
    valid-later k later past v (in-now k past v small word)

-- so each valid word is in the list
pub valid-all : (k : ℕ) (past : List Pair) (v : ValidWord) → k ≤ 39 → IsValid k past v → Contains (valid k past) v
valid-all k past v small is =
    let inside : v.first + 40 ≤ length (on_channel v.channel past) = slot-inside k (on_channel v.channel past) v.first is.slot in
    let long : length (on_channel v.channel past) ≡ length past = length-on v.channel past in
    let n : ℕ = length past - (v.first + 40) in
    let whole : take (length past - (v.first + 40)) past ++ drop (length past - (v.first + 40)) past ≡ past = take-append-drop (length past - (v.first + 40)) past in
    let rest : length (drop (length past - (v.first + 40)) past) ≡ length past - (length past - (v.first + 40)) = length-drop (length past - (v.first + 40)) past in
    subst (λ xs. Contains (valid k xs) v) whole
    (in-parts k (take (length past - (v.first + 40)) past) (drop (length past - (v.first + 40)) past) v small
    (subst (λ xs. IsValid k xs v) (sym whole) is) (omega (arith, rest, inside, long)))

-- ---- their order

-- a word more at the end of an ordered list
pairs-word : (c : Channel) (p : ℕ) (word : Option Word) (vs : List ValidWord) → AllPairs Precedes vs →
    ((v w : ValidWord) → Contains vs v → Contains (valid_word c p word) w → Precedes v w) → AllPairs Precedes (vs ++ valid_word c p word)
pairs-word c p None vs old new = rw (append-nil vs) old
pairs-word c p (Some word) vs old new = all_pairs_push Precedes vs record { first = p; channel = c; word = word } old
    (λ i d within. new (get_or vs i d) record { first = p; channel = c; word = word } (Contains-get_or vs i d within) (0, omega arith, refl))

-- one more at the end, where there is one
pairs-more : (c : Channel) (o : Option Slot) (vs : List ValidWord) → AllPairs Precedes vs →
    ((v w : ValidWord) → Contains vs v → Contains (valid_of c o) w → Precedes v w) → AllPairs Precedes (vs ++ valid_of c o)
pairs-more c None vs old new = rw (append-nil vs) old
pairs-more c (Some slot) vs old new = pairs-word c slot.first slot.word vs old new

-- what was valid ended before the newest tick
old-first : (k : ℕ) (c : Channel) (shown : Pair) (past : List Pair) (v w : ValidWord) → k ≤ 39 → Contains (valid k past) v →
    Contains (valid_now k c (shown ∷ past)) w → v.first < w.first
old-first k c shown past v w small has now =
    let is = valid-found k past v small has in
    let inside : v.first + 40 ≤ length (on_channel v.channel past) = slot-inside k (on_channel v.channel past) v.first is.slot in
    let old : length (on_channel v.channel past) ≡ length past = length-on v.channel past in
    let new = now-valid k c shown past w small now in
    let long : length (on_channel c past) ≡ length past = length-on c past in
    omega (arith, inside, old, new.0.now, long)

-- words of one tick end together, on A and on B
both-now : (k : ℕ) (shown : Pair) (past : List Pair) (v w : ValidWord) → k ≤ 39 → Contains (valid_now k A (shown ∷ past)) v →
    Contains (valid_now k B (shown ∷ past)) w → (v.first ≡ w.first) × (v.channel ≡ A) × (w.channel ≡ B)
both-now k shown past v w small a b =
    let on_a = now-valid k A shown past v small a in
    let on_b = now-valid k B shown past w small b in
    let long_a : length (on_channel A past) ≡ length past = length-on A past in
    let long_b : length (on_channel B past) ≡ length past = length-on B past in
    (omega (arith, on_a.0.now, on_b.0.now, long_a, long_b), on_a.1, on_b.1)

-- so the list is in order
pub valid-order : (k : ℕ) (past : List Pair) → k ≤ 39 → AllPairs Precedes (valid k past)
unfolding valid
valid-order k [] small = λ i j d a b. absurd (omega (arith, b))
valid-order k (shown ∷ past) small =
    let old : AllPairs Precedes (valid k past) = valid-order k past small in
    let a_now = pairs-more A (slot_now k (on_channel A (shown ∷ past))) (valid k past) old (λ v w has now. inl (old-first k A shown past v w small has now)) in
    let b_now = pairs-more B (slot_now k (on_channel B (shown ∷ past))) (valid k past ++ valid_now k A (shown ∷ past)) a_now
    (λ v w has now. elim (Contains-append_cases (valid k past) (valid_now k A (shown ∷ past)) v has) [
      | inl before ↦ inl (old-first k B shown past v w small before now)
      | inr beside ↦ inr (both-now k shown past v w small beside now)
    ]) in
    subst (λ vs. AllPairs Precedes vs) (append_assoc (valid k past) (valid_now k A (shown ∷ past)) (valid_now k B (shown ∷ past))) b_now

-- the list is the reader's
pub valid-agree : (k : ℕ) (past : List Pair) → k ≤ 39 → ValidAgree k past
valid-agree k past small = record {
  found = λ v has. valid-found k past v small has;
  all = λ v is. valid-all k past v small is;
  order = valid-order k past small;
}
