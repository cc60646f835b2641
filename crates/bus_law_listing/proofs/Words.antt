-- The valid words that are found, against those of the table's bursts.
use Rattle.std.proofs.Common.{◌≡◌, inl, inr, ℕ, zero, suc, ◌+◌, ◌*◌, ◌/◌, ◌<◌, ◌≤◌, false, List, [], ◌∷◌, map, length, Option, Some, None, refl, sym, ap, ◌∙◌, subst, arith}
use Rattle.std.proofs.lemmas.Bool.{true≢false, cases_lt}
use Rattle.std.proofs.lemmas.Option.{slice_get-get_or, slice_get_within, none-some}
use Rattle.std.proofs.lemmas.List.FromFn.{get_or-map-range_with_len, length-map-range_with_len}
use Rattle.std.specs.Prelude.{slice_get, flat_map}
use Rattle.std.specs.List.{range_with_len}
use Rattle.bus_base.specs.declared.samples.Channel.{Channel}
use Rattle.bus_base.specs.declared.samples.Channel.TheVariants.{A, B}
use Rattle.bus_base.specs.declared.samples.Pair.{Pair}
use Rattle.bus_base.specs.declared.samples.Sample.{Sample}
use Rattle.bus_words.specs.declared.word.Word.{Word}
use Rattle.bus_formats.specs.declared.log.Heard.{Heard}
use Rattle.bus_line.specs.Past.{Burst, runs, slot_word, samples_from, burst_from, end_of}
use Rattle.bus_line.specs.Channels.{ValidWord, WholeBurst, on_channel, valid, bursts}
use Rattle.bus_line.specs.Spelling.{Spells}
use Rattle.bus_line.specs.Bursts.{IsBurst, IsValid, IsEnded, EndsBefore, Precedes}
use Rattle.bus_line.proofs.BurstLaws.{burst-runs}
use Rattle.bus_line.proofs.LongestLaws.{burst-alone}
use Rattle.bus_line.proofs.ChannelLaws.{length-on}
use Rattle.bus_line.proofs.EndedLaws.{bursts-found, bursts-all}
use Rattle.bus_line.proofs.Guessed.{word_in-some, word_in-spells}
use Rattle.bus_line.proofs.SlotLaws.{burst-first, burst-ticks}
use Rattle.bus_line.proofs.ValidLaws.{valid-found, valid-all, valid-order}
use Rattle.bus_model.specs.Log.{words_from, words_of, words_in_order}
use Rattle.bus_model.specs.Strikes.{ShownBurst, burst_ticks}
use Rattle.bus_model.specs.WorldLog.{heard_word}
use Rattle.bus_law_listing.specs.Listing.{burst_found, found_in_order}
use Rattle.bus_law_listing.proofs.Members.{Has, Each, Pairs, each-has, has-each, each-more, has-flat, has-map, map-has, map-each, contains-has, has-contains, pairs-all, pairs-more, pairs-map, map-pairs, pairs-flat, each-flat, each-map}
use Rattle.bus_law_listing.proofs.Ordered.{Strictly, Apart, same-lists, not-both, strictly-order, each-order, order-each, order-pairs}
use Rattle.bus_law_listing.proofs.Found.{end_in, channel_in, strict-bursts}

-- the first tick of a word, and its channel: by them words are in order
abbrev tick_in : Heard → ℕ
tick_in word = word.tick.0

-- its channel
abbrev heard_in : Heard → Channel
heard_in word = word.channel

-- equal options have equal values
some-same : {X : Type 0} (x y : X) → Some x ≡ Some y → x ≡ y
some-same x y e = cc

-- ---- the words of one burst

-- word i of slots that begin in tick t on channel c
record IsWord (c : Channel) (t : ℕ) (slots : List (Option Word)) (h : Heard) : Type 0 where
  pub channel : h.channel ≡ c
  pub number : ℕ
  pub tick : h.tick.0 ≡ t + 40 * number
  pub word : slice_get slots number ≡ Some (Some h.word)

-- each word has its number
from-word : (c : Channel) (t : ℕ) (slots : List (Option Word)) (h : Heard) → Has (words_from c t slots) h → IsWord c t slots h
from-word c t [] h has = absurd has
from-word c t (None ∷ slots) h has =
    let w = from-word c (t + 40) slots h has in
    record { channel = w.channel; number = suc w.number; tick = omega (arith, w.tick); word = w.word }
from-word c t (Some word ∷ slots) h (inl same) =
    let at : h.tick.0 ≡ t = sym (ap tick_in same) in
    record { channel = sym (ap heard_in same); number = 0; tick = omega (arith, at); word = ap (λ (u : Heard). Some (Some u.word)) same }
from-word c t (Some word ∷ slots) h (inr has) =
    let w = from-word c (t + 40) slots h has in
    record { channel = w.channel; number = suc w.number; tick = omega (arith, w.tick); word = w.word }

in-word : (c : Channel) (t : ℕ) (slots : List (Option Word)) (h : Heard) (number : ℕ) → h.channel ≡ c → h.tick.0 ≡ t + 40 * number →
    slice_get slots number ≡ Some (Some h.word) → Has (words_from c t slots) h
in-word c t [] h number on at word = absurd (none-some (Some h.word) word)
in-word c t (None ∷ slots) h zero on at word = absurd (none-some h.word (some-same None (Some h.word) word))
in-word c t (None ∷ slots) h (suc number) on at word = in-word c (t + 40) slots h number on (omega (arith, at)) word
in-word c t (Some first ∷ slots) h zero on at word =
    let tick : t ≡ h.tick.0 = omega (arith, at) in
    let same : first ≡ h.word = some-same first h.word (some-same (Some first) (Some h.word) word) in
    inl (rw (tick, same, sym on) refl)
in-word c t (Some first ∷ slots) h (suc number) on at word = inr (in-word c (t + 40) slots h number on (omega (arith, at)) word)

-- none begins before the first slot
words-from : (c : Channel) (t u : ℕ) (slots : List (Option Word)) → u ≤ t → Each (λ h. u ≤ h.tick.0) (words_from c t slots)
words-from c t u [] late = tt
words-from c t u (None ∷ slots) late = words-from c (t + 40) u slots (omega (arith, late))
words-from c t u (Some word ∷ slots) late = (late, words-from c (t + 40) u slots (omega (arith, late)))

-- each begins in a tick of its own
words-apart : (c : Channel) (t : ℕ) (slots : List (Option Word)) → Pairs (Apart tick_in heard_in) (words_from c t slots)
words-apart c t [] = tt
words-apart c t (None ∷ slots) = words-apart c (t + 40) slots
words-apart c t (Some word ∷ slots) = (
  each-more (λ h. suc t ≤ h.tick.0) (Apart tick_in heard_in record { tick = record { 0 = t }; channel = c; word = word }) (words_from c (t + 40) slots)
      (λ h late on at. omega (arith, late, at)) (words-from c (t + 40) (suc t) slots (omega arith)),
  words-apart c (t + 40) slots,
)

-- ---- the slots of a burst that ended

-- they are those of its samples
slots-of : (k : ℕ) (past : List Pair) (w : WholeBurst) → IsEnded k past w →
    w.burst.slots ≡ map (slot_word (on_channel w.channel past) w.burst.first) (range_with_len 0 (w.burst.ticks / 40))
unfolding burst_from
slots-of k past w is = ap (λ (b : Burst). b.slots) is.slots

-- slot i
slot-at : (k : ℕ) (past : List Pair) (w : WholeBurst) (i : ℕ) → IsEnded k past w → i < w.burst.ticks / 40 →
    slice_get w.burst.slots i ≡ Some (slot_word (on_channel w.channel past) w.burst.first i)
slot-at k past w i is within =
    let f = slot_word (on_channel w.channel past) w.burst.first in
    let long : length (map f (range_with_len 0 (w.burst.ticks / 40))) ≡ w.burst.ticks / 40 = length-map-range_with_len f 0 (w.burst.ticks / 40) in
    ap (λ slots. slice_get slots i) (slots-of k past w is)
    ∙ slice_get-get_or (map f (range_with_len 0 (w.burst.ticks / 40))) i None (omega (arith, within, long))
    ∙ ap Some (get_or-map-range_with_len f 0 (w.burst.ticks / 40) i i None within (omega arith))

-- a slot that it has is whole
slot-within : (k : ℕ) (past : List Pair) (w : WholeBurst) (i : ℕ) (o : Option Word) → IsEnded k past w → slice_get w.burst.slots i ≡ Some o →
    i < w.burst.ticks / 40
slot-within k past w i o is at =
    let f = slot_word (on_channel w.channel past) w.burst.first in
    let long : length (map f (range_with_len 0 (w.burst.ticks / 40))) ≡ w.burst.ticks / 40 = length-map-range_with_len f 0 (w.burst.ticks / 40) in
    let inside : i < length (map f (range_with_len 0 (w.burst.ticks / 40))) =
    slice_get_within (map f (range_with_len 0 (w.burst.ticks / 40))) i o (ap (λ slots. slice_get slots i) (sym (slots-of k past w is)) ∙ at) in
    omega (arith, inside, long)

-- ---- a word of a burst is valid

-- the word of a slot is spelled there
spelled-there : (past : List Sample) (p i q : ℕ) (word : Word) → q ≡ p + 40 * i → slot_word past p i ≡ Some word → Spells word (samples_from past q 40)
unfolding slot_word
spelled-there past p i q word place at = rw place (word_in-some (samples_from past (p + 40 * i) 40) word at)

-- so it is valid
word-valid : (k : ℕ) (past : List Pair) (w : WholeBurst) (h : Heard) (c : Channel) → w.channel ≡ c → IsEnded k past w → IsWord c w.burst.first w.burst.slots h →
    IsValid k past record { first = h.tick.0; channel = h.channel; word = h.word }
word-valid k past w h c on is word =
    let same : w.channel ≡ h.channel = on ∙ sym word.channel in
    let within = slot-within k past w word.number (Some h.word) is word.word in
    let there : slot_word (on_channel w.channel past) w.burst.first word.number ≡ Some h.word =
    some-same (slot_word (on_channel w.channel past) w.burst.first word.number) (Some h.word)
    (sym (slot-at k past w word.number is within) ∙ word.word) in
    record {
      slot = record {
        first = w.burst.first;
        ticks = w.burst.ticks;
        number = word.number;
        burst = subst (λ x. IsBurst k (on_channel x past) w.burst.first w.burst.ticks) same is.burst;
        place = word.tick;
        whole = omega (arith, within);
      };
      spelled = subst (λ x. Spells h.word (samples_from (on_channel x past) h.tick.0 40)) same
          (spelled-there (on_channel w.channel past) w.burst.first word.number h.tick.0 h.word word.tick there);
    }

-- ---- a valid word is one of a burst

-- where no burst runs each burst has ended
whole-ended : (k : ℕ) (past : List Pair) (c : Channel) (p n : ℕ) → runs k (on_channel c past) ≡ false → IsBurst k (on_channel c past) p n →
    IsEnded k past record { channel = c; burst = burst_from (on_channel c past) p n }
unfolding burst_from
whole-ended k past c p n rests burst =
    let long : length (on_channel c past) ≡ length past = length-on c past in
    let first : (burst_from (on_channel c past) p n).first ≡ p = burst-first (on_channel c past) p n in
    let ticks : (burst_from (on_channel c past) p n).ticks ≡ n = burst-ticks (on_channel c past) p n in
    let over : p + n + suc k ≤ length past = elim (cases_lt (p + n + k) (length past)) [
      | inl late ↦ omega (arith, late)
      | inr early ↦ absurd (true≢false (sym (burst-runs k (on_channel c past) p n burst (omega (arith, early, long))) ∙ rests))
    ] in
    record {
      burst = rw (first, ticks) burst;
      known = omega (arith, first, ticks, over);
      slots = rw (first, ticks) refl;
    }

-- what is spelled in a slot is its word
there-spelled : (past : List Sample) (p i q : ℕ) (word : Word) → q ≡ p + 40 * i → Spells word (samples_from past q 40) → slot_word past p i ≡ Some word
unfolding slot_word
there-spelled past p i q word place spelled = word_in-spells (samples_from past (p + 40 * i) 40) word (rw place at spelled)

-- so a valid word is one of a burst that ended
valid-word : (k : ℕ) (past : List Pair) (v : ValidWord) → runs k (on_channel v.channel past) ≡ false → IsValid k past v →
    (w : WholeBurst) × IsEnded k past w × IsWord w.channel w.burst.first w.burst.slots (heard_word v)
valid-word k past v rests is =
    let p = is.slot.first in
    let n = is.slot.ticks in
    let w : WholeBurst = record { channel = v.channel; burst = burst_from (on_channel v.channel past) p n } in
    let ended : IsEnded k past w = whole-ended k past v.channel p n rests is.slot.burst in
    let first : (burst_from (on_channel v.channel past) p n).first ≡ p = burst-first (on_channel v.channel past) p n in
    let ticks : (burst_from (on_channel v.channel past) p n).ticks ≡ n = burst-ticks (on_channel v.channel past) p n in
    let whole = is.slot.whole in
    let place = is.slot.place in (
      w,
      ended,
      record {
        channel = refl;
        number = is.slot.number;
        tick = omega (arith, place, first);
        word = slot-at k past w is.slot.number ended (omega (arith, whole, ticks))
            ∙ ap Some (there-spelled (on_channel v.channel past) w.burst.first is.slot.number v.first v.word (omega (arith, place, first)) is.spelled);
      },
    )

-- ---- the two lists

-- not one end on one channel
abbrev OtherEnd : WholeBurst → WholeBurst → Type 0
OtherEnd v w = v.channel ≡ w.channel → end_of v.burst ≡ end_of w.burst → ⊥

-- bursts in strict order have different ends on one channel
other-end : (v w : WholeBurst) → EndsBefore v w → OtherEnd v w
other-end v w (inl less) on at = omega (arith, less, at)
other-end v w (inr both) on at = (let bad : A ≡ B = sym both.1 ∙ on ∙ both.2 in absurd (cc))

module _ (k : ℕ) (past : List Pair) (bs : List ShownBurst) (found : bursts k past ≡ found_in_order (map burst_found bs)) where
  -- the bursts of the table have ended
  all-ended : Each (λ b. IsEnded k past (burst_found b)) bs
  all-ended =
      map-each (IsEnded k past) burst_found bs (order-each end_in channel_in (IsEnded k past) (map burst_found bs)
      (subst (Each (IsEnded k past)) found
      (has-each (IsEnded k past) (bursts k past) (λ w has. bursts-found k past w (has-contains (bursts k past) w has)))))

  -- with different ends on one channel
  all-other : Pairs (λ b d. OtherEnd (burst_found b) (burst_found d)) bs
  all-other =
      map-pairs OtherEnd burst_found bs (order-pairs end_in channel_in OtherEnd (map burst_found bs) (λ v w other on at. other (sym on) (sym at))
      (subst (Pairs OtherEnd) found
      (pairs-more (λ w. Unit {0}) EndsBefore OtherEnd (bursts k past) (λ v w p q before. other-end v w before)
      (has-each (λ w. Unit {0}) (bursts k past) (λ w has. tt)) (strict-bursts k past))))

  -- words of two bursts don't begin in one tick of one channel
  bursts-apart : (b d : ShownBurst) → IsEnded k past (burst_found b) → IsEnded k past (burst_found d) → OtherEnd (burst_found b) (burst_found d) →
      Each (λ a. Each (Apart tick_in heard_in a) (words_of d)) (words_of b)
  bursts-apart b d eb ed other =
      has-each (λ a. Each (Apart tick_in heard_in a) (words_of d)) (words_of b) (λ a in_b. has-each (Apart tick_in heard_in a) (words_of d) (λ h in_d on at.
      let wa = from-word b.channel b.start b.slots a in_b in
      let wh = from-word d.channel d.start d.slots h in_d in
      let same : b.channel ≡ d.channel = sym wa.channel ∙ on ∙ wh.channel in
      let ia = slot-within k past (burst_found b) wa.number (Some a.word) eb wa.word in
      let ih = slot-within k past (burst_found d) wh.number (Some h.word) ed wh.word in
      let first = subst (λ x. IsBurst k (on_channel x past) b.start (burst_ticks b)) same eb.burst in
      let ta = wa.tick in let th = wh.tick in
      let alone = burst-alone k (on_channel d.channel past) b.start (burst_ticks b) d.start (burst_ticks d) a.tick.0 first ed.burst
      (omega (arith, ta)) (omega (arith, ta, ia)) (omega (arith, th, at)) (omega (arith, th, at, ih)) in
      let starts = alone.0 in let ticks = alone.1 in
      other same (omega (arith, starts, ticks))))

  -- so no two words of the table begin in one tick of one channel
  words-apart-all : Pairs (Apart tick_in heard_in) (flat_map words_of bs)
  words-apart-all =
      pairs-flat (Apart tick_in heard_in) words_of bs
      (has-each (λ b. Pairs (Apart tick_in heard_in) (words_of b)) bs (λ b has. words-apart b.channel b.start b.slots))
      (pairs-more (λ b. IsEnded k past (burst_found b)) (λ b d. OtherEnd (burst_found b) (burst_found d))
      (λ b d. Each (λ a. Each (Apart tick_in heard_in a) (words_of d)) (words_of b)) bs bursts-apart all-ended all-other)

  -- each word of the table is valid
  table-valid : k ≤ 39 → Each (Has (map heard_word (valid k past))) (flat_map words_of bs)
  table-valid small =
      each-flat (Has (map heard_word (valid k past))) words_of bs
      (each-more (λ b. IsEnded k past (burst_found b)) (λ b. Each (Has (map heard_word (valid k past))) (words_of b)) bs
      (λ b ended. has-each (Has (map heard_word (valid k past))) (words_of b) (λ h has.
      let v : ValidWord = record { first = h.tick.0; channel = h.channel; word = h.word } in
      let is = word-valid k past (burst_found b) h b.channel refl ended (from-word b.channel b.start b.slots h has) in
      has-map heard_word (valid k past) v (contains-has (valid k past) v (valid-all k past v small is)))) all-ended)

  -- each valid word is one of the table
  valid-table : k ≤ 39 → ((c : Channel) → runs k (on_channel c past) ≡ false) → Each (Has (flat_map words_of bs)) (map heard_word (valid k past))
  valid-table small rests =
      each-map (Has (flat_map words_of bs)) heard_word (valid k past)
      (has-each (λ v. Has (flat_map words_of bs) (heard_word v)) (valid k past) (λ v has.
      let is = valid-found k past v small (has-contains (valid k past) v has) in
      let at = valid-word k past v (rests v.channel) is in
      let in_found : Has (found_in_order (map burst_found bs)) at.0 =
      subst (λ ws. Has ws at.0) found (contains-has (bursts k past) at.0 (bursts-all k past at.0 at.1)) in
      let in_map = each-has (Has (map burst_found bs)) (found_in_order (map burst_found bs)) at.0
      (each-order end_in channel_in (Has (map burst_found bs)) (map burst_found bs) (has-each (Has (map burst_found bs)) (map burst_found bs) (λ w own. own)))
      in_found in
      let b = map-has burst_found bs at.0 in_map in
      let word : IsWord b.0.channel b.0.start b.0.slots (heard_word v) =
      subst (λ (w : WholeBurst). IsWord w.channel w.burst.first w.burst.slots (heard_word v)) (sym b.2) at.2 in
      has-flat words_of bs b.0 (heard_word v) b.1
      (in-word b.0.channel b.0.start b.0.slots (heard_word v) word.number word.channel word.tick word.word)))

  -- so the list of words is that of the table
  pub listed-words : k ≤ 39 → ((c : Channel) → runs k (on_channel c past) ≡ false) → map heard_word (valid k past) ≡ words_in_order (flat_map words_of bs)
  listed-words small rests =
      let words = flat_map words_of bs in
      same-lists (Strictly tick_in heard_in) (map heard_word (valid k past)) (words_in_order words) (not-both tick_in heard_in)
      (pairs-map (Strictly tick_in heard_in) heard_word (valid k past) (pairs-all Precedes (valid k past) (valid-order k past small)))
      (strictly-order tick_in heard_in words words-apart-all)
      (each-more (Has words) (Has (words_in_order words)) (map heard_word (valid k past))
      (λ h has. each-has (Has (words_in_order words)) words h
      (order-each tick_in heard_in (Has (words_in_order words)) words (has-each (Has (words_in_order words)) (words_in_order words) (λ x own. own))) has)
      (valid-table small rests))
      (each-order tick_in heard_in (Has (map heard_word (valid k past))) words (table-valid small))
