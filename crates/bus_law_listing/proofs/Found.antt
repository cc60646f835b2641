-- The bursts that are found, against those of the table, in the order of their ends.
use Rattle.std.proofs.Common.{◌≡◌, ℕ, ◌+◌, List, [], ◌∷◌, ◌++◌, map, length, Option, Some, None, refl, sym, ap, ◌∙◌, subst, arith}
use Rattle.std.proofs.lemmas.List.Sums.{sum_by-cons}
use Rattle.std.specs.Prelude.{is_some, count_by, if◌then◌else◌}
use Rattle.bus_base.specs.declared.samples.Channel.{Channel}
use Rattle.bus_base.specs.declared.samples.Pair.{Pair}
use Rattle.bus_words.specs.declared.word.Word.{Word}
use Rattle.bus_formats.specs.declared.log.HeardBurst.{HeardBurst}
use Rattle.bus_line.specs.Past.{end_of}
use Rattle.bus_line.specs.Channels.{WholeBurst, bursts}
use Rattle.bus_line.specs.Bursts.{EndsBefore}
use Rattle.bus_line.proofs.EndedLaws.{bursts-order}
use Rattle.bus_model.specs.Log as table
use Rattle.bus_model.specs.WorldLog as world
use Rattle.bus_model.specs.Strikes.{ShownBurst}
use Rattle.bus_law_listing.specs.Listing.{burst_found, found_in_order, EndBefore}
use Rattle.bus_law_listing.proofs.Members.{Each, Pairs, has-each, each-more, has-contains, pairs-all, pairs-across}
use Rattle.bus_law_listing.proofs.Ordered.{Before, order-each, order-append, order-same, strictly-before, map-order}

-- the tick after a burst, and its channel: by them bursts are in order
abbrev pub end_in : WholeBurst → ℕ
end_in whole = end_of whole.burst

-- its channel
abbrev pub channel_in : WholeBurst → Channel
channel_in whole = whole.channel

-- ---- one list after the other

-- where all of one list ended before all of the other, each is put in order by itself
pub found-splits : (xs ys : List WholeBurst) → EndBefore xs ys → found_in_order (xs ++ ys) ≡ found_in_order xs ++ found_in_order ys
found-splits xs ys before = order-append end_in channel_in xs ys
    (has-each (λ x. Each (Before end_in channel_in x) ys) xs (λ x in_x.
    has-each (Before end_in channel_in x) ys (λ y in_y. before x y (has-contains xs x in_x) (has-contains ys y in_y))))

-- the bursts of a past are in strict order
pub strict-bursts : (k : ℕ) (past : List Pair) → Pairs EndsBefore (bursts k past)
strict-bursts k past = pairs-all EndsBefore (bursts k past) (bursts-order k past)

-- so they are in order
pub found-same : (k : ℕ) (past : List Pair) → found_in_order (bursts k past) ≡ bursts k past
found-same k past = order-same end_in channel_in (bursts k past) (strict-bursts k past)

-- what was found later ended later
pub found-joined : (k : ℕ) (past : List Pair) (xs ys : List WholeBurst) → bursts k past ≡ found_in_order xs ++ found_in_order ys →
    bursts k past ≡ found_in_order (xs ++ ys)
found-joined k past xs ys same =
    let pairs : Pairs EndsBefore (found_in_order xs ++ found_in_order ys) = subst (Pairs EndsBefore) same (strict-bursts k past) in
    let across = pairs-across EndsBefore (found_in_order xs) (found_in_order ys) pairs in
    let first : Each (λ x. Each (EndsBefore x) (found_in_order ys)) xs =
    order-each end_in channel_in (λ x. Each (EndsBefore x) (found_in_order ys)) xs across in
    same ∙ sym (order-append end_in channel_in xs ys
    (each-more (λ x. Each (EndsBefore x) (found_in_order ys)) (λ x. Each (Before end_in channel_in x) ys) xs
    (λ x each. each-more (EndsBefore x) (Before end_in channel_in x) ys (strictly-before end_in channel_in x)
    (order-each end_in channel_in (EndsBefore x) ys each)) first))

-- ---- as a monitor hears them

-- a slot more is counted where it has a word
count-more : (slot : Option Word) (slots : List (Option Word)) → count_by is_some (slot ∷ slots) ≡ (if is_some slot then 1 else 0) + count_by is_some slots
count-more slot slots = sum_by-cons (λ o. if is_some o then 1 else 0) slot slots

-- the slots with a word are as many as the words
valid-count : (c : Channel) (t : ℕ) (slots : List (Option Word)) → count_by is_some slots ≡ length (table.words_from c t slots)
valid-count c t [] = refl
valid-count c t (None ∷ slots) =
    let rest : count_by is_some slots ≡ length (table.words_from c (t + 40) slots) = valid-count c (t + 40) slots in
    let more : count_by is_some (None ∷ slots) ≡ 0 + count_by is_some slots = count-more None slots in omega (arith, more, rest)
valid-count c t (Some word ∷ slots) =
    let rest : count_by is_some slots ≡ length (table.words_from c (t + 40) slots) = valid-count c (t + 40) slots in
    let more : count_by is_some (Some word ∷ slots) ≡ 1 + count_by is_some slots = count-more (Some word) slots in omega (arith, more, rest)

-- a burst of the table is heard as it is found
heard-same : (b : ShownBurst) → world.heard_burst (burst_found b) ≡ table.heard_burst b
heard-same b = let same = valid-count b.channel b.start b.slots in rw same refl

-- so are they all
heard-all : (bs : List ShownBurst) → map world.heard_burst (map burst_found bs) ≡ map table.heard_burst bs
heard-all [] = refl
heard-all (b ∷ bs) = ap (λ h. h ∷ map world.heard_burst (map burst_found bs)) (heard-same b) ∙ ap (λ hs. table.heard_burst b ∷ hs) (heard-all bs)

-- the list of bursts is that of the table
pub listed-bursts : (k : ℕ) (past : List Pair) (bs : List ShownBurst) → bursts k past ≡ found_in_order (map burst_found bs) →
    map world.heard_burst (bursts k past) ≡ table.bursts_in_order (map table.heard_burst bs)
listed-bursts k past bs same =
    ap (map world.heard_burst) same
    ∙ map-order world.heard_burst end_in channel_in (λ (h : HeardBurst). h.start.0 + h.ticks) (λ (h : HeardBurst). h.channel)
    (λ x. refl) (λ x. refl) (map burst_found bs)
    ∙ ap table.bursts_in_order (heard-all bs)
