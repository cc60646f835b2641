-- What a lister of bursts keeps and tells of a tick is what is found in the past.
use Rattle.std.proofs.Common.{◌≡◌, ℕ, ◌+◌, ◌-◌, ◌*◌, ◌<◌, ◌≤◌, ◌^◌, List, [], ◌∷◌, ◌++◌, length, refl, ap, sym, ◌∙◌, arith, add-zero, Option, Some, None}
use Rattle.std.specs.Prelude.{is_some, count_by, cond}
use Rattle.std.proofs.lemmas.List.Sums.{count_by-le-length, sum_by-append}
use Rattle.bus_base.specs.declared.samples.Channel.{Channel}
use Rattle.bus_base.specs.declared.samples.Sample.{Sample}
use Rattle.bus_words.specs.declared.word.Word.{Word}
use Rattle.bus_line.specs.Past.{Burst, newest_burst, first_tick}
use Rattle.bus_line.specs.Channels.{valid_slots}
use Rattle.bus_line.specs.Cutting.{Tells, Collects, Fills, cut_now, running_slots}
use Rattle.bus_line.specs.declared.cutter.Cut.{Cut}
use Rattle.bus_line.specs.declared.cutter.Cut.TheVariants as cuts
use Rattle.bus_line.proofs.CutNow.{cut-tells}
use Rattle.bus_line.proofs.CollectLaws.{cut-collects, slot-fills}
use Rattle.bus_ears.proofs.Bursts.{IsPlaced, ended-slots, ended-placed}
use Rattle.bus_run.specs.declared.burst_lister.Ear.{Ear}
use Rattle.bus_run.specs.BurstListers.{EndFits, EarStands, after_cut, burst_told, burst_now_on, heard_of}

-- a valid word more
count-some : (slots : List (Option Word)) (word : Word) → count_by is_some (slots ++ Some word ∷ []) ≡ count_by is_some slots + 1
count-some slots word = sum_by-append (λ (x : Option Word). cond (is_some x) 1 0) slots (Some word ∷ [])

-- a slot without a word more
count-none : (slots : List (Option Word)) → count_by is_some (slots ++ None ∷ []) ≡ count_by is_some slots
count-none slots = let both = sum_by-append (λ (x : Option Word). cond (is_some x) 1 0) slots (None ∷ []) in both ∙ add-zero (count_by is_some slots)

-- ---- what is kept

-- with a slot that ended, one word more is valid, or none
kept-slot : (ear : Ear) (slots now : List (Option Word)) (i : ℕ) (word : Option Word) → ear.valid ≡ count_by is_some slots → now ≡ slots ++ word ∷ [] →
    length slots < 4294967295 → (after_cut (cuts.Slot i word) ear).valid ≡ count_by is_some now
kept-slot ear slots now i None valid is few = valid ∙ sym (count-none slots) ∙ ap (count_by is_some) (sym is)
kept-slot ear slots now i (Some word) valid is few =
    let most : count_by is_some slots ≤ length slots = count_by-le-length is_some slots in
    let more : count_by is_some now ≡ count_by is_some slots + 1 = ap (count_by is_some) is ∙ count-some slots word in
    omega (arith, valid, most, more, few)

-- what is kept after a cut
kept-cut : (k : ℕ) (ear : Ear) (x : Sample) (past : List Sample) (cut : Cut) → k ≤ 39 → length past < 2 ^ 32 → ear.valid ≡ count_by is_some
    (running_slots k past) →
    Tells k (x ∷ past) cut → Collects cut (running_slots k past) (running_slots k (x ∷ past)) →
    (after_cut cut ear).valid ≡ count_by is_some (running_slots k (x ∷ past))
kept-cut k ear x past cuts.Nothing short small valid tells collects = valid ∙ ap (count_by is_some) (sym collects)
kept-cut k ear x past (cuts.Slot i word) short small valid tells collects =
    let fills : Fills k x past record { first = first_tick k (x ∷ past) + 40 * i; word = word } = slot-fills k x past _ short tells.1 in
    let place = fills.first in
    let whole = fills.whole in
    kept-slot ear (running_slots k past) (running_slots k (x ∷ past)) i word valid collects.1 (omega (arith, small, place, whole))
kept-cut k ear x past (cuts.Ended slots rest) short small valid tells collects = ap (count_by is_some) (sym collects.1)

-- ---- what is told

-- a burst that ended is told with its place, its ticks and its valid words
told-ended : (c : Channel) (tick k slots rest valid : ℕ) (past : List Sample) (burst : Burst) → length past ≡ tick → IsPlaced k slots rest past burst →
    valid ≡ valid_slots burst →
    burst_told k c tick (cuts.Ended slots rest) valid ≡ heard_of c (Some burst)
told-ended c tick k slots rest valid past burst here placed counted =
    let place = placed.place in
    let end = placed.end in
    let first : tick - k - (40 * slots + rest) ≡ burst.first = omega (arith, place, here) in
    let ticks : 40 * slots + rest ≡ burst.ticks = omega (arith, place, end) in
    rw (first, ticks, counted) refl

-- what a cut makes the ear tell
told-cut : (k : ℕ) (c : Channel) (ear : Ear) (x : Sample) (past : List Sample) (tick : ℕ) (cut : Cut) → length past ≡ tick →
    ear.valid ≡ count_by is_some (running_slots k past) → Tells k (x ∷ past) cut →
    burst_told k c tick cut ear.valid ≡ burst_now_on k c (x ∷ past)
told-cut k c ear x past tick cuts.Nothing here valid tells = ap (heard_of c) (sym tells.0)
told-cut k c ear x past tick (cuts.Slot i word) here valid tells = ap (heard_of c) (sym tells.0)
told-cut k c ear x past tick (cuts.Ended slots rest) here valid tells =
    let own : (newest_burst k (x ∷ past)).slots ≡ running_slots k past = ended-slots k x past (newest_burst k (x ∷ past)) tells.0 in
    told-ended c tick k slots rest ear.valid past (newest_burst k (x ∷ past)) here (ended-placed k slots rest x past tells)
    (valid ∙ ap (count_by is_some) (sym own)) ∙ ap (heard_of c) (sym tells.0)

-- ---- the ear

-- a burst that ended lies before the tick
pub end-fits : (k tick : ℕ) (x : Sample) (past : List Sample) (cut : Cut) → length past ≡ tick → tick < 2 ^ 32 → Tells k (x ∷ past) cut → EndFits k tick cut
end-fits k tick x past cuts.Nothing here small tells = tt
end-fits k tick x past (cuts.Slot i word) here small tells = tt
end-fits k tick x past (cuts.Ended slots rest) here small tells =
    let placed = ended-placed k slots rest x past tells in
    let place = placed.place in
    (small, omega (arith, place, here))

-- the ear tells the burst whose end became known
pub ear-tells : (k : ℕ) (c : Channel) (ear : Ear) (x : Sample) (past : List Sample) (tick : ℕ) (cut : Cut) → length past ≡ tick → EarStands k ear past →
    cut ≡ cut_now k (x ∷ past) → burst_told k c tick cut ear.valid ≡ burst_now_on k c (x ∷ past)
ear-tells k c ear x past tick cut here st is =
    ap (λ v. burst_told k c tick v ear.valid) is ∙ told-cut k c ear x past tick (cut_now k (x ∷ past)) here st.valid_is (cut-tells k (x ∷ past))

-- the ear stands for one tick more
pub ear-keeps : (k : ℕ) (ear : Ear) (x : Sample) (past : List Sample) (cut : Cut) → k ≤ 39 → length past < 2 ^ 32 → EarStands k ear past →
    cut ≡ cut_now k (x ∷ past) → EarStands k (after_cut cut ear) (x ∷ past)
ear-keeps k ear x past cut short small st is = record {
  valid_is = ap (λ v. (after_cut v ear).valid) is
      ∙ kept-cut k ear x past (cut_now k (x ∷ past)) short small st.valid_is (cut-tells k (x ∷ past)) (cut-collects k x past short);
}
