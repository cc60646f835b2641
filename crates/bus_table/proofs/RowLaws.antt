-- One tick more, for the rows of a channel: by what its cutter tells.
use Rattle.std.proofs.Common.{◌≡◌, ℕ, suc, ◌+◌, ◌-◌, ◌*◌, ◌<◌, ◌≤◌, Bool, true, false, not, ◌&&◌, if◌then◌else◌, List, ◌∷◌, length, Option, Some, None, refl, sym, ap, subst, ◌∙◌, arith, inl, inr}
use Rattle.std.specs.Prelude.{is_none}
use Rattle.std.specs.Option.{option_or}
use Rattle.std.proofs.lemmas.Bool.{cases_Bool}
use Rattle.std.proofs.lemmas.Bool.Decides.{nat_tests}
use Rattle.bus_base.specs.Samples.{sample_on, is_quiet}
use Rattle.bus_base.specs.declared.samples.Channel.{Channel}
use Rattle.bus_base.specs.declared.samples.Part.{Part}
use Rattle.bus_base.specs.declared.samples.Part.TheVariants as parts
use Rattle.bus_base.specs.declared.samples.Pair.{Pair}
use Rattle.bus_base.specs.declared.samples.Sample.{Sample}
use Rattle.bus_words.specs.declared.word.Word.{Word}
use Rattle.bus_line.specs.Past.{Burst, runs, first_tick, ended_now, end_of, rest_of, newest_burst, burst_from, stopped}
use Rattle.bus_line.specs.Channels.{on_channel}
use Rattle.bus_line.specs.Cutting.{cut_now, running_slots, Tells, Collects, Closes, Fills}
use Rattle.bus_line.specs.declared.cutter.Cut.{Cut}
use Rattle.bus_line.specs.declared.cutter.Cut.TheVariants as cuts
use Rattle.bus_line.specs.declared.cutter.TheConstants.{LAG}
use Rattle.bus_line.proofs.CollectLaws.{slot-fills, end-closes, running-off}
use Rattle.bus_line.proofs.PastLaws.{rests-more, runs-pulse, stopped-more, first_tick-lt}
use Rattle.bus_line.proofs.TickLaws.{quiet-sample}
use Rattle.bus_monitor.specs.Awaited.{awaited}
use Rattle.bus_monitor.specs.Channels.{ChannelListerStands}
use Rattle.bus_monitor.specs.Messages.{Waiting}
use Rattle.bus_monitor.proofs.ChannelLaws.{length-on_channel}
use Rattle.bus_monitor.proofs.ListerLaws.{tells-cut, collects-cut}
use Rattle.bus_monitor.proofs.PastLaws.{RunsOn, runs-on, an-end}
use Rattle.bus_monitor.proofs.PastLaws as past_laws
use Rattle.bus_table.specs.Exchanges.{Exchange, Told, Facts, exchange, exchange_after, exchange_with, answered_by, facts_of, told_of, gap_now, gap_before, words_behind}
use Rattle.bus_table.specs.Flaws.{bad_slot, bad_slots, bad_rest, bad_in}
use Rattle.bus_table.specs.Notes.{begun, noted, part_of, slot_noted, end_noted, cut_noted}
use Rattle.bus_table.specs.Stands.{NotesStand, ChannelRowsStand, CutOf}
use Rattle.bus_monitor.specs.declared.channel_lister.ChannelLister.{ChannelLister}
use Rattle.bus_table.specs.declared.channel_rows.ChannelRows.{ChannelRows}
use Rattle.bus_table.specs.declared.flaw.BadWord.{BadWord}
use Rattle.bus_table.proofs.BadLaws.{bad-more, bad-append, slots-within, first-within, gap-more, gap-here}

-- ---- the bursts of the newest message

-- a tick with which no burst ends adds none
pub exchange-same : (k : ℕ) (c : Channel) (shown : Pair) (past : List Pair) → ended_now k (on_channel c (shown ∷ past)) ≡ None →
    exchange k c (shown ∷ past) ≡ exchange k c past
unfolding exchange
exchange-same k c shown past none = ap (exchange_after c (shown ∷ past) (awaited k (on_channel c past)) (exchange k c past)) none

-- and one with which a burst ends adds it
pub exchange-more : (k : ℕ) (c : Channel) (shown : Pair) (past : List Pair) (burst : Burst) → ended_now k (on_channel c (shown ∷ past)) ≡ Some burst →
    exchange k c (shown ∷ past) ≡ exchange_with (awaited k (on_channel c past)) (exchange k c past) (told_of c (shown ∷ past) burst)
unfolding exchange
exchange-more k c shown past burst some = ap (exchange_after c (shown ∷ past) (awaited k (on_channel c past)) (exchange k c past)) some

-- what is told of them with that burst
pub facts-with : (w : Option Waiting) (e : Exchange) (told : Told) →
    facts_of (exchange_with w e told) ≡ noted (part_of w) (facts_of e) told.gap told.burst.first (end_of told.burst) (words_behind told.burst.slots) told.bad
facts-with None e told = refl
facts-with (Some w) e told = go w.part
  where
    go : (part : Part) → facts_of (answered_by part e told) ≡ noted (Some part) (facts_of e) told.gap told.burst.first (end_of told.burst) (words_behind told.burst.slots) told.bad
    go parts.Command = refl
    go parts.First = refl
    go parts.Second = refl

-- ---- a tick with which nothing, or a slot, becomes known

-- what a tick leaves where a burst ran and runs on, with these slots
runs-still : (rows : ChannelRows) (c : Channel) (shown : Pair) (past : List Pair) → NotesStand rows c past →
    runs LAG (on_channel c past) ≡ true → first_tick LAG (on_channel c (shown ∷ past)) ≡ first_tick LAG (on_channel c past) →
    rows.gap ≡ gap_before (shown ∷ past) (first_tick LAG (on_channel c (shown ∷ past)))
runs-still rows c shown past s on same =
    let within : first_tick LAG (on_channel c past) < length (on_channel c past) = first-within LAG (on_channel c past) on in
    let long : length (on_channel c past) ≡ length past = length-on_channel c past in
    s.gap on ∙ sym (gap-more shown past (first_tick LAG (on_channel c past)) (omega (arith, within, long)))
    ∙ ap (gap_before (shown ∷ past)) (sym same)

bad-still : (rows : ChannelRows) (c : Channel) (shown : Pair) (past : List Pair) → NotesStand rows c past →
    runs LAG (on_channel c past) ≡ true →
    rows.bad ≡ bad_slots (on_channel c (shown ∷ past)) (first_tick LAG (on_channel c past)) (running_slots LAG (on_channel c past))
bad-still rows c shown past s on =
    s.bad on ∙ sym (bad-more (sample_on shown c) (on_channel c past) (first_tick LAG (on_channel c past)) (running_slots LAG (on_channel c past))
    (slots-within LAG (on_channel c past) on))

never : (b : Bool) → b ≡ true → b ≡ false → ⊥
never true h k = absurd (cc)
never false h k = absurd (cc)

-- a burst begins, or not, where none ran
begun-if : (rows : ChannelRows) (x : Sample) (gap : Option ℕ) → rows.lister.running ≡ None → is_quiet x ≡ false → begun rows x gap ≡ record rows { gap = gap; bad = None }
begun-if rows x gap none heard = rw (none, heard) refl

pub begun-quiet : (rows : ChannelRows) (x : Sample) (gap : Option ℕ) → is_quiet x ≡ true → begun rows x gap ≡ rows
begun-quiet rows x gap quiet = go (is_none rows.lister.running)
  where
    go : (b : Bool) → (if b && not (is_quiet x) then record rows { gap = gap; bad = None } else rows) ≡ rows
    go true = rw quiet refl
    go false = refl

begun-not : (rows : ChannelRows) (x : Sample) (gap : Option ℕ) (first : ℕ) → rows.lister.running ≡ Some first → begun rows x gap ≡ rows
begun-not rows x gap first some = rw some refl

-- the rows with another lister
abbrev pub with_lister : ChannelRows → ChannelLister → ChannelRows
with_lister rows lister = record rows { lister = lister }

-- nothing became known where a burst ran
pub nothing-ran : (rows : ChannelRows) (c : Channel) (shown : Pair) (past : List Pair) → NotesStand rows c past →
    runs LAG (on_channel c past) ≡ true → ended_now LAG (on_channel c (shown ∷ past)) ≡ None →
    running_slots LAG (on_channel c (shown ∷ past)) ≡ running_slots LAG (on_channel c past) → NotesStand rows c (shown ∷ past)
nothing-ran rows c shown past s on none slots =
    let next : RunsOn LAG (sample_on shown c) (on_channel c past) = runs-on LAG (sample_on shown c) (on_channel c past) none in
    record {
      gap = λ _. runs-still rows c shown past s on (next.same on);
      bad = λ _. bad-still rows c shown past s on
          ∙ ap (λ f. bad_slots (on_channel c (shown ∷ past)) f (running_slots LAG (on_channel c past))) (sym (next.same on))
          ∙ ap (bad_slots (on_channel c (shown ∷ past)) (first_tick LAG (on_channel c (shown ∷ past)))) (sym slots);
      ended = λ off. absurd (never (runs LAG (on_channel c (shown ∷ past))) (next.on on) off);
      facts = s.facts ∙ ap facts_of (sym (exchange-same LAG c shown past none));
    }

-- nothing became known where none ran: one begins with this tick, or none runs still
pub nothing-began : (rows : ChannelRows) (c : Channel) (shown : Pair) (past : List Pair) → NotesStand rows c past →
    runs LAG (on_channel c past) ≡ false → ended_now LAG (on_channel c (shown ∷ past)) ≡ None →
    running_slots LAG (on_channel c (shown ∷ past)) ≡ running_slots LAG (on_channel c past) → is_quiet (sample_on shown c) ≡ false →
    NotesStand (record rows { gap = gap_now past; bad = None }) c (shown ∷ past)
nothing-began rows c shown past s off none slots heard =
    let next : RunsOn LAG (sample_on shown c) (on_channel c past) = runs-on LAG (sample_on shown c) (on_channel c past) none in
    record {
      gap = λ on. sym (gap-here shown past) ∙ ap (gap_before (shown ∷ past)) (sym (next.begins off on ∙ length-on_channel c past));
      bad = λ on.
          sym (ap (bad_slots (on_channel c (shown ∷ past)) (first_tick LAG (on_channel c (shown ∷ past)))) (slots ∙ running-off LAG (on_channel c past) off));
      ended = λ over. absurd (never (runs LAG (on_channel c (shown ∷ past))) (runs-pulse LAG (sample_on shown c) (on_channel c past) heard) over);
      facts = s.facts ∙ ap facts_of (sym (exchange-same LAG c shown past none));
    }

stopped-quiet : (x : Sample) (past : List Sample) → is_quiet x ≡ true → stopped (x ∷ past) ≡ stopped past
stopped-quiet x past quiet = rw (quiet-sample x quiet) (stopped-more past)

pub heard-quiet : (k : ℕ) (x : Sample) (past : List Sample) → is_quiet x ≡ true → runs k past ≡ false → runs k (x ∷ past) ≡ false
heard-quiet k x past quiet off = rw (quiet-sample x quiet) (rests-more k past off)

-- what the lister keeps tells whether a burst runs
rests-none : (rows : ChannelRows) (c : Channel) (past : List Pair) → ChannelRowsStand rows c past → runs LAG (on_channel c past) ≡ false → rows.lister.running ≡ None
rests-none rows c past s off = s.lister.running ∙ ap (λ b. if b then Some (first_tick LAG (on_channel c past)) else None) off

runs-some : (rows : ChannelRows) (c : Channel) (past : List Pair) → ChannelRowsStand rows c past → runs LAG (on_channel c past) ≡ true →
    rows.lister.running ≡ Some (first_tick LAG (on_channel c past))
runs-some rows c past s on = s.lister.running ∙ ap (λ b. if b then Some (first_tick LAG (on_channel c past)) else None) on

-- the notes don't look at the lister
pub relisted : (rows : ChannelRows) (lister : ChannelLister) (c : Channel) (past : List Pair) → NotesStand rows c past → NotesStand (with_lister rows lister) c past
relisted rows lister c past s = record { gap = s.gap; bad = s.bad; ended = s.ended; facts = s.facts }

pub nothing-rested : (rows : ChannelRows) (c : Channel) (shown : Pair) (past : List Pair) → NotesStand rows c past →
    runs LAG (on_channel c past) ≡ false → ended_now LAG (on_channel c (shown ∷ past)) ≡ None → is_quiet (sample_on shown c) ≡ true →
    NotesStand rows c (shown ∷ past)
nothing-rested rows c shown past s off none quiet =
    let over : runs LAG (on_channel c (shown ∷ past)) ≡ false = heard-quiet LAG (sample_on shown c) (on_channel c past) quiet off in
    record {
      gap = λ on. absurd (never (runs LAG (on_channel c (shown ∷ past))) on over);
      bad = λ on. absurd (never (runs LAG (on_channel c (shown ∷ past))) on over);
      ended = λ _. s.ended off ∙ sym (stopped-quiet (sample_on shown c) (on_channel c past) quiet);
      facts = s.facts ∙ ap facts_of (sym (exchange-same LAG c shown past none));
    }

pub nothing-noted : (rows : ChannelRows) (lister : ChannelLister) (c : Channel) (shown : Pair) (past : List Pair) (gap : Option ℕ) → ChannelRowsStand rows c past →
    cuts.Nothing ≡ cut_now LAG (on_channel c (shown ∷ past)) → gap ≡ gap_now past → ChannelListerStands lister (on_channel c (shown ∷ past)) →
    ChannelRowsStand (with_lister (begun rows (sample_on shown c) gap) lister) c (shown ∷ past)
nothing-noted rows lister c shown past gap s is here stands =
    let x : Sample = sample_on shown c in
    let own : List Sample = on_channel c past in
    let none : ended_now LAG (on_channel c (shown ∷ past)) ≡ None = (tells-cut LAG x own cuts.Nothing is).0 in
    let slots : running_slots LAG (on_channel c (shown ∷ past)) ≡ running_slots LAG own = collects-cut LAG x own cuts.Nothing (omega arith) is in
    elim (cases_Bool (runs LAG own)) [
      | inl on ↦ subst (λ r. ChannelRowsStand (with_lister r lister) c (shown ∷ past)) (sym (begun-not rows x gap (first_tick LAG own) (runs-some rows c past s on)))
          record { lister = stands; told = relisted rows lister c (shown ∷ past) (nothing-ran rows c shown past s.told on none slots) }
      | inr off ↦ elim (cases_Bool (is_quiet x)) [
        | inl quiet ↦ subst (λ r. ChannelRowsStand (with_lister r lister) c (shown ∷ past)) (sym (begun-quiet rows x gap quiet))
            record { lister = stands; told = relisted rows lister c (shown ∷ past) (nothing-rested rows c shown past s.told off none quiet) }
        | inr heard ↦ subst (λ r. ChannelRowsStand (with_lister r lister) c (shown ∷ past))
            (sym (begun-if rows x gap (rests-none rows c past s off) heard ∙ ap (λ g. record rows { gap = g; bad = None }) here))
            record {
              lister = stands;
              told = relisted (record rows { gap = gap_now past; bad = None }) lister c (shown ∷ past) (nothing-began rows c shown past s.told off none slots heard);
            }
      ]
    ]

-- a slot became known
pub slot-noted : (rows : ChannelRows) (lister : ChannelLister) (c : Channel) (shown : Pair) (past : List Pair) (i : ℕ) (word : Option Word) →
    ChannelRowsStand rows c past → cuts.Slot i word ≡ cut_now LAG (on_channel c (shown ∷ past)) → ChannelListerStands lister (on_channel c (shown ∷ past)) →
    ChannelRowsStand (with_lister (slot_noted rows (on_channel c past) i word (sample_on shown c)) lister) c (shown ∷ past)
slot-noted rows lister c shown past i word s is stands =
    let x : Sample = sample_on shown c in
    let own : List Sample = on_channel c past in
    let tells : Tells LAG (x ∷ own) (cuts.Slot i word) = tells-cut LAG x own (cuts.Slot i word) is in
    let collects : Collects (cuts.Slot i word) (running_slots LAG own) (running_slots LAG (x ∷ own)) = collects-cut LAG x own (cuts.Slot i word) (omega arith) is in
    let on : runs LAG own ≡ true = (slot-fills LAG x own _ (omega arith) tells.1).ran in
    let next : RunsOn LAG x own = runs-on LAG x own tells.0 in
    record {
      lister = stands;
      told = record {
        gap = λ _. runs-still rows c shown past s.told on (next.same on);
        bad = λ _. ap (λ b. option_or b (bad_slot (x ∷ own) (first_tick LAG own + 40 * i) word)) (bad-still rows c shown past s.told on)
            ∙ ap (λ n. option_or (bad_slots (x ∷ own) (first_tick LAG own) (running_slots LAG own)) (bad_slot (x ∷ own) (first_tick LAG own + 40 * n) word)) collects.0
            ∙ sym (bad-append (x ∷ own) (first_tick LAG own) (running_slots LAG own) word)
            ∙ ap (bad_slots (x ∷ own) (first_tick LAG own)) (sym collects.1)
            ∙ ap (λ f. bad_slots (x ∷ own) f (running_slots LAG (x ∷ own))) (sym (next.same on));
        ended = λ off. absurd (never (runs LAG (x ∷ own)) (next.on on) off);
        facts = s.told.facts ∙ ap facts_of (sym (exchange-same LAG c shown past tells.0));
      };
    }

-- the same by what is noted of the parts of a burst
noted-by : (w w' : Option Part) (f f' : Facts) (gap gap' : Option ℕ) (first first' end end' : ℕ) (slots slots' : List ℕ) (bad bad' : Option BadWord) →
    w ≡ w' → f ≡ f' → gap ≡ gap' → first ≡ first' → end ≡ end' → slots ≡ slots' → bad ≡ bad' → noted w f gap first end slots bad ≡ noted w' f' gap' first' end' slots' bad'
noted-by w w' f f' gap gap' first first' end end' slots slots' bad bad' a b d e g h i = rw (a, b, d, e, g, h, i) refl

-- the first bad word of a burst, by its parts
bad-by : (past : List Sample) (p p' : ℕ) (slots slots' : List (Option Word)) (count rest rest' : ℕ) → p ≡ p' → slots ≡ slots' → count ≡ length slots' → rest ≡ rest' →
    option_or (bad_slots past p slots) (bad_rest (p + 40 * count) rest) ≡ option_or (bad_slots past p' slots') (bad_rest (p' + 40 * length slots') rest')
bad-by past p p' slots slots' count rest rest' a b d e = rw (a, b, d, e) refl

if-some : {T : Type 0} (test : Bool) (x y : T) → (if test then Some x else None) ≡ Some y → (test ≡ true) × (x ≡ y)
if-some true x y h = (refl, cc)
if-some false x y h = absurd (cc)

-- a burst that ended did so where the channel stopped
ended-stopped : (k : ℕ) (x : Sample) (past : List Sample) (burst : Burst) → ended_now k (x ∷ past) ≡ Some burst → stopped (x ∷ past) ≡ end_of burst
unfolding burst_from
ended-stopped k x past burst some =
    let test = if-some _ _ _ some in
    let is : newest_burst k (x ∷ past) ≡ burst = test.1 in
    let first : first_tick k (x ∷ past) ≡ burst.first = ap (λ b. b.first) is in
    let ticks : stopped (x ∷ past) - first_tick k (x ∷ past) ≡ burst.ticks = ap (λ b. b.ticks) is in
    let run : 0 < stopped (x ∷ past) = grind (arith, nat_tests, test.0) in
    let less : first_tick k (x ∷ past) < stopped (x ∷ past) = first_tick-lt k (x ∷ past) run in
    omega (arith, first, ticks, less)

-- the end of a burst became known
pub end-noted : (rows : ChannelRows) (lister : ChannelLister) (c : Channel) (shown : Pair) (past : List Pair) (slots rest : ℕ) →
    ChannelRowsStand rows c past → cuts.Ended slots rest ≡ cut_now LAG (on_channel c (shown ∷ past)) → ChannelListerStands lister (on_channel c (shown ∷ past)) →
    ChannelRowsStand (with_lister (end_noted rows (on_channel c past) slots rest) lister) c (shown ∷ past)
end-noted rows lister c shown past slots rest s is stands =
    let x : Sample = sample_on shown c in
    let own : List Sample = on_channel c past in
    let burst : Burst = newest_burst LAG (x ∷ own) in
    let tells : Tells LAG (x ∷ own) (cuts.Ended slots rest) = tells-cut LAG x own (cuts.Ended slots rest) is in
    let collects : Collects (cuts.Ended slots rest) (running_slots LAG own) (running_slots LAG (x ∷ own)) = collects-cut LAG x own (cuts.Ended slots rest) (omega arith) is in
    let ends : past_laws.Ends LAG own burst (x ∷ own) = an-end LAG x own burst tells.0 in
    let closes : Closes LAG x own burst = end-closes LAG x own burst tells.0 in
    let on : runs LAG own ≡ true = ends.ran in
    let end : length own - LAG ≡ end_of burst = (let at = ends.end in omega (arith, at)) in
    let within : first_tick LAG own < length own = first-within LAG own on in
    let long : length own ≡ length past = length-on_channel c past in
    let before : rows.gap ≡ gap_before (shown ∷ past) burst.first =
    s.told.gap on ∙ sym (gap-more shown past (first_tick LAG own) (omega (arith, within, long))) ∙ ap (gap_before (shown ∷ past)) (sym ends.first) in
    let bad : option_or rows.bad (bad_rest (first_tick LAG own + 40 * slots) rest) ≡ bad_in (x ∷ own) burst =
    ap (λ b. option_or b (bad_rest (first_tick LAG own + 40 * slots) rest)) (bad-still rows c shown past s.told on)
    ∙ bad-by (x ∷ own) (first_tick LAG own) burst.first (running_slots LAG own) burst.slots slots rest (rest_of burst) (sym ends.first) (sym closes.slots) (sym tells.2) (sym tells.3) in
    record {
      lister = stands;
      told = record {
        gap = λ now. absurd (never (runs LAG (x ∷ own)) now ends.over);
        bad = λ now. absurd (never (runs LAG (x ∷ own)) now ends.over);
        ended = λ _. end ∙ sym (ended-stopped LAG x own burst tells.0);
        facts = noted-by (part_of rows.lister.waiting) (part_of (awaited LAG own)) rows.notes (facts_of (exchange LAG c past)) rows.gap
            (gap_before (shown ∷ past) burst.first) (first_tick LAG own) burst.first (length own - LAG) (end_of burst) (words_behind (running_slots LAG own)) (words_behind burst.slots)
            (option_or rows.bad (bad_rest (first_tick LAG own + 40 * slots) rest)) (bad_in (x ∷ own) burst)
            (ap part_of s.lister.waiting) s.told.facts before (sym ends.first) end (ap words_behind (sym closes.slots)) bad
            ∙ sym (facts-with (awaited LAG own) (exchange LAG c past) (told_of c (shown ∷ past) burst))
            ∙ ap facts_of (sym (exchange-more LAG c shown past burst tells.0));
      };
    }

-- ---- any of these

pub cut-stands : (rows : ChannelRows) (lister : ChannelLister) (c : Channel) (shown : Pair) (past : List Pair) (cut : Cut) (gap : Option ℕ) →
    ChannelRowsStand rows c past → cut ≡ cut_now LAG (on_channel c (shown ∷ past)) → gap ≡ gap_now past → ChannelListerStands lister (on_channel c (shown ∷ past)) →
    ChannelRowsStand (with_lister (cut_noted rows (on_channel c past) cut (sample_on shown c) gap) lister) c (shown ∷ past)
cut-stands rows lister c shown past cuts.Nothing gap s is here stands = nothing-noted rows lister c shown past gap s is here stands
cut-stands rows lister c shown past (cuts.Slot i word) gap s is here stands = slot-noted rows lister c shown past i word s is stands
cut-stands rows lister c shown past (cuts.Ended slots rest) gap s is here stands = end-noted rows lister c shown past slots rest s is stands

-- the same of a sample by another name
pub sample-stands : (rows after : ChannelRows) (lister : ChannelLister) (c : Channel) (shown : Pair) (past : List Pair) (cut : Cut) (x : Sample) (gap : Option ℕ) →
    x ≡ sample_on shown c → after ≡ cut_noted rows (on_channel c past) cut x gap → ChannelRowsStand rows c past → cut ≡ cut_now LAG (x ∷ on_channel c past) →
    gap ≡ gap_now past → ChannelListerStands lister (x ∷ on_channel c past) → ChannelRowsStand (with_lister after lister) c (shown ∷ past)
sample-stands rows after lister c shown past cut x gap is noted s cut_is here stands =
    subst (λ r. ChannelRowsStand (with_lister r lister) c (shown ∷ past))
    (sym (noted ∙ ap (λ y. cut_noted rows (on_channel c past) cut y gap) is))
    (cut-stands rows lister c shown past cut gap s (cut_is ∙ ap (λ y. cut_now LAG (y ∷ on_channel c past)) is) here
    (subst (λ y. ChannelListerStands lister (y ∷ on_channel c past)) is stands))

-- ---- what a slot's end and a burst's end tell of the numbers

pub record SlotEnds (rows : ChannelRows) (past : List Sample) (i : ℕ) : Type 0 where
  pub running : rows.lister.running ≡ Some (first_tick LAG past)
  pub within : first_tick LAG past + 40 * i + 40 ≤ suc (length past)

pub slot-ends : (rows : ChannelRows) (past : List Sample) (i : ℕ) (word : Option Word) (x : Sample) → CutOf rows past (cuts.Slot i word) x → SlotEnds rows past i
slot-ends rows past i word x s =
    let tells : Tells LAG (x ∷ past) (cuts.Slot i word) = tells-cut LAG x past (cuts.Slot i word) s.cut_is in
    let fills : Fills LAG x past _ = slot-fills LAG x past _ (omega arith) tells.1 in
    record {
      running = s.lister.running ∙ ap (λ b. if b then Some (first_tick LAG past) else None) fills.ran;
      within = (let w = fills.whole in let e = (runs-on LAG x past tells.0).same fills.ran in omega (arith, w, e));
    }

pub record BurstEnds (rows : ChannelRows) (past : List Sample) (slots : ℕ) : Type 0 where
  pub running : rows.lister.running ≡ Some (first_tick LAG past)
  pub within : first_tick LAG past + 40 * slots ≤ length past

pub burst-ends : (rows : ChannelRows) (past : List Sample) (slots rest : ℕ) (x : Sample) → CutOf rows past (cuts.Ended slots rest) x → BurstEnds rows past slots
burst-ends rows past slots rest x s =
    let tells : Tells LAG (x ∷ past) (cuts.Ended slots rest) = tells-cut LAG x past (cuts.Ended slots rest) s.cut_is in
    let collects : Collects (cuts.Ended slots rest) (running_slots LAG past) (running_slots LAG (x ∷ past)) = collects-cut LAG x past (cuts.Ended slots rest) (omega arith) s.cut_is in
    let closes : Closes LAG x past (newest_burst LAG (x ∷ past)) = end-closes LAG x past (newest_burst LAG (x ∷ past)) tells.0 in
    let within : first_tick LAG past + 40 * length (running_slots LAG past) ≤ length past = slots-within LAG past closes.ran in
    let count : slots ≡ length (running_slots LAG past) = collects.0 in
    record {
      running = s.lister.running ∙ ap (λ b. if b then Some (first_tick LAG past) else None) closes.ran;
      within = omega (arith, within, count);
    }

-- the rows after a burst's end, by what is noted
pub end-by : (rows : ChannelRows) (slots : List ℕ) (first first' end end' : ℕ) (bad bad' : Option BadWord) → first ≡ first' → end ≡ end' → bad ≡ bad' →
    record rows { notes = noted (part_of rows.lister.waiting) rows.notes rows.gap first end slots bad; ended = end }
    ≡ record rows { notes = noted (part_of rows.lister.waiting) rows.notes rows.gap first' end' slots bad'; ended = end' }
end-by rows slots first first' end end' bad bad' a b d = rw (a, b, d) refl
