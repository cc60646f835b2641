-- The rows of both channels, with ticks more.
use Rattle.std.proofs.Common.{◌≡◌, ℕ, zero, suc, ◌+◌, ◌≤◌, min, Bool, true, false, ◌&&◌, if◌then◌else◌, List, [], ◌∷◌, ◌++◌, map, length, Option, Some, None, refl, sym, ap, subst, ◌∙◌, arith, inl, inr, ◌⊎◌, append_assoc, length-append}
use Rattle.std.specs.Prelude.{flat_map, option_to_list, is_some, is_none}
use Rattle.std.proofs.lemmas.Bool.{cases_Bool}
use Rattle.std.proofs.lemmas.Grind.{flat_map-append}
use Rattle.std.proofs.lemmas.List.{append-nil, length-map}
use Rattle.bus_base.specs.Samples.{sample_on, is_quiet, quiet_pair, quiet_pairs}
use Rattle.bus_base.specs.declared.samples.Channel.{Channel}
use Rattle.bus_base.specs.declared.samples.Channel.TheVariants.{A, B}
use Rattle.bus_base.specs.declared.samples.Pair.{Pair}
use Rattle.bus_base.specs.declared.samples.Sample.{Sample}
use Rattle.bus_base.specs.declared.samples.Sample.TheVariants.{Plus, Minus, Quiet}
use Rattle.bus_line.specs.Past.{quiet, runs, stopped, first_tick, ended_now}
use Rattle.bus_line.specs.Channels.{on_channel, quiet_both}
use Rattle.bus_line.specs.Cutting.{cut_now, running_slots}
use Rattle.bus_line.specs.declared.cutter.Cut.TheVariants as cuts
use Rattle.bus_line.specs.declared.cutter.TheConstants.{LAG}
use Rattle.bus_line.proofs.CutNow.{now-idle}
use Rattle.bus_line.proofs.PastLaws.{runs-pulse, quiet-le}
use Rattle.bus_planes.specs.Still.{TellNothing}
use Rattle.bus_monitor.specs.Awaited.{awaited, open_of}
use Rattle.bus_monitor.specs.Channels.{ChannelListerStands, is_idle_on}
use Rattle.bus_monitor.specs.Listings.{running_on}
use Rattle.bus_monitor.specs.Messages.{Closed, Waiting}
use Rattle.bus_monitor.specs.Parts.{CloseNone}
use Rattle.bus_monitor.specs.Progress.{closed_now}
use Rattle.bus_monitor.proofs.ChannelLaws.{length-on_channel}
use Rattle.bus_monitor.proofs.IdleLaws.{IsIdleTick, idle-tick, none-if}
use Rattle.bus_monitor.proofs.ListerLaws.{tells-cut, collects-cut}
use Rattle.bus_monitor.proofs.OpenLaws.{open-channel}
use Rattle.bus_monitor.proofs.PartLaws.{on-append}
use Rattle.bus_monitor.specs.declared.channel_lister.ChannelLister.{ChannelLister}
use Rattle.bus_table.specs.Exchanges.{Facts, exchange, facts_of, gap_now, gap_before}
use Rattle.bus_table.specs.Notes.{gap_at}
use Rattle.bus_table.specs.Rows.{Row, closed_row}
use Rattle.bus_table.specs.Stands.{NotesStand, ChannelRowsStand}
use Rattle.bus_table.specs.Tables.{rows, rows_now, row_of_open, open_gap, open_rows, all_rows, table_lines, table_text}
use Rattle.bus_table.specs.Texts.{row_text, names_text, end_text}
use Rattle.bus_table.specs.declared.channel_rows.ChannelRows.{ChannelRows}
use Rattle.bus_table.specs.declared.format.Format.{Format}
use Rattle.bus_table.proofs.BadLaws.{gap-at}
use Rattle.bus_table.proofs.RowLaws.{begun-quiet, nothing-ran, nothing-rested, nothing-noted, with_lister}

-- ---- rows of a tick

abbrev pub texts : Format → List Row → List ℕ
texts f rows = flat_map (row_text f) rows

-- a tick adds the rows of the messages that close in it
pub lines-grow : (f : Format) (shown : Pair) (past : List Pair) →
    table_lines LAG f (shown ∷ past) ≡ table_lines LAG f past ++ (texts f (rows_now LAG A (shown ∷ past)) ++ texts f (rows_now LAG B (shown ∷ past)))
unfolding table_lines rows
lines-grow f shown past =
    let a : List Row = rows_now LAG A (shown ∷ past) in
    let b : List Row = rows_now LAG B (shown ∷ past) in
    ap (λ xs. names_text f ++ xs) (flat_map-append (row_text f) (rows LAG past) (a ++ b) ∙ ap (λ xs. texts f (rows LAG past) ++ xs) (flat_map-append (row_text f) a b))
    ∙ sym (append_assoc (names_text f) (texts f (rows LAG past)) (texts f a ++ texts f b))

pub rows-grow : (shown : Pair) (past : List Pair) → rows LAG (shown ∷ past) ≡ rows LAG past ++ (rows_now LAG A (shown ∷ past) ++ rows_now LAG B (shown ∷ past))
unfolding rows
rows-grow shown past = refl

-- a tick in which none closes adds none
pub rows-none : (shown : Pair) (past : List Pair) → closed_now LAG (on_channel A (shown ∷ past)) ≡ [] → closed_now LAG (on_channel B (shown ∷ past)) ≡ [] →
    rows LAG (shown ∷ past) ≡ rows LAG past
rows-none shown past a b =
    rows-grow shown past
    ∙ ap (λ xs. rows LAG past ++ (map (closed_row A (facts_of (exchange LAG A (shown ∷ past)))) xs ++ rows_now LAG B (shown ∷ past))) a
    ∙ ap (λ xs. rows LAG past ++ map (closed_row B (facts_of (exchange LAG B (shown ∷ past)))) xs) b
    ∙ append-nil (rows LAG past)

pub few-rows : {T : Type 0} (o : Option T) → length (option_to_list o) ≤ 1
few-rows None = omega arith
few-rows (Some x) = omega arith

pub rows-count : (shown : Pair) (past : List Pair) → length (rows LAG (shown ∷ past))
    ≡ length (rows LAG past) + (length (closed_now LAG (on_channel A (shown ∷ past))) + length (closed_now LAG (on_channel B (shown ∷ past))))
rows-count shown past =
    let a : List Row = rows_now LAG A (shown ∷ past) in
    let b : List Row = rows_now LAG B (shown ∷ past) in
    ap length (rows-grow shown past) ∙ length-append (rows LAG past) (a ++ b) ∙ ap (λ n. length (rows LAG past) + n) (length-append a b
    ∙ ap (λ n. n + length b) (length-map (closed_now LAG (on_channel A (shown ∷ past))) (closed_row A (facts_of (exchange LAG A (shown ∷ past)))))
    ∙ ap (λ n. length (closed_now LAG (on_channel A (shown ∷ past))) + n) (length-map (closed_now LAG (on_channel B (shown ∷ past))) (closed_row B (facts_of (exchange LAG B (shown ∷ past))))))

-- ---- the gap up to a tick

quiet-pair : (x y : Sample) (xs ys : List Sample) (q : ℕ) → q ≡ min (quiet xs) (quiet ys) →
    (if is_quiet x && is_quiet y then suc q else 0) ≡ min (quiet (x ∷ xs)) (quiet (y ∷ ys))
quiet-pair Quiet Quiet xs ys q is = omega (arith, is)
quiet-pair Quiet Plus xs ys q is = omega arith
quiet-pair Quiet Minus xs ys q is = omega arith
quiet-pair Plus y xs ys q is = omega arith
quiet-pair Minus y xs ys q is = omega arith

quiet-min : (past : List Pair) → quiet_both past ≡ min (quiet (on_channel A past)) (quiet (on_channel B past))
quiet-min [] = refl
quiet-min (shown ∷ past) = quiet-pair shown.a shown.b (on_channel A past) (on_channel B past) (quiet_both past) (quiet-min past)

-- it is counted from the later of the ticks where both channels stopped
pub gap-of : (past : List Pair) (ticks a b stop : ℕ) → ticks ≡ length past → a ≡ stopped (on_channel A past) → b ≡ stopped (on_channel B past) →
    ((stop ≡ a) × (b ≤ stop)) ⊎ ((stop ≡ b) × (a ≤ stop)) → gap_at ticks stop ≡ gap_now past
gap-of past ticks a b stop t at-a at-b most =
    let long-a : length (on_channel A past) ≡ length past = length-on_channel A past in
    let long-b : length (on_channel B past) ≡ length past = length-on_channel B past in
    let below-a : quiet (on_channel A past) ≤ length (on_channel A past) = quiet-le (on_channel A past) in
    let below-b : quiet (on_channel B past) ≤ length (on_channel B past) = quiet-le (on_channel B past) in
    let both : quiet_both past ≡ min (quiet (on_channel A past)) (quiet (on_channel B past)) = quiet-min past in
    gap-at past ticks stop t (elim most [
      | inl first ↦ (let e = first.0 in let l = first.1 in omega (arith, long-a, long-b, below-a, below-b, both, at-a, at-b, e, l))
      | inr second ↦ (let e = second.0 in let l = second.1 in omega (arith, long-a, long-b, below-a, below-b, both, at-a, at-b, e, l))
    ])

-- ---- quiet ticks where nothing runs and no message waits

pub record IsIdleRow (rows : ChannelRows) (c : Channel) (past : List Pair) : Type 0 where
  pub stands : ChannelRowsStand rows c (quiet_pair ∷ past)
  pub closes : closed_now LAG (on_channel c (quiet_pair ∷ past)) ≡ []

idle-by : (rows : ChannelRows) (c : Channel) (past : List Pair) → sample_on quiet_pair c ≡ Quiet → rows.lister.running ≡ None → rows.lister.waiting ≡ None →
    ChannelRowsStand rows c past → IsIdleRow rows c past
idle-by rows c past q rests none s =
    let own : List Sample = on_channel c past in
    let t : IsIdleTick rows.lister own = idle-tick rows.lister own rests none s.lister in
    let off : runs LAG own ≡ false = none-if (runs LAG own) (first_tick LAG own) (sym s.lister.running ∙ rests) in
    let is : cuts.Nothing ≡ cut_now LAG (sample_on quiet_pair c ∷ own) = subst (λ y. cuts.Nothing ≡ cut_now LAG (y ∷ own)) (sym q) (sym (now-idle LAG own off)) in
    let stands : ChannelListerStands rows.lister (sample_on quiet_pair c ∷ own) = subst (λ y. ChannelListerStands rows.lister (y ∷ own)) (sym q) t.stands in
    record {
      stands = subst (λ r. ChannelRowsStand (with_lister r rows.lister) c (quiet_pair ∷ past)) (begun-quiet rows (sample_on quiet_pair c) (gap_now past) (ap is_quiet q))
          (nothing-noted rows rows.lister c quiet_pair past (gap_now past) s is refl stands);
      closes = subst (λ y. closed_now LAG (y ∷ own) ≡ []) (sym q) t.closes;
    }

pub idle-row : (rows : ChannelRows) (c : Channel) (past : List Pair) → rows.lister.running ≡ None → rows.lister.waiting ≡ None →
    ChannelRowsStand rows c past → IsIdleRow rows c past
idle-row rows A past rests none s = idle-by rows A past refl rests none s
idle-row rows B past rests none s = idle-by rows B past refl rests none s

-- any number of them
pub idle-rows : (rows : ChannelRows) (c : Channel) (n : ℕ) (past : List Pair) → rows.lister.running ≡ None → rows.lister.waiting ≡ None →
    ChannelRowsStand rows c past → ChannelRowsStand rows c (quiet_pairs n ++ past)
idle-rows rows c zero past rests none s = s
idle-rows rows c (suc n) past rests none s = (idle-row rows c (quiet_pairs n ++ past) rests none (idle-rows rows c n past rests none s)).stands

pub rows-idle : (a b : ChannelRows) (n : ℕ) (past : List Pair) → a.lister.running ≡ None → a.lister.waiting ≡ None → b.lister.running ≡ None → b.lister.waiting ≡ None →
    ChannelRowsStand a A past → ChannelRowsStand b B past → rows LAG (quiet_pairs n ++ past) ≡ rows LAG past
rows-idle a b zero past ra na rb nb sa sb = refl
rows-idle a b (suc n) past ra na rb nb sa sb =
    rows-none quiet_pair (quiet_pairs n ++ past)
    (idle-row a A (quiet_pairs n ++ past) ra na (idle-rows a A n past ra na sa)).closes
    (idle-row b B (quiet_pairs n ++ past) rb nb (idle-rows b B n past rb nb sb)).closes
    ∙ rows-idle a b n past ra na rb nb sa sb

-- ---- ticks that tell nothing and close no message

-- what was noted stays so
pub still-notes : (rows : ChannelRows) (c : Channel) (xs past : List Pair) → TellNothing LAG (on_channel c xs) (on_channel c past) →
    NotesStand rows c past → NotesStand rows c (xs ++ past) × (runs LAG (on_channel c (xs ++ past)) ≡ runs LAG (on_channel c past))
still-notes rows c [] past told s = (s, refl)
still-notes rows c (shown ∷ xs) past told s =
    let before : List Pair = xs ++ past in
    let own : List Sample = on_channel c before in
    let x : Sample = sample_on shown c in
    let so = still-notes rows c xs past told.2 s in
    let is : cuts.Nothing ≡ cut_now LAG (x ∷ own) = sym (ap (λ ys. cut_now LAG (x ∷ ys)) (on-append c xs past) ∙ told.0) in
    let same : runs LAG (x ∷ own) ≡ runs LAG (on_channel c past) = ap (λ ys. runs LAG (x ∷ ys)) (on-append c xs past) ∙ told.1 in
    let none : ended_now LAG (x ∷ own) ≡ None = (tells-cut LAG x own cuts.Nothing is).0 in
    let slots : running_slots LAG (x ∷ own) ≡ running_slots LAG own = collects-cut LAG x own cuts.Nothing (omega arith) is in
    elim (cases_Bool (runs LAG own)) [
      | inl on ↦ (nothing-ran rows c shown before so.0 on none slots, same)
      | inr off ↦ (nothing-rested rows c shown before so.0 off none (quiet-off x own (same ∙ sym so.1 ∙ off)), same)
    ]
  where
    quiet-off : (x : Sample) (own : List Sample) → runs LAG (x ∷ own) ≡ false → is_quiet x ≡ true
    quiet-off Quiet own off = refl
    quiet-off Plus own off = absurd (let on : runs LAG (Plus ∷ own) ≡ true = runs-pulse LAG Plus own refl in cc)
    quiet-off Minus own off = absurd (let on : runs LAG (Minus ∷ own) ≡ true = runs-pulse LAG Minus own refl in cc)

-- no row is added
pub rows-still : (xs past : List Pair) → CloseNone (on_channel A xs) (on_channel A past) → CloseNone (on_channel B xs) (on_channel B past) →
    rows LAG (xs ++ past) ≡ rows LAG past
rows-still [] past a b = refl
rows-still (shown ∷ xs) past a b =
    rows-none shown (xs ++ past)
    (ap (λ ys. closed_now LAG (sample_on shown A ∷ ys)) (on-append A xs past) ∙ a.0)
    (ap (λ ys. closed_now LAG (sample_on shown B ∷ ys)) (on-append B xs past) ∙ b.0)
    ∙ rows-still xs past a.1 b.1

-- the same rows are the same lines
pub lines-same : (f : Format) (past past' : List Pair) → rows LAG past ≡ rows LAG past' → table_lines LAG f past ≡ table_lines LAG f past'
unfolding table_lines
lines-same f past past' same = ap (λ rs. names_text f ++ texts f rs) same

-- a row by what the code kept
pub rows-by : (f : Format) (c : Channel) (notes : Facts) (past : List Pair) (closed : Option Closed) → notes ≡ facts_of (exchange LAG c past) →
    option_to_list closed ≡ closed_now LAG (on_channel c past) → texts f (map (closed_row c notes) (option_to_list closed)) ≡ texts f (rows_now LAG c past)
rows-by f c notes past closed facts is =
    ap (λ n. texts f (map (closed_row c n) (option_to_list closed))) facts ∙ ap (λ xs. texts f (map (closed_row c (facts_of (exchange LAG c past))) xs)) is

-- ---- idle listers

none-is : {T : Type 0} (o : Option T) → is_none o ≡ true → o ≡ None
none-is None is = refl
none-is (Some x) is = absurd (cc)

both-true : (a b : Bool) → (a && b) ≡ true → (a ≡ true) × (b ≡ true)
both-true true b is = (refl, is)
both-true false b is = absurd (cc)

pub record AreIdle (a b : ChannelLister) : Type 0 where
  pub rests_a : a.running ≡ None
  pub none_a : a.waiting ≡ None
  pub rests_b : b.running ≡ None
  pub none_b : b.waiting ≡ None

pub are-idle : (a b : ChannelLister) → (is_idle_on a && is_idle_on b) ≡ true → AreIdle a b
are-idle a b idle =
    let parts = both-true (is_idle_on a) (is_idle_on b) idle in
    let x = both-true (is_none a.running) (is_none a.waiting) parts.0 in
    let y = both-true (is_none b.running) (is_none b.waiting) parts.1 in
    record {
      rests_a = none-is a.running x.0;
      none_a = none-is a.waiting x.1;
      rests_b = none-is b.running y.0;
      none_b = none-is b.waiting y.1;
    }

-- ---- what is open at the end

open-by : (c : Channel) (waits : Option Waiting) (run : Bool) (first : ℕ) (noted kept before : Option ℕ) → (run ≡ true → kept ≡ before) →
    row_of_open LAG c (open_of (if run then Some first else None) waits) (if is_some waits then noted else kept)
    ≡ row_of_open LAG c (open_of (if run then Some first else None) waits) (if is_some waits then noted else before)
open-by c (Some w) run first noted kept before same = refl
open-by c None true first noted kept before same = ap (row_of_open LAG c (Some first)) (same refl)
open-by c None false first noted kept before same = refl

pub open-row : (rows : ChannelRows) (c : Channel) (past : List Pair) (first gap : Option ℕ) → ChannelRowsStand rows c past →
    first ≡ open_of rows.lister.running rows.lister.waiting → gap ≡ (if is_some rows.lister.waiting then rows.notes.gap else rows.gap) →
    row_of_open LAG c first gap ≡ open_rows LAG c past
open-row rows c past first gap s f g =
    let own : List Sample = on_channel c past in
    let first-is : first ≡ open_of (running_on LAG own) (awaited LAG own) =
    f ∙ ap (λ r. open_of r rows.lister.waiting) s.lister.running ∙ ap (open_of (running_on LAG own)) s.lister.waiting in
    let noted : gap ≡ (if is_some (awaited LAG own) then (facts_of (exchange LAG c past)).gap else rows.gap) =
    g ∙ ap (λ (w : Option Waiting). if is_some w then rows.notes.gap else rows.gap) s.lister.waiting
    ∙ ap (λ (n : Facts). if is_some (awaited LAG own) then n.gap else rows.gap) s.told.facts in
    ap (λ o. row_of_open LAG c o gap) first-is
    ∙ ap (row_of_open LAG c (open_of (running_on LAG own) (awaited LAG own))) noted
    ∙ open-by c (awaited LAG own) (runs LAG own) (first_tick LAG own) (facts_of (exchange LAG c past)).gap rows.gap (gap_before past (first_tick LAG own)) s.told.gap
    ∙ ap (λ o. row_of_open LAG c o (open_gap LAG c past)) (sym (open-channel LAG c past))

-- the whole text, by the rows that are added at the end
pub text-parts : (f : Format) (past : List Pair) → table_text LAG f past
    ≡ table_lines LAG f past ++ ((texts f (open_rows LAG A past) ++ texts f (open_rows LAG B past)) ++ end_text f (length past) (length (all_rows LAG past)))
unfolding table_text table_lines
text-parts f past =
    let r : List ℕ = texts f (rows LAG past) in
    let a : List ℕ = texts f (open_rows LAG A past) in
    let b : List ℕ = texts f (open_rows LAG B past) in
    let e : List ℕ = end_text f (length past) (length (all_rows LAG past)) in
    ap (λ xs. (names_text f ++ xs) ++ e) (flat_map-append (row_text f) (rows LAG past) (open_rows LAG A past ++ open_rows LAG B past)
    ∙ ap (λ xs. r ++ xs) (flat_map-append (row_text f) (open_rows LAG A past) (open_rows LAG B past)))
    ∙ ap (λ xs. xs ++ e) (sym (append_assoc (names_text f) r (a ++ b))) ∙ append_assoc (names_text f ++ r) (a ++ b) e

pub all-count : (past : List Pair) → length (all_rows LAG past) ≡ length (rows LAG past) + (length (open_rows LAG A past) + length (open_rows LAG B past))
all-count past = length-append (rows LAG past) (open_rows LAG A past ++ open_rows LAG B past)
    ∙ ap (λ n. length (rows LAG past) + n) (length-append (open_rows LAG A past) (open_rows LAG B past))

pub no-lines : (f : Format) → table_lines LAG f [] ≡ names_text f
unfolding table_lines rows
no-lines f = append-nil (names_text f)
