-- What a tick adds to what a lister keeps.
use Rattle.std.proofs.Common.{◌≡◌, ℕ, zero, suc, refl, ◌+◌, ◌-◌, ◌<◌, ◌≤◌, List, [], ◌∷◌, ◌++◌, length, reverse, take, drop, get_or, ap, sym, ◌∙◌, subst, arith}
use Rattle.std.specs.Prelude.{Bool, true, false, ◌&&◌, flat_map, Option, Some, None, is_none}
use Rattle.std.specs.Prelude.{if◌then◌else◌}
use Rattle.bus_base.specs.Samples.{quiet_pair, is_quiet, sample_on}
use Rattle.bus_base.specs.declared.samples.Channel.{Channel}
use Rattle.bus_base.specs.declared.samples.Channel.TheVariants.{A, B}
use Rattle.bus_base.specs.declared.samples.Pair.{Pair}
use Rattle.bus_base.specs.declared.samples.Sample.{Sample}
use Rattle.bus_base.specs.declared.samples.Sample.TheVariants.{Plus, Minus, Quiet}
use Rattle.bus_line.specs.Channels.{on_channel, quiet_both}
use Rattle.bus_line.specs.Cutting.{cut_now}
use Rattle.bus_line.specs.Past.{Burst, Slot, runs, first_tick, slot_now}
use Rattle.bus_line.specs.declared.cutter.Cut.TheVariants as cuts
use Rattle.bus_line.specs.declared.cutter.TheConstants.{LAG}
use Rattle.bus_line.proofs.CutNow.{now-idle}
use Rattle.bus_monitor.specs.Channels.{ChannelListerStands, is_idle_on}
use Rattle.bus_monitor.specs.Messages.{Closed, Waiting}
use Rattle.bus_monitor.specs.Parts.{CloseNone, InTime}
use Rattle.bus_monitor.proofs.ChannelLaws.{length-on_channel}
use Rattle.bus_monitor.specs.Progress.{closed_now}
use Rattle.bus_monitor.specs.Awaited.{awaited}
use Rattle.bus_monitor.specs.declared.channel_lister.ChannelLister.{ChannelLister}
use Rattle.bus_monitor.proofs.IdleLaws.{none-if}
use Rattle.bus_monitor.proofs.ListerLaws.{tells-cut}
use Rattle.bus_planes.specs.Still.{TellNothing}
use Rattle.bus_base.specs.Samples.{quiet_pairs}
use Rattle.std.proofs.lemmas.List.{get_or-drop, length-drop, reverse-append}
use Rattle.std.proofs.lemmas.List.FromFn.{length-map-range_with_len}
use Rattle.std.proofs.lemmas.Grind.{take_at_read}
use Rattle.bus_capture.specs.Blocks.{tick_in, ticks_of}
use Rattle.bus_capture.specs.declared.block.Block.{Block}
use Rattle.bus_line.specs.Past.{quiet_ticks}
use Rattle.bus_monitor.specs.Parts.{part}
use Rattle.bus_monitor.proofs.IdleLaws.{idle-ticks}
use Rattle.bus_monitor.proofs.PartLaws.{on-append, tick-at}
use Rattle.bus_monitor.proofs.QuietLaws.{on-quiet}
use Rattle.bus_wave.specs.Delays.{LineStands, Marked, kept}
use Rattle.bus_wave.specs.Drawers.{QuietTell, PartTells}
use Rattle.bus_wave.specs.Steps.{told_nothing}
use Rattle.bus_wave.specs.Told.{told_begin, told_by, told_closed, told_now, told_last}
use Rattle.bus_wave.specs.Waves.{begun, gap_of, gap_after, told_on}
use Rattle.bus_wave.specs.declared.delay_line.DelayLine.{DelayLine}
use Rattle.bus_wave.specs.declared.marks.Column.{Column}
use Rattle.bus_line.proofs.PastLaws.{runs-pulse}
use Rattle.bus_wave.proofs.KeptLaws.{with-marks, kept-next, kept-still}
use Rattle.bus_wave.proofs.MarkLaws.{nothing-told}

-- ---- a tick was heard on both channels

pub heard-tick : (l0 l1 l2 l3 : DelayLine) (now quiet : ℕ) (gap : Option ℕ) (x : Pair) (past : List Pair) → now ≡ length past → quiet ≡ quiet_both past →
    gap ≡ gap_of quiet now → LineStands l0 (length past) (kept LAG past) →
    ((known : ℕ → Column) → LineStands l0 now known → LineStands l1 (now + 1) (begun now x known)) →
    Marked l1 l2 (now + 1) A (told_now LAG gap x.a (on_channel A past)) → Marked l2 l3 (now + 1) B (told_now LAG gap x.b (on_channel B past)) →
    LineStands l3 (length (x ∷ past)) (kept LAG (x ∷ past))
heard-tick l0 l1 l2 l3 now quiet gap x past here still is stands begins on-a on-b t early near =
    let gap-is : gap ≡ gap_after past = is ∙ ap (λ q. gap_of q now) still ∙ ap (gap_of (quiet_both past)) here in
    let next : now + 1 ≡ suc (length past) = omega (arith, here) in
    let b : LineStands l1 (suc (length past)) (begun (length past) x (kept LAG past)) =
    subst (λ n. LineStands l1 (suc (length past)) (begun n x (kept LAG past))) here
    (subst (λ n. LineStands l1 n (begun now x (kept LAG past))) next
    (begins (kept LAG past) (subst (λ n. LineStands l0 n (kept LAG past)) (sym here) stands))) in
    let ma : Marked l1 l2 (suc (length past)) A (told_on LAG A x past) =
    subst (λ n. Marked l1 l2 n A (told_now LAG (gap_after past) x.a (on_channel A past))) next
    (subst (λ g. Marked l1 l2 (now + 1) A (told_now LAG g x.a (on_channel A past))) gap-is on-a) in
    let mb : Marked l2 l3 (suc (length past)) B (told_on LAG B x past) =
    subst (λ n. Marked l2 l3 n B (told_now LAG (gap_after past) x.b (on_channel B past))) next
    (subst (λ g. Marked l2 l3 (now + 1) B (told_now LAG g x.b (on_channel B past))) gap-is on-b) in
    mb _ (ma _ b) t early near ∙ kept-next LAG x past t

-- the end was heard on both channels
pub ended-ticks : (l0 l1 l2 l3 : DelayLine) (now : ℕ) (past : List Pair) → now ≡ length past → LineStands l0 (length past) (kept LAG past) →
    ((known : ℕ → Column) → LineStands l0 now known → LineStands l1 (now + 1) (begun now quiet_pair known)) →
    Marked l1 l2 (now + 1) A (told_last LAG (on_channel A past)) → Marked l2 l3 (now + 1) B (told_last LAG (on_channel B past)) →
    LineStands l3 (suc (length past)) (with-marks LAG past quiet_pair (told_last LAG (on_channel A past)) (told_last LAG (on_channel B past)))
ended-ticks l0 l1 l2 l3 now past here stands begins on-a on-b =
    let next : now + 1 ≡ suc (length past) = omega (arith, here) in
    let b : LineStands l1 (suc (length past)) (begun (length past) quiet_pair (kept LAG past)) =
    subst (λ n. LineStands l1 (suc (length past)) (begun n quiet_pair (kept LAG past))) here
    (subst (λ n. LineStands l1 n (begun now quiet_pair (kept LAG past))) next
    (begins (kept LAG past) (subst (λ n. LineStands l0 n (kept LAG past)) (sym here) stands))) in
    let ma : Marked l1 l2 (suc (length past)) A (told_last LAG (on_channel A past)) =
    subst (λ n. Marked l1 l2 n A (told_last LAG (on_channel A past))) next on-a in
    let mb : Marked l2 l3 (suc (length past)) B (told_last LAG (on_channel B past)) =
    subst (λ n. Marked l2 l3 n B (told_last LAG (on_channel B past))) next on-b in
    mb _ (ma _ b)

-- ---- a tick that tells nothing

pub kept-tick : (l0 l1 : DelayLine) (now : ℕ) (x : Pair) (past : List Pair) → now ≡ length past → LineStands l0 (length past) (kept LAG past) →
    ((known : ℕ → Column) → LineStands l0 now known → LineStands l1 (now + 1) (begun now x known)) →
    told_on LAG A x past ≡ [] → told_on LAG B x past ≡ [] → LineStands l1 (length (x ∷ past)) (kept LAG (x ∷ past))
kept-tick l0 l1 now x past here stands begins none-a none-b t early near =
    let next : now + 1 ≡ suc (length past) = omega (arith, here) in
    let b : LineStands l1 (suc (length past)) (begun (length past) x (kept LAG past)) =
    subst (λ n. LineStands l1 (suc (length past)) (begun n x (kept LAG past))) here
    (subst (λ n. LineStands l1 n (begun now x (kept LAG past))) next
    (begins (kept LAG past) (subst (λ n. LineStands l0 n (kept LAG past)) (sym here) stands))) in
    b t early near ∙ kept-still LAG x past t none-a none-b

-- where nothing runs and no message waits, a quiet tick tells nothing
nothing-by : (gap running : Option ℕ) (now : ℕ) (waiting : Option Waiting) → running ≡ None → waiting ≡ None →
    told_nothing LAG gap now Quiet running waiting ≡ []
nothing-by gap running now waiting rests none = rw (rests, none) refl

pub quiet-told : (lister : ChannelLister) (gap : Option ℕ) (past : List Sample) → lister.running ≡ None → lister.waiting ≡ None →
    ChannelListerStands lister past → told_now LAG gap Quiet past ≡ []
quiet-told lister gap past rests none s =
    let off : runs LAG past ≡ false = none-if (runs LAG past) (first_tick LAG past) (sym s.running ∙ rests) in
    let is : cuts.Nothing ≡ cut_now LAG (Quiet ∷ past) = sym (now-idle LAG past off) in
    sym (nothing-told lister gap Quiet past (length past) s refl is) ∙ nothing-by gap lister.running (length past) lister.waiting rests none

none-is : {T : Type 0} (o : Option T) → is_none o ≡ true → o ≡ None
none-is None is = refl
none-is (Some x) is = absurd (cc)

both-true : (a b : Bool) → (a && b) ≡ true → (a ≡ true) × (b ≡ true)
both-true true b is = (refl, is)
both-true false b is = absurd (cc)

-- what idle listers keep of both channels
pub record AreIdle (a b : ChannelLister) : Type 0 where
  pub rests_a : a.running ≡ None
  pub none_a : a.waiting ≡ None
  pub rests_b : b.running ≡ None
  pub none_b : b.waiting ≡ None

pub are-idle : (a b : ChannelLister) → (is_idle_on a && is_idle_on b) ≡ true → AreIdle a b
are-idle a b idle =
    let parts = both-true (is_idle_on a) (is_idle_on b) idle in
    let x = both-true (is_none a.running) (is_none a.waiting) parts.0 in
    let y = both-true (is_none b.running) (is_none b.waiting) parts.1 in
    record {
      rests_a = none-is a.running x.0;
      none_a = none-is a.waiting x.1;
      rests_b = none-is b.running y.0;
      none_b = none-is b.waiting y.1;
    }

-- ticks in which nothing becomes known, and no message closes

pub runs-still : (xs past : List Sample) → TellNothing LAG xs past → runs LAG (xs ++ past) ≡ runs LAG past
runs-still [] past told = refl
runs-still (x ∷ xs) past told = told.1

told-alone : (ran : Bool) (gap : Option ℕ) (x : Sample) (now : ℕ) (waits : Option Waiting) (closed : List Closed) → (ran ≡ false → is_quiet x ≡ true) → closed ≡ [] →
    (if ran then [] else if is_quiet x then flat_map (told_closed LAG) closed else told_begin gap now waits) ≡ []
told-alone true gap x now waits closed quiet none = refl
told-alone false gap x now waits closed quiet none = rw (quiet refl, none) refl

quiet-off : (x : Sample) (own : List Sample) → runs LAG (x ∷ own) ≡ false → is_quiet x ≡ true
quiet-off Quiet own off = refl
quiet-off Plus own off = absurd (let on : runs LAG (Plus ∷ own) ≡ true = runs-pulse LAG Plus own refl in cc)
quiet-off Minus own off = absurd (let on : runs LAG (Minus ∷ own) ≡ true = runs-pulse LAG Minus own refl in cc)

pub still-told : (gap : Option ℕ) (x : Sample) (xs past : List Sample) → TellNothing LAG (x ∷ xs) past → closed_now LAG (x ∷ (xs ++ past)) ≡ [] →
    told_now LAG gap x (xs ++ past) ≡ []
still-told gap x xs past told none =
    let own : List Sample = xs ++ past in
    let tells = tells-cut LAG x own cuts.Nothing (sym told.0) in
    ap (λ (e : Option Burst). told_by LAG gap x own e (slot_now LAG (x ∷ own))) tells.0 ∙ ap (λ (e : Option Slot). told_by LAG gap x own None e) tells.1
    ∙ told-alone (runs LAG own) gap x (length own) (awaited LAG own) (closed_now LAG (x ∷ own))
    (λ off. quiet-off x own (told.1 ∙ sym (runs-still xs past told.2) ∙ off)) none

-- ---- many ticks at once

long-ticks : (block : Block) → length (ticks_of block) ≡ block.ticks
unfolding ticks_of
long-ticks block = length-map-range_with_len (tick_in block) 0 block.ticks

-- one tick more of a block
pub part-more : (block : Block) (at n : ℕ) → at + n < block.ticks → part block at (suc n) ≡ tick_in block (at + n) ∷ part block at n
part-more block at n h =
    let long : length (drop at (ticks_of block)) ≡ length (ticks_of block) - at = length-drop at (ticks_of block) in
    let all : length (ticks_of block) ≡ block.ticks = long-ticks block in
    let within : n < length (drop at (ticks_of block)) = omega (arith, long, all, h) in
    let e : suc n ≡ n + 1 = omega arith in
    ap (λ m. reverse (take m (drop at (ticks_of block)))) e
    ∙ ap reverse (take_at_read (drop at (ticks_of block)) n quiet_pair within).1
    ∙ reverse-append (take n (drop at (ticks_of block))) (get_or (drop at (ticks_of block)) n quiet_pair ∷ [])
    ∙ ap (λ x. x ∷ part block at n) (get_or-drop at (ticks_of block) n quiet_pair ∙ tick-at block (at + n) quiet_pair h)

-- quiet ticks tell nothing to idle listers
pub idle-quiet : (a b : ChannelLister) (n : ℕ) (past : List Pair) → AreIdle a b → ChannelListerStands a (on_channel A past) →
    ChannelListerStands b (on_channel B past) → QuietTell n past
idle-quiet a b n past idle sa sb i few =
    let gap : Option ℕ = gap_after (quiet_pairs i ++ past) in (
      ap (told_now LAG gap Quiet) (on-quiet A i past)
          ∙ quiet-told a gap (quiet_ticks i ++ on_channel A past) idle.rests_a idle.none_a (idle-ticks a i (on_channel A past) idle.rests_a idle.none_a sa),
      ap (told_now LAG gap Quiet) (on-quiet B i past)
          ∙ quiet-told b gap (quiet_ticks i ++ on_channel B past) idle.rests_b idle.none_b (idle-ticks b i (on_channel B past) idle.rests_b idle.none_b sb),
    )

-- ticks of a block in which nothing becomes known and no message closes, on one channel
pub record StillOn (c : Channel) (block : Block) (at n : ℕ) (past : List Pair) : Type 0 where
  pub tells : TellNothing LAG (on_channel c (part block at n)) (on_channel c past)
  pub closes : CloseNone (on_channel c (part block at n)) (on_channel c past)

-- of the first of them that holds too
fewer : (c : Channel) (block : Block) (at n d : ℕ) (past : List Pair) → at + (n + d) ≤ block.ticks → StillOn c block at (n + d) past → StillOn c block at n past
fewer c block at n zero past within s = let same : n + 0 ≡ n = omega arith in subst (λ m. StillOn c block at m past) same s
fewer c block at n (suc d) past within s =
    let next : n + suc d ≡ suc (n + d) = omega arith in
    let whole : StillOn c block at (suc (n + d)) past = subst (λ m. StillOn c block at m past) next s in
    let parts : part block at (suc (n + d)) ≡ tick_in block (at + (n + d)) ∷ part block at (n + d) = part-more block at (n + d) (omega (arith, within)) in
    let tells : TellNothing LAG (on_channel c (tick_in block (at + (n + d)) ∷ part block at (n + d))) (on_channel c past) =
    subst (λ ts. TellNothing LAG (on_channel c ts) (on_channel c past)) parts whole.tells in
    let closes : CloseNone (on_channel c (tick_in block (at + (n + d)) ∷ part block at (n + d))) (on_channel c past) =
    subst (λ ts. CloseNone (on_channel c ts) (on_channel c past)) parts whole.closes in
    fewer c block at n d past (omega (arith, within)) record { tells = tells.2; closes = closes.1 }

-- so none of them tells anything
told-none : (c : Channel) (block : Block) (at n i : ℕ) (past : List Pair) → at + n ≤ block.ticks → i < n → StillOn c block at n past →
    told_on LAG c (tick_in block (at + i)) (part block at i ++ past) ≡ []
told-none c block at n i past within few s =
    let x : Pair = tick_in block (at + i) in
    let all : suc i + (n - suc i) ≡ n = omega (arith, few) in
    let up : StillOn c block at (suc i) past =
    fewer c block at (suc i) (n - suc i) past (omega (arith, within, all)) (subst (λ m. StillOn c block at m past) (sym all) s) in
    let parts : part block at (suc i) ≡ x ∷ part block at i = part-more block at i (omega (arith, within, few)) in
    let tells : TellNothing LAG (sample_on x c ∷ on_channel c (part block at i)) (on_channel c past) =
    subst (λ ts. TellNothing LAG (on_channel c ts) (on_channel c past)) parts up.tells in
    let closes : CloseNone (sample_on x c ∷ on_channel c (part block at i)) (on_channel c past) =
    subst (λ ts. CloseNone (on_channel c ts) (on_channel c past)) parts up.closes in
    ap (told_now LAG (gap_after (part block at i ++ past)) (sample_on x c)) (on-append c (part block at i) past)
    ∙ still-told (gap_after (part block at i ++ past)) (sample_on x c) (on_channel c (part block at i)) (on_channel c past) tells closes.0

pub part-tells : (block : Block) (at n : ℕ) (past : List Pair) → at + n ≤ block.ticks → StillOn A block at n past → StillOn B block at n past →
    PartTells block at n past
part-tells block at n past within a b i few = (told-none A block at n i past within few a, told-none B block at n i past within few b)

-- a channel's lister passed ticks of a block
pub record Passed (new : ChannelLister) (c : Channel) (block : Block) (at n : ℕ) (past : List Pair) : Type 0 where
  pub stands : ChannelListerStands new (on_channel c (part block at n ++ past))
  pub still : StillOn c block at n past

-- what its call says, of the samples that bits show
pub passed : (old new : ChannelLister) (c : Channel) (block : Block) (at n now : ℕ) (past : List Pair) (shown : List Sample) →
    on_channel c (part block at n) ≡ shown → now ≡ length past → InTime old now n → ChannelListerStands old (on_channel c past) →
    ((own : List Sample) → ChannelListerStands old own → InTime old (length own) n → ChannelListerStands new (shown ++ own)) →
    ((own : List Sample) → ChannelListerStands old own → InTime old (length own) n → CloseNone shown own) →
    ((own : List Sample) → ChannelListerStands old own → TellNothing LAG shown own) → Passed new c block at n past
passed old new c block at n now past shown is here time s stands closes tells =
    let own : List Sample = on_channel c past in
    let soon : InTime old (length own) n = subst (λ m. InTime old m n) (here ∙ sym (length-on_channel c past)) time in
    record {
      stands = subst (ChannelListerStands new) (sym (on-append c (part block at n) past ∙ ap (λ xs. xs ++ own) is)) (stands own s soon);
      still = record {
        tells = subst (λ xs. TellNothing LAG xs own) (sym is) (tells own s);
        closes = subst (λ xs. CloseNone xs own) (sym is) (closes own s soon);
      };
    }
