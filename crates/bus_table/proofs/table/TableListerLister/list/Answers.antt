use Rattle.std.proofs.Common.{◌≡◌, ◌∷◌, ◌++◌, List, length, refl, ap, sym, ◌∙◌, append_assoc, arith}
use Rattle.bus_base.specs.declared.samples.Channel.TheVariants.{A, B}
use Rattle.bus_line.specs.Channels.{on_channel}
use Rattle.bus_line.specs.declared.cutter.TheConstants.{LAG}
use Rattle.bus_monitor.specs.Progress.{closed_now}
use Rattle.bus_table.specs.Exchanges.{gap_now}
use Rattle.bus_table.specs.Tables.{rows_now}
use Rattle.bus_table.proofs.TableLaws.{texts, gap-of, lines-grow, rows-by, rows-count}
use Rattle.bus_table.proofs.table.TableListerLister.list.Goals as goal

pub hear-a-requires : goal.hear-a-requires
hear-a-requires g c = let (past, s, short) = c.requires.past in (A, past, s.a, sym s.ticks, rw s.ticks short)

pub hear-b-requires : goal.hear-b-requires
hear-b-requires g c = let (past, s, short) = c.requires.past in (B, past, s.b, sym s.ticks, rw s.ticks short)

pub gap_up_to-gap-requires : goal.gap_up_to-gap-requires
gap_up_to-gap-requires g c = let (past, s, short) = c.requires.past in rw s.ticks short

pub returns-clause-stands : goal.returns-clause-stands
returns-clause-stands g c past s =
    let old = c.args.self.now in
    let shown = c.args.shown in
    let now = sym s.ticks in
    let gap : c.gap_up_to-gap.result ≡ gap_now past =
    c.gap_up_to-gap.ensures ∙ gap-of past old.ticks c.stopped-stopped_a.result c.stopped-stopped_b.result c.later.result s.ticks
    (c.stopped-stopped_a.ensures A past s.a now) (c.stopped-stopped_b.ensures B past s.b now) c.later.ensures in
    let closed-a = c.hear-a.ensures.closed A past shown s.a now refl in
    let closed-b = c.hear-b.ensures.closed B past shown s.b now refl in
    let rows-a : c.add_row-rows_a.result ≡ length (closed_now LAG (on_channel A (shown ∷ past))) = c.add_row-rows_a.ensures.rows ∙ ap length closed-a in
    let rows-b : c.add_row-rows_b.result ≡ length (closed_now LAG (on_channel B (shown ∷ past))) = c.add_row-rows_b.ensures.rows ∙ ap length closed-b in
    let few-a = c.add_row-rows_a.ensures.few in
    let few-b = c.add_row-rows_b.ensures.few in
    let all = rows-count shown past in
    let count = s.count in
    let few = s.few in
    let ticks : old.ticks ≡ length past = s.ticks in
    record {
      a = c.hear-a.ensures.stands A past shown s.a now refl gap;
      b = c.hear-b.ensures.stands B past shown s.b now refl gap;
      ticks = omega (arith, ticks);
      count = omega (arith, count, rows-a, rows-b, all);
      few = omega (arith, few, few-a, few-b);
    }

pub returns-clause-lines : goal.returns-clause-lines
returns-clause-lines g c past s =
    let old = c.args.self.now in
    let shown = c.args.shown in
    let f = c.kind-format.result in
    let k = g.F.TableFormat.kind in
    let now = sym s.ticks in
    let gap : c.gap_up_to-gap.result ≡ gap_now past =
    c.gap_up_to-gap.ensures ∙ gap-of past old.ticks c.stopped-stopped_a.result c.stopped-stopped_b.result c.later.result s.ticks
    (c.stopped-stopped_a.ensures A past s.a now) (c.stopped-stopped_b.ensures B past s.b now) c.later.ensures in
    let facts-a = (c.hear-a.ensures.stands A past shown s.a now refl gap).told.facts in
    let facts-b = (c.hear-b.ensures.stands B past shown s.b now refl gap).told.facts in
    let a : List _ = texts f (rows_now LAG A (shown ∷ past)) in
    let b : List _ = texts f (rows_now LAG B (shown ∷ past)) in
    let text-a : c.add_row-rows_a.new.text ≡ c.args.text.now ++ a =
    c.add_row-rows_a.ensures.text ∙ ap (λ xs. c.args.text.now ++ xs) (rows-by f A c.hear-a.new.self.notes (shown ∷ past) c.hear-a.result facts-a
    (c.hear-a.ensures.closed A past shown s.a now refl)) in
    let text-b : c.add_row-rows_b.new.text ≡ c.add_row-rows_a.new.text ++ b =
    c.add_row-rows_b.ensures.text ∙ ap (λ xs. c.add_row-rows_a.new.text ++ xs) (rows-by f B c.hear-b.new.self.notes (shown ∷ past) c.hear-b.result facts-b
    (c.hear-b.ensures.closed B past shown s.b now refl)) in (
      texts k (rows_now LAG A (shown ∷ past)) ++ texts k (rows_now LAG B (shown ∷ past)),
      lines-grow k shown past,
      text-b ∙ ap (λ t. t ++ b) text-a ∙ append_assoc c.args.text.now a b
          ∙ ap (λ h. c.args.text.now ++ (texts h (rows_now LAG A (shown ∷ past)) ++ texts h (rows_now LAG B (shown ∷ past)))) c.kind-format.ensures,
    )
