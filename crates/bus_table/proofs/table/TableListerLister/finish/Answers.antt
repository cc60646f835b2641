use Rattle.std.proofs.Common.{◌≡◌, ◌+◌, ◌++◌, List, length, ap, ◌∙◌, arith}
use Rattle.bus_base.specs.declared.samples.Channel.TheVariants.{A, B}
use Rattle.bus_line.specs.declared.cutter.TheConstants.{LAG}
use Rattle.bus_monitor.proofs.OpenLaws.{after-lines}
use Rattle.bus_table.specs.Tables.{row_of_open, open_rows, all_rows}
use Rattle.bus_table.specs.Texts.{end_text}
use Rattle.bus_table.proofs.TableLaws.{texts, open-row, text-parts, all-count}
use Rattle.bus_table.proofs.table.TableListerLister.finish.Goals as goal

pub returns : goal.returns
returns g c past s =
    let old = c.args.self.now in
    let f = c.kind-format.result in
    let k = g.F.TableFormat.kind in
    let rows-a : row_of_open LAG A c.open-open_a.result c.open_gap.result ≡ open_rows LAG A past = open-row old.a A past c.open-open_a.result c.open_gap.result s.a c.open-open_a.ensures c.open_gap.ensures in
    let rows-b : row_of_open LAG B c.open-open_b.result c.open_gap-2.result ≡ open_rows LAG B past = open-row old.b B past c.open-open_b.result c.open_gap-2.result s.b c.open-open_b.ensures c.open_gap-2.ensures in
    let count-a : c.add_open_row-rows_a.result ≡ length (open_rows LAG A past) = c.add_open_row-rows_a.ensures.rows ∙ ap length rows-a in
    let count-b : c.add_open_row-rows_b.result ≡ length (open_rows LAG B past) = c.add_open_row-rows_b.ensures.rows ∙ ap length rows-b in
    let all = all-count past in
    let count = s.count in
    let total : old.rows + (c.add_open_row-rows_a.result + c.add_open_row-rows_b.result) ≡ length (all_rows LAG past) = omega (arith, all, count, count-a, count-b) in
    let a : List _ = texts f (open_rows LAG A past) in
    let b : List _ = texts f (open_rows LAG B past) in
    let e : List _ = end_text f (length past) (length (all_rows LAG past)) in (
      (texts k (open_rows LAG A past) ++ texts k (open_rows LAG B past)) ++ end_text k (length past) (length (all_rows LAG past)),
      text-parts k past,
      c.add_end.ensures ∙ ap (λ n. c.add_open_row-rows_b.new.text ++ end_text f n (old.rows + (c.add_open_row-rows_a.result + c.add_open_row-rows_b.result))) s.ticks
          ∙ ap (λ n. c.add_open_row-rows_b.new.text ++ end_text f (length past) n) total
          ∙ ap (λ t. t ++ e) (c.add_open_row-rows_b.ensures.text ∙ ap (λ rs. c.add_open_row-rows_a.new.text ++ texts f rs) rows-b)
          ∙ ap (λ t. (t ++ b) ++ e) (c.add_open_row-rows_a.ensures.text ∙ ap (λ rs. c.args.text.now ++ texts f rs) rows-a)
          ∙ after-lines c.args.text.now a b e
          ∙ ap (λ h. c.args.text.now ++ ((texts h (open_rows LAG A past) ++ texts h (open_rows LAG B past)) ++ end_text h (length past) (length (all_rows LAG past)))) c.kind-format.ensures,
    )
