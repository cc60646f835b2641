use Rattle.bus_bench.proofs.MessageRanges.{item-pushed}
use Rattle.std.proofs.Common.{◌∙◌, ap}
use Rattle.bus_bench.specs.Generated.{item_with}
use Rattle.bus_bench.proofs.messages.items_drawn.Goals as goal

pub loop-i-preserved : goal.loop-i-preserved
loop-i-preserved c = record {
  range = c.drawn_after-drawn.ensures.range;
  whole = item-pushed c.loop-i.items.items c.push.new.self.items _ c.loop-i.i c.loop-i.drawn c.drawn_after-drawn.result c.args.number c.args.count c.loop-i-test.true
      c.drawn_after-drawn.ensures.value (c.item_with.ensures ∙ ap item_with c.kind_of.ensures) c.in_ok-push.ensures.items c.loop-i.invariant.whole;
}
