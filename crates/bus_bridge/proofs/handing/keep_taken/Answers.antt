use Rattle.std.proofs.Common.{◌∙◌, ◌++◌, ap, sym, refl, append-nil, arith, length}
use Rattle.std.specs.Prelude.{flat_map}
use Rattle.bus_bridge.specs.Worlds.{handed_on}
use Rattle.bus_bridge.proofs.Kept.{room-more, items-more, take-none, take-whole}
use Rattle.bus_bridge.proofs.handing.keep_taken.Goals as goal

pub loop-block-init : goal.loop-block-init
loop-block-init c = record {
  items = sym (ap (λ xs. c.args.taken.now.items ++ flat_map (handed_on c.args.address c.args.pairs.now) xs) (take-none c.args.blocks.now) ∙ append-nil c.args.taken.now.items);
  capacity = refl;
  blocks = λ each. each;
}

pub keep_one-requires : goal.keep_one-requires
keep_one-requires c =
    (let room = room-more (handed_on c.args.address c.args.pairs.now) c.args.taken.now.items c.loop-block.taken.items c.args.blocks.now c.loop-block.block-index
    c.block-item.result _ c.loop-block-test.true c.block-item.is c.loop-block.invariant.items c.requires in
    let same = c.loop-block.invariant.capacity in omega (arith, room, same))

pub loop-block-preserved : goal.loop-block-preserved
loop-block-preserved c = record {
  items = items-more (handed_on c.args.address c.args.pairs.now) c.args.taken.now.items c.loop-block.taken.items _ c.args.blocks.now c.loop-block.block-index
      c.block-item.result c.loop-block-test.true c.block-item.is c.loop-block.invariant.items c.keep_one.ensures.items;
  capacity = c.keep_one.ensures.capacity ∙ c.loop-block.invariant.capacity;
  blocks = λ each. c.keep_one.ensures.blocks (c.loop-block.invariant.blocks each);
}

pub returns-clause-items : goal.returns-clause-items
returns-clause-items c =
    c.loop-block.invariant.items
    ∙ ap (λ xs. c.args.taken.now.items ++ flat_map (handed_on c.args.address c.args.pairs.now) xs)
    (take-whole c.args.blocks.now c.loop-block.block-index (let past = c.loop-block-test.false in omega (arith, past)))
