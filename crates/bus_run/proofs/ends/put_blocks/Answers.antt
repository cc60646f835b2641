use Rattle.std.proofs.Common.{◌-◌, ◌++◌, ◌∙◌, ap, sym, arith, refl}
use Rattle.std.specs.Prelude.{option_to_list}
use Rattle.bus_run.specs.Terminals.{block_of, blocks_below}
use Rattle.bus_run.proofs.TerminalLaws.{no-blocks, blocks-more}
use Rattle.bus_run.proofs.ends.put_blocks.Goals as goal

pub loop-sub-init : goal.loop-sub-init
loop-sub-init c = record {
  items = sym (no-blocks c.args.blocks.now.items c.args.address c.args.buffers.now);
  used = omega arith;
  room = refl;
}

pub loop-sub-preserved : goal.loop-sub-preserved
loop-sub-preserved c = record {
  items = c.put_block.ensures.items
      ∙ ap (λ xs. xs ++ option_to_list (block_of c.args.address c.loop-sub.sub c.front.result.now)) c.loop-sub.invariant.items
      ∙ ap (λ ws. (c.args.blocks.now.items ++ blocks_below c.args.address c.args.buffers.now (c.loop-sub.sub - 1)) ++ option_to_list
      (block_of c.args.address c.loop-sub.sub ws)) c.front.ensures.block
      ∙ blocks-more c.args.blocks.now.items c.args.address c.args.buffers.now c.loop-sub.sub c.loop-sub.auto.sub;
  used = (let a = c.put_block.ensures.len in let b = c.loop-sub.invariant.used in omega (arith, a, b));
  room = c.put_block.ensures.room ∙ c.loop-sub.invariant.room;
}
