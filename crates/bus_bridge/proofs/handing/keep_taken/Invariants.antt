use Rattle.std.proofs.Common.{◌≡◌, ◌++◌, take}
use Rattle.std.specs.Prelude.{flat_map, vec_capacity}
use Rattle.std.specs.List.{AllByRecursion as Each}
use Rattle.bus_law_plans.specs.Memories.{IsBlock}
use Rattle.bus_bridge.specs.Worlds.{handed_on}
use Rattle.bus_bridge.proofs.handing.keep_taken.Given as goal

-- what is handed on of the blocks before the index was added
abbrev pub invariant-loop-block : goal.invariant-loop-block
invariant-loop-block l = record {
  items : l.taken.items ≡ l.fn.taken.items ++ flat_map (handed_on l.address l.pairs) (take l.block-index l.blocks);
  capacity : vec_capacity l.taken ≡ vec_capacity l.fn.taken;
  blocks : Each (λ d. IsBlock d.words) l.fn.taken.items → Each (λ d. IsBlock d.words) l.taken.items;
}
