use Rattle.std.proofs.Common.{◌≡◌, ◌≤◌, ◌+◌, ◌*◌, List}
use Rattle.std.specs.Prelude.{vec_len, vec_capacity}
use Rattle.bus_base.specs.declared.samples.Pair.{Pair}
use Rattle.bus_formats.specs.Plans.{PlanData}
use Rattle.bus_run.specs.Parts.{StationsStand}
use Rattle.bus_run.specs.Terminals.{EndsStand, so_far, ArePut}
use Rattle.bus_run.proofs.ends.Ends.gather.Given as goal

-- the terminals with addresses below this one were put
abbrev pub invariant-loop-address : goal.invariant-loop-address
invariant-loop-address l = record {
  addresses : l.self.addresses ≡ l.fn.self.addresses;
  put : (plan : PlanData) (past : List Pair) → EndsStand plan l.fn.self → StationsStand plan l.stations past → ArePut (so_far plan past l.address 0) l.self;
  terminals : vec_len l.self.terminals ≤ vec_len l.fn.self.terminals + 32 * l.address;
  blocks : vec_len l.self.blocks ≤ vec_len l.fn.self.blocks + 960 * l.address;
  terminal_room : vec_capacity l.self.terminals ≡ vec_capacity l.fn.self.terminals;
  block_room : vec_capacity l.self.blocks ≡ vec_capacity l.fn.self.blocks;
}
