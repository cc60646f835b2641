use Rattle.std.proofs.Common.{◌≡◌, ◌≤◌, ◌+◌, ◌*◌, List, map}
use Rattle.std.specs.Prelude.{vec_len, vec_capacity}
use Rattle.bus_base.specs.declared.samples.Pair.{Pair}
use Rattle.bus_formats.specs.Plans.{PlanData}
use Rattle.bus_run.specs.Parts.{StationsStand}
use Rattle.bus_run.specs.Terminals.{so_far, ArePut}
use Rattle.bus_run.proofs.ends.Ends.put_address.Given as goal

-- the terminals with the address before the place were put
abbrev pub invariant-loop-place : goal.invariant-loop-place
invariant-loop-place l = record {
  addresses : l.self.addresses ≡ l.fn.self.addresses;
  put : (plan : PlanData) (past : List Pair) → l.fn.self.addresses.items ≡ map (λ s. s.terminal.address) plan.stations → StationsStand plan l.stations past →
      ArePut (so_far plan past l.address 0) l.fn.self → ArePut (so_far plan past l.address l.place) l.self;
  terminals : vec_len l.self.terminals ≤ vec_len l.fn.self.terminals + l.place;
  blocks : vec_len l.self.blocks ≤ vec_len l.fn.self.blocks + 30 * l.place;
  terminal_room : vec_capacity l.self.terminals ≡ vec_capacity l.fn.self.terminals;
  block_room : vec_capacity l.self.blocks ≡ vec_capacity l.fn.self.blocks;
}
