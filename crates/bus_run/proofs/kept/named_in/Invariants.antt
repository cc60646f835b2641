use Rattle.std.proofs.Common.{◌≡◌, take, map, length}
use Rattle.std.specs.List.{range_with_len}
use Rattle.bus_run.specs.Kept.{named_at}
use Rattle.bus_run.proofs.kept.named_in.Given as goal

-- the subsystems of the addresses before this one
abbrev pub invariant-loop-address : goal.invariant-loop-address
invariant-loop-address l = record {
  whole : length l.all ≡ 31;
  filled : take l.address l.all ≡ map (λ a. named_at a l.stations) (range_with_len 0 l.address);
}
