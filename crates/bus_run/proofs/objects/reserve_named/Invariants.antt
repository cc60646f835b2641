use Rattle.std.proofs.Common.{◌≡◌, map, length}
use Rattle.bus_run.specs.Rooms.{KeepRoom}
use Rattle.bus_run.proofs.Reserved.{Reserved}
use Rattle.bus_run.proofs.objects.reserve_named.Given as goal

-- what the objects tell and say stays, none loses room, and those of the addresses before this one have room
abbrev pub invariant-loop-address : goal.invariant-loop-address
invariant-loop-address g l =
    record {
      told : map (λ b. (goal.Subsystem-dyn g (b.vtable, b.value)).told b.value) l.subsystems.items
          ≡ map (λ b. (goal.Subsystem-dyn g (b.vtable, b.value)).told b.value) l.fn.subsystems.items;
      said : map (λ b. (goal.Subsystem-dyn g (b.vtable, b.value)).said b.value) l.subsystems.items
          ≡ map (λ b. (goal.Subsystem-dyn g (b.vtable, b.value)).said b.value) l.fn.subsystems.items;
      spare : KeepRoom (map (λ b. (goal.Subsystem-dyn g (b.vtable, b.value)).spare b.value) l.fn.subsystems.items)
          (map (λ b. (goal.Subsystem-dyn g (b.vtable, b.value)).spare b.value) l.subsystems.items);
      len : length l.subsystems.items ≡ length l.fn.subsystems.items;
      reserved : Reserved l.n l.named l.address (map (λ b. (goal.Subsystem-dyn g (b.vtable, b.value)).spare b.value) l.subsystems.items);
    }
