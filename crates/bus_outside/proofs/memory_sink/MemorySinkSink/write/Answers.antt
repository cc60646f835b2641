use Rattle.std.proofs.Common.{rules, inl, inr}
use Rattle.bus_outside.proofs.memory_sink.MemorySinkSink.write.Goals as goal
use Rattle.bus_outside.proofs.memory_sink.MemorySinkSink.write.Goals.{then-contains-via-then-contains, then-contains-via-else-contains+then-piece-self}

pub returns-then-contains-clause-fails : goal.returns-then-contains-clause-fails
returns-then-contains-clause-fails c =
    elim c.then-contains.branch [
      | then-contains-via-then-contains w ↦ inl (search rules)
      | then-contains-via-else-contains+then-piece-self w ↦ inr (search rules)
    ]
