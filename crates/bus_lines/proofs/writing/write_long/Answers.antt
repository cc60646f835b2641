use Rattle.std.proofs.Common.{List, ℕ, subst}
use Rattle.bus_outside.specs.Causes.{WriteAdds}
use Rattle.bus_lines.proofs.RestLaws.{written_all}
use Rattle.bus_lines.proofs.writing.write_long.Goals as goal

pub returns-clause-owed : goal.returns-clause-owed
returns-clause-owed g c all first owed =
    rw c.clear.ensures
    (written_all all c.args.text.now first (g.K.Sink.held c.args.sink.now) (g.K.Sink.held c.write-written.new.self) c.write-written.result owed
    (subst (λ (l : List ℕ). WriteAdds (g.K.Sink.held c.args.sink.now) (g.K.Sink.held c.write-written.new.self) c.write-written.result l)
    c.as_bytes-2.ensures c.write-written.ensures.bytes))
