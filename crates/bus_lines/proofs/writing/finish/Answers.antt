use Rattle.std.proofs.Common.{List, ℕ, ◌++◌, inl, inr, refl, subst}
use Rattle.std.specs.Io.KnownBytes.{Appends}
use Rattle.bus_outside.specs.Causes.{GrowsByFront}
use Rattle.bus_monitor.proofs.WriterLaws.{owed-all, owed-front}
use Rattle.bus_lines.specs.Written.{closing_text}
use Rattle.bus_lines.proofs.ReadLaws.{owed_more}
use Rattle.bus_lines.proofs.writing.finish.Goals as goal

pub returns-in-Ok-clause-closes : goal.returns-in-Ok-clause-closes
returns-in-Ok-clause-closes g c fine all first owed = inl (
  refl,
  owed-all (all ++ closing_text c.args.ending c.args.converter.now) c.add_closing.new.text first (g.K.Sink.held c.args.sink.now) (g.K.Sink.held c.write.new.self)
      (owed_more all (closing_text c.args.ending c.args.converter.now) c.args.text.now c.add_closing.new.text first (g.K.Sink.held c.args.sink.now) c.add_closing.ensures owed)
      (subst (λ (l : List ℕ). Appends (g.K.Sink.held c.args.sink.now) (g.K.Sink.held c.write.new.self) l) c.as_bytes.ensures c.in-Ok.ensures.bytes),
)

pub returns-in-Err-clause-closes : goal.returns-in-Err-clause-closes
returns-in-Err-clause-closes g c fine all first owed = inr (
  refl,
  owed-front (all ++ closing_text c.args.ending c.args.converter.now) c.add_closing.new.text first (g.K.Sink.held c.args.sink.now) (g.K.Sink.held c.write.new.self)
      (owed_more all (closing_text c.args.ending c.args.converter.now) c.args.text.now c.add_closing.new.text first (g.K.Sink.held c.args.sink.now) c.add_closing.ensures owed)
      (subst (λ (l : List ℕ). GrowsByFront (g.K.Sink.held c.args.sink.now) (g.K.Sink.held c.write.new.self) l) c.as_bytes.ensures c.in-Err.ensures.bytes),
  c.in-Err.ensures.cause.failed,
)
