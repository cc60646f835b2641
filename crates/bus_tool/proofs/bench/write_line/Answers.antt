use Rattle.std.proofs.Common.{refl, ap, ◌∙◌, inl, subst}
use Rattle.std.specs.Io.KnownBytes.{Appends}
use Rattle.bus_bench.specs.Generated.{bench_plan}
use Rattle.bus_bench.specs.Lines.{bench_line}
use Rattle.bus_tool.specs.Texts.{status_of}
use Rattle.bus_tool.proofs.bench.write_line.Goals as goal

pub returns-in-Ok-clause-wrote : goal.returns-in-Ok-clause-wrote
returns-in-Ok-clause-wrote g c number ran = inl record {
  left = c.args.bus;
  has = refl;
  stands = ran;
  status_is = c.status_of-status.ensures ∙ ap status_of (c.log-in-Ok.ensures.tables (bench_plan number c.args.items) ran);
  written =
      subst (λ text. Appends (g.K.Sink.held c.args.sink.now) (g.K.Sink.held c.write.new.self) text)
      (c.as_bytes.ensures ∙ c.bench_line.ensures ∙ ap (bench_line c.args.items) (c.log.ensures.tables (bench_plan number c.args.items) ran)) c.in-Ok.ensures.bytes;
}
