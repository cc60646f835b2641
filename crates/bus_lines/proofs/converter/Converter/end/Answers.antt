use Rattle.std.proofs.Common.{sym, ◌∙◌}
use Rattle.bus_lines.specs.Readers as readers
use Rattle.bus_lines.proofs.TellLaws.{took_closing}
use Rattle.bus_lines.proofs.converter.Converter.end.Goals as goal

pub returns-in-Ok-clause-took : goal.returns-in-Ok-clause-took
returns-in-Ok-clause-took g c before first owed =
    took_closing c.args.self.now c.end.new.self c.offset-at.result (readers.closing c.args.self.now.reader) c.in-Ok.closing before c.close.new.self c.close.new.text
    first (g.K.Sink.held c.close.new.sink) c.close.result (sym c.end.ensures.answer ∙ c.in-Ok.is) c.end.ensures.state c.offset-at.ensures
    (c.close.ensures.took before first owed)
