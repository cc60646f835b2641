use Rattle.std.proofs.Common.{◌≡◌, ℕ, suc, List, ◌++◌, ap, ◌∙◌, subst}
use Rattle.std.specs.Prelude.{codes}
use Rattle.bus_capture.specs.Captures.{header}
use Rattle.bus_recording.specs.Vcd.{text_limit}
use Rattle.bus_lines.specs.Written.{ReadLast}
use Rattle.bus_lines.specs.declared.converter.Converter.{Converter}
use Rattle.bus_lines.proofs.ReadLaws.{converted, converted_cause}
use Rattle.bus_lines.proofs.writing.write_capture.Goals as goal

pub returns-clause-converted : goal.returns-clause-converted
returns-clause-converted g c =
    let begun : c.text.new.self ≡ header = c.text.ensures.text ∙ ap (λ (l : List ℕ). l ++ codes "1553 capture 1\n") c.new-text.ensures in
    converted c.args.reader (g.S.Source.left c.args.source.now) (g.S.Source.left c.read_all-ending.new.source) (g.K.Sink.held c.args.sink.now)
    (g.K.Sink.held c.read_all-ending.new.sink) (g.K.Sink.held c.finish.new.sink) c.read_all-ending.new.converter c.read_all-ending.new.text
    (g.K.Sink.faults c.read_all-ending.new.sink) (g.K.Sink.faults c.finish.new.sink) c.read_all-ending.result c.finish.result
    (subst
    (λ (x : Converter).
    ReadLast (suc text_limit) (g.S.Source.left c.args.source.now) (g.S.Source.left c.read_all-ending.new.source) x c.read_all-ending.new.converter header
    c.read_all-ending.new.text (g.K.Sink.held c.args.sink.now) (g.K.Sink.held c.read_all-ending.new.sink) c.read_all-ending.result)
    c.new-converter.ensures
    (subst
    (λ (l : List ℕ).
    ReadLast (suc text_limit) (g.S.Source.left c.args.source.now) (g.S.Source.left c.read_all-ending.new.source) c.new-converter.result
    c.read_all-ending.new.converter l c.read_all-ending.new.text (g.K.Sink.held c.args.sink.now) (g.K.Sink.held c.read_all-ending.new.sink)
    c.read_all-ending.result)
    begun c.read_all-ending.ensures.read))
    record { fault = c.finish.ensures.fault; closes = c.finish.ensures.closes; later = c.finish.ensures.later }

pub returns-clause-cause : goal.returns-clause-cause
returns-clause-cause g c =
    converted_cause c.read_all-ending.new.converter c.read_all-ending.new.text (g.K.Sink.held c.read_all-ending.new.sink) (g.K.Sink.held c.finish.new.sink)
    (g.S.Source.faults c.args.source.now) (g.S.Source.faults c.read_all-ending.new.source) (g.K.Sink.faults c.args.sink.now)
    (g.K.Sink.faults c.read_all-ending.new.sink) (g.K.Sink.faults c.finish.new.sink) c.read_all-ending.result c.finish.result c.read_all-ending.ensures.cause
    record { fault = c.finish.ensures.fault; closes = c.finish.ensures.closes; later = c.finish.ensures.later }
