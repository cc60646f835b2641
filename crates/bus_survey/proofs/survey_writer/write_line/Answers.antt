use Rattle.std.proofs.Common.{ap, ◌∙◌}
use Rattle.bus_formats.specs.Logs.{LogData}
use Rattle.bus_survey.specs.Lines.{fault_line}
use Rattle.bus_survey.proofs.survey_writer.write_line.Goals as goal

pub returns-clause-bytes : goal.returns-clause-bytes
returns-clause-bytes g c =
    rw (c.as_bytes.ensures ∙ c.fault_line.ensures ∙ ap (λ l. fault_line c.args.n l) (c.as_slice.ensures.value ∙ ap (λ (l : LogData). l.attempts) c.log.view_is))
    at c.write.ensures.bytes
