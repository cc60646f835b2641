use Rattle.bus_capture.proofs.ReaderLaws.{refused-stays}
use Rattle.bus_capture.proofs.laws.refusals_stay.Goals as goal

pub returns-clause-answer : goal.returns-clause-answer
returns-clause-answer c bytes refusal byte h = refused-stays bytes refusal byte h
