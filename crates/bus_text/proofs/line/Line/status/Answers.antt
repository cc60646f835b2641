use Rattle.std.proofs.Common.{append_assoc, codes}
use Rattle.bus_text.specs.Texts.{word}
use Rattle.bus_text.proofs.line.Line.status.Goals as goal

pub returns-in-Some-clause-text : goal.returns-in-Some-clause-text
returns-in-Some-clause-text c =
    rw (c.word.ensures.text, c.text.ensures.text, c.bits.ensures, c.in-Some.is)
    (append_assoc c.args.self.now (codes " status") (word c.in-Some.status))
