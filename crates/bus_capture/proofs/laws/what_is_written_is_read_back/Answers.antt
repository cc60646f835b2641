use Rattle.std.proofs.Common.{arith}
use Rattle.bus_capture.proofs.RoundTrip.{round-trip}
use Rattle.bus_capture.proofs.WriterLaws.{whole-line}
use Rattle.bus_capture.proofs.laws.what_is_written_is_read_back.Goals as goal

pub returns-clause-same : goal.returns-clause-same
returns-clause-same c past room = round-trip past room

pub returns-clause-lines : goal.returns-clause-lines
returns-clause-lines c line later whole = whole-line 0 line later (omega (arith, whole)) (omega arith)
