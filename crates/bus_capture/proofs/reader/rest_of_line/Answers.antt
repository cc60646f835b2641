use Rattle.std.proofs.Common.{sym}
use Rattle.bus_capture.proofs.FrontLaws.{front-tick, front-feed}
use Rattle.bus_capture.proofs.reader.rest_of_line.Goals as goal

pub bytes-preserved : goal.bytes-preserved
bytes-preserved c =
    front-tick c.args.piece.now c.bytes.ticks c.bytes.bytes c.bytes.count c.in-Some.shown c.bytes.invariant c.if-count-ticks.true (sym c.in-Some.ensures)

pub returns-in-None : goal.returns-in-None
returns-in-None c =
    front-feed c.args.piece.now c.bytes.ticks c.bytes.bytes c.bytes.count c.bytes.invariant c.bytes-test.true c.if-piece-bytes-eq10.true
