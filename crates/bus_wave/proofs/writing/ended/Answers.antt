use Rattle.std.proofs.Common.{inr, sym}
use Rattle.bus_wave.proofs.writing.ended.Goals as goal

pub returns-in-Ok-clause-read : goal.returns-in-Ok-clause-read
returns-in-Ok-clause-read c bytes left end h = (end, sym (c.in-Ok.ensures bytes h.reader))

pub returns-in-Err-clause-read : goal.returns-in-Err-clause-read
returns-in-Err-clause-read c bytes left end h = inr (end, sym (c.in-Err.ensures bytes h.reader))
