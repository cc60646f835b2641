use Rattle.bus_tool.proofs.Benching.{bench-ran, bench-wanted}
use Rattle.bus_tool.proofs.bench.bench.Goals as goal

pub returns-in-Err : goal.returns-in-Err
returns-in-Err g c = bench-wanted _ _ c.args.number c.args.items

pub returns-in-Ok : goal.returns-in-Ok
returns-in-Ok g c = bench-ran _ _ _ _ _ _ c.args.number c.args.items c.write_line.ensures.later c.requires.items (c.write_line.ensures.wrote c.args.number c.in-Ok.ensures)
