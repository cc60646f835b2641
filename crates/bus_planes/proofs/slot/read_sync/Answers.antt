use Rattle.std.proofs.Common.{arith}
use Rattle.bus_words.specs.declared.word.Sync.TheVariants.{Command, Datum}
use Rattle.bus_planes.proofs.Shown.{sync-shown, sync-none}
use Rattle.bus_planes.proofs.slot.read_sync.Goals as goal

pub returns-then-first-eq7 : goal.returns-then-first-eq7
returns-then-first-eq7 c = sync-shown c.args.plus Command (omega arith)

pub returns-then-first-eq56 : goal.returns-then-first-eq56
returns-then-first-eq56 c = sync-shown c.args.plus Datum (omega arith)

pub returns-else-first-eq56 : goal.returns-else-first-eq56
returns-else-first-eq56 c = sync-none c.args.plus (λ e. omega arith) (λ e. omega arith)
