use Rattle.std.proofs.Common.{arith}
use Rattle.bus_line.proofs.Guessed.{word_in-read}
use Rattle.bus_planes.proofs.Shown.{read-shown, quiet-none}
use Rattle.bus_planes.proofs.slot.read_slot.Goals as goal

pub returns-then-heard-eq-ALL_HEARD-clause-reads : goal.returns-then-heard-eq-ALL_HEARD-clause-reads
returns-then-heard-eq-ALL_HEARD-clause-reads c samples bits = read-shown c.args.heard c.args.plus samples _ bits (omega arith) c.read_shown.ensures

pub returns-then-heard-eq-ALL_HEARD-clause-value : goal.returns-then-heard-eq-ALL_HEARD-clause-value
returns-then-heard-eq-ALL_HEARD-clause-value c samples bits = word_in-read samples _ (read-shown c.args.heard c.args.plus samples _ bits (omega arith) c.read_shown.ensures)

pub returns-else-heard-eq-ALL_HEARD-clause-reads : goal.returns-else-heard-eq-ALL_HEARD-clause-reads
returns-else-heard-eq-ALL_HEARD-clause-reads c samples bits = quiet-none c.args.heard c.args.plus samples bits (λ e. omega arith)

pub returns-else-heard-eq-ALL_HEARD-clause-value : goal.returns-else-heard-eq-ALL_HEARD-clause-value
returns-else-heard-eq-ALL_HEARD-clause-value c samples bits = word_in-read samples _ (quiet-none c.args.heard c.args.plus samples bits (λ e. omega arith))
