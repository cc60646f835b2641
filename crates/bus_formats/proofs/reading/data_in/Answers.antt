use Rattle.std.proofs.Common.{◌∙◌, sym}
use Rattle.bus_formats.proofs.Data.{data-other}
use Rattle.bus_formats.proofs.reading.data_in.Goals as goal

pub returns-then-slots-from : goal.returns-then-slots-from
returns-then-slots-from c = data-other c.args.count c.args.slots.now (λ e. c.if-slots-from.true (e ∙ sym c.from.ensures))
