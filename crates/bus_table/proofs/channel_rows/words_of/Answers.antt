use Rattle.std.proofs.Common.{◌∙◌}
use Rattle.bus_table.proofs.channel_rows.words_of.Goals as goal

pub returns : goal.returns
returns c whole kept = c.words_behind.ensures whole (c.as_slice.ensures.value ∙ kept)
