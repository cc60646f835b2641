use Rattle.std.proofs.Common.{string_bytes}
use Rattle.bus_lines.proofs.WordLaws.{none_short}
use Rattle.bus_lines.proofs.words.reader_of.Goals as goal

pub returns-in_default : goal.returns-in_default
returns-in_default c = none_short string_bytes c.args.words.now c.in_default.len_below
