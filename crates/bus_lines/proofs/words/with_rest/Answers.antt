use Rattle.std.proofs.Common.{string_bytes}
use Rattle.bus_lines.proofs.WordLaws.{none_long}
use Rattle.bus_lines.proofs.words.with_rest.Goals as goal

pub returns-in_default : goal.returns-in_default
returns-in_default c = none_long string_bytes c.args.kind.now c.args.first.now c.args.second.now c.args.rest.now c.in_default.len_at_least
