use Rattle.bus_table.proofs.LineLaws.{lines-closed, lines-whole}
use Rattle.bus_table.proofs.laws.lines_of_messages_are_made_of_rows.Goals as goal

pub returns : goal.returns
returns c = record { closed = lines-closed; whole = lines-whole }
