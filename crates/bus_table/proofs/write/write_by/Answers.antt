use Rattle.std.proofs.Common.{ap, sym, ◌∙◌}
use Rattle.bus_table.specs.Texts.{names_text}
use Rattle.bus_table.proofs.TableLaws.{no-lines}
use Rattle.bus_table.proofs.write.write_by.Goals as goal

pub returns-clause-listed : goal.returns-clause-listed
returns-clause-listed g c = c.list_from-listing.ensures.listed.listed

pub list_from-listing-requires-clause-lines : goal.list_from-listing-requires-clause-lines
list_from-listing-requires-clause-lines g c = no-lines g.F.TableFormat.kind ∙ ap names_text (sym c.kind.ensures) ∙ sym c.names-names.ensures.text
