use Rattle.std.proofs.Common.{drop, ap, ◌∙◌}
use Rattle.std.specs.Prelude.{flat_map, option_to_list}
use Rattle.bus_formats.specs.Readings.{datum_in}
use Rattle.bus_table.proofs.NoteLaws.{front-take}
use Rattle.bus_table.proofs.notes.words_behind.Goals as goal

pub returns : goal.returns
returns c whole kept =
    c.words_after.ensures
    ∙ ap (λ xs. flat_map (λ slot. option_to_list (datum_in slot)) (drop 1 xs)) (front-take c.args.slots.now whole c.min-many.result kept c.min-many.ensures)
