use Rattle.std.proofs.Common.{◌∙◌, ap, length, sym}
use Rattle.std.proofs.lemmas.List.{length-map}
use Rattle.bus_model.specs.World.{is_present}
use Rattle.bus_run.proofs.station_row.StationRow.are_done.Goals as goal

pub are_done-requires : goal.are_done-requires
are_done-requires c =
    let (w, past, st, present) = c.requires in
    ap length c.deref-2.ensures.value ∙ ap length present ∙ length-map w.plan.stations (is_present w.absent) ∙ sym st.all ∙ ap length (sym c.deref.ensures.value)
