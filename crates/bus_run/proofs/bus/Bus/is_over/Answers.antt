use Rattle.std.proofs.Common.{◌∙◌, []}
use Rattle.bus_line.specs.declared.cutter.TheConstants.{LAG}
use Rattle.bus_model.specs.World.{world}
use Rattle.bus_run.specs.Settings.{alone}
use Rattle.bus_run.specs.Stands.{BusStands}
use Rattle.bus_run.proofs.DoneLaws.{over-then}
use Rattle.bus_run.proofs.bus.Bus.is_over.Goals as goal

pub are_done-requires : goal.are_done-requires
unfolding BusStands
are_done-requires c =
    let (plan, t, st) = c.requires in
    (alone plan, world LAG plan [] [] [] t, st.row.stations, st.row.present_are)

pub returns-then-quiet-ge-ENDING_QUIET : goal.returns-then-quiet-ge-ENDING_QUIET
unfolding BusStands
returns-then-quiet-ge-ENDING_QUIET c plan t st =
    over-then c.quiet.result _ _ c.are_done.result (c.quiet.ensures ∙ st.monitor.quiet_is) c.if-quiet-ge-ENDING_QUIET.true
    (c.are_done.ensures (alone plan) (world LAG plan [] [] [] t) st.row.stations st.row.present_are)
