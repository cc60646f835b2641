use Rattle.bus_run.specs.Joined.{JoinedStands}
use Rattle.bus_run.proofs.DoneLaws.{over-then, over-test}
use Rattle.bus_run.proofs.joined.JoinedBus.is_over.Goals as goal

pub are_done-requires : goal.are_done-requires
unfolding JoinedStands
are_done-requires c =
    let (w, found, count, trace, st) = c.requires in
    (w, trace.shown, st.row.stations, st.row.present_are)

pub returns-then-quiet-ge-ENDING_QUIET : goal.returns-then-quiet-ge-ENDING_QUIET
unfolding JoinedStands
returns-then-quiet-ge-ENDING_QUIET c w found count trace st =
    over-then c.quiet.result _ _ c.are_done.result (c.quiet.ensures trace.shown st.row.receiver) c.if-quiet-ge-ENDING_QUIET.true
    (c.are_done.ensures w trace.shown st.row.stations st.row.present_are)

pub returns-else-quiet-ge-ENDING_QUIET : goal.returns-else-quiet-ge-ENDING_QUIET
unfolding JoinedStands
returns-else-quiet-ge-ENDING_QUIET c w found count trace st =
    over-test c.quiet.result _ _ (c.quiet.ensures trace.shown st.row.receiver) c.if-quiet-ge-ENDING_QUIET.false
