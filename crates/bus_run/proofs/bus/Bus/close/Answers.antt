use Rattle.std.proofs.Common.{◌∙◌, [], ap, sym, subst}
use Rattle.bus_line.specs.declared.cutter.TheConstants.{LAG}
use Rattle.bus_model.specs.World.{world}
use Rattle.bus_law_run.specs.WorldIsRun.{plan_end}
use Rattle.bus_run.specs.Parts.{StationsStand}
use Rattle.bus_run.specs.Stands.{BusStands, FinishedStands}
use Rattle.bus_run.proofs.BusLaws.{log-is}
use Rattle.bus_run.proofs.TableRun.{of-plan}
use Rattle.bus_run.proofs.bus.Bus.close.Goals as goal

pub gather-terminals-requires : goal.gather-terminals-requires
unfolding BusStands
gather-terminals-requires c =
    let (plan, st) = c.requires in (
      plan,
      world LAG plan [] [] [] (plan_end plan),
      st.ends,
      subst (λ ss. StationsStand plan ss (world LAG plan [] [] [] (plan_end plan)))
          (sym (c.deref.ensures.value ∙ c.into_parts-stations.ensures.stations)) st.row.stations,
    )

pub returns : goal.returns
unfolding BusStands FinishedStands
returns c plan st =
    let t = plan_end plan in
    let past = world LAG plan [] [] [] t in
    let stations : StationsStand plan c.deref.result.now past =
    subst (λ ss. StationsStand plan ss past) (sym (c.deref.ensures.value ∙ c.into_parts-stations.ensures.stations)) st.row.stations in
    let found = log-is plan t _ (c.into_parts-stations.ensures.attempts ∙ st.row.attempts_are) (c.into_lists-words.ensures.words ∙ st.monitor.lists.words_are)
    (c.into_lists-words.ensures.bursts ∙ st.monitor.lists.bursts_are) (c.gather-terminals.ensures.terminals plan past st.ends stations)
    (c.gather-terminals.ensures.block_ends plan past st.ends stations) (ap (λ n. record { 0 = n }) st.ticks_are)
    (c.clashes-clashes.ensures ∙ st.wire.clashes_are) in
    record {
      stations = subst (λ ss. StationsStand plan ss past) (sym c.into_parts-stations.ensures.stations) st.row.stations;
      log_is = found ∙ (of-plan plan st.accepted).log;
      found = found;
    }
