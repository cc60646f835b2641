-- What the terminals of an accepted plan deliver in its whole run is what the message table delivers to them.
use Rattle.std.proofs.Common.{◌≡◌, ℕ, Bool, List, [], ◌∷◌, ◌++◌, length, Option, Some, None, refl, sym, ap, ◌∙◌, subst}
use Rattle.std.specs.Prelude.{slice_get, option_map, option_to_list}
use Rattle.bus_base.specs.declared.samples.Channel.{Channel}
use Rattle.bus_base.specs.declared.samples.Pair.{Pair}
use Rattle.bus_line.specs.declared.cutter.TheConstants.{LAG}
use Rattle.bus_formats.specs.Accepted.{IsAccepted}
use Rattle.bus_formats.specs.Plans.{StationData, PlanData}
use Rattle.bus_formats.specs.declared.log.Delivery.{Delivery}
use Rattle.bus_model.specs.Control.{hear_more, hearing_after}
use Rattle.bus_model.specs.Hearing.{Moment, Hearing}
use Rattle.bus_model.specs.Log.{delivered_to}
use Rattle.bus_model.specs.Orders.{Taken}
use Rattle.bus_model.specs.Standing.{Standing, Handled, obeys, settles, runs_out}
use Rattle.bus_model.specs.Starts.{starts}
use Rattle.bus_model.specs.Terminal.{ordered, order_now, standing, standing_after}
use Rattle.bus_model.specs.World.{world}
use Rattle.bus_terminal.specs.Stands.{channel_of}
use Rattle.bus_station.specs.Told.{delivery_of}
use Rattle.bus_law_messages.proofs.Heard.{hearing-long}
use Rattle.bus_law_table.specs.Happened.{block_at}
use Rattle.bus_law_run.specs.Blocks.{heard_newest, taken_newest, delivery_newest, deliveries_of}
use Rattle.bus_law_run.specs.WorldIsRun.{plan_run, plan_end}
use Rattle.bus_run.specs.Deliveries.{delivered_of, deliveries, deliveries_in, ObjectsOf, TellsMore, Serves}
use Rattle.bus_run.specs.Tables.{TellTables}
use Rattle.bus_run.proofs.TableRun.{of-plan}

module _ (plan : PlanData) (s : StationData) where
  -- the channel of what was handled is the one that stands then
  ordered-channel : (tick : ℕ) (may : Bool) (before : Standing) (o : Option Handled) →
      (ordered LAG s.terminal [] tick may before o).channel ≡ channel_of before o
  ordered-channel tick may before None = refl
  ordered-channel tick may before (Some (obeys c end order rest)) = refl
  ordered-channel tick may before (Some (settles end slots rest)) = refl
  ordered-channel tick may before (Some runs_out) = refl

  standing-channel : (hearing : Hearing) (now : Moment) →
      (standing_after LAG s.terminal [] (hear_more hearing now)).channel
      ≡ channel_of (standing LAG s.terminal [] hearing.memory hearing.ticks)
      (order_now LAG s.terminal (now ∷ hearing.ticks) (standing LAG s.terminal [] hearing.memory hearing.ticks))
  unfolding standing
  standing-channel hearing now =
      ordered-channel (length hearing.ticks) now.has_items (standing LAG s.terminal [] hearing.memory hearing.ticks)
      (order_now LAG s.terminal (now ∷ hearing.ticks) (standing LAG s.terminal [] hearing.memory hearing.ticks))

  -- a block as it is told, and as the laws find it
  told-so : (tick : ℕ) (c : Channel) (taken : Option Taken) →
      delivery_of tick c taken ≡ option_map (λ block. (block_at tick c s block).delivery) taken
  told-so tick c None = refl
  told-so tick c (Some block) = refl

  newest-same : (shown : Pair) (past : List Pair) →
      delivered_of plan (shown ∷ past) s ≡ delivery_newest LAG s (starts plan s) [] [] shown past
  newest-same shown past =
      let hearing = hearing_after LAG s (starts plan s) [] [] past in
      let now = heard_newest LAG s (starts plan s) [] [] shown past in
      let taken = taken_newest LAG s (starts plan s) [] [] shown past in
      let c = channel_of (standing LAG s.terminal [] hearing.memory hearing.ticks)
      (order_now LAG s.terminal (now ∷ hearing.ticks) (standing LAG s.terminal [] hearing.memory hearing.ticks)) in
      ap (λ n. delivery_of n c taken) (hearing-long LAG s (starts plan s) [] [] past)
      ∙ ap (λ d. delivery_of (length past) d taken) (sym (standing-channel hearing now))
      ∙ told-so (length past) (standing_after LAG s.terminal [] (hear_more hearing now)).channel taken

  -- all of them
  deliveries-same : (past : List Pair) → deliveries plan s past ≡ deliveries_of LAG s (starts plan s) [] [] past
  unfolding deliveries_in deliveries_of
  deliveries-same [] = refl
  deliveries-same (shown ∷ past) =
      ap (λ o. deliveries plan s past ++ option_to_list o) (newest-same shown past)
      ∙ ap (λ ds. ds ++ option_to_list (delivery_newest LAG s (starts plan s) [] [] shown past)) (deliveries-same past)

-- in the whole run they are the table's
pub deliveries-are : (plan : PlanData) (place : ℕ) (s : StationData) → IsAccepted plan → slice_get plan.stations place ≡ Some s →
    deliveries plan s (world LAG plan [] [] [] (plan_end plan)) ≡ delivered_to s.terminal.address (plan_run plan)
deliveries-are plan place s accepted there =
    deliveries-same plan s (world LAG plan [] [] [] (plan_end plan)) ∙ (of-plan plan accepted).deliveries place s there

-- so objects that tell what the terminals deliver tell what the table does
pub tells-tables : (plan : PlanData) (objects : List (Option ℕ)) (before told : List (Option (List Delivery))) (spare : List ℕ) → IsAccepted plan →
    ObjectsOf plan objects → Serves plan before (world LAG plan [] [] [] (plan_end plan)) told spare → TellTables plan before told
tells-tables plan objects before told spare accepted of serves = record {
  all = serves.all;
  all_before = serves.all_before;
  tells = λ p s old now at was is.
      let (place, there, object) = of.whole p s at in
      subst (λ ds. TellsMore old ds now) (deliveries-are plan place s accepted there) (serves.tells p s old now at was is);
}
