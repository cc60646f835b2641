-- The run of an accepted plan begins as one of the plan.
use Rattle.std.proofs.Common.{refl, sym}
use Rattle.std.specs.Prelude.{All, not, ◌==◌}
use Rattle.std.proofs.lemmas.List.Elements.{recursion_from_All}
use Rattle.bus_formats.specs.Accepted.{IsFrameSendable, HasStationRanges, IsAccepted}
use Rattle.bus_formats.specs.Plans.{StationData, PlanData}
use Rattle.bus_model.specs.Run.{first_run, first_present}
use Rattle.bus_model.specs.Starts.{agenda}
use Rattle.bus_law_plans.specs.Entries.{IsStationOf, IsRunOf}
use Rattle.bus_law_plans.proofs.Lists.{each-both, zip-map, drop-none}
use Rattle.bus_law_plans.proofs.Agendas.{agenda-entries, agenda-superseding}

first-station : (plan : PlanData) (s : StationData) → HasStationRanges s → All (IsFrameSendable plan s.terminal.address) s.frames →
    IsStationOf plan (not (s.terminal.address == plan.start)) s (first_present plan s)
first-station plan s ranges frames = record {
  plan_is = refl;
  rest = (0, sym (drop-none (agenda s)));
  entries = agenda-entries plan s ranges.frames frames;
  superseding = agenda-superseding plan s frames;
  serves = refl;
}

-- before the first attempt the run is one of its plan
pub first-run : (plan : PlanData) → IsAccepted plan → IsRunOf plan (first_run plan)
first-run plan accepted = record {
  stations = zip-map (λ s p. IsStationOf plan (not (s.terminal.address == plan.start)) s p) (first_present plan) plan.stations
      (each-both HasStationRanges (λ (s : StationData). All (IsFrameSendable plan s.terminal.address) s.frames)
      (λ s. IsStationOf plan (not (s.terminal.address == plan.start)) s (first_present plan s)) (first-station plan) plan.stations
      (recursion_from_All HasStationRanges plan.stations accepted.ranges)
      (recursion_from_All (λ (s : StationData). All (IsFrameSendable plan s.terminal.address) s.frames) plan.stations accepted.frames));
  holder = accepted.start;
  taken = λ tick is. cc;
}
