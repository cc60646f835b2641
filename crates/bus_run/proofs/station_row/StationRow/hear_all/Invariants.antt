use Rattle.std.proofs.Common.{◌≡◌, ◌≤◌, ◌+◌, ◌∷◌, List, length, map, take, Option}
use Rattle.std.specs.Prelude.{vec_len, vec_capacity}
use Rattle.bus_base.specs.declared.samples.Pair.{Pair}
use Rattle.bus_line.specs.declared.cutter.TheConstants.{LAG}
use Rattle.bus_receiver.specs.declared.cutters.Cutters.{Cutters}
use Rattle.bus_station.specs.Listening.{IsNext}
use Rattle.bus_formats.specs.declared.log.Attempt.{Attempt}
use Rattle.bus_formats.specs.declared.log.Delivery.{Delivery}
use Rattle.bus_run.specs.Deliveries.{is_delivering_in}
use Rattle.bus_run.specs.Settings.{Setting}
use Rattle.bus_run.specs.StationRows.{RowHears, ObjectsHear}
use Rattle.bus_run.proofs.station_row.StationRow.hear_all.Given as goal

-- the stations before the place heard the tick, each ended at most one attempt and took at most one block, and their objects took what their terminals took
abbrev pub invariant-loop-place : goal.invariant-loop-place
invariant-loop-place g l =
    record {
      all : length l.self.stations.items ≡ length l.fn.self.stations.items;
      used : vec_len l.self.attempts ≤ vec_len l.fn.self.attempts + l.place;
      room : vec_capacity l.self.attempts ≡ vec_capacity l.fn.self.attempts;
      taken_used : vec_len l.self.taken ≤ vec_len l.fn.self.taken + l.place;
      taken_room : vec_capacity l.self.taken ≡ vec_capacity l.fn.self.taken;
      objects : l.self.objects ≡ l.fn.self.objects;
      delivering : l.self.delivering ≡ l.fn.self.delivering;
      receiver : l.self.receiver ≡ l.fn.self.receiver;
      present : l.self.present ≡ l.fn.self.present;
      stands : (w : Setting) (found : List Attempt) (past : List Pair) (bus : Cutters) → RowHears w found 0 bus l.moment.shown past l.fn.self →
          IsNext LAG l.moment bus l.fn.self.receiver.cutters past → RowHears w found l.place bus l.moment.shown past l.self;
      took_is : (w : Setting) (found : List Attempt) (past : List Pair) (bus : Cutters) → RowHears w found 0 bus l.moment.shown past l.fn.self →
          IsNext LAG l.moment bus l.fn.self.receiver.cutters past → l.took ≡ is_delivering_in w (l.moment.shown ∷ past) (take l.place w.plan.stations);
      objects_hear : (w : Setting) (found : List Attempt) (past : List Pair) (before : List (Option (List Delivery))) (bus : Cutters) →
          RowHears w found 0 bus l.moment.shown past l.fn.self → IsNext LAG l.moment bus l.fn.self.receiver.cutters past →
          ObjectsHear w l.fn.self.objects.items before 0 l.moment.shown past
          (map (λ b. (goal.Subsystem-dyn g (b.vtable, b.value)).told b.value) l.fn.subsystems.items)
          (map (λ b. (goal.Subsystem-dyn g (b.vtable, b.value)).spare b.value) l.fn.subsystems.items) →
          ObjectsHear w l.self.objects.items before l.place l.moment.shown past
          (map (λ b. (goal.Subsystem-dyn g (b.vtable, b.value)).told b.value) l.subsystems.items)
          (map (λ b. (goal.Subsystem-dyn g (b.vtable, b.value)).spare b.value) l.subsystems.items);
    }
