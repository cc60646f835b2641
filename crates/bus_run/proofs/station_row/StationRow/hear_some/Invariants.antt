use Rattle.std.proofs.Common.{◌≡◌, ◌≤◌, ◌+◌, ◌∷◌, ℕ, false, List, length, map, take, drop, Option}
use Rattle.std.specs.Prelude.{vec_len, vec_capacity, slice_get}
use Rattle.bus_base.specs.declared.samples.Pair.{Pair}
use Rattle.bus_line.specs.declared.cutter.TheConstants.{LAG}
use Rattle.bus_receiver.specs.declared.cutters.Cutters.{Cutters}
use Rattle.bus_station.specs.Listening.{IsNext}
use Rattle.bus_formats.specs.declared.log.Attempt.{Attempt}
use Rattle.bus_formats.specs.declared.log.Delivery.{Delivery}
use Rattle.bus_wire.specs.Places.{AreRising, is_among}
use Rattle.bus_run.specs.Deliveries.{is_delivering_in}
use Rattle.bus_run.specs.Settings.{Setting}
use Rattle.bus_run.specs.StationRows.{RowHears, ObjectsHear}
use Rattle.bus_run.proofs.station_row.StationRow.hear_some.Given as goal

-- the stations before one heard the tick or are as if they had; of those from it on the ones at the places to come are called
abbrev pub invariant-loop-index : goal.invariant-loop-index
invariant-loop-index g l =
    record {
      count : l.count ≡ length l.fn.self.places.items;
      from : ℕ;
      rising : AreRising from (length l.fn.self.stations.items) (drop l.index l.fn.self.places.items);
      alike : (i : ℕ) → from ≤ i → is_among i l.fn.self.places.items ≡ is_among i (drop l.index l.fn.self.places.items);
      places : l.self.places ≡ l.fn.self.places;
      rest : (i : ℕ) → from ≤ i → slice_get l.self.stations.items i ≡ slice_get l.fn.self.stations.items i;
      others : (i : ℕ) → is_among i l.fn.self.places.items ≡ false → slice_get l.self.stations.items i ≡ slice_get l.fn.self.stations.items i;
      all : length l.self.stations.items ≡ length l.fn.self.stations.items;
      used : vec_len l.self.attempts ≤ vec_len l.fn.self.attempts + from;
      room : vec_capacity l.self.attempts ≡ vec_capacity l.fn.self.attempts;
      taken_used : vec_len l.self.taken ≤ vec_len l.fn.self.taken + from;
      taken_room : vec_capacity l.self.taken ≡ vec_capacity l.fn.self.taken;
      objects : l.self.objects ≡ l.fn.self.objects;
      delivering : l.self.delivering ≡ l.fn.self.delivering;
      receiver : l.self.receiver ≡ l.fn.self.receiver;
      present : l.self.present ≡ l.fn.self.present;
      stands : (w : Setting) (found : List Attempt) (past : List Pair) (bus : Cutters) → RowHears w found 0 bus l.moment.shown past l.fn.self →
          IsNext LAG l.moment bus l.fn.self.receiver.cutters past → RowHears w found from bus l.moment.shown past l.self;
      took_is : (w : Setting) (found : List Attempt) (past : List Pair) (bus : Cutters) → RowHears w found 0 bus l.moment.shown past l.fn.self →
          IsNext LAG l.moment bus l.fn.self.receiver.cutters past → l.took ≡ is_delivering_in w (l.moment.shown ∷ past) (take from w.plan.stations);
      objects_hear : (w : Setting) (found : List Attempt) (past : List Pair) (before : List (Option (List Delivery))) (bus : Cutters) →
          RowHears w found 0 bus l.moment.shown past l.fn.self → IsNext LAG l.moment bus l.fn.self.receiver.cutters past →
          ObjectsHear w l.fn.self.objects.items before 0 l.moment.shown past
          (map (λ b. (goal.Subsystem-dyn g (b.vtable, b.value)).told b.value) l.fn.subsystems.items)
          (map (λ b. (goal.Subsystem-dyn g (b.vtable, b.value)).spare b.value) l.fn.subsystems.items) →
          ObjectsHear w l.self.objects.items before from l.moment.shown past
          (map (λ b. (goal.Subsystem-dyn g (b.vtable, b.value)).told b.value) l.subsystems.items)
          (map (λ b. (goal.Subsystem-dyn g (b.vtable, b.value)).spare b.value) l.subsystems.items);
    }
