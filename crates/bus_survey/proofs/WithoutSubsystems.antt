-- An accepted plan stays accepted where its stations name no subsystem.
use Rattle.std.proofs.Common.{◌≡◌, ℕ, ◌+◌, ◌*◌, ◌≤◌, List, map, length, get_or, refl, sym, subst}
use Rattle.std.specs.Prelude.{◌≢◌, All, AllPairs, Contains, sum_by}
use Rattle.std.proofs.lemmas.List.{length-map}
use Rattle.std.proofs.lemmas.List.Elements.{All-map}
use Rattle.std.proofs.lemmas.List.Folds.{fold-map}
use mathlib.Core.List.{map-map}
use Rattle.bus_formats.specs.Accepted.{HasStationRanges, IsAccepted, IsController, IsFrameSendable, IsSendable, IsWithinLimits}
use Rattle.bus_formats.specs.Accepted.{addresses, addresses_named, items_in, ticks_in}
use Rattle.bus_formats.specs.Plans.{FrameData, StationData, PlanData, without_subsystem, without_subsystems}
use Rattle.bus_formats.specs.declared.plan.Kind.{Kind}

same-addresses : (plan : PlanData) → addresses (without_subsystems plan) ≡ addresses plan
same-addresses plan = map-map (λ (s : StationData). s.terminal.address) without_subsystem plan.stations

sum-without : (f : StationData → ℕ) (stations : List StationData) →
    sum_by f (map without_subsystem stations) ≡ sum_by (λ s. f (without_subsystem s)) stations
sum-without f stations = fold-map (λ (n : ℕ) (s : StationData). n + f s) without_subsystem 0 stations

station-ranges : (s : StationData) → HasStationRanges s → HasStationRanges (without_subsystem s)
station-ranges s ranges = record {
  terminal = record {
    address = ranges.terminal.address;
    delay = ranges.terminal.delay;
    vector = ranges.terminal.vector;
    bit = ranges.terminal.bit;
    no_receive = ranges.terminal.no_receive;
    no_transmit = ranges.terminal.no_transmit;
    no_mode = ranges.terminal.no_mode;
    loads = ranges.terminal.loads;
  };
  frames = ranges.frames;
  repeat = ranges.repeat;
}

module _ (plan : PlanData) where
  known : (kind : Kind) → All (λ a. a ≢ 31 → Contains (addresses plan) a) (addresses_named kind) →
      All (λ a. a ≢ 31 → Contains (addresses (without_subsystems plan)) a) (addresses_named kind)
  known kind all i d within other = subst (λ l. Contains l (get_or (addresses_named kind) i d)) (sym (same-addresses plan)) (all i d within other)

  sendable : (own : ℕ) (kind : Kind) → IsSendable plan own kind → IsSendable (without_subsystems plan) own kind
  sendable own kind is = record { form = is.form; known = known kind is.known; others = is.others; apart = is.apart }

  frame-sendable : (own : ℕ) (frame : FrameData) → IsFrameSendable plan own frame → IsFrameSendable (without_subsystems plan) own frame
  frame-sendable own frame is = record { items = λ i d within. sendable own _ (is.items i d within); superseding = is.superseding }

  limits : IsWithinLimits plan → IsWithinLimits (without_subsystems plan)
  limits is = record {
    stations = subst (λ n. n ≤ 32) (sym (length-map plan.stations without_subsystem)) is.stations;
    frames = All-map (λ (s : StationData). length s.frames ≤ 1024) without_subsystem plan.stations is.frames;
    items = subst (λ n. n ≤ 4096) (sym (sum-without items_in plan.stations)) is.items;
    faults = is.faults;
    repeated_items = subst (λ n. n ≤ 16384) (sym (sum-without (λ s. s.repeat * items_in s) plan.stations)) is.repeated_items;
    repeated_ticks = subst (λ n. n ≤ 2048000000) (sym (sum-without (λ s. s.repeat * ticks_in s) plan.stations)) is.repeated_ticks;
  }

pub accepted-without : (plan : PlanData) → IsAccepted plan → IsAccepted (without_subsystems plan)
accepted-without plan accepted = record {
  ranges = All-map HasStationRanges without_subsystem plan.stations (λ i d within. station-ranges _ (accepted.ranges i d within));
  hits = accepted.hits;
  start = subst (λ l. Contains l plan.start) (sym (same-addresses plan)) accepted.start;
  apart = subst (λ l. AllPairs (λ a b. a ≢ b) l) (sym (same-addresses plan)) accepted.apart;
  controllers = All-map (λ (s : StationData). s.terminal.address ≡ 31 → IsController (without_subsystems plan) s.terminal) without_subsystem plan.stations
      (λ i d within is. record { starts = (accepted.controllers i d within is).starts; no_subsystem = refl });
  frames = All-map (λ (s : StationData). All (IsFrameSendable (without_subsystems plan) s.terminal.address) s.frames) without_subsystem plan.stations
      (λ i d within j f inside. frame-sendable plan _ _ (accepted.frames i d within j f inside));
  faults = accepted.faults;
  limits = limits plan accepted.limits;
}
