-- Each plan that is drawn is accepted.
use Rattle.std.proofs.Common.{◌≡◌, ℕ, zero, suc, ◌+◌, ◌*◌, ◌^◌, ◌<◌, ◌≤◌, List, [], ◌∷◌, ◌++◌, length, map, get_or, arith, refl, sym, ap, ◌∙◌, subst}
use Rattle.std.specs.Prelude.{◌≢◌, All, AllPairs, Contains, sum_by}
use Rattle.std.proofs.lemmas.List.Elements.{All-nil, All-cons, All-append, All-from_get_or, All-weaker}
use Rattle.std.proofs.lemmas.List.Sums.{sum_by-append}
use Rattle.std.proofs.Math.Nat.{zero-div}
use Rattle.bus_formats.specs.Accepted.{ListsOnly, HasItemRanges, HasFrameRanges, HasLoadRanges, HasTerminalRanges, HasStationRanges, HasFaultRanges, addresses, addresses_named, IsSendable, IsFrameSendable, StrikesTheSame, items_in, ticks_in, IsWithinLimits, IsController, IsAccepted}
use Rattle.bus_formats.specs.Plans.{ItemData, FrameData, StationData, PlanData}
use Rattle.bus_formats.specs.declared.plan.Kind.{Kind}
use Rattle.bus_bench.specs.Generated.{terminal_at, station_at, terminals_from, plan_with, bench_plan, items_from, item_with, kind_of, upper, drawn_after}
use Rattle.bus_bench.proofs.MessageRanges.{all-ranges, how-many-items, none-abandoned, has-form, names-terminals, names-apart}
use Rattle.bus_bench.proofs.Stations.{all-terminals, how-many, how-many-addresses, address-at, nothing-added}

lists-none : (P : ℕ → Type 0) → ListsOnly P 0
lists-none P n has = let none = zero-div (2 ^ n) in absurd (omega (arith, has, none))

terminal-ranges : (a : ℕ) → a ≤ 31 → HasTerminalRanges (terminal_at a)
terminal-ranges a within = record {
  address = within;
  delay = (omega arith, omega arith);
  vector = omega arith;
  bit = omega arith;
  no_receive = lists-none _;
  no_transmit = lists-none _;
  no_mode = lists-none _;
  loads = All-nil HasLoadRanges;
}

station-ranges : (a : ℕ) (frames : List FrameData) → a ≤ 31 → All HasFrameRanges frames → HasStationRanges (station_at a frames)
station-ranges a frames within each = record { terminal = terminal-ranges a within; frames = each; repeat = (omega arith, omega arith) }

-- one frame with these messages
abbrev frame_with : List ItemData → List FrameData
frame_with items = record { ticks = 0; items = items } ∷ []

module _ (items : List ItemData) where
  -- what holds of each terminal and of the controller holds of each station
  each-station : (P : StationData → Type 0) → ((a : ℕ) → a < 31 → P (station_at a [])) → P (station_at 31 (frame_with items)) → All P (plan_with items).stations
  each-station P of-terminals of-controller =
      All-append P (terminals_from 0 31) (station_at 31 (frame_with items) ∷ []) (all-terminals P 0 31 of-terminals) (All-cons P (station_at 31 (frame_with items)) [] of-controller (All-nil P))

  -- the sum of something that is nothing of a terminal is that of the controller
  total : (f : StationData → ℕ) → ((a : ℕ) → f (station_at a []) ≡ 0) → sum_by f (plan_with items).stations ≡ f (station_at 31 (frame_with items))
  total f none =
      let of-terminals : sum_by f (terminals_from 0 31) ≡ 0 = nothing-added f none 0 31 0 in
      let both = sum_by-append f (terminals_from 0 31) (station_at 31 (frame_with items) ∷ []) in
      omega (arith, of-terminals, both)

  is-address : (a d : ℕ) → a ≤ 31 → get_or (addresses (plan_with items)) a d ≡ a
  is-address a d within = let it = address-at 0 31 31 (frame_with items) refl a d within in omega (arith, it)

  address-count : length (addresses (plan_with items)) ≡ 32
  address-count = how-many-addresses 0 31 31 (frame_with items)

  has-address : (a : ℕ) → a ≤ 31 → Contains (addresses (plan_with items)) a
  has-address a within = let long = address-count in (a, omega (arith, within, long), is-address a a within)

  addresses-apart : AllPairs (λ a b. a ≢ b) (addresses (plan_with items))
  addresses-apart i j d before within same =
      let long = address-count in
      let first = is-address i d (omega (arith, long, before, within)) in
      let second = is-address j d (omega (arith, long, within)) in
      absurd (omega (arith, first, second, same, before))

  -- a message of the controller that names terminals alone
  kind-sendable : (n bits : ℕ) → IsSendable (plan_with items) 31 (kind_of n bits)
  kind-sendable n bits = record {
    form = has-form n bits;
    known = All-weaker (λ a. a < 31) (λ a. a ≢ 31 → Contains (addresses (plan_with items)) a) (λ a below isnt. has-address a (omega (arith, below))) (addresses_named (kind_of n bits)) (names-terminals n bits);
    others = All-weaker (λ a. a < 31) (λ a. a ≢ 31 → a ≢ 31) (λ a below isnt. isnt) (addresses_named (kind_of n bits)) (names-terminals n bits);
    apart = names-apart n bits;
  }

  all-sendable : (n drawn count : ℕ) → All (λ i. IsSendable (plan_with items) 31 i.kind) (items_from n drawn count)
  all-sendable n drawn zero = All-nil (λ i. IsSendable (plan_with items) 31 i.kind)
  all-sendable n drawn (suc count) =
      All-cons (λ i. IsSendable (plan_with items) 31 i.kind) (item_with (kind_of n (upper (drawn_after drawn)))) (items_from (suc n) (drawn_after drawn) count) (kind-sendable n (upper (drawn_after drawn))) (all-sendable (suc n) (drawn_after drawn) count)

  limits : length items ≤ 4096 → IsWithinLimits (plan_with items)
  limits few =
      let stations-are = how-many 0 31 31 (frame_with items) in
      let items-are = total items_in (λ a. refl) in
      let repeated = total (λ s. s.repeat * items_in s) (λ a. refl) in
      let ticks-are = total (λ s. s.repeat * ticks_in s) (λ a. refl) in
      record {
        stations = omega (arith, stations-are);
        frames = each-station (λ s. length s.frames ≤ 1024) (λ a within. omega arith) (omega arith);
        items = omega (arith, items-are, few);
        faults = omega arith;
        repeated_items = omega (arith, repeated, few);
        repeated_ticks = omega (arith, ticks-are);
      }

pub plan-accepted : (number count : ℕ) → count ≤ 4096 → IsAccepted (bench_plan number count)
unfolding bench_plan
plan-accepted number count few =
    let drawn : List ItemData = items_from 1 number count in
    let long = how-many-items 1 number count in
    record {
      ranges = each-station drawn HasStationRanges (λ a within. station-ranges a [] (omega (arith, within)) (All-nil HasFrameRanges))
          (station-ranges 31 (frame_with drawn) (omega arith)
          (All-cons HasFrameRanges record { ticks = 0; items = drawn } [] record { ticks = omega arith; items = all-ranges 1 number count } (All-nil HasFrameRanges)));
      hits = All-nil HasFaultRanges;
      start = has-address drawn 31 (omega arith);
      apart = addresses-apart drawn;
      controllers = each-station drawn (λ s. s.terminal.address ≡ 31 → IsController (plan_with drawn) s.terminal)
          (λ a within is. absurd (omega (arith, within, is))) (λ is. record { starts = refl; no_subsystem = refl });
      frames = each-station drawn (λ s. All (IsFrameSendable (plan_with drawn) s.terminal.address) s.frames) (λ a within. All-nil (IsFrameSendable (plan_with drawn) a))
          (All-cons (IsFrameSendable (plan_with drawn) 31) record { ticks = 0; items = drawn } [] record { items = all-sendable drawn 1 number count; superseding = none-abandoned 1 number count }
          (All-nil (IsFrameSendable (plan_with drawn) 31)));
      faults = λ i j d before within. absurd (omega (arith, within));
      limits = limits drawn (omega (arith, long, few));
    }
