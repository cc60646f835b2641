-- Quiet ticks in which nothing changes of any station: nothing comes to pass in them, whoever holds control.
use Rattle.std.proofs.Common.{◌≡◌, ℕ, zero, suc, ◌+◌, ◌-◌, ◌<◌, ◌≤◌, List, [], ◌++◌, length, None, refl, sym, ap, ◌∙◌, subst, arith}
use Rattle.std.proofs.lemmas.List.{append-nil}
use Rattle.std.specs.Prelude.{count_by, flat_map, option_map}
use Rattle.bus_base.specs.Samples.{quiet_pairs}
use Rattle.bus_base.specs.declared.samples.Channel.{Channel}
use Rattle.bus_base.specs.declared.samples.Drive.TheVariants.{Silent}
use Rattle.bus_base.specs.declared.samples.Pair.{Pair}
use Rattle.bus_line.specs.Channels.{on_channel, bursts}
use Rattle.bus_line.specs.Past.{runs}
use Rattle.bus_formats.specs.Plans.{StationData}
use Rattle.bus_model.specs.Control.{so_far}
use Rattle.bus_model.specs.Course.{Course}
use Rattle.bus_model.specs.Starts.{starts}
use Rattle.bus_model.specs.Transmissions.{station_drive, is_command}
use Rattle.bus_model.specs.Wire.{drivers}
use Rattle.bus_model.specs.World.{Trace, drives_after}
use Rattle.bus_model.specs.WorldLog.{present_stations, attempt_at, ended_by, attempts}
use Rattle.bus_law_control.proofs.Holding.{ended-before}
use Rattle.bus_law_line.proofs.Sent.{left-spent}
use Rattle.bus_law_messages.proofs.Pausing.{on-quiet}
use Rattle.bus_law_messages.proofs.Sending.{place-silent}
use Rattle.bus_law_offers.specs.Still.{AllStill}
use Rattle.bus_law_offers.proofs.QuietDriven.{undriven-for}
use Rattle.bus_law_phases.specs.Passages.{InOneHand, IsOrderly, Passage, nothing_happens}
use Rattle.bus_law_phases.specs.Scenarios.{Scenario, trace_at, shown_at, driven_at, blocks_in, attempts_in, commands_in, course_of, standing_of, IsPresentAt, drivers_at, StaysFrom}
use Rattle.bus_law_phases.specs.Silences.{IsQuiet, SomeoneIsBusy}
use Rattle.bus_law_phases.proofs.Legs.{busy-goes-on}
use Rattle.bus_law_phases.proofs.Resting.{each-present, no-attempt, none-of-each}
use Rattle.bus_law_phases.proofs.Silence.{QuietTicks, drivers-few}
use Rattle.bus_law_stations.proofs.Resting.{rests-quiet}
use Rattle.bus_law_stations.proofs.StillController.{pairs-long}
use Rattle.bus_law_table.specs.Happened.{block_at, took_in, blocks_in as blocks_now, blocks_found}
use Rattle.bus_law_table.proofs.Pairing.{none-each}
use Rattle.bus_law_table.proofs.Quiet.{quiet-bursts}
use Rattle.bus_law_phases.proofs.Staying.{ticks-later}

-- ---- no block is taken, and no attempt ends

module _ (w : Scenario) (past : List Pair) (n : ℕ) (still : AllStill w past n) where
  abbrev later : ℕ → List Pair
  later m = quiet_pairs m ++ past

  took-nothing : (m : ℕ) → m < n → (place : ℕ) (station : StationData) → IsPresentAt w place station →
      took_in w.lag w.plan w.loads w.outside w.absent (later (suc m)) (length (later m)) station ≡ None
  took-nothing m few place station at =
      ap (option_map (block_at (length (later m)) (standing_of w station (later (suc m))).channel station)) ((still place station at).takes m few)

  still-blocks : (m : ℕ) → m ≤ n → blocks_in w (later m) ≡ blocks_in w past
  unfolding blocks_found
  still-blocks zero few = refl
  still-blocks (suc m) few =
      let tick = length (later m) in
      let None_of = λ (st : StationData). took_in w.lag w.plan w.loads w.outside w.absent (later (suc m)) tick st ≡ None in
      let none : blocks_now w.lag w.plan w.loads w.outside w.absent (later (suc m)) tick ≡ [] =
      none-each None_of (took_in w.lag w.plan w.loads w.outside w.absent (later (suc m)) tick) (present_stations w.lag w.plan w.loads w.outside w.absent)
      (each-present w past None_of (took-nothing m (omega (arith, few)))) (λ st is. is) in
      ap (λ bs. blocks_in w (later m) ++ bs) none ∙ append-nil (blocks_in w (later m)) ∙ still-blocks m (omega (arith, few))

  ended-nothing : (m : ℕ) → m < n → (place : ℕ) (station : StationData) → IsPresentAt w place station →
      ended_by w.lag w.plan w.loads w.outside w.absent (later (suc m)) (length (later m)) station ≡ []
  ended-nothing m few place station at =
      let long : length (quiet_pairs m ++ past) ≡ m + length past = pairs-long m past in
      ap (λ (c : Course). attempt_at w.lag w.plan w.loads w.outside w.absent station.terminal.address (length (later m)) c.ended)
      ((still place station at).same (suc m) (omega (arith, few)))
      ∙ no-attempt w station.terminal.address (length (later m)) (length past) (course_of w station past).ended (omega (arith, long))
      (ended-before w.lag station (starts w.plan station) (so_far w.lag station (starts w.plan station) w.loads w.outside past).takes past)

  still-attempts : (m : ℕ) → m ≤ n → attempts_in w (later m) ≡ attempts_in w past
  unfolding attempts
  still-attempts zero few = refl
  still-attempts (suc m) few =
      let None_of = λ (st : StationData). ended_by w.lag w.plan w.loads w.outside w.absent (later (suc m)) (length (later m)) st ≡ [] in
      let none : flat_map (ended_by w.lag w.plan w.loads w.outside w.absent (later (suc m)) (length (later m)))
      (present_stations w.lag w.plan w.loads w.outside w.absent) ≡ [] =
      none-of-each None_of (ended_by w.lag w.plan w.loads w.outside w.absent (later (suc m)) (length (later m)))
      (present_stations w.lag w.plan w.loads w.outside w.absent) (each-present w past None_of (ended-nothing m (omega (arith, few)))) (λ st is. is) in
      ap (λ xs. attempts_in w (later m) ++ xs) none ∙ append-nil (attempts_in w (later m)) ∙ still-attempts m (omega (arith, few))

-- ---- what comes to pass: nothing

module _ (w : Scenario) (t n : ℕ) (stays : StaysFrom w t) (quiet : IsQuiet w (trace_at w t)) (still : AllStill w (shown_at w t) n)
    (hands : (m : ℕ) → m < n → InOneHand w (quiet_pairs (suc m) ++ shown_at w t))
    (busy : (m : ℕ) → m < n → SomeoneIsBusy w (quiet_pairs m ++ shown_at w t)) where
  abbrev past : List Pair
  past = shown_at w t

  silent : (m : ℕ) → m < n → (station : ℕ) →
      station_drive station (drives_after w.lag w.plan w.loads w.outside w.absent (quiet_pairs m ++ shown_at w t)) ≡ Silent
  silent m few station =
      place-silent w.lag w.plan w.loads w.outside w.absent (quiet_pairs m ++ shown_at w t) station (λ st there present.
      (still station st record { there = there; present = present }).silent m few)

  ticks : (m : ℕ) → m ≤ n → QuietTicks w (trace_at w t) m
  ticks m few = undriven-for w (trace_at w t) n silent quiet.spent m few

  -- the trace after m of them
  still-trace : (m : ℕ) (few : m ≤ n) → trace_at w (t + m) ≡ record { shown = quiet_pairs m ++ past; driven = (ticks m few).driven ++ driven_at w t }
  still-trace m few = sym (ticks-later w t m stays) ∙ (ticks m few).world

  all : n ≤ n
  all = omega arith

  pub still-ticks : QuietTicks w (trace_at w t) n
  still-ticks = ticks n all

  pub still-whole : trace_at w (t + n) ≡ record { shown = quiet_pairs n ++ past; driven = still-ticks.driven ++ driven_at w t }
  unfolding still-ticks
  still-whole = still-trace n all

  shown-is : (m : ℕ) → m ≤ n → shown_at w (t + m) ≡ quiet_pairs m ++ past
  shown-is m few = ap (λ (tr : Trace). tr.shown) (still-trace m few)

  driven-is : (m : ℕ) (few : m ≤ n) → driven_at w (t + m) ≡ (ticks m few).driven ++ driven_at w t
  driven-is m few = ap (λ (tr : Trace). tr.driven) (still-trace m few)

  next-tick : (m : ℕ) → t + suc m ≡ suc (t + m)
  next-tick m = omega arith

  -- nobody drives
  drives-none : (m : ℕ) (few : m < n) (c : Channel) → drivers_at w (t + m) c ≤ 1
  drives-none m few c =
      let early : suc m ≤ n = omega (arith, few) in
      let q = ticks (suc m) early in
      subst (λ u. drivers w.plan.faults c (driven_at w u) ≤ 1) (next-tick m)
      (subst (λ driven. drivers w.plan.faults c driven ≤ 1) (sym (driven-is (suc m) early))
      (drivers-few w.plan.faults c (driven_at w t) q.driven m q.many (q.alone c)))

  at-tick : (m : ℕ) → m < n → IsOrderly w (t + m)
  at-tick m few = record {
    alone = drives-none m few;
    hands = subst (λ u. InOneHand w (shown_at w u)) (next-tick m)
        (subst (InOneHand w) (sym (shown-is (suc m) (omega (arith, few)))) (hands m few));
    goes_on = busy-goes-on w (t + m) (quiet_pairs m ++ past) (shown-is m (omega (arith, few))) (busy m few);
  }

  at-any : (i : ℕ) → t ≤ i → i < t + n → IsOrderly w i
  at-any i low high =
      let same : t + (i - t) ≡ i = omega (arith, low) in subst (IsOrderly w) same (at-tick (i - t) (omega (arith, low, high)))

  pub still-passes : Passage w t (t + n) nothing_happens
  still-passes =
      let same = shown-is n all in
      record {
        later = omega arith;
        blocks_are = ap (λ p. blocks_in w p) same ∙ still-blocks w past n still n all ∙ sym (append-nil _);
        bursts_are = ap (bursts w.lag) same ∙ quiet-bursts w.lag n past quiet.rests ∙ sym (append-nil _);
        attempts_are = ap (λ p. attempts_in w p) same ∙ still-attempts w past n still n all ∙ sym (append-nil _);
        counted = ap (commands_in w) (driven-is n all) ∙ ap (count_by is_command) (ticks n all).begun ∙ omega arith;
        orderly = at-any;
      }

  -- nothing runs afterwards, and nothing is left to show
  pub still-quiet : IsQuiet w record { shown = quiet_pairs n ++ past; driven = still-ticks.driven ++ driven_at w t }
  still-quiet = record {
    rests = λ d. ap (runs w.lag) (on-quiet d n past) ∙ rests-quiet w.lag n (on_channel d past) (quiet.rests d);
    spent = λ d station. left-spent w.plan.faults d (driven_at w t) still-ticks.driven (still-ticks.alone d) station;
  }
