-- The ticks of a part as they are sent, where attempts of other stations end with the first of them: what came to pass before its end is known.
use Rattle.std.proofs.Common.{◌≡◌, ◌≢◌, inl, inr, ℕ, suc, ◌+◌, ◌-◌, ◌<◌, ◌≤◌, false, List, [], ◌∷◌, ◌++◌, length, Some, None, refl, sym, ap, ◌∙◌, subst, arith}
use Rattle.std.proofs.lemmas.List.{append-nil}
use Rattle.std.specs.Prelude.{slice_get, flat_map, option_map}
use Rattle.bus_base.specs.Samples.{other_of}
use Rattle.bus_base.specs.declared.samples.Channel.{Channel}
use Rattle.bus_base.specs.declared.samples.Drive.{Drive}
use Rattle.bus_base.specs.declared.samples.Drive.TheVariants.{Silent}
use Rattle.bus_base.specs.declared.samples.Pair.{Pair}
use Rattle.bus_line.specs.Past.{runs}
use Rattle.bus_line.specs.Channels.{on_channel, bursts}
use Rattle.bus_formats.specs.Plans.{StationData}
use Rattle.bus_formats.specs.declared.fault.Hit.{Hit}
use Rattle.bus_formats.specs.declared.log.Attempt.{Attempt}
use Rattle.bus_model.specs.Control.{so_far}
use Rattle.bus_model.specs.Sending.{drive_sample}
use Rattle.bus_model.specs.Starts.{starts}
use Rattle.bus_model.specs.Strikes.{hits_on}
use Rattle.bus_model.specs.Terminal.{took_now}
use Rattle.bus_model.specs.Transmissions.{station_drive}
use Rattle.bus_model.specs.Wire.{shown, drivers}
use Rattle.bus_model.specs.World.{Trace, drives_after}
use Rattle.bus_model.specs.WorldLog.{present_stations, attempt_at, ended_by, attempts}
use Rattle.bus_law_control.proofs.Holding.{ended-before}
use Rattle.bus_law_line.specs.Senders.{Sender, IsSpent, attempt_to_come}
use Rattle.bus_law_line.proofs.Sent.{left-undriven}
use Rattle.bus_law_messages.proofs.Listening.{this-or-other}
use Rattle.bus_law_parts.specs.Parts.{part_ticks, HitsFit, IsFresh}
use Rattle.bus_law_parts.proofs.SentParts.{part-drivers}
use Rattle.bus_law_phases.specs.PartRuns.{IsFirstOf, PartRuns}
use Rattle.bus_law_phases.specs.Passages.{InOneHand, IsOrderly, Passage}
use Rattle.bus_law_phases.specs.Scenarios.{Scenario, trace_at, shown_at, driven_at, blocks_in, attempts_in, commands_in, course_of, hearing_of, standing_of, IsPresentAt, drivers_at, is_over_at, StaysFrom}
use Rattle.bus_law_phases.specs.Silences.{SomeoneIsBusy}
use Rattle.bus_law_phases.proofs.Legs.{first-less, busy-goes-on}
use Rattle.bus_law_phases.proofs.PartRunning.{part-runs, one-more, first-of}
use Rattle.bus_law_phases.proofs.Resting.{each-present, no-attempt, none-of-each}
use Rattle.bus_law_table.specs.Happened.{block_at, took_in, blocks_in as blocks_now, blocks_found}
use Rattle.bus_law_table.proofs.Pairing.{none-each}
use Rattle.bus_law_table.proofs.Ticks.{leg-bursts}
use Rattle.bus_law_phases.proofs.Staying.{ticks-later}

-- from tick t on a station sends a part, which these hits strike, to the tick in which its end is known; so many commands begin with it, and these
-- attempts end with its first tick
pub record SentTicks (w : Scenario) (t : ℕ) (s : Sender) (hits : List Hit) (begun : ℕ) (ended : List Attempt) : Type 0 where
  -- the newest tick, and those before it
  pub newest : Pair
  pub ticks : List Pair
  pub driven : List Drive
  pub sent : List (List Drive)
  pub whole : PartRuns w (trace_at w t) s hits (part_ticks hits s.words + suc w.lag) (newest ∷ ticks) (driven ∷ sent)
  pub first : IsFirstOf w.lag s.channel hits s.words ticks
  pub many : length ticks ≡ part_ticks hits s.words + w.lag
  pub before : shown_at w (t + (part_ticks hits s.words + w.lag)) ≡ ticks ++ shown_at w t
  pub trace : trace_at w (t + suc (part_ticks hits s.words + w.lag))
      ≡ record { shown = (newest ∷ ticks) ++ shown_at w t; driven = (driven ∷ sent) ++ driven_at w t }
  -- nothing else came to pass before the newest, which is in order
  pub passed : Passage w t (t + (part_ticks hits s.words + w.lag)) record { blocks = []; bursts = []; attempts = ended; commands = begun }
  pub counted : commands_in w (driven_at w (t + suc (part_ticks hits s.words + w.lag))) ≡ commands_in w (driven_at w t) + begun
  pub drives : (d : Channel) → drivers_at w (t + (part_ticks hits s.words + w.lag)) d ≤ 1
  pub goes_on : is_over_at w (t + (part_ticks hits s.words + w.lag)) ≡ false

module _ (w : Scenario) (t : ℕ) (s : Sender) (hits : List Hit) (lag : w.lag ≡ 3) (stays : StaysFrom w t)
    (fresh : IsFresh w.plan.faults s.channel (driven_at w t) s.station)
    (spent : (d : Channel) (station : ℕ) → IsSpent w.plan.faults d (driven_at w t) station)
    (rests : (d : Channel) → runs w.lag (on_channel d (shown_at w t)) ≡ false)
    (named : hits_on w.plan.faults (attempt_to_come w.plan.faults s.part (driven_at w t)) s.part ≡ hits)
    (fits : HitsFit s.part hits s.words) (some : 0 < part_ticks hits s.words)
    (own : (ticks : List Pair) → IsFirstOf w.lag s.channel hits s.words ticks → length ticks < part_ticks hits s.words + suc w.lag →
    slice_get (drives_after w.lag w.plan w.loads w.outside w.absent (ticks ++ shown_at w t)) s.station
    ≡ Some (drive_sample s.channel s.part s.words (length ticks)))
    (others : (ticks : List Pair) → IsFirstOf w.lag s.channel hits s.words ticks → length ticks < part_ticks hits s.words + suc w.lag →
    (other : ℕ) → other ≢ s.station →
    station_drive other (drives_after w.lag w.plan w.loads w.outside w.absent (ticks ++ shown_at w t)) ≡ Silent)
    (ended : List Attempt)
    (first : (y : Pair) → IsFirstOf w.lag s.channel hits s.words (y ∷ []) →
    flat_map (ended_by w.lag w.plan w.loads w.outside w.absent (y ∷ shown_at w t) (length (shown_at w t)))
    (present_stations w.lag w.plan w.loads w.outside w.absent) ≡ ended)
    (still : (y z : Pair) (ticks : List Pair) → IsFirstOf w.lag s.channel hits s.words (y ∷ (z ∷ ticks)) →
    (place : ℕ) (station : StationData) → IsPresentAt w place station →
    (course_of w station ((y ∷ (z ∷ ticks)) ++ shown_at w t)).ended ≡ (course_of w station ((z ∷ ticks) ++ shown_at w t)).ended)
    (takes : (y : Pair) (ticks : List Pair) → IsFirstOf w.lag s.channel hits s.words (y ∷ ticks) → (place : ℕ) (station : StationData) →
    IsPresentAt w place station → took_now w.lag station.terminal w.loads (hearing_of w station ((y ∷ ticks) ++ shown_at w t)) ≡ None)
    (hands : (y : Pair) (ticks : List Pair) → IsFirstOf w.lag s.channel hits s.words (y ∷ ticks) → InOneHand w ((y ∷ ticks) ++ shown_at w t))
    (busy : (ticks : List Pair) → IsFirstOf w.lag s.channel hits s.words ticks → SomeoneIsBusy w (ticks ++ shown_at w t))
    (begun : ℕ) (counted : (n : ℕ) → 0 < n → (ticks : List Pair) (sent : List (List Drive)) → PartRuns w (trace_at w t) s hits n ticks sent →
    commands_in w (sent ++ driven_at w t) ≡ commands_in w (driven_at w t) + begun) where
  abbrev c : Channel
  c = s.channel

  abbrev past : List Pair
  past = shown_at w t

  abbrev m : ℕ
  m = part_ticks hits s.words + w.lag

  abbrev limit : ℕ
  limit = part_ticks hits s.words + suc w.lag

  bound : limit ≤ part_ticks hits s.words + 4
  bound = omega (arith, lag)

  abbrev Runs : ℕ → List Pair → List (List Drive) → Type 0
  Runs n ticks sent = PartRuns w (trace_at w t) s hits n ticks sent

  -- ---- the ticks

  sent-ticks : (n : ℕ) → n ≤ limit → (ticks : List Pair) × (sent : List (List Drive)) × Runs n ticks sent
  sent-ticks n early = part-runs w (trace_at w t) s hits limit lag fresh spent named fits some bound own others n early

  first-for : (n : ℕ) (ticks : List Pair) (sent : List (List Drive)) → n < limit → Runs n ticks sent → IsFirstOf w.lag c hits s.words ticks
  first-for n ticks sent early so = first-of w (trace_at w t) s hits limit lag fresh spent named fits some bound own others n ticks sent early so

  trace-is : (n : ℕ) (ticks : List Pair) (sent : List (List Drive)) → Runs n ticks sent →
      trace_at w (t + n) ≡ record { shown = ticks ++ past; driven = sent ++ driven_at w t }
  trace-is n ticks sent so = sym (ticks-later w t n stays) ∙ so.world

  shown-is : (n : ℕ) (ticks : List Pair) (sent : List (List Drive)) → Runs n ticks sent → shown_at w (t + n) ≡ ticks ++ past
  shown-is n ticks sent so = ap (λ (tr : Trace). tr.shown) (trace-is n ticks sent so)

  -- ---- no block is taken, and no attempt ends after the first tick

  took-nothing : (y : Pair) (ticks : List Pair) (tick : ℕ) → IsFirstOf w.lag c hits s.words (y ∷ ticks) → (place : ℕ) (station : StationData) →
      IsPresentAt w place station → took_in w.lag w.plan w.loads w.outside w.absent ((y ∷ ticks) ++ past) tick station ≡ None
  took-nothing y ticks tick alone place station at =
      ap (option_map (block_at tick (standing_of w station ((y ∷ ticks) ++ past)).channel station)) (takes y ticks alone place station at)

  leg-blocks : (ticks : List Pair) → IsFirstOf w.lag c hits s.words ticks → blocks_in w (ticks ++ past) ≡ blocks_in w past
  unfolding blocks_found
  leg-blocks [] alone = refl
  leg-blocks (y ∷ ticks) alone =
      let tick = length (ticks ++ past) in
      let None_of = λ (st : StationData). took_in w.lag w.plan w.loads w.outside w.absent ((y ∷ ticks) ++ past) tick st ≡ None in
      let none : blocks_now w.lag w.plan w.loads w.outside w.absent ((y ∷ ticks) ++ past) tick ≡ [] =
      none-each None_of (took_in w.lag w.plan w.loads w.outside w.absent ((y ∷ ticks) ++ past) tick) (present_stations w.lag w.plan w.loads w.outside w.absent)
      (each-present w past None_of (took-nothing y ticks tick alone)) (λ st is. is) in
      ap (λ bs. blocks_in w (ticks ++ past) ++ bs) none ∙ append-nil (blocks_in w (ticks ++ past))
      ∙ leg-blocks ticks (first-less w.lag c hits s.words y ticks alone)

  ended-nothing : (y z : Pair) (ticks : List Pair) → IsFirstOf w.lag c hits s.words (y ∷ (z ∷ ticks)) → (place : ℕ) (station : StationData) →
      IsPresentAt w place station →
      ended_by w.lag w.plan w.loads w.outside w.absent ((y ∷ (z ∷ ticks)) ++ past) (length ((z ∷ ticks) ++ past)) station ≡ []
  ended-nothing y z ticks alone place station at =
      let earlier = (z ∷ ticks) ++ past in
      ap (attempt_at w.lag w.plan w.loads w.outside w.absent station.terminal.address (length earlier)) (still y z ticks alone place station at)
      ∙ no-attempt w station.terminal.address (length earlier) (length earlier) (course_of w station earlier).ended (omega arith)
      (ended-before w.lag station (starts w.plan station) (so_far w.lag station (starts w.plan station) w.loads w.outside earlier).takes earlier)

  leg-attempts : (y : Pair) (ticks : List Pair) → IsFirstOf w.lag c hits s.words (y ∷ ticks) → attempts_in w ((y ∷ ticks) ++ past) ≡ attempts_in w past ++ ended
  unfolding attempts
  leg-attempts y [] alone = ap (λ xs. attempts_in w past ++ xs) (first y alone)
  leg-attempts y (z ∷ ticks) alone =
      let earlier = (z ∷ ticks) ++ past in
      let None_of = λ (st : StationData). ended_by w.lag w.plan w.loads w.outside w.absent (y ∷ earlier) (length earlier) st ≡ [] in
      let none : flat_map (ended_by w.lag w.plan w.loads w.outside w.absent (y ∷ earlier) (length earlier))
      (present_stations w.lag w.plan w.loads w.outside w.absent) ≡ [] =
      none-of-each None_of (ended_by w.lag w.plan w.loads w.outside w.absent (y ∷ earlier) (length earlier))
      (present_stations w.lag w.plan w.loads w.outside w.absent) (each-present w past None_of (ended-nothing y z ticks alone)) (λ st is. is) in
      ap (λ xs. attempts_in w earlier ++ xs) none ∙ append-nil (attempts_in w earlier)
      ∙ leg-attempts z ticks (first-less w.lag c hits s.words y (z ∷ ticks) alone)

  some-attempts : (ticks : List Pair) → 0 < length ticks → IsFirstOf w.lag c hits s.words ticks → attempts_in w (ticks ++ past) ≡ attempts_in w past ++ ended
  some-attempts [] none alone = absurd (omega (arith, none))
  some-attempts (y ∷ ticks) any alone = leg-attempts y ticks alone

  -- ---- each tick is in order

  next-tick : (n : ℕ) → t + suc n ≡ suc (t + n)
  next-tick n = omega arith

  -- at most one station drives a channel in the tick after the first n of them
  drives-one : (n : ℕ) → n < limit → (d : Channel) → drivers_at w (t + n) d ≤ 1
  drives-one n early d =
      let so = sent-ticks n (omega (arith, early)) in
      let now = drives_after w.lag w.plan w.loads w.outside w.absent (so.0 ++ past) in
      let more = one-more w (trace_at w t) s hits limit lag fresh spent named fits some bound own others n so.0 so.1 early so.2 in
      let driven : driven_at w (t + suc n) ≡ (now ∷ so.1) ++ driven_at w t = ap (λ (tr : Trace). tr.driven) (trace-is (suc n) _ _ more) in
      subst (λ u. drivers w.plan.faults d (driven_at w u) ≤ 1) (next-tick n)
      (subst (λ driven. drivers w.plan.faults d driven ≤ 1) (sym driven) (elim (this-or-other c d) [
        | inl same ↦ subst (λ a. drivers w.plan.faults a ((now ∷ so.1) ++ driven_at w t) ≤ 1) (sym same)
            (part-drivers w.plan.faults s hits (driven_at w t) so.1 now more.part)
        | inr other ↦ subst (λ a. drivers w.plan.faults a ((now ∷ so.1) ++ driven_at w t) ≤ 1) (sym other)
            (let none = left-undriven w.plan.faults (other_of c) (driven_at w t) so.1 now more.beside in omega (arith, none))
      ]))

  goes-on : (n : ℕ) → n < limit → is_over_at w (t + n) ≡ false
  goes-on n early =
      let so = sent-ticks n (omega (arith, early)) in
      busy-goes-on w (t + n) (so.0 ++ past) (shown-is n so.0 so.1 so.2) (busy so.0 (first-for n so.0 so.1 early so.2))

  some-hands : (ticks : List Pair) → 0 < length ticks → IsFirstOf w.lag c hits s.words ticks → InOneHand w (ticks ++ past)
  some-hands [] none alone = absurd (omega (arith, none))
  some-hands (y ∷ ticks) any alone = hands y ticks alone

  held-after : (n : ℕ) → 0 < n → n < limit → InOneHand w (shown_at w (t + n))
  held-after n any early =
      let so = sent-ticks n (omega (arith, early)) in
      subst (InOneHand w) (sym (shown-is n so.0 so.1 so.2)) (some-hands so.0 (omega (arith, any, so.2.many)) (first-for n so.0 so.1 early so.2))

  at-tick : (n : ℕ) → suc n < limit → IsOrderly w (t + n)
  at-tick n early = record {
    alone = drives-one n (omega (arith, early));
    hands = subst (λ u. InOneHand w (shown_at w u)) (next-tick n) (held-after (suc n) (omega arith) early);
    goes_on = goes-on n (omega (arith, early));
  }

  at-any : (n : ℕ) → n < limit → (i : ℕ) → t ≤ i → i < t + n → IsOrderly w i
  at-any n early i low high =
      let same : t + (i - t) ≡ i = omega (arith, low) in subst (IsOrderly w) same (at-tick (i - t) (omega (arith, low, high, early)))

  -- ---- all of it

  last-is : suc m ≡ limit
  last-is = omega arith

  few : m < limit
  few = omega arith

  so-far : (ticks : List Pair) × (sent : List (List Drive)) × Runs m ticks sent
  so-far = sent-ticks m (omega arith)

  abbrev ticks : List Pair
  ticks = so-far.0

  abbrev sent : List (List Drive)
  sent = so-far.1

  abbrev driven : List Drive
  driven = drives_after w.lag w.plan w.loads w.outside w.absent (ticks ++ past)

  abbrev x : Pair
  x = shown w.plan.faults ((driven ∷ sent) ++ driven_at w t)

  alone-so : IsFirstOf w.lag c hits s.words ticks
  alone-so = first-for m ticks sent few so-far.2

  whole-at : Runs (suc m) (x ∷ ticks) (driven ∷ sent)
  whole-at = one-more w (trace_at w t) s hits limit lag fresh spent named fits some bound own others m ticks sent few so-far.2

  later-trace : trace_at w (t + suc m) ≡ record { shown = (x ∷ ticks) ++ past; driven = (driven ∷ sent) ++ driven_at w t }
  later-trace = trace-is (suc m) (x ∷ ticks) (driven ∷ sent) whole-at

  passed-then : Passage w t (t + m) record { blocks = []; bursts = []; attempts = ended; commands = begun }
  passed-then =
      let same = shown-is m ticks sent so-far.2 in record {
        later = omega arith;
        blocks_are = ap (λ p. blocks_in w p) same ∙ leg-blocks ticks alone-so ∙ sym (append-nil _);
        bursts_are = ap (bursts w.lag) same ∙ leg-bursts w.lag c ticks past (rests (other_of c)) alone-so.alone.leg alone-so.alone.quiet ∙ sym (append-nil _);
        attempts_are = ap (λ p. attempts_in w p) same ∙ some-attempts ticks (omega (arith, so-far.2.many, some)) alone-so;
        counted = ap (λ (tr : Trace). commands_in w tr.driven) (trace-is m ticks sent so-far.2) ∙ counted m (omega (arith, some)) ticks sent so-far.2;
        orderly = at-any m few;
      }

  pub sent-all : SentTicks w t s hits begun ended
  sent-all = record {
    newest = x;
    ticks = ticks;
    driven = driven;
    sent = sent;
    whole = subst (λ n. PartRuns w (trace_at w t) s hits n (x ∷ ticks) (driven ∷ sent)) last-is whole-at;
    first = alone-so;
    many = so-far.2.many;
    before = shown-is m ticks sent so-far.2;
    trace = later-trace;
    passed = passed-then;
    counted = ap (λ (tr : Trace). commands_in w tr.driven) later-trace ∙ counted (suc m) (omega arith) (x ∷ ticks) (driven ∷ sent) whole-at;
    drives = drives-one m few;
    goes_on = goes-on m few;
  }
