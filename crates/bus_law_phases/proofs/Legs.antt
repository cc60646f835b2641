-- While a part is sent: nothing comes to pass but that it is sent, and every tick is in order.
use Rattle.std.proofs.Common.{◌≡◌, ◌≢◌, inl, inr, ℕ, suc, ◌+◌, ◌-◌, ◌<◌, ◌≤◌, false, List, [], ◌∷◌, ◌++◌, length, Some, None, refl, sym, ap, ◌∙◌, subst, arith, length-append}
use Rattle.std.proofs.lemmas.List.{append-nil}
use Rattle.std.specs.Prelude.{slice_get, drop, flat_map, option_map, nat_le}
use Rattle.std.specs.List.{list_all}
use Rattle.bus_base.specs.Samples.{other_of}
use Rattle.bus_base.specs.declared.samples.Channel.{Channel}
use Rattle.bus_base.specs.declared.samples.Drive.{Drive}
use Rattle.bus_base.specs.declared.samples.Drive.TheVariants.{Silent}
use Rattle.bus_base.specs.declared.samples.Pair.{Pair}
use Rattle.bus_words.specs.declared.word.Word.{Word}
use Rattle.bus_base.specs.declared.samples.Sample.{Sample}
use Rattle.bus_line.specs.Past.{runs}
use Rattle.bus_line.specs.Channels.{on_channel, quiet_both, bursts}
use Rattle.bus_formats.specs.Plans.{StationData}
use Rattle.bus_formats.specs.Times.{ending_quiet}
use Rattle.bus_formats.specs.declared.fault.Hit.{Hit}
use Rattle.bus_model.specs.Sending.{drive_sample}
use Rattle.bus_model.specs.Starts.{starts}
use Rattle.bus_model.specs.Strikes.{hits_on}
use Rattle.bus_model.specs.Terminal.{took_now}
use Rattle.bus_model.specs.Transmissions.{station_drive}
use Rattle.bus_model.specs.Control.{so_far}
use Rattle.bus_model.specs.Wire.{drivers}
use Rattle.bus_model.specs.World.{Trace, drives_after, is_done}
use Rattle.bus_model.specs.WorldLog.{present_stations, attempt_at, ended_by, attempts}
use Rattle.bus_law_control.proofs.Holding.{ended-before}
use Rattle.bus_law_line.specs.Senders.{Sender, IsSpent, attempt_to_come}
use Rattle.bus_law_line.proofs.Sent.{left-undriven}
use Rattle.bus_law_messages.proofs.Listening.{this-or-other}
use Rattle.bus_law_parts.specs.Parts.{part_ticks, HitsFit, IsFresh}
use Rattle.bus_law_parts.proofs.SentParts.{part-drivers}
use Rattle.bus_law_table.specs.Happened.{block_at, took_in, blocks_in as blocks_now, blocks_found}
use Rattle.bus_law_table.proofs.Pairing.{none-each}
use Rattle.bus_law_table.proofs.Ticks.{leg-bursts}
use Rattle.bus_law_phases.specs.Scenarios.{Scenario, trace_at, shown_at, driven_at, blocks_in, attempts_in, commands_in, course_of, hearing_of, standing_of, IsPresentAt, drivers_at, is_over_at, StaysFrom}
use Rattle.bus_law_phases.specs.Passages.{HoldsAlone, IsOrderly, Passage}
use Rattle.bus_law_phases.specs.PartRuns.{RunsAlone, IsFirstOf, PartRuns}
use Rattle.bus_law_phases.specs.Silences.{SomeoneIsBusy}
use Rattle.bus_law_phases.proofs.PartRunning.{on-more, part-runs, one-more, first-of}
use Rattle.bus_law_phases.proofs.Resting.{each-present, no-attempt, none-of-each}
use Rattle.bus_law_phases.proofs.Silence.{not-all, and-false}
use Rattle.bus_law_phases.proofs.Staying.{ticks-later}

-- one tick fewer
pub runs-less : (k : ℕ) (c : Channel) (x : Pair) (ticks : List Pair) → RunsAlone k c (x ∷ ticks) → RunsAlone k c ticks
runs-less k c x ticks runs = record { leg = runs.leg.2; quiet = ap (λ (xs : List Sample). drop 1 xs) runs.quiet }

pub first-less : (k : ℕ) (c : Channel) (hits : List Hit) (words : List Word) (x : Pair) (ticks : List Pair) → IsFirstOf k c hits words (x ∷ ticks) →
    IsFirstOf k c hits words ticks
first-less k c hits words x ticks first = record {
  alone = runs-less k c x ticks first.alone;
  shown = ap (λ (xs : List Sample). drop 1 xs) (sym (on-more c x ticks) ∙ first.shown);
}

-- a run isn't over where somebody is busy
pub busy-goes-on : (w : Scenario) (i : ℕ) (past : List Pair) → shown_at w i ≡ past → SomeoneIsBusy w past →
    is_over_at w i ≡ false
busy-goes-on w i past same busy =
    let present = busy.at.present in
    let idle = busy.busy in
    let fails : is_done w.lag w.plan w.loads w.outside w.absent past busy.station ≡ false = rw (present, idle) refl in
    let none : list_all (is_done w.lag w.plan w.loads w.outside w.absent past) w.plan.stations ≡ false =
    not-all (is_done w.lag w.plan w.loads w.outside w.absent past) w.plan.stations busy.place busy.station busy.at.there fails in
    rw (same, none) (and-false (nat_le ending_quiet (quiet_both past)))

module _ (w : Scenario) (t : ℕ) (s : Sender) (hits : List Hit) (limit : ℕ) (lag : w.lag ≡ 3) (stays : StaysFrom w t)
    (fresh : IsFresh w.plan.faults s.channel (driven_at w t) s.station)
    (spent : (d : Channel) (station : ℕ) → IsSpent w.plan.faults d (driven_at w t) station)
    (rests : (d : Channel) → runs w.lag (on_channel d (shown_at w t)) ≡ false)
    (named : hits_on w.plan.faults (attempt_to_come w.plan.faults s.part (driven_at w t)) s.part ≡ hits)
    (fits : HitsFit s.part hits s.words) (some : 0 < part_ticks hits s.words) (bound : limit ≤ part_ticks hits s.words + 4)
    (own : (ticks : List Pair) → IsFirstOf w.lag s.channel hits s.words ticks → length ticks < limit →
    slice_get (drives_after w.lag w.plan w.loads w.outside w.absent (ticks ++ shown_at w t)) s.station
    ≡ Some (drive_sample s.channel s.part s.words (length ticks)))
    (others : (ticks : List Pair) → IsFirstOf w.lag s.channel hits s.words ticks → length ticks < limit → (other : ℕ) → other ≢ s.station →
    station_drive other (drives_after w.lag w.plan w.loads w.outside w.absent (ticks ++ shown_at w t)) ≡ Silent)
    (still : (ticks : List Pair) → IsFirstOf w.lag s.channel hits s.words ticks → length ticks < limit → (place : ℕ) (station : StationData) →
    IsPresentAt w place station → (course_of w station (ticks ++ shown_at w t)).ended ≡ (course_of w station (shown_at w t)).ended)
    (takes : (x : Pair) (ticks : List Pair) → IsFirstOf w.lag s.channel hits s.words (x ∷ ticks) → length (x ∷ ticks) < limit → (place : ℕ) (station : StationData) →
    IsPresentAt w place station → took_now w.lag station.terminal w.loads (hearing_of w station ((x ∷ ticks) ++ shown_at w t)) ≡ None)
    (hands : (ticks : List Pair) → IsFirstOf w.lag s.channel hits s.words ticks → length ticks < limit → HoldsAlone w (ticks ++ shown_at w t))
    (goes : (ticks : List Pair) → IsFirstOf w.lag s.channel hits s.words ticks → length ticks < limit → (i : ℕ) → shown_at w i ≡ ticks ++ shown_at w t →
    is_over_at w i ≡ false) where
  abbrev c : Channel
  c = s.channel

  abbrev past : List Pair
  past = shown_at w t

  -- ---- the ticks

  pub sent-ticks : (n : ℕ) → n ≤ limit → (ticks : List Pair) × (sent : List (List Drive)) × PartRuns w (trace_at w t) s hits n ticks sent
  sent-ticks n early = part-runs w (trace_at w t) s hits limit lag fresh spent named fits some bound own others n early

  pub first-for : (n : ℕ) (ticks : List Pair) (sent : List (List Drive)) → n < limit → PartRuns w (trace_at w t) s hits n ticks sent → IsFirstOf w.lag c hits s.words ticks
  first-for n ticks sent early so = first-of w (trace_at w t) s hits limit lag fresh spent named fits some bound own others n ticks sent early so

  pub trace-is : (n : ℕ) (ticks : List Pair) (sent : List (List Drive)) → PartRuns w (trace_at w t) s hits n ticks sent →
      trace_at w (t + n) ≡ record { shown = ticks ++ past; driven = sent ++ driven_at w t }
  trace-is n ticks sent so = sym (ticks-later w t n stays) ∙ so.world

  pub shown-is : (n : ℕ) (ticks : List Pair) (sent : List (List Drive)) → PartRuns w (trace_at w t) s hits n ticks sent → shown_at w (t + n) ≡ ticks ++ past
  shown-is n ticks sent so = ap (λ (tr : Trace). tr.shown) (trace-is n ticks sent so)

  -- ---- no block is taken, no burst ends, and no attempt ends

  took-nothing : (x : Pair) (ticks : List Pair) (tick : ℕ) → IsFirstOf w.lag c hits s.words (x ∷ ticks) → length (x ∷ ticks) < limit → (place : ℕ) (station : StationData) →
      IsPresentAt w place station → took_in w.lag w.plan w.loads w.outside w.absent ((x ∷ ticks) ++ past) tick station ≡ None
  took-nothing x ticks tick alone early place station at =
      ap (option_map (block_at tick (standing_of w station ((x ∷ ticks) ++ past)).channel station)) (takes x ticks alone early place station at)

  pub leg-blocks : (ticks : List Pair) → IsFirstOf w.lag c hits s.words ticks → length ticks < limit → blocks_in w (ticks ++ past) ≡ blocks_in w past
  unfolding blocks_found
  leg-blocks [] alone early = refl
  leg-blocks (x ∷ ticks) alone early =
      let tick = length (ticks ++ past) in
      let None_of = λ (st : StationData). took_in w.lag w.plan w.loads w.outside w.absent ((x ∷ ticks) ++ past) tick st ≡ None in
      let none : blocks_now w.lag w.plan w.loads w.outside w.absent ((x ∷ ticks) ++ past) tick ≡ [] =
      none-each None_of (took_in w.lag w.plan w.loads w.outside w.absent ((x ∷ ticks) ++ past) tick) (present_stations w.lag w.plan w.loads w.outside w.absent)
      (each-present w past None_of (took-nothing x ticks tick alone early)) (λ st is. is) in
      ap (λ bs. blocks_in w (ticks ++ past) ++ bs) none ∙ append-nil (blocks_in w (ticks ++ past))
      ∙ leg-blocks ticks (first-less w.lag c hits s.words x ticks alone) (omega (arith, early))

  ended-nothing : (x : Pair) (ticks : List Pair) → IsFirstOf w.lag c hits s.words (x ∷ ticks) → length (x ∷ ticks) < limit → (place : ℕ) (station : StationData) →
      IsPresentAt w place station →
      ended_by w.lag w.plan w.loads w.outside w.absent ((x ∷ ticks) ++ past) (length (ticks ++ past)) station ≡ []
  ended-nothing x ticks alone early place station at =
      let long : length (ticks ++ past) ≡ length ticks + length past = length-append ticks past in
      ap (attempt_at w.lag w.plan w.loads w.outside w.absent station.terminal.address (length (ticks ++ past))) (still (x ∷ ticks) alone early place station at)
      ∙ no-attempt w station.terminal.address (length (ticks ++ past)) (length past) (course_of w station past).ended (omega (arith, long))
      (ended-before w.lag station (starts w.plan station) (so_far w.lag station (starts w.plan station) w.loads w.outside past).takes past)

  pub leg-attempts : (ticks : List Pair) → IsFirstOf w.lag c hits s.words ticks → length ticks < limit → attempts_in w (ticks ++ past) ≡ attempts_in w past
  unfolding attempts
  leg-attempts [] alone early = refl
  leg-attempts (x ∷ ticks) alone early =
      let None_of = λ (st : StationData). ended_by w.lag w.plan w.loads w.outside w.absent ((x ∷ ticks) ++ past) (length (ticks ++ past)) st ≡ [] in
      let none : flat_map (ended_by w.lag w.plan w.loads w.outside w.absent ((x ∷ ticks) ++ past) (length (ticks ++ past)))
      (present_stations w.lag w.plan w.loads w.outside w.absent) ≡ [] =
      none-of-each None_of (ended_by w.lag w.plan w.loads w.outside w.absent ((x ∷ ticks) ++ past) (length (ticks ++ past)))
      (present_stations w.lag w.plan w.loads w.outside w.absent) (each-present w past None_of (ended-nothing x ticks alone early)) (λ st is. is) in
      ap (λ xs. attempts_in w (ticks ++ past) ++ xs) none ∙ append-nil (attempts_in w (ticks ++ past))
      ∙ leg-attempts ticks (first-less w.lag c hits s.words x ticks alone) (omega (arith, early))

  -- ---- each tick is in order

  next-tick : (m : ℕ) → t + suc m ≡ suc (t + m)
  next-tick m = omega arith

  -- at most one station drives a channel in the tick after the first m of them
  pub drives-one : (m : ℕ) → m < limit → (d : Channel) → drivers_at w (t + m) d ≤ 1
  drives-one m early d =
      let so = sent-ticks m (omega (arith, early)) in
      let now = drives_after w.lag w.plan w.loads w.outside w.absent (so.0 ++ past) in
      let more = one-more w (trace_at w t) s hits limit lag fresh spent named fits some bound own others m so.0 so.1 early so.2 in
      let driven : driven_at w (t + suc m) ≡ (now ∷ so.1) ++ driven_at w t = ap (λ (tr : Trace). tr.driven) (trace-is (suc m) _ _ more) in
      subst (λ u. drivers w.plan.faults d (driven_at w u) ≤ 1) (next-tick m)
      (subst (λ driven. drivers w.plan.faults d driven ≤ 1) (sym driven) (elim (this-or-other c d) [
        | inl same ↦ subst (λ a. drivers w.plan.faults a ((now ∷ so.1) ++ driven_at w t) ≤ 1) (sym same)
            (part-drivers w.plan.faults s hits (driven_at w t) so.1 now more.part)
        | inr other ↦ subst (λ a. drivers w.plan.faults a ((now ∷ so.1) ++ driven_at w t) ≤ 1) (sym other)
            (let none = left-undriven w.plan.faults (other_of c) (driven_at w t) so.1 now more.beside in omega (arith, none))
      ]))

  pub goes-on : (m : ℕ) → m < limit → is_over_at w (t + m) ≡ false
  goes-on m early =
      let so = sent-ticks m (omega (arith, early)) in
      goes so.0 (first-for m so.0 so.1 early so.2) (omega (arith, early, so.2.many)) (t + m) (shown-is m so.0 so.1 so.2)

  pub held-after : (m : ℕ) → m < limit → HoldsAlone w (shown_at w (t + m))
  held-after m early =
      let so = sent-ticks m (omega (arith, early)) in
      subst (HoldsAlone w) (sym (shown-is m so.0 so.1 so.2)) (hands so.0 (first-for m so.0 so.1 early so.2) (omega (arith, early, so.2.many)))

  at-tick : (m : ℕ) → suc m < limit → IsOrderly w (t + m)
  at-tick m early = record {
    alone = drives-one m (omega (arith, early));
    hands = inl (subst (λ u. HoldsAlone w (shown_at w u)) (next-tick m) (held-after (suc m) early));
    goes_on = goes-on m (omega (arith, early));
  }

  at-any : (n : ℕ) → n < limit → (i : ℕ) → t ≤ i → i < t + n → IsOrderly w i
  at-any n early i low high =
      let same : t + (i - t) ≡ i = omega (arith, low) in subst (IsOrderly w) same (at-tick (i - t) (omega (arith, low, high, early)))

  -- ---- what comes to pass while it is sent: commands that begin, and nothing else

  pub leg-passes : (n : ℕ) → n < limit → (begun : ℕ) →
      ((ticks : List Pair) (sent : List (List Drive)) → PartRuns w (trace_at w t) s hits n ticks sent →
      commands_in w (sent ++ driven_at w t) ≡ commands_in w (driven_at w t) + begun) →
      Passage w t (t + n) record { blocks = []; bursts = []; attempts = []; commands = begun }
  leg-passes n early begun counted =
      let so = sent-ticks n (omega (arith, early)) in
      let alone = first-for n so.0 so.1 early so.2 in
      let few : length so.0 < limit = omega (arith, early, so.2.many) in
      let same = shown-is n so.0 so.1 so.2 in
      record {
        later = omega arith;
        blocks_are = ap (λ p. blocks_in w p) same ∙ leg-blocks so.0 alone few ∙ sym (append-nil _);
        bursts_are = ap (bursts w.lag) same ∙ leg-bursts w.lag c so.0 past (rests (other_of c)) alone.alone.leg alone.alone.quiet ∙ sym (append-nil _);
        attempts_are = ap (λ p. attempts_in w p) same ∙ leg-attempts so.0 alone few ∙ sym (append-nil _);
        counted = ap (λ (tr : Trace). commands_in w tr.driven) (trace-is n so.0 so.1 so.2) ∙ counted so.0 so.1 so.2;
        orderly = at-any n early;
      }
