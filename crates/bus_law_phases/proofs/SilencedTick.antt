-- One tick in which every station is silent, whatever becomes of the stations in it.
use Rattle.std.proofs.Common.{◌≡◌, inl, inr, ℕ, suc, ◌<◌, ◌≤◌, false, List, [], ◌∷◌, ◌++◌, length, None, refl, sym, ap, ◌∙◌, subst, arith}
use Rattle.std.proofs.lemmas.Bool.Decides.{nat_tests}
use Rattle.std.proofs.lemmas.List.{append-nil}
use Rattle.std.specs.Prelude.{nat_le, count_by, flat_map, option_map}
use Rattle.std.specs.List.{list_all}
use Rattle.bus_base.specs.Samples.{quiet_pair}
use Rattle.bus_base.specs.declared.samples.Channel.{Channel}
use Rattle.bus_base.specs.declared.samples.Channel.TheVariants.{A, B}
use Rattle.bus_base.specs.declared.samples.Drive.{Drive}
use Rattle.bus_base.specs.declared.samples.Drive.TheVariants.{Silent}
use Rattle.bus_base.specs.declared.samples.Pair.{Pair}
use Rattle.bus_line.specs.Past.{runs}
use Rattle.bus_line.specs.Channels.{on_channel, quiet_both, bursts}
use Rattle.bus_formats.specs.Plans.{StationData}
use Rattle.bus_formats.specs.Times.{ending_quiet}
use Rattle.bus_formats.specs.declared.log.Attempt.{Attempt}
use Rattle.bus_model.specs.Course.{quiet_from}
use Rattle.bus_model.specs.Control.{drives_next}
use Rattle.bus_model.specs.Starts.{starts}
use Rattle.bus_model.specs.Terminal.{took_now}
use Rattle.bus_model.specs.Transmissions.{drives_on, station_drive, newest_drives, is_command, transmissions}
use Rattle.bus_model.specs.Wire.{shown, drivers}
use Rattle.bus_model.specs.World.{Trace, drives_after, is_done}
use Rattle.bus_model.specs.WorldLog.{present_stations, ended_by, attempts}
use Rattle.bus_law_line.specs.Senders.{LeftAlone}
use Rattle.bus_law_line.proofs.Sent.{left-spent}
use Rattle.bus_law_messages.proofs.Pausing.{from-quiet}
use Rattle.bus_law_messages.proofs.Running.{quiet-pair}
use Rattle.bus_law_messages.proofs.Sending.{place-silent}
use Rattle.bus_law_parts.specs.Parts.{IsFresh}
use Rattle.bus_law_stations.proofs.Resting.{rests-quiet}
use Rattle.bus_law_messages.proofs.Pausing.{on-quiet}
use Rattle.bus_law_table.specs.Happened.{block_at, took_in, blocks_in as blocks_now, blocks_found}
use Rattle.bus_law_table.proofs.Pairing.{none-each}
use Rattle.bus_law_table.proofs.Quiet.{quiet-bursts}
use Rattle.bus_law_phases.specs.Scenarios.{Scenario, trace_at, shown_at, driven_at, hearing_of, standing_of, blocks_in, attempts_in, commands_in, IsPresentAt, is_over_at, StaysFrom}
use Rattle.bus_law_phases.specs.Passages.{HoldsAlone, IsOrderly, Passage}
use Rattle.bus_law_phases.specs.Silences.{IsQuiet, GoesOnTo}
use Rattle.bus_law_phases.proofs.Resting.{each-present}
use Rattle.bus_law_phases.proofs.Silence.{with-silent, quiet-shown, quiet-within, and-false, not-all, drivers-few}
use Rattle.bus_law_phases.proofs.Staying.{long-at}

-- every station that is present is silent in the tick to come
abbrev pub AllSilent : Scenario → List Pair → Type 0
AllSilent w past =
    (place : ℕ) (station : StationData) → IsPresentAt w place station → drives_next w.lag station (starts w.plan station) w.loads w.outside past ≡ Silent

-- none of them takes a block in that tick, if it is quiet
abbrev pub NoneTakesBlocks : Scenario → List Pair → Type 0
NoneTakesBlocks w past =
    (place : ℕ) (station : StationData) → IsPresentAt w place station →
    took_now w.lag station.terminal w.loads (hearing_of w station (quiet_pair ∷ past)) ≡ None

-- the run isn't over where a station is busy, or the channels were quiet for too short a time
pub over-not-now : (w : Scenario) (t : ℕ) → length (shown_at w t) ≡ t → GoesOnTo w (shown_at w t) (suc t) → is_over_at w t ≡ false
over-not-now w t long goes = elim goes [
  | inl busy ↦ (let past = shown_at w t in
      let present = busy.at.present in
      let idle = busy.busy in
      let fails : is_done w.lag w.plan w.loads w.outside w.absent past busy.station ≡ false = rw (present, idle) refl in
      let none : list_all (is_done w.lag w.plan w.loads w.outside w.absent past) w.plan.stations ≡ false =
      not-all (is_done w.lag w.plan w.loads w.outside w.absent past) w.plan.stations busy.place busy.station busy.at.there fails in
      rw none (and-false (nat_le ending_quiet (quiet_both past))))
  | inr bound ↦ (let past = shown_at w t in
      let within : quiet_both past ≤ length past = quiet-within past in
      let low : nat_le ending_quiet (quiet_both past) ≡ false = grind (arith, nat_tests, within, long, bound) in
      rw low refl)
]

-- ---- a tick in which nothing is shown

-- what came to pass in it: no block is taken, and these attempts end
module _ (w : Scenario) (t : ℕ) (shows : shown_at w (suc t) ≡ quiet_pair ∷ shown_at w t)
    (rests : (d : Channel) → runs w.lag (on_channel d (shown_at w t)) ≡ false)
    (counted : commands_in w (driven_at w (suc t)) ≡ commands_in w (driven_at w t)) (orderly : IsOrderly w t) (takes : NoneTakesBlocks w (shown_at w t))
    (ended : List Attempt)
    (are : flat_map (ended_by w.lag w.plan w.loads w.outside w.absent (quiet_pair ∷ shown_at w t) (length (shown_at w t)))
    (present_stations w.lag w.plan w.loads w.outside w.absent) ≡ ended) where
  abbrev past_now : List Pair
  past_now = shown_at w t

  blocks-none : blocks_in w (quiet_pair ∷ shown_at w t) ≡ blocks_in w (shown_at w t)
  unfolding blocks_found
  blocks-none =
      let nothing : blocks_now w.lag w.plan w.loads w.outside w.absent (quiet_pair ∷ shown_at w t) (length (shown_at w t)) ≡ [] =
      none-each (λ st. took_in w.lag w.plan w.loads w.outside w.absent (quiet_pair ∷ past_now) (length past_now) st ≡ None)
      (took_in w.lag w.plan w.loads w.outside w.absent (quiet_pair ∷ past_now) (length past_now)) (present_stations w.lag w.plan w.loads w.outside w.absent)
      (each-present w past_now (λ st. took_in w.lag w.plan w.loads w.outside w.absent (quiet_pair ∷ past_now) (length past_now) st ≡ None)
      (λ place station at.
      ap (option_map (block_at (length past_now) (standing_of w station (quiet_pair ∷ past_now)).channel station)) (takes place station at)))
      (λ st is. is) in
      ap (λ bs. blocks_in w past_now ++ bs) nothing ∙ append-nil (blocks_in w past_now)

  attempts-more : attempts_in w (quiet_pair ∷ shown_at w t) ≡ attempts_in w (shown_at w t) ++ ended
  unfolding attempts
  attempts-more = ap (λ xs. attempts_in w past_now ++ xs) are

  orderly-at : (i : ℕ) → t ≤ i → i < suc t → IsOrderly w i
  orderly-at i low high = let same : t ≡ i = omega (arith, low, high) in subst (IsOrderly w) same orderly

  pub quiet-tick-passes : Passage w t (suc t) record { blocks = []; bursts = []; attempts = ended; commands = 0 }
  quiet-tick-passes = record {
    later = omega arith;
    blocks_are = ap (λ p. blocks_in w p) shows ∙ blocks-none ∙ sym (append-nil _);
    bursts_are = ap (bursts w.lag) shows ∙ quiet-bursts w.lag 1 past_now rests ∙ sym (append-nil _);
    attempts_are = ap (λ p. attempts_in w p) shows ∙ attempts-more;
    counted = counted ∙ omega arith;
    orderly = orderly-at;
  }

-- ---- a tick in which every station is silent

module _ (w : Scenario) (t : ℕ) (stays : StaysFrom w t) (quiet : IsQuiet w (trace_at w t)) (silent : AllSilent w (shown_at w t)) where
  abbrev past : List Pair
  past = shown_at w t

  abbrev now : List Drive
  now = drives_after w.lag w.plan w.loads w.outside w.absent past

  none : (station : ℕ) → station_drive station now ≡ Silent
  none station =
      place-silent w.lag w.plan w.loads w.outside w.absent past station (λ st there present.
      silent station st record { there = there; present = present })

  left : (d : Channel) → LeftAlone w.plan.faults d (driven_at w t) (now ∷ [])
  left d = record { undriven = (λ station. ap (drives_on d) (none station), tt); spent = quiet.spent d }

  shows : shown w.plan.faults (now ∷ driven_at w t) ≡ quiet_pair
  shows =
      quiet-shown w.plan.faults (now ∷ driven_at w t) (quiet-pair w.plan.faults A (driven_at w t) [] now (left A))
      (quiet-pair w.plan.faults B (driven_at w t) [] now (left B))

  -- the trace afterwards
  pub tick-trace : trace_at w (suc t) ≡ record { shown = quiet_pair ∷ past; driven = now ∷ driven_at w t }
  tick-trace = stays.next t (omega arith) ∙ ap (λ x. record { shown = x ∷ past; driven = now ∷ driven_at w t }) shows

  pub tick-shown : shown_at w (suc t) ≡ quiet_pair ∷ past
  tick-shown = ap (λ (tr : Trace). tr.shown) tick-trace

  pub tick-quiet-from : quiet_from (shown_at w (suc t)) ≡ quiet_from past
  tick-quiet-from = ap quiet_from tick-shown ∙ from-quiet 1 past

  pub tick-quiet : IsQuiet w record { shown = quiet_pair ∷ past; driven = now ∷ driven_at w t }
  tick-quiet = record {
    rests = λ d. ap (runs w.lag) (on-quiet d 1 past) ∙ rests-quiet w.lag 1 (on_channel d past) (quiet.rests d);
    spent = λ d station. left-spent w.plan.faults d (driven_at w t) (now ∷ []) (left d) station;
  }

  pub tick-fresh : (d : Channel) (station : ℕ) → IsFresh w.plan.faults d (now ∷ driven_at w t) station
  tick-fresh d station = rw (ap (drives_on d) (none station)) refl

  counted : commands_in w (now ∷ driven_at w t) ≡ commands_in w (driven_at w t)
  unfolding transmissions
  counted =
      ap (count_by is_command)
      (with-silent w.plan.faults 0 (length (driven_at w t)) (newest_drives (driven_at w t)) now (transmissions w.plan.faults (driven_at w t)) none)

  drives-few : (c : Channel) → drivers w.plan.faults c (now ∷ driven_at w t) ≤ 1
  drives-few c = drivers-few w.plan.faults c (driven_at w t) (now ∷ []) 0 refl (left c)

  module _ (takes : NoneTakesBlocks w past) (ended : List Attempt)
      (are : flat_map (ended_by w.lag w.plan w.loads w.outside w.absent (quiet_pair ∷ past) (length past))
      (present_stations w.lag w.plan w.loads w.outside w.absent) ≡ ended)
      (hands : HoldsAlone w (quiet_pair ∷ past)) (goes : GoesOnTo w past (suc t)) where
    orderly : IsOrderly w t
    orderly = record {
      alone = λ c. subst (λ (tr : Trace). drivers w.plan.faults c tr.driven ≤ 1) (sym tick-trace) (drives-few c);
      hands = inl (subst (HoldsAlone w) (sym tick-shown) hands);
      goes_on = over-not-now w t (long-at w t stays) goes;
    }

    pub tick-passes : Passage w t (suc t) record { blocks = []; bursts = []; attempts = ended; commands = 0 }
    tick-passes =
        quiet-tick-passes w t tick-shown quiet.rests (ap (λ (tr : Trace). commands_in w tr.driven) tick-trace ∙ counted) orderly takes ended are
