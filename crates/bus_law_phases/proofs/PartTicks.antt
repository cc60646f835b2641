-- The ticks of a part as they are sent, with the one in which its end becomes known: what is shown, and what came to pass before the last of them.
use Rattle.std.proofs.Common.{◌≡◌, ◌≢◌, ℕ, suc, ◌+◌, ◌<◌, ◌≤◌, false, List, [], ◌∷◌, ◌++◌, length, Some, None, ap, ◌∙◌, subst, arith}
use Rattle.std.specs.Prelude.{slice_get}
use Rattle.bus_base.specs.declared.samples.Channel.{Channel}
use Rattle.bus_base.specs.declared.samples.Drive.{Drive}
use Rattle.bus_base.specs.declared.samples.Drive.TheVariants.{Silent}
use Rattle.bus_base.specs.declared.samples.Pair.{Pair}
use Rattle.bus_line.specs.Past.{runs}
use Rattle.bus_line.specs.Channels.{on_channel}
use Rattle.bus_formats.specs.Plans.{StationData}
use Rattle.bus_formats.specs.declared.fault.Hit.{Hit}
use Rattle.bus_model.specs.Sending.{drive_sample}
use Rattle.bus_model.specs.Strikes.{hits_on}
use Rattle.bus_model.specs.Terminal.{took_now}
use Rattle.bus_model.specs.Transmissions.{station_drive}
use Rattle.bus_model.specs.Wire.{shown}
use Rattle.bus_model.specs.World.{Trace, drives_after}
use Rattle.bus_law_line.specs.Senders.{Sender, IsSpent, attempt_to_come}
use Rattle.bus_law_parts.specs.Parts.{part_ticks, HitsFit, IsFresh}
use Rattle.bus_base.specs.declared.samples.Part.TheVariants.{Command}
use Rattle.bus_law_parts.proofs.Counting.{count-command}
use Rattle.bus_law_phases.specs.PartRuns.{PartRuns, IsFirstOf}
use Rattle.bus_law_phases.specs.Passages.{HoldsAlone, Passage}
use Rattle.bus_law_phases.specs.Scenarios.{Scenario, trace_at, shown_at, driven_at, commands_in, course_of, hearing_of, IsPresentAt, drivers_at, is_over_at, StaysFrom}
use Rattle.bus_law_phases.proofs.Legs.{sent-ticks, first-for, trace-is, drives-one, goes-on, leg-passes}
use Rattle.bus_law_phases.proofs.PartRunning.{one-more}

-- from tick t on a station sends a part, which these hits strike, to the tick in which its end is known; so many commands begin with it
pub record PartTicks (w : Scenario) (t : ℕ) (s : Sender) (hits : List Hit) (begun : ℕ) : Type 0 where
  -- the newest tick, and those before it
  pub newest : Pair
  pub ticks : List Pair
  pub driven : List Drive
  pub sent : List (List Drive)
  pub whole : PartRuns w (trace_at w t) s hits (part_ticks hits s.words + suc w.lag) (newest ∷ ticks) (driven ∷ sent)
  pub first : IsFirstOf w.lag s.channel hits s.words ticks
  pub many : length ticks ≡ part_ticks hits s.words + w.lag
  pub before : shown_at w (t + (part_ticks hits s.words + w.lag)) ≡ ticks ++ shown_at w t
  pub trace : trace_at w (t + suc (part_ticks hits s.words + w.lag))
      ≡ record { shown = (newest ∷ ticks) ++ shown_at w t; driven = (driven ∷ sent) ++ driven_at w t }
  -- nothing else came to pass before the newest, which is in order
  pub passed : Passage w t (t + (part_ticks hits s.words + w.lag)) record { blocks = []; bursts = []; attempts = []; commands = begun }
  pub counted : commands_in w (driven_at w (t + suc (part_ticks hits s.words + w.lag))) ≡ commands_in w (driven_at w t) + begun
  pub drives : (d : Channel) → drivers_at w (t + (part_ticks hits s.words + w.lag)) d ≤ 1
  pub goes_on : is_over_at w (t + (part_ticks hits s.words + w.lag)) ≡ false

-- a command begins with the first of its ticks
pub one-begins : (w : Scenario) (t : ℕ) (s : Sender) (hits : List Hit) → s.part ≡ Command → (n : ℕ) → 0 < n → (ticks : List Pair)
    (sent : List (List Drive)) → PartRuns w (trace_at w t) s hits n ticks sent → commands_in w (sent ++ driven_at w t) ≡ commands_in w (driven_at w t) + 1
one-begins w t s hits command n any ticks [] so = let none = so.long in absurd (omega (arith, none, any))
one-begins w t s hits command n any ticks (drives ∷ sent) so =
    count-command w.plan.faults s hits (driven_at w t) sent drives so.part command so.commands ∙ omega arith

module _ (w : Scenario) (t : ℕ) (s : Sender) (hits : List Hit) (lag : w.lag ≡ 3) (stays : StaysFrom w t)
    (fresh : IsFresh w.plan.faults s.channel (driven_at w t) s.station)
    (spent : (d : Channel) (station : ℕ) → IsSpent w.plan.faults d (driven_at w t) station)
    (rests : (d : Channel) → runs w.lag (on_channel d (shown_at w t)) ≡ false)
    (named : hits_on w.plan.faults (attempt_to_come w.plan.faults s.part (driven_at w t)) s.part ≡ hits)
    (fits : HitsFit s.part hits s.words) (some : 0 < part_ticks hits s.words)
    (own : (ticks : List Pair) → IsFirstOf w.lag s.channel hits s.words ticks → length ticks < part_ticks hits s.words + suc w.lag →
    slice_get (drives_after w.lag w.plan w.loads w.outside w.absent (ticks ++ shown_at w t)) s.station
    ≡ Some (drive_sample s.channel s.part s.words (length ticks)))
    (others : (ticks : List Pair) → IsFirstOf w.lag s.channel hits s.words ticks → length ticks < part_ticks hits s.words + suc w.lag →
    (other : ℕ) → other ≢ s.station →
    station_drive other (drives_after w.lag w.plan w.loads w.outside w.absent (ticks ++ shown_at w t)) ≡ Silent)
    (still : (ticks : List Pair) → IsFirstOf w.lag s.channel hits s.words ticks → length ticks < part_ticks hits s.words + suc w.lag →
    (place : ℕ) (station : StationData) → IsPresentAt w place station →
    (course_of w station (ticks ++ shown_at w t)).ended ≡ (course_of w station (shown_at w t)).ended)
    (takes : (x : Pair) (ticks : List Pair) → IsFirstOf w.lag s.channel hits s.words (x ∷ ticks) →
    length (x ∷ ticks) < part_ticks hits s.words + suc w.lag → (place : ℕ) (station : StationData) → IsPresentAt w place station →
    took_now w.lag station.terminal w.loads (hearing_of w station ((x ∷ ticks) ++ shown_at w t)) ≡ None)
    (hands : (ticks : List Pair) → IsFirstOf w.lag s.channel hits s.words ticks → length ticks < part_ticks hits s.words + suc w.lag →
    HoldsAlone w (ticks ++ shown_at w t))
    (goes : (ticks : List Pair) → IsFirstOf w.lag s.channel hits s.words ticks → length ticks < part_ticks hits s.words + suc w.lag → (i : ℕ) →
    shown_at w i ≡ ticks ++ shown_at w t → is_over_at w i ≡ false)
    (begun : ℕ) (counted : (n : ℕ) → 0 < n → (ticks : List Pair) (sent : List (List Drive)) → PartRuns w (trace_at w t) s hits n ticks sent →
    commands_in w (sent ++ driven_at w t) ≡ commands_in w (driven_at w t) + begun) where
  abbrev past : List Pair
  past = shown_at w t

  abbrev m : ℕ
  m = part_ticks hits s.words + w.lag

  abbrev limit : ℕ
  limit = part_ticks hits s.words + suc w.lag

  bound : limit ≤ part_ticks hits s.words + 4
  bound = omega (arith, lag)

  early : m < limit
  early = omega arith

  last-is : suc m ≡ limit
  last-is = omega arith

  abbrev now : Trace
  now = trace_at w t

  sent-first : (ticks : List Pair) × (sent : List (List Drive)) × PartRuns w now s hits m ticks sent
  sent-first = sent-ticks w t s hits limit lag stays fresh spent rests named fits some bound own others still takes hands goes m (omega arith)

  abbrev ticks : List Pair
  ticks = sent-first.0

  abbrev sent : List (List Drive)
  sent = sent-first.1

  abbrev driven : List Drive
  driven = drives_after w.lag w.plan w.loads w.outside w.absent (ticks ++ past)

  abbrev x : Pair
  x = shown w.plan.faults ((driven ∷ sent) ++ driven_at w t)

  whole-at : PartRuns w now s hits (suc m) (x ∷ ticks) (driven ∷ sent)
  whole-at = one-more w now s hits limit lag fresh spent named fits some bound own others m ticks sent early sent-first.2

  later-trace : trace_at w (t + suc m) ≡ record { shown = (x ∷ ticks) ++ past; driven = (driven ∷ sent) ++ driven_at w t }
  later-trace =
      trace-is w t s hits limit lag stays fresh spent rests named fits some bound own others still takes hands goes (suc m) (x ∷ ticks) (driven ∷ sent) whole-at

  pub all-ticks : PartTicks w t s hits begun
  all-ticks = record {
    newest = x;
    ticks = ticks;
    driven = driven;
    sent = sent;
    whole = subst (λ n. PartRuns w now s hits n (x ∷ ticks) (driven ∷ sent)) last-is whole-at;
    first = first-for w t s hits limit lag stays fresh spent rests named fits some bound own others still takes hands goes m ticks sent early sent-first.2;
    many = sent-first.2.many;
    before = ap (λ (tr : Trace). tr.shown)
        (trace-is w t s hits limit lag stays fresh spent rests named fits some bound own others still takes hands goes m ticks sent sent-first.2);
    trace = later-trace;
    passed = leg-passes w t s hits limit lag stays fresh spent rests named fits some bound own others still takes hands goes m early begun (counted m (omega (arith, some)));
    counted = ap (λ (tr : Trace). commands_in w tr.driven) later-trace ∙ counted (suc m) (omega arith) (x ∷ ticks) (driven ∷ sent) whole-at;
    drives = drives-one w t s hits limit lag stays fresh spent rests named fits some bound own others still takes hands goes m early;
    goes_on = goes-on w t s hits limit lag stays fresh spent rests named fits some bound own others still takes hands goes m early;
  }
