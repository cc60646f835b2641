-- What the whole run is made of: that each message begins, and is told, from each of the three sorts of moment.
use Rattle.std.specs.Prelude.{◌≡◌, ◌⊎◌, ℕ, ◌+◌, ◌≤◌, List, [], ◌∷◌, ◌++◌, Some}
use Rattle.std.specs.List.{AllByRecursion as Each}
use Rattle.bus_base.specs.Samples.{quiet_pairs}
use Rattle.bus_formats.specs.Accepted.{HasSuperseding, Supersedes}
use Rattle.bus_formats.specs.Plans.{StationData}
use Rattle.bus_formats.specs.Times.{taking_over}
use Rattle.bus_formats.specs.declared.log.Attempt.{Attempt}
use Rattle.bus_model.specs.Attempts.{Begun}
use Rattle.bus_model.specs.Log.{in_order}
use Rattle.bus_model.specs.Message.{Present, abandoned_bursts}
use Rattle.bus_model.specs.Starts.{Entry}
use Rattle.bus_model.specs.Strikes.{ShownBurst, burst_end, ShownAnswer}
use Rattle.bus_law_duties.specs.Duties.{AreApart}
use Rattle.bus_law_plans.specs.Entries.{items_of, IsEntryOf}
use Rattle.bus_law_stations.specs.Messages.{BeginsMessage}
use Rattle.bus_law_phases.specs.Commands.{command_at}
use Rattle.bus_law_phases.specs.Passages.{Passage, nothing_happens}
use Rattle.bus_law_phases.specs.Scenarios.{Scenario, trace_at, shown_at, course_of, StaysFrom}
use Rattle.bus_law_moments.specs.Begun.{IsRanged, MessageBegan}
use Rattle.bus_law_moments.specs.Doubts.{RestedInDoubt, attempt_yielded}
use Rattle.bus_law_moments.specs.OldAnswers.{BesideOldAnswer}
use Rattle.bus_law_moments.specs.Told.{IsTold, MessageTold}

-- the bursts that are found with a command, beside an answer that was abandoned or none: in the order of their ends, A before B
abbrev pub shown_in_order : List ShownBurst → List ShownBurst
shown_in_order shown = in_order burst_end (λ burst. burst.channel) shown

module _ (w : Scenario) where
  -- the station in control begins its next message in tick t; its item is one of the plan, and the stations of the table are in their ranges. From then on
  -- the same stations are there
  pub record StartsMessage (t : ℕ) (holder : StationData) (stations : List Present) (entry : Entry) : Type 0 where
    pub entry_of : IsEntryOf w.plan holder.terminal.address entry
    pub starts : BeginsMessage (course_of w holder (shown_at w t)) (shown_at w t) entry
    pub stays : StaysFrom w t
    pub apart : AreApart stations
    pub ranged : Each IsRanged stations

  -- the bursts that are found with a command beside an abandoned answer
  abbrev pub found_beside : ℕ → StationData → Entry → ShownAnswer → List ShownBurst
  found_beside t holder entry old =
      shown_in_order (abandoned_bursts (Some old) (command_at w t t holder entry) ++ command_at w t t holder entry ∷ [])

  -- n ticks after tick t, all of them quiet, the doubt of the same station lasts, and nothing else came to pass
  pub record DoubtLasts (t n place : ℕ) (holder : StationData) (stations : List Present) (begun : Begun) (x : ℕ) (offerer : StationData) : Type 0 where
    pub quiet : shown_at w (t + n) ≡ quiet_pairs n ++ shown_at w t
    pub moment : RestedInDoubt w (trace_at w (t + n)) place holder stations begun x
    pub offerer_is : moment.offerer ≡ offerer
    pub course : course_of w holder (shown_at w (t + n)) ≡ course_of w holder (shown_at w t)
    pub passage : Passage w t (t + n) nothing_happens

  -- the messages of a bus are told
  pub record MessagesAreTold : Type 0 where
    -- whatever moment a message began from, it is told: the items left of its station are this one and later ones
    pub told : (t place : ℕ) (holder : StationData) (stations : List Present) (entry : Entry) (later : List Entry) (ended : List Attempt)
        (found : List ShownBurst) → HasSuperseding (items_of (entry ∷ later)) → MessageBegan w t holder entry place stations ended found →
        IsTold w t holder stations entry place ended found
    -- beside a station in doubt all is quiet until the next message starts
    pub doubt_lasts : (t n place : ℕ) (holder : StationData) (stations : List Present) (begun : Begun) (x : ℕ)
        (moment : RestedInDoubt w (trace_at w t) place holder stations begun x) → StaysFrom w t → t + n ≤ x + taking_over →
        DoubtLasts t n place holder stations begun x moment.offerer
    -- then that message begins, and the one in doubt yields
    pub begins_in_doubt : (t place : ℕ) (holder : StationData) (stations : List Present) (entry : Entry) (begun : Begun) (x : ℕ)
        (moment : RestedInDoubt w (trace_at w t) place holder stations begun x) → StartsMessage t holder stations entry →
        MessageBegan w t holder entry place stations (attempt_yielded moment.offerer begun x ∷ []) (command_at w t t holder entry ∷ [])
    -- beside an answer that was abandoned a message to the station that sends it begins, or it is told at once
    pub begins_beside : (t place : ℕ) (holder : StationData) (stations : List Present) (entry : Entry) (old : ShownAnswer) →
        BesideOldAnswer w t place holder stations old → StartsMessage t holder stations entry → Supersedes old.sent.address entry.item.kind →
        MessageBegan w t holder entry place stations [] (found_beside t holder entry old)
        ⊎ MessageTold w t holder stations entry place [] (found_beside t holder entry old)
