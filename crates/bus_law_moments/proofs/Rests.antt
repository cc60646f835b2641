-- A message that begins between two others.
use Rattle.std.proofs.Common.{◌≡◌, ℕ, List, [], ◌∷◌}
use Rattle.std.proofs.Math.Nat.{zero-max}
use Rattle.std.specs.List.{AllByRecursion as Each}
use Rattle.bus_formats.specs.Accepted.{IsAccepted}
use Rattle.bus_formats.specs.Plans.{StationData}
use Rattle.bus_model.specs.Message.{Present}
use Rattle.bus_model.specs.Starts.{Entry}
use Rattle.bus_model.specs.Strikes.{burst_end}
use Rattle.bus_law_duties.specs.Duties.{AreApart}
use Rattle.bus_law_plans.specs.Entries.{IsEntryOf}
use Rattle.bus_law_plans.specs.Memories.{AreBlocks}
use Rattle.bus_law_stations.specs.Messages.{BeginsMessage}
use Rattle.bus_law_phases.specs.Commands.{command_at, CommandPasses}
use Rattle.bus_law_phases.specs.Rests.{Rested}
use Rattle.bus_law_phases.specs.Scenarios.{Scenario, trace_at, shown_at, course_of, StaysFrom}
use Rattle.bus_law_phases.proofs.CommandPhase.{command-passes}
use Rattle.bus_law_phases.proofs.SilencedItems.{items-first, items-command}
use Rattle.bus_law_moments.specs.Begun.{IsRanged, MessageBegan}

pub began-rested : (w : Scenario) (t place : ℕ) (holder : StationData) (stations : List Present) (entry : Entry) → w.lag ≡ 3 → IsAccepted w.plan →
    AreBlocks w.loads → IsEntryOf w.plan holder.terminal.address entry → Rested w (trace_at w t) place holder stations →
    BeginsMessage (course_of w holder (shown_at w t)) (shown_at w t) entry → StaysFrom w t → AreApart stations → Each IsRanged stations →
    MessageBegan w t holder entry place stations [] (command_at w t t holder entry ∷ [])
began-rested w t place holder stations entry lag accepted blocks of rested starts none apart ranged =
    let passes : CommandPasses w t t holder entry place stations =
    command-passes w t place holder stations entry lag accepted of.ranges rested starts none apart in record {
      lag = lag;
      accepted = accepted;
      entry_of = of;
      none = none;
      apart = apart;
      ranged = ranged;
      blocks = blocks;
      held = starts.holds;
      known = record {
        moment = passes.moment;
        passage = passes.passage;
        sent = passes.sent;
        waits = passes.waits;
        quiet = passes.quiet;
        last = zero-max (burst_end (command_at w t t holder entry));
        items = items-command holder (course_of w holder (shown_at w t)) w.lag w.loads (command_at w t t holder entry) stations
            (items-first w (trace_at w t) place holder stations rested);
      };
    }
