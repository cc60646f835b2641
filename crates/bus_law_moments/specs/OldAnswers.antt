-- A moment in which a message begins beside an answer that was abandoned and still runs (superseding valid commands, MIL-STD-1553B 4.4.3.2; that a
-- controller abandons answers is the project's own).
use Rattle.std.specs.Prelude.{◌≡◌, ◌≢◌, ℕ, ◌-◌, ◌<◌, ◌≤◌, true, false, List, None}
use Rattle.std.specs.List.{All}
use Rattle.bus_base.specs.Samples.{other_of}
use Rattle.bus_base.specs.declared.samples.Drive.{Drive}
use Rattle.bus_base.specs.declared.samples.Pair.{Pair}
use Rattle.bus_base.specs.declared.samples.Part.TheVariants.{First}
use Rattle.bus_formats.specs.Plans.{StationData}
use Rattle.bus_model.specs.Message.{Present, After}
use Rattle.bus_model.specs.Standing.{is_promise}
use Rattle.bus_model.specs.Starts.{superseding}
use Rattle.bus_model.specs.Strikes.{ShownBurst, burst_end, ShownAnswer, is_faded}
use Rattle.bus_law_stations.specs.Turns.{Serves}
use Rattle.bus_law_table.specs.Stations.{ArePresent}
use Rattle.bus_law_phases.specs.Answers.{AnswerBegins}
use Rattle.bus_law_phases.specs.PartRuns.{PartRuns}
use Rattle.bus_law_phases.specs.Scenarios.{Scenario, trace_at, shown_at, course_of, IsPresentAt, StaysFrom}

-- in tick t an answer runs that was abandoned with the newest tick, and the next message of the station at this place starts
pub record BesideOldAnswer (w : Scenario) (t place : ℕ) (holder : StationData) (stations : List Present) (old : ShownAnswer) : Type 0 where
  -- it began as the first answer to a burst, with every station as the table has it
  pub burst : ShownBurst
  pub afters : List After
  pub begins : AnswerBegins w old.sent.start place holder First burst afters old
  -- and none of them promised to take it: it answers a message that transmits
  pub unpromised : All (λ after. is_promise after.duty ≡ false) afters
  -- since then the same stations are there, and nobody took control by itself
  pub stays : StaysFrom w old.sent.start
  -- so far the station at this place sent it alone, and the newest sample of it isn't quiet
  pub teller : ℕ
  pub telling : StationData
  pub teller_at : IsPresentAt w teller telling
  pub teller_is : telling.terminal.address ≡ old.sent.address
  pub ticks : List Pair
  pub sent : List (List Drive)
  pub runs : PartRuns w (trace_at w old.sent.start) record { station = teller; channel = old.sent.channel; part = First; words = old.sent.words } old.hits
      (t - old.sent.start) ticks sent
  pub some : old.sent.start < t
  pub within : t ≤ burst_end old.burst
  pub heard : is_faded old (t - 1 - old.sent.start) ≡ false
  -- the station in control abandoned it, and starts its next message in this tick, on the other channel
  pub at : IsPresentAt w place holder
  pub holds : (course_of w holder (shown_at w t)).holds ≡ true
  pub idle : (course_of w holder (shown_at w t)).runs ≡ None
  pub opens : (course_of w holder (shown_at w t)).opening ≡ superseding t (other_of old.sent.channel)
  -- every other one that is present serves, and the stations that are present are these of the message table
  pub serves : (other : ℕ) (station : StationData) → IsPresentAt w other station → other ≢ place → Serves (course_of w station (shown_at w t))
  pub are : ArePresent w.lag w.plan w.loads w.outside w.absent (shown_at w t) stations
