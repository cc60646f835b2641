-- A run of the message table beside the world, from attempt to attempt.
use Rattle.std.specs.Prelude.{◌≡◌, ◌⊎◌, ℕ, ◌+◌, ◌≤◌, List, [], ◌∷◌, Some, None}
use Rattle.std.specs.List.{AllByRecursion as Each}
use Rattle.bus_formats.specs.Plans.{StationData}
use Rattle.bus_formats.specs.Times.{ending_quiet}
use Rattle.bus_formats.specs.declared.log.Attempt.{Attempt}
use Rattle.bus_model.specs.Attempts.{Begun}
use Rattle.bus_model.specs.Course.{quiet_from}
use Rattle.bus_model.specs.Run.{Run, Next, next_item}
use Rattle.bus_model.specs.Strikes.{ShownAnswer}
use Rattle.bus_model.specs.WorldLog.{present_stations}
use Rattle.bus_law_duties.specs.Duties.{AreApart}
use Rattle.bus_law_messages.specs.Settled.{NoneStarts}
use Rattle.bus_law_phases.specs.Rests.{Rested}
use Rattle.bus_law_phases.specs.Scenarios.{Scenario, trace_at, shown_at, course_of}
use Rattle.bus_law_plans.specs.Entries.{IsRunAmong, IsNext, KeepsSuperseding}
use Rattle.bus_law_plans.specs.Memories.{KeepsWordRanges}
use Rattle.bus_law_moments.specs.Begun.{IsRanged}
use Rattle.bus_law_moments.specs.Doubts.{RestedInDoubt, attempt_yielded}
use Rattle.bus_law_moments.specs.OldAnswers.{BesideOldAnswer}
use Rattle.bus_law_run.specs.RunShows.{RunShows}

-- both channels are quiet from the run's tick on; where no item is left, for no longer than until the end of a run
pub record IsQuietSince (w : Scenario) (t : ℕ) (run : Run) : Type 0 where
  pub quiet : quiet_from (shown_at w t) ≡ run.quiet_from
  pub soon : next_item run ≡ None → t ≤ run.quiet_from + ending_quiet

module _ (w : Scenario) (t place : ℕ) (holder : StationData) (run : Run) (pending : List Attempt) where
  -- the moment lies between two messages: no attempt is still to end, and no abandoned answer runs on
  pub record IsBetween : Type 0 where
    pub rested : Rested w (trace_at w t) place holder run.stations
    pub runs_on : run.runs_on ≡ None
    pub pending_is : pending ≡ []
    pub since : IsQuietSince w t run

  -- the station that offered control is in doubt: its attempt is still to end
  pub record IsBetweenInDoubt : Type 0 where
    pub begun : Begun
    pub x : ℕ
    pub rested : RestedInDoubt w (trace_at w t) place holder run.stations begun x
    pub runs_on : run.runs_on ≡ None
    pub pending_is : pending ≡ attempt_yielded rested.offerer begun x ∷ []
    pub since : IsQuietSince w t run

  -- an abandoned answer runs on
  pub record IsBeside : Type 0 where
    pub old : ShownAnswer
    pub beside : BesideOldAnswer w t place holder run.stations old
    pub runs_on : run.runs_on ≡ Some old
    pub pending_is : pending ≡ []

  -- one of the three sorts of moment
  abbrev pub IsMoment : Type 0
  IsMoment = IsBetween ⊎ (IsBetweenInDoubt ⊎ IsBeside)

-- the world of the first t ticks has come as far as a run
pub record RunStands (w : Scenario) (t : ℕ) (run : Run) : Type 0 where
  -- one station holds control in both
  pub place : ℕ
  pub holder : StationData
  pub holder_is : holder.terminal.address ≡ run.holder
  -- its next attempt waits for the same, with the same retry and planned start, and didn't start yet
  pub opening : (course_of w holder (shown_at w t)).opening ≡ run.opening
  pub retry : (course_of w holder (shown_at w t)).retry ≡ run.retry
  pub origin : (course_of w holder (shown_at w t)).origin ≡ run.origin
  pub early : NoneStarts (course_of w holder (shown_at w t)) (shown_at w t) 0
  -- what is found is the run's, but for attempts that are still to end
  pub pending : List Attempt
  pub shows : RunShows w t run pending
  -- the moment is of one of three sorts, and the stations are the run's
  pub moment : IsMoment w t place holder run pending

-- ---- going on

-- what the next message of a run rests on: its item may be sent by the station in control, the stations have one address each and are in their ranges, and
-- an abandoned answer that runs on is superseded by it
pub record MayGoOn (w : Scenario) (run : Run) : Type 0 where
  pub next : (next : Next) → next_item run ≡ Some next → IsNext w.plan run next
  pub apart : AreApart run.stations
  pub ranged : Each IsRanged run.stations
  pub superseding : KeepsSuperseding run

-- a run by the stations that are present: what terminals keep is within the ranges of words, and an abandoned answer is superseded
pub record IsRunByPresent (w : Scenario) (run : Run) : Type 0 where
  pub of : IsRunAmong w.plan (present_stations w.lag w.plan w.loads w.outside w.absent) run
  pub words : KeepsWordRanges run
  pub superseding : KeepsSuperseding run
