-- A bus with a second controller, tick by tick: the primary stops, and the standby takes control after a silence (the project's own).
use Rattle.std.specs.Prelude.{◌≡◌, ℕ, zero, suc, ◌+◌, ◌-◌, ◌<◌, Bool, true, false, not, ◌&&◌, ◌==◌, nat_le, if◌then◌else◌, List, [], ◌∷◌, ◌++◌, length, find, flat_map, Option, Some, None, is_none}
use Rattle.bus_base.specs.declared.samples.Drive.{Drive}
use Rattle.bus_base.specs.declared.samples.Drive.TheVariants.{Silent}
use Rattle.bus_base.specs.declared.samples.Pair.{Pair}
use Rattle.bus_line.specs.Channels.{quiet_both}
use Rattle.bus_formats.specs.Plans.{StationData, PlanData}
use Rattle.bus_formats.specs.Times.{ending_quiet}
use Rattle.bus_formats.specs.declared.log.Attempt.{Attempt}
use Rattle.bus_model.specs.Control.{OutsideTake, course_after, drives_next, holds_control, takes_control, is_idle}
use Rattle.bus_model.specs.Starts.{has_items}
use Rattle.bus_model.specs.Outside.{silence}
use Rattle.bus_model.specs.World.{Trace, next_tick}
use Rattle.bus_model.specs.WorldLog.{ended_by, present_stations}

-- such a bus after some ticks: what its channels showed and its stations drove, the attempts that ended, the tick from which on the primary is absent, and the
-- tick of the standby's first command, once the silence was long enough
pub record Standing : Type 0 where
  pub trace : Trace
  pub attempts : List Attempt
  pub stop : Option ℕ
  pub first : Option ℕ

abbrev pub at_first : Standing
at_first = record { trace = record { shown = []; driven = [] }; attempts = []; stop = None; first = None }

-- the station of a plan with this address
abbrev pub station_at : PlanData → ℕ → Option StationData
station_at plan address = find (λ s. s.terminal.address == address) plan.stations

-- what is the same at every tick: the lag, the plan, the standby's address, and the number of the attempt that the primary doesn't begin any more
module _ (k : ℕ) (plan : PlanData) (standby attempt : ℕ) where
  -- the standby's take: after the last tick of the silence
  abbrev pub takes_of : Option ℕ → List OutsideTake
  takes_of None = []
  takes_of (Some first) = record { tick = first - 1; address = standby; first = first } ∷ []

  abbrev pub absent_of : Option ℕ → List ℕ
  absent_of None = []
  absent_of (Some stop) = plan.start ∷ []

  -- ---- the primary stops

  abbrev pub is_driving : Drive → Bool
  is_driving Silent = false
  is_driving _ = true

  -- a controller between two attempts drives nothing: where it drives in the tick to come, it begins one
  abbrev pub primary_drives : List Pair → Option StationData → Bool
  primary_drives past None = false
  primary_drives past (Some station) = is_driving (drives_next k station true [] [] past)

  -- all attempts before the one with this number have ended, and that one would begin
  abbrev pub is_stopping : Standing → Bool
  is_stopping s = (length s.attempts + 1 == attempt) && primary_drives s.trace.shown (station_at plan plan.start)

  abbrev pub stop_by : Standing → Option ℕ → Option ℕ
  stop_by s (Some tick) = Some tick
  stop_by s None = if is_stopping s then Some (length s.trace.shown) else None

  abbrev pub stopped : Standing → Standing
  stopped s = record s { stop = stop_by s s.stop }

  -- ---- a tick

  abbrev pub ended_in : Standing → List Pair → ℕ → List Attempt
  ended_in s past tick =
      flat_map (ended_by k plan [] (takes_of s.first) (absent_of s.stop) past tick)
      (present_stations k plan [] (takes_of s.first) (absent_of s.stop))

  abbrev pub with_trace : Standing → Trace → Standing
  with_trace s trace = record s { trace = trace; attempts = s.attempts ++ ended_in s trace.shown (length s.trace.shown) }

  -- every station that is present drives and hears
  abbrev pub heard : Standing → Standing
  heard s = with_trace s (next_tick k plan [] (takes_of s.first) (absent_of s.stop) s.trace)

  -- ---- the standby takes control

  -- it serves, and has an item left
  abbrev pub may_take : List Pair → Option StationData → Bool
  may_take past None = false
  may_take past (Some station) =
      not (holds_control k station false [] [] past) && has_items (course_after k station false [] [] past).left

  abbrev pub first_by : List Pair → Option ℕ → Option ℕ
  first_by past (Some first) = Some first
  first_by past None =
      if nat_le (silence plan) (quiet_both past) && may_take past (station_at plan standby) then Some (length past) else None

  abbrev pub taken : Standing → Standing
  taken s = record s { first = first_by s.trace.shown s.first }

  -- one tick more
  abbrev pub next : Standing → Standing
  next s = taken (heard (stopped s))

  -- the bus after so many ticks
  unfoldable pub standing : ℕ → Standing
  standing zero = at_first
  standing (suc t) = next (standing t)

  -- ---- the end

  -- the standby took control, sent its first command and has nothing left to do
  abbrev pub is_done : Standing → Option StationData → Bool
  is_done s None = false
  is_done s (Some station) =
      holds_control k station false [] (takes_of s.first) s.trace.shown
      && is_none (takes_control k station false [] (takes_of s.first) s.trace.shown)
      && is_idle k station false [] (takes_of s.first) s.trace.shown

  -- .. and both channels were quiet so long
  abbrev pub is_over : Standing → Bool
  is_over s = nat_le ending_quiet (quiet_both s.trace.shown) && is_done s (station_at plan standby)

  -- the run has this number of ticks
  pub record EndsAfter (ticks : ℕ) : Type 0 where
    pub before : (t : ℕ) → t < ticks → is_over (standing t) ≡ false
    pub ended : is_over (standing ticks) ≡ true
