-- A bus as it runs: what never changes in it, and what there is of its stations and channels after some ticks.
use Rattle.std.specs.Prelude.{◌≡◌, ℕ, suc, ◌≤◌, Bool, true, ◌&&◌, nat_le, List, [], count_by, length, slice_get, Some}
use Rattle.std.specs.List.{list_all}
use Rattle.bus_base.specs.declared.samples.Channel.{Channel}
use Rattle.bus_base.specs.declared.samples.Drive.{Drive}
use Rattle.bus_base.specs.declared.samples.Pair.{Pair}
use Rattle.bus_line.specs.Channels.{quiet_both}
use Rattle.bus_formats.specs.Plans.{StationData, PlanData}
use Rattle.bus_formats.specs.Times.{ending_quiet}
use Rattle.bus_formats.specs.declared.log.Attempt.{Attempt}
use Rattle.bus_model.specs.Memory.{TimedLoad}
use Rattle.bus_model.specs.Hearing.{Hearing}
use Rattle.bus_model.specs.Standing.{Standing}
use Rattle.bus_model.specs.Terminal.{standing_after}
use Rattle.bus_model.specs.Starts.{starts}
use Rattle.bus_model.specs.Course.{Course}
use Rattle.bus_model.specs.Control.{OutsideTake, course_after, hearing_after, outside_takes}
use Rattle.bus_model.specs.Message.{Present, Delivered}
use Rattle.bus_model.specs.Transmissions.{is_command, transmissions}
use Rattle.bus_model.specs.Wire.{drivers}
use Rattle.bus_model.specs.World.{Trace, is_present, next_tick, trace, is_done}
use Rattle.bus_model.specs.WorldLog.{present_after, attempts}
use Rattle.bus_law_table.specs.Happened.{blocks_found}

-- what was found in earlier ticks, with the stations that were there then: how many ticks, the attempts that ended in them, and the blocks that
-- terminals took
pub record Earlier : Type 0 where
  pub ticks : ℕ
  pub attempts : List Attempt
  pub blocks : List Delivered

abbrev pub nothing_earlier : Earlier
nothing_earlier = record { ticks = 0; attempts = []; blocks = [] }

-- the lag, the plan, the blocks that are put up for sending, the control that stations take by themselves, and the addresses of the stations
-- that are absent; what the channels showed and the stations drove in so many first ticks; and what was found before these stations were absent.
-- Whether the ticks are those of such a bus is said beside
pub record Scenario : Type 0 where
  pub lag : ℕ
  pub plan : PlanData
  pub loads : List TimedLoad
  pub outside : List OutsideTake
  pub absent : List ℕ
  pub first_ticks : ℕ → Trace
  pub earlier : Earlier

-- the bus on which the same stations are absent from the first tick on
abbrev pub whole_scenario : ℕ → PlanData → List TimedLoad → List OutsideTake → List ℕ → Scenario
whole_scenario k plan loads outside absent = record {
  lag = k;
  plan = plan;
  loads = loads;
  outside = outside;
  absent = absent;
  first_ticks = trace k plan loads outside absent;
  earlier = nothing_earlier;
}

-- before the first tick
abbrev pub no_ticks : Trace
no_ticks = record { shown = []; driven = [] }

module _ (w : Scenario) where
  -- ---- the first ticks

  abbrev pub trace_at : ℕ → Trace
  trace_at t = w.first_ticks t

  abbrev pub shown_at : ℕ → List Pair
  shown_at t = (trace_at t).shown

  abbrev pub driven_at : ℕ → List (List Drive)
  driven_at t = (trace_at t).driven

  -- how many stations count as driving a channel in a tick, and whether the run is over before it
  abbrev pub drivers_at : ℕ → Channel → ℕ
  drivers_at t c = drivers w.plan.faults c (driven_at (suc t))

  abbrev pub is_over_at : ℕ → Bool
  is_over_at t =
      nat_le ending_quiet (quiet_both (shown_at t)) && list_all (is_done w.lag w.plan w.loads w.outside w.absent (shown_at t)) w.plan.stations

  -- the blocks that terminals took in these ticks, the attempts that ended, and how many commands began
  abbrev pub blocks_in : List Pair → List Delivered
  blocks_in past = blocks_found w.lag w.plan w.loads w.outside w.absent past

  abbrev pub attempts_in : List Pair → List Attempt
  attempts_in past = attempts w.lag w.plan w.loads w.outside w.absent past

  abbrev pub commands_in : List (List Drive) → ℕ
  commands_in driven = count_by is_command (transmissions w.plan.faults driven)

  -- ---- a station after what the channels showed

  abbrev pub course_of : StationData → List Pair → Course
  course_of station past = course_after w.lag station (starts w.plan station) w.loads w.outside past

  abbrev pub hearing_of : StationData → List Pair → Hearing
  hearing_of station past = hearing_after w.lag station (starts w.plan station) w.loads w.outside past

  abbrev pub standing_of : StationData → List Pair → Standing
  standing_of station past = standing_after w.lag station.terminal w.loads (hearing_of station past)

  abbrev pub present_of : StationData → List Pair → Present
  present_of station past = present_after w.lag w.plan w.loads w.outside w.absent past station

  -- the station at a place of the plan, which is present
  pub record IsPresentAt (place : ℕ) (station : StationData) : Type 0 where
    pub there : slice_get w.plan.stations place ≡ Some station
    pub present : is_present w.absent station ≡ true

  -- no station that is present takes control by itself in the ticks from a on
  abbrev pub NoneTakesFrom : ℕ → Type 0
  NoneTakesFrom a =
      (place : ℕ) (station : StationData) → IsPresentAt place station → (tick : ℕ) → a ≤ tick →
      outside_takes w.lag station (starts w.plan station) w.loads w.outside tick w.outside ≡ []

  -- nor does one from tick a on; and from then on each tick is that of the bus on which these stations are absent
  pub record StaysFrom (a : ℕ) : Type 0 where
    pub takes : NoneTakesFrom a
    pub counts : (t : ℕ) → a ≤ t → length (shown_at t) ≡ t
    pub next : (t : ℕ) → a ≤ t → trace_at (suc t) ≡ next_tick w.lag w.plan w.loads w.outside w.absent (trace_at t)

  -- so it is from the first tick on
  pub record IsWhole : Type 0 where
    pub earlier : w.earlier ≡ nothing_earlier
    pub first : trace_at 0 ≡ no_ticks
    pub stays : StaysFrom 0
