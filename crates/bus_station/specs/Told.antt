-- What a station tells of a tick: the attempt that ended in it, and the block that its terminal took in it.
use Rattle.std.specs.Prelude.{ℕ, ◌==◌, if◌then◌else◌, Bool, not, List, [], ◌∷◌, length, Option, Some, None}
use Rattle.bus_base.specs.declared.samples.Pair.{Pair}
use Rattle.bus_base.specs.declared.samples.Channel.{Channel}
use Rattle.bus_formats.specs.Plans.{StationData}
use Rattle.bus_formats.specs.declared.log.Attempt.{Attempt}
use Rattle.bus_formats.specs.declared.log.Delivery.{Delivery}
use Rattle.bus_model.specs.Memory.{TimedLoad}
use Rattle.bus_model.specs.Orders.{Taken}
use Rattle.bus_model.specs.Hearing.{Moment, Hearing}
use Rattle.bus_model.specs.Terminal.{standing, order_now, took_now}
use Rattle.bus_model.specs.Control.{OutsideTake, moment_of, unheard, hear_more, yielded_in, holds_control, course_after, hearing_after}
use Rattle.bus_terminal.specs.Stands.{channel_of}
use Rattle.bus_station.specs.declared.event.StationEvent.{StationEvent}
use Rattle.bus_station.specs.declared.event.StationEvent.TheVariants as events

-- ---- what is told

abbrev pub attempts_told : StationEvent → List Attempt
attempts_told (events.Ended attempt) = attempt ∷ []
attempts_told _ = []

abbrev pub delivery_told : StationEvent → Option Delivery
delivery_told (events.Took delivery) = Some delivery
delivery_told _ = None

-- ---- what is to be told

-- of attempts, the newest first, the one that ended in this tick, with the address of its station
abbrev pub ended_in : ℕ → ℕ → List Attempt → List Attempt
ended_in address tick [] = []
ended_in address tick (attempt ∷ attempts) =
    if attempt.ended.0 == tick then record attempt { station = address } ∷ [] else []

abbrev pub delivery_of : ℕ → Channel → Option Taken → Option Delivery
delivery_of tick c None = None
delivery_of tick c (Some taken) = Some record {
  tick = record { 0 = tick };
  channel = c;
  sub = taken.sub;
  broadcast = taken.broadcast;
  words = taken.words;
}

module _ (k : ℕ) (station : StationData) (starts : Bool) (loads : List TimedLoad) (outside : List OutsideTake) where
  -- the attempt of the station's controller that ended in the newest tick
  abbrev pub ended_newest : List Pair → List Attempt
  ended_newest [] = []
  ended_newest (shown ∷ past) =
      ended_in station.terminal.address (length past) (course_after k station starts loads outside (shown ∷ past)).ended

  -- the block that a terminal took whole in the newest tick that it heard, on the channel of what it handled
  abbrev pub delivery_in : Moment → Hearing → Option Delivery
  delivery_in now hearing =
      delivery_of (length hearing.ticks)
      (channel_of (standing k station.terminal loads hearing.memory hearing.ticks)
      (order_now k station.terminal (now ∷ hearing.ticks) (standing k station.terminal loads hearing.memory hearing.ticks)))
      (took_now k station.terminal loads (hear_more hearing now))

  -- what the terminal hears in the newest tick: a serving station's all of it, and one that holds control only the tick in which it yields
  abbrev pub heard_newest : Pair → List Pair → Moment
  heard_newest shown past =
      if not (holds_control k station starts loads outside past) then moment_of shown (course_after k station starts loads outside past)
      else if yielded_in (length past) (course_after k station starts loads outside (shown ∷ past)).ended
      then moment_of shown (course_after k station starts loads outside (shown ∷ past)) else unheard

  -- the block that the station's terminal took whole in the newest tick
  abbrev pub delivered_newest : List Pair → Option Delivery
  delivered_newest [] = None
  delivered_newest (shown ∷ past) = delivery_in (heard_newest shown past) (hearing_after k station starts loads outside past)
