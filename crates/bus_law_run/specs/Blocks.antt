-- What becomes of a terminal's receive blocks in a tick (data reception, MIL-STD-1553B 4.4.3.5, 4.4.3.6).
use Rattle.std.specs.Prelude.{◌≡◌, ◌⊎◌, ℕ, suc, ◌<◌, Bool, not, if◌then◌else◌, List, [], ◌∷◌, ◌++◌, length, Option, Some, None, option_map, option_to_list}
use Rattle.bus_base.specs.declared.samples.Pair.{Pair}
use Rattle.bus_formats.specs.Plans.{StationData}
use Rattle.bus_formats.specs.declared.log.Delivery.{Delivery}
use Rattle.bus_model.specs.Memory.{TimedLoad}
use Rattle.bus_model.specs.Hearing.{Moment}
use Rattle.bus_model.specs.Orders.{Taken}
use Rattle.bus_model.specs.Starts.{starts as starts_in}
use Rattle.bus_model.specs.Terminal.{standing_after, took_now}
use Rattle.bus_model.specs.Control.{OutsideTake, moment_of, unheard, hear_more, yielded_in, course_after, hearing_after, holds_control}
use Rattle.bus_law_table.specs.Happened.{block_at}
use Rattle.bus_law_phases.specs.Scenarios.{Scenario, IsPresentAt, shown_at, hearing_of}

-- the block on a subaddress stays, or becomes the block that was taken there, whole
abbrev pub StaysOrTaken : Option Taken → ℕ → List ℕ → List ℕ → Type 0
StaysOrTaken taken sub before after =
    (after ≡ before) ⊎ ((block : Taken) × (taken ≡ Some block) × (block.sub ≡ sub) × (after ≡ block.words))

module _ (k : ℕ) (station : StationData) (starts : Bool) (loads : List TimedLoad) (outside : List OutsideTake) where
  -- what a station's terminal hears in the newest tick: all of it while it serves; while it holds control nothing, but the tick in which it yields
  abbrev pub heard_newest : Pair → List Pair → Moment
  heard_newest shown past =
      if not (holds_control k station starts loads outside past) then moment_of shown (course_after k station starts loads outside past)
      else if yielded_in (length past) (course_after k station starts loads outside (shown ∷ past)).ended
      then moment_of shown (course_after k station starts loads outside (shown ∷ past)) else unheard

  -- the block that it takes whole in that tick
  abbrev pub taken_newest : Pair → List Pair → Option Taken
  taken_newest shown past =
      took_now k station.terminal loads (hear_more (hearing_after k station starts loads outside past) (heard_newest shown past))

  -- .. as a delivery: in that tick, on the channel of what the terminal handled
  abbrev pub delivery_newest : Pair → List Pair → Option Delivery
  delivery_newest shown past =
      option_map (λ taken. (block_at (length past) (standing_after k station.terminal loads
      (hear_more (hearing_after k station starts loads outside past) (heard_newest shown past))).channel station taken).delivery) (taken_newest shown past)

  -- all blocks that it took whole, in order
  unfoldable pub deliveries_of : List Pair → List Delivery
  deliveries_of [] = []
  deliveries_of (shown ∷ past) = deliveries_of past ++ option_to_list (delivery_newest shown past)

module _ (w : Scenario) (station : StationData) (shown : Pair) (past : List Pair) where
  -- what its terminal heard after the newest tick is what it heard before and that tick
  abbrev pub HearsOn : Type 0
  HearsOn = hearing_of w station (shown ∷ past)
      ≡ hear_more (hearing_of w station past) (heard_newest w.lag station (starts_in w.plan station) w.loads w.outside shown past)

  -- it takes no block in that tick
  abbrev pub TakesNothing : Type 0
  TakesNothing = (taken_newest w.lag station (starts_in w.plan station) w.loads w.outside shown past ≡ None)
      × (took_now w.lag station.terminal w.loads (hearing_of w station (shown ∷ past)) ≡ None)

  -- one of the two
  abbrev pub IsHeard : Type 0
  IsHeard = HearsOn ⊎ TakesNothing

-- so it is of each station that is present, in each tick up to one
abbrev pub IsHeardUntil : Scenario → ℕ → Type 0
IsHeardUntil w end = (t : ℕ) → t < end → (place : ℕ) (station : StationData) → IsPresentAt w place station → (shown : Pair) →
    shown_at w (suc t) ≡ shown ∷ shown_at w t → IsHeard w station shown (shown_at w t)
