-- What comes to pass from one tick of a bus to a later one, and that each tick between is in order.
use Rattle.std.specs.Prelude.{◌≡◌, ◌≢◌, ◌⊎◌, ℕ, suc, ◌+◌, ◌<◌, ◌≤◌, true, false, List, [], ◌++◌, map, IsSome}
use Rattle.bus_base.specs.declared.samples.Channel.{Channel}
use Rattle.bus_base.specs.declared.samples.Pair.{Pair}
use Rattle.bus_line.specs.Channels.{bursts}
use Rattle.bus_formats.specs.Plans.{StationData}
use Rattle.bus_formats.specs.declared.log.Attempt.{Attempt}
use Rattle.bus_model.specs.Control.{doubts, takes_control}
use Rattle.bus_model.specs.Message.{Delivered}
use Rattle.bus_model.specs.Starts.{starts}
use Rattle.bus_model.specs.Strikes.{ShownBurst}
use Rattle.bus_law_table.specs.Happened.{burst_found}
use Rattle.bus_law_phases.specs.Scenarios.{Scenario, course_of, IsPresentAt, shown_at, driven_at, blocks_in, attempts_in, commands_in, drivers_at, is_over_at}

-- ---- control (dynamic bus control, MIL-STD-1553B 4.3.3.5.1.7.1)

-- one station that is present holds control, and no other one does
pub record HoldsAlone (w : Scenario) (past : List Pair) : Type 0 where
  pub place : ℕ
  pub holder : StationData
  pub at : IsPresentAt w place holder
  pub holds : (course_of w holder past).holds ≡ true
  pub others : (other : ℕ) (station : StationData) → IsPresentAt w other station → other ≢ place → (course_of w station past).holds ≡ false

-- one station doubts whether its offer was accepted, another one is taking control, and no third one holds it
pub record HoldsInDoubt (w : Scenario) (past : List Pair) : Type 0 where
  pub place : ℕ
  pub offerer : StationData
  pub at : IsPresentAt w place offerer
  pub doubts : doubts w.lag offerer (starts w.plan offerer) w.loads w.outside past ≡ true
  pub taker_place : ℕ
  pub taker : StationData
  pub taker_at : IsPresentAt w taker_place taker
  pub apart : taker_place ≢ place
  pub takes : IsSome (takes_control w.lag taker (starts w.plan taker) w.loads w.outside past)
  pub others : (other : ℕ) (station : StationData) → IsPresentAt w other station → other ≢ place → other ≢ taker_place →
      (course_of w station past).holds ≡ false

-- control is in one hand, or the one who offered it doubts whether another one has it
abbrev pub InOneHand : Scenario → List Pair → Type 0
InOneHand w past = HoldsAlone w past ⊎ HoldsInDoubt w past

-- ---- ticks

-- tick i is in order: at most one station drives each channel, control is in one hand after it, and the run isn't over before it
pub record IsOrderly (w : Scenario) (i : ℕ) : Type 0 where
  pub alone : (c : Channel) → drivers_at w i c ≤ 1
  pub hands : InOneHand w (shown_at w (suc i))
  pub goes_on : is_over_at w i ≡ false

-- ---- from a tick to a later one

-- the blocks that terminals took, in the order of time; the bursts, in the order in which their ends became known; the attempts that ended; and
-- how many commands began
pub record Happening : Type 0 where
  pub blocks : List Delivered
  pub bursts : List ShownBurst
  pub attempts : List Attempt
  pub commands : ℕ

abbrev pub nothing_happens : Happening
nothing_happens = record { blocks = []; bursts = []; attempts = []; commands = 0 }

-- one after the other
abbrev pub followed_by : Happening → Happening → Happening
followed_by first later = record {
  blocks = first.blocks ++ later.blocks;
  bursts = first.bursts ++ later.bursts;
  attempts = first.attempts ++ later.attempts;
  commands = first.commands + later.commands;
}

-- this and nothing else came to pass in the ticks from t to before u, and each of them was in order
pub record Passage (w : Scenario) (t u : ℕ) (h : Happening) : Type 0 where
  pub later : t ≤ u
  pub blocks_are : blocks_in w (shown_at w u) ≡ blocks_in w (shown_at w t) ++ h.blocks
  pub bursts_are : bursts w.lag (shown_at w u) ≡ bursts w.lag (shown_at w t) ++ map burst_found h.bursts
  pub attempts_are : attempts_in w (shown_at w u) ≡ attempts_in w (shown_at w t) ++ h.attempts
  pub counted : commands_in w (driven_at w u) ≡ commands_in w (driven_at w t) + h.commands
  pub orderly : (i : ℕ) → t ≤ i → i < u → IsOrderly w i
