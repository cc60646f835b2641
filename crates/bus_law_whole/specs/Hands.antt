-- Who has control in hand after a tick of a bus (dynamic bus control, MIL-STD-1553B 4.3.3.5.1.7.1).
use Rattle.std.specs.Prelude.{◌≡◌, ◌≢◌, ℕ, Bool, true, false, List, Option, None, IsSome}
use Rattle.bus_base.specs.declared.samples.Pair.{Pair}
use Rattle.bus_formats.specs.Plans.{StationData}
use Rattle.bus_model.specs.Control.{holds_control, takes_control, doubts}
use Rattle.bus_model.specs.Starts.{starts}
use Rattle.bus_law_phases.specs.Passages.{HoldsAlone, HoldsInDoubt}
use Rattle.bus_law_phases.specs.Scenarios.{Scenario, IsPresentAt}

-- the four cases: one station controls the bus; one is taking control; one is, beside one that doubts whether its offer was accepted; or one doubts so,
-- and none is taking control
pub data Hand : Type 0 where
  Controls : Hand
  Takes : Hand
  TakesBesideDoubt : Hand
  Doubts : Hand

module _ (w : Scenario) (past : List Pair) where
  -- the tick of the first command of a station that is taking control
  abbrev pub taken_by : StationData → Option ℕ
  taken_by station = takes_control w.lag station (starts w.plan station) w.loads w.outside past

  -- whether a station doubts
  abbrev pub is_in_doubt : StationData → Bool
  is_in_doubt station = doubts w.lag station (starts w.plan station) w.loads w.outside past

  -- what each case says: but for the third, one station holds control and no other one does
  abbrev pub HandIs : Hand → Type 0
  HandIs Controls = (alone : HoldsAlone w past) × (taken_by alone.holder ≡ None) × (is_in_doubt alone.holder ≡ false)
  HandIs Takes = (alone : HoldsAlone w past) × IsSome (taken_by alone.holder)
  HandIs TakesBesideDoubt = HoldsInDoubt w past
  HandIs Doubts = (alone : HoldsAlone w past) × (taken_by alone.holder ≡ None) × (is_in_doubt alone.holder ≡ true)

  -- one of the cases holds, and no other one
  pub record IsOneHand : Type 0 where
    pub hand : Hand
    pub is : HandIs hand
    pub only : (other : Hand) → HandIs other → other ≡ hand

  -- the station at this place holds control, and no other one does
  pub record HoldsAt (place : ℕ) (holder : StationData) : Type 0 where
    pub holds : holds_control w.lag holder (starts w.plan holder) w.loads w.outside past ≡ true
    pub others : (other : ℕ) (station : StationData) → IsPresentAt w other station → other ≢ place →
        holds_control w.lag station (starts w.plan station) w.loads w.outside past ≡ false
