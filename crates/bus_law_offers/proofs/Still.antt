-- Stations of which nothing changes over quiet ticks: one of which nothing is due, and one that doubts whether its offer was accepted.
use Rattle.std.proofs.Common.{◌≡◌, ℕ, suc, ◌+◌, ◌<◌, ◌≤◌, true, List, ◌++◌, length, ap, ◌∙◌, arith}
use Rattle.bus_base.specs.Samples.{quiet_pair, quiet_pairs}
use Rattle.bus_base.specs.declared.samples.Pair.{Pair}
use Rattle.bus_line.specs.Channels.{quiet_both}
use Rattle.bus_formats.specs.Plans.{StationData}
use Rattle.bus_formats.specs.Times.{doubting}
use Rattle.bus_model.specs.Attempts.{Begun}
use Rattle.bus_model.specs.Course.{Course}
use Rattle.bus_model.specs.Standing.{Standing}
use Rattle.bus_model.specs.Starts.{starts}
use Rattle.bus_law_control.specs.Silent.{StaysSilent}
use Rattle.bus_law_control.proofs.Holding.{heard-nothing}
use Rattle.bus_law_control.proofs.SilentHolder.{doubts-silent}
use Rattle.bus_law_moments.specs.Doubts.{IsInDoubt}
use Rattle.bus_law_offers.specs.Still.{IsStill}
use Rattle.bus_law_phases.specs.Scenarios.{Scenario, course_of}
use Rattle.bus_law_phases.proofs.Resting.{rests-fewer}
use Rattle.bus_law_stations.specs.Silence.{StationRests}
use Rattle.bus_law_stations.proofs.StillStation.{still-after, still-terminal, still-quiet}
use Rattle.bus_law_table.proofs.Still.{rests-takes}
use Rattle.bus_law_table.proofs.Takes.{unheard-takes, unheard-memory}

-- one of which nothing is due
pub rests-still : (w : Scenario) (past : List Pair) (n : ℕ) (station : StationData) →
    StationRests w.lag station (starts w.plan station) w.loads w.outside past n → IsStill w past n station
rests-still w past n station rests =
    let fewer : (m : ℕ) → m ≤ n → StationRests w.lag station (starts w.plan station) w.loads w.outside past m =
    λ m few. rests-fewer w.lag station (starts w.plan station) w.loads w.outside past n m few rests in record {
      silent = λ m few. still-quiet w.lag station (starts w.plan station) w.loads w.outside past m (fewer (suc m) (omega (arith, few)));
      same = λ m few. still-after w.lag station (starts w.plan station) w.loads w.outside past m (fewer m few);
      takes = λ m few. rests-takes w.lag w.plan w.loads w.outside w.absent station past m (fewer (suc m) (omega (arith, few)));
      keeps = λ m few. ap (λ (s : Standing). s.memory) (still-terminal w.lag station (starts w.plan station) w.loads w.outside past m (fewer m few));
    }

-- one that doubts, for eighty ticks since the end of the answer
module _ (w : Scenario) (past : List Pair) (station : StationData) (begun : Begun) (x n : ℕ) (doubt : IsInDoubt w past station begun x)
    (early : length past + n < x + doubting) where
  still-quiet-since : length past ≤ x + quiet_both past
  still-quiet-since = let quiet = doubt.quiet in omega (arith, quiet)

  stays : (m : ℕ) → m ≤ n → StaysSilent w.lag station (starts w.plan station) w.loads w.outside past (quiet_pairs m)
  stays m few =
      doubts-silent w.lag station (starts w.plan station) w.loads w.outside past doubt.holds begun doubt.runs x doubt.doubts still-quiet-since m
      (omega (arith, few, early))

  holds-then : (m : ℕ) → m ≤ n → (course_of w station (quiet_pairs m ++ past)).holds ≡ true
  holds-then m few = ap (λ (c : Course). c.holds) (stays m few).same ∙ doubt.holds

  pub doubts-still : IsStill w past n station
  doubts-still = record {
    silent = λ m few. (stays m (omega (arith, few))).silent;
    same = λ m few. (stays m few).same;
    takes = λ m few.
        unheard-takes w.lag station (starts w.plan station) w.loads w.outside quiet_pair (quiet_pairs m ++ past)
        (heard-nothing w.lag station (starts w.plan station) w.loads w.outside (quiet_pairs (suc m) ++ past) (holds-then (suc m) (omega (arith, few))));
    keeps = λ m few.
        unheard-memory w.lag station (starts w.plan station) w.loads w.outside past (quiet_pairs m)
        (heard-nothing w.lag station (starts w.plan station) w.loads w.outside past doubt.holds) (stays m few).keeps;
  }
