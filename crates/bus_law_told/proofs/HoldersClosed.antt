-- After a message that didn't go well the next one waits until nobody can still answer.
use Rattle.std.proofs.Common.{◌≡◌, ℕ, suc, ◌+◌, ◌<◌, ◌≤◌, Bool, true, false, List, [], ◌∷◌, length, ap, ◌∙◌, arith}
use Rattle.std.specs.Prelude.{if◌then◌else◌}
use Rattle.bus_base.specs.declared.samples.Channel.{Channel}
use Rattle.bus_base.specs.declared.samples.Pair.{Pair}
use Rattle.bus_line.specs.Channels.{both_quiet, quiet_both}
use Rattle.bus_formats.specs.Plans.{StationData}
use Rattle.bus_formats.specs.Times.{settling_quiet}
use Rattle.bus_model.specs.Attempts.{Begun, Ended}
use Rattle.bus_model.specs.Course.{Course, close, quiet_from}
use Rattle.bus_model.specs.Starts.{usual, opening_after}
use Rattle.bus_law_control.proofs.Early.{needs-quiet}
use Rattle.bus_law_phases.specs.Scenarios.{Scenario, course_of}
use Rattle.bus_law_told.specs.Holders.{HoldsInQuiet, StartsInQuiet}

-- no more ticks were quiet than there were
few-by : (b : Bool) (q n : ℕ) → q ≤ n → (if b then suc q else 0) ≤ suc n
few-by true q n rest = omega (arith, rest)
few-by false q n rest = omega arith

few : (past : List Pair) → quiet_both past ≤ length past
few [] = omega arith
few (x ∷ past) = few-by (both_quiet x) (quiet_both past) (length past) (few past)

-- the next message needs so many quiet ticks, which aren't over
pub closed-waits : (w : Scenario) (past : List Pair) (holder : StationData) (c : Channel) (before : Course) (begun : Begun) (ended : Ended) (tick e : ℕ) →
    w.lag < settling_quiet → HoldsInQuiet w past holder c → course_of w holder past ≡ close before begun ended tick →
    opening_after ended.outcome begun.state.channel tick ≡ usual settling_quiet (suc tick) → quiet_from past ≡ e → length past < e + settling_quiet →
    StartsInQuiet w past holder c settling_quiet (suc tick)
closed-waits w past holder c before begun ended tick e small at closes opens hush early =
    let fits = few past in
    let opens_so = ap (λ (d : Course). d.opening) closes ∙ opens in
    record {
      at = at;
      idle = ap (λ (d : Course). d.runs) closes;
      opens = opens_so;
      needs = small;
      later = needs-quiet (course_of w holder past) past settling_quiet (suc tick) opens_so (omega (arith, fits, hush, early));
    }
