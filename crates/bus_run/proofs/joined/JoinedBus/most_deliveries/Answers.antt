use Rattle.std.proofs.Common.{◌*◌, ℕ, ap, arith}
use Rattle.bus_run.specs.Joined.{JoinedStands}
use Rattle.bus_run.proofs.JoinedLaws.{attempts-below}
use Rattle.bus_run.proofs.joined.JoinedBus.most_deliveries.Goals as goal

pub overflow_mul-result : goal.overflow_mul-result
unfolding JoinedStands
overflow_mul-result c =
    let (w, found, count, trace, st) = c.requires in
    let are = st.most_attempts_are in
    let below = attempts-below w.plan in
    omega (arith, are, below)

pub returns : goal.returns
unfolding JoinedStands
returns c w found count trace st = ap (λ (n : ℕ). 3 * n) st.most_attempts_are
