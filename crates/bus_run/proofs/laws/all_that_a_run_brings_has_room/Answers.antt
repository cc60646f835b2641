use Rattle.bus_run.proofs.Delivering.{delivering-few}
use Rattle.bus_run.proofs.TableRun.{same-attempts, goes-on}
use Rattle.bus_run.proofs.laws.all_that_a_run_brings_has_room.Goals as goal

pub returns : goal.returns
returns _ = record { attempts = same-attempts; room = λ plan t accepted within. goes-on plan accepted t within; deliveries = delivering-few }
