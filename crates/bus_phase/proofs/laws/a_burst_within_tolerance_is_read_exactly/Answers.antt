use Rattle.bus_phase.proofs.BurstLaws.{read_exactly}
use Rattle.bus_phase.proofs.laws.a_burst_within_tolerance_is_read_exactly.Goals as goal

pub returns : goal.returns
returns c = read_exactly
