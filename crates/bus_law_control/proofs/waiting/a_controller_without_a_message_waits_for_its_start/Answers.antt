use Rattle.bus_law_control.proofs.Early.{early-course, early-silent}
use Rattle.bus_law_control.proofs.waiting.a_controller_without_a_message_waits_for_its_start.Goals as goal

pub returns : goal.returns
returns c = record { stands = early-course; silent = early-silent }
