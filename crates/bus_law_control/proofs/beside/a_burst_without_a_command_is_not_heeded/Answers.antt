use Rattle.bus_law_control.proofs.OtherChannel.{whole-unheeded, leg-unheeded, few-slots, order-stays}
use Rattle.bus_law_control.proofs.beside.a_burst_without_a_command_is_not_heeded.Goals as goal

pub returns : goal.returns
returns _ = record { whole = whole-unheeded; so_far = leg-unheeded; few = few-slots; stays = order-stays }
