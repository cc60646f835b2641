use Rattle.bus_law_control.proofs.Heedless.{unheeded-last, unheeded-first}
use Rattle.bus_law_control.proofs.OtherChannel.{ignored-unheeded, unheeded-append, unheeded-same}
use Rattle.bus_law_control.proofs.beside.an_ignored_channel_is_not_heeded.Goals as goal

pub returns : goal.returns
returns _ = record { ignored = ignored-unheeded; joined = unheeded-append; lasts = unheeded-last; firsts = unheeded-first; same = unheeded-same }
