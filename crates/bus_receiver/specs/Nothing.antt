-- Whether something became known with a tick: the end of a slot or of a burst.
use Rattle.std.specs.Prelude.{Bool, true, false, ◌&&◌}
use Rattle.bus_line.specs.declared.cutter.Cut.{Cut}
use Rattle.bus_line.specs.declared.cutter.Cut.TheVariants as kinds
use Rattle.bus_receiver.specs.declared.cutters.Cuts.{Cuts}

-- nothing became known of a channel
abbrev pub is_nothing : Cut → Bool
is_nothing kinds.Nothing = true
is_nothing (kinds.Slot i word) = false
is_nothing (kinds.Ended slots rest) = false

-- nothing became known of either channel
abbrev pub are_nothing : Cuts → Bool
are_nothing cuts = is_nothing cuts.a && is_nothing cuts.b
