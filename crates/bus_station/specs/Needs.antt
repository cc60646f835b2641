-- Which stations need to hear each tick. Any other one waits until a slot or a burst ends.
use Rattle.std.specs.Prelude.{Bool, not, ◌||◌}
use Rattle.bus_controller.specs.Steps.{serves}
use Rattle.bus_terminal.specs.Needs as terminal
use Rattle.bus_station.specs.declared.station.Station.{Station}

-- it holds control, its terminal hears by its own cutters, or its terminal needs each tick
abbrev pub needs_each_tick : Station → Bool
needs_each_tick value = not (serves value.controller.state) || value.alone || terminal.needs_each_tick value.terminal
