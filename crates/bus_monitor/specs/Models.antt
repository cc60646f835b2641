-- What contracts see of the types that a monitor keeps.
use Rattle.std.specs.Prelude.{ℕ, Option, Some, None}
use Rattle.bus_base.specs.declared.samples.Part.{Part}
use Rattle.bus_base.specs.declared.samples.Part.TheVariants.{First, Second}
use Rattle.bus_monitor.specs.Messages.{Came, unknown}

-- what a message came to, where it is of a known form
abbrev pub came_of : Option Came → Came
came_of None = unknown
came_of (Some came) = came

-- the part of the message that is awaited: the second answer, where the first one's status was read
abbrev pub part_after : Option ℕ → Part
part_after None = First
part_after (Some status) = Second
