-- Subaddresses of data: 1 to 30.
use Rattle.std.specs.Prelude.{◌≤◌, Option, Some, None, ⊤}
use Rattle.bus_formats.specs.declared.log.Delivery.{Delivery}

-- what was delivered, if anything was, is for a subaddress of data
abbrev pub IsForData : Option Delivery → Type 0
IsForData None = ⊤
IsForData (Some delivery) = (1 ≤ delivery.sub) × (delivery.sub ≤ 30)
