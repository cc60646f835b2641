-- The subaddresses from which pairings send.
use Rattle.std.specs.Prelude.{ℕ, ◌≤◌, List}
use Rattle.std.specs.List.{AllByRecursion as Each}
use Rattle.bus_bridge.specs.declared.pairings.Pairing.{Pairing}

-- a subaddress from which a terminal sends: 1 to 29
abbrev pub Sends : Pairing → Type 0
Sends pairing = (1 ≤ pairing.to) × (pairing.to ≤ 29)

abbrev pub AllSend : List Pairing → Type 0
AllSend pairs = Each Sends pairs
