-- A bus without one of its stations.
use Rattle.std.specs.Prelude.{◌≡◌, ℕ, true, false, if◌then◌else◌, List, [], ◌∷◌}
use Rattle.bus_model.specs.Message.{Present, Message}
use Rattle.bus_model.specs.Run.{is_at}

-- the stations but the one with this address
abbrev pub without : ℕ → List Present → List Present
without address [] = []
without address (station ∷ stations) = if is_at address station then without address stations else station ∷ without address stations

-- the same message, that station left out
abbrev pub message_without : ℕ → Message → Message
message_without address m = record m { stations = without address m.stations }

-- it doesn't serve
abbrev pub DoesNotServe : ℕ → Present → Type 0
DoesNotServe address station = is_at address station ≡ true → station.serves ≡ false
