-- What a relay's transmitter sent.
use Rattle.std.proofs.Common.{◌≡◌, ℕ, ◌-◌, ◌<◌, List, [], ◌∷◌, length, take, drop, get_or, Option, refl, arith}
use Rattle.std.proofs.Math.Seq.{take-length as take-all}
use Rattle.bus_words.specs.declared.word.Word.{Word}
use Rattle.bus_model.specs.Orders.{data_from, relayed}
use Rattle.bus_formats.specs.Readings.{command_in}

-- what a transmitter sent, by its first slot and the others
pub relayed-first : (count transmitter rest : ℕ) (slots : List (Option Word)) (d : Option Word) →
    0 < length slots → rest ≡ 0 →
    data_from count transmitter (command_in (get_or slots 0 d)) (take (length slots - 1) (drop 1 slots))
    ≡ relayed count transmitter slots rest
relayed-first count transmitter rest [] d h none = absurd (omega (arith, h))
relayed-first count transmitter rest (slot ∷ slots) d h none =
    let all : length (slot ∷ slots) - 1 ≡ length slots = omega arith in
    rw (none, all, take-all slots) refl
