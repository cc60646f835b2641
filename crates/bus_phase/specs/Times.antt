-- Times are whole picoseconds from the first moment of a recording. A tick is half a bit time (MIL-STD-1553B 4.3.3.3).
use Rattle.std.specs.Prelude.{ℕ, ◌+◌, ◌-◌, ◌*◌, ◌/◌, nat_le, Bool}

-- the picoseconds of a tick
abbrev pub tick_time : ℕ
tick_time = 500000

-- the whole number of ticks that is nearest to a time; half a tick counts up
abbrev pub nearest : ℕ → ℕ
nearest time = (time + 250000) / 500000

-- the same backwards: half a tick counts up in time, so down here
abbrev pub nearest_back : ℕ → ℕ
nearest_back time = (time + 249999) / 500000

-- how far a time lies from that whole number of ticks
abbrev pub error_of : ℕ → ℕ
error_of time = (time - nearest time * tick_time) + (nearest time * tick_time - time)

-- a crossing so long after an anchor may become the next anchor: it lies within 125 ns of a whole number of ticks
abbrev pub is_good : ℕ → Bool
is_good time = nat_le (error_of time) 125000
