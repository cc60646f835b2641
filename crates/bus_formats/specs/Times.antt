-- The times of the bus in ticks of half a microsecond (intermessage gap, response time and no-response time-out, MIL-STD-1553B 4.3.3.7
-- to .9). A gap is measured from the middle of a parity bit to the middle of the next sync. One tick of it lies in the word before and
-- three in the word after, so it has four dead ticks fewer, in which the channel is quiet.
use Rattle.std.specs.Prelude.{ℕ, ◌-◌}

-- the dead ticks of a gap
abbrev pub dead_ticks : ℕ → ℕ
dead_ticks gap = gap - 4

-- the dead ticks of the least gap, after which the next message may start (4.3.3.7)
abbrev pub least_quiet : ℕ
least_quiet = 4

-- an answer counts where it begins after at most this many dead ticks (4.3.3.9)
abbrev pub no_response : ℕ
no_response = 24

-- ---- waits that the standard leaves open: these numbers are the project's own

-- a relay's receiver waits for the transmitter's answer: longer than the 24 dead ticks for which the controller waits
abbrev pub relay_wait : ℕ
relay_wait = 30

-- after a message that didn't go well both channels are quiet that long before the next: longer than any answer can still be awaited
abbrev pub settling_quiet : ℕ
settling_quiet = 40

-- a terminal that accepted control sends its first command that long after its answer, when its offerer has long read that answer
abbrev pub taking_over : ℕ
taking_over = 40

-- an offerer whose offer was answered badly keeps control where both channels stay quiet that long: twice as long as the accepter waits
abbrev pub doubting : ℕ
doubting = 80

-- a run ends when both channels were quiet that long: nobody waits longer for anything that isn't planned
abbrev pub ending_quiet : ℕ
ending_quiet = 80
