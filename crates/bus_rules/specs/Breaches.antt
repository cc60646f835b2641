-- The breaches of a capture: what its bursts and messages break of the rules of timing, in the order in which they become known. Bursts are those of the
-- monitor, whose end is known k ticks after their last; messages are those of its listing (bus monitor 4.4.4).
use Rattle.std.specs.Prelude.{ℕ, min, ◌-◌, Bool, true, false, not, ◌&&◌, ◌||◌, nat_lt, if◌then◌else◌, List, [], ◌∷◌, ◌++◌, length, Option, Some, None, is_none}
use Rattle.std.specs.List.{list_any}
use Rattle.bus_base.specs.Samples.{is_quiet}
use Rattle.bus_base.specs.declared.samples.Channel.{Channel}
use Rattle.bus_base.specs.declared.samples.Channel.TheVariants.{A, B}
use Rattle.bus_base.specs.declared.samples.Pair.{Pair}
use Rattle.bus_base.specs.declared.samples.Sample.{Sample}
use Rattle.bus_line.specs.Past.{Burst, rest_of, runs, first_tick, ended_now}
use Rattle.bus_line.specs.Channels.{on_channel, quiet_both}
use Rattle.bus_formats.specs.Times.{dead_ticks, least_quiet}
use Rattle.bus_formats.specs.declared.form.Reading.{Reading}
use Rattle.bus_formats.specs.declared.form.Reading.TheVariants.{Good, Ends}
use Rattle.bus_monitor.specs.Messages.{Waiting, is_answer, opening, answer_read}
use Rattle.bus_monitor.specs.Progress.{waiting}
use Rattle.bus_monitor.specs.Told.{begins, is_bad}
use Rattle.bus_rules.specs.declared.breach.Breach.{Breach}
use Rattle.bus_rules.specs.declared.breach.Rule.{Rule}
use Rattle.bus_rules.specs.declared.breach.Rule.TheVariants.{Overlap, Word, Long, Gap, Response, Unknown, Reply, Open}

-- a breach of this rule on a channel that names this tick, where the rule is broken
abbrev pub breach_where : Bool → Channel → Rule → ℕ → List Breach
breach_where broken c rule tick = if broken then record { tick = record { 0 = tick }; channel = c; rule = rule } ∷ [] else []

-- ---- both channels at once (4.6)

abbrev pub is_heard : Sample → Bool
is_heard x = not (is_quiet x)

abbrev pub both_heard : Pair → Bool
both_heard shown = is_heard shown.a && is_heard shown.b

-- in the newest tick neither channel was quiet
abbrev pub overlaps : List Pair → Bool
overlaps [] = false
overlaps (shown ∷ past) = both_heard shown

-- the first tick of a row of such ticks is a breach, named on channel A
abbrev pub overlap_now : List Pair → List Breach
overlap_now [] = []
overlap_now (shown ∷ past) = breach_where (both_heard shown && not (overlaps past)) A Overlap (length past)

-- ---- a burst that begins

-- the longest response time is 12 microseconds, 24 ticks (4.3.3.8)
abbrev pub longest_response : ℕ
longest_response = dead_ticks 24

-- the message that a burst from this tick on answers: the one that waits, where the burst begins before its time for an answer is over (4.3.3.9). A
-- burst that answers none opens a message
abbrev pub answered : ℕ → Option Waiting → ℕ → Option Waiting
answered k None first = None
answered k (Some w) first = if is_answer k w first then Some w else None

-- before a burst that opens a message both channels are quiet for the four dead ticks of the least gap, or since the first tick (4.3.3.7); an answer comes
-- before the longest response time is over (4.3.3.8)
abbrev pub begun_so : Channel → ℕ → ℕ → Option Waiting → List Breach
begun_so c first quiet None = breach_where (nat_lt quiet (min least_quiet first)) c Gap first
begun_so c first quiet (Some w) = breach_where (nat_lt longest_response (first - w.from)) c Response first

-- ---- a burst that ended

-- a burst is whole valid words (4.4.1.1)
abbrev pub is_damaged : Burst → Bool
is_damaged burst = nat_lt 0 (rest_of burst) || list_any is_none burst.slots

-- the fail-safe time of a terminal is 800 microseconds, 1,600 ticks (4.4.1.3)
abbrev pub longest_burst : ℕ
longest_burst = 1600

abbrev pub is_bad_reply : Reading → Bool
is_bad_reply (Good status) = false
is_bad_reply (Ends outcome status) = is_bad outcome

-- a burst that opens a message is of one of the formats (4.3.3.6); an answer is the one that is due (4.4.3.5)
abbrev pub taken_so : ℕ → Channel → Option Waiting → Burst → List Breach
taken_so k c None burst = breach_where (is_none (opening k burst)) c Unknown burst.first
taken_so k c (Some w) burst = breach_where (is_bad_reply (answer_read k w burst)) c Reply burst.first

abbrev pub ended_so : ℕ → Channel → Option Waiting → Burst → List Breach
ended_so k c w burst =
    breach_where (is_damaged burst) c Word burst.first ++ (breach_where (nat_lt longest_burst burst.ticks) c Long burst.first ++ taken_so k c w burst)

-- ---- what becomes known in the newest tick

abbrev pub at_end : ℕ → Channel → Option Waiting → Option Burst → List Breach
at_end k c w None = []
at_end k c w (Some burst) = ended_so k c (answered k w burst.first) burst

abbrev pub at_begin : ℕ → Channel → ℕ → ℕ → Option Waiting → Bool → List Breach
at_begin k c first quiet w false = []
at_begin k c first quiet w true = begun_so c first quiet (answered k w first)

-- of one channel, by the message that waited on it and the ticks for which both channels had been quiet
abbrev pub known_on : ℕ → Channel → ℕ → List Sample → List Breach
known_on k c quiet [] = []
known_on k c quiet (x ∷ past) =
    at_end k c (waiting k past) (ended_now k (x ∷ past)) ++ at_begin k c (length past) quiet (waiting k past) (begins k (x ∷ past))

abbrev pub known_now : ℕ → List Pair → List Breach
known_now k [] = []
known_now k (shown ∷ past) =
    overlap_now (shown ∷ past)
    ++ (known_on k A (quiet_both past) (on_channel A (shown ∷ past)) ++ known_on k B (quiet_both past) (on_channel B (shown ∷ past)))

-- ---- all of them

-- those that became known in the ticks, in their order, A before B
unfoldable pub known : ℕ → List Pair → List Breach
known k [] = []
known k (shown ∷ past) = known k past ++ known_now k (shown ∷ past)

-- a burst that runs where the ticks end
abbrev pub open_burst : ℕ → Channel → List Sample → List Breach
open_burst k c past = breach_where (runs k past) c Open (first_tick k past)

abbrev pub open_bursts : ℕ → List Pair → List Breach
open_bursts k past = open_burst k A (on_channel A past) ++ open_burst k B (on_channel B past)

unfoldable pub breaches : ℕ → List Pair → List Breach
breaches k past = known k past ++ open_bursts k past
