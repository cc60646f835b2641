-- Parts of messages as faults leave them on the wire (transmission continuity, MIL-STD-1553B 4.4.1.2; the faults are the project's own).
-- A part is the words that one station sends as a command or as an answer. What was driven is a list of ticks, the newest first, with a drive
-- for each station in the order of the plan; a station is named by its place there.
use Rattle.std.specs.Prelude.{◌≡◌, ◌≢◌, ◌⊎◌, ℕ, ◌+◌, ◌*◌, ◌<◌, ◌≤◌, true, false, not, ◌&&◌, nat_lt, if◌then◌else◌, List, [], ◌∷◌, ◌++◌, length, slice_get, find, Option, Some, None}
use Rattle.std.specs.List.{All, AllPairs}
use Rattle.bus_base.specs.Samples.{other_of}
use Rattle.bus_base.specs.declared.samples.Channel.{Channel}
use Rattle.bus_base.specs.declared.samples.Drive.{Drive}
use Rattle.bus_base.specs.declared.samples.Part.{Part}
use Rattle.bus_base.specs.declared.samples.Part.TheVariants.{Command}
use Rattle.bus_base.specs.declared.samples.Sample.{Sample}
use Rattle.bus_base.specs.declared.samples.Sample.TheVariants.{Quiet}
use Rattle.bus_words.specs.declared.word.Word.{Word}
use Rattle.bus_line.specs.Past.{quiet_ticks, runs}
use Rattle.bus_formats.specs.Accepted.{HasHitRanges, word_struck}
use Rattle.bus_formats.specs.Forms.{data_word}
use Rattle.bus_formats.specs.declared.fault.Fault.{Fault}
use Rattle.bus_formats.specs.declared.fault.Hit.{Hit}
use Rattle.bus_model.specs.Strikes.{ShownAnswer, hits_on, added_by, own_struck, struck}
use Rattle.bus_model.specs.Transmissions.{drives_on, station_drive, newest_drives, is_of, is_cut_over, transmissions}
use Rattle.bus_model.specs.Wire.{zero_sample}
use Rattle.bus_law_line.specs.Senders.{AreUndriven, IsSpent, Sender, SendAlone, attempt_to_come, drives_command}
use Rattle.bus_law_line.specs.Shown.{struck_of, shown_on}

-- ---- what is shown of a part

-- the ticks in which a part is shown: forty for each word that the faults leave
abbrev pub part_ticks : List Hit → List Word → ℕ
part_ticks hits words = 40 * length (struck hits words)

-- sample i of a part as the channel shows it: the own words as they are struck, then the words that an extra adds, then nothing
abbrev pub part_sample : List Hit → List Word → ℕ → Sample
part_sample hits words i =
    if nat_lt i (40 * length (own_struck hits words)) then struck_of hits words i
    else if nat_lt i (part_ticks hits words) then zero_sample i
    else Quiet

-- ---- the premises

-- these hits may strike one part of these words in an accepted plan
pub record HitsFit (part : Part) (hits : List Hit) (words : List Word) : Type 0 where
  -- there are words, no more than the fail-safe lets pass, each of sixteen bits
  pub some : 0 < length words
  pub few : length words ≤ 40
  pub bits : All (λ (word : Word). word.bits < 65536) words
  -- each hit has the ranges of one on this part: its flips can be detected, and a command keeps its first word
  pub ranges : All (HasHitRanges part) hits
  -- no two of them strike the same word, nor both the length
  pub apart : AllPairs (λ a b. word_struck a ≢ word_struck b) hits

-- what stands at place i of a part that hits strike: its word there, or none; past the words a data word of value 0, which an extra added
abbrev pub IsStruckSlot : List Word → ℕ → Option Word → Type 0
IsStruckSlot words i slot =
    ((word : Word) × (slice_get words i ≡ Some word) × ((slot ≡ None) ⊎ (slot ≡ Some word))) ⊎ ((length words ≤ i) × (slot ≡ Some (data_word 0)))

-- a drive of this station in the tick to come begins a transmission: it didn't drive the channel in the newest tick, or a cut has just ended what
-- it sent there
abbrev pub IsFresh : List Fault → Channel → List (List Drive) → ℕ → Type 0
IsFresh faults c before station =
    (drives_on c (station_drive station (newest_drives before))
    && not (is_cut_over faults (length before) (find (is_of station c) (transmissions faults before)))) ≡ false

-- in these ticks, after those before, a station sends a part alone on its channel: these hits strike it
pub record SentPart (faults : List Fault) (s : Sender) (hits : List Hit) (before sent : List (List Drive)) : Type 0 where
  -- a transmission of its own begins
  pub fresh : IsFresh faults s.channel before s.station
  -- no transmission of another station has an extra left to show there
  pub spent : (other : ℕ) → other ≢ s.station → IsSpent faults s.channel before other
  -- it sends alone, and nothing after its words; one that a cut ended drives on for the four ticks in which its end isn't known
  pub ticks : SendAlone s sent
  pub within : length sent ≤ part_ticks hits s.words + 4
  -- the hits are those that the plan names for this part of this attempt, and fit
  pub named : hits_on faults (attempt_to_come faults s.part before) s.part ≡ hits
  pub fits : HitsFit s.part hits s.words
  -- where an extra adds words to an answer, nobody drives the other channel, which would end them; while the own words are sent all may
  pub beside : (length sent ≤ 40 * length s.words) ⊎ ((s.part ≡ Command) ⊎ ((added_by hits ≡ 0) ⊎ AreUndriven (other_of s.channel) sent))

-- some station drives the channel in a tick
abbrev pub IsDriven : Channel → List Drive → Type 0
IsDriven c now = (station : ℕ) × (drives_on c (station_drive station now) ≡ true)

-- some station drives it in one of these ticks
abbrev pub WasDriven : Channel → List (List Drive) → Type 0
WasDriven c [] = ⊥
WasDriven c (now ∷ ticks) = IsDriven c now ⊎ WasDriven c ticks

-- the first m ticks of an answer of which something is shown, after which it is quiet: the answer was given up (superseding valid commands 4.4.3.2)
pub record StopsAfter (part : Part) (shown : ShownAnswer) (m : ℕ) : Type 0 where
  -- its burst, were it to run to its own end, would have the struck words
  pub slots : shown.burst.slots ≡ struck shown.hits shown.sent.words
  pub fits : HitsFit part shown.hits shown.sent.words
  pub some : 0 < m
  pub within : m ≤ part_ticks shown.hits shown.sent.words

-- a station sends the first ticks of an answer, on a channel on which no burst ran, and then the channel is quiet: the answer as the table has it
pub record IsStopped (k : ℕ) (faults : List Fault) (s : Sender) (shown : ShownAnswer) (before sent silent : List (List Drive)) : Type 0 where
  pub lag : k ≡ 3
  pub rests : runs k (shown_on faults s.channel before) ≡ false
  -- these ticks are sent, as the answer's own
  pub words : s.words ≡ shown.sent.words
  pub sends : SentPart faults s shown.hits before sent
  pub stops : StopsAfter s.part shown (length sent)
  -- and nothing is shown in those after them
  pub quiet : shown_on faults s.channel (silent ++ (sent ++ before)) ≡ quiet_ticks (length silent) ++ shown_on faults s.channel (sent ++ before)

-- ---- which ticks begin an attempt

-- a tick in which no station drives a command
abbrev pub IsWithoutCommand : List Drive → Type 0
IsWithoutCommand now = (station : ℕ) → drives_command (station_drive station now) ≡ false

-- ticks in which none does
abbrev pub AreWithoutCommand : List (List Drive) → Type 0
AreWithoutCommand [] = Unit {0}
AreWithoutCommand (now ∷ ticks) = IsWithoutCommand now × AreWithoutCommand ticks

-- ticks in which no station but the sender drives a command; what else the others drive, and where, is as it may be
abbrev pub CommandsAlone : Sender → List (List Drive) → Type 0
CommandsAlone s [] = Unit {0}
CommandsAlone s (now ∷ sent) =
    ((other : ℕ) → other ≢ s.station → drives_command (station_drive other now) ≡ false) × CommandsAlone s sent
