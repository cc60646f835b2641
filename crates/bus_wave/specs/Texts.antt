-- The text of a dump (IEEE 1364, value change dump), as GTKWave and sigrok read it: one change a line, no vectors, a space in a string as `\x20`.
use Rattle.std.specs.Prelude.{ℕ, ◌+◌, ◌*◌, ◌/◌, ◌%◌, ◌==◌, Bool, true, false, if◌then◌else◌, List, [], ◌∷◌, ◌++◌, flat_map, codes, decimal, Option, Some, None}
use Rattle.bus_base.specs.declared.samples.Channel.{Channel}
use Rattle.bus_base.specs.declared.samples.Channel.TheVariants.{A, B}
use Rattle.bus_base.specs.declared.samples.Sample.{Sample}
use Rattle.bus_base.specs.declared.samples.Sample.TheVariants.{Plus, Minus, Quiet}
use Rattle.bus_words.specs.Fields.{address_of, is_transmit, sub_of, field_of, is_mode, word_count}
use Rattle.bus_text.specs.Texts.{line, number, hex_word, outcome_text}
use Rattle.bus_capture.specs.declared.refusal.CaptureRefusal.{CaptureRefusal}
use Rattle.bus_capture.specs.declared.refusal.CaptureRefusal.TheVariants as refusals
use Rattle.bus_wave.specs.Marks.{Change, time, level, negative, message, sender, gap, word}
use Rattle.bus_wave.specs.declared.marks.Commands.{Commands}
use Rattle.bus_wave.specs.declared.marks.MessageMark.{MessageMark}
use Rattle.bus_wave.specs.declared.marks.MessageMark.TheVariants as messages
use Rattle.bus_wave.specs.declared.marks.SenderMark.{SenderMark}
use Rattle.bus_wave.specs.declared.marks.SenderMark.TheVariants as senders
use Rattle.bus_wave.specs.declared.marks.WordMark.{WordMark}
use Rattle.bus_wave.specs.declared.marks.WordMark.TheVariants as words

-- ---- pieces

-- the letter that stands for a line of a channel: a capital for A, a small one for B
abbrev pub letter : Channel → ℕ → ℕ
letter A capital = capital
letter B capital = capital + 32

-- a space within a string is written as \x20
abbrev pub escaped_space : List ℕ
escaped_space = 92 ∷ 120 ∷ 50 ∷ 48 ∷ []

abbrev pub escaped_byte : ℕ → List ℕ
escaped_byte byte = if byte == 32 then escaped_space else byte ∷ []

abbrev pub escaped : List ℕ → List ℕ
escaped text = flat_map escaped_byte text

abbrev pub level_byte : Sample → ℕ
level_byte Plus = 49
level_byte Minus = 48
level_byte Quiet = 122

abbrev pub bit_byte : Bool → ℕ
bit_byte true = 49
bit_byte false = 48

-- ---- a message, as engineers write it: terminal, direction, subaddress and count, or the mode code

abbrev pub direction_text : Bool → List ℕ
direction_text true = codes "-T-"
direction_text false = codes "-R-"

abbrev pub rest_text : ℕ → List ℕ
rest_text command =
    if is_mode command then codes "MC" ++ decimal (field_of command)
    else (decimal (sub_of command) ++ codes "-") ++ decimal (word_count command)

abbrev pub command_text : ℕ → List ℕ
command_text command = (decimal (address_of command) ++ direction_text (is_transmit command)) ++ rest_text command

abbrev pub second_text : Option ℕ → List ℕ
second_text None = []
second_text (Some command) = codes "+" ++ command_text command

abbrev pub commands_text : Commands → List ℕ
commands_text commands = command_text commands.first ++ second_text commands.second

abbrev pub open_text : Option Commands → List ℕ
open_text None = codes "open"
open_text (Some commands) = commands_text commands ++ escaped (codes " open")

abbrev pub message_text : MessageMark → List ℕ
message_text messages.Nothing = []
message_text messages.Unknown = codes "unknown"
message_text (messages.Open commands) = open_text commands
message_text (messages.Ended commands outcome) = commands_text commands ++ escaped (outcome_text outcome)

-- ---- the other lines

abbrev pub sender_text : SenderMark → List ℕ
sender_text senders.Nobody = []
sender_text senders.Controller = codes "BC"
sender_text (senders.Terminal address) = codes "RT" ++ decimal address
sender_text senders.Unknown = codes "?"

abbrev pub word_text : WordMark → List ℕ
word_text words.Nothing = []
word_text words.Bad = codes "!"
word_text (words.Command bits) = (codes "C" ++ escaped_space) ++ hex_word bits
word_text (words.Other bits) = (codes "S" ++ escaped_space) ++ hex_word bits
word_text (words.Datum bits) = hex_word bits

-- half a microsecond, or none
abbrev pub half_text : ℕ → List ℕ
half_text ticks = if ticks % 2 == 0 then codes ".0" else codes ".5"

-- a gap in microseconds, from the middle of the last parity bit to the middle of the sync: four ticks more than its quiet ones (4.3.3.7)
abbrev pub gap_text : ℕ → List ℕ
gap_text quiet = decimal ((quiet + 4) / 2) ++ half_text quiet

-- ---- lines

abbrev pub id_text : Channel → ℕ → List ℕ
id_text c capital = 32 ∷ letter c capital ∷ []

abbrev pub string_line : Channel → ℕ → List ℕ → List ℕ
string_line c capital text = line ((codes "s" ++ text) ++ id_text c capital)

-- a tick has five units of 100 ns
abbrev pub change_text : Change → List ℕ
change_text (time t) = line (codes "#" ++ decimal (5 * t))
change_text (level c x) = level_byte x ∷ letter c 76 ∷ 10 ∷ []
change_text (negative c b) = bit_byte b ∷ letter c 78 ∷ 10 ∷ []
change_text (message c m) = string_line c 77 (message_text m)
change_text (sender c s) = string_line c 84 (sender_text s)
change_text (gap c quiet) = line ((codes "r" ++ gap_text quiet) ++ id_text c 71)
change_text (word c w) = string_line c 87 (word_text w)

abbrev pub changes_text : List Change → List ℕ
changes_text changes = flat_map change_text changes

-- ---- the head, and a refusal

abbrev pub head_text : List ℕ
head_text =
    codes "$comment 1553 wave 1 $end\n$timescale 100 ns $end\n$scope module bus $end\n$var wire 1 L A $end\n$var wire 1 N A_neg $end\n$var string 1 W A_word $end\n$var string 1 M A_message $end\n$var string 1 T A_sender $end\n$var real 64 G A_gap $end\n$var wire 1 l B $end\n$var wire 1 n B_neg $end\n$var string 1 w B_word $end\n$var string 1 m B_message $end\n$var string 1 t B_sender $end\n$var real 64 g B_gap $end\n$upscope $end\n$enddefinitions $end\n#0\n$dumpvars\nzL\n0N\ns W\ns M\ns T\nr0 G\nzl\n0n\ns w\ns m\ns t\nr0 g\n$end\n"

abbrev pub offset_comment : List ℕ → ℕ → List ℕ
offset_comment name offset = line (((codes "$comment capture refused" ++ name) ++ number offset) ++ codes " $end")

abbrev pub refusal_comment : CaptureRefusal → List ℕ
refusal_comment (refusals.Header offset) = offset_comment (codes " header") offset
refusal_comment (refusals.Byte offset) = offset_comment (codes " byte") offset
refusal_comment (refusals.HalfTick offset) = offset_comment (codes " half-tick") offset
refusal_comment (refusals.Long offset) = offset_comment (codes " long") offset
