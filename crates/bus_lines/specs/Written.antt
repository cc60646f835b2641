-- What was read and written of a recording.
use Rattle.std.specs.Prelude.{◌≡◌, ℕ, ◌≤◌, ◌<◌, ◌⊎◌, Bool, true, false, List, [], length, ◌++◌, codes, Option, Some, None, Result, Ok, Err}
use Rattle.std.specs.Io.KnownBytes.{Appends, Consumes, IsAtEnd}
use Rattle.bus_outside.specs.Causes.{GrowsByFront, Rose}
use Rattle.bus_text.specs.Texts.{line, number}
use Rattle.bus_recording.specs.declared.refusal.RecordingRefusal.{RecordingRefusal}
use Rattle.bus_recording.specs.declared.refusal.RecordingRefusal.TheVariants.{NoTimescale, NoLine, Token, Time, Long}
use Rattle.bus_monitor.specs.Scribes.{Owed}
use Rattle.bus_lines.specs.Readers.{line_name}
use Rattle.bus_lines.specs.Converting.{after_byte, byte_text, byte_refusal, after_end, end_text, end_refusal, after_bytes, bytes_text, bytes_refusal, after_part, part_text, part_refusal, line_left}
use Rattle.bus_lines.specs.declared.reader.RecordingReader.{RecordingReader}
use Rattle.bus_lines.specs.declared.converter.Converter.{Converter}
use Rattle.bus_lines.specs.declared.converter.Halt.{Halt}
use Rattle.bus_lines.specs.declared.converter.Halt.TheVariants as halts
use Rattle.bus_lines.specs.declared.writing.Ending.{Ending}
use Rattle.bus_lines.specs.declared.writing.Ending.TheVariants as endings

-- ---- the line of a refused recording

abbrev pub refusal_words : RecordingRefusal → RecordingReader → List ℕ
refusal_words NoTimescale reader = codes "no-timescale 0"
refusal_words (NoLine place) reader = codes "no-line " ++ line_name place reader
refusal_words (Token offset) reader = codes "token" ++ number offset
refusal_words (Time offset) reader = codes "time" ++ number offset
refusal_words (Long offset) reader = codes "long" ++ number offset

abbrev pub refusal_line : RecordingRefusal → RecordingReader → List ℕ
refusal_line refusal reader = line (codes "recording refused " ++ refusal_words refusal reader)

-- of a refused recording its line stands after the ticks
abbrev pub comment_of : Ending → RecordingReader → List ℕ
comment_of (endings.Refused refusal) reader = refusal_line refusal reader
comment_of _ reader = []

-- after the last tick a line that isn't whole ends
abbrev pub closing_text : Ending → Converter → List ℕ
closing_text ending c = line_left c ++ comment_of ending c.reader

-- ---- steps of the code

-- a text so far was written but for a part that is held back; or a write failed, and a front of it was written
abbrev pub OwedOr : {T E : Type 0} → List ℕ → List ℕ → Option (List ℕ) → Option (List ℕ) → Result T E → Type 0
OwedOr all text first held (Ok done) = Owed all text first held
OwedOr all text first held (Err failed) = GrowsByFront first held all

-- a step that adds to the text, and leaves a converter; or why it halts
abbrev pub Took : Converter → List ℕ → Option RecordingRefusal → Converter → List ℕ → Option (List ℕ) → Option (List ℕ) → Result (Unit {0}) Halt → Type 0
Took after all refusal c text first held (Ok done) = (c ≡ after) × (refusal ≡ None) × Owed all text first held
Took after all refusal c text first held (Err (halts.Refused because)) = (c ≡ after) × (refusal ≡ Some because) × Owed all text first held
Took after all refusal c text first held (Err halts.WriteFault) = GrowsByFront first held all

abbrev pub TookByte : ℕ → List ℕ → Converter → Converter → List ℕ → Option (List ℕ) → Option (List ℕ) → Result (Unit {0}) Halt → Type 0
TookByte byte before old new text first held done =
    Took (after_byte byte old) (before ++ byte_text byte old) (byte_refusal byte old) new text first held done

abbrev pub TookEnd : List ℕ → Converter → Converter → List ℕ → Option (List ℕ) → Option (List ℕ) → Result (Unit {0}) Halt → Type 0
TookEnd before old new text first held done =
    Took (after_end old) (before ++ end_text old) (end_refusal old) new text first held done

-- the bytes of a piece
abbrev pub TookBytes : List ℕ → List ℕ → Converter → Converter → List ℕ → Option (List ℕ) → Option (List ℕ) → Result (Unit {0}) Halt → Type 0
TookBytes bytes before old new text first held done =
    Took (after_bytes bytes old) (before ++ bytes_text bytes old) (bytes_refusal bytes old) new text first held done

-- it halts exactly where there is a refusal
abbrev pub HaltsFor : Option RecordingRefusal → Result (Unit {0}) Halt → Type 0
HaltsFor refusal (Ok done) = refusal ≡ None
HaltsFor refusal (Err (halts.Refused because)) = refusal ≡ Some because
HaltsFor refusal (Err halts.WriteFault) = ⊥

-- the faults of a sink: never fewer, and more where a write failed
abbrev pub StopCause : {T : Type 0} → ℕ → ℕ → Result T Halt → Type 0
StopCause before now (Err halts.WriteFault) = (before ≤ now) × Rose before now
StopCause before now _ = before ≤ now

-- how the reading ended, after what the recording's end came to
abbrev pub ending_of : Result (Unit {0}) Halt → Ending
ending_of (Ok done) = endings.Done
ending_of (Err (halts.Refused because)) = endings.Refused because
ending_of (Err halts.WriteFault) = endings.WriteFault

abbrev pub is_fault : Ending → Bool
is_fault endings.WriteFault = true
is_fault _ = false

-- ---- pieces

-- a text is added to what was written or is held back
abbrev pub Adds : List ℕ → List ℕ → List ℕ → Option (List ℕ) → Option (List ℕ) → Type 0
Adds more text0 text held0 held = (before : List ℕ) (first : Option (List ℕ)) → Owed before text0 first held0 → Owed (before ++ more) text first held

-- a write failed, and a front of it was written
abbrev pub AddsFront : List ℕ → List ℕ → Option (List ℕ) → Option (List ℕ) → Type 0
AddsFront more text0 held0 held = (before : List ℕ) (first : Option (List ℕ)) → Owed before text0 first held0 → GrowsByFront first held (before ++ more)

-- the reading goes on after these bytes
pub record GoesOn (bytes : List ℕ) (old new : Converter) (text0 text : List ℕ) (held0 held : Option (List ℕ)) : Type 0 where
  pub state : new ≡ after_bytes bytes old
  pub going : bytes_refusal bytes old ≡ None
  pub adds : Adds (bytes_text bytes old) text0 text held0 held

-- the reading ended with these bytes, or at their end
pub record StopsAt (ended : Bool) (bytes : List ℕ) (refusal : Option RecordingRefusal) (old new : Converter) (text0 text : List ℕ)
    (held0 held : Option (List ℕ)) : Type 0 where
  pub state : new ≡ after_part ended bytes old
  pub why : part_refusal ended bytes old ≡ refusal
  pub adds : Adds (part_text ended bytes old) text0 text held0 held

abbrev pub Stops : Bool → List ℕ → Converter → Converter → List ℕ → List ℕ → Option (List ℕ) → Option (List ℕ) → Ending → Type 0
Stops ended bytes old new text0 text held0 held endings.Done = (ended ≡ true) × StopsAt ended bytes None old new text0 text held0 held
Stops ended bytes old new text0 text held0 held (endings.Refused because) = StopsAt ended bytes (Some because) old new text0 text held0 held
Stops ended bytes old new text0 text held0 held endings.ReadFault = (ended ≡ false) × StopsAt ended bytes None old new text0 text held0 held
Stops ended bytes old new text0 text held0 held endings.WriteFault = AddsFront (part_text ended bytes old) text0 held0 held

-- one piece that was read and taken
pub record ReadOn (room : ℕ) (left0 left : Option (List ℕ)) (old new : Converter) (text0 text : List ℕ) (held0 held : Option (List ℕ)) (count : ℕ) : Type 0 where
  pub piece : List ℕ
  pub consumed : Consumes left0 left piece
  pub long : length piece ≡ count
  pub some : 0 < count
  pub fits : count ≤ room
  pub on : GoesOn piece old new text0 text held0 held

-- the last piece, of at most so many bytes
pub record ReadLast (room : ℕ) (left0 left : Option (List ℕ)) (old new : Converter) (text0 text : List ℕ) (held0 held : Option (List ℕ)) (ending : Ending) : Type 0 where
  pub piece : List ℕ
  pub consumed : Consumes left0 left piece
  pub fits : length piece ≤ room
  pub ended : Bool
  pub end : ended ≡ true → IsAtEnd left × (bytes_refusal piece old ≡ None)
  pub stops : Stops ended piece old new text0 text held0 held ending

abbrev pub PieceRead : ℕ → Option (List ℕ) → Option (List ℕ) → Converter → Converter → List ℕ → List ℕ → Option (List ℕ) → Option (List ℕ) → Result ℕ Ending → Type 0
PieceRead room left0 left old new text0 text held0 held (Ok count) = ReadOn room left0 left old new text0 text held0 held count
PieceRead room left0 left old new text0 text held0 held (Err ending) = ReadLast room left0 left old new text0 text held0 held ending

-- ---- the end

-- what was held back was written with what was added to it, or a front of that
abbrev pub Closes : List ℕ → Ending → List ℕ → Option (List ℕ) → Option (List ℕ) → ℕ → ℕ → Ending → Type 0
Closes more ending text held0 held1 sink0 sink1 result = (all : List ℕ) (first : Option (List ℕ)) → Owed all text first held0 →
    ((result ≡ ending) × Appends first held1 (all ++ more)) ⊎ ((result ≡ endings.WriteFault) × GrowsByFront first held1 (all ++ more) × Rose sink0 sink1)

-- ---- causes

-- a fault has its cause in the count of the source's or the sink's faults
abbrev pub CauseOf : ℕ → ℕ → ℕ → ℕ → Ending → Type 0
CauseOf source0 source1 sink0 sink1 endings.ReadFault = Rose source0 source1
CauseOf source0 source1 sink0 sink1 endings.WriteFault = Rose sink0 sink1
CauseOf source0 source1 sink0 sink1 _ = Unit {0}

abbrev pub ReadCause : ℕ → ℕ → ℕ → ℕ → Result ℕ Ending → Type 0
ReadCause source0 source1 sink0 sink1 (Ok count) = Unit {0}
ReadCause source0 source1 sink0 sink1 (Err ending) = CauseOf source0 source1 sink0 sink1 ending
