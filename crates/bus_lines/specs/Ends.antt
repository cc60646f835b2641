-- What each answer of the top call shows, over what the source had left and the sink held before and after, where they tell it, and over their counts
-- of faults.
use Rattle.std.specs.Prelude.{◌≡◌, ℕ, suc, ◌≤◌, ◌⊎◌, Bool, true, false, List, ◌++◌, length, Option, Some, None}
use Rattle.std.specs.Io.KnownBytes.{Appends, Consumes, IsAtEnd}
use Rattle.bus_capture.specs.Captures.{header}
use Rattle.bus_outside.specs.Causes.{GrowsByFront}
use Rattle.bus_recording.specs.Vcd.{text_limit}
use Rattle.bus_refusals.specs.Refusals.{words_refused, WroteDue}
use Rattle.bus_lines.specs.Converting.{started, after_part, part_text, part_refusal, bytes_refusal}
use Rattle.bus_lines.specs.Written.{closing_text, CauseOf}
use Rattle.bus_lines.specs.declared.reader.RecordingReader.{RecordingReader}
use Rattle.bus_lines.specs.declared.writing.Ending.{Ending}
use Rattle.bus_lines.specs.declared.writing.Ending.TheVariants.{Done, Refused, ReadFault, WriteFault}

-- 0 where the recording was read to its end; 3 where it is refused; 4 where a read failed; 5 where a write failed
abbrev pub status_of : Ending → ℕ
status_of Done = 0
status_of (Refused refusal) = 3
status_of ReadFault = 4
status_of WriteFault = 5

-- ---- the text of a part of a recording: bytes, and their end where it was reached

abbrev pub text_so_far : RecordingReader → Bool → List ℕ → List ℕ
text_so_far reader ended bytes = header ++ part_text ended bytes (started reader)

abbrev pub whole_text : RecordingReader → Bool → List ℕ → Ending → List ℕ
whole_text reader ended bytes ending = text_so_far reader ended bytes ++ closing_text ending (after_part ended bytes (started reader))

-- ---- how the reading ended

-- at the recording's end; refused, exactly where the definitions say; or by a read that failed
abbrev pub ReadEnds : RecordingReader → Bool → List ℕ → Ending → Type 0
ReadEnds reader ended bytes Done = (ended ≡ true) × (part_refusal ended bytes (started reader) ≡ None)
ReadEnds reader ended bytes (Refused refusal) = part_refusal ended bytes (started reader) ≡ Some refusal
ReadEnds reader ended bytes ReadFault = (ended ≡ false) × (part_refusal ended bytes (started reader) ≡ None)
ReadEnds reader ended bytes WriteFault = ⊥

-- the whole text was written; or a write failed, and a front was written of the text so far, or of the whole
abbrev pub WroteSo : RecordingReader → Bool → List ℕ → Option (List ℕ) → Option (List ℕ) → Ending → Type 0
WroteSo reader ended bytes held0 held1 WriteFault =
    GrowsByFront held0 held1 (text_so_far reader ended bytes)
    ⊎ ((ending : Ending) × ReadEnds reader ended bytes ending × GrowsByFront held0 held1 (whole_text reader ended bytes ending))
WroteSo reader ended bytes held0 held1 ending =
    ReadEnds reader ended bytes ending × Appends held0 held1 (whole_text reader ended bytes ending)

-- a capture of what was read of the source: all of it, where the end was reached, and at most one byte more than a recording has
pub record IsConverted (reader : RecordingReader) (left0 left1 held0 held1 : Option (List ℕ)) (ending : Ending) : Type 0 where
  pub input : List ℕ
  pub short : length input ≤ suc text_limit
  pub consumed : Consumes left0 left1 input
  pub ended : Bool
  pub end : ended ≡ true → IsAtEnd left1 × (bytes_refusal input (started reader) ≡ None)
  pub wrote : WroteSo reader ended input held0 held1 ending

-- the counts never fall
pub record EndingHasCause (source0 source1 sink0 sink1 : ℕ) (ending : Ending) : Type 0 where
  pub reads : source0 ≤ source1
  pub writes : sink0 ≤ sink1
  pub cause : CauseOf source0 source1 sink0 sink1 ending

module _ (left0 left1 held0 held1 : Option (List ℕ)) (source0 source1 sink0 sink1 : ℕ) (status : ℕ) where
  -- words without a meaning: the status is 2, or 5 where the line's write failed; nothing is read, and the source has no fault more
  pub record EndsUnmeant : Type 0 where
    pub unread : left1 ≡ left0
    pub untried : source1 ≡ source0
    pub later : sink0 ≤ sink1
    pub wrote : WroteDue held0 held1 sink0 sink1 status 2 words_refused

  -- a recording was read, with the status of how that ended; never for want of memory
  pub record EndsRecording (reader : RecordingReader) : Type 0 where
    pub ending : Ending
    pub status_is : status ≡ status_of ending
    pub converted : IsConverted reader left0 left1 held0 held1 ending
    pub cause : EndingHasCause source0 source1 sink0 sink1 ending

  abbrev pub Ends : Option RecordingReader → Type 0
  Ends None = EndsUnmeant
  Ends (Some reader) = EndsRecording reader
