-- What the bytes of a recording add to the text of its capture.
use Rattle.std.specs.Prelude.{ℕ, zero, suc, ◌+◌, ◌-◌, ◌==◌, nat_le, Bool, true, false, if◌then◌else◌, List, [], ◌∷◌, ◌++◌, Option, Some, None, Result, Ok, Err}
use Rattle.bus_base.specs.declared.samples.Pair.{Pair}
use Rattle.bus_capture.specs.Captures.{line_feed, line_end, sample_byte}
use Rattle.bus_phase.specs.Phases.{phase_at_start, shown, ended, pair_now, after_tick, most_ticks}
use Rattle.bus_recording.specs.declared.moment.Moment.{Moment}
use Rattle.bus_recording.specs.declared.refusal.RecordingRefusal.{RecordingRefusal}
use Rattle.bus_recording.specs.declared.refusal.RecordingRefusal.TheVariants as refusals
use Rattle.bus_lines.specs.Readers as readers
use Rattle.bus_lines.specs.declared.reader.RecordingReader.{RecordingReader}
use Rattle.bus_lines.specs.declared.reader.Closing.{Closing}
use Rattle.bus_lines.specs.declared.converter.Converter.{Converter}

-- before the first byte
abbrev pub started : RecordingReader → Converter
started reader = record { reader = reader; phase = phase_at_start; column = 0 }

-- ---- the text of ticks

-- a tick, where so many stand in its line already, and the line feed after the 64th
abbrev pub line_feed_after : ℕ → List ℕ
line_feed_after column = if nat_le 63 column then line_feed ∷ [] else []

abbrev pub tick_text : ℕ → Pair → List ℕ
tick_text column pair = (sample_byte pair.a ∷ sample_byte pair.b ∷ []) ++ line_feed_after column

abbrev pub column_after : ℕ → ℕ
column_after column = if nat_le 63 column then 0 else column + 1

abbrev pub after_one : Converter → Converter
after_one c = record c { column = column_after c.column; phase = after_tick c.phase }

-- so many ticks are told, and their text
unfoldable pub after_told : ℕ → Converter → Converter
after_told zero c = c
after_told (suc n) c = after_told n (after_one c)

unfoldable pub told_text : ℕ → Converter → List ℕ
told_text zero c = []
told_text (suc n) c = tick_text c.column (pair_now c.phase) ++ told_text n (after_one c)

-- the ticks that are due
abbrev pub ticks_due : Converter → ℕ
ticks_due c = c.phase.due - c.phase.settled

abbrev pub all_told : Converter → Converter
all_told c = after_told (ticks_due c) c

abbrev pub due_text : Converter → List ℕ
due_text c = told_text (ticks_due c) c

-- what is missing of the last line
abbrev pub line_left : Converter → List ℕ
line_left c = line_end c.column

-- ---- a byte

abbrev pub with_moment : Option Moment → Converter → Converter
with_moment None c = c
with_moment (Some moment) c = record c { phase = shown moment.at moment.pair c.phase }

-- a capture has no more ticks than `most_ticks`: the recording is refused with the byte at this offset
abbrev pub going_on : ℕ → Converter → Option RecordingRefusal
going_on at c = if c.phase.due == most_ticks then Some (refusals.Long at) else None

-- what the reader tells goes to the phase, and what is due is told
abbrev pub taken : Result (Option Moment) RecordingRefusal → Converter → Converter
taken (Err refusal) c = c
taken (Ok moment) c = all_told (with_moment moment c)

abbrev pub taken_text : Result (Option Moment) RecordingRefusal → Converter → List ℕ
taken_text (Err refusal) c = []
taken_text (Ok moment) c = due_text (with_moment moment c)

abbrev pub refusal_in : Result (Option Moment) RecordingRefusal → ℕ → Converter → Option RecordingRefusal
refusal_in (Err refusal) at c = Some refusal
refusal_in (Ok moment) at c = going_on at c

abbrev pub with_byte : ℕ → Converter → Converter
with_byte byte c = record c { reader = readers.after byte c.reader }

abbrev pub after_byte : ℕ → Converter → Converter
after_byte byte c = taken (readers.answer byte c.reader) (with_byte byte c)

abbrev pub byte_text : ℕ → Converter → List ℕ
byte_text byte c = taken_text (readers.answer byte c.reader) (with_byte byte c)

-- why the recording is refused with this byte, if it is
abbrev pub byte_refusal : ℕ → Converter → Option RecordingRefusal
byte_refusal byte c = refusal_in (readers.answer byte c.reader) (readers.offset c.reader) (after_byte byte c)

-- ---- bytes in their order: after a refusal none is taken

-- what stands where the recording is refused, and what where it isn't
abbrev pub where_refused : {A : Type 0} → Option RecordingRefusal → A → A → A
where_refused (Some refusal) refused going = refused
where_refused None refused going = going

unfoldable pub after_bytes : List ℕ → Converter → Converter
after_bytes [] c = c
after_bytes (byte ∷ bytes) c = where_refused (byte_refusal byte c) (after_byte byte c) (after_bytes bytes (after_byte byte c))

unfoldable pub bytes_text : List ℕ → Converter → List ℕ
bytes_text [] c = []
bytes_text (byte ∷ bytes) c = byte_text byte c ++ where_refused (byte_refusal byte c) [] (bytes_text bytes (after_byte byte c))

-- why the recording is refused with these bytes, if it is
unfoldable pub bytes_refusal : List ℕ → Converter → Option RecordingRefusal
bytes_refusal [] c = None
bytes_refusal (byte ∷ bytes) c = where_refused (byte_refusal byte c) (byte_refusal byte c) (bytes_refusal bytes (after_byte byte c))

-- ---- the end

abbrev pub with_end : ℕ → Converter → Converter
with_end at c = record c { phase = ended at c.phase }

abbrev pub with_closing : Closing → Converter → Converter
with_closing closing c = with_end closing.end (with_moment closing.moment c)

abbrev pub closed : Result Closing RecordingRefusal → Converter → Converter
closed (Err refusal) c = c
closed (Ok closing) c = all_told (with_closing closing c)

abbrev pub closed_text : Result Closing RecordingRefusal → Converter → List ℕ
closed_text (Err refusal) c = []
closed_text (Ok closing) c = due_text (with_closing closing c)

abbrev pub closed_refusal : Result Closing RecordingRefusal → ℕ → Converter → Option RecordingRefusal
closed_refusal (Err refusal) at c = Some refusal
closed_refusal (Ok closing) at c = going_on at c

abbrev pub with_reader_end : Converter → Converter
with_reader_end c = record c { reader = readers.after_end c.reader }

abbrev pub after_end : Converter → Converter
after_end c = closed (readers.closing c.reader) (with_reader_end c)

abbrev pub end_text : Converter → List ℕ
end_text c = closed_text (readers.closing c.reader) (with_reader_end c)

abbrev pub end_refusal : Converter → Option RecordingRefusal
end_refusal c = closed_refusal (readers.closing c.reader) (readers.offset c.reader) (after_end c)

-- ---- bytes, and after them their end where it was reached

abbrev pub after_part : Bool → List ℕ → Converter → Converter
after_part false bytes c = after_bytes bytes c
after_part true bytes c = after_end (after_bytes bytes c)

abbrev pub part_text : Bool → List ℕ → Converter → List ℕ
part_text false bytes c = bytes_text bytes c
part_text true bytes c = bytes_text bytes c ++ end_text (after_bytes bytes c)

-- why the recording is refused; its end is reached only where no byte was refused
abbrev pub part_refusal : Bool → List ℕ → Converter → Option RecordingRefusal
part_refusal false bytes c = bytes_refusal bytes c
part_refusal true bytes c = end_refusal (after_bytes bytes c)
