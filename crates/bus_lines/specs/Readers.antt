-- The text of a recording, in either form: what each byte does, and its end.
use Rattle.std.specs.Prelude.{ℕ, ◌==◌, if◌then◌else◌, List, [], Option, Some, Result, Ok, Err}
use Rattle.bus_recording.specs.Vcd as vcd
use Rattle.bus_recording.specs.Rows as rows
use Rattle.bus_recording.specs.declared.moment.Moment.{Moment}
use Rattle.bus_recording.specs.declared.refusal.RecordingRefusal.{RecordingRefusal}
use Rattle.bus_recording.specs.declared.rows.RowReader.{RowReader}
use Rattle.bus_recording.specs.declared.vcd.VcdReader.{VcdReader}
use Rattle.bus_recording.specs.declared.wires.Wires.{Wires}
use Rattle.bus_lines.specs.declared.reader.RecordingReader.{RecordingReader}
use Rattle.bus_lines.specs.declared.reader.RecordingReader.TheVariants.{Vcd, Rows}
use Rattle.bus_lines.specs.declared.reader.Closing.{Closing}

abbrev pub after : ℕ → RecordingReader → RecordingReader
after byte (Vcd r) = Vcd (vcd.after_byte byte r)
after byte (Rows r) = Rows (rows.after_byte byte r)

-- the moment that a byte ends, if it ends one; or the first refusal
abbrev pub answer : ℕ → RecordingReader → Result (Option Moment) RecordingRefusal
answer byte (Vcd r) = vcd.answer_of (vcd.after_byte byte r).place (vcd.moment_after byte r)
answer byte (Rows r) = rows.answer_of (rows.after_byte byte r).rows (rows.moment_after byte r)

-- the bytes so far
abbrev pub offset : RecordingReader → ℕ
offset (Vcd r) = r.at
offset (Rows r) = r.at

-- ---- the end

-- a dump ends at its last time
abbrev pub closing_at : ℕ → Result Moment RecordingRefusal → Result Closing RecordingRefusal
closing_at end (Err refusal) = Err refusal
closing_at end (Ok moment) = Ok (record { moment = Some moment; end = end })

abbrev pub after_dump : VcdReader → VcdReader
after_dump r = vcd.token_ended r

abbrev pub closing_of_dump : VcdReader → Result Closing RecordingRefusal
closing_of_dump r = closing_at (after_dump r).time (vcd.end_in (after_dump r).place (vcd.moment_ended r) (after_dump r))

-- rows end a step after the last
abbrev pub closing_by : ℕ → Result (Option Moment) RecordingRefusal → Result Closing RecordingRefusal
closing_by end (Err refusal) = Err refusal
closing_by end (Ok moment) = Ok (record { moment = moment; end = end })

abbrev pub after_rows : RowReader → RowReader
after_rows r = rows.after_end r

abbrev pub closing_of_rows : RowReader → Result Closing RecordingRefusal
closing_of_rows r = closing_by (rows.end_time (after_rows r)) (rows.answer_of (after_rows r).rows (rows.last_moment r))

abbrev pub after_end : RecordingReader → RecordingReader
after_end (Vcd r) = Vcd (after_dump r)
after_end (Rows r) = Rows (after_rows r)

abbrev pub closing : RecordingReader → Result Closing RecordingRefusal
closing (Vcd r) = closing_of_dump r
closing (Rows r) = closing_of_rows r

-- ---- names

abbrev pub name_in : ℕ → Wires → List ℕ
name_in line w =
    if line == 0 then w.a_plus.name.items
    else if line == 1 then w.a_minus.name.items
    else if line == 2 then w.b_plus.name.items
    else w.b_minus.name.items

abbrev pub line_name : ℕ → RecordingReader → List ℕ
line_name line (Vcd r) = name_in line r.wires
line_name line (Rows r) = []
