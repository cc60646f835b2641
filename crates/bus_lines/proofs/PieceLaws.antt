-- What the bytes of a recording come to one after the other, and a piece of them.
use Rattle.std.proofs.Common.{◌≡◌, ℕ, zero, suc, ◌+◌, ◌<◌, ◌≤◌, List, [], ◌∷◌, ◌++◌, length, refl, ap, sym, ◌∙◌, arith, append_assoc, Option, Some, None, Result, Ok, Err}
use Rattle.std.specs.Prelude.{Bool, true, false, if◌then◌else◌, nat_le}
use Rattle.bus_lines.specs.Converting.{with_byte, with_moment, after_told, after_one, ticks_due, taken, after_byte, byte_text, byte_refusal, refusal_in, where_refused, after_bytes, bytes_text, bytes_refusal}
use Rattle.bus_lines.specs.Readers as readers
use Rattle.bus_lines.specs.declared.converter.Converter.{Converter}
use Rattle.bus_lines.specs.declared.reader.RecordingReader.{RecordingReader}
use Rattle.bus_lines.specs.declared.reader.RecordingReader.TheVariants.{Vcd, Rows}
use Rattle.bus_recording.specs.Vcd as vcd
use Rattle.bus_recording.specs.Rows as rows_of
use Rattle.bus_recording.specs.declared.moment.Moment.{Moment}
use Rattle.bus_recording.specs.declared.refusal.RecordingRefusal.{RecordingRefusal}
use Rattle.bus_recording.specs.declared.refusal.RecordingRefusal.TheVariants as refusals
use Rattle.bus_recording.specs.declared.rows.RowReader.{RowReader}
use Rattle.bus_recording.specs.declared.rows.Rows as row_places
use Rattle.bus_recording.specs.declared.rows.Rows.TheVariants as row
use Rattle.bus_recording.specs.declared.vcd.Place.{Place}
use Rattle.bus_recording.specs.declared.vcd.Place.TheVariants as place
use Rattle.bus_recording.specs.declared.vcd.VcdReader.{VcdReader}

-- ---- some bytes, and then more

-- neither a first refusal nor a later one
none_of : (o p : Option RecordingRefusal) → where_refused o o p ≡ None → (o ≡ None) × (p ≡ None)
none_of None p none = (refl, none)
none_of (Some refusal) p none = absurd (cc)

-- what more bytes add after some
pub record Joins (xs ys : List ℕ) (c : Converter) : Type 0 where
  pub state : after_bytes (xs ++ ys) c ≡ after_bytes ys (after_bytes xs c)
  pub text : bytes_text (xs ++ ys) c ≡ bytes_text xs c ++ bytes_text ys (after_bytes xs c)
  pub refusal : bytes_refusal (xs ++ ys) c ≡ bytes_refusal ys (after_bytes xs c)

-- a byte that isn't refused, and more
pub state_on : (byte : ℕ) (bytes : List ℕ) (c : Converter) → byte_refusal byte c ≡ None → after_bytes (byte ∷ bytes) c ≡ after_bytes bytes (after_byte byte c)
unfolding after_bytes
state_on byte bytes c none = ap (λ (o : Option RecordingRefusal). where_refused o (after_byte byte c) (after_bytes bytes (after_byte byte c))) none

pub text_on : (byte : ℕ) (bytes : List ℕ) (c : Converter) → byte_refusal byte c ≡ None →
    bytes_text (byte ∷ bytes) c ≡ byte_text byte c ++ bytes_text bytes (after_byte byte c)
unfolding bytes_text
text_on byte bytes c none = ap (λ (o : Option RecordingRefusal). byte_text byte c ++ where_refused o [] (bytes_text bytes (after_byte byte c))) none

pub refusal_on : (byte : ℕ) (bytes : List ℕ) (c : Converter) → byte_refusal byte c ≡ None → bytes_refusal (byte ∷ bytes) c ≡ bytes_refusal bytes (after_byte byte c)
unfolding bytes_refusal
refusal_on byte bytes c none = ap (λ (o : Option RecordingRefusal). where_refused o o (bytes_refusal bytes (after_byte byte c))) none

none_in : (byte : ℕ) (bytes : List ℕ) (c : Converter) → bytes_refusal (byte ∷ bytes) c ≡ None →
    (byte_refusal byte c ≡ None) × (bytes_refusal bytes (after_byte byte c) ≡ None)
unfolding bytes_refusal
none_in byte bytes c none = none_of (byte_refusal byte c) (bytes_refusal bytes (after_byte byte c)) none

pub joins : (xs ys : List ℕ) (c : Converter) → bytes_refusal xs c ≡ None → Joins xs ys c
unfolding after_bytes bytes_text bytes_refusal
joins [] ys c none = record { state = refl; text = refl; refusal = refl }
joins (x ∷ xs) ys c none =
    let both = none_in x xs c none in
    let rest = joins xs ys (after_byte x c) both.1 in
    let here : after_bytes (x ∷ xs) c ≡ after_bytes xs (after_byte x c) = state_on x xs c both.0 in
    record {
      state = state_on x (xs ++ ys) c both.0 ∙ rest.state ∙ ap (λ (d : Converter). after_bytes ys d) (sym here);
      text =
          text_on x (xs ++ ys) c both.0
          ∙ ap (λ (l : List ℕ). byte_text x c ++ l) rest.text
          ∙ sym (append_assoc (byte_text x c) (bytes_text xs (after_byte x c)) (bytes_text ys (after_bytes xs (after_byte x c))))
          ∙ ap (λ (l : List ℕ). l ++ bytes_text ys (after_bytes xs (after_byte x c))) (sym (text_on x xs c both.0))
          ∙ ap (λ (d : Converter). bytes_text (x ∷ xs) c ++ bytes_text ys d) (sym here);
      refusal = refusal_on x (xs ++ ys) c both.0 ∙ rest.refusal ∙ ap (λ (d : Converter). bytes_refusal ys d) (sym here);
    }

-- ---- a recording that isn't refused is short

reader_told : (n : ℕ) (c : Converter) → (after_told n c).reader ≡ c.reader
unfolding after_told
reader_told zero c = refl
reader_told (suc n) c = reader_told n (after_one c)

reader_moment : (moment : Option Moment) (c : Converter) → (with_moment moment c).reader ≡ c.reader
reader_moment None c = refl
reader_moment (Some moment) c = refl

reader_taken : (answer : Result (Option Moment) RecordingRefusal) (c : Converter) → (taken answer c).reader ≡ c.reader
reader_taken (Err refusal) c = refl
reader_taken (Ok moment) c = reader_told (ticks_due (with_moment moment c)) (with_moment moment c) ∙ reader_moment moment c

-- what a refused reader answers
dump_refused : (p : Place) (moment m : Option Moment) → vcd.is_refused p ≡ true → vcd.answer_of p moment ≡ Ok m → ⊥
dump_refused place.Head moment m is answer = cc
dump_refused place.Scale moment m is answer = cc
dump_refused place.Variable moment m is answer = cc
dump_refused place.Section moment m is answer = cc
dump_refused place.Definitions moment m is answer = cc
dump_refused place.Body moment m is answer = cc
dump_refused place.Identifier moment m is answer = cc
dump_refused place.Comment moment m is answer = cc
dump_refused (place.Refused refusal) moment m is answer = cc

rows_refused : (p : row_places.Rows) (moment m : Option Moment) → rows_of.is_refused p ≡ true → rows_of.answer_of p moment ≡ Ok m → ⊥
rows_refused row.Before moment m is answer = cc
rows_refused row.Within moment m is answer = cc
rows_refused row.Over moment m is answer = cc
rows_refused (row.Refused refusal) moment m is answer = cc

-- a byte that is answered is counted, and isn't past the most
dump_counts : (byte : ℕ) (r : VcdReader) (m : Option Moment) (refused full : Bool) → vcd.is_refused r.place ≡ refused → nat_le vcd.text_limit r.at ≡ full →
    vcd.answer_of
    (if refused then r else if full then vcd.refused (refusals.Long r.at) r else vcd.counted r.at (vcd.byte_taken byte r)).place
    (if refused then None else if full then None else vcd.moment_taken byte r) ≡ Ok m →
    ((if refused then r else if full then vcd.refused (refusals.Long r.at) r else vcd.counted r.at (vcd.byte_taken byte r)).at ≡ suc r.at) × (r.at < vcd.text_limit)
dump_counts byte r m true full is here answer = absurd (dump_refused r.place None m is answer)
dump_counts byte r m false true is here answer = absurd (cc)
dump_counts byte r m false false is here answer = (omega arith, grind (arith, here))

rows_count : (byte : ℕ) (r : RowReader) (m : Option Moment) (refused full : Bool) → rows_of.is_refused r.rows ≡ refused → nat_le rows_of.text_limit r.at ≡ full →
    rows_of.answer_of
    (if refused then r else if full then rows_of.refused (refusals.Long r.at) r else rows_of.counted r.at (rows_of.byte_taken byte r)).rows
    (if refused then None else if full then None else rows_of.moment_taken byte r) ≡ Ok m →
    ((if refused then r else if full then rows_of.refused (refusals.Long r.at) r else rows_of.counted r.at (rows_of.byte_taken byte r)).at ≡ suc r.at) × (r.at < vcd.text_limit)
rows_count byte r m true full is here answer = absurd (rows_refused r.rows None m is answer)
rows_count byte r m false true is here answer = absurd (cc)
rows_count byte r m false false is here answer = (omega arith, grind (arith, here))

counts : (byte : ℕ) (r : RecordingReader) (m : Option Moment) → readers.answer byte r ≡ Ok m →
    (readers.offset (readers.after byte r) ≡ suc (readers.offset r)) × (readers.offset r < vcd.text_limit)
counts byte (Vcd r) m answer = dump_counts byte r m (vcd.is_refused r.place) (nat_le vcd.text_limit r.at) refl refl answer
counts byte (Rows r) m answer = rows_count byte r m (rows_of.is_refused r.rows) (nat_le rows_of.text_limit r.at) refl refl answer

-- a byte that isn't refused was answered
answered : (answer : Result (Option Moment) RecordingRefusal) (at : ℕ) (c : Converter) → refusal_in answer at c ≡ None → (m : Option Moment) × (answer ≡ Ok m)
answered (Err refusal) at c none = absurd (cc)
answered (Ok moment) at c none = (moment, refl)

byte_counts : (byte : ℕ) (c : Converter) → byte_refusal byte c ≡ None →
    (readers.offset (after_byte byte c).reader ≡ suc (readers.offset c.reader)) × (readers.offset c.reader < vcd.text_limit)
byte_counts byte c none =
    let is = answered (readers.answer byte c.reader) (readers.offset c.reader) (after_byte byte c) none in
    let one = counts byte c.reader is.0 is.1 in
    (ap readers.offset (reader_taken (readers.answer byte c.reader) (with_byte byte c)) ∙ one.0, one.1)

bytes_count : (bytes : List ℕ) (c : Converter) → bytes_refusal bytes c ≡ None → readers.offset c.reader ≤ vcd.text_limit →
    readers.offset c.reader + length bytes ≤ vcd.text_limit
bytes_count [] c none few = omega (arith, few)
bytes_count (byte ∷ bytes) c none few =
    let both = none_in byte bytes c none in
    let one = byte_counts byte c both.0 in
    let counted : readers.offset (after_byte byte c).reader ≡ suc (readers.offset c.reader) = one.0 in
    let below : readers.offset c.reader < vcd.text_limit = one.1 in
    let rest : readers.offset (after_byte byte c).reader + length bytes ≤ vcd.text_limit = bytes_count bytes (after_byte byte c) both.1 (omega (arith, counted, below)) in
    omega (arith, counted, rest)

pub few_bytes : (bytes : List ℕ) (c : Converter) → bytes_refusal bytes c ≡ None → length bytes ≤ vcd.text_limit
few_bytes [] c none = omega arith
few_bytes (byte ∷ bytes) c none =
    let below : readers.offset c.reader < vcd.text_limit = (byte_counts byte c (none_in byte bytes c none).0).1 in
    let rest : readers.offset c.reader + length (byte ∷ bytes) ≤ vcd.text_limit = bytes_count (byte ∷ bytes) c none (omega (arith, below)) in
    omega (arith, rest)
