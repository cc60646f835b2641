-- A reader of captures: for which bytes it stands.
use Rattle.std.specs.Prelude.{◌≡◌, ℕ, ◌+◌, ◌-◌, ◌^◌, min, Bool, true, false, List, length, Option, Some, None}
use Rattle.bus_base.specs.declared.samples.Pair.{Pair}
use Rattle.bus_capture.specs.Readings.{place_after, ticks_in, one_byte}
use Rattle.bus_capture.specs.declared.reader.CaptureReader.{CaptureReader}
use Rattle.bus_capture.specs.declared.reader.Place.{Place}
use Rattle.bus_capture.specs.declared.reader.Place.TheVariants.{Refused}

abbrev pub is_refused : Place → Bool
is_refused (Refused refusal) = true
is_refused _ = false

-- the reader stands for these bytes, the newest first; after a refusal its count of bytes says nothing
pub record ReaderStands (reader : CaptureReader) (bytes : List ℕ) : Type 0 where
  pub place : reader.place ≡ place_after bytes
  pub ticks : reader.ticks ≡ length (ticks_in bytes)
  pub at : is_refused (place_after bytes) ≡ false → reader.at ≡ length bytes

-- ---- steps of the code

-- one more, up to the most that a count holds
abbrev pub one_more : ℕ → ℕ → ℕ
one_more count n = min (count + n) (2 ^ 64 - 1)

abbrev pub tick_count : Option Pair → ℕ
tick_count (Some tick) = 1
tick_count None = 0

abbrev pub after_byte : CaptureReader → ℕ → CaptureReader
after_byte reader byte = record {
  place = (one_byte reader.at byte reader.place).place;
  at = one_more reader.at 1;
  ticks = one_more reader.ticks (tick_count (one_byte reader.at byte reader.place).tick);
}
