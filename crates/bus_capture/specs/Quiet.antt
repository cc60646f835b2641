-- Ticks at the front of a piece of text: what a reader may take at once.
use Rattle.std.specs.Prelude.{◌≡◌, ℕ, ◌+◌, ◌≤◌, ◌==◌, ◌&&◌, ◌||◌, Bool, true, false, if◌then◌else◌, List, [], ◌∷◌, ◌++◌, length, reverse, take, Option, Some, None}
use Rattle.bus_base.specs.Samples.{quiet_pairs}
use Rattle.bus_base.specs.declared.samples.Pair.{Pair}
use Rattle.bus_base.specs.declared.samples.Sample.TheVariants.{Plus, Minus, Quiet}
use Rattle.bus_base.specs.declared.samples.Sample.{Sample}
use Rattle.bus_capture.specs.Readings.{place_after, ticks_in, text_limit, sample_of}
use Rattle.bus_capture.specs.declared.reader.Place.TheVariants.{Between}
use Rattle.bus_capture.specs.declared.reader.FrontRun.{FrontRun}
use Rattle.bus_capture.specs.declared.reader.QuietRun.{QuietRun}

-- these bytes, in their order, are these ticks, the newest first, and line feeds between them, wherever they follow whole ticks in a text
abbrev pub ReadsTicks : List ℕ → List Pair → Type 0
ReadsTicks front ticks = (bytes : List ℕ) → place_after bytes ≡ Between → 15 ≤ length bytes → length bytes + length front ≤ text_limit →
    (place_after (reverse front ++ bytes) ≡ Between) × (ticks_in (reverse front ++ bytes) ≡ ticks ++ ticks_in bytes)

-- they are so many quiet ticks
abbrev pub ReadsQuiet : List ℕ → ℕ → Type 0
ReadsQuiet front ticks = ReadsTicks front (quiet_pairs ticks)

-- a front of a piece that is the front of these ticks, and line feeds
pub record IsFront (piece : List ℕ) (ticks : List Pair) (run : FrontRun) : Type 0 where
  pub within : run.bytes ≤ length piece
  pub room : run.ticks ≤ length ticks
  pub reads : ReadsTicks (take run.bytes piece) (reverse (take run.ticks ticks))

-- a front of a piece that is quiet ticks and line feeds
pub record IsStep (piece : List ℕ) (run : QuietRun) : Type 0 where
  pub within : run.bytes ≤ length piece
  pub few : run.ticks ≤ run.bytes
  pub reads : ReadsQuiet (take run.bytes piece) run.ticks

-- ---- steps of the code

abbrev pub is_stop : ℕ → Bool
is_stop byte = byte == 46

abbrev pub are_stops : List ℕ → Bool
are_stops [] = true
are_stops (byte ∷ bytes) = is_stop byte && are_stops bytes

abbrev pub is_sample : ℕ → Bool
is_sample byte = (byte == 43) || (byte == 45) || (byte == 46)

abbrev pub are_samples : List ℕ → Bool
are_samples [] = true
are_samples (byte ∷ bytes) = is_sample byte && are_samples bytes

-- the sample that a byte writes, if it writes one
abbrev pub level : ℕ → Sample
level byte = if byte == 43 then Plus else if byte == 45 then Minus else Quiet

-- the ticks that bytes write, if all are samples
abbrev pub pairs_in : List ℕ → List Pair
pairs_in [] = []
pairs_in (a ∷ []) = []
pairs_in (a ∷ b ∷ rest) = record { a = level a; b = level b } ∷ pairs_in rest

-- the front is four quiet ticks
abbrev pub four_quiet : List ℕ → Bool
four_quiet (a ∷ b ∷ c ∷ d ∷ e ∷ f ∷ g ∷ h ∷ rest) =
    is_stop a && is_stop b && is_stop c && is_stop d && is_stop e && is_stop f && is_stop g && is_stop h
four_quiet _ = false

abbrev pub pair_of : Option Sample → Option Sample → Option Pair
pair_of (Some a) (Some b) = Some record { a = a; b = b }
pair_of _ _ = None

-- the tick that the first two bytes are, if they are one
abbrev pub tick_front : List ℕ → Option Pair
tick_front (a ∷ b ∷ rest) = pair_of (sample_of a) (sample_of b)
tick_front _ = None

abbrev pub front_of : ℕ → ℕ → FrontRun
front_of bytes ticks = record { bytes = bytes; ticks = ticks }

abbrev pub run_of : ℕ → ℕ → QuietRun
run_of bytes ticks = record { bytes = bytes; ticks = ticks }

-- one quiet tick or one line feed at the front, if there is one
abbrev pub step_in : List ℕ → QuietRun
step_in [] = run_of 0 0
step_in (a ∷ []) = if a == 10 then run_of 1 0 else run_of 0 0
step_in (a ∷ b ∷ rest) = if (a == 46) && (b == 46) then run_of 2 1 else if a == 10 then run_of 1 0 else run_of 0 0
