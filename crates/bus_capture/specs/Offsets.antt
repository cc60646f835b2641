-- What may stand at each offset of a capture text, said of the bytes and their offsets alone (docs/CAPTURE.md).
use Rattle.std.specs.Prelude.{◌≡◌, ℕ, ◌<◌, ◌≤◌, ◌%◌, ◌==◌, ◌&&◌, ◌||◌, nat_lt, if◌then◌else◌, Bool, true, false, List, [], ◌∷◌, length, reverse, take, drop, get_or, Option, Some, None, is_some, Result, Ok, Err}
use Rattle.std.specs.List.{filter_map}
use Rattle.bus_base.specs.declared.samples.Sample.{Sample}
use Rattle.bus_base.specs.declared.samples.Pair.{Pair}
use Rattle.bus_capture.specs.Captures.{line_feed, header}
use Rattle.bus_capture.specs.Readings.{text_limit, sample_of, Capture}
use Rattle.bus_capture.specs.declared.refusal.CaptureRefusal.{CaptureRefusal}
use Rattle.bus_capture.specs.declared.refusal.CaptureRefusal.TheVariants.{Header, Byte, HalfTick, Long}

-- the samples that stand before an offset, in their order; the header has none
abbrev pub samples_before : List ℕ → ℕ → List Sample
samples_before text n = filter_map sample_of (drop (length header) (take n text))

-- whether the ticks before an offset are whole: each has two samples
abbrev pub is_whole : List ℕ → ℕ → Bool
is_whole text n = length (samples_before text n) % 2 == 0

-- whether a byte may stand at an offset: the header's byte there; after the header, within the limit, a sample,
-- or a line feed where the ticks before it are whole
abbrev pub fits : ℕ → Bool → ℕ → Bool
fits n whole byte =
    if nat_lt n (length header) then byte == get_or header n 0
    else nat_lt n text_limit && (is_some (sample_of byte) || ((byte == line_feed) && whole))

-- whether the byte at an offset of a text may stand there
abbrev pub may_stand : List ℕ → ℕ → Bool
may_stand text n = fits n (is_whole text n) (get_or text n 0)

-- the text is good as far as this offset: the least at which a byte stands that may not stand there, or else the text's end
pub record IsGoodTo (text : List ℕ) (n : ℕ) : Type 0 where
  pub within : n ≤ length text
  pub before : (m : ℕ) → m < n → may_stand text m ≡ true
  pub wrong : n < length text → may_stand text n ≡ false

-- why a byte that may not stand at an offset is refused
abbrev pub refusal_of_byte : ℕ → CaptureRefusal
refusal_of_byte n =
    if nat_lt n (length header) then Header n
    else if nat_lt n text_limit then Byte n
    else Long n

-- why a text is refused that is good to its end at this offset, if it is
abbrev pub refusal_of_end : ℕ → Bool → Option CaptureRefusal
refusal_of_end n whole =
    if nat_lt n (length header) then Some (Header n)
    else if whole then None
    else Some (HalfTick n)

-- why a text is refused that is good as far as this offset, if it is
abbrev pub refusal_at : List ℕ → ℕ → Option CaptureRefusal
refusal_at text n = if nat_lt n (length text) then Some (refusal_of_byte n) else refusal_of_end n (is_whole text n)

-- the ticks that samples are, two for each, A before B; one that is left over is none
abbrev pub pairs_of : List Sample → List Pair
pairs_of [] = []
pairs_of (a ∷ []) = []
pairs_of (a ∷ b ∷ rest) = record { a = a; b = b } ∷ pairs_of rest

abbrev pub ended_by : Option CaptureRefusal → ℕ → Result ℕ CaptureRefusal
ended_by (Some refusal) ticks = Err refusal
ended_by None ticks = Ok ticks

-- the capture of a text that is good as far as this offset, its ticks with the newest first
abbrev pub capture_to : List ℕ → ℕ → Capture
capture_to text n = record {
  ticks = reverse (pairs_of (samples_before text n));
  ended = ended_by (refusal_at text n) (length (pairs_of (samples_before text n)));
}
