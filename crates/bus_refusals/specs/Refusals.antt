-- What every program writes that refuses its words or a capture, and the status that it ends with.
use Rattle.std.specs.Prelude.{◌≡◌, ℕ, ◌⊎◌, List, ◌++◌, codes, Option}
use Rattle.std.specs.Io.KnownBytes.{Appends}
use Rattle.bus_capture.specs.declared.refusal.CaptureRefusal.{CaptureRefusal}
use Rattle.bus_capture.specs.declared.refusal.CaptureRefusal.TheVariants.{Header, Byte, HalfTick, Long}
use Rattle.bus_outside.specs.Causes.{Rose, GrowsByFront}
use Rattle.bus_text.specs.Texts.{line, number}

-- words that mean nothing
abbrev pub words_refused : List ℕ
words_refused = line (codes "words refused")

-- the name and the offset of a refused capture's first wrong byte
abbrev pub capture_refusal_text : CaptureRefusal → List ℕ
capture_refusal_text (Header offset) = codes " header" ++ number offset
capture_refusal_text (Byte offset) = codes " byte" ++ number offset
capture_refusal_text (HalfTick offset) = codes " half-tick" ++ number offset
capture_refusal_text (Long offset) = codes " long" ++ number offset

abbrev pub capture_refusal_line : CaptureRefusal → List ℕ
capture_refusal_line refusal = line (codes "capture refused" ++ capture_refusal_text refusal)

module _ (held0 held1 : Option (List ℕ)) (sink0 sink1 : ℕ) (status : ℕ) where
  -- the text was written whole with this status, or a front of it with 5, where the sink failed
  abbrev pub WroteDue : ℕ → List ℕ → Type 0
  WroteDue done text = ((status ≡ done) × Appends held0 held1 text) ⊎ ((status ≡ 5) × Rose sink0 sink1 × GrowsByFront held0 held1 text)
