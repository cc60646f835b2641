-- For which ticks a writer of a capture stands, and which text was written of them.
use Rattle.std.specs.Prelude.{◌≡◌, ℕ, ◌<◌, List, ◌++◌, length, reverse, take, Option, Result}
use Rattle.bus_base.specs.declared.samples.Pair.{Pair}
use Rattle.bus_capture.specs.Captures.{ticks_text}
use Rattle.bus_outside.specs.Causes.{WriteAdds}
use Rattle.bus_tool.specs.declared.capture_writer.CaptureWriter.{CaptureWriter}

-- the ticks of the line that is begun
abbrev pub begun_of : CaptureWriter → List Pair
begun_of writer = take writer.begun writer.line

-- the ticks in their order are those of the lines that were written and those of the line that is begun
pub record Stands (writer : CaptureWriter) (past : List Pair) (text : List ℕ) : Type 0 where
  pub long : length writer.line ≡ 64
  pub few : writer.begun < 64
  pub lines : List Pair
  pub ticks : reverse past ≡ lines ++ begun_of writer
  pub written : (later : List Pair) → ticks_text 0 (lines ++ later) ≡ text ++ ticks_text 0 later

-- the writer stands for what the channels showed, and wrote this text of it, the header left out
unfoldable pub CaptureWriterStands : CaptureWriter → List Pair → List ℕ → Type 0
CaptureWriterStands writer past text = Stands writer past text

-- a tick was taken, and a piece of text was written, or a front of it where the sink failed
pub record TookTick {T E : Type 0} (held0 held1 : Option (List ℕ)) (result : Result T E) (writer : CaptureWriter) (past : List Pair)
    (text : List ℕ) : Type 0 where
  pub piece : List ℕ
  pub wrote : WriteAdds held0 held1 result piece
  pub stands : CaptureWriterStands writer past (text ++ piece)
