-- A capture is written line by line.
use Rattle.std.proofs.Common.{◌≡◌, ℕ, ◌+◌, ◌<◌, ◌≤◌, List, [], ◌∷◌, ◌++◌, length, reverse, set, refl, sym, ◌∙◌, ap, arith, append_assoc, append-nil}
use Rattle.std.proofs.lemmas.List.{reverse-append, length-set, length-take, take_more_set}
use Rattle.bus_base.specs.declared.samples.Pair.{Pair}
use Rattle.bus_capture.specs.Captures.{ticks_text, header, capture_text}
use Rattle.bus_capture.proofs.WriterLaws.{whole-line}
use Rattle.bus_tool.specs.CaptureWriters.{begun_of, Stands, CaptureWriterStands}
use Rattle.bus_tool.specs.declared.capture_writer.CaptureWriter.{CaptureWriter}

-- the line that is begun, with one tick more
one-more : (writer writer' : CaptureWriter) (shown : Pair) {past : List Pair} {text : List ℕ} → Stands writer past text →
    writer'.line ≡ set writer.line writer.begun shown → writer'.begun ≡ writer.begun + 1 → begun_of writer' ≡ begun_of writer ++ shown ∷ []
one-more writer writer' shown st line count =
    let long = st.long in
    let few = st.few in
    rw (count, line) (take_more_set writer.line writer.begun shown (omega (arith, long, few)))

-- the ticks in their order, with one more
turned : (writer : CaptureWriter) (shown : Pair) (past lines : List Pair) → reverse past ≡ lines ++ begun_of writer →
    reverse (shown ∷ past) ≡ lines ++ (begun_of writer ++ shown ∷ [])
turned writer shown past lines is = reverse-append (shown ∷ []) past ∙ ap (λ l. l ++ shown ∷ []) is ∙ append_assoc lines (begun_of writer) (shown ∷ [])

-- no line is begun at first
pub nothing-begun : (writer : CaptureWriter) → length writer.line ≡ 64 → writer.begun ≡ 0 → CaptureWriterStands writer [] []
unfolding CaptureWriterStands
nothing-begun writer long none =
    record { long = long; few = omega (arith, none); lines = []; ticks = rw none refl; written = λ later. refl }

-- of a tick that fills no line nothing is written
pub stays-begun : (writer writer' : CaptureWriter) (shown : Pair) (past : List Pair) (text : List ℕ) → CaptureWriterStands writer past text →
    writer'.line ≡ set writer.line writer.begun shown → writer'.begun ≡ writer.begun + 1 → writer'.begun < 64 →
    CaptureWriterStands writer' (shown ∷ past) (text ++ [])
unfolding CaptureWriterStands
stays-begun writer writer' shown past text st line count few =
    let line-is : begun_of writer' ≡ begun_of writer ++ shown ∷ [] = one-more writer writer' shown st line count in
    record {
      long = ap length line ∙ length-set writer.line writer.begun shown ∙ st.long;
      few = few;
      lines = st.lines;
      ticks = turned writer shown past st.lines st.ticks ∙ ap (λ l. st.lines ++ l) (sym line-is);
      written = λ later. st.written later ∙ ap (λ l. l ++ ticks_text 0 later) (sym (append-nil text));
    }

-- of a tick that fills one the line is written, and the next one begins
pub begins-next : (writer middle writer' : CaptureWriter) (shown : Pair) (past : List Pair) (text : List ℕ) → CaptureWriterStands writer past text →
    middle.line ≡ set writer.line writer.begun shown → middle.begun ≡ writer.begun + 1 → 64 ≤ middle.begun → writer'.line ≡ middle.line → writer'.begun ≡ 0 →
    CaptureWriterStands writer' (shown ∷ past) (text ++ ticks_text 0 (begun_of middle))
unfolding CaptureWriterStands
begins-next writer middle writer' shown past text st line count many same empty =
    let line-is : begun_of middle ≡ begun_of writer ++ shown ∷ [] = one-more writer middle shown st line count in
    let long : length middle.line ≡ 64 = ap length line ∙ length-set writer.line writer.begun shown ∙ st.long in
    let few = st.few in
    let full : length (begun_of middle) ≡ 64 = length-take middle.begun middle.line ∙ omega (arith, long, count, few, many) in
    let none : begun_of writer' ≡ [] = rw empty refl in
    record {
      long = ap length same ∙ long;
      few = omega (arith, empty);
      lines = st.lines ++ begun_of middle;
      ticks = turned writer shown past st.lines st.ticks ∙ ap (λ l. st.lines ++ l) (sym line-is)
          ∙ sym (append-nil (st.lines ++ begun_of middle)) ∙ ap (λ l. (st.lines ++ begun_of middle) ++ l) (sym none);
      written = λ later. ap (ticks_text 0) (append_assoc st.lines (begun_of middle) later) ∙ st.written (begun_of middle ++ later)
          ∙ ap (λ l. text ++ l) (whole-line 0 (begun_of middle) later (omega (arith, full)) (omega arith))
          ∙ sym (append_assoc text (ticks_text 0 (begun_of middle)) (ticks_text 0 later));
    }

-- what was written and the line that is begun are the whole text, if it ends here
pub whole-text : (writer : CaptureWriter) (past : List Pair) (text : List ℕ) → CaptureWriterStands writer past text →
    capture_text past ≡ (header ++ text) ++ ticks_text 0 (begun_of writer)
unfolding CaptureWriterStands capture_text
whole-text writer past text st =
    ap (λ l. header ++ ticks_text 0 l) st.ticks ∙ ap (λ l. header ++ l) (st.written (begun_of writer))
    ∙ sym (append_assoc header text (ticks_text 0 (begun_of writer)))

-- the line that is begun has room for a tick
pub few-begun : (writer : CaptureWriter) (past : List Pair) (text : List ℕ) → CaptureWriterStands writer past text → writer.begun < 64
unfolding CaptureWriterStands
few-begun writer past text st = st.few
