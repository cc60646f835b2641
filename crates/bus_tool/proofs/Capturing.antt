-- A run comes to its end, and its capture is written up to there.
use Rattle.std.proofs.Common.{◌≡◌, ℕ, zero, suc, ◌+◌, ◌-◌, ◌<◌, ◌≤◌, true, false, List, [], ◌∷◌, ◌++◌, reverse, map, refl, sym, ◌∙◌, ap, inl, inr}
use Rattle.std.proofs.Common.{subst, arith, append_assoc, append-nil, Option, Some, None, Result, Ok, Err}
use Rattle.std.specs.Prelude.{IsErr}
use Rattle.std.proofs.lemmas.Bool.{cases_lt}
use Rattle.std.proofs.lemmas.Option.{same_Some}
use Rattle.std.proofs.lemmas.List.{reverse-append}
use Rattle.std.specs.Io.KnownBytes.{Appends}
use Rattle.bus_base.specs.declared.samples.Pair.{Pair}
use Rattle.bus_capture.specs.Captures.{ticks_text, header, capture_text}
use Rattle.bus_formats.specs.Plans.{PlanData}
use Rattle.bus_formats.specs.declared.log.Delivery.{Delivery}
use Rattle.bus_law_run.specs.WorldIsRun.{plan_end}
use Rattle.bus_line.specs.declared.cutter.TheConstants.{LAG}
use Rattle.bus_model.specs.World.{world, ticks_on}
use Rattle.bus_outside.specs.Causes.{GrowsByFront}
use Rattle.bus_outside.specs.declared.streams.Failed.{Failed}
use Rattle.bus_outside.proofs.Writes.{appends_then, front_then}
use Rattle.bus_run.specs.Deliveries.{Serves}
use Rattle.bus_run.specs.Stands.{BusStands, FinishedStands, shown_in}
use Rattle.bus_run.specs.declared.bus.Bus.{Bus}
use Rattle.bus_run.specs.declared.finished.FinishedBus.{FinishedBus}
use Rattle.bus_run.proofs.FinishLaws.{within-end}
use Rattle.bus_tool.specs.Captured.{Captured, Captures}
use Rattle.bus_tool.specs.CaptureWriters.{begun_of, CaptureWriterStands, TookTick}
use Rattle.bus_tool.specs.declared.capture_writer.CaptureWriter.{CaptureWriter}
use Rattle.bus_tool.proofs.WrittenLines.{whole-text}

-- ---- the run

-- the ticks before others are the older ones of a world
older : (plan : PlanData) (t n : ℕ) → (newer : List Pair) × (world LAG plan [] [] [] (t + n) ≡ newer ++ world LAG plan [] [] [] t)
unfolding ticks_on
older plan t zero = let same : t + 0 ≡ t = omega arith in ([], rw same refl)
older plan t (suc n) =
    let (newer, is) = older plan t n in
    let same : t + suc n ≡ suc (t + n) = omega arith in
    (shown_in plan (t + n) ∷ newer, rw same (ap (λ l. shown_in plan (t + n) ∷ l) is))

-- what was written after some ticks is a front of the capture after more
front-after : (plan : PlanData) (t m : ℕ) (writer : CaptureWriter) (text : List ℕ) → CaptureWriterStands writer (world LAG plan [] [] [] t) text →
    (rest : List ℕ) × (capture_text (world LAG plan [] [] [] (t + m)) ≡ (header ++ text) ++ rest)
unfolding CaptureWriterStands capture_text
front-after plan t m writer text st =
    let (newer, is) = older plan t m in
    let turned : reverse (world LAG plan [] [] [] (t + m)) ≡ (st.lines ++ begun_of writer) ++ reverse newer =
    ap reverse is ∙ reverse-append newer (world LAG plan [] [] [] t) ∙ ap (λ l. l ++ reverse newer) st.ticks in
    let rest = ticks_text 0 (begun_of writer ++ reverse newer) in (
      rest,
      ap (λ l. header ++ ticks_text 0 l) (turned ∙ append_assoc st.lines (begun_of writer) (reverse newer))
          ∙ ap (λ l. header ++ l) (st.written (begun_of writer ++ reverse newer)) ∙ sym (append_assoc header text rest),
    )

-- so it is a front of the capture of the whole run
front-of : (plan : PlanData) (t : ℕ) (writer : CaptureWriter) (text : List ℕ) → t ≤ plan_end plan →
    CaptureWriterStands writer (world LAG plan [] [] [] t) text →
    (rest : List ℕ) × (capture_text (world LAG plan [] [] [] (plan_end plan)) ≡ (header ++ text) ++ rest)
front-of plan t writer text within st =
    let (rest, is) = front-after plan t (plan_end plan - t) writer text st in
    let there : t + (plan_end plan - t) ≡ plan_end plan = omega (arith, within) in
    (rest, subst (λ n. capture_text (world LAG plan [] [] [] n) ≡ (header ++ text) ++ rest) there is)

failed : (P : Result FinishedBus Failed → Type 0) (r : Result FinishedBus Failed) → IsErr r → ((e : Failed) → P (Err e)) → P r
failed P (Ok left) is f = (let no : false ≡ true = is in cc)
failed P (Err e) is f = f e

-- nothing was added
pub keeps : (held : Option (List ℕ)) → Appends held held []
keeps None = tt
keeps (Some bytes) = sym (append-nil bytes)

-- a write of the next tick failed
pub fails-taking : {T : Type 0} (plan : PlanData) (held0 held1 held2 : Option (List ℕ)) (bus : Bus) (writer writer' : CaptureWriter)
    (before told : List (Option (List Delivery))) (spare : List ℕ) (e : Failed) (r : Result FinishedBus Failed)
    (so : Captures plan held0 held1 bus writer before told spare) → IsErr r → so.ticks < plan_end plan →
    TookTick {T = T} {E = Failed} held1 held2 (Err e) writer' (world LAG plan [] [] [] (suc so.ticks)) so.text → Captured plan held0 held2 r
fails-taking plan held0 held1 held2 bus writer writer' before told spare e r so is on took =
    let (rest, seen) = front-of plan (suc so.ticks) writer' (so.text ++ took.piece) (omega (arith, on)) took.stands in
    let whole : capture_text (world LAG plan [] [] [] (plan_end plan)) ≡ (header ++ so.text) ++ (took.piece ++ rest) =
    seen ∙ ap (λ l. l ++ rest) (sym (append_assoc header so.text took.piece)) ∙ append_assoc (header ++ so.text) took.piece rest in
    failed (Captured plan held0 held2) r is (λ _. record {
      wrote = rw whole (front_then held0 held1 held2 (header ++ so.text) took.piece rest so.written took.wrote);
    })

-- a write of the header failed
pub fails-beginning : (plan : PlanData) (held0 held1 : Option (List ℕ)) (r : Result FinishedBus Failed) → IsErr r → GrowsByFront held0 held1 header →
    Captured plan held0 held1 r
unfolding capture_text
fails-beginning plan held0 held1 r is front =
    failed (Captured plan held0 held1) r is (λ _. record {
      wrote = front_then held0 held0 held1 [] header (ticks_text 0 (reverse (world LAG plan [] [] [] (plan_end plan)))) (keeps held0) front;
    })

-- a write of the last line failed
pub fails-ending : (plan : PlanData) (held0 held1 held2 : Option (List ℕ)) (bus : Bus) (writer : CaptureWriter)
    (before told : List (Option (List Delivery))) (spare : List ℕ) (r : Result FinishedBus Failed)
    (so : Captures plan held0 held1 bus writer before told spare) → IsErr r → so.ticks ≡ plan_end plan →
    GrowsByFront held1 held2 (ticks_text 0 (begun_of writer)) →
    Captured plan held0 held2 r
fails-ending plan held0 held1 held2 bus writer before told spare r so is here front =
    let text = ticks_text 0 (begun_of writer) in
    let whole : capture_text (world LAG plan [] [] [] (plan_end plan)) ≡ (header ++ so.text) ++ (text ++ []) =
    ap (λ n. capture_text (world LAG plan [] [] [] n)) (sym here)
    ∙ whole-text writer (world LAG plan [] [] [] so.ticks) so.text so.lines ∙ ap (λ l. (header ++ so.text) ++ l) (sym (append-nil text)) in
    failed (Captured plan held0 held2) r is (λ _. record {
      wrote = rw whole (front_then held0 held1 held2 (header ++ so.text) text [] so.written front);
    })

-- all was written
pub ends-whole : (plan : PlanData) (held0 held1 held2 : Option (List ℕ)) (bus : Bus) (writer : CaptureWriter)
    (before told : List (Option (List Delivery))) (spare : List ℕ) (left : FinishedBus)
    (so : Captures plan held0 held1 bus writer before told spare) → so.ticks ≡ plan_end plan → Appends held1 held2 (ticks_text 0 (begun_of writer)) →
    FinishedStands plan left → Captured {E = Failed} plan held0 held2 (Ok left)
ends-whole plan held0 held1 held2 bus writer before told spare left so here added finished =
    let text = ticks_text 0 (begun_of writer) in
    let whole : capture_text (world LAG plan [] [] [] (plan_end plan)) ≡ (header ++ so.text) ++ text =
    ap (λ n. capture_text (world LAG plan [] [] [] n)) (sym here) ∙ whole-text writer (world LAG plan [] [] [] so.ticks) so.text so.lines in
    record { wrote = (finished, rw whole (appends_then held0 held1 held2 (header ++ so.text) text so.written added)) }

-- the header was written, and no tick ran
pub begins-capture : (plan : PlanData) (held0 held1 : Option (List ℕ)) (bus : Bus) (writer : CaptureWriter)
    (before told : List (Option (List Delivery))) (spare : List ℕ) → BusStands plan 0 bus → Serves plan before [] told spare →
    CaptureWriterStands writer [] [] →
    Appends held0 held1 header → Captures plan held0 held1 bus writer before told spare
unfolding ticks_on
begins-capture plan held0 held1 bus writer before told spare stands serves lines written = record {
  ticks = 0;
  stands = stands;
  serves = serves;
  text = [];
  lines = lines;
  written = subst (λ l. Appends held0 held1 l) (sym (append-nil header)) written;
}

-- a tick was written
pub goes-on-capture : {T : Type 0} (plan : PlanData) (held0 held1 held2 : Option (List ℕ)) (bus bus' : Bus) (writer writer' : CaptureWriter)
    (before told told' : List (Option (List Delivery))) (spare spare' : List ℕ) (done : T)
    (so : Captures plan held0 held1 bus writer before told spare) → BusStands plan (suc so.ticks) bus' →
    Serves plan before (world LAG plan [] [] [] (suc so.ticks)) told' spare' →
    TookTick {T = T} {E = Failed} held1 held2 (Ok done) writer' (world LAG plan [] [] [] (suc so.ticks)) so.text →
    Captures plan held0 held2 bus' writer' before told' spare'
goes-on-capture plan held0 held1 held2 bus bus' writer writer' before told told' spare spare' done so stands serves took = record {
  ticks = suc so.ticks;
  stands = stands;
  serves = serves;
  text = so.text ++ took.piece;
  lines = took.stands;
  written = subst (λ l. Appends held0 held2 l) (append_assoc header so.text took.piece)
      (appends_then held0 held1 held2 (header ++ so.text) took.piece so.written took.wrote);
}

-- the objects of a run that has ended stay
pub serves-still : {X : Type 0} (tells : X → Option (List Delivery)) (room : X → ℕ) (plan : PlanData) (before : List (Option (List Delivery)))
    (past : List Pair) (objects objects' : List X) → objects' ≡ objects → Serves plan before past (map tells objects) (map room objects) →
    Serves plan before past (map tells objects') (map room objects')
serves-still tells room plan before past objects objects' same serves = rw same serves

-- ---- one turn

module _ {Rest : Type 0} (plan : PlanData) (t : ℕ) (bus bus' : Bus) (result : Option Pair) (stands : BusStands plan t bus)
    (ended : t ≡ plan_end plan → (result ≡ None) × (bus' ≡ bus) × Rest)
    (runs : t < plan_end plan → (result ≡ Some (shown_in plan t)) × BusStands plan (suc t) bus') where
  -- a tick that was answered is the next one of the run
  pub tick-ran : (shown : Pair) → result ≡ Some shown → (t < plan_end plan) × (shown ≡ shown_in plan t) × BusStands plan (suc t) bus'
  tick-ran shown is = elim (cases_lt t (plan_end plan)) [
    | inl early ↦ (early, same_Some shown (shown_in plan t) (sym is ∙ (runs early).0), (runs early).1)
    | inr late ↦
        let within = within-end plan t bus stands in
        let here : t ≡ plan_end plan = omega (arith, within, late) in
        let no : Some shown ≡ None = sym is ∙ (ended here).0 in cc
  ]

  -- and where none was, the run has ended
  pub tick-ended : result ≡ None → (t ≡ plan_end plan) × (bus' ≡ bus) × Rest
  tick-ended is = elim (cases_lt t (plan_end plan)) [
    | inl early ↦ (let no : Some (shown_in plan t) ≡ None = sym (runs early).0 ∙ is in cc)
    | inr late ↦
        let within = within-end plan t bus stands in
        let here : t ≡ plan_end plan = omega (arith, within, late) in
        (here, (ended here).1, (ended here).2)
  ]

-- a writer that took a tick shown in this plan's world stands for one tick more
pub took-next : {T E : Type 0} (plan : PlanData) (t : ℕ) (held0 held1 : Option (List ℕ)) (result : Result T E) (writer : CaptureWriter) (shown : Pair)
    (text : List ℕ) →
    shown ≡ shown_in plan t → TookTick held0 held1 result writer (shown ∷ world LAG plan [] [] [] t) text →
    TookTick held0 held1 result writer (world LAG plan [] [] [] (suc t)) text
unfolding ticks_on
took-next plan t held0 held1 result writer shown text is took = rw is at took
