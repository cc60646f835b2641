-- What `decode` writes of the capture of a plan's run, by the clause of the top call.
use Rattle.std.proofs.Common.{◌≡◌, inl, inr, ℕ, ◌≤◌, ◌<◌, Bool, true, false, List, [], ◌∷◌, ◌++◌, length, reverse, refl, sym, ap, ◌∙◌, subst, arith, append-nil}
use Rattle.std.proofs.lemmas.Bool.Decides.{nat_tests}
use Rattle.std.proofs.lemmas.List.{reverse-append}
use Rattle.std.specs.Prelude.{nat_lt, if◌then◌else◌, flat_map, Option, Some, None, Result, Ok, Err}
use Rattle.std.specs.Io.KnownBytes.{Appends, Consumes, IsAtEnd}
use Rattle.bus_capture.proofs.ReaderLaws.{refused-stays}
use Rattle.bus_capture.specs.Readings.{answer_now, end_after, ticks_in, place_after, tick_now}
use Rattle.bus_capture.specs.declared.refusal.CaptureRefusal.{CaptureRefusal}
use Rattle.bus_formats.specs.Accepted.{IsAccepted}
use Rattle.bus_formats.specs.Plans.{PlanData}
use Rattle.bus_line.specs.declared.cutter.TheConstants.{LAG}
use Rattle.bus_model.specs.Log.{run_log}
use Rattle.bus_monitor.specs.Listings.{word_listing}
use Rattle.bus_monitor.specs.Progress.{word_lines, end_text}
use Rattle.bus_monitor.specs.Scribes.{IsListed, IsRefusedBy}
use Rattle.bus_monitor.specs.declared.listing.Listing.{Listing}
use Rattle.bus_monitor.specs.declared.listing.Listing.TheVariants as listings
use Rattle.bus_plan.proofs.AcceptedLaws.{accepted_result}
use Rattle.bus_plan.specs.PlanOf.{plan_of_bytes}
use Rattle.bus_plan.specs.declared.refusal.PlanRefusal.{PlanRefusal}
use Rattle.bus_law_run.specs.WorldIsRun.{plan_end}
use Rattle.bus_text.specs.Texts.{word_line}
use Rattle.bus_tool.specs.Due.{limit, too_long, input_refusal, refusal_of}
use Rattle.bus_tool.specs.Ends.{ReadsInput, StatusAfter}
use Rattle.bus_tool.specs.Texts.{plan_run, text_of}
use Rattle.bus_tool.specs.declared.text.Text.TheVariants as texts
use Rattle.bus_tool.specs.declared.words.Command.TheVariants as commands
use Rattle.bus_law_readback.proofs.CaptureRead.{never-both, read-end, listing-done}
use Rattle.bus_law_readback.specs.Calls.{Call, EndsAs, AreJoined, ListTheSameWords}

pub clash : (status a b : ℕ) → status ≡ a → status ≡ b → a < b → ⊥
clash status a b low high less = omega (arith, low, high, less)

-- ---- what was read of a stream that told what it had

-- all of it, where nothing is left
pub whole-read : (text : List ℕ) (left : Option (List ℕ)) (input : List ℕ) → Consumes (Some text) left input → IsAtEnd left → input ≡ text
whole-read text None input consumed at = absurd consumed
whole-read text (Some rest) input consumed at = sym (consumed ∙ ap (λ (l : List ℕ). input ++ l) at ∙ append-nil input)

pub from-empty : (held : Option (List ℕ)) (bytes : List ℕ) → Appends (Some []) held bytes → held ≡ Some bytes
from-empty None bytes written = absurd written
from-empty (Some all) bytes written = ap (λ l. Some l) written

not-long : (long : Bool) (other : Option (List ℕ)) → (if long then Some too_long else other) ≡ None → long ≡ false
not-long true other none = cc
not-long false other none = refl

input-short : (input : List ℕ) → input_refusal input ≡ None → length input ≤ limit
input-short input none =
    let low = not-long (nat_lt limit (length input)) (refusal_of (plan_of_bytes input)) none in
    grind (arith, nat_tests, low)

pub input-whole : (text : List ℕ) (left0 left1 : Option (List ℕ)) (input : List ℕ) → left0 ≡ Some text → ReadsInput left0 left1 input → input_refusal input ≡ None →
    input ≡ text
input-whole text left0 left1 input had read none =
    whole-read text left1 input (subst (λ l. Consumes l left1 input) had read.consumed) (read.whole (input-short input none))

-- ---- no front of a text whose end is good is refused

later-refused : (more bytes : List ℕ) (refusal : CaptureRefusal) → answer_now bytes ≡ Err refusal → answer_now (more ++ bytes) ≡ Err refusal
later-refused [] bytes refusal is = is
later-refused (byte ∷ more) bytes refusal is = refused-stays (more ++ bytes) refusal byte (later-refused more bytes refusal is)

pub never-refused : (text : List ℕ) (ticks : ℕ) (left : Option (List ℕ)) (input : List ℕ) (refusal : CaptureRefusal) → end_after (reverse text) ≡ Ok ticks →
    Consumes (Some text) left input → IsRefusedBy left (reverse input) refusal → ⊥
never-refused text ticks None input refusal good consumed refused = absurd consumed
never-refused text ticks (Some rest) input refusal good consumed (inl byte) =
    let all : reverse text ≡ reverse rest ++ reverse input = ap (λ (l : List ℕ). reverse l) consumed ∙ reverse-append input rest in
    let bad : answer_now (reverse text) ≡ Err refusal =
    ap answer_now all ∙ later-refused (reverse rest) (reverse input) refusal byte in
    never-both (place_after (reverse text)) (tick_now (reverse text)) (length (reverse text)) (length (ticks_in (reverse text))) ticks refusal bad good
never-refused text ticks (Some rest) input refusal good consumed (inr (at, other)) =
    let same : end_after (reverse input) ≡ end_after (reverse text) =
    ap (λ (l : List ℕ). end_after (reverse l)) (whole-read text (Some rest) input consumed at) in
    let no : Ok ticks ≡ Err refusal = sym good ∙ sym same ∙ other in cc

-- ---- the listing of a capture

module _ (plan : PlanData) (accepted : IsAccepted plan) (said : List (List ℕ)) where
  abbrev text : List ℕ
  text = text_of texts.Capture (plan_run texts.Capture plan) said

  abbrev listing : List ℕ
  listing = flat_map word_line (run_log LAG plan).words ++ end_text (plan_end plan)

  module _ (left0 left1 held0 held1 : Option (List ℕ)) (sink0 sink1 status : ℕ) (had : left0 ≡ Some text) where
    pub by-listing : (held : Option (List ℕ)) (sink : ℕ) (l : Listing) → IsListed (word_lines LAG) (word_listing LAG) left0 left1 held0 held l →
        StatusAfter held held1 sink sink1 status l → (status ≡ 3 → ⊥) × (status ≡ 0 → Appends held0 held1 listing)
    by-listing held sink (listings.Done n) listed answer =
        let input : listed.input ≡ text =
        whole-read text left1 listed.input (subst (λ l. Consumes l left1 listed.input) had listed.consumed) listed.ends.0 in
        let wrote : Appends held0 held listing = (listing-done plan accepted said left0 left1 held0 held n listed input).1 in
        (λ refused. clash status 0 3 answer.0 refused (omega arith), λ done. subst (λ h. Appends held0 h listing) (sym answer.1) wrote)
    by-listing held sink (listings.Refused refusal) listed answer =
        absurd (never-refused text (plan_end plan) left1 listed.input refusal (read-end plan accepted said)
        (subst (λ l. Consumes l left1 listed.input) had listed.consumed) listed.ends.0)
    by-listing held sink listings.ReadFault listed answer =
        (λ refused. clash status 3 4 refused answer.0 (omega arith), λ done. absurd (clash status 0 4 done answer.0 (omega arith)))
    by-listing held sink listings.WriteFault listed answer =
        (λ refused. clash status 3 5 refused answer.0 (omega arith), λ done. absurd (clash status 0 5 done answer.0 (omega arith)))

-- ---- the three calls

abbrev pub plan-read : PlanData → Result PlanData PlanRefusal
plan-read plan = Ok plan

abbrev pub plan-or : PlanData → Result PlanData PlanRefusal → PlanData
plan-or other (Ok plan) = plan
plan-or other (Err refusal) = other

pub joined : (plan_text : List ℕ) (ran captured decoded : Call) → EndsAs ran commands.Run → EndsAs captured commands.Capture →
    EndsAs decoded commands.Decode → AreJoined plan_text ran captured decoded → ListTheSameWords ran decoded
joined plan_text ran captured decoded run-ends capture-ends decode-ends is =
    let r = run-ends.ran is.run_done in
    let c = capture-ends.ran is.capture_done in
    let read : c.input ≡ r.input =
    input-whole plan_text captured.left0 captured.left1 c.input is.capture_reads c.read c.accepted
    ∙ sym (input-whole plan_text ran.left0 ran.left1 r.input is.run_reads r.read r.accepted) in
    let plan : c.plan ≡ r.plan = ap (plan-or r.plan) (sym c.is_plan ∙ ap plan_of_bytes read ∙ r.is_plan) in
    let accepted : IsAccepted r.plan = accepted_result r.input (plan-read r.plan) r.is_plan in
    let wrote : captured.held1 ≡ Some (text_of texts.Capture (plan_run texts.Capture c.plan) captured.said1) =
    from-empty captured.held1 _ (subst (λ h. Appends h captured.held1 (text_of texts.Capture (plan_run texts.Capture c.plan) captured.said1)) is.empty c.written) in
    let had : decoded.left0 ≡ Some (text_of texts.Capture (plan_run texts.Capture r.plan) captured.said1) =
    is.decode_reads ∙ wrote ∙ ap (λ (p : PlanData). Some (text_of texts.Capture (plan_run texts.Capture p) captured.said1)) plan in
    let lists = decode-ends.lists in
    let both = by-listing r.plan accepted captured.said1 decoded.left0 decoded.left1 decoded.held0 decoded.held1 decoded.sink0 decoded.sink1
    decoded.status had lists.held lists.sink lists.listing lists.listed lists.answer in
    record { plan = r.plan; report = r.written; accepted = both.0; listing = both.1 }
