-- What `judge` writes of the capture of an undisturbed plan's run, by the clause of the top call.
use Rattle.std.proofs.Common.{◌≡◌, inl, inr, ℕ, List, [], ◌++◌, length, reverse, sym, ap, ◌∙◌, subst, arith}
use Rattle.std.specs.Prelude.{nat_lt, if◌then◌else◌, Option, Some}
use Rattle.std.specs.Io.KnownBytes.{Appends, Consumes}
use Rattle.bus_capture.specs.Readings.{ticks_in}
use Rattle.bus_formats.specs.Accepted.{IsAccepted}
use Rattle.bus_formats.specs.Plans.{PlanData}
use Rattle.bus_line.specs.declared.cutter.TheConstants.{LAG}
use Rattle.bus_model.specs.World.{world}
use Rattle.bus_monitor.specs.Listings.{end_line}
use Rattle.bus_monitor.specs.Progress.{end_text}
use Rattle.bus_outside.specs.Causes.{Rose}
use Rattle.bus_plan.proofs.AcceptedLaws.{accepted_result}
use Rattle.bus_plan.specs.PlanOf.{plan_of_bytes}
use Rattle.bus_rules.specs.Breaches.{breaches}
use Rattle.bus_rules.specs.JudgeTexts.{breach_lines, verdict_line, judge_text}
use Rattle.bus_rules.specs.Judged.{IsJudged, JudgementHasCause}
use Rattle.bus_rules.specs.declared.judgement.Judgement.{Judgement}
use Rattle.bus_rules.specs.declared.judgement.Judgement.TheVariants.{Done, Refused, ReadFault, WriteFault}
use Rattle.bus_run.proofs.BusLaws.{world-length}
use Rattle.bus_law_clean.specs.Undisturbed.{IsUndisturbed}
use Rattle.bus_law_run.specs.WorldIsRun.{plan_end}
use Rattle.bus_tool.specs.EndsJudge.{StatusJudged}
use Rattle.bus_tool.specs.Texts.{plan_run, text_of}
use Rattle.bus_tool.specs.declared.text.Text.TheVariants as texts
use Rattle.bus_tool.specs.declared.words.Command.TheVariants as commands
use Rattle.bus_law_readback.proofs.CallsJoined.{clash, whole-read, from-empty, input-whole, never-refused, plan-read, plan-or}
use Rattle.bus_law_readback.proofs.CaptureRead.{read-ticks, read-end}
use Rattle.bus_law_readback.proofs.JudgedClean.{world-clean}
use Rattle.bus_law_readback.specs.Calls.{Call, EndsAs, clean_text, AreCapturedAndJudged, IsFoundClean}

module _ (plan : PlanData) (accepted : IsAccepted plan) (undisturbed : IsUndisturbed plan) (said : List (List ℕ)) where
  abbrev text : List ℕ
  text = text_of texts.Capture (plan_run texts.Capture plan) said

  -- ---- what is owed for the capture

  -- the ticks that are read of it have no breach
  no-breach : (input : List ℕ) → input ≡ text → breaches LAG (ticks_in (reverse input)) ≡ []
  no-breach input is =
      ap (λ bytes. breaches LAG (ticks_in (reverse bytes))) is ∙ ap (breaches LAG) (read-ticks plan accepted said) ∙ world-clean plan accepted undisturbed

  -- so the judgement of the run says that it is clean
  clean-so : judge_text LAG (world LAG plan [] [] [] (plan_end plan)) ≡ clean_text (plan_end plan)
  unfolding judge_text
  clean-so =
      ap (λ found. breach_lines found ++ verdict_line (length found) ++ end_line (world LAG plan [] [] [] (plan_end plan))) (world-clean plan accepted undisturbed)
      ∙ ap (λ n. verdict_line 0 ++ end_text n) (world-length plan (plan_end plan))

  -- and that of what is read
  judged-so : (input : List ℕ) → input ≡ text → judge_text LAG (ticks_in (reverse input)) ≡ clean_text (plan_end plan)
  judged-so input is =
      ap (λ bytes. judge_text LAG (ticks_in (reverse bytes))) is ∙ ap (judge_text LAG) (read-ticks plan accepted said) ∙ clean-so

  -- ---- the call

  module _ (call : Call) (had : call.left0 ≡ Some text) (held : Option (List ℕ)) (sink : ℕ) where
    -- by how the judgement ended
    by-judgement : (j : Judgement) → IsJudged call.left0 call.left1 call.held0 held j → JudgementHasCause call.source0 call.source1 call.sink0 sink j →
        StatusJudged held call.held1 sink call.sink1 call.status j → IsFoundClean (plan_end plan) call
    by-judgement (Done n found) judged cause answer =
        let input : judged.listed.input ≡ text =
        whole-read text call.left1 judged.listed.input (subst (λ l. Consumes l call.left1 judged.listed.input) had judged.listed.consumed) judged.listed.ends.0 in
        let none : found ≡ 0 = judged.counted ∙ ap length (no-breach judged.listed.input input) in
        let wrote : Appends call.held0 held (clean_text (plan_end plan)) =
        subst (Appends call.held0 held) (judged-so judged.listed.input input) judged.listed.ends.2 in
        record {
          ends = inl (answer.0 ∙ ap (λ n. if nat_lt 0 n then 1 else 0) none);
          wrote = λ done. subst (λ h. Appends call.held0 h (clean_text (plan_end plan))) (sym answer.1) wrote;
        }
    by-judgement (Refused refusal) judged cause answer =
        absurd (never-refused text (plan_end plan) call.left1 judged.listed.input refusal (read-end plan accepted said)
        (subst (λ l. Consumes l call.left1 judged.listed.input) had judged.listed.consumed) judged.listed.ends.0)
    by-judgement ReadFault judged cause answer = record {
      ends = inr (inl (answer.0, cause.cause));
      wrote = λ done. absurd (clash call.status 0 4 done answer.0 (omega arith));
    }
    by-judgement WriteFault judged cause answer = record {
      ends = inr (inr (answer.0, subst (Rose call.sink0) (sym answer.2) cause.cause));
      wrote = λ done. absurd (clash call.status 0 5 done answer.0 (omega arith));
    }

-- ---- both calls

-- what was captured is found clean
pub found-clean : (plan : PlanData) (captured judged : Call) → EndsAs captured commands.Capture → EndsAs judged commands.Judge →
    AreCapturedAndJudged plan captured judged → IsFoundClean (plan_end plan) judged
found-clean plan captured judged capture-ends judge-ends is =
    let c = capture-ends.ran is.capture_done in
    let read : c.input ≡ is.plan_text = input-whole is.plan_text captured.left0 captured.left1 c.input is.capture_reads c.read c.accepted in
    let same : c.plan ≡ plan = ap (plan-or plan) (sym c.is_plan ∙ ap plan_of_bytes read ∙ is.is_plan) in
    let accepted : IsAccepted plan = accepted_result is.plan_text (plan-read plan) is.is_plan in
    let wrote : captured.held1 ≡ Some (text_of texts.Capture (plan_run texts.Capture c.plan) captured.said1) =
    from-empty captured.held1 _ (subst (λ h. Appends h captured.held1 (text_of texts.Capture (plan_run texts.Capture c.plan) captured.said1)) is.empty c.written) in
    let had : judged.left0 ≡ Some (text_of texts.Capture (plan_run texts.Capture plan) captured.said1) =
    is.judge_reads ∙ wrote ∙ ap (λ (p : PlanData). Some (text_of texts.Capture (plan_run texts.Capture p) captured.said1)) same in
    let judges = judge-ends.judges in
    by-judgement plan accepted is.undisturbed captured.said1 judged had judges.held judges.sink judges.judgement judges.judged judges.cause judges.answer
