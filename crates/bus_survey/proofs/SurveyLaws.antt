-- A survey goes on from fault to fault.
use Rattle.std.proofs.Common.{◌≡◌, ℕ, suc, ◌+◌, ◌<◌, ◌≤◌, List, [], ◌∷◌, ◌++◌, length, take, drop, get_or, add-one, arith, ap, sym, ◌∙◌, subst, refl}
use Rattle.std.proofs.Common.{append-nil, Option, Some, None}
use Rattle.std.proofs.Math.Seq.{drop-cons}
use Rattle.std.proofs.lemmas.Grind.{take_at_read}
use Rattle.std.proofs.lemmas.List.{length-map, length-take, take-append-drop, take_all}
use Rattle.std.specs.Io.KnownBytes.{Appends}
use Rattle.bus_formats.specs.Logs.{LogData}
use Rattle.bus_formats.specs.Plans.{PlanData}
use Rattle.bus_formats.specs.declared.fault.Fault.{Fault}
use Rattle.bus_line.specs.declared.cutter.TheConstants.{LAG}
use Rattle.bus_model.specs.Log.{run_log}
use Rattle.bus_outside.specs.Causes.{GrowsByFront}
use Rattle.bus_outside.proofs.Writes.{appends_then, front_then}
use Rattle.bus_survey.specs.Alone.{with_fault_alone}
use Rattle.bus_survey.specs.Lines.{fault_line, fault_lines, surveyed_line, survey_text}
use Rattle.bus_survey.specs.Surveys.{logs_of, SurveyedSoFar, SurveyedAll, SurveyedFront, Surveys}
use Rattle.bus_survey.specs.declared.surveyed.Surveyed.{Surveyed}
use Rattle.bus_survey.specs.declared.surveyed.Surveyed.TheVariants.{Done, NoMemory, WriteFault}
use Rattle.bus_survey.proofs.LineLaws.{lines-more, rest_of, text-around, text-is}

-- ---- runs

-- those of some faults and then of others
pub logs-append : (plan : PlanData) (xs ys : List Fault) → logs_of plan (xs ++ ys) ≡ logs_of plan xs ++ logs_of plan ys
logs-append plan [] ys = refl
logs-append plan (x ∷ xs) ys = ap (λ l. run_log LAG (with_fault_alone plan x) ∷ l) (logs-append plan xs ys)

-- nothing was added
keeps : (held : Option (List ℕ)) → Appends held held []
keeps None = tt
keeps (Some bytes) = sym (append-nil bytes)

-- no fault was tried yet
pub none-tried : (plan : PlanData) (faults : List Fault) (held : Option (List ℕ)) → SurveyedSoFar plan faults held held 0
none-tried plan faults held = record { written = keeps held }

module _ (plan : PlanData) (faults : List Fault) (held0 held1 held2 : Option (List ℕ)) where
  -- there is a log for each fault that was tried
  counted : (i : ℕ) → i ≤ length faults → length (logs_of plan (take i faults)) ≡ i
  counted i within =
      length-map (take i faults) (λ fault. run_log LAG (with_fault_alone plan fault)) ∙ length-take i faults ∙ omega (arith, within)

  module _ (i : ℕ) (fault : Fault) (log : LogData) (within : i < length faults) (is : fault ≡ get_or faults i fault)
      (so : SurveyedSoFar plan faults held0 held1 i) (run : log ≡ run_log LAG (with_fault_alone plan fault)) where
    abbrev before : List LogData
    before = logs_of plan (take i faults)

    number : 1 + length before ≡ i + 1
    number = let n = counted i (omega (arith, within)) in omega (arith, n)

    taken : take (i + 1) faults ≡ take i faults ++ fault ∷ []
    taken = (take_at_read faults i fault within).1 ∙ ap (λ f. take i faults ++ f ∷ []) (sym is)

    around : faults ≡ take i faults ++ fault ∷ drop (i + 1) faults
    around =
        sym (take-append-drop i faults)
        ∙ ap (λ l. take i faults ++ l)
        (drop-cons faults i fault within ∙ ap (λ f. f ∷ drop (suc i) faults) (sym is) ∙ ap (λ n. fault ∷ drop n faults) (sym (add-one i)))

    logs-taken : logs_of plan (take (i + 1) faults) ≡ before ++ log ∷ []
    logs-taken =
        ap (logs_of plan) taken ∙ logs-append plan (take i faults) (fault ∷ []) ∙ ap (λ l. before ++ l ∷ []) (sym run)

    logs-around : logs_of plan faults ≡ before ++ log ∷ logs_of plan (drop (i + 1) faults)
    logs-around =
        ap (logs_of plan) around ∙ logs-append plan (take i faults) (fault ∷ drop (i + 1) faults)
        ∙ ap (λ l. before ++ l ∷ logs_of plan (drop (i + 1) faults)) (sym run)

    -- the line of the next fault was written
    pub one-more : Appends held1 held2 (fault_line (i + 1) log.attempts) → SurveyedSoFar plan faults held0 held2 (i + 1)
    one-more added = record {
      written = subst (λ l. Appends held0 held2 l) (sym (ap (fault_lines 1) logs-taken ∙ lines-more before log (i + 1) number))
          (appends_then held0 held1 held2 (fault_lines 1 before) (fault_line (i + 1) log.attempts) so.written added);
    }

    -- a front of it was written
    pub front-of-line : GrowsByFront held1 held2 (fault_line (i + 1) log.attempts) → SurveyedFront plan faults held0 held2
    front-of-line front =
        let later = logs_of plan (drop (i + 1) faults) in
        record {
          front = subst (λ l. GrowsByFront held0 held2 l) (sym (ap survey_text logs-around ∙ text-around before log later (i + 1) number))
              (front_then held0 held1 held2 (fault_lines 1 before) (fault_line (i + 1) log.attempts) (rest_of before log later) so.written front);
        }

  module _ (so : SurveyedSoFar plan faults held0 held1 (length faults)) where
    all-taken : take (length faults) faults ≡ faults
    all-taken = take_all (length faults) faults (omega arith)

    whole : Appends held0 held1 (fault_lines 1 (logs_of plan faults))
    whole = subst (λ fs. Appends held0 held1 (fault_lines 1 (logs_of plan fs))) all-taken so.written

    text : survey_text (logs_of plan faults) ≡ fault_lines 1 (logs_of plan faults) ++ surveyed_line (length faults)
    text =
        text-is (logs_of plan faults)
        ∙ ap (λ n. fault_lines 1 (logs_of plan faults) ++ surveyed_line n) (length-map faults (λ fault. run_log LAG (with_fault_alone plan fault)))

    -- the last line was written
    pub all-tried : Appends held1 held2 (surveyed_line (length faults)) → SurveyedAll plan faults held0 held2
    all-tried added = record {
      written = subst (λ l. Appends held0 held2 l) (sym text)
          (appends_then held0 held1 held2 (fault_lines 1 (logs_of plan faults)) (surveyed_line (length faults)) whole added);
    }

    -- a front of it was written
    pub front-of-last : GrowsByFront held1 held2 (surveyed_line (length faults)) → SurveyedFront plan faults held0 held2
    front-of-last front = record {
      front = subst (λ l. GrowsByFront held0 held2 l)
          (ap (λ l. fault_lines 1 (logs_of plan faults) ++ l) (append-nil (surveyed_line (length faults))) ∙ sym text)
          (front_then held0 held1 held2 (fault_lines 1 (logs_of plan faults)) (surveyed_line (length faults)) [] whole front);
    }

-- ---- the plan whose faults were taken out

module _ (plan other : PlanData) (same : (fault : Fault) → with_fault_alone plan fault ≡ with_fault_alone other fault) where
  same-logs : (faults : List Fault) → logs_of plan faults ≡ logs_of other faults
  same-logs [] = refl
  same-logs (fault ∷ faults) =
      ap (λ l. l ∷ logs_of plan faults) (ap (run_log LAG) (same fault)) ∙ ap (λ l. run_log LAG (with_fault_alone other fault) ∷ l) (same-logs faults)

  -- a survey doesn't depend on the faults that the plan has itself
  pub same-survey : (faults : List Fault) (held0 held1 : Option (List ℕ)) (result : Surveyed) → Surveys plan faults held0 held1 result →
      Surveys other faults held0 held1 result
  same-survey faults held0 held1 Done all =
      record { written = subst (λ logs. Appends held0 held1 (survey_text logs)) (same-logs faults) all.written }
  same-survey faults held0 held1 NoMemory before = record {
    count = before.count;
    within = before.within;
    so_far = record {
      written = subst (λ logs. Appends held0 held1 (fault_lines 1 logs)) (same-logs (take before.count faults)) before.so_far.written;
    };
  }
  same-survey faults held0 held1 WriteFault front =
      record { front = subst (λ logs. GrowsByFront held0 held1 (survey_text logs)) (same-logs faults) front.front }
