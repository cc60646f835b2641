-- What the answer of the command that runs two buses shows, from what its parts show.
use Rattle.std.proofs.Common.{◌≡◌, ℕ, zero, suc, ◌+◌, ◌<◌, ◌≤◌, Bool, true, false, List, [], ◌++◌, length, take, Option, Some, None, Ok, Err, refl, inl, inr, arith, ◌∙◌, sym, ap, subst, append-nil, if◌then◌else◌}
use Rattle.std.specs.Prelude.{slice_get, not, ◌||◌}
use Rattle.std.specs.List.{list_all}
use Rattle.std.proofs.lemmas.Bool.{cases_lt}
use Rattle.std.proofs.lemmas.List.{take_all, take-append-le}
use Rattle.bus_bridge.specs.Inputs.{MayBridge, input_limit, bridge_of_bytes}
use Rattle.bus_bridge.specs.Lines.{bridge_text}
use Rattle.bus_bridge.specs.Logs.{BridgeLogData}
use Rattle.bus_bridge.specs.Worlds.{IsLogOf, bridge_log, loads}
use Rattle.bus_bridge.specs.declared.inputs.BridgePlan.{BridgePlan}
use Rattle.bus_bridge.specs.declared.inputs.BridgeRefusal.{BridgeRefusal}
use Rattle.bus_formats.specs.Accepted.{HasKindRanges}
use Rattle.bus_formats.specs.declared.log.Attempt.{Attempt}
use Rattle.bus_formats.specs.declared.log.Delivery.{Delivery}
use Rattle.bus_line.specs.declared.cutter.TheConstants.{LAG}
use Rattle.bus_model.specs.Log.{went_well}
use Rattle.bus_model.specs.World.{world}
use Rattle.bus_outside.specs.Causes.{Rose}
use Rattle.bus_refusals.specs.Refusals.{WroteDue}
use Rattle.bus_run.specs.declared.finished.FinishedBus.{FinishedBus}
use Rattle.bus_tool.specs.Answers.{AnswersRefused}
use Rattle.bus_tool.specs.EndsBridge.{bridge_line, bridge_refusal, refusal_by, AnswersBridge, BridgedPlan, WroteBridge, ReadsUpTo, Bridged, WasRefusedBridge, StoppedBridge, BridgeIsFine, EndsBridge}
use Rattle.bus_tool.specs.Objects.{AreSame}
use Rattle.bus_tool.specs.Texts.{status_of_attempts}
use Rattle.bus_tool.proofs.Ending.{zero-or-one}
use Rattle.bus_tool.proofs.Ranges.{world-fits}

-- the numbers of each message of the log are in their ranges
pub log-kinds : (plan : BridgePlan) (log : BridgeLogData) (a : Attempt) (i : ℕ) → MayBridge plan → IsLogOf plan log → slice_get log.attempts i ≡ Some a →
    HasKindRanges a.kind
unfolding bridge_log
log-kinds plan log a i may is at =
    world-fits plan.second (loads plan is.first) (world LAG plan.second (loads plan is.first) [] [] is.second) a i may.second
    (sym (ap (λ (l : BridgeLogData). slice_get l.attempts i) is.is) ∙ at)

-- ---- the answer to an input

module _ (held0 held1 : Option (List ℕ)) (sink0 sink1 : ℕ) (input : List ℕ) where
  -- memory was wanting before both plans were read
  pub wants-plans : held1 ≡ held0 → sink0 ≤ sink1 → AnswersBridge held0 held1 sink0 sink1 6 input
  wants-plans same later = record { later = later; answer = inr (inr (refl, same)) }

  -- the input was refused
  pub refuses-bridge : {bus : Option FinishedBus} (status : ℕ) (refusal : BridgeRefusal) (line : List ℕ) → bridge_of_bytes input ≡ Err refusal →
      line ≡ bridge_line refusal → AnswersRefused held0 held1 sink0 sink1 status bus line → AnswersBridge held0 held1 sink0 sink1 status input
  refuses-bridge status refusal line due is answer = record {
    later = answer.later;
    answer = inr (inl record { line = line; due = ap refusal_by due ∙ ap Some (sym is); wrote = answer.wrote });
  }

  -- its buses ran
  pub runs-bridge : (plan : BridgePlan) (status : ℕ) → bridge_of_bytes input ≡ Ok plan → BridgedPlan held0 held1 sink0 sink1 status plan →
      AnswersBridge held0 held1 sink0 sink1 status input
  runs-bridge plan status read answer = elim answer.answer [
    | inl ran ↦ record { later = answer.later; answer = inl record { plan = plan; read = read; ran = ran } }
    | inr wanting ↦ record { later = answer.later; answer = inr (inr wanting) }
  ]

-- ---- how the command ends

-- what was read is what was told, up to the limit
front-or-all : (most : ℕ) (input rest : List ℕ) → length input ≤ most + 1 → (length input ≤ most → rest ≡ []) → input ≡ take (most + 1) (input ++ rest)
front-or-all most input rest short whole = elim (cases_lt most (length input)) [
  | inl full ↦
      let front : take (most + 1) (input ++ rest) ≡ take (most + 1) input = take-append-le (most + 1) input rest (omega (arith, full)) in
      rw front (sym (take_all (most + 1) input (omega (arith, short))))
  | inr few ↦ rw (whole few, append-nil input) (sym (take_all (most + 1) input (omega (arith, few))))
]

told-up-to : (most : ℕ) (told input : List ℕ) (now : Option (List ℕ)) → ReadsUpTo most (Some told) now input → input ≡ take (most + 1) told
told-up-to most told input None read = absurd read.consumed
told-up-to most told input (Some rest) read =
    front-or-all most input rest read.short read.whole ∙ ap (λ (l : List ℕ). take (most + 1) l) (sym read.consumed)

status-few : (attempts : List Attempt) → status_of_attempts attempts ≤ 1
status-few attempts = go (list_all (λ a. not a.finishes || went_well a.outcome) attempts)
  where
    go : (well : Bool) → (if well then 0 else 1) ≤ 1
    go true = omega arith
    go false = omega arith

one-refusal : (o : Option (List ℕ)) (line : List ℕ) → o ≡ Some line → o ≡ None → ⊥
one-refusal o line some none = cc

module _ (left0 left1 held0 held1 : Option (List ℕ)) (source0 source1 sink0 sink1 : ℕ)
    (told : List (Option (List Delivery))) (said : List (List ℕ)) (spare : List ℕ)
    (later_source : source0 ≤ source1) (later_sink : sink0 ≤ sink1) where
  same-objects : AreSame told told said said spare spare
  same-objects = record { told = refl; said = refl; spare = refl }

  ran-ends : (status : ℕ) → status ≤ 1 → Bridged left0 left1 held0 held1 source0 source1 sink0 sink1 status None told told said said spare spare →
      EndsBridge left0 left1 held0 held1 source0 source1 sink0 sink1 status None told told said said spare spare
  ran-ends status low ran = record {
    range = omega (arith, low);
    later_source = later_source;
    later_sink = later_sink;
    no_bus = refl;
    objects = same-objects;
    ran = λ _. ran;
    meant = λ s. absurd (omega (arith, s, low));
    refused = λ s. absurd (omega (arith, s, low));
    read_fault = λ s. absurd (omega (arith, s, low));
    write_fault = λ s. absurd (omega (arith, s, low));
    memory = λ s. absurd (omega (arith, s, low));
    complete = λ _. zero-or-one status low;
  }

  refused-ends : WasRefusedBridge left0 left1 held0 held1 source0 source1 sink0 sink1 3 None told told said said spare spare →
      EndsBridge left0 left1 held0 held1 source0 source1 sink0 sink1 3 None told told said said spare spare
  refused-ends refused = record {
    range = omega arith;
    later_source = later_source;
    later_sink = later_sink;
    no_bus = refl;
    objects = same-objects;
    ran = λ s. absurd (omega (arith, s));
    meant = λ s. absurd (omega (arith, s));
    refused = λ _. refused;
    read_fault = λ s. absurd (omega (arith, s));
    write_fault = λ s. absurd (omega (arith, s));
    memory = λ s. absurd (omega (arith, s));
    complete = λ fine. absurd (not-fine fine);
  }
    where
      not-fine : BridgeIsFine left0 left1 held0 held1 source0 source1 sink0 sink1 3 None told told said said spare spare → ⊥
      not-fine fine =
          let read : ReadsUpTo input_limit (Some fine.told) left1 refused.input =
          subst (λ l. ReadsUpTo input_limit l left1 refused.input) fine.left refused.read in
          one-refusal (bridge_refusal refused.input) refused.line refused.due
          (ap bridge_refusal (told-up-to input_limit fine.told refused.input left1 read) ∙ fine.accepted)

  pub read-fault-ends : Rose source0 source1 → held1 ≡ held0 →
      EndsBridge left0 left1 held0 held1 source0 source1 sink0 sink1 4 None told told said said spare spare
  read-fault-ends rose unwritten = record {
    range = omega arith;
    later_source = later_source;
    later_sink = later_sink;
    no_bus = refl;
    objects = same-objects;
    ran = λ s. absurd (omega (arith, s));
    meant = λ s. absurd (omega (arith, s));
    refused = λ s. absurd (omega (arith, s));
    read_fault = λ _. (rose, unwritten);
    write_fault = λ s. absurd (omega (arith, s));
    memory = λ s. absurd (omega (arith, s));
    complete = λ fine. absurd (fine.source rose);
  }

  stopped-ends : Rose sink0 sink1 → StoppedBridge left0 left1 held0 held1 source0 source1 sink0 sink1 5 None told told said said spare spare →
      EndsBridge left0 left1 held0 held1 source0 source1 sink0 sink1 5 None told told said said spare spare
  stopped-ends rose stopped = record {
    range = omega arith;
    later_source = later_source;
    later_sink = later_sink;
    no_bus = refl;
    objects = same-objects;
    ran = λ s. absurd (omega (arith, s));
    meant = λ s. absurd (omega (arith, s));
    refused = λ s. absurd (omega (arith, s));
    read_fault = λ s. absurd (omega (arith, s));
    write_fault = λ _. (rose, stopped);
    memory = λ s. absurd (omega (arith, s));
    complete = λ fine. absurd (fine.sink rose);
  }

  -- memory was wanting
  pub wanting-ends : held1 ≡ held0 → EndsBridge left0 left1 held0 held1 source0 source1 sink0 sink1 6 None told told said said spare spare
  wanting-ends unwritten = record {
    range = omega arith;
    later_source = later_source;
    later_sink = later_sink;
    no_bus = refl;
    objects = same-objects;
    ran = λ s. absurd (omega (arith, s));
    meant = λ s. absurd (omega (arith, s));
    refused = λ s. absurd (omega (arith, s));
    read_fault = λ s. absurd (omega (arith, s));
    write_fault = λ s. absurd (omega (arith, s));
    memory = λ _. unwritten;
    complete = λ _. inr (inr refl);
  }

  -- what the answer to an input that was read shows
  pub bridge-answered : (input : List ℕ) (status : ℕ) → ReadsUpTo input_limit left0 left1 input → AnswersBridge held0 held1 sink0 sink1 status input →
      EndsBridge left0 left1 held0 held1 source0 source1 sink0 sink1 status None told told said said spare spare
  bridge-answered input status read answers = elim answers.answer [
    | inl ran ↦ elim ran.ran.wrote [
      | inl done ↦ ran-ends status (let few = status-few ran.ran.log.attempts in let is = done.0 in omega (arith, few, is)) record {
        input = input;
        read = read;
        plan = ran.plan;
        is_plan = ran.read;
        log = ran.ran.log;
        is_log = ran.ran.is_log;
        status_is = done.0;
        written = done.1;
      }
      | inr failed ↦ rw failed.0 (stopped-ends failed.1 record {
        input = input;
        read = read;
        bytes = bridge_text ran.ran.log;
        due = inr (ap refusal_by ran.read, record { plan = ran.plan; read = ran.read; log = ran.ran.log; is_log = ran.ran.is_log; bytes_are = refl });
        front = failed.2;
      })
    ]
    | inr other ↦ elim other [
      | inl refused ↦ elim refused.wrote [
        | inl done ↦ rw done.0 (refused-ends record { input = input; read = read; line = refused.line; due = refused.due; written = done.1 })
        | inr failed ↦ rw failed.0 (stopped-ends failed.1 record { input = input; read = read; bytes = refused.line; due = inl refused.due; front = failed.2 })
      ]
      | inr wanting ↦ rw wanting.0 (wanting-ends wanting.1)
    ]
  ]
