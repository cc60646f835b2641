-- What each answer shows, from what its parts show.
use Rattle.std.proofs.Common.{◌≡◌, ℕ, zero, suc, ◌≤◌, List, [], ◌++◌, length, take, Option, Some, None, refl, inl, inr, arith, sym}
use Rattle.std.proofs.Common.{◌∙◌, ap, append-nil, subst}
use Rattle.std.specs.Prelude.{Bool, true, false, ◌⊎◌, if◌then◌else◌}
use Rattle.std.proofs.lemmas.List.{take_all, take-append-le}
use Rattle.std.proofs.lemmas.Bool.{cases_lt}
use Rattle.bus_outside.specs.Causes.{Rose}
use Rattle.bus_formats.specs.Logs.{LogData}
use Rattle.bus_formats.specs.declared.log.Delivery.{Delivery}
use Rattle.bus_line.specs.declared.cutter.TheConstants.{LAG}
use Rattle.bus_model.specs.Log.{all_went_well, run_log}
use Rattle.bus_run.specs.declared.finished.FinishedBus.{FinishedBus}
use Rattle.bus_tool.specs.Answers.{Answers}
use Rattle.bus_tool.specs.Due.{input_refusal}
use Rattle.bus_tool.specs.Ends.{ReadsInput, Ran, WasRefused, Stopped, RanOut, IsFine, EndsRun}
use Rattle.bus_tool.specs.Texts.{plan_run, text_of, status_of}
use Rattle.bus_tool.specs.declared.text.Text.{Text}
use Rattle.bus_tool.proofs.Answering.{untouched}
use Rattle.bus_tool.proofs.TablesRun.{tables-run}

-- an input is refused or not
pub one_refusal : (o : Option (List ℕ)) (text : List ℕ) → o ≡ Some text → o ≡ None → ⊥
one_refusal o text some none = cc

-- some bytes, all of what was told or one more than the most
front_or_all : (input rest : List ℕ) → length input ≤ 4194305 → (length input ≤ 4194304 → rest ≡ []) → input ≡ take 4194305 (input ++ rest)
front_or_all input rest short whole = elim (cases_lt 4194304 (length input)) [
  | inl full ↦ let front : take 4194305 (input ++ rest) ≡ take 4194305 input = take-append-le 4194305 input rest (omega arith) in
      rw front (sym (take_all 4194305 input (omega arith)))
  | inr few ↦ rw (whole few, append-nil input) (sym (take_all 4194305 input (omega arith)))
]

-- the bytes that were read of a source that tells them
pub told_input : (told input : List ℕ) (left1 : Option (List ℕ)) → ReadsInput (Some told) left1 input → input ≡ take 4194305 told
told_input told input None r = absurd r.consumed
told_input told input (Some rest) r =
    let front : input ≡ take 4194305 (input ++ rest) = front_or_all input rest r.short r.whole in
    front ∙ ap (λ l. take 4194305 l) (sym r.consumed)

pub zero-or-one : (s : ℕ) → s ≤ 1 → (s ≡ 0) ⊎ (s ≡ 1) ⊎ (s ≡ 6)
zero-or-one zero few = inl refl
zero-or-one (suc zero) few = inr (inl refl)
zero-or-one (suc (suc n)) few = absurd (omega (arith, few))

-- the status after a run is 0 or 1
pub status-few : (log : LogData) → status_of log ≤ 1
status-few log = go (all_went_well log)
  where
    go : (well : Bool) → (if well then 0 else 1) ≤ 1
    go true = omega arith
    go false = omega arith

module _ (left0 left1 held0 held1 : Option (List ℕ)) (source0 source1 sink0 sink1 : ℕ)
    (told0 told1 : List (Option (List Delivery))) (said0 said1 : List (List ℕ)) (spare0 spare1 : List ℕ) (text : Text)
    (later_source : source0 ≤ source1) (later_sink : sink0 ≤ sink1) where
  ran_ends : (status : ℕ) (bus : Option FinishedBus) → status ≤ 1 →
      Ran left0 left1 held0 held1 source0 source1 sink0 sink1 status bus told0 told1 said0 said1 spare0 spare1 text →
      EndsRun left0 left1 held0 held1 source0 source1 sink0 sink1 status bus told0 told1 said0 said1 spare0 spare1 text
  ran_ends status bus few ran = record {
    range = omega (arith, few);
    later_source = later_source;
    later_sink = later_sink;
    ran = λ _. ran;
    no_bus = λ s. absurd (omega (arith, s, few));
    meant = λ s. omega (arith, s, few);
    refused = λ s. absurd (omega (arith, s, few));
    read_fault = λ s. absurd (omega (arith, s, few));
    write_fault = λ s. absurd (omega (arith, s, few));
    memory = λ s. absurd (omega (arith, s, few));
    complete = λ _. zero-or-one status few;
  }

  refused_ends : WasRefused left0 left1 held0 held1 source0 source1 sink0 sink1 3 None told0 told1 said0 said1 spare0 spare1 →
      EndsRun left0 left1 held0 held1 source0 source1 sink0 sink1 3 None told0 told1 said0 said1 spare0 spare1 text
  refused_ends refused = record {
    range = omega arith;
    later_source = later_source;
    later_sink = later_sink;
    ran = λ s. absurd (omega (arith, s));
    no_bus = λ _. refl;
    meant = λ s. absurd (omega (arith, s));
    refused = λ _. refused;
    read_fault = λ s. absurd (omega (arith, s));
    write_fault = λ s. absurd (omega (arith, s));
    memory = λ s. absurd (omega (arith, s));
    complete = λ fine. absurd (not_fine fine);
  }
    where
      not_fine : IsFine left0 left1 held0 held1 source0 source1 sink0 sink1 3 None told0 told1 said0 said1 spare0 spare1 → ⊥
      not_fine fine =
          let read : ReadsInput (Some fine.told) left1 refused.input = subst (λ l. ReadsInput l left1 refused.input) fine.left refused.read in
          let is : refused.input ≡ take 4194305 fine.told = told_input fine.told refused.input left1 read in
          let none : input_refusal refused.input ≡ None = ap input_refusal is ∙ fine.accepted in
          one_refusal (input_refusal refused.input) refused.line refused.due none

  stopped_ends : Rose sink0 sink1 → Stopped left0 left1 held0 held1 source0 source1 sink0 sink1 5 None told0 told1 said0 said1 spare0 spare1 text →
      EndsRun left0 left1 held0 held1 source0 source1 sink0 sink1 5 None told0 told1 said0 said1 spare0 spare1 text
  stopped_ends rose stopped = record {
    range = omega arith;
    later_source = later_source;
    later_sink = later_sink;
    ran = λ s. absurd (omega (arith, s));
    no_bus = λ _. refl;
    meant = λ s. absurd (omega (arith, s));
    refused = λ s. absurd (omega (arith, s));
    read_fault = λ s. absurd (omega (arith, s));
    write_fault = λ _. (rose, stopped);
    memory = λ s. absurd (omega (arith, s));
    complete = λ fine. absurd (fine.sink rose);
  }

  memory_ends : RanOut left0 left1 held0 held1 source0 source1 sink0 sink1 6 None told0 told1 said0 said1 spare0 spare1 text →
      EndsRun left0 left1 held0 held1 source0 source1 sink0 sink1 6 None told0 told1 said0 said1 spare0 spare1 text
  memory_ends same = record {
    range = omega arith;
    later_source = later_source;
    later_sink = later_sink;
    ran = λ s. absurd (omega (arith, s));
    no_bus = λ _. refl;
    meant = λ s. absurd (omega (arith, s));
    refused = λ s. absurd (omega (arith, s));
    read_fault = λ s. absurd (omega (arith, s));
    write_fault = λ s. absurd (omega (arith, s));
    memory = λ _. same;
    complete = λ _. inr (inr refl);
  }

  -- what the answer to an input that was read shows
  pub answered : (input : List ℕ) (status : ℕ) (bus : Option FinishedBus) → ReadsInput left0 left1 input →
      Answers held0 held1 sink0 sink1 status bus told0 told1 said0 said1 spare0 spare1 text input →
      EndsRun left0 left1 held0 held1 source0 source1 sink0 sink1 status bus told0 told1 said0 said1 spare0 spare1 text
  answered input status bus read answers = elim answers.answer [
    | inl ran ↦ elim ran.wrote [
      | inl done ↦
          let few = status-few (run_log LAG (plan_run text ran.plan)) in
          ran_ends status bus (rw done.status_is few) record {
            input = input;
            read = read;
            accepted = ran.accepted;
            plan = ran.plan;
            is_plan = ran.read;
            left = done.left;
            has = done.has;
            stands = done.stands;
            objects = ran.objects;
            status_is = done.status_is;
            written = done.written;
            tables = tables-run text ran.plan ran.is_accepted;
          }
      | inr failed ↦ rw (failed.status_is, failed.no_bus) (stopped_ends failed.failed record {
        input = input;
        read = read;
        bytes = text_of text (plan_run text ran.plan) said1;
        due = inr (
          ran.accepted,
          record { plan = ran.plan; read = ran.read; objects = ran.objects; bytes_are = refl },
        );
        front = failed.front;
      })
    ]
    | inr other ↦ elim other [
      | inl refused ↦ elim refused.answer.wrote [
        | inl done ↦ rw (done.0, refused.answer.no_bus) (refused_ends
            record { input = input; read = read; line = refused.line; due = refused.due; written = done.1; objects = refused.objects })
        | inr failed ↦ rw (failed.0, refused.answer.no_bus) (stopped_ends failed.1
            record { input = input; read = read; bytes = refused.line; due = inl (refused.due, refused.objects); front = failed.2 })
      ]
      | inr wanting ↦ rw (wanting.status_is, wanting.no_bus) (memory_ends record { unwritten = wanting.unwritten; objects = wanting.objects })
    ]
  ]

-- memory was wanting before the input was read
pub wants-input : (left0 left1 held : Option (List ℕ)) (source0 source1 sink : ℕ) (told : List (Option (List Delivery))) (said : List (List ℕ))
    (spare : List ℕ) (text : Text) → source0 ≤ source1 →
    EndsRun left0 left1 held held source0 source1 sink sink 6 None told told said said spare spare text
wants-input left0 left1 held source0 source1 sink told said spare text later =
    memory_ends left0 left1 held held source0 source1 sink sink told told said said spare spare text later (omega arith)
    record { unwritten = refl; objects = untouched told said spare text }
