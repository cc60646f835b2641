-- What the answer of the command that reckons a schedule shows, from what its parts show.
use Rattle.std.proofs.Common.{◌≡◌, ℕ, ◌≤◌, List, [], length, take, Option, Some, None, Ok, refl, inl, inr, arith, ◌∙◌, sym, ap, subst}
use Rattle.std.proofs.lemmas.Option.{none-some}
use Rattle.std.specs.Option.{option_or}
use Rattle.bus_formats.specs.Accepted.{IsAccepted}
use Rattle.bus_formats.specs.Plans.{PlanData}
use Rattle.bus_formats.specs.declared.log.Delivery.{Delivery}
use Rattle.bus_line.specs.declared.cutter.TheConstants.{LAG}
use Rattle.bus_load.specs.InTime.{with_faults}
use Rattle.bus_load.specs.Lines.{load_text}
use Rattle.bus_load.specs.Load.{first_offer}
use Rattle.bus_load.specs.declared.reckoned.OfferPlace.{OfferPlace}
use Rattle.bus_load.proofs.Verdicts.{long-starts, short-starts}
use Rattle.bus_outside.specs.Causes.{Rose}
use Rattle.bus_plan.specs.PlanOf.{plan_of_bytes}
use Rattle.bus_run.specs.declared.finished.FinishedBus.{FinishedBus}
use Rattle.bus_refusals.specs.Refusals.{WroteDue}
use Rattle.bus_tool.specs.Answers.{AnswersRefused, AnswersLoad}
use Rattle.bus_tool.specs.Due.{input_refusal, load_refusal, offer_line, offer_refusal, offer_refusal_by}
use Rattle.bus_tool.specs.Ends.{ReadsInput, Reckoned, WasRefusedLoad, StoppedLoad, IsFine, EndsLoad}
use Rattle.bus_tool.specs.Objects.{AreSame}
use Rattle.bus_tool.proofs.Answering.{accepted-input}
use Rattle.bus_tool.proofs.TablesRun.{in-time}
use Rattle.bus_tool.proofs.Ending.{told_input}

-- ---- which input is refused

-- what run refuses
pub refused-first : (input line : List ℕ) → input_refusal input ≡ Some line → load_refusal input ≡ Some line
refused-first input line due = ap (λ o. option_or o (offer_refusal (plan_of_bytes input))) due

-- a plan by its first offer
pub refused-by : (input : List ℕ) (plan : PlanData) (offer : Option OfferPlace) → length input ≤ 4194304 → plan_of_bytes input ≡ Ok plan → first_offer plan ≡ offer →
    load_refusal input ≡ offer_refusal_by offer
refused-by input plan offer short read is =
    ap (λ o. option_or o (offer_refusal (plan_of_bytes input))) (accepted-input input plan short read) ∙ (ap offer_refusal read ∙ ap offer_refusal_by is)

offer-none : (o : Option OfferPlace) → offer_refusal_by o ≡ None → o ≡ None
offer-none None is = refl
offer-none (Some place) is = absurd (none-some _ (sym is))

either-none : (a b : Option (List ℕ)) → option_or a b ≡ None → b ≡ None
either-none None b is = is
either-none (Some x) b is = absurd (none-some x (sym is))

-- a plan that isn't refused makes no offer
no-offer : (input : List ℕ) (plan : PlanData) → load_refusal input ≡ None → plan_of_bytes input ≡ Ok plan → first_offer plan ≡ None
no-offer input plan none read =
    offer-none (first_offer plan) (sym (ap offer_refusal read) ∙ either-none (input_refusal input) (offer_refusal (plan_of_bytes input)) none)

-- ---- the answer to an input

module _ (held0 held1 : Option (List ℕ)) (sink0 sink1 : ℕ) (input : List ℕ) where
  -- memory was wanting before the plan was read
  pub wants-plan : held1 ≡ held0 → sink0 ≤ sink1 → AnswersLoad held0 held1 sink0 sink1 6 input
  wants-plan same later = record { later = later; answer = inr (inr (refl, same)) }

  -- the input was refused as by run
  pub refuses-input : {bus : Option FinishedBus} (status : ℕ) (line : List ℕ) → input_refusal input ≡ Some line →
      AnswersRefused held0 held1 sink0 sink1 status bus line → AnswersLoad held0 held1 sink0 sink1 status input
  refuses-input status line due answer =
      record { later = answer.later; answer = inr (inl record { line = line; due = refused-first input line due; wrote = answer.wrote }) }

  module _ (plan : PlanData) (status : ℕ) (short : length input ≤ 4194304) (read : plan_of_bytes input ≡ Ok plan) where
    -- its plan makes an offer
    pub refuses-offer : {bus : Option FinishedBus} (place : OfferPlace) (line : List ℕ) → first_offer plan ≡ Some place → line ≡ offer_line place →
        AnswersRefused held0 held1 sink0 sink1 status bus line → AnswersLoad held0 held1 sink0 sink1 status input
    refuses-offer place line offers is answer = record {
      later = answer.later;
      answer = inr (inl record { line = line; due = refused-by input plan (Some place) short read offers ∙ ap Some (sym is); wrote = answer.wrote });
    }

    -- its schedule was reckoned
    pub reckons-input : IsAccepted plan → first_offer plan ≡ None → WroteDue held0 held1 sink0 sink1 status 0 (load_text plan) → sink0 ≤ sink1 →
        AnswersLoad held0 held1 sink0 sink1 status input
    reckons-input is_accepted none wrote later = record {
      later = later;
      answer = inl record { accepted = refused-by input plan None short read none; plan = plan; read = read; is_accepted = is_accepted; wrote = wrote };
    }

-- ---- how the command ends

module _ (left0 left1 held0 held1 : Option (List ℕ)) (source0 source1 sink0 sink1 : ℕ)
    (told : List (Option (List Delivery))) (said : List (List ℕ)) (spare : List ℕ)
    (later_source : source0 ≤ source1) (later_sink : sink0 ≤ sink1) where
  same_objects : AreSame told told said said spare spare
  same_objects = record { told = refl; said = refl; spare = refl }

  done_ends : Reckoned left0 left1 held0 held1 source0 source1 sink0 sink1 0 None told told said said spare spare →
      EndsLoad left0 left1 held0 held1 source0 source1 sink0 sink1 0 None told told said said spare spare
  done_ends reckoned = record {
    range = omega arith;
    later_source = later_source;
    later_sink = later_sink;
    no_bus = refl;
    objects = same_objects;
    reckoned = λ _. reckoned;
    well = λ s. omega (arith, s);
    meant = λ s. omega (arith, s);
    refused = λ s. absurd (omega (arith, s));
    read_fault = λ s. absurd (omega (arith, s));
    write_fault = λ s. absurd (omega (arith, s));
    memory = λ s. absurd (omega (arith, s));
    complete = λ _ _. inl refl;
  }

  refused_ends : WasRefusedLoad left0 left1 held0 held1 source0 source1 sink0 sink1 3 None told told said said spare spare →
      EndsLoad left0 left1 held0 held1 source0 source1 sink0 sink1 3 None told told said said spare spare
  refused_ends refused = record {
    range = omega arith;
    later_source = later_source;
    later_sink = later_sink;
    no_bus = refl;
    objects = same_objects;
    reckoned = λ s. absurd (omega (arith, s));
    well = λ s. omega (arith, s);
    meant = λ s. omega (arith, s);
    refused = λ _. refused;
    read_fault = λ s. absurd (omega (arith, s));
    write_fault = λ s. absurd (omega (arith, s));
    memory = λ s. absurd (omega (arith, s));
    complete = λ fine none. absurd (not_fine fine none);
  }
    where
      not_fine : (fine : IsFine left0 left1 held0 held1 source0 source1 sink0 sink1 3 None told told said said spare spare) →
          load_refusal (take 4194305 fine.told) ≡ None → ⊥
      not_fine fine none =
          let read : ReadsInput (Some fine.told) left1 refused.input = subst (λ l. ReadsInput l left1 refused.input) fine.left refused.read in
          let is : refused.input ≡ take 4194305 fine.told = told_input fine.told refused.input left1 read in
          none-some refused.line (sym (ap load_refusal is ∙ none) ∙ refused.due)

  pub read_fault_ends : Rose source0 source1 → held1 ≡ held0 →
      EndsLoad left0 left1 held0 held1 source0 source1 sink0 sink1 4 None told told said said spare spare
  read_fault_ends rose unwritten = record {
    range = omega arith;
    later_source = later_source;
    later_sink = later_sink;
    no_bus = refl;
    objects = same_objects;
    reckoned = λ s. absurd (omega (arith, s));
    well = λ s. omega (arith, s);
    meant = λ s. omega (arith, s);
    refused = λ s. absurd (omega (arith, s));
    read_fault = λ _. (rose, record { unwritten = unwritten; objects = same_objects });
    write_fault = λ s. absurd (omega (arith, s));
    memory = λ s. absurd (omega (arith, s));
    complete = λ fine _. absurd (fine.source rose);
  }

  stopped_ends : Rose sink0 sink1 → StoppedLoad left0 left1 held0 held1 source0 source1 sink0 sink1 5 None told told said said spare spare →
      EndsLoad left0 left1 held0 held1 source0 source1 sink0 sink1 5 None told told said said spare spare
  stopped_ends rose stopped = record {
    range = omega arith;
    later_source = later_source;
    later_sink = later_sink;
    no_bus = refl;
    objects = same_objects;
    reckoned = λ s. absurd (omega (arith, s));
    well = λ s. omega (arith, s);
    meant = λ s. omega (arith, s);
    refused = λ s. absurd (omega (arith, s));
    read_fault = λ s. absurd (omega (arith, s));
    write_fault = λ _. (rose, stopped);
    memory = λ s. absurd (omega (arith, s));
    complete = λ fine _. absurd (fine.sink rose);
  }

  -- memory was wanting
  pub memory_ends : held1 ≡ held0 → EndsLoad left0 left1 held0 held1 source0 source1 sink0 sink1 6 None told told said said spare spare
  memory_ends unwritten = record {
    range = omega arith;
    later_source = later_source;
    later_sink = later_sink;
    no_bus = refl;
    objects = same_objects;
    reckoned = λ s. absurd (omega (arith, s));
    well = λ s. omega (arith, s);
    meant = λ s. omega (arith, s);
    refused = λ s. absurd (omega (arith, s));
    read_fault = λ s. absurd (omega (arith, s));
    write_fault = λ s. absurd (omega (arith, s));
    memory = λ _. record { unwritten = unwritten; objects = same_objects };
    complete = λ _ _. inr refl;
  }

  -- what the answer to an input that was read shows
  pub load_answered : (input : List ℕ) (status : ℕ) → ReadsInput left0 left1 input → AnswersLoad held0 held1 sink0 sink1 status input →
      EndsLoad left0 left1 held0 held1 source0 source1 sink0 sink1 status None told told said said spare spare
  load_answered input status read answers = elim answers.answer [
    | inl ran ↦ elim ran.wrote [
      | inl done ↦ rw done.0 (done_ends record {
        input = input;
        read = read;
        accepted = ran.accepted;
        plan = ran.plan;
        is_plan = ran.read;
        written = done.1;
        long = λ is faults accepted.
            in-time (with_faults faults ran.plan) accepted
            (long-starts LAG (with_faults faults ran.plan) [] (omega arith) accepted (no-offer input ran.plan ran.accepted ran.read) is);
        short = λ is faults accepted brief.
            in-time (with_faults faults ran.plan) accepted
            (short-starts LAG (with_faults faults ran.plan) [] (omega arith) accepted (no-offer input ran.plan ran.accepted ran.read) is brief);
      })
      | inr failed ↦ rw failed.0 (stopped_ends failed.1 record {
        input = input;
        read = read;
        bytes = load_text ran.plan;
        due = inr (ran.accepted, record { plan = ran.plan; read = ran.read; bytes_are = refl });
        front = failed.2;
      })
    ]
    | inr other ↦ elim other [
      | inl refused ↦ elim refused.wrote [
        | inl done ↦ rw done.0 (refused_ends record { input = input; read = read; line = refused.line; due = refused.due; written = done.1 })
        | inr failed ↦ rw failed.0 (stopped_ends failed.1 record { input = input; read = read; bytes = refused.line; due = inl refused.due; front = failed.2 })
      ]
      | inr wanting ↦ rw wanting.0 (memory_ends wanting.1)
    ]
  ]
