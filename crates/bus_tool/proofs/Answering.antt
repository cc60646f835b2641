-- What the answer to an input shows, from what the run of its plan shows.
use Rattle.std.proofs.Common.{◌≡◌, ℕ, ◌≤◌, List, length, Option, None, Ok, false, refl, inl, inr, arith}
use Rattle.std.specs.Prelude.{nat_lt}
use Rattle.std.proofs.lemmas.Bool.Decides.{nat_tests}
use Rattle.bus_formats.specs.Accepted.{IsAccepted}
use Rattle.bus_formats.specs.Plans.{PlanData, without_subsystems}
use Rattle.bus_formats.specs.declared.log.Delivery.{Delivery}
use Rattle.bus_plan.specs.PlanOf.{plan_of_bytes}
use Rattle.bus_run.specs.declared.finished.FinishedBus.{FinishedBus}
use Rattle.bus_tool.specs.Answers.{Answers, AnswersRun}
use Rattle.bus_tool.specs.Objects.{AfterWant}
use Rattle.bus_run.proofs.RoomLaws.{same-room}
use Rattle.bus_tool.specs.Due.{input_refusal}
use Rattle.bus_tool.specs.Texts.{plan_run}
use Rattle.bus_tool.specs.declared.text.Text.{Text}
use Rattle.bus_tool.specs.declared.text.Text.TheVariants.{Report, Capture}

-- a text that isn't too long and describes a plan is not refused
pub accepted-input : (input : List ℕ) (plan : PlanData) → length input ≤ 4194304 → plan_of_bytes input ≡ Ok plan → input_refusal input ≡ None
accepted-input input plan short read =
    let test : nat_lt 4194304 (length input) ≡ false = grind (arith, nat_tests, short) in
    rw (test, read) refl

-- objects that nobody touched
pub untouched : (told : List (Option (List Delivery))) (said : List (List ℕ)) (spare : List ℕ) (text : Text) →
    AfterWant told told said said spare spare text
untouched told said spare Report = record { told = refl; said = refl; spare = same-room spare }
untouched told said spare Capture = record { told = refl; said = refl; spare = refl }

-- memory was wanting before a plan was read
pub wants-at-once : (held : Option (List ℕ)) (sink : ℕ) (told : List (Option (List Delivery))) (said : List (List ℕ)) (spare : List ℕ) (text : Text)
    (input : List ℕ) → Answers held held sink sink 6 None told told said said spare spare text input
wants-at-once held sink told said spare text input = record {
  later = omega arith;
  answer = inr (inr record { status_is = refl; no_bus = refl; unwritten = refl; objects = untouched told said spare text });
}

module _ (held0 held1 : Option (List ℕ)) (sink0 sink1 status : ℕ) (bus : Option FinishedBus)
    (told0 told1 : List (Option (List Delivery))) (said0 said1 : List (List ℕ)) (spare0 spare1 : List ℕ) (text : Text) (plan : PlanData) where
  -- a plan was run for its report
  pub reports : text ≡ Report → AnswersRun held0 held1 sink0 sink1 status bus told0 told1 said0 said1 spare0 spare1 Report plan →
      AnswersRun held0 held1 sink0 sink1 status bus told0 told1 said0 said1 spare0 spare1 text (plan_run text plan)
  reports is ran = rw is ran

  -- a plan was run for its capture, without its subsystems
  pub captures : (without : PlanData) → text ≡ Capture → without ≡ without_subsystems plan →
      AnswersRun held0 held1 sink0 sink1 status bus told0 told1 said0 said1 spare0 spare1 Capture without →
      AnswersRun held0 held1 sink0 sink1 status bus told0 told1 said0 said1 spare0 spare1 text (plan_run text plan)
  captures without is same ran = rw is (rw same at ran)

  -- the plan of an input was run
  pub answers-input : (input : List ℕ) → length input ≤ 4194304 → plan_of_bytes input ≡ Ok plan → IsAccepted plan →
      AnswersRun held0 held1 sink0 sink1 status bus told0 told1 said0 said1 spare0 spare1 text (plan_run text plan) →
      Answers held0 held1 sink0 sink1 status bus told0 told1 said0 said1 spare0 spare1 text input
  answers-input input short read is_accepted answers = record {
    later = answers.later;
    answer = elim answers.answer [
      | inl run ↦ inl record {
        accepted = accepted-input input plan short read;
        plan = plan;
        read = read;
        is_accepted = is_accepted;
        objects = run.0;
        wrote = run.1;
      }
      | inr wanting ↦ inr (inr wanting)
    ];
  }
