-- Each attempt of the station that starts leaves its next one near.
use Rattle.std.proofs.Common.{◌≡◌, ℕ, suc, ◌+◌, ◌≤◌, false, List, [], ◌∷◌, ◌++◌, length, Option, Some, None, refl, sym, ap, ◌∙◌, subst, arith}
use Rattle.std.proofs.lemmas.Bool.{true≢false}
use Rattle.std.proofs.lemmas.Option.{none-some, same_Some}
use Rattle.std.specs.Prelude.{IfSome, IsSome, find, fold, max}
use Rattle.std.specs.List.{AllByRecursion as Each}
use Rattle.bus_formats.specs.Accepted.{HasItemRanges}
use Rattle.bus_formats.specs.Plans.{PlanData}
use Rattle.bus_formats.specs.declared.form.Outcome.{Outcome}
use Rattle.bus_formats.specs.declared.form.Outcome.TheVariants.{Abandoned}
use Rattle.bus_retry.specs.Retries.{next_of}
use Rattle.bus_retry.specs.declared.Choice.{Choice}
use Rattle.bus_retry.specs.declared.Choice.TheVariants.{Again, Done}
use Rattle.bus_load.specs.Living.{IsSoonContinued}
use Rattle.bus_load.proofs.Closing.{Closing, runs, over, closing-of}
use Rattle.bus_load.proofs.Near.{frame_start, over_at, IsEntryNear, IsLeftNear, IsBegun, OpensNear, starts-near, starts-planned, left-near, usual-near}
use Rattle.bus_load.proofs.OnTime.{IsWithinFrame}
use Rattle.bus_load.proofs.Paced.{AreOrdered, SameFrame, ArePaced}
use Rattle.bus_model.specs.Attempts.{Begun, is_offer}
use Rattle.bus_model.specs.Endings.{Passing, ending_of}
use Rattle.bus_model.specs.Memory.{TimedLoad}
use Rattle.bus_model.specs.Message.{Present, Message, abandoned_bursts, answer_bursts}
use Rattle.bus_model.specs.Outside.{run_out, stop_by}
use Rattle.bus_model.specs.Run.{Run, Next, is_at, after_attempt, next_item, with_message, pass_control, quiet_after}
use Rattle.bus_model.specs.Starts.{Entry, first_origin, left_after, retry_by, opening_after, start_of}
use Rattle.bus_model.specs.Strikes.{ShownBurst, burst_end, ShownAnswer}
use Rattle.bus_law_plans.specs.Entries.{IsRunOf, IsNext}
use Rattle.bus_law_plans.specs.Sent.{begun_of, message_of}
use Rattle.bus_law_plans.proofs.Lists.{drop-none}
use Rattle.bus_law_plans.proofs.Messages.{told, replied, second-of, ending-is, bursts-are, IsKept, message-kept}
use Rattle.bus_law_plans.proofs.Nexts.{next-of}
use Rattle.bus_law_plans.proofs.NotAbandoned.{ending-abandons}
use Rattle.bus_law_plans.proofs.Stations.{found-beside, find-changed}
use Rattle.bus_law_plans.proofs.Superseded.{IsAbandoned, ending-abandoned}
use Rattle.bus_law_plans.proofs.Ticked.{EndsBy}

-- the run keeps its next attempt near
pub record KeepsNear (plan : PlanData) (most : ℕ) (run : Run) : Type 0 where
  pub origin : run.origin ≡ first_origin
  pub holder : run.holder ≡ plan.start
  pub held : Present
  pub found : find (is_at run.holder) run.stations ≡ Some held
  pub paced : ArePaced most held.left
  pub ordered : AreOrdered held.left
  pub plain : Each (λ (e : Entry). is_offer e.item.kind ≡ false) held.left
  pub opens : OpensNear (over_at run.runs_on run.quiet_from) run.opening run.retry held.left
  pub left : IsLeftNear most run.quiet_from run.retry held.left

-- ---- all bursts are over where both channels are quiet

quiet-from : (tick : ℕ) (bursts : List ShownBurst) →
    (tick ≤ fold (λ t burst. max t (burst_end burst)) tick bursts)
    × Each (λ b. burst_end b ≤ fold (λ t burst. max t (burst_end burst)) tick bursts) bursts
quiet-from tick [] = (omega arith, tt)
quiet-from tick (burst ∷ bursts) =
    let rest = quiet-from (max tick (burst_end burst)) bursts in
    (omega (arith, rest.0), (omega (arith, rest.0), rest.1))

each-later : {X : Type 0} (P : X → Type 0) (xs ys : List X) → Each P (xs ++ ys) → Each P ys
each-later P [] ys all = all
each-later P (x ∷ xs) ys all = each-later P xs ys all.1

first-over : (high : ℕ) (a b : Option ShownAnswer) → Each (λ x. burst_end x ≤ high) (answer_bursts None a b) → EndsBy high a × EndsBy high b
first-over high None None all = (tt, tt)
first-over high None (Some b) all = (tt, all.0)
first-over high (Some a) None all = (all.0, tt)
first-over high (Some a) (Some b) all = (all.0, all.1.0)

-- ---- what is left

each-rest : (P : List Entry → Type 0) (choice : Choice) (entry : Entry) (later : List Entry) → P (entry ∷ later) → P later → P (left_after choice (entry ∷ later))
each-rest P Done entry later here rest = subst P (sym (drop-none later)) rest
each-rest P (Again state) entry later here rest = here

begun-next : (tick : ℕ) (entry : Entry) (later : List Entry) → frame_start entry ≤ tick → SameFrame entry later → IsWithinFrame later → IsBegun tick later
begun-next tick entry [] began same within = tt
begun-next tick entry (next ∷ later) began same within = let low = same within in (within, omega (arith, low, began))

over-late : (on : Option ShownAnswer) (z : ℕ) → z ≤ over_at on z
over-late None z = omega arith
over-late (Some answer) z = omega arith

module _ (k : ℕ) (low : k ≤ 3) (plan : PlanData) (loads : List TimedLoad) (most : ℕ) (settles : 40 ≤ most)
    (run : Run) (is : IsRunOf plan run) (keeps : KeepsNear plan most run) (next : Next) (given : next_item run ≡ Some next) where
  abbrev begun : Begun
  begun = begun_of run next

  abbrev this : Message
  this = message_of k loads plan.faults run begun

  abbrev number : ℕ
  number = suc (length run.attempts)

  abbrev outcome : Outcome
  outcome = this.ending.ended.outcome

  abbrev choice : Choice
  choice = next_of next.entry.item begun.state outcome

  here : IsNext plan run next
  here = next-of plan run next is given

  ranges : HasItemRanges next.entry.item
  ranges = here.entry.ranges

  same-held : next.station ≡ keeps.held
  same-held = same_Some next.station keeps.held (sym here.found ∙ keeps.found)

  left-is : keeps.held.left ≡ next.entry ∷ here.later
  left-is = ap (λ (s : Present). s.left) (sym same-held) ∙ here.left

  paced-here : ArePaced most (next.entry ∷ here.later)
  paced-here = subst (ArePaced most) left-is keeps.paced

  ordered-here : AreOrdered (next.entry ∷ here.later)
  ordered-here = subst AreOrdered left-is keeps.ordered

  plain-here : Each (λ (e : Entry). is_offer e.item.kind ≡ false) (next.entry ∷ here.later)
  plain-here = subst (Each (λ (e : Entry). is_offer e.item.kind ≡ false)) left-is keeps.plain

  opens-here : OpensNear (over_at run.runs_on run.quiet_from) run.opening run.retry (next.entry ∷ here.later)
  opens-here = subst (OpensNear (over_at run.runs_on run.quiet_from) run.opening run.retry) left-is keeps.opens

  near-here : IsEntryNear most run.quiet_from run.retry next.entry
  near-here = subst (IsLeftNear most run.quiet_from run.retry) left-is keeps.left

  -- ---- its start

  pub start-near : begun.start ≤ over_at run.runs_on run.quiet_from + most
  start-near =
      subst (λ o. start_of run.opening run.retry o next.entry run.quiet_from ≤ over_at run.runs_on run.quiet_from + most) (sym keeps.origin)
      (starts-near most (over_at run.runs_on run.quiet_from) run.quiet_from settles (over-late run.runs_on run.quiet_from) next.entry here.later paced-here.0
      run.opening run.retry opens-here near-here)

  start-planned : frame_start next.entry ≤ begun.start
  start-planned =
      subst (λ o. frame_start next.entry ≤ start_of run.opening run.retry o next.entry run.quiet_from) (sym keeps.origin)
      (starts-planned most (over_at run.runs_on run.quiet_from) run.quiet_from settles (over-late run.runs_on run.quiet_from) next.entry here.later paced-here.0
      run.opening run.retry opens-here near-here)

  -- ---- its end

  abbrev command : ShownBurst
  command = told k loads plan.faults number next.entry.item run.runs_on begun.state.channel begun.start run.stations

  abbrev first : Option ShownAnswer
  first = replied k loads plan.faults number next.entry.item run.runs_on begun.state.channel begun.start run.stations

  abbrev second : Option ShownAnswer
  second = second-of k loads plan.faults number next.entry.item run.runs_on begun.state.channel begun.start run.stations first

  abbrev quiet : ℕ
  quiet = quiet_after this.bursts

  ending : this.ending ≡ ending_of k next.entry.item (burst_end command) first second
  ending = ending-is k loads plan.faults number next.entry.item run.runs_on begun.state.channel begun.start run.stations

  closing : Closing (burst_end command) first second this.ending
  closing =
      subst (Closing (burst_end command) first second) (sym ending)
      (closing-of k low next.entry.item ranges.abandon plain-here.0 (burst_end command) first second)

  all-over : Each (λ (b : ShownBurst). burst_end b ≤ quiet) (command ∷ answer_bursts this.ending.runs_on first second)
  all-over =
      each-later (λ (b : ShownBurst). burst_end b ≤ quiet) (abandoned_bursts run.runs_on command) (command ∷ answer_bursts this.ending.runs_on first second)
      (subst (Each (λ (b : ShownBurst). burst_end b ≤ quiet))
      (bursts-are k loads plan.faults number next.entry.item run.runs_on begun.state.channel begun.start run.stations) (quiet-from 0 this.bursts).1)

  began : frame_start next.entry ≤ quiet
  began = omega (arith, start-planned, all-over.0)

  abbrev later-left : List Entry
  later-left = left_after choice (next.entry ∷ here.later)

  -- what it leaves
  record IsLeft : Type 0 where
    opens : OpensNear (over_at this.ending.runs_on quiet) (opening_after outcome begun.state.channel this.ending.tick) (retry_by choice) later-left
    passes : this.ending.passes ≡ None

  runs-left : (old : ShownAnswer) → this.ending.runs_on ≡ Some old → burst_end command ≤ suc this.ending.tick → suc this.ending.tick ≤ burst_end old.burst →
      this.ending.passes ≡ None → IsLeft
  runs-left old on after before passes =
      let by : IsAbandoned next.entry.item.abandon first this.ending old =
      subst (λ e. IsAbandoned next.entry.item.abandon first e old) (sym ending)
      (ending-abandoned k next.entry.item _ _ _ old (sym (ap (λ e. e.runs_on) ending) ∙ on)) in
      let done : choice ≡ Done = ap (next_of next.entry.item begun.state) by.outcome in
      let begins : IsBegun (suc this.ending.tick) here.later =
      begun-next (suc this.ending.tick) next.entry here.later (omega (arith, start-planned, after)) ordered-here.0.next (ordered-here.0.within by.may) in
      let opens : OpensNear (over_at (Some old) quiet) (opening_after Abandoned begun.state.channel this.ending.tick) None (left_after Done (next.entry ∷ here.later)) =
      (omega (arith, before), refl, subst (IsBegun (suc this.ending.tick)) (sym (drop-none here.later)) begins) in
      record {
        opens =
            subst (λ o. OpensNear (over_at o quiet) (opening_after outcome begun.state.channel this.ending.tick) (retry_by choice) later-left) (sym on)
            (subst (λ c. OpensNear (over_at (Some old) quiet) (opening_after outcome begun.state.channel this.ending.tick) (retry_by c)
            (left_after c (next.entry ∷ here.later))) (sym done)
            (subst (λ o. OpensNear (over_at (Some old) quiet) (opening_after o begun.state.channel this.ending.tick) None
            (left_after Done (next.entry ∷ here.later))) (sym by.outcome) opens));
        passes = passes;
      }

  never-abandoned : this.ending.runs_on ≡ None → outcome ≡ Abandoned → ⊥
  never-abandoned none gone =
      let on : IsSome this.ending.runs_on =
      subst (λ e. IsSome e.runs_on) (sym ending) (ending-abandons k next.entry.item _ _ _ (sym (ap (λ e. e.ended.outcome) ending) ∙ gone)) in
      true≢false (sym (subst IsSome none on))

  left-by : Closing (burst_end command) first second this.ending → IsLeft
  left-by (runs old on after before passes) = runs-left old on after before passes
  left-by (over none prompt) =
      let answers : Each (λ (b : ShownBurst). burst_end b ≤ quiet) (answer_bursts None first second) =
      subst (λ o. Each (λ (b : ShownBurst). burst_end b ≤ quiet) (answer_bursts o first second)) none all-over.1 in
      let both = first-over quiet first second answers in
      let soon = prompt quiet all-over.0 both.0 both.1 in
      record {
        opens = subst (λ o. OpensNear (over_at o quiet) (opening_after outcome begun.state.channel this.ending.tick) (retry_by choice) later-left) (sym none)
            (usual-near quiet this.ending.tick begun.state.channel (retry_by choice) later-left outcome soon.tick (never-abandoned none));
        passes = soon.passes;
      }

  left-now : IsLeft
  left-now = left-by closing

  -- ---- the run after it

  kept : (t : Present) × (find (is_at run.holder) this.stations ≡ Some t) × IsKept next.station t
  kept = found-beside IsKept (λ s t h. ap (λ (p : _). p.terminal.address) h.plan_is) run.holder run.stations this.stations next.station
      (message-kept k loads plan.faults number next.entry.item run.runs_on begun.state.channel begun.start run.stations) here.found

  abbrev rest : Run
  rest = with_message run begun choice (record this { ending = record this.ending { passes = None } })

  left-same : later-left ≡ left_after choice kept.0.left
  left-same = sym (ap (left_after choice) (kept.2.left_is ∙ here.left))

  rest-keeps : KeepsNear plan most rest
  rest-keeps = record {
    origin = keeps.origin;
    holder = keeps.holder;
    held = after_attempt begun outcome choice kept.0;
    found = find-changed run.holder (after_attempt begun outcome choice) (λ s. refl) this.stations kept.0 kept.1;
    paced = subst (ArePaced most) left-same (each-rest (ArePaced most) choice next.entry here.later paced-here paced-here.2);
    ordered = subst AreOrdered left-same (each-rest AreOrdered choice next.entry here.later ordered-here ordered-here.1);
    plain = subst (Each (λ (e : Entry). is_offer e.item.kind ≡ false)) left-same
        (each-rest (Each (λ (e : Entry). is_offer e.item.kind ≡ false)) choice next.entry here.later plain-here plain-here.1);
    opens = subst (OpensNear (over_at this.ending.runs_on quiet) (opening_after outcome begun.state.channel this.ending.tick) (retry_by choice)) left-same left-now.opens;
    left = subst (IsLeftNear most quiet (retry_by choice)) left-same
        (left-near most quiet next.entry here.later began paced-here.1 ordered-here.0.next choice);
  }

  by-passing : (passes : Option Passing) → this.ending.passes ≡ passes → KeepsNear plan most (pass_control passes rest)
  by-passing None same = rest-keeps
  by-passing (Some p) same = absurd (none-some p (sym left-now.passes ∙ same))

  -- an attempt keeps the next one near
  pub message-near : KeepsNear plan most (with_message run begun choice this)
  message-near = by-passing this.ending.passes refl

-- and it starts soon
out-is : (on : Option ShownAnswer) (run : Run) → over_at on run.quiet_from ≡ (run_out on run).quiet_from
out-is None run = refl
out-is (Some answer) run = refl

pub near-continued : (k : ℕ) → k ≤ 3 → (plan : PlanData) (loads : List TimedLoad) (most : ℕ) → 40 ≤ most → (run : Run) → IsRunOf plan run → KeepsNear plan most run →
    IsSoonContinued plan most run
near-continued k low plan loads most settles run is keeps = record { holder = keeps.holder; next = by-next (next_item run) refl }
  where
    by-next : (next : Option Next) → next_item run ≡ next → IfSome (stop_by run next) (λ start. start ≤ (run_out run.runs_on run).quiet_from + most)
    by-next None given = tt
    by-next (Some next) given =
        subst (λ t. (begun_of run next).start ≤ t + most) (out-is run.runs_on run) (start-near k low plan loads most settles run is keeps next given)
