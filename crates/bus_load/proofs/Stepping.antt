-- The run of a plan in which the frames fit: each first attempt at a frame's first item starts as planned.
use Rattle.std.proofs.Common.{◌≡◌, ℕ, suc, ◌+◌, ◌-◌, ◌≤◌, Bool, false, List, ◌∷◌, length, Option, Some, None, refl, sym, ap, ◌∙◌, subst, arith}
use Rattle.std.proofs.lemmas.Bool.{true≢false}
use Rattle.std.proofs.lemmas.Option.{none-some, same_Some}
use Rattle.std.proofs.lemmas.List.Elements.{recursion_from_All}
use Rattle.std.specs.Prelude.{IfSome, IsSome, find, not, ◌==◌}
use Rattle.std.specs.List.{AllByRecursion as Each}
use Rattle.bus_formats.specs.Accepted.{HasStationRanges, HasItemRanges, IsAccepted}
use Rattle.bus_formats.specs.Forms.{answers_of}
use Rattle.bus_formats.specs.Plans.{StationData, PlanData}
use Rattle.bus_formats.specs.declared.form.Outcome.{Outcome}
use Rattle.bus_formats.specs.declared.form.Outcome.TheVariants.{Abandoned}
use Rattle.bus_formats.specs.declared.form.Shape.{Shape}
use Rattle.bus_retry.specs.Retries.{next_of}
use Rattle.bus_retry.specs.declared.Choice.{Choice}
use Rattle.bus_retry.specs.declared.Choice.TheVariants.{Again, Done}
use Rattle.bus_load.specs.InTime.{planned_tick, StartsAsPlanned}
use Rattle.bus_load.specs.Load.{message_ticks}
use Rattle.bus_load.proofs.Begins.{BeginsBy, begins-by, Rest, Tries}
use Rattle.bus_load.proofs.Keeping.{FreeBy, after-message, after-sent, After, left-after-attempt}
use Rattle.bus_load.proofs.OnTime.{IsWithinFrame, OnTime}
use Rattle.bus_load.proofs.Punctual.{Brief, quiet-by, expected, sent, some-first, command-by}
use Rattle.bus_model.specs.Attempts.{Begun, is_offer}
use Rattle.bus_model.specs.Endings.{Passing, Ending, ending_of}
use Rattle.bus_model.specs.Memory.{TimedLoad}
use Rattle.bus_model.specs.Message.{Present, Message}
use Rattle.bus_model.specs.Run.{Run, Next, is_at, after_attempt, next_item, with_message, pass_control, quiet_after}
use Rattle.bus_model.specs.Starts.{Entry, first_origin, left_after, retry_by, opening_after, start_of}
use Rattle.bus_model.specs.Strikes.{ShownBurst, burst_end, ShownAnswer}
use Rattle.bus_law_plans.specs.Entries.{IsStationOf, IsRunOf, IsNext}
use Rattle.bus_law_plans.specs.Sent.{begun_of, message_of}
use Rattle.bus_law_plans.proofs.Lists.{drop-none, zip-second, zip-with}
use Rattle.bus_law_plans.proofs.Messages.{told, replied, second-of, ending-is, IsKept, message-kept}
use Rattle.bus_law_plans.proofs.Nexts.{next-of}
use Rattle.bus_law_plans.proofs.Shown.{IsPrompt as IsPromptStation}
use Rattle.bus_law_plans.proofs.Stations.{found-beside, find-changed}
use Rattle.bus_law_plans.proofs.NotAbandoned.{ending-abandons}
use Rattle.bus_law_plans.proofs.Superseded.{IsAbandoned, ending-abandoned}

-- each entry that is left is planned by the frames before it, and offers no control
pub record IsPlannedEntry (station : StationData) (entry : Entry) : Type 0 where
  pub offset : first_origin.tick + entry.offset ≡ planned_tick station entry.frame
  pub plain : is_offer entry.item.kind ≡ false

-- the run keeps its frames on time
pub record KeepsTime (long : Bool) (station : StationData) (run : Run) : Type 0 where
  pub origin : run.origin ≡ first_origin
  pub attempts : Each (StartsAsPlanned station) run.attempts
  pub held : Present
  pub found : find (is_at run.holder) run.stations ≡ Some held
  pub planned : Each (IsPlannedEntry station) held.left
  pub by : ℕ
  pub free : FreeBy long by run.opening run.retry run.quiet_from run.runs_on held.left

each-rest : (P : Entry → Type 0) (choice : Choice) (entry : Entry) (later : List Entry) → Each P (entry ∷ later) → Each P (left_after choice (entry ∷ later))
each-rest P Done entry later all = subst (Each P) (sym (drop-none later)) all.1
each-rest P (Again state) entry later all = all

module _ (k : ℕ) (low : k ≤ 3) (long : Bool) (plan : PlanData) (accepted : IsAccepted plan) (brief : Brief long plan.faults) (loads : List TimedLoad)
    (station : StationData) (run : Run) (is : IsRunOf plan run) (keeps : KeepsTime long station run) (next : Next) (given : next_item run ≡ Some next) where
  abbrev begun : Begun
  begun = begun_of run next

  abbrev this : Message
  this = message_of k loads plan.faults run begun

  abbrev number : ℕ
  number = suc (length run.attempts)

  abbrev outcome : Outcome
  outcome = this.ending.ended.outcome

  abbrev choice : Choice
  choice = next_of next.entry.item begun.state outcome

  here : IsNext plan run next
  here = next-of plan run next is given

  ranges : HasItemRanges next.entry.item
  ranges = here.entry.ranges

  same-held : next.station ≡ keeps.held
  same-held = same_Some next.station keeps.held (sym here.found ∙ keeps.found)

  left-is : keeps.held.left ≡ next.entry ∷ here.later
  left-is = ap (λ (s : Present). s.left) (sym same-held) ∙ here.left

  planned-here : Each (IsPlannedEntry station) (next.entry ∷ here.later)
  planned-here = subst (Each (IsPlannedEntry station)) left-is keeps.planned

  prompt : Each IsPromptStation run.stations
  prompt =
      zip-second (λ (o : StationData) (s : Present). HasStationRanges o × (s.plan ≡ o)) IsPromptStation
      (λ o s h. subst (λ (p : StationData). p.terminal.delay ≤ 24) (sym h.1) h.0.terminal.delay.1) plan.stations run.stations
      (zip-with HasStationRanges (λ (o : StationData) (s : Present). IsStationOf plan (not (o.terminal.address == run.holder)) o s)
      (λ o s. HasStationRanges o × (s.plan ≡ o)) (λ o s r of. (r, of.plan_is)) plan.stations run.stations
      (recursion_from_All HasStationRanges plan.stations accepted.ranges) is.stations)

  free-here : FreeBy long keeps.by run.opening run.retry run.quiet_from run.runs_on (next.entry ∷ here.later)
  free-here = subst (λ l. FreeBy long keeps.by run.opening run.retry run.quiet_from run.runs_on l) left-is keeps.free

  begins : BeginsBy long keeps.by next.entry here.later begun.start begun.state.turn
  begins =
      subst (λ o. BeginsBy long keeps.by next.entry here.later (start_of run.opening run.retry o next.entry run.quiet_from) begun.state.turn) (sym keeps.origin)
      (begins-by long run.opening run.retry next.entry here.later run.quiet_from keeps.by next.station.live free-here.well free-here.opens free-here.quiet
      free-here.on_time)

  started : next.entry.place ≡ 1 → begun.state.turn ≡ 1 → begun.start ≡ planned_tick station next.entry.frame
  started first turn = begins.planned first turn ∙ (from-first next.entry.offset ∙ planned-here.0.offset)
    where
      from-first : (offset : ℕ) → 8 + (offset - 0) ≡ 8 + offset
      from-first offset = omega arith

  -- ---- what the message leaves

  -- by this tick all of it is over, and what ran on before it
  abbrev last : ℕ
  last = begins.by + message_ticks long next.entry.item.kind

  abbrev later-left : List Entry
  later-left = left_after choice (next.entry ∷ here.later)

  before-old : (o : Option ShownAnswer) → IfSome o (λ answer. burst_end answer.burst + 40 ≤ keeps.by) → IfSome o (λ answer. burst_end answer.burst ≤ last)
  before-old None h = tt
  before-old (Some answer) h = omega (arith, h, begins.order)

  quiet : quiet_after this.bursts ≤ last
  quiet =
      quiet-by k low long loads plan.faults brief number next.entry.item ranges planned-here.0.plain run.runs_on begun.state.channel begun.start run.stations prompt
      last (omega (arith, begins.starts)) (before-old run.runs_on free-here.old)

  abbrev first : Option ShownAnswer
  first = replied k loads plan.faults number next.entry.item run.runs_on begun.state.channel begun.start run.stations

  abbrev command : ShownBurst
  command = told k loads plan.faults number next.entry.item run.runs_on begun.state.channel begun.start run.stations

  abbrev ending_told : Ending
  ending_told = ending_of k next.entry.item (burst_end command) first
      (second-of k loads plan.faults number next.entry.item run.runs_on begun.state.channel begun.start run.stations first)

  ending : this.ending ≡ ending_told
  ending = ending-is k loads plan.faults number next.entry.item run.runs_on begun.state.channel begun.start run.stations

  runs-on : (old : ShownAnswer) → this.ending.runs_on ≡ Some old → IsAbandoned next.entry.item.abandon first this.ending old
  runs-on old on =
      subst (λ e. IsAbandoned next.entry.item.abandon first e old) (sym ending)
      (ending-abandoned k next.entry.item _ _ _ old (sym (ap (λ e. e.runs_on) ending) ∙ on))

  old-ends : (o : Option ShownAnswer) → this.ending.runs_on ≡ o → IfSome o (λ answer. burst_end answer.burst ≤ last)
  old-ends None same = tt
  old-ends (Some old) same =
      let ends = some-first k low long loads plan.faults brief number next.entry.item ranges planned-here.0.plain run.runs_on begun.state.channel begun.start
      run.stations prompt (Some old) (runs-on old same).first_is in
      omega (arith, ends, begins.starts)

  some-runs : (o : Option ShownAnswer) → this.ending.runs_on ≡ o → IsSome o → IsSome next.entry.item.abandon
  some-runs None same some = absurd (true≢false (sym some))
  some-runs (Some old) same some = (runs-on old same).may

  abandoned : outcome ≡ Abandoned → IsWithinFrame later-left × (retry_by choice ≡ None)
  abandoned gone =
      let done : choice ≡ Done = ap (next_of next.entry.item begun.state) gone in
      let on : IsSome this.ending.runs_on =
      subst (λ e. IsSome e.runs_on) (sym ending) (ending-abandons k next.entry.item _ _ _ (sym (ap (λ e. e.ended.outcome) ending) ∙ gone)) in (
        subst (λ c. IsWithinFrame (left_after c (next.entry ∷ here.later))) (sym done)
            (subst IsWithinFrame (sym (drop-none here.later)) (begins.within (some-runs this.ending.runs_on refl on))),
        ap retry_by done,
      )

  -- both channels are free for the next attempt in time, and no control passes
  record IsFree : Type 0 where
    by : ℕ
    free : FreeBy long by (opening_after outcome begun.state.channel this.ending.tick) (retry_by choice) (quiet_after this.bursts) this.ending.runs_on later-left
    passes : this.ending.passes ≡ None

  free-expected : (shape : Shape) → (answers_of next.entry.item.kind).first ≡ Some shape → IsFree
  free-expected shape expects =
      let tries : Tries long begins.by next.entry here.later begun.state.turn =
      subst (λ o. Rest long o begins.by next.entry here.later begun.state.turn) expects begins.rest in
      let after : After long next.entry here.later shape expects begins.by begun.state begins.one begins.within tries choice =
      left-after-attempt long next.entry here.later shape expects begins.by begun.state begins.one begins.within tries outcome in
      let ends = expected k low long loads plan.faults brief number next.entry.item ranges planned-here.0.plain run.runs_on begun.state.channel begun.start
      run.stations prompt shape expects in
      record {
        by = after.free;
        free = after-message long after.free last this.ending.tick (quiet_after this.bursts) begun.state.channel this.ending.runs_on (retry_by choice) later-left
            (omega (arith, after.order)) after.on_time outcome record {
              ends = omega (arith, ends.tick, begins.starts);
              quiet = quiet;
              old = old-ends this.ending.runs_on refl;
              abandoned = abandoned;
            };
        passes = ends.passes;
      }

  free-sent : (answers_of next.entry.item.kind).first ≡ None → IsFree
  free-sent none =
      let was = sent k low long loads plan.faults brief number next.entry.item ranges planned-here.0.plain run.runs_on begun.state.channel begun.start
      run.stations prompt none in
      let on_time : OnTime long (begins.by + (message_ticks long next.entry.item.kind + 4)) here.later =
      subst (λ o. Rest long o begins.by next.entry here.later begun.state.turn) none begins.rest in
      let end = command-by k low long loads plan.faults brief number next.entry.item ranges planned-here.0.plain run.runs_on begun.state.channel begun.start
      run.stations prompt in
      record {
        by = begins.by + (message_ticks long next.entry.item.kind + 4);
        free = subst (λ (e : Ending). FreeBy long (begins.by + (message_ticks long next.entry.item.kind + 4))
            (opening_after e.ended.outcome begun.state.channel e.tick) (retry_by (next_of next.entry.item begun.state e.ended.outcome)) (quiet_after this.bursts)
            e.runs_on (left_after (next_of next.entry.item begun.state e.ended.outcome) (next.entry ∷ here.later))) (sym was)
            (after-sent long (begins.by + (message_ticks long next.entry.item.kind + 4)) last begun.state.channel _ (quiet_after this.bursts) _
            (omega arith) (omega (arith, end, low, begins.starts)) quiet (subst (OnTime long _) (sym (drop-none here.later)) on_time));
        passes = ap (λ (e : Ending). e.passes) was;
      }

  free-now : IsFree
  free-now = by-shape (answers_of next.entry.item.kind).first refl
    where
      by-shape : (shape : Option Shape) → (answers_of next.entry.item.kind).first ≡ shape → IsFree
      by-shape None is_none = free-sent is_none
      by-shape (Some shape) expects = free-expected shape expects

  -- ---- the run after it

  kept : (t : Present) × (find (is_at run.holder) this.stations ≡ Some t) × IsKept next.station t
  kept = found-beside IsKept (λ s t h. ap (λ (p : StationData). p.terminal.address) h.plan_is) run.holder run.stations this.stations next.station
      (message-kept k loads plan.faults number next.entry.item run.runs_on begun.state.channel begun.start run.stations) here.found

  abbrev rest : Run
  rest = with_message run begun choice (record this { ending = record this.ending { passes = None } })

  left-now : left_after choice kept.0.left ≡ later-left
  left-now = ap (left_after choice) (kept.2.left_is ∙ here.left)

  rest-keeps : KeepsTime long station rest
  rest-keeps = record {
    origin = keeps.origin;
    attempts = (started, keeps.attempts);
    held = after_attempt begun outcome choice kept.0;
    found = find-changed run.holder (after_attempt begun outcome choice) (λ s. refl) this.stations kept.0 kept.1;
    planned = subst (Each (IsPlannedEntry station)) (sym left-now) (each-rest (IsPlannedEntry station) choice next.entry here.later planned-here);
    by = free-now.by;
    free = subst (FreeBy long free-now.by (opening_after outcome begun.state.channel this.ending.tick) (retry_by choice) (quiet_after this.bursts) this.ending.runs_on)
        (sym left-now) free-now.free;
  }

  by-passing : (passes : Option Passing) → this.ending.passes ≡ passes → KeepsTime long station (pass_control passes rest)
  by-passing None same = rest-keeps
  by-passing (Some p) same = absurd (none-some p (sym free-now.passes ∙ same))

  -- an attempt keeps the frames on time
  pub message-keeps : KeepsTime long station (with_message run begun choice this)
  message-keeps = by-passing this.ending.passes refl
