-- Each run of an undisturbed plan has its bursts in order.
use Rattle.std.proofs.Common.{◌≡◌, ℕ, zero, suc, ◌+◌, ◌≤◌, List, [], ◌∷◌, ◌++◌, length, map, drop, refl, ap, sym, subst, ◌∙◌, arith}
use Rattle.std.proofs.lemmas.Bool.{true≢false}
use Rattle.std.proofs.lemmas.List.Elements.{recursion_from_All}
use Rattle.std.specs.List.{AllByRecursion as Each}
use Rattle.std.specs.Prelude.{not, ◌==◌, IsSome, IfSome, Option, Some, None}
use Rattle.bus_base.specs.declared.samples.Channel.{Channel}
use Rattle.bus_line.specs.Channels.{WholeBurst}
use Rattle.bus_formats.specs.Accepted.{HasStationRanges, IsAccepted}
use Rattle.bus_formats.specs.Plans.{ItemData, FrameData, StationData, PlanData}
use Rattle.bus_formats.specs.declared.fault.Fault.{Fault}
use Rattle.bus_formats.specs.declared.form.Outcome.TheVariants.{Abandoned}
use Rattle.bus_retry.specs.Retries.{next_of}
use Rattle.bus_retry.specs.declared.Choice.{Choice}
use Rattle.bus_model.specs.Attempts.{Begun}
use Rattle.bus_model.specs.Endings.{Passing, Ending}
use Rattle.bus_model.specs.Memory.{TimedLoad}
use Rattle.bus_model.specs.Message.{Present, Message, message}
use Rattle.bus_model.specs.Run.{Run, Next, next_item, pass_control, with_message, next_attempt, attempt, attempts_after, most_attempts, first_run, run_of}
use Rattle.bus_model.specs.Starts.{Entry, entries_in, entries_from, repeated, agenda}
use Rattle.bus_model.specs.Strikes.{ShownAnswer}
use Rattle.bus_law_listing.specs.Listing.{burst_found}
use Rattle.bus_law_plans.specs.Bounds.{IsShort}
use Rattle.bus_law_plans.specs.Entries.{IsStationOf, AreStationsOf, IsRunOf, IsNext}
use Rattle.bus_law_plans.specs.Sent.{begun_of, message_of}
use Rattle.bus_law_plans.proofs.Agendas.{each-repeated}
use Rattle.bus_law_plans.proofs.EachRun.{each-run}
use Rattle.bus_law_plans.proofs.FirstRun.{first-run}
use Rattle.bus_law_plans.proofs.Lists.{each-append, each-weaker, zip-with, zip-second}
use Rattle.bus_law_plans.proofs.Messages.{ending-is}
use Rattle.bus_law_plans.proofs.NextRun.{attempt-run}
use Rattle.bus_law_plans.proofs.Nexts.{next-of}
use Rattle.bus_law_plans.proofs.NotAbandoned.{ending-abandons}
use Rattle.bus_law_plans.proofs.Shown.{EndsShort, bursts-short}
use Rattle.bus_law_plans.proofs.Stations.{found-each}
use Rattle.bus_law_judge.specs.Rows.{AreInOrder}
use Rattle.bus_law_clean.specs.Messages.{IsPrompt, LeavesInOrder}
use Rattle.bus_law_clean.specs.Undisturbed.{AbandonNone, IsUndisturbed}
use Rattle.bus_law_clean.proofs.MessageJudged.{leaves-in-order}
use Rattle.bus_law_clean.proofs.RunOrder.{opens_at, KeepsOrder, starts-late, none-waits, order-after, order-passed, row-is, first-order}

-- ---- no message that is left may be abandoned

-- the message of an entry
abbrev IsKept : Entry → Type 0
IsKept entry = entry.item.abandon ≡ None

-- of a frame
in-frame : (frame offset place : ℕ) (items : List ItemData) → Each (λ (i : ItemData). i.abandon ≡ None) items → Each IsKept (entries_in frame offset place items)
in-frame frame offset place [] all = tt
in-frame frame offset place (item ∷ items) all = (all.0, in-frame frame offset (place + 1) items all.1)

-- of all frames
in-frames : (frame offset : ℕ) (frames : List FrameData) → Each AbandonNone frames → Each IsKept (entries_from frame offset frames)
in-frames frame offset [] all = tt
in-frames frame offset (f ∷ frames) all =
    each-append IsKept (entries_in frame offset 1 f.items) (entries_from (frame + 1) (offset + f.ticks) frames)
    (in-frame frame offset 1 f.items all.0) (in-frames (frame + 1) (offset + f.ticks) frames all.1)

-- of an agenda
in-agenda : (station : StationData) → Each AbandonNone station.frames → Each IsKept (agenda station)
unfolding agenda
in-agenda station all = in-frames 1 0 (repeated station.repeat station.frames) (each-repeated station.repeat AbandonNone station.frames all)

-- of what is left of it
each-drop : (n : ℕ) (entries : List Entry) → Each IsKept entries → Each IsKept (drop n entries)
each-drop zero [] all = tt
each-drop zero (e ∷ entries) all = all
each-drop (suc n) [] all = tt
each-drop (suc n) (e ∷ entries) all = each-drop n entries all.1

module _ (plan : PlanData) (holder : ℕ) (stations : List Present) (are : AreStationsOf plan holder plan.stations stations) where
  -- of any station of a run
  kept-stations : IsUndisturbed plan → Each (λ (s : Present). Each IsKept s.left) stations
  kept-stations is =
      zip-second (λ (o : StationData) (s : Present). Each IsKept s.left) (λ (s : Present). Each IsKept s.left) (λ o s h. h) plan.stations stations
      (zip-with (λ (o : StationData). Each AbandonNone o.frames) (λ (o : StationData) (s : Present). IsStationOf plan (not (o.terminal.address == holder)) o s) (λ (o : StationData) (s : Present). Each IsKept s.left)
      (λ o s all of. subst (Each IsKept) (sym of.rest.1) (each-drop of.rest.0 (agenda o) (in-agenda o all))) plan.stations stations is.kept are)

  -- and its stations are prompt
  prompt-stations : IsAccepted plan → Each IsPrompt stations
  prompt-stations accepted =
      zip-second (λ (o : StationData) (s : Present). IsPrompt s) IsPrompt (λ o s h. h) plan.stations stations
      (zip-with HasStationRanges (λ (o : StationData) (s : Present). IsStationOf plan (not (o.terminal.address == holder)) o s) (λ (o : StationData) (s : Present). IsPrompt s)
      (λ o s ranges of. record {
        address = subst (λ (p : StationData). p.terminal.address ≤ 31) (sym of.plan_is) ranges.terminal.address;
        least = subst (λ (p : StationData). 8 ≤ p.terminal.delay) (sym of.plan_is) ranges.terminal.delay.0;
        most = subst (λ (p : StationData). p.terminal.delay ≤ 24) (sym of.plan_is) ranges.terminal.delay.1;
      }) plan.stations stations (recursion_from_All HasStationRanges plan.stations accepted.ranges) are)

-- ---- one attempt more

-- the bursts of a run are in order, and its next message follows them so; no answer runs on
pub record IsInOrder (k : ℕ) (run : Run) : Type 0 where
  pub row : KeepsOrder k (map burst_found run.bursts) run.opening run.quiet_from
  pub runs_on : run.runs_on ≡ None

-- a message that no fault strikes, and beside which no answer runs on
plain-message : (k : ℕ) (loads : List TimedLoad) (faults : List Fault) (n : ℕ) (item : ItemData) (on : Option ShownAnswer) (c : Channel) (start : ℕ) (stations : List Present) →
    faults ≡ [] → on ≡ None → message k loads faults n item on c start stations ≡ message k loads [] n item None c start stations
plain-message k loads faults n item on c start stations none off =
    ap (λ fs. message k loads fs n item on c start stations) none ∙ ap (λ o. message k loads [] n item o c start stations) off

module _ (k : ℕ) (low : k ≤ 3) (plan : PlanData) (accepted : IsAccepted plan) (undisturbed : IsUndisturbed plan) (loads : List TimedLoad) (run : Run)
    (is : IsRunOf plan run) (ordered : IsInOrder k run) (next : Next) (given : next_item run ≡ Some next) (choice : Choice) where
  abbrev begun : Begun
  begun = begun_of run next

  abbrev this : Message
  this = message_of k loads plan.faults run begun

  abbrev number : ℕ
  number = suc (length run.attempts)

  abbrev row : List WholeBurst
  row = map burst_found run.bursts

  here : IsNext plan run next
  here = next-of plan run next is given

  -- the message may not be abandoned
  kept : next.entry.item.abandon ≡ None
  kept =
      let all : Each IsKept next.station.left =
      (found-each (λ (s : Present). Each IsKept s.left) run.holder run.stations next.station
      (kept-stations plan run.holder run.stations is.stations undisturbed) here.found).0 in
      (subst (Each IsKept) here.left all).0

  prompt : Each IsPrompt run.stations
  prompt = prompt-stations plan run.holder run.stations is.stations accepted

  -- it starts late enough
  late : opens_at run.opening run.quiet_from ≤ begun.start
  late = starts-late run.opening run.retry run.origin next.entry run.quiet_from ordered.row.ordinary

  -- it is one of the table without faults
  plain : this ≡ message k loads [] number next.entry.item None begun.state.channel begun.start run.stations
  plain = plain-message k loads plan.faults number next.entry.item run.runs_on begun.state.channel begun.start run.stations undisturbed.faults ordered.runs_on

  -- its bursts are short
  short : Each IsShort this.bursts
  short =
      each-weaker (EndsShort (begun.start + 4840)) IsShort (λ b h. h.short) this.bursts
      (bursts-short k (omega (arith, low)) loads plan.faults number next.entry.item here.entry.ranges run.runs_on begun.state.channel begun.start run.stations
      (each-weaker IsPrompt (λ (s : Present). s.plan.terminal.delay ≤ 24) (λ s h. h.most) run.stations prompt) (begun.start + 4840) (omega arith)
      (subst (λ o. IfSome o (λ (old : ShownAnswer). EndsShort (begun.start + 4840) old.burst)) (sym ordered.runs_on) tt))

  -- so it keeps the row in order
  leaves : LeavesInOrder k row begun.state.channel begun.start this
  leaves =
      subst (LeavesInOrder k row begun.state.channel begun.start) (sym plain)
      (leaves-in-order k low loads number next.entry.item here.entry.ranges here.entry.sendable.form here.entry.sendable.apart kept begun.state.channel begun.start
      run.stations prompt row ordered.row.in_order (ordered.row.apart begun.start late)
      (none-waits k row run.opening run.quiet_from ordered.row begun.state.channel begun.start late)
      (subst (λ (m : Message). Each IsShort m.bursts) plain short))

  -- it isn't abandoned
  never : this.ending.ended.outcome ≡ Abandoned → ⊥
  never outcome =
      let ending : this.ending ≡ _ = ending-is k loads plan.faults number next.entry.item run.runs_on begun.state.channel begun.start run.stations in
      let on : IsSome this.ending.runs_on =
      subst (λ (e : Ending). IsSome e.runs_on) (sym ending)
      (ending-abandons k next.entry.item _ _ _ (sym (ap (λ (e : Ending). e.ended.outcome) ending) ∙ outcome)) in
      let some : IsSome {T = ShownAnswer} None = subst (λ (o : Option ShownAnswer). IsSome o) leaves.keeps.runs_on on in
      absurd (true≢false (sym some))

  -- the run with the attempt, before control passes
  abbrev rest : Run
  rest = with_message run begun choice (record this { ending = record this.ending { passes = None } })

  -- the row with the bursts of the message
  row-now : map burst_found rest.bursts ≡ leaves.wholes ++ row
  row-now = row-is k row run.opening run.quiet_from ordered.row begun.state.channel begun.start late this leaves run.bursts refl

  -- whether or not control passes
  by-passing : (passes : Option Passing) → this.ending.passes ≡ passes → IsInOrder k (pass_control passes rest)
  by-passing None same = record {
    row = subst (λ r. KeepsOrder k r rest.opening rest.quiet_from) (sym row-now)
        (order-after k row run.opening run.quiet_from ordered.row begun.state.channel begun.start late this leaves this.ending.ended.outcome refl never
        begun.state.channel this.ending.tick);
    runs_on = leaves.keeps.runs_on;
  }
  by-passing (Some p) same = record {
    row = subst (λ r. KeepsOrder k r (pass_control (Some p) rest).opening rest.quiet_from) (sym row-now)
        (order-passed k row run.opening run.quiet_from ordered.row begun.state.channel begun.start late this leaves p same);
    runs_on = leaves.keeps.runs_on;
  }

  -- an attempt at the next item keeps the bursts in order
  message-in-order : IsInOrder k (with_message run begun choice this)
  message-in-order = by-passing this.ending.passes refl

module _ (k : ℕ) (low : k ≤ 3) (plan : PlanData) (accepted : IsAccepted plan) (undisturbed : IsUndisturbed plan) (loads : List TimedLoad) where
  -- an attempt keeps it so
  attempt-in-order : (run : Run) → IsRunOf plan run → IsInOrder k run → IsInOrder k (attempt k loads plan.faults run)
  attempt-in-order run is ordered = by-next (next_item run) refl
    where
      by-next : (next : Option Next) → next_item run ≡ next → IsInOrder k (next_attempt k loads plan.faults run next)
      by-next None given = ordered
      by-next (Some next) given =
          message-in-order k low plan accepted undisturbed loads run is ordered next given
          (next_of (begun_of run next).entry.item (begun_of run next).state (message_of k loads plan.faults run (begun_of run next)).ending.ended.outcome)

  -- ---- each run

  -- so it is after each number of attempts
  pub each-in-order : (n : ℕ) → AreInOrder k (map burst_found (attempts_after k loads plan.faults n (first_run plan)).bursts)
  each-in-order n =
      (each-run (λ run. IsRunOf plan run × IsInOrder k run) k loads plan.faults (first_run plan)
      (first-run plan accepted, record { row = first-order k; runs_on = refl })
      (λ run both. (attempt-run k plan loads run accepted both.0, attempt-in-order run both.0 both.1)) n).1.row.in_order

  -- and in the whole run
  pub run-in-order : AreInOrder k (map burst_found (run_of k loads plan).bursts)
  unfolding run_of
  run-in-order = each-in-order (most_attempts plan)
