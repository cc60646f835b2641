-- The run of a plan comes to its end within the attempts that its items can have.
use Rattle.std.proofs.Common.{◌≡◌, ◌⊎◌, inl, inr, ℕ, zero, suc, ◌+◌, ◌<◌, ◌≤◌, List, [], ◌∷◌, length, refl, sym, ap, ◌∙◌, subst, arith}
use Rattle.std.proofs.lemmas.List.Sums.{sum_by-cons}
use Rattle.std.specs.Prelude.{map, find, sum_by, Some, None}
use Rattle.bus_formats.specs.Plans.{StationData, PlanData}
use Rattle.bus_formats.specs.declared.fault.Fault.{Fault}
use Rattle.bus_retry.specs.Retries.{next_of}
use Rattle.bus_retry.specs.declared.Choice.{Choice}
use Rattle.bus_retry.specs.declared.Choice.TheVariants.{Again, Done}
use Rattle.bus_model.specs.Memory.{TimedLoad}
use Rattle.bus_model.specs.Starts.{Entry, agenda}
use Rattle.bus_model.specs.Attempts.{Begun}
use Rattle.bus_model.specs.Message.{Present, Message}
use Rattle.bus_model.specs.Run.{Run, Next, is_at, next_item, with_message, next_attempt, attempt, attempts_after, most_attempts, first_run, first_present, run_of}
use Rattle.bus_model.proofs.OneAttempt.{attempt-none, attempt-adds}
use Rattle.std.proofs.lemmas.Option.{none-some}
use Rattle.bus_model.proofs.Options.{cases-option}
use Rattle.bus_model.proofs.PassingOn.{Passes, message-passes}
use Rattle.bus_model.proofs.AttemptsLeft.{attempts-of, attempts-left, left-found}
use Rattle.bus_model.proofs.LiveRuns.{spent, Live, next-found, turn-is, spent-listed, done-live, again-live}

-- ---- one attempt, and all

message-live : (most n : ℕ) (run : Run) (next : Next) (begun : Begun) (m : Message) (choice : Choice) → Live most n run → next_item run ≡ Some next →
    begun.entry ≡ next.entry → Passes run.stations m → begun.state.turn ≡ suc (spent run.retry) → spent run.retry ≤ length next.entry.item.retry →
    next_of begun.entry.item begun.state m.ending.ended.outcome ≡ choice → Live most (suc n) (with_message run begun choice m)
message-live most n run next begun m Done live given own passes turn few follows = done-live most n run next begun m live given own passes few
message-live most n run next begun m (Again state) live given own passes turn few follows =
    again-live most n run next begun m state live given own passes turn follows

next-live : (k : ℕ) (loads : List TimedLoad) (faults : List Fault) (most n : ℕ) (run : Run) (next : Next) → Live most n run → next_item run ≡ Some next →
    Live most (suc n) (next_attempt k loads faults run (Some next))
next-live k loads faults most n run next live given =
    message-live most n run next _ _ _ live given refl (message-passes k loads faults _ _ _ _ _ run.stations)
    (turn-is run.opening run.retry next.entry next.station.live (λ state h. ((live.due state h).counted, (live.due state h).waits)))
    (spent-listed run.retry (length next.entry.item.retry) (λ state h. (live.due state h).listed next given))
    refl

-- a run that goes on has an attempt left
some-left : (most n : ℕ) (run : Run) (next : Next) → Live most n run → next_item run ≡ Some next → n < most
some-left most n run next live given =
    let at = next-found (find (is_at run.holder) run.stations) next given in
    let few = spent-listed run.retry (length next.entry.item.retry) (λ state h. (live.due state h).listed next given) in
    omega (arith, live.bound, few, left-found run.holder run.stations at.0 next.entry at.1 at.2 at.3)

goes-on : (k : ℕ) (loads : List TimedLoad) (faults : List Fault) (most n : ℕ) (run : Run) → Live most 0 run →
    (next_item (attempts_after k loads faults n run) ≡ None) ⊎ Live most n (attempts_after k loads faults n run)
unfolding attempts_after
goes-on k loads faults most zero run live = inr live
goes-on k loads faults most (suc n) run live =
    let before = attempts_after k loads faults n run in
    elim (goes-on k loads faults most n run live) [
      | inl over ↦ inl (rw (attempt-none k loads faults before over) over)
      | inr on ↦ elim (cases-option (next_item before)) [
        | inl over ↦ inl (rw (attempt-none k loads faults before over) over)
        | inr next ↦ inr (subst (Live most (suc n)) (sym (ap (next_attempt k loads faults before) next.1))
            (next-live k loads faults most n before next.0 on next.1))
      ]
    ]

-- ---- the run of a plan

sum-attempts : (entries : List Entry) → sum_by (λ entry. 1 + length entry.item.retry) entries ≡ attempts-of entries
sum-attempts [] = refl
sum-attempts (entry ∷ entries) =
    let rest = sum-attempts entries in
    let cons = sum_by-cons (λ (entry : Entry). 1 + length entry.item.retry) entry entries in
    omega (arith, rest, cons)

first-left : (plan : PlanData) (stations : List StationData) →
    sum_by (λ station. sum_by (λ entry. 1 + length entry.item.retry) (agenda station)) stations ≡ attempts-left (map (first_present plan) stations)
first-left plan [] = refl
first-left plan (s ∷ stations) =
    let own : sum_by (λ entry. 1 + length entry.item.retry) (agenda s) ≡ attempts-of (agenda s) = sum-attempts (agenda s) in
    let rest = first-left plan stations in
    let cons = sum_by-cons (λ (station : StationData). sum_by (λ entry. 1 + length entry.item.retry) (agenda station)) s stations in
    omega (arith, own, rest, cons)

stations-left : (stations : List Present) →
    sum_by (λ station. sum_by (λ entry. 1 + length entry.item.retry) station.left) stations ≡ attempts-left stations
stations-left [] = refl
stations-left (s ∷ stations) =
    let own : sum_by (λ entry. 1 + length entry.item.retry) s.left ≡ attempts-of s.left = sum-attempts s.left in
    let rest = stations-left stations in
    let cons = sum_by-cons (λ (station : Present). sum_by (λ entry. 1 + length entry.item.retry) station.left) s stations in
    omega (arith, own, rest, cons)

live-ends : (k : ℕ) (loads : List TimedLoad) (faults : List Fault) (most : ℕ) (run : Run) → Live most 0 run →
    next_item (attempts_after k loads faults most run) ≡ None
live-ends k loads faults most run live = elim (goes-on k loads faults most most run live) [
  | inl over ↦ over
  | inr on ↦ elim (cases-option (next_item (attempts_after k loads faults most run))) [
    | inl over ↦ over
    | inr next ↦ absurd (omega (arith, some-left most most _ next.0 on next.1))
  ]
]

-- from any moment at which no retry is due, at most as many attempts as the items left can have
pub ends-from : (k : ℕ) (loads : List TimedLoad) (faults : List Fault) (most : ℕ) (run : Run) → run.retry ≡ None →
    sum_by (λ station. sum_by (λ entry. 1 + length entry.item.retry) station.left) run.stations ≤ most → next_item (attempts_after k loads faults most run) ≡ None
ends-from k loads faults most run none few =
    let same = stations-left run.stations in
    live-ends k loads faults most run record { bound = omega (arith, same, few); due = λ state h. absurd (none-some state (sym none ∙ h)) }

-- at most so many attempts
pub run-ends : (k : ℕ) (loads : List TimedLoad) (plan : PlanData) → next_item (run_of k loads plan) ≡ None
unfolding run_of
run-ends k loads plan =
    live-ends k loads plan.faults (most_attempts plan) (first_run plan)
    record { bound = omega (arith, first-left plan plan.stations); due = λ state h. absurd (none-some state h) }

attempts-few : (k : ℕ) (loads : List TimedLoad) (faults : List Fault) (n : ℕ) (run : Run) →
    length (attempts_after k loads faults n run).attempts ≤ n + length run.attempts
unfolding attempts_after
attempts-few k loads faults zero run = omega arith
attempts-few k loads faults (suc n) run =
    let before = attempts_after k loads faults n run in
    let few = attempts-few k loads faults n run in
    elim (cases-option (next_item before)) [
      | inl over ↦ rw (attempt-none k loads faults before over) (omega (arith, few))
      | inr next ↦
          let added = attempt-adds k loads faults before next.0 next.1 in
          let long : length (attempt k loads faults before).attempts ≡ suc (length before.attempts) = ap length added.1 in
          omega (arith, few, long)
    ]

-- no more than a plan's items can have
pub run-few : (k : ℕ) (loads : List TimedLoad) (plan : PlanData) → length (run_of k loads plan).attempts ≤ most_attempts plan
unfolding run_of
run-few k loads plan = omega (arith, attempts-few k loads plan.faults (most_attempts plan) (first_run plan))
