-- The whole run of a plan whose station that starts offers no control: it is soon continued.
use Rattle.std.proofs.Common.{◌≡◌, ℕ, ◌+◌, ◌-◌, ◌≤◌, Bool, true, false, List, [], ◌∷◌, map, Option, Some, None, refl, sym, ◌∙◌, arith}
use Rattle.std.proofs.lemmas.Bool.{true≢false}
use Rattle.std.proofs.lemmas.Option.{none-some}
use Rattle.std.specs.Prelude.{find, if◌then◌else◌}
use Rattle.bus_formats.specs.Accepted.{IsAccepted}
use Rattle.bus_formats.specs.Plans.{StationData, PlanData}
use Rattle.bus_load.specs.Living.{IsAlwaysContinued}
use Rattle.bus_load.specs.Load.{starting, first_offer}
use Rattle.bus_load.proofs.Continuing.{KeepsNear, message-near, near-continued}
use Rattle.bus_load.proofs.Near.{IsLeftNear}
use Rattle.bus_load.proofs.Paced.{StartsFrame, IsNearStart, IsAgenda, agenda-is}
use Rattle.bus_load.proofs.Stepping.{IsPlannedEntry}
use Rattle.bus_load.proofs.Whole.{entries-planned, plain-station, found-first, superseding-of}
use Rattle.bus_model.specs.Attempts.{is_offer}
use Rattle.bus_model.specs.Memory.{TimedLoad}
use Rattle.bus_model.specs.Outside.{longest_quiet, entries_of}
use Rattle.bus_model.specs.Run.{Run, Next, is_at, first_present, first_run, next_item, next_attempt, attempt, attempts_after}
use Rattle.bus_model.specs.Starts.{Entry, agenda, starts}
use Rattle.bus_law_plans.specs.Entries.{IsRunOf}
use Rattle.bus_law_plans.proofs.EachRun.{each-run}
use Rattle.bus_law_plans.proofs.FirstRun.{first-run}
use Rattle.bus_law_plans.proofs.Lists.{each-weaker}
use Rattle.bus_law_plans.proofs.NextRun.{attempt-run}
use Rattle.bus_law_plans.proofs.Places.{holder-found}

-- before the first attempt
first-left : (most : ℕ) (left : List Entry) → 40 ≤ most → StartsFrame left → IsNearStart most left → IsLeftNear most 0 None left
first-left most [] settles first near = tt
first-left most (entry ∷ later) settles first near = record {
  planned = omega (arith, near);
  begun = λ other. absurd (other first);
  again = λ some. absurd (true≢false (sym some));
}

module _ (k : ℕ) (low : k ≤ 3) (plan : PlanData) (accepted : IsAccepted plan) (loads : List TimedLoad)
    (station : StationData) (found : starting plan ≡ Some station) (none : first_offer plan ≡ None) where
  abbrev most : ℕ
  most = longest_quiet (agenda station)

  is-agenda : IsAgenda most (agenda station)
  is-agenda = agenda-is station (superseding-of plan accepted station found)

  first-near : KeepsNear plan most (first_run plan)
  first-near = record {
    origin = refl;
    holder = refl;
    held = first_present plan station;
    found = found-first plan plan.stations station found;
    paced = is-agenda.paced;
    ordered = is-agenda.ordered;
    plain = each-weaker (IsPlannedEntry station) (λ (e : Entry). is_offer e.item.kind ≡ false) (λ e h. h.plain) (agenda station)
        (entries-planned station (plain-station plan 1 plan.stations station none found));
    opens = (omega arith, omega arith);
    left = first-left most (agenda station) is-agenda.settles is-agenda.place is-agenda.first;
  }

  attempt-near : (run : Run) → IsRunOf plan run → KeepsNear plan most run → KeepsNear plan most (attempt k loads plan.faults run)
  attempt-near run is keeps = by-next (next_item run) refl
    where
      by-next : (next : Option Next) → next_item run ≡ next → KeepsNear plan most (next_attempt k loads plan.faults run next)
      by-next None given = keeps
      by-next (Some next) given = message-near k low plan loads most is-agenda.settles run is keeps next given

  pub always : IsAlwaysContinued k loads plan most
  always n =
      let each =
      each-run (λ run. IsRunOf plan run × KeepsNear plan most run) k loads plan.faults (first_run plan) (first-run plan accepted, first-near)
      (λ run is. (attempt-run k plan loads run accepted is.0, attempt-near run is.0 is.1)) n in
      near-continued k low plan loads most is-agenda.settles (attempts_after k loads plan.faults n (first_run plan)) each.0 each.1

-- a station starts
none-first : (plan : PlanData) (stations : List StationData) → find (starts plan) stations ≡ None → find (is_at plan.start) (map (first_present plan) stations) ≡ None
none-first plan [] found = refl
none-first plan (s ∷ later) found = by-test (starts plan s) found (none-first plan later)
  where
    by-test : (b : Bool) → (if b then Some s else find (starts plan) later) ≡ None →
        (find (starts plan) later ≡ None → find (is_at plan.start) (map (first_present plan) later) ≡ None) →
        (if b then Some (first_present plan s) else find (is_at plan.start) (map (first_present plan) later)) ≡ None
    by-test true is rest = absurd (none-some s (sym is))
    by-test false is rest = rest is

-- of whichever station starts
pub always-of : (k : ℕ) (plan : PlanData) (loads : List TimedLoad) → k ≤ 3 → IsAccepted plan → first_offer plan ≡ None →
    IsAlwaysContinued k loads plan (longest_quiet (entries_of (starting plan)))
always-of k plan loads low accepted none = by-station (starting plan) refl
  where
    by-station : (o : Option StationData) → starting plan ≡ o → IsAlwaysContinued k loads plan (longest_quiet (entries_of o))
    by-station None found =
        let there = holder-found plan (first_run plan) (first-run plan accepted) in
        absurd (none-some there.0 (sym (none-first plan plan.stations found) ∙ there.1))
    by-station (Some station) found = always k low plan accepted loads station found none

-- a silence is so much longer
pub beyond : (most ticks : ℕ) → ticks ≡ most + 40 → ticks - 40 ≡ most
beyond most ticks is = omega (arith, is)
