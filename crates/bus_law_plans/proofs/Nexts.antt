-- The next item of a run: the first that is left of the station that holds control.
use Rattle.std.proofs.Common.{true, ◌≡◌, ℕ, List, [], ◌∷◌, Option, Some, None, refl, sym, ap, ◌∙◌, subst}
use Rattle.std.proofs.lemmas.Option.{none-some, same_Some}
use Rattle.std.specs.Prelude.{not, find, ◌==◌}
use Rattle.std.specs.List.{AllByRecursion as Each}
use Rattle.bus_formats.specs.Plans.{StationData, PlanData}
use Rattle.bus_model.specs.Message.{Present, address_of_station}
use Rattle.bus_model.specs.Run.{Run, Next, is_at, next_item, next_in, next_by}
use Rattle.bus_model.specs.Starts.{Entry}
use Rattle.bus_law_plans.specs.Entries.{IsEntryOf, IsStationOf, IsRunAmong}
pub use Rattle.bus_law_plans.specs.Entries.{IsNext}
use Rattle.bus_law_plans.proofs.Lists.{same-number, zip-second}
use Rattle.bus_law_plans.proofs.Stations.{found-each}

-- the station in the plan that a station of the run is
record OfPlan (plan : PlanData) (holder : ℕ) (s : Present) : Type 0 where
  own : StationData
  is : IsStationOf plan (not (own.terminal.address == holder)) own s

by-left : (s : Present) (left : List Entry) (next : Next) → s.left ≡ left → next_in s left ≡ Some next →
    (later : List Entry) × (s ≡ next.station) × (s.left ≡ next.entry ∷ later)
by-left s [] next is h = absurd (none-some next h)
by-left s (entry ∷ later) next is h =
    let same : record { station = s; entry = entry } ≡ next = same_Some _ next h in
    (later, ap (λ (n : Next). n.station) same, is ∙ ap (λ (n : Next). n.entry ∷ later) same)

by-station : (plan : PlanData) (run : Run) (o : Option Present) (next : Next) → find (is_at run.holder) run.stations ≡ o → next_by o ≡ Some next →
    ((s : Present) → find (is_at run.holder) run.stations ≡ Some s → OfPlan plan run.holder s) →
    ((s : Present) → find (is_at run.holder) run.stations ≡ Some s → is_at run.holder s ≡ true) → IsNext plan run next
by-station plan run None next is h of at = absurd (none-some next h)
by-station plan run (Some s) next is h of at =
    let by = by-left s s.left next refl h in
    let here : OfPlan plan run.holder next.station = subst (OfPlan plan run.holder) by.1 (of s is) in
    let left : next.station.left ≡ next.entry ∷ by.0 = ap (λ (t : Present). t.left) (sym by.1) ∙ by.2 in
    record {
      found = is ∙ ap Some by.1;
      later = by.0;
      left = left;
      own = here.own;
      holder_is = ap (λ (p : StationData). p.terminal.address) (sym here.is.plan_is) ∙ same-number (address_of_station next.station) run.holder
          (ap (is_at run.holder) (sym by.1) ∙ at s is);
      is = here.is;
      entry = (subst (Each (IsEntryOf plan here.own.terminal.address)) left here.is.entries).0;
    }

-- the next item is one of the station that holds control
pub next-of : (plan : PlanData) (run : Run) (next : Next) {own : List StationData} → IsRunAmong plan own run → next_item run ≡ Some next → IsNext plan run next
next-of plan run next {own = own} is given =
    let each : Each (OfPlan plan run.holder) run.stations =
    zip-second (λ (o : StationData) (t : Present). IsStationOf plan (not (o.terminal.address == run.holder)) o t) (OfPlan plan run.holder)
    (λ o t h. record { own = o; is = h }) own run.stations is.stations in
    by-station plan run (find (is_at run.holder) run.stations) next refl given
    (λ s found. (found-each (OfPlan plan run.holder) run.holder run.stations s each found).0)
    (λ s found. (found-each (OfPlan plan run.holder) run.holder run.stations s each found).1)
