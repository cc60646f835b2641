-- Stations by their places, and what is left where a run is finished.
use Rattle.std.proofs.Common.{◌≡◌, ℕ, zero, suc, ◌<◌, true, List, [], ◌∷◌, length, map, get_or, Option, Some, None, inl, inr, refl, sym, ap, ◌∙◌, subst, arith}
use Rattle.std.proofs.lemmas.Bool.{cases_Bool, true≢false}
use Rattle.std.proofs.lemmas.Bool.Decides.{nat_tests}
use Rattle.std.proofs.lemmas.Option.{none-some, same_Some}
use Rattle.std.specs.Prelude.{not, find, slice_get, Contains, IfSome, IsSome, IsSomeAnd, ◌==◌}
use Rattle.std.specs.List.{AllZip}
use Rattle.bus_formats.specs.Accepted.{Supersedes}
use Rattle.bus_formats.specs.Plans.{StationData, PlanData}
use Rattle.bus_model.specs.Message.{Present, address_of_station}
use Rattle.bus_model.specs.Run.{Run, Next, is_at, next_item, next_in, next_by}
use Rattle.bus_model.specs.Starts.{Entry, Opening, usual, superseding, taking}
use Rattle.bus_model.specs.Strikes.{ShownAnswer}
use Rattle.bus_law_plans.specs.Entries.{IsStationOf, IsRunOf, IsSupersededNext, KeepsSuperseding, IsFinished, IsRunAmong}
use Rattle.bus_law_plans.proofs.NextRun.{stations-addresses}
use Rattle.bus_law_plans.proofs.Stations.{find-here, find-later}

-- ---- by its place

zip-at : {X Y : Type 0} (R : X → Y → Type 0) (xs : List X) (ys : List Y) (i : ℕ) (x : X) → AllZip R xs ys → slice_get xs i ≡ Some x →
    (y : Y) × (slice_get ys i ≡ Some y) × R x y
zip-at R [] [] i x all at = absurd (none-some x at)
zip-at R [] (y ∷ ys) i x all at = absurd all
zip-at R (a ∷ xs) [] i x all at = absurd all
zip-at R (a ∷ xs) (b ∷ ys) zero x all at = (b, refl, subst (λ c. R c b) (same_Some a x at) all.0)
zip-at R (a ∷ xs) (b ∷ ys) (suc i) x all at = zip-at R xs ys i x all.1 at

-- the station at a place is that of the plan
pub station-at : (plan : PlanData) (run : Run) (i : ℕ) (own : StationData) → IsRunOf plan run → slice_get plan.stations i ≡ Some own →
    (s : Present) × (slice_get run.stations i ≡ Some s) × IsStationOf plan (not (own.terminal.address == run.holder)) own s
station-at plan run i own is at =
    zip-at (λ (o : StationData) (s : Present). IsStationOf plan (not (o.terminal.address == run.holder)) o s) plan.stations run.stations i own is.stations at

-- ---- by its address

same-true : (m n : ℕ) → m ≡ n → (m == n) ≡ true
same-true m n is = grind (arith, nat_tests, is)

find-contained : (address : ℕ) (stations : List Present) (i : ℕ) → i < length (map address_of_station stations) →
    get_or (map address_of_station stations) i address ≡ address → (s : Present) × (find (is_at address) stations ≡ Some s)
find-contained address [] i within at = absurd (omega (arith, within))
find-contained address (s ∷ stations) zero within at =
    (s, find-here address s stations (same-true (address_of_station s) address at))
find-contained address (s ∷ stations) (suc i) within at = elim (cases_Bool (is_at address s)) [
  | inl here ↦ (s, find-here address s stations here)
  | inr other ↦ (let rest = find-contained address stations i (omega (arith, within)) at in (rest.0, find-later address s stations other ∙ rest.1))
]

-- the station that holds control is there
pub holder-found : (plan : PlanData) (run : Run) {own : List StationData} → IsRunAmong plan own run → (s : Present) × (find (is_at run.holder) run.stations ≡ Some s)
holder-found plan run {own = own} is =
    let same : map address_of_station run.stations ≡ map (λ (s : StationData). s.terminal.address) own = stations-addresses plan run.holder own run.stations is.stations in
    let there : Contains (map address_of_station run.stations) run.holder = subst (λ l. Contains l run.holder) (sym same) is.holder in
    find-contained run.holder run.stations there.0 there.1 there.2

-- ---- a finished run

none-left : (s : Present) (left : List Entry) → next_in s left ≡ None → left ≡ []
none-left s [] is = refl
none-left s (entry ∷ later) is = absurd (none-some _ (sym is))

no-answer : (run : Run) (o : Option ShownAnswer) → run.runs_on ≡ o → next_item run ≡ None → IfSome o (λ old. IsSupersededNext run old) → run.runs_on ≡ None
no-answer run None same none followed = same
no-answer run (Some old) same none followed = absurd (subst (λ n. IsSomeAnd n (λ (m : Next). Supersedes old.sent.address m.entry.item.kind)) none followed.next)

by-opening : (plan : PlanData) (run : Run) {own : List StationData} → IsRunAmong plan own run → KeepsSuperseding run → next_item run ≡ None → run.runs_on ≡ None → (o : Opening) → run.opening ≡ o →
    (need : ℕ) × (tick : ℕ) × (run.opening ≡ usual need tick)
by-opening plan run is keeps none quiet (usual need tick) same = (need, tick, same)
by-opening plan run is keeps none quiet (superseding tick channel) same =
    absurd (true≢false (sym (subst IsSome quiet (keeps.awaited tick channel same))))
by-opening plan run is keeps none quiet (taking tick) same = absurd (true≢false (sym (subst IsSome none (is.taken tick same))))

-- a run without a next item is finished
pub finished : (plan : PlanData) (run : Run) {own : List StationData} → IsRunAmong plan own run → KeepsSuperseding run → next_item run ≡ None → IsFinished run
finished plan run is keeps none =
    let quiet : run.runs_on ≡ None = no-answer run run.runs_on refl none keeps.followed in
    let opening = by-opening plan run is keeps none quiet run.opening refl in
    let there = holder-found plan run is in
    record {
      runs_on = quiet;
      need = opening.0;
      tick = opening.1;
      opening_is = opening.2;
      station = there.0;
      found = there.1;
      left = none-left there.0 there.0.left (sym (ap next_by there.1) ∙ none);
    }
