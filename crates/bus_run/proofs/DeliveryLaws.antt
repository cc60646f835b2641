-- What the objects tell, and their room, one tick and one station after the other.
use Rattle.std.proofs.Common.{◌≡◌, ℕ, zero, suc, ◌+◌, ◌≤◌, Bool, true, false, ◌||◌, List, [], ◌∷◌, ◌++◌, length, take, refl, ap, sym, ◌∙◌}
use Rattle.std.proofs.Common.{arith, subst, append-nil, append_assoc, if◌then◌else◌, Option, Some, None}
use Rattle.std.specs.Prelude.{is_some, slice_get, option_to_list}
use Rattle.std.specs.List.{list_any}
use Rattle.std.proofs.lemmas.Option.{same_Some, slice_get_within, get_or_from_slice_get}
use Rattle.std.proofs.lemmas.List.Folds.{list_any_more}
use Rattle.std.proofs.lemmas.List.{length-append}
use Rattle.bus_base.specs.declared.samples.Pair.{Pair}
use Rattle.bus_line.specs.declared.cutter.TheConstants.{LAG}
use Rattle.bus_formats.specs.Plans.{StationData, PlanData}
use Rattle.bus_model.specs.WorldLog.{attempts}
use Rattle.bus_formats.specs.declared.log.Delivery.{Delivery}
use Rattle.bus_subsystem.specs.Deliveries.{Takes}
use Rattle.bus_run.specs.Amounts.{most_deliveries}
use Rattle.bus_run.specs.Deliveries.{delivered_of, delivered_in, deliveries, deliveries_in, is_delivering, is_delivering_in, delivering, served, TellsMore, Serves, ServesIn, ObjectsOf, AreFew}
use Rattle.bus_run.specs.Settings.{Setting, alone}
use Rattle.bus_run.specs.StationRows.{RowKeeps, RowStands, ended_in, count_after}
use Rattle.bus_run.specs.declared.station_row.StationRow.{StationRow}
use Rattle.bus_run.proofs.RowLaws.{take-all, delivering-none, attempts-next, row-told}

-- ---- what is delivered

-- nothing before the first tick
pub deliveries-none : (w : Setting) (s : StationData) → deliveries_in w s [] ≡ []
unfolding deliveries_in
deliveries-none w s = refl

-- one tick more
pub deliveries-next : (w : Setting) (s : StationData) (shown : Pair) (past : List Pair) →
    deliveries_in w s (shown ∷ past) ≡ deliveries_in w s past ++ option_to_list (delivered_in w (shown ∷ past) s)
unfolding deliveries_in
deliveries-next w s shown past = refl

-- one tick more
pub delivering-next : (plan : PlanData) (shown : Pair) (past : List Pair) →
    delivering plan (shown ∷ past) ≡ (if is_delivering plan (shown ∷ past) plan.stations then suc (delivering plan past) else delivering plan past)
unfolding delivering
delivering-next plan shown past = refl

-- one of the list passes the test
any-by : {A : Type 0} (test : A → Bool) (y : A) (xs : List A) (b : Bool) → test y ≡ b → list_any test xs ≡ true → list_any test (y ∷ xs) ≡ true
any-by test y xs true is rest = rw is refl
any-by test y xs false is rest = rw is rest

any-of : {A : Type 0} (test : A → Bool) (xs : List A) (i : ℕ) (x : A) → slice_get xs i ≡ Some x → test x ≡ true → list_any test xs ≡ true
any-of test [] i x at is = (let no : None ≡ Some x = at in cc)
any-of test (y ∷ xs) zero x at is = let first : test y ≡ true = ap test (same_Some y x at) ∙ is in rw first refl
any-of test (y ∷ xs) (suc i) x at is = any-by test y xs (test y) refl (any-of test xs i x at is)

-- the number of a station's deliveries, by what came in the newest tick
few-by : (ds : List Delivery) (n m : ℕ) (any : Bool) (o : Option Delivery) → (is_some o ≡ true → any ≡ true) → length ds ≤ n →
    m ≡ (if any then suc n else n) → length (ds ++ option_to_list o) ≤ m
few-by ds n m true None some few is = let none = append-nil ds in let same = ap length none in omega (arith, few, is, same)
few-by ds n m false None some few is = let none = append-nil ds in let same = ap length none in omega (arith, few, is, same)
few-by ds n m true (Some d) some few is = let more = length-append ds (d ∷ []) in omega (arith, few, is, more)
few-by ds n m false (Some d) some few is = (let no : false ≡ true = some refl in cc)

-- a station has no more deliveries than there are ticks with one
pub deliveries-few : (plan : PlanData) (i : ℕ) (s : StationData) (past : List Pair) → slice_get plan.stations i ≡ Some s →
    length (deliveries plan s past) ≤ delivering plan past
deliveries-few plan i s [] at = let none = ap length (deliveries-none (alone plan) s) in omega (arith, none)
deliveries-few plan i s (shown ∷ past) at =
    subst (λ ds. length ds ≤ delivering plan (shown ∷ past)) (sym (deliveries-next (alone plan) s shown past))
    (few-by (deliveries plan s past) (delivering plan past) (delivering plan (shown ∷ past)) (is_delivering plan (shown ∷ past) plan.stations)
    (delivered_of plan (shown ∷ past) s)
    (λ some. any-of (λ d. is_some (delivered_of plan (shown ∷ past) d)) plan.stations i s at some) (deliveries-few plan i s past at)
    (delivering-next plan shown past))

-- ticks with a delivery are ticks
delivering-by : (n m l : ℕ) (any : Bool) → n ≤ l → m ≡ (if any then suc n else n) → m ≤ suc l
delivering-by n m l true few is = omega (arith, few, is)
delivering-by n m l false few is = omega (arith, few, is)

pub delivering-length : (plan : PlanData) (past : List Pair) → delivering plan past ≤ length past
delivering-length plan [] = let none = delivering-none plan in omega (arith, none)
delivering-length plan (shown ∷ past) =
    delivering-by (delivering plan past) (delivering plan (shown ∷ past)) (length past) (is_delivering plan (shown ∷ past) plan.stations)
    (delivering-length plan past) (delivering-next plan shown past)

-- with the station at the place
pub delivering-more : (w : Setting) (past : List Pair) (place : ℕ) (s : StationData) (before now : Bool) → slice_get w.plan.stations place ≡ Some s →
    before ≡ is_delivering_in w past (take place w.plan.stations) → now ≡ is_some (delivered_in w past s) →
    (before || now) ≡ is_delivering_in w past (take (place + 1) w.plan.stations)
delivering-more w past place s before now here was is =
    let test : StationData → Bool = λ d. is_some (delivered_in w past d) in
    ap (λ b. b || now) was ∙ ap (λ b. is_delivering_in w past (take place w.plan.stations) || b) is
    ∙ ap (λ d. is_delivering_in w past (take place w.plan.stations) || is_some (delivered_in w past d))
    (sym (get_or_from_slice_get w.plan.stations place s s here))
    ∙ sym (list_any_more test w.plan.stations place s (slice_get_within w.plan.stations place s here))

-- with the last one
pub delivering-all : (w : Setting) (past : List Pair) (place : ℕ) (took : Bool) → place ≡ length w.plan.stations →
    took ≡ is_delivering_in w past (take place w.plan.stations) → took ≡ is_delivering_in w past w.plan.stations
delivering-all w past place took whole is = is ∙ ap (is_delivering_in w past) (ap (λ n. take n w.plan.stations) whole ∙ take-all w.plan.stations)

-- a tick more has at most one tick with a delivery more
pub count-few : (w : Setting) (shown : Pair) (past : List Pair) (count : ℕ) → count ≤ length past → count_after w (shown ∷ past) count ≤ length (shown ∷ past)
count-few w shown past count few =
    delivering-by count (count_after w (shown ∷ past) count) (length past) (is_delivering_in w (shown ∷ past) w.plan.stations) few refl

-- where the ticks with a delivery are no more than there is room for, no terminal with an object took more blocks
pub alone-few : (plan : PlanData) (objects : List (Option ℕ)) (past : List Pair) → ObjectsOf plan objects → delivering plan past ≤ most_deliveries plan →
    AreFew (alone plan) past
alone-few plan objects past of few = λ p s at.
    let (i, here, object) = of.whole p s at in
    let most = deliveries-few plan i s past here in
    omega (arith, most, few)

-- ---- what is told

-- nothing more
pub tells-none : (told : Option (List Delivery)) (ds : List Delivery) → ds ≡ [] → TellsMore told ds told
tells-none None ds none = tt
tells-none (Some old) ds none = sym (append-nil old) ∙ ap (λ xs. old ++ xs) (sym none)

-- one delivery more
pub tells-next : (old now next : Option (List Delivery)) (ds : List Delivery) (d : Delivery) → TellsMore old ds now → Takes now next d →
    TellsMore old (ds ++ d ∷ []) next
tells-next None None None ds d tells takes = tt
tells-next None None (Some next) ds d tells takes = absurd takes
tells-next None (Some now) next ds d tells takes = absurd tells
tells-next (Some old) None next ds d tells takes = absurd tells
tells-next (Some old) (Some now) None ds d tells takes = absurd takes
tells-next (Some old) (Some now) (Some next) ds d tells takes = takes ∙ ap (λ xs. xs ++ d ∷ []) tells ∙ append_assoc old ds (d ∷ [])

-- ---- before the first tick

-- objects with room for all that may come serve
pub serves-start : (plan : PlanData) (told : List (Option (List Delivery))) (spare : List ℕ) (n : ℕ) → length told ≡ length (served plan) →
    length spare ≡ length (served plan) → most_deliveries plan + 1 ≤ n → ((p m : ℕ) → slice_get spare p ≡ Some m → n ≤ m) → Serves plan told [] told spare
serves-start plan told spare n all all-spare enough room = record {
  all = all;
  all_before = all;
  all_spare = all-spare;
  tells = λ p s old now found was is.
      subst (λ t. TellsMore old (deliveries_in (alone plan) s []) t) (same_Some old now (sym was ∙ is)) (tells-none old (deliveries_in (alone plan) s []) (deliveries-none (alone plan) s));
  room = λ p s m found at. (let low = room p m at in omega (arith, low, enough));
}

-- the same past
pub serves-moved : (w : Setting) (before : List (Option (List Delivery))) (past past' : List Pair) (told : List (Option (List Delivery))) (spare : List ℕ) →
    past ≡ past' → ServesIn w before past told spare → ServesIn w before past' told spare
serves-moved w before past past' told spare same serves = subst (λ ps. ServesIn w before ps told spare) same serves

-- the row of a bus that is joined to nothing, after a tick
pub row-next : (most : ℕ) (plan : PlanData) (row : StationRow) (shown : Pair) (past : List Pair) →
    RowKeeps most (alone plan) (attempts LAG plan [] [] [] past ++ ended_in (alone plan) (shown ∷ past))
    (count_after (alone plan) (shown ∷ past) (delivering plan past)) row (shown ∷ past) → RowStands most plan row (shown ∷ past)
row-next most plan row shown past st =
    row-told most (alone plan) _ _ _ _ row (shown ∷ past) (sym (attempts-next (alone plan) shown past)) (sym (delivering-next plan shown past)) st
