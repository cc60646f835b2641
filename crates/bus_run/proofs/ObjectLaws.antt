-- The objects hear a tick, one station after the other.
use Rattle.std.proofs.Common.{◌≡◌, ◌≢◌, ℕ, zero, suc, ◌+◌, ◌<◌, ◌≤◌, true, nat_lt, List, [], ◌∷◌, ◌++◌, length, map, refl, ap, sym, ◌∙◌}
use Rattle.std.proofs.Common.{arith, subst, append-nil, if◌then◌else◌, inl, inr, ◌⊎◌, Option, Some, None}
use Rattle.std.specs.Prelude.{slice_get, option_to_list, option_map}
use Rattle.std.proofs.lemmas.Bool.{cases_eq}
use Rattle.std.proofs.lemmas.Bool.Decides.{nat_tests}
use Rattle.std.proofs.lemmas.Option.{same_Some, slice_get_within, slice_get-map}
use Rattle.std.proofs.lemmas.List.{length-append, length-map}
use Rattle.bus_base.specs.declared.samples.Pair.{Pair}
use Rattle.bus_formats.specs.Plans.{StationData}
use Rattle.bus_formats.specs.declared.log.Delivery.{Delivery}
use Rattle.bus_subsystem.specs.Deliveries.{Takes}
use Rattle.bus_run.specs.Amounts.{most_deliveries}
use Rattle.bus_run.specs.Deliveries.{delivered_in, deliveries_in, ObjectsIn, TellsMore, ServesIn, AreFew, IsHandedOn, AreHandedOut}
use Rattle.bus_run.specs.Settings.{Setting}
use Rattle.bus_run.specs.StationRows.{heard_at, ObjectsHear}
use Rattle.bus_run.proofs.DeliveryLaws.{deliveries-next, tells-next}
use Rattle.bus_run.proofs.RowLaws.{found-at, not-below, none-below, below-more, below-other}

-- ---- a tick

-- before the first station heard it
pub objects-start : (w : Setting) (objects : List (Option ℕ)) (before : List (Option (List Delivery))) (shown : Pair) (past : List Pair)
    (told : List (Option (List Delivery))) (spare : List ℕ) → ObjectsIn w objects → ServesIn w before past told spare →
    ObjectsHear w objects before 0 shown past told spare
objects-start w objects before shown past told spare of serves = record {
  all = serves.all;
  all_before = serves.all_before;
  all_spare = serves.all_spare;
  tells = λ i p s old now here at was is.
      subst (λ b. TellsMore old (deliveries_in w s (if b then shown ∷ past else past)) now) (sym (none-below i))
      (serves.tells p s old now (of.there i p s here at) was is);
  room = λ i p s n here at is.
      subst (λ b. most_deliveries w.plan + 1 ≤ n + length (deliveries_in w s (if b then shown ∷ past else past))) (sym (none-below i))
      (serves.room p s n (of.there i p s here at) is);
}

-- the same places
pub objects-moved : (w : Setting) (objects objects' : List (Option ℕ)) (before : List (Option (List Delivery))) (place : ℕ) (shown : Pair)
    (past : List Pair) (told : List (Option (List Delivery))) (spare : List ℕ) → objects' ≡ objects →
    ObjectsHear w objects before place shown past told spare → ObjectsHear w objects' before place shown past told spare
objects-moved w objects objects' before place shown past told spare same hear =
    subst (λ os. ObjectsHear w os before place shown past told spare) (sym same) hear

-- after the last
pub objects-end : (w : Setting) (objects : List (Option ℕ)) (before : List (Option (List Delivery))) (place : ℕ) (shown : Pair) (past : List Pair)
    (told : List (Option (List Delivery))) (spare : List ℕ) → ObjectsIn w objects → place ≡ length w.plan.stations →
    ObjectsHear w objects before place shown past told spare → ServesIn w before (shown ∷ past) told spare
objects-end w objects before place shown past told spare of whole hear =
    let heard : (i : ℕ) (s : StationData) → slice_get w.plan.stations i ≡ Some s → nat_lt i place ≡ true =
    λ i s here. (let within = slice_get_within w.plan.stations i s here in grind (arith, nat_tests, within, whole)) in
    record {
      all = hear.all;
      all_before = hear.all_before;
      all_spare = hear.all_spare;
      tells = λ p s old now at was is.
          let (i, here, object) = of.whole p s at in
          subst (λ b. TellsMore old (deliveries_in w s (if b then shown ∷ past else past)) now) (heard i s here)
          (hear.tells i p s old now here object was is);
      room = λ p s n at is.
          let (i, here, object) = of.whole p s at in
          subst (λ b. most_deliveries w.plan + 1 ≤ n + length (deliveries_in w s (if b then shown ∷ past else past))) (heard i s here)
          (hear.room i p s n here object is);
    }

-- ---- one station

-- the station at the place hears the tick
heard-now : (place : ℕ) (shown : Pair) (past : List Pair) → heard_at place (place + 1) shown past ≡ shown ∷ past
heard-now place shown past = ap (λ b. if b then shown ∷ past else past) (below-more place)

-- which it hadn't heard
heard-before : (place : ℕ) (shown : Pair) (past : List Pair) → heard_at place place shown past ≡ past
heard-before place shown past = ap (λ b. if b then shown ∷ past else past) (not-below place)

-- the others hear nothing
heard-other : (i place : ℕ) (shown : Pair) (past : List Pair) → i ≢ place → heard_at i (place + 1) shown past ≡ heard_at i place shown past
heard-other i place shown past other = ap (λ b. if b then shown ∷ past else past) (below-other i place other)

-- what one station's terminal took, where the station at the place hears
abbrev Step : ℕ → ℕ → List Delivery → List Delivery → Option Delivery → Type 0
Step i place before after d = ((i ≡ place) × (after ≡ before ++ option_to_list d)) ⊎ ((i ≢ place) × (after ≡ before))

step-by : (w : Setting) (place : ℕ) (shown : Pair) (past : List Pair) (own : StationData) (d : Option Delivery) (i : ℕ) (s : StationData) →
    slice_get w.plan.stations place ≡ Some own → delivered_in w (shown ∷ past) own ≡ d → slice_get w.plan.stations i ≡ Some s → (i ≡ place) ⊎ (i ≢ place) →
    Step i place (deliveries_in w s (heard_at i place shown past)) (deliveries_in w s (heard_at i (place + 1) shown past)) d
step-by w place shown past own d i s here is found (inl same) =
    let own-is : own ≡ s = same_Some own s (sym here ∙ ap (slice_get w.plan.stations) (sym same) ∙ found) in
    inl (
      same,
      ap (λ j. deliveries_in w s (heard_at j (place + 1) shown past)) same ∙ ap (deliveries_in w s) (heard-now place shown past)
          ∙ deliveries-next w s shown past
          ∙ ap (λ ds. ds ++ option_to_list (delivered_in w (shown ∷ past) s))
          (ap (deliveries_in w s) (sym (heard-before place shown past)) ∙ ap (λ j. deliveries_in w s (heard_at j place shown past)) (sym same))
          ∙ ap (λ o. deliveries_in w s (heard_at i place shown past) ++ option_to_list o)
          (ap (delivered_in w (shown ∷ past)) (sym own-is) ∙ is),
    )
step-by w place shown past own d i s here is found (inr other) = inr (other, ap (deliveries_in w s) (heard-other i place shown past other))

-- the station at the place took nothing: by cases
same-tells : (i place : ℕ) (before after : List Delivery) (old now : Option (List Delivery)) → Step i place before after None → TellsMore old before now →
    TellsMore old after now
same-tells i place before after old now (inl (same, is)) tells = subst (λ ds. TellsMore old ds now) (sym (is ∙ append-nil before)) tells
same-tells i place before after old now (inr (other, is)) tells = subst (λ ds. TellsMore old ds now) (sym is) tells

same-room : (i place n m : ℕ) (before after : List Delivery) → Step i place before after None → m ≤ n + length before → m ≤ n + length after
same-room i place n m before after (inl (same, is)) room = subst (λ ds. m ≤ n + length ds) (sym (is ∙ append-nil before)) room
same-room i place n m before after (inr (other, is)) room = subst (λ ds. m ≤ n + length ds) (sym is) room

-- the station at the place took nothing
pub objects-same : (w : Setting) (objects : List (Option ℕ)) (before : List (Option (List Delivery))) (place : ℕ) (shown : Pair) (past : List Pair)
    (told : List (Option (List Delivery))) (spare : List ℕ) (own : StationData) → slice_get w.plan.stations place ≡ Some own →
    delivered_in w (shown ∷ past) own ≡ None → ObjectsHear w objects before place shown past told spare →
    ObjectsHear w objects before (place + 1) shown past told spare
objects-same w objects before place shown past told spare own here is hear = record {
  all = hear.all;
  all_before = hear.all_before;
  all_spare = hear.all_spare;
  tells = λ i p s old now found at was told-now. same-tells i place _ _ old now
      (step-by w place shown past own None i s here is found (cases_eq i place)) (hear.tells i p s old now found at was told-now);
  room = λ i p s n found at left. same-room i place n (most_deliveries w.plan + 1) _ _
      (step-by w place shown past own None i s here is found (cases_eq i place)) (hear.room i p s n found at left);
}

-- the station at the place took a block: by cases
handed-tells : (objects : List (Option ℕ)) (object : Option ℕ) (d : Delivery) (told told' : List (Option (List Delivery))) (spare spare' : List ℕ)
    (i place p : ℕ) (before after : List Delivery) (old now : Option (List Delivery)) → slice_get objects place ≡ Some object →
    ((j k q : ℕ) → slice_get objects j ≡ Some (Some q) → slice_get objects k ≡ Some (Some q) → j ≡ k) → slice_get objects i ≡ Some (Some p) →
    IsHandedOn object d told told' spare spare' → Step i place before after (Some d) → slice_get told' p ≡ Some now →
    ((x : Option (List Delivery)) → slice_get told p ≡ Some x → TellsMore old before x) → TellsMore old after now
handed-tells objects object d told told' spare spare' i place p before after old now own apart at handed (inl (same, is)) told-now tells =
    let object-is : object ≡ Some p = same_Some object (Some p) (sym own ∙ ap (slice_get objects) (sym same) ∙ at) in
    let within : p < length told = (let low = slice_get_within told' p now told-now in let all = handed.all in omega (arith, low, all)) in
    let (x, found) = found-at told p within in
    subst (λ ds. TellsMore old ds now) (sym is) (tells-next old x now before d (tells x found) (handed.takes p x now object-is found told-now))
handed-tells objects object d told told' spare spare' i place p before after old now own apart at handed (inr (other, is)) told-now tells =
    let another : object ≢ Some p = λ object-is. other (apart i place p at (own ∙ ap Some object-is)) in
    subst (λ ds. TellsMore old ds now) (sym is) (tells now (sym (handed.others p another) ∙ told-now))

handed-room : (objects : List (Option ℕ)) (object : Option ℕ) (d : Delivery) (told told' : List (Option (List Delivery))) (spare spare' : List ℕ)
    (i place p n m : ℕ) (before after : List Delivery) → slice_get objects place ≡ Some object →
    ((j k q : ℕ) → slice_get objects j ≡ Some (Some q) → slice_get objects k ≡ Some (Some q) → j ≡ k) → slice_get objects i ≡ Some (Some p) →
    IsHandedOn object d told told' spare spare' → Step i place before after (Some d) → slice_get spare' p ≡ Some n →
    ((x : ℕ) → slice_get spare p ≡ Some x → m ≤ x + length before) → m ≤ n + length after
handed-room objects object d told told' spare spare' i place p n m before after own apart at handed (inl (same, is)) left room =
    let object-is : object ≡ Some p = same_Some object (Some p) (sym own ∙ ap (slice_get objects) (sym same) ∙ at) in
    let within : p < length spare = (let low = slice_get_within spare' p n left in let all = handed.all_spare in omega (arith, low, all)) in
    let (x, found) = found-at spare p within in
    let enough = room x found in
    let one = handed.room p x n object-is found left in
    let more = ap length is ∙ length-append before (d ∷ []) in
    omega (arith, enough, one, more)
handed-room objects object d told told' spare spare' i place p n m before after own apart at handed (inr (other, is)) left room =
    let another : object ≢ Some p = λ object-is. other (apart i place p at (own ∙ ap Some object-is)) in
    subst (λ ds. m ≤ n + length ds) (sym is) (room n (sym (handed.others_spare p another) ∙ left))

-- the station at the place took a block, and its object takes it
pub objects-handed : (w : Setting) (objects : List (Option ℕ)) (before : List (Option (List Delivery))) (place : ℕ) (shown : Pair) (past : List Pair)
    (told told' : List (Option (List Delivery))) (spare spare' : List ℕ) (own : StationData) (object : Option ℕ) (d : Delivery) → ObjectsIn w objects →
    slice_get w.plan.stations place ≡ Some own → slice_get objects place ≡ Some object → delivered_in w (shown ∷ past) own ≡ Some d →
    IsHandedOn object d told told' spare spare' → ObjectsHear w objects before place shown past told spare →
    ObjectsHear w objects before (place + 1) shown past told' spare'
objects-handed w objects before place shown past told told' spare spare' own object d of here object-here is handed hear = record {
  all = handed.all ∙ hear.all;
  all_before = hear.all_before;
  all_spare = handed.all_spare ∙ hear.all_spare;
  tells = λ i p s old now found at was told-now. handed-tells objects object d told told' spare spare' i place p _ _ old now object-here of.apart at handed
      (step-by w place shown past own (Some d) i s here is found (cases_eq i place)) told-now
      (λ x told-old. hear.tells i p s old x found at was told-old);
  room = λ i p s n found at left. handed-room objects object d told told' spare spare' i place p n (most_deliveries w.plan + 1) _ _ object-here of.apart at
      handed (step-by w place shown past own (Some d) i s here is found (cases_eq i place)) left
      (λ x before-left. hear.room i p s x found at before-left);
}

-- the station at the place took a block, or none
pub objects-out : (w : Setting) (objects : List (Option ℕ)) (before : List (Option (List Delivery))) (place : ℕ) (shown : Pair) (past : List Pair)
    (told told' : List (Option (List Delivery))) (spare spare' : List ℕ) (own : StationData) (object : Option ℕ) (d : Option Delivery) →
    ObjectsIn w objects → slice_get w.plan.stations place ≡ Some own → slice_get objects place ≡ Some object →
    delivered_in w (shown ∷ past) own ≡ d → AreHandedOut object d told told' spare spare' →
    ObjectsHear w objects before place shown past told spare → ObjectsHear w objects before (place + 1) shown past told' spare'
objects-out w objects before place shown past told told' spare spare' own object None of here object-here is (same, same-spare) hear =
    subst (λ ts. ObjectsHear w objects before (place + 1) shown past ts spare') (sym same)
    (subst (λ ns. ObjectsHear w objects before (place + 1) shown past told ns) (sym same-spare)
    (objects-same w objects before place shown past told spare own here is hear))
objects-out w objects before place shown past told told' spare spare' own object (Some d) of here object-here is handed hear =
    objects-handed w objects before place shown past told told' spare spare' own object d of here object-here is handed hear

-- the object of the station at the place has room for a delivery
pub room-left : (w : Setting) (objects : List (Option ℕ)) (before : List (Option (List Delivery))) (place : ℕ) (shown : Pair) (past : List Pair)
    (told : List (Option (List Delivery))) (spare : List ℕ) (own : StationData) (p n : ℕ) → ObjectsIn w objects → ObjectsHear w objects before place shown past told spare →
    slice_get w.plan.stations place ≡ Some own → slice_get objects place ≡ Some (Some p) → AreFew w past →
    slice_get spare p ≡ Some n → 0 < n
room-left w objects before place shown past told spare own p n of hear here at few left =
    let room : most_deliveries w.plan + 1 ≤ n + length (deliveries_in w own past) =
    subst (λ ps. most_deliveries w.plan + 1 ≤ n + length (deliveries_in w own ps)) (heard-before place shown past) (hear.room place p own n here at left) in
    let most = few p own (of.there place p own here at) in
    omega (arith, room, most)

-- it is one of the objects
pub object-within : (w : Setting) (objects : List (Option ℕ)) (before : List (Option (List Delivery))) (place : ℕ) (shown : Pair) (past : List Pair)
    (told : List (Option (List Delivery))) (spare : List ℕ) (own : StationData) (p : ℕ) → ObjectsIn w objects →
    ObjectsHear w objects before place shown past told spare → slice_get w.plan.stations place ≡ Some own → slice_get objects place ≡ Some (Some p) →
    p < length told
object-within w objects before place shown past told spare own p of hear here at =
    let within = slice_get_within (w.served) p own (of.there place p own here at) in
    let all = hear.all in
    omega (arith, within, all)

-- ---- one delivery

-- an element of a mapped list is that of an element
map-found : {A B : Type 0} (f : A → B) (xs : List A) (k : ℕ) (y : B) → slice_get (map f xs) k ≡ Some y → (x : A) × (slice_get xs k ≡ Some x) × (f x ≡ y)
map-found f [] k y at = (let no : None ≡ Some y = at in cc)
map-found f (x ∷ xs) zero y at = (x, refl, same_Some (f x) y at)
map-found f (x ∷ xs) (suc k) y at = map-found f xs k y at

-- the object at the place took the delivery
pub handed-of : {A : Type 0} (told : A → Option (List Delivery)) (spare : A → ℕ) (old new : List A) (place : ℕ) (object : Option ℕ) (d : Delivery) →
    object ≡ Some place → length new ≡ length old → ((k : ℕ) → k ≢ place → slice_get new k ≡ slice_get old k) →
    ((b c : A) → slice_get old place ≡ Some b → slice_get new place ≡ Some c → Takes (told b) (told c) d) →
    ((b c : A) → slice_get old place ≡ Some b → slice_get new place ≡ Some c → spare b ≤ spare c + 1) →
    IsHandedOn object d (map told old) (map told new) (map spare old) (map spare new)
handed-of told spare old new place object d is len others takes room =
    let at-place : (p : ℕ) → object ≡ Some p → p ≡ place = λ p at. same_Some p place (sym at ∙ is) in
    let another : (k : ℕ) → object ≢ Some k → k ≢ place = λ k other same. other (is ∙ ap Some (sym same)) in
    record {
      all = length-map new told ∙ len ∙ sym (length-map old told);
      all_spare = length-map new spare ∙ len ∙ sym (length-map old spare);
      others = λ k other. slice_get-map told new k ∙ ap (option_map told) (others k (another k other)) ∙ sym (slice_get-map told old k);
      others_spare = λ k other. slice_get-map spare new k ∙ ap (option_map spare) (others k (another k other)) ∙ sym (slice_get-map spare old k);
      takes = λ p x y at before after.
          let (b, b-at, b-is) = map-found told old p x before in
          let (c, c-at, c-is) = map-found told new p y after in
          let b-here = ap (slice_get old) (sym (at-place p at)) ∙ b-at in
          let c-here = ap (slice_get new) (sym (at-place p at)) ∙ c-at in
          subst (λ t. Takes t y d) b-is (subst (λ t. Takes (told b) t d) c-is (takes b c b-here c-here));
      room = λ p x y at before after.
          let (b, b-at, b-is) = map-found spare old p x before in
          let (c, c-at, c-is) = map-found spare new p y after in
          let b-here = ap (slice_get old) (sym (at-place p at)) ∙ b-at in
          let c-here = ap (slice_get new) (sym (at-place p at)) ∙ c-at in
          let le = room b c b-here c-here in
          omega (arith, le, b-is, c-is);
    }
