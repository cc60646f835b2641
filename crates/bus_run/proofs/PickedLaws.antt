-- The objects that stay of those that were handed in.
use Rattle.std.proofs.Common.{◌≡◌, ℕ, ◌+◌, ◌<◌, ◌≤◌, List, [], length, map, ap, sym, ◌∙◌, subst, Option}
use Rattle.std.specs.Prelude.{All}
use Rattle.std.proofs.lemmas.List.{length-map}
use Rattle.bus_formats.specs.Plans.{PlanData}
use Rattle.bus_formats.specs.declared.log.Delivery.{Delivery}
use Rattle.bus_formats.specs.declared.plan.SubsystemKind.{SubsystemKind}
use Rattle.bus_run.specs.Amounts.{most_deliveries}
use Rattle.bus_run.specs.Deliveries.{served, Serves}
use Rattle.bus_run.specs.Kept.{named_in, places_from, places, HasRoom, IsPicked}
use Rattle.bus_run.proofs.AcceptedLaws.{places-length}
use Rattle.bus_run.proofs.DeliveryLaws.{serves-start}
use Rattle.bus_run.proofs.Reserved.{picked-of, picked-map, picked-length, picked-room}

-- the places by what is named
places-of : (plan : PlanData) (named : List (Option SubsystemKind)) → named ≡ named_in plan.stations → places plan ≡ places_from 0 named
unfolding places
places-of plan named is = ap (places_from 0) (sym is)

-- each is a place of the objects
pub places-given : (plan : PlanData) (named : List (Option SubsystemKind)) (n m : ℕ) → named ≡ named_in plan.stations → m ≡ n →
    All (λ p. p < n) (places plan) → All (λ p. p < m) (places_from 0 named)
places-given plan named n m is same all =
    subst (λ k. All (λ p. p < k) (places_from 0 named)) (sym same) (subst (λ ps. All (λ p. p < n) ps) (places-of plan named is) all)

-- what is told or said is picked with them
pub picked-places : {A B : Type 0} (f : A → B) (reserved now : List A) (olds : List B) (plan : PlanData) (named : List (Option SubsystemKind)) →
    named ≡ named_in plan.stations → map f reserved ≡ olds → IsPicked reserved (places_from 0 named) now → IsPicked olds (places plan) (map f now)
picked-places f reserved now olds plan named is same picked =
    subst (λ ps. IsPicked olds ps (map f now)) (sym (places-of plan named is)) (picked-map f reserved (places_from 0 named) now olds (sym same) picked)

-- they have room for all that may come
pub picked-serves : {A : Type 0} (told : A → Option (List Delivery)) (spare : A → ℕ) (reserved now : List A) (plan : PlanData)
    (named : List (Option SubsystemKind)) (n : ℕ) → named ≡ named_in plan.stations → IsPicked reserved (places_from 0 named) now →
    All (HasRoom n (map spare reserved)) (places_from 0 named) → most_deliveries plan + 1 ≤ n → Serves plan (map told now) [] (map told now) (map spare now)
picked-serves told spare reserved now plan named n is picked room enough =
    let all : length now ≡ length (served plan) =
    picked-length reserved (places_from 0 named) now picked ∙ ap length (sym (places-of plan named is)) ∙ places-length plan in
    serves-start plan (map told now) (map spare now) n (length-map now told ∙ all) (length-map now spare ∙ all) enough
    (λ p m at. picked-room n (map spare reserved) (places_from 0 named) (map spare now) p m (picked-of spare reserved (places_from 0 named) now picked) room at)
