-- Which subsystems are named, one address after the other.
use Rattle.std.proofs.Common.{◌≡◌, ℕ, ◌+◌, ◌<◌, List, [], ◌∷◌, ◌++◌, length, map, take, ap, sym, ◌∙◌, Option, zero-add}
use Rattle.std.specs.List.{range_with_len}
use Rattle.std.proofs.Math.ListN.{set}
use Rattle.std.proofs.lemmas.List.{take_more_set}
use Rattle.std.proofs.lemmas.List.FromFn.{map-range_with_len_more, length-map-range_with_len}
use Rattle.bus_formats.specs.Plans.{StationData}
use Rattle.bus_formats.specs.declared.plan.SubsystemKind.{SubsystemKind}
use Rattle.bus_run.specs.Kept.{named_at, named_in}
use Rattle.bus_run.proofs.RowLaws.{take-all}

-- one address more
pub named-next : (stations : List StationData) (all : List (Option SubsystemKind)) (a : ℕ) (now : Option SubsystemKind) → a < length all →
    now ≡ named_at a stations → take a all ≡ map (λ n. named_at n stations) (range_with_len 0 a) →
    take (a + 1) (set all a now) ≡ map (λ n. named_at n stations) (range_with_len 0 (a + 1))
named-next stations all a now within is before =
    take_more_set all a now within ∙ ap (λ xs. xs ++ now ∷ []) before ∙ ap (λ x. map (λ n. named_at n stations) (range_with_len 0 a) ++ x ∷ []) is
    ∙ sym (map-range_with_len_more (λ n. named_at n stations) 0 a a (zero-add a))

-- after the last
pub named-all : (stations : List StationData) (all : List (Option SubsystemKind)) (a : ℕ) → a ≡ 31 → length all ≡ 31 →
    take a all ≡ map (λ n. named_at n stations) (range_with_len 0 a) → all ≡ named_in stations
unfolding named_in
named-all stations all a last whole filled =
    sym (take-all all) ∙ ap (λ n. take n all) (whole ∙ sym last) ∙ filled ∙ ap (λ n. map (λ m. named_at m stations) (range_with_len 0 n)) last

-- 31 addresses
pub named-length : (stations : List StationData) → length (named_in stations) ≡ 31
unfolding named_in
named-length stations = length-map-range_with_len (λ n. named_at n stations) 0 31
