-- The searches for the rules on faults and amounts find nothing exactly where what an accepted plan keeps holds.
use Rattle.std.proofs.Common.{◌≡◌, ◌<◌, ◌≤◌, ◌↔◌, ◌+◌, ◌*◌, inl, inr, ℕ, zero, suc, Bool, true, false, not, ◌&&◌, ◌==◌, List, [], ◌∷◌, take, length, get_or, Option, Some, None, All, AllPairs, arith, refl, sym, ap, ◌∙◌, subst, codes, eqb-true}
use Rattle.std.specs.Prelude.{nat_lt}
use Rattle.std.specs.List.{list_any}
use Rattle.std.proofs.lemmas.Bool.{and_parts, cases_Bool, false≢true}
use Rattle.std.proofs.lemmas.Bool.Decides.{nat_tests}
use Rattle.std.proofs.lemmas.List.{get_or_default}
use Rattle.std.proofs.lemmas.List.Folds.{list_any_at}
use Rattle.std.proofs.lemmas.List.Elements.{All-nil, All-cons, All-tail}
use Rattle.toml.specs.Data.{string, integer, float, boolean, datetime, array, table, Items, no_items, item, Members}
use Rattle.bus_base.specs.Flips.{IsDetectable}
use Rattle.bus_base.specs.Positions.{set_of}
use Rattle.bus_base.specs.declared.samples.Part.{Part}
use Rattle.bus_base.specs.declared.samples.Part.TheVariants.{Command, First, Second}
use Rattle.bus_formats.specs.Accepted.{StrikesTheSame, items_in, IsWithinLimits}
use Rattle.bus_formats.specs.Plans.{StationData, PlanData}
use Rattle.bus_formats.specs.declared.fault.Fault.{Fault}
use Rattle.bus_plan.specs.Decode.{tables, tables_of, list_at}
use Rattle.bus_plan.specs.DecodeFaults.{positions_at}
use Rattle.bus_plan.specs.FaultRules.{flips_undetectably, first_undetectable, undetectable_in, undetectable, word_of, is_same_part, is_same_word, is_same, has_same, same_fault}
use Rattle.bus_plan.specs.Limits.{of_frames, of_stations, most_frames, times_in, too_many}
use Rattle.bus_plan.specs.PlanRules.{HasDetectableFlips, HasFewFrames}
use Rattle.bus_plan.specs.Positions.{may_stand, is_undetectable}
use Rattle.bus_plan.specs.Ranges.{flip_range}
use Rattle.bus_plan.specs.Rows.{has_text}
use Rattle.bus_plan.specs.declared.limits.Measure.TheVariants as measures
use Rattle.bus_plan.specs.declared.rows.Head.{Head}
use Rattle.bus_plan.proofs.ExactItems.{none_where, no-or, all_first}
use Rattle.bus_plan.proofs.FaultLaws.{faults_apart, limits_kept, word_is, sum_same, once, not_above}
use Rattle.bus_plan.proofs.Flips.{detectable_list, detectable_test}
use Rattle.bus_plan.proofs.ItemLaws.{none_unless}

-- ---- flips that can't be detected

-- a fault's flips, where its positions may stand, can be detected
abbrev IsFine : Members → Type 0
IsFine ms = has_text (codes "kind") (codes "flip") ms ≡ true → may_stand flip_range 40 (positions_at ms) ≡ true → IsDetectable (positions_at ms)

and-three : (b m u : Bool) → (b && (m && u)) ≡ false → b ≡ true → m ≡ true → (m && not u) ≡ true
and-three true true false h b m = refl
and-three true true true h b m = absurd (false≢true (sym h))
and-three true false u h b m = absurd (false≢true m)
and-three false m u h b k = absurd (false≢true b)

fine-to : (ms : Members) → flips_undetectably (table ms) ≡ false → IsFine ms
fine-to ms h b m =
    detectable_list (positions_at ms)
    (and-three (has_text (codes "kind") (codes "flip") ms) (may_stand flip_range 40 (positions_at ms)) (is_undetectable (set_of (positions_at ms))) h b m)

and-unless : (b m u : Bool) → (b ≡ true → m ≡ true → u ≡ false) → (b && (m && u)) ≡ false
and-unless true true u h = h refl refl
and-unless true false u h = refl
and-unless false m u h = refl

fine-from : (ms : Members) → IsFine ms → flips_undetectably (table ms) ≡ false
fine-from ms h =
    and-unless (has_text (codes "kind") (codes "flip") ms) (may_stand flip_range 40 (positions_at ms)) (is_undetectable (set_of (positions_at ms)))
    (λ b m. detectable_test (positions_at ms) (h b m))

abbrev found : Items → List Members
found ds = tables (λ ms. ms) ds

flips-to : (n : ℕ) (ds : Items) → first_undetectable n ds ≡ None → All IsFine (found ds)
flips-to n no_items h = All-nil IsFine
flips-to n (item (table ms) ds) h =
    let parts = none_unless (flips_undetectably (table ms)) _ (first_undetectable (n + 1) ds) h in
    All-cons IsFine ms (found ds) (fine-to ms parts.0) (flips-to (n + 1) ds parts.1)
flips-to n (item (integer x) ds) h = flips-to (n + 1) ds h
flips-to n (item (string x) ds) h = flips-to (n + 1) ds h
flips-to n (item (float x) ds) h = flips-to (n + 1) ds h
flips-to n (item (boolean x) ds) h = flips-to (n + 1) ds h
flips-to n (item (datetime x) ds) h = flips-to (n + 1) ds h
flips-to n (item (array x) ds) h = flips-to (n + 1) ds h

flips-from : (n : ℕ) (ds : Items) → All IsFine (found ds) → first_undetectable n ds ≡ None
flips-from n no_items h = refl
flips-from n (item (table ms) ds) h =
    none_where (flips_undetectably (table ms)) _ _ (fine-from ms (all_first IsFine ms (found ds) h)) (flips-from (n + 1) ds (All-tail IsFine ms (found ds) h))
flips-from n (item (integer x) ds) h = flips-from (n + 1) ds h
flips-from n (item (string x) ds) h = flips-from (n + 1) ds h
flips-from n (item (float x) ds) h = flips-from (n + 1) ds h
flips-from n (item (boolean x) ds) h = flips-from (n + 1) ds h
flips-from n (item (datetime x) ds) h = flips-from (n + 1) ds h
flips-from n (item (array x) ds) h = flips-from (n + 1) ds h

in-list : (o : Option Items) → (undetectable_in o ≡ None) ↔ All IsFine (tables_of (λ ms. ms) o)
in-list None = (λ h. All-nil IsFine, λ h. refl)
in-list (Some ds) = (flips-to 1 ds, flips-from 1 ds)

pub flips-exact : (doc : Members) → (undetectable doc ≡ None) ↔ HasDetectableFlips doc
flips-exact doc = in-list (list_at (codes "fault") doc)

-- ---- faults that strike the same

same-part-is : (p q : Part) → is_same_part p q ≡ true → p ≡ q
same-part-is Command Command h = refl
same-part-is First First h = refl
same-part-is Second Second h = refl
same-part-is Command First h = absurd (false≢true h)
same-part-is Command Second h = absurd (false≢true h)
same-part-is First Command h = absurd (false≢true h)
same-part-is First Second h = absurd (false≢true h)
same-part-is Second Command h = absurd (false≢true h)
same-part-is Second First h = absurd (false≢true h)

same-word-is : (v w : Option ℕ) → is_same_word v w ≡ true → v ≡ w
same-word-is None None h = refl
same-word-is (Some a) (Some b) h = ap (λ x. Some x) (eqb-true a b h)
same-word-is None (Some b) h = absurd (false≢true h)
same-word-is (Some a) None h = absurd (false≢true h)

strikes-is : (f g : Fault) → is_same f g ≡ true → StrikesTheSame f g
strikes-is f g h =
    let whole = and_parts ((f.attempt == g.attempt) && is_same_part f.part g.part) (is_same_word (word_of f.hit) (word_of g.hit)) h in
    let parts = and_parts (f.attempt == g.attempt) (is_same_part f.part g.part) whole.0 in
    record {
      attempt = eqb-true f.attempt g.attempt parts.0;
      part = same-part-is f.part g.part parts.1;
      word = sym (word_is f.hit) ∙ same-word-is (word_of f.hit) (word_of g.hit) whole.1 ∙ word_is g.hit;
    }

apart-test : (f g : Fault) → (StrikesTheSame f g → ⊥) → is_same f g ≡ false
apart-test f g h =
    elim (cases_Bool (is_same f g)) [
      | inl same ↦ absurd (h (strikes-is f g same))
      | inr other ↦ other
    ]

not_before : (f : Fault) (fs : List Fault) (m : ℕ) → ((i : ℕ) (d : Fault) → i < m → i < length fs → StrikesTheSame (get_or fs i d) f → ⊥)
    → has_same f (take m fs) ≡ false
not_before f [] zero h = refl
not_before f [] (suc m) h = refl
not_before f (g ∷ gs) zero h = refl
not_before f (g ∷ gs) (suc m) h =
    no-or (is_same g f) _ (apart-test g f (h 0 g (omega arith) (omega arith)))
    (not_before f gs m (λ i d less within. h (suc i) d (omega (arith, less)) (omega (arith, within))))

none_same : (all : List Fault) (n : ℕ) (fs : List Fault)
    → ((j : ℕ) (d : Fault) → j < length fs → has_same (get_or fs j d) (take (n + j) all) ≡ false) → same_fault all n fs ≡ None
none_same all n [] h = refl
none_same all n (f ∷ fs) h =
    let e : n + 0 ≡ n = omega arith in
    none_where (has_same f (take n all)) _ _ (rw e at (h 0 f (omega arith)))
    (none_same all (n + 1) fs (λ j d within. let g : n + 1 + j ≡ n + suc j = omega arith in rw g (h (suc j) d (omega (arith, within)))))

apart_from : (fs : List Fault) → AllPairs (λ a b. StrikesTheSame a b → ⊥) fs → same_fault fs 0 fs ≡ None
apart_from fs h =
    none_same fs 0 fs
    (λ j d within.
    let zero_j : 0 + j ≡ j = omega arith in
    rw zero_j (not_before (get_or fs j d) fs j (λ i e less below same. h i j d less within (subst (λ x. StrikesTheSame x (get_or fs j d)) (get_or_default fs i e d below) same))))

pub faults-exact : (fs : List Fault) → (same_fault fs 0 fs ≡ None) ↔ AllPairs (λ a b. StrikesTheSame a b → ⊥) fs
faults-exact fs = (faults_apart fs, apart_from fs)

-- ---- amounts

above-none : (most n : ℕ) → n ≤ most → nat_lt most n ≡ false
above-none most n h = grind (arith, nat_tests, h)

frames-to : (most : ℕ) (ss : List StationData) → list_any (λ s. nat_lt most (length s.frames)) ss ≡ false → All (λ s. length s.frames ≤ most) ss
frames-to most ss h k d within =
    elim (cases_Bool (nat_lt most (length (get_or ss k d).frames))) [
      | inl holds ↦ absurd (false≢true (sym h ∙ list_any_at (λ s. nat_lt most (length s.frames)) ss k d within holds))
      | inr fails ↦ not_above most (length (get_or ss k d).frames) fails
    ]

frames-from : (most : ℕ) (ss : List StationData) → All (λ s. length s.frames ≤ most) ss → list_any (λ s. nat_lt most (length s.frames)) ss ≡ false
frames-from most [] h = refl
frames-from most (s ∷ ss) h =
    no-or (nat_lt most (length s.frames)) _ (above-none most (length s.frames) (all_first (λ s. length s.frames ≤ most) s ss h))
    (frames-from most ss (All-tail (λ s. length s.frames ≤ most) s ss h))

few-to : (head : Head) (p : PlanData) → too_many head p ≡ None → HasFewFrames head p
few-to head p h =
    let one = none_unless (nat_lt 32 (length p.stations)) _ _ h in
    let two = none_unless (list_any (λ s. nat_lt (most_frames head) (length s.frames)) p.stations) _ _ one.1 in
    frames-to (most_frames head) p.stations two.0

limits-from : (head : Head) (p : PlanData) → IsWithinLimits p → HasFewFrames head p → too_many head p ≡ None
limits-from head p h few =
    none_where (nat_lt 32 (length p.stations)) _ _ (above-none 32 (length p.stations) h.stations)
    (none_where (list_any (λ s. nat_lt (most_frames head) (length s.frames)) p.stations) _ _ (frames-from (most_frames head) p.stations few)
    (none_where (nat_lt 4096 (of_stations measures.Items p.stations)) _ _
    (above-none 4096 (of_stations measures.Items p.stations)
    (rw (sum_same (λ s. times_in measures.Items s * of_frames measures.Items s.frames) items_in once 0 p.stations) h.items))
    (none_where (nat_lt 1024 (length p.faults)) _ _ (above-none 1024 (length p.faults) h.faults)
    (none_where (nat_lt 16384 (of_stations measures.RepeatedItems p.stations)) _ _
    (above-none 16384 (of_stations measures.RepeatedItems p.stations) h.repeated_items)
    (none_where (nat_lt 2048000000 (of_stations measures.RepeatedTicks p.stations)) _ _
    (above-none 2048000000 (of_stations measures.RepeatedTicks p.stations) h.repeated_ticks) refl)))))

pub limits-exact : (head : Head) (p : PlanData) → (too_many head p ≡ None) ↔ (IsWithinLimits p × HasFewFrames head p)
limits-exact head p = (λ h. (limits_kept head p h, few-to head p h), λ h. limits-from head p h.0 h.1)
