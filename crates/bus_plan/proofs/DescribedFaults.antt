-- Each fault of an accepted plan is read back from the table that describes it, and so is the plan from the document.
use Rattle.std.proofs.Common.{◌≡◌, ◌≢◌, ◌≤◌, ◌+◌, ℕ, suc, Bool, true, ◌&&◌, List, [], ◌∷◌, map, zero, Contains, length, get_or, Some, All, arith, refl, sym, ap, ◌∙◌, subst}
use Rattle.std.specs.Prelude.{is_some, nat_le}
use Rattle.std.proofs.lemmas.Bool.{and_from}
use Rattle.std.proofs.lemmas.List.Elements.{All-tail}
use Rattle.std.proofs.lemmas.Bool.Decides.{nat_tests}
use Rattle.bus_base.specs.Fades.{IsFade}
use Rattle.bus_base.specs.Flips.{IsDetectable}
use Rattle.bus_base.specs.Positions.{IsBetween, IsWithin, set_of}
use Rattle.bus_base.specs.declared.samples.Part.{Part}
use Rattle.bus_base.specs.declared.samples.Part.TheVariants.{Command, First, Second}
use Rattle.bus_formats.specs.Accepted.{HasStationRanges, HasHitRanges, HasFaultRanges, IsAccepted}
use Rattle.bus_formats.specs.Plans.{StationData, PlanData}
use Rattle.bus_formats.specs.declared.fault.Fault.{Fault}
use Rattle.bus_formats.specs.declared.fault.Hit.{Hit}
use Rattle.bus_formats.specs.declared.fault.Hit.TheVariants.{Flip, Cut, Extra, Fade}
use Rattle.bus_plan.specs.DecodeFaults.{flips_at, fades_at, flip_of, fade_of, fault_of, plan_of}
use Rattle.bus_plan.specs.DecodeItems.{station_of}
use Rattle.bus_plan.specs.Described.{number, items_of, positions_taken, station_members, fault_members, document_with}
use Rattle.bus_plan.specs.Document.{number_within, number_in}
use Rattle.bus_plan.specs.PlanOf.{head_of}
use Rattle.bus_plan.specs.Positions.{rises, may_stand, positions_from}
use Rattle.bus_plan.specs.Ranges.{address_range, controller_range, attempt_range, struck_range, after_range, command_after_range, extra_range, flip_range, fade_range}
use Rattle.bus_plan.specs.declared.ranges.Range.{Range}
use Rattle.bus_plan.proofs.DescribedItems.{same3}
use Rattle.bus_plan.proofs.ExactItems.{all_first, all_map}
use Rattle.bus_plan.proofs.Flips.{low_first, first_high, rest_rises, rises_within, taken_flips, taken_fades}
use Rattle.bus_plan.proofs.DescribedValues.{number-back, tables-back, rises-from, set-back, list-back}
use Rattle.bus_plan.proofs.DescribedStations.{IsFit, same2, station-read}

some-length : (ps : List ℕ) → ps ≢ [] → 1 ≤ length ps
some-length [] h = absurd (h refl)
some-length (p ∷ ps) h = omega arith

few-positions : (low high : ℕ) (ps : List ℕ) → low ≤ suc high → rises low high ps ≡ true → length ps + low ≤ suc high
few-positions low high [] h r = omega (arith, h)
few-positions low high (p ∷ ps) h r =
    let l : low ≤ p = low_first low high p ps r in
    let m : p ≤ high = first_high low high p ps r in
    let rest : length ps + suc p ≤ suc high = few-positions (suc p) high ps (omega (arith, m)) (rest_rises low high p ps r) in
    omega (arith, l, rest)

stand-from : (range : Range) (most : ℕ) (ps : List ℕ) → ps ≢ [] → length ps ≤ most → rises range.low range.high ps ≡ true
    → may_stand range most ps ≡ true
stand-from range most ps some few r =
    let one : 1 ≤ length ps = some-length ps some in
    grind (arith, nat_tests, one, few, r)

wider : (low high high' : ℕ) (ps : List ℕ) → high ≤ high' → rises low high ps ≡ true → rises low high' ps ≡ true
wider low high high' [] h r = refl
wider low high high' (p ∷ ps) h r =
    let l : low ≤ p = low_first low high p ps r in
    let m : p ≤ high = first_high low high p ps r in
    and_from (nat_le low p && nat_le p high') (rises (suc p) high' ps) (grind (arith, nat_tests, l, m, h))
    (wider (suc p) high high' ps h (rest_rises low high p ps r))

lower : (low low' high : ℕ) (ps : List ℕ) → low' ≤ low → rises low high ps ≡ true → rises low' high ps ≡ true
lower low low' high [] h r = refl
lower low low' high (p ∷ ps) h r =
    let l : low ≤ p = low_first low high p ps r in
    let m : p ≤ high = first_high low high p ps r in
    and_from (nat_le low' p && nat_le p high) (rises (suc p) high ps) (grind (arith, nat_tests, l, m, h)) (rest_rises low high p ps r)

-- the positions of a set that a list names are the list
pub flip-positions : (set : List Bool) (ps : List ℕ) → IsDetectable ps → set ≡ set_of ps → positions_taken 0 set ≡ ps
flip-positions set ps d e = ap (positions_taken 0) e ∙ set-back 39 ps (rises-from 0 39 ps d.within d.rises) (omega arith)

pub flip-stands : (ps : List ℕ) → IsDetectable ps → may_stand flip_range 40 ps ≡ true
flip-stands ps d =
    let r : rises 0 39 ps ≡ true = rises-from 0 39 ps d.within d.rises in
    let few : length ps + 0 ≤ 40 = few-positions 0 39 ps (omega arith) r in
    stand-from flip_range 40 ps d.some (omega (arith, few)) r

fade-rises : (ps : List ℕ) → IsFade ps → rises 3 38 ps ≡ true
fade-rises ps d = rises-from 3 38 ps d.within d.rises

fade-wider : (ps : List ℕ) → IsFade ps → rises 0 39 ps ≡ true
fade-wider ps d = wider 0 38 39 ps (omega arith) (lower 3 0 38 ps (omega arith) (fade-rises ps d))

pub fade-positions : (set : List Bool) (ps : List ℕ) → IsFade ps → set ≡ set_of ps → positions_taken 0 set ≡ ps
fade-positions set ps d e = ap (positions_taken 0) e ∙ set-back 39 ps (fade-wider ps d) (omega arith)

pub fade-stands : (ps : List ℕ) → IsFade ps → may_stand fade_range 3 ps ≡ true
fade-stands ps d = stand-from fade_range 3 ps d.some d.few (fade-rises ps d)

-- what is read of the positions of a set
pub positions-read : (set : List Bool) (ps : List ℕ) → positions_taken 0 set ≡ ps → length ps ≤ 40 → IsWithin 0 39 ps
    → positions_from [] (items_of number (positions_taken 0 set)) ≡ ps
positions-read set ps e few w = ap (λ qs. positions_from [] (items_of number qs)) e ∙ list-back ps few w

detectable-few : (ps : List ℕ) → IsDetectable ps → length ps ≤ 40
detectable-few ps d =
    let few : length ps + 0 ≤ 40 = few-positions 0 39 ps (omega arith) (rises-from 0 39 ps d.within d.rises) in
    omega (arith, few)

pub flip-read : (set : List Bool) (ps : List ℕ) → IsDetectable ps → set ≡ set_of ps
    → positions_from [] (items_of number (positions_taken 0 set)) ≡ ps
flip-read set ps d e = positions-read set ps (flip-positions set ps d e) (detectable-few ps d) d.within

pub fade-read : (set : List Bool) (ps : List ℕ) → IsFade ps → set ≡ set_of ps
    → positions_from [] (items_of number (positions_taken 0 set)) ≡ ps
fade-read set ps d e =
    let few : length ps ≤ 3 = d.few in
    positions-read set ps (fade-positions set ps d e) (omega (arith, few)) (rises_within 0 39 ps (fade-wider ps d))

word-struck-back : (word : ℕ) → word ≤ 39 → number_in struck_range 0 (Some (number word)) ≡ word
word-struck-back word h = number-back struck_range 0 word (omega arith, h)

flip-back : (part : Part) (word : ℕ) (set : List Bool) → HasHitRanges part (Flip word set)
    → flip_of (number_in struck_range 0 (Some (number word))) (flips_at (positions_from [] (items_of number (positions_taken 0 set)))) ≡ Flip word set
flip-back part word set (w, (ps, d, e)) =
    same2 flip_of (word-struck-back word w) (ap flips_at (flip-read set ps d e) ∙ sym (taken_flips ps set (flip-stands ps d) (d, e)))

fade-back : (part : Part) (word : ℕ) (set : List Bool) → HasHitRanges part (Fade word set)
    → fade_of (number_in struck_range 0 (Some (number word))) (fades_at (positions_from [] (items_of number (positions_taken 0 set)))) ≡ Fade word set
fade-back part word set (w, (ps, d, e)) =
    same2 fade_of (word-struck-back word w) (ap fades_at (fade-read set ps d e) ∙ sym (taken_fades ps set (fade-stands ps d) (d, e)))

abbrev fault_with : ℕ → Part → Hit → Fault
fault_with attempt part hit = record { attempt = attempt; part = part; hit = hit }

attempt-back : (n : ℕ) → IsBetween 1 1000000 n → number_in attempt_range 1 (Some (number n)) ≡ n
attempt-back n h = number-back attempt_range 1 n h

fault-back : (attempt : ℕ) (part : Part) (hit : Hit) → IsBetween 1 1000000 attempt → HasHitRanges part hit
    → fault_of (fault_members attempt part hit) ≡ fault_with attempt part hit
fault-back attempt Command (Flip word set) a h = same2 (λ n t. fault_with n Command t) (attempt-back attempt a) (flip-back Command word set h)
fault-back attempt Command (Fade word set) a h = same2 (λ n t. fault_with n Command t) (attempt-back attempt a) (fade-back Command word set h)
fault-back attempt Command (Cut after) a h = same2 (λ n t. fault_with n Command (Cut t)) (attempt-back attempt a) (number-back command_after_range 1 after h)
fault-back attempt Command (Extra words) a h = same2 (λ n t. fault_with n Command (Extra t)) (attempt-back attempt a) (number-back extra_range 1 words h)
fault-back attempt First (Flip word set) a h = same2 (λ n t. fault_with n First t) (attempt-back attempt a) (flip-back First word set h)
fault-back attempt First (Fade word set) a h = same2 (λ n t. fault_with n First t) (attempt-back attempt a) (fade-back First word set h)
fault-back attempt First (Cut after) a h = same2 (λ n t. fault_with n First (Cut t)) (attempt-back attempt a) (number-back after_range 0 after h)
fault-back attempt First (Extra words) a h = same2 (λ n t. fault_with n First (Extra t)) (attempt-back attempt a) (number-back extra_range 1 words h)
fault-back attempt Second (Flip word set) a h = same2 (λ n t. fault_with n Second t) (attempt-back attempt a) (flip-back Second word set h)
fault-back attempt Second (Fade word set) a h = same2 (λ n t. fault_with n Second t) (attempt-back attempt a) (fade-back Second word set h)
fault-back attempt Second (Cut after) a h = same2 (λ n t. fault_with n Second (Cut t)) (attempt-back attempt a) (number-back after_range 0 after h)
fault-back attempt Second (Extra words) a h = same2 (λ n t. fault_with n Second (Extra t)) (attempt-back attempt a) (number-back extra_range 1 words h)

pub fault-read : (f : Fault) → HasFaultRanges f → fault_of (fault_members f.attempt f.part f.hit) ≡ f
fault-read f h = fault-back f.attempt f.part f.hit h.attempt h.hit

-- ---- the plan

pub start-small : (ss : List StationData) (start : ℕ) → All HasStationRanges ss → Contains (map (λ s. s.terminal.address) ss) start → start ≤ 31
start-small [] start h (k, within, same) = absurd (omega (arith, within))
start-small (s ∷ ss) start h (zero, within, same) =
    let first : s.terminal.address ≤ 31 = (all_first HasStationRanges s ss h).terminal.address in
    omega (arith, first, same)
start-small (s ∷ ss) start h (suc k, within, same) =
    start-small ss start (All-tail HasStationRanges s ss h) (k, omega (arith, within), same)

-- the address 31 starts where the start is 31
last-starts : (start : ℕ) → start ≡ 31 → is_some (number_within controller_range (Some (number start))) ≡ true
last-starts start e = subst (λ n. is_some (number_within controller_range (Some (number n))) ≡ true) (sym e) refl

abbrev plan_with : ℕ → List StationData → List Fault → PlanData
plan_with start stations faults = record { start = start; stations = stations; faults = faults }

pub stations-fit : (p : PlanData) → IsAccepted p → All (λ s. IsFit (head_of (document_with p)) s.terminal.address s.terminal.subsystem) p.stations
stations-fit p h k d within = record {
  starts = λ e. last-starts p.start (h.controllers k d within e).starts;
  alone = λ e. (h.controllers k d within e).no_subsystem;
}

pub plan-read : (p : PlanData) → IsAccepted p → p ≡ plan_of (head_of (document_with p)) (document_with p)
plan-read p h =
    sym (same3 plan_with (number-back address_range 0 p.start (omega arith, start-small p.stations p.start h.ranges h.start))
    (tables-back (station_of (head_of (document_with p))) station_members p.stations
    (λ k d within. station-read (head_of (document_with p)) (get_or p.stations k d) (h.ranges k d within) (stations-fit p h k d within)))
    (tables-back fault_of (λ f. fault_members f.attempt f.part f.hit) p.faults
    (all_map HasFaultRanges (λ f. fault_of (fault_members f.attempt f.part f.hit) ≡ f) p.faults fault-read h.hits)))
