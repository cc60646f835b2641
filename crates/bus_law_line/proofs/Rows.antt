-- A row of samples after a past in which no burst runs: where none of them is quiet, it is one burst.
use Rattle.std.proofs.Common.{◌≡◌, ◌≢◌, ℕ, zero, suc, ◌+◌, ◌-◌, ◌<◌, ◌≤◌, false, List, [], ◌∷◌, ◌++◌, length, map, reverse, take, drop, Some, None, refl, sym, ap, ◌∙◌, arith}
use Rattle.std.specs.List.{range_with_len}
use Rattle.std.proofs.lemmas.List.{append_assoc}
use Rattle.std.proofs.lemmas.List.FromFn.{map-range_with_len_more}
use Rattle.bus_base.specs.Samples.{is_quiet}
use Rattle.bus_base.specs.declared.samples.Sample.{Sample}
use Rattle.bus_base.specs.declared.samples.Sample.TheVariants.{Quiet}
use Rattle.bus_line.specs.Past.{InLeg, quiet_ticks, quiet, runs, samples_from, burst_from, ended_now, end_since}
use Rattle.bus_line.proofs.PastLaws.{quiet-pulse}
use Rattle.bus_line.proofs.TickLaws.{pulse-sample}
use Rattle.bus_line.proofs.SlotLaws.{reverse-more}
use Rattle.bus_line.proofs.EndLaws.{end_since-early, end_since-later, end_since-ended, end_since-runs}
use Rattle.bus_line.proofs.Legs.{quiet-quiet_ticks, length-quiet_ticks, runs-leg, first_tick-leg, ended-leg}
use Rattle.bus_line.proofs.LegSlots.{slots-leg}
use Rattle.bus_law_line.specs.Shown.{first_samples}

pub length-first : (row : ℕ → Sample) (n : ℕ) → length (first_samples row n) ≡ n
length-first row zero = refl
length-first row (suc n) = ap suc (length-first row n)

-- ---- a part of a row

drop-first : (row : ℕ → Sample) (n m q : ℕ) → n ≡ m + q → drop m (first_samples row n) ≡ first_samples row q
drop-first row n zero q e = let same : n ≡ q = omega (arith, e) in ap (first_samples row) same
drop-first row zero (suc m) q e = absurd (omega (arith, e))
drop-first row (suc n) (suc m) q e = drop-first row n m q (omega (arith, e))

take-first : (row : ℕ → Sample) (p n r : ℕ) → r ≡ p + n → reverse (take n (first_samples row r)) ≡ map (λ j. row (p + j)) (range_with_len 0 n)
take-first row p zero r e = refl
take-first row p (suc n) zero e = absurd (omega (arith, e))
take-first row p (suc n) (suc r) e =
    let here : r ≡ p + n = omega (arith, e) in
    let more = map-range_with_len_more (λ j. row (p + j)) 0 n n (omega arith) in
    let at : n + 1 ≡ suc n = omega arith in
    reverse-more (row r) (take n (first_samples row r))
    ∙ ap (λ xs. xs ++ row r ∷ []) (take-first row p n r here)
    ∙ ap (λ i. map (λ j. row (p + j)) (range_with_len 0 n) ++ row i ∷ []) here
    ∙ sym (rw at at more)

-- n samples from p on, in their order
pub samples-row : (row : ℕ → Sample) (m p n : ℕ) → p + n ≤ m → samples_from (first_samples row m) p n ≡ map (λ j. row (p + j)) (range_with_len 0 n)
samples-row row m p n fits =
    ap (λ l. reverse (take n (drop (l - (p + n)) (first_samples row m)))) (length-first row m)
    ∙ ap (λ xs. reverse (take n xs)) (drop-first row m (m - (p + n)) (p + n) (omega (arith, fits)))
    ∙ take-first row p n (p + n) refl

-- ---- a row that is heard

in-leg : (k : ℕ) (row : ℕ → Sample) (n : ℕ) → ((i : ℕ) → i < n → row i ≢ Quiet) → InLeg k (first_samples row n)
in-leg k row zero heard = tt
in-leg k row (suc n) heard =
    let pulse : is_quiet (row n) ≡ false = pulse-sample (row n) (heard n (omega arith)) in
    let none : quiet (row n ∷ first_samples row n) ≡ 0 = quiet-pulse (row n) (first_samples row n) pulse in
    (omega (arith, none), λ e. pulse, in-leg k row n (λ i low. heard i (omega (arith, low))))

-- with up to k quiet ticks after it too
pub in-leg-quiet : (k : ℕ) (row : ℕ → Sample) (n j : ℕ) → ((i : ℕ) → i < n → row i ≢ Quiet) → 0 < n → j ≤ k → InLeg k (quiet_ticks j ++ first_samples row n)
in-leg-quiet k row n zero heard some few = in-leg k row n heard
in-leg-quiet k row zero (suc j) heard some few = absurd (omega (arith, some))
in-leg-quiet k row (suc n) (suc j) heard some few =
    let pulse : is_quiet (row n) ≡ false = pulse-sample (row n) (heard n (omega arith)) in
    let none : quiet (row n ∷ first_samples row n) ≡ 0 = quiet-pulse (row n) (first_samples row n) pulse in
    let count : quiet (quiet_ticks j ++ first_samples row (suc n)) ≡ j + quiet (first_samples row (suc n)) = quiet-quiet_ticks j (first_samples row (suc n)) in
    let long : length (quiet_ticks j ++ first_samples row (suc n)) ≡ j + length (first_samples row (suc n)) =
    length-quiet_ticks j (first_samples row (suc n)) in (
      omega (arith, none, count, few),
      λ e. absurd (let bare = ap (λ (xs : List Sample). length xs) e in omega (arith, bare, long)),
      in-leg-quiet k row (suc n) j heard some (omega (arith, few)),
    )

-- while it is shown, what began with it has no end
pub running-row : (k : ℕ) (row : ℕ → Sample) (n : ℕ) (past : List Sample) → runs k past ≡ false → ((i : ℕ) → i < n → row i ≢ Quiet) →
    end_since k (first_samples row n ++ past) (length past) ≡ None
running-row k row zero past none heard = end_since-early k past (length past) (omega arith)
running-row k row (suc n) past none heard =
    let leg = in-leg k row (suc n) heard in
    let first = first_tick-leg k (row n) (first_samples row n) past none leg in
    rw first at (end_since-runs k (first_samples row (suc n) ++ past) (runs-leg k (row n) (first_samples row n) past leg))

parts : (past : List Sample) (p n : ℕ) → burst_from past p n ≡ record { first = p; ticks = n; slots = (burst_from past p n).slots }
unfolding burst_from
parts past p n = refl

-- with k + 1 quiet ticks after it, it is the burst that ended
pub ended-row : (k : ℕ) (row : ℕ → Sample) (n : ℕ) (past : List Sample) → runs k past ≡ false → 0 < n → ((i : ℕ) → i < n → row i ≢ Quiet) →
    ended_now k (quiet_ticks (suc k) ++ (first_samples row n ++ past))
    ≡ Some record { first = length past; ticks = n; slots = (burst_from (first_samples row n) 0 n).slots }
ended-row k row zero past none some heard = absurd (omega (arith, some))
ended-row k row (suc n) past none some heard =
    let leg = in-leg k row (suc n) heard in
    let pulse : is_quiet (row n) ≡ false = pulse-sample (row n) (heard n (omega arith)) in
    let long : length (first_samples row n) ≡ n = length-first row n in
    let whole = quiet_ticks (suc k) ++ (first_samples row (suc n) ++ past) in
    ended-leg k (row n) (first_samples row n) past none leg (quiet-pulse (row n) (first_samples row n) pulse)
    ∙ ap (λ m. Some (burst_from whole (length past) (suc m))) long
    ∙ ap (λ b. Some b) (parts whole (length past) (suc n))
    ∙ ap (λ slots. Some (record { first = length past; ticks = suc n; slots = slots }))
    (slots-leg (quiet_ticks (suc k)) (first_samples row (suc n)) past (suc n) (omega (arith, long)))

more-ticks : (a b m : ℕ) → a + b ≡ m → quiet_ticks a ++ quiet_ticks b ≡ quiet_ticks m
more-ticks zero b m e = let same : b ≡ m = omega (arith, e) in ap quiet_ticks same
more-ticks (suc a) b zero e = absurd (omega (arith, e))
more-ticks (suc a) b (suc m) e = ap (λ xs. Quiet ∷ xs) (more-ticks a b m (omega (arith, e)))

-- and its end is found from then on
pub end-row : (k : ℕ) (row : ℕ → Sample) (n m : ℕ) (past : List Sample) → runs k past ≡ false → 0 < n → ((i : ℕ) → i < n → row i ≢ Quiet) → suc k ≤ m →
    end_since k (quiet_ticks m ++ (first_samples row n ++ past)) (length past) ≡ Some (length past + n)
end-row k row n m past none some heard enough =
    let parts : quiet_ticks (m - suc k) ++ quiet_ticks (suc k) ≡ quiet_ticks m = more-ticks (m - suc k) (suc k) m (omega (arith, enough)) in
    ap (λ xs. end_since k (xs ++ (first_samples row n ++ past)) (length past)) (sym parts)
    ∙ ap (λ xs. end_since k xs (length past)) (append_assoc (quiet_ticks (m - suc k)) (quiet_ticks (suc k)) (first_samples row n ++ past))
    ∙ end_since-later k (quiet_ticks (m - suc k)) (quiet_ticks (suc k) ++ (first_samples row n ++ past)) (length past) (length past + n)
    (end_since-ended k (quiet_ticks (suc k) ++ (first_samples row n ++ past))
    record { first = length past; ticks = n; slots = (burst_from (first_samples row n) 0 n).slots } (ended-row k row n past none some heard))
