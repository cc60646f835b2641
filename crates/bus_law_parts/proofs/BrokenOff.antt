-- A part that is broken off is a burst up to its last sample that isn't faded.
use Rattle.std.proofs.Common.{◌≡◌, inl, inr, ℕ, zero, suc, ◌+◌, ◌-◌, ◌/◌, ◌%◌, ◌<◌, ◌≤◌, Bool, false, List, [], ◌∷◌, ◌++◌, length, take, Some, None, refl, sym, ap, ◌∙◌, subst, arith}
use Rattle.std.proofs.lemmas.Bool.{cases_Bool}
use Rattle.std.proofs.lemmas.List.{append_assoc, length-take-le}
use Rattle.std.specs.Prelude.{Option, min, if◌then◌else◌}
use Rattle.bus_base.specs.Samples.{is_quiet}
use Rattle.bus_base.specs.declared.samples.Part.{Part}
use Rattle.bus_base.specs.declared.samples.Sample.{Sample}
use Rattle.bus_base.specs.declared.samples.Sample.TheVariants.{Quiet}
use Rattle.bus_words.specs.declared.word.Word.{Word}
use Rattle.bus_line.specs.Past.{InLeg, quiet_ticks, quiet, runs, ended_now, end_since}
use Rattle.bus_line.proofs.EndLaws.{end_since-runs}
use Rattle.bus_line.proofs.Legs.{quiet-quiet_ticks, length-quiet_ticks, runs-leg, first_tick-leg}
use Rattle.bus_line.proofs.TickLaws.{quiet-sample}
use Rattle.bus_model.specs.Strikes.{ShownAnswer, burst_ticks, faded_before, first_ticks, is_faded, struck}
use Rattle.bus_law_line.specs.Shown.{first_samples}
use Rattle.bus_law_line.proofs.Rows.{length-first}
use Rattle.bus_law_parts.specs.Parts.{HitsFit, StopsAfter, part_ticks, part_sample}
use Rattle.bus_law_parts.proofs.PartSlots.{slots-read}
use Rattle.bus_law_parts.proofs.PartBursts.{more-ticks, ended-row, end-row, rests-after, leg-part}
use Rattle.bus_law_parts.proofs.Quiets.{is_own_faded, part-quiets, run-short, quiet-part}
use Rattle.bus_law_parts.proofs.Runs.{run_to}

-- ---- a row up to its last run of quiet samples

split-run : (row : ℕ → Sample) (f : ℕ → Bool) (m : ℕ) → ((i : ℕ) → i < m → is_quiet (row i) ≡ f i) →
    first_samples row m ≡ quiet_ticks (run_to f m) ++ first_samples row (m - run_to f m)
split-run row f zero same = refl
split-run row f (suc m) same = elim (cases_Bool (f m)) [
  | inl faded ↦ (
      let off : row m ≡ Quiet = quiet-sample (row m) (same m (omega arith) ∙ faded) in
      let left : suc m - suc (run_to f m) ≡ m - run_to f m = omega arith in
      let rest = split-run row f m (λ i low. same i (omega (arith, low))) in
      ap (λ x. x ∷ first_samples row m) off ∙ ap (λ xs. Quiet ∷ xs) rest
      ∙ sym (ap (λ (b : Bool). quiet_ticks (if b then suc (run_to f m) else 0) ++ first_samples row (suc m - (if b then suc (run_to f m) else 0))) faded
      ∙ ap (λ n. Quiet ∷ (quiet_ticks (run_to f m) ++ first_samples row n)) left))
  | inr bare ↦ (
      let left : suc m - 0 ≡ suc m = omega arith in
      sym (ap (λ (b : Bool). quiet_ticks (if b then suc (run_to f m) else 0) ++ first_samples row (suc m - (if b then suc (run_to f m) else 0))) bare
      ∙ ap (first_samples row) left))
]

run-stop : (f : ℕ → Bool) (m n : ℕ) → suc n + run_to f m ≡ m → f n ≡ false
run-stop f zero n at = absurd (omega (arith, at))
run-stop f (suc m) n at = elim (cases_Bool (f m)) [
  | inl faded ↦ (let more : suc n + suc (run_to f m) ≡ suc m = rw faded at at in run-stop f m n (omega (arith, more)))
  | inr bare ↦ (
      let none : suc n + 0 ≡ suc m = rw bare at at in
      let here : n ≡ m = omega (arith, none) in
      rw here bare)
]

-- ---- faded samples, as the message table counts them

faded-run : (shown : ShownAnswer) (m : ℕ) → faded_before shown m ≡ run_to (is_own_faded shown.hits shown.sent.words) m
faded-run shown zero = refl
faded-run shown (suc m) =
    ap (λ n. if is_own_faded shown.hits shown.sent.words m then suc n else 0) (faded-run shown m)

pub quiet-faded : (part : Part) (shown : ShownAnswer) (i : ℕ) → HitsFit part shown.hits shown.sent.words → i < part_ticks shown.hits shown.sent.words →
    is_quiet (part_sample shown.hits shown.sent.words i) ≡ is_faded shown i
quiet-faded part shown i fits low = part-quiets part shown.hits shown.sent.words i fits low

module _ (part : Part) (shown : ShownAnswer) (m : ℕ) (stops : StopsAfter part shown m) where
  abbrev row : ℕ → Sample
  row = part_sample shown.hits shown.sent.words

  faded-few : faded_before shown m ≤ min 3 (m % 40 - 1)
  faded-few =
      let few = run-short part shown.hits shown.sent.words stops.fits m in
      let same = faded-run shown m in
      omega (arith, few, same)

  -- at most three, and fewer than all
  pub few-faded : (faded_before shown m ≤ 3) × (faded_before shown m < m)
  few-faded =
      let few = faded-few in
      let some = stops.some in
      (omega (arith, few), omega (arith, few, some))

  -- the ticks of the burst are those before them
  pub ticks-before : burst_ticks (first_ticks shown m) + faded_before shown m ≡ m
  ticks-before =
      let few = faded-few in
      let within = stops.within in
      let all : length shown.burst.slots ≡ length (struck shown.hits shown.sent.words) = ap (λ (s : List (Option Word)). length s) stops.slots in
      let taken : length (take (m / 40) shown.burst.slots) ≡ m / 40 = length-take-le (m / 40) shown.burst.slots (omega (arith, within, all)) in
      omega (arith, few, taken)

  split-row : first_samples row m ≡ quiet_ticks (faded_before shown m) ++ first_samples row (burst_ticks (first_ticks shown m))
  split-row =
      let same = faded-run shown m in
      let left : m - faded_before shown m ≡ burst_ticks (first_ticks shown m) = (let all = ticks-before in omega (arith, all)) in
      split-run row (is_own_faded shown.hits shown.sent.words) m
      (λ i low. part-quiets part shown.hits shown.sent.words i stops.fits (let within = stops.within in omega (arith, low, within)))
      ∙ ap (λ f. quiet_ticks f ++ first_samples row (m - f)) (sym same)
      ∙ ap (λ n. quiet_ticks (faded_before shown m) ++ first_samples row n) left

  -- with quiet ticks after it the row is shorter, and has more of them
  with-quiet : (j : ℕ) (past : List Sample) →
      quiet_ticks j ++ (first_samples row m ++ past)
      ≡ quiet_ticks (j + faded_before shown m) ++ (first_samples row (burst_ticks (first_ticks shown m)) ++ past)
  with-quiet j past =
      let short = first_samples row (burst_ticks (first_ticks shown m)) in
      ap (λ xs. quiet_ticks j ++ (xs ++ past)) split-row
      ∙ ap (λ xs. quiet_ticks j ++ xs) (append_assoc (quiet_ticks (faded_before shown m)) short past)
      ∙ sym (append_assoc (quiet_ticks j) (quiet_ticks (faded_before shown m)) (short ++ past))
      ∙ ap (λ xs. xs ++ (short ++ past)) (more-ticks j (faded_before shown m) (j + faded_before shown m) refl)

  last-heard : (n : ℕ) → suc n ≡ burst_ticks (first_ticks shown m) → is_quiet (row n) ≡ false
  last-heard n e =
      let all = ticks-before in
      let within = stops.within in
      let same = faded-run shown m in
      part-quiets part shown.hits shown.sent.words n stops.fits (omega (arith, e, all, within))
      ∙ run-stop (is_own_faded shown.hits shown.sent.words) m n (omega (arith, e, all, same))

  short-leg : (k : ℕ) → k ≡ 3 → (n : ℕ) → n ≤ m → InLeg k (first_samples row n)
  short-leg k three n low =
      let some = stops.some in
      let within = stops.within in
      leg-part k part shown.hits shown.sent.words three stops.fits (omega (arith, some, within)) n (omega (arith, low, within))

  -- it is a leg, and quiet ticks after it too, while fewer than k + 1 in a row are quiet
  pub leg-broken : (k j : ℕ) → k ≡ 3 → faded_before shown m + j ≤ k → InLeg k (quiet_ticks j ++ first_samples row m)
  leg-broken k zero three few = short-leg k three m (omega arith)
  leg-broken k (suc j) three few =
      let some = stops.some in
      let long : length (quiet_ticks j ++ first_samples row m) ≡ j + length (first_samples row m) = length-quiet_ticks j (first_samples row m) in
      let all : length (first_samples row m) ≡ m = length-first row m in
      let count : quiet (quiet_ticks j ++ first_samples row m) ≡ j + quiet (first_samples row m) = quiet-quiet_ticks j (first_samples row m) in
      let run = quiet-part part shown.hits shown.sent.words stops.fits m stops.within in
      let same = faded-run shown m in (
        omega (arith, count, run, same, few),
        λ e. absurd (let bare = ap (λ (xs : List Sample). length xs) e in omega (arith, bare, long, all, some)),
        leg-broken k j three (omega (arith, few)),
      )

  broken-at : (k n : ℕ) (past : List Sample) → k ≡ 3 → suc n ≡ burst_ticks (first_ticks shown m) → runs k past ≡ false →
      ended_now k (quiet_ticks (suc k) ++ (first_samples row (suc n) ++ past))
      ≡ Some record { first = length past; ticks = suc n; slots = (first_ticks shown m).slots }
  broken-at k n past three e none =
      let all = ticks-before in
      let within = stops.within in
      let few = faded-few in
      let whole : suc n / 40 ≡ m / 40 = omega (arith, e, all, few) in
      ended-row k row n past none (short-leg k three (suc n) (omega (arith, e, all))) (last-heard n e)
      ∙ ap (λ slots. Some (record { first = length past; ticks = suc n; slots = slots }))
      (slots-read part shown.hits shown.sent.words (suc n) stops.fits (omega (arith, e, all, within))
      ∙ ap (λ i. take i (struck shown.hits shown.sent.words)) whole
      ∙ ap (take (m / 40)) (sym stops.slots))

  some-ticks : suc (burst_ticks (first_ticks shown m) - 1) ≡ burst_ticks (first_ticks shown m)
  some-ticks =
      let all = ticks-before in
      let few = few-faded.1 in
      omega (arith, all, few)

  -- with k + 1 quiet ticks, the faded ones among them, it is the burst that ends
  pub ended-broken : (k j : ℕ) (past : List Sample) → k ≡ 3 → faded_before shown m + j ≡ suc k → runs k past ≡ false →
      ended_now k (quiet_ticks j ++ (first_samples row m ++ past))
      ≡ Some record { first = length past; ticks = burst_ticks (first_ticks shown m); slots = (first_ticks shown m).slots }
  ended-broken k j past three now none =
      let all : j + faded_before shown m ≡ suc k = omega (arith, now) in
      ap (ended_now k) (with-quiet j past)
      ∙ ap (λ q. ended_now k (quiet_ticks q ++ (first_samples row (burst_ticks (first_ticks shown m)) ++ past))) all
      ∙ subst (λ n. ended_now k (quiet_ticks (suc k) ++ (first_samples row n ++ past))
      ≡ Some record { first = length past; ticks = n; slots = (first_ticks shown m).slots }) some-ticks
      (broken-at k (burst_ticks (first_ticks shown m) - 1) past three some-ticks none)

  -- and where it ended stays known
  pub end-broken : (k j : ℕ) (past : List Sample) → k ≡ 3 → suc k ≤ faded_before shown m + j → runs k past ≡ false →
      end_since k (quiet_ticks j ++ (first_samples row m ++ past)) (length past) ≡ Some (length past + burst_ticks (first_ticks shown m))
  end-broken k j past three enough none =
      let all = ticks-before in
      ap (λ xs. end_since k xs (length past)) (with-quiet j past)
      ∙ subst (λ n. end_since k (quiet_ticks (j + faded_before shown m) ++ (first_samples row n ++ past)) (length past) ≡ Some (length past + n)) some-ticks
      (end-row k row (burst_ticks (first_ticks shown m) - 1) (j + faded_before shown m) past none
      (short-leg k three (suc (burst_ticks (first_ticks shown m) - 1)) (let some = some-ticks in omega (arith, some, all)))
      (last-heard (burst_ticks (first_ticks shown m) - 1) some-ticks) (omega (arith, enough)))

  -- before that it has no end
  pub endless-broken : (k j : ℕ) (past : List Sample) → k ≡ 3 → faded_before shown m + j ≤ k → runs k past ≡ false →
      end_since k (quiet_ticks j ++ (first_samples row m ++ past)) (length past) ≡ None
  endless-broken k j past three few none =
      ap (λ xs. end_since k xs (length past)) (sym (append_assoc (quiet_ticks j) (first_samples row m) past))
      ∙ by (quiet_ticks j ++ first_samples row m) (leg-broken k j three few) long
    where
      long : 0 < length (quiet_ticks j ++ first_samples row m)
      long =
          let some = stops.some in
          let all : length (first_samples row m) ≡ m = length-first row m in
          let sum : length (quiet_ticks j ++ first_samples row m) ≡ j + length (first_samples row m) = length-quiet_ticks j (first_samples row m) in
          omega (arith, some, all, sum)

      by : (leg : List Sample) → InLeg k leg → 0 < length leg → end_since k (leg ++ past) (length past) ≡ None
      by [] leg some = absurd (omega (arith, some))
      by (x ∷ xs) leg some =
          let first = first_tick-leg k x xs past none leg in
          rw first at (end_since-runs k ((x ∷ xs) ++ past) (runs-leg k x xs past leg))

  -- no burst runs any more
  pub rests-broken : (k j : ℕ) (past : List Sample) → suc k ≤ faded_before shown m + j → runs k (quiet_ticks j ++ (first_samples row m ++ past)) ≡ false
  rests-broken k j past enough =
      ap (runs k) (with-quiet j past)
      ∙ rests-after k (j + faded_before shown m) (first_samples row (burst_ticks (first_ticks shown m)) ++ past) (omega (arith, enough))
