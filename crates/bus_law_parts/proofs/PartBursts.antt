-- A part as it is shown is one burst.
use Rattle.std.proofs.Common.{◌≡◌, inl, inr, ℕ, zero, suc, ◌+◌, ◌-◌, ◌*◌, ◌/◌, ◌<◌, ◌≤◌, false, List, ◌∷◌, ◌++◌, length, Some, None, refl, sym, ap, ◌∙◌, subst, arith}
use Rattle.std.proofs.lemmas.Bool.{cases_lt}
use Rattle.std.proofs.lemmas.List.{append_assoc, take_all}
use Rattle.bus_base.specs.Samples.{is_quiet}
use Rattle.bus_base.specs.declared.samples.Part.{Part}
use Rattle.bus_base.specs.declared.samples.Sample.{Sample}
use Rattle.bus_base.specs.declared.samples.Sample.TheVariants.{Quiet}
use Rattle.bus_words.specs.declared.word.Word.{Word}
use Rattle.bus_line.specs.Past.{InLeg, quiet_ticks, quiet, runs, burst_from, ended_now, end_since}
use Rattle.bus_line.proofs.PastLaws.{quiet-pulse, rests-from, rests-more}
use Rattle.bus_line.proofs.EndLaws.{end_since-early, end_since-later, end_since-ended, end_since-runs}
use Rattle.bus_line.proofs.Legs.{quiet-quiet_ticks, runs-leg, first_tick-leg, ended-leg}
use Rattle.bus_line.proofs.LegSlots.{slots-leg}
use Rattle.bus_formats.specs.declared.fault.Hit.{Hit}
use Rattle.bus_model.specs.Strikes.{struck}
use Rattle.bus_law_line.specs.Shown.{first_samples}
use Rattle.bus_law_line.proofs.Rows.{length-first}
use Rattle.bus_law_parts.specs.Parts.{HitsFit, part_ticks, part_sample}
use Rattle.bus_law_parts.proofs.PartSlots.{no-sample, slots-read}
use Rattle.bus_law_parts.proofs.Quiets.{is_own_faded, bare-at, run-words, run-short, quiet-part, part-quiets}

-- ---- a row that is quiet from some place on

pub quiet-tail : (row : ℕ → Sample) (n j : ℕ) → ((i : ℕ) → n ≤ i → row i ≡ Quiet) → first_samples row (n + j) ≡ quiet_ticks j ++ first_samples row n
quiet-tail row n zero silent = let here : n + 0 ≡ n = omega arith in rw here refl
quiet-tail row n (suc j) silent =
    let on : n + suc j ≡ suc (n + j) = omega arith in
    rw (on, silent (n + j) (omega arith), quiet-tail row n j silent) refl

pub more-ticks : (a b m : ℕ) → a + b ≡ m → quiet_ticks a ++ quiet_ticks b ≡ quiet_ticks m
more-ticks zero b m e = let same : b ≡ m = omega (arith, e) in ap quiet_ticks same
more-ticks (suc a) b zero e = absurd (omega (arith, e))
more-ticks (suc a) b (suc m) e = ap (λ xs. Quiet ∷ xs) (more-ticks a b m (omega (arith, e)))

-- ---- a leg that ends with a tick that isn't quiet is the burst that ended

burst-parts : (past : List Sample) (p n : ℕ) → burst_from past p n ≡ record { first = p; ticks = n; slots = (burst_from past p n).slots }
unfolding burst_from
burst-parts past p n = refl

pub ended-row : (k : ℕ) (row : ℕ → Sample) (n : ℕ) (past : List Sample) → runs k past ≡ false → InLeg k (first_samples row (suc n)) → is_quiet (row n) ≡ false →
    ended_now k (quiet_ticks (suc k) ++ (first_samples row (suc n) ++ past))
    ≡ Some record { first = length past; ticks = suc n; slots = (burst_from (first_samples row (suc n)) 0 (suc n)).slots }
ended-row k row n past none leg pulse =
    let long : length (first_samples row n) ≡ n = length-first row n in
    let whole = quiet_ticks (suc k) ++ (first_samples row (suc n) ++ past) in
    ended-leg k (row n) (first_samples row n) past none leg (quiet-pulse (row n) (first_samples row n) pulse)
    ∙ ap (λ m. Some (burst_from whole (length past) (suc m))) long
    ∙ ap (λ b. Some b) (burst-parts whole (length past) (suc n))
    ∙ ap (λ slots. Some (record { first = length past; ticks = suc n; slots = slots }))
    (slots-leg (quiet_ticks (suc k)) (first_samples row (suc n)) past (suc n) (omega (arith, long)))

-- its end stays known
pub end-row : (k : ℕ) (row : ℕ → Sample) (n m : ℕ) (past : List Sample) → runs k past ≡ false → InLeg k (first_samples row (suc n)) →
    is_quiet (row n) ≡ false → suc k ≤ m → end_since k (quiet_ticks m ++ (first_samples row (suc n) ++ past)) (length past) ≡ Some (length past + suc n)
end-row k row n m past none leg pulse enough =
    let parts : quiet_ticks (m - suc k) ++ quiet_ticks (suc k) ≡ quiet_ticks m = more-ticks (m - suc k) (suc k) m (omega (arith, enough)) in
    let whole = first_samples row (suc n) ++ past in
    ap (λ xs. end_since k (xs ++ whole) (length past)) (sym parts)
    ∙ ap (λ xs. end_since k xs (length past)) (append_assoc (quiet_ticks (m - suc k)) (quiet_ticks (suc k)) whole)
    ∙ end_since-later k (quiet_ticks (m - suc k)) (quiet_ticks (suc k) ++ whole) (length past) (length past + suc n)
    (end_since-ended k (quiet_ticks (suc k) ++ whole)
    record { first = length past; ticks = suc n; slots = (burst_from (first_samples row (suc n)) 0 (suc n)).slots } (ended-row k row n past none leg pulse))

-- ---- quiet ticks

pub rests-on : (k j : ℕ) (past : List Sample) → runs k past ≡ false → runs k (quiet_ticks j ++ past) ≡ false
rests-on k zero past none = none
rests-on k (suc j) past none = rests-more k (quiet_ticks j ++ past) (rests-on k j past none)

pub rests-after : (k j : ℕ) (past : List Sample) → suc k ≤ j → runs k (quiet_ticks j ++ past) ≡ false
rests-after k j past enough =
    let count : quiet (quiet_ticks j ++ past) ≡ j + quiet past = quiet-quiet_ticks j past in
    rests-from k (quiet_ticks j ++ past) (inr (omega (arith, count, enough)))

-- ---- a part

module _ (k : ℕ) (part : Part) (hits : List Hit) (words : List Word) (three : k ≡ 3) (fits : HitsFit part hits words) where
  row : ℕ → Sample
  row = part_sample hits words

  pub row-tail : (j : ℕ) → first_samples (part_sample hits words) (part_ticks hits words + j) ≡ quiet_ticks j ++ first_samples (part_sample hits words) (part_ticks hits words)
  row-tail j = quiet-tail (part_sample hits words) (part_ticks hits words) j (no-sample hits words)

  -- never more than three quiet ticks in a row come while it is shown, and k after it
  quiet-few : (n : ℕ) → n ≤ part_ticks hits words + k → quiet (first_samples (part_sample hits words) n) ≤ k
  quiet-few n within = elim (cases_lt (part_ticks hits words) n) [
    | inr inside ↦ (
        let run = run-short part hits words fits n in
        let same = quiet-part part hits words fits n inside in
        omega (arith, run, same, three))
    | inl past ↦ (
        let at : part_ticks hits words + (n - part_ticks hits words) ≡ n = omega (arith, past) in
        let none : quiet (first_samples (part_sample hits words) (part_ticks hits words)) ≡ 0 =
        quiet-part part hits words fits (part_ticks hits words) (omega arith) ∙ run-words part hits words fits (length (struck hits words)) in
        let count : quiet (first_samples (part_sample hits words) (part_ticks hits words + (n - part_ticks hits words))) ≡ (n - part_ticks hits words) + 0 =
        ap quiet (row-tail (n - part_ticks hits words)) ∙ quiet-quiet_ticks (n - part_ticks hits words) (first_samples (part_sample hits words) (part_ticks hits words))
        ∙ ap (λ q. n - part_ticks hits words + q) none in
        let same : quiet (first_samples (part_sample hits words) n) ≡ n - part_ticks hits words + 0 = rw at at count in
        omega (arith, same, within, past))
  ]

  heard-first : 0 < part_ticks hits words → is_quiet (part_sample hits words 0) ≡ false
  heard-first some =
      part-quiets part hits words 0 fits some ∙ bare-at part hits words fits 0 0 (omega arith) (inl (omega arith))

  -- any first ticks of it are a leg, and k quiet ticks after it too
  pub leg-part : 0 < part_ticks hits words → (n : ℕ) → n ≤ part_ticks hits words + k → InLeg k (first_samples (part_sample hits words) n)
  leg-part some zero within = tt
  leg-part some (suc n) within = (
    quiet-few (suc n) within,
    λ e. (
        let long : length (first_samples (part_sample hits words) n) ≡ n = length-first (part_sample hits words) n in
        let bare : length (first_samples (part_sample hits words) n) ≡ 0 = ap (λ (xs : List Sample). length xs) e in
        let here : n ≡ 0 = omega (arith, long, bare) in
        rw here (heard-first some)
        ),
    leg-part some n (omega (arith, within)),
  )

  -- so what began with it has no end meanwhile
  pub endless-part : 0 < part_ticks hits words → (n : ℕ) (past : List Sample) → n ≤ part_ticks hits words + k → runs k past ≡ false →
      end_since k (first_samples (part_sample hits words) n ++ past) (length past) ≡ None
  endless-part some zero past within none = end_since-early k past (length past) (omega arith)
  endless-part some (suc n) past within none =
      let leg = leg-part some (suc n) within in
      let first = first_tick-leg k (part_sample hits words n) (first_samples (part_sample hits words) n) past none leg in
      rw first at (end_since-runs k (first_samples (part_sample hits words) (suc n) ++ past)
      (runs-leg k (part_sample hits words n) (first_samples (part_sample hits words) n) past leg))

  -- its last tick isn't quiet
  pub heard-last : (n : ℕ) → suc n ≡ part_ticks hits words → is_quiet (part_sample hits words n) ≡ false
  heard-last n e =
      let at : 40 * (n / 40) + 39 ≡ n = omega (arith, e) in
      part-quiets part hits words n fits (omega (arith, e))
      ∙ subst (λ i. is_own_faded hits words i ≡ false) at (bare-at part hits words fits (n / 40) 39 (omega arith) (inr (omega arith)))

  ended-at : (n : ℕ) (past : List Sample) → suc n ≡ part_ticks hits words → runs k past ≡ false →
      ended_now k (quiet_ticks (suc k) ++ (first_samples (part_sample hits words) (suc n) ++ past))
      ≡ Some record { first = length past; ticks = suc n; slots = struck hits words }
  ended-at n past e none =
      let some : 0 < part_ticks hits words = omega (arith, e) in
      let slots = slots-read part hits words (suc n) fits (omega (arith, e)) in
      let all : length (struck hits words) ≤ suc n / 40 = omega (arith, e) in
      ended-row k (part_sample hits words) n past none (leg-part some (suc n) (omega (arith, e))) (heard-last n e)
      ∙ ap (λ slots. Some (record { first = length past; ticks = suc n; slots = slots })) (slots ∙ take_all (suc n / 40) (struck hits words) all)

  -- with k + 1 quiet ticks it is the burst that ends
  pub ended-part : (past : List Sample) → 0 < part_ticks hits words → runs k past ≡ false →
      ended_now k (first_samples (part_sample hits words) (part_ticks hits words + suc k) ++ past)
      ≡ Some record { first = length past; ticks = part_ticks hits words; slots = struck hits words }
  ended-part past some none =
      let last : suc (part_ticks hits words - 1) ≡ part_ticks hits words = omega (arith, some) in
      ap (λ xs. ended_now k (xs ++ past)) (row-tail (suc k))
      ∙ ap (ended_now k) (append_assoc (quiet_ticks (suc k)) (first_samples (part_sample hits words) (part_ticks hits words)) past)
      ∙ subst (λ n. ended_now k (quiet_ticks (suc k) ++ (first_samples (part_sample hits words) n ++ past))
      ≡ Some record { first = length past; ticks = n; slots = struck hits words }) last (ended-at (part_ticks hits words - 1) past last none)

  end-at : (n m : ℕ) (past : List Sample) → suc n ≡ part_ticks hits words → runs k past ≡ false → suc k ≤ m →
      end_since k (quiet_ticks m ++ (first_samples (part_sample hits words) (suc n) ++ past)) (length past) ≡ Some (length past + suc n)
  end-at n m past e none enough =
      let some : 0 < part_ticks hits words = omega (arith, e) in
      end-row k (part_sample hits words) n m past none (leg-part some (suc n) (omega (arith, e))) (heard-last n e) enough

  -- and where it ended stays known
  pub end-part : (m : ℕ) (past : List Sample) → 0 < part_ticks hits words → runs k past ≡ false → suc k ≤ m →
      end_since k (first_samples (part_sample hits words) (part_ticks hits words + m) ++ past) (length past) ≡ Some (length past + part_ticks hits words)
  end-part m past some none enough =
      let last : suc (part_ticks hits words - 1) ≡ part_ticks hits words = omega (arith, some) in
      ap (λ xs. end_since k (xs ++ past) (length past)) (row-tail m)
      ∙ ap (λ xs. end_since k xs (length past)) (append_assoc (quiet_ticks m) (first_samples (part_sample hits words) (part_ticks hits words)) past)
      ∙ subst (λ n. end_since k (quiet_ticks m ++ (first_samples (part_sample hits words) n ++ past)) (length past) ≡ Some (length past + n)) last
      (end-at (part_ticks hits words - 1) m past last none enough)

  -- no burst runs then
  pub rests-part : (m : ℕ) (past : List Sample) → suc k ≤ m → runs k (first_samples (part_sample hits words) (part_ticks hits words + m) ++ past) ≡ false
  rests-part m past enough =
      let whole = first_samples (part_sample hits words) (part_ticks hits words) ++ past in
      ap (λ xs. runs k (xs ++ past)) (row-tail m)
      ∙ ap (runs k) (append_assoc (quiet_ticks m) (first_samples (part_sample hits words) (part_ticks hits words)) past)
      ∙ rests-after k m whole enough
