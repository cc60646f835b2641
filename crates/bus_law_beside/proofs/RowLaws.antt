-- A row of samples that is one burst: what is known of it in each tick, and that a terminal passes over it.
use Rattle.std.proofs.Common.{◌≡◌, ◌≢◌, inl, inr, ℕ, zero, suc, ◌+◌, ◌-◌, ◌<◌, ◌≤◌, false, List, [], ◌∷◌, ◌++◌, length, Some, None, refl, sym, ap, ◌∙◌, subst, arith, append_assoc}
use Rattle.std.proofs.lemmas.Bool.{cases_lt, cases_eq, cases_Bool}
use Rattle.std.proofs.lemmas.Bool.Decides.{nat_tests}
use Rattle.std.proofs.lemmas.Option.{none-some}
use Rattle.std.specs.Prelude.{◌&&◌, ◌==◌, nat_lt, drop, get_or}
use Rattle.bus_base.specs.Samples.{sample_on}
use Rattle.bus_base.specs.declared.samples.Channel.{Channel}
use Rattle.bus_base.specs.declared.samples.Channel.TheVariants.{A, B}
use Rattle.bus_base.specs.declared.samples.Pair.{Pair}
use Rattle.bus_base.specs.declared.samples.Part.{Part}
use Rattle.bus_base.specs.declared.samples.Sample.{Sample}
use Rattle.bus_base.specs.declared.samples.Sample.TheVariants.{Plus, Minus, Quiet}
use Rattle.bus_words.specs.declared.word.Word.{Word}
use Rattle.bus_line.specs.Past.{Burst, InLeg, quiet_ticks, quiet, stopped, runs, ended_now, slot_now, end_of, end_since}
use Rattle.bus_line.proofs.EndLaws.{end_since-later, end_since-ended}
use Rattle.bus_line.proofs.Legs.{quiet-quiet_ticks}
use Rattle.bus_formats.specs.Plans.{TerminalData}
use Rattle.bus_formats.specs.declared.fault.Hit.{Hit}
use Rattle.bus_model.specs.Hearing.{Moment, heard_on, is_addressed}
use Rattle.bus_model.specs.Orders.{last_order}
use Rattle.bus_model.specs.Standing.{Standing}
use Rattle.bus_model.specs.Strikes.{ShownAnswer, struck, faded_before, first_ticks, burst_ticks}
use Rattle.bus_law_control.proofs.OtherChannel.{whole-unheeded}
use Rattle.bus_law_control.proofs.Heedless.{unheeded-first}
use Rattle.bus_law_line.specs.Shown.{first_samples}
use Rattle.bus_law_line.proofs.Rows.{length-first}
use Rattle.bus_law_parts.specs.Parts.{HitsFit, StopsAfter, part_ticks, part_sample}
use Rattle.bus_law_parts.proofs.BrokenOff.{few-faded, ticks-before, leg-broken, ended-broken, rests-broken}
use Rattle.bus_law_parts.proofs.PartBursts.{quiet-tail, leg-part, ended-part, rests-part}
use Rattle.bus_law_parts.proofs.PartSlots.{no-sample}
use Rattle.bus_law_stations.specs.Legs.{IsUnheeded, AreUnheeded}
use Rattle.bus_law_stations.proofs.LegTicks.{heard-append, leg-ends-not, leg-endless}
use Rattle.bus_law_stations.proofs.Resting.{ended-quiet}
use Rattle.bus_law_beside.specs.Beside.{broken_sample}
use Rattle.bus_law_beside.specs.Rows.{RowEnds}
use Rattle.bus_law_beside.proofs.OldLane.{broken-low, broken-high}

-- ---- the rows

-- a whole part
pub row-part : (k : ℕ) (part : Part) (hits : List Hit) (words : List Word) (past : List Sample) → k ≡ 3 → HitsFit part hits words →
    0 < part_ticks hits words → runs k past ≡ false →
    RowEnds k (part_sample hits words) (part_ticks hits words + k) record { first = length past; ticks = part_ticks hits words; slots = struck hits words } past
row-part k part hits words past three fits some none =
    let next : part_ticks hits words + suc k ≡ suc (part_ticks hits words + k) = omega arith in record {
      before = none;
      leg = leg-part k part hits words three fits some (part_ticks hits words + k) (omega arith);
      ended = ap (λ n. ended_now k (first_samples (part_sample hits words) n ++ past)) (sym next) ∙ ended-part k part hits words three fits past some none;
      quiet = λ i late. no-sample hits words i (omega (arith, late));
      rests = λ n late.
          let at : part_ticks hits words + (n - part_ticks hits words) ≡ n = omega (arith, late) in
          ap (λ m. runs k (first_samples (part_sample hits words) m ++ past)) (sym at)
          ∙ rests-part k part hits words three fits (n - part_ticks hits words) past (omega (arith, late));
    }

-- the same row up to a place
pub same-row : (f g : ℕ → Sample) (n : ℕ) → ((i : ℕ) → i < n → f i ≡ g i) → first_samples f n ≡ first_samples g n
same-row f g zero same = refl
same-row f g (suc n) same =
    ap (λ x. x ∷ first_samples f n) (same n (omega arith)) ∙ ap (λ xs. g n ∷ xs) (same-row f g n (λ i low. same i (omega (arith, low))))

pub row-low : (hits : List Hit) (words : List Word) (m n : ℕ) → n ≤ m →
    first_samples (broken_sample hits words m) n ≡ first_samples (part_sample hits words) n
row-low hits words m n low =
    same-row (broken_sample hits words m) (part_sample hits words) n (λ i inside. broken-low hits words m i (omega (arith, inside, low)))

pub row-high : (hits : List Hit) (words : List Word) (m j : ℕ) →
    first_samples (broken_sample hits words m) (m + j) ≡ quiet_ticks j ++ first_samples (part_sample hits words) m
row-high hits words m j =
    quiet-tail (broken_sample hits words m) m j (λ i late. broken-high hits words m i late)
    ∙ ap (λ xs. quiet_ticks j ++ xs) (row-low hits words m m (omega arith))

-- the first ticks of an answer
pub row-broken : (k : ℕ) (part : Part) (shown : ShownAnswer) (m : ℕ) (past : List Sample) → k ≡ 3 → StopsAfter part shown m → runs k past ≡ false →
    RowEnds k (broken_sample shown.hits shown.sent.words m) (burst_ticks (first_ticks shown m) + k)
    record { first = length past; ticks = burst_ticks (first_ticks shown m); slots = (first_ticks shown m).slots } past
row-broken k part shown m past three stops none =
    let few = few-faded part shown m stops in
    let low = few.0 in
    let all = ticks-before part shown m stops in
    let f = faded_before shown m in
    let row = broken_sample shown.hits shown.sent.words m in
    let known = burst_ticks (first_ticks shown m) + k in
    let at : m + (k - faded_before shown m) ≡ burst_ticks (first_ticks shown m) + k = omega (arith, all, low, three) in
    let next : m + (suc k - faded_before shown m) ≡ suc (burst_ticks (first_ticks shown m) + k) = omega (arith, all, low, three) in
    let one = first_samples (part_sample shown.hits shown.sent.words) m in
    record {
      before = none;
      leg = subst (λ n. InLeg k (first_samples (broken_sample shown.hits shown.sent.words m) n)) at
          (subst (λ xs. InLeg k xs) (sym (row-high shown.hits shown.sent.words m (k - faded_before shown m)))
          (leg-broken part shown m stops k (k - faded_before shown m) three (omega (arith, low, three))));
      ended = ap (λ n. ended_now k (first_samples (broken_sample shown.hits shown.sent.words m) n ++ past)) (sym next)
          ∙ ap (λ xs. ended_now k (xs ++ past)) (row-high shown.hits shown.sent.words m (suc k - faded_before shown m))
          ∙ ap (ended_now k) (append_assoc (quiet_ticks (suc k - faded_before shown m)) (first_samples (part_sample shown.hits shown.sent.words) m) past)
          ∙ ended-broken part shown m stops k (suc k - faded_before shown m) past three (omega (arith, low, three)) none;
      quiet = λ i late. broken-high shown.hits shown.sent.words m i (omega (arith, late, all, low, three));
      rests = λ n late.
          let here : m + (n - m) ≡ n = omega (arith, late, all, low, three) in
          ap (λ i. runs k (first_samples (broken_sample shown.hits shown.sent.words m) i ++ past)) (sym here)
          ∙ ap (λ xs. runs k (xs ++ past)) (row-high shown.hits shown.sent.words m (n - m))
          ∙ ap (runs k) (append_assoc (quiet_ticks (n - m)) (first_samples (part_sample shown.hits shown.sent.words) m) past)
          ∙ rests-broken part shown m stops k (n - m) past (omega (arith, late, all, low, three));
    }

-- ---- what is known of it in each tick

module _ (k : ℕ) (row : ℕ → Sample) (known : ℕ) (burst : Burst) (past : List Sample) (so : RowEnds k row known burst past) where
  pub leg-to : (n : ℕ) → n ≤ known → InLeg k (first_samples row n)
  leg-to n low = by (known - n) n (omega (arith, low)) where
    by : (j m : ℕ) → m + j ≡ known → InLeg k (first_samples row m)
    by zero m at = let here : m ≡ known = omega (arith, at) in subst (λ i. InLeg k (first_samples row i)) (sym here) so.leg
    by (suc j) m at = (by j (suc m) (omega (arith, at))).2

  -- no other tick ends it
  pub ends-once : (n : ℕ) → n ≢ known → ended_now k (first_samples row (suc n) ++ past) ≡ None
  ends-once n other = elim (cases_lt n known) [
    | inl low ↦ leg-ends-not k (row n) (first_samples row n) past (leg-to (suc n) (omega (arith, low)))
    | inr high ↦ ap (λ x. ended_now k (x ∷ (first_samples row n ++ past))) (so.quiet n high)
        ∙ ended-quiet k (first_samples row n ++ past) (so.rests n (omega (arith, high, other)))
  ]

  pub endless-to : (n : ℕ) → n ≤ known → end_since k (first_samples row n ++ past) (length past) ≡ None
  endless-to n low = leg-endless k (first_samples row n) past so.before (leg-to n low)

  pub end-from : (n : ℕ) → suc known ≤ n → burst.first ≡ length past → end_since k (first_samples row n ++ past) (length past) ≡ Some (end_of burst)
  end-from n late first =
      let at : suc known + (n - suc known) ≡ n = omega (arith, late) in
      ap (λ i. end_since k (first_samples row i ++ past) (length past)) (sym at)
      ∙ ap (λ xs. end_since k (xs ++ past) (length past)) (quiet-tail row (suc known) (n - suc known) (λ i after. so.quiet i (omega (arith, after))))
      ∙ ap (λ xs. end_since k xs (length past)) (append_assoc (quiet_ticks (n - suc known)) (first_samples row (suc known)) past)
      ∙ end_since-later k (quiet_ticks (n - suc known)) (first_samples row (suc known) ++ past) (length past) (end_of burst)
      (subst (λ a. end_since k (first_samples row (suc known) ++ past) a ≡ Some (end_of burst)) first
      (end_since-ended k (first_samples row (suc known) ++ past) burst so.ended))

-- ---- the quiet ticks with which its end is known

-- a row that ends with so many quiet ticks
front-quiet : (j : ℕ) (xs past : List Sample) → j ≤ quiet (xs ++ past) → j ≤ length xs → (rest : List Sample) × (xs ≡ quiet_ticks j ++ rest)
front-quiet zero xs past many long = (xs, refl)
front-quiet (suc j) [] past many long = absurd (omega (arith, long))
front-quiet (suc j) (Plus ∷ xs) past many long = absurd (omega (arith, many))
front-quiet (suc j) (Minus ∷ xs) past many long = absurd (omega (arith, many))
front-quiet (suc j) (Quiet ∷ xs) past many long =
    let rest = front-quiet j xs past (omega (arith, many)) (omega (arith, long)) in (rest.0, ap (λ ys. Quiet ∷ ys) rest.1)

-- where a burst ends k + 1 ticks were quiet
ended-still : (k : ℕ) (past : List Sample) (burst : Burst) → ended_now k past ≡ Some burst → quiet past ≡ suc k
ended-still k past burst ended = elim (cases_Bool ((quiet past == suc k) && nat_lt 0 (stopped past))) [
  | inl on ↦ grind (arith, nat_tests, on)
  | inr off ↦ (let none : ended_now k past ≡ None = rw off refl in absurd (none-some burst (sym none ∙ ended)))
]

pub quiet-end : (k : ℕ) (row : ℕ → Sample) (known : ℕ) (burst : Burst) (past : List Sample) → RowEnds k row known burst past → (n : ℕ) → suc known ≤ n →
    k ≤ known → (rest : List Sample) × (first_samples row n ≡ quiet_ticks (suc k) ++ rest)
quiet-end k row known burst past so n late enough =
    let at : suc known + (n - suc known) ≡ n = omega (arith, late) in
    let j = n - suc known in
    let still : quiet (first_samples row (suc known) ++ past) ≡ suc k = ended-still k (first_samples row (suc known) ++ past) burst so.ended in
    let split : first_samples row n ≡ quiet_ticks (n - suc known) ++ first_samples row (suc known) =
    ap (first_samples row) (sym at) ∙ quiet-tail row (suc known) (n - suc known) (λ i after. so.quiet i (omega (arith, after))) in
    let count : quiet (quiet_ticks (n - suc known) ++ (first_samples row (suc known) ++ past)) ≡ (n - suc known) + quiet (first_samples row (suc known) ++ past) =
    quiet-quiet_ticks (n - suc known) (first_samples row (suc known) ++ past) in
    let same : quiet (first_samples row n ++ past) ≡ (n - suc known) + quiet (first_samples row (suc known) ++ past) =
    ap (λ xs. quiet (xs ++ past)) split
    ∙ ap quiet (append_assoc (quiet_ticks (n - suc known)) (first_samples row (suc known)) past) ∙ count in
    let long : length (first_samples row n) ≡ n = length-first row n in
    front-quiet (suc k) (first_samples row n) past (omega (arith, same, still)) (omega (arith, long, late, enough))

-- ---- a terminal for which no command is in it

-- a tick with this sample on one channel
abbrev pub only : Channel → Sample → Pair
only A x = record { a = x; b = Quiet }
only B x = record { a = Quiet; b = x }

only-on : (c : Channel) (x : Sample) → sample_on (only c x) c ≡ x
only-on A x = refl
only-on B x = refl

-- the row goes on
abbrev pub going_on : Channel → (ℕ → Sample) → ℕ → ℕ → List Moment
going_on c row n zero = []
going_on c row n (suc j) = record { shown = only c (row (n + j)); has_items = false } ∷ going_on c row n j

pub heard-on : (c : Channel) (row : ℕ → Sample) (ticks : List Moment) (j : ℕ) → heard_on c ticks ≡ first_samples row (length ticks) →
    heard_on c (going_on c row (length ticks) j ++ ticks) ≡ first_samples row (length ticks + j)
heard-on c row ticks zero shown = let none : length ticks + 0 ≡ length ticks = omega arith in shown ∙ ap (first_samples row) (sym none)
heard-on c row ticks (suc j) shown =
    let next : length ticks + suc j ≡ suc (length ticks + j) = omega arith in
    ap (λ x. x ∷ heard_on c (going_on c row (length ticks) j ++ ticks)) (only-on c (row (length ticks + j)))
    ∙ ap (λ xs. row (length ticks + j) ∷ xs) (heard-on c row ticks j shown)
    ∙ ap (first_samples row) (sym next)

pub going-long : (c : Channel) (row : ℕ → Sample) (n j : ℕ) (ticks : List Moment) → length (going_on c row n j ++ ticks) ≡ j + length ticks
going-long c row n zero ticks = omega arith
going-long c row n (suc j) ticks = let rest = going-long c row n j ticks in omega (arith, rest)

module _ (k : ℕ) (t : TerminalData) (s : Standing) (c : Channel) (heard : List Moment) (small : k < 40) (row : ℕ → Sample) (known : ℕ) (burst : Burst)
    (so : RowEnds k row known burst (heard_on c heard)) where
  -- where the row was heard before, no burst runs
  whole-heard : (ticks : List Moment) → heard_on c ticks ≡ first_samples row (length ticks) →
      heard_on c (ticks ++ heard) ≡ first_samples row (length ticks) ++ heard_on c heard
  whole-heard ticks shown = heard-append c ticks heard ∙ ap (λ xs. xs ++ heard_on c heard) shown

  -- a tick after its end
  pub quiet-row : (now : Moment) (ticks : List Moment) → heard_on c (now ∷ ticks) ≡ first_samples row (length (now ∷ ticks)) → suc known ≤ length ticks →
      IsUnheeded k t s c (now ∷ (ticks ++ heard))
  quiet-row now ticks shown late =
      let before : heard_on c ticks ≡ first_samples row (length ticks) = ap (λ (xs : List Sample). drop 1 xs) shown in
      let here : sample_on now.shown c ≡ Quiet = ap (λ xs. get_or xs 0 Quiet) shown ∙ so.quiet (length ticks) (omega (arith, late)) in
      let past = heard_on c (ticks ++ heard) in
      let still : runs k (heard_on c (ticks ++ heard)) ≡ false = ap (runs k) (whole-heard ticks before) ∙ so.rests (length ticks) late in
      let ended : ended_now k (heard_on c (now ∷ (ticks ++ heard))) ≡ None = ap (λ x. ended_now k (x ∷ past)) here ∙ ended-quiet k past still in
      inr (ap (λ x. is_addressed t.address (slot_now k (x ∷ past))) here, λ b is. absurd (none-some b (sym ended ∙ is)))

  module _ (none : last_order t.address burst.slots ≡ None) where
    last-of : (now : Moment) (ticks : List Moment) → heard_on c (now ∷ ticks) ≡ first_samples row (length (now ∷ ticks)) → length ticks ≡ known →
        AreUnheeded k t s c heard (now ∷ ticks)
    last-of now ticks shown at =
        let before : heard_on c ticks ≡ first_samples row (length ticks) = ap (λ (xs : List Sample). drop 1 xs) shown in
        whole-unheeded k t s c heard ticks now burst small
        (subst (λ xs. InLeg k xs) (sym (before ∙ ap (first_samples row) at)) so.leg)
        (ap (ended_now k) (whole-heard (now ∷ ticks) shown) ∙ ap (λ n. ended_now k (first_samples row (suc n) ++ heard_on c heard)) at ∙ so.ended)
        none

    -- the first ticks of the row, and those after it
    pub unheeded-row : (ticks : List Moment) → heard_on c ticks ≡ first_samples row (length ticks) → AreUnheeded k t s c heard ticks
    unheeded-row [] shown = tt
    unheeded-row (now ∷ ticks) shown = elim (cases_eq (length ticks) known) [
      | inl at ↦ last-of now ticks shown at
      | inr other ↦ elim (cases_lt (length ticks) known) [
        | inr late ↦ (
          quiet-row now ticks shown (omega (arith, late, other)),
          unheeded-row ticks (ap (λ (xs : List Sample). drop 1 xs) shown),
        )
        | inl early ↦ (
            let n : ℕ = length (now ∷ ticks) in
            let j = known - length (now ∷ ticks) in
            let more = going_on c row (length (now ∷ ticks)) (known - length (now ∷ ticks)) in
            let long : length (more ++ (now ∷ ticks)) ≡ known = omega (arith, going-long c row (length (now ∷ ticks)) (known - length (now ∷ ticks)) (now ∷ ticks), early) in
            let at : length (now ∷ ticks) + (known - length (now ∷ ticks)) ≡ known = omega (arith, early) in
            let heard_more : heard_on c (more ++ (now ∷ ticks)) ≡ first_samples row (length (more ++ (now ∷ ticks))) =
            heard-on c row (now ∷ ticks) (known - length (now ∷ ticks)) shown ∙ ap (first_samples row) (at ∙ sym long) in
            let last : Moment = record { shown = only c (row (length (more ++ (now ∷ ticks)))); has_items = false } in
            unheeded-first k t s c heard (now ∷ ticks) (last ∷ more)
            (last-of last (more ++ (now ∷ ticks))
            (ap (λ x. x ∷ heard_on c (more ++ (now ∷ ticks))) (only-on c (row (length (more ++ (now ∷ ticks)))))
            ∙ ap (λ xs. row (length (more ++ (now ∷ ticks))) ∷ xs) heard_more) long))
      ]
    ]
