-- For how long both channels have been quiet, after rows of samples that ended.
use Rattle.std.proofs.Common.{◌≡◌, inl, inr, ℕ, zero, suc, ◌+◌, ◌-◌, ◌≤◌, true, List, [], ◌∷◌, ◌++◌, length, Some, None, refl, sym, ap, ◌∙◌, arith, append_assoc}
use Rattle.std.proofs.lemmas.Bool.{cases_Bool}
use Rattle.std.proofs.lemmas.Bool.Decides.{nat_tests}
use Rattle.std.proofs.lemmas.Option.{none-some}
use Rattle.std.specs.Prelude.{nat_lt, ◌==◌, ◌&&◌, drop, get_or}
use Rattle.bus_base.specs.Samples.{sample_on, other_of, is_quiet}
use Rattle.bus_base.specs.declared.samples.Channel.{Channel}
use Rattle.bus_base.specs.declared.samples.Channel.TheVariants.{A, B}
use Rattle.bus_base.specs.declared.samples.Pair.{Pair}
use Rattle.bus_base.specs.declared.samples.Sample.{Sample}
use Rattle.bus_base.specs.declared.samples.Sample.TheVariants.{Plus, Minus, Quiet}
use Rattle.bus_line.specs.Past.{Burst, quiet_ticks, quiet, stopped, ended_now}
use Rattle.bus_line.specs.Channels.{on_channel, quiet_both}
use Rattle.bus_line.proofs.Legs.{quiet-quiet_ticks}
use Rattle.bus_law_line.specs.Shown.{first_samples}
use Rattle.bus_law_parts.proofs.PartBursts.{quiet-tail}
use Rattle.bus_law_beside.specs.Rows.{RowEnds}

-- ---- both channels are quiet

both-by : (c : Channel) (x : Pair) (past : List Pair) → is_quiet (sample_on x c) ≡ true → is_quiet (sample_on x (other_of c)) ≡ true →
    quiet_both (x ∷ past) ≡ suc (quiet_both past)
both-by A x past own other = rw (own, other) refl
both-by B x past own other = rw (other, own) refl

-- for so many ticks, where both are
pub quiet-least : (c : Channel) (j : ℕ) (row beside : List Sample) (ticks past : List Pair) → on_channel c ticks ≡ quiet_ticks j ++ row →
    on_channel (other_of c) ticks ≡ quiet_ticks j ++ beside → j ≤ quiet_both (ticks ++ past)
quiet-least c zero row beside ticks past shown quiet = omega arith
quiet-least c (suc j) row beside [] past shown quiet = absurd (cc)
quiet-least c (suc j) row beside (x ∷ ticks) past shown quiet =
    let one = both-by c x (ticks ++ past) (ap (λ xs. is_quiet (get_or xs 0 Plus)) shown) (ap (λ xs. is_quiet (get_or xs 0 Plus)) quiet) in
    let rest = quiet-least c j row beside ticks past (ap (λ (xs : List Sample). drop 1 xs) shown) (ap (λ (xs : List Sample). drop 1 xs) quiet) in
    omega (arith, one, rest)

-- a row that ends with so many quiet ticks
pub front-quiet : (j : ℕ) (xs past : List Sample) → j ≤ quiet (xs ++ past) → j ≤ length xs → (rest : List Sample) × (xs ≡ quiet_ticks j ++ rest)
front-quiet zero xs past many long = (xs, refl)
front-quiet (suc j) [] past many long = absurd (omega (arith, long))
front-quiet (suc j) (Plus ∷ xs) past many long = absurd (omega (arith, many))
front-quiet (suc j) (Minus ∷ xs) past many long = absurd (omega (arith, many))
front-quiet (suc j) (Quiet ∷ xs) past many long =
    let rest = front-quiet j xs past (omega (arith, many)) (omega (arith, long)) in (rest.0, ap (λ ys. Quiet ∷ ys) rest.1)

-- for how long a channel has been quiet, after a row that ended
ended-still : (k : ℕ) (past : List Sample) (burst : Burst) → ended_now k past ≡ Some burst → quiet past ≡ suc k
ended-still k past burst ended = elim (cases_Bool ((quiet past == suc k) && nat_lt 0 (stopped past))) [
  | inl on ↦ grind (arith, nat_tests, on)
  | inr off ↦ (let none : ended_now k past ≡ None = rw off refl in absurd (none-some burst (sym none ∙ ended)))
]

pub quiet-count : (k : ℕ) (row : ℕ → Sample) (known : ℕ) (burst : Burst) (past : List Sample) → RowEnds k row known burst past → (n : ℕ) → suc known ≤ n →
    quiet (first_samples row n ++ past) ≡ (n - suc known) + suc k
quiet-count k row known burst past so n late =
    let at : suc known + (n - suc known) ≡ n = omega (arith, late) in
    let still : quiet (first_samples row (suc known) ++ past) ≡ suc k = ended-still k (first_samples row (suc known) ++ past) burst so.ended in
    let split : first_samples row n ≡ quiet_ticks (n - suc known) ++ first_samples row (suc known) =
    ap (first_samples row) (sym at) ∙ quiet-tail row (suc known) (n - suc known) (λ i after. so.quiet i (omega (arith, after))) in
    ap (λ xs. quiet (xs ++ past)) split
    ∙ ap quiet (append_assoc (quiet_ticks (n - suc known)) (first_samples row (suc known)) past)
    ∙ quiet-quiet_ticks (n - suc known) (first_samples row (suc known) ++ past)
    ∙ ap (λ i. (n - suc known) + i) still
