-- What one tick more does to the burst that runs on a channel, and to the one that ends.
use Rattle.std.proofs.Common.{◌≡◌, ℕ, suc, ◌+◌, ◌-◌, ◌<◌, ◌≤◌, List, [], ◌∷◌, length, refl, ap, sym, arith}
use Rattle.std.specs.Prelude.{Bool, true, false, ◌==◌, ◌&&◌, nat_lt, if◌then◌else◌, Some, None}
use Rattle.std.proofs.lemmas.Bool.Decides.{nat_tests}
use Rattle.bus_base.specs.declared.samples.Sample.{Sample}
use Rattle.bus_base.specs.declared.samples.Sample.TheVariants.{Plus, Minus, Quiet}
use Rattle.bus_line.specs.Past.{Burst, quiet, stopped, runs, first_tick, burst_from, newest_burst, ended_now, end_of}

quiet-le : (past : List Sample) → quiet past ≤ length past
quiet-le [] = omega arith
quiet-le (Plus ∷ past) = omega arith
quiet-le (Minus ∷ past) = omega arith
quiet-le (Quiet ∷ past) = let below : quiet past ≤ length past = quiet-le past in omega arith

-- the number of a burst's first tick, by whether one ran before
first-choice : (ran : Bool) (old now : ℕ) → old ≤ now → (if ran then old else now) ≤ now
first-choice true old now h = h
first-choice false old now h = omega arith

first_tick-le : (k : ℕ) (past : List Sample) → first_tick k past ≤ length past
first_tick-le k [] = omega arith
first_tick-le k (Quiet ∷ past) = let below : first_tick k past ≤ length past = first_tick-le k past in omega arith
first_tick-le k (Plus ∷ past) =
    let below : (if runs k past then first_tick k past else length past) ≤ length past =
    first-choice (runs k past) (first_tick k past) (length past) (first_tick-le k past) in omega arith
first_tick-le k (Minus ∷ past) =
    let below : (if runs k past then first_tick k past else length past) ≤ length past =
    first-choice (runs k past) (first_tick k past) (length past) (first_tick-le k past) in omega arith

-- the newest burst has a tick
pub first_tick-stopped : (k : ℕ) (past : List Sample) → 0 < stopped past → first_tick k past < stopped past
first_tick-stopped k [] h = absurd (omega (arith, h))
first_tick-stopped k (Quiet ∷ past) h =
    let some : 0 < stopped past = omega (arith, h) in
    let below : first_tick k past < stopped past = first_tick-stopped k past some in
    omega arith
first_tick-stopped k (Plus ∷ past) h =
    let below : (if runs k past then first_tick k past else length past) ≤ length past =
    first-choice (runs k past) (first_tick k past) (length past) (first_tick-le k past) in omega arith
first_tick-stopped k (Minus ∷ past) h =
    let below : (if runs k past then first_tick k past else length past) ≤ length past =
    first-choice (runs k past) (first_tick k past) (length past) (first_tick-le k past) in omega arith

-- a tick in which no burst ends: one that ran runs on, and one that begins has this tick as its first
pub record RunsOn (k : ℕ) (x : Sample) (past : List Sample) : Type 0 where
  pub on : runs k past ≡ true → runs k (x ∷ past) ≡ true
  pub same : runs k past ≡ true → first_tick k (x ∷ past) ≡ first_tick k past
  pub begins : runs k past ≡ false → runs k (x ∷ past) ≡ true → first_tick k (x ∷ past) ≡ length past

pub runs-on : (k : ℕ) (x : Sample) (past : List Sample) → ended_now k (x ∷ past) ≡ None → RunsOn k x past
runs-on k Plus past none = record { on = λ _. grind (arith, nat_tests); same = λ ran. rw ran refl; begins = λ ran _. rw ran refl }
runs-on k Minus past none = record { on = λ _. grind (arith, nat_tests); same = λ ran. rw ran refl; begins = λ ran _. rw ran refl }
runs-on k Quiet past none =
    let below : quiet past ≤ length past = quiet-le past in
    record {
      on = λ ran. grind (arith, nat_tests, none, ran, below);
      same = λ _. refl;
      begins = λ ran now. grind (arith, nat_tests, none, ran, now, below);
    }

if-some : {T : Type 0} (test : Bool) (x y : T) → (if test then Some x else None) ≡ Some y → (test ≡ true) × (x ≡ y)
if-some true x y h = (refl, cc)
if-some false x y h = absurd (cc)

-- a tick in which the end of a burst is known: that burst ran before, none runs now, and it ended k ticks ago
pub record Ends (k : ℕ) (past : List Sample) (burst : Burst) (now : List Sample) : Type 0 where
  pub ran : runs k past ≡ true
  pub first : burst.first ≡ first_tick k past
  pub over : runs k now ≡ false
  pub end : end_of burst + k ≡ length past

pub an-end : (k : ℕ) (x : Sample) (past : List Sample) (burst : Burst) → ended_now k (x ∷ past) ≡ Some burst → Ends k past burst (x ∷ past)
unfolding burst_from
an-end k Plus past burst some =
    let e : (((quiet (Plus ∷ past)) == suc k) && nat_lt 0 (stopped (Plus ∷ past))) ≡ true = (if-some _ _ _ some).0 in absurd (grind (arith, nat_tests, e))
an-end k Minus past burst some =
    let e : (((quiet (Minus ∷ past)) == suc k) && nat_lt 0 (stopped (Minus ∷ past))) ≡ true = (if-some _ _ _ some).0 in absurd (grind (arith, nat_tests, e))
an-end k Quiet past burst some =
    let below : quiet past ≤ length past = quiet-le past in
    let test : ((suc (quiet past) == suc k) && nat_lt 0 (suc (length past) - suc (quiet past))) ≡ true = (if-some _ _ _ some).0 in
    let full : quiet past ≡ k = grind (arith, nat_tests, test) in
    let heard : 0 < length past - quiet past = grind (arith, nat_tests, test) in
    let is : newest_burst k (Quiet ∷ past) ≡ burst = (if-some _ _ _ some).1 in
    let first : first_tick k past ≡ burst.first = ap (λ b. b.first) is in
    let ticks : (suc (length past) - suc (quiet past)) - first_tick k past ≡ burst.ticks = ap (λ b. b.ticks) is in
    let before : first_tick k past < stopped past = first_tick-stopped k past heard in
    record {
      ran = grind (arith, nat_tests, full, heard);
      first = sym first;
      over = grind (arith, nat_tests, full);
      end = omega (arith, full, heard, first, ticks, before, below);
    }
