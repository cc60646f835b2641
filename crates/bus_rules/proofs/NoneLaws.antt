-- Ticks at once, of one channel, in which nothing becomes known.
use Rattle.std.proofs.Common.{◌≡◌, ℕ, zero, suc, ◌%◌, ◌<◌, List, [], ◌∷◌, ◌++◌, reverse, refl, ap, sym, subst, ◌∙◌, arith, inl, inr, div-one}
use Rattle.std.specs.Prelude.{Bool, true, false, not, nat_le, ◌&&◌, ◌==◌, Option, Some, None}
use Rattle.std.proofs.lemmas.Bool.{cases_Bool}
use Rattle.bus_base.specs.Samples.{is_quiet}
use Rattle.bus_base.specs.declared.samples.Sample.{Sample}
use Rattle.bus_base.specs.declared.samples.Sample.TheVariants.{Plus, Minus, Quiet}
use Rattle.bus_line.specs.Past.{Burst, quiet, runs, ended_now, quiet_ticks}
use Rattle.bus_line.specs.Cutting.{running_slots}
use Rattle.bus_line.specs.Spelling.{is_one, first_half}
use Rattle.bus_line.specs.declared.cutter.TheConstants.{LAG}
use Rattle.bus_line.specs.declared.cutter.Cut.TheVariants as cuts
use Rattle.bus_line.proofs.PastLaws.{runs-pulse, rests-more}
use Rattle.bus_planes.specs.Cutting.{BitCutterStands}
use Rattle.bus_planes.specs.declared.cutter.BitCutter.{BitCutter}
use Rattle.bus_planes.specs.Still.{sample_in, samples_in, AllBits, IsStill, TellNothing}
use Rattle.bus_planes.proofs.StillLaws.{none-shown, one-more}
use Rattle.bus_monitor.specs.Told.{begins}
use Rattle.bus_monitor.proofs.PastLaws.{an-end}
use Rattle.bus_monitor.proofs.ListerLaws.{tells-cut, collects-cut}
use Rattle.bus_monitor.proofs.ToldLaws.{runs-none}
use Rattle.bus_rules.specs.Breaches.{is_heard}
use Rattle.bus_rules.specs.Stands.{is_on, NoneKnown}

-- ---- a channel that is on or off all the while

-- the channel is not heard anew in these ticks, the newest first
abbrev pub StaysOn : List Sample → List Sample → Type 0
StaysOn [] past = Unit {0}
StaysOn (x ∷ xs) past = (is_heard x ≡ true → is_on (xs ++ past) ≡ true) × StaysOn xs past

pub record IsSteady (xs past : List Sample) (on : Bool) : Type 0 where
  pub stays : StaysOn xs past
  pub now : is_on (xs ++ past) ≡ on

shows-quiet : (heard plus i : ℕ) → is_one heard i ≡ false → sample_in heard plus i ≡ Quiet
shows-quiet heard plus i e = rw e refl

half-heard : (b : Bool) → is_heard (first_half b) ≡ true
half-heard true = refl
half-heard false = refl

shows-heard : (heard plus i : ℕ) → is_one heard i ≡ true → is_heard (sample_in heard plus i) ≡ true
shows-heard heard plus i e = rw e (half-heard (is_one plus i))

steady-none : (heard plus : ℕ) (past : List Sample) (on : Bool) → is_on past ≡ on → IsSteady (reverse (samples_in heard plus 0)) past on
steady-none heard plus past on is = subst (λ xs. IsSteady xs past on) (sym (none-shown heard plus)) record { stays = tt; now = is }

quiet-before : (heard plus n : ℕ) (past : List Sample) → AllBits heard n false → StaysOn (reverse (samples_in heard plus n)) past
quiet-before heard plus zero past all = subst (λ xs. StaysOn xs past) (sym (none-shown heard plus)) tt
quiet-before heard plus (suc n) past all =
    let x : sample_in heard plus n ≡ Quiet = shows-quiet heard plus n (all n (omega arith)) in
    subst (λ xs. StaysOn xs past) (sym (one-more heard plus n ∙ ap (λ s. s ∷ reverse (samples_in heard plus n)) x))
    (λ heard_now. absurd (cc), quiet-before heard plus n past (λ i h. all i (omega (arith, h))))

steady-quiet : (heard plus n : ℕ) (past : List Sample) → AllBits heard (suc n) false → IsSteady (reverse (samples_in heard plus (suc n))) past false
steady-quiet heard plus n past all =
    let x : sample_in heard plus n ≡ Quiet = shows-quiet heard plus n (all n (omega arith)) in
    subst (λ xs. IsSteady xs past false) (sym (one-more heard plus n ∙ ap (λ s. s ∷ reverse (samples_in heard plus n)) x))
    record { stays = (λ heard_now. absurd (cc), (quiet-before heard plus n past (λ i h. all i (omega (arith, h))))); now = refl }

steady-heard : (heard plus n : ℕ) (past : List Sample) → is_on past ≡ true → AllBits heard n true → IsSteady (reverse (samples_in heard plus n)) past true
steady-heard heard plus zero past on all = steady-none heard plus past true on
steady-heard heard plus (suc n) past on all =
    let before : IsSteady (reverse (samples_in heard plus n)) past true = steady-heard heard plus n past on (λ i h. all i (omega (arith, h))) in
    subst (λ xs. IsSteady xs past true) (sym (one-more heard plus n))
    record { stays = (λ _. before.now, before.stays); now = shows-heard heard plus n (all n (omega arith)) }

-- a burst whose newest tick wasn't quiet
on-heard : (past : List Sample) → runs LAG past ≡ true → quiet past ≡ 0 → is_on past ≡ true
on-heard [] ran none = absurd (cc)
on-heard (Plus ∷ past) ran none = refl
on-heard (Minus ∷ past) ran none = refl
on-heard (Quiet ∷ past) ran none = absurd (omega (arith, none))

low-is : (heard n : ℕ) (b : Bool) → 0 < n → AllBits heard n b → b ≡ (heard % 2 == 1)
low-is heard n b some all = sym (ap (λ m. m % 2 == 1) (sym (div-one heard)) ∙ all 0 some)

some-quiet : (heard plus n : ℕ) (past : List Sample) → 0 < n → AllBits heard n false → IsSteady (reverse (samples_in heard plus n)) past false
some-quiet heard plus zero past some all = absurd (omega (arith, some))
some-quiet heard plus (suc n) past some all = steady-quiet heard plus n past all

cutter-on : (c : BitCutter) (past : List Sample) → BitCutterStands LAG c past → c.quiet ≡ 0 → is_on past ≡ true
unfolding BitCutterStands
cutter-on c past s none =
    let runs_is : runs LAG past ≡ true = sym (s.runs) ∙ (ap (λ q. nat_le q LAG) none) in
    on-heard past runs_is (sym (s.quiet (omega (arith, none))) ∙ none)

-- in ticks that are still the channel is on as in the first
pub still-steady : (c : BitCutter) (heard plus n : ℕ) (past : List Sample) → 0 < n → BitCutterStands LAG c past → IsStill LAG c heard n →
    IsSteady (reverse (samples_in heard plus n)) past (heard % 2 == 1)
still-steady c heard plus n past some s still = elim still [
  | inl a ↦ subst (IsSteady _ past) (low-is heard n false some a.1) (some-quiet heard plus n past some a.1)
  | inr b ↦ elim b [
    | inl q ↦ subst (IsSteady _ past) (low-is heard n false some q.1) (some-quiet heard plus n past some q.1)
    | inr p ↦ subst (IsSteady _ past) (low-is heard n true some p.2) (steady-heard heard plus n past (cutter-on c past s p.0) p.2)
  ]
]

-- ---- ticks that tell nothing

same-on : (xs past : List Sample) → TellNothing LAG xs past → runs LAG (xs ++ past) ≡ runs LAG past
same-on [] past told = refl
same-on (x ∷ xs) past told = told.1

-- a burst that didn't run begins with no tick after which none runs
begins-none : (x : Sample) (past : List Sample) → runs LAG (x ∷ past) ≡ runs LAG past → begins LAG (x ∷ past) ≡ false
begins-none x past same = elim (cases_Bool (runs LAG past)) [
  | inl ran ↦ runs-none LAG x past ran
  | inr off ↦ elim (cases_Bool (is_quiet x)) [
    | inl q ↦ ap (λ b. not b && not (runs LAG past)) q
    | inr pulse ↦ (let on : runs LAG (x ∷ past) ≡ true = runs-pulse LAG x past pulse in
        let e : true ≡ false = sym on ∙ same ∙ off in absurd (cc))
  ]
]

pub told-none : (xs past : List Sample) → TellNothing LAG xs past → StaysOn xs past → NoneKnown xs past
told-none [] past told on = tt
told-none (x ∷ xs) past told on = (
  (tells-cut LAG x (xs ++ past) cuts.Nothing (sym told.0)).0,
  begins-none x (xs ++ past) (told.1 ∙ sym (same-on xs past told.2)),
  on.0,
  told-none xs past told.2 on.1,
)

pub told-slots : (xs past : List Sample) → TellNothing LAG xs past → running_slots LAG (xs ++ past) ≡ running_slots LAG past
told-slots [] past told = refl
told-slots (x ∷ xs) past told = collects-cut LAG x (xs ++ past) cuts.Nothing (omega arith) (sym told.0) ∙ told-slots xs past told.2

-- ---- quiet ticks where no burst runs

pub quiet-runs : (n : ℕ) (past : List Sample) → runs LAG past ≡ false → runs LAG (quiet_ticks n ++ past) ≡ false
quiet-runs zero past off = off
quiet-runs (suc n) past off = rests-more LAG (quiet_ticks n ++ past) (quiet-runs n past off)

by-end : (x : Sample) (past : List Sample) (found : Option Burst) → ended_now LAG (x ∷ past) ≡ found → runs LAG past ≡ false → ended_now LAG (x ∷ past) ≡ None
by-end x past None is off = is
by-end x past (Some burst) is off = let e : true ≡ false = sym (an-end LAG x past burst is).ran ∙ off in absurd (cc)

pub quiet-none : (n : ℕ) (past : List Sample) → runs LAG past ≡ false → NoneKnown (quiet_ticks n) past
quiet-none zero past off = tt
quiet-none (suc n) past off = (
  by-end Quiet (quiet_ticks n ++ past) _ refl (quiet-runs n past off),
  refl,
  λ heard. absurd (cc),
  quiet-none n past off,
)

pub no-slots : (past : List Sample) → runs LAG past ≡ false → running_slots LAG past ≡ []
unfolding running_slots
no-slots past off = rw off refl

pub off-quiet : (past : List Sample) → runs LAG past ≡ false → is_on past ≡ false
off-quiet [] off = refl
off-quiet (x ∷ past) off = elim (cases_Bool (is_quiet x)) [
  | inl q ↦ ap not q
  | inr pulse ↦ (let e : true ≡ false = sym (runs-pulse LAG x past pulse) ∙ off in absurd (cc))
]
