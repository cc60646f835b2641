-- A run goes on while a tick answers, and has ended where one answers nothing.
use Rattle.std.proofs.Common.{◌≡◌, ℕ, ◌<◌, ◌≤◌, true, false, arith, inl, inr, Option, Some, None}
use Rattle.std.specs.Prelude.{is_some}
use Rattle.std.proofs.lemmas.Bool.{cases_lt}
use Rattle.bus_base.specs.declared.samples.Pair.{Pair}
use Rattle.bus_formats.specs.Plans.{PlanData}
use Rattle.bus_law_run.specs.WorldIsRun.{plan_end}
use Rattle.bus_run.specs.Stands.{BusStands}
use Rattle.bus_run.specs.declared.bus.Bus.{Bus}

-- a run never passes its end
pub within-end : (plan : PlanData) (t : ℕ) (bus : Bus) → BusStands plan t bus → t ≤ plan_end plan
unfolding BusStands
within-end plan t bus st = st.within

-- nothing is no answer
no-answer : (o : Option Pair) → o ≡ None → is_some o ≡ true → ⊥
no-answer None is some = (let no : false ≡ true = some in cc)
no-answer (Some shown) is some = (let no : Some shown ≡ None = is in cc)

-- a pair is an answer
an-answer : (o : Option Pair) (shown : Pair) → o ≡ Some shown → is_some o ≡ false → ⊥
an-answer None shown is none = (let no : None ≡ Some shown = is in cc)
an-answer (Some x) shown is none = (let no : true ≡ false = none in cc)

-- it hadn't ended where there is an answer
pub still-on : (t end : ℕ) (o : Option Pair) → t ≤ end → (t ≡ end → o ≡ None) → is_some o ≡ true → t < end
still-on t end o within none some = elim (cases_lt t end) [
  | inl early ↦ early
  | inr late ↦ absurd (no-answer o (none (omega (arith, within, late))) some)
]

-- it had ended where there is none
pub has-ended : (t end : ℕ) (o : Option Pair) (shown : Pair) → t ≤ end → (t < end → o ≡ Some shown) → is_some o ≡ false → t ≡ end
has-ended t end o shown within answers none = elim (cases_lt t end) [
  | inl early ↦ absurd (an-answer o shown (answers early) none)
  | inr late ↦ omega (arith, within, late)
]
