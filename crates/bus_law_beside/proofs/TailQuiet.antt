-- For how long both channels are quiet while an abandoned answer is sent on after the command beside it.
use Rattle.std.proofs.Common.{◌≡◌, inl, inr, ℕ, suc, ◌+◌, ◌-◌, ◌≤◌, Bool, true, false, List, [], ◌∷◌, ◌++◌, length, sym, ◌∙◌, subst, arith, append_assoc}
use Rattle.std.proofs.lemmas.Bool.{cases_lt}
use Rattle.std.specs.Prelude.{if◌then◌else◌}
use Rattle.bus_base.specs.declared.samples.Channel.{Channel}
use Rattle.bus_base.specs.declared.samples.Pair.{Pair}
use Rattle.bus_line.specs.Past.{InLeg}
use Rattle.bus_line.specs.Channels.{on_channel, both_quiet, quiet_both}
use Rattle.bus_formats.specs.Plans.{StationData}
use Rattle.bus_law_control.proofs.Early.{leg-breaks}
use Rattle.bus_model.specs.Message.{Present}
use Rattle.bus_model.specs.Starts.{Entry}
use Rattle.bus_model.specs.Strikes.{ShownAnswer}
use Rattle.bus_law_phases.specs.Scenarios.{Scenario, shown_at}
use Rattle.bus_law_beside.specs.Beside.{BeginsBeside}
use Rattle.bus_law_beside.proofs.BesideBegins as start
use Rattle.bus_law_beside.proofs.BesideDrives as both
use Rattle.bus_law_beside.proofs.BesideEnd as end
use Rattle.bus_law_beside.proofs.RowLaws.{leg-to}
use Rattle.bus_law_beside.proofs.StopTicks.{BreaksOff}
use Rattle.bus_law_beside.proofs.Tail as tail

few-by : (b : Bool) (q n : ℕ) → q ≤ n → (if b then suc q else 0) ≤ suc n
few-by true q n rest = omega (arith, rest)
few-by false q n rest = omega arith

-- a tick more makes it one more at the most
one-more : (y : Pair) (past : List Pair) (n : ℕ) → quiet_both past ≤ n → quiet_both (y ∷ past) ≤ suc n
one-more y past n low = few-by (both_quiet y) (quiet_both past) n low

module _ (w : Scenario) (t place : ℕ) (holder : StationData) (stations : List Present) (entry : Entry) (old : ShownAnswer)
    (p : BeginsBeside w t place holder stations entry old) (o : Pair) (os : List Pair) (is_old : p.beside.ticks ≡ o ∷ os) (valid : Bool) (sends m : ℕ)
    (breaks : BreaksOff old (t - old.sent.start) valid sends m)
    (orders : both.OrdersIt w t place holder stations entry old p o os is_old valid sends m breaks) where
  abbrev before : List Pair
  before = shown_at w old.sent.start

  abbrev c : Channel
  c = old.sent.channel

  abbrev ours : List Pair
  ours = tail.ours w t place holder stations entry old p o os is_old valid sends m breaks orders

  abbrev later : List Pair
  later = tail.later w t place holder stations entry old p o os is_old valid sends m breaks orders

  abbrev IsTail : List Pair → Type 0
  IsTail ys = tail.IsTail w t place holder stations entry old p o os is_old valid sends m breaks orders ys

  abbrev known : ℕ
  known = start.old_known w t place holder stations entry old p o os is_old valid sends m breaks

  abbrev so_many : List Pair → ℕ
  so_many ys = length ((ys ++ ours) ++ (o ∷ os))

  same-past : (ys : List Pair) → ((ys ++ ours) ++ (o ∷ os)) ++ before ≡ ys ++ later
  same-past ys = append_assoc (ys ++ ours) (o ∷ os) before ∙ append_assoc ys ours ((o ∷ os) ++ before)

  -- while the answer's end isn't known
  in-leg : (ys : List Pair) → IsTail ys → so_many ys ≤ known → InLeg w.lag (on_channel c ((ys ++ ours) ++ (o ∷ os)))
  in-leg ys so low =
      subst (λ xs. InLeg w.lag xs) (sym so.answered)
      (leg-to w.lag (start.old_row w t place holder stations entry old p o os is_old valid sends m breaks) known _ (on_channel c before)
      (end.old-ends w t place holder stations entry old p o os is_old valid sends m breaks orders) (so_many ys) low)

  pub few-running : (ys : List Pair) → IsTail ys → so_many ys ≤ known → quiet_both (ys ++ later) ≤ w.lag
  few-running [] so low =
      subst (λ ps. quiet_both ps ≤ w.lag) (same-past [])
      (leg-breaks w.lag c before (end.ticks w t place holder stations entry old p o os is_old valid sends m breaks orders ++ (o ∷ os))
      (end.x w t place holder stations entry old p o os is_old valid sends m breaks orders) (in-leg [] so low))
  few-running (y ∷ ys) so low =
      subst (λ ps. quiet_both ps ≤ w.lag) (same-past (y ∷ ys))
      (leg-breaks w.lag c before ((ys ++ ours) ++ (o ∷ os)) y (in-leg (y ∷ ys) so low))

  -- and after it
  pub few-quiet : so_many [] ≤ known → (ys : List Pair) → IsTail ys → quiet_both (ys ++ later) ≤ w.lag + (so_many ys - known)
  few-quiet runs_on [] so = let few = few-running [] so runs_on in omega (arith, few)
  few-quiet runs_on (y ∷ ys) so = elim (cases_lt known (so_many (y ∷ ys))) [
    | inr low ↦ (let few = few-running (y ∷ ys) so low in omega (arith, few))
    | inl late ↦ (
        let rest = few-quiet runs_on ys (tail.less w t place holder stations entry old p o os is_old valid sends m breaks orders y ys so) in
        let more : quiet_both (y ∷ (ys ++ later)) ≤ suc (w.lag + (so_many ys - known)) = one-more y (ys ++ later) (w.lag + (so_many ys - known)) rest in
        omega (arith, more, late))
  ]
