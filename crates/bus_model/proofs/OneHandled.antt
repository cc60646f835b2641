-- A promise doesn't run out in a tick in which a channel gives an order.
use Rattle.std.proofs.Common.{◌≡◌, inl, inr, ℕ, suc, ◌+◌, ◌<◌, ◌≤◌, List, [], ◌∷◌, length, refl, sym, ap, ◌∙◌, arith}
use Rattle.std.proofs.lemmas.Bool.{cases_Bool, true≢false, and_parts, not-true}
use Rattle.std.proofs.lemmas.Option.{none-some}
use Rattle.std.specs.Prelude.{true, false, not, ◌&&◌, ◌==◌, Option, Some, None}
use Rattle.bus_base.specs.Samples.{same_channel}
use Rattle.bus_base.specs.declared.samples.Channel.{Channel}
use Rattle.bus_base.specs.declared.samples.Channel.TheVariants.{A, B}
use Rattle.bus_base.specs.declared.samples.Sample.{Sample}
use Rattle.bus_base.specs.declared.samples.Sample.TheVariants.{Plus, Minus, Quiet}
use Rattle.bus_formats.specs.Plans.{TerminalData}
use Rattle.bus_line.specs.Past.{quiet, stopped, heard_within}
use Rattle.bus_line.proofs.PastLaws.{quiet-le}
use Rattle.bus_formats.specs.Times.{relay_wait}
use Rattle.bus_model.specs.Memory.{Memory, TimedLoad}
use Rattle.bus_model.specs.Hearing.{Moment, heard_on}
use Rattle.bus_model.specs.Standing.{Standing, Handled, obeys, settles, runs_out, promised_on}
use Rattle.bus_model.specs.Terminal.{standing, order_on, running_out}
use Rattle.bus_model.proofs.OneOrder.{Seen, seen, ends-now}
use Rattle.bus_model.proofs.Marked.{heard-long}
use Rattle.bus_model.proofs.Promises.{Stands, stands-always}
use Rattle.bus_model.proofs.TwoOrders.{standing-promise, on-a, on-b}

-- the last tick that isn't quiet was heard
last-heard : (past : List Sample) (a b : ℕ) → a < stopped past → stopped past ≤ b → heard_within past a b ≡ true
unfolding heard_within
last-heard [] a b h within = absurd (omega (arith, h))
last-heard (Plus ∷ past) a b h within = grind (arith, h, within)
last-heard (Minus ∷ past) a b h within = grind (arith, h, within)
last-heard (Quiet ∷ past) a b h within =
    let some : quiet past ≤ length past = quiet-le past in
    let rest : heard_within past a b ≡ true = last-heard past a b (omega (arith, h, some)) (omega (arith, within, some)) in
    grind (arith, h, some, rest)

-- what is known where a promise runs out
record RunsOut (k : ℕ) (s : Standing) (ticks : List Moment) : Type 0 where
  promised : promised_on k s s.channel ≡ true
  now : length ticks ≡ suc (s.end + relay_wait)
  silent : heard_within (heard_on s.channel ticks) s.end (length ticks) ≡ false

out-so : (k : ℕ) (t : TerminalData) (ticks : List Moment) (s : Standing) (h : Handled) → running_out k t ticks s ≡ Some h → RunsOut k s ticks
out-so k t ticks s h given =
    elim (cases_Bool (promised_on k s s.channel && (length ticks == suc (s.end + relay_wait))
    && not (heard_within (heard_on s.channel ticks) s.end (length ticks)))) [
      | inl holds ↦
          let outer = and_parts (promised_on k s s.channel && (length ticks == suc (s.end + relay_wait))) _ holds in
          let inner = and_parts (promised_on k s s.channel) _ outer.0 in
          record { promised = inner.0; now = grind (arith, inner.1); silent = not-true _ outer.1 }
      | inr fails ↦
          let none : running_out k t ticks s ≡ None = rw fails refl in
          absurd (none-some h (sym none ∙ given))
    ]

-- the channel of the promise gives no order in that tick
own-silent : (k : ℕ) (t : TerminalData) (s : Standing) (c : Channel) (now : Moment) (past : List Moment) (h : Handled) → k < 30 → s.channel ≡ c →
    RunsOut k s (now ∷ past) → order_on k t (now ∷ past) s c ≡ Some h → ⊥
own-silent k t s c now past h small on out given =
    let ends = ends-now k t s c now past h given in
    let within : quiet (heard_on c (now ∷ past)) ≤ length (heard_on c (now ∷ past)) = quiet-le (heard_on c (now ∷ past)) in
    let long : length (heard_on c (now ∷ past)) ≡ length (now ∷ past) = heard-long c (now ∷ past) in
    let silent : heard_within (heard_on c (now ∷ past)) s.end (length (now ∷ past)) ≡ false =
    sym (ap (λ c. heard_within (heard_on c (now ∷ past)) s.end (length (now ∷ past))) on) ∙ out.silent in
    let heard : heard_within (heard_on c (now ∷ past)) s.end (length (now ∷ past)) ≡ true =
    last-heard (heard_on c (now ∷ past)) s.end (length (now ∷ past)) (omega (arith, ends, within, long, out.now, small)) (omega (arith, ends, within, long)) in
    true≢false (sym heard ∙ silent)

-- an order on A, or on B, where the promise is on either
order-a : (k n : ℕ) (s : Standing) (c : Channel) (h : Handled) → s.channel ≡ c → Stands k n s → promised_on k s s.channel ≡ true → Seen k n s A h →
    (c ≡ A → ⊥) → ⊥
order-a k n s A h on stands promise order own = own refl
order-a k n s B (obeys c e last rest) on stands promise order own =
    on-b k n s B on order.2.0 stands (sym (ap (promised_on k s) on) ∙ promise) order.2.1 order.3
order-a k n s B (settles e slots rest) on stands promise order own =
    true≢false (sym (standing-promise k n s A stands order).0 ∙ ap (λ c. same_channel c A) on)
order-a k n s B runs_out on stands promise order own = absurd order

order-b : (k n : ℕ) (s : Standing) (c : Channel) (h : Handled) → s.channel ≡ c → Stands k n s → promised_on k s s.channel ≡ true → Seen k n s B h →
    (c ≡ B → ⊥) → ⊥
order-b k n s B h on stands promise order own = own refl
order-b k n s A (obeys c e last rest) on stands promise order own =
    on-a k n s A on order.2.0 stands (sym (ap (promised_on k s) on) ∙ promise) order.2.1 order.3
order-b k n s A (settles e slots rest) on stands promise order own =
    true≢false (sym (standing-promise k n s B stands order).0 ∙ ap (λ c. same_channel c B) on)
order-b k n s A runs_out on stands promise order own = absurd order

no-order : {X : Type 0} (o : Option X) → ((a : X) → o ≡ Some a → ⊥) → o ≡ None
no-order None h = refl
no-order (Some a) h = absurd (h a refl)

-- where a promise runs out neither channel gives an order
pub out-alone : (k : ℕ) (t : TerminalData) (loads : List TimedLoad) (memory : Memory) (now : Moment) (past : List Moment) (h : Handled) → k < 30 →
    running_out k t (now ∷ past) (standing k t loads memory past) ≡ Some h →
    (order_on k t (now ∷ past) (standing k t loads memory past) A ≡ None) × (order_on k t (now ∷ past) (standing k t loads memory past) B ≡ None)
out-alone k t loads memory now past h small given =
    let s = standing k t loads memory past in
    let out = out-so k t (now ∷ past) s h given in
    let stands = stands-always k t loads memory past (omega (arith, small)) in (
      no-order (order_on k t (now ∷ past) s A) (λ a order. order-a k (length past) s s.channel a refl stands out.promised
          (seen k t loads memory now past A a (omega (arith, small)) order) (λ on. own-silent k t s A now past a small on out order)),
      no-order (order_on k t (now ∷ past) s B) (λ a order. order-b k (length past) s s.channel a refl stands out.promised
          (seen k t loads memory now past B a (omega (arith, small)) order) (λ on. own-silent k t s B now past a small on out order)),
    )
