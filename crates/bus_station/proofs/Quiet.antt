-- A terminal that heard nothing: no order comes with its first tick, and no answer is owed.
use Rattle.std.proofs.Common.{◌≡◌, ℕ, List, [], ◌∷◌, length, Option, None, refl, ap, ◌∙◌, subst}
use Rattle.bus_base.specs.declared.samples.Channel.TheVariants.{A, B}
use Rattle.bus_base.specs.declared.samples.Sample.{Sample}
use Rattle.bus_base.specs.declared.samples.Sample.TheVariants.{Plus, Minus, Quiet}
use Rattle.bus_base.specs.declared.samples.Pair.{Pair}
use Rattle.bus_line.specs.Past.{quiet_ticks, ended_now}
use Rattle.bus_line.specs.Cutting.{Tells}
use Rattle.bus_line.specs.declared.cutter.Cut.{Cut}
use Rattle.bus_line.proofs.CutNow.{now-idle, cut-tells, ended-none}
use Rattle.bus_line.proofs.CutLaws.{rests-alone}
use Rattle.bus_formats.specs.Plans.{TerminalData}
use Rattle.bus_model.specs.Memory.{Memory, TimedLoad}
use Rattle.bus_model.specs.Orders.{free}
use Rattle.bus_model.specs.Hearing.{Moment}
use Rattle.bus_model.specs.Standing.{Standing, at_rest}
use Rattle.bus_model.specs.Terminal.{standing, after_tick, order_now, marked_by, ordered, took_now, taken_by}
use Rattle.bus_model.specs.Control.{unheard, unheard_ticks}
use Rattle.bus_terminal.specs.Quiet.{quiet_moments}
use Rattle.bus_terminal.proofs.Quiet.{quiet-heard, quiet-stands, standing-tick}

-- the ticks that a controller's terminal doesn't hear are quiet
pub unheard-quiet : (past : List Pair) → unheard_ticks past ≡ quiet_moments (length past)
unheard-quiet [] = refl
unheard-quiet (x ∷ past) = ap (λ (ticks : List Moment). unheard ∷ ticks) (unheard-quiet past)

-- no burst ends in the tick after quiet ones
none-ends : (k n : ℕ) (x : Sample) → ended_now k (x ∷ quiet_ticks n) ≡ None
none-ends k n Plus = ended-none k Plus (quiet_ticks n) refl
none-ends k n Minus = ended-none k Minus (quiet_ticks n) refl
none-ends k n Quiet = (subst (λ (cut : Cut). Tells k (Quiet ∷ quiet_ticks n) cut) (now-idle k (quiet_ticks n) (rests-alone k n))
    (cut-tells k (Quiet ∷ quiet_ticks n))).0

-- so a terminal that has just woken handles nothing
woken-order : (k : ℕ) (t : TerminalData) (memory : Memory) (now : Moment) (n : ℕ) → order_now k t (now ∷ quiet_moments n) (at_rest memory) ≡ None
woken-order k t memory now n =
    rw (quiet-heard A n, quiet-heard B n, none-ends k n now.shown.a, none-ends k n now.shown.b) refl

-- and owes nothing
pub woken-free : (k : ℕ) (t : TerminalData) (loads : List TimedLoad) (memory : Memory) (now : Moment) (n : ℕ) →
    (standing k t loads memory (now ∷ quiet_moments n)).duty ≡ free
woken-free k t loads memory now n =
    ap (λ (s : Standing). s.duty) (standing-tick k t loads memory now (quiet_moments n))
    ∙ ap (λ (s : Standing). (after_tick k t loads now (quiet_moments n) s).duty) (quiet-stands k t loads memory n)
    ∙ ap (λ (o : Option _). (marked_by k t now (quiet_moments n) (at_rest memory) (ordered k t loads (length (quiet_moments n)) now.has_items
    (at_rest memory) o)).duty) (woken-order k t memory now n)

-- nor does one that heard quiet ticks
pub resting-free : (k : ℕ) (t : TerminalData) (loads : List TimedLoad) (memory : Memory) (n : ℕ) → (standing k t loads memory (quiet_moments n)).duty ≡ free
resting-free k t loads memory n = ap (λ (s : Standing). s.duty) (quiet-stands k t loads memory n)

-- nor takes a block
pub woken-took : (k : ℕ) (t : TerminalData) (loads : List TimedLoad) (memory : Memory) (now : Moment) (ticks : List Moment) (n : ℕ) → ticks ≡ quiet_moments n →
    took_now k t loads (record { memory = memory; ticks = now ∷ ticks }) ≡ None
woken-took k t loads memory now ticks n rests =
    ap (λ (quiet : List Moment). took_now k t loads (record { memory = memory; ticks = now ∷ quiet })) rests
    ∙ ap (λ (s : Standing). taken_by k t loads (length (quiet_moments n)) now.has_items s (order_now k t (now ∷ quiet_moments n) s)) (quiet-stands k t loads memory n)
    ∙ ap (taken_by k t loads (length (quiet_moments n)) now.has_items (at_rest memory)) (woken-order k t memory now n)
