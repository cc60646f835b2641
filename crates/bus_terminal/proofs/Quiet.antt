-- A terminal that heard quiet ticks alone.
use Rattle.std.proofs.Common.{◌≡◌, ℕ, zero, suc, List, ◌∷◌, None, refl, ap, ◌∙◌, subst}
use Rattle.bus_base.specs.declared.samples.Channel.{Channel}
use Rattle.bus_base.specs.declared.samples.Channel.TheVariants.{A, B}
use Rattle.bus_base.specs.declared.samples.Sample.TheVariants.{Quiet}
use Rattle.bus_line.specs.Past.{quiet_ticks, ended_now, slot_now}
use Rattle.bus_line.specs.Cutting.{Tells}
use Rattle.bus_line.specs.declared.cutter.Cut.{Cut}
use Rattle.bus_line.proofs.CutNow.{now-idle, cut-tells}
use Rattle.bus_line.proofs.CutLaws.{rests-alone}
use Rattle.bus_formats.specs.Plans.{TerminalData}
use Rattle.bus_model.specs.Memory.{Memory, TimedLoad}
use Rattle.bus_model.specs.Hearing.{Moment, heard_on}
use Rattle.bus_model.specs.Standing.{at_rest}
use Rattle.bus_model.specs.Terminal.{standing, after_tick}
use Rattle.bus_terminal.specs.Quiet.{quiet_moments, quiet_moment}

pub standing-tick : (k : ℕ) (t : TerminalData) (loads : List TimedLoad) (memory : Memory) (now : Moment) (past : List Moment) →
    standing k t loads memory (now ∷ past) ≡ after_tick k t loads now past (standing k t loads memory past)
unfolding standing
standing-tick k t loads memory now past = refl

pub quiet-heard : (c : Channel) (n : ℕ) → heard_on c (quiet_moments n) ≡ quiet_ticks n
quiet-heard c zero = refl
quiet-heard A (suc n) = ap (λ x. Quiet ∷ x) (quiet-heard A n)
quiet-heard B (suc n) = ap (λ x. Quiet ∷ x) (quiet-heard B n)

nothing : (k n : ℕ) → (ended_now k (Quiet ∷ quiet_ticks n) ≡ None) × (slot_now k (Quiet ∷ quiet_ticks n) ≡ None)
nothing k n =
    subst (λ (cut : Cut). Tells k (Quiet ∷ quiet_ticks n) cut) (now-idle k (quiet_ticks n) (rests-alone k n)) (cut-tells k (Quiet ∷ quiet_ticks n))

quiet-step : (k : ℕ) (t : TerminalData) (loads : List TimedLoad) (memory : Memory) (n : ℕ) →
    after_tick k t loads quiet_moment (quiet_moments n) (at_rest memory) ≡ at_rest memory
quiet-step k t loads memory n =
    rw (quiet-heard A n, quiet-heard B n, (nothing k n).0) refl

-- nothing stands after them
pub quiet-stands : (k : ℕ) (t : TerminalData) (loads : List TimedLoad) (memory : Memory) (n : ℕ) → standing k t loads memory (quiet_moments n) ≡ at_rest memory
unfolding standing
quiet-stands k t loads memory zero = refl
quiet-stands k t loads memory (suc n) =
    ap (after_tick k t loads quiet_moment (quiet_moments n)) (quiet-stands k t loads memory n) ∙ quiet-step k t loads memory n
