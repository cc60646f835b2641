-- One tick of the world of a plan, and the log that is found in it.
use Rattle.std.proofs.Common.{◌≡◌, ℕ, zero, suc, List, [], ◌∷◌, length, map, refl, ap, sym, ◌∙◌, arith}
use Rattle.std.specs.Prelude.{flat_map}
use Rattle.bus_line.specs.Channels.{valid, bursts}
use Rattle.bus_line.specs.declared.cutter.TheConstants.{LAG}
use Rattle.bus_base.specs.declared.samples.Tick.{Tick}
use Rattle.bus_formats.specs.Logs.{LogData}
use Rattle.bus_formats.specs.Plans.{PlanData}
use Rattle.bus_formats.specs.declared.log.Attempt.{Attempt}
use Rattle.bus_formats.specs.declared.log.BlockEnd.{BlockEnd}
use Rattle.bus_formats.specs.declared.log.Heard.{Heard}
use Rattle.bus_formats.specs.declared.log.HeardBurst.{HeardBurst}
use Rattle.bus_formats.specs.declared.log.TerminalEnd.{TerminalEnd}
use Rattle.bus_model.specs.Log.{terminals, terminal_end, blocks_of}
use Rattle.bus_model.specs.World.{world, trace, ticks_on, drives_after, clashes}
use Rattle.bus_model.specs.WorldLog.{heard_word, heard_burst, attempts, presents, world_log}
use Rattle.bus_run.specs.Stands.{shown_in}

-- ---- the world

-- one tick more is shown
pub world-next : (plan : PlanData) (t : ℕ) → world LAG plan [] [] [] (suc t) ≡ shown_in plan t ∷ world LAG plan [] [] [] t
unfolding ticks_on
world-next plan t = refl

-- one tick more is driven
pub driven-next : (plan : PlanData) (t : ℕ) →
    (trace LAG plan [] [] [] (suc t)).driven ≡ drives_after LAG plan [] [] [] (world LAG plan [] [] [] t) ∷ (trace LAG plan [] [] [] t).driven
unfolding ticks_on
driven-next plan t = refl

-- nothing was shown before the first tick
pub world-none : (plan : PlanData) → world LAG plan [] [] [] 0 ≡ []
unfolding ticks_on
world-none plan = refl

-- nothing was driven before it
pub driven-none : (plan : PlanData) → (trace LAG plan [] [] [] 0).driven ≡ []
unfolding ticks_on
driven-none plan = refl

-- so many ticks were shown
pub world-length : (plan : PlanData) (t : ℕ) → length (world LAG plan [] [] [] t) ≡ t
world-length plan zero = ap length (world-none plan)
world-length plan (suc t) = let before = world-length plan t in let next = ap length (world-next plan t) in omega (arith, before, next)

-- so many were driven
pub driven-length : (plan : PlanData) (t : ℕ) → length (trace LAG plan [] [] [] t).driven ≡ t
driven-length plan zero = ap length (driven-none plan)
driven-length plan (suc t) = let before = driven-length plan t in let next = ap length (driven-next plan t) in omega (arith, before, next)

-- ---- the log

-- a log by its fields
log-of : (log : LogData) (a : List Attempt) (w : List Heard) (b : List HeardBurst) (ts : List TerminalEnd) (bs : List BlockEnd) (e : Tick) (n : ℕ) →
    log.attempts ≡ a → log.words ≡ w → log.bursts ≡ b → log.terminals ≡ ts → log.blocks ≡ bs → log.end ≡ e → log.clashes ≡ n →
    log ≡ record { attempts = a; words = w; bursts = b; terminals = ts; blocks = bs; end = e; clashes = n }
log-of log a w b ts bs e n ea ew eb et ebs ee en = rw (← ea, ← ew, ← eb, ← et, ← ebs, ← ee, ← en) refl

-- the log is the one that is found in the world
pub log-is : (plan : PlanData) (t : ℕ) (log : LogData) → log.attempts ≡ attempts LAG plan [] [] [] (world LAG plan [] [] [] t) →
    log.words ≡ map heard_word (valid LAG (world LAG plan [] [] [] t)) → log.bursts ≡ map heard_burst (bursts LAG (world LAG plan [] [] [] t)) →
    log.terminals ≡ map terminal_end (terminals (presents LAG plan [] [] [] (world LAG plan [] [] [] t))) →
    log.blocks ≡ flat_map blocks_of (terminals (presents LAG plan [] [] [] (world LAG plan [] [] [] t))) →
    log.end ≡ record { 0 = t } → log.clashes ≡ clashes plan.faults (trace LAG plan [] [] [] t).driven → log ≡ world_log LAG plan t
unfolding world_log
log-is plan t log a w b ts bs e cl =
    let end : log.end ≡ record { 0 = length (world LAG plan [] [] [] t) } = e ∙ ap (λ n. record { 0 = n }) (sym (world-length plan t)) in
    log-of log _ _ _ _ _ _ _ a w b ts bs end cl
