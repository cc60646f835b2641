-- The answer that a controller hears, as the next burst by tick numbers (no-response time-out, MIL-STD-1553B 4.3.3.9).
use Rattle.std.specs.Prelude.{◌≡◌, ℕ, suc, ◌+◌, ◌<◌, ◌≤◌, Bool, true, false, List, length}
use Rattle.bus_base.specs.declared.samples.Sample.{Sample}
use Rattle.bus_line.specs.Bursts.{IsBurst, IsQuietAt}
use Rattle.bus_line.specs.Past.{Burst, burst_from, end_of}
use Rattle.bus_model.specs.Controller.{Reply, silence, awaited, running, whole}

-- an answer counts: it runs, or it was heard whole
abbrev pub counts : Reply → Bool
counts silence = false
counts awaited = false
counts running = true
counts (whole burst) = true

-- all ticks from a to before b were quiet
abbrev pub AreQuiet : List Sample → ℕ → ℕ → Type 0
AreQuiet past a b = (t : ℕ) → a ≤ t → t < b → IsQuietAt past t

-- the next burst from tick e on, whose end is known
pub record IsNextBurst (k : ℕ) (past : List Sample) (e : ℕ) (burst : Burst) : Type 0 where
  pub from : e ≤ burst.first
  pub before : AreQuiet past e burst.first
  pub is : IsBurst k past burst.first burst.ticks
  pub known : end_of burst + suc k ≤ length past
  pub slots : burst ≡ burst_from past burst.first burst.ticks
