-- For which pasts of one channel an ear stands, and what it tells of a tick.
use Rattle.std.specs.Prelude.{◌≡◌, ℕ, ◌-◌, ◌<◌, ◌≤◌, min, Bool, true, false, not, ◌&&◌, if◌then◌else◌, List, length, take, Option, Some, None, IfSome, ⊤}
use Rattle.bus_base.specs.declared.samples.Sample.{Sample}
use Rattle.bus_words.specs.declared.word.Word.{Word}
use Rattle.bus_line.specs.Past.{Slot, Burst, quiet, end_of, rest_of, end_since, ended_now}
use Rattle.bus_line.specs.Cutting.{running_slots}
use Rattle.bus_model.specs.Orders.{last_order}
use Rattle.bus_model.specs.Hearing.{is_addressed}
use Rattle.bus_model.specs.Standing.{ignored_from}
use Rattle.bus_ears.specs.declared.ear.Ear.{Ear}
use Rattle.bus_ears.specs.declared.ear.HeardBurst.{HeardBurst}
use Rattle.bus_ears.specs.declared.ear.Heard.{Heard}
use Rattle.bus_ears.specs.declared.ear.HeardTick.{HeardTick}

-- the last command for the terminal in these slots, with the first of the slots after it; all slots where there is none
abbrev pub Holds : ℕ → ℕ → Option ℕ → List (Option Word) → List (Option Word) → Type 0
Holds most own None kept slots = (last_order own slots ≡ None) × (kept ≡ take most slots)
Holds most own (Some command) kept slots =
    (tail : List (Option Word)) × (last_order own slots ≡ Some record { command = command; tail = tail }) × (kept ≡ take most tail)

-- the quiet ticks in a row since the terminal's own transmission began, while the channel is ignored
pub record IsSending (k quiet_ticks : ℕ) (heard : List Sample) (first : ℕ) : Type 0 where
  pub begun : first ≤ length heard
  pub runs : end_since k heard first ≡ None
  pub count : quiet_ticks ≡ min (quiet heard) (length heard - first)
  pub few : quiet_ticks ≤ k

abbrev pub Ignores : ℕ → Option ℕ → List Sample → Option ℕ → Type 0
Ignores k None heard sent = ignored_from k heard sent ≡ false
Ignores k (Some quiet_ticks) heard None = ⊥
Ignores k (Some quiet_ticks) heard (Some first) = IsSending k quiet_ticks heard first

-- the ear of the terminal with the address own stands for what the channel showed, the first tick of the terminal's last transmission
-- there, and the tick in which the last addressed slot ended
pub record EarStands (k most own : ℕ) (ear : Ear) (heard : List Sample) (sent addressed : Option ℕ) : Type 0 where
  pub slots : Holds most own ear.command ear.slots.items (running_slots k heard)
  pub addressed_is : ear.addressed ≡ addressed
  pub before : IfSome addressed (λ tick. tick < length heard)
  pub ignores : Ignores k ear.sending heard sent

-- a burst that ended, as it is told
pub record IsToldBurst (most own : ℕ) (told : HeardBurst) (burst : Burst) : Type 0 where
  pub first : told.first ≡ burst.first
  pub end : told.end ≡ end_of burst
  pub rest : told.rest ≡ rest_of burst
  pub slots : Holds most own told.command told.slots.items burst.slots

abbrev pub AreTold : ℕ → ℕ → Option HeardBurst → Option Burst → Type 0
AreTold most own None None = ⊤
AreTold most own (Some told) (Some burst) = IsToldBurst most own told burst
AreTold most own _ _ = ⊥

-- what a tick brought, with the burst that an ear keeps
abbrev pub told_if : Bool → HeardBurst → Option HeardBurst
told_if true burst = Some burst
told_if false burst = None

abbrev pub heard_of : Ear → HeardTick → Heard
heard_of ear tick = record { burst = told_if tick.ended ear.last; ignored = tick.ignored }

-- what an ear tells of the newest tick: the burst whose end became known, and whether the channel was ignored
pub record IsHeard (k most own : ℕ) (told : Heard) (heard : List Sample) (ignored : Bool) : Type 0 where
  pub burst : AreTold most own told.burst (ended_now k heard)
  pub ignored_is : told.ignored ≡ ignored

-- the marks with the newest tick
abbrev pub sent_by : ℕ → Bool → Option ℕ → Option ℕ
sent_by tick begins sent = if begins then Some tick else sent

abbrev pub addressed_by : ℕ → ℕ → Option Slot → Bool → Option ℕ → Option ℕ
addressed_by own tick slot ignored addressed =
    if is_addressed own slot && not ignored then Some tick else addressed
