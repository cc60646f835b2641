-- What a tick tells of a channel, for those who judge it.
use Rattle.std.specs.Prelude.{◌≡◌, ℕ, ◌+◌, Bool, true, false, not, ◌&&◌, if◌then◌else◌, List, [], ◌∷◌, ◌++◌, length, Option, Some, None, is_some}
use Rattle.bus_base.specs.Samples.{is_quiet}
use Rattle.bus_base.specs.declared.samples.Sample.{Sample}
use Rattle.bus_words.specs.declared.word.Word.{Word}
use Rattle.bus_line.specs.Past.{Burst, runs, ended_now, end_of, rest_of}
use Rattle.bus_line.specs.Cutting.{running_slots}
use Rattle.bus_formats.specs.declared.form.Outcome.{Outcome}
use Rattle.bus_formats.specs.declared.form.Outcome.TheVariants.{BadReply}
use Rattle.bus_monitor.specs.Messages.{Came, unknown, ended, Closed, Waiting}
use Rattle.bus_monitor.specs.Progress.{closed_now}
use Rattle.bus_monitor.specs.Awaited.{awaited}
use Rattle.bus_monitor.specs.declared.told.Told.{Told}
use Rattle.bus_monitor.specs.declared.told.Told.TheVariants as told
use Rattle.bus_monitor.specs.declared.told.Taken.{Taken}
use Rattle.bus_monitor.specs.declared.told.Taken.TheVariants as takens
use Rattle.bus_monitor.specs.declared.told.BurstEnd.{BurstEnd}

-- a burst begins with the newest tick
abbrev pub begins : ℕ → List Sample → Bool
begins k [] = false
begins k (x ∷ past) = not (is_quiet x) && not (runs k past)

-- the tick from which a message waits
abbrev pub from_of : Option Waiting → Option ℕ
from_of None = None
from_of (Some w) = Some w.from

-- in a tick in which nothing becomes known of a burst one may begin, where none runs
abbrev pub told_in_pause : Sample → Option ℕ → Option Waiting → Told
told_in_pause x (Some first) w = told.Nothing
told_in_pause x None w = if is_quiet x then told.Nothing else told.Begun (from_of w)

-- an answer was not the one that was due
abbrev pub is_bad : Outcome → Bool
is_bad (BadReply part) = true
is_bad _ = false

-- what the burst was with which these messages closed
abbrev pub taken_as : Came → Taken
taken_as unknown = takens.Unknown
taken_as (ended kind outcome statuses) = if is_bad outcome then takens.BadReply else takens.Known

abbrev pub taken_of : List Closed → Taken
taken_of [] = takens.Known
taken_of (closed ∷ _) = taken_as closed.came

module _ (k : ℕ) (x : Sample) (past : List Sample) where
  -- a tick with which no burst ends
  pub record NoEnd (begun : Bool) : Type 0 where
    pub none : ended_now k (x ∷ past) ≡ None
    pub begun_is : begins k (x ∷ past) ≡ begun

  -- its burst, as the tick tells it
  pub record IsEnd (e : BurstEnd) : Type 0 where
    pub burst : Burst
    pub is : ended_now k (x ∷ past) ≡ Some burst
    pub first : burst.first ≡ e.first
    pub rest : rest_of burst ≡ e.rest
    pub end : end_of burst + k ≡ length past
    pub slots : burst.slots ≡ running_slots k past
    pub taken : e.taken ≡ taken_of (closed_now k (x ∷ past))

  -- what the tick tells is so, and what it leaves of the slots of the burst that runs
  abbrev pub TellsSo : Told → Type 0
  TellsSo told.Nothing = NoEnd false × (running_slots k (x ∷ past) ≡ running_slots k past)
  TellsSo (told.Begun from) =
      NoEnd true × (running_slots k (x ∷ past) ≡ running_slots k past) × (from ≡ from_of (awaited k past)) × (runs k past ≡ false)
  TellsSo (told.Slot valid) =
      NoEnd false × (word : Option Word) × (valid ≡ is_some word) × (running_slots k (x ∷ past) ≡ running_slots k past ++ word ∷ [])
  TellsSo (told.Ended e) = IsEnd e × (running_slots k (x ∷ past) ≡ []) × (begins k (x ∷ past) ≡ false)
