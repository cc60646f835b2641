-- A state whose ears have heard a tick, before what they told is handled.
use Rattle.std.specs.Prelude.{◌≡◌, ℕ, suc, not, ◌||◌, List, ◌∷◌, Option}
use Rattle.bus_base.specs.Samples.{is_quiet, sample_on}
use Rattle.bus_formats.specs.Plans.{TerminalData}
use Rattle.bus_model.specs.Memory.{TimedLoad}
use Rattle.bus_model.specs.Hearing.{Moment}
use Rattle.bus_model.specs.Standing.{Standing}
use Rattle.bus_model.specs.Terminal.{marked_by}
use Rattle.bus_terminal.specs.Holding.{EarsStand, AreListened, listened_of}
use Rattle.bus_terminal.specs.Stands.{ListeningStands, PromisedStands, OwingStands, AnsweringStands, NextStands}
use Rattle.bus_terminal.specs.declared.common.BothHeard.{BothHeard}
use Rattle.bus_terminal.specs.declared.common.Common.{Common}
use Rattle.bus_terminal.specs.declared.listening.Listening.{Listening}
use Rattle.bus_terminal.specs.declared.promised.Promised.{Promised}
use Rattle.bus_terminal.specs.declared.owing.Owing.{Owing}
use Rattle.bus_terminal.specs.declared.answering.Answering.{Answering}
use Rattle.bus_terminal.specs.declared.state.Step.{Step}
use Rattle.bus_terminal.specs.declared.state.Step.TheVariants as steps
use Rattle.bus_terminal.specs.declared.state.TerminalState.{TerminalState}
use Rattle.bus_terminal.specs.declared.state.TerminalState.TheVariants as states
use Rattle.bus_terminal.specs.declared.state.TerminalEvent.TheVariants as events

-- the ears have heard the newest tick, and the rest is as before it
pub record HasListened (k : ℕ) (terminal : TerminalData) (before after : Common) (past : List Moment) (now : Moment) (s : Standing) : Type 0 where
  pub plan : after.plan ≡ before.plan
  pub memory : after.memory ≡ before.memory
  pub stands : (left : Standing) → EarsStand k terminal.address after.ears (now ∷ past) (marked_by k terminal now past s left)

-- a state as it stood before the newest tick and as it is with it, and what its ears told of the tick
pub record ListeningHeard (k : ℕ) (terminal : TerminalData) (loads : List TimedLoad) (before after : Listening) (both : BothHeard) (past : List Moment)
    (now : Moment) (s : Standing) : Type 0 where
  pub stood : ListeningStands k terminal loads before past s
  pub listened : HasListened k terminal before.common after.common past now s
  pub told : AreListened k terminal.address (listened_of after.common.ears both) (now ∷ past) past s

pub record PromisedHeard (k : ℕ) (terminal : TerminalData) (loads : List TimedLoad) (before after : Promised) (both : BothHeard) (past : List Moment)
    (now : Moment) (s : Standing) : Type 0 where
  pub stood : PromisedStands k terminal loads before past s
  pub listened : HasListened k terminal before.common after.common past now s
  pub told : AreListened k terminal.address (listened_of after.common.ears both) (now ∷ past) past s
  pub waiting : after.waiting ≡ before.waiting
  pub since : after.heard ≡ (before.heard || not (is_quiet (sample_on now.shown before.waiting.channel)))

pub record OwingHeard (k : ℕ) (terminal : TerminalData) (loads : List TimedLoad) (before after : Owing) (both : BothHeard) (past : List Moment)
    (now : Moment) (s : Standing) : Type 0 where
  pub stood : OwingStands k terminal loads before past s
  pub listened : HasListened k terminal before.common after.common past now s
  pub told : AreListened k terminal.address (listened_of after.common.ears both) (now ∷ past) past s
  pub sends : after.sends ≡ before.sends

pub record AnsweringHeard (k : ℕ) (terminal : TerminalData) (loads : List TimedLoad) (before after : Answering) (both : BothHeard) (past : List Moment)
    (now : Moment) (s : Standing) : Type 0 where
  pub stood : AnsweringStands k terminal loads before past s
  pub listened : HasListened k terminal before.common after.common past now s
  pub told : AreListened k terminal.address (listened_of after.common.ears both) (now ∷ past) past s
  pub sends : after.sends ≡ before.sends
  pub sent : after.sent ≡ suc before.sent

abbrev pub StateHeard : ℕ → TerminalData → List TimedLoad → TerminalState → BothHeard → List Moment → Moment → Standing → Type 0
StateHeard k terminal loads (states.Listening after) both past now s = (before : Listening) × ListeningHeard k terminal loads before after both past now s
StateHeard k terminal loads (states.Promised after) both past now s = (before : Promised) × PromisedHeard k terminal loads before after both past now s
StateHeard k terminal loads (states.Owing after) both past now s = (before : Owing) × OwingHeard k terminal loads before after both past now s
StateHeard k terminal loads (states.Answering after) both past now s = (before : Answering) × AnsweringHeard k terminal loads before after both past now s

-- a state that stays stands after the tick, and tells of nothing; one that may change has heard the tick
abbrev pub AfterStep : ℕ → TerminalData → List TimedLoad → TerminalState → Step → List Moment → Moment → Standing → Option ℕ → Type 0
AfterStep k terminal loads state steps.Stays past now s end =
    NextStands k terminal loads (record { state = state; event = events.Nothing }) past now s end
AfterStep k terminal loads state (steps.Changes both) past now s end = StateHeard k terminal loads state both past now s
