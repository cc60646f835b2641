-- Which terminals need to hear each tick. Any other one waits until a slot or a burst ends.
use Rattle.std.specs.Prelude.{◌≡◌, ℕ, Bool, true, not, ◌||◌, List, is_some}
use Rattle.bus_receiver.specs.Nothing.{are_nothing}
use Rattle.bus_receiver.specs.declared.cutters.Cuts.{Cuts}
use Rattle.bus_model.specs.Hearing.{Moment}
use Rattle.bus_terminal.specs.Holding.{AreCuts}
use Rattle.bus_terminal.specs.declared.common.Ears.{Ears}
use Rattle.bus_terminal.specs.declared.state.TerminalState.{TerminalState}
use Rattle.bus_terminal.specs.declared.state.TerminalState.TheVariants as states
use Rattle.bus_terminal.specs.declared.terminal.Terminal.{Terminal}

-- the quiet ticks of the terminal's own transmission are counted on a channel
abbrev pub they_count : Ears → Bool
they_count ears = is_some ears.a.sending || is_some ears.b.sending

-- an answer is owed or runs, an awaited burst hasn't begun, or the end of an own transmission isn't known
abbrev pub state_needs : TerminalState → Bool
state_needs (states.Listening state) = they_count state.common.ears
state_needs (states.Promised state) = not state.heard || they_count state.common.ears
state_needs (states.Owing state) = true
state_needs (states.Answering state) = true

abbrev pub needs_each_tick : Terminal → Bool
needs_each_tick terminal = state_needs terminal.state

-- nothing became known on either channel with the tick that followed those heard
pub record BringsNothing (k : ℕ) (now : Moment) (past : List Moment) : Type 0 where
  pub cuts : Cuts
  pub are : AreCuts k cuts now.shown past
  pub nothing : are_nothing cuts ≡ true
