-- What a state shows.
use Rattle.std.specs.Prelude.{ℕ, List}
use Rattle.bus_base.specs.declared.samples.Drive.{Drive}
use Rattle.bus_base.specs.declared.samples.Drive.TheVariants.{Silent}
use Rattle.bus_model.specs.Memory.{load_block}
use Rattle.bus_model.specs.Sending.{drive_sample}
use Rattle.bus_terminal.specs.declared.common.Common.{Common}
use Rattle.bus_terminal.specs.declared.state.TerminalState.{TerminalState}
use Rattle.bus_terminal.specs.declared.state.TerminalState.TheVariants as states

abbrev pub common_of : TerminalState → Common
common_of (states.Listening state) = state.common
common_of (states.Promised state) = state.common
common_of (states.Owing state) = state.common
common_of (states.Answering state) = state.common

-- what a state drives in the tick to come
abbrev pub drive_told : TerminalState → Drive
drive_told (states.Listening state) = Silent
drive_told (states.Promised state) = Silent
drive_told (states.Owing state) = Silent
drive_told (states.Answering state) = drive_sample state.sends.channel state.sends.part state.sends.answer.words.items state.sent

-- a state after a block was put up for sending
abbrev pub loaded_common : Common → ℕ → List ℕ → Common
loaded_common common sub words = record common { memory = load_block common.memory sub words }

abbrev pub loaded_state : TerminalState → ℕ → List ℕ → TerminalState
loaded_state (states.Listening state) sub words = states.Listening (record state { common = loaded_common state.common sub words })
loaded_state (states.Promised state) sub words = states.Promised (record state { common = loaded_common state.common sub words })
loaded_state (states.Owing state) sub words = states.Owing (record state { common = loaded_common state.common sub words })
loaded_state (states.Answering state) sub words = states.Answering (record state { common = loaded_common state.common sub words })
