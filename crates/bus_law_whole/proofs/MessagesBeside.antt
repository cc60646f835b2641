-- A message of the table beside an abandoned answer is the same but for its bursts.
use Rattle.std.proofs.Common.{◌≡◌, ℕ, List, ◌++◌, map, Option, Some, None, refl}
use Rattle.bus_base.specs.declared.samples.Channel.{Channel}
use Rattle.bus_base.specs.declared.samples.Part.TheVariants.{Command, First}
use Rattle.bus_formats.specs.Plans.{ItemData}
use Rattle.bus_formats.specs.declared.fault.Fault.{Fault}
use Rattle.bus_model.specs.Memory.{TimedLoad}
use Rattle.bus_model.specs.Message.{Present, After, Message, message, message_obeyed, command_burst, abandoned_bursts, after_command, answer_to}
use Rattle.bus_model.specs.Strikes.{ShownBurst, ShownAnswer, hits_on, shown_answer}

-- a message with these bursts before its own
abbrev pub with_bursts : List ShownBurst → Message → Message
with_bursts before m = record m { bursts = before ++ m.bursts }

module _ (k : ℕ) (loads : List TimedLoad) (faults : List Fault) (attempt : ℕ) (item : ItemData) (runs_on : Option ShownAnswer) where
  obeyed-beside : (command : ShownBurst) (ordered : List After) (first : Option ShownAnswer) →
      message_obeyed k loads faults attempt item runs_on command ordered first
      ≡ with_bursts (abandoned_bursts runs_on command) (message_obeyed k loads faults attempt item None command ordered first)
  obeyed-beside command ordered None = refl
  obeyed-beside command ordered (Some first) = refl

  pub message-beside : (channel : Channel) (start : ℕ) (stations : List Present) →
      message k loads faults attempt item runs_on channel start stations
      ≡ with_bursts (abandoned_bursts runs_on (command_burst channel start (hits_on faults attempt Command) item))
      (message k loads faults attempt item None channel start stations)
  unfolding message
  message-beside channel start stations =
      let command : ShownBurst = command_burst channel start (hits_on faults attempt Command) item in
      let ordered : List After = map (after_command k loads command) stations in
      obeyed-beside command ordered (shown_answer (hits_on faults attempt First) (answer_to command ordered))
