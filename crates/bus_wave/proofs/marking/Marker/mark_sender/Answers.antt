use Rattle.std.proofs.Common.{sym, subst}
use Rattle.std.specs.Prelude.{Option}
use Rattle.bus_monitor.specs.Messages.{Waiting, message_of}
use Rattle.bus_wave.specs.Delays.{Marked}
use Rattle.bus_wave.specs.Steps.{told_sender_of}
use Rattle.bus_wave.proofs.DelayLaws.{marked-none}
use Rattle.bus_wave.proofs.marking.Marker.mark_sender.Goals as goal

pub returns-in-Some : goal.returns-in-Some
returns-in-Some c first whole running short slots =
    subst (λ (w : Option Waiting). Marked c.args.line.now c.args.line.now c.args.ticks c.args.channel (told_sender_of first w (message_of whole c.args.rest)))
    (sym c.in-Some.is) (marked-none c.args.line.now c.args.ticks c.args.channel)

pub returns-in-None : goal.returns-in-None
returns-in-None c first whole running short slots =
    subst (λ (w : Option Waiting). Marked c.args.line.now c.mark_controller.new.line c.args.ticks c.args.channel (told_sender_of first w (message_of whole c.args.rest)))
    (sym c.in-None.is) (c.mark_controller.ensures first whole running short slots)
