use Rattle.std.proofs.Common.{◌+◌, ◌-◌, ◌++◌, List, refl, ap, ◌∙◌, subst}
use Rattle.std.specs.Prelude.{flat_map, option_to_list}
use Rattle.bus_line.specs.declared.cutter.TheConstants.{LAG}
use Rattle.bus_monitor.specs.Messages.{Closed, message_of}
use Rattle.bus_monitor.specs.declared.channel_lister.ChannelLister.{ChannelLister}
use Rattle.bus_wave.specs.Delays.{Marked}
use Rattle.bus_wave.specs.Steps.{told_sender_of}
use Rattle.bus_wave.specs.Told.{Told, told_stop, told_closed, told_waiting}
use Rattle.bus_wave.proofs.DelayLaws.{marked-then}
use Rattle.bus_wave.proofs.MarkLaws.{parts-same}
use Rattle.bus_wave.proofs.marking.Marker.hear_end.Goals as goal

pub returns-clause-marked : goal.returns-clause-marked
returns-clause-marked c first whole running short slots =
    let n = c.args.now + 1 in
    let ch = c.args.channel in
    let l0 = c.args.line.now in
    let l1 = c.mark_stop.new.line in
    let l2 = c.mark_sender.new.line in
    let l3 = c.mark_if_closed.new.line in
    let l4 = c.mark_waiting.new.line in
    let lister = c.args.self.now.lister in
    let stop = told_stop c.saturating_sub-end.result c.args.rest in
    let sender = told_sender_of first lister.waiting (message_of whole c.args.rest) in
    let closed = flat_map (told_closed LAG) (option_to_list c.end_burst-closed.result) in
    let waits = told_waiting c.end_burst-closed.new.self.waiting in
    subst (λ (told : List Told). Marked l0 l4 n ch told)
    (parts-same stop _ sender sender closed _ waits _
    (ap (λ e. told_stop e c.args.rest) (c.saturating_sub-end.ensures ∙ ap (λ k. c.args.now - k) c.from.ensures))
    refl
    (ap (λ (cs : List Closed). flat_map (told_closed LAG) cs) (c.end_burst-closed.ensures.closed first whole running slots))
    (ap (λ (l : ChannelLister). told_waiting l.waiting) (c.end_burst-closed.ensures.keeps first whole running slots)))
    (marked-then l0 l3 l4 n ch ((stop ++ sender) ++ closed) waits
    (marked-then l0 l2 l3 n ch (stop ++ sender) closed
    (marked-then l0 l1 l2 n ch stop sender c.mark_stop.ensures (c.mark_sender.ensures first whole running short slots))
    c.mark_if_closed.ensures)
    c.mark_waiting.ensures)
