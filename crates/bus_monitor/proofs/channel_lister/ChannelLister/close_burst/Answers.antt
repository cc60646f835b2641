use Rattle.std.proofs.Common.{◌++◌, ap, ◌∙◌}
use Rattle.bus_monitor.specs.Steps.{closed_lines}
use Rattle.bus_monitor.proofs.channel_lister.ChannelLister.close_burst.Goals as goal

pub returns-clause-text : goal.returns-clause-text
returns-clause-text c first whole ran slots =
    c.add_closed.ensures.text ∙ ap (λ closed. c.args.text.now ++ closed_lines c.args.channel closed) (c.end_burst-closed.ensures.closed first whole ran slots)
