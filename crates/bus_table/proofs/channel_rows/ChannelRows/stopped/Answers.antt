use Rattle.std.proofs.Common.{◌≡◌, length, ap, sym, ◌∙◌, arith, List}
use Rattle.std.specs.Prelude.{true, is_some}
use Rattle.bus_base.specs.declared.samples.Sample.{Sample}
use Rattle.bus_line.specs.Channels.{on_channel}
use Rattle.bus_line.specs.Past.{runs, first_tick}
use Rattle.bus_line.specs.declared.cutter.TheConstants.{LAG}
use Rattle.bus_monitor.proofs.ChannelLaws.{length-on_channel}
use Rattle.bus_monitor.proofs.StepLaws.{some-if}
use Rattle.bus_table.proofs.channel_rows.ChannelRows.stopped.Goals as goal

pub returns-in-Some : goal.returns-in-Some
returns-in-Some c ch past s here =
    let own : List Sample = on_channel ch past in
    let long : length own ≡ length past = length-on_channel ch past in
    let on : runs LAG own ≡ true = sym (some-if (runs LAG own) (first_tick LAG own)) ∙ ap is_some (sym s.lister.running ∙ c.in-Some.is) in
    let quiet = c.quiet_ticks.ensures own s.lister.cutter on in
    let left = c.saturating_sub.ensures in
    omega (arith, here, long, quiet, left)
