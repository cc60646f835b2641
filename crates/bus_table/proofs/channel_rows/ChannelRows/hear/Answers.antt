use Rattle.std.proofs.Common.{◌≡◌, ◌∷◌, subst, sym, ◌∙◌, List, arith}
use Rattle.std.specs.Prelude.{option_to_list}
use Rattle.bus_base.specs.declared.samples.Sample.{Sample}
use Rattle.bus_line.specs.Channels.{on_channel}
use Rattle.bus_line.specs.declared.cutter.TheConstants.{LAG}
use Rattle.bus_planes.specs.declared.cutter.BitCutter.{BitCutter}
use Rattle.bus_monitor.specs.Channels.{ChannelListerStands}
use Rattle.bus_monitor.specs.Progress.{closed_now}
use Rattle.bus_monitor.proofs.ChannelLaws.{length-on_channel}
use Rattle.bus_table.proofs.RowLaws.{sample-stands}
use Rattle.bus_table.proofs.channel_rows.ChannelRows.hear.Goals as goal

pub hear-cut-requires : goal.hear-cut-requires
hear-cut-requires c =
    let (ch, past, s, here, small) = c.requires in
    let long = length-on_channel ch past in
    (on_channel ch past, s.lister.cutter, omega (arith, long, here, small))

pub note-requires : goal.note-requires
note-requires c =
    let (ch, past, s, here, small) = c.requires in (
      on_channel ch past,
      record { lister = s.lister; cut_is = c.hear-cut.ensures.cut (on_channel ch past) s.lister.cutter },
      length-on_channel ch past ∙ here,
      small,
    )

pub returns-clause-closed : goal.returns-clause-closed
returns-clause-closed c ch past shown s here is =
    let own : List Sample = on_channel ch past in
    let before : BitCutter = c.args.self.now.lister.cutter in
    let stood : ChannelListerStands (record c.note.new.self.lister { cutter = before }) own =
    subst (λ l. ChannelListerStands (record l { cutter = before }) own) (sym c.note.ensures.keeps) s.lister in
    subst (λ x. option_to_list c.take.result ≡ closed_now LAG (x ∷ own)) is
    (c.take.ensures.closed own before stood (length-on_channel ch past ∙ here) (c.hear-cut.ensures.cut own s.lister.cutter))

pub returns-clause-stands : goal.returns-clause-stands
returns-clause-stands c ch past shown s here is gap =
    let own : List Sample = on_channel ch past in
    let before : BitCutter = c.args.self.now.lister.cutter in
    let cut = c.hear-cut.ensures.cut own s.lister.cutter in
    let stood : ChannelListerStands (record c.note.new.self.lister { cutter = before }) own =
    subst (λ l. ChannelListerStands (record l { cutter = before }) own) (sym c.note.ensures.keeps) s.lister in
    sample-stands c.args.self.now c.note.new.self c.take.new.lister ch shown past c.hear-cut.result c.args.sample c.args.gap is
    (c.note.ensures.noted own (record { lister = s.lister; cut_is = cut }) (length-on_channel ch past ∙ here)) s cut gap
    (c.take.ensures.stands own before stood (length-on_channel ch past ∙ here) cut (c.hear-cut.ensures.stands own s.lister.cutter))
