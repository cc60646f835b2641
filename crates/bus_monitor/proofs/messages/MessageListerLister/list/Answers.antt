use Rattle.std.proofs.Common.{◌≡◌, ◌∷◌, ◌++◌, ap, sym, ◌∙◌, append_assoc, arith}
use Rattle.bus_base.specs.declared.samples.Channel.TheVariants.{A, B}
use Rattle.bus_line.specs.Channels.{on_channel}
use Rattle.bus_line.specs.declared.cutter.TheConstants.{LAG}
use Rattle.bus_monitor.specs.Progress.{messages_now}
use Rattle.bus_monitor.proofs.ChannelLaws.{length-on_channel}
use Rattle.bus_monitor.proofs.LineLaws.{message_lines-grow}
use Rattle.bus_monitor.proofs.messages.MessageListerLister.list.Goals as goal

pub list-requires-clause-past : goal.list-requires-clause-past
list-requires-clause-past c =
    let (past, s, short) = c.requires.past in
    (on_channel A past, s.a, length-on_channel A past ∙ sym s.ticks, rw s.ticks short)

pub list-requires-2-clause-past : goal.list-requires-2-clause-past
list-requires-2-clause-past c =
    let (past, s, short) = c.requires.past in
    (on_channel B past, s.b, length-on_channel B past ∙ sym s.ticks, rw s.ticks short)

pub returns-clause-stands : goal.returns-clause-stands
returns-clause-stands c past s = record {
  a = c.list.ensures.stands (on_channel A past) s.a (length-on_channel A past ∙ sym s.ticks);
  b = c.list-2.ensures.stands (on_channel B past) s.b (length-on_channel B past ∙ sym s.ticks);
  ticks = omega (arith, s.ticks);
}

pub returns-clause-lines : goal.returns-clause-lines
returns-clause-lines c past s =
    let shown = c.args.shown ∷ past in
    let text-a : c.list.new.text ≡ c.args.text.now ++ messages_now LAG A shown =
    c.list.ensures.text (on_channel A past) s.a (length-on_channel A past ∙ sym s.ticks) in
    let text-b : c.list-2.new.text ≡ c.list.new.text ++ messages_now LAG B shown =
    c.list-2.ensures.text (on_channel B past) s.b (length-on_channel B past ∙ sym s.ticks) in (
      messages_now LAG A shown ++ messages_now LAG B shown,
      message_lines-grow LAG c.args.shown past (omega arith),
      text-b ∙ ap (λ t. t ++ messages_now LAG B shown) text-a ∙ append_assoc c.args.text.now (messages_now LAG A shown) (messages_now LAG B shown),
    )
