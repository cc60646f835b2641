use Rattle.std.proofs.Common.{◌≡◌, ◌+◌, ◌≤◌, ◌<◌, ◌++◌, length, sym, ap, subst, ◌∙◌, arith, length-append}
use Rattle.bus_base.specs.declared.samples.Channel.TheVariants.{A, B}
use Rattle.bus_line.specs.Channels.{on_channel}
use Rattle.bus_monitor.specs.Channels.{ChannelListerStands}
use Rattle.bus_monitor.specs.Parts.{part, InTime, CloseNone}
use Rattle.bus_monitor.proofs.ChannelLaws.{length-on_channel}
use Rattle.bus_monitor.proofs.PartLaws.{part-a, part-b, on-append, long-part}
use Rattle.bus_monitor.proofs.StayLaws.{messages-still}
use Rattle.bus_monitor.proofs.messages.MessageListerLister.pass.Goals as goal

pub pass-requires-clause-still : goal.pass-requires-clause-still
pass-requires-clause-still c = c.still.ensures.still c.min-ticks.result (grind (arith))

pub pass-requires-2-clause-still : goal.pass-requires-2-clause-still
pass-requires-2-clause-still c = c.still-2.ensures.still c.min-ticks.result (grind (arith))

pub returns-clause-stands : goal.returns-clause-stands
returns-clause-stands c past s =
    let at = c.args.at in
    let n = c.min-ticks.result in
    let block = c.args.block.now in
    let few : at + n ≤ block.ticks = grind (arith) in
    let some : 0 < n = grind (arith) in
    let ticks : c.args.self.now.ticks ≡ length past = s.ticks in
    let time-a : InTime c.args.self.now.a (length (on_channel A past)) n =
    subst (λ now. InTime c.args.self.now.a now n) (ticks ∙ sym (length-on_channel A past)) (c.still.ensures.time n some (grind (arith))) in
    let time-b : InTime c.args.self.now.b (length (on_channel B past)) n =
    subst (λ now. InTime c.args.self.now.b now n) (ticks ∙ sym (length-on_channel B past)) (c.still-2.ensures.time n some (grind (arith))) in
    let long : length (part block at n ++ past) ≡ n + length past =
    length-append (part block at n) past ∙ ap (λ m. m + length past) (long-part block at n few) in
    record {
      a = subst (ChannelListerStands c.pass.new.self) (sym (on-append A (part block at n) past ∙ ap (λ xs. xs ++ on_channel A past) (part-a block at n few)))
          (c.pass.ensures.stands (on_channel A past) s.a time-a);
      b = subst (ChannelListerStands c.pass-2.new.self) (sym (on-append B (part block at n) past ∙ ap (λ xs. xs ++ on_channel B past) (part-b block at n few)))
          (c.pass-2.ensures.stands (on_channel B past) s.b time-b);
      ticks = grind (arith, ticks, long);
    }

pub returns-clause-lines : goal.returns-clause-lines
returns-clause-lines c past s =
    let at = c.args.at in
    let n = c.min-ticks.result in
    let block = c.args.block.now in
    let few : at + n ≤ block.ticks = grind (arith) in
    let some : 0 < n = grind (arith) in
    let ticks : c.args.self.now.ticks ≡ length past = s.ticks in
    let time-a : InTime c.args.self.now.a (length (on_channel A past)) n =
    subst (λ now. InTime c.args.self.now.a now n) (ticks ∙ sym (length-on_channel A past)) (c.still.ensures.time n some (grind (arith))) in
    let time-b : InTime c.args.self.now.b (length (on_channel B past)) n =
    subst (λ now. InTime c.args.self.now.b now n) (ticks ∙ sym (length-on_channel B past)) (c.still-2.ensures.time n some (grind (arith))) in
    messages-still (part block at n) past
    (subst (λ xs. CloseNone xs (on_channel A past)) (sym (part-a block at n few)) (c.pass.ensures.closes (on_channel A past) s.a time-a))
    (subst (λ xs. CloseNone xs (on_channel B past)) (sym (part-b block at n few)) (c.pass-2.ensures.closes (on_channel B past) s.b time-b))
