use Rattle.std.proofs.Common.{◌≡◌, ◌+◌, ◌≤◌, ◌<◌, ◌++◌, length, sym, ap, subst, ◌∙◌, arith, length-append}
use Rattle.bus_base.specs.declared.samples.Channel.TheVariants.{A, B}
use Rattle.bus_line.specs.Channels.{on_channel}
use Rattle.bus_line.specs.declared.cutter.TheConstants.{LAG}
use Rattle.bus_monitor.specs.Parts.{part, InTime}
use Rattle.bus_monitor.proofs.ChannelLaws.{length-on_channel}
use Rattle.bus_monitor.proofs.PartLaws.{part-a, part-b, on-append, long-part}
use Rattle.bus_rules.specs.Breaches.{known}
use Rattle.bus_rules.specs.Stands.{ChannelJudgeStands, NoneKnown, is_on}
use Rattle.bus_rules.proofs.PairLaws.{pairs-none, none-lines, both-is}
use Rattle.bus_rules.proofs.capture_judge.JudgeLister.pass.Goals as goal

pub pass-requires-clause-still : goal.pass-requires-clause-still
pass-requires-clause-still c = c.still.ensures.still c.min-ticks.result (grind (arith))

pub pass-requires-2-clause-still : goal.pass-requires-2-clause-still
pass-requires-2-clause-still c = c.still-2.ensures.still c.min-ticks.result (grind (arith))

pub pass-requires-clause-past : goal.pass-requires-clause-past
pass-requires-clause-past c = let (past, s, short) = c.requires.past in (on_channel A past, s.a)

pub pass-requires-2-clause-past : goal.pass-requires-2-clause-past
pass-requires-2-clause-past c = let (past, s, short) = c.requires.past in (on_channel B past, s.b)

pub returns-clause-stands : goal.returns-clause-stands
returns-clause-stands c past s =
    let at = c.args.at in
    let n = c.min-ticks.result in
    let block = c.args.block.now in
    let few : at + n ≤ block.ticks = grind (arith) in
    let some : 0 < n = grind (arith) in
    let ticks : c.args.self.now.ticks ≡ length past = s.ticks in
    let time-a : InTime c.args.self.now.a.messages (length (on_channel A past)) n =
    subst (λ now. InTime c.args.self.now.a.messages now n) (ticks ∙ sym (length-on_channel A past)) (c.still.ensures.time n some (grind (arith))) in
    let time-b : InTime c.args.self.now.b.messages (length (on_channel B past)) n =
    subst (λ now. InTime c.args.self.now.b.messages now n) (ticks ∙ sym (length-on_channel B past)) (c.still-2.ensures.time n some (grind (arith))) in
    let long : length (part block at n ++ past) ≡ n + length past =
    length-append (part block at n) past ∙ ap (λ m. m + length past) (long-part block at n few) in
    let on-a = on-append A (part block at n) past ∙ ap (λ xs. xs ++ on_channel A past) (part-a block at n few) in
    let on-b = on-append B (part block at n) past ∙ ap (λ xs. xs ++ on_channel B past) (part-b block at n few) in
    let none : known LAG (part block at n ++ past) ≡ known LAG past =
    pairs-none (part block at n) past
    (subst (λ xs. NoneKnown xs (on_channel A past)) (sym (part-a block at n few)) (c.pass.ensures.none (on_channel A past) s.a))
    (subst (λ xs. NoneKnown xs (on_channel B past)) (sym (part-b block at n few)) (c.pass-2.ensures.none (on_channel B past) s.b)) in
    record {
      a = subst (ChannelJudgeStands c.pass.new.self) (sym on-a) (c.pass.ensures.stands (on_channel A past) s.a time-a);
      b = subst (ChannelJudgeStands c.pass-2.new.self) (sym on-b) (c.pass-2.ensures.stands (on_channel B past) s.b time-b);
      ticks = grind (arith, ticks, long);
      overlap = c.are_both-self.ensures ∙ sym (both-is (part block at n ++ past) _ _ (ap is_on on-a ∙ c.pass.ensures.on (on_channel A past) s.a)
          (ap is_on on-b ∙ c.pass-2.ensures.on (on_channel B past) s.b));
      breaches = s.breaches ∙ ap length (sym none);
      few = grind (arith, s.few);
    }

pub returns-clause-lines : goal.returns-clause-lines
returns-clause-lines c past s =
    let at = c.args.at in
    let n = c.min-ticks.result in
    let block = c.args.block.now in
    let few : at + n ≤ block.ticks = grind (arith) in
    none-lines (part block at n) past
    (pairs-none (part block at n) past
    (subst (λ xs. NoneKnown xs (on_channel A past)) (sym (part-a block at n few)) (c.pass.ensures.none (on_channel A past) s.a))
    (subst (λ xs. NoneKnown xs (on_channel B past)) (sym (part-b block at n few)) (c.pass-2.ensures.none (on_channel B past) s.b)))
