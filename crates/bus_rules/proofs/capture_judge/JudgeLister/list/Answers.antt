use Rattle.std.proofs.Common.{◌≡◌, ◌∷◌, ◌+◌, length, sym, ◌∙◌, arith, subst}
use Rattle.bus_base.specs.declared.samples.Channel.TheVariants.{A, B}
use Rattle.bus_line.specs.Channels.{on_channel, quiet_both}
use Rattle.bus_line.specs.declared.cutter.TheConstants.{LAG}
use Rattle.bus_monitor.proofs.ChannelLaws.{length-on_channel}
use Rattle.bus_rules.specs.Breaches.{known, known_now, overlap_now, known_on}
use Rattle.bus_rules.specs.JudgeTexts.{breach_lines}
use Rattle.bus_rules.specs.Stands.{Adds}
use Rattle.bus_rules.proofs.AddLaws.{adds-then}
use Rattle.bus_rules.proofs.PairLaws.{busy-a, busy-b, overlap-is, lines-more, count-more}
use Rattle.bus_rules.proofs.capture_judge.JudgeLister.list.Goals as goal

pub judge-a-requires-clause-past : goal.judge-a-requires-clause-past
judge-a-requires-clause-past c =
    let (past, s, short) = c.requires.past in
    (on_channel A past, s.a, length-on_channel A past ∙ sym s.ticks, rw s.ticks short)

pub judge-b-requires-clause-past : goal.judge-b-requires-clause-past
judge-b-requires-clause-past c =
    let (past, s, short) = c.requires.past in
    (on_channel B past, s.b, length-on_channel B past ∙ sym s.ticks, rw s.ticks short)

pub returns-clause-stands : goal.returns-clause-stands
returns-clause-stands c past s =
    let shown = c.args.shown ∷ past in
    let overlap : Adds c.args.text.now c.add_where-overlap.new.text c.add_where-overlap.result (overlap_now shown) =
    subst (Adds c.args.text.now c.add_where-overlap.new.text c.add_where-overlap.result)
    (overlap-is c.is_first-begins.result c.are_heard-both.result c.args.self.now.overlap c.args.self.now.ticks c.args.shown past c.is_first-begins.ensures
    c.are_heard-both.ensures s.overlap s.ticks) c.add_where-overlap.ensures.adds in
    let a : Adds c.add_where-overlap.new.text c.judge-a.new.text c.judge-a.result (known_on LAG A (quiet_both past) (on_channel A shown)) =
    c.judge-a.ensures.adds (on_channel A past) (quiet_both past) s.a (length-on_channel A past ∙ sym s.ticks)
    (λ off. c.is_some-busy_b.ensures ∙ busy-b past c.running-2.result c.args.self.now.ticks (c.running-2.ensures ∙ s.b.messages.running) s.ticks off) in
    let b : Adds c.judge-a.new.text c.judge-b.new.text c.judge-b.result (known_on LAG B (quiet_both past) (on_channel B shown)) =
    c.judge-b.ensures.adds (on_channel B past) (quiet_both past) s.b (length-on_channel B past ∙ sym s.ticks)
    (λ off. c.is_some-busy_a.ensures ∙ busy-a past c.running.result c.args.self.now.ticks (c.running.ensures ∙ s.a.messages.running) s.ticks off) in
    let all : Adds c.args.text.now c.judge-b.new.text (c.add_where-overlap.result + (c.judge-a.result + c.judge-b.result)) (known_now LAG shown) =
    adds-then _ _ _ _ _ _ _ overlap (adds-then _ _ _ _ _ _ _ a b) in
    let more : length (known LAG shown) ≡ length (known LAG past) + length (known_now LAG shown) = count-more c.args.shown past in
    let before : c.args.self.now.breaches ≡ length (known LAG past) = s.breaches in
    record {
      a = c.judge-a.ensures.stands (on_channel A past) s.a (length-on_channel A past ∙ sym s.ticks);
      b = c.judge-b.ensures.stands (on_channel B past) s.b (length-on_channel B past ∙ sym s.ticks);
      ticks = omega (arith, s.ticks);
      overlap = c.are_heard-both.ensures;
      breaches = omega (arith, before, all.1, more);
      few = omega (arith, s.few, c.add_where-overlap.ensures.few, c.judge-a.ensures.few, c.judge-b.ensures.few);
    }

pub returns-clause-lines : goal.returns-clause-lines
returns-clause-lines c past s =
    let shown = c.args.shown ∷ past in
    let overlap : Adds c.args.text.now c.add_where-overlap.new.text c.add_where-overlap.result (overlap_now shown) =
    subst (Adds c.args.text.now c.add_where-overlap.new.text c.add_where-overlap.result)
    (overlap-is c.is_first-begins.result c.are_heard-both.result c.args.self.now.overlap c.args.self.now.ticks c.args.shown past c.is_first-begins.ensures
    c.are_heard-both.ensures s.overlap s.ticks) c.add_where-overlap.ensures.adds in
    let a : Adds c.add_where-overlap.new.text c.judge-a.new.text c.judge-a.result (known_on LAG A (quiet_both past) (on_channel A shown)) =
    c.judge-a.ensures.adds (on_channel A past) (quiet_both past) s.a (length-on_channel A past ∙ sym s.ticks)
    (λ off. c.is_some-busy_b.ensures ∙ busy-b past c.running-2.result c.args.self.now.ticks (c.running-2.ensures ∙ s.b.messages.running) s.ticks off) in
    let b : Adds c.judge-a.new.text c.judge-b.new.text c.judge-b.result (known_on LAG B (quiet_both past) (on_channel B shown)) =
    c.judge-b.ensures.adds (on_channel B past) (quiet_both past) s.b (length-on_channel B past ∙ sym s.ticks)
    (λ off. c.is_some-busy_a.ensures ∙ busy-a past c.running.result c.args.self.now.ticks (c.running.ensures ∙ s.a.messages.running) s.ticks off) in
    let all : Adds c.args.text.now c.judge-b.new.text (c.add_where-overlap.result + (c.judge-a.result + c.judge-b.result)) (known_now LAG shown) =
    adds-then _ _ _ _ _ _ _ overlap (adds-then _ _ _ _ _ _ _ a b) in
    (breach_lines (known_now LAG shown), lines-more c.args.shown past, all.0)
