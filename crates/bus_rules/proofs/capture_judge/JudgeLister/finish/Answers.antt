use Rattle.std.proofs.Common.{◌≡◌, ◌++◌, ◌+◌, length, ap, subst, ◌∙◌, arith, append_assoc}
use Rattle.bus_base.specs.declared.samples.Channel.TheVariants.{A, B}
use Rattle.bus_line.specs.Channels.{on_channel}
use Rattle.bus_line.specs.declared.cutter.TheConstants.{LAG}
use Rattle.bus_monitor.specs.Listings.{end_line}
use Rattle.bus_monitor.specs.Progress.{end_text}
use Rattle.bus_rules.specs.Breaches.{open_burst, open_bursts, breaches}
use Rattle.bus_rules.specs.JudgeTexts.{breach_lines, verdict_line}
use Rattle.bus_rules.specs.Stands.{Adds}
use Rattle.bus_rules.proofs.AddLaws.{adds-then}
use Rattle.bus_rules.proofs.PairLaws.{open-is, all-count, judge-parts}
use Rattle.bus_rules.proofs.capture_judge.JudgeLister.finish.Goals as goal

pub returns : goal.returns
returns c past s =
    let a : Adds c.args.text.now c.add_open-a.new.text c.add_open-a.result (open_burst LAG A (on_channel A past)) =
    subst (Adds c.args.text.now c.add_open-a.new.text c.add_open-a.result)
    (open-is A (on_channel A past) c.running.result (c.running.ensures ∙ s.a.messages.running)) c.add_open-a.ensures.adds in
    let b : Adds c.add_open-a.new.text c.add_open-b.new.text c.add_open-b.result (open_burst LAG B (on_channel B past)) =
    subst (Adds c.add_open-a.new.text c.add_open-b.new.text c.add_open-b.result)
    (open-is B (on_channel B past) c.running-2.result (c.running-2.ensures ∙ s.b.messages.running)) c.add_open-b.ensures.adds in
    let both : Adds c.args.text.now c.add_open-b.new.text (c.add_open-a.result + c.add_open-b.result) (open_bursts LAG past) = adds-then _ _ _ _ _ _ _ a b in
    let count : c.args.self.now.breaches + (c.add_open-a.result + c.add_open-b.result) ≡ length (breaches LAG past) =
    omega (arith, s.breaches, both.1, all-count past) in
    let verdict : c.add_verdict.new.text ≡ c.add_open-b.new.text ++ verdict_line (length (breaches LAG past)) =
    c.add_verdict.ensures.text ∙ ap (λ n. c.add_open-b.new.text ++ verdict_line n) count in (
      (breach_lines (open_bursts LAG past) ++ verdict_line (length (breaches LAG past))) ++ end_line past,
      judge-parts past,
      c.add_end.ensures ∙ ap (λ n. c.add_verdict.new.text ++ end_text n) s.ticks
          ∙ ap (λ t. t ++ end_line past) (verdict ∙ ap (λ t. t ++ verdict_line (length (breaches LAG past))) both.0
          ∙ append_assoc c.args.text.now (breach_lines (open_bursts LAG past)) (verdict_line (length (breaches LAG past))))
          ∙ append_assoc c.args.text.now (breach_lines (open_bursts LAG past) ++ verdict_line (length (breaches LAG past))) (end_line past),
    )
