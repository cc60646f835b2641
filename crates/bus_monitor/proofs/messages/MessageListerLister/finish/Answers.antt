use Rattle.std.proofs.Common.{◌≡◌, ◌++◌, ap, sym, ◌∙◌}
use Rattle.bus_base.specs.declared.samples.Channel.TheVariants.{A, B}
use Rattle.bus_line.specs.declared.cutter.TheConstants.{LAG}
use Rattle.bus_monitor.specs.Awaited.{open_of}
use Rattle.bus_monitor.specs.Listings.{message_listing, open_on, open_line, end_line}
use Rattle.bus_monitor.specs.Progress.{message_lines, end_text}
use Rattle.bus_monitor.proofs.OpenLaws.{open-channel, after-lines}
use Rattle.bus_monitor.proofs.messages.MessageListerLister.finish.Goals as goal

pub returns : goal.returns
unfolding message_listing message_lines
returns c past s =
    let a : c.open.result ≡ open_on LAG A past =
    c.open.ensures ∙ ap (λ r. open_of r c.args.self.now.a.waiting) s.a.running ∙ ap (open_of _) s.a.waiting ∙ sym (open-channel LAG A past) in
    let b : c.open-2.result ≡ open_on LAG B past =
    c.open-2.ensures ∙ ap (λ r. open_of r c.args.self.now.b.waiting) s.b.running ∙ ap (open_of _) s.b.waiting ∙ sym (open-channel LAG B past) in (
      (open_line A (open_on LAG A past) ++ open_line B (open_on LAG B past)) ++ end_line past,
      after-lines _ (open_line A (open_on LAG A past)) (open_line B (open_on LAG B past)) (end_line past),
      c.add_end.ensures ∙ ap (λ n. c.add_open-2.new.text ++ end_text n) s.ticks
          ∙ ap (λ t. t ++ end_line past) (c.add_open-2.ensures.text ∙ ap (λ o. c.add_open.new.text ++ open_line B o) b)
          ∙ ap (λ t. (t ++ open_line B (open_on LAG B past)) ++ end_line past) (c.add_open.ensures.text ∙ ap (λ o. c.args.text.now ++ open_line A o) a)
          ∙ after-lines c.args.text.now (open_line A (open_on LAG A past)) (open_line B (open_on LAG B past)) (end_line past),
    )
