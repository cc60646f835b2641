use Rattle.std.proofs.Common.{◌≡◌, ◌+◌, length, ap, ◌∙◌, arith, length-append}
use Rattle.bus_base.specs.declared.samples.Channel.TheVariants.{A, B}
use Rattle.bus_line.specs.Channels.{on_channel}
use Rattle.bus_line.specs.declared.cutter.TheConstants.{LAG}
use Rattle.bus_rules.specs.Breaches.{open_burst, open_bursts}
use Rattle.bus_rules.proofs.PairLaws.{open-is, open-long, all-count}
use Rattle.bus_rules.proofs.capture_judge.Judge.count.Goals as goal

pub returns : goal.returns
returns c past s =
    let a : c.is_open.result ≡ length (open_burst LAG A (on_channel A past)) =
    c.is_open.ensures.value ∙ ap length (open-is A (on_channel A past) c.running.result (c.running.ensures ∙ s.a.messages.running)) in
    let b : c.is_open-2.result ≡ length (open_burst LAG B (on_channel B past)) =
    c.is_open-2.ensures.value ∙ open-long A B c.running-2.result
    ∙ ap length (open-is B (on_channel B past) c.running-2.result (c.running-2.ensures ∙ s.b.messages.running)) in
    let both : length (open_bursts LAG past) ≡ length (open_burst LAG A (on_channel A past)) + length (open_burst LAG B (on_channel B past)) =
    length-append (open_burst LAG A (on_channel A past)) (open_burst LAG B (on_channel B past)) in
    omega (arith, s.breaches, a, b, both, all-count past)
