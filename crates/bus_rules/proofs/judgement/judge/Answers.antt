use Rattle.std.proofs.Common.{refl, reverse, length, arith, ◌≤◌}
use Rattle.bus_capture.specs.Readings.{ticks_in, text_limit}
use Rattle.bus_monitor.proofs.WriterLaws.{few-ticks}
use Rattle.bus_rules.specs.Breaches.{known}
use Rattle.bus_rules.specs.JudgeTexts.{known_lines}
use Rattle.bus_rules.proofs.JudgedLaws.{judged-done}
use Rattle.bus_rules.proofs.judgement.judge.Goals as goal

pub list_by-listing-requires-clause-lines : goal.list_by-listing-requires-clause-lines
unfolding known_lines known
list_by-listing-requires-clause-lines g c = refl

pub count-requires : goal.count-requires
count-requires g c =
    let few : length (ticks_in (reverse c.list_by-listing.ensures.listed.listed.input)) ≤ text_limit = few-ticks (reverse c.list_by-listing.ensures.listed.listed.input) in
    (ticks_in (reverse c.list_by-listing.ensures.listed.listed.input), c.list_by-listing.ensures.listed.standing c.in-Done.ticks c.in-Done.is, omega (arith, few))

pub returns-in-Done-clause-judged : goal.returns-in-Done-clause-judged
returns-in-Done-clause-judged g c =
    judged-done (g.S.Source.left c.args.source.now) (g.S.Source.left c.list_by-listing.new.source) (g.K.Sink.held c.args.sink.now)
    (g.K.Sink.held c.list_by-listing.new.sink) c.list_by-listing.result.0 c.in-Done.ticks c.count.result c.in-Done.is c.list_by-listing.ensures.listed.listed
    (c.count.ensures (ticks_in (reverse c.list_by-listing.ensures.listed.listed.input)) (c.list_by-listing.ensures.listed.standing c.in-Done.ticks c.in-Done.is))
