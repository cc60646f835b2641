use Rattle.std.proofs.Common.{arith}
use Rattle.bus_tool.proofs.Capturing.{fails-beginning, fails-taking, fails-ending, ends-whole, begins-capture, goes-on-capture, serves-still}
use Rattle.bus_tool.proofs.Capturing.{tick-ran, tick-ended, took-next}
use Rattle.bus_tool.proofs.capture.write_capture.Goals as goal

pub returns-in_err-write-clause-captured : goal.returns-in_err-write-clause-captured
returns-in_err-write-clause-captured g c plan before st serves =
    fails-beginning plan _ _ c.from_residual.result c.from_residual.ensures.0 c.in_err-write.ensures.bytes

pub ticks-init : goal.ticks-init
ticks-init g c = record {
  captures = λ plan before st serves. begins-capture plan _ _ _ _ before _ _ st serves c.new-writer.ensures c.in_ok-write.ensures.bytes;
  later = c.write.ensures.cause.later;
}

pub ticks-preserved : goal.ticks-preserved
ticks-preserved g c = record {
  captures = λ plan before st serves.
      let so = c.ticks.invariant.captures plan before st serves in
      let ran = tick-ran plan so.ticks _ _ _ so.stands (c.tick.ensures.ended plan so.ticks so.stands) (c.tick.ensures.shown plan so.ticks so.stands) _ c.in-Some.is in
      goes-on-capture plan _ _ _ _ _ _ _ before _ _ _ _ _ so ran.2 (c.tick.ensures.serves plan so.ticks before so.stands ran.0 so.serves)
      (took-next plan so.ticks _ _ _ _ _ so.text ran.1 (c.in_ok-take.ensures.took _ so.text so.lines));
  later = (let earlier = c.ticks.invariant.later in let after = c.take.ensures.cause.later in omega (arith, earlier, after));
}

pub returns-in_err-take-clause-captured : goal.returns-in_err-take-clause-captured
returns-in_err-take-clause-captured g c plan before st serves =
    let so = c.ticks.invariant.captures plan before st serves in
    let ran = tick-ran plan so.ticks _ _ _ so.stands (c.tick.ensures.ended plan so.ticks so.stands) (c.tick.ensures.shown plan so.ticks so.stands) _ c.in-Some.is in
    fails-taking plan _ _ _ _ _ _ before _ _ _ c.from_residual-in_err-take.result so c.from_residual-in_err-take.ensures.0 ran.0
    (took-next plan so.ticks _ _ _ _ _ so.text ran.1 (c.in_err-take.ensures.took _ so.text so.lines))

pub returns-in_err-end-clause-captured : goal.returns-in_err-end-clause-captured
returns-in_err-end-clause-captured g c plan before st serves =
    let so = c.ticks.invariant.captures plan before st serves in
    let (here, same, still) =
    tick-ended plan so.ticks _ _ _ so.stands (c.tick.ensures.ended plan so.ticks so.stands) (c.tick.ensures.shown plan so.ticks so.stands) c.in_default.is in
    fails-ending plan _ _ _ _ _ before _ _ c.from_residual-in_err-end.result so c.from_residual-in_err-end.ensures.0 here c.in_err-end.ensures.wrote

pub returns-clause-captured : goal.returns-clause-captured
returns-clause-captured g c plan before st serves =
    let so = c.ticks.invariant.captures plan before st serves in
    let (here, same, still) =
    tick-ended plan so.ticks _ _ _ so.stands (c.tick.ensures.ended plan so.ticks so.stands) (c.tick.ensures.shown plan so.ticks so.stands) c.in_default.is in
    let end = c.finish.ensures plan so.ticks before (rw same so.stands) (serves-still _ _ plan before _ _ _ still so.serves) in
    ends-whole plan _ _ _ _ _ before _ _ _ so here c.in_ok-end.ensures.wrote end.0

pub tick-requires : goal.tick-requires
tick-requires g c =
    let (plan, before, st, serves) = c.requires in
    let so = c.ticks.invariant.captures plan before st serves in
    (plan, so.ticks, before, so.stands, so.serves)

pub finish-requires : goal.finish-requires
finish-requires g c =
    let (plan, before, st, serves) = c.requires in
    let so = c.ticks.invariant.captures plan before st serves in
    let (here, same, still) =
    tick-ended plan so.ticks _ _ _ so.stands (c.tick.ensures.ended plan so.ticks so.stands) (c.tick.ensures.shown plan so.ticks so.stands) c.in_default.is in
    (plan, so.ticks, before, rw same so.stands, serves-still _ _ plan before _ _ _ still so.serves)

pub take-requires : goal.take-requires
take-requires g c =
    let (plan, before, st, serves) = c.requires in
    let so = c.ticks.invariant.captures plan before st serves in
    (_, so.text, so.lines)

pub end-requires : goal.end-requires
end-requires g c =
    let (plan, before, st, serves) = c.requires in
    let so = c.ticks.invariant.captures plan before st serves in
    (_, so.text, so.lines)
