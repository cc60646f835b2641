use Rattle.std.proofs.Common.{◌<◌, ℕ, arith, subst}
use Rattle.bus_lines.proofs.TellLaws.{telling_goes_on, telling_ends, telling_ended, telling_fails}
use Rattle.bus_lines.proofs.converter.Converter.tell.Goals as goal

pub ticks-preserved : goal.ticks-preserved
ticks-preserved g c = (
  telling_goes_on c.args.self.now c.ticks.self c.tell_one.new.self c.args.text.now c.ticks.text c.tell_one.new.text
      (g.K.Sink.held c.args.sink.now) (g.K.Sink.held c.ticks.sink) (g.K.Sink.held c.tell_one.new.sink)
      (subst (λ (n : ℕ). 0 < n) c.ticks_due.ensures c.ticks-test.true) c.tell_one.ensures.state c.ticks.invariant.0 c.in-Ok.ensures.told,
  c.tell_one.ensures.room,
  omega (arith, c.ticks.invariant.2, c.tell_one.ensures.cause.later),
)

pub returns-in-Err-clause-told : goal.returns-in-Err-clause-told
returns-in-Err-clause-told g c =
    telling_fails c.args.self.now c.ticks.self c.args.text.now c.ticks.text
    (g.K.Sink.held c.args.sink.now) (g.K.Sink.held c.ticks.sink) (g.K.Sink.held c.tell_one.new.sink)
    (subst (λ (n : ℕ). 0 < n) c.ticks_due.ensures c.ticks-test.true) c.ticks.invariant.0 c.in-Err.ensures.told

pub returns-clause-told : goal.returns-clause-told
returns-clause-told g c =
    telling_ends c.args.self.now c.ticks.self c.args.text.now c.ticks.text (g.K.Sink.held c.args.sink.now) (g.K.Sink.held c.ticks.sink)
    (omega (arith, c.ticks_due.ensures, c.ticks-test.false)) c.ticks.invariant.0

pub returns-clause-state : goal.returns-clause-state
returns-clause-state g c =
    telling_ended c.args.self.now c.ticks.self c.args.text.now c.ticks.text (g.K.Sink.held c.args.sink.now) (g.K.Sink.held c.ticks.sink)
    (omega (arith, c.ticks_due.ensures, c.ticks-test.false)) c.ticks.invariant.0
