use Rattle.std.proofs.Common.{map, drop, arith, refl}
use Rattle.std.proofs.lemmas.Result.{MatchResult-from_err}
use Rattle.bus_report.proofs.Halfway.{halfway_more, halfway_front, next_terminal}
use Rattle.bus_report.proofs.whole.write_terminals.Goals as goal

pub returns-in_err-write_terminal-clause-bytes : goal.returns-in_err-write_terminal-clause-bytes
returns-in_err-write_terminal-clause-bytes g c =
    let next = next_terminal c.args.blocks.now c.args.plan.now c.args.terminals.now c.loop-terminal.terminal-index c.terminal-item.result
    (drop c.loop-terminal.place (map (λ b. (goal.Subsystem-dyn g (b.vtable, b.value)).said b.value) c.args.subsystems.now))
    c.loop-terminal-test.true c.terminal-item.is in
    MatchResult-from_err c.from_residual.result _ _ c.from_residual.ensures.0
    (λ _. halfway_front _ _ _ _ _ _ _ c.loop-terminal.invariant.lines next c.in_err-write_terminal.ensures.bytes)

pub returns-in_err-place-clause-bytes : goal.returns-in_err-place-clause-bytes
returns-in_err-place-clause-bytes g c =
    let next = next_terminal c.args.blocks.now c.args.plan.now c.args.terminals.now c.loop-terminal.terminal-index c.terminal-item.result
    (drop c.loop-terminal.place (map (λ b. (goal.Subsystem-dyn g (b.vtable, b.value)).said b.value) c.args.subsystems.now))
    c.loop-terminal-test.true c.terminal-item.is in
    let half = halfway_more _ _ _ _ _ _ _ c.loop-terminal.invariant.lines next c.in_ok-write_terminal.ensures.bytes in
    MatchResult-from_err c.from_residual-in_err-place.result _ _ c.from_residual-in_err-place.ensures.0
    (λ _. halfway_front _ _ _ _ _ _ _ half refl c.in_err-place.ensures.bytes)

pub loop-terminal-preserved : goal.loop-terminal-preserved
loop-terminal-preserved g c =
    let next = next_terminal c.args.blocks.now c.args.plan.now c.args.terminals.now c.loop-terminal.terminal-index c.terminal-item.result
    (drop c.loop-terminal.place (map (λ b. (goal.Subsystem-dyn g (b.vtable, b.value)).said b.value) c.args.subsystems.now))
    c.loop-terminal-test.true c.terminal-item.is in
    let half = halfway_more _ _ _ _ _ _ _ c.loop-terminal.invariant.lines next c.in_ok-write_terminal.ensures.bytes in
    record {
      lines = rw (c.in_ok-place.ensures.later) (halfway_more _ _ _ _ _ _ _ half refl c.in_ok-place.ensures.bytes);
      place = c.in_ok-place.ensures.next;
      later = omega (arith, c.write_terminal.ensures.cause.later, c.write_subsystem.ensures.cause.later);
    }
