use Rattle.std.proofs.Common.{◌≤◌, length, refl, arith}
use Rattle.bus_phase.proofs.RowLaws.{rest_of_front}
use Rattle.bus_phase.proofs.row.Row.tell.Goals as goal

pub returns-clause-rest : goal.returns-clause-rest
returns-clause-rest c =
    let within : c.self.inside.count ≤ length c.self.inside.samples = omega arith in
    rw (← c.self.view_is, c.rotate_left.ensures.after, rest_of_front c.self.inside.count c.self.inside.samples c.if-self-eq0.false within) refl
