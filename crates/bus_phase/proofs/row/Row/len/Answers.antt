use Rattle.std.proofs.Common.{◌≤◌, length, ap, sym, ◌∙◌, arith}
use Rattle.std.proofs.lemmas.List.{length-take-le}
use Rattle.bus_phase.proofs.row.Row.len.Goals as goal

pub returns-clause-count : goal.returns-clause-count
returns-clause-count c =
    let within : c.self.inside.count ≤ length c.self.inside.samples = omega arith in
    sym (ap (λ r. length r.waiting) (sym c.self.view_is) ∙ length-take-le c.self.inside.count c.self.inside.samples within)
