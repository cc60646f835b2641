use Rattle.std.proofs.Common.{◌≡◌}
use Rattle.toml.specs.View.{members_view}
use Rattle.bus_plan.specs.Rows.{rows_data}
use Rattle.bus_plan.specs.Rules.{first_member}
use Rattle.bus_plan.proofs.rules.first_member.Given as goal

abbrev pub invariant-members : goal.invariant-members
invariant-members l =
    (goal.iterator-members).can_next l.key-iterator × (goal.iterator-members).is_finite l.key-iterator
    × (first_member l.head l.rule (rows_data l.rows) l.path (members_view l.key-iterator) ≡ first_member l.head l.rule (rows_data l.rows) l.path (members_view l.table.entries))
