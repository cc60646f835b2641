use Rattle.std.proofs.Common.{subst}
use Rattle.bus_rules.specs.Breaches.{breach_where}
use Rattle.bus_rules.specs.Stands.{Adds}
use Rattle.bus_rules.specs.declared.breach.Rule.TheVariants.{Word, Long}
use Rattle.bus_rules.proofs.AddLaws.{adds-then}
use Rattle.bus_rules.proofs.breach_text.add_ended.Goals as goal

pub returns-clause-adds : goal.returns-clause-adds
returns-clause-adds c =
    adds-then _ _ _ _ _ _ _
    (subst (λ b. Adds c.args.text.now c.add_where-word.new.text c.add_where-word.result (breach_where b c.args.channel Word c.args.end.first)) c.is_damaged.ensures
    c.add_where-word.ensures.adds)
    (adds-then _ _ _ _ _ _ _
    (subst (λ b. Adds c.add_where-word.new.text c.add_where-long.new.text c.add_where-long.result (breach_where b c.args.channel Long c.args.end.first)) c.is_long.ensures
    c.add_where-long.ensures.adds)
    c.add_taken-taken.ensures.adds)
