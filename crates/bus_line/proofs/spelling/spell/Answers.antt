use Rattle.std.proofs.Common.{◌≢◌, ◌<◌, arith, length, below_more, get_or-set_same, get_or-set_other, length-set, sym, subst, ◌∙◌}
use Rattle.std.proofs.lemmas.List.FromFn.{fill_by_all}
use Rattle.bus_base.specs.declared.samples.Sample.TheVariants.{Quiet}
use Rattle.bus_line.specs.Spelling.{spelled, spelling, Spells}
use Rattle.bus_line.proofs.Spelled.{spelling_spells, spells_only}
use Rattle.bus_line.proofs.spelling.spell.Goals as goal

pub loop-position-preserved : goal.loop-position-preserved
loop-position-preserved c = record {
  forty = simp length-set c.loop-position.invariant.forty;
  done = below_more _ _
      (λ p h. let other : p ≢ c.loop-position.position = omega arith in rw get_or-set_other (c.loop-position.invariant.done p h))
      (let within : c.loop-position.position < length c.loop-position.samples = omega arith in rw get_or-set_same c.sample_at.ensures);
}

pub returns-clause-value : goal.returns-clause-value
unfolding spelling
returns-clause-value c =
    fill_by_all (spelled c.args.word) c.loop-position.samples 40 Quiet c.loop-position.invariant.forty
    (λ k h. c.loop-position.invariant.done k (omega arith))

pub returns-clause-spells : goal.returns-clause-spells
returns-clause-spells c = subst (λ x. Spells c.args.word x) (sym (returns-clause-value c)) (spelling_spells c.args.word (omega arith))

pub returns-clause-only : goal.returns-clause-only
returns-clause-only c samples h = spells_only c.args.word samples h ∙ sym (returns-clause-value c)
