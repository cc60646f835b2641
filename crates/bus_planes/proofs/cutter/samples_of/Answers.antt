use Rattle.std.proofs.Common.{◌≢◌, ◌<◌, arith, length, below_more, get_or-set_same, get_or-set_other, length-set}
use Rattle.std.proofs.lemmas.List.FromFn.{fill_by_all}
use Rattle.bus_base.specs.declared.samples.Sample.TheVariants.{Quiet}
use Rattle.bus_planes.specs.Still.{sample_in, samples_in}
use Rattle.bus_planes.proofs.cutter.samples_of.Goals as goal

pub loop-place-preserved : goal.loop-place-preserved
loop-place-preserved c = record {
  forty = simp length-set c.loop-place.invariant.forty;
  done = below_more _ _
      (λ p h. let other : p ≢ c.loop-place.place = omega arith in rw get_or-set_other (c.loop-place.invariant.done p h))
      (let within : c.loop-place.place < length c.loop-place.samples = omega arith in rw get_or-set_same c.sample_at.ensures);
}

pub returns : goal.returns
unfolding samples_in
returns c =
    fill_by_all (sample_in c.args.heard c.args.plus) c.loop-place.samples 40 Quiet c.loop-place.invariant.forty
    (λ k h. c.loop-place.invariant.done k (omega arith))
