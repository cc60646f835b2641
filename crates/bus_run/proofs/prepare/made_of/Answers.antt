use Rattle.std.proofs.Common.{◌∙◌, length, ap, sym, arith, refl}
use Rattle.std.specs.Prelude.{slice_get}
use Rattle.std.proofs.lemmas.Option.{slice_get_read, same_Some}
use Rattle.bus_run.proofs.PrepareLaws.{made-one, made-more}
use Rattle.bus_run.proofs.prepare.made_of.Goals as goal

pub loop-station-preserved : goal.loop-station-preserved
loop-station-preserved c = record {
  all = (let all = c.loop-station.invariant.all in let more = c.in_ok-push.ensures.len in omega (arith, all, more));
  each = λ plan i s value start here at.
      made-more plan c.loop-station.made.items c.push.new.self.items c.args.stations.now c.new.result i s value
      (λ j d v found held. c.loop-station.invariant.each plan j d v start found held)
      (λ d found. made-one plan d c.station-item.result c.in_ok-copied.copied c.args.start c.has_address.result c.new.result c.new.ensures.stands
      c.in_ok-copied.ensures
      (same_Some c.station-item.result d (sym (slice_get_read c.args.stations.now
      (length c.args.stations.now) c.loop-station.station-index c.station-item.result refl
      c.loop-station-test.true c.station-item.is) ∙ ap (slice_get c.args.stations.now) (sym c.loop-station.invariant.all) ∙ found))
      c.has_address.ensures start)
      c.in_ok-push.ensures.items here at;
}
