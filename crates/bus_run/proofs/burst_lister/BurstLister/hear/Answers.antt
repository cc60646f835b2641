use Rattle.std.proofs.Common.{◌≡◌, ◌∷◌, ◌∙◌, ap, sym, arith}
use Rattle.bus_base.specs.declared.samples.Channel.TheVariants.{A, B}
use Rattle.bus_base.specs.declared.samples.Tick.{Tick}
use Rattle.bus_line.specs.Channels.{on_channel}
use Rattle.bus_line.specs.declared.cutter.TheConstants.{LAG}
use Rattle.bus_receiver.specs.declared.receiver.Moment.{Moment}
use Rattle.bus_monitor.proofs.ChannelLaws.{length-on_channel}
use Rattle.bus_run.specs.BurstListers.{burst_on}
use Rattle.bus_run.proofs.burst_lister.BurstLister.hear.Goals as goal

pub hear-a-requires : goal.hear-a-requires
hear-a-requires c =
    let (past, st, is, small) = c.requires in
    let here = ap (λ (t : Tick). t.0) (c.tick-tick.ensures ∙ ap (λ (m : Moment). m.tick) is) in (
      c.args.moment.now.shown.a,
      on_channel A past,
      st.a,
      c.cut.ensures ∙ ap (λ (m : Moment). m.cuts.a) is,
      length-on_channel A past ∙ sym here,
      omega (arith, here, small),
    )

pub hear-b-requires : goal.hear-b-requires
hear-b-requires c =
    let (past, st, is, small) = c.requires in
    let here = ap (λ (t : Tick). t.0) (c.tick-tick.ensures ∙ ap (λ (m : Moment). m.tick) is) in (
      c.args.moment.now.shown.b,
      on_channel B past,
      st.b,
      c.cut-2.ensures ∙ ap (λ (m : Moment). m.cuts.b) is,
      length-on_channel B past ∙ sym here,
      omega (arith, here, small),
    )

pub returns-clause-bursts : goal.returns-clause-bursts
returns-clause-bursts c past st is =
    let here = ap (λ (t : Tick). t.0) (c.tick-tick.ensures ∙ ap (λ (m : Moment). m.tick) is) in
    let a : c.hear-a.result ≡ burst_on LAG A (c.args.moment.now.shown ∷ past) =
    c.hear-a.ensures.told c.args.moment.now.shown.a (on_channel A past) st.a (c.cut.ensures ∙ ap (λ (m : Moment). m.cuts.a) is)
    (length-on_channel A past ∙ sym here) in
    let b : c.hear-b.result ≡ burst_on LAG B (c.args.moment.now.shown ∷ past) =
    c.hear-b.ensures.told c.args.moment.now.shown.b (on_channel B past) st.b (c.cut-2.ensures ∙ ap (λ (m : Moment). m.cuts.b) is)
    (length-on_channel B past ∙ sym here) in
    cc

pub returns-clause-stands : goal.returns-clause-stands
returns-clause-stands c past st is =
    let here = ap (λ (t : Tick). t.0) (c.tick-tick.ensures ∙ ap (λ (m : Moment). m.tick) is) in
    record {
      a = c.hear-a.ensures.stands c.args.moment.now.shown.a (on_channel A past) st.a (c.cut.ensures ∙ ap (λ (m : Moment). m.cuts.a) is)
          (length-on_channel A past ∙ sym here);
      b = c.hear-b.ensures.stands c.args.moment.now.shown.b (on_channel B past) st.b (c.cut-2.ensures ∙ ap (λ (m : Moment). m.cuts.b) is)
          (length-on_channel B past ∙ sym here);
    }
