use Rattle.std.proofs.Common.{◌∙◌, ap, refl}
use Rattle.bus_base.specs.declared.samples.Channel.TheVariants.{A, B}
use Rattle.bus_line.specs.declared.cutter.TheConstants.{LAG}
use Rattle.bus_ears.specs.declared.ear.TheConstants.{MOST_SLOTS}
use Rattle.bus_model.specs.Hearing.{heard_on}
use Rattle.bus_receiver.specs.declared.cutters.Cuts.{Cuts}
use Rattle.bus_terminal.proofs.Heard.{length-heard, ear-lands}
use Rattle.bus_terminal.proofs.common.Ears.listen.Goals as goal

pub hear-a-requires : goal.hear-a-requires
hear-a-requires c =
    let (past, s, st, is, here, small) = c.requires in
    (heard_on A past, s.sent.a, s.addressed.a, st.on_a, ap (λ (x : Cuts). x.a) is, length-heard A past ∙ here, small)

pub hear-b-requires : goal.hear-b-requires
hear-b-requires c =
    let (past, s, st, is, here, small) = c.requires in
    (heard_on B past, s.sent.b, s.addressed.b, st.on_b, ap (λ (x : Cuts). x.b) is, length-heard B past ∙ here, small)

pub returns-clause-stands : goal.returns-clause-stands
returns-clause-stands c = λ terminal past s after moment own_is st is here shown begun. record {
  on_a = ear-lands LAG MOST_SLOTS c.args.own c.args.now terminal past s moment c.args.heard A c.hear-a.new.self c.begins_on-begins_a.result own_is here
      shown (c.begins_on-begins_a.ensures ∙ begun A)
      (c.hear-a.ensures.stands (heard_on A past) s.sent.a s.addressed.a st.on_a (ap (λ (x : Cuts). x.a) is) (length-heard A past ∙ here));
  on_b = ear-lands LAG MOST_SLOTS c.args.own c.args.now terminal past s moment c.args.heard B c.hear-b.new.self c.begins_on-begins_b.result own_is here
      shown (c.begins_on-begins_b.ensures ∙ begun B)
      (c.hear-b.ensures.stands (heard_on B past) s.sent.b s.addressed.b st.on_b (ap (λ (x : Cuts). x.b) is) (length-heard B past ∙ here));
}

pub returns-clause-tells : goal.returns-clause-tells
returns-clause-tells c = λ past s moment st is here shown. record {
  heard_a = rw shown (c.hear-a.ensures.tells (heard_on A past) s.sent.a s.addressed.a st.on_a (ap (λ (x : Cuts). x.a) is) (length-heard A past ∙ here));
  heard_b = rw shown (c.hear-b.ensures.tells (heard_on B past) s.sent.b s.addressed.b st.on_b (ap (λ (x : Cuts). x.b) is) (length-heard B past ∙ here));
  outrun_a = rw (c.is_newer-a_outrun.ensures, c.addressed.ensures _ _ _ _ st.on_b, c.addressed-2.ensures _ _ _ _ st.on_a) refl;
  outrun_b = rw (c.is_newer-b_outrun.ensures, c.addressed-3.ensures _ _ _ _ st.on_a, c.addressed-4.ensures _ _ _ _ st.on_b) refl;
}
