use Rattle.std.proofs.Common.{refl}
use Rattle.bus_receiver.proofs.cutters.Cutters.hear.Goals as goal

pub hear-a-requires : goal.hear-a-requires
hear-a-requires c = let (on_a, on_b, st, few_a, few_b) = c.requires in (on_a, st.a, few_a)

pub hear-b-requires : goal.hear-b-requires
hear-b-requires c = let (on_a, on_b, st, few_a, few_b) = c.requires in (on_b, st.b, few_b)

pub returns : goal.returns
returns c = record {
  tells = λ on_a on_b st. rw (c.hear-a.ensures.cut on_a st.a, c.hear-b.ensures.cut on_b st.b) refl;
  stands = λ on_a on_b st. record { a = c.hear-a.ensures.stands on_a st.a; b = c.hear-b.ensures.stands on_b st.b };
}
