use Rattle.bus_terminal.proofs.common.Ears.tell.Goals as goal

pub returns-clause-stands : goal.returns-clause-stands
returns-clause-stands c = λ own past s st. record {
  on_a = c.tell.ensures.stands _ _ _ _ st.on_a;
  on_b = c.tell-2.ensures.stands _ _ _ _ st.on_b;
}
