use Rattle.bus_terminal.proofs.common.Common.tell.Goals as goal

pub returns-clause-listened : goal.returns-clause-listened
returns-clause-listened c = λ terminal before past s moment h. record {
  plan = h.plan;
  memory = h.memory;
  stands = λ left. c.tell.ensures.stands _ _ _ (h.stands left);
}
