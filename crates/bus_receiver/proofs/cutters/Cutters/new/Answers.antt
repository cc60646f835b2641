use Rattle.bus_receiver.proofs.cutters.Cutters.new.Goals as goal

pub returns : goal.returns
returns c = λ n m. record { a = c.new.ensures.stands n; b = c.new-2.ensures.stands m }
