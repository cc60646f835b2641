use Rattle.std.proofs.Common.{refl}
use Rattle.bus_model.specs.Starts.{agenda}
use Rattle.bus_controller.specs.AgendaOf.{IsAgendaOf}
use Rattle.bus_controller.proofs.Wholes.{all-ranges}
use Rattle.bus_controller.proofs.agenda.Agenda.new.Goals as goal

pub returns-clause-whole : goal.returns-clause-whole
unfolding IsAgendaOf agenda
returns-clause-whole c = λ station frames repeat channel. record {
  is = rw (frames, repeat, channel, c.new.ensures) refl;
  ranges = rw c.new.ensures (all-ranges c.args.repeat c.args.frames.items c.requires.ranges);
}
