use Rattle.bus_law_stations.proofs.Commanding.{command-runs, command-sends, command-sent, command-waits}
use Rattle.bus_law_stations.proofs.messages.a_controller_sends_its_command.Goals as goal

pub returns : goal.returns
returns _ = record {
  sends = λ k station starts takes past ticks entry taken begins shows. command-sends k station starts takes past entry taken begins ticks shows;
  runs = λ k station starts takes past ticks first entry taken begins shows. command-runs k station starts takes past entry taken begins ticks first shows;
  sent = λ k station starts takes past ticks now entry burst taken begins shows ended none.
      command-sent k station starts takes past entry taken begins ticks now burst shows ended none;
  waits = λ k station starts takes past ticks now entry burst shape small taken begins shows ended some.
      command-waits k station starts takes past entry taken begins ticks now burst shape small shows ended some;
}
