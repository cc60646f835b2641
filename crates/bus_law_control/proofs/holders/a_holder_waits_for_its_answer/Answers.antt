use Rattle.bus_law_control.proofs.SilentHolder.{waits-silent, first-shown, second-shown}
use Rattle.bus_law_control.proofs.holders.a_holder_waits_for_its_answer.Goals as goal

pub returns : goal.returns
returns _ = record {
  silent = λ k station starts loads outside past ticks begun e holds runs w still early.
      waits-silent k station starts loads outside past holds begun runs e w ticks still early;
  first = λ k station starts loads outside past ticks begun e holds runs prompt w shows kept.
      first-shown k station starts loads outside past holds begun runs e prompt w ticks shows kept;
  second = λ k station starts loads outside past ticks begun e holds runs prompt w shows.
      second-shown k station starts loads outside past holds begun runs e prompt w ticks shows;
}
