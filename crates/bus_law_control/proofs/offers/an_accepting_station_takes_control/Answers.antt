use Rattle.std.proofs.Common.{suc, ◌+◌, length, refl}
use Rattle.bus_formats.specs.Times.{taking_over}
use Rattle.bus_model.specs.Control.{moment_of, hear_more, so_far, course_after}
use Rattle.bus_law_control.proofs.Accepting.{taking-hears, taking-control, takes-one}
use Rattle.bus_law_control.proofs.offers.an_accepting_station_takes_control.Goals as goal

pub returns : goal.returns
returns _ = record {
  hears = λ k station starts loads outside x past e serves accepted none.
      taking-hears k station starts loads outside x past record { heard = suc (length past); first = e + taking_over } serves
      (takes-one k station starts loads outside (length past)
      (hear_more (so_far k station starts loads outside past).hearing (moment_of x (course_after k station starts loads outside past))) e accepted none);
  holds = λ k station starts loads outside x past e serves accepted none.
      taking-control k station starts loads outside x past record { heard = suc (length past); first = e + taking_over } serves
      (takes-one k station starts loads outside (length past)
      (hear_more (so_far k station starts loads outside past).hearing (moment_of x (course_after k station starts loads outside past))) e accepted none) refl;
}
