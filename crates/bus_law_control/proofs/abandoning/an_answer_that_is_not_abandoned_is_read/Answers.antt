use Rattle.bus_law_control.proofs.Answered.{first-read, first-relayed, second-runs, second-silent, second-read}
use Rattle.bus_law_control.proofs.abandoning.an_answer_that_is_not_abandoned_is_read.Goals as goal

pub returns : goal.returns
returns _ = record {
  first = λ k station starts takes past ticks now begun e burst taken answered w shows kept ended.
      first-read k station starts takes past begun e taken answered w ticks now burst shows kept ended;
  relayed = λ k station starts takes past ticks now begun e burst shape status small taken answered w shows kept ended good second.
      first-relayed k station starts takes past begun e taken answered small w ticks now burst shape status shows kept ended good second;
  runs = λ k station starts takes past ticks begun e taken answered w shows. (
    second-runs k station starts takes past begun e taken answered w ticks shows,
    second-silent k station starts takes past begun e taken answered w ticks shows,
  );
  second = λ k station starts takes past ticks now begun e burst taken answered w shows ended.
      second-read k station starts takes past begun e taken answered w ticks now burst shows ended;
}
