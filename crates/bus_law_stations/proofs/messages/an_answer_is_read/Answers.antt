use Rattle.bus_law_stations.proofs.Reading.{answer-runs, answer-silent, first-is-read, first-is-relayed, second-is-read}
use Rattle.bus_law_stations.proofs.messages.an_answer_is_read.Goals as goal

pub returns : goal.returns
returns _ = record {
  runs = λ k station starts takes past ticks begun e taken answered waits shows. (
    answer-runs k station starts takes past begun e taken answered waits ticks shows,
    answer-silent k station starts takes past begun e taken answered waits ticks shows,
  );
  first = λ k station starts takes past ticks now begun e burst taken answered waits shows ended.
      first-is-read k station starts takes past begun e taken answered waits ticks now burst shows ended;
  relayed = λ k station starts takes past ticks now begun e burst shape status small taken answered waits shows ended good second.
      first-is-relayed k station starts takes past begun e taken answered small waits ticks now burst shape status shows ended good second;
  second = λ k station starts takes past ticks now begun e burst taken answered waits shows ended.
      second-is-read k station starts takes past begun e taken answered waits ticks now burst shows ended;
}
