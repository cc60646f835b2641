use Rattle.bus_line.proofs.LongestLaws.{burst-longest, longest-burst, burst-alone}
use Rattle.bus_line.proofs.laws.a_burst_is_a_longest_stretch.Goals as goal

pub returns : goal.returns
returns c = record { longest = λ k past p n. (burst-longest k past p n, longest-burst k past p n); alone = burst-alone }
