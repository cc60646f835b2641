use Rattle.bus_line.proofs.EndLaws.{end_since-is, end_since-found, end_since-stays, end_since-runs, end_since-ended}
use Rattle.bus_line.proofs.laws.ends_since_a_tick_are_found.Goals as goal

pub returns : goal.returns
returns c = record { found = end_since-is; all = end_since-found; stays = end_since-stays; runs = end_since-runs; ended = end_since-ended }
