use Rattle.bus_law_readback.proofs.CaptureJudged.{found-clean}
use Rattle.bus_law_readback.proofs.judging.judge_finds_the_capture_of_an_undisturbed_run_clean.Goals as goal

pub returns : goal.returns
returns _ = found-clean
