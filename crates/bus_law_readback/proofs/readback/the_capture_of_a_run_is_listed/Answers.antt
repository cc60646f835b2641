use Rattle.bus_law_readback.proofs.CaptureRead.{listing-done, listing-accepted}
use Rattle.bus_law_readback.proofs.readback.the_capture_of_a_run_is_listed.Goals as goal

pub returns : goal.returns
returns _ = record {
  done = λ plan n said left0 left1 held0 held1 accepted. listing-done plan accepted said left0 left1 held0 held1 n;
  accepted = λ plan said left0 left1 held0 held1 refusal accepted. listing-accepted plan accepted said left0 left1 held0 held1 refusal;
}
