use Rattle.bus_law_readback.proofs.CaptureRead.{capture-short, capture-read, capture-words}
use Rattle.bus_law_readback.proofs.readback.a_capture_of_a_run_is_decoded_to_its_words.Goals as goal

pub returns : goal.returns
returns _ = record {
  fits = λ plan said accepted. capture-short plan accepted said;
  read = λ plan said accepted. capture-read plan accepted said;
  words = λ plan said accepted. capture-words plan accepted said;
}
