use Rattle.std.proofs.Common.{◌≡◌, ◌*◌, ◌≤◌, take}
use Rattle.bus_subsystem.specs.Deliveries.{words_in as words_of}
use Rattle.bus_subsystem.proofs.recorder.words_in.Given as goal

-- the words of the deliveries so far, at most 32 each
abbrev pub invariant-loop-delivery : goal.invariant-loop-delivery
invariant-loop-delivery l = record {
  words : l.words ≡ words_of (take l.delivery-index l.taken);
  few : l.words ≤ 32 * l.delivery-index;
}
