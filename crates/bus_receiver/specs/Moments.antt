-- What becomes known with each tick, and for which pasts a receiver stands.
use Rattle.std.specs.Prelude.{◌≡◌, ℕ, suc, List, ◌∷◌, length}
use Rattle.bus_base.specs.declared.samples.Channel.TheVariants.{A, B}
use Rattle.bus_base.specs.declared.samples.Pair.{Pair}
use Rattle.bus_line.specs.Channels.{on_channel, quiet_both}
use Rattle.bus_receiver.specs.Cuts.{cuts_now, CuttersStand}
use Rattle.bus_receiver.specs.declared.receiver.Moment.{Moment}
use Rattle.bus_receiver.specs.declared.receiver.Receiver.{Receiver}

-- the newest tick of a past
abbrev pub moment_of : ℕ → Pair → List Pair → Moment
moment_of k shown past = record {
  tick = record { 0 = length past };
  next = record { 0 = suc (length past) };
  shown = shown;
  cuts = cuts_now k (on_channel A (shown ∷ past)) (on_channel B (shown ∷ past));
  before = quiet_both past;
  quiet = quiet_both (shown ∷ past);
}

pub record Listens (k : ℕ) (receiver : Receiver) (past : List Pair) : Type 0 where
  pub cutters : CuttersStand k receiver.cutters (on_channel A past) (on_channel B past)
  pub next : receiver.next ≡ length past
  pub quiet : receiver.quiet ≡ quiet_both past

-- the receiver stands for the past
unfoldable pub ReceiverStands : ℕ → Receiver → List Pair → Type 0
ReceiverStands k receiver past = Listens k receiver past
