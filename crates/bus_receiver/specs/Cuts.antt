-- What becomes known of both channels with a tick, and for which pasts of them two cutters stand.
use Rattle.std.specs.Prelude.{◌≡◌, ℕ, List, ◌∷◌}
use Rattle.bus_base.specs.declared.samples.Channel.{Channel}
use Rattle.bus_base.specs.declared.samples.Channel.TheVariants.{A, B}
use Rattle.bus_base.specs.declared.samples.Pair.{Pair}
use Rattle.bus_base.specs.declared.samples.Sample.{Sample}
use Rattle.bus_line.specs.Cutting.{CutterStands, cut_now}
use Rattle.bus_line.specs.declared.cutter.Cut.{Cut}
use Rattle.bus_receiver.specs.declared.cutters.Cuts.{Cuts}
use Rattle.bus_receiver.specs.declared.cutters.Cutters.{Cutters}

-- what became known on each channel in its newest tick
abbrev pub cuts_now : ℕ → List Sample → List Sample → Cuts
cuts_now k on_a on_b = record { a = cut_now k on_a; b = cut_now k on_b }

abbrev pub cut_on : Cuts → Channel → Cut
cut_on cuts A = cuts.a
cut_on cuts B = cuts.b

-- each of both cutters stands for what its channel showed
pub record CuttersStand (k : ℕ) (cutters : Cutters) (on_a on_b : List Sample) : Type 0 where
  pub a : CutterStands k cutters.a on_a
  pub b : CutterStands k cutters.b on_b

-- both cutters before and after a tick, and what they told of it: for all that they stood for, that is found in it with this tick, and they
-- stand for it with this tick
pub record CuttersHear (k : ℕ) (before after : Cutters) (shown : Pair) (cuts : Cuts) : Type 0 where
  pub tells : (on_a on_b : List Sample) → CuttersStand k before on_a on_b → cuts ≡ cuts_now k (shown.a ∷ on_a) (shown.b ∷ on_b)
  pub stands : (on_a on_b : List Sample) → CuttersStand k before on_a on_b → CuttersStand k after (shown.a ∷ on_a) (shown.b ∷ on_b)
