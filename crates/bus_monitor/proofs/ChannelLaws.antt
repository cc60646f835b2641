-- The bursts of one channel among those of both.
use Rattle.std.proofs.Common.{◌≡◌, ℕ, List, [], ◌∷◌, ◌++◌, length, refl, ◌∙◌, arith}
use Rattle.std.specs.Prelude.{Option, Some, None, option_to_list, filter_map}
use Rattle.std.proofs.lemmas.List.{append-nil}
use Rattle.std.proofs.lemmas.List.Elements.{filter_map-append}
use Rattle.bus_base.specs.declared.samples.Channel.{Channel}
use Rattle.bus_base.specs.declared.samples.Channel.TheVariants.{A, B}
use Rattle.bus_base.specs.declared.samples.Pair.{Pair}
use Rattle.bus_base.specs.declared.samples.Sample.{Sample}
use Rattle.bus_line.specs.Past.{Burst, ended_now}
use Rattle.bus_line.specs.Channels.{on_channel, bursts, burst_of}
use Rattle.bus_monitor.specs.Listings.{burst_on, bursts_on}

-- the ended bursts of one channel
unfoldable pub ended : ℕ → List Sample → List Burst
ended k [] = []
ended k (x ∷ past) = ended k past ++ option_to_list (ended_now k (x ∷ past))

pub length-on_channel : (c : Channel) (past : List Pair) → length (on_channel c past) ≡ length past
length-on_channel c [] = refl
length-on_channel c (shown ∷ past) = let rest : length (on_channel c past) ≡ length past = length-on_channel c past in omega arith

burst-own : (c : Channel) (found : Option Burst) → filter_map (burst_on c) (burst_of c found) ≡ option_to_list found
burst-own c None = refl
burst-own A (Some burst) = refl
burst-own B (Some burst) = refl

burst-other-a : (found : Option Burst) → filter_map (burst_on A) (burst_of B found) ≡ []
burst-other-a None = refl
burst-other-a (Some burst) = refl

burst-other-b : (found : Option Burst) → filter_map (burst_on B) (burst_of A found) ≡ []
burst-other-b None = refl
burst-other-b (Some burst) = refl

pub bursts-channel : (k : ℕ) (c : Channel) (past : List Pair) → bursts_on k c past ≡ ended k (on_channel c past)
unfolding bursts ended
bursts-channel k c [] = refl
bursts-channel k A (shown ∷ past) =
    let found-a : Option Burst = ended_now k (on_channel A (shown ∷ past)) in
    let found-b : Option Burst = ended_now k (on_channel B (shown ∷ past)) in
    filter_map-append (burst_on A) (bursts k past) (burst_of A found-a ++ burst_of B found-b)
    ∙ (rw (bursts-channel k A past, filter_map-append (burst_on A) (burst_of A found-a) (burst_of B found-b), burst-own A found-a, burst-other-a found-b, append-nil) refl)
bursts-channel k B (shown ∷ past) =
    let found-a : Option Burst = ended_now k (on_channel A (shown ∷ past)) in
    let found-b : Option Burst = ended_now k (on_channel B (shown ∷ past)) in
    filter_map-append (burst_on B) (bursts k past) (burst_of A found-a ++ burst_of B found-b)
    ∙ (rw (bursts-channel k B past, filter_map-append (burst_on B) (burst_of A found-a) (burst_of B found-b), burst-own B found-b, burst-other-b found-a) refl)
