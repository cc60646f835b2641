-- The ticks of words that a station sends, and of the quiet ticks after them: which bursts end in them.
use Rattle.std.proofs.Common.{◌≡◌, ℕ, false, List, [], ◌∷◌, ◌++◌, length, None, refl, ap, ◌∙◌}
use Rattle.std.proofs.lemmas.List.{append-nil}
use Rattle.std.specs.Prelude.{get_or, drop}
use Rattle.bus_base.specs.Samples.{sample_on, other_of}
use Rattle.bus_base.specs.declared.samples.Channel.{Channel}
use Rattle.bus_base.specs.declared.samples.Channel.TheVariants.{A, B}
use Rattle.bus_base.specs.declared.samples.Pair.{Pair}
use Rattle.bus_base.specs.declared.samples.Sample.{Sample}
use Rattle.bus_base.specs.declared.samples.Sample.TheVariants.{Plus, Quiet}
use Rattle.bus_line.specs.Past.{InLeg, quiet_ticks, runs, ended_now}
use Rattle.bus_line.specs.Channels.{on_channel, bursts}
use Rattle.bus_line.proofs.ChannelLaws.{on-append}
use Rattle.bus_law_stations.proofs.LegTicks.{leg-ends-not}
use Rattle.bus_law_stations.proofs.Resting.{rests-quiet, ended-quiet}

-- ---- one tick

-- nothing ends on a channel that is quiet
pub quiet-ends-not : (k : ℕ) (d : Channel) (x : Pair) (ticks past : List Pair) → runs k (on_channel d past) ≡ false →
    on_channel d (x ∷ ticks) ≡ quiet_ticks (length (x ∷ ticks)) → ended_now k (on_channel d (x ∷ (ticks ++ past))) ≡ None
quiet-ends-not k d x ticks past rests quiet =
    let here : sample_on x d ≡ Quiet = ap (λ xs. get_or xs 0 Plus) quiet in
    let before : on_channel d ticks ≡ quiet_ticks (length ticks) = ap (λ (xs : List Sample). drop 1 xs) quiet in
    let whole : on_channel d (ticks ++ past) ≡ quiet_ticks (length ticks) ++ on_channel d past =
    on-append d ticks past ∙ ap (λ xs. xs ++ on_channel d past) before in
    ap (λ y. ended_now k (y ∷ on_channel d (ticks ++ past))) here
    ∙ ended-quiet k (on_channel d (ticks ++ past)) (ap (runs k) whole ∙ rests-quiet k (length ticks) (on_channel d past) rests)

-- nor on one on which a burst runs
leg-goes-on : (k : ℕ) (c : Channel) (x : Pair) (ticks past : List Pair) → InLeg k (on_channel c (x ∷ ticks)) →
    ended_now k (on_channel c (x ∷ (ticks ++ past))) ≡ None
leg-goes-on k c x ticks past leg =
    ap (ended_now k) (on-append c (x ∷ ticks) past) ∙ leg-ends-not k (sample_on x c) (on_channel c ticks) (on_channel c past) leg

none-more : (k : ℕ) (c : Channel) (x : Pair) (past : List Pair) → ended_now k (on_channel c (x ∷ past)) ≡ None →
    ended_now k (on_channel (other_of c) (x ∷ past)) ≡ None → bursts k (x ∷ past) ≡ bursts k past
unfolding bursts
none-more k A x past own other = rw (own, other) (append-nil (bursts k past))
none-more k B x past own other = rw (own, other) (append-nil (bursts k past))

-- ---- the ticks of a burst that runs on one channel, while the other is quiet

pub leg-bursts : (k : ℕ) (c : Channel) (ticks past : List Pair) → runs k (on_channel (other_of c) past) ≡ false → InLeg k (on_channel c ticks) →
    on_channel (other_of c) ticks ≡ quiet_ticks (length ticks) → bursts k (ticks ++ past) ≡ bursts k past
leg-bursts k c [] past rests leg quiet = refl
leg-bursts k c (x ∷ ticks) past rests leg quiet =
    none-more k c x (ticks ++ past) (leg-goes-on k c x ticks past leg) (quiet-ends-not k (other_of c) x ticks past rests quiet)
    ∙ leg-bursts k c ticks past rests leg.2 (ap (λ (xs : List Sample). drop 1 xs) quiet)
