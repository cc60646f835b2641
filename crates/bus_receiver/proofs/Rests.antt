-- Channels at rest: one cutter stands for all pasts after which no burst runs.
use Rattle.std.proofs.Common.{◌≡◌, ℕ, ◌<◌, ◌≤◌, true, false, ◌&&◌, List, [], ◌∷◌, inl, inr, refl, sym, ◌∙◌, arith}
use Rattle.std.specs.Prelude.{nat_le}
use Rattle.std.proofs.lemmas.Bool.{cases_Bool}
use Rattle.std.proofs.lemmas.Bool.Decides.{nat_tests}
use Rattle.bus_base.specs.Samples.{is_quiet, sample_on}
use Rattle.bus_base.specs.declared.samples.Channel.{Channel}
use Rattle.bus_base.specs.declared.samples.Channel.TheVariants.{A, B}
use Rattle.bus_base.specs.declared.samples.Pair.{Pair}
use Rattle.bus_base.specs.declared.samples.Sample.{Sample}
use Rattle.bus_base.specs.declared.samples.Sample.TheVariants.{Plus, Minus, Quiet}
use Rattle.bus_line.specs.Past.{runs, quiet}
use Rattle.bus_line.specs.Channels.{on_channel, quiet_both, both_quiet}
use Rattle.bus_line.specs.Cutting.{Follows, CutterStands}
use Rattle.bus_line.specs.declared.cutter.Cutter.{Cutter}
use Rattle.bus_line.proofs.CutLaws.{quiet-alone-rests}
use Rattle.bus_receiver.specs.Cuts.{CuttersStand}
use Rattle.bus_receiver.specs.declared.cutters.Cutters.{Cutters}

-- where no burst runs a cutter is past its lag
over-lag : (k : ℕ) (cutter : Cutter) (past : List Sample) → Follows k cutter past → runs k past ≡ false → k < cutter.quiet
over-lag k cutter past st none = let test : nat_le cutter.quiet k ≡ false = st.runs ∙ none in grind (arith, nat_tests, test)

-- so it follows every past after which none runs
follows-all : (k : ℕ) (cutter : Cutter) (past other : List Sample) → Follows k cutter past → runs k past ≡ false → runs k other ≡ false →
    Follows k cutter other
follows-all k cutter past other st none rests =
    let over : k < cutter.quiet = over-lag k cutter past st none in
    record {
      forty = st.forty;
      short = st.short;
      runs = st.runs ∙ none ∙ sym rests;
      within = st.within;
      quiet = λ low. absurd (omega (arith, over, low));
      here = λ low. absurd (omega (arith, over, low));
      kept = λ low. absurd (omega (arith, over, low));
    }

-- and stands for it
pub stands-for-all : (k : ℕ) (cutter : Cutter) (past other : List Sample) → CutterStands k cutter past → runs k past ≡ false → runs k other ≡ false →
    CutterStands k cutter other
unfolding CutterStands
stands-for-all k cutter past other st none rests = follows-all k cutter past other st none rests

-- so do both
pub both-for-all : (k : ℕ) (cutters : Cutters) (on_a on_b other_a other_b : List Sample) → CuttersStand k cutters on_a on_b →
    runs k on_a ≡ false → runs k on_b ≡ false → runs k other_a ≡ false → runs k other_b ≡ false → CuttersStand k cutters other_a other_b
both-for-all k cutters on_a on_b other_a other_b st none_a none_b rests_a rests_b = record {
  a = stands-for-all k cutters.a on_a other_a st.a none_a rests_a;
  b = stands-for-all k cutters.b on_b other_b st.b none_b rests_b;
}

-- where both samples are quiet each is
both-parts : (x y : Sample) → (is_quiet x && is_quiet y) ≡ true → (x ≡ Quiet) × (y ≡ Quiet)
both-parts Quiet Quiet q = (refl, refl)
both-parts Plus y q = absurd (cc)
both-parts Minus y q = absurd (cc)
both-parts Quiet Plus q = absurd (cc)
both-parts Quiet Minus q = absurd (cc)

-- and so is that of a channel
quiet-sample : (c : Channel) (shown : Pair) → both_quiet shown ≡ true → sample_on shown c ≡ Quiet
quiet-sample A shown q = (both-parts shown.a shown.b q).0
quiet-sample B shown q = (both-parts shown.a shown.b q).1

-- each channel was quiet for as long as both were
quiet-each : (c : Channel) (past : List Pair) → quiet_both past ≤ quiet (on_channel c past)
quiet-each c [] = omega arith
quiet-each c (shown ∷ past) = elim (cases_Bool (both_quiet shown)) [
  | inl q ↦ (let rest : quiet_both past ≤ quiet (on_channel c past) = quiet-each c past in rw (q, quiet-sample c shown q) (omega (arith, rest)))
  | inr p ↦ rw p (omega arith)
]

-- so no burst runs after more than k quiet ticks of both
pub quiet-rests : (k : ℕ) (c : Channel) (past : List Pair) → k < quiet_both past → runs k (on_channel c past) ≡ false
quiet-rests k c past long =
    quiet-alone-rests k (on_channel c past) (inl (let each : quiet_both past ≤ quiet (on_channel c past) = quiet-each c past in omega (arith, long, each)))
