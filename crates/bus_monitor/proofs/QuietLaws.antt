-- Quiet ticks at once: what they leave of what is heard, and that they complete no line of a word.
use Rattle.std.proofs.Common.{◌≡◌, ℕ, zero, suc, ◌+◌, List, ◌∷◌, ◌++◌, length, refl, ap, ◌∙◌, arith}
use Rattle.std.specs.Prelude.{Bool, true, false, ◌&&◌}
use Rattle.std.proofs.lemmas.List.{append-nil}
use Rattle.bus_base.specs.declared.samples.Sample.TheVariants.{Quiet}
use Rattle.bus_base.specs.declared.samples.Channel.{Channel}
use Rattle.bus_base.specs.declared.samples.Channel.TheVariants.{A, B}
use Rattle.bus_base.specs.declared.samples.Pair.{Pair}
use Rattle.bus_base.specs.Samples.{quiet_pairs}
use Rattle.bus_line.specs.Past.{quiet_ticks}
use Rattle.bus_line.specs.Channels.{on_channel}
use Rattle.bus_planes.specs.Cutting.{BitCutterStands}
use Rattle.bus_planes.specs.declared.cutter.BitCutter.{BitCutter}
use Rattle.bus_line.specs.declared.cutter.TheConstants.{LAG}
use Rattle.bus_planes.specs.Still.{rests}
use Rattle.bus_planes.proofs.CutLaws.{stands-quiet}
use Rattle.bus_planes.proofs.StillLaws.{stands-rests}
use Rattle.bus_monitor.specs.Listers.{WordListerStands}
use Rattle.bus_monitor.specs.Progress.{word_lines}
use Rattle.bus_monitor.specs.declared.word_lister.WordLister.{WordLister}
use Rattle.bus_monitor.proofs.LineLaws.{words-grow}

-- ---- what is heard

-- on each channel they are quiet ticks
pub on-quiet : (c : Channel) (n : ℕ) (past : List Pair) → on_channel c (quiet_pairs n ++ past) ≡ quiet_ticks n ++ on_channel c past
on-quiet c zero past = refl
on-quiet A (suc n) past = ap (λ xs. Quiet ∷ xs) (on-quiet A n past)
on-quiet B (suc n) past = ap (λ xs. Quiet ∷ xs) (on-quiet B n past)

pub long-more : (n : ℕ) (past : List Pair) → length (quiet_pairs n ++ past) ≡ n + length past
long-more zero past = omega arith
long-more (suc n) past = let rest : length (quiet_pairs n ++ past) ≡ n + length past = long-more n past in omega arith

-- ---- the lister of words

-- cutters that heard a tick, with the tick counted
pub lister-hears : (lister : WordLister) (a b : BitCutter) (shown : Pair) (past : List Pair) → WordListerStands lister past →
    BitCutterStands LAG a (shown.a ∷ on_channel A past) → BitCutterStands LAG b (shown.b ∷ on_channel B past) →
    WordListerStands record { a = a; b = b; ticks = lister.ticks + 1 } (shown ∷ past)
lister-hears lister a b shown past s heard-a heard-b =
    let ticks : lister.ticks ≡ length past = s.ticks in
    record { a = heard-a; b = heard-b; ticks = omega (arith, ticks) }

both-rest : (a b : Bool) → (a && b) ≡ true → (a ≡ true) × (b ≡ true)
both-rest true b is = (refl, is)
both-rest false b is = absurd (cc)

-- quiet ticks at once
pub lister-skips : (lister : WordLister) (n : ℕ) (past : List Pair) → (rests LAG lister.a && rests LAG lister.b) ≡ true → WordListerStands lister past →
    WordListerStands (record lister { ticks = lister.ticks + n }) (quiet_pairs n ++ past)
lister-skips lister n past idle s =
    let long : length (quiet_pairs n ++ past) ≡ n + length past = long-more n past in
    let ticks : lister.ticks ≡ length past = s.ticks in
    let wait = both-rest (rests LAG lister.a) (rests LAG lister.b) idle in
    record {
      a = rw (on-quiet A n past) (stands-quiet LAG lister.a (on_channel A past) n (stands-rests LAG lister.a (on_channel A past) s.a wait.0) s.a);
      b = rw (on-quiet B n past) (stands-quiet LAG lister.b (on_channel B past) n (stands-rests LAG lister.b (on_channel B past) s.b wait.1) s.b);
      ticks = omega (arith, ticks, long);
    }

-- no word ends in a quiet tick
pub words-quiet : (k n : ℕ) (past : List Pair) → word_lines k (quiet_pairs n ++ past) ≡ word_lines k past
words-quiet k zero past = refl
words-quiet k (suc n) past =
    words-grow k record { a = Quiet; b = Quiet } (quiet_pairs n ++ past) ∙ append-nil (word_lines k (quiet_pairs n ++ past)) ∙ words-quiet k n past
