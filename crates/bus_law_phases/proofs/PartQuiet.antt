-- Both channels have been quiet since a part's end.
use Rattle.std.proofs.Common.{◌≡◌, ℕ, zero, suc, ◌+◌, ◌-◌, ◌<◌, Bool, true, false, List, [], ◌∷◌, ◌++◌, length, refl, sym, ap, ◌∙◌, arith}
use Rattle.std.specs.Prelude.{if◌then◌else◌, get_or, drop}
use Rattle.bus_base.specs.Samples.{sample_on, other_of, is_quiet}
use Rattle.bus_base.specs.declared.samples.Channel.{Channel}
use Rattle.bus_base.specs.declared.samples.Channel.TheVariants.{A, B}
use Rattle.bus_base.specs.declared.samples.Pair.{Pair}
use Rattle.bus_base.specs.declared.samples.Part.{Part}
use Rattle.bus_base.specs.declared.samples.Sample.{Sample}
use Rattle.bus_base.specs.declared.samples.Sample.TheVariants.{Plus, Quiet}
use Rattle.bus_words.specs.declared.word.Word.{Word}
use Rattle.bus_line.specs.Past.{quiet_ticks}
use Rattle.bus_line.specs.Channels.{on_channel, quiet_both}
use Rattle.bus_formats.specs.declared.fault.Hit.{Hit}
use Rattle.bus_law_line.specs.Shown.{first_samples}
use Rattle.bus_law_parts.specs.Parts.{part_ticks, part_sample, HitsFit}
use Rattle.bus_law_parts.proofs.PartBursts.{heard-last, row-tail}

both-by : (c : Channel) (x : Pair) (past : List Pair) (b : Bool) → is_quiet (sample_on x c) ≡ b → is_quiet (sample_on x (other_of c)) ≡ true →
    quiet_both (x ∷ past) ≡ (if b then suc (quiet_both past) else 0)
both-by A x past true own other = rw (own, other) refl
both-by A x past false own other = rw own refl
both-by B x past true own other = rw (other, own) refl
both-by B x past false own other = rw (other, own) refl

-- after a row of samples, the newest of which isn't quiet, come j quiet ticks
row-quiet : (c : Channel) (j : ℕ) (s : Sample) (row : List Sample) (ticks past : List Pair) → is_quiet s ≡ false →
    on_channel c ticks ≡ quiet_ticks j ++ (s ∷ row) → on_channel (other_of c) ticks ≡ quiet_ticks (length ticks) → quiet_both (ticks ++ past) ≡ j
row-quiet c zero s row [] past heard shown quiet = absurd (cc)
row-quiet c (suc j) s row [] past heard shown quiet = absurd (cc)
row-quiet c zero s row (x ∷ ticks) past heard shown quiet =
    both-by c x (ticks ++ past) false (ap (λ xs. is_quiet (get_or xs 0 Quiet)) shown ∙ heard) (ap (λ xs. is_quiet (get_or xs 0 Plus)) quiet)
row-quiet c (suc j) s row (x ∷ ticks) past heard shown quiet =
    both-by c x (ticks ++ past) true (ap (λ xs. is_quiet (get_or xs 0 Plus)) shown) (ap (λ xs. is_quiet (get_or xs 0 Plus)) quiet)
    ∙ ap suc (row-quiet c j s row ticks past heard (ap (λ (xs : List Sample). drop 1 xs) shown) (ap (λ (xs : List Sample). drop 1 xs) quiet))

pub part-quiet : (k : ℕ) (part : Part) (hits : List Hit) (words : List Word) (c : Channel) (ticks past : List Pair) → k ≡ 3 → HitsFit part hits words →
    0 < part_ticks hits words → on_channel c ticks ≡ first_samples (part_sample hits words) (part_ticks hits words + suc k) →
    on_channel (other_of c) ticks ≡ quiet_ticks (length ticks) → quiet_both (ticks ++ past) ≡ suc k
part-quiet k part hits words c ticks past lag fits some shown quiet =
    let n = part_ticks hits words - 1 in
    let is : suc (part_ticks hits words - 1) ≡ part_ticks hits words = omega (arith, some) in
    row-quiet c (suc k) (part_sample hits words n) (first_samples (part_sample hits words) n) ticks past (heard-last k part hits words lag fits n is)
    (shown ∙ row-tail k part hits words lag fits (suc k) ∙ ap (λ i. quiet_ticks (suc k) ++ first_samples (part_sample hits words) i) (sym is)) quiet
