-- A quiet channel on which no burst runs doesn't count.
use Rattle.std.proofs.Common.{◌≡◌, inr, ℕ, false, List, [], ◌∷◌, ◌++◌, length, get_or, drop, None, sym, ap, ◌∙◌}
use Rattle.std.proofs.lemmas.Option.{none-some}
use Rattle.bus_base.specs.Samples.{sample_on}
use Rattle.bus_base.specs.declared.samples.Channel.{Channel}
use Rattle.bus_base.specs.declared.samples.Sample.{Sample}
use Rattle.bus_base.specs.declared.samples.Sample.TheVariants.{Plus, Quiet}
use Rattle.bus_line.specs.Past.{quiet_ticks, runs, ended_now, slot_now}
use Rattle.bus_formats.specs.Plans.{TerminalData}
use Rattle.bus_model.specs.Hearing.{Moment, heard_on, is_addressed}
use Rattle.bus_model.specs.Standing.{Standing}
use Rattle.bus_law_stations.specs.Legs.{AreUnheeded}
use Rattle.bus_law_stations.proofs.Resting.{rests-quiet, ended-quiet}
use Rattle.bus_law_stations.proofs.LegTicks.{heard-append}

pub quiet-unheeded : (k : ℕ) (t : TerminalData) (s : Standing) (c : Channel) (heard ticks : List Moment) → runs k (heard_on c heard) ≡ false →
    heard_on c ticks ≡ quiet_ticks (length ticks) → AreUnheeded k t s c heard ticks
quiet-unheeded k t s c heard [] rests quiet = tt
quiet-unheeded k t s c heard (now ∷ ticks) rests quiet =
    let past = heard_on c (ticks ++ heard) in
    let here : sample_on now.shown c ≡ Quiet = ap (λ xs. get_or xs 0 Plus) quiet in
    let before : heard_on c ticks ≡ quiet_ticks (length ticks) = ap (λ (xs : List Sample). drop 1 xs) quiet in
    let whole : heard_on c (ticks ++ heard) ≡ quiet_ticks (length ticks) ++ heard_on c heard =
    heard-append c ticks heard ∙ ap (λ xs. xs ++ heard_on c heard) before in
    let still : runs k (heard_on c (ticks ++ heard)) ≡ false = ap (runs k) whole ∙ rests-quiet k (length ticks) (heard_on c heard) rests in
    let ended : ended_now k (heard_on c (now ∷ (ticks ++ heard))) ≡ None = ap (λ x. ended_now k (x ∷ past)) here ∙ ended-quiet k past still in (
      inr (ap (λ x. is_addressed t.address (slot_now k (x ∷ past))) here, λ burst is. absurd (none-some burst (sym ended ∙ is))),
      quiet-unheeded k t s c heard ticks rests before,
    )
