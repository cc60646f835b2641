-- A listing that was done is a judgement that was done, with the number of breaches.
use Rattle.std.proofs.Common.{◌≡◌, ℕ, List, length, reverse, subst, sym}
use Rattle.std.specs.Prelude.{Option}
use Rattle.bus_capture.specs.Readings.{ticks_in}
use Rattle.bus_line.specs.declared.cutter.TheConstants.{LAG}
use Rattle.bus_monitor.specs.Scribes.{IsListed}
use Rattle.bus_monitor.specs.declared.listing.Listing.{Listing}
use Rattle.bus_monitor.specs.declared.listing.Listing.TheVariants as listings
use Rattle.bus_rules.specs.Breaches.{breaches}
use Rattle.bus_rules.specs.JudgeTexts.{known_lines, judge_text}
use Rattle.bus_rules.specs.Judged.{IsJudged}
use Rattle.bus_rules.specs.declared.judgement.Judgement.TheVariants.{Done}

pub judged-done : (before left first held : Option (List ℕ)) (result : Listing) (ticks found : ℕ) → result ≡ listings.Done ticks →
    (l : IsListed (known_lines LAG) (judge_text LAG) before left first held result) → found ≡ length (breaches LAG (ticks_in (reverse l.input))) →
    IsJudged before left first held (Done ticks found)
judged-done before left first held result ticks found is =
    subst (λ r. (l : IsListed (known_lines LAG) (judge_text LAG) before left first held r) → found ≡ length (breaches LAG (ticks_in (reverse l.input))) →
    IsJudged before left first held (Done ticks found)) (sym is) (λ l counted. record { listed = l; counted = counted })
