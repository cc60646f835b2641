-- A first answer is abandoned, or it isn't.
use Rattle.std.proofs.Common.{◌≡◌, ◌⊎◌, inl, inr, ℕ, List, Option, Some, None, sym, ◌∙◌, subst}
use Rattle.std.proofs.lemmas.Option.{none-some, same_Some}
use Rattle.bus_formats.specs.Plans.{StationData}
use Rattle.bus_model.specs.Endings.{abandoned_at}
use Rattle.bus_model.specs.Message.{Present}
use Rattle.bus_model.specs.Starts.{Entry}
use Rattle.bus_model.specs.Strikes.{burst_end, ShownAnswer}
use Rattle.bus_law_stations.proofs.Resting.{cases-option}
use Rattle.bus_law_phases.specs.Commands.{command_at}
use Rattle.bus_law_phases.specs.Scenarios.{Scenario}
use Rattle.bus_law_told.specs.Told.{answer_shown, IsNotAbandoned}
use Rattle.bus_law_abandoned.specs.Abandoned.{IsAbandoned}

module _ (w : Scenario) (t : ℕ) (holder : StationData) (stations : List Present) (entry : Entry) where
  abbrev gone_in : ShownAnswer → Option ℕ
  gone_in first = abandoned_at w.lag entry.item.kind entry.item.abandon (burst_end (command_at w t t holder entry)) first

  abbrev Either : Type 0
  Either =
      IsNotAbandoned w t holder stations entry ⊎ ((first : ShownAnswer) × (tick : ℕ) × IsAbandoned w t holder stations entry first tick)

  by-first : (first : ShownAnswer) → answer_shown w t holder stations entry ≡ Some first → Either
  by-first first shown = elim (cases-option (gone_in first)) [
    | inl none ↦ inl (λ other is. subst (λ f. gone_in f ≡ None) (same_Some first other (sym shown ∙ is)) none)
    | inr some ↦ inr (first, some.0, record { shown = shown; abandoned = some.1 })
  ]

  pub abandoned-or-not : IsNotAbandoned w t holder stations entry
      ⊎ ((first : ShownAnswer) × (tick : ℕ) × IsAbandoned w t holder stations entry first tick)
  abandoned-or-not = elim (cases-option (answer_shown w t holder stations entry)) [
    | inl none ↦ inl (λ other is. absurd (none-some other (sym none ∙ is)))
    | inr some ↦ by-first some.0 some.1
  ]
