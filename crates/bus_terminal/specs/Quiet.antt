-- Quiet ticks.
use Rattle.std.specs.Prelude.{ℕ, zero, suc, false, List, [], ◌∷◌}
use Rattle.bus_base.specs.declared.samples.Sample.TheVariants.{Quiet}
use Rattle.bus_model.specs.Hearing.{Moment}

-- so many ticks in which both channels were quiet
abbrev pub quiet_moment : Moment
quiet_moment = record { shown = record { a = Quiet; b = Quiet }; has_items = false }

abbrev pub quiet_moments : ℕ → List Moment
quiet_moments zero = []
quiet_moments (suc n) = quiet_moment ∷ quiet_moments n
