-- The agenda of a station before its first attempt.
use Rattle.std.specs.Prelude.{◌≡◌, All, None}
use Rattle.bus_formats.specs.Accepted.{HasItemRanges}
use Rattle.bus_formats.specs.Plans.{StationData}
use Rattle.bus_model.specs.Starts.{agenda as items_of_station, first_origin}
use Rattle.bus_controller.specs.Agendas.{AgendaData}

pub record IsWholeAgenda (station : StationData) (agenda : AgendaData) : Type 0 where
  pub is : agenda ≡ record { left = items_of_station station; live = station.channel; retry = None; origin = first_origin }
  pub ranges : All (λ e. HasItemRanges e.item) agenda.left

-- the agenda is that of a station of which no attempt began
unfoldable pub IsAgendaOf : StationData → AgendaData → Type 0
IsAgendaOf station agenda = IsWholeAgenda station agenda
