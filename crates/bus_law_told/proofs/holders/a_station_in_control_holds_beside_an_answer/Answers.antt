use Rattle.bus_law_told.proofs.HoldersAnywhere.{second-ends, second-clear}
use Rattle.bus_law_told.proofs.HoldersBeside.{closed-holds}
use Rattle.bus_law_told.proofs.holders.a_station_in_control_holds_beside_an_answer.Goals as goal

pub returns : goal.returns
returns _ = record {
  second = λ w past holder c begun e burst outcome second so waits reads.
      second-ends w past holder c begun e burst so waits outcome second reads;
  second_clear = λ w past holder c begun e burst second so waits reads. second-clear w past holder c begun e burst so waits second reads;
  closed = closed-holds;
}
