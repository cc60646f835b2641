use Rattle.std.proofs.Common.{◌≡◌}
use Rattle.bus_run.specs.Loading.{AreLoaded}
use Rattle.bus_run.proofs.station_row.StationRow.load.Given as goal

-- the stations before the place took the load
abbrev pub invariant-loop-place : goal.invariant-loop-place
invariant-loop-place l = record {
  loaded : AreLoaded l.address l.sub l.words l.place l.fn.self.stations.items l.self.stations.items;
  present : l.self.present ≡ l.fn.self.present;
  attempts : l.self.attempts ≡ l.fn.self.attempts;
  objects : l.self.objects ≡ l.fn.self.objects;
  delivering : l.self.delivering ≡ l.fn.self.delivering;
  taken : l.self.taken ≡ l.fn.self.taken;
  receiver : l.self.receiver ≡ l.fn.self.receiver;
}
