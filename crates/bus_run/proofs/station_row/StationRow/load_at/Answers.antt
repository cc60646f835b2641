use Rattle.std.proofs.Common.{length, refl}
use Rattle.std.proofs.lemmas.Option.{slice_get_read}
use Rattle.bus_run.proofs.LoadingLaws.{loaded-more}
use Rattle.bus_run.proofs.station_row.StationRow.load_at.Goals as goal

pub returns-clause-loaded : goal.returns-clause-loaded
returns-clause-loaded c first loaded =
    loaded-more c.args.address c.args.sub c.args.words.now first c.args.self.now.stations.items _ c.args.place c.index_mut.result.now c.load_into.new.station
    c.requires.place
    (slice_get_read c.args.self.now.stations.items (length c.args.self.now.stations.items) c.args.place c.index_mut.result.now refl c.requires.place
    c.index_mut.ensures.value) refl c.load_into.ensures loaded
