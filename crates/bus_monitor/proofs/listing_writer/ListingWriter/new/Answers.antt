use Rattle.std.proofs.Common.{[], refl}
use Rattle.std.proofs.KnownBytes.{Appends-nil}
use Rattle.bus_capture.specs.Readings.{place_after, ticks_in}
use Rattle.bus_monitor.proofs.listing_writer.ListingWriter.new.Goals as goal

pub returns : goal.returns
unfolding place_after ticks_in
returns g c first = record {
  holds = record {
    reader = c.new.ensures;
    going = refl;
    lister = c.requires.stands;
    written = record { done = []; made = c.requires.lines; added = Appends-nil first };
  };
  room = c.requires.room;
}
