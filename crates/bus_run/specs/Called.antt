-- Which stations of a row are called in a tick with which nothing becomes known.
use Rattle.std.specs.Prelude.{◌≡◌, ℕ, Bool, true, false, List, length, slice_get, Some}
use Rattle.bus_station.specs.Needs.{needs_each_tick}
use Rattle.bus_station.specs.declared.station.Station.{Station}
use Rattle.bus_wire.specs.Places.{AreRising, is_among}

-- these places rise, the stations there are present, and each present station that needs each tick is at one of them
pub record AreCalled (present : List Bool) (stations : List Station) (places : List ℕ) : Type 0 where
  pub rising : AreRising 0 (length stations) places
  pub there : (i : ℕ) → is_among i places ≡ true → slice_get present i ≡ Some true
  pub others : (i : ℕ) (value : Station) → slice_get stations i ≡ Some value → slice_get present i ≡ Some true → is_among i places ≡ false →
      needs_each_tick value ≡ false
