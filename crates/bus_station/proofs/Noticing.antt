-- What a station keeps of a tick until it tells it.
use Rattle.std.proofs.Common.{◌≡◌, ℕ, Bool, true, false, List, refl, sym, ap, ◌∙◌, subst}
use Rattle.bus_base.specs.declared.samples.Pair.{Pair}
use Rattle.bus_formats.specs.Plans.{StationData}
use Rattle.bus_model.specs.Memory.{TimedLoad}
use Rattle.bus_model.specs.Control.{OutsideTake}
use Rattle.bus_station.specs.Told.{attempts_told, delivery_told}
use Rattle.bus_station.specs.Noticed.{noticed, is_event}
use Rattle.bus_station.specs.StationStands.{StationKeeps, AfterTick, AfterNotice}
use Rattle.bus_station.specs.declared.event.StationEvent.{StationEvent}
use Rattle.bus_station.specs.declared.event.StationEvent.TheVariants as events
use Rattle.bus_station.specs.declared.station.Station.{Station}

-- where something is noticed it is kept, and where nothing is, nothing stays that is to be told
noted : (answer : Bool) (event before : StationEvent) → (answer ≡ true → is_event event ≡ true) → (answer ≡ false → event ≡ before) →
    before ≡ events.Nothing → (noticed answer event ≡ event) × (answer ≡ is_event event)
noted true event before some none told = (refl, sym (some refl))
noted false event before some none told = (let is : event ≡ events.Nothing = none refl ∙ told in (sym is, sym (ap is_event is)))

-- a station stands whatever it has to tell
pub forgotten : (k : ℕ) (station : StationData) (starts : Bool) (loads : List TimedLoad) (outside : List OutsideTake) (old new : Station) (past : List Pair) →
    new ≡ record old { event = events.Nothing } → StationKeeps k station starts loads outside old past →
    StationKeeps k station starts loads outside new past
unfolding StationKeeps
forgotten k station starts loads outside old new past is st =
    subst (λ (value : Station). StationKeeps k station starts loads outside value past) (sym is) record {
      address = st.address;
      controller = st.controller;
      terminal = st.terminal;
      taking = st.taking;
      made = st.made;
      taken = st.taken;
    }

-- after a tick before which it had nothing to tell it keeps what is to be told of that tick
pub notices-newest : (k : ℕ) (station : StationData) (starts : Bool) (loads : List TimedLoad) (outside : List OutsideTake) (old value : Station)
    (answer : Bool) (shown : Pair) (past : List Pair) → old.event ≡ events.Nothing →
    AfterTick k station starts loads outside value (noticed answer value.event) shown past →
    (answer ≡ true → is_event value.event ≡ true) → (answer ≡ false → value.event ≡ old.event) →
    AfterNotice k station starts loads outside value answer shown past
notices-newest k station starts loads outside old value answer shown past told after some none =
    let is = noted answer value.event old.event some none told in
    record {
      stands = after.stands;
      ended = after.ended;
      took = after.took;
      keeps = record { ended = sym (ap attempts_told is.0) ∙ after.ended; took = sym (ap delivery_told is.0) ∙ after.took };
      some = is.1;
    }
