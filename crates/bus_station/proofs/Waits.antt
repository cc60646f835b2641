-- A station that doesn't need each tick, over a tick with which nothing becomes known.
use Rattle.std.proofs.Common.{◌≡◌, ℕ, Bool, true, false, not, ◌||◌, List, ◌∷◌, length, refl, sym, ◌∙◌, subst, if◌then◌else◌}
use Rattle.bus_base.specs.declared.samples.Drive.{Drive}
use Rattle.bus_base.specs.declared.samples.Drive.TheVariants.{Silent}
use Rattle.bus_base.specs.declared.samples.Channel.TheVariants.{A, B}
use Rattle.bus_base.specs.declared.samples.Pair.{Pair}
use Rattle.bus_line.specs.declared.cutter.TheConstants.{LAG}
use Rattle.bus_receiver.specs.Cuts.{CuttersStand}
use Rattle.bus_receiver.specs.Nothing.{are_nothing}
use Rattle.bus_receiver.specs.declared.cutters.Cutters.{Cutters}
use Rattle.bus_receiver.specs.declared.receiver.Moment.{Moment as HeardMoment}
use Rattle.bus_formats.specs.Plans.{StationData}
use Rattle.bus_model.specs.Memory.{TimedLoad}
use Rattle.bus_model.specs.Hearing.{Moment, Hearing, heard_on}
use Rattle.bus_model.specs.Course.{Course}
use Rattle.bus_model.specs.Terminal.{standing}
use Rattle.bus_model.specs.Control.{OutsideTake, moment_of, hear_more, holds_control, hearing_after, drives_next}
use Rattle.bus_terminal.specs.Needs.{BringsNothing}
use Rattle.bus_terminal.specs.Needs as terminal
use Rattle.bus_terminal.specs.TerminalStands.{TerminalKeeps}
use Rattle.bus_terminal.specs.declared.state.TerminalEvent.TheVariants as heards
use Rattle.bus_terminal.proofs.Quiet.{standing-tick}
use Rattle.bus_terminal.proofs.Shows.{state-drives}
use Rattle.bus_terminal.proofs.Waits.{state-waits, state-silent}
use Rattle.bus_controller.specs.ControllerStands.{ControllerKeeps}
use Rattle.bus_controller.specs.Steps as controller
use Rattle.bus_controller.proofs.Serving.{serving-keeps}
use Rattle.bus_controller.proofs.Wholes.{state-serves}
use Rattle.bus_station.specs.Hears.{HeardBy}
use Rattle.bus_station.specs.Listening.{HearsBy, InStep, IsNext}
use Rattle.bus_station.specs.Needs.{needs_each_tick}
use Rattle.bus_station.specs.StationStands.{StationKeeps, AfterTick}
use Rattle.bus_station.specs.declared.event.StationEvent.TheVariants as events
use Rattle.bus_station.specs.declared.station.Station.{Station}
use Rattle.bus_station.proofs.Listening.{step-hears, hears-step}
use Rattle.bus_station.proofs.Serving.{sofar, before, served, served-next}
use Rattle.bus_station.proofs.Shown.{serves}

-- ---- what is known of it

three-off : (a b c : Bool) → (not a || b || c) ≡ false → (a ≡ true) × (b ≡ false) × (c ≡ false)
three-off true false c h = (refl, refl, h)
three-off true true c h = absurd (cc)
three-off false b c h = absurd (cc)

-- it serves, isn't alone, and its terminal doesn't need each tick
pub waits-by : (value : Station) → needs_each_tick value ≡ false →
    (controller.serves value.controller.state ≡ true) × (value.alone ≡ false) × (terminal.needs_each_tick value.terminal ≡ false)
waits-by value waits = three-off (controller.serves value.controller.state) value.alone (terminal.needs_each_tick value.terminal) waits

-- so it has no control
pub waits-off : (station : StationData) (starts : Bool) (loads : List TimedLoad) (outside : List OutsideTake) (value : Station) (past : List Pair) →
    needs_each_tick value ≡ false → StationKeeps LAG station starts loads outside value past → holds_control LAG station starts loads outside past ≡ false
unfolding StationKeeps ControllerKeeps
waits-off station starts loads outside value past waits st =
    let c : Course = before LAG station starts loads outside past in
    serves (controller.serves value.controller.state) c.holds (state-serves LAG c past value.controller.state st.controller.state) (waits-by value waits).0

-- ---- by whose cutters it hears

by-bus : (k : ℕ) (own : Bool) (value : Station) (bus : Cutters) (ticks : List Moment) → own ≡ false → HearsBy k own value bus ticks →
    CuttersStand k bus (heard_on A ticks) (heard_on B ticks)
by-bus k false value bus ticks off st = st
by-bus k true value bus ticks off st = absurd (cc)

bus-by : (k : ℕ) (own : Bool) (value : Station) (bus : Cutters) (ticks : List Moment) → own ≡ false →
    CuttersStand k bus (heard_on A ticks) (heard_on B ticks) → HearsBy k own value bus ticks
bus-by k false value bus ticks off st = st
bus-by k true value bus ticks off st = absurd (cc)

neither : (a b : Bool) → a ≡ false → b ≡ false → (a || b) ≡ false
neither a b none other = rw (none, other) refl

module _ (station : StationData) (starts : Bool) (loads : List TimedLoad) (outside : List OutsideTake) (value : Station) (moment : HeardMoment)
    (past : List Pair) (old new : Cutters) (waits : needs_each_tick value ≡ false) (st : StationKeeps LAG station starts loads outside value past)
    (step : InStep LAG station starts loads outside value old past) (next : IsNext LAG moment old new past) where
  -- the bus's cutters stand for what its terminal heard
  pub waits-hears : CuttersStand LAG old (heard_on A (sofar LAG station starts loads outside past).hearing.ticks)
      (heard_on B (sofar LAG station starts loads outside past).hearing.ticks)
  waits-hears =
      by-bus LAG (holds_control LAG station starts loads outside past || value.alone) value old (sofar LAG station starts loads outside past).hearing.ticks
      (neither (holds_control LAG station starts loads outside past) value.alone (waits-off station starts loads outside value past waits st)
      (waits-by value waits).1) (step-hears LAG station starts loads outside value old past step)

  -- so nothing became known to it
  pub waits-nothing : are_nothing moment.cuts ≡ true →
      BringsNothing LAG (moment_of moment.shown (before LAG station starts loads outside past)) (sofar LAG station starts loads outside past).hearing.ticks
  waits-nothing nothing = record {
    cuts = moment.cuts;
    are = next.hears.tells (heard_on A (sofar LAG station starts loads outside past).hearing.ticks)
        (heard_on B (sofar LAG station starts loads outside past).hearing.ticks) waits-hears;
    nothing = nothing;
  }

-- ---- the tick

module _ (station : StationData) (starts : Bool) (loads : List TimedLoad) (outside : List OutsideTake) (value : Station) (moment : HeardMoment)
    (past : List Pair) (old new : Cutters) (waits : needs_each_tick value ≡ false) (nothing : are_nothing moment.cuts ≡ true)
    (st : StationKeeps LAG station starts loads outside value past) (step : InStep LAG station starts loads outside value old past)
    (next : IsNext LAG moment old new past) where
  -- its terminal is as it was
  terminal-stays : HeardBy LAG station.terminal loads value.terminal heards.Nothing (length past) (sofar LAG station starts loads outside past).hearing
      (moment_of moment.shown (before LAG station starts loads outside past))
  unfolding StationKeeps TerminalKeeps
  terminal-stays =
      let h : Hearing = (sofar LAG station starts loads outside past).hearing in
      let now : Moment = moment_of moment.shown (before LAG station starts loads outside past) in
      let after = state-waits LAG station.terminal loads value.terminal.state now h.ticks (standing LAG station.terminal loads h.memory h.ticks)
      (waits-by value waits).2 st.terminal (waits-nothing station starts loads outside value moment past old new waits st step next nothing) in
      record {
        stands = rw (standing-tick LAG station.terminal loads h.memory now h.ticks) after.state;
        took = after.taken;
        accepted = after.accepted;
      }

  -- it is left as it is, and has nothing to tell
  pub station-waits : AfterTick LAG station starts loads outside value events.Nothing moment.shown past
  unfolding StationKeeps
  station-waits =
      let off = waits-off station starts loads outside value past waits st in
      served LAG station starts loads outside value value heards.Nothing events.Nothing moment.shown past st off terminal-stays.accepted
      (serving-keeps station starts (sofar LAG station starts loads outside past).takes value.controller moment.shown past st.controller off)
      terminal-stays refl refl refl refl

  -- and is in step
  pub station-stays : InStep LAG station starts loads outside value new (moment.shown ∷ past)
  unfolding StationKeeps
  station-stays =
      let off = waits-off station starts loads outside value past waits st in
      let later = served-next LAG station starts loads outside moment.shown past st.taken off terminal-stays.accepted in
      let more : Hearing = hear_more (hearing_after LAG station starts loads outside past) (moment_of moment.shown (before LAG station starts loads outside past)) in
      let stands : CuttersStand LAG new (heard_on A more.ticks) (heard_on B more.ticks) =
      next.hears.stands (heard_on A (sofar LAG station starts loads outside past).hearing.ticks)
      (heard_on B (sofar LAG station starts loads outside past).hearing.ticks)
      (waits-hears station starts loads outside value moment past old new waits st step next) in
      hears-step LAG station starts loads outside value new (moment.shown ∷ past)
      (bus-by LAG (holds_control LAG station starts loads outside (moment.shown ∷ past) || value.alone) value new
      (hearing_after LAG station starts loads outside (moment.shown ∷ past)).ticks
      (neither (holds_control LAG station starts loads outside (moment.shown ∷ past)) value.alone later.1 (waits-by value waits).1)
      (subst (λ (h : Hearing). CuttersStand LAG new (heard_on A h.ticks) (heard_on B h.ticks)) (sym later.0) stands))

-- ---- what it sends

last-of : (b : Bool) (x y : Drive) → b ≡ false → y ≡ Silent → (if b then x else y) ≡ Silent
last-of b x y off silent = rw (off, silent) refl

-- nothing
pub station-silent : (station : StationData) (starts : Bool) (loads : List TimedLoad) (outside : List OutsideTake) (value : Station) (past : List Pair) →
    needs_each_tick value ≡ false → StationKeeps LAG station starts loads outside value past → drives_next LAG station starts loads outside past ≡ Silent
unfolding StationKeeps TerminalKeeps
station-silent station starts loads outside value past waits st =
    let h : Hearing = (sofar LAG station starts loads outside past).hearing in
    last-of (holds_control LAG station starts loads outside past) _ _ (waits-off station starts loads outside value past waits st)
    (sym (state-drives LAG station.terminal loads value.terminal.state h.ticks _ st.terminal) ∙ state-silent value.terminal.state (waits-by value waits).2)
