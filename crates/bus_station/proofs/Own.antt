-- A station that hears by its own receiver and its terminal's own cutters.
use Rattle.std.proofs.Common.{◌≡◌, ℕ, Bool, true, ◌||◌, List, [], ◌∷◌, refl, sym, ap, ◌∙◌, subst}
use Rattle.bus_base.specs.declared.samples.Pair.{Pair}
use Rattle.bus_receiver.specs.Cuts.{CuttersHear}
use Rattle.bus_receiver.specs.Moments.{moment_of, ReceiverStands}
use Rattle.bus_receiver.specs.declared.cutters.Cutters.{Cutters}
use Rattle.bus_receiver.specs.declared.receiver.Moment.{Moment as HeardMoment}
use Rattle.bus_receiver.specs.declared.receiver.Receiver.{Receiver}
use Rattle.bus_formats.specs.Plans.{StationData}
use Rattle.bus_model.specs.Memory.{TimedLoad}
use Rattle.bus_model.specs.Control.{OutsideTake, so_far, holds_control, hearing_after}
use Rattle.bus_terminal.specs.TerminalStands.{TerminalKeeps, TerminalHears}
use Rattle.bus_terminal.specs.declared.terminal.Terminal.{Terminal}
use Rattle.bus_model.specs.Course.{Take}
use Rattle.bus_controller.specs.ControllerStands.{ControllerStands, ControllerKeeps}
use Rattle.bus_controller.specs.declared.controller.Controller.{Controller}
use Rattle.bus_controller.proofs.Serving.{keeps-alike}
use Rattle.bus_station.specs.Listening.{HearsBy, InStep, IsNext}
use Rattle.bus_station.specs.StationStands.{StationKeeps, StationStands, HearsItself}
use Rattle.bus_station.specs.declared.event.StationEvent.TheVariants as events
use Rattle.bus_station.specs.declared.station.Station.{Station}
use Rattle.bus_station.proofs.Listening.{hears-own, or-last, hears-step, either-hears}
use Rattle.bus_station.proofs.Serving.{sofar}

-- what is to be known before a tick that it hears by itself
pub record IsReady (k : ℕ) (station : StationData) (starts : Bool) (loads : List TimedLoad) (outside : List OutsideTake) (value : Station) (old : Receiver)
    (moment : HeardMoment) (past : List Pair) : Type 0 where
  pub keeps : StationKeeps k station starts loads outside value past
  pub hears : HearsBy k (holds_control k station starts loads outside past || true) value old.cutters
      (hearing_after k station starts loads outside past).ticks
  pub next : IsNext k moment old.cutters value.controller.receiver.cutters past

-- what its own receiver told of the tick to come
pub own-next : (k : ℕ) (old new : Receiver) (shown : Pair) (moment : HeardMoment) (past : List Pair) → ReceiverStands k old past →
    moment ≡ moment_of k shown past → CuttersHear k old.cutters new.cutters shown moment.cuts → IsNext k moment old.cutters new.cutters past
unfolding ReceiverStands
own-next k old new shown moment past st is hears =
    let same : moment.shown ≡ shown = ap (λ (m : HeardMoment). m.shown) is in
    record {
      is = is ∙ ap (λ (x : Pair). moment_of k x past) (sym same);
      hears = subst (λ (x : Pair). CuttersHear k old.cutters new.cutters x moment.cuts) (sym same) hears;
      stands = st.cutters;
    }

-- its controller keeps what it should, and its receiver stands
pub controls : (k : ℕ) (station : StationData) (starts : Bool) (takes : List Take) (value : Controller) (past : List Pair) →
    ReceiverStands k value.receiver past → ControllerKeeps k station starts takes value past → ControllerStands k station starts takes value past
unfolding ControllerStands
controls k station starts takes value past receiver keeps = (receiver, keeps)

-- the other way
pub controlled : (k : ℕ) (station : StationData) (starts : Bool) (takes : List Take) (value : Controller) (past : List Pair) →
    ControllerStands k station starts takes value past → ReceiverStands k value.receiver past × ControllerKeeps k station starts takes value past
unfolding ControllerStands
controlled k station starts takes value past st = st

module _ (k : ℕ) (station : StationData) (starts : Bool) (loads : List TimedLoad) (outside : List OutsideTake) where
  -- it keeps what it should
  pub stands-keeps : (value : Station) (past : List Pair) → StationStands k station starts loads outside value past →
      StationKeeps k station starts loads outside value past
  unfolding StationStands
  stands-keeps value past st = st.0

  -- and hears by itself
  pub stands-hears : (value : Station) (past : List Pair) → StationStands k station starts loads outside value past →
      HearsItself k value past (sofar k station starts loads outside past)
  unfolding StationStands
  stands-hears value past st = st.1

  -- the other way
  pub both-stand : (value : Station) (past : List Pair) → StationKeeps k station starts loads outside value past →
      HearsItself k value past (sofar k station starts loads outside past) → StationStands k station starts loads outside value past
  unfolding StationStands
  both-stand value past keeps hears = (keeps, hears)

  -- before a tick, whatever the bus has
  pub own-before : (value : Station) (bus : Cutters) (past : List Pair) → TerminalHears k value.terminal (hearing_after k station starts loads outside past).ticks →
      HearsBy k (holds_control k station starts loads outside past || true) value bus (hearing_after k station starts loads outside past).ticks
  own-before value bus past st =
      hears-own k (holds_control k station starts loads outside past || true) value bus (hearing_after k station starts loads outside past).ticks
      (or-last (holds_control k station starts loads outside past) true refl) st

  -- its receiver may have heard more
  pub received : (old new : Station) (past : List Pair) → new.address ≡ old.address → new.terminal ≡ old.terminal → new.taking ≡ old.taking →
      new.controller.state ≡ old.controller.state → StationKeeps k station starts loads outside old past → StationKeeps k station starts loads outside new past
  unfolding StationKeeps
  received old new past address terminal taking state st = record {
    address = address ∙ st.address;
    controller = keeps-alike k station starts (sofar k station starts loads outside past).takes past old.controller new.controller state st.controller;
    terminal = subst (λ (t : Terminal). TerminalKeeps k station.terminal loads t (sofar k station starts loads outside past).hearing) (sym terminal) st.terminal;
    taking = taking ∙ st.taking;
    made = st.made;
    taken = st.taken;
  }

  -- so it is ready once its receiver heard the tick
  pub ready : (old forgot value : Station) (shown : Pair) (moment : HeardMoment) (past : List Pair) → forgot ≡ record old { event = events.Nothing } →
      value ≡ record forgot { controller = value.controller } → value.controller.state ≡ forgot.controller.state →
      ((past : List Pair) → ReceiverStands k forgot.controller.receiver past → moment ≡ moment_of k shown past) →
      CuttersHear k forgot.controller.receiver.cutters value.controller.receiver.cutters shown moment.cuts →
      StationStands k station starts loads outside old past → IsReady k station starts loads outside value forgot.controller.receiver moment past
  ready old forgot value shown moment past forgets is state tells hears st =
      let own = stands-hears old past st in
      let terminal : value.terminal ≡ old.terminal = ap (λ (s : Station). s.terminal) is ∙ ap (λ (s : Station). s.terminal) forgets in
      let receiver : ReceiverStands k forgot.controller.receiver past =
      subst (λ (s : Station). ReceiverStands k s.controller.receiver past) (sym forgets) own.receiver in
      record {
        keeps = received old value past (ap (λ (s : Station). s.address) is ∙ ap (λ (s : Station). s.address) forgets) terminal
            (ap (λ (s : Station). s.taking) is ∙ ap (λ (s : Station). s.taking) forgets)
            (state ∙ ap (λ (s : Station). s.controller.state) forgets) (stands-keeps old past st);
        hears = own-before value forgot.controller.receiver.cutters past
            (subst (λ (t : Terminal). TerminalHears k t (hearing_after k station starts loads outside past).ticks) (sym terminal) own.cutters);
        next = own-next k forgot.controller.receiver value.controller.receiver shown moment past receiver (tells past receiver) hears;
      }

  -- and stands after it
  pub heard : (value : Station) (shown : Pair) (moment : HeardMoment) (past : List Pair) → moment.shown ≡ shown →
      StationKeeps k station starts loads outside value (moment.shown ∷ past) → ReceiverStands k value.controller.receiver (shown ∷ past) →
      TerminalHears k value.terminal (hearing_after k station starts loads outside (moment.shown ∷ past)).ticks →
      StationStands k station starts loads outside value (shown ∷ past)
  heard value shown moment past same keeps receiver hears =
      both-stand value (shown ∷ past) (subst (λ (x : Pair). StationKeeps k station starts loads outside value (x ∷ past)) same keeps) record {
        receiver = receiver;
        cutters = subst (λ (x : Pair). TerminalHears k value.terminal (hearing_after k station starts loads outside (x ∷ past)).ticks) same hears;
      }

-- a station that heard nothing is in step with a receiver that heard nothing
pub begins-step : (k : ℕ) (station : StationData) (starts : Bool) (bus : Receiver) (value : Station) → ReceiverStands k bus [] →
    StationStands k station starts [] [] value [] → InStep k station starts [] [] value bus.cutters []
unfolding StationStands ReceiverStands so_far
begins-step k station starts bus value receives st =
    hears-step k station starts [] [] value bus.cutters []
    (either-hears k (holds_control k station starts [] [] []) value.alone value bus.cutters [] st.1.cutters (λ _ _. receives.cutters))
