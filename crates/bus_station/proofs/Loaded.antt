-- A station with one load more stands for the loads with it.
use Rattle.std.proofs.Common.{◌≡◌, ℕ, suc, Bool, ◌||◌, if◌then◌else◌, List, ◌∷◌, length, refl, sym, ap, ◌∙◌, subst, arith, inl, inr}
use Rattle.bus_base.specs.declared.samples.Channel.TheVariants.{A, B}
use Rattle.bus_base.specs.declared.samples.Pair.{Pair}
use Rattle.bus_receiver.specs.Cuts.{CuttersStand}
use Rattle.bus_receiver.specs.declared.cutters.Cutters.{Cutters}
use Rattle.bus_formats.specs.Plans.{StationData}
use Rattle.bus_model.specs.Memory.{Memory, TimedLoad, with_loads, load_block}
use Rattle.bus_model.specs.Hearing.{Moment, Hearing, heard_on}
use Rattle.bus_model.specs.Course.{Take, course}
use Rattle.bus_model.specs.Control.{OutsideTake, StationSoFar}
use Rattle.bus_terminal.specs.TerminalStands.{TerminalKeeps}
use Rattle.bus_terminal.specs.declared.terminal.Terminal.{Terminal}
use Rattle.bus_controller.specs.ControllerStands.{ControllerKeeps}
use Rattle.bus_controller.specs.declared.controller.Controller.{Controller}
use Rattle.bus_station.specs.Listening.{cutters_by, InStep}
use Rattle.bus_station.specs.Roles.{tick_of}
use Rattle.bus_station.specs.StationStands.{Stands, StationKeeps, taking_of}
use Rattle.bus_station.specs.declared.station.Station.{Station}
use Rattle.bus_station.proofs.SoFar.{keeps}
use Rattle.bus_station.proofs.Serving.{sofar}
use Rattle.bus_station.proofs.LoadsMade.{made-load, made-append, swallowed}
use Rattle.bus_station.proofs.Loading.{Loads, IsLoaded, loaded-ticks, other-memory, now-load, with-load}

-- the terminal of a station that is loaded stands for what it heard
terminal-loaded : (k : ℕ) (station : StationData) (loads : List TimedLoad) (sub n : ℕ) (words : List ℕ) (old new : Terminal) (s loaded : StationSoFar) →
    IsLoaded n sub words s loaded → length s.hearing.ticks ≡ suc n → Loads k station.terminal loads sub words old new →
    TerminalKeeps k station.terminal loads old s.hearing →
    TerminalKeeps k station.terminal (with-load loads record { tick = n; address = station.terminal.address; sub = sub; words = words }) new loaded.hearing
terminal-loaded k station loads sub n words old new s loaded is long loads_it st =
    let load : TimedLoad = record { tick = n; address = station.terminal.address; sub = sub; words = words } in
    let heard : TerminalKeeps k station.terminal (with-load loads load) new s.hearing =
    loaded-ticks k station.terminal loads sub words old new n s.hearing.memory s.hearing.ticks loads_it long st in
    elim is.hearing [
      | inl same ↦ subst (λ (h : Hearing). TerminalKeeps k station.terminal (with-load loads load) new h) (sym same) heard
      | inr (rests, now) ↦ (
          let memory : Memory = s.hearing.memory in
          let same : with_loads station.terminal.address (suc n) (with-load loads load)
          (load_block memory sub words) ≡ with_loads station.terminal.address (suc n) (with-load loads load) memory =
          made-load station.terminal.address (suc n) loads load (load_block memory sub words) refl (omega arith)
          ∙ swallowed station.terminal.address (suc n) loads sub words memory
          ∙ sym (made-load station.terminal.address (suc n) loads load memory refl (omega arith)) in
          subst (λ (h : Hearing). TerminalKeeps k station.terminal (with-load loads load) new h) (sym now)
          (other-memory k station.terminal (with-load loads load) new (suc n) memory (load_block memory sub words) same
          (subst (λ (ticks : List Moment). TerminalKeeps k station.terminal (with-load loads load) new
          (record { memory = memory; ticks = ticks })) rests heard)))
    ]

-- a load changes the terminal alone
pub loaded-stands : (k : ℕ) (station : StationData) (starts : Bool) (loads : List TimedLoad) (outside : List OutsideTake) (old new : Station) (x : Pair)
    (past : List Pair) (sub : ℕ) (words : List ℕ) →
    Stands k station starts loads outside old (x ∷ past) (sofar k station starts loads outside (x ∷ past)) → new.address ≡ old.address →
    new.taking ≡ old.taking → new.controller ≡ old.controller →
    Loads k station.terminal loads sub words old.terminal new.terminal →
    StationKeeps k station starts (with-load loads record { tick = length past; address = station.terminal.address; sub = sub; words = words }) outside
    new (x ∷ past)
unfolding StationKeeps
loaded-stands k station starts loads outside old new x past sub words st address taking controller loads_it =
    let load : TimedLoad = record { tick = length past; address = station.terminal.address; sub = sub; words = words } in
    let is : IsLoaded (length past) sub words (sofar k station starts loads outside (x ∷ past)) (sofar k station starts (with-load loads load) outside
    (x ∷ past)) =
    now-load k station starts loads outside load x past refl refl in
    record {
      address = address ∙ st.address;
      controller = subst (λ (takes : List Take). ControllerKeeps k station starts takes new.controller (x ∷ past)) (sym is.takes)
          (subst (λ (value : Controller). ControllerKeeps k station starts (sofar k station starts loads outside (x ∷ past)).takes value (x ∷ past))
          (sym controller) st.controller);
      terminal = terminal-loaded k station loads sub (length past) words old.terminal new.terminal _ _ is
          (keeps k station starts loads outside (x ∷ past)).long loads_it st.terminal;
      taking = taking ∙ st.taking ∙ ap (λ (takes : List Take). tick_of (taking_of (suc (length past)) (course k station starts takes (x ∷ past))))
          (sym is.takes);
      made = made-append station.terminal.address (suc (length past)) loads load st.made (omega arith);
      taken = st.taken;
    }

-- what its terminal heard stays
pub loaded-hears : (k : ℕ) (station : StationData) (starts : Bool) (loads : List TimedLoad) (outside : List OutsideTake) (x : Pair) (past : List Pair)
    (sub : ℕ) (words : List ℕ) →
    (sofar k station starts (with-load loads record { tick = length past; address = station.terminal.address; sub = sub; words = words }) outside
    (x ∷ past)).hearing.ticks
    ≡ (sofar k station starts loads outside (x ∷ past)).hearing.ticks
loaded-hears k station starts loads outside x past sub words =
    let load : TimedLoad = record { tick = length past; address = station.terminal.address; sub = sub; words = words } in
    let is : IsLoaded (length past) sub words (sofar k station starts loads outside (x ∷ past)) (sofar k station starts (with-load loads load) outside
    (x ∷ past)) =
    now-load k station starts loads outside load x past refl refl in
    elim is.hearing [
      | inl same ↦ ap (λ (h : Hearing). h.ticks) same
      | inr (rests, now) ↦ ap (λ (h : Hearing). h.ticks) now ∙ sym rests
    ]

-- a load leaves it in step with the cutters of a bus
pub loaded-step : (k : ℕ) (station : StationData) (starts : Bool) (loads : List TimedLoad) (outside : List OutsideTake) (old new : Station) (bus : Cutters)
    (x : Pair) (past : List Pair) (sub : ℕ) (words : List ℕ) → new.alone ≡ old.alone → new.terminal.cutters ≡ old.terminal.cutters →
    InStep k station starts loads outside old bus (x ∷ past) →
    InStep k station starts (with-load loads record { tick = length past; address = station.terminal.address; sub = sub; words = words }) outside new bus
    (x ∷ past)
unfolding InStep
loaded-step k station starts loads outside old new bus x past sub words alone cutters st =
    let load : TimedLoad = record { tick = length past; address = station.terminal.address; sub = sub; words = words } in
    let s : StationSoFar = sofar k station starts loads outside (x ∷ past) in
    let more : StationSoFar = sofar k station starts (with-load loads load) outside (x ∷ past) in
    let is : IsLoaded (length past) sub words s more = now-load k station starts loads outside load x past refl refl in
    let holds : (course k station starts s.takes (x ∷ past)).holds ≡ (course k station starts more.takes (x ∷ past)).holds =
    ap (λ (takes : List Take). (course k station starts takes (x ∷ past)).holds) (sym is.takes) in
    let same : cutters_by ((course k station starts s.takes (x ∷ past)).holds || old.alone) old bus
    ≡ cutters_by ((course k station starts more.takes (x ∷ past)).holds || new.alone) new bus =
    ap (λ (h : Bool). cutters_by (h || old.alone) old bus) holds
    ∙ ap (λ (a : Bool). cutters_by ((course k station starts more.takes (x ∷ past)).holds || a) old bus) (sym alone)
    ∙ ap (λ (own : Cutters). if (course k station starts more.takes (x ∷ past)).holds || new.alone then own else bus) (sym cutters) in
    subst (λ (c : Cutters). CuttersStand k c (heard_on A more.hearing.ticks) (heard_on B more.hearing.ticks)) same
    (subst (λ (ticks : List Moment). CuttersStand k (cutters_by ((course k station starts s.takes (x ∷ past)).holds || old.alone) old bus) (heard_on A ticks)
    (heard_on B ticks)) (sym (loaded-hears k station starts loads outside x past sub words)) st)
