-- A block that is put up for sending under another address changes nothing of a station.
use Rattle.std.proofs.Common.{◌≡◌, ◌≢◌, ℕ, suc, Bool, true, false, ◌||◌, ◌==◌, List, [], ◌∷◌, ◌++◌, length, Option, Some, None, refl, sym, ap, ◌∙◌, subst, arith, if◌then◌else◌}
use Rattle.std.proofs.lemmas.Bool.Decides.{nat_tests}
use Rattle.bus_base.specs.declared.samples.Pair.{Pair}
use Rattle.bus_receiver.specs.declared.cutters.Cutters.{Cutters}
use Rattle.bus_formats.specs.Plans.{StationData, TerminalData}
use Rattle.bus_model.specs.Memory.{Memory, TimedLoad, with_loads, load_due}
use Rattle.bus_model.specs.Hearing.{Moment, Hearing}
use Rattle.bus_model.specs.Standing.{Standing, Handled}
use Rattle.bus_model.specs.Terminal.{standing, after_tick, ordered, marked_by, order_now, after_order, done_by, accepted_now, accepted_on, memory_after}
use Rattle.bus_model.specs.Course.{Take, Course, course}
use Rattle.bus_model.specs.Control.{OutsideTake, StationSoFar, so_far, so_far_after, hold, taken_over, takes_in, outside_takes, accepted_take, hear_more, moment_of, unheard_ticks}
use Rattle.bus_terminal.specs.Stands.{AreMade, CommonStands, StateStands}
use Rattle.bus_terminal.specs.TerminalStands.{TerminalKeeps}
use Rattle.bus_terminal.specs.declared.common.Common.{Common}
use Rattle.bus_terminal.specs.declared.terminal.Terminal.{Terminal}
use Rattle.bus_terminal.specs.declared.state.TerminalState.{TerminalState}
use Rattle.bus_terminal.specs.declared.state.TerminalState.TheVariants as states
use Rattle.bus_station.specs.Listening.{HearsBy, InStep}
use Rattle.bus_station.specs.StationStands.{Stands, StationKeeps}
use Rattle.bus_station.specs.declared.station.Station.{Station}
use Rattle.bus_station.proofs.Serving.{sofar}
use Rattle.bus_station.proofs.Loading.{with-load}

-- ---- a terminal

-- it isn't due at any tick
foreign-due : (address now : ℕ) (load : TimedLoad) → load.address ≢ address → load_due address now load ≡ false
foreign-due address now load other = let no : (load.address == address) ≡ false = grind (arith, nat_tests, other) in rw no refl

-- so it leaves the memory as it is
pub foreign-memory : (address now : ℕ) (loads : List TimedLoad) (load : TimedLoad) (m : Memory) → load.address ≢ address →
    with_loads address now (with-load loads load) m ≡ with_loads address now loads m
foreign-memory address now [] load m other = rw (foreign-due address now load other) refl
foreign-memory address now (first ∷ loads) load m other = foreign-memory address now loads load _ other

-- it was made, whenever that was
foreign-made : (address now : ℕ) (loads : List TimedLoad) (load : TimedLoad) → load.address ≢ address → AreMade address now loads →
    AreMade address now (with-load loads load)
foreign-made address now [] load other made = (λ same. absurd (other same), tt)
foreign-made address now (first ∷ loads) load other made = (made.0, foreign-made address now loads load other made.1)

module _ (k : ℕ) (t : TerminalData) (loads : List TimedLoad) (load : TimedLoad) where
  -- an order does the same
  ordered-foreign : (tick : ℕ) (may : Bool) (s : Standing) (o : Option Handled) → load.address ≢ t.address →
      ordered k t (with-load loads load) tick may s o ≡ ordered k t loads tick may s o
  ordered-foreign tick may s None other = refl
  ordered-foreign tick may s (Some order) other =
      ap (λ (m : Memory). after_order s order (done_by k t s m may order)) (foreign-memory t.address tick loads load s.memory other)

  -- so the same stands
  pub standing-foreign : (memory : Memory) (past : List Moment) → load.address ≢ t.address →
      standing k t (with-load loads load) memory past ≡ standing k t loads memory past
  unfolding standing
  standing-foreign memory [] other = refl
  standing-foreign memory (now ∷ past) other =
      let s : Standing = standing k t loads memory past in
      ap (after_tick k t (with-load loads load) now past) (standing-foreign memory past other)
      ∙ ap (marked_by k t now past s) (ordered-foreign (length past) now.has_items s (order_now k t (now ∷ past) s) other)

  -- what is the same in every state
  common-foreign : (common : Common) (past : List Moment) (s : Standing) → load.address ≢ t.address → CommonStands k t loads common past s →
      CommonStands k t (with-load loads load) common past s
  common-foreign common past s other st = record {
    plan = st.plan;
    fits = st.fits;
    memory = st.memory ∙ sym (foreign-memory t.address (length past) loads load s.memory other);
    absorbed = foreign-memory t.address (length past) loads load common.memory other ∙ st.absorbed;
    made = foreign-made t.address (length past) loads load other st.made;
    ears = st.ears;
    ended = st.ended;
    marked = st.marked;
    newest = st.newest;
  }

  -- each state
  state-foreign : (state : TerminalState) (past : List Moment) (s : Standing) → load.address ≢ t.address → StateStands k t loads state past s →
      StateStands k t (with-load loads load) state past s
  state-foreign (states.Listening state) past s other st = record { common = common-foreign state.common past s other st.common; rests_now = st.rests_now }
  state-foreign (states.Promised state) past s other st = record {
    common = common-foreign state.common past s other st.common;
    waiting = st.waiting;
    fresh = st.fresh;
    heard = st.heard;
    within = st.within;
    awaited = st.awaited;
    heeded = st.heeded;
  }
  state-foreign (states.Owing state) past s other st = record {
    common = common-foreign state.common past s other st.common;
    sends = st.sends;
    kept = st.kept;
    early = st.early;
  }
  state-foreign (states.Answering state) past s other st = record {
    common = common-foreign state.common past s other st.common;
    sends = st.sends;
    kept = st.kept;
    runs = st.runs;
    sent = st.sent;
    marked = st.marked;
  }

  -- a terminal
  pub terminal-foreign : (value : Terminal) (hearing : Hearing) → load.address ≢ t.address → TerminalKeeps k t loads value hearing →
      TerminalKeeps k t (with-load loads load) value hearing
  unfolding TerminalKeeps
  terminal-foreign value hearing other st =
      subst (λ (s : Standing). StateStands k t (with-load loads load) value.state hearing.ticks s) (sym (standing-foreign hearing.memory hearing.ticks other))
      (state-foreign value.state hearing.ticks (standing k t loads hearing.memory hearing.ticks) other st)

-- ---- a station

module _ (k : ℕ) (station : StationData) (starts : Bool) (loads : List TimedLoad) (outside : List OutsideTake) (load : TimedLoad) where
  -- no acceptance changes
  accepted-foreign : (m : Moment) (h : Hearing) → load.address ≢ station.terminal.address →
      accepted_now k station.terminal (with-load loads load) (hear_more h m) ≡ accepted_now k station.terminal loads (hear_more h m)
  accepted-foreign m h other = ap (accepted_on k station.terminal loads m h.ticks) (standing-foreign k station.terminal loads load h.memory h.ticks other)

  -- nor a take
  takes-foreign : (tick : ℕ) (m : Moment) (h : Hearing) → load.address ≢ station.terminal.address →
      takes_in k station starts (with-load loads load) outside tick (hear_more h m) ≡ takes_in k station starts loads outside tick (hear_more h m)
  takes-foreign tick m h other =
      ap (λ (end : Option ℕ). accepted_take tick end ++ outside_takes k station starts loads outside tick outside) (accepted-foreign m h other)

  -- nor what is kept
  keeps-foreign : (h : Hearing) → load.address ≢ station.terminal.address →
      memory_after k station.terminal (with-load loads load) h ≡ memory_after k station.terminal loads h
  keeps-foreign h other =
      ap (λ (s : Standing). with_loads station.terminal.address (length h.ticks) (with-load loads load) s.memory)
      (standing-foreign k station.terminal loads load h.memory h.ticks other)
      ∙ foreign-memory station.terminal.address (length h.ticks) loads load (standing k station.terminal loads h.memory h.ticks).memory other

  -- nor what is taken over
  taken-foreign : (past : List Pair) (s : StationSoFar) (h : Hearing) (takes : List Take) → load.address ≢ station.terminal.address →
      taken_over k station starts (with-load loads load) outside past s h takes ≡ taken_over k station starts loads outside past s h takes
  taken-foreign past s h [] other = refl
  taken-foreign past s h (take ∷ takes) other =
      ap (λ (m : Memory). record { takes = s.takes ++ take ∷ takes; hearing = record { memory = m; ticks = unheard_ticks past } }) (keeps-foreign h other)

  -- nor a tick
  after-foreign : (x : Pair) (past : List Pair) (s : StationSoFar) → load.address ≢ station.terminal.address →
      so_far_after k station starts (with-load loads load) outside x past s ≡ so_far_after k station starts loads outside x past s
  after-foreign x past s other =
      let c : Course = course k station starts s.takes past in
      let m : Moment = moment_of x c in
      let h : Hearing = hear_more s.hearing m in
      ap (λ (takes : List Take). if c.holds then hold k station starts loads outside x past s (course k station starts s.takes (x ∷ past))
      else taken_over k station starts (with-load loads load) outside (x ∷ past) s h takes) (takes-foreign (length past) m s.hearing other)
      ∙ ap (λ (v : StationSoFar). if c.holds then hold k station starts loads outside x past s (course k station starts s.takes (x ∷ past)) else v)
      (taken-foreign (x ∷ past) s h (takes_in k station starts loads outside (length past) h) other)

  -- nothing changes
  pub foreign-same : (past : List Pair) → load.address ≢ station.terminal.address →
      sofar k station starts (with-load loads load) outside past ≡ sofar k station starts loads outside past
  unfolding so_far
  foreign-same [] other = refl
  foreign-same (x ∷ past) other =
      ap (so_far_after k station starts (with-load loads load) outside x past) (foreign-same past other)
      ∙ after-foreign x past (sofar k station starts loads outside past) other

  -- the station stands for the loads with this one
  pub foreign-keeps : (value : Station) (past : List Pair) → load.address ≢ station.terminal.address →
      StationKeeps k station starts loads outside value past → StationKeeps k station starts (with-load loads load) outside value past
  unfolding StationKeeps
  foreign-keeps value past other st =
      subst (λ (s : StationSoFar). Stands k station starts (with-load loads load) outside value past s) (sym (foreign-same past other)) (record {
        address = st.address;
        controller = st.controller;
        terminal = terminal-foreign k station.terminal loads load value.terminal (sofar k station starts loads outside past).hearing other st.terminal;
        taking = st.taking;
        made = foreign-made station.terminal.address (length past) loads load other st.made;
        taken = st.taken;
      })

  -- and is in step as before
  pub foreign-step : (value : Station) (bus : Cutters) (past : List Pair) → load.address ≢ station.terminal.address →
      InStep k station starts loads outside value bus past → InStep k station starts (with-load loads load) outside value bus past
  unfolding InStep
  foreign-step value bus past other st =
      subst (λ (s : StationSoFar). HearsBy k ((course k station starts s.takes past).holds || value.alone) value bus s.hearing.ticks)
      (sym (foreign-same past other)) st
