-- A block is put up for sending in a station's terminal: a timed load at the last tick heard.
use Rattle.std.proofs.Common.{◌≡◌, ℕ, suc, ◌<◌, ◌≤◌, Bool, true, false, List, [], ◌∷◌, ◌++◌, length, refl, sym, ap, ◌∙◌, subst, arith, inl, inr, ◌⊎◌, if◌then◌else◌}
use Rattle.bus_base.specs.declared.samples.Pair.{Pair}
use Rattle.bus_formats.specs.Plans.{StationData, TerminalData}
use Rattle.bus_model.specs.Memory.{Memory, TimedLoad, with_loads, load_block}
use Rattle.bus_model.specs.Hearing.{Moment, Hearing}
use Rattle.bus_model.specs.Standing.{Standing, at_rest}
use Rattle.bus_model.specs.Terminal.{standing, accepted_now, accepted_on, memory_after}
use Rattle.bus_model.specs.Course.{Take, Course, course}
use Rattle.bus_model.specs.Control.{OutsideTake, StationSoFar, so_far, so_far_after, hold, taken_over, takes_in, outside_takes, accepted_take, hear_more, moment_of, unheard_ticks}
use Rattle.bus_terminal.specs.Quiet.{quiet_moments}
use Rattle.bus_terminal.specs.Stands.{CommonStands, StateStands}
use Rattle.bus_terminal.specs.TerminalStands.{TerminalKeeps}
use Rattle.bus_terminal.specs.declared.common.Common.{Common}
use Rattle.bus_terminal.specs.declared.terminal.Terminal.{Terminal}
use Rattle.bus_terminal.specs.declared.state.TerminalState.{TerminalState}
use Rattle.bus_terminal.specs.declared.state.TerminalState.TheVariants as states
use Rattle.bus_terminal.proofs.Quiet.{quiet-stands}
use Rattle.bus_terminal.proofs.Loading.{standing-load}
use Rattle.bus_terminal.proofs.Waking.{quiet-length}
use Rattle.bus_station.proofs.Quiet.{unheard-quiet}
use Rattle.bus_station.proofs.SoFar.{so_far-tick, keeps}
use Rattle.bus_station.proofs.Serving.{sofar}
use Rattle.bus_station.proofs.LoadsMade.{late-load, made-load}

-- ---- a terminal at rest stands for each memory that the loads make the same

-- the parts of a state
common-memory : (k : ℕ) (t : TerminalData) (loads : List TimedLoad) (common : Common) (past : List Moment) (m other : Memory) →
    with_loads t.address (length past) loads other ≡ with_loads t.address (length past) loads m → CommonStands k t loads common past (at_rest m) →
    CommonStands k t loads common past (at_rest other)
common-memory k t loads common past m other same st = record {
  plan = st.plan;
  fits = st.fits;
  memory = st.memory ∙ sym same;
  absorbed = st.absorbed;
  made = st.made;
  ears = record { on_a = st.ears.on_a; on_b = st.ears.on_b };
  ended = st.ended;
  marked = record { on = st.marked.on };
  newest = λ left. absurd (cc);
}

-- a state
state-memory : (k : ℕ) (t : TerminalData) (loads : List TimedLoad) (state : TerminalState) (past : List Moment) (m other : Memory) →
    with_loads t.address (length past) loads other ≡ with_loads t.address (length past) loads m → StateStands k t loads state past (at_rest m) →
    StateStands k t loads state past (at_rest other)
state-memory k t loads (states.Listening state) past m other same st =
    record { common = common-memory k t loads state.common past m other same st.common; rests_now = refl }
state-memory k t loads (states.Promised state) past m other same st = absurd (let no = st.waiting.duty in cc)
state-memory k t loads (states.Owing state) past m other same st = absurd (let no = st.sends.duty in cc)
state-memory k t loads (states.Answering state) past m other same st = absurd (let no = st.sends.duty in cc)

-- a terminal
pub other-memory : (k : ℕ) (t : TerminalData) (loads : List TimedLoad) (terminal : Terminal) (n : ℕ) (m other : Memory) →
    with_loads t.address n loads other ≡ with_loads t.address n loads m → TerminalKeeps k t loads terminal (record { memory = m; ticks = quiet_moments n }) →
    TerminalKeeps k t loads terminal (record { memory = other; ticks = quiet_moments n })
unfolding TerminalKeeps
other-memory k t loads terminal n m other same st =
    subst (λ (s : Standing). StateStands k t loads terminal.state (quiet_moments n) s) (sym (quiet-stands k t loads other n))
    (state-memory k t loads terminal.state (quiet_moments n) m other
    (subst (λ (i : ℕ). with_loads t.address i loads other ≡ with_loads t.address i loads m) (sym (quiet-length n)) same)
    (subst (λ (s : Standing). StateStands k t loads terminal.state (quiet_moments n) s) (quiet-stands k t loads m n) st))

-- ---- a terminal that was loaded

-- what a load in the last tick heard does to a terminal
abbrev pub Loads : (k : ℕ) (t : TerminalData) (loads : List TimedLoad) (sub : ℕ) (words : List ℕ) (old new : Terminal) → Type 0
Loads k t loads sub words old new = (memory : Memory) (now : Moment) (past : List Moment) →
    TerminalKeeps k t loads old (record { memory = memory; ticks = now ∷ past }) →
    TerminalKeeps k t (loads ++ record { tick = length past; address = t.address; sub = sub; words = words } ∷ []) new
    (record { memory = memory; ticks = now ∷ past })

-- whatever it heard, if it heard a tick
pub loaded-ticks : (k : ℕ) (t : TerminalData) (loads : List TimedLoad) (sub : ℕ) (words : List ℕ) (old new : Terminal) (n : ℕ) (memory : Memory)
    (ticks : List Moment) →
    Loads k t loads sub words old new → length ticks ≡ suc n → TerminalKeeps k t loads old (record { memory = memory; ticks = ticks }) →
    TerminalKeeps k t (loads ++ record { tick = n; address = t.address; sub = sub; words = words } ∷ []) new (record { memory = memory; ticks = ticks })
loaded-ticks k t loads sub words old new n memory [] loaded long st = absurd (omega (arith, long))
loaded-ticks k t loads sub words old new n memory (now ∷ past) loaded long st =
    let here : length past ≡ n = omega (arith, long) in
    subst (λ (i : ℕ). TerminalKeeps k t (loads ++ record { tick = i; address = t.address; sub = sub; words = words } ∷ []) new
    (record { memory = memory; ticks = now ∷ past })) here
    (loaded memory now past st)

-- ---- a station with one load more

-- a load in this tick counts from the next one on: where control was taken in this tick it is in the memory that goes on
pub record IsLoaded (n sub : ℕ) (words : List ℕ) (s loaded : StationSoFar) : Type 0 where
  pub takes : loaded.takes ≡ s.takes
  pub hearing : (loaded.hearing ≡ s.hearing)
      ⊎ ((s.hearing.ticks ≡ quiet_moments (suc n)) × (loaded.hearing ≡ record {
        memory = load_block s.hearing.memory sub words;
        ticks = quiet_moments
            (suc n);
      }))

-- a station that held control took nothing
loaded-if : (n sub : ℕ) (words : List ℕ) (b : Bool) (h v loaded : StationSoFar) → IsLoaded n sub words v loaded →
    IsLoaded n sub words (if b then h else v) (if b then h else loaded)
loaded-if n sub words true h v loaded is = record { takes = refl; hearing = inl refl }
loaded-if n sub words false h v loaded is = is

-- one load more
abbrev pub with-load : List TimedLoad → TimedLoad → List TimedLoad
with-load loads load = loads ++ load ∷ []

module _ (k : ℕ) (station : StationData) (starts : Bool) (loads : List TimedLoad) (outside : List OutsideTake) (load : TimedLoad) where
  -- it changes no acceptance in its tick
  accepted-load : (m : Moment) (h : Hearing) → length h.ticks ≤ suc load.tick →
      accepted_now k station.terminal (with-load loads load) (hear_more h m) ≡ accepted_now k station.terminal loads (hear_more h m)
  accepted-load m h early = ap (accepted_on k station.terminal loads m h.ticks) (standing-load k station.terminal loads load h.memory h.ticks early)

  -- nor a take
  takes-load : (tick : ℕ) (m : Moment) (h : Hearing) → length h.ticks ≤ suc load.tick →
      takes_in k station starts (with-load loads load) outside tick (hear_more h m) ≡ takes_in k station starts loads outside tick (hear_more h m)
  takes-load tick m h early =
      ap (λ (end : _). accepted_take tick end ++ outside_takes k station starts loads outside tick outside) (accepted-load m h early)

  -- a later load doesn't count
  memory-late : (h : Hearing) → length h.ticks ≤ load.tick → memory_after k station.terminal (with-load loads load) h ≡ memory_after k station.terminal loads h
  memory-late h early =
      ap (λ (s : Standing). with_loads station.terminal.address (length h.ticks) (with-load loads load) s.memory)
      (standing-load k station.terminal loads load h.memory h.ticks (omega (arith, early)))
      ∙ late-load station.terminal.address (length h.ticks) loads load (standing k station.terminal loads h.memory h.ticks).memory early

  -- one in the last tick counts
  memory-loaded : (h : Hearing) → load.address ≡ station.terminal.address → length h.ticks ≡ suc load.tick →
      memory_after k station.terminal (with-load loads load) h ≡ load_block (memory_after k station.terminal loads h) load.sub load.words
  memory-loaded h own now =
      ap (λ (s : Standing). with_loads station.terminal.address (length h.ticks) (with-load loads load) s.memory)
      (standing-load k station.terminal loads load h.memory h.ticks (omega (arith, now)))
      ∙ made-load station.terminal.address (length h.ticks) loads load (standing k station.terminal loads h.memory h.ticks).memory own (omega (arith, now))

  -- nor what is taken over before it
  taken-late : (past : List Pair) (s : StationSoFar) (h : Hearing) (takes : List Take) → length h.ticks ≤ load.tick →
      taken_over k station starts (with-load loads load) outside past s h takes ≡ taken_over k station starts loads outside past s h takes
  taken-late past s h [] early = refl
  taken-late past s h (take ∷ takes) early =
      ap (λ (m : Memory). record { takes = s.takes ++ take ∷ takes; hearing = record { memory = m; ticks = unheard_ticks past } }) (memory-late h early)

  -- one tick before it
  after-load : (x : Pair) (past : List Pair) (s : StationSoFar) → length s.hearing.ticks ≡ length past → length past < load.tick →
      so_far_after k station starts (with-load loads load) outside x past s ≡ so_far_after k station starts loads outside x past s
  after-load x past s long early =
      let c : Course = course k station starts s.takes past in
      let m : Moment = moment_of x c in
      let h : Hearing = hear_more s.hearing m in
      ap (λ (takes : List Take). if c.holds then hold k station starts loads outside x past s (course k station starts s.takes (x ∷ past))
      else taken_over k station starts (with-load loads load) outside (x ∷ past) s h takes) (takes-load (length past) m s.hearing (omega (arith, long, early)))
      ∙ ap (λ (v : StationSoFar). if c.holds then hold k station starts loads outside x past s (course k station starts s.takes (x ∷ past)) else v)
      (taken-late (x ∷ past) s h (takes_in k station starts loads outside (length past) h) (omega (arith, long, early)))

  -- nothing up to its tick changes
  before-load : (past : List Pair) → length past ≤ load.tick →
      sofar k station starts (with-load loads load) outside past ≡ sofar k station starts loads outside past
  unfolding so_far
  before-load [] early = refl
  before-load (x ∷ past) early =
      ap (so_far_after k station starts (with-load loads load) outside x past) (before-load past (omega (arith, early)))
      ∙ after-load x past (sofar k station starts loads outside past) (keeps k station starts loads outside past).long (omega (arith, early))

  -- what is taken over in its tick has it
  taken-now : (past : List Pair) (s : StationSoFar) (h : Hearing) (takes : List Take) → load.address ≡ station.terminal.address →
      length h.ticks ≡ suc load.tick → length past ≡ suc load.tick →
      IsLoaded load.tick load.sub load.words (taken_over k station starts loads outside past s h takes)
      (taken_over k station starts (with-load loads load) outside past s h takes)
  taken-now past s h [] own now here = record { takes = refl; hearing = inl refl }
  taken-now past s h (take ∷ takes) own now here =
      let rests : unheard_ticks past ≡ quiet_moments (suc load.tick) = unheard-quiet past ∙ ap quiet_moments here in
      record {
        takes = refl;
        hearing = inr (
          rests,
          ap (λ (m : Memory). record { memory = m; ticks = unheard_ticks past }) (memory-loaded h own now)
              ∙ ap (λ (ticks : List Moment). record { memory = load_block (memory_after k station.terminal loads h) load.sub load.words; ticks = ticks }) rests,
        );
      }

  -- after its tick it is loaded
  pub now-load : (x : Pair) (past : List Pair) → load.address ≡ station.terminal.address → length past ≡ load.tick →
      IsLoaded load.tick load.sub load.words (sofar k station starts loads outside (x ∷ past)) (sofar k station starts (with-load loads load) outside
      (x ∷ past))
  now-load x past own here =
      let s : StationSoFar = sofar k station starts loads outside past in
      let c : Course = course k station starts s.takes past in
      let m : Moment = moment_of x c in
      let h : Hearing = hear_more s.hearing m in
      let long = (keeps k station starts loads outside past).long in
      let takes : List Take = takes_in k station starts loads outside (length past) h in
      let same : sofar k station starts (with-load loads load) outside (x ∷ past)
      ≡ (if c.holds then hold k station starts loads outside x past s (course k station starts s.takes (x ∷ past))
      else taken_over k station starts (with-load loads load) outside (x ∷ past) s h takes) =
      so_far-tick k station starts (with-load loads load) outside x past
      ∙ ap (so_far_after k station starts (with-load loads load) outside x past) (before-load past (omega (arith, here)))
      ∙ ap (λ (all : List Take). if c.holds then hold k station starts loads outside x past s (course k station starts s.takes (x ∷ past))
      else taken_over k station starts (with-load loads load) outside (x ∷ past) s h all) (takes-load (length past) m s.hearing (omega (arith, long, here))) in
      subst (λ (loaded : StationSoFar). IsLoaded load.tick load.sub load.words (sofar k station starts loads outside (x ∷ past)) loaded) (sym same)
      (subst (λ (t : StationSoFar). IsLoaded load.tick load.sub load.words t (if c.holds then hold k station starts loads outside x past s
      (course k station starts s.takes (x ∷ past))
      else taken_over k station starts (with-load loads load) outside (x ∷ past) s h takes)) (sym (so_far-tick k station starts loads outside x past))
      (loaded-if load.tick load.sub load.words c.holds (hold k station starts loads outside x past s (course k station starts s.takes (x ∷ past)))
      (taken_over k station starts loads outside (x ∷ past) s h takes) (taken_over k station starts (with-load loads load) outside (x ∷ past) s h takes)
      (taken-now (x ∷ past) s h takes own (omega (arith, long, here)) (omega (arith, here)))))
