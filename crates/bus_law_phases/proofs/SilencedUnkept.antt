-- A station whose promise runs out in the quiet tick to come: its terminal sets message error and is free.
use Rattle.std.proofs.Common.{◌≡◌, ℕ, suc, ◌+◌, ◌≤◌, Bool, true, false, not, List, [], ◌∷◌, ◌++◌, length, Option, Some, None, refl, sym, ap, ◌∙◌, subst, arith}
use Rattle.std.proofs.lemmas.Bool.{true≢false}
use Rattle.std.specs.Option.{option_or}
use Rattle.std.specs.Prelude.{if◌then◌else◌}
use Rattle.bus_base.specs.Samples.{quiet_pair, sample_on, same_channel}
use Rattle.bus_base.specs.declared.samples.Channel.{Channel}
use Rattle.bus_base.specs.declared.samples.Channel.TheVariants.{A, B}
use Rattle.bus_base.specs.declared.samples.Pair.{Pair}
use Rattle.bus_line.specs.Past.{quiet_ticks, runs, heard_within}
use Rattle.bus_formats.specs.Plans.{StationData, TerminalData}
use Rattle.bus_formats.specs.Times.{relay_wait}
use Rattle.bus_model.specs.Control.{StationSoFar, outside_takes}
use Rattle.bus_model.specs.Course.{Course}
use Rattle.bus_model.specs.Hearing.{Moment, Hearing, heard_on}
use Rattle.bus_model.specs.Memory.{Memory, TimedLoad, load_block, load_due, with_loads}
use Rattle.bus_model.specs.Message.{Present}
use Rattle.bus_model.specs.Orders.{free, Obeyed, unkept}
use Rattle.bus_model.specs.Standing.{Standing, runs_out, mark_on, ignored_from, is_promise, promised_on}
use Rattle.bus_model.specs.Starts.{starts, has_items}
use Rattle.bus_model.specs.Terminal.{order_on, running_out, accepted_by, accepted_now, taken_by, took_now, drive_duty, standing}
use Rattle.bus_law_messages.specs.Settled.{IsFree, IsServing}
use Rattle.bus_law_messages.proofs.Heard.{hearing-long}
use Rattle.bus_law_stations.specs.Silence.{quiet_moments}
use Rattle.bus_law_stations.specs.Turns.{TakesNothing}
use Rattle.bus_law_stations.proofs.BurstEnds.{same-itself}
use Rattle.bus_law_stations.proofs.LegTicks.{heeded-later}
use Rattle.bus_law_stations.proofs.Resting.{heard-quiet, heard-long, rests-quiet}
use Rattle.bus_law_stations.proofs.RunningOut.{promise-out}
use Rattle.bus_law_stations.proofs.StillTerminal.{quiet_moment, order-quiet}
use Rattle.bus_law_stations.proofs.Turning.{serving-hears, serving-same, serving-sends}
use Rattle.bus_law_table.specs.Stations.{loaded_at}
use Rattle.bus_law_table.proofs.Loads.{absorbed}
use Rattle.bus_law_phases.specs.Scenarios.{Scenario, course_of, hearing_of, standing_of, present_of}
use Rattle.bus_law_phases.specs.Moments.{Promises}
use Rattle.bus_law_phases.proofs.SilencedBeside.{PassesQuietly}
use Rattle.bus_law_phases.proofs.Within.{within-any}

-- ---- loads and registers

either-load : (t : TerminalData) (c : Channel) (b : Bool) (sub : ℕ) (words : List ℕ) (m : Memory) →
    (unkept t (if b then load_block m sub words else m) c).memory ≡ (if b then load_block (unkept t m c).memory sub words else (unkept t m c).memory)
either-load t c true sub words m = refl
either-load t c false sub words m = refl

-- blocks that are put up for sending change no register
unkept-loads : (t : TerminalData) (c : Channel) (address tick : ℕ) (loads : List TimedLoad) (m : Memory) →
    (unkept t (with_loads address tick loads m) c).memory ≡ with_loads address tick loads (unkept t m c).memory
unkept-loads t c address tick [] m = refl
unkept-loads t c address tick (load ∷ loads) m =
    unkept-loads t c address tick loads (if load_due address tick load then load_block m load.sub load.words else m)
    ∙ ap (with_loads address tick loads) (either-load t c (load_due address tick load) load.sub load.words m)

pub unkept-later : (t : TerminalData) (c : Channel) (address early late : ℕ) (loads : List TimedLoad) (m n : Memory) → early ≤ late →
    with_loads address early loads m ≡ with_loads address early loads n →
    with_loads address late loads (unkept t (with_loads address early loads m) c).memory ≡ with_loads address late loads (unkept t n c).memory
unkept-later t c address early late loads m n before same =
    ap (λ x. with_loads address late loads (unkept t x c).memory) same
    ∙ ap (with_loads address late loads) (unkept-loads t c address early loads n)
    ∙ absorbed address early late loads before (unkept t n c).memory

-- ---- the terminal

first-none : {X : Type 0} (a b c : Option X) → a ≡ None → b ≡ None → option_or a (option_or b c) ≡ c
first-none a b c first second = rw (first, second) refl

taken-either : (k : ℕ) (t : TerminalData) (loads : List TimedLoad) (tick : ℕ) (may : Bool) (s : Standing) (b : Bool) →
    taken_by k t loads tick may s (if b then Some runs_out else None) ≡ None
taken-either k t loads tick may s true = refl
taken-either k t loads tick may s false = refl

-- it takes no block, whether the promise runs out or not
out-takes : (k : ℕ) (t : TerminalData) (loads : List TimedLoad) (memory : Memory) (heard : List Moment) (may : Bool) →
    ((c : Channel) → runs k (heard_on c heard) ≡ false) → took_now k t loads record { memory = memory; ticks = quiet_moments (may ∷ []) ++ heard } ≡ None
out-takes k t loads memory heard may rests =
    let s = standing k t loads memory heard in
    ap (taken_by k t loads (length heard) may s)
    (first-none (order_on k t (quiet_moment may ∷ heard) s A) (order_on k t (quiet_moment may ∷ heard) s B) (running_out k t (quiet_moment may ∷ heard) s)
    (order-quiet k t s A may heard (rests A)) (order-quiet k t s B may heard (rests B)))
    ∙ taken-either k t loads (length heard) may s _

-- ---- the station

module _ (w : Scenario) (past : List Pair) (station : StationData) (c : Channel) (e command transmitter : ℕ)
    (p : Promises w past station c e command transmitter) (last : length past ≡ e + relay_wait)
    (stays : outside_takes w.lag station (starts w.plan station) w.loads w.outside (length past) w.outside ≡ []) where
  abbrev t : TerminalData
  t = station.terminal

  abbrev h : Hearing
  h = hearing_of w station past

  abbrev s : Standing
  s = standing_of w station past

  abbrev d : Course
  d = course_of w station past

  abbrev may : Bool
  may = has_items d.left

  abbrev later : List Pair
  later = quiet_pair ∷ past

  long : length h.ticks ≡ length past
  long = hearing-long w.lag station (starts w.plan station) w.loads w.outside past

  accepts-none : accepted_now w.lag t w.loads record { memory = h.memory; ticks = quiet_moments (may ∷ []) ++ h.ticks } ≡ None
  accepts-none = ap (accepted_by w.lag t w.loads (heard_on s.channel h.ticks) (sample_on quiet_pair s.channel) s) p.duty

  nothing : TakesNothing w.lag station (starts w.plan station) w.loads w.outside past (quiet_pair ∷ [])
  nothing = (accepts-none, stays, tt)

  hears : hearing_of w station later ≡ record { memory = h.memory; ticks = quiet_moments (may ∷ []) ++ h.ticks }
  hears =
      ap (λ (so : StationSoFar). so.hearing)
      (serving-hears w.lag station (starts w.plan station) w.loads w.outside past (quiet_pair ∷ []) p.hears.serves nothing)

  course-same : course_of w station later ≡ d
  course-same = serving-same w.lag station (starts w.plan station) w.loads w.outside past (quiet_pair ∷ []) p.hears.serves nothing

  pub out-passes : PassesQuietly w past station
  out-passes = record {
    silent = serving-sends w.lag station (starts w.plan station) w.loads w.outside past [] p.hears.serves tt
        ∙ ap (drive_duty w.lag t (heard_on s.channel h.ticks) s) p.duty;
    takes = ap (took_now w.lag t w.loads) hears ∙ out-takes w.lag t w.loads h.memory h.ticks may p.hears.rests;
    course = course-same;
  }

  -- ---- what stands then

  promised : promised_on w.lag s s.channel ≡ true
  promised =
      let made : is_promise s.duty ≡ true = ap is_promise p.duty in
      let here : same_channel s.channel s.channel ≡ true = same-itself s.channel in
      let still = p.kept in
      rw (made, here, still) refl

  silent-since : heard_within (heard_on s.channel h.ticks) s.end (suc (length h.ticks)) ≡ false
  silent-since =
      let row = heard-long c h.ticks in
      ap (λ x. heard_within (heard_on x h.ticks) s.end (suc (length h.ticks))) p.channel
      ∙ ap (λ x. heard_within (heard_on c h.ticks) x (suc (length h.ticks))) p.end
      ∙ within-any (heard_on c h.ticks) e (length past) (suc (length h.ticks)) (omega (arith, row, long)) p.silent

  left : Obeyed
  left = unkept t (with_loads t.address (length h.ticks) w.loads s.memory) s.channel

  stands : standing_of w station later ≡ record s { memory = left.memory; duty = free }
  unfolding left
  stands =
      let end = p.end in
      ap (λ (x : Hearing). standing w.lag t w.loads x.memory x.ticks) hears
      ∙ (promise-out w.lag t w.loads h.memory h.ticks may p.hears.rests promised (omega (arith, long, last, end)) silent-since).0

  rests-then : (x : Channel) → runs w.lag (heard_on x (quiet_moments (may ∷ []) ++ h.ticks)) ≡ false
  rests-then x = ap (runs w.lag) (heard-quiet x (may ∷ []) h.ticks) ∙ rests-quiet w.lag 1 (heard_on x h.ticks) (p.hears.rests x)

  free-then : IsFree w.lag t (record s { memory = left.memory; duty = free }) (quiet_moments (may ∷ []) ++ h.ticks)
  free-then = record {
    rests = rests-then;
    heeds = λ x. ap (λ xs. ignored_from w.lag xs (mark_on s.sent x)) (heard-quiet x (may ∷ []) h.ticks)
        ∙ heeded-later w.lag (quiet_ticks 1) (heard_on x h.ticks) (mark_on s.sent x) (p.hears.heeds x);
    over = λ owed. absurd (true≢false (sym owed));
    promise = refl;
  }

  pub out-serving : IsServing w.lag station (starts w.plan station) w.loads w.outside later
  out-serving = record {
    serves = record {
      serves = ap (λ (x : Course). x.holds) course-same ∙ p.hears.serves.serves;
      idle = ap (λ (x : Course). x.runs) course-same ∙ p.hears.serves.idle;
    };
    free = subst (λ (x : Hearing). IsFree w.lag t (standing_of w station later) x.ticks) (sym hears)
        (subst (λ x. IsFree w.lag t x (quiet_moments (may ∷ []) ++ h.ticks)) (sym stands) free-then);
  }

  -- ---- the table's station

  -- what it keeps
  out-memory : (y : Present) → present_of w station past ≡ loaded_at w.loads (length past) y →
      (present_of w station (quiet_pair ∷ past)).memory
      ≡ with_loads y.plan.terminal.address (suc (length past)) w.loads (unkept y.plan.terminal y.memory c).memory
  unfolding left
  out-memory y same =
      let plan : station ≡ y.plan = ap (λ (q : Present). q.plan) same in
      let now : length (hearing_of w station (quiet_pair ∷ past)).ticks ≡ suc (length past) = ap (λ (x : Hearing). length x.ticks) hears ∙ ap suc long in
      let before : with_loads station.terminal.address (length h.ticks) w.loads s.memory
      ≡ with_loads station.terminal.address (length h.ticks) w.loads y.memory =
      ap (λ (q : Present). q.memory) same
      ∙ sym (ap (λ (st : StationData). with_loads st.terminal.address (length past) w.loads y.memory) plan)
      ∙ ap (λ n. with_loads t.address n w.loads y.memory) (sym long) in
      ap (λ n. with_loads t.address n w.loads (standing_of w station later).memory) now
      ∙ ap (λ (u : Standing). with_loads t.address (suc (length past)) w.loads u.memory) stands
      ∙ unkept-later t s.channel t.address (length h.ticks) (suc (length past)) w.loads s.memory y.memory (omega (arith, long)) before
      ∙ ap (λ (st : StationData). with_loads st.terminal.address (suc (length past)) w.loads (unkept st.terminal y.memory c).memory) plan

  pub out-told : (y : Present) → present_of w station past ≡ loaded_at w.loads (length past) y →
      present_of w station (quiet_pair ∷ past)
      ≡ loaded_at w.loads (length (quiet_pair ∷ past)) (record y { memory = (unkept y.plan.terminal y.memory c).memory })
  out-told y same =
      ap (λ (x : Course). record {
        plan = station;
        memory = (present_of w station later).memory;
        left = x.left;
        live = x.live;
        serves = not x.holds;
      }) course-same
      ∙ ap (λ m. record (present_of w station past) { memory = m }) (out-memory y same)
      ∙ ap (λ (q : Present). record q {
        memory = with_loads y.plan.terminal.address (suc (length past)) w.loads (unkept y.plan.terminal y.memory c).memory;
      }) same
