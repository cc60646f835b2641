-- The second bus, tick by tick, over the blocks that were loaded so far.
use Rattle.std.proofs.Common.{◌≡◌, ℕ, suc, ◌+◌, ◌<◌, ◌≤◌, true, false, List, [], ◌∷◌, ◌++◌, length, take, drop, Some, refl, ap, sym, ◌∙◌, subst, arith}
use Rattle.std.specs.Prelude.{slice_get}
use Rattle.std.specs.List.{AllByRecursion as Each}
use Rattle.bus_line.specs.declared.cutter.TheConstants.{LAG}
use Rattle.bus_base.specs.declared.samples.Drive.{Drive}
use Rattle.bus_base.specs.declared.samples.Pair.{Pair}
use Rattle.bus_formats.specs.Plans.{PlanData}
use Rattle.bus_formats.specs.declared.log.Attempt.{Attempt}
use Rattle.bus_formats.specs.declared.log.Delivery.{Delivery}
use Rattle.bus_law_loads.specs.Later.{AreFrom}
use Rattle.bus_law_loads.proofs.Worlds.{trace-late, attempts-late, over-late}
use Rattle.bus_law_plans.specs.Memories.{IsBlock, AreBlocks}
use Rattle.bus_model.specs.Memory.{TimedLoad}
use Rattle.bus_model.specs.Wire.{shown}
use Rattle.bus_model.specs.World.{Trace, world, trace, ticks_on, clashes, run_is_over}
use Rattle.bus_model.specs.WorldLog.{attempts}
use Rattle.bus_run.specs.Joined.{JoinedStands}
use Rattle.bus_run.specs.declared.joined.JoinedBus.{JoinedBus}
use Rattle.bus_bridge.specs.Logs.{BridgeLogData}
use Rattle.bus_bridge.specs.Runs.{RunsWith, FirstRuns, SecondRuns, HasRoom, AreLater, table_end, with_loads}
use Rattle.bus_bridge.specs.Worlds.{taken, loads, loads_of, loads_by, EndsAt, IsLogOf, bridge_log}
use Rattle.bus_bridge.specs.declared.bridge.Bridge.{Bridge}
use Rattle.bus_bridge.specs.declared.inputs.BridgePlan.{BridgePlan}
use Rattle.bus_bridge.specs.declared.pairings.Pairing.{Pairing}
use Rattle.bus_bridge.proofs.FirstBus.{before-next}
use Rattle.bus_bridge.proofs.Handed.{ascend-later, handed-ascend, handed-words}
use Rattle.bus_bridge.proofs.Kept.{take-none, each-at}
use Rattle.bus_bridge.proofs.Loaded.{loads-split, loads-from, loads-now, loads-blocks, loads-more, drop-next}
use Rattle.bus_bridge.proofs.Tables.{has-room, goes-on, end-small, ends-there, attempts-there, none-clash}
use Rattle.bus_bridge.proofs.Ticks.{clashes-few, world-long, driven-long}

module _ (plan : BridgePlan) (first v u : ℕ) (bridge : Bridge) (st : SecondRuns plan first v u bridge) where
  -- what was loaded so far, and what is still to be
  abbrev pub loaded : List TimedLoad
  loaded = loads_by plan.b plan.pairs (take bridge.loaded bridge.taken.items)

  abbrev pub to-load : List TimedLoad
  to-load = loads_by plan.b plan.pairs (drop bridge.loaded bridge.taken.items)

  all-loads : loads plan first ≡ loaded ++ to-load
  all-loads = ap (loads_by plan.b plan.pairs) (sym st.taken_are) ∙ loads-split plan.b plan.pairs bridge.loaded bridge.taken.items

  to-load-from : AreFrom u to-load
  to-load-from = loads-from plan.b plan.pairs u (drop bridge.loaded bridge.taken.items) st.later

  -- what is still to be loaded changes nothing so far
  pub same-trace : (n : ℕ) → n ≤ suc u → trace LAG plan.second (loads plan first) [] [] n ≡ trace LAG plan.second loaded [] [] n
  same-trace n low =
      ap (λ (ls : List TimedLoad). trace LAG plan.second ls [] [] n) all-loads ∙ trace-late LAG plan.second loaded to-load [] [] u to-load-from n low

  pub same-over : (n : ℕ) → n ≤ suc u → run_is_over LAG plan.second (loads plan first) [] [] n ≡ run_is_over LAG plan.second loaded [] [] n
  same-over n low =
      ap (λ (ls : List TimedLoad). run_is_over LAG plan.second ls [] [] n) all-loads ∙ over-late LAG plan.second loaded to-load [] [] u to-load-from n low

  world-low : (n : ℕ) (tr : Trace) → length tr.shown ≡ n → n ≤ suc u → length tr.shown ≤ suc u
  world-low n tr long low = omega (arith, long, low)

  pub same-attempts : (n : ℕ) → length (world LAG plan.second loaded [] [] n) ≡ n → n ≤ suc u →
      attempts LAG plan.second (loads plan first) [] [] (world LAG plan.second (loads plan first) [] [] n)
      ≡ attempts LAG plan.second loaded [] [] (world LAG plan.second loaded [] [] n)
  same-attempts n long low =
      ap (λ (tr : Trace). attempts LAG plan.second (loads plan first) [] [] tr.shown) (same-trace n low)
      ∙ ap (λ (ls : List TimedLoad). attempts LAG plan.second ls [] [] (world LAG plan.second loaded [] [] n)) all-loads
      ∙ attempts-late LAG plan.second loaded to-load [] [] u to-load-from (world LAG plan.second loaded [] [] n) (omega (arith, long, low))

  are-blocks : AreBlocks (loads plan first)
  are-blocks = loads-blocks plan.b plan.pairs (taken plan first) (subst (Each (λ (d : Delivery). IsBlock d.words)) st.taken_are st.blocks)

  -- a tick more has room
  pub second-room : length (world LAG plan.second loaded [] [] v) ≡ v → v ≤ suc u → HasRoom plan.second loaded v
  second-room long low =
      let room : HasRoom plan.second (loads plan first) v = has-room plan.second (loads plan first) st.may.second are-blocks v st.within in
      let few = room.attempts_few in
      let small = room.small in
      let same = ap length (same-attempts v long low) in
      record { attempts_few = omega (arith, few, same); small = omega (arith, small) }

  -- the end is later, where the run isn't over
  pub second-on : run_is_over LAG plan.second (loads plan first) [] [] v ≡ false → v < table_end plan.second (loads plan first)
  second-on on = goes-on plan.second (loads plan first) st.may.second are-blocks v st.within on

  -- the bus after a tick more
  pub second-next : (new : Bridge) → run_is_over LAG plan.second (loads plan first) [] [] v ≡ false → RunsWith plan.second loaded (suc v) new.second →
      new.first ≡ bridge.first → new.b ≡ bridge.b → new.pairs ≡ bridge.pairs → new.loaded ≡ bridge.loaded → new.taken ≡ bridge.taken →
      SecondRuns plan first (suc v) u new
  second-next new on second first_is b pairs loaded_is taken_is = record {
    may = st.may;
    first_ends = st.first_ends;
    first_within = st.first_within;
    first_bus = subst (RunsWith plan.first [] first) (sym first_is) st.first_bus;
    second_bus = subst (λ (ds : List Delivery). RunsWith plan.second (loads_by plan.b plan.pairs (take new.loaded ds)) (suc v) new.second) (sym (ap (λ x. x.items) taken_is))
        (subst (λ (n : ℕ). RunsWith plan.second (loads_by plan.b plan.pairs (take n bridge.taken.items)) (suc v) new.second) (sym loaded_is) second);
    b_is = b ∙ st.b_is;
    pairs_are = pairs ∙ st.pairs_are;
    taken_are = ap (λ x. x.items) taken_is ∙ st.taken_are;
    blocks = subst (λ x. Each (λ (d : Delivery). IsBlock d.words) x.items) (sym taken_is) st.blocks;
    later = subst (λ x. AreLater u (drop new.loaded x.items)) (sym taken_is)
        (subst (λ (n : ℕ). AreLater u (drop n bridge.taken.items)) (sym loaded_is) st.later);
    within = (let low = second-on on in omega (arith, low));
    before = before-next (λ (t : ℕ). run_is_over LAG plan.second (loads plan first) [] [] t ≡ false) v st.before on;
  }

-- ---- a block that is due

module _ (plan : BridgePlan) (first t : ℕ) (bridge : Bridge) (st : SecondRuns plan first (suc t) t bridge) where
  -- the bus where no block is due
  pub none-due : (later : AreLater (suc t) (drop bridge.loaded bridge.taken.items)) → SecondRuns plan first (suc t) (suc t) bridge
  none-due later = record {
    may = st.may;
    first_ends = st.first_ends;
    first_within = st.first_within;
    first_bus = st.first_bus;
    second_bus = st.second_bus;
    b_is = st.b_is;
    pairs_are = st.pairs_are;
    taken_are = st.taken_are;
    blocks = st.blocks;
    later = later;
    within = st.within;
    before = st.before;
  }

  -- the next block is of a later tick, or is due
  pub next-later : (d : Delivery) (rest : List Delivery) → drop bridge.loaded bridge.taken.items ≡ d ∷ rest → suc t ≤ d.tick.0 →
      AreLater (suc t) (drop bridge.loaded bridge.taken.items)
  next-later d rest at late =
      let here : AreLater t (d ∷ rest) = subst (AreLater t) at st.later in subst (AreLater (suc t)) (sym at) (late, here.1)

  pub none-left : drop bridge.loaded bridge.taken.items ≡ [] → AreLater (suc t) (drop bridge.loaded bridge.taken.items)
  none-left none = subst (AreLater (suc t)) (sym none) tt

  pub next-due : (d : Delivery) → slice_get bridge.taken.items bridge.loaded ≡ Some d → d.tick.0 < suc t → d.tick.0 ≡ t
  next-due d at early =
      let here : AreLater t (d ∷ drop (bridge.loaded + 1) bridge.taken.items) = subst (AreLater t) (drop-next bridge.taken.items bridge.loaded d at) st.later in
      let low = here.0 in
      omega (arith, low, early)

  -- a bus into which the loads of this tick were put stands for them all
  runs-loaded : (ls more : List TimedLoad) (count : ℕ) (bus : JoinedBus) → AreFrom t more → length (world LAG plan.second ls [] [] (suc t)) ≡ suc t →
      JoinedStands (with_loads plan.second (ls ++ more)) (attempts LAG plan.second ls [] [] (world LAG plan.second ls [] [] (suc t))) count
      (trace LAG plan.second ls [] [] (suc t)) bus →
      RunsWith plan.second (ls ++ more) (suc t) bus
  runs-loaded ls more count bus from long stands =
      let same : trace LAG plan.second (ls ++ more) [] [] (suc t) ≡ trace LAG plan.second ls [] [] (suc t) =
      trace-late LAG plan.second ls more [] [] t from (suc t) (omega arith) in
      let found : attempts LAG plan.second (ls ++ more) [] [] (world LAG plan.second (ls ++ more) [] [] (suc t))
      ≡ attempts LAG plan.second ls [] [] (world LAG plan.second ls [] [] (suc t)) =
      ap (λ (tr : Trace). attempts LAG plan.second (ls ++ more) [] [] tr.shown) same
      ∙ attempts-late LAG plan.second ls more [] [] t from (world LAG plan.second ls [] [] (suc t)) (omega (arith, long)) in (
        count,
        subst (λ (tr : Trace). JoinedStands (with_loads plan.second (ls ++ more))
            (attempts LAG plan.second (ls ++ more) [] [] (world LAG plan.second (ls ++ more) [] [] (suc t))) count tr bus) (sym same)
            (subst (λ (all : List Attempt). JoinedStands (with_loads plan.second (ls ++ more)) all count (trace LAG plan.second ls [] [] (suc t)) bus) (sym found) stands),
      )

  -- the bus after its loads
  pub due-loaded : (new : Bridge) (d : Delivery) (count : ℕ) → slice_get bridge.taken.items bridge.loaded ≡ Some d → d.tick.0 ≡ t →
      length (world LAG plan.second (loads_by plan.b plan.pairs (take bridge.loaded bridge.taken.items)) [] [] (suc t)) ≡ suc t →
      JoinedStands (with_loads plan.second (loads_by plan.b plan.pairs (take bridge.loaded bridge.taken.items) ++ loads_of plan.b plan.pairs d))
      (attempts LAG plan.second (loads_by plan.b plan.pairs (take bridge.loaded bridge.taken.items)) [] []
      (world LAG plan.second (loads_by plan.b plan.pairs (take bridge.loaded bridge.taken.items)) [] [] (suc t))) count
      (trace LAG plan.second (loads_by plan.b plan.pairs (take bridge.loaded bridge.taken.items)) [] [] (suc t)) new.second →
      new.first ≡ bridge.first → new.b ≡ bridge.b → new.pairs ≡ bridge.pairs → new.loaded ≡ bridge.loaded + 1 → new.taken ≡ bridge.taken →
      SecondRuns plan first (suc t) (suc t) new
  due-loaded new d count at now long stands first_is b pairs loaded_is taken_is =
      let ls : List TimedLoad = loads_by plan.b plan.pairs (take bridge.loaded bridge.taken.items) in
      let here : AreLater t (d ∷ drop (bridge.loaded + 1) bridge.taken.items) = subst (AreLater t) (drop-next bridge.taken.items bridge.loaded d at) st.later in
      record {
        may = st.may;
        first_ends = st.first_ends;
        first_within = st.first_within;
        first_bus = subst (RunsWith plan.first [] first) (sym first_is) st.first_bus;
        second_bus = subst (λ x. RunsWith plan.second (loads_by plan.b plan.pairs (take new.loaded x.items)) (suc t) new.second) (sym taken_is)
            (subst (λ (n : ℕ). RunsWith plan.second (loads_by plan.b plan.pairs (take n bridge.taken.items)) (suc t) new.second) (sym loaded_is)
            (subst (λ (all : List TimedLoad). RunsWith plan.second all (suc t) new.second) (sym (loads-more plan.b plan.pairs bridge.taken.items bridge.loaded d at))
            (runs-loaded ls (loads_of plan.b plan.pairs d) count new.second (loads-now plan.b plan.pairs t d now) long stands)));
        b_is = b ∙ st.b_is;
        pairs_are = pairs ∙ st.pairs_are;
        taken_are = ap (λ x. x.items) taken_is ∙ st.taken_are;
        blocks = subst (λ x. Each (λ (d : Delivery). IsBlock d.words) x.items) (sym taken_is) st.blocks;
        later = subst (λ x. AreLater (suc t) (drop new.loaded x.items)) (sym taken_is)
            (subst (λ (n : ℕ). AreLater (suc t) (drop n bridge.taken.items)) (sym loaded_is)
            (subst (λ (n : ℕ). AreLater (suc n) (drop (bridge.loaded + 1) bridge.taken.items)) now here.1));
        within = st.within;
        before = st.before;
      }

module _ (plan : BridgePlan) (first t : ℕ) (bridge : Bridge) (st : SecondRuns plan first (suc t) t bridge) where
  -- the next block has words
  pub next-words : (d : Delivery) → slice_get bridge.taken.items bridge.loaded ≡ Some d → 1 ≤ length d.words
  next-words d at =
      each-at (λ (b : Delivery). 1 ≤ length b.words) bridge.taken.items bridge.loaded d at
      (subst (Each (λ (b : Delivery). 1 ≤ length b.words)) (sym st.taken_are) (handed-words plan (world LAG plan.first [] [] [] first)))

  abbrev so-far : List TimedLoad
  so-far = loads_by plan.b plan.pairs (take bridge.loaded bridge.taken.items)

  -- what the second bus stands for before the loads of this tick
  pub due-stands : (d : Delivery) → d.tick.0 ≡ t →
      (p : PlanData) × (ls : List TimedLoad) × (found : List Attempt) × (count : ℕ) × (now : Pair) × (past : List Pair) × (driven : List (List Drive))
      × (length past ≡ d.tick.0) × JoinedStands (with_loads p ls) found count (record { shown = now ∷ past; driven = driven }) bridge.second
  unfolding ticks_on
  due-stands d at = (
    plan.second,
    so-far,
    attempts LAG plan.second so-far [] [] (world LAG plan.second so-far [] [] (suc t)),
    st.second_bus.0,
    shown plan.second.faults (trace LAG plan.second so-far [] [] (suc t)).driven,
    world LAG plan.second so-far [] [] t,
    (trace LAG plan.second so-far [] [] (suc t)).driven,
    world-long plan.second so-far t ∙ sym at,
    st.second_bus.1,
  )

  -- and the bus after them
  pub due-after : (new : Bridge) (d : Delivery) (b : ℕ) (pairs : List Pairing) → slice_get bridge.taken.items bridge.loaded ≡ Some d → d.tick.0 ≡ t →
      b ≡ plan.b → pairs ≡ plan.pairs →
      ((p : PlanData) (ls : List TimedLoad) (found : List Attempt) (count : ℕ) (now : Pair) (past : List Pair) (driven : List (List Drive)) →
      length past ≡ d.tick.0 → JoinedStands (with_loads p ls) found count (record { shown = now ∷ past; driven = driven }) bridge.second →
      JoinedStands (with_loads p (ls ++ loads_of b pairs d)) found count (record { shown = now ∷ past; driven = driven }) new.second) →
      new.first ≡ bridge.first → new.b ≡ bridge.b → new.pairs ≡ bridge.pairs → new.loaded ≡ bridge.loaded + 1 → new.taken ≡ bridge.taken →
      SecondRuns plan first (suc t) (suc t) new
  unfolding ticks_on
  due-after new d b pairs at now b_is pairs_are load =
      due-loaded plan first t bridge st new d st.second_bus.0 at now (world-long plan.second so-far (suc t))
      (subst (λ (n : ℕ). JoinedStands (with_loads plan.second (so-far ++ loads_of n plan.pairs d))
      (attempts LAG plan.second so-far [] [] (world LAG plan.second so-far [] [] (suc t))) st.second_bus.0 (trace LAG plan.second so-far [] [] (suc t)) new.second) b_is
      (subst (λ (ps : List Pairing). JoinedStands (with_loads plan.second (so-far ++ loads_of b ps d))
      (attempts LAG plan.second so-far [] [] (world LAG plan.second so-far [] [] (suc t))) st.second_bus.0 (trace LAG plan.second so-far [] [] (suc t)) new.second) pairs_are
      (load plan.second so-far (attempts LAG plan.second so-far [] [] (world LAG plan.second so-far [] [] (suc t))) st.second_bus.0
      (shown plan.second.faults (trace LAG plan.second so-far [] [] (suc t)).driven) (world LAG plan.second so-far [] [] t)
      (trace LAG plan.second so-far [] [] (suc t)).driven (world-long plan.second so-far t ∙ sym now) st.second_bus.1)))

  -- where the next block is of a later tick
  pub due-later : (d : Delivery) → slice_get bridge.taken.items bridge.loaded ≡ Some d → suc t ≤ d.tick.0 → SecondRuns plan first (suc t) (suc t) bridge
  due-later d at late =
      none-due plan first t bridge st
      (next-later plan first t bridge st d (drop (bridge.loaded + 1) bridge.taken.items) (drop-next bridge.taken.items bridge.loaded d at) late)

-- ---- before its first tick, and after its last

drop-none : (ds : List Delivery) → drop 0 ds ≡ ds
drop-none [] = refl
drop-none (d ∷ ds) = refl

-- the first bus ended
pub first-second : (plan : BridgePlan) (first : ℕ) (bridge : Bridge) → EndsAt plan.first [] first → FirstRuns plan first bridge → SecondRuns plan first 0 0 bridge
first-second plan first bridge ends st =
    let none : loads_by plan.b plan.pairs (take bridge.loaded bridge.taken.items) ≡ [] =
    ap (λ (n : ℕ). loads_by plan.b plan.pairs (take n bridge.taken.items)) st.none_loaded ∙ ap (loads_by plan.b plan.pairs) (take-none bridge.taken.items) in
    record {
      may = st.may;
      first_ends = ends;
      first_within = st.within;
      first_bus = st.first_bus;
      second_bus = subst (λ (ls : List TimedLoad). RunsWith plan.second ls 0 bridge.second) (sym none) st.second_bus;
      b_is = st.b_is;
      pairs_are = st.pairs_are;
      taken_are = st.taken_are;
      blocks = st.blocks;
      later = subst (AreLater 0) (sym (ap (λ (n : ℕ). drop n bridge.taken.items) st.none_loaded ∙ drop-none bridge.taken.items ∙ st.taken_are))
          (ascend-later 0 (length (world LAG plan.first [] [] [] first)) (taken plan first) (handed-ascend plan (world LAG plan.first [] [] [] first) st.may.first));
      within = omega arith;
      before = λ t early. absurd (omega (arith, early));
    }

-- both ended: their log is that of both worlds
pub log-is : (plan : BridgePlan) (first second : ℕ) (bridge : Bridge) (log : BridgeLogData) → SecondRuns plan first second second bridge →
    length (world LAG plan.second (loads_by plan.b plan.pairs (take bridge.loaded bridge.taken.items)) [] [] second) ≡ second →
    EndsAt plan.second (loads plan first) second → log.taken ≡ bridge.taken.items →
    log.attempts ≡ attempts LAG plan.second (loads_by plan.b plan.pairs (take bridge.loaded bridge.taken.items)) [] []
    (world LAG plan.second (loads_by plan.b plan.pairs (take bridge.loaded bridge.taken.items)) [] [] second) →
    log.first_end.0 ≡ first → log.second_end.0 ≡ second →
    log.clashes ≡ clashes plan.first.faults (trace LAG plan.first [] [] [] first).driven
    + clashes plan.second.faults (trace LAG plan.second (loads_by plan.b plan.pairs (take bridge.loaded bridge.taken.items)) [] [] second).driven →
    IsLogOf plan log
unfolding bridge_log
log-is plan first second bridge log st long ends taken_are attempts_are first_is second_is clashes_are =
    let blocks : AreBlocks (loads plan first) = are-blocks plan first second second bridge st in
    let first_end : first ≡ table_end plan.first [] = ends-there plan.first [] st.may.first tt first st.first_within st.first_ends.over in
    let second_end : second ≡ table_end plan.second (loads plan first) = ends-there plan.second (loads plan first) st.may.second blocks second st.within ends.over in
    let found : log.attempts ≡ attempts LAG plan.second (loads plan first) [] [] (world LAG plan.second (loads plan first) [] [] second) =
    attempts_are ∙ sym (same-attempts plan first second second bridge st second long (omega arith)) in
    let both : log.clashes ≡ clashes plan.first.faults (trace LAG plan.first [] [] [] first).driven
    + clashes plan.second.faults (trace LAG plan.second (loads plan first) [] [] second).driven =
    clashes_are ∙ ap (λ (tr : Trace). clashes plan.first.faults (trace LAG plan.first [] [] [] first).driven + clashes plan.second.faults tr.driven)
    (sym (same-trace plan first second second bridge st second (omega arith))) in
    record {
      first = first;
      second = second;
      first_ends = st.first_ends;
      second_ends = ends;
      is = log-of log (taken plan first) _ first second _ (taken_are ∙ st.taken_are) found first_is second_is both;
      first_table = first_end;
      second_table = second_end;
      attempts_table = found
          ∙ ap (λ (n : ℕ). attempts LAG plan.second (loads plan first) [] [] (world LAG plan.second (loads plan first) [] [] n)) second_end
          ∙ attempts-there plan.second (loads plan first) st.may.second blocks;
      none_clash =
          (let one = ap (λ (n : ℕ). clashes plan.first.faults (trace LAG plan.first [] [] [] n).driven) first_end ∙ none-clash plan.first [] st.may.first tt in
          let two = ap (λ (n : ℕ). clashes plan.second.faults (trace LAG plan.second (loads plan first) [] [] n).driven) second_end
          ∙ none-clash plan.second (loads plan first) st.may.second blocks in
          omega (arith, both, one, two));
    }
  where
    log-of : (l : BridgeLogData) (ds : List Delivery) (all : List Attempt) (m n c : ℕ) → l.taken ≡ ds → l.attempts ≡ all → l.first_end.0 ≡ m → l.second_end.0 ≡ n →
        l.clashes ≡ c → l ≡ record { taken = ds; attempts = all; first_end = record { 0 = m }; second_end = record { 0 = n }; clashes = c }
    log-of l ds all m n c ed ea em en ec = rw (← ed, ← ea, ← em, ← en, ← ec) refl

-- several stations drive one channel in few ticks
pub clashes-small : (plan : BridgePlan) (first v u : ℕ) (bridge : Bridge) (st : SecondRuns plan first v u bridge) →
    (clashes plan.first.faults (trace LAG plan.first [] [] [] first).driven ≤ 2703360088)
    × (clashes plan.second.faults (trace LAG plan.second (loaded plan first v u bridge st) [] [] v).driven ≤ 2703360088)
clashes-small plan first v u bridge st = (
  (let few = clashes-few plan.first.faults (trace LAG plan.first [] [] [] first).driven in
      let long = driven-long plan.first [] first in
      let end = end-small plan.first [] st.may.first tt in
      let within = st.first_within in omega (arith, few, long, end, within)),
  (let ls : List TimedLoad = loaded plan first v u bridge st in
      let few = clashes-few plan.second.faults (trace LAG plan.second ls [] [] v).driven in
      let long = driven-long plan.second ls v in
      let end = end-small plan.second (loads plan first) st.may.second (are-blocks plan first v u bridge st) in
      let within = st.within in omega (arith, few, long, end, within)),
)
