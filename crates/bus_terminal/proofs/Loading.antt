-- A block is put up for sending: a timed load at the last tick heard, or at once where none was heard.
use Rattle.std.proofs.Common.{◌≡◌, ◌≢◌, ℕ, suc, ◌<◌, ◌≤◌, Bool, true, false, ◌&&◌, ◌==◌, nat_lt, List, [], ◌∷◌, ◌++◌, length, Option, Some, None, refl, sym, ap, ◌∙◌, arith, inl, inr, if◌then◌else◌}
use Rattle.std.proofs.lemmas.Bool.{lt-ltb, le-ltb, eq-eqb, eqb-true, cases_Bool}
use Rattle.std.proofs.lemmas.List.{set-set, set_comm}
use Rattle.bus_formats.specs.Plans.{TerminalData}
use Rattle.bus_model.specs.Memory.{Memory, TimedLoad, with_loads, load_due, load_block}
use Rattle.bus_model.specs.Orders.{Duty, free, owes, promises}
use Rattle.bus_model.specs.Hearing.{Moment}
use Rattle.bus_model.specs.Standing.{Standing, Handled, at_rest}
use Rattle.bus_model.specs.Terminal.{standing, after_tick, ordered, marked_by, order_now, after_order, done_by}
use Rattle.bus_terminal.specs.Stands.{AreMade, CommonStands, StateStands, rests}
use Rattle.bus_terminal.specs.Shown.{common_of, loaded_common, loaded_state}
use Rattle.bus_terminal.specs.declared.common.Common.{Common}
use Rattle.bus_terminal.specs.declared.state.TerminalState.{TerminalState}
use Rattle.bus_terminal.specs.declared.state.TerminalState.TheVariants as states

-- ---- one load more

and-false : (b : Bool) → (b && false) ≡ false
and-false true = refl
and-false false = refl

-- a load at a tick counts for nothing up to that tick
not-due : (address now : ℕ) (load : TimedLoad) → now ≤ load.tick → load_due address now load ≡ false
not-due address now load h = let late : nat_lt load.tick now ≡ false = le-ltb load.tick now h in rw late (and-false (load.address == address))

late-load : (address now : ℕ) (loads : List TimedLoad) (load : TimedLoad) (m : Memory) → now ≤ load.tick →
    with_loads address now (loads ++ load ∷ []) m ≡ with_loads address now loads m
late-load address now [] load m h = rw (not-due address now load h) refl
late-load address now (first ∷ loads) load m h = late-load address now loads load _ h

-- and is in the memory from the next tick on
is-due : (address now : ℕ) (load : TimedLoad) → load.address ≡ address → load.tick < now → load_due address now load ≡ true
is-due address now load e h =
    let same : (load.address == address) ≡ true = eq-eqb load.address address e in
    let early : nat_lt load.tick now ≡ true = lt-ltb load.tick now h in
    rw (same, early) refl

made-load : (address now : ℕ) (loads : List TimedLoad) (load : TimedLoad) (m : Memory) → load.address ≡ address → load.tick < now →
    with_loads address now (loads ++ load ∷ []) m ≡ load_block (with_loads address now loads m) load.sub load.words
made-load address now [] load m e h = rw (is-due address now load e h) refl
made-load address now (first ∷ loads) load m e h = made-load address now loads load _ e h

made-append : (address now : ℕ) (loads : List TimedLoad) (load : TimedLoad) → AreMade address now loads → load.tick < now →
    AreMade address now (loads ++ load ∷ [])
made-append address now [] load made h = (λ e. h, tt)
made-append address now (first ∷ loads) load made h = (made.0, made-append address now loads load made.1 h)

-- ---- a block that is put up twice

twice : (m : Memory) (i j : ℕ) (xs ys : List ℕ) → i ≡ j → load_block (load_block m i xs) j ys ≡ load_block m j ys
twice m i j xs ys e = rw e (ap (λ (t : List (List ℕ)). record m { transmit = t }) (set-set m.transmit j xs ys))

apart : (m : Memory) (i j : ℕ) (xs ys : List ℕ) → i ≢ j → load_block (load_block m i xs) j ys ≡ load_block (load_block m j ys) i xs
apart m i j xs ys e = ap (λ (t : List (List ℕ)). record m { transmit = t }) (set_comm m.transmit i j xs ys e)

-- what a block held before other loads counts no more once it is put up again
swallowed-by : (address now : ℕ) (b : Bool) (load : TimedLoad) (loads : List TimedLoad) (sub : ℕ) (words : List ℕ) (m : Memory) →
    ((n : Memory) → load_block (with_loads address now loads (load_block n sub words)) sub words ≡ load_block (with_loads address now loads n) sub words) →
    load_block (with_loads address now loads (if b then load_block (load_block m sub words) load.sub load.words else load_block m sub words)) sub words
    ≡ load_block (with_loads address now loads (if b then load_block m load.sub load.words else m)) sub words
swallowed-by address now false load loads sub words m rest = rest m
swallowed-by address now true load loads sub words m rest = elim (cases_Bool (sub == load.sub)) [
  | inl same ↦ ap (λ (x : Memory). load_block (with_loads address now loads x) sub words) (twice m sub load.sub words load.words (eqb-true sub load.sub same))
  | inr other ↦ (
      let differ : sub ≢ load.sub = λ e. (let same : (sub == load.sub) ≡ true = eq-eqb sub load.sub e in cc) in
      ap (λ (x : Memory). load_block (with_loads address now loads x) sub words) (apart m sub load.sub words load.words differ)
      ∙ rest (load_block m load.sub load.words))
]

swallowed : (address now : ℕ) (loads : List TimedLoad) (sub : ℕ) (words : List ℕ) (m : Memory) →
    load_block (with_loads address now loads (load_block m sub words)) sub words ≡ load_block (with_loads address now loads m) sub words
swallowed address now [] sub words m = twice m sub sub words words refl
swallowed address now (load ∷ loads) sub words m =
    swallowed-by address now (load_due address now load) load loads sub words m (λ n. swallowed address now loads sub words n)

absorbed-load : (address now : ℕ) (loads : List TimedLoad) (load : TimedLoad) (m : Memory) → load.address ≡ address → load.tick < now →
    with_loads address now loads m ≡ m →
    with_loads address now (loads ++ load ∷ []) (load_block m load.sub load.words) ≡ load_block m load.sub load.words
absorbed-load address now loads load m e h has =
    made-load address now loads load (load_block m load.sub load.words) e h
    ∙ swallowed address now loads load.sub load.words m
    ∙ ap (λ (x : Memory). load_block x load.sub load.words) has

-- no load was made before the first tick
pub none-made : (address : ℕ) (loads : List TimedLoad) (m : Memory) → with_loads address 0 loads m ≡ m
none-made address [] m = refl
none-made address (load ∷ loads) m = rw (not-due address 0 load (omega arith)) (none-made address loads m)

-- ---- what stands

ordered-load : (k : ℕ) (terminal : TerminalData) (loads : List TimedLoad) (load : TimedLoad) (tick : ℕ) (may : Bool) (s : Standing)
    (o : Option Handled) → tick ≤ load.tick →
    ordered k terminal (loads ++ load ∷ []) tick may s o ≡ ordered k terminal loads tick may s o
ordered-load k terminal loads load tick may s None h = refl
ordered-load k terminal loads load tick may s (Some order) h =
    ap (λ (m : Memory). after_order s order (done_by k terminal s m may order)) (late-load terminal.address tick loads load s.memory h)

-- no order was handled after the load
pub standing-load : (k : ℕ) (terminal : TerminalData) (loads : List TimedLoad) (load : TimedLoad) (memory : Memory) (past : List Moment) →
    length past ≤ suc load.tick →
    standing k terminal (loads ++ load ∷ []) memory past ≡ standing k terminal loads memory past
unfolding standing
standing-load k terminal loads load memory [] h = refl
standing-load k terminal loads load memory (now ∷ past) h =
    let s : Standing = standing k terminal loads memory past in
    ap (after_tick k terminal (loads ++ load ∷ []) now past) (standing-load k terminal loads load memory past (omega (arith, h)))
    ∙ ap (marked_by k terminal now past s) (ordered-load k terminal loads load (length past) now.has_items s (order_now k terminal (now ∷ past) s) (omega (arith, h)))

pub common-timed : (k : ℕ) (terminal : TerminalData) (loads : List TimedLoad) (load : TimedLoad) (common : Common) (past : List Moment) (s : Standing) →
    CommonStands k terminal loads common past s → load.address ≡ terminal.address → load.tick < length past →
    CommonStands k terminal (loads ++ load ∷ []) (loaded_common common load.sub load.words) past s
common-timed k terminal loads load common past s st e h = record {
  plan = st.plan;
  fits = st.fits;
  memory = ap (λ (m : Memory). load_block m load.sub load.words) st.memory ∙ sym (made-load terminal.address (length past) loads load s.memory e h);
  absorbed = absorbed-load terminal.address (length past) loads load common.memory e h st.absorbed;
  made = made-append terminal.address (length past) loads load st.made h;
  ears = st.ears;
  ended = st.ended;
  marked = st.marked;
  newest = st.newest;
}

pub common-at-once : (k : ℕ) (terminal : TerminalData) (loads : List TimedLoad) (common : Common) (memory : Memory) (sub : ℕ) (words : List ℕ) →
    CommonStands k terminal loads common [] (at_rest memory) →
    CommonStands k terminal loads (loaded_common common sub words) [] (at_rest (load_block memory sub words))
common-at-once k terminal loads common memory sub words st = record {
  plan = st.plan;
  fits = st.fits;
  memory = ap (λ (m : Memory). load_block m sub words) (st.memory ∙ none-made terminal.address loads memory) ∙ sym (none-made terminal.address loads
      (load_block memory sub words));
  absorbed = none-made terminal.address loads (load_block common.memory sub words);
  made = st.made;
  ears = record { on_a = st.ears.on_a; on_b = st.ears.on_b };
  ended = st.ended;
  marked = record { on = st.marked.on };
  newest = λ left. (let no : false ≡ true = left in cc);
}

-- ---- the states

rests-kept : (k : ℕ) (terminal : TerminalData) (past : List Moment) (s : Standing) (m : Memory) (d : Duty) → rests k terminal past s d ≡ true →
    rests k terminal past (record s { memory = m }) d ≡ true
rests-kept k terminal past s m free h = refl
rests-kept k terminal past s m (promises command transmitter) h = h
rests-kept k terminal past s m (owes words acceptance) h = h

-- a state stands with another memory where what is common stands
pub state-loaded : (k : ℕ) (terminal : TerminalData) (loads more : List TimedLoad) (state : TerminalState) (past : List Moment) (s : Standing)
    (m : Memory) (sub : ℕ) (words : List ℕ) →
    StateStands k terminal loads state past s → CommonStands k terminal more (loaded_common (common_of state) sub words) past (record s { memory = m }) →
    StateStands k terminal more (loaded_state state sub words) past (record s { memory = m })
state-loaded k terminal loads more (states.Listening state) past s m sub words st same =
    record { common = same; rests_now = rests-kept k terminal past s m s.duty st.rests_now }
state-loaded k terminal loads more (states.Promised state) past s m sub words st same = record {
  common = same;
  waiting = record { channel = st.waiting.channel; end = st.waiting.end; duty = st.waiting.duty };
  fresh = st.fresh;
  heard = st.heard;
  within = st.within;
  awaited = st.awaited;
  heeded = st.heeded;
}
state-loaded k terminal loads more (states.Owing state) past s m sub words st same = record {
  common = same;
  sends = record { channel = st.sends.channel; end = st.sends.end; part = st.sends.part; duty = st.sends.duty };
  kept = st.kept;
  early = st.early;
}
state-loaded k terminal loads more (states.Answering state) past s m sub words st same = record {
  common = same;
  sends = record { channel = st.sends.channel; end = st.sends.end; part = st.sends.part; duty = st.sends.duty };
  kept = st.kept;
  runs = st.runs;
  sent = st.sent;
  marked = st.marked;
}
