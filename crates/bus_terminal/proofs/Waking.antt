-- A terminal that wakes stands for its memory and quiet ticks.
use Rattle.std.proofs.Common.{◌≡◌, ℕ, zero, suc, ◌<◌, Bool, true, false, ◌==◌, nat_lt, List, [], ◌∷◌, length, refl, sym, ap, ◌∙◌, subst, arith, inl, inr, if◌then◌else◌}
use Rattle.std.proofs.lemmas.Bool.{lt-ltb, eqb-true, cases_Bool}
use Rattle.bus_formats.specs.Plans.{TerminalData}
use Rattle.bus_model.specs.Memory.{Memory, TimedLoad, with_loads, load_due, load_block}
use Rattle.bus_model.specs.Hearing.{Moment}
use Rattle.bus_model.specs.Standing.{Standing, at_rest}
use Rattle.bus_terminal.specs.Quiet.{quiet_moments}
use Rattle.bus_terminal.proofs.Newest.{marked-quiet}
use Rattle.bus_terminal.specs.Stands.{AreMade, CommonStands, StateStands, RestsFrom}
use Rattle.bus_terminal.specs.declared.common.Common.{Common}
use Rattle.bus_terminal.specs.declared.state.TerminalState.{TerminalState}
use Rattle.bus_terminal.specs.declared.state.TerminalState.TheVariants as states

pub quiet-length : (n : ℕ) → length (quiet_moments n) ≡ n
quiet-length zero = refl
quiet-length (suc n) = ap suc (quiet-length n)

due-alike : (address n m : ℕ) (load : TimedLoad) → (load.address ≡ address → load.tick < n) → (load.address ≡ address → load.tick < m) →
    load_due address n load ≡ load_due address m load
due-alike address n m load f g = elim (cases_Bool (load.address == address)) [
  | inl same ↦ (let here : load.address ≡ address = eqb-true load.address address same in
      let one : nat_lt load.tick n ≡ true = lt-ltb load.tick n (f here) in
      let two : nat_lt load.tick m ≡ true = lt-ltb load.tick m (g here) in
      rw (one, two) refl)
  | inr other ↦ rw other refl
]

-- loads that were made are the same at each later tick
pub loads-alike : (address n m : ℕ) (loads : List TimedLoad) (memory : Memory) → AreMade address n loads → AreMade address m loads →
    with_loads address n loads memory ≡ with_loads address m loads memory
loads-alike address n m [] memory f g = refl
loads-alike address n m (load ∷ loads) memory f g =
    loads-alike address n m loads _ f.1 g.1 ∙ ap (λ (b : Bool). with_loads address m loads
    (if b then load_block memory load.sub load.words else memory)) (due-alike address n m load f.0 g.0)

pub woken-stands : (k : ℕ) (terminal : TerminalData) (loads : List TimedLoad) (state : TerminalState) (common : Common) (past : List Moment)
    (s : Standing) (kept : Memory) (n : ℕ) →
    CommonStands k terminal loads common past s → RestsFrom k state common → AreMade terminal.address n loads → common.memory ≡ kept →
    StateStands k terminal loads state (quiet_moments n) (at_rest kept)
woken-stands k terminal loads (states.Listening state) common past s kept n st rested made is =
    let same : state.common.memory ≡ kept = rested.1 ∙ is in
    let has : with_loads terminal.address (length (quiet_moments n)) loads common.memory ≡ common.memory =
    ap (λ (m : ℕ). with_loads terminal.address m loads common.memory) (quiet-length n)
    ∙ loads-alike terminal.address n (length past) loads common.memory made st.made ∙ st.absorbed in
    record {
      common = record {
        plan = rested.0 ∙ st.plan;
        fits = st.fits;
        memory = rested.1 ∙ sym has ∙ ap (with_loads terminal.address (length (quiet_moments n)) loads) is;
        absorbed = ap (with_loads terminal.address (length (quiet_moments n)) loads) rested.1 ∙ has ∙ sym rested.1;
        made = subst (λ (m : ℕ). AreMade terminal.address m loads) (sym (quiet-length n)) made;
        ears = rested.2 terminal.address n kept;
        ended = omega arith;
        marked = marked-quiet k terminal.address n kept;
        newest = λ left. (let no : false ≡ true = left in cc);
      };
      rests_now = refl;
    }
woken-stands k terminal loads (states.Promised state) common past s kept n st rested made is = absurd rested
woken-stands k terminal loads (states.Owing state) common past s kept n st rested made is = absurd rested
woken-stands k terminal loads (states.Answering state) common past s kept n st rested made is = absurd rested
