-- Timed loads: one more, and one that is made twice.
use Rattle.std.proofs.Common.{◌≡◌, ◌≢◌, ℕ, ◌<◌, ◌≤◌, Bool, true, false, ◌&&◌, ◌==◌, nat_lt, List, [], ◌∷◌, ◌++◌, refl, ap, ◌∙◌, inl, inr, if◌then◌else◌}
use Rattle.std.proofs.lemmas.Bool.{lt-ltb, le-ltb, eq-eqb, eqb-true, cases_Bool}
use Rattle.std.proofs.lemmas.List.{set-set, set_comm}
use Rattle.bus_model.specs.Memory.{Memory, TimedLoad, with_loads, load_due, load_block}
use Rattle.bus_terminal.specs.Stands.{AreMade}

-- nothing and something is nothing
and-false : (b : Bool) → (b && false) ≡ false
and-false true = refl
and-false false = refl

-- a load at a tick counts for nothing up to that tick
not-due : (address now : ℕ) (load : TimedLoad) → now ≤ load.tick → load_due address now load ≡ false
not-due address now load h = let late : nat_lt load.tick now ≡ false = le-ltb load.tick now h in rw late (and-false (load.address == address))

-- so it leaves the memory as it is
pub late-load : (address now : ℕ) (loads : List TimedLoad) (load : TimedLoad) (m : Memory) → now ≤ load.tick →
    with_loads address now (loads ++ load ∷ []) m ≡ with_loads address now loads m
late-load address now [] load m h = rw (not-due address now load h) refl
late-load address now (first ∷ loads) load m h = late-load address now loads load _ h

-- and is in the memory from the next tick on
is-due : (address now : ℕ) (load : TimedLoad) → load.address ≡ address → load.tick < now → load_due address now load ≡ true
is-due address now load e h =
    let same : (load.address == address) ≡ true = eq-eqb load.address address e in
    let early : nat_lt load.tick now ≡ true = lt-ltb load.tick now h in
    rw (same, early) refl

-- there it is the last
pub made-load : (address now : ℕ) (loads : List TimedLoad) (load : TimedLoad) (m : Memory) → load.address ≡ address → load.tick < now →
    with_loads address now (loads ++ load ∷ []) m ≡ load_block (with_loads address now loads m) load.sub load.words
made-load address now [] load m e h = rw (is-due address now load e h) refl
made-load address now (first ∷ loads) load m e h = made-load address now loads load _ e h

-- loads that were made, with one more
pub made-append : (address now : ℕ) (loads : List TimedLoad) (load : TimedLoad) → AreMade address now loads → load.tick < now →
    AreMade address now (loads ++ load ∷ [])
made-append address now [] load made h = (λ e. h, tt)
made-append address now (first ∷ loads) load made h = (made.0, made-append address now loads load made.1 h)

-- ---- a block that is put up twice

-- of two loads of one block the later counts
twice : (m : Memory) (i j : ℕ) (xs ys : List ℕ) → i ≡ j → load_block (load_block m i xs) j ys ≡ load_block m j ys
twice m i j xs ys e = rw e (ap (λ (t : List (List ℕ)). record m { transmit = t }) (set-set m.transmit j xs ys))

-- loads of two blocks may change places
apart : (m : Memory) (i j : ℕ) (xs ys : List ℕ) → i ≢ j → load_block (load_block m i xs) j ys ≡ load_block (load_block m j ys) i xs
apart m i j xs ys e = ap (λ (t : List (List ℕ)). record m { transmit = t }) (set_comm m.transmit i j xs ys e)

-- what a block held before other loads counts no more once it is put up again
swallowed-by : (address now : ℕ) (b : Bool) (load : TimedLoad) (loads : List TimedLoad) (sub : ℕ) (words : List ℕ) (m : Memory) →
    ((n : Memory) → load_block (with_loads address now loads (load_block n sub words)) sub words ≡ load_block (with_loads address now loads n) sub words) →
    load_block (with_loads address now loads (if b then load_block (load_block m sub words) load.sub load.words else load_block m sub words)) sub words
    ≡ load_block (with_loads address now loads (if b then load_block m load.sub load.words else m)) sub words
swallowed-by address now false load loads sub words m rest = rest m
swallowed-by address now true load loads sub words m rest = elim (cases_Bool (sub == load.sub)) [
  | inl same ↦ ap (λ (x : Memory). load_block (with_loads address now loads x) sub words) (twice m sub load.sub words load.words (eqb-true sub load.sub same))
  | inr other ↦ (
      let differ : sub ≢ load.sub = λ e. (let same : (sub == load.sub) ≡ true = eq-eqb sub load.sub e in cc) in
      ap (λ (x : Memory). load_block (with_loads address now loads x) sub words) (apart m sub load.sub words load.words differ)
      ∙ rest (load_block m load.sub load.words))
]

-- by all other loads
pub swallowed : (address now : ℕ) (loads : List TimedLoad) (sub : ℕ) (words : List ℕ) (m : Memory) →
    load_block (with_loads address now loads (load_block m sub words)) sub words ≡ load_block (with_loads address now loads m) sub words
swallowed address now [] sub words m = twice m sub sub words words refl
swallowed address now (load ∷ loads) sub words m =
    swallowed-by address now (load_due address now load) load loads sub words m (λ n. swallowed address now loads sub words n)
