-- The loads of a terminal, and that orders leave the transmit blocks alone.
use Rattle.std.proofs.Common.{◌≡◌, ℕ, suc, ◌<◌, Bool, true, false, ◌==◌, nat_lt, List, [], ◌∷◌, Option, Some, None, refl, sym, ap, ◌∙◌, arith, inl, inr, if◌then◌else◌}
use Rattle.std.proofs.lemmas.Bool.{lt-ltb, eqb-true, cases_Bool}
use Rattle.bus_base.specs.declared.samples.Channel.{Channel}
use Rattle.bus_words.specs.declared.word.Word.{Word}
use Rattle.bus_formats.specs.Plans.{TerminalData}
use Rattle.bus_formats.specs.declared.log.Registers.{Registers}
use Rattle.bus_model.specs.Commands.{Tail, unexpected, relay_from, carries, has_code, is_illegal}
use Rattle.bus_model.specs.Memory.{Memory, TimedLoad, with_loads, load_due, load_block}
use Rattle.bus_model.specs.Orders.{marked, mode_effect, block_taken, Duty, Taken, Obeyed, after_taking, obey_tail, obey_data, kept, promises, owes, free}
use Rattle.bus_model.specs.Standing.{Standing, obeys, settles, runs_out, Handled}
use Rattle.bus_model.specs.Terminal.{done_by, kept_by}
use Rattle.bus_terminal.specs.Stands.{AreMade}

pub made-more : (address now : ℕ) (loads : List TimedLoad) → AreMade address now loads → AreMade address (suc now) loads
made-more address now [] h = tt
made-more address now (load ∷ loads) h = (λ e. omega (arith, h.0 e), made-more address now loads h.1)

due-same : (address now : ℕ) (load : TimedLoad) → (load.address ≡ address → load.tick < now) → load_due address (suc now) load ≡ load_due address now load
due-same address now load h = elim (cases_Bool (load.address == address)) [
  | inl same ↦ (let here : load.address ≡ address = eqb-true load.address address same in
      let one : nat_lt load.tick now ≡ true = lt-ltb load.tick now (h here) in
      let two : nat_lt load.tick (suc now) ≡ true = lt-ltb load.tick (suc now) (omega (arith, h here)) in
      rw (one, two) refl)
  | inr other ↦ rw other refl
]

-- loads that were made are as before in the next tick
pub loads-same : (address now : ℕ) (loads : List TimedLoad) (memory : Memory) → AreMade address now loads →
    with_loads address (suc now) loads memory ≡ with_loads address now loads memory
loads-same address now [] memory h = refl
loads-same address now (load ∷ loads) memory h =
    loads-same address now loads _ h.1 ∙ ap (λ (b : Bool). with_loads address now loads (if b then load_block memory load.sub load.words else memory))
    (due-same address now load h.0)

-- ---- orders and loads

by-test : {A : Type 0} (P : A → Type 0) (b : Bool) (x y : A) → P x → P y → P (if b then x else y)
by-test P true x y f g = f
by-test P false x y f g = g

abbrev Keeps : Memory → Obeyed → Type 0
Keeps memory o = o.memory.transmit ≡ memory.transmit

after-keeps : (memory : Memory) (registers : Registers) (taken : Option Taken) →
    (after_taking (record memory { registers = registers }) taken).transmit ≡ memory.transmit
after-keeps memory registers None = refl
after-keeps memory registers (Some taken) = refl

data-keeps : (terminal : TerminalData) (memory : Memory) (c : Channel) (command : ℕ) (words : List ℕ) (may : Bool) (registers : Registers) →
    Keeps memory (obey_data terminal memory c command words may registers)
data-keeps terminal memory c command words may registers =
    by-test (Keeps memory) (is_illegal terminal command) _ _ refl
    (by-test (Keeps memory) (has_code command 2) _ _ refl
    (by-test (Keeps memory) (has_code command 18) _ _ refl
    (by-test (Keeps memory) (has_code command 8) _ _ refl (after-keeps memory (mode_effect (marked registers command false) c command words)
    (block_taken terminal command words)))))

tail-keeps : (terminal : TerminalData) (memory : Memory) (c : Channel) (command : ℕ) (may : Bool) (tail : Tail) →
    Keeps memory (obey_tail terminal memory c command may tail)
tail-keeps terminal memory c command may unexpected = refl
tail-keeps terminal memory c command may (relay_from transmitter) = refl
tail-keeps terminal memory c command may (carries words) = data-keeps terminal memory c command words may memory.registers

kept-keeps : (terminal : TerminalData) (memory : Memory) (c : Channel) (command : ℕ) (words : Option (List ℕ)) →
    Keeps memory (kept terminal memory c command words)
kept-keeps terminal memory c command None = refl
kept-keeps terminal memory c command (Some words) =
    by-test (Keeps memory) (is_illegal terminal command) _ _ refl (after-keeps memory memory.registers (block_taken terminal command words))

promise-keeps : (k : ℕ) (terminal : TerminalData) (memory : Memory) (c : Channel) (duty : Duty) (slots : List (Option Word)) (rest : ℕ) →
    Keeps memory (kept_by k terminal memory c duty slots rest)
promise-keeps k terminal memory c free slots rest = refl
promise-keeps k terminal memory c (owes words acceptance) slots rest = refl
promise-keeps k terminal memory c (promises command transmitter) slots rest = kept-keeps terminal memory c command _

-- no order changes what is put up for sending
pub order-keeps : (k : ℕ) (terminal : TerminalData) (s : Standing) (memory : Memory) (may : Bool) (order : Handled) →
    (done_by k terminal s memory may order).memory.transmit ≡ memory.transmit
order-keeps k terminal s memory may (obeys c end order rest) = tail-keeps terminal memory c order.command may _
order-keeps k terminal s memory may (settles end slots rest) = promise-keeps k terminal memory s.channel s.duty slots rest
order-keeps k terminal s memory may runs_out = refl

-- ---- loads and what else is kept

load-like : (b : Bool) (load : TimedLoad) (m n : Memory) → m.transmit ≡ n.transmit →
    (if b then load_block m load.sub load.words else m).transmit ≡ (if b then load_block n load.sub load.words else n).transmit
load-like true load m n e = rw e refl
load-like false load m n e = e

loads-like : (address now : ℕ) (loads : List TimedLoad) (m n : Memory) → m.transmit ≡ n.transmit →
    (with_loads address now loads m).transmit ≡ (with_loads address now loads n).transmit
loads-like address now [] m n e = e
loads-like address now (load ∷ loads) m n e = loads-like address now loads _ _ (load-like (load_due address now load) load m n e)

load-leaves : (b : Bool) (load : TimedLoad) (m : Memory) →
    ((if b then load_block m load.sub load.words else m).registers ≡ m.registers) × ((if b then load_block m load.sub load.words else m).received ≡ m.received)
load-leaves true load m = (refl, refl)
load-leaves false load m = (refl, refl)

loads-leave : (address now : ℕ) (loads : List TimedLoad) (m : Memory) →
    ((with_loads address now loads m).registers ≡ m.registers) × ((with_loads address now loads m).received ≡ m.received)
loads-leave address now [] m = (refl, refl)
loads-leave address now (load ∷ loads) m =
    let after : Memory = if load_due address now load then load_block m load.sub load.words else m in
    let rest = loads-leave address now loads after in
    let one = load-leaves (load_due address now load) load m in
    (rest.0 ∙ one.0, rest.1 ∙ one.1)

memory-same : (m n : Memory) → m.registers ≡ n.registers → m.received ≡ n.received → m.transmit ≡ n.transmit → m ≡ n
memory-same m n p q r =
    ap (λ (x : Registers). record m { registers = x }) p ∙ ap (λ (x : List (List ℕ)). record n { received = x; transmit = m.transmit }) q
    ∙ ap (λ (x : List (List ℕ)). record n { transmit = x }) r

-- a memory with the same transmit blocks has the loads too
pub absorbed-like : (address now : ℕ) (loads : List TimedLoad) (m n : Memory) → with_loads address now loads m ≡ m → n.transmit ≡ m.transmit →
    with_loads address now loads n ≡ n
absorbed-like address now loads m n has same =
    let leave = loads-leave address now loads n in
    memory-same (with_loads address now loads n) n leave.0 leave.1
    (loads-like address now loads n m same ∙ ap (λ (x : Memory). x.transmit) has ∙ sym same)
