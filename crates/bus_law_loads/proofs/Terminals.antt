-- Blocks that are put up for sending later change nothing of a terminal.
use Rattle.std.proofs.Common.{◌≡◌, ℕ, ◌≤◌, Bool, true, false, ◌&&◌, nat_lt, ◌==◌, List, [], ◌∷◌, ◌++◌, length, Option, Some, None, refl, ap, ◌∙◌, arith, if◌then◌else◌}
use Rattle.std.proofs.lemmas.Bool.{le-ltb}
use Rattle.bus_formats.specs.Plans.{TerminalData}
use Rattle.bus_model.specs.Memory.{Memory, TimedLoad, with_loads, load_due, load_block}
use Rattle.bus_model.specs.Hearing.{Moment, Hearing}
use Rattle.bus_model.specs.Standing.{Standing, Handled}
use Rattle.bus_model.specs.Terminal.{standing, after_tick, ordered, marked_by, order_now, after_order, done_by, accepted_now, accepted_on, memory_after, drives, drive_of}
use Rattle.bus_law_loads.specs.Later.{AreFrom}

-- what comes from a tick on comes from each earlier one on
pub from-before : (n m : ℕ) (later : List TimedLoad) → m ≤ n → AreFrom n later → AreFrom m later
from-before n m [] early from = tt
from-before n m (load ∷ later) early from = ((let at = from.0 in omega (arith, early, at)), from-before n m later early from.1)

and-false : (b : Bool) → (b && false) ≡ false
and-false true = refl
and-false false = refl

-- a load at a tick counts for nothing up to that tick
not-due : (address now : ℕ) (load : TimedLoad) → now ≤ load.tick → load_due address now load ≡ false
not-due address now load h = let late : nat_lt load.tick now ≡ false = le-ltb load.tick now h in rw late (and-false (load.address == address))

-- loads from a tick on leave the memory as it is up to that tick
late-alone : (address now : ℕ) (later : List TimedLoad) (m : Memory) → AreFrom now later → with_loads address now later m ≡ m
late-alone address now [] m from = refl
late-alone address now (load ∷ later) m from = rw (not-due address now load from.0) (late-alone address now later m from.1)

pub late-loads : (address now : ℕ) (loads later : List TimedLoad) (m : Memory) → AreFrom now later →
    with_loads address now (loads ++ later) m ≡ with_loads address now loads m
late-loads address now [] later m from = late-alone address now later m from
late-loads address now (first ∷ loads) later m from =
    late-loads address now loads later (if load_due address now first then load_block m first.sub first.words else m) from

module _ (k : ℕ) (terminal : TerminalData) (loads later : List TimedLoad) (n : ℕ) (from : AreFrom n later) where
  -- an order up to that tick does the same
  ordered-late : (tick : ℕ) (may : Bool) (s : Standing) (o : Option Handled) → tick ≤ n →
      ordered k terminal (loads ++ later) tick may s o ≡ ordered k terminal loads tick may s o
  ordered-late tick may s None early = refl
  ordered-late tick may s (Some order) early =
      ap (λ (m : Memory). after_order s order (done_by k terminal s m may order))
      (late-loads terminal.address tick loads later s.memory (from-before n tick later early from))

  -- so the same stands
  pub standing-late : (memory : Memory) (past : List Moment) → length past ≤ n →
      standing k terminal (loads ++ later) memory past ≡ standing k terminal loads memory past
  unfolding standing
  standing-late memory [] early = refl
  standing-late memory (now ∷ past) early =
      let s : Standing = standing k terminal loads memory past in
      ap (after_tick k terminal (loads ++ later) now past) (standing-late memory past (omega (arith, early)))
      ∙ ap (marked_by k terminal now past s)
      (ordered-late (length past) now.has_items s (order_now k terminal (now ∷ past) s) (omega (arith, early)))

  -- the same is kept
  pub memory-late : (h : Hearing) → length h.ticks ≤ n → memory_after k terminal (loads ++ later) h ≡ memory_after k terminal loads h
  memory-late h early =
      ap (λ (s : Standing). with_loads terminal.address (length h.ticks) (loads ++ later) s.memory) (standing-late h.memory h.ticks early)
      ∙ late-loads terminal.address (length h.ticks) loads later (standing k terminal loads h.memory h.ticks).memory
      (from-before n (length h.ticks) later early from)

  -- the same is sent
  pub drives-late : (h : Hearing) → length h.ticks ≤ n → drives k terminal (loads ++ later) h ≡ drives k terminal loads h
  drives-late h early = ap (drive_of k terminal h.ticks) (standing-late h.memory h.ticks early)

  -- and control is accepted as before
  pub accepted-late : (m : Moment) (h : Hearing) → length h.ticks ≤ n →
      accepted_now k terminal (loads ++ later) (record { memory = h.memory; ticks = m ∷ h.ticks })
      ≡ accepted_now k terminal loads (record { memory = h.memory; ticks = m ∷ h.ticks })
  accepted-late m h early = ap (accepted_on k terminal loads m h.ticks) (standing-late h.memory h.ticks early)
