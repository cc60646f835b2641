-- When the next attempt starts: soon after all is over, and not before its frame is planned.
use Rattle.std.proofs.Common.{◌≡◌, ◌≢◌, ℕ, suc, ◌+◌, ◌≤◌, Bool, true, false, List, [], ◌∷◌, Option, Some, None, refl, sym, subst, arith}
use Rattle.std.proofs.lemmas.Bool.{true≢false}
use Rattle.std.proofs.lemmas.Bool.Decides.{nat_tests}
use Rattle.std.specs.Prelude.{max, IsSome, if◌then◌else◌, ◌==◌}
use Rattle.bus_base.specs.declared.samples.Channel.{Channel}
use Rattle.bus_formats.specs.Times.{dead_ticks}
use Rattle.bus_formats.specs.declared.form.Outcome.{Outcome}
use Rattle.bus_formats.specs.declared.form.Outcome.TheVariants.{Clear, Sent, Declined, Passed, Illegal, Busy, NoResponse, BadReply, Abandoned, Yielded}
use Rattle.bus_retry.specs.declared.Choice.{Choice}
use Rattle.bus_retry.specs.declared.Choice.TheVariants.{Again, Done}
use Rattle.bus_retry.specs.declared.RetryState.{RetryState}
use Rattle.bus_load.proofs.Paced.{SameFrame, IsNear}
use Rattle.bus_model.specs.Starts.{Entry, Opening, usual, superseding, taking, opening_after, first_origin, planned_start, start_of, retry_by, left_after}
use Rattle.bus_model.specs.Strikes.{ShownAnswer, burst_end}
use Rattle.bus_law_plans.proofs.Lists.{drop-none}

-- the tick of an entry's frame, counted from the first frame
abbrev pub frame_start : Entry → ℕ
frame_start entry = first_origin.tick + entry.offset

-- from this tick on both channels are quiet, where this answer runs on to its end
abbrev pub over_at : Option ShownAnswer → ℕ → ℕ
over_at None z = z
over_at (Some answer) z = max z (burst_end answer.burst)

-- the frame of the next entry is planned for so many ticks after z at most; and it has begun, where the entry isn't its first, or is tried again
pub record IsEntryNear (most z : ℕ) (retry : Option RetryState) (entry : Entry) : Type 0 where
  pub planned : frame_start entry ≤ z + most
  pub begun : entry.place ≢ 1 → frame_start entry ≤ z
  pub again : IsSome retry → frame_start entry ≤ z

abbrev pub IsLeftNear : ℕ → ℕ → Option RetryState → List Entry → Type 0
IsLeftNear most z retry [] = Unit {0}
IsLeftNear most z retry (entry ∷ later) = IsEntryNear most z retry entry

-- an entry within a frame that began by this tick
abbrev pub IsBegun : ℕ → List Entry → Type 0
IsBegun tick [] = Unit {0}
IsBegun tick (entry ∷ later) = (entry.place ≢ 1) × (frame_start entry ≤ tick)

-- the next attempt waits for 40 ticks at most, or supersedes an answer that runs on
abbrev pub OpensNear : ℕ → Opening → Option RetryState → List Entry → Type 0
OpensNear over (usual need tick) retry left = (need ≤ 40) × (tick ≤ over + 40)
OpensNear over (superseding tick channel) retry left = (tick ≤ over) × (retry ≡ None) × IsBegun tick left
OpensNear over (taking tick) retry left = ⊥

-- ---- the start

earliest-near : (place planned high : ℕ) → planned ≤ high → (if place == 1 then planned else 0) ≤ high
earliest-near place planned high near = by-test (place == 1)
  where
    by-test : (b : Bool) → (if b then planned else 0) ≤ high
    by-test true = near
    by-test false = omega arith

module _ (most over z : ℕ) (settles : 40 ≤ most) (order : z ≤ over) (entry : Entry) (later : List Entry) (gap : dead_ticks entry.item.gap ≤ most) where
  -- it is at most so long after all is over
  pub starts-near : (opening : Opening) (retry : Option RetryState) → OpensNear over opening retry (entry ∷ later) → IsEntryNear most z retry entry →
      start_of opening retry first_origin entry z ≤ over + most
  starts-near (usual need tick) None opens near =
      let planned : planned_start first_origin entry ≤ over + most = omega (arith, near.planned, order) in
      let first = earliest-near entry.place (planned_start first_origin entry) (over + most) planned in
      omega (arith, opens.0, opens.1, order, settles, gap, first)
  starts-near (usual need tick) (Some state) opens near = omega (arith, opens.0, opens.1, order, settles)
  starts-near (superseding tick channel) retry opens near = omega (arith, opens.0)
  starts-near (taking tick) retry opens near = absurd opens

  planned-first : (place planned tick high : ℕ) → place ≡ 1 → planned ≤ max high (max tick (if place == 1 then planned else 0))
  planned-first place planned tick high first =
      let test : (place == 1) ≡ true = grind (arith, nat_tests, first) in
      subst (λ (b : Bool). planned ≤ max high (max tick (if b then planned else 0))) (sym test) (omega arith)

  later-place : (place : ℕ) → (place == 1) ≡ false → place ≢ 1
  later-place place test = λ is. grind (arith, nat_tests, test, is)

  first-place : (place : ℕ) → (place == 1) ≡ true → place ≡ 1
  first-place place test = grind (arith, nat_tests, test)

  -- it isn't before its frame
  pub starts-planned : (opening : Opening) (retry : Option RetryState) → OpensNear over opening retry (entry ∷ later) → IsEntryNear most z retry entry →
      frame_start entry ≤ start_of opening retry first_origin entry z
  starts-planned (usual need tick) None opens near = by-place (entry.place == 1) refl
    where
      waits : ℕ
      waits = z + max need (dead_ticks entry.item.gap)

      by-place : (b : Bool) → (entry.place == 1) ≡ b → frame_start entry ≤ max waits (max tick (if entry.place == 1 then planned_start first_origin entry else 0))
      by-place true is =
          let planned = planned-first entry.place (planned_start first_origin entry) tick waits (first-place entry.place is) in
          let same : frame_start entry ≤ planned_start first_origin entry = omega arith in
          omega (arith, planned, same)
      by-place false is =
          let began = near.begun (later-place entry.place is) in
          let waited : z ≤ waits = omega arith in
          high-enough waits (max tick (if entry.place == 1 then planned_start first_origin entry else 0)) (omega (arith, began, waited))
        where
          high-enough : (a b : ℕ) → frame_start entry ≤ a → frame_start entry ≤ max a b
          high-enough a b low = omega (arith, low)
  starts-planned (usual need tick) (Some state) opens near = omega (arith, near.again refl)
  starts-planned (superseding tick channel) retry opens near = opens.2.1
  starts-planned (taking tick) retry opens near = absurd opens

-- ---- what is left after an attempt

module _ (most z : ℕ) (entry : Entry) (later : List Entry) (began : frame_start entry ≤ z) (near : IsNear most entry later) (same : SameFrame entry later) where
  next-near : (xs : List Entry) → IsNear most entry xs → SameFrame entry xs → IsLeftNear most z None xs
  next-near [] close frame = tt
  next-near (next ∷ xs) close frame = record {
    planned = omega (arith, began, close);
    begun = λ other. let within = frame other in omega (arith, began, within);
    again = λ some. absurd (true≢false (sym some));
  }

  pub left-near : (choice : Choice) → IsLeftNear most z (retry_by choice) (left_after choice (entry ∷ later))
  left-near Done = subst (IsLeftNear most z None) (sym (drop-none later)) (next-near later near same)
  left-near (Again state) = record { planned = omega (arith, began); begun = λ other. began; again = λ some. began }

-- ---- what the next attempt waits for

pub usual-near : (over tick : ℕ) (channel : Channel) (retry : Option RetryState) (left : List Entry) (outcome : Outcome) → suc tick ≤ over + 25 → (outcome ≡ Abandoned → ⊥) →
    OpensNear over (opening_after outcome channel tick) retry left
usual-near over tick channel retry left Clear soon never = (omega arith, omega (arith, soon))
usual-near over tick channel retry left Sent soon never = (omega arith, omega (arith, soon))
usual-near over tick channel retry left Declined soon never = (omega arith, omega (arith, soon))
usual-near over tick channel retry left Passed soon never = (omega arith, omega (arith, soon))
usual-near over tick channel retry left (Illegal part) soon never = (omega arith, omega (arith, soon))
usual-near over tick channel retry left (Busy part) soon never = (omega arith, omega (arith, soon))
usual-near over tick channel retry left (NoResponse part) soon never = (omega arith, omega (arith, soon))
usual-near over tick channel retry left (BadReply part) soon never = (omega arith, omega (arith, soon))
usual-near over tick channel retry left Yielded soon never = (omega arith, omega (arith, soon))
usual-near over tick channel retry left Abandoned soon never = absurd (never refl)
