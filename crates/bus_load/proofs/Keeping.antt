-- Each attempt of a run keeps the frames on time.
use Rattle.std.proofs.Common.{◌≡◌, ℕ, zero, suc, ◌+◌, ◌-◌, ◌*◌, ◌<◌, ◌≤◌, Bool, true, false, List, [], ◌∷◌, length, Option, Some, None, refl, sym, ap, subst, arith}
use Rattle.std.proofs.lemmas.Option.{none-some}
use Rattle.std.specs.Prelude.{IfSome, IsSome, slice_get, if◌then◌else◌}
use Rattle.bus_base.specs.declared.samples.Channel.{Channel}
use Rattle.bus_formats.specs.Forms.{answers_of}
use Rattle.bus_formats.specs.declared.form.Outcome.{Outcome}
use Rattle.bus_formats.specs.declared.form.Outcome.TheVariants.{Clear, Sent, Declined, Passed, Illegal, Busy, NoResponse, BadReply, Abandoned, Yielded}
use Rattle.bus_formats.specs.declared.form.Shape.{Shape}
use Rattle.bus_formats.specs.declared.plan.Turn.{Turn}
use Rattle.bus_retry.specs.Retries.{next_of, may_retry, again}
use Rattle.bus_retry.specs.declared.Choice.{Choice}
use Rattle.bus_retry.specs.declared.Choice.TheVariants.{Done}
use Rattle.bus_retry.specs.declared.RetryState.{RetryState}
use Rattle.bus_load.proofs.Begins.{once-more, attempt_ticks, Tries, LeftOnTime, OpensWell}
use Rattle.bus_load.proofs.OnTime.{IsWithinFrame, OnTime}
use Rattle.bus_model.specs.Starts.{Entry, Opening, usual, opening_after, retry_by, left_after}
use Rattle.bus_model.specs.Strikes.{burst_end, ShownAnswer}
use Rattle.bus_law_plans.specs.Bounds.{opening_tick, opening_need}
use Rattle.bus_law_plans.proofs.Lists.{drop-none}

-- ---- what the next attempt waits for

-- both channels are free for it by this tick
pub record FreeBy (long : Bool) (by : ℕ) (opening : Opening) (retry : Option RetryState) (quiet_from : ℕ) (on : Option ShownAnswer) (left : List Entry) : Type 0 where
  pub well : OpensWell long opening retry left
  pub opens : opening_tick opening ≤ by
  pub quiet : quiet_from + opening_need opening ≤ by
  pub old : IfSome on (λ answer. burst_end answer.burst + 40 ≤ by)
  pub on_time : LeftOnTime long by retry left

-- what a message leaves: all is over by tick last, and an answer runs on only where it was abandoned
pub record Leaves (last tick quiet_from : ℕ) (outcome : Outcome) (on : Option ShownAnswer) (retry : Option RetryState) (left : List Entry) : Type 0 where
  pub ends : suc tick ≤ last + 40
  pub quiet : quiet_from ≤ last
  pub old : IfSome on (λ answer. burst_end answer.burst ≤ last)
  pub abandoned : outcome ≡ Abandoned → IsWithinFrame left × (retry ≡ None)

old-by : (last by : ℕ) (on : Option ShownAnswer) → last + 40 ≤ by → IfSome on (λ answer. burst_end answer.burst ≤ last) → IfSome on (λ answer. burst_end answer.burst + 40 ≤ by)
old-by last by None order h = tt
old-by last by (Some answer) order h = omega (arith, order, h)

module _ (long : Bool) (by last tick quiet_from : ℕ) (channel : Channel) (on : Option ShownAnswer) (retry : Option RetryState) (left : List Entry)
    (order : last + 40 ≤ by) (on_time : LeftOnTime long by retry left) where
  usually : (outcome : Outcome) (need : ℕ) → 4 ≤ need → need ≤ 40 → Leaves last tick quiet_from outcome on retry left →
      FreeBy long by (usual need (suc tick)) retry quiet_from on left
  usually outcome need least few h = record {
    well = least;
    opens = omega (arith, h.ends, order);
    quiet = omega (arith, h.quiet, few, order);
    old = old-by last by on order h.old;
    on_time = on_time;
  }

  -- however it ended
  pub after-message : (outcome : Outcome) → Leaves last tick quiet_from outcome on retry left →
      FreeBy long by (opening_after outcome channel tick) retry quiet_from on left
  after-message Clear h = usually Clear 4 (omega arith) (omega arith) h
  after-message Sent h = usually Sent 4 (omega arith) (omega arith) h
  after-message Declined h = usually Declined 4 (omega arith) (omega arith) h
  after-message Passed h = usually Passed 40 (omega arith) (omega arith) h
  after-message (Illegal part) h = usually (Illegal part) 40 (omega arith) (omega arith) h
  after-message (Busy part) h = usually (Busy part) 40 (omega arith) (omega arith) h
  after-message (NoResponse part) h = usually (NoResponse part) 40 (omega arith) (omega arith) h
  after-message (BadReply part) h = usually (BadReply part) 40 (omega arith) (omega arith) h
  after-message Yielded h = usually Yielded 40 (omega arith) (omega arith) h
  after-message Abandoned h = record {
    well = h.abandoned refl;
    opens = omega (arith, h.ends, order);
    quiet = omega (arith, h.quiet, order);
    old = old-by last by on order h.old;
    on_time = on_time;
  }

-- where none is expected it was sent, and the least gap follows
pub after-sent : (long : Bool) (by last : ℕ) (channel : Channel) (tick quiet_from : ℕ) (left : List Entry) → last + 4 ≤ by → suc tick ≤ last + 4 → quiet_from ≤ last →
    OnTime long by left → FreeBy long by (opening_after Sent channel tick) None quiet_from None left
after-sent long by last channel tick quiet_from left order ends quiet on_time =
    record { well = omega arith; opens = omega (arith, ends, order); quiet = omega (arith, quiet, order); old = tt; on_time = on_time }

-- ---- what is left of an item's time

-- an attempt more is one of those that are left
get-within : (xs : List Turn) (i : ℕ) (turn : Turn) → slice_get xs i ≡ Some turn → i < length xs
get-within [] i turn is = absurd (none-some turn is)
get-within (x ∷ xs) zero turn is = omega arith
get-within (x ∷ xs) (suc i) turn is = omega (arith, get-within xs i turn is)

module _ (long : Bool) (entry : Entry) (later : List Entry) (shape : Shape) (expects : (answers_of entry.item.kind).first ≡ Some shape)
    (by : ℕ) (state : RetryState) (one : 1 ≤ state.turn)
    (within : IsSome entry.item.abandon → IsWithinFrame later) (tries : Tries long by entry later state.turn) where
  abbrev ticks : ℕ
  ticks = attempt_ticks long entry

  -- the tick by which both channels are free after it, and what is left then
  pub record After (choice : Choice) : Type 0 where
    pub free : ℕ
    pub order : by + ticks ≤ free
    pub on_time : LeftOnTime long free (retry_by choice) (left_after choice (entry ∷ later))

  done : After Done
  done = by-left tries.left refl
    where
      by-left : (n : ℕ) → tries.left ≡ n → After Done
      by-left zero none = absurd (omega (arith, tries.some, none))
      by-left (suc n) is = record {
        free = by + tries.left * ticks;
        order = omega (arith, ap (λ m. m * ticks) is, once-more n ticks);
        on_time = subst (OnTime long (by + tries.left * ticks)) (sym (drop-none later)) tries.on_time;
      }

  retried : (turn : Option Turn) → slice_get entry.item.retry (state.turn - 1) ≡ turn → After (again state turn)
  retried None none = done
  retried (Some turn) is = by-left tries.left refl
    where
      more : state.turn - 1 < length entry.item.retry
      more = get-within entry.item.retry (state.turn - 1) turn is

      by-left : (n : ℕ) → tries.left ≡ n → After (again state (Some turn))
      by-left zero none = absurd (omega (arith, tries.some, none))
      by-left (suc n) same = record {
        free = by + ticks;
        order = omega arith;
        on_time = record {
          late = omega (arith, one);
          within = within;
          shape = shape;
          expects = expects;
          tries = record {
            left = n;
            some = omega (arith, more, one, tries.count, same);
            count = omega (arith, tries.count, same);
            on_time = subst (λ t. OnTime long t later) (omega (arith, ap (λ m. m * ticks) same, once-more n ticks)) tries.on_time;
          };
        };
      }

  -- whatever follows
  pub left-after-attempt : (outcome : Outcome) → After (next_of entry.item state outcome)
  left-after-attempt outcome = by-may (may_retry outcome)
    where
      by-may : (b : Bool) → After (if b then again state (slice_get entry.item.retry (state.turn - 1)) else Done)
      by-may true = retried (slice_get entry.item.retry (state.turn - 1)) refl
      by-may false = done
