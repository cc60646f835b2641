-- The bursts of a run without faults, in which no message may be abandoned, follow one another in order.
use Rattle.std.proofs.Common.{◌≡◌, ◌⊎◌, inl, inr, ℕ, suc, ◌+◌, ◌<◌, ◌≤◌, List, [], ◌++◌, map, reverse, refl, ap, sym, subst, ◌∙◌, arith}
use Rattle.std.proofs.lemmas.Bool.Decides.{nat_tests}
use Rattle.std.proofs.lemmas.List.{map-append}
use Rattle.std.proofs.lemmas.Option.{none-some}
use Rattle.std.specs.Prelude.{Bool, false, Option, Some, None, if◌then◌else◌}
use Rattle.bus_base.specs.Samples.{same_channel}
use Rattle.bus_base.specs.declared.samples.Channel.{Channel}
use Rattle.bus_base.specs.declared.samples.Channel.TheVariants.{A, B}
use Rattle.bus_line.specs.Channels.{WholeBurst}
use Rattle.bus_formats.specs.declared.form.Outcome.{Outcome}
use Rattle.bus_formats.specs.declared.form.Outcome.TheVariants.{Clear, Sent, Declined, Passed, Illegal, Busy, NoResponse, BadReply, Abandoned, Yielded}
use Rattle.bus_retry.specs.declared.RetryState.{RetryState}
use Rattle.bus_model.specs.Endings.{Passing}
use Rattle.bus_model.specs.Message.{Message}
use Rattle.bus_model.specs.Run.{quiet_after}
use Rattle.bus_model.specs.Starts.{Entry, Origin, Opening, usual, superseding, taking, opening_after, start_of, needed_quiet}
use Rattle.bus_model.specs.Strikes.{ShownBurst}
use Rattle.bus_law_listing.specs.Listing.{burst_found}
use Rattle.bus_monitor.specs.Messages.{Waiting, is_answer}
use Rattle.bus_rules.specs.Breaches.{answered}
use Rattle.bus_law_judge.specs.Rows.{waits_on, IsApart, AreInOrder}
use Rattle.bus_law_clean.specs.Messages.{LeavesInOrder}

-- the tick before which the next attempt doesn't start
abbrev pub opens_at : Opening → ℕ → ℕ
opens_at (usual need tick) z = z + need
opens_at (superseding tick channel) z = 0
opens_at (taking tick) z = tick

-- it supersedes no other
abbrev pub IsOrdinary : Opening → Type 0
IsOrdinary (superseding tick channel) = ⊥
IsOrdinary _ = Unit {0}

-- bursts in order, the newest first, and an opening after which the next message follows them in order
pub record KeepsOrder (k : ℕ) (row : List WholeBurst) (opening : Opening) (z : ℕ) : Type 0 where
  pub in_order : AreInOrder k row
  pub apart : (next : ℕ) → opens_at opening z ≤ next → IsApart k row next
  pub over : (c : Channel) (w : Waiting) → waits_on k c row ≡ Some w → w.from + 24 < opens_at opening z
  pub ordinary : IsOrdinary opening

-- no attempt starts before that
pub starts-late : (opening : Opening) (retry : Option RetryState) (origin : Origin) (entry : Entry) (z : ℕ) → IsOrdinary opening →
    opens_at opening z ≤ start_of opening retry origin entry z
starts-late (usual need tick) None origin entry z is = omega arith
starts-late (usual need tick) (Some state) origin entry z is = omega arith
starts-late (superseding tick channel) retry origin entry z is = absurd is
starts-late (taking tick) retry origin entry z is = omega arith

-- a message whose time for an answer is over is answered by nothing
late-by : (k : ℕ) (o : Option Waiting) (start : ℕ) → ((w : Waiting) → o ≡ Some w → w.from + 24 < start) → answered k o start ≡ None
late-by k None start over = refl
late-by k (Some w) start over =
    let after : w.from + 24 < start = over w refl in
    let test : is_answer k w start ≡ false = grind (arith, nat_tests, after) in
    ap (λ (b : Bool). if b then Some w else None) test

-- no message waits any longer when the next one starts
pub none-waits : (k : ℕ) (row : List WholeBurst) (opening : Opening) (z : ℕ) → KeepsOrder k row opening z → (c : Channel) (start : ℕ) → opens_at opening z ≤ start →
    answered k (waits_on k c row) start ≡ None
none-waits k row opening z keeps c start late =
    late-by k (waits_on k c row) start (λ w is. let over = keeps.over c w is in omega (arith, over, late))

-- at least the gap is waited for
needed-least : (outcome : Outcome) → 4 ≤ needed_quiet outcome
needed-least Clear = omega arith
needed-least Sent = omega arith
needed-least Declined = omega arith
needed-least Passed = omega arith
needed-least (Illegal part) = omega arith
needed-least (Busy part) = omega arith
needed-least (NoResponse part) = omega arith
needed-least (BadReply part) = omega arith
needed-least Abandoned = omega arith
needed-least Yielded = omega arith

-- after a message that wasn't abandoned the next one waits for quiet
opens-usual : (outcome : Outcome) (channel : Channel) (tick : ℕ) → (outcome ≡ Abandoned → ⊥) → opening_after outcome channel tick ≡ usual (needed_quiet outcome) (suc tick)
opens-usual Clear channel tick never = refl
opens-usual Sent channel tick never = refl
opens-usual Declined channel tick never = refl
opens-usual Passed channel tick never = refl
opens-usual (Illegal part) channel tick never = refl
opens-usual (Busy part) channel tick never = refl
opens-usual (NoResponse part) channel tick never = refl
opens-usual (BadReply part) channel tick never = refl
opens-usual Abandoned channel tick never = absurd (never refl)
opens-usual Yielded channel tick never = refl

-- two channels are the same or not
same-or-not : (c e : Channel) → (e ≡ c) ⊎ (same_channel c e ≡ false)
same-or-not A A = inl refl
same-or-not A B = inr refl
same-or-not B A = inr refl
same-or-not B B = inl refl

module _ (k : ℕ) (row : List WholeBurst) (opening : Opening) (z : ℕ) (keeps : KeepsOrder k row opening z) (c : Channel) (start : ℕ) (late : opens_at opening z ≤ start)
    (m : Message) (leaves : LeavesInOrder k row c start m) where
  -- the row with its bursts
  abbrev now : List WholeBurst
  now = leaves.wholes ++ row

  -- no message waits after a tick that is late enough
  over-by : (bound : ℕ) → leaves.last + 4 ≤ bound → (needed_quiet m.ending.ended.outcome ≡ 40 → leaves.last + 40 ≤ bound) →
      (e : Channel) (w : Waiting) → waits_on k e now ≡ Some w → w.from + 24 < bound
  over-by bound least long e w is = elim (same-or-not c e) [
    | inl same ↦ (let own = leaves.keeps.waits w (subst (λ d. waits_on k d now ≡ Some w) same is) in
        let far = long own.1 in omega (arith, own.0, far))
    | inr other ↦ (let old = keeps.over e w (sym (leaves.keeps.others e other) ∙ is) in
        omega (arith, old, late, leaves.begun, least))
  ]

  -- after a message that keeps control, and was not abandoned
  pub order-after : (outcome : Outcome) → m.ending.ended.outcome ≡ outcome → (outcome ≡ Abandoned → ⊥) → (channel : Channel) (tick : ℕ) →
      KeepsOrder k now (opening_after outcome channel tick) (quiet_after m.bursts)
  order-after outcome is never channel tick =
      subst (λ o. KeepsOrder k now o (quiet_after m.bursts)) (sym (opens-usual outcome channel tick never)) record {
        in_order = leaves.keeps.in_order;
        apart = λ next far. leaves.keeps.apart next (omega (arith, far, needed-least outcome, leaves.within));
        over = over-by (quiet_after m.bursts + needed_quiet outcome) (omega (arith, needed-least outcome, leaves.within))
            (λ long. omega (arith, sym (ap needed_quiet is) ∙ long, leaves.within));
        ordinary = tt;
      }

  -- where it passes control
  pub order-passed : (p : Passing) → m.ending.passes ≡ Some p → KeepsOrder k now (taking p.tick) (quiet_after m.bursts)
  order-passed p is =
      let tick : p.tick ≡ leaves.last + 40 = leaves.keeps.passes p is in
      record {
        in_order = leaves.keeps.in_order;
        apart = λ next far. leaves.keeps.apart next (omega (arith, far, tick));
        over = over-by p.tick (omega (arith, tick)) (λ long. omega (arith, tick));
        ordinary = tt;
      }

  -- that row is made of the bursts of the run
  pub row-is : (bursts : List ShownBurst) → row ≡ map burst_found bursts → map burst_found (reverse m.bursts ++ bursts) ≡ now
  row-is bursts same = map-append burst_found (reverse m.bursts) bursts ∙ ap (λ r. map burst_found (reverse m.bursts) ++ r) (sym same) ∙ ap (λ w. w ++ row) leaves.are

-- before the first attempt
pub first-order : (k : ℕ) → KeepsOrder k [] (usual 4 0) 0
first-order k = record { in_order = tt; apart = λ next far. tt; over = λ c w is. absurd (none-some w is); ordinary = tt }
