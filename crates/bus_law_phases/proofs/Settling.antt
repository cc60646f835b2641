-- The end of a burst leaves a station that listened free, where what it obeys or settles then leaves nothing.
use Rattle.std.proofs.Common.{◌≡◌, ◌⊎◌, inl, inr, ℕ, ◌+◌, Bool, false, List, ◌++◌, Some, None, refl, sym, ap, ◌∙◌, subst}
use Rattle.std.proofs.lemmas.Bool.{true≢false}
use Rattle.std.specs.Prelude.{is_some}
use Rattle.bus_base.specs.declared.samples.Channel.{Channel}
use Rattle.bus_base.specs.declared.samples.Pair.{Pair}
use Rattle.bus_base.specs.declared.samples.Sample.{Sample}
use Rattle.bus_line.specs.Past.{Burst, runs, end_of, rest_of, end_since}
use Rattle.bus_line.specs.Channels.{on_channel}
use Rattle.bus_formats.specs.Plans.{TerminalData, StationData}
use Rattle.bus_model.specs.Memory.{TimedLoad}
use Rattle.bus_model.specs.Orders.{Duty, owes, promises, Obeyed, Order, last_order, due_after}
use Rattle.bus_model.specs.Orders as orders
use Rattle.bus_model.specs.Hearing.{Moment, Hearing, heard_on}
use Rattle.bus_model.specs.Standing.{Standing, mark_on, ignored_from, is_owed, is_promise}
use Rattle.bus_model.specs.Starts.{has_items}
use Rattle.bus_model.specs.Terminal.{standing_after}
use Rattle.bus_model.specs.Course.{Course}
use Rattle.bus_model.specs.Control.{OutsideTake, course_after, hearing_after}
use Rattle.bus_law_stations.specs.Legs.{obeyed_in, settled_in, after_command, after_promise}
use Rattle.bus_law_stations.specs.Turns.{Serves, moments_of}
use Rattle.bus_law_stations.proofs.LegTicks.{heard-append, heeded-later}
use Rattle.bus_law_stations.proofs.Resting.{cases-option}
use Rattle.bus_law_messages.specs.Settled.{IsFree, IsServing}
use Rattle.bus_law_messages.specs.Promises.{Listens, HeardBurst}
use Rattle.bus_law_messages.proofs.Listening.{moments-shown, over-later}

-- a promise, or none
pub promise-of : (duty : Duty) → (is_promise duty ≡ false) ⊎ ((command : ℕ) × (transmitter : ℕ) × (duty ≡ promises command transmitter))
promise-of orders.free = inl refl
promise-of (owes words acceptance) = inl refl
promise-of (promises command transmitter) = inr (command, transmitter, refl)

module _ (k : ℕ) (station : StationData) (starts : Bool) (loads : List TimedLoad) (outside : List OutsideTake) (past : List Pair) (c : Channel)
    (ticks : List Pair) (burst : Burst) (l : Listens k station starts loads outside past c)
    (h : HeardBurst k station starts loads outside past ticks c burst)
    (rests_ticks : (d : Channel) (before : List Sample) → runs k before ≡ false → runs k (on_channel d ticks ++ before) ≡ false) where
  abbrev t : TerminalData
  t = station.terminal

  abbrev course : Course
  course = course_after k station starts loads outside past

  abbrev hearing : Hearing
  hearing = hearing_after k station starts loads outside past

  abbrev s : Standing
  s = standing_after k t loads hearing

  abbrev later : List Moment
  later = moments_of course ticks

  -- what stands of it afterwards
  abbrev after : Standing
  after = standing_after k t loads (hearing_after k station starts loads outside (ticks ++ past))

  abbrev obeys : Order → Obeyed
  obeys order = obeyed_in t loads (end_of burst + k) s c order (rest_of burst) (has_items course.left)

  abbrev settles : ℕ → ℕ → Obeyed
  settles command transmitter = settled_in t loads (end_of burst + k) s c command transmitter burst

  rests : (d : Channel) → runs k (heard_on d (later ++ hearing.ticks)) ≡ false
  rests d =
      ap (runs k) (heard-append d later hearing.ticks ∙ ap (λ xs. xs ++ heard_on d hearing.ticks) (moments-shown d course ticks))
      ∙ rests_ticks d (heard_on d hearing.ticks) (l.listens.rests d)

  heeds : (d : Channel) → ignored_from k (heard_on d (later ++ hearing.ticks)) (mark_on s.sent d) ≡ false
  heeds d =
      ap (λ xs. ignored_from k xs (mark_on s.sent d)) (heard-append d later hearing.ticks)
      ∙ heeded-later k (heard_on d later) (heard_on d hearing.ticks) (mark_on s.sent d) (l.listens.heeds d)

  pub serves-then : Serves (course_after k station starts loads outside (ticks ++ past))
  serves-then = record {
    serves = ap (λ (d : Course). d.holds) h.course ∙ l.serves.serves;
    idle = ap (λ (d : Course). d.runs) h.course ∙ l.serves.idle;
  }

  -- it passed over the burst, obeyed a command that left nothing, or kept a promise that left nothing
  passed-free : is_promise s.duty ≡ false → IsFree k t s (later ++ hearing.ticks)
  passed-free none = record {
    rests = rests;
    heeds = heeds;
    over = λ owed. ap (λ xs. is_some (end_since k xs (due_after t s.end))) (heard-append s.channel later hearing.ticks)
        ∙ over-later k (heard_on s.channel later) (heard_on s.channel hearing.ticks) (due_after t s.end) (l.listens.over owed);
    promise = none;
  }

  left-free : (u : Standing) → u.sent ≡ s.sent → u.duty ≡ orders.free → IsFree k t u (later ++ hearing.ticks)
  left-free u same none = record {
    rests = rests;
    heeds = λ d. ap (λ m. ignored_from k (heard_on d (later ++ hearing.ticks)) (mark_on m d)) same ∙ heeds d;
    over = λ owed. absurd (true≢false (sym owed ∙ ap is_owed none));
    promise = ap is_promise none;
  }

  pub serving-then : ((order : Order) → last_order t.address burst.slots ≡ Some order → (obeys order).duty ≡ orders.free) →
      ((command transmitter : ℕ) → last_order t.address burst.slots ≡ None → s.duty ≡ promises command transmitter →
      (settles command transmitter).duty ≡ orders.free) →
      IsServing k station starts loads outside (ticks ++ past)
  serving-then obeyed settled = record {
    serves = serves-then;
    free = subst (λ ms. IsFree k t after ms) (sym (ap (λ (x : Hearing). x.ticks) h.hears))
        (elim (cases-option (last_order t.address burst.slots)) [
          | inl none ↦ elim (promise-of s.duty) [
            | inl without ↦ subst (λ u. IsFree k t u (later ++ hearing.ticks)) (sym (h.passed none without).0) (passed-free without)
            | inr made ↦ subst (λ u. IsFree k t u (later ++ hearing.ticks)) (sym (h.settled made.0 made.1 none made.2).0)
                (left-free (after_promise s (end_of burst) (settles made.0 made.1)) refl (settled made.0 made.1 none made.2))
          ]
          | inr found ↦ (let o = h.obeyed found.0 found.1 in
              subst (λ u. IsFree k t u (later ++ hearing.ticks)) (sym o.1)
              (left-free (after_command s c (end_of burst) o.0 (obeys found.0)) refl (obeyed found.0 found.1)))
        ]);
  }
