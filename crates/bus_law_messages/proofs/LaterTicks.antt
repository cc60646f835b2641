-- Later ticks: a terminal that was free stays free over what it passes over, and the ticks of the world follow one another.
use Rattle.std.proofs.Common.{◌≡◌, ℕ, zero, suc, ◌+◌, false, List, [], ◌++◌, refl, ap, ◌∙◌, arith}
use Rattle.std.specs.Prelude.{is_some}
use Rattle.bus_base.specs.declared.samples.Channel.{Channel}
use Rattle.bus_line.specs.Past.{runs, end_since}
use Rattle.bus_formats.specs.Plans.{TerminalData, PlanData}
use Rattle.bus_model.specs.Memory.{TimedLoad}
use Rattle.bus_model.specs.Orders.{due_after}
use Rattle.bus_model.specs.Hearing.{Moment, heard_on}
use Rattle.bus_model.specs.Standing.{Standing, mark_on, ignored_from}
use Rattle.bus_model.specs.Control.{OutsideTake}
use Rattle.bus_model.specs.World.{Trace, trace, next_tick, ticks_on}
use Rattle.bus_law_stations.proofs.LegTicks.{heard-append, heeded-later}
use Rattle.bus_law_messages.specs.Settled.{IsFree}
use Rattle.bus_law_messages.proofs.Listening.{over-later}

-- ---- a terminal

module _ (k : ℕ) (t : TerminalData) (s : Standing) (heard later : List Moment) (frees : IsFree k t s heard)
    (rests : (c : Channel) → runs k (heard_on c (later ++ heard)) ≡ false) where
  heeds-later : (c : Channel) → ignored_from k (heard_on c (later ++ heard)) (mark_on s.sent c) ≡ false
  heeds-later c =
      ap (λ xs. ignored_from k xs (mark_on s.sent c)) (heard-append c later heard)
      ∙ heeded-later k (heard_on c later) (heard_on c heard) (mark_on s.sent c) (frees.heeds c)

  -- it passed over what it heard
  pub free-still : IsFree k t s (later ++ heard)
  free-still = record {
    rests = rests;
    heeds = heeds-later;
    over = λ owed. ap (λ xs. is_some (end_since k xs (due_after t s.end))) (heard-append s.channel later heard)
        ∙ over-later k (heard_on s.channel later) (heard_on s.channel heard) (due_after t s.end) (frees.over owed);
    promise = frees.promise;
  }

-- ---- the number of the ticks

-- n ticks after a ticks are a + n ticks
ticks-add : (k : ℕ) (plan : PlanData) (loads : List TimedLoad) (outside : List OutsideTake) (absent : List ℕ) (from : Trace) (a n m : ℕ) → m ≡ a + n →
    ticks_on k plan loads outside absent (ticks_on k plan loads outside absent from a) n ≡ ticks_on k plan loads outside absent from m
unfolding ticks_on
ticks-add k plan loads outside absent from a zero m e =
    let same : a ≡ m = omega (arith, e) in ap (ticks_on k plan loads outside absent from) same
ticks-add k plan loads outside absent from a (suc n) zero e = absurd (omega (arith, e))
ticks-add k plan loads outside absent from a (suc n) (suc m) e =
    ap (next_tick k plan loads outside absent) (ticks-add k plan loads outside absent from a n m (omega (arith, e)))

-- so are those of the world from its beginning
pub trace-later : (k : ℕ) (plan : PlanData) (loads : List TimedLoad) (outside : List OutsideTake) (absent : List ℕ) (t n : ℕ) →
    ticks_on k plan loads outside absent (trace k plan loads outside absent t) n ≡ trace k plan loads outside absent (t + n)
trace-later k plan loads outside absent t n =
    ticks-add k plan loads outside absent record { shown = []; driven = [] } t n (t + n) refl
