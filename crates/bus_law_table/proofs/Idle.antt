-- A terminal over ticks in which no burst ends as it hears them: nothing is ordered, no block is taken and no control accepted.
use Rattle.std.proofs.Common.{◌≡◌, ℕ, suc, true, false, List, [], ◌∷◌, ◌++◌, length, None, refl, sym, ap, ◌∙◌, subst}
use Rattle.std.specs.Prelude.{get_or, drop}
use Rattle.bus_base.specs.Samples.{sample_on, other_of}
use Rattle.bus_base.specs.declared.samples.Channel.{Channel}
use Rattle.bus_base.specs.declared.samples.Channel.TheVariants.{A, B}
use Rattle.bus_base.specs.declared.samples.Pair.{Pair}
use Rattle.bus_base.specs.declared.samples.Sample.{Sample}
use Rattle.bus_base.specs.declared.samples.Sample.TheVariants.{Plus, Quiet}
use Rattle.bus_line.specs.Past.{InLeg, quiet_ticks, runs, ended_now}
use Rattle.bus_line.specs.Channels.{on_channel}
use Rattle.bus_formats.specs.Plans.{TerminalData}
use Rattle.bus_model.specs.Memory.{Memory, TimedLoad}
use Rattle.bus_model.specs.Orders.{Duty, free, owes, promises, due_after}
use Rattle.bus_model.specs.Hearing.{Moment, heard_on}
use Rattle.bus_model.specs.Standing.{Standing, mark_on, ignored_from, is_promise}
use Rattle.bus_model.specs.Terminal.{given_up, heard_status, order_of, order_on, running_out, order_now, ordered, marked_by, standing, taken_by, took_now, accepted_by, accepted_now}
use Rattle.bus_model.specs.Course.{Course}
use Rattle.bus_model.specs.Control.{moment_of}
use Rattle.bus_law_stations.specs.Turns.{moments_of}
use Rattle.bus_law_stations.proofs.LegTicks.{heard-append, leg-ends-not}
use Rattle.bus_law_stations.proofs.Ready.{either-none, orders-none}
use Rattle.bus_law_stations.proofs.Resting.{rests-quiet, ended-quiet}

-- ---- what it hears

-- it hears what was shown
pub moments-shown : (c : Channel) (course : Course) (ticks : List Pair) → heard_on c (moments_of course ticks) ≡ on_channel c ticks
moments-shown c course [] = refl
moments-shown c course (shown ∷ ticks) = ap (λ xs. sample_on shown c ∷ xs) (moments-shown c course ticks)

pub moments-many : (course : Course) (ticks : List Pair) → length (moments_of course ticks) ≡ length ticks
moments-many course [] = refl
moments-many course (shown ∷ ticks) = ap suc (moments-many course ticks)

-- no burst ends on a channel that is quiet
pub quiet-not-ended : (k : ℕ) (c : Channel) (heard ticks : List Moment) (now : Moment) → runs k (heard_on c heard) ≡ false →
    heard_on c (now ∷ ticks) ≡ quiet_ticks (length (now ∷ ticks)) → ended_now k (heard_on c (now ∷ (ticks ++ heard))) ≡ None
quiet-not-ended k c heard ticks now rests quiet =
    let past = heard_on c (ticks ++ heard) in
    let here : sample_on now.shown c ≡ Quiet = ap (λ xs. get_or xs 0 Plus) quiet in
    let before : heard_on c ticks ≡ quiet_ticks (length ticks) = ap (λ (xs : List Sample). drop 1 xs) quiet in
    let whole : heard_on c (ticks ++ heard) ≡ quiet_ticks (length ticks) ++ heard_on c heard =
    heard-append c ticks heard ∙ ap (λ xs. xs ++ heard_on c heard) before in
    ap (λ x. ended_now k (x ∷ past)) here
    ∙ ended-quiet k past (ap (runs k) whole ∙ rests-quiet k (length ticks) (heard_on c heard) rests)

either-channel : (k : ℕ) (c : Channel) (past : List Moment) → ended_now k (heard_on c past) ≡ None → ended_now k (heard_on (other_of c) past) ≡ None →
    (d : Channel) → ended_now k (heard_on d past) ≡ None
either-channel k A past own other A = own
either-channel k A past own other B = other
either-channel k B past own other A = other
either-channel k B past own other B = own

-- in none of these ticks, which follow those heard, a burst ends
abbrev pub NoneEnds : ℕ → List Moment → List Moment → Type 0
NoneEnds k heard [] = Unit {0}
NoneEnds k heard (now ∷ ticks) = ((d : Channel) → ended_now k (heard_on d (now ∷ (ticks ++ heard))) ≡ None) × NoneEnds k heard ticks

-- so it is while a burst runs on one channel, and the other is quiet
pub leg-none-ends : (k : ℕ) (c : Channel) (heard : List Moment) (course : Course) → ((d : Channel) → runs k (heard_on d heard) ≡ false) →
    (ticks : List Pair) → InLeg k (on_channel c ticks) → on_channel (other_of c) ticks ≡ quiet_ticks (length ticks) →
    NoneEnds k heard (moments_of course ticks)
leg-none-ends k c heard course rests [] leg quiet = tt
leg-none-ends k c heard course rests (x ∷ ticks) leg quiet =
    let ms = moments_of course ticks in
    let runs_on : InLeg k (heard_on c (moments_of course (x ∷ ticks))) =
    subst (InLeg k) (sym (moments-shown c course (x ∷ ticks))) leg in
    let hush : heard_on (other_of c) (moments_of course (x ∷ ticks)) ≡ quiet_ticks (length (moments_of course (x ∷ ticks))) =
    moments-shown (other_of c) course (x ∷ ticks) ∙ quiet ∙ ap (λ n. quiet_ticks (suc n)) (sym (moments-many course ticks)) in (
      either-channel k c (moments_of course (x ∷ ticks) ++ heard)
          (ap (ended_now k) (heard-append c (moments_of course (x ∷ ticks)) heard)
          ∙ leg-ends-not k (sample_on x c) (heard_on c ms) (heard_on c heard) runs_on)
          (quiet-not-ended k (other_of c) heard ms (moment_of x course) (rests (other_of c)) hush),
      leg-none-ends k c heard course rests ticks leg.2 (ap (λ (xs : List Sample). drop 1 xs) quiet),
    )

-- ---- one tick

pub no-running : (k : ℕ) (t : TerminalData) (s : Standing) (past : List Moment) → is_promise s.duty ≡ false → running_out k t past s ≡ None
no-running k t s past none = rw none refl

-- where no burst ends on a channel nothing is ordered there
pub order-none : (k : ℕ) (t : TerminalData) (s : Standing) (d : Channel) (now : Moment) (past : List Moment) →
    ended_now k (heard_on d (now ∷ past)) ≡ None → order_on k t (now ∷ past) s d ≡ None
order-none k t s d now past none =
    either-none (ignored_from k (heard_on d past) (mark_on s.sent d)) (order_of k t s d (ended_now k (heard_on d (now ∷ past)))) (ap (order_of k t s d) none)

tick-orders : (k : ℕ) (t : TerminalData) (s : Standing) (now : Moment) (past : List Moment) → ((d : Channel) → ended_now k (heard_on d (now ∷ past)) ≡ None) →
    is_promise s.duty ≡ false → order_now k t (now ∷ past) s ≡ None
tick-orders k t s now past none promise =
    orders-none k t s A (now ∷ past) (order-none k t s A now past (none A)) (order-none k t s B now past (none B)) (no-running k t s (now ∷ past) promise)

accepts-by : (k : ℕ) (t : TerminalData) (loads : List TimedLoad) (past : List Sample) (x : Sample) (s : Standing) (duty : Duty) →
    ended_now k (x ∷ past) ≡ None → accepted_by k t loads past x s duty ≡ None
accepts-by k t loads past x s free none = refl
accepts-by k t loads past x s (promises command transmitter) none = refl
accepts-by k t loads past x s (owes words false) none = refl
accepts-by k t loads past x s (owes words true) none =
    either-none (given_up k t past s) (heard_status (due_after t s.end) (ended_now k (x ∷ past))) (ap (heard_status (due_after t s.end)) none)

pub tick-accepts : (k : ℕ) (t : TerminalData) (loads : List TimedLoad) (memory : Memory) (now : Moment) (past : List Moment) →
    ((d : Channel) → ended_now k (heard_on d (now ∷ past)) ≡ None) → accepted_now k t loads record { memory = memory; ticks = now ∷ past } ≡ None
tick-accepts k t loads memory now past none =
    let s = standing k t loads memory past in
    accepts-by k t loads (heard_on s.channel past) (sample_on now.shown s.channel) s s.duty (none s.channel)

-- ---- many ticks

module _ (k : ℕ) (t : TerminalData) (loads : List TimedLoad) (memory : Memory) (heard : List Moment)
    (promise : is_promise (standing k t loads memory heard).duty ≡ false) where
  pub idle-promise : (ticks : List Moment) → NoneEnds k heard ticks → is_promise (standing k t loads memory (ticks ++ heard)).duty ≡ false
  unfolding standing
  idle-promise [] none = promise
  idle-promise (now ∷ ticks) none =
      let past = ticks ++ heard in
      let s = standing k t loads memory (ticks ++ heard) in
      ap (λ o. is_promise (marked_by k t now past s (ordered k t loads (length past) now.has_items s o)).duty)
      (tick-orders k t s now past none.0 (idle-promise ticks none.1))
      ∙ idle-promise ticks none.1

  -- it takes no block in the newest tick
  pub idle-takes : (now : Moment) (ticks : List Moment) → NoneEnds k heard (now ∷ ticks) →
      took_now k t loads record { memory = memory; ticks = now ∷ (ticks ++ heard) } ≡ None
  idle-takes now ticks none =
      let past = ticks ++ heard in
      let s = standing k t loads memory (ticks ++ heard) in
      ap (taken_by k t loads (length past) now.has_items s) (tick-orders k t s now past none.0 (idle-promise ticks none.1))
