-- A message of which the first word was struck, beside an abandoned answer that runs on after it: it is told where both are over.
use Rattle.std.proofs.Common.{◌≡◌, ◌≢◌, ◌⊎◌, inl, inr, ℕ, suc, ◌+◌, ◌-◌, ◌<◌, ◌≤◌, Bool, true, false, not, List, [], ◌∷◌, ◌++◌, length, map, Some, None, refl, sym, ap, ◌∙◌, subst, arith, length-append, All}
use Rattle.std.proofs.lemmas.Bool.{cases_eq, lt-ltb}
use Rattle.std.proofs.lemmas.List.{append-nil}
use Rattle.std.proofs.lemmas.List.Elements.{All-nil, All-cons}
use Rattle.std.proofs.lemmas.Option.{same_Some}
use Rattle.std.specs.Prelude.{nat_lt, if◌then◌else◌, slice_get}
use Rattle.bus_base.specs.declared.samples.Channel.{Channel}
use Rattle.bus_base.specs.declared.samples.Pair.{Pair}
use Rattle.bus_base.specs.declared.samples.Part.TheVariants.{First}
use Rattle.bus_line.specs.Channels.{bursts}
use Rattle.bus_formats.specs.Forms.{answers_of, command_words}
use Rattle.bus_formats.specs.Plans.{StationData}
use Rattle.bus_formats.specs.Times.{no_response, ending_quiet}
use Rattle.bus_formats.specs.declared.form.Outcome.TheVariants.{NoResponse}
use Rattle.bus_formats.specs.declared.form.Shape.{Shape}
use Rattle.bus_model.specs.Attempts.{Begun, Ended, without_words}
use Rattle.bus_model.specs.Course.{Course, quiet_from, close}
use Rattle.bus_model.specs.Message.{Present, After, unmoved}
use Rattle.bus_model.specs.Orders.{free, last_order}
use Rattle.bus_model.specs.Standing.{is_owed}
use Rattle.bus_model.specs.Starts.{Entry}
use Rattle.bus_model.specs.Strikes.{ShownBurst, ShownAnswer, struck, burst_end, first_ticks}
use Rattle.bus_model.specs.World.{Trace}
use Rattle.bus_model.specs.WorldLog.{present_stations}
use Rattle.bus_law_control.proofs.Early.{needs-quiet}
use Rattle.bus_law_messages.specs.Settled.{NoneStarts}
use Rattle.bus_law_table.specs.Happened.{burst_found}
use Rattle.bus_law_table.specs.Stations.{loaded_at, ArePresent}
use Rattle.bus_law_table.proofs.Pairing.{beside}
use Rattle.bus_law_phases.specs.Closings.{stations_closed}
use Rattle.bus_law_phases.specs.Commands.{attempt_recorded}
use Rattle.bus_law_phases.specs.Moments.{IsAfter, IsHolder, Underway}
use Rattle.bus_law_phases.specs.Pairing.{Beside}
use Rattle.bus_law_phases.specs.Passages.{Passage}
use Rattle.bus_law_phases.specs.Rests.{Rested}
use Rattle.bus_law_phases.specs.Scenarios.{Scenario, trace_at, shown_at, blocks_in, attempts_in, commands_in, course_of, present_of, IsPresentAt}
use Rattle.bus_law_phases.proofs.AnswerLeft.{holder-left}
use Rattle.bus_law_phases.proofs.Resting.{each-present}
use Rattle.bus_law_phases.proofs.SilencedMoments.{closed-rested}
use Rattle.bus_law_phases.proofs.SilencedStart.{named-apart}
use Rattle.bus_law_phases.proofs.SilencedUnmoved.{pairs-none}
use Rattle.bus_law_beside.specs.Beside.{BeginsBeside}
use Rattle.bus_law_beside.proofs.BesideBegins as start
use Rattle.bus_law_beside.proofs.BesideDrives as both
use Rattle.bus_law_beside.proofs.BesideEnd as end
use Rattle.bus_law_beside.proofs.BesideFrom.{items-are}
use Rattle.bus_law_beside.proofs.BesideHolder as control
use Rattle.bus_law_beside.proofs.OldStations as olds
use Rattle.bus_law_beside.proofs.StopTicks.{BreaksOff}
use Rattle.bus_law_beside.proofs.Tail as tail
use Rattle.bus_law_beside.proofs.TailEnd as tailend
use Rattle.bus_law_beside.proofs.TailHolder as held
use Rattle.bus_law_beside.proofs.TailOthers as others
use Rattle.bus_law_beside.proofs.TailRuns as tailrun

-- its attempt ends so
abbrev pub unanswered_end : Ended
unanswered_end = without_words (NoResponse First) None None

-- what is known then, by the trace at which it began, in tick t
pub record TailFrom (w : Scenario) (t place : ℕ) (holder : StationData) (stations : List Present) (begun : Begun) (command broken : ShownBurst)
    (past : List Pair) : Type 0 where
  pub over : ℕ
  pub later : t < over
  pub passage : Passage w t over record {
    blocks = [];
    bursts = command ∷ broken ∷ [];
    attempts = attempt_recorded holder.terminal.address begun unanswered_end (burst_end command + no_response) ∷ [];
    commands = 1;
  }
  pub closes : course_of w holder (shown_at w over) ≡ close (course_of w holder past) begun unanswered_end (burst_end command + no_response)
  pub rested : Rested w (trace_at w over) place holder (stations_closed holder begun unanswered_end (map unmoved stations))
  pub quiet : quiet_from (shown_at w over) ≡ burst_end broken
  pub soon : over ≤ burst_end broken + ending_quiet
  pub early : NoneStarts (course_of w holder (shown_at w over)) (shown_at w over) 0

all-unmoved : (P : After → Type 0) (ys : List Present) → ((y : Present) → P (unmoved y)) → All P (map unmoved ys)
all-unmoved P [] make = All-nil P
all-unmoved P (y ∷ ys) make = All-cons P (unmoved y) (map unmoved ys) (make y) (all-unmoved P ys make)

beside-unmoved : (R : StationData → After → Type 0) (xs : List StationData) (ys : List Present) → Beside (λ x y. R x (unmoved y)) xs ys →
    Beside R xs (map unmoved ys)
beside-unmoved R [] [] pairs = tt
beside-unmoved R [] (y ∷ ys) pairs = absurd pairs
beside-unmoved R (x ∷ xs) [] pairs = absurd pairs
beside-unmoved R (x ∷ xs) (y ∷ ys) pairs = (pairs.0, beside-unmoved R xs ys pairs.1)

module _ (w : Scenario) (t place : ℕ) (holder : StationData) (stations : List Present) (entry : Entry) (old : ShownAnswer)
    (p : BeginsBeside w t place holder stations entry old) (o : Pair) (os : List Pair) (is_old : p.beside.ticks ≡ o ∷ os) (valid : Bool) (sends m : ℕ)
    (breaks : BreaksOff old (t - old.sent.start) valid sends m)
    (orders : both.OrdersIt w t place holder stations entry old p o os is_old valid sends m breaks) (off : valid ≡ false)
    (never : last_order p.beside.telling.terminal.address
    (struck (start.hits w t place holder stations entry old p o os is_old valid sends m breaks) (command_words entry.item.kind)) ≡ None)
    (shape : Shape) (expects : (answers_of entry.item.kind).first ≡ Some shape)
    (runs_on : length (([] ++ tail.ours w t place holder stations entry old p o os is_old valid sends m breaks orders) ++ (o ∷ os)) ≤ start.old_known w t
    place holder stations entry old p o os is_old valid sends m breaks) where
  abbrev past : List Pair
  past = (o ∷ os) ++ shown_at w old.sent.start

  abbrev d : Channel
  d = tail.d w t place holder stations entry old p o os is_old valid sends m breaks orders

  abbrev begun : Begun
  begun = start.begun w t place holder stations entry old p o os is_old valid sends m breaks

  abbrev later : List Pair
  later = tail.later w t place holder stations entry old p o os is_old valid sends m breaks orders

  abbrev limit : ℕ
  limit = tailrun.limit w t place holder stations entry old p o os is_old valid sends m breaks orders off never shape expects runs_on

  abbrev ys : List Pair
  ys = tailend.ys w t place holder stations entry old p o os is_old valid sends m breaks orders off never shape expects runs_on

  abbrev command : ShownBurst
  command = end.command w t place holder stations entry old p o os is_old valid sends m breaks orders

  abbrev broken : ShownBurst
  broken = first_ticks old m

  abbrev world_then : Trace
  world_then = record {
    shown = tailend.ys w t place holder stations entry old p o os is_old valid sends m breaks orders off never shape expects runs_on ++
        tail.later w t place holder stations entry old p o os is_old valid sends m breaks orders;
    driven = tailend.zs w t place holder stations entry old p o
        os is_old valid sends m breaks orders off never shape expects runs_on ++ tail.driven_later w t place holder stations entry old p o os is_old valid
        sends m breaks orders;
  }

  abbrev over : ℕ
  over = tailrun.from w t place holder stations entry old p o os is_old valid sends m breaks orders off never shape expects runs_on + suc (limit - 1)

  so : tail.IsTail w t place holder stations entry old p o os is_old valid sends m breaks orders ys
  so = (tailend.whole w t place holder stations entry old p o os is_old valid sends m breaks orders off never shape expects runs_on).tail

  as-long : length ys ≡ suc (limit - 1)
  as-long = (tailend.whole w t place holder stations entry old p o os is_old valid sends m breaks orders off never shape expects runs_on).many

  low : length ys ≤ limit
  low = let many = as-long in omega (arith, many)

  trace-then : trace_at w over ≡ world_then
  trace-then = tailrun.trace-is w t place holder stations entry old p o os is_old valid sends m breaks orders off never shape expects runs_on
      (suc (limit - 1)) ys (tailend.zs w t place holder stations entry old p o os is_old valid sends m breaks orders off never shape expects runs_on)
      (tailend.whole w t place holder stations entry old p o os is_old valid sends m breaks orders off never shape expects runs_on)

  shown-then : shown_at w over ≡ ys ++ later
  shown-then = ap (λ (tr : Trace). tr.shown) trace-then

  waits : held.Waits w t place holder stations entry old p o os is_old valid sends m breaks orders shape expects limit
      (tailrun.few w t place holder stations entry old p o os is_old valid sends m breaks orders off never shape expects runs_on) ys
  waits = tailrun.waits w t place holder stations entry old p o os is_old valid sends m breaks orders off never shape expects runs_on ys so low

  long-past : length past ≡ t
  long-past = end.long-past w t place holder stations entry old p o os is_old valid sends m breaks orders

  same-end : held.e w t place holder stations entry old p o os is_old valid sends m breaks orders shape expects limit
      (tailrun.few w t place holder stations entry old p o os is_old valid sends m breaks orders off never shape expects runs_on) ≡ burst_end command
  same-end = omega arith

  twenty : nat_lt 20 (length ys) ≡ true
  twenty = let many = as-long in lt-ltb 20 (length ys) (omega (arith, many))

  closes-then : course_of w holder (ys ++ later) ≡ close (course_of w holder past) begun unanswered_end (burst_end command + no_response)
  closes-then =
      waits.is
      ∙ ap (λ (b : Bool). if b then held.closed w t place holder stations entry old p o os is_old valid sends m breaks orders shape expects limit
      (tailrun.few w t place holder stations entry old p o os is_old valid sends m breaks orders off never shape expects runs_on) else course_of w
      holder later) twenty
      ∙ ap (λ n. close (course_of w holder past) begun unanswered_end (n + no_response)) same-end

  -- ---- every station

  holds : (course_of w holder past).holds ≡ true
  holds = (start.begins-now w t place holder stations entry old p o os is_old valid sends m breaks).holds

  are : ArePresent w.lag w.plan w.loads w.outside w.absent past stations
  are = subst (λ (tr : Trace). ArePresent w.lag w.plan w.loads w.outside w.absent tr.shown stations)
      (start.same-now w t place holder stations entry old p o os is_old valid sends m breaks) p.beside.are

  abbrev IsEither : StationData → Type 0
  IsEither station = (station ≡ holder) ⊎ ((other : ℕ) × (other ≢ place) × IsPresentAt w other station)

  either-is : (other : ℕ) (station : StationData) → IsPresentAt w other station → IsEither station
  either-is other station at = elim (cases_eq other place) [
    | inl same ↦ (let here : slice_get w.plan.stations place ≡ Some station = ap (slice_get w.plan.stations) (sym same) ∙ at.there in
        inl (same_Some station holder (sym here ∙ p.beside.at.there)))
    | inr apart ↦ inr (other, apart, at)
  ]

  known-over : start.old_known w t place holder stations entry old p o os is_old valid sends m breaks < length
      ((ys ++ tail.ours w t place holder stations entry old p o os is_old valid sends m breaks orders) ++ (o ∷ os))
  known-over = let late = tailend.late-enough w t place holder stations entry old p o os is_old valid sends m breaks orders off never shape expects runs_on
      in omega (arith, late)

  holder-is : (y : Present) → present_of w holder past ≡ loaded_at w.loads (length past) y → IsHolder w (ys ++ later) holder (unmoved y)
  holder-is y same =
      waits.keeps (unmoved y) (holder-left w past (tail.ours w t place holder stations entry old p o os is_old valid sends m breaks orders) holder holds
      (control.kept w t place holder stations entry old p o os is_old valid sends m breaks orders) (unmoved y) record {
        plan = sym (ap (λ (q : Present). q.plan) same);
        memory = ap (λ (q : Present). q.memory) same;
        serves = sym (ap (λ (q : Present). q.serves) same) ∙ ap not holds;
        duty = refl;
      })

  unmoved-is : (station : StationData) (y : Present) → IsEither station → present_of w station past ≡ loaded_at w.loads (length past) y →
      IsAfter w (ys ++ later) place holder d (burst_end command) First station (unmoved y)
  unmoved-is station y either same = elim either [
    | inl own ↦ inl (
      own,
      subst (λ st. IsHolder w (ys ++ later) st (unmoved y)) (sym own) (holder-is y (ap (λ st. present_of w st past) (sym own) ∙ same)),
    )
    | inr other ↦ inr (
      other.0,
      other.1,
      other.2,
      record {
        is = others.present-on w t place holder stations entry old p o os is_old valid sends m breaks orders off never ys so other.0 station other.2
            other.1 y same;
        duty = others.serves-on w t place holder stations entry old p o os is_old valid sends m breaks orders off never ys so known-over other.0 station
            other.2 other.1;
      },
    )
  ]

  moment : Underway w world_then place holder d (burst_end command) First (map unmoved stations)
  moment = record {
    rests = tailend.rests-then w t place holder stations entry old p o os is_old valid sends m breaks orders off never shape expects runs_on;
    fresh = tailend.fresh-then w t place holder stations entry old p o os is_old valid sends m breaks orders off never shape expects runs_on;
    spent = tailend.spent-then w t place holder stations entry old p o os is_old valid sends m breaks orders off never shape expects runs_on;
    at = p.beside.at;
    holds = ap (λ (a : Course). a.holds) closes-then;
    serves = λ other station at apart. (others.serves-on w t place holder stations entry old p o os is_old valid sends m breaks orders off never ys so
        known-over other station at apart).serves;
    stations = beside-unmoved (IsAfter w (ys ++ later) place holder d (burst_end command) First) (present_stations w.lag w.plan w.loads w.outside w.absent)
        stations
        (beside IsEither (λ station y. IsAfter w (ys ++ later) place holder d (burst_end command) First station (unmoved y))
        (λ station. present_of w station past)
        (loaded_at w.loads (length past)) (present_stations w.lag w.plan w.loads w.outside w.absent) stations
        (each-present w past IsEither either-is) are unmoved-is);
    one = pairs-none (map unmoved stations) (all-unmoved (λ after. is_owed after.duty ≡ false) stations (λ y. refl));
  }

  rested-then : Rested w world_then place holder (stations_closed holder begun unanswered_end (map unmoved stations))
  rested-then =
      closed-rested w world_then place holder d (burst_end command) First (map unmoved stations) moment
      (named-apart w.plan p.accepted place holder p.beside.at.there) (course_of w holder past) begun
      unanswered_end (burst_end command + no_response) record {
        held = holds;
        closes = closes-then;
        keeps = refl;
        duties = all-unmoved (λ after. after.duty ≡ free) stations (λ y. refl);
        items = items-are w past holder stations are;
      }

  -- ---- what came to pass

  same-past : shown_at w t ≡ past
  same-past = ap (λ (tr : Trace). tr.shown) (start.same-now w t place holder stations entry old p o os is_old valid sends m breaks)

  attempts-then : attempts_in w (ys ++ later)
      ≡ attempts_in w past ++ (attempt_recorded holder.terminal.address begun unanswered_end (burst_end command + no_response) ∷ [])
  attempts-then =
      tailrun.tail-attempts w t place holder stations entry old p o os is_old valid sends m breaks orders off never shape expects runs_on ys so low
      ∙ ap (λ (b : Bool). attempts_in w past ++ (if b then tailrun.attempt w t place holder stations entry old p o os is_old valid sends m breaks orders
      off never shape expects runs_on ∷ [] else [])) twenty
      ∙ ap (λ n. attempts_in w past ++ (attempt_recorded holder.terminal.address begun unanswered_end (n + no_response) ∷ [])) same-end

  passage-then : Passage w t over record {
    blocks = [];
    bursts = command ∷ broken ∷ [];
    attempts = attempt_recorded holder.terminal.address begun unanswered_end (burst_end command + no_response) ∷ [];
    commands = 1;
  }
  passage-then = record {
    later = omega arith;
    blocks_are = ap (λ qs. blocks_in w qs) shown-then ∙ tailrun.tail-blocks w t place holder stations entry old p o os is_old valid sends m breaks orders
        off never shape expects runs_on ys so low ∙ ap (λ qs. blocks_in w qs) (sym same-past)
        ∙ sym (append-nil (blocks_in w (shown_at w t)));
    bursts_are = ap (bursts w.lag) shown-then ∙ tailend.bursts-then w t place holder stations entry old p o os is_old valid sends m breaks orders off never
        shape expects runs_on
        ∙ ap (λ qs. bursts w.lag qs ++ map burst_found (command ∷ broken ∷ [])) (sym same-past);
    attempts_are = ap (λ qs. attempts_in w qs) shown-then ∙ attempts-then
        ∙ ap (λ qs. attempts_in w qs ++ (attempt_recorded holder.terminal.address begun unanswered_end (burst_end command + no_response) ∷ []))
        (sym same-past);
    counted = ap (λ (tr : Trace). commands_in w tr.driven) trace-then
        ∙ tailrun.tail-commands w t place holder stations entry old p o os is_old valid sends m breaks orders off never shape expects runs_on
        (suc (limit - 1)) ys (tailend.zs w t place holder stations entry old p o os is_old valid sends m breaks orders off never shape expects runs_on)
        (tailend.whole w t place holder stations entry old p o os is_old valid sends m breaks orders off never shape expects runs_on);
    orderly = λ i first high. tailrun.in-order w t place holder stations entry old p o os is_old valid sends m breaks orders off never shape expects
        runs_on i first (omega (arith, high));
  }

  -- ---- and it waits

  quiet-now : quiet_from (ys ++ later) ≡ burst_end broken
  quiet-now =
      let both_quiet = tailend.quiet-then w t place holder stations entry old p o os is_old valid sends m breaks orders off never shape expects runs_on in
      let long : length (ys ++ later) ≡ length ys + length later = length-append ys later in
      let all : length later ≡ length (tail.ours w t place holder stations entry old p o os is_old valid sends m breaks orders) + length past =
      length-append (tail.ours w t place holder stations entry old p o os is_old valid sends m breaks orders) past in
      let count = tailrun.more-than w t place holder stations entry old p o os is_old valid sends m breaks orders off never shape expects runs_on ys in
      let number = length-append (tail.ours w t place holder stations entry old p o os is_old valid sends m breaks orders) (o ∷ os) in
      let first = olds.start-is w t place holder stations entry old p in
      let before = olds.long-before w t place holder stations entry old p in
      let whole_past = length-append (o ∷ os) (shown_at w old.sent.start) in
      let late = tailend.late-enough w t place holder stations entry old p o os is_old valid sends m breaks orders off never shape expects runs_on in
      omega (arith, both_quiet, long, all, count, number, first, before, whole_past, late)

  soon-then : over ≤ burst_end broken + ending_quiet
  soon-then =
      let soon = tailend.soon-enough w t place holder stations entry old p o os is_old valid sends m breaks orders off never shape expects runs_on in
      let count = tailrun.more-than w t place holder stations entry old p o os is_old valid sends m breaks orders off never shape expects runs_on ys in
      let number = length-append (tail.ours w t place holder stations entry old p o os is_old valid sends m breaks orders) (o ∷ os) in
      let many = as-long in
      let ours_are = end.many w t place holder stations entry old p o os is_old valid sends m breaks orders in
      let olds_are = end.number w t place holder stations entry old p o os is_old valid sends m breaks orders in
      let first = olds.start-is w t place holder stations entry old p in
      let some = p.beside.some in
      let lag = p.lag in
      omega (arith, soon, count, number, many, ours_are, olds_are, first, some, lag)

  early-then : NoneStarts (course_of w holder (ys ++ later)) (ys ++ later) 0
  early-then next rest left =
      let few = tailrun.few w t place holder stations entry old p o os is_old valid sends m breaks orders off never shape expects runs_on ys so low in
      let starts_later = needs-quiet (course_of w holder (ys ++ later)) (ys ++ later) 40 (suc (burst_end command + no_response))
      (ap (λ (a : Course). a.opening) closes-then) few next rest left in
      omega (arith, starts_later)

  pub tail-from : TailFrom w t place holder stations begun command broken past
  tail-from = record {
    over = over;
    later = omega arith;
    passage = passage-then;
    closes = ap (course_of w holder) shown-then ∙ closes-then;
    rested = subst (λ tr. Rested w tr place holder (stations_closed holder begun unanswered_end (map unmoved stations))) (sym trace-then) rested-then;
    quiet = ap quiet_from shown-then ∙ quiet-now;
    soon = soon-then;
    early = subst (λ qs. NoneStarts (course_of w holder qs) qs 0) (sym shown-then) early-then;
  }
