-- A serving station, which listens, while a burst of another station runs on one channel and the other is quiet: it sends nothing, and no control
-- passes to it.
use Rattle.std.proofs.Common.{◌≡◌, ◌⊎◌, inl, inr, ℕ, suc, ◌+◌, ◌-◌, ◌<◌, ◌≤◌, Bool, true, false, List, [], ◌∷◌, ◌++◌, length, Option, None, refl, sym, ap, ◌∙◌, arith, length-append}
use Rattle.std.proofs.lemmas.Bool.{true≢false}
use Rattle.std.specs.Prelude.{◌||◌, nat_lt, if◌then◌else◌, is_some, get_or, drop}
use Rattle.bus_base.specs.Samples.{sample_on, other_of}
use Rattle.bus_base.specs.declared.samples.Channel.{Channel}
use Rattle.bus_base.specs.declared.samples.Channel.TheVariants.{A, B}
use Rattle.bus_base.specs.declared.samples.Drive.{Drive}
use Rattle.bus_base.specs.declared.samples.Drive.TheVariants.{Silent}
use Rattle.bus_base.specs.declared.samples.Pair.{Pair}
use Rattle.bus_base.specs.declared.samples.Sample.{Sample}
use Rattle.bus_base.specs.declared.samples.Sample.TheVariants.{Plus, Quiet}
use Rattle.bus_line.specs.Past.{InLeg, quiet_ticks, runs, ended_now, end_since}
use Rattle.bus_line.specs.Channels.{on_channel}
use Rattle.bus_line.proofs.EndLaws.{end_since-later}
use Rattle.bus_formats.specs.Plans.{TerminalData, StationData}
use Rattle.bus_model.specs.Memory.{Memory, TimedLoad}
use Rattle.bus_model.specs.Orders.{Duty, free, owes, promises, due_after}
use Rattle.bus_model.specs.Hearing.{Moment, heard_on}
use Rattle.bus_model.specs.Sending.{drive_sample}
use Rattle.bus_model.specs.Standing.{Standing, is_owed}
use Rattle.bus_model.specs.Terminal.{given_up, is_over, drive_duty, standing, drives, accepted_by, accepted_on, accepted_now, heard_status}
use Rattle.bus_model.specs.Course.{Course}
use Rattle.bus_model.specs.Control.{OutsideTake, moment_of, outside_takes, course_after, hearing_after, drives_next}
use Rattle.bus_law_stations.specs.Legs.{with_addressed, HearsBurst, IsReady}
use Rattle.bus_law_stations.specs.Turns.{moments_of, TakesNothing}
use Rattle.bus_law_stations.proofs.Resting.{heard-long, rests-quiet, ended-quiet, over-late, cases-option}
use Rattle.bus_law_stations.proofs.LegTicks.{heard-append, leg-ends-not}
use Rattle.bus_law_stations.proofs.Obeying.{running-marks}
use Rattle.bus_law_stations.proofs.Turning.{serving-sends}
use Rattle.bus_law_stations.proofs.Unheeded.{quiet-unheeded}
use Rattle.bus_law_messages.specs.Settled.{IsFree, IsServing}
use Rattle.bus_law_messages.specs.Promises.{IsListening, Listens}

-- ---- what it hears

-- it hears what was shown
pub moments-shown : (c : Channel) (course : Course) (ticks : List Pair) → heard_on c (moments_of course ticks) ≡ on_channel c ticks
moments-shown c course [] = refl
moments-shown c course (shown ∷ ticks) = ap (λ xs. sample_on shown c ∷ xs) (moments-shown c course ticks)

pub moments-many : (course : Course) (ticks : List Pair) → length (moments_of course ticks) ≡ length ticks
moments-many course [] = refl
moments-many course (shown ∷ ticks) = ap suc (moments-many course ticks)

-- ---- a terminal that listens while a burst runs

-- a free terminal listens on either channel
pub free-listens : (k : ℕ) (t : TerminalData) (s : Standing) (c : Channel) (heard : List Moment) → IsFree k t s heard → IsListening k t s c heard
free-listens k t s c heard frees = record {
  rests = frees.rests;
  heeds = frees.heeds;
  over = frees.over;
  promise = λ made. absurd (true≢false (sym made ∙ frees.promise));
  stands = λ made. absurd (true≢false (sym made ∙ frees.promise));
}

pub serving-listens : (k : ℕ) (station : StationData) (starts : Bool) (loads : List TimedLoad) (outside : List OutsideTake) (past : List Pair) (c : Channel) →
    IsServing k station starts loads outside past → Listens k station starts loads outside past c
serving-listens k station starts loads outside past c serving =
    let hearing = hearing_after k station starts loads outside past in record {
      serves = serving.serves;
      listens = free-listens k station.terminal (standing k station.terminal loads hearing.memory hearing.ticks) c hearing.ticks serving.free;
    }

pub listening-ready : (k : ℕ) (t : TerminalData) (s : Standing) (c : Channel) (heard : List Moment) → IsListening k t s c heard → IsReady k t s c heard
listening-ready k t s c heard eased = record {
  hears = eased.heeds c;
  answer = λ owed. let late = over-late k (heard_on s.channel heard) (due_after t s.end) (eased.over owed) in
      let long : length (heard_on s.channel heard) ≡ length heard = heard-long s.channel heard in omega (arith, late, long);
  promise = eased.promise;
}

pub listening-hears : (k : ℕ) (t : TerminalData) (s : Standing) (c : Channel) (heard ticks : List Moment) → IsListening k t s c heard →
    InLeg k (heard_on c ticks) → heard_on (other_of c) ticks ≡ quiet_ticks (length ticks) → HearsBurst k t s c heard ticks
listening-hears k t s c heard ticks eased leg quiet =
    record { rests = eased.rests c; leg = leg; beside = quiet-unheeded k t s (other_of c) heard ticks (eased.rests (other_of c)) quiet }

-- an answer that is over isn't sent, and stays over
last-of : (a b o : Bool) → o ≡ true → ((a || b) || o) ≡ true
last-of true b o on = refl
last-of false true o on = refl
last-of false false o on = on

either-silent : (b : Bool) (drive : Drive) → b ≡ true → (if b then Silent else drive) ≡ Silent
either-silent b drive on = rw on refl

over-silent : (k : ℕ) (t : TerminalData) (past : List Sample) (s : Standing) (duty : Duty) → (is_owed duty ≡ true → is_over k t past s ≡ true) →
    drive_duty k t past s duty ≡ Silent
over-silent k t past s free over = refl
over-silent k t past s (promises command transmitter) over = refl
over-silent k t past s (owes words acceptance) over =
    either-silent ((nat_lt (length past) (due_after t s.end) || given_up k t past s) || is_over k t past s)
    (drive_sample s.channel s.part words (length past - due_after t s.end))
    (last-of (nat_lt (length past) (due_after t s.end)) (given_up k t past s) (is_over k t past s) (over refl))

pub over-later : (k : ℕ) (later past : List Sample) (a : ℕ) → is_some (end_since k past a) ≡ true → is_some (end_since k (later ++ past) a) ≡ true
over-later k later past a over = elim (cases-option (end_since k past a)) [
  | inl none ↦ absurd (true≢false (sym over ∙ ap is_some none))
  | inr found ↦ ap is_some (end_since-later k later past a found.0 found.1)
]

-- it sends nothing
pub listening-silent : (k : ℕ) (t : TerminalData) (loads : List TimedLoad) (memory : Memory) (c : Channel) (heard ticks : List Moment) → k < 40 →
    IsListening k t (standing k t loads memory heard) c heard → InLeg k (heard_on c ticks) → heard_on (other_of c) ticks ≡ quiet_ticks (length ticks) →
    drives k t loads record { memory = memory; ticks = ticks ++ heard } ≡ Silent
listening-silent k t loads memory c heard ticks small eased leg quiet =
    let s = standing k t loads memory heard in
    let m = running-marks k t loads memory c heard ticks small (listening-ready k t s c heard eased) (listening-hears k t s c heard ticks eased leg quiet) in
    ap (λ (u : Standing). drive_duty k t (heard_on u.channel (ticks ++ heard)) u u.duty) m.1
    ∙ over-silent k t (heard_on s.channel (ticks ++ heard)) (with_addressed s c m.0) s.duty
    (λ owed. ap (λ xs. is_some (end_since k xs (due_after t s.end))) (heard-append s.channel ticks heard)
    ∙ over-later k (heard_on s.channel ticks) (heard_on s.channel heard) (due_after t s.end) (eased.over owed))

-- ---- it accepts no control

either-none : (b : Bool) (o : Option ℕ) → o ≡ None → (if b then None else o) ≡ None
either-none true o none = refl
either-none false o none = none

accepts-not : (k : ℕ) (t : TerminalData) (loads : List TimedLoad) (past : List Sample) (x : Sample) (s : Standing) (duty : Duty) →
    ended_now k (x ∷ past) ≡ None →
    accepted_by k t loads past x s duty ≡ None
accepts-not k t loads past x s free none = refl
accepts-not k t loads past x s (promises command transmitter) none = refl
accepts-not k t loads past x s (owes words false) none = refl
accepts-not k t loads past x s (owes words true) none =
    either-none (given_up k t past s) (heard_status (due_after t s.end) (ended_now k (x ∷ past))) (ap (heard_status (due_after t s.end)) none)

-- no burst ends on the channel on which one runs
leg-not-ended : (k : ℕ) (c : Channel) (heard ticks : List Moment) (now : Moment) → InLeg k (heard_on c (now ∷ ticks)) →
    ended_now k (heard_on c (now ∷ (ticks ++ heard))) ≡ None
leg-not-ended k c heard ticks now leg =
    ap (ended_now k) (heard-append c (now ∷ ticks) heard) ∙ leg-ends-not k (sample_on now.shown c) (heard_on c ticks) (heard_on c heard) leg

-- nor on the one that is quiet
pub quiet-not-ended : (k : ℕ) (c : Channel) (heard ticks : List Moment) (now : Moment) → runs k (heard_on c heard) ≡ false →
    heard_on c (now ∷ ticks) ≡ quiet_ticks (length (now ∷ ticks)) → ended_now k (heard_on c (now ∷ (ticks ++ heard))) ≡ None
quiet-not-ended k c heard ticks now rests quiet =
    let past = heard_on c (ticks ++ heard) in
    let here : sample_on now.shown c ≡ Quiet = ap (λ xs. get_or xs 0 Plus) quiet in
    let before : heard_on c ticks ≡ quiet_ticks (length ticks) = ap (λ (xs : List Sample). drop 1 xs) quiet in
    let whole : heard_on c (ticks ++ heard) ≡ quiet_ticks (length ticks) ++ heard_on c heard =
    heard-append c ticks heard ∙ ap (λ xs. xs ++ heard_on c heard) before in
    ap (λ x. ended_now k (x ∷ past)) here
    ∙ ended-quiet k past (ap (runs k) whole ∙ rests-quiet k (length ticks) (heard_on c heard) rests)

pub this-or-other : (c d : Channel) → (d ≡ c) ⊎ (d ≡ other_of c)
this-or-other A A = inl refl
this-or-other A B = inr refl
this-or-other B A = inr refl
this-or-other B B = inl refl

none-ended : (k : ℕ) (t : TerminalData) (s : Standing) (c d : Channel) (heard ticks : List Moment) (now : Moment) → IsListening k t s c heard →
    InLeg k (heard_on c (now ∷ ticks)) → heard_on (other_of c) (now ∷ ticks) ≡ quiet_ticks (length (now ∷ ticks)) →
    ended_now k (heard_on d (now ∷ (ticks ++ heard))) ≡ None
none-ended k t s c d heard ticks now eased leg quiet = elim (this-or-other c d) [
  | inl same ↦ ap (λ e. ended_now k (heard_on e (now ∷ (ticks ++ heard)))) same ∙ leg-not-ended k c heard ticks now leg
  | inr other ↦ ap (λ e. ended_now k (heard_on e (now ∷ (ticks ++ heard)))) other
      ∙ quiet-not-ended k (other_of c) heard ticks now (eased.rests (other_of c)) quiet
]

listening-accepts-not : (k : ℕ) (t : TerminalData) (loads : List TimedLoad) (memory : Memory) (c : Channel) (heard ticks : List Moment) (now : Moment) →
    k < 40 → IsListening k t (standing k t loads memory heard) c heard → InLeg k (heard_on c (now ∷ ticks)) →
    heard_on (other_of c) (now ∷ ticks) ≡ quiet_ticks (length (now ∷ ticks)) →
    accepted_now k t loads record { memory = memory; ticks = now ∷ (ticks ++ heard) } ≡ None
listening-accepts-not k t loads memory c heard ticks now small eased leg quiet =
    let s = standing k t loads memory heard in
    let before : heard_on (other_of c) ticks ≡ quiet_ticks (length ticks) = ap (λ (xs : List Sample). drop 1 xs) quiet in
    let m = running-marks k t loads memory c heard ticks small (listening-ready k t s c heard eased) (listening-hears k t s c heard ticks eased leg.2 before) in
    ap (accepted_on k t loads now (ticks ++ heard)) m.1
    ∙ accepts-not k t loads (heard_on s.channel (ticks ++ heard)) (sample_on now.shown s.channel) (with_addressed s c m.0) s.duty
    (none-ended k t s c s.channel heard ticks now eased leg quiet)

-- ---- a serving station

module _ (k : ℕ) (station : StationData) (starts : Bool) (loads : List TimedLoad) (outside : List OutsideTake) (past : List Pair) (c : Channel)
    (small : k < 40) (serving : Listens k station starts loads outside past c) where
  abbrev course : Course
  course = course_after k station starts loads outside past

  pub shown-leg : (ticks : List Pair) → InLeg k (on_channel c ticks) → InLeg k (heard_on c (moments_of course ticks))
  shown-leg ticks leg = rw (moments-shown c course ticks) leg

  pub shown-quiet : (d : Channel) (ticks : List Pair) → on_channel d ticks ≡ quiet_ticks (length ticks) →
      heard_on d (moments_of course ticks) ≡ quiet_ticks (length (moments_of course ticks))
  shown-quiet d ticks quiet = moments-shown d course ticks ∙ quiet ∙ ap quiet_ticks (sym (moments-many course ticks))

  pub serving-nothing : (ticks : List Pair) → InLeg k (on_channel c ticks) → on_channel (other_of c) ticks ≡ quiet_ticks (length ticks) →
      ((tick : ℕ) → length past ≤ tick → tick < length past + length ticks → outside_takes k station starts loads outside tick outside ≡ []) →
      TakesNothing k station starts loads outside past ticks
  serving-nothing [] leg quiet stays = tt
  serving-nothing (shown ∷ ticks) leg quiet stays =
      let hearing = hearing_after k station starts loads outside past in
      let long : length (ticks ++ past) ≡ length ticks + length past = length-append ticks past in (
        listening-accepts-not k station.terminal loads hearing.memory c hearing.ticks (moments_of course ticks) (moment_of shown course) small
            serving.listens (shown-leg (shown ∷ ticks) leg) (shown-quiet (other_of c) (shown ∷ ticks) quiet),
        stays (length (ticks ++ past)) (omega (arith, long)) (omega (arith, long)),
        serving-nothing ticks leg.2 (ap (λ (xs : List Sample). drop 1 xs) quiet) (λ tick low high. stays tick low (omega (arith, high))),
      )

  pub serving-silent : (ticks : List Pair) → InLeg k (on_channel c ticks) → on_channel (other_of c) ticks ≡ quiet_ticks (length ticks) →
      ((tick : ℕ) → length past ≤ tick → tick < length past + length ticks → outside_takes k station starts loads outside tick outside ≡ []) →
      drives_next k station starts loads outside (ticks ++ past) ≡ Silent
  serving-silent ticks leg quiet stays =
      let hearing = hearing_after k station starts loads outside past in
      serving-sends k station starts loads outside past ticks serving.serves (serving-nothing ticks leg quiet stays)
      ∙ listening-silent k station.terminal loads hearing.memory c hearing.ticks (moments_of course ticks) small serving.listens
      (shown-leg ticks leg) (shown-quiet (other_of c) ticks quiet)
