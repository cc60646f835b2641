-- An answer that accepts control, and the station that takes it.
use Rattle.std.proofs.Common.{◌≡◌, ℕ, suc, ◌+◌, ◌<◌, ◌≤◌, Bool, true, false, List, [], ◌∷◌, ◌++◌, length, Option, Some, None, refl, sym, ap, ◌∙◌, arith}
use Rattle.std.proofs.lemmas.Bool.{or_from, or_parts, and_from, eq-eqb, ne_eqb, le-leb, true≢false}
use Rattle.std.specs.Prelude.{◌&&◌, ◌==◌, nat_le, if◌then◌else◌}
use Rattle.bus_base.specs.Samples.{sample_on}
use Rattle.bus_base.specs.declared.samples.Channel.{Channel}
use Rattle.bus_base.specs.declared.samples.Pair.{Pair}
use Rattle.bus_base.specs.declared.samples.Sample.{Sample}
use Rattle.bus_words.specs.declared.word.Word.{Word}
use Rattle.bus_line.specs.Past.{Burst, end_of, ended_now, heard_within}
use Rattle.bus_formats.specs.Plans.{StationData, TerminalData}
use Rattle.bus_formats.specs.Times.{taking_over}
use Rattle.bus_model.specs.Memory.{Memory, TimedLoad}
use Rattle.bus_model.specs.Orders.{Duty, free, owes, promises, due_after}
use Rattle.bus_model.specs.Hearing.{Moment, Hearing, heard_on}
use Rattle.bus_model.specs.Standing.{Standing, superseded}
use Rattle.bus_model.specs.Terminal.{given_up, heard_status, standing, memory_after, accepted_by, accepted_now}
use Rattle.bus_model.specs.Course.{Take, Course, course, begin_entry, run_by, runs_next, run_on, take_control, with_takes}
use Rattle.bus_model.specs.Control.{OutsideTake, StationSoFar, unheard_ticks, moment_of, hear_more, outside_takes, takes_in, serve, hold, course_with, so_far, course_after}
use Rattle.bus_law_stations.specs.Legs.{with_sent, HearsBurst, BeginsAnswer}
use Rattle.bus_law_stations.specs.Silence.{AreTaken}
use Rattle.bus_law_stations.specs.Turns.{Serves}
use Rattle.bus_law_stations.proofs.Resting.{heard-long}
use Rattle.bus_law_stations.proofs.LegTicks.{heard-append, leg-ends-not}
use Rattle.bus_law_stations.proofs.Ready.{either-none}
use Rattle.bus_law_stations.proofs.BurstEnds.{began}
use Rattle.bus_law_stations.proofs.SenderTicks.{sender-stands}
use Rattle.bus_law_stations.proofs.StillController.{not-taken}
use Rattle.bus_law_stations.proofs.StillStation.{always-taken}
use Rattle.bus_law_control.specs.Offers.{is_acceptance}
use Rattle.bus_law_control.proofs.Muted.{within-later}

-- ---- the answer

-- once an answer was due it isn't given up any more, but where it is superseded
pub kept-later : (k : ℕ) (t : TerminalData) (s : Standing) (c : Channel) (heard ticks : List Moment) → due_after t s.end ≤ length heard →
    given_up k t (heard_on c heard) s ≡ false → given_up k t (heard_on c (ticks ++ heard)) s ≡ false
kept-later k t s c heard ticks due kept =
    let parts = or_parts (superseded k s) (heard_within (heard_on c heard) s.end (due_after t s.end)) kept in
    let long : length (heard_on c heard) ≡ length heard = heard-long c heard in
    or_from (superseded k s) _ parts.0
    (ap (λ xs. heard_within xs s.end (due_after t s.end)) (heard-append c ticks heard)
    ∙ within-later (heard_on c ticks) (heard_on c heard) s.end (due_after t s.end) (omega (arith, due, long)) parts.1)

-- who doesn't owe an answer that accepts control takes none
pub accepts-not : (k : ℕ) (t : TerminalData) (loads : List TimedLoad) (past : List Sample) (x : Sample) (s : Standing) (duty : Duty) →
    is_acceptance duty ≡ false → accepted_by k t loads past x s duty ≡ None
accepts-not k t loads past x s free none = refl
accepts-not k t loads past x s (promises command transmitter) none = refl
accepts-not k t loads past x s (owes words false) none = refl
accepts-not k t loads past x s (owes words true) none = absurd (true≢false none)

-- a burst that began otherwise is no answer
status-not : (due : ℕ) (o : Option Burst) → ((burst : Burst) → o ≡ Some burst → burst.first ≡ due → ⊥) → heard_status due o ≡ None
status-not due None other = refl
status-not due (Some burst) other =
    let test : (burst.first == due) ≡ false = ne_eqb burst.first due (other burst refl) in rw test refl

-- nor does another burst than that answer accept it
pub accepts-other : (k : ℕ) (t : TerminalData) (loads : List TimedLoad) (past : List Sample) (x : Sample) (s : Standing) (duty : Duty) →
    ((burst : Burst) → ended_now k (x ∷ past) ≡ Some burst → burst.first ≡ due_after t s.end → ⊥) → accepted_by k t loads past x s duty ≡ None
accepts-other k t loads past x s free other = refl
accepts-other k t loads past x s (promises command transmitter) other = refl
accepts-other k t loads past x s (owes words false) other = refl
accepts-other k t loads past x s (owes words true) other =
    either-none (given_up k t past s) (heard_status (due_after t s.end) (ended_now k (x ∷ past))) (status-not (due_after t s.end) (ended_now k (x ∷ past)) other)

-- in the newest tick of any hearing
pub accepted-not : (k : ℕ) (t : TerminalData) (loads : List TimedLoad) (memory : Memory) (heard : List Moment) (now : Moment) →
    is_acceptance (standing k t loads memory heard).duty ≡ false → accepted_now k t loads record { memory = memory; ticks = now ∷ heard } ≡ None
accepted-not k t loads memory heard now none =
    let s = standing k t loads memory heard in
    accepts-not k t loads (heard_on s.channel heard) (sample_on now.shown s.channel) s s.duty none

-- likewise of another burst
pub accepted-other : (k : ℕ) (t : TerminalData) (loads : List TimedLoad) (memory : Memory) (heard : List Moment) (now : Moment) →
    let s = standing k t loads memory heard in
    ((burst : Burst) → ended_now k (heard_on s.channel (now ∷ heard)) ≡ Some burst → burst.first ≡ due_after t s.end → ⊥) →
    accepted_now k t loads record { memory = memory; ticks = now ∷ heard } ≡ None
accepted-other k t loads memory heard now other =
    let s = standing k t loads memory heard in
    accepts-other k t loads (heard_on s.channel heard) (sample_on now.shown s.channel) s s.duty other

module _ (k : ℕ) (t : TerminalData) (loads : List TimedLoad) (memory : Memory) (c : Channel) (heard ticks : List Moment) (first : Moment)
    (answer : BeginsAnswer k t (standing k t loads memory heard) c heard)
    (hears : HearsBurst k t (standing k t loads memory heard) c heard (first ∷ ticks)) where
  -- what stands of the terminal as it begins to answer
  abbrev s : Standing
  s = standing k t loads memory heard

  -- the ticks heard, with those of the answer so far
  abbrev past : List Moment
  past = (first ∷ ticks) ++ heard

  -- the tick after them is looked at with the mark of the transmission
  at-tick : (now : Moment) (o : Option ℕ) →
      accepted_by k t loads (heard_on c past) (sample_on now.shown c) (with_sent s c (Some (length heard))) s.duty ≡ o →
      accepted_now k t loads record { memory = memory; ticks = now ∷ past } ≡ o
  at-tick now o is =
      ap (λ (u : Standing). accepted_by k t loads (heard_on u.channel past) (sample_on now.shown u.channel) u u.duty)
      (sender-stands k t loads memory c heard ticks first answer hears)
      ∙ ap (λ x. accepted_by k t loads (heard_on x past) (sample_on now.shown x) (with_sent s c (Some (length heard))) s.duty) answer.channel
      ∙ is

  -- the burst of the answer is a status
  status-at : (burst : Burst) → burst.first ≡ length heard → 40 ≤ burst.ticks → heard_status (due_after t s.end) (Some burst) ≡ Some (end_of burst)
  status-at burst at whole =
      let test : ((burst.first == due_after t s.end) && nat_le 40 burst.ticks) ≡ true =
      and_from _ _ (eq-eqb burst.first (due_after t s.end) (at ∙ sym answer.due)) (le-leb 40 burst.ticks whole) in
      rw test refl

  -- so control is accepted with its end
  pub accepted-at : (now : Moment) (burst : Burst) (words : List Word) → s.duty ≡ owes words true →
      ended_now k (heard_on c (now ∷ past)) ≡ Some burst → 40 ≤ burst.ticks →
      accepted_now k t loads record { memory = memory; ticks = now ∷ past } ≡ Some (end_of burst)
  accepted-at now burst words duty ended whole =
      let u = with_sent s c (Some (length heard)) in
      let kept : given_up k t (heard_on c past) u ≡ false =
      kept-later k t s c heard (first ∷ ticks) (let due = answer.due in omega (arith, due)) answer.kept in
      at-tick now (Some (end_of burst))
      (ap (accepted_by k t loads (heard_on c past) (sample_on now.shown c) u) duty
      ∙ ap (λ (b : Bool). if b then None else heard_status (due_after t s.end) (ended_now k (heard_on c (now ∷ past)))) kept
      ∙ ap (heard_status (due_after t s.end)) ended
      ∙ status-at burst (began k t s c heard (first ∷ ticks) now burst hears ended) whole)

-- while the answer is sent none is accepted
leg-burst : (k : ℕ) (c : Channel) (t : TerminalData) (s : Standing) (heard ticks : List Moment) (now : Moment) (burst : Burst) →
    HearsBurst k t s c heard (now ∷ ticks) → ended_now k (heard_on c (now ∷ (ticks ++ heard))) ≡ Some burst → ⊥
leg-burst k c t s heard ticks now burst hears ended =
    let none = ap (ended_now k) (heard-append c (now ∷ ticks) heard) ∙ leg-ends-not k (sample_on now.shown c) (heard_on c ticks) (heard_on c heard) hears.leg in
    let bad : None ≡ Some burst = sym none ∙ ended in absurd (cc)

-- in each of its ticks
pub accepted-early : (k : ℕ) (t : TerminalData) (loads : List TimedLoad) (memory : Memory) (c : Channel) (heard ticks : List Moment) (now : Moment) →
    BeginsAnswer k t (standing k t loads memory heard) c heard → HearsBurst k t (standing k t loads memory heard) c heard (now ∷ ticks) →
    accepted_now k t loads record { memory = memory; ticks = (now ∷ ticks) ++ heard } ≡ None
accepted-early k t loads memory c heard [] now answer hears =
    accepted-other k t loads memory heard now (λ burst ended at. leg-burst k c t (standing k t loads memory heard) heard [] now burst hears
    (ap (λ x. ended_now k (heard_on x (now ∷ heard))) (sym answer.channel) ∙ ended))
accepted-early k t loads memory c heard (first ∷ ticks) now answer hears =
    let s = standing k t loads memory heard in
    let less : HearsBurst k t (standing k t loads memory heard) c heard (first ∷ ticks) =
    record { rests = hears.rests; leg = hears.leg.2; beside = hears.beside.1 } in
    at-tick k t loads memory c heard ticks first answer less now None
    (accepts-other k t loads (heard_on c ((first ∷ ticks) ++ heard)) (sample_on now.shown c) (with_sent s c (Some (length heard))) s.duty
    (λ burst ended at. leg-burst k c t s heard (first ∷ ticks) now burst hears ended))

-- ---- the station

-- a take of a later tick changes nothing
not-now : (take : Take) (n : ℕ) (c : Course) → n < take.heard → (if take.heard == n then take_control take.first c else c) ≡ c
not-now take n c later =
    let test : (take.heard == n) ≡ false = ne_eqb take.heard n (λ e. omega (arith, e, later)) in rw test refl

-- nor do all takes with it
takes-later : (take : Take) (takes : List Take) (n : ℕ) (c : Course) → n < take.heard → with_takes (takes ++ take ∷ []) n c ≡ with_takes takes n c
takes-later take [] n c later = not-now take n c later
takes-later take (other ∷ takes) n c later = takes-later take takes n (if other.heard == n then take_control other.first c else c) later

-- nor the course
course-later : (k : ℕ) (s : StationData) (starts : Bool) (take : Take) (takes : List Take) (past : List Pair) → length past < take.heard →
    course k s starts (takes ++ take ∷ []) past ≡ course k s starts takes past
unfolding course
course-later k s starts take takes [] later = takes-later take takes 0 _ later
course-later k s starts take takes (x ∷ past) later =
    let before : course k s starts (takes ++ take ∷ []) past ≡ course k s starts takes past =
    course-later k s starts take takes past (omega (arith, later)) in
    rw (before, takes-later take takes (suc (length past)) (run_on k x past (course k s starts takes past) (runs_next past (course k s starts takes past))) later)

-- takes one after the other
takes-append : (xs ys : List Take) (n : ℕ) (c : Course) → with_takes (xs ++ ys) n c ≡ with_takes ys n (with_takes xs n c)
takes-append [] ys n c = refl
takes-append (take ∷ xs) ys n c = takes-append xs ys n (if take.heard == n then take_control take.first c else c)

-- no message runs next of a station that serves
next-none : (past : List Pair) (c : Course) → Serves c → runs_next past c ≡ None
next-none past c serves =
    ap (run_by past c) serves.idle ∙ ap (λ (b : Bool). if b then begin_entry past c c.left else None) serves.serves

-- a take of the newest tick gives control
taking-course : (k : ℕ) (station : StationData) (starts : Bool) (takes : List Take) (take : Take) (x : Pair) (past : List Pair) → AreTaken (length past) takes →
    take.heard ≡ suc (length past) → Serves (course k station starts takes past) →
    course k station starts (takes ++ take ∷ []) (x ∷ past) ≡ take_control take.first (course k station starts takes past)
unfolding course
taking-course k station starts takes take x past taken at serves =
    let c = course k station starts takes past in
    let n : ℕ = suc (length past) in
    let now : (take.heard == suc (length past)) ≡ true = eq-eqb take.heard (suc (length past)) at in
    ap (λ (d : Course). with_takes (takes ++ take ∷ []) n (run_on k x past d (runs_next past d)))
    (course-later k station starts take takes past (omega (arith, at)))
    ∙ ap (λ o. with_takes (takes ++ take ∷ []) n (run_on k x past c o)) (next-none past c serves)
    ∙ takes-append takes (take ∷ []) n c
    ∙ ap (λ (d : Course). if take.heard == n then take_control take.first d else d) (not-taken (length past) n takes c taken (omega arith))
    ∙ ap (λ (b : Bool). if b then take_control take.first c else c) now

module _ (k : ℕ) (station : StationData) (starts : Bool) (loads : List TimedLoad) (outside : List OutsideTake) where
  -- a station that took control so
  abbrev pub taken_so : StationSoFar → Course → Pair → List Pair → Take → StationSoFar
  taken_so before c x past take = record {
    takes = before.takes ++ take ∷ [];
    hearing = record { memory = memory_after k station.terminal loads (hear_more before.hearing (moment_of x c)); ticks = unheard_ticks (x ∷ past) };
  }

  -- a serving station with one take in the newest tick
  takes-so : (b : Bool) (x : Pair) (past : List Pair) (before : StationSoFar) (c : Course) (take : Take) → b ≡ false →
      takes_in k station starts loads outside (length past) (hear_more before.hearing (moment_of x c)) ≡ take ∷ [] →
      (if b then hold k station starts loads outside x past before (course_with k station starts loads outside before.takes (x ∷ past))
      else serve k station starts loads outside x past before c) ≡ taken_so before c x past take
  takes-so b x past before c take off takes = rw (off, takes) refl

  module _ (x : Pair) (past : List Pair) (take : Take) (serves : Serves (course_after k station starts loads outside past))
      (takes : takes_in k station starts loads outside (length past)
      (hear_more (so_far k station starts loads outside past).hearing (moment_of x (course_after k station starts loads outside past))) ≡ take ∷ []) where
    pub taking-hears : so_far k station starts loads outside (x ∷ past)
        ≡ taken_so (so_far k station starts loads outside past) (course_after k station starts loads outside past) x past take
    unfolding so_far
    taking-hears =
        let before = so_far k station starts loads outside past in
        let c = course_after k station starts loads outside past in
        takes-so c.holds x past before c take serves.serves takes

    pub taking-control : take.heard ≡ suc (length past) →
        course_after k station starts loads outside (x ∷ past) ≡ take_control take.first (course_after k station starts loads outside past)
    taking-control at =
        let before = so_far k station starts loads outside past in
        ap (λ (after : StationSoFar). course_with k station starts loads outside after.takes (x ∷ past)) taking-hears
        ∙ taking-course k station starts before.takes take x past (always-taken k station starts loads outside past) at serves

  -- an answer that was accepted is such a take
  pub takes-one : (tick : ℕ) (hearing : Hearing) (e : ℕ) → accepted_now k station.terminal loads hearing ≡ Some e →
      outside_takes k station starts loads outside tick outside ≡ [] →
      takes_in k station starts loads outside tick hearing ≡ record { heard = suc tick; first = e + taking_over } ∷ []
  takes-one tick hearing e accepted none = rw (accepted, none) refl
