-- A station of which no item offers control never doubts, and keeps control once it has it.
use Rattle.std.proofs.Common.{◌≡◌, ℕ, suc, Bool, true, false, List, [], ◌∷◌, length, Option, Some, None, refl, ap}
use Rattle.std.specs.Prelude.{not, ◌==◌, if◌then◌else◌, ⊤}
use Rattle.std.specs.List.{AllByRecursion as Each}
use Rattle.bus_base.specs.declared.samples.Pair.{Pair}
use Rattle.bus_formats.specs.Plans.{StationData}
use Rattle.bus_retry.specs.Retries.{next_of}
use Rattle.bus_retry.specs.declared.Choice.{Choice}
use Rattle.bus_retry.specs.declared.Choice.TheVariants.{Again, Done}
use Rattle.bus_model.specs.Attempts.{Begun, Ended, is_offer}
use Rattle.bus_model.specs.Control.{OutsideTake, so_far, hold, serve, course_with, course_after, holds_control, doubts_by, doubts}
use Rattle.bus_model.specs.Controller.{ending_now}
use Rattle.bus_model.specs.Course.{Take, Course, begin_entry, run_by, runs_next, close_or_run, run_on, take_control, with_takes, at_first, course}
use Rattle.bus_model.specs.Memory.{TimedLoad}
use Rattle.bus_model.specs.Starts.{Entry, agenda, left_after, start_of}
use Rattle.bus_law_told.specs.Plain.{IsPlainItem, IsPlainStation}
use Rattle.bus_law_run.proofs.PlainEndings.{Keeps, ending-keeps}
use Rattle.bus_law_run.proofs.PlainEntries.{in-agenda}

-- ---- a controller without offers

abbrev IsPlainEntry : Entry → Type 0
IsPlainEntry e = is_offer e.item.kind ≡ false

abbrev RunsPlain : Option Begun → Type 0
RunsPlain None = ⊤
RunsPlain (Some begun) = IsPlainEntry begun.entry

-- neither the message that runs, nor one that is left, offers control
record IsPlainCourse (c : Course) : Type 0 where
  left : Each IsPlainEntry c.left
  runs : RunsPlain c.runs

-- control that is held is kept
abbrev KeepsOn : Course → Course → Type 0
KeepsOn c d = c.holds ≡ true → d.holds ≡ true

left-plain : (choice : Choice) (left : List Entry) → Each IsPlainEntry left → Each IsPlainEntry (left_after choice left)
left-plain Done [] all = tt
left-plain Done (entry ∷ later) all = all.1
left-plain (Again state) left all = all

begins-plain : (past : List Pair) (c : Course) (left : List Entry) → Each IsPlainEntry left → RunsPlain (begin_entry past c left)
begins-plain past c [] all = tt
begins-plain past c (entry ∷ later) all =
    either-plain (start_of c.opening c.retry c.origin entry _ == length past) _ all.0
  where
    either-plain : (b : Bool) (begun : Begun) → IsPlainEntry begun.entry → RunsPlain (if b then Some begun else None)
    either-plain true begun is = is
    either-plain false begun is = tt

next-plain : (past : List Pair) (c : Course) (runs : Option Begun) → RunsPlain runs → Each IsPlainEntry c.left → RunsPlain (run_by past c runs)
next-plain past c (Some begun) is all = is
next-plain past c None is all = if-holds c.holds
  where
    if-holds : (b : Bool) → RunsPlain (if b then begin_entry past c c.left else None)
    if-holds true = begins-plain past c c.left all
    if-holds false = tt

-- a tick, by whether the message ends in it
closed-plain : (c : Course) (begun : Begun) (tick : ℕ) (o : Option Ended) → IsPlainCourse c → IsPlainEntry begun.entry → Keeps o →
    IsPlainCourse (close_or_run c begun tick o) × KeepsOn c (close_or_run c begun tick o)
closed-plain c begun tick None is entry keeps = (record { left = is.left; runs = entry }, λ holds. holds)
closed-plain c begun tick (Some e) is entry keeps = (
  record { left = left-plain (next_of begun.entry.item begun.state e.outcome) c.left is.left; runs = tt },
  λ holds. ap not keeps,
)

run-plain : (k : ℕ) (shown : Pair) (past : List Pair) (c : Course) (runs : Option Begun) → IsPlainCourse c → RunsPlain runs →
    IsPlainCourse (run_on k shown past c runs) × KeepsOn c (run_on k shown past c runs)
run-plain k shown past c None is entry = (is, λ holds. holds)
run-plain k shown past c (Some begun) is entry =
    closed-plain c begun (length past) (ending_now k begun (shown ∷ past)) is entry (ending-keeps k begun (shown ∷ past) entry)

take-plain : (b : Bool) (first : ℕ) (c : Course) → IsPlainCourse c →
    IsPlainCourse (if b then take_control first c else c) × KeepsOn c (if b then take_control first c else c)
take-plain true first c is = (record { left = is.left; runs = is.runs }, λ holds. refl)
take-plain false first c is = (is, λ holds. holds)

takes-plain : (takes : List Take) (heard : ℕ) (c : Course) → IsPlainCourse c → IsPlainCourse (with_takes takes heard c) × KeepsOn c (with_takes takes heard c)
takes-plain [] heard c is = (is, λ holds. holds)
takes-plain (take ∷ takes) heard c is =
    let one = take-plain (take.heard == heard) take.first c is in
    let rest = takes-plain takes heard (if take.heard == heard then take_control take.first c else c) one.0 in
    (rest.0, λ holds. rest.1 (one.1 holds))

module _ (k : ℕ) (station : StationData) (starts : Bool) (plain : IsPlainStation station) where
  agenda-plain : Each IsPlainEntry (agenda station)
  agenda-plain = weaker (agenda station) (in-agenda station plain)
    where
      weaker : (entries : List Entry) → Each (λ (e : Entry). IsPlainItem e.item) entries → Each IsPlainEntry entries
      weaker [] all = tt
      weaker (e ∷ es) all = (all.0.1, weaker es all.1)

  course-plain : (takes : List Take) (past : List Pair) → IsPlainCourse (course k station starts takes past)
  unfolding course
  course-plain takes [] = (takes-plain takes 0 (at_first station starts) record { left = agenda-plain; runs = tt }).0
  course-plain takes (shown ∷ past) =
      let c = course k station starts takes past in
      let is = course-plain takes past in
      (takes-plain takes (suc (length past)) (run_on k shown past c (runs_next past c))
      (run-plain k shown past c (runs_next past c) is (next-plain past c c.runs is.runs is.left)).0).0

  course-keeps : (takes : List Take) (shown : Pair) (past : List Pair) → KeepsOn (course k station starts takes past) (course k station starts takes (shown ∷ past))
  unfolding course
  course-keeps takes shown past holds =
      let c = course k station starts takes past in
      let is = course-plain takes past in
      let run = run-plain k shown past c (runs_next past c) is (next-plain past c c.runs is.runs is.left) in
      (takes-plain takes (suc (length past)) (run_on k shown past c (runs_next past c)) run.0).1 (run.1 holds)

  -- ---- a station without offers

  module _ (loads : List TimedLoad) (outside : List OutsideTake) where
    pub plain-keeps : (shown : Pair) (past : List Pair) → holds_control k station starts loads outside past ≡ true →
        holds_control k station starts loads outside (shown ∷ past) ≡ true
    unfolding so_far
    plain-keeps shown past holds = by (holds_control k station starts loads outside past) holds
      where
        by : (b : Bool) → b ≡ true →
            (course_with k station starts loads outside
            (if b then hold k station starts loads outside shown past (so_far k station starts loads outside past)
            (course_with k station starts loads outside (so_far k station starts loads outside past).takes (shown ∷ past))
            else serve k station starts loads outside shown past (so_far k station starts loads outside past)
            (course_with k station starts loads outside (so_far k station starts loads outside past).takes past)).takes (shown ∷ past)).holds ≡ true
        by true on = course-keeps (so_far k station starts loads outside past).takes shown past holds
        by false on = absurd (cc)

    pub plain-doubts : (past : List Pair) → doubts k station starts loads outside past ≡ false
    plain-doubts past = by (course_after k station starts loads outside past).runs (course-plain (so_far k station starts loads outside past).takes past).runs
      where
        by : (runs : Option Begun) → RunsPlain runs → doubts_by k station starts loads outside past runs ≡ false
        by None is = refl
        by (Some begun) is = rw is refl
