-- What a station drives and when it is done doesn't depend on which subsystem is named behind its terminal.
use Rattle.std.proofs.Common.{◌≡◌, ℕ, suc, Bool, not, List, [], ◌∷◌, ◌++◌, length, refl, ap, ◌∙◌}
use Rattle.std.specs.Prelude.{◌&&◌, ◌||◌, if◌then◌else◌, Option, None, is_none}
use Rattle.bus_base.specs.declared.samples.Pair.{Pair}
use Rattle.bus_formats.specs.Plans.{StationData, without_subsystem}
use Rattle.bus_model.specs.Control.{OutsideTake, StationSoFar, accepted_take, is_outside, outside_takes, takes_in, taken_over, serve, hold, so_far_after, so_far, course_after, hearing_after, holds_control, taking_from, takes_control, is_idle, drives_next, hear_more, moment_of, unheard_ticks}
use Rattle.bus_model.specs.Course.{Take, Course, at_first, course, drive_course, with_takes, run_on, runs_next}
use Rattle.bus_model.specs.Hearing.{Hearing}
use Rattle.bus_model.specs.Memory.{Memory, TimedLoad}
use Rattle.bus_model.specs.Starts.{agenda, has_items}
use Rattle.bus_model.specs.Terminal.{accepted_now, drives}
use Rattle.bus_law_readback.proofs.AlikeTerminal.{accepted-same, memory-same, drives-same}

-- a choice with the same test and the same branches
chosen : {T : Type 0} (test test' : Bool) (a a' b b' : T) → test ≡ test' → a ≡ a' → b ≡ b' → (if test then a else b) ≡ (if test' then a' else b')
chosen test test' a a' b b' same left right = rw (same, left, right) refl

module _ (k : ℕ) (s : StationData) (starts : Bool) where
  -- the station without its subsystem
  abbrev bare-station : StationData
  bare-station = without_subsystem s

  first-same : at_first bare-station starts ≡ at_first s starts
  unfolding agenda
  first-same = refl

  course-same : (takes : List Take) (past : List Pair) → course k bare-station starts takes past ≡ course k s starts takes past
  unfolding course
  course-same takes [] = ap (with_takes takes 0) first-same
  course-same takes (shown ∷ past) =
      ap (λ (c : Course). with_takes takes (suc (length past)) (run_on k shown past c (runs_next past c))) (course-same takes past)

  module _ (loads : List TimedLoad) (outside : List OutsideTake) where
    outside-same : (tick : ℕ) (takes : List OutsideTake) →
        outside_takes k bare-station starts loads outside tick takes ≡ outside_takes k s starts loads outside tick takes
    outside-same tick [] = refl
    outside-same tick (take ∷ takes) =
        ap (λ (later : List Take). if is_outside k s starts loads outside tick take then record { heard = suc tick; first = take.first } ∷ later else later)
        (outside-same tick takes)

    takes-same : (tick : ℕ) (h : Hearing) → takes_in k bare-station starts loads outside tick h ≡ takes_in k s starts loads outside tick h
    takes-same tick h =
        ap (λ o. accepted_take tick o ++ outside_takes k bare-station starts loads outside tick outside) (accepted-same s.terminal k loads h)
        ∙ ap (λ (l : List Take). accepted_take tick (accepted_now k s.terminal loads h) ++ l) (outside-same tick outside)

    over-same : (past : List Pair) (before : StationSoFar) (h : Hearing) (takes : List Take) →
        taken_over k bare-station starts loads outside past before h takes ≡ taken_over k s starts loads outside past before h takes
    over-same past before h [] = refl
    over-same past before h (take ∷ takes) =
        ap (λ (m : Memory). record { takes = before.takes ++ (take ∷ takes); hearing = record { memory = m; ticks = unheard_ticks past } })
        (memory-same s.terminal k loads h)

    serve-same : (shown : Pair) (past : List Pair) (before : StationSoFar) (c : Course) →
        serve k bare-station starts loads outside shown past before c ≡ serve k s starts loads outside shown past before c
    serve-same shown past before c =
        let h = hear_more before.hearing (moment_of shown c) in
        ap (taken_over k bare-station starts loads outside (shown ∷ past) before h) (takes-same (length past) h)
        ∙ over-same (shown ∷ past) before h (takes_in k s starts loads outside (length past) h)

    after-same : (shown : Pair) (past : List Pair) (before : StationSoFar) →
        so_far_after k bare-station starts loads outside shown past before ≡ so_far_after k s starts loads outside shown past before
    after-same shown past before =
        let now : course k bare-station starts before.takes past ≡ course k s starts before.takes past = course-same before.takes past in
        chosen (course k bare-station starts before.takes past).holds (course k s starts before.takes past).holds
        (hold k bare-station starts loads outside shown past before (course k bare-station starts before.takes (shown ∷ past)))
        (hold k s starts loads outside shown past before (course k s starts before.takes (shown ∷ past)))
        (serve k bare-station starts loads outside shown past before (course k bare-station starts before.takes past))
        (serve k s starts loads outside shown past before (course k s starts before.takes past))
        (ap (λ (c : Course). c.holds) now)
        (ap (hold k s starts loads outside shown past before) (course-same before.takes (shown ∷ past)))
        (ap (serve k bare-station starts loads outside shown past before) now
        ∙ serve-same shown past before (course k s starts before.takes past))

    pub so-far-same : (past : List Pair) → so_far k bare-station starts loads outside past ≡ so_far k s starts loads outside past
    unfolding so_far
    so-far-same [] = refl
    so-far-same (shown ∷ past) =
        ap (so_far_after k bare-station starts loads outside shown past) (so-far-same past)
        ∙ after-same shown past (so_far k s starts loads outside past)

    course-after-same : (past : List Pair) → course_after k bare-station starts loads outside past ≡ course_after k s starts loads outside past
    course-after-same past =
        ap (λ (f : StationSoFar). course k bare-station starts f.takes past) (so-far-same past)
        ∙ course-same (so_far k s starts loads outside past).takes past

    hearing-same : (past : List Pair) → hearing_after k bare-station starts loads outside past ≡ hearing_after k s starts loads outside past
    hearing-same past = ap (λ (f : StationSoFar). f.hearing) (so-far-same past)

    pub drives-next-same : (past : List Pair) → drives_next k bare-station starts loads outside past ≡ drives_next k s starts loads outside past
    drives-next-same past =
        let c : course_after k bare-station starts loads outside past ≡ course_after k s starts loads outside past = course-after-same past in
        let h : hearing_after k bare-station starts loads outside past ≡ hearing_after k s starts loads outside past = hearing-same past in
        chosen (holds_control k bare-station starts loads outside past) (holds_control k s starts loads outside past)
        (drive_course k past (course_after k bare-station starts loads outside past)) (drive_course k past (course_after k s starts loads outside past))
        (drives k bare-station.terminal loads (hearing_after k bare-station starts loads outside past))
        (drives k s.terminal loads (hearing_after k s starts loads outside past))
        (ap (λ (d : Course). d.holds) c)
        (ap (drive_course k past) c)
        (ap (drives k bare-station.terminal loads) h ∙ drives-same s.terminal k loads (hearing_after k s starts loads outside past))

    -- it serves, or no message runs and no item is left; and it isn't taking control: both by the course alone
    abbrev idle-with : Course → Bool
    idle-with c = not c.holds || (is_none c.runs && not (has_items c.left))

    abbrev taking-with : List Pair → Course → Option ℕ
    taking-with past c = if c.holds then taking_from (length past) c.opening else None

    pub idle-same : (past : List Pair) → is_idle k bare-station starts loads outside past ≡ is_idle k s starts loads outside past
    idle-same past = ap idle-with (course-after-same past)

    pub takes-control-same : (past : List Pair) → takes_control k bare-station starts loads outside past ≡ takes_control k s starts loads outside past
    takes-control-same past = ap (taking-with past) (course-after-same past)
