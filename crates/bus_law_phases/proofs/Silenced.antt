-- A message that nobody answers: the tick in which the wait for its answer is over.
use Rattle.std.proofs.Common.{◌≡◌, inl, inr, ℕ, suc, ◌+◌, ◌<◌, ◌≤◌, Bool, true, false, List, ◌∷◌, ◌++◌, length, Some, None, refl, sym, ap, ◌∙◌, subst, arith}
use Rattle.std.proofs.lemmas.Bool.Decides.{nat_tests}
use Rattle.std.proofs.lemmas.Option.{none-some, same_Some}
use Rattle.std.proofs.lemmas.Bool.{true≢false}
use Rattle.std.specs.Prelude.{◌==◌, ◌&&◌, nat_lt, if◌then◌else◌}
use Rattle.bus_base.specs.declared.samples.Drive.TheVariants.{Silent}
use Rattle.bus_base.specs.declared.samples.Pair.{Pair}
use Rattle.bus_base.specs.declared.samples.Part.TheVariants.{First, Second}
use Rattle.bus_base.specs.declared.samples.Sample.{Sample}
use Rattle.bus_line.specs.Past.{quiet_ticks, end_of, first_heard}
use Rattle.bus_line.specs.Channels.{on_channel}
use Rattle.bus_line.proofs.ChannelLaws.{length-on}
use Rattle.bus_formats.specs.Plans.{StationData}
use Rattle.bus_formats.specs.Times.{no_response}
use Rattle.bus_formats.specs.declared.form.Outcome.{Outcome}
use Rattle.bus_formats.specs.declared.form.Outcome.TheVariants.{Clear, Sent, Declined, Passed, Illegal, Busy, NoResponse, BadReply, Abandoned, Yielded}
use Rattle.bus_model.specs.Memory.{TimedLoad}
use Rattle.bus_model.specs.Attempts.{Begun, Ended, without_words}
use Rattle.bus_model.specs.Controller.{silence, awaited, reply, reply_from, ending_now, ending_after, command_ending, first_ending, first_read, good_ending, second_ending, drive_command}
use Rattle.bus_model.specs.Course.{Take, Course, course, gives, close, close_or_run, run_by, runs_next, run_on, with_takes, drive_by, drive_course}
use Rattle.bus_model.specs.Control.{OutsideTake, is_yielded, yielded_in, so_far, course_after, drives_next}
use Rattle.bus_base.specs.Samples.{quiet_pair, quiet_pairs}
use Rattle.bus_law_stations.specs.Silence.{NothingStarts, AreTaken}
use Rattle.bus_law_stations.specs.Turns.{KeepsControl}
use Rattle.bus_law_stations.proofs.StillController.{Awaits, known, pairs-long, not-taken, still-course}
use Rattle.bus_law_stations.proofs.StillStation.{always-taken}
use Rattle.bus_law_stations.proofs.Turning.{holding-course, holding-sends}
use Rattle.bus_law_phases.proofs.Awaiting.{awaits-quiet, second-quiet}
use Rattle.bus_law_messages.proofs.Pausing.{on-quiet, keeps-quiet, same-course}
use Rattle.bus_law_messages.proofs.Closing.{and-not}

-- a station in control whose message waits for an answer: c is its course
pub record Pending (k : ℕ) (begun : Begun) (c : Course) (past : List Pair) (e : ℕ) : Type 0 where
  pub holds : c.holds ≡ true
  pub runs : c.runs ≡ Some begun
  pub before : (tick : ℕ) → length past ≤ tick → yielded_in tick c.ended ≡ false
  pub awaits : Awaits k begun (on_channel begun.state.channel past) e

-- how the message ends where no answer comes
abbrev pub silent_ending : (k : ℕ) (begun : Begun) (past : List Sample) (e : ℕ) → Awaits k begun past e → Ended
silent_ending k begun past e (inl w) = without_words (NoResponse First) None None
silent_ending k begun past e (inr w) = without_words (NoResponse Second) (Some w.status) None

silent-kept : (k : ℕ) (begun : Begun) (past : List Sample) (e : ℕ) (a : Awaits k begun past e) → gives (silent_ending k begun past e a).outcome ≡ false
silent-kept k begun past e (inl w) = refl
silent-kept k begun past e (inr w) = refl

-- ---- the ending

silence-then : (k : ℕ) (past : List Sample) (e : ℕ) → first_heard past e ≡ None → e + no_response < length past → reply k past e ≡ silence
silence-then k past e none late =
    let over : nat_lt (e + no_response) (length past) ≡ true = grind (arith, nat_tests, late) in
    ap (reply_from k past e) none ∙ ap (λ (b : Bool). if b then silence else awaited) over

ends-without : (k : ℕ) (begun : Begun) (shown : List Pair) (e : ℕ) (a : Awaits k begun (on_channel begun.state.channel shown) e) →
    e + no_response < length shown → ending_now k begun shown ≡ Some (silent_ending k begun (on_channel begun.state.channel shown) e a)
ends-without k begun shown e (inl w) late =
    let channel = on_channel begun.state.channel shown in
    let long : length (on_channel begun.state.channel shown) ≡ length shown = length-on begun.state.channel shown in
    ap (ending_after k begun.entry.item shown channel) w.ended
    ∙ ap (command_ending k begun.entry.item shown channel e) w.expects
    ∙ ap (first_ending k begun.entry.item shown channel e) (silence-then k channel e w.silent (omega (arith, late, long)))
ends-without k begun shown e (inr w) late =
    let channel = on_channel begun.state.channel shown in
    let long : length (on_channel begun.state.channel shown) ≡ length shown = length-on begun.state.channel shown in
    let none : first_heard (on_channel begun.state.channel shown) (end_of w.burst) ≡ None = ap (first_heard channel) w.end ∙ w.silent in
    let at : end_of w.burst ≡ e = w.end in
    ap (ending_after k begun.entry.item shown channel) w.ended
    ∙ ap (command_ending k begun.entry.item shown channel w.command_end) w.expects_first
    ∙ ap (first_ending k begun.entry.item shown channel w.command_end) w.answered
    ∙ ap (first_read k begun.entry.item shown channel w.burst) w.good
    ∙ ap (good_ending k begun.entry.item shown channel w.status w.burst) w.expects_second
    ∙ ap (second_ending k begun.entry.item shown channel w.status) (silence-then k channel (end_of w.burst) none (omega (arith, late, long, at)))

-- the wait goes on in quiet ticks, for the same ending
still-silent : (k : ℕ) (begun : Begun) (n : ℕ) (past : List Sample) (e : ℕ) (a : Awaits k begun past e) →
    (b : Awaits k begun (quiet_ticks n ++ past) e) × (silent_ending k begun (quiet_ticks n ++ past) e b ≡ silent_ending k begun past e a)
still-silent k begun n past e (inl w) = (inl (awaits-quiet k begun n past e w), refl)
still-silent k begun n past e (inr w) =
    let q = second-quiet k begun n past e w in (inr q.0, ap (λ (s : ℕ). without_words (NoResponse Second) (Some s) None) q.1)

-- a message that keeps control isn't yielded
pub not-yielded : (b : Bool) (outcome : Outcome) → gives outcome ≡ false → (b && is_yielded outcome) ≡ false
not-yielded b Clear kept = and-not b
not-yielded b Sent kept = and-not b
not-yielded b Declined kept = and-not b
not-yielded b Passed kept = and-not b
not-yielded b (Illegal part) kept = and-not b
not-yielded b (Busy part) kept = and-not b
not-yielded b (NoResponse part) kept = and-not b
not-yielded b (BadReply part) kept = and-not b
not-yielded b Abandoned kept = and-not b
not-yielded b Yielded kept = absurd (true≢false kept)

-- ---- the controller

module _ (k : ℕ) (station : StationData) (starts : Bool) (takes : List Take) (past : List Pair) (begun : Begun) (e p : ℕ)
    (taken : AreTaken (length past) takes) (runs : (course k station starts takes past).runs ≡ Some begun)
    (awaits : Awaits k begun (on_channel begun.state.channel past) e)
    (nothing : NothingStarts k (course k station starts takes past) past p) (at : length past + p ≡ e + no_response) where
  abbrev later : List Pair
  later = quiet_pairs p ++ past

  abbrev c : Course
  c = course k station starts takes past

  abbrev ending : Ended
  ending = silent_ending k begun (on_channel begun.state.channel past) e awaits

  awaits-later : (n : ℕ) → (b : Awaits k begun (on_channel begun.state.channel (quiet_pairs n ++ past)) e)
      × (silent_ending k begun (on_channel begun.state.channel (quiet_pairs n ++ past)) e b ≡ ending)
  awaits-later n =
      subst (λ xs. (b : Awaits k begun xs e) × (silent_ending k begun xs e b ≡ ending)) (sym (on-quiet begun.state.channel n past))
      (still-silent k begun n (on_channel begun.state.channel past) e awaits)

  -- it drives nothing in that tick
  pub course-silent : drive_course k later (course k station starts takes later) ≡ Silent
  course-silent =
      ap (drive_course k later) (still-course k station starts takes past p taken nothing)
      ∙ ap (λ o. drive_by k later (run_by later c o)) runs
      ∙ ap (drive_command begun (on_channel begun.state.channel later)) (known k begun (on_channel begun.state.channel later) e (awaits-later p).0).1

  pub course-ends : course k station starts takes (quiet_pair ∷ later) ≡ close c begun ending (length later)
  unfolding course
  course-ends =
      let long : length (quiet_pairs p ++ past) ≡ p + length past = pairs-long p past in
      let b = awaits-later (suc p) in
      ap (λ (d : Course). with_takes takes (suc (length later)) (run_on k quiet_pair later d (runs_next later d)))
      (still-course k station starts takes past p taken nothing)
      ∙ ap (λ o. with_takes takes (suc (length later)) (run_on k quiet_pair later c (run_by later c o))) runs
      ∙ ap (λ o. with_takes takes (suc (length later)) (close_or_run c begun (length later) o))
      (ends-without k begun (quiet_pair ∷ later) e b.0 (omega (arith, long, at)) ∙ ap (λ (d : Ended). Some d) b.1)
      ∙ not-taken (length past) (suc (length later)) takes (close c begun ending (length later)) taken (omega (arith, long))

-- ---- the station in control

module _ (k : ℕ) (station : StationData) (starts : Bool) (loads : List TimedLoad) (outside : List OutsideTake) (past : List Pair) (begun : Begun) (e p : ℕ)
    (w : Pending k begun (course_after k station starts loads outside past) past e) (at : length past + p ≡ e + no_response) where
  abbrev takes : List Take
  takes = (so_far k station starts loads outside past).takes

  abbrev mine : Course
  mine = course_after k station starts loads outside past

  abbrev pub silent_end : Ended
  silent_end = silent_ending k begun (on_channel begun.state.channel past) e w.awaits

  -- nothing is due of it while an answer would count
  pub nothing-due : (m : ℕ) → m ≤ p → NothingStarts k mine past m
  nothing-due m few = record {
    waits = λ other is. (
      e,
      subst (λ b. Awaits k b (on_channel b.state.channel past) e) (same_Some begun other (sym w.runs ∙ is)) w.awaits,
      omega (arith, few, at),
    );
    starts = λ idle holds entry later left. absurd (none-some begun (sym idle ∙ w.runs));
  }

  nothing : NothingStarts k mine past p
  nothing = nothing-due p (omega arith)

  keeps : KeepsControl k station starts loads outside past (quiet_pairs p)
  keeps = keeps-quiet k station starts loads outside past w.holds w.before p nothing

  pub silenced-silent : drives_next k station starts loads outside (quiet_pairs p ++ past) ≡ Silent
  silenced-silent =
      holding-sends k station starts loads outside past (quiet_pairs p) keeps
      (ap (λ (d : Course). d.holds) (same-course k station starts loads outside past w.holds w.before p nothing) ∙ w.holds)
      ∙ course-silent k station starts takes past begun e p (always-taken k station starts loads outside past) w.runs w.awaits nothing at

  ends : course k station starts takes (quiet_pairs (suc p) ++ past) ≡ close mine begun silent_end (length (quiet_pairs p ++ past))
  ends = course-ends k station starts takes past begun e p (always-taken k station starts loads outside past) w.runs w.awaits nothing at

  pub end-kept : gives silent_end.outcome ≡ false
  end-kept = silent-kept k begun (on_channel begun.state.channel past) e w.awaits

  pub silenced-course : course_after k station starts loads outside (quiet_pairs (suc p) ++ past) ≡ close mine begun silent_end (e + no_response)
  silenced-course =
      let long : length (quiet_pairs p ++ past) ≡ p + length past = pairs-long p past in
      let tick : length (quiet_pairs p ++ past) ≡ e + no_response = omega (arith, long, at) in
      holding-course k station starts loads outside past (quiet_pairs (suc p)) (
        ap (λ (d : Course). d.holds) (still-course k station starts takes past p (always-taken k station starts loads outside past) nothing) ∙ w.holds,
        ap (λ (d : Course). yielded_in (length (quiet_pairs p ++ past)) d.ended) ends
            ∙ not-yielded (length (quiet_pairs p ++ past) == length (quiet_pairs p ++ past)) silent_end.outcome end-kept,
        keeps,
      )
      ∙ ends
      ∙ ap (close mine begun silent_end) tick
