-- A controller that sends the command of a message.
use Rattle.std.proofs.Common.{◌≡◌, inl, inr, ℕ, suc, ◌+◌, ◌-◌, ◌<◌, ◌≤◌, true, List, [], ◌∷◌, ◌++◌, length, Some, None, refl, sym, ap, ◌∙◌, arith, length-append}
use Rattle.std.proofs.lemmas.Bool.{eq-eqb, cases_lt, true≢false}
use Rattle.std.specs.Prelude.{◌==◌, if◌then◌else◌, Bool}
use Rattle.bus_base.specs.Samples.{sample_on}
use Rattle.bus_base.specs.declared.samples.Channel.{Channel}
use Rattle.bus_base.specs.declared.samples.Pair.{Pair}
use Rattle.bus_base.specs.declared.samples.Part.TheVariants.{Command}
use Rattle.bus_base.specs.declared.samples.Sample.{Sample}
use Rattle.bus_line.specs.Past.{Burst, end_of, first_tick, ended_now, first_heard, end_since}
use Rattle.bus_line.specs.Bursts.{IsEndedNow}
use Rattle.bus_line.specs.Channels.{on_channel}
use Rattle.bus_line.proofs.ChannelLaws.{length-on, on-append}
use Rattle.bus_line.proofs.CollectLaws.{end-closes}
use Rattle.bus_line.proofs.EndLaws.{end_since-ended}
use Rattle.bus_line.proofs.HeardLaws.{first_heard-quiet}
use Rattle.bus_line.proofs.Legs.{first_tick-leg}
use Rattle.bus_line.proofs.LookUpLaws.{ended-known}
use Rattle.bus_line.proofs.TickLaws.{at-past}
use Rattle.bus_formats.specs.Forms.{answers_of, command_words}
use Rattle.bus_formats.specs.Plans.{StationData}
use Rattle.bus_formats.specs.Times.{no_response}
use Rattle.bus_formats.specs.declared.form.Outcome.TheVariants.{Sent}
use Rattle.bus_formats.specs.declared.form.Shape.{Shape}
use Rattle.bus_model.specs.Sending.{drive_sample}
use Rattle.bus_model.specs.Starts.{Entry, start_of}
use Rattle.bus_model.specs.Attempts.{Begun, without_words}
use Rattle.bus_model.specs.Controller.{ending_now, ending_after, command_ending, first_ending, drive_command}
use Rattle.bus_model.specs.Course.{Take, Course, course, quiet_from, begin_entry, run_by, runs_next, close, close_or_run, run_on, with_takes, drive_by, drive_course}
use Rattle.bus_law_stations.specs.Silence.{AreTaken, AwaitsFirst}
use Rattle.bus_law_stations.specs.Messages.{BeginsMessage, message_begun, with_running, ShowsBurst}
use Rattle.bus_law_stations.proofs.LegTicks.{leg-endless}
use Rattle.bus_law_stations.proofs.StillController.{reply-awaited, not-taken}

-- ---- one channel

-- the burst began with the first of the ticks
pub burst-began : (k : ℕ) (channel : Channel) (past ticks : List Pair) (now : Pair) (burst : Burst) → ShowsBurst k channel past ticks →
    ended_now k (on_channel channel (now ∷ (ticks ++ past))) ≡ Some burst → burst.first ≡ length past
burst-began k channel past [] now burst shows ended =
    absurd (true≢false (sym (end-closes k (sample_on now channel) (on_channel channel past) burst ended).ran ∙ shows.rests))
burst-began k channel past (x ∷ ticks) now burst shows ended =
    (end-closes k (sample_on now channel) (on_channel channel ((x ∷ ticks) ++ past)) burst ended).first
    ∙ ap (first_tick k) (on-append channel (x ∷ ticks) past)
    ∙ first_tick-leg k (sample_on x channel) (on_channel channel ticks) (on_channel channel past) shows.rests shows.leg
    ∙ length-on channel past

-- some of its ticks were shown
pub burst-some : (k : ℕ) (channel : Channel) (past : List Pair) (now : Pair) (burst : Burst) → ShowsBurst k channel past [] →
    ended_now k (on_channel channel (now ∷ past)) ≡ Some burst → ⊥
burst-some k channel past now burst shows ended =
    true≢false (sym (end-closes k (sample_on now channel) (on_channel channel past) burst ended).ran ∙ shows.rests)

pub burst-endless : (k : ℕ) (channel : Channel) (past ticks : List Pair) → ShowsBurst k channel past ticks →
    end_since k (on_channel channel (ticks ++ past)) (length past) ≡ None
burst-endless k channel past ticks shows =
    ap (λ xs. end_since k xs (length past)) (on-append channel ticks past)
    ∙ ap (end_since k (on_channel channel ticks ++ on_channel channel past)) (sym (length-on channel past))
    ∙ leg-endless k (on_channel channel ticks) (on_channel channel past) shows.rests shows.leg

pub burst-end : (k : ℕ) (channel : Channel) (past ticks : List Pair) (now : Pair) (burst : Burst) → ShowsBurst k channel past ticks →
    ended_now k (on_channel channel (now ∷ (ticks ++ past))) ≡ Some burst →
    end_since k (on_channel channel (now ∷ (ticks ++ past))) (length past) ≡ Some (end_of burst)
burst-end k channel past ticks now burst shows ended =
    ap (end_since k (on_channel channel (now ∷ (ticks ++ past)))) (sym (burst-began k channel past ticks now burst shows ended))
    ∙ end_since-ended k (on_channel channel (now ∷ (ticks ++ past))) burst ended

-- nothing was heard since its end
pub quiet-since-end : (k : ℕ) (past : List Sample) (burst : Burst) → ended_now k past ≡ Some burst → first_heard past (end_of burst) ≡ None
quiet-since-end k past burst ended =
    let known : IsEndedNow k past burst.first burst.ticks = ended-known k past burst ended in
    first_heard-quiet past (end_of burst) (λ t late. elim (cases_lt t (length past)) [
      | inl inside ↦ known.burst.after t late (omega (arith, inside, known.now))
      | inr outside ↦ at-past past t outside
    ])

pub long-since-end : (k : ℕ) (past : List Sample) (burst : Burst) → ended_now k past ≡ Some burst → k < 24 → length past ≤ end_of burst + no_response
long-since-end k past burst ended small =
    let known : IsEndedNow k past burst.first burst.ticks = ended-known k past burst ended in omega (arith, known.now, small)

-- ---- a message begins

next-begins : (c : Course) (past : List Pair) (entry : Entry) → BeginsMessage c past entry → runs_next past c ≡ Some (message_begun c entry (length past))
next-begins c past entry begins =
    let test : (start_of c.opening c.retry c.origin entry (quiet_from past) == length past) ≡ true =
    eq-eqb (start_of c.opening c.retry c.origin entry (quiet_from past)) (length past) begins.starts in
    ap (run_by past c) begins.idle
    ∙ ap (λ (b : Bool). if b then begin_entry past c c.left else None) begins.holds
    ∙ ap (begin_entry past c) begins.left
    ∙ (rw test refl)

pub pairs-append : (ticks past : List Pair) → length (ticks ++ past) ≡ length ticks + length past
pairs-append ticks past = length-append ticks past

module _ (k : ℕ) (station : StationData) (starts : Bool) (takes : List Take) (past : List Pair) (entry : Entry)
    (taken : AreTaken (length past) takes) (begins : BeginsMessage (course k station starts takes past) past entry) where
  -- the message
  abbrev begun : Begun
  begun = message_begun (course k station starts takes past) entry (length past)

  no-end : (ticks : List Pair) → ShowsBurst k begun.state.channel past ticks → ending_now k begun (ticks ++ past) ≡ None
  no-end ticks shows =
      ap (ending_after k entry.item (ticks ++ past) (on_channel begun.state.channel (ticks ++ past))) (burst-endless k begun.state.channel past ticks shows)

  -- it runs
  pub command-runs : (ticks : List Pair) (first : Pair) → ShowsBurst k begun.state.channel past (first ∷ ticks) →
      course k station starts takes ((first ∷ ticks) ++ past) ≡ with_running (course k station starts takes past) begun
  unfolding course
  command-runs [] first shows =
      let c = course k station starts takes past in
      ap (λ o. with_takes takes (suc (length past)) (run_on k first past c o)) (next-begins c past entry begins)
      ∙ ap (λ o. with_takes takes (suc (length past)) (close_or_run c begun (length past) o)) (no-end (first ∷ []) shows)
      ∙ not-taken (length past) (suc (length past)) takes (with_running c begun) taken (omega arith)
  command-runs (before ∷ ticks) first shows =
      let c = course k station starts takes past in
      let later = (before ∷ ticks) ++ past in
      let long : length (ticks ++ past) ≡ length ticks + length past = pairs-append ticks past in
      ap (λ (d : Course). with_takes takes (suc (length later)) (run_on k first later d (runs_next later d)))
      (command-runs ticks before record { rests = shows.rests; leg = shows.leg.2 })
      ∙ ap (λ o. with_takes takes (suc (length later)) (close_or_run (with_running c begun) begun (length later) o)) (no-end (first ∷ before ∷ ticks) shows)
      ∙ not-taken (length past) (suc (length later)) takes (with_running c begun) taken (omega (arith, long))

  next-runs : (ticks : List Pair) → ShowsBurst k begun.state.channel past ticks →
      runs_next (ticks ++ past) (course k station starts takes (ticks ++ past)) ≡ Some begun
  next-runs [] shows = next-begins (course k station starts takes past) past entry begins
  next-runs (first ∷ ticks) shows = ap (runs_next ((first ∷ ticks) ++ past)) (command-runs ticks first shows)

  -- and its command is sent
  pub command-sends : (ticks : List Pair) → ShowsBurst k begun.state.channel past ticks →
      drive_course k (ticks ++ past) (course k station starts takes (ticks ++ past))
      ≡ drive_sample begun.state.channel Command (command_words entry.item.kind) (length ticks)
  command-sends ticks shows =
      let long : length (on_channel begun.state.channel (ticks ++ past)) ≡ length (ticks ++ past) = length-on begun.state.channel (ticks ++ past) in
      let both : length (ticks ++ past) ≡ length ticks + length past = pairs-append ticks past in
      let at : length (on_channel begun.state.channel (ticks ++ past)) - length past ≡ length ticks = omega (arith, long, both) in
      ap (drive_by k (ticks ++ past)) (next-runs ticks shows)
      ∙ ap (drive_command begun (on_channel begun.state.channel (ticks ++ past))) (burst-endless k begun.state.channel past ticks shows)
      ∙ ap (drive_sample begun.state.channel Command (command_words entry.item.kind)) at

  -- with its end the message ends, or goes on
  at-end : (ticks : List Pair) (now : Pair) (burst : Burst) → ShowsBurst k begun.state.channel past ticks →
      ended_now k (on_channel begun.state.channel (now ∷ (ticks ++ past))) ≡ Some burst →
      course k station starts takes (now ∷ (ticks ++ past))
      ≡ with_takes takes (suc (length (ticks ++ past))) (close_or_run (with_running (course k station starts takes past) begun) begun (length (ticks ++ past))
      (command_ending k entry.item (now ∷ (ticks ++ past)) (on_channel begun.state.channel (now ∷ (ticks ++ past))) (end_of burst)
      (answers_of entry.item.kind).first))
  unfolding course
  at-end [] now burst shows ended = absurd (burst-some k begun.state.channel past now burst shows ended)
  at-end (first ∷ ticks) now burst shows ended =
      let c = course k station starts takes past in
      let later = (first ∷ ticks) ++ past in
      ap (λ (d : Course). with_takes takes (suc (length later)) (run_on k now later d (runs_next later d))) (command-runs ticks first shows)
      ∙ ap (λ o. with_takes takes (suc (length later)) (close_or_run (with_running c begun) begun (length later)
      (ending_after k entry.item (now ∷ later) (on_channel begun.state.channel (now ∷ later)) o)))
      (burst-end k begun.state.channel past (first ∷ ticks) now burst shows ended)

  pub command-sent : (ticks : List Pair) (now : Pair) (burst : Burst) → ShowsBurst k begun.state.channel past ticks →
      ended_now k (on_channel begun.state.channel (now ∷ (ticks ++ past))) ≡ Some burst → (answers_of entry.item.kind).first ≡ None →
      course k station starts takes (now ∷ (ticks ++ past))
      ≡ close (course k station starts takes past) begun (without_words Sent None None) (length (ticks ++ past))
  command-sent ticks now burst shows ended none =
      let c = course k station starts takes past in
      let shown = now ∷ (ticks ++ past) in
      let both : length (ticks ++ past) ≡ length ticks + length past = pairs-append ticks past in
      at-end ticks now burst shows ended
      ∙ ap (λ o. with_takes takes (suc (length (ticks ++ past))) (close_or_run (with_running c begun) begun (length (ticks ++ past))
      (command_ending k entry.item shown (on_channel begun.state.channel shown) (end_of burst) o))) none
      ∙ not-taken (length past) (suc (length (ticks ++ past))) takes (close c begun (without_words Sent None None) (length (ticks ++ past))) taken
      (omega (arith, both))

  pub command-waits : (ticks : List Pair) (now : Pair) (burst : Burst) (shape : Shape) → k < 24 → ShowsBurst k begun.state.channel past ticks →
      ended_now k (on_channel begun.state.channel (now ∷ (ticks ++ past))) ≡ Some burst → (answers_of entry.item.kind).first ≡ Some shape →
      (course k station starts takes (now ∷ (ticks ++ past)) ≡ with_running (course k station starts takes past) begun)
      × AwaitsFirst k begun (on_channel begun.state.channel (now ∷ (ticks ++ past))) (end_of burst)
  command-waits ticks now burst shape small shows ended some =
      let c = course k station starts takes past in
      let shown = now ∷ (ticks ++ past) in
      let both : length (ticks ++ past) ≡ length ticks + length past = pairs-append ticks past in
      let silent = quiet-since-end k (on_channel begun.state.channel shown) burst ended in
      let early = long-since-end k (on_channel begun.state.channel shown) burst ended small in (
        at-end ticks now burst shows ended
            ∙ ap (λ o. with_takes takes (suc (length (ticks ++ past))) (close_or_run (with_running c begun) begun (length (ticks ++ past))
            (command_ending k entry.item shown (on_channel begun.state.channel shown) (end_of burst) o))) some
            ∙ ap (λ r. with_takes takes (suc (length (ticks ++ past))) (close_or_run (with_running c begun) begun (length (ticks ++ past))
            (first_ending k entry.item shown (on_channel begun.state.channel shown) (end_of burst) r)))
            (reply-awaited k (on_channel begun.state.channel shown) (end_of burst) silent early)
            ∙ not-taken (length past) (suc (length (ticks ++ past))) takes (with_running c begun) taken (omega (arith, both)),
        record { ended = burst-end k begun.state.channel past ticks now burst shows ended; shape = shape; expects = some; silent = silent },
      )
