-- A controller that reads the answers to its message.
use Rattle.std.proofs.Common.{◌≡◌, inl, inr, ℕ, suc, ◌+◌, ◌<◌, Bool, List, [], ◌∷◌, ◌++◌, length, Option, Some, None, refl, sym, ap, ◌∙◌, arith}
use Rattle.bus_base.specs.Samples.{sample_on}
use Rattle.bus_base.specs.declared.samples.Channel.{Channel}
use Rattle.bus_base.specs.declared.samples.Pair.{Pair}
use Rattle.bus_base.specs.declared.samples.Part.TheVariants.{First, Second}
use Rattle.bus_base.specs.declared.samples.Drive.TheVariants.{Silent}
use Rattle.bus_line.specs.Past.{Burst, end_of, rest_of, ended_now, end_since}
use Rattle.bus_line.specs.Channels.{on_channel}
use Rattle.bus_line.proofs.ChannelLaws.{length-on}
use Rattle.bus_line.proofs.EndLaws.{end_since-stays}
use Rattle.bus_formats.specs.Forms.{answers_of}
use Rattle.bus_formats.specs.Plans.{StationData}
use Rattle.bus_formats.specs.Readings.{read_answer}
use Rattle.bus_formats.specs.declared.form.Reading.TheVariants.{Good}
use Rattle.bus_formats.specs.declared.form.Shape.{Shape}
use Rattle.bus_model.specs.Attempts.{Begun, Ended}
use Rattle.bus_model.specs.Controller.{Reply, running, whole, reply, ending_now, ending_after, command_ending, first_ending, first_read, good_ending, second_ending, second_read, abandon_ending, drive_command}
use Rattle.bus_model.specs.Course.{Take, Course, course, run_by, runs_next, close_or_run, run_on, with_takes, drive_by, drive_course}
use Rattle.bus_law_stations.specs.Silence.{AreTaken, AwaitsFirst, AwaitsSecond}
use Rattle.bus_law_stations.specs.Messages.{ShowsBurst, IsAnswered}
use Rattle.bus_law_stations.proofs.StillController.{Awaits, whole-stays, reply-awaited, known, not-taken}
use Rattle.bus_law_stations.proofs.Commanding.{quiet-since-end, long-since-end, pairs-append}
use Rattle.bus_law_stations.proofs.AnswerTicks.{awaited-since, reply-running, reply-whole}

-- ---- what comes of it

later-whole : (k : ℕ) (channel : Channel) (past later : List Pair) (e : ℕ) (burst : Burst) → reply k (on_channel channel past) e ≡ whole burst →
    reply k (on_channel channel (later ++ past)) e ≡ whole burst
later-whole k channel past [] e burst is = is
later-whole k channel past (x ∷ later) e burst is =
    whole-stays k (sample_on x channel) (on_channel channel (later ++ past)) e burst (later-whole k channel past later e burst is)

later-end : (k : ℕ) (channel : Channel) (past later : List Pair) (start e : ℕ) → end_since k (on_channel channel past) start ≡ Some e →
    end_since k (on_channel channel (later ++ past)) start ≡ Some e
later-end k channel past [] start e is = is
later-end k channel past (x ∷ later) start e is =
    end_since-stays k (sample_on x channel) (on_channel channel (later ++ past)) start e (later-end k channel past later start e is)

-- how the message ends after more ticks, by what is heard of its first answer
first-by : (k : ℕ) (begun : Begun) (past later : List Pair) (e : ℕ) (r : Reply) → AwaitsFirst k begun (on_channel begun.state.channel past) e →
    reply k (on_channel begun.state.channel (later ++ past)) e ≡ r →
    ending_now k begun (later ++ past) ≡ first_ending k begun.entry.item (later ++ past) (on_channel begun.state.channel (later ++ past)) e r
first-by k begun past later e r w heard =
    let shown = later ++ past in
    let channel = on_channel begun.state.channel (later ++ past) in
    ap (ending_after k begun.entry.item shown channel) (later-end k begun.state.channel past later begun.start e w.ended)
    ∙ ap (command_ending k begun.entry.item shown channel e) w.expects
    ∙ ap (first_ending k begun.entry.item shown channel e) heard

-- and of its second one
second-by : (k : ℕ) (begun : Begun) (past later : List Pair) (e : ℕ) (r : Reply) (w : AwaitsSecond k begun (on_channel begun.state.channel past) e) →
    reply k (on_channel begun.state.channel (later ++ past)) e ≡ r →
    ending_now k begun (later ++ past) ≡ second_ending k begun.entry.item (later ++ past) (on_channel begun.state.channel (later ++ past)) w.status r
second-by k begun past later e r w heard =
    let shown = later ++ past in
    let channel = on_channel begun.state.channel (later ++ past) in
    ap (ending_after k begun.entry.item shown channel) (later-end k begun.state.channel past later begun.start w.command_end w.ended)
    ∙ ap (command_ending k begun.entry.item shown channel w.command_end) w.expects_first
    ∙ ap (first_ending k begun.entry.item shown channel w.command_end) (later-whole k begun.state.channel past later w.command_end w.burst w.answered)
    ∙ ap (first_read k begun.entry.item shown channel w.burst) w.good
    ∙ ap (good_ending k begun.entry.item shown channel w.status w.burst) w.expects_second
    ∙ ap (λ x. second_ending k begun.entry.item shown channel w.status (reply k channel x)) w.end
    ∙ ap (second_ending k begun.entry.item shown channel w.status) heard

-- while an answer runs the message goes on
runs-on : (k : ℕ) (begun : Begun) (c : Course) (past ticks : List Pair) (x : Pair) (e : ℕ) → IsAnswered begun c past e →
    Awaits k begun (on_channel begun.state.channel past) e → ShowsBurst k begun.state.channel past (x ∷ ticks) → ending_now k begun ((x ∷ ticks) ++ past) ≡ None
runs-on k begun c past ticks x e answered (inl w) shows =
    let since = awaited-since k begun (on_channel begun.state.channel past) e (inl w) in
    let long : length (on_channel begun.state.channel past) ≡ length past = length-on begun.state.channel past in
    first-by k begun past (x ∷ ticks) e running w
    (reply-running k begun.state.channel past ticks x e shows (omega (arith, since.0, long)) answered.prompt since.1)
    ∙ ap (abandon_ending k begun.entry.item ((x ∷ ticks) ++ past) (on_channel begun.state.channel ((x ∷ ticks) ++ past)) e) answered.kept
runs-on k begun c past ticks x e answered (inr w) shows =
    let since = awaited-since k begun (on_channel begun.state.channel past) e (inr w) in
    let long : length (on_channel begun.state.channel past) ≡ length past = length-on begun.state.channel past in
    second-by k begun past (x ∷ ticks) e running w
    (reply-running k begun.state.channel past ticks x e shows (omega (arith, since.0, long)) answered.prompt since.1)

module _ (k : ℕ) (station : StationData) (starts : Bool) (takes : List Take) (past : List Pair) (begun : Begun) (e : ℕ)
    (taken : AreTaken (length past) takes) (answered : IsAnswered begun (course k station starts takes past) past e) where
  -- nothing changes of the controller
  pub answer-runs : Awaits k begun (on_channel begun.state.channel past) e → (ticks : List Pair) → ShowsBurst k begun.state.channel past ticks →
      course k station starts takes (ticks ++ past) ≡ course k station starts takes past
  unfolding course
  answer-runs w [] shows = refl
  answer-runs w (x ∷ ticks) shows =
      let c = course k station starts takes past in
      let later = ticks ++ past in
      let long : length (ticks ++ past) ≡ length ticks + length past = pairs-append ticks past in
      ap (λ (d : Course). with_takes takes (suc (length later)) (run_on k x later d (runs_next later d)))
      (answer-runs w ticks record { rests = shows.rests; leg = shows.leg.2 })
      ∙ ap (λ o. with_takes takes (suc (length later)) (run_on k x later c (run_by later c o))) answered.runs
      ∙ ap (λ o. with_takes takes (suc (length later)) (close_or_run c begun (length later) o)) (runs-on k begun c past ticks x e answered w shows)
      ∙ ap (λ o. with_takes takes (suc (length later)) (record c { runs = o })) (sym answered.runs)
      ∙ not-taken (length past) (suc (length later)) takes c taken (omega (arith, long))

  pub answer-silent : (w : Awaits k begun (on_channel begun.state.channel past) e) (ticks : List Pair) → ShowsBurst k begun.state.channel past ticks →
      drive_course k (ticks ++ past) (course k station starts takes (ticks ++ past)) ≡ Silent
  answer-silent w ticks shows =
      let end = known k begun (on_channel begun.state.channel past) e w in
      ap (drive_course k (ticks ++ past)) (answer-runs w ticks shows)
      ∙ ap (λ o. drive_by k (ticks ++ past) (run_by (ticks ++ past) (course k station starts takes past) o)) answered.runs
      ∙ ap (drive_command begun (on_channel begun.state.channel (ticks ++ past))) (later-end k begun.state.channel past ticks begun.start end.0 end.1)

  -- with its end it is read
  at-end : Awaits k begun (on_channel begun.state.channel past) e → (ticks : List Pair) (now : Pair) → ShowsBurst k begun.state.channel past ticks →
      course k station starts takes (now ∷ (ticks ++ past))
      ≡ with_takes takes (suc (length (ticks ++ past)))
      (close_or_run (course k station starts takes past) begun (length (ticks ++ past)) (ending_now k begun (now ∷ (ticks ++ past))))
  unfolding course
  at-end w ticks now shows =
      let c = course k station starts takes past in
      let later = ticks ++ past in
      ap (λ (d : Course). with_takes takes (suc (length later)) (run_on k now later d (runs_next later d))) (answer-runs w ticks shows)
      ∙ ap (λ o. with_takes takes (suc (length later)) (run_on k now later c (run_by later c o))) answered.runs

  ends-so : Awaits k begun (on_channel begun.state.channel past) e → (ticks : List Pair) (now : Pair) → ShowsBurst k begun.state.channel past ticks →
      (ending : Option Ended) → ending_now k begun (now ∷ (ticks ++ past)) ≡ ending →
      course k station starts takes (now ∷ (ticks ++ past)) ≡ close_or_run (course k station starts takes past) begun (length (ticks ++ past)) ending
  ends-so w ticks now shows ending is =
      let c = course k station starts takes past in
      let later = ticks ++ past in
      let long : length (ticks ++ past) ≡ length ticks + length past = pairs-append ticks past in
      at-end w ticks now shows
      ∙ ap (λ o. with_takes takes (suc (length later)) (close_or_run c begun (length later) o)) is
      ∙ not-taken (length past) (suc (length later)) takes (close_or_run c begun (length later) ending) taken (omega (arith, long))

  read-whole : Awaits k begun (on_channel begun.state.channel past) e → (ticks : List Pair) (now : Pair) (burst : Burst) →
      ShowsBurst k begun.state.channel past ticks → ended_now k (on_channel begun.state.channel (now ∷ (ticks ++ past))) ≡ Some burst →
      reply k (on_channel begun.state.channel (now ∷ (ticks ++ past))) e ≡ whole burst
  read-whole w ticks now burst shows ended =
      let since = awaited-since k begun (on_channel begun.state.channel past) e w in
      let long : length (on_channel begun.state.channel past) ≡ length past = length-on begun.state.channel past in
      reply-whole k begun.state.channel past ticks now e burst shows (omega (arith, since.0, long)) answered.prompt since.1 ended

  pub first-is-read : (w : AwaitsFirst k begun (on_channel begun.state.channel past) e) (ticks : List Pair) (now : Pair) (burst : Burst) →
      ShowsBurst k begun.state.channel past ticks → ended_now k (on_channel begun.state.channel (now ∷ (ticks ++ past))) ≡ Some burst →
      course k station starts takes (now ∷ (ticks ++ past)) ≡ close_or_run (course k station starts takes past) begun (length (ticks ++ past))
      (first_read k begun.entry.item (now ∷ (ticks ++ past)) (on_channel begun.state.channel (now ∷ (ticks ++ past))) burst
      (read_answer begun.entry.item.kind First burst.slots (rest_of burst)))
  first-is-read w ticks now burst shows ended =
      ends-so (inl w) ticks now shows _ (first-by k begun past (now ∷ ticks) e (whole burst) w (read-whole (inl w) ticks now burst shows ended))

  pub second-is-read : (w : AwaitsSecond k begun (on_channel begun.state.channel past) e) (ticks : List Pair) (now : Pair) (burst : Burst) →
      ShowsBurst k begun.state.channel past ticks → ended_now k (on_channel begun.state.channel (now ∷ (ticks ++ past))) ≡ Some burst →
      course k station starts takes (now ∷ (ticks ++ past)) ≡ close_or_run (course k station starts takes past) begun (length (ticks ++ past))
      (second_read k begun.entry.item (now ∷ (ticks ++ past)) (on_channel begun.state.channel (now ∷ (ticks ++ past))) w.status
      (read_answer begun.entry.item.kind Second burst.slots (rest_of burst)))
  second-is-read w ticks now burst shows ended =
      ends-so (inr w) ticks now shows _ (second-by k begun past (now ∷ ticks) e (whole burst) w (read-whole (inr w) ticks now burst shows ended))

  -- after a relay's good first answer its second one is awaited
  pub first-is-relayed : k < 24 → (w : AwaitsFirst k begun (on_channel begun.state.channel past) e) (ticks : List Pair) (now : Pair) (burst : Burst)
      (shape : Shape) (status : ℕ) → ShowsBurst k begun.state.channel past ticks →
      ended_now k (on_channel begun.state.channel (now ∷ (ticks ++ past))) ≡ Some burst →
      read_answer begun.entry.item.kind First burst.slots (rest_of burst) ≡ Good status → (answers_of begun.entry.item.kind).second ≡ Some shape →
      (course k station starts takes (now ∷ (ticks ++ past)) ≡ course k station starts takes past)
      × AwaitsSecond k begun (on_channel begun.state.channel (now ∷ (ticks ++ past))) (end_of burst)
  first-is-relayed small w ticks now burst shape status shows ended good second =
      let c = course k station starts takes past in
      let item = begun.entry.item in
      let shown = now ∷ (ticks ++ past) in
      let channel = on_channel begun.state.channel (now ∷ (ticks ++ past)) in
      let heard = read-whole (inl w) ticks now burst shows ended in
      let silent = quiet-since-end k (on_channel begun.state.channel (now ∷ (ticks ++ past))) burst ended in
      let early = long-since-end k (on_channel begun.state.channel (now ∷ (ticks ++ past))) burst ended small in (
        ends-so (inl w) ticks now shows None
            (first-by k begun past (now ∷ ticks) e (whole burst) w heard
            ∙ ap (first_read k begun.entry.item shown channel burst) good
            ∙ ap (good_ending k begun.entry.item shown channel status burst) second
            ∙ ap (second_ending k begun.entry.item shown channel status) (reply-awaited k channel (end_of burst) silent early))
            ∙ ap (λ o. record c { runs = o }) (sym answered.runs),
        record {
          command_end = e;
          ended = later-end k begun.state.channel past (now ∷ ticks) begun.start e w.ended;
          first = w.shape;
          second = shape;
          expects_first = w.expects;
          expects_second = second;
          burst = burst;
          status = status;
          answered = heard;
          good = good;
          end = refl;
          silent = silent;
        },
      )

  -- it keeps the status that was read
  pub relayed-status : (small : k < 24) (w : AwaitsFirst k begun (on_channel begun.state.channel past) e) (ticks : List Pair) (now : Pair) (burst : Burst)
      (shape : Shape) (status : ℕ) (shows : ShowsBurst k begun.state.channel past ticks)
      (ended : ended_now k (on_channel begun.state.channel (now ∷ (ticks ++ past))) ≡ Some burst)
      (good : read_answer begun.entry.item.kind First burst.slots (rest_of burst) ≡ Good status)
      (second : (answers_of begun.entry.item.kind).second ≡ Some shape) →
      (first-is-relayed small w ticks now burst shape status shows ended good second).1.status ≡ status
  unfolding first-is-relayed
  relayed-status small w ticks now burst shape status shows ended good second = refl
