-- The station in control where the end of its command becomes known: the message ends Sent, or waits for its first answer.
use Rattle.std.proofs.Common.{◌≡◌, inl, inr, ℕ, ◌+◌, ◌<◌, Bool, true, false, List, ◌∷◌, ◌++◌, length, Some, None, refl, ap, ◌∙◌, arith, length-append}
use Rattle.std.specs.Prelude.{◌&&◌, ◌==◌}
use Rattle.bus_base.specs.declared.samples.Pair.{Pair}
use Rattle.bus_line.specs.Past.{Burst, ended_now, end_of}
use Rattle.bus_line.specs.Channels.{on_channel}
use Rattle.bus_formats.specs.Forms.{answers_of}
use Rattle.bus_formats.specs.Plans.{StationData}
use Rattle.bus_formats.specs.declared.form.Outcome.TheVariants.{Sent}
use Rattle.bus_formats.specs.declared.form.Shape.{Shape}
use Rattle.bus_model.specs.Memory.{TimedLoad}
use Rattle.bus_model.specs.Starts.{Entry}
use Rattle.bus_model.specs.Attempts.{Begun, without_words}
use Rattle.bus_model.specs.Course.{Course, close}
use Rattle.bus_model.specs.Control.{OutsideTake, yielded_in, so_far, course_after}
use Rattle.bus_law_stations.specs.Messages.{BeginsMessage, message_begun, with_running, ShowsBurst}
use Rattle.bus_law_stations.specs.Turns.{KeepsControl}
use Rattle.bus_law_stations.proofs.Commanding.{command-sent, command-waits}
use Rattle.bus_law_stations.proofs.Resting.{cases-option}
use Rattle.bus_law_stations.proofs.StillStation.{always-taken}
use Rattle.bus_law_stations.proofs.Turning.{holding-course}
use Rattle.bus_law_messages.specs.Settled.{InControl}
use Rattle.bus_law_messages.specs.Ends.{SentCommand}
use Rattle.bus_law_messages.proofs.Holding.{still-holds, keeps-control, later_course}

pub and-not : (b : Bool) → (b && false) ≡ false
and-not true = refl
and-not false = refl

module _ (k : ℕ) (station : StationData) (starts : Bool) (loads : List TimedLoad) (outside : List OutsideTake) (past : List Pair) (entry : Entry)
    (controls : InControl (course_after k station starts loads outside past) (length past))
    (begins : BeginsMessage (course_after k station starts loads outside past) past entry) (small : k < 24) (x : Pair) (ticks : List Pair) (burst : Burst)
    (shows : ShowsBurst k (message_begun (course_after k station starts loads outside past) entry (length past)).state.channel past ticks)
    (ended : ended_now k (on_channel (message_begun (course_after k station starts loads outside past) entry (length past)).state.channel (x ∷ (ticks ++ past)))
    ≡ Some burst) where
  abbrev c : Course
  c = course_after k station starts loads outside past

  abbrev begun : Begun
  begun = message_begun c entry (length past)

  abbrev later : List Pair → Course
  later more = later_course k station starts loads outside past entry controls begins more

  end-sent : (answers_of entry.item.kind).first ≡ None → later (x ∷ ticks) ≡ close c begun (without_words Sent None None) (length (ticks ++ past))
  end-sent none =
      command-sent k station starts (so_far k station starts loads outside past).takes past entry (always-taken k station starts loads outside past) begins
      ticks x burst shows ended none

  end-waits : (shape : Shape) → (answers_of entry.item.kind).first ≡ Some shape → later (x ∷ ticks) ≡ with_running c begun
  end-waits shape expects =
      (command-waits k station starts (so_far k station starts loads outside past).takes past entry (always-taken k station starts loads outside past) begins
      ticks x burst shape small shows ended expects).0

  end-keeps : yielded_in (length (ticks ++ past)) (later (x ∷ ticks)).ended ≡ false
  end-keeps =
      let long : length (ticks ++ past) ≡ length ticks + length past = length-append ticks past in
      elim (cases-option (answers_of entry.item.kind).first) [
        | inl none ↦ ap (λ (d : Course). yielded_in (length (ticks ++ past)) d.ended) (end-sent none)
            ∙ and-not (length (ticks ++ past) == length (ticks ++ past))
        | inr expects ↦ ap (λ (d : Course). yielded_in (length (ticks ++ past)) d.ended) (end-waits expects.0 expects.1)
            ∙ controls.before (length (ticks ++ past)) (omega (arith, long))
      ]

  end-control : KeepsControl k station starts loads outside past (x ∷ ticks)
  end-control = (
    still-holds k station starts loads outside past entry controls begins ticks shows,
    end-keeps,
    keeps-control k station starts loads outside past entry controls begins ticks shows,
  )

  end-course : course_after k station starts loads outside ((x ∷ ticks) ++ past) ≡ later (x ∷ ticks)
  end-course = holding-course k station starts loads outside past (x ∷ ticks) end-control

  pub sent-command : length (ticks ++ past) ≡ end_of burst + k → SentCommand k station starts loads outside past (x ∷ ticks) begun burst
  sent-command at = record {
    sent = λ none. end-course ∙ end-sent none ∙ ap (close c begun (without_words Sent None None)) at;
    waits = λ shape expects. (
      end-course ∙ end-waits shape expects,
      (command-waits k station starts (so_far k station starts loads outside past).takes past entry (always-taken k station starts loads outside past) begins
          ticks x burst shape small shows ended expects).1,
    );
  }
