-- The station in control keeps control to the end of its command, and one tick more where it doesn't yield.
use Rattle.std.proofs.Common.{◌≡◌, inl, inr, ℕ, ◌+◌, ◌<◌, Bool, true, false, List, ◌∷◌, ◌++◌, length, Some, refl, sym, ap, ◌∙◌, arith, length-append}
use Rattle.std.specs.Prelude.{◌==◌, if◌then◌else◌}
use Rattle.bus_base.specs.declared.samples.Pair.{Pair}
use Rattle.bus_line.specs.Past.{Burst, ended_now}
use Rattle.bus_line.specs.Channels.{on_channel}
use Rattle.bus_formats.specs.Forms.{answers_of}
use Rattle.bus_formats.specs.Plans.{StationData}
use Rattle.bus_model.specs.Memory.{TimedLoad}
use Rattle.bus_model.specs.Starts.{Entry}
use Rattle.bus_model.specs.Course.{Course}
use Rattle.bus_model.specs.Control.{OutsideTake, StationSoFar, yielded_in, serve, hold, course_with, so_far, course_after}
use Rattle.bus_law_stations.specs.Messages.{BeginsMessage, message_begun, ShowsBurst}
use Rattle.bus_law_stations.specs.Turns.{KeepsControl}
use Rattle.bus_law_stations.proofs.Commanding.{command-sent, command-waits}
use Rattle.bus_law_stations.proofs.Resting.{cases-option}
use Rattle.bus_law_stations.proofs.StillStation.{always-taken}
use Rattle.bus_law_stations.proofs.Turning.{holding-hears, holding-course}
use Rattle.bus_law_messages.specs.Settled.{InControl}
use Rattle.bus_law_messages.proofs.Closing.{and-not}
use Rattle.bus_law_messages.proofs.Holding.{still-holds, keeps-control, later_course}

-- a command is sent to its end, which is known, and control is kept
pub command-kept : (k : ℕ) (station : StationData) (starts : Bool) (loads : List TimedLoad) (outside : List OutsideTake) (past : List Pair) (entry : Entry) →
    InControl (course_after k station starts loads outside past) (length past) →
    BeginsMessage (course_after k station starts loads outside past) past entry → k < 24 → (x : Pair) (ticks : List Pair) (burst : Burst) →
    ShowsBurst k (message_begun (course_after k station starts loads outside past) entry (length past)).state.channel past ticks →
    ended_now k (on_channel (message_begun (course_after k station starts loads outside past) entry (length past)).state.channel (x ∷ (ticks ++ past)))
    ≡ Some burst → KeepsControl k station starts loads outside past (x ∷ ticks)
command-kept k station starts loads outside past entry controls begins small x ticks burst shows ended =
    let takes = (so_far k station starts loads outside past).takes in
    let taken = always-taken k station starts loads outside past in
    let later = later_course k station starts loads outside past entry controls begins (x ∷ ticks) in
    let tick = length (ticks ++ past) in
    let long : length (ticks ++ past) ≡ length ticks + length past = length-append ticks past in
    let unyielded : yielded_in tick later.ended ≡ false = elim (cases-option (answers_of entry.item.kind).first) [
      | inl none ↦ ap (λ (d : Course). yielded_in tick d.ended)
          (command-sent k station starts takes past entry taken begins ticks x burst shows ended none)
          ∙ and-not (tick == tick)
      | inr expects ↦ ap (λ (d : Course). yielded_in tick d.ended)
          ((command-waits k station starts takes past entry taken begins ticks x burst expects.0 small shows ended expects.1).0)
          ∙ controls.before tick (omega (arith, long))
    ] in (
      still-holds k station starts loads outside past entry controls begins ticks shows,
      unyielded,
      keeps-control k station starts loads outside past entry controls begins ticks shows,
    )

-- ---- one tick more

-- a test that holds chooses the first
by-hold : (b : Bool) (x y : StationSoFar) → b ≡ true → (if b then x else y).takes ≡ x.takes
by-hold b x y on = rw on refl

module _ (k : ℕ) (station : StationData) (starts : Bool) (loads : List TimedLoad) (outside : List OutsideTake) (past ticks : List Pair)
    (keeps : KeepsControl k station starts loads outside past ticks) (x : Pair)
    (holds : (course_after k station starts loads outside (ticks ++ past)).holds ≡ true) where
  same-takes : (so_far k station starts loads outside (x ∷ (ticks ++ past))).takes ≡ (so_far k station starts loads outside past).takes
  unfolding so_far
  same-takes =
      let later = ticks ++ past in
      let before = so_far k station starts loads outside (ticks ++ past) in
      by-hold (course_with k station starts loads outside before.takes later).holds
      (hold k station starts loads outside x later before (course_with k station starts loads outside before.takes (x ∷ later)))
      (serve k station starts loads outside x later before (course_with k station starts loads outside before.takes later)) holds
      ∙ ap (λ (so : StationSoFar). so.takes) (holding-hears k station starts loads outside past ticks keeps)

  -- control is kept in a tick too after which it isn't yielded
  pub kept-more : yielded_in (length (ticks ++ past)) (course_after k station starts loads outside (x ∷ (ticks ++ past))).ended ≡ false →
      KeepsControl k station starts loads outside past (x ∷ ticks)
  kept-more stays = (
    ap (λ (d : Course). d.holds) (sym (holding-course k station starts loads outside past ticks keeps)) ∙ holds,
    ap (λ takes. yielded_in (length (ticks ++ past)) (course_with k station starts loads outside takes (x ∷ (ticks ++ past))).ended) (sym same-takes) ∙ stays,
    keeps,
  )
