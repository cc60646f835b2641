-- A controller whose message is answered: it is read, or abandoned.
use Rattle.std.proofs.Common.{◌≡◌, inl, inr, ℕ, ◌+◌, ◌<◌, Bool, true, false, List, [], ◌∷◌, ◌++◌, length, Option, Some, None, refl, sym, ap, ◌∙◌, arith}
use Rattle.std.proofs.lemmas.Bool.{and_from, eq-eqb}
use Rattle.std.proofs.lemmas.Bool.Decides.{nat_tests}
use Rattle.std.specs.Prelude.{◌&&◌, ◌==◌}
use Rattle.bus_base.specs.declared.samples.Pair.{Pair}
use Rattle.bus_base.specs.declared.samples.Part.TheVariants.{First, Second}
use Rattle.bus_base.specs.declared.samples.Sample.{Sample}
use Rattle.bus_base.specs.declared.samples.Drive.TheVariants.{Silent}
use Rattle.bus_line.specs.Past.{Burst, quiet, end_of, rest_of, ended_now}
use Rattle.bus_line.specs.Channels.{on_channel}
use Rattle.bus_line.proofs.ChannelLaws.{length-on}
use Rattle.bus_formats.specs.Forms.{answers_of}
use Rattle.bus_formats.specs.Plans.{ItemData, StationData}
use Rattle.bus_formats.specs.Readings.{read_answer}
use Rattle.bus_formats.specs.declared.form.Outcome.TheVariants.{Abandoned}
use Rattle.bus_formats.specs.declared.form.Reading.TheVariants.{Good}
use Rattle.bus_formats.specs.declared.form.Shape.{Shape}
use Rattle.bus_model.specs.Attempts.{Begun, without_words}
use Rattle.bus_model.specs.Controller.{running, whole, reply, first_read, good_ending, second_ending, second_read, abandon_ending}
use Rattle.bus_model.specs.Course.{Take, course, close, close_or_run, drive_course}
use Rattle.bus_law_stations.specs.Silence.{AreTaken, AwaitsFirst, AwaitsSecond}
use Rattle.bus_law_stations.specs.Messages.{ShowsBurst}
use Rattle.bus_law_stations.proofs.StillController.{Awaits, reply-awaited}
use Rattle.bus_law_stations.proofs.Commanding.{quiet-since-end, long-since-end}
use Rattle.bus_law_stations.proofs.AnswerTicks.{awaited-since, reply-running, reply-whole}
use Rattle.bus_law_control.specs.Abandoning.{IsAnsweredSoon, IsKept, AreKept}
use Rattle.bus_law_control.proofs.Endings.{ends-so, goes-on, sends-nothing, later-end, first-by, second-by}

-- ---- the tick in which it is abandoned

-- none is not some
none-some : {X : Type 0} (x : X) → None ≡ Some x → ⊥
none-some x e = cc

-- equal options have equal values
some-same : {X : Type 0} (x y : X) → Some x ≡ Some y → x ≡ y
some-same x y e = cc

-- never
pub kept-never : (begun : Begun) (past ticks : List Pair) (e : ℕ) → begun.entry.item.abandon ≡ None → AreKept begun e past ticks
kept-never begun past [] e none = tt
kept-never begun past (x ∷ ticks) e none = (λ n some at. absurd (none-some n (sym none ∙ some)), kept-never begun past ticks e none)

-- not yet
pub kept-early : (begun : Begun) (past ticks : List Pair) (e n : ℕ) → begun.entry.item.abandon ≡ Some n → length (ticks ++ past) < e + n →
    AreKept begun e past ticks
kept-early begun past [] e n is early = tt
kept-early begun past (x ∷ ticks) e n is early = (
  λ m some at. absurd (let same : n ≡ m = some-same n m (sym is ∙ some) in omega (arith, same, at, early)),
  kept-early begun past ticks e n is (omega (arith, early)),
)

-- in another tick, or a quiet one, it isn't
not-abandoned : (k : ℕ) (item : ItemData) (shown : List Pair) (past : List Sample) (e : ℕ) (o : Option ℕ) → o ≡ item.abandon →
    ((n : ℕ) → item.abandon ≡ Some n → length past ≡ e + n → 0 < quiet past) → abandon_ending k item shown past e o ≡ None
not-abandoned k item shown past e None is kept = refl
not-abandoned k item shown past e (Some n) is kept =
    let when = kept n (sym is) in
    let test : ((length past == e + n) && (quiet past == 0)) ≡ false = grind (arith, nat_tests, when) in rw test refl

-- in its tick it is
abandoned : (k : ℕ) (item : ItemData) (shown : List Pair) (past : List Sample) (e n : ℕ) → length past ≡ e + n → quiet past ≡ 0 →
    abandon_ending k item shown past e (Some n) ≡ Some (without_words Abandoned None None)
abandoned k item shown past e n at heard =
    let test : ((length past == e + n) && (quiet past == 0)) ≡ true = and_from _ _ (eq-eqb (length past) (e + n) at) (eq-eqb (quiet past) 0 heard) in
    rw test refl

-- as its channel has it
kept-on : (begun : Begun) (e : ℕ) (shown : List Pair) → IsKept begun e shown → (n : ℕ) → begun.entry.item.abandon ≡ Some n →
    length (on_channel begun.state.channel shown) ≡ e + n → 0 < quiet (on_channel begun.state.channel shown)
kept-on begun e shown kept n is at = kept n is (sym (length-on begun.state.channel shown) ∙ at)

module _ (k : ℕ) (station : StationData) (starts : Bool) (takes : List Take) (past : List Pair) (begun : Begun) (e : ℕ)
    (taken : AreTaken (length past) takes) (answered : IsAnsweredSoon begun (course k station starts takes past) past e) where
  -- while an answer is shown it runs
  reply-runs : Awaits k begun (on_channel begun.state.channel past) e → (x : Pair) (ticks : List Pair) →
      ShowsBurst k begun.state.channel past (x ∷ ticks) → reply k (on_channel begun.state.channel ((x ∷ ticks) ++ past)) e ≡ running
  reply-runs w x ticks shows =
      let since = awaited-since k begun (on_channel begun.state.channel past) e w in
      let long : length (on_channel begun.state.channel past) ≡ length past = length-on begun.state.channel past in
      reply-running k begun.state.channel past ticks x e shows (omega (arith, since.0, long)) answered.prompt since.1

  -- with its end it is whole
  pub reply-read : Awaits k begun (on_channel begun.state.channel past) e → (now : Pair) (ticks : List Pair) (burst : Burst) →
      ShowsBurst k begun.state.channel past ticks → ended_now k (on_channel begun.state.channel (now ∷ (ticks ++ past))) ≡ Some burst →
      reply k (on_channel begun.state.channel (now ∷ (ticks ++ past))) e ≡ whole burst
  reply-read w now ticks burst shows ended =
      let since = awaited-since k begun (on_channel begun.state.channel past) e w in
      let long : length (on_channel begun.state.channel past) ≡ length past = length-on begun.state.channel past in
      reply-whole k begun.state.channel past ticks now e burst shows (omega (arith, since.0, long)) answered.prompt since.1 ended

  -- ---- the first answer

  -- while it runs, and isn't abandoned, nothing changes
  pub first-runs : AwaitsFirst k begun (on_channel begun.state.channel past) e → (ticks : List Pair) → ShowsBurst k begun.state.channel past ticks →
      AreKept begun e past ticks → course k station starts takes (ticks ++ past) ≡ course k station starts takes past
  first-runs w [] shows kept = refl
  first-runs w (x ∷ ticks) shows kept =
      goes-on k station starts takes past begun taken answered.runs x ticks
      (first-runs w ticks record { rests = shows.rests; leg = shows.leg.2 } kept.1)
      (first-by k begun past (x ∷ ticks) e running w (reply-runs (inl w) x ticks shows)
      ∙ not-abandoned k begun.entry.item ((x ∷ ticks) ++ past) (on_channel begun.state.channel ((x ∷ ticks) ++ past)) e begun.entry.item.abandon refl
      (kept-on begun e ((x ∷ ticks) ++ past) kept.0))

  -- and nothing is sent
  pub first-silent : AwaitsFirst k begun (on_channel begun.state.channel past) e → (ticks : List Pair) → ShowsBurst k begun.state.channel past ticks →
      AreKept begun e past ticks → drive_course k (ticks ++ past) (course k station starts takes (ticks ++ past)) ≡ Silent
  first-silent w ticks shows kept =
      sends-nothing k station starts takes past begun taken answered.runs ticks e (first-runs w ticks shows kept)
      (later-end k begun.state.channel past ticks begun.start e w.ended)

  -- in its tick it is abandoned
  pub first-abandoned : AwaitsFirst k begun (on_channel begun.state.channel past) e → (x : Pair) (ticks : List Pair) (n : ℕ) →
      ShowsBurst k begun.state.channel past (x ∷ ticks) → AreKept begun e past ticks → begun.entry.item.abandon ≡ Some n →
      length ((x ∷ ticks) ++ past) ≡ e + n → quiet (on_channel begun.state.channel ((x ∷ ticks) ++ past)) ≡ 0 →
      course k station starts takes ((x ∷ ticks) ++ past)
      ≡ close (course k station starts takes past) begun (without_words Abandoned None None) (length (ticks ++ past))
  first-abandoned w x ticks n shows kept some at heard =
      let shown = (x ∷ ticks) ++ past in
      let channel = on_channel begun.state.channel ((x ∷ ticks) ++ past) in
      ends-so k station starts takes past begun taken answered.runs x ticks (Some (without_words Abandoned None None))
      (first-runs w ticks record { rests = shows.rests; leg = shows.leg.2 } kept)
      (first-by k begun past (x ∷ ticks) e running w (reply-runs (inl w) x ticks shows)
      ∙ ap (abandon_ending k begun.entry.item shown channel e) some
      ∙ abandoned k begun.entry.item shown channel e n (length-on begun.state.channel shown ∙ at) heard)

  -- with its end it is read
  pub first-read : (w : AwaitsFirst k begun (on_channel begun.state.channel past) e) (ticks : List Pair) (now : Pair) (burst : Burst) →
      ShowsBurst k begun.state.channel past ticks → AreKept begun e past ticks →
      ended_now k (on_channel begun.state.channel (now ∷ (ticks ++ past))) ≡ Some burst →
      course k station starts takes (now ∷ (ticks ++ past)) ≡ close_or_run (course k station starts takes past) begun (length (ticks ++ past))
      (first_read k begun.entry.item (now ∷ (ticks ++ past)) (on_channel begun.state.channel (now ∷ (ticks ++ past))) burst
      (read_answer begun.entry.item.kind First burst.slots (rest_of burst)))
  first-read w ticks now burst shows kept ended =
      ends-so k station starts takes past begun taken answered.runs now ticks _ (first-runs w ticks shows kept)
      (first-by k begun past (now ∷ ticks) e (whole burst) w (reply-read (inl w) now ticks burst shows ended))

  -- ---- a relay's second one

  -- while it runs nothing changes
  pub second-runs : AwaitsSecond k begun (on_channel begun.state.channel past) e → (ticks : List Pair) → ShowsBurst k begun.state.channel past ticks →
      course k station starts takes (ticks ++ past) ≡ course k station starts takes past
  second-runs w [] shows = refl
  second-runs w (x ∷ ticks) shows =
      goes-on k station starts takes past begun taken answered.runs x ticks
      (second-runs w ticks record { rests = shows.rests; leg = shows.leg.2 })
      (second-by k begun past (x ∷ ticks) e running w (reply-runs (inr w) x ticks shows))

  -- and nothing is sent
  pub second-silent : AwaitsSecond k begun (on_channel begun.state.channel past) e → (ticks : List Pair) → ShowsBurst k begun.state.channel past ticks →
      drive_course k (ticks ++ past) (course k station starts takes (ticks ++ past)) ≡ Silent
  second-silent w ticks shows =
      sends-nothing k station starts takes past begun taken answered.runs ticks w.command_end (second-runs w ticks shows)
      (later-end k begun.state.channel past ticks begun.start w.command_end w.ended)

  -- with its end it is read
  pub second-read : (w : AwaitsSecond k begun (on_channel begun.state.channel past) e) (ticks : List Pair) (now : Pair) (burst : Burst) →
      ShowsBurst k begun.state.channel past ticks → ended_now k (on_channel begun.state.channel (now ∷ (ticks ++ past))) ≡ Some burst →
      course k station starts takes (now ∷ (ticks ++ past)) ≡ close_or_run (course k station starts takes past) begun (length (ticks ++ past))
      (second_read k begun.entry.item (now ∷ (ticks ++ past)) (on_channel begun.state.channel (now ∷ (ticks ++ past))) w.status
      (read_answer begun.entry.item.kind Second burst.slots (rest_of burst)))
  second-read w ticks now burst shows ended =
      ends-so k station starts takes past begun taken answered.runs now ticks _ (second-runs w ticks shows)
      (second-by k begun past (now ∷ ticks) e (whole burst) w (reply-read (inr w) now ticks burst shows ended))

  -- after a relay's good first answer its second one is awaited
  pub first-relayed : k < 24 → (w : AwaitsFirst k begun (on_channel begun.state.channel past) e) (ticks : List Pair) (now : Pair) (burst : Burst)
      (shape : Shape) (status : ℕ) → ShowsBurst k begun.state.channel past ticks → AreKept begun e past ticks →
      ended_now k (on_channel begun.state.channel (now ∷ (ticks ++ past))) ≡ Some burst →
      read_answer begun.entry.item.kind First burst.slots (rest_of burst) ≡ Good status → (answers_of begun.entry.item.kind).second ≡ Some shape →
      (course k station starts takes (now ∷ (ticks ++ past)) ≡ course k station starts takes past)
      × AwaitsSecond k begun (on_channel begun.state.channel (now ∷ (ticks ++ past))) (end_of burst)
  first-relayed small w ticks now burst shape status shows kept ended good second =
      let shown = now ∷ (ticks ++ past) in
      let channel = on_channel begun.state.channel (now ∷ (ticks ++ past)) in
      let heard = reply-read (inl w) now ticks burst shows ended in
      let silent = quiet-since-end k (on_channel begun.state.channel (now ∷ (ticks ++ past))) burst ended in
      let early = long-since-end k (on_channel begun.state.channel (now ∷ (ticks ++ past))) burst ended small in (
        goes-on k station starts takes past begun taken answered.runs now ticks (first-runs w ticks shows kept)
            (first-by k begun past (now ∷ ticks) e (whole burst) w heard
            ∙ ap (first_read k begun.entry.item shown channel burst) good
            ∙ ap (good_ending k begun.entry.item shown channel status burst) second
            ∙ ap (second_ending k begun.entry.item shown channel status) (reply-awaited k channel (end_of burst) silent early)),
        record {
          command_end = e;
          ended = later-end k begun.state.channel past (now ∷ ticks) begun.start e w.ended;
          first = w.shape;
          second = shape;
          expects_first = w.expects;
          expects_second = second;
          burst = burst;
          status = status;
          answered = heard;
          good = good;
          end = refl;
          silent = silent;
        },
      )
