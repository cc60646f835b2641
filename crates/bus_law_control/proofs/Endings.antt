-- How a message ends that runs, tick by tick.
use Rattle.std.proofs.Common.{◌≡◌, ◌⊎◌, inl, inr, ℕ, suc, ◌+◌, ◌<◌, ◌≤◌, Bool, true, List, [], ◌∷◌, ◌++◌, length, Option, Some, None, refl, sym, ap, ◌∙◌, arith}
use Rattle.std.proofs.lemmas.Bool.Decides.{nat_tests}
use Rattle.std.specs.Prelude.{nat_lt, if◌then◌else◌}
use Rattle.bus_base.specs.Samples.{sample_on}
use Rattle.bus_base.specs.declared.samples.Channel.{Channel}
use Rattle.bus_base.specs.declared.samples.Pair.{Pair}
use Rattle.bus_base.specs.declared.samples.Part.TheVariants.{First, Second}
use Rattle.bus_base.specs.declared.samples.Sample.{Sample}
use Rattle.bus_base.specs.declared.samples.Drive.TheVariants.{Silent}
use Rattle.bus_line.specs.Past.{Burst, first_heard, end_since}
use Rattle.bus_line.specs.Channels.{on_channel}
use Rattle.bus_line.proofs.EndLaws.{end_since-stays}
use Rattle.bus_formats.specs.Plans.{StationData}
use Rattle.bus_formats.specs.Times.{no_response}
use Rattle.bus_formats.specs.declared.form.Outcome.TheVariants.{NoResponse}
use Rattle.bus_model.specs.Attempts.{Begun, Ended, without_words}
use Rattle.bus_model.specs.Controller.{Reply, silence, awaited, whole, reply, reply_from, ending_now, ending_after, command_ending, first_ending, first_read, good_ending, second_ending, drive_command}
use Rattle.bus_model.specs.Course.{Take, Course, course, close_or_run, run_by, runs_next, run_on, with_takes, drive_by, drive_course}
use Rattle.bus_law_stations.specs.Silence.{AreTaken, AwaitsFirst, AwaitsSecond}
use Rattle.bus_law_stations.proofs.StillController.{Awaits, reply-awaited, not-taken, whole-stays}
use Rattle.bus_law_stations.proofs.Commanding.{pairs-append}

-- ---- a tick of a controller whose message runs

module _ (k : ℕ) (station : StationData) (starts : Bool) (takes : List Take) (past : List Pair) (begun : Begun)
    (taken : AreTaken (length past) takes) (runs : (course k station starts takes past).runs ≡ Some begun) where
  -- it ends, or goes on
  pub ends-so : (x : Pair) (ticks : List Pair) (o : Option Ended) → course k station starts takes (ticks ++ past) ≡ course k station starts takes past →
      ending_now k begun (x ∷ (ticks ++ past)) ≡ o →
      course k station starts takes (x ∷ (ticks ++ past)) ≡ close_or_run (course k station starts takes past) begun (length (ticks ++ past)) o
  unfolding course
  ends-so x ticks o same is =
      let c = course k station starts takes past in
      let later = ticks ++ past in
      let long : length (ticks ++ past) ≡ length ticks + length past = pairs-append ticks past in
      ap (λ (d : Course). with_takes takes (suc (length later)) (run_on k x later d (runs_next later d))) same
      ∙ ap (λ o. with_takes takes (suc (length later)) (run_on k x later c (run_by later c o))) runs
      ∙ ap (λ o. with_takes takes (suc (length later)) (close_or_run c begun (length later) o)) is
      ∙ not-taken (length past) (suc (length later)) takes (close_or_run c begun (length later) o) taken (omega (arith, long))

  -- it goes on
  pub goes-on : (x : Pair) (ticks : List Pair) → course k station starts takes (ticks ++ past) ≡ course k station starts takes past →
      ending_now k begun (x ∷ (ticks ++ past)) ≡ None →
      course k station starts takes (x ∷ (ticks ++ past)) ≡ course k station starts takes past
  goes-on x ticks same none = ends-so x ticks None same none ∙ ap (λ o. record (course k station starts takes past) { runs = o }) (sym runs)

  -- and it sends nothing once the end of its command is known
  pub sends-nothing : (ticks : List Pair) (e : ℕ) → course k station starts takes (ticks ++ past) ≡ course k station starts takes past →
      end_since k (on_channel begun.state.channel (ticks ++ past)) begun.start ≡ Some e →
      drive_course k (ticks ++ past) (course k station starts takes (ticks ++ past)) ≡ Silent
  sends-nothing ticks e same known =
      ap (drive_course k (ticks ++ past)) same
      ∙ ap (λ o. drive_by k (ticks ++ past) (run_by (ticks ++ past) (course k station starts takes past) o)) runs
      ∙ ap (drive_command begun (on_channel begun.state.channel (ticks ++ past))) known

-- ---- what stays known with more ticks

-- an answer that is whole
pub later-whole : (k : ℕ) (channel : Channel) (past later : List Pair) (e : ℕ) (burst : Burst) → reply k (on_channel channel past) e ≡ whole burst →
    reply k (on_channel channel (later ++ past)) e ≡ whole burst
later-whole k channel past [] e burst is = is
later-whole k channel past (x ∷ later) e burst is =
    whole-stays k (sample_on x channel) (on_channel channel (later ++ past)) e burst (later-whole k channel past later e burst is)

-- the end of the command
pub later-end : (k : ℕ) (channel : Channel) (past later : List Pair) (start e : ℕ) → end_since k (on_channel channel past) start ≡ Some e →
    end_since k (on_channel channel (later ++ past)) start ≡ Some e
later-end k channel past [] start e is = is
later-end k channel past (x ∷ later) start e is =
    end_since-stays k (sample_on x channel) (on_channel channel (later ++ past)) start e (later-end k channel past later start e is)

-- how the message ends after more ticks, by what is heard of its first answer
pub first-by : (k : ℕ) (begun : Begun) (past later : List Pair) (e : ℕ) (r : Reply) → AwaitsFirst k begun (on_channel begun.state.channel past) e →
    reply k (on_channel begun.state.channel (later ++ past)) e ≡ r →
    ending_now k begun (later ++ past) ≡ first_ending k begun.entry.item (later ++ past) (on_channel begun.state.channel (later ++ past)) e r
first-by k begun past later e r w heard =
    let shown = later ++ past in
    let channel = on_channel begun.state.channel (later ++ past) in
    ap (ending_after k begun.entry.item shown channel) (later-end k begun.state.channel past later begun.start e w.ended)
    ∙ ap (command_ending k begun.entry.item shown channel e) w.expects
    ∙ ap (first_ending k begun.entry.item shown channel e) heard

-- and of its second one
pub second-by : (k : ℕ) (begun : Begun) (past later : List Pair) (e : ℕ) (r : Reply) (w : AwaitsSecond k begun (on_channel begun.state.channel past) e) →
    reply k (on_channel begun.state.channel (later ++ past)) e ≡ r →
    ending_now k begun (later ++ past) ≡ second_ending k begun.entry.item (later ++ past) (on_channel begun.state.channel (later ++ past)) w.status r
second-by k begun past later e r w heard =
    let shown = later ++ past in
    let channel = on_channel begun.state.channel (later ++ past) in
    ap (ending_after k begun.entry.item shown channel) (later-end k begun.state.channel past later begun.start w.command_end w.ended)
    ∙ ap (command_ending k begun.entry.item shown channel w.command_end) w.expects_first
    ∙ ap (first_ending k begun.entry.item shown channel w.command_end) (later-whole k begun.state.channel past later w.command_end w.burst w.answered)
    ∙ ap (first_read k begun.entry.item shown channel w.burst) w.good
    ∙ ap (good_ending k begun.entry.item shown channel w.status w.burst) w.expects_second
    ∙ ap (λ x. second_ending k begun.entry.item shown channel w.status (reply k channel x)) w.end
    ∙ ap (second_ending k begun.entry.item shown channel w.status) heard

-- ---- an answer that is awaited

-- how the message ends where none comes
abbrev pub silent_ending : (k : ℕ) (begun : Begun) (past : List Sample) (e : ℕ) → Awaits k begun past e → Ended
silent_ending k begun past e (inl w) = without_words (NoResponse First) None None
silent_ending k begun past e (inr w) = without_words (NoResponse Second) (Some w.status) None

-- whatever is heard of it decides
pub awaits-by : (k : ℕ) (begun : Begun) (shown : List Pair) (past : List Sample) (e : ℕ) (r : Reply) (o : Option Ended) → (w : Awaits k begun past e) →
    reply k past e ≡ r → (r ≡ awaited → o ≡ None) → (r ≡ silence → o ≡ Some (silent_ending k begun past e w)) → (r ≡ awaited) ⊎ (r ≡ silence) →
    ending_after k begun.entry.item shown past (end_since k past begun.start) ≡ o
awaits-by k begun shown past e r o (inl w) heard none ends which =
    ap (ending_after k begun.entry.item shown past) w.ended
    ∙ ap (command_ending k begun.entry.item shown past e) w.expects
    ∙ ap (first_ending k begun.entry.item shown past e) heard
    ∙ elim which [
      | inl is ↦ ap (first_ending k begun.entry.item shown past e) is ∙ sym (none is)
      | inr is ↦ ap (first_ending k begun.entry.item shown past e) is ∙ sym (ends is)
    ]
awaits-by k begun shown past e r o (inr w) heard none ends which =
    ap (ending_after k begun.entry.item shown past) w.ended
    ∙ ap (command_ending k begun.entry.item shown past w.command_end) w.expects_first
    ∙ ap (first_ending k begun.entry.item shown past w.command_end) w.answered
    ∙ ap (first_read k begun.entry.item shown past w.burst) w.good
    ∙ ap (good_ending k begun.entry.item shown past w.status w.burst) w.expects_second
    ∙ ap (λ x. second_ending k begun.entry.item shown past w.status (reply k past x)) w.end
    ∙ ap (second_ending k begun.entry.item shown past w.status) heard
    ∙ elim which [
      | inl is ↦ ap (second_ending k begun.entry.item shown past w.status) is ∙ sym (none is)
      | inr is ↦ ap (second_ending k begun.entry.item shown past w.status) is ∙ sym (ends is)
    ]

-- an answer that didn't come in time is none
pub silence-then : (k : ℕ) (past : List Sample) (e : ℕ) → first_heard past e ≡ None → e + no_response < length past → reply k past e ≡ silence
silence-then k past e none late =
    let over : nat_lt (e + no_response) (length past) ≡ true = grind (arith, nat_tests, late) in
    ap (reply_from k past e) none ∙ ap (λ (b : Bool). if b then silence else awaited) over

-- nothing was heard since the burst that is to be answered
awaits-silent : (k : ℕ) (begun : Begun) (past : List Sample) (e : ℕ) → Awaits k begun past e → first_heard past e ≡ None
awaits-silent k begun past e (inl w) = w.silent
awaits-silent k begun past e (inr w) = w.silent

-- in time the message goes on
pub no-ending : (k : ℕ) (begun : Begun) (shown : List Pair) (past : List Sample) (e : ℕ) → Awaits k begun past e → length past ≤ e + no_response →
    ending_after k begun.entry.item shown past (end_since k past begun.start) ≡ None
no-ending k begun shown past e w early =
    awaits-by k begun shown past e awaited None w (reply-awaited k past e (awaits-silent k begun past e w) early) (λ is. refl)
    (λ is. absurd (cc)) (inl refl)

-- later it ends without an answer
pub silent-ends : (k : ℕ) (begun : Begun) (shown : List Pair) (past : List Sample) (e : ℕ) (w : Awaits k begun past e) → e + no_response < length past →
    ending_after k begun.entry.item shown past (end_since k past begun.start) ≡ Some (silent_ending k begun past e w)
silent-ends k begun shown past e w late =
    awaits-by k begun shown past e silence (Some (silent_ending k begun past e w)) w (silence-then k past e (awaits-silent k begun past e w) late)
    (λ is. absurd (cc)) (λ is. refl) (inr refl)
