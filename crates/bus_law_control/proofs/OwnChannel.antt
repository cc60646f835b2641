-- A controller that waits for an answer while its own channel stays quiet.
use Rattle.std.proofs.Common.{◌≡◌, inl, inr, ℕ, zero, suc, ◌+◌, ◌≤◌, Bool, true, false, nat_lt, List, [], ◌∷◌, ◌++◌, length, Option, Some, None, refl, sym, ap, ◌∙◌, subst, arith}
use Rattle.std.specs.Prelude.{if◌then◌else◌}
use Rattle.bus_base.specs.Samples.{sample_on}
use Rattle.bus_base.specs.declared.samples.Channel.{Channel}
use Rattle.bus_base.specs.declared.samples.Pair.{Pair}
use Rattle.bus_base.specs.declared.samples.Part.TheVariants.{First, Second}
use Rattle.bus_base.specs.declared.samples.Sample.{Sample}
use Rattle.bus_base.specs.declared.samples.Sample.TheVariants.{Quiet}
use Rattle.bus_base.specs.declared.samples.Drive.TheVariants.{Silent}
use Rattle.bus_line.specs.Past.{Burst, quiet_ticks, first_heard, heard_or_now}
use Rattle.bus_line.specs.Channels.{on_channel}
use Rattle.bus_line.proofs.ChannelLaws.{length-on, on-append}
use Rattle.bus_line.proofs.EndLaws.{end_since-later}
use Rattle.bus_formats.specs.Plans.{StationData}
use Rattle.bus_formats.specs.Times.{no_response}
use Rattle.bus_formats.specs.declared.form.Outcome.TheVariants.{NoResponse}
use Rattle.bus_model.specs.Attempts.{Begun, without_words}
use Rattle.bus_model.specs.Controller.{whole, reply}
use Rattle.bus_model.specs.Course.{Take, course, close, drive_course}
use Rattle.bus_law_stations.specs.Silence.{AreTaken, AwaitsFirst, AwaitsSecond}
use Rattle.bus_law_stations.proofs.StillController.{Awaits, known, whole-stays}
use Rattle.bus_law_stations.proofs.Commanding.{pairs-append}
use Rattle.bus_law_control.proofs.Endings.{ends-so, goes-on, sends-nothing, silent_ending, no-ending, silent-ends}

-- equal lists have equal heads
same-head : (x y : Sample) (xs ys : List Sample) → (x ∷ xs) ≡ (y ∷ ys) → x ≡ y
same-head x y xs ys same = cc

-- and equal tails
same-tail : (x y : Sample) (xs ys : List Sample) → (x ∷ xs) ≡ (y ∷ ys) → xs ≡ ys
same-tail x y xs ys same = cc

-- ---- the wait

-- none on either branch
heard-not : (b : Bool) (o : Option ℕ) → o ≡ None → (if b then None else o) ≡ None
heard-not true o none = refl
heard-not false o none = none

-- nothing is heard in quiet ticks
unheard-quiet : (n : ℕ) (past : List Sample) (e : ℕ) → first_heard past e ≡ None → first_heard (quiet_ticks n ++ past) e ≡ None
unfolding first_heard
unheard-quiet zero past e none = none
unheard-quiet (suc n) past e none =
    let xs = quiet_ticks n ++ past in
    heard-not (nat_lt (length xs) e) (heard_or_now Quiet (length xs) (first_heard xs e)) (ap (heard_or_now Quiet (length xs)) (unheard-quiet n past e none))

-- a message that waits for its first answer waits on
first-quiet : (k : ℕ) (begun : Begun) (n : ℕ) (past : List Sample) (e : ℕ) → AwaitsFirst k begun past e → AwaitsFirst k begun (quiet_ticks n ++ past) e
first-quiet k begun n past e w = record {
  ended = end_since-later k (quiet_ticks n) past begun.start e w.ended;
  shape = w.shape;
  expects = w.expects;
  silent = unheard-quiet n past e w.silent;
}

-- an answer that is whole stays whole
whole-quiet : (k n : ℕ) (past : List Sample) (e : ℕ) (burst : Burst) → reply k past e ≡ whole burst → reply k (quiet_ticks n ++ past) e ≡ whole burst
whole-quiet k zero past e burst is = is
whole-quiet k (suc n) past e burst is = whole-stays k Quiet (quiet_ticks n ++ past) e burst (whole-quiet k n past e burst is)

-- with the status of the first answer
abbrev pub AwaitsWith : ℕ → Begun → List Sample → ℕ → ℕ → Type 0
AwaitsWith k begun past e status = (w : AwaitsSecond k begun past e) × (w.status ≡ status)

-- so does one that waits for its second
second-quiet : (k : ℕ) (begun : Begun) (n : ℕ) (past : List Sample) (e : ℕ) (w : AwaitsSecond k begun past e) →
    AwaitsWith k begun (quiet_ticks n ++ past) e w.status
second-quiet k begun n past e w = (
  record {
    command_end = w.command_end;
    ended = end_since-later k (quiet_ticks n) past begun.start w.command_end w.ended;
    first = w.first;
    second = w.second;
    expects_first = w.expects_first;
    expects_second = w.expects_second;
    burst = w.burst;
    status = w.status;
    answered = whole-quiet k n past w.command_end w.burst w.answered;
    good = w.good;
    end = w.end;
    silent = unheard-quiet n past e w.silent;
  },
  refl,
)

-- its channel with quiet ticks
own-past : (channel : Channel) (past ticks : List Pair) → on_channel channel ticks ≡ quiet_ticks (length ticks) →
    quiet_ticks (length ticks) ++ on_channel channel past ≡ on_channel channel (ticks ++ past)
own-past channel past ticks still = sym (on-append channel ticks past ∙ ap (λ xs. xs ++ on_channel channel past) still)

-- over ticks in which its own channel is quiet
pub first-own : (k : ℕ) (begun : Begun) (past ticks : List Pair) (e : ℕ) → on_channel begun.state.channel ticks ≡ quiet_ticks (length ticks) →
    AwaitsFirst k begun (on_channel begun.state.channel past) e → AwaitsFirst k begun (on_channel begun.state.channel (ticks ++ past)) e
first-own k begun past ticks e still w =
    subst (λ xs. AwaitsFirst k begun xs e) (own-past begun.state.channel past ticks still)
    (first-quiet k begun (length ticks) (on_channel begun.state.channel past) e w)

-- likewise
pub second-own : (k : ℕ) (begun : Begun) (past ticks : List Pair) (e : ℕ) → on_channel begun.state.channel ticks ≡ quiet_ticks (length ticks) →
    (w : AwaitsSecond k begun (on_channel begun.state.channel past) e) → AwaitsWith k begun (on_channel begun.state.channel (ticks ++ past)) e w.status
second-own k begun past ticks e still w =
    subst (λ xs. AwaitsWith k begun xs e w.status) (own-past begun.state.channel past ticks still)
    (second-quiet k begun (length ticks) (on_channel begun.state.channel past) e w)

-- for either answer
awaits-own : (k : ℕ) (begun : Begun) (past ticks : List Pair) (e : ℕ) → on_channel begun.state.channel ticks ≡ quiet_ticks (length ticks) →
    Awaits k begun (on_channel begun.state.channel past) e → Awaits k begun (on_channel begun.state.channel (ticks ++ past)) e
awaits-own k begun past ticks e still (inl w) = inl (first-own k begun past ticks e still w)
awaits-own k begun past ticks e still (inr w) = inr (second-own k begun past ticks e still w).0

module _ (k : ℕ) (station : StationData) (starts : Bool) (takes : List Take) (past : List Pair) (begun : Begun) (e : ℕ)
    (taken : AreTaken (length past) takes) (runs : (course k station starts takes past).runs ≡ Some begun)
    (awaits : Awaits k begun (on_channel begun.state.channel past) e) where
  -- nothing changes in time
  pub own-waits : (ticks : List Pair) → on_channel begun.state.channel ticks ≡ quiet_ticks (length ticks) → length past + length ticks ≤ e + no_response →
      course k station starts takes (ticks ++ past) ≡ course k station starts takes past
  own-waits [] still early = refl
  own-waits (x ∷ ticks) still early =
      let fewer = same-tail (sample_on x begun.state.channel) Quiet (on_channel begun.state.channel ticks) (quiet_ticks (length ticks)) still in
      let later = (x ∷ ticks) ++ past in
      let long : length (on_channel begun.state.channel ((x ∷ ticks) ++ past)) ≡ length ((x ∷ ticks) ++ past) = length-on begun.state.channel later in
      let both : length ((x ∷ ticks) ++ past) ≡ suc (length ticks) + length past = pairs-append (x ∷ ticks) past in
      goes-on k station starts takes past begun taken runs x ticks (own-waits ticks fewer (omega (arith, early)))
      (no-ending k begun later (on_channel begun.state.channel later) e (awaits-own k begun past (x ∷ ticks) e still awaits)
      (omega (arith, long, both, early)))

  -- and nothing is sent
  pub own-silent : (ticks : List Pair) → on_channel begun.state.channel ticks ≡ quiet_ticks (length ticks) → length past + length ticks ≤ e + no_response →
      drive_course k (ticks ++ past) (course k station starts takes (ticks ++ past)) ≡ Silent
  own-silent ticks still early =
      let end = known k begun (on_channel begun.state.channel (ticks ++ past)) e (awaits-own k begun past ticks e still awaits) in
      sends-nothing k station starts takes past begun taken runs ticks end.0 (own-waits ticks still early) end.1

  -- and then it is over
  own-over : (x : Pair) (ticks : List Pair) → on_channel begun.state.channel (x ∷ ticks) ≡ quiet_ticks (length (x ∷ ticks)) →
      length past + length ticks ≡ e + no_response → (w : Awaits k begun (on_channel begun.state.channel ((x ∷ ticks) ++ past)) e) →
      course k station starts takes ((x ∷ ticks) ++ past) ≡ close (course k station starts takes past) begun
      (silent_ending k begun (on_channel begun.state.channel ((x ∷ ticks) ++ past)) e w) (length (ticks ++ past))
  own-over x ticks still at w =
      let fewer = same-tail (sample_on x begun.state.channel) Quiet (on_channel begun.state.channel ticks) (quiet_ticks (length ticks)) still in
      let later = (x ∷ ticks) ++ past in
      let long : length (on_channel begun.state.channel ((x ∷ ticks) ++ past)) ≡ length ((x ∷ ticks) ++ past) = length-on begun.state.channel later in
      let both : length ((x ∷ ticks) ++ past) ≡ suc (length ticks) + length past = pairs-append (x ∷ ticks) past in
      ends-so k station starts takes past begun taken runs x ticks
      (Some (silent_ending k begun (on_channel begun.state.channel ((x ∷ ticks) ++ past)) e w)) (own-waits ticks fewer (omega (arith, at)))
      (silent-ends k begun later (on_channel begun.state.channel later) e w (omega (arith, long, both, at)))

module _ (k : ℕ) (station : StationData) (starts : Bool) (takes : List Take) (past : List Pair) (begun : Begun) (e : ℕ)
    (taken : AreTaken (length past) takes) (runs : (course k station starts takes past).runs ≡ Some begun) where
  -- a first answer that never comes
  pub first-over : AwaitsFirst k begun (on_channel begun.state.channel past) e → (x : Pair) (ticks : List Pair) →
      on_channel begun.state.channel (x ∷ ticks) ≡ quiet_ticks (length (x ∷ ticks)) → length past + length ticks ≡ e + no_response →
      course k station starts takes ((x ∷ ticks) ++ past)
      ≡ close (course k station starts takes past) begun (without_words (NoResponse First) None None) (length (ticks ++ past))
  first-over w x ticks still at =
      own-over k station starts takes past begun e taken runs (inl w) x ticks still at (inl (first-own k begun past (x ∷ ticks) e still w))

  -- a second one
  pub second-over : (w : AwaitsSecond k begun (on_channel begun.state.channel past) e) (x : Pair) (ticks : List Pair) →
      on_channel begun.state.channel (x ∷ ticks) ≡ quiet_ticks (length (x ∷ ticks)) → length past + length ticks ≡ e + no_response →
      course k station starts takes ((x ∷ ticks) ++ past)
      ≡ close (course k station starts takes past) begun (without_words (NoResponse Second) (Some w.status) None) (length (ticks ++ past))
  second-over w x ticks still at =
      let v = second-own k begun past (x ∷ ticks) e still w in
      own-over k station starts takes past begun e taken runs (inr w) x ticks still at (inr v.0)
      ∙ ap (λ s. close (course k station starts takes past) begun (without_words (NoResponse Second) (Some s) None) (length (ticks ++ past))) v.1
