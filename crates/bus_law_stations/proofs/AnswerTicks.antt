-- An answer on its channel: while it is shown it runs, and with its end it is whole.
use Rattle.std.proofs.Common.{◌≡◌, inl, inr, ℕ, ◌+◌, ◌-◌, ◌≤◌, Bool, true, false, nat_lt, List, [], ◌∷◌, ◌++◌, length, Option, Some, None, refl, sym, ap, ◌∙◌, arith}
use Rattle.std.proofs.lemmas.Bool.{le-ltb}
use Rattle.std.specs.Prelude.{if◌then◌else◌}
use Rattle.bus_base.specs.Samples.{sample_on}
use Rattle.bus_base.specs.declared.samples.Channel.{Channel}
use Rattle.bus_base.specs.declared.samples.Pair.{Pair}
use Rattle.bus_base.specs.declared.samples.Sample.{Sample}
use Rattle.bus_line.specs.Past.{Burst, burst_from, end_of, ended_now, first_heard, end_since}
use Rattle.bus_line.specs.Channels.{on_channel}
use Rattle.bus_line.proofs.ChannelLaws.{length-on, on-append}
use Rattle.bus_line.proofs.EndLaws.{end_since-is}
use Rattle.bus_line.proofs.HeardLaws.{first_heard-none, first_heard-found, first_heard-stays}
use Rattle.bus_line.proofs.LookUpLaws.{ended-is}
use Rattle.bus_line.proofs.SlotLaws.{burst-first, burst-ticks}
use Rattle.bus_line.proofs.TickLaws.{at-later}
use Rattle.bus_formats.specs.Times.{no_response}
use Rattle.bus_model.specs.Attempts.{Begun}
use Rattle.bus_model.specs.Controller.{silence, running, whole, reply, reply_from, reply_until}
use Rattle.bus_law_stations.specs.Messages.{ShowsBurst}
use Rattle.bus_law_stations.proofs.Resting.{cases-option}
use Rattle.bus_law_stations.proofs.LegTicks.{leg-heard}
use Rattle.bus_law_stations.proofs.StillController.{Awaits, not-whole, known}
use Rattle.bus_law_stations.proofs.Commanding.{burst-began, burst-some, burst-endless, burst-end}

-- ---- the burst that is answered

until-known : (k : ℕ) (past : List Sample) (a : ℕ) (burst : Burst) (b : Bool) (o : Option ℕ) → ((x : ℕ) → o ≡ Some x → (a ≤ x) × (x ≤ length past)) →
    (if b then silence else reply_until k past a o) ≡ whole burst → end_of burst ≤ length past
until-known k past a burst true o known e = absurd (cc)
until-known k past a burst false None known e = absurd (cc)
until-known k past a burst false (Some x) known e =
    let same : burst_from past a (x - a) ≡ burst = cc in
    let first : burst.first ≡ a = ap (λ (b : Burst). b.first) (sym same) ∙ burst-first past a (x - a) in
    let ticks : burst.ticks ≡ x - a = ap (λ (b : Burst). b.ticks) (sym same) ∙ burst-ticks past a (x - a) in
    let at = known x refl in
    omega (arith, first, ticks, at.0, at.1)

whole-known : (k : ℕ) (past : List Sample) (e : ℕ) (burst : Burst) → reply k past e ≡ whole burst → end_of burst ≤ length past
whole-known k past e burst is = elim (cases-option (first_heard past e)) [
  | inl none ↦ absurd (not-whole (nat_lt (e + no_response) (length past)) burst (sym (ap (reply_from k past e) none) ∙ is))
  | inr found ↦ until-known k past found.0 burst (nat_lt (e + no_response) found.0) (end_since k past found.0)
      (λ x at. let end = end_since-is k past found.0 x at in (end.from, omega (arith, end.known)))
      (sym (ap (reply_from k past e) found.1) ∙ is)
]

pub awaited-since : (k : ℕ) (begun : Begun) (past : List Sample) (e : ℕ) → Awaits k begun past e → (e ≤ length past) × (first_heard past e ≡ None)
awaited-since k begun past e (inl w) = let end = end_since-is k past begun.start e w.ended in (omega (arith, end.known), w.silent)
awaited-since k begun past e (inr w) = let end = whole-known k past w.command_end w.burst w.answered in (omega (arith, end, w.end), w.silent)

-- ---- the answer on its channel

-- the first sample that was heard since is the first of the answer
answer-heard : (k : ℕ) (channel : Channel) (past ticks : List Pair) (x : Pair) (e : ℕ) → ShowsBurst k channel past (x ∷ ticks) → e ≤ length past →
    first_heard (on_channel channel past) e ≡ None → first_heard (on_channel channel ((x ∷ ticks) ++ past)) e ≡ Some (length past)
answer-heard k channel past ticks x e shows early none =
    let long : length (on_channel channel past) ≡ length past = length-on channel past in
    ap (λ xs. first_heard xs e) (on-append channel (x ∷ ticks) past)
    ∙ first_heard-found (on_channel channel (x ∷ ticks) ++ on_channel channel past) e (length (on_channel channel past)) record {
      from = omega (arith, early, long);
      heard = leg-heard k (sample_on x channel) (on_channel channel ticks) (on_channel channel past) shows.leg;
      before = λ u low high. at-later (on_channel channel (x ∷ ticks)) (on_channel channel past) u high
          ∙ first_heard-none (on_channel channel past) e u none low;
    }
    ∙ ap Some long

-- while it is shown it runs
pub reply-running : (k : ℕ) (channel : Channel) (past ticks : List Pair) (x : Pair) (e : ℕ) → ShowsBurst k channel past (x ∷ ticks) → e ≤ length past →
    length past ≤ e + no_response → first_heard (on_channel channel past) e ≡ None → reply k (on_channel channel ((x ∷ ticks) ++ past)) e ≡ running
reply-running k channel past ticks x e shows early prompt none =
    let late : nat_lt (e + no_response) (length past) ≡ false = le-ltb (e + no_response) (length past) prompt in
    ap (reply_from k (on_channel channel ((x ∷ ticks) ++ past)) e) (answer-heard k channel past ticks x e shows early none)
    ∙ (rw late (ap (reply_until k (on_channel channel ((x ∷ ticks) ++ past)) (length past)) (burst-endless k channel past (x ∷ ticks) shows)))

-- with its end it is whole
pub reply-whole : (k : ℕ) (channel : Channel) (past ticks : List Pair) (now : Pair) (e : ℕ) (burst : Burst) → ShowsBurst k channel past ticks →
    e ≤ length past → length past ≤ e + no_response → first_heard (on_channel channel past) e ≡ None →
    ended_now k (on_channel channel (now ∷ (ticks ++ past))) ≡ Some burst →
    reply k (on_channel channel (now ∷ (ticks ++ past))) e ≡ whole burst
reply-whole k channel past [] now e burst shows early prompt none ended = absurd (burst-some k channel past now burst shows ended)
reply-whole k channel past (x ∷ ticks) now e burst shows early prompt none ended =
    let shown = on_channel channel (now ∷ ((x ∷ ticks) ++ past)) in
    let late : nat_lt (e + no_response) (length past) ≡ false = le-ltb (e + no_response) (length past) prompt in
    let first = burst-began k channel past (x ∷ ticks) now burst shows ended in
    let ticks_are : end_of burst - length past ≡ burst.ticks = omega (arith, first) in
    ap (reply_from k shown e)
    (first_heard-stays (sample_on now channel) (on_channel channel ((x ∷ ticks) ++ past)) e (length past)
    (answer-heard k channel past ticks x e shows early none))
    ∙ (rw late (ap (reply_until k shown (length past)) (burst-end k channel past (x ∷ ticks) now burst shows ended)
    ∙ ap (λ n. whole (burst_from shown (length past) n)) ticks_are
    ∙ ap (λ p. whole (burst_from shown p burst.ticks)) (sym first)
    ∙ ap whole (sym (ended-is k shown burst ended))))
