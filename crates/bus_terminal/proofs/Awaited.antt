-- A burst that begins while a promise stands runs until it is taken for the promise.
use Rattle.std.proofs.Common.{◌≡◌, ℕ, ◌+◌, ◌≤◌, Bool, true, false, not, ◌||◌, nat_le, List, ◌∷◌, length, Option, Some, None, refl, sym, ap, ◌∙◌, arith, inl, inr}
use Rattle.std.specs.Option.{option_or}
use Rattle.std.proofs.lemmas.Bool.{cases_Bool, cases_lt, le-leb}
use Rattle.std.proofs.lemmas.Bool.Decides.{nat_tests}
use Rattle.bus_base.specs.Samples.{is_quiet, same_channel, other_of, sample_on}
use Rattle.bus_base.specs.declared.samples.Channel.{Channel}
use Rattle.bus_base.specs.declared.samples.Channel.TheVariants.{A, B}
use Rattle.bus_base.specs.declared.samples.Sample.{Sample}
use Rattle.bus_base.specs.declared.samples.Sample.TheVariants.{Plus, Minus, Quiet}
use Rattle.bus_line.specs.Past.{Burst, quiet, stopped, runs, first_tick, newest_burst, ended_now, end_of, rest_of, heard_within}
use Rattle.bus_line.proofs.PastLaws.{runs-parts, runs-pulse, rests-parts, rests-from, stopped-more, first_tick-runs, first_tick-begins}
use Rattle.bus_line.proofs.SlotLaws.{burst-first}
use Rattle.bus_line.proofs.CutNow.{ended-more}
use Rattle.bus_formats.specs.Plans.{TerminalData}
use Rattle.bus_formats.specs.Times.{relay_wait}
use Rattle.bus_model.specs.Memory.{TimedLoad}
use Rattle.bus_model.specs.Orders.{Order, last_order}
use Rattle.bus_model.specs.Hearing.{Moment, heard_on}
use Rattle.bus_model.specs.Standing.{Standing, Handled, obeys, settles, mark_on, ignored_from, is_newer, outrun, promised_on}
use Rattle.bus_model.specs.Terminal.{order_by, order_on, order_now, running_out}
use Rattle.bus_terminal.specs.Handling.{Awaits}
use Rattle.bus_terminal.specs.Newest.{is_left}
use Rattle.bus_terminal.specs.Stands.{IsAwaited, PromisedStands}
use Rattle.bus_terminal.specs.declared.handling.Waiting.{Waiting}
use Rattle.bus_terminal.specs.declared.promised.Promised.{Promised}
use Rattle.bus_terminal.proofs.Heard.{length-heard}
use Rattle.bus_terminal.proofs.Found.{promised-with}
use Rattle.bus_terminal.proofs.Heeding.{last-within}

-- ---- the end of a burst on the promise's channel is no tick without an order

-- a channel is itself
self : (c : Channel) → same_channel c c ≡ true
self A = refl
self B = refl

-- the promise that stands is for its own channel
pub promised-here : (k : ℕ) (w : Waiting) (s : Standing) → Awaits k (Some w) s → promised_on k s s.channel ≡ true
promised-here k w s h = promised-with k w s s.channel h ∙ ap (λ (c : Channel). same_channel c s.channel) (sym h.0.channel) ∙ self s.channel

-- the newer command isn't outrun by the older
not-outrun : (c : Channel) (this other : Option ℕ) → is_newer c this other ≡ true → is_newer (other_of c) other this ≡ false
not-outrun c None other h = cc
not-outrun c (Some m) None h = refl
not-outrun A (Some m) (Some t) h = grind (arith, nat_tests, h)
not-outrun B (Some m) (Some t) h = grind (arith, nat_tests, h)

-- a burst that ended is obeyed or taken for the promise
taken-by : (k : ℕ) (terminal : TerminalData) (s : Standing) (c : Channel) (burst : Burst) (last : Option Order) → outrun s c ≡ false →
    promised_on k s c ≡ true →
    burst.first ≤ s.end + relay_wait → order_by k terminal s c burst last ≡ None → ⊥
taken-by k terminal s c burst (Some last) newer promise soon h =
    (let some : order_by k terminal s c burst (Some last) ≡ Some (obeys c (end_of burst) last (rest_of burst)) = rw newer refl in cc)
taken-by k terminal s c burst None newer promise soon h =
    (let early : nat_le burst.first (s.end + relay_wait) ≡ true = le-leb burst.first (s.end + relay_wait) soon in
    let some : order_by k terminal s c burst None ≡ Some (settles (end_of burst) burst.slots (rest_of burst)) = rw (promise, early) refl in cc)

-- without an order in a tick there is none on either channel
parts-none : (a b o : Option Handled) → option_or a (option_or b o) ≡ None → (a ≡ None) × (b ≡ None)
parts-none None None o h = (refl, refl)
parts-none None (Some x) o h = cc
parts-none (Some x) b o h = cc

-- by channel
channel-none : (k : ℕ) (terminal : TerminalData) (heard : List Moment) (s : Standing) (c : Channel) → order_now k terminal heard s ≡ None →
    order_on k terminal heard s c ≡ None
channel-none k terminal heard s A h = (parts-none (order_on k terminal heard s A) (order_on k terminal heard s B) (running_out k terminal heard s) h).0
channel-none k terminal heard s B h = (parts-none (order_on k terminal heard s A) (order_on k terminal heard s B) (running_out k terminal heard s) h).1

-- so no burst ends on the promise's channel in a tick without an order
ends-taken : (k : ℕ) (terminal : TerminalData) (now : Moment) (past : List Moment) (s : Standing) (c : Channel) (burst : Burst) →
    ignored_from k (heard_on c past) (mark_on s.sent c) ≡ false → ended_now k (heard_on c (now ∷ past)) ≡ Some burst → outrun s c ≡ false →
    promised_on k s c ≡ true →
    burst.first ≤ s.end + relay_wait → order_now k terminal (now ∷ past) s ≡ None → ⊥
ends-taken k terminal now past s c burst heeded ended newer promise soon none =
    let by : order_on k terminal (now ∷ past) s c ≡ order_by k terminal s c burst (last_order terminal.address burst.slots) = rw (heeded, ended) refl in
    taken-by k terminal s c burst (last_order terminal.address burst.slots) newer promise soon (sym by ∙ channel-none k terminal (now ∷ past) s c none)

-- ---- one tick more

-- a burst runs no more with its k + 1st quiet tick
ended-quiet : (k : ℕ) (heard : List Sample) → runs k heard ≡ true → runs k (Quiet ∷ heard) ≡ false → quiet heard ≡ k
ended-quiet k heard on off =
    let parts = runs-parts k heard on in
    let same : stopped (Quiet ∷ heard) ≡ stopped heard = stopped-more heard in
    elim (rests-parts k (Quiet ∷ heard) off) [
      | inl none ↦ absurd (omega (arith, none, same, parts.0))
      | inr many ↦ omega (arith, many, parts.1)
    ]

-- a burst that ran and runs no more has its end
ended-then : (k : ℕ) (x : Sample) (heard : List Sample) → runs k heard ≡ true → runs k (x ∷ heard) ≡ false →
    ended_now k (x ∷ heard) ≡ Some (newest_burst k heard)
ended-then k Plus heard on off = (let no : true ≡ false = sym (runs-pulse k Plus heard refl) ∙ off in cc)
ended-then k Minus heard on off = (let no : true ≡ false = sym (runs-pulse k Minus heard refl) ∙ off in cc)
ended-then k Quiet heard on off = ended-more k heard on (ended-quiet k heard on off)

-- of the marks that stand
turned : (s : Standing) (c : Channel) → is_newer c (mark_on s.addressed c) (mark_on s.addressed (other_of c)) ≡ true → outrun s c ≡ false
turned s c h = not-outrun c (mark_on s.addressed c) (mark_on s.addressed (other_of c)) h

-- the awaited burst runs on
awaited-on : (k : ℕ) (terminal : TerminalData) (loads : List TimedLoad) (state : Promised) (past : List Moment) (now : Moment) (s : Standing) →
    PromisedStands k terminal loads state past s →
    order_now k terminal (now ∷ past) s ≡ None → IsAwaited k (heard_on s.channel past) s.end → IsAwaited k (heard_on s.channel (now ∷ past)) s.end
awaited-on k terminal loads state past now s st none h = elim (cases_Bool (runs k (heard_on s.channel (now ∷ past)))) [
  | inl on ↦ (
      let same : first_tick k (heard_on s.channel (now ∷ past)) ≡ first_tick k (heard_on s.channel past) =
      first_tick-runs k (sample_on now.shown s.channel) (heard_on s.channel past) h.running in
      record { running = on; after = rw same h.after; soon = rw same h.soon })
  | inr off ↦ (
      let burst : Burst = newest_burst k (heard_on s.channel past) in
      let first : burst.first ≡ first_tick k (heard_on s.channel past) = burst-first (heard_on s.channel past) _ _ in
      let left : is_left s.duty ≡ true = ap is_left st.waiting.duty in
      absurd (ends-taken k terminal now past s s.channel burst st.heeded (ended-then k (sample_on now.shown s.channel) (heard_on s.channel past) h.running off)
      (turned s s.channel ((st.common.newest left).newest st.fresh)) (promised-here k state.waiting s (st.waiting, st.fresh)) (rw first h.soon) none))
]

-- or it begins
awaited-first : (k : ℕ) (terminal : TerminalData) (loads : List TimedLoad) (state : Promised) (past : List Moment) (now : Moment) (s : Standing) →
    PromisedStands k terminal loads state past s →
    state.heard ≡ false → is_quiet (sample_on now.shown s.channel) ≡ false → IsAwaited k (heard_on s.channel (now ∷ past)) s.end
awaited-first k terminal loads state past now s st none pulse =
    let heard : List Sample = heard_on s.channel past in
    let x : Sample = sample_on now.shown s.channel in
    let left : is_left s.duty ≡ true = ap is_left st.waiting.duty in
    let long : length heard ≡ length past = length-heard s.channel past in
    let silent : heard_within heard s.end (length past) ≡ false = sym st.heard ∙ none in
    let before : stopped heard ≤ s.end = elim (cases_lt s.end (stopped heard)) [
      | inl later ↦ (let no : true ≡ false = sym (last-within heard s.end (length past) later (omega (arith, long))) ∙ silent in cc)
      | inr early ↦ early
    ] in
    let off : runs k heard ≡ false = rests-from k heard (inr (omega (arith, before, long, (st.common.newest left).handled))) in
    let first : first_tick k (x ∷ heard) ≡ length heard = first_tick-begins k x heard off pulse in
    record {
      running = runs-pulse k x heard pulse;
      after = omega (arith, first, long, st.common.ended);
      soon = omega (arith, first, long, st.within none);
    }

-- a sample that was heard
not-quiet : (b : Bool) → not b ≡ true → b ≡ false
not-quiet true h = cc
not-quiet false h = refl

-- either, with what was heard so far
pub awaited-more : (k : ℕ) (terminal : TerminalData) (loads : List TimedLoad) (state : Promised) (past : List Moment) (now : Moment) (s : Standing)
    (now_heard : Bool) →
    PromisedStands k terminal loads state past s → order_now k terminal (now ∷ past) s ≡ None →
    now_heard ≡ not (is_quiet (sample_on now.shown state.waiting.channel)) →
    (state.heard || now_heard) ≡ true → IsAwaited k (heard_on s.channel (now ∷ past)) s.end
awaited-more k terminal loads state past now s now_heard st none is some = elim (cases_Bool state.heard) [
  | inl heard ↦ awaited-on k terminal loads state past now s st none (st.awaited heard)
  | inr silent ↦ (
      let here : now_heard ≡ true = ap (λ (b : Bool). b || now_heard) (sym silent) ∙ some in
      let pulse : is_quiet (sample_on now.shown state.waiting.channel) ≡ false = not-quiet (is_quiet (sample_on now.shown state.waiting.channel))
      (sym is ∙ here) in
      awaited-first k terminal loads state past now s st silent (ap (λ (c : Channel). is_quiet (sample_on now.shown c)) st.waiting.channel ∙ pulse))
]
