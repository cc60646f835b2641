-- A relay's receiver that made a promise hears a tick.
use Rattle.std.proofs.Common.{◌≡◌, ℕ, suc, ◌+◌, ◌≤◌, Bool, true, false, not, ◌&&◌, ◌||◌, ◌==◌, nat_lt, List, ◌∷◌, length, Option, Some, None, refl, sym, ap, ◌∙◌, subst, arith, inl, inr, if◌then◌else◌}
use Rattle.std.specs.Option.{option_or}
use Rattle.std.proofs.lemmas.Bool.{lt-ltb, eqb-true, eq-eqb, cases_Bool}
use Rattle.std.proofs.lemmas.Bool.Decides.{nat_tests}
use Rattle.bus_base.specs.Samples.{is_quiet, same_channel, sample_on}
use Rattle.bus_base.specs.declared.samples.Channel.{Channel}
use Rattle.bus_base.specs.declared.samples.Channel.TheVariants.{A, B}
use Rattle.bus_line.specs.Past.{heard_within}
use Rattle.bus_formats.specs.Plans.{TerminalData}
use Rattle.bus_formats.specs.Times.{relay_wait}
use Rattle.bus_model.specs.Memory.{TimedLoad}
use Rattle.bus_model.specs.Orders.{due_after}
use Rattle.bus_model.specs.Hearing.{Moment, heard_on}
use Rattle.bus_model.specs.Standing.{Standing, mark_on, ignored_from, superseded, is_owed, promised_on, runs_out}
use Rattle.bus_model.specs.Terminal.{marked_by, order_now, given_up, running_out}
use Rattle.bus_terminal.specs.Holding.{EarsStand, Listens, AreListened}
use Rattle.bus_terminal.specs.Hearing.{HasListened}
use Rattle.bus_terminal.specs.Handling.{handled_told, Awaits, AreHandled, IsWaiting, out_with}
use Rattle.bus_terminal.specs.Stands.{CommonStands, PromisedStands, NextStands, StateStands, IsAwaited}
use Rattle.bus_terminal.specs.Steps.{promised_on_told}
use Rattle.bus_terminal.specs.declared.common.Common.{Common}
use Rattle.bus_terminal.specs.declared.handling.Waiting.{Waiting}
use Rattle.bus_terminal.specs.declared.common.Listened.{Listened}
use Rattle.bus_terminal.specs.declared.promised.Promised.{Promised}
use Rattle.bus_terminal.specs.declared.state.TerminalEvent.TheVariants as events
use Rattle.bus_terminal.proofs.Heard.{length-heard}
use Rattle.bus_terminal.proofs.Within.{within-more, within-bound}
use Rattle.bus_terminal.proofs.Standing.{rests-superseded}
use Rattle.bus_terminal.proofs.Found.{promised-with, all-found}
use Rattle.bus_terminal.proofs.Listened.{none-next, common-kept}
use Rattle.bus_terminal.proofs.Ticks.{listens-none}
use Rattle.bus_terminal.proofs.Heeding.{heeded-tick}
use Rattle.bus_terminal.proofs.Awaited.{awaited-more}

none-owed : (o d u : Bool) → o ≡ false → (o && d && u) ≡ false
none-owed false d u h = refl
none-owed true d u h = cc

pub promised-listens : (k : ℕ) (terminal : TerminalData) (loads : List TimedLoad) (state : Promised) (past : List Moment) (s : Standing) →
    PromisedStands k terminal loads state past s → Listens k terminal None past s
promised-listens k terminal loads state past s st =
    listens-none k terminal past s (none-owed (is_owed s.duty) (length past == due_after terminal s.end) (not (given_up k terminal
    (heard_on s.channel past) s)) (ap is_owed st.waiting.duty))

pub promised-awaits : (k : ℕ) (terminal : TerminalData) (loads : List TimedLoad) (state : Promised) (past : List Moment) (s : Standing) →
    PromisedStands k terminal loads state past s → Awaits k (Some state.waiting) s
promised-awaits k terminal loads state past s st = (st.waiting, st.fresh)

-- what was heard since the relay's command burst, with one tick more
or-swap : (a b : Bool) → ((a && true) || b) ≡ (b || a)
or-swap true true = refl
or-swap true false = refl
or-swap false true = refl
or-swap false false = refl

pub heard-since : (k : ℕ) (terminal : TerminalData) (loads : List TimedLoad) (state : Promised) (past : List Moment) (now : Moment) (s : Standing)
    (now_heard : Bool) →
    PromisedStands k terminal loads state past s → now_heard ≡ not (is_quiet (sample_on now.shown state.waiting.channel)) →
    heard_within (heard_on s.channel (now ∷ past)) s.end (suc (length past)) ≡ (state.heard || now_heard)
heard-since k terminal loads state past now s now_heard st is =
    let c : Channel = s.channel in
    let tick_heard : now_heard ≡ not (is_quiet (sample_on now.shown s.channel)) = is ∙ ap (λ (c : Channel). not (is_quiet (sample_on now.shown c)))
    (sym st.waiting.channel) in
    let test : nat_lt (length (heard_on s.channel past)) (suc (length past)) ≡ true = lt-ltb (length (heard_on s.channel past)) (suc (length past))
    (omega (arith, length-heard s.channel past)) in
    let old : heard_within (heard_on s.channel past) s.end (suc (length past)) ≡ state.heard =
    within-bound (heard_on s.channel past) s.end (suc (length past)) (length past) (omega (arith, length-heard s.channel past)) (omega
    (arith, length-heard s.channel past)) ∙ sym st.heard in
    within-more (sample_on now.shown s.channel) (heard_on s.channel past) s.end (suc (length past)) (omega
    (arith, length-heard s.channel past, st.common.ended))
    ∙ (rw (test, old) (or-swap (not (is_quiet (sample_on now.shown s.channel))) state.heard)) ∙ ap (λ (b : Bool). state.heard || b) (sym tick_heard)

-- the promise runs out where the code says so
same-channel-self : (c : Channel) → same_channel c c ≡ true
same-channel-self A = refl
same-channel-self B = refl

out-last : (w : Waiting) (s : Standing) (b : Bool) → IsWaiting w s → AreHandled (if b then out_with (Some w) else None) (if b then Some runs_out else None) s
out-last w s true is = is
out-last w s false is = tt

suc-eq : (a b : ℕ) → (suc a == suc b) ≡ (a == b)
suc-eq a b = elim (cases_Bool (a == b)) [
  | inl same ↦ (let is : a ≡ b = eqb-true a b same in rw (is, eq-eqb b b refl, eq-eqb (suc b) (suc b) refl) refl)
  | inr other ↦ grind (arith, nat_tests, other)
]

pub runs-out : (k : ℕ) (terminal : TerminalData) (loads : List TimedLoad) (state : Promised) (past : List Moment) (now : Moment) (s : Standing)
    (since out : Bool) →
    PromisedStands k terminal loads state past s → heard_within (heard_on s.channel (now ∷ past)) s.end (suc (length past)) ≡ since →
    out ≡ ((length past == (state.waiting.end + relay_wait)) && not since) →
    AreHandled (if out then out_with (Some state.waiting) else None) (running_out k terminal (now ∷ past) s) s
runs-out k terminal loads state past now s since out st heard is =
    let promise : promised_on k s s.channel ≡ true =
    promised-with k state.waiting s s.channel (st.waiting, st.fresh) ∙ ap (λ (c : Channel). same_channel c s.channel)
    (sym st.waiting.channel) ∙ same-channel-self s.channel in
    let tick : (suc (length past) == suc (s.end + relay_wait)) ≡ (length past == (state.waiting.end + relay_wait)) =
    suc-eq (length past) (s.end + relay_wait) ∙ ap (λ (e : ℕ). length past == (e + relay_wait)) st.waiting.end in
    let test : (promised_on k s s.channel && (suc (length past) == suc (s.end + relay_wait)) && not (heard_within (heard_on s.channel
    (now ∷ past)) s.end (suc (length past)))) ≡ out =
    rw (promise, tick, heard) (sym is) in
    rw test (out-last state.waiting s out st.waiting)

or-false : (a b : Bool) → (a || b) ≡ false → a ≡ false
or-false true b h = cc
or-false false b h = refl

not-yet : (n e : ℕ) (since out : Bool) → n ≤ e → since ≡ false → out ≡ ((n == e) && not since) → out ≡ false → suc n ≤ e
not-yet n e since out low quiet_still is none = grind (arith, nat_tests, low, quiet_still, is, none)

promised-left : (k : ℕ) (terminal : TerminalData) (loads : List TimedLoad) (common : Common) (past : List Moment) (s : Standing) (w : Waiting)
    (heard newer : Bool) →
    CommonStands k terminal loads common past s → IsWaiting w s → heard ≡ heard_within (heard_on s.channel past) s.end (length past) → newer ≡ superseded k s →
    (heard ≡ false → length past ≤ s.end + relay_wait) → (heard ≡ true → IsAwaited k (heard_on s.channel past) s.end) →
    ignored_from k (heard_on s.channel past) (mark_on s.sent s.channel) ≡ false → StateStands k terminal loads (promised_on_told common w heard newer) past s
promised-left k terminal loads common past s w heard true same is since newer_is within awaited heeded =
    record { common = same; rests_now = rests-superseded k terminal past s s.duty (sym newer_is) }
promised-left k terminal loads common past s w heard false same is since newer_is within awaited heeded =
    record { common = same; waiting = is; fresh = sym newer_is; heard = since; within = within; awaited = awaited; heeded = heeded }

pub promised-none : (k : ℕ) (terminal : TerminalData) (loads : List TimedLoad) (state : Promised) (common : Common) (past : List Moment)
    (now : Moment) (s : Standing) (now_heard out newer : Bool) →
    PromisedStands k terminal loads state past s → order_now k terminal (now ∷ past) s ≡ None → common.plan ≡ state.common.plan →
    common.memory ≡ state.common.memory →
    EarsStand k terminal.address common.ears (now ∷ past) (marked_by k terminal now past s s) →
    now_heard ≡ not (is_quiet (sample_on now.shown state.waiting.channel)) →
    out ≡ ((length past == (state.waiting.end + relay_wait)) && not (state.heard || now_heard)) → out ≡ false →
    newer ≡ superseded k (marked_by k terminal now past s s) →
    NextStands k terminal loads (record {
      state = promised_on_told common state.waiting
          (state.heard || now_heard) newer;
      event = events.Nothing;
    }) past now s None
promised-none k terminal loads state common past now s now_heard out newer st none plan memory hear heard_is out_is not_out newer_is =
    none-next k terminal loads (promised_on_told common state.waiting (state.heard || now_heard) newer) past now s none
    (promised-left k terminal loads common (now ∷ past) (marked_by k terminal now past s s) state.waiting (state.heard || now_heard) newer
    (common-kept k terminal loads state.common common past now s st.common plan memory hear)
    (record { channel = st.waiting.channel; end = st.waiting.end; duty = st.waiting.duty }) (sym
    (heard-since k terminal loads state past now s now_heard st heard_is)) newer_is
    (λ still. omega (
      arith,
      st.waiting.end,
      not-yet (length past) (state.waiting.end + relay_wait) (state.heard || now_heard) out
          (omega (arith, st.waiting.end, st.within (or-false state.heard now_heard still))) still out_is not_out,
    )) (awaited-more k terminal loads state past now s now_heard st none heard_is)
    (heeded-tick k terminal now past s s s.channel (sym (promised-listens k terminal loads state past s st s.channel)) st.heeded))

pub last-none : {X : Type 0} (a b : Option X) (x : X) (out : Bool) → option_or a (option_or b (if out then Some x else None)) ≡ None → out ≡ false
last-none a b x false e = refl
last-none (Some y) b x true e = cc
last-none None (Some y) x true e = cc
last-none None None x true e = cc

-- what the code finds, by what it knows of the promise after the tick
pub promised-found : (k : ℕ) (terminal : TerminalData) (loads : List TimedLoad) (before : Promised) (w : Waiting) (heard : Bool) (past : List Moment)
    (now : Moment) (s : Standing) (listened : Listened) (out : Bool) →
    PromisedStands k terminal loads before past s → AreListened k terminal.address listened (now ∷ past) past s → w ≡ before.waiting →
    heard ≡ (before.heard || not (is_quiet (sample_on now.shown before.waiting.channel))) →
    out ≡ ((length past == (w.end + relay_wait)) && not heard) → AreHandled (handled_told listened (Some w) out) (order_now k terminal (now ∷ past) s) s
promised-found k terminal loads before w heard past now s listened out st told w_is heard_is out_is =
    let since = heard-since k terminal loads before past now s (not (is_quiet (sample_on now.shown before.waiting.channel))) st refl ∙ sym heard_is in
    let last = runs-out k terminal loads before past now s heard out st since
    (out_is ∙ ap (λ (x : Waiting). (length past == (x.end + relay_wait)) && not heard) w_is) in
    subst (λ (x : Waiting). AreHandled (handled_told listened (Some x) out) (order_now k terminal (now ∷ past) s) s) (sym w_is)
    (all-found k terminal past now s listened (Some before.waiting) out told (promised-awaits k terminal loads before past s st) last)

-- where nothing is handled, the promise stands or is taken back
pub promised-waits : (k : ℕ) (terminal : TerminalData) (loads : List TimedLoad) (before : Promised) (common : Common) (w : Waiting) (heard : Bool)
    (past : List Moment) (now : Moment) (s : Standing) (out newer : Bool) →
    PromisedStands k terminal loads before past s → HasListened k terminal before.common common past now s → w ≡ before.waiting →
    heard ≡ (before.heard || not (is_quiet (sample_on now.shown before.waiting.channel))) →
    out ≡ ((length past == (w.end + relay_wait)) && not heard) → out ≡ false → order_now k terminal (now ∷ past) s ≡ None →
    newer ≡ superseded k (marked_by k terminal now past s s) →
    NextStands k terminal loads (record { state = promised_on_told common w heard newer; event = events.Nothing }) past now s None
promised-waits k terminal loads before common w heard past now s out newer st listened w_is heard_is out_is not_out none newer_is =
    let now_heard : Bool = not (is_quiet (sample_on now.shown before.waiting.channel)) in
    let out_before : out ≡ ((length past == (before.waiting.end + relay_wait)) && not (before.heard || now_heard)) =
    out_is ∙ ap (λ (x : Waiting). (length past == (x.end + relay_wait)) && not heard) w_is
    ∙ ap (λ (b : Bool). (length past == (before.waiting.end + relay_wait)) && not b) heard_is in
    subst (λ (x : Waiting). NextStands k terminal loads (record { state = promised_on_told common x heard newer; event = events.Nothing }) past now s None)
    (sym w_is)
    (subst (λ (b : Bool). NextStands k terminal loads
    (record { state = promised_on_told common before.waiting b newer; event = events.Nothing }) past now s None) (sym heard_is)
    (promised-none k terminal loads before common past now s now_heard out newer st none listened.plan listened.memory (listened.stands s) refl
    out_before not_out newer_is))
