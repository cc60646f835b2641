-- A terminal that owes an answer, or sends one, hears a tick.
use Rattle.std.proofs.Common.{◌≡◌, ℕ, suc, ◌<◌, ◌≤◌, Bool, true, false, not, ◌&&◌, ◌||◌, ◌==◌, nat_lt, List, ◌∷◌, length, None, refl, sym, ap, ◌∙◌, subst, arith}
use Rattle.std.proofs.lemmas.Bool.{lt-ltb}
use Rattle.std.proofs.lemmas.Bool.Decides.{nat_tests}
use Rattle.bus_base.specs.Samples.{is_quiet, same_channel, sample_on}
use Rattle.bus_base.specs.declared.samples.Channel.{Channel}
use Rattle.bus_line.specs.Past.{heard_within}
use Rattle.bus_formats.specs.Plans.{TerminalData}
use Rattle.bus_model.specs.Memory.{TimedLoad}
use Rattle.bus_model.specs.Orders.{Duty, due_after}
use Rattle.bus_model.specs.Hearing.{Moment, heard_on}
use Rattle.bus_model.specs.Standing.{Standing, superseded, is_owed, is_promise}
use Rattle.bus_model.specs.Terminal.{marked_by, order_now, given_up, is_over, begins}
use Rattle.bus_terminal.specs.Holding.{EarsStand, Listens}
use Rattle.bus_terminal.specs.Handling.{Awaits}
use Rattle.bus_terminal.specs.Hearing.{HasListened}
use Rattle.bus_terminal.specs.Stands.{CommonStands, OwingStands, NextStands, StateStands, IsSending, rests}
use Rattle.bus_terminal.specs.Steps.{owing_on}
use Rattle.bus_terminal.specs.declared.common.Common.{Common}
use Rattle.bus_terminal.specs.declared.state.Sends.{Sends}
use Rattle.bus_terminal.specs.declared.owing.Owing.{Owing}
use Rattle.bus_terminal.specs.declared.state.TerminalEvent.TheVariants as events
use Rattle.bus_terminal.proofs.Heard.{length-heard}
use Rattle.bus_terminal.proofs.Within.{within-more}
use Rattle.bus_terminal.proofs.Standing.{owes-stands, kept-when, rests-superseded}
use Rattle.bus_terminal.proofs.Listened.{none-next, common-kept}
use Rattle.bus_terminal.proofs.Ticks.{listens-none}

no-promise : (p q r : Bool) → p ≡ false → (p && q && r) ≡ false
no-promise false q r h = refl
no-promise true q r h = cc

-- an answer that isn't a promise
pub sends-awaits : (k : ℕ) (s : Standing) (sends : Sends) → IsSending sends s → Awaits k None s
sends-awaits k s sends is c = no-promise (is_promise s.duty) (same_channel s.channel c) (not (superseded k s)) (ap is_promise is.duty)

no-begin : (o d u : Bool) → d ≡ false → (o && d && u) ≡ false
no-begin true d u h = rw h refl
no-begin false d u h = refl

pub early-begins : (k : ℕ) (terminal : TerminalData) (past : List Moment) (s : Standing) → length past < due_after terminal s.end →
    begins k terminal past s ≡ false
early-begins k terminal past s early =
    let early_test : (length past == due_after terminal s.end) ≡ false = grind (arith, nat_tests, early) in
    no-begin (is_owed s.duty) (length past == due_after terminal s.end) (not (given_up k terminal (heard_on s.channel past) s)) early_test

pub owing-listens : (k : ℕ) (terminal : TerminalData) (loads : List TimedLoad) (state : Owing) (past : List Moment) (s : Standing) →
    OwingStands k terminal loads state past s → Listens k terminal None past s
owing-listens k terminal loads state past s st = listens-none k terminal past s (early-begins k terminal past s st.early)

-- neither part of what gives an answer up
parts-false : (a b : Bool) → (a || b) ≡ false → (a ≡ false) × (b ≡ false)
parts-false true b h = cc
parts-false false b h = (refl, h)

pub kept-parts : (k : ℕ) (terminal : TerminalData) (past : List Moment) (s : Standing) → given_up k terminal (heard_on s.channel past) s ≡ false →
    (superseded k s ≡ false) × (heard_within (heard_on s.channel past) s.end (due_after terminal s.end) ≡ false)
kept-parts k terminal past s h = parts-false (superseded k s) (heard_within (heard_on s.channel past) s.end (due_after terminal s.end)) h

sends-same : (k : ℕ) (terminal : TerminalData) (past : List Moment) (now : Moment) (s : Standing) (sends : Sends) → IsSending sends s →
    IsSending sends (marked_by k terminal now past s s)
sends-same k terminal past now s sends is = record { channel = is.channel; end = is.end; part = is.part; duty = is.duty }

last : (b : Bool) → ((b && true) || false) ≡ b
last true = refl
last false = refl

up : (a b : Bool) → ((a || true) || b) ≡ true
up true b = refl
up false b = refl

owing-left : (k : ℕ) (terminal : TerminalData) (loads : List TimedLoad) (common : Common) (n : ℕ) (past : List Moment) (s : Standing) (sends : Sends)
    (heard newer : Bool) →
    CommonStands k terminal loads common past s → n ≡ length past → IsSending sends s →
    heard_within (heard_on s.channel past) s.end (due_after terminal s.end) ≡ heard →
    newer ≡ superseded k s → length past ≤ due_after terminal s.end → StateStands k terminal loads (owing_on common n sends heard newer) past s
owing-left k terminal loads common n past s sends true newer same here is within newer_is early =
    record {
      common = same;
      rests_now = subst (λ (d : Duty). rests k terminal past s d ≡ true) (sym is.duty) (rw within (up (superseded k s)
          (is_over k terminal (heard_on s.channel past) s)));
    }
owing-left k terminal loads common n past s sends false true same here is within newer_is early =
    record { common = same; rests_now = rests-superseded k terminal past s s.duty (sym newer_is) }
owing-left k terminal loads common n past s sends false false same here is within newer_is early =
    owes-stands k terminal loads common n past s sends same here is (kept-when k terminal past s (sym newer_is) within) early

pub owing-none : (k : ℕ) (terminal : TerminalData) (loads : List TimedLoad) (state : Owing) (common : Common) (past : List Moment) (now : Moment)
    (s : Standing) (n : ℕ) (heard newer : Bool) →
    OwingStands k terminal loads state past s → order_now k terminal (now ∷ past) s ≡ None → common.plan ≡ state.common.plan →
    common.memory ≡ state.common.memory →
    EarsStand k terminal.address common.ears (now ∷ past) (marked_by k terminal now past s s) → n ≡ suc (length past) →
    heard ≡ not (is_quiet (sample_on now.shown state.sends.channel)) → newer ≡ superseded k (marked_by k terminal now past s s) →
    NextStands k terminal loads (record { state = owing_on common n state.sends heard newer; event = events.Nothing }) past now s None
owing-none k terminal loads state common past now s n heard newer st none plan memory hear here heard_is newer_is =
    let left : Standing = marked_by k terminal now past s s in
    let due : ℕ = due_after terminal s.end in
    let same : CommonStands k terminal loads common
    (now ∷ past) left = common-kept k terminal loads state.common common past now s st.common plan memory hear in
    let sends : IsSending state.sends left = sends-same k terminal past now s state.sends st.sends in
    let old = kept-parts k terminal past s st.kept in
    let tick_heard : heard ≡ not (is_quiet (sample_on now.shown s.channel)) =
    heard_is ∙ ap (λ (c : Channel). not (is_quiet (sample_on now.shown c))) (sym st.sends.channel) in
    let late : s.end ≤ length (heard_on s.channel past) = omega (arith, length-heard s.channel past, st.common.ended) in
    let early : nat_lt (length (heard_on s.channel past)) due ≡ true = lt-ltb (length (heard_on s.channel past)) due (omega
    (arith, length-heard s.channel past, st.early)) in
    let within : heard_within (heard_on s.channel (now ∷ past)) s.end due ≡ heard =
    within-more (sample_on now.shown s.channel) (heard_on s.channel past) s.end due late
    ∙ (rw (early, old.1) (last (not (is_quiet (sample_on now.shown s.channel))))) ∙ sym tick_heard in
    none-next k terminal loads (owing_on common n state.sends heard newer) past now s none
    (owing-left k terminal loads common n (now ∷ past) left state.sends heard newer same here sends within newer_is (omega (arith, st.early)))

-- the same, with the answer as the state has it after the tick
pub owing-waits : (k : ℕ) (terminal : TerminalData) (loads : List TimedLoad) (before : Owing) (common : Common) (sends : Sends) (past : List Moment)
    (now : Moment) (s : Standing) (n : ℕ) (heard newer : Bool) →
    OwingStands k terminal loads before past s → order_now k terminal (now ∷ past) s ≡ None → HasListened k terminal before.common common past now s →
    sends ≡ before.sends → n ≡ suc (length past) →
    heard ≡ not (is_quiet (sample_on now.shown sends.channel)) → newer ≡ superseded k (marked_by k terminal now past s s) →
    NextStands k terminal loads (record { state = owing_on common n sends heard newer; event = events.Nothing }) past now s None
owing-waits k terminal loads before common sends past now s n heard newer st none listened same here heard_is newer_is =
    subst (λ (x : Sends). NextStands k terminal loads (record { state = owing_on common n x heard newer; event = events.Nothing }) past now s None) (sym same)
    (owing-none k terminal loads before common past now s n heard newer st none listened.plan listened.memory (listened.stands s) here
    (heard_is ∙ ap (λ (x : Sends). not (is_quiet (sample_on now.shown x.channel))) same) newer_is)
