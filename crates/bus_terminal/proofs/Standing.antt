-- The state that an order leaves stands for what it left.
use Rattle.std.proofs.Common.{◌≡◌, ℕ, suc, ◌+◌, ◌≤◌, Bool, true, false, nat_lt, List, length, refl, sym, ap, ◌∙◌, subst, arith, inl, inr, ◌⊎◌, if◌then◌else◌}
use Rattle.std.specs.Prelude.{is_some}
use Rattle.std.proofs.lemmas.Bool.{ltb-true, ltb-false}
use Rattle.bus_base.specs.declared.samples.Channel.{Channel}
use Rattle.bus_base.specs.declared.samples.Part.{Part}
use Rattle.bus_line.specs.Past.{quiet, heard_within}
use Rattle.bus_line.proofs.EndLaws.{end_since-early}
use Rattle.bus_formats.specs.Plans.{TerminalData}
use Rattle.bus_model.specs.Memory.{TimedLoad}
use Rattle.bus_model.specs.Orders as orders
use Rattle.bus_model.specs.Orders.{free, owes, promises, due_after}
use Rattle.bus_model.specs.Hearing.{Moment, heard_on}
use Rattle.bus_model.specs.Standing.{Standing, mark_on, ignored_from, superseded, is_owed}
use Rattle.bus_model.specs.Terminal.{given_up}
use Rattle.bus_orders.specs.Meant.{duty_meant}
use Rattle.bus_orders.specs.declared.done.Duty.{Duty}
use Rattle.bus_orders.specs.declared.done.Duty.TheVariants as duties
use Rattle.bus_terminal.specs.Stands.{CommonStands, rests, StateStands, IsSending}
use Rattle.bus_terminal.specs.Steps.{duty_told, owes_told, stands_told}
use Rattle.bus_terminal.specs.declared.common.Common.{Common}
use Rattle.bus_terminal.specs.declared.state.Sends.{Sends}
use Rattle.bus_terminal.specs.declared.state.TerminalState.{TerminalState}
use Rattle.bus_terminal.specs.declared.state.TerminalState.TheVariants as states
use Rattle.bus_terminal.proofs.Heard.{length-heard}
use Rattle.bus_terminal.proofs.Within.{within-quiet}

pub by-test : {A : Type 0} (P : A → Type 0) (b : Bool) (x y : A) → (b ≡ true → P x) → (b ≡ false → P y) → P (if b then x else y)
by-test P true x y f g = f refl
by-test P false x y f g = g refl

-- the last order left nothing, or the end of its burst has just become known on a channel that isn't ignored
abbrev pub Recent : ℕ → List Moment → Standing → Type 0
Recent k past s =
    (s.duty ≡ free)
    ⊎ ((length past ≡ s.end + suc k) × (quiet (heard_on s.channel past) ≡ suc k) × (ignored_from k (heard_on s.channel past)
    (mark_on s.sent s.channel) ≡ false))

-- nothing was heard since that end
pub quiet-since : (k : ℕ) (past : List Moment) (s : Standing) (b : ℕ) → length past ≡ s.end + suc k → quiet (heard_on s.channel past) ≡ suc k →
    heard_within (heard_on s.channel past) s.end b ≡ false
quiet-since k past s b here still = within-quiet (heard_on s.channel past) s.end b (omega (arith, length-heard s.channel past, here, still))

pub kept-when : (k : ℕ) (terminal : TerminalData) (past : List Moment) (s : Standing) → superseded k s ≡ false →
    heard_within (heard_on s.channel past) s.end (due_after terminal s.end) ≡ false → given_up k terminal (heard_on s.channel past) s ≡ false
kept-when k terminal past s fresh still = rw (fresh, still) refl

-- an answer that is owed, and nothing was heard
pub owes-stands : (k : ℕ) (terminal : TerminalData) (loads : List TimedLoad) (common : Common) (n : ℕ) (past : List Moment) (s : Standing) (sends : Sends) →
    CommonStands k terminal loads common past s → n ≡ length past → IsSending sends s → given_up k terminal (heard_on s.channel past) s ≡ false →
    length past ≤ due_after terminal s.end → StateStands k terminal loads (owes_told common n sends) past s
owes-stands k terminal loads common n past s sends st here is kept early =
    let owing : TerminalState = states.Owing record { common = common; sends = sends } in
    let answering : TerminalState = states.Answering record { common = common; sends = sends; sent = 0 } in
    let test : nat_lt n (due_after common.plan sends.end) ≡ nat_lt (length past) (due_after terminal s.end) =
    ap (λ (x : ℕ). nat_lt x (due_after common.plan sends.end)) here
    ∙ ap (λ (p : TerminalData). nat_lt (length past) (due_after p sends.end)) st.plan
    ∙ ap (λ (e : ℕ). nat_lt (length past) (due_after terminal e)) (sym is.end) in
    subst (λ (b : Bool). StateStands k terminal loads (if b then owing else answering) past s) (sym test)
    (by-test (λ (t : TerminalState). StateStands k terminal loads t past s) (nat_lt (length past) (due_after terminal s.end)) owing answering
    (λ less. record { common = st; sends = is; kept = kept; early = ltb-true (length past) (due_after terminal s.end) less })
    (λ all. record {
      common = st;
      sends = is;
      kept = kept;
      runs = ap is_some (end_since-early k (heard_on s.channel past) (due_after terminal s.end) (omega (arith, length-heard s.channel past, early)));
      sent = omega (arith, early, ltb-false (length past) (due_after terminal s.end) all);
      marked = λ some. absurd (omega (arith, some));
    }))

pub duty-stands : (k : ℕ) (terminal : TerminalData) (loads : List TimedLoad) (common : Common) (n : ℕ) (past : List Moment) (s : Standing)
    (c : Channel) (end : ℕ) (part : Part) (d : Duty) →
    CommonStands k terminal loads common past s → n ≡ length past → s.channel ≡ c → s.end ≡ end → (is_owed s.duty ≡ true → s.part ≡ part) →
    superseded k s ≡ false → Recent k past s → duty_meant d ≡ s.duty → StateStands k terminal loads (duty_told common n c end part d) past s
duty-stands k terminal loads common n past s c end part duties.Free st here on at shape fresh recent is =
    record { common = st; rests_now = subst (λ (d : orders.Duty). rests k terminal past s d ≡ true) is refl }
duty-stands k terminal loads common n past s c end part (duties.Promises promise) st here on at shape fresh (inl none) is =
    (let no_promise : promises promise.command promise.transmitter ≡ free = is ∙ none in cc)
duty-stands k terminal loads common n past s c end part (duties.Promises promise) st here on at shape fresh (inr (now, still, heeded)) is = record {
  common = st;
  waiting = record { channel = on; end = at; duty = sym is };
  fresh = fresh;
  heard = sym (quiet-since k past s (length past) now still);
  within = λ none. omega (arith, now, st.fits.lag);
  awaited = λ heard. (let no : false ≡ true = heard in cc);
  heeded = heeded;
}
duty-stands k terminal loads common n past s c end part (duties.Owes answer) st here on at shape fresh (inl none) is =
    (let no_answer : owes answer.words.items answer.acceptance ≡ free = is ∙ none in cc)
duty-stands k terminal loads common n past s c end part (duties.Owes answer) st here on at shape fresh (inr (now, still, heeded)) is =
    let sends : Sends = record { channel = c; end = end; part = part; answer = answer } in
    let owed : is_owed s.duty ≡ true = ap is_owed (sym is) in
    owes-stands k terminal loads common n past s sends st here (record { channel = on; end = at; part = shape owed; duty = sym is })
    (kept-when k terminal past s fresh (quiet-since k past s (due_after terminal s.end) now still))
    (omega (arith, now, st.fits.prompt))

pub rests-superseded : (k : ℕ) (terminal : TerminalData) (past : List Moment) (s : Standing) (d : orders.Duty) → superseded k s ≡ true →
    rests k terminal past s d ≡ true
rests-superseded k terminal past s free h = refl
rests-superseded k terminal past s (owes words acceptance) h = rw h refl
rests-superseded k terminal past s (promises command transmitter) h = h

pub left-stands : (k : ℕ) (terminal : TerminalData) (loads : List TimedLoad) (common : Common) (n : ℕ) (past : List Moment) (s : Standing)
    (c : Channel) (end : ℕ) (part : Part) (d : Duty) (b : Bool) →
    CommonStands k terminal loads common past s → n ≡ length past → s.channel ≡ c → s.end ≡ end → (is_owed s.duty ≡ true → s.part ≡ part) →
    b ≡ superseded k s → Recent k past s → duty_meant d ≡ s.duty → StateStands k terminal loads (stands_told common b n c end part d) past s
left-stands k terminal loads common n past s c end part d true st here on at shape is_b recent is =
    record { common = st; rests_now = rests-superseded k terminal past s s.duty (sym is_b) }
left-stands k terminal loads common n past s c end part d false st here on at shape is_b recent is =
    duty-stands k terminal loads common n past s c end part d st here on at shape (sym is_b) recent is
