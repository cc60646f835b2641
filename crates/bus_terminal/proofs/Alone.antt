-- The end of an answer that accepts control is known in a tick without an order.
use Rattle.std.proofs.Common.{◌≡◌, ℕ, ◌<◌, ◌≤◌, Bool, true, false, ◌&&◌, ◌==◌, nat_le, List, ◌∷◌, Option, Some, None, refl, sym, ap, ◌∙◌, arith, inl, inr, if◌then◌else◌}
use Rattle.std.specs.Prelude.{is_some, is_none}
use Rattle.std.proofs.lemmas.Bool.{cases_Bool}
use Rattle.std.proofs.lemmas.Bool.Decides.{nat_tests}
use Rattle.bus_base.specs.Samples.{sample_on, other_of}
use Rattle.bus_base.specs.declared.samples.Channel.{Channel}
use Rattle.bus_base.specs.declared.samples.Channel.TheVariants.{A, B}
use Rattle.bus_base.specs.declared.samples.Sample.{Sample}
use Rattle.bus_line.specs.Past.{Burst, ended_now, end_since}
use Rattle.bus_formats.specs.Plans.{TerminalData}
use Rattle.bus_model.specs.Memory.{TimedLoad}
use Rattle.bus_model.specs.Orders.{Order, last_order, due_after}
use Rattle.bus_model.specs.Hearing.{Moment, heard_on}
use Rattle.bus_model.specs.Standing.{Standing, Handled, mark_on, ignored_from, is_newer, outrun, promised_on}
use Rattle.bus_model.specs.Terminal.{order_by, order_of, order_on, order_now, running_out, heard_status, accepted_by, accepted_on}
use Rattle.bus_terminal.specs.Newest.{is_left}
use Rattle.bus_terminal.specs.Stands.{AnsweringStands}
use Rattle.bus_terminal.specs.declared.answering.Answering.{Answering}
use Rattle.bus_terminal.proofs.Heard.{length-heard}
use Rattle.bus_terminal.proofs.Ends.{ended-place}
use Rattle.bus_terminal.proofs.OwingTicks.{kept-parts, sends-awaits}
use Rattle.bus_terminal.proofs.Accepting.{kept-accepts}

-- ---- the answer has begun

-- a burst as long as a status that began when the answer was due
status-some : (due end : ℕ) (o : Option Burst) → heard_status due o ≡ Some end → (burst : Burst) × (o ≡ Some burst) × (burst.first ≡ due) × (40 ≤ burst.ticks)
status-some due end None h = cc
status-some due end (Some burst) h = elim (cases_Bool ((burst.first == due) && nat_le 40 burst.ticks)) [
  | inl both ↦ (burst, refl, grind (arith, nat_tests, both), grind (arith, nat_tests, both))
  | inr other ↦ (let none : heard_status due (Some burst) ≡ None = rw other refl in let no : None ≡ Some end = sym none ∙ h in cc)
]

-- an answer that accepts
accepted-status : (b : Bool) (o : Option ℕ) (end : ℕ) → (if b then o else None) ≡ Some end → o ≡ Some end
accepted-status true o end h = h
accepted-status false o end h = cc

-- so it was sent for a word at least
has-begun : (k : ℕ) (terminal : TerminalData) (loads : List TimedLoad) (state : Answering) (now : Moment) (past : List Moment) (s : Standing) (end : ℕ) →
    AnsweringStands k terminal loads state past s → accepted_on k terminal loads now past s ≡ Some end → 0 < state.sent
has-begun k terminal loads state now past s end st is =
    let heard : List Sample = heard_on s.channel past in
    let x : Sample = sample_on now.shown s.channel in
    let due : ℕ = due_after terminal s.end in
    let status : heard_status due (ended_now k (x ∷ heard)) ≡ Some end =
    accepted-status state.sends.answer.acceptance (heard_status due (ended_now k (x ∷ heard))) end
    (sym (kept-accepts k terminal loads heard x s state.sends.answer.words.items state.sends.answer.acceptance st.kept)
    ∙ sym (ap (accepted_by k terminal loads heard x s) st.sends.duty) ∙ is) in
    let found = status-some due end (ended_now k (x ∷ heard)) status in
    omega (arith, st.sent, length-heard s.channel past, (ended-place k (x ∷ heard) found.0 found.1).0, found.2, found.3)

-- ---- no order on either channel

-- an option without a value
some-none : (o : Option ℕ) → is_some o ≡ false → is_none o ≡ true
some-none None h = refl
some-none (Some n) h = cc

-- the answer's own channel is ignored
own-none : (k : ℕ) (terminal : TerminalData) (loads : List TimedLoad) (state : Answering) (now : Moment) (past : List Moment) (s : Standing) →
    AnsweringStands k terminal loads state past s → 0 < state.sent → order_on k terminal (now ∷ past) s s.channel ≡ None
own-none k terminal loads state now past s st some =
    let due : ℕ = due_after terminal s.end in
    let ignored : ignored_from k (heard_on s.channel past) (mark_on s.sent s.channel) ≡ true =
    ap (ignored_from k (heard_on s.channel past)) (st.marked some) ∙ some-none (end_since k (heard_on s.channel past) due) st.runs in
    rw ignored refl

-- a command on the other is older
older-by : (k : ℕ) (terminal : TerminalData) (s : Standing) (c : Channel) (burst : Burst) (last : Option Order) → outrun s c ≡ true →
    promised_on k s c ≡ false →
    order_by k terminal s c burst last ≡ None
older-by k terminal s c burst (Some last) older none = rw older refl
older-by k terminal s c burst None older none = rw none refl

-- by the burst whose end is known, or none
older-of : (k : ℕ) (terminal : TerminalData) (s : Standing) (c : Channel) (o : Option Burst) → outrun s c ≡ true → promised_on k s c ≡ false →
    order_of k terminal s c o ≡ None
older-of k terminal s c None older none = refl
older-of k terminal s c (Some burst) older none = older-by k terminal s c burst (last_order terminal.address burst.slots) older none

-- an ignored channel has no order
either : (b : Bool) (o : Option Handled) → o ≡ None → (if b then None else o) ≡ None
either true o e = refl
either false o e = e

-- so there is no order on the other channel
other-none : (k : ℕ) (terminal : TerminalData) (now : Moment) (past : List Moment) (s : Standing) (c : Channel) → outrun s c ≡ true →
    promised_on k s c ≡ false →
    order_on k terminal (now ∷ past) s c ≡ None
other-none k terminal now past s c older none =
    either (ignored_from k (heard_on c past) (mark_on s.sent c)) (order_of k terminal s c (ended_now k (heard_on c (now ∷ past))))
    (older-of k terminal s c (ended_now k (heard_on c (now ∷ past))) older none)

-- the older command is outrun by the newer
turned : (s : Standing) (c : Channel) → is_newer c (mark_on s.addressed c) (mark_on s.addressed (other_of c)) ≡ true → outrun s (other_of c) ≡ true
turned s A h = h
turned s B h = h

-- no order on either channel, and no promise that runs out
both-none : (k : ℕ) (terminal : TerminalData) (heard : List Moment) (s : Standing) (c : Channel) → order_on k terminal heard s c ≡ None →
    order_on k terminal heard s (other_of c) ≡ None → running_out k terminal heard s ≡ None → order_now k terminal heard s ≡ None
both-none k terminal heard s A own other out = rw (own, other) out
both-none k terminal heard s B own other out = rw (other, own) out

-- without a promise none runs out
no-waiting : (k : ℕ) (terminal : TerminalData) (heard : List Moment) (s : Standing) → promised_on k s s.channel ≡ false → running_out k terminal heard s ≡ None
no-waiting k terminal heard s none = rw none refl

-- a tick in which control is accepted has no order
alone : (k : ℕ) (terminal : TerminalData) (loads : List TimedLoad) (state : Answering) (now : Moment) (past : List Moment) (s : Standing) (end : ℕ) →
    AnsweringStands k terminal loads state past s → accepted_on k terminal loads now past s ≡ Some end → order_now k terminal (now ∷ past) s ≡ None
alone k terminal loads state now past s end st is =
    let left : is_left s.duty ≡ true = ap is_left st.sends.duty in
    let newer = (st.common.newest left).newest (kept-parts k terminal past s st.kept).0 in
    let none = sends-awaits k s state.sends st.sends in
    both-none k terminal (now ∷ past) s s.channel (own-none k terminal loads state now past s st (has-begun k terminal loads state now past s end st is))
    (other-none k terminal now past s (other_of s.channel) (turned s s.channel newer) (none (other_of s.channel)))
    (no-waiting k terminal (now ∷ past) s (none s.channel))

-- so where there is an order nothing is accepted
pub ordered-accepts : (k : ℕ) (terminal : TerminalData) (loads : List TimedLoad) (state : Answering) (now : Moment) (past : List Moment)
    (s : Standing) (order : Handled) →
    AnsweringStands k terminal loads state past s → order_now k terminal (now ∷ past) s ≡ Some order → accepted_on k terminal loads now past s ≡ None
ordered-accepts k terminal loads state now past s order st is = go (accepted_on k terminal loads now past s) refl where
  go : (o : Option ℕ) → accepted_on k terminal loads now past s ≡ o → accepted_on k terminal loads now past s ≡ None
  go None e = e
  go (Some end) e = (let no : None ≡ Some order = sym (alone k terminal loads state now past s end st e) ∙ is in cc)
