-- What a state that stands shows: what it keeps, and what it sends.
use Rattle.std.proofs.Common.{◌≡◌, ℕ, ◌-◌, Bool, true, false, ◌||◌, nat_lt, List, length, refl, sym, ap, ◌∙◌, arith, if◌then◌else◌}
use Rattle.std.proofs.lemmas.Bool.{lt-ltb, le-ltb}
use Rattle.bus_base.specs.declared.samples.Channel.{Channel}
use Rattle.bus_base.specs.declared.samples.Part.{Part}
use Rattle.bus_base.specs.declared.samples.Drive.{Drive}
use Rattle.bus_base.specs.declared.samples.Drive.TheVariants.{Silent}
use Rattle.bus_words.specs.declared.word.Word.{Word}
use Rattle.bus_formats.specs.Plans.{TerminalData}
use Rattle.bus_model.specs.Memory.{TimedLoad}
use Rattle.bus_model.specs.Orders.{Duty, free, owes, promises, due_after}
use Rattle.bus_model.specs.Hearing.{Moment, heard_on}
use Rattle.bus_model.specs.Sending.{drive_sample}
use Rattle.bus_model.specs.Standing.{Standing}
use Rattle.bus_model.specs.Terminal.{drive_of, drive_duty, given_up, is_over}
use Rattle.bus_terminal.specs.Stands.{CommonStands, StateStands, rests}
use Rattle.bus_terminal.specs.Shown.{common_of, drive_told}
use Rattle.bus_terminal.specs.declared.state.TerminalState.{TerminalState}
use Rattle.bus_terminal.specs.declared.state.TerminalState.TheVariants as states
use Rattle.bus_terminal.proofs.Heard.{length-heard}

pub state-common : (k : ℕ) (terminal : TerminalData) (loads : List TimedLoad) (state : TerminalState) (past : List Moment) (s : Standing) →
    StateStands k terminal loads state past s →
    CommonStands k terminal loads (common_of state) past s
state-common k terminal loads (states.Listening state) past s st = st.common
state-common k terminal loads (states.Promised state) past s st = st.common
state-common k terminal loads (states.Owing state) past s st = st.common
state-common k terminal loads (states.Answering state) past s st = st.common

last-true : (a b c : Bool) → (b || c) ≡ true → ((a || b) || c) ≡ true
last-true true b c h = refl
last-true false b c h = h

silent-if : (b : Bool) (x : Drive) → b ≡ true → Silent ≡ (if b then Silent else x)
silent-if true x h = refl
silent-if false x h = cc

rests-silent : (k : ℕ) (terminal : TerminalData) (past : List Moment) (s : Standing) (d : Duty) → rests k terminal past s d ≡ true →
    Silent ≡ drive_duty k terminal (heard_on s.channel past) s d
rests-silent k terminal past s free h = refl
rests-silent k terminal past s (promises command transmitter) h = refl
rests-silent k terminal past s (owes words acceptance) h =
    silent-if ((nat_lt (length (heard_on s.channel past)) (due_after terminal s.end) || given_up k terminal
    (heard_on s.channel past) s) || is_over k terminal (heard_on s.channel past) s) _
    (last-true (nat_lt (length (heard_on s.channel past)) (due_after terminal s.end)) (given_up k terminal (heard_on s.channel past) s)
    (is_over k terminal (heard_on s.channel past) s) h)

drives-if : (b : Bool) (x : Drive) → b ≡ false → x ≡ (if b then Silent else x)
drives-if true x h = cc
drives-if false x h = refl

none-true : (a b c : Bool) → a ≡ false → b ≡ false → c ≡ false → ((a || b) || c) ≡ false
none-true a b c e f g = rw (e, f, g) refl

first-true : (a b c : Bool) → a ≡ true → ((a || b) || c) ≡ true
first-true a b c e = rw e refl

-- what it sends
pub state-drives : (k : ℕ) (terminal : TerminalData) (loads : List TimedLoad) (state : TerminalState) (past : List Moment) (s : Standing) →
    StateStands k terminal loads state past s →
    drive_told state ≡ drive_of k terminal past s
state-drives k terminal loads (states.Listening state) past s st = rests-silent k terminal past s s.duty st.rests_now
state-drives k terminal loads (states.Promised state) past s st = ap (drive_duty k terminal (heard_on s.channel past) s) (sym st.waiting.duty)
state-drives k terminal loads (states.Owing state) past s st =
    silent-if ((nat_lt (length (heard_on s.channel past)) (due_after terminal s.end) || given_up k terminal
    (heard_on s.channel past) s) || is_over k terminal (heard_on s.channel past) s)
    (drive_sample s.channel s.part state.sends.answer.words.items (length (heard_on s.channel past) - due_after terminal s.end))
    (first-true (nat_lt (length (heard_on s.channel past)) (due_after terminal s.end)) (given_up k terminal (heard_on s.channel past) s)
    (is_over k terminal (heard_on s.channel past) s)
    (lt-ltb (length (heard_on s.channel past)) (due_after terminal s.end) (omega (arith, length-heard s.channel past, st.early))))
    ∙ ap (drive_duty k terminal (heard_on s.channel past) s) (sym st.sends.duty)
state-drives k terminal loads (states.Answering state) past s st =
    let words : List Word = state.sends.answer.words.items in
    let place : state.sent ≡ length (heard_on s.channel past) - due_after terminal s.end = omega (arith, length-heard s.channel past, st.sent) in
    ap (λ (c : Channel). drive_sample c state.sends.part words state.sent) (sym st.sends.channel)
    ∙ ap (λ (p : Part). drive_sample s.channel p words state.sent) (sym st.sends.part)
    ∙ ap (drive_sample s.channel s.part words) place
    ∙ drives-if ((nat_lt (length (heard_on s.channel past)) (due_after terminal s.end) || given_up k terminal
    (heard_on s.channel past) s) || is_over k terminal (heard_on s.channel past) s)
    (drive_sample s.channel s.part words (length (heard_on s.channel past) - due_after terminal s.end))
    (none-true (nat_lt (length (heard_on s.channel past)) (due_after terminal s.end)) (given_up k terminal (heard_on s.channel past) s)
    (is_over k terminal (heard_on s.channel past) s)
    (le-ltb (length (heard_on s.channel past)) (due_after terminal s.end) (omega (arith, length-heard s.channel past, st.sent))) st.kept st.runs)
    ∙ ap (drive_duty k terminal (heard_on s.channel past) s) (sym st.sends.duty)
