-- A terminal that sends an answer hears a tick.
use Rattle.std.proofs.Common.{◌≡◌, ℕ, suc, ◌+◌, Bool, true, false, not, ◌&&◌, ◌||◌, ◌==◌, nat_lt, List, ◌∷◌, length, Option, Some, None, refl, sym, ap, ◌∙◌, subst, arith, inl, inr, if◌then◌else◌}
use Rattle.std.specs.Prelude.{is_some, is_none}
use Rattle.std.proofs.lemmas.Bool.{le-ltb, eqb-true, eq-eqb, cases_Bool}
use Rattle.std.proofs.lemmas.Bool.Decides.{nat_tests}
use Rattle.bus_base.specs.Samples.{is_quiet, same_channel, sample_on}
use Rattle.bus_base.specs.declared.samples.Channel.{Channel}
use Rattle.bus_base.specs.declared.samples.Channel.TheVariants.{A, B}
use Rattle.bus_line.specs.Past.{heard_within, end_since}
use Rattle.bus_formats.specs.Plans.{TerminalData}
use Rattle.bus_model.specs.Memory.{TimedLoad}
use Rattle.bus_model.specs.Orders.{Taken, Duty, due_after}
use Rattle.bus_model.specs.Hearing.{Moment, heard_on}
use Rattle.bus_model.specs.Standing.{Standing, superseded, ignored_from, mark_on, is_owed}
use Rattle.bus_model.specs.Terminal.{marked_by, order_now, given_up, is_over, begins}
use Rattle.bus_terminal.specs.Holding.{EarsStand, Listens, begins_on}
use Rattle.bus_terminal.specs.Hearing.{HasListened}
use Rattle.bus_terminal.specs.Stands.{CommonStands, AnsweringStands, NextStands, StateStands, IsSending, TakenIs, AcceptedIs, rests}
use Rattle.bus_terminal.specs.Steps.{answering_on, begins_told, acceptance_told}
use Rattle.bus_terminal.specs.declared.common.Common.{Common}
use Rattle.bus_terminal.specs.declared.state.Sends.{Sends}
use Rattle.bus_terminal.specs.declared.answering.Answering.{Answering}
use Rattle.bus_terminal.proofs.Heard.{length-heard}
use Rattle.bus_terminal.proofs.Within.{within-same}
use Rattle.bus_terminal.proofs.Standing.{kept-when, rests-superseded}
use Rattle.bus_terminal.proofs.OwingTicks.{kept-parts}
use Rattle.bus_terminal.proofs.Listened.{none-next, common-kept}
use Rattle.bus_terminal.proofs.Ticks.{sent-of}

-- a tick without an order tells whether control was accepted, and of no block
acceptance-takes : (accepted : Bool) (tick : ℕ) (c : Channel) (o : Option Taken) → o ≡ None → TakenIs (acceptance_told accepted) tick c o
acceptance-takes true tick c o h = h
acceptance-takes false tick c o h = h

acceptance-is : (accepted : Bool) (end : Option ℕ) → accepted ≡ is_some end → AcceptedIs (acceptance_told accepted) end
acceptance-is true end is = sym is
acceptance-is false None is = refl
acceptance-is false (Some end) is = cc

-- the answer begins in the tick in which nothing of it was sent
begins-is : (k : ℕ) (terminal : TerminalData) (loads : List TimedLoad) (state : Answering) (past : List Moment) (s : Standing) →
    AnsweringStands k terminal loads state past s →
    begins k terminal past s ≡ (state.sent == 0)
begins-is k terminal loads state past s st =
    three (is_owed s.duty) (length past == due_after terminal s.end) (given_up k terminal (heard_on s.channel past) s) (ap is_owed st.sends.duty) st.kept
    ∙ due-test (length past) (due_after terminal s.end) state.sent st.sent where
      three : (a b c : Bool) → a ≡ true → c ≡ false → (a && b && not c) ≡ b
      three true true false e f = refl
      three true false false e f = refl
      three false b c e f = cc
      three true b true e f = cc

      due-test : (n due sent : ℕ) → due + sent ≡ n → (n == due) ≡ (sent == 0)
      due-test n due sent e = elim (cases_Bool (sent == 0)) [
        | inl none ↦ (let is : sent ≡ 0 = eqb-true sent 0 none in rw none (eq-eqb n due (omega (arith, is, e))))
        | inr some ↦ (let is : (n == due) ≡ false = grind (arith, nat_tests, some, e) in rw (some, is) refl)
      ]

begins-channel : (b : Bool) (c d : Channel) → begins_on (begins_told b c) d ≡ (b && same_channel c d)
begins-channel true c d = refl
begins-channel false c d = refl

pub answering-listens : (k : ℕ) (terminal : TerminalData) (loads : List TimedLoad) (state : Answering) (past : List Moment) (s : Standing) →
    AnsweringStands k terminal loads state past s →
    Listens k terminal (begins_told (state.sent == 0) state.sends.channel) past s
answering-listens k terminal loads state past s st = λ c.
    begins-channel (state.sent == 0) state.sends.channel c
    ∙ ap (λ (b : Bool). b && same_channel state.sends.channel c) (sym (begins-is k terminal loads state past s st))
    ∙ ap (λ (d : Channel). begins k terminal past s && same_channel d c) (sym st.sends.channel)

-- the mark of the answer
marked-if : (b : Bool) (n due : ℕ) (o : Option ℕ) → (b ≡ true → n ≡ due) → (b ≡ false → o ≡ Some due) → (if b then Some n else o) ≡ Some due
marked-if true n due o f g = ap Some (f refl)
marked-if false n due o f g = g refl

same-self : (b : Bool) (c : Channel) → (b && same_channel c c) ≡ b
same-self b c = both b (same_channel c c) (self c) where
  both : (b d : Bool) → d ≡ true → (b && d) ≡ b
  both true d e = e
  both false d e = refl

  self : (c : Channel) → same_channel c c ≡ true
  self A = refl
  self B = refl

pub answer-mark : (k : ℕ) (terminal : TerminalData) (loads : List TimedLoad) (state : Answering) (past : List Moment) (now : Moment) (s : Standing) →
    AnsweringStands k terminal loads state past s →
    mark_on (marked_by k terminal now past s s).sent s.channel ≡ Some (due_after terminal s.end)
answer-mark k terminal loads state past now s st =
    let due : ℕ = due_after terminal s.end in
    let test : (begins k terminal past s && same_channel s.channel s.channel) ≡ (state.sent == 0) =
    same-self (begins k terminal past s) s.channel ∙ begins-is k terminal loads state past s st in
    sent-of k terminal now past s s.channel
    ∙ ap (λ (b : Bool). if b then Some (length past) else mark_on s.sent s.channel) test
    ∙ marked-if (state.sent == 0) (length past) due (mark_on s.sent s.channel)
    (λ none. let is : state.sent ≡ 0 = eqb-true state.sent 0 none in omega (arith, is, st.sent))
    (λ some. st.marked (grind (arith, nat_tests, some)))

not-over : (o : Option ℕ) (b : Bool) → b ≡ is_none o → is_some o ≡ not b
not-over None b e = rw e refl
not-over (Some end) b e = rw e refl

answering-left : (k : ℕ) (terminal : TerminalData) (loads : List TimedLoad) (common : Common) (past : List Moment) (s : Standing) (sends : Sends)
    (sent : ℕ) (newer ignored : Bool) →
    CommonStands k terminal loads common past s → IsSending sends s → newer ≡ superseded k s →
    heard_within (heard_on s.channel past) s.end (due_after terminal s.end) ≡ false →
    is_over k terminal (heard_on s.channel past) s ≡ not ignored → due_after terminal s.end + sent ≡ length past →
    mark_on s.sent s.channel ≡ Some (due_after terminal s.end) →
    StateStands k terminal loads (answering_on common sends sent newer ignored) past s
answering-left k terminal loads common past s sends sent true ignored same is newer_is within over at mark =
    record { common = same; rests_now = rests-superseded k terminal past s s.duty (sym newer_is) }
answering-left k terminal loads common past s sends sent false false same is newer_is within over at mark =
    record {
      common = same;
      rests_now = subst (λ (d : Duty). rests k terminal past s d ≡ true) (sym is.duty) (rw over (up (given_up k terminal
          (heard_on s.channel past) s)));
    } where
      up : (a : Bool) → (a || true) ≡ true
      up true = refl
      up false = refl
answering-left k terminal loads common past s sends sent false true same is newer_is within over at mark =
    record { common = same; sends = is; kept = kept-when k terminal past s (sym newer_is) within; runs = over; sent = at; marked = λ some. mark }

-- its channel is ignored until the answer's end is known
pub ignored-due : (k : ℕ) (terminal : TerminalData) (loads : List TimedLoad) (state : Answering) (past : List Moment) (now : Moment) (s : Standing)
    (ignored : Bool) →
    AnsweringStands k terminal loads state past s →
    ignored ≡ ignored_from k (heard_on state.sends.channel (now ∷ past)) (mark_on (marked_by k terminal now past s s).sent state.sends.channel) →
    ignored ≡ is_none (end_since k (heard_on s.channel (now ∷ past)) (due_after terminal s.end))
ignored-due k terminal loads state past now s ignored st is =
    let left : Standing = marked_by k terminal now past s s in
    is ∙ ap (λ (c : Channel). ignored_from k (heard_on c (now ∷ past)) (mark_on left.sent c)) (sym st.sends.channel)
    ∙ ap (ignored_from k (heard_on s.channel (now ∷ past))) (answer-mark k terminal loads state past now s st)

pub answering-state : (k : ℕ) (terminal : TerminalData) (loads : List TimedLoad) (state : Answering) (common : Common) (past : List Moment)
    (now : Moment) (s : Standing) (sent : ℕ) (newer ignored : Bool) →
    AnsweringStands k terminal loads state past s → common.plan ≡ state.common.plan → common.memory ≡ state.common.memory →
    EarsStand k terminal.address common.ears (now ∷ past) (marked_by k terminal now past s s) → sent ≡ suc state.sent →
    newer ≡ superseded k (marked_by k terminal now past s s) →
    ignored ≡ ignored_from k (heard_on state.sends.channel (now ∷ past)) (mark_on (marked_by k terminal now past s s).sent state.sends.channel) →
    StateStands k terminal loads (answering_on common state.sends sent newer ignored) (now ∷ past) (marked_by k terminal now past s s)
answering-state k terminal loads state common past now s sent newer ignored st plan memory hear more newer_is ignored_is =
    let left : Standing = marked_by k terminal now past s s in
    let due : ℕ = due_after terminal s.end in
    let old = kept-parts k terminal past s st.kept in
    let mark : mark_on left.sent s.channel ≡ Some due = answer-mark k terminal loads state past now s st in
    let ignored_due : ignored ≡ is_none (end_since k (heard_on s.channel (now ∷ past)) due) =
    ignored-due k terminal loads state past now s ignored st ignored_is in
    let late : nat_lt (length (heard_on s.channel past)) due ≡ false = le-ltb (length (heard_on s.channel past)) due (omega
    (arith, length-heard s.channel past, st.sent)) in
    let within : heard_within (heard_on s.channel (now ∷ past)) s.end due ≡ false =
    within-same (sample_on now.shown s.channel) (heard_on s.channel past) s.end due (rw late (none (not (is_quiet (sample_on now.shown s.channel))))) old.1 in
    answering-left k terminal loads common (now ∷ past) left state.sends sent newer ignored
    (common-kept k terminal loads state.common common past now s st.common plan memory hear)
    (record { channel = st.sends.channel; end = st.sends.end; part = st.sends.part; duty = st.sends.duty }) newer_is within
    (not-over (end_since k (heard_on s.channel (now ∷ past)) due) ignored ignored_due) (omega (arith, st.sent, more)) mark where
      none : (b : Bool) → (b && false) ≡ false
      none true = refl
      none false = refl

pub answering-none : (k : ℕ) (terminal : TerminalData) (loads : List TimedLoad) (state : Answering) (common : Common) (past : List Moment)
    (now : Moment) (s : Standing) (sent : ℕ) (newer ignored accepted : Bool) (end : Option ℕ) →
    accepted ≡ is_some end →
    AnsweringStands k terminal loads state past s → order_now k terminal (now ∷ past) s ≡ None → common.plan ≡ state.common.plan →
    common.memory ≡ state.common.memory →
    EarsStand k terminal.address common.ears (now ∷ past) (marked_by k terminal now past s s) → sent ≡ suc state.sent →
    newer ≡ superseded k (marked_by k terminal now past s s) →
    ignored ≡ ignored_from k (heard_on state.sends.channel (now ∷ past)) (mark_on (marked_by k terminal now past s s).sent state.sends.channel) →
    NextStands k terminal loads (record { state = answering_on common state.sends sent newer ignored; event = acceptance_told accepted }) past now s end
answering-none k terminal loads state common past now s sent newer ignored accepted end is st none plan memory hear more newer_is ignored_is =
    let quiet = none-next k terminal loads (answering_on common state.sends sent newer ignored) past now s none
    (answering-state k terminal loads state common past now s sent newer ignored st plan memory hear more newer_is ignored_is) in
    record { state = quiet.state; taken = acceptance-takes accepted (length past) _ _ quiet.taken; accepted = acceptance-is accepted end is }

-- the same, with the answer as the state has it after the tick
pub answering-waits : (k : ℕ) (terminal : TerminalData) (loads : List TimedLoad) (before : Answering) (common : Common) (sends : Sends)
    (past : List Moment) (now : Moment) (s : Standing) (sent : ℕ) (newer ignored accepted : Bool) (end : Option ℕ) →
    accepted ≡ is_some end →
    AnsweringStands k terminal loads before past s → order_now k terminal (now ∷ past) s ≡ None → HasListened k terminal before.common common past now s →
    sends ≡ before.sends → sent ≡ suc before.sent → newer ≡ superseded k (marked_by k terminal now past s s) →
    ignored ≡ ignored_from k (heard_on sends.channel (now ∷ past)) (mark_on (marked_by k terminal now past s s).sent sends.channel) →
    NextStands k terminal loads (record { state = answering_on common sends sent newer ignored; event = acceptance_told accepted }) past now s end
answering-waits k terminal loads before common sends past now s sent newer ignored accepted end is st none listened same more newer_is ignored_is =
    let left : Standing = marked_by k terminal now past s s in
    subst (λ (x : Sends). NextStands k terminal loads
    (record { state = answering_on common x sent newer ignored; event = acceptance_told accepted }) past now s end) (sym same)
    (answering-none k terminal loads before common past now s sent newer ignored accepted end is st none listened.plan listened.memory (listened.stands s)
    more newer_is (ignored_is ∙ ap (λ (x : Sends). ignored_from k (heard_on x.channel (now ∷ past)) (mark_on left.sent x.channel)) same))
