-- When control is accepted: while an answer that accepts runs, in the tick in which the end of its own burst is known.
use Rattle.std.proofs.Common.{◌≡◌, ℕ, ◌+◌, ◌-◌, ◌<◌, Bool, true, false, ◌&&◌, ◌||◌, ◌==◌, nat_le, List, ◌∷◌, length, Option, Some, None, refl, sym, ap, ◌∙◌, subst, arith, inl, inr, if◌then◌else◌}
use Rattle.std.specs.Prelude.{is_some, is_none}
use Rattle.std.proofs.lemmas.Bool.{cases_lt, cases_Bool, eqb-true}
use Rattle.std.proofs.lemmas.Bool.Decides.{nat_tests}
use Rattle.bus_base.specs.Samples.{sample_on}
use Rattle.bus_base.specs.declared.samples.Channel.{Channel}
use Rattle.bus_base.specs.declared.samples.Channel.TheVariants.{A, B}
use Rattle.bus_base.specs.declared.samples.Sample.{Sample}
use Rattle.bus_words.specs.declared.word.Word.{Word}
use Rattle.bus_line.specs.Past.{Burst, ended_now, end_of, end_since}
use Rattle.bus_line.proofs.EndLaws.{end_since-ended, end_since-stays, end_since-is}
use Rattle.bus_ears.specs.Ears.{AreTold}
use Rattle.bus_ears.specs.declared.ear.HeardBurst.{HeardBurst}
use Rattle.bus_ears.specs.declared.ear.TheConstants.{MOST_SLOTS}
use Rattle.bus_formats.specs.Plans.{TerminalData}
use Rattle.bus_model.specs.Memory.{TimedLoad}
use Rattle.bus_model.specs.Orders.{Duty, free, owes, promises, due_after}
use Rattle.bus_model.specs.Hearing.{Moment, heard_on}
use Rattle.bus_model.specs.Standing.{Standing}
use Rattle.bus_model.specs.Terminal.{given_up, is_over, heard_status, accepted_by, accepted_on}
use Rattle.bus_terminal.specs.Holding.{AreListened}
use Rattle.bus_terminal.specs.Stands.{ListeningStands, PromisedStands, OwingStands, AnsweringStands, NextStands, rests}
use Rattle.bus_terminal.specs.Steps.{told_on, is_status}
use Rattle.bus_terminal.specs.declared.common.Listened.{Listened}
use Rattle.bus_terminal.specs.declared.listening.Listening.{Listening}
use Rattle.bus_terminal.specs.declared.promised.Promised.{Promised}
use Rattle.bus_terminal.specs.declared.owing.Owing.{Owing}
use Rattle.bus_terminal.specs.declared.answering.Answering.{Answering}
use Rattle.bus_terminal.specs.declared.state.Sends.{Sends}
use Rattle.bus_terminal.specs.declared.state.TerminalNext.{TerminalNext}
use Rattle.bus_terminal.proofs.Heard.{length-heard}
use Rattle.bus_terminal.proofs.Ends.{ended-place}

-- ---- bursts that are no answer

-- no burst that ended began when the answer was due
status-unless : (due : ℕ) (o : Option Burst) → ((burst : Burst) → o ≡ Some burst → burst.first ≡ due → ⊥) → heard_status due o ≡ None
status-unless due None h = refl
status-unless due (Some burst) h = elim (cases_Bool ((burst.first == due) && nat_le 40 burst.ticks)) [
  | inl both ↦ absurd (h burst refl (grind (arith, nat_tests, both)))
  | inr other ↦ rw other refl
]

-- what had its end before doesn't end now
over-before : (k : ℕ) (x : Sample) (past : List Sample) (due : ℕ) (burst : Burst) (o : Option ℕ) → ended_now k (x ∷ past) ≡ Some burst → burst.first ≡ due →
    end_since k past due ≡ o → is_some o ≡ true → ⊥
over-before k x past due burst None e first at over = cc
over-before k x past due burst (Some end) e first at over =
    let now : end_since k (x ∷ past) burst.first ≡ Some (end_of burst) = end_since-ended k (x ∷ past) burst e in
    let before : end_since k (x ∷ past) due ≡ Some end = end_since-stays k x past due end at in
    let same : Some end ≡ Some (end_of burst) = sym before ∙ ap (end_since k (x ∷ past)) (sym first) ∙ now in
    let is : end ≡ end_of burst = cc in
    omega (arith, is, (end_since-is k past due end at).known, (ended-place k (x ∷ past) burst e).0)

-- nothing that begins later ended
due-later : (k : ℕ) (x : Sample) (past : List Sample) (due : ℕ) (burst : Burst) → length past < due → ended_now k (x ∷ past) ≡ Some burst →
    burst.first ≡ due → ⊥
due-later k x past due burst early e first = omega (arith, early, first, (ended-place k (x ∷ past) burst e).0)

-- ---- states without an answer that runs

or-other : (a b : Bool) → (a || b) ≡ true → a ≡ false → b ≡ true
or-other true b h e = cc
or-other false b h e = h

rests-accepts : (k : ℕ) (terminal : TerminalData) (loads : List TimedLoad) (now : Moment) (past : List Moment) (s : Standing) (d : Duty) →
    rests k terminal past s d ≡ true →
    accepted_by k terminal loads (heard_on s.channel past) (sample_on now.shown s.channel) s d ≡ None
rests-accepts k terminal loads now past s free h = refl
rests-accepts k terminal loads now past s (promises command transmitter) h = refl
rests-accepts k terminal loads now past s (owes words false) h = refl
rests-accepts k terminal loads now past s (owes words true) h =
    let heard : List Sample = heard_on s.channel past in
    let x : Sample = sample_on now.shown s.channel in
    let due : ℕ = due_after terminal s.end in
    elim (cases_Bool (given_up k terminal heard s)) [
      | inl up ↦ rw up refl
      | inr kept ↦ (
          let over : is_over k terminal heard s ≡ true = or-other (given_up k terminal heard s) (is_over k terminal heard s) h kept in
          let none : heard_status due (ended_now k (x ∷ heard)) ≡ None =
          status-unless due (ended_now k (x ∷ heard)) (λ burst e first. over-before k x heard due burst (end_since k heard due) e first refl over) in
          rw (kept, none) refl)
    ]

pub listening-accepts : (k : ℕ) (terminal : TerminalData) (loads : List TimedLoad) (state : Listening) (now : Moment) (past : List Moment) (s : Standing) →
    ListeningStands k terminal loads state past s → accepted_on k terminal loads now past s ≡ None
listening-accepts k terminal loads state now past s st = rests-accepts k terminal loads now past s s.duty st.rests_now

pub promised-accepts : (k : ℕ) (terminal : TerminalData) (loads : List TimedLoad) (state : Promised) (now : Moment) (past : List Moment) (s : Standing) →
    PromisedStands k terminal loads state past s → accepted_on k terminal loads now past s ≡ None
promised-accepts k terminal loads state now past s st =
    ap (accepted_by k terminal loads (heard_on s.channel past) (sample_on now.shown s.channel) s) st.waiting.duty

-- where nothing is accepted, a state tells what its order tells
pub next-silent : (k : ℕ) (terminal : TerminalData) (loads : List TimedLoad) (next : TerminalNext) (past : List Moment) (now : Moment) (s : Standing)
    (end : Option ℕ) →
    end ≡ None → NextStands k terminal loads next past now s None → NextStands k terminal loads next past now s end
next-silent k terminal loads next past now s end e h = subst (λ (o : Option ℕ). NextStands k terminal loads next past now s o) (sym e) h

-- ---- an answer that isn't given up

pub kept-accepts : (k : ℕ) (terminal : TerminalData) (loads : List TimedLoad) (past : List Sample) (x : Sample) (s : Standing) (words : List Word)
    (acceptance : Bool) →
    given_up k terminal past s ≡ false →
    accepted_by k terminal loads past x s (owes words acceptance) ≡ (if acceptance then heard_status (due_after terminal s.end) (ended_now k
    (x ∷ past)) else None)
kept-accepts k terminal loads past x s words true kept = rw kept refl
kept-accepts k terminal loads past x s words false kept = refl

none-if : (b : Bool) (o : Option ℕ) → o ≡ None → (if b then o else None) ≡ None
none-if true o e = e
none-if false o e = refl

pub owing-accepts : (k : ℕ) (terminal : TerminalData) (loads : List TimedLoad) (state : Owing) (now : Moment) (past : List Moment) (s : Standing) →
    OwingStands k terminal loads state past s → accepted_on k terminal loads now past s ≡ None
owing-accepts k terminal loads state now past s st =
    let heard : List Sample = heard_on s.channel past in
    let x : Sample = sample_on now.shown s.channel in
    let due : ℕ = due_after terminal s.end in
    let none : heard_status due (ended_now k (x ∷ heard)) ≡ None =
    status-unless due (ended_now k (x ∷ heard)) (λ burst e first. due-later k x heard due burst (omega
    (arith, length-heard s.channel past, st.early)) e first) in
    ap (accepted_by k terminal loads heard x s) st.sends.duty
    ∙ kept-accepts k terminal loads heard x s state.sends.answer.words.items state.sends.answer.acceptance st.kept
    ∙ none-if state.sends.answer.acceptance (heard_status due (ended_now k (x ∷ heard))) none

-- an answer that has no end yet wasn't heard whole
not-ended : (o : Option ℕ) (n : ℕ) → o ≡ Some n → is_none o ≡ true → ⊥
not-ended None n e h = cc
not-ended (Some m) n e h = cc

pub running-accepts : (k : ℕ) (terminal : TerminalData) (loads : List TimedLoad) (state : Answering) (now : Moment) (past : List Moment) (s : Standing) →
    AnsweringStands k terminal loads state past s → is_none (end_since k (heard_on s.channel (now ∷ past)) (due_after terminal s.end)) ≡ true →
    accepted_on k terminal loads now past s ≡ None
running-accepts k terminal loads state now past s st runs =
    let heard : List Sample = heard_on s.channel past in
    let x : Sample = sample_on now.shown s.channel in
    let due : ℕ = due_after terminal s.end in
    let none : heard_status due (ended_now k (x ∷ heard)) ≡ None =
    status-unless due (ended_now k (x ∷ heard)) (λ burst e first. not-ended (end_since k (x ∷ heard) due) (end_of burst)
    (ap (end_since k (x ∷ heard)) (sym first) ∙ end_since-ended k (x ∷ heard) burst e) runs) in
    ap (accepted_by k terminal loads heard x s) st.sends.duty
    ∙ kept-accepts k terminal loads heard x s state.sends.answer.words.items state.sends.answer.acceptance st.kept
    ∙ none-if state.sends.answer.acceptance (heard_status due (ended_now k (x ∷ heard))) none

-- ---- the burst that ended, as the ears tell it

long-enough : (first ticks due : ℕ) → ((first == due) && nat_le (due + 40) (first + ticks)) ≡ ((first == due) && nat_le 40 ticks)
long-enough first ticks due = elim (cases_Bool (first == due)) [
  | inr other ↦ rw other refl
  | inl same ↦ (
      let is : first ≡ due = eqb-true first due same in
      elim (cases_lt ticks 40) [
        | inl short ↦ (
            let here : nat_le 40 ticks ≡ false = grind (arith, nat_tests, short) in
            let there : nat_le (due + 40) (first + ticks) ≡ false = grind (arith, nat_tests, short, is) in
            rw (same, here, there) refl)
        | inr long ↦ (
            let here : nat_le 40 ticks ≡ true = grind (arith, nat_tests, long) in
            let there : nat_le (due + 40) (first + ticks) ≡ true = grind (arith, nat_tests, long, is) in
            rw (same, here, there) refl)
      ])
]

some-if : (b : Bool) (n : ℕ) → b ≡ is_some (if b then Some n else None)
some-if true n = refl
some-if false n = refl

told-status : (most own : ℕ) (told : Option HeardBurst) (o : Option Burst) (due : ℕ) → AreTold most own told o →
    is_status due told ≡ is_some (heard_status due o)
told-status most own None None due h = refl
told-status most own None (Some burst) due h = absurd h
told-status most own (Some told) None due h = absurd h
told-status most own (Some told) (Some burst) due h =
    rw (h.first, h.end) (long-enough burst.first burst.ticks due)
    ∙ some-if ((burst.first == due) && nat_le 40 burst.ticks) (end_of burst)

ears-told : (k own : ℕ) (told : Listened) (heard past : List Moment) (s : Standing) (c : Channel) → AreListened k own told heard past s →
    AreTold MOST_SLOTS own (told_on c told) (ended_now k (heard_on c heard))
ears-told k own told heard past s A h = h.heard_a.burst
ears-told k own told heard past s B h = h.heard_b.burst

-- what the code tests of an answer that runs is what the definition says
pub answering-accepts : (k : ℕ) (terminal : TerminalData) (loads : List TimedLoad) (state : Answering) (told : Listened) (now : Moment)
    (past : List Moment) (s : Standing)
    (n due : ℕ) (sends : Sends) (accepted : Bool) →
    AnsweringStands k terminal loads state past s → AreListened k terminal.address told (now ∷ past) past s → length past ≡ n → sends ≡ state.sends →
    due ≡ n - state.sent →
    accepted ≡ (sends.answer.acceptance && is_status due (told_on sends.channel told)) →
    accepted ≡ is_some (accepted_on k terminal loads now past s)
answering-accepts k terminal loads state told now past s n due sends accepted st listened here same due_is is =
    let heard : List Sample = heard_on s.channel past in
    let x : Sample = sample_on now.shown s.channel in
    let first : ℕ = due_after terminal s.end in
    let begun : due ≡ first = omega (arith, st.sent, here, due_is) in
    let status : is_status first (told_on s.channel told) ≡ is_some (heard_status first (ended_now k (x ∷ heard))) =
    told-status MOST_SLOTS terminal.address (told_on s.channel told) (ended_now k (x ∷ heard)) first (ears-told k terminal.address told
    (now ∷ past) past s s.channel listened) in
    is
    ∙ ap (λ (x : Sends). x.answer.acceptance && is_status due (told_on x.channel told)) same
    ∙ ap (λ (d : ℕ). state.sends.answer.acceptance && is_status d (told_on state.sends.channel told)) begun
    ∙ ap (λ (c : Channel). state.sends.answer.acceptance && is_status first (told_on c told)) (sym st.sends.channel)
    ∙ ap (λ (b : Bool). state.sends.answer.acceptance && b) status
    ∙ both state.sends.answer.acceptance (heard_status first (ended_now k (x ∷ heard)))
    ∙ ap is_some (sym (ap (accepted_by k terminal loads heard x s) st.sends.duty
    ∙ kept-accepts k terminal loads heard x s state.sends.answer.words.items state.sends.answer.acceptance st.kept)) where
      both : (b : Bool) (o : Option ℕ) → (b && is_some o) ≡ is_some (if b then o else None)
      both true o = refl
      both false o = refl
