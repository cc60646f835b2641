-- Where control passes by the ending of a message: to the terminal that answered, by an answer that accepts.
use Rattle.std.proofs.Common.{◌≡◌, ◌⊎◌, inl, inr, ℕ, zero, suc, ◌+◌, Bool, true, false, List, [], ◌∷◌, Option, Some, None, refl, sym, ap, ◌∙◌, subst}
use Rattle.std.proofs.lemmas.Option.{none-some, same_Some}
use Rattle.std.specs.Prelude.{if◌then◌else◌, not, ◌&&◌, ◌||◌, ◌==◌}
use Rattle.bus_base.specs.declared.samples.Part.{Part}
use Rattle.bus_base.specs.declared.samples.Part.TheVariants.{First}
use Rattle.bus_words.specs.Fields.{address_of, flags_in, is_clean}
use Rattle.bus_words.specs.declared.word.Word.{Word}
use Rattle.bus_formats.specs.Codes.{dynamic_bus_control, transmit_status_word, transmit_last_command}
use Rattle.bus_formats.specs.Forms.{answers_of}
use Rattle.bus_formats.specs.Plans.{ItemData}
use Rattle.bus_formats.specs.Readings.{command_in, status_from, status_alone, status_full, read_refusal, read_offer, read_status, read_mode, read_full, read_data, read_by, read_shape, read_answer, shape_in}
use Rattle.bus_formats.specs.declared.form.Outcome.{Outcome}
use Rattle.bus_formats.specs.declared.form.Outcome.TheVariants.{Clear, Sent, Declined, Passed, Illegal, Busy, NoResponse, BadReply, Abandoned, Yielded}
use Rattle.bus_formats.specs.declared.form.Reading.{Reading}
use Rattle.bus_formats.specs.declared.form.Reading.TheVariants.{Good, Ends}
use Rattle.bus_formats.specs.declared.form.Shape.{Shape}
use Rattle.bus_formats.specs.declared.plan.Kind.{Kind}
use Rattle.bus_formats.specs.declared.plan.Kind.TheVariants.{Receive, Transmit, Relay, Mode}
use Rattle.bus_model.specs.Endings.{Passing, Ending, second_read, second_ending, good_ending, doubt_ending, read_ending, first_read, heard_ending, ending_by, ending_of}
use Rattle.bus_model.specs.Strikes.{ShownAnswer, burst_end}
use Rattle.bus_formats.specs.Times.{taking_over}
use Rattle.bus_law_plans.proofs.Lists.{either}

-- ---- a status that is read as one that passes control

-- a status alone that accepts
pub record Accepts (slots : List (Option Word)) : Type 0 where
  pub slot : Option Word
  pub slots_are : slots ≡ slot ∷ []
  pub status : ℕ
  pub status_is : command_in slot ≡ Some status
  pub acceptance : (flags_in status).acceptance ≡ true

abbrev WhenPassed : (Option ℕ → Type 0) → Reading → Type 0
WhenPassed P (Ends Passed status) = P status
WhenPassed P _ = Unit {0}

module _ (part : Part) (alone : Option ℕ) where
  -- the status alone accepts
  abbrev pub Tells : Option ℕ → Type 0
  Tells status = (s : ℕ) × (alone ≡ Some s) × ((flags_in s).acceptance ≡ true)

  abbrev Ok : Reading → Type 0
  Ok r = WhenPassed Tells r

  refusal-ok : (o : Option ℕ) → Ok (read_refusal part o)
  refusal-ok None = tt
  refusal-ok (Some status) = either Ok (flags_in status).message_error (Ends (Illegal part) (Some status)) (Ends (BadReply part) None) tt tt

  accepting-ok : (status : ℕ) (b : Bool) → alone ≡ Some status → (flags_in status).acceptance ≡ b →
      Ok (if b then Ends Passed (Some status) else Ends Declined (Some status))
  accepting-ok status true is accepts = (status, is, accepts)
  accepting-ok status false is accepts = tt

  offer-ok : (o : Option ℕ) → alone ≡ o → Ok (read_offer part o)
  offer-ok None is = tt
  offer-ok (Some status) is =
      either Ok (flags_in status).message_error (Ends (Illegal part) (Some status)) _ tt
      (accepting-ok status (flags_in status).acceptance is refl)

  status-ok : (o : Option ℕ) → Ok (read_status part o)
  status-ok None = tt
  status-ok (Some status) = tt

  mode-ok : (reports : Bool) (full : Option ℕ) → Ok (read_mode part reports full alone)
  mode-ok reports None = refusal-ok alone
  mode-ok reports (Some status) =
      either Ok (not (flags_in status).message_error || reports) (Good status) (read_refusal part alone) tt (refusal-ok alone)

  full-ok : (full : Option ℕ) → Ok (read_full part full)
  full-ok None = tt
  full-ok (Some status) =
      either Ok ((flags_in status).message_error || (flags_in status).busy) (Ends (BadReply part) None) (Good status) tt tt

  data-ok : (o full : Option ℕ) → Ok (read_data part o full)
  data-ok None full = full-ok full
  data-ok (Some status) full =
      either Ok (flags_in status).message_error (Ends (Illegal part) (Some status)) _ tt
      (either Ok (flags_in status).busy (Ends (Busy part) (Some status)) (read_full part full) tt (full-ok full))

  kind-ok : (kind : Kind) (full : Option ℕ) → Ok (read_by part kind alone full)
  kind-ok (Receive to sub words) full = data-ok alone full
  kind-ok (Transmit from sub count) full = data-ok alone full
  kind-ok (Relay from from_sub to to_sub count) full = data-ok alone full
  kind-ok (Mode to mode_sub transmit code word) full =
      either Ok (code == dynamic_bus_control) (read_offer part alone) _ (offer-ok alone refl)
      (either Ok (transmit && (code == transmit_status_word)) (read_status part alone)
      (read_mode part (transmit && (code == transmit_last_command)) full alone) (status-ok alone)
      (mode-ok (transmit && (code == transmit_last_command)) full))

from-command : (address : ℕ) (o : Option ℕ) (s : ℕ) → status_from address o ≡ Some s → o ≡ Some s
from-command address None s is = absurd (none-some s is)
from-command address (Some bits) s is = by-test ((address_of bits == address) && is_clean bits) is
  where
    by-test : (b : Bool) → (if b then Some bits else None) ≡ Some s → Some bits ≡ Some s
    by-test true h = h
    by-test false h = absurd (none-some s h)

alone-accepts : (shape : Shape) (slots : List (Option Word)) (rest s : ℕ) → status_alone shape slots rest ≡ Some s → (flags_in s).acceptance ≡ true → Accepts slots
alone-accepts shape [] rest s is accepts = absurd (none-some s is)
alone-accepts shape (slot ∷ []) zero s is accepts =
    record { slot = slot; slots_are = refl; status = s; status_is = from-command shape.address (command_in slot) s is; acceptance = accepts }
alone-accepts shape (slot ∷ []) (suc n) s is accepts = absurd (none-some s is)
alone-accepts shape (slot ∷ other ∷ slots) rest s is accepts = absurd (none-some s is)

shape-accepts : (part : Part) (kind : Kind) (shape : Option Shape) (slots : List (Option Word)) (rest : ℕ) (status : Option ℕ) →
    read_shape part kind shape slots rest ≡ Ends Passed status → Accepts slots
shape-accepts part kind None slots rest status is = cc
shape-accepts part kind (Some shape) slots rest status is =
    let told = subst (WhenPassed (Tells part (status_alone shape slots rest))) is
    (kind-ok part (status_alone shape slots rest) kind (status_full shape slots rest)) in
    alone-accepts shape slots rest told.0 told.1 told.2

-- an answer that is read as Passed is a status alone that accepts
pub read-accepts : (kind : Kind) (slots : List (Option Word)) (rest : ℕ) (status : Option ℕ) → read_answer kind First slots rest ≡ Ends Passed status → Accepts slots
read-accepts kind slots rest status is = shape-accepts First kind (shape_in First (answers_of kind)) slots rest status is

-- ---- the ending

-- control passes by this answer
pub record IsPassedBy (kind : Kind) (first : Option ShownAnswer) (p : Passing) : Type 0 where
  pub answer : ShownAnswer
  pub first_is : first ≡ Some answer
  pub address : p.address ≡ answer.sent.address
  pub tick : p.tick ≡ burst_end answer.burst + taking_over
  pub accepted : (answer.sent.acceptance ≡ true) ⊎ Accepts answer.burst.slots

abbrev Passes : Kind → Option ShownAnswer → Ending → Type 0
Passes kind first ending = (p : Passing) → ending.passes ≡ Some p → IsPassedBy kind first p

module _ (k : ℕ) (kind : Kind) where
  second-passes : (first : Option ShownAnswer) (status end : ℕ) (reading : Reading) → Passes kind first (second_read k kind status end reading)
  second-passes first status end (Good second) p h = absurd (none-some p h)
  second-passes first status end (Ends outcome second) p h = absurd (none-some p h)

  wait-passes : (first : Option ShownAnswer) (status end : ℕ) (second : Option ShownAnswer) → Passes kind first (second_ending k kind status end second)
  wait-passes first status end None p h = absurd (none-some p h)
  wait-passes first status end (Some second) p h = second-passes first status _ _ p h

  good-passes : (status : ℕ) (first : ShownAnswer) (second : Option ShownAnswer) (shape : Option Shape) →
      Passes kind (Some first) (good_ending k kind status first second shape)
  good-passes status first second None p h = absurd (none-some p h)
  good-passes status first second (Some shape) p h = wait-passes (Some first) status _ second p h

  by-answer : (first : ShownAnswer) (p : Passing) → Some record { address = first.sent.address; tick = burst_end first.burst + taking_over } ≡ Some p →
      (first.sent.acceptance ≡ true) ⊎ Accepts first.burst.slots → IsPassedBy kind (Some first) p
  by-answer first p is accepted =
      let same : record { address = first.sent.address; tick = burst_end first.burst + taking_over } ≡ p = same_Some _ _ is in
      record { answer = first; first_is = refl; address = sym (ap (λ (x : Passing). x.address) same); tick = sym (ap (λ (x : Passing). x.tick) same); accepted = accepted }

  doubt-passes : (first : ShownAnswer) (acceptance : Bool) → first.sent.acceptance ≡ acceptance → Passes kind (Some first) (doubt_ending k kind first acceptance)
  doubt-passes first true accepts p h = by-answer first p h (inl accepts)
  doubt-passes first false accepts p h = absurd (none-some p h)

  reading-passes : (first : ShownAnswer) (offer : Bool) (outcome : Outcome) (status : Option ℕ) → (outcome ≡ Passed → Accepts first.burst.slots) →
      Passes kind (Some first) (read_ending k kind first offer outcome status)
  reading-passes first offer Passed status accepts p h = by-answer first p h (inr (accepts refl))
  reading-passes first true (BadReply part) status accepts p h = doubt-passes first first.sent.acceptance refl p h
  reading-passes first false (BadReply part) status accepts p h = absurd (none-some p h)
  reading-passes first offer Clear status accepts p h = absurd (none-some p h)
  reading-passes first offer Sent status accepts p h = absurd (none-some p h)
  reading-passes first offer Declined status accepts p h = absurd (none-some p h)
  reading-passes first offer (Illegal part) status accepts p h = absurd (none-some p h)
  reading-passes first offer (Busy part) status accepts p h = absurd (none-some p h)
  reading-passes first offer (NoResponse part) status accepts p h = absurd (none-some p h)
  reading-passes first offer Abandoned status accepts p h = absurd (none-some p h)
  reading-passes first offer Yielded status accepts p h = absurd (none-some p h)

  first-passes : (first : ShownAnswer) (second : Option ShownAnswer) (reading : Reading) →
      read_answer kind First first.burst.slots first.burst.rest ≡ reading → Passes kind (Some first) (first_read k kind first second reading)
  first-passes first second (Good status) is p h = good-passes status first second _ p h
  first-passes first second (Ends outcome status) is p h =
      reading-passes first _ outcome status
      (λ passed. read-accepts kind first.burst.slots first.burst.rest status (is ∙ ap (λ o. Ends o status) passed)) p h

  heard-passes : (first : ShownAnswer) (second : Option ShownAnswer) (abandon : Option ℕ) → Passes kind (Some first) (heard_ending k kind first second abandon)
  heard-passes first second (Some tick) p h = absurd (none-some p h)
  heard-passes first second None p h = first-passes first second _ refl p h

  expected-passes : (abandon : Option ℕ) (end : ℕ) (first second : Option ShownAnswer) (shape : Option Shape) →
      Passes kind first (ending_by k kind abandon end first second shape)
  expected-passes abandon end first second None p h = absurd (none-some p h)
  expected-passes abandon end None second (Some shape) p h = absurd (none-some p h)
  expected-passes abandon end (Some first) second (Some shape) p h = heard-passes first second _ p h

-- where a message passes control
pub ending-passes : (k : ℕ) (item : ItemData) (end : ℕ) (first second : Option ShownAnswer) (p : Passing) →
    (ending_of k item end first second).passes ≡ Some p → IsPassedBy item.kind first p
ending-passes k item end first second p h = expected-passes k item.kind item.abandon end first second (answers_of item.kind).first p h
