-- A message is abandoned only where its answer runs on: no answer is read so.
use Rattle.std.proofs.Common.{◌≡◌, ℕ, Bool, true, false, List, Option, Some, None, refl, subst}
use Rattle.std.specs.Prelude.{IsSome, not, ◌&&◌, ◌||◌, ◌==◌}
use Rattle.bus_base.specs.declared.samples.Channel.{Channel}
use Rattle.bus_base.specs.declared.samples.Part.{Part}
use Rattle.bus_base.specs.declared.samples.Part.TheVariants.{First, Second}
use Rattle.bus_words.specs.Fields.{flags_in}
use Rattle.bus_words.specs.declared.word.Word.{Word}
use Rattle.bus_formats.specs.Codes.{dynamic_bus_control, transmit_status_word, transmit_last_command}
use Rattle.bus_formats.specs.Forms.{answers_of}
use Rattle.bus_formats.specs.Plans.{ItemData}
use Rattle.bus_formats.specs.Readings.{status_alone, status_full, read_refusal, read_offer, read_status, read_mode, read_full, read_data, read_by, read_shape, read_answer, shape_in}
use Rattle.bus_formats.specs.declared.form.Outcome.{Outcome}
use Rattle.bus_formats.specs.declared.form.Outcome.TheVariants.{Clear, Sent, Declined, Passed, Illegal, Busy, NoResponse, BadReply, Abandoned, Yielded}
use Rattle.bus_formats.specs.declared.form.Reading.{Reading}
use Rattle.bus_formats.specs.declared.form.Reading.TheVariants.{Good, Ends}
use Rattle.bus_formats.specs.declared.form.Shape.{Shape}
use Rattle.bus_formats.specs.declared.plan.Kind.{Kind}
use Rattle.bus_formats.specs.declared.plan.Kind.TheVariants.{Receive, Transmit, Relay, Mode}
use Rattle.bus_model.specs.Attempts.{is_offer}
use Rattle.bus_model.specs.Endings.{Ending, second_read, second_ending, good_ending, doubt_ending, read_ending, first_read, abandoned_at, heard_ending, ending_by, ending_of}
use Rattle.bus_model.specs.Starts.{superseding, opening_after}
use Rattle.bus_model.specs.Strikes.{ShownAnswer, burst_end}
use Rattle.bus_law_plans.proofs.Lists.{either}

-- ---- no answer is read as abandoned

abbrev Reads : Reading → Type 0
Reads (Ends Abandoned status) = ⊥
Reads _ = Unit {0}

module _ (part : Part) (alone : Option ℕ) where
  refusal-reads : Reads (read_refusal part alone)
  refusal-reads = by-status alone
    where
      by-status : (o : Option ℕ) → Reads (read_refusal part o)
      by-status None = tt
      by-status (Some status) = either Reads (flags_in status).message_error (Ends (Illegal part) (Some status)) (Ends (BadReply part) None) tt tt

  offer-reads : (o : Option ℕ) → Reads (read_offer part o)
  offer-reads None = tt
  offer-reads (Some status) =
      either Reads (flags_in status).message_error (Ends (Illegal part) (Some status)) _ tt
      (either Reads (flags_in status).acceptance (Ends Passed (Some status)) (Ends Declined (Some status)) tt tt)

  status-reads : (o : Option ℕ) → Reads (read_status part o)
  status-reads None = tt
  status-reads (Some status) = tt

  mode-reads : (reports : Bool) (full : Option ℕ) → Reads (read_mode part reports full alone)
  mode-reads reports None = refusal-reads
  mode-reads reports (Some status) =
      either Reads (not (flags_in status).message_error || reports) (Good status) (read_refusal part alone) tt refusal-reads

  full-reads : (full : Option ℕ) → Reads (read_full part full)
  full-reads None = tt
  full-reads (Some status) =
      either Reads ((flags_in status).message_error || (flags_in status).busy) (Ends (BadReply part) None) (Good status) tt tt

  data-reads : (o full : Option ℕ) → Reads (read_data part o full)
  data-reads None full = full-reads full
  data-reads (Some status) full =
      either Reads (flags_in status).message_error (Ends (Illegal part) (Some status)) _ tt
      (either Reads (flags_in status).busy (Ends (Busy part) (Some status)) (read_full part full) tt (full-reads full))

  kind-reads : (kind : Kind) (full : Option ℕ) → Reads (read_by part kind alone full)
  kind-reads (Receive to sub words) full = data-reads alone full
  kind-reads (Transmit from sub count) full = data-reads alone full
  kind-reads (Relay from from_sub to to_sub count) full = data-reads alone full
  kind-reads (Mode to mode_sub transmit code word) full =
      either Reads (code == dynamic_bus_control) (read_offer part alone) _ (offer-reads alone)
      (either Reads (transmit && (code == transmit_status_word)) (read_status part alone)
      (read_mode part (transmit && (code == transmit_last_command)) full alone) (status-reads alone)
      (mode-reads (transmit && (code == transmit_last_command)) full))

shape-reads : (part : Part) (kind : Kind) (shape : Option Shape) (slots : List (Option Word)) (rest : ℕ) → Reads (read_shape part kind shape slots rest)
shape-reads part kind None slots rest = tt
shape-reads part kind (Some shape) slots rest = kind-reads part (status_alone shape slots rest) kind (status_full shape slots rest)

not-read : (kind : Kind) (part : Part) (slots : List (Option Word)) (rest : ℕ) (outcome : Outcome) (status : Option ℕ) →
    read_answer kind part slots rest ≡ Ends outcome status → outcome ≡ Abandoned → ⊥
not-read kind part slots rest outcome status is same =
    subst (λ o. Reads (Ends o status)) same (subst Reads is (shape-reads part kind (shape_in part (answers_of kind)) slots rest))

-- ---- the ending

abbrev Abandons : Ending → Type 0
Abandons ending = ending.ended.outcome ≡ Abandoned → IsSome ending.runs_on

module _ (k : ℕ) (kind : Kind) where
  second-abandons : (status end : ℕ) (reading : Reading) → ((o : Outcome) (s : Option ℕ) → reading ≡ Ends o s → o ≡ Abandoned → ⊥) →
      Abandons (second_read k kind status end reading)
  second-abandons status end (Good second) never is = cc
  second-abandons status end (Ends outcome second) never is = absurd (never outcome second refl is)

  wait-abandons : (status end : ℕ) (second : Option ShownAnswer) → Abandons (second_ending k kind status end second)
  wait-abandons status end None is = cc
  wait-abandons status end (Some second) is =
      second-abandons status (burst_end second.burst) (read_answer kind Second second.burst.slots second.burst.rest)
      (not-read kind Second second.burst.slots second.burst.rest) is

  good-abandons : (status : ℕ) (first : ShownAnswer) (second : Option ShownAnswer) (shape : Option Shape) → Abandons (good_ending k kind status first second shape)
  good-abandons status first second None is = cc
  good-abandons status first second (Some shape) is = wait-abandons status (burst_end first.burst) second is

  doubt-abandons : (first : ShownAnswer) (acceptance : Bool) → Abandons (doubt_ending k kind first acceptance)
  doubt-abandons first true is = cc
  doubt-abandons first false is = cc

  reading-abandons : (first : ShownAnswer) (offer : Bool) (outcome : Outcome) (status : Option ℕ) → (outcome ≡ Abandoned → ⊥) →
      Abandons (read_ending k kind first offer outcome status)
  reading-abandons first offer Passed status never is = cc
  reading-abandons first true (BadReply part) status never is = doubt-abandons first first.sent.acceptance is
  reading-abandons first false (BadReply part) status never is = cc
  reading-abandons first offer Clear status never is = cc
  reading-abandons first offer Sent status never is = cc
  reading-abandons first offer Declined status never is = cc
  reading-abandons first offer (Illegal part) status never is = cc
  reading-abandons first offer (Busy part) status never is = cc
  reading-abandons first offer (NoResponse part) status never is = cc
  reading-abandons first offer Abandoned status never is = absurd (never refl)
  reading-abandons first offer Yielded status never is = cc

  first-abandons : (first : ShownAnswer) (second : Option ShownAnswer) (reading : Reading) → ((o : Outcome) (s : Option ℕ) → reading ≡ Ends o s → o ≡ Abandoned → ⊥) →
      Abandons (first_read k kind first second reading)
  first-abandons first second (Good status) never is = good-abandons status first second (answers_of kind).second is
  first-abandons first second (Ends outcome status) never is = reading-abandons first (is_offer kind) outcome status (never outcome status refl) is

  heard-abandons : (first : ShownAnswer) (second : Option ShownAnswer) (tick : Option ℕ) → Abandons (heard_ending k kind first second tick)
  heard-abandons first second (Some tick) is = refl
  heard-abandons first second None is =
      first-abandons first second (read_answer kind First first.burst.slots first.burst.rest) (not-read kind First first.burst.slots first.burst.rest) is

  by-shape : (abandon : Option ℕ) (end : ℕ) (first second : Option ShownAnswer) (shape : Option Shape) → Abandons (ending_by k kind abandon end first second shape)
  by-shape abandon end first second None is = cc
  by-shape abandon end None second (Some shape) is = cc
  by-shape abandon end (Some first) second (Some shape) is = heard-abandons first second (abandoned_at k kind abandon end first) is

-- an abandoned message leaves its answer
pub ending-abandons : (k : ℕ) (item : ItemData) (end : ℕ) (first second : Option ShownAnswer) →
    (ending_of k item end first second).ended.outcome ≡ Abandoned → IsSome (ending_of k item end first second).runs_on
ending-abandons k item end first second is = by-shape k item.kind item.abandon end first second (answers_of item.kind).first is

-- the next message supersedes one that was abandoned
pub opens-abandoned : (outcome : Outcome) (channel : Channel) (tick at : ℕ) (other : Channel) → opening_after outcome channel tick ≡ superseding at other →
    outcome ≡ Abandoned
opens-abandoned Clear channel tick at other is = cc
opens-abandoned Sent channel tick at other is = cc
opens-abandoned Declined channel tick at other is = cc
opens-abandoned Passed channel tick at other is = cc
opens-abandoned (Illegal part) channel tick at other is = cc
opens-abandoned (Busy part) channel tick at other is = cc
opens-abandoned (NoResponse part) channel tick at other is = cc
opens-abandoned (BadReply part) channel tick at other is = cc
opens-abandoned Abandoned channel tick at other is = refl
opens-abandoned Yielded channel tick at other is = cc
