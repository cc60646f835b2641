-- In which tick a message that offers no control ends: at most 24 ticks after the last of what it shows; and it gives no control away.
use Rattle.std.proofs.Common.{◌≡◌, ℕ, suc, ◌+◌, ◌-◌, ◌≤◌, Bool, true, false, List, Option, Some, None, refl, sym, subst, arith}
use Rattle.std.proofs.lemmas.Bool.Decides.{nat_tests}
use Rattle.std.specs.Prelude.{IfSome, if◌then◌else◌, not, ◌&&◌, ◌||◌, ◌==◌, nat_le}
use Rattle.bus_base.specs.declared.samples.Part.{Part}
use Rattle.bus_base.specs.declared.samples.Part.TheVariants.{First, Second}
use Rattle.bus_words.specs.Fields.{flags_in}
use Rattle.bus_words.specs.declared.word.Word.{Word}
use Rattle.bus_formats.specs.Codes.{dynamic_bus_control, transmit_status_word, transmit_last_command}
use Rattle.bus_formats.specs.Forms.{answers_of}
use Rattle.bus_formats.specs.Readings.{status_alone, status_full, read_refusal, read_offer, read_status, read_mode, read_full, read_data, read_by, read_shape, read_answer, shape_in}
use Rattle.bus_formats.specs.declared.form.Outcome.{Outcome}
use Rattle.bus_formats.specs.declared.form.Outcome.TheVariants.{Clear, Sent, Declined, Passed, Illegal, Busy, NoResponse, BadReply, Abandoned, Yielded}
use Rattle.bus_formats.specs.declared.form.Reading.{Reading}
use Rattle.bus_formats.specs.declared.form.Reading.TheVariants.{Good, Ends}
use Rattle.bus_formats.specs.declared.form.Shape.{Shape}
use Rattle.bus_formats.specs.declared.plan.Kind.{Kind}
use Rattle.bus_formats.specs.declared.plan.Kind.TheVariants.{Receive, Transmit, Relay, Mode}
use Rattle.bus_model.specs.Attempts.{is_offer}
use Rattle.bus_model.specs.Endings.{Ending, second_read, second_ending, good_ending, read_ending, first_read, abandoned_at, heard_ending, ending_by}
use Rattle.bus_model.specs.Strikes.{ShownAnswer, is_faded, burst_end}
use Rattle.bus_law_plans.proofs.Lists.{either}
use Rattle.bus_law_plans.proofs.Ticked.{EndsBy}

-- ---- no answer but that to an offer is read as one that passes control

abbrev NotPassed : Reading → Type 0
NotPassed (Ends Passed status) = ⊥
NotPassed _ = Unit {0}

module _ (part : Part) (alone : Option ℕ) where
  refusal-not : (o : Option ℕ) → NotPassed (read_refusal part o)
  refusal-not None = tt
  refusal-not (Some status) = either NotPassed (flags_in status).message_error (Ends (Illegal part) (Some status)) (Ends (BadReply part) None) tt tt

  status-not : (o : Option ℕ) → NotPassed (read_status part o)
  status-not None = tt
  status-not (Some status) = tt

  mode-not : (reports : Bool) (full : Option ℕ) → NotPassed (read_mode part reports full alone)
  mode-not reports None = refusal-not alone
  mode-not reports (Some status) =
      either NotPassed (not (flags_in status).message_error || reports) (Good status) (read_refusal part alone) tt (refusal-not alone)

  full-not : (full : Option ℕ) → NotPassed (read_full part full)
  full-not None = tt
  full-not (Some status) =
      either NotPassed ((flags_in status).message_error || (flags_in status).busy) (Ends (BadReply part) None) (Good status) tt tt

  data-not : (o full : Option ℕ) → NotPassed (read_data part o full)
  data-not None full = full-not full
  data-not (Some status) full =
      either NotPassed (flags_in status).message_error (Ends (Illegal part) (Some status)) _ tt
      (either NotPassed (flags_in status).busy (Ends (Busy part) (Some status)) (read_full part full) tt (full-not full))

  other-not : (offer : Bool) (r s : Reading) → offer ≡ false → NotPassed s → NotPassed (if offer then r else s)
  other-not offer r s plain h = subst (λ (b : Bool). NotPassed (if b then r else s)) (sym plain) h

  kind-not : (kind : Kind) (full : Option ℕ) → is_offer kind ≡ false → NotPassed (read_by part kind alone full)
  kind-not (Receive to sub words) full plain = data-not alone full
  kind-not (Transmit from sub count) full plain = data-not alone full
  kind-not (Relay from from_sub to to_sub count) full plain = data-not alone full
  kind-not (Mode to mode_sub transmit code word) full plain =
      other-not (code == dynamic_bus_control) (read_offer part alone) _ plain
      (either NotPassed (transmit && (code == transmit_status_word)) (read_status part alone)
      (read_mode part (transmit && (code == transmit_last_command)) full alone) (status-not alone)
      (mode-not (transmit && (code == transmit_last_command)) full))

shape-not : (part : Part) (kind : Kind) (shape : Option Shape) (slots : List (Option Word)) (rest : ℕ) → is_offer kind ≡ false →
    NotPassed (read_shape part kind shape slots rest)
shape-not part kind None slots rest plain = tt
shape-not part kind (Some shape) slots rest plain = kind-not part (status_alone shape slots rest) kind (status_full shape slots rest) plain

-- ---- the ending

-- by this tick, and control stays
pub record IsPrompt (last : ℕ) (ending : Ending) : Type 0 where
  pub tick : suc ending.tick ≤ last + 25
  pub passes : ending.passes ≡ None

module _ (k : ℕ) (low : k ≤ 3) (kind : Kind) (plain : is_offer kind ≡ false) (last : ℕ) where
  second-read : (status end : ℕ) (reading : Reading) → end ≤ last → IsPrompt last (second_read k kind status end reading)
  second-read status end (Good second) within = record { tick = omega (arith, low, within); passes = refl }
  second-read status end (Ends outcome second) within = record { tick = omega (arith, low, within); passes = refl }

  second-wait : (status end : ℕ) (second : Option ShownAnswer) → end ≤ last → EndsBy last second → IsPrompt last (second_ending k kind status end second)
  second-wait status end None within ends = record { tick = omega (arith, within); passes = refl }
  second-wait status end (Some second) within ends =
      second-read status (burst_end second.burst) (read_answer kind Second second.burst.slots second.burst.rest) ends

  good-prompt : (status : ℕ) (first : ShownAnswer) (second : Option ShownAnswer) (shape : Option Shape) → burst_end first.burst ≤ last → EndsBy last second →
      IsPrompt last (good_ending k kind status first second shape)
  good-prompt status first second None within ends = record { tick = omega (arith, low, within); passes = refl }
  good-prompt status first second (Some shape) within ends = second-wait status (burst_end first.burst) second within ends

  reading-prompt : (first : ShownAnswer) (outcome : Outcome) (status : Option ℕ) → NotPassed (Ends outcome status) → burst_end first.burst ≤ last →
      IsPrompt last (read_ending k kind first false outcome status)
  reading-prompt first Passed status never within = absurd never
  reading-prompt first (BadReply part) status never within = record { tick = omega (arith, low, within); passes = refl }
  reading-prompt first Clear status never within = record { tick = omega (arith, low, within); passes = refl }
  reading-prompt first Sent status never within = record { tick = omega (arith, low, within); passes = refl }
  reading-prompt first Declined status never within = record { tick = omega (arith, low, within); passes = refl }
  reading-prompt first (Illegal part) status never within = record { tick = omega (arith, low, within); passes = refl }
  reading-prompt first (Busy part) status never within = record { tick = omega (arith, low, within); passes = refl }
  reading-prompt first (NoResponse part) status never within = record { tick = omega (arith, low, within); passes = refl }
  reading-prompt first Abandoned status never within = record { tick = omega (arith, low, within); passes = refl }
  reading-prompt first Yielded status never within = record { tick = omega (arith, low, within); passes = refl }

  first-prompt : (first : ShownAnswer) (second : Option ShownAnswer) (reading : Reading) → NotPassed reading → burst_end first.burst ≤ last → EndsBy last second →
      IsPrompt last (first_read k kind first second reading)
  first-prompt first second (Good status) never within ends = good-prompt status first second (answers_of kind).second within ends
  first-prompt first second (Ends outcome status) never within ends =
      subst (λ (b : Bool). IsPrompt last (read_ending k kind first b outcome status)) (sym plain) (reading-prompt first outcome status never within)

  abandon-by : (n end high : ℕ) (b c : Bool) → nat_le (end + n) high ≡ b → IfSome (if b && c then Some (end + n - 1) else None) (λ tick. tick ≤ high)
  abandon-by n end high true true is = grind (arith, nat_tests, is)
  abandon-by n end high true false is = tt
  abandon-by n end high false c is = tt

  abandon-low : (abandon : Option ℕ) (end : ℕ) (first : ShownAnswer) → IfSome (abandoned_at k kind abandon end first) (λ tick. tick ≤ burst_end first.burst)
  abandon-low None end first = tt
  abandon-low (Some n) end first =
      abandon-by n end (burst_end first.burst) (nat_le (end + n) (burst_end first.burst)) (not (is_faded first (end + n - 1 - first.burst.start))) refl

  heard-prompt : (first : ShownAnswer) (second : Option ShownAnswer) (abandon : Option ℕ) → IfSome abandon (λ tick. tick ≤ burst_end first.burst) →
      burst_end first.burst ≤ last → EndsBy last second → IsPrompt last (heard_ending k kind first second abandon)
  heard-prompt first second (Some tick) at within ends = record { tick = omega (arith, at, within); passes = refl }
  heard-prompt first second None at within ends =
      first-prompt first second (read_answer kind First first.burst.slots first.burst.rest)
      (shape-not First kind (shape_in First (answers_of kind)) first.burst.slots first.burst.rest plain) within ends

  -- where an answer is expected
  pub expected-prompt : (abandon : Option ℕ) (end : ℕ) (first second : Option ShownAnswer) (shape : Shape) → end ≤ last → EndsBy last first → EndsBy last second →
      IsPrompt last (ending_by k kind abandon end first second (Some shape))
  expected-prompt abandon end None second shape within ends later = record { tick = omega (arith, within); passes = refl }
  expected-prompt abandon end (Some first) second shape within ends later =
      heard-prompt first second (abandoned_at k kind abandon end first) (abandon-low abandon end first) ends later
