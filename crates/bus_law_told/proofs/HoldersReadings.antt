-- No reading of an answer gives control away, where the message doesn't offer it.
use Rattle.std.proofs.Common.{◌≡◌, ℕ, suc, Bool, true, false, List, Option, Some, None, refl, subst}
use Rattle.std.specs.Prelude.{◌&&◌, ◌||◌, ◌==◌, not, if◌then◌else◌, ⊤}
use Rattle.bus_base.specs.declared.samples.Part.{Part}
use Rattle.bus_base.specs.declared.samples.Part.TheVariants as parts
use Rattle.bus_base.specs.declared.samples.Channel.{Channel}
use Rattle.bus_words.specs.Fields.{flags_in}
use Rattle.bus_words.specs.declared.word.Word.{Word}
use Rattle.bus_formats.specs.Codes.{dynamic_bus_control, transmit_status_word, transmit_last_command}
use Rattle.bus_formats.specs.Forms.{answers_of}
use Rattle.bus_formats.specs.Times.{settling_quiet}
use Rattle.bus_formats.specs.Readings.{bad_reply, read_refusal, read_offer, read_status, read_mode, read_full, read_data, read_by, read_shape, read_answer, shape_in, status_alone, status_full}
use Rattle.bus_formats.specs.declared.form.Outcome.{Outcome}
use Rattle.bus_formats.specs.declared.form.Outcome.TheVariants.{Illegal, Busy, BadReply}
use Rattle.bus_formats.specs.declared.form.Reading.{Reading}
use Rattle.bus_formats.specs.declared.form.Reading.TheVariants.{Good, Ends}
use Rattle.bus_formats.specs.declared.form.Shape.{Shape}
use Rattle.bus_formats.specs.declared.plan.Kind.{Kind}
use Rattle.bus_formats.specs.declared.plan.Kind.TheVariants.{Receive, Transmit, Relay, Mode}
use Rattle.bus_model.specs.Attempts.{is_offer}
use Rattle.bus_model.specs.Course.{gives}
use Rattle.bus_model.specs.Starts.{usual, needed_quiet, opening_after}

-- after this outcome control stays, and the next message waits until nobody can still answer
pub record EndsBadly (outcome : Outcome) : Type 0 where
  pub keeps : gives outcome ≡ false
  pub opens : (c : Channel) (tick : ℕ) → opening_after outcome c tick ≡ usual settling_quiet (suc tick)
  pub needs : needed_quiet outcome ≡ settling_quiet

-- a reading with which control stays
abbrev Keeps : Reading → Type 0
Keeps (Good status) = ⊤
Keeps (Ends outcome status) = EndsBadly outcome

illegal-ends : (part : Part) → EndsBadly (Illegal part)
illegal-ends part = record { keeps = refl; opens = λ c tick. refl; needs = refl }

busy-ends : (part : Part) → EndsBadly (Busy part)
busy-ends part = record { keeps = refl; opens = λ c tick. refl; needs = refl }

bad-ends : (part : Part) → EndsBadly (BadReply part)
bad-ends part = record { keeps = refl; opens = λ c tick. refl; needs = refl }

-- one of two
either : (b : Bool) (x y : Reading) → Keeps x → Keeps y → Keeps (if b then x else y)
either true x y first second = first
either false x y first second = second

module _ (part : Part) where
  refusal-keeps : (alone : Option ℕ) → Keeps (read_refusal part alone)
  refusal-keeps None = bad-ends part
  refusal-keeps (Some status) = either (flags_in status).message_error (Ends (Illegal part) (Some status)) (bad_reply part) (illegal-ends part) (bad-ends part)

  status-keeps : (alone : Option ℕ) → Keeps (read_status part alone)
  status-keeps None = bad-ends part
  status-keeps (Some status) = tt

  mode-keeps : (reports : Bool) (full alone : Option ℕ) → Keeps (read_mode part reports full alone)
  mode-keeps reports None alone = refusal-keeps alone
  mode-keeps reports (Some status) alone =
      either (not (flags_in status).message_error || reports) (Good status) (read_refusal part alone) tt (refusal-keeps alone)

  full-keeps : (full : Option ℕ) → Keeps (read_full part full)
  full-keeps None = bad-ends part
  full-keeps (Some status) = either ((flags_in status).message_error || (flags_in status).busy) (bad_reply part) (Good status) (bad-ends part) tt

  data-keeps : (alone full : Option ℕ) → Keeps (read_data part alone full)
  data-keeps None full = full-keeps full
  data-keeps (Some status) full =
      either (flags_in status).message_error (Ends (Illegal part) (Some status))
      (if (flags_in status).busy then Ends (Busy part) (Some status) else read_full part full) (illegal-ends part)
      (either (flags_in status).busy (Ends (Busy part) (Some status)) (read_full part full) (busy-ends part) (full-keeps full))

  -- the answer to an offer isn't looked at
  no-offer : (b : Bool) (x y : Reading) → b ≡ false → Keeps y → Keeps (if b then x else y)
  no-offer b x y off rest = rw off rest

  by-keeps : (kind : Kind) (alone full : Option ℕ) → is_offer kind ≡ false → Keeps (read_by part kind alone full)
  by-keeps (Receive to sub words) alone full off = data-keeps alone full
  by-keeps (Transmit from sub count) alone full off = data-keeps alone full
  by-keeps (Relay from from_sub to to_sub count) alone full off = data-keeps alone full
  by-keeps (Mode to mode_sub transmit code word) alone full off =
      let reports = transmit && (code == transmit_last_command) in
      let asks = transmit && (code == transmit_status_word) in
      no-offer (code == dynamic_bus_control) (read_offer part alone) (if asks then read_status part alone else read_mode part reports full alone) off
      (either asks (read_status part alone) (read_mode part reports full alone) (status-keeps alone) (mode-keeps reports full alone))

  shape-keeps : (kind : Kind) (shape : Option Shape) (slots : List (Option Word)) (rest : ℕ) → is_offer kind ≡ false → Keeps (read_shape part kind shape slots rest)
  shape-keeps kind None slots rest off = bad-ends part
  shape-keeps kind (Some shape) slots rest off = by-keeps kind (status_alone shape slots rest) (status_full shape slots rest) off

-- of a message that offers no control
pub reading-ends : (kind : Kind) (part : Part) (slots : List (Option Word)) (rest : ℕ) (outcome : Outcome) (status : Option ℕ) → is_offer kind ≡ false →
    read_answer kind part slots rest ≡ Ends outcome status → EndsBadly outcome
reading-ends kind part slots rest outcome status off reads =
    subst Keeps reads (shape-keeps part kind (shape_in part (answers_of kind)) slots rest off)

pub reading-keeps : (kind : Kind) (part : Part) (slots : List (Option Word)) (rest : ℕ) (outcome : Outcome) (status : Option ℕ) → is_offer kind ≡ false →
    read_answer kind part slots rest ≡ Ends outcome status → gives outcome ≡ false
reading-keeps kind part slots rest outcome status off reads = (reading-ends kind part slots rest outcome status off reads).keeps

-- of the second answer of any message
second-of : (kind : Kind) (slots : List (Option Word)) (rest : ℕ) → Keeps (read_answer kind parts.Second slots rest)
second-of (Receive to sub words) slots rest = bad-ends parts.Second
second-of (Transmit from sub count) slots rest = bad-ends parts.Second
second-of (Relay from from_sub to to_sub count) slots rest =
    shape-keeps parts.Second (Relay from from_sub to to_sub count) (answers_of (Relay from from_sub to to_sub count)).second slots rest refl
second-of (Mode to mode_sub transmit code word) slots rest = bad-ends parts.Second

pub second-ends-so : (kind : Kind) (slots : List (Option Word)) (rest : ℕ) (outcome : Outcome) (status : Option ℕ) →
    read_answer kind parts.Second slots rest ≡ Ends outcome status → EndsBadly outcome
second-ends-so kind slots rest outcome status reads = subst Keeps reads (second-of kind slots rest)

pub second-keeps : (kind : Kind) (slots : List (Option Word)) (rest : ℕ) (outcome : Outcome) (status : Option ℕ) →
    read_answer kind parts.Second slots rest ≡ Ends outcome status → gives outcome ≡ false
second-keeps kind slots rest outcome status reads = (second-ends-so kind slots rest outcome status reads).keeps
