-- An offer of control that was answered badly, and answers that accept control (MIL-STD-1553B 4.3.3.5.1.7.1).
use Rattle.std.specs.Prelude.{◌≡◌, ℕ, Bool, true, false, List, Option, Some}
use Rattle.bus_base.specs.declared.samples.Part.{Part}
use Rattle.bus_base.specs.declared.samples.Part.TheVariants.{First}
use Rattle.bus_base.specs.declared.samples.Sample.{Sample}
use Rattle.bus_line.specs.Past.{Burst, end_of, rest_of, end_since}
use Rattle.bus_formats.specs.Forms.{answers_of}
use Rattle.bus_formats.specs.Readings.{read_answer}
use Rattle.bus_formats.specs.declared.form.Outcome.TheVariants.{BadReply}
use Rattle.bus_formats.specs.declared.form.Reading.TheVariants.{Ends}
use Rattle.bus_formats.specs.declared.form.Shape.{Shape}
use Rattle.bus_model.specs.Attempts.{Begun, is_offer}
use Rattle.bus_model.specs.Controller.{reply, whole}
use Rattle.bus_model.specs.Orders.{Duty, owes}

-- an answer that accepts control
abbrev pub is_acceptance : Duty → Bool
is_acceptance (owes words true) = true
is_acceptance _ = false

-- a message offered control, and the burst that answered it was read badly and ended in tick x; past is its channel
pub record IsDoubting (k : ℕ) (begun : Begun) (past : List Sample) (x : ℕ) : Type 0 where
  pub offers : is_offer begun.entry.item.kind ≡ true
  -- the end of its command is known
  pub command_end : ℕ
  pub ended : end_since k past begun.start ≡ Some command_end
  -- it expects an answer
  pub shape : Shape
  pub expects : (answers_of begun.entry.item.kind).first ≡ Some shape
  -- the answer was heard whole, ended in tick x, and is bad
  pub burst : Burst
  pub answered : reply k past command_end ≡ whole burst
  pub part : Part
  pub status : Option ℕ
  pub bad : read_answer begun.entry.item.kind First burst.slots (rest_of burst) ≡ Ends (BadReply part) status
  pub end : end_of burst ≡ x
