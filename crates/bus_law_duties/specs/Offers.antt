-- How the answer to an offer of control is read (dynamic bus control, 4.3.3.5.1.7.1).
use Rattle.std.specs.Prelude.{◌≡◌, ◌≢◌, ℕ, Bool, true, false, if◌then◌else◌, List, [], Option, Some, None}
use Rattle.bus_base.specs.declared.samples.Part.TheVariants.{First}
use Rattle.bus_words.specs.Fields.{flags_in}
use Rattle.bus_words.specs.declared.word.Word.{Word}
use Rattle.bus_formats.specs.declared.form.Outcome.TheVariants.{Declined, Passed, Illegal, BadReply}
use Rattle.bus_formats.specs.declared.form.Reading.{Reading}
use Rattle.bus_formats.specs.declared.form.Reading.TheVariants.{Ends}
use Rattle.bus_law_duties.specs.Words.{whole_slots, with_data}

-- what a status means that stands alone: control passes where it accepts; else the offer was illegal, or is declined
abbrev pub meant_by : ℕ → Bool → Reading
meant_by status true = Ends Passed (Some status)
meant_by status false = if (flags_in status).message_error then Ends (Illegal First) (Some status) else Ends Declined (Some status)

-- the slots of an answer to an offer, which is a status, are read so: as it was meant where it stands alone, else as a bad reply
pub record IsReadAsMeant (status : ℕ) (acceptance : Bool) (slots : List (Option Word)) (reading : Reading) : Type 0 where
  pub alone : slots ≡ whole_slots (with_data status []) → reading ≡ meant_by status acceptance
  pub otherwise : slots ≢ whole_slots (with_data status []) → reading ≡ Ends (BadReply First) None
