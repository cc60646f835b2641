-- How the answer to an offer of control may be read (dynamic bus control, MIL-STD-1553B 4.3.3.5.1.7.1).
use Rattle.std.specs.Prelude.{◌≡◌, ◌⊎◌, ℕ, true, false, Some, None}
use Rattle.bus_base.specs.declared.samples.Part.TheVariants.{First}
use Rattle.bus_formats.specs.declared.form.Outcome.TheVariants.{Declined, Passed, Illegal, BadReply}
use Rattle.bus_formats.specs.declared.form.Reading.{Reading}
use Rattle.bus_formats.specs.declared.form.Reading.TheVariants.{Ends}
use Rattle.bus_model.specs.Strikes.{Answer}

-- badly, whatever was meant; as one that accepts; or as one that declines, or that the offer was illegal
abbrev pub IsOfferRead : Answer → Reading → Type 0
IsOfferRead answer reading =
    (reading ≡ Ends (BadReply First) None)
    ⊎ (((status : ℕ) × (answer.acceptance ≡ true) × (reading ≡ Ends Passed (Some status)))
    ⊎ ((status : ℕ) × (answer.acceptance ≡ false) × ((reading ≡ Ends (Illegal First) (Some status)) ⊎ (reading ≡ Ends Declined (Some status)))))
