-- Where no station offers control, the one that starts doesn't.
use Rattle.std.proofs.Common.{◌≡◌, ℕ, suc, Bool, true, false, List, [], ◌∷◌, Option, Some, None, refl, sym}
use Rattle.std.proofs.lemmas.Option.{none-some}
use Rattle.std.specs.Option.{option_or}
use Rattle.std.specs.Prelude.{◌==◌, if◌then◌else◌}
use Rattle.bus_formats.specs.Plans.{StationData, PlanData}
use Rattle.bus_load.specs.Load.{offer_in_frames, offer_from, first_offer}
use Rattle.bus_load.specs.Offers.{offer_among, any_offer}
use Rattle.bus_load.specs.declared.reckoned.OfferPlace.{OfferPlace}

both-none : (a b : Option OfferPlace) → option_or a b ≡ None → (a ≡ None) × (b ≡ None)
both-none None b is = (refl, is)
both-none (Some x) b is = absurd (none-some x (sym is))

none-from : (address number : ℕ) (stations : List StationData) → offer_among number stations ≡ None → offer_from address number stations ≡ None
none-from address number [] none = refl
none-from address number (station ∷ later) none =
    let both = both-none (offer_in_frames number 1 station.frames) (offer_among (suc number) later) none in
    by-test (station.terminal.address == address) both.0 (none-from address (suc number) later both.1)
  where
    by-test : (b : Bool) → offer_in_frames number 1 station.frames ≡ None → offer_from address (suc number) later ≡ None →
        (if b then offer_in_frames number 1 station.frames else offer_from address (suc number) later) ≡ None
    by-test true here rest = here
    by-test false here rest = rest

pub none-first : (plan : PlanData) → any_offer plan ≡ None → first_offer plan ≡ None
none-first plan none = none-from plan.start 1 plan.stations none
