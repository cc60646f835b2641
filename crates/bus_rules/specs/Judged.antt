-- What each answer of a judgement says of the bytes that were read, of the sink, and of the counts of faults.
use Rattle.std.specs.Prelude.{◌≡◌, ℕ, List, length, reverse, Option}
use Rattle.bus_capture.specs.Readings.{ticks_in}
use Rattle.bus_line.specs.declared.cutter.TheConstants.{LAG}
use Rattle.bus_monitor.specs.Scribes.{IsListed, ListingHasCause}
use Rattle.bus_monitor.specs.declared.listing.Listing.{Listing}
use Rattle.bus_monitor.specs.declared.listing.Listing.TheVariants as listings
use Rattle.bus_rules.specs.Breaches.{breaches}
use Rattle.bus_rules.specs.JudgeTexts.{known_lines, judge_text}
use Rattle.bus_rules.specs.declared.judgement.Judgement.{Judgement}
use Rattle.bus_rules.specs.declared.judgement.Judgement.TheVariants.{Done, Refused, ReadFault, WriteFault}

-- what a listing of the breaches came to
abbrev pub listing_of : Judgement → Listing
listing_of (Done ticks found) = listings.Done ticks
listing_of (Refused refusal) = listings.Refused refusal
listing_of ReadFault = listings.ReadFault
listing_of WriteFault = listings.WriteFault

-- the number of breaches of the ticks in these bytes
abbrev pub Counts : List ℕ → Judgement → Type 0
Counts bytes (Done ticks found) = found ≡ length (breaches LAG (ticks_in bytes))
Counts bytes _ = Unit {0}

-- the judgement of what was read of the source is written as a listing is, its lines those of the breaches
pub record IsJudged (before left first held : Option (List ℕ)) (result : Judgement) : Type 0 where
  pub listed : IsListed (known_lines LAG) (judge_text LAG) before left first held (listing_of result)
  pub counted : Counts (reverse listed.input) result

-- a fault has its cause in the count of the source's or the sink's faults
abbrev pub JudgementHasCause : ℕ → ℕ → ℕ → ℕ → Judgement → Type 0
JudgementHasCause source source' sink sink' result = ListingHasCause source source' sink sink' (listing_of result)
