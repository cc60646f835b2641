-- What each answer of the program shows: how it came about, what was read, and what was written.
use Rattle.std.specs.Prelude.{◌≡◌, ℕ, ◌≤◌, List, [], ◌∷◌, Option}
use Rattle.bus_refusals.specs.Refusals.{words_refused, WroteDue}
use Rattle.bus_monitor.specs.Scribes.{ListingHasCause}
use Rattle.bus_monitor.specs.declared.listing.Listing.{Listing}
use Rattle.bus_monitor.specs.declared.listing.Listing.TheVariants.{Done, Refused, ReadFault, WriteFault}
use Rattle.bus_wave.specs.Written.{IsDrawn}

-- 0 where the capture was read to its end and its whole wave was written; 3 where it is refused, and the wave of the ticks before and the
-- refusal's comment were written; 4 where a read failed, and the wave of the ticks before was written; 5 where a write failed
abbrev pub status_of : Listing → ℕ
status_of (Done ticks) = 0
status_of (Refused refusal) = 3
status_of ReadFault = 4
status_of WriteFault = 5

module _ (left0 left1 held0 held1 : Option (List ℕ)) (source0 source1 sink0 sink1 : ℕ) (status : ℕ) where
  -- nothing is read, and the line is written with 2, or a front of it with 5
  pub record EndsUnmeant : Type 0 where
    pub unread : left1 ≡ left0
    pub untried : source1 ≡ source0
    pub later : sink0 ≤ sink1
    pub wrote : WroteDue held0 held1 sink0 sink1 status 2 words_refused

  -- the capture was drawn, with the status of how that ended; never for want of memory
  pub record EndsDrawn : Type 0 where
    pub ending : Listing
    pub status_is : status ≡ status_of ending
    pub drawn : IsDrawn left0 left1 held0 held1 ending
    pub cause : ListingHasCause source0 source1 sink0 sink1 ending

  -- what the program does with these words: no word has a meaning
  abbrev pub Ends : List (List ℕ) → Type 0
  Ends [] = EndsDrawn
  Ends (word ∷ words) = EndsUnmeant
