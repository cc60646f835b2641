-- What each answer of the top call shows, over what the source had left and the sink held before and after, where they tell it, and over their counts
-- of faults.
use Rattle.std.specs.Prelude.{◌≡◌, ℕ, ◌≤◌, List, ◌++◌, codes, decimal, Option, Some, None}
use Rattle.bus_capture.specs.declared.refusal.CaptureRefusal.{CaptureRefusal}
use Rattle.bus_capture.specs.declared.refusal.CaptureRefusal.TheVariants.{Header, Byte, HalfTick, Long}
use Rattle.bus_line.specs.declared.cutter.TheConstants.{LAG}
use Rattle.bus_monitor.specs.Scribes.{IsListed, ListingHasCause}
use Rattle.bus_monitor.specs.declared.listing.Listing.{Listing}
use Rattle.bus_monitor.specs.declared.listing.Listing.TheVariants.{Done, Refused, ReadFault, WriteFault}
use Rattle.bus_refusals.specs.Refusals.{words_refused, capture_refusal_line, WroteDue}
use Rattle.bus_text.specs.Texts.{line}
use Rattle.bus_table.specs.Tables.{table_lines, table_text}
use Rattle.bus_table.specs.declared.format.Format.{Format}
use Rattle.bus_table.specs.declared.format.Format.TheVariants.{Csv, Json}

-- the object of a refused capture: the name of what is wrong with it, and the offset of its first wrong byte
abbrev pub refused_object : List ℕ → ℕ → List ℕ
refused_object name offset = line (codes "{\"refused\":\"" ++ name ++ codes "\",\"offset\":" ++ decimal offset ++ codes "}")

abbrev pub object_of : CaptureRefusal → List ℕ
object_of (Header offset) = refused_object (codes "header") offset
object_of (Byte offset) = refused_object (codes "byte") offset
object_of (HalfTick offset) = refused_object (codes "half-tick") offset
object_of (Long offset) = refused_object (codes "long") offset

-- the line of a refused capture
abbrev pub refusal_line : Format → CaptureRefusal → List ℕ
refusal_line Csv refusal = capture_refusal_line refusal
refusal_line Json refusal = object_of refusal

module _ (held0 held1 : Option (List ℕ)) (sink0 sink1 : ℕ) (status : ℕ) where
  -- the status after a table that ended so: 0 where it was done, 4 at a read fault, 5 at a write fault; at a refusal its line was written with status
  -- 3, or a front of it with 5
  abbrev pub StatusAfter : Format → Listing → Type 0
  StatusAfter f (Done ticks) = (status ≡ 0) × (held1 ≡ held0) × (sink1 ≡ sink0)
  StatusAfter f (Refused refusal) = WroteDue held0 held1 sink0 sink1 status 3 (refusal_line f refusal)
  StatusAfter f ReadFault = (status ≡ 4) × (held1 ≡ held0) × (sink1 ≡ sink0)
  StatusAfter f WriteFault = (status ≡ 5) × (held1 ≡ held0) × (sink1 ≡ sink0)

module _ (left0 left1 held0 held1 : Option (List ℕ)) (source0 source1 sink0 sink1 : ℕ) (status : ℕ) where
  -- words without a meaning: the status is 2, or 5 where the line's write failed; nothing is read, and the source has no fault more
  pub record EndsUnmeant : Type 0 where
    pub unread : left1 ≡ left0
    pub untried : source1 ≡ source0
    pub later : sink0 ≤ sink1
    pub wrote : WroteDue held0 held1 sink0 sink1 status 2 words_refused

  -- a capture was read, and the rows of its ticks were written, at its end the whole table; never for want of memory
  pub record EndsTable (f : Format) : Type 0 where
    pub listing : Listing
    pub held : Option (List ℕ)
    pub sink : ℕ
    pub listed : IsListed (table_lines LAG f) (table_text LAG f) left0 left1 held0 held listing
    pub cause : ListingHasCause source0 source1 sink0 sink listing
    pub later : sink ≤ sink1
    pub answer : StatusAfter held held1 sink sink1 status f listing

  abbrev pub Ends : Option Format → Type 0
  Ends None = EndsUnmeant
  Ends (Some f) = EndsTable f
