-- What the writer of a listing has read and written: the lines that were made of the ticks, of which the last may still be held back; and what it ends with.
use Rattle.std.specs.Prelude.{◌≡◌, ℕ, suc, ◌<◌, ◌≤◌, ◌⊎◌, false, List, ◌++◌, length, reverse, take, Option, Result, Ok, Err}
use Rattle.std.specs.Io.KnownBytes.{Appends, Consumes, IsAtEnd}
use Rattle.bus_base.specs.declared.samples.Pair.{Pair}
use Rattle.bus_outside.specs.Causes.{GrowsByFront, Rose}
use Rattle.bus_capture.specs.Readings.{ticks_in, place_after, answer_now, end_after, text_limit}
use Rattle.bus_capture.specs.Reader.{ReaderStands, is_refused}
use Rattle.bus_capture.specs.declared.refusal.CaptureRefusal.{CaptureRefusal}
use Rattle.bus_monitor.specs.declared.listing.Listing.{Listing}
use Rattle.bus_monitor.specs.declared.listing.Listing.TheVariants as listings
use Rattle.bus_monitor.specs.declared.listing_writer.ListingWriter.{ListingWriter}
use Rattle.bus_monitor.specs.declared.listing_writer.Stop.{Stop}
use Rattle.bus_monitor.specs.declared.listing_writer.Stop.TheVariants.{Refused, WriteFault}

-- a text was written after what the sink held first, but for a part that is held back
pub record Owed (all text : List ℕ) (first held : Option (List ℕ)) : Type 0 where
  pub done : List ℕ
  pub made : all ≡ done ++ text
  pub added : Appends first held done

-- the lines of the ticks in these bytes were
abbrev pub Written : (List Pair → List ℕ) → List ℕ → List ℕ → Option (List ℕ) → Option (List ℕ) → Type 0
Written lines text bytes first held = Owed (lines (ticks_in bytes)) text first held

-- the lines of the ticks in some of the bytes that came first, or a front of them, were written
pub record FrontWritten (lines : List Pair → List ℕ) (bytes : List ℕ) (first held : Option (List ℕ)) : Type 0 where
  pub later : List ℕ
  pub before : List ℕ
  pub parts : bytes ≡ later ++ before
  pub front : GrowsByFront first held (lines (ticks_in before))

-- the lines of the first of these ticks, or a front of them, were written
pub record FrontListed (lines : List Pair → List ℕ) (past : List Pair) (first held : Option (List ℕ)) : Type 0 where
  pub later : List Pair
  pub before : List Pair
  pub parts : past ≡ later ++ before
  pub front : GrowsByFront first held (lines before)

-- of a text that gets long: it has room again, or a front of it was written
abbrev pub OwedSo : {T : Type 0} → List ℕ → List ℕ → Option (List ℕ) → Option (List ℕ) → Result T Stop → Type 0
OwedSo all text first held (Ok _) = Owed all text first held × (length text ≤ 3000)
OwedSo all text first held (Err (Refused refusal)) = ⊥
OwedSo all text first held (Err WriteFault) = GrowsByFront first held all

module _ {L : Type 0} (stands : L → List Pair → Type 0) (lines : List Pair → List ℕ) (writer : ListingWriter L) (past : List Pair) (first held : Option (List ℕ)) where
  -- the writer has listed these ticks, the newest first, and its text has room for another tick's lines
  pub record Lists : Type 0 where
    pub lister : stands writer.lister past
    pub written : Owed (lines past) writer.text first held
    pub room : length writer.text ≤ 3000

  -- after more ticks: it went on, or a write failed
  abbrev pub Listed : {T : Type 0} → Result T Stop → Type 0
  Listed (Ok _) = Lists
  Listed (Err (Refused refusal)) = ⊥
  Listed (Err WriteFault) = FrontListed lines past first held

module _ {L : Type 0} (stands : L → List Pair → Type 0) (lines : List Pair → List ℕ) (writer : ListingWriter L) (bytes : List ℕ) (first held : Option (List ℕ)) where
  -- the writer has read these bytes, the newest first, and none was refused
  pub record Holds : Type 0 where
    pub reader : ReaderStands writer.reader bytes
    pub going : is_refused (place_after bytes) ≡ false
    pub lister : stands writer.lister (ticks_in bytes)
    pub written : Written lines writer.text bytes first held

  -- and its text has room for another tick's lines
  pub record Follows : Type 0 where
    pub holds : Holds
    pub room : length writer.text ≤ 3000

  -- after more bytes: it went on, or a byte was refused, or a write failed
  abbrev pub Took : {T : Type 0} → Result T Stop → Type 0
  Took (Ok _) = Follows
  Took (Err (Refused refusal)) = (answer_now bytes ≡ Err refusal) × Written lines writer.text bytes first held × stands writer.lister (ticks_in bytes)
  Took (Err WriteFault) = FrontWritten lines bytes first held

-- after the front of a piece: it went on with so many bytes, or stopped somewhere in the piece
abbrev pub TookSome : {L : Type 0} → (L → List Pair → Type 0) → (List Pair → List ℕ) → ListingWriter L → List ℕ → List ℕ → Option (List ℕ) → Option (List ℕ) →
    Result ℕ Stop → Type 0
TookSome stands lines writer piece bytes first held (Ok count) =
    (0 < count) × (count ≤ length piece) × Follows stands lines writer (reverse (take count piece) ++ bytes) first held
TookSome stands lines writer piece bytes first held (Err stop) = Took stands lines writer (reverse piece ++ bytes) first held {T = Unit {0}} (Err stop)

-- the same where it may be that nothing was taken
abbrev pub TookFront : {L : Type 0} → (L → List Pair → Type 0) → (List Pair → List ℕ) → ListingWriter L → List ℕ → List ℕ → Option (List ℕ) → Option (List ℕ) →
    Result ℕ Stop → Type 0
TookFront stands lines writer piece bytes first held (Ok count) =
    (count ≤ length piece) × Follows stands lines writer (reverse (take count piece) ++ bytes) first held
TookFront stands lines writer piece bytes first held (Err stop) = Took stands lines writer (reverse piece ++ bytes) first held {T = Unit {0}} (Err stop)

-- a write fault has its cause in the count of the sink's faults
pub record FaultHasCause {T : Type 0} (before now : ℕ) (result : Result T Stop) : Type 0 where
  pub later : before ≤ now
  pub failed : result ≡ Err WriteFault → Rose before now

-- the text that was held back was written, or a front of it
abbrev pub Closes : List ℕ → Listing → Option (List ℕ) → Option (List ℕ) → ℕ → ℕ → Listing → Type 0
Closes all listing first held faults faults' result =
    ((result ≡ listing) × Appends first held all)
    ⊎ ((result ≡ listings.WriteFault) × GrowsByFront first held all × Rose faults faults')

-- the text is refused by a byte, or by its end
abbrev pub IsRefusedBy : Option (List ℕ) → List ℕ → CaptureRefusal → Type 0
IsRefusedBy left bytes refusal = (answer_now bytes ≡ Err refusal) ⊎ (IsAtEnd left × (end_after bytes ≡ Err refusal))

module _ (lines whole : List Pair → List ℕ) (left : Option (List ℕ)) (bytes : List ℕ) (first held : Option (List ℕ)) where
  -- a front of the whole listing was written at the end of a capture
  pub record FrontAtEnd : Type 0 where
    pub end : IsAtEnd left
    pub ticks : ℕ
    pub ended : end_after bytes ≡ Ok ticks
    pub front : GrowsByFront first held (whole (ticks_in bytes))

  -- what each answer of a listing says of the bytes that were read and of the sink
  abbrev pub EndsSo : Listing → Type 0
  EndsSo (listings.Done n) =
      IsAtEnd left × (end_after bytes ≡ Ok n) × Appends first held (whole (ticks_in bytes))
  EndsSo (listings.Refused refusal) = IsRefusedBy left bytes refusal × Appends first held (lines (ticks_in bytes))
  EndsSo listings.ReadFault = Appends first held (lines (ticks_in bytes))
  EndsSo listings.WriteFault = FrontWritten lines bytes first held ⊎ FrontAtEnd

-- a listing of what was read of the source
pub record IsListed (lines whole : List Pair → List ℕ) (before left first held : Option (List ℕ)) (result : Listing) : Type 0 where
  pub input : List ℕ
  pub short : length input ≤ suc text_limit
  pub consumed : Consumes before left input
  pub ends : EndsSo lines whole left (reverse input) first held result

-- and where the capture was read to its end, the lister that is handed back stands for its ticks
pub record IsListedBy {L : Type 0} (stands : L → List Pair → Type 0) (lines whole : List Pair → List ℕ) (before left first held : Option (List ℕ)) (lister : L)
    (result : Listing) : Type 0 where
  pub listed : IsListed lines whole before left first held result
  pub standing : (n : ℕ) → result ≡ listings.Done n → stands lister (ticks_in (reverse listed.input))

-- one piece that was read and taken
pub record ReadOn {L : Type 0} (stands : L → List Pair → Type 0) (lines : List Pair → List ℕ) (room : ℕ) (before left : Option (List ℕ))
    (writer : ListingWriter L) (bytes : List ℕ) (first held : Option (List ℕ)) (count : ℕ) : Type 0 where
  pub piece : List ℕ
  pub consumed : Consumes before left piece
  pub long : length piece ≡ count
  pub some : 0 < count
  pub fits : count ≤ room
  pub follows : Follows stands lines writer (reverse piece ++ bytes) first held

-- the last piece
pub record ReadLast (lines whole : List Pair → List ℕ) (room : ℕ) (before left : Option (List ℕ)) (bytes : List ℕ) (first held : Option (List ℕ))
    (listing : Listing) : Type 0 where
  pub piece : List ℕ
  pub consumed : Consumes before left piece
  pub fits : length piece ≤ room
  pub ends : EndsSo lines whole left (reverse piece ++ bytes) first held listing

-- at the end of a capture the lister stands for all of its ticks
pub record ReadEnd {L : Type 0} (stands : L → List Pair → Type 0) (lines whole : List Pair → List ℕ) (room : ℕ) (before left : Option (List ℕ))
    (writer : ListingWriter L) (bytes : List ℕ) (first held : Option (List ℕ)) (listing : Listing) : Type 0 where
  pub last : ReadLast lines whole room before left bytes first held listing
  pub standing : (n : ℕ) → listing ≡ listings.Done n → stands writer.lister (ticks_in (reverse last.piece ++ bytes))

abbrev pub ReadSo : {L : Type 0} → (L → List Pair → Type 0) → (List Pair → List ℕ) → (List Pair → List ℕ) → ℕ → Option (List ℕ) → Option (List ℕ) →
    ListingWriter L → List ℕ → Option (List ℕ) → Option (List ℕ) → Result ℕ Listing → Type 0
ReadSo stands lines whole room before left writer bytes first held (Ok count) = ReadOn stands lines room before left writer bytes first held count
ReadSo stands lines whole room before left writer bytes first held (Err listing) = ReadEnd stands lines whole room before left writer bytes first held listing

-- a fault has its cause in the count of the source's or the sink's faults
abbrev pub CauseOf : ℕ → ℕ → ℕ → ℕ → Listing → Type 0
CauseOf source source' sink sink' listings.ReadFault = Rose source source'
CauseOf source source' sink sink' listings.WriteFault = Rose sink sink'
CauseOf source source' sink sink' _ = Unit {0}

abbrev pub ReadCause : ℕ → ℕ → ℕ → ℕ → Result ℕ Listing → Type 0
ReadCause source source' sink sink' (Ok count) = Unit {0}
ReadCause source source' sink sink' (Err listing) = CauseOf source source' sink sink' listing

-- the counts never fall
pub record ListingHasCause (source source' sink sink' : ℕ) (result : Listing) : Type 0 where
  pub reads : source ≤ source'
  pub writes : sink ≤ sink'
  pub cause : CauseOf source source' sink sink' result
