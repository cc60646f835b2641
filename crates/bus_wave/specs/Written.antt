-- What was read and written when a wave ends.
use Rattle.std.specs.Prelude.{◌≡◌, ℕ, suc, ◌-◌, ◌<◌, ◌≤◌, ◌⊎◌, Bool, true, false, List, [], ◌++◌, length, reverse, Option, Result, Ok, Err}
use Rattle.std.specs.Io.KnownBytes.{Appends, Consumes, IsAtEnd}
use Rattle.bus_base.specs.declared.samples.Pair.{Pair}
use Rattle.bus_outside.specs.Causes.{GrowsByFront}
use Rattle.bus_capture.specs.Readings.{ticks_in, end_after, answer_now, place_after, text_limit}
use Rattle.bus_capture.specs.Reader.{ReaderStands, is_refused}
use Rattle.bus_line.specs.declared.cutter.TheConstants.{LAG}
use Rattle.bus_monitor.specs.Scribes.{Owed, FrontWritten, IsRefusedBy}
use Rattle.bus_monitor.specs.declared.listing.Listing.{Listing}
use Rattle.bus_monitor.specs.declared.listing.Listing.TheVariants as listings
use Rattle.bus_monitor.specs.declared.listing_writer.ListingWriter.{ListingWriter}
use Rattle.bus_monitor.specs.declared.listing_writer.Stop.{Stop}
use Rattle.bus_monitor.specs.declared.listing_writer.Stop.TheVariants as stops
use Rattle.bus_wave.specs.Delays.{kept}
use Rattle.bus_wave.specs.Drawers.{ListerStands, Draws, drawer_at}
use Rattle.bus_wave.specs.Texts.{refusal_comment, changes_text}
use Rattle.bus_wave.specs.Waves.{wave, wave_so_far, columns_at_end, changes_from, undrawn}
use Rattle.bus_wave.specs.declared.marks.Column.{Column}
use Rattle.bus_wave.specs.declared.wave_lister.WaveLister.{WaveLister}
use Rattle.bus_wave.specs.declared.wave_writer.WaveWriter.{WaveWriter}

abbrev pub is_fault : Listing → Bool
is_fault listings.WriteFault = true
is_fault _ = false

-- what stands after the wave: of a refused capture its comment
abbrev pub comment_of : Listing → List ℕ
comment_of (listings.Refused refusal) = refusal_comment refusal
comment_of _ = []

-- the whole text of ticks that end so
abbrev pub whole_wave : Listing → List Pair → List ℕ
whole_wave ending past = wave LAG past ++ comment_of ending

module _ (left : Option (List ℕ)) (bytes : List ℕ) where
  -- how the reading of these bytes, the newest first, ended: at their end as a capture, refused, or with a read that failed
  abbrev pub ReadEnds : Listing → Type 0
  ReadEnds (listings.Done n) = IsAtEnd left × (end_after bytes ≡ Ok n)
  ReadEnds (listings.Refused refusal) = IsRefusedBy left bytes refusal
  ReadEnds listings.ReadFault = Unit {0}
  ReadEnds listings.WriteFault = ⊥

  module _ (first held : Option (List ℕ)) where
    -- the whole text was written
    pub record WroteWhole (ending : Listing) : Type 0 where
      pub read : ReadEnds ending
      pub written : Appends first held (whole_wave ending (ticks_in bytes))

    -- a front of the whole text was written
    pub record WroteFront : Type 0 where
      pub ending : Listing
      pub read : ReadEnds ending
      pub front : GrowsByFront first held (whole_wave ending (ticks_in bytes))

    -- what each answer says: the whole text was written; or at a write fault a front of it, or of what is drawn of some of the ticks that came first
    abbrev pub WaveEnds : Listing → Type 0
    WaveEnds listings.WriteFault = FrontWritten (wave_so_far LAG) bytes first held ⊎ WroteFront
    WaveEnds ending = WroteWhole ending

-- a wave of what was read of the source
pub record IsDrawn (before left first held : Option (List ℕ)) (result : Listing) : Type 0 where
  pub input : List ℕ
  pub short : length input ≤ suc text_limit
  pub consumed : Consumes before left input
  pub ends : WaveEnds left (reverse input) first held result

-- ---- steps of the code

-- what hears the capture has read these bytes, the newest first, and none was refused; it lists nothing
pub record Hears (hearing : ListingWriter WaveLister) (bytes : List ℕ) : Type 0 where
  pub reader : ReaderStands hearing.reader bytes
  pub going : is_refused (place_after bytes) ≡ false
  pub lister : ListerStands hearing.lister (ticks_in bytes)
  pub none : hearing.text ≡ []

-- the ticks that are due were drawn, and their text written, but for a part that is held back
pub record DrewDue (writer : WaveWriter) (past : List Pair) (first held : Option (List ℕ)) : Type 0 where
  pub drawer : writer.drawer ≡ drawer_at (kept LAG past) (undrawn (length past))
  pub owed : Owed (wave_so_far LAG past) writer.text first held
  pub room : length writer.text ≤ 3000

-- the writer has read these bytes, and drew what is due of them
pub record WaveFollows (writer : WaveWriter) (bytes : List ℕ) (first held : Option (List ℕ)) : Type 0 where
  pub hears : Hears writer.hearing bytes
  pub drew : DrewDue writer (ticks_in bytes) first held

-- it heard the ticks in these bytes, and drew some of those that are due
pub record Kept (writer : WaveWriter) (bytes : List ℕ) (first held : Option (List ℕ)) : Type 0 where
  pub stands : ListerStands writer.hearing.lister (ticks_in bytes)
  pub draws : Draws writer.drawer writer.text (ticks_in bytes) first held

-- after more bytes
abbrev pub WaveTook : WaveWriter → List ℕ → Option (List ℕ) → Option (List ℕ) → Result (Unit {0}) Stop → Type 0
WaveTook writer bytes first held (Ok done) = WaveFollows writer bytes first held
WaveTook writer bytes first held (Err (stops.Refused refusal)) = (answer_now bytes ≡ Err refusal) × Kept writer bytes first held
WaveTook writer bytes first held (Err stops.WriteFault) = FrontWritten (wave_so_far LAG) bytes first held

-- when the reading has ended
abbrev pub KeptSo : Option (List ℕ) → List ℕ → Option (List ℕ) → Option (List ℕ) → WaveWriter → Listing → Type 0
KeptSo left bytes first held writer listings.WriteFault = FrontWritten (wave_so_far LAG) bytes first held
KeptSo left bytes first held writer ending = ReadEnds left bytes ending × Kept writer bytes first held

-- the reading to its end
pub record IsRead (before left first held : Option (List ℕ)) (writer : WaveWriter) (result : Listing) : Type 0 where
  pub input : List ℕ
  pub short : length input ≤ suc text_limit
  pub consumed : Consumes before left input
  pub kept : KeptSo left (reverse input) first held writer result

-- one piece that was read and taken
pub record ReadOn (room : ℕ) (before left : Option (List ℕ)) (writer : WaveWriter) (bytes : List ℕ) (first held : Option (List ℕ)) (count : ℕ) : Type 0 where
  pub piece : List ℕ
  pub consumed : Consumes before left piece
  pub long : length piece ≡ count
  pub some : 0 < count
  pub fits : count ≤ room
  pub follows : WaveFollows writer (reverse piece ++ bytes) first held

-- the last piece
pub record LastPiece (room : ℕ) (before left : Option (List ℕ)) (bytes : List ℕ) (first held : Option (List ℕ)) (writer : WaveWriter)
    (result : Listing) : Type 0 where
  pub piece : List ℕ
  pub consumed : Consumes before left piece
  pub fits : length piece ≤ room
  pub kept : KeptSo left (reverse piece ++ bytes) first held writer result

abbrev pub PieceRead : ℕ → Option (List ℕ) → Option (List ℕ) → List ℕ → Option (List ℕ) → Option (List ℕ) → WaveWriter → Result ℕ Listing → Type 0
PieceRead room before left bytes first held writer (Ok count) = ReadOn room before left writer bytes first held count
PieceRead room before left bytes first held writer (Err ending) = LastPiece room before left bytes first held writer ending

-- ticks were drawn, from one to before another, after a text; or a write failed, and a front of that was written
abbrev pub DrewTo : (ℕ → Column) → List ℕ → ℕ → ℕ → WaveWriter → Option (List ℕ) → Option (List ℕ) → Result (Unit {0}) Stop → Type 0
DrewTo known all from end writer first held (Ok done) =
    Owed (all ++ changes_text (changes_from known from (end - from))) writer.text first held × (length writer.text ≤ 3000)
    × (writer.drawer ≡ drawer_at known end)
DrewTo known all from end writer first held (Err (stops.Refused refusal)) = ⊥
DrewTo known all from end writer first held (Err stops.WriteFault) =
    GrowsByFront first held (all ++ changes_text (changes_from known from (end - from)))

-- the ticks that are due were drawn; or a write failed
abbrev pub DrewDueSo : List Pair → WaveWriter → Option (List ℕ) → Option (List ℕ) → Result (Unit {0}) Stop → Type 0
DrewDueSo past writer first held (Ok done) = DrewDue writer past first held
DrewDueSo past writer first held (Err (stops.Refused refusal)) = ⊥
DrewDueSo past writer first held (Err stops.WriteFault) = GrowsByFront first held (wave_so_far LAG past)

-- the text before the end
abbrev pub text_before_end : List Pair → List ℕ
text_before_end past = wave_so_far LAG past ++ changes_text (changes_from (columns_at_end LAG past) (undrawn (length past)) (length past - undrawn (length past)))
