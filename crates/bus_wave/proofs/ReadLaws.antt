-- What the pieces that were read add up to.
use Rattle.std.proofs.Common.{◌≡◌, ℕ, suc, ◌+◌, ◌<◌, ◌≤◌, ◌^◌, ◌-◌, min, List, ◌++◌, length, reverse, take, refl, sym, subst, inl, inr, ⊎_elim, arith, length-append}
use Rattle.std.specs.Prelude.{Bool, true, false, Option}
use Rattle.std.specs.Io.KnownBytes.{Appends, Consumes}
use Rattle.std.proofs.KnownBytes.{Consumes-trans}
use Rattle.std.proofs.lemmas.List.{reverse-append, length-take}
use Rattle.bus_base.specs.declared.samples.Pair.{Pair}
use Rattle.bus_capture.specs.Readings.{ticks_in, text_limit}
use Rattle.bus_line.specs.declared.cutter.TheConstants.{LAG}
use Rattle.bus_monitor.specs.Scribes.{Closes, FrontWritten, CauseOf, ListingHasCause}
use Rattle.bus_monitor.proofs.WriterLaws.{few-ticks}
use Rattle.bus_monitor.specs.declared.listing.Listing.{Listing}
use Rattle.bus_monitor.specs.declared.listing.Listing.TheVariants as listings
use Rattle.bus_wave.specs.Written.{ReadEnds, Kept, KeptSo, ReadOn, WaveFollows, LastPiece, IsRead, IsDrawn, WaveEnds, whole_wave, is_fault}
use Rattle.bus_wave.specs.Drawers.{ListerStands, Draws}
use Rattle.bus_wave.specs.Waves.{wave_so_far}
use Rattle.bus_wave.specs.declared.wave_writer.WaveWriter.{WaveWriter}

-- how the reading ended, and what was kept
pub kept-so : (left : Option (List ℕ)) (bytes : List ℕ) (first held : Option (List ℕ)) (writer : WaveWriter) (ending : Listing) →
    ReadEnds left bytes ending → Kept writer bytes first held → KeptSo left bytes first held writer ending
kept-so left bytes first held writer (listings.Done n) read kept = (read, kept)
kept-so left bytes first held writer (listings.Refused refusal) read kept = (read, kept)
kept-so left bytes first held writer listings.ReadFault read kept = (read, kept)
kept-so left bytes first held writer listings.WriteFault read kept = absurd read

-- a piece has bytes, and no more than are left
pub room-some : (piece : List ℕ) (left room : ℕ) → length piece ≡ 2048 → 0 < left → room ≡ min left 2048 →
    (0 < length (take room piece)) × (length (take room piece) ≤ left) × (length (take room piece) ≤ 2048)
room-some piece left room whole some is =
    let long : length (take room piece) ≡ min room (length piece) = length-take room piece in
    (omega (arith, long, whole, some, is), omega (arith, long, whole, some, is), omega (arith, long, whole, some, is))

-- a piece more
pub piece-more : (before now later first held : Option (List ℕ)) (writer : WaveWriter) (input : List ℕ) (left room count : ℕ) → Consumes before now input →
    left + length input ≡ suc text_limit → room ≤ left → ReadOn room now later writer (reverse input) first held count →
    (input' : List ℕ) × Consumes before later input' × ((left - count) + length input' ≡ suc text_limit) × WaveFollows writer (reverse input') first held
piece-more before now later first held writer input left room count consumed counted fits read =
    let long : length (input ++ read.piece) ≡ length input + length read.piece = length-append input read.piece in (
      input ++ read.piece,
      Consumes-trans before now later input read.piece consumed read.consumed,
      omega (arith, long, read.long, read.fits, fits, counted),
      subst (λ bytes. WaveFollows writer bytes first held) (sym (reverse-append input read.piece)) read.follows,
    )

-- the last piece
pub last-read : (before now later first held : Option (List ℕ)) (writer : WaveWriter) (input : List ℕ) (left room : ℕ) (ending : Listing) →
    Consumes before now input → left + length input ≡ suc text_limit → room ≤ left →
    LastPiece room now later (reverse input) first held writer ending → IsRead before later first held writer ending
last-read before now later first held writer input left room ending consumed counted fits read =
    let long : length (input ++ read.piece) ≡ length input + length read.piece = length-append input read.piece in
    record {
      input = input ++ read.piece;
      short = omega (arith, long, read.fits, fits, counted);
      consumed = Consumes-trans before now later input read.piece consumed read.consumed;
      kept = subst (λ bytes. KeptSo later bytes first held writer ending) (sym (reverse-append input read.piece)) read.kept;
    }

-- what was kept, where no write failed
pub kept-of : (left : Option (List ℕ)) (bytes : List ℕ) (first held : Option (List ℕ)) (writer : WaveWriter) (ending : Listing) →
    KeptSo left bytes first held writer ending → is_fault ending ≡ false → ReadEnds left bytes ending × Kept writer bytes first held
kept-of left bytes first held writer (listings.Done n) kept fine = kept
kept-of left bytes first held writer (listings.Refused refusal) kept fine = kept
kept-of left bytes first held writer listings.ReadFault kept fine = kept
kept-of left bytes first held writer listings.WriteFault kept fine = absurd (cc)

-- what was due was written, or a front of it
ends-so : (left : Option (List ℕ)) (bytes : List ℕ) (first held' : Option (List ℕ)) (ending result : Listing) (faults faults' : ℕ) → is_fault ending ≡ false →
    ReadEnds left bytes ending → Closes (whole_wave ending (ticks_in bytes)) ending first held' faults faults' result →
    WaveEnds left bytes first held' result
ends-so left bytes first held' ending result faults faults' fine read closes =
    ⊎_elim (λ done. subst (λ (r : Listing). WaveEnds left bytes first held' r) (sym done.0) (whole ending fine read done.1))
    (λ failed. subst (λ (r : Listing). WaveEnds left bytes first held' r) (sym failed.0) (inr record { ending = ending; read = read; front = failed.1 })) closes
  where
    whole : (e : Listing) → is_fault e ≡ false → ReadEnds left bytes e → Appends first held' (whole_wave e (ticks_in bytes)) → WaveEnds left bytes first held' e
    whole (listings.Done n) fine read written = record { read = read; written = written }
    whole (listings.Refused refusal) fine read written = record { read = read; written = written }
    whole listings.ReadFault fine read written = record { read = read; written = written }
    whole listings.WriteFault fine read written = absurd (cc)

-- what finishing a wave shows
pub record Finishes (writer : WaveWriter) (ending : Listing) (held held' : Option (List ℕ)) (faults faults' : ℕ) (result : Listing) : Type 0 where
  pub fault : is_fault ending ≡ true → (result ≡ ending) × (held' ≡ held) × (faults' ≡ faults)
  pub closes : is_fault ending ≡ false → (past : List Pair) (first : Option (List ℕ)) → ListerStands writer.hearing.lister past → length past < 2 ^ 60 →
      Draws writer.drawer writer.text past first held → Closes (whole_wave ending past) ending first held' faults faults' result
  pub later : faults ≤ faults'

pub few-bytes : (bytes : List ℕ) → length (ticks_in bytes) < 2 ^ 60
few-bytes bytes = let few : length (ticks_in bytes) ≤ text_limit = few-ticks bytes in omega (arith, few)

pub kept-here : (before left first held : Option (List ℕ)) (writer : WaveWriter) (ending : Listing) → IsRead before left first held writer ending →
    is_fault ending ≡ false →
    (past : List Pair) × (f : Option (List ℕ)) × ListerStands writer.hearing.lister past × (length past < 2 ^ 60) × Draws writer.drawer writer.text past f held
kept-here before left first held writer ending read fine =
    let kept = kept-of left (reverse read.input) first held writer ending read.kept fine in
    (ticks_in (reverse read.input), first, kept.1.stands, few-bytes (reverse read.input), kept.1.draws)

wave-ends : (b : Bool) (before left first held held' : Option (List ℕ)) (writer : WaveWriter) (ending result : Listing) (faults faults' : ℕ) →
    is_fault ending ≡ b → (read : IsRead before left first held writer ending) → Finishes writer ending held held' faults faults' result →
    WaveEnds left (reverse read.input) first held' result
wave-ends true before left first held held' writer listings.WriteFault result faults faults' is read finishes =
    let same = finishes.fault refl in
    subst (λ (r : Listing). WaveEnds left (reverse read.input) first held' r) (sym same.0)
    (inl (subst (λ (h : Option (List ℕ)). FrontWritten (wave_so_far LAG) (reverse read.input) first h) (sym same.1) read.kept))
wave-ends true before left first held held' writer (listings.Done n) result faults faults' is read finishes = absurd (cc)
wave-ends true before left first held held' writer (listings.Refused refusal) result faults faults' is read finishes = absurd (cc)
wave-ends true before left first held held' writer listings.ReadFault result faults faults' is read finishes = absurd (cc)
wave-ends false before left first held held' writer ending result faults faults' is read finishes =
    let kept = kept-of left (reverse read.input) first held writer ending read.kept is in
    ends-so left (reverse read.input) first held' ending result faults faults' is kept.0
    (finishes.closes is (ticks_in (reverse read.input)) first kept.1.stands (few-bytes (reverse read.input)) kept.1.draws)

-- the whole wave
pub wave-drawn : (before left first held held' : Option (List ℕ)) (writer : WaveWriter) (ending result : Listing) (faults faults' : ℕ) →
    IsRead before left first held writer ending → Finishes writer ending held held' faults faults' result → IsDrawn before left first held' result
wave-drawn before left first held held' writer ending result faults faults' read finishes = record {
  input = read.input;
  short = read.short;
  consumed = read.consumed;
  ends = wave-ends (is_fault ending) before left first held held' writer ending result faults faults' refl read finishes;
}

cause-so : (source source' sink0 sink sink' : ℕ) (ending : Listing) → is_fault ending ≡ false → CauseOf source source' sink0 sink ending →
    CauseOf source source' sink0 sink' ending
cause-so source source' sink0 sink sink' (listings.Done n) fine cause = tt
cause-so source source' sink0 sink sink' (listings.Refused refusal) fine cause = tt
cause-so source source' sink0 sink sink' listings.ReadFault fine cause = cause
cause-so source source' sink0 sink sink' listings.WriteFault fine cause = absurd (cc)

cause-ends : (b : Bool) (before left first held held' : Option (List ℕ)) (source source' sink0 sink sink' : ℕ) (writer : WaveWriter) (ending result : Listing) →
    is_fault ending ≡ b → IsRead before left first held writer ending → Finishes writer ending held held' sink sink' result →
    ListingHasCause source source' sink0 sink ending → CauseOf source source' sink0 sink' result
cause-ends true before left first held held' source source' sink0 sink sink' writer ending result is read finishes cause =
    let same = finishes.fault is in
    subst (λ (r : Listing). CauseOf source source' sink0 sink' r) (sym same.0)
    (subst (λ n. CauseOf source source' sink0 n ending) (sym same.2) cause.cause)
cause-ends false before left first held held' source source' sink0 sink sink' writer ending result is read finishes cause =
    let kept = kept-of left (reverse read.input) first held writer ending read.kept is in
    let before-it = cause.writes in
    ⊎_elim (λ done. subst (λ (r : Listing). CauseOf source source' sink0 sink' r) (sym done.0) (cause-so source source' sink0 sink sink' ending is cause.cause))
    (λ failed. subst (λ (r : Listing). CauseOf source source' sink0 sink' r) (sym failed.0) (let rose = failed.2 in omega (arith, rose, before-it)))
    (finishes.closes is (ticks_in (reverse read.input)) first kept.1.stands (few-bytes (reverse read.input)) kept.1.draws)

pub wave-cause : (before left first held held' : Option (List ℕ)) (source source' sink0 sink sink' : ℕ) (writer : WaveWriter) (ending result : Listing) →
    IsRead before left first held writer ending → Finishes writer ending held held' sink sink' result →
    ListingHasCause source source' sink0 sink ending → ListingHasCause source source' sink0 sink' result
wave-cause before left first held held' source source' sink0 sink sink' writer ending result read finishes cause = record {
  reads = cause.reads;
  writes = let a = cause.writes in let b = finishes.later in omega (arith, a, b);
  cause = cause-ends (is_fault ending) before left first held held' source source' sink0 sink sink' writer ending result refl read finishes cause;
}
