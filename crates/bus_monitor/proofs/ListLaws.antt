-- What pieces add up to.
use Rattle.std.proofs.Common.{◌≡◌, ℕ, suc, ◌+◌, ◌-◌, ◌≤◌, ◌<◌, min, List, ◌++◌, ◌⊎◌, ⊎_elim, length, reverse, take, sym, subst, ◌∙◌, arith, length-append}
use Rattle.std.specs.Prelude.{false, Option}
use Rattle.std.specs.Io.KnownBytes.{Consumes}
use Rattle.std.proofs.KnownBytes.{Consumes-trans}
use Rattle.std.proofs.lemmas.List.{reverse-append, length-reverse, length-take}
use Rattle.bus_base.specs.declared.samples.Pair.{Pair}
use Rattle.bus_capture.specs.Readings.{ticks_in, place_after, text_limit}
use Rattle.bus_capture.specs.Reader.{is_refused}
use Rattle.bus_capture.proofs.ReaderLaws.{short}
use Rattle.bus_capture.specs.declared.refusal.CaptureRefusal.{CaptureRefusal}
use Rattle.bus_monitor.specs.declared.listing.Listing.{Listing}
use Rattle.bus_monitor.specs.declared.listing.Listing.TheVariants as listings
use Rattle.bus_monitor.specs.declared.listing_writer.ListingWriter.{ListingWriter}
use Rattle.bus_monitor.specs.Scribes.{Follows, ReadOn, ReadLast, ReadEnd, IsListed, IsListedBy, EndsSo}

-- as long as no byte was refused, a byte may still come
pub left-some : (input : List ℕ) (left : ℕ) → left + length input ≡ suc text_limit → is_refused (place_after (reverse input)) ≡ false → 0 < left
left-some input left count going =
    let few : length (reverse input) ≤ text_limit = ((short (reverse input)).going going).1 in
    let same : length (reverse input) ≡ length input = length-reverse input in
    omega (arith, few, same, count)

pub room-some : (piece : List ℕ) (left room : ℕ) → length piece ≡ 32768 → 0 < left → room ≡ min left 32768 →
    (0 < length (take room piece)) × (length (take room piece) ≤ left)
room-some piece left room whole some is =
    let long : length (take room piece) ≡ min room (length piece) = length-take room piece in
    (omega (arith, long, whole, some, is), omega (arith, long, whole, some, is))

-- what ended otherwise isn't done
pub refused-not-done : (refusal : CaptureRefusal) (result : Listing) (n : ℕ) (R : Type 0) →
    (result ≡ listings.Refused refusal) ⊎ ((result ≡ listings.WriteFault) × R) → result ≡ listings.Done n → ⊥
refused-not-done refusal result n R ended is =
    ⊎_elim (λ refused. let e : listings.Refused refusal ≡ listings.Done n = sym refused ∙ is in absurd (cc))
    (λ failed. let e : listings.WriteFault ≡ listings.Done n = sym failed.0 ∙ is in absurd (cc)) ended

pub read-not-done : (result : Listing) (n : ℕ) (R : Type 0) →
    (result ≡ listings.ReadFault) ⊎ ((result ≡ listings.WriteFault) × R) → result ≡ listings.Done n → ⊥
read-not-done result n R ended is =
    ⊎_elim (λ refused. let e : listings.ReadFault ≡ listings.Done n = sym refused ∙ is in absurd (cc))
    (λ failed. let e : listings.WriteFault ≡ listings.Done n = sym failed.0 ∙ is in absurd (cc)) ended

module _ {L : Type 0} (stands : L → List Pair → Type 0) (lines whole : List Pair → List ℕ) (first held : Option (List ℕ)) where
  -- a piece more
  pub piece-more : (writer : ListingWriter L) (before now later : Option (List ℕ)) (input : List ℕ) (left room count : ℕ) → Consumes before now input →
      left + length input ≡ suc text_limit → room ≤ left → ReadOn stands lines room now later writer (reverse input) first held count →
      (input' : List ℕ) × Consumes before later input' × ((left - count) + length input' ≡ suc text_limit) × Follows stands lines writer (reverse input') first held
  piece-more writer before now later input left room count consumed counted fits read =
      let long : length (input ++ read.piece) ≡ length input + length read.piece = length-append input read.piece in (
        input ++ read.piece,
        Consumes-trans before now later input read.piece consumed read.consumed,
        omega (arith, long, read.long, read.fits, fits, counted),
        subst (λ bytes. Follows stands lines writer bytes first held) (sym (reverse-append input read.piece)) read.follows,
      )

  -- the last piece
  last-listed : (before now later : Option (List ℕ)) (input : List ℕ) (left room : ℕ) (listing : Listing) → Consumes before now input →
      left + length input ≡ suc text_limit → room ≤ left → ReadLast lines whole room now later (reverse input) first held listing →
      IsListed lines whole before later first held listing
  last-listed before now later input left room listing consumed counted fits read =
      let long : length (input ++ read.piece) ≡ length input + length read.piece = length-append input read.piece in
      record {
        input = input ++ read.piece;
        short = omega (arith, long, read.fits, fits, counted);
        consumed = Consumes-trans before now later input read.piece consumed read.consumed;
        ends = subst (λ bytes. EndsSo lines whole later bytes first held listing) (sym (reverse-append input read.piece)) read.ends;
      }

  pub piece-last : (writer : ListingWriter L) (before now later : Option (List ℕ)) (input : List ℕ) (left room : ℕ) (listing : Listing) → Consumes before now input →
      left + length input ≡ suc text_limit → room ≤ left → ReadEnd stands lines whole room now later writer (reverse input) first held listing →
      IsListedBy stands lines whole before later first held writer.lister listing
  unfolding last-listed
  piece-last writer before now later input left room listing consumed counted fits read = record {
    listed = last-listed before now later input left room listing consumed counted fits read.last;
    standing = λ n is. subst (λ bytes. stands writer.lister (ticks_in bytes)) (sym (reverse-append input read.last.piece)) (read.standing n is);
  }
