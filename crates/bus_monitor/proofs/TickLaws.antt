-- Ticks that are listed, and the bytes that they came in.
use Rattle.std.proofs.Common.{◌≡◌, ℕ, ◌+◌, ◌<◌, List, [], ◌∷◌, ◌++◌, length, reverse, take, drop, get_or, refl, ap, sym, subst, ◌∙◌, arith, append_assoc, length-append}
use Rattle.std.specs.Prelude.{false, min, Option, Some, None, option_to_list, Result, Ok, Err}
use Rattle.std.proofs.lemmas.List.{length-reverse, length-take}
use Rattle.bus_base.specs.declared.samples.Pair.{Pair}
use Rattle.bus_outside.specs.Causes.{GrowsByFront}
use Rattle.bus_capture.specs.Readings.{ticks_in, tick_now, place_after}
use Rattle.bus_capture.specs.Reader.{ReaderStands, is_refused}
use Rattle.bus_capture.specs.declared.reader.CaptureReader.{CaptureReader}
use Rattle.bus_monitor.specs.declared.listing_writer.ListingWriter.{ListingWriter}
use Rattle.bus_monitor.specs.declared.listing_writer.Stop.{Stop}
use Rattle.bus_monitor.specs.declared.listing_writer.Stop.TheVariants as stops
use Rattle.bus_monitor.specs.Scribes.{OwedSo, Took, Listed}
use Rattle.bus_monitor.proofs.WriterLaws.{reverse-more, reverse-rest}

-- ---- the bytes that came before some of the ticks

-- the earlier ticks of these bytes are those of the bytes that came first
pub record CameFirst (bytes : List ℕ) (before : List Pair) : Type 0 where
  pub later : List ℕ
  pub front : List ℕ
  pub parts : bytes ≡ later ++ front
  pub same : ticks_in front ≡ before

byte-later : (byte : ℕ) (bytes : List ℕ) (before : List Pair) → CameFirst bytes before → CameFirst (byte ∷ bytes) before
byte-later byte bytes before came = record {
  later = byte ∷ came.later;
  front = came.front;
  parts = ap (λ xs. byte ∷ xs) came.parts;
  same = came.same;
}

-- by the tick that the newest byte completes
by-tick : (byte : ℕ) (bytes : List ℕ) (before : List Pair) (tick : Option Pair) (later : List Pair) →
    ((l : List Pair) → ticks_in bytes ≡ l ++ before → CameFirst bytes before) → ticks_in (byte ∷ bytes) ≡ later ++ before →
    option_to_list tick ++ ticks_in bytes ≡ later ++ before → CameFirst (byte ∷ bytes) before
by-tick byte bytes before None later earlier whole is = byte-later byte bytes before (earlier later is)
by-tick byte bytes before (Some x) [] earlier whole is = record { later = []; front = byte ∷ bytes; parts = refl; same = whole }
by-tick byte bytes before (Some x) (y ∷ later) earlier whole is =
    let same : x ∷ ticks_in bytes ≡ y ∷ (later ++ before) = is in
    byte-later byte bytes before (earlier later (cc))

none-before : (later before : List Pair) → [] ≡ later ++ before → [] ≡ before
none-before [] before is = is
none-before (x ∷ later) before is = absurd (cc)

pub came-first : (bytes : List ℕ) (before later : List Pair) → ticks_in bytes ≡ later ++ before → CameFirst bytes before
unfolding ticks_in
came-first [] before later is = record { later = []; front = []; parts = refl; same = none-before later before is }
came-first (byte ∷ bytes) before later is =
    by-tick byte bytes before (tick_now (byte ∷ bytes)) later (came-first bytes before) is is

-- ---- a listing that goes on, or stops

module _ {L : Type 0} (stands : L → List Pair → Type 0) (lines : List Pair → List ℕ) (first held : Option (List ℕ)) where
  -- a tick's lines were added to the text, which was written where it got long
  pub lists-more : {T : Type 0} → (writer : ListingWriter L) (past : List Pair) (result : Result T Stop) → stands writer.lister past →
      OwedSo (lines past) writer.text first held result → Listed stands lines writer past first held result
  lists-more writer past (Ok done) stood owed = record { lister = stood; written = owed.0; room = owed.1 }
  lists-more writer past (Err (stops.Refused refusal)) stood owed = owed
  lists-more writer past (Err stops.WriteFault) stood owed = record { later = []; before = past; parts = refl; front = owed }

  -- what stopped stays so with later ticks
  pub listed-later : (T U : Type 0) (writer : ListingWriter L) (more past : List Pair) (stop : Stop) →
      Listed stands lines writer past first held {T = T} (Err stop) →
      Listed stands lines writer (more ++ past) first held {T = U} (Err stop)
  listed-later T U writer more past (stops.Refused refusal) listed = listed
  listed-later T U writer more past stops.WriteFault listed = record {
    later = more ++ listed.later;
    before = listed.before;
    parts = ap (λ xs. more ++ xs) listed.parts ∙ sym (append_assoc more listed.later listed.before);
    front = listed.front;
  }

  -- what stopped at a tick of some stopped in them
  pub listed-all : (T U : Type 0) (writer : ListingWriter L) (ticks past : List Pair) (i : ℕ) (d : Pair) (stop : Stop) → i < length ticks →
      Listed stands lines writer (get_or ticks i d ∷ (reverse (take i ticks) ++ past)) first held {T = T} (Err stop) →
      Listed stands lines writer (reverse ticks ++ past) first held {T = U} (Err stop)
  listed-all T U writer ticks past i d stop within listed =
      subst (λ ps. Listed stands lines writer ps first held {T = U} (Err stop)) (sym (reverse-rest ticks past (i + 1)))
      (listed-later T U writer (reverse (drop (i + 1) ticks)) (reverse (take (i + 1) ticks) ++ past) stop
      (subst (λ ps. Listed stands lines writer ps first held {T = T} (Err stop)) (sym (reverse-more ticks past i d within)) listed))

  -- ticks that were listed are those of the bytes that they came in
  pub listed-takes : (T : Type 0) (writer : ListingWriter L) (reader : CaptureReader) (bytes : List ℕ) (past : List Pair) (result : Result T Stop) →
      ReaderStands reader bytes → writer.reader ≡ reader → is_refused (place_after bytes) ≡ false → ticks_in bytes ≡ past →
      Listed stands lines writer past first held result → Took stands lines writer bytes first held result
  listed-takes T writer reader bytes past (Ok done) stood same going ticks listed = record {
    holds = record {
      reader = subst (λ r. ReaderStands r bytes) (sym same) stood;
      going = going;
      lister = subst (stands writer.lister) (sym ticks) listed.lister;
      written = record { done = listed.written.done; made = ap lines ticks ∙ listed.written.made; added = listed.written.added };
    };
    room = listed.room;
  }
  listed-takes T writer reader bytes past (Err (stops.Refused refusal)) stood same going ticks listed = absurd listed
  listed-takes T writer reader bytes past (Err stops.WriteFault) stood same going ticks listed =
      let came : CameFirst bytes listed.before = came-first bytes listed.before listed.later (ticks ∙ listed.parts) in
      record {
        later = came.later;
        before = came.front;
        parts = came.parts;
        front = subst (λ ps. GrowsByFront first held (lines ps)) (sym came.same) listed.front;
      }

-- ticks before the one that comes
pub few-before : (ticks past : List Pair) (i : ℕ) → i < length ticks → length (reverse (take i ticks) ++ past) < length past + length ticks
few-before ticks past i within =
    let long : length (reverse (take i ticks) ++ past) ≡ length (reverse (take i ticks)) + length past = length-append (reverse (take i ticks)) past in
    let same : length (reverse (take i ticks)) ≡ length (take i ticks) = length-reverse (take i ticks) in
    let front : length (take i ticks) ≡ min i (length ticks) = length-take i ticks in
    omega (arith, long, same, front, within)
