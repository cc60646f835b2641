-- What a byte does to a writer.
use Rattle.std.proofs.Common.{◌≡◌, ℕ, ◌+◌, ◌≤◌, ◌<◌, List, [], ◌∷◌, ◌++◌, length, reverse, take, drop, get_or, refl, ap, sym, subst, inl, inr, ⊎_elim, ◌∙◌, arith, append_assoc}
use Rattle.std.specs.Prelude.{false, true, Option, None, option_to_list, Ok, Err}
use Rattle.std.proofs.lemmas.List.{append-nil, reverse-append, take-append-drop}
use Rattle.std.proofs.lemmas.Grind.{take_at_read}
use Rattle.std.specs.Io.KnownBytes.{Appends, IsAtEnd}
use Rattle.bus_base.specs.declared.samples.Pair.{Pair}
use Rattle.bus_outside.specs.Causes.{GrowsByFront}
use Rattle.bus_outside.proofs.Writes.{appends_then, front_then}
use Rattle.bus_capture.specs.Readings.{ticks_in, tick_now, place_after, answer_at, answer_now, end_after, text_limit}
use Rattle.bus_capture.specs.Reader.{ReaderStands, is_refused}
use Rattle.bus_capture.specs.declared.refusal.CaptureRefusal.{CaptureRefusal}
use Rattle.bus_capture.specs.declared.reader.CaptureReader.{CaptureReader}
use Rattle.bus_capture.specs.declared.reader.Place.{Place}
use Rattle.bus_capture.specs.declared.reader.Place.TheVariants.{Between, Half, Refused}
use Rattle.bus_capture.proofs.ReaderLaws.{short, one_byte-refused, place-step, refused-stays}
use Rattle.bus_monitor.specs.declared.listing.Listing.{Listing}
use Rattle.bus_monitor.specs.declared.listing.Listing.TheVariants as listings
use Rattle.bus_monitor.specs.declared.listing_writer.ListingWriter.{ListingWriter}
use Rattle.bus_monitor.specs.declared.listing_writer.Stop.{Stop}
use Rattle.bus_monitor.specs.declared.listing_writer.Stop.TheVariants as stops
use Rattle.bus_monitor.specs.Scribes.{Owed, Written, Holds, Follows, Took, Closes, IsRefusedBy, EndsSo, CauseOf}

answer-ok : (place : Place) (tick found : Option Pair) → answer_at place tick ≡ Ok found → (is_refused place ≡ false) × (tick ≡ found)
answer-ok (Refused refusal) tick found h = absurd (cc)
answer-ok Between tick found h = (refl, cc)
answer-ok (Half a) tick found h = (refl, cc)

answer-err : (place : Place) (tick : Option Pair) (refusal : CaptureRefusal) → answer_at place tick ≡ Err refusal → is_refused place ≡ true
answer-err (Refused refusal') tick refusal h = refl
answer-err Between tick refusal h = absurd (cc)
answer-err (Half a) tick refusal h = absurd (cc)

-- the ticks after a byte that was answered so
pub ticks-ok : (byte : ℕ) (bytes : List ℕ) (found : Option Pair) → answer_now (byte ∷ bytes) ≡ Ok found →
    (is_refused (place_after (byte ∷ bytes)) ≡ false) × (ticks_in (byte ∷ bytes) ≡ option_to_list found ++ ticks_in bytes)
unfolding ticks_in
ticks-ok byte bytes found answer =
    let is : (is_refused (place_after (byte ∷ bytes)) ≡ false) × (tick_now (byte ∷ bytes) ≡ found) =
    answer-ok (place_after (byte ∷ bytes)) (tick_now (byte ∷ bytes)) found answer in
    (is.0, ap (λ tick. option_to_list tick ++ ticks_in bytes) is.1)

pub ticks-err : (byte : ℕ) (bytes : List ℕ) (refusal : CaptureRefusal) → answer_now (byte ∷ bytes) ≡ Err refusal →
    ticks_in (byte ∷ bytes) ≡ ticks_in bytes
unfolding ticks_in
ticks-err byte bytes refusal answer =
    let refused : is_refused (place_after (byte ∷ bytes)) ≡ true =
    answer-err (place_after (byte ∷ bytes)) (tick_now (byte ∷ bytes)) refusal answer in
    let none : tick_now (byte ∷ bytes) ≡ None =
    one_byte-refused (length bytes) byte (place_after bytes) (ap is_refused (sym (place-step byte bytes)) ∙ refused) in
    ap (λ tick. option_to_list tick ++ ticks_in bytes) none

pub few-ticks : (bytes : List ℕ) → length (ticks_in bytes) ≤ text_limit
few-ticks bytes = (short bytes).few

-- what was written for the ticks stays so where they are the same
written-same : (lines : List Pair → List ℕ) (text bytes bytes' : List ℕ) (first held : Option (List ℕ)) → ticks_in bytes' ≡ ticks_in bytes →
    Written lines text bytes first held → Written lines text bytes' first held
written-same lines text bytes bytes' first held same w = record { done = w.done; made = ap lines same ∙ w.made; added = w.added }

module _ {L : Type 0} (stands : L → List Pair → Type 0) (lines : List Pair → List ℕ) (first held : Option (List ℕ)) where
  -- a byte that completes no tick
  pub takes-none : (reader reader' : CaptureReader) (lister : L) (text : List ℕ) (byte : ℕ) (bytes : List ℕ) →
      Follows stands lines record { reader = reader; lister = lister; text = text } bytes first held →
      ReaderStands reader' (byte ∷ bytes) → answer_now (byte ∷ bytes) ≡ Ok None →
      Follows stands lines record { reader = reader'; lister = lister; text = text } (byte ∷ bytes) first held
  takes-none reader reader' lister text byte bytes f stood answer =
      let is : (is_refused (place_after (byte ∷ bytes)) ≡ false) × (ticks_in (byte ∷ bytes) ≡ ticks_in bytes) = ticks-ok byte bytes None answer in
      record {
        holds = record {
          reader = stood;
          going = is.0;
          lister = subst (stands lister) (sym is.1) f.holds.lister;
          written = written-same lines text bytes (byte ∷ bytes) first held is.1 f.holds.written;
        };
        room = f.room;
      }

  -- a byte that is refused
  pub takes-refused : (text : List ℕ) (byte : ℕ) (bytes : List ℕ) (refusal : CaptureRefusal) → Written lines text bytes first held →
      answer_now (byte ∷ bytes) ≡ Err refusal → Written lines text (byte ∷ bytes) first held
  takes-refused text byte bytes refusal w answer =
      written-same lines text bytes (byte ∷ bytes) first held (ticks-err byte bytes refusal answer) w

-- the text that was held back was written
pub wrote : (all text : List ℕ) (first held held' : Option (List ℕ)) → Owed all text first held → Appends held held' text → Owed all [] first held'
wrote all text first held held' w more = record {
  done = w.done ++ text;
  made = w.made ∙ sym (append-nil (w.done ++ text));
  added = appends_then first held held' w.done text w.added more;
}

-- all was written
pub all-written : (lines : List Pair → List ℕ) (bytes : List ℕ) (first held : Option (List ℕ)) → Written lines [] bytes first held →
    Appends first held (lines (ticks_in bytes))
all-written lines bytes first held w = subst (Appends first held) (sym (w.made ∙ append-nil w.done)) w.added

-- a front of the text that was held back was written
pub front-written : (lines : List Pair → List ℕ) (text bytes : List ℕ) (first held held' : Option (List ℕ)) → Written lines text bytes first held →
    GrowsByFront held held' text → GrowsByFront first held' (lines (ticks_in bytes))
front-written lines text bytes first held held' w front =
    subst (GrowsByFront first held') (sym (w.made ∙ ap (λ xs. w.done ++ xs) (sym (append-nil text))))
    (front_then first held held' w.done text [] w.added front)

-- the text that was held back was written, and there is room again
pub wrote-follows : {L : Type 0} (stands : L → List Pair → Type 0) (lines : List Pair → List ℕ) (first held held' : Option (List ℕ)) (writer : ListingWriter L)
    (bytes : List ℕ) → Holds stands lines writer bytes first held → Appends held held' writer.text →
    Follows stands lines (record writer { text = [] }) bytes first held'
wrote-follows stands lines first held held' writer bytes h more = record {
  holds = record {
    reader = h.reader;
    going = h.going;
    lister = h.lister;
    written = wrote (lines (ticks_in bytes)) writer.text first held held' h.written more;
  };
  room = omega arith;
}

-- ---- bytes after a refusal, or after a fault

refused-later : (more bytes : List ℕ) (refusal : CaptureRefusal) → answer_now bytes ≡ Err refusal →
    (answer_now (more ++ bytes) ≡ Err refusal) × (ticks_in (more ++ bytes) ≡ ticks_in bytes)
refused-later [] bytes refusal answer = (answer, refl)
refused-later (byte ∷ more) bytes refusal answer =
    let before : (answer_now (more ++ bytes) ≡ Err refusal) × (ticks_in (more ++ bytes) ≡ ticks_in bytes) = refused-later more bytes refusal answer in
    let now : answer_now (byte ∷ (more ++ bytes)) ≡ Err refusal = refused-stays (more ++ bytes) refusal byte before.0 in
    (now, ticks-err byte (more ++ bytes) refusal now ∙ before.1)

pub took-later : {L : Type 0} (T : Type 0) (stands : L → List Pair → Type 0) (lines : List Pair → List ℕ) (writer : ListingWriter L) (more bytes : List ℕ)
    (first held : Option (List ℕ)) (stop : Stop) → Took stands lines writer bytes first held {T = T} (Err stop) →
    Took stands lines writer (more ++ bytes) first held {T = T} (Err stop)
took-later T stands lines writer more bytes first held (stops.Refused refusal) took =
    let later : (answer_now (more ++ bytes) ≡ Err refusal) × (ticks_in (more ++ bytes) ≡ ticks_in bytes) = refused-later more bytes refusal took.0 in
    (later.0, written-same lines writer.text bytes (more ++ bytes) first held later.1 took.1, subst (stands writer.lister) (sym later.1) took.2)
took-later T stands lines writer more bytes first held stops.WriteFault took = record {
  later = more ++ took.later;
  before = took.before;
  parts = ap (λ xs. more ++ xs) took.parts ∙ sym (append_assoc more took.later took.before);
  front = took.front;
}

-- ---- the bytes of a piece, the newest first

pub reverse-more : {A : Type 0} → (xs bytes : List A) (i : ℕ) (d : A) → i < length xs →
    reverse (take (i + 1) xs) ++ bytes ≡ get_or xs i d ∷ (reverse (take i xs) ++ bytes)
reverse-more xs bytes i d within =
    ap (λ ys. reverse ys ++ bytes) (take_at_read xs i d within).1
    ∙ ap (λ ys. ys ++ bytes) (reverse-append (take i xs) (get_or xs i d ∷ []))

pub reverse-rest : {A : Type 0} → (xs bytes : List A) (i : ℕ) → reverse xs ++ bytes ≡ reverse (drop i xs) ++ (reverse (take i xs) ++ bytes)
reverse-rest xs bytes i =
    ap (λ ys. reverse ys ++ bytes) (sym (take-append-drop i xs))
    ∙ ap (λ ys. ys ++ bytes) (reverse-append (take i xs) (drop i xs))
    ∙ append_assoc (reverse (drop i xs)) (reverse (take i xs)) bytes

-- ---- the end of a listing

-- the text that was held back was written, or a front of it
pub owed-all : (all text : List ℕ) (first held held' : Option (List ℕ)) → Owed all text first held → Appends held held' text → Appends first held' all
owed-all all text first held held' owed more =
    subst (Appends first held') (sym owed.made) (appends_then first held held' owed.done text owed.added more)

pub owed-front : (all text : List ℕ) (first held held' : Option (List ℕ)) → Owed all text first held → GrowsByFront held held' text →
    GrowsByFront first held' all
owed-front all text first held held' owed front =
    subst (GrowsByFront first held') (sym (owed.made ∙ ap (λ xs. owed.done ++ xs) (sym (append-nil text))))
    (front_then first held held' owed.done text [] owed.added front)

-- with the lines that the end adds
pub owed-whole : (lines whole text text' : List ℕ) (first held : Option (List ℕ)) → Owed lines text first held →
    (added : List ℕ) × (whole ≡ lines ++ added) × (text' ≡ text ++ added) → Owed whole text' first held
owed-whole lines whole text text' first held owed more = record {
  done = owed.done;
  made = more.1 ∙ ap (λ xs. xs ++ more.0) owed.made ∙ append_assoc owed.done text more.0 ∙ ap (λ xs. owed.done ++ xs) (sym more.2);
  added = owed.added;
}

module _ (lines whole : List Pair → List ℕ) (left : Option (List ℕ)) (bytes : List ℕ) (first held : Option (List ℕ)) where
  -- a refusal, or a fault of a write after it
  pub ends-refused : (refusal : CaptureRefusal) (faults faults' : ℕ) (result : Listing) → IsRefusedBy left bytes refusal →
      Closes (lines (ticks_in bytes)) (listings.Refused refusal) first held faults faults' result → EndsSo lines whole left bytes first held result
  ends-refused refusal faults faults' result by closes =
      ⊎_elim (λ done. rw done.0 (by, done.1))
      (λ failed. rw failed.0 (inl record { later = []; before = bytes; parts = refl; front = failed.1 })) closes

  pub ends-read : (faults faults' : ℕ) (result : Listing) →
      Closes (lines (ticks_in bytes)) listings.ReadFault first held faults faults' result → EndsSo lines whole left bytes first held result
  ends-read faults faults' result closes =
      ⊎_elim (λ done. rw done.0 done.1)
      (λ failed. rw failed.0 (inl record { later = []; before = bytes; parts = refl; front = failed.1 })) closes

  pub ends-done : (n : ℕ) (faults faults' : ℕ) (result : Listing) → IsAtEnd left → end_after bytes ≡ Ok n →
      Closes (whole (ticks_in bytes)) (listings.Done n) first held faults faults' result →
      EndsSo lines whole left bytes first held result
  ends-done n faults faults' result end ended closes =
      ⊎_elim (λ done. rw done.0 (end, ended, done.1))
      (λ failed. rw failed.0 (inr record { end = end; ticks = n; ended = ended; front = failed.1 })) closes

-- the cause of what a listing ends with
pub cause-closes : (source source' sink sink' : ℕ) (all : List ℕ) (first held : Option (List ℕ)) (listing result : Listing) →
    CauseOf source source' sink sink' listing → Closes all listing first held sink sink' result → CauseOf source source' sink sink' result
cause-closes source source' sink sink' all first held listing result cause closes =
    ⊎_elim (λ done. rw done.0 cause) (λ failed. rw failed.0 failed.2) closes

-- a cause stays one where the source's count rises
pub cause-source : (source source' sink sink' : ℕ) (result : Listing) → source ≤ source' → CauseOf source source sink sink' result →
    CauseOf source source' sink sink' result
cause-source source source' sink sink' (listings.Done n) later cause = tt
cause-source source source' sink sink' (listings.Refused refusal) later cause = tt
cause-source source source' sink sink' listings.ReadFault later cause = omega (arith, later, cause)
cause-source source source' sink sink' listings.WriteFault later cause = cause
