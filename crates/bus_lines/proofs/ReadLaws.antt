-- What the pieces that were read add up to, and what is written of them at the end.
use Rattle.std.proofs.Common.{◌≡◌, ℕ, suc, ◌+◌, ◌-◌, ◌<◌, ◌≤◌, min, List, [], ◌++◌, ⊎_elim, inl, inr, length, take, refl, ap, sym, ◌∙◌, subst, arith, append_assoc, append-nil, length-append, Option, Some, None, Result, Ok, Err}
use Rattle.std.specs.Prelude.{Bool, true, false}
use Rattle.std.specs.Io.KnownBytes.{Appends, Consumes}
use Rattle.std.proofs.KnownBytes.{Appends-nil, Consumes-nil, Consumes-trans}
use Rattle.std.proofs.lemmas.List.{length-take}
use Rattle.bus_capture.specs.Captures.{header}
use Rattle.bus_outside.specs.Causes.{GrowsByFront}
use Rattle.bus_monitor.specs.Scribes.{Owed}
use Rattle.bus_recording.specs.Vcd.{text_limit}
use Rattle.bus_recording.specs.declared.refusal.RecordingRefusal.{RecordingRefusal}
use Rattle.bus_lines.specs.Converting.{started, after_bytes, bytes_text, bytes_refusal, after_part, part_text, part_refusal, after_end, end_text, end_refusal}
use Rattle.bus_lines.specs.Ends.{text_so_far, whole_text, ReadEnds, WroteSo, IsConverted, EndingHasCause}
use Rattle.bus_lines.specs.Written.{TookBytes, TookEnd, Adds, AddsFront, GoesOn, StopsAt, Stops, ReadOn, ReadLast, Closes, CauseOf, StopCause, ending_of, is_fault, closing_text}
use Rattle.bus_lines.specs.declared.converter.Converter.{Converter}
use Rattle.bus_lines.specs.declared.converter.Halt.{Halt}
use Rattle.bus_lines.specs.declared.converter.Halt.TheVariants as halts
use Rattle.bus_lines.specs.declared.reader.RecordingReader.{RecordingReader}
use Rattle.bus_lines.specs.declared.writing.Ending.{Ending}
use Rattle.bus_lines.specs.declared.writing.Ending.TheVariants as endings
use Rattle.bus_lines.proofs.PieceLaws.{joins, few_bytes}
use Rattle.bus_lines.proofs.TakingLaws.{for_one}

-- ---- one piece

-- where nothing is taken, nothing is added
pub adds_nothing : (text : List ℕ) (held : Option (List ℕ)) → Adds [] text text held held
adds_nothing text held before first owed = subst (λ (l : List ℕ). Owed l text first held) (sym (append-nil before)) owed

pub goes_nowhere : (c : Converter) (text : List ℕ) (held : Option (List ℕ)) → GoesOn [] c c text text held held
unfolding after_bytes bytes_text bytes_refusal
goes_nowhere c text held = record { state = refl; going = refl; adds = adds_nothing text held }

-- the bytes of a piece were taken
pub piece_goes_on : (bytes : List ℕ) (old new : Converter) (text0 text : List ℕ) (held0 held : Option (List ℕ)) →
    ((before : List ℕ) (first : Option (List ℕ)) → Owed before text0 first held0 → TookBytes bytes before old new text first held (Ok tt)) →
    GoesOn bytes old new text0 text held0 held
piece_goes_on bytes old new text0 text held0 held took =
    let facts : (new ≡ after_bytes bytes old) × (bytes_refusal bytes old ≡ None) = for_one text0 held0 (λ before first owed. let x = took before first owed in (x.0, x.1)) in
    record { state = facts.0; going = facts.1; adds = λ before first owed. (took before first owed).2 }

pub piece_refused : (bytes : List ℕ) (because : RecordingRefusal) (old new : Converter) (text0 text : List ℕ) (held0 held : Option (List ℕ)) →
    ((before : List ℕ) (first : Option (List ℕ)) → Owed before text0 first held0 → TookBytes bytes before old new text first held (Err (halts.Refused because))) →
    Stops false bytes old new text0 text held0 held (endings.Refused because)
piece_refused bytes because old new text0 text held0 held took =
    let facts : (new ≡ after_bytes bytes old) × (bytes_refusal bytes old ≡ Some because) = for_one text0 held0 (λ before first owed. let x = took before first owed in (x.0, x.1)) in
    record { state = facts.0; why = facts.1; adds = λ before first owed. (took before first owed).2 }

-- the recording's end
pub end_stops : (done : Result (Unit {0}) Halt) (old new : Converter) (text0 text : List ℕ) (held0 held : Option (List ℕ)) →
    ((before : List ℕ) (first : Option (List ℕ)) → Owed before text0 first held0 → TookEnd before old new text first held done) →
    Stops true [] old new text0 text held0 held (ending_of done)
unfolding after_bytes bytes_text
end_stops (Ok done) old new text0 text held0 held took =
    let facts : (new ≡ after_end old) × (end_refusal old ≡ None) = for_one text0 held0 (λ before first owed. let x = took before first owed in (x.0, x.1)) in
    (refl, record { state = facts.0; why = facts.1; adds = λ before first owed. (took before first owed).2 })
end_stops (Err (halts.Refused because)) old new text0 text held0 held took =
    let facts : (new ≡ after_end old) × (end_refusal old ≡ Some because) = for_one text0 held0 (λ before first owed. let x = took before first owed in (x.0, x.1)) in
    record { state = facts.0; why = facts.1; adds = λ before first owed. (took before first owed).2 }
end_stops (Err halts.WriteFault) old new text0 text held0 held took = took

-- a read failed
pub read_stops : (c : Converter) (text : List ℕ) (held : Option (List ℕ)) → Stops false [] c c text text held held endings.ReadFault
unfolding after_bytes bytes_text bytes_refusal
read_stops c text held = (refl, record { state = refl; why = refl; adds = adds_nothing text held })

pub no_refusal : (c : Converter) → bytes_refusal [] c ≡ None
unfolding bytes_refusal
no_refusal c = refl

-- ---- one piece after others

module _ (xs ys : List ℕ) (c0 c c' : Converter) (text0 text text' : List ℕ) (held0 held held' : Option (List ℕ)) (on : GoesOn xs c0 c text0 text held0 held) where
  adds_both : (more both : List ℕ) → both ≡ bytes_text xs c0 ++ more → Adds more text text' held held' → Adds both text0 text' held0 held'
  adds_both more both is adds before first owed =
      subst (λ (l : List ℕ). Owed l text' first held') (append_assoc before (bytes_text xs c0) more ∙ ap (λ (l : List ℕ). before ++ l) (sym is))
      (adds (before ++ bytes_text xs c0) first (on.adds before first owed))

  front_both : (more both : List ℕ) → both ≡ bytes_text xs c0 ++ more → AddsFront more text held held' → AddsFront both text0 held0 held'
  front_both more both is adds before first owed =
      subst (λ (l : List ℕ). GrowsByFront first held' l) (append_assoc before (bytes_text xs c0) more ∙ ap (λ (l : List ℕ). before ++ l) (sym is))
      (adds (before ++ bytes_text xs c0) first (on.adds before first owed))

  text_both : bytes_text (xs ++ ys) c0 ≡ bytes_text xs c0 ++ bytes_text ys c
  text_both = (joins xs ys c0 on.going).text ∙ ap (λ (d : Converter). bytes_text xs c0 ++ bytes_text ys d) (sym on.state)

  state_both : after_bytes (xs ++ ys) c0 ≡ after_bytes ys c
  state_both = (joins xs ys c0 on.going).state ∙ ap (λ (d : Converter). after_bytes ys d) (sym on.state)

  refusal_both : bytes_refusal (xs ++ ys) c0 ≡ bytes_refusal ys c
  refusal_both = (joins xs ys c0 on.going).refusal ∙ ap (λ (d : Converter). bytes_refusal ys d) (sym on.state)

  pub goes_on_both : GoesOn ys c c' text text' held held' → GoesOn (xs ++ ys) c0 c' text0 text' held0 held'
  unfolding text_both state_both refusal_both
  goes_on_both next = record {
    state = next.state ∙ sym state_both;
    going = refusal_both ∙ next.going;
    adds = adds_both (bytes_text ys c) (bytes_text (xs ++ ys) c0) text_both next.adds;
  }

  after_both : (ended : Bool) → after_part ended (xs ++ ys) c0 ≡ after_part ended ys c
  after_both false = state_both
  after_both true = ap after_end state_both

  part_text_both : (ended : Bool) → part_text ended (xs ++ ys) c0 ≡ bytes_text xs c0 ++ part_text ended ys c
  part_text_both false = text_both
  part_text_both true =
      ap (λ (d : Converter). bytes_text (xs ++ ys) c0 ++ end_text d) state_both
      ∙ ap (λ (l : List ℕ). l ++ end_text (after_bytes ys c)) text_both
      ∙ append_assoc (bytes_text xs c0) (bytes_text ys c) (end_text (after_bytes ys c))

  part_refusal_both : (ended : Bool) → part_refusal ended (xs ++ ys) c0 ≡ part_refusal ended ys c
  part_refusal_both false = refusal_both
  part_refusal_both true = ap end_refusal state_both

  stops_at_both : (ended : Bool) (refusal : Option RecordingRefusal) → StopsAt ended ys refusal c c' text text' held held' →
      StopsAt ended (xs ++ ys) refusal c0 c' text0 text' held0 held'
  stops_at_both ended refusal next = record {
    state = next.state ∙ sym (after_both ended);
    why = part_refusal_both ended ∙ next.why;
    adds = adds_both (part_text ended ys c) (part_text ended (xs ++ ys) c0) (part_text_both ended) next.adds;
  }

  pub stops_both : (ended : Bool) (ending : Ending) → Stops ended ys c c' text text' held held' ending → Stops ended (xs ++ ys) c0 c' text0 text' held0 held' ending
  stops_both ended endings.Done next = (next.0, stops_at_both ended None next.1)
  stops_both ended (endings.Refused because) next = stops_at_both ended (Some because) next
  stops_both ended endings.ReadFault next = (next.0, stops_at_both ended None next.1)
  stops_both ended endings.WriteFault next = front_both (part_text ended ys c) (part_text ended (xs ++ ys) c0) (part_text_both ended) next

  pub going_both : bytes_refusal ys c ≡ None → bytes_refusal (xs ++ ys) c0 ≡ None
  going_both none = refusal_both ∙ none

-- ---- all pieces

-- what was read so far of at most one byte more than a recording has
pub record Reading (left : ℕ) (left0 left1 : Option (List ℕ)) (c0 c : Converter) (text0 text : List ℕ) (held0 held : Option (List ℕ)) : Type 0 where
  pub input : List ℕ
  pub consumed : Consumes left0 left1 input
  pub counted : left + length input ≡ suc text_limit
  pub on : GoesOn input c0 c text0 text held0 held

pub reading_starts : (left0 : Option (List ℕ)) (c : Converter) (text : List ℕ) (held : Option (List ℕ)) → Reading 8589934593 left0 left0 c c text text held held
reading_starts left0 c text held = record { input = []; consumed = Consumes-nil left0; counted = omega arith; on = goes_nowhere c text held }

-- as long as no byte was refused, a byte may still come
pub reading_some : (left : ℕ) (left0 left1 : Option (List ℕ)) (c0 c : Converter) (text0 text : List ℕ) (held0 held : Option (List ℕ)) →
    Reading left left0 left1 c0 c text0 text held0 held → 0 < left
reading_some left left0 left1 c0 c text0 text held0 held r =
    let few : length r.input ≤ text_limit = few_bytes r.input c0 r.on.going in
    let counted = r.counted in
    omega (arith, few, counted)

module _ (left : ℕ) (left0 left1 left2 : Option (List ℕ)) (c0 c c' : Converter) (text0 text text' : List ℕ) (held0 held held' : Option (List ℕ))
    (r : Reading left left0 left1 c0 c text0 text held0 held) where
  pub reading_goes_on : (room count : ℕ) → room ≤ left → ReadOn room left1 left2 c c' text text' held held' count → Reading (left - count) left0 left2 c0 c' text0 text' held0 held'
  reading_goes_on room count fits next =
      let long : length (r.input ++ next.piece) ≡ length r.input + length next.piece = length-append r.input next.piece in
      let counted = r.counted in
      record {
        input = r.input ++ next.piece;
        consumed = Consumes-trans left0 left1 left2 r.input next.piece r.consumed next.consumed;
        counted = omega (arith, long, next.long, next.fits, fits, counted);
        on = goes_on_both r.input next.piece c0 c c' text0 text text' held0 held held' r.on next.on;
      }

  pub reading_ends : (room : ℕ) (ending : Ending) → room ≤ left → ReadLast room left1 left2 c c' text text' held held' ending →
      ReadLast (suc text_limit) left0 left2 c0 c' text0 text' held0 held' ending
  reading_ends room ending fits last =
      let long : length (r.input ++ last.piece) ≡ length r.input + length last.piece = length-append r.input last.piece in
      let counted = r.counted in
      record {
        piece = r.input ++ last.piece;
        consumed = Consumes-trans left0 left1 left2 r.input last.piece r.consumed last.consumed;
        fits = omega (arith, long, last.fits, fits, counted);
        ended = last.ended;
        end = λ is. let e = last.end is in (e.0, going_both r.input last.piece c0 c c' text0 text text' held0 held held' r.on e.1);
        stops = stops_both r.input last.piece c0 c c' text0 text text' held0 held held' r.on last.ended ending last.stops;
      }

-- a piece has bytes, and no more than are left
pub room_some : (piece : List ℕ) (left room : ℕ) → length piece ≡ 4096 → 0 < left → room ≡ min left 4096 →
    (0 < length (take room piece)) × (length (take room piece) ≤ left)
room_some piece left room whole some is =
    let long : length (take room piece) ≡ min room (length piece) = length-take room piece in
    (omega (arith, long, whole, some, is), omega (arith, long, whole, some, is))

-- ---- the end

-- what finishing shows
pub record Finishes (c : Converter) (ending : Ending) (text : List ℕ) (held0 held1 : Option (List ℕ)) (sink0 sink1 : ℕ) (result : Ending) : Type 0 where
  pub fault : is_fault ending ≡ true → (result ≡ ending) × (held1 ≡ held0) × (sink1 ≡ sink0)
  pub closes : is_fault ending ≡ false → Closes (closing_text ending c) ending text held0 held1 sink0 sink1 result
  pub later : sink0 ≤ sink1

-- nothing is written yet of the header
header_owed : (held : Option (List ℕ)) → Owed header header held held
header_owed held = record { done = []; made = refl; added = Appends-nil held }

module _ (reader : RecordingReader) (ended : Bool) (bytes : List ℕ) where
  -- how the reading ended, and where it stopped, if no write failed
  stopped : (ending : Ending) (new : Converter) (text0 text : List ℕ) (held0 held : Option (List ℕ)) → is_fault ending ≡ false →
      Stops ended bytes (started reader) new text0 text held0 held ending →
      ReadEnds reader ended bytes ending × (new ≡ after_part ended bytes (started reader)) × Adds (part_text ended bytes (started reader)) text0 text held0 held
  stopped endings.Done new text0 text held0 held fine s = ((s.0, s.1.why), s.1.state, s.1.adds)
  stopped (endings.Refused because) new text0 text held0 held fine s = (s.why, s.state, s.adds)
  stopped endings.ReadFault new text0 text held0 held fine s = ((s.0, s.1.why), s.1.state, s.1.adds)
  stopped endings.WriteFault new text0 text held0 held fine s = absurd (cc)

  wrote_whole : (ending : Ending) (held0 held1 : Option (List ℕ)) → is_fault ending ≡ false → ReadEnds reader ended bytes ending →
      Appends held0 held1 (whole_text reader ended bytes ending) → WroteSo reader ended bytes held0 held1 ending
  wrote_whole endings.Done held0 held1 fine read wrote = (read, wrote)
  wrote_whole (endings.Refused because) held0 held1 fine read wrote = (read, wrote)
  wrote_whole endings.ReadFault held0 held1 fine read wrote = (read, wrote)
  wrote_whole endings.WriteFault held0 held1 fine read wrote = absurd (cc)

  -- the whole text, or a front of it
  wrote_fine : (ending : Ending) (new : Converter) (text : List ℕ) (held0 held held1 : Option (List ℕ)) (sink0 sink1 : ℕ) (result : Ending) → is_fault ending ≡ false →
      Stops ended bytes (started reader) new header text held0 held ending →
      Closes (closing_text ending new) ending text held held1 sink0 sink1 result → WroteSo reader ended bytes held0 held1 result
  wrote_fine ending new text held0 held held1 sink0 sink1 result fine s closes =
      let at = stopped ending new header text held0 held fine s in
      let all : text_so_far reader ended bytes ++ closing_text ending new ≡ whole_text reader ended bytes ending =
      ap (λ (c : Converter). text_so_far reader ended bytes ++ closing_text ending c) at.1 in
      ⊎_elim
      (λ done. subst (λ (r : Ending). WroteSo reader ended bytes held0 held1 r) (sym done.0)
      (wrote_whole ending held0 held1 fine at.0 (subst (λ (l : List ℕ). Appends held0 held1 l) all done.1)))
      (λ failed. subst (λ (r : Ending). WroteSo reader ended bytes held0 held1 r) (sym failed.0)
      (inr (ending, at.0, subst (λ (l : List ℕ). GrowsByFront held0 held1 l) all failed.1)))
      (closes (text_so_far reader ended bytes) held0 (at.2 header held0 (header_owed held0)))

  -- a write failed before the end
  wrote_front : (ending : Ending) (new : Converter) (text : List ℕ) (held0 held held1 : Option (List ℕ)) (result : Ending) → is_fault ending ≡ true →
      Stops ended bytes (started reader) new header text held0 held ending → (result ≡ ending) → (held1 ≡ held) → WroteSo reader ended bytes held0 held1 result
  wrote_front endings.WriteFault new text held0 held held1 result is s same kept =
      subst (λ (r : Ending). WroteSo reader ended bytes held0 held1 r) (sym same)
      (inl (subst (λ (h : Option (List ℕ)). GrowsByFront held0 h (text_so_far reader ended bytes)) (sym kept) (s header held0 (header_owed held0))))
  wrote_front endings.Done new text held0 held held1 result is s same kept = absurd (cc)
  wrote_front (endings.Refused because) new text held0 held held1 result is s same kept = absurd (cc)
  wrote_front endings.ReadFault new text held0 held held1 result is s same kept = absurd (cc)

  pub wrote_so : (fault : Bool) (ending : Ending) (new : Converter) (text : List ℕ) (held0 held held1 : Option (List ℕ)) (sink0 sink1 : ℕ) (result : Ending) →
      is_fault ending ≡ fault → Stops ended bytes (started reader) new header text held0 held ending →
      Finishes new ending text held held1 sink0 sink1 result → WroteSo reader ended bytes held0 held1 result
  wrote_so true ending new text held0 held held1 sink0 sink1 result is s f =
      let same = f.fault is in wrote_front ending new text held0 held held1 result is s same.0 same.1
  wrote_so false ending new text held0 held held1 sink0 sink1 result is s f =
      wrote_fine ending new text held0 held held1 sink0 sink1 result is s (f.closes is)

-- the capture of a recording
pub converted : (reader : RecordingReader) (left0 left1 held0 held held1 : Option (List ℕ)) (new : Converter) (text : List ℕ) (sink0 sink1 : ℕ) (ending result : Ending) →
    ReadLast (suc text_limit) left0 left1 (started reader) new header text held0 held ending →
    Finishes new ending text held held1 sink0 sink1 result → IsConverted reader left0 left1 held0 held1 result
converted reader left0 left1 held0 held held1 new text sink0 sink1 ending result last f = record {
  input = last.piece;
  short = last.fits;
  consumed = last.consumed;
  ended = last.ended;
  end = last.end;
  wrote = wrote_so reader last.ended last.piece (is_fault ending) ending new text held0 held held1 sink0 sink1 result refl last.stops f;
}

-- ---- causes

-- a source that fails later
cause_kept : (source source' sink sink' sink'' : ℕ) (ending : Ending) → is_fault ending ≡ false → CauseOf source source' sink sink' ending →
    CauseOf source source' sink sink'' ending
cause_kept source source' sink sink' sink'' endings.Done fine cause = tt
cause_kept source source' sink sink' sink'' (endings.Refused because) fine cause = tt
cause_kept source source' sink sink' sink'' endings.ReadFault fine cause = cause
cause_kept source source' sink sink' sink'' endings.WriteFault fine cause = absurd (cc)

cause_so : (fault : Bool) (new : Converter) (text : List ℕ) (held held1 : Option (List ℕ)) (source source' sink sink' sink'' : ℕ) (ending result : Ending) →
    is_fault ending ≡ fault → Finishes new ending text held held1 sink' sink'' result → sink ≤ sink' → CauseOf source source' sink sink' ending →
    CauseOf source source' sink sink'' result
cause_so true new text held held1 source source' sink sink' sink'' ending result is f later cause =
    let same = f.fault is in
    subst (λ (r : Ending). CauseOf source source' sink sink'' r) (sym same.0) (subst (λ (n : ℕ). CauseOf source source' sink n ending) (sym same.2) cause)
cause_so false new text held held1 source source' sink sink' sink'' ending result is f later cause =
    ⊎_elim (λ done. subst (λ (r : Ending). CauseOf source source' sink sink'' r) (sym done.0) (cause_kept source source' sink sink' sink'' ending is cause))
    (λ failed. subst (λ (r : Ending). CauseOf source source' sink sink'' r) (sym failed.0) (let rose = failed.2 in omega (arith, rose, later)))
    (f.closes is text None record { done = []; made = refl; added = tt })

pub converted_cause : (new : Converter) (text : List ℕ) (held held1 : Option (List ℕ)) (source source' sink sink' sink'' : ℕ) (ending result : Ending) →
    EndingHasCause source source' sink sink' ending → Finishes new ending text held held1 sink' sink'' result → EndingHasCause source source' sink sink'' result
converted_cause new text held held1 source source' sink sink' sink'' ending result cause f = record {
  reads = cause.reads;
  writes = let a = cause.writes in let b = f.later in omega (arith, a, b);
  cause = cause_so (is_fault ending) new text held held1 source source' sink sink' sink'' ending result refl f cause.writes cause.cause;
}

-- why the taking of bytes, or of their end, stopped
pub stop_later : (done : Result (Unit {0}) Halt) (before now : ℕ) → StopCause before now done → before ≤ now
stop_later (Ok done) before now cause = cause
stop_later (Err (halts.Refused because)) before now cause = cause
stop_later (Err halts.WriteFault) before now cause = cause.0

pub stop_cause : (done : Result (Unit {0}) Halt) (source source' sink sink' : ℕ) → StopCause sink sink' done → CauseOf source source' sink sink' (ending_of done)
stop_cause (Ok done) source source' sink sink' cause = tt
stop_cause (Err (halts.Refused because)) source source' sink sink' cause = tt
stop_cause (Err halts.WriteFault) source source' sink sink' cause = cause.1

-- a text is added to what is held back
pub owed_more : (all more text text' : List ℕ) (first held : Option (List ℕ)) → text' ≡ text ++ more → Owed all text first held → Owed (all ++ more) text' first held
owed_more all more text text' first held is owed = record {
  done = owed.done;
  made = ap (λ (l : List ℕ). l ++ more) owed.made ∙ append_assoc owed.done text more ∙ ap (λ (l : List ℕ). owed.done ++ l) (sym is);
  added = owed.added;
}
