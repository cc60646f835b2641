-- The bytes of a piece are taken one after the other.
use Rattle.std.proofs.Common.{◌≡◌, ℕ, ◌+◌, ◌<◌, ◌≤◌, List, [], ◌∷◌, ◌++◌, length, drop, get_or, drop-cons, add-one, refl, ap, sym, ◌∙◌, subst, Option, Some, None, Ok, Err}
use Rattle.std.proofs.lemmas.List.{drop_all}
use Rattle.bus_monitor.specs.Scribes.{Owed}
use Rattle.bus_recording.specs.declared.refusal.RecordingRefusal.{RecordingRefusal}
use Rattle.bus_lines.specs.Converting.{after_byte, byte_text, byte_refusal, where_refused, after_bytes, bytes_text, bytes_refusal}
use Rattle.bus_lines.specs.Written.{TookByte, TookBytes}
use Rattle.bus_lines.specs.declared.converter.Converter.{Converter}
use Rattle.bus_lines.specs.declared.converter.Halt.{Halt}
use Rattle.bus_lines.specs.declared.converter.Halt.TheVariants as halts
use Rattle.bus_lines.proofs.PieceLaws.{state_on, text_on, refusal_on}
use Rattle.bus_lines.proofs.RestLaws.{Rests, rests_all, rests_on, rests_none, rests_fail}

-- some bytes of a piece are taken, and none was refused; these are left
pub record Taking (bytes left : List ℕ) (c0 c : Converter) (text0 text : List ℕ) (held0 held : Option (List ℕ)) : Type 0 where
  pub state : after_bytes left c ≡ after_bytes bytes c0
  pub refusal : bytes_refusal left c ≡ bytes_refusal bytes c0
  pub texts : Rests (bytes_text bytes c0) (bytes_text left c) text0 text held0 held

pub taking_starts : (bytes : List ℕ) (c : Converter) (text : List ℕ) (held : Option (List ℕ)) → Taking bytes bytes c c text text held held
taking_starts bytes c text held = record { state = refl; refusal = refl; texts = rests_all (bytes_text bytes c) text held }

-- what was told to each caller, told to one that knows only what is held back
pub for_one : {P : Type 0} (text : List ℕ) (held : Option (List ℕ)) → ((before : List ℕ) (first : Option (List ℕ)) → Owed before text first held → P) → P
for_one text held told = told text None record { done = []; made = refl; added = tt }

pub taking_goes_on : (byte : ℕ) (bytes left : List ℕ) (c0 c c' : Converter) (text0 text text' : List ℕ) (held0 held held' : Option (List ℕ)) →
    Taking bytes (byte ∷ left) c0 c text0 text held0 held →
    ((before : List ℕ) (first : Option (List ℕ)) → Owed before text first held → TookByte byte before c c' text' first held' (Ok tt)) →
    Taking bytes left c0 c' text0 text' held0 held'
taking_goes_on byte bytes left c0 c c' text0 text text' held0 held held' t took =
    let facts : (c' ≡ after_byte byte c) × (byte_refusal byte c ≡ None) = for_one text held (λ before first owed. let x = took before first owed in (x.0, x.1)) in
    let none = facts.1 in
    subst (λ (x : Converter). Taking bytes left c0 x text0 text' held0 held') (sym facts.0) record {
      state = sym (state_on byte left c none) ∙ t.state;
      refusal = sym (refusal_on byte left c none) ∙ t.refusal;
      texts = rests_on (bytes_text bytes c0) (bytes_text (byte ∷ left) c) (byte_text byte c) (bytes_text left (after_byte byte c)) text0 text text' held0 held held'
          (text_on byte left c none) t.texts (λ before first owed. (took before first owed).2);
    }

-- a byte that is refused is the last
state_at : (byte : ℕ) (left : List ℕ) (c : Converter) (because : RecordingRefusal) → byte_refusal byte c ≡ Some because →
    after_bytes (byte ∷ left) c ≡ after_byte byte c
unfolding after_bytes
state_at byte left c because some = ap (λ (o : Option RecordingRefusal). where_refused o (after_byte byte c) (after_bytes left (after_byte byte c))) some

text_at : (byte : ℕ) (left : List ℕ) (c : Converter) (because : RecordingRefusal) → byte_refusal byte c ≡ Some because →
    bytes_text (byte ∷ left) c ≡ byte_text byte c ++ []
unfolding bytes_text
text_at byte left c because some =
    ap (λ (o : Option RecordingRefusal). byte_text byte c ++ where_refused o [] (bytes_text left (after_byte byte c))) some

refusal_at : (byte : ℕ) (left : List ℕ) (c : Converter) (because : RecordingRefusal) → byte_refusal byte c ≡ Some because →
    bytes_refusal (byte ∷ left) c ≡ Some because
unfolding bytes_refusal
refusal_at byte left c because some =
    ap (λ (o : Option RecordingRefusal). where_refused o o (bytes_refusal left (after_byte byte c))) some

-- a part of the text of a byte and more
text_part : (byte : ℕ) (left : List ℕ) (c : Converter) → (rest : List ℕ) × (bytes_text (byte ∷ left) c ≡ byte_text byte c ++ rest)
unfolding bytes_text
text_part byte left c = (where_refused (byte_refusal byte c) [] (bytes_text left (after_byte byte c)), refl)

pub taking_halts : (byte : ℕ) (bytes left : List ℕ) (c0 c c' : Converter) (text0 text text' : List ℕ) (held0 held held' : Option (List ℕ)) (halt : Halt) →
    Taking bytes (byte ∷ left) c0 c text0 text held0 held →
    ((before : List ℕ) (first : Option (List ℕ)) → Owed before text first held → TookByte byte before c c' text' first held' (Err halt)) →
    (before : List ℕ) (first : Option (List ℕ)) → Owed before text0 first held0 → TookBytes bytes before c0 c' text' first held' (Err halt)
taking_halts byte bytes left c0 c c' text0 text text' held0 held held' (halts.Refused because) t took before first owed =
    let facts : (c' ≡ after_byte byte c) × (byte_refusal byte c ≡ Some because) = for_one text held (λ before first owed. let x = took before first owed in (x.0, x.1)) in (
      facts.0 ∙ sym (state_at byte left c because facts.1) ∙ t.state,
      sym t.refusal ∙ refusal_at byte left c because facts.1,
      rests_none (bytes_text bytes c0) [] text0 text' held0 held' refl
          (rests_on (bytes_text bytes c0) (bytes_text (byte ∷ left) c) (byte_text byte c) [] text0 text text' held0 held held'
          (text_at byte left c because facts.1) t.texts (λ before first owed. (took before first owed).2)) before first owed,
    )
taking_halts byte bytes left c0 c c' text0 text text' held0 held held' halts.WriteFault t took before first owed =
    let part = text_part byte left c in
    rests_fail (bytes_text bytes c0) (bytes_text (byte ∷ left) c) (byte_text byte c) part.0 text0 text held0 held held' part.1 t.texts took before first owed

pub taking_ends : (bytes : List ℕ) (c0 c : Converter) (text0 text : List ℕ) (held0 held : Option (List ℕ)) → Taking bytes [] c0 c text0 text held0 held →
    (before : List ℕ) (first : Option (List ℕ)) → Owed before text0 first held0 → TookBytes bytes before c0 c text first held (Ok tt)
unfolding after_bytes bytes_text bytes_refusal
taking_ends bytes c0 c text0 text held0 held t before first owed =
    (t.state, sym t.refusal, rests_none (bytes_text bytes c0) [] text0 text held0 held refl t.texts before first owed)

-- ---- by the index of the next byte

pub taking_next : (bytes : List ℕ) (i d : ℕ) (c0 c : Converter) (text0 text : List ℕ) (held0 held : Option (List ℕ)) → i < length bytes →
    Taking bytes (drop i bytes) c0 c text0 text held0 held → Taking bytes (get_or bytes i d ∷ drop (i + 1) bytes) c0 c text0 text held0 held
taking_next bytes i d c0 c text0 text held0 held within t =
    let split : drop i bytes ≡ get_or bytes i d ∷ drop (i + 1) bytes =
    drop-cons bytes i d within ∙ ap (λ (n : ℕ). get_or bytes i d ∷ drop n bytes) (sym (add-one i)) in
    subst (λ (l : List ℕ). Taking bytes l c0 c text0 text held0 held) split t

pub taking_last : (bytes : List ℕ) (i : ℕ) (c0 c : Converter) (text0 text : List ℕ) (held0 held : Option (List ℕ)) → length bytes ≤ i →
    Taking bytes (drop i bytes) c0 c text0 text held0 held → Taking bytes [] c0 c text0 text held0 held
taking_last bytes i c0 c text0 text held0 held past t = subst (λ (l : List ℕ). Taking bytes l c0 c text0 text held0 held) (drop_all i bytes past) t
