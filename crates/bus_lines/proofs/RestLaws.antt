-- A text that is added part by part: what came before a part was added, and the rest is left.
use Rattle.std.proofs.Common.{◌≡◌, ℕ, List, [], ◌++◌, refl, ap, sym, ◌∙◌, subst, append_assoc, append-nil, Option, Some, None, Result, Ok, Err}
use Rattle.bus_outside.specs.Causes.{GrowsByFront, WriteAdds}
use Rattle.bus_outside.proofs.Writes.{front_then}
use Rattle.bus_monitor.proofs.WriterLaws.{wrote, owed-front}
use Rattle.bus_monitor.specs.Scribes.{Owed}
use Rattle.bus_lines.specs.Written.{OwedOr}

-- a front of a part is a front of the whole
pub longer : (first held : Option (List ℕ)) (part more whole : List ℕ) → part ++ more ≡ whole → GrowsByFront first held part → GrowsByFront first held whole
longer None held part more whole is front = tt
longer (Some a) None part more whole is front = absurd front
longer (Some a) (Some b) part more whole is front =
    subst (λ (l : List ℕ). GrowsByFront (Some a) (Some b) l) is
    (front_then (Some a) (Some a) (Some b) [] part more (sym (append-nil a)) front)

-- of a text that was to be added a rest is left
abbrev pub Rests : List ℕ → List ℕ → List ℕ → List ℕ → Option (List ℕ) → Option (List ℕ) → Type 0
Rests whole rest text0 text held0 held = (before : List ℕ) (first : Option (List ℕ)) → Owed before text0 first held0 →
    (so : List ℕ) × (before ++ whole ≡ so ++ rest) × Owed so text first held

pub rests_all : (whole text : List ℕ) (held : Option (List ℕ)) → Rests whole whole text text held held
rests_all whole text held before first owed = (before, refl, owed)

-- the next part was added
pub rests_on : (whole rest part rest' text0 text text' : List ℕ) (held0 held held' : Option (List ℕ)) → rest ≡ part ++ rest' →
    Rests whole rest text0 text held0 held →
    ((before : List ℕ) (first : Option (List ℕ)) → Owed before text first held → Owed (before ++ part) text' first held') →
    Rests whole rest' text0 text' held0 held'
rests_on whole rest part rest' text0 text text' held0 held held' is r one before first owed =
    let so = r before first owed in (
      so.0 ++ part,
      so.1 ∙ ap (λ (l : List ℕ). so.0 ++ l) is ∙ sym (append_assoc so.0 part rest'),
      one so.0 first so.2,
    )

-- nothing is left
pub rests_none : (whole rest text0 text : List ℕ) (held0 held : Option (List ℕ)) → rest ≡ [] → Rests whole rest text0 text held0 held →
    (before : List ℕ) (first : Option (List ℕ)) → Owed before text0 first held0 → Owed (before ++ whole) text first held
rests_none whole rest text0 text held0 held none r before first owed =
    let so = r before first owed in
    subst (λ (l : List ℕ). Owed l text first held) (sym (so.1 ∙ ap (λ (l : List ℕ). so.0 ++ l) none ∙ append-nil so.0)) so.2

-- a write of the next part failed
pub rests_fail : (whole rest part rest' text0 text : List ℕ) (held0 held held' : Option (List ℕ)) → rest ≡ part ++ rest' →
    Rests whole rest text0 text held0 held →
    ((before : List ℕ) (first : Option (List ℕ)) → Owed before text first held → GrowsByFront first held' (before ++ part)) →
    (before : List ℕ) (first : Option (List ℕ)) → Owed before text0 first held0 → GrowsByFront first held' (before ++ whole)
rests_fail whole rest part rest' text0 text held0 held held' is r one before first owed =
    let so = r before first owed in
    longer first held' (so.0 ++ part) rest' (before ++ whole)
    (append_assoc so.0 part rest' ∙ sym (so.1 ∙ ap (λ (l : List ℕ). so.0 ++ l) is))
    (one so.0 first so.2)

-- a text that is held back is written
pub written_all : {T E : Type 0} (all text : List ℕ) (first held held' : Option (List ℕ)) (result : Result T E) → Owed all text first held →
    WriteAdds held held' result text → OwedOr all [] first held' result
written_all all text first held held' (Ok done) owed added = wrote all text first held held' owed added
written_all all text first held held' (Err failed) owed added = owed-front all text first held held' owed added
