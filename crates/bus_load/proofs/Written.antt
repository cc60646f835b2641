-- A text that is written piece by piece.
use Rattle.std.proofs.Common.{◌≡◌, ℕ, suc, ◌+◌, ◌<◌, true, false, List, [], ◌∷◌, ◌++◌, length, get_or, drop, Option, Some, None, refl, arith, ap, sym, ◌∙◌, append_assoc, append-nil, add-one, subst, drop-cons}
use Rattle.std.specs.Io.KnownBytes.{Appends}
use Rattle.bus_formats.specs.Plans.{FrameData, PlanData}
use Rattle.bus_load.specs.Lines.{frame_line, frame_lines}
use Rattle.bus_load.specs.Load.{frame_cost}
use Rattle.bus_outside.specs.Causes.{GrowsByFront}
use Rattle.bus_outside.proofs.Writes.{appends_then, front_then}

-- of the whole text a front was added, and this rest is left
pub record Halfway (a b : Option (List ℕ)) (whole rest : List ℕ) : Type 0 where
  pub front : List ℕ
  pub is : whole ≡ front ++ rest
  pub added : Appends a b front

added_none : (a : Option (List ℕ)) → Appends a a []
added_none None = tt
added_none (Some held) = sym (append-nil held)

-- nothing was added yet
pub halfway_start : (a : Option (List ℕ)) (whole : List ℕ) → Halfway a a whole whole
halfway_start a whole = record { front = []; is = refl; added = added_none a }

-- the next piece was added
pub halfway_more : (a b c : Option (List ℕ)) (whole rest piece later : List ℕ) → Halfway a b whole rest → rest ≡ piece ++ later →
    Appends b c piece → Halfway a c whole later
halfway_more a b c whole rest piece later half is k = record {
  front = half.front ++ piece;
  is = half.is ∙ ap (λ xs. half.front ++ xs) is ∙ sym (append_assoc half.front piece later);
  added = appends_then a b c half.front piece half.added k;
}

-- a front of the next piece was added
pub halfway_front : (a b c : Option (List ℕ)) (whole rest piece later : List ℕ) → Halfway a b whole rest → rest ≡ piece ++ later →
    GrowsByFront b c piece → GrowsByFront a c whole
halfway_front a b c whole rest piece later half is k =
    subst (λ text. GrowsByFront a c text) (sym (half.is ∙ ap (λ xs. half.front ++ xs) is)) (front_then a b c half.front piece later half.added k)

-- nothing is left
pub halfway_end : (a b : Option (List ℕ)) (whole rest : List ℕ) → Halfway a b whole rest → rest ≡ [] → Appends a b whole
halfway_end a b whole rest half is =
    subst (λ text. Appends a b text) (sym (half.is ∙ ap (λ xs. half.front ++ xs) is ∙ append-nil half.front)) half.added

-- a front of a text is one of the text with more after it
pub front_of : (a c : Option (List ℕ)) (ys zs : List ℕ) → GrowsByFront a c ys → GrowsByFront a c (ys ++ zs)
front_of a c ys zs k = front_then a a c [] ys zs (added_none a) k

-- ---- the lines of frames

abbrev pub frame_piece : PlanData → ℕ → FrameData → List ℕ
frame_piece plan number f = frame_line number f.ticks (frame_cost false plan number) (frame_cost true plan number)

pub piece_by : (plan : PlanData) (number ticks : ℕ) (f : FrameData) (piece : List ℕ) → ticks ≡ f.ticks →
    piece ≡ frame_line number ticks (frame_cost false plan number) (frame_cost true plan number) → piece ≡ frame_piece plan number f
piece_by plan number ticks f piece same is = is ∙ ap (λ t. frame_line number t (frame_cost false plan number) (frame_cost true plan number)) same

-- the lines of the frames from a place on begin with that of the frame there
next_frame : (plan : PlanData) (frames : List FrameData) (n i : ℕ) (f : FrameData) (piece : List ℕ) → n ≡ i → i < length frames → f ≡ get_or frames i f →
    piece ≡ frame_piece plan (n + 1) f →
    frame_lines plan (suc i) (drop i frames) ≡ piece ++ frame_lines plan (suc (i + 1)) (drop (i + 1) frames)
next_frame plan frames n i f piece same within is piece_is =
    let here : drop i frames ≡ f ∷ drop (i + 1) frames =
    drop-cons frames i f within ∙ ap (λ x. x ∷ drop (suc i) frames) (sym is) ∙ ap (λ m. f ∷ drop m frames) (sym (add-one i)) in
    let one : suc i ≡ n + 1 = omega (arith, same) in
    let two : n + 1 + 1 ≡ suc (i + 1) = omega (arith, same) in
    ap (λ m. frame_lines plan m (drop i frames)) one
    ∙ (ap (frame_lines plan (n + 1)) here
    ∙ (ap (λ m. frame_piece plan (n + 1) f ++ frame_lines plan m (drop (i + 1) frames)) two
    ∙ ap (λ p. p ++ frame_lines plan (suc (i + 1)) (drop (i + 1) frames)) (sym piece_is)))

-- the line of the frame at a place was added
pub frame_more : (a b c : Option (List ℕ)) (plan : PlanData) (frames : List FrameData) (n i : ℕ) (f : FrameData) (piece : List ℕ) → n ≡ i → i < length frames →
    f ≡ get_or frames i f → piece ≡ frame_piece plan (n + 1) f → Halfway a b (frame_lines plan 1 frames) (frame_lines plan (suc i) (drop i frames)) → Appends b c piece →
    Halfway a c (frame_lines plan 1 frames) (frame_lines plan (suc (i + 1)) (drop (i + 1) frames))
frame_more a b c plan frames n i f piece same within is piece_is half k =
    halfway_more a b c (frame_lines plan 1 frames) (frame_lines plan (suc i) (drop i frames)) piece (frame_lines plan (suc (i + 1)) (drop (i + 1) frames)) half
    (next_frame plan frames n i f piece same within is piece_is) k

-- a front of it was added
pub frame_front : (a b c : Option (List ℕ)) (plan : PlanData) (frames : List FrameData) (n i : ℕ) (f : FrameData) (piece : List ℕ) → n ≡ i → i < length frames →
    f ≡ get_or frames i f → piece ≡ frame_piece plan (n + 1) f → Halfway a b (frame_lines plan 1 frames) (frame_lines plan (suc i) (drop i frames)) → GrowsByFront b c piece →
    GrowsByFront a c (frame_lines plan 1 frames)
frame_front a b c plan frames n i f piece same within is piece_is half k =
    halfway_front a b c (frame_lines plan 1 frames) (frame_lines plan (suc i) (drop i frames)) piece (frame_lines plan (suc (i + 1)) (drop (i + 1) frames)) half
    (next_frame plan frames n i f piece same within is piece_is) k

-- before the first frame
pub frames_start : (a : Option (List ℕ)) (plan : PlanData) (frames : List FrameData) → Halfway a a (frame_lines plan 1 frames) (frame_lines plan 1 (drop 0 frames))
frames_start a plan [] = halfway_start a []
frames_start a plan (f ∷ frames) = halfway_start a (frame_lines plan 1 (f ∷ frames))

no_frame : (plan : PlanData) (number : ℕ) (frames : List FrameData) → frame_lines plan number (drop (length frames) frames) ≡ []
no_frame plan number [] = refl
no_frame plan number (f ∷ frames) = no_frame plan number frames

-- after the last one
pub frames_end : (a b : Option (List ℕ)) (plan : PlanData) (frames : List FrameData) → Halfway a b (frame_lines plan 1 frames)
    (frame_lines plan (suc (length frames)) (drop (length frames) frames)) → Appends a b (frame_lines plan 1 frames)
frames_end a b plan frames half =
    halfway_end a b (frame_lines plan 1 frames) (frame_lines plan (suc (length frames)) (drop (length frames) frames)) half (no_frame plan (suc (length frames)) frames)
