-- Places among the frames that a controller runs, and the items from a place on.
use Rattle.std.proofs.Common.{◌≡◌, ℕ, zero, suc, ◌+◌, ◌-◌, ◌*◌, ◌<◌, ◌≤◌, List, [], ◌∷◌, ◌++◌, length, take, drop, get_or, Some, refl, sym, ap, ◌∙◌, arith, add-one, drop-cons, length-append, inl, inr}
use Rattle.std.specs.Prelude.{slice_get, All, option_map, ◌==◌}
use Rattle.std.proofs.lemmas.Bool.{cases_lt}
use Rattle.std.proofs.lemmas.Bool.Decides.{nat_tests}
use Rattle.std.proofs.lemmas.List.{drop_all}
use Rattle.std.proofs.lemmas.List.Sums.{sum_by-append, sum_by-cons, sum_by_more_le}
use Rattle.std.proofs.lemmas.List.Elements.{All-get_or}
use Rattle.std.proofs.lemmas.Option.{slice_get-get_or, slice_get_within, get_or_from_slice_get}
use Rattle.bus_formats.specs.Plans.{ItemData, FrameData}
use Rattle.bus_formats.specs.Accepted.{HasItemRanges, HasFrameRanges}
use Rattle.bus_model.specs.Starts.{entries_in, entries_from, repeated}
use Rattle.bus_controller.specs.declared.place.Place.{Place}
use Rattle.bus_controller.specs.Queue.{entries_at, frames_at, entries_of, items_of, IsPlace, HasItem, IsQueue, MayRun, due_of}

-- from its first item on, a list of frames is the whole list
at-start : (number offset : ℕ) (frames : List FrameData) → entries_at number offset 0 frames ≡ entries_from number offset frames
at-start number offset [] = refl
at-start number offset (f ∷ later) = refl

-- the frames from a place within them on
frames-here : (frames : List FrameData) (place : Place) (f : FrameData) → slice_get frames place.frame ≡ Some f →
    frames_at frames place ≡ f ∷ (drop (suc place.frame) frames ++ repeated place.rounds frames)
frames-here frames place f is =
    let within : place.frame < length frames = slice_get_within frames place.frame f is in
    let here : drop place.frame frames ≡ get_or frames place.frame f ∷ drop (suc place.frame) frames = drop-cons frames place.frame f within in
    let same : get_or frames place.frame f ≡ f = get_or_from_slice_get frames place.frame f f is in
    rw (here, same) refl

-- behind the last item of its frame, the items from a place on are those of the frames after
past-frame : (frames : List FrameData) (place : Place) (f : FrameData) → slice_get frames place.frame ≡ Some f → length f.items ≤ place.item →
    entries_of frames place ≡ entries_from (place.number + 1) (place.offset + f.ticks) (drop (suc place.frame) frames ++ repeated place.rounds frames)
unfolding entries_of
past-frame frames place f is over =
    let none : drop place.item f.items ≡ [] = drop_all place.item f.items over in
    rw (frames-here frames place f is) (rw none refl)

-- the place of the frame after this one, in the same round
pub next-same : (frames : List FrameData) (place next : Place) (f : FrameData) → slice_get frames place.frame ≡ Some f → length f.items ≤ place.item →
    next ≡ record { rounds = place.rounds; frame = place.frame + 1; item = 0; number = place.number + 1; offset = place.offset + f.ticks } →
    entries_of frames next ≡ entries_of frames place
unfolding entries_of
next-same frames place next f is over at =
    rw (at, add-one place.frame)
    (at-start (place.number + 1) (place.offset + f.ticks) (drop (suc place.frame) frames ++ repeated place.rounds frames)
    ∙ sym (past-frame frames place f is over))

-- and in the next round
pub next-round : (frames : List FrameData) (place next : Place) (f : FrameData) (r : ℕ) → slice_get frames place.frame ≡ Some f → length f.items ≤ place.item →
    place.frame + 1 ≡ length frames → place.rounds ≡ suc r →
    next ≡ record { rounds = r; frame = 0; item = 0; number = place.number + 1; offset = place.offset + f.ticks } →
    entries_of frames next ≡ entries_of frames place
unfolding entries_of
next-round frames place next f r is over last rounds at =
    let none : drop (suc place.frame) frames ≡ [] = drop_all (suc place.frame) frames (omega (arith, last)) in
    let before : entries_of frames place ≡ entries_from (place.number + 1) (place.offset + f.ticks) (frames ++ repeated r frames) =
    past-frame frames place f is over ∙ (rw (none, rounds) refl) in
    rw at (at-start (place.number + 1) (place.offset + f.ticks) (frames ++ repeated r frames) ∙ sym before)

-- where items are left the place stands within the frames
pub some-frame : (frames : List FrameData) (place : Place) → IsPlace frames place → 0 < length (entries_of frames place) → place.frame < length frames
unfolding entries_of
some-frame frames place is some = elim (cases_lt place.frame (length frames)) [
  | inl within ↦ within
  | inr past ↦ absurd (
      let at : place.frame ≡ length frames = omega (arith, past, is.within) in
      let none : drop place.frame frames ≡ [] = drop_all place.frame frames past in
      let last : place.rounds ≡ 0 = is.wrapped at in
      let empty : length (entries_of frames place) ≡ 0 = rw (none, last) refl in
      omega (arith, some, empty))
]

-- a frame is no longer than a million ticks
pub ticks-few : (frames : List FrameData) (i : ℕ) (f : FrameData) → All HasFrameRanges frames → slice_get frames i ≡ Some f → f.ticks ≤ 1000000
ticks-few frames i f ranges is =
    let within : i < length frames = slice_get_within frames i f is in
    let same : get_or frames i f ≡ f = get_or_from_slice_get frames i f f is in
    let has : HasFrameRanges (get_or frames i f) = All-get_or HasFrameRanges frames i f within ranges in
    (rw same at has).ticks

-- and its items are few, with ranges of their own
pub item-ranges : (frames : List FrameData) (i j : ℕ) (f : FrameData) (item : ItemData) → All HasFrameRanges frames → slice_get frames i ≡ Some f → slice_get f.items j ≡ Some item →
    HasItemRanges item
item-ranges frames i j f item ranges is at =
    let within : i < length frames = slice_get_within frames i f is in
    let same : get_or frames i f ≡ f = get_or_from_slice_get frames i f f is in
    let has : HasFrameRanges (get_or frames i f) = All-get_or HasFrameRanges frames i f within ranges in
    let inner : j < length f.items = slice_get_within f.items j item at in
    let one : get_or f.items j item ≡ item = get_or_from_slice_get f.items j item item at in
    rw one at (All-get_or HasItemRanges f.items j item inner (rw same at has).items)

pub items-few : (frames : List FrameData) (i : ℕ) (f : FrameData) → slice_get frames i ≡ Some f → length f.items ≤ items_of frames
items-few frames i f is =
    let within : i < length frames = slice_get_within frames i f is in
    let same : get_or frames i f ≡ f = get_or_from_slice_get frames i f f is in
    let part : items_of (take i frames) + length (get_or frames i f).items ≤ items_of frames = sum_by_more_le (λ (g : FrameData). length g.items) frames i f within in
    let here : length (get_or frames i f).items ≡ length f.items = ap (λ (g : FrameData). length g.items) same in
    omega (arith, part, here)

-- the item at a place stands before those from the next place on
pub here : (frames : List FrameData) (place next : Place) (f : FrameData) (item : ItemData) → slice_get frames place.frame ≡ Some f → slice_get f.items place.item ≡ Some item →
    next ≡ record place { item = place.item + 1 } →
    entries_of frames place ≡ record { frame = place.number; place = place.item + 1; offset = place.offset; item = item } ∷ entries_of frames next
unfolding entries_of
here frames place next f item is at same =
    let within : place.item < length f.items = slice_get_within f.items place.item item at in
    let split : drop place.item f.items ≡ get_or f.items place.item item ∷ drop (suc place.item) f.items = drop-cons f.items place.item item within in
    let first : get_or f.items place.item item ≡ item = get_or_from_slice_get f.items place.item item item at in
    rw same (rw (frames-here frames place f is) (rw (split, first, add-one place.item) refl))

-- what is read at a place with an item
pub at-item : (frames : List FrameData) (place : Place) (f : FrameData) (item : ItemData) → HasItem frames place → f ≡ get_or frames place.frame f →
    item ≡ get_or f.items place.item item → (slice_get frames place.frame ≡ Some f) × (slice_get f.items place.item ≡ Some item)
at-item frames place f item has frame_is item_is =
    let within : place.frame < length frames = slice_get_within frames place.frame has.frame has.is in
    let is : slice_get frames place.frame ≡ Some f = slice_get-get_or frames place.frame f within ∙ ap Some (sym frame_is) in
    let same : has.frame ≡ f = (let e : Some has.frame ≡ Some f = sym has.is ∙ is in cc) in
    let inner : place.item < length f.items = rw same at has.within in
    (is, slice_get-get_or f.items place.item item inner ∙ ap Some (sym item_is))

-- it is the first of the items left
pub first-is : (frames : List FrameData) (place : Place) (f : FrameData) (item : ItemData) →
    (slice_get frames place.frame ≡ Some f) × (slice_get f.items place.item ≡ Some item) →
    slice_get (entries_of frames place) 0 ≡ Some record { frame = place.number; place = place.item + 1; offset = place.offset; item = item }
first-is frames place f item is = rw (here frames place (record place { item = place.item + 1 }) f item is.0 is.1 refl) refl

-- and those behind it are the others
pub rest-is : (frames : List FrameData) (place next : Place) → HasItem frames place → next ≡ record place { item = place.item + 1 } →
    entries_of frames next ≡ drop 1 (entries_of frames place)
rest-is frames place next has same = elim has.frame.items as (λ items. has.frame.items ≡ items → entries_of frames next ≡ drop 1 (entries_of frames place)) [
  | [] ↦ λ e. absurd (let none : length has.frame.items ≡ 0 = ap length e in omega (arith, has.within, none))
  | d ∷ items ↦ λ e. (
      let at : slice_get has.frame.items place.item ≡ Some (get_or has.frame.items place.item d) = slice_get-get_or has.frame.items place.item d has.within in
      sym (rw (here frames place next has.frame (get_or has.frame.items place.item d) has.is at same) refl))
] refl

-- when it is due
pub due-is : (frames : List FrameData) (place : Place) (f : FrameData) (item : ItemData) (gap : ℕ) →
    (slice_get frames place.frame ≡ Some f) × (slice_get f.items place.item ≡ Some item) → gap ≡ item.gap →
    option_map due_of (slice_get (entries_of frames place) 0) ≡ Some record { gap = gap; offset = place.offset; opens = place.item == 0 }
due-is frames place f item gap is same =
    let opens : (place.item + 1 == 1) ≡ (place.item == 0) = grind (arith, nat_tests) in
    rw (first-is frames place f item is) (rw (opens, same) refl)

-- a frame that is read within the frames
pub frame-is : (frames : List FrameData) (i : ℕ) (f : FrameData) → i < length frames → f ≡ get_or frames i f → slice_get frames i ≡ Some f
frame-is frames i f within is = slice_get-get_or frames i f within ∙ ap Some (sym is)

-- where there is no item at a place, it stands behind those of its frame
pub over-of : (frames : List FrameData) (place : Place) (f : FrameData) → slice_get frames place.frame ≡ Some f → (HasItem frames place → ⊥) → length f.items ≤ place.item
over-of frames place f is none = elim (cases_lt place.item (length f.items)) [
  | inl within ↦ absurd (none record { frame = f; is = is; within = within })
  | inr over ↦ over
]

-- where there is one
pub has-item : (frames : List FrameData) (place : Place) (n : ℕ) → place.frame < length frames →
    ((f : FrameData) → slice_get frames place.frame ≡ Some f → n ≡ length f.items) → place.item < n → HasItem frames place
has-item [] place n within count some = absurd (omega (arith, within))
has-item (d ∷ frames) place n within count some =
    let is : slice_get (d ∷ frames) place.frame ≡ Some (get_or (d ∷ frames) place.frame d) = slice_get-get_or (d ∷ frames) place.frame d within in
    record { frame = get_or (d ∷ frames) place.frame d; is = is; within = (let same = count (get_or (d ∷ frames) place.frame d) is in omega (arith, some, same)) }

-- the place is that of a frame
pub item-few : (frames : List FrameData) (place : Place) → HasItem frames place → place.item < items_of frames
item-few frames place has = let few : length has.frame.items ≤ items_of frames = items-few frames place.frame has.frame has.is in omega (arith, few, has.within)

-- no frames have no items, however often they are run
empty : (n : ℕ) → entries_from 1 0 (repeated (suc n) []) ≡ []
empty zero = refl
empty (suc n) = empty n

-- the first place
pub all-from : (frames : List FrameData) (repeat rounds : ℕ) → 0 < repeat → (length frames ≡ 0 → rounds ≡ 0) → (0 < length frames → rounds ≡ repeat - 1) →
    entries_of frames record { rounds = rounds; frame = 0; item = 0; number = 1; offset = 0 } ≡ entries_from 1 0 (repeated repeat frames)
unfolding entries_of
all-from frames zero rounds some none any = absurd (omega (arith, some))
all-from [] (suc n) rounds some none any = rw (none refl) (sym (empty n))
all-from (f ∷ later) (suc n) rounds some none any = rw (any (omega arith)) (let same : suc n - 1 ≡ n = omega arith in rw same refl)

-- ---- how many items there are

length-in : (frame offset place : ℕ) (items : List ItemData) → length (entries_in frame offset place items) ≡ length items
length-in frame offset place [] = refl
length-in frame offset place (item ∷ items) = ap suc (length-in frame offset (place + 1) items)

length-from : (number offset : ℕ) (frames : List FrameData) → length (entries_from number offset frames) ≡ items_of frames
length-from number offset [] = refl
length-from number offset (f ∷ later) =
    length-append (entries_in number offset 1 f.items) (entries_from (number + 1) (offset + f.ticks) later)
    ∙ (rw (length-in number offset 1 f.items, length-from (number + 1) (offset + f.ticks) later) (sym (sum_by-cons (λ (g : FrameData). length g.items) f later)))

items-repeated : (n : ℕ) (frames : List FrameData) → items_of (repeated n frames) ≡ n * items_of frames
items-repeated zero frames = omega arith
items-repeated (suc n) frames =
    let parts : items_of (frames ++ repeated n frames) ≡ items_of frames + items_of (repeated n frames) = sum_by-append (λ (g : FrameData). length g.items) frames (repeated n frames) in
    let rest : items_of (repeated n frames) ≡ n * items_of frames = items-repeated n frames in
    omega (arith, parts, rest)

pub length-all : (n : ℕ) (frames : List FrameData) → length (entries_from 1 0 (repeated n frames)) ≡ n * items_of frames
length-all n frames = length-from 1 0 (repeated n frames) ∙ items-repeated n frames

pub items-short : (r i : ℕ) → 1 ≤ r → r * i ≤ 16384 → i ≤ 16384
items-short zero i some few = absurd (omega (arith, some))
items-short (suc r) i some few = let parts : suc r * i ≡ i + r * i = omega arith in omega (arith, few, parts)

-- a queue of all items
pub queue-is : (frames : List FrameData) (repeat left : ℕ) (place : Place) → MayRun frames repeat → left ≡ repeat * items_of frames →
    entries_of frames place ≡ entries_from 1 0 (repeated repeat frames) → IsPlace frames place → (0 < left → HasItem frames place) → IsQueue frames place left
queue-is frames repeat left place may count all is item = record {
  few = may.few;
  ranges = may.ranges;
  short = items-short repeat (items_of frames) may.rounds.0 may.items;
  place_is = is;
  left_is = count ∙ sym (ap length all ∙ length-all repeat frames);
  item = item;
}
