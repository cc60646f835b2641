-- The longest quiet of frames that are laid out, and of frames that aren't.
use Rattle.std.proofs.Common.{◌≡◌, ℕ, zero, suc, ◌+◌, ◌-◌, ◌≤◌, Bool, true, List, [], ◌∷◌, ◌++◌, Option, Some, None, refl, sym, ap, ◌∙◌, subst, arith}
use Rattle.std.proofs.lemmas.Bool.Decides.{nat_tests}
use Rattle.std.proofs.lemmas.List.Sums.{sum_by-cons}
use Rattle.std.proofs.lemmas.Option.{none-some}
use Rattle.std.specs.Option.{option_or}
use Rattle.std.specs.Prelude.{max, fold, sum_by, nat_lt, if◌then◌else◌}
use Rattle.bus_formats.specs.Plans.{ItemData, FrameData, StationData}
use Rattle.bus_formats.specs.Times.{dead_ticks}
use Rattle.bus_load.specs.Silence.{longest_gap, longest_gap_in, no_frames, since, first_at, spread_by, spread_over, wrapped_by, before_first, longest_between, longest_quiet_by, longest_quiet_of}
use Rattle.bus_load.specs.declared.silences.Spread.{Spread}
use Rattle.bus_model.specs.Outside.{greatest, frame_ticks, ticks_before, item_quiet, longest_quiet}
use Rattle.bus_model.specs.Starts.{Entry, entries_in, entries_from, repeated, agenda}

-- ---- the greatest of some numbers

fold-max : (a : ℕ) (ns : List ℕ) → fold max a ns ≡ max a (fold max 0 ns)
fold-max a [] = omega arith
fold-max a (n ∷ ns) =
    let more : fold max (max a n) ns ≡ max (max a n) (fold max 0 ns) = fold-max (max a n) ns in
    let here : fold max (max 0 n) ns ≡ max (max 0 n) (fold max 0 ns) = fold-max (max 0 n) ns in
    omega (arith, more, here)

pub greatest-more : (n : ℕ) (ns : List ℕ) → greatest (n ∷ ns) ≡ max n (greatest ns)
greatest-more n ns = let here : fold max (max 0 n) ns ≡ max (max 0 n) (fold max 0 ns) = fold-max (max 0 n) ns in omega (arith, here)

-- ---- gaps

gaps-in : (frame offset place : ℕ) (items : List ItemData) (later : List Entry) →
    greatest (item_quiet (entries_in frame offset place items ++ later)) ≡ max (longest_gap items) (greatest (item_quiet later))
gaps-in frame offset place [] later = omega arith
gaps-in frame offset place (item ∷ items) later =
    omega (
      arith,
      greatest-more (dead_ticks item.gap) (item_quiet (entries_in frame offset (place + 1) items ++ later)),
      gaps-in frame offset (place + 1) items later,
    )

pub gaps-from : (frame offset : ℕ) (frames : List FrameData) → greatest (item_quiet (entries_from frame offset frames)) ≡ longest_gap_in frames
gaps-from frame offset [] = refl
gaps-from frame offset (f ∷ later) =
    gaps-in frame offset 1 f.items (entries_from (frame + 1) (offset + f.ticks) later)
    ∙ ap (max (longest_gap f.items)) (gaps-from (frame + 1) (offset + f.ticks) later)

gaps-append : (xs ys : List FrameData) → longest_gap_in (xs ++ ys) ≡ max (longest_gap_in xs) (longest_gap_in ys)
gaps-append [] ys = omega arith
gaps-append (f ∷ xs) ys = omega (arith, gaps-append xs ys)

pub gaps-copies : (n : ℕ) (frames : List FrameData) → longest_gap_in (repeated (suc n) frames) ≡ longest_gap_in frames
gaps-copies zero frames = omega (arith, gaps-append frames (repeated zero frames))
gaps-copies (suc n) frames = omega (arith, gaps-append frames (repeated (suc n) frames), gaps-copies n frames)

-- ---- from a frame with items to the next

-- entry by entry
abbrev pub steps : Option ℕ → List Entry → ℕ
steps last [] = 0
steps last (entry ∷ later) = max (since last entry.offset) (steps (Some entry.offset) later)

ticks-steps : (entry : Entry) (later : List Entry) → greatest (frame_ticks (entry ∷ later)) ≡ steps (Some entry.offset) later
ticks-steps entry [] = refl
ticks-steps entry (next ∷ later) =
    greatest-more (next.offset - entry.offset) (frame_ticks (next ∷ later)) ∙ ap (max (next.offset - entry.offset)) (ticks-steps next later)

pub all-steps : (entries : List Entry) → greatest (frame_ticks entries) ≡ steps None entries
all-steps [] = refl
all-steps (entry ∷ later) = omega (arith, ticks-steps entry later)

-- by whether a frame has items
abbrev pub choose : {X : Type 0} → List ItemData → X → X → X
choose [] empty full = empty
choose (item ∷ items) empty full = full

abbrev pub all_ticks : List FrameData → ℕ
all_ticks frames = sum_by (λ (f : FrameData). f.ticks) frames

-- frame by frame: the most ticks, the last frame with items, and the first
abbrev pub most : Option ℕ → ℕ → List FrameData → ℕ
most last ticks [] = 0
most last ticks (f ∷ later) = choose f.items (most last (ticks + f.ticks) later) (max (since last ticks) (most (Some ticks) (ticks + f.ticks) later))

abbrev pub last_of : Option ℕ → ℕ → List FrameData → Option ℕ
last_of last ticks [] = last
last_of last ticks (f ∷ later) = choose f.items (last_of last (ticks + f.ticks) later) (last_of (Some ticks) (ticks + f.ticks) later)

abbrev pub first_of : ℕ → List FrameData → Option ℕ
first_of ticks [] = None
first_of ticks (f ∷ later) = choose f.items (first_of (ticks + f.ticks) later) (Some ticks)

-- the items of one frame are no ticks apart
same-frame : (frame ticks place : ℕ) (items : List ItemData) (later : List Entry) →
    steps (Some ticks) (entries_in frame ticks place items ++ later) ≡ steps (Some ticks) later
same-frame frame ticks place [] later = refl
same-frame frame ticks place (item ∷ items) later = omega (arith, same-frame frame ticks (place + 1) items later)

pub steps-frames : (last : Option ℕ) (frame ticks : ℕ) (frames : List FrameData) → steps last (entries_from frame ticks frames) ≡ most last ticks frames
steps-frames last frame ticks [] = refl
steps-frames last frame ticks (f ∷ later) =
    by-items f.items (steps-frames last (frame + 1) (ticks + f.ticks) later) (steps-frames (Some ticks) (frame + 1) (ticks + f.ticks) later)
  where
    by-items : (items : List ItemData) → steps last (entries_from (frame + 1) (ticks + f.ticks) later) ≡ most last (ticks + f.ticks) later →
        steps (Some ticks) (entries_from (frame + 1) (ticks + f.ticks) later) ≡ most (Some ticks) (ticks + f.ticks) later →
        steps last (entries_in frame ticks 1 items ++ entries_from (frame + 1) (ticks + f.ticks) later)
        ≡ choose items (most last (ticks + f.ticks) later) (max (since last ticks) (most (Some ticks) (ticks + f.ticks) later))
    by-items [] empty full = empty
    by-items (item ∷ items) empty full =
        ap (max (since last ticks)) (same-frame frame ticks 2 items (entries_from (frame + 1) (ticks + f.ticks) later) ∙ full)

-- as the frames are gone over
pub record Spreads (spread : Spread) (ticks : ℕ) (frames : List FrameData) : Type 0 where
  pub longest : (spread_over spread ticks frames).longest ≡ max spread.longest (most spread.last ticks frames)
  pub last : (spread_over spread ticks frames).last ≡ last_of spread.last ticks frames
  pub first : (spread_over spread ticks frames).first ≡ option_or spread.first (first_of ticks frames)

or-none : (o : Option ℕ) → o ≡ option_or o None
or-none None = refl
or-none (Some n) = refl

first-more : (o : Option ℕ) (ticks : ℕ) (later : Option ℕ) → option_or (first_at o ticks) later ≡ option_or o (Some ticks)
first-more None ticks later = refl
first-more (Some first) ticks later = refl

abbrev pub SpreadsBy : Spread → ℕ → FrameData → List FrameData → List ItemData → Type 0
SpreadsBy spread ticks f later items =
    ((spread_over (spread_by spread ticks items) (ticks + f.ticks) later).longest
    ≡ max spread.longest (choose items (most spread.last (ticks + f.ticks) later) (max (since spread.last ticks) (most (Some ticks) (ticks + f.ticks) later))))
    × ((spread_over (spread_by spread ticks items) (ticks + f.ticks) later).last
    ≡ choose items (last_of spread.last (ticks + f.ticks) later) (last_of (Some ticks) (ticks + f.ticks) later))
    × ((spread_over (spread_by spread ticks items) (ticks + f.ticks) later).first
    ≡ option_or spread.first (choose items (first_of (ticks + f.ticks) later) (Some ticks)))

pub spreads : (spread : Spread) (ticks : ℕ) (frames : List FrameData) → Spreads spread ticks frames
spreads spread ticks [] = record { longest = omega arith; last = refl; first = or-none spread.first }
spreads spread ticks (f ∷ later) = by-items f.items refl (λ s. spreads s (ticks + f.ticks) later)
  where
    each : (items : List ItemData) → ((s : Spread) → Spreads s (ticks + f.ticks) later) → SpreadsBy spread ticks f later items
    each [] rest = let so = rest spread in (so.longest, so.last, so.first)
    each (item ∷ items) rest =
        let so = rest (spread_by spread ticks (item ∷ items)) in (
          omega (arith, so.longest),
          so.last,
          so.first ∙ first-more spread.first ticks (first_of (ticks + f.ticks) later),
        )

    by-items : (items : List ItemData) → f.items ≡ items → ((s : Spread) → Spreads s (ticks + f.ticks) later) → Spreads spread ticks (f ∷ later)
    by-items items same rest = let is = each f.items rest in record { longest = is.0; last = is.1; first = is.2 }

-- ---- frames after others

assoc : (a b c : ℕ) → max a (max b c) ≡ max (max a b) c
assoc a b c = omega arith

pub most-append : (last : Option ℕ) (ticks : ℕ) (xs ys : List FrameData) →
    most last ticks (xs ++ ys) ≡ max (most last ticks xs) (most (last_of last ticks xs) (ticks + all_ticks xs) ys)
most-append last ticks [] ys =
    let none : ticks + all_ticks [] ≡ ticks = omega arith in
    sym (ap (λ t. max 0 (most last t ys)) none ∙ zero-max (most last ticks ys))
  where
    zero-max : (n : ℕ) → max 0 n ≡ n
    zero-max n = omega arith
most-append last ticks (f ∷ xs) ys =
    let total : ticks + f.ticks + all_ticks xs ≡ ticks + all_ticks (f ∷ xs) = omega (arith, sum_by-cons (λ (g : FrameData). g.ticks) f xs) in
    subst (λ t. most last ticks (f ∷ xs ++ ys) ≡ max (most last ticks (f ∷ xs)) (most (last_of last ticks (f ∷ xs)) t ys)) total
    (by-items f.items (most-append last (ticks + f.ticks) xs ys) (most-append (Some ticks) (ticks + f.ticks) xs ys))
  where
    by-items : (items : List ItemData) →
        most last (ticks + f.ticks) (xs ++ ys) ≡ max (most last (ticks + f.ticks) xs) (most (last_of last (ticks + f.ticks) xs) (ticks + f.ticks + all_ticks xs) ys) →
        most (Some ticks) (ticks + f.ticks) (xs ++ ys)
        ≡ max (most (Some ticks) (ticks + f.ticks) xs) (most (last_of (Some ticks) (ticks + f.ticks) xs) (ticks + f.ticks + all_ticks xs) ys) →
        choose items (most last (ticks + f.ticks) (xs ++ ys)) (max (since last ticks) (most (Some ticks) (ticks + f.ticks) (xs ++ ys)))
        ≡ max (choose items (most last (ticks + f.ticks) xs) (max (since last ticks) (most (Some ticks) (ticks + f.ticks) xs)))
        (most (choose items (last_of last (ticks + f.ticks) xs) (last_of (Some ticks) (ticks + f.ticks) xs)) (ticks + f.ticks + all_ticks xs) ys)
    by-items [] empty full = empty
    by-items (item ∷ items) empty full = omega (arith, full)

-- ---- all frames later

abbrev pub later_by : ℕ → Option ℕ → Option ℕ
later_by more None = None
later_by more (Some ticks) = Some (ticks + more)

since-later : (more : ℕ) (last : Option ℕ) (ticks : ℕ) → since (later_by more last) (ticks + more) ≡ since last ticks
since-later more None ticks = refl
since-later more (Some before) ticks = omega arith

swap : (a b c : ℕ) → a + b + c ≡ a + c + b
swap a b c = omega arith

pub most-later : (more : ℕ) (last : Option ℕ) (ticks : ℕ) (frames : List FrameData) → most (later_by more last) (ticks + more) frames ≡ most last ticks frames
most-later more last ticks [] = refl
most-later more last ticks (f ∷ later) =
    let turn : ticks + more + f.ticks ≡ ticks + f.ticks + more = swap ticks more f.ticks in
    let empty : most (later_by more last) (ticks + more + f.ticks) later ≡ most last (ticks + f.ticks) later =
    ap (λ t. most (later_by more last) t later) turn ∙ most-later more last (ticks + f.ticks) later in
    let full : most (Some (ticks + more)) (ticks + more + f.ticks) later ≡ most (Some ticks) (ticks + f.ticks) later =
    ap (λ t. most (Some (ticks + more)) t later) turn ∙ most-later more (Some ticks) (ticks + f.ticks) later in
    ap (λ n. choose f.items n (max (since (later_by more last) (ticks + more)) (most (Some (ticks + more)) (ticks + more + f.ticks) later))) empty
    ∙ ap (λ n. choose f.items (most last (ticks + f.ticks) later) n) (ap (λ n. max n (most (Some (ticks + more)) (ticks + more + f.ticks) later)) (since-later more last ticks)
    ∙ ap (max (since last ticks)) full)

pub last-later : (more : ℕ) (last : Option ℕ) (ticks : ℕ) (frames : List FrameData) → last_of (later_by more last) (ticks + more) frames ≡ later_by more (last_of last ticks frames)
last-later more last ticks [] = refl
last-later more last ticks (f ∷ later) =
    let turn : ticks + more + f.ticks ≡ ticks + f.ticks + more = swap ticks more f.ticks in
    let empty : last_of (later_by more last) (ticks + more + f.ticks) later ≡ later_by more (last_of last (ticks + f.ticks) later) =
    ap (λ t. last_of (later_by more last) t later) turn ∙ last-later more last (ticks + f.ticks) later in
    let full : last_of (Some (ticks + more)) (ticks + more + f.ticks) later ≡ later_by more (last_of (Some ticks) (ticks + f.ticks) later) =
    ap (λ t. last_of (Some (ticks + more)) t later) turn ∙ last-later more (Some ticks) (ticks + f.ticks) later in
    by-items f.items empty full
  where
    by-items : (items : List ItemData) → last_of (later_by more last) (ticks + more + f.ticks) later ≡ later_by more (last_of last (ticks + f.ticks) later) →
        last_of (Some (ticks + more)) (ticks + more + f.ticks) later ≡ later_by more (last_of (Some ticks) (ticks + f.ticks) later) →
        choose items (last_of (later_by more last) (ticks + more + f.ticks) later) (last_of (Some (ticks + more)) (ticks + more + f.ticks) later)
        ≡ later_by more (choose items (last_of last (ticks + f.ticks) later) (last_of (Some ticks) (ticks + f.ticks) later))
    by-items [] empty full = empty
    by-items (item ∷ items) empty full = full

-- ---- frames that run again

-- the ticks from an earlier frame with items to the first one
abbrev pub from_last : Option ℕ → Option ℕ → ℕ
from_last None first = 0
from_last last None = 0
from_last (Some last) (Some first) = first - last

pub most-from : (last : Option ℕ) (ticks : ℕ) (frames : List FrameData) → most last ticks frames ≡ max (from_last last (first_of ticks frames)) (most None ticks frames)
most-from last ticks [] = none last
  where
    none : (o : Option ℕ) → 0 ≡ max (from_last o None) 0
    none None = refl
    none (Some n) = refl
most-from last ticks (f ∷ later) = by-items f.items (most-from last (ticks + f.ticks) later)
  where
    here : (o : Option ℕ) (n : ℕ) → max (since o ticks) n ≡ max (from_last o (Some ticks)) (max 0 n)
    here None n = omega arith
    here (Some before) n = omega arith

    by-items : (items : List ItemData) → most last (ticks + f.ticks) later ≡ max (from_last last (first_of (ticks + f.ticks) later)) (most None (ticks + f.ticks) later) →
        choose items (most last (ticks + f.ticks) later) (max (since last ticks) (most (Some ticks) (ticks + f.ticks) later))
        ≡ max (from_last last (choose items (first_of (ticks + f.ticks) later) (Some ticks)))
        (choose items (most None (ticks + f.ticks) later) (max (since None ticks) (most (Some ticks) (ticks + f.ticks) later)))
    by-items [] empty = empty
    by-items (item ∷ items) empty = here last (most (Some ticks) (ticks + f.ticks) later)

pub first-later : (more ticks : ℕ) (frames : List FrameData) → first_of (ticks + more) frames ≡ later_by more (first_of ticks frames)
first-later more ticks [] = refl
first-later more ticks (f ∷ later) =
    by-items f.items (ap (λ t. first_of t later) (swap ticks more f.ticks) ∙ first-later more (ticks + f.ticks) later)
  where
    by-items : (items : List ItemData) → first_of (ticks + more + f.ticks) later ≡ later_by more (first_of (ticks + f.ticks) later) →
        choose items (first_of (ticks + more + f.ticks) later) (Some (ticks + more)) ≡ later_by more (choose items (first_of (ticks + f.ticks) later) (Some ticks))
    by-items [] empty = empty
    by-items (item ∷ items) empty = refl

-- frames without items have no last one, and those with items have one whatever came before
pub data Kinds (last : Option ℕ) (ticks : ℕ) (frames : List FrameData) : Type 0 where
  bare : last_of last ticks frames ≡ last → first_of ticks frames ≡ None → Kinds last ticks frames
  full : (first : ℕ) → first_of ticks frames ≡ Some first → last_of last ticks frames ≡ last_of None ticks frames → Kinds last ticks frames

pub kind-of : (last : Option ℕ) (ticks : ℕ) (frames : List FrameData) → Kinds last ticks frames
kind-of last ticks [] = bare refl refl
kind-of last ticks (f ∷ later) = by-items f.items refl (kind-of last (ticks + f.ticks) later)
  where
    with-same : (items : List ItemData) → f.items ≡ items → Kinds last (ticks + f.ticks) later → Kinds last ticks (f ∷ later)
    with-same [] same (bare is none) = bare (ap (λ l. choose l (last_of last (ticks + f.ticks) later) (last_of (Some ticks) (ticks + f.ticks) later)) same ∙ is)
        (ap (λ l. choose l (first_of (ticks + f.ticks) later) (Some ticks)) same ∙ none)
    with-same [] same (full first is whatever) = full first (ap (λ l. choose l (first_of (ticks + f.ticks) later) (Some ticks)) same ∙ is)
        (ap (λ l. choose l (last_of last (ticks + f.ticks) later) (last_of (Some ticks) (ticks + f.ticks) later)) same
        ∙ (whatever ∙ sym (ap (λ l. choose l (last_of None (ticks + f.ticks) later) (last_of (Some ticks) (ticks + f.ticks) later)) same)))
    with-same (item ∷ items) same kind = full ticks (ap (λ l. choose l (first_of (ticks + f.ticks) later) (Some ticks)) same)
        (ap (λ l. choose l (last_of last (ticks + f.ticks) later) (last_of (Some ticks) (ticks + f.ticks) later)) same
        ∙ sym (ap (λ l. choose l (last_of None (ticks + f.ticks) later) (last_of (Some ticks) (ticks + f.ticks) later)) same))

    by-items : (items : List ItemData) → f.items ≡ items → Kinds last (ticks + f.ticks) later → Kinds last ticks (f ∷ later)
    by-items items same kind = with-same items same kind

-- where the frames run again, the last one with items is later by their ticks
last-again : (frames : List FrameData) → last_of (last_of None 0 frames) (all_ticks frames) frames ≡ later_by (all_ticks frames) (last_of None 0 frames)
last-again frames = by-kinds (kind-of (last_of None 0 frames) (all_ticks frames) frames) (kind-of None 0 frames)
  where
    from-none : (t : ℕ) → 0 + t ≡ t
    from-none t = omega arith

    shifted : last_of None (all_ticks frames) frames ≡ later_by (all_ticks frames) (last_of None 0 frames)
    shifted = ap (λ t. last_of None t frames) (sym (from-none (all_ticks frames))) ∙ last-later (all_ticks frames) None 0 frames

    first-shifted : first_of (all_ticks frames) frames ≡ later_by (all_ticks frames) (first_of 0 frames)
    first-shifted = ap (λ t. first_of t frames) (sym (from-none (all_ticks frames))) ∙ first-later (all_ticks frames) 0 frames

    by-kinds : Kinds (last_of None 0 frames) (all_ticks frames) frames → Kinds None 0 frames →
        last_of (last_of None 0 frames) (all_ticks frames) frames ≡ later_by (all_ticks frames) (last_of None 0 frames)
    by-kinds (full first is same) other = same ∙ shifted
    by-kinds (bare is none) (bare last_none first_none) = is ∙ (last_none ∙ sym (ap (later_by (all_ticks frames)) last_none))
    by-kinds (bare is none) (full first some same) =
        absurd (none-some (first + all_ticks frames) (sym none ∙ (first-shifted ∙ ap (later_by (all_ticks frames)) some)))

-- the ticks from the last frame with items to the first of the next copy
abbrev pub again : List FrameData → ℕ
again frames = from_last (last_of None 0 frames) (later_by (all_ticks frames) (first_of 0 frames))

-- a copy after another one
copy-more : (frames rest : List FrameData) → most (last_of None 0 frames) (all_ticks frames) (frames ++ rest)
    ≡ max (max (again frames) (most None 0 frames)) (most (last_of None 0 frames) (all_ticks frames) rest)
copy-more frames rest =
    let from-none : 0 + all_ticks frames ≡ all_ticks frames = omega arith in
    let first : first_of (all_ticks frames) frames ≡ later_by (all_ticks frames) (first_of 0 frames) =
    ap (λ t. first_of t frames) (sym from-none) ∙ first-later (all_ticks frames) 0 frames in
    let inner : most None (all_ticks frames) frames ≡ most None 0 frames =
    ap (λ t. most None t frames) (sym from-none) ∙ most-later (all_ticks frames) None 0 frames in
    let one : most (last_of None 0 frames) (all_ticks frames) frames ≡ max (again frames) (most None 0 frames) =
    most-from (last_of None 0 frames) (all_ticks frames) frames
    ∙ (ap (λ o. max (from_last (last_of None 0 frames) o) (most None (all_ticks frames) frames)) first ∙ ap (max (again frames)) inner) in
    let later : most (last_of (last_of None 0 frames) (all_ticks frames) frames) (all_ticks frames + all_ticks frames) rest
    ≡ most (last_of None 0 frames) (all_ticks frames) rest =
    ap (λ o. most o (all_ticks frames + all_ticks frames) rest) (last-again frames)
    ∙ most-later (all_ticks frames) (last_of None 0 frames) (all_ticks frames) rest in
    most-append (last_of None 0 frames) (all_ticks frames) frames rest
    ∙ (ap (λ n. max n (most (last_of (last_of None 0 frames) (all_ticks frames) frames) (all_ticks frames + all_ticks frames) rest)) one
    ∙ ap (max (max (again frames) (most None 0 frames))) later)

-- all copies after the first one
copies-more : (frames : List FrameData) (n : ℕ) →
    most (last_of None 0 frames) (all_ticks frames) (repeated (suc n) frames) ≡ max (again frames) (most None 0 frames)
copies-more frames zero = omega (arith, copy-more frames (repeated zero frames))
copies-more frames (suc n) = omega (arith, copy-more frames (repeated (suc n) frames), copies-more frames n)

-- and all with the first one
all-copies : (n : ℕ) (frames : List FrameData) → most None 0 (repeated (suc n) frames) ≡ max (most None 0 frames) (if nat_lt 1 (suc n) then again frames else 0)
all-copies zero frames =
    omega (arith, most-append None 0 frames (repeated zero frames))
all-copies (suc n) frames =
    let from-none : 0 + all_ticks frames ≡ all_ticks frames = omega arith in
    let rest : most (last_of None 0 frames) (0 + all_ticks frames) (repeated (suc n) frames) ≡ max (again frames) (most None 0 frames) =
    ap (λ t. most (last_of None 0 frames) t (repeated (suc n) frames)) from-none ∙ copies-more frames n in
    let more : nat_lt 1 (suc (suc n)) ≡ true = grind (arith, nat_tests) in
    let all : most None 0 (repeated (suc (suc n)) frames) ≡ max (most None 0 frames) (again frames) =
    omega (arith, most-append None 0 frames (repeated (suc n) frames), rest) in
    all ∙ ap (λ (b : Bool). max (most None 0 frames) (if b then again frames else 0)) (sym more)

-- ---- the first frame with items

first-append : (ticks : ℕ) (xs ys : List FrameData) → first_of ticks (xs ++ ys) ≡ option_or (first_of ticks xs) (first_of (ticks + all_ticks xs) ys)
first-append ticks [] ys = let none : ticks ≡ ticks + all_ticks [] = omega arith in ap (λ t. first_of t ys) none
first-append ticks (f ∷ xs) ys =
    let total : ticks + f.ticks + all_ticks xs ≡ ticks + all_ticks (f ∷ xs) = omega (arith, sum_by-cons (λ (g : FrameData). g.ticks) f xs) in
    subst (λ t. first_of ticks (f ∷ xs ++ ys) ≡ option_or (first_of ticks (f ∷ xs)) (first_of t ys)) total
    (by-items f.items (first-append (ticks + f.ticks) xs ys))
  where
    by-items : (items : List ItemData) →
        first_of (ticks + f.ticks) (xs ++ ys) ≡ option_or (first_of (ticks + f.ticks) xs) (first_of (ticks + f.ticks + all_ticks xs) ys) →
        choose items (first_of (ticks + f.ticks) (xs ++ ys)) (Some ticks)
        ≡ option_or (choose items (first_of (ticks + f.ticks) xs) (Some ticks)) (first_of (ticks + f.ticks + all_ticks xs) ys)
    by-items [] empty = empty
    by-items (item ∷ items) empty = refl

none-ever : (frames : List FrameData) → first_of 0 frames ≡ None → (n ticks : ℕ) → first_of ticks (repeated n frames) ≡ None
none-ever frames none zero ticks = refl
none-ever frames none (suc n) ticks =
    let from-none : 0 + ticks ≡ ticks = omega arith in
    let here : first_of ticks frames ≡ None = ap (λ t. first_of t frames) (sym from-none) ∙ (first-later ticks 0 frames ∙ ap (later_by ticks) none) in
    first-append ticks frames (repeated n frames)
    ∙ (ap (λ o. option_or o (first_of (ticks + all_ticks frames) (repeated n frames))) here ∙ none-ever frames none n (ticks + all_ticks frames))

first-copies : (n : ℕ) (frames : List FrameData) → first_of 0 (repeated (suc n) frames) ≡ first_of 0 frames
first-copies n frames = first-append 0 frames (repeated n frames) ∙ by-first (first_of 0 frames) refl
  where
    by-first : (o : Option ℕ) → first_of 0 frames ≡ o → option_or o (first_of (0 + all_ticks frames) (repeated n frames)) ≡ o
    by-first None none = none-ever frames none n (0 + all_ticks frames)
    by-first (Some first) is = refl

before-frames : (number ticks : ℕ) (frames : List FrameData) → ticks_before (entries_from number ticks frames) ≡ before_first (first_of ticks frames)
before-frames number ticks [] = refl
before-frames number ticks (f ∷ later) = by-items f.items (before-frames (number + 1) (ticks + f.ticks) later)
  where
    by-items : (items : List ItemData) → ticks_before (entries_from (number + 1) (ticks + f.ticks) later) ≡ before_first (first_of (ticks + f.ticks) later) →
        ticks_before (entries_in number ticks 1 items ++ entries_from (number + 1) (ticks + f.ticks) later)
        ≡ before_first (choose items (first_of (ticks + f.ticks) later) (Some ticks))
    by-items [] empty = empty
    by-items (item ∷ items) empty = omega arith

-- ---- a station

wrapped-is : (first last : Option ℕ) (ticks : ℕ) → wrapped_by first last ticks ≡ from_last last (later_by ticks first)
wrapped-is None None ticks = refl
wrapped-is None (Some last) ticks = refl
wrapped-is (Some first) None ticks = refl
wrapped-is (Some first) (Some last) ticks = omega arith

-- the longest quiet of a station's agenda, over its frames alone
pub quiet-is : (station : StationData) → 1 ≤ station.repeat → longest_quiet (agenda station) ≡ longest_quiet_of station
unfolding agenda
quiet-is station some = by-count station.repeat refl
  where
    of-copies : (n : ℕ) → longest_quiet (entries_from 1 0 (repeated (suc n) station.frames))
        ≡ longest_quiet_by (suc n) (spread_over no_frames 0 station.frames) (all_ticks station.frames) (longest_gap_in station.frames)
    of-copies n =
        let frames : List FrameData = repeated (suc n) station.frames in
        let so = spreads no_frames 0 station.frames in
        let gaps : greatest (item_quiet (entries_from 1 0 (repeated (suc n) station.frames))) ≡ longest_gap_in station.frames =
        gaps-from 1 0 (repeated (suc n) station.frames) ∙ gaps-copies n station.frames in
        let before : ticks_before (entries_from 1 0 (repeated (suc n) station.frames)) ≡ before_first (spread_over no_frames 0 station.frames).first =
        before-frames 1 0 (repeated (suc n) station.frames) ∙ ap before_first (first-copies n station.frames ∙ sym so.first) in
        let between : greatest (frame_ticks (entries_from 1 0 (repeated (suc n) station.frames)))
        ≡ longest_between (suc n) (spread_over no_frames 0 station.frames) (all_ticks station.frames) =
        all-steps (entries_from 1 0 (repeated (suc n) station.frames))
        ∙ (steps-frames None 1 0 (repeated (suc n) station.frames)
        ∙ (all-copies n station.frames
        ∙ (ap (λ m. max m (if nat_lt 1 (suc n) then again station.frames else 0)) (zero-max (most None 0 station.frames) ∙ sym so.longest)
        ∙ ap (λ w. max (spread_over no_frames 0 station.frames).longest (if nat_lt 1 (suc n) then w else 0))
        (sym (ap (λ o. wrapped_by o (spread_over no_frames 0 station.frames).last (all_ticks station.frames)) so.first
        ∙ (ap (λ o. wrapped_by (first_of 0 station.frames) o (all_ticks station.frames)) so.last
        ∙ wrapped-is (first_of 0 station.frames) (last_of None 0 station.frames) (all_ticks station.frames))))))) in
        ap (λ m. max 40 (max m (max (ticks_before (entries_from 1 0 (repeated (suc n) station.frames))) (greatest (frame_ticks (entries_from 1 0 (repeated (suc n) station.frames))))))) gaps
        ∙ (ap (λ m. max 40 (max (longest_gap_in station.frames) (max m (greatest (frame_ticks (entries_from 1 0 (repeated (suc n) station.frames))))))) before
        ∙ ap (λ m. max 40 (max (longest_gap_in station.frames) (max (before_first (spread_over no_frames 0 station.frames).first) m))) between)
      where
        zero-max : (m : ℕ) → m ≡ max 0 m
        zero-max m = omega arith

    by-count : (n : ℕ) → station.repeat ≡ n → longest_quiet (entries_from 1 0 (repeated station.repeat station.frames)) ≡ longest_quiet_of station
    by-count zero none = absurd (omega (arith, some, none))
    by-count (suc n) is =
        subst (λ m. longest_quiet (entries_from 1 0 (repeated m station.frames))
        ≡ longest_quiet_by m (spread_over no_frames 0 station.frames) (all_ticks station.frames) (longest_gap_in station.frames)) (sym is) (of-copies n)
