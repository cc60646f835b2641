-- Entry by entry of an agenda: no gap, and no step from one frame to the next, is longer than the longest quiet.
use Rattle.std.proofs.Common.{◌≡◌, ◌≢◌, ℕ, ◌+◌, ◌-◌, ◌≤◌, true, List, [], ◌∷◌, ◌++◌, refl, arith}
use Rattle.std.specs.Prelude.{IsSome}
use Rattle.std.specs.List.{AllByRecursion as Each}
use Rattle.bus_formats.specs.Accepted.{HasSuperseding}
use Rattle.bus_formats.specs.Plans.{ItemData, FrameData, StationData}
use Rattle.bus_formats.specs.Times.{dead_ticks}
use Rattle.bus_load.proofs.OnTime.{IsWithinFrame, followed}
use Rattle.bus_load.proofs.Quiet.{greatest-more}
use Rattle.bus_model.specs.Outside.{greatest, item_quiet, frame_ticks, longest_quiet}
use Rattle.bus_model.specs.Starts.{Entry, entries_in, entries_from, repeated, agenda, first_origin}
use Rattle.bus_law_plans.proofs.Agendas.{each-repeated}

-- ---- which entry follows

-- the next one is of the same frame, unless it is the first of its own
abbrev pub SameFrame : Entry → List Entry → Type 0
SameFrame entry [] = Unit {0}
SameFrame entry (next ∷ later) = next.place ≢ 1 → next.offset ≤ entry.offset

-- .. and an entry that may be abandoned is followed in its frame
pub record IsOrdered (entry : Entry) (later : List Entry) : Type 0 where
  pub next : SameFrame entry later
  pub within : IsSome entry.item.abandon → IsWithinFrame later

abbrev pub AreOrdered : List Entry → Type 0
AreOrdered [] = Unit {0}
AreOrdered (entry ∷ later) = IsOrdered entry later × AreOrdered later

-- these begin with a frame's first item
abbrev pub StartsFrame : List Entry → Type 0
StartsFrame [] = Unit {0}
StartsFrame (entry ∷ later) = entry.place ≡ 1

frame-first : (number offset : ℕ) (frames : List FrameData) → StartsFrame (entries_from number offset frames)
frame-first number offset [] = tt
frame-first number offset (f ∷ later) = by-items f.items (frame-first (number + 1) (offset + f.ticks) later)
  where
    by-items : (items : List ItemData) → StartsFrame (entries_from (number + 1) (offset + f.ticks) later) →
        StartsFrame (entries_in number offset 1 items ++ entries_from (number + 1) (offset + f.ticks) later)
    by-items [] rest = rest
    by-items (item ∷ items) rest = refl

same-frame : (number offset place : ℕ) (item : ItemData) (items : List ItemData) (later : List Entry) → StartsFrame later →
    SameFrame record { frame = number; place = place; offset = offset; item = item } (entries_in number offset (place + 1) items ++ later)
same-frame number offset place item [] [] starts = tt
same-frame number offset place item [] (next ∷ later) starts = λ other. absurd (other starts)
same-frame number offset place item (other ∷ items) later starts = λ within. omega arith

ordered-items : (number offset place : ℕ) (items : List ItemData) (later : List Entry) → 1 ≤ place → HasSuperseding items → StartsFrame later → AreOrdered later →
    AreOrdered (entries_in number offset place items ++ later)
ordered-items number offset place [] later late superseding starts rest = rest
ordered-items number offset place (item ∷ items) later late superseding starts rest = (
  record {
    next = same-frame number offset place item items later starts;
    within = followed true number offset place item items later late superseding;
  },
  ordered-items number offset (place + 1) items later (omega (arith, late)) superseding.1 starts rest,
)

ordered-frames : (number offset : ℕ) (frames : List FrameData) → Each (λ (f : FrameData). HasSuperseding f.items) frames → AreOrdered (entries_from number offset frames)
ordered-frames number offset [] superseding = tt
ordered-frames number offset (f ∷ later) superseding =
    ordered-items number offset 1 f.items (entries_from (number + 1) (offset + f.ticks) later) (omega arith) superseding.0
    (frame-first (number + 1) (offset + f.ticks) later) (ordered-frames (number + 1) (offset + f.ticks) later superseding.1)

-- ---- how far the next one is

module _ (most : ℕ) where
  abbrev pub IsNear : Entry → List Entry → Type 0
  IsNear entry [] = Unit {0}
  IsNear entry (next ∷ later) = next.offset ≤ entry.offset + most

  -- no gap is longer than this, and no frame
  abbrev pub ArePaced : List Entry → Type 0
  ArePaced [] = Unit {0}
  ArePaced (entry ∷ later) = (dead_ticks entry.item.gap ≤ most) × IsNear entry later × ArePaced later

  paced : (entry : Entry) (later : List Entry) → greatest (item_quiet (entry ∷ later)) ≤ most → greatest (frame_ticks (entry ∷ later)) ≤ most →
      ArePaced (entry ∷ later)
  paced entry [] gaps ticks =
      (omega (arith, gaps, greatest-more (dead_ticks entry.item.gap) (item_quiet [])), tt, tt)
  paced entry (next ∷ later) gaps ticks =
      let gap = greatest-more (dead_ticks entry.item.gap) (item_quiet (next ∷ later)) in
      let step = greatest-more (next.offset - entry.offset) (frame_ticks (next ∷ later)) in (
        omega (arith, gaps, gap),
        omega (arith, ticks, step),
        paced next later (omega (arith, gaps, gap)) (omega (arith, ticks, step)),
      )

-- the first entry is planned for so many ticks at most
abbrev pub IsNearStart : ℕ → List Entry → Type 0
IsNearStart most [] = Unit {0}
IsNearStart most (entry ∷ later) = first_origin.tick + entry.offset ≤ most

-- what holds of an agenda
pub record IsAgenda (most : ℕ) (entries : List Entry) : Type 0 where
  pub settles : 40 ≤ most
  pub first : IsNearStart most entries
  pub place : StartsFrame entries
  pub paced : ArePaced most entries
  pub ordered : AreOrdered entries

by-longest : (entries : List Entry) → StartsFrame entries → AreOrdered entries → IsAgenda (longest_quiet entries) entries
by-longest [] place ordered = record { settles = omega arith; first = tt; place = tt; paced = tt; ordered = tt }
by-longest (entry ∷ later) place ordered = record {
  settles = omega arith;
  first = omega arith;
  place = place;
  paced = paced (longest_quiet (entry ∷ later)) entry later (omega arith) (omega arith);
  ordered = ordered;
}

pub agenda-is : (station : StationData) → Each (λ (f : FrameData). HasSuperseding f.items) station.frames → IsAgenda (longest_quiet (agenda station)) (agenda station)
unfolding agenda
agenda-is station superseding =
    by-longest (entries_from 1 0 (repeated station.repeat station.frames)) (frame-first 1 0 (repeated station.repeat station.frames))
    (ordered-frames 1 0 (repeated station.repeat station.frames)
    (each-repeated station.repeat (λ (f : FrameData). HasSuperseding f.items) station.frames superseding))
