-- How many attempts and ticks an agenda has.
use Rattle.std.proofs.Common.{◌≡◌, ℕ, zero, suc, ◌+◌, ◌*◌, ◌≤◌, List, [], ◌∷◌, ◌++◌, length, refl, sym, ap, ◌∙◌, arith}
use Rattle.std.proofs.lemmas.List.Sums.{sum_by-cons, sum_by-append}
use Rattle.std.specs.Prelude.{sum_by}
use Rattle.bus_formats.specs.Plans.{ItemData, FrameData, StationData}
use Rattle.bus_model.specs.Starts.{Entry, entries_in, entries_from, repeated, agenda}
use Rattle.bus_law_plans.specs.Amounts.{attempts_of, attempts_in, station_attempts, station_ticks, ticks_before, Rises, HasAmounts}

abbrev entry-attempts : Entry → ℕ
entry-attempts entry = 1 + length entry.item.retry

-- ---- attempts

in-frame : (frame offset place : ℕ) (items : List ItemData) → sum_by entry-attempts (entries_in frame offset place items) ≡ sum_by attempts_of items
in-frame frame offset place [] = refl
in-frame frame offset place (item ∷ items) =
    sum_by-cons entry-attempts (record { frame = frame; place = place; offset = offset; item = item }) (entries_in frame offset (place + 1) items)
    ∙ (ap (λ n. (1 + length item.retry) + n) (in-frame frame offset (place + 1) items) ∙ sym (sum_by-cons attempts_of item items))

in-frames : (frame offset : ℕ) (frames : List FrameData) → sum_by entry-attempts (entries_from frame offset frames) ≡ sum_by attempts_in frames
in-frames frame offset [] = refl
in-frames frame offset (f ∷ frames) =
    let first : List Entry = entries_in frame offset 1 f.items in
    let later : List Entry = entries_from (frame + 1) (offset + f.ticks) frames in
    sum_by-append entry-attempts first later
    ∙ (ap (λ n. n + sum_by entry-attempts later) (in-frame frame offset 1 f.items)
    ∙ (ap (λ n. attempts_in f + n) (in-frames (frame + 1) (offset + f.ticks) frames) ∙ sym (sum_by-cons attempts_in f frames)))

times : (n a m : ℕ) → m ≡ n * a → a + m ≡ suc n * a
times n a m is = grind (arith, is)

-- frames that are repeated
repeats : (value : FrameData → ℕ) (n : ℕ) (frames : List FrameData) → sum_by value (repeated n frames) ≡ n * sum_by value frames
repeats value zero frames = omega arith
repeats value (suc n) frames =
    sum_by-append value frames (repeated n frames) ∙ times n (sum_by value frames) (sum_by value (repeated n frames)) (repeats value n frames)

-- ---- ticks

-- the items of a frame, before entries of later ones
in-one : (s : StationData) (frame offset place : ℕ) (items : List ItemData) (later : List Entry) → offset ≤ ticks_before s later → Rises s later →
    Rises s (entries_in frame offset place items ++ later) × (offset ≤ ticks_before s (entries_in frame offset place items ++ later))
in-one s frame offset place [] later low rises = (rises, low)
in-one s frame offset place (item ∷ items) later low rises =
    let rest = in-one s frame offset (place + 1) items later low rises in
    ((rest.1, rest.0), omega arith)

in-all : (s : StationData) (frame offset : ℕ) (frames : List FrameData) → offset + sum_by (λ (f : FrameData). f.ticks) frames ≡ station_ticks s →
    Rises s (entries_from frame offset frames) × (offset ≤ ticks_before s (entries_from frame offset frames))
in-all s frame offset [] total = (tt, omega (arith, total))
in-all s frame offset (f ∷ frames) total =
    let cons = sum_by-cons (λ (g : FrameData). g.ticks) f frames in
    let rest = in-all s (frame + 1) (offset + f.ticks) frames (omega (arith, total, cons)) in
    in-one s frame offset 1 f.items (entries_from (frame + 1) (offset + f.ticks) frames) (omega (arith, rest.1)) rest.0

-- an agenda has the attempts of its frames, in their order
pub agreed : (station : StationData) → HasAmounts station
unfolding agenda
agreed station = record {
  attempts = in-frames 1 0 (repeated station.repeat station.frames) ∙ repeats attempts_in station.repeat station.frames;
  rises = (in-all station 1 0 (repeated station.repeat station.frames)
      (ap (λ n. 0 + n) (repeats (λ (f : FrameData). f.ticks) station.repeat station.frames) ∙ none-more (station_ticks station))).0;
}
  where
    none-more : (n : ℕ) → 0 + n ≡ n
    none-more n = omega arith

-- of all stations
pub agreed-all : (stations : List StationData) →
    sum_by (λ station. sum_by (λ entry. 1 + length entry.item.retry) (agenda station)) stations ≡ sum_by station_attempts stations
agreed-all [] = refl
agreed-all (s ∷ stations) =
    sum_by-cons (λ (station : StationData). sum_by entry-attempts (agenda station)) s stations
    ∙ (ap (λ n. n + sum_by (λ (station : StationData). sum_by entry-attempts (agenda station)) stations) (agreed s).attempts
    ∙ (ap (λ n. station_attempts s + n) (agreed-all stations) ∙ sym (sum_by-cons station_attempts s stations)))
