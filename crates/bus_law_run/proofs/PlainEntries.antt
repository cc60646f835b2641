-- The agenda of a station is plain where the station is.
use Rattle.std.proofs.Common.{ℕ, List, [], ◌∷◌}
use Rattle.std.specs.Prelude.{◌+◌}
use Rattle.std.specs.List.{AllByRecursion as Each}
use Rattle.bus_formats.specs.Plans.{ItemData, FrameData, StationData}
use Rattle.bus_model.specs.Starts.{Entry, entries_in, entries_from, repeated, agenda}
use Rattle.bus_law_plans.proofs.Agendas.{each-repeated}
use Rattle.bus_law_plans.proofs.Lists.{each-append}
use Rattle.bus_law_told.specs.Plain.{IsPlainItem, IsPlainFrame, IsPlainStation}

in-frame : (frame offset place : ℕ) (items : List ItemData) → Each IsPlainItem items →
    Each (λ (e : Entry). IsPlainItem e.item) (entries_in frame offset place items)
in-frame frame offset place [] all = tt
in-frame frame offset place (item ∷ items) all = (all.0, in-frame frame offset (place + 1) items all.1)

in-frames : (frame offset : ℕ) (frames : List FrameData) → Each IsPlainFrame frames →
    Each (λ (e : Entry). IsPlainItem e.item) (entries_from frame offset frames)
in-frames frame offset [] all = tt
in-frames frame offset (f ∷ frames) all =
    each-append (λ (e : Entry). IsPlainItem e.item) (entries_in frame offset 1 f.items) (entries_from (frame + 1) (offset + f.ticks) frames)
    (in-frame frame offset 1 f.items all.0) (in-frames (frame + 1) (offset + f.ticks) frames all.1)

pub in-agenda : (station : StationData) → IsPlainStation station → Each (λ (e : Entry). IsPlainItem e.item) (agenda station)
unfolding agenda
in-agenda station all =
    in-frames 1 0 (repeated station.repeat station.frames) (each-repeated station.repeat IsPlainFrame station.frames all)
