-- What holds of the items of frames holds of the entries of an agenda.
use Rattle.std.proofs.Common.{◌≡◌, ℕ, zero, suc, ◌+◌, List, [], ◌∷◌, ◌++◌, refl, sym, ap, ◌∙◌, subst}
use Rattle.std.specs.Prelude.{All}
use Rattle.std.specs.List.{AllByRecursion as Each}
use Rattle.std.proofs.lemmas.List.Elements.{recursion_from_All}
use Rattle.bus_formats.specs.Accepted.{HasItemRanges, IsSendable, IsSuperseded, HasSuperseding, IsFrameSendable, HasFrameRanges}
use Rattle.bus_formats.specs.declared.plan.Kind.{Kind}
use Rattle.bus_formats.specs.declared.plan.Kind.TheVariants.{Receive, Transmit, Relay, Mode}
use Rattle.bus_formats.specs.Plans.{ItemData, FrameData, StationData, PlanData}
use Rattle.bus_model.specs.Starts.{Entry, entries_in, entries_from, repeated, agenda}
use Rattle.bus_law_plans.specs.Entries.{items_of, IsEntryOf}
use Rattle.bus_law_plans.proofs.Lists.{each-append, each-both, each-weaker}

-- ---- each item

in-frame : (P : ItemData → Type 0) (frame offset place : ℕ) (items : List ItemData) → Each P items →
    Each (λ (e : Entry). P e.item) (entries_in frame offset place items)
in-frame P frame offset place [] all = tt
in-frame P frame offset place (item ∷ items) all = (all.0, in-frame P frame offset (place + 1) items all.1)

in-frames : (P : ItemData → Type 0) (frame offset : ℕ) (frames : List FrameData) → Each (λ (f : FrameData). Each P f.items) frames →
    Each (λ (e : Entry). P e.item) (entries_from frame offset frames)
in-frames P frame offset [] all = tt
in-frames P frame offset (f ∷ frames) all =
    each-append (λ (e : Entry). P e.item) (entries_in frame offset 1 f.items) (entries_from (frame + 1) (offset + f.ticks) frames)
    (in-frame P frame offset 1 f.items all.0) (in-frames P (frame + 1) (offset + f.ticks) frames all.1)

-- what holds of each frame holds of each of the frames repeated
pub each-repeated : (n : ℕ) (P : FrameData → Type 0) (frames : List FrameData) → Each P frames → Each P (repeated n frames)
each-repeated zero P frames all = tt
each-repeated (suc n) P frames all = each-append P frames (repeated n frames) all (each-repeated n P frames all)

-- ---- the items of an agenda

items-append : (xs ys : List Entry) → items_of (xs ++ ys) ≡ items_of xs ++ items_of ys
items-append [] ys = refl
items-append (x ∷ xs) ys = ap (λ l. x.item ∷ l) (items-append xs ys)

items-in : (frame offset place : ℕ) (items : List ItemData) → items_of (entries_in frame offset place items) ≡ items
items-in frame offset place [] = refl
items-in frame offset place (item ∷ items) = ap (λ l. item ∷ l) (items-in frame offset (place + 1) items)

next-append : (kind : Kind) (xs ys : List ItemData) → IsSuperseded kind xs → IsSuperseded kind (xs ++ ys)
next-append (Receive to sub words) xs ys h = absurd h
next-append (Relay from from_sub to to_sub count) xs ys h = absurd h
next-append (Mode to mode_sub transmit code word) xs ys h = absurd h
next-append (Transmit from sub count) [] ys h = absurd h
next-append (Transmit from sub count) (next ∷ later) ys h = h

superseding-append : (xs ys : List ItemData) → HasSuperseding xs → HasSuperseding ys → HasSuperseding (xs ++ ys)
superseding-append [] ys first second = second
superseding-append (x ∷ xs) ys first second =
    ((λ may. next-append x.kind xs ys (first.0 may)), superseding-append xs ys first.1 second)

superseding-frames : (frame offset : ℕ) (frames : List FrameData) → Each (λ (f : FrameData). HasSuperseding f.items) frames →
    HasSuperseding (items_of (entries_from frame offset frames))
superseding-frames frame offset [] all = tt
superseding-frames frame offset (f ∷ frames) all =
    let later : List Entry = entries_from (frame + 1) (offset + f.ticks) frames in
    subst HasSuperseding
    (sym (items-append (entries_in frame offset 1 f.items) later ∙ ap (λ l. l ++ items_of later) (items-in frame offset 1 f.items)))
    (superseding-append f.items (items_of later) all.0 (superseding-frames (frame + 1) (offset + f.ticks) frames all.1))

-- ---- an agenda

-- each entry may be sent by its station
pub agenda-entries : (plan : PlanData) (station : StationData) → All HasFrameRanges station.frames →
    All (IsFrameSendable plan station.terminal.address) station.frames → Each (IsEntryOf plan station.terminal.address) (agenda station)
unfolding agenda
agenda-entries plan station ranges sendable =
    let own : ℕ = station.terminal.address in
    let P : ItemData → Type 0 = λ item. HasItemRanges item × IsSendable plan own item.kind in
    let frames : Each (λ (f : FrameData). Each P f.items) station.frames =
    each-both HasFrameRanges (IsFrameSendable plan own) (λ f. Each P f.items)
    (λ f r s. each-both HasItemRanges (λ (i : ItemData). IsSendable plan own i.kind) P (λ i x y. (x, y)) f.items
    (recursion_from_All HasItemRanges f.items r.items) (recursion_from_All (λ (i : ItemData). IsSendable plan own i.kind) f.items s.items))
    station.frames (recursion_from_All HasFrameRanges station.frames ranges) (recursion_from_All (IsFrameSendable plan own) station.frames sendable) in
    each-weaker (λ (e : Entry). P e.item) (IsEntryOf plan own) (λ e h. record { ranges = h.0; sendable = h.1 })
    (entries_from 1 0 (repeated station.repeat station.frames))
    (in-frames P 1 0 (repeated station.repeat station.frames) (each-repeated station.repeat (λ (f : FrameData). Each P f.items) station.frames frames))

-- one that may be abandoned is followed by one that supersedes it
pub agenda-superseding : (plan : PlanData) (station : StationData) → All (IsFrameSendable plan station.terminal.address) station.frames →
    HasSuperseding (items_of (agenda station))
unfolding agenda
agenda-superseding plan station sendable =
    let own : ℕ = station.terminal.address in
    superseding-frames 1 0 (repeated station.repeat station.frames)
    (each-repeated station.repeat (λ (f : FrameData). HasSuperseding f.items) station.frames
    (each-weaker (IsFrameSendable plan own) (λ (f : FrameData). HasSuperseding f.items) (λ f h. h.superseding) station.frames
    (recursion_from_All (IsFrameSendable plan own) station.frames sendable)))
