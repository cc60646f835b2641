-- Entry by entry of an agenda: when both channels are free for the next message at the latest, and that no frame's first item comes late.
use Rattle.std.proofs.Common.{◌≡◌, ◌≢◌, ℕ, ◌+◌, ◌≤◌, Bool, false, List, [], ◌∷◌, ◌++◌, ap, ◌∙◌, arith}
use Rattle.std.proofs.lemmas.Bool.Decides.{nat_tests}
use Rattle.std.proofs.lemmas.List.Sums.{sum_by-cons}
use Rattle.std.specs.Prelude.{max, sum_by, if◌then◌else◌, ◌==◌, IsSome}
use Rattle.bus_formats.specs.Accepted.{HasSuperseding, IsSuperseded}
use Rattle.bus_formats.specs.Plans.{ItemData}
use Rattle.bus_formats.specs.declared.plan.Kind.{Kind}
use Rattle.bus_formats.specs.declared.plan.Kind.TheVariants.{Receive, Transmit, Relay, Mode}
use Rattle.bus_load.specs.Load.{item_cost, gap_beyond}
use Rattle.bus_model.specs.Starts.{Entry, entries_in, planned_start, first_origin}

-- what follows isn't the first item of a frame
abbrev pub IsWithinFrame : List Entry → Type 0
IsWithinFrame [] = Unit {0}
IsWithinFrame (entry ∷ later) = entry.place ≢ 1

module _ (long : Bool) where
  -- where both channels are free by tick b, the entry's first attempt starts by this tick
  abbrev pub start_by : ℕ → Entry → ℕ
  start_by b entry = max (b + gap_beyond entry.item) (if entry.place == 1 then planned_start first_origin entry else 0)

  -- it isn't late, and one that may be abandoned is followed in its frame
  pub record FitsHere (b : ℕ) (entry : Entry) (later : List Entry) : Type 0 where
    pub first : entry.place ≡ 1 → b + gap_beyond entry.item ≤ planned_start first_origin entry
    pub within : IsSome entry.item.abandon → IsWithinFrame later

  -- and so it is with all that follow
  abbrev pub OnTime : ℕ → List Entry → Type 0
  OnTime b [] = Unit {0}
  OnTime b (entry ∷ later) = FitsHere b entry later × OnTime (start_by b entry + item_cost long entry.item) later

  start-earlier : (a b : ℕ) (entry : Entry) → a ≤ b → start_by a entry ≤ start_by b entry
  start-earlier a b entry order = by-test (if entry.place == 1 then planned_start first_origin entry else 0)
    where
      by-test : (p : ℕ) → max (a + gap_beyond entry.item) p ≤ max (b + gap_beyond entry.item) p
      by-test p = omega (arith, order)

  -- where the channels are free earlier all are on time too
  pub earlier : (a b : ℕ) (entries : List Entry) → a ≤ b → OnTime b entries → OnTime a entries
  earlier a b [] order h = tt
  earlier a b (entry ∷ later) order h = (
    record { first = λ is. omega (arith, h.0.first is, order); within = h.0.within },
    earlier (start_by a entry + item_cost long entry.item) (start_by b entry + item_cost long entry.item) later
        (omega (arith, start-earlier a b entry order)) h.1,
  )

  -- ---- the items of a frame

  -- what an item that isn't the first of its frame takes, with its gap
  abbrev pub gap_and_cost : ItemData → ℕ
  gap_and_cost item = gap_beyond item + item_cost long item

  not-first : (place : ℕ) (planned b : ℕ) → 2 ≤ place → max b (if place == 1 then planned else 0) ≡ b
  not-first place planned b late =
      let test : (place == 1) ≡ false = grind (arith, nat_tests, late) in
      ap (λ (t : Bool). max b (if t then planned else 0)) test ∙ omega arith

  -- one that may be abandoned isn't the last
  never-last : (kind : Kind) → IsSuperseded kind [] → ⊥
  never-last (Receive to sub words) h = h
  never-last (Transmit from sub count) h = h
  never-last (Relay from from_sub to to_sub count) h = h
  never-last (Mode to mode_sub transmit code word) h = h

  pub followed : (frame offset place : ℕ) (item : ItemData) (items : List ItemData) (later : List Entry) → 1 ≤ place → HasSuperseding (item ∷ items) →
      IsSome item.abandon → IsWithinFrame (entries_in frame offset (place + 1) items ++ later)
  followed frame offset place item [] later late h may = absurd (never-last item.kind (h.0 may))
  followed frame offset place item (next ∷ items) later late h may = λ is. omega (arith, is, late)

  pub rest-on-time : (frame offset place b : ℕ) (items : List ItemData) (later : List Entry) → 2 ≤ place → HasSuperseding items →
      OnTime (b + sum_by gap_and_cost items) later → OnTime b (entries_in frame offset place items ++ later)
  rest-on-time frame offset place b [] later late h all = earlier b (b + sum_by gap_and_cost []) later (omega arith) all
  rest-on-time frame offset place b (item ∷ items) later late h all =
      let entry : Entry = record { frame = frame; place = place; offset = offset; item = item } in
      let start : start_by b entry ≡ b + gap_beyond item = not-first place (planned_start first_origin entry) (b + gap_beyond item) late in
      let after : ℕ = start_by b entry + item_cost long item in (
        record {
          first = λ is. absurd (omega (arith, is, late));
          within = followed frame offset place item items later (omega (arith, late)) h;
        },
        rest-on-time frame offset (place + 1) after items later (omega (arith, late)) h.1
            (earlier (after + sum_by gap_and_cost items) (b + sum_by gap_and_cost (item ∷ items)) later
            (omega (arith, start, sum_by-cons gap_and_cost item items)) all),
      )

  -- a frame whose first item isn't late
  pub frame-on-time : (frame offset b : ℕ) (item : ItemData) (items : List ItemData) (later : List Entry) → HasSuperseding (item ∷ items) →
      b + gap_beyond item ≤ first_origin.tick + offset →
      OnTime (first_origin.tick + offset + item_cost long item + sum_by gap_and_cost items) later →
      OnTime b (entries_in frame offset 1 (item ∷ items) ++ later)
  frame-on-time frame offset b item items later h fits all =
      let entry : Entry = record { frame = frame; place = 1; offset = offset; item = item } in
      let start : start_by b entry ≤ first_origin.tick + offset = omega (arith, fits) in
      let after : ℕ = start_by b entry + item_cost long item in (
        record { first = λ is. omega (arith, fits); within = followed frame offset 1 item items later (omega arith) h },
        rest-on-time frame offset 2 after items later (omega arith) h.1
            (earlier (after + sum_by gap_and_cost items) (first_origin.tick + offset + item_cost long item + sum_by gap_and_cost items) later (omega (arith, start)) all),
      )
