-- The whole run: from its first attempt on the frames are on time.
use Rattle.std.proofs.Common.{◌≡◌, ℕ, zero, suc, ◌+◌, ◌-◌, ◌≤◌, Bool, true, false, List, [], ◌∷◌, take, drop, map, Option, Some, None, refl, sym, ap, ◌∙◌, subst, arith}
use Rattle.std.proofs.lemmas.List.Elements.{recursion_from_All}
use Rattle.std.proofs.lemmas.List.Sums.{sum_by-cons}
use Rattle.std.proofs.lemmas.Option.{none-some, same_Some}
use Rattle.std.specs.Option.{option_or}
use Rattle.std.specs.Prelude.{All, IfSome, find, sum_by, if◌then◌else◌}
use Rattle.std.specs.List.{AllByRecursion as Each}
use Rattle.bus_formats.specs.Accepted.{IsFrameSendable, HasSuperseding, IsAccepted}
use Rattle.bus_formats.specs.Plans.{ItemData, FrameData, StationData, PlanData}
use Rattle.bus_load.specs.InTime.{planned_tick, StartsAsPlanned, FramesStartAsPlanned}
use Rattle.bus_load.specs.Load.{starting, station_fits, offer_in_items, offer_in_frames, offer_from, first_offer}
use Rattle.bus_load.specs.declared.reckoned.OfferPlace.{OfferPlace}
use Rattle.bus_load.proofs.FramesFit.{agenda-on-time}
use Rattle.bus_load.proofs.Punctual.{Brief}
use Rattle.bus_load.proofs.Stepping.{IsPlannedEntry, KeepsTime, message-keeps}
use Rattle.bus_model.specs.Attempts.{is_offer}
use Rattle.bus_model.specs.Memory.{TimedLoad}
use Rattle.bus_model.specs.Run.{Run, Next, is_at, first_present, first_run, most_attempts, next_item, next_attempt, attempt, attempts_after, run_of}
use Rattle.bus_model.specs.Starts.{entries_in, entries_from, repeated, agenda, starts, first_origin}
use Rattle.bus_law_plans.specs.Entries.{IsRunOf}
use Rattle.bus_law_plans.proofs.Agendas.{each-repeated}
use Rattle.bus_law_plans.proofs.EachRun.{each-run}
use Rattle.bus_law_plans.proofs.FirstRun.{first-run}
use Rattle.bus_law_plans.proofs.Lists.{each-append, each-weaker}
use Rattle.bus_law_plans.proofs.NextRun.{attempt-run}

-- ---- where a frame is planned

-- the frames before one, and it
record IsCut (frames : List FrameData) (d : ℕ) (f : FrameData) (later : List FrameData) : Type 0 where
  ticks : sum_by (λ (g : FrameData). g.ticks) (take (suc d) frames) ≡ sum_by (λ (g : FrameData). g.ticks) (take d frames) + f.ticks
  rest : drop (suc d) frames ≡ later

cut-at : (frames : List FrameData) (d : ℕ) (f : FrameData) (later : List FrameData) → drop d frames ≡ f ∷ later → IsCut frames d f later
cut-at [] zero f later is = cc
cut-at [] (suc d) f later is = cc
cut-at (g ∷ frames) zero f later is =
    let here : g ≡ f = ap (λ (l : List FrameData). head-of l) is in
    record {
      ticks = omega (arith, sum_by-cons (λ (x : FrameData). x.ticks) g [], ap (λ (x : FrameData). x.ticks) here);
      rest = ap (drop 1) is ∙ refl;
    }
  where
    head-of : List FrameData → FrameData
    head-of [] = f
    head-of (x ∷ xs) = x
cut-at (g ∷ frames) (suc d) f later is =
    let rest = cut-at frames d f later is in
    record {
      ticks = omega (
        arith,
        rest.ticks,
        sum_by-cons (λ (x : FrameData). x.ticks) g (take (suc d) frames),
        sum_by-cons (λ (x : FrameData). x.ticks) g (take d frames),
      );
      rest = rest.rest;
    }

module _ (station : StationData) where
  abbrev all : List FrameData
  all = repeated station.repeat station.frames

  in-frame : (number offset place : ℕ) (items : List ItemData) → first_origin.tick + offset ≡ planned_tick station number →
      Each (λ (i : ItemData). is_offer i.kind ≡ false) items → Each (IsPlannedEntry station) (entries_in number offset place items)
  in-frame number offset place [] planned plain = tt
  in-frame number offset place (item ∷ items) planned plain =
      (record { offset = planned; plain = plain.0 }, in-frame number offset (place + 1) items planned plain.1)

  in-frames : (d offset : ℕ) (frames : List FrameData) → offset ≡ sum_by (λ (g : FrameData). g.ticks) (take d all) → drop d all ≡ frames →
      Each (λ (f : FrameData). Each (λ (i : ItemData). is_offer i.kind ≡ false) f.items) frames → Each (IsPlannedEntry station) (entries_from (d + 1) offset frames)
  in-frames d offset [] same is plain = tt
  in-frames d offset (f ∷ later) same is plain =
      let cut : IsCut all d f later = cut-at all d f later is in
      let number : d + 1 - 1 ≡ d = omega arith in
      let planned : 8 + offset ≡ 8 + sum_by (λ (g : FrameData). g.ticks) (take (d + 1 - 1) all) =
      ap (λ n. 8 + n) same ∙ ap (λ n. 8 + sum_by (λ (g : FrameData). g.ticks) (take n all)) (sym number) in
      each-append (IsPlannedEntry station) (entries_in (d + 1) offset 1 f.items) (entries_from (d + 1 + 1) (offset + f.ticks) later)
      (in-frame (d + 1) offset 1 f.items planned plain.0)
      (subst (λ n. Each (IsPlannedEntry station) (entries_from (n + 1) (offset + f.ticks) later)) (next d)
      (in-frames (suc d) (offset + f.ticks) later (ap (λ n. n + f.ticks) same ∙ sym cut.ticks) cut.rest plain.1))
    where
      next : (n : ℕ) → suc n ≡ n + 1
      next n = omega arith

  -- each entry of its agenda is planned by the frames before it
  pub entries-planned : Each (λ (f : FrameData). Each (λ (i : ItemData). is_offer i.kind ≡ false) f.items) station.frames → Each (IsPlannedEntry station) (agenda station)
  unfolding agenda
  entries-planned plain =
      in-frames 0 0 all refl refl
      (each-repeated station.repeat (λ (f : FrameData). Each (λ (i : ItemData). is_offer i.kind ≡ false) f.items) station.frames plain)

-- ---- no offers

option-none : (a b : Option OfferPlace) → option_or a b ≡ None → (a ≡ None) × (b ≡ None)
option-none None b is = (refl, is)
option-none (Some x) b is = absurd (none-some x (sym is))

plain-items : (station frame place : ℕ) (items : List ItemData) → offer_in_items station frame place items ≡ None → Each (λ (i : ItemData). is_offer i.kind ≡ false) items
plain-items station frame place [] none = tt
plain-items station frame place (item ∷ items) none =
    let both = by-test (is_offer item.kind) refl none in (both.0, plain-items station frame (suc place) items both.1)
  where
    by-test : (b : Bool) → is_offer item.kind ≡ b →
        (if b then Some record { station = station; frame = frame; item = place } else offer_in_items station frame (suc place) items) ≡ None →
        (is_offer item.kind ≡ false) × (offer_in_items station frame (suc place) items ≡ None)
    by-test true is h = absurd (none-some _ (sym h))
    by-test false is h = (is, h)

plain-frames : (station number : ℕ) (frames : List FrameData) → offer_in_frames station number frames ≡ None →
    Each (λ (f : FrameData). Each (λ (i : ItemData). is_offer i.kind ≡ false) f.items) frames
plain-frames station number [] none = tt
plain-frames station number (f ∷ later) none =
    let both = option-none (offer_in_items station number 1 f.items) (offer_in_frames station (suc number) later) none in
    (plain-items station number 1 f.items both.0, plain-frames station (suc number) later both.1)

pub plain-station : (plan : PlanData) (number : ℕ) (stations : List StationData) (station : StationData) → offer_from plan.start number stations ≡ None →
    find (starts plan) stations ≡ Some station → Each (λ (f : FrameData). Each (λ (i : ItemData). is_offer i.kind ≡ false) f.items) station.frames
plain-station plan number [] station none found = absurd (none-some station found)
plain-station plan number (s ∷ later) station none found = by-test (starts plan s) none found (plain-station plan (suc number) later station)
  where
    by-test : (b : Bool) → (if b then offer_in_frames number 1 s.frames else offer_from plan.start (suc number) later) ≡ None →
        (if b then Some s else find (starts plan) later) ≡ Some station →
        (offer_from plan.start (suc number) later ≡ None → find (starts plan) later ≡ Some station →
        Each (λ (f : FrameData). Each (λ (i : ItemData). is_offer i.kind ≡ false) f.items) station.frames) →
        Each (λ (f : FrameData). Each (λ (i : ItemData). is_offer i.kind ≡ false) f.items) station.frames
    by-test true h is rest =
        subst (λ (o : StationData). Each (λ (f : FrameData). Each (λ (i : ItemData). is_offer i.kind ≡ false) f.items) o.frames) (same_Some s station is)
        (plain-frames number 1 s.frames h)
    by-test false h is rest = rest h is

-- ---- the first attempt

pub found-first : (plan : PlanData) (stations : List StationData) (station : StationData) → find (starts plan) stations ≡ Some station →
    find (is_at plan.start) (map (first_present plan) stations) ≡ Some (first_present plan station)
found-first plan [] station found = absurd (none-some station found)
found-first plan (s ∷ later) station found = by-test (starts plan s) found (found-first plan later station)
  where
    by-test : (b : Bool) → (if b then Some s else find (starts plan) later) ≡ Some station →
        (find (starts plan) later ≡ Some station → find (is_at plan.start) (map (first_present plan) later) ≡ Some (first_present plan station)) →
        (if b then Some (first_present plan s) else find (is_at plan.start) (map (first_present plan) later)) ≡ Some (first_present plan station)
    by-test true is rest = ap (λ o. Some (first_present plan o)) (same_Some s station is)
    by-test false is rest = rest is

sendable-of : (plan : PlanData) (stations : List StationData) (station : StationData) → Each (λ (s : StationData). Each (λ (f : FrameData). HasSuperseding f.items) s.frames) stations →
    find (starts plan) stations ≡ Some station → Each (λ (f : FrameData). HasSuperseding f.items) station.frames
sendable-of plan [] station each found = absurd (none-some station found)
sendable-of plan (s ∷ later) station each found = by-test (starts plan s) found (sendable-of plan later station each.1)
  where
    by-test : (b : Bool) → (if b then Some s else find (starts plan) later) ≡ Some station →
        (find (starts plan) later ≡ Some station → Each (λ (f : FrameData). HasSuperseding f.items) station.frames) →
        Each (λ (f : FrameData). HasSuperseding f.items) station.frames
    by-test true is rest = subst (λ (o : StationData). Each (λ (f : FrameData). HasSuperseding f.items) o.frames) (same_Some s station is) each.0
    by-test false is rest = rest is

-- in each of its frames an item that may be abandoned is followed by one that supersedes it
pub superseding-of : (plan : PlanData) → IsAccepted plan → (station : StationData) → starting plan ≡ Some station → Each (λ (f : FrameData). HasSuperseding f.items) station.frames
superseding-of plan accepted station found =
    sendable-of plan plan.stations station
    (each-weaker (λ (s : StationData). Each (IsFrameSendable plan s.terminal.address) s.frames)
    (λ (s : StationData). Each (λ (f : FrameData). HasSuperseding f.items) s.frames)
    (λ s all. each-weaker (IsFrameSendable plan s.terminal.address) (λ (f : FrameData). HasSuperseding f.items) (λ f h. h.superseding) s.frames all) plan.stations
    (each-weaker (λ (s : StationData). All (IsFrameSendable plan s.terminal.address) s.frames)
    (λ (s : StationData). Each (IsFrameSendable plan s.terminal.address) s.frames)
    (λ s all. recursion_from_All (IsFrameSendable plan s.terminal.address) s.frames all) plan.stations
    (recursion_from_All (λ (s : StationData). All (IsFrameSendable plan s.terminal.address) s.frames) plan.stations accepted.frames))) found

module _ (k : ℕ) (low : k ≤ 3) (long : Bool) (plan : PlanData) (accepted : IsAccepted plan) (brief : Brief long plan.faults) (loads : List TimedLoad)
    (station : StationData) (found : starting plan ≡ Some station) (none : first_offer plan ≡ None) (fits : station_fits long station ≡ true) where
  first-keeps : KeepsTime long station (first_run plan)
  first-keeps = record {
    origin = refl;
    attempts = tt;
    held = first_present plan station;
    found = found-first plan plan.stations station found;
    planned = entries-planned station (plain-station plan 1 plan.stations station none found);
    by = 4;
    free = record {
      well = omega arith;
      opens = omega arith;
      quiet = omega arith;
      old = tt;
      on_time = agenda-on-time long station (superseding-of plan accepted station found) fits;
    };
  }

  attempt-keeps : (run : Run) → IsRunOf plan run → KeepsTime long station run → KeepsTime long station (attempt k loads plan.faults run)
  attempt-keeps run is keeps = by-next (next_item run) refl
    where
      by-next : (next : Option Next) → next_item run ≡ next → KeepsTime long station (next_attempt k loads plan.faults run next)
      by-next None given = keeps
      by-next (Some next) given = message-keeps k low long plan accepted brief loads station run is keeps next given

  each-keeps : (n : ℕ) → IsRunOf plan (attempts_after k loads plan.faults n (first_run plan)) × KeepsTime long station (attempts_after k loads plan.faults n (first_run plan))
  each-keeps n =
      each-run (λ run. IsRunOf plan run × KeepsTime long station run) k loads plan.faults (first_run plan) (first-run plan accepted, first-keeps)
      (λ run is. (attempt-run k plan loads run accepted is.0, attempt-keeps run is.0 is.1)) n

  pub starts-as-planned : Each (StartsAsPlanned station) (run_of k loads plan).attempts
  unfolding run_of
  starts-as-planned = (each-keeps (most_attempts plan)).1.attempts

-- the frames of the station that starts
pub frames-start : (k : ℕ) → k ≤ 3 → (long : Bool) (plan : PlanData) → IsAccepted plan → Brief long plan.faults → (loads : List TimedLoad) → first_offer plan ≡ None →
    IfSome (starting plan) (λ station. station_fits long station ≡ true) → FramesStartAsPlanned k loads plan
frames-start k low long plan accepted brief loads none fits = by-station (starting plan) refl fits
  where
    by-station : (o : Option StationData) → starting plan ≡ o → IfSome o (λ station. station_fits long station ≡ true) →
        IfSome o (λ station. Each (StartsAsPlanned station) (run_of k loads plan).attempts)
    by-station None found h = tt
    by-station (Some station) found h = starts-as-planned k low long plan accepted brief loads station found none h
