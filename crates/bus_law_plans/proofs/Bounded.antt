-- Each attempt of a run keeps its bounds.
use Rattle.std.proofs.Common.{◌≡◌, inl, inr, ℕ, suc, ◌+◌, ◌-◌, ◌<◌, ◌≤◌, Bool, true, false, List, [], ◌∷◌, length, map, Option, Some, None, refl, sym, ap, ◌∙◌, subst, arith, length-append}
use Rattle.std.proofs.lemmas.Bool.{cases_Bool, true≢false}
use Rattle.std.proofs.lemmas.List.{length-reverse}
use Rattle.std.specs.Prelude.{IfSome, IsSome, not, reverse, drop, find, ◌==◌, if◌then◌else◌}
use Rattle.std.specs.List.{AllByRecursion as Each, AllZip}
use Rattle.std.proofs.lemmas.List.Elements.{recursion_from_All}
use Rattle.bus_base.specs.declared.samples.Channel.{Channel}
use Rattle.bus_formats.specs.Accepted.{HasItemRanges, HasStationRanges, IsAccepted, addresses}
use Rattle.bus_formats.specs.Plans.{StationData, PlanData}
use Rattle.bus_formats.specs.Times.{settling_quiet}
use Rattle.bus_formats.specs.declared.form.Outcome.{Outcome}
use Rattle.bus_formats.specs.declared.form.Outcome.TheVariants.{Clear, Sent, Declined, Passed, Illegal, Busy, NoResponse, BadReply, Abandoned, Yielded}
use Rattle.bus_retry.specs.Retries.{next_of}
use Rattle.bus_retry.specs.declared.Choice.{Choice}
use Rattle.bus_retry.specs.declared.Choice.TheVariants.{Again, Done}
use Rattle.bus_retry.specs.declared.RetryState.{RetryState}
use Rattle.bus_model.specs.Attempts.{Begun}
use Rattle.bus_model.specs.Endings.{Passing}
use Rattle.bus_model.specs.Memory.{TimedLoad}
use Rattle.bus_model.specs.Message.{Present, address_of_station, Message}
use Rattle.bus_model.specs.Run.{Run, Next, is_at, with_station, after_attempt, next_item, next_by, next_in, left_at, give_control, take_control, pass_control, with_message, next_attempt, attempt}
use Rattle.bus_model.specs.Starts.{Entry, Origin, Opening, usual, superseding, taking, opening_after, planned_start, planned_at, quiet_for, earliest_for, start_of}
use Rattle.bus_model.specs.Strikes.{burst_end, ShownAnswer}
use Rattle.bus_law_plans.specs.Amounts.{ticks_before, Rises}
use Rattle.bus_law_plans.specs.Bounds.{IsShort, frame_ticks_before, ticks_bound, opening_tick, opening_need, planned_for, KeepsBounds}
use Rattle.bus_law_plans.specs.Entries.{IsStationOf, IsRunOf, IsNext}
use Rattle.bus_law_plans.specs.Sent.{begun_of, message_of}
use Rattle.bus_law_plans.proofs.Growing.{IsRising, begun-by, same-changed, same-kept, all-grow, found-grows, all-rising}
use Rattle.bus_law_plans.proofs.Lists.{each-append, each-weaker, zip-second, zip-with, drop-none}
pub use Rattle.bus_law_plans.proofs.Lists.{each-reverse}
use Rattle.bus_law_plans.proofs.Messages.{IsKept, message-kept}
use Rattle.bus_law_plans.proofs.NextRun.{message-run, stations-addresses}
use Rattle.bus_law_plans.proofs.Nexts.{next-of}
use Rattle.bus_law_plans.proofs.Shown.{IsPrompt, EndsShort, first-short, ends-soon, old-short, bursts-short, bursts-few, quiet-low}
use Rattle.bus_law_plans.proofs.Stations.{Apart, apart-from, found-beside, find-here, find-later, find-changed}
use Rattle.bus_law_plans.proofs.Taking.{Taken, taken-by}

-- ---- when an attempt starts

quiet-few : (retry : Option RetryState) (entry : Entry) (need : ℕ) → need ≤ 40 → entry.item.gap ≤ 2000 → quiet_for retry entry need ≤ 1996
quiet-few None entry need few gap = omega (arith, few, gap)
quiet-few (Some state) entry need few gap = omega (arith, few)

earliest-low : (retry : Option RetryState) (origin : Origin) (entry : Entry) (bound : ℕ) → planned_start origin entry ≤ bound → earliest_for retry origin entry ≤ bound
earliest-low (Some state) origin entry bound low = omega arith
earliest-low None origin entry bound low = by-test (entry.place == 1)
  where
    by-test : (b : Bool) → (if b then planned_start origin entry else 0) ≤ bound
    by-test true = low
    by-test false = omega arith

start-low : (opening : Opening) (retry : Option RetryState) (origin : Origin) (entry : Entry) (z bound : ℕ) → z ≤ bound → opening_tick opening ≤ bound →
    opening_need opening ≤ 40 → entry.item.gap ≤ 2000 → planned_start origin entry ≤ bound → start_of opening retry origin entry z ≤ bound + 1996
start-low (usual need tick) retry origin entry z bound quiet opens needs gap planned =
    omega (arith, quiet, opens, quiet-few retry entry need needs gap, earliest-low retry origin entry bound planned)
start-low (superseding tick channel) retry origin entry z bound quiet opens needs gap planned = omega (arith, opens)
start-low (taking tick) retry origin entry z bound quiet opens needs gap planned = omega (arith, opens)

-- ---- what the next attempt waits for

after-tick : (outcome : Outcome) (channel : Channel) (tick : ℕ) → opening_tick (opening_after outcome channel tick) ≤ suc tick
after-tick Clear channel tick = omega arith
after-tick Sent channel tick = omega arith
after-tick Declined channel tick = omega arith
after-tick Passed channel tick = omega arith
after-tick (Illegal part) channel tick = omega arith
after-tick (Busy part) channel tick = omega arith
after-tick (NoResponse part) channel tick = omega arith
after-tick (BadReply part) channel tick = omega arith
after-tick Abandoned channel tick = omega arith
after-tick Yielded channel tick = omega arith

after-need : (outcome : Outcome) (channel : Channel) (tick : ℕ) → opening_need (opening_after outcome channel tick) ≤ settling_quiet
after-need Clear channel tick = omega arith
after-need Sent channel tick = omega arith
after-need Declined channel tick = omega arith
after-need Passed channel tick = omega arith
after-need (Illegal part) channel tick = omega arith
after-need (Busy part) channel tick = omega arith
after-need (NoResponse part) channel tick = omega arith
after-need (BadReply part) channel tick = omega arith
after-need Abandoned channel tick = omega arith
after-need Yielded channel tick = omega arith

-- ---- a list reversed

-- an answer that runs on, by a later bound
some-later : (o : Option ShownAnswer) (low high : ℕ) → low ≤ high → IfSome o (λ a. (burst_end a.burst ≤ low) × IsShort a.burst) →
    IfSome o (λ a. (burst_end a.burst ≤ high) × IsShort a.burst)
some-later None low high order h = tt
some-later (Some a) low high order h = (omega (arith, h.0, order), h.1)

-- ---- control is taken

-- the station that is found keeps its items where another change leaves them
left-kept : (address other : ℕ) (change : Present → Present) → ((s : Present) → (change s).left ≡ s.left) →
    ((s : Present) → address_of_station (change s) ≡ address_of_station s) → (stations : List Present) →
    left_at (find (is_at address) (with_station other change stations)) ≡ left_at (find (is_at address) stations)
left-kept address other change left same [] = refl
left-kept address other change left same (s ∷ stations) =
    let now : Present = if is_at other s then change s else s in
    let at : is_at address now ≡ is_at address s = ap (λ n. n == address) (by-address (is_at other s)) in
    elim (cases_Bool (is_at address s)) [
      | inl here ↦ ap left_at (find-here address now (with_station other change stations) (at ∙ here)) ∙ (by-left (is_at other s) ∙ sym (ap left_at (find-here address s stations here)))
      | inr away ↦ ap left_at (find-later address now (with_station other change stations) (at ∙ away))
          ∙ (left-kept address other change left same stations ∙ sym (ap left_at (find-later address s stations away)))
    ]
  where
    by-address : (b : Bool) → address_of_station (if b then change s else s) ≡ address_of_station s
    by-address true = same s
    by-address false = refl

    by-left : (b : Bool) → (if b then change s else s).left ≡ s.left
    by-left true = left s
    by-left false = refl

-- the planned start where control was taken is its tick
planned-at : (tick : ℕ) (o : Option Present) → IsSome (next_by o) → planned_for (planned_at tick (left_at o)) o ≤ tick
planned-at tick None some = absurd (true≢false (sym some))
planned-at tick (Some s) some = by-left s.left refl some
  where
    by-left : (left : List Entry) → s.left ≡ left → IsSome (next_in s left) → planned_for (planned_at tick left) (Some s) ≤ tick
    by-left [] same h = absurd (true≢false (sym h))
    by-left (entry ∷ later) same h =
        let here : ticks_before s.plan s.left ≡ entry.offset = ap (ticks_before s.plan) same in omega (arith, here)

taken-bounds : (run : Run) (address tick : ℕ) → KeepsBounds run → tick ≤ ticks_bound run → IsSome (next_item (take_control address tick (give_control run))) →
    KeepsBounds (take_control address tick (give_control run))
taken-bounds run address tick is within some =
    let given : List Present = with_station run.holder (λ s. record s { serves = true }) run.stations in
    let now : List Present = with_station address (λ s. record s { serves = false }) given in
    let same : frame_ticks_before now ≡ frame_ticks_before run.stations =
    same-changed address (λ s. record s { serves = false }) (λ s. refl) given ∙ same-changed run.holder (λ s. record s { serves = true }) (λ s. refl) run.stations in
    let left : left_at (find (is_at address) now) ≡ left_at (find (is_at address) given) =
    left-kept address address (λ s. record s { serves = false }) (λ s. refl) (λ s. refl) given in
    let planned : planned_for (planned_at tick (left_at (find (is_at address) given))) (find (is_at address) now) ≤ tick =
    subst (λ l. planned_for (planned_at tick l) (find (is_at address) now) ≤ tick) left (planned-at tick (find (is_at address) now) some) in
    record {
      bursts = is.bursts;
      short = is.short;
      quiet = omega (arith, is.quiet, same);
      opens = omega (arith, within, same);
      needs = omega arith;
      planned = omega (arith, planned, within, same);
      old = some-later run.runs_on (ticks_bound run) (ticks_bound (take_control address tick (give_control run))) (omega (arith, same)) is.old;
    }

-- ---- the frames

-- the station that holds control, after its attempt
record AfterAttempt (address : ℕ) (choice : Choice) (begun : Begun) (outcome : Outcome) (s : Present) (stations : List Present) : Type 0 where
  t : Present
  kept : IsKept s t
  before : find (is_at address) stations ≡ Some t
  now : find (is_at address) (with_station address (after_attempt begun outcome choice) stations) ≡ Some (after_attempt begun outcome choice t)

same-address : (choice : Choice) (begun : Begun) (outcome : Outcome) (s : Present) → address_of_station (after_attempt begun outcome choice s) ≡ address_of_station s
same-address choice begun outcome s = refl

-- the ticks of the frames before grow, and the planned start of the holder's next frame stays within its bound
record Grows (address : ℕ) (origin : Origin) (bound frames : ℕ) (stations : List Present) : Type 0 where
  grows : frames ≤ frame_ticks_before stations
  planned : planned_for origin (find (is_at address) stations) ≤ bound + (frame_ticks_before stations - frames)

grows-by : (address : ℕ) (origin : Origin) (bound : ℕ) (choice : Choice) (begun : Begun) (outcome : Outcome) (stations : List Present) (t : Present) (entry : Entry)
    (later : List Entry) → Each IsRising stations → find (is_at address) stations ≡ Some t → t.left ≡ entry ∷ later →
    origin.tick + (entry.offset - origin.offset) ≤ bound →
    Grows address origin bound (frame_ticks_before stations) (with_station address (after_attempt begun outcome choice) stations)
grows-by address origin bound Done begun outcome stations t entry later rising found left planned =
    let now : List Present = with_station address (after_attempt begun outcome Done) stations in
    let grown : frame_ticks_before stations + ticks_before t.plan later ≤ frame_ticks_before now + entry.offset =
    found-grows address begun outcome stations t entry later rising found left in
    let all : frame_ticks_before stations ≤ frame_ticks_before now = all-grow address begun outcome stations rising in
    let there : find (is_at address) now ≡ Some (after_attempt begun outcome Done t) =
    find-changed address (after_attempt begun outcome Done) (same-address Done begun outcome) stations t found in
    let rest : begun-by (after_attempt begun outcome Done t) ≡ ticks_before t.plan later =
    ap (λ l. ticks_before t.plan (drop 1 l)) left ∙ ap (ticks_before t.plan) (drop-none later) in
    let low : ticks_before t.plan later + 0 ≤ ticks_before t.plan later = omega arith in
    record {
      grows = all;
      planned = subst (λ o. planned_for origin o ≤ bound + (frame_ticks_before now - frame_ticks_before stations)) (sym there)
          (omega (arith, grown, all, rest, planned));
    }
grows-by address origin bound (Again state) begun outcome stations t entry later rising found left planned =
    let now : List Present = with_station address (after_attempt begun outcome (Again state)) stations in
    let same : frame_ticks_before now ≡ frame_ticks_before stations = same-changed address (after_attempt begun outcome (Again state)) (λ s. refl) stations in
    let there : find (is_at address) now ≡ Some (after_attempt begun outcome (Again state) t) =
    find-changed address (after_attempt begun outcome (Again state)) (same-address (Again state) begun outcome) stations t found in
    let rest : begun-by t ≡ entry.offset = ap (ticks_before t.plan) left in
    record {
      grows = omega (arith, same);
      planned = subst (λ o. planned_for origin o ≤ bound + (frame_ticks_before now - frame_ticks_before stations)) (sym there) (omega (arith, same, rest, planned));
    }

-- ---- an attempt

prompt-station : (plan : PlanData) (holder : ℕ) (own : List StationData) (stations : List Present) → Each HasStationRanges own →
    AllZip (λ o s. IsStationOf plan (not (o.terminal.address == holder)) o s) own stations → Each IsPrompt stations
prompt-station plan holder own stations ranges all =
    zip-second (λ (o : StationData) (s : Present). HasStationRanges o × (s.plan ≡ o)) IsPrompt
    (λ o s h. subst (λ (p : StationData). p.terminal.delay ≤ 24) (sym h.1) h.0.terminal.delay.1) own stations
    (zip-with HasStationRanges (λ (o : StationData) (s : Present). IsStationOf plan (not (o.terminal.address == holder)) o s)
    (λ o s. HasStationRanges o × (s.plan ≡ o)) (λ o s r is. (r, is.plan_is)) own stations ranges all)

module _ (k : ℕ) (low : k < 24) (plan : PlanData) (accepted : IsAccepted plan) (loads : List TimedLoad) (run : Run) (is : IsRunOf plan run) (within : KeepsBounds run)
    (next : Next) (given : next_item run ≡ Some next) (choice : Choice) where
  abbrev begun : Begun
  begun = begun_of run next

  abbrev this : Message
  this = message_of k loads plan.faults run begun

  abbrev number : ℕ
  number = suc (length run.attempts)

  abbrev bound : ℕ
  bound = ticks_bound run

  here : IsNext plan run next
  here = next-of plan run next is given

  ranges : HasItemRanges next.entry.item
  ranges = here.entry.ranges

  prompt : Each IsPrompt run.stations
  prompt = prompt-station plan run.holder plan.stations run.stations (recursion_from_All HasStationRanges plan.stations accepted.ranges) is.stations

  planned-here : planned_start run.origin next.entry ≤ bound
  planned-here =
      let there : planned_for run.origin (Some next.station) ≤ bound = subst (λ o. planned_for run.origin o ≤ bound) here.found within.planned in
      let offset : begun-by next.station ≡ next.entry.offset = ap (ticks_before next.station.plan) here.left in
      omega (arith, there, offset)

  started : begun.start ≤ bound + 1996
  started =
      start-low run.opening run.retry run.origin next.entry run.quiet_from bound within.quiet within.opens within.needs ranges.gap.1 planned-here

  -- all of the attempt's own is over by this tick
  abbrev high : ℕ
  high = bound + 6836

  ordered : begun.start + 4840 ≤ high
  ordered = omega (arith, started)

  before-old : (o : Option ShownAnswer) → IfSome o (λ a. (burst_end a.burst ≤ bound) × IsShort a.burst) → IfSome o (λ a. EndsShort high a.burst)
  before-old None h = tt
  before-old (Some a) h = record { short = h.1; ends = omega (arith, h.0) }

  shown : Each (EndsShort high) this.bursts
  shown =
      bursts-short k low loads plan.faults number next.entry.item ranges run.runs_on begun.state.channel begun.start run.stations prompt high ordered
      (before-old run.runs_on within.old)

  abbrev left-stations : List Present
  left-stations = with_station run.holder (after_attempt begun this.ending.ended.outcome choice) this.stations

  kept : AllZip IsKept run.stations this.stations
  kept = message-kept k loads plan.faults number next.entry.item run.runs_on begun.state.channel begun.start run.stations

  rising-kept : (before later : List Present) → AllZip IsKept before later → Each IsRising before → Each IsRising later
  rising-kept [] [] zip all = tt
  rising-kept [] (t ∷ later) zip all = absurd zip
  rising-kept (s ∷ before) [] zip all = absurd zip
  rising-kept (s ∷ before) (t ∷ later) zip all = (
    subst (λ p. Rises p t.left) (sym zip.0.plan_is)
        (subst (Rises s.plan) (sym zip.0.left_is) all.0),
    rising-kept before later zip.1 all.1,
  )

  grown : Grows run.holder run.origin bound (frame_ticks_before run.stations) left-stations
  grown =
      let there = found-beside IsKept (λ s t h. ap (λ (p : StationData). p.terminal.address) h.plan_is) run.holder run.stations this.stations next.station kept here.found in
      subst (λ n. Grows run.holder run.origin bound n left-stations) (same-kept run.stations this.stations kept)
      (grows-by run.holder run.origin bound choice begun this.ending.ended.outcome this.stations there.0 next.entry here.later
      (rising-kept run.stations this.stations kept (all-rising plan run.holder plan.stations run.stations is.stations)) there.1 (there.2.left_is ∙ here.left) planned-here)

  -- the run with the attempt, before control passes
  abbrev rest : Run
  rest = with_message run begun choice (record this { ending = record this.ending { passes = None } })

  later-old : (o : Option ShownAnswer) → this.ending.runs_on ≡ o → IfSome o (λ a. (burst_end a.burst ≤ ticks_bound rest) × IsShort a.burst)
  later-old None same = tt
  later-old (Some old) same =
      let ends = old-short k low loads plan.faults number next.entry.item ranges run.runs_on begun.state.channel begun.start run.stations prompt old same in
      (omega (arith, ends.ends, ordered, grown.grows), ends.short)

  rest-bounds : KeepsBounds rest
  rest-bounds =
      let few = bursts-few k low loads plan.faults number next.entry.item ranges run.runs_on begun.state.channel begun.start run.stations prompt in
      let soon = ends-soon k low loads plan.faults number next.entry.item ranges run.runs_on begun.state.channel begun.start run.stations prompt in
      record {
        bursts = omega (arith, within.bursts, few, length-append (reverse this.bursts) run.bursts, length-reverse this.bursts);
        short = each-append IsShort (reverse this.bursts) run.bursts
            (each-reverse IsShort this.bursts (each-weaker (EndsShort high) IsShort (λ b h. h.short) this.bursts shown)) within.short;
        quiet = omega (arith, quiet-low high this.bursts shown, grown.grows);
        opens = omega (arith, after-tick this.ending.ended.outcome begun.state.channel this.ending.tick, soon, ordered, grown.grows);
        needs = after-need this.ending.ended.outcome begun.state.channel this.ending.tick;
        planned = omega (arith, grown.planned, grown.grows);
        old = later-old this.ending.runs_on refl;
      }

  by-passing : (passes : Option Passing) → this.ending.passes ≡ passes → IsRunOf plan (pass_control passes rest) → KeepsBounds (pass_control passes rest)
  by-passing None none of = rest-bounds
  by-passing (Some p) passes of =
      let same : map address_of_station run.stations ≡ addresses plan = stations-addresses plan run.holder plan.stations run.stations is.stations in
      let apart : Apart (map address_of_station run.stations) = subst Apart (sym same) (apart-from (addresses plan) accepted.apart) in
      let taken : Taken k loads plan.faults number next.entry.item run.runs_on begun.state.channel begun.start run.stations p =
      taken-by k loads plan.faults number next.entry.item run.runs_on begun.state.channel begun.start run.stations apart p passes in
      let first : EndsShort (begun.start + 3220) taken.answer.burst =
      first-short k low loads plan.faults number next.entry.item ranges run.runs_on begun.state.channel begun.start run.stations prompt taken.answer taken.first_is in
      let tick : p.tick ≤ ticks_bound rest = omega (arith, taken.tick, first.ends, ordered, grown.grows) in
      taken-bounds rest p.address p.tick rest-bounds tick (of.taken p.tick refl)

  -- an attempt at the next item keeps the bounds
  pub message-bounds : KeepsBounds (with_message run begun choice this)
  message-bounds =
      by-passing this.ending.passes refl (message-run k plan loads plan.stations run begun choice (apart-from (addresses plan) accepted.apart) is)

-- an attempt keeps the bounds
pub attempt-bounds : (k : ℕ) (plan : PlanData) (loads : List TimedLoad) (run : Run) → k < 24 → IsAccepted plan → IsRunOf plan run → KeepsBounds run →
    KeepsBounds (attempt k loads plan.faults run)
attempt-bounds k plan loads run low accepted is within = by-next (next_item run) refl
  where
    by-next : (next : Option Next) → next_item run ≡ next → KeepsBounds (next_attempt k loads plan.faults run next)
    by-next None given = within
    by-next (Some next) given =
        let begun : Begun = begun_of run next in
        message-bounds k low plan accepted loads run is within next given
        (next_of begun.entry.item begun.state (message_of k loads plan.faults run begun).ending.ended.outcome)
