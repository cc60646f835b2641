-- Before the first tick the world has come as far as the beginning of a run.
use Rattle.std.proofs.Common.{◌≡◌, ℕ, zero, suc, ◌<◌, List, [], ◌∷◌, ◌++◌, length, get_or, map, Some, refl, sym, ap, ◌∙◌, subst, arith}
use Rattle.std.proofs.lemmas.Bool.{eq-eqb}
use Rattle.std.proofs.lemmas.List.{append-nil}
use Rattle.std.specs.Prelude.{filter, slice_get}
use Rattle.bus_formats.specs.Accepted.{IsAccepted}
use Rattle.bus_formats.specs.Plans.{StationData}
use Rattle.bus_model.specs.Control.{so_far}
use Rattle.bus_model.specs.Course.{course, quiet_from}
use Rattle.bus_model.specs.Run.{first_present, first_run}
use Rattle.bus_model.specs.World.{Trace, is_present}
use Rattle.bus_law_messages.specs.Settled.{NoneStarts}
use Rattle.bus_law_phases.specs.Rests.{Rested}
use Rattle.bus_law_phases.specs.Scenarios.{Scenario, IsPresentAt, trace_at, shown_at, course_of, Earlier, IsWhole, attempts_in, blocks_in}
use Rattle.bus_law_phases.proofs.SilencedStart.{begins-rested}
use Rattle.bus_law_run.specs.RunShows.{RunShows, RunRests}
use Rattle.bus_law_run.proofs.Shows.{no-bursts, no-commands}
use Rattle.bus_law_phases.proofs.Staying.{long-at}

-- the station with an address that stations have
station-at : (stations : List StationData) (address k : ℕ) → k < length (map (λ (s : StationData). s.terminal.address) stations) →
    get_or (map (λ (s : StationData). s.terminal.address) stations) k address ≡ address →
    (i : ℕ) × (s : StationData) × (slice_get stations i ≡ Some s) × (s.terminal.address ≡ address)
station-at [] address k few is = absurd (omega (arith, few))
station-at (s ∷ stations) address zero few is = (0, s, refl, is)
station-at (s ∷ stations) address (suc k) few is =
    let later = station-at stations address k (omega (arith, few)) is in (suc later.0, later.1, later.2, later.3)

-- every station is present
pub all-present : (stations : List StationData) → filter (is_present []) stations ≡ stations
all-present [] = refl
all-present (station ∷ stations) = ap (λ xs. station ∷ xs) (all-present stations)

-- ---- the course of any station

module _ (w : Scenario) (whole : IsWhole w) (station : StationData) where
  first-opening : (course_of w station (shown_at w 0)).opening ≡ (first_run w.plan).opening
  unfolding so_far course
  first-opening = ap (λ (tr : Trace). (course_of w station tr.shown).opening) whole.first

  pub first-retry : (course_of w station (shown_at w 0)).retry ≡ (first_run w.plan).retry
  unfolding so_far course
  first-retry = ap (λ (tr : Trace). (course_of w station tr.shown).retry) whole.first

  pub first-origin : (course_of w station (shown_at w 0)).origin ≡ (first_run w.plan).origin
  unfolding so_far course
  first-origin = ap (λ (tr : Trace). (course_of w station tr.shown).origin) whole.first

  -- its first message doesn't start before
  pub first-early : NoneStarts (course_of w station (shown_at w 0)) (shown_at w 0) 0
  first-early entry later left = let long = long-at w 0 whole.stays in omega (arith, long)

-- ---- the world at rest

module _ (w : Scenario) (whole : IsWhole w) (accepted : IsAccepted w.plan) (present : w.absent ≡ []) where
  found : (i : ℕ) × (s : StationData) × (slice_get w.plan.stations i ≡ Some s) × (s.terminal.address ≡ w.plan.start)
  found = station-at w.plan.stations w.plan.start accepted.start.0 accepted.start.1 accepted.start.2

  abbrev place : ℕ
  place = found.0

  abbrev holder : StationData
  holder = found.1

  at : IsPresentAt w place holder
  at = record { there = found.2; present = ap (λ (absent : List ℕ). is_present absent holder) present }

  first-quiet : quiet_from (shown_at w 0) ≡ 0
  first-quiet = ap (λ (tr : Trace). quiet_from tr.shown) whole.first

  first-rested : Rested w (trace_at w 0) place holder (first_run w.plan).stations
  first-rested =
      subst (λ xs. Rested w (trace_at w 0) place holder (map (first_present w.plan) xs))
      (ap (λ (absent : List ℕ). filter (is_present absent) w.plan.stations) present ∙ all-present w.plan.stations)
      (begins-rested w place holder accepted at (eq-eqb holder.terminal.address w.plan.start found.3) whole.first)

  first-shows : RunShows w 0 (first_run w.plan) []
  first-shows = record {
    ended = [];
    ended_since = sym (append-nil _) ∙ ap (λ (e : Earlier). attempts_in w (shown_at w e.ticks) ++ []) (sym whole.earlier);
    attempts_are = ap (λ (e : Earlier). (e.attempts ++ []) ++ []) whole.earlier;
    bursts_are = no-bursts w whole;
    taken = [];
    taken_since = sym (append-nil _) ∙ ap (λ (e : Earlier). blocks_in w (shown_at w e.ticks) ++ []) (sym whole.earlier);
    blocks_are = ap (λ (e : Earlier). e.blocks ++ []) whole.earlier;
    counted = no-commands w whole;
    orderly = λ i from early. absurd (omega (arith, early));
  }

  pub first-rests : RunRests w 0 (first_run w.plan)
  first-rests = record {
    place = place;
    holder = holder;
    holder_is = found.3;
    rested = first-rested;
    opening = first-opening w whole holder;
    quiet = first-quiet;
    soon = omega arith;
    shows = first-shows;
  }
