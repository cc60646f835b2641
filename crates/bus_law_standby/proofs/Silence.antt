-- The silence after the station in control left, and the take that ends it.
use Rattle.std.proofs.Common.{◌≡◌, ℕ, suc, ◌+◌, ◌<◌, ◌≤◌, Bool, List, [], ◌∷◌, ◌++◌, length, map, refl, sym, ap, ◌∙◌, subst, arith}
use Rattle.std.proofs.lemmas.List.{append-nil}
use Rattle.std.specs.Prelude.{drop, if◌then◌else◌}
use Rattle.bus_base.specs.declared.samples.Drive.{Drive}
use Rattle.bus_base.specs.declared.samples.Drive.TheVariants.{Silent}
use Rattle.bus_line.specs.Channels.{bursts}
use Rattle.bus_formats.specs.Plans.{StationData}
use Rattle.bus_model.specs.Control.{OutsideTake, StationSoFar, course_with, so_far}
use Rattle.bus_model.specs.Course.{drive_course}
use Rattle.bus_model.specs.Message.{Present}
use Rattle.bus_model.specs.Run.{Run}
use Rattle.bus_model.specs.Starts.{starts}
use Rattle.bus_model.specs.Terminal.{drives}
use Rattle.bus_model.specs.World.{Trace, is_present, drives_after, drive_after, next_tick, shown_next}
use Rattle.bus_law_phases.specs.Scenarios.{Scenario, trace_at, shown_at, driven_at, attempts_in, blocks_in, commands_in, StaysFrom}
use Rattle.bus_law_run.specs.RunShows.{RunShows}
use Rattle.bus_law_whole.specs.Changes.{changed, found_by}
use Rattle.bus_law_whole.specs.Leaving.{RestsUncontrolled, LastsUncontrolled}
use Rattle.bus_law_whole.proofs.Changing.{changed-before}
use Rattle.bus_law_standby.specs.Taking.{TakenAlike, taken_so}
use Rattle.bus_law_standby.proofs.LaterTake.{map-alike, same-so-far, alike-rests}

-- ---- what was found stays found

dropped : {X : Type 0} (firsts more : List X) → drop (length firsts) (firsts ++ more) ≡ more
dropped [] [] = refl
dropped [] (x ∷ more) = refl
dropped (x ∷ firsts) more = dropped firsts more

module _ (w : Scenario) (t n : ℕ) (run : Run) (stations : List Present) (shows : RunShows w t run []) (lasts : LastsUncontrolled w t n stations)
    (absent : List ℕ) (outside : List OutsideTake) where
  same : trace_at (changed w (t + n) absent outside) (t + n) ≡ trace_at w (t + n)
  same = changed-before w (t + n) absent outside (t + n) (omega arith)

  ended-so : (found_by w (t + n)).attempts ≡ w.earlier.attempts ++ shows.ended
  ended-so =
      ap (λ xs. w.earlier.attempts ++ drop (length (attempts_in w (shown_at w w.earlier.ticks))) xs) (lasts.attempts ∙ shows.ended_since)
      ∙ ap (λ xs. w.earlier.attempts ++ xs) (dropped (attempts_in w (shown_at w w.earlier.ticks)) shows.ended)

  taken-so : (found_by w (t + n)).blocks ≡ w.earlier.blocks ++ shows.taken
  taken-so =
      ap (λ xs. w.earlier.blocks ++ drop (length (blocks_in w (shown_at w w.earlier.ticks))) xs) (lasts.blocks ∙ shows.taken_since)
      ∙ ap (λ xs. w.earlier.blocks ++ xs) (dropped (blocks_in w (shown_at w w.earlier.ticks)) shows.taken)

  pub found-stays : RunShows (changed w (t + n) absent outside) (t + n) run []
  found-stays = record {
    ended = [];
    ended_since = sym (append-nil (attempts_in (changed w (t + n) absent outside) (shown_at (changed w (t + n) absent outside) (t + n))));
    attempts_are = append-nil ((found_by w (t + n)).attempts ++ []) ∙ append-nil (found_by w (t + n)).attempts ∙ ended-so
        ∙ sym (append-nil (w.earlier.attempts ++ shows.ended)) ∙ shows.attempts_are;
    bursts_are = ap (λ (tr : Trace). bursts w.lag tr.shown) same ∙ lasts.bursts_are ∙ shows.bursts_are;
    taken = [];
    taken_since = sym (append-nil (blocks_in (changed w (t + n) absent outside) (shown_at (changed w (t + n) absent outside) (t + n))));
    blocks_are = append-nil (found_by w (t + n)).blocks ∙ taken-so ∙ shows.blocks_are;
    counted = ap (λ (tr : Trace). commands_in w tr.driven) same ∙ lasts.counted ∙ shows.counted;
    orderly = λ i from early. absurd (omega (arith, from, early));
  }

-- ---- the bus on which the take is made

module _ (w : Scenario) (u : ℕ) (outside : List OutsideTake) (stays : StaysFrom w u) (alike : TakenAlike w outside (length (shown_at w u))) where
  abbrev later : Scenario
  later = changed w (suc u) w.absent outside

  drive-alike : (station : StationData) →
      drive_after w.lag w.plan w.loads w.outside w.absent (shown_at w u) station ≡ drive_after w.lag w.plan w.loads outside w.absent (shown_at w u) station
  drive-alike station =
      ap (λ (so : StationSoFar). let c = course_with w.lag station (starts w.plan station) w.loads w.outside so.takes (shown_at w u) in
      if is_present w.absent station
      then (if c.holds then drive_course w.lag (shown_at w u) c else drives w.lag station.terminal w.loads so.hearing) else Silent)
      (same-so-far w outside (shown_at w u) alike station)

  drives-alike : drives_after w.lag w.plan w.loads w.outside w.absent (shown_at w u) ≡ drives_after w.lag w.plan w.loads outside w.absent (shown_at w u)
  drives-alike =
      map-alike (drive_after w.lag w.plan w.loads w.outside w.absent (shown_at w u)) (drive_after w.lag w.plan w.loads outside w.absent (shown_at w u))
      w.plan.stations drive-alike

  same-then : trace_at (changed w (suc u) w.absent outside) u ≡ trace_at w u
  same-then = changed-before w (suc u) w.absent outside u (omega arith)

  -- the tick of the take follows
  pub next-alike : trace_at (changed w (suc u) w.absent outside) (suc u)
      ≡ next_tick w.lag w.plan w.loads outside w.absent (trace_at (changed w (suc u) w.absent outside) u)
  next-alike =
      changed-before w (suc u) w.absent outside (suc u) (omega arith)
      ∙ stays.next u (omega arith)
      ∙ ap (λ (ds : List Drive). shown_next w.lag w.plan w.loads w.outside w.absent (trace_at w u) (ds ∷ driven_at w u)) drives-alike
      ∙ ap (next_tick w.lag w.plan w.loads outside w.absent) (sym same-then)

  pub long-alike : length (shown_at (changed w (suc u) w.absent outside) u) ≡ u
  long-alike = ap (λ (tr : Trace). length tr.shown) same-then ∙ stays.counts u (omega arith)

  pub rests-alike : (stations : List Present) → RestsUncontrolled w (trace_at w u) stations →
      RestsUncontrolled (changed w (suc u) w.absent outside) (trace_at (changed w (suc u) w.absent outside) u) stations
  rests-alike stations moment =
      let so : RestsUncontrolled (taken_so w outside) (trace_at w u) stations = alike-rests w outside (trace_at w u) stations alike moment in
      subst (λ tr. RestsUncontrolled (changed w (suc u) w.absent outside) tr stations) (sym same-then)
      record {
        rests = so.rests;
        fresh = so.fresh;
        spent = so.spent;
        serves = λ place station at. so.serves place station record { there = at.there; present = at.present };
        are = so.are;
      }
