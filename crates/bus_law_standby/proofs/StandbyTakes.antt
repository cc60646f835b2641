-- From a moment between two messages: the station in control leaves, and another one takes control after a silence.
use Rattle.std.proofs.Common.{◌≡◌, ℕ, suc, ◌+◌, ◌≤◌, List, [], ◌∷◌, length, Some, None, sym, ap, ◌∙◌, subst, arith}
use Rattle.bus_formats.specs.Accepted.{IsAccepted}
use Rattle.bus_formats.specs.Plans.{StationData}
use Rattle.bus_model.specs.Control.{OutsideTake}
use Rattle.bus_model.specs.Course.{quiet_from}
use Rattle.bus_model.specs.Run.{Run, Next, next_item, take_control}
use Rattle.bus_model.specs.World.{Trace}
use Rattle.bus_law_messages.proofs.Pausing.{from-quiet}
use Rattle.bus_law_phases.specs.Scenarios.{Scenario, trace_at, shown_at, NoneTakesFrom, StaysFrom}
use Rattle.bus_law_phases.proofs.Staying.{stays-later}
use Rattle.bus_law_run.specs.RunShows.{RunShows}
use Rattle.bus_law_whole.specs.Changes.{changed}
use Rattle.bus_law_whole.specs.Leaving.{RestsUncontrolled, LastsUncontrolled, without_station}
use Rattle.bus_law_whole.specs.RunStands.{RunStands, IsBetween}
use Rattle.bus_law_whole.proofs.Changing.{changed-before, changed-stays, changed-shows}
use Rattle.bus_law_whole.proofs.Leaving.{left-rests}
use Rattle.bus_law_whole.proofs.Uncontrolled.{lasts-uncontrolled}
use Rattle.bus_law_standby.specs.Taking.{TakesAlone, TakenAlike, StandsUncontrolled, run_without}
use Rattle.bus_law_standby.proofs.Silence.{found-stays, next-alike, long-alike, rests-alike}
use Rattle.bus_law_standby.proofs.Standing.{stands-so}

module _ (w : Scenario) (t n : ℕ) (outside : List OutsideTake) (run : Run) (stays : StaysFrom w t) (moment : RestsUncontrolled w (trace_at w t) run.stations)
    (shows : RunShows w t run []) (runs_on : run.runs_on ≡ None) (quiet : quiet_from (shown_at w t) ≡ run.quiet_from)
    (alike : TakenAlike w outside (t + n)) where
  abbrev later : Scenario
  later = changed w (suc (t + n)) w.absent outside

  lasts : LastsUncontrolled w t n run.stations
  lasts = lasts-uncontrolled w t n run.stations stays moment

  stays-then : StaysFrom w (t + n)
  stays-then = stays-later w t (t + n) (omega arith) stays

  alike-then : TakenAlike w outside (length (shown_at w (t + n)))
  alike-then = subst (TakenAlike w outside) (sym (stays-then.counts (t + n) (omega arith))) alike

  shows-then : RunShows (changed w (suc (t + n)) w.absent outside) (suc (t + n)) run []
  shows-then =
      let same : t + suc n ≡ suc (t + n) = omega arith in
      subst (λ a. RunShows (changed w a w.absent outside) a run []) same
      (found-stays w t (suc n) run run.stations shows (lasts-uncontrolled w t (suc n) run.stations stays moment) w.absent outside)

  quiet-then : quiet_from (shown_at (changed w (suc (t + n)) w.absent outside) (t + n)) ≡ run.quiet_from
  quiet-then =
      ap (λ (tr : Trace). quiet_from tr.shown) (changed-before w (suc (t + n)) w.absent outside (t + n) (omega arith))
      ∙ ap quiet_from lasts.quiet ∙ from-quiet n (shown_at w t) ∙ quiet

  stands-then : StandsUncontrolled (changed w (suc (t + n)) w.absent outside) (t + n) run
  stands-then = record {
    moment = rests-alike w (t + n) outside stays-then alike-then run.stations lasts.rests;
    quiet = quiet-then;
    runs_on = runs_on;
    shows = shows-then;
  }

  pub taken-over : (place : ℕ) (station : StationData) (first : ℕ) (item : Next) → IsAccepted w.plan →
      TakesAlone (changed w (suc (t + n)) w.absent outside) (t + n) place station first → suc (t + n) ≤ first →
      next_item (take_control station.terminal.address first run) ≡ Some item →
      RunStands (changed w (suc (t + n)) w.absent outside) (suc (t + n)) (take_control station.terminal.address first run)
  taken-over place station first item accepted taking late left =
      stands-so later (t + n) place station first run item accepted (long-alike w (t + n) outside stays-then alike-then)
      (next-alike w (t + n) outside stays-then alike-then) stands-then taking late left

-- ---- the station in control leaves before

shows-without : (w : Scenario) (t address : ℕ) (run : Run) → RunShows w t run [] → RunShows w t (run_without address run) []
shows-without w t address run shows = record {
  ended = shows.ended;
  ended_since = shows.ended_since;
  attempts_are = shows.attempts_are;
  bursts_are = shows.bursts_are;
  taken = shows.taken;
  taken_since = shows.taken_since;
  blocks_are = shows.blocks_are;
  counted = shows.counted;
  orderly = shows.orderly;
}

pub standby-takes : (w : Scenario) (t n place : ℕ) (holder : StationData) (run : Run) (outside : List OutsideTake) (taker : ℕ) (station : StationData)
    (first : ℕ) (item : Next) → IsAccepted w.plan → length (shown_at w t) ≡ t → IsBetween w t place holder run [] → RunShows w t run [] →
    NoneTakesFrom (without_station w t holder) t → TakenAlike (without_station w t holder) outside (t + n) →
    TakesAlone (changed (without_station w t holder) (suc (t + n)) (without_station w t holder).absent outside) (t + n) taker station first → suc (t + n) ≤ first →
    next_item (take_control station.terminal.address first (run_without holder.terminal.address run)) ≡ Some item →
    RunStands (changed (without_station w t holder) (suc (t + n)) (without_station w t holder).absent outside) (suc (t + n))
    (take_control station.terminal.address first (run_without holder.terminal.address run))
standby-takes w t n place holder run outside taker station first item accepted long between shows none alike taking late left =
    let a : List ℕ = holder.terminal.address ∷ w.absent in
    let same = changed-before w t a w.outside t (omega arith) in
    taken-over (without_station w t holder) t n outside (run_without holder.terminal.address run)
    (changed-stays w t a w.outside long none)
    (left-rests w t place holder run.stations between.rested)
    (shows-without (without_station w t holder) t holder.terminal.address run (changed-shows w t a w.outside run shows))
    between.runs_on
    (ap (λ (tr : Trace). quiet_from tr.shown) same ∙ between.since.quiet)
    alike taker station first item accepted taking late left
