-- The station in control is found among those of the message table in each sort of moment.
use Rattle.std.proofs.Common.{◌≡◌, inl, inr, ℕ, Bool, true, false, List, Some, refl, sym, ap}
use Rattle.std.proofs.lemmas.Bool.{ne_eqb}
use Rattle.std.specs.Prelude.{◌==◌, find, if◌then◌else◌}
use Rattle.bus_base.specs.declared.samples.Pair.{Pair}
use Rattle.bus_formats.specs.Accepted.{IsAccepted}
use Rattle.bus_formats.specs.Plans.{StationData}
use Rattle.bus_formats.specs.declared.log.Attempt.{Attempt}
use Rattle.bus_model.specs.Attempts.{Begun}
use Rattle.bus_model.specs.Message.{Present}
use Rattle.bus_model.specs.Run.{Run, is_at}
use Rattle.bus_law_phases.specs.Scenarios.{Scenario, IsPresentAt, trace_at, shown_at, present_of}
use Rattle.bus_law_phases.proofs.SilencedStart.{named-apart}
use Rattle.bus_law_moments.specs.Doubts.{present_in_doubt, yielded_station}
use Rattle.bus_law_run.proofs.OwnStation.{IsOwn, own-among, own-station}
use Rattle.bus_law_whole.specs.RunStands.{IsBetween, IsBetweenInDoubt, IsBeside, IsMoment}

-- a station in doubt is told with its own plan
doubted-plan : (w : Scenario) (past : List Pair) (address : ℕ) (begun : Begun) (station : StationData) →
    (present_in_doubt w past address begun station).plan ≡ station
doubted-plan w past address begun station = by (station.terminal.address == address)
  where
    by : (b : Bool) → (if b then yielded_station begun (present_of w station past) else present_of w station past).plan ≡ station
    by true = refl
    by false = refl

module _ (w : Scenario) (accepted : IsAccepted w.plan) (t place : ℕ) (holder : StationData) (run : Run) (pending : List Attempt)
    (named : holder.terminal.address ≡ run.holder) where
  -- the station of the run that holds control is the one of the world
  abbrev pub IsFound : Type 0
  IsFound = (y : Present) × (find (is_at run.holder) run.stations ≡ Some y) × IsOwn w (shown_at w t) holder y

  found-between : IsBetween w t place holder run pending → IsFound
  found-between moment =
      own-station w (trace_at w t) place holder run.stations moment.rested (named-apart w.plan accepted place holder moment.rested.at.there) run.holder named

  found-in-doubt : IsBetweenInDoubt w t place holder run pending → IsFound
  found-in-doubt moment =
      let at : IsPresentAt w place holder = moment.rested.at in
      let address : ℕ = moment.rested.offerer.terminal.address in
      let apart : (holder.terminal.address == address) ≡ false =
      ne_eqb holder.terminal.address address (λ e. named-apart w.plan accepted place holder at.there moment.rested.before moment.rested.offerer
      moment.rested.offerer_at.there moment.rested.apart (sym e)) in
      own-among w (shown_at w t) place holder run.stations at (present_in_doubt w (shown_at w t) address moment.begun)
      (ap (λ (b : Bool). if b then yielded_station moment.begun (present_of w holder (shown_at w t)) else present_of w holder (shown_at w t)) apart)
      (doubted-plan w (shown_at w t) address moment.begun) moment.rested.are (named-apart w.plan accepted place holder at.there) run.holder named

  found-beside : IsBeside w t place holder run pending → IsFound
  found-beside moment =
      own-among w (shown_at w t) place holder run.stations moment.beside.at (λ st. present_of w st (shown_at w t)) refl (λ st. refl) moment.beside.are
      (named-apart w.plan accepted place holder moment.beside.at.there) run.holder named

  pub found-in : IsMoment w t place holder run pending → IsFound
  found-in moment = elim moment [
    | inl between ↦ found-between between
    | inr other ↦ elim other [ inl doubt ↦ found-in-doubt doubt | inr beside ↦ found-beside beside ]
  ]
