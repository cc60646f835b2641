use Rattle.std.proofs.Common.{List, ◌∷◌, refl, sym, subst}
use Rattle.bus_base.specs.declared.samples.Channel.TheVariants.{A, B}
use Rattle.bus_line.specs.declared.cutter.TheConstants.{LAG}
use Rattle.bus_model.specs.Hearing.{Moment, heard_on}
use Rattle.bus_receiver.specs.Cuts.{CuttersStand}
use Rattle.bus_receiver.specs.declared.cutters.Cutters.{Cutters}
use Rattle.bus_terminal.specs.TerminalStands.{TerminalHears}
use Rattle.bus_station.specs.StationStands.{StationStands, StationKeeps}
use Rattle.bus_station.proofs.Serving.{sofar}
use Rattle.bus_station.proofs.Loaded.{loaded-stands, loaded-hears, loaded-step}
use Rattle.bus_station.proofs.station.Station.load.Goals as goal

pub returns-clause-stands : goal.returns-clause-stands
unfolding StationStands StationKeeps
returns-clause-stands c = λ plan starts loads outside shown past st. (
  loaded-stands LAG plan starts loads outside c.args.self.now _ shown past c.args.sub c.args.words.now st.0 refl refl refl
      (λ memory now heard stands. c.load.ensures.timed plan.terminal loads memory now heard stands),
  record {
    receiver = st.1.receiver;
    cutters = subst (λ (ticks : List Moment). TerminalHears LAG c.load.new.self ticks)
        (sym (loaded-hears LAG plan starts loads outside shown past c.args.sub c.args.words.now))
        (subst (λ (cutters : Cutters). CuttersStand LAG cutters (heard_on A (sofar LAG plan starts loads outside (shown ∷ past)).hearing.ticks)
        (heard_on B (sofar LAG plan starts loads outside (shown ∷ past)).hearing.ticks)) (sym c.load.ensures.cutters) st.1.cutters);
  },
)

pub returns-clause-keeps : goal.returns-clause-keeps
unfolding StationKeeps
returns-clause-keeps c = λ plan starts loads outside shown past st.
    loaded-stands LAG plan starts loads outside c.args.self.now _ shown past c.args.sub c.args.words.now st refl refl refl
    (λ memory now heard stands. c.load.ensures.timed plan.terminal loads memory now heard stands)

pub returns-clause-in_step : goal.returns-clause-in_step
returns-clause-in_step c = λ plan starts loads outside bus shown past st.
    loaded-step LAG plan starts loads outside c.args.self.now _ bus shown past c.args.sub c.args.words.now refl c.load.ensures.cutters st
