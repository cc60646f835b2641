use Rattle.std.proofs.Common.{◌≡◌, true, false, refl, sym, ◌∙◌}
use Rattle.bus_line.specs.declared.cutter.TheConstants.{LAG}
use Rattle.bus_station.specs.StationStands.{StationKeeps}
use Rattle.bus_station.proofs.Serving.{before}
use Rattle.bus_station.proofs.Shown.{serves, controls}
use Rattle.bus_station.proofs.station.Station.drive.Goals as goal

pub returns-then-is_yielded : goal.returns-then-is_yielded
unfolding StationKeeps
returns-then-is_yielded c = λ plan starts loads outside past st.
    let off : (before LAG plan starts loads outside past).holds ≡ false = serves _ _
    (c.is_yielded.ensures.holds plan starts _ past st.controller) c.if-is_yielded.true in
    c.drive.ensures plan.terminal loads _ st.terminal ∙ sym (rw off refl)

pub returns-else-is_yielded : goal.returns-else-is_yielded
unfolding StationKeeps
returns-else-is_yielded c = λ plan starts loads outside past st.
    let on : (before LAG plan starts loads outside past).holds ≡ true = controls _ _
    (c.is_yielded.ensures.holds plan starts _ past st.controller) c.if-is_yielded.false in
    c.drive-else-is_yielded.ensures plan starts _ past st.controller ∙ sym (rw on refl)
