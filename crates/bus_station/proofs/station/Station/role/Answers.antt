use Rattle.std.proofs.Common.{◌≡◌, true, false, length, refl, sym, ◌∙◌}
use Rattle.bus_line.specs.declared.cutter.TheConstants.{LAG}
use Rattle.bus_station.specs.StationStands.{StationKeeps, taking_of}
use Rattle.bus_station.proofs.Serving.{before}
use Rattle.bus_station.proofs.Shown.{serves, controls, taking-role, controlling-role}
use Rattle.bus_station.proofs.station.Station.role.Goals as goal

pub returns-then-is_yielded : goal.returns-then-is_yielded
unfolding StationKeeps
returns-then-is_yielded c = λ plan starts loads outside past st.
    let off : (before LAG plan starts loads outside past).holds ≡ false = serves _ _
    (c.is_yielded.ensures.holds plan starts _ past st.controller) c.if-is_yielded.true in
    rw off refl

pub returns-in-Some : goal.returns-in-Some
unfolding StationKeeps
returns-in-Some c = λ plan starts loads outside past st.
    let on : (before LAG plan starts loads outside past).holds ≡ true = controls _ _
    (c.is_yielded.ensures.holds plan starts _ past st.controller) c.if-is_yielded.false in
    taking-role c.in-Some.first (taking_of (length past) (before LAG plan starts loads outside past)) _ (sym c.in-Some.is ∙ st.taking) on

pub returns-in-None : goal.returns-in-None
unfolding StationKeeps
returns-in-None c = λ plan starts loads outside past st.
    let on : (before LAG plan starts loads outside past).holds ≡ true = controls _ _
    (c.is_yielded.ensures.holds plan starts _ past st.controller) c.if-is_yielded.false in
    controlling-role (taking_of (length past) (before LAG plan starts loads outside past)) _ (sym c.in-None.is ∙ st.taking) on
