-- Stations before the first tick.
use Rattle.std.proofs.Common.{◌≡◌, List, [], sym, subst}
use Rattle.bus_line.specs.declared.cutter.TheConstants.{LAG}
use Rattle.bus_formats.specs.Plans.{StationData}
use Rattle.bus_model.specs.Memory.{TimedLoad}
use Rattle.bus_model.specs.Starts.{starts}
use Rattle.bus_model.specs.Control.{OutsideTake}
use Rattle.bus_receiver.specs.Moments.{ReceiverStands}
use Rattle.bus_receiver.specs.declared.receiver.Receiver.{Receiver}
use Rattle.bus_station.specs.Listening.{InStep}
use Rattle.bus_station.specs.StationStands.{StationStands, StationKeeps}
use Rattle.bus_station.specs.declared.station.Station.{Station}
use Rattle.bus_station.proofs.Own.{begins-step, stands-keeps}
use Rattle.bus_run.specs.Settings.{Setting}

-- a station that has heard nothing keeps what nothing leaves
pub begins-keeps : (w : Setting) (s : StationData) (value : Station) → w.loads ≡ [] → w.outside ≡ [] →
    StationStands LAG s (starts w.plan s) [] [] value [] → StationKeeps LAG s (starts w.plan s) w.loads w.outside value []
begins-keeps w s value loads outside st =
    subst (λ (ls : List TimedLoad). StationKeeps LAG s (starts w.plan s) ls w.outside value []) (sym loads)
    (subst (λ (os : List OutsideTake). StationKeeps LAG s (starts w.plan s) [] os value []) (sym outside)
    (stands-keeps LAG s (starts w.plan s) [] [] value [] st))

-- and is in step with a receiver that has heard nothing
pub begins-in-step : (w : Setting) (s : StationData) (receiver : Receiver) (value : Station) → w.loads ≡ [] → w.outside ≡ [] →
    ReceiverStands LAG receiver [] → StationStands LAG s (starts w.plan s) [] [] value [] →
    InStep LAG s (starts w.plan s) w.loads w.outside value receiver.cutters []
begins-in-step w s receiver value loads outside hears st =
    subst (λ (ls : List TimedLoad). InStep LAG s (starts w.plan s) ls w.outside value receiver.cutters []) (sym loads)
    (subst (λ (os : List OutsideTake). InStep LAG s (starts w.plan s) [] os value receiver.cutters []) (sym outside)
    (begins-step LAG s (starts w.plan s) receiver value hears st))
