-- What holds of the stations in each run of an accepted plan: what is left of their agendas, and who serves (the project's own).
use Rattle.std.specs.Prelude.{◌≡◌, ◌≢◌, ℕ, Bool, not, ◌==◌, List, [], ◌∷◌, map, drop, find, AllPairs, Contains, Some, None, IfSome, IsSome, IsSomeAnd}
use Rattle.std.specs.List.{AllByRecursion as Each, AllZip}
use Rattle.bus_base.specs.Samples.{other_of}
use Rattle.bus_base.specs.declared.samples.Channel.{Channel}
use Rattle.bus_formats.specs.Accepted.{HasItemRanges, IsSendable, Supersedes, HasSuperseding}
use Rattle.bus_formats.specs.Plans.{ItemData, StationData, PlanData}
use Rattle.bus_model.specs.Message.{Present}
use Rattle.bus_model.specs.Run.{Run, Next, is_at, next_item}
use Rattle.bus_model.specs.Starts.{Entry, agenda, Opening, usual, superseding, taking}
use Rattle.bus_model.specs.Strikes.{ShownAnswer}

-- the items of entries
abbrev pub items_of : List Entry → List ItemData
items_of entries = map (λ entry. entry.item) entries

-- the entry's item is within the ranges of the plan, and may be sent by the station with this address
pub record IsEntryOf (plan : PlanData) (own : ℕ) (entry : Entry) : Type 0 where
  pub ranges : HasItemRanges entry.item
  pub sendable : IsSendable plan own entry.item.kind

-- a station of a run is this one of the plan: what is left is a rest of its agenda, each entry of it may be sent, one that may be
-- abandoned is followed by one that supersedes it, and the station serves or not
pub record IsStationOf (plan : PlanData) (serving : Bool) (own : StationData) (station : Present) : Type 0 where
  pub plan_is : station.plan ≡ own
  pub rest : (done : ℕ) × (station.left ≡ drop done (agenda own))
  pub entries : Each (IsEntryOf plan own.terminal.address) station.left
  pub superseding : HasSuperseding (items_of station.left)
  pub serves : station.serves ≡ serving

-- all stations serve but the one with this address
abbrev pub AreStationsOf : PlanData → ℕ → List StationData → List Present → Type 0
AreStationsOf plan holder own stations = AllZip (λ o s. IsStationOf plan (not (o.terminal.address == holder)) o s) own stations

-- the run is one by these stations of the plan: its stations are they in their order, the holder of control is one of them and the only one that doesn't
-- serve, and whoever takes control has an item left
pub record IsRunAmong (plan : PlanData) (own : List StationData) (run : Run) : Type 0 where
  pub stations : AreStationsOf plan run.holder own run.stations
  pub holder : Contains (map (λ s. s.terminal.address) own) run.holder
  pub taken : (tick : ℕ) → run.opening ≡ taking tick → IsSome (next_item run)

-- it is one by all stations of the plan
abbrev pub IsRunOf : PlanData → Run → Type 0
IsRunOf plan run = IsRunAmong plan plan.stations run

-- no two of these stations have one address
abbrev pub AreNamedApart : List StationData → Type 0
AreNamedApart own = AllPairs (λ a b. a ≢ b) (map (λ s. s.terminal.address) own)

-- the next item of a run is the first that is left of the station that holds control, which may send it
pub record IsNext (plan : PlanData) (run : Run) (next : Next) : Type 0 where
  pub found : find (is_at run.holder) run.stations ≡ Some next.station
  pub later : List Entry
  pub left : next.station.left ≡ next.entry ∷ later
  pub own : StationData
  pub holder_is : own.terminal.address ≡ run.holder
  pub is : IsStationOf plan (not (own.terminal.address == run.holder)) own next.station
  pub entry : IsEntryOf plan own.terminal.address next.entry

-- the next message supersedes one that was abandoned, on this channel
abbrev pub SupersedesOn : Channel → Opening → Type 0
SupersedesOn channel (superseding tick other) = other ≡ channel
SupersedesOn channel _ = ⊥

-- an abandoned answer runs on, and the next message, which starts at once on the other channel, is one to the terminal that sends it
pub record IsSupersededNext (run : Run) (old : ShownAnswer) : Type 0 where
  pub opening : SupersedesOn (other_of old.sent.channel) run.opening
  pub retry : run.retry ≡ None
  pub next : IsSomeAnd (next_item run) (λ next. Supersedes old.sent.address next.entry.item.kind)

-- while an abandoned answer runs on, and only then, the next message supersedes it
pub record KeepsSuperseding (run : Run) : Type 0 where
  pub followed : IfSome run.runs_on (λ old. IsSupersededNext run old)
  pub awaited : (tick : ℕ) (channel : Channel) → run.opening ≡ superseding tick channel → IsSome run.runs_on

-- the station that holds control has nothing left, no answer runs on, and nobody takes control
pub record IsFinished (run : Run) : Type 0 where
  pub runs_on : run.runs_on ≡ None
  pub need : ℕ
  pub tick : ℕ
  pub opening_is : run.opening ≡ usual need tick
  pub station : Present
  pub found : find (is_at run.holder) run.stations ≡ Some station
  pub left : station.left ≡ []
