-- What a terminal that stands after a tick, by its state, is to its station.
use Rattle.std.proofs.Common.{◌≡◌, ℕ, List, ◌∷◌, length, subst}
use Rattle.bus_formats.specs.Plans.{TerminalData}
use Rattle.bus_model.specs.Memory.{TimedLoad}
use Rattle.bus_model.specs.Hearing.{Moment, Hearing}
use Rattle.bus_model.specs.Standing.{Standing}
use Rattle.bus_model.specs.Terminal.{standing, order_now, taken_by, accepted_on}
use Rattle.bus_terminal.proofs.Quiet.{standing-tick}
use Rattle.bus_terminal.specs.Stands.{NextStands, TakenIs, channel_of}
use Rattle.bus_terminal.specs.TerminalStands.{TerminalKeeps}
use Rattle.bus_terminal.specs.declared.state.TerminalEvent.{TerminalEvent}
use Rattle.bus_terminal.specs.declared.terminal.Terminal.{Terminal}
use Rattle.bus_station.specs.Hears.{HeardBy}

-- it heard the tick, and told this of it
pub heard-whole : (k : ℕ) (t : TerminalData) (loads : List TimedLoad) (terminal : Terminal) (event : TerminalEvent) (tick : ℕ) (hearing : Hearing)
    (now : Moment) → length hearing.ticks ≡ tick →
    NextStands k t loads (record { state = terminal.state; event = event }) hearing.ticks now (standing k t loads hearing.memory hearing.ticks)
    (accepted_on k t loads now hearing.ticks (standing k t loads hearing.memory hearing.ticks)) →
    HeardBy k t loads terminal event tick hearing now
unfolding TerminalKeeps
heard-whole k t loads terminal event tick hearing now is next =
    let s : Standing = standing k t loads hearing.memory hearing.ticks in
    record {
      stands = rw (standing-tick k t loads hearing.memory now hearing.ticks) next.state;
      took = subst (λ (n : ℕ). TakenIs event n (channel_of s (order_now k t (now ∷ hearing.ticks) s))
          (taken_by k t loads (length hearing.ticks) now.has_items s (order_now k t (now ∷ hearing.ticks) s))) is next.taken;
      accepted = next.accepted;
    }
