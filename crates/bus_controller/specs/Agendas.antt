-- What a controller keeps from attempt to attempt, and when and how it begins the next.
use Rattle.std.specs.Prelude.{ℕ, ◌+◌, ◌-◌, max, Bool, true, false, ◌&&◌, ◌==◌, nat_le, nat_lt, if◌then◌else◌, List, slice_get, Option, Some, None, option_map}
use Rattle.bus_base.specs.Samples.{other_of}
use Rattle.bus_base.specs.declared.samples.Channel.{Channel}
use Rattle.bus_formats.specs.Times.{dead_ticks}
use Rattle.bus_formats.specs.declared.form.Outcome.{Outcome}
use Rattle.bus_formats.specs.declared.form.Outcome.TheVariants.{Abandoned}
use Rattle.bus_retry.specs.Retries.{next_of, live_after}
use Rattle.bus_retry.specs.declared.RetryState.{RetryState}
use Rattle.bus_retry.specs.declared.Choice.{Choice}
use Rattle.bus_formats.specs.Times.{settling_quiet}
use Rattle.bus_model.specs.Starts.{Entry, Origin, needed_quiet, turn_of, left_after, retry_by}
use Rattle.bus_model.specs.Attempts.{Begun}
use Rattle.bus_controller.specs.Queue.{DueData, due_of}
use Rattle.bus_controller.specs.declared.opening.Opening.{Opening}
use Rattle.bus_controller.specs.declared.opening.Opening.TheVariants.{Usual, Superseding, Taking}

pub record AgendaData : Type 0 where
  pub left : List Entry
  pub live : Channel
  pub retry : Option RetryState
  pub origin : Origin

abbrev pub turn_due : Option RetryState → ℕ
turn_due None = 1
turn_due (Some state) = state.turn

-- ---- when the next attempt is due

abbrev pub quiet_needed : Option RetryState → DueData → ℕ → ℕ
quiet_needed None due need = max need (dead_ticks due.gap)
quiet_needed (Some state) due need = need

abbrev pub earliest : Option RetryState → Origin → DueData → ℕ
earliest None origin due = if due.opens then origin.tick + (due.offset - origin.offset) else 0
earliest (Some state) origin due = 0

-- so many ticks were quiet before this one
abbrev pub is_due_by : Opening → AgendaData → ℕ → ℕ → DueData → Bool
is_due_by (Usual need) agenda quiet now due =
    nat_le (quiet_needed agenda.retry due need) quiet && nat_le (earliest agenda.retry agenda.origin due) now
is_due_by (Superseding channel) agenda quiet now due = true
is_due_by (Taking first) agenda quiet now due = nat_le first.0 now

abbrev pub is_due_of : Opening → AgendaData → ℕ → ℕ → Option DueData → Bool
is_due_of opening agenda quiet now None = false
is_due_of opening agenda quiet now (Some due) = is_due_by opening agenda quiet now due

abbrev pub is_due : Opening → AgendaData → ℕ → ℕ → Bool
is_due opening agenda quiet now = is_due_of opening agenda quiet now (option_map due_of (slice_get agenda.left 0))

-- ---- the next attempt

abbrev pub state_by : Opening → AgendaData → Entry → RetryState
state_by (Superseding channel) agenda entry = record { channel = channel; turn = 1 }
state_by (Usual need) agenda entry = turn_of agenda.retry entry agenda.live
state_by (Taking first) agenda entry = turn_of agenda.retry entry agenda.live

abbrev pub begun_by : Opening → AgendaData → ℕ → Entry → Begun
begun_by opening agenda start entry = record { entry = entry; state = state_by opening agenda entry; start = start }

-- ---- after an attempt

abbrev pub agenda_by : Begun → Outcome → AgendaData → Choice → AgendaData
agenda_by begun outcome agenda choice = record {
  left = left_after choice agenda.left;
  live = live_after begun.entry.item begun.state outcome agenda.live;
  retry = retry_by choice;
  origin = agenda.origin;
}

abbrev pub agenda_after : AgendaData → Begun → Outcome → AgendaData
agenda_after agenda begun outcome = agenda_by begun outcome agenda (next_of begun.entry.item begun.state outcome)

abbrev pub opens_after : Outcome → Channel → Opening
opens_after Abandoned channel = Superseding (other_of channel)
opens_after outcome channel = Usual (needed_quiet outcome)

-- both channels must be quiet for longer first
abbrev pub is_unsettled : Opening → ℕ → Bool
is_unsettled (Usual need) quiet = (need == settling_quiet) && nat_lt quiet settling_quiet
is_unsettled (Superseding channel) quiet = false
is_unsettled (Taking first) quiet = false
