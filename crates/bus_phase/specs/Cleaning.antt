-- The cleaned level of a channel: its level without spikes, and without the time in which a signal that crosses zero is below a threshold.
--
-- A run is a longest stretch of time with one level. A run of a sign of less than 150 ns and a quiet run of less than 250 ns are unsure, all others sure.
-- Between two sure runs the level changes half way, where less than a tick lies between them; else it is quiet between them. Where both have one level
-- and less than a tick lies between them, it has that level. Before the first sure run it is quiet, and after the last its level holds.
use Rattle.std.specs.Prelude.{ℕ, ◌+◌, ◌-◌, ◌/◌, nat_lt, nat_le, Bool, true, false, not, ◌&&◌, if◌then◌else◌, Option, Some, None}
use Rattle.bus_base.specs.declared.samples.Sample.{Sample}
use Rattle.bus_base.specs.declared.samples.Sample.TheVariants.{Plus, Minus, Quiet}
use Rattle.bus_base.specs.Samples.{is_quiet}
use Rattle.bus_phase.specs.Times.{tick_time}
use Rattle.bus_phase.specs.declared.cleaner.Cleaner.{Cleaner}
use Rattle.bus_phase.specs.declared.cleaner.Change.{Change}

abbrev pub same_sample : Sample → Sample → Bool
same_sample Plus Plus = true
same_sample Minus Minus = true
same_sample Quiet Quiet = true
same_sample _ _ = false

-- the least length of a sure run
abbrev pub least_time : Sample → ℕ
least_time Quiet = 250000
least_time _ = 150000

-- whether less than a tick lies between the last sure run and the run that goes on
abbrev pub is_near : Cleaner → Bool
is_near c = nat_lt (c.since - c.until) tick_time

-- the last sure run's level ends for good with the run: a tick or more has gone by since
abbrev pub is_lost : Cleaner → Bool
is_lost c = not c.is_sure && (not (is_quiet c.sure) && not (is_near c))

-- the change to quiet that is known then: at the end of the last sure run
abbrev pub lost_change : Cleaner → Option Change
lost_change c = if is_lost c then Some record { at = c.until; level = Quiet } else None

abbrev pub after_lost : Cleaner → Cleaner
after_lost c = if is_lost c then record c { sure = Quiet } else c

-- whether the run that goes on is found to be sure at this time
abbrev pub is_found : ℕ → Cleaner → Bool
is_found now c = not c.is_sure && nat_le (least_time c.level) (now - c.since)

-- the moment of the change to the run that goes on
abbrev pub change_time : Cleaner → ℕ
change_time c = if is_near c then c.until + (c.since - c.until) / 2 else c.since

-- the change to the level of the run that is found to be sure, where it is another one
abbrev pub found_change : ℕ → Cleaner → Option Change
found_change now c =
    if is_found now c && not (same_sample c.level c.sure) then Some record { at = change_time c; level = c.level } else None

abbrev pub after_found : ℕ → Cleaner → Cleaner
after_found now c = if is_found now c then record c { sure = c.level; is_sure = true } else c

-- the level from this moment on, as it is recorded
abbrev pub after_level : ℕ → Sample → Cleaner → Cleaner
after_level now level c =
    if same_sample level c.level then c
    else record {
      sure = c.sure;
      until = if c.is_sure then now else c.until;
      level = level;
      since = now;
      is_sure = false;
    }

-- before anything is recorded: quiet, from the first moment on
abbrev pub unheard : Cleaner
unheard = record { sure = Quiet; until = 0; level = Quiet; since = 0; is_sure = false }
