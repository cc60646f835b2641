-- When and how the next attempt begins, as the code has it and as the definition has it.
use Rattle.std.proofs.Common.{◌≡◌, ℕ, suc, ◌+◌, ◌-◌, ◌<◌, ◌≤◌, max, false, ◌&&◌, ◌==◌, nat_le, Option, Some, None, if◌then◌else◌, ◌⊎◌, refl, ap, arith, inl, inr}
use Rattle.std.proofs.lemmas.Bool.Decides.{nat_tests}
use Rattle.bus_base.specs.declared.samples.Channel.{Channel}
use Rattle.bus_formats.specs.declared.form.Outcome.{Outcome}
use Rattle.bus_formats.specs.declared.form.Outcome.TheVariants as outcomes
use Rattle.bus_retry.specs.declared.RetryState.{RetryState}
use Rattle.bus_model.specs.Starts.{Entry, Origin, Opening, usual, superseding, taking, planned_start, start_of, state_of, opening_after}
use Rattle.bus_formats.specs.Times.{settling_quiet}
use Rattle.bus_formats.specs.Times.{dead_ticks}
use Rattle.bus_controller.specs.Queue.{due_of}
use Rattle.bus_controller.specs.Agendas.{AgendaData, is_due_by, state_by, quiet_needed, earliest, opens_after}
use Rattle.bus_controller.specs.declared.opening.Opening.{Opening as Wait}
use Rattle.bus_controller.specs.declared.opening.Opening.TheVariants as openings
use Rattle.bus_controller.specs.Stands.{OpeningStands}

-- so many quiet ticks and a tick that is reached, or the greatest of what is waited for
usual-due : (now quiet need tick early : ℕ) → quiet ≤ now → tick ≤ now → now ≤ max ((now - quiet) + need) (max tick early) →
    (nat_le need quiet && nat_le early now) ≡ (max ((now - quiet) + need) (max tick early) == now)
usual-due now quiet need tick early within reached later = grind (arith, nat_tests, within, reached, later)

due-usual : (need tick : ℕ) (retry : Option RetryState) (origin : Origin) (entry : Entry) (now quiet : ℕ) → quiet ≤ now → tick ≤ now →
    now ≤ start_of (usual need tick) retry origin entry (now - quiet) →
    (nat_le (quiet_needed retry (due_of entry) need) quiet && nat_le (earliest retry origin (due_of entry)) now)
    ≡ (start_of (usual need tick) retry origin entry (now - quiet) == now)
due-usual need tick None origin entry now quiet within reached later =
    usual-due now quiet (max need (dead_ticks entry.item.gap)) tick (if entry.place == 1 then planned_start origin entry else 0) within reached later
due-usual need tick (Some state) origin entry now quiet within reached later = usual-due now quiet need tick 0 within reached later

-- the next attempt is due where the definition starts it
pub due-now : (wait : Wait) (opening : Opening) (agenda : AgendaData) (entry : Entry) (now quiet : ℕ) → OpeningStands wait opening now → quiet ≤ now →
    now ≤ start_of opening agenda.retry agenda.origin entry (now - quiet) →
    is_due_by wait agenda quiet now (due_of entry) ≡ (start_of opening agenda.retry agenda.origin entry (now - quiet) == now)
due-now (openings.Usual need) (usual needed tick) agenda entry now quiet st within later =
    rw st.0 (due-usual needed tick agenda.retry agenda.origin entry now quiet within st.1 later)
due-now (openings.Superseding channel) (superseding tick other) agenda entry now quiet st within later = grind (arith, nat_tests, st, later)
due-now (openings.Taking first) (taking tick) agenda entry now quiet st within later = grind (arith, nat_tests, st, later)
due-now (openings.Usual need) (superseding tick other) agenda entry now quiet st within later = absurd st
due-now (openings.Usual need) (taking tick) agenda entry now quiet st within later = absurd st
due-now (openings.Superseding channel) (usual needed tick) agenda entry now quiet st within later = absurd st
due-now (openings.Superseding channel) (taking tick) agenda entry now quiet st within later = absurd st
due-now (openings.Taking first) (usual needed tick) agenda entry now quiet st within later = absurd st
due-now (openings.Taking first) (superseding tick other) agenda entry now quiet st within later = absurd st

-- on the same channel and with the same turn
pub state-same : (wait : Wait) (opening : Opening) (agenda : AgendaData) (entry : Entry) (now : ℕ) → OpeningStands wait opening now →
    state_by wait agenda entry ≡ state_of opening agenda.retry entry agenda.live
state-same (openings.Usual need) (usual needed tick) agenda entry now st = refl
state-same (openings.Superseding channel) (superseding tick other) agenda entry now st = ap (λ (ch : Channel). record { channel = ch; turn = 1 }) st.0
state-same (openings.Taking first) (taking tick) agenda entry now st = refl
state-same (openings.Usual need) (superseding tick other) agenda entry now st = absurd st
state-same (openings.Usual need) (taking tick) agenda entry now st = absurd st
state-same (openings.Superseding channel) (usual needed tick) agenda entry now st = absurd st
state-same (openings.Superseding channel) (taking tick) agenda entry now st = absurd st
state-same (openings.Taking first) (usual needed tick) agenda entry now st = absurd st
state-same (openings.Taking first) (superseding tick other) agenda entry now st = absurd st

-- what is waited for after an ending in this tick
pub after-stands : (outcome : Outcome) (channel : Channel) (tick : ℕ) → OpeningStands (opens_after outcome channel) (opening_after outcome channel tick) (suc tick)
after-stands outcomes.Clear channel tick = (refl, omega arith)
after-stands outcomes.Sent channel tick = (refl, omega arith)
after-stands outcomes.Declined channel tick = (refl, omega arith)
after-stands outcomes.Passed channel tick = (refl, omega arith)
after-stands (outcomes.Illegal part) channel tick = (refl, omega arith)
after-stands (outcomes.Busy part) channel tick = (refl, omega arith)
after-stands (outcomes.NoResponse part) channel tick = (refl, omega arith)
after-stands (outcomes.BadReply part) channel tick = (refl, omega arith)
after-stands outcomes.Abandoned channel tick = (refl, omega arith)
after-stands outcomes.Yielded channel tick = (refl, omega arith)

-- the next attempt starts after it
pub after-due : (outcome : Outcome) (channel : Channel) (tick : ℕ) (retry : Option RetryState) (origin : Origin) (entry : Entry) (z : ℕ) →
    suc tick ≤ start_of (opening_after outcome channel tick) retry origin entry z
after-due outcomes.Clear channel tick retry origin entry z = omega arith
after-due outcomes.Sent channel tick retry origin entry z = omega arith
after-due outcomes.Declined channel tick retry origin entry z = omega arith
after-due outcomes.Passed channel tick retry origin entry z = omega arith
after-due (outcomes.Illegal part) channel tick retry origin entry z = omega arith
after-due (outcomes.Busy part) channel tick retry origin entry z = omega arith
after-due (outcomes.NoResponse part) channel tick retry origin entry z = omega arith
after-due (outcomes.BadReply part) channel tick retry origin entry z = omega arith
after-due outcomes.Abandoned channel tick retry origin entry z = omega arith
after-due outcomes.Yielded channel tick retry origin entry z = omega arith

past-now : (now start : ℕ) → now ≤ start → (start == now) ≡ false → suc now ≤ start
past-now now start later not_now = grind (arith, nat_tests, later, not_now)

-- a tick more: where the next attempt didn't start, it starts later
pub later-due : (opening : Opening) (retry : Option RetryState) (origin : Origin) (entry : Entry) (now z y : ℕ) →
    (now ≤ start_of opening retry origin entry z) → (start_of opening retry origin entry z == now) ≡ false → (y ≡ z) ⊎ (y ≡ suc now) →
    suc now ≤ start_of opening retry origin entry y
later-due (usual need tick) retry origin entry now z y later not_now (inl same) = rw same (past-now now _ later not_now)
later-due (usual need tick) retry origin entry now z y later not_now (inr moved) = omega (arith, moved)
later-due (superseding tick channel) retry origin entry now z y later not_now moved = past-now now tick later not_now
later-due (taking tick) retry origin entry now z y later not_now moved = past-now now tick later not_now

-- what is waited for stays, a tick later
pub opening-more : (wait : Wait) (opening : Opening) (now : ℕ) → OpeningStands wait opening now → OpeningStands wait opening (suc now)
opening-more (openings.Usual need) (usual needed tick) now st = (st.0, omega (arith, st.1))
opening-more (openings.Superseding channel) (superseding tick other) now st = (st.0, omega (arith, st.1))
opening-more (openings.Taking first) (taking tick) now st = st
opening-more (openings.Usual need) (superseding tick other) now st = absurd st
opening-more (openings.Usual need) (taking tick) now st = absurd st
opening-more (openings.Superseding channel) (usual needed tick) now st = absurd st
opening-more (openings.Superseding channel) (taking tick) now st = absurd st
opening-more (openings.Taking first) (usual needed tick) now st = absurd st
opening-more (openings.Taking first) (superseding tick other) now st = absurd st

-- while the channels must settle nothing starts
pub unsettled-none : (tick : ℕ) (retry : Option RetryState) (origin : Origin) (entry : Entry) (now quiet : ℕ) → quiet ≤ now → quiet < settling_quiet →
    (start_of (usual settling_quiet tick) retry origin entry (now - quiet) == now) ≡ false
unsettled-none tick None origin entry now quiet within few = grind (arith, nat_tests, within, few)
unsettled-none tick (Some state) origin entry now quiet within few = grind (arith, nat_tests, within, few)
