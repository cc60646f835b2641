-- A terminal whose station held control, after a tick in which an attempt ended.
use Rattle.std.proofs.Common.{◌≡◌, ℕ, suc, Bool, true, false, List, ◌∷◌, refl, sym, subst, if◌then◌else◌}
use Rattle.bus_formats.specs.Plans.{TerminalData}
use Rattle.bus_model.specs.Memory.{TimedLoad}
use Rattle.bus_model.specs.Hearing.{Moment, Hearing}
use Rattle.bus_model.specs.Control.{hear_more, unheard}
use Rattle.bus_terminal.specs.Quiet.{quiet_moments}
use Rattle.bus_terminal.specs.Stands.{AreMade}
use Rattle.bus_terminal.specs.TerminalStands.{TerminalStands, TerminalKeeps, TerminalHears}
use Rattle.bus_terminal.specs.declared.terminal.Terminal.{Terminal}
use Rattle.bus_station.proofs.Listening.{rested-keeps, rested-hears}

-- it keeps what it should, and its cutters stand
pub stands-both : (k : ℕ) (t : TerminalData) (loads : List TimedLoad) (value : Terminal) (hearing : Hearing) → TerminalKeeps k t loads value hearing →
    TerminalHears k value hearing.ticks → TerminalStands k t loads value hearing
unfolding TerminalStands
stands-both k t loads value hearing keeps hears = (keeps, hears)

-- the other way
pub both-stand : (k : ℕ) (t : TerminalData) (loads : List TimedLoad) (value : Terminal) (hearing : Hearing) → TerminalStands k t loads value hearing →
    TerminalKeeps k t loads value hearing × TerminalHears k value hearing.ticks
unfolding TerminalStands
both-stand k t loads value hearing st = st

-- it heard the tick in which control was yielded, or a quiet one
pub closed-keeps : (k : ℕ) (t : TerminalData) (loads : List TimedLoad) (old new : Terminal) (hearing : Hearing) (n : ℕ) (y : Bool) (now : Moment) →
    hearing.ticks ≡ quiet_moments n → AreMade t.address (suc n) loads → TerminalKeeps k t loads old hearing → TerminalHears k old hearing.ticks →
    (y ≡ true → TerminalStands k t loads new (hear_more hearing now)) → (y ≡ false → new ≡ old) →
    TerminalKeeps k t loads new (hear_more hearing (if y then now else unheard))
closed-keeps k t loads old new hearing n true now rests made st hears yields stays = (both-stand k t loads new (hear_more hearing now) (yields refl)).0
closed-keeps k t loads old new hearing n false now rests made st hears yields stays =
    subst (λ (value : Terminal). TerminalKeeps k t loads value (hear_more hearing unheard)) (sym (stays refl)) (rested-keeps k t loads old hearing n rests made st)

-- and so did its cutters
pub closed-hears : (k : ℕ) (t : TerminalData) (loads : List TimedLoad) (old new : Terminal) (hearing : Hearing) (n : ℕ) (y : Bool) (now : Moment) →
    hearing.ticks ≡ quiet_moments n → TerminalHears k old hearing.ticks →
    (y ≡ true → TerminalStands k t loads new (hear_more hearing now)) → (y ≡ false → new ≡ old) →
    TerminalHears k new ((if y then now else unheard) ∷ hearing.ticks)
closed-hears k t loads old new hearing n true now rests hears yields stays = (both-stand k t loads new (hear_more hearing now) (yields refl)).1
closed-hears k t loads old new hearing n false now rests hears yields stays =
    subst (λ (value : Terminal). TerminalHears k value (unheard ∷ hearing.ticks)) (sym (stays refl)) (rested-hears k old hearing.ticks n rests hears)
