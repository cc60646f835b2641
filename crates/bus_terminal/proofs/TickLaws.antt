-- What each state of a terminal is known to be, in ticks.
use Rattle.std.proofs.Common.{◌≡◌, ℕ, ◌+◌, ◌<◌, ◌≤◌, Bool, true, false, ◌||◌, List, length, Option, Some, None, refl, arith, inl, inr, ◌⊎◌}
use Rattle.std.specs.Prelude.{is_some}
use Rattle.std.proofs.lemmas.Bool.{cases_Bool}
use Rattle.bus_line.specs.Past.{end_since}
use Rattle.bus_line.specs.Bursts.{IsHeardAt}
use Rattle.bus_line.proofs.EndLaws.{end_since-none}
use Rattle.bus_formats.specs.Plans.{TerminalData}
use Rattle.bus_formats.specs.Times.{relay_wait}
use Rattle.bus_model.specs.Memory.{TimedLoad}
use Rattle.bus_model.specs.Orders.{Duty, free, owes, promises, due_after}
use Rattle.bus_model.specs.Hearing.{Moment, heard_on}
use Rattle.bus_model.specs.Standing.{Standing, is_owed}
use Rattle.bus_model.specs.Terminal.{given_up, is_over}
use Rattle.bus_terminal.specs.Stands.{PromisedStands, AnsweringStands, IsAwaited, rests}
use Rattle.bus_terminal.specs.declared.promised.Promised.{Promised}
use Rattle.bus_terminal.specs.declared.answering.Answering.{Answering}
use Rattle.bus_terminal.proofs.Heard.{length-heard}

-- one of two holds
or-either : (a b : Bool) → (a || b) ≡ true → (a ≡ true) ⊎ (b ≡ true)
or-either true b h = inl refl
or-either false b h = inr h

-- a duty that rests, where it is an answer
pub rests-owed : (k : ℕ) (terminal : TerminalData) (past : List Moment) (s : Standing) (d : Duty) → rests k terminal past s d ≡ true → is_owed d ≡ true →
    (given_up k terminal (heard_on s.channel past) s ≡ true) ⊎ (is_over k terminal (heard_on s.channel past) s ≡ true)
rests-owed k terminal past s free h owed = cc
rests-owed k terminal past s (promises command transmitter) h owed = cc
rests-owed k terminal past s (owes words acceptance) h owed = or-either (given_up k terminal (heard_on s.channel past) s) (is_over k terminal
    (heard_on s.channel past) s) h

-- a promise waits, or the awaited burst runs
pub waits-or-awaited : (k : ℕ) (terminal : TerminalData) (loads : List TimedLoad) (state : Promised) (past : List Moment) (s : Standing) →
    PromisedStands k terminal loads state past s →
    (length past ≤ s.end + relay_wait) ⊎ IsAwaited k (heard_on s.channel past) s.end
waits-or-awaited k terminal loads state past s st = elim (cases_Bool state.heard) [
  | inl heard ↦ inr (st.awaited heard)
  | inr silent ↦ inl (st.within silent)
]

-- an answer that isn't over has no end yet
none-some : (o : Option ℕ) → is_some o ≡ false → o ≡ None
none-some None h = refl
none-some (Some n) h = cc

-- so in any k + 1 ticks in a row from its first one on, one was heard
pub answer-runs : (k : ℕ) (terminal : TerminalData) (loads : List TimedLoad) (state : Answering) (past : List Moment) (s : Standing) →
    AnsweringStands k terminal loads state past s →
    (u : ℕ) → due_after terminal s.end ≤ u → u + k < length past → (t : ℕ) × (u ≤ t) × (t ≤ u + k) × IsHeardAt (heard_on s.channel past) t
answer-runs k terminal loads state past s st u from before =
    end_since-none k (heard_on s.channel past) (due_after terminal s.end) u (none-some (end_since k (heard_on s.channel past)
    (due_after terminal s.end)) st.runs) from
    (omega (arith, before, length-heard s.channel past))
