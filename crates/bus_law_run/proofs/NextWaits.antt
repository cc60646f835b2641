-- The next message waits until the one before is over.
use Rattle.std.proofs.Common.{◌≡◌, ◌≢◌, ℕ, suc, ◌+◌, ◌≤◌, List, length, max, Option, Some, None, refl, sym, subst, arith}
use Rattle.bus_base.specs.declared.samples.Channel.{Channel}
use Rattle.bus_base.specs.declared.samples.Pair.{Pair}
use Rattle.bus_formats.specs.declared.form.Outcome.{Outcome}
use Rattle.bus_formats.specs.declared.form.Outcome.TheVariants.{Clear, Sent, Declined, Passed, Illegal, Busy, NoResponse, BadReply, Abandoned, Yielded}
use Rattle.bus_retry.specs.Retries.{next_of}
use Rattle.bus_retry.specs.declared.RetryState.{RetryState}
use Rattle.bus_model.specs.Attempts.{Begun, Ended}
use Rattle.bus_model.specs.Course.{Course, quiet_from, close}
use Rattle.bus_model.specs.Starts.{Entry, Origin, Opening, usual, needed_quiet, opening_after, start_of, retry_by}
use Rattle.bus_law_messages.specs.Settled.{NoneStarts}

-- after a message that wasn't abandoned
usual-after : (outcome : Outcome) (channel : Channel) (tick : ℕ) → outcome ≢ Abandoned →
    opening_after outcome channel tick ≡ usual (needed_quiet outcome) (suc tick)
usual-after Clear channel tick other = refl
usual-after Sent channel tick other = refl
usual-after Declined channel tick other = refl
usual-after Passed channel tick other = refl
usual-after (Illegal part) channel tick other = refl
usual-after (Busy part) channel tick other = refl
usual-after (NoResponse part) channel tick other = refl
usual-after (BadReply part) channel tick other = refl
usual-after Abandoned channel tick other = absurd (other refl)
usual-after Yielded channel tick other = refl

waits-for : (need tick : ℕ) (retry : Option RetryState) (origin : Origin) (entry : Entry) (z n : ℕ) → n ≤ max tick (z + need) →
    n ≤ start_of (usual need tick) retry origin entry z
waits-for need tick None origin entry z n few = omega (arith, few)
waits-for need tick (Some state) origin entry z n few = omega (arith, few)

pub next-waits : (c : Course) (past : List Pair) (begun : Begun) (e : Ended) (tick : ℕ) → e.outcome ≢ Abandoned →
    length past ≤ max (suc tick) (quiet_from past + needed_quiet e.outcome) → NoneStarts (close c begun e tick) past 0
next-waits c past begun e tick other few entry later left =
    let retry : Option RetryState = retry_by (next_of begun.entry.item begun.state e.outcome) in
    subst (λ (o : Opening). length past + 0 ≤ start_of o retry c.origin entry (quiet_from past))
    (sym (usual-after e.outcome begun.state.channel tick other))
    (waits-for (needed_quiet e.outcome) (suc tick) retry c.origin entry (quiet_from past) (length past + 0) (omega (arith, few)))
