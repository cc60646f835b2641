-- A state whose ears have heard a tick stays where nothing is handled and it isn't left. Else it has heard the tick.
use Rattle.std.proofs.Common.{◌≡◌, ℕ, suc, ◌+◌, Bool, true, false, not, ◌&&◌, ◌||◌, ◌==◌, nat_lt, nat_le, List, ◌∷◌, length, Option, Some, None, refl, sym, ap, ◌∙◌, subst, arith, if◌then◌else◌}
use Rattle.std.specs.Prelude.{is_some}
use Rattle.std.proofs.lemmas.Bool.Decides.{nat_tests}
use Rattle.bus_base.specs.Samples.{is_quiet, sample_on}
use Rattle.bus_formats.specs.Plans.{TerminalData}
use Rattle.bus_formats.specs.Times.{relay_wait}
use Rattle.bus_model.specs.Memory.{TimedLoad}
use Rattle.bus_model.specs.Orders.{due_after}
use Rattle.bus_model.specs.Hearing.{Moment, heard_on}
use Rattle.bus_model.specs.Standing.{Standing, superseded, ignored_from, mark_on}
use Rattle.bus_model.specs.Terminal.{marked_by, accepted_on}
use Rattle.bus_terminal.specs.Holding.{listened_of}
use Rattle.bus_terminal.specs.Handling.{handled_told}
use Rattle.bus_terminal.specs.Hearing.{ListeningHeard, PromisedHeard, OwingHeard, AnsweringHeard, AfterStep}
use Rattle.bus_terminal.specs.Stands.{NextStands}
use Rattle.bus_terminal.specs.Steps.{step_told, owes_told, answering_on}
use Rattle.bus_terminal.specs.declared.common.BothHeard.{BothHeard}
use Rattle.bus_terminal.specs.declared.listening.Listening.{Listening}
use Rattle.bus_terminal.specs.declared.promised.Promised.{Promised}
use Rattle.bus_terminal.specs.declared.owing.Owing.{Owing}
use Rattle.bus_terminal.specs.declared.answering.Answering.{Answering}
use Rattle.bus_terminal.specs.declared.state.Sends.{Sends}
use Rattle.bus_terminal.specs.declared.state.TerminalState.{TerminalState}
use Rattle.bus_terminal.specs.declared.state.TerminalState.TheVariants as states
use Rattle.bus_terminal.specs.declared.state.TerminalEvent.TheVariants as events
use Rattle.bus_terminal.proofs.Accepting.{next-silent, listening-accepts, promised-accepts, owing-accepts, running-accepts}
use Rattle.bus_terminal.proofs.AnsweringTicks.{answering-none, ignored-due}
use Rattle.bus_terminal.proofs.Listened.{rests-heard, rests-none, found-free}
use Rattle.bus_terminal.proofs.OwingTicks.{sends-awaits, owing-none}
use Rattle.bus_terminal.proofs.PromisedTicks.{promised-found, promised-waits, last-none}
use Rattle.bus_terminal.proofs.Ticks.{none-handled}

none-of : {A : Type 0} (o : Option A) → false ≡ is_some o → o ≡ None
none-of None e = refl
none-of (Some x) e = cc

pub listening-step : (k : ℕ) (terminal : TerminalData) (loads : List TimedLoad) (before after : Listening) (both : BothHeard) (past : List Moment)
    (now : Moment) (s : Standing) (found : Bool) →
    ListeningHeard k terminal loads before after both past now s → found ≡ is_some (handled_told (listened_of after.common.ears both) None false) →
    AfterStep k terminal loads (states.Listening after) (step_told found both) past now s (accepted_on k terminal loads now past s)
listening-step k terminal loads before after both past now s true h is = (before, h)
listening-step k terminal loads before after both past now s false h is =
    let order = none-handled s _ _ (rests-heard k terminal loads before past now s (listened_of after.common.ears both) h.stood h.told) (none-of _ is) in
    next-silent k terminal loads _ past now s _ (listening-accepts k terminal loads before now past s h.stood)
    (rests-none k terminal loads before after.common past now s h.stood order h.listened.plan h.listened.memory (h.listened.stands s))

pub promised-step : (k : ℕ) (terminal : TerminalData) (loads : List TimedLoad) (before after : Promised) (both : BothHeard) (past : List Moment)
    (now : Moment) (s : Standing) (found out newer : Bool) →
    PromisedHeard k terminal loads before after both past now s → out ≡ ((length past == (after.waiting.end + relay_wait)) && not after.heard) →
    found ≡ is_some (handled_told (listened_of after.common.ears both) (Some after.waiting) out) →
    newer ≡ superseded k (marked_by k terminal now past s s) →
    AfterStep k terminal loads (states.Promised after) (step_told (found || newer) both) past now s
    (accepted_on k terminal loads now past s)
promised-step k terminal loads before after both past now s true out newer h out_is is newer_is = (before, h)
promised-step k terminal loads before after both past now s false out true h out_is is newer_is = (before, h)
promised-step k terminal loads before after both past now s false out false h out_is is newer_is =
    let none = none-of (handled_told (listened_of after.common.ears both) (Some after.waiting) out) is in
    let order = none-handled s _ _ (promised-found k terminal loads before after.waiting after.heard past now s (listened_of after.common.ears both) out
    h.stood h.told h.waiting h.since out_is) none in
    next-silent k terminal loads _ past now s _ (promised-accepts k terminal loads before now past s h.stood)
    (promised-waits k terminal loads before after.common after.waiting after.heard past now s out false h.stood h.listened h.waiting h.since out_is
    (last-none _ _ _ out none) order newer_is)

-- an answer that isn't due yet is owed
not-due : (b : Bool) (x y : TerminalState) → b ≡ true → (if b then x else y) ≡ x
not-due true x y e = refl
not-due false x y e = cc

still-owes : (n : ℕ) (after : Owing) → nat_lt n (due_after after.common.plan after.sends.end) ≡ true →
    owes_told after.common n after.sends ≡ states.Owing after
still-owes n after early = not-due (nat_lt n (due_after after.common.plan after.sends.end)) _ _ early

pub owing-step : (k : ℕ) (terminal : TerminalData) (loads : List TimedLoad) (before after : Owing) (both : BothHeard) (past : List Moment)
    (now : Moment) (s : Standing) (n : ℕ) (found newer dropped is_due : Bool) →
    OwingHeard k terminal loads before after both past now s → n ≡ suc (length past) →
    found ≡ is_some (handled_told (listened_of after.common.ears both) None false) → newer ≡ superseded k (marked_by k terminal now past s s) →
    dropped ≡ not (is_quiet (sample_on now.shown before.sends.channel)) → is_due ≡ nat_le (due_after after.common.plan after.sends.end) n →
    AfterStep k terminal loads (states.Owing after) (step_told (found || ((newer || dropped) || is_due)) both) past now s
    (accepted_on k terminal loads now past s)
owing-step k terminal loads before after both past now s n true newer dropped is_due h here is newer_is dropped_is due_is = (before, h)
owing-step k terminal loads before after both past now s n false true dropped is_due h here is newer_is dropped_is due_is = (before, h)
owing-step k terminal loads before after both past now s n false false true is_due h here is newer_is dropped_is due_is = (before, h)
owing-step k terminal loads before after both past now s n false false false true h here is newer_is dropped_is due_is = (before, h)
owing-step k terminal loads before after both past now s n false false false false h here is newer_is dropped_is due_is =
    let order = none-handled s _ _ (found-free k terminal past now s (listened_of after.common.ears both) (sends-awaits k s before.sends h.stood.sends) h.told)
    (none-of _ is) in
    let early : nat_lt n (due_after after.common.plan after.sends.end) ≡ true = grind (arith, nat_tests, due_is) in
    let stays : owes_told after.common n before.sends ≡ states.Owing after =
    ap (λ (x : Sends). owes_told after.common n x) (sym h.sends) ∙ still-owes n after early in
    next-silent k terminal loads _ past now s _ (owing-accepts k terminal loads before now past s h.stood)
    (subst (λ (t : TerminalState). NextStands k terminal loads (record { state = t; event = events.Nothing }) past now s None) stays
    (owing-none k terminal loads before after.common past now s n false false h.stood order h.listened.plan h.listened.memory (h.listened.stands s) here
    dropped_is newer_is))

pub answering-step : (k : ℕ) (terminal : TerminalData) (loads : List TimedLoad) (before after : Answering) (both : BothHeard) (past : List Moment)
    (now : Moment) (s : Standing) (found newer ignored : Bool) →
    AnsweringHeard k terminal loads before after both past now s →
    found ≡ is_some (handled_told (listened_of after.common.ears both) None false) → newer ≡ superseded k (marked_by k terminal now past s s) →
    ignored ≡ ignored_from k (heard_on before.sends.channel (now ∷ past)) (mark_on (marked_by k terminal now past s s).sent before.sends.channel) →
    AfterStep k terminal loads (states.Answering after) (step_told (found || (newer || not ignored)) both) past now s
    (accepted_on k terminal loads now past s)
answering-step k terminal loads before after both past now s true newer ignored h is newer_is ignored_is = (before, h)
answering-step k terminal loads before after both past now s false true ignored h is newer_is ignored_is = (before, h)
answering-step k terminal loads before after both past now s false false false h is newer_is ignored_is = (before, h)
answering-step k terminal loads before after both past now s false false true h is newer_is ignored_is =
    let order = none-handled s _ _ (found-free k terminal past now s (listened_of after.common.ears both) (sends-awaits k s before.sends h.stood.sends) h.told)
    (none-of _ is) in
    let accepted : accepted_on k terminal loads now past s ≡ None =
    running-accepts k terminal loads before now past s h.stood (sym (ignored-due k terminal loads before past now s true h.stood ignored_is)) in
    let stays : answering_on after.common before.sends after.sent false true ≡ states.Answering after =
    ap (λ (x : Sends). answering_on after.common x after.sent false true) (sym h.sends) in
    next-silent k terminal loads _ past now s _ accepted
    (subst (λ (t : TerminalState). NextStands k terminal loads (record { state = t; event = events.Nothing }) past now s None) stays
    (answering-none k terminal loads before after.common past now s after.sent false true false None refl h.stood order h.listened.plan h.listened.memory
    (h.listened.stands s) h.sent newer_is ignored_is))
