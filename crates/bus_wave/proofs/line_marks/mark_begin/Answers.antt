use Rattle.std.proofs.Common.{◌+◌, ◌-◌, ◌++◌, List, [], ◌∷◌, ap, sym, ◌∙◌, subst}
use Rattle.std.specs.Prelude.{Option}
use Rattle.bus_monitor.specs.Messages.{Waiting}
use Rattle.bus_wave.specs.Delays.{Marked}
use Rattle.bus_wave.specs.Told.{Told, told_at, told_begin, gap_told}
use Rattle.bus_wave.specs.declared.marks.Mark.TheVariants.{Message, Sender, Gap}
use Rattle.bus_wave.specs.declared.marks.MessageMark.TheVariants as messages
use Rattle.bus_wave.specs.declared.marks.SenderMark.{SenderMark}
use Rattle.bus_wave.specs.declared.marks.SenderMark.TheVariants as senders
use Rattle.bus_wave.proofs.DelayLaws.{marked-then}
use Rattle.bus_wave.proofs.line_marks.mark_begin.Goals as goal

pub returns-in-None : goal.returns-in-None
returns-in-None c =
    let now = c.args.now in
    let n = c.args.now + 1 in
    let ch = c.args.channel in
    let message : List Told = told_at now (Message messages.Unknown) ∷ [] in
    let sender : List Told = told_at now (Sender senders.Unknown) ∷ [] in
    let gap : List Told = gap_told now c.args.gap in
    subst (λ (w : Option Waiting). Marked c.args.line.now c.mark_gap.new.line n ch (told_begin c.args.gap now w)) (sym c.in-None.is)
    (marked-then c.args.line.now c.mark.new.self c.mark_gap.new.line n ch message (sender ++ gap) c.mark.ensures
    (marked-then c.mark.new.self c.mark-in-None.new.self c.mark_gap.new.line n ch sender gap c.mark-in-None.ensures c.mark_gap.ensures))

pub returns-in-Some : goal.returns-in-Some
returns-in-Some c =
    let l0 = c.args.line.now in
    let l2 = c.mark-in-Some-2.new.self in
    let now = c.args.now in
    let n = c.args.now + 1 in
    let ch = c.args.channel in
    let sender : List Told = told_at now (Sender c.terminal.result) ∷ [] in
    let gap : List Told = told_at now (Gap c.saturating_sub.result) ∷ [] in
    subst (λ (w : Option Waiting). Marked l0 l2 n ch (told_begin c.args.gap now w)) (sym c.in-Some.is)
    (subst (λ (s : SenderMark). Marked l0 l2 n ch (told_at now (Sender s) ∷ told_at now (Gap (now - c.in-Some.waiting.from)) ∷ [])) c.terminal.ensures
    (subst (λ q. Marked l0 l2 n ch (told_at now (Sender c.terminal.result) ∷ told_at now (Gap q) ∷ []))
    (c.saturating_sub.ensures ∙ ap (λ f. now - f) c.from.ensures)
    (marked-then l0 c.mark-in-Some.new.self l2 n ch sender gap c.mark-in-Some.ensures c.mark-in-Some-2.ensures)))
