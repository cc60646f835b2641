use Rattle.std.proofs.Common.{◌≡◌, ◌+◌, ◌*◌, ◌∷◌, ap, sym, ◌∙◌, arith, Some, None}
use Rattle.std.specs.Option.{option_or}
use Rattle.bus_line.specs.Past.{first_tick, samples_from}
use Rattle.bus_line.specs.declared.cutter.TheConstants.{LAG}
use Rattle.bus_table.specs.Flaws.{slot_flaw}
use Rattle.bus_table.proofs.RowLaws.{SlotEnds, slot-ends}
use Rattle.bus_table.proofs.channel_rows.ChannelRows.note_bad.Goals as goal

pub slot_at-at-requires : goal.slot_at-at-requires
slot_at-at-requires c =
    let (past, s, small) = c.requires in
    let e : SlotEnds c.args.self.now past c.args.index = slot-ends c.args.self.now past c.args.index None c.args.sample s in
    let f = c.first-first.ensures (first_tick LAG past) e.running in
    let w = e.within in
    omega (arith, f, w, small)

pub slot_with-samples-requires : goal.slot_with-samples-requires
slot_with-samples-requires c = let (past, s, small) = c.requires in (past, s.lister.cutter)

pub returns-clause-noted : goal.returns-clause-noted
returns-clause-noted c past s =
    let old = c.args.self.now in
    let e : SlotEnds old past c.args.index = slot-ends old past c.args.index None c.args.sample s in
    let at : c.slot_at-at.result ≡ first_tick LAG past + 40 * c.args.index =
    c.slot_at-at.ensures ∙ ap (λ f. f + 40 * c.args.index) (c.first-first.ensures (first_tick LAG past) e.running) in
    let flaw : c.slot_flaw-flaw.result ≡ slot_flaw (samples_from (c.args.sample ∷ past) (first_tick LAG past + 40 * c.args.index) 40) =
    c.slot_flaw-flaw.ensures ∙ ap slot_flaw (c.slot_with-samples.ensures past c.args.index None s.lister.cutter (sym s.cut_is)) in
    ap (λ b. record old { bad = b })
    (c.or_bad-self.ensures ∙ ap (λ a. option_or old.bad (Some (record { at = a; flaw = c.slot_flaw-flaw.result }))) at
    ∙ ap (λ f. option_or old.bad (Some (record { at = first_tick LAG past + 40 * c.args.index; flaw = f }))) flaw)
