use Rattle.std.proofs.Common.{◌≡◌, ◌+◌, ◌*◌, ◌-◌, ap, ◌∙◌, arith, length}
use Rattle.std.specs.Option.{option_or}
use Rattle.bus_line.specs.Past.{first_tick}
use Rattle.bus_line.specs.Cutting.{running_slots}
use Rattle.bus_line.specs.declared.cutter.TheConstants.{LAG}
use Rattle.bus_table.specs.Exchanges.{words_behind}
use Rattle.bus_table.specs.Flaws.{bad_rest}
use Rattle.bus_table.specs.declared.channel_rows.ChannelRows.{ChannelRows}
use Rattle.bus_table.proofs.RowLaws.{BurstEnds, burst-ends, end-by}
use Rattle.bus_table.proofs.channel_rows.ChannelRows.note_end.Goals as goal

pub slot_at-at-requires : goal.slot_at-at-requires
slot_at-at-requires c =
    let (past, s, here, small) = c.requires in
    let e : BurstEnds c.args.self.now past c.args.slots = burst-ends c.args.self.now past c.args.slots c.args.rest c.args.sample s in
    let f = c.first-first.ensures (first_tick LAG past) e.running in
    let w = e.within in
    omega (arith, f, w, here, small)

pub note_burst-requires : goal.note_burst-requires
note_burst-requires c =
    let (past, s, here, small) = c.requires in
    let e : BurstEnds c.args.self.now past c.args.slots = burst-ends c.args.self.now past c.args.slots c.args.rest c.args.sample s in
    let f = c.first-first.ensures (first_tick LAG past) e.running in
    let w = e.within in
    omega (arith, f, w, here, small)

pub returns-clause-noted : goal.returns-clause-noted
returns-clause-noted c past s here =
    let old = c.args.self.now in
    let e : BurstEnds old past c.args.slots = burst-ends old past c.args.slots c.args.rest c.args.sample s in
    let first : c.first-first.result ≡ first_tick LAG past = c.first-first.ensures (first_tick LAG past) e.running in
    let at : c.slot_at-at.result ≡ first_tick LAG past + 40 * c.args.slots = c.slot_at-at.ensures ∙ ap (λ f. f + 40 * c.args.slots) first in
    let bad : c.or_bad-bad.result ≡ option_or old.bad (bad_rest (first_tick LAG past + 40 * c.args.slots) c.args.rest) =
    c.or_bad-bad.ensures ∙ ap (option_or old.bad) (c.bad_rest-behind.ensures ∙ ap (λ a. bad_rest a c.args.rest) at) in
    let end : c.saturating_sub-end.result ≡ length past - LAG = omega (arith, here, c.saturating_sub-end.ensures) in
    ap (λ (r : ChannelRows). record r { ended = c.saturating_sub-end.result }) (c.note_burst.ensures.noted (running_slots LAG past) s.lister.slots)
    ∙ end-by old (words_behind (running_slots LAG past)) c.first-first.result (first_tick LAG past) c.saturating_sub-end.result (length past - LAG) c.or_bad-bad.result
    (option_or old.bad (bad_rest (first_tick LAG past + 40 * c.args.slots) c.args.rest)) first end bad
