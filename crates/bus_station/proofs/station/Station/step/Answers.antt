use Rattle.std.proofs.Common.{◌∷◌, sym, ◌∙◌}
use Rattle.bus_line.specs.declared.cutter.TheConstants.{LAG}
use Rattle.bus_station.specs.StationStands.{StationKeeps}
use Rattle.bus_station.proofs.Shown.{serves, controls}
use Rattle.bus_station.proofs.Listening.{hears-off, hears-on, own-hears, or-last, served-step}
use Rattle.bus_station.proofs.station.Station.step.Goals as goal

pub serve-requires : goal.serve-requires
unfolding StationKeeps
serve-requires c =
    let (plan, starts, loads, outside, past, before, after, st, hears, next, small) = c.requires in
    let off = serves _ _ (c.is_yielded.ensures.holds plan starts _ past st.controller) c.if-is_yielded.true in
    (plan, starts, loads, outside, past, before, after, st, off, hears-off LAG _ c.args.own c.args.self.now before _ off hears, next, small)

pub hold-requires : goal.hold-requires
unfolding StationKeeps
hold-requires c =
    let (plan, starts, loads, outside, past, before, after, st, hears, next, small) = c.requires in
    let on = controls _ _ (c.is_yielded.ensures.holds plan starts _ past st.controller) c.if-is_yielded.false in
    (plan, starts, loads, outside, past, before, after, st, on, hears-on LAG _ c.args.own c.args.self.now before _ on hears, next, small)

pub returns-then-is_yielded-clause-tick : goal.returns-then-is_yielded-clause-tick
unfolding StationKeeps
returns-then-is_yielded-clause-tick c = λ plan starts loads outside past before after st hears next.
    let off = serves _ _ (c.is_yielded.ensures.holds plan starts _ past st.controller) c.if-is_yielded.true in
    c.serve.ensures.tick plan starts loads outside past before after st off (hears-off LAG _ c.args.own c.args.self.now before _ off hears) next

pub returns-then-is_yielded-clause-hears : goal.returns-then-is_yielded-clause-hears
unfolding StationKeeps
returns-then-is_yielded-clause-hears c = λ plan starts loads outside past before after st hears next own.
    let off = serves _ _ (c.is_yielded.ensures.holds plan starts _ past st.controller) c.if-is_yielded.true in
    own-hears LAG _ c.serve.new.self after _ (or-last _ c.args.own own)
    (c.serve.ensures.hears plan starts loads outside past before after st off (hears-off LAG _ c.args.own c.args.self.now before _ off hears) next)

pub returns-then-is_yielded-clause-in_step : goal.returns-then-is_yielded-clause-in_step
unfolding StationKeeps
returns-then-is_yielded-clause-in_step c = λ plan starts loads outside past before after st hears next own.
    let off = serves _ _ (c.is_yielded.ensures.holds plan starts _ past st.controller) c.if-is_yielded.true in
    served-step LAG plan starts loads outside c.serve.new.self after (c.args.moment.now.shown ∷ past) c.args.own (own ∙ sym c.serve.ensures.alone)
    (c.serve.ensures.hears plan starts loads outside past before after st off (hears-off LAG _ c.args.own c.args.self.now before _ off hears) next)

pub returns-else-is_yielded-clause-tick : goal.returns-else-is_yielded-clause-tick
unfolding StationKeeps
returns-else-is_yielded-clause-tick c = λ plan starts loads outside past before after st hears next.
    let on = controls _ _ (c.is_yielded.ensures.holds plan starts _ past st.controller) c.if-is_yielded.false in
    c.hold.ensures.tick plan starts loads outside past before after st on (hears-on LAG _ c.args.own c.args.self.now before _ on hears) next

pub returns-else-is_yielded-clause-hears : goal.returns-else-is_yielded-clause-hears
unfolding StationKeeps
returns-else-is_yielded-clause-hears c = λ plan starts loads outside past before after st hears next own.
    let on = controls _ _ (c.is_yielded.ensures.holds plan starts _ past st.controller) c.if-is_yielded.false in
    c.hold.ensures.hears plan starts loads outside past before after st on (hears-on LAG _ c.args.own c.args.self.now before _ on hears) next

pub returns-else-is_yielded-clause-in_step : goal.returns-else-is_yielded-clause-in_step
unfolding StationKeeps
returns-else-is_yielded-clause-in_step c = λ plan starts loads outside past before after st hears next own.
    let on = controls _ _ (c.is_yielded.ensures.holds plan starts _ past st.controller) c.if-is_yielded.false in
    c.hold.ensures.in_step plan starts loads outside past before after st on (hears-on LAG _ c.args.own c.args.self.now before _ on hears) next
