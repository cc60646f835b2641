use Rattle.std.proofs.Common.{◌∷◌, ◌++◌, ◌∙◌, length, Bool, ap, sym, arith, refl, subst, append-nil, Some}
use Rattle.std.specs.Prelude.{is_some}
use Rattle.std.proofs.lemmas.Option.{slice_get_read, same_Some}
use Rattle.std.proofs.lemmas.List.{length-map}
use Rattle.bus_model.specs.Starts.{starts}
use Rattle.bus_model.specs.World.{is_present}
use Rattle.bus_station.specs.Noticed.{noticed}
use Rattle.bus_station.specs.Told.{attempts_told, delivery_told}
use Rattle.bus_run.specs.Data.{IsForData}
use Rattle.bus_run.specs.Deliveries.{delivered_in}
use Rattle.bus_run.proofs.DataLaws.{for-data}
use Rattle.bus_run.proofs.RowLaws.{there-of, here-of, hears-more, absent-more, absent-delivers, present-delivers, present-ends, keeps-address, taken-list}
use Rattle.bus_run.proofs.ServedLaws.{get-map}
use Rattle.bus_run.proofs.ObjectLaws.{objects-same, objects-out, object-within, room-left}
use Rattle.bus_run.proofs.station_row.StationRow.hear_at.Goals as goal

-- ---- the station is absent

pub returns-then-not-index-clause-stands : goal.returns-then-not-index-clause-stands
returns-then-not-index-clause-stands g c w found past bus hears next =
    let there = there-of w found c.args.place bus c.args.moment.now.shown past c.args.self.now c.index.result.now c.requires.place c.index.ensures hears in
    absent-more w found c.args.place bus c.args.moment.now.shown past c.args.self.now there.own hears there.at (there.present ∙ c.if-not-index.true)

pub returns-then-not-index-clause-took : goal.returns-then-not-index-clause-took
returns-then-not-index-clause-took g c w found past bus s hears next at =
    let there = there-of w found c.args.place bus c.args.moment.now.shown past c.args.self.now c.index.result.now c.requires.place c.index.ensures hears in
    let same = same_Some there.own s (sym there.at ∙ at) in
    ap is_some (sym (absent-delivers w (c.args.moment.now.shown ∷ past) s (ap (λ d. is_present w.absent d) (sym same) ∙ there.present ∙ c.if-not-index.true)))

pub returns-then-not-index-clause-objects_hear : goal.returns-then-not-index-clause-objects_hear
returns-then-not-index-clause-objects_hear g c w found past before bus hears next objects =
    let there = there-of w found c.args.place bus c.args.moment.now.shown past c.args.self.now c.index.result.now c.requires.place c.index.ensures hears in
    objects-same w c.args.self.now.objects.items before c.args.place c.args.moment.now.shown past _ _ there.own there.at
    (absent-delivers w (c.args.moment.now.shown ∷ past) there.own (there.present ∙ c.if-not-index.true)) objects

-- ---- nothing is noticed

pub learn-requires : goal.learn-requires
learn-requires g c =
    let (w, found, past, before, bus, hears, objects, next, small, few) = c.requires.stands in
    let here = here-of w found c.args.place bus c.args.moment.now.shown past c.args.self.now c.index_mut-station.result.now c.index.result.now c.requires.place c.index_mut-station.ensures.value c.index.ensures c.if-not-index.false hears in
    (here.own, starts w.plan here.own, w.loads, w.outside, past, bus, _, here.stands, here.in_step, next, omega (arith, small))

pub returns-then-not-learn-clause-stands : goal.returns-then-not-learn-clause-stands
returns-then-not-learn-clause-stands g c w found past bus hears next =
    let here = here-of w found c.args.place bus c.args.moment.now.shown past c.args.self.now c.index_mut-station.result.now c.index.result.now c.requires.place c.index_mut-station.ensures.value c.index.ensures c.if-not-index.false hears in
    let heard = c.learn.ensures.notices here.own (starts w.plan here.own) w.loads w.outside past bus _ here.stands here.in_step next in
    let none = ap (λ (b : Bool). attempts_told (noticed b c.learn.new.self.event)) c.if-not-learn.true in
    let nothing = ap (λ (b : Bool). delivery_told (noticed b c.learn.new.self.event)) c.if-not-learn.true in
    hears-more w found c.args.place bus c.args.moment.now.shown past c.args.self.now _ here.own c.learn.new.self c.requires.place hears here.at
    (λ present. (heard.stands, c.learn.ensures.hears here.own (starts w.plan here.own) w.loads w.outside past bus _ here.stands here.in_step next)) refl refl
    (sym (append-nil c.args.self.now.attempts.items) ∙ ap (λ xs. c.args.self.now.attempts.items ++ xs)
    (sym none ∙ heard.ended ∙ sym (present-ends w (c.args.moment.now.shown ∷ past) here.own here.present)))
    (sym (append-nil c.args.self.now.taken.items) ∙ ap (λ o. c.args.self.now.taken.items ++ taken-list here.own.terminal.address o)
    (sym nothing ∙ heard.took ∙ sym (present-delivers w (c.args.moment.now.shown ∷ past) here.own here.present))) refl refl

pub returns-then-not-learn-clause-took : goal.returns-then-not-learn-clause-took
returns-then-not-learn-clause-took g c w found past bus s hears next at =
    let here = here-of w found c.args.place bus c.args.moment.now.shown past c.args.self.now c.index_mut-station.result.now c.index.result.now c.requires.place c.index_mut-station.ensures.value c.index.ensures c.if-not-index.false hears in
    let heard = c.learn.ensures.notices here.own (starts w.plan here.own) w.loads w.outside past bus _ here.stands here.in_step next in
    let same = same_Some here.own s (sym here.at ∙ at) in
    ap is_some (sym (ap (λ (b : Bool). delivery_told (noticed b c.learn.new.self.event)) c.if-not-learn.true) ∙ heard.took
    ∙ sym (present-delivers w (c.args.moment.now.shown ∷ past) here.own here.present)
    ∙ ap (λ d. delivered_in w (c.args.moment.now.shown ∷ past) d) same)

pub returns-then-not-learn-clause-objects_hear : goal.returns-then-not-learn-clause-objects_hear
returns-then-not-learn-clause-objects_hear g c w found past before bus hears next objects =
    let here = here-of w found c.args.place bus c.args.moment.now.shown past c.args.self.now c.index_mut-station.result.now c.index.result.now c.requires.place c.index_mut-station.ensures.value c.index.ensures c.if-not-index.false hears in
    let heard = c.learn.ensures.notices here.own (starts w.plan here.own) w.loads w.outside past bus _ here.stands here.in_step next in
    objects-same w c.args.self.now.objects.items before c.args.place c.args.moment.now.shown past _ _ here.own here.at
    (present-delivers w (c.args.moment.now.shown ∷ past) here.own here.present
    ∙ sym heard.took ∙ ap (λ (b : Bool). delivery_told (noticed b c.learn.new.self.event)) c.if-not-learn.true) objects

-- ---- something is noticed

pub hand_out-requires-clause-data : goal.hand_out-requires-clause-data
hand_out-requires-clause-data g c =
    let (w, found, past, before, bus, hears, objects, next, small, few) = c.requires.stands in
    let here = here-of w found c.args.place bus c.args.moment.now.shown past c.args.self.now c.index_mut-station.result.now c.index.result.now c.requires.place c.index_mut-station.ensures.value c.index.ensures c.if-not-index.false hears in
    let heard = c.learn.ensures.notices here.own (starts w.plan here.own) w.loads w.outside past bus _ here.stands here.in_step next in
    subst IsForData (sym (sym (ap (λ (b : Bool). delivery_told (noticed b c.learn.new.self.event)) c.if-not-learn.false) ∙ heard.took))
    (for-data here.own (starts w.plan here.own) w.loads w.outside (c.args.moment.now.shown ∷ past))

pub hand_out-requires-clause-place : goal.hand_out-requires-clause-place
hand_out-requires-clause-place g c d p told is =
    let (w, found, past, before, bus, hears, objects, next, small, few) = c.requires.stands in
    let here = here-of w found c.args.place bus c.args.moment.now.shown past c.args.self.now c.index_mut-station.result.now c.index.result.now c.requires.place c.index_mut-station.ensures.value c.index.ensures c.if-not-index.false hears in
    let within = object-within w c.args.self.now.objects.items before c.args.place c.args.moment.now.shown past _ _ here.own p hears.objects objects here.at
    (slice_get_read c.args.self.now.objects.items (length c.args.self.now.objects.items) c.args.place c.index-2.result.now refl
    (let all = hears.objects.all in let same = hears.all in omega (arith, all, same, c.requires.place)) c.index-2.ensures ∙ ap Some is) in
    let all = length-map c.args.subsystems.now.items (λ b. (goal.Subsystem-dyn g (b.vtable, b.value)).told b.value) in
    omega (arith, within, all)

pub hand_out-requires-clause-space : goal.hand_out-requires-clause-space
hand_out-requires-clause-space g c d p b told is at =
    let (w, found, past, before, bus, hears, objects, next, small, few) = c.requires.stands in
    let here = here-of w found c.args.place bus c.args.moment.now.shown past c.args.self.now c.index_mut-station.result.now c.index.result.now c.requires.place c.index_mut-station.ensures.value c.index.ensures c.if-not-index.false hears in
    room-left w c.args.self.now.objects.items before c.args.place c.args.moment.now.shown past _ _ here.own p _ hears.objects objects here.at
    (slice_get_read c.args.self.now.objects.items (length c.args.self.now.objects.items) c.args.place c.index-2.result.now refl
    (let all = hears.objects.all in let same = hears.all in omega (arith, all, same, c.requires.place)) c.index-2.ensures ∙ ap Some is)
    few (get-map (λ b. (goal.Subsystem-dyn g (b.vtable, b.value)).spare b.value) c.args.subsystems.now.items p b at)

pub returns-clause-stands : goal.returns-clause-stands
returns-clause-stands g c w found past bus hears next =
    let here = here-of w found c.args.place bus c.args.moment.now.shown past c.args.self.now c.index_mut-station.result.now c.index.result.now c.requires.place c.index_mut-station.ensures.value c.index.ensures c.if-not-index.false hears in
    let heard = c.learn.ensures.notices here.own (starts w.plan here.own) w.loads w.outside past bus _ here.stands here.in_step next in
    let event = ap (λ (b : Bool). attempts_told (noticed b c.learn.new.self.event)) c.if-not-learn.false in
    let block = ap (λ (b : Bool). delivery_told (noticed b c.learn.new.self.event)) c.if-not-learn.false in
    let address = keeps-address here.own (starts w.plan here.own) w.loads w.outside c.learn.new.self (c.args.moment.now.shown ∷ past) heard.stands in
    hears-more w found c.args.place bus c.args.moment.now.shown past c.args.self.now _ here.own c.hand_out.new.station c.requires.place hears here.at
    (λ present. (
      c.hand_out.ensures.stands here.own (starts w.plan here.own) w.loads w.outside (c.args.moment.now.shown ∷ past) heard.stands,
      c.hand_out.ensures.in_step here.own (starts w.plan here.own) w.loads w.outside _ (c.args.moment.now.shown ∷ past) (c.learn.ensures.hears here.own (starts w.plan here.own) w.loads w.outside past bus _ here.stands here.in_step next),
    )) refl refl
    (c.hand_out.ensures.attempts ∙ ap (λ xs. c.args.self.now.attempts.items ++ xs)
    (sym event ∙ heard.ended ∙ sym (present-ends w (c.args.moment.now.shown ∷ past) here.own here.present)))
    (c.hand_out.ensures.taken ∙ ap (λ a. c.args.self.now.taken.items ++ taken-list a (delivery_told c.learn.new.self.event)) address
    ∙ ap (λ o. c.args.self.now.taken.items ++ taken-list here.own.terminal.address o)
    (sym block ∙ heard.took ∙ sym (present-delivers w (c.args.moment.now.shown ∷ past) here.own here.present))) refl refl

pub returns-clause-took : goal.returns-clause-took
returns-clause-took g c w found past bus s hears next at =
    let here = here-of w found c.args.place bus c.args.moment.now.shown past c.args.self.now c.index_mut-station.result.now c.index.result.now c.requires.place c.index_mut-station.ensures.value c.index.ensures c.if-not-index.false hears in
    let heard = c.learn.ensures.notices here.own (starts w.plan here.own) w.loads w.outside past bus _ here.stands here.in_step next in
    let same = same_Some here.own s (sym here.at ∙ at) in
    c.hand_out.ensures.took ∙ ap is_some (sym (ap (λ (b : Bool). delivery_told (noticed b c.learn.new.self.event)) c.if-not-learn.false) ∙ heard.took
    ∙ sym (present-delivers w (c.args.moment.now.shown ∷ past) here.own here.present)
    ∙ ap (λ d. delivered_in w (c.args.moment.now.shown ∷ past) d) same)

pub returns-clause-objects_hear : goal.returns-clause-objects_hear
returns-clause-objects_hear g c w found past before bus hears next objects =
    let here = here-of w found c.args.place bus c.args.moment.now.shown past c.args.self.now c.index_mut-station.result.now c.index.result.now c.requires.place c.index_mut-station.ensures.value c.index.ensures c.if-not-index.false hears in
    let heard = c.learn.ensures.notices here.own (starts w.plan here.own) w.loads w.outside past bus _ here.stands here.in_step next in
    objects-out w c.args.self.now.objects.items before c.args.place c.args.moment.now.shown past _ _ _ _ here.own c.index-2.result.now
    (delivery_told c.learn.new.self.event) hears.objects here.at
    (slice_get_read c.args.self.now.objects.items (length c.args.self.now.objects.items) c.args.place c.index-2.result.now refl
    (let all = hears.objects.all in let same = hears.all in omega (arith, all, same, c.requires.place)) c.index-2.ensures)
    (present-delivers w (c.args.moment.now.shown ∷ past) here.own here.present
    ∙ sym heard.took ∙ ap (λ (b : Bool). delivery_told (noticed b c.learn.new.self.event)) c.if-not-learn.false) c.hand_out.ensures.objects objects
