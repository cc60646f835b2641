use Rattle.std.proofs.Common.{◌≡◌, ◌∙◌, ◌∷◌, ap, sym, subst, arith, length, Some}
use Rattle.std.specs.Prelude.{slice_get}
use Rattle.std.proofs.lemmas.Option.{slice_get-get_or, same_Some}
use Rattle.bus_wire.specs.WireStands.{WireStands}
use Rattle.bus_wire.specs.Passing.{ShowsAll}
use Rattle.bus_wire.specs.declared.wire.Shown.{Shown}
use Rattle.bus_wire.proofs.PassLaws.{passed-shows, only-place}
use Rattle.bus_wire.proofs.wire.Wire.show_only.Goals as goal

pub pass-requires-clause-small : goal.pass-requires-clause-small
unfolding WireStands
pass-requires-clause-small c = (let (faults, driven, st, small) = c.requires.stands in omega (arith, st.next, small))

pub returns-then-pass-clause-shows : goal.returns-then-pass-clause-shows
unfolding WireStands
returns-then-pass-clause-shows c = λ faults driven shown e st.
    let at : slice_get c.args.places.now 0 ≡ Some c.from-station.result =
    slice_get-get_or c.args.places.now 0 _ (omega (arith, c.if-places-ne1.false)) ∙ ap Some (sym c.from-station.ensures) in
    let (within, silent) = only-place c.args.places.now c.args.drives.now c.from-station.result (c.if-places-ne1.false) at
    c.requires.rising c.requires.silent in
    subst (λ (x : Shown). ShowsAll faults (c.args.drives.now ∷ driven) c.pass.new.self x) (sym c.alone.ensures ∙ same_Some c.alone.result shown e)
    (passed-shows faults driven c.args.drives.now c.args.self.now c.pass.new.self c.from-station.result c.in-On.channel c.in-On.sample c.in-On.part c.in-On.last
    st c.requires.few within (slice_get-get_or c.args.drives.now c.from-station.result _ within ∙ ap Some c.in-On.is) silent
    (rw c.if-pass.true at c.pass.ensures))
