use Rattle.std.proofs.Common.{◌≡◌, ◌<◌, ◌∙◌, length, sym, true, false, arith, refl}
use Rattle.std.proofs.lemmas.Option.{slice_get_read}
use Rattle.bus_line.specs.declared.cutter.TheConstants.{LAG}
use Rattle.bus_model.specs.World.{is_done}
use Rattle.bus_run.proofs.RowLaws.{found-at, present-at}
use Rattle.bus_run.proofs.DoneLaws.{all-next, all-ends, all-asked}
use Rattle.bus_run.proofs.station_row.are_done.Goals as goal

pub returns-then-not-is_done_or_absent : goal.returns-then-not-is_done_or_absent
returns-then-not-is_done_or_absent c w past st present =
    let all = st.all in
    let within : c.loop-place.place < length w.plan.stations = omega (arith, all) in
    let (s, found) = found-at w.plan.stations c.loop-place.place within in
    let at = slice_get_read c.args.stations.now
    (length c.args.stations.now) c.loop-place.place c.index-stations-place.result refl c.loop-place-test.true c.index-stations-place.is in
    let is : is_done LAG w.plan w.loads w.outside w.absent past s ≡ false =
    sym (c.is_done_or_absent.ensures w s past (present-at w c.args.present.now c.loop-place.place s present found) (λ so. st.each c.loop-place.place s c.index-stations-place.result found at so)) ∙ c.if-not-is_done_or_absent.true in
    sym (c.loop-place.invariant w past st present ∙ all-ends (is_done LAG w.plan w.loads w.outside w.absent past) w.plan.stations c.loop-place.place s found is)

pub loop-place-preserved : goal.loop-place-preserved
loop-place-preserved c w past st present =
    let all = st.all in
    let within : c.loop-place.place < length w.plan.stations = omega (arith, all) in
    let (s, found) = found-at w.plan.stations c.loop-place.place within in
    let at = slice_get_read c.args.stations.now
    (length c.args.stations.now) c.loop-place.place c.index-stations-place.result refl c.loop-place-test.true c.index-stations-place.is in
    let is : is_done LAG w.plan w.loads w.outside w.absent past s ≡ true =
    sym (c.is_done_or_absent.ensures w s past (present-at w c.args.present.now c.loop-place.place s present found) (λ so. st.each c.loop-place.place s c.index-stations-place.result found at so)) ∙ c.if-not-is_done_or_absent.false in
    c.loop-place.invariant w past st present ∙ all-next (is_done LAG w.plan w.loads w.outside w.absent past) w.plan.stations c.loop-place.place s found is

pub returns : goal.returns
returns c w past st present =
    let all = st.all in
    let last : c.loop-place.place ≡ length w.plan.stations = omega (arith, all) in
    sym (c.loop-place.invariant w past st present ∙ all-asked (is_done LAG w.plan w.loads w.outside w.absent past) w.plan.stations c.loop-place.place last)
