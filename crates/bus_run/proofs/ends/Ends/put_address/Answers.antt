use Rattle.std.proofs.Common.{◌≡◌, ◌<◌, ◌∙◌, length, ap, refl, subst, arith}
use Rattle.std.proofs.lemmas.List.{length-map}
use Rattle.std.proofs.lemmas.Option.{slice_get_read}
use Rattle.bus_formats.specs.Plans.{StationData}
use Rattle.bus_run.specs.Terminals.{so_far, ArePut}
use Rattle.bus_run.proofs.RowLaws.{found-at}
use Rattle.bus_run.proofs.TerminalLaws.{so-far-more, so-far-turns}
use Rattle.bus_run.proofs.ends.Ends.put_address.Goals as goal

pub put_at-requires-clause-place : goal.put_at-requires-clause-place
put_at-requires-clause-place c =
    let (plan, past, st, are) = c.requires.stand in
    let all = st.all in
    let same = ap (λ v. length v.items) c.loop-place.invariant.addresses in
    let many = ap length are ∙ length-map plan.stations (λ (s : StationData). s.terminal.address) in
    omega (arith, all, same, many, c.loop-place-test.true)

pub put_at-requires-clause-stands : goal.put_at-requires-clause-stands
put_at-requires-clause-stands c =
    let (plan, past, st, are) = c.requires.stand in
    let all = st.all in
    let within : c.loop-place.place < length plan.stations = omega (arith, all, c.loop-place-test.true) in
    let (s, found) = found-at plan.stations c.loop-place.place within in (
      plan,
      s,
      past,
      st.each c.loop-place.place s c.index-stations-place.result found
          (slice_get_read c.args.stations.now
          (length c.args.stations.now) c.loop-place.place c.index-stations-place.result refl c.loop-place-test.true c.index-stations-place.is) refl,
    )

pub put_at-requires-clause-terminal_room : goal.put_at-requires-clause-terminal_room
put_at-requires-clause-terminal_room c =
    omega (arith, c.loop-place.invariant.terminals, c.loop-place.invariant.terminal_room, c.requires.few, c.requires.terminal_room, c.loop-place-test.true)

pub put_at-requires-clause-block_room : goal.put_at-requires-clause-block_room
put_at-requires-clause-block_room c =
    omega (arith, c.loop-place.invariant.blocks, c.loop-place.invariant.block_room, c.requires.few, c.requires.block_room, c.loop-place-test.true)

pub loop-place-preserved : goal.loop-place-preserved
loop-place-preserved c = record {
  addresses = c.put_at.ensures.addresses ∙ c.loop-place.invariant.addresses;
  put = λ plan past are st put.
      let all = st.all in
      let within : c.loop-place.place < length plan.stations = omega (arith, all, c.loop-place-test.true) in
      let (s, found) = found-at plan.stations c.loop-place.place within in
      subst (λ xs. ArePut xs c.put_at.new.self) (so-far-more plan past c.args.address c.loop-place.place s found)
      (c.put_at.ensures.put plan s past (so_far plan past c.args.address c.loop-place.place) (ap (λ v. v.items) c.loop-place.invariant.addresses ∙ are) found
      (st.each c.loop-place.place s c.index-stations-place.result found
      (slice_get_read c.args.stations.now
      (length c.args.stations.now) c.loop-place.place c.index-stations-place.result refl c.loop-place-test.true c.index-stations-place.is) refl)
      (c.loop-place.invariant.put plan past are st put));
  terminals = omega (arith, c.put_at.ensures.terminals, c.loop-place.invariant.terminals);
  blocks = omega (arith, c.put_at.ensures.blocks, c.loop-place.invariant.blocks);
  terminal_room = c.put_at.ensures.terminal_room ∙ c.loop-place.invariant.terminal_room;
  block_room = c.put_at.ensures.block_room ∙ c.loop-place.invariant.block_room;
}

pub returns-clause-put : goal.returns-clause-put
returns-clause-put c plan past are st put =
    let all = st.all in
    let whole : c.loop-place.place ≡ length plan.stations = omega (arith, all) in
    subst (λ xs. ArePut xs c.loop-place.self) (so-far-turns plan past c.args.address c.loop-place.place whole) (c.loop-place.invariant.put plan past are st put)
