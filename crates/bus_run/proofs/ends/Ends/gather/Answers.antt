use Rattle.std.proofs.Common.{◌∙◌, length, map, ap, refl, arith}
use Rattle.std.specs.Prelude.{flat_map}
use Rattle.bus_model.specs.Log.{terminal_end, blocks_of}
use Rattle.bus_run.proofs.TerminalLaws.{so-far-all}
use Rattle.bus_run.proofs.ends.Ends.gather.Goals as goal

pub loop-address-init : goal.loop-address-init
loop-address-init c = record {
  addresses = refl;
  put = λ plan past ends st. record { terminals = ends.no_terminal; blocks = ends.no_block };
  terminals = omega arith;
  blocks = omega arith;
  terminal_room = refl;
  block_room = refl;
}

pub put_address-requires-clause-few : goal.put_address-requires-clause-few
put_address-requires-clause-few c =
    let (plan, past, ends, st) = c.requires in
    let all = st.all in
    let few = ends.few in
    omega (arith, all, few)

pub put_address-requires-clause-stand : goal.put_address-requires-clause-stand
put_address-requires-clause-stand c =
    let (plan, past, ends, st) = c.requires in
    (plan, past, st, ap (λ v. v.items) c.loop-address.invariant.addresses ∙ ends.addresses_are)

pub put_address-requires-clause-terminal_room : goal.put_address-requires-clause-terminal_room
put_address-requires-clause-terminal_room c =
    let (plan, past, ends, st) = c.requires in
    let none = ap length ends.no_terminal in
    let room = ends.terminal_room in
    omega (arith, none, room, c.loop-address.invariant.terminals, c.loop-address.invariant.terminal_room, c.loop-address-test.true)

pub put_address-requires-clause-block_room : goal.put_address-requires-clause-block_room
put_address-requires-clause-block_room c =
    let (plan, past, ends, st) = c.requires in
    let none = ap length ends.no_block in
    let room = ends.block_room in
    omega (arith, none, room, c.loop-address.invariant.blocks, c.loop-address.invariant.block_room, c.loop-address-test.true)

pub loop-address-preserved : goal.loop-address-preserved
loop-address-preserved c = record {
  addresses = c.put_address.ensures.addresses ∙ c.loop-address.invariant.addresses;
  put = λ plan past ends st.
      c.put_address.ensures.put plan past (ap (λ v. v.items) c.loop-address.invariant.addresses ∙ ends.addresses_are) st
      (c.loop-address.invariant.put plan past ends st);
  terminals = omega (arith, c.put_address.ensures.terminals, c.loop-address.invariant.terminals);
  blocks = omega (arith, c.put_address.ensures.blocks, c.loop-address.invariant.blocks);
  terminal_room = c.put_address.ensures.terminal_room ∙ c.loop-address.invariant.terminal_room;
  block_room = c.put_address.ensures.block_room ∙ c.loop-address.invariant.block_room;
}

pub returns-clause-terminals : goal.returns-clause-terminals
returns-clause-terminals c plan past ends st =
    (c.loop-address.invariant.put plan past ends st).terminals ∙ ap (map terminal_end) (so-far-all plan past c.loop-address.address (omega arith))

pub returns-clause-block_ends : goal.returns-clause-block_ends
returns-clause-block_ends c plan past ends st =
    (c.loop-address.invariant.put plan past ends st).blocks ∙ ap (flat_map blocks_of) (so-far-all plan past c.loop-address.address (omega arith))
