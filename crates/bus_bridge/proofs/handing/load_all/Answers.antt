use Rattle.std.proofs.Common.{◌∙◌, ◌++◌, ◌∷◌, ap, sym, subst, append-nil, append_assoc, arith, length, List}
use Rattle.bus_model.specs.Memory.{TimedLoad}
use Rattle.bus_run.specs.Joined.{JoinedStands}
use Rattle.bus_bridge.specs.Ranges.{Sends}
use Rattle.bus_bridge.specs.Runs.{with_loads}
use Rattle.bus_bridge.specs.Worlds.{loads_of}
use Rattle.bus_bridge.proofs.Kept.{take-none, take-whole, found-or, each-at}
use Rattle.bus_bridge.proofs.Loaded.{pairs-more}
use Rattle.bus_bridge.proofs.handing.load_all.Goals as goal

pub loop-pairing-init : goal.loop-pairing-init
loop-pairing-init c plan loads found count shown past driven at st =
    subst (λ (ls : List TimedLoad). JoinedStands (with_loads plan ls) found count (record { shown = shown ∷ past; driven = driven }) c.args.bus.now)
    (sym (ap (λ pairs. loads ++ loads_of c.args.address pairs c.args.delivery.now) (take-none c.args.pairs.now) ∙ append-nil loads)) st

pub load_one-requires-clause-sends : goal.load_one-requires-clause-sends
load_one-requires-clause-sends c =
    each-at Sends c.args.pairs.now c.loop-pairing.pairing-index _
    (found-or c.args.pairs.now c.loop-pairing.pairing-index (record { from = 0; to = 0 }) c.loop-pairing-test.true) c.requires.send

pub load_one-requires-clause-stands : goal.load_one-requires-clause-stands
load_one-requires-clause-stands c =
    let (plan, loads, found, count, shown, past, driven, at, st) = c.requires.stands in (
      plan,
      _,
      found,
      count,
      shown,
      past,
      driven,
      c.loop-pairing.invariant plan loads found count shown past driven at st,
    )

pub loop-pairing-preserved : goal.loop-pairing-preserved
loop-pairing-preserved c plan loads found count shown past driven at st =
    let d = c.args.delivery.now in
    let n = c.loop-pairing.pairing-index in
    subst (λ (ls : List TimedLoad). JoinedStands (with_loads plan ls) found count (record { shown = shown ∷ past; driven = driven }) c.load_one.new.bus)
    (append_assoc loads _ _ ∙ ap (λ (ls : List TimedLoad). loads ++ ls)
    (sym (pairs-more c.args.address c.args.pairs.now d n _ (found-or c.args.pairs.now n (record { from = 0; to = 0 }) c.loop-pairing-test.true))))
    (c.load_one.ensures plan _ found count shown past driven at (c.loop-pairing.invariant plan loads found count shown past driven at st))

pub returns : goal.returns
returns c plan loads found count shown past driven at st =
    subst (λ pairs. JoinedStands (with_loads plan (loads ++ loads_of c.args.address pairs c.args.delivery.now)) found count
    (record { shown = shown ∷ past; driven = driven }) c.loop-pairing.bus)
    (take-whole c.args.pairs.now c.loop-pairing.pairing-index (let past = c.loop-pairing-test.false in omega (arith, past)))
    (c.loop-pairing.invariant plan loads found count shown past driven at st)
