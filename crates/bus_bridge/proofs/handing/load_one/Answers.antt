use Rattle.std.proofs.Common.{◌∙◌, ◌++◌, ◌∷◌, ◌==◌, ap, sym, subst, arith, length, List, ℕ, true, false, ◌≡◌, []}
use Rattle.std.proofs.lemmas.Bool.Decides.{nat_tests}
use Rattle.bus_model.specs.Memory.{TimedLoad}
use Rattle.bus_run.specs.Joined.{JoinedStands}
use Rattle.bus_bridge.specs.Runs.{with_loads}
use Rattle.bus_bridge.proofs.Kept.{let-through, kept-out}
use Rattle.bus_bridge.proofs.handing.load_one.Goals as goal

pub load-requires-clause-stands : goal.load-requires-clause-stands
load-requires-clause-stands c =
    let (plan, loads, found, count, shown, past, driven, st) = c.requires.stands in (with_loads plan loads, found, count, shown, past, driven, st)

pub returns-then-pairing-delivery : goal.returns-then-pairing-delivery
returns-then-pairing-delivery c plan loads found count shown past driven at st =
    let same : (c.args.pairing.from == c.args.delivery.now.sub) ≡ true = (let is = c.if-pairing-delivery.true in grind (arith, nat_tests, is)) in
    subst (λ (ls : List TimedLoad). JoinedStands (with_loads plan ls) found count (record { shown = shown ∷ past; driven = driven }) c.load.new.self)
    (let-through (c.args.pairing.from == c.args.delivery.now.sub)
    (record { tick = c.args.delivery.now.tick.0; address = c.args.address; sub = c.args.pairing.to; words = c.args.delivery.now.words }) loads same)
    (subst (λ (t : ℕ). JoinedStands (with_loads plan (loads ++ record {
      tick = t;
      address = c.args.address;
      sub = c.args.pairing.to;
      words = c.args.delivery.now.words;
    } ∷ [])) found count (record { shown = shown ∷ past; driven = driven }) c.load.new.self) at
    (subst (λ (ws : List ℕ). JoinedStands (with_loads plan (loads ++ record {
      tick = length past;
      address = c.args.address;
      sub = c.args.pairing.to;
      words = ws;
    } ∷ [])) found count (record { shown = shown ∷ past; driven = driven }) c.load.new.self) c.words.ensures.value
    (c.load.ensures.stands (with_loads plan loads) found count shown past driven st)))

pub returns-else-pairing-delivery : goal.returns-else-pairing-delivery
returns-else-pairing-delivery c plan loads found count shown past driven at st =
    let other : (c.args.pairing.from == c.args.delivery.now.sub) ≡ false = (let is = c.if-pairing-delivery.false in grind (arith, nat_tests, is)) in
    subst (λ (ls : List TimedLoad). JoinedStands (with_loads plan ls) found count (record { shown = shown ∷ past; driven = driven }) c.args.bus.now)
    (kept-out (c.args.pairing.from == c.args.delivery.now.sub)
    (record { tick = c.args.delivery.now.tick.0; address = c.args.address; sub = c.args.pairing.to; words = c.args.delivery.now.words }) loads other) st
