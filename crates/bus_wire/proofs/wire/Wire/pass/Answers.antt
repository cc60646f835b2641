use Rattle.std.proofs.Common.{◌≡◌, refl, sym, ◌∙◌}
use Rattle.bus_wire.proofs.wire.Wire.pass.Goals as goal

pub returns-else-not-pass : goal.returns-else-not-pass
returns-else-not-pass c = record {
  side = c.pass.new.self;
  passed = rw c.in-A.is (rw c.if-not-pass.false at c.pass.ensures);
  beside = rw c.in-A.is (sym c.may_add.ensures ∙ c.if-may_add.false);
  is = rw c.in-A.is refl;
}

pub returns-else-not-pass-2 : goal.returns-else-not-pass-2
returns-else-not-pass-2 c = record {
  side = c.pass-else-may_add-2.new.self;
  passed = rw c.in-B.is (rw c.if-not-pass-2.false at c.pass-else-may_add-2.ensures);
  beside = rw c.in-B.is (sym c.may_add-in-B.ensures ∙ c.if-may_add-2.false);
  is = rw c.in-B.is refl;
}
