use Rattle.std.proofs.Common.{◌≡◌, ◌≢◌, [], ◌++◌, ◌∙◌, ap, sym, refl, subst, append-nil}
use Rattle.bus_line.specs.declared.cutter.TheConstants.{LAG}
use Rattle.bus_model.specs.Starts.{starts}
use Rattle.bus_model.specs.Control.{hearing_after}
use Rattle.bus_model.specs.Message.{Present}
use Rattle.bus_model.specs.WorldLog.{present_after}
use Rattle.bus_run.specs.Terminals.{ArePut}
use Rattle.bus_run.proofs.TerminalLaws.{address-at, at-address, at-another}
use Rattle.bus_run.proofs.ends.Ends.put_at.Goals as goal

pub returns-then-index-address-clause-put : goal.returns-then-index-address-clause-put
returns-then-index-address-clause-put c plan s past found are here st put =
    let p : Present = present_after LAG plan [] [] [] past s in
    let own : c.index.result.now ≡ s.terminal.address = address-at plan c.args.self.now.addresses.items c.args.place s c.index.result.now are here
    c.requires.place c.index.ensures in
    let other : s.terminal.address ≢ c.args.address = λ same. c.if-index-address.true (own ∙ same) in
    subst (λ xs. ArePut xs c.args.self.now) (sym (ap (λ xs. found ++ xs) (at-another p c.args.address other) ∙ append-nil found)) put

pub returns-clause-put : goal.returns-clause-put
returns-clause-put c plan s past found are here st put =
    let p : Present = present_after LAG plan [] [] [] past s in
    let own : c.index.result.now ≡ s.terminal.address = address-at plan c.args.self.now.addresses.items c.args.place s c.index.result.now are here
    c.requires.place c.index.ensures in
    let same : s.terminal.address ≡ c.args.address = sym own ∙ c.if-index-address.false in
    subst (λ xs. ArePut (found ++ xs) c.put.new.self) (sym (at-address p c.args.address same))
    (c.put.ensures.put p (hearing_after LAG s (starts plan s) [] [] past) found (c.terminal.ensures.keeps s (starts plan s) [] [] past st) refl same put)
