use Rattle.std.proofs.Common.{◌∙◌, sym}
use Rattle.bus_run.proofs.LoadingLaws.{takes-none, takes-own}
use Rattle.bus_run.proofs.loading.load_into.Goals as goal

pub returns-then-address : goal.returns-then-address
returns-then-address c =
    takes-own c.args.address c.args.sub c.args.words.now c.args.station.now c.load.new.self (sym c.address.ensures.is ∙ c.if-address.true)
    c.load.ensures.keeps c.load.ensures.in_step

pub returns-else-address : goal.returns-else-address
returns-else-address c =
    takes-none c.args.address c.args.sub c.args.words.now c.args.station.now (λ same. c.if-address.false (c.address.ensures.is ∙ same))
    (λ s starts loads outside load past other st. c.a_load_elsewhere_changes_nothing.ensures.keeps s starts loads outside load c.args.station.now past other st)
    (λ s starts loads outside load bus past other st.
    c.a_load_elsewhere_changes_nothing.ensures.in_step s starts loads outside load c.args.station.now bus past other st)
