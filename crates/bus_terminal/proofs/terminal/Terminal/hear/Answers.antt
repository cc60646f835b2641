use Rattle.std.proofs.Common.{◌∷◌, sym, subst, arith}
use Rattle.bus_base.specs.declared.samples.Channel.TheVariants.{A, B}
use Rattle.bus_line.specs.declared.cutter.TheConstants.{LAG}
use Rattle.bus_model.specs.Hearing.{heard_on}
use Rattle.bus_receiver.specs.Cuts.{CuttersStand}
use Rattle.bus_receiver.specs.declared.cutters.Cutters.{Cutters}
use Rattle.bus_terminal.specs.TerminalStands.{TerminalStands}
use Rattle.bus_terminal.proofs.Resting.{keeps-alike}
use Rattle.bus_terminal.proofs.terminal.Terminal.hear.Goals as goal

pub cut-cuts-requires : goal.cut-cuts-requires
unfolding TerminalStands
cut-cuts-requires c =
    let (plan, loads, hearing, st, here, small) = c.requires in
    (hearing.ticks, st.1, omega (arith, here, small))

pub learn-requires : goal.learn-requires
unfolding TerminalStands
learn-requires c =
    let (plan, loads, hearing, st, here, small) = c.requires in (
      plan,
      loads,
      hearing,
      keeps-alike LAG plan loads c.args.self.now c.cut-cuts.new.self hearing c.cut-cuts.ensures.state st.0,
      c.cut-cuts.ensures.hears.tells (heard_on A hearing.ticks) (heard_on B hearing.ticks) st.1,
      here,
      small,
    )

pub returns-clause-stands : goal.returns-clause-stands
unfolding TerminalStands
returns-clause-stands c = λ plan loads hearing st here. (
  c.learn.ensures.stands plan loads hearing (keeps-alike LAG plan loads c.args.self.now c.cut-cuts.new.self hearing c.cut-cuts.ensures.state st.0)
      (c.cut-cuts.ensures.hears.tells (heard_on A hearing.ticks) (heard_on B hearing.ticks) st.1) here,
  subst (λ (cutters : Cutters). CuttersStand LAG cutters (c.args.heard.a ∷ heard_on A hearing.ticks) (c.args.heard.b ∷ heard_on B hearing.ticks))
      (sym c.learn.ensures.cutters) (c.cut-cuts.ensures.hears.stands (heard_on A hearing.ticks) (heard_on B hearing.ticks) st.1),
)

pub returns-clause-took : goal.returns-clause-took
unfolding TerminalStands
returns-clause-took c = λ plan loads hearing st here.
    c.learn.ensures.took plan loads hearing (keeps-alike LAG plan loads c.args.self.now c.cut-cuts.new.self hearing c.cut-cuts.ensures.state st.0)
    (c.cut-cuts.ensures.hears.tells (heard_on A hearing.ticks) (heard_on B hearing.ticks) st.1) here

pub returns-clause-accepted : goal.returns-clause-accepted
unfolding TerminalStands
returns-clause-accepted c = λ plan loads hearing st here.
    c.learn.ensures.accepted plan loads hearing (keeps-alike LAG plan loads c.args.self.now c.cut-cuts.new.self hearing c.cut-cuts.ensures.state st.0)
    (c.cut-cuts.ensures.hears.tells (heard_on A hearing.ticks) (heard_on B hearing.ticks) st.1) here
