use Rattle.std.proofs.Common.{[], ◌∷◌, ◌++◌, length, refl, subst, arith}
use Rattle.bus_line.specs.declared.cutter.TheConstants.{LAG}
use Rattle.bus_model.specs.Memory.{TimedLoad, load_block}
use Rattle.bus_model.specs.Standing.{Standing, at_rest}
use Rattle.bus_model.specs.Terminal.{standing}
use Rattle.bus_terminal.specs.Stands.{StateStands}
use Rattle.bus_terminal.specs.Shown.{common_of}
use Rattle.bus_terminal.specs.TerminalStands.{TerminalKeeps}
use Rattle.bus_terminal.proofs.Quiet.{quiet-stands}
use Rattle.bus_terminal.proofs.Shows.{state-common}
use Rattle.bus_terminal.proofs.Loading.{standing-load, common-timed, common-at-once, state-loaded}
use Rattle.bus_terminal.proofs.terminal.Terminal.load.Goals as goal

pub returns-clause-timed : goal.returns-clause-timed
unfolding TerminalKeeps
returns-clause-timed c = λ plan loads memory now past st.
    let load : TimedLoad = record { tick = length past; address = plan.address; sub = c.args.sub; words = c.args.words.now } in
    let s : Standing = standing LAG plan loads memory (now ∷ past) in
    rw (standing-load LAG plan loads load memory (now ∷ past) (omega arith), c.load.ensures)
    (state-loaded LAG plan loads (loads ++ load ∷ []) c.args.self.now.state (now ∷ past) s s.memory c.args.sub c.args.words.now st
    (common-timed LAG plan loads load (common_of c.args.self.now.state) (now ∷ past) s (state-common LAG plan loads c.args.self.now.state
    (now ∷ past) s st) refl (omega arith)))

pub returns-clause-at_once : goal.returns-clause-at_once
unfolding TerminalKeeps
returns-clause-at_once c = λ plan loads memory st.
    let stands = subst (λ (s : Standing). StateStands LAG plan loads c.args.self.now.state [] s) (quiet-stands LAG plan loads memory 0) st in
    rw (quiet-stands LAG plan loads (load_block memory c.args.sub c.args.words.now) 0, c.load.ensures)
    (state-loaded LAG plan loads loads c.args.self.now.state [] (at_rest memory)
    (load_block memory c.args.sub c.args.words.now) c.args.sub c.args.words.now stands
    (common-at-once LAG plan loads (common_of c.args.self.now.state) memory c.args.sub c.args.words.now
    (state-common LAG plan loads c.args.self.now.state [] (at_rest memory) stands)))
