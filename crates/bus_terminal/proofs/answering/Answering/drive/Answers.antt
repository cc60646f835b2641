use Rattle.std.proofs.Common.{List, ap, ◌∙◌}
use Rattle.bus_line.specs.declared.cutter.TheConstants.{LAG}
use Rattle.bus_words.specs.declared.word.Word.{Word}
use Rattle.bus_model.specs.Sending.{drive_sample}
use Rattle.bus_terminal.specs.declared.state.TerminalState.TheVariants as states
use Rattle.bus_terminal.proofs.Shows.{state-drives}
use Rattle.bus_terminal.proofs.answering.Answering.drive.Goals as goal

pub returns-clause-drives : goal.returns-clause-drives
returns-clause-drives c = λ terminal loads past s st.
    c.drive_sample.ensures
    ∙ ap (λ (words : List Word). drive_sample c.args.self.now.sends.channel c.args.self.now.sends.part words c.args.self.now.sent) c.as_slice.ensures.value
    ∙ state-drives LAG terminal loads (states.Answering c.args.self.now) past s st
