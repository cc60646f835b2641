use Rattle.std.proofs.Common.{subst}
use Rattle.bus_line.specs.declared.cutter.TheConstants.{LAG}
use Rattle.bus_terminal.specs.Hearing.{StateHeard}
use Rattle.bus_terminal.specs.declared.state.TerminalState.{TerminalState}
use Rattle.bus_terminal.proofs.state.TerminalState.next.Goals as goal

pub next-requires : goal.next-requires
next-requires c =
    let (terminal, loads, past, moment, s, heard, here, small) = c.requires in
    let (before, h) = subst (λ (t : TerminalState). StateHeard LAG terminal loads t c.args.both past moment s) c.in-Listening.is heard in
    (terminal, loads, before, past, moment, s, h, here, small)

pub next-requires-in-Promised : goal.next-requires-in-Promised
next-requires-in-Promised c =
    let (terminal, loads, past, moment, s, heard, here, small) = c.requires in
    let (before, h) = subst (λ (t : TerminalState). StateHeard LAG terminal loads t c.args.both past moment s) c.in-Promised.is heard in
    (terminal, loads, before, past, moment, s, h, here, small)

pub next-requires-in-Owing : goal.next-requires-in-Owing
next-requires-in-Owing c =
    let (terminal, loads, past, moment, s, heard, here, small) = c.requires in
    let (before, h) = subst (λ (t : TerminalState). StateHeard LAG terminal loads t c.args.both past moment s) c.in-Owing.is heard in
    (terminal, loads, before, past, moment, s, h, here, small)

pub next-requires-in-Answering : goal.next-requires-in-Answering
next-requires-in-Answering c =
    let (terminal, loads, past, moment, s, heard, here, small) = c.requires in
    let (before, h) = subst (λ (t : TerminalState). StateHeard LAG terminal loads t c.args.both past moment s) c.in-Answering.is heard in
    (terminal, loads, before, past, moment, s, h, here, small)

pub returns-in-Listening : goal.returns-in-Listening
returns-in-Listening c = λ terminal loads past moment s heard here shown may.
    let (before, h) = subst (λ (t : TerminalState). StateHeard LAG terminal loads t c.args.both past moment s) c.in-Listening.is heard in
    c.next.ensures terminal loads before past moment s h here may

pub returns-in-Promised : goal.returns-in-Promised
returns-in-Promised c = λ terminal loads past moment s heard here shown may.
    let (before, h) = subst (λ (t : TerminalState). StateHeard LAG terminal loads t c.args.both past moment s) c.in-Promised.is heard in
    c.next-in-Promised.ensures terminal loads before past moment s h here may

pub returns-in-Owing : goal.returns-in-Owing
returns-in-Owing c = λ terminal loads past moment s heard here shown may.
    let (before, h) = subst (λ (t : TerminalState). StateHeard LAG terminal loads t c.args.both past moment s) c.in-Owing.is heard in
    c.next-in-Owing.ensures terminal loads before past moment s h here shown may

pub returns-in-Answering : goal.returns-in-Answering
returns-in-Answering c = λ terminal loads past moment s heard here shown may.
    let (before, h) = subst (λ (t : TerminalState). StateHeard LAG terminal loads t c.args.both past moment s) c.in-Answering.is heard in
    c.next-in-Answering.ensures terminal loads before past moment s h here may
