use Rattle.std.proofs.Common.{◌∷◌, ◌∙◌, ap, sym, arith}
use Rattle.bus_line.specs.declared.cutter.TheConstants.{LAG}
use Rattle.bus_receiver.specs.Nothing.{are_nothing}
use Rattle.bus_receiver.specs.declared.receiver.Moment.{Moment}
use Rattle.bus_run.proofs.MonitorLaws.{still-of, lists-still, lists-quiet}
use Rattle.bus_run.proofs.monitor.Monitor.hear.Goals as goal

pub list-requires : goal.list-requires
list-requires c =
    let (most_words, most_bursts, past, st, is, small, words, bursts) = c.requires in
    (most_words, most_bursts, past, lists-quiet most_words most_bursts _ c.args.self.now past st.lists, is, small, words, bursts)

pub returns-then-not-are_nothing : goal.returns-then-not-are_nothing
returns-then-not-are_nothing c most_words most_bursts past st is = record {
  lists = c.list.ensures.stands most_words most_bursts past (lists-quiet most_words most_bursts _ c.args.self.now past st.lists) is;
  quiet_is = c.list.ensures.quiet ∙ c.quiet-self.ensures ∙ ap (λ (m : Moment). m.quiet) is;
}

pub returns-else-not-are_nothing : goal.returns-else-not-are_nothing
returns-else-not-are_nothing c most_words most_bursts past st is =
    let (_, _, given, _, is-given, small, _, _) = c.requires in
    let here = ap (λ (m : Moment). m.tick.0) is in
    let there = ap (λ (m : Moment). m.tick.0) is-given in
    let none = ap are_nothing (sym c.cuts.ensures) ∙ sym c.are_nothing.ensures ∙ c.if-not-are_nothing.false in
    record {
      lists = lists-quiet most_words most_bursts _ c.args.self.now (c.args.moment.now.shown ∷ past)
          (lists-still most_words most_bursts c.args.self.now c.args.moment.now.shown past (omega (arith, here, there, small))
          (still-of LAG c.args.moment.now past is none) st.lists);
      quiet_is = c.quiet-self.ensures ∙ ap (λ (m : Moment). m.quiet) is;
    }
