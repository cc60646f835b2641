use Rattle.std.proofs.Common.{◌≡◌, ◌∷◌, ◌++◌, ◌∙◌, length, sym, ap}
use Rattle.std.specs.Prelude.{option_to_list}
use Rattle.bus_base.specs.declared.samples.Channel.TheVariants.{A, B}
use Rattle.bus_base.specs.declared.samples.Tick.{Tick}
use Rattle.bus_line.specs.Channels.{on_channel}
use Rattle.bus_line.specs.declared.cutter.TheConstants.{LAG}
use Rattle.bus_receiver.specs.declared.receiver.Moment.{Moment}
use Rattle.bus_monitor.specs.Progress.{heard_now}
use Rattle.bus_monitor.proofs.ChannelLaws.{length-on_channel}
use Rattle.bus_monitor.proofs.WordLaws.{heard-told}
use Rattle.bus_run.proofs.monitor.Monitor.list_words.Goals as goal

pub returns-clause-words : goal.returns-clause-words
returns-clause-words c past is =
    let x = c.args.moment.now.shown in
    let here : c.tick-tick.result.0 ≡ length past = ap (λ (t : Tick). t.0) (c.tick-tick.ensures ∙ ap (λ (m : Moment). m.tick) is) in
    let a : c.word_in.result ≡ heard_now LAG A (x ∷ past) =
    c.word_in.ensures ∙ heard-told A x.a (on_channel A past) c.cut.result c.tick-tick.result.0 (c.cut.ensures ∙ ap (λ (m : Moment). m.cuts.a) is)
    (here ∙ sym (length-on_channel A past)) in
    let b : c.word_in-2.result ≡ heard_now LAG B (x ∷ past) =
    c.word_in-2.ensures ∙ heard-told B x.b (on_channel B past) c.cut-2.result c.tick-tick.result.0 (c.cut-2.ensures ∙ ap (λ (m : Moment). m.cuts.b) is)
    (here ∙ sym (length-on_channel B past)) in
    c.push_found-2.ensures.items ∙ ap (λ xs. xs ++ option_to_list c.word_in-2.result) c.push_found.ensures.items
    ∙ ap (λ o. (c.args.self.now.words.items ++ option_to_list o) ++ option_to_list c.word_in-2.result) a
    ∙ ap (λ o. (c.args.self.now.words.items ++ option_to_list (heard_now LAG A (x ∷ past))) ++ option_to_list o) b
