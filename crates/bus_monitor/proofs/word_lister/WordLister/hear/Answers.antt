use Rattle.std.proofs.Common.{◌≡◌, ◌∷◌, ◌∙◌, sym, arith}
use Rattle.bus_base.specs.declared.samples.Channel.TheVariants.{A, B}
use Rattle.bus_line.specs.Channels.{on_channel}
use Rattle.bus_line.specs.declared.cutter.TheConstants.{LAG}
use Rattle.bus_monitor.specs.Progress.{heard_now}
use Rattle.bus_monitor.proofs.ChannelLaws.{length-on_channel}
use Rattle.bus_monitor.proofs.QuietLaws.{lister-hears}
use Rattle.bus_monitor.proofs.WordLaws.{heard-told}
use Rattle.bus_monitor.proofs.word_lister.WordLister.hear.Goals as goal

pub hear-a-requires : goal.hear-a-requires
hear-a-requires c = (on_channel A c.requires.0, c.requires.1.a, rw (length-on_channel A c.requires.0) c.requires.2)

pub hear-b-requires : goal.hear-b-requires
hear-b-requires c = (on_channel B c.requires.0, c.requires.1.b, rw (length-on_channel B c.requires.0) c.requires.2)

pub count-requires : goal.count-requires
count-requires c = omega (arith, c.requires.1.ticks, c.requires.2)

pub returns-clause-words : goal.returns-clause-words
returns-clause-words c past s =
    let a : c.word_in.result ≡ heard_now LAG A (c.args.heard ∷ past) =
    c.word_in.ensures ∙ heard-told A c.args.heard.a (on_channel A past) c.hear-a.result c.args.self.now.ticks (c.hear-a.ensures.cut (on_channel A past) s.a)
    (s.ticks ∙ sym (length-on_channel A past)) in
    let b : c.word_in-2.result ≡ heard_now LAG B (c.args.heard ∷ past) =
    c.word_in-2.ensures ∙ heard-told B c.args.heard.b (on_channel B past) c.hear-b.result c.args.self.now.ticks (c.hear-b.ensures.cut (on_channel B past) s.b)
    (s.ticks ∙ sym (length-on_channel B past)) in
    cc

pub returns-clause-stands : goal.returns-clause-stands
returns-clause-stands c past s =
    rw c.count.ensures
    (lister-hears c.args.self.now c.hear-a.new.self c.hear-b.new.self c.args.heard past s (c.hear-a.ensures.stands (on_channel A past) s.a)
    (c.hear-b.ensures.stands (on_channel B past) s.b))
