use Rattle.std.proofs.Common.{◌≡◌, ◌∷◌, ◌++◌, ap, sym, ◌∙◌, append_assoc, arith}
use Rattle.std.specs.Prelude.{flat_map, option_to_list}
use Rattle.std.proofs.lemmas.Grind.{flat_map-append}
use Rattle.bus_base.specs.declared.samples.Channel.TheVariants.{A, B}
use Rattle.bus_line.specs.Channels.{on_channel}
use Rattle.bus_line.specs.declared.cutter.TheConstants.{LAG}
use Rattle.bus_text.specs.Texts.{word_line}
use Rattle.bus_monitor.specs.Progress.{words_now, heard_now}
use Rattle.bus_monitor.proofs.ChannelLaws.{length-on_channel}
use Rattle.bus_monitor.proofs.LineLaws.{words-grow}
use Rattle.bus_monitor.proofs.QuietLaws.{lister-hears}
use Rattle.bus_monitor.proofs.WordLaws.{heard-told}
use Rattle.bus_monitor.proofs.words.WordListerLister.list.Goals as goal

pub hear-a-requires : goal.hear-a-requires
hear-a-requires c =
    (on_channel A c.requires.past.0, c.requires.past.1.a, rw (length-on_channel A c.requires.past.0) c.requires.past.2)

pub hear-b-requires : goal.hear-b-requires
hear-b-requires c =
    (on_channel B c.requires.past.0, c.requires.past.1.b, rw (length-on_channel B c.requires.past.0) c.requires.past.2)

pub count-requires : goal.count-requires
count-requires c = omega (arith, c.requires.past.1.ticks, c.requires.past.2)

pub returns-clause-stands : goal.returns-clause-stands
returns-clause-stands c past s =
    rw c.count.ensures
    (lister-hears c.args.self.now c.hear-a.new.self c.hear-b.new.self c.args.shown past s (c.hear-a.ensures.stands (on_channel A past) s.a)
    (c.hear-b.ensures.stands (on_channel B past) s.b))

pub returns-clause-lines : goal.returns-clause-lines
returns-clause-lines c past s =
    let shown = c.args.shown ∷ past in
    let tick = c.ticks-tick.ensures past s in
    let a = option_to_list (heard_now LAG A shown) in
    let b = option_to_list (heard_now LAG B shown) in
    let text-a : c.add_cut.new.text ≡ c.args.text.now ++ flat_map word_line a =
    c.add_cut.ensures.text ∙ ap (λ h. c.args.text.now ++ flat_map word_line (option_to_list h))
    (heard-told A c.args.shown.a (on_channel A past) c.hear-a.result c.ticks-tick.result (c.hear-a.ensures.cut (on_channel A past) s.a) (tick ∙ sym (length-on_channel A past))) in
    let text-b : c.add_cut-2.new.text ≡ c.add_cut.new.text ++ flat_map word_line b =
    c.add_cut-2.ensures.text ∙ ap (λ h. c.add_cut.new.text ++ flat_map word_line (option_to_list h))
    (heard-told B c.args.shown.b (on_channel B past) c.hear-b.result c.ticks-tick.result (c.hear-b.ensures.cut (on_channel B past) s.b) (tick ∙ sym (length-on_channel B past))) in (
      flat_map word_line (words_now LAG shown),
      words-grow LAG c.args.shown past,
      text-b ∙ ap (λ xs. xs ++ flat_map word_line b) text-a ∙ append_assoc c.args.text.now (flat_map word_line a) (flat_map word_line b)
          ∙ ap (λ xs. c.args.text.now ++ xs) (sym (flat_map-append word_line a b)),
    )
