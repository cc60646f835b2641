use Rattle.std.proofs.Common.{◌++◌, length, refl, ap, ◌∙◌}
use Rattle.bus_monitor.specs.Listings.{word_listing}
use Rattle.bus_monitor.specs.Progress.{word_lines, end_text}
use Rattle.bus_monitor.proofs.words.WordListerLister.finish.Goals as goal

pub returns : goal.returns
unfolding word_listing word_lines
returns c past s =
    (end_text (length past), refl, c.add_end.ensures ∙ ap (λ n. c.args.text.now ++ end_text n) (c.ticks.ensures past s))
