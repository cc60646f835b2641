use Rattle.std.proofs.Common.{ap, ◌∙◌}
use Rattle.bus_phase.specs.Phases.{PhaseData}
use Rattle.bus_lines.specs.Converting.{with_end}
use Rattle.bus_lines.specs.declared.converter.Converter.{Converter}
use Rattle.bus_lines.proofs.converter.Converter.show_end.Goals as goal

abbrev with_phase : Converter → PhaseData → Converter
with_phase c p = record c { phase = p }

pub returns : goal.returns
returns c =
    ap (λ (p : PhaseData). with_phase c.show.new.self p) c.end.ensures
    ∙ ap (λ (x : Converter). with_end c.args.closing.end x) c.show.ensures
