use Rattle.std.proofs.Common.{◌≡◌, ◌∙◌, length, ap, sym, not, ◌&&◌, true, false}
use Rattle.std.specs.Prelude.{is_none}
use Rattle.bus_line.specs.declared.cutter.TheConstants.{LAG}
use Rattle.bus_model.specs.Control.{is_idle, holds_control, takes_control, course_after, taking_from}
use Rattle.bus_run.proofs.DoneLaws.{none-taking}
use Rattle.bus_run.proofs.station_row.is_done.Goals as goal

pub returns-then-is_idle : goal.returns-then-is_idle
returns-then-is_idle c s starts loads outside past st =
    let idle : is_idle LAG s starts loads outside past ≡ true = sym (c.is_idle.ensures s starts loads outside past st) ∙ c.if-is_idle.true in
    ap not c.is_taking.ensures
    ∙ none-taking true c.role.result (holds_control LAG s starts loads outside past) (taking_from (length past) (course_after LAG s
    starts loads outside past).opening)
    (c.role.ensures s starts loads outside past st)
    ∙ ap (λ b. b && is_none (takes_control LAG s starts loads outside past)) (sym idle)

pub returns-else-is_idle : goal.returns-else-is_idle
returns-else-is_idle c s starts loads outside past st =
    let idle : is_idle LAG s starts loads outside past ≡ false = sym (c.is_idle.ensures s starts loads outside past st) ∙ c.if-is_idle.false in
    c.if-is_idle.false ∙ ap (λ b. b && is_none (takes_control LAG s starts loads outside past)) (sym idle)
