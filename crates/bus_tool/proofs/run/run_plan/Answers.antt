use Rattle.bus_run.proofs.AcceptedLaws.{places-without}
use Rattle.bus_tool.proofs.Answering.{reports, captures}
use Rattle.bus_survey.proofs.WithoutSubsystems.{accepted-without}
use Rattle.bus_tool.proofs.run.run_plan.Goals as goal

pub capture_run-requires-clause-accepted : goal.capture_run-requires-clause-accepted
capture_run-requires-clause-accepted g c = rw c.without_subsystems.ensures (accepted-without c.args.plan c.requires.accepted)

pub capture_run-requires-clause-none : goal.capture_run-requires-clause-none
capture_run-requires-clause-none g c = rw c.without_subsystems.ensures (places-without c.args.plan)

pub returns-in-Report : goal.returns-in-Report
returns-in-Report g c = reports _ _ _ _ _ _ _ _ _ _ _ _ c.args.text c.args.plan c.in-Report.is c.report_run.ensures

pub returns-in-Capture : goal.returns-in-Capture
returns-in-Capture g c =
    captures _ _ _ _ _ _ _ _ _ _ _ _ c.args.text c.args.plan c.without_subsystems.result c.in-Capture.is c.without_subsystems.ensures
    (c.capture_run.ensures _ _ _)
