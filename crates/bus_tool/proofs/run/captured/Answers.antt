use Rattle.std.proofs.Common.{refl, ap, ◌∙◌, inl, inr}
use Rattle.bus_tool.specs.Texts.{status_of}
use Rattle.bus_tool.proofs.run.captured.Goals as goal

pub returns-in-Ok : goal.returns-in-Ok
returns-in-Ok g c plan before told said spare st serves =
    let run = c.in-Ok.ensures.captured plan before st serves in
    record {
      later = c.write_capture.ensures.cause.later;
      answer = inl (
        record { told = refl; said = refl; spare = refl },
        inl record {
          left = c.in-Ok.left;
          has = refl;
          stands = run.wrote.0;
          status_is = c.status_of-status.ensures ∙ ap status_of (c.log.ensures.tables plan run.wrote.0);
          written = run.wrote.1;
        },
      );
    }

pub returns-in-Err : goal.returns-in-Err
returns-in-Err g c plan before told said spare st serves =
    let run = c.in-Err.ensures.captured plan before st serves in
    record {
      later = c.write_capture.ensures.cause.later;
      answer = inl (
        record { told = refl; said = refl; spare = refl },
        inr record { status_is = refl; no_bus = refl; failed = c.in-Err.ensures.cause.failed; front = run.wrote },
      );
    }
