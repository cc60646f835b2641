use Rattle.bus_run.proofs.ObjectLaws.{handed-of}
use Rattle.bus_run.proofs.station_row.hand_on.Goals as goal

pub returns-in-Some : goal.returns-in-Some
returns-in-Some g c =
    handed-of (λ b. (goal.Subsystem-dyn g (b.vtable, b.value)).told b.value) (λ b. (goal.Subsystem-dyn g (b.vtable, b.value)).spare b.value)
    c.args.subsystems.now.items c.deliver.new.subsystems.items c.in-Some.place c.args.object c.args.delivery c.in-Some.is c.deliver.ensures.len
    c.deliver.ensures.others c.deliver.ensures.told c.deliver.ensures.spare
