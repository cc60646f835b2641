use Rattle.bus_controller.proofs.controller.Controller.receive.Goals as goal

pub hear-requires : goal.hear-requires
hear-requires c = c.requires
