use Rattle.std.proofs.Common.{false, [], refl}
use Rattle.std.specs.Prelude.{None}
use Rattle.bus_base.specs.declared.samples.Channel.TheVariants.{A}
use Rattle.bus_formats.specs.Plans.{StationData}
use Rattle.bus_controller.proofs.tests.asking.Goals as goal

-- a station that is a controller alone
pub returns : goal.returns
returns c =
    let station : StationData = record {
      terminal = record {
        address = 31;
        delay = 8;
        busy = false;
        service = false;
        subsystem_flag = false;
        terminal_flag = false;
        accepts = false;
        vector = 0;
        bit = 0;
        no_receive = 0;
        no_transmit = 0;
        no_mode = 0;
        subsystem = None;
        loads = [];
      };
      channel = A;
      frames = c.in_ok-frames.frames.items;
      repeat = 1;
    } in
    (station, c.starting.ensures station (c.new-2.ensures.whole station refl refl refl))
