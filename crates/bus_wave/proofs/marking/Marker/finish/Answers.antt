use Rattle.std.proofs.Common.{◌+◌, ◌<◌, ◌^◌, ℕ, List, length, subst, arith}
use Rattle.bus_wave.specs.Delays.{Marked}
use Rattle.bus_wave.specs.Told.{Told, told_running_to, told_open}
use Rattle.bus_monitor.specs.Awaited.{open_of}
use Rattle.bus_wave.proofs.DelayLaws.{marked-then}
use Rattle.bus_wave.proofs.MarkLaws.{last-told}
use Rattle.bus_wave.proofs.marking.Marker.finish.Goals as goal

pub returns : goal.returns
returns c past s here =
    let l = c.args.self.now.lister in
    let stop : ℕ = c.stop-stop.result in
    let short : length past < 2 ^ 60 = omega (arith, here, c.requires) in
    subst (λ (told : List Told). Marked c.args.line.now c.mark_open.new.line (c.args.ticks + 1) c.args.channel told)
    (last-told l past stop s (λ ran. c.stop-stop.ensures past s short ran))
    (marked-then c.args.line.now c.mark_running.new.line c.mark_open.new.line (c.args.ticks + 1) c.args.channel (told_running_to l.running stop)
    (told_open stop l.running l.waiting (open_of l.running l.waiting)) c.mark_running.ensures c.mark_open.ensures)
