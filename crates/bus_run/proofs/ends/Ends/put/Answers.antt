use Rattle.std.proofs.Common.{[], ◌∙◌, ap, sym, refl, false}
use Rattle.bus_model.specs.Memory.{Memory, status_of}
use Rattle.bus_buffers.specs.Blocks.{Blocks}
use Rattle.bus_run.proofs.TerminalLaws.{put-one, end-same}
use Rattle.bus_run.proofs.ends.Ends.put.Goals as goal

pub returns-clause-put : goal.returns-clause-put
returns-clause-put c p hearing found stands memory at put =
    put-one found p c.args.self.now _ _ c.args.address c.buffers.result.now put at
    (ap (λ (b : Blocks). b.received) (c.buffers.ensures p.plan.terminal [] hearing stands) ∙ ap (λ (m : Memory). m.received) (sym memory))
    (end-same p c.args.address record { address = c.args.address; registers = c.registers.result.now; status = c.status.result } at refl
    (c.registers.ensures p.plan.terminal [] hearing stands ∙ ap (λ (m : Memory). m.registers) (sym memory))
    (c.status.ensures p.plan.terminal [] hearing stands ∙ ap (λ (m : Memory). status_of p.plan.terminal m.registers false) (sym memory)))
    c.push_reserved.ensures.items c.put_blocks.ensures.items
