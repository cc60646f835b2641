use Rattle.bus_table.proofs.FlawLaws.{pair-flaw}
use Rattle.bus_table.proofs.flaw.+bit_flaw.Goals as goal

pub returns-in-len2-up : goal.returns-in-len2-up
returns-in-len2-up t c =
    pair-flaw c.args.time c.args.bits.now c.is_bit-bit.result c.bit_flaw-behind.result c.flaw_if.result c.in-len2-up.len_at_least
    c.is_bit-bit.ensures c.bit_flaw-behind.ensures c.flaw_if.ensures
