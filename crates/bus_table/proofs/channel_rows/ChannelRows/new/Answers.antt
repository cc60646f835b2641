use Rattle.std.proofs.Common.{refl}
use Rattle.bus_table.specs.Exchanges.{exchange}
use Rattle.bus_table.proofs.channel_rows.ChannelRows.new.Goals as goal

pub returns : goal.returns
unfolding exchange
returns c ch = record {
  lister = c.new.ensures;
  told = record { gap = λ on. absurd (cc); bad = λ on. absurd (cc); ended = λ _. refl; facts = c.new-2.ensures };
}
