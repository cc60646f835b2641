use Rattle.std.proofs.Common.{reverse, ap, sym, ◌∙◌}
use Rattle.std.specs.Prelude.{is_none}
use Rattle.std.specs.List.{list_any}
use Rattle.bus_planes.specs.Still.{samples_in}
use Rattle.bus_rules.proofs.NoneLaws.{told-none, told-slots, still-steady}
use Rattle.bus_rules.proofs.channel_judge.ChannelJudge.pass.Goals as goal

pub pass-requires-clause-past : goal.pass-requires-clause-past
pass-requires-clause-past c = (c.requires.past.0, c.requires.past.1.messages)

pub returns-clause-stands : goal.returns-clause-stands
returns-clause-stands c past s time = record {
  messages = c.pass.ensures.stands past s.messages time;
  damaged = s.damaged ∙ ap (list_any is_none) (sym (told-slots (reverse (samples_in c.args.heard c.args.plus c.args.ticks)) past (c.pass.ensures.tells past s.messages)));
}

pub returns-clause-none : goal.returns-clause-none
returns-clause-none c past s =
    told-none (reverse (samples_in c.args.heard c.args.plus c.args.ticks)) past (c.pass.ensures.tells past s.messages)
    (still-steady c.args.self.now.messages.cutter c.args.heard c.args.plus c.args.ticks past c.requires.some s.messages.cutter c.requires.still).stays

pub returns-clause-on : goal.returns-clause-on
returns-clause-on c past s =
    (still-steady c.args.self.now.messages.cutter c.args.heard c.args.plus c.args.ticks past c.requires.some s.messages.cutter c.requires.still).now
