use Rattle.std.proofs.Common.{refl, ap, sym, ◌∙◌, subst}
use Rattle.std.specs.Prelude.{is_none}
use Rattle.std.specs.List.{list_any}
use Rattle.bus_line.specs.declared.cutter.TheConstants.{LAG}
use Rattle.bus_rules.specs.Stands.{Adds}
use Rattle.bus_rules.proofs.AddLaws.{adds-none}
use Rattle.bus_rules.proofs.KnownLaws.{known-none, known-begun, known-ended, damaged-more}
use Rattle.bus_rules.proofs.channel_judge.ChannelJudge.judge.Goals as goal

pub hear-requires : goal.hear-requires
hear-requires c = let (past, s, here, short) = c.requires.past in (past, s.messages, here, short)

pub returns-in-Nothing-clause-adds : goal.returns-in-Nothing-clause-adds
returns-in-Nothing-clause-adds c past quiet s here busy =
    let told = c.in-Nothing.ensures.told past s.messages here in
    subst (Adds c.args.text.now c.args.text.now 0) (sym (known-none LAG c.args.channel quiet c.args.sample past told.0)) (adds-none c.args.text.now)

pub returns-in-Nothing-clause-stands : goal.returns-in-Nothing-clause-stands
returns-in-Nothing-clause-stands c past s here =
    let told = c.in-Nothing.ensures.told past s.messages here in
    record { messages = c.hear.ensures.stands past s.messages here; damaged = s.damaged ∙ ap (list_any is_none) (sym told.1) }

pub returns-in-Begun-clause-adds : goal.returns-in-Begun-clause-adds
returns-in-Begun-clause-adds c past quiet s here busy =
    let told = c.in-Begun.ensures.told past s.messages here in
    subst (Adds c.args.text.now c.add_begun.new.text c.add_begun.result)
    (known-begun LAG c.args.channel quiet c.args.now c.args.busy c.in-Begun.from c.args.sample past told.0 told.2 told.3 here (busy told.3))
    c.add_begun.ensures.adds

pub returns-in-Begun-clause-stands : goal.returns-in-Begun-clause-stands
returns-in-Begun-clause-stands c past s here =
    let told = c.in-Begun.ensures.told past s.messages here in
    record { messages = c.hear.ensures.stands past s.messages here; damaged = s.damaged ∙ ap (list_any is_none) (sym told.1) }

pub returns-in-Slot-clause-adds : goal.returns-in-Slot-clause-adds
returns-in-Slot-clause-adds c past quiet s here busy =
    let told = c.in-Slot.ensures.told past s.messages here in
    subst (Adds c.args.text.now c.args.text.now 0) (sym (known-none LAG c.args.channel quiet c.args.sample past told.0)) (adds-none c.args.text.now)

pub returns-in-Slot-clause-stands : goal.returns-in-Slot-clause-stands
returns-in-Slot-clause-stands c past s here =
    let told = c.in-Slot.ensures.told past s.messages here in
    record {
      messages = c.hear.ensures.stands past s.messages here;
      damaged = c.is_damaged-self.ensures ∙ damaged-more _ _ told.1 c.args.self.now.damaged c.in-Slot.valid s.damaged told.2 told.3;
    }

pub returns-in-Ended-clause-adds : goal.returns-in-Ended-clause-adds
returns-in-Ended-clause-adds c past quiet s here busy =
    let told = c.in-Ended.ensures.told past s.messages here in
    subst (Adds c.args.text.now c.add_ended.new.text c.add_ended.result)
    (known-ended LAG c.args.channel quiet c.args.now c.args.sample past c.in-Ended.end c.args.self.now.damaged refl told.0 told.2 s.damaged here)
    c.add_ended.ensures.adds

pub returns-in-Ended-clause-stands : goal.returns-in-Ended-clause-stands
returns-in-Ended-clause-stands c past s here =
    let told = c.in-Ended.ensures.told past s.messages here in
    record { messages = c.hear.ensures.stands past s.messages here; damaged = ap (list_any is_none) (sym told.1) }
