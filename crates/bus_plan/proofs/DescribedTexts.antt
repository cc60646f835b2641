-- A text that writes the document that describes a plan is parsed as that document: its tables are nested little, and their keys ascend.
use Rattle.std.proofs.Common.{◌≡◌, ◌≤◌, ℕ, Bool, true, List, Option, Some, None, Ok, arith, refl, codes}
use Rattle.std.specs.Str.{is_utf8}
use Rattle.toml.specs.Data.{Data, Members, no_members, members_depth}
use Rattle.toml.specs.Parse.{parse_document}
use Rattle.toml.specs.Text.{IsDocumentText}
use Rattle.toml.proofs.ReadBack.{parse_document-printed}
use Rattle.bus_base.specs.declared.samples.Channel.{Channel}
use Rattle.bus_base.specs.declared.samples.Part.{Part}
use Rattle.bus_formats.specs.Accepted.{IsAccepted}
use Rattle.bus_formats.specs.Plans.{ItemData, FrameData, StationData, PlanData}
use Rattle.bus_formats.specs.declared.fault.Hit.{Hit}
use Rattle.bus_formats.specs.declared.fault.Hit.TheVariants.{Flip, Cut, Extra, Fade}
use Rattle.bus_formats.specs.declared.plan.Kind.{Kind}
use Rattle.bus_formats.specs.declared.plan.Kind.TheVariants.{Receive, Transmit, Relay, Mode}
use Rattle.bus_formats.specs.declared.plan.Load.{Load}
use Rattle.bus_formats.specs.declared.plan.SubsystemKind.{SubsystemKind}
use Rattle.bus_formats.specs.declared.plan.SubsystemKind.TheVariants.{Recorder, Tally}
use Rattle.bus_formats.specs.declared.plan.Turn.{Turn}
use Rattle.bus_plan.specs.Described.{optional, number_if, channel_if, turn_text, subsystem_if, form_members, item_members, frame_members, load_members, station_members, fault_members, document_with}
use Rattle.bus_plan.specs.PlanOf.{plan_of_bytes}
use Rattle.bus_plan.specs.Document.{document_of}
use Rattle.bus_plan.specs.Tables.{EachMember}
use Rattle.bus_plan.proofs.DescribedPlans.{read-described}
use Rattle.bus_plan.proofs.ExactPlans.{read-exact}
use Rattle.bus_plan.proofs.DescribedPlain.{IsPlain, ArePlain, ascends, plain-members, plain-list, plain-tables, plain-number, plain-flag, plain-text, plain-numbers, plain-turn, plain-channel, plain-part, plain-number-if, plain-channel-if, plain-subsystem-if, each-optional}

plain-form : (gap : ℕ) (retry : List Turn) (kind : Kind) → EachMember (λ k d. IsPlain 1 d) (form_members gap retry kind)
plain-form gap retry (Receive to sub ws) = (
  plain-text 1 (codes "receive"),
  (
    plain-number 1 gap,
    (
      plain-list 0 turn_text (plain-turn 0) retry,
      (
        plain-number 1 sub,
        (
          plain-number 1 to,
          (
            plain-numbers 0 ws,
            tt,
          ),
        ),
      ),
    ),
  ),
)
plain-form gap retry (Transmit from sub count) = (
  plain-number 1 count,
  (
    plain-text 1 (codes "transmit"),
    (
      plain-number 1 from,
      (
        plain-number 1 gap,
        (
          plain-list 0 turn_text (plain-turn 0) retry,
          (
            plain-number 1 sub,
            tt,
          ),
        ),
      ),
    ),
  ),
)
plain-form gap retry (Relay from from_sub to to_sub count) = (
  plain-number 1 count,
  (
    plain-text 1 (codes "relay"),
    (
      plain-number 1 from,
      (
        plain-number 1 from_sub,
        (
          plain-number 1 gap,
          (
            plain-list 0 turn_text (plain-turn 0) retry,
            (
              plain-number 1 to,
              (
                plain-number 1 to_sub,
                tt,
              ),
            ),
          ),
        ),
      ),
    ),
  ),
)
plain-form gap retry (Mode to mode_sub transmit code word) = (
  plain-number 1 code,
  (
    plain-text 1 (codes "mode"),
    (
      plain-number 1 gap,
      (
        plain-number 1 mode_sub,
        (
          plain-list 0 turn_text (plain-turn 0) retry,
          (
            plain-number 1 _,
            (
              plain-number 1 to,
              each-optional 1 (codes "word") (number_if word) no_members (plain-number-if 1 word) tt,
            ),
          ),
        ),
      ),
    ),
  ),
)

-- the keys of an item ascend, whichever are there
item-ascends : (kind : Kind) (channel : Option Channel) (gap : ℕ) (retry : List Turn) (abandon : Option ℕ)
    → ascends (optional (codes "abandon") (number_if abandon) (optional (codes "channel") (channel_if channel) (form_members gap retry kind))) ≡ true
item-ascends (Receive to sub ws) None gap retry None = refl
item-ascends (Receive to sub ws) None gap retry (Some n) = refl
item-ascends (Receive to sub ws) (Some c) gap retry None = refl
item-ascends (Receive to sub ws) (Some c) gap retry (Some n) = refl
item-ascends (Transmit from sub count) None gap retry None = refl
item-ascends (Transmit from sub count) None gap retry (Some n) = refl
item-ascends (Transmit from sub count) (Some c) gap retry None = refl
item-ascends (Transmit from sub count) (Some c) gap retry (Some n) = refl
item-ascends (Relay from from_sub to to_sub count) None gap retry None = refl
item-ascends (Relay from from_sub to to_sub count) None gap retry (Some n) = refl
item-ascends (Relay from from_sub to to_sub count) (Some c) gap retry None = refl
item-ascends (Relay from from_sub to to_sub count) (Some c) gap retry (Some n) = refl
item-ascends (Mode to mode_sub transmit code None) None gap retry None = refl
item-ascends (Mode to mode_sub transmit code None) None gap retry (Some n) = refl
item-ascends (Mode to mode_sub transmit code None) (Some c) gap retry None = refl
item-ascends (Mode to mode_sub transmit code None) (Some c) gap retry (Some n) = refl
item-ascends (Mode to mode_sub transmit code (Some w)) None gap retry None = refl
item-ascends (Mode to mode_sub transmit code (Some w)) None gap retry (Some n) = refl
item-ascends (Mode to mode_sub transmit code (Some w)) (Some c) gap retry None = refl
item-ascends (Mode to mode_sub transmit code (Some w)) (Some c) gap retry (Some n) = refl

plain-item : (i : ItemData) → ArePlain 1 (item_members i)
plain-item i =
    plain-members 1 (item_members i)
    (each-optional 1 (codes "abandon") (number_if i.abandon) _ (plain-number-if 1 i.abandon)
    (each-optional 1 (codes "channel") (channel_if i.channel) _ (plain-channel-if 1 i.channel) (plain-form i.gap i.retry i.kind)))
    (item-ascends i.kind i.channel i.gap i.retry i.abandon)

plain-frame : (f : FrameData) → ArePlain 3 (frame_members f)
plain-frame f = plain-members 3 (frame_members f) (plain-tables 1 item_members plain-item f.items, (plain-number 3 f.ticks, tt)) refl

plain-load : (l : Load) → ArePlain 1 (load_members l)
plain-load l = plain-members 1 (load_members l) (plain-number 1 l.sub, (plain-numbers 0 l.words, tt)) refl

-- the keys of a station ascend, with its subsystem and without
station-ascends : (s : StationData) (o : Option SubsystemKind) → ascends (station_members (record s { terminal = record s.terminal { subsystem = o } })) ≡ true
station-ascends s None = refl
station-ascends s (Some Recorder) = refl
station-ascends s (Some Tally) = refl

wider-plain : (most more : ℕ) (d : Data) → most ≤ more → IsPlain most d → IsPlain more d
wider-plain most more d h p = record { deep = let deep = p.deep in omega (arith, deep, h); dates = p.dates; sorted = p.sorted }

plain-station : (s : StationData) → ArePlain 5 (station_members s)
plain-station s =
    plain-members 5 (station_members s) (
      plain-flag 5 s.terminal.accepts,
      (
        plain-number 5 s.terminal.address,
        (
          plain-number 5 s.terminal.bit,
          (
            plain-flag 5 s.terminal.busy,
            (
              plain-channel 5 s.channel,
              (
                plain-number 5 s.terminal.delay,
                (
                  plain-tables 3 frame_members plain-frame s.frames,
                  (
                    wider-plain 3 5 _ (omega arith) (plain-tables 1 load_members plain-load s.terminal.loads),
                    (
                      plain-numbers 4 _,
                      (
                        plain-numbers 4 _,
                        (
                          plain-numbers 4 _,
                          (
                            plain-number 5 s.repeat,
                            (
                              plain-flag 5 s.terminal.service,
                              each-optional 5 (codes "subsystem") (subsystem_if s.terminal.subsystem) _ (plain-subsystem-if 5 s.terminal.subsystem)
                                  (plain-flag 5 s.terminal.subsystem_flag, (plain-flag 5 s.terminal.terminal_flag, (plain-number 5 s.terminal.vector, tt))),
                            ),
                          ),
                        ),
                      ),
                    ),
                  ),
                ),
              ),
            ),
          ),
        ),
      ),
    )
    (station-ascends s s.terminal.subsystem)

plain-fault : (attempt : ℕ) (part : Part) (hit : Hit) → ArePlain 1 (fault_members attempt part hit)
plain-fault attempt part (Flip word set) =
    plain-members 1 (fault_members attempt part (Flip word set)) (
      plain-numbers 0 _,
      (
        plain-number 1 attempt,
        (
          plain-text 1 _,
          (
            plain-part 1 part,
            (
              plain-number 1 word,
              tt,
            ),
          ),
        ),
      ),
    )
    refl
plain-fault attempt part (Fade word set) =
    plain-members 1 (fault_members attempt part (Fade word set)) (
      plain-numbers 0 _,
      (
        plain-number 1 attempt,
        (
          plain-text 1 _,
          (
            plain-part 1 part,
            (
              plain-number 1 word,
              tt,
            ),
          ),
        ),
      ),
    )
    refl
plain-fault attempt part (Cut after) =
    plain-members 1 (fault_members attempt part (Cut after)) (
      plain-number 1 after,
      (
        plain-number 1 attempt,
        (
          plain-text 1 _,
          (
            plain-part 1 part,
            tt,
          ),
        ),
      ),
    )
    refl
plain-fault attempt part (Extra n) =
    plain-members 1 (fault_members attempt part (Extra n)) (
      plain-number 1 attempt,
      (
        plain-text 1 _,
        (
          plain-part 1 part,
          (
            plain-number 1 n,
            tt,
          ),
        ),
      ),
    )
    refl

plain-document : (p : PlanData) → ArePlain 7 (document_with p)
plain-document p =
    plain-members 7 (document_with p) (
      wider-plain 3 7 _ (omega arith) (plain-tables 1 (λ f. fault_members f.attempt f.part f.hit) (λ f. plain-fault f.attempt f.part f.hit) p.faults),
      (
        plain-number 7 p.start,
        (
          plain-tables 5 station_members plain-station p.stations,
          (
            plain-number 7 2,
            tt,
          ),
        ),
      ),
    )
    refl

-- ---- texts

document-of : (text : List ℕ) (doc : Members) → is_utf8 text ≡ true → parse_document text ≡ Some doc → document_of text ≡ Some doc
document-of text doc utf8 e = rw utf8 e

pub read-text : (p : PlanData) (pretty : Bool) (text : List ℕ) → IsAccepted p → is_utf8 text ≡ true → IsDocumentText pretty (document_with p) text
    → plan_of_bytes text ≡ Ok p
read-text p pretty text h utf8 writes =
    let plain = plain-document p in
    let deep : members_depth (document_with p) ≤ 80 = (let d = plain.deep in omega (arith, d)) in
    (read-exact text p).1
    (document_with p, document-of text (document_with p) utf8 (parse_document-printed pretty (document_with p) text writes deep plain.dates plain.sorted), read-described p h)
