-- What each answer of `judge` shows.
use Rattle.std.specs.Prelude.{◌≡◌, ℕ, ◌≤◌, nat_lt, if◌then◌else◌, List, Option, None}
use Rattle.bus_formats.specs.declared.log.Delivery.{Delivery}
use Rattle.bus_rules.specs.Judged.{IsJudged, JudgementHasCause}
use Rattle.bus_rules.specs.declared.judgement.Judgement.{Judgement}
use Rattle.bus_rules.specs.declared.judgement.Judgement.TheVariants.{Done, Refused, ReadFault, WriteFault}
use Rattle.bus_run.specs.declared.finished.FinishedBus.{FinishedBus}
use Rattle.bus_refusals.specs.Refusals.{WroteDue, capture_refusal_line}
use Rattle.bus_tool.specs.Objects.{AreSame}

-- the status after a judgement that ended so, with what the sink held then and now and its count of faults then and now: 1 exactly where there was a
-- breach, else 0; 4 at a read fault, 5 at a write fault; at a refusal its line was written with status 3, or a front of it with 5
abbrev pub StatusJudged : Option (List ℕ) → Option (List ℕ) → ℕ → ℕ → ℕ → Judgement → Type 0
StatusJudged held held1 sink sink1 status (Done ticks breaches) = (status ≡ (if nat_lt 0 breaches then 1 else 0)) × (held1 ≡ held) × (sink1 ≡ sink)
StatusJudged held held1 sink sink1 status (Refused refusal) = WroteDue held held1 sink sink1 status 3 (capture_refusal_line refusal)
StatusJudged held held1 sink sink1 status ReadFault = (status ≡ 4) × (held1 ≡ held) × (sink1 ≡ sink)
StatusJudged held held1 sink sink1 status WriteFault = (status ≡ 5) × (held1 ≡ held) × (sink1 ≡ sink)

-- a capture was judged: the breaches of its ticks, then the whole judgement at its end; never for want of memory
pub record JudgesCapture (left0 left1 held0 held1 : Option (List ℕ)) (source0 source1 sink0 sink1 : ℕ) (status : ℕ) : Type 0 where
  pub judgement : Judgement
  pub held : Option (List ℕ)
  pub sink : ℕ
  pub judged : IsJudged left0 left1 held0 held judgement
  pub cause : JudgementHasCause source0 source1 sink0 sink judgement
  pub later : sink ≤ sink1
  pub answer : StatusJudged held held1 sink sink1 status judgement

-- there is never a bus, and the objects stay
pub record EndsJudge (left0 left1 held0 held1 : Option (List ℕ)) (source0 source1 sink0 sink1 : ℕ) (status : ℕ) (bus : Option FinishedBus)
    (told0 told1 : List (Option (List Delivery))) (said0 said1 : List (List ℕ)) (spare0 spare1 : List ℕ) : Type 0 where
  pub no_bus : bus ≡ None
  pub objects : AreSame told0 told1 said0 said1 spare0 spare1
  pub judges : JudgesCapture left0 left1 held0 held1 source0 source1 sink0 sink1 status
