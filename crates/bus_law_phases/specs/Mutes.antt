-- An answer of which nothing is shown: the faults of the plan cut it off before its first word.
use Rattle.std.specs.Prelude.{◌≡◌, ◌≢◌, ℕ, None, Some, List}
use Rattle.bus_base.specs.declared.samples.Part.{Part}
use Rattle.bus_base.specs.declared.samples.Part.TheVariants.{Command}
use Rattle.bus_formats.specs.Plans.{StationData}
use Rattle.bus_model.specs.Message.{After, answer_to}
use Rattle.bus_model.specs.Orders.{Duty, free, owes}
use Rattle.bus_model.specs.Strikes.{hits_on, ShownBurst, burst_end, Answer, shown_answer}
use Rattle.bus_law_parts.specs.Parts.{HitsFit}
use Rattle.bus_law_phases.specs.Scenarios.{Scenario, trace_at, driven_at, commands_in}
use Rattle.bus_law_phases.specs.Moments.{Underway}

-- in tick t the answer of the table to a burst is due, as this part of its message, and nothing of it is shown
pub record IsMute (w : Scenario) (t place : ℕ) (holder : StationData) (part : Part) (burst : ShownBurst) (afters : List After) (answer : Answer) :
    Type 0 where
  pub moment : Underway w (trace_at w t) place holder burst.channel (burst_end burst) part afters
  pub part_is : part ≢ Command
  pub found : answer_to burst afters ≡ Some answer
  pub due : answer.start ≡ t
  pub mute : shown_answer (hits_on w.plan.faults (commands_in w (driven_at w t)) part) (answer_to burst afters) ≡ None
  pub fits : HitsFit part (hits_on w.plan.faults (commands_in w (driven_at w t)) part) answer.words

-- who owed an answer owes it no more
abbrev pub answered_by : After → Duty → After
answered_by after (owes words acceptance) = record after { duty = free }
answered_by after duty = after

abbrev pub answered : After → After
answered after = answered_by after after.duty
