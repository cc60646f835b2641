-- For which pasts a judge stands, and what it adds to a text. Nothing here has to be believed: it ties the code to the breaches of a past.
use Rattle.std.specs.Prelude.{◌≡◌, ◌≤◌, ℕ, ◌-◌, ◌*◌, Bool, true, false, ◌||◌, nat_lt, List, [], ◌∷◌, ◌++◌, length, Option, Some, None, is_none}
use Rattle.std.specs.List.{list_any}
use Rattle.bus_base.specs.declared.samples.Channel.{Channel}
use Rattle.bus_base.specs.declared.samples.Channel.TheVariants.{A, B}
use Rattle.bus_base.specs.declared.samples.Pair.{Pair}
use Rattle.bus_base.specs.declared.samples.Sample.{Sample}
use Rattle.bus_line.specs.Past.{ended_now}
use Rattle.bus_line.specs.Channels.{on_channel}
use Rattle.bus_line.specs.Cutting.{running_slots}
use Rattle.bus_line.specs.declared.cutter.TheConstants.{LAG}
use Rattle.bus_monitor.specs.Channels.{ChannelListerStands}
use Rattle.bus_monitor.specs.Told.{begins}
use Rattle.bus_monitor.specs.declared.told.BurstEnd.{BurstEnd}
use Rattle.bus_monitor.specs.declared.told.Taken.{Taken}
use Rattle.bus_monitor.specs.declared.told.Taken.TheVariants as takens
use Rattle.bus_rules.specs.Breaches.{breach_where, is_heard, overlaps, longest_response, longest_burst, known}
use Rattle.bus_rules.specs.JudgeTexts.{breach_lines}
use Rattle.bus_rules.specs.declared.breach.Breach.{Breach}
use Rattle.bus_rules.specs.declared.breach.Rule.TheVariants.{Word, Long, Gap, Response, Unknown, Reply, Open}
use Rattle.bus_rules.specs.declared.channel_judge.ChannelJudge.{ChannelJudge}
use Rattle.bus_rules.specs.declared.capture_judge.Judge.{Judge}

-- the lines of these breaches were added, so many
abbrev pub Adds : List ℕ → List ℕ → ℕ → List Breach → Type 0
Adds old new count found = (new ≡ old ++ breach_lines found) × (count ≡ length found)

-- ---- what the code adds

abbrev pub begun_by : Channel → ℕ → Bool → Option ℕ → List Breach
begun_by c first busy None = breach_where busy c Gap first
begun_by c first busy (Some from) = breach_where (nat_lt longest_response (first - from)) c Response first

abbrev pub taken_by : Channel → ℕ → Taken → List Breach
taken_by c first takens.Known = []
taken_by c first takens.Unknown = breach_where true c Unknown first
taken_by c first takens.BadReply = breach_where true c Reply first

abbrev pub ended_by : Channel → ℕ → BurstEnd → Bool → List Breach
ended_by c now e damaged =
    breach_where (nat_lt 0 e.rest || damaged) c Word e.first
    ++ (breach_where (nat_lt longest_burst ((now - LAG) - e.first)) c Long e.first ++ taken_by c e.first e.taken)

abbrev pub open_by : Channel → Option ℕ → List Breach
open_by c None = []
open_by c (Some first) = breach_where true c Open first

-- ---- many ticks at once

-- in the newest tick the channel wasn't quiet
abbrev pub is_on : List Sample → Bool
is_on [] = false
is_on (x ∷ past) = is_heard x

-- in none of these ticks, the newest first, a burst ends or begins, or the channel is heard anew
abbrev pub NoneKnown : List Sample → List Sample → Type 0
NoneKnown [] past = Unit {0}
NoneKnown (x ∷ xs) past =
    (ended_now LAG (x ∷ (xs ++ past)) ≡ None) × (begins LAG (x ∷ (xs ++ past)) ≡ false) × (is_heard x ≡ true → is_on (xs ++ past) ≡ true) × NoneKnown xs past

-- ---- the judges

pub record ChannelJudgeStands (judge : ChannelJudge) (past : List Sample) : Type 0 where
  pub messages : ChannelListerStands judge.messages past
  pub damaged : judge.damaged ≡ list_any is_none (running_slots LAG past)

pub record JudgeStands (judge : Judge) (past : List Pair) : Type 0 where
  pub a : ChannelJudgeStands judge.a (on_channel A past)
  pub b : ChannelJudgeStands judge.b (on_channel B past)
  pub ticks : judge.ticks ≡ length past
  pub overlap : judge.overlap ≡ overlaps past
  pub breaches : judge.breaches ≡ length (known LAG past)
  pub few : judge.breaches ≤ 7 * judge.ticks
