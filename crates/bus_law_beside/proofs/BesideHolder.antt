-- The station in control where the end of its command is known, which it sent beside an abandoned answer: the message is closed, or waits for its answer.
use Rattle.std.proofs.Common.{◌≡◌, inl, inr, ℕ, ◌+◌, ◌-◌, ◌<◌, Bool, true, List, ◌∷◌, ◌++◌, length, ap, ◌∙◌, arith, length-append}
use Rattle.bus_base.specs.declared.samples.Pair.{Pair}
use Rattle.bus_words.specs.declared.word.Word.{Word}
use Rattle.bus_line.specs.Past.{Burst}
use Rattle.bus_formats.specs.Forms.{answers_of, command_words}
use Rattle.bus_formats.specs.Plans.{StationData}
use Rattle.bus_formats.specs.declared.fault.Hit.{Hit}
use Rattle.bus_model.specs.Attempts.{Begun}
use Rattle.bus_model.specs.Course.{Course}
use Rattle.bus_model.specs.Message.{Present}
use Rattle.bus_model.specs.Starts.{Entry, starts}
use Rattle.bus_model.specs.Strikes.{ShownAnswer}
use Rattle.bus_law_messages.specs.Ends.{SentCommand}
use Rattle.bus_law_messages.proofs.Closing.{sent-command}
use Rattle.bus_law_parts.specs.Parts.{part_ticks}
use Rattle.bus_law_stations.specs.Turns.{KeepsControl}
use Rattle.bus_law_stations.proofs.Resting.{cases-option}
use Rattle.bus_law_phases.specs.PartRuns.{burst_shown}
use Rattle.bus_law_phases.specs.Scenarios.{Scenario, shown_at, course_of}
use Rattle.bus_law_phases.proofs.Kept.{command-kept}
use Rattle.bus_law_beside.specs.Beside.{BeginsBeside}
use Rattle.bus_law_beside.proofs.BesideBegins as start
use Rattle.bus_law_beside.proofs.BesideDrives as both
use Rattle.bus_law_beside.proofs.BesideEnd as end
use Rattle.bus_law_beside.proofs.StopTicks.{BreaksOff}

module _ (w : Scenario) (t place : ℕ) (holder : StationData) (stations : List Present) (entry : Entry) (old : ShownAnswer)
    (p : BeginsBeside w t place holder stations entry old) (o : Pair) (os : List Pair) (is_old : p.beside.ticks ≡ o ∷ os) (valid : Bool) (sends m : ℕ)
    (breaks : BreaksOff old (t - old.sent.start) valid sends m)
    (orders : both.OrdersIt w t place holder stations entry old p o os is_old valid sends m breaks) where
  abbrev past : List Pair
  past = (o ∷ os) ++ shown_at w old.sent.start

  abbrev hits : List Hit
  hits = end.hits w t place holder stations entry old p o os is_old valid sends m breaks orders

  abbrev words : List Word
  words = command_words entry.item.kind

  abbrev begun : Begun
  begun = start.begun w t place holder stations entry old p o os is_old valid sends m breaks

  abbrev x : Pair
  x = end.x w t place holder stations entry old p o os is_old valid sends m breaks orders

  abbrev ticks : List Pair
  ticks = end.ticks w t place holder stations entry old p o os is_old valid sends m breaks orders

  abbrev later : List Pair
  later = (x ∷ ticks) ++ past

  abbrev burst : Burst
  burst = burst_shown (length past) hits words

  many : length ticks ≡ w.lag + part_ticks hits words
  many = end.many w t place holder stations entry old p o os is_old valid sends m breaks orders

  count-before : length (ticks ++ past) ≡ length ticks + length past
  count-before = length-append ticks past

  holds : (course_of w holder past).holds ≡ true
  holds = (start.begins-now w t place holder stations entry old p o os is_old valid sends m breaks).holds

  small : w.lag < 24
  small = let lag = p.lag in omega (arith, lag)

  pub kept : KeepsControl w.lag holder (starts w.plan holder) w.loads w.outside past (x ∷ ticks)
  kept =
      command-kept w.lag holder (starts w.plan holder) w.loads w.outside past entry
      (both.controls w t place holder stations entry old p o os is_old valid sends m breaks)
      (start.begins-now w t place holder stations entry old p o os is_old valid sends m breaks) small x ticks burst
      (both.shows-burst w t place holder stations entry old p o os is_old valid sends m breaks ticks
      (end.shows w t place holder stations entry old p o os is_old valid sends m breaks orders))
      (end.ended-d w t place holder stations entry old p o os is_old valid sends m breaks orders)

  pub closed : SentCommand w.lag holder (starts w.plan holder) w.loads w.outside past (x ∷ ticks) begun burst
  closed =
      sent-command w.lag holder (starts w.plan holder) w.loads w.outside past entry
      (both.controls w t place holder stations entry old p o os is_old valid sends m breaks)
      (start.begins-now w t place holder stations entry old p o os is_old valid sends m breaks) small x ticks burst
      (both.shows-burst w t place holder stations entry old p o os is_old valid sends m breaks ticks
      (end.shows w t place holder stations entry old p o os is_old valid sends m breaks orders))
      (end.ended-d w t place holder stations entry old p o os is_old valid sends m breaks orders) (omega (arith, count-before, many))

  pub holds-later : (course_of w holder later).holds ≡ true
  holds-later = elim (cases-option (answers_of entry.item.kind).first) [
    | inl none ↦ ap (λ (a : Course). a.holds) (closed.sent none)
    | inr expects ↦ ap (λ (a : Course). a.holds) (closed.waits expects.0 expects.1).0 ∙ holds
  ]
