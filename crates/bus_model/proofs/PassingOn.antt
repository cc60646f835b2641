-- Control passes only by endings after which no attempt of the item follows, and a message leaves the items of the stations as they are.
use Rattle.std.proofs.Common.{◌≡◌, ℕ, List, [], ◌∷◌, refl, ◌∙◌}
use Rattle.std.specs.Prelude.{Bool, true, false, if◌then◌else◌, map, Option, Some, None}
use Rattle.bus_base.specs.declared.samples.Part.TheVariants.{Second}
use Rattle.bus_base.specs.declared.samples.Channel.{Channel}
use Rattle.bus_formats.specs.Plans.{ItemData}
use Rattle.bus_formats.specs.declared.fault.Fault.{Fault}
use Rattle.bus_formats.specs.declared.form.Shape.{Shape}
use Rattle.bus_formats.specs.declared.form.Outcome.{Outcome}
use Rattle.bus_formats.specs.declared.form.Outcome.TheVariants.{Clear, Sent, Declined, Passed, Illegal, Busy, NoResponse, BadReply, Abandoned, Yielded}
use Rattle.bus_formats.specs.declared.form.Reading.{Reading}
use Rattle.bus_formats.specs.declared.form.Reading.TheVariants.{Good, Ends}
use Rattle.bus_formats.specs.declared.plan.Kind.{Kind}
use Rattle.bus_retry.specs.Retries.{may_retry}
use Rattle.bus_model.specs.Memory.{TimedLoad}
use Rattle.bus_model.specs.Orders.{Duty, free, owes, promises, Order}
use Rattle.bus_model.specs.Strikes.{ShownBurst, burst_end, ShownAnswer, shown_answer, hits_on}
use Rattle.bus_model.specs.Endings.{Passing, Ending, ends, second_read, second_ending, good_ending, doubt_ending, read_ending, first_read, heard_ending, ending_by, ending_of}
use Rattle.bus_model.specs.Message.{Present, address_of_station, After, after_command, after_command_of, after_answer, after_answer_of, after_silence, after_silence_of, answer_to, Message, message, message_obeyed}
use Rattle.std.proofs.lemmas.Option.{none-some}

-- where control passes, no retry follows
abbrev pub PassesAtTheEnd : Ending → Type 0
PassesAtTheEnd ending = (p : Passing) → ending.passes ≡ Some p → may_retry ending.ended.outcome ≡ false

ends-well : (outcome : Outcome) (first second : Option ℕ) (tick : ℕ) → PassesAtTheEnd (ends outcome first second tick)
ends-well outcome first second tick p h = absurd (none-some p h)

second_read-well : (k : ℕ) (kind : Kind) (status end : ℕ) (reading : Reading) → PassesAtTheEnd (second_read k kind status end reading)
second_read-well k kind status end (Good second) p h = absurd (none-some p h)
second_read-well k kind status end (Ends outcome second) p h = absurd (none-some p h)

second_ending-well : (k : ℕ) (kind : Kind) (status end : ℕ) (second : Option ShownAnswer) → PassesAtTheEnd (second_ending k kind status end second)
second_ending-well k kind status end None p h = absurd (none-some p h)
second_ending-well k kind status end (Some second) p h = second_read-well k kind status _ _ p h

good_ending-well : (k : ℕ) (kind : Kind) (status : ℕ) (first : ShownAnswer) (second : Option ShownAnswer) (shape : Option Shape) →
    PassesAtTheEnd (good_ending k kind status first second shape)
good_ending-well k kind status first second None p h = absurd (none-some p h)
good_ending-well k kind status first second (Some shape) p h = second_ending-well k kind status _ second p h

doubt_ending-well : (k : ℕ) (kind : Kind) (first : ShownAnswer) (acceptance : Bool) → PassesAtTheEnd (doubt_ending k kind first acceptance)
doubt_ending-well k kind first true p h = refl
doubt_ending-well k kind first false p h = absurd (none-some p h)

read_ending-well : (k : ℕ) (kind : Kind) (first : ShownAnswer) (offer : Bool) (outcome : Outcome) (status : Option ℕ) →
    PassesAtTheEnd (read_ending k kind first offer outcome status)
read_ending-well k kind first offer Passed status p h = refl
read_ending-well k kind first true (BadReply part) status p h = doubt_ending-well k kind first first.sent.acceptance p h
read_ending-well k kind first false (BadReply part) status p h = absurd (none-some p h)
read_ending-well k kind first offer Clear status p h = absurd (none-some p h)
read_ending-well k kind first offer Sent status p h = absurd (none-some p h)
read_ending-well k kind first offer Declined status p h = absurd (none-some p h)
read_ending-well k kind first offer (Illegal part) status p h = absurd (none-some p h)
read_ending-well k kind first offer (Busy part) status p h = absurd (none-some p h)
read_ending-well k kind first offer (NoResponse part) status p h = absurd (none-some p h)
read_ending-well k kind first offer Abandoned status p h = absurd (none-some p h)
read_ending-well k kind first offer Yielded status p h = absurd (none-some p h)

first_read-well : (k : ℕ) (kind : Kind) (first : ShownAnswer) (second : Option ShownAnswer) (reading : Reading) →
    PassesAtTheEnd (first_read k kind first second reading)
first_read-well k kind first second (Good status) p h = good_ending-well k kind status first second _ p h
first_read-well k kind first second (Ends outcome status) p h = read_ending-well k kind first _ outcome status p h

heard_ending-well : (k : ℕ) (kind : Kind) (first : ShownAnswer) (second : Option ShownAnswer) (abandon : Option ℕ) →
    PassesAtTheEnd (heard_ending k kind first second abandon)
heard_ending-well k kind first second (Some tick) p h = absurd (none-some p h)
heard_ending-well k kind first second None p h = first_read-well k kind first second _ p h

ending_by-well : (k : ℕ) (kind : Kind) (abandon : Option ℕ) (end : ℕ) (first second : Option ShownAnswer) (shape : Option Shape) →
    PassesAtTheEnd (ending_by k kind abandon end first second shape)
ending_by-well k kind abandon end first second None p h = absurd (none-some p h)
ending_by-well k kind abandon end None second (Some shape) p h = absurd (none-some p h)
ending_by-well k kind abandon end (Some first) second (Some shape) p h = heard_ending-well k kind first second _ p h

ending_of-well : (k : ℕ) (item : ItemData) (end : ℕ) (first second : Option ShownAnswer) → PassesAtTheEnd (ending_of k item end first second)
ending_of-well k item end first second p h = ending_by-well k item.kind item.abandon end first second _ p h

-- ---- what a message leaves of the stations

-- the same stations, in their order, with the same items left
abbrev pub AreSame : List Present → List Present → Type 0
AreSame [] [] = Unit {0}
AreSame (a ∷ before) (b ∷ later) = (b.left ≡ a.left) × (address_of_station b ≡ address_of_station a) × AreSame before later
AreSame _ _ = ⊥

abbrev IsSame : Present → Present → Type 0
IsSame a b = (b.left ≡ a.left) × (address_of_station b ≡ address_of_station a)

command_of-same : (k : ℕ) (loads : List TimedLoad) (burst : ShownBurst) (s : Present) (order : Option Order) →
    IsSame s (after_command_of k loads burst s order).station
command_of-same k loads burst s None = (refl, refl)
command_of-same k loads burst s (Some order) = (refl, refl)

either-same : (s : Present) (b : Bool) (x y : After) → IsSame s x.station → IsSame s y.station → IsSame s (if b then x else y).station
either-same s true x y h i = h
either-same s false x y h i = i

command-same : (k : ℕ) (loads : List TimedLoad) (burst : ShownBurst) (s : Present) → IsSame s (after_command k loads burst s).station
command-same k loads burst s = either-same s s.serves _ _ (command_of-same k loads burst s _) (refl, refl)

answer_of-same : (k : ℕ) (loads : List TimedLoad) (burst : ShownBurst) (s : Present) (duty : Duty) → IsSame s (after_answer_of k loads burst s duty).station
answer_of-same k loads burst s free = (refl, refl)
answer_of-same k loads burst s (owes words acceptance) = (refl, refl)
answer_of-same k loads burst s (promises command transmitter) = (refl, refl)

silence_of-same : (k : ℕ) (loads : List TimedLoad) (burst : ShownBurst) (s : Present) (duty : Duty) → IsSame s (after_silence_of k loads burst s duty).station
silence_of-same k loads burst s free = (refl, refl)
silence_of-same k loads burst s (owes words acceptance) = (refl, refl)
silence_of-same k loads burst s (promises command transmitter) = (refl, refl)

settled-same : (f : After → After) (g : Present → After) → ((a : After) → IsSame a.station (f a).station) → ((s : Present) → IsSame s (g s).station) →
    (stations : List Present) → AreSame stations (map (λ after. after.station) (map f (map g stations)))
settled-same f g h i [] = tt
settled-same f g h i (s ∷ stations) =
    ((h (g s)).0 ∙ (i s).0, (h (g s)).1 ∙ (i s).1, settled-same f g h i stations)

-- what is needed of a message
pub record Passes (stations : List Present) (m : Message) : Type 0 where
  pub well : PassesAtTheEnd m.ending
  pub same : AreSame stations m.stations

obeyed-passes : (k : ℕ) (loads : List TimedLoad) (faults : List Fault) (n : ℕ) (item : ItemData) (on : Option ShownAnswer) (command : ShownBurst)
    (stations : List Present) (first : Option ShownAnswer) →
    Passes stations (message_obeyed k loads faults n item on command (map (after_command k loads command) stations) first)
obeyed-passes k loads faults n item on command stations None = record {
  well = ending_of-well k item (burst_end command) None None;
  same = settled-same (after_silence k loads command) (after_command k loads command)
      (λ a. silence_of-same k loads command a.station a.duty) (command-same k loads command) stations;
}
obeyed-passes k loads faults n item on command stations (Some first) = record {
  well = ending_of-well k item (burst_end command) (Some first)
      (shown_answer (hits_on faults n Second) (answer_to first.burst (map (after_answer k loads first.burst) (map (after_command k loads command) stations))));
  same = settled-same (after_answer k loads first.burst) (after_command k loads command)
      (λ a. answer_of-same k loads first.burst a.station a.duty) (command-same k loads command) stations;
}

-- every message
pub message-passes : (k : ℕ) (loads : List TimedLoad) (faults : List Fault) (n : ℕ) (item : ItemData) (on : Option ShownAnswer) (channel : Channel)
    (start : ℕ) (stations : List Present) → Passes stations (message k loads faults n item on channel start stations)
unfolding message
message-passes k loads faults n item on channel start stations = obeyed-passes k loads faults n item on _ stations _
