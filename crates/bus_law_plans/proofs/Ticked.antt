-- In which tick a message ends: at most so many ticks after the last of what it shows.
use Rattle.std.proofs.Common.{◌≡◌, ℕ, ◌+◌, ◌-◌, ◌<◌, ◌≤◌, Bool, true, false, Option, Some, None, refl, sym, ◌∙◌, arith}
use Rattle.std.proofs.lemmas.Bool.Decides.{nat_tests}
use Rattle.std.proofs.lemmas.Option.{none-some}
use Rattle.std.specs.Prelude.{IfSome, if◌then◌else◌, not, ◌&&◌, nat_le}
use Rattle.bus_base.specs.declared.samples.Part.TheVariants.{First, Second}
use Rattle.bus_formats.specs.Forms.{answers_of}
use Rattle.bus_formats.specs.Plans.{ItemData}
use Rattle.bus_formats.specs.Readings.{read_answer}
use Rattle.bus_formats.specs.declared.form.Outcome.{Outcome}
use Rattle.bus_formats.specs.declared.form.Outcome.TheVariants.{Clear, Sent, Declined, Passed, Illegal, Busy, NoResponse, BadReply, Abandoned, Yielded}
use Rattle.bus_formats.specs.declared.form.Reading.{Reading}
use Rattle.bus_formats.specs.declared.form.Reading.TheVariants.{Good, Ends}
use Rattle.bus_formats.specs.declared.form.Shape.{Shape}
use Rattle.bus_formats.specs.declared.plan.Kind.{Kind}
use Rattle.bus_model.specs.Attempts.{is_offer}
use Rattle.bus_model.specs.Endings.{Ending, second_read, second_ending, good_ending, doubt_ending, read_ending, first_read, abandoned_at, heard_ending, ending_by, ending_of}
use Rattle.bus_model.specs.Strikes.{ShownAnswer, is_faded, burst_end}

-- a shown answer ends by this tick
abbrev pub EndsBy : ℕ → Option ShownAnswer → Type 0
EndsBy last answer = IfSome answer (λ a. burst_end a.burst ≤ last)

-- an ending at most 79 ticks after it; an answer that runs on is the first
pub record IsTimely (last : ℕ) (first : Option ShownAnswer) (ending : Ending) : Type 0 where
  pub tick : ending.tick < last + 80
  pub runs_on : (old : ShownAnswer) → ending.runs_on ≡ Some old → first ≡ Some old

timely : (last : ℕ) (first : Option ShownAnswer) (ending : Ending) → ending.runs_on ≡ None → ending.tick < last + 80 → IsTimely last first ending
timely last first ending none tick = record { tick = tick; runs_on = λ old is. absurd (none-some old (sym none ∙ is)) }

module _ (k : ℕ) (low : k < 24) (kind : Kind) (last : ℕ) where
  second-read : (first : Option ShownAnswer) (status end : ℕ) (reading : Reading) → end ≤ last → IsTimely last first (second_read k kind status end reading)
  second-read first status end (Good second) within = timely last first _ refl (omega (arith, low, within))
  second-read first status end (Ends outcome second) within = timely last first _ refl (omega (arith, low, within))

  second-wait : (first : Option ShownAnswer) (status end : ℕ) (second : Option ShownAnswer) → end ≤ last → EndsBy last second →
      IsTimely last first (second_ending k kind status end second)
  second-wait first status end None within ends = timely last first _ refl (omega (arith, within))
  second-wait first status end (Some second) within ends =
      second-read first status (burst_end second.burst) (read_answer kind Second second.burst.slots second.burst.rest) ends

  good-timely : (status : ℕ) (first : ShownAnswer) (second : Option ShownAnswer) (shape : Option Shape) → burst_end first.burst ≤ last → EndsBy last second →
      IsTimely last (Some first) (good_ending k kind status first second shape)
  good-timely status first second None within ends = timely last (Some first) _ refl (omega (arith, low, within))
  good-timely status first second (Some shape) within ends = second-wait (Some first) status (burst_end first.burst) second within ends

  doubt-timely : (first : ShownAnswer) (acceptance : Bool) → burst_end first.burst ≤ last → IsTimely last (Some first) (doubt_ending k kind first acceptance)
  doubt-timely first true within = timely last (Some first) _ refl (omega (arith, within))
  doubt-timely first false within = timely last (Some first) _ refl (omega (arith, within))

  reading-timely : (first : ShownAnswer) (offer : Bool) (outcome : Outcome) (status : Option ℕ) → burst_end first.burst ≤ last →
      IsTimely last (Some first) (read_ending k kind first offer outcome status)
  reading-timely first offer Passed status within = timely last (Some first) _ refl (omega (arith, low, within))
  reading-timely first true (BadReply part) status within = doubt-timely first first.sent.acceptance within
  reading-timely first false (BadReply part) status within = timely last (Some first) _ refl (omega (arith, low, within))
  reading-timely first offer Clear status within = timely last (Some first) _ refl (omega (arith, low, within))
  reading-timely first offer Sent status within = timely last (Some first) _ refl (omega (arith, low, within))
  reading-timely first offer Declined status within = timely last (Some first) _ refl (omega (arith, low, within))
  reading-timely first offer (Illegal part) status within = timely last (Some first) _ refl (omega (arith, low, within))
  reading-timely first offer (Busy part) status within = timely last (Some first) _ refl (omega (arith, low, within))
  reading-timely first offer (NoResponse part) status within = timely last (Some first) _ refl (omega (arith, low, within))
  reading-timely first offer Abandoned status within = timely last (Some first) _ refl (omega (arith, low, within))
  reading-timely first offer Yielded status within = timely last (Some first) _ refl (omega (arith, low, within))

  first-timely : (first : ShownAnswer) (second : Option ShownAnswer) (reading : Reading) → burst_end first.burst ≤ last → EndsBy last second →
      IsTimely last (Some first) (first_read k kind first second reading)
  first-timely first second (Good status) within ends = good-timely status first second (answers_of kind).second within ends
  first-timely first second (Ends outcome status) within ends = reading-timely first (is_offer kind) outcome status within

  heard-timely : (first : ShownAnswer) (second : Option ShownAnswer) (abandon : Option ℕ) → IfSome abandon (λ tick. tick ≤ burst_end first.burst) →
      burst_end first.burst ≤ last → EndsBy last second → IsTimely last (Some first) (heard_ending k kind first second abandon)
  heard-timely first second (Some tick) at within ends = record { tick = omega (arith, at, within); runs_on = λ old is. is }
  heard-timely first second None at within ends =
      first-timely first second (read_answer kind First first.burst.slots first.burst.rest) within ends

  abandon-by : (n end high : ℕ) (b c : Bool) → nat_le (end + n) high ≡ b → IfSome (if b && c then Some (end + n - 1) else None) (λ tick. tick ≤ high)
  abandon-by n end high true true is = grind (arith, nat_tests, is)
  abandon-by n end high true false is = tt
  abandon-by n end high false c is = tt

  abandon-low : (abandon : Option ℕ) (end : ℕ) (first : ShownAnswer) → IfSome (abandoned_at k kind abandon end first) (λ tick. tick ≤ burst_end first.burst)
  abandon-low None end first = tt
  abandon-low (Some n) end first =
      abandon-by n end (burst_end first.burst) (nat_le (end + n) (burst_end first.burst)) (not (is_faded first (end + n - 1 - first.burst.start))) refl

  by-shape : (abandon : Option ℕ) (end : ℕ) (first second : Option ShownAnswer) (shape : Option Shape) → end ≤ last → EndsBy last first → EndsBy last second →
      IsTimely last first (ending_by k kind abandon end first second shape)
  by-shape abandon end first second None within ends later = timely last first _ refl (omega (arith, low, within))
  by-shape abandon end None second (Some shape) within ends later = timely last None _ refl (omega (arith, within))
  by-shape abandon end (Some first) second (Some shape) within ends later =
      heard-timely first second (abandoned_at k kind abandon end first) (abandon-low abandon end first) ends later

-- every message
pub ending-timely : (k : ℕ) → k < 24 → (item : ItemData) (last end : ℕ) (first second : Option ShownAnswer) → end ≤ last → EndsBy last first →
    EndsBy last second → IsTimely last first (ending_of k item end first second)
ending-timely k low item last end first second within ends later =
    by-shape k low item.kind last item.abandon end first second (answers_of item.kind).first within ends later
