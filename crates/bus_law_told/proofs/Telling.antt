-- Each message that began, gives no control away and isn't abandoned is told.
use Rattle.std.proofs.Common.{◌≡◌, inl, inr, ℕ, false, Option, Some, refl, sym, ◌∙◌, subst, List}
use Rattle.std.proofs.lemmas.Option.{none-some, same_Some}
use Rattle.bus_base.specs.declared.samples.Part.TheVariants.{First}
use Rattle.bus_formats.specs.Forms.{answers_of}
use Rattle.bus_formats.specs.Plans.{StationData}
use Rattle.bus_formats.specs.Readings.{read_answer}
use Rattle.bus_formats.specs.declared.form.Reading.{Reading}
use Rattle.bus_formats.specs.declared.form.Reading.TheVariants.{Good, Ends}
use Rattle.bus_formats.specs.declared.form.Shape.{Shape}
use Rattle.bus_formats.specs.declared.log.Attempt.{Attempt}
use Rattle.bus_model.specs.Attempts.{is_offer}
use Rattle.bus_model.specs.Message.{Present}
use Rattle.bus_model.specs.Starts.{Entry}
use Rattle.bus_model.specs.Strikes.{ShownBurst, ShownAnswer}
use Rattle.bus_law_stations.proofs.Resting.{cases-option}
use Rattle.bus_law_phases.specs.Scenarios.{Scenario}
use Rattle.bus_law_moments.specs.Begun.{MessageBegan}
use Rattle.bus_law_told.specs.Tables.{first_shown, second_shown}
use Rattle.bus_law_moments.specs.Told.{MessageTold}
use Rattle.bus_law_told.specs.Told as rest
use Rattle.bus_law_told.specs.Told.{Refuses, IsNotAbandoned}
use Rattle.bus_law_told.proofs.FirstEnds.{first-ends-told, first-clear-told, refused-told}
use Rattle.bus_law_told.proofs.FirstSilent.{first-silent-told}
use Rattle.bus_law_told.proofs.Known.{BeginsKept, begun, attempt_begun, control-kept, sent-told}
use Rattle.bus_law_told.proofs.RelayedSecond.{shown-told}
use Rattle.bus_law_told.proofs.RelayedTold.{silent-told}

module _ (w : Scenario) (t place : ℕ) (holder : StationData) (stations : List Present) (entry : Entry) (b : BeginsKept w t place holder stations entry) where
  abbrev first_answer : Option ShownAnswer
  first_answer =
      first_shown w.lag w.loads w.plan.faults (attempt_begun w t holder stations entry) entry.item (begun w t holder stations entry).state.channel t stations

  abbrev second_answer : ShownAnswer → Option ShownAnswer
  second_answer first =
      second_shown w.lag w.loads w.plan.faults (attempt_begun w t holder stations entry) entry.item (begun w t holder stations entry).state.channel t stations
      first

  module _ (shape : Shape) (expects : (answers_of entry.item.kind).first ≡ Some shape) where
    -- a relay's second answer is awaited
    relay-told : (first : ShownAnswer) (shows : first_answer ≡ Some first) (other : Shape) (nexts : (answers_of entry.item.kind).second ≡ Some other)
        (status : ℕ) → read_answer entry.item.kind First first.burst.slots first.burst.rest ≡ Good status → MessageTold w t holder stations entry place
        b.base.ended b.base.found
    relay-told first shows other nexts status reading = elim (cases-option (second_answer first)) [
      | inl silent ↦ silent-told w t place holder stations entry b shape expects first shows other nexts status reading silent
      | inr shown ↦ shown-told w t place holder stations entry b shape expects first shows other nexts status reading shown.0 shown.1
    ]

    by-reading : is_offer entry.item.kind ≡ false → (first : ShownAnswer) (shows : first_answer ≡ Some first) (reading : Reading) →
        read_answer entry.item.kind First first.burst.slots first.burst.rest ≡ reading → MessageTold w t holder stations entry place b.base.ended b.base.found
    by-reading off first shows (Ends outcome status) is = first-ends-told w t place holder stations entry b shape expects first shows off outcome status is
    by-reading off first shows (Good status) is = elim (cases-option (answers_of entry.item.kind).second) [
      | inl alone ↦ first-clear-told w t place holder stations entry b shape expects first shows status is alone
      | inr next ↦ relay-told first shows next.0 next.1 status is
    ]

    by-shown : (first : ShownAnswer) → first_answer ≡ Some first → MessageTold w t holder stations entry place b.base.ended b.base.found
    by-shown first shows = elim (control-kept w t place holder stations entry b first shows) [
      | inl off ↦ by-reading off first shows (read_answer entry.item.kind First first.burst.slots first.burst.rest) refl
      | inr refused ↦ refused-told w t place holder stations entry b shape expects first shows refused
    ]

    by-first : MessageTold w t holder stations entry place b.base.ended b.base.found
    by-first = elim (cases-option first_answer) [
      | inl silent ↦ first-silent-told w t place holder stations entry b.base shape expects silent
      | inr shown ↦ by-shown shown.0 shown.1
    ]

  pub began-told : MessageTold w t holder stations entry place b.base.ended b.base.found
  began-told = elim (cases-option (answers_of entry.item.kind).first) [
    | inl alone ↦ sent-told w t place holder stations entry b.base alone
    | inr expects ↦ by-first expects.0 expects.1
  ]

-- nothing is shown of a first answer, or no control is offered
pub gives-none : (w : Scenario) (t place : ℕ) (holder : StationData) (stations : List Present) (entry : Entry) (ended : List Attempt) (found : List ShownBurst) →
    MessageBegan w t holder entry place stations ended found → rest.GivesNoControl w t holder stations entry → IsNotAbandoned w t holder stations entry →
    MessageTold w t holder stations entry place ended found
gives-none w t place holder stations entry ended found began (inl silent) stays =
    began-told w t place holder stations entry record {
      base = record { ended = ended; found = found; began = began };
      keeps = λ first shows. absurd (none-some first (sym silent ∙ shows));
      stays = stays;
    }
gives-none w t place holder stations entry ended found began (inr plain) stays =
    began-told w t place holder stations entry
    record { base = record { ended = ended; found = found; began = began }; keeps = λ first shows. inl plain; stays = stays }

-- an answer refuses an offer
pub offer-refused : (w : Scenario) (t place : ℕ) (holder : StationData) (stations : List Present) (entry : Entry) (ended : List Attempt)
    (found : List ShownBurst) (first : ShownAnswer) → MessageBegan w t holder entry place stations ended found →
    rest.answer_shown w t holder stations entry ≡ Some first → Refuses entry.item.kind first → IsNotAbandoned w t holder stations entry →
    MessageTold w t holder stations entry place ended found
offer-refused w t place holder stations entry ended found first began shows refused stays =
    began-told w t place holder stations entry record {
      base = record { ended = ended; found = found; began = began };
      keeps = λ other is. inr (subst (Refuses entry.item.kind) (same_Some first other (sym shows ∙ is)) refused);
      stays = stays;
    }
