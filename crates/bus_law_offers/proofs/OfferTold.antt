-- An offer of control, told whole: by how its answer is read.
use Rattle.std.proofs.Common.{◌≡◌, ◌⊎◌, inl, inr, ℕ, true, false, List, Some, None, sym, ◌∙◌}
use Rattle.std.proofs.lemmas.Bool.{cases_Bool, true≢false}
use Rattle.bus_base.specs.declared.samples.Part.TheVariants.{Command, First}
use Rattle.bus_formats.specs.Plans.{StationData}
use Rattle.bus_formats.specs.Readings.{read_answer}
use Rattle.bus_formats.specs.declared.form.Outcome.TheVariants.{Illegal, Declined}
use Rattle.bus_formats.specs.declared.log.Attempt.{Attempt}
use Rattle.bus_model.specs.Attempts.{is_offer}
use Rattle.bus_model.specs.Message.{Present}
use Rattle.bus_model.specs.Starts.{Entry}
use Rattle.bus_model.specs.Strikes.{hits_on, ShownBurst, ShownAnswer}
use Rattle.bus_law_moments.specs.Begun.{MessageBegan}
use Rattle.bus_law_moments.specs.Told.{MessageTold, ControlPassed, ControlYielded}
use Rattle.bus_law_offers.specs.Read.{IsOfferRead}
use Rattle.bus_law_offers.proofs.OfferDue.{opened, attempt, owed-so, read-alike}
use Rattle.bus_law_offers.proofs.OfferDoubted.{doubt-told}
use Rattle.bus_law_offers.proofs.OfferPassed.{control-passed, control-yielded}
use Rattle.bus_law_offers.proofs.OfferRead.{offer-read}
use Rattle.bus_law_phases.specs.Scenarios.{Scenario}
use Rattle.bus_law_stations.proofs.Resting.{cases-option}
use Rattle.bus_law_told.specs.Told.{answer_shown, IsNotAbandoned}
use Rattle.bus_law_told.proofs.Telling.{gives-none, offer-refused}

module _ (w : Scenario) (t place : ℕ) (holder : StationData) (stations : List Present) (entry : Entry) (ended : List Attempt) (found : List ShownBurst)
    (first : ShownAnswer) (began : MessageBegan w t holder entry place stations ended found) (offers : is_offer entry.item.kind ≡ true)
    (shows : answer_shown w t holder stations entry ≡ Some first) where
  -- how its answer is read
  read-so : IsOfferRead first.sent (read_answer entry.item.kind First first.burst.slots first.burst.rest)
  read-so =
      read-alike w t place holder stations entry ended found began first shows (IsOfferRead first.sent)
      (offer-read w.lag w.loads (opened w t place holder stations entry ended found began first shows).state.channel t
      (hits_on w.plan.faults (attempt w t place holder stations entry ended found began first shows) Command) entry.item began.entry_of.ranges.kind offers stations
      began.ranged first.sent (owed-so w t place holder stations entry ended found began first shows) first.hits)

  -- it accepts
  pub offer-accepted : first.sent.acceptance ≡ true → IsNotAbandoned w t holder stations entry →
      ControlPassed w t holder stations entry place ended found ⊎ ControlYielded w t holder stations entry place ended found
  offer-accepted accepts stays = elim read-so [
    | inl badly ↦ inr (control-yielded w t place holder stations entry ended found began first shows offers (stays first shows) accepts First None badly)
    | inr rest ↦ elim rest [
      | inl so ↦ inl (control-passed w t place holder stations entry ended found began first shows offers (stays first shows) accepts (Some so.0) so.2)
      | inr refused ↦ absurd (true≢false (sym accepts ∙ refused.1))
    ]
  ]

  -- it doesn't
  pub offer-declined : first.sent.acceptance ≡ false → IsNotAbandoned w t holder stations entry → MessageTold w t holder stations entry place ended found
  offer-declined declines stays = elim read-so [
    | inl badly ↦ doubt-told w t place holder stations entry ended found began first shows offers (stays first shows) declines First None badly
    | inr rest ↦ elim rest [
      | inl so ↦ absurd (true≢false (sym so.1 ∙ declines))
      | inr refused ↦ elim refused.2 [
        | inl illegal ↦ offer-refused w t place holder stations entry ended found first began shows record {
          offers = offers;
          declines = declines;
          outcome = Illegal First;
          status = Some refused.0;
          reading = illegal;
          refuses = tt;
        } stays
        | inr declined ↦ offer-refused w t place holder stations entry ended found first began shows record {
          offers = offers;
          declines = declines;
          outcome = Declined;
          status = Some refused.0;
          reading = declined;
          refuses = tt;
        } stays
      ]
    ]
  ]

  pub offer-shown : IsNotAbandoned w t holder stations entry → MessageTold w t holder stations entry place ended found
      ⊎ (ControlPassed w t holder stations entry place ended found ⊎ ControlYielded w t holder stations entry place ended found)
  offer-shown stays = elim (cases_Bool first.sent.acceptance) [
    | inl accepts ↦ inr (offer-accepted accepts stays)
    | inr declines ↦ inl (offer-declined declines stays)
  ]

-- every message that isn't abandoned
pub message-told : (w : Scenario) (t place : ℕ) (holder : StationData) (stations : List Present) (entry : Entry) (ended : List Attempt)
    (found : List ShownBurst) → MessageBegan w t holder entry place stations ended found → IsNotAbandoned w t holder stations entry →
    MessageTold w t holder stations entry place ended found
    ⊎ (ControlPassed w t holder stations entry place ended found ⊎ ControlYielded w t holder stations entry place ended found)
message-told w t place holder stations entry ended found began stays = elim (cases_Bool (is_offer entry.item.kind)) [
  | inl offers ↦ elim (cases-option (answer_shown w t holder stations entry)) [
    | inl silent ↦ inl (gives-none w t place holder stations entry ended found began (inl silent) stays)
    | inr shown ↦ offer-shown w t place holder stations entry ended found shown.0 began offers shown.1 stays
  ]
  | inr plain ↦ inl (gives-none w t place holder stations entry ended found began (inr plain) stays)
]
