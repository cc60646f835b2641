-- The stations beside the one that answers, as the message table has them: none of them owes an answer, and none has its address.
use Rattle.std.proofs.Common.{◌≡◌, ◌≢◌, inl, inr, ℕ, false, List, Some, sym, ap, ◌∙◌}
use Rattle.std.proofs.lemmas.Bool.{true≢false, cases_Bool}
use Rattle.bus_base.specs.declared.samples.Channel.{Channel}
use Rattle.bus_base.specs.declared.samples.Part.{Part}
use Rattle.bus_formats.specs.Accepted.{IsAccepted}
use Rattle.bus_formats.specs.Plans.{StationData}
use Rattle.bus_model.specs.Message.{Present, After, answer_to}
use Rattle.bus_model.specs.Standing.{is_owed}
use Rattle.bus_model.specs.Strikes.{ShownBurst, Answer}
use Rattle.bus_model.specs.World.{Trace, is_present}
use Rattle.bus_law_phases.specs.Moments.{IsServer, IsAfter, Underway}
use Rattle.bus_law_phases.specs.Scenarios.{Scenario, course_of, IsPresentAt}
use Rattle.bus_law_phases.proofs.AnswerBegun.{OwesIt, all-owe-it, addresses-apart}
use Rattle.bus_law_phases.proofs.Pairs.{each-of, beside-at}

module _ (w : Scenario) (now : Trace) (place : ℕ) (holder : StationData) (c : Channel) (e : ℕ) (part : Part) (burst : ShownBurst) (afters : List After)
    (answer : Answer) (accepted : IsAccepted w.plan) (moment : Underway w now place holder c e part afters) (found : answer_to burst afters ≡ Some answer)
    (answerer : ℕ) (answering : StationData) (at : IsPresentAt w answerer answering) (own_address : answering.terminal.address ≡ answer.address) where
  pub other-address : (other : ℕ) (station : StationData) → IsPresentAt w other station → other ≢ answerer → station.terminal.address ≢ answer.address
  other-address other station there aside same =
      addresses-apart w.plan other answerer station answering accepted there.there at.there aside (same ∙ sym own_address)

  pub owes-none : (other : ℕ) (station : StationData) (after : After) → IsPresentAt w other station → other ≢ answerer →
      IsServer w now.shown c e part station after → OwesIt answer after → is_owed after.duty ≡ false
  owes-none other station after there aside server owes_it = elim (cases_Bool (is_owed after.duty)) [
    | inr none ↦ none
    | inl owed ↦ absurd (other-address other station there aside (ap (λ (p : Present). p.plan.terminal.address) server.is ∙ owes_it owed))
  ]

  -- what the table has of a station that doesn't hold control
  pub server-of : (other : ℕ) (station : StationData) → IsPresentAt w other station → other ≢ place →
      (after : After) × IsServer w now.shown c e part station after × OwesIt answer after
  server-of other station there away =
      let pair = beside-at (IsAfter w now.shown place holder c e part) (OwesIt answer) (is_present w.absent) w.plan.stations afters other station
      moment.stations (each-of (OwesIt answer) afters (all-owe-it burst afters answer moment.one found)) there.there there.present in
      elim pair.1 [
        | inl own ↦ absurd (true≢false (sym moment.holds ∙ sym (ap (λ st. (course_of w st now.shown).holds) own.0)
            ∙ (moment.serves other station there away).serves))
        | inr server ↦ (pair.0, server.3, pair.2)
      ]
