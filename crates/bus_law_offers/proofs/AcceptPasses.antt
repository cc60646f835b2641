-- The answer of the message table by which control is accepted is sent: from the tick in which it begins to that in which its end is known.
use Rattle.std.proofs.Common.{◌≡◌, ◌≢◌, inl, inr, ℕ, suc, ◌+◌, ◌<◌, true, List, length, Some, sym, ap, ◌∙◌, subst, arith}
use Rattle.std.proofs.lemmas.Bool.{true≢false}
use Rattle.bus_base.specs.declared.samples.Part.TheVariants.{First}
use Rattle.bus_formats.specs.Accepted.{IsAccepted}
use Rattle.bus_formats.specs.Plans.{StationData}
use Rattle.bus_model.specs.Course.{Course}
use Rattle.bus_model.specs.Message.{Present, After, answer_to}
use Rattle.bus_model.specs.Orders.{due_after}
use Rattle.bus_model.specs.Standing.{is_owed}
use Rattle.bus_model.specs.Strikes.{hits_on, ShownBurst, burst_end, ShownAnswer, shown_answer}
use Rattle.bus_model.specs.WorldLog.{present_stations}
use Rattle.bus_law_line.specs.Senders.{attempt_to_come}
use Rattle.bus_law_offers.specs.Passing.{HoldsToEnd, AcceptOver}
use Rattle.bus_law_offers.proofs.AcceptEnd.{accept-over}
use Rattle.bus_law_parts.specs.Parts.{part_ticks, HitsFit}
use Rattle.bus_law_phases.specs.Answers.{IsStatusWithData, burst_read}
use Rattle.bus_law_phases.specs.Moments.{HasDuty, Owes, IsServer, IsAfter, Underway}
use Rattle.bus_law_phases.specs.Scenarios.{Scenario, trace_at, shown_at, driven_at, commands_in, IsPresentAt, StaysFrom}
use Rattle.bus_law_phases.specs.Silences.{GoesOnTo}
use Rattle.bus_law_phases.proofs.AnswerBegun.{IsShownBy, shown-by, answer-fits, Owed, owed-of, answer-beside}
use Rattle.bus_law_phases.proofs.AnswerLeft.{answer_burst}
use Rattle.bus_law_phases.proofs.Staying.{long-at}

-- in tick t the first answer to a burst begins, by which a terminal accepts control, and something of it is shown
pub record AcceptBegins (w : Scenario) (t place : ℕ) (holder : StationData) (burst : ShownBurst) (afters : List After) (answer : ShownAnswer) : Type 0 where
  pub moment : Underway w (trace_at w t) place holder burst.channel (burst_end burst) First afters
  pub shown : shown_answer (hits_on w.plan.faults (commands_in w (driven_at w t)) First) (answer_to burst afters) ≡ Some answer
  pub words : IsStatusWithData answer.sent
  pub due : answer.sent.start ≡ t
  pub accepts : answer.sent.acceptance ≡ true
  pub goes : GoesOnTo w (shown_at w t) (suc t)

-- the station that accepted it, where its answer is over
pub record IsAcceptedBy (w : Scenario) (t place : ℕ) (holder : StationData) (burst : ShownBurst) (afters : List After) (answer : ShownAnswer) (later : Course) :
    Type 0 where
  pub answerer : ℕ
  pub answering : StationData
  pub apart : answerer ≢ place
  pub at : IsPresentAt w answerer answering
  pub address : answering.terminal.address ≡ answer.sent.address
  pub over : AcceptOver w t (burst_end answer.burst + suc w.lag) place holder answerer answering burst afters answer.hits answer.sent.words answer.burst later

module _ (w : Scenario) (t place : ℕ) (holder : StationData) (burst : ShownBurst) (afters : List After) (answer : ShownAnswer)
    (later : Course) (lag : w.lag ≡ 3) (accepted : IsAccepted w.plan) (stays : StaysFrom w t)
    (begins : AcceptBegins w t place holder burst afters answer)
    (controls : HoldsToEnd w (shown_at w t) holder burst.channel answer.hits answer.sent.words (burst_read answer.burst) later) where
  is : IsShownBy (hits_on w.plan.faults (commands_in w (driven_at w t)) First) (answer_to burst afters) answer
  is = shown-by (hits_on w.plan.faults (commands_in w (driven_at w t)) First) (answer_to burst afters) answer begins.shown

  long : length (shown_at w t) ≡ t
  long = long-at w t stays

  named : hits_on w.plan.faults (attempt_to_come w.plan.faults First (driven_at w t)) First ≡ answer.hits
  named =
      let same : attempt_to_come w.plan.faults First (driven_at w t) ≡ commands_in w (driven_at w t) = omega arith in
      ap (λ n. hits_on w.plan.faults n First) same ∙ is.hits_are

  fits : HitsFit First answer.hits answer.sent.words
  fits =
      subst (λ hits. HitsFit First hits answer.sent.words) is.hits_are
      (answer-fits w.plan (commands_in w (driven_at w t)) First answer.sent accepted begins.words)

  some : 0 < part_ticks answer.hits answer.sent.words
  some = let many = is.some in omega (arith, many)

  starts-now : answer.sent.start ≡ length (shown_at w t)
  starts-now = begins.due ∙ sym long

  module _ (after : After) (owed : Owed burst after answer.sent) where
    -- the burst of the table, by what begins it
    same-burst : answer.burst ≡ answer_burst burst.channel (length (shown_at w t)) answer.hits answer.sent.words
    same-burst =
        is.burst
        ∙ ap (λ c. answer_burst c answer.sent.start answer.hits answer.sent.words) owed.channel
        ∙ ap (λ n. answer_burst burst.channel n answer.hits answer.sent.words) starts-now

    module _ (other : ℕ) (station : StationData) (apart : other ≢ place) (at : IsPresentAt w other station)
        (server : IsServer w (shown_at w t) burst.channel (burst_end burst) First station after) where
      owes-it : Owes w (shown_at w t) station burst.channel (burst_end burst) First answer.sent.words true
      owes-it =
          subst (λ b. Owes w (shown_at w t) station burst.channel (burst_end burst) First answer.sent.words b) begins.accepts
          (subst (HasDuty w (shown_at w t) station burst.channel (burst_end burst) First) owed.duty server.duty)

      is-due : due_after station.terminal (burst_end burst) ≡ length (shown_at w t)
      is-due = ap (λ (p : Present). due_after p.plan.terminal (burst_end burst)) server.is ∙ sym owed.start ∙ starts-now

      own-address : station.terminal.address ≡ answer.sent.address
      own-address = ap (λ (p : Present). p.plan.terminal.address) server.is ∙ sym owed.address

      accepted-so : IsAcceptedBy w t place holder burst afters answer later
      accepted-so = record {
        answerer = other;
        answering = station;
        apart = apart;
        at = at;
        address = own-address;
        over = subst (λ b. AcceptOver w t (burst_end b + suc w.lag) place holder other station burst afters answer.hits answer.sent.words b later) (sym same-burst)
            (accept-over w t place holder First burst afters answer.sent answer.hits later lag accepted stays begins.moment (λ e. absurd (cc e)) is.sent
            begins.words named fits some begins.goes
            (subst (λ b. HoldsToEnd w (shown_at w t) holder burst.channel answer.hits answer.sent.words (burst_read b) later) same-burst controls)
            other station apart at owes-it is-due own-address);
      }

  pub accept-passes : IsAcceptedBy w t place holder burst afters answer later
  accept-passes =
      let pair = answer-beside (IsAfter w (shown_at w t) place holder burst.channel (burst_end burst) First) burst
      (present_stations w.lag w.plan w.loads w.outside w.absent) afters answer.sent begins.moment.stations is.sent in
      let owed = owed-of burst pair.1 answer.sent pair.3 in
      elim pair.2 [
        | inl own ↦ absurd (true≢false (sym (ap is_owed owed.duty) ∙ ap is_owed own.1.duty))
        | inr server ↦ accepted-so pair.1 owed server.0 pair.0 server.1 server.2 server.3
      ]
