-- The answer that the message table has to a burst is sent: from the tick in which it begins to that in which its end is known.
use Rattle.std.proofs.Common.{◌≡◌, ◌≢◌, inl, inr, ℕ, suc, ◌+◌, ◌<◌, false, List, map, length, refl, sym, ap, ◌∙◌, subst, arith}
use Rattle.std.proofs.lemmas.Bool.{true≢false}
use Rattle.bus_base.specs.declared.samples.Drive.{Drive}
use Rattle.bus_base.specs.declared.samples.Part.{Part}
use Rattle.bus_base.specs.declared.samples.Part.TheVariants.{Command, First, Second}
use Rattle.bus_formats.specs.Accepted.{IsAccepted}
use Rattle.bus_formats.specs.Plans.{StationData}
use Rattle.bus_formats.specs.declared.fault.Fault.{Fault}
use Rattle.bus_model.specs.Course.{Course}
use Rattle.bus_model.specs.Message.{Present, After, answer_to, after_answer}
use Rattle.bus_model.specs.Orders.{due_after}
use Rattle.bus_model.specs.Standing.{is_owed}
use Rattle.bus_model.specs.Strikes.{hits_on, struck, ShownBurst, burst_end, ShownAnswer}
use Rattle.bus_law_duties.specs.Duties.{AtMostOneOwes}
use Rattle.bus_law_line.specs.Senders.{attempt_to_come}
use Rattle.bus_law_parts.specs.Parts.{part_ticks, HitsFit}
use Rattle.bus_model.specs.WorldLog.{present_stations}
use Rattle.bus_law_phases.specs.Answers.{AnswerBegins, burst_read, HoldsBeside, AnswerOver, HoldsBesideShown, BeginsAt}
use Rattle.bus_line.specs.Past.{Burst}
use Rattle.bus_base.specs.declared.samples.Channel.{Channel}
use Rattle.bus_base.specs.declared.samples.Pair.{Pair}
use Rattle.bus_words.specs.declared.word.Word.{Word}
use Rattle.bus_formats.specs.declared.fault.Hit.{Hit}
use Rattle.bus_law_phases.specs.Moments.{HasDuty, Owes, IsServer, IsAfter}
use Rattle.bus_law_phases.specs.Scenarios.{Scenario, shown_at, driven_at, commands_in, IsPresentAt, StaysFrom}
use Rattle.bus_law_phases.proofs.AnswerBegun.{IsShownBy, shown-by, answer-fits, Owed, owed-of, answer-beside}
use Rattle.bus_law_phases.proofs.AnswerLeft.{answer_burst}
use Rattle.bus_law_phases.proofs.AnswerPhase.{over}
use Rattle.bus_law_phases.proofs.Staying.{long-at}

-- the attempt that runs is that of its command
running : (faults : List Fault) (part : Part) (driven : List (List Drive)) (n : ℕ) → part ≢ Command → n ≡ attempt_to_come faults First driven →
    attempt_to_come faults part driven ≡ n
running faults Command driven n other is = absurd (other refl)
running faults First driven n other is = sym is
running faults Second driven n other is = sym is

module _ (w : Scenario) (t place : ℕ) (holder : StationData) (part : Part) (burst : ShownBurst) (afters : List After) (answer : ShownAnswer)
    (later : Course) (lag : w.lag ≡ 3) (accepted : IsAccepted w.plan) (stays : StaysFrom w t)
    (begins : AnswerBegins w t place holder part burst afters answer)
    (controls : HoldsBesideShown w (shown_at w t) holder burst.channel answer.hits answer.sent.words (burst_read answer.burst) later) where
  is : IsShownBy (hits_on w.plan.faults (commands_in w (driven_at w t)) part) (answer_to burst afters) answer
  is = shown-by (hits_on w.plan.faults (commands_in w (driven_at w t)) part) (answer_to burst afters) answer begins.shown

  long : length (shown_at w t) ≡ t
  long = long-at w t stays

  named : hits_on w.plan.faults (attempt_to_come w.plan.faults part (driven_at w t)) part ≡ answer.hits
  named =
      let same : commands_in w (driven_at w t) ≡ attempt_to_come w.plan.faults First (driven_at w t) = omega arith in
      ap (λ n. hits_on w.plan.faults n part) (running w.plan.faults part (driven_at w t) (commands_in w (driven_at w t)) begins.part_is same)
      ∙ is.hits_are

  fits : HitsFit part answer.hits answer.sent.words
  fits =
      subst (λ hits. HitsFit part hits answer.sent.words) is.hits_are
      (answer-fits w.plan (commands_in w (driven_at w t)) part answer.sent accepted begins.words)

  some : 0 < part_ticks answer.hits answer.sent.words
  some = let many = is.some in omega (arith, many)

  starts-now : answer.sent.start ≡ length (shown_at w t)
  starts-now = begins.due ∙ sym long

  module _ (after : After) (owed : Owed burst after answer.sent) where
    -- the burst of the table, by what begins it
    same-burst : answer.burst ≡ answer_burst burst.channel (length (shown_at w t)) answer.hits answer.sent.words
    same-burst =
        is.burst
        ∙ ap (λ c. answer_burst c answer.sent.start answer.hits answer.sent.words) owed.channel
        ∙ ap (λ n. answer_burst burst.channel n answer.hits answer.sent.words) starts-now

    module _ (other : ℕ) (station : StationData) (apart : other ≢ place)
        (at : IsPresentAt w other station)
        (server : IsServer w (shown_at w t) burst.channel (burst_end burst) part station after) where
      owes-it : Owes w (shown_at w t) station burst.channel (burst_end burst) part answer.sent.words false
      owes-it =
          subst (λ b. Owes w (shown_at w t) station burst.channel (burst_end burst) part answer.sent.words b) begins.declines
          (subst (HasDuty w (shown_at w t) station burst.channel (burst_end burst) part) owed.duty server.duty)

      is-due : due_after station.terminal (burst_end burst) ≡ length (shown_at w t)
      is-due =
          ap (λ (p : Present). due_after p.plan.terminal (burst_end burst)) server.is ∙ sym owed.start ∙ starts-now

      own-address : station.terminal.address ≡ answer.sent.address
      own-address = ap (λ (p : Present). p.plan.terminal.address) server.is ∙ sym owed.address

      passes-so : AnswerOver w t (burst_end answer.burst + suc w.lag) place holder burst afters answer.burst later
      passes-so =
          subst (λ b. AnswerOver w t (burst_end b + suc w.lag) place holder burst afters b later) (sym same-burst)
          (over w t place holder part burst afters answer.sent answer.hits later lag accepted stays begins.moment begins.part_is is.sent begins.words named fits
          some begins.goes
          (subst (λ b. AtMostOneOwes (map (after_answer w.lag w.loads b) afters)) same-burst begins.one)
          (subst (λ b. HoldsBesideShown w (shown_at w t) holder burst.channel answer.hits answer.sent.words (burst_read b) later) same-burst controls)
          other station apart at owes-it is-due own-address begins.declines starts-now)

  pub answer-passes-shown : AnswerOver w t (burst_end answer.burst + suc w.lag) place holder burst afters answer.burst later
  answer-passes-shown =
      let pair = answer-beside (IsAfter w (shown_at w t) place holder burst.channel (burst_end burst) part) burst
      (present_stations w.lag w.plan w.loads w.outside w.absent) afters answer.sent begins.moment.stations is.sent in
      let owed = owed-of burst pair.1 answer.sent pair.3 in
      elim pair.2 [
        | inl own ↦ absurd (true≢false (sym (ap is_owed owed.duty) ∙ ap is_owed own.1.duty))
        | inr server ↦ passes-so pair.1 owed server.0 pair.0 server.1 server.2 server.3
      ]

-- what holds of any ticks of a burst holds of those that are shown of an answer
pub beside-shown : (w : Scenario) (past : List Pair) (holder : StationData) (c : Channel) (hits : List Hit) (words : List Word) (burst : Burst)
    (later : Course) → HoldsBeside w past holder c burst later → HoldsBesideShown w past holder c hits words burst later
beside-shown w past holder c hits words burst later h = record {
  same = λ ticks first. h.same ticks first.alone;
  silent = λ ticks first. h.silent ticks first.alone;
  then_is = λ x ticks first whole. h.then_is x ticks whole;
  kept = h.kept;
}

pub answer-passes : (w : Scenario) (t place : ℕ) (holder : StationData) (part : Part) (burst : ShownBurst) (afters : List After) (answer : ShownAnswer)
    (later : Course) → w.lag ≡ 3 → IsAccepted w.plan → StaysFrom w t → AnswerBegins w t place holder part burst afters answer →
    HoldsBeside w (shown_at w t) holder burst.channel (burst_read answer.burst) later →
    AnswerOver w t (burst_end answer.burst + suc w.lag) place holder burst afters answer.burst later
answer-passes w t place holder part burst afters answer later lag accepted stays begins controls =
    answer-passes-shown w t place holder part burst afters answer later lag accepted stays begins
    (beside-shown w (shown_at w t) holder burst.channel answer.hits answer.sent.words (burst_read answer.burst) later controls)

-- what is known of an answer that begins
pub begins-at : (w : Scenario) (t place : ℕ) (holder : StationData) (part : Part) (burst : ShownBurst) (afters : List After) (answer : ShownAnswer) →
    IsAccepted w.plan → AnswerBegins w t place holder part burst afters answer → BeginsAt t part answer
begins-at w t place holder part burst afters answer accepted begins =
    let hits = hits_on w.plan.faults (commands_in w (driven_at w t)) part in
    let is = shown-by hits (answer_to burst afters) answer begins.shown in
    record {
      burst = is.burst ∙ ap (λ n. record { channel = answer.sent.channel; start = n; slots = struck answer.hits answer.sent.words; rest = 0 }) begins.due;
      fits = subst (λ hs. HitsFit part hs answer.sent.words) is.hits_are
          (answer-fits w.plan (commands_in w (driven_at w t)) part answer.sent accepted begins.words);
    }
