-- What is known as the end of a command is, by the tick and the trace at which its message began.
use Rattle.std.proofs.Common.{◌≡◌, ℕ, suc, ◌+◌, List, [], ◌∷◌, length, map, Some, None, refl, sym, ap, ◌∙◌, All}
use Rattle.std.proofs.lemmas.List.Elements.{All-nil, All-cons}
use Rattle.bus_base.specs.declared.samples.Pair.{Pair}
use Rattle.bus_base.specs.declared.samples.Part.TheVariants.{First}
use Rattle.bus_line.specs.Channels.{on_channel}
use Rattle.bus_formats.specs.Forms.{answers_of}
use Rattle.bus_formats.specs.Plans.{StationData}
use Rattle.bus_formats.specs.declared.form.Outcome.TheVariants.{Sent}
use Rattle.bus_formats.specs.declared.form.Shape.{Shape}
use Rattle.bus_model.specs.Attempts.{Begun, without_words}
use Rattle.bus_model.specs.Course.{quiet_from, close}
use Rattle.bus_model.specs.Message.{Present, After, unmoved, after_command, blocks_taken}
use Rattle.bus_model.specs.Strikes.{ShownBurst, burst_end}
use Rattle.bus_model.specs.WorldLog.{present_stations}
use Rattle.bus_law_stations.specs.Messages.{with_running}
use Rattle.bus_law_stations.specs.Silence.{AwaitsFirst}
use Rattle.bus_law_table.specs.Stations.{loaded_at, ArePresent}
use Rattle.bus_law_table.proofs.Pairing.{Each, beside, each-other}
use Rattle.bus_law_phases.specs.Closings.{HasItemsOf}
use Rattle.bus_law_phases.specs.Commands.{ended_with_command}
use Rattle.bus_law_phases.specs.Moments.{Underway}
use Rattle.bus_law_phases.specs.Passages.{Passage}
use Rattle.bus_law_phases.specs.Scenarios.{Scenario, trace_at, shown_at, course_of, present_of}
use Rattle.bus_law_phases.proofs.Resting.{each-present}

-- the items of the station in control, in its entry of the table
unmoved-all : (P : After → Type 0) (ys : List Present) → Each (λ y. P (unmoved y)) ys → All P (map unmoved ys)
unmoved-all P [] each = All-nil P
unmoved-all P (y ∷ ys) each = All-cons P (unmoved y) (map unmoved ys) each.0 (unmoved-all P ys each.1)

pub items-are : (w : Scenario) (past : List Pair) (holder : StationData) (stations : List Present) →
    ArePresent w.lag w.plan w.loads w.outside w.absent past stations → All (HasItemsOf holder (course_of w holder past)) (map unmoved stations)
items-are w past holder stations are =
    let R : StationData → Present → Type 0 = λ station y. present_of w station past ≡ loaded_at w.loads (length past) y in
    unmoved-all (HasItemsOf holder (course_of w holder past)) stations
    (each-other R (λ y. HasItemsOf holder (course_of w holder past) (unmoved y)) (present_stations w.lag w.plan w.loads w.outside w.absent) stations
    (beside (λ station. station ≡ station) R (λ station. present_of w station past) (loaded_at w.loads (length past))
    (present_stations w.lag w.plan w.loads w.outside w.absent) stations
    (each-present w past (λ station. station ≡ station) (λ place station at. refl)) are (λ station y is same. same))
    (λ station y same own.
    let st : station ≡ holder = ap (λ (p : Present). p.plan) same ∙ own in (
      sym (ap (λ (p : Present). p.left) same) ∙ ap (λ s. (course_of w s past).left) st,
      sym (ap (λ (p : Present). p.live) same) ∙ ap (λ s. (course_of w s past).live) st,
    )))

-- what is known as the end of the command is, by the trace at which it began, in tick t
pub record KnownFrom (w : Scenario) (t place : ℕ) (holder : StationData) (stations : List Present) (begun : Begun) (command : ShownBurst)
    (found : List ShownBurst) (past : List Pair) : Type 0 where
  pub moment : Underway w (trace_at w (burst_end command + suc w.lag)) place holder begun.state.channel (burst_end command) First
      (map (after_command w.lag w.loads command) stations)
  pub passage : Passage w t (burst_end command + suc w.lag) record {
    blocks = blocks_taken w.lag w.loads command (map (after_command w.lag w.loads command) stations);
    bursts = found;
    attempts = ended_with_command holder.terminal.address begun (burst_end command + w.lag) (answers_of begun.entry.item.kind).first;
    commands = 1;
  }
  pub sent : (answers_of begun.entry.item.kind).first ≡ None → course_of w holder (shown_at w (burst_end command + suc w.lag))
      ≡ close (course_of w holder past) begun (without_words Sent None None) (burst_end command + w.lag)
  pub waits : (shape : Shape) → (answers_of begun.entry.item.kind).first ≡ Some shape →
      (course_of w holder (shown_at w (burst_end command + suc w.lag)) ≡ with_running (course_of w holder past) begun)
      × AwaitsFirst w.lag begun (on_channel begun.state.channel (shown_at w (burst_end command + suc w.lag))) (burst_end command)
  pub quiet : quiet_from (shown_at w (burst_end command + suc w.lag)) ≡ burst_end command
  pub items : All (HasItemsOf holder (course_of w holder past)) (map (after_command w.lag w.loads command) stations)
