-- The terminal of a station that gave control away is free: it has heard nothing.
use Rattle.std.proofs.Common.{◌≡◌, List, sym, ap, ◌∙◌}
use Rattle.std.proofs.lemmas.Bool.{true≢false}
use Rattle.bus_base.specs.declared.samples.Channel.{Channel}
use Rattle.bus_base.specs.declared.samples.Channel.TheVariants.{A, B}
use Rattle.bus_base.specs.declared.samples.Pair.{Pair}
use Rattle.std.specs.Prelude.{None}
use Rattle.bus_line.specs.Past.{runs}
use Rattle.bus_formats.specs.Plans.{StationData}
use Rattle.bus_model.specs.Hearing.{heard_on}
use Rattle.bus_model.specs.Memory.{Memory}
use Rattle.bus_model.specs.Standing.{Standing, mark_on, at_rest, ignored_from, is_owed, is_promise}
use Rattle.bus_model.specs.Starts.{starts}
use Rattle.bus_model.specs.Terminal.{standing}
use Rattle.bus_law_control.proofs.Keeping.{unheard-runs, unheard-rests}
use Rattle.bus_law_messages.specs.Settled.{IsServing}
use Rattle.bus_law_phases.specs.Scenarios.{Scenario, course_of, hearing_of, standing_of}
use Rattle.bus_law_stations.specs.Turns.{Serves}
use Rattle.bus_law_table.specs.Stations.{HeardNothing}

no-mark : (s : Standing) (memory : Memory) (d : Channel) → s ≡ at_rest memory → mark_on s.sent d ≡ None
no-mark s memory A rest = ap (λ (u : Standing). u.sent.a) rest
no-mark s memory B rest = ap (λ (u : Standing). u.sent.b) rest

pub unheard-serving : (w : Scenario) (past : List Pair) (station : StationData) → Serves (course_of w station past) →
    HeardNothing w.lag station (starts w.plan station) w.loads w.outside past → IsServing w.lag station (starts w.plan station) w.loads w.outside past
unheard-serving w past station serves nothing =
    let heard = (hearing_of w station past).ticks in
    let memory = (hearing_of w station past).memory in
    let rest : standing_of w station past ≡ at_rest (hearing_of w station past).memory =
    ap (standing w.lag station.terminal w.loads memory) nothing ∙ unheard-rests w.lag station.terminal w.loads memory past in record {
      serves = serves;
      free = record {
        rests = λ d. ap (λ ms. runs w.lag (heard_on d ms)) nothing ∙ unheard-runs w.lag d past;
        heeds = λ d. ap (ignored_from w.lag (heard_on d heard)) (no-mark (standing_of w station past) memory d rest);
        over = λ owed. absurd (true≢false (sym owed ∙ ap (λ (u : Standing). is_owed u.duty) rest));
        promise = ap (λ (u : Standing). is_promise u.duty) rest;
      };
    }
