-- An attempt goes on, or its message ends.
use Rattle.std.proofs.Common.{◌≡◌, ℕ, Bool, true, false, not, List, ◌∷◌, length, Some, None, refl, ap, arith}
use Rattle.std.specs.Prelude.{All}
use Rattle.std.proofs.lemmas.List.Elements.{All-drop}
use Rattle.bus_base.specs.declared.samples.Pair.{Pair}
use Rattle.bus_formats.specs.Accepted.{HasItemRanges}
use Rattle.bus_retry.specs.Retries.{next_of}
use Rattle.bus_retry.specs.declared.Choice.{Choice}
use Rattle.bus_retry.specs.declared.Choice.TheVariants.{Again, Done}
use Rattle.bus_model.specs.Starts.{Entry, left_after}
use Rattle.bus_model.specs.Attempts.{Begun, Ended}
use Rattle.bus_model.specs.Controller.{ending_now}
use Rattle.bus_model.specs.Course.{Course, runs_next, run_on, close, gives}
use Rattle.bus_receiver.specs.Moments.{moment_of}
use Rattle.bus_controller.specs.Agendas.{AgendaData, agenda_after, opens_after}
use Rattle.bus_controller.specs.Steps.{going, closes, goes_on}
use Rattle.bus_controller.specs.Stands.{agenda_of, AgendaStands, AttemptStands, WaitStands, StateStands, NextStands}
use Rattle.bus_controller.specs.declared.states.ControllerState.{ControllerState}
use Rattle.bus_controller.proofs.Openings.{after-stands, after-due}
use Rattle.bus_controller.proofs.Waiting.{waits-stand}

left-ranges : (choice : Choice) (left : List Entry) → All (λ (e : Entry). HasItemRanges e.item) left → All (λ (e : Entry). HasItemRanges e.item) (left_after choice left)
left-ranges Done left ranges = All-drop (λ (e : Entry). HasItemRanges e.item) 1 left ranges
left-ranges (Again state) left ranges = ranges

module _ (k : ℕ) (c : Course) (shown : Pair) (past : List Pair) where
  -- the attempt goes on
  pub runs-on : (agenda : AgendaData) (b : Begun) → AttemptStands c past agenda b → AttemptStands (record c { runs = Some b }) (shown ∷ past) agenda b
  runs-on agenda b st = record {
    keeps = record { is = st.keeps.is; ranges = st.keeps.ranges };
    runs = refl;
    holds = st.holds;
    began = (let began = st.began in omega (arith, began));
    item = st.item;
    later = st.later;
    here = st.here;
  }

  pub going-stands : (agenda : AgendaData) (b : Begun) (state : ControllerState) → AttemptStands c past agenda b → ending_now k b (shown ∷ past) ≡ None →
      StateStands k (record c { runs = Some b }) (shown ∷ past) state → NextStands k c shown past (going state)
  going-stands agenda b state st none stands =
      let is : run_on k shown past c (runs_next past c) ≡ record c { runs = Some b } = rw (st.runs, none) refl in
      rw is (stands, refl)

  -- what is kept after an ending
  closed-agenda : (b : Begun) (e : Ended) → AgendaStands c (agenda_of c) → AgendaStands (close c b e (length past)) (agenda_after (agenda_of c) b e.outcome)
  closed-agenda b e st = record { is = refl; ranges = left-ranges (next_of b.entry.item b.state e.outcome) c.left st.ranges }

  closed-waits : (b : Begun) (e : Ended) → AgendaStands c (agenda_of c) → gives e.outcome ≡ false →
      WaitStands (close c b e (length past)) (shown ∷ past) (agenda_after (agenda_of c) b e.outcome) (opens_after e.outcome b.state.channel)
  closed-waits b e st keeps_control = record {
    keeps = closed-agenda b e st;
    runs = refl;
    holds = rw keeps_control refl;
    opens = after-stands e.outcome b.state.channel (length past);
    due = λ entry later here. after-due e.outcome b.state.channel (length past) _ _ entry _;
  }

  closed-by : (b : Begun) (e : Ended) → AgendaStands c (agenda_of c) → (given : Bool) → gives e.outcome ≡ given →
      StateStands k (close c b e (length past)) (shown ∷ past)
      (goes_on given (agenda_after (agenda_of c) b e.outcome) (opens_after e.outcome b.state.channel) (moment_of k shown past))
  closed-by b e st true is = record { keeps = closed-agenda b e st; runs = refl; holds = ap not is }
  closed-by b e st false is =
      waits-stand (close c b e (length past)) (shown ∷ past) k (agenda_after (agenda_of c) b e.outcome) (opens_after e.outcome b.state.channel)
      (closed-waits b e st is)

  closed-state : (b : Begun) (e : Ended) → AgendaStands c (agenda_of c) →
      StateStands k (close c b e (length past)) (shown ∷ past)
      (goes_on (gives e.outcome) (agenda_after (agenda_of c) b e.outcome) (opens_after e.outcome b.state.channel) (moment_of k shown past))
  closed-state b e st = closed-by b e st (gives e.outcome) refl

  -- the message ends
  pub closes-stands : (agenda : AgendaData) (b : Begun) (e : Ended) → AttemptStands c past agenda b → ending_now k b (shown ∷ past) ≡ Some e →
      NextStands k c shown past (closes agenda b e (moment_of k shown past))
  closes-stands agenda b e st some =
      let is : run_on k shown past c (runs_next past c) ≡ close c b e (length past) = rw (st.runs, some) refl in
      rw (is, st.keeps.is) (closed-state b e record { is = refl; ranges = st.keeps.ranges }, refl)
