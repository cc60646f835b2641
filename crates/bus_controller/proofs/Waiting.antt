-- Between messages: the states that wait for the next attempt, and its beginning.
use Rattle.std.proofs.Common.{◌≡◌, ℕ, suc, ◌-◌, ◌<◌, ◌≤◌, true, false, ◌==◌, List, [], ◌∷◌, length, Some, None, refl, sym, ap, ◌∙◌, arith, inl, inr, ◌⊎◌}
use Rattle.std.specs.Prelude.{All, slice_get, option_map}
use Rattle.std.proofs.lemmas.Bool.{cases_Bool}
use Rattle.std.proofs.lemmas.Bool.Decides.{nat_tests}
use Rattle.std.proofs.lemmas.List.Elements.{All-get_or}
use Rattle.bus_base.specs.declared.samples.Pair.{Pair}
use Rattle.bus_line.specs.Channels.{on_channel, quiet_both, both_quiet}
use Rattle.bus_line.proofs.EndLaws.{end_since-early}
use Rattle.bus_formats.specs.Accepted.{HasItemRanges}
use Rattle.bus_formats.specs.Times.{settling_quiet}
use Rattle.bus_model.specs.Starts.{Entry, Opening, usual, superseding, taking, start_of, state_of}
use Rattle.bus_model.specs.Attempts.{Begun}
use Rattle.bus_model.specs.Course.{Course, runs_next, quiet_from}
use Rattle.bus_controller.specs.Agendas.{AgendaData, is_due, is_unsettled, begun_by}
use Rattle.bus_controller.specs.Steps.{sends, begins, waits}
use Rattle.bus_controller.specs.Stands.{agenda_of, AgendaStands, SendingStands, OpeningStands, WaitStands, SettlingStands, StateStands}
use Rattle.bus_controller.specs.declared.opening.Opening.{Opening as Wait}
use Rattle.bus_controller.specs.declared.opening.Opening.TheVariants as openings
use Rattle.bus_controller.specs.declared.states.ControllerState.TheVariants as states
use Rattle.bus_receiver.proofs.Hearing.{length-on, quiet_both-le}
use Rattle.bus_controller.proofs.Openings.{due-now, state-same, later-due, opening-more, unsettled-none}

-- the tick from which both channels are quiet, one tick later
pub quiet_from-more : (shown : Pair) (past : List Pair) → (quiet_from (shown ∷ past) ≡ quiet_from past) ⊎ (quiet_from (shown ∷ past) ≡ suc (length past))
quiet_from-more shown past = elim (cases_Bool (both_quiet shown)) [
  | inl q ↦ inl (rw q (omega arith))
  | inr p ↦ inr (rw p (omega arith))
]

module _ (c : Course) (past : List Pair) where
  -- ---- which attempt runs next

  pub none-left : c.runs ≡ None → c.holds ≡ true → c.left ≡ [] → runs_next past c ≡ None
  none-left idle holds e = rw (idle, holds, e) refl

  pub none-due : (entry : Entry) (later : List Entry) → c.runs ≡ None → c.holds ≡ true → c.left ≡ entry ∷ later →
      (start_of c.opening c.retry c.origin entry (quiet_from past) == length past) ≡ false → runs_next past c ≡ None
  none-due entry later idle holds e fails = rw (idle, holds, e, fails) refl

  pub some-due : (entry : Entry) (later : List Entry) → c.runs ≡ None → c.holds ≡ true → c.left ≡ entry ∷ later →
      (start_of c.opening c.retry c.origin entry (quiet_from past) == length past) ≡ true →
      runs_next past c ≡ Some record { entry = entry; state = state_of c.opening c.retry entry c.live; start = length past }
  some-due entry later idle holds e now = rw (idle, holds, e, now) refl

  -- ---- the command begins

  first-ranges : (entry : Entry) (later : List Entry) → c.left ≡ entry ∷ later → All (λ (e : Entry). HasItemRanges e.item) c.left → HasItemRanges entry.item
  first-ranges entry later e ranges = All-get_or (λ (x : Entry). HasItemRanges x.item) (entry ∷ later) 0 entry (omega arith) (rw e at ranges)

  sends-stand : (k : ℕ) (entry : Entry) (later : List Entry) (b : Begun) → AgendaStands c (agenda_of c) → c.holds ≡ true → c.left ≡ entry ∷ later →
      runs_next past c ≡ Some b → b.entry ≡ entry → b.start ≡ length past → SendingStands k c past (sends (agenda_of c, b))
  sends-stand k entry later b agenda holds e next is at =
      let none : length past - b.start ≡ 0 = omega (arith, at) in
      let long : length (on_channel b.state.channel past) ≡ length past = length-on b.state.channel past in
      record {
        attempt = record {
          keeps = agenda;
          runs = next;
          holds = holds;
          began = omega (arith, at);
          item = rw is (first-ranges entry later e agenda.ranges);
          later = later;
          here = e ∙ ap (λ (x : Entry). x ∷ later) (sym is);
        };
        burst = refl;
        sent = omega (arith, none);
        going = end_since-early k (on_channel b.state.channel past) b.start (omega (arith, at, long));
        quiet_is = omega (arith, none);
        few = omega arith;
      }

  begins-stand : (k : ℕ) (opening : Wait) → WaitStands c past (agenda_of c) opening → (left : List Entry) → c.left ≡ left →
      StateStands k c past (begins record { agenda = agenda_of c; opening = opening; quiet = quiet_both past } (length past))
  begins-stand k opening w [] e =
      let fails : is_due opening (agenda_of c) (quiet_both past) (length past) ≡ false = rw e refl in
      let is : begins record { agenda = agenda_of c; opening = opening; quiet = quiet_both past } (length past)
      ≡ states.Holding record { agenda = agenda_of c; opening = opening; quiet = quiet_both past } = rw fails refl in
      rw is record { waits = w; none = none-left w.runs w.holds e }
  begins-stand k opening w (entry ∷ later) e =
      let within : quiet_both past ≤ length past = quiet_both-le past in
      let due : is_due opening (agenda_of c) (quiet_both past) (length past) ≡ (start_of c.opening c.retry c.origin entry (quiet_from past) == length past) =
      rw e (due-now opening c.opening record { left = entry ∷ later; live = c.live; retry = c.retry; origin = c.origin } entry (length past) (quiet_both past) w.opens within (w.due entry later e)) in
      elim (cases_Bool (start_of c.opening c.retry c.origin entry (quiet_from past) == length past)) [
        | inr fails ↦ (
            let is : begins record { agenda = agenda_of c; opening = opening; quiet = quiet_both past } (length past)
            ≡ states.Holding record { agenda = agenda_of c; opening = opening; quiet = quiet_both past } = rw (due, fails) refl in
            rw is record { waits = w; none = none-due entry later w.runs w.holds e fails })
        | inl now ↦ (
            let begun : option_map (begun_by opening (agenda_of c) (length past)) (slice_get c.left 0)
            ≡ Some record { entry = entry; state = state_of c.opening c.retry entry c.live; start = length past } =
            rw (e, state-same opening c.opening record { left = entry ∷ later; live = c.live; retry = c.retry; origin = c.origin } entry (length past) w.opens) refl in
            let is : begins record { agenda = agenda_of c; opening = opening; quiet = quiet_both past } (length past)
            ≡ states.Sending (sends (agenda_of c, record { entry = entry; state = state_of c.opening c.retry entry c.live; start = length past })) =
            rw (due, now, begun) refl in
            rw is (sends-stand k entry later record { entry = entry; state = state_of c.opening c.retry entry c.live; start = length past }
            w.keeps w.holds e (some-due entry later w.runs w.holds e now) refl refl))
      ]

  -- ---- the channels settle

  settles : (opening : Wait) → is_unsettled opening (quiet_both past) ≡ true → (opening ≡ openings.Usual settling_quiet) × (quiet_both past < settling_quiet)
  settles (openings.Usual need) h =
      let is : need ≡ settling_quiet = grind (arith, nat_tests, h) in
      (ap (λ n. openings.Usual n) is, grind (arith, nat_tests, h))
  settles (openings.Superseding channel) h = cc
  settles (openings.Taking first) h = cc

  settles-none : (tick : ℕ) → c.runs ≡ None → c.holds ≡ true → c.opening ≡ usual settling_quiet tick → quiet_both past < settling_quiet →
      (left : List Entry) → c.left ≡ left → runs_next past c ≡ None
  settles-none tick idle holds opening few [] e = none-left idle holds e
  settles-none tick idle holds opening few (entry ∷ later) e =
      let within : quiet_both past ≤ length past = quiet_both-le past in
      none-due entry later idle holds e (rw opening (unsettled-none tick c.retry c.origin entry (length past) (quiet_both past) within few))

  settling-none : (opening : Opening) → c.opening ≡ opening → OpeningStands (openings.Usual settling_quiet) opening (length past) →
      c.runs ≡ None → c.holds ≡ true → quiet_both past < settling_quiet → runs_next past c ≡ None
  settling-none (usual needed tick) is st idle holds few = settles-none tick idle holds (is ∙ ap (λ n. usual n tick) (sym st.0)) few c.left refl
  settling-none (superseding tick channel) is st idle holds few = absurd st
  settling-none (taking tick) is st idle holds few = absurd st

  settling-stand : (opening : Wait) → WaitStands c past (agenda_of c) opening → opening ≡ openings.Usual settling_quiet → quiet_both past < settling_quiet →
      SettlingStands c past record { agenda = agenda_of c }
  settling-stand opening w is few =
      let settled : WaitStands c past (agenda_of c) (openings.Usual settling_quiet) = rw is at w in
      record { waits = settled; none = settling-none c.opening refl settled.opens w.runs w.holds few }

  waits-of : (k : ℕ) (opening : Wait) → WaitStands c past (agenda_of c) opening →
      StateStands k c past (waits (agenda_of c) opening (length past) (quiet_both past))
  waits-of k opening w = elim (cases_Bool (is_unsettled opening (quiet_both past))) [
    | inl yes_ ↦ (let is = settles opening yes_ in rw yes_ (settling-stand opening w is.0 is.1))
    | inr no_ ↦ rw no_ (begins-stand k opening w c.left refl)
  ]

  -- a controller that waits for its next attempt
  pub waits-stand : (k : ℕ) (agenda : AgendaData) (opening : Wait) → WaitStands c past agenda opening →
      StateStands k c past (waits agenda opening (length past) (quiet_both past))
  waits-stand k agenda opening w =
      rw w.keeps.is (waits-of k opening record {
        keeps = record { is = refl; ranges = w.keeps.ranges };
        runs = w.runs;
        holds = w.holds;
        opens = w.opens;
        due = w.due;
      })

  -- where nothing started it still waits a tick later
  pub wait-more : (shown : Pair) (agenda : AgendaData) (opening : Wait) → WaitStands c past agenda opening → runs_next past c ≡ None →
      WaitStands c (shown ∷ past) agenda opening
  wait-more shown agenda opening w none = record {
    keeps = w.keeps;
    runs = w.runs;
    holds = w.holds;
    opens = opening-more opening c.opening (length past) w.opens;
    due = λ entry later e. elim (cases_Bool (start_of c.opening c.retry c.origin entry (quiet_from past) == length past)) [
      | inl now ↦ (let some = some-due entry later w.runs w.holds e now in let bad : None ≡ Some record { entry = entry; state = state_of c.opening c.retry entry c.live; start = length past } = sym none ∙ some in cc)
      | inr no_ ↦ later-due c.opening c.retry c.origin entry (length past) (quiet_from past) (quiet_from (shown ∷ past)) (w.due entry later e) no_ (quiet_from-more shown past)
    ];
  }
