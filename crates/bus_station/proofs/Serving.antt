-- A tick of a station that serves.
use Rattle.std.proofs.Common.{◌≡◌, ◌≢◌, ℕ, suc, ◌+◌, ◌≤◌, Bool, true, false, nat_le, List, [], ◌∷◌, ◌++◌, length, Option, Some, None, refl, sym, ap, ◌∙◌, subst, if◌then◌else◌}
use Rattle.std.proofs.lemmas.Bool.{le-leb}
use Rattle.bus_base.specs.declared.samples.Channel.{Channel}
use Rattle.bus_base.specs.declared.samples.Pair.{Pair}
use Rattle.bus_formats.specs.Plans.{StationData}
use Rattle.bus_model.specs.Memory.{TimedLoad}
use Rattle.bus_model.specs.Orders.{Taken}
use Rattle.bus_formats.specs.Times.{taking_over}
use Rattle.bus_model.specs.Hearing.{Moment, Hearing}
use Rattle.bus_model.specs.Terminal.{standing, order_now, took_now, accepted_now, memory_after}
use Rattle.bus_model.specs.Course.{Take, Course, course, take_control}
use Rattle.bus_model.specs.Control.{OutsideTake, StationSoFar, so_far, hold, serve, taken_over, takes_in, outside_takes, is_outside, accepted_take, hear_more, moment_of, unheard_ticks}
use Rattle.bus_terminal.specs.Quiet.{quiet_moments}
use Rattle.bus_terminal.specs.Stands.{AreMade, channel_of}
use Rattle.bus_terminal.specs.TerminalStands.{TerminalKeeps}
use Rattle.bus_terminal.specs.declared.terminal.Terminal.{Terminal}
use Rattle.bus_terminal.specs.declared.state.TerminalEvent.{TerminalEvent}
use Rattle.bus_controller.specs.ControllerStands.{ControllerKeeps}
use Rattle.bus_controller.proofs.Wholes.{course-taken}
use Rattle.bus_station.specs.Roles.{tick_of}
use Rattle.bus_station.specs.Told.{attempts_told, delivery_told, delivery_of, ended_in, heard_newest, delivery_in, delivered_newest}
use Rattle.bus_station.specs.Hears.{HeardBy}
use Rattle.bus_station.specs.StationStands.{AreTaken, taking_of, Stands, StationKeeps, AfterTick}
use Rattle.bus_station.specs.declared.station.Station.{Station}
use Rattle.bus_station.specs.declared.event.StationEvent.{StationEvent}
use Rattle.bus_station.proofs.Courses.{serves-more, ended-before}
use Rattle.bus_station.proofs.Yields.{none-told}
use Rattle.bus_station.proofs.Quiet.{unheard-quiet}
use Rattle.bus_station.proofs.Offers.{accepted-owed, some-left}
use Rattle.bus_station.proofs.SoFar.{so_far-tick, keeps}
use Rattle.bus_station.proofs.Ticks.{made-more, taken-more, not-outside, delivery_heard, taken-told}

-- where control isn't held it isn't being taken
off-taking : (n : ℕ) (c : Course) → c.holds ≡ false → taking_of n c ≡ None
off-taking n c off = rw off refl

-- and a first command to come is known
on-taking : (n first : ℕ) (c : Course) → n ≤ first → taking_of n (take_control first c) ≡ Some first
on-taking n first c early = let here : nat_le n first ≡ true = le-leb n first early in rw here refl

module _ (k : ℕ) (station : StationData) (starts : Bool) (loads : List TimedLoad) (outside : List OutsideTake) where
  -- a station so far
  abbrev pub sofar : List Pair → StationSoFar
  sofar past = so_far k station starts loads outside past

  -- the course of its controller
  abbrev pub before : List Pair → Course
  before past = course k station starts (sofar past).takes past

  -- ---- the takes of a tick

  -- no outside take is of this tick
  none-outside : (tick : ℕ) (all : List OutsideTake) → AreTaken station.terminal.address tick all → outside_takes k station starts loads outside tick all ≡ []
  none-outside tick [] taken = refl
  none-outside tick (take ∷ all) taken =
      let no : is_outside k station starts loads outside tick take ≡ false = not-outside take.address station.terminal.address take.tick tick taken.0 in
      rw no (none-outside tick all taken.1)

  -- so the takes are those by acceptance
  pub takes-accepted : (tick : ℕ) (hearing : Hearing) (end : Option ℕ) → AreTaken station.terminal.address tick outside →
      accepted_now k station.terminal loads hearing ≡ end →
      takes_in k station starts loads outside tick hearing ≡ accepted_take tick end ++ []
  takes-accepted tick hearing end taken is =
      ap (λ (o : Option ℕ). accepted_take tick o ++ outside_takes k station starts loads outside tick outside) is
      ∙ ap (λ (more : List Take). accepted_take tick end ++ more) (none-outside tick outside taken)

  -- a station that served, after a tick with these takes
  pub so_far-served : (x : Pair) (past : List Pair) (takes : List Take) → (before past).holds ≡ false →
      takes_in k station starts loads outside (length past) (hear_more (sofar past).hearing (moment_of x (before past))) ≡ takes →
      sofar (x ∷ past) ≡ taken_over k station starts loads outside (x ∷ past) (sofar past) (hear_more (sofar past).hearing (moment_of x (before past))) takes
  so_far-served x past takes off made =
      so_far-tick k station starts loads outside x past
      ∙ ap (λ (b : Bool). if b then hold k station starts loads outside x past (sofar past) (course k station starts (sofar past).takes (x ∷ past))
      else serve k station starts loads outside x past (sofar past) (before past)) off
      ∙ ap (taken_over k station starts loads outside (x ∷ past) (sofar past) (hear_more (sofar past).hearing (moment_of x (before past)))) made

  -- a terminal that serves tells the block that it took
  served-delivered : (event : TerminalEvent) (terminal : Terminal) (x : Pair) (past : List Pair) → (before past).holds ≡ false →
      HeardBy k station.terminal loads terminal event (length past) (sofar past).hearing (moment_of x (before past)) →
      delivery_heard event ≡ delivered_newest k station starts loads outside (x ∷ past)
  served-delivered event terminal x past off heard =
      let h : Hearing = (sofar past).hearing in
      let now : Moment = moment_of x (before past) in
      let same : heard_newest k station starts loads outside x past ≡ now = rw off refl in
      let c : Channel = channel_of (standing k station.terminal loads h.memory h.ticks) (order_now k station.terminal (now ∷ h.ticks)
      (standing k station.terminal loads h.memory h.ticks)) in
      let taken : Option Taken = took_now k station.terminal loads (hear_more h now) in
      taken-told event (length past) c taken heard.took
      ∙ ap (λ (tick : ℕ). delivery_of tick c taken) (sym (keeps k station starts loads outside past).long)
      ∙ sym (ap (λ (m : Moment). delivery_in k station starts loads outside m h) same)

  -- ---- no control is taken

  -- it stands for one tick more, and tells the block
  pub served : (old new : Station) (event : TerminalEvent) (told : StationEvent) (x : Pair) (past : List Pair) →
      Stands k station starts loads outside old past (sofar past) → (before past).holds ≡ false →
      accepted_now k station.terminal loads (hear_more (sofar past).hearing (moment_of x (before past))) ≡ None →
      ControllerKeeps k station starts (sofar past).takes new.controller (x ∷ past) →
      HeardBy k station.terminal loads new.terminal event (length past) (sofar past).hearing (moment_of x (before past)) →
      new.address ≡ old.address → new.taking ≡ old.taking → attempts_told told ≡ [] → delivery_told told ≡ delivery_heard event →
      AfterTick k station starts loads outside new told x past
  unfolding StationKeeps
  served old new event told x past st off none controller heard address taking no_attempt delivery =
      let kept = keeps k station starts loads outside past in
      let n : ℕ = length past in
      let c : Course = before past in
      let same = so_far-served x past [] off (takes-accepted n (hear_more (sofar past).hearing (moment_of x c)) None st.taken none) in
      let course_same : course k station starts (sofar past).takes (x ∷ past) ≡ c = serves-more k station starts (sofar past).takes x past kept.later off in
      record {
        stands = subst (λ (s : StationSoFar). Stands k station starts loads outside new (x ∷ past) s) (sym same) record {
          address = address ∙ st.address;
          controller = controller;
          terminal = heard.stands;
          taking = taking ∙ st.taking ∙ ap tick_of (off-taking n c off)
              ∙ sym (ap tick_of (off-taking (suc n) (course k station starts (sofar past).takes (x ∷ past)) (ap (λ (d : Course). d.holds) course_same ∙ off)));
          made = made-more station.terminal.address n loads st.made;
          taken = taken-more station.terminal.address n outside st.taken;
        };
        ended = no_attempt ∙ sym (
            ap (λ (s : StationSoFar). ended_in station.terminal.address n (course k station starts s.takes (x ∷ past)).ended) same
            ∙ ap (λ (d : Course). ended_in station.terminal.address n d.ended) course_same
            ∙ none-told station.terminal.address n c.ended (ended-before k station starts (sofar past).takes past));
        took = delivery ∙ served-delivered event new.terminal x past off heard;
      }

  -- so it goes on with what it heard, without control
  pub served-next : (x : Pair) (past : List Pair) → AreTaken station.terminal.address (length past) outside → (before past).holds ≡ false →
      accepted_now k station.terminal loads (hear_more (sofar past).hearing (moment_of x (before past))) ≡ None →
      ((sofar (x ∷ past)).hearing ≡ hear_more (sofar past).hearing (moment_of x (before past))) × ((before (x ∷ past)).holds ≡ false)
  served-next x past taken off none =
      let kept = keeps k station starts loads outside past in
      let c : Course = before past in
      let same = so_far-served x past [] off (takes-accepted (length past) (hear_more (sofar past).hearing (moment_of x c)) None taken none) in (
        ap (λ (s : StationSoFar). s.hearing) same,
        ap (λ (s : StationSoFar). (course k station starts s.takes (x ∷ past)).holds) same
            ∙ ap (λ (d : Course). d.holds) (serves-more k station starts (sofar past).takes x past kept.later off) ∙ off,
      )

  -- ---- control is taken

  -- the first command after it was taken, when this tick was heard
  abbrev pub took : Pair → List Pair → Hearing → ℕ → StationSoFar → StationSoFar
  took x past hearing first s = record {
    takes = s.takes ++ record { heard = suc (length past); first = first } ∷ [];
    hearing = record { memory = memory_after k station.terminal loads hearing; ticks = unheard_ticks (x ∷ past) };
  }

  -- it stands for what was taken over
  pub took-stands : (new : Station) (x : Pair) (past : List Pair) (s : StationSoFar) (hearing : Hearing) (first : ℕ) → new.address ≡ station.terminal.address →
      new.taking ≡ Some record { 0 = first } → suc (length past) ≤ first →
      ControllerKeeps k station starts (s.takes ++ record { heard = suc (length past); first = first } ∷ []) new.controller (x ∷ past) →
      TerminalKeeps k station.terminal loads new.terminal (record {
        memory = memory_after k station.terminal loads hearing;
        ticks = quiet_moments
            (suc (length past));
      }) →
      AreMade station.terminal.address (suc (length past)) loads → AreTaken station.terminal.address (suc (length past)) outside →
      Stands k station starts loads outside new (x ∷ past) (took x past hearing first s)
  took-stands new x past s hearing first address taking early controller terminal made taken = record {
    address = address;
    controller = controller;
    terminal = subst (λ (ticks : List Moment). TerminalKeeps k station.terminal loads new.terminal
        (record { memory = memory_after k station.terminal loads hearing; ticks = ticks }))
        (sym (unheard-quiet (x ∷ past))) terminal;
    taking = taking ∙ sym (ap (λ (c : Course). tick_of (taking_of (suc (length past)) c)) (course-taken k station starts s.takes first (x ∷ past))
        ∙ ap tick_of (on-taking (suc (length past)) first (course k station starts s.takes (x ∷ past)) early));
    made = made;
    taken = taken;
  }

  -- it stands for one tick more, with control
  pub took-over : (old new : Station) (event : TerminalEvent) (told : StationEvent) (x : Pair) (past : List Pair) (terminal : Terminal) (end first : ℕ) →
      Stands k station starts loads outside old past (sofar past) → (before past).holds ≡ false →
      accepted_now k station.terminal loads (hear_more (sofar past).hearing (moment_of x (before past))) ≡ Some end → first ≡ end + taking_over →
      suc (length past) ≤ first →
      ControllerKeeps k station starts ((sofar past).takes ++ record { heard = suc (length past); first = first } ∷ []) new.controller (x ∷ past) →
      HeardBy k station.terminal loads terminal event (length past) (sofar past).hearing (moment_of x (before past)) →
      TerminalKeeps k station.terminal loads new.terminal
      (record {
        memory = memory_after k station.terminal loads (hear_more (sofar past).hearing (moment_of x (before past)));
        ticks = quiet_moments
            (suc (length past));
      }) →
      new.address ≡ old.address → new.taking ≡ Some record { 0 = first } → attempts_told told ≡ [] → delivery_told told ≡ delivery_heard event →
      AfterTick k station starts loads outside new told x past
  unfolding StationKeeps
  took-over old new event told x past terminal end first st off accepted at early controller heard woken address taking no_attempt delivery =
      let kept = keeps k station starts loads outside past in
      let n : ℕ = length past in
      let c : Course = before past in
      let hearing : Hearing = hear_more (sofar past).hearing (moment_of x c) in
      let takes : List Take = record { heard = suc n; first = first } ∷ [] in
      let made : takes_in k station starts loads outside n hearing ≡ takes =
      takes-accepted n hearing (Some end) st.taken accepted ∙ ap (λ (f : ℕ). record { heard = suc n; first = f } ∷ []) (sym at) in
      let same : sofar (x ∷ past) ≡ took x past hearing first (sofar past) = so_far-served x past takes off made in
      let course_same : course k station starts (sofar past).takes (x ∷ past) ≡ c = serves-more k station starts (sofar past).takes x past kept.later off in
      record {
        stands = subst (λ (s : StationSoFar). Stands k station starts loads outside new (x ∷ past) s) (sym same)
            (took-stands new x past (sofar past) hearing first (address ∙ st.address) taking early controller woken
            (made-more station.terminal.address n loads st.made) (taken-more station.terminal.address n outside st.taken));
        ended = no_attempt ∙ sym (
            ap (λ (s : StationSoFar). ended_in station.terminal.address n (course k station starts s.takes (x ∷ past)).ended) same
            ∙ ap (λ (d : Course). ended_in station.terminal.address n d.ended) (course-taken k station starts (sofar past).takes first (x ∷ past))
            ∙ ap (λ (d : Course). ended_in station.terminal.address n d.ended) course_same
            ∙ none-told station.terminal.address n c.ended (ended-before k station starts (sofar past).takes past));
        took = delivery ∙ served-delivered event terminal x past off heard;
      }

  -- so it holds control, and its terminal heard quiet ticks
  pub took-next : (x : Pair) (past : List Pair) (end first : ℕ) → AreTaken station.terminal.address (length past) outside → (before past).holds ≡ false →
      accepted_now k station.terminal loads (hear_more (sofar past).hearing (moment_of x (before past))) ≡ Some end → first ≡ end + taking_over →
      ((sofar (x ∷ past)).hearing.ticks ≡ quiet_moments (suc (length past))) × ((before (x ∷ past)).holds ≡ true)
  took-next x past end first taken off accepted at =
      let n : ℕ = length past in
      let hearing : Hearing = hear_more (sofar past).hearing (moment_of x (before past)) in
      let takes : List Take = record { heard = suc n; first = first } ∷ [] in
      let made : takes_in k station starts loads outside n hearing ≡ takes =
      takes-accepted n hearing (Some end) taken accepted ∙ ap (λ (f : ℕ). record { heard = suc n; first = f } ∷ []) (sym at) in
      let same : sofar (x ∷ past) ≡ took x past hearing first (sofar past) = so_far-served x past takes off made in (
        ap (λ (s : StationSoFar). s.hearing.ticks) same ∙ unheard-quiet (x ∷ past),
        ap (λ (s : StationSoFar). (course k station starts s.takes (x ∷ past)).holds) same
            ∙ ap (λ (d : Course). d.holds) (course-taken k station starts (sofar past).takes first (x ∷ past)),
      )

  -- items are left where control is accepted
  pub accepted-left : (x : Pair) (past : List Pair) (end : ℕ) → (before past).holds ≡ false →
      accepted_now k station.terminal loads (hear_more (sofar past).hearing (moment_of x (before past))) ≡ Some end → (before past).left ≢ []
  accepted-left x past end off accepted =
      let kept = keeps k station starts loads outside past in
      let hearing : Hearing = (sofar past).hearing in
      some-left (before past).left (kept.offers off
      (accepted-owed k station.terminal loads (moment_of x (before past)) hearing.ticks
      (standing k station.terminal loads hearing.memory hearing.ticks) end accepted))
