-- A station takes control by itself: an outside take at the last tick heard.
use Rattle.std.proofs.Common.{◌≡◌, ℕ, suc, ◌<◌, ◌≤◌, Bool, true, false, ◌==◌, List, [], ◌∷◌, ◌++◌, length, Option, Some, None, refl, sym, ap, ◌∙◌, subst, arith, append_assoc, if◌then◌else◌}
use Rattle.std.specs.Prelude.{⊤}
use Rattle.std.proofs.lemmas.Bool.Decides.{nat_tests}
use Rattle.bus_base.specs.declared.samples.Pair.{Pair}
use Rattle.bus_formats.specs.Plans.{StationData}
use Rattle.bus_model.specs.Memory.{TimedLoad}
use Rattle.bus_model.specs.Hearing.{Hearing}
use Rattle.bus_model.specs.Terminal.{accepted_now, memory_after}
use Rattle.bus_model.specs.Course.{Take, Course, course, with_takes, take_control, run_on, runs_next}
use Rattle.bus_model.specs.Control.{OutsideTake, StationSoFar, so_far, so_far_after, hold, taken_over, takes_in, outside_takes, is_outside, accepted_take, hear_more, moment_of}
use Rattle.bus_terminal.specs.Quiet.{quiet_moments}
use Rattle.bus_terminal.specs.TerminalStands.{TerminalKeeps}
use Rattle.bus_terminal.proofs.Standing.{by-test}
use Rattle.bus_controller.specs.ControllerStands.{ControllerKeeps}
use Rattle.bus_station.specs.StationStands.{AreTaken, Stands}
use Rattle.bus_station.specs.declared.station.Station.{Station}
use Rattle.bus_station.proofs.Quiet.{unheard-quiet}
use Rattle.bus_station.proofs.Serving.{sofar, before, so_far-served, took, took-stands}

-- ---- takes of a tick give control in it

-- control stays
holds-kept : (takes : List Take) (n : ℕ) (c : Course) → c.holds ≡ true → (with_takes takes n c).holds ≡ true
holds-kept [] n c on = on
holds-kept (take ∷ takes) n c on =
    holds-kept takes n (if take.heard == n then take_control take.first c else c)
    (by-test (λ (d : Course). d.holds ≡ true) (take.heard == n) (take_control take.first c) c (λ _. refl) (λ _. on))

-- takes one after the other
takes-append : (takes more : List Take) (n : ℕ) (c : Course) → with_takes (takes ++ more) n c ≡ with_takes more n (with_takes takes n c)
takes-append [] more n c = refl
takes-append (take ∷ takes) more n c = takes-append takes more n (if take.heard == n then take_control take.first c else c)

-- the first of this tick gives control
taken-holds : (take : Take) (takes : List Take) (n : ℕ) (c : Course) → take.heard ≡ n → (with_takes (take ∷ takes) n c).holds ≡ true
taken-holds take takes n c now =
    let here : (take.heard == n) ≡ true = grind (arith, nat_tests, now) in
    ap (λ (b : Bool). (with_takes takes n (if b then take_control take.first c else c)).holds) here ∙ holds-kept takes n (take_control take.first c) refl

-- so a course with it holds control
now-holds : (k : ℕ) (station : StationData) (starts : Bool) (takes : List Take) (take : Take) (more : List Take) (x : Pair) (past : List Pair) →
    take.heard ≡ suc (length past) →
    (course k station starts (takes ++ take ∷ more) (x ∷ past)).holds ≡ true
unfolding course
now-holds k station starts takes take more x past now =
    let c : Course = course k station starts (takes ++ take ∷ more) past in
    let d : Course = run_on k x past c (runs_next past c) in
    ap (λ (e : Course). e.holds) (takes-append takes (take ∷ more) (suc (length past)) d)
    ∙ taken-holds take more (suc (length past)) (with_takes takes (suc (length past)) d) now

-- takes of this tick alone
abbrev AreNow : ℕ → List Take → Type 0
AreNow now [] = ⊤
AreNow now (take ∷ takes) = (take.heard ≡ now) × AreNow now takes

-- two lists of them
now-append : (now : ℕ) (takes more : List Take) → AreNow now takes → AreNow now more → AreNow now (takes ++ more)
now-append now [] more f g = g
now-append now (take ∷ takes) more f g = (f.0, now-append now takes more f.1 g)

-- one take more
abbrev pub with-take : (station : StationData) (outside : List OutsideTake) (tick first : ℕ) → List OutsideTake
with-take station outside tick first = outside ++ record { tick = tick; address = station.terminal.address; first = first } ∷ []

module _ (k : ℕ) (station : StationData) (starts : Bool) (loads : List TimedLoad) where
  -- outside takes of a tick
  outside-now : (outside : List OutsideTake) (tick : ℕ) (all : List OutsideTake) → AreNow (suc tick) (outside_takes k station starts loads outside tick all)
  outside-now outside tick [] = tt
  outside-now outside tick (take ∷ all) =
      by-test (AreNow (suc tick)) (is_outside k station starts loads outside tick take) _ _
      (λ _. (refl, outside-now outside tick all)) (λ _. outside-now outside tick all)

  -- all takes of a tick
  takes-now : (outside : List OutsideTake) (tick : ℕ) (hearing : Hearing) → AreNow (suc tick) (takes_in k station starts loads outside tick hearing)
  takes-now outside tick hearing =
      now-append (suc tick) (accepted_take tick (accepted_now k station.terminal loads hearing)) (outside_takes k station starts loads outside tick outside)
      (accepted (accepted_now k station.terminal loads hearing)) (outside-now outside tick outside) where
        accepted : (end : Option ℕ) → AreNow (suc tick) (accepted_take tick end)
        accepted None = tt
        accepted (Some end) = (refl, tt)

  -- a station that serves on took nothing
  none-by : (outside : List OutsideTake) (x : Pair) (past : List Pair) (takes : List Take) → (before k station starts loads outside past).holds ≡ false →
      (before k station starts loads outside (x ∷ past)).holds ≡ false →
      takes_in k station starts loads outside (length past) (hear_more (sofar k station starts loads outside past).hearing
      (moment_of x (before k station starts loads outside past))) ≡ takes →
      AreNow (suc (length past)) takes → takes ≡ []
  none-by outside x past [] off after is now = refl
  none-by outside x past (take ∷ takes) off after is now =
      let same = so_far-served k station starts loads outside x past (take ∷ takes) off is in
      let on : (before k station starts loads outside (x ∷ past)).holds ≡ true =
      ap (λ (s : StationSoFar). (course k station starts s.takes (x ∷ past)).holds) same
      ∙ now-holds k station starts (sofar k station starts loads outside past).takes take takes x past now.0 in
      cc

  -- its list of takes is empty
  none-taken : (outside : List OutsideTake) (x : Pair) (past : List Pair) → (before k station starts loads outside past).holds ≡ false →
      (before k station starts loads outside (x ∷ past)).holds ≡ false →
      takes_in k station starts loads outside (length past) (hear_more (sofar k station starts loads outside past).hearing
      (moment_of x (before k station starts loads outside past))) ≡ []
  none-taken outside x past off after =
      let hearing : Hearing = hear_more (sofar k station starts loads outside past).hearing (moment_of x (before k station starts loads outside past)) in
      none-by outside x past (takes_in k station starts loads outside (length past) hearing) off after refl (takes-now outside (length past) hearing)

  -- ---- a take more

  -- of a later tick
  later-outside : (outside : List OutsideTake) (take : OutsideTake) (tick : ℕ) (all : List OutsideTake) → tick < take.tick →
      outside_takes k station starts loads outside tick (all ++ take ∷ []) ≡ outside_takes k station starts loads outside tick all
  later-outside outside take tick [] later =
      let no : (take.tick == tick) ≡ false = grind (arith, nat_tests, later) in
      rw no refl
  later-outside outside take tick (first ∷ all) later =
      ap (λ (takes : List Take). if is_outside k station starts loads outside tick first then record { heard = suc tick; first = first.first } ∷ takes else
      takes)
      (later-outside outside take tick all later)

  -- of this tick
  this-outside : (outside : List OutsideTake) (tick first : ℕ) (all : List OutsideTake) →
      outside_takes k station starts loads outside tick (with-take station all tick first)
      ≡ outside_takes k station starts loads outside tick all ++ record { heard = suc tick; first = first } ∷ []
  this-outside outside tick first [] =
      let now : (tick == tick) ≡ true = grind (arith, nat_tests) in
      let own : (station.terminal.address == station.terminal.address) ≡ true = grind (arith, nat_tests) in
      rw (now, own) refl
  this-outside outside tick first (other ∷ all) =
      ap (λ (takes : List Take). if is_outside k station starts loads outside tick other then record { heard = suc tick; first = other.first } ∷ takes else
      takes)
      (this-outside outside tick first all)
      ∙ inside (is_outside k station starts loads outside tick other) (record { heard = suc tick; first = other.first })
      (outside_takes k station starts loads outside tick all) (record { heard = suc tick; first = first } ∷ []) where
        inside : (b : Bool) (take : Take) (takes more : List Take) → (if b then take ∷ (takes ++ more) else takes ++ more) ≡
            (if b then take ∷ takes else takes) ++ more
        inside true take takes more = refl
        inside false take takes more = refl

  -- one tick before its own
  after-outside : (outside : List OutsideTake) (tick first : ℕ) (x : Pair) (past : List Pair) (s : StationSoFar) → length past < tick →
      so_far_after k station starts loads (with-take station outside tick first) x past s ≡ so_far_after k station starts loads outside x past s
  after-outside outside tick first x past s later =
      let c : Course = course k station starts s.takes past in
      let hearing : Hearing = hear_more s.hearing (moment_of x c) in
      ap (λ (takes : List Take). if c.holds then hold k station starts loads outside x past s (course k station starts s.takes (x ∷ past))
      else taken_over k station starts loads outside (x ∷ past) s hearing
      (accepted_take (length past) (accepted_now k station.terminal loads hearing) ++ takes))
      (later-outside outside record { tick = tick; address = station.terminal.address; first = first } (length past) outside later)

  -- nothing before its tick changes
  pub before-outside : (outside : List OutsideTake) (tick first : ℕ) (past : List Pair) → length past ≤ tick →
      sofar k station starts loads (with-take station outside tick first) past ≡ sofar k station starts loads outside past
  unfolding so_far
  before-outside outside tick first [] early = refl
  before-outside outside tick first (x ∷ past) early =
      ap (so_far_after k station starts loads (with-take station outside tick first) x past) (before-outside outside tick first past (omega (arith, early)))
      ∙ after-outside outside tick first x past (sofar k station starts loads outside past) (omega (arith, early))

  -- ---- a station that took control by itself

  -- takes that were made, with one more
  taken-append : (tick now : ℕ) (first : ℕ) (outside : List OutsideTake) → tick < now → AreTaken station.terminal.address now outside →
      AreTaken station.terminal.address now (with-take station outside tick first)
  taken-append tick now first [] before taken = (λ _. before, tt)
  taken-append tick now first (take ∷ outside) before taken = (taken.0, taken-append tick now first outside before taken.1)

  -- a station that served, where it is known as it was
  served-by : (outside : List OutsideTake) (x : Pair) (past : List Pair) (takes : List Take) (s : StationSoFar) →
      sofar k station starts loads outside past ≡ s →
      (course k station starts s.takes past).holds ≡ false →
      takes_in k station starts loads outside (length past) (hear_more s.hearing (moment_of x (course k station starts s.takes past))) ≡ takes →
      sofar k station starts loads outside (x ∷ past)
      ≡ taken_over k station starts loads outside (x ∷ past) s (hear_more s.hearing (moment_of x (course k station starts s.takes past))) takes
  served-by outside x past takes s is =
      subst (λ (t : StationSoFar). (course k station starts t.takes past).holds ≡ false →
      takes_in k station starts loads outside (length past) (hear_more t.hearing (moment_of x (course k station starts t.takes past))) ≡ takes →
      sofar k station starts loads outside (x ∷ past)
      ≡ taken_over k station starts loads outside (x ∷ past) t (hear_more t.hearing (moment_of x (course k station starts t.takes past))) takes) is
      (so_far-served k station starts loads outside x past takes)

  -- a station that served, with this take
  pub itself-now : (outside : List OutsideTake) (x : Pair) (past : List Pair) (first : ℕ) →
      (before k station starts loads outside past).holds ≡ false → (before k station starts loads outside (x ∷ past)).holds ≡ false →
      sofar k station starts loads (with-take station outside (length past) first) (x ∷ past)
      ≡ took k station starts loads (with-take station outside (length past) first) x past
      (hear_more (sofar k station starts loads outside past).hearing (moment_of x (before k station starts loads outside past))) first
      (sofar k station starts loads outside past)
  itself-now outside x past first off after =
      let n : ℕ = length past in
      let s : StationSoFar = sofar k station starts loads outside past in
      let hearing : Hearing = hear_more s.hearing (moment_of x (before k station starts loads outside past)) in
      let more : List OutsideTake = with-take station outside n first in
      let take : Take = record { heard = suc n; first = first } in
      let none : takes_in k station starts loads outside n hearing ≡ [] = none-taken outside x past off after in
      let made : takes_in k station starts loads more n hearing ≡ take ∷ [] =
      ap (λ (takes : List Take). accepted_take n (accepted_now k station.terminal loads hearing) ++ takes) (this-outside more n first outside)
      ∙ sym (append_assoc (accepted_take n (accepted_now k station.terminal loads hearing)) (outside_takes k station starts loads outside n outside)
      (take ∷ []))
      ∙ ap (λ (takes : List Take). takes ++ take ∷ []) none in
      served-by more x past (take ∷ []) s (before-outside outside n first past (omega arith)) off made

  -- its terminal heard quiet ticks then
  pub itself-rests : (outside : List OutsideTake) (x : Pair) (past : List Pair) (first : ℕ) →
      (before k station starts loads outside past).holds ≡ false → (before k station starts loads outside (x ∷ past)).holds ≡ false →
      (sofar k station starts loads (with-take station outside (length past) first) (x ∷ past)).hearing.ticks ≡ quiet_moments (suc (length past))
  itself-rests outside x past first off after =
      ap (λ (s : StationSoFar). s.hearing.ticks) (itself-now outside x past first off after) ∙ unheard-quiet (x ∷ past)

  -- it stands for the takes with this one
  pub took-itself : (old new : Station) (outside : List OutsideTake) (x : Pair) (past : List Pair) (first : ℕ) →
      Stands k station starts loads outside old (x ∷ past) (sofar k station starts loads outside (x ∷ past)) →
      (before k station starts loads outside past).holds ≡ false → (before k station starts loads outside (x ∷ past)).holds ≡ false →
      suc (length past) ≤ first → new.address ≡ old.address → new.taking ≡ Some record { 0 = first } →
      ControllerKeeps k station starts ((sofar k station starts loads outside (x ∷ past)).takes ++ record {
        heard = suc
            (length past);
        first = first;
      } ∷ []) new.controller (x ∷ past) →
      TerminalKeeps k station.terminal loads new.terminal
      (record {
        memory = memory_after k station.terminal loads (sofar k station starts loads outside (x ∷ past)).hearing;
        ticks = quiet_moments
            (suc (length past));
      }) →
      Stands k station starts loads (with-take station outside (length past) first) new (x ∷ past)
      (sofar k station starts loads (with-take station outside (length past) first) (x ∷ past))
  took-itself old new outside x past first st off after early address taking controller terminal =
      let n : ℕ = length past in
      let s : StationSoFar = sofar k station starts loads outside past in
      let hearing : Hearing = hear_more s.hearing (moment_of x (before k station starts loads outside past)) in
      let more : List OutsideTake = with-take station outside n first in
      let take : Take = record { heard = suc n; first = first } in
      let none : takes_in k station starts loads outside n hearing ≡ [] = none-taken outside x past off after in
      let same : sofar k station starts loads outside
      (x ∷ past) ≡ record s { hearing = hearing } = so_far-served k station starts loads outside x past [] off none in
      let now : sofar k station starts loads more (x ∷ past) ≡ took k station starts loads more x past hearing first s =
      itself-now outside x past first off after in
      subst (λ (t : StationSoFar). Stands k station starts loads more new (x ∷ past) t) (sym now)
      (took-stands k station starts loads more new x past s hearing first (address ∙ st.address) taking early
      (subst (λ (t : StationSoFar). ControllerKeeps k station starts (t.takes ++ take ∷ []) new.controller (x ∷ past)) same controller)
      (subst (λ (t : StationSoFar). TerminalKeeps k station.terminal loads new.terminal
      (record { memory = memory_after k station.terminal loads t.hearing; ticks = quiet_moments (suc n) })) same terminal)
      st.made (taken-append n (suc n) first outside (omega arith) st.taken))
