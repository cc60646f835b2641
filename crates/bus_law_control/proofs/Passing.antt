-- A station whose offer of control was accepted, or that yields.
use Rattle.std.proofs.Common.{◌≡◌, ℕ, Bool, true, not, List, [], ◌∷◌, length, refl, sym, ap, ◌∙◌, subst}
use Rattle.std.proofs.lemmas.Bool.{eq-eqb}
use Rattle.std.specs.Prelude.{◌&&◌, ◌==◌, if◌then◌else◌}
use Rattle.bus_base.specs.declared.samples.Pair.{Pair}
use Rattle.bus_formats.specs.Plans.{StationData}
use Rattle.bus_formats.specs.declared.form.Outcome.{Outcome}
use Rattle.bus_formats.specs.declared.form.Outcome.TheVariants.{Passed, Yielded}
use Rattle.bus_model.specs.Memory.{TimedLoad}
use Rattle.bus_model.specs.Attempts.{Begun, Ended}
use Rattle.bus_model.specs.Course.{Course, course, gives, close}
use Rattle.bus_model.specs.Control.{OutsideTake, StationSoFar, unheard, moment_of, is_yielded, yielded_in, serve, hold, course_with, so_far, course_after}
use Rattle.bus_law_stations.specs.Turns.{with_moments, Serves}

-- the first test holds
and-both : (a b : Bool) → a ≡ true → (a && b) ≡ b
and-both a b on = rw on refl

-- the newest of its attempts ended in this tick
pub closed-now : (c : Course) (begun : Begun) (e : Ended) (tick : ℕ) → yielded_in tick (close c begun e tick).ended ≡ is_yielded e.outcome
closed-now c begun e tick = and-both (tick == tick) (is_yielded e.outcome) (eq-eqb tick tick refl)

-- it serves
pub closed-serves : (c : Course) (begun : Begun) (e : Ended) (tick : ℕ) → gives e.outcome ≡ true → Serves (close c begun e tick)
closed-serves c begun e tick given = record { serves = ap not given; idle = refl }

module _ (k : ℕ) (station : StationData) (starts : Bool) (loads : List TimedLoad) (outside : List OutsideTake) (x : Pair) (past : List Pair) (begun : Begun)
    (e : Ended) (holds : (course_after k station starts loads outside past).holds ≡ true)
    (closes : course k station starts (so_far k station starts loads outside past).takes (x ∷ past)
    ≡ close (course_after k station starts loads outside past) begun e (length past)) where
  -- the course after the tick
  abbrev after : Course
  after = close (course_after k station starts loads outside past) begun e (length past)

  -- a station in control hears the tick where it yields in it
  hold-so : (b y : Bool) (before : StationSoFar) (c d : Course) → b ≡ true → yielded_in (length past) d.ended ≡ y → d ≡ after →
      (if b then hold k station starts loads outside x past before d else serve k station starts loads outside x past before c)
      ≡ with_moments before ((if y then moment_of x after else unheard) ∷ [])
  hold-so b y before c d on is same = rw (on, is, same) refl

  -- so after it
  hears-so : so_far k station starts loads outside (x ∷ past)
      ≡ with_moments (so_far k station starts loads outside past) ((if is_yielded e.outcome then moment_of x after else unheard) ∷ [])
  unfolding so_far
  hears-so =
      let before = so_far k station starts loads outside past in
      let c = course_after k station starts loads outside past in
      let d = course_with k station starts loads outside before.takes (x ∷ past) in
      hold-so c.holds (is_yielded e.outcome) before c d holds
      (ap (λ (d : Course). yielded_in (length past) d.ended) closes ∙ closed-now c begun e (length past)) closes

  -- its course
  pub closes-so : course_after k station starts loads outside (x ∷ past) ≡ after
  closes-so = ap (λ (s : StationSoFar). course_with k station starts loads outside s.takes (x ∷ past)) hears-so ∙ closes

  -- where the offer was accepted it hears nothing of it
  pub passed-hears : e.outcome ≡ Passed →
      so_far k station starts loads outside (x ∷ past) ≡ with_moments (so_far k station starts loads outside past) (unheard ∷ [])
  passed-hears passed =
      hears-so ∙ ap (λ (o : Outcome). with_moments (so_far k station starts loads outside past) ((if is_yielded o then moment_of x after else unheard) ∷ [])) passed

  -- where it yields it hears it
  pub yielded-hears : e.outcome ≡ Yielded →
      so_far k station starts loads outside (x ∷ past) ≡ with_moments (so_far k station starts loads outside past) (moment_of x after ∷ [])
  yielded-hears yielded =
      hears-so ∙ ap (λ (o : Outcome). with_moments (so_far k station starts loads outside past) ((if is_yielded o then moment_of x after else unheard) ∷ [])) yielded

  -- and it serves
  pub gives-control : gives e.outcome ≡ true → Serves (course_after k station starts loads outside (x ∷ past))
  gives-control given = subst Serves (sym closes-so) (closed-serves (course_after k station starts loads outside past) begun e (length past) given)
