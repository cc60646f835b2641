-- Which attempt is told of a tick, and whether control was yielded in it.
use Rattle.std.proofs.Common.{◌≡◌, ℕ, ◌==◌, Bool, true, false, List, [], ◌∷◌, length, Option, Some, None, refl, sym, ap, ◌∙◌, arith}
use Rattle.std.proofs.lemmas.Bool.Decides.{nat_tests}
use Rattle.bus_base.specs.declared.samples.Pair.{Pair}
use Rattle.bus_formats.specs.Plans.{StationData}
use Rattle.bus_formats.specs.declared.log.Attempt.{Attempt}
use Rattle.bus_retry.specs.Retries.{next_of}
use Rattle.bus_model.specs.Starts.{finishes}
use Rattle.bus_model.specs.Attempts.{Begun, Ended}
use Rattle.bus_model.specs.Controller.{ending_now}
use Rattle.bus_model.specs.Course.{Take, Course, course, attempt_of, close_or_run, run_on, runs_next}
use Rattle.bus_model.specs.Control.{is_yielded, yielded_in}
use Rattle.bus_controller.specs.ControllerStands.{NoneLater}
use Rattle.bus_controller.proofs.Wholes.{course-more}
use Rattle.bus_station.specs.Told.{ended_in}
use Rattle.bus_station.proofs.Courses.{Before, ended-before, yielded-gives}

-- of attempts that ended before this tick none is told
pub none-told : (address tick : ℕ) (attempts : List Attempt) → Before tick attempts → ended_in address tick attempts ≡ []
none-told address tick [] h = refl
none-told address tick (a ∷ attempts) h = (let no : (a.ended.0 == tick) ≡ false = grind (arith, nat_tests, h) in rw no refl)

-- nor was control yielded in it
pub none-yielded : (tick : ℕ) (attempts : List Attempt) → Before tick attempts → yielded_in tick attempts ≡ false
none-yielded tick [] h = refl
none-yielded tick (a ∷ attempts) h = (let no : (a.ended.0 == tick) ≡ false = grind (arith, nat_tests, h) in rw no refl)

-- one that ended in it is told, with its station
pub one-told : (address tick : ℕ) (a : Attempt) (attempts : List Attempt) → a.ended.0 ≡ tick →
    ended_in address tick (a ∷ attempts) ≡ record a { station = address } ∷ []
one-told address tick a attempts h = (let here : (a.ended.0 == tick) ≡ true = grind (arith, nat_tests, h) in rw here refl)

-- and says whether control was yielded
pub one-yielded : (tick : ℕ) (a : Attempt) (attempts : List Attempt) → a.ended.0 ≡ tick → yielded_in tick (a ∷ attempts) ≡ is_yielded a.outcome
one-yielded tick a attempts h = (let here : (a.ended.0 == tick) ≡ true = grind (arith, nat_tests, h) in rw here refl)

-- control that was yielded in a tick isn't held after it
yields-of : (c : Course) (begun : Begun) (tick : ℕ) (e : Option Ended) → Before tick c.ended → yielded_in tick (close_or_run c begun tick e).ended ≡ true →
    (close_or_run c begun tick e).holds ≡ false
yields-of c begun tick None before y = (let no = none-yielded tick c.ended before in cc)
yields-of c begun tick (Some e) before y =
    let a : Attempt = attempt_of begun e tick (finishes (next_of begun.entry.item begun.state e.outcome)) in
    yielded-gives e.outcome (sym (one-yielded tick a c.ended refl) ∙ y)

-- whatever runs
yields-by : (k : ℕ) (x : Pair) (past : List Pair) (c : Course) (b : Option Begun) → Before (length past) c.ended →
    yielded_in (length past) (run_on k x past c b).ended ≡ true →
    (run_on k x past c b).holds ≡ false
yields-by k x past c None before y = (let no = none-yielded (length past) c.ended before in cc)
yields-by k x past c (Some begun) before y = yields-of c begun (length past) (ending_now k begun (x ∷ past)) before y

-- after a tick in which a message ended Yielded control is not held
pub yields-off : (k : ℕ) (station : StationData) (starts : Bool) (takes : List Take) (x : Pair) (past : List Pair) → NoneLater (length past) takes →
    yielded_in (length past) (course k station starts takes (x ∷ past)).ended ≡ true → (course k station starts takes (x ∷ past)).holds ≡ false
yields-off k station starts takes x past later y =
    let c : Course = course k station starts takes past in
    let more = course-more k station starts takes x past later in
    ap (λ (d : Course). d.holds) more
    ∙ yields-by k x past c (runs_next past c) (ended-before k station starts takes past) (ap (λ (d : Course). yielded_in (length past) d.ended) (sym more) ∙ y)
