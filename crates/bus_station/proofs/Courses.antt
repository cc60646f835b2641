-- A controller's course, one tick longer: what it tells of the tick, and whether control was given in it.
use Rattle.std.proofs.Common.{◌≡◌, ℕ, suc, ◌<◌, Bool, true, false, not, ◌==◌, List, [], ◌∷◌, length, Option, Some, None, refl, sym, ap, ◌∙◌, subst, arith, if◌then◌else◌}
use Rattle.std.specs.Prelude.{⊤}
use Rattle.bus_base.specs.declared.samples.Channel.{Channel}
use Rattle.bus_base.specs.declared.samples.Pair.{Pair}
use Rattle.bus_formats.specs.Plans.{StationData}
use Rattle.bus_formats.specs.declared.form.Outcome.{Outcome}
use Rattle.bus_formats.specs.declared.form.Outcome.TheVariants.{Clear, Sent, Declined, Passed, Illegal, Busy, NoResponse, BadReply, Abandoned, Yielded}
use Rattle.bus_formats.specs.declared.log.Attempt.{Attempt}
use Rattle.bus_retry.specs.Retries.{next_of}
use Rattle.bus_model.specs.Starts.{opening_after, finishes}
use Rattle.bus_model.specs.Attempts.{Begun, Ended}
use Rattle.bus_model.specs.Controller.{ending_now}
use Rattle.bus_model.specs.Course.{Take, Course, course, gives, attempt_of, close_or_run, run_on, runs_next, with_takes, take_control, at_first}
use Rattle.bus_model.specs.Control.{is_yielded, taking_from}
use Rattle.bus_controller.specs.ControllerStands.{NoneLater}
use Rattle.bus_controller.proofs.Wholes.{course-more}

-- ---- a tick

-- no attempt ended
pub record IsCalm (c d : Course) : Type 0 where
  pub opening : d.opening ≡ c.opening
  pub holds : d.holds ≡ c.holds

-- this attempt ended in this tick
pub record HasEnded (a : Attempt) (tick : ℕ) (d : Course) : Type 0 where
  pub at : a.ended.0 ≡ tick
  pub opens : (n : ℕ) → taking_from n d.opening ≡ None
  pub gave : is_yielded a.outcome ≡ true → d.holds ≡ false

-- a list is no longer than itself with one more
longer : {A : Type 0} (x : A) (xs : List A) → (x ∷ xs) ≡ xs → ⊥
longer x xs e = let long : suc (length xs) ≡ length xs = ap length e in omega (arith, long)

-- after an ending control isn't being taken
usual-opens : (outcome : Outcome) (channel : Channel) (tick n : ℕ) → taking_from n (opening_after outcome channel tick) ≡ None
usual-opens Clear channel tick n = refl
usual-opens Sent channel tick n = refl
usual-opens Declined channel tick n = refl
usual-opens Passed channel tick n = refl
usual-opens (Illegal part) channel tick n = refl
usual-opens (Busy part) channel tick n = refl
usual-opens (NoResponse part) channel tick n = refl
usual-opens (BadReply part) channel tick n = refl
usual-opens Abandoned channel tick n = refl
usual-opens Yielded channel tick n = refl

-- a message that ended Yielded gave control
pub yielded-gives : (outcome : Outcome) → is_yielded outcome ≡ true → not (gives outcome) ≡ false
yielded-gives Yielded h = refl
yielded-gives Clear h = absurd (cc)
yielded-gives Sent h = absurd (cc)
yielded-gives Declined h = absurd (cc)
yielded-gives Passed h = absurd (cc)
yielded-gives (Illegal part) h = absurd (cc)
yielded-gives (Busy part) h = absurd (cc)
yielded-gives (NoResponse part) h = absurd (cc)
yielded-gives (BadReply part) h = absurd (cc)
yielded-gives Abandoned h = absurd (cc)

-- where the list of attempts is as it was, none ended
calm-of : (c : Course) (begun : Begun) (tick : ℕ) (e : Option Ended) → (close_or_run c begun tick e).ended ≡ c.ended → IsCalm c (close_or_run c begun tick e)
calm-of c begun tick None same = record { opening = refl; holds = refl }
calm-of c begun tick (Some e) same =
    absurd (longer (attempt_of begun e tick (finishes (next_of begun.entry.item begun.state e.outcome))) c.ended same)

-- whatever runs
calm-by : (k : ℕ) (x : Pair) (past : List Pair) (c : Course) (b : Option Begun) → (run_on k x past c b).ended ≡ c.ended → IsCalm c (run_on k x past c b)
calm-by k x past c None same = record { opening = refl; holds = refl }
calm-by k x past c (Some begun) same = calm-of c begun (length past) (ending_now k begun (x ∷ past)) same

-- where it has one attempt more, that one ended
ended-of : (c : Course) (begun : Begun) (tick : ℕ) (e : Option Ended) (a : Attempt) → (close_or_run c begun tick e).ended ≡ a ∷ c.ended →
    HasEnded a tick (close_or_run c begun tick e)
ended-of c begun tick None a is = absurd (longer a c.ended (sym is))
ended-of c begun tick (Some e) a is =
    let here : attempt_of begun e tick (finishes (next_of begun.entry.item begun.state e.outcome)) ≡ a = cc in
    record {
      at = ap (λ (x : Attempt). x.ended.0) (sym here);
      opens = λ n. usual-opens e.outcome begun.state.channel tick n;
      gave = λ y. yielded-gives e.outcome (ap (λ (x : Attempt). is_yielded x.outcome) here ∙ y);
    }

-- whatever runs
ended-by : (k : ℕ) (x : Pair) (past : List Pair) (c : Course) (b : Option Begun) (a : Attempt) → (run_on k x past c b).ended ≡ a ∷ c.ended →
    HasEnded a (length past) (run_on k x past c b)
ended-by k x past c None a is = absurd (longer a c.ended (sym is))
ended-by k x past c (Some begun) a is = ended-of c begun (length past) (ending_now k begun (x ∷ past)) a is

-- ---- takes

-- what takes leave as it is
pub record IsKept (c d : Course) : Type 0 where
  pub ended : d.ended ≡ c.ended
  pub runs : d.runs ≡ c.runs
  pub left : d.left ≡ c.left
  pub holds : d.holds ≡ false → c.holds ≡ false

-- a take keeps these
kept-if : (b : Bool) (first : ℕ) (c : Course) → IsKept c (if b then take_control first c else c)
kept-if true first c = record { ended = refl; runs = refl; left = refl; holds = λ h. absurd (cc) }
kept-if false first c = record { ended = refl; runs = refl; left = refl; holds = λ h. h }

-- takes keep these
with-takes : (takes : List Take) (n : ℕ) (c : Course) → IsKept c (with_takes takes n c)
with-takes [] n c = record { ended = refl; runs = refl; left = refl; holds = λ h. h }
with-takes (take ∷ takes) n c =
    let one = kept-if (take.heard == n) take.first c in
    let more = with-takes takes n (if take.heard == n then take_control take.first c else c) in
    record { ended = more.ended ∙ one.ended; runs = more.runs ∙ one.runs; left = more.left ∙ one.left; holds = λ h. one.holds (more.holds h) }

-- ---- a course

-- the newest attempt ended before this tick
abbrev pub Before : ℕ → List Attempt → Type 0
Before tick [] = ⊤
Before tick (a ∷ attempts) = a.ended.0 < tick

-- so it did before the next tick
before-more : (tick : ℕ) (attempts : List Attempt) → Before tick attempts → Before (suc tick) attempts
before-more tick [] h = h
before-more tick (a ∷ attempts) h = omega (arith, h)

-- an attempt that ends in this tick ended before the next
before-of : (c : Course) (begun : Begun) (tick : ℕ) (e : Option Ended) → Before tick c.ended → Before (suc tick) (close_or_run c begun tick e).ended
before-of c begun tick None h = before-more tick c.ended h
before-of c begun tick (Some e) h = omega arith

-- whatever runs
before-by : (k : ℕ) (x : Pair) (past : List Pair) (c : Course) (b : Option Begun) → Before (length past) c.ended →
    Before (suc (length past)) (run_on k x past c b).ended
before-by k x past c None h = before-more (length past) c.ended h
before-by k x past c (Some begun) h = before-of c begun (length past) (ending_now k begun (x ∷ past)) h

-- each attempt ended in a tick that was heard
pub ended-before : (k : ℕ) (station : StationData) (starts : Bool) (takes : List Take) (past : List Pair) →
    Before (length past) (course k station starts takes past).ended
unfolding course
ended-before k station starts takes [] = subst (λ (xs : List Attempt). Before 0 xs) (sym (with-takes takes 0 (at_first station starts)).ended) tt
ended-before k station starts takes (x ∷ past) =
    let c : Course = course k station starts takes past in
    subst (λ (xs : List Attempt). Before (suc (length past)) xs) (sym (with-takes takes (suc (length past)) (run_on k x past c (runs_next past c))).ended)
    (before-by k x past c (runs_next past c) (ended-before k station starts takes past))

-- no attempt runs without control
idle-of : (c : Course) (begun : Begun) (tick : ℕ) (e : Option Ended) → c.holds ≡ true → (close_or_run c begun tick e).holds ≡ false →
    (close_or_run c begun tick e).runs ≡ None
idle-of c begun tick None on off = absurd (cc)
idle-of c begun tick (Some e) on off = refl

-- a controller without control begins nothing
next-by : (past : List Pair) (c : Course) (b : Option Begun) (h : Bool) → c.holds ≡ h → c.runs ≡ b → (h ≡ false → b ≡ None) → h ≡ false →
    runs_next past c ≡ None
next-by past c None false off is none e = rw (is, off) refl
next-by past c (Some begun) false off is none e = absurd (let no = none refl in cc)
next-by past c b true off is none e = absurd (cc)

-- so none runs next
pub serves-on : (past : List Pair) (c : Course) → (c.holds ≡ false → c.runs ≡ None) → c.holds ≡ false → runs_next past c ≡ None
serves-on past c idle off = next-by past c c.runs c.holds refl refl idle off

-- one tick more
idle-step : (k : ℕ) (x : Pair) (past : List Pair) (c : Course) (h : Bool) (b : Option Begun) → (c.holds ≡ false → c.runs ≡ None) → c.holds ≡ h →
    runs_next past c ≡ b →
    (run_on k x past c b).holds ≡ false → (run_on k x past c b).runs ≡ None
idle-step k x past c h None idle is next off = idle off
idle-step k x past c true (Some begun) idle is next off = idle-of c begun (length past) (ending_now k begun (x ∷ past)) is off
idle-step k x past c false (Some begun) idle is next off = absurd (let no = serves-on past c idle is in cc)

-- a controller without control has no attempt that runs
pub idle : (k : ℕ) (station : StationData) (starts : Bool) (takes : List Take) (past : List Pair) → (course k station starts takes past).holds ≡ false →
    (course k station starts takes past).runs ≡ None
unfolding course
idle k station starts takes [] off = (with-takes takes 0 (at_first station starts)).runs
idle k station starts takes (x ∷ past) off =
    let c : Course = course k station starts takes past in
    let d : Course = run_on k x past c (runs_next past c) in
    let kept = with-takes takes (suc (length past)) d in
    kept.runs ∙ idle-step k x past c c.holds (runs_next past c) (λ h. idle k station starts takes past h) refl refl (kept.holds off)

-- a station that serves goes on as it was
pub serves-more : (k : ℕ) (station : StationData) (starts : Bool) (takes : List Take) (x : Pair) (past : List Pair) → NoneLater (length past) takes →
    (course k station starts takes past).holds ≡ false → course k station starts takes (x ∷ past) ≡ course k station starts takes past
serves-more k station starts takes x past later off =
    let c : Course = course k station starts takes past in
    course-more k station starts takes x past later
    ∙ ap (run_on k x past c) (serves-on past c (λ h. idle k station starts takes past h) off)

-- ---- what a tick tells

module _ (k : ℕ) (station : StationData) (starts : Bool) (takes : List Take) (x : Pair) (past : List Pair) (later : NoneLater (length past) takes) where
  -- no attempt is told where none ended
  pub is-calm : (course k station starts takes (x ∷ past)).ended ≡ (course k station starts takes past).ended →
      IsCalm (course k station starts takes past) (course k station starts takes (x ∷ past))
  is-calm same =
      let c : Course = course k station starts takes past in
      let more = course-more k station starts takes x past later in
      subst (λ (d : Course). IsCalm c d) (sym more) (calm-by k x past c (runs_next past c) (ap (λ (d : Course). d.ended) (sym more) ∙ same))

  -- an attempt that is told ended in this tick
  pub has-ended : (a : Attempt) → (course k station starts takes (x ∷ past)).ended ≡ a ∷ (course k station starts takes past).ended →
      HasEnded a (length past) (course k station starts takes (x ∷ past))
  has-ended a is =
      let c : Course = course k station starts takes past in
      let more = course-more k station starts takes x past later in
      subst (λ (d : Course). HasEnded a (length past) d) (sym more) (ended-by k x past c (runs_next past c) a (ap (λ (d : Course). d.ended) (sym more) ∙ is))
