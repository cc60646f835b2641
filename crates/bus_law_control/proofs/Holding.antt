-- What is known of each station after any ticks: what ended did so before, and who holds control has heard nothing.
use Rattle.std.proofs.Common.{◌≡◌, ℕ, suc, ◌<◌, ◌≤◌, Bool, true, false, not, List, [], ◌∷◌, length, Option, Some, None, refl, sym, ap, ◌∙◌, arith}
use Rattle.std.proofs.lemmas.Bool.{true≢false, ne_eqb}
use Rattle.std.proofs.lemmas.List.Elements.{All-nil, All-cons}
use Rattle.std.specs.Prelude.{◌&&◌, ◌==◌, if◌then◌else◌}
use Rattle.std.specs.List.{All}
use Rattle.bus_base.specs.declared.samples.Pair.{Pair}
use Rattle.bus_formats.specs.Plans.{StationData}
use Rattle.bus_formats.specs.declared.form.Outcome.{Outcome}
use Rattle.bus_formats.specs.declared.form.Outcome.TheVariants.{Clear, Sent, Declined, Passed, Illegal, Busy, NoResponse, BadReply, Abandoned, Yielded}
use Rattle.bus_formats.specs.declared.log.Attempt.{Attempt}
use Rattle.bus_model.specs.Memory.{TimedLoad}
use Rattle.bus_model.specs.Attempts.{Begun, Ended}
use Rattle.bus_model.specs.Controller.{ending_now}
use Rattle.bus_model.specs.Course.{Take, Course, course, gives, begin_entry, run_by, runs_next, close_or_run, run_on, take_control, with_takes, at_first}
use Rattle.bus_model.specs.Control.{OutsideTake, StationSoFar, unheard_ticks, moment_of, hear_more, is_yielded, yielded_in, takes_in, taken_over, serve, hold, course_with, so_far, hearing_after, holds_control}
use Rattle.bus_law_stations.specs.Silence.{AreTaken}
use Rattle.bus_law_stations.specs.Turns.{Serves}
use Rattle.bus_law_stations.proofs.StillController.{not-taken}
use Rattle.bus_law_stations.proofs.StillStation.{always-taken}

-- each attempt ended before this tick
abbrev EndedBefore : ℕ → List Attempt → Type 0
EndedBefore n [] = Unit {0}
EndedBefore n (attempt ∷ attempts) = (attempt.ended.0 < n) × EndedBefore n attempts

-- so it did before a later one
before-more : (n m : ℕ) (attempts : List Attempt) → n ≤ m → EndedBefore n attempts → EndedBefore m attempts
before-more n m [] late before = tt
before-more n m (attempt ∷ attempts) late before = (omega (arith, late, before.0), before-more n m attempts late before.1)

-- as std has it
before-all : (n : ℕ) (attempts : List Attempt) → EndedBefore n attempts → All (λ (a : Attempt). a.ended.0 < n) attempts
before-all n [] before = All-nil (λ (a : Attempt). a.ended.0 < n)
before-all n (attempt ∷ attempts) before = All-cons (λ (a : Attempt). a.ended.0 < n) attempt attempts before.0 (before-all n attempts before.1)

-- none of them was yielded later
not-yielded : (n tick : ℕ) (attempts : List Attempt) → EndedBefore n attempts → n ≤ tick → yielded_in tick attempts ≡ false
not-yielded n tick [] before late = refl
not-yielded n tick (attempt ∷ attempts) before late =
    let other : (attempt.ended.0 == tick) ≡ false = ne_eqb attempt.ended.0 tick (λ e. omega (arith, e, before.0, late)) in rw other refl

-- what is known of a controller after n ticks: its attempts ended before, and without control it runs no message
record IsSound (c : Course) (n : ℕ) : Type 0 where
  pub before : EndedBefore n c.ended
  pub idle : c.holds ≡ false → c.runs ≡ None

-- a take keeps that
by-take : (b : Bool) (n first : ℕ) (c : Course) → IsSound c n → IsSound (if b then take_control first c else c) n
by-take true n first c sound = record { before = sound.before; idle = λ off. absurd (true≢false off) }
by-take false n first c sound = sound

-- so do all takes
sound-takes : (takes : List Take) (tick n : ℕ) (c : Course) → IsSound c n → IsSound (with_takes takes tick c) n
sound-takes [] tick n c sound = sound
sound-takes (take ∷ takes) tick n c sound = sound-takes takes tick n _ (by-take (take.heard == tick) n take.first c sound)

-- a message that runs next is one of a controller that holds control
next-holds : (past : List Pair) (c : Course) (n : ℕ) (begun : Begun) → IsSound c n → runs_next past c ≡ Some begun → c.holds ≡ false → ⊥
next-holds past c n begun sound some off =
    let none : runs_next past c ≡ None =
    ap (run_by past c) (sound.idle off) ∙ ap (λ (b : Bool). if b then begin_entry past c c.left else None) off in
    let bad : None ≡ Some begun = sym none ∙ some in absurd (cc)

-- a message that ends, or runs on
sound-closes : (n : ℕ) (c : Course) (begun : Begun) (o : Option Ended) → (c.holds ≡ false → ⊥) → IsSound c n → IsSound (close_or_run c begun n o) (suc n)
sound-closes n c begun None holds sound =
    record { before = before-more n (suc n) c.ended (omega arith) sound.before; idle = λ off. absurd (holds off) }
sound-closes n c begun (Some e) holds sound =
    record { before = (omega arith, before-more n (suc n) c.ended (omega arith) sound.before); idle = λ off. refl }

-- a tick of the controller
sound-runs : (k : ℕ) (x : Pair) (past : List Pair) (c : Course) (o : Option Begun) → runs_next past c ≡ o → IsSound c (length past) →
    IsSound (run_on k x past c o) (suc (length past))
sound-runs k x past c None next sound =
    record { before = before-more (length past) (suc (length past)) c.ended (omega arith) sound.before; idle = sound.idle }
sound-runs k x past c (Some begun) next sound =
    sound-closes (length past) c begun (ending_now k begun (x ∷ past)) (next-holds past c (length past) begun sound next) sound

-- so it is known of each controller after any ticks
sound : (k : ℕ) (station : StationData) (starts : Bool) (takes : List Take) (past : List Pair) → IsSound (course k station starts takes past) (length past)
unfolding course
sound k station starts takes [] = sound-takes takes 0 0 (at_first station starts) record { before = tt; idle = λ off. refl }
sound k station starts takes (x ∷ past) =
    let c = course k station starts takes past in
    sound-takes takes (suc (length past)) (suc (length past)) (run_on k x past c (runs_next past c))
    (sound-runs k x past c (runs_next past c) refl (sound k station starts takes past))

-- an attempt that ended did so before now
pub ended-before : (k : ℕ) (station : StationData) (starts : Bool) (takes : List Take) (past : List Pair) →
    All (λ (a : Attempt). a.ended.0 < length past) (course k station starts takes past).ended
ended-before k station starts takes past = before-all (length past) _ (sound k station starts takes past).before

-- so none is yielded in a tick to come
pub yielded-before : (k : ℕ) (station : StationData) (starts : Bool) (takes : List Take) (past : List Pair) (tick : ℕ) → length past ≤ tick →
    yielded_in tick (course k station starts takes past).ended ≡ false
yielded-before k station starts takes past tick late = not-yielded (length past) tick _ (sound k station starts takes past).before late

-- who doesn't hold control serves
pub serves-without : (k : ℕ) (station : StationData) (starts : Bool) (takes : List Take) (past : List Pair) →
    (course k station starts takes past).holds ≡ false → Serves (course k station starts takes past)
serves-without k station starts takes past off = record { serves = off; idle = (sound k station starts takes past).idle off }

-- ---- a tick in which control is kept isn't one in which it is yielded

-- an outcome that keeps control isn't that of a yielded offer
kept-not-yielded : (outcome : Outcome) → not (gives outcome) ≡ true → is_yielded outcome ≡ false
kept-not-yielded Clear keeps = refl
kept-not-yielded Sent keeps = refl
kept-not-yielded Declined keeps = refl
kept-not-yielded Passed keeps = refl
kept-not-yielded (Illegal part) keeps = refl
kept-not-yielded (Busy part) keeps = refl
kept-not-yielded (NoResponse part) keeps = refl
kept-not-yielded (BadReply part) keeps = refl
kept-not-yielded Abandoned keeps = refl
kept-not-yielded Yielded keeps = absurd (true≢false (sym keeps))

-- the second test fails
and-off : (a b : Bool) → b ≡ false → (a && b) ≡ false
and-off true b off = off
and-off false b off = refl

-- a message that ends, or runs on
closes-kept : (n : ℕ) (c : Course) (begun : Begun) (o : Option Ended) → IsSound c n → (close_or_run c begun n o).holds ≡ true →
    yielded_in n (close_or_run c begun n o).ended ≡ false
closes-kept n c begun None sound keeps = not-yielded n n c.ended sound.before (omega arith)
closes-kept n c begun (Some e) sound keeps = and-off (n == n) (is_yielded e.outcome) (kept-not-yielded e.outcome keeps)

-- a tick of the controller
runs-kept : (k : ℕ) (x : Pair) (past : List Pair) (c : Course) (o : Option Begun) → IsSound c (length past) → (run_on k x past c o).holds ≡ true →
    yielded_in (length past) (run_on k x past c o).ended ≡ false
runs-kept k x past c None sound keeps = not-yielded (length past) (length past) c.ended sound.before (omega arith)
runs-kept k x past c (Some begun) sound keeps = closes-kept (length past) c begun (ending_now k begun (x ∷ past)) sound keeps

-- a tick more, in which no control is taken
one-tick : (k : ℕ) (station : StationData) (starts : Bool) (takes : List Take) (x : Pair) (past : List Pair) → AreTaken (length past) takes →
    course k station starts takes (x ∷ past)
    ≡ run_on k x past (course k station starts takes past) (runs_next past (course k station starts takes past))
unfolding course
one-tick k station starts takes x past taken = not-taken (length past) (suc (length past)) takes _ taken (omega arith)

-- so control that is held after it wasn't yielded in it
pub kept-tick : (k : ℕ) (station : StationData) (starts : Bool) (takes : List Take) (x : Pair) (past : List Pair) → AreTaken (length past) takes →
    (course k station starts takes (x ∷ past)).holds ≡ true → yielded_in (length past) (course k station starts takes (x ∷ past)).ended ≡ false
kept-tick k station starts takes x past taken keeps =
    let c = course k station starts takes past in
    let same = one-tick k station starts takes x past taken in
    ap (λ (d : Course). yielded_in (length past) d.ended) same
    ∙ runs-kept k x past c (runs_next past c) (sound k station starts takes past) (ap (λ (d : Course). d.holds) (sym same) ∙ keeps)

-- a controller without control stays as it is
pub serving-tick : (k : ℕ) (station : StationData) (starts : Bool) (takes : List Take) (x : Pair) (past : List Pair) → AreTaken (length past) takes →
    (course k station starts takes past).holds ≡ false → course k station starts takes (x ∷ past) ≡ course k station starts takes past
serving-tick k station starts takes x past taken off =
    let c = course k station starts takes past in
    one-tick k station starts takes x past taken
    ∙ ap (run_on k x past c) (ap (run_by past c) ((sound k station starts takes past).idle off)
    ∙ ap (λ (b : Bool). if b then begin_entry past c c.left else None) off)

-- ---- a station that holds control has heard nothing

module _ (k : ℕ) (station : StationData) (starts : Bool) (loads : List TimedLoad) (outside : List OutsideTake) where
  -- a station that takes control has heard nothing
  over-nothing : (x : Pair) (past : List Pair) (before : StationSoFar) (m : Course) (takes : List Take) → AreTaken (length past) before.takes →
      (course_with k station starts loads outside before.takes past).holds ≡ false →
      (course_with k station starts loads outside
      (taken_over k station starts loads outside (x ∷ past) before (hear_more before.hearing (moment_of x m)) takes).takes (x ∷ past)).holds ≡ true →
      (taken_over k station starts loads outside (x ∷ past) before (hear_more before.hearing (moment_of x m)) takes).hearing.ticks ≡ unheard_ticks (x ∷ past)
  over-nothing x past before m [] taken off holds =
      absurd (true≢false (sym holds ∙ ap (λ (c : Course). c.holds) (serving-tick k station starts before.takes x past taken off) ∙ off))
  over-nothing x past before m (take ∷ takes) taken off holds = refl

  -- one that keeps it hears nothing more
  hold-nothing : (x : Pair) (past : List Pair) (before : StationSoFar) (d : Course) (y : Bool) → before.hearing.ticks ≡ unheard_ticks past →
      yielded_in (length past) d.ended ≡ y → y ≡ false → (hold k station starts loads outside x past before d).hearing.ticks ≡ unheard_ticks (x ∷ past)
  hold-nothing x past before d y nothing is off = rw (is, off, nothing) refl

  -- so with each tick
  tick-nothing : (b : Bool) (x : Pair) (past : List Pair) (before : StationSoFar) → AreTaken (length past) before.takes →
      (course_with k station starts loads outside before.takes past).holds ≡ b →
      ((course_with k station starts loads outside before.takes past).holds ≡ true → before.hearing.ticks ≡ unheard_ticks past) →
      let after : StationSoFar = if b then hold k station starts loads outside x past before (course_with k station starts loads outside before.takes (x ∷ past))
      else serve k station starts loads outside x past before (course_with k station starts loads outside before.takes past) in
      (course_with k station starts loads outside after.takes (x ∷ past)).holds ≡ true → after.hearing.ticks ≡ unheard_ticks (x ∷ past)
  tick-nothing true x past before taken on nothing holds =
      hold-nothing x past before (course_with k station starts loads outside before.takes (x ∷ past)) false (nothing on)
      (kept-tick k station starts before.takes x past taken holds) refl
  tick-nothing false x past before taken on nothing holds =
      let c = course_with k station starts loads outside before.takes past in
      over-nothing x past before c (takes_in k station starts loads outside (length past) (hear_more before.hearing (moment_of x c))) taken on holds

  -- so after any ticks
  pub heard-nothing : (past : List Pair) → holds_control k station starts loads outside past ≡ true →
      (hearing_after k station starts loads outside past).ticks ≡ unheard_ticks past
  unfolding so_far
  heard-nothing [] holds = refl
  heard-nothing (x ∷ past) holds =
      let before = so_far k station starts loads outside past in
      tick-nothing (course_with k station starts loads outside before.takes past).holds x past before (always-taken k station starts loads outside past) refl
      (heard-nothing past) holds
